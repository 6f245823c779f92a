pub mod Laws
pub mod Places
pub mod CallSizes
pub mod Front
pub mod RoundTrip
pub mod Each
