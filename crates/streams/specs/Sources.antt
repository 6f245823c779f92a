-- Where bytes are read again.
use Rattle.streams.specs.declared.source.Source.{Source}
use Rattle.streams.specs.declared.source.Source.TheVariants.{Input, Apart}

-- where standard input itself is read again
abbrev pub IsInput : Source → Type 0
IsInput (Input _) = Unit {0}
IsInput (Apart _) = ⊥
