-- Entries whose numbers fit their fields.
use Rattle.std.specs.Prelude.{◌∷◌}
use Rattle.entries.specs.RoundTrip.{EntryFits}
use Rattle.record.specs.Types.{List, [], RecordEntry}

unfoldable pub EntriesFit : List RecordEntry → Type 0
EntriesFit [] = Unit {0}
EntriesFit (e ∷ es) = EntryFits e × EntriesFit es
