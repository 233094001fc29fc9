-- What contracts see of a journal.
use Rattle.dv_shared.specs.declared.journal.Journal.{Journal}
use Rattle.dv_shared.specs.Kept.{Kept}

-- its parts
abbrev pub kept_of : {S C K : Type 0} → Journal S C K → Kept S C
kept_of j = record { store = j.store; feed = j.feed; count = j.count; tries = j.tries }
