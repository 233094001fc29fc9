-- What a client's copy of a mailbox is, and what it makes of what it hears (RFC 7162, section 3.2.5).
use Rattle.std.specs.Prelude.{◌%◌, not, List, [], ◌∷◌, map, filter, fold, nat_eq, nat_lt, if◌then◌else◌}
use Rattle.dv_model.specs.declared.types.End.TheVariants.{Number}
use Rattle.dv_model.specs.declared.types.Mailbox.{Mailbox}
use Rattle.dv_model.specs.declared.types.Pair.{Pair}
use Rattle.dv_model.specs.declared.types.Row.{Row}
use Rattle.dv_model.specs.declared.types.Span.{Span}
use Rattle.dv_model.specs.Effects.{is_in_pairs}
use Rattle.dv_model.specs.Sessions.{ranges_of}
use Rattle.dv_model.specs.Views.{names_of}
use Rattle.dv_qresync.specs.declared.types.Answer.{Answer}
use Rattle.dv_qresync.specs.declared.types.Answer.TheVariants.{Stale, Vanished, Highest, Fetch}
use Rattle.dv_qresync.specs.declared.types.Cached.{Cached}
use Rattle.dv_qresync.specs.declared.types.Old.{Old}
use Rattle.dv_qresync.specs.declared.types.Replica.{Replica}

-- ---- a copy of a mailbox

-- a row as a replica has it
abbrev pub cached : Mailbox → Row → Cached
cached m row = record { uid = row.uid; flags = row.flags % 32; keywords = names_of m row.keywords; modseq = row.modseq }

-- the replica of a mailbox
abbrev pub replica_of : Mailbox → Replica
replica_of m = record { uid_validity = m.uid_validity; highest = m.highest; rows = map (cached m) m.rows }

-- ---- what it hears

-- a row is put in the place of the one that has its UID, or in front of those with higher UIDs
abbrev pub with_cached : Cached → List Cached → List Cached
with_cached row [] = row ∷ []
with_cached row (c ∷ cs) =
    if nat_lt row.uid c.uid then row ∷ c ∷ cs
    else (if nat_eq row.uid c.uid then row ∷ cs else c ∷ with_cached row cs)

-- Stale empties it and gives the UIDVALIDITY, Vanished removes rows, a FETCH sets a row or adds one, and Highest gives the number
abbrev pub heard : Replica → Answer → Replica
heard r (Stale validity) = record { uid_validity = validity; highest = r.highest; rows = [] }
heard r (Vanished pairs) = record r { rows = filter (λ row. not (is_in_pairs pairs row.uid)) r.rows }
heard r (Highest n) = record r { highest = n }
heard r (Fetch number uid flags keywords modseq) = record r { rows = with_cached (record { uid = uid; flags = flags; keywords = keywords; modseq = modseq }) r.rows }

-- answers in turn
abbrev pub caught_up : Replica → List Answer → Replica
caught_up r answers = fold heard r answers

-- ---- what it knows

-- a range of UIDs as one of a set
abbrev pub span_of : Pair → Span
span_of pair = record { from = Number pair.first; to = Number pair.last }

-- what it can say of its state: its numbers, and its UIDs in as few ranges as there can be
abbrev pub old_of : Replica → Old
old_of r = record { uid_validity = r.uid_validity; modseq = r.highest; uids = map span_of (ranges_of (map (λ row. row.uid) r.rows)) }
