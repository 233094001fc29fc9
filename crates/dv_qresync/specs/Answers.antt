-- What a client with an older state of a mailbox hears, so that it need not be told all (RFC 7162, section 3.2.5).
use Rattle.std.specs.Prelude.{ℕ, ◌-◌, ◌%◌, Bool, true, not, ◌&&◌, ◌||◌, List, [], ◌∷◌, ◌++◌, map, filter, Option, None, Some, nat_eq, nat_lt, if◌then◌else◌}
use Rattle.std.specs.List.{enumerate_from, list_any, range_with_len}
use Rattle.dv_model.specs.declared.types.Mailbox.{Mailbox}
use Rattle.dv_model.specs.declared.types.Pair.{Pair}
use Rattle.dv_model.specs.declared.types.Row.{Row}
use Rattle.dv_model.specs.declared.types.Span.{Span}
use Rattle.dv_model.specs.Mailboxes.{last_modseq}
use Rattle.dv_model.specs.Sessions.{ranges_of}
use Rattle.dv_model.specs.Sets.{is_in_set}
use Rattle.dv_model.specs.Views.{names_of}
use Rattle.dv_qresync.specs.declared.types.Answer.{Answer}
use Rattle.dv_qresync.specs.declared.types.Answer.TheVariants.{Stale, Vanished, Highest, Fetch}
use Rattle.dv_qresync.specs.declared.types.Old.{Old}

-- ---- which messages are gone

-- no row has the UID
abbrev pub is_no_row : Mailbox → ℕ → Bool
is_no_row m uid = not (list_any (λ row. nat_eq row.uid uid) m.rows)

-- the client knows the UID, and no row has it any more; `*` is the last UID below the UIDNEXT
abbrev pub is_gone : Mailbox → List Span → ℕ → Bool
is_gone m known uid = is_in_set (m.next_uid - 1) known uid && is_no_row m uid

-- the UIDs from 1 on below the UIDNEXT: of others there was no message, and a set of `*` alone has none where there was none
abbrev pub given_uids : Mailbox → List ℕ
given_uids m = range_with_len 1 (m.next_uid - 1)

-- those that are gone, in as few ranges as there can be
abbrev pub gone_ranges : Mailbox → List Span → List Pair
gone_ranges m known = ranges_of (filter (is_gone m known) (given_uids m))

-- nothing is said where none is gone
abbrev pub vanished : List Pair → List Answer
vanished [] = []
vanished (pair ∷ pairs) = Vanished (pair ∷ pairs) ∷ []

-- ---- what the others are like

-- a row beside its message number: the five system flags, the names of its keywords and its last change
abbrev pub fetch_of : Mailbox → ℕ × Row → Answer
fetch_of m row = Fetch row.0 row.1.uid (row.1.flags % 32) (names_of m row.1.keywords) row.1.modseq

-- all are told, or those that were changed behind a modification sequence; where these numbers have come to their end they
-- tell no change from another
abbrev pub is_told : Mailbox → Option ℕ → Row → Bool
is_told m None row = true
is_told m (Some since) row = nat_lt since row.modseq || nat_eq m.highest last_modseq

-- one FETCH for each row that is told, by rising number
abbrev pub fetches : Mailbox → Option ℕ → List Answer
fetches m since = map (fetch_of m) (filter (λ row. is_told m since row.1) (enumerate_from 1 m.rows))

-- ---- the answers

-- Under another UIDVALIDITY the client begins anew; else it hears what is gone and what was changed. Last comes the number up
-- to which it is told.
abbrev pub resynced : Mailbox → Old → List Answer
resynced m old =
    if nat_eq m.uid_validity old.uid_validity
    then vanished (gone_ranges m old.uids) ++ (fetches m (Some old.modseq) ++ Highest m.highest ∷ [])
    else Stale m.uid_validity ∷ (fetches m None ++ Highest m.highest ∷ [])
