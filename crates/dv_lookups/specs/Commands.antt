-- What a command asks of many messages.
use Rattle.std.specs.Prelude.{◌≡◌, ℕ, ◌&&◌, Bool, true, not, List, [], count_by, if◌then◌else◌, ⊤}
use Rattle.dv_model.specs.declared.types.Command.{Command}
use Rattle.dv_model.specs.declared.types.Mailbox.{Mailbox}
use Rattle.dv_model.specs.Sessions.{has_uid, reads_mail, uids_looked_at}
use Rattle.dv_model.specs.Views.{View}
use Rattle.dv_shelf.specs.Folders.{Folder}
use Rattle.dv_responses.specs.Asked.{Asks}
use Rattle.dv_responses.specs.declared.asking.Asked.{Asked}
use Rattle.dv_lookups.specs.declared.found.FactsFound.{FactsFound}
use Rattle.dv_lookups.specs.declared.found.FactsFound.TheVariants as facts
use Rattle.dv_lookups.specs.Kept.{CountsUpTo, IsSpared, can_stand}

-- ---- facts

-- facts are of this UID
abbrev pub IsNamed : ℕ → FactsFound → Type 0
IsNamed uid (facts.Known known) = known.uid ≡ uid
IsNamed uid other = ⊤

-- ---- reads

-- the UIDs of the rows whose messages a command reads
abbrev pub uids_read : Command → View → List ℕ
uids_read c view = if reads_mail c then uids_looked_at c view else []

-- whether all that is asked can stand in the cache file
abbrev pub AskedStands : Asked → Bool → Type 0
AskedStands asked can = can_stand asked ≡ can

-- whether all that a command asks of a message can
abbrev pub CommandStands : Command → Bool → Type 0
CommandStands c can = (asked : Asked) → Asks c asked → AskedStands asked can

-- for each UID that the mailbox has one message file at most is read, but for these
abbrev pub ReadsBut : (ℕ → Bool) → Mailbox → List ℕ → ℕ → ℕ → Type 0
ReadsBut spared m uids before now =
    CountsUpTo (count_by (λ uid. not (spared uid) && has_uid m uid) uids) before now

-- and none of a row that is found in the cache file
abbrev pub SparesEach : Folder → ℕ → Mailbox → List ℕ → ℕ → ℕ → Type 0
SparesEach folder indexid m uids before now =
    (spared : ℕ → Bool) → ((uid : ℕ) → spared uid ≡ true → IsSpared folder indexid m uid)
    → ReadsBut spared m uids before now
