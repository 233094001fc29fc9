-- What a shelf that stops shows.
use Rattle.std.specs.Prelude.{◌⊎◌, ℕ, Option, Some, None}
use Rattle.std.specs.declared.snapshot.Snapshot.{Snapshot}
use Rattle.dv_shelf.specs.Folders.{Folder}
use Rattle.dv_shelf.specs.Sees.{SeesFolder}
use Rattle.dv_stopping.specs.declared.stopping.Stopping.{Stopping}

-- what a crash may leave of the inner shelf now, or might have left since this other one's moment
abbrev pub left_at_stop : {S : Type 0} → SeesFolder S → S → S → Folder → Type 0
left_at_stop sees before inner c =
    sees.may_leave inner c ⊎ sees.left_since inner (sees.moment before) c

-- what a crash may leave, with the inner shelf as it was before the call that stopped, if one has
abbrev pub left_by : {S : Type 0} → SeesFolder S → Option (Snapshot S) → S → Folder → Type 0
left_by sees None inner c = sees.may_leave inner c
left_by sees (Some before) inner c =
    sees.may_leave before.value c ⊎ left_at_stop sees before.value inner c

-- the moment: behind the stop it is that of the call that stopped
abbrev pub moment_by : {S : Type 0} → SeesFolder S → Option (Snapshot S) → S → ℕ
moment_by sees None inner = sees.moment inner
moment_by sees (Some before) inner = sees.moment before.value

-- what a crash since a moment might have left
abbrev pub since_by : {S : Type 0} → SeesFolder S → Option (Snapshot S) → S → ℕ → Folder → Type 0
since_by sees None inner t c = sees.left_since inner t c
since_by sees (Some before) inner t c =
    sees.left_since before.value t c ⊎ left_at_stop sees before.value inner c

-- the same of a shelf that stops
abbrev pub leavings : {S : Type 0} → SeesFolder S → Stopping S → Folder → Type 0
leavings sees shelf = left_by sees shelf.stop shelf.inner

abbrev pub moment_of : {S : Type 0} → SeesFolder S → Stopping S → ℕ
moment_of sees shelf = moment_by sees shelf.stop shelf.inner

abbrev pub leavings_since : {S : Type 0} → SeesFolder S → Stopping S → ℕ → Folder → Type 0
leavings_since sees shelf = since_by sees shelf.stop shelf.inner

-- What it shows, by what the inner shelf does: the files are the inner shelf's. Where it has
-- stopped, it may leave what the inner shelf might have left before the call that stopped, or at
-- some moment since.
abbrev pub sees_stopping : {S : Type 0} → SeesFolder S → SeesFolder (Stopping S)
sees_stopping sees = record {
  tells = sees.tells;
  files = λ shelf. sees.files shelf.inner;
  may_leave = leavings sees;
  moment = moment_of sees;
  left_since = leavings_since sees;
  fault_count = λ shelf. shelf.faults;
  mail_reads = λ shelf. shelf.mail_reads;
}
