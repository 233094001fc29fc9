-- What a shelf in memory holds.
use Rattle.std.specs.Prelude.{◌≡◌, ◌-◌, not, Result, is_ok, is_err, ℕ, ◌+◌, Bool, false, ◌&&◌, nat_le, cond, List, [], ◌∷◌, ◌++◌, length, Option}
use Rattle.dv_shelf.specs.declared.shelf.Name.{Name}
use Rattle.dv_shelf.specs.declared.record.Deed.{Deed}
use Rattle.dv_shelf.specs.declared.record.Outcome.{Outcome}
use Rattle.dv_shelf.specs.declared.mem_shelf.MemShelf.{MemShelf}
use Rattle.dv_shelf.specs.Folders.{Folder}
use Rattle.dv_shelf.specs.Sees.{SeesFolder}
use Rattle.dv_shelf.specs.Failures.{turn_of, after_answer, untried}
use Rattle.dv_shelf.specs.Outcomes.{passes, is_reached, outcome_then}
use Rattle.dv_shelf.specs.Disks.{Made, files_after}
use Rattle.dv_shelf.specs.Images.{LeftBy, LeftSince}
use Rattle.dv_shelf.specs.Records.{made_calls, room_left}

-- its writing calls that left a trace
abbrev pub calls_of : MemShelf → List Made
calls_of shelf = made_calls shelf.record

-- its files as a read gives them
abbrev pub files_of : MemShelf → Folder
files_of shelf = files_after (calls_of shelf)

-- the room that it has left
abbrev pub shelf_room : MemShelf → ℕ
shelf_room shelf = room_left shelf.record

-- what a crash now may leave of it
abbrev pub images_of : MemShelf → Folder → Type 0
images_of shelf = LeftBy (calls_of shelf)

-- this moment: how many writing calls have left a trace
abbrev pub moment_of : MemShelf → ℕ
moment_of shelf = length (calls_of shelf)

-- what a crash since a moment might have left of it
abbrev pub images_since : MemShelf → ℕ → Folder → Type 0
images_since shelf = LeftSince (calls_of shelf)

-- how many calls it has had
abbrev pub call_count : MemShelf → ℕ
call_count shelf = shelf.failures.calls

-- how often a call has failed
abbrev pub faults_of : MemShelf → ℕ
faults_of shelf = shelf.failures.faults

-- what it shows
abbrev pub sees_memory : SeesFolder MemShelf
sees_memory = record {
  tells = Unit {0};
  files = files_of;
  may_leave = images_of;
  moment = moment_of;
  left_since = images_since;
  fault_count = faults_of;
  mail_reads = λ shelf. shelf.mail_reads;
}

-- A shelf that had no call yet. These writing calls made its files.
pub record IsUntried (shelf : MemShelf) (made : List Made) (space : ℕ) (listed : List ℕ)
    (stop : Option ℕ) : Type 0 where
  pub calls : calls_of shelf ≡ made
  pub room : shelf_room shelf ≡ space
  pub fails : shelf.failures ≡ untried listed stop
  pub reads : shelf.mail_reads ≡ 0
  pub shows : shelf.shows_failed ≡ false

-- what comes of a writing call that leaves a trace
abbrev pub outcome_of : MemShelf → Outcome
outcome_of shelf = outcome_then (turn_of shelf.failures) shelf.shows_failed

-- a writing call takes 64 of the room and one for each byte
abbrev pub fits : MemShelf → ℕ → Bool
fits shelf len = nat_le (64 + len) (shelf_room shelf)

-- a writing call leaves a trace: it isn't behind the stop, and there is room for it
abbrev pub leaves_trace : MemShelf → List ℕ → Bool
leaves_trace shelf bytes = is_reached (turn_of shelf.failures) && fits shelf (length bytes)

-- the calls after one more
abbrev pub calls_then : MemShelf → Name → Deed → List ℕ → List Made
calls_then shelf name deed bytes =
    cond (leaves_trace shelf bytes)
    (calls_of shelf
    ++ record { name = name; deed = deed; outcome = outcome_of shelf; bytes = bytes } ∷ [])
    (calls_of shelf)

-- the room after one call more
abbrev pub room_then : MemShelf → List ℕ → ℕ
room_then shelf bytes =
    cond (leaves_trace shelf bytes) (shelf_room shelf - (64 + length bytes)) (shelf_room shelf)

-- a writing call answers Ok
abbrev pub answers_ok : MemShelf → List ℕ → Bool
answers_ok shelf bytes = passes (turn_of shelf.failures) && fits shelf (length bytes)

-- A writing call: what the shelf keeps of it, whether it answers Ok, and what is counted.
pub record IsAnswered {E : Type 0} (old new : MemShelf) (result : Result (Unit {0}) E) (name : Name)
    (deed : Deed) (bytes : List ℕ) : Type 0 where
  pub calls : calls_of new ≡ calls_then old name deed bytes
  pub answer : is_ok result ≡ answers_ok old bytes
  pub room : shelf_room new ≡ room_then old bytes
  pub counted : new.failures ≡ after_answer old.failures (is_err result)
  pub reads : new.mail_reads ≡ old.mail_reads
  pub shows : new.shows_failed ≡ old.shows_failed

-- a read or a list: it keeps the record, and is counted
pub record IsLook (old new : MemShelf) : Type 0 where
  pub calls : calls_of new ≡ calls_of old
  pub room : shelf_room new ≡ shelf_room old
  pub counted : new.failures ≡ after_answer old.failures (not (passes (turn_of old.failures)))
  pub shows : new.shows_failed ≡ old.shows_failed
