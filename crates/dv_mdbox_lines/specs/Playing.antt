-- What becomes of a storage's calls, one after another.
use Rattle.std.specs.Prelude.{◌≡◌, ◌⊎◌, ℕ, ◌+◌, ◌<◌, ◌≤◌, not, List, [], ◌∷◌, All, filter, fold, length, Option, Some, None, is_some, nat_eq, if◌then◌else◌, ⊤}
use Rattle.std.specs.List.{list_any}
use Rattle.std.specs.Option.{option_and_then}
use Rattle.dv_model.specs.Sessions.{end_of_uids, message_limit}
use Rattle.dv_maps.specs.Storages.{Item, Storage, copied, dropped, saved}
use Rattle.dv_mdbox_lines.specs.declared.answers.Answer.{Answer}
use Rattle.dv_mdbox_lines.specs.declared.answers.Answer.TheVariants as answer
use Rattle.dv_mdbox_lines.specs.Scripts.{Call, Copy, Drop, Get, Purge, Save}

-- ---- what a storage has

-- the item of an id
abbrev pub item_with : ℕ → List Item → Option Item
item_with id [] = None
item_with id (item ∷ items) = if nat_eq item.id id then Some item else item_with id items

-- how many references it has; none where the id isn't there
abbrev pub count_in : Option Item → ℕ
count_in None = 0
count_in (Some item) = item.count

abbrev pub references : Storage → ℕ → ℕ
references s id = count_in (item_with id s.items)

-- the message that was saved under it, where that is known
abbrev pub message_of : Storage → ℕ → Option (List ℕ)
message_of s id = option_and_then (λ (item : Item). item.message) (item_with id s.items)

-- each id is below the one that is given next
abbrev pub AreBelow : ℕ → List Item → Type 0
AreBelow next [] = ⊤
AreBelow next (item ∷ items) = (item.id < next) × AreBelow next items

-- ---- a call

-- A call, and what came of it: its answer, or none, where memory ended it; and the ids that it
-- removed.
pub record Tried : Type 0 where
  pub call : Call
  pub answer : Option Answer
  pub gone : List ℕ

-- the storage without some ids
abbrev pub without : List ℕ → Storage → Storage
without gone s =
    record s { items = filter (λ (item : Item). not (list_any (nat_eq item.id) gone)) s.items }

-- what a call does that is done
abbrev pub done_by : Call → Storage → Storage
done_by (Save message) s = saved message s
done_by (Copy id) s = copied id s
done_by (Drop id) s = dropped id s
done_by call s = s

-- the id that a call is answered OK with
abbrev pub done_id : Option Answer → Option ℕ
done_id (Some (answer.Done id)) = Some id
done_id told = None

-- what a call makes of a storage: one that isn't answered OK leaves it, and a purge is without the
-- ids that it removed
abbrev pub after_call : Call → Option Answer → List ℕ → Storage → Storage
after_call Purge told gone s = without gone s
after_call call told gone s = if is_some (done_id told) then done_by call s else s

abbrev pub behind_call : Storage → Tried → Storage
behind_call s tried = after_call tried.call tried.answer tried.gone s

-- the same of calls in turn
abbrev pub behind : Storage → List Tried → Storage
behind s tried = fold behind_call s tried

-- ---- what may come of it

-- a count that is an id's, with some references
abbrev pub HasSome : Storage → ℕ → ℕ → Type 0
HasSome s id most = (1 ≤ references s id) × (references s id < most)

-- an id is left, and the message isn't too long
abbrev pub MaySave : Storage → List ℕ → Type 0
MaySave s message = (s.next < end_of_uids) × (length message ≤ message_limit)

-- A save: Ids comes exactly where no id is left, and TooLong exactly where the message has more
-- than 32 MiB, or where the log is full, with the bytes of the group.
abbrev pub MaySaveSo : Storage → List ℕ → Answer → Type 0
MaySaveSo s message (answer.Done id) = MaySave s message × (id ≡ s.next)
MaySaveSo s message answer.Ids = s.next ≡ end_of_uids
MaySaveSo s message (answer.TooLong bytes) =
    (s.next < end_of_uids)
    × (((message_limit < length message) × (bytes ≡ length message))
    ⊎ ((length message ≤ message_limit) × (bytes ≡ 120)))
MaySaveSo s message answer.Files = MaySave s message
MaySaveSo s message (answer.Disk faults) = MaySave s message
MaySaveSo s message other = ⊥

-- a change of an id's count: None comes exactly where it has no reference, and Full exactly where
-- it has the most that there may be
abbrev pub MayCount : Storage → ℕ → ℕ → Answer → Type 0
MayCount s id most (answer.Done n) = HasSome s id most × (n ≡ id)
MayCount s id most answer.None = references s id ≡ 0
MayCount s id most answer.Full = references s id ≡ most
MayCount s id most (answer.TooLong bytes) = HasSome s id most × (bytes ≡ 48)
MayCount s id most (answer.Disk faults) = HasSome s id most
MayCount s id most other = ⊥

-- None comes exactly where an id has no reference; the message is the one that was saved, and isn't
-- damaged, where that is known
abbrev pub MayGet : Storage → ℕ → Answer → Type 0
MayGet s id (answer.Held message) =
    (1 ≤ references s id)
    × ((known : List ℕ) → message_of s id ≡ Some known → message ≡ known)
MayGet s id answer.Damaged = (1 ≤ references s id) × (message_of s id ≡ None)
MayGet s id answer.None = references s id ≡ 0
MayGet s id (answer.Disk faults) = 1 ≤ references s id
MayGet s id other = ⊥

-- a purge says how many ids went
abbrev pub MayPurge : Storage → List ℕ → Answer → Type 0
MayPurge s gone (answer.Purged n) = n + length (without gone s).items ≡ length s.items
MayPurge s gone answer.Files = ⊤
MayPurge s gone (answer.TooLong bytes) = ⊤
MayPurge s gone (answer.Disk faults) = ⊤
MayPurge s gone other = ⊥

-- an answer may come of a call; memory may end each
abbrev pub MayAnswer : Storage → Call → List ℕ → Option Answer → Type 0
MayAnswer s call gone None = ⊤
MayAnswer s (Save message) gone (Some told) = MaySaveSo s message told
MayAnswer s (Copy id) gone (Some told) = MayCount s id 65535 told
MayAnswer s (Drop id) gone (Some told) = MayCount s id 65536 told
MayAnswer s (Get id) gone (Some told) = MayGet s id told
MayAnswer s Purge gone (Some told) = MayPurge s gone told

-- only a purge removes ids
abbrev pub IsPurge : Call → Type 0
IsPurge Purge = ⊤
IsPurge call = ⊥

-- an answer may come of the call, and the ids that went had no reference
pub record MayCome (s : Storage) (tried : Tried) : Type 0 where
  pub answer : MayAnswer s tried.call tried.gone tried.answer
  pub gone : All (λ id. references s id ≡ 0) tried.gone
  pub purge : (IsPurge tried.call → ⊥) → tried.gone ≡ []

-- so it is with each of some calls in turn
abbrev pub MayGo : Storage → List Tried → Type 0
MayGo s [] = ⊤
MayGo s (tried ∷ more) = MayCome s tried × MayGo (behind_call s tried) more
