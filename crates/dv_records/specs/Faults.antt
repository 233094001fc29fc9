-- Why the bytes from a place on begin with no record. The tests stand in their order.
use Rattle.std.specs.Prelude.{◌≡◌, ◌⊎◌, ℕ, ◌≤◌, ◌%◌, ◌^◌, ◌||◌, List, length, take, drop, Option, Some, None, Result, Ok, Err, nat_eq, nat_lt, IsTrue, IsFalse, Bool, ⊤}
use Rattle.std.specs.Int.{w32, from_le_bytes}
use Rattle.dv_model.specs.declared.types.Body.{Body}
use Rattle.dv_model.specs.declared.types.Record.{Record}
use Rattle.dv_model.specs.Spelling.{Spells, IsRecord, is_closed, size_value, code_of, IsPayload}
use Rattle.dv_records.specs.declared.fault.DecodeEnd.{DecodeEnd}
use Rattle.dv_records.specs.declared.fault.DecodeEnd.TheVariants.{Fault, NoMemory}
use Rattle.dv_records.specs.declared.fault.RecordFault.{RecordFault}
use Rattle.dv_records.specs.declared.fault.RecordFault.TheVariants.{Closed, BadSize, BadGuard, BadPayload}

-- the size of mail_transaction_header, where it is written
abbrev pub size_or_zero : Option ℕ → ℕ
size_or_zero None = 0
size_or_zero (Some n) = n

-- the size that the first four bytes give, or 0 where they give none
abbrev pub size_at : List ℕ → ℕ
size_at b = size_or_zero (size_value b)

-- too small for a header, or past the end
abbrev pub has_bad_size : List ℕ → Bool
has_bad_size b = nat_lt (size_at b) 8 || nat_lt (length b) (size_at b)

-- the type without its four highest bits (MAIL_TRANSACTION_TYPE_MASK)
abbrev pub code_at : List ℕ → ℕ
code_at b = from_le_bytes w32 (take 4 (drop 4 b)) % 2 ^ 28

-- MAIL_TRANSACTION_EXPUNGE or MAIL_TRANSACTION_EXPUNGE_GUID without MAIL_TRANSACTION_EXPUNGE_PROT
abbrev pub lacks_guard : ℕ → Bool
lacks_guard code = nat_eq code 0x1 || nat_eq code 0x2000

-- what stands behind the header, up to the size
abbrev pub payload_at : List ℕ → List ℕ
payload_at b = drop 8 (take (size_at b) b)

-- the payload is one of this code
abbrev pub IsBodyOf : ℕ → List ℕ → Body → Type 0
IsBodyOf code payload body = (code_of body ≡ code) × IsPayload body payload

-- each fault comes only where the tests before it passed
abbrev pub IsFault : RecordFault → List ℕ → Type 0
IsFault Closed b = IsTrue (is_closed b)
IsFault BadSize b = IsFalse (is_closed b) × IsTrue (has_bad_size b)
IsFault BadGuard b =
    IsFalse (is_closed b) × IsFalse (has_bad_size b) × IsTrue (lacks_guard (code_at b))
IsFault BadPayload b =
    IsFalse (is_closed b) × IsFalse (has_bad_size b) × IsFalse (lacks_guard (code_at b))
    × ((body : Body) → IsBodyOf (code_at b) (payload_at b) body → ⊥)

-- a fault comes only with this
abbrev pub OnFault : {A : Type 0} → Result A DecodeEnd → (RecordFault → Type 0) → Type 0
OnFault (Err (Fault f)) P = P f
OnFault r P = ⊤

-- this answer, unless memory ran out
abbrev pub Answers : {A : Type 0} → Result A DecodeEnd → Result A DecodeEnd → Type 0
Answers (Err NoMemory) answer = ⊤
Answers r answer = r ≡ answer

-- the size of a record that these bytes hold, or what they lack
abbrev pub GivesSize : Result ℕ RecordFault → List ℕ → Type 0
GivesSize (Ok n) b =
    IsFalse (is_closed b) × IsFalse (has_bad_size b) × (n ≡ size_at b) × (n % 4 ≡ 0)
GivesSize (Err f) b = IsFault f b × ((f ≡ Closed) ⊎ (f ≡ BadSize))

-- the record takes the first n of these bytes
abbrev pub IsRecordAt : Record → ℕ → List ℕ → Type 0
IsRecordAt r n b = (n ≤ length b) × Spells r (take n b)

-- some record, which can be written, takes the first n of these bytes
abbrev pub HoldsRecord : ℕ → List ℕ → Type 0
HoldsRecord n b = (r : Record) × IsRecordAt r n b × IsRecord r
