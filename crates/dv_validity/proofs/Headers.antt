-- What header updates leave.
use Rattle.std.proofs.Common.{◌≡◌, ◌⊎◌, inl, inr, ℕ, ◌+◌, ◌-◌, ◌*◌, ◌^◌, ◌<◌, ◌≤◌, Bool, true, false, cond, ◌&&◌, List, length, get_or, nat_le, take, drop, Option, Some, None, refl, arith}
use Rattle.std.specs.Prelude.{All, IfSome, fold}
use Rattle.std.specs.Int.{w32, from_le_bytes}
use Rattle.std.proofs.lemmas.Bool.{cases_lt}
use Rattle.std.proofs.lemmas.List.{get_or_past}
use Rattle.std.proofs.lemmas.List.Elements.{All-drop, All-take}
use Rattle.dv_model.specs.declared.types.Mailbox.{Mailbox}
use Rattle.dv_model.specs.declared.types.Part.{Part}
use Rattle.dv_model.specs.Effects.{header_number, with_header_part, with_next_uid, with_validity}
use Rattle.dv_model.specs.Mailboxes.{IsValid}
use Rattle.dv_validity.proofs.Rows.{IsWider, GoesOn, fold_keeps, fold_keeps_any, goes_on_again, goes_on_same, rows_in}

-- ---- a number of four bytes

byte_at : (bytes : List ℕ) (i : ℕ) → All (λ b. b < 256) bytes → (i < length bytes) ⊎ (length bytes ≤ i) → get_or bytes i 0 < 256
byte_at bytes i each (inl inside) = each i 0 inside
byte_at bytes i each (inr past) = let e : get_or bytes i 0 ≡ 0 = get_or_past bytes i 0 past in omega arith

number_of : (a b c d : ℕ) → a < 256 → b < 256 → c < 256 → d < 256 → a + b * 256 + c * 65536 + d * 16777216 < 2 ^ 32
number_of a b c d p q r s = omega arith

number_below : (bytes : List ℕ) → All (λ b. b < 256) bytes → from_le_bytes w32 bytes < 2 ^ 32
number_below bytes each =
    let at : (i : ℕ) → get_or bytes i 0 < 256 = λ i. byte_at bytes i each (cases_lt i (length bytes)) in
    number_of (get_or bytes 0 0) (get_or bytes 1 0) (get_or bytes 2 0) (get_or bytes 3 0) (at 0) (at 1) (at 2) (at 3)

below_by : (b : Bool) (bytes : List ℕ) → All (λ b. b < 256) bytes → IfSome (cond b (Some (from_le_bytes w32 bytes)) None) (λ n. n < 2 ^ 32)
below_by true bytes each = number_below bytes each
below_by false bytes each = tt

-- the number that a part of bytes gives has 32 bits
pub header_number_below : (part : Part) (at : ℕ) → All (λ b. b < 256) part.bytes → IfSome (header_number part at) (λ n. n < 2 ^ 32)
header_number_below part at each =
    below_by (nat_le part.offset at && nat_le (at + 4) (part.offset + length part.bytes)) (take 4 (drop (at - part.offset) part.bytes))
    (All-take (λ b. b < 256) 4 (drop (at - part.offset) part.bytes) (All-drop (λ b. b < 256) (at - part.offset) part.bytes each))

-- ---- the mailbox with such numbers

validity_valid : (m : Mailbox) (o : Option ℕ) → IsValid m → IsValid (with_validity m o)
validity_valid m None valid = valid
validity_valid m (Some v) valid =
    let n : Mailbox = with_validity m (Some v) in
    let wider : IsWider m n = record { next_uid = omega arith; keywords = omega arith; highest = omega arith } in
    record {
      next_uid = valid.next_uid;
      rising = valid.rising;
      rows = rows_in m n m.rows wider refl valid.rows;
      names = valid.names;
      extensions = valid.extensions;
      current = valid.current;
      highest = valid.highest;
    }

next_uid_valid : (m : Mailbox) (o : Option ℕ) → IfSome o (λ k. k < 2 ^ 32) → IsValid m → IsValid (with_next_uid m o)
next_uid_valid m None below valid = valid
next_uid_valid m (Some k) below valid =
    let n : Mailbox = with_next_uid m (Some k) in
    let wider : IsWider m n = record { next_uid = omega arith; keywords = omega arith; highest = omega arith } in
    record {
      next_uid = (omega (arith, valid.next_uid.0), omega (arith, valid.next_uid.1));
      rising = valid.rising;
      rows = rows_in m n m.rows wider refl valid.rows;
      names = valid.names;
      extensions = valid.extensions;
      current = valid.current;
      highest = valid.highest;
    }

-- the UIDNEXT that the part gives, where it gives one, has 32 bits
abbrev pub IsPartInRange : Part → Type 0
IsPartInRange part = IfSome (header_number part 28) (λ n. n < 2 ^ 32)

pub header_part_valid : (m : Mailbox) (part : Part) → IsPartInRange part → IsValid m → IsValid (with_header_part m part)
header_part_valid m part below valid = next_uid_valid (with_validity m (header_number part 24)) (header_number part 28) below (validity_valid m (header_number part 24) valid)

pub header_parts_valid : (m : Mailbox) (parts : List Part) → All IsPartInRange parts → IsValid m → IsValid (fold with_header_part m parts)
header_parts_valid m parts below valid = fold_keeps IsValid IsPartInRange with_header_part header_part_valid m parts below valid

validity_goes_on : (m : Mailbox) (o : Option ℕ) → GoesOn m (with_validity m o)
validity_goes_on m None = goes_on_same m m (omega arith) refl refl refl
validity_goes_on m (Some v) = goes_on_same m (with_validity m (Some v)) (omega arith) refl refl refl

next_uid_goes_on : (m : Mailbox) (o : Option ℕ) → GoesOn m (with_next_uid m o)
next_uid_goes_on m None = goes_on_same m m (omega arith) refl refl refl
next_uid_goes_on m (Some k) = goes_on_same m (with_next_uid m (Some k)) (omega arith) refl refl refl

header_part_goes_on : (m : Mailbox) (part : Part) → GoesOn m (with_header_part m part)
header_part_goes_on m part =
    goes_on_again m (with_validity m (header_number part 24)) (with_header_part m part) (validity_goes_on m (header_number part 24))
    (next_uid_goes_on (with_validity m (header_number part 24)) (header_number part 28))

pub header_parts_go_on : (m : Mailbox) (parts : List Part) → GoesOn m (fold with_header_part m parts)
header_parts_go_on m parts =
    fold_keeps_any (GoesOn m) with_header_part (λ n part is. goes_on_again m n (with_header_part n part) is (header_part_goes_on n part)) m parts (goes_on_same m m (omega arith) refl refl refl)
