-- What the bytes from a place on begin with.
use Rattle.std.proofs.Common.{◌≡◌, ℕ, ◌+◌, ◌-◌, ◌/◌, ◌%◌, ◌^◌, ◌<◌, ◌≤◌, false, ltb, List, length, take, drop, Err, sym, ap, subst, ◌∙◌, arith}
use Rattle.std.specs.Int.{w32, to_le_bytes}
use Rattle.std.proofs.lemmas.Bool.{or_parts, ltb-false}
use Rattle.std.proofs.lemmas.List.{length-take, drop-take, take-take}
use Rattle.dv_model.specs.declared.types.Body.{Body}
use Rattle.dv_model.specs.declared.types.Record.{Record}
use Rattle.dv_model.specs.Spelling.{size_code, is_closed, type_of}
use Rattle.dv_records.specs.declared.fault.DecodeEnd.{DecodeEnd}
use Rattle.dv_records.specs.declared.fault.DecodeEnd.TheVariants.{Fault, NoMemory}
use Rattle.dv_records.specs.Faults.{size_at, code_at, payload_at, has_bad_size, lacks_guard, IsBodyOf, IsFault, IsRecordAt, OnFault}
use Rattle.dv_records.specs.Fronts.{Reads, word_at}
use Rattle.dv_records.proofs.Loop.{IsBytes}
use Rattle.dv_records.proofs.Fronts.{word_is, word_below, inner}
use Rattle.dv_records.proofs.Sizes.{code_of_value, is_open}

-- a good size has room for the header, and ends among the bytes
pub good_size : (b : List ℕ) → has_bad_size b ≡ false → (8 ≤ size_at b) × (size_at b ≤ length b)
good_size b e = let p = or_parts (ltb (size_at b) 8) (ltb (length b) (size_at b)) e in (ltb-false (size_at b) 8 p.0, ltb-false (length b) (size_at b) p.1)

pub spells_at : (b : List ℕ) (body : Body) → IsBytes b → is_closed b ≡ false
    → has_bad_size b ≡ false → IsBodyOf (code_at b) (payload_at b) body
    → IsRecordAt (record { top = word_at b 4 / 2 ^ 28; body = body }) (size_at b) b
spells_at b body fits not_closed fine is =
    let open_at = is_open b not_closed in
    let good = good_size b fine in
    let code = code_of_value b (size_at b) fits open_at.long open_at.size in
    let r : Record = record { top = word_at b 4 / 2 ^ 28; body = body } in
    let size : length (take (size_at b) b) ≡ size_at b = omega (arith, length-take (size_at b) b, good.1) in
    let kind : word_at b 4 ≡ type_of r = omega (arith, is.0) in
    let kind_below : word_at b 4 < 2 ^ 32 = word_below b 4 fits in (
      good.1,
      record {
        size = take-take 4 (size_at b) b (omega (arith, good.0)) ∙ code.0 ∙ ap size_code (sym size);
        below = omega (arith, size, code.2 open_at.first);
        type = inner 4 4 (size_at b) b (omega (arith, good.0)) ∙ word_is b 4 fits (omega (arith, good.0, good.1)) ∙ ap (to_le_bytes w32) kind;
        payload = is.1;
        top = omega (arith, kind_below);
      },
    )

-- what stands between two places
between : (n : ℕ) (b : List ℕ) → 8 ≤ n → take (n - 8) (drop 8 b) ≡ drop 8 (take n b)
between n b le = let e : n ≡ 8 + (n - 8) = omega arith in sym (ap (λ (k : ℕ). drop 8 (take k b)) e ∙ drop-take 8 (n - 8) b)

-- ---- by the type and the size that were read

pub record IsHead (b : List ℕ) (kind size : ℕ) : Type 0 where
  pub kind_is : kind ≡ word_at b 4
  pub not_closed : is_closed b ≡ false
  pub fine : has_bad_size b ≡ false
  pub size_is : size ≡ size_at b

abbrev IsRead : List ℕ → ℕ → ℕ → Body → Type 0
IsRead b kind size body = IsBodyOf (kind % 2 ^ 28) (take (size - 8) (drop 8 b)) body

as_read : (b : List ℕ) (kind size : ℕ) → IsHead b kind size
    → IsRead b kind size ≡ IsBodyOf (code_at b) (payload_at b)
as_read b kind size head =
    let good = good_size b head.fine in
    ap (λ (k : ℕ). IsRead b k size) head.kind_is ∙ ap (λ (k : ℕ). IsRead b (word_at b 4) k) head.size_is ∙ ap (λ (t : List ℕ). IsBodyOf (code_at b) t) (between (size_at b) b good.0)

pub found : (b : List ℕ) (kind size : ℕ) (body : Body) → IsBytes b → IsHead b kind size
    → IsBodyOf (kind % 2 ^ 28) (take (size - 8) (drop 8 b)) body
    → IsRecordAt (record { top = kind / 2 ^ 28; body = body }) size b
found b kind size body fits head is =
    let at : IsRecordAt (record { top = word_at b 4 / 2 ^ 28; body = body }) (size_at b) b = spells_at b body fits head.not_closed head.fine (subst (λ (P : Body → Type 0). P body) (as_read b kind size head) is) in
    rw (head.kind_is, head.size_is) at

pub payload_fails : (b : List ℕ) (kind size : ℕ) (e : DecodeEnd) → IsHead b kind size
    → lacks_guard (kind % 2 ^ 28) ≡ false
    → Reads (IsBodyOf (kind % 2 ^ 28) (take (size - 8) (drop 8 b))) (Err e)
    → OnFault {A = Record × ℕ} (Err e) (λ f. IsFault f b)
payload_fails b kind size NoMemory head guarded fails = tt
payload_fails b kind size (Fault f) head guarded fails =
    let none : (body : Body) → IsBodyOf (code_at b) (payload_at b) body → ⊥ = subst (λ (P : Body → Type 0). (body : Body) → P body → ⊥) (as_read b kind size head) fails.1 in
    let guarded_at : lacks_guard (code_at b) ≡ false = ap (λ (k : ℕ). lacks_guard (k % 2 ^ 28)) (sym head.kind_is) ∙ guarded in
    subst (λ g. IsFault g b) (sym fails.0) (head.not_closed, head.fine, guarded_at, none)
