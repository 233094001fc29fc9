-- A place begins with a record or has one fault.
use Rattle.std.proofs.Common.{◌≡◌, ℕ, ◌+◌, ◌%◌, ◌/◌, ◌^◌, ◌<◌, ◌≤◌, Bool, true, false, not, List, [], ◌∷◌, ◌++◌, length, get_or, take, drop, refl, sym, ap, subst, ◌∙◌, arith}
use Rattle.std.specs.Prelude.{is_none}
use Rattle.std.specs.Int.{w32, from_le_bytes}
use Rattle.std.proofs.lemmas.Bool.{or_from, ne_eqb, eq-eqb, le-ltb}
use Rattle.std.proofs.lemmas.List.{length-append, length-drop, take_at, take-append-le, drop-append-le}
use Rattle.dv_model.specs.declared.types.Body.{Body}
use Rattle.dv_model.specs.declared.types.Body.TheVariants.{Carried}
use Rattle.dv_model.specs.declared.types.Record.{Record}
use Rattle.dv_model.specs.Spelling.{Spells, IsPayload, code_of, type_of, size_code, size_value, is_closed}
use Rattle.dv_records.specs.declared.fault.RecordFault.{RecordFault}
use Rattle.dv_records.specs.declared.fault.RecordFault.TheVariants.{Closed, BadSize, BadGuard, BadPayload}
use Rattle.dv_records.specs.Faults.{size_at, size_or_zero, code_at, payload_at, has_bad_size, lacks_guard, IsFault}
use Rattle.dv_records.specs.Fronts.{word_at}
use Rattle.dv_records.proofs.Readings.{code_below, spelling_long, size_read, type_is}

-- ---- where a record begins

first_is : (n : ℕ) (b : List ℕ) → take 4 b ≡ size_code n → n < 2 ^ 23 → get_or b 0 0 ≡ 128
first_is n [] e below = absurd cc
first_is n (x ∷ b) e below = let h : x ≡ 128 + n / 4 / 2 ^ 21 % 128 = ap (λ (t : List ℕ). get_or t 0 0) e in omega arith

get_or-append : (b rest : List ℕ) → 1 ≤ length b → get_or (b ++ rest) 0 0 ≡ get_or b 0 0
get_or-append [] rest le = absurd (omega arith)
get_or-append (x ∷ b) rest le = refl

pub not_closed : (r : Record) (b rest : List ℕ) → Spells r b → is_closed (b ++ rest) ≡ false
not_closed r b rest is =
    let long : 4 ≤ length (b ++ rest) = omega (arith, length-append b rest, spelling_long r b is) in
    let first : get_or (b ++ rest) 0 0 ≡ 128 = get_or-append b rest (omega (arith, spelling_long r b is)) ∙ first_is (length b) b is.size is.below in
    or_from _ (is_none (size_value (b ++ rest))) (or_from _ _ (le-ltb _ _ long) (ap not (eq-eqb _ _ first))) (ap is_none (size_read r b rest is))

size_at_is : (r : Record) (b rest : List ℕ) → Spells r b → size_at (b ++ rest) ≡ length b
size_at_is r b rest is = ap size_or_zero (size_read r b rest is)

pub fine_size : (r : Record) (b rest : List ℕ) → Spells r b → has_bad_size (b ++ rest) ≡ false
fine_size r b rest is =
    let n = size_at_is r b rest is in
    or_from _ _ (le-ltb (size_at (b ++ rest)) 8 (omega (arith, n, spelling_long r b is))) (le-ltb (length (b ++ rest)) (size_at (b ++ rest)) (omega (arith, n, length-append b rest)))

pub code_at_is : (r : Record) (b rest : List ℕ) → Spells r b → code_at (b ++ rest) ≡ code_of r.body
code_at_is r b rest is =
    let long = spelling_long r b is in
    let same : take 4 (drop 4 (b ++ rest)) ≡ take 4 (drop 4 b) =
    ap (take 4) (drop-append-le 4 b rest (omega arith)) ∙ take-append-le 4 (drop 4 b) rest (omega (arith, length-drop 4 b)) in
    let kind : word_at (b ++ rest) 4 ≡ type_of r = ap (from_le_bytes w32) same ∙ type_is r b is in
    let code = code_below r.body _ is.payload in
    omega arith

pub has_guard : (body : Body) (b : List ℕ) → IsPayload body b → lacks_guard (code_of body) ≡ false
has_guard (Carried code bytes) b is = or_from _ _ (ne_eqb code 0x1 (λ e. omega arith)) (ne_eqb code 0x2000 (λ e. omega arith))
has_guard body b is = refl

pub payload_at_is : (r : Record) (b rest : List ℕ) → Spells r b → payload_at (b ++ rest) ≡ drop 8 b
payload_at_is r b rest is = ap (λ (n : ℕ). drop 8 (take n (b ++ rest))) (size_at_is r b rest is) ∙ ap (drop 8) (take_at b rest (length b) refl)

-- where a record begins there is no fault
pub no_fault : (r : Record) (b rest : List ℕ) (f : RecordFault) → Spells r b → IsFault f (b ++ rest)
    → ⊥
no_fault r b rest Closed is fault = let e = not_closed r b rest is in cc
no_fault r b rest BadSize is fault = let e = fine_size r b rest is in let h = fault.1 in cc
no_fault r b rest BadGuard is fault =
    let e : lacks_guard (code_at (b ++ rest)) ≡ false = ap lacks_guard (code_at_is r b rest is) ∙ has_guard r.body _ is.payload in
    let h = fault.2 in cc
no_fault r b rest BadPayload is fault =
    fault.3 r.body (sym (code_at_is r b rest is), subst (IsPayload r.body) (sym (payload_at_is r b rest is)) is.payload)

-- ---- a place has one fault

apart : {A : Type 0} (t : Bool) → t ≡ true → t ≡ false → A
apart t p q = absurd cc

pub fault_one : (f g : RecordFault) (b : List ℕ) → IsFault f b → IsFault g b → f ≡ g
fault_one Closed Closed b p q = refl
fault_one Closed BadSize b p q = apart _ p q.0
fault_one Closed BadGuard b p q = apart _ p q.0
fault_one Closed BadPayload b p q = apart _ p q.0
fault_one BadSize Closed b p q = apart _ q p.0
fault_one BadSize BadSize b p q = refl
fault_one BadSize BadGuard b p q = apart _ p.1 q.1
fault_one BadSize BadPayload b p q = apart _ p.1 q.1
fault_one BadGuard Closed b p q = apart _ q p.0
fault_one BadGuard BadSize b p q = apart _ q.1 p.1
fault_one BadGuard BadGuard b p q = refl
fault_one BadGuard BadPayload b p q = apart _ p.2 q.2
fault_one BadPayload Closed b p q = apart _ q p.0
fault_one BadPayload BadSize b p q = apart _ q.1 p.1
fault_one BadPayload BadGuard b p q = apart _ q.2 p.2
fault_one BadPayload BadPayload b p q = refl
