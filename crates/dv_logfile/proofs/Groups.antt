-- The text of a group is long enough, and its first byte opens the gate.
use Rattle.std.proofs.Common.{◌≡◌, ℕ, ◌+◌, ◌*◌, ◌/◌, ◌%◌, ◌^◌, ◌<◌, ◌≤◌, List, [], ◌∷◌, ◌++◌, length, take, drop, sym, ◌∙◌, ap, arith, length-append}
use Rattle.std.proofs.lemmas.List.{take-append-le, take-append-drop}
use Rattle.dv_model.specs.declared.types.Record.{Record}
use Rattle.dv_model.specs.Spelling.{size_code}
use Rattle.dv_records.proofs.Readings.{spelling_long}
use Rattle.dv_logfile.specs.Layout.{Spelled, IsGroupText}

spelled_long : (rs : List Record) (b rest : List ℕ) → Spelled rs b rest → length rest ≤ length b
spelled_long [] b rest is = omega (arith, ap length is)
spelled_long (r ∷ rs) b rest s = omega (arith, ap length s.2, length-append s.0 s.1, spelled_long rs s.1 rest s.4)

-- a size below 2 ^ 23 has 0x80 as its first byte
small_code : (n : ℕ) → n < 2 ^ 23 → 128 + n / 4 / 2 ^ 21 % 128 ≡ 128
small_code n lt = omega arith

first_of : (b : List ℕ) (n : ℕ) → n < 2 ^ 23 → take 4 b ≡ size_code n → take 1 b ≡ 128 ∷ []
first_of [] n lt is = absurd cc
first_of (x ∷ b) n lt is =
    let head : x ≡ 128 + n / 4 / 2 ^ 21 % 128 = cc in
    ap (λ (k : ℕ). k ∷ []) (head ∙ small_code n lt)

-- each record has at least eight bytes
pub spelled_eight : (rs : List Record) (b rest : List ℕ) → Spelled rs b rest → 8 * length rs + length rest ≤ length b
spelled_eight [] b rest is = omega (arith, ap length is)
spelled_eight (r ∷ rs) b rest s = omega (arith, ap length s.2, length-append s.0 s.1, spelled_eight rs s.1 rest s.4, spelling_long r s.0 s.3)

pub group_long : (text : List ℕ) → IsGroupText text → 12 ≤ length text
group_long text g = long g.records text g.some g.spelled
  where
    long : (rs : List Record) (b : List ℕ) → 1 ≤ length rs → Spelled rs b (0 ∷ 0 ∷ 0 ∷ 0 ∷ []) → 12 ≤ length b
    long [] b some s = absurd (omega arith)
    long (r ∷ rs) b some s = omega (arith, ap length s.2, length-append s.0 s.1, spelled_long rs s.1 _ s.4, spelling_long r s.0 s.3)

pub group_some : (text : List ℕ) → IsGroupText text → 1 ≤ length text
group_some text g = omega (arith, group_long text g)

pub group_gate : (text : List ℕ) → IsGroupText text → text ≡ 128 ∷ drop 1 text
group_gate text g = sym (take-append-drop 1 text) ∙ ap (λ (l : List ℕ). l ++ drop 1 text) (gate g.records text g.some g.spelled)
  where
    gate : (rs : List Record) (b : List ℕ) → 1 ≤ length rs → Spelled rs b (0 ∷ 0 ∷ 0 ∷ 0 ∷ []) → take 1 b ≡ 128 ∷ []
    gate [] b some s = absurd (omega arith)
    gate (r ∷ rs) b some s =
        let long : 1 ≤ length s.0 = omega (arith, spelling_long r s.0 s.3) in
        ap (λ (l : List ℕ). take 1 l) s.2 ∙ take-append-le 1 s.0 s.1 long ∙ first_of s.0 (length s.0) s.3.below s.3.size
