-- Marks and bytes behind their number.
use Rattle.std.proofs.Common.{◌≡◌, ℕ, ◌^◌, ◌<◌, Bool, true, false, cond, List, ◌∷◌, ◌++◌, length, take, drop, Option, Some, None, codes, refl, sym, ◌∙◌, ap, subst, arith, append_assoc, nat_lt}
use Rattle.std.specs.Fmt.{decimal}
use Rattle.std.proofs.lemmas.Bool.{le-ltb, ltb-false}
use Rattle.std.proofs.lemmas.List.{drop_at, length-append, length-take-le, take-append-drop, take_at}
use Rattle.dv_model.specs.declared.types.Mark.{Mark}
use Rattle.dv_model.specs.Texts.{literal, mark_text}
use Rattle.dv_formats.specs.Replies.{IsPlace}
use Rattle.dv_formats.specs.Parsing.{◌>>=◌}
use Rattle.dv_commands.proofs.Base.{after_then, bind_some, some_is}
use Rattle.dv_commands.proofs.Words.{Stops}
use Rattle.dv_replies.specs.Reading.{is_no_digit, literal_at, mark_at}
use Rattle.dv_replies.proofs.Steps.{number_again, number_then}

-- ---- marks

abbrev MarkIs : List ℕ → Mark × List ℕ → Type 0
MarkIs b y = IsPlace y.0 × (b ≡ mark_text y.0 ++ y.1)

mark_whole : (m : Mark) (b c d e rest : List ℕ) → b ≡ codes "MARK " ++ c → c ≡ decimal m.file_seq ++ d → d ≡ codes ":" ++ e → e ≡ decimal m.offset ++ rest
    → b ≡ mark_text m ++ rest
mark_whole m b c d e rest p q r s = rw (p, q, r, s) (simp append_assoc)

pub mark_takes : (b : List ℕ) (y : Mark × List ℕ) → mark_at b ≡ Some y → MarkIs b y
unfolding mark_at
mark_takes b y e = after_then (codes "MARK ") b _ y e (λ c p e. number_then (2 ^ 32) c _ y e (λ file d few q e. after_then (codes ":") d _ y e (λ f r e. number_then (2 ^ 32) f _ y e (λ offset rest less s e.
    let m : Mark = record { file_seq = file; offset = offset } in
    subst (MarkIs b) (some_is (m, rest) y e) (record { file_seq = few; offset = less }, mark_whole m b c d f rest p q r s)))))

pub mark_then : {B P : Type 0} (b : List ℕ) (f : Mark × List ℕ → Option B) (y : B) → (mark_at b >>= f) ≡ Some y
    → ((m : Mark) (rest : List ℕ) → IsPlace m → b ≡ mark_text m ++ rest → f (m, rest) ≡ Some y → P) → P
mark_then b f y e go =
    let one = bind_some (mark_at b) f y e in
    let is = mark_takes b one.0 one.1 in
    go one.0.0 one.0.1 is.0 is.1 one.2

pub mark_again : (m : Mark) (rest : List ℕ) → IsPlace m → Stops is_no_digit rest → mark_at (mark_text m ++ rest) ≡ Some (m, rest)
unfolding mark_at
mark_again m rest is stops =
    let whole : mark_text m ++ rest ≡ codes "MARK " ++ (decimal m.file_seq ++ 58 ∷ (decimal m.offset ++ rest)) = simp append_assoc in
    ap mark_at whole ∙ rw (number_again (2 ^ 32) m.file_seq (58 ∷ (decimal m.offset ++ rest)) (omega arith) is.file_seq refl) (rw (number_again (2 ^ 32) m.offset rest (omega arith) is.offset stops) refl)

-- ---- bytes behind their number

abbrev LiteralIs : List ℕ → List ℕ × List ℕ → Type 0
LiteralIs b y = (length y.0 < 2 ^ 64) × (b ≡ literal y.0 ++ y.1)

literal_whole : (t b c d e rest : List ℕ) (n : ℕ) → b ≡ codes "{" ++ c → c ≡ decimal n ++ d → d ≡ codes "}\n" ++ e → e ≡ t ++ rest → n ≡ length t
    → b ≡ literal t ++ rest
literal_whole t b c d e rest n p q r s same = rw (p, q, r, s, same) (simp append_assoc)

taken : (n : ℕ) (e : List ℕ) (y : List ℕ × List ℕ) → cond (nat_lt (length e) n) None (Some (take n e, drop n e)) ≡ Some y
    → (n ≡ length y.0) × (e ≡ y.0 ++ y.1)
taken n e y f = by_test (nat_lt (length e) n) refl f
  where
    by_test : (t : Bool) → nat_lt (length e) n ≡ t → cond t None (Some (take n e, drop n e)) ≡ Some y → (n ≡ length y.0) × (e ≡ y.0 ++ y.1)
    by_test true is g = absurd cc
    by_test false is g = subst (λ (z : List ℕ × List ℕ). (n ≡ length z.0) × (e ≡ z.0 ++ z.1)) (some_is (take n e, drop n e) y g) (sym (length-take-le n e (ltb-false (length e) n is)), sym (take-append-drop n e))

pub literal_takes : (b : List ℕ) (y : List ℕ × List ℕ) → literal_at b ≡ Some y → LiteralIs b y
unfolding literal_at
literal_takes b y e = after_then (codes "{") b _ y e (λ c p e. number_then (2 ^ 64) c _ y e (λ n d less q e. after_then (codes "}\n") d _ y e (λ f r e.
    let is = taken n f y e in
    (subst (λ k. k < 2 ^ 64) is.0 less, literal_whole y.0 b c d f y.1 n p q r is.1 is.0))))

pub literal_then : {B P : Type 0} (b : List ℕ) (f : List ℕ × List ℕ → Option B) (y : B) → (literal_at b >>= f) ≡ Some y
    → ((t rest : List ℕ) → length t < 2 ^ 64 → b ≡ literal t ++ rest → f (t, rest) ≡ Some y → P) → P
literal_then b f y e go =
    let one = bind_some (literal_at b) f y e in
    let is = literal_takes b one.0 one.1 in
    go one.0.0 one.0.1 is.0 is.1 one.2

pub literal_again : (t rest : List ℕ) → length t < 2 ^ 64 → literal_at (literal t ++ rest) ≡ Some (t, rest)
unfolding literal_at
literal_again t rest small =
    let whole : literal t ++ rest ≡ codes "{" ++ (decimal (length t) ++ 125 ∷ 10 ∷ (t ++ rest)) = simp append_assoc in
    let enough : nat_lt (length (t ++ rest)) (length t) ≡ false = le-ltb (length (t ++ rest)) (length t) (omega (arith, length-append t rest)) in
    ap literal_at whole ∙ rw (number_again (2 ^ 64) (length t) (125 ∷ 10 ∷ (t ++ rest)) (omega arith) small refl) (rw (enough, take_at t rest (length t) refl, drop_at t rest (length t) refl) refl)
