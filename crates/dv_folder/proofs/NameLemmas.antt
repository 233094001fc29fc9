-- What a text says that loses its first letters, or is read as a number.
use Rattle.std.proofs.Common.{◌≡◌, ◌≢◌, ℕ, ◌<◌, ◌^◌, List, ◌∷◌, Option, Some, None, Result, Ok, ap, sym, ◌∙◌, arith}
use Rattle.std.specs.Prelude.{MatchOption, decimal}
use Rattle.std.specs.Result.{result_ok}
use Rattle.std.specs.Str.Parse.{ParsesUnsigned}
use Rattle.std.proofs.lemmas.Fmt.{parse-decimal}
use denote.Ref.{Bor}

pub two_letters : (letter : ℕ) (text front : List ℕ) (r : Option (Bor (List ℕ))) → text ≡ letter ∷ front → MatchOption r ((rest : List ℕ) → front ≢ 46 ∷ rest) (λ x. front ≡ 46 ∷ x.now)
    → MatchOption r ((rest : List ℕ) → text ≢ letter ∷ 46 ∷ rest) (λ x. text ≡ letter ∷ 46 ∷ x.now)
two_letters letter text front None e h = λ rest is. let cut : front ≡ 46 ∷ rest = cc in h rest cut
two_letters letter text front (Some x) e h = e ∙ ap (λ (t : List ℕ). letter ∷ t) h

pub none_read : {E : Type 0} (digits : List ℕ) (r : Result ℕ E) → ParsesUnsigned 32 10 digits r → result_ok r ≡ None → (n : ℕ) → n < 2 ^ 32 → decimal n ≢ digits
none_read digits r reads none n small e =
    let is : r ≡ Ok n = parse-decimal 32 n digits r small (omega arith) (sym e) reads in
    let clash : None ≡ Some n = sym none ∙ ap result_ok is in
    cc

pub other_read : {E : Type 0} (digits : List ℕ) (r : Result ℕ E) (m : ℕ) → ParsesUnsigned 32 10 digits r → result_ok r ≡ Some m → decimal m ≢ digits → (n : ℕ) → n < 2 ^ 32 → decimal n ≢ digits
other_read digits r m reads some differs n small e =
    let is : r ≡ Ok n = parse-decimal 32 n digits r small (omega arith) (sym e) reads in
    let same : Some m ≡ Some n = sym some ∙ ap result_ok is in
    let equal : m ≡ n = cc in
    differs (ap decimal equal ∙ e)
