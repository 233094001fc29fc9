-- The words of a feed are of one list of entries.
use Rattle.std.proofs.Common.{◌≡◌, ℕ, ◌≤◌, List, [], ◌∷◌, ◌++◌, length, refl, sym, ◌∙◌, ap, append_assoc, arith}
use Rattle.std.specs.Prelude.{All}
use Rattle.std.proofs.lemmas.Grind.{flat_map-append}
use Rattle.std.proofs.lemmas.List.{append-nil}
use Rattle.std.proofs.lemmas.List.Concat.{flat_map-cons}
use Rattle.std.proofs.lemmas.List.Elements.{All-head, All-tail}
use Rattle.dv_model.specs.declared.types.Entry.{Entry}
use Rattle.dv_formats.specs.Feeds.{entry_words, feed_text}
use Rattle.dv_feeding.specs.Laws.{IsSpelled}
use Rattle.dv_feeding.proofs.Entries.{entry_one}

pub feed_extends : (a b : List Entry) → feed_text (a ++ b) ≡ feed_text a ++ feed_text b
feed_extends a b = flat_map-append entry_words a b

first_of : (d : Entry) (a : List Entry) (x : List ℕ) → feed_text (d ∷ a) ++ x ≡ entry_words d ++ (feed_text a ++ x)
first_of d a x = ap (λ (t : List ℕ). t ++ x) (flat_map-cons entry_words d a) ∙ append_assoc (entry_words d) (feed_text a) x

some_words : (d : Entry) (a : List Entry) (x : List ℕ) → 1 ≤ length (feed_text (d ∷ a) ++ x)
some_words d a x = omega (arith, ap length (first_of d a x))

pub begins : (a b : List Entry) (x y : List ℕ) → All IsSpelled a → All IsSpelled b → length a ≤ length b → feed_text a ++ x ≡ feed_text b ++ y
    → (more : List Entry) × (b ≡ a ++ more) × (x ≡ feed_text more ++ y)
begins [] b x y p q short same = (b, refl, same)
begins (d ∷ a) [] x y p q short same = absurd (omega arith)
begins (d ∷ a) (e ∷ b) x y p q short same =
    let joined = sym (first_of d a x) ∙ same ∙ first_of e b y in
    let first = entry_one d e (feed_text a ++ x) (feed_text b ++ y) (All-head IsSpelled d a p) (All-head IsSpelled e b q) joined in
    let rest = begins a b x y (All-tail IsSpelled d a p) (All-tail IsSpelled e b q) (omega arith) first.1 in
    (rest.0, ap (λ (f : Entry). f ∷ b) (sym first.0) ∙ ap (λ (fs : List Entry). d ∷ fs) rest.1, rest.2)

pub is_taken : (a b : List Entry) (x : List ℕ) → All IsSpelled a → All IsSpelled b → feed_text a ++ x ≡ feed_text b
    → (more : List Entry) × (b ≡ a ++ more) × (x ≡ feed_text more)
is_taken [] b x p q same = (b, refl, same)
is_taken (d ∷ a) [] x p q same = absurd (omega (arith, ap length same, some_words d a x))
is_taken (d ∷ a) (e ∷ b) x p q same =
    let joined = sym (first_of d a x) ∙ same ∙ flat_map-cons entry_words e b in
    let first = entry_one d e (feed_text a ++ x) (feed_text b) (All-head IsSpelled d a p) (All-head IsSpelled e b q) joined in
    let rest = is_taken a b x (All-tail IsSpelled d a p) (All-tail IsSpelled e b q) first.1 in
    (rest.0, ap (λ (f : Entry). f ∷ b) (sym first.0) ∙ ap (λ (fs : List Entry). d ∷ fs) rest.1, rest.2)

no_more : (more : List Entry) → [] ≡ feed_text more → more ≡ []
no_more [] same = refl
no_more (d ∷ more) same = absurd (omega (arith, ap length same, ap length (flat_map-cons entry_words d more)))

pub feed_one : (a b : List Entry) → All IsSpelled a → All IsSpelled b → feed_text a ≡ feed_text b → a ≡ b
feed_one a b p q same =
    let taken = is_taken a b [] p q (append-nil (feed_text a) ∙ same) in
    sym (taken.1 ∙ ap (λ (more : List Entry). a ++ more) (no_more taken.0 taken.2) ∙ append-nil a)
