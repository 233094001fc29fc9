-- A set of the keywords of a list, as the list grows.
use Rattle.std.proofs.Common.{◌≡◌, ℕ, Ordering, Bool, true, false, not, ◌||◌, cond, List, [], ◌∷◌, ◌++◌, Bor, None, refl, sym, ◌∙◌, ap}
use Rattle.std.specs.BTreeSet.{BTreeSet, IsEmpty, IsUnchanged, Updates, contains}
use Rattle.std.specs.Cmp.Lexicographic.{slice_cmp}
use Rattle.std.specs.List.{list_any}
use Rattle.std.specs.Ordering.{is_eq, nat_cmp}
use Rattle.std.specs.Str.{bytes_eq}
use Rattle.std.proofs.lemmas.Bool.{true≢false}
use Rattle.std.proofs.lemmas.List.Folds.{list_any-append}
use Rattle.std.proofs.lemmas.Map.Text.{is_eq-slice_cmp}
use Rattle.std.proofs.lemmas.Slice.Eq.{bytes_eq-Decides}
use Rattle.dv_formats.specs.Scripts.{flag_bit, with_flag}
use Rattle.dv_sets.specs.Known.{KnowsAll}

abbrev order : Bor (List ℕ) → Bor (List ℕ) → Ordering
order x y = slice_cmp nat_cmp x.now y.now

pub knows_none : (known : BTreeSet (Bor (List ℕ))) (names : List (List ℕ)) → IsEmpty known → names ≡ [] → KnowsAll known names
knows_none known names none empty = λ name. ap (λ ks. list_any (λ (k : Bor (List ℕ)). is_eq (order name k)) ks) none ∙ ap (list_any (bytes_eq name.now)) (sym empty)

pub knows_same : (old new : BTreeSet (Bor (List ℕ))) (names : List (List ℕ)) → KnowsAll old names → IsUnchanged old new → KnowsAll new names
knows_same old new names knows same = λ name. ap (λ ks. list_any (λ (k : Bor (List ℕ)). is_eq (order name k)) ks) same ∙ knows name

same_bytes : (a b : List ℕ) → bytes_eq a b ≡ bytes_eq b a
same_bytes a b = by_test (bytes_eq a b) refl
  where
    by_test : (t : Bool) → bytes_eq a b ≡ t → t ≡ bytes_eq b a
    by_test true is = sym ((bytes_eq-Decides b a).1 (sym ((bytes_eq-Decides a b).0 is)))
    by_test false is = by_other (bytes_eq b a) refl
      where
        by_other : (t : Bool) → bytes_eq b a ≡ t → false ≡ bytes_eq b a
        by_other true other = absurd (true≢false (sym ((bytes_eq-Decides a b).1 (sym ((bytes_eq-Decides b a).0 other))) ∙ is))
        by_other false other = sym other

pub knows_more : (old new : BTreeSet (Bor (List ℕ))) (word : Bor (List ℕ)) (names : List (List ℕ)) → KnowsAll old names → Updates order old new word true → KnowsAll new (names ++ word.now ∷ [])
knows_more old new word names knows is = λ name.
    let both : list_any (bytes_eq name.now) (names ++ word.now ∷ []) ≡ (list_any (bytes_eq name.now) names || (bytes_eq name.now word.now || false)) = list_any-append (bytes_eq name.now) names (word.now ∷ []) in
    let turn : is_eq (order word name) ≡ bytes_eq name.now word.now = is_eq-slice_cmp word.now name.now ∙ same_bytes word.now name.now in
    is.0 name ∙ rw (turn, knows name) (joined (bytes_eq name.now word.now) (list_any (bytes_eq name.now) names)) ∙ sym both
  where
    joined : (t x : Bool) → cond t true x ≡ (x || (t || false))
    joined true true = refl
    joined true false = refl
    joined false true = refl
    joined false false = refl

-- ---- a word that is or isn't known

pub knows_word : (known : BTreeSet (Bor (List ℕ))) (names : List (List ℕ)) (word : Bor (List ℕ)) (added : Bool) → KnowsAll known names → added ≡ not (contains order known word) → list_any (bytes_eq word.now) names ≡ not added
knows_word known names word added knows e = sym (knows word) ∙ turned (contains order known word) ∙ ap not (sym e)
  where
    turned : (t : Bool) → t ≡ not (not t)
    turned true = refl
    turned false = refl

pub one_new : (flags : ℕ) (keywords : List (List ℕ)) (word : List ℕ) → flag_bit word ≡ None → list_any (bytes_eq word) keywords ≡ false → ◌≡◌ {A = ℕ × List (List ℕ)} (with_flag (flags, keywords) word) (flags, keywords ++ word ∷ [])
one_new flags keywords word none new = rw none (rw new refl)

pub one_again : (flags : ℕ) (keywords : List (List ℕ)) (word : List ℕ) → flag_bit word ≡ None → list_any (bytes_eq word) keywords ≡ true → ◌≡◌ {A = ℕ × List (List ℕ)} (with_flag (flags, keywords) word) (flags, keywords)
one_again flags keywords word none known = rw none (rw known refl)
