-- A key in which no `*` stands doesn't depend on the largest UID.
use Rattle.std.proofs.Common.{◌≡◌, ℕ, Bool, true, false, ◌||◌, ◌&&◌, not, List, [], ◌∷◌, map, refl, sym, ap, subst, ◌∙◌}
use Rattle.std.specs.List.{list_all, list_any}
use Rattle.std.proofs.lemmas.List.Folds.{list_all-map}
use Rattle.dv_model.specs.declared.types.End.{End}
use Rattle.dv_model.specs.declared.types.End.TheVariants.{Number, Star}
use Rattle.dv_model.specs.declared.types.Key.{Key, fold-roll-Key, map-Key, roll-Key}
use Rattle.dv_model.specs.declared.types.Key.TheFolds.{ind-Key}
use Rattle.dv_model.specs.declared.types.Key.TheOpen.{Key-F}
use Rattle.dv_model.specs.declared.types.Key.TheVariants as key
use Rattle.dv_model.specs.declared.types.Key.TheVariants.{rolls-All, rolls-Has, rolls-Lacks, rolls-Keyword, rolls-Uid, rolls-Larger, rolls-Header, rolls-Not, rolls-Or, rolls-And}
use Rattle.dv_model.specs.declared.types.Span.{Span}
use Rattle.dv_model.specs.Searches.{Candidate, meets}
use Rattle.dv_model.specs.Sets.{end_value, is_in_set, is_in_span}
use Rattle.dv_model.proofs.Clients.{false_is_not_true}
use Rattle.dv_model.proofs.Searching.{meets-All, meets-Has, meets-Lacks, meets-Keyword, meets-Uid, meets-Larger, meets-Header, meets-Not, meets-Or, meets-And}
use Rattle.dv_search.specs.Prepared.{with_largest}
use Rattle.dv_search.specs.Stars.{LargestIsForStars, has_star, is_star, names_star, star_step}
use Rattle.dv_search.proofs.Asking.{any_of_made}

-- ---- whether `*` stands in a key: one equation for each kind that has others or a set

star-Uid : (set : List Span) → names_star (key.Uid set) ≡ has_star set
star-Uid set = ap names_star (sym (rolls-Uid set)) ∙ fold-roll-Key Bool star_step (Key-F.Uid set)

star-Not : (inside : Key) → names_star (key.Not inside) ≡ names_star inside
star-Not inside = ap names_star (sym (rolls-Not inside)) ∙ fold-roll-Key Bool star_step (Key-F.Not inside)

star-Or : (one other : Key) → names_star (key.Or one other) ≡ (names_star one || names_star other)
star-Or one other = ap names_star (sym (rolls-Or one other)) ∙ fold-roll-Key Bool star_step (Key-F.Or one other)

star-And : (keys : List Key) → names_star (key.And keys) ≡ list_any (λ star. star) (map names_star keys)
star-And keys = ap names_star (sym (rolls-And keys)) ∙ fold-roll-Key Bool star_step (Key-F.And keys)

-- ---- sets

neither : (a b : Bool) → (a || b) ≡ false → (a ≡ false) × (b ≡ false)
neither true b e = false_is_not_true (sym e)
neither false b e = (refl, e)

same_end : (n m : ℕ) (end : End) → is_star end ≡ false → end_value n end ≡ end_value m end
same_end n m Star e = false_is_not_true (sym e)
same_end n m (Number k) e = refl

same_span : (n m uid : ℕ) (span : Span) → (is_star span.from || is_star span.to) ≡ false → is_in_span n span uid ≡ is_in_span m span uid
same_span n m uid span e =
    let ends = neither (is_star span.from) (is_star span.to) e in
    rw (same_end n m span.from ends.0, same_end n m span.to ends.1) refl

same_set : (n m uid : ℕ) (set : List Span) → has_star set ≡ false → is_in_set n set uid ≡ is_in_set m set uid
same_set n m uid [] e = refl
same_set n m uid (span ∷ set) e =
    let both = neither (is_star span.from || is_star span.to) (has_star set) e in
    ap (λ b. b || is_in_set n set uid) (same_span n m uid span both.0) ∙ ap (λ b. is_in_span m span uid || b) (same_set n m uid set both.1)

-- ---- keys

abbrev IsSame : Key → Type 0
IsSame k = names_star k ≡ false → (c : Candidate) (n : ℕ) → meets k (with_largest n c) ≡ meets k c

abbrev Proved : Type 0
Proved = (k : Key) × IsSame k

abbrev keys_of : List Proved → List Key
keys_of es = map (λ e. e.0) es

any_star : (keys : List Key) → list_any (λ star. star) (map names_star keys) ≡ list_any names_star keys
any_star keys = any_of_made (λ b. b) names_star keys

all_same : (es : List Proved) → list_any names_star (keys_of es) ≡ false → (c : Candidate) (n : ℕ)
    → list_all (λ k. meets k (with_largest n c)) (keys_of es) ≡ list_all (λ k. meets k c) (keys_of es)
all_same [] e c n = refl
all_same (x ∷ es) e c n =
    let both = neither (names_star x.0) (list_any names_star (keys_of es)) e in
    ap (λ b. b && list_all (λ k. meets k (with_largest n c)) (keys_of es)) (x.1 both.0 c n)
    ∙ ap (λ b. meets x.0 c && b) (all_same es both.1 c n)

same-And : (es : List Proved) → IsSame (key.And (keys_of es))
same-And es e c n =
    meets-And (with_largest n c) (keys_of es) ∙ list_all-map (λ met. met (with_largest n c)) meets (keys_of es)
    ∙ all_same es (sym (any_star (keys_of es)) ∙ sym (star-And (keys_of es)) ∙ e) c n
    ∙ sym (list_all-map (λ met. met c) meets (keys_of es)) ∙ sym (meets-And c (keys_of es))

same-Or : (a b : Proved) → IsSame (key.Or a.0 b.0)
same-Or a b e c n =
    let both = neither (names_star a.0) (names_star b.0) (sym (star-Or a.0 b.0) ∙ e) in
    meets-Or (with_largest n c) a.0 b.0
    ∙ ap (λ x. x || meets b.0 (with_largest n c)) (a.1 both.0 c n) ∙ ap (λ x. meets a.0 c || x) (b.1 both.1 c n)
    ∙ sym (meets-Or c a.0 b.0)

-- a key that none is inside
same-All : IsSame key.All
same-All e c n = meets-All (with_largest n c) ∙ sym (meets-All c)

same-Has : (bits : ℕ) → IsSame (key.Has bits)
same-Has bits e c n = meets-Has (with_largest n c) bits ∙ sym (meets-Has c bits)

same-Lacks : (bits : ℕ) → IsSame (key.Lacks bits)
same-Lacks bits e c n = meets-Lacks (with_largest n c) bits ∙ sym (meets-Lacks c bits)

same-Keyword : (name : List ℕ) → IsSame (key.Keyword name)
same-Keyword name e c n = meets-Keyword (with_largest n c) name ∙ sym (meets-Keyword c name)

same-Uid : (set : List Span) → IsSame (key.Uid set)
same-Uid set e c n = meets-Uid (with_largest n c) set ∙ same_set n c.largest_uid c.uid set (sym (star-Uid set) ∙ e) ∙ sym (meets-Uid c set)

same-Larger : (size : ℕ) → IsSame (key.Larger size)
same-Larger size e c n = meets-Larger (with_largest n c) size ∙ sym (meets-Larger c size)

same-Header : (name text : List ℕ) → IsSame (key.Header name text)
same-Header name text e c n = meets-Header (with_largest n c) name text ∙ sym (meets-Header c name text)

same-Not : (a : Proved) → IsSame (key.Not a.0)
same-Not a e c n = meets-Not (with_largest n c) a.0 ∙ ap not (a.1 (sym (star-Not a.0) ∙ e) c n) ∙ sym (meets-Not c a.0)

-- ---- one layer, and what holds of the keys inside it

module _ (A : Type 0) (key_of : A → Key) (same : (a : A) → IsSame (key_of a)) where
  keys_are : (es : List A) → keys_of (map (λ a. (key_of a, same a)) es) ≡ map key_of es
  keys_are [] = refl
  keys_are (a ∷ es) = ap (λ ks. key_of a ∷ ks) (keys_are es)

  rolled : (y : Key-F A) → IsSame (roll-Key (map-Key A Key key_of y))
  rolled Key-F.All = subst IsSame (sym rolls-All) same-All
  rolled (Key-F.Has bits) = subst IsSame (sym (rolls-Has bits)) (same-Has bits)
  rolled (Key-F.Lacks bits) = subst IsSame (sym (rolls-Lacks bits)) (same-Lacks bits)
  rolled (Key-F.Keyword name) = subst IsSame (sym (rolls-Keyword name)) (same-Keyword name)
  rolled (Key-F.Uid set) = subst IsSame (sym (rolls-Uid set)) (same-Uid set)
  rolled (Key-F.Larger size) = subst IsSame (sym (rolls-Larger size)) (same-Larger size)
  rolled (Key-F.Header name text) = subst IsSame (sym (rolls-Header name text)) (same-Header name text)
  rolled (Key-F.Not a) = subst IsSame (sym (rolls-Not (key_of a))) (same-Not (key_of a, same a))
  rolled (Key-F.Or a b) = subst IsSame (sym (rolls-Or (key_of a) (key_of b))) (same-Or (key_of a, same a) (key_of b, same b))
  rolled (Key-F.And es) =
      subst IsSame (sym (rolls-And (map key_of es)))
      (subst (λ ks. IsSame (key.And ks)) (keys_are es) (same-And (map (λ a. (key_of a, same a)) es)))

pub largest_for_stars : LargestIsForStars
largest_for_stars k c n e = ind-Key IsSame (λ x y is. subst (λ z. IsSame (roll-Key z)) is (rolled _ (λ a. a.0) (λ a. a.1) y)) k e c n
