-- A keyword is given to rows in their places, and taken back from them.
use Rattle.std.proofs.Common.{◌≡◌, ◌≢◌, ◌⊎◌, inl, inr, ℕ, zero, suc, ◌+◌, ◌<◌, ◌≤◌, Bool, true, false, not, cond, eqb, ltb, List, [], ◌∷◌, ◌++◌, Some, None, Result, Ok, Err, length, get_or, take, drop, refl, sym, ◌∙◌, ap, subst, arith, length-set}
use Rattle.std.proofs.Math.ListN.{set}
use Rattle.std.specs.List.{Any}
use Rattle.std.specs.List.Sorted.{IsPartitionedBy, IsPartitionPoint, IsStrictlyIncreasing}
use Rattle.std.specs.Prelude.{◌||◌, All, Contains, OnErr, OnOk, map, nat_eq}
use Rattle.std.proofs.lemmas.Bool.{cases_lt, eq-eqb, eqb-true, false≢true, le-ltb, ltb-false, ltb-true, ne_eqb}
use Rattle.std.proofs.lemmas.Bool.Decides.{nat_tests}
use Rattle.std.proofs.lemmas.Grind.{get_or_default_zero}
use Rattle.std.proofs.lemmas.List.{get_or-map, get_or-set_other, get_or-set_same, get_or_append_left, get_or_default, get_or_push, length-map, length_push, same_lists, set-get_or}
use Rattle.std.proofs.lemmas.List.Elements.{All-append, All-cons, All-head, All-map, All-nil, All-tail, All-weaker}
use Rattle.std.proofs.lemmas.List.Folds.{list_any-from_Any, list_any_more}
use Rattle.std.proofs.lemmas.Map.Views.{Contains-from_any}
use Rattle.std.proofs.lemmas.List.Kept.{AllPairs-from_increasing}
use Rattle.std.proofs.lemmas.List.Sorted.{IsPartitionedBy-ltb}
use Rattle.dv_keywords.proofs.Changes.{IsPast, goes_before, goes_last, goes_on, is_there, starts, stay_rising}
use Rattle.dv_model.specs.declared.types.How.TheVariants.{Add}
use Rattle.dv_model.specs.declared.types.Pair.{Pair}
use Rattle.dv_model.specs.declared.types.Row.{Row}
use Rattle.dv_model.specs.Effects.{is_as_before, is_in_pairs, keywords_after, with_place, without_place}
use Rattle.dv_validity.proofs.Rows.{map_map, map_same}
use Rattle.dv_validity.specs.Laws.{restamped}
use Rattle.dv_rows.proofs.FlagChanges.{restamped_uid}
use Rattle.dv_rows.proofs.Named.{has_at}
use Rattle.dv_rows.proofs.OtherPlaces.{others, same_places, stays_out}
use Rattle.dv_rows.proofs.Putting.{any_left, any_pushed, same_or}
use Rattle.dv_rows.specs.Adding.{AreGiven, AreInOrder, IsBefore, IsGap, Lacks, added}
use Rattle.dv_rows.specs.Changed.{changed_keywords}
use Rattle.dv_rows.specs.Parted.{HasUid, IsNamed, is_among}
use Rattle.dv_rows.specs.declared.adding.Given.{Given}

-- ---- where a place goes among others

no_fall_numbers : (ps : List ℕ) → IsStrictlyIncreasing ps → (i j d : ℕ) → i ≤ j → j < length ps → get_or ps i d ≤ get_or ps j d
no_fall_numbers ps up i j d le inside = by (cases_lt i j)
  where
    by : (i < j) ⊎ (j ≤ i) → get_or ps i d ≤ get_or ps j d
    by (inl less) = let rises = AllPairs-from_increasing ps up i j d less inside in omega (arith, rises)
    by (inr more) = let same : i ≡ j = omega (arith, le, more) in subst (λ n. get_or ps i d ≤ get_or ps n d) same (omega arith)

pub numbers_split : (ps : List ℕ) (k : ℕ) → IsStrictlyIncreasing ps → IsPartitionedBy (λ n. ltb n k) ps
numbers_split ps k up = IsPartitionedBy-ltb (λ n. n) ps k (λ i j d le inside. no_fall_numbers ps up i j d le inside)

abbrev pub IsSplit : ℕ → List ℕ → ℕ → Type 0
IsSplit k ps at = IsPartitionPoint (λ (n : ℕ). ltb n k ≡ true) (λ (n : ℕ). ltb n k ≡ false) ps at

past_upto : (k : ℕ) (ps : List ℕ) (at : ℕ) → at ≤ length ps → ((i : ℕ) → i < at → get_or ps i 0 < k) → IsPast k ps at
past_upto k ps zero le low = starts k ps
past_upto k ps (suc n) le low =
    let next : n + 1 ≡ suc n = omega arith in
    subst (IsPast k ps) next (goes_on k ps n (past_upto k ps n (omega (arith, le)) (λ i less. low i (omega (arith, less)))) (omega (arith, le)) (low n (omega arith)))

past : (k : ℕ) (ps : List ℕ) (at : ℕ) → at ≤ length ps → IsSplit k ps at → IsPast k ps at
past k ps at le split = past_upto k ps at le (λ i less. ltb-true (get_or ps i 0) k (split.0 i 0 (omega arith) less))

pub place_there : (k : ℕ) (ps : List ℕ) (at : ℕ) → IsSplit k ps at → at < length ps → get_or ps at 0 ≡ k → IsGap k ps None
place_there k ps at split below same = is_there k ps at (past k ps at (omega (arith, below)) split) below same

pub place_goes : (k : ℕ) (ps : List ℕ) (at : ℕ) → IsStrictlyIncreasing ps → at ≤ length ps → IsSplit k ps at → (at < length ps → get_or ps at 0 ≢ k) → IsGap k ps (Some at)
place_goes k ps at up le split other = (le, goes (cases_lt at (length ps)), λ i d h is. lacks i d h is (cases_lt i at))
  where
    above : at < length ps → (k < get_or ps at 0) ⊎ (get_or ps at 0 ≤ k) → k < get_or ps at 0
    above below (inl less) = less
    above below (inr more) =
        let from : k ≤ get_or ps at 0 = ltb-false (get_or ps at 0) k (split.1 at 0 (omega arith) below) in
        absurd (other below (omega (arith, from, more)))

    goes : (at < length ps) ⊎ (length ps ≤ at) → with_place k ps ≡ take at ps ++ k ∷ drop at ps
    goes (inl below) = goes_before k ps at (past k ps at le split) below (above below (cases_lt k (get_or ps at 0)))
    goes (inr end) = goes_last k ps at (past k ps at le split) end

    lacks : (i d : ℕ) → i < length ps → get_or ps i d ≡ k → (i < at) ⊎ (at ≤ i) → ⊥
    lacks i d h is (inl before) = let low = ltb-true (get_or ps i d) k (split.0 i d (omega arith) before) in omega (arith, low, is)
    lacks i d h is (inr from) =
        let below : at < length ps = omega (arith, from, h) in
        let first : k ≤ get_or ps at d = ltb-false (get_or ps at d) k (split.1 at d (omega arith) below) in
        let most : get_or ps at d ≤ get_or ps i d = no_fall_numbers ps up at i d from h in
        let here : get_or ps at d ≡ k = omega (arith, first, most, is) in
        other below (sym (get_or_default_zero ps at d below) ∙ here)

-- ---- a place that was added

never_by : (k p : ℕ) (ps : List ℕ) (a b : Bool) → eqb k p ≡ b → (Lacks k (with_place k ps) → ⊥) → Lacks k (cond a (k ∷ p ∷ ps) (cond b (p ∷ ps) (p ∷ with_place k ps))) → ⊥
never_by k p ps true b e more lacks = All-head (λ x. x ≢ k) k (p ∷ ps) lacks refl
never_by k p ps false true e more lacks = All-head (λ x. x ≢ k) p ps lacks (sym (eqb-true k p e))
never_by k p ps false false e more lacks = more (All-tail (λ x. x ≢ k) p (with_place k ps) lacks)

-- it is there
pub never_lacks : (k : ℕ) (ps : List ℕ) → Lacks k (with_place k ps) → ⊥
never_lacks k [] lacks = All-head (λ x. x ≢ k) k [] lacks refl
never_lacks k (p ∷ ps) lacks = never_by k p ps (ltb k p) (eqb k p) refl (never_lacks k ps) lacks

keeps_one : (k p : ℕ) (ps : List ℕ) → p ≢ k → without_place k (p ∷ ps) ≡ p ∷ without_place k ps
keeps_one k p ps other = ap (λ b. cond (not b) (p ∷ without_place k ps) (without_place k ps)) (ne_eqb p k other)

drops_one : (k : ℕ) (ps : List ℕ) → without_place k (k ∷ ps) ≡ without_place k ps
drops_one k ps = ap (λ b. cond (not b) (k ∷ without_place k ps) (without_place k ps)) (eq-eqb k k refl)

pub without_same : (k : ℕ) (ps : List ℕ) → Lacks k ps → without_place k ps ≡ ps
without_same k [] lacks = refl
without_same k (p ∷ ps) lacks = keeps_one k p ps (All-head (λ x. x ≢ k) p ps lacks) ∙ ap (λ l. p ∷ l) (without_same k ps (All-tail (λ x. x ≢ k) p ps lacks))

without_by : (k p : ℕ) (ps : List ℕ) (a b : Bool) → Lacks k (p ∷ ps) → without_place k (with_place k ps) ≡ ps → without_place k (cond a (k ∷ p ∷ ps) (cond b (p ∷ ps) (p ∷ with_place k ps))) ≡ p ∷ ps
without_by k p ps true b lacks more = drops_one k (p ∷ ps) ∙ without_same k (p ∷ ps) lacks
without_by k p ps false true lacks more = without_same k (p ∷ ps) lacks
without_by k p ps false false lacks more = keeps_one k p (with_place k ps) (All-head (λ x. x ≢ k) p ps lacks) ∙ ap (λ l. p ∷ l) more

-- and taken away again leaves what was there
pub without_with : (k : ℕ) (ps : List ℕ) → Lacks k ps → without_place k (with_place k ps) ≡ ps
without_with k [] lacks = drops_one k []
without_with k (p ∷ ps) lacks = without_by k p ps (ltb k p) (eqb k p) lacks (without_with k ps (All-tail (λ x. x ≢ k) p ps lacks))

with_first : (k : ℕ) (ps : List ℕ) → with_place k (k ∷ ps) ≡ k ∷ ps
with_first k ps =
    ap (λ a. cond a (k ∷ k ∷ ps) (cond (eqb k k) (k ∷ ps) (k ∷ with_place k ps))) (le-ltb k k (omega arith)) ∙ ap (λ b. cond b (k ∷ ps) (k ∷ with_place k ps)) (eq-eqb k k refl)

twice_by : (k p : ℕ) (ps : List ℕ) (a b : Bool) → ltb k p ≡ a → eqb k p ≡ b → with_place k (with_place k ps) ≡ with_place k ps
    → with_place k (cond a (k ∷ p ∷ ps) (cond b (p ∷ ps) (p ∷ with_place k ps))) ≡ cond a (k ∷ p ∷ ps) (cond b (p ∷ ps) (p ∷ with_place k ps))
twice_by k p ps true b e f more = with_first k (p ∷ ps)
twice_by k p ps false true e f more = ap (λ a. cond a (k ∷ p ∷ ps) (cond (eqb k p) (p ∷ ps) (p ∷ with_place k ps))) e ∙ ap (λ b. cond b (p ∷ ps) (p ∷ with_place k ps)) f
twice_by k p ps false false e f more =
    ap (λ a. cond a (k ∷ p ∷ with_place k ps) (cond (eqb k p) (p ∷ with_place k ps) (p ∷ with_place k (with_place k ps)))) e
    ∙ ap (λ b. cond b (p ∷ with_place k ps) (p ∷ with_place k (with_place k ps))) f ∙ ap (λ l. p ∷ l) more

with_twice : (k : ℕ) (ps : List ℕ) → with_place k (with_place k ps) ≡ with_place k ps
with_twice k [] = with_first k []
with_twice k (p ∷ ps) = twice_by k p ps (ltb k p) (eqb k p) refl refl (with_twice k ps)

-- ---- a row with the keyword

keywords_by : (b : Bool) (n : ℕ) (row : Row) (places : List ℕ) → (cond b (record row { keywords = places }) (record row { keywords = places; modseq = n })).keywords ≡ places
keywords_by true n row places = refl
keywords_by false n row places = refl

added_keywords : (n k : ℕ) (row : Row) → (added n k row).keywords ≡ with_place k row.keywords
added_keywords n k row = keywords_by (is_as_before (record row { keywords = with_place k row.keywords }) row) n row (with_place k row.keywords)

pub added_uid : (n k : ℕ) (row : Row) → (added n k row).uid ≡ row.uid
added_uid n k row = restamped_uid n row (record row { keywords = with_place k row.keywords })

added_twice : (n k : ℕ) (row : Row) → added n k (added n k row) ≡ added n k row
added_twice n k row =
    sym (same_places n (added n k row) (with_place k (added n k row).keywords) (ap (with_place k) (added_keywords n k row) ∙ with_twice k row.keywords ∙ sym (added_keywords n k row)))

pub added_rises : (n k : ℕ) (row : Row) → IsStrictlyIncreasing row.keywords → IsStrictlyIncreasing (added n k row).keywords
added_rises n k row up = subst IsStrictlyIncreasing (sym (added_keywords n k row)) (stay_rising Add k row.keywords up)

-- some rows are given it
abbrev pub some_added : ℕ → ℕ → (ℕ → Bool) → Row → Row
some_added n k test row = cond (test row.uid) (added n k row) row

uid_by : (b : Bool) (n k : ℕ) (row : Row) → (cond b (added n k row) row).uid ≡ row.uid
uid_by true n k row = added_uid n k row
uid_by false n k row = refl

pub some_uid : (n k : ℕ) (test : ℕ → Bool) (row : Row) → (some_added n k test row).uid ≡ row.uid
some_uid n k test row = uid_by (test row.uid) n k row

rises_by : (b : Bool) (n k : ℕ) (row : Row) → IsStrictlyIncreasing row.keywords → IsStrictlyIncreasing (cond b (added n k row) row).keywords
rises_by true n k row up = added_rises n k row up
rises_by false n k row up = up

pub some_rise : (n k : ℕ) (test : ℕ → Bool) (rows : List Row) → AreInOrder rows → AreInOrder (map (some_added n k test) rows)
some_rise n k test rows up =
    All-map (λ (row : Row). IsStrictlyIncreasing row.keywords) (some_added n k test) rows
    (All-weaker (λ (row : Row). IsStrictlyIncreasing row.keywords) (λ (row : Row). IsStrictlyIncreasing (some_added n k test row).keywords) (λ row h. rises_by (test row.uid) n k row h) rows up)

again_by : (a b : Bool) (n k : ℕ) (row : Row) → cond b (added n k (cond a (added n k row) row)) (cond a (added n k row) row) ≡ cond (a || b) (added n k row) row
again_by true true n k row = added_twice n k row
again_by true false n k row = refl
again_by false true n k row = refl
again_by false false n k row = refl

-- a further one is given it
pub one_more : (n k uid : ℕ) (test : ℕ → Bool) (row : Row) → some_added n k (nat_eq uid) (some_added n k test row) ≡ cond (test row.uid || nat_eq uid row.uid) (added n k row) row
one_more n k uid test row =
    ap (λ (u : ℕ). cond (nat_eq uid u) (added n k (some_added n k test row)) (some_added n k test row)) (some_uid n k test row) ∙ again_by (test row.uid) (nat_eq uid row.uid) n k row

-- ---- rows that are given it

pub given_none : (k n : ℕ) (rows : List Row) → AreGiven k n rows rows []
given_none k n rows = record { same = refl; right = All-nil (IsBefore k rows); each = λ i d h. inl refl }

-- a row that lacks it is as before
was_before : (k n : ℕ) (before rows : List Row) (given : List Given) (at : ℕ) → AreGiven k n before rows given → at < length rows → ((d : Row) → Lacks k (get_or rows at d).keywords) → (d : Row) → get_or rows at d ≡ get_or before at d
was_before k n before rows given at so_far inside lacks d = by (so_far.each at d (let same = so_far.same in omega (arith, inside, same)))
  where
    by : (get_or rows at d ≡ get_or before at d) ⊎ (Any (λ (g : Given). g.at ≡ at) given × (get_or rows at d ≡ record (get_or before at d) { keywords = with_place k (get_or before at d).keywords; modseq = n })) → get_or rows at d ≡ get_or before at d
    by (inl is) = is
    by (inr has) = absurd (never_lacks k (get_or before at d).keywords (subst (Lacks k) (ap (λ (r : Row). r.keywords) has.1) (lacks d)))

-- its place is noted
pub given_noted : (k n : ℕ) (before rows : List Row) (given : List Given) (g : Given) → AreGiven k n before rows given → g.at < length rows → ((d : Row) → Lacks k (get_or rows g.at d).keywords) → ((d : Row) → g.modseq ≡ (get_or rows g.at d).modseq)
    → AreGiven k n before rows (given ++ g ∷ [])
given_noted k n before rows given g so_far inside lacks modseq =
    let was = was_before k n before rows given g.at so_far inside lacks in
    let same = so_far.same in
    record {
      same = so_far.same;
      right = All-append (IsBefore k before) given (g ∷ []) so_far.right
          (All-cons (IsBefore k before) g []
          (record { inside = omega (arith, inside, same); lacks = λ d. subst (λ (r : Row). Lacks k r.keywords) (was d) (lacks d); modseq = λ d. modseq d ∙ ap (λ (r : Row). r.modseq) (was d) })
          (All-nil (IsBefore k before)));
      each = λ i d h. each i d (so_far.each i d h);
    }
  where
    each : (i : ℕ) (d : Row) → (get_or rows i d ≡ get_or before i d) ⊎ (Any (λ (g : Given). g.at ≡ i) given × (get_or rows i d ≡ record (get_or before i d) { keywords = with_place k (get_or before i d).keywords; modseq = n }))
        → (get_or rows i d ≡ get_or before i d) ⊎ (Any (λ (g : Given). g.at ≡ i) (given ++ g ∷ []) × (get_or rows i d ≡ record (get_or before i d) { keywords = with_place k (get_or before i d).keywords; modseq = n }))
    each i d (inl is) = inl is
    each i d (inr has) = inr (any_left (λ (g : Given). g.at ≡ i) given g has.0, has.1)

any_last : (given : List Given) (g : Given) → Any (λ (o : Given). o.at ≡ g.at) (given ++ g ∷ [])
any_last given g = (length given, g, (let many = length_push given g in omega (arith, many)), get_or_push given g g (length given) refl, refl)

-- and it is given the keyword
pub given_set : (k n : ℕ) (before rows : List Row) (given : List Given) (g : Given) (new : Row) → AreGiven k n before rows given → g.at < length rows → ((d : Row) → Lacks k (get_or rows g.at d).keywords)
    → AreGiven k n before rows (given ++ g ∷ []) → ((d : Row) → new ≡ record (get_or rows g.at d) { keywords = with_place k (get_or rows g.at d).keywords; modseq = n })
    → AreGiven k n before (set rows g.at new) (given ++ g ∷ [])
given_set k n before rows given g new so_far inside lacks noted is = record {
  same = length-set rows g.at new ∙ so_far.same;
  right = noted.right;
  each = λ i d h. each i d h (same_or i g.at);
}
  where
    each : (i : ℕ) (d : Row) → i < length before → (i ≡ g.at) ⊎ (i ≢ g.at)
        → (get_or (set rows g.at new) i d ≡ get_or before i d) ⊎ (Any (λ (o : Given). o.at ≡ i) (given ++ g ∷ []) × (get_or (set rows g.at new) i d ≡ record (get_or before i d) { keywords = with_place k (get_or before i d).keywords; modseq = n }))
    each i d h (inl here) = inr (
      subst (λ j. Any (λ (o : Given). o.at ≡ j) (given ++ g ∷ [])) (sym here) (any_last given g),
      ap (λ j. get_or (set rows g.at new) j d) here ∙ get_or-set_same rows g.at new d inside ∙ is d
          ∙ ap (λ (r : Row). record r { keywords = with_place k r.keywords; modseq = n }) (was_before k n before rows given g.at so_far inside lacks d)
          ∙ ap (λ j. record (get_or before j d) { keywords = with_place k (get_or before j d).keywords; modseq = n }) (sym here),
    )
    each i d h (inr apart) = by (noted.each i d h)
      where
        by : (get_or rows i d ≡ get_or before i d) ⊎ (Any (λ (o : Given). o.at ≡ i) (given ++ g ∷ []) × (get_or rows i d ≡ record (get_or before i d) { keywords = with_place k (get_or before i d).keywords; modseq = n }))
            → (get_or (set rows g.at new) i d ≡ get_or before i d) ⊎ (Any (λ (o : Given). o.at ≡ i) (given ++ g ∷ []) × (get_or (set rows g.at new) i d ≡ record (get_or before i d) { keywords = with_place k (get_or before i d).keywords; modseq = n }))
        by (inl was) = inl (get_or-set_other rows g.at i new d apart ∙ was)
        by (inr was) = inr (was.0, get_or-set_other rows g.at i new d apart ∙ was.1)

pub either_way : {A E : Type 0} {P Q C : Type 0} (r : Result A E) → OnOk r P → OnErr r Q → (P → C) → (Q → C) → C
either_way (Ok a) p q f g = f p
either_way (Err e) p q f g = g q

-- so it is, or it stays without memory
pub given_more : (k n : ℕ) (before rows : List Row) (given items : List Given) (g : Given) (new d : Row) → AreGiven k n before rows given → g.at < length rows → Lacks k (get_or rows g.at d).keywords → g.modseq ≡ (get_or rows g.at d).modseq
    → items ≡ given ++ g ∷ [] → (new ≡ record (get_or rows g.at d) { keywords = with_place k (get_or rows g.at d).keywords; modseq = n }) ⊎ (new ≡ get_or rows g.at d)
    → AreGiven k n before (set rows g.at new) items
given_more k n before rows given items g new d so_far inside lacks modseq pushed which = subst (AreGiven k n before (set rows g.at new)) (sym pushed) (by which)
  where
    same : (e : Row) → get_or rows g.at d ≡ get_or rows g.at e
    same e = get_or_default rows g.at d e inside

    lack : (e : Row) → Lacks k (get_or rows g.at e).keywords
    lack e = subst (λ (r : Row). Lacks k r.keywords) (same e) lacks

    noted : AreGiven k n before rows (given ++ g ∷ [])
    noted = given_noted k n before rows given g so_far inside lack (λ e. modseq ∙ ap (λ (r : Row). r.modseq) (same e))

    by : (new ≡ record (get_or rows g.at d) { keywords = with_place k (get_or rows g.at d).keywords; modseq = n }) ⊎ (new ≡ get_or rows g.at d) → AreGiven k n before (set rows g.at new) (given ++ g ∷ [])
    by (inl is) = given_set k n before rows given g new so_far inside lack noted (λ e. is ∙ ap (λ (r : Row). record r { keywords = with_place k r.keywords; modseq = n }) (same e))
    by (inr stays) = subst (λ rs. AreGiven k n before rs (given ++ g ∷ [])) (sym (ap (set rows g.at) stays ∙ set-get_or rows g.at d)) noted

-- a row that had it is as before
pub had_it : (k n : ℕ) (rows : List Row) (at : ℕ) (d : Row) → with_place k (get_or rows at d).keywords ≡ (get_or rows at d).keywords → rows ≡ set rows at (added n k (get_or rows at d))
had_it k n rows at d same = sym (ap (set rows at) (sym (same_places n (get_or rows at d) (with_place k (get_or rows at d).keywords) same)) ∙ set-get_or rows at d)

-- another keyword gives the row the number
pub was_added : (k n : ℕ) (row : Row) → Lacks k row.keywords → record row { keywords = with_place k row.keywords; modseq = n } ≡ added n k row
was_added k n row lacks = others n row (with_place k row.keywords) (λ same. never_lacks k row.keywords (subst (Lacks k) (sym same) lacks))

-- ---- and from which it is taken back

pub taken_back : (k n : ℕ) (before rows : List Row) (all given : List Given) (g : Given) (new : Row) → AreGiven k n before rows all → all ≡ given ++ g ∷ [] → g.at < length rows
    → ((d : Row) → new ≡ record (get_or rows g.at d) { keywords = without_place k (get_or rows g.at d).keywords; modseq = g.modseq })
    → AreGiven k n before (set rows g.at new) given
taken_back k n before rows all given g new so_far popped inside is = record {
  same = length-set rows g.at new ∙ so_far.same;
  right = λ i d h. let many = length_push given g in
      subst (IsBefore k before) (get_or_append_left given (g ∷ []) d i h) (subst (All (IsBefore k before)) popped so_far.right i d (omega (arith, many, h)));
  each = λ i d h. each i d h (same_or i g.at);
}
  where
    right : IsBefore k before g
    right =
        let many = length_push given g in
        subst (IsBefore k before) (get_or_push given g g (length given) refl) (subst (All (IsBefore k before)) popped so_far.right (length given) g (omega (arith, many)))

    back : (r : Row) (d : Row) → (r ≡ get_or before g.at d) ⊎ (r ≡ record (get_or before g.at d) { keywords = with_place k (get_or before g.at d).keywords; modseq = n })
        → record r { keywords = without_place k r.keywords; modseq = g.modseq } ≡ get_or before g.at d
    back r d (inl was) =
        ap (λ (x : Row). record x { keywords = without_place k x.keywords; modseq = g.modseq }) was
        ∙ ap (λ ks. record (get_or before g.at d) { keywords = ks; modseq = g.modseq }) (without_same k (get_or before g.at d).keywords (right.lacks d))
        ∙ ap (λ m. record (get_or before g.at d) { modseq = m }) (right.modseq d)
    back r d (inr was) =
        ap (λ (x : Row). record x { keywords = without_place k x.keywords; modseq = g.modseq }) was
        ∙ ap (λ ks. record (get_or before g.at d) { keywords = ks; modseq = g.modseq }) (without_with k (get_or before g.at d).keywords (right.lacks d))
        ∙ ap (λ m. record (get_or before g.at d) { modseq = m }) (right.modseq d)

    known : (d : Row) → (get_or rows g.at d ≡ get_or before g.at d) ⊎ (Any (λ (o : Given). o.at ≡ g.at) all × (get_or rows g.at d ≡ record (get_or before g.at d) { keywords = with_place k (get_or before g.at d).keywords; modseq = n }))
        → (get_or rows g.at d ≡ get_or before g.at d) ⊎ (get_or rows g.at d ≡ record (get_or before g.at d) { keywords = with_place k (get_or before g.at d).keywords; modseq = n })
    known d (inl was) = inl was
    known d (inr was) = inr was.1

    each : (i : ℕ) (d : Row) → i < length before → (i ≡ g.at) ⊎ (i ≢ g.at)
        → (get_or (set rows g.at new) i d ≡ get_or before i d) ⊎ (Any (λ (o : Given). o.at ≡ i) given × (get_or (set rows g.at new) i d ≡ record (get_or before i d) { keywords = with_place k (get_or before i d).keywords; modseq = n }))
    each i d h (inl here) =
        inl
        (ap (λ j. get_or (set rows g.at new) j d) here ∙ get_or-set_same rows g.at new d inside ∙ is d
        ∙ back (get_or rows g.at d) d (known d (so_far.each g.at d right.inside)) ∙ ap (λ j. get_or before j d) (sym here))
    each i d h (inr apart) = by (so_far.each i d h)
      where
        by_any : get_or rows i d ≡ record (get_or before i d) { keywords = with_place k (get_or before i d).keywords; modseq = n } → Any (λ (o : Given). o.at ≡ i) given ⊎ (g.at ≡ i)
            → (get_or (set rows g.at new) i d ≡ get_or before i d) ⊎ (Any (λ (o : Given). o.at ≡ i) given × (get_or (set rows g.at new) i d ≡ record (get_or before i d) { keywords = with_place k (get_or before i d).keywords; modseq = n }))
        by_any was (inl there) = inr (there, get_or-set_other rows g.at i new d apart ∙ was)
        by_any was (inr same) = absurd (apart (sym same))

        by : (get_or rows i d ≡ get_or before i d) ⊎ (Any (λ (o : Given). o.at ≡ i) all × (get_or rows i d ≡ record (get_or before i d) { keywords = with_place k (get_or before i d).keywords; modseq = n }))
            → (get_or (set rows g.at new) i d ≡ get_or before i d) ⊎ (Any (λ (o : Given). o.at ≡ i) given × (get_or (set rows g.at new) i d ≡ record (get_or before i d) { keywords = with_place k (get_or before i d).keywords; modseq = n }))
        by (inl was) = inl (get_or-set_other rows g.at i new d apart ∙ was)
        by (inr was) = by_any was.1 (any_pushed (λ (o : Given). o.at ≡ i) given g (subst (λ l. Any (λ (o : Given). o.at ≡ i) l) popped was.0))

-- where none is left, all rows are as before
pub all_back : (k n : ℕ) (before rows : List Row) (given : List Given) → AreGiven k n before rows given → given ≡ [] → rows ≡ before
all_back k n before rows given so_far none =
    same_lists rows before so_far.same (λ i d h. let same = so_far.same in by i d (so_far.each i d (omega (arith, h, same))))
  where
    by : (i : ℕ) (d : Row) → (get_or rows i d ≡ get_or before i d) ⊎ (Any (λ (o : Given). o.at ≡ i) given × (get_or rows i d ≡ record (get_or before i d) { keywords = with_place k (get_or before i d).keywords; modseq = n })) → get_or rows i d ≡ get_or before i d
    by i d (inl was) = was
    by i d (inr was) = let there = was.0.2 in let empty : length given ≡ 0 = ap length none in absurd (omega (arith, there, empty))

-- ---- the rows in ranges

eq_turned : (a b : ℕ) → nat_eq a b ≡ nat_eq b a
eq_turned a b = grind (arith, nat_tests)

pub among_next : (n k : ℕ) (uids : List ℕ) (i uid : ℕ) (before rows new : List Row) → i < length uids → uid ≡ get_or uids i 0 → rows ≡ map (some_added n k (is_among (take i uids))) before
    → new ≡ map (some_added n k (nat_eq uid)) rows → new ≡ map (some_added n k (is_among (take (i + 1) uids))) before
among_next n k uids i uid before rows new h at so_far is =
    is ∙ ap (map (some_added n k (nat_eq uid))) so_far ∙ map_map (some_added n k (nat_eq uid)) (some_added n k (is_among (take i uids))) before
    ∙ map_same (λ row. some_added n k (nat_eq uid) (some_added n k (is_among (take i uids)) row)) (some_added n k (is_among (take (i + 1) uids)))
    (λ row. one_more n k uid (is_among (take i uids)) row
    ∙ ap (λ b. cond (is_among (take i uids) row.uid || b) (added n k row) row) (eq_turned uid row.uid ∙ ap (nat_eq row.uid) at)
    ∙ ap (λ b. cond b (added n k row) row) (sym (list_any_more (nat_eq row.uid) uids i 0 h)))
    before

none_among : (uids : List ℕ) (uid : ℕ) (b : Bool) → is_among uids uid ≡ b → (Contains uids uid → ⊥) → b ≡ false
none_among uids uid true e none = absurd (none (Contains-from_any (λ x y e. eqb-true x y e) uid uids e))
none_among uids uid false e none = refl

one_among : (uids : List ℕ) (uid : ℕ) → Contains uids uid → is_among uids uid ≡ true
one_among uids uid (i, h, at) = list_any-from_Any (nat_eq uid) uids (i, uid, h, at, eq-eqb uid uid refl)

-- where none was there before, it was named
pub named_only : (uid : ℕ) (before : List ℕ) → before ≡ [] → (P : Type 0) → Contains before uid ⊎ P → P
named_only uid before none P (inl has) = let there = has.1 in let empty : length before ≡ 0 = ap length none in absurd (omega (arith, there, empty))
named_only uid before none P (inr is) = is

-- the rows that were named are those in the ranges
pub named_added : (n k : ℕ) (pairs : List Pair) (uids : List ℕ) (rows : List Row)
    → ((uid : ℕ) → IsNamed (λ (p : Pair). p.first) (λ (p : Pair). p.last) pairs rows uid → Contains uids uid)
    → ((uid : ℕ) → Contains uids uid → IsNamed (λ (p : Pair). p.first) (λ (p : Pair). p.last) pairs rows uid)
    → map (some_added n k (is_among uids)) rows ≡ map (λ row. restamped n row (changed_keywords pairs (keywords_after Add k) row)) rows
named_added n k pairs uids rows named only =
    same_lists (map (some_added n k (is_among uids)) rows) (map (λ row. restamped n row (changed_keywords pairs (keywords_after Add k) row)) rows)
    (length-map rows (some_added n k (is_among uids)) ∙ sym (length-map rows (λ row. restamped n row (changed_keywords pairs (keywords_after Add k) row))))
    (λ i d h.
    let long : length (map (some_added n k (is_among uids)) rows) ≡ length rows = length-map rows (some_added n k (is_among uids)) in
    let inside : i < length rows = omega (arith, h, long) in
    get_or-map (some_added n k (is_among uids)) rows i d d inside
    ∙ by (get_or rows i d) (has_at rows i d inside) (is_in_pairs pairs (get_or rows i d).uid) refl
    ∙ sym (get_or-map (λ row. restamped n row (changed_keywords pairs (keywords_after Add k) row)) rows i d d inside))
  where
    by : (row : Row) → HasUid rows row.uid → (b : Bool) → is_in_pairs pairs row.uid ≡ b → some_added n k (is_among uids) row ≡ restamped n row (changed_keywords pairs (keywords_after Add k) row)
    by row there true e =
        ap (λ b. cond b (added n k row) row) (one_among uids row.uid (named row.uid (there, e)))
        ∙ sym (ap (λ b. restamped n row (cond b (record row { keywords = with_place k row.keywords }) row)) e)
    by row there false e =
        ap (λ b. cond b (added n k row) row) (none_among uids row.uid (is_among uids row.uid) refl (λ has. false≢true (sym e ∙ (only row.uid has).1)))
        ∙ stays_out pairs (keywords_after Add k) n row e
