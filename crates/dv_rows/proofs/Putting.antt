-- The other keywords of some rows are planned, and then put into the rows.
use Rattle.std.proofs.Common.{◌≡◌, ◌≢◌, ◌⊎◌, inl, inr, ℕ, ◌<◌, ◌≤◌, Bool, true, false, List, [], ◌∷◌, ◌++◌, length, get_or, refl, sym, ◌∙◌, ap, subst, arith, length-set}
use Rattle.std.proofs.Math.ListN.{set}
use Rattle.std.specs.List.{Any}
use Rattle.std.specs.Prelude.{All, map}
use Rattle.std.proofs.lemmas.Bool.{cases_lt}
use Rattle.std.proofs.lemmas.List.{get_or-set_other, get_or-set_same, get_or_default, get_or_append_left, get_or_push, get_or-map, length-map, length_push, same_lists}
use Rattle.dv_model.specs.declared.types.How.{How}
use Rattle.dv_model.specs.declared.types.Pair.{Pair}
use Rattle.dv_model.specs.declared.types.Row.{Row}
use Rattle.dv_model.specs.Effects.{is_in_pairs, keywords_after}
use Rattle.dv_validity.specs.Laws.{restamped}
use Rattle.dv_rows.specs.Changed.{changed_keywords}
use Rattle.dv_rows.specs.Plans.{IsPlan, IsPlanned, IsRight}
use Rattle.dv_rows.specs.declared.keywords.Other.{Other}
use Rattle.dv_rows.proofs.OtherPlaces.{gets_others, stays_out, stays_same}

-- ---- two places

pub same_or : (k at : ℕ) → (k ≡ at) ⊎ (k ≢ at)
same_or k at = go (cases_lt k at) (cases_lt at k)
  where
    go : (k < at) ⊎ (at ≤ k) → (at < k) ⊎ (k ≤ at) → (k ≡ at) ⊎ (k ≢ at)
    go (inl less) o = inr (λ e. omega (arith, e, less))
    go (inr up) (inl more) = inr (λ e. omega (arith, e, more))
    go (inr up) (inr down) = inl (omega (arith, up, down))

-- ---- one more

pub any_left : {X : Type 0} (P : X → Type 0) (xs : List X) (y : X) → Any P xs → Any P (xs ++ y ∷ [])
any_left P xs y a = (a.0, a.1, (let many = length_push xs y in let less = a.2 in omega (arith, many, less)), get_or_append_left xs (y ∷ []) a.1 a.0 a.2 ∙ a.3, a.4)

any_by : {X : Type 0} (P : X → Type 0) (xs : List X) (y : X) (a : Any P (xs ++ y ∷ [])) → (a.0 < length xs) ⊎ (length xs ≤ a.0) → Any P xs ⊎ P y
any_by P xs y a (inl less) = inl (a.0, a.1, less, sym (get_or_append_left xs (y ∷ []) a.1 a.0 less) ∙ a.3, a.4)
any_by P xs y a (inr more) =
    let many = length_push xs y in
    let less = a.2 in
    let last : length xs ≡ a.0 = omega (arith, many, less, more) in
    inr (subst P (sym a.3 ∙ get_or_push xs y a.1 a.0 last) a.4)

pub any_pushed : {X : Type 0} (P : X → Type 0) (xs : List X) (y : X) → Any P (xs ++ y ∷ []) → Any P xs ⊎ P y
any_pushed P xs y a = any_by P xs y a (cases_lt a.0 (length xs))

pub still_planned : (how : How) (place : ℕ) (rows : List Row) (others : List Other) (other : Other) (k : ℕ) → IsPlanned how place rows others k → IsPlanned how place rows (others ++ other ∷ []) k
still_planned how place rows others other k (inl same) = inl same
still_planned how place rows others other k (inr there) = inr (any_left (λ (o : Other). o.at ≡ k) others other there)

-- ---- put into the rows

-- some are put into the rows, and the others are left
pub record IsPutTo (pairs : List Pair) (how : How) (place n : ℕ) (before rows : List Row) (others : List Other) : Type 0 where
  pub same : length rows ≡ length before
  pub right : All (IsRight pairs how place before) others
  pub each : (k : ℕ) (d : Row) → k < length before →
      (get_or rows k d ≡ restamped n (get_or before k d) (changed_keywords pairs (keywords_after how place) (get_or before k d)))
      ⊎ ((get_or rows k d ≡ get_or before k d) × Any (λ other. other.at ≡ k) others)

start_by : (pairs : List Pair) (how : How) (place n : ℕ) (before : List Row) (others : List Other) → IsPlan pairs how place before others → (k : ℕ) (d : Row) → k < length before
    → (b : Bool) → is_in_pairs pairs (get_or before k d).uid ≡ b
    → (get_or before k d ≡ restamped n (get_or before k d) (changed_keywords pairs (keywords_after how place) (get_or before k d))) ⊎ ((get_or before k d ≡ get_or before k d) × Any (λ other. other.at ≡ k) others)
start_by pairs how place n before others plan k d h false out = inl (stays_out pairs (keywords_after how place) n (get_or before k d) out)
start_by pairs how place n before others plan k d h true is = planned (plan.all k d h is)
  where
    planned : IsPlanned how place before others k → (get_or before k d ≡ restamped n (get_or before k d) (changed_keywords pairs (keywords_after how place) (get_or before k d))) ⊎ ((get_or before k d ≡ get_or before k d) × Any (λ other. other.at ≡ k) others)
    planned (inl same) = inl (stays_same pairs (keywords_after how place) n (get_or before k d) (keywords_after how place (get_or before k d).keywords) is refl (same d))
    planned (inr there) = inr (refl, there)

pub put_starts : (pairs : List Pair) (how : How) (place n : ℕ) (before : List Row) (others : List Other) → IsPlan pairs how place before others → IsPutTo pairs how place n before before others
put_starts pairs how place n before others plan = record {
  same = refl;
  right = plan.right;
  each = λ k d h. start_by pairs how place n before others plan k d h (is_in_pairs pairs (get_or before k d).uid) refl;
}

-- the row that a plan's last entry is for
put_here : (pairs : List Pair) (how : How) (place n : ℕ) (before : List Row) (other : Other) (row d : Row) → IsRight pairs how place before other
    → ((row ≡ restamped n (get_or before other.at d) (changed_keywords pairs (keywords_after how place) (get_or before other.at d))) ⊎ (row ≡ get_or before other.at d))
    → record row { keywords = other.keywords; modseq = n } ≡ restamped n (get_or before other.at d) (changed_keywords pairs (keywords_after how place) (get_or before other.at d))
put_here pairs how place n before other row d right (inl was) =
    let gets = gets_others pairs (keywords_after how place) n (get_or before other.at d) other.keywords (right.named d) (right.keywords d) (right.differ d) in
    ap (λ (r : Row). record r { keywords = other.keywords; modseq = n }) (was ∙ sym gets) ∙ gets
put_here pairs how place n before other row d right (inr was) =
    ap (λ (r : Row). record r { keywords = other.keywords; modseq = n }) was
    ∙ gets_others pairs (keywords_after how place) n (get_or before other.at d) other.keywords (right.named d) (right.keywords d) (right.differ d)

pub put_more : (pairs : List Pair) (how : How) (place n : ℕ) (before rows : List Row) (all others : List Other) (other : Other) (row : Row) → IsPutTo pairs how place n before rows all → all ≡ others ++ other ∷ []
    → row ≡ get_or rows other.at row → IsPutTo pairs how place n before (set rows other.at (record row { keywords = other.keywords; modseq = n })) others
put_more pairs how place n before rows all others other row so_far popped read = record {
  same = length-set rows other.at new ∙ so_far.same;
  right = λ k d h. let many = length_push others other in
      subst (IsRight pairs how place before) (get_or_append_left others (other ∷ []) d k h) (subst (All (IsRight pairs how place before)) popped so_far.right k d (omega (arith, many, h)));
  each = λ k d h. each k d h (same_or k other.at);
}
  where
    new : Row
    new = record row { keywords = other.keywords; modseq = n }

    right : IsRight pairs how place before other
    right =
        let many = length_push others other in
        subst (IsRight pairs how place before) (get_or_push others other other (length others) refl) (subst (All (IsRight pairs how place before)) popped so_far.right (length others) other (omega (arith, many)))

    known : (d : Row) → (row ≡ restamped n (get_or before other.at d) (changed_keywords pairs (keywords_after how place) (get_or before other.at d))) ⊎ (row ≡ get_or before other.at d)
    known d = by_each (so_far.each other.at row right.inside)
      where
        here : get_or before other.at row ≡ get_or before other.at d
        here = get_or_default before other.at row d right.inside

        by_each : (get_or rows other.at row ≡ restamped n (get_or before other.at row) (changed_keywords pairs (keywords_after how place) (get_or before other.at row)))
            ⊎ ((get_or rows other.at row ≡ get_or before other.at row) × Any (λ o. o.at ≡ other.at) all) → (row ≡ restamped n (get_or before other.at d) (changed_keywords pairs (keywords_after how place) (get_or before other.at d))) ⊎ (row ≡ get_or before other.at d)
        by_each (inl was) = inl (read ∙ was ∙ ap (λ r. restamped n r (changed_keywords pairs (keywords_after how place) r)) here)
        by_each (inr was) = inr (read ∙ was.0 ∙ here)

    each : (k : ℕ) (d : Row) → k < length before → (k ≡ other.at) ⊎ (k ≢ other.at)
        → (get_or (set rows other.at new) k d ≡ restamped n (get_or before k d) (changed_keywords pairs (keywords_after how place) (get_or before k d))) ⊎ ((get_or (set rows other.at new) k d ≡ get_or before k d) × Any (λ o. o.at ≡ k) others)
    each k d h (inl is) =
        inl
        (ap (λ j. get_or (set rows other.at new) j d) is ∙ get_or-set_same rows other.at new d (let inside = right.inside in let same = so_far.same in omega (arith, inside, same)) ∙ put_here pairs how place n before other row d right (known d)
        ∙ ap (λ j. restamped n (get_or before j d) (changed_keywords pairs (keywords_after how place) (get_or before j d))) (sym is))
    each k d h (inr apart) = by_each (so_far.each k d h)
      where
        by_any : get_or rows k d ≡ get_or before k d → Any (λ (o : Other). o.at ≡ k) others ⊎ (other.at ≡ k)
            → (get_or (set rows other.at new) k d ≡ restamped n (get_or before k d) (changed_keywords pairs (keywords_after how place) (get_or before k d))) ⊎ ((get_or (set rows other.at new) k d ≡ get_or before k d) × Any (λ o. o.at ≡ k) others)
        by_any was (inl there) = inr (get_or-set_other rows other.at k new d apart ∙ was, there)
        by_any was (inr here) = absurd (apart (sym here))

        by_each : (get_or rows k d ≡ restamped n (get_or before k d) (changed_keywords pairs (keywords_after how place) (get_or before k d))) ⊎ ((get_or rows k d ≡ get_or before k d) × Any (λ o. o.at ≡ k) all)
            → (get_or (set rows other.at new) k d ≡ restamped n (get_or before k d) (changed_keywords pairs (keywords_after how place) (get_or before k d))) ⊎ ((get_or (set rows other.at new) k d ≡ get_or before k d) × Any (λ o. o.at ≡ k) others)
        by_each (inl was) = inl (get_or-set_other rows other.at k new d apart ∙ was)
        by_each (inr was) = by_any was.0 (any_pushed (λ (o : Other). o.at ≡ k) others other (subst (λ l. Any (λ (o : Other). o.at ≡ k) l) popped was.1))

pub put_ends : (pairs : List Pair) (how : How) (place n : ℕ) (before rows : List Row) (others : List Other) → IsPutTo pairs how place n before rows others → others ≡ []
    → rows ≡ map (λ row. restamped n row (changed_keywords pairs (keywords_after how place) row)) before
put_ends pairs how place n before rows others so_far none =
    let f : Row → Row = λ row. restamped n row (changed_keywords pairs (keywords_after how place) row) in
    same_lists rows (map f before) (so_far.same ∙ sym (length-map before f)) (λ k d h. let same = so_far.same in by_each k d (omega (arith, h, same)) (so_far.each k d (omega (arith, h, same))))
  where
    by_each : (k : ℕ) (d : Row) → k < length before → (get_or rows k d ≡ restamped n (get_or before k d) (changed_keywords pairs (keywords_after how place) (get_or before k d))) ⊎ ((get_or rows k d ≡ get_or before k d) × Any (λ o. o.at ≡ k) others)
        → get_or rows k d ≡ get_or (map (λ row. restamped n row (changed_keywords pairs (keywords_after how place) row)) before) k d
    by_each k d h (inl was) = was ∙ sym (get_or-map (λ row. restamped n row (changed_keywords pairs (keywords_after how place) row)) before k d d h)
    by_each k d h (inr was) = let there = was.1.2 in let empty : length others ≡ 0 = ap length none in absurd (omega (arith, there, empty))
