-- Each step on a roll keeps its rule.
use Rattle.std.proofs.Common.{◌≡◌, ◌≢◌, ◌⊎◌, ℕ, zero, suc, ◌+◌, List, [], ◌∷◌, ◌++◌, length, set, true, false, true≢false, refl, sym, ap, ◌∙◌, subst, ⊎_elim, arith, length-append}
use Rattle.std.specs.Prelude.{slice_index}
use mathlib.Core.Option.{none, some, some-ne-none, some-injective}
use mathlib.Core.List.{IsPrefix}
use lib.ListN.{get_elem?}
use Rattle.atomic_table.specs.Seated.{TableId}
use Rattle.atomic_table.specs.Table.{State, Me, step, keeps, Allows, Splits, Joins}
use Rattle.atomic_table.proofs.Lists.{at_set, at_snoc, set_again}
use Rattle.dv_front.specs.declared.roll_rule.RollView.{RollView}
use Rattle.dv_front.specs.Lists.{longer}
use Rattle.dv_front.specs.RollRule.{FitsRoll, IsRoll}
use Rattle.dv_front.specs.RollSteps.{Appended, ItemsCompared, ItemsLearned, first_view, hearing, knowing, leaf_of, spent_view}
use Rattle.dv_front.proofs.Prefixes.{either_begins, longer_cases, longer_left, longer_right, prefix_self, prefix_trans}

off : false ≡ true → ⊥
off e = true≢false (sym e)

-- a fact of each view, where one view changes
each_set : (P : ℕ → RollView → Type 0) (views : List RollView) (by : ℕ) (w : RollView)
    → ((j : ℕ) (u : RollView) → j ≢ by → get_elem? views j ≡ some u → P j u) → P by w
    → (j : ℕ) (u : RollView) → get_elem? (set views by w) j ≡ some u → P j u
each_set P views by w others own j u e =
    ⊎_elim
    (λ (x : (j ≡ by) × (w ≡ u)). subst (λ (y : ℕ × RollView). P y.0 y.1) (λ i. (sym x.0 i, x.1 i)) own)
    (λ (x : (j ≢ by) × (get_elem? views j ≡ some u)). others j u x.0 x.1)
    (at_set views by j w u e)

abbrev H : State ℕ RollView → Type 0
H s = IsRoll s.words s.views

-- of each view that isn't spent, by its place
abbrev Fitting : (words : List ℕ) (views : List RollView) → IsRoll words views → ℕ → RollView → Type 0
Fitting words views h j u = u.live ≡ true → FitsRoll h.seat h.items j u

-- the word stays, and one view changes
looked_on : (words : List ℕ) (views : List RollView) (id : ℕ) (w : RollView)
    → (h : IsRoll words views) → Fitting words views h id w
    → IsRoll (set words 0 (slice_index words 0)) (set views id w)
looked_on words views id w h own = record {
  seat = h.seat;
  items = h.items;
  words_are = ap (λ (ws : List ℕ). set ws 0 (slice_index ws 0)) h.words_are;
  fits = each_set (Fitting words views h) views id w (λ j u apart e. h.fits j u e) own;
}

pub appends : (slots id : ℕ) (me : Me ℕ RollView) (n : ℕ) (t : TableId) → me.0.rolls ≡ true → me.0.live ≡ true → n ≡ length me.0.own + 1
    → Allows H slots id me 0 (λ _. n) (λ _. Appended t (step slots 0 n 0 none) me n)
appends slots id me n t rolls live is s h _ at _ =
    let v = me.0 in
    let mine = (h.fits id v at live).rolls rolls in
    let now = v.own ++ t ∷ [] in
    let w : RollView = knowing v now in
    let longer_by : n ≡ length now = omega (arith, length-append v.own (t ∷ []), is) in
    let grown : IsPrefix h.items now = (t ∷ [], ap (λ (xs : List TableId). xs ++ t ∷ []) (sym mine.1)) in (
      w,
      keeps,
      tt,
      record {
        seat = h.seat;
        items = now;
        words_are = (λ i. set (h.words_are i) 0 (longer_by i));
        fits = each_set (λ j u. u.live ≡ true → FitsRoll h.seat now j u) s.views id w
            (λ j u apart e alive. let f = h.fits j u e alive in
            record {
              own = prefix_trans u.own h.items now f.own grown;
              told = prefix_trans u.told h.items now f.told grown;
              rolls = λ p. absurd (apart ((f.rolls p).0 ∙ sym mine.0));
            })
            (λ _. record { own = prefix_self now; told = prefix_self now; rolls = λ _. (mine.0, refl) });
      },
      refl,
    )

pub compares : (slots id : ℕ) (me : Me ℕ RollView) → me.0.live ≡ true → Allows H slots id me 0 (λ n. n) (ItemsCompared (step slots 0 0 0 none) me)
compares slots id me live s h _ at _ =
    let v = me.0 in
    let own = h.fits id v at live in
    let w : RollView = knowing v v.own in (
      w,
      keeps,
      tt,
      looked_on s.words s.views id w h (λ _. record { own = own.own; told = own.own; rolls = λ p. own.rolls p }),
      record {
        either = either_begins v.told v.own h.items own.told own.own;
        rolls = λ p. subst (λ xs. IsPrefix v.told xs) (sym (own.rolls p).1) own.told;
        now = refl;
      },
    )

pub learns : (slots id : ℕ) (me : Me ℕ RollView) → me.0.rolls ≡ false → me.0.live ≡ true → Allows H slots id me 0 (λ n. n) (ItemsLearned (step slots 0 0 0 none) me)
learns slots id me leaf live s h _ at _ =
    let v = me.0 in
    let own = h.fits id v at live in
    let xs = longer v.own v.told in
    let w : RollView = knowing v xs in
    let begins : IsPrefix xs h.items = longer_cases (λ ys. IsPrefix ys h.items) v.own v.told (λ _. own.own) (λ _. own.told) in (
      w,
      keeps,
      tt,
      looked_on s.words s.views id w h (λ _. record { own = begins; told = begins; rolls = λ p. absurd (off (sym leaf ∙ p)) }),
      record {
        own = longer_left v.own v.told h.items own.own own.told;
        told = longer_right v.own v.told h.items own.own own.told;
        now = refl;
      },
    )

-- the same word with other views
with_views : (words : List ℕ) (views views' : List RollView) (h : IsRoll words views)
    → ((id : ℕ) (v : RollView) → get_elem? views' id ≡ some v → Fitting words views h id v) → IsRoll words views'
with_views words views views' h fits = record { seat = h.seat; items = h.items; words_are = h.words_are; fits = fits }

pub shares : (id : ℕ) (v : RollView) → v.live ≡ true → Splits H id v v (leaf_of v)
shares id v live s h at =
    let own = h.fits id v at live in
    let P : ℕ → RollView → Type 0 = Fitting s.words s.views h in
    with_views s.words s.views (set s.views id v ++ leaf_of v ∷ []) h
    (λ j u e. ⊎_elim
    (λ was. h.fits j u (subst (λ l. get_elem? l j ≡ some u) (set_again s.views id v at) was))
    (λ (same : leaf_of v ≡ u). subst (P j) same (λ _. record { own = own.own; told = own.own; rolls = λ p. absurd (off p) }))
    (at_snoc (set s.views id v) (leaf_of v) u j e))

pub joins : (id : ℕ) (v : RollView) (other : ℕ) (u : RollView) → v.live ≡ true → u.live ≡ true → Joins H id v other u (hearing v u) spent_view
joins id v other u live alive s h at apart there =
    let own = h.fits id v at live in
    let w = hearing v u in
    let P : ℕ → RollView → Type 0 = Fitting s.words s.views h in
    let theirs = ⊎_elim (λ (t : (other ≡ id) × (w ≡ u)). absurd (apart t.0)) (λ (t : (other ≢ id) × (get_elem? s.views other ≡ some u)). h.fits other u t.1 alive) (at_set s.views id other w u there) in
    with_views s.words s.views (set (set s.views id w) other spent_view) h
    (each_set P (set s.views id w) other spent_view
    (λ j y _ e. each_set P s.views id w (λ i x _ e'. h.fits i x e') (λ _. record { own = own.own; told = theirs.own; rolls = λ p. own.rolls p }) j y e)
    (λ l. absurd (off l)))

-- a new roll has one view, which knows that there are no items
pub begins : IsRoll (0 ∷ []) (first_view ∷ [])
begins = record { seat = 0; items = []; words_are = refl; fits = one }
  where
    one : (id : ℕ) (v : RollView) → get_elem? (first_view ∷ []) id ≡ some v → v.live ≡ true → FitsRoll 0 [] id v
    one zero v e _ = subst (FitsRoll 0 [] 0) (some-injective _ _ e) record { own = prefix_self []; told = prefix_self []; rolls = λ _. (refl, refl) }
    one (suc id) v e _ = absurd (some-ne-none v (sym e))
