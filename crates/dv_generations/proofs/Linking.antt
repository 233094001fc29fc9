-- Tables one behind another.
use Rattle.std.proofs.Common.{◌≡◌, ℕ, zero, suc, ◌+◌, ◌<◌, List, [], ◌∷◌, ◌++◌, length, Some, refl, sym, ap, subst, ◌∙◌, append_assoc, append-nil, arith}
use Rattle.std.specs.Prelude.{slice_get, take}
use Rattle.std.proofs.lemmas.List.{map-append}
use Rattle.atomic_table.specs.Seated.{TableId}
use Rattle.dv_front.specs.declared.notes.Note.{Note}
use Rattle.dv_front.specs.declared.notes.Origin.{Origin}
use Rattle.dv_generations.specs.declared.ends.Ends.{Ends}
use Rattle.dv_generations.specs.Feeds.{joined, with_last}
use Rattle.dv_generations.specs.Linked.{AreLinked, IsLinked, parts_in, tables_in}

-- ---- notes

pub joined_append : (xs ys : List (List Note)) → joined (xs ++ ys) ≡ joined xs ++ joined ys
joined_append [] ys = refl
joined_append (x ∷ xs) ys = ap (λ (l : List Note). x ++ l) (joined_append xs ys) ∙ sym (append_assoc x (joined xs) (joined ys))

pub joined_last : (xs : List (List Note)) (y : List Note) → joined (xs ++ y ∷ []) ≡ joined xs ++ y
joined_last xs y = joined_append xs (y ∷ []) ∙ ap (λ (l : List Note). joined xs ++ l) (append-nil y)

pub parts_last : (es : List Ends) (e : Ends) → parts_in (es ++ e ∷ []) ≡ parts_in es ++ e.pen.notes ∷ []
parts_last es e = map-append (λ (x : Ends). x.pen.notes) es (e ∷ [])

pub tables_last : (es : List Ends) (e : Ends) → tables_in (es ++ e ∷ []) ≡ tables_in es ++ e.pen.table ∷ []
tables_last es e = map-append (λ (x : Ends). x.pen.table) es (e ∷ [])

pub with_last_is : (xs : List (List Note)) (y : List Note) (note : Note) → with_last (xs ++ y ∷ []) note ≡ xs ++ (y ++ note ∷ []) ∷ []
with_last_is [] y note = refl
with_last_is (x ∷ []) y note = refl
with_last_is (x ∷ z ∷ xs) y note = ap (λ (l : List (List Note)). x ∷ l) (with_last_is (z ∷ xs) y note)

pub joined_more : (xs : List (List Note)) (y : List Note) (note : Note) → joined (with_last (xs ++ y ∷ []) note) ≡ joined (xs ++ y ∷ []) ++ note ∷ []
joined_more xs y note =
    ap joined (with_last_is xs y note) ∙ joined_last xs (y ++ note ∷ []) ∙ sym (append_assoc (joined xs) y (note ∷ [])) ∙ ap (λ (l : List Note). l ++ note ∷ []) (sym (joined_last xs y))

-- ---- links

module _ (origin : Origin) (count : ℕ) where
  pub same_link : (m n : ℕ) (xs ys : List Note) (e : Ends) → m ≡ n → xs ≡ ys → IsLinked origin count m xs e → IsLinked origin count n ys e
  same_link m n xs ys e p q l = subst (λ (k : ℕ). IsLinked origin count k ys e) p (subst (λ (zs : List Note). IsLinked origin count m zs e) q l)

  -- the last goes on from those before it
  last_linked : (before : ℕ) (base : List Note) (es : List Ends) (e : Ends) → AreLinked origin count before base (es ++ e ∷ [])
      → AreLinked origin count before base es × IsLinked origin count (before + length es) (base ++ joined (parts_in es)) e
  last_linked before base [] e linked = (tt, same_link before (before + 0) base (base ++ []) e (omega arith) (sym (append-nil base)) linked.0)
  last_linked before base (x ∷ es) e linked =
      let rest = last_linked (before + 1) (base ++ x.pen.notes) es e linked.1 in (
        (linked.0, rest.0),
        same_link (before + 1 + length es) (before + suc (length es)) ((base ++ x.pen.notes) ++ joined (parts_in es)) (base ++ joined (parts_in (x ∷ es))) e
            (omega arith) (append_assoc base x.pen.notes (joined (parts_in es))) rest.1,
      )

  -- one that goes on from them may stand behind them
  link_last : (before : ℕ) (base : List Note) (es : List Ends) (e : Ends) → AreLinked origin count before base es
      → IsLinked origin count (before + length es) (base ++ joined (parts_in es)) e → AreLinked origin count before base (es ++ e ∷ [])
  link_last before base [] e linked link = (same_link (before + 0) before (base ++ []) base e (omega arith) (append-nil base) link, tt)
  link_last before base (x ∷ es) e linked link = (
    linked.0,
    link_last (before + 1) (base ++ x.pen.notes) es e linked.1
        (same_link (before + suc (length es)) (before + 1 + length es) (base ++ joined (parts_in (x ∷ es))) ((base ++ x.pen.notes) ++ joined (parts_in es)) e
        (omega arith) (sym (append_assoc base x.pen.notes (joined (parts_in es)))) link),
  )

  -- the same of all generations
  pub newest_linked : (es : List Ends) (e : Ends) → AreLinked origin count 0 [] (es ++ e ∷ []) → AreLinked origin count 0 [] es × IsLinked origin count (length es) (joined (parts_in es)) e
  newest_linked es e linked =
      let both = last_linked 0 [] es e linked in
      (both.0, same_link (0 + length es) (length es) (joined (parts_in es)) (joined (parts_in es)) e (omega arith) refl both.1)

  pub link_newest : (es : List Ends) (e : Ends) → AreLinked origin count 0 [] es → IsLinked origin count (length es) (joined (parts_in es)) e → AreLinked origin count 0 [] (es ++ e ∷ [])
  link_newest es e linked link = link_last 0 [] es e linked (same_link (length es) (0 + length es) (joined (parts_in es)) (joined (parts_in es)) e (omega arith) refl link)

  -- the one at a place goes on from those before it
  pub linked_at : (before : ℕ) (base : List Note) (es : List Ends) (k : ℕ) (e : Ends) → AreLinked origin count before base es → slice_get es k ≡ Some e
      → IsLinked origin count (before + k) (base ++ joined (parts_in (take k es))) e
  linked_at before base [] k e linked at = absurd cc
  linked_at before base (x ∷ es) zero e linked at =
      let same : x ≡ e = cc at in
      subst (λ (y : Ends). IsLinked origin count (before + 0) (base ++ []) y) same (same_link before (before + 0) base (base ++ []) x (omega arith) (sym (append-nil base)) linked.0)
  linked_at before base (x ∷ es) (suc k) e linked at =
      same_link (before + 1 + k) (before + suc k) ((base ++ x.pen.notes) ++ joined (parts_in (take k es))) (base ++ joined (parts_in (take (suc k) (x ∷ es)))) e
      (omega arith) (append_assoc base x.pen.notes (joined (parts_in (take k es)))) (linked_at (before + 1) (base ++ x.pen.notes) es k e linked.1 at)

-- ---- places

pub at_older : (es : List Ends) (e : Ends) (k : ℕ) (x : Ends) → slice_get es k ≡ Some x → slice_get (es ++ e ∷ []) k ≡ Some x
at_older [] e k x at = absurd cc
at_older (y ∷ es) e zero x at = at
at_older (y ∷ es) e (suc k) x at = at_older es e k x at

pub at_newest : (es : List Ends) (e : Ends) → slice_get (es ++ e ∷ []) (length es) ≡ Some e
at_newest [] e = refl
at_newest (y ∷ es) e = at_newest es e

-- a table that the list names is one of them
pub table_below : (es : List Ends) (k : ℕ) (t : TableId) → slice_get (tables_in es) k ≡ Some t → k < length es
table_below [] k t at = absurd cc
table_below (x ∷ es) zero t at = omega arith
table_below (x ∷ es) (suc k) t at = omega (arith, table_below es k t at)

pub table_is : (es : List Ends) (k : ℕ) (e : Ends) (t : TableId) → slice_get es k ≡ Some e → slice_get (tables_in es) k ≡ Some t → t ≡ e.pen.table
table_is [] k e t at named = absurd cc
table_is (x ∷ es) zero e t at named = let same : x ≡ e = cc at in let is : x.pen.table ≡ t = cc named in sym is ∙ ap (λ (y : Ends). y.pen.table) same
table_is (x ∷ es) (suc k) e t at named = table_is es k e t at named

pub table_named : (es : List Ends) (k : ℕ) (e : Ends) → slice_get es k ≡ Some e → slice_get (tables_in es) k ≡ Some e.pen.table
table_named [] k e at = absurd cc
table_named (x ∷ es) zero e at = let same : x ≡ e = cc at in ap (λ (y : Ends). Some y.pen.table) same
table_named (x ∷ es) (suc k) e at = table_named es k e at
