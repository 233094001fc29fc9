-- A storage loses ids that have no reference.
use Rattle.std.proofs.Common.{◌≡◌, ⊎_elim, ℕ, ◌≤◌, Bool, true, false, cond, List, [], ◌∷◌, map, refl, sym, ◌∙◌, ap, subst, arith, inl, inr}
use Rattle.std.specs.Prelude.{All, filter, nat_lt}
use Rattle.std.proofs.lemmas.Bool.Decides.{nat_tests}
use Rattle.std.proofs.lemmas.List.Elements.{All-head, All-tail}
use Rattle.dv_model.specs.declared.types.Mailbox.{Mailbox}
use Rattle.dv_model.specs.declared.types.Row.{Row}
use Rattle.dv_maps.specs.declared.mapped.Mapped.{Mapped}
use Rattle.dv_maps.specs.Purges.{LosesSome, RewritesThin, ThinningsAre, all_mapped, mapped, rewritten}
use Rattle.dv_maps.specs.Storages.{Item, is_referenced, item_of}
use Rattle.dv_maps.specs.Texts.{Messages}
use Rattle.dv_maps.proofs.Rewriting.{loses_some}

-- ---- a rewritten file

items_mapped : (messages : Messages) (m : Mailbox) (rows : List Row) → map (item_of messages m) rows ≡ map (λ (r : Mapped). record { id = r.id; count = r.count; message = messages r.id }) (map (mapped m) rows)
items_mapped messages m [] = refl
items_mapped messages m (row ∷ rows) = ap (λ (items : List Item). item_of messages m row ∷ items) (items_mapped messages m rows)

pub rewrites_thin : RewritesThin
rewrites_thin messages m after file new is =
    let one = items_mapped messages m m.rows in
    let two = items_mapped messages after after.rows ∙ ap (map (λ (r : Mapped). record { id = r.id; count = r.count; message = messages r.id })) is.rows in
    record {
      next = is.next;
      items = subst (λ (left : List Item). LosesSome (map (item_of messages m) m.rows) left) (sym two)
          (subst (λ (items : List Item). LosesSome items (map (λ (r : Mapped). record { id = r.id; count = r.count; message = messages r.id }) (rewritten file new 0 (all_mapped m)))) (sym one) (loses_some file new messages (all_mapped m) 0));
    }

-- ---- laws

loses_none : (items : List Item) → LosesSome items items
loses_none [] = refl
loses_none (x ∷ xs) = inr (xs, refl, loses_none xs)

loses_both : (a b c : List Item) → LosesSome a b → LosesSome b c → LosesSome a c
loses_both [] b c one two = subst (λ (l : List Item). LosesSome l c) one two
loses_both (x ∷ xs) b c one two =
    ⊎_elim (λ gone. inl (gone.0, loses_both xs b c gone.1 two))
    (λ kept.
    ⊎_elim (λ gone. inl (gone.0, loses_both xs kept.0 c kept.2 gone.1)) (λ more. inr (more.0, more.1, loses_both xs kept.0 more.0 kept.2 more.2))
    (subst (λ (l : List Item). LosesSome l c) kept.1 two)) one

no_reference : (n : ℕ) → n ≡ 0 → nat_lt 0 n ≡ false
no_reference n is = grind (arith, nat_tests)

some_reference : (n : ℕ) → 1 ≤ n → nat_lt 0 n ≡ true
some_reference n is = grind (arith, nat_tests)

loses_all : (a b : List Item) → LosesSome a b → All (λ (item : Item). 1 ≤ item.count) b → b ≡ filter is_referenced a
loses_all [] b is all = is
loses_all (x ∷ xs) b is all =
    ⊎_elim (λ gone. loses_all xs b gone.1 all ∙ sym (ap (λ (t : Bool). cond t (x ∷ filter is_referenced xs) (filter is_referenced xs)) (no_reference x.count gone.0)))
    (λ kept.
    let here = subst (λ (l : List Item). All (λ (item : Item). 1 ≤ item.count) l) kept.1 all in
    kept.1 ∙ ap (λ (l : List Item). x ∷ l) (loses_all xs kept.0 kept.2 (All-tail (λ (item : Item). 1 ≤ item.count) x kept.0 here))
    ∙ sym (ap (λ (t : Bool). cond t (x ∷ filter is_referenced xs) (filter is_referenced xs)) (some_reference x.count (All-head (λ (item : Item). 1 ≤ item.count) x kept.0 here)))) is

pub thinnings_are : ThinningsAre
thinnings_are = record {
  none = λ s. record { next = refl; items = loses_none s.items };
  both = λ s t u one two. record { next = two.next ∙ one.next; items = loses_both s.items t.items u.items one.items two.items };
  all = λ s left is all. λ i. record { next = is.next i; items = loses_all s.items left.items is.items all i };
}
