use Rattle.std.proofs.Common.{◌≡◌, ◌≤◌, ◌+◌, ◌∙◌, ◌++◌, ◌∷◌, [], List, Some, None, ap, arith, length, subst, sym, take, rules, vec_capacity, vec_len, refl}
use Rattle.std.specs.Prelude.{filter, nat_le, nat_lt, option_to_list}
use Rattle.std.specs.Vec.Iter.{into_iter_items}
use Rattle.std.proofs.Math.Seq.{take-length}
use Rattle.std.proofs.lemmas.List.{length-append}
use Rattle.std.proofs.lemmas.List.Elements.{filter-append}
use Rattle.dv_model.specs.declared.types.Fresh.{Fresh}
use Rattle.dv_model.specs.declared.types.Shown.{Shown}
use Rattle.dv_view.specs.Following.{given}
use Rattle.dv_view.specs.Orders.{AreRising}
use Rattle.dv_view.proofs.Patching.{Rises, rises_lower}
use Rattle.dv_view.proofs.Placing.{rises_of}
use Rattle.dv_view.proofs.Renewing.{above_given, front_put, put_more, put_none, put_whole, renewed_rise, rows_put}
use Rattle.dv_view.proofs.following.put_all.Goals as goal

pub loop-f-init : goal.loop-f-init
loop-f-init c =
    let rows = c.args.rows.now.items in
    let all : into_iter_items c.into_iter-f-iterator.result ≡ c.args.fresh.items = c.into_iter-f-iterator.ensures.into_iter_gives.0 in
    let whole : c.len-count.result ≡ length rows = search rules in
    let many : vec_len c.args.fresh ≡ length c.args.fresh.items = search rules in
    record {
      inside = search rules;
      rising = subst AreRising (sym (ap (λ n. take n rows) whole ∙ take-length rows)) c.requires.rising;
      left = c.into_iter-f-iterator.ensures.into_iter_gives.1 ∙ many ∙ ap length (sym all);
      rises = subst (Rises 0) (sym all) (rises_of c.args.fresh.items c.requires.given);
      room = subst (λ fs. vec_len c.args.rows.now + length (filter (λ (s : Shown). nat_le c.args.next_uid s.uid) (given fs)) ≤ vec_capacity c.args.rows.now) (sym all) c.requires.room;
      rows = ap (λ fs. rows_put c.args.next_uid c.len-count.result rows (given fs)) all;
    }

pub loop-f-preserved-in-Some-row : goal.loop-f-preserved-in-Some-row
loop-f-preserved-in-Some-row c =
    let b = c.args.next_uid in
    let count = c.len-count.result in
    let before = c.loop-f.rows in
    let s : Shown = c.in-Some-row.s in
    let f : Fresh = c.in-Some.f in
    let rest : List Fresh = into_iter_items c.next.new.self in
    let items : into_iter_items c.loop-f.f-iterator ≡ f ∷ rest = c.in-Some.ensures.steps.0 in
    let rises : Rises 0 (f ∷ rest) = subst (Rises 0) items c.loop-f.invariant.rises in
    let row : f.row ≡ Some s = c.in-Some-row.is in
    let gives : given (into_iter_items c.loop-f.f-iterator) ≡ s ∷ given rest = ap given items ∙ ap (λ o. option_to_list o ++ given rest) row in
    let inside : count ≤ length before.items = search rules in
    let puts : c.put.new.rows.items ≡ rows_put b count before.items (s ∷ []) = c.put.ensures.items ∙ ap (λ x. rows_put b count before.items (x ∷ [])) c.in-Some-row.s-is in
    let long : vec_len c.put.new.rows ≡ vec_len before + length (filter (λ (t : Shown). nat_le b t.uid) (s ∷ [])) = c.put.ensures.len ∙ ap (λ x. vec_len before + length (filter (λ (t : Shown). nat_le b t.uid) (x ∷ []))) c.in-Some-row.s-is in
    record {
      inside = let in_before = c.loop-f.invariant.inside in omega arith;
      rising = subst AreRising (sym (ap (take count) puts ∙ front_put b count before.items inside (s ∷ []))) (renewed_rise (filter (λ (t : Shown). nat_lt t.uid b) (s ∷ [])) (take count before.items) c.loop-f.invariant.rising);
      left = let more = c.in-Some.ensures.steps.1 in let left = c.loop-f.invariant.left in let long : length (into_iter_items c.loop-f.f-iterator) ≡ length rest + 1 = ap length items ∙ omega arith in omega arith;
      rises = rises_lower 0 (f.uid + 1) rest (omega arith) rises.2;
      room =
          let split : length (filter (λ (t : Shown). nat_le b t.uid) (given (into_iter_items c.loop-f.f-iterator))) ≡ length (filter (λ (t : Shown). nat_le b t.uid) (s ∷ [])) + length (filter (λ (t : Shown). nat_le b t.uid) (given rest)) =
          ap (λ rs. length (filter (λ (t : Shown). nat_le b t.uid) rs)) gives
          ∙ ap length (filter-append (λ (t : Shown). nat_le b t.uid) (s ∷ []) (given rest))
          ∙ length-append (filter (λ (t : Shown). nat_le b t.uid) (s ∷ [])) (filter (λ (t : Shown). nat_le b t.uid) (given rest)) in
          let stays = c.put.ensures.capacity in
          let room = c.loop-f.invariant.room in
          omega arith;
      rows = ap (λ rs. rows_put b count rs (given rest)) puts ∙ put_more b count before.items inside s (given rest) (above_given 0 f rest s rises row)
          ∙ ap (rows_put b count before.items) (sym gives) ∙ c.loop-f.invariant.rows;
    }

pub loop-f-preserved : goal.loop-f-preserved
loop-f-preserved c =
    let f : Fresh = c.in-Some.f in
    let rest : List Fresh = into_iter_items c.next.new.self in
    let items : into_iter_items c.loop-f.f-iterator ≡ f ∷ rest = c.in-Some.ensures.steps.0 in
    let rises : Rises 0 (f ∷ rest) = subst (Rises 0) items c.loop-f.invariant.rises in
    let row : f.row ≡ None = c.in_default.is in
    let gives : given (into_iter_items c.loop-f.f-iterator) ≡ given rest = ap given items ∙ ap (λ o. option_to_list o ++ given rest) row in
    record {
      inside = c.loop-f.invariant.inside;
      rising = c.loop-f.invariant.rising;
      left = let more = c.in-Some.ensures.steps.1 in let left = c.loop-f.invariant.left in let long : length (into_iter_items c.loop-f.f-iterator) ≡ length rest + 1 = ap length items ∙ omega arith in omega arith;
      rises = rises_lower 0 (f.uid + 1) rest (omega arith) rises.2;
      room = subst (λ made. vec_len c.loop-f.rows + length (filter (λ (t : Shown). nat_le c.args.next_uid t.uid) made) ≤ vec_capacity c.loop-f.rows) gives c.loop-f.invariant.room;
      rows = ap (rows_put c.args.next_uid c.len-count.result c.loop-f.rows.items) (sym gives) ∙ c.loop-f.invariant.rows;
    }

pub returns : goal.returns
returns c =
    let b = c.args.next_uid in
    let count = c.len-count.result in
    let none : into_iter_items c.loop-f.f-iterator ≡ [] = no_items (into_iter_items c.loop-f.f-iterator) (sym c.loop-f.invariant.left ∙ c.in-None.ensures.steps.0) in
    let whole : count ≡ length c.args.rows.now.items = search rules in
    sym (put_none b count c.loop-f.rows.items) ∙ ap (λ fs. rows_put b count c.loop-f.rows.items (given fs)) (sym none) ∙ c.loop-f.invariant.rows
    ∙ put_whole b count c.args.rows.now.items (given c.args.fresh.items) whole
  where
    no_items : (xs : List Fresh) → length xs ≡ 0 → xs ≡ []
    no_items [] e = refl
    no_items (x ∷ xs) e = absurd (omega (arith, e))
