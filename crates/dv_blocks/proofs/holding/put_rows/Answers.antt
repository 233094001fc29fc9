use Rattle.std.proofs.Common.{◌≡◌, ◌∙◌, ◌+◌, ◌<◌, [], List, ℕ, ap, arith, drop, get_or, length, map, subst, sym, take}
use Rattle.std.specs.Prelude.{fold}
use Rattle.std.proofs.lemmas.List.{drop-drop, drop_all, drop_more, get_or-drop, length-map, take_all, take_more}
use Rattle.std.proofs.lemmas.List.Sums.{fold_push}
use Rattle.dv_blocks.specs.Shared.{AreShared, Due, due_of, row_of, with_due}
use Rattle.dv_blocks.specs.declared.chunk.Pending.{Pending}
use Rattle.dv_blocks.specs.declared.sets.Held.{Held}
use Rattle.dv_blocks.proofs.Pendings.{no_pending}
use Rattle.dv_blocks.proofs.holding.put_rows.Goals as goal

pub put_one-requires : goal.put_one-requires
put_one-requires c =
    let hs = c.args.held.now in
    let at = c.loop-at.at in
    let less : at < length hs = c.loop-at-test.true in
    (drop (at + 1) hs, subst (λ (l : List Pending). AreShared l c.loop-at.sets c.loop-at.blocks.cells) (drop_more hs at no_pending less) c.loop-at.invariant.shared)

-- the first of those that are left, and the others
first_due : (s t : List Held) (hs : List Pending) (at : ℕ) (e : Due) → at < length hs → map (due_of t) (drop at hs) ≡ drop at (map (due_of s) hs) → due_of t (get_or hs at no_pending) ≡ get_or (map (due_of s) hs) at e
first_due s t hs at e less is =
    let none : at + 0 ≡ at = omega arith in
    ap (λ l. get_or l 0 e) (ap (map (due_of t)) (sym (drop_more hs at no_pending less)) ∙ is) ∙ get_or-drop at (map (due_of s) hs) 0 e ∙ ap (λ n. get_or (map (due_of s) hs) n e) none

other_dues : (s t : List Held) (hs : List Pending) (at : ℕ) → at < length hs → map (due_of t) (drop at hs) ≡ drop at (map (due_of s) hs) → map (due_of t) (drop (at + 1) hs) ≡ drop (at + 1) (map (due_of s) hs)
other_dues s t hs at less is = ap (λ l. drop 1 (map (due_of t) l)) (sym (drop_more hs at no_pending less)) ∙ ap (drop 1) is ∙ drop-drop 1 at (map (due_of s) hs)

abbrev no_due : Due
no_due = record { at = 0; keywords = [] }

pub loop-at-preserved : goal.loop-at-preserved
loop-at-preserved c =
    let hs = c.args.held.now in
    let s = c.args.sets.now in
    let t = c.loop-at.sets in
    let at = c.loop-at.at in
    let m = c.args.modseq in
    let less : at < length hs = c.loop-at-test.true in
    let inv = c.loop-at.invariant in
    let dues = map (due_of s) hs in
    let many = length-map hs (due_of s) in
    let rest = drop (at + 1) hs in
    let more = subst (λ (l : List Pending). AreShared l t c.loop-at.blocks.cells) (drop_more hs at no_pending less) inv.shared in
    record {
      width = c.put_one.ensures.width ∙ inv.width;
      shared = c.put_one.ensures.shared rest more;
      dues = c.put_one.ensures.held rest more ∙ other_dues s t hs at less inv.dues;
      rows = λ sizes.
          let rows = map (row_of s sizes) c.args.blocks.now.cells in
          c.put_one.ensures.rows sizes ∙ ap (λ r. with_due m r (due_of t (get_or hs at no_pending))) (inv.rows sizes)
          ∙ ap (with_due m (fold (with_due m) rows (take at dues))) (first_due s t hs at no_due less inv.dues)
          ∙ sym (fold_push (with_due m) rows (take at dues) (get_or dues at no_due)) ∙ ap (fold (with_due m) rows) (sym (take_more dues at no_due (omega arith)));
    }

pub returns-clause-shared : goal.returns-clause-shared
returns-clause-shared c =
    subst (λ (l : List Pending). AreShared l c.loop-at.sets c.loop-at.blocks.cells) (drop_all c.loop-at.at c.args.held.now c.loop-at-test.false) c.loop-at.invariant.shared

pub returns-clause-rows : goal.returns-clause-rows
returns-clause-rows c sizes =
    let dues = map (due_of c.args.sets.now) c.args.held.now in
    let many = length-map c.args.held.now (due_of c.args.sets.now) in
    let past = c.loop-at-test.false in
    c.loop-at.invariant.rows sizes ∙ ap (fold (with_due c.args.modseq) (map (row_of c.args.sets.now sizes) c.args.blocks.now.cells)) (take_all c.loop-at.at dues (omega arith))
