use Rattle.std.proofs.Common.{ℕ, ◌<◌, true, false, ◌∙◌, ◌++◌, ◌∷◌, [], List, length, map, take, sym, ap, arith, append-nil, length-append}
use Rattle.std.specs.Prelude.{filter}
use Rattle.std.proofs.lemmas.Bool.Decides.{nat_tests}
use Rattle.dv_model.specs.declared.types.Row.{Row}
use Rattle.dv_model.specs.Sessions.{expunge_limit, is_deleted}
use Rattle.dv_groups.proofs.Deleting.{deleted_all, deleted_full, deleted_more, deleted_none}
use Rattle.dv_groups.proofs.changing.deleted_uids.Goals as goal
use Rattle.dv_groups.proofs.changing.deleted_uids.Goals.{then-is_deleted+in_ok-push, else-is_deleted}

pub returns-then-deleted-eq0 : goal.returns-then-deleted-eq0
returns-then-deleted-eq0 c =
    c.new-uids.ensures ∙ sym (ap (λ rows. map (λ (row : Row). row.uid) (take expunge_limit rows)) (deleted_none c.args.live.now.mailbox.rows (grind (arith, nat_tests, c.deleted.ensures, c.if-deleted-eq0.true))))

pub returns-then-len-eq-EXPUNGE_LIMIT : goal.returns-then-len-eq-EXPUNGE_LIMIT
returns-then-len-eq-EXPUNGE_LIMIT c =
    deleted_full c.args.live.now.mailbox.rows c.loop-k.k c.loop-k.uids c.loop-k.invariant.so_far (grind (arith, nat_tests, c.len.ensures, c.if-len-eq-EXPUNGE_LIMIT.true))

pub loop-k-preserved : goal.loop-k-preserved
loop-k-preserved c =
    let rows = c.args.live.now.mailbox.rows in
    let row = c.row-row.result.now in
    let less : c.loop-k.k < length rows = omega (arith, c.loop-k-test.true, c.count-k-end.ensures) in
    let before : List ℕ = map (λ (row : Row). row.uid) (filter is_deleted (take c.loop-k.k rows)) in
    let so_far = c.loop-k.invariant.so_far in
    elim c.if-is_deleted.branch [
      | then-is_deleted+in_ok-push w ↦ record {
        so_far = w.uids-is ∙ w.in_ok-push.ensures.ok ∙ ap (λ uids. uids ++ row.uid ∷ []) so_far ∙ sym (deleted_more rows c.loop-k.k row true less c.row-row.ensures (sym c.is_deleted.ensures ∙ w.if-is_deleted.true));
        few = omega (arith, ap length (w.uids-is ∙ w.in_ok-push.ensures.ok), length-append c.loop-k.uids (row.uid ∷ []), c.loop-k.invariant.few, c.len.ensures, c.if-len-eq-EXPUNGE_LIMIT.false);
      }
      | else-is_deleted w ↦ record {
        so_far = w.uids-is ∙ so_far ∙ sym (append-nil before) ∙ sym (deleted_more rows c.loop-k.k row false less c.row-row.ensures (sym c.is_deleted.ensures ∙ w.if-is_deleted.false));
        few = omega (arith, ap length w.uids-is, c.loop-k.invariant.few);
      }
    ]

pub returns : goal.returns
returns c = deleted_all c.args.live.now.mailbox.rows c.loop-k.k c.loop-k.uids c.loop-k.invariant.so_far c.loop-k.invariant.few (omega (arith, c.loop-k-test.false, c.count-k-end.ensures))
