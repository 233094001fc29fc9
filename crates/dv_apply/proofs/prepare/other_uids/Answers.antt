use Rattle.std.proofs.Common.{◌⊎◌, inl, inr, ℕ, ◌+◌, subst, sym, take}
use Rattle.std.specs.Prelude.{Contains}
use Rattle.std.proofs.lemmas.List.{take_all}
use Rattle.dv_model.specs.declared.types.Row.{Row}
use Rattle.dv_rows.specs.Parted.{HasUid}
use Rattle.dv_apply.proofs.Others.{AreOthers, others_found, others_more}
use Rattle.dv_apply.proofs.prepare.other_uids.Goals.{then-not-is_found+in_ok-push, else-not-is_found}
use Rattle.dv_apply.proofs.prepare.other_uids.Goals as goal

pub loop-row-preserved : goal.loop-row-preserved
loop-row-preserved c =
    let uids = c.args.uids.now in
    let rows = c.args.rows.now in
    let k = c.loop-row.row-index in
    let row : Row = c.row-item.result in
    elim c.if-not-is_found.branch [
      | then-not-is_found+in_ok-push w ↦
          rw w.others-is (subst (AreOthers uids (take (k + 1) rows)) (sym w.in_ok-push.ensures.items) (others_more uids rows k row c.loop-row.others.items c.loop-row-test.true c.row-item.is c.loop-row.invariant))
      | else-not-is_found w ↦
          rw w.others-is (others_found uids rows k row c.loop-row.others.items c.loop-row-test.true c.row-item.is c.loop-row.invariant (c.is_found.ensures w.if-not-is_found.false))
    ]

pub returns-clause-of_rows : goal.returns-clause-of_rows
returns-clause-of_rows c = λ uid h.
    subst (λ rows. HasUid rows uid) (take_all c.loop-row.row-index c.args.rows.now c.loop-row-test.false) (c.loop-row.invariant.of_rows uid ((c.sort_uids.ensures.same uid).0 h))

pub returns-clause-all : goal.returns-clause-all
returns-clause-all c = λ uid h.
    moved uid (c.loop-row.invariant.all uid (subst (λ rows. HasUid rows uid) (sym (take_all c.loop-row.row-index c.args.rows.now c.loop-row-test.false)) h))
  where
    moved : (uid : ℕ) → Contains c.args.uids.now uid ⊎ Contains c.loop-row.others.items uid → Contains c.args.uids.now uid ⊎ Contains c.sort_uids.new.uids.items uid
    moved uid (inl h) = inl h
    moved uid (inr h) = inr ((c.sort_uids.ensures.same uid).1 h)
