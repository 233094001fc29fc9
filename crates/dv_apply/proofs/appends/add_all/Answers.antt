use Rattle.std.proofs.Common.{◌≡◌, ℕ, ◌+◌, ◌-◌, List, get_or, length, drop, ap, sym, ◌∙◌, subst, arith}
use Rattle.std.proofs.lemmas.List.{drop_more}
use Rattle.std.proofs.lemmas.List.Sums.{fold_more}
use Rattle.dv_model.specs.declared.types.Mailbox.{Mailbox}
use Rattle.dv_model.specs.declared.types.NewRow.{NewRow}
use Rattle.dv_model.specs.Effects.{with_row}
use Rattle.dv_apply.specs.Bodies.{first_refused}
use Rattle.dv_apply.specs.States.{HasSpare, mailbox_of}
use Rattle.dv_apply.proofs.Appending.{rest_new}
use Rattle.dv_apply.proofs.appends.add_all.Goals as goal

less : (i n : ℕ) → n - (i + 1) ≡ (n - i) - 1
less i n = omega arith

pub add-requires-clause-spare : goal.add-requires-clause-spare
add-requires-clause-spare c =
    let i = c.loop-row.row-index in
    let has = c.loop-row.invariant.spare (length c.args.rows.now) c.requires.spare in
    record { blank = has.blank; blanks = omega (arith, has.blanks, c.loop-row-test.true); room = omega (arith, has.room, c.loop-row-test.true) }

pub loop-row-preserved : goal.loop-row-preserved
loop-row-preserved c =
    let i = c.loop-row.row-index in
    let rows : List NewRow = c.args.rows.now in
    let d : NewRow = record { uid = 0; flags = 0 } in
    let row : NewRow = get_or rows i d in
    let here = ap (first_refused c.loop-row.state.next_uid) (sym (drop_more rows i d c.loop-row-test.true)) ∙ c.loop-row.invariant.new in
    let next : c.add.new.state.next_uid ≡ row.uid + 1 = ap (λ (m : Mailbox). m.next_uid) c.add.ensures.is in
    record {
      is = c.add.ensures.is ∙ ap (λ (m : Mailbox). with_row m row) c.loop-row.invariant.is ∙ sym (fold_more with_row (mailbox_of c.args.state.now) rows i d c.loop-row-test.true);
      valid = c.add.ensures.valid;
      new = ap (λ (n : ℕ). first_refused n (drop (i + 1) rows)) next ∙ rest_new c.loop-row.state.next_uid row (drop (i + 1) rows) here;
      spare = λ n has. subst (λ (k : ℕ). HasSpare k c.add.new.state) (sym (less i n)) (c.add.ensures.spare (n - i) (c.loop-row.invariant.spare n has));
      same = c.add.ensures.same ∙ c.loop-row.invariant.same;
    }
