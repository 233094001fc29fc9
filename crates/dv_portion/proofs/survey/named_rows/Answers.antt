use Rattle.std.proofs.Common.{◌+◌, arith, length, sym}
use Rattle.std.proofs.lemmas.Bool.{ne_eqb}
use Rattle.dv_ext.specs.Tables.{Table}
use Rattle.dv_portion.specs.Surveys.{seen}
use Rattle.dv_portion.proofs.Surveying.{named_next, only_again, table_next}
use Rattle.dv_portion.proofs.survey.named_rows.Goals as goal

pub loop-at-preserved : goal.loop-at-preserved
loop-at-preserved c =
    let j = c.loop-at.at in
    let rs = c.args.records.now in
    let r = c.index-records-at.result in
    let rows = c.args.rows.now.rows in
    let before : Table = seen c.args.extensions.now c.loop-at.moved in
    let after : Table = seen c.args.extensions.now c.in_ok-next.next in
    record {
      named = λ m valid range e.
          named_next m rs j r rows c.loop-at.uids.items c.name_rows.new.uids.items before c.loop-at-test.true c.name_rows.ensures.adds
          (c.loop-at.invariant.named m valid range e) (λ n at. c.loop-at.invariant.table m n valid range e c.loop-at-test.true at)
          (c.in_ok-name_rows.ensures.named before (sym c.current_in-current.ensures) c.in_ok-next.ensures.parts);
      table = λ m n valid range e less at.
          table_next m n rs j r before after c.loop-at-test.true valid range (λ k so_far. c.loop-at.invariant.table m k valid range e c.loop-at-test.true so_far)
          (c.in_ok-next.ensures.moves (ne_eqb (j + 1) (length rs) (λ same. omega (arith, same, less)))) at;
      only = only_again rows c.loop-at.uids.items c.name_rows.new.uids.items c.name_rows.ensures.adds c.loop-at.invariant.only;
    }
