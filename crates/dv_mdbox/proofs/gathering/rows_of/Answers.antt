use Rattle.std.proofs.Common.{arith, subst}
use Rattle.dv_maps.specs.declared.mapped.Mapped.{Mapped}
use Rattle.dv_mdbox.specs.Gathering.{AddsRow}
use Rattle.dv_mdbox.proofs.Gathered.{read_is, so_all, so_more}
use Rattle.dv_mdbox.proofs.gathering.rows_of.Goals as goal

pub loop-k-preserved : goal.loop-k-preserved
loop-k-preserved c =
    let m = c.args.live.now.mailbox in
    let row = c.row-row.result.now in
    let same = read_is m row _ c.read_row-mapped.result c.loop-k.invariant.extensions c.read_row-mapped.ensures in
    let adds = subst (λ (x : Mapped). AddsRow c.args.file x c.loop-k.rows c.add_row.new.rows) same c.in_ok-add_row.ensures in
    record {
      so = so_more m c.args.file c.loop-k.k row (omega (arith, c.loop-k-test.true, c.count-k-end.ensures)) c.row-row.ensures c.loop-k.rows c.add_row.new.rows c.loop-k.invariant.so adds;
      extensions = c.loop-k.invariant.extensions;
    }

pub returns : goal.returns
returns c = so_all c.args.live.now.mailbox c.args.file c.loop-k.k c.loop-k.rows (omega (arith, c.loop-k-test.false, c.count-k-end.ensures)) c.loop-k.invariant.so
