use Rattle.std.proofs.Common.{List, sym, arith, subst}
use Rattle.dv_maps.specs.declared.mapped.Mapped.{Mapped}
use Rattle.dv_maps.specs.Purges.{mapped}
use Rattle.dv_mdbox.specs.Gathering.{IsLess}
use Rattle.dv_mdbox.proofs.Gathered.{IsLeast, front, front_all, front_more, least_more, next_of, read_is}
use Rattle.dv_mdbox.proofs.gathering.next_gone.Goals as goal

pub loop-k-preserved : goal.loop-k-preserved
loop-k-preserved c =
    let m = c.args.live.now.mailbox in
    let k = c.loop-k.k in
    let row = c.row-row.result.now in
    let r = c.read_row-mapped.result in
    let now = c.lesser-least.result in
    let same = read_is m row _ r c.loop-k.invariant.extensions c.read_row-mapped.ensures in
    let less = subst (λ (x : Mapped). IsLess c.args.from c.loop-k.least x now) same c.lesser-least.ensures in
    record {
      least = subst (λ (l : List Mapped). IsLeast c.args.from l now) (sym (front_more m k row (omega (arith, c.loop-k-test.true, c.count-k-end.ensures)) c.row-row.ensures))
          (least_more c.args.from (front m k) c.loop-k.least (mapped m row) now c.loop-k.invariant.least less);
      extensions = c.loop-k.invariant.extensions;
    }

pub returns : goal.returns
returns c =
    let m = c.args.live.now.mailbox in
    next_of m c.args.from c.loop-k.least
    (subst (λ (l : List Mapped). IsLeast c.args.from l c.loop-k.least) (front_all m c.loop-k.k (omega (arith, c.loop-k-test.false, c.count-k-end.ensures))) c.loop-k.invariant.least)
