use Rattle.std.proofs.Common.{◌≡◌, ◌∙◌, List, ap, arith}
use Rattle.std.proofs.lemmas.Result.{IfOk-weaker}
use Rattle.dv_maps.specs.declared.mapped.Mapped.{Mapped}
use Rattle.dv_maps.specs.Purges.{all_mapped}
use Rattle.dv_maps.specs.Tables.{IsTableOf, all_listed, listed}
use Rattle.dv_mdbox.proofs.Gathered.{listed_all, listed_more, read_is}
use Rattle.dv_mdbox.proofs.listing.file_table.Goals as goal

pub loop-k-preserved : goal.loop-k-preserved
loop-k-preserved c =
    let m = c.args.live.now.mailbox in
    let row = c.row-row.result.now in
    let same = read_is m row _ c.read_row-mapped.result c.loop-k.invariant.extensions c.read_row-mapped.ensures in
    record {
      rows = listed_more m c.loop-k.k row c.loop-k.rows.items c.push.new.self.items c.list_row.result (omega (arith, c.loop-k-test.true, c.count-k-end.ensures)) c.row-row.ensures c.loop-k.invariant.rows (c.list_row.ensures ∙ ap listed same) c.in_ok-push.ensures.items;
      extensions = c.loop-k.invariant.extensions;
    }

pub returns : goal.returns
returns c =
    let m = c.args.live.now.mailbox in
    IfOk-weaker c.table_of.result (λ table. (rs : List Mapped) → c.loop-k.rows.items ≡ all_listed rs → IsTableOf rs table) (λ table. IsTableOf (all_mapped m) table)
    (λ table is. is (all_mapped m) (listed_all m c.loop-k.k c.loop-k.rows.items (omega (arith, c.loop-k-test.false, c.count-k-end.ensures)) c.loop-k.invariant.rows)) c.table_of.ensures
