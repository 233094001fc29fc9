use Rattle.std.proofs.Common.{◌≡◌, ◌<◌, ◌≤◌, ◌++◌, ◌∙◌, List, [], length, get_or, take, ap, sym, subst, arith}
use Rattle.std.specs.List.{All, flat_map}
use Rattle.std.proofs.lemmas.List.{take_all}
use Rattle.std.proofs.lemmas.List.Elements.{All-more}
use Rattle.std.proofs.lemmas.Option.{get_or_from_slice_get}
use Rattle.dv_model.specs.declared.types.Mailbox.{Mailbox}
use Rattle.dv_model.specs.declared.types.Row.{Row}
use Rattle.dv_formats.specs.Snapshots.{AreBytes, Fits, header_text, row_text, tables_text}
use Rattle.dv_index.specs.Fronts.{with_rows}
use Rattle.dv_index.proofs.Texts.{snapshot_written, text_more}
use Rattle.dv_files.proofs.snapshots.snapshot_at.Goals as goal

pub loop-k-preserved : goal.loop-k-preserved
loop-k-preserved c =
    let rows : List Row = c.args.live.now.mailbox.rows in
    let k = c.loop-k.k in
    let row : Row = c.row.result.now in
    let less : k < length rows = omega (arith, c.loop-k-test.true, c.count-k-end.ensures) in
    let here : row ≡ get_or rows k row = sym (get_or_from_slice_get rows k row row c.row.ensures) in
    record {
      text = text_more (row_text 2 c.in_ok-head.head) rows k row c.in_ok-text.text c.loop-k.text c.write_row.new.out less here c.loop-k.invariant.text c.in_ok-write_row.ensures.text;
      flags = All-more (λ (r : Row). r.flags < 256) rows k row less c.loop-k.invariant.flags (subst (λ (r : Row). r.flags < 256) here c.in_ok-write_row.ensures.flags);
      parts = All-more (λ (r : Row). All AreBytes r.parts) rows k row less c.loop-k.invariant.parts (subst (λ (r : Row). All AreBytes r.parts) here c.in_ok-write_row.ensures.parts);
    }

pub returns : goal.returns
returns c =
    let m = c.args.live.now.mailbox in
    let indexid = c.args.indexid in
    let mark = c.args.mark in
    let rows : List Row = m.rows in
    let k = c.loop-k.k in
    let front = c.in_ok-text.text in
    let is : c.in_ok-head.head ≡ with_rows [] m = c.in_ok-head.ensures.is in
    let past : length rows ≤ k = omega (arith, c.loop-k-test.false, c.count-k-end.ensures) in
    let all : take k rows ≡ rows = take_all k rows past in
    let begun : front ≡ header_text 2 m indexid mark ++ tables_text m =
    subst (λ (h : Mailbox). front ≡ header_text 2 (with_rows rows h) indexid mark ++ tables_text h) is (c.in_ok-text.ensures.text rows c.tally_of.ensures) in
    let written : c.loop-k.text ≡ front ++ flat_map (row_text 2 m) (take k rows) =
    subst (λ (h : Mailbox). c.loop-k.text ≡ front ++ flat_map (row_text 2 h) (take k rows)) is c.loop-k.invariant.text in
    snapshot_written m indexid mark front c.loop-k.text c.head_of.ensures.valid
    (subst (λ (h : Mailbox). Fits (with_rows [] h) indexid mark) is c.in_ok-text.ensures.fits)
    (subst (λ (rs : List Row). All (λ (r : Row). r.flags < 256) rs) all c.loop-k.invariant.flags)
    (subst (λ (rs : List Row). All (λ (r : Row). All AreBytes r.parts) rs) all c.loop-k.invariant.parts)
    begun (written ∙ ap (λ (rs : List Row). front ++ flat_map (row_text 2 m) rs) all)
