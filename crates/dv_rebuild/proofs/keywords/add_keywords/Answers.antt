use Rattle.std.proofs.Common.{◌≡◌, ◌∙◌, ◌<◌, ◌≤◌, ◌++◌, List, ap, arith, length, subst}
use Rattle.std.specs.Prelude.{Some, flat_map, slice_get}
use Rattle.std.specs.List.{enumerate_from}
use Rattle.std.proofs.lemmas.List.{take_all}
use Rattle.std.proofs.lemmas.List.FromFn.{length-enumerate_from}
use Rattle.dv_model.specs.declared.types.How.TheVariants.{Add}
use Rattle.dv_model.specs.declared.types.Pair.{Pair}
use Rattle.dv_model.specs.Sessions.{keyword_updates, ranges_of}
use Rattle.dv_openings.specs.Salvages.{keyword_records}
use Rattle.dv_rebuild.proofs.Noted.{keywords_more, uids_at}
use Rattle.dv_rebuild.proofs.keywords.add_keywords.Goals as goal

pub loop-k-preserved : goal.loop-k-preserved
loop-k-preserved c =
    let m = c.args.live.now.mailbox in
    let kept = c.args.kept.now in
    let k = c.loop-k.k in
    let name = c.name-name.result.now in
    let less : k < length m.keywords = omega (arith, c.loop-k-test.true, c.count-k-end.ensures.is, ap length c.names.ensures) in
    let there = subst (λ (l : List (List _)). slice_get l k ≡ Some name) c.names-in-loop-k.ensures c.name-name.ensures in
    let uids = c.as_slice.ensures ∙ uids_at m kept k c.in_ok-lists.lists.items c.index.result.now _ c.in_ok-lists.ensures less c.index.ensures in
    let pairs = c.as_slice-in-loop-k.ensures ∙ c.in_ok-pairs.ensures ∙ ap ranges_of uids in
    let more = c.in_ok-add_keyword_update.ensures ∙ ap (λ (ps : List Pair). c.loop-k.records ++ keyword_updates Add ps name) pairs in
    keywords_more m kept k name c.args.records.now c.loop-k.records c.add_keyword_update.new.records less there c.loop-k.invariant more

pub returns : goal.returns
returns c =
    let m = c.args.live.now.mailbox in
    let all = enumerate_from 0 m.keywords in
    let past : length all ≤ c.loop-k.k = omega (arith, c.loop-k-test.false, c.count-k-end.ensures.is, ap length c.names.ensures, length-enumerate_from 0 m.keywords) in
    c.loop-k.invariant ∙ ap (λ l. c.args.records.now ++ flat_map (keyword_records m c.args.kept.now) l) (take_all c.loop-k.k all past)
