use Rattle.std.proofs.Common.{List, ◌++◌, ◌∙◌, ap}
use Rattle.std.proofs.lemmas.Result.{IfOk-weaker}
use Rattle.dv_rebuild.specs.declared.reporting.Skip.{Skip}
use Rattle.dv_script.proofs.SpacedLemmas.{pieces}
use Rattle.dv_notices.specs.Reports.{cache_text, remains_text, skipped_text}
use Rattle.dv_notices.proofs.reports.put_report.Goals as goal

pub returns : goal.returns
returns c =
    let r = c.args.rebuilt.now in
    let remains = remains_text r.report.remains in
    let skipped = skipped_text r.skipped r.report.skips in
    let listed = ap (λ (skips : List Skip). c.put_remains.new.text ++ skipped_text r.skipped skips) c.as_slice.ensures in
    let both = pieces _ _ _ remains skipped c.in_ok-put_remains.ensures (c.in_ok-put_skipped.ensures ∙ listed) in
    IfOk-weaker c.put_cache.result _ _ (λ done last.
    pieces _ _ _ (remains ++ skipped) (cache_text r.report.has_cache) both last)
    c.put_cache.ensures
