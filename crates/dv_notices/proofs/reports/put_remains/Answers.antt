use Rattle.std.proofs.Common.{◌++◌}
use Rattle.std.proofs.lemmas.Result.{IfOk-weaker}
use Rattle.dv_script.proofs.SpacedLemmas.{pieces}
use Rattle.dv_notices.specs.Reports.{cut_text, sources_text, unknown_text, validity_text}
use Rattle.dv_notices.proofs.reports.put_remains.Goals as goal

pub returns : goal.returns
returns c =
    let r = c.args.remains.now in
    let files = sources_text r.sources in
    let cut = pieces _ _ _ files (cut_text r.is_cut) c.in_ok-put_sources.ensures c.in_ok-put_cut.ensures in
    let unknown = pieces _ _ _ (files ++ cut_text r.is_cut) (unknown_text r.unknown) cut c.in_ok-put_unknown.ensures in
    IfOk-weaker c.put_validity.result _ _ (λ done last.
    pieces _ _ _ (files ++ cut_text r.is_cut ++ unknown_text r.unknown) (validity_text r.validity) unknown last)
    c.put_validity.ensures
