use Rattle.std.proofs.Common.{◌∙◌, List, ap, map, sym}
use Rattle.std.specs.List.{list_any}
use Rattle.dv_model.specs.declared.types.Key.{Key}
use Rattle.dv_model.specs.Searches.{needs_mail}
use Rattle.dv_search.proofs.Asking.{one_of}
use Rattle.dv_search.proofs.mail.+mail.Goals as goal

pub any_reads-returns-then-reads : goal.any_reads-returns-then-reads
any_reads-returns-then-reads t c =
    let here = ap needs_mail (sym c.key-item.is) ∙ sym c.reads.ensures ∙ c.if-reads.true in
    sym (ap (λ (keys : List Key). list_any (λ reads. reads) (map needs_mail keys)) (sym c.as_slice-key-items.ensures) ∙ one_of needs_mail c.as_slice-key-items.result.now c.loop-key.key-index c.key-item.result c.loop-key-test.true here)
