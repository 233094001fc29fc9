use Rattle.std.proofs.Common.{◌∙◌, ap, sym, not, List, drop}
use Rattle.std.specs.List.{list_any}
use Rattle.dv_shelf.specs.declared.record.Call.{Call}
use Rattle.dv_shelf.specs.Disks.{settles_file}
use Rattle.dv_shelf.proofs.RecordLemmas.{later_settles}
use Rattle.dv_shelf.proofs.record.Record.is_unsynced.Goals as goal

pub returns : goal.returns
returns c =
    let name = c.args.name in
    let seen = c.split_at.ensures.back ∙ ap (drop c.args.from) c.as_slice.ensures.value in
    ap not (c.any_settles.ensures ∙ ap (λ (l : List Call). list_any (λ (m : Call). settles_file name m.name m.deed m.outcome) l) seen
    ∙ sym (later_settles c.args.self.now.bytes.items c.args.self.now.calls.items c.args.from name))
