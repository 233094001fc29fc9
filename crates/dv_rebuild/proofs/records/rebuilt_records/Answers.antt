use Rattle.std.proofs.Common.{◌≡◌, rules, subst, sym}
use Rattle.std.specs.Prelude.{All}
use Rattle.dv_model.specs.Spelling.{IsRecord}
use Rattle.dv_openings.specs.Salvages.{rebuilt_records}
use Rattle.dv_rebuild.specs.Walks.{salvaged_of}
use Rattle.dv_rebuild.proofs.Written.{rebuilt_are}
use Rattle.dv_rebuild.proofs.records.rebuilt_records.Goals as goal

pub returns-clause-valid : goal.returns-clause-valid
returns-clause-valid c =
    let s = salvaged_of c.args.salvage.now in
    let is : c.push-2.new.self ≡ rebuilt_records s c.args.kept.now c.args.n = search rules in
    subst (All IsRecord) (sym is) (rebuilt_are s c.args.kept.now c.args.n c.requires c.next_uid-next.ensures.valid.names.0)
