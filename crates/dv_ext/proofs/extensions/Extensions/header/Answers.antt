use Rattle.std.proofs.Common.{List, fold, refl, subst, sym}
use Rattle.dv_model.specs.declared.types.Extension.{Extension}
use Rattle.dv_model.specs.Effects.{written_over}
use Rattle.dv_ext.specs.Tables.{Table, IsTable}
use Rattle.dv_ext.proofs.Kept.{resized}
use Rattle.dv_ext.proofs.Parts.{length-fold_written}
use Rattle.dv_ext.proofs.Validity.{resized_same}
use Rattle.dv_ext.proofs.extensions.Extensions.header.Goals as goal

pub invariant_of-self : goal.invariant_of-self
invariant_of-self c =
    let t : Table = record { extensions = c.self.inside.list; current = c.self.inside.current } in
    subst (λ (list : List Extension). IsTable (record { extensions = list; current = c.self.inside.current })) (sym c.write_at.ensures) (resized t c.in-Some.current (λ e. record e { header = fold written_over e.header c.as_slice.result.now }) c.self.invariant c.in-Some.is (λ e. (refl, refl, length-fold_written c.as_slice.result.now e.header)))

pub returns-clause-valid : goal.returns-clause-valid
returns-clause-valid c =
    let t : Table = record { extensions = c.self.inside.list; current = c.self.inside.current } in
    resized_same t c.args.self.now c.in-Some.current (λ e. record e { header = fold written_over e.header c.as_slice.result.now }) c.write_at.new.list c.self.view_is c.self.invariant c.in-Some.is (λ e. (refl, refl, length-fold_written c.as_slice.result.now e.header)) c.write_at.ensures
