use Rattle.std.proofs.Common.{List, nat_eq, subst, sym, if◌then◌else◌}
use Rattle.dv_model.specs.declared.types.Extension.{Extension}
use Rattle.dv_model.specs.Effects.{zeroed}
use Rattle.dv_ext.specs.Tables.{Table, IsTable}
use Rattle.dv_ext.proofs.Doing.{reset_keeps}
use Rattle.dv_ext.proofs.Kept.{resized}
use Rattle.dv_ext.proofs.Parts.{length-zeroed}
use Rattle.dv_ext.proofs.Validity.{resized_same, resized_zeroed}
use Rattle.dv_ext.proofs.extensions.Extensions.reset.Goals as goal
use Rattle.dv_ext.proofs.extensions.Extensions.reset.Goals.{then-preserve-eq0, else-preserve-eq0}

pub invariant_of-self : goal.invariant_of-self
invariant_of-self c =
    let t : Table = record { extensions = c.self.inside.list; current = c.self.inside.current } in
    let change : Extension → Extension = λ e. if nat_eq c.args.preserve 0 then record e { reset_id = c.args.reset_id; header = zeroed e.header } else record e { reset_id = c.args.reset_id } in
    subst (λ (list : List Extension). IsTable (record { extensions = list; current = c.self.inside.current })) (sym c.reset_at.ensures) (resized t c.in-Some.current change c.self.invariant c.in-Some.is (λ e. reset_keeps (nat_eq c.args.preserve 0) c.args.reset_id e (zeroed e.header) (length-zeroed e.header)))

pub returns-clause-valid : goal.returns-clause-valid
returns-clause-valid c =
    let t : Table = record { extensions = c.self.inside.list; current = c.self.inside.current } in
    let change : Extension → Extension = λ e. if nat_eq c.args.preserve 0 then record e { reset_id = c.args.reset_id; header = zeroed e.header } else record e { reset_id = c.args.reset_id } in
    let keeps = λ (e : Extension). reset_keeps (nat_eq c.args.preserve 0) c.args.reset_id e (zeroed e.header) (length-zeroed e.header) in
    elim c.if-preserve-eq0.branch [
      | then-preserve-eq0 w ↦ rw w.result-is (resized_zeroed t c.args.self.now c.in-Some.current change c.reset_at.new.list c.self.view_is c.self.invariant c.in-Some.is keeps c.reset_at.ensures)
      | else-preserve-eq0 w ↦ rw w.result-is (resized_same t c.args.self.now c.in-Some.current change c.reset_at.new.list c.self.view_is c.self.invariant c.in-Some.is keeps c.reset_at.ensures)
    ]
