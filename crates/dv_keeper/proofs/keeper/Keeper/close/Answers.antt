use Rattle.std.proofs.Common.{◌∙◌, ℕ, ap, length, subst, sym}
use Rattle.std.specs.Prelude.{All}
use mathlib.Core.List.{IsPrefix}
use Rattle.dv_model.specs.Counts.{RoseBy}
use Rattle.dv_member.specs.Members.{Member, notes_of}
use Rattle.dv_shared.specs.Kept.{Locked, notes_in}
use Rattle.dv_keeper.proofs.Settles.{rose_fewer}
use Rattle.dv_keeper.proofs.keeper.Keeper.close.Goals as goal

pub returns : goal.returns
returns g c =
    let last = c.audit.new.self in
    let settled = c.settle_all.ensures in
    let audited = c.audit.ensures in
    let known = c.knows.ensures in
    let faults = g.S.Shelf.sees.fault_count last.kept.store.shelf in
    let ss = c.args.sessions.items in (
      last.kept,
      c.into_parts.ensures.store,
      c.into_parts.ensures.count,
      known.holds,
      record {
        begins = subst (λ (l : Locked g.row.S.Denot g.row.C.Denot). All (λ (s : Member). IsPrefix (notes_of s) (notes_in l.kept)) ss) (sym (audited.same ∙ settled.same)) settled.begins;
        wrote = λ all. sym settled.writes.1 ∙ audited.writes (settled.writes.0 ∙ all) ∙ ap (λ (l : Locked g.row.S.Denot g.row.C.Denot). length (notes_in l.kept)) (sym audited.same);
        refused = λ all.
            subst (λ (n : ℕ). RoseBy n g.K.Keeping.count faults)
            (ap (λ (l : Locked g.row.S.Denot g.row.C.Denot). l.refused) audited.same ∙ sym (audited.refusals (settled.refusals.0 ∙ all)) ∙ settled.refusals.1) known.few;
        tries = rose_fewer last.refused (length last.kept.tries) g.K.Keeping.count faults known.tries known.few;
      },
      known.durable,
      known.settled,
    )
