use Rattle.std.proofs.Common.{◌∙◌, sym, subst}
use Rattle.std.specs.Prelude.{All, IsSome}
use Rattle.std.proofs.lemmas.List.Elements.{All-weaker}
use Rattle.std.proofs.lemmas.Result.{IfOk-weaker}
use Rattle.dv_model.specs.declared.types.Group.{Group}
use Rattle.dv_model.specs.Effects.{applied}
use Rattle.dv_model.specs.Sessions.{group_of}
use Rattle.dv_model.specs.Spelling.{IsRecord}
use Rattle.dv_validity.proofs.Groups.{group_applies}
use Rattle.dv_validity.proofs.Written.{IsWritable, group_written}
use Rattle.dv_groups.proofs.groups.group_of.Goals as goal

pub returns-clause-records : goal.returns-clause-records
returns-clause-records c =
    λ guid write same.
    let cmd = c.args.c.now in let view = c.args.view.now in let m = c.args.live.now.mailbox in
    IfOk-weaker c.group_from.result _ _
    (λ group is. subst (λ (g : Group). All IsRecord g.records) (sym is)
    (All-weaker IsWritable IsRecord (λ r one. one.is) (group_of cmd view m guid).records (group_written m write.valid cmd view guid write.command write.resets write.guids write.left)))
    (c.group_from.ensures view guid (c.as_slice.ensures ∙ c.in_ok-uids.ensures) same)

pub returns-clause-applies : goal.returns-clause-applies
returns-clause-applies c =
    λ guid good same.
    let cmd = c.args.c.now in let view = c.args.view.now in let m = c.args.live.now.mailbox in
    IfOk-weaker c.group_from.result _ _
    (λ group is. subst (λ (g : Group). IsSome (applied m g.records)) (sym is) (group_applies cmd view m guid good))
    (c.group_from.ensures view guid (c.as_slice.ensures ∙ c.in_ok-uids.ensures) same)
