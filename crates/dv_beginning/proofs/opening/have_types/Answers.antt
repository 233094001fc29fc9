use Rattle.std.proofs.Common.{◌≡◌, sym, ◌∙◌, ap, subst}
use Rattle.std.proofs.lemmas.List.Elements.{All-same}
use Rattle.dv_model.specs.declared.types.Extension.{Extension}
use Rattle.dv_model.specs.declared.types.Mark.{Mark}
use Rattle.dv_model.specs.Journals.{IsU32}
use Rattle.dv_model.specs.Mailboxes.{IsValid}
use Rattle.dv_ext.specs.Tables.{Table}
use Rattle.dv_apply.specs.States.{Held}
use Rattle.dv_beginning.proofs.opening.have_types.Goals as goal

pub returns-clause-valid : goal.returns-clause-valid
returns-clause-valid g c = subst (λ (l : Held). IsValid l.mailbox) c.live-live.ensures c.next_uid-next.ensures.valid

pub returns-clause-resets : goal.returns-clause-resets
returns-clause-resets g c =
    let whole : c.as_slice.result.now ≡ c.args.store.now.chain.live.mailbox.extensions =
    c.as_slice.ensures ∙ c.list.ensures.list ∙ ap (λ (t : Table). t.extensions) c.extensions.ensures ∙ ap (λ (l : Held). l.mailbox.extensions) c.live-live.ensures in
    All-same (λ (e : Extension). IsU32 e.reset_id) c.args.store.now.chain.live.mailbox.extensions c.as_slice.result.now (sym whole) c.are_numbers.ensures

pub returns-clause-place : goal.returns-clause-place
returns-clause-place g c = (
  subst IsU32 (ap (λ (m : Mark). m.file_seq) c.place-mark.ensures) c.is_number.ensures,
  subst IsU32 (ap (λ (m : Mark). m.offset) c.place-mark.ensures) c.is_number-2.ensures,
)

pub returns-clause-indexid : goal.returns-clause-indexid
returns-clause-indexid g c = subst IsU32 c.indexid.ensures c.is_number-3.ensures
