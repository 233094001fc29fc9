use Rattle.std.proofs.Common.{◌∙◌, ap, sym}
use Rattle.dv_shelf.specs.Folders.{has_name}
use Rattle.dv_shelf.specs.Disks.{files_after}
use Rattle.dv_shelf.specs.Records.{made_calls}
use Rattle.dv_shelf.proofs.NameLemmas.{named_already, named_anew}
use Rattle.dv_shelf.proofs.record.Record.names_with.Goals as goal

pub returns-then-has_name : goal.returns-then-has_name
returns-then-has_name c =
    named_already (files_after (made_calls c.args.self.now)) c.in_ok-names.names c.args.name c.in_ok-names.ensures
    (ap (λ l. has_name l c.args.name) (sym c.as_slice.ensures) ∙ sym c.has_name.ensures ∙ c.if-has_name.true)

pub returns : goal.returns
returns c =
    named_anew (files_after (made_calls c.args.self.now)) c.in_ok-names.names _ c.args.name c.in_ok-names.ensures
    (ap (λ l. has_name l c.args.name) (sym c.as_slice.ensures) ∙ sym c.has_name.ensures ∙ c.if-has_name.false) c.in_ok-push.ensures.ok
