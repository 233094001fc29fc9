use Rattle.std.proofs.Common.{List, ℕ, sym, ap, subst}
use Rattle.dv_model.specs.declared.types.Command.{Command}
use Rattle.dv_files.specs.Writing.{IsFileOf}
use Rattle.dv_writing.specs.declared.steps.Files.TheVariants as files
use Rattle.dv_plans.specs.Files.{AreFewFiles, IsAppended, guid_for}
use Rattle.dv_plans.proofs.before.files_of.Goals as goal

pub returns-in_ok-text-in-Append : goal.returns-in_ok-text-in-Append
returns-in_ok-text-in-Append c =
    let chain = c.args.chain.now in
    let received = c.args.received in
    let message = c.in-Append.message in
    let text = c.in_ok-text-in-Append.text in
    let is = c.in_ok-text-in-Append.ensures.text in
    let made : IsAppended chain received message (files.Message text) =
    record { is = ap files.Message is; file = subst (λ (t : List ℕ). IsFileOf message (guid_for chain received) t) is c.in_ok-text-in-Append.ensures.file } in
    subst (λ (command : Command). AreFewFiles chain received command (files.Message text)) (sym c.in-Append.is) made
