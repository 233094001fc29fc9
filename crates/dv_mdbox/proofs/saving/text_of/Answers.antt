use Rattle.dv_mdbox.proofs.Saved.{file_held}
use Rattle.dv_mdbox.proofs.saving.text_of.Goals as goal

pub returns : goal.returns
returns c = file_held c.args.message.now _ c.mail_text.result c.mail_text.ensures.is
