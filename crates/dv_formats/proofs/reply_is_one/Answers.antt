use Rattle.dv_formats.proofs.Replies.{line_one}
use Rattle.dv_formats.proofs.reply_is_one.Goals as goal

pub returns : goal.returns
returns c = line_one
