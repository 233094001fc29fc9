use Rattle.std.proofs.Common.{◌≡◌, take}
use Rattle.std.specs.Prelude.{flat_map}
use Rattle.dv_model.specs.Texts.{line_text}
use Rattle.dv_script.proofs.reply.replies_text.Given as goal

abbrev pub invariant-loop-reply : goal.invariant-loop-reply
invariant-loop-reply l = l.text ≡ flat_map (line_text l.session) (take l.reply-index l.reply-items)
