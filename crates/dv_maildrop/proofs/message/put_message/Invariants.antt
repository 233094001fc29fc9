use Rattle.std.proofs.Common.{◌≡◌, ◌++◌, length}
use Rattle.dv_script.specs.Extending.{Extends}
use Rattle.dv_maildrop.specs.Messages.{message_text}
use Rattle.dv_maildrop.proofs.message.put_message.Given as goal

abbrev pub invariant-lines : goal.invariant-lines
invariant-lines l = record {
  whole : l.text ++ message_text l.rest ≡ l.initial.text ++ message_text l.message;
  grows : Extends l.initial.text l.text;
}

abbrev pub decreases-lines : goal.decreases-lines
decreases-lines l = length l.rest
