use Rattle.std.proofs.Common.{◌++◌, Some, None, ap}
use Rattle.std.specs.Prelude.{unwrap_or}
use Rattle.dv_model.specs.Journals.{Damaged, Held}
use Rattle.dv_dbox.specs.BoxTexts.{written}
use Rattle.dv_dbox.specs.Mails.{no_guid}
use Rattle.dv_dbox.specs.Reading.{written_content}
use Rattle.dv_dbox.proofs.Again.{read_again}
use Rattle.dv_dbox.proofs.Taken.{written_is_taken}
use Rattle.dv_dbox.proofs.Written.{written_is_text}
use Rattle.dv_dbox.proofs.law.written_is_read.Goals as goal

pub returns-clause-spelled : goal.returns-clause-spelled
returns-clause-spelled c = λ stamp received guid message rest is.
    written_is_text stamp guid received message rest is.made is.came is.sixteen is.bytes is.short

pub returns-clause-read : goal.returns-clause-read
returns-clause-read c = λ stamp received guid message rest is.
    read_again (written_content stamp guid received message) (written stamp guid received message ++ rest)
    (written_is_text stamp guid received message rest is.made is.came is.sixteen is.bytes is.short)

pub returns-clause-held : goal.returns-clause-held
returns-clause-held c = λ stamp received guid message is.
    ap (λ o. elim o [ None ↦ Damaged | Some m ↦ Held m.bytes ]) (written_is_taken stamp received guid message is)

pub returns-clause-named : goal.returns-clause-named
returns-clause-named c = λ stamp received guid message is.
    ap (λ o. elim o [ None ↦ no_guid | Some m ↦ unwrap_or m.guid no_guid ]) (written_is_taken stamp received guid message is)
