use Rattle.std.proofs.Common.{List, ℕ, Result, Ok, Err}
use Rattle.std.specs.Prelude.{IfOk}
use Rattle.dv_dbox.specs.BoxTexts.{box_content, BoxText}
use Rattle.dv_dbox.specs.declared.fault.BoxEnd.{BoxEnd}
use Rattle.dv_dbox.specs.declared.message.Message.{Message}
use Rattle.dv_dbox.specs.Reading.{content_of, Gives}
use Rattle.dv_dbox.proofs.Again.{read_again}
use Rattle.dv_dbox.proofs.Found.{text_found}
use Rattle.dv_dbox.proofs.reading.read.Goals as goal

of_format : (b : List ℕ) (r : Result Message BoxEnd) → Gives content_of r (box_content b)
    → IfOk r (λ m. BoxText (content_of m) b)
of_format b (Ok m) given = text_found b (content_of m) given
of_format b (Err end) given = tt

pub returns-clause-found : goal.returns-clause-found
returns-clause-found c = of_format c.args.b.now c.read_parts.result c.read_parts.ensures

pub returns-clause-only : goal.returns-clause-only
returns-clause-only c = λ m t. rw (read_again m c.args.b.now t) at c.read_parts.ensures
