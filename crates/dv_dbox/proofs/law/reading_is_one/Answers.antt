use Rattle.std.proofs.Common.{◌≡◌, Result, Ok, sym, ◌∙◌}
use Rattle.dv_dbox.specs.BoxTexts.{BoxContent, BoxFault}
use Rattle.dv_dbox.proofs.Again.{read_again}
use Rattle.dv_dbox.proofs.law.reading_is_one.Goals as goal

pub returns : goal.returns
returns c = λ m n b t u.
    let one : Result BoxContent BoxFault = Ok m in
    let other : Result BoxContent BoxFault = Ok n in
    let same : one ≡ other = sym (read_again m b t) ∙ read_again n b u in
    cc
