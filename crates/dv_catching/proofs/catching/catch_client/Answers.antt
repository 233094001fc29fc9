use Rattle.std.proofs.Common.{refl}
use Rattle.dv_serving.proofs.Readings.{readings_give}
use Rattle.dv_catching.proofs.Answered.{catches_over}
use Rattle.dv_catching.proofs.catching.catch_client.Goals as goal

pub returns-in-Ok-clause-catches : goal.returns-in-Ok-clause-catches
returns-in-Ok-clause-catches g c = λ tells settled is_true.
    readings_give (c.in-Ok.ensures.begins tells settled is_true) (λ clock small told begun.
    catches_over g.S.Shelf.sees clock c.args.client.now c.answer.result.end _ c.args.shelf c.answer.result.shelf c.answer.ensures.ends (c.answer.ensures.catches tells clock c.args.shelf begun))

pub returns-in-Err-clause-catches : goal.returns-in-Err-clause-catches
returns-in-Err-clause-catches g c = λ tells settled is_true.
    readings_give (c.in-Err.ensures.begins tells settled is_true) (λ clock small told left. (λ writes. refl, left))
