use Rattle.std.proofs.Common.{rules}
use Rattle.std.proofs.lemmas.Fn.{filter_same}
use Rattle.dv_answer.specs.Following.{is_untold}
use Rattle.dv_answer.proofs.fresh.retain_untold.Goals as goal

pub returns : goal.returns
returns c = filter_same _ (is_untold c.args.live.now.mailbox c.args.view.now) _ (λ uid b f' k. search rules) _ _ c.retain.ensures.filtered
