use Rattle.std.proofs.Common.{◌≡◌, true, take}
use Rattle.std.specs.List.{list_all}
use Rattle.dv_model.proofs.Clients.{shows}
use Rattle.dv_view.proofs.replies.shows_all.Given as goal

abbrev pub invariant-loop-s : goal.invariant-loop-s
invariant-loop-s l = list_all (λ s. shows l.old s.uid) (take l.s-index l.new) ≡ true
