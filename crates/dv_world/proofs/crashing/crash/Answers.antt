use Rattle.std.proofs.Common.{◌≡◌, List, ap, arith, length, map, nat_eq, true}
use Rattle.std.proofs.lemmas.List.{length-map}
use Rattle.std.proofs.lemmas.Bool.Decides.{nat_tests}
use Rattle.dv_apply.specs.States.{Held}
use Rattle.dv_world.specs.declared.kept.Logged.{Logged}
use Rattle.dv_world.proofs.Crashes.{crashed_whole}
use Rattle.dv_world.proofs.crashing.crash.Goals as goal

pub returns-then-count-len-clause-kept : goal.returns-then-count-len-clause-kept
returns-then-count-len-clause-kept c =
    let k = c.args.kept.now in
    let same : c.in_ok-front.front.mailbox ≡ k.end.mailbox = ap (λ (h : Held). h.mailbox) c.in_ok-front.ensures in
    let e = length-map k.logged.items (λ (l : Logged). l.entry) in
    let all : nat_eq c.args.count (length (map (λ (l : Logged). l.entry) k.logged.items)) ≡ true = grind (arith, nat_tests) in
    (crashed_whole k c.requires c.args.count c.leave_log.new.kept c.in_ok-front.front c.leave_log.ensures same all).1
