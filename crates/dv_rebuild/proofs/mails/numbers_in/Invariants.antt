use Rattle.std.proofs.Common.{◌≡◌, take}
use Rattle.dv_rebuild.specs.Mails.{numbers_in}
use Rattle.dv_rebuild.proofs.mails.numbers_in.Given as goal

abbrev pub invariant-loop-name : goal.invariant-loop-name
invariant-loop-name l = l.numbers ≡ numbers_in (take l.name-index l.names)
