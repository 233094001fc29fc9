use Rattle.std.proofs.Common.{◌≡◌, ◌-◌, length}
use Rattle.dv_replies.specs.Reading.{each_behind, word_at}
use Rattle.dv_replies.proofs.lists.add_numbers.Given as goal

abbrev pub invariant-loop : goal.invariant-loop
invariant-loop l = each_behind l.separator word_at (length l.b - l.counter) l.numbers l.rest ≡ each_behind l.separator word_at (length l.b) l.fn.numbers l.b
