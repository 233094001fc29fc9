use Rattle.std.proofs.Common.{length}
use Rattle.dv_sets.specs.Known.{KnowsAll}
use Rattle.dv_sets.proofs.Words.{IsReadTo}
use Rattle.dv_sets.proofs.flags.parse_flags.Given as goal

abbrev pub invariant-each_word : goal.invariant-each_word
invariant-each_word l = record {
  read : IsReadTo l.b l.flags l.keywords l.text;
  known : KnowsAll l.known l.keywords;
}

abbrev pub decreases-each_word : goal.decreases-each_word
decreases-each_word l = length l.text
