use Rattle.std.proofs.Common.{rules}
use Rattle.dv_feed.proofs.Marks.{words_are_feed}
use Rattle.dv_feed.proofs.tests.uids_taken.Goals as goal

pub groups_of-requires : goal.groups_of-requires
groups_of-requires c = words_are_feed c.in_ok-pen.pen.generation.origin.mark c.take.new.out record {
  mailbox = c.in_ok-pen.pen.generation.origin.mailbox;
  notes = c.take.new.p.notes;
  good = search rules;
  text = search rules;
}
