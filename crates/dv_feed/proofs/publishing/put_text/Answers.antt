use Rattle.std.proofs.Common.{arith}
use Rattle.dv_feed.proofs.Put.{put_more, words_long}
use Rattle.dv_feed.proofs.publishing.put_text.Goals as goal

pub put_word-requires-clause-next : goal.put_word-requires-clause-next
put_word-requires-clause-next c = omega (arith, words_long c.args.pen.now c.loop-k.pen c.loop-k.k c.args.text.now c.loop-k.invariant, c.requires.next)

pub loop-k-preserved : goal.loop-k-preserved
loop-k-preserved c = put_more c.args.pen.now c.loop-k.pen c.put_word.new.pen c.loop-k.k c.u32_at.result c.args.text.now c.loop-k.invariant c.put_word.ensures c.u32_at.ensures
