use Rattle.std.proofs.Common.{◌≡◌, ◌⊎◌, inl, inr, ◌<◌, ◌≤◌, ap, arith, sym, ◌∙◌, take, drop}
use Rattle.std.specs.Int.{w32, from_le_bytes}
use Rattle.dv_formats.specs.SnapshotFaults.{Order, uid_at, word_at}
use Rattle.dv_index.proofs.Headers.{next_before, next_place, ordered, uid_there, unordered}
use Rattle.dv_index.proofs.Records.{room}
use Rattle.dv_index.proofs.reading.checks.first_unordered.Goals.{then-uid-before-via-then-uid-before, then-uid-before-via-else-uid-before+then-next_uid-uid}
use Rattle.dv_index.proofs.reading.checks.first_unordered.Goals as goal

pub u32_at-uid-requires : goal.u32_at-uid-requires
u32_at-uid-requires c =
    let below : c.loop.counter < word_at 32 c.args.b.now = omega (arith, c.u32_at-end.ensures, c.loop-test.true) in
    let inside = room (word_at 8 c.args.b.now) c.loop.counter (word_at 32 c.args.b.now) below in
    omega (arith, inside, c.loop.invariant.place, c.requires.size, c.requires.long)

pub returns-then-uid-before-clause-some : goal.returns-then-uid-before-clause-some
returns-then-uid-before-clause-some c =
    let below : c.loop.counter < word_at 32 c.args.b.now = omega (arith, c.u32_at-end.ensures, c.loop-test.true) in
    let uid : c.u32_at-uid.result ≡ uid_at c.loop.counter c.args.b.now =
    c.u32_at-uid.ensures ∙ ap (λ n. from_le_bytes w32 (take 4 (drop n c.args.b.now))) c.loop.invariant.place ∙ sym (uid_there c.loop.counter c.args.b.now (omega (arith, c.requires.size))) in
    let bad : (c.u32_at-uid.result ≤ c.loop.before) ⊎ (c.u32_at-next_uid.result ≤ c.u32_at-uid.result) = elim c.then-uid-before.branch [
      | then-uid-before-via-then-uid-before w ↦ inl w.if-uid-before.true
      | then-uid-before-via-else-uid-before+then-next_uid-uid w ↦ inr w.if-next_uid-uid.true
    ] in
    (c.loop.counter, unordered c.loop.counter c.args.b.now c.loop.before c.u32_at-uid.result c.u32_at-next_uid.result below c.loop.invariant.order c.loop.invariant.uid uid c.u32_at-next_uid.ensures bad, ap Order c.loop.invariant.place)

pub loop-preserved : goal.loop-preserved
loop-preserved c =
    let uid : c.u32_at-uid.result ≡ uid_at c.loop.counter c.args.b.now =
    c.u32_at-uid.ensures ∙ ap (λ n. from_le_bytes w32 (take 4 (drop n c.args.b.now))) c.loop.invariant.place ∙ sym (uid_there c.loop.counter c.args.b.now (omega (arith, c.requires.size))) in
    record {
      place = next_place c.loop.counter c.args.b.now c.loop.at c.u32_at-size.result c.loop.invariant.place c.u32_at-size.ensures;
      uid = next_before c.loop.counter c.args.b.now c.u32_at-uid.result uid;
      order = ordered c.loop.counter c.args.b.now c.loop.before c.u32_at-uid.result c.u32_at-next_uid.result c.loop.invariant.order c.loop.invariant.uid uid c.u32_at-next_uid.ensures (omega arith) (omega arith);
    }
