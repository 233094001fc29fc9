use Rattle.std.proofs.Common.{◌∙◌, ◌++◌, ℕ, List, ap, append_assoc, sym, subst, arith, take}
use Rattle.dv_shelf.specs.Streams.{AppendsFront}
use Rattle.dv_catching.proofs.Joined.{front_of_pieces, joined_more}
use Rattle.dv_catching.specs.Texts.{joined}
use Rattle.dv_catching.proofs.pieces.write_pieces.Goals as goal

pub loop-piece-preserved : goal.loop-piece-preserved
loop-piece-preserved g c =
    let old = g.O.Sink.sees.taken c.args.out.now in
    let i = c.loop-piece.piece-index in
    let pieces = c.args.pieces.now in
    let piece : List ℕ = c.piece-item.result in
    let before = c.loop-piece.invariant.later in
    let later = c.in_ok-write_all.ensures.cause.later in
    record {
      taken = λ tells.
          c.in_ok-write_all.ensures.ok tells
          ∙ ap (λ (t : List ℕ). g.O.Sink.sees.taken c.loop-piece.out ++ t) c.as_slice.ensures
          ∙ ap (λ (t : List ℕ). t ++ piece) (c.loop-piece.invariant.taken tells)
          ∙ append_assoc old (joined (take i pieces)) piece
          ∙ ap (λ (t : List ℕ). old ++ t) (sym (joined_more pieces i piece c.loop-piece-test.true c.piece-item.is));
      later = omega (arith, before, later);
    }

pub returns-in_err-write_all-clause-err : goal.returns-in_err-write_all-clause-err
returns-in_err-write_all-clause-err g c = λ tells.
    let old = g.O.Sink.sees.taken c.args.out.now in
    let mid = g.O.Sink.sees.taken c.loop-piece.out in
    let new = g.O.Sink.sees.taken c.write_all.new.self in
    front_of_pieces c.args.pieces.now c.loop-piece.piece-index c.piece-item.result old mid new c.loop-piece-test.true c.piece-item.is (c.loop-piece.invariant.taken tells)
    (subst (λ (t : List ℕ). AppendsFront mid new t) c.as_slice.ensures (c.write_all.ensures.err tells))
