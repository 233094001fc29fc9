use Rattle.std.proofs.Common.{ℕ, ◌+◌, ◌∷◌, [], ◌++◌, ◌∙◌, false, List, drop, map, refl, ap}
use Rattle.dv_model.specs.declared.types.Span.{Span}
use Rattle.dv_maildrop.specs.declared.types.Listed.{Listed}
use Rattle.dv_maildrop.specs.Counts.{chosen}
use Rattle.dv_maildrop.specs.Maildrops.{uid_span}
use Rattle.dv_maildrop.proofs.Chosen.{added, passed, some_row}
use Rattle.dv_maildrop.proofs.counts.set_of.Goals as goal
use Rattle.dv_maildrop.proofs.counts.set_of.Goals.{then-flags-place+in_ok-push, else-flags-place}

abbrev spans_of : List (ℕ × Listed) → List Span
spans_of rows = map (λ row. uid_span row.1.uid) rows

pub loop-place-preserved : goal.loop-place-preserved
loop-place-preserved c =
    let rows = c.args.rows.now in
    let flags = c.args.flags.now in
    let i = c.loop-place.place in
    let others = spans_of (chosen (λ flag. flag) (i + 1 + 1) (drop (i + 1) rows) (drop (i + 1) flags)) in
    elim c.if-flags-place.branch [
      | then-flags-place+in_ok-push w ↦
          ap (λ (t : List Span). t ++ others) (w.set-is ∙ w.in_ok-push.ensures.ok)
          ∙ added spans_of (λ x. uid_span x.1.uid ∷ []) (λ x xs. refl) (λ flag. flag) (i + 1) i rows flags _ false c.loop-place.set _ c.loop-place-test.true c.requires w.if-flags-place.true c.loop-place.invariant
      | else-flags-place w ↦
          ap (λ (t : List Span). t ++ others) w.set-is
          ∙ passed spans_of (λ x. uid_span x.1.uid ∷ []) (λ x xs. refl) (λ flag. flag) (i + 1) i rows flags some_row false c.loop-place.set _ c.loop-place-test.true c.requires w.if-flags-place.false c.loop-place.invariant
    ]
