use Rattle.std.proofs.Common.{ℕ, ◌+◌, ◌++◌, ◌∙◌, false, List, not, drop, refl, sym, ap, subst}
use Rattle.dv_maildrop.specs.Answers.{row_text, rows_text}
use Rattle.dv_maildrop.specs.Counts.{chosen}
use Rattle.dv_script.specs.Extending.{Extends}
use Rattle.dv_maildrop.specs.Messages.{crlf}
use Rattle.dv_maildrop.proofs.Chosen.{added, extends_more, passed, some_row}
use Rattle.dv_maildrop.proofs.listing.put_rows.Goals as goal
use Rattle.dv_maildrop.proofs.listing.put_rows.Goals.{then-not-flags-place+in_ok-put_row, else-not-flags-place}

pub loop-place-preserved : goal.loop-place-preserved
loop-place-preserved c =
    let rows = c.args.rows.now in
    let flags = c.args.flags.now in
    let i = c.loop-place.place in
    let listing = c.args.listing in
    let others = rows_text listing (chosen not (i + 1 + 1) (drop (i + 1) rows) (drop (i + 1) flags)) in
    elim c.if-not-flags-place.branch [
      | then-not-flags-place+in_ok-put_row w ↦ record {
        whole =
            ap (λ (t : List ℕ). t ++ others) (w.text-is ∙ w.in_ok-put_row.ensures.ok)
            ∙ added (rows_text listing) (λ x. row_text listing x ++ crlf) (λ x xs. refl) not (i + 1) i rows flags _ false c.loop-place.text _ c.loop-place-test.true c.requires (ap not w.if-not-flags-place.true) c.loop-place.invariant.whole;
        grows = extends_more c.args.text.now c.loop-place.text _ _ c.loop-place.invariant.grows (w.text-is ∙ w.in_ok-put_row.ensures.ok);
      }
      | else-not-flags-place w ↦ record {
        whole =
            ap (λ (t : List ℕ). t ++ others) w.text-is
            ∙ passed (rows_text listing) (λ x. row_text listing x ++ crlf) (λ x xs. refl) not (i + 1) i rows flags some_row false c.loop-place.text _ c.loop-place-test.true c.requires (ap not w.if-not-flags-place.false) c.loop-place.invariant.whole;
        grows = subst (λ (t : List ℕ). Extends c.args.text.now t) (sym w.text-is) c.loop-place.invariant.grows;
      }
    ]
