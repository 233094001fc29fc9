use Rattle.std.proofs.Common.{◌≡◌, ◌+◌, ◌++◌, drop, not}
use Rattle.dv_maildrop.specs.Answers.{rows_text}
use Rattle.dv_maildrop.specs.Counts.{chosen}
use Rattle.dv_script.specs.Extending.{Extends}
use Rattle.dv_maildrop.proofs.listing.put_rows.Given as goal

abbrev pub invariant-loop-place : goal.invariant-loop-place
invariant-loop-place l = record {
  whole : l.text ++ rows_text l.listing (chosen not (l.place + 1) (drop l.place l.rows) (drop l.place l.flags))
      ≡ l.initial.text ++ rows_text l.listing (chosen not 1 l.rows l.flags);
  grows : Extends l.initial.text l.text;
}
