use Rattle.std.proofs.Common.{◌≡◌, ℕ, take}
use Rattle.std.specs.Prelude.{flat_map}
use Rattle.dv_model.specs.Journals.{Mail}
use Rattle.dv_model.specs.Sessions.{fetch_lines}
use Rattle.dv_responses.specs.Fetched.{AreFetched}
use Rattle.dv_responses.specs.Rows.{rows_at}
use Rattle.dv_responses.proofs.fetching.add_lines.Given as goal

abbrev pub invariant-loop-number : goal.invariant-loop-number
invariant-loop-number g l = (mail : ℕ → Mail) → AreFetched mail l.live.mailbox l.items l.facts (rows_at l.rows l.numbers) → l.lines ≡ g.R.Replies.with l.initial.lines (flat_map (fetch_lines mail l.live.mailbox l.items) (rows_at l.rows (take l.number-index l.numbers)))
