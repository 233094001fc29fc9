-- One append more.
use Rattle.std.specs.Prelude.{Option, Some, None}
use Rattle.std.proofs.Common.{◌≡◌, ℕ, ◌+◌, ◌<◌, ◌≤◌, List, [], ◌∷◌, ◌++◌, ap, sym, subst, ◌∙◌, arith}
use Rattle.dv_model.specs.Journals.{Log}
use Rattle.dv_front.specs.declared.notes.Note.{Note}
use Rattle.dv_front.specs.Notes.{AreNotes}
use Rattle.dv_feed.specs.Appends.{append_note, appends_from}
use Rattle.dv_feed.proofs.Instances.{appends_are_notes, one_more}
use Rattle.dv_generations.specs.Feeds.{Feed, NextView, journal, with_room}

-- behind the appends of the UIDs up to the last stands that of the next
pub next_append : (notes : List Note) (last : ℕ) → notes ≡ appends_from 1 last → notes ++ append_note (last + 1) ∷ [] ≡ appends_from 1 (last + 1)
next_append notes last is =
    let up : last + 1 ≡ 1 + last = omega arith in
    (λ i. is i ++ append_note (up i) ∷ []) ∙ one_more 1 last

pub next_is_good : (start : Log) (notes : List Note) (last : ℕ) → start.start.next_uid ≡ 1 → start.start_mark.offset ≤ 131072 → last < 1000 → notes ≡ appends_from 1 last
    → AreNotes start.start start.start_mark (notes ++ append_note (last + 1) ∷ [])
next_is_good start notes last next low few is =
    subst (AreNotes start.start start.start_mark) (sym (next_append notes last is))
    (appends_are_notes start.start start.start_mark 1 (last + 1) next (omega arith) (omega arith) (omega arith) (omega arith))

-- what was published stays where a next table is made ready
pub ready_journal : (f after : Feed) (next : Option NextView) → after ≡ with_room f next → journal after ≡ journal f
ready_journal f after None is = ap journal is
ready_journal f after (Some n) is = ap journal is
