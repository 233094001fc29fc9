-- A failure of the disk is told by a count that rose.
use Rattle.std.proofs.Common.{◌≡◌, ◌∙◌, inl, inr, ℕ, Bool, true, false, ◌||◌, List, [], ◌∷◌, map, refl, subst, sym, ap}
use Rattle.std.specs.Prelude.{All}
use Rattle.std.specs.List.{list_any}
use Rattle.std.proofs.lemmas.List.Elements.{All-cons, All-head, All-nil, All-tail}
use Rattle.std.proofs.lemmas.List.Folds.{list_any-append}
use Rattle.dv_model.specs.declared.types.Mailbox.{Mailbox}
use Rattle.dv_model.specs.declared.types.Reply.{Reply}
use Rattle.dv_model.specs.declared.types.Reply.TheVariants as reply
use Rattle.dv_model.specs.Counts.{Rose}
use Rattle.dv_model.specs.Journals.{Log, mark_of}
use Rattle.dv_model.specs.Sessions.{Answer}
use Rattle.dv_model.specs.Transcripts.{IsTurn, Turn, is_unavailable}
use Rattle.dv_playing.specs.Playing.{Play}
use Rattle.dv_serving.proofs.Counting.{AreAvailable, answer_available}
use Rattle.dv_serving.proofs.Refusals.{refused_available}
use Rattle.dv_threads.specs.Transcripts.{IsAbove}

module _ (base : ℕ) where
  -- another line tells none
  other_above : (r : Reply) → is_unavailable r ≡ false → IsAbove base r
  other_above r is = λ faults same. absurd (let unavailable : is_unavailable r ≡ true = ap is_unavailable same in cc)

  one_above : (r : Reply) → IsAbove base r → All (IsAbove base) (r ∷ [])
  one_above r is = All-cons (IsAbove base) r [] is (All-nil (IsAbove base))

  lines_above : (lines : List Reply) → AreAvailable lines → All (IsAbove base) lines
  lines_above [] are = All-nil (IsAbove base)
  lines_above (r ∷ lines) are = by_first (λ rest. lines_above lines rest) (is_unavailable r) refl (sym (list_any-append is_unavailable (r ∷ []) lines) ∙ are)
    where
      by_first : (AreAvailable lines → All (IsAbove base) lines) → (b : Bool) → is_unavailable r ≡ b → (list_any is_unavailable (r ∷ []) || list_any is_unavailable lines) ≡ false → All (IsAbove base) (r ∷ lines)
      by_first others true is any = absurd (let first : list_any is_unavailable (r ∷ []) ≡ true = ap (λ (b : Bool). b || false) is in let both : (true || list_any is_unavailable lines) ≡ false = subst (λ (b : Bool). (b || list_any is_unavailable lines) ≡ false) first any in cc)
      by_first others false is any =
          let first : list_any is_unavailable (r ∷ []) ≡ false = ap (λ (b : Bool). b || false) is in
          All-cons (IsAbove base) r lines (other_above r is) (others (subst (λ (b : Bool). (b || list_any is_unavailable lines) ≡ false) first any))

  turn_above : (log : Log) (author : ℕ) (t : Turn) → IsTurn log base author t → All (IsAbove base) t.replies
  turn_above log author t is = elim is.answered [
    | inl refused ↦ subst (All (IsAbove base)) (sym refused.one_line)
        (one_above refused.line (other_above refused.line (refused_available (play_at refused.before) (author, t.command) refused.line refused.refusal)))
    | inr (inl failed) ↦ subst (All (IsAbove base)) (sym failed.one_line) (one_above (reply.Unavailable failed.faults) (λ faults same. let is : failed.faults ≡ faults = cc in subst (Rose base) is failed.above))
    | inr (inr told) ↦ subst (All (IsAbove base)) (ap (λ (a : Answer). a.replies) told.is) (lines_above _ (answer_available log.mail t.before t.command told.before t.behind told.mailbox (mark_of log t.behind)))
  ]
    where
      play_at : Mailbox → Play
      play_at before = record { log = log; mailbox = before; mark = mark_of log t.met; begun = false; states = λ s. t.before; used = 0 }

  pub turns_above : (log : Log) (author : ℕ) (turns : List Turn) → (All (IsTurn log base author) turns) → All (λ (lines : List Reply). All (IsAbove base) lines) (map (λ (t : Turn). t.replies) turns)
  turns_above log author [] all = All-nil (λ (lines : List Reply). All (IsAbove base) lines)
  turns_above log author (t ∷ turns) all =
      All-cons (λ (lines : List Reply). All (IsAbove base) lines) t.replies (map (λ (u : Turn). u.replies) turns) (turn_above log author t (All-head (IsTurn log base author) t turns all))
      (turns_above log author turns (All-tail (IsTurn log base author) t turns all))
