-- What is written behind the answered lines.
use Rattle.std.proofs.Common.{◌≡◌, inl, inr, ℕ, zero, suc, List, [], ◌∷◌, ◌++◌, append-nil, length, take, drop, refl, sym, ◌∙◌, ap, subst}
use Rattle.dv_model.specs.Journals.{Log}
use Rattle.dv_shelf.specs.Streams.{Appends, AppendsFront}
use Rattle.dv_formats.specs.Scripts.{NamedLine}
use Rattle.dv_playing.specs.Playing.{Attempt, begin, replies_to, step}
use Rattle.dv_serial.specs.Places.{play_of}
use Rattle.dv_serial.specs.Runs.{IsTried}
use Rattle.dv_serving.specs.Scripts.{replies_text}
use Rattle.dv_serial.proofs.Running.{replies_length}
use Rattle.dv_cli.specs.declared.ending.End.{End}
use Rattle.dv_cli.specs.declared.ending.End.TheVariants as end
use Rattle.dv_cli.specs.Endings.{Concludes, text_of}
use Rattle.dv_cli.specs.Running.{memory_text}
use Rattle.dv_cli.specs.Runs.{WritesLines}
use Rattle.dv_power_cuts.specs.Acknowledging.{IsAnswerText, WritesBehind}

-- a last line, or a front of one
pub concluded : (rest : List NamedLine) (e : End) (status : ℕ) (old new : List ℕ) → Concludes e status old new → WritesBehind rest status old new
concluded rest e status old new (inl own) = inl (text_of e, (e, refl), own.1)
concluded rest e status old new (inr (inl four)) = inl (memory_text, (end.NoMemory, refl), four.2)
concluded rest e status old new (inr (inr (inl seven))) = inr (seven.0, (text_of e, inl (e, refl), seven.1))
concluded rest e status old new (inr (inr (inr both))) = inr (both.1, (memory_text, inl (end.NoMemory, refl), both.2))

tried_answer : (clock : ℕ → ℕ) (start : Log) (answered left : List Attempt) (rest : List NamedLine) (text : List ℕ) → IsTried clock start answered left rest text → IsAnswerText rest text
tried_answer clock start answered [] rest text tried = absurd tried
tried_answer clock start answered (a ∷ []) [] text tried = absurd tried
tried_answer clock start answered (a ∷ []) (line ∷ rest) text tried = ((step clock (play_of clock start answered) a).replies, tried)
tried_answer clock start answered (a ∷ b ∷ more) rest text tried = absurd tried

take_none : (k : ℕ) → take {A = ℕ} k [] ≡ []
take_none zero = refl
take_none (suc k) = refl

-- nothing more is written where the output failed
same_front : (old between new text : List ℕ) → AppendsFront old between text → new ≡ between → AppendsFront old new text
same_front old between new text front same = (front.0, front.1, same ∙ front.2)

behind_failure : (rest : List NamedLine) (status : ℕ) (old between new text : List ℕ) → IsAnswerText rest text → AppendsFront old between text → Concludes end.Sink status between new → WritesBehind rest status old new
behind_failure rest status old between new text answer front (inl own) =
    inr (own.0, (text, inr answer, same_front old between new text front (own.1 ∙ append-nil between)))
behind_failure rest status old between new text answer front (inr (inl four)) = absurd cc
behind_failure rest status old between new text answer front (inr (inr (inl seven))) =
    let none : new ≡ between = seven.1.2 ∙ ap (λ (more : List ℕ). between ++ more) (take_none seven.1.0) ∙ append-nil between in
    inr (seven.0, (text, inr answer, same_front old between new text front none))
behind_failure rest status old between new text answer front (inr (inr (inr both))) = absurd cc

module _ (clock : ℕ → ℕ) (start : Log) (answered left : List Attempt) (lines : List NamedLine) (status : ℕ) (taken between taken_now : List ℕ) where
  abbrev told : List ℕ
  told = replies_text lines (replies_to clock (begin start) answered)

  abbrev rest : List NamedLine
  rest = drop (length (replies_to clock (begin start) answered)) lines

  -- behind the whole answers
  whole : (e : End) → Appends taken between told → Concludes e status between taken_now → WritesBehind rest status (taken ++ told) taken_now
  whole e appends ends = concluded rest e status (taken ++ told) taken_now (subst (λ (old : List ℕ). Concludes e status old taken_now) appends ends)

  pub writes_behind : (e : End) → WritesLines e clock start answered left lines taken between → Concludes e status between taken_now → WritesBehind rest status (taken ++ told) taken_now
  writes_behind (end.Answered mark groups loaded) writes ends = whole (end.Answered mark groups loaded) writes ends
  writes_behind (end.Rebuilt kept skipped) writes ends = whole (end.Rebuilt kept skipped) writes ends
  writes_behind end.Usage writes ends = whole end.Usage writes ends
  writes_behind (end.Unopened f) writes ends = whole (end.Unopened f) writes ends
  writes_behind end.NoMemory writes ends = whole end.NoMemory writes ends
  writes_behind (end.Script s) writes ends = whole (end.Script s) writes ends
  writes_behind (end.Source n) writes ends = whole (end.Source n) writes ends
  writes_behind end.Sink writes ends =
      let answer : IsAnswerText (drop (length answered) lines) writes.0 = tried_answer clock start answered left (drop (length answered) lines) writes.0 writes.1 in
      let there : IsAnswerText rest writes.0 = subst (λ (n : ℕ). IsAnswerText (drop n lines) writes.0) (sym (replies_length clock (begin start) answered)) answer in
      behind_failure rest status (taken ++ told) between taken_now writes.0 there writes.2 ends
