-- A session's transcript goes on by one command.
use Rattle.std.proofs.Common.{◌≡◌, ◌∙◌, ◌++◌, ◌+◌, ◌-◌, ◌≤◌, ◌<◌, ℕ, Bool, true, false, cond, List, [], ◌∷◌, None, Option, Some, ap, append-nil, arith, length, min, refl, subst, sym}
use Rattle.std.specs.Prelude.{drop, flat_map, if◌then◌else◌}
use Rattle.std.proofs.lemmas.Grind.{flat_map-append}
use Rattle.std.proofs.lemmas.List.Sums.{sum_by-append}
use mathlib.Core.List.{IsPrefix}
use Rattle.dv_model.specs.declared.types.Command.{Command}
use Rattle.dv_model.specs.declared.types.Reply.{Reply}
use Rattle.dv_model.specs.Counts.{last_count}
use Rattle.dv_model.specs.Journals.{Log}
use Rattle.dv_model.specs.Sessions.{State}
use Rattle.dv_model.specs.Texts.{line_text}
use Rattle.dv_model.specs.Transcripts.{unavailable_count}
use Rattle.dv_stories.specs.Stories.{Progress, Story}
use Rattle.dv_parts.specs.Texts.{transcript_text}
use Rattle.dv_texts.specs.Lines.{Lines, with_replies}
use Rattle.dv_member.specs.Calls.{counted}
use Rattle.dv_member.specs.Members.{IsSession, Member, log_seen, notes_of}
use Rattle.dv_keeper.specs.Turns.{HasAnswered, is_marked}
use Rattle.dv_runner.specs.Runs.{IsTranscript, marked_count, progress_of}
use Rattle.dv_runner.specs.Serving.{IsLeft, IsUnserved}
use Rattle.dv_runner.proofs.Members.{log_on, log_sound, seen_long, seen_up}
use Rattle.dv_runner.proofs.Stories.{count_push, going, story_left, story_seen, story_told}

-- ---- counts and texts

abbrev progress_at : State → ℕ → ℕ → ℕ → Option ℕ → Progress
progress_at x seen wrote refused left = record { state = x; seen = seen; wrote = wrote; refused = refused; left = left }

progress_fresh : (s : Member) (replies : List (List Reply)) → s.spent ≡ false → progress_of s replies ≡ going s.follower.state s.seen s.wrote replies
progress_fresh s replies fresh = ap (λ (b : Bool). progress_at s.follower.state s.seen s.wrote (unavailable_count replies) (if b then Some (s.seen - 1) else None)) fresh

transcript_push : (name : List ℕ) (replies : List (List Reply)) (said : List Reply) → transcript_text name (replies ++ said ∷ []) ≡ transcript_text name replies ++ flat_map (line_text name) said
transcript_push name replies said =
    flat_map-append (flat_map (line_text name)) replies (said ∷ []) ∙ ap (λ (t : List ℕ). transcript_text name replies ++ t) (append-nil (flat_map (line_text name) said))

turns_more : (replies : List (List Reply)) (said : List Reply) (turns now : ℕ) → min (marked_count replies) last_count ≤ turns → now ≡ (if is_marked said then counted turns else turns) → min (marked_count (replies ++ said ∷ [])) last_count ≤ now
turns_more replies said turns now before is =
    by (is_marked said) last_count (marked_count replies) (marked_count (replies ++ said ∷ [])) before (sum_by-append (λ (rs : List Reply). cond (is_marked rs) 1 0) replies (said ∷ [])) is
  where
    by : (b : Bool) (last marks more : ℕ) → min marks last ≤ turns → more ≡ marks + (0 + cond b 1 0) → now ≡ (if b then min (turns + 1) last else turns) → min more last ≤ now
    by true last marks more before push is = omega (arith, before, push, is)
    by false last marks more before push is = omega (arith, before, push, is)

-- ---- the transcript

module _ (start : Log) (count : ℕ) (commands : List Command) (replies : List (List Reply)) (lines : Lines) (old new : Member) (session : IsSession start count old) (session_now : IsSession start count new) (fresh : old.spent ≡ false)
    (begins : IsPrefix (notes_of old) (notes_of new)) (is : IsTranscript start count commands replies lines old) where
  abbrev later : Log
  later = log_seen start new

  story : Story (log_seen start old) count old.number commands replies (going old.follower.state old.seen old.wrote replies)
  story = subst (λ (p : Progress). Story (log_seen start old) count old.number commands replies p) (progress_fresh old replies fresh) is.story

  up : old.seen ≤ new.seen
  up = seen_up start count old new session session_now begins

  within : old.seen ≤ length later.entries
  within = omega (arith, up, seen_long start count new session_now)

  -- one command more was answered
  pub told_more : (lines_now : Lines) (c : Command) (rest : List Command) (said : List Reply) → drop (length replies) commands ≡ c ∷ rest → new.number ≡ old.number → new.spent ≡ false
      → HasAnswered start count c said old new → lines_now ≡ with_replies lines said → IsTranscript start count commands (replies ++ said ∷ []) lines_now new
  told_more lines_now c rest said next number fresh_now a taken =
      let all : List (List Reply) = replies ++ said ∷ [] in
      let told = story_told (log_seen start old) later count old.number commands replies (log_sound start count old session) (log_on start count old new session_now begins) old.follower.state old.seen old.wrote story c rest next within a.met new.seen said
      new.follower.state a.low a.turn in
      let told_wrote = subst (λ (n : ℕ). Story later count old.number commands all (going new.follower.state new.seen n all)) (sym a.wrote) told in
      let told_so = subst (λ (p : Progress). Story later count old.number commands all p) (sym (progress_fresh new all fresh_now)) told_wrote in
      record {
        story = subst (λ (n : ℕ). Story later count n commands all (progress_of new all)) (sym number) told_so;
        text =
            ap (λ (l : Lines). l.text) taken ∙ ap (λ (t : List ℕ). t ++ flat_map (line_text lines.session) said) is.text ∙ sym (transcript_push lines.session replies said)
            ∙ ap (λ (n : List ℕ). transcript_text n all) (sym (ap (λ (l : Lines). l.session) taken));
        failures = omega (arith, count_push replies said, a.refused, is.failures);
        turns = turns_more replies said old.turns new.turns is.turns a.turns;
      }

  -- memory ran out, and its command wrote nothing
  pub told_unserved : IsUnserved old new → IsTranscript start count commands replies lines new
  told_unserved u =
      let seen = story_seen (log_seen start old) later count old.number commands replies (log_sound start count old session) (log_on start count old new session_now begins) old.follower.state old.seen old.wrote story new.seen up
      (omega (arith, seen_long start count new session_now)) in
      let progress : progress_of new replies ≡ going old.follower.state new.seen old.wrote replies =
      ap (λ (s : Member). progress_of s replies) u.now ∙ ap (λ (b : Bool). progress_at old.follower.state new.seen old.wrote (unavailable_count replies) (if b then Some (new.seen - 1) else None)) fresh in
      let seen_so = subst (λ (p : Progress). Story later count old.number commands replies p) (sym progress) seen in
      record {
        story = subst (λ (n : ℕ). Story later count n commands replies (progress_of new replies)) (sym (ap (λ (s : Member). s.number) u.now)) seen_so;
        text = is.text;
        failures = omega (arith, u.refused, is.failures);
        turns = subst (λ (n : ℕ). min (marked_count replies) last_count ≤ n) (sym (ap (λ (s : Member). s.turns) u.now)) is.turns;
      }

  -- memory ran out behind its entry
  pub told_left : (honest : Type 0) (c : Command) (rest : List Command) → drop (length replies) commands ≡ c ∷ rest → IsLeft start honest c old new → honest → IsTranscript start count commands replies lines new
  told_left honest c rest next l h =
      let k : ℕ = new.seen - 1 in
      let left = story_left (log_seen start old) later count old.number commands replies (log_sound start count old session) (log_on start count old new session_now begins) old.follower.state old.seen old.wrote story c rest next within k (omega (arith, l.behind))
      (l.entry h) in
      let last : k + 1 ≡ new.seen = omega (arith, l.behind) in
      let left_last = subst (λ (q : ℕ). Story later count old.number commands replies (progress_at old.follower.state q (old.wrote + 1) (unavailable_count replies) (Some k))) last left in
      let progress : progress_of new replies ≡ progress_at old.follower.state new.seen (old.wrote + 1) (unavailable_count replies) (Some k) = ap (λ (s : Member). progress_of s replies) l.now in
      let left_so = subst (λ (p : Progress). Story later count old.number commands replies p) (sym progress) left_last in
      record {
        story = subst (λ (n : ℕ). Story later count n commands replies (progress_of new replies)) (sym (ap (λ (s : Member). s.number) l.now)) left_so;
        text = is.text;
        failures = subst (λ (n : ℕ). unavailable_count replies ≤ n) (sym (ap (λ (s : Member). s.refused) l.now)) is.failures;
        turns = subst (λ (n : ℕ). min (marked_count replies) last_count ≤ n) (sym (ap (λ (s : Member). s.turns) l.now)) is.turns;
      }
