-- A job on its way through its commands.
use Rattle.std.proofs.Common.{◌≡◌, ◌∙◌, inl, inr, ◌⊎◌, ◌++◌, ◌+◌, ◌≤◌, ◌<◌, ℕ, suc, Bool, true, false, true≢false, cond, List, [], ◌∷◌, Result, Ok, Err, ap, arith, drop, length, refl, subst, sym}
use Rattle.std.specs.Prelude.{IfOk, OnErr, slice_index_or}
use Rattle.std.proofs.lemmas.List.{drop_more, length_push}
use Rattle.std.proofs.lemmas.List.Sums.{sum_by-drop_more}
use mathlib.Core.List.{IsPrefix}
use Rattle.dv_model.specs.declared.types.Command.{Command}
use Rattle.dv_model.specs.declared.types.Reply.{Reply}
use Rattle.dv_model.specs.Journals.{Log}
use Rattle.dv_model.specs.Transcripts.{touches_disk}
use Rattle.dv_stories.specs.Stories.{Progress, Story}
use Rattle.dv_stories.proofs.Stories as stories
use Rattle.dv_texts.specs.Lines.{Lines, with_replies}
use Rattle.dv_serving.specs.Taking.{Takes}
use Rattle.dv_member.specs.Members.{IsSession, Member, log_seen, notes_of}
use Rattle.dv_keeper.specs.Turns.{HasAnswered}
use Rattle.dv_runner.specs.Runs.{HasRun, HaveRun, IsTranscript, Tells, progress_of}
use Rattle.dv_runner.specs.Serving.{IsCutShort, IsLeft, IsServed, IsUnserved, lock_count}
use Rattle.dv_runner.specs.Works.{IsReady, Work, work_of}
use Rattle.dv_runner.proofs.Transcripts.{told_left, told_more, told_unserved}

-- so many of its commands were answered, and its session isn't spent
pub record Goes (start : Log) (count : ℕ) (honest : Type 0) (j : Work) (at : ℕ) (lines : Lines) (s : Member) : Type 0 where
  pub session : IsSession start count s
  pub fresh : s.spent ≡ false
  pub number : s.number ≡ j.session.number
  -- those that are left may each need the lock
  pub holds : s.holds + lock_count (drop at j.commands) ≤ lock_count j.commands
  pub told : honest → Tells start count j at lines s

module _ (start : Log) (count : ℕ) (honest : Type 0) (j : Work) where
  pub goes_first : IsReady start j → IsSession start count j.session → Goes start count honest j 0 j.replies j.session
  goes_first ready session =
      let new = ready.new.is in
      let progress = ap (λ (s : Member). progress_of s []) new in
      record {
        session = session;
        fresh = ap (λ (s : Member). s.spent) new;
        number = refl;
        holds = omega (arith, ap (λ (s : Member). s.holds) new);
        told = λ h. record {
          replies = [];
          many = refl;
          name = refl;
          transcript = record {
            story = subst (λ (p : Progress). Story (log_seen start j.session) count j.session.number j.commands [] p) (sym progress) (stories.begins (log_seen start j.session) count j.session.number j.commands);
            text = ready.nothing;
            failures = omega arith;
            turns = omega arith;
          };
        };
      }

  module _ (at : ℕ) (less : at < length j.commands) (c : Command) (rest : List Command) (next : drop at j.commands ≡ c ∷ rest) (lines lines_now : Lines) (old new : Member) (goes : Goes start count honest j at lines old) (session : IsSession start count new)
      (begins : IsPrefix (notes_of old) (notes_of new)) where
    left_one : lock_count (drop at j.commands) ≡ lock_count (c ∷ []) + lock_count (drop (at + 1) j.commands)
    left_one =
        let one = sum_by-drop_more (λ (x : Command). cond (touches_disk x) 1 0) j.commands at c less in
        let same : slice_index_or j.commands at c ∷ drop (at + 1) j.commands ≡ c ∷ rest = sym (drop_more j.commands at c less) ∙ next in
        let is : slice_index_or j.commands at c ≡ c = cc in
        omega (arith, one, ap {B = ℕ} (λ (x : Command). cond (touches_disk x) 1 0) is)

    next_at : (replies : List (List Reply)) → length replies ≡ at → drop (length replies) j.commands ≡ c ∷ rest
    next_at replies many = ap (λ (n : ℕ). drop n j.commands) many ∙ next

    -- its next command was answered
    pub goes_more : {E : Type 0} (result : Result (Unit {0}) E) (done : Unit {0}) → result ≡ Ok done → IsServed c old new → (honest → Takes with_replies lines lines_now result (λ told. IfOk told (λ said. HasAnswered start count c said old new)))
        → Goes start count honest j (at + 1) lines_now new
    goes_more (Ok x) done is served turn = record {
      session = session;
      fresh = served.fresh;
      number = served.number ∙ goes.number;
      holds = omega (arith, served.holds, goes.holds, left_one);
      told = λ h.
          let before = goes.told h in
          let t = turn h in
          let said : List Reply = t.replies in
          record {
            replies = before.replies ++ said ∷ [];
            many = length_push before.replies said ∙ ap (λ (n : ℕ). n + 1) before.many;
            name = ap (λ (l : Lines). l.session) t.taken ∙ before.name;
            transcript = told_more start count j.commands before.replies lines old new goes.session session goes.fresh begins before.transcript lines_now c rest said (next_at before.replies before.many) served.number served.fresh t.holds t.taken;
          };
    }
    goes_more (Err e) done is served turn = absurd cc

    -- memory ran out at it, and its lines were taken back
    pub goes_short : IsCutShort start honest c old new → (honest → lines_now ≡ lines) → HasRun start count honest j (work_of new j.commands lines_now false)
    goes_short cut same = record {
      session = session;
      number = number cut ∙ goes.number;
      commands = refl;
      holds = omega (arith, holds cut, goes.holds);
      answered = at;
      whole = λ no. absurd (true≢false (sym no));
      short = λ yes. less;
      told = λ h. subst (λ (l : Lines). Tells start count j at l new) (sym (same h)) (tells h cut);
    }
      where
        number : IsCutShort start honest c old new → new.number ≡ old.number
        number (inl u) = ap (λ (s : Member). s.number) u.now
        number (inr l) = ap (λ (s : Member). s.number) l.now

        holds : IsCutShort start honest c old new → new.holds ≡ old.holds
        holds (inl u) = ap (λ (s : Member). s.holds) u.now
        holds (inr l) = ap (λ (s : Member). s.holds) l.now

        tells : honest → IsCutShort start honest c old new → Tells start count j at lines new
        tells h (inl u) =
            let before = goes.told h in
            record {
              replies = before.replies;
              many = before.many;
              name = before.name;
              transcript = told_unserved start count j.commands before.replies lines old new goes.session session goes.fresh begins before.transcript u;
            }
        tells h (inr l) =
            let before = goes.told h in
            record {
              replies = before.replies;
              many = before.many;
              name = before.name;
              transcript = told_left start count j.commands before.replies lines old new goes.session session goes.fresh begins before.transcript honest c rest (next_at before.replies before.many) l h;
            }

  -- all were answered
  pub goes_whole : (lines : Lines) (s : Member) → Goes start count honest j (length j.commands) lines s → HasRun start count honest j (work_of s j.commands lines true)
  goes_whole lines s goes = record {
    session = goes.session;
    number = goes.number;
    commands = refl;
    holds = omega (arith, goes.holds);
    answered = length j.commands;
    whole = λ yes. (refl, goes.fresh);
    short = λ no. absurd (true≢false no);
    told = goes.told;
  }

-- each job of a list
pub have_run : (start : Log) (count : ℕ) (honest : Type 0) (old new : List Work) → length new ≡ length old → ((i : ℕ) (d : Work) → i < length old → HasRun start count honest (slice_index_or old i d) (slice_index_or new i d)) → HaveRun start count honest old new
have_run start count honest [] [] same each = tt
have_run start count honest [] (y ∷ ys) same each = absurd (omega (arith, same))
have_run start count honest (x ∷ xs) [] same each = absurd (omega (arith, same))
have_run start count honest (x ∷ xs) (y ∷ ys) same each =
    (each 0 x (omega arith), have_run start count honest xs ys (omega (arith, same)) (λ i d less. each (suc i) d (omega (arith, less))))
