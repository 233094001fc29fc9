-- A session's story goes on.
use Rattle.std.proofs.Common.{◌≡◌, inl, inr, ℕ, ◌+◌, ◌≤◌, Bool, true, false, true≢false, not, ◌&&◌, cond, List, [], ◌∷◌, ◌++◌, length, nat_eq, Option, Some, None, refl, sym, ◌∙◌, ap, subst, arith, length-append}
use Rattle.std.specs.Prelude.{All, IfSome, drop, option_to_list, unwrap_or}
use Rattle.std.specs.List.{list_any}
use Rattle.std.proofs.lemmas.List.{append-nil}
use Rattle.std.proofs.lemmas.List.Elements.{All-cons, All-head, All-nil, All-tail, All-weaker}
use Rattle.std.proofs.lemmas.List.Sums.{sum_by-append}
use Rattle.std.proofs.lemmas.Option.{slice_get_within}
use Rattle.dv_model.specs.declared.types.Command.{Command}
use Rattle.dv_model.specs.declared.types.Mailbox.{Mailbox}
use Rattle.dv_model.specs.declared.types.Reply.{Reply}
use Rattle.dv_model.specs.Journals.{Log, IsSound}
use Rattle.dv_model.specs.Sessions.{State, is_select, missing_number, new_session}
use Rattle.dv_model.specs.Transcripts.{Answered, IsTurn, Turn, is_unavailable, refused_at, unavailable_count}
use Rattle.dv_model.proofs.Speaking.{speaks_on}
use Rattle.dv_model.proofs.Transcripts.{answered_up}
use Rattle.dv_interleavings.specs.Promises.{GoesOn}
use Rattle.dv_interleavings.specs.Worlds.{is_bad}
use Rattle.dv_promises.proofs.Once.{all_pairs_cons}
use Rattle.dv_stories.specs.Growing.{AreNeverShorter}
use Rattle.dv_stories.specs.Stories.{IsNextTurn, NextLeft, Progress, MeetNoFewer, Story, new_progress, places_of, with_left, with_turn}
use Rattle.dv_stories.proofs.Growing
use Rattle.dv_stories.proofs.Growing.{extends_of, next_left_on}

-- ---- what was seen

pub turn_up : (log : Log) (base author : ℕ) (t : Turn) → IsTurn log base author t → t.met ≤ t.behind
turn_up log base author t is = answered_up log base author t.met t.behind t.before t.command t.replies t.after is.answered

-- a command is answered within the log
pub turn_within : (log : Log) (base author : ℕ) (t : Turn) → IsTurn log base author t → t.behind ≤ length log.entries
turn_within log base author t is = by_answer is.answered
  where
    by_answer : Answered log base author t.met t.behind t.before t.command t.replies t.after → t.behind ≤ length log.entries
    by_answer (inl r) = let e = r.nothing_written in let f = is.met.1 in omega arith
    by_answer (inr (inl u)) = let e = u.nothing_written in let f = is.met.1 in omega arith
    by_answer (inr (inr told)) = told.seen.1

pub sees_up : (seen : ℕ) (turns : List Turn) (last more : ℕ) → last ≤ more → MeetNoFewer seen turns last → MeetNoFewer seen turns more
sees_up seen [] last more le sees = omega (arith, sees)
sees_up seen (t ∷ turns) last more le sees = (sees.0, sees_up t.behind turns last more le sees.1)

sees_push : (seen : ℕ) (turns : List Turn) (last : ℕ) (t : Turn) → MeetNoFewer seen turns last → last ≤ t.met → MeetNoFewer seen (turns ++ t ∷ []) t.behind
sees_push seen [] last t sees le = (omega (arith, sees), omega arith)
sees_push seen (u ∷ turns) last t sees le = (sees.0, sees_push u.behind turns last t sees.1 le)

-- ---- what was written

places_push : (turns : List Turn) (t : Turn) → length (places_of (turns ++ t ∷ [])) ≡ length (places_of turns) + length (places_of (t ∷ []))
places_push [] t = omega arith
places_push (u ∷ turns) t = by_test (nat_eq u.behind (u.met + 1)) (places_push turns t)
  where
    by_test : (b : Bool) → length (places_of (turns ++ t ∷ [])) ≡ length (places_of turns) + length (places_of (t ∷ []))
        → length (cond b (u.met ∷ places_of (turns ++ t ∷ [])) (places_of (turns ++ t ∷ []))) ≡ length (cond b (u.met ∷ places_of turns) (places_of turns)) + length (places_of (t ∷ []))
    by_test true rest = omega (arith, rest)
    by_test false rest = rest

count_push : (xs : List (List Reply)) (x : List Reply) → unavailable_count (xs ++ x ∷ []) ≡ unavailable_count xs + unavailable_count (x ∷ [])
count_push xs x = sum_by-append (λ (rs : List Reply). cond (list_any is_unavailable rs) 1 0) xs (x ∷ [])

-- ---- the story

pub begins : (log : Log) (base author : ℕ) (commands : List Command) → Story log base author commands [] new_progress
begins log base author commands = record {
  speaks = record { start = 0; there = omega arith; turns = []; each = All-nil (IsTurn log base author); state = new_session; leads = refl; replied = refl; sent = refl };
  begins = refl;
  state = refl;
  left = tt;
  sees = omega arith;
  seen = tt;
  there = omega arith;
  wrote = refl;
  refused = refl;
}

pub sees_more : (log later : Log) (base author : ℕ) (commands : List Command) (replies : List (List Reply)) (p : Progress) (seen : ℕ) → IsSound log → GoesOn log later → p.seen ≤ seen → seen ≤ length later.entries
    → Story log base author commands replies p → Story later base author commands replies (record p { seen = seen })
sees_more log later base author commands replies p seen sound on le there s = record {
  speaks = Growing.speaks_on log later (extends_of log later sound on) base author commands replies s.speaks;
  begins = s.begins;
  state = s.state;
  left = by_left p.left s.left;
  sees = by_sees p.left s.sees;
  seen = by_seen p.left s.seen;
  there = there;
  wrote = s.wrote;
  refused = s.refused;
}
  where
    by_left : (o : Option ℕ) → IfSome o (NextLeft log author p.state (drop (length replies) commands)) → IfSome o (NextLeft later author p.state (drop (length replies) commands))
    by_left None left = tt
    by_left (Some k) left = next_left_on log later (extends_of log later sound on) author p.state (drop (length replies) commands) k left

    by_sees : (o : Option ℕ) → MeetNoFewer 0 s.speaks.turns (unwrap_or o p.seen) → MeetNoFewer 0 s.speaks.turns (unwrap_or o seen)
    by_sees None sees = sees_up 0 s.speaks.turns p.seen seen le sees
    by_sees (Some k) sees = sees

    by_seen : (o : Option ℕ) → IfSome o (λ k. k + 1 ≤ p.seen) → IfSome o (λ k. k + 1 ≤ seen)
    by_seen None is = tt
    by_seen (Some k) is = omega (arith, is, le)

module _ (log : Log) (base author : ℕ) (commands : List Command) (replies : List (List Reply)) (p : Progress) where
  pub goes_on : (t : Turn) → p.left ≡ None → Story log base author commands replies p → IsNextTurn log base author commands replies p t → Story log base author commands (replies ++ t.replies ∷ []) (with_turn p t)
  goes_on t none s next =
      let turns : List Turn = s.speaks.turns in
      let nothing : (ks : List ℕ) → length (ks ++ option_to_list p.left) ≡ length ks = λ ks. ap (λ (o : Option ℕ). length (ks ++ option_to_list o)) none ∙ ap length (append-nil ks) in
      record {
        speaks = speaks_on log base author commands replies s.speaks t (record { rest = next.rest; next = next.next; state = next.state ∙ sym s.state; turn = next.turn });
        begins = s.begins;
        state = refl;
        left = subst (λ (o : Option ℕ). IfSome o (NextLeft log author t.after (drop (length (replies ++ t.replies ∷ [])) commands))) (sym none) tt;
        sees =
            subst (λ (o : Option ℕ). MeetNoFewer 0 (turns ++ t ∷ []) (unwrap_or o t.behind)) (sym none)
            (sees_push 0 turns p.seen t (subst (λ (o : Option ℕ). MeetNoFewer 0 turns (unwrap_or o p.seen)) none s.sees) next.met);
        seen = subst (λ (o : Option ℕ). IfSome o (λ k. k + 1 ≤ t.behind)) (sym none) tt;
        there = turn_within log base author t next.turn;
        wrote = let before = s.wrote in omega (arith, nothing (places_of (turns ++ t ∷ [])), nothing (places_of turns), places_push turns t);
        refused = let before = s.refused in omega (arith, count_push replies t.replies);
      }

  pub ends : (k : ℕ) → p.left ≡ None → p.seen ≤ k → Story log base author commands replies p → NextLeft log author p.state (drop (length replies) commands) k → Story log base author commands replies (with_left p k)
  ends k none le s left =
      let turns : List Turn = s.speaks.turns in
      record {
        speaks = s.speaks;
        begins = s.begins;
        state = s.state;
        left = left;
        sees = sees_up 0 turns p.seen k le (subst (λ (o : Option ℕ). MeetNoFewer 0 turns (unwrap_or o p.seen)) none s.sees);
        seen = omega arith;
        there = left_within (drop (length replies) commands) left;
        wrote =
            let before = s.wrote in
            omega (arith, length-append (places_of turns) (k ∷ []), ap (λ (o : Option ℕ). length (places_of turns ++ option_to_list o)) none ∙ ap length (append-nil (places_of turns)));
        refused = s.refused;
      }
    where
      left_within : (rest : List Command) → NextLeft log author p.state rest k → k + 1 ≤ length log.entries
      left_within [] left = absurd left
      left_within (c ∷ rest) left = let within = slice_get_within log.entries k _ left.written.entry in omega arith

-- ---- never shorter

module _ (log : Log) (base author : ℕ) where
  meet_more : (seen : ℕ) (turns : List Turn) (last : ℕ) → All (IsTurn log base author) turns → MeetNoFewer seen turns last → All (λ t. seen ≤ t.met) turns
  meet_more seen [] last each sees = All-nil (λ (t : Turn). seen ≤ t.met)
  meet_more seen (t ∷ turns) last each sees =
      let up = turn_up log base author t (All-head (IsTurn log base author) t turns each) in
      let low = sees.0 in
      All-cons (λ (u : Turn). seen ≤ u.met) t turns low
      (All-weaker (λ (u : Turn). t.behind ≤ u.met) (λ (u : Turn). seen ≤ u.met) (λ u le. omega arith) turns (meet_more t.behind turns last (All-tail (IsTurn log base author) t turns each) sees.1))

  last_up : (seen : ℕ) (turns : List Turn) (last : ℕ) → All (IsTurn log base author) turns → MeetNoFewer seen turns last → seen ≤ last
  last_up seen [] last each sees = sees
  last_up seen (t ∷ turns) last each sees =
      let up = turn_up log base author t (All-head (IsTurn log base author) t turns each) in
      let low = sees.0 in
      let rest = last_up t.behind turns last (All-tail (IsTurn log base author) t turns each) sees.1 in
      omega arith

  pub never_shorter : (seen : ℕ) (turns : List Turn) (last : ℕ) → All (IsTurn log base author) turns → MeetNoFewer seen turns last → AreNeverShorter turns last
  never_shorter seen [] last each sees = record { each = All-nil (λ (t : Turn). (t.met ≤ t.behind) × (t.behind ≤ last)); later = λ i j d less h. absurd (omega (arith, h)) }
  never_shorter seen (t ∷ turns) last each sees =
      let others = All-tail (IsTurn log base author) t turns each in
      let rest = never_shorter t.behind turns last others sees.1 in
      record {
        each = All-cons (λ (u : Turn). (u.met ≤ u.behind) × (u.behind ≤ last)) t turns (turn_up log base author t (All-head (IsTurn log base author) t turns each), last_up t.behind turns last others sees.1) rest.each;
        later = all_pairs_cons (λ one other. one.behind ≤ other.met) t turns (meet_more t.behind turns last others sees.1) rest.later;
      }

pub stories_never_shorter : (log : Log) (base author : ℕ) (commands : List Command) (replies : List (List Reply)) (p : Progress) (s : Story log base author commands replies p) → AreNeverShorter s.speaks.turns p.seen
stories_never_shorter log base author commands replies p s = never_shorter log base author 0 s.speaks.turns p.seen s.speaks.each (by_left p.left s.sees s.seen)
  where
    by_left : (o : Option ℕ) → MeetNoFewer 0 s.speaks.turns (unwrap_or o p.seen) → IfSome o (λ k. k + 1 ≤ p.seen) → MeetNoFewer 0 s.speaks.turns p.seen
    by_left None sees le = sees
    by_left (Some k) sees le = sees_up 0 s.speaks.turns k p.seen (omega (arith, le)) sees

-- ---- refusals by the session itself

pub own_refusals : (log other : Log) (j k : ℕ) (x : State) (c : Command) (m n : Mailbox) → is_bad x c ≡ true → refused_at log j x c m ≡ refused_at other k x c n
own_refusals log other j k x c m n bad = by_test (not x.selected && not (is_select c)) refl (missing_number c x.view) refl
  where
    by_test : (b : Bool) → (not x.selected && not (is_select c)) ≡ b → (o : Option ℕ) → missing_number c x.view ≡ o → refused_at log j x c m ≡ refused_at other k x c n
    by_test true is o number = rw is refl
    by_test false is (Some l) number = rw (is, number) refl
    by_test false is None number = let good : is_bad x c ≡ false = rw (is, number) refl in absurd (true≢false (sym bad ∙ good))
