-- The log's next entry is written by its author, and the other sessions wait.
use Rattle.std.proofs.Common.{◌≡◌, ◌⊎◌, inl, inr, ℕ, ◌+◌, ◌<◌, ◌≤◌, Bool, true, false, true≢false, cond, ◌||◌, List, [], ◌∷◌, ◌++◌, length, nat_eq, Option, Some, None, refl, sym, ◌∙◌, ap, subst, arith}
use Rattle.std.specs.Prelude.{All, IfSome, option_to_list, slice_get}
use Rattle.std.proofs.lemmas.Bool.Decides.{nat_tests}
use Rattle.std.proofs.lemmas.List.{append_assoc, length_push}
use Rattle.std.proofs.lemmas.List.Elements.{All-cons, All-head, All-nil, All-tail}
use Rattle.std.proofs.lemmas.Option.{same_Some}
use Rattle.dv_model.specs.declared.types.Command.{Command}
use Rattle.dv_model.specs.declared.types.Entry.{Entry}
use Rattle.dv_model.specs.declared.types.Reply.{Reply}
use Rattle.dv_model.specs.Journals.{IsU32, Log, at}
use Rattle.dv_model.specs.Sessions.{IsCommand}
use Rattle.dv_model.specs.Transcripts.{Answered, HasWritten, IsOwn, IsTold, IsTurn, Turn, WroteEntry, refused_at}
use Rattle.dv_interleavings.specs.Promises.{was_refused}
use Rattle.dv_interleavings.specs.Worlds.{World, Session, length_of, loaded_number}
use Rattle.dv_promises.proofs.Refusals.{told_unrefused}
use Rattle.dv_promises.proofs.Transcripts.{is_a_write, pair_of}
use Rattle.dv_stories.specs.Stories.{NextLeft, places_of}
use Rattle.dv_stories.proofs.Counting.{Rises, has, has_above, rises_lower}
use Rattle.dv_stories.proofs.Stories.{turn_up}
use Rattle.dv_stories.proofs.Written.{all_places, has_written}
use Rattle.dv_schedules.specs.Calls.{Answer as AnswerCall, Commit, Done, Refresh, all_called, with_write}
use Rattle.dv_schedules.specs.Schedules.{IsGoodCall, write_left}
use Rattle.dv_schedules.proofs.Prefixes.{HasBase, changes_then, length_is, received_in}
use Rattle.dv_schedules.proofs.Turns.{Comes, Ends, IsOver, IsPast, Later, Waits, answers, commits, told_turns, waits_tail}

-- ---- places to come

later_rises : (log : Log) (base i k : ℕ) (turns : List Turn) (left : Option ℕ) → All (IsTurn log base i) turns → Later k turns left → Rises k (all_places turns left)
later_rises log base i k [] None each later = tt
later_rises log base i k [] (Some l) each later = (later, tt)
later_rises log base i k (t ∷ turns) left each later =
    by_test (nat_eq t.behind (t.met + 1)) refl (later_rises log base i t.behind turns left (All-tail (IsTurn log base i) t turns each) later.1)
  where
    by_test : (b : Bool) → nat_eq t.behind (t.met + 1) ≡ b → Rises t.behind (all_places turns left) → Rises k (cond b (t.met ∷ places_of turns) (places_of turns) ++ option_to_list left)
    by_test true is rest = let e : t.behind ≡ t.met + 1 = grind (arith, nat_tests) in (later.0, subst (λ n. Rises n (all_places turns left)) e rest)
    by_test false is rest = let up = turn_up log base i t (All-head (IsTurn log base i) t turns each) in let low = later.0 in rises_lower k t.behind (all_places turns left) (omega arith) rest

none_before : (k j : ℕ) (places : List ℕ) → Rises k places → j < k → has places j ≡ true → ⊥
none_before k j places rises less is = true≢false (sym is ∙ has_above k places j rises less)

-- a place of no turn is that of the entry that was left
left_place : (left : Option ℕ) (k : ℕ) → has (all_places [] left) k ≡ true → left ≡ Some k
left_place left k is = by_place (has_written [] left k is)
  where
    by_place : WroteEntry [] k ⊎ (left ≡ Some k) → left ≡ Some k
    by_place (inl (n, t, h, there, wrote)) = absurd (omega (arith, h))
    by_place (inr same) = same

at_middle : (done rest : List Entry) (e : Entry) → slice_get (done ++ e ∷ rest) (length done) ≡ Some e
at_middle [] rest e = refl
at_middle (d ∷ done) rest e = at_middle done rest e

module _ (log : Log) (base i : ℕ) (x : Ends) (done rest : List Entry) (e : Entry) (split : log.entries ≡ done ++ e ∷ rest) where
  abbrev now : ℕ
  now = length done

  abbrev longer : List Entry
  longer = done ++ e ∷ []

  one_more : length longer ≡ now + 1
  one_more = omega (arith, length_push done e)

  there_is : slice_get log.entries now ≡ Some e
  there_is = ap (λ (es : List Entry). slice_get es now) split ∙ at_middle done rest e

  -- ---- its author writes it

  module _ (number : IsU32 i) (by : e.author ≡ i) (w : World) (b : HasBase log w done) (session : Session) (lives : w.sessions i ≡ Some session) where
    abbrev own_entry : IsOwn log i 0 now
    own_entry = record { later = omega arith; entry = e; is = there_is; by = by }

    split_on : log.entries ≡ longer ++ rest
    split_on = split ∙ sym (append_assoc done (e ∷ []) rest)

    many : length_of w ≡ now
    many = length_is log w done (e ∷ rest) split b

    -- by its first turn
    module _ (t : Turn) (turns : List Turn) (waits : Waits log base i x now session (t ∷ turns)) (none : session.wrote ≡ None) (later : Later now (t ∷ turns) x.left) (past : now < t.behind) where
      writes_it : (t.met ≡ now) × (t.behind ≡ t.met + 1)
      writes_it = by_test (nat_eq t.behind (t.met + 1)) refl (waits.own now (omega arith) own_entry)
        where
          rises : Rises t.behind (all_places turns x.left)
          rises = later_rises log base i t.behind turns x.left (All-tail (IsTurn log base i) t turns waits.each) later.1

          by_place : t.behind ≡ t.met + 1 → (b : Bool) → nat_eq now t.met ≡ b → (b || has (all_places turns x.left) now) ≡ true → (t.met ≡ now) × (t.behind ≡ t.met + 1)
          by_place wrote true same is = (grind (arith, nat_tests), wrote)
          by_place wrote false other is = absurd (none_before t.behind now (all_places turns x.left) rises past is)

          by_test : (b : Bool) → nat_eq t.behind (t.met + 1) ≡ b → has (cond b (t.met ∷ places_of turns) (places_of turns) ++ option_to_list x.left) now ≡ true → (t.met ≡ now) × (t.behind ≡ t.met + 1)
          by_test true wrote is = let same : t.behind ≡ t.met + 1 = grind (arith, nat_tests) in by_place same (nat_eq now t.met) refl is
          by_test false other is = absurd (none_before t.behind now (all_places turns x.left) rises past is)

      own_on : (j : ℕ) → length longer ≤ j → IsOwn log i 0 j → has (all_places turns x.left) j ≡ true
      own_on j le own = by_test (nat_eq t.behind (t.met + 1)) (waits.own j (let e = one_more in omega arith) own)
        where
          differs : nat_eq j t.met ≡ false
          differs = let same = writes_it.0 in let up = one_more in let apart : t.met < j = omega arith in grind (arith, nat_tests)

          by_test : (b : Bool) → has (cond b (t.met ∷ places_of turns) (places_of turns) ++ option_to_list x.left) j ≡ true → has (all_places turns x.left) j ≡ true
          by_test true is = rw differs at is
          by_test false is = is

      by_told : (told : IsTold log i t.met t.behind t.before t.command t.replies t.after) → HasWritten log i t.met t.behind t.before.view t.command told.before → Comes log base i x w longer turns
      by_told told wrote =
          let c : Command = t.command in
          let same : t.met ≡ now = writes_it.0 in
          let behind_is : t.behind ≡ t.met + 1 = writes_it.1 in
          let up = one_more in
          let has : HasWritten log i now t.behind t.before.view c told.before = subst (λ k. HasWritten log i k t.behind t.before.view c told.before) same wrote in
          let first =
          commits log w done (e ∷ rest) split b i session lives t.before c told.before t.behind (sym waits.leads.0) none has (ap (at log) (sym same) ∙ told.was_there)
          (ap (λ k. refused_at log k t.before c told.before) (sym same) ∙ told.allowed) e rest refl in
          let received : ℕ = received_in log c told.before has.message in
          let written : Session = with_write session c (length_of w + 1) (length_of w) in
          let v : World = all_called w (Commit i c received false Done ∷ []) in
          let behind : Session = record written { seen = loaded_number v.published written.wrote; state = t.after; wrote = None; answers = session.answers ++ (c, t.replies) ∷ [] } in
          let length_w = many in
          let good : was_refused (pair_of t) ≡ false = told_unrefused log i t.met t.behind t.before t.command t.replies t.after told in
          let more_told : told_turns (t ∷ turns) ≡ pair_of t ∷ told_turns turns = rw good refl in
          record {
            calls = Commit i c received false Done ∷ Refresh i ∷ AnswerCall i c ∷ [];
            good = All-cons IsGoodCall (Commit i c received false Done) (Refresh i ∷ AnswerCall i c ∷ []) (number, All-head (λ (u : Turn). IsCommand u.command) t turns waits.good)
                (All-cons IsGoodCall (Refresh i) (AnswerCall i c ∷ []) tt (All-cons IsGoodCall (AnswerCall i c) [] tt (All-nil IsGoodCall)));
            session = behind;
            changes = changes_then log w v (all_called v (Refresh i ∷ AnswerCall i c ∷ [])) longer longer i written behind first
                (answers log v longer rest split_on first.base i written first.own i t told (length_of w + 1) (length_of w) refl waits.leads.0 (omega arith) (omega arith) (omega arith) (omega arith)
                (is_a_write log i now t.behind t.before.view c told.before has));
            waits = waits_tail log base i x now session t turns waits (length longer) behind refl
                (append_assoc session.answers (pair_of t ∷ []) (told_turns turns) ∙ ap (λ (list : List (Command × List Reply)). session.answers ++ list) (sym more_told) ∙ waits.kept) refl
                (subst (λ k. Later k turns x.left) (omega arith) later.1) own_on;
          }

      pub by_turn : Comes log base i x w longer turns
      by_turn = by_answer (All-head (IsTurn log base i) t turns waits.each).answered
        where
          by_answer : Answered log base i t.met t.behind t.before t.command t.replies t.after → Comes log base i x w longer turns
          by_answer (inl r) = let e = r.nothing_written in let f = writes_it.1 in absurd (omega arith)
          by_answer (inr (inl u)) = let e = u.nothing_written in let f = writes_it.1 in absurd (omega arith)
          by_answer (inr (inr told)) = elim told.wrote [ inl has ↦ by_told told has | inr none ↦ let e = none.0 in let f = writes_it.1 in absurd (omega arith) ]

    -- or by the command that isn't answered
    module _ (waits : Waits log base i x now session []) (none : session.wrote ≡ None) where
      left_is : x.left ≡ Some now
      left_is = left_place x.left now (waits.own now (omega arith) own_entry)

      by_command : (commands : List Command) → x.rest ≡ commands → NextLeft log i x.state commands now → All IsCommand commands → Comes log base i x w longer []
      by_command [] is left good = absurd left
      by_command (c ∷ commands) is left good =
          let first = commits log w done (e ∷ rest) split b i session lives x.state c left.mailbox (now + 1) (sym waits.leads) none left.written left.met left.allowed e rest refl in
          let received : ℕ = received_in log c left.mailbox left.written.message in
          let up = one_more in
          record {
            calls = Commit i c received false Done ∷ [];
            good = All-cons IsGoodCall (Commit i c received false Done) [] (number, All-head IsCommand c commands good) (All-nil IsGoodCall);
            session = with_write session c (length_of w + 1) (length_of w);
            changes = first;
            waits = record {
              each = waits.each;
              good = waits.good;
              leads = waits.leads;
              kept = waits.kept;
              own = λ j le own. waits.own j (omega arith) own;
              left = waits.left;
              rest_good = waits.rest_good;
              stage = inr (record {
                none = refl;
                place = now;
                left = left_is;
                below = omega arith;
                wrote =
                    ap (λ (n : ℕ). Some (record { place = n + 1; met = n; command = c })) many
                    ∙ sym (ap (λ (o : Option ℕ). write_left o x.rest) left_is ∙ ap (write_left (Some now)) is);
              });
            };
          }

      by_left : Comes log base i x w longer []
      by_left = by_command x.rest refl (subst (λ (o : Option ℕ). IfSome o (NextLeft log i x.state x.rest)) left_is waits.left) waits.rest_good

    -- its turns behind it
    pub record ComesOn : Type 0 where
      pub turns : List Turn
      pub comes : Comes log base i x w longer turns

    pub author_writes : (turns : List Turn) → Waits log base i x now session turns → IsPast now turns → ComesOn
    author_writes turns waits past = by_stage waits.stage
      where
        open_stage : (us : List Turn) → Waits log base i x now session us → IsPast now us → session.wrote ≡ None → Later now us x.left → ComesOn
        open_stage [] waits past none later = record { turns = []; comes = by_left waits none }
        open_stage (t ∷ us) waits past none later = record { turns = us; comes = by_turn t us waits none later past }

        by_stage : ((session.wrote ≡ None) × Later now turns x.left) ⊎ IsOver x now session turns → ComesOn
        by_stage (inl (none, later)) = open_stage turns waits past none later
        by_stage (inr over) =
            let is : has (all_places [] x.left) now ≡ true = subst (λ (us : List Turn). has (all_places us x.left) now ≡ true) over.none (waits.own now (omega arith) own_entry) in
            let same : over.place ≡ now = same_Some over.place now (sym over.left ∙ left_place x.left now is) in
            let below = over.below in
            absurd (omega arith)

  -- ---- another session waits

  module _ (others : e.author ≡ i → ⊥) (session : Session) where
    not_own : (k : ℕ) (one : Entry) → slice_get log.entries k ≡ Some one → one.author ≡ i → k ≡ now → ⊥
    not_own k one is same at_now = let found : e ≡ one = same_Some e one (sym there_is ∙ ap (slice_get log.entries) (sym at_now) ∙ is) in others (ap (λ (d : Entry). d.author) found ∙ same)

    left_later : (commands : List Command) (l : ℕ) → NextLeft log i x.state commands l → now ≤ l → length longer ≤ l
    left_later [] l left le = absurd left
    left_later (c ∷ commands) l left le = let up = one_more in let differs = not_own l _ left.written.entry refl in omega arith

    met_later : (t : Turn) → IsTurn log base i t → now ≤ t.met → now < t.behind → length longer ≤ t.met
    met_later t is low past = by_answer is.answered
      where
        by_answer : Answered log base i t.met t.behind t.before t.command t.replies t.after → length longer ≤ t.met
        by_answer (inl r) = let e = r.nothing_written in let up = one_more in omega arith
        by_answer (inr (inl u)) = let e = u.nothing_written in let up = one_more in omega arith
        by_answer (inr (inr told)) =
            elim told.wrote [
              | inl has ↦ let up = one_more in let differs = not_own t.met _ has.entry refl in omega arith
              | inr none ↦ let e = none.0 in let up = one_more in omega arith
            ]

    later_on : (turns : List Turn) (left : Option ℕ) → All (IsTurn log base i) turns → IfSome left (NextLeft log i x.state x.rest) → IsPast now turns → Later now turns left → Later (length longer) turns left
    later_on [] None each next past later = tt
    later_on [] (Some l) each next past later = left_later x.rest l next later
    later_on (t ∷ turns) left each next past later = (met_later t (All-head (IsTurn log base i) t turns each) later.0 past, later.1)

    pub others_wait : (turns : List Turn) → Waits log base i x now session turns → IsPast now turns → Waits log base i x (length longer) session turns
    others_wait turns waits past = record {
      each = waits.each;
      good = waits.good;
      leads = waits.leads;
      kept = waits.kept;
      own = λ j le own. waits.own j (let up = one_more in omega arith) own;
      left = waits.left;
      rest_good = waits.rest_good;
      stage = elim waits.stage [
        | inl stage ↦ inl (stage.0, later_on turns x.left waits.each waits.left past stage.1)
        | inr over ↦ inr (record { none = over.none; place = over.place; left = over.left; below = let up = one_more in let low = over.below in omega arith; wrote = over.wrote })
      ];
    }
