-- Each session of a run of one command after another has a story.
use Rattle.std.proofs.Common.{◌≡◌, inl, inr, ℕ, zero, suc, ◌+◌, ◌<◌, ◌≤◌, Bool, true, false, cond, List, [], ◌∷◌, ◌++◌, length, nat_eq, Option, Some, None, refl, sym, ap, subst, arith, length-append}
use Rattle.std.specs.Prelude.{All, IfSome, drop, filter, map, option_to_list, take, unwrap_or}
use Rattle.std.proofs.lemmas.Bool.Decides.{nat_tests}
use Rattle.std.proofs.lemmas.List.{append-nil}
use Rattle.std.proofs.lemmas.List.Elements.{All-cons, All-drop, All-head, All-nil, All-tail}
use Rattle.dv_model.specs.declared.types.Command.{Command}
use Rattle.dv_model.specs.declared.types.Reply.{Reply}
use Rattle.dv_model.specs.Journals.{Log}
use Rattle.dv_model.specs.Sessions.{Answer, State, new_session}
use Rattle.dv_model.specs.Transcripts.{Answered, EndsAt, HasLeft, IsTurn, LeadsTo, Line, Runs, Serial, Turn, commands_of, replies_of, unavailable_count, with_state}
use Rattle.dv_model.proofs.Transcripts.{answered_up, runs_up}
use Rattle.dv_stories.specs.Growing.{HaveStories}
use Rattle.dv_stories.specs.Stories.{MeetNoFewer, NextLeft, Progress, Story, places_of, total}
use Rattle.dv_stories.proofs.Stories.{sees_up}

-- ---- sums over the authors

total_same : (n : ℕ) (f g : ℕ → ℕ) → ((i : ℕ) → f i ≡ g i) → total n f ≡ total n g
total_same zero f g same = refl
total_same (suc n) f g same = omega (arith, same (suc n), total_same n f g same)

total_add : (n : ℕ) (f g : ℕ → ℕ) → total n (λ i. f i + g i) ≡ total n f + total n g
total_add zero f g = refl
total_add (suc n) f g = omega (arith, total_add n f g)

-- only one author counts
total_none : (n a c : ℕ) → n < a → total n (λ i. cond (nat_eq a i) c 0) ≡ 0
total_none zero a c past = refl
total_none (suc n) a c past =
    let other : nat_eq a (suc n) ≡ false = grind (arith, nat_tests) in
    rw other (omega (arith, total_none n a c (omega arith)))

total_one : (n a c : ℕ) → 1 ≤ a → a ≤ n → total n (λ i. cond (nat_eq a i) c 0) ≡ c
total_one zero a c low high = absurd (omega arith)
total_one (suc n) a c low high = by_test (λ le. total_one n a c low le) (nat_eq a (suc n)) refl
  where
    by_test : (a ≤ n → total n (λ i. cond (nat_eq a i) c 0) ≡ c) → (b : Bool) → nat_eq a (suc n) ≡ b → cond b c 0 + total n (λ i. cond (nat_eq a i) c 0) ≡ c
    by_test rest true same = let e : a ≡ suc n = grind (arith, nat_tests) in omega (arith, total_none n a c (omega arith))
    by_test rest false other = let le : a ≤ n = grind (arith, nat_tests) in omega (arith, rest le)

-- ---- one line

places_cons : (t : Turn) (turns : List Turn) → length (places_of (t ∷ turns)) ≡ length (places_of (t ∷ [])) + length (places_of turns)
places_cons t turns = by_test (nat_eq t.behind (t.met + 1))
  where
    by_test : (b : Bool) → length (cond b (t.met ∷ places_of turns) (places_of turns)) ≡ length (cond b (t.met ∷ []) []) + length (places_of turns)
    by_test true = omega arith
    by_test false = omega arith

sees_lower : (low more : ℕ) (turns : List Turn) (last : ℕ) → low ≤ more → MeetNoFewer more turns last → MeetNoFewer low turns last
sees_lower low more [] last le sees = omega (arith, le, sees)
sees_lower low more (t ∷ turns) last le sees = (let first = sees.0 in omega arith, sees.1)

module _ (log : Log) (base : ℕ) where
  -- a command takes its session no further than it is answered
  answered_told : (author met q : ℕ) (x : State) (c : Command) (replies : List Reply) (y : State) → x.told ≤ met → Answered log base author met q x c replies y → y.told ≤ q
  answered_told author met q x c replies y le (inl r) = let e = ap (λ (z : State). z.told) r.stays in let f = r.nothing_written in omega arith
  answered_told author met q x c replies y le (inr (inl u)) = let e = ap (λ (z : State). z.told) u.stays in let f = u.nothing_written in omega arith
  answered_told author met q x c replies y le (inr (inr t)) = let e = ap (λ (a : Answer). a.next.told) t.is in omega arith

  -- it wrote as many entries as there are more
  wrote_many : (t : Turn) (author : ℕ) → Answered log base author t.met t.behind t.before t.command t.replies t.after → t.met + length (places_of (t ∷ [])) ≡ t.behind
  wrote_many t author answered = by_answer answered
    where
      nothing : t.behind ≡ t.met → t.met + length (places_of (t ∷ [])) ≡ t.behind
      nothing same = let none : nat_eq t.behind (t.met + 1) ≡ false = grind (arith, nat_tests) in rw none (omega (arith, same))

      by_answer : Answered log base author t.met t.behind t.before t.command t.replies t.after → t.met + length (places_of (t ∷ [])) ≡ t.behind
      by_answer (inl r) = nothing r.nothing_written
      by_answer (inr (inl u)) = nothing u.nothing_written
      by_answer (inr (inr told)) =
          elim told.wrote [
            | inl has ↦ let e = has.behind in let one : nat_eq t.behind (t.met + 1) ≡ true = grind (arith, nat_tests) in rw one (omega (arith, e))
            | inr none ↦ nothing none.0
          ]

  -- the turns of one session in a run of some lines
  record RunTurns (s : ℕ) (x : State) (met : ℕ) (lines : List Line) (replies : List (List Reply)) (y : State) (q : ℕ) : Type 0 where
    turns : List Turn
    each : All (IsTurn log base s) turns
    leads : LeadsTo x turns y
    replied : map (λ t. t.replies) turns ≡ replies_of s lines replies
    sent : map (λ t. t.command) turns ≡ take (length (replies_of s lines replies)) (commands_of s lines)
    rest : drop (length (replies_of s lines replies)) (commands_of s lines) ≡ commands_of s (drop (length replies) lines)
    sees : MeetNoFewer met turns q

  -- with one line more in front
  record WithLine (s : ℕ) (x : State) (met : ℕ) (lines : List Line) (replies : List (List Reply)) (y : State) (q : ℕ) (own : Bool) (t : Turn) (others : List Turn) : Type 0 where
    run : RunTurns s x met lines replies y q
    places : length (places_of run.turns) ≡ cond own (length (places_of (t ∷ []))) 0 + length (places_of others)

  abbrev turn_of : (ℕ → State) → ℕ → ℕ → State → Line → List Reply → Turn
  turn_of states met k y line said = record { before = states line.0; command = line.1; met = met; behind = k; replies = said; after = y }

  and_line : (s : ℕ) (states : ℕ → State) (met k : ℕ) (y : State) (line : Line) (lines : List Line) (said : List Reply) (replies : List (List Reply)) (after : ℕ → State) (q : ℕ)
      → (states line.0).told ≤ met → met ≤ length log.entries → Answered log base line.0 met k (states line.0) line.1 said y
      → (rest : RunTurns s (with_state states line.0 y s) k lines replies (after s) q) → (b : Bool) → nat_eq line.0 s ≡ b
      → WithLine s (states s) met (line ∷ lines) (said ∷ replies) (after s) q b (turn_of states met k y line said) rest.turns
  and_line s states met k y line lines said replies after q told there a rest true is =
      let same : line.0 ≡ s = grind (arith, nat_tests) in
      let t : Turn = turn_of states met k y line said in
      record {
        run = record {
          turns = t ∷ rest.turns;
          each = All-cons (IsTurn log base s) t rest.turns (record { met = (told, there); answered = subst (λ (n : ℕ). Answered log base n met k (states line.0) line.1 said y) same a }) rest.each;
          leads = (ap states same, subst (λ (b : Bool). LeadsTo (cond b y (states s)) rest.turns (after s)) is rest.leads);
          replied = rw is (ap (λ (rs : List (List Reply)). said ∷ rs) rest.replied);
          sent = rw is (ap (λ (cs : List Command). line.1 ∷ cs) rest.sent);
          rest = rw is rest.rest;
          sees = (omega arith, rest.sees);
        };
        places = places_cons t rest.turns;
      }
  and_line s states met k y line lines said replies after q told there a rest false is =
      let up : met ≤ k = answered_up log base line.0 met k (states line.0) line.1 said y a in
      record {
        run = record {
          turns = rest.turns;
          each = rest.each;
          leads = subst (λ (b : Bool). LeadsTo (cond b y (states s)) rest.turns (after s)) is rest.leads;
          replied = rw is rest.replied;
          sent = rw is rest.sent;
          rest = rw is rest.rest;
          sees = sees_lower met k rest.turns q up rest.sees;
        };
        places = omega arith;
      }

  -- ---- all lines

  module _ (n : ℕ) where
    abbrev InRange : List Line → Type 0
    InRange lines = All (λ (line : Line). (1 ≤ line.0) × (line.0 ≤ n)) lines

    -- the turns of all sessions, which wrote the entries between
    record AllTurns (states : ℕ → State) (met : ℕ) (lines : List Line) (replies : List (List Reply)) (after : ℕ → State) (q : ℕ) : Type 0 where
      of : (s : ℕ) → RunTurns s (states s) met lines replies (after s) q
      count : met + total n (λ s. length (places_of (of s).turns)) ≡ q

    no_turns : (states : ℕ → State) (met : ℕ) (lines : List Line) (after : ℕ → State) (q : ℕ) → Runs log base states met [] [] after q → ((s : ℕ) → replies_of s lines [] ≡ []) → AllTurns states met lines [] after q
    no_turns states met lines after q r none = record {
      of = λ s. record {
        turns = [];
        each = All-nil (IsTurn log base s);
        leads = ap (λ (f : ℕ → State). f s) r.0;
        replied = sym (none s);
        sent = rw (none s) refl;
        rest = rw (none s) refl;
        sees = let e = r.1 in omega arith;
      };
      count = let e = r.1 in omega (arith, zeros n);
    }
      where
        zeros : (m : ℕ) → total m (λ (s : ℕ). 0) ≡ 0
        zeros zero = refl
        zeros (suc m) = omega (arith, zeros m)

    all_turns : (states : ℕ → State) (met : ℕ) (lines : List Line) (replies : List (List Reply)) (after : ℕ → State) (q : ℕ) → ((t : ℕ) → (states t).told ≤ met) → q ≤ length log.entries → InRange lines
        → Runs log base states met (take (length replies) lines) replies after q → AllTurns states met lines replies after q
    all_turns states met [] [] after q told le range r = no_turns states met [] after q r (λ s. refl)
    all_turns states met (line ∷ lines) [] after q told le range r = no_turns states met (line ∷ lines) after q r (λ s. refl)
    all_turns states met [] (said ∷ replies) after q told le range r = absurd r
    all_turns states met (line ∷ lines) (said ∷ replies) after q told le range r =
        let first = answered_up log base line.0 met r.0 (states line.0) line.1 said r.1 r.2 in
        let others = runs_up log base (with_state states line.0 r.1) r.0 (take (length replies) lines) replies after q r.3 in
        with_line (omega arith)
        (all_turns (with_state states line.0 r.1) r.0 lines replies after q (λ t. next_told t (nat_eq line.0 t)) le (All-tail (λ (l : Line). (1 ≤ l.0) × (l.0 ≤ n)) line lines range) r.3)
      where
        next_told : (t : ℕ) (b : Bool) → (cond b r.1 (states t)).told ≤ r.0
        next_told t true = answered_told line.0 met r.0 (states line.0) line.1 said r.1 (told line.0) r.2
        next_told t false = let first = answered_up log base line.0 met r.0 (states line.0) line.1 said r.1 r.2 in let h = told t in omega arith

        with_line : met ≤ length log.entries → AllTurns (with_state states line.0 r.1) r.0 lines replies after q → AllTurns states met (line ∷ lines) (said ∷ replies) after q
        with_line there rest =
            let t : Turn = turn_of states met r.0 r.1 line said in
            let one = λ (s : ℕ). and_line s states met r.0 r.1 line lines said replies after q (told line.0) there r.2 (rest.of s) (nat_eq line.0 s) refl in
            let here = All-head (λ (l : Line). (1 ≤ l.0) × (l.0 ≤ n)) line lines range in
            let sums = total_same n (λ s. length (places_of (one s).run.turns)) (λ s. cond (nat_eq line.0 s) (length (places_of (t ∷ []))) 0 + length (places_of (rest.of s).turns)) (λ s. (one s).places) in
            let parts = total_add n (λ s. cond (nat_eq line.0 s) (length (places_of (t ∷ []))) 0) (λ s. length (places_of (rest.of s).turns)) in
            record {
              of = λ s. (one s).run;
              count = omega (arith, sums, parts, total_one n line.0 (length (places_of (t ∷ []))) here.0 here.1, wrote_many t line.0 r.2, rest.count);
            }

-- ---- the stories

module _ (log : Log) (base faults n : ℕ) (lines : List Line) (replies : List (List Reply)) (range : InRange log base n lines) (serial : Serial log base faults lines replies) where
  abbrev written : ℕ
  written = serial.written

  abbrev unanswered : List Line
  unanswered = drop (length replies) lines

  within : (rest : List Line) → EndsAt log serial.states written rest → written ≤ length log.entries
  within [] ends = let e = ends in omega arith
  within (line ∷ rest) (inl ends) = let e = ends in omega arith
  within (line ∷ rest) (inr left) = let e = left.0 in omega arith

  turns_all : AllTurns log base n (λ s. new_session) 0 lines replies serial.states written
  turns_all = all_turns log base n (λ s. new_session) 0 lines replies serial.states written (λ t. omega arith) (within unanswered serial.ends) range serial.answered

  -- the places that a session's turns have, and that of the entry that was left
  abbrev wrote_of : (ℕ → Option ℕ) → ℕ → ℕ
  wrote_of left i = length (places_of (turns_all.of i).turns ++ option_to_list (left i))

  abbrev progress_of : (ℕ → Option ℕ) → ℕ → ℕ → Progress
  progress_of left seen i = record { state = serial.states i; seen = seen; wrote = wrote_of left i; refused = unavailable_count (replies_of i lines replies); left = left i }

  story_of : (left : ℕ → Option ℕ) (seen i : ℕ) → IfSome (left i) (NextLeft log i (serial.states i) (commands_of i unanswered)) → MeetNoFewer 0 (turns_all.of i).turns (unwrap_or (left i) seen)
      → IfSome (left i) (λ k. k + 1 ≤ seen) → seen ≤ length log.entries → Story log base i (commands_of i lines) (replies_of i lines replies) (progress_of left seen i)
  story_of left seen i next sees below there =
      let run = turns_all.of i in
      record {
        speaks = record {
          start = 0;
          there = omega arith;
          turns = run.turns;
          each = run.each;
          state = serial.states i;
          leads = run.leads;
          replied = run.replied;
          sent = run.sent;
        };
        begins = refl;
        state = refl;
        left = subst (λ (commands : List Command). IfSome (left i) (NextLeft log i (serial.states i) commands)) (sym run.rest) next;
        sees = sees;
        seen = below;
        there = there;
        wrote = refl;
        refused = refl;
      }

  abbrev Has : Type 0
  Has = HaveStories log base n lines replies

  -- no entry was left
  ended : length log.entries ≡ written → Has
  ended same =
      let none : ℕ → Option ℕ = λ i. None in
      record {
        progress = progress_of none written;
        all = record {
          sound = serial.sound;
          story = λ i low high. story_of none written i tt (turns_all.of i).sees tt (omega arith);
          all = omega (arith, total_same n (wrote_of none) (λ i. length (places_of (turns_all.of i).turns)) (λ i. ap length (append-nil (places_of (turns_all.of i).turns))), turns_all.count);
        };
      }

  -- the first line that wasn't answered left one
  module _ (line : Line) (rest : List Line) (is : unanswered ≡ line ∷ rest) (same : length log.entries ≡ written + 1) (left : HasLeft log line.0 written (serial.states line.0) line.1) where
    abbrev left_at : ℕ → Option ℕ
    left_at i = cond (nat_eq line.0 i) (Some written) None

    next_left : (i : ℕ) (b : Bool) → nat_eq line.0 i ≡ b
        → IfSome (cond b (Some written) None) (NextLeft log i (serial.states i) (map (λ (l : Line). l.1) (cond b (line ∷ filter (λ l. nat_eq l.0 i) rest) (filter (λ l. nat_eq l.0 i) rest))))
    next_left i true own = let e : line.0 ≡ i = grind (arith, nat_tests) in subst (λ (j : ℕ). HasLeft log j written (serial.states j) line.1) e left
    next_left i false other = tt

    sees_left : (i : ℕ) (b : Bool) → MeetNoFewer 0 (turns_all.of i).turns (unwrap_or (cond b (Some written) None) (written + 1))
    sees_left i true = (turns_all.of i).sees
    sees_left i false = sees_up 0 (turns_all.of i).turns written (written + 1) (omega arith) (turns_all.of i).sees

    below_left : (b : Bool) → IfSome (cond b (Some written) None) (λ k. k + 1 ≤ written + 1)
    below_left true = omega arith
    below_left false = tt

    one_left : (places : List ℕ) (b : Bool) → length (places ++ option_to_list (cond b (Some written) None)) ≡ cond b 1 0 + length places
    one_left places true = omega (arith, length-append places (written ∷ []))
    one_left places false = omega (arith, ap length (append-nil places))

    with_left_line : Has
    with_left_line =
        let number = All-head (λ (l : Line). (1 ≤ l.0) × (l.0 ≤ n)) line rest (subst (All (λ (l : Line). (1 ≤ l.0) × (l.0 ≤ n))) is (All-drop (λ (l : Line). (1 ≤ l.0) × (l.0 ≤ n)) (length replies) lines range)) in
        let sums = total_same n (wrote_of left_at) (λ i. cond (nat_eq line.0 i) 1 0 + length (places_of (turns_all.of i).turns)) (λ i. one_left (places_of (turns_all.of i).turns) (nat_eq line.0 i)) in
        let parts = total_add n (λ i. cond (nat_eq line.0 i) 1 0) (λ i. length (places_of (turns_all.of i).turns)) in
        record {
          progress = progress_of left_at (written + 1);
          all = record {
            sound = serial.sound;
            story = λ i low high. story_of left_at (written + 1) i
                (subst (λ (more : List Line). IfSome (left_at i) (NextLeft log i (serial.states i) (commands_of i more))) (sym is) (next_left i (nat_eq line.0 i) refl))
                (sees_left i (nat_eq line.0 i)) (below_left (nat_eq line.0 i)) (omega arith);
            all = omega (arith, sums, parts, total_one n line.0 1 number.0 number.1, turns_all.count);
          };
        }

  by_end : (rest : List Line) → unanswered ≡ rest → EndsAt log serial.states written rest → Has
  by_end [] is ends = ended ends
  by_end (line ∷ rest) is (inl ends) = ended ends
  by_end (line ∷ rest) is (inr left) = with_left_line line rest is left.0 left.1

  pub have_stories : Has
  have_stories = by_end unanswered refl serial.ends

pub serial_stories : (log : Log) (base faults n : ℕ) (lines : List Line) (replies : List (List Reply)) → All (λ (line : Line). (1 ≤ line.0) × (line.0 ≤ n)) lines → Serial log base faults lines replies → HaveStories log base n lines replies
serial_stories log base faults n lines replies range serial = have_stories log base faults n lines replies range serial
