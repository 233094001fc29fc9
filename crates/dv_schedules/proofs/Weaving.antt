-- All sessions' turns in some order are an interleaving.
use Rattle.std.proofs.Common.{◌≡◌, ◌⊎◌, inl, inr, ℕ, zero, suc, ◌<◌, ◌≤◌, Bool, true, false, cond, not, List, [], ◌∷◌, ◌++◌, length, nat_eq, Option, Some, None, refl, sym, ◌∙◌, ap, subst, arith}
use Rattle.std.specs.Prelude.{All, IfSome, IsSome, drop, filter, map, unwrap_or}
use Rattle.std.proofs.lemmas.Bool.{le-leb}
use Rattle.std.proofs.lemmas.Bool.Decides.{nat_tests}
use Rattle.std.proofs.lemmas.List.{append-nil, append_assoc}
use Rattle.std.proofs.lemmas.List.Elements.{All-append, All-cons, All-drop, All-head, All-nil, All-tail, All-take}
use Rattle.std.proofs.lemmas.Option.{slice_get_within}
use Rattle.dv_model.specs.declared.types.Command.{Command}
use Rattle.dv_model.specs.declared.types.Entry.{Entry}
use Rattle.dv_model.specs.declared.types.Reply.{Reply}
use Rattle.dv_model.specs.Journals.{IsSound, IsU32, Log, at}
use Rattle.dv_model.specs.Sessions.{IsCommand, State, new_session}
use Rattle.dv_model.specs.Transcripts.{IsTurn, LeadsTo, Line, Serial, Turn, commands_of, replies_of}
use Rattle.dv_interleavings.specs.Promises.{was_refused}
use Rattle.dv_interleavings.specs.Worlds.{World, Session, Event, Open, Write, Sync, Heal, Publish, Load, Tell, all_happen, only_log}
use Rattle.dv_promises.specs.Standing.{IsGoodEvent, Stands}
use Rattle.dv_promises.proofs.Ending.{all_keep, alone}
use Rattle.dv_promises.proofs.Holding.{holds}
use Rattle.dv_stories.specs.Stories.{AreAll, NextLeft, Progress, MeetNoFewer}
use Rattle.dv_clients.proofs.Clients.{answers_are}
use Rattle.dv_stories.proofs.Serials.{serial_stories}
use Rattle.dv_stories.proofs.Stories.{turn_up, turn_within}
use Rattle.dv_stories.proofs.Written.{OwnsAll, owns, written_by_all}
use Rattle.dv_schedules.specs.Calls.{Call, Commit, Done, Unwritten, Failed, Make, Refresh, Gather, Answer, all_called, events_of, heals, made, made_session, opens}
use Rattle.dv_schedules.specs.Schedules.{AreInterleaved, AreLinesInterleaved, IsGoodCall, IsSessionOf, begun, told_answers, write_left}
use Rattle.dv_schedules.proofs.Calls.{all_called_append, make_opens}
use Rattle.dv_schedules.proofs.Prefixes.{Changes, HasBase, changes_then, cut}
use Rattle.dv_schedules.proofs.Turns.{Ends, IsOver, IsPast, Later, Waits, one_turn}
use Rattle.dv_schedules.proofs.Writes.{author_writes, others_wait}

-- ---- good calls keep what stands

one_good : (event : Event) → IsGoodEvent event → All IsGoodEvent (event ∷ [])
one_good event good = All-cons IsGoodEvent event [] good (All-nil IsGoodEvent)

all_opens : (n : ℕ) → All IsGoodEvent (opens n)
all_opens zero = All-nil IsGoodEvent
all_opens (suc n) = All-cons IsGoodEvent (Open (suc n)) (opens n) tt (all_opens n)

all_heals : (healed : Bool) → All IsGoodEvent (heals healed)
all_heals true = one_good Heal tt
all_heals false = All-nil IsGoodEvent

good_events : (call : Call) → IsGoodCall call → All IsGoodEvent (events_of call)
good_events (Make n) good = all_opens n
good_events (Refresh s) good = one_good (Load s) tt
good_events (Gather s t) good = All-cons IsGoodEvent (Load s) (Load t ∷ []) tt (one_good (Load t) tt)
good_events (Commit s c received healed Done) good =
    All-append IsGoodEvent (heals healed) (Write s c received ∷ Sync ∷ Publish ∷ []) (all_heals healed)
    (All-cons IsGoodEvent (Write s c received) (Sync ∷ Publish ∷ []) good (All-cons IsGoodEvent Sync (Publish ∷ []) tt (one_good Publish tt)))
good_events (Commit s c received healed Unwritten) good = all_heals healed
good_events (Commit s c received healed Failed) good = All-append IsGoodEvent (heals healed) (Write s c received ∷ []) (all_heals healed) (one_good (Write s c received) good)
good_events (Answer s c) good = one_good (Tell s c) tt

pub calls_keep : (w : World) (calls : List Call) → Stands w → All IsGoodCall calls → Stands (all_called w calls)
calls_keep w [] stands good = stands
calls_keep w (call ∷ calls) stands good =
    calls_keep (all_happen w (events_of call)) calls (all_keep w (events_of call) stands (good_events call (All-head IsGoodCall call calls good))) (All-tail IsGoodCall call calls good)

-- ---- calls that lead to a world

record LeadsOn (w : World) (P : World → Type 0) : Type 0 where
  calls : List Call
  good : All IsGoodCall calls
  is : P (all_called w calls)

stay : (w : World) (P : World → Type 0) → P w → LeadsOn w P
stay w P is = record { calls = []; good = All-nil IsGoodCall; is = is }

go_on : (w : World) (P Q : World → Type 0) → LeadsOn w P → ((v : World) → P v → LeadsOn v Q) → LeadsOn w Q
go_on w P Q first then =
    let second = then (all_called w first.calls) first.is in
    record {
      calls = first.calls ++ second.calls;
      good = All-append IsGoodCall first.calls second.calls first.good second.good;
      is = subst Q (sym (all_called_append w first.calls second.calls)) second.is;
    }

module _ (log : Log) (base n : ℕ) (small : IsU32 n) (xs : ℕ → Ends) where
  -- ---- one session has done its turns at this place

  record Drained (i : ℕ) (w : World) (done : List Entry) (v : World) : Type 0 where
    session : Session
    changes : Changes log w v done i session
    turns : List Turn
    waits : Waits log base i (xs i) (length done) session turns
    past : IsPast (length done) turns

  module _ (i : ℕ) (number : IsU32 i) (done more : List Entry) (split : log.entries ≡ done ++ more) where
    drained_then : (w v : World) (one : Session) → Changes log w v done i one → LeadsOn v (Drained i v done) → LeadsOn v (Drained i w done)
    drained_then w v one changes on = record {
      calls = on.calls;
      good = on.good;
      is = record {
        session = on.is.session;
        changes = changes_then log w v (all_called v on.calls) done done i one on.is.session changes on.is.changes;
        turns = on.is.turns;
        waits = on.is.waits;
        past = on.is.past;
      };
    }

    nothing_more : (w : World) (b : HasBase log w done) (session : Session) (lives : w.sessions i ≡ Some session) (turns : List Turn) → Waits log base i (xs i) (length done) session turns → IsPast (length done) turns → LeadsOn w (Drained i w done)
    nothing_more w b session lives turns waits past =
        stay w (Drained i w done) (record { session = session; changes = record { base = b; own = lives; others = λ j differs. refl }; turns = turns; waits = waits; past = past })

    drain : (turns : List Turn) (w : World) (b : HasBase log w done) (session : Session) (lives : w.sessions i ≡ Some session) → Waits log base i (xs i) (length done) session turns → LeadsOn w (Drained i w done)
    drain [] w b session lives waits = nothing_more w b session lives [] waits tt
    drain (t ∷ turns) w b session lives waits = by_stage waits.stage (λ v b one lives waits. drain turns v b one lives waits)
      where
        by_place : session.wrote ≡ None → Later (length done) (t ∷ turns) (xs i).left → (t.met ≤ t.behind)
            → ((v : World) (b : HasBase log v done) (one : Session) (lives : v.sessions i ≡ Some one) → Waits log base i (xs i) (length done) one turns → LeadsOn v (Drained i v done))
            → (here : Bool) → nat_eq t.behind (length done) ≡ here → LeadsOn w (Drained i w done)
        by_place none later up rest true here =
            let place : t.behind ≡ length done = grind (arith, nat_tests) in
            let comes = one_turn log base i number (xs i) done more split w b session lives t turns waits none later place up in
            go_on w (λ v. Changes log w v done i comes.session) (Drained i w done)
            (record { calls = comes.calls; good = comes.good; is = comes.changes })
            (λ v changes. drained_then w v comes.session changes (rest v changes.base comes.session changes.own comes.waits))
        by_place none later up rest false here =
            let low = later.0 in
            let past : length done < t.behind = grind (arith, nat_tests) in
            nothing_more w b session lives (t ∷ turns) waits past

        by_stage : ((session.wrote ≡ None) × Later (length done) (t ∷ turns) (xs i).left) ⊎ IsOver (xs i) (length done) session (t ∷ turns)
            → ((v : World) (b : HasBase log v done) (one : Session) (lives : v.sessions i ≡ Some one) → Waits log base i (xs i) (length done) one turns → LeadsOn v (Drained i v done)) → LeadsOn w (Drained i w done)
        by_stage (inl (none, later)) rest = by_place none later (turn_up log base i t (All-head (IsTurn log base i) t turns waits.each)) rest (nat_eq t.behind (length done)) refl
        by_stage (inr over) rest = let empty : t ∷ turns ≡ [] = over.none in absurd cc

  -- ---- all sessions at one place

  record Waiting (w : World) (done : List Entry) (m i : ℕ) : Type 0 where
    session : Session
    lives : w.sessions i ≡ Some session
    turns : List Turn
    waits : Waits log base i (xs i) (length done) session turns
    past : i ≤ m → IsPast (length done) turns

  -- the first m sessions have done their turns at this place
  record Stage (done : List Entry) (m : ℕ) (w : World) : Type 0 where
    base_is : HasBase log w done
    each : (i : ℕ) → 1 ≤ i → i ≤ n → Waiting w done m i

  module _ (done more : List Entry) (split : log.entries ≡ done ++ more) where
    one_stage : (m : ℕ) → suc m ≤ n → (w : World) → Stage done m w → LeadsOn w (Stage done (suc m))
    one_stage m le w stage =
        let own = stage.each (suc m) (omega arith) le in
        go_on w (Drained (suc m) w done) (Stage done (suc m)) (drain (suc m) (omega arith) done more split own.turns w stage.base_is own.session own.lives own.waits)
        (λ v drained. stay v (Stage done (suc m)) (record {
          base_is = drained.changes.base;
          each = λ i low high. by_number v drained i low high (nat_eq (suc m) i) refl;
        }))
      where
        by_number : (v : World) → Drained (suc m) w done v → (i : ℕ) → 1 ≤ i → i ≤ n → (b : Bool) → nat_eq (suc m) i ≡ b → Waiting v done (suc m) i
        by_number v drained i low high true same =
            let e : suc m ≡ i = grind (arith, nat_tests) in
            subst (Waiting v done (suc m)) e (record { session = drained.session; lives = drained.changes.own; turns = drained.turns; waits = drained.waits; past = λ le. drained.past })
        by_number v drained i low high false other =
            let old = stage.each i low high in
            let differs : suc m ≡ i → ⊥ = λ same. let found : nat_eq (suc m) i ≡ true = grind (arith, nat_tests) in absurd cc in
            record {
              session = old.session;
              lives = drained.changes.others i differs ∙ old.lives;
              turns = old.turns;
              waits = old.waits;
              past = λ le. old.past (omega arith);
            }

    all_stages : (m : ℕ) → m ≤ n → (w : World) → Stage done 0 w → LeadsOn w (Stage done m)
    all_stages zero le w stage = stay w (Stage done 0) stage
    all_stages (suc m) le w stage = go_on w (Stage done m) (Stage done (suc m)) (all_stages m (omega arith) w stage) (λ v on. one_stage m le v on)

  -- ---- the next entry

  module _ (done rest : List Entry) (e : Entry) (split : log.entries ≡ done ++ e ∷ rest) (low : 1 ≤ e.author) (high : e.author ≤ n) where
    next_entry : (w : World) → Stage done n w → LeadsOn w (Stage (done ++ e ∷ []) 0)
    next_entry w stage =
        let own = stage.each e.author low high in
        let on = author_writes log base e.author (xs e.author) done rest e split (omega arith) refl w stage.base_is own.session own.lives own.turns own.waits (own.past high) in
        record {
          calls = on.comes.calls;
          good = on.comes.good;
          is = record {
            base_is = on.comes.changes.base;
            each = λ i first last. by_number (all_called w on.comes.calls) on.comes.session on.comes.changes on.turns on.comes.waits i first last (nat_eq e.author i) refl;
          };
        }
      where
        by_number : (v : World) (one : Session) → Changes log w v (done ++ e ∷ []) e.author one → (turns : List Turn) → Waits log base e.author (xs e.author) (length (done ++ e ∷ [])) one turns
            → (i : ℕ) → 1 ≤ i → i ≤ n → (b : Bool) → nat_eq e.author i ≡ b → Waiting v (done ++ e ∷ []) 0 i
        by_number v one changes turns waits i first last true same =
            let is : e.author ≡ i = grind (arith, nat_tests) in
            subst (Waiting v (done ++ e ∷ []) 0) is (record { session = one; lives = changes.own; turns = turns; waits = waits; past = λ le. absurd (omega arith) })
        by_number v one changes turns waits i first last false other =
            let old = stage.each i first last in
            let differs : e.author ≡ i → ⊥ = λ same. let found : nat_eq e.author i ≡ true = grind (arith, nat_tests) in absurd cc in
            record {
              session = old.session;
              lives = changes.others i differs ∙ old.lives;
              turns = old.turns;
              waits = others_wait log base i (xs i) done rest e split differs old.session old.turns old.waits (old.past last);
              past = λ le. absurd (omega arith);
            }

  -- ---- all entries

  -- the whole log, and all turns
  record Ended (w : World) : Type 0 where
    log_is : w.log ≡ log
    each : (i : ℕ) → 1 ≤ i → i ≤ n → (session : Session) × (w.sessions i ≡ Some session) × Waits log base i (xs i) (length log.entries) session []

  ended : (done : List Entry) → log.entries ≡ done → (w : World) → Stage done n w → Ended w
  ended done all w stage = record {
    log_is = stage.base_is.log_is ∙ ap (cut log) (sym all);
    each = λ i low high. let own = stage.each i low high in (own.session, own.lives, subst (λ (es : List Entry). Waits log base i (xs i) (length es) own.session []) (sym all) (no_turns i own.session own.turns own.waits (own.past high)));
  }
    where
      no_turns : (i : ℕ) (session : Session) (turns : List Turn) → Waits log base i (xs i) (length done) session turns → IsPast (length done) turns → Waits log base i (xs i) (length done) session []
      no_turns i session [] waits past = waits
      no_turns i session (t ∷ turns) waits past =
          let within = turn_within log base i t (All-head (IsTurn log base i) t turns waits.each) in let same = ap length all in absurd (omega arith)

  all_entries : (rest done : List Entry) → log.entries ≡ done ++ rest → All (λ (e : Entry). (1 ≤ e.author) × (e.author ≤ n)) rest → (w : World) → Stage done 0 w → LeadsOn w Ended
  all_entries [] done split authors w stage =
      go_on w (Stage done n) Ended (all_stages done [] split n (omega arith) w stage) (λ v on. stay v Ended (ended done (split ∙ append-nil done) v on))
  all_entries (e ∷ rest) done split authors w stage =
      let author = All-head (λ (e : Entry). (1 ≤ e.author) × (e.author ≤ n)) e rest authors in
      go_on w (Stage done n) Ended (all_stages done (e ∷ rest) split n (omega arith) w stage)
      (λ v on. go_on v (Stage (done ++ e ∷ []) 0) Ended (next_entry done rest e split author.0 author.1 v on)
      (λ u behind. all_entries rest (done ++ e ∷ []) (split ∙ sym (append_assoc done (e ∷ []) rest)) (All-tail (λ (e : Entry). (1 ≤ e.author) × (e.author ≤ n)) e rest authors) u behind))

-- ---- the stories of all sessions

-- the places of a story's turns, and of the entry that was left
story_later : (seen : ℕ) (turns : List Turn) (left : Option ℕ) (last : ℕ) → MeetNoFewer seen turns (unwrap_or left last) → Later seen turns left
story_later seen [] None last sees = tt
story_later seen [] (Some l) last sees = sees
story_later seen (t ∷ turns) left last sees = (sees.0, story_later t.behind turns left last sees.1)

sent_good : (turns : List Turn) → All IsCommand (map (λ t. t.command) turns) → All (λ t. IsCommand t.command) turns
sent_good [] good = All-nil (λ (t : Turn). IsCommand t.command)
sent_good (t ∷ turns) good =
    All-cons (λ (t : Turn). IsCommand t.command) t turns (All-head IsCommand t.command (map (λ t. t.command) turns) good) (sent_good turns (All-tail IsCommand t.command (map (λ t. t.command) turns) good))

module _ (log : Log) (base n : ℕ) (commands : ℕ → List Command) (replies : ℕ → List (List Reply)) (p : ℕ → Progress) (small : IsU32 n) (good : (i : ℕ) → All IsCommand (commands i))
    (all : AreAll log base n commands replies p) where
  abbrev ends : ℕ → Ends
  ends i = record { state = (p i).state; left = (p i).left; rest = drop (length (replies i)) (commands i); answers = told_answers (commands i) (replies i) }

  abbrev first : World
  first = made (begun log) n

  made_one : (i : ℕ) → 1 ≤ i → i ≤ n → first.sessions i ≡ Some (made_session 0)
  made_one i low high = rw (le-leb 1 i low, le-leb i n high) refl

  story_waits : (i : ℕ) → (s : OwnsAll log base n commands replies p all i) → Waits log base i (ends i) 0 (made_session 0) s.story.speaks.turns
  story_waits i s =
      let speaks = s.story.speaks in
      record {
        each = speaks.each;
        good = sent_good speaks.turns (subst (All IsCommand) (sym speaks.sent) (All-take IsCommand (length (replies i)) (commands i) (good i)));
        leads =
            subst (λ (y : State). LeadsTo (record new_session { told = 0 }) speaks.turns y) s.story.state
            (subst (λ (k : ℕ). LeadsTo (record new_session { told = k }) speaks.turns speaks.state) s.story.begins speaks.leads);
        kept = ap (filter (λ a. not (was_refused a))) (sym (answers_are speaks.turns (commands i) (replies i) speaks.replied speaks.sent));
        own = λ j le own. s.own j own;
        left = s.story.left;
        rest_good = All-drop IsCommand (length (replies i)) (commands i) (good i);
        stage = inl (refl, story_later 0 speaks.turns (p i).left (p i).seen s.story.sees);
      }

  begins : Stage log base n small ends [] 0 first
  begins = record {
    base_is = record { log_is = refl; pending = refl; published = refl };
    each = λ i low high. let s = owns log base n commands replies p all i low high in record { session = made_session 0; lives = made_one i low high; turns = s.story.speaks.turns; waits = story_waits i s; past = λ le. absurd (omega arith) };
  }

  leads_all : LeadsOn first (Ended log base n small ends)
  leads_all = all_entries log base n small ends log.entries [] refl (written_by_all log base n commands replies p all).authors first begins

  begun_sound : IsSound (begun log)
  begun_sound = record {
    start = all.sound.start;
    start_mark = all.sound.start_mark;
    indexid = all.sound.indexid;
    guids = all.sound.guids;
    entries = λ k d h. absurd (omega (arith, h));
    mailboxes = λ k le. none k le;
  }
    where
      none : (k : ℕ) → k ≤ 0 → IsSome (at (begun log) k)
      none zero le = refl
      none (suc k) le = absurd (omega (arith, le))

  first_stands : Stands first
  first_stands = subst Stands (make_opens (begun log) n) (all_keep (only_log (begun log)) (opens n) (alone (begun log) begun_sound) (all_opens n))

  session_of : (i : ℕ) (session : Session) → Waits log base i (ends i) (length log.entries) session [] → IsSessionOf (commands i) (replies i) (p i) session
  session_of i session waits = record {
    state = sym waits.leads;
    answers = sym (append-nil session.answers) ∙ waits.kept;
    wrote = by_stage waits.stage;
  }
    where
      by_left : (o : Option ℕ) → session.wrote ≡ None → IfSome o (NextLeft log i (p i).state (drop (length (replies i)) (commands i))) → Later (length log.entries) [] o → session.wrote ≡ write_left o (drop (length (replies i)) (commands i))
      by_left None none left later = none
      by_left (Some l) none left later = absurd (let within = left_within (drop (length (replies i)) (commands i)) l left in omega arith)
        where
          left_within : (rest : List Command) (l : ℕ) → NextLeft log i (p i).state rest l → l < length log.entries
          left_within [] l left = absurd left
          left_within (c ∷ rest) l left = slice_get_within log.entries l _ left.written.entry

      by_stage : ((session.wrote ≡ None) × Later (length log.entries) [] (p i).left) ⊎ IsOver (ends i) (length log.entries) session [] → session.wrote ≡ write_left (p i).left (drop (length (replies i)) (commands i))
      by_stage (inl (none, later)) = by_left (p i).left none waits.left later
      by_stage (inr over) = over.wrote

  pub are_interleaved : AreInterleaved log n commands replies p
  are_interleaved = record {
    calls = leads_all.calls;
    good = leads_all.good;
    log_is = leads_all.is.log_is;
    sessions = λ i low high. let one = leads_all.is.each i low high in (one.0, one.1, session_of i one.0 one.2);
    holds = holds (all_called first leads_all.calls) (calls_keep first leads_all.calls first_stands leads_all.good);
  }

-- ---- one command after another

commands_good : (i : ℕ) (lines : List Line) → All (λ (line : Line). IsCommand line.1) lines → All IsCommand (commands_of i lines)
commands_good i [] good = All-nil IsCommand
commands_good i (line ∷ lines) good =
    by_test (nat_eq line.0 i) (commands_good i lines (All-tail (λ (line : Line). IsCommand line.1) line lines good))
  where
    by_test : (b : Bool) → All IsCommand (commands_of i lines) → All IsCommand (map (λ (l : Line). l.1) (cond b (line ∷ filter (λ l. nat_eq l.0 i) lines) (filter (λ l. nat_eq l.0 i) lines)))
    by_test true rest = All-cons IsCommand line.1 (commands_of i lines) (All-head (λ (line : Line). IsCommand line.1) line lines good) rest
    by_test false rest = rest

pub serial_interleaved : (log : Log) (base faults n : ℕ) (lines : List Line) (replies : List (List Reply)) → IsU32 n → All (λ (line : Line). (1 ≤ line.0) × (line.0 ≤ n)) lines → All (λ (line : Line). IsCommand line.1) lines
    → Serial log base faults lines replies → AreLinesInterleaved log n lines replies
serial_interleaved log base faults n lines replies small range good serial =
    let stories = serial_stories log base faults n lines replies range serial in
    record {
      progress = stories.progress;
      are = are_interleaved log base n (λ i. commands_of i lines) (λ i. replies_of i lines replies) stories.progress small (λ i. commands_good i lines good) stories.all;
    }
