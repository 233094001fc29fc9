-- A run of one command after another is a transcript of each of its sessions.
use Rattle.std.proofs.Common.{◌≡◌, ◌⊎◌, inl, inr, ℕ, zero, suc, ◌+◌, ◌<◌, ◌≤◌, List, [], ◌∷◌, ◌++◌, length, Some, refl, sym, ◌∙◌, ap, subst, arith, eqb-true, eq-eqb, length-append}
use Rattle.std.specs.Prelude.{Bool, true, false, cond, All, Any, slice_get, nat_eq, map, filter, take, drop}
use Rattle.std.proofs.lemmas.List.{get_or_append_left}
use Rattle.std.proofs.lemmas.List.Elements.{All-cons}
use Rattle.std.proofs.lemmas.Option.{slice_get_within}
use Rattle.dv_model.specs.declared.types.Command.{Command}
use Rattle.dv_model.specs.declared.types.Entry.{Entry}
use Rattle.dv_model.specs.declared.types.Reply.{Reply}
use Rattle.dv_model.specs.Journals.{Log}
use Rattle.dv_model.specs.Sessions.{State, new_session}
use Rattle.dv_model.specs.Transcripts.{Answered, AreWritten, AreWrittenBut, EndsAt, HasLeft, IsNextLeft, IsOwn, IsTurn, LeadsTo, Line, Runs, Serial, Speaks, Spoken, Turn, WroteEntry, Wrote, commands_of, replies_of, with_state}
use Rattle.dv_model.proofs.Transcripts.{answered_up, runs_up}

-- ---- some element of a longer list

any_there : {X : Type 0} (P : X → Type 0) (x : X) (xs : List X) → Any P xs → Any P (x ∷ xs)
any_there P x xs a = (suc a.0, a.1, omega (arith, a.2), a.3, a.4)

any_here : {X : Type 0} (P : X → Type 0) (x : X) (xs : List X) → P x → Any P (x ∷ xs)
any_here P x xs p = (zero, x, omega arith, refl, p)

module _ (log : Log) (base s : ℕ) where
  -- the turns of one session in a run of some lines
  pub record Turns (start : State) (met : ℕ) (lines : List Line) (replies : List (List Reply)) (after : State) (q : ℕ) : Type 0 where
    pub turns : List Turn
    pub each : All (IsTurn log base s) turns
    pub leads : LeadsTo start turns after
    pub replied : map (λ t. t.replies) turns ≡ replies_of s lines replies
    pub sent : map (λ t. t.command) turns ≡ commands_of s lines
    pub written : (k : ℕ) → IsOwn log s met k → k < q → WroteEntry turns k
    pub told : after.told ≤ q

  -- an entry that a line wrote is its session's
  own_author : (author met q : ℕ) (x : State) (c : Command) (replies : List Reply) (y : State) → Answered log base author met q x c replies y
      → (k : ℕ) → IsOwn log s met k → k < q → (author ≡ s) × (k ≡ met) × (q ≡ k + 1)
  own_author author met q x c replies y (inl r) k own below = let e = r.nothing_written in let f = own.later in absurd (omega arith)
  own_author author met q x c replies y (inr (inl u)) k own below = let e = u.nothing_written in let f = own.later in absurd (omega arith)
  own_author author met q x c replies y (inr (inr t)) k own below = by_written t.wrote
    where
      by_written : Wrote log author met q x.view c t.before → (author ≡ s) × (k ≡ met) × (q ≡ k + 1)
      by_written (inr n) = let e = n.0 in let f = own.later in absurd (omega arith)
      by_written (inl w) =
          let e = w.behind in
          let f = own.later in
          let here : k ≡ met = omega arith in
          let is : slice_get log.entries met ≡ Some own.entry = subst (λ (n : ℕ). slice_get log.entries n ≡ Some own.entry) here own.is in (
            let same : Some own.entry ≡ Some (record { author = author; group = _ }) = sym is ∙ w.entry in
                let by : own.entry.author ≡ author = cc in sym by ∙ own.by,
            here,
            omega arith,
          )

  -- a session is told of no more entries than there are behind its answer
  answered_told : (author met q : ℕ) (x : State) (c : Command) (replies : List Reply) (y : State) → x.told ≤ met → Answered log base author met q x c replies y → y.told ≤ q
  answered_told author met q x c replies y le (inl r) = let e = ap (λ (z : State). z.told) r.stays in let f = r.nothing_written in omega arith
  answered_told author met q x c replies y le (inr (inl u)) = let e = ap (λ (z : State). z.told) u.stays in let f = u.nothing_written in omega arith
  answered_told author met q x c replies y le (inr (inr t)) = let e = ap (λ a. a.next.told) t.is in omega arith

  below_or_not : (m n : ℕ) → (m < n) ⊎ (n ≤ m)
  below_or_not m zero = inr (omega arith)
  below_or_not zero (suc n) = inl (omega arith)
  below_or_not (suc m) (suc n) = elim (below_or_not m n) [ inl below ↦ inl (omega arith) | inr above ↦ inr (omega arith) ]

  later_own : (met next k : ℕ) → next ≤ k → IsOwn log s met k → IsOwn log s next k
  later_own met next k le own = record { later = le; entry = own.entry; is = own.is; by = own.by }

  -- one line more in front, of the session or of another
  one_more : (states : ℕ → State) (met k : ℕ) (y : State) (line : Line) (lines : List Line) (said : List Reply) (replies : List (List Reply)) (after : ℕ → State) (q : ℕ)
      → (states s).told ≤ met → met ≤ length log.entries
      → Answered log base line.0 met k (states line.0) line.1 said y
      → Turns (with_state states line.0 y s) k lines replies (after s) q
      → (b : Bool) → nat_eq line.0 s ≡ b
      → Turns (states s) met (line ∷ lines) (said ∷ replies) (after s) q
  one_more states met k y line lines said replies after q told there a rest true is =
      let same : line.0 ≡ s = eqb-true _ _ is in
      let t : Turn = record { before = states s; command = line.1; met = met; behind = k; replies = said; after = y } in
      record {
        turns = t ∷ rest.turns;
        each = All-cons (IsTurn log base s) t rest.turns (record {
          met = (told, there);
          answered = subst (λ (n : ℕ). Answered log base n met k (states n) line.1 said y) same a;
        }) rest.each;
        leads = (refl, subst (λ (b : Bool). LeadsTo (cond b y (states s)) rest.turns (after s)) is rest.leads);
        replied = ap (λ (rs : List (List Reply)). said ∷ rs) rest.replied ∙ sym (ap (λ (b : Bool). cond b (said ∷ replies_of s lines replies) (replies_of s lines replies)) is);
        sent = ap (λ (cs : List Command). line.1 ∷ cs) rest.sent
            ∙ sym (ap (λ (b : Bool). map (λ (l : Line). l.1) (cond b (line ∷ filter (λ l. nat_eq l.0 s) lines) (filter (λ l. nat_eq l.0 s) lines))) is);
        written = λ j own below. elim (below_or_not j k) [
          | inl here ↦ let own_it = own_author line.0 met k (states line.0) line.1 said y a j own here in
              any_here (λ u. (u.met ≡ j) × (u.behind ≡ j + 1)) t rest.turns (sym own_it.1, own_it.2)
          | inr later ↦ any_there (λ u. (u.met ≡ j) × (u.behind ≡ j + 1)) t rest.turns (rest.written j (later_own met k j later own) below)
        ];
        told = rest.told;
      }
  one_more states met k y line lines said replies after q told there a rest false is = record {
    turns = rest.turns;
    each = rest.each;
    leads = subst (λ (b : Bool). LeadsTo (cond b y (states s)) rest.turns (after s)) is rest.leads;
    replied = rest.replied ∙ sym (ap (λ (b : Bool). cond b (said ∷ replies_of s lines replies) (replies_of s lines replies)) is);
    sent = rest.sent ∙ sym (ap (λ (b : Bool). map (λ (l : Line). l.1) (cond b (line ∷ filter (λ l. nat_eq l.0 s) lines) (filter (λ l. nat_eq l.0 s) lines))) is);
    written = λ j own below. elim (below_or_not j k) [
      | inl here ↦ let own_it = own_author line.0 met k (states line.0) line.1 said y a j own here in
          absurd (not_other (eq-eqb _ _ own_it.0) is)
      | inr later ↦ rest.written j (later_own met k j later own) below
    ];
    told = rest.told;
  }
    where
      not_other : {b : Bool} → b ≡ true → b ≡ false → ⊥
      not_other p r = cc

  runs_turns : (states : ℕ → State) (met : ℕ) (lines : List Line) (replies : List (List Reply)) (after : ℕ → State) (q : ℕ)
      → ((t : ℕ) → (states t).told ≤ met) → q ≤ length log.entries
      → Runs log base states met lines replies after q → Turns (states s) met lines replies (after s) q
  runs_turns states met [] [] after q told le r =
      let same : after s ≡ states s = ap (λ (f : ℕ → State). f s) r.0 in
      let e = r.1 in
      record {
        turns = [];
        each = λ i x below. absurd (omega arith);
        leads = same;
        replied = refl;
        sent = refl;
        written = λ k own below. let f = own.later in absurd (omega arith);
        told = let f = ap (λ (x : State). x.told) same in let g = told s in omega arith;
      }
  runs_turns states met [] (said ∷ replies) after q told le r = absurd r
  runs_turns states met (line ∷ lines) [] after q told le r = absurd r
  runs_turns states met (line ∷ lines) (said ∷ replies) after q told le r =
      let first = answered_up log base line.0 met r.0 (states line.0) line.1 said r.1 r.2 in
      let others = runs_up log base (with_state states line.0 r.1) r.0 lines replies after q r.3 in
      one_more states met r.0 r.1 line lines said replies after q (told s) (omega arith) r.2
      (runs_turns (with_state states line.0 r.1) r.0 lines replies after q (λ t. next_told t (nat_eq line.0 t)) le r.3)
      (nat_eq line.0 s) refl
    where
      next_told : (t : ℕ) (b : Bool) → (cond b r.1 (states t)).told ≤ r.0
      next_told t true = answered_told line.0 met r.0 (states line.0) line.1 said r.1 (told line.0) r.2
      next_told t false = let first = answered_up log base line.0 met r.0 (states line.0) line.1 said r.1 r.2 in let h = told t in omega arith

-- ---- the answered lines are the first ones

module _ (s : ℕ) where
  replies_taken : (lines : List Line) (replies : List (List Reply)) → replies_of s (take (length replies) lines) replies ≡ replies_of s lines replies
  replies_taken [] [] = refl
  replies_taken [] (said ∷ replies) = refl
  replies_taken (line ∷ lines) [] = refl
  replies_taken (line ∷ lines) (said ∷ replies) = ap (λ (rs : List (List Reply)). cond (nat_eq line.0 s) (said ∷ rs) rs) (replies_taken lines replies)

  -- the session's commands behind one line more
  abbrev and_command : Bool → Line → List Line → List Command
  and_command b line lines = map (λ (l : Line). l.1) (cond b (line ∷ filter (λ l. nat_eq l.0 s) lines) (filter (λ l. nat_eq l.0 s) lines))

  commands_taken : (lines : List Line) (replies : List (List Reply)) → commands_of s (take (length replies) lines) ≡ take (length (replies_of s lines replies)) (commands_of s lines)
  commands_taken [] [] = refl
  commands_taken [] (said ∷ replies) = refl
  commands_taken (line ∷ lines) [] = refl
  commands_taken (line ∷ lines) (said ∷ replies) =
      let rest = commands_taken lines replies in
      elim (nat_eq line.0 s) as (λ (b : Bool). and_command b line (take (length replies) lines)
      ≡ take (length (cond b (said ∷ replies_of s lines replies) (replies_of s lines replies))) (and_command b line lines)) [
        | true ↦ ap (λ (cs : List Command). line.1 ∷ cs) rest
        | false ↦ rest
      ]

  commands_dropped : (lines : List Line) (replies : List (List Reply)) → drop (length (replies_of s lines replies)) (commands_of s lines) ≡ commands_of s (drop (length replies) lines)
  commands_dropped [] [] = refl
  commands_dropped [] (said ∷ replies) = refl
  commands_dropped (line ∷ lines) [] = refl
  commands_dropped (line ∷ lines) (said ∷ replies) =
      let rest = commands_dropped lines replies in
      elim (nat_eq line.0 s) as (λ (b : Bool). drop (length (cond b (said ∷ replies_of s lines replies) (replies_of s lines replies))) (and_command b line lines)
      ≡ commands_of s (drop (length replies) lines)) [
        | true ↦ rest
        | false ↦ rest
      ]

-- ---- the law

ends_there : (log : Log) (states : ℕ → State) (written : ℕ) (rest : List Line) → EndsAt log states written rest → written ≤ length log.entries
ends_there log states written [] ends = let e = ends in omega arith
ends_there log states written (line ∷ lines) (inl ends) = let e = ends in omega arith
ends_there log states written (line ∷ lines) (inr left) = let e = left.0 in omega arith

module _ (log : Log) (base faults : ℕ) (lines : List Line) (replies : List (List Reply)) (s : ℕ) (serial : Serial log base faults lines replies) where
  abbrev answered : List Line
  answered = take (length replies) lines

  turns_of : Turns log base s new_session 0 answered replies (serial.states s) serial.written
  turns_of =
      runs_turns log base s (λ t. new_session) 0 answered replies serial.states serial.written (λ t. omega arith)
      (ends_there log serial.states serial.written (drop (length replies) lines) serial.ends) serial.answered

  abbrev speaks : Speaks log base s (commands_of s lines) (replies_of s lines replies)
  speaks = record {
    start = 0;
    there = omega arith;
    turns = turns_of.turns;
    each = turns_of.each;
    state = serial.states s;
    leads = turns_of.leads;
    replied = turns_of.replied ∙ replies_taken s lines replies;
    sent = turns_of.sent ∙ commands_taken s lines replies;
  }

  -- what is to be shown of the session's entries
  abbrev AreHers : List Command → Type 0
  AreHers rest = AreWritten log s 0 turns_of.turns
      ⊎ ((last : ℕ) × IsNextLeft log s last (serial.states s) rest × AreWrittenBut log s 0 turns_of.turns last)

  all_written : length log.entries ≡ serial.written → AreWritten log s 0 turns_of.turns
  all_written e k own = let below = slice_get_within log.entries k own.entry own.is in turns_of.written k own (omega arith)

  module _ (line : Line) (more : List Line) (e : length log.entries ≡ serial.written + 1) (left : HasLeft log line.0 serial.written (serial.states line.0) line.1) where
    -- the entry that was left is of the line's session
    left_by : (k : ℕ) (own : IsOwn log s 0 k) → serial.written ≤ k → (k ≡ serial.written) × (line.0 ≡ s)
    left_by k own above =
        let below = slice_get_within log.entries k own.entry own.is in
        let here : k ≡ serial.written = omega arith in
        let is : slice_get log.entries serial.written ≡ Some own.entry = subst (λ (n : ℕ). slice_get log.entries n ≡ Some own.entry) here own.is in
        let same : Some own.entry ≡ Some (record { author = line.0; group = _ }) = sym is ∙ left.written.entry in
        let by : own.entry.author ≡ line.0 = cc in
        (here, sym by ∙ own.by)

    by_left : (b : Bool) → nat_eq line.0 s ≡ b → AreHers (and_command s b line more)
    by_left true is =
        let same : line.0 ≡ s = eqb-true _ _ is in
        inr (
          serial.written,
          record {
            left = subst (λ (n : ℕ). HasLeft log n serial.written (serial.states n) line.1) same left;
            last = λ j own. let below = slice_get_within log.entries j own.entry own.is in let f = own.later in omega arith;
          },
          λ k own. elim (below_or_not log base s k serial.written) [
            | inl below ↦ inl (turns_of.written k own below)
            | inr above ↦ inr (left_by k own above).0
          ],
        )
    by_left false is = inl (λ k own. elim (below_or_not log base s k serial.written) [
      | inl below ↦ turns_of.written k own below
      | inr above ↦ absurd (no_other (eq-eqb _ _ (left_by k own above).1) is)
    ])
      where
        no_other : {b : Bool} → b ≡ true → b ≡ false → ⊥
        no_other p r = cc

  are_hers : (rest : List Line) → EndsAt log serial.states serial.written rest → AreHers (commands_of s rest)
  are_hers [] e = inl (all_written e)
  are_hers (line ∷ more) (inl e) = inl (all_written e)
  are_hers (line ∷ more) (inr left) = by_left line more left.0 left.1 (nat_eq line.0 s) refl

  pub serial_spoken : Spoken log base s (commands_of s lines) (replies_of s lines replies)
  serial_spoken = record {
    sound = serial.sound;
    speaks = speaks;
    entries = subst AreHers (sym (commands_dropped s lines replies)) (are_hers (drop (length replies) lines) serial.ends);
  }

pub serial_is_spoken : (log : Log) (base faults : ℕ) (lines : List Line) (replies : List (List Reply)) (author : ℕ)
    → Serial log base faults lines replies → Spoken log base author (commands_of author lines) (replies_of author lines replies)
serial_is_spoken log base faults lines replies author serial = serial_spoken log base faults lines replies author serial
