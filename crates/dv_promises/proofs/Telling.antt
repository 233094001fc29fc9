-- A command is answered.
use Rattle.std.proofs.Common.{◌≡◌, inl, inr, ℕ, ◌+◌, ◌≤◌, Bool, true, false, cond, not, ◌&&◌, List, [], ◌∷◌, ◌++◌, length, nat_eq, Option, Some, None, refl, sym, ◌∙◌, ap, subst, arith}
use Rattle.std.specs.Prelude.{IfSome, is_some, option_map, nat_le}
use Rattle.std.proofs.lemmas.Bool.{and_parts, leb-true, or_parts}
use Rattle.std.proofs.lemmas.Bool.Decides.{nat_tests}
use Rattle.std.proofs.lemmas.List.{append_assoc, map_push}
use Rattle.std.proofs.lemmas.List.Elements.{All-push}
use Rattle.std.proofs.lemmas.List.Quantifiers.{Any-push}
use Rattle.std.proofs.lemmas.Option.{none-some, same_Some}
use Rattle.dv_model.specs.declared.types.Command.{Command}
use Rattle.dv_model.specs.declared.types.Command.TheVariants as command
use Rattle.dv_model.specs.declared.types.Mailbox.{Mailbox}
use Rattle.dv_model.specs.Journals.{Log, at, mark_of}
use Rattle.dv_model.specs.Sessions.{State, Answer, answer, group_of, missing_number, is_select, is_write}
use Rattle.dv_model.specs.Transcripts.{Turn, Wrote as HasWrote, refused_at}
use Rattle.dv_model.specs.Views.{View}
use Rattle.dv_model.proofs.Speaking.{any_before, leads_push}
use Rattle.dv_interleavings.specs.Worlds.{World, Session, Pending, Wrote, with_answer, stopped_of, told, told_numbers, is_bad, same_write, happens, Tell}
use Rattle.dv_promises.specs.Standing.{begins_at, HasAuthor, IsLive, IsToldTurn, IsTried, IsWaiting, IsWriting, Stands}
use Rattle.dv_promises.proofs.Equals.{one_write}
use Rattle.dv_promises.proofs.Small.{absent_with, author_with, each_with, if_some, live_by}
use Rattle.dv_promises.proofs.Writing.{tried_stopped}

-- ---- a command that may be answered isn't refused

not_refused : (x : State) (c : Command) (m : Mailbox) (log : Log) (k : ℕ) → is_bad x c ≡ false → is_write c ≡ false → refused_at log k x c m ≡ None
not_refused x c m log k good reads = by_number (missing_number c x.view) refl
  where
    parts : ((not x.selected && not (is_select c)) ≡ false) × (is_some (missing_number c x.view) ≡ false)
    parts = or_parts (not x.selected && not (is_select c)) (is_some (missing_number c x.view)) good

    by_number : (o : Option ℕ) → missing_number c x.view ≡ o → refused_at log k x c m ≡ None
    by_number (Some n) is = let missing : is_some (missing_number c x.view) ≡ true = rw is refl in let none = parts.1 in absurd cc
    by_number None is = rw (parts.0, is, reads) refl

pub reads_nothing : (c : Command) (v : View) (m : Mailbox) (guid : ℕ → List ℕ) → is_write c ≡ false → (group_of c v m guid).records ≡ []
reads_nothing (command.Append flags keywords message) v m guid reads = absurd cc
reads_nothing (command.Store by_uid set h flags keywords since) v m guid reads = absurd cc
reads_nothing command.Expunge v m guid reads = absurd cc
reads_nothing (command.UidRemove set) v m guid reads = absurd cc
reads_nothing command.Check v m guid reads = absurd cc
reads_nothing c v m guid reads = refl

-- ---- the turn

-- where the command may be answered: what it met, what it wrote, and that it was allowed
pub record MayTell (log : Log) (s : ℕ) (session : Session) (c : Command) (q met : ℕ) (before : Mailbox) : Type 0 where
  pub allowed : refused_at log met session.state c before ≡ None
  pub wrote : HasWrote log s met q session.state.view c before
  pub low : session.state.told ≤ met
  pub up : met ≤ q
  pub seen : q ≡ session.seen
  pub high : q ≤ length log.entries
  pub waits : (k : ℕ) → IsWaiting session.wrote k → (met ≡ k) × (q ≡ k + 1)

module _ (log : Log) (published : ℕ) (pending : Option Pending) (s : ℕ) (session : Session) (c : Command) (live : IsLive log published pending s session) (all : published ≤ length log.entries) (good : is_bad session.state c ≡ false) where
  may_read : (before : Mailbox) → session.wrote ≡ None → is_write c ≡ false → MayTell log s session c session.seen session.seen before
  may_read before none reads = record {
    allowed = not_refused session.state c before log session.seen good reads;
    wrote = inr (refl, reads_nothing c session.state.view before log.guid reads);
    low = live.told;
    up = omega arith;
    seen = refl;
    high = omega (arith, live.seen);
    waits = λ k waits. no_one session.wrote k none waits;
  }
    where
      no_one : (wrote : Option Wrote) (k : ℕ) → wrote ≡ None → IsWaiting wrote k → (session.seen ≡ k) × (session.seen ≡ k + 1)
      no_one None k none waits = absurd waits
      no_one (Some write) k none waits = absurd (none-some write (sym none))

  may_write : (before : Mailbox) (write : Wrote) → session.wrote ≡ Some write → (IsWriting log s session.state write) → write.command ≡ c → write.place ≤ session.seen → at log write.met ≡ Some before
      → MayTell log s session c write.place write.met before
  may_write before write is writing same le there =
      let one : writing.before ≡ before = same_Some writing.before before (sym writing.was_there ∙ there) in
      record {
        allowed = subst (λ c. refused_at log write.met session.state c before ≡ None) same (subst (λ m. refused_at log write.met session.state write.command m ≡ None) one writing.allowed);
        wrote = subst (λ c. HasWrote log s write.met write.place session.state.view c before) same (subst (λ m. HasWrote log s write.met write.place session.state.view write.command m) one writing.wrote);
        low = writing.told;
        up = elim writing.wrote [ inl has ↦ let e = has.behind in omega arith | inr none ↦ let e = none.0 in omega arith ];
        seen = let all : session.seen ≤ write.place = subst (λ (o : Option Wrote). IfSome o (λ (x : Wrote). session.seen ≤ x.place)) is live.loaded in omega arith;
        high = writing.there;
        waits = λ k waits. subst (λ (o : Option Wrote). IsWaiting o k) is waits;
      }

-- ---- the session behind it

module _ (log : Log) (published : ℕ) (pending other : Option Pending) (s : ℕ) (session : Session) (c : Command) (live : IsLive log published pending s session)
    (q met : ℕ) (before m : Mailbox) (may : MayTell log s session c q met before) (was_there : at log met ≡ Some before) (is_there : at log q ≡ Some m) where
  abbrev a : Answer
  a = answer log.mail session.state c before q m (mark_of log q)

  abbrev turn : Turn
  turn = record { before = session.state; command = c; met = met; behind = q; replies = a.replies; after = a.next }

  turn_told : IsToldTurn log s turn
  turn_told = record {
    met = (may.low, omega (arith, may.up, may.high));
    told = record {
      before = before;
      was_there = was_there;
      allowed = may.allowed;
      wrote = may.wrote;
      mailbox = m;
      is_there = is_there;
      seen = (omega (arith, may.low, may.up), may.high);
      is = refl;
    };
  }

  -- a pending entry that was tried before
  tried_behind : (p : Pending) → p.running ≡ false → IsTried log live.story.start live.story.turns session.state session.wrote p → IsTried log live.story.start (live.story.turns ++ turn ∷ []) a.next None p
  tried_behind p stopped tried = record {
    front = tried.front;
    back = tried.back ++ turn ∷ [];
    split = ap (λ turns. turns ++ turn ∷ []) tried.split ∙ append_assoc tried.front tried.back (turn ∷ []);
    state = tried.state;
    leads = tried.leads;
    rest = leads_push tried.state tried.back session.state turn tried.rest refl;
    attempt = tried.attempt;
    empty = tt;
    running = λ runs. absurd cc;
  }

  pub told_live : IfSome other (λ p. p.author ≡ s → (p.running ≡ false) × IsTried log live.story.start live.story.turns session.state session.wrote p)
      → IsLive log published other s (record session { state = a.next; wrote = None; answers = session.answers ++ (c, a.replies) ∷ [] })
  told_live tried = record {
    told = let e = may.seen in omega arith;
    seen = live.seen;
    story = record {
      start = live.story.start;
      there = live.story.there;
      turns = live.story.turns ++ turn ∷ [];
      each = All-push (IsToldTurn log s) live.story.turns turn live.story.each turn_told;
      leads = leads_push (begins_at live.story.start) live.story.turns session.state turn live.story.leads refl;
      answers = map_push (λ (t : Turn). (t.command, t.replies)) live.story.turns turn ∙ ap (λ answers. answers ++ (c, a.replies) ∷ []) live.story.answers;
    };
    ledger = λ k own. inl (elim (live.ledger k own) [
      | inl wrote ↦ any_before (λ (t : Turn). (t.met ≡ k) × (t.behind ≡ k + 1)) live.story.turns turn wrote
      | inr waits ↦ Any-push (λ (t : Turn). (t.met ≡ k) × (t.behind ≡ k + 1)) live.story.turns turn (may.waits k waits)
    ]);
    wrote = tt;
    loaded = tt;
    pending = if_some (λ p. p.author ≡ s → (p.running ≡ false) × IsTried log live.story.start live.story.turns session.state session.wrote p)
        (λ p. p.author ≡ s → IsTried log live.story.start (live.story.turns ++ turn ∷ []) a.next None p) other (λ p both same. tried_behind p (both same).0 (both same).1) tried;
  }

-- ---- the world behind it

module _ (w : World) (s : ℕ) where
  one_tried : (log : Log) (start : ℕ) (turns : List Turn) (last : State) (wrote : Option Wrote) (p : Pending) → (p.author ≡ s → IsTried log start turns last wrote p) → (b : Bool) → nat_eq p.author s ≡ b
      → (cond b (record p { running = false }) p).author ≡ s → ((cond b (record p { running = false }) p).running ≡ false) × IsTried log start turns last wrote (cond b (record p { running = false }) p)
  one_tried log start turns last wrote p tried true is same = (refl, tried_stopped log start turns last wrote p (tried same))
  one_tried log start turns last wrote p tried false is same = let found : nat_eq p.author s ≡ true = grind (arith, nat_tests) in absurd cc

  own_tried : (log : Log) (start : ℕ) (turns : List Turn) (last : State) (wrote : Option Wrote) (pending : Option Pending) → IfSome pending (λ p. p.author ≡ s → IsTried log start turns last wrote p)
      → IfSome (option_map (stopped_of s) pending) (λ p. p.author ≡ s → (p.running ≡ false) × IsTried log start turns last wrote p)
  own_tried log start turns last wrote None tried = tt
  own_tried log start turns last wrote (Some p) tried = one_tried log start turns last wrote p tried (nat_eq p.author s) refl

  other_tried : (log : Log) (t start : ℕ) (turns : List Turn) (last : State) (wrote : Option Wrote) (pending : Option Pending) → IfSome pending (λ p. p.author ≡ t → IsTried log start turns last wrote p)
      → IfSome (option_map (stopped_of s) pending) (λ p. p.author ≡ t → IsTried log start turns last wrote p)
  other_tried log t start turns last wrote None tried = tt
  other_tried log t start turns last wrote (Some p) tried = by_test (nat_eq p.author s)
    where
      by_test : (b : Bool) → (cond b (record p { running = false }) p).author ≡ t → IsTried log start turns last wrote (cond b (record p { running = false }) p)
      by_test true same = tried_stopped log start turns last wrote p (tried same)
      by_test false same = tried same

  still_author : (pending : Option Pending) → IfSome pending (HasAuthor w) → IfSome (option_map (stopped_of s) pending) (HasAuthor w)
  still_author None author = tt
  still_author (Some p) author = by_test (nat_eq p.author s)
    where
      by_test : (b : Bool) → HasAuthor w (cond b (record p { running = false }) p)
      by_test true = author
      by_test false = author

module _ (w : World) (s : ℕ) (c : Command) (stands : Stands w) (session : Session) (is : w.sessions s ≡ Some session) (good : is_bad session.state c ≡ false) where
  abbrev live : IsLive w.log w.published w.pending s session
  live = stands.each s session is

  may_of : (numbers : ℕ × ℕ) (before : Mailbox) → told_numbers session c ≡ Some numbers → at w.log numbers.1 ≡ Some before → MayTell w.log s session c numbers.0 numbers.1 before
  may_of numbers before e there = by_wrote session.wrote refl live.wrote
    where
      by_read : (b : Bool) → session.wrote ≡ None → is_write c ≡ b → ◌≡◌ {A = Option (ℕ × ℕ)} (cond b None (Some (session.seen, session.seen))) (Some numbers) → MayTell w.log s session c numbers.0 numbers.1 before
      by_read true none reads e = absurd cc
      by_read false none reads e =
          let one : ◌≡◌ {A = ℕ × ℕ} (session.seen, session.seen) numbers = same_Some _ numbers e in
          subst (λ (n : ℕ × ℕ). MayTell w.log s session c n.0 n.1 before) one (may_read w.log w.published w.pending s session c live stands.published good before none reads)

      by_place : (write : Wrote) → session.wrote ≡ Some write → IsWriting w.log s session.state write → (b : Bool) → (same_write write.command c && nat_le write.place session.seen) ≡ b
          → ◌≡◌ {A = Option (ℕ × ℕ)} (cond b (Some (write.place, write.met)) None) (Some numbers) → MayTell w.log s session c numbers.0 numbers.1 before
      by_place write wrote writing false may e = absurd cc
      by_place write wrote writing true may e =
          let one : ◌≡◌ {A = ℕ × ℕ} (write.place, write.met) numbers = same_Some _ numbers e in
          let both = and_parts (same_write write.command c) (nat_le write.place session.seen) may in
          subst (λ (n : ℕ × ℕ). MayTell w.log s session c n.0 n.1 before) one
          (may_write w.log w.published w.pending s session c live stands.published good before write wrote writing (one_write write.command c both.0) (leb-true write.place session.seen both.1)
          (ap (λ (n : ℕ × ℕ). at w.log n.1) one ∙ there))

      by_wrote : (o : Option Wrote) → session.wrote ≡ o → IfSome o (IsWriting w.log s session.state) → MayTell w.log s session c numbers.0 numbers.1 before
      by_wrote None none writing = by_read (is_write c) none refl (rw none at e)
      by_wrote (Some write) wrote writing = by_place write wrote writing (same_write write.command c && nat_le write.place session.seen) refl (rw wrote at e)

  stands_told : (q met : ℕ) (before m : Mailbox) → MayTell w.log s session c q met before → at w.log met ≡ Some before → at w.log q ≡ Some m
      → Stands (with_answer w s session c (answer w.log.mail session.state c before q m (mark_of w.log q)))
  stands_told q met before m may was_there is_there = record {
    sound = stands.sound;
    published = stands.published;
    each = each_with w s _ (option_map (stopped_of s) w.pending) w.log
        (told_live w.log w.published w.pending (option_map (stopped_of s) w.pending) s session c live q met before m may was_there is_there
        (own_tried w s w.log live.story.start live.story.turns session.state session.wrote w.pending live.pending))
        (λ t other differs there. let one = stands.each t other there in
        live_by w.log w.published w.published w.pending (option_map (stopped_of s) w.pending) t other (omega arith) one
        (other_tried w s w.log t one.story.start one.story.turns other.state other.wrote w.pending one.pending));
    absent = λ t k none own. stands.absent t k (absent_with w s _ t none) own;
    author = if_some (HasAuthor w) _ (option_map (stopped_of s) w.pending) (author_with w s _) (still_author w s w.pending stands.author);
  }

  -- what holds of the world as it was and of that with the answer holds of the world behind
  module _ (P : World → Type 0) (stays : P w)
      (answered : (q met : ℕ) (before m : Mailbox) → MayTell w.log s session c q met before → at w.log met ≡ Some before → at w.log q ≡ Some m
      → P (with_answer w s session c (answer w.log.mail session.state c before q m (mark_of w.log q)))) where
    by_mailbox : (numbers : ℕ × ℕ) (before : Mailbox) → told_numbers session c ≡ Some numbers → at w.log numbers.1 ≡ Some before → (o : Option Mailbox) → at w.log numbers.0 ≡ o → P (told w s c)
    by_mailbox numbers before may was_there None is_there = rw (is, good, may, was_there, is_there) stays
    by_mailbox numbers before may was_there (Some m) is_there =
        rw (is, good, may, was_there, is_there) (answered numbers.0 numbers.1 before m (may_of numbers before may was_there) was_there is_there)

    by_met : (numbers : ℕ × ℕ) → told_numbers session c ≡ Some numbers → (o : Option Mailbox) → at w.log numbers.1 ≡ o → P (told w s c)
    by_met numbers may None was_there = rw (is, good, may, was_there) stays
    by_met numbers may (Some before) was_there = by_mailbox numbers before may was_there (at w.log numbers.0) refl

    by_numbers : (o : Option (ℕ × ℕ)) → told_numbers session c ≡ o → P (told w s c)
    by_numbers None may = rw (is, good, may) stays
    by_numbers (Some numbers) may = by_met numbers may (at w.log numbers.1) refl

pub told_by : (w : World) (s : ℕ) (c : Command) → Stands w → (P : World → Type 0) → P w
    → ((session : Session) (q met : ℕ) (before m : Mailbox) → w.sessions s ≡ Some session → is_bad session.state c ≡ false → MayTell w.log s session c q met before → at w.log met ≡ Some before → at w.log q ≡ Some m
    → P (with_answer w s session c (answer w.log.mail session.state c before q m (mark_of w.log q))))
    → P (told w s c)
told_by w s c stands P stays answered = by_session (w.sessions s) refl
  where
    by_bad : (session : Session) → w.sessions s ≡ Some session → (b : Bool) → is_bad session.state c ≡ b → P (told w s c)
    by_bad session is true bad = rw (is, bad) stays
    by_bad session is false good = by_numbers w s c stands session is good P stays (λ q met before m. answered session q met before m is good) (told_numbers session c) refl

    by_session : (o : Option Session) → w.sessions s ≡ o → P (told w s c)
    by_session None is = rw is stays
    by_session (Some session) is = by_bad session is (is_bad session.state c) refl

pub tells : (w : World) (s : ℕ) (c : Command) → Stands w → Stands (happens w (Tell s c))
tells w s c stands = told_by w s c stands Stands stands (λ session q met before m is good. stands_told w s c stands session is good q met before m)
