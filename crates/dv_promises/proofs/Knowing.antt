-- Behind each turn a client that listened has the session's view.
use Rattle.std.proofs.Common.{◌≡◌, ◌⊎◌, inl, ℕ, ◌≤◌, Bool, true, false, List, [], ◌∷◌, ◌++◌, Some, None, refl, sym, ◌∙◌, ap, subst, arith}
use Rattle.std.specs.Prelude.{All, Contains, flat_map, fold}
use Rattle.std.proofs.lemmas.List.{append-nil}
use Rattle.std.proofs.lemmas.List.Elements.{All-head, All-tail, All-weaker}
use Rattle.std.proofs.lemmas.List.Sums.{fold-append}
use Rattle.dv_model.specs.declared.types.Command.{Command}
use Rattle.dv_model.specs.declared.types.Command.TheVariants as command
use Rattle.dv_model.specs.declared.types.Mailbox.{Mailbox}
use Rattle.dv_model.specs.declared.types.Mark.{Mark}
use Rattle.dv_model.specs.declared.types.Reply.{Reply}
use Rattle.dv_model.specs.declared.types.Reply.TheVariants as reply
use Rattle.dv_model.specs.declared.types.Step.{Step}
use Rattle.dv_model.specs.declared.types.Step.TheVariants.{Held, Full}
use Rattle.dv_model.specs.Journals.{Log, IsSound, Mail, at, mark_of}
use Rattle.dv_model.specs.Laws.{Follows, IsReadIn}
use Rattle.dv_model.specs.Sessions.{Answer, State, answer, data_of, ending_of, is_select, step_of, told_of}
use Rattle.dv_model.specs.Transcripts.{LeadsTo, Turn, refused_at}
use Rattle.dv_model.specs.Views.{Known, View, all_heard, empty_view, heard, known_of, moved, said, shown, shows_uid}
use Rattle.dv_model.proofs.Clients.{client_has_view}
use Rattle.dv_validity.proofs.Following.{following_stays}
use Rattle.dv_promises.specs.Standing.{IsToldTurn}
use Rattle.dv_promises.proofs.Hearing.{data_known, ending_heard, select_heard}
use Rattle.dv_validity.proofs.Logs.{leads_at, valid_at}
use Rattle.dv_promises.proofs.Views.{full_read, full_shows, moved_read, moved_shows, shows_its_uid}

-- a session that was told of a mailbox, and a client that has its view
pub record Knows (log : Log) (x : State) (heard_so_far : List Known) : Type 0 where
  pub mailbox : Mailbox
  pub is : at log x.told ≡ Some mailbox
  pub read : IsReadIn mailbox x.view
  pub rows : All (λ row. Contains x.view.rows (shown row)) mailbox.rows
  pub next_uid : x.view.next_uid ≤ mailbox.next_uid
  pub client : heard_so_far ≡ known_of mailbox x.view

-- ---- a command that isn't SELECT was of a selected session

pub is_selected : (log : Log) (k : ℕ) (x : State) (c : Command) (m : Mailbox) → is_select c ≡ false → refused_at log k x c m ≡ None → x.selected ≡ true
is_selected log k x c m other allowed = by_test x.selected refl
  where
    by_test : (b : Bool) → x.selected ≡ b → x.selected ≡ true
    by_test true is = is
    by_test false is = let refused : refused_at log k x c m ≡ Some reply.NotSelected = rw (is, other) refl in absurd cc

-- ---- one turn

module _ (log : Log) (sound : IsSound log) where
  pub follows_later : (x : State) (client : List Known) (knows : Knows log x client) (q : ℕ) (m : Mailbox) → x.told ≤ q → at log q ≡ Some m → Follows knows.mailbox x.view m
  follows_later x client knows q m le is =
      let leads = leads_at log sound x.told q knows.mailbox m le knows.is is in
      following_stays knows.mailbox knows.mailbox m x.view leads.records
      (record {
        valid = valid_at log sound x.told knows.mailbox knows.is;
        next_uid = knows.next_uid;
        rows = All-weaker (λ row. Contains x.view.rows (shown row)) (λ row. (shows_uid x.view row.uid ≡ true) ⊎ (x.view.next_uid ≤ row.uid)) (λ row is. inl (shows_its_uid x.view row is)) knows.mailbox.rows knows.rows;
        more = [];
        names = sym (append-nil knows.mailbox.keywords);
      })
      leads.range leads.is

  -- what a client hears of an answer to another command than SELECT
  other_heard : (mail : ℕ → Mail) (x : State) (c : Command) (client : List Known) (knows : Knows log x client) (met m : Mailbox) (q : ℕ) (mark : Mark) → is_select c ≡ false → x.told ≤ q → at log q ≡ Some m
      → all_heard client (data_of mail c x.view m ++ said m x.view (moved (step_of c) x.view m) ++ ending_of mail c x.view met m mark ∷ []) ≡ known_of m (moved (step_of c) x.view m)
  other_heard mail x c client knows met m q mark other le is =
      let follows = follows_later x client knows q m le is in
      let lines : List Reply = data_of mail c x.view m in
      let told : List Reply = said m x.view (moved (step_of c) x.view m) in
      let last : Reply = ending_of mail c x.view met m mark in
      fold-append heard client (lines ++ told) (last ∷ [])
      ∙ ending_heard mail c x.view met m mark (fold heard client (lines ++ told))
      ∙ fold-append heard client lines told
      ∙ ap (λ known. fold heard known told) (ap (λ known. fold heard known lines) knows.client ∙ data_known knows.mailbox m x.view knows.read follows.more follows.names mail c)
      ∙ client_has_view (step_of c) knows.mailbox m x.view knows.read follows

  module _ (mail : ℕ → Mail) (x : State) (met m : Mailbox) (q : ℕ) (mark : Mark) (is : at log q ≡ Some m) where
    pub select_knows : (client : List Known) → Knows log (answer mail x command.Select met q m mark).next (all_heard client (answer mail x command.Select met q m mark).replies)
    select_knows client =
        let valid = valid_at log sound q m is in
        let view : View = moved Full empty_view m in
        let last : Reply = ending_of mail command.Select empty_view met m mark in
        record {
          mailbox = m;
          is = is;
          read = full_read m valid;
          rows = full_shows m.rows;
          next_uid = omega arith;
          client =
              fold-append heard client (told_of command.Select m empty_view view) (last ∷ [])
              ∙ ending_heard mail command.Select empty_view met m mark (fold heard client (told_of command.Select m empty_view view))
              ∙ select_heard m view client;
        }

    pub other_knows : (c : Command) (client : List Known) → is_select c ≡ false → x.told ≤ q → Knows log x client → Knows log (answer mail x c met q m mark).next (all_heard client (answer mail x c met q m mark).replies)
    other_knows command.Select client other le knows = absurd cc
    other_knows c client other le knows =
        let follows = follows_later x client knows q m le is in
        record {
          mailbox = m;
          is = is;
          read = moved_read knows.mailbox m x.view knows.read follows (step_of c);
          rows = moved_shows (step_of c) knows.mailbox m x.view follows;
          next_uid = same (step_of c);
          client = other_heard mail x c client knows met m q mark other le is;
        }
      where
        same : (step : Step) → (moved step x.view m).next_uid ≤ m.next_uid
        same Held = omega arith
        same Full = omega arith

  -- a client that has the view, once it is selected
  abbrev pub KnowsSelected : State → List Known → Type 0
  KnowsSelected x client = x.selected ≡ true → Knows log x client

  pub turn_knows : (s : ℕ) (t : Turn) (client : List Known) → IsToldTurn log s t → KnowsSelected t.before client → Knows log t.after (all_heard client t.replies)
  turn_knows s t client told knows =
      let a : Answer = answer log.mail t.before t.command told.told.before t.behind told.told.mailbox (mark_of log t.behind) in
      let same : a ≡ record { replies = t.replies; next = t.after } = told.told.is in
      subst (λ (a : Answer). Knows log a.next (all_heard client a.replies)) same (by_command t.command (is_select t.command) refl told.told.allowed)
    where
      by_command : (c : Command) (b : Bool) → is_select c ≡ b → refused_at log t.met t.before c told.told.before ≡ None
          → Knows log (answer log.mail t.before c told.told.before t.behind told.told.mailbox (mark_of log t.behind)).next
          (all_heard client (answer log.mail t.before c told.told.before t.behind told.told.mailbox (mark_of log t.behind)).replies)
      by_command command.Select b is allowed = select_knows log.mail t.before told.told.before told.told.mailbox t.behind (mark_of log t.behind) told.told.is_there client
      by_command c true is allowed = absurd cc
      by_command c false is allowed =
          other_knows log.mail t.before told.told.before told.told.mailbox t.behind (mark_of log t.behind) told.told.is_there c client is told.told.seen.0
          (knows (is_selected log t.met t.before c told.told.before is allowed))

  -- ---- turns one after another

  pub turns_know : (s : ℕ) (x : State) (turns : List Turn) (y : State) (client : List Known) → All (IsToldTurn log s) turns → LeadsTo x turns y → KnowsSelected x client
      → KnowsSelected y (all_heard client (flat_map (λ t. t.replies) turns))
  turns_know s x [] y client each leads knows = subst (λ z. KnowsSelected z client) (sym leads) knows
  turns_know s x (t ∷ turns) y client each leads knows =
      let first : Knows log t.after (all_heard client t.replies) = turn_knows s t client (All-head (IsToldTurn log s) t turns each) (subst (λ z. KnowsSelected z client) (sym leads.0) knows) in
      subst (KnowsSelected y) (sym (fold-append heard client t.replies (flat_map (λ (t : Turn). t.replies) turns)))
      (turns_know s t.after turns y (all_heard client t.replies) (All-tail (IsToldTurn log s) t turns each) leads.1 (λ selected. first))
