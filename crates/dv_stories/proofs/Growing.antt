-- What was answered stays so where the log goes on.
use Rattle.std.proofs.Common.{◌≡◌, inl, inr, ℕ, ◌+◌, ◌<◌, ◌≤◌, Bool, List, [], ◌∷◌, ◌++◌, length, Some, None, refl, sym, ◌∙◌, ap, subst, arith, length-append}
use Rattle.std.specs.Prelude.{All, drop, fold, slice_get, take}
use Rattle.std.proofs.lemmas.List.Elements.{All-weaker}
use Rattle.std.proofs.lemmas.Option.{slice_get_within}
use Rattle.dv_model.specs.declared.types.Command.{Command}
use Rattle.dv_model.specs.declared.types.Command.TheVariants as command
use Rattle.dv_model.specs.declared.types.Entry.{Entry}
use Rattle.dv_model.specs.declared.types.Group.{Group}
use Rattle.dv_model.specs.declared.types.Mailbox.{Mailbox}
use Rattle.dv_model.specs.declared.types.Mark.{Mark}
use Rattle.dv_model.specs.declared.types.Reply.{Reply}
use Rattle.dv_model.specs.Journals.{Log, IsSound, at, mark_behind, mark_of, new_guid}
use Rattle.dv_model.specs.Sessions.{State, refusal_of}
use Rattle.dv_model.specs.Transcripts.{HasLeft, HasWritten, IsNextLeft, IsOwn, IsTurn, KeepsMessage, Speaks, Spoken, Turn}
use Rattle.dv_model.specs.Views.{View}
use Rattle.dv_model.proofs.Speaking.{one_of_either, stays_there}
use Rattle.dv_model.proofs.Transcripts.{mark_grown}
use Rattle.dv_validity.proofs.Agreeing.{AgreeBelow, answer_agree, group_agree, refusal_agree}
use Rattle.dv_validity.proofs.Going.{answered_on, same_refusal}
use Rattle.dv_validity.proofs.Groups.{append_raises}
use Rattle.dv_validity.proofs.Logs.{Extends, entry_leads, some_at, valid_at}
use Rattle.dv_interleavings.specs.Promises.{GoesOn}
use Rattle.dv_stories.specs.Growing.{SpeaksOn}
use Rattle.dv_stories.specs.Stories.{NextLeft}

-- ---- a log that goes on extends the first one

module _ (log later : Log) (sound : IsSound log) (on : GoesOn log later) where
  mails : (k : ℕ) (m : Mailbox) → k ≤ length log.entries → at log k ≡ Some m → AgreeBelow m.next_uid log.mail later.mail
  mails k m le is uid low = sym (on.messages k uid m le is low).0

  guids : (k : ℕ) (m : Mailbox) → k ≤ length log.entries → at log k ≡ Some m → AgreeBelow m.next_uid log.guid later.guid
  guids k m le is uid low = sym (on.messages k uid m le is low).1

  marks : (k : ℕ) → k ≤ length log.entries → mark_of later k ≡ mark_of log k
  marks k le =
      ap (λ (es : List Entry). fold (λ mark e. mark_behind later.rotates mark e.group) later.start_mark (take k es)) on.entries
      ∙ ap (λ (r : Bool). fold (λ mark e. mark_behind r mark e.group) later.start_mark (take k (log.entries ++ on.more))) on.files.0
      ∙ ap (λ (first : Mark). fold (λ mark e. mark_behind log.rotates mark e.group) first (take k (log.entries ++ on.more))) on.start.1
      ∙ mark_grown log on.more k le

  message : (s k q : ℕ) (m : Mailbox) (c : Command) (v : View) → at log k ≡ Some m → HasWritten log s k q v c m → KeepsMessage later c m
  message s k q m (command.Append flags keywords text) v is has =
      let within = slice_get_within log.entries k _ has.entry in
      let behind = some_at log sound (k + 1) (omega (arith, within)) in
      let low : m.next_uid < behind.0.next_uid = append_raises flags keywords text v m behind.0 log.guid (entry_leads log sound k m behind.0 _ is has.entry behind.1) in
      let same = on.messages (k + 1) m.next_uid behind.0 (omega (arith, within)) behind.1 low in
      (same.0 ∙ has.message.0, (has.message.1.0, same.1 ∙ has.message.1.1 ∙ ap (λ (n : ℕ). new_guid n m.uid_validity m.next_uid has.message.1.0) (sym on.files.1)))
  message s k q m c v is has = tt

  pub extends_of : Extends log later
  extends_of = record {
    longer = omega (arith, ap length on.entries, length-append log.entries on.more);
    same_at = on.mailboxes;
    messages = on.messages;
    same_mark = marks;
    entry = λ k e there. subst (λ (es : List Entry). slice_get es k ≡ Some e) (sym on.entries) (stays_there log.entries on.more k e there);
    group = λ k m c v le is. group_agree m (valid_at log sound k m is) log.guid later.guid (guids k m le is) c v;
    refusal = λ k m x c le is.
        ap (λ (r : Bool). refusal_of x c m r (mark_of later k) later.guid) on.files.0
        ∙ ap (λ (mark : Mark). refusal_of x c m log.rotates mark later.guid) (marks k le)
        ∙ sym (refusal_agree m (valid_at log sound k m is) log.guid later.guid (guids k m le is) x c log.rotates (mark_of log k));
    same_answer = λ k m x c met mark le is. answer_agree m (valid_at log sound k m is) log.mail later.mail (mails k m le is) x c met k mark;
    message = message;
  }

-- ---- transcripts

module _ (log more : Log) (on : Extends log more) where
  pub turn_on : (base author : ℕ) (t : Turn) → IsTurn log base author t → IsTurn more base author t
  turn_on base author t is = record {
    met = (is.met.0, omega (arith, is.met.1, on.longer));
    answered = answered_on log more on base author t.met t.behind t.before t.command t.replies t.after is.met.1 is.answered;
  }

  module _ (base author : ℕ) (commands : List Command) (replies : List (List Reply)) where
    abbrev pub speaks_on : Speaks log base author commands replies → Speaks more base author commands replies
    speaks_on s = record {
      start = s.start;
      there = omega (arith, s.there, on.longer);
      turns = s.turns;
      each = All-weaker (IsTurn log base author) (IsTurn more base author) (turn_on base author) s.turns s.each;
      state = s.state;
      leads = s.leads;
      replied = s.replied;
      sent = s.sent;
    }

    pub speaks_stays : (s : Speaks log base author commands replies) → SpeaksOn s more
    speaks_stays s = record { speaks = speaks_on s; start = refl; turns = refl; state = refl }

  pub left_on : (author k : ℕ) (x : State) (c : Command) → HasLeft log author k x c → HasLeft more author k x c
  left_on author k x c left =
      let below : k ≤ length log.entries = omega (arith, slice_get_within log.entries k _ left.written.entry) in
      let same = on.group k left.mailbox c x.view below left.met in
      record {
        mailbox = left.mailbox;
        met = on.same_at k below ∙ left.met;
        told = left.told;
        write = left.write;
        allowed = same_refusal log more on k left.mailbox x c None below left.met left.allowed;
        written = record {
          behind = left.written.behind;
          some = subst (λ (g : Group). 1 ≤ length g.records) same left.written.some;
          entry = subst (λ (g : Group). slice_get more.entries k ≡ Some (record { author = author; group = g })) same (on.entry k _ left.written.entry);
          message = on.message author k (k + 1) left.mailbox c x.view left.met left.written;
        };
      }

  pub next_left_on : (author : ℕ) (x : State) (commands : List Command) (k : ℕ) → NextLeft log author x commands k → NextLeft more author x commands k
  next_left_on author x [] k left = left
  next_left_on author x (c ∷ commands) k left = left_on author k x c left

  module _ (author : ℕ) (own_before : (start k : ℕ) → IsOwn more author start k → IsOwn log author start k) where
    next_on : (k : ℕ) (x : State) (commands : List Command) → IsNextLeft log author k x commands → IsNextLeft more author k x commands
    next_on k x [] left = left
    next_on k x (c ∷ commands) left = record { left = left_on author k x c left.left; last = λ j own. left.last j (own_before k j own) }

    pub spoken_on : (base : ℕ) (commands : List Command) (replies : List (List Reply)) → IsSound more → Spoken log base author commands replies → Spoken more base author commands replies
    spoken_on base commands replies sound s = record {
      sound = sound;
      speaks = speaks_on base author commands replies s.speaks;
      entries = elim s.entries [
        | inl written ↦ inl (λ k own. written k (own_before s.speaks.start k own))
        | inr left ↦ inr (left.0, next_on left.0 s.speaks.state (drop (length replies) commands) left.1, λ k own. left.2 k (own_before s.speaks.start k own))
      ];
    }

-- where others wrote the new entries
pub spoken_stays : (log later : Log) (base author : ℕ) (commands : List Command) (replies : List (List Reply)) (on : GoesOn log later) → IsSound later → All (λ e. e.author ≡ author → ⊥) on.more
    → Spoken log base author commands replies → Spoken later base author commands replies
spoken_stays log later base author commands replies on sound others s = spoken_on log later (extends_of log later s.sound on) author own_before base commands replies sound s
  where
    own_before : (start k : ℕ) → IsOwn later author start k → IsOwn log author start k
    own_before start k own =
        elim (one_of_either (λ (e : Entry). e.author ≡ author → ⊥) log.entries on.more k own.entry others (subst (λ (es : List Entry). slice_get es k ≡ Some own.entry) on.entries own.is)) [
          | inl there ↦ record { later = own.later; entry = own.entry; is = there; by = own.by }
          | inr other ↦ absurd (other own.by)
        ]
