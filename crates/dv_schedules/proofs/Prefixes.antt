-- A world whose log is a prefix of another one, and what a call changes in it.
use Rattle.std.proofs.Common.{◌≡◌, ℕ, ◌≤◌, Bool, true, false, cond, not, ◌&&◌, List, [], ◌∷◌, ◌++◌, length, nat_eq, Option, Some, None, refl, sym, ◌∙◌, ap, arith}
use Rattle.std.specs.Prelude.{option_map, slice_get}
use Rattle.std.proofs.lemmas.Bool.{eq-eqb}
use Rattle.std.proofs.lemmas.Bool.Decides.{nat_tests}
use Rattle.std.proofs.lemmas.Option.{none-some}
use Rattle.dv_model.specs.declared.types.Command.{Command}
use Rattle.dv_model.specs.declared.types.Command.TheVariants as command
use Rattle.dv_model.specs.declared.types.Entry.{Entry}
use Rattle.dv_model.specs.declared.types.Group.{Group}
use Rattle.dv_model.specs.declared.types.Mailbox.{Mailbox}
use Rattle.dv_model.specs.declared.types.Mark.{Mark}
use Rattle.dv_model.specs.declared.types.Reply.{Reply}
use Rattle.dv_model.specs.declared.types.Reply.TheVariants as reply
use Rattle.dv_model.specs.Journals.{Log, Held, at, mark_of, new_guid}
use Rattle.dv_model.specs.Sessions.{Answer, State, answer, group_of, is_select, missing_number, refusal_of}
use Rattle.dv_model.specs.Transcripts.{IsTold, KeepsMessage, refused_at, with_message, with_written}
use Rattle.dv_model.specs.Views.{View}
use Rattle.dv_model.proofs.Transcripts.{at_grown, mark_grown}
use Rattle.dv_interleavings.specs.Worlds.{World, Session, is_bad, length_of, stopped_of, with_answer, with_session}

-- the log with these entries alone
abbrev pub cut : Log → List Entry → Log
cut log done = record log { entries = done }

-- the world's log has these entries, all published, and nothing is pending
pub record HasBase (log : Log) (w : World) (done : List Entry) : Type 0 where
  pub log_is : w.log ≡ cut log done
  pub pending : w.pending ≡ None
  pub published : w.published ≡ length done

-- ---- what is read in the world is what is read in the log

module _ (log : Log) (w : World) (done more : List Entry) (split : log.entries ≡ done ++ more) (b : HasBase log w done) where
  pub length_is : length_of w ≡ length done
  length_is = ap (λ (l : Log). length l.entries) b.log_is

  pub at_is : (q : ℕ) → q ≤ length done → at w.log q ≡ at log q
  at_is q le = ap (λ (l : Log). at l q) b.log_is ∙ sym (at_grown (cut log done) more q le) ∙ ap (λ (es : List Entry). at (cut log es) q) (sym split)

  mark_cut : (q : ℕ) → q ≤ length done → mark_of (cut log done) q ≡ mark_of log q
  mark_cut q le = sym (mark_grown (cut log done) more q le) ∙ ap (λ (es : List Entry). mark_of (cut log es) q) (sym split)

  pub mark_is : (q : ℕ) → q ≤ length done → mark_of w.log q ≡ mark_of log q
  mark_is q le = ap (λ (l : Log). mark_of l q) b.log_is ∙ mark_cut q le

  pub refused_is : (q : ℕ) (x : State) (c : Command) (m : Mailbox) → q ≤ length done → refused_at w.log q x c m ≡ refused_at log q x c m
  refused_is q x c m le = ap (λ (l : Log). refused_at l q x c m) b.log_is ∙ ap (λ (mark : Mark). refusal_of x c m log.rotates mark log.guid) (mark_cut q le)

  pub group_is : (c : Command) (v : View) (m : Mailbox) → group_of c v m w.log.guid ≡ group_of c v m log.guid
  group_is c v m = ap (λ (l : Log). group_of c v m l.guid) b.log_is

  -- an answer of the log is the world's
  pub answer_is : (author met q : ℕ) (x y state : State) (c : Command) (replies : List Reply) (told : IsTold log author met q x c replies y) → q ≤ length done → state ≡ x
      → answer w.log.mail state c told.before q told.mailbox (mark_of w.log q) ≡ record { replies = replies; next = y }
  answer_is author met q x y state c replies told le same =
      ap (λ (l : Log). answer l.mail state c told.before q told.mailbox (mark_of w.log q)) b.log_is
      ∙ ap (λ (mark : Mark). answer log.mail state c told.before q told.mailbox mark) (mark_is q le)
      ∙ ap (λ (z : State). answer log.mail z c told.before q told.mailbox (mark_of log q)) same
      ∙ told.is

-- a command that is allowed is none that its session refuses
pub allowed_good : (log : Log) (k : ℕ) (x : State) (c : Command) (m : Mailbox) → refused_at log k x c m ≡ None → is_bad x c ≡ false
allowed_good log k x c m allowed = by_test (not x.selected && not (is_select c)) refl (missing_number c x.view) refl
  where
    by_test : (b : Bool) → (not x.selected && not (is_select c)) ≡ b → (o : Option ℕ) → missing_number c x.view ≡ o → is_bad x c ≡ false
    by_test true is o number = let refused : refused_at log k x c m ≡ Some reply.NotSelected = rw is refl in absurd (none-some reply.NotSelected (sym allowed ∙ refused))
    by_test false is (Some n) number = let refused : refused_at log k x c m ≡ Some (reply.NoMessage n) = rw (is, number) refl in absurd (none-some (reply.NoMessage n) (sym allowed ∙ refused))
    by_test false is None number = rw (is, number) refl

-- ---- the log's next entry

-- when the message of an APPEND came
abbrev pub received_in : (log : Log) (c : Command) (m : Mailbox) → KeepsMessage log c m → ℕ
received_in log (command.Append flags keywords message) m keeps = keeps.1.0
received_in log c m keeps = 0

-- the message is the log's own
pub with_message_is : (log : Log) (done : List Entry) (c : Command) (m : Mailbox) (keeps : KeepsMessage log c m) → with_message (cut log done) c (received_in log c m keeps) m ≡ cut log done
with_message_is log done (command.Append flags keywords message) m keeps =
    λ i. record (cut log done) { mail = λ uid. same_mail uid (nat_eq uid m.next_uid) refl i; guid = λ uid. same_guid uid (nat_eq uid m.next_uid) refl i }
  where
    same_mail : (uid : ℕ) (b : Bool) → nat_eq uid m.next_uid ≡ b → cond (nat_eq uid m.next_uid) (Held message) (log.mail uid) ≡ log.mail uid
    same_mail uid true is = let e : uid ≡ m.next_uid = grind (arith, nat_tests) in rw is (sym keeps.0 ∙ ap log.mail (sym e))
    same_mail uid false is = rw is refl

    same_guid : (uid : ℕ) (b : Bool) → nat_eq uid m.next_uid ≡ b → cond (nat_eq uid m.next_uid) (new_guid log.indexid m.uid_validity m.next_uid keeps.1.0) (log.guid uid) ≡ log.guid uid
    same_guid uid true is = let e : uid ≡ m.next_uid = grind (arith, nat_tests) in rw is (sym keeps.1.1 ∙ ap log.guid (sym e))
    same_guid uid false is = rw is refl
with_message_is log done c m keeps = refl

pub with_written_is : (log : Log) (done : List Entry) (author : ℕ) (c : Command) (g : Group) (m : Mailbox) (keeps : KeepsMessage log c m)
    → with_written (cut log done) author c (received_in log c m keeps) g m ≡ cut log (done ++ record { author = author; group = g } ∷ [])
with_written_is log done author c g m keeps =
    ap (λ (l : Log). record (cut log done) { entries = done ++ record { author = author; group = g } ∷ []; mail = l.mail; guid = l.guid }) (with_message_is log done c m keeps)

-- the entry behind the first ones is the next
pub next_is : (done more : List Entry) (e one : Entry) → slice_get (done ++ e ∷ more) (length done) ≡ Some one → e ≡ one
next_is [] more e one is = cc
next_is (d ∷ done) more e one is = next_is done more e one is

-- ---- one session is changed

-- the world behind has this session, and the others as before
pub record Changes (log : Log) (w after : World) (done : List Entry) (i : ℕ) (new : Session) : Type 0 where
  pub base : HasBase log after done
  pub own : after.sessions i ≡ Some new
  pub others : (j : ℕ) → (i ≡ j → ⊥) → after.sessions j ≡ w.sessions j

pub changes_then : (log : Log) (w between after : World) (first done : List Entry) (i : ℕ) (one new : Session) → Changes log w between first i one → Changes log between after done i new → Changes log w after done i new
changes_then log w between after first done i one new a b = record { base = b.base; own = b.own; others = λ j differs. b.others j differs ∙ a.others j differs }

pub own_session : (w : World) (i : ℕ) (session : Session) → (with_session w i (Some session)).sessions i ≡ Some session
own_session w i session = rw (eq-eqb i i refl) refl

pub other_session : (w : World) (i j : ℕ) (o : Option Session) → (i ≡ j → ⊥) → (with_session w i o).sessions j ≡ w.sessions j
other_session w i j o differs = by_test (nat_eq i j) refl
  where
    by_test : (b : Bool) → nat_eq i j ≡ b → cond b o (w.sessions j) ≡ w.sessions j
    by_test true same = absurd (differs (grind (arith, nat_tests)))
    by_test false other = refl

-- a session that is answered
pub answered_changes : (log : Log) (w : World) (done : List Entry) (b : HasBase log w done) (i : ℕ) (session : Session) (c : Command) (a : Answer) (replies : List Reply) (y : State) → a ≡ record { replies = replies; next = y }
    → Changes log w (with_answer (with_session w i (Some session)) i session c a) done i (record session { state = y; wrote = None; answers = session.answers ++ (c, replies) ∷ [] })
answered_changes log w done b i session c a replies y is = record {
  base = record { log_is = b.log_is; pending = ap (option_map (stopped_of i)) b.pending; published = b.published };
  own = own_session (with_session w i (Some session)) i (record session { state = a.next; wrote = None; answers = session.answers ++ (c, a.replies) ∷ [] })
      ∙ ap (λ (a : Answer). Some (record session { state = a.next; wrote = None; answers = session.answers ++ (c, a.replies) ∷ [] })) is;
  others = λ j differs. other_session (with_session w i (Some session)) i j _ differs ∙ other_session w i j (Some session) differs;
}
