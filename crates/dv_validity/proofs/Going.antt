-- What was told and written stays so in a log that goes on.
use Rattle.std.proofs.Common.{◌≡◌, inl, inr, ℕ, ◌≤◌, List, [], ◌∷◌, length, Option, Some, None, sym, ◌∙◌, ap, subst, arith}
use Rattle.std.specs.Prelude.{slice_get}
use Rattle.dv_model.specs.declared.types.Command.{Command}
use Rattle.dv_model.specs.declared.types.Group.{Group}
use Rattle.dv_model.specs.declared.types.Mailbox.{Mailbox}
use Rattle.dv_model.specs.declared.types.Mark.{Mark}
use Rattle.dv_model.specs.declared.types.Reply.{Reply}
use Rattle.dv_model.specs.Journals.{HasResets, IsSound, Log, at, mark_of}
use Rattle.dv_model.specs.Mailboxes.{IsValid}
use Rattle.dv_model.specs.Sessions.{State, answer, group_of}
use Rattle.dv_model.specs.Transcripts.{Answered, IsTold, Line, Runs, Wrote, refused_at, with_state, with_written}
use Rattle.dv_model.specs.Views.{View}
use Rattle.dv_model.proofs.Transcripts.{answered_up, runs_up}
use Rattle.dv_validity.proofs.Entries.{group_is_entry}
use Rattle.dv_validity.proofs.Groups.{group_applies, uid_left}
use Rattle.dv_validity.proofs.Logs.{Extends, resets_at, valid_at, written_extends, written_sound}
use Rattle.dv_validity.specs.Entries.{IsWriteAt}

module _ (log more : Log) (on : Extends log more) where
  pub same_refusal : (k : ℕ) (m : Mailbox) (x : State) (c : Command) (r : Option Reply) → k ≤ length log.entries → at log k ≡ Some m
      → refused_at log k x c m ≡ r → refused_at more k x c m ≡ r
  same_refusal k m x c r le is e = on.refusal k m x c le is ∙ e

  pub wrote_on : (s met q : ℕ) (v : View) (c : Command) (m : Mailbox) → met ≤ length log.entries → at log met ≡ Some m → Wrote log s met q v c m → Wrote more s met q v c m
  wrote_on s met q v c m le is (inl has) = inl (record {
    behind = has.behind;
    some = subst (λ (g : Group). 1 ≤ length g.records) (on.group met m c v le is) has.some;
    entry = subst (λ (g : Group). slice_get more.entries met ≡ Some (record { author = s; group = g })) (on.group met m c v le is) (on.entry met _ has.entry);
    message = on.message s met q m c v is has;
  })
  wrote_on s met q v c m le is (inr none) = inr (none.0, ap (λ (g : Group). g.records) (sym (on.group met m c v le is)) ∙ none.1)

  pub told_on : (s met q : ℕ) (x : State) (c : Command) (replies : List Reply) (y : State) → met ≤ length log.entries → IsTold log s met q x c replies y → IsTold more s met q x c replies y
  told_on s met q x c replies y le t = record {
    before = t.before;
    was_there = on.same_at met le ∙ t.was_there;
    allowed = same_refusal met t.before x c None le t.was_there t.allowed;
    wrote = wrote_on s met q x.view c t.before le t.was_there t.wrote;
    mailbox = t.mailbox;
    is_there = on.same_at q t.seen.1 ∙ t.is_there;
    seen = (t.seen.0, omega (arith, t.seen.1, on.longer));
    is =
        ap (λ (mark : Mark). answer more.mail x c t.before q t.mailbox mark) (on.same_mark q t.seen.1)
        ∙ sym (on.same_answer q t.mailbox x c t.before (mark_of log q) t.seen.1 t.is_there)
        ∙ t.is;
  }

  pub answered_on : (base author met q : ℕ) (x : State) (c : Command) (replies : List Reply) (y : State) → met ≤ length log.entries
      → Answered log base author met q x c replies y → Answered more base author met q x c replies y
  answered_on base author met q x c replies y le (inl r) = inl (record {
    before = r.before;
    was_there = on.same_at met le ∙ r.was_there;
    line = r.line;
    refusal = same_refusal met r.before x c (Some r.line) le r.was_there r.refusal;
    one_line = r.one_line;
    nothing_written = r.nothing_written;
    stays = r.stays;
  })
  answered_on base author met q x c replies y le (inr (inl u)) = inr (inl (record {
    before = u.before;
    was_there = on.same_at met le ∙ u.was_there;
    allowed = same_refusal met u.before x c None le u.was_there u.allowed;
    touches = u.touches;
    faults = u.faults;
    above = u.above;
    one_line = u.one_line;
    nothing_written = u.nothing_written;
    stays = u.stays;
  }))
  answered_on base author met q x c replies y le (inr (inr t)) = inr (inr (told_on author met q x c replies y le t))

  -- lines that were answered stay so
  pub runs_stay_on : (base : ℕ) (states : ℕ → State) (met : ℕ) (lines : List Line) (replies : List (List Reply)) (after : ℕ → State) (q : ℕ) → q ≤ length log.entries
      → Runs log base states met lines replies after q → Runs more base states met lines replies after q
  runs_stay_on base states met [] [] after q le r = r
  runs_stay_on base states met [] (replies ∷ rest) after q le r = absurd r
  runs_stay_on base states met (line ∷ lines) [] after q le r = absurd r
  runs_stay_on base states met (line ∷ lines) (replies ∷ rest) after q le r =
      let first = answered_up log base line.0 met r.0 (states line.0) line.1 replies r.1 r.2 in
      let others = runs_up log base (with_state states line.0 r.1) r.0 lines rest after q r.3 in (
        r.0,
        r.1,
        answered_on base line.0 met r.0 (states line.0) line.1 replies r.1 (omega arith) r.2,
        runs_stay_on base (with_state states line.0 r.1) r.0 lines rest after q le r.3,
      )

-- ---- the log with the group of a write that is allowed

pub prefixes_valid : (log : Log) (k : ℕ) (m : Mailbox) → IsSound log → at log k ≡ Some m → IsValid m × HasResets m
prefixes_valid log k m sound is = (valid_at log sound k m is, resets_at log sound k m is)

pub sound_written : (log : Log) (author : ℕ) (x : State) (c : Command) (m : Mailbox) (received : ℕ) → IsSound log → IsWriteAt log author x c m
    → IsSound (with_written log author c received (group_of c x.view m log.guid) m)
sound_written log author x c m received sound write =
    let k : ℕ = length log.entries in
    let valid = valid_at log sound k m write.is_there in
    written_sound log sound author c received (group_of c x.view m log.guid) m write.is_there
    (group_is_entry c x.view m log.guid author write.command valid (resets_at log sound k m write.is_there) sound.guids write.author_is
    (uid_left x c m log.rotates (mark_of log k) log.guid valid write.allowed) write.some)
    (group_applies c x.view m log.guid write.command)

pub runs_written : (log : Log) (author : ℕ) (x : State) (c : Command) (m : Mailbox) (received base : ℕ) (states : ℕ → State) (met : ℕ) (lines : List Line) (replies : List (List Reply)) (after : ℕ → State) (q : ℕ)
    → IsSound log → IsWriteAt log author x c m → q ≤ length log.entries → Runs log base states met lines replies after q
    → Runs (with_written log author c received (group_of c x.view m log.guid) m) base states met lines replies after q
runs_written log author x c m received base states met lines replies after q sound write le runs =
    let g : Group = group_of c x.view m log.guid in
    runs_stay_on log (with_written log author c received g m) (written_extends log sound author c received g m write.is_there) base states met lines replies after q le runs
