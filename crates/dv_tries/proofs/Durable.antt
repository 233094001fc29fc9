-- A folder that gives the end of notes has each of them.
use Rattle.std.proofs.Common.{◌≡◌, inl, inr, ⊎_elim, ℕ, ◌<◌, cond, nat_eq, List, [], ◌∷◌, ◌++◌, append-nil, append_assoc, length, Option, Some, refl, sym, ◌∙◌, ap, subst, arith}
use Rattle.std.specs.Prelude.{Contains}
use Rattle.std.proofs.lemmas.Bool.{eq-eqb}
use Rattle.dv_model.specs.declared.types.Mailbox.{Mailbox}
use Rattle.dv_model.specs.declared.types.Mark.{Mark}
use Rattle.dv_model.specs.declared.types.Row.{Row}
use Rattle.dv_model.specs.Journals.{Held, Log, Mail, at}
use Rattle.dv_validity.proofs.Logs.{Extends, written_extends}
use Rattle.dv_shelf.specs.Folders.{Folder}
use Rattle.dv_front.specs.declared.notes.Note.{Note}
use Rattle.dv_front.specs.declared.notes.Post.{Post}
use Rattle.dv_front.specs.Notes.{AreNotes, IsPlaced}
use Rattle.dv_notes.specs.Logs.{AreNotesOf, guid_by, log_of, mail_by, mailbox_behind, named, posted}
use Rattle.dv_notes.proofs.Logs.{guid_append, logs_are_sound, logs_extend, mail_append, mailbox_at_end}
use Rattle.dv_notes.proofs.Notes.{fronts_are_good, mailbox_on}
use Rattle.dv_files.specs.Reading.{guid_at, mail_at}
use Rattle.dv_writing.specs.Keeping.{Gives, HasMessage}
use Rattle.dv_writing.specs.Writes.{group_by}
use Rattle.dv_tries.specs.Durable.{HasPost, IsDurable}
use Rattle.dv_tries.specs.Laws.{LastIsDurable}
use Rattle.dv_tries.specs.Tries.{GivesGroup, GivesMailbox, Try, write_by}

-- ---- the message of a note

-- the mailbox behind a note has given out the UID of its message
pub record IsGivenOut (m : Mailbox) (notes : List Note) (uid : ℕ) : Type 0 where
  pub after : Mailbox
  pub is : mailbox_behind m notes ≡ Some after
  pub low : uid < after.next_uid

given_out : (m : Mailbox) (mark : Mark) (front : List Note) (n : Note) (p : Post) → AreNotes m mark (front ++ n ∷ []) → n.post ≡ Some p → IsGivenOut m (front ++ n ∷ []) p.uid
given_out m mark [] n p good post = record {
  after = good.2.0;
  is = mailbox_on m good.2.0 n [] good.2.1;
  low = (subst (IsPlaced m.next_uid good.2.0.next_uid) post good.2.2).1;
}
given_out m mark (x ∷ front) n p good post =
    let rest = given_out good.2.0 _ front n p good.2.3 post in
    record { after = rest.after; is = mailbox_on m good.2.0 x (front ++ n ∷ []) good.2.1 ∙ rest.is; low = rest.low }

itself : {X : Type 0} (n : ℕ) (x y : X) → cond (nat_eq n n) x y ≡ x
itself n x y = rw (eq-eqb n n refl) refl

mail_there : (mail : ℕ → Mail) (front : List Note) (n : Note) (p : Post) → n.post ≡ Some p → mail_by mail (front ++ n ∷ []) p.uid ≡ Held p.message
mail_there mail front n p post =
    ap (λ (f : ℕ → Mail). f p.uid) (mail_append mail front (n ∷ [])) ∙ ap (λ (o : Option Post). posted o (mail_by mail front) p.uid) post ∙ itself p.uid (Held p.message) (mail_by mail front p.uid)

guid_there : (guid : ℕ → List ℕ) (front : List Note) (n : Note) (p : Post) → n.post ≡ Some p → guid_by guid (front ++ n ∷ []) p.uid ≡ p.guid
guid_there guid front n p post =
    ap (λ (f : ℕ → List ℕ). f p.uid) (guid_append guid front (n ∷ [])) ∙ ap (λ (o : Option Post). named o (guid_by guid front) p.uid) post ∙ itself p.uid p.guid (guid_by guid front p.uid)

-- ---- a folder that gives a log which begins with the notes

module _ (start : Log) (notes : List Note) (are : AreNotesOf start notes) (log : Log) (goes_on : Extends (log_of start notes) log) (m : Mailbox) (mark : Mark) (c : Folder) (gives : Gives log m mark c) where
  abbrev of_notes : Log
  of_notes = log_of start notes

  from_start : Extends (log_of start []) of_notes
  from_start = logs_extend start [] notes are

  start_there : (row : Row) → Contains m.rows row → row.uid < start.start.next_uid → HasMessage start row.uid c
  start_there row there low =
      let has = gives.keeps.messages row there in
      let first = from_start.messages 0 row.uid start.start (omega arith) refl low in
      let second = goes_on.messages 0 row.uid start.start (omega arith) (from_start.same_at 0 (omega arith)) low in
      record { held = has.held ∙ second.0 ∙ first.0; named = has.named ∙ second.1 ∙ first.1 }

  module _ (front back : List Note) (n : Note) (p : Post) (is : notes ≡ front ++ n ∷ back) (post : n.post ≡ Some p) where
    abbrev first : List Note
    first = front ++ n ∷ []

    parts : notes ≡ first ++ back
    parts = is ∙ sym (append_assoc front (n ∷ []) back)

    are_parts : AreNotesOf start (first ++ back)
    are_parts = subst (AreNotesOf start) parts are

    good : AreNotes start.start start.start_mark first
    good = fronts_are_good start.start start.start_mark first back are_parts.good

    out : IsGivenOut start.start first p.uid
    out = given_out start.start start.start_mark front n p good post

    abbrev k : ℕ
    k = length (log_of start first).entries

    from_first : Extends (log_of start first) of_notes
    from_first = subst (λ (ns : List Note). Extends (log_of start first) (log_of start ns)) (sym parts) (logs_extend start first back are_parts)

    there_then : at (log_of start first) k ≡ Some out.after
    there_then = mailbox_at_end start first are.fresh ∙ out.is

    post_there : (row : Row) → Contains m.rows row → row.uid ≡ p.uid → HasPost p c
    post_there row there same =
        let has = subst (λ (uid : ℕ). HasMessage log uid c) same (gives.keeps.messages row there) in
        let one = from_first.messages k p.uid out.after (omega arith) there_then out.low in
        let two = goes_on.messages k p.uid out.after from_first.longer (from_first.same_at k (omega arith) ∙ there_then) out.low in
        record {
          held = has.held ∙ two.0 ∙ one.0 ∙ mail_there start.mail front n p post;
          named = has.named ∙ two.1 ∙ one.1 ∙ guid_there start.guid front n p post;
        }

  pub durable : at log (length log.entries) ≡ Some m → IsDurable start notes c
  durable there = record {
    log = log;
    goes_on = goes_on;
    mailbox = m;
    is_there = there;
    mark = mark;
    opens = gives.opens;
    posts = λ front back n p row is post. post_there front back n p is post row;
    starts = start_there;
  }

-- ---- the end of notes

module _ (tells : Type 0) (start : Log) (notes : List Note) (are : AreNotesOf start notes) (c : Folder) where
  itself_extends : Extends (log_of start notes) (log_of start notes)
  itself_extends =
      subst (λ (ns : List Note). Extends (log_of start notes) (log_of start ns)) (append-nil notes)
      (logs_extend start notes [] (subst (AreNotesOf start) (sym (append-nil notes)) are))

  mailbox_durable : (mark : Mark) → GivesMailbox (log_of start notes) mark c → IsDurable start notes c
  mailbox_durable mark gives = durable start notes are (log_of start notes) itself_extends gives.mailbox mark c gives.gives gives.is_there

  group_durable : (t : Try) → GivesGroup tells (log_of start notes) t c → IsDurable start notes c
  group_durable t gives =
      let log : Log = log_of start notes in
      let of = gives.dated.is in
      let write = write_by t gives.dated.at in
      durable start notes are _ (written_extends log (logs_are_sound start notes are) write.author write.command write.received (group_by log write gives.met) gives.met gives.was_there)
      of.mailbox _ c of.gives of.is_there

pub last_is_durable : (tells : Type 0) → LastIsDurable tells
last_is_durable tells start notes tries c are =
    ⊎_elim (⊎_elim (mailbox_durable tells start notes are c _) (λ turned. mailbox_durable tells start notes are c _ turned.1))
    (λ any. group_durable tells start notes are c any.1 any.4.1)
