-- A store that stands behind notes stands behind those of its commit, over any shelf.
use Rattle.std.proofs.Common.{◌≡◌, inl, inr, ⊎_elim, ℕ, ◌+◌, ◌≤◌, Bool, true, false, List, [], ◌∷◌, ◌++◌, length, Option, Some, None, Ok, Err, refl, sym, ◌∙◌, ap, subst, arith}
use Rattle.std.proofs.lemmas.List.{length_push}
use Rattle.dv_model.specs.declared.types.Command.{Command}
use Rattle.dv_model.specs.declared.types.Entry.{Entry}
use Rattle.dv_model.specs.declared.types.Group.{Group}
use Rattle.dv_model.specs.declared.types.Mailbox.{Mailbox}
use Rattle.dv_model.specs.declared.types.Mark.{Mark}
use Rattle.dv_model.specs.declared.types.Record.{Record}
use Rattle.dv_model.specs.Effects.{applied}
use Rattle.dv_model.specs.Journals.{IsU32, Log, at, is_rotation_due, mark_behind, mark_of}
use Rattle.dv_model.specs.Sessions.{group_of}
use Rattle.dv_model.specs.Transcripts.{with_written}
use Rattle.dv_model.specs.Views.{View, empty_view}
use Rattle.dv_model.proofs.Transcripts.{mark_end}
use Rattle.dv_validity.proofs.Logs.{written_at}
use Rattle.dv_chain.specs.declared.chain.Chain.{Chain}
use Rattle.dv_front.specs.declared.notes.Note.{Note}
use Rattle.dv_front.specs.Notes.{AreNotes, IsPlaced, entries_of}
use Rattle.dv_feed.specs.Feeds.{mark_from}
use Rattle.dv_notes.specs.Logs.{AreNotesOf, log_of, note_of, post_of}
use Rattle.dv_notes.proofs.Logs.{logs_are_sound, logs_go_on, mailbox_at_end}
use Rattle.dv_notes.proofs.Notes.{notes_go_on}
use Rattle.dv_notes.proofs.Writes.{is_placed, mark_at_end}
use Rattle.dv_files.specs.declared.texts.Turn.{Turn}
use Rattle.dv_files.specs.Texts.{place_of}
use Rattle.dv_plans.specs.declared.fault.StoreFault.{StoreFault}
use Rattle.dv_plans.specs.Begins.{turns}
use Rattle.dv_playing.specs.Playing.{Play, is_empty}
use Rattle.dv_store.specs.declared.receipt.Receipt.{Receipt}
use Rattle.dv_store.specs.Commits.{Commits, StaysAs, StopsAt, begin_of}
use Rattle.dv_store.specs.States.{State}
use Rattle.dv_serving.specs.Places.{StandsAt, begin_at}
use Rattle.dv_serving.proofs.Committing.{not_empty}
use Rattle.dv_serving.proofs.Failing.{none_begun, stands_begin}
use Rattle.dv_serving.proofs.Places.{begin_here, end_here}
use Rattle.dv_tries.specs.Commits.{notes_behind, selected_with, with_records}
use Rattle.dv_tries.specs.Laws.{CommitsStand, ErrorsStand}
use Rattle.dv_tries.specs.Standing.{StandsBehind}
use Rattle.dv_tries.specs.Tries.{end_mark}

-- ---- the log with a write

-- it ends behind the group
pub written_mark : (log : Log) (author : ℕ) (c : Command) (received : ℕ) (g : Group) (m : Mailbox) → end_mark (with_written log author c received g m) ≡ mark_behind log.rotates (end_mark log) g
written_mark log author c received g m =
    let e : Entry = record { author = author; group = g } in
    ap (mark_of (with_written log author c received g m)) (length_push log.entries e) ∙ mark_end log e

-- the notes with one more, where there are records
pub with_some : (notes : List Note) (note : Note) (records : List Record) → 1 ≤ length records → notes ++ note ∷ [] ≡ with_records notes note records
with_some notes note [] more = absurd (omega (arith, more))
with_some notes note (r ∷ rs) more = refl

-- ---- a store

module _ {S C : Type 0} (start : Log) (notes : List Note) (old : State S C) (stands : StandsBehind start notes old) where
  abbrev log : Log
  log = log_of start notes

  abbrev m : Mailbox
  m = old.chain.live.mailbox

  -- the play that a store stands at, for a session with this view
  abbrev pub play_with : View → Play
  play_with view = record { log = log; mailbox = m; mark = old.mark; begun = stands.begun; states = λ s. selected_with view; used = 0 }

  -- ---- it isn't written

  pub stands_same : (new : State S C) → new.chain.live.mailbox ≡ m → new.mark ≡ old.mark → new.chain.indexid ≡ old.chain.indexid → (begun : Bool) → StandsAt begun old.mark (place_of new.chain) new.owed → StandsBehind start notes new
  stands_same new mailbox mark indexid begun place = record {
    notes_are = stands.notes_are;
    rotates = stands.rotates;
    mailbox = stands.mailbox ∙ ap Some (sym mailbox);
    mark = mark ∙ stands.mark;
    begun = begun;
    place = subst (λ (k : Mark). StandsAt begun k (place_of new.chain) new.owed) (sym mark) place;
    indexid = indexid ∙ stands.indexid;
  }

  stands_moved : (new : State S C) → place_of new.chain ≡ place_of old.chain → new.owed ≡ old.owed → StandsAt stands.begun old.mark (place_of new.chain) new.owed
  stands_moved new place owed =
      subst (λ (o : Option Turn). StandsAt stands.begun old.mark (place_of new.chain) o) (sym owed) (subst (λ (p : Mark). StandsAt stands.begun old.mark p old.owed) (sym place) stands.place)

  -- a rotation was due, and its last replace may be owed
  stands_turned : (place : Mark) (owed : Option Turn) → place ≡ old.mark → is_rotation_due true old.mark ≡ true → (begun : Bool) × StandsAt begun old.mark place owed
  stands_turned place None at due = (false, (at, refl))
  stands_turned place (Some turn) at due = (true, (due, inl (at, refl)))

  begins : begin_of old.owed old.chain ≡ begin_at old.mark
  begins = begin_here (play_with empty_view) old.owed old.chain stands.rotates stands.place

  stops : (new : State S C) → StopsAt old new → (begun : Bool) × StandsAt begun old.mark (place_of new.chain) new.owed
  stops new =
      ⊎_elim (λ same. (stands.begun, stands_moved new same.0 same.1))
      (⊎_elim
      (λ turned.
      let was = none_begun stands.begun old.mark old.owed old.chain stands.place turned.1 in
      stands_turned (place_of new.chain) new.owed (turned.0 ∙ was.0) was.2)
      (λ goes. (is_rotation_due true old.mark, stands_begin (is_rotation_due true old.mark) old.mark (place_of new.chain) new.owed refl (goes.0 ∙ begins) goes.1)))

  pub stands_stopped : (c : Command) (view : View) (new : State S C) (e : StoreFault) → Commits c view old new (Err e) → StandsBehind start notes new
  stands_stopped c view new e value = let at = stops new value.place in stands_same new value.failed value.mark value.indexid at.0 at.1

  pub stands_idle : (new : State S C) → StaysAs old new → StandsBehind start notes new
  stands_idle new stays =
      stands_same new stays.chain.mailbox stays.mark stays.chain.indexid stands.begun (stands_moved new (ap (λ l. record { file_seq = l.file_seq; offset = l.end }) stays.chain.log) stays.owed)

  -- ---- it is written

  module _ (author : ℕ) (c : Command) (view : View) (new : State S C) (receipt : Receipt) (is_u32 : IsU32 author) (value : Commits c view old new (Ok receipt)) (offset : IsU32 receipt.mark.offset) (more : 1 ≤ length receipt.group.records) where
    abbrev g : Group
    g = receipt.group

    abbrev note : Note
    note = note_of log author c receipt.received g m

    abbrev noted : List Note
    noted = notes ++ note ∷ []

    mark_is : receipt.mark ≡ mark_behind true (end_mark log) g
    mark_is =
        value.ok.mark more
        ∙ end_here (play_with view) old.owed old.chain stands.rotates stands.place g (not_empty g more)
        ∙ ap (λ (b : Bool). mark_behind b old.mark g) stands.rotates
        ∙ ap (λ (k : Mark). mark_behind true k g) stands.mark

    fits : IsU32 (mark_behind true (mark_from start.start_mark (entries_of notes)) g).offset
    fits =
        subst (λ (k : Mark). IsU32 (mark_behind true k g).offset) (mark_at_end start notes stands.notes_are.fresh stands.rotates)
        (subst (λ (k : Mark). IsU32 k.offset) mark_is offset)

    placed : IsPlaced m.next_uid new.chain.live.mailbox.next_uid (post_of log c receipt.received m)
    placed =
        is_placed log c receipt.received view m new.chain.live.mailbox value.ok.guid
        (subst (λ (h : Group). applied m h.records ≡ Some new.chain.live.mailbox) value.ok.group value.ok.gives)

    pub noted_are : AreNotesOf start noted
    noted_are = record {
      sound = stands.notes_are.sound;
      fresh = stands.notes_are.fresh;
      good = notes_go_on start.start start.start_mark notes note m new.chain.live.mailbox stands.notes_are.good (sym (mailbox_at_end start notes stands.notes_are.fresh) ∙ stands.mailbox)
          (value.ok.entry more author is_u32) fits value.ok.gives placed;
    }

    pub log_is : log_of start noted ≡ with_written log author c receipt.received g m
    log_is = logs_go_on start notes author c receipt.received g m

    pub stands_noted : StandsBehind start noted new
    stands_noted = record {
      notes_are = noted_are;
      rotates = stands.rotates;
      mailbox = subst (λ (l : Log). at l (length l.entries) ≡ Some new.chain.live.mailbox) (sym log_is)
          (written_at log (logs_are_sound start notes stands.notes_are) author c receipt.received g m stands.mailbox ∙ value.ok.gives);
      mark = value.mark ∙ mark_is ∙ ap (λ (b : Bool). mark_behind b (end_mark log) g) (sym stands.rotates) ∙ sym (written_mark log author c receipt.received g m) ∙ ap end_mark (sym log_is);
      begun = false;
      place = (sym (value.ok.place more) ∙ sym value.mark, (value.paid more).turn);
      indexid = value.indexid ∙ stands.indexid;
    }

  pub stands_committed : (author : ℕ) (c : Command) (view : View) (new : State S C) (receipt : Receipt) → IsU32 author → Commits c view old new (Ok receipt) → IsU32 receipt.mark.offset
      → StandsBehind start (notes_behind start notes author c old (Ok receipt)) new
  stands_committed author c view new receipt is_u32 value offset = by_records receipt.group.records refl
    where
      note : Note
      note = note_of log author c receipt.received receipt.group m

      by_records : (rs : List Record) → receipt.group.records ≡ rs → StandsBehind start (with_records notes note receipt.group.records) new
      by_records [] none = subst (λ (ns : List Note). StandsBehind start ns new) (ap (with_records notes note) (sym none)) (stands_idle new (value.unwritten none))
      by_records (r ∷ rs) is =
          let more : 1 ≤ length receipt.group.records = subst (λ (xs : List Record). 1 ≤ length xs) (sym is) (omega arith) in
          subst (λ (ns : List Note). StandsBehind start ns new) (with_some notes note receipt.group.records more) (stands_noted author c view new receipt is_u32 value offset more)

-- ---- laws

pub commits_stand : (S C : Type 0) → CommitsStand S C
commits_stand S C start notes author c view old new receipt stands is_u32 value offset = stands_committed start notes old stands author c view new receipt is_u32 value offset

pub errors_stand : (S C : Type 0) → ErrorsStand S C
errors_stand S C start notes c view old new e stands value = stands_stopped start notes old stands c view new e value
