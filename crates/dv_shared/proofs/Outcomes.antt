-- Which answer a commit gives, by the session rules, and which note it leaves.
use Rattle.std.proofs.Common.{◌≡◌, inl, inr, ℕ, ◌+◌, ◌≤◌, List, [], ◌∷◌, ◌++◌, length, Some, Ok, Err, refl, sym, ◌∙◌, ap, subst, arith}
use Rattle.std.specs.Prelude.{slice_get}
use Rattle.std.proofs.lemmas.List.{length-map, length_push}
use Rattle.dv_model.specs.declared.types.Command.{Command}
use Rattle.dv_model.specs.declared.types.Entry.{Entry}
use Rattle.dv_model.specs.declared.types.Group.{Group}
use Rattle.dv_model.specs.declared.types.Mailbox.{Mailbox}
use Rattle.dv_model.specs.declared.types.Mark.{Mark}
use Rattle.dv_model.specs.declared.types.Record.{Record}
use Rattle.dv_model.specs.Journals.{IsSound, Log, mark_of}
use Rattle.dv_model.specs.Sessions.{group_of, refusal_of}
use Rattle.dv_model.specs.Transcripts.{HasWritten, Line, Wrote, refused_at, with_written}
use Rattle.dv_model.specs.Views.{View}
use Rattle.dv_validity.proofs.Logs.{written_entry, written_group, written_message}
use Rattle.dv_shelf.specs.Sees.{SeesFolder}
use Rattle.dv_front.specs.declared.notes.Note.{Note}
use Rattle.dv_groups.specs.Groups.{HasSizes}
use Rattle.dv_notes.specs.Logs.{log_of, note_of}
use Rattle.dv_notes.proofs.Logs.{fresh_entries, logs_are_sound, logs_go_on}
use Rattle.dv_plans.specs.declared.fault.StoreFault.{StoreFault}
use Rattle.dv_plans.specs.declared.fault.StoreFault.TheVariants as fault
use Rattle.dv_plans.specs.Overs.{limit_over}
use Rattle.dv_playing.specs.Playing.{Play}
use Rattle.dv_store.specs.declared.receipt.Receipt.{Receipt}
use Rattle.dv_store.specs.Commits.{Commits, CommitsQuietly, write_at}
use Rattle.dv_store.specs.States.{State}
use Rattle.dv_serving.specs.Commits.{Meets}
use Rattle.dv_serving.proofs.Allowed.{refusal_met, sound_sizes}
use Rattle.dv_tries.specs.Commits.{CommitsTold, MayCommit, selected_with, try_of, with_records}
use Rattle.dv_tries.specs.Standing.{RestsBehind, StandsBehind}
use Rattle.dv_tries.specs.Tries.{Try}
use Rattle.dv_tries.proofs.Standing.{play_with}
use Rattle.dv_shared.specs.declared.written.Written.{Written}
use Rattle.dv_shared.specs.Writing.{HasOutcome, IsNoted}

-- a log by notes has as many entries
pub many_entries : (start : Log) (notes : List Note) → start.entries ≡ [] → length (log_of start notes).entries ≡ length notes
many_entries start notes fresh = ap (λ (es : List Entry). length es) (fresh_entries start notes fresh) ∙ length-map notes (λ (n : Note). n.entry)

module _ {S C : Type 0} (start : Log) (notes : List Note) (old : State S C) (stands : StandsBehind start notes old) (author : ℕ) (c : Command) (view : View) (may : MayCommit author c view) where
  abbrev log : Log
  log = log_of start notes

  abbrev m : Mailbox
  m = old.chain.live.mailbox

  sound : IsSound log
  sound = logs_are_sound start notes stands.notes_are

  sizes : HasSizes log.guid
  sizes = sound_sizes log sound

  many : length log.entries ≡ length notes
  many = many_entries start notes stands.notes_are.fresh

  -- the limit that it meets is that of the store
  limit_is : refused_at log (length notes) (selected_with view) c m ≡ limit_over c view old.chain log.guid
  limit_is =
      let play : Play = play_with start notes old stands view in
      let line : Line = (author, c) in
      let meets : Meets play line view old = record { rotates = stands.rotates; mailbox = refl; place = stands.place; seen = refl } in
      ap (λ (k : Mark). refusal_of (selected_with view) c m log.rotates k log.guid) (ap (mark_of log) (sym many) ∙ sym stands.mark)
      ∙ refusal_met play line (selected_with view) old refl meets may.write may.allowed

  -- ---- an error

  pub error_outcome : (new : State S C) (e : StoreFault) → Commits c view old new (Err e) → HasOutcome {A = Written} start author (selected_with view) c m notes notes (Err e)
  error_outcome new (fault.Disk faults) value = let is = value.limit log.guid sizes in (limit_is ∙ is.0, is.1)
  error_outcome new fault.UidsUsedUp value = limit_is ∙ value.limit log.guid sizes
  error_outcome new (fault.TooLong bytes) value = limit_is ∙ value.limit log.guid sizes
  error_outcome new fault.NoMemory value = tt

  -- ---- a receipt

  module _ (new : State S C) (receipt : Receipt) (value : Commits c view old new (Ok receipt)) where
    abbrev g : Group
    g = receipt.group

    abbrev note : Note
    note = note_of log author c receipt.received g m

    abbrev longer : Log
    longer = with_written log author c receipt.received g m

    -- the group is the command's over the log
    module _ (group : g ≡ group_of c view m log.guid) where
      has_written : 1 ≤ length g.records → HasWritten longer author (length notes) (length notes + 1) view c m
      has_written more =
          let same : g ≡ group_of c view m longer.guid = group ∙ written_group log sound author c receipt.received g m stands.mailbox view in
          record {
            behind = refl;
            some = subst (λ (h : Group). 1 ≤ length h.records) same more;
            entry = ap (slice_get longer.entries) (sym many) ∙ written_entry log sound author c receipt.received g m stands.mailbox ∙ ap (λ (h : Group). Some (record { author = author; group = h })) same;
            message = written_message log sound author c receipt.received g m stands.mailbox;
          }

      wrote_by : (rs : List Record) → g.records ≡ rs → Wrote (log_of start (with_records notes note rs)) author (length notes) (length (with_records notes note rs)) view c m
      wrote_by [] none = inr (refl, ap (λ (h : Group). h.records) (sym group) ∙ none)
      wrote_by (r ∷ rs) some =
          let more : 1 ≤ length g.records = subst (λ (xs : List Record). 1 ≤ length xs) (sym some) (omega arith) in
          inl (subst (λ (q : ℕ). HasWritten (log_of start (notes ++ note ∷ [])) author (length notes) q view c m) (sym (length_push notes note))
          (subst (λ (l : Log). HasWritten l author (length notes) (length notes + 1) view c m) (sym (logs_go_on start notes author c receipt.received g m)) (has_written more)))

      pub receipt_outcome : (w : Written) → HasOutcome start author (selected_with view) c m notes (with_records notes note g.records) (Ok w)
      receipt_outcome w = (limit_is ∙ value.limit log.guid sizes, wrote_by g.records refl)

    -- ---- the note

    module _ (sees : SeesFolder S) (tells honest : Type 0) (upcoming : ℕ → ℕ) (tries : List Try) (told : honest → CommitsTold sees tells c view upcoming old new (Ok receipt)) (rests : honest → RestsBehind sees tells start notes tries old) where
      quiet : (h : honest) → CommitsQuietly sees log (rests h).debt (write_at author c view (told h).gives.at) old new (Ok receipt)
      quiet h = (told h).gives.is log (rests h).debt author (rests h).rests

      pub group_told : honest → g ≡ group_of c view m log.guid
      group_told h = (quiet h).group sizes

      pub is_noted : IsNoted honest tells log (try_of (length notes) author c view old upcoming) m notes (with_records notes note g.records)
      is_noted = record {
        guid = value.ok.guid;
        guids = value.ok.guids;
        received = receipt.received;
        is = ap (λ (h : Group). with_records notes (note_of log author c receipt.received h m) h.records) value.ok.group;
        known = λ h. sym value.ok.group ∙ group_told h;
        dated = λ h clock append some.
            (quiet h).received append (subst (λ (x : Group). 1 ≤ length x.records) (sym value.ok.group) some) ∙ (told h).gives.clock clock;
      }
