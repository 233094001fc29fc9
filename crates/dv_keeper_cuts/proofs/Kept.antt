-- What was answered over fewer notes is answered over the log that a folder gives.
use Rattle.std.proofs.Common.{◌≡◌, ℕ, List, ◌++◌, Some, ap, subst, sym}
use Rattle.std.specs.Prelude.{All, slice_get}
use Rattle.std.proofs.lemmas.List.Elements.{All-weaker}
use mathlib.Core.List.{IsPrefix}
use Rattle.dv_model.specs.declared.types.Command.{Command}
use Rattle.dv_model.specs.declared.types.Entry.{Entry}
use Rattle.dv_model.specs.Journals.{Log}
use Rattle.dv_model.specs.Sessions.{State}
use Rattle.dv_model.specs.Transcripts.{HasLeft, IsTurn, Turn}
use Rattle.dv_validity.proofs.Logs.{Extends}
use Rattle.dv_shelf.specs.Folders.{Folder}
use Rattle.dv_front.specs.declared.notes.Note.{Note}
use Rattle.dv_front.specs.Notes.{entries_of}
use Rattle.dv_front.proofs.Prefixes.{prefix_trans}
use Rattle.dv_notes.specs.Logs.{AreNotesOf, log_of}
use Rattle.dv_notes.proofs.Logs.{fresh_entries, logs_extend}
use Rattle.dv_stories.proofs.Growing.{left_on, turn_on}
use Rattle.dv_tries.specs.Durable.{IsDurable}
use Rattle.dv_member.specs.Members.{Member, notes_of}
use Rattle.dv_keeper_cuts.specs.Acknowledging.{IsAcknowledged, KeepsSession}

module _ (start : Log) (base : ℕ) (notes : List Note) (are : AreNotesOf start notes) where
  -- under all notes what fewer have stays
  front_extends : (seen : List Note) → IsPrefix seen notes → Extends (log_of start seen) (log_of start notes)
  front_extends seen p =
      subst (λ (ns : List Note). Extends (log_of start seen) (log_of start ns)) p.1
      (logs_extend start seen p.0 (subst (AreNotesOf start) (sym p.1) are))

  module _ (log : Log) (goes_on : Extends (log_of start notes) log) where
    keeps : (s : Member) → IsPrefix (notes_of s) notes → KeepsSession start base log s
    keeps s begins = record {
      entries = λ k e there.
          goes_on.entry k e ((front_extends (notes_of s) begins).entry k e
          (subst (λ (es : List Entry). slice_get es k ≡ Some e) (sym (fresh_entries start (notes_of s) are.fresh)) there));
      turns = λ seen t p is.
          turn_on (log_of start notes) log goes_on base s.number t
          (turn_on (log_of start seen) (log_of start notes) (front_extends seen (prefix_trans seen (notes_of s) notes p begins)) base s.number t is);
      left = λ seen k x c p is.
          left_on (log_of start notes) log goes_on s.number k x c
          (left_on (log_of start seen) (log_of start notes) (front_extends seen (prefix_trans seen (notes_of s) notes p begins)) s.number k x c is);
    }

  pub acknowledged : (sessions : List Member) (c : Folder) → All (λ (s : Member). IsPrefix (notes_of s) notes) sessions → IsDurable start notes c → IsAcknowledged start base sessions c
  acknowledged sessions c begin durable = record {
    notes = notes;
    durable = durable;
    kept = All-weaker (λ (s : Member). IsPrefix (notes_of s) notes) (KeepsSession start base durable.log) (keeps durable.log durable.goes_on) sessions begin;
  }
