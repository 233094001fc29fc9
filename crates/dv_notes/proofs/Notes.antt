-- Good notes, one behind another.
use Rattle.std.proofs.Common.{◌≡◌, zero, suc, true, List, [], ◌∷◌, ◌++◌, Some, refl, sym, ap, subst, ◌∙◌, take}
use Rattle.std.specs.Prelude.{IsSome, option_and_then}
use Rattle.std.proofs.lemmas.List.Concat.{flat_map-cons}
use Rattle.std.proofs.lemmas.Option.{same_Some}
use Rattle.dv_model.specs.declared.types.Entry.{Entry}
use Rattle.dv_model.specs.declared.types.Mailbox.{Mailbox}
use Rattle.dv_model.specs.declared.types.Mark.{Mark}
use Rattle.dv_model.specs.Effects.{applied}
use Rattle.dv_model.specs.Journals.{mark_behind}
use Rattle.dv_model.proofs.Transcripts.{applied_append}
use Rattle.dv_validity.proofs.Logs.{records_of}
use Rattle.dv_front.specs.declared.notes.Note.{Note}
use Rattle.dv_front.specs.Notes.{AreNotes, IsPlaced, entries_of}
use Rattle.dv_feed.specs.Feeds.{mark_from}
use Rattle.dv_notes.specs.Laws.{FrontsApply, FrontsAreGood, NotesGoOn}
use Rattle.dv_notes.specs.Logs.{mailbox_behind}

-- the mailbox behind a note and those behind it
pub mailbox_cons : (m : Mailbox) (n : Note) (notes : List Note) → mailbox_behind m (n ∷ notes) ≡ option_and_then (λ (x : Mailbox). mailbox_behind x notes) (applied m n.entry.group.records)
mailbox_cons m n notes = ap (applied m) (flat_map-cons (λ (d : Entry). d.group.records) n.entry (entries_of notes)) ∙ applied_append n.entry.group.records (records_of (entries_of notes)) m

-- where the first note leaves a mailbox
pub mailbox_on : (m after : Mailbox) (n : Note) (notes : List Note) → applied m n.entry.group.records ≡ Some after → mailbox_behind m (n ∷ notes) ≡ mailbox_behind after notes
mailbox_on m after n notes is = mailbox_cons m n notes ∙ ap (option_and_then (λ (x : Mailbox). mailbox_behind x notes)) is

pub fronts_are_good : FrontsAreGood
fronts_are_good m mark [] more good = tt
fronts_are_good m mark (n ∷ notes) more good = (good.0, good.1, (good.2.0, good.2.1, good.2.2, fronts_are_good good.2.0 _ notes more good.2.3))

pub fronts_apply : FrontsApply
fronts_apply m mark notes zero good = refl
fronts_apply m mark [] (suc k) good = refl
fronts_apply m mark (n ∷ notes) (suc k) good = subst IsSome (sym (mailbox_on m good.2.0 n (take k notes) good.2.1)) (fronts_apply good.2.0 _ notes k good.2.3)

-- notes behind others: the mailbox between, to which they are good
pub record AreBehind (m : Mailbox) (mark : Mark) (notes more : List Note) : Type 0 where
  pub last : Mailbox
  pub is : mailbox_behind m notes ≡ Some last
  pub good : AreNotes last (mark_from mark (entries_of notes)) more

pub behind : (m : Mailbox) (mark : Mark) (notes more : List Note) → AreNotes m mark (notes ++ more) → AreBehind m mark notes more
behind m mark [] more good = record { last = m; is = refl; good = good }
behind m mark (n ∷ notes) more good =
    let rest = behind good.2.0 (mark_behind true mark n.entry.group) notes more good.2.3 in
    record { last = rest.last; is = mailbox_on m good.2.0 n notes good.2.1 ∙ rest.is; good = rest.good }

pub notes_go_on : NotesGoOn
notes_go_on m mark [] n last after good is entry place gives placed =
    let same : m ≡ last = same_Some m last is in
    (entry, place, (after, subst (λ (x : Mailbox). applied x n.entry.group.records ≡ Some after) (sym same) gives, subst (λ (x : Mailbox). IsPlaced x.next_uid after.next_uid n.post) (sym same) placed, tt))
notes_go_on m mark (o ∷ notes) n last after good is entry place gives placed = (
  good.0,
  good.1,
  (
    good.2.0,
    good.2.1,
    good.2.2,
    notes_go_on good.2.0 _ notes n last after good.2.3 (sym (mailbox_on m good.2.0 o notes good.2.1) ∙ is) entry place gives placed,
  ),
)
