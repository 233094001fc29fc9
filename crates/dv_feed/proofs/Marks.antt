-- The place behind words, entry by entry.
use Rattle.std.proofs.Common.{◌≡◌, ℕ, ◌+◌, ◌*◌, ◌/◌, ◌<◌, ◌≤◌, true, List, [], ◌∷◌, ◌++◌, length, take, drop, refl, sym, ap, subst, ◌∙◌, arith}
use Rattle.std.specs.Prelude.{All, slice_index}
use Rattle.std.proofs.lemmas.List.Concat.{flat_map-cons}
use Rattle.std.proofs.lemmas.List.Elements.{All-head, All-tail}
use Rattle.dv_model.specs.declared.types.Entry.{Entry}
use Rattle.dv_model.specs.declared.types.Mailbox.{Mailbox}
use Rattle.dv_model.specs.declared.types.Mark.{Mark}
use Rattle.dv_model.specs.Journals.{IsEntry, IsU32, mark_behind}
use Rattle.dv_model.specs.Spelling.{group_text}
use Rattle.dv_formats.specs.Feeds.{entry_words, feed_text, group_words}
use Rattle.dv_feeding.proofs.Entries.{texts_whole}
use Rattle.dv_feeding.proofs.Words.{length-words_of}
use Rattle.dv_front.specs.declared.notes.Note.{Note}
use Rattle.dv_front.specs.Notes.{AreNotes, entries_of, text_of}
use Rattle.dv_front.proofs.NoteLemmas.{are_entries}
use Rattle.dv_feed.specs.Feeds.{AreWordsFrom, IsFeed, mark_from}
use Rattle.dv_feed.specs.Marking.{mark_by}
use Rattle.dv_feed.proofs.Grouping.{head_of}

-- each entry ends at a place of 32 bits
abbrev pub AreMarked : Mark → List Entry → Type 0
AreMarked mark [] = Unit {0}
AreMarked mark (e ∷ es) = IsU32 (mark_behind true mark e.group).offset × AreMarked (mark_behind true mark e.group) es

notes_marked : (m : Mailbox) (mark : Mark) (notes : List Note) → AreNotes m mark notes → AreMarked mark (entries_of notes)
notes_marked m mark [] good = tt
notes_marked m mark (n ∷ notes) good = (good.1, notes_marked good.2.0 (mark_behind true mark n.entry.group) notes good.2.3)

-- some entries have these words, and are yet to be counted from a place on
pub record LeftFrom (mark : Mark) (rest : List ℕ) : Type 0 where
  pub left : List Entry
  pub all : All IsEntry left
  pub marked : AreMarked mark left
  pub text : rest ≡ feed_text left

pub left_first : (mark : Mark) (words : List ℕ) → AreWordsFrom mark words → LeftFrom mark words
left_first mark words w = record { left = entries_of w.notes; all = are_entries w.mailbox mark w.notes w.good; marked = notes_marked w.mailbox mark w.notes w.good; text = sym w.text }

-- of these entries the words from a place on are those of the rest, which end where all end
pub record EndsFrom (mark : Mark) (entries : List Entry) (behind : Mark) (rest : List ℕ) : Type 0 where
  pub left : List Entry
  pub all : All IsEntry left
  pub text : rest ≡ feed_text left
  pub ends : mark_from behind left ≡ mark_from mark entries

abbrev pub IsMarkedTo : Mark → List ℕ → Mark → List ℕ → Type 0
IsMarkedTo mark words behind rest = (entries : List Entry) → All IsEntry entries → feed_text entries ≡ words → EndsFrom mark entries behind rest

pub marked_first : (mark : Mark) (words : List ℕ) → IsMarkedTo mark words mark words
marked_first mark words entries all is = record { left = entries; all = all; text = sym is; ends = refl }

-- a group's text has four bytes for each of its words
four_each : (e : Entry) → IsEntry e → 4 * length (group_words e.group) ≡ length (group_text e.group)
four_each e is = omega (arith, texts_whole e.group.records is.records, length-words_of (length (group_text e.group) / 4) (group_text e.group))

-- the first of the entries that have words
pub record FirstOf (left : List Entry) (rest : List ℕ) : Type 0 where
  pub e : Entry
  pub es : List Entry
  pub is : left ≡ e ∷ es
  pub entry : IsEntry e
  pub all : All IsEntry es
  pub text : rest ≡ entry_words e ++ feed_text es

first_entry : (left : List Entry) (rest : List ℕ) → 2 ≤ length rest → All IsEntry left → rest ≡ feed_text left → FirstOf left rest
first_entry [] rest le all text = absurd (omega (arith, ap length text))
first_entry (e ∷ es) rest le all text = record { e = e; es = es; is = refl; entry = All-head IsEntry e es all; all = All-tail IsEntry e es all; text = text ∙ flat_map-cons entry_words e es }

abbrev pub count_in : List ℕ → ℕ
count_in rest = slice_index (take 2 rest) 1

-- the words behind the first entry's
abbrev pub words_behind : List ℕ → List ℕ
words_behind rest = drop (count_in rest) (drop 2 rest)

pub fits_left : (mark : Mark) (rest : List ℕ) → 2 ≤ length rest → LeftFrom mark rest → count_in rest ≤ length (drop 2 rest)
fits_left mark rest le l = let f = first_entry l.left rest le l.all l.text in let h = head_of rest f.e f.es f.text in omega (arith, h.count, h.fits)

-- the place behind the first entry
by_count : (mark : Mark) (rest : List ℕ) (e : Entry) (es : List Entry) → IsEntry e → rest ≡ entry_words e ++ feed_text es → mark_by mark (4 * count_in rest) ≡ mark_behind true mark e.group
by_count mark rest e es is text = ap (mark_by mark) (ap (λ n. 4 * n) (head_of rest e es text).count ∙ four_each e is)

pub small_left : (mark : Mark) (rest : List ℕ) → 2 ≤ length rest → LeftFrom mark rest → IsU32 (mark_by mark (4 * count_in rest)).offset
small_left mark rest le l =
    let f = first_entry l.left rest le l.all l.text in
    let marked : AreMarked mark (f.e ∷ f.es) = subst (AreMarked mark) f.is l.marked in
    subst (λ (m : Mark). IsU32 m.offset) (sym (by_count mark rest f.e f.es f.entry f.text)) marked.0

pub left_on : (mark : Mark) (rest : List ℕ) → 2 ≤ length rest → LeftFrom mark rest → LeftFrom (mark_by mark (4 * count_in rest)) (words_behind rest)
left_on mark rest le l =
    let f = first_entry l.left rest le l.all l.text in
    let h = head_of rest f.e f.es f.text in
    let marked : AreMarked mark (f.e ∷ f.es) = subst (AreMarked mark) f.is l.marked in
    record {
      left = f.es;
      all = f.all;
      marked = subst (λ m. AreMarked m f.es) (sym (by_count mark rest f.e f.es f.entry f.text)) marked.1;
      text = ap (λ k. drop k (drop 2 rest)) h.count ∙ h.behind;
    }

pub marked_on : (mark : Mark) (words : List ℕ) (behind : Mark) (rest : List ℕ) → 2 ≤ length rest → IsMarkedTo mark words behind rest
    → IsMarkedTo mark words (mark_by behind (4 * count_in rest)) (words_behind rest)
marked_on mark words behind rest le so_far entries all is =
    let l = so_far entries all is in
    let f = first_entry l.left rest le l.all l.text in
    let h = head_of rest f.e f.es f.text in
    record {
      left = f.es;
      all = f.all;
      text = ap (λ k. drop k (drop 2 rest)) h.count ∙ h.behind;
      ends = ap (λ m. mark_from m f.es) (by_count behind rest f.e f.es f.entry f.text) ∙ sym (ap (mark_from behind) f.is) ∙ l.ends;
    }

-- the end: no entry is left
pub marked_whole : (mark : Mark) (words : List ℕ) (behind : Mark) (rest : List ℕ) → length rest < 2 → IsMarkedTo mark words behind rest
    → (entries : List Entry) → All IsEntry entries → feed_text entries ≡ words → behind ≡ mark_from mark entries
marked_whole mark words behind rest lt so_far entries all is = let l = so_far entries all is in cases l.left l.text l.ends
  where
    cases : (left : List Entry) → rest ≡ feed_text left → mark_from behind left ≡ mark_from mark entries → behind ≡ mark_from mark entries
    cases [] text ends = ends
    cases (e ∷ es) text ends = absurd (omega (arith, ap length (text ∙ flat_map-cons entry_words e es)))

-- ---- laws

pub words_are_feed : (mark : Mark) (words : List ℕ) → AreWordsFrom mark words → IsFeed words
words_are_feed mark words w = record { entries = entries_of w.notes; are = are_entries w.mailbox mark w.notes w.good; text = w.text }

pub rests_are_words : (m : Mailbox) (mark : Mark) (first rest : List Note) → AreNotes m mark (first ++ rest) → AreWordsFrom (mark_from mark (entries_of first)) (text_of rest)
rests_are_words m mark [] rest good = record { mailbox = m; notes = rest; good = good; text = refl }
rests_are_words m mark (n ∷ first) rest good = rests_are_words good.2.0 (mark_behind true mark n.entry.group) first rest good.2.3
