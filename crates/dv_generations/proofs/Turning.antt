-- Generations behind a publish, and behind a next table.
use Rattle.std.proofs.Common.{◌≡◌, ℕ, suc, ◌+◌, ◌-◌, ◌/◌, Bool, false, true, List, [], ◌∷◌, ◌++◌, length, Option, None, Some, refl, sym, ap, subst, ◌∙◌, append_assoc, append-nil, arith, length-append}
use Rattle.std.proofs.lemmas.List.Elements.{All-push}
use Rattle.atomic_table.specs.Seated.{TableId}
use Rattle.dv_model.specs.Spelling.{group_text}
use Rattle.dv_formats.specs.Feeds.{entry_words, group_words}
use Rattle.dv_feeding.proofs.Words.{length-words_of}
use Rattle.dv_front.specs.declared.notes.Generation.{Generation}
use Rattle.dv_front.specs.declared.notes.Note.{Note}
use Rattle.dv_front.specs.declared.notes.Origin.{Origin}
use Rattle.dv_front.specs.Ends.{PenView, knowledge, new_pass, new_pen, next_generation, published, with_seal}
use Rattle.dv_front.specs.Notes.{AreGood, AreNotes, text_of}
use Rattle.dv_front.proofs.NoteLemmas.{text_append}
use Rattle.dv_feed.specs.Publishing.{with_entry}
use Rattle.dv_generations.specs.declared.ends.Ends.{Ends}
use Rattle.dv_generations.specs.Feeds as feeds
use Rattle.dv_generations.specs.Feeds.{Feed, NextView, joined, journal, turned, with_last}
use Rattle.dv_generations.specs.Linked.{AreGenerations, AreLinked, IsLinked, IsNew, parts_in, tables_in}
use Rattle.dv_generations.proofs.Linking.{joined_last, link_newest, newest_linked, parts_last, tables_last, with_last_is}

-- a next table changes no notes
pub turned_journal : (f : Feed) (next : Option NextView) → journal (turned f next) ≡ journal f
turned_journal f None = refl
turned_journal f (Some n) = joined_last f.parts [] ∙ append-nil (joined f.parts)

-- an entry's words are two, and those of its group
pub entry_long : (note : Note) (text : List ℕ) → group_text note.entry.group ≡ text → length (entry_words note.entry) ≡ length text / 4 + 2
entry_long note text is =
    let words : length (group_words note.entry.group) ≡ length text / 4 = length-words_of (length (group_text note.entry.group) / 4) (group_text note.entry.group) ∙ ap (λ (t : List ℕ). length t / 4) is in
    omega (arith, words)

pub parts_count : (es : List Ends) → length (parts_in es) ≡ length es
parts_count [] = refl
parts_count (x ∷ es) = ap suc (parts_count es)

module _ (origin : Origin) (count : ℕ) (older : List Ends) (newest : Ends) (tables : List TableId) (are : AreGenerations origin count older newest tables) where
  -- the newest goes on from the older ones
  pub newest_link : AreLinked origin count 0 [] older × IsLinked origin count (length older) (joined (parts_in older)) newest
  newest_link = newest_linked origin count older newest are.linked

  -- what the newest knows together with those before it
  pub newest_knows : newest.pen.generation.base ++ newest.pen.notes ≡ joined (parts_in (older ++ newest ∷ []))
  newest_knows =
      ap (λ (g : Generation). g.base ++ newest.pen.notes) newest_link.1.generation
      ∙ sym (joined_last (parts_in older) newest.pen.notes)
      ∙ ap joined (sym (parts_last older newest))

  -- in the place of the newest one that goes on from the same
  pub in_place : (e : Ends) → IsLinked origin count (length older) (joined (parts_in older)) e → e.pen.sealed ≡ false → e.pen.table ≡ newest.pen.table → AreGenerations origin count older e tables
  in_place e link unsealed table = record {
    linked = link_newest origin count older e newest_link.0 link;
    sealed = are.sealed;
    last = unsealed;
    named = are.named ∙ tables_last older newest ∙ ap (λ (t : TableId). tables_in older ++ t ∷ []) (sym table) ∙ sym (tables_last older e);
  }

  -- the newest has a note more
  pub published_on : (note : Note) (pen : PenView) → pen ≡ with_entry newest.pen note → AreGenerations origin count older (record newest { pen = pen }) tables
  published_on note pen is =
      let link = newest_link.1 in
      let put : newest.pen.put ++ entry_words note.entry ≡ text_of (newest.pen.notes ++ note ∷ []) =
      ap (λ (ws : List ℕ). ws ++ entry_words note.entry) link.put
      ∙ ap (λ (ws : List ℕ). text_of newest.pen.notes ++ ws) (sym (append-nil (entry_words note.entry)))
      ∙ sym (text_append newest.pen.notes (note ∷ [])) in
      subst (λ (p : PenView). AreGenerations origin count older (record newest { pen = p }) tables) (sym is)
      (in_place (record newest { pen = with_entry newest.pen note }) record { generation = link.generation; put = put; pass = link.pass } are.last refl)

  -- what is good behind all notes is good behind the newest's
  pub good_on : (note : Note) (xs : List Note) → joined (parts_in (older ++ newest ∷ [])) ≡ xs → AreNotes origin.mailbox origin.mark (xs ++ note ∷ []) → AreGood newest.pen.generation (newest.pen.notes ++ note ∷ [])
  good_on note xs is good =
      let start : newest.pen.generation.origin ≡ origin = ap (λ (g : Generation). g.origin) newest_link.1.generation in
      let notes : newest.pen.generation.base ++ (newest.pen.notes ++ note ∷ []) ≡ xs ++ note ∷ [] =
      sym (append_assoc newest.pen.generation.base newest.pen.notes (note ∷ [])) ∙ ap (λ (l : List Note). l ++ note ∷ []) (newest_knows ∙ is) in
      subst (λ (o : Origin). AreNotes o.mailbox o.mark (newest.pen.generation.base ++ (newest.pen.notes ++ note ∷ []))) (sym start)
      (subst (AreNotes origin.mailbox origin.mark) (sym notes) good)

  -- what contracts see behind a publish
  pub published_view : (note : Note) (pen : PenView) (words spare size : ℕ) (kept : Bool) → pen ≡ with_entry newest.pen note → length (entry_words note.entry) ≡ words + 2
      → ◌≡◌ {A = Feed} record { parts = parts_in (older ++ record newest { pen = pen } ∷ []); left = pen.generation.room - length pen.put; spare = spare; words = size; pass = kept }
      (feeds.published words note record { parts = parts_in (older ++ newest ∷ []); left = newest.pen.generation.room - length newest.pen.put; spare = spare; words = size; pass = kept })
  published_view note pen words spare size kept is long =
      let notes : pen.notes ≡ newest.pen.notes ++ note ∷ [] = ap (λ (p : PenView). p.notes) is in
      let parts : parts_in (older ++ record newest { pen = pen } ∷ []) ≡ with_last (parts_in (older ++ newest ∷ [])) note =
      parts_last older (record newest { pen = pen }) ∙ ap (λ (l : List Note). parts_in older ++ l ∷ []) notes
      ∙ sym (with_last_is (parts_in older) newest.pen.notes note) ∙ ap (λ (ps : List (List Note)). with_last ps note) (sym (parts_last older newest)) in
      let room : pen.generation.room ≡ newest.pen.generation.room = ap (λ (p : PenView). p.generation.room) is in
      let put : length pen.put ≡ length newest.pen.put + length (entry_words note.entry) = ap (λ (p : PenView). length p.put) is ∙ length-append newest.pen.put (entry_words note.entry) in
      let left : pen.generation.room - length pen.put ≡ newest.pen.generation.room - length newest.pen.put - (words + 2) = omega (arith, room, put, long) in
      (λ i. record { parts = parts i; left = left i; spare = spare; words = size; pass = kept })

  pub published_journal : (note : Note) (pen : PenView) → pen ≡ with_entry newest.pen note → joined (parts_in (older ++ record newest { pen = pen } ∷ [])) ≡ joined (parts_in (older ++ newest ∷ [])) ++ note ∷ []
  published_journal note pen is =
      let notes : pen.notes ≡ newest.pen.notes ++ note ∷ [] = ap (λ (p : PenView). p.notes) is in
      ap joined (parts_last older (record newest { pen = pen })) ∙ joined_last (parts_in older) pen.notes ∙ ap (λ (l : List Note). joined (parts_in older) ++ l) notes
      ∙ sym (append_assoc (joined (parts_in older)) newest.pen.notes (note ∷ []))
      ∙ ap (λ (l : List Note). l ++ note ∷ []) (sym (joined_last (parts_in older) newest.pen.notes) ∙ ap joined (sym (parts_last older newest)))

  -- a new table is for the generation behind all of these
  pub next_is_new : (e : Ends) (words : ℕ) → e.pen ≡ new_pen e.pen.table (next_generation words (knowledge newest.pen)) → e.pass ≡ new_pass e.pen.table e.pen.generation → IsNew origin count e
  next_is_new e words pen pass =
      let generation : e.pen.generation ≡ next_generation words (knowledge newest.pen) = ap (λ (p : PenView). p.generation) pen in
      let link = newest_link.1.generation in
      record {
        pen = pen ∙ ap (λ (g : Generation). new_pen e.pen.table g) (sym generation);
        pass = pass;
        start = (ap (λ (g : Generation). g.origin) (generation) ∙ ap (λ (g : Generation). g.origin) link, ap (λ (g : Generation). g.start_count) generation ∙ ap (λ (g : Generation). g.start_count) link);
      }

  pub next_number : newest.pen.generation.number + 1 ≡ length (parts_in (older ++ newest ∷ [])) + 1
  next_number =
      let number = ap (λ (g : Generation). g.number) newest_link.1.generation in
      let long = parts_count (older ++ newest ∷ []) ∙ length-append older (newest ∷ []) in
      omega (arith, number, long)

  -- the newest was sealed, and a new table follows it
  pub turned_on : (pen : PenView) (e : Ends) (names : List TableId) → pen ≡ with_seal newest.pen → IsNew origin count e → e.pen.generation.base ≡ joined (parts_in (older ++ newest ∷ []))
      → e.pen.generation.number ≡ length (parts_in (older ++ newest ∷ [])) + 1 → names ≡ tables ++ e.pen.table ∷ []
      → AreGenerations origin count (older ++ record newest { pen = pen } ∷ []) e names
  turned_on pen e names is new base number named =
      let sealed : Ends = record newest { pen = with_seal newest.pen } in
      let old = newest_link.1 in
      let first : AreLinked origin count 0 [] (older ++ sealed ∷ []) = link_newest origin count older sealed newest_link.0 record { generation = old.generation; put = old.put; pass = old.pass } in
      let parts : parts_in (older ++ sealed ∷ []) ≡ parts_in (older ++ newest ∷ []) = parts_last older sealed ∙ sym (parts_last older newest) in
      let base' : e.pen.generation.base ≡ joined (parts_in (older ++ sealed ∷ [])) = base ∙ ap joined (sym parts) in
      let long = parts_count (older ++ newest ∷ []) ∙ length-append older (newest ∷ []) in
      let number' : e.pen.generation.number ≡ length (older ++ sealed ∷ []) + 1 = omega (arith, number, long, length-append older (sealed ∷ [])) in
      let link : IsLinked origin count (length (older ++ sealed ∷ [])) (joined (parts_in (older ++ sealed ∷ []))) e = record {
        generation = λ i. record { room = e.pen.generation.room; number = number' i; origin = new.start.0 i; base = base' i; start_count = new.start.1 i };
        put = ap (λ (p : PenView). p.put) new.pen ∙ sym (ap (λ (p : PenView). published p) new.pen);
        pass = new.pass;
      } in
      let all : AreGenerations origin count (older ++ sealed ∷ []) e names = record {
        linked = link_newest origin count (older ++ sealed ∷ []) e first link;
        sealed = All-push (λ (x : Ends). x.pen.sealed ≡ true) older sealed are.sealed refl;
        last = ap (λ (p : PenView). p.sealed) new.pen;
        named = named ∙ ap (λ (ts : List TableId). ts ++ e.pen.table ∷ []) (are.named ∙ tables_last older newest ∙ sym (tables_last older sealed)) ∙ sym (tables_last (older ++ sealed ∷ []) e);
      } in
      subst (λ (p : PenView). AreGenerations origin count (older ++ record newest { pen = p } ∷ []) e names) (sym is) all
