-- Appends that are published in tests are good notes.
use Rattle.std.proofs.Common.{◌≡◌, ℕ, zero, suc, ◌+◌, ◌-◌, ◌*◌, ◌^◌, ◌<◌, ◌≤◌, Bool, true, false, List, [], ◌∷◌, ◌++◌, length, Some, None, replicate, refl, sym, ap, subst, ◌∙◌, append_assoc, append-nil, arith, length-append, add-zero}
use Rattle.std.specs.Prelude.{nat_lt, option_and_then, option_map, if◌then◌else◌}
use Rattle.std.specs.Int.{w32, to_le_bytes}
use Rattle.std.proofs.lemmas.Bool.Decides.{nat_tests}
use Rattle.std.proofs.lemmas.List.Elements.{All-cons, All-from_recursion, All-nil, All-replicate}
use Rattle.dv_model.specs.declared.types.Body.TheVariants.{Append}
use Rattle.dv_model.specs.declared.types.Mailbox.{Mailbox}
use Rattle.dv_model.specs.declared.types.Mark.{Mark}
use Rattle.dv_model.specs.declared.types.NewRow.{NewRow}
use Rattle.dv_model.specs.declared.types.Record.{Record}
use Rattle.dv_model.specs.Effects.{applied, stamped, with_higher, with_row}
use Rattle.dv_model.specs.Journals.{IsEntry, IsGuid, is_rotation_due, mark_behind}
use Rattle.dv_model.specs.Spelling.{IsRecord, group_text}
use Rattle.dv_formats.specs.Feeds.{entry_words}
use Rattle.dv_records.proofs.Valid.{valid_append}
use Rattle.dv_front.specs.declared.notes.Origin.{Origin}
use Rattle.dv_front.specs.Ends.{PenView, generation, knowledge, new_pen, next_generation}
use Rattle.dv_front.specs.Notes.{AreGood, AreNotes, text_of}
use Rattle.dv_front.proofs.NoteLemmas.{text_append}
use Rattle.dv_feed.specs.Appends.{HasAppended, append_note, appends_from}
use Rattle.dv_feed.specs.Publishing.{with_entry}

abbrev row_of : ℕ → NewRow
row_of uid = record { uid = uid; flags = 0 }

abbrev append : ℕ → Record
append uid = record { top = 1; body = Append (row_of uid ∷ []) }

abbrev pub append_text : ℕ → List ℕ
append_text uid = 0x80 ∷ 0x80 ∷ 0x80 ∷ 0x84 ∷ 2 ∷ 0 ∷ 0 ∷ 0x10 ∷ (to_le_bytes w32 uid ++ 0 ∷ 0 ∷ 0 ∷ 0 ∷ [])

pub append_text_is : (uid : ℕ) → group_text (append_note uid).entry.group ≡ append_text uid
append_text_is uid = refl

append_is_entry : (uid : ℕ) → 1 ≤ uid → uid < 2 ^ 32 - 1 → IsEntry (append_note uid).entry
append_is_entry uid low high = record {
  author = omega arith;
  some = omega arith;
  records = All-cons IsRecord (append uid) [] (valid_append 1 (row_of uid ∷ []) (omega arith) ((low, high), tt) (omega arith)) (All-nil IsRecord);
  bytes = All-from_recursion (λ b. b < 2 ^ 8) (append_text uid) (omega arith, (omega arith, (omega arith, (omega arith, (omega arith, (omega arith, (omega arith, (omega arith, (omega arith, (omega arith, (omega arith, (omega arith, (omega arith, (omega arith, (omega arith, (omega arith, tt))))))))))))))));
}

zeros_are_guid : IsGuid (replicate 16 0)
zeros_are_guid = record { size = refl; bytes = All-replicate (λ b. b < 2 ^ 8) 16 0 (omega arith) }

-- the mailbox behind the append
abbrev behind : Mailbox → ℕ → Mailbox
behind m uid = stamped m.rows (with_row (with_higher m) (row_of uid))

append_applies : (m : Mailbox) (uid : ℕ) → m.next_uid ≤ uid → applied m (append uid ∷ []) ≡ Some (behind m uid)
append_applies m uid le =
    let new : nat_lt uid m.next_uid ≡ false = grind (arith, nat_tests) in
    ap (λ (old : Bool). option_and_then (λ n. applied n []) (option_map (stamped m.rows) (if old then None else Some (with_row (with_higher m) (row_of uid))))) new

-- its group has 16 bytes
behind_offset : (mark : Mark) (uid n : ℕ) → mark.offset + 16 + n < 2 ^ 32 → 56 + n < 2 ^ 32 → (mark_behind true mark (append_note uid).entry.group).offset + n < 2 ^ 32
behind_offset mark uid n a b = cases (is_rotation_due true mark)
  where
    cases : (due : Bool) → let place : Mark = if due then record { file_seq = mark.file_seq + 1; offset = 40 + 16 } else record mark { offset = mark.offset + 16 } in place.offset + n < 2 ^ 32
    cases true = omega arith
    cases false = omega arith

pub appends_are_notes : (m : Mailbox) (mark : Mark) (uid n : ℕ) → m.next_uid ≡ uid → 1 ≤ uid → uid + n < 2 ^ 32 - 1 → mark.offset + 16 * n < 2 ^ 32 → 56 + 16 * n < 2 ^ 32
    → AreNotes m mark (appends_from uid n)
appends_are_notes m mark uid zero next low high one two = tt
appends_are_notes m mark uid (suc n) next low high one two =
    let small = behind_offset mark uid (16 * n) (omega arith) (omega arith) in
    let rest = appends_are_notes (behind m uid) (mark_behind true mark (append_note uid).entry.group) (uid + 1) n refl (omega arith) (omega arith) small (omega arith) in
    (append_is_entry uid low (omega arith), omega (arith, small), (behind m uid, append_applies m uid (omega (arith, next)), (omega (arith, next), omega arith, zeros_are_guid), rest))

-- one append more stands behind the others
pub one_more : (uid n : ℕ) → appends_from uid n ++ append_note (uid + n) ∷ [] ≡ appends_from uid (n + 1)
one_more uid zero = ap (λ k. append_note k ∷ []) (add-zero uid)
one_more uid (suc n) =
    let up : uid + suc n ≡ uid + 1 + n = omega arith in
    let more : suc (n + 1) ≡ suc n + 1 = omega arith in
    ap (λ ns. append_note uid ∷ ns) (ap (λ k. appends_from (uid + 1) n ++ append_note k ∷ []) up ∙ one_more (uid + 1) n) ∙ ap (appends_from uid) more

-- the notes of the log with the next append
next_notes : (pen : PenView) (n : ℕ) → HasAppended pen n → pen.generation.base ++ (pen.notes ++ append_note (n + 1) ∷ []) ≡ appends_from 1 (n + 1)
next_notes pen n h =
    let last : n + 1 ≡ 1 + n = omega arith in
    sym (append_assoc pen.generation.base pen.notes (append_note (n + 1) ∷ [])) ∙ (λ i. h.notes i ++ append_note (last i) ∷ []) ∙ one_more 1 n

-- the next append may be published
pub next_is_good : (pen : PenView) (n : ℕ) → HasAppended pen n → n < 1000 → AreGood pen.generation (pen.notes ++ append_note (n + 1) ∷ [])
next_is_good pen n h few =
    subst (AreNotes pen.generation.origin.mailbox pen.generation.origin.mark) (sym (next_notes pen n h))
    (appends_are_notes pen.generation.origin.mailbox pen.generation.origin.mark 1 (n + 1) h.next_uid (omega arith) (omega arith) (omega (arith, h.offset)) (omega arith))

-- it was published
pub appended_more : (pen after : PenView) (n : ℕ) → HasAppended pen n → after ≡ with_entry pen (append_note (n + 1)) → HasAppended after (n + 1)
appended_more pen after n h is =
    let note = append_note (n + 1) in
    let words : pen.put ++ entry_words note.entry ≡ text_of (pen.notes ++ note ∷ []) =
    ap (λ ws. ws ++ entry_words note.entry) h.all ∙ ap (λ ws. text_of pen.notes ++ ws) (sym (append-nil (entry_words note.entry))) ∙ sym (text_append pen.notes (note ∷ [])) in
    subst (λ p. HasAppended p (n + 1)) (sym is) record { next_uid = h.next_uid; offset = h.offset; notes = next_notes pen n h; all = words; unsealed = h.unsealed }

-- it takes six words
pub six_more : (pen after : PenView) (uid : ℕ) → after ≡ with_entry pen (append_note uid) → length after.put ≡ length pen.put + 6
six_more pen after uid is = ap (λ (p : PenView). length p.put) is ∙ length-append pen.put (entry_words (append_note uid).entry)

-- the next generation goes on from what was published
pub next_has_appended : (pen next : PenView) (n words : ℕ) → HasAppended pen n → next ≡ new_pen next.table (next_generation words (knowledge pen)) → HasAppended next n
next_has_appended pen next n words h is =
    subst (λ p. HasAppended p n) (sym is) record { next_uid = h.next_uid; offset = h.offset; notes = append-nil (pen.generation.base ++ pen.notes) ∙ h.notes; all = refl; unsealed = refl }

-- the first generation begins with nothing
pub first_has_appended : (pen : PenView) (words : ℕ) (origin : Origin) (count : ℕ) → origin.mailbox.next_uid ≡ 1 → origin.mark.offset ≤ 131072
    → pen ≡ new_pen pen.table (generation words origin count) → HasAppended pen 0
first_has_appended pen words origin count next low is = subst (λ p. HasAppended p 0) (sym is) record { next_uid = next; offset = low; notes = refl; all = refl; unsealed = refl }
