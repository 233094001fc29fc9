-- A row of a cache file.
use Rattle.std.proofs.Common.{◌≡◌, ◌≢◌, ◌-◌, ◌/◌, ◌%◌, true, false, not, nat_eq, ℕ, ◌+◌, ◌*◌, ◌<◌, ◌≤◌, List, length, drop, Option, Some, sym, ◌∙◌, ap, subst, arith}
use Rattle.std.specs.Prelude.{◌↔◌, IsTrue}
use Rattle.std.proofs.lemmas.Bool.{ne_eqb}
use Rattle.std.proofs.lemmas.List.{length-drop, length-take}
use Rattle.dv_cache.specs.declared.row.CacheRow.{CacheRow}
use Rattle.dv_cache.specs.Caches.{fields_text}
use Rattle.dv_cache.specs.Finding.{AreFieldsOf, HasEntry, HasHeader, IsRowAt, word_at}
use Rattle.dv_cache.proofs.FieldTexts.{one_five, text_size}

-- the row of these numbers and fields
abbrev pub row_of : ℕ → ℕ → ℕ → List (Option (List ℕ)) → CacheRow
row_of uid physical virtual_size fields = record { uid = uid; known = Some (record { physical = physical; virtual_size = virtual_size; fields = fields }) }

-- at most one row stands at an offset
pub one_row : (b : List ℕ) (indexid seq uid offset : ℕ) (row other : CacheRow)
    → IsRowAt b indexid seq uid offset row → IsRowAt b indexid seq uid offset other → row ≡ other
one_row b indexid seq uid offset row other p q =
    p.is ∙ ap (λ fields. row_of uid (word_at (offset + 4) b) (word_at (offset + 8) b) fields) (one_five (drop (word_at (offset + 12) b) b) p.fields q.fields p.stand q.stand) ∙ sym q.is

-- no fields stand behind the end
pub no_room : (b : List ℕ) (place : ℕ) (fields : List (Option (List ℕ))) → length b ≤ place
    → AreFieldsOf (drop place b) fields → ⊥
no_room b place fields past is =
    omega (arith, past, ap length is.text, is.five, text_size fields, length-take (length (fields_text fields)) (drop place b), length-drop place b)

-- a row of what was read
pub stands : (b : List ℕ) (indexid seq uid offset place physical virtual_size : ℕ)
    (fields : List (Option (List ℕ)))
    → HasHeader indexid seq b → HasEntry uid offset b
    → place ≡ word_at (offset + 12) b → physical ≡ word_at (offset + 4) b
    → virtual_size ≡ word_at (offset + 8) b → AreFieldsOf (drop place b) fields
    → IsRowAt b indexid seq uid offset (row_of uid physical virtual_size fields)
stands b indexid seq uid offset place physical virtual_size fields header entry p q r is = record {
  header = header;
  entry = entry;
  fields = fields;
  stand = subst (λ k. AreFieldsOf (drop k b) fields) p is;
  is = ap (λ k. row_of uid k virtual_size fields) q ∙ ap (λ k. row_of uid (word_at (offset + 4) b) k fields) r;
}

placed : (n : ℕ) → IsTrue (not (nat_eq n 0)) ↔ (n ≢ 0)
placed n = (λ h e. no (subst (λ k. not (nat_eq k 0) ≡ true) e h), λ h. ap not (ne_eqb n 0 h))
  where
    no : false ≡ true → ⊥
    no e = absurd cc

-- the test of the place is the last
pub entry_by : (b : List ℕ) (uid offset count own place : ℕ) → 32 ≤ offset → offset % 16 ≡ 0
    → (offset - 32) / 16 < count → count ≡ word_at 16 b → offset + 16 ≤ length b → own ≡ uid
    → own ≡ word_at offset b
    → place ≡ word_at (offset + 12) b → IsTrue (not (nat_eq place 0)) ↔ HasEntry uid offset b
entry_by b uid offset count own place low whole less counted size named uid_is place_is =
    let spot : offset ≡ 32 + 16 * ((offset - 32) / 16) = omega (arith, low, whole) in (
      λ h. record {
        counted = ((offset - 32) / 16, spot, omega (arith, less, counted));
        size = size;
        of = sym uid_is ∙ named;
        placed = λ e. (placed place).0 h (place_is ∙ e);
      },
      λ is. (placed place).1 (λ e. is.placed (sym place_is ∙ e)),
    )
