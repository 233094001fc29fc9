-- Worked instances.
use Rattle.std.proofs.Common.{◌≡◌, ℕ, ◌+◌, ◌^◌, ◌<◌, true, nat_lt, List, [], ◌∷◌, get_or, refl, ap, arith}
use Rattle.std.proofs.lemmas.Bool.Decides.{nat_tests}
use Rattle.std.proofs.lemmas.List.Elements.{All-cons, All-nil}
use Rattle.std.proofs.lemmas.List.Sums.{AllPass-from_list_all}
use Rattle.dv_model.specs.declared.types.Body.TheVariants.{Append, ExtRecordUpdate}
use Rattle.dv_model.specs.declared.types.Entry.{Entry}
use Rattle.dv_model.specs.declared.types.Record.{Record}
use Rattle.dv_model.specs.Spelling.{IsRecord, group_text, payload_text}
use Rattle.dv_formats.specs.Feeds.{entry_words, feed_text}
use Rattle.dv_feeding.specs.Laws.{IsSpelled}

-- ---- an append of one message by author 1

abbrev pub append : ℕ → Record
append uid = record { top = 1; body = Append (record { uid = uid; flags = 0 } ∷ []) }

abbrev pub by_one : Record → Entry
by_one r = record { author = 1; group = record { records = r ∷ [] } }

append_words : entry_words (by_one (append 1)) ≡ 0x00000001 ∷ 0x00000004 ∷ 0x84808080 ∷ 0x10000002 ∷ 0x00000001 ∷ 0x00000000 ∷ []
append_words = refl

append_is_record : IsRecord (append 1)
append_is_record = record { spells = record { size = refl; below = omega arith; type = refl; payload = (record { size = refl; fields = refl; uid = (omega arith, omega arith) }, refl); top = omega arith } }

abbrev pub append_text : List ℕ
append_text = 0x80 ∷ 0x80 ∷ 0x80 ∷ 0x84 ∷ 2 ∷ 0 ∷ 0 ∷ 0x10 ∷ 1 ∷ 0 ∷ 0 ∷ 0 ∷ 0 ∷ 0 ∷ 0 ∷ 0 ∷ []

pub append_text_is : group_text (by_one (append 1)).group ≡ append_text
append_text_is = refl

below : (b : ℕ) → nat_lt b 256 ≡ true → b < 256
below b e = grind (arith, nat_tests)

pub append_is_spelled : IsSpelled (by_one (append 1))
append_is_spelled = record {
  records = All-cons IsRecord (append 1) [] append_is_record (All-nil IsRecord);
  bytes = λ k d lt. below (get_or append_text k d) (AllPass-from_list_all (λ b. nat_lt b 256) append_text refl k d lt);
}

-- ---- what the law asks for is needed

-- without a spelling: a UID of 33 bits makes the words of another
wide_uid : feed_text (by_one (append 1) ∷ []) ≡ feed_text (by_one (append (2 ^ 32 + 1)) ∷ [])
wide_uid = refl

-- without bytes: an item of nine bits makes the word of others that are bytes
abbrev four_items : ℕ → ℕ → Record
four_items m n = record { top = 0; body = ExtRecordUpdate (m ∷ n ∷ 0 ∷ 0 ∷ []) }

four_are_record : (m n : ℕ) → IsRecord (four_items m n)
four_are_record m n = record { spells = record { size = refl; below = omega arith; type = refl; payload = (refl, refl); top = omega arith } }

same_words : feed_text (by_one (four_items 256 0) ∷ []) ≡ feed_text (by_one (four_items 0 1) ∷ [])
same_words = refl

items_differ : four_items 256 0 ≡ four_items 0 1 → ⊥
items_differ e = let first : 256 ≡ 0 = ap (λ (r : Record). get_or (payload_text r.body) 0 0) e in absurd (omega (arith, first))
