-- A GUID that is read of a message file has sixteen bytes.
use Rattle.std.proofs.Common.{◌≡◌, ℕ, ◌+◌, ◌*◌, ◌%◌, ◌^◌, ◌<◌, Bool, true, false, ◌&&◌, List, [], ◌∷◌, length, eqb, Option, None, Some, Result, Ok, Err, refl, subst, arith}
use Rattle.std.specs.Prelude.{unwrap_or, if◌then◌else◌}
use Rattle.std.specs.Char.{digit_value}
use Rattle.std.specs.Option.{ok_or, option_map}
use Rattle.std.proofs.lemmas.Bool.{and_parts, eqb-true}
use Rattle.std.proofs.lemmas.Bool.Decides.{nat_tests}
use Rattle.std.proofs.lemmas.List.Elements.{All-cons, All-nil, All-replicate}
use Rattle.dv_model.specs.Journals.{AreByteValues, IsGuid}
use Rattle.dv_dbox.specs.BoxTexts.{BoxContent, BoxFault, BadMetadata, are_hex, box_content, guid_number, is_hex, paired, read_at, value_of}
use Rattle.dv_dbox.specs.Mails.{guid_in, no_guid}
use Rattle.dv_dbox.proofs.Found.{text_found}

none_is : IsGuid no_guid
none_is = record { size = refl; bytes = All-replicate (λ b. b < 2 ^ 8) 16 0 (omega arith) }

-- ---- pairs of digits

hex_below : (b : ℕ) → is_hex b ≡ true → digit_value b < 16
hex_below b hex = grind (arith, nat_tests)

module _ (high low : ℕ) where
  pair_below : is_hex high ≡ true → is_hex low ≡ true → digit_value high * 16 + digit_value low < 2 ^ 8
  pair_below first second =
      let a : digit_value high < 16 = hex_below high first in
      let b : digit_value low < 16 = hex_below low second in
      omega (arith, a, b)

pairs_bytes : (text : List ℕ) → are_hex text ≡ true → AreByteValues (paired text)
pairs_bytes [] hex = All-nil (λ b. b < 2 ^ 8)
pairs_bytes (high ∷ []) hex = All-nil (λ b. b < 2 ^ 8)
pairs_bytes (high ∷ low ∷ text) hex =
    let first = and_parts (is_hex high) (are_hex (low ∷ text)) hex in
    let second = and_parts (is_hex low) (are_hex text) first.1 in
    All-cons (λ b. b < 2 ^ 8) (digit_value high * 16 + digit_value low) (paired text) (pair_below high low first.0 second.0) (pairs_bytes text second.1)

pairs_long : (text : List ℕ) → length text % 2 ≡ 0 → length (paired text) + length (paired text) ≡ length text
pairs_long [] even = refl
pairs_long (high ∷ []) even = absurd (omega (arith, even))
pairs_long (high ∷ low ∷ text) even =
    let less : length text % 2 ≡ 0 = omega (arith, even) in
    let rest : length (paired text) + length (paired text) ≡ length text = pairs_long text less in
    omega (arith, rest)

-- ---- a GUID in digits

digits_guid : (text : List ℕ) → length text ≡ 32 → are_hex text ≡ true → IsGuid (paired text)
digits_guid text long hex =
    let even : length text % 2 ≡ 0 = rw long refl in
    let twice : length (paired text) + length (paired text) ≡ length text = pairs_long text even in
    record { size = omega (arith, twice, long); bytes = pairs_bytes text hex }

value_guid : (value guid : Option (List ℕ)) → read_at guid_number value ≡ Ok guid → IsGuid (unwrap_or guid no_guid)
value_guid None guid is =
    let same : None ≡ guid = cc in
    subst (λ (g : Option (List ℕ)). IsGuid (unwrap_or g no_guid)) same none_is
value_guid (Some text) guid is = by_tests (eqb (length text) 32) (are_hex text) refl refl is
  where
    by_tests : (a b : Bool) → eqb (length text) 32 ≡ a → are_hex text ≡ b → ok_or (option_map (λ (x : List ℕ). Some x) (if a && b then Some (paired text) else None)) BadMetadata ≡ Ok guid → IsGuid (unwrap_or guid no_guid)
    by_tests true true long hex same =
        let guid_is : Some (paired text) ≡ guid = cc in
        subst (λ (g : Option (List ℕ)). IsGuid (unwrap_or g no_guid)) guid_is (digits_guid text (eqb-true (length text) 32 long) hex)
    by_tests true false long hex same = absurd cc
    by_tests false b long hex same = absurd cc

-- ---- a file

abbrev read_of : Result BoxContent BoxFault → Option BoxContent
read_of read = elim read [ Ok m ↦ Some m | Err fault ↦ None ]

abbrev guid_of : Option BoxContent → List ℕ
guid_of content = elim content [ None ↦ no_guid | Some m ↦ unwrap_or m.guid no_guid ]

pub guid_read : (file : Option (List ℕ)) → IsGuid (guid_in file)
guid_read None = none_is
guid_read (Some b) = by_read (box_content b) refl
  where
    by_read : (read : Result BoxContent BoxFault) → box_content b ≡ read → IsGuid (guid_of (read_of read))
    by_read (Ok m) is =
        let text = text_found b m is in
        value_guid (value_of 71 text.entries) m.guid text.are_entries.guid
    by_read (Err fault) is = none_is
