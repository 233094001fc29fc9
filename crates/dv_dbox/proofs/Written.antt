-- A written file is a text of the format.
use Rattle.std.proofs.Common.{◌≡◌, ℕ, zero, suc, ◌+◌, ◌-◌, ◌*◌, ◌/◌, ◌%◌, ◌^◌, ◌<◌, ◌≤◌, Bool, true, false, cond, eqb, List, [], ◌∷◌, ◌++◌, length, get_or, replicate, Some, refl, sym, ap, ◌∙◌, append_assoc, arith}
use Rattle.std.specs.Prelude.{codes}
use Rattle.std.specs.Char.{digit_char, digit_value}
use Rattle.std.specs.Fmt.{digit_glyph, digits, digits_onto}
use Rattle.std.specs.List.{list_all}
use Rattle.std.specs.Str.Parse.{AllDigits, digits_value}
use Rattle.std.proofs.lemmas.Bool.{eqb-false, le-leb, lt-ltb}
use Rattle.std.proofs.lemmas.Bool.Decides.{nat_tests}
use Rattle.std.proofs.lemmas.Fmt.{digits_is_IsNumeral}
use Rattle.std.proofs.lemmas.List.{append-nil, length-append, length-replicate}
use Rattle.std.proofs.lemmas.List.Sums.{AllPass-from_list_all, count_by-le-length}
use Rattle.std.proofs.Math.Nat.{pow-suc}
use Rattle.dv_model.specs.Fields.{is_bare_feed, virtual_size, with_previous}
use Rattle.dv_dbox.specs.BoxTexts.{are_hex, AreEntries, AreFields, BoxText, entries_text, fields_text, first_line_text, guid_number, hex_number, hex_text, is_entry, is_field, is_hex, IsMessageHeader, message_header_text, metadata_text, paired, pairs_text, trailer, wide_hex_text, written}
use Rattle.dv_dbox.specs.Reading.{written_content}
use Rattle.dv_dbox.proofs.Again.{is_plain, is_unended}

-- ---- digits

digit_plain : (c : ℕ) → digit_value c < 16 → is_plain c ≡ true
digit_plain c lt = grind (arith, nat_tests)

digit_unended : (c : ℕ) → digit_value c < 16 → is_unended c ≡ true
digit_unended c lt = grind (arith, nat_tests)

plain_digits : (text : List ℕ) → AllDigits 16 text → list_all is_plain text ≡ true
plain_digits [] h = refl
plain_digits (c ∷ text) h = rw (digit_plain c h.0, plain_digits text h.1) refl

unended_digits : (text : List ℕ) → AllDigits 16 text → list_all is_unended text ≡ true
unended_digits [] h = refl
unended_digits (c ∷ text) h = rw (digit_unended c h.0, unended_digits text h.1) refl

hex_digits : (text : List ℕ) → AllDigits 16 text → are_hex text ≡ true
hex_digits [] h = refl
hex_digits (c ∷ text) h = rw (lt-ltb (digit_value c) 16 h.0, hex_digits text h.1) refl

-- ---- numbers without leading zeros

small_quotient : (n m : ℕ) → n < m * 16 → n / 16 < m
small_quotient n m lt = omega arith

positive : (j m : ℕ) → m < 16 ^ j → 0 < m → 0 < j
positive zero m lt some = absurd (omega arith)
positive (suc j) m lt some = omega arith

-- a number below 16 ^ j has at most j digits
few_digits : (k n j : ℕ) (after : List ℕ) → 0 < j → n < 16 ^ j
    → length (digits_onto k 16 false n after) ≤ length after + j
few_digits zero n j after some lt = omega arith
few_digits (suc k) n zero after some lt = absurd (omega arith)
few_digits (suc k) n (suc j) after some lt = by_rest (eqb (n / 16) 0) refl (λ less more. few_digits k (n / 16) j (digit_glyph false (n % 16) ∷ after) more less)
  where
    by_rest : (t : Bool) → eqb (n / 16) 0 ≡ t
        → (n / 16 < 16 ^ j → 0 < j → length (digits_onto k 16 false (n / 16) (digit_glyph false (n % 16) ∷ after)) ≤ suc (length after) + j)
        → length (cond t (digit_glyph false (n % 16) ∷ after) (digits_onto k 16 false (n / 16) (digit_glyph false (n % 16) ∷ after))) ≤ length after + suc j
    by_rest true e more = omega arith
    by_rest false e more =
        let other = eqb-false _ _ e in
        let less : n / 16 < 16 ^ j = small_quotient n (16 ^ j) (omega (arith, pow-suc 16 j)) in
        omega (arith, more less (positive j (n / 16) less (omega (arith, other))))

digits_are : (n k : ℕ) → 64 ≡ k → hex_text n ≡ digits_onto k 16 false n []
unfolding digits
digits_are n k e = ap (λ (turns : ℕ). digits_onto turns 16 false n []) e

wide_enough : (j n : ℕ) → 0 < j → n < 16 ^ j → length (hex_text n) ≤ j
wide_enough j n some lt = for_turns 64 refl
  where
    for_turns : (k : ℕ) → 64 ≡ k → length (hex_text n) ≤ j
    for_turns k e = omega (arith, ap length (digits_are n k e), few_digits k n j [] some lt)

pub record IsNumber (n : ℕ) : Type 0 where
  pub some : 0 < length (hex_text n)
  pub digits : AllDigits 16 (hex_text n)
  pub value : digits_value 16 (hex_text n) ≡ n

number : (n : ℕ) → n < 2 ^ 64 → IsNumber n
number n lt =
    let far : n < 16 ^ 64 = omega arith in
    let is = digits_is_IsNumeral 16 false (omega arith) (omega arith) n far in
    record { some = is.0.0; digits = is.0.1; value = is.1 }

number_is : (j n : ℕ) → 0 < j → j ≤ 16 → n < 16 ^ j → n < 2 ^ 64
    → hex_number j (hex_text n) ≡ Some n
number_is j n some most below lt =
    let is = number n lt in
    let fits = wide_enough j n some below in
    rw (le-leb 1 (length (hex_text n)) is.some, le-leb (length (hex_text n)) j fits, hex_digits (hex_text n) is.digits, is.value) refl

-- ---- the GUID

digit_back : (d : ℕ) → d < 16 → digit_value (digit_char d) ≡ d
digit_back d lt = grind (arith, nat_tests)

char_unended : (d : ℕ) → is_unended (digit_char d) ≡ true
char_unended d = grind (arith, nat_tests)

pairs_unended : (bytes : List ℕ) → list_all is_unended (pairs_text bytes) ≡ true
pairs_unended [] = refl
pairs_unended (b ∷ bytes) = rw (char_unended (b / 16), char_unended (b % 16), pairs_unended bytes) refl

pairs_long : (bytes : List ℕ) → length (pairs_text bytes) ≡ 2 * length bytes
pairs_long [] = refl
pairs_long (b ∷ bytes) = omega (arith, pairs_long bytes)

record ArePairs (bytes : List ℕ) : Type 0 where
  pub hex : are_hex (pairs_text bytes) ≡ true
  pub back : paired (pairs_text bytes) ≡ bytes

pairs_back : (bytes : List ℕ) → ((i : ℕ) → get_or bytes i 0 < 256) → ArePairs bytes
pairs_back [] h = record { hex = refl; back = refl }
pairs_back (b ∷ bytes) h =
    let small : b < 256 = h 0 in
    let high = digit_back (b / 16) (omega arith) in
    let low = digit_back (b % 16) (omega arith) in
    let more = pairs_back bytes (λ i. h (suc i)) in
    let first_hex : is_hex (digit_char (b / 16)) ≡ true = rw high (lt-ltb _ _ (omega arith)) in
    let second_hex : is_hex (digit_char (b % 16)) ≡ true = rw low (lt-ltb _ _ (omega arith)) in
    let whole : b / 16 * 16 + b % 16 ≡ b = omega arith in
    record { hex = rw (first_hex, second_hex, more.hex) refl; back = rw (high, low, whole, more.back) refl }

guid_is : (guid : List ℕ) → length guid ≡ 16 → ((i : ℕ) → get_or guid i 0 < 256)
    → guid_number (pairs_text guid) ≡ Some guid
guid_is guid long fits =
    let are = pairs_back guid fits in
    let wide : length (pairs_text guid) ≡ 32 = omega (arith, pairs_long guid) in
    rw (wide, are.hex, are.back) refl

-- ---- the message header

zeros_hex : (k : ℕ) (text : List ℕ) → are_hex text ≡ true → are_hex (replicate k 48 ++ text) ≡ true
zeros_hex zero text h = h
zeros_hex (suc k) text h = zeros_hex k text h

zeros_value : (k : ℕ) (text : List ℕ)
    → digits_value 16 (replicate k 48 ++ text) ≡ digits_value 16 text
zeros_value zero text = refl
zeros_value (suc k) text = zeros_value k text

abbrev spaces : List ℕ
spaces = 32 ∷ 32 ∷ 32 ∷ 32 ∷ 32 ∷ 32 ∷ 32 ∷ 32 ∷ []

header_is : (size : ℕ) → size < 2 ^ 64 → IsMessageHeader size spaces (wide_hex_text size)
header_is size lt =
    let is = number size lt in
    let fits = wide_enough 16 size (omega arith) lt in
    record {
      filled = refl;
      wide = omega (arith, length-append (replicate (16 - length (hex_text size)) 48) (hex_text size), length-replicate {A = ℕ} (16 - length (hex_text size)) 48);
      hex = zeros_hex (16 - length (hex_text size)) (hex_text size) (hex_digits (hex_text size) is.digits);
      same = zeros_value (16 - length (hex_text size)) (hex_text size) ∙ is.value;
    }

-- ---- the parts of a written file

abbrev written_fields : ℕ → List (List ℕ)
written_fields stamp = (77 ∷ 49 ∷ 101 ∷ []) ∷ (67 ∷ hex_text stamp) ∷ []

abbrev written_entries : List ℕ → ℕ → ℕ → ℕ → List (List ℕ)
written_entries guid received physical as_sent =
    (71 ∷ pairs_text guid) ∷ (82 ∷ hex_text received) ∷ (90 ∷ hex_text physical) ∷ (86 ∷ hex_text as_sent) ∷ []

first_line_is_written : (stamp : ℕ) → first_line_text stamp ≡ fields_text (written_fields stamp)
first_line_is_written stamp = ap (λ (text : List ℕ). codes "2 M1e C" ++ (text ++ 10 ∷ [])) (sym (append-nil (hex_text stamp)))

four_lines : (a b c d : List ℕ)
    → a ++ (b ++ (c ++ (d ++ 10 ∷ []))) ≡ (a ++ (b ++ (c ++ (d ++ [])))) ++ 10 ∷ []
four_lines a b c d = rw append-nil (simp append_assoc)

entries_are_written : (guid : List ℕ) (received physical as_sent : ℕ)
    → metadata_text guid received physical as_sent ≡ entries_text (written_entries guid received physical as_sent)
entries_are_written guid received physical as_sent =
    four_lines (71 ∷ (pairs_text guid ++ 10 ∷ [])) (82 ∷ (hex_text received ++ 10 ∷ [])) (90 ∷ (hex_text physical ++ 10 ∷ [])) (86 ∷ (hex_text as_sent ++ 10 ∷ []))

regrouped : (a b c d e rest : List ℕ)
    → (a ++ (b ++ (c ++ (d ++ e)))) ++ rest ≡ a ++ (b ++ (c ++ (d ++ (e ++ rest))))
regrouped a b c d e rest = simp append_assoc

fields_fit : (stamp : ℕ) → stamp < 2 ^ 32 → AreFields stamp (written_fields stamp)
fields_fit stamp lt =
    let is = number stamp (omega arith) in
    let plain : list_all is_field (written_fields stamp) ≡ true = rw (plain_digits (hex_text stamp) is.digits) refl in
    record {
      each = AllPass-from_list_all is_field (written_fields stamp) plain;
      header_size = refl;
      made = number_is 8 stamp (omega arith) (omega arith) lt (omega arith);
    }

with_previous_long : (previous : ℕ) (bytes : List ℕ)
    → length (with_previous previous bytes) ≡ length bytes
with_previous_long previous [] = refl
with_previous_long previous (b ∷ bytes) = ap suc (with_previous_long b bytes)

-- at most twice as many bytes
virtual_size_fits : (message : List ℕ) → length message < 2 ^ 63 → virtual_size message < 2 ^ 64
virtual_size_fits message lt = omega (arith, count_by-le-length is_bare_feed (with_previous 0 message), with_previous_long 0 message)

entries_fit : (stamp : ℕ) (guid : List ℕ) (received : ℕ) (message : List ℕ) → received < 2 ^ 32
    → length guid ≡ 16 → ((i : ℕ) → get_or guid i 0 < 256) → length message < 2 ^ 63
    → AreEntries (written_content stamp guid received message) (written_entries guid received (length message) (virtual_size message))
entries_fit stamp guid received message below long fits short =
    let entries = written_entries guid received (length message) (virtual_size message) in
    let as_sent = virtual_size_fits message short in
    let first = number received (omega arith) in
    let second = number (length message) (omega arith) in
    let third = number (virtual_size message) as_sent in
    let lines : list_all is_entry entries ≡ true = rw (pairs_unended guid, unended_digits (hex_text received) first.digits, unended_digits (hex_text (length message)) second.digits, unended_digits (hex_text (virtual_size message)) third.digits) refl in
    record {
      each = AllPass-from_list_all is_entry entries lines;
      guid = rw (guid_is guid long fits) refl;
      received = rw (number_is 16 received (omega arith) (omega arith) (omega arith) (omega arith)) refl;
      physical = rw (number_is 16 (length message) (omega arith) (omega arith) (omega arith) (omega arith)) refl;
      as_sent = rw (number_is 16 (virtual_size message) (omega arith) (omega arith) as_sent as_sent) refl;
      others = refl;
    }

-- what is written is of the format, whatever follows it
pub written_is_text : (stamp : ℕ) (guid : List ℕ) (received : ℕ) (message rest : List ℕ)
    → stamp < 2 ^ 32 → received < 2 ^ 32 → length guid ≡ 16 → ((i : ℕ) → get_or guid i 0 < 256)
    → length message < 2 ^ 63
    → BoxText (written_content stamp guid received message) (written stamp guid received message ++ rest)
written_is_text stamp guid received message rest made below long fits short =
    let size = length message in
    let as_sent = virtual_size message in
    let fields = written_fields stamp in
    let entries = written_entries guid received size as_sent in
    let one = regrouped (first_line_text stamp) (message_header_text size) message trailer (metadata_text guid received size as_sent) rest in
    let two = ap (λ (line : List ℕ). line ++ (message_header_text size ++ (message ++ (trailer ++ (metadata_text guid received size as_sent ++ rest))))) (first_line_is_written stamp) in
    let three = ap (λ (lines : List ℕ). fields_text fields ++ (message_header_text size ++ (message ++ (trailer ++ (lines ++ rest))))) (entries_are_written guid received size as_sent) in
    record {
      fields = fields;
      filler = spaces;
      sized = wide_hex_text size;
      entries = entries;
      rest = rest;
      text = one ∙ two ∙ three;
      are_fields = fields_fit stamp made;
      is_header = header_is size (omega arith);
      are_entries = entries_fit stamp guid received message below long fits short;
    }
