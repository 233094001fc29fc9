-- A text of the format is read as what it spells.
use Rattle.std.proofs.Common.{◌≡◌, ℕ, ◌+◌, ◌<◌, Bool, true, false, not, ◌&&◌, ltb, List, [], ◌∷◌, ◌++◌, length, take, drop, get_or, All, Option, Some, Ok, refl, sym, ap, ◌∙◌, append_assoc, arith}
use Rattle.std.specs.Prelude.{slice_index}
use Rattle.std.specs.List.{flat_map, list_all, position, position_or_len, slice_split}
use Rattle.std.specs.Option.{option_map}
use Rattle.std.specs.Str.Parse.{digits_value}
use Rattle.std.proofs.lemmas.Bool.{and_parts, le-ltb, lt-ltb, not-true}
use Rattle.std.proofs.lemmas.List.{append-nil, drop-drop, drop_at, get_or-append-add, get_or_append_left, get_or_at, length-append, take_at}
use Rattle.std.proofs.lemmas.List.Folds.{list_all-append}
use Rattle.std.proofs.lemmas.List.Splits.{slice_split_at, slice_split_none}
use Rattle.std.proofs.lemmas.List.Sums.{AllPass-from_list_all, list_all-from_AllPass, position_or_len_is}
use Rattle.dv_dbox.specs.BoxTexts.{are_hex, AreEntries, AreFields, before_empty, box_content, BoxContent, BoxText, content_from, entries_of, entries_text, fields_text, first_line, header_at, header_size, is_entry, is_feed, is_field, is_item, is_space, IsMessageHeader, line_stamp, message_at, size_at, size_text, trailer}
use Rattle.dv_dbox.proofs.Lines.{before_more, before_now, some_part}

-- ---- bytes that end nothing

abbrev pub is_plain : ℕ → Bool
is_plain b = not (is_space b) && not (is_feed b)

abbrev pub is_unended : ℕ → Bool
is_unended b = not (is_feed b)

plain_parts : (text : List ℕ) → list_all is_plain text ≡ true
    → (list_all (λ b. not (is_space b)) text ≡ true) × (list_all is_unended text ≡ true)
plain_parts [] e = (refl, refl)
plain_parts (b ∷ text) e =
    let first = and_parts (is_plain b) (list_all is_plain text) e in
    let both = and_parts (not (is_space b)) (not (is_feed b)) first.0 in
    let more = plain_parts text first.1 in
    (rw (both.0, more.0) refl, rw (both.1, more.1) refl)

none_of : (p : ℕ → Bool) (text : List ℕ) → list_all (λ b. not (p b)) text ≡ true
    → All (λ b. p b ≡ false) text
none_of p text e k d lt = not-true (p (get_or text k d)) (AllPass-from_list_all (λ b. not (p b)) text e k d lt)

-- ---- what stands behind a front of known length

behind : (p q : List ℕ) (n k : ℕ) → length p ≡ n → drop (n + k) (p ++ q) ≡ drop k q
behind p q n k e = sym (drop-drop k n (p ++ q)) ∙ ap (drop k) (drop_at p q n e)

get_behind : (p q : List ℕ) (n k : ℕ) → length p ≡ n → get_or (p ++ q) (n + k) 0 ≡ get_or q k 0
get_behind p q n k e = rw (← e) (get_or-append-add p q k 0)

-- ---- the first line

pub first_line_is : (line rest : List ℕ) → list_all is_unended line ≡ true
    → first_line (line ++ 10 ∷ rest) ≡ Some (line, rest)
first_line_is line rest e =
    let text = line ++ 10 ∷ rest in
    let long : length line < length text = omega (arith, length-append line (10 ∷ rest)) in
    let place : position_or_len is_feed text ≡ length line =
    position_or_len_is is_feed text (length line) 0 (omega arith) (λ k lt. rw (get_or_append_left line (10 ∷ rest) 0 k lt) (none_of is_feed line e k 0 lt)) (λ lt. rw (get_or_at line 10 rest 0 (length line) refl) refl) in
    let found : position is_feed text ≡ Some (length line) = rw (place, lt-ltb (length line) (length text) long) refl in
    let pair : List ℕ → Option (List ℕ × List ℕ) = λ more. Some (line, more) in
    rw (found, take_at line (10 ∷ rest) (length line) refl) (ap pair (behind line (10 ∷ rest) (length line) 1 refl))

abbrev pub spaced : List (List ℕ) → List ℕ
spaced fields = flat_map (λ field. 32 ∷ field) fields

field_parts : (field : List ℕ) → is_field field ≡ true
    → (is_item field ≡ true) × (list_all (λ b. not (is_space b)) field ≡ true) × (list_all is_unended field ≡ true)
field_parts field e =
    let parts = and_parts (is_item field) (list_all is_plain field) e in
    let plain = plain_parts field parts.1 in
    (parts.0, plain.0, plain.1)

words_are : (word : List ℕ) (fields : List (List ℕ)) → list_all (λ b. not (is_space b)) word ≡ true
    → list_all is_field fields ≡ true → slice_split is_space (word ++ spaced fields) ≡ word ∷ fields
words_are word [] e h = rw append-nil (slice_split_none is_space word (none_of is_space word e))
words_are word (field ∷ fields) e h =
    let first = and_parts (is_field field) (list_all is_field fields) h in
    slice_split_at is_space word 32 (field ++ spaced fields) (none_of is_space word e) refl
    ∙ ap (λ (parts : List (List ℕ)). word ∷ parts) (words_are field fields (field_parts field first.0).1 first.1)

unended_fields : (fields : List (List ℕ)) → list_all is_field fields ≡ true
    → list_all is_unended (spaced fields) ≡ true
unended_fields [] h = refl
unended_fields (field ∷ fields) h =
    let first = and_parts (is_field field) (list_all is_field fields) h in
    rw (list_all-append is_unended field (spaced fields), (field_parts field first.0).2, unended_fields fields first.1) refl

field_items : (fields : List (List ℕ)) → list_all is_field fields ≡ true
    → list_all is_item fields ≡ true
field_items [] h = refl
field_items (field ∷ fields) h =
    let first = and_parts (is_field field) (list_all is_field fields) h in
    rw ((field_parts field first.0).0, field_items fields first.1) refl

stamp_is : (stamp : ℕ) (fields : List (List ℕ)) → AreFields stamp fields
    → line_stamp (50 ∷ spaced fields) ≡ Some stamp
stamp_is stamp fields h =
    let each = list_all-from_AllPass is_field fields h.each in
    rw (words_are (50 ∷ []) fields refl each, field_items fields each, h.header_size) h.made

pub header_is : (stamp : ℕ) (fields : List (List ℕ)) (rest : List ℕ) → AreFields stamp fields
    → header_at (fields_text fields ++ rest) ≡ Ok (stamp, rest)
header_is stamp fields rest h =
    let whole : fields_text fields ++ rest ≡ (50 ∷ spaced fields) ++ 10 ∷ rest = ap (λ (text : List ℕ). 50 ∷ text) (append_assoc (spaced fields) (10 ∷ []) rest) in
    let found = first_line_is (50 ∷ spaced fields) rest (unended_fields fields (list_all-from_AllPass is_field fields h.each)) in
    ap header_at whole ∙ rw (found, stamp_is stamp fields h) refl

-- ---- the message header

header_from : (head sized : List ℕ) (size : ℕ) → length head ≡ 30
    → take 4 head ≡ 1 ∷ 2 ∷ 78 ∷ 32 ∷ [] → slice_index head 12 ≡ 32 → slice_index head 29 ≡ 10
    → take 16 (drop 13 head) ≡ sized → length sized ≡ 16 → are_hex sized ≡ true
    → digits_value 16 sized ≡ size → header_size head ≡ Some size
header_from head sized size a b c d e f g h = rw (a, b, c, d, e, f, g, h) refl

read_from : (head rest : List ℕ) (size : ℕ) → length head ≡ 30 → header_size head ≡ Some size
    → size_at (head ++ rest) ≡ Ok (size, rest)
read_from head rest size long found = rw (take_at head rest 30 long, drop_at head rest 30 long, found) refl

pub size_is : (size : ℕ) (filler sized rest : List ℕ) → IsMessageHeader size filler sized
    → size_at (size_text filler sized ++ rest) ≡ Ok (size, rest)
size_is size filler sized rest h =
    let head = size_text filler sized in
    let behind_sized = sized ++ 10 ∷ [] in
    let long : length head ≡ 30 = omega (arith, length-append filler (32 ∷ behind_sized), length-append sized (10 ∷ []), h.filled, h.wide) in
    let space : slice_index head 12 ≡ 32 = get_behind filler (32 ∷ behind_sized) 8 0 h.filled in
    let feed : slice_index head 29 ≡ 10 = get_behind filler (32 ∷ behind_sized) 8 17 h.filled ∙ get_or_at sized 10 [] 0 16 h.wide in
    let digits : take 16 (drop 13 head) ≡ sized = ap (take 16) (behind filler (32 ∷ behind_sized) 8 1 h.filled) ∙ take_at sized (10 ∷ []) 16 h.wide in
    let found : header_size head ≡ Some size = header_from head sized size long refl space feed digits h.wide h.hex h.same in
    read_from head rest size long found

-- ---- the message

pub message_is : (message rest : List ℕ)
    → message_at (length message) (message ++ rest) ≡ Ok (message, rest)
message_is message rest =
    let long : ltb (length (message ++ rest)) (length message) ≡ false = le-ltb _ _ (omega (arith, length-append message rest)) in
    rw (long, take_at message rest (length message) refl, drop_at message rest (length message) refl) refl

-- ---- the metadata

pub regrouped : (entry more rest : List ℕ)
    → ((entry ++ 10 ∷ []) ++ more ++ 10 ∷ []) ++ rest ≡ entry ++ 10 ∷ ((more ++ 10 ∷ []) ++ rest)
regrouped entry more rest =
    append_assoc ((entry ++ 10 ∷ []) ++ more) (10 ∷ []) rest ∙ append_assoc (entry ++ 10 ∷ []) more (10 ∷ rest) ∙ append_assoc entry (10 ∷ []) (more ++ 10 ∷ rest)
    ∙ ap (λ (text : List ℕ). entry ++ 10 ∷ text) (sym (append_assoc more (10 ∷ []) rest))

item_some : (item : List ℕ) → is_item item ≡ true → 0 < length item
item_some [] e = absurd cc
item_some (b ∷ item) e = omega arith

abbrev pub ended : List (List ℕ) → List ℕ
ended entries = flat_map (λ entry. entry ++ 10 ∷ []) entries

lines_are : (entries : List (List ℕ)) (rest : List ℕ) → list_all is_entry entries ≡ true
    → before_empty (slice_split is_feed (entries_text entries ++ rest)) ≡ Some entries
lines_are [] rest h = before_now (slice_split is_feed rest) (some_part rest)
lines_are (entry ∷ entries) rest h =
    let first = and_parts (is_entry entry) (list_all is_entry entries) h in
    let parts = and_parts (is_item entry) (list_all is_unended entry) first.0 in
    let more = entries_text entries ++ rest in
    ap (λ (text : List ℕ). before_empty (slice_split is_feed text)) (regrouped entry (ended entries) rest)
    ∙ ap before_empty (slice_split_at is_feed entry 10 more (none_of is_feed entry parts.1) refl)
    ∙ before_more entry (slice_split is_feed more) (item_some entry parts.0) (some_part more)
    ∙ ap (option_map (λ others. entry ∷ others)) (lines_are entries rest first.1)

entry_items : (entries : List (List ℕ)) → list_all is_entry entries ≡ true
    → list_all is_item entries ≡ true
entry_items [] h = refl
entry_items (entry ∷ entries) h =
    let first = and_parts (is_entry entry) (list_all is_entry entries) h in
    let parts = and_parts (is_item entry) (list_all is_unended entry) first.0 in
    rw (parts.0, entry_items entries first.1) refl

pub entries_are : (m : BoxContent) (entries : List (List ℕ)) (rest : List ℕ) → AreEntries m entries
    → entries_of (entries_text entries ++ rest) ≡ Some entries
entries_are m entries rest h =
    let each = list_all-from_AllPass is_entry entries h.each in
    rw (lines_are entries rest each, entry_items entries each) refl

content_is : (m : BoxContent) (entries : List (List ℕ)) → AreEntries m entries
    → content_from m.stamp m.bytes entries ≡ Ok m
content_is m entries h = rw (h.guid, h.received, h.physical, h.as_sent, ← h.others) refl

-- ---- the whole file

pub read_again : (m : BoxContent) (b : List ℕ) → BoxText m b → box_content b ≡ Ok m
read_again m b t =
    let behind_metadata = entries_text t.entries ++ t.rest in
    let behind_message = trailer ++ behind_metadata in
    let behind_header = m.bytes ++ behind_message in
    ap box_content t.text
    ∙ rw (header_is m.stamp t.fields (size_text t.filler t.sized ++ behind_header) t.are_fields, size_is (length m.bytes) t.filler t.sized behind_header t.is_header, message_is m.bytes behind_message, entries_are m t.entries t.rest t.are_entries) (content_is m t.entries t.are_entries)
