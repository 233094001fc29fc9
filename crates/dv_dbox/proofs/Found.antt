-- What is read is a text of the format.
use Rattle.std.proofs.Common.{◌≡◌, ℕ, ◌+◌, ◌<◌, Bool, true, false, not, ◌&&◌, cond, eqb, ltb, leb, List, [], ◌∷◌, ◌++◌, length, take, drop, get_or, Option, Some, None, Result, Ok, Err, refl, sym, ap, subst, ◌∙◌, append_assoc, arith}
use Rattle.std.specs.Prelude.{bytes_eq, codes, filter, slice_index}
use Rattle.std.specs.List.{join_with_byte, list_all, onto_first, position, position_or_len, slice_split}
use Rattle.std.specs.Option.{ok_or, option_and_then, option_map}
use Rattle.std.specs.Str.Parse.{digits_value}
use Rattle.std.proofs.lemmas.Bool.{and_parts, eqb-true, ltb-false}
use Rattle.std.proofs.lemmas.List.{append-nil, drop-drop, drop_all, drop_more, get_or-take, length-append, length-drop, length-take, nil_from_length, take-append-drop}
use Rattle.std.proofs.lemmas.List.Folds.{list_all-append}
use Rattle.std.proofs.lemmas.List.Splits.{join_with_byte-slice_split}
use Rattle.std.proofs.lemmas.List.Sums.{AllPass-from_list_all, fails_before_first, list_all-from_AllPass, passes_at_first, split_at_first}
use Rattle.std.proofs.lemmas.Slice.Eq.{bytes_eq-Decides}
use Rattle.dv_fields.proofs.FirstLines.{position-some}
use Rattle.dv_dbox.specs.BoxTexts.{◌>>=◌, are_hex, AreEntries, AreFields, BadEnd, BadHeader, BadMessageHeader, BadMetadata, BadSize, before_empty, box_content, BoxContent, BoxFault, BoxText, content_from, end_at, entries_of, entries_text, fields_of, fields_text, first_line, guid_number, header_at, header_size, hex_number, is_entry, is_feed, is_field, is_header_size, is_item, is_other, is_space, IsMessageHeader, line_stamp, message_at, size_at, size_text, stamp_of, trailer, value_at, value_of}
use Rattle.dv_dbox.proofs.Again.{ended, is_plain, is_unended, regrouped, spaced}

-- ---- steps that did not fail

bind_ok : {A B : Type 0} (r : Result A BoxFault) (f : A → Result B BoxFault) (y : B)
    → (r >>= f) ≡ Ok y → (x : A) × (r ≡ Ok x) × (f x ≡ Ok y)
bind_ok (Ok x) f y e = (x, refl, e)
bind_ok (Err d) f y e = absurd cc

ok_some : {A : Type 0} (o : Option A) (d : BoxFault) (x : A) → ok_or o d ≡ Ok x → o ≡ Some x
ok_some None d x e = absurd cc
ok_some {A = A} (Some y) d x e = let same : y ≡ x = cc in ap (λ (z : A). Some z) same

then_some : {A B : Type 0} (f : A → Option B) (o : Option A) (y : B) → option_and_then f o ≡ Some y
    → (x : A) × (o ≡ Some x) × (f x ≡ Some y)
then_some f None y e = absurd cc
then_some f (Some x) y e = (x, refl, e)

map_some : {A B : Type 0} (f : A → B) (o : Option A) (y : B) → option_map f o ≡ Some y
    → (x : A) × (o ≡ Some x) × (f x ≡ y)
map_some f None y e = absurd cc
map_some f (Some x) y e = let same : f x ≡ y = cc in (x, refl, same)

guard_some : {A : Type 0} (b : Bool) (o : Option A) (y : A) → cond b o None ≡ Some y
    → (b ≡ true) × (o ≡ Some y)
guard_some true o y e = (refl, e)
guard_some false o y e = absurd cc

-- ---- the first line

first_parts : (text line rest : List ℕ) → first_line text ≡ Some (line, rest)
    → (text ≡ line ++ 10 ∷ rest) × (list_all is_unended line ≡ true)
first_parts text line rest e = by_place (position is_feed text) refl e
  where
    by_place : (o : Option ℕ) → position is_feed text ≡ o → option_map {U = List ℕ × List ℕ} (λ i. (take i text, drop (i + 1) text)) o ≡ Some (line, rest) → (text ≡ line ++ 10 ∷ rest) × (list_all is_unended line ≡ true)
    by_place None h f = absurd cc
    by_place (Some i) h f =
        let at = position-some is_feed text i h in
        let n = position_or_len is_feed text in
        let lt : n < length text = omega (arith, at.0, at.1) in
        let feed : get_or text n 0 ≡ 10 = eqb-true _ _ (passes_at_first is_feed text 0 lt) in
        let whole : text ≡ take n text ++ 10 ∷ drop (n + 1) text = split_at_first is_feed text 0 lt ∙ ap (λ (b : ℕ). take n text ++ b ∷ drop (n + 1) text) feed in
        let unended : list_all is_unended (take n text) ≡ true =
        list_all-from_AllPass is_unended (take n text) (λ k d le. let below : k < n = omega (arith, length-take n text) in rw (get_or-take n text k d below, fails_before_first is_feed text k d below) refl) in
        let cut : ℕ → List ℕ × List ℕ = λ k. (take k text, drop (k + 1) text) in
        let found : List ℕ × List ℕ = (line, rest) in
        let here : cut i ≡ found = cc in
        subst (λ (x : List ℕ × List ℕ). (text ≡ x.0 ++ 10 ∷ x.1) × (list_all is_unended x.0 ≡ true)) (ap cut at.0 ∙ here) (whole, unended)

-- no part has the byte at which the text was cut
abbrev is_free : (ℕ → Bool) → List ℕ → Bool
is_free p part = list_all (λ b. not (p b)) part

onto_free : (p : ℕ → Bool) (b : ℕ) (parts : List (List ℕ)) → p b ≡ false
    → list_all (is_free p) parts ≡ true → list_all (is_free p) (onto_first b parts) ≡ true
onto_free p b [] e h = rw e refl
onto_free p b (part ∷ parts) e h = rw e h

parts_free : (p : ℕ → Bool) (text : List ℕ) → list_all (is_free p) (slice_split p text) ≡ true
parts_free p [] = refl
parts_free p (b ∷ text) = by_byte (p b) refl (parts_free p text)
  where
    by_byte : (t : Bool) → p b ≡ t → list_all (is_free p) (slice_split p text) ≡ true
        → list_all (is_free p) (cond t ([] ∷ slice_split p text) (onto_first b (slice_split p text))) ≡ true
    by_byte true e h = h
    by_byte false e h = onto_free p b (slice_split p text) e h

joined : (word : List ℕ) (fields : List (List ℕ))
    → join_with_byte 32 (word ∷ fields) ≡ word ++ spaced fields
joined word [] = sym (append-nil word)
joined word (field ∷ fields) = ap (λ (text : List ℕ). word ++ 32 ∷ text) (joined field fields)

plain_of : (text : List ℕ) → is_free is_space text ≡ true → list_all is_unended text ≡ true
    → list_all is_plain text ≡ true
plain_of [] a b = refl
plain_of (c ∷ text) a b =
    let first = and_parts (not (is_space c)) (is_free is_space text) a in
    let second = and_parts (is_unended c) (list_all is_unended text) b in
    rw (first.0, second.0, plain_of text first.1 second.1) refl

fields_of_parts : (fields : List (List ℕ)) → list_all is_item fields ≡ true
    → list_all (is_free is_space) fields ≡ true → list_all is_unended (spaced fields) ≡ true
    → list_all is_field fields ≡ true
fields_of_parts [] items free unended = refl
fields_of_parts (field ∷ fields) items free unended =
    let first = and_parts (is_item field) (list_all is_item fields) items in
    let second = and_parts (is_free is_space field) (list_all (is_free is_space) fields) free in
    let third = and_parts (list_all is_unended field) (list_all is_unended (spaced fields)) (sym (list_all-append is_unended field (spaced fields)) ∙ unended) in
    rw (first.0, plain_of field second.0 third.0, fields_of_parts fields first.1 second.1 third.1) refl

record HasFields (stamp : ℕ) (line : List ℕ) : Type 0 where
  pub fields : List (List ℕ)
  pub spelled : line ≡ 50 ∷ spaced fields
  pub are : AreFields stamp fields

fields_found : (stamp : ℕ) (line : List ℕ) → list_all is_unended line ≡ true
    → line_stamp line ≡ Some stamp → HasFields stamp line
fields_found stamp line unended e = by_parts (slice_split is_space line) refl
  where
    by_parts : (parts : List (List ℕ)) → slice_split is_space line ≡ parts → HasFields stamp line
    by_parts [] h = let f : option_and_then stamp_of (fields_of []) ≡ Some stamp = sym (ap (λ (ps : List (List ℕ)). option_and_then stamp_of (fields_of ps)) h) ∙ e in absurd cc
    by_parts (version ∷ fields) h =
        let f : option_and_then stamp_of (fields_of (version ∷ fields)) ≡ Some stamp = sym (ap (λ (ps : List (List ℕ)). option_and_then stamp_of (fields_of ps)) h) ∙ e in
        let behind = then_some stamp_of (fields_of (version ∷ fields)) stamp f in
        let two = guard_some (bytes_eq version (codes "2")) (Some fields) behind.0 behind.1 in
        let same : fields ≡ behind.0 = cc in
        let is_two : version ≡ 50 ∷ [] = (bytes_eq-Decides version (codes "2")).0 two.0 in
        let stamped : stamp_of fields ≡ Some stamp = ap stamp_of same ∙ behind.2 in
        let tests = guard_some (list_all is_item fields && is_header_size (value_of 77 fields)) (option_and_then (hex_number 8) (value_of 67 fields)) stamp stamped in
        let both = and_parts (list_all is_item fields) (is_header_size (value_of 77 fields)) tests.0 in
        let whole : line ≡ 50 ∷ spaced fields = sym (join_with_byte-slice_split 32 line) ∙ ap (join_with_byte 32) h ∙ joined version fields ∙ ap (λ (v : List ℕ). v ++ spaced fields) is_two in
        let free : list_all (is_free is_space) (version ∷ fields) ≡ true = sym (ap (list_all (is_free is_space)) h) ∙ parts_free is_space line in
        let behind_version = and_parts (is_free is_space version) (list_all (is_free is_space) fields) free in
        let unended_fields : list_all is_unended (spaced fields) ≡ true = sym (ap (list_all is_unended) whole) ∙ unended in
        record {
          fields = fields;
          spelled = whole;
          are = record { each = AllPass-from_list_all is_field fields (fields_of_parts fields both.0 behind_version.1 unended_fields); header_size = both.1; made = tests.1 };
        }

record HasHeader (stamp : ℕ) (b rest : List ℕ) : Type 0 where
  pub fields : List (List ℕ)
  pub spelled : b ≡ fields_text fields ++ rest
  pub are : AreFields stamp fields

header_found : (b : List ℕ) (x : ℕ × List ℕ) → header_at b ≡ Ok x → HasHeader x.0 b x.1
header_found b x e =
    let line = bind_ok (ok_or (first_line b) BadHeader) (λ line. ok_or (line_stamp line.0) BadHeader >>= λ stamp. Ok (stamp, line.1)) x e in
    let stamp = bind_ok (ok_or (line_stamp line.0.0) BadHeader) (λ stamp. Ok (stamp, line.0.1)) x line.2 in
    let parts = first_parts b line.0.0 line.0.1 (ok_some (first_line b) BadHeader line.0 line.1) in
    let has = fields_found stamp.0 line.0.0 parts.1 (ok_some (line_stamp line.0.0) BadHeader stamp.0 stamp.1) in
    let made : ℕ × List ℕ = (stamp.0, line.0.1) in
    let same : made ≡ x = cc in
    let whole : b ≡ fields_text has.fields ++ line.0.1 =
    parts.0 ∙ ap (λ (text : List ℕ). text ++ 10 ∷ line.0.1) has.spelled ∙ ap (λ (text : List ℕ). 50 ∷ text) (sym (append_assoc (spaced has.fields) (10 ∷ []) line.0.1)) in
    subst (λ (y : ℕ × List ℕ). HasHeader y.0 b y.1) same (record { fields = has.fields; spelled = whole; are = has.are })

-- ---- the message header

head_is : (head : List ℕ) → length head ≡ 30 → take 4 head ≡ 1 ∷ 2 ∷ 78 ∷ 32 ∷ []
    → slice_index head 12 ≡ 32 → slice_index head 29 ≡ 10
    → head ≡ size_text (take 8 (drop 4 head)) (take 16 (drop 13 head))
head_is head long mark space feed =
    let nothing : drop 30 head ≡ [] = drop_all 30 head (omega arith) in
    let last : drop 29 head ≡ 10 ∷ [] = drop_more head 29 0 (omega arith) ∙ ap (λ (b : ℕ). b ∷ drop 30 head) feed ∙ ap (λ (text : List ℕ). 10 ∷ text) nothing in
    let sized : drop 13 head ≡ take 16 (drop 13 head) ++ 10 ∷ [] = sym (take-append-drop 16 (drop 13 head)) ∙ ap (λ (text : List ℕ). take 16 (drop 13 head) ++ text) (drop-drop 16 13 head ∙ last) in
    let middle : drop 12 head ≡ 32 ∷ (take 16 (drop 13 head) ++ 10 ∷ []) = drop_more head 12 0 (omega arith) ∙ ap (λ (b : ℕ). b ∷ drop 13 head) space ∙ ap (λ (text : List ℕ). 32 ∷ text) sized in
    let filled : drop 4 head ≡ take 8 (drop 4 head) ++ 32 ∷ (take 16 (drop 13 head) ++ 10 ∷ []) = sym (take-append-drop 8 (drop 4 head)) ∙ ap (λ (text : List ℕ). take 8 (drop 4 head) ++ text) (drop-drop 8 4 head ∙ middle) in
    sym (take-append-drop 4 head) ∙ ap (λ (front : List ℕ). front ++ drop 4 head) mark ∙ ap (λ (text : List ℕ). 1 ∷ 2 ∷ 78 ∷ 32 ∷ text) filled

record HasSize (size : ℕ) (b rest : List ℕ) : Type 0 where
  pub filler : List ℕ
  pub sized : List ℕ
  pub spelled : b ≡ size_text filler sized ++ rest
  pub is : IsMessageHeader size filler sized

size_of_head : (head : List ℕ) (size : ℕ) (rest : List ℕ) → header_size head ≡ Some size
    → HasSize size (head ++ rest) rest
size_of_head head size rest e =
    let tests = guard_some (eqb (length head) 30 && bytes_eq (take 4 head) (1 ∷ 2 ∷ 78 ∷ 32 ∷ []) && eqb (slice_index head 12) 32 && eqb (slice_index head 29) 10) (hex_number 16 (take 16 (drop 13 head))) size e in
    let three = and_parts (eqb (length head) 30 && bytes_eq (take 4 head) (1 ∷ 2 ∷ 78 ∷ 32 ∷ []) && eqb (slice_index head 12) 32) (eqb (slice_index head 29) 10) tests.0 in
    let two = and_parts (eqb (length head) 30 && bytes_eq (take 4 head) (1 ∷ 2 ∷ 78 ∷ 32 ∷ [])) (eqb (slice_index head 12) 32) three.0 in
    let one = and_parts (eqb (length head) 30) (bytes_eq (take 4 head) (1 ∷ 2 ∷ 78 ∷ 32 ∷ [])) two.0 in
    let long : length head ≡ 30 = eqb-true _ _ one.0 in
    let sized = take 16 (drop 13 head) in
    let digits = guard_some (leb 1 (length sized) && leb (length sized) 16 && are_hex sized) (Some (digits_value 16 sized)) size tests.1 in
    let hex = and_parts (leb 1 (length sized) && leb (length sized) 16) (are_hex sized) digits.0 in
    let same : digits_value 16 sized ≡ size = cc in
    record {
      filler = take 8 (drop 4 head);
      sized = sized;
      spelled = ap (λ (front : List ℕ). front ++ rest) (head_is head long ((bytes_eq-Decides (take 4 head) (1 ∷ 2 ∷ 78 ∷ 32 ∷ [])).0 one.1) (eqb-true _ _ two.1) (eqb-true _ _ three.1));
      is = record { filled = omega (arith, length-take 8 (drop 4 head), length-drop 4 head, long); wide = omega (arith, length-take 16 (drop 13 head), length-drop 13 head, long); hex = hex.1; same = same };
    }

size_found : (b : List ℕ) (x : ℕ × List ℕ) → size_at b ≡ Ok x → HasSize x.0 b x.1
size_found b x e =
    let size = bind_ok (ok_or (header_size (take 30 b)) BadMessageHeader) (λ size. Ok (size, drop 30 b)) x e in
    let has = size_of_head (take 30 b) size.0 (drop 30 b) (ok_some (header_size (take 30 b)) BadMessageHeader size.0 size.1) in
    let made : ℕ × List ℕ = (size.0, drop 30 b) in
    let same : made ≡ x = cc in
    subst (λ (y : ℕ × List ℕ). HasSize y.0 b y.1) same (record { filler = has.filler; sized = has.sized; spelled = sym (take-append-drop 30 b) ∙ has.spelled; is = has.is })

-- ---- the message

message_found : (size : ℕ) (b : List ℕ) (x : List ℕ × List ℕ) → message_at size b ≡ Ok x
    → (b ≡ x.0 ++ x.1) × (length x.0 ≡ size)
message_found size b x e = by_length (ltb (length b) size) refl e
  where
    by_length : (t : Bool) → ltb (length b) size ≡ t → cond {A = Result (List ℕ × List ℕ) BoxFault} t (Err BadSize) (Ok (take size b, drop size b)) ≡ Ok x → (b ≡ x.0 ++ x.1) × (length x.0 ≡ size)
    by_length true h f = absurd cc
    by_length false h f =
        let made : List ℕ × List ℕ = (take size b, drop size b) in
        let same : made ≡ x = cc in
        subst (λ (y : List ℕ × List ℕ). (b ≡ y.0 ++ y.1) × (length y.0 ≡ size)) same (sym (take-append-drop size b), omega (arith, length-take size b, ltb-false _ _ h))

end_found : (b rest : List ℕ) → end_at b ≡ Ok rest → b ≡ trailer ++ rest
end_found b rest e = by_front (bytes_eq (take 4 b) trailer) refl e
  where
    by_front : (t : Bool) → bytes_eq (take 4 b) trailer ≡ t → cond {A = Result (List ℕ) BoxFault} t (Ok (drop 4 b)) (Err BadEnd) ≡ Ok rest → b ≡ trailer ++ rest
    by_front false h f = absurd cc
    by_front true h f =
        let same : drop 4 b ≡ rest = cc in
        sym (take-append-drop 4 b) ∙ ap (λ (front : List ℕ). front ++ drop 4 b) ((bytes_eq-Decides (take 4 b) trailer).0 h) ∙ ap (λ (text : List ℕ). trailer ++ text) same

-- ---- the metadata

record IsBefore (entries parts : List (List ℕ)) : Type 0 where
  pub part : List ℕ
  pub more : List (List ℕ)
  pub spelled : parts ≡ entries ++ [] ∷ part ∷ more

before_parts : (parts entries : List (List ℕ)) → before_empty parts ≡ Some entries
    → IsBefore entries parts
before_parts [] entries e = absurd cc
before_parts (part ∷ []) entries e = absurd cc
before_parts (part ∷ next ∷ parts) entries e = by_part (eqb (length part) 0) refl e (λ others. before_parts (next ∷ parts) others)
  where
    by_part : (t : Bool) → eqb (length part) 0 ≡ t
        → cond t (Some []) (option_map (λ others. part ∷ others) (before_empty (next ∷ parts))) ≡ Some entries
        → ((others : List (List ℕ)) → before_empty (next ∷ parts) ≡ Some others → IsBefore others (next ∷ parts))
        → IsBefore entries (part ∷ next ∷ parts)
    by_part true h f more =
        let none : part ≡ [] = nil_from_length part (eqb-true _ _ h) in
        let nothing : [] ≡ entries = cc in
        record { part = next; more = parts; spelled = rw (none, ← nothing) refl }
    by_part false h f more =
        let others = map_some (λ others. part ∷ others) (before_empty (next ∷ parts)) entries f in
        let is = more others.0 others.1 in
        record { part = is.part; more = is.more; spelled = ap (λ (ps : List (List ℕ)). part ∷ ps) is.spelled ∙ ap (λ (es : List (List ℕ)). es ++ [] ∷ is.part ∷ is.more) others.2 }

joined_more : (part : List ℕ) (parts : List (List ℕ)) → 0 < length parts
    → join_with_byte 10 (part ∷ parts) ≡ part ++ 10 ∷ join_with_byte 10 parts
joined_more part [] some = absurd (omega arith)
joined_more part (next ∷ parts) some = refl

joined_lines : (entries : List (List ℕ)) (part : List ℕ) (more : List (List ℕ))
    → join_with_byte 10 (entries ++ [] ∷ part ∷ more) ≡ entries_text entries ++ join_with_byte 10 (part ∷ more)
joined_lines [] part more = refl
joined_lines (entry ∷ entries) part more =
    joined_more entry (entries ++ [] ∷ part ∷ more) (omega (arith, length-append entries ([] ∷ part ∷ more)))
    ∙ ap (λ (text : List ℕ). entry ++ 10 ∷ text) (joined_lines entries part more)
    ∙ sym (regrouped entry (ended entries) (join_with_byte 10 (part ∷ more)))

entries_of_parts : (entries : List (List ℕ)) → list_all is_item entries ≡ true
    → list_all (is_free is_feed) entries ≡ true → list_all is_entry entries ≡ true
entries_of_parts [] items free = refl
entries_of_parts (entry ∷ entries) items free =
    let first = and_parts (is_item entry) (list_all is_item entries) items in
    let second = and_parts (is_free is_feed entry) (list_all (is_free is_feed) entries) free in
    rw (first.0, second.0, entries_of_parts entries first.1 second.1) refl

record HasEntries (entries : List (List ℕ)) (b : List ℕ) : Type 0 where
  pub rest : List ℕ
  pub spelled : b ≡ entries_text entries ++ rest
  pub each : list_all is_entry entries ≡ true

entries_found : (b : List ℕ) (entries : List (List ℕ)) → entries_of b ≡ Some entries
    → HasEntries entries b
entries_found b entries e =
    let lines = then_some (λ lines. cond (list_all is_item lines) (Some lines) None) (before_empty (slice_split is_feed b)) entries e in
    let items = guard_some (list_all is_item lines.0) (Some lines.0) entries lines.2 in
    let same : lines.0 ≡ entries = cc in
    let is = before_parts (slice_split is_feed b) lines.0 lines.1 in
    let whole : b ≡ entries_text lines.0 ++ join_with_byte 10 (is.part ∷ is.more) = sym (join_with_byte-slice_split 10 b) ∙ ap (join_with_byte 10) is.spelled ∙ joined_lines lines.0 is.part is.more in
    let free : list_all (is_free is_feed) (lines.0 ++ [] ∷ is.part ∷ is.more) ≡ true = sym (ap (list_all (is_free is_feed)) is.spelled) ∙ parts_free is_feed b in
    let front = and_parts (list_all (is_free is_feed) lines.0) (list_all (is_free is_feed) ([] ∷ is.part ∷ is.more)) (sym (list_all-append (is_free is_feed) lines.0 ([] ∷ is.part ∷ is.more)) ∙ free) in
    subst (λ (es : List (List ℕ)). HasEntries es b) same (record { rest = join_with_byte 10 (is.part ∷ is.more); spelled = whole; each = entries_of_parts lines.0 items.0 front.0 })

abbrev content_with : ℕ → List ℕ → List (List ℕ) → Option (List ℕ) → Option ℕ → Option ℕ → Option ℕ
    → BoxContent
content_with stamp bytes entries guid received physical as_sent =
    record { stamp = stamp; bytes = bytes; guid = guid; received = received; physical = physical; virtual_size = as_sent; others = filter is_other entries }

record HasContent (stamp : ℕ) (bytes : List ℕ) (entries : List (List ℕ)) (m : BoxContent) : Type 0 where
  pub stamped : m.stamp ≡ stamp
  pub held : m.bytes ≡ bytes
  pub are : AreEntries m entries

content_found : (stamp : ℕ) (bytes : List ℕ) (entries : List (List ℕ)) (m : BoxContent)
    → list_all is_entry entries ≡ true → content_from stamp bytes entries ≡ Ok m
    → HasContent stamp bytes entries m
content_found stamp bytes entries m each e =
    let guid = bind_ok (value_at guid_number 71 entries) (λ guid. value_at (hex_number 16) 82 entries >>= λ received. value_at (hex_number 16) 90 entries >>= λ physical. value_at (hex_number 16) 86 entries >>= λ as_sent. Ok (content_with stamp bytes entries guid received physical as_sent)) m e in
    let received = bind_ok (value_at (hex_number 16) 82 entries) (λ received. value_at (hex_number 16) 90 entries >>= λ physical. value_at (hex_number 16) 86 entries >>= λ as_sent. Ok (content_with stamp bytes entries guid.0 received physical as_sent)) m guid.2 in
    let physical = bind_ok (value_at (hex_number 16) 90 entries) (λ physical. value_at (hex_number 16) 86 entries >>= λ as_sent. Ok (content_with stamp bytes entries guid.0 received.0 physical as_sent)) m received.2 in
    let as_sent = bind_ok (value_at (hex_number 16) 86 entries) (λ as_sent. Ok (content_with stamp bytes entries guid.0 received.0 physical.0 as_sent)) m physical.2 in
    let made : BoxContent = content_with stamp bytes entries guid.0 received.0 physical.0 as_sent.0 in
    let same : made ≡ m = cc in
    let are : AreEntries made entries = record { each = AllPass-from_list_all is_entry entries each; guid = guid.1; received = received.1; physical = physical.1; as_sent = as_sent.1; others = refl } in
    subst (HasContent stamp bytes entries) same (record { stamped = refl; held = refl; are = are })

-- ---- the whole file

pub text_found : (b : List ℕ) (m : BoxContent) → box_content b ≡ Ok m → BoxText m b
text_found b m e =
    let header = bind_ok (header_at b) (λ header. size_at header.1 >>= λ size. message_at size.0 size.1 >>= λ message. end_at message.1 >>= λ rest. ok_or (entries_of rest) BadMetadata >>= λ entries. content_from header.0 message.0 entries) m e in
    let size = bind_ok (size_at header.0.1) (λ size. message_at size.0 size.1 >>= λ message. end_at message.1 >>= λ rest. ok_or (entries_of rest) BadMetadata >>= λ entries. content_from header.0.0 message.0 entries) m header.2 in
    let message = bind_ok (message_at size.0.0 size.0.1) (λ message. end_at message.1 >>= λ rest. ok_or (entries_of rest) BadMetadata >>= λ entries. content_from header.0.0 message.0 entries) m size.2 in
    let rest = bind_ok (end_at message.0.1) (λ rest. ok_or (entries_of rest) BadMetadata >>= λ entries. content_from header.0.0 message.0.0 entries) m message.2 in
    let entries = bind_ok (ok_or (entries_of rest.0) BadMetadata) (λ entries. content_from header.0.0 message.0.0 entries) m rest.2 in
    let first = header_found b header.0 header.1 in
    let second = size_found header.0.1 size.0 size.1 in
    let third = message_found size.0.0 size.0.1 message.0 message.1 in
    let fourth = end_found message.0.1 rest.0 rest.1 in
    let fifth = entries_found rest.0 entries.0 (ok_some (entries_of rest.0) BadMetadata entries.0 entries.1) in
    let sixth = content_found header.0.0 message.0.0 entries.0 m fifth.each entries.2 in
    let five : rest.0 ≡ entries_text entries.0 ++ fifth.rest = fifth.spelled in
    let four : message.0.1 ≡ trailer ++ (entries_text entries.0 ++ fifth.rest) = fourth ∙ ap (λ (text : List ℕ). trailer ++ text) five in
    let three : size.0.1 ≡ m.bytes ++ (trailer ++ (entries_text entries.0 ++ fifth.rest)) = third.0 ∙ ap (λ (text : List ℕ). message.0.0 ++ text) four ∙ ap (λ (bytes : List ℕ). bytes ++ (trailer ++ (entries_text entries.0 ++ fifth.rest))) (sym sixth.held) in
    let two : header.0.1 ≡ size_text second.filler second.sized ++ (m.bytes ++ (trailer ++ (entries_text entries.0 ++ fifth.rest))) = second.spelled ∙ ap (λ (text : List ℕ). size_text second.filler second.sized ++ text) three in
    record {
      fields = first.fields;
      filler = second.filler;
      sized = second.sized;
      entries = entries.0;
      rest = fifth.rest;
      text = first.spelled ∙ ap (λ (text : List ℕ). fields_text first.fields ++ text) two;
      are_fields = subst (λ (stamp : ℕ). AreFields stamp first.fields) (sym sixth.stamped) first.are;
      is_header = subst (λ (n : ℕ). IsMessageHeader n second.filler second.sized) (sym third.1 ∙ ap length (sym sixth.held)) second.is;
      are_entries = sixth.are;
    }
