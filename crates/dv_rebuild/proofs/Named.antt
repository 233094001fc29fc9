-- The records of a rebuilt log give the kept messages their salvaged keywords, and no extension.
use Rattle.std.proofs.Common.{◌≡◌, ◌≢◌, ℕ, zero, suc, ◌+◌, ◌-◌, ◌*◌, ◌/◌, ◌<◌, ◌≤◌, Bool, true, false, cond, ◌&&◌, ◌||◌, nat_eq, nat_le, nat_lt, List, [], ◌∷◌, ◌++◌, length, map, take, drop, get_or, All, AllPairs, Option, Some, None, refl, sym, ◌∙◌, ap, subst, arith, append_assoc}
use Rattle.std.proofs.Math.Bool.{and-true, or-false, or_assoc}
use Rattle.std.specs.Prelude.{bytes_eq, filter, find, flat_map, fold, if◌then◌else◌, max, option_map, slice_get, unwrap_or}
use Rattle.std.specs.Int.{w32, to_le_bytes}
use Rattle.std.specs.List.{AllByRecursion, enumerate_from, list_any}
use Rattle.std.specs.List.Sorted.{IsStrictlyIncreasing}
use Rattle.std.proofs.lemmas.Bool.{eq-eqb, eqb-true, eqb-false, false_from_ne_true, le-ltb, ne_eqb}
use Rattle.std.proofs.lemmas.Bool.Decides.{nat_tests}
use Rattle.std.proofs.lemmas.List.{append-nil, get_or_push, length-drop, length_push, map-append, map-id, take-append-drop}
use Rattle.std.proofs.lemmas.List.Elements.{All-head, All-map, All-nil, All-push, All-tail, All-weaker}
use Rattle.std.proofs.lemmas.List.Folds.{list_any-append, list_any_at}
use Rattle.std.proofs.lemmas.Map.Views.{any-filter_same}
use Rattle.std.proofs.lemmas.Option.{option_and_then_some, unwrap_or-slice_get}
use Rattle.std.proofs.lemmas.Slice.Eq.{bytes_eq-Decides}
use Rattle.dv_model.specs.declared.types.Body.TheVariants as body
use Rattle.dv_model.specs.declared.types.How.TheVariants.{Add}
use Rattle.dv_model.specs.declared.types.Mailbox.{Mailbox}
use Rattle.dv_model.specs.declared.types.NewRow.{NewRow}
use Rattle.dv_model.specs.declared.types.Pair.{Pair}
use Rattle.dv_model.specs.declared.types.Part.{Part}
use Rattle.dv_model.specs.declared.types.Record.{Record}
use Rattle.dv_model.specs.declared.types.Row.{Row}
use Rattle.dv_model.specs.Effects.{after_record, applied, fresh_row, header_number, is_as_before, is_in_pair, is_in_pairs, is_request, keywords_after, place_of, stamped, stamped_row, with_header_part, with_higher, with_keyword, with_keywords, with_name, with_named, with_next_uid, with_place, with_row, with_rows, with_validity}
use Rattle.dv_model.specs.Mailboxes.{IsRowOf, IsValid, empty_mailbox}
use Rattle.dv_model.specs.Sessions.{external_record, first_pieces, keyword_updates, piece_size, pieces, ranges_of, with_uid}
use Rattle.dv_model.specs.Views.{names_of, row_of}
use Rattle.dv_model.proofs.Clients.{each_of_all, names_same}
use Rattle.dv_model.proofs.Transcripts.{applied_append}
use Rattle.dv_formats.proofs.Bits.{Rise}
use Rattle.dv_formats.proofs.Wholes.{rise_of}
use Rattle.dv_keywords.proofs.Finding.{with_last}
use Rattle.dv_keywords.proofs.Lookup.{added, kept, place_of_new}
use Rattle.dv_validity.proofs.Agreeing.{map_same}
use Rattle.dv_validity.proofs.Records.{after_by, by_some}
use Rattle.dv_validity.proofs.Rows.{map_map}
use Rattle.dv_openings.specs.Salvages.{Salvaged, has_keyword, header_record, keyword_records, kept_row, rebuilt_records}
use Rattle.dv_rebuild.specs.Rebuilding.{keyword_names}
use Rattle.dv_rebuild.proofs.Kept.{append_of, head_of, heads}

-- ---- ranges of UIDs

-- a range ends no earlier than it begins
abbrev Ends : Pair → Type 0
Ends pair = pair.first ≤ pair.last

one_in : (uid u : ℕ) → (nat_le uid u && nat_le u uid) ≡ nat_eq u uid
one_in uid u = grind (arith, nat_tests)

joined_in : (uid u first last : ℕ) → uid + 1 ≡ first → first ≤ last → (nat_le uid u && nat_le u last) ≡ (nat_eq u uid || (nat_le first u && nat_le u last))
joined_in uid u first last next ends = grind (arith, nat_tests)

with_uid_ends : (uid : ℕ) (pairs : List Pair) → AllByRecursion Ends pairs → AllByRecursion Ends (with_uid uid pairs)
with_uid_ends uid [] each = (omega arith, tt)
with_uid_ends uid (pair ∷ pairs) each = by_test (nat_eq (uid + 1) pair.first) refl
  where
    by_test : (b : Bool) → nat_eq (uid + 1) pair.first ≡ b → AllByRecursion Ends (cond b (record { first = uid; last = pair.last } ∷ pairs) (record { first = uid; last = uid } ∷ pair ∷ pairs))
    by_test true same =
        let next : uid + 1 ≡ pair.first = eqb-true (uid + 1) pair.first same in
        let ends : pair.first ≤ pair.last = each.0 in (omega arith, each.1)
    by_test false other = (omega arith, each)

in_with_uid : (uid u : ℕ) (pairs : List Pair) → AllByRecursion Ends pairs → is_in_pairs (with_uid uid pairs) u ≡ (nat_eq u uid || is_in_pairs pairs u)
in_with_uid uid u [] each = ap (λ (b : Bool). b || false) (one_in uid u)
in_with_uid uid u (pair ∷ pairs) each = by_test (nat_eq (uid + 1) pair.first) refl
  where
    by_test : (b : Bool) → nat_eq (uid + 1) pair.first ≡ b
        → is_in_pairs (cond b (record { first = uid; last = pair.last } ∷ pairs) (record { first = uid; last = uid } ∷ pair ∷ pairs)) u ≡ (nat_eq u uid || (is_in_pair u pair || is_in_pairs pairs u))
    by_test true same =
        ap (λ (b : Bool). b || is_in_pairs pairs u) (joined_in uid u pair.first pair.last (eqb-true (uid + 1) pair.first same) each.0)
        ∙ or_assoc (nat_eq u uid) (is_in_pair u pair) (is_in_pairs pairs u)
    by_test false other = ap (λ (b : Bool). b || (is_in_pair u pair || is_in_pairs pairs u)) (one_in uid u)

ranges_end : (uids : List ℕ) → AllByRecursion Ends (ranges_of uids)
ranges_end [] = tt
ranges_end (uid ∷ uids) = with_uid_ends uid (ranges_of uids) (ranges_end uids)

-- the ranges of some UIDs have no other
in_ranges : (uids : List ℕ) (u : ℕ) → is_in_pairs (ranges_of uids) u ≡ list_any (nat_eq u) uids
in_ranges [] u = refl
in_ranges (uid ∷ uids) u = in_with_uid uid u (ranges_of uids) (ranges_end uids) ∙ ap (λ (b : Bool). nat_eq u uid || b) (in_ranges uids u)

-- a number of a list is left in it where it passes
pub in_filter : (test : ℕ → Bool) (ns : List ℕ) (n : ℕ) → list_any (nat_eq n) ns ≡ true → list_any (nat_eq n) (filter test ns) ≡ test n
in_filter test ns n there =
    any-filter_same (nat_eq n) test (test n) (λ k same. ap test (sym (eqb-true n k same))) ns ∙ ap (λ (b : Bool). test n && b) there ∙ and-true (test n)

-- ---- names

abbrev names_in : List (List ℕ) → List ℕ → List (List ℕ)
names_in table places = map (λ k. unwrap_or (slice_get table k) []) places

-- the names whose places pass a test
abbrev pub passed : (ℕ → Bool) → List (ℕ × List ℕ) → List (List ℕ)
passed test names = flat_map (λ (name : ℕ × List ℕ). if test name.0 then name.1 ∷ [] else []) names

lacks_smaller : (k n : ℕ) (places : List ℕ) → k < n → Rise n places → list_any (nat_eq k) places ≡ false
lacks_smaller k n [] less up = refl
lacks_smaller k n (p ∷ places) less up =
    ap (λ (b : Bool). b || list_any (nat_eq k) places) (ne_eqb k p (λ e. omega (arith, e, up.0))) ∙ lacks_smaller k (p + 1) places (omega (arith, up.0)) up.1

-- of a table those at rising places are as many, in their order
pub spelled : (names : List (List ℕ)) (at : ℕ) (places : List ℕ) (test : ℕ → Bool) (look : ℕ → List ℕ) → Rise at places → AllByRecursion (λ p. p < at + length names) places
    → ((k : ℕ) → at ≤ k → test k ≡ list_any (nat_eq k) places) → ((i : ℕ) → i < length names → look (at + i) ≡ get_or names i []) → passed test (enumerate_from at names) ≡ map look places
spelled [] at [] test look up below same there = refl
spelled [] at (p ∷ places) test look up below same there = absurd (omega (arith, up.0, below.0))
spelled (name ∷ names) at [] test look up below same there =
    ap (λ (b : Bool). (if b then name ∷ [] else []) ++ passed test (enumerate_from (at + 1) names)) (same at (omega arith))
    ∙ spelled names (at + 1) [] test look tt tt (λ k le. same k (omega (arith, le))) (λ i h. ap look (omega arith) ∙ there (suc i) (omega (arith, h)))
spelled (name ∷ names) at (p ∷ places) test look up below same there =
    by_test (λ is. spelled names (at + 1) places test look (subst (λ (k : ℕ). Rise k places) (omega (arith, is)) up.1) (rest places below.1)
    (λ k le. same k (omega (arith, le)) ∙ ap (λ (b : Bool). b || list_any (nat_eq k) places) (ne_eqb k p (λ e. omega (arith, e, is, le)))) next)
    (λ above. spelled names (at + 1) (p ∷ places) test look (above, up.1) (rest (p ∷ places) below) (λ k le. same k (omega (arith, le))) next)
    (nat_eq at p) refl
  where
    next : (i : ℕ) → i < length names → look (at + 1 + i) ≡ get_or names i []
    next i h = ap look (omega arith) ∙ there (suc i) (omega (arith, h))

    rest : (ps : List ℕ) → AllByRecursion (λ p. p < at + length (name ∷ names)) ps → AllByRecursion (λ p. p < at + 1 + length names) ps
    rest [] all = tt
    rest (k ∷ ps) all = (omega (arith, all.0), rest ps all.1)

    by_test : (at ≡ p → passed test (enumerate_from (at + 1) names) ≡ map look places) → (at + 1 ≤ p → passed test (enumerate_from (at + 1) names) ≡ look p ∷ map look places)
        → (b : Bool) → nat_eq at p ≡ b → passed test (enumerate_from at (name ∷ names)) ≡ look p ∷ map look places
    by_test taken left true here =
        let is : at ≡ p = eqb-true at p here in
        let passes : test at ≡ true = same at (omega arith) ∙ ap (λ (b : Bool). b || list_any (nat_eq at) places) here in
        let first : look p ≡ name = ap look (omega (arith, is)) ∙ there 0 (omega arith) in
        ap (λ (b : Bool). (if b then name ∷ [] else []) ++ passed test (enumerate_from (at + 1) names)) passes
        ∙ ap (λ (n : List ℕ). n ∷ passed test (enumerate_from (at + 1) names)) (sym first) ∙ ap (λ (ns : List (List ℕ)). look p ∷ ns) (taken is)
    by_test taken left false other =
        let above : at + 1 ≤ p = omega (arith, up.0, eqb-false at p other) in
        let fails : test at ≡ false = same at (omega arith) ∙ lacks_smaller at (at + 1) (p ∷ places) (omega arith) (above, up.1) in
        ap (λ (b : Bool). (if b then name ∷ [] else []) ++ passed test (enumerate_from (at + 1) names)) fails ∙ left above

-- ---- rows and their keywords

-- the table, each row's keywords by its UID, and no extension
pub record IsMarked (m : Mailbox) (table : List (List ℕ)) (places : ℕ → List ℕ) : Type 0 where
  pub table_is : m.keywords ≡ table
  pub rows : All (λ row. row.keywords ≡ places row.uid) m.rows
  pub bare : m.extensions ≡ []

abbrev Marks : (ℕ → List ℕ) → Row → Type 0
Marks places row = row.keywords ≡ places row.uid

marked_alike : (m : Mailbox) (table : List (List ℕ)) (places others : ℕ → List ℕ) → ((uid : ℕ) → places uid ≡ others uid) → IsMarked m table places → IsMarked m table others
marked_alike m table places others same is = record {
  table_is = is.table_is;
  rows = All-weaker (Marks places) (Marks others) (λ row e. e ∙ same row.uid) m.rows is.rows;
  bare = is.bare;
}

-- each row is changed, and its keywords as is told
marked_mapped : (m n : Mailbox) (table more : List (List ℕ)) (places others : ℕ → List ℕ) (f : Row → Row) → IsMarked m table places → ((row : Row) → Marks places row → Marks others (f row)) → n.keywords ≡ more → n.extensions ≡ m.extensions → n.rows ≡ map f m.rows
    → IsMarked n more others
marked_mapped m n table more places others f is step names extensions rows = record {
  table_is = names;
  rows = subst (All (Marks others)) (sym rows) (All-map (Marks others) f m.rows (All-weaker (Marks places) (λ row. Marks others (f row)) step m.rows is.rows));
  bare = extensions ∙ is.bare;
}

stamped_marks : (places : ℕ → List ℕ) (n : ℕ) (row : Row) → Marks places row → (b : Bool) → Marks places (cond b row (record row { modseq = n }))
stamped_marks places n row is true = is
stamped_marks places n row is false = is

stamped_marked : (before : List Row) (m : Mailbox) (table : List (List ℕ)) (places : ℕ → List ℕ) → IsMarked m table places → IsMarked (stamped before m) table places
stamped_marked before m table places is =
    marked_mapped m (stamped before m) table table places places (stamped_row before m.highest) is (λ row e. stamped_marks places m.highest row e (list_any (is_as_before row) before)) is.table_is refl refl

-- ---- records in turn

split : {P : Type 0} (rs more : List Record) (m n : Mailbox) → applied m (rs ++ more) ≡ Some n → ((k : Mailbox) → applied m rs ≡ Some k → applied k more ≡ Some n → P) → P
split rs more m n e later = option_and_then_some (λ k. applied k more) (applied m rs) n (sym (applied_append rs more m) ∙ e) later

first_of : {P : Type 0} (r : Record) (rs : List Record) (m n : Mailbox) → applied m (r ∷ rs) ≡ Some n → ((k : Mailbox) → after_record m r ≡ Some k → applied k rs ≡ Some n → P) → P
first_of r rs m n e later = option_and_then_some (λ k. applied k rs) (after_record m r) n e later

-- what each keeps, all keep
all_keep : {X : Type 0} (P : Mailbox → Type 0) (f : X → Record) → ((m n : Mailbox) (x : X) → after_record m (f x) ≡ Some n → P m → P n) → (xs : List X) (m n : Mailbox) → applied m (map f xs) ≡ Some n → P m → P n
all_keep P f step [] m n e is = by_some P m n is e
all_keep P f step (x ∷ xs) m n e is = first_of (f x) (map f xs) m n e (λ k first others. all_keep P f step xs k n others (step m k x first is))

-- ---- the header, and new rows

header_marked : (m : Mailbox) (part : Part) (table : List (List ℕ)) (places : ℕ → List ℕ) → IsMarked m table places → IsMarked (with_header_part m part) table places
header_marked m part table places is = next (with_validity m (header_number part 24)) (header_number part 28) (validity (header_number part 24))
  where
    validity : (o : Option ℕ) → IsMarked (with_validity m o) table places
    validity None = is
    validity (Some v) = record { table_is = is.table_is; rows = is.rows; bare = is.bare }

    next : (k : Mailbox) (o : Option ℕ) → IsMarked k table places → IsMarked (with_next_uid k o) table places
    next k None still = still
    next k (Some v) still = record { table_is = still.table_is; rows = still.rows; bare = still.bare }

higher_marked : (m : Mailbox) (table : List (List ℕ)) (places : ℕ → List ℕ) → IsMarked m table places → IsMarked (with_higher m) table places
higher_marked m table places is = record { table_is = is.table_is; rows = is.rows; bare = is.bare }

-- the part of a header update that gives a number
abbrev part_of : ℕ → ℕ → Part
part_of at v = record { offset = at; bytes = to_le_bytes w32 v }

header_keeps : (m n : Mailbox) (at v : ℕ) (table : List (List ℕ)) (places : ℕ → List ℕ) → after_record m (header_record at v) ≡ Some n → IsMarked m table places → IsMarked n table places
header_keeps m n at v table places e is =
    by_some (λ k. IsMarked k table places) (stamped m.rows (with_header_part (with_higher m) (part_of at v))) n
    (stamped_marked m.rows (with_header_part (with_higher m) (part_of at v)) table places (header_marked (with_higher m) (part_of at v) table places (higher_marked m table places is))) e

-- nothing is marked yet
abbrev pub IsUnmarked : Mailbox → Type 0
IsUnmarked m = IsMarked m [] (λ uid. [])

rows_keep : (m n : Mailbox) (rows : List NewRow) → with_rows m rows ≡ Some n → IsUnmarked m → IsUnmarked n
rows_keep m n [] e is = by_some IsUnmarked m n is e
rows_keep m n (row ∷ rows) e is = by_test (λ taken. rows_keep (with_row m row) n rows taken pushed) (nat_lt row.uid m.next_uid) e
  where
    pushed : IsUnmarked (with_row m row)
    pushed = record { table_is = is.table_is; rows = All-push (Marks (λ uid. [])) m.rows (fresh_row m row) is.rows refl; bare = is.bare }

    by_test : (with_rows (with_row m row) rows ≡ Some n → IsUnmarked n) → (b : Bool) → cond b None (with_rows (with_row m row) rows) ≡ Some n → IsUnmarked n
    by_test later true refused = absurd cc
    by_test later false taken = later taken

append_keeps : (m n : Mailbox) (rows : List NewRow) → after_record m (append_of rows) ≡ Some n → IsUnmarked m → IsUnmarked n
append_keeps m n rows e is =
    after_by IsUnmarked m n (append_of rows) (higher_marked m [] (λ uid. []) is)
    (λ k done. stamped_marked m.rows k [] (λ uid. []) (rows_keep (with_higher m) k rows done (higher_marked m [] (λ uid. []) is))) (is_request (append_of rows)) e

-- ---- a keyword is added

-- one place more, behind all others, where the UID passes
abbrev with_more : (ℕ → List ℕ) → ℕ → (ℕ → Bool) → ℕ → List ℕ
with_more places q test uid = places uid ++ (if test uid then q ∷ [] else [])

or_true : (b : Bool) → (b || true) ≡ true
or_true true = refl
or_true false = refl

-- a place behind all others is added once
place_added : (q : ℕ) (ps : List ℕ) (b : Bool) → AllByRecursion (λ p. p < q) ps → with_place q (ps ++ (if b then q ∷ [] else [])) ≡ ps ++ q ∷ []
place_added q [] true below = rw (le-ltb q q (omega arith), eq-eqb q q refl) refl
place_added q [] false below = refl
place_added q (p ∷ ps) b below =
    rw (le-ltb q p (omega (arith, below.0)), ne_eqb q p (λ e. omega (arith, e, below.0))) (ap (λ (l : List ℕ). p ∷ l) (place_added q ps b below.1))

abbrev update_of : List ℕ → List Pair → Record
update_of name pairs = external_record (body.KeywordUpdate Add name pairs)

abbrev AreBelow : ℕ → (ℕ → List ℕ) → Type 0
AreBelow q places = (uid : ℕ) → AllByRecursion (λ p. p < q) (places uid)

abbrev updated : List Pair → ℕ → Row → Row
updated pairs q row = if is_in_pairs pairs row.uid then record row { keywords = with_place q row.keywords } else row

-- the ranges of a front and of the rest
in_both : (pairs : List Pair) (uid : ℕ) → (is_in_pairs (take piece_size pairs) uid || is_in_pairs (drop piece_size pairs) uid) ≡ is_in_pairs pairs uid
in_both pairs uid = sym (list_any-append (is_in_pair uid) (take piece_size pairs) (drop piece_size pairs)) ∙ ap (λ (ps : List Pair). is_in_pairs ps uid) (take-append-drop piece_size pairs)

module _ (name : List ℕ) (table : List (List ℕ)) (q : ℕ) (places : ℕ → List ℕ) (below : AreBelow q places) where
  row_updated : (pairs : List Pair) (test : ℕ → Bool) (row : Row) → Marks (with_more places q test) row → Marks (with_more places q (λ uid. test uid || is_in_pairs pairs uid)) (updated pairs q row)
  row_updated pairs test row is = by_test (is_in_pairs pairs row.uid) refl
    where
      by_test : (b : Bool) → is_in_pairs pairs row.uid ≡ b → Marks (with_more places q (λ uid. test uid || is_in_pairs pairs uid)) (if b then record row { keywords = with_place q row.keywords } else row)
      by_test true e =
          ap (with_place q) is ∙ place_added q (places row.uid) (test row.uid) (below row.uid)
          ∙ sym (ap (λ (b : Bool). places row.uid ++ (if b then q ∷ [] else [])) (ap (λ (b : Bool). test row.uid || b) e ∙ or_true (test row.uid)))
      by_test false e = is ∙ sym (ap (λ (b : Bool). places row.uid ++ (if b then q ∷ [] else [])) (ap (λ (b : Bool). test row.uid || b) e ∙ or-false (test row.uid)))

  update_keeps : (before : List (List ℕ)) (pairs : List Pair) (test : ℕ → Bool) (m n : Mailbox) → with_name name before ≡ table → place_of table name ≡ Some q → after_record m (update_of name pairs) ≡ Some n → IsMarked m before (with_more places q test)
      → IsMarked n table (with_more places q (λ uid. test uid || is_in_pairs pairs uid))
  update_keeps before pairs test m n grows at e is =
      let named : Mailbox = with_named Add name (with_higher m) in
      let names : named.keywords ≡ table = ap (with_name name) is.table_is ∙ grows in
      let changed : with_keyword Add name pairs named ≡ with_keywords pairs (keywords_after Add q) named = rw (names, at) refl in
      by_some (λ k. IsMarked k table (with_more places q (λ uid. test uid || is_in_pairs pairs uid))) (stamped m.rows (with_keyword Add name pairs named)) n
      (stamped_marked m.rows (with_keyword Add name pairs named) table (with_more places q (λ uid. test uid || is_in_pairs pairs uid))
      (subst (λ (k : Mailbox). IsMarked k table (with_more places q (λ uid. test uid || is_in_pairs pairs uid))) (sym changed)
      (marked_mapped m (with_keywords pairs (keywords_after Add q) named) before table (with_more places q test) (with_more places q (λ uid. test uid || is_in_pairs pairs uid)) (updated pairs q) is (row_updated pairs test) names refl refl))) e

  pieces_keep : (count : ℕ) (pairs : List Pair) (test : ℕ → Bool) (m n : Mailbox) → length pairs ≤ count * piece_size → place_of table name ≡ Some q → applied m (map (update_of name) (first_pieces count pairs)) ≡ Some n → IsMarked m table (with_more places q test)
      → IsMarked n table (with_more places q (λ uid. test uid || is_in_pairs pairs uid))
  pieces_keep zero [] test m n few at e is =
      by_some (λ k. IsMarked k table (with_more places q (λ uid. test uid || false))) m n
      (marked_alike m table (with_more places q test) (with_more places q (λ uid. test uid || false)) (λ uid. ap (λ (b : Bool). places uid ++ (if b then q ∷ [] else [])) (sym (or-false (test uid)))) is) e
  pieces_keep zero (pair ∷ pairs) test m n few at e is = absurd (omega (arith, few))
  pieces_keep (suc count) pairs test m n few at e is =
      let front = take piece_size pairs in
      let left = drop piece_size pairs in
      let both : (uid : ℕ) → ((test uid || is_in_pairs front uid) || is_in_pairs left uid) ≡ (test uid || is_in_pairs pairs uid) =
      λ uid. or_assoc (test uid) (is_in_pairs front uid) (is_in_pairs left uid)
      ∙ ap (λ (b : Bool). test uid || b) (in_both pairs uid) in
      first_of (update_of name front) (map (update_of name) (first_pieces count left)) m n e (λ k first others.
      marked_alike n table (with_more places q (λ uid. (test uid || is_in_pairs front uid) || is_in_pairs left uid)) (with_more places q (λ uid. test uid || is_in_pairs pairs uid)) (λ uid. ap (λ (b : Bool). places uid ++ (if b then q ∷ [] else [])) (both uid))
      (pieces_keep count left (λ uid. test uid || is_in_pairs front uid) k n (omega (arith, few, length-drop piece_size pairs)) at others
      (update_keeps table front test m k (kept table name q at) at first is)))

-- ---- the names of each UID's keywords

pub record IsNamed (m : Mailbox) (names : ℕ → List (List ℕ)) : Type 0 where
  pub table : List (List ℕ)
  pub places : ℕ → List ℕ
  pub marked : IsMarked m table places
  pub below : AreBelow (length table) places
  pub are : (uid : ℕ) → names_in table (places uid) ≡ names uid

named_alike : (m : Mailbox) (names others : ℕ → List (List ℕ)) → ((uid : ℕ) → names uid ≡ others uid) → IsNamed m names → IsNamed m others
named_alike m names others same is = record { table = is.table; places = is.places; marked = is.marked; below = is.below; are = λ uid. is.are uid ∙ same uid }

-- the names with one more, where the UID passes
abbrev pub with_one : (ℕ → List (List ℕ)) → List ℕ → (ℕ → Bool) → ℕ → List (List ℕ)
with_one names name test uid = names uid ++ (if test uid then name ∷ [] else [])

-- a name is added, and no other
record Adds (m : Mailbox) (name : List ℕ) (names : ℕ → List (List ℕ)) (n : Mailbox) : Type 0 where
  named : IsNamed n names
  lacks : (other : List ℕ) → name ≢ other → place_of m.keywords other ≡ None → place_of n.keywords other ≡ None

names_grow : (table more : List (List ℕ)) (places : List ℕ) → AllByRecursion (λ p. p < length table) places → names_in table places ≡ names_in (table ++ more) places
names_grow table more places below = names_same (record (empty_mailbox 0) { keywords = table }) (record (empty_mailbox 0) { keywords = table ++ more }) more refl places below

more_below : (q : ℕ) (ps : List ℕ) (b : Bool) → AllByRecursion (λ p. p < q) ps → AllByRecursion (λ p. p < q + 1) (ps ++ (if b then q ∷ [] else []))
more_below q [] true below = (omega arith, tt)
more_below q [] false below = tt
more_below q (p ∷ ps) b below = (omega (arith, below.0), more_below q ps b below.1)

last_name : (table : List (List ℕ)) (name : List ℕ) (b : Bool) → names_in (table ++ name ∷ []) (if b then length table ∷ [] else []) ≡ (if b then name ∷ [] else [])
last_name table name true = ap (λ (one : List ℕ). one ∷ []) (unwrap_or-slice_get (table ++ name ∷ []) (length table) [] ∙ get_or_push table name [] (length table) refl)
last_name table name false = refl

more_named : (n : Mailbox) (table : List (List ℕ)) (name : List ℕ) (places : ℕ → List ℕ) (names : ℕ → List (List ℕ)) (test : ℕ → Bool) → AreBelow (length table) places → ((uid : ℕ) → names_in table (places uid) ≡ names uid)
    → IsMarked n (table ++ name ∷ []) (with_more places (length table) test) → IsNamed n (with_one names name test)
more_named n table name places names test below are marked = record {
  table = table ++ name ∷ [];
  places = with_more places (length table) test;
  marked = marked;
  below = λ uid. subst (λ (k : ℕ). AllByRecursion (λ p. p < k) (with_more places (length table) test uid)) (sym (length_push table name)) (more_below (length table) (places uid) (test uid) (below uid));
  are = λ uid.
      map-append (λ k. unwrap_or (slice_get (table ++ name ∷ []) k) []) (places uid) (if test uid then length table ∷ [] else [])
      ∙ ap (λ (ns : List (List ℕ)). ns ++ names_in (table ++ name ∷ []) (if test uid then length table ∷ [] else [])) (sym (names_grow table (name ∷ []) (places uid) (below uid)) ∙ are uid)
      ∙ ap (λ (ns : List (List ℕ)). names uid ++ ns) (last_name table name (test uid));
}

-- another name stays unknown
still_lacks : (m n : Mailbox) (table : List (List ℕ)) (name other : List ℕ) → m.keywords ≡ table → n.keywords ≡ table ++ name ∷ [] → place_of table name ≡ None → name ≢ other → place_of m.keywords other ≡ None → place_of n.keywords other ≡ None
still_lacks m n table name other before after new apart lacks =
    ap (λ (t : List (List ℕ)). place_of t other) after ∙ with_last table name new other
    ∙ ap (λ (b : Bool). cond b (Some (length table)) (place_of table other)) (false_from_ne_true (bytes_eq name other) (λ e. apart ((bytes_eq-Decides name other).0 e)))
    ∙ sym (ap (λ (t : List (List ℕ)). place_of t other) before) ∙ lacks

keyword_named : (name : List ℕ) (pairs : List Pair) (m n : Mailbox) (names : ℕ → List (List ℕ)) → place_of m.keywords name ≡ None → applied m (keyword_updates Add pairs name) ≡ Some n → IsNamed m names → Adds m name (with_one names name (is_in_pairs pairs)) n
keyword_named name [] m n names new e is =
    by_some (Adds m name (with_one names name (λ uid. false))) m n
    (record { named = named_alike m names (with_one names name (λ uid. false)) (λ uid. sym (append-nil (names uid))) is; lacks = λ other apart lacks. lacks }) e
keyword_named name (pair ∷ more) m n names new e is = by_count ((length pairs + (piece_size - 1)) / piece_size) refl e
  where
    pairs : List Pair
    pairs = pair ∷ more

    by_count : (count : ℕ) → (length pairs + (piece_size - 1)) / piece_size ≡ count → applied m (map (update_of name) (first_pieces count pairs)) ≡ Some n → Adds m name (with_one names name (is_in_pairs pairs)) n
    by_count zero many all = absurd (omega (arith, many))
    by_count (suc count) many all =
        let front = take piece_size pairs in
        let left = drop piece_size pairs in
        let table = is.table in
        let q = length table in
        let unknown : place_of table name ≡ None = sym (ap (λ (t : List (List ℕ)). place_of t name) is.marked.table_is) ∙ new in
        let there = place_of_new table name unknown in
        let start = marked_alike m table is.places (with_more is.places q (λ uid. false)) (λ uid. sym (append-nil (is.places uid))) is.marked in
        first_of (update_of name front) (map (update_of name) (first_pieces count left)) m n all (λ k first others.
        let one = update_keeps name (table ++ name ∷ []) q is.places is.below table front (λ uid. false) m k (added table name unknown) there first start in
        let marked = marked_alike n (table ++ name ∷ []) (with_more is.places q (λ uid. is_in_pairs front uid || is_in_pairs left uid)) (with_more is.places q (is_in_pairs pairs))
        (λ uid. ap (λ (b : Bool). is.places uid ++ (if b then q ∷ [] else [])) (in_both pairs uid))
        (pieces_keep name (table ++ name ∷ []) q is.places is.below count left (is_in_pairs front) k n (omega (arith, many, length-drop piece_size pairs)) there others one) in
        record { named = more_named n table name is.places names (is_in_pairs pairs) is.below is.are marked; lacks = λ other apart lacks. still_lacks m n table name other is.marked.table_is marked.table_is unknown apart lacks })

-- ---- all keywords of a table

keywords_named : (uids : ℕ → List ℕ) (table : List (List ℕ)) (at : ℕ) (m n : Mailbox) (names : ℕ → List (List ℕ)) → AllPairs (λ a b. a ≢ b) table → All (λ name. place_of m.keywords name ≡ None) table
    → applied m (flat_map (λ (name : ℕ × List ℕ). keyword_updates Add (ranges_of (uids name.0)) name.1) (enumerate_from at table)) ≡ Some n → IsNamed m names
    → IsNamed n (λ uid. names uid ++ passed (λ k. list_any (nat_eq uid) (uids k)) (enumerate_from at table))
keywords_named uids [] at m n names apart new e is =
    by_some (λ k. IsNamed k (λ uid. names uid ++ [])) m n (named_alike m names (λ uid. names uid ++ []) (λ uid. sym (append-nil (names uid))) is) e
keywords_named uids (name ∷ table) at m n names apart new e is =
    let rest = flat_map (λ (name : ℕ × List ℕ). keyword_updates Add (ranges_of (uids name.0)) name.1) (enumerate_from (at + 1) table) in
    split (keyword_updates Add (ranges_of (uids at)) name) rest m n e (λ k first others.
    let adds = keyword_named name (ranges_of (uids at)) m k names (new 0 [] (omega arith)) first is in
    let one = with_one names name (is_in_pairs (ranges_of (uids at))) in
    let left : All (λ other. place_of k.keywords other ≡ None) table =
    λ i d h. adds.lacks (get_or table i d) (apart 0 (suc i) d (omega arith) (omega (arith, h))) (new (suc i) d (omega (arith, h))) in
    let others_named = keywords_named uids table (at + 1) k n one (λ i j d less h. apart (suc i) (suc j) d (omega (arith, less)) (omega (arith, h))) left others adds.named in
    named_alike n (λ uid. one uid ++ passed (λ j. list_any (nat_eq uid) (uids j)) (enumerate_from (at + 1) table)) (λ uid. names uid ++ passed (λ j. list_any (nat_eq uid) (uids j)) (enumerate_from at (name ∷ table)))
    (λ uid.
    append_assoc (names uid) (if is_in_pairs (ranges_of (uids at)) uid then name ∷ [] else []) (passed (λ j. list_any (nat_eq uid) (uids j)) (enumerate_from (at + 1) table))
    ∙ ap (λ (b : Bool). names uid ++ ((if b then name ∷ [] else []) ++ passed (λ j. list_any (nat_eq uid) (uids j)) (enumerate_from (at + 1) table))) (in_ranges (uids at) uid))
    others_named)

-- ---- the records of a rebuilt log

-- the names of the table whose kept UIDs have this one
abbrev pub given : Mailbox → List ℕ → ℕ → List (List ℕ)
given m kept uid = passed (λ k. list_any (nat_eq uid) (filter (has_keyword m k) kept)) (enumerate_from 0 m.keywords)

header_named : (m n : Mailbox) (at v : ℕ) (names : ℕ → List (List ℕ)) → after_record m (header_record at v) ≡ Some n → IsNamed m names → IsNamed n names
header_named m n at v names e is = record { table = is.table; places = is.places; marked = header_keeps m n at v is.table is.places e is.marked; below = is.below; are = is.are }

unmarked_named : (m : Mailbox) → IsUnmarked m → IsNamed m (λ uid. [])
unmarked_named m is = record { table = []; places = λ uid. []; marked = is; below = λ uid. tt; are = λ uid. refl }

pub records_name : (s : Salvaged) (kept : List ℕ) (n : ℕ) (m after : Mailbox) → AllPairs (λ a b. a ≢ b) s.mailbox.keywords → applied m (rebuilt_records s kept n) ≡ Some after → IsUnmarked m → IsNamed after (given s.mailbox kept)
records_name s kept n m after apart e is =
    let appends = map append_of (pieces (map (kept_row s.mailbox) kept)) in
    let keywords = flat_map (keyword_records s.mailbox kept) (enumerate_from 0 s.mailbox.keywords) in
    let last = header_record 28 (fold (λ next uid. max next (uid + 1)) s.mailbox.next_uid kept) in
    first_of (header_record 24 (if s.given then s.mailbox.uid_validity else n)) (appends ++ keywords ++ last ∷ []) m after e (λ a first behind.
    split (appends ++ keywords) (last ∷ []) a after behind (λ c middle end.
    split appends keywords a c middle (λ b rows names.
    let unmarked = all_keep IsUnmarked append_of append_keeps (pieces (map (kept_row s.mailbox) kept)) a b rows (header_keeps m a 24 _ [] (λ uid. []) first is) in
    let new : All (λ name. place_of b.keywords name ≡ None) s.mailbox.keywords = λ i d h. ap (λ (t : List (List ℕ)). place_of t (get_or s.mailbox.keywords i d)) unmarked.table_is in
    let named = keywords_named (λ k. filter (has_keyword s.mailbox k) kept) s.mailbox.keywords 0 b c (λ uid. []) apart new names (unmarked_named b unmarked) in
    first_of last [] c after end (λ d ends none. by_some (λ k. IsNamed k (given s.mailbox kept)) d after (header_named c d 28 _ (given s.mailbox kept) ends named) none))))

-- ---- what they name

-- a row's names, where it has them by its UID
pub names_are : (m : Mailbox) (names : ℕ → List (List ℕ)) → IsNamed m names → map (λ (row : Row). names_of m row.keywords) m.rows ≡ map (λ (row : Row). names row.uid) m.rows
names_are m names is =
    map_same (λ (row : Row). names_of m row.keywords) (λ (row : Row). names row.uid) m.rows
    (All-weaker (Marks is.places) (λ row. names_of m row.keywords ≡ names row.uid) (λ row e. ap (names_of m) e ∙ ap (λ (t : List (List ℕ)). names_in t (is.places row.uid)) is.marked.table_is ∙ is.are row.uid) m.rows is.marked.rows)

-- what holds of no keywords and of each row's holds of those of a UID
of_row : (P : List ℕ → Type 0) (uid : ℕ) (rows : List Row) → P [] → All (λ (row : Row). P row.keywords) rows → P (unwrap_or (option_map (λ (row : Row). row.keywords) (find (λ (row : Row). nat_eq row.uid uid) rows)) [])
of_row P uid [] empty each = empty
of_row P uid (row ∷ rows) empty each = by_test (of_row P uid rows empty (All-tail (λ (row : Row). P row.keywords) row rows each)) (nat_eq row.uid uid)
  where
    by_test : P (unwrap_or (option_map (λ (row : Row). row.keywords) (find (λ (row : Row). nat_eq row.uid uid) rows)) []) → (b : Bool) → P (unwrap_or (option_map (λ (row : Row). row.keywords) (cond b (Some row) (find (λ (row : Row). nat_eq row.uid uid) rows))) [])
    by_test others true = All-head (λ (row : Row). P row.keywords) row rows each
    by_test others false = others

abbrev ArePlaces : Mailbox → List ℕ → Type 0
ArePlaces m places = IsStrictlyIncreasing places × All (λ k. k < length m.keywords) places

given_are : (m : Mailbox) (kept : List ℕ) (uid : ℕ) → IsValid m → list_any (nat_eq uid) kept ≡ true → given m kept uid ≡ keyword_names m uid
given_are m kept uid valid there =
    let places = unwrap_or (option_map (λ (row : Row). row.keywords) (row_of m uid)) [] in
    let are : ArePlaces m places =
    of_row (ArePlaces m) uid m.rows ((λ k below. absurd (omega (arith, below))), All-nil (λ k. k < length m.keywords)) (All-weaker (IsRowOf m) (λ row. ArePlaces m row.keywords) (λ row is. is.keywords) m.rows valid.rows) in
    let below = each_of_all (λ p. p < 0 + length m.keywords) places (All-weaker (λ k. k < length m.keywords) (λ p. p < 0 + length m.keywords) (λ k less. omega (arith, less)) places are.1) in
    spelled m.keywords 0 places (λ k. list_any (nat_eq uid) (filter (has_keyword m k) kept)) (λ k. unwrap_or (slice_get m.keywords k) []) (rise_of places are.0) below (λ k le. in_filter (has_keyword m k) kept uid there)
    (λ i h. unwrap_or-slice_get m.keywords (0 + i) [] ∙ ap (λ (j : ℕ). get_or m.keywords j []) (omega arith))

module _ (s : Salvaged) (kept : List ℕ) (n : ℕ) (m after : Mailbox) (valid : IsValid s.mailbox) (is : applied m (rebuilt_records s kept n) ≡ Some after) (unmarked : IsUnmarked m) where
  named : IsNamed after (given s.mailbox kept)
  named = records_name s kept n m after valid.names.1 is unmarked

  -- none of the records makes an extension
  pub still_bare : after.extensions ≡ []
  still_bare = named.marked.bare

  pub kept_named : heads after.rows ≡ map (kept_row s.mailbox) kept → map (λ (row : Row). names_of after row.keywords) after.rows ≡ map (keyword_names s.mailbox) kept
  kept_named rows =
      let uids : map (λ (row : Row). row.uid) after.rows ≡ kept =
      sym (map_map (λ (row : NewRow). row.uid) head_of after.rows) ∙ ap (map (λ (row : NewRow). row.uid)) rows ∙ map_map (λ (row : NewRow). row.uid) (kept_row s.mailbox) kept ∙ map-id kept in
      names_are after (given s.mailbox kept) named ∙ sym (map_map (given s.mailbox kept) (λ (row : Row). row.uid) after.rows) ∙ ap (map (given s.mailbox kept)) uids
      ∙ map_same (given s.mailbox kept) (keyword_names s.mailbox) kept
      (λ i d h. given_are s.mailbox kept (get_or kept i d) valid (list_any_at (nat_eq (get_or kept i d)) kept i d h (eq-eqb (get_or kept i d) (get_or kept i d) refl)))
