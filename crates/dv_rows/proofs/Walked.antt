-- What a record's ranges in turn make of a row with its flags beside it.
use Rattle.std.proofs.Common.{◌≡◌, ℕ, zero, suc, ◌+◌, ◌%◌, Bool, true, false, cond, List, [], ◌∷◌, fold, take, refl, sym, ◌∙◌, ap, subst, arith, zero-add, length}
use Rattle.std.specs.Prelude.{◌&&◌, ◌||◌, All, bit_and, bytes_eq, filter, map, nat_eq, not}
use Rattle.std.specs.List.{list_any}
use Rattle.std.proofs.lemmas.Bool.{eq-eqb, ne_eqb}
use Rattle.std.proofs.lemmas.Bool.Decides.{nat_tests}
use Rattle.std.proofs.lemmas.List.{take-map}
use Rattle.std.proofs.lemmas.List.Elements.{All-map, All-weaker}
use Rattle.std.proofs.lemmas.List.Sums.{sum_by-cons}
use Rattle.std.proofs.lemmas.Slice.Eq.{bytes_eq-Decides}
use Rattle.dv_model.specs.declared.types.Change.{Change}
use Rattle.dv_model.specs.declared.types.Pair.{Pair}
use Rattle.dv_model.specs.declared.types.Row.{Row}
use Rattle.dv_model.specs.Effects.{is_as_before, with_bits}
use Rattle.dv_validity.proofs.Rows.{map_map, map_same}
use Rattle.dv_validity.specs.Laws.{changed_flags, restamped}
use Rattle.dv_rows.specs.Changed.{changed_keywords}
use Rattle.dv_rows.specs.Noted.{Noted, by_range, by_ranges, has, note_count, noted, with_note}
use Rattle.dv_rows.specs.Steps.{flags_changed, flags_stamped, marked, without_keywords}
use Rattle.dv_rows.proofs.FlagChanges.{all_in_turn, flags_by}
use Rattle.dv_rows.proofs.OtherPlaces.{itself}
use Rattle.dv_rows.proofs.Walking.{noted_flags, noted_notes, noted_rows}

-- ---- ranges in turn, of a row whose UID stays

uid_by : {X : Type 0} (after : X → Noted → Noted) → ((r : X) (p : Noted) → (after r p).row.uid ≡ p.row.uid) → (b : Bool) (r : X) (p : Noted) → (cond b (after r p) p).row.uid ≡ p.row.uid
uid_by after keeps true r p = keeps r p
uid_by after keeps false r p = refl

by_uid : {X : Type 0} (first last : X → ℕ) (after : X → Noted → Noted) → ((r : X) (p : Noted) → (after r p).row.uid ≡ p.row.uid) → (u : ℕ) (ranges : List X) (p : Noted) → p.row.uid ≡ u
    → by_ranges first last after ranges p ≡ fold (λ q r. cond (has first last u r) (after r q) q) p ranges
by_uid first last after keeps u [] p e = refl
by_uid first last after keeps u (r ∷ ranges) p e =
    by_uid first last after keeps u ranges (by_range first last after p r) (uid_by after keeps (has first last p.row.uid r) r p ∙ e)
    ∙ ap (λ v. fold (λ q x. cond (has first last u x) (after x q) q) (cond (has first last v r) (after r p) p) ranges) e

again : {P : Type 0} (h : P → P) → ((p : P) → h (h p) ≡ h p) → (b : Bool) (p : P) → cond b (h (h p)) (h p) ≡ h p
again h twice true p = twice p
again h twice false p = refl

once_by : {X P : Type 0} (t : X → Bool) (h : P → P) → ((p : P) → h (h p) ≡ h p) → (b : Bool) (p : P) (xs : List X)
    → ((q : P) → fold (λ r x. cond (t x) (h r) r) q xs ≡ cond (list_any t xs) (h q) q) → fold (λ r x. cond (t x) (h r) r) (cond b (h p) p) xs ≡ cond (b || list_any t xs) (h p) p
once_by t h twice true p xs rest = rest (h p) ∙ again h twice (list_any t xs) p
once_by t h twice false p xs rest = rest p

-- what is the same when it is done again is done once
once : {X P : Type 0} (t : X → Bool) (h : P → P) → ((p : P) → h (h p) ≡ h p) → (xs : List X) (p : P) → fold (λ q x. cond (t x) (h q) q) p xs ≡ cond (list_any t xs) (h p) p
once t h twice [] p = refl
once t h twice (x ∷ xs) p = once_by t h twice (t x) p xs (once t h twice xs)

-- ---- changes of flags

change_by : (b : Bool) (change : Change) (p : Noted) → cond b (flags_changed change p) p ≡ record p { row = record p.row { flags = cond b (with_bits change.add change.remove p.row.flags) p.row.flags } }
change_by true change p = refl
change_by false change p = refl

flags_in_turn : (u : ℕ) (changes : List Change) (p : Noted) → fold (λ q c. cond (has (λ x. x.first) (λ x. x.last) u c) (flags_changed c q) q) p changes ≡ record p { row = record p.row { flags = fold (flags_by u) p.row.flags changes } }
flags_in_turn u [] p = refl
flags_in_turn u (c ∷ changes) p =
    ap (λ q. fold (λ r x. cond (has (λ x. x.first) (λ x. x.last) u x) (flags_changed x r) r) q changes) (change_by (has (λ x. x.first) (λ x. x.last) u c) c p)
    ∙ flags_in_turn u changes (record p { row = record p.row { flags = flags_by u p.row.flags c } })

-- the row's flags change as the record says, and those beside it stay
pub changed_in_turn : (changes : List Change) (p : Noted) → by_ranges (λ x. x.first) (λ x. x.last) flags_changed changes p ≡ record p { row = fold changed_flags p.row changes }
changed_in_turn changes p =
    by_uid (λ x. x.first) (λ x. x.last) flags_changed (λ r q. refl) p.row.uid changes p refl ∙ flags_in_turn p.row.uid changes p
    ∙ ap (λ row. record p { row = row }) (sym (all_in_turn p.row changes))

none_by : {X P : Type 0} (t : X → Bool) (g : P → X → P) (b : Bool) (p : P) (x : X) (xs : List X) → ((q : P) → list_any t xs ≡ false → fold (λ r y. cond (t y) (g r y) r) q xs ≡ q)
    → (b || list_any t xs) ≡ false → fold (λ r y. cond (t y) (g r y) r) (cond b (g p x) p) xs ≡ p
none_by t g true p x xs rest e = cc
none_by t g false p x xs rest e = rest p e

none : {X P : Type 0} (t : X → Bool) (g : P → X → P) (xs : List X) (p : P) → list_any t xs ≡ false → fold (λ q x. cond (t x) (g q x) q) p xs ≡ p
none t g [] p e = refl
none t g (x ∷ xs) p e = none_by t g (t x) p x xs (none t g xs) e

and_between : (a b c : Bool) → a ≡ true → c ≡ true → (a && b && c) ≡ b
and_between a true c p q = ap (λ x. x && true && c) p ∙ q
and_between a false c p q = ap (λ x. x && false && c) p

and_last : (a b c : Bool) → a ≡ true → b ≡ true → (a && b && c) ≡ c
and_last a b c p q = ap (λ x. x && b && c) p ∙ ap (λ x. x && c) q

same_bytes : (bs : List ℕ) → bytes_eq bs bs ≡ true
same_bytes bs = (bytes_eq-Decides bs bs).1 refl

before_by_flags : (row : Row) (flags : ℕ) → is_as_before (record row { flags = flags }) row ≡ nat_eq (flags % 32) (row.flags % 32)
before_by_flags row flags = and_between (nat_eq row.uid row.uid) (nat_eq (flags % 32) (row.flags % 32)) (bytes_eq row.keywords row.keywords) (eq-eqb row.uid row.uid refl) (same_bytes row.keywords)

stamped_by : (b : Bool) (n : ℕ) (row : Row) → record row { modseq = cond b row.modseq n } ≡ cond b row (record row { modseq = n })
stamped_by true n row = refl
stamped_by false n row = refl

-- a row behind changes of its flags
flags_stamp : (n flags : ℕ) (row : Row) → flags_stamped n (with_note (record row { flags = flags }) row.flags) ≡ with_note (restamped n row (record row { flags = flags })) flags
flags_stamp n flags row =
    ap (λ r. with_note r flags)
    (stamped_by (nat_eq (flags % 32) (row.flags % 32)) n (record row { flags = flags })
    ∙ ap (λ b. cond b (record row { flags = flags }) (record row { flags = flags; modseq = n })) (sym (before_by_flags row flags)))

stamp_if : (b : Bool) (n flags : ℕ) (row : Row) → (b ≡ false → flags ≡ row.flags)
    → cond b (flags_stamped n (with_note (record row { flags = flags }) row.flags)) (with_note (record row { flags = flags }) row.flags) ≡ with_note (restamped n row (record row { flags = flags })) flags
stamp_if true n flags row same = flags_stamp n flags row
stamp_if false n flags row same =
    ap (λ f. with_note (record row { flags = f }) row.flags) (same refl) ∙ ap (λ r. with_note r row.flags) (sym (itself n row))
    ∙ ap (λ f. with_note (restamped n row (record row { flags = f })) f) (sym (same refl))

-- the two walks of a flag update
pub flags_walked : (n : ℕ) (changes : List Change) (row : Row)
    → by_ranges (λ x. x.first) (λ x. x.last) (λ r. flags_stamped n) changes (by_ranges (λ x. x.first) (λ x. x.last) flags_changed changes (with_note row row.flags))
    ≡ with_note (restamped n row (fold changed_flags row changes)) (restamped n row (fold changed_flags row changes)).flags
flags_walked n changes row =
    let flags : ℕ = fold (flags_by row.uid) row.flags changes in
    let is : fold changed_flags row changes ≡ record row { flags = flags } = all_in_turn row changes in
    let q : Noted = with_note (record row { flags = flags }) row.flags in
    ap (by_ranges (λ x. x.first) (λ x. x.last) (λ r. flags_stamped n) changes) (changed_in_turn changes (with_note row row.flags) ∙ ap (λ r. with_note r row.flags) is)
    ∙ by_uid (λ x. x.first) (λ x. x.last) (λ r. flags_stamped n) (λ r p. refl) row.uid changes q refl
    ∙ once (has (λ x. x.first) (λ x. x.last) row.uid) (flags_stamped n) (λ p. stamp_twice n p) changes q
    ∙ stamp_if (list_any (has (λ x. x.first) (λ x. x.last) row.uid) changes) n flags row (λ e. none (has (λ x. x.first) (λ x. x.last) row.uid) (λ f c. with_bits c.add c.remove f) changes row.flags e)
    ∙ ap (λ r. with_note (restamped n row r) flags) (sym is)
    ∙ ap (with_note (restamped n row (fold changed_flags row changes))) (sym (ap (λ r. (restamped n row r).flags) is ∙ stamped_flags (is_as_before (record row { flags = flags }) row) n (record row { flags = flags })))
  where
    stamped_flags : (b : Bool) (n : ℕ) (r : Row) → (cond b r (record r { modseq = n })).flags ≡ r.flags
    stamped_flags true n r = refl
    stamped_flags false n r = refl

    stamp_twice : (n : ℕ) (p : Noted) → flags_stamped n (flags_stamped n p) ≡ flags_stamped n p
    stamp_twice n p = ap (λ b. record { row = record p.row { modseq = cond b (cond (nat_eq (p.row.flags % 32) (p.note % 32)) p.row.modseq n) n }; note = p.row.flags }) (eq-eqb (p.row.flags % 32) (p.row.flags % 32) refl)

-- ---- a keyword reset

clear_if : (b : Bool) (n : ℕ) (row : Row) (note : ℕ) → cond b (without_keywords n (with_note row note)) (with_note row note) ≡ with_note (restamped n row (cond b (record row { keywords = [] }) row)) note
clear_if false n row note = ap (λ r. with_note r note) (sym (itself n row))
clear_if true n row note =
    ap (λ r. with_note r note)
    (stamped_by (bytes_eq [] row.keywords) n (record row { keywords = [] })
    ∙ ap (λ b. cond b (record row { keywords = [] }) (record row { keywords = []; modseq = n }))
    (sym (and_last (nat_eq row.uid row.uid) (nat_eq (row.flags % 32) (row.flags % 32)) (bytes_eq [] row.keywords) (eq-eqb row.uid row.uid refl) (eq-eqb (row.flags % 32) (row.flags % 32) refl))))

pub keywords_walked : (n : ℕ) (pairs : List Pair) (row : Row) (note : ℕ)
    → by_ranges (λ x. x.first) (λ x. x.last) (λ r. without_keywords n) pairs (with_note row note) ≡ with_note (restamped n row (changed_keywords pairs (λ places. []) row)) note
keywords_walked n pairs row note =
    by_uid (λ x. x.first) (λ x. x.last) (λ r. without_keywords n) (λ r p. refl) row.uid pairs (with_note row note) refl
    ∙ once (has (λ x. x.first) (λ x. x.last) row.uid) (without_keywords n) (λ p. refl) pairs (with_note row note)
    ∙ clear_if (list_any (has (λ x. x.first) (λ x. x.last) row.uid) pairs) n row note

-- ---- an expunge

-- a row with its flags beside it, marked where its UID passes the test
abbrev pub marked_if : (ℕ → Bool) → Row → Noted
marked_if test row = cond (test row.uid) (marked (with_note row row.flags)) (with_note row row.flags)

pub mark_walked : {X : Type 0} (first last : X → ℕ) (ranges : List X) (row : Row) → by_ranges first last (λ r. marked) ranges (with_note row row.flags) ≡ marked_if (λ uid. list_any (has first last uid) ranges) row
mark_walked first last ranges row =
    by_uid first last (λ r. marked) (λ r p. refl) row.uid ranges (with_note row row.flags) refl
    ∙ once (has first last row.uid) marked (λ p. refl) ranges (with_note row row.flags)

-- the test of a UID as a range
has_one : (uid other : ℕ) → has (λ x. x) (λ x. x) uid other ≡ nat_eq uid other
has_one uid other = grind (arith, nat_tests)

any_agree : {X : Type 0} (p q : X → Bool) → ((x : X) → p x ≡ q x) → (xs : List X) → list_any p xs ≡ list_any q xs
any_agree p q same [] = refl
any_agree p q same (x ∷ xs) = ap (λ b. b || list_any p xs) (same x) ∙ ap (λ b. q x || b) (any_agree p q same xs)

-- a row that isn't there is marked
abbrev pub missing_marked : (ℕ → Bool) → ℕ → Noted → Noted
missing_marked there r p = record p { note = cond (there p.row.uid) p.note (cond (nat_eq p.row.flags 0) 1 0) }

marked_once : (b : Bool) (n m : ℕ) → cond b (cond b n m) m ≡ cond b n m
marked_once true n m = refl
marked_once false n m = refl

missing_by : (named there : Bool) (row : Row)
    → cond named (record { row = row; note = cond there row.flags (cond (nat_eq row.flags 0) 1 0) }) (with_note row row.flags) ≡ cond (named && not there) (marked (with_note row row.flags)) (with_note row row.flags)
missing_by true true row = refl
missing_by true false row = refl
missing_by false there row = refl

missing_walked : (there : ℕ → Bool) (uids : List ℕ) (row : Row)
    → by_ranges (λ x. x) (λ x. x) (missing_marked there) uids (with_note row row.flags) ≡ marked_if (λ uid. list_any (nat_eq uid) uids && not (there uid)) row
missing_walked there uids row =
    by_uid (λ x. x) (λ x. x) (missing_marked there) (λ r p. refl) row.uid uids (with_note row row.flags) refl
    ∙ once (has (λ x. x) (λ x. x) row.uid) (missing_marked there 0) (λ p. ap (with_note p.row) (marked_once (there p.row.uid) p.note (cond (nat_eq p.row.flags 0) 1 0))) uids (with_note row row.flags)
    ∙ ap (λ b. cond b (missing_marked there 0 (with_note row row.flags)) (with_note row row.flags)) (any_agree (has (λ x. x) (λ x. x) row.uid) (nat_eq row.uid) (has_one row.uid) uids)
    ∙ missing_by (list_any (nat_eq row.uid) uids) (there row.uid) row

-- a row that stays has its flags beside it
abbrev pub stays : Noted → Bool
stays p = nat_eq p.note p.row.flags

not_zero : (k : ℕ) → nat_eq (suc k) 0 ≡ false
not_zero k = ne_eqb (suc k) 0 (λ e. omega (arith, e))

differ : (flags : ℕ) → nat_eq (cond (nat_eq flags 0) 1 0) flags ≡ false
differ zero = refl
differ (suc k) = ap (λ b. nat_eq (cond b 1 0) (suc k)) (not_zero k) ∙ ne_eqb 0 (suc k) (λ e. omega (arith, e))

rows_by : (b : Bool) (row : Row) (rest : List Noted) (rows : List Row) → map (λ p. p.row) (filter stays rest) ≡ rows
    → map (λ p. p.row) (filter stays (cond b (marked (with_note row row.flags)) (with_note row row.flags) ∷ rest)) ≡ cond (not b) (row ∷ rows) rows
rows_by true row rest rows is = ap (λ b. map (λ p. p.row) (cond b (marked (with_note row row.flags) ∷ filter stays rest) (filter stays rest))) (differ row.flags) ∙ is
rows_by false row rest rows is = ap (λ b. map (λ p. p.row) (cond b (with_note row row.flags ∷ filter stays rest) (filter stays rest))) (eq-eqb row.flags row.flags refl) ∙ ap (λ l. row ∷ l) is

pub rows_stay : (test : ℕ → Bool) (rows : List Row) → map (λ p. p.row) (filter stays (map (marked_if test) rows)) ≡ filter (λ row. not (test row.uid)) rows
rows_stay test [] = refl
rows_stay test (row ∷ rows) = rows_by (test row.uid) row (map (marked_if test) rows) (filter (λ r. not (test r.uid)) rows) (rows_stay test rows)

notes_by : (b : Bool) (row : Row) (rest : List Noted) → map (λ p. p.note) (filter stays rest) ≡ map (λ p. p.row.flags) (filter stays rest)
    → map (λ p. p.note) (filter stays (cond b (marked (with_note row row.flags)) (with_note row row.flags) ∷ rest)) ≡ map (λ p. p.row.flags) (filter stays (cond b (marked (with_note row row.flags)) (with_note row row.flags) ∷ rest))
notes_by true row rest is =
    let gone : filter stays (marked (with_note row row.flags) ∷ rest) ≡ filter stays rest = ap (λ b. cond b (marked (with_note row row.flags) ∷ filter stays rest) (filter stays rest)) (differ row.flags) in
    ap (map (λ p. p.note)) gone ∙ is ∙ sym (ap (map (λ p. p.row.flags)) gone)
notes_by false row rest is =
    let kept : filter stays (with_note row row.flags ∷ rest) ≡ with_note row row.flags ∷ filter stays rest = ap (λ b. cond b (with_note row row.flags ∷ filter stays rest) (filter stays rest)) (eq-eqb row.flags row.flags refl) in
    ap (map (λ p. p.note)) kept ∙ ap (λ l. row.flags ∷ l) is ∙ sym (ap (map (λ p. p.row.flags)) kept)

pub notes_stay : (test : ℕ → Bool) (rows : List Row) → map (λ p. p.note) (filter stays (map (marked_if test) rows)) ≡ map (λ p. p.row.flags) (filter stays (map (marked_if test) rows))
notes_stay test [] = refl
notes_stay test (row ∷ rows) = notes_by (test row.uid) row (map (marked_if test) rows) (notes_stay test rows)

-- 1 where the flags have the bit
abbrev pub bit_number : ℕ → ℕ → ℕ
bit_number bit note = cond (not (nat_eq (bit_and note bit) 0)) 1 0

mark_number : (bit flags : ℕ) → bit_number bit 0 ≡ 0 → bit_number bit 1 ≡ 0 → bit_number bit (cond (nat_eq flags 0) 1 0) ≡ 0
mark_number bit zero none one = one
mark_number bit (suc k) none one = ap (λ b. bit_number bit (cond b 1 0)) (not_zero k) ∙ none

count_by_mark : (bit : ℕ) → bit_number bit 0 ≡ 0 → bit_number bit 1 ≡ 0 → (b : Bool) (row : Row) (rest : List Noted) → note_count bit (map (λ p. p.note) rest) ≡ note_count bit (map (λ p. p.note) (filter stays rest))
    → note_count bit (map (λ p. p.note) (cond b (marked (with_note row row.flags)) (with_note row row.flags) ∷ rest)) ≡ note_count bit (map (λ p. p.note) (filter stays (cond b (marked (with_note row row.flags)) (with_note row row.flags) ∷ rest)))
count_by_mark bit none one true row rest is =
    sum_by-cons (bit_number bit) (cond (nat_eq row.flags 0) 1 0) (map (λ p. p.note) rest) ∙ ap (λ n. n + note_count bit (map (λ p. p.note) rest)) (mark_number bit row.flags none one) ∙ zero-add (note_count bit (map (λ p. p.note) rest)) ∙ is
    ∙ sym (ap (λ b. note_count bit (map (λ p. p.note) (cond b (marked (with_note row row.flags) ∷ filter stays rest) (filter stays rest)))) (differ row.flags))
count_by_mark bit none one false row rest is =
    sum_by-cons (bit_number bit) row.flags (map (λ p. p.note) rest) ∙ ap (λ n. bit_number bit row.flags + n) is ∙ sym (sum_by-cons (bit_number bit) row.flags (map (λ p. p.note) (filter stays rest)))
    ∙ sym (ap (λ b. note_count bit (map (λ p. p.note) (cond b (with_note row row.flags ∷ filter stays rest) (filter stays rest)))) (eq-eqb row.flags row.flags refl))

-- marks count neither as Seen nor as Deleted
pub count_stays : (bit : ℕ) → bit_number bit 0 ≡ 0 → bit_number bit 1 ≡ 0 → (test : ℕ → Bool) (rows : List Row)
    → note_count bit (map (λ p. p.note) (map (marked_if test) rows)) ≡ note_count bit (map (λ p. p.note) (filter stays (map (marked_if test) rows)))
count_stays bit none one test [] = refl
count_stays bit none one test (row ∷ rows) = count_by_mark bit none one (test row.uid) row (map (marked_if test) rows) (count_stays bit none one test rows)

-- rows that don't pass the test aren't marked
pub unmarked : (test : ℕ → Bool) (rows : List Row) (n : ℕ) → All (λ row. test row.uid ≡ false) (take n rows) → All (λ p. p.note ≡ p.row.flags) (take n (map (marked_if test) rows))
unmarked test rows n out =
    subst (All (λ (p : Noted). p.note ≡ p.row.flags)) (sym (take-map (marked_if test) n rows))
    (All-map (λ (p : Noted). p.note ≡ p.row.flags) (marked_if test) (take n rows)
    (All-weaker (λ (row : Row). test row.uid ≡ false) (λ (row : Row). (marked_if test row).note ≡ (marked_if test row).row.flags) (λ row e. subst (λ b. (cond b (marked (with_note row row.flags)) (with_note row row.flags)).note ≡ (cond b (marked (with_note row row.flags)) (with_note row row.flags)).row.flags) (sym e) refl) (take n rows) out))

-- ---- lists of rows with their flags

-- rows made one by one, with their flags beside them
pub record AreMade (f : Row → Row) (before new : List Row) (now : List ℕ) : Type 0 where
  pub rows : new ≡ map f before
  pub flags : now ≡ map (λ row. row.flags) new

all_made : (f : Row → Row) (rows new : List Row) (now : List ℕ) → length now ≡ length new → noted new now ≡ map (λ row. with_note (f row) (f row).flags) rows → AreMade f rows new now
all_made f rows new now many all =
    let rows_are : new ≡ map f rows = sym (noted_rows new now many) ∙ ap (map (λ p. p.row)) all ∙ map_map (λ (p : Noted). p.row) (λ row. with_note (f row) (f row).flags) rows in
    record {
      rows = rows_are;
      flags = sym (noted_notes new now many) ∙ ap (map (λ p. p.note)) all ∙ map_map (λ (p : Noted). p.note) (λ row. with_note (f row) (f row).flags) rows
          ∙ sym (map_map (λ (row : Row). row.flags) f rows) ∙ ap (map (λ (row : Row). row.flags)) (sym rows_are);
    }

pub made : {X : Type 0} (first last : X → ℕ) (after : X → Noted → Noted) (ranges : List X) (f : Row → Row) (rows : List Row) (notes : List ℕ) (new : List Row) (now : List ℕ)
    → notes ≡ map (λ row. row.flags) rows → length now ≡ length new → noted new now ≡ map (by_ranges first last after ranges) (noted rows notes)
    → ((row : Row) → by_ranges first last after ranges (with_note row row.flags) ≡ with_note (f row) (f row).flags) → AreMade f rows new now
made first last after ranges f rows notes new now flags many is each =
    all_made f rows new now many
    (is ∙ ap (λ l. map (by_ranges first last after ranges) (noted rows l)) flags ∙ ap (map (by_ranges first last after ranges)) (noted_flags rows)
    ∙ map_map (by_ranges first last after ranges) (λ (row : Row). with_note row row.flags) rows
    ∙ map_same (λ (row : Row). by_ranges first last after ranges (with_note row row.flags)) (λ row. with_note (f row) (f row).flags) each rows)

-- two walks, one behind the other
pub made_twice : {X : Type 0} (first last : X → ℕ) (one two : X → Noted → Noted) (ranges : List X) (f : Row → Row) (rows : List Row) (notes : List ℕ) (between : List Noted) (new : List Row) (now : List ℕ)
    → notes ≡ map (λ row. row.flags) rows → length now ≡ length new → between ≡ map (by_ranges first last one ranges) (noted rows notes) → noted new now ≡ map (by_ranges first last two ranges) between
    → ((row : Row) → by_ranges first last two ranges (by_ranges first last one ranges (with_note row row.flags)) ≡ with_note (f row) (f row).flags) → AreMade f rows new now
made_twice first last one two ranges f rows notes between new now flags many was is each =
    all_made f rows new now many
    (is ∙ ap (map (by_ranges first last two ranges)) (was ∙ ap (λ l. map (by_ranges first last one ranges) (noted rows l)) flags ∙ ap (map (by_ranges first last one ranges)) (noted_flags rows)
    ∙ map_map (by_ranges first last one ranges) (λ (row : Row). with_note row row.flags) rows)
    ∙ map_map (by_ranges first last two ranges) (λ (row : Row). by_ranges first last one ranges (with_note row row.flags)) rows
    ∙ map_same (λ (row : Row). by_ranges first last two ranges (by_ranges first last one ranges (with_note row row.flags))) (λ row. with_note (f row) (f row).flags) each rows)

-- marks in turn
pub all_marked : {X : Type 0} (first last : X → ℕ) (ranges : List X) (rows : List Row) (notes : List ℕ) (new : List Noted) → notes ≡ map (λ row. row.flags) rows
    → new ≡ map (by_ranges first last (λ r. marked) ranges) (noted rows notes) → new ≡ map (marked_if (λ uid. list_any (has first last uid) ranges)) rows
all_marked first last ranges rows notes new flags is =
    is ∙ ap (λ l. map (by_ranges first last (λ r. marked) ranges) (noted rows l)) flags ∙ ap (map (by_ranges first last (λ r. marked) ranges)) (noted_flags rows)
    ∙ map_map (by_ranges first last (λ r. marked) ranges) (λ (row : Row). with_note row row.flags) rows
    ∙ map_same (λ (row : Row). by_ranges first last (λ r. marked) ranges (with_note row row.flags)) (marked_if (λ uid. list_any (has first last uid) ranges)) (mark_walked first last ranges) rows

-- marks where a UID is named and no row has it
pub missing_are_marked : (there : ℕ → Bool) (uids : List ℕ) (rows : List Row) (notes : List ℕ) (new : List Noted) → notes ≡ map (λ row. row.flags) rows
    → new ≡ map (by_ranges (λ x. x) (λ x. x) (missing_marked there) uids) (noted rows notes) → new ≡ map (marked_if (λ uid. list_any (nat_eq uid) uids && not (there uid))) rows
missing_are_marked there uids rows notes new flags is =
    is ∙ ap (λ l. map (by_ranges (λ x. x) (λ x. x) (missing_marked there) uids) (noted rows l)) flags ∙ ap (map (by_ranges (λ x. x) (λ x. x) (missing_marked there) uids)) (noted_flags rows)
    ∙ map_map (by_ranges (λ x. x) (λ x. x) (missing_marked there) uids) (λ (row : Row). with_note row row.flags) rows
    ∙ map_same (λ (row : Row). by_ranges (λ x. x) (λ x. x) (missing_marked there) uids (with_note row row.flags)) (marked_if (λ uid. list_any (nat_eq uid) uids && not (there uid))) (missing_walked there uids) rows

-- the rows that aren't marked, with what is beside them
pub record AreLeft (test : ℕ → Bool) (before : List Row) (notes : List ℕ) (new : List Row) (now : List ℕ) : Type 0 where
  pub rows : new ≡ filter (λ row. not (test row.uid)) before
  pub flags : now ≡ map (λ row. row.flags) new
  pub seen : note_count 8 notes ≡ note_count 8 now
  pub deleted : note_count 4 notes ≡ note_count 4 now

pub left : (test : ℕ → Bool) (rows before new : List Row) (notes now : List ℕ) → length notes ≡ length before → length now ≡ length new
    → noted before notes ≡ map (marked_if test) rows → noted new now ≡ filter stays (noted before notes) → AreLeft test rows notes new now
left test rows before new notes now many also marks is =
    let all : noted new now ≡ filter stays (map (marked_if test) rows) = is ∙ ap (filter stays) marks in
    let notes_now : now ≡ map (λ p. p.note) (filter stays (map (marked_if test) rows)) = sym (noted_notes new now also) ∙ ap (map (λ p. p.note)) all in
    let notes_were : notes ≡ map (λ p. p.note) (map (marked_if test) rows) = sym (noted_notes before notes many) ∙ ap (map (λ p. p.note)) marks in
    let new_is : new ≡ map (λ p. p.row) (filter stays (map (marked_if test) rows)) = sym (noted_rows new now also) ∙ ap (map (λ p. p.row)) all in
    record {
      rows = new_is ∙ rows_stay test rows;
      flags = notes_now ∙ notes_stay test rows ∙ sym (map_map (λ (row : Row). row.flags) (λ (p : Noted). p.row) (filter stays (map (marked_if test) rows))) ∙ ap (map (λ (row : Row). row.flags)) (sym new_is);
      seen = ap (note_count 8) notes_were ∙ count_stays 8 refl refl test rows ∙ sym (ap (note_count 8) notes_now);
      deleted = ap (note_count 4) notes_were ∙ count_stays 4 refl refl test rows ∙ sym (ap (note_count 4) notes_now);
    }
