-- A file is rewritten: its texts are kept, and no row names it any more.
use Rattle.std.proofs.Common.{◌≡◌, ◌≢◌, ◌⊎◌, inl, inr, ⊎_elim, ℕ, zero, suc, ◌+◌, ◌^◌, ◌<◌, ◌≤◌, min, Bool, true, false, cond, Contains, List, [], ◌∷◌, length, map, take, drop, get_or, nat_eq, Option, Some, None, refl, sym, ◌∙◌, ap, subst, arith, length-append}
use Rattle.std.specs.Prelude.{◌&&◌, All, IsSome, filter, nat_lt}
use Rattle.std.proofs.lemmas.Bool.{eqb-false, ne_eqb}
use Rattle.std.proofs.lemmas.Bool.Decides.{nat_tests}
use Rattle.std.proofs.lemmas.List.{get_or-map, get_or_default, length-map}
use Rattle.std.proofs.lemmas.List.Elements.{All-cons, All-head, All-nil, All-tail}
use Rattle.dv_model.specs.declared.types.Mailbox.{Mailbox}
use Rattle.dv_model.specs.declared.types.Pair.{Pair}
use Rattle.dv_model.specs.declared.types.Row.{Row}
use Rattle.dv_model.specs.Effects.{applied}
use Rattle.dv_model.specs.Mailboxes.{IsValid}
use Rattle.dv_model.specs.Sessions.{piece_size, pieces, ranges_of, with_uid}
use Rattle.dv_shelf.specs.declared.shelf.Name.TheVariants as name
use Rattle.dv_shelf.specs.Folders.{Folder, name_number}
use Rattle.dv_shelf.proofs.FolderLemmas.{with_else}
use Rattle.dv_groups.proofs.Parted.{pieces-front}
use Rattle.dv_filing.specs.declared.steps.Files.{Files}
use Rattle.dv_filing.specs.declared.steps.Files.TheVariants as kind
use Rattle.dv_filing.specs.Clearing.{Needs}
use Rattle.dv_filing.specs.Writes.{KeepsThrough}
use Rattle.dv_maps.specs.declared.mapped.Mapped.{Mapped}
use Rattle.dv_maps.specs.Groups.{move_records}
use Rattle.dv_maps.specs.Laws.{IsMap}
use Rattle.dv_maps.specs.Maps.{row_place}
use Rattle.dv_maps.specs.Purges.{Rewrites, RewritesAre, RewritesAreWritten, RewritesKeep, StandsIn, all_mapped, file_records, is_gone, is_kept, kept_size, mapped, moved, rewritten, texts_in}
use Rattle.dv_maps.specs.Texts.{KeepsTexts, Messages, text_in}
use Rattle.dv_maps.proofs.Moving.{expunge}
use Rattle.dv_maps.proofs.Rewriting.{kept_front, new_row, rewritten_front}
use Rattle.dv_mdbox.specs.declared.tails.Tail.{Tail}
use Rattle.dv_mdbox.specs.Purging.{IsNextFile, IsNextGone, WritesKept, kept_rows}
use Rattle.dv_mdbox.specs.Tails.{IsTailOf, number_behind, tail_file}

pub one_mail : (a b : ℕ) → name.Mail a ≡ name.Mail b → a ≡ b
one_mail a b same =
    let sum : 4 + a ≡ 4 + b = ap name_number same in
    omega (arith, sum)

-- ---- the rows of a map by what they say

pub mapped_at : (m : Mailbox) (k : ℕ) (r : Mapped) (row : Row) → k < length m.rows → get_or (all_mapped m) k r ≡ mapped m (get_or m.rows k row)
mapped_at m k r row inside = get_or-map (mapped m) m.rows k row r inside

pub mapped_count : (m : Mailbox) → length (all_mapped m) ≡ length m.rows
mapped_count m = length-map m.rows (mapped m)

-- ---- numbers of files

-- a new file's number is above all
pub below_next : (m : Mailbox) (new : ℕ) → IsNextFile m new → (k : ℕ) (row : Row) → k < length m.rows → (row_place m (get_or m.rows k row)).file < new
below_next m new next k row inside = by_tail next.0 next.1 next.2
  where
    by_tail : (tail : Option Tail) → IsTailOf m m.rows tail → new ≡ number_behind (tail_file tail) → (row_place m (get_or m.rows k row)).file < new
    by_tail None none is = absurd (let zero_rows : length m.rows ≡ 0 = ap length none in omega (arith, zero_rows, inside))
    by_tail (Some t) tail is = let low = (tail.each k row inside).highest in omega (arith, low, is)

pub named_below : (m : Mailbox) (new : ℕ) → IsNextFile m new → (r : Mapped) → Contains (all_mapped m) r → r.place.file < new
named_below m new next r (k, inside, is) =
    let count = mapped_count m in
    by_rows (omega (arith, count, inside))
  where
    first_row : (rows : List Row) (j : ℕ) → j < length rows → Row
    first_row [] j less = absurd (omega (arith, less))
    first_row (row ∷ rows) j less = row

    by_rows : k < length m.rows → r.place.file < new
    by_rows less =
        let row : Row = first_row m.rows k less in
        let here : mapped m (get_or m.rows k row) ≡ r = sym (mapped_at m k r row less) ∙ is in
        let low = below_next m new next k row less in
        let same : (row_place m (get_or m.rows k row)).file ≡ r.place.file = ap (λ (x : Mapped). x.place.file) here in
        omega (arith, low, same)

-- ---- the texts

module _ (law : RewritesKeep) (messages : Messages) (m after : Mailbox) (file new : ℕ) (bytes : List ℕ) (is : Rewrites file new m after) where
  abbrev Still : Folder → Folder → Mapped → Type 0
  Still d c r = c (name.Mail r.place.file) ≡ d (name.Mail r.place.file)

  still_same : (d c : Folder) → c ≡ d → All (Still d c) (all_mapped m)
  still_same d c same = λ k r inside. ap (λ (f : Folder). f (name.Mail (get_or (all_mapped m) k r).place.file)) same

  still_others : (n : ℕ) → n ≡ new → IsNextFile m new → (d c : Folder) → ((file : ℕ) → file ≢ n → c (name.Mail file) ≡ d (name.Mail file)) → All (Still d c) (all_mapped m)
  still_others n same next d c others = λ k r inside.
      let s : Mapped = get_or (all_mapped m) k r in
      let low = named_below m new next s (k, inside, get_or_default (all_mapped m) k s r inside) in
      others s.place.file (λ e. absurd (omega (arith, low, e, same)))

  stays_texts : (d c : Folder) → All (Still d c) (all_mapped m) → KeepsTexts messages m d → KeepsTexts messages m c
  stays_texts d c still keeps = λ k row inside some message known.
      let count = mapped_count m in
      let r : Mapped = mapped m (get_or m.rows k row) in
      let at : get_or (all_mapped m) k r ≡ r = mapped_at m k r row inside in
      let here : c (name.Mail r.place.file) ≡ d (name.Mail r.place.file) = subst (λ (x : Mapped). c (name.Mail x.place.file) ≡ d (name.Mail x.place.file)) at (still k r (omega (arith, count, inside))) in
      ap (λ (o : Option (List ℕ)). text_in o r.place) here ∙ keeps k row inside some message known

  pub through_kept : (files : Files) → WritesKept messages m file new bytes files → KeepsThrough messages messages m after files
  through_kept kind.Nothing none = record {
    stays = λ d c same keeps. subst (KeepsTexts messages m) (sym same) keeps;
    goes = λ read d c same from keeps. law messages m after file new bytes d c is keeps (still_same d c same) (subst (All (StandsIn messages bytes)) (sym none) (All-nil (StandsIn messages bytes))) (inl none);
    same = λ c keeps. keeps;
  }
  through_kept (kind.Text n at text) none = absurd none
  through_kept (kind.File n text) (same, next, texts, stands, some) = record {
    stays = λ d c put keeps.
        stays_texts d c
        (⊎_elim (λ (e : c ≡ d). still_same d c e)
        (λ there. still_others n same next d c (λ f away. ap (λ (x : Folder). x (name.Mail f)) there ∙ with_else d (name.Mail n) (Some text) (name.Mail f) (λ e. away (one_mail f n e)))) put) keeps;
    goes = λ read d c written from keeps.
        law messages m after file new bytes d c is keeps (still_others n same next d c (λ f away. written.others (name.Mail f) (λ e. away (one_mail f n e)))) stands
        (inr (subst (λ (k : ℕ). c (name.Mail k) ≡ Some (texts_in bytes (kept_rows m file))) same (written.there ∙ ap (λ (t : List ℕ). Some t) texts)));
    same = λ c keeps. keeps;
  }

-- ---- the old file

module _ (file new : ℕ) where
  abbrev Away : Mapped → Type 0
  Away r = r.place.file ≢ file

  left_one : (r : Mapped) (rs : List Mapped) (at : ℕ) → (new ≢ file) ⊎ (filter (is_kept file) (r ∷ rs) ≡ []) → ((at : ℕ) → (new ≢ file) ⊎ (filter (is_kept file) rs ≡ []) → All Away (rewritten file new at rs)) → (f c : Bool) → nat_eq r.place.file file ≡ f → nat_lt 0 r.count ≡ c
      → All Away (rewritten file new at (r ∷ rs))
  left_one r rs at apart rest true true here count =
      let away : new ≢ file = ⊎_elim (λ a. a) (λ none. absurd (let e : r ∷ filter (is_kept file) rs ≡ [] = sym (kept_front file new r rs true true here count) ∙ none in cc)) apart in
      subst (All Away) (sym (rewritten_front file new r rs at true true here count)) (All-cons Away (new_row file new at r) (rewritten file new (at + r.place.size) rs) away (rest (at + r.place.size) (inl away)))
  left_one r rs at apart rest true false here count =
      subst (All Away) (sym (rewritten_front file new r rs at true false here count)) (rest at (subst (λ (l : List Mapped). (new ≢ file) ⊎ (l ≡ [])) (kept_front file new r rs true false here count) apart))
  left_one r rs at apart rest false c here count =
      subst (All Away) (sym (rewritten_front file new r rs at false c here count))
      (All-cons Away r (rewritten file new at rs) (eqb-false r.place.file file here) (rest at (subst (λ (l : List Mapped). (new ≢ file) ⊎ (l ≡ [])) (kept_front file new r rs false c here count) apart)))

  pub none_left : (rs : List Mapped) (at : ℕ) → (new ≢ file) ⊎ (filter (is_kept file) rs ≡ []) → All Away (rewritten file new at rs)
  none_left [] at apart = All-nil Away
  none_left (r ∷ rs) at apart = left_one r rs at apart (λ n a. none_left rs n a) (nat_eq r.place.file file) (nat_lt 0 r.count) refl refl

pub not_needed : (m after : Mailbox) (file new : ℕ) → Rewrites file new m after → (new ≢ file) ⊎ (kept_rows m file ≡ []) → Needs after (file ∷ []) → ⊥
not_needed m after file new is apart (row, (k, inside, here), some, (j, less, named)) =
    let all : All (λ (r : Mapped). r.place.file ≢ file) (all_mapped after) = subst (All (λ (r : Mapped). r.place.file ≢ file)) (sym is.rows) (none_left file new (all_mapped m) 0 apart) in
    let count = mapped_count after in
    let at : get_or (all_mapped after) k (mapped after row) ≡ mapped after row = mapped_at after k (mapped after row) row inside ∙ ap (mapped after) here in
    let one : (row_place after row).file ≡ file = only j less named in
    all k (mapped after row) (omega (arith, count, inside)) (ap (λ (r : Mapped). r.place.file) at ∙ one)
  where
    only : (j : ℕ) → j < 1 → get_or (file ∷ []) j (row_place after row).file ≡ (row_place after row).file → (row_place after row).file ≡ file
    only zero less is = sym is
    only (suc j) less is = absurd (omega (arith, less))

-- ---- the records

ranges_some : (uid : ℕ) (pairs : List Pair) → 1 ≤ length (with_uid uid pairs)
ranges_some uid [] = omega arith
ranges_some uid (pair ∷ pairs) = by_test (nat_eq (uid + 1) pair.first)
  where
    by_test : (b : Bool) → 1 ≤ length (cond b (record { first = uid; last = pair.last } ∷ pairs) (record { first = uid; last = uid } ∷ pair ∷ pairs))
    by_test true = omega arith
    by_test false = omega arith

some_ranges : (gone : List ℕ) → 1 ≤ length gone → 1 ≤ length (ranges_of gone)
some_ranges [] some = absurd (omega (arith, some))
some_ranges (uid ∷ uids) some = ranges_some uid (ranges_of uids)

some_pieces : (xs : List Pair) → 1 ≤ length xs → 1 ≤ length (map expunge (pieces xs))
some_pieces xs some =
    let n : ℕ = min (length xs) piece_size in
    let cut = pieces-front xs (take n xs) (drop n xs) n some refl refl refl in
    let long : length (map expunge (pieces xs)) ≡ length (pieces xs) = length-map (pieces xs) expunge in
    let one : length (pieces xs) ≡ suc (length (pieces (drop n xs))) = ap length cut in
    omega (arith, long, one)

-- a file that has a row without references has records
pub some_records : (m : Mailbox) (file new : ℕ) → 1 ≤ length (map (λ (r : Mapped). r.id) (filter (is_gone file) (all_mapped m))) → 1 ≤ length (file_records file new (all_mapped m))
some_records m file new some =
    let gone : List ℕ = map (λ (r : Mapped). r.id) (filter (is_gone file) (all_mapped m)) in
    let long = some_pieces (ranges_of gone) (some_ranges gone some) in
    let sum = length-append (move_records (moved new 0 (filter (is_kept file) (all_mapped m)))) (map expunge (pieces (ranges_of gone))) in
    omega (arith, sum, long)

pub passed : (p : Mapped → Bool) (xs : List Mapped) (k : ℕ) (r : Mapped) → k < length xs → get_or xs k r ≡ r → p r ≡ true → 1 ≤ length (filter p xs)
passed p [] k r less is test = absurd (omega (arith, less))
passed p (x ∷ xs) zero r less is test = subst (λ (b : Bool). 1 ≤ length (cond b (x ∷ filter p xs) (filter p xs))) (sym (ap p is ∙ test)) (omega arith)
passed p (x ∷ xs) (suc k) r less is test =
    let rest = passed p xs k r (omega (arith, less)) is test in
    by_test (p x) rest
  where
    by_test : (b : Bool) → 1 ≤ length (filter p xs) → 1 ≤ length (cond b (x ∷ filter p xs) (filter p xs))
    by_test true some = omega arith
    by_test false some = some

pub some_gone : (m : Mailbox) (from file : ℕ) → IsNextGone m from file → 1 ≤ length (map (λ (r : Mapped). r.id) (filter (is_gone file) (all_mapped m)))
some_gone m from file next =
    let r = next.some.0 in
    let there = next.some.1 in
    let test : is_gone file r ≡ true = λ i. is_same i && is_none i in
    let some = passed (is_gone file) (all_mapped m) there.0 r there.1 there.2 test in
    let long = length-map (filter (is_gone file) (all_mapped m)) (λ (x : Mapped). x.id) in
    omega (arith, some, long)
  where
    is_same : nat_eq next.some.0.place.file file ≡ true
    is_same = let e = next.some.3 in grind (arith, nat_tests, e)

    is_none : nat_eq next.some.0.count 0 ≡ true
    is_none = let e = next.some.2 in grind (arith, nat_tests, e)

-- a new file isn't one that has such a row
none_low : (file : ℕ) (rs : List Mapped) → All (λ (r : Mapped). r.place.file < file) rs → length (filter (is_gone file) rs) ≡ 0
none_low file [] low = refl
none_low file (r ∷ rs) low =
    let less = All-head (λ (r : Mapped). r.place.file < file) r rs low in
    let other : nat_eq r.place.file file ≡ false = ne_eqb r.place.file file (λ e. absurd (omega (arith, e, less))) in
    ap (λ (b : Bool). length (cond (b && nat_eq r.count 0) (r ∷ filter (is_gone file) rs) (filter (is_gone file) rs))) other ∙ none_low file rs (All-tail (λ (r : Mapped). r.place.file < file) r rs low)

pub apart : (m : Mailbox) (file new : ℕ) → 1 ≤ length (map (λ (r : Mapped). r.id) (filter (is_gone file) (all_mapped m))) → (kept_rows m file ≡ []) ⊎ IsNextFile m new → (new ≢ file) ⊎ (kept_rows m file ≡ [])
apart m file new some =
    ⊎_elim inr
    (λ next. inl (λ same.
    let low : All (λ (r : Mapped). r.place.file < new) (all_mapped m) = λ k r inside. named_below m new next (get_or (all_mapped m) k r) (k, inside, get_or_default (all_mapped m) k (get_or (all_mapped m) k r) r inside) in
    let none = none_low file (all_mapped m) (subst (λ (n : ℕ). All (λ (r : Mapped). r.place.file < n) (all_mapped m)) same low) in
    let long = length-map (filter (is_gone file) (all_mapped m)) (λ (r : Mapped). r.id) in
    absurd (omega (arith, some, none, long))))

-- ---- the law

some_of : {A : Type 0} (o : Option A) → IsSome o → (n : A) × (o ≡ Some n)
some_of (Some n) is = (n, refl)
some_of None is = absurd cc

pub record IsRewrittenBy (m : Mailbox) (file new : ℕ) : Type 0 where
  pub after : Mailbox
  pub gives : applied m (file_records file new (all_mapped m)) ≡ Some after
  pub is : Rewrites file new m after

pub some_rows : (m : Mailbox) (p : Mapped → Bool) → 1 ≤ length (map (λ (r : Mapped). r.id) (filter p (all_mapped m))) → 1 ≤ length m.rows
some_rows m p some = by_rows m.rows some
  where
    by_rows : (rows : List Row) → 1 ≤ length (map (λ (r : Mapped). r.id) (filter p (map (mapped m) rows))) → 1 ≤ length rows
    by_rows [] some = absurd (omega (arith, some))
    by_rows (row ∷ rows) some = omega arith

pub rewritten_by : RewritesAre → RewritesAreWritten → (m : Mailbox) (file new : ℕ) → IsMap m → IsValid m → 1 ≤ length (map (λ (r : Mapped). r.id) (filter (is_gone file) (all_mapped m))) → new < 2 ^ 32 → kept_size file (all_mapped m) < 2 ^ 32 → IsRewrittenBy m file new
rewritten_by law written m file new map valid some low short =
    let one = some_of (applied m (file_records file new (all_mapped m))) (written m file new valid).applies in
    record { after = one.0; gives = one.1; is = law m one.0 file new map valid (some_rows m (is_gone file) some) low short one.1 }
