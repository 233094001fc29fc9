-- What a purge finds in the rows of a map and in a file.
use Rattle.std.proofs.Common.{◌≡◌, ◌≢◌, ◌⊎◌, inl, inr, ⊎_elim, ℕ, ◌+◌, ◌^◌, ◌<◌, ◌≤◌, min, Bool, true, false, cond, Contains, List, [], ◌∷◌, ◌++◌, length, map, take, get_or, nat_eq, Option, Some, None, refl, sym, ◌∙◌, ap, subst, arith, append_assoc}
use Rattle.std.specs.Prelude.{◌&&◌, All, IfSome, IsSomeAnd, MatchOption, filter, nat_le, nat_lt, slice_get}
use Rattle.std.proofs.lemmas.Bool.{cases_lt, leb-true}
use Rattle.std.proofs.lemmas.Bool.Decides.{nat_tests}
use Rattle.std.proofs.lemmas.List.{append-nil, get_or_default, map-append, take_all, take_more}
use Rattle.std.proofs.lemmas.List.Elements.{All-nil, All-push, Contains-append_left, Contains-push, filter-append}
use Rattle.std.proofs.lemmas.List.Sums.{sum_by-take-le, sum_by_push}
use Rattle.std.proofs.lemmas.Option.{get_or_from_slice_get}
use Rattle.dv_model.specs.declared.types.Extension.{Extension}
use Rattle.dv_model.specs.declared.types.Mailbox.{Mailbox}
use Rattle.dv_model.specs.declared.types.Row.{Row}
use Rattle.dv_model.specs.Journals.{Damaged, Held}
use Rattle.dv_dbox.specs.Mails.{mail_in}
use Rattle.dv_maps.specs.declared.mapped.Mapped.{Mapped}
use Rattle.dv_maps.specs.declared.place.Place.{Place}
use Rattle.dv_maps.specs.declared.tables.Listed.{Listed}
use Rattle.dv_maps.specs.Maps.{count_of, place_of}
use Rattle.dv_maps.specs.Purges.{all_mapped, bytes_in, is_gone, is_kept, mapped, size_of, texts_in}
use Rattle.dv_maps.specs.Tables.{all_listed, listed}
use Rattle.dv_maps.specs.Texts.{text_in}
use Rattle.dv_mdbox.specs.declared.gathering.FileRows.{FileRows}
use Rattle.dv_mdbox.specs.Gathering.{AddsRow, AreRowsOf, Gathers, GathersFrom, IsLess}
use Rattle.dv_mdbox.specs.Purging.{IsNextGone, NoneGoneFrom}

-- ---- the first rows of a map

abbrev pub front : Mailbox → ℕ → List Mapped
front m k = map (mapped m) (take k m.rows)

pub read_is : (m : Mailbox) (row : Row) (es : List Extension) (r : Mapped) → es ≡ m.extensions → r ≡ record { id = row.uid; count = count_of es row.parts; place = place_of es row.parts } → r ≡ mapped m row
read_is m row es r own is = is ∙ ap (λ (e : List Extension). record { id = row.uid; count = count_of e row.parts; place = place_of e row.parts }) own

pub front_more : (m : Mailbox) (k : ℕ) (row : Row) → k < length m.rows → slice_get m.rows k ≡ Some row → front m (k + 1) ≡ front m k ++ mapped m row ∷ []
front_more m k row less get =
    ap (map (mapped m)) (take_more m.rows k row less ∙ ap (λ (r : Row). take k m.rows ++ r ∷ []) (get_or_from_slice_get m.rows k row row get)) ∙ map-append (mapped m) (take k m.rows) (row ∷ [])

pub front_all : (m : Mailbox) (k : ℕ) → length m.rows ≤ k → front m k ≡ all_mapped m
front_all m k through = ap (map (mapped m)) (take_all k m.rows through)

-- ---- the table of a map's rows by file

pub listed_more : (m : Mailbox) (k : ℕ) (row : Row) (old new : List Listed) (one : Listed) → k < length m.rows → slice_get m.rows k ≡ Some row → old ≡ all_listed (front m k) → one ≡ listed (mapped m row) → new ≡ old ++ one ∷ [] → new ≡ all_listed (front m (k + 1))
listed_more m k row old new one less get was is more =
    more ∙ ap (λ (l : List Listed). l ++ one ∷ []) was ∙ ap (λ (x : Listed). all_listed (front m k) ++ x ∷ []) is
    ∙ sym (map-append listed (front m k) (mapped m row ∷ []))
    ∙ ap all_listed (sym (front_more m k row less get))

pub listed_all : (m : Mailbox) (k : ℕ) (rows : List Listed) → length m.rows ≤ k → rows ≡ all_listed (front m k) → rows ≡ all_listed (all_mapped m)
listed_all m k rows through is = is ∙ ap all_listed (front_all m k through)

-- ---- the next file

-- the least number of a file with a row without references, from a number on, of some rows
pub record IsLeast (from : ℕ) (rows : List Mapped) (least : Option ℕ) : Type 0 where
  pub each : All (λ (r : Mapped). r.count ≡ 0 → (r.place.file < from) ⊎ IsSomeAnd least (λ b. b ≤ r.place.file)) rows
  pub is : IfSome least (λ b. (from ≤ b) × ((r : Mapped) × Contains rows r × (r.count ≡ 0) × (r.place.file ≡ b)))

grow : (least now : Option ℕ) (n : ℕ) → IfSome least (λ a. IfSome now (λ b. b ≤ a)) → (now ≡ None → least ≡ None) → IsSomeAnd least (λ b. b ≤ n) → IsSomeAnd now (λ b. b ≤ n)
grow None now n old kept some = absurd some
grow (Some a) None n old kept some = absurd (let e : Some a ≡ None = kept refl in cc)
grow (Some a) (Some b) n old kept some = let one = old in let two = some in omega (arith, one, two)

reach : (from : ℕ) (rows : List Mapped) (row : Mapped) (least now : Option ℕ)
    → IfSome least (λ b. (from ≤ b) × ((r : Mapped) × Contains rows r × (r.count ≡ 0) × (r.place.file ≡ b)))
    → IfSome now (λ b. (least ≡ Some b) ⊎ ((row.count ≡ 0) × (row.place.file ≡ b) × (from ≤ b)))
    → IfSome now (λ b. (from ≤ b) × ((r : Mapped) × Contains (rows ++ row ∷ []) r × (r.count ≡ 0) × (r.place.file ≡ b)))
reach from rows row least None was is = tt
reach from rows row least (Some b) was is =
    ⊎_elim
    (λ same.
    let old = subst (λ (o : Option ℕ). IfSome o (λ b. (from ≤ b) × ((r : Mapped) × Contains rows r × (r.count ≡ 0) × (r.place.file ≡ b)))) same was in
    (old.0, (old.1.0, Contains-append_left rows (row ∷ []) old.1.0 old.1.1, old.1.2, old.1.3))) (λ new. (new.2, (row, Contains-push rows row, new.0, new.1))) is

pub least_more : (from : ℕ) (rows : List Mapped) (least : Option ℕ) (row : Mapped) (now : Option ℕ) → IsLeast from rows least → IsLess from least row now → IsLeast from (rows ++ row ∷ []) now
least_more from rows least row now was is =
    let Each : Mapped → Type 0 = λ r. r.count ≡ 0 → (r.place.file < from) ⊎ IsSomeAnd now (λ b. b ≤ r.place.file) in
    record {
      each = All-push Each rows row (λ k d inside none. ⊎_elim inl (λ some. inr (grow least now (get_or rows k d).place.file is.old is.kept some)) (was.each k d inside none)) is.new;
      is = reach from rows row least now was.is is.is;
    }

pub none_least : (from : ℕ) → IsLeast from [] None
none_least from = record { each = All-nil (λ (r : Mapped). r.count ≡ 0 → (r.place.file < from) ⊎ IsSomeAnd None (λ b. b ≤ r.place.file)); is = tt }

pub next_of : (m : Mailbox) (from : ℕ) (least : Option ℕ) → IsLeast from (all_mapped m) least → MatchOption least (NoneGoneFrom m from) (IsNextGone m from)
next_of m from None is = λ k r inside none. ⊎_elim (λ low. low) (λ some. absurd some) (is.each k r inside none)
next_of m from (Some b) is = record { from_there = is.is.0; some = is.is.1; first = is.each }

-- the lesser of two
pub less_kept : (from : ℕ) (least : Option ℕ) (row : Mapped) → (0 < row.count) ⊎ (row.place.file < from) → IsLess from least row least
less_kept from None row why = record { old = tt; kept = λ e. e; new = λ none. inl (⊎_elim (λ some. absurd (omega (arith, some, none))) (λ low. low) why); is = tt }
less_kept from (Some a) row why = record { old = omega arith; kept = λ e. e; new = λ none. inl (⊎_elim (λ some. absurd (omega (arith, some, none))) (λ low. low) why); is = inl refl }

pub less_first : (from : ℕ) (row : Mapped) → row.count ≡ 0 → from ≤ row.place.file → IsLess from None row (Some row.place.file)
less_first from row none low = record { old = tt; kept = λ e. refl; new = λ same. inr (omega arith); is = inr (none, refl, low) }

pub less_of : (from a : ℕ) (row : Mapped) → row.count ≡ 0 → from ≤ row.place.file → IsLess from (Some a) row (Some (min a row.place.file))
less_of from a row none low = record {
  old = omega arith;
  kept = λ e. absurd cc;
  new = λ same. inr (omega arith);
  is = ⊎_elim (λ (less : a < row.place.file). let e : a ≡ min a row.place.file = omega (arith, less) in inl (ap (λ (n : ℕ). Some n) e)) (λ (more : row.place.file ≤ a). inr (none, omega (arith, more), omega (arith, more, low))) (cases_lt a row.place.file);
}

-- ---- the rows of a file

pub record AreSoFar (m : Mailbox) (file k : ℕ) (kept : List Mapped) (gone : List ℕ) : Type 0 where
  pub kept_are : kept ≡ filter (is_kept file) (front m k)
  pub gone_are : gone ≡ map (λ (r : Mapped). r.id) (filter (is_gone file) (front m k))

module _ (m : Mailbox) (file k : ℕ) (row : Row) (less : k < length m.rows) (get : slice_get m.rows k ≡ Some row) (old new : FileRows) where
  -- one row more
  pub so_more : AreSoFar m file k old.kept.items old.gone.items → AddsRow file (mapped m row) old new → AreSoFar m file (k + 1) new.kept.items new.gone.items
  so_more was adds =
      let more = front_more m k row less get in
      record {
        kept_are = adds.kept ∙ ap (λ (l : List Mapped). l ++ filter (is_kept file) (mapped m row ∷ [])) was.kept_are ∙ sym (filter-append (is_kept file) (front m k) (mapped m row ∷ [])) ∙ ap (filter (is_kept file)) (sym more);
        gone_are = adds.gone ∙ ap (λ (l : List ℕ). l ++ map (λ (r : Mapped). r.id) (filter (is_gone file) (mapped m row ∷ []))) was.gone_are
            ∙ sym (map-append (λ (r : Mapped). r.id) (filter (is_gone file) (front m k)) (filter (is_gone file) (mapped m row ∷ [])))
            ∙ ap (map (λ (r : Mapped). r.id)) (sym (filter-append (is_gone file) (front m k) (mapped m row ∷ [])) ∙ ap (filter (is_gone file)) (sym more));
      }

pub so_all : (m : Mailbox) (file k : ℕ) (rows : FileRows) → length m.rows ≤ k → AreSoFar m file k rows.kept.items rows.gone.items → AreRowsOf m file rows
so_all m file k rows through is =
    let all = front_all m k through in
    record { kept = is.kept_are ∙ ap (filter (is_kept file)) all; gone = is.gone_are ∙ ap (λ (l : List Mapped). map (λ (r : Mapped). r.id) (filter (is_gone file) l)) all }

-- the tests of one row
pub one_kept : (file : ℕ) (r : Mapped) → nat_eq r.place.file file ≡ true → 0 < r.count → (filter (is_kept file) (r ∷ []) ≡ r ∷ []) × (filter (is_gone file) (r ∷ []) ≡ [])
one_kept file r here some =
    let yes : nat_lt 0 r.count ≡ true = grind (arith, nat_tests, some) in
    let no : nat_eq r.count 0 ≡ false = grind (arith, nat_tests, some) in
    (λ i. cond (here i && yes i) (r ∷ []) [], λ i. cond (here i && no i) (r ∷ []) [])

pub one_gone : (file : ℕ) (r : Mapped) → nat_eq r.place.file file ≡ true → r.count ≤ 0 → (filter (is_kept file) (r ∷ []) ≡ []) × (filter (is_gone file) (r ∷ []) ≡ r ∷ [])
one_gone file r here none =
    let yes : nat_eq r.count 0 ≡ true = grind (arith, nat_tests, none) in
    let no : nat_lt 0 r.count ≡ false = grind (arith, nat_tests, none) in
    (λ i. cond (here i && no i) (r ∷ []) [], λ i. cond (here i && yes i) (r ∷ []) [])

pub adds_none : (file : ℕ) (r : Mapped) (rows : FileRows) → nat_eq r.place.file file ≡ false → AddsRow file r rows rows
adds_none file r rows away = record {
  kept = sym (append-nil rows.kept.items) ∙ ap (λ (l : List Mapped). rows.kept.items ++ l) (sym (λ i. cond (away i && nat_lt 0 r.count) (r ∷ []) []));
  gone = sym (append-nil rows.gone.items) ∙ ap (λ (l : List Mapped). rows.gone.items ++ map (λ (x : Mapped). x.id) l) (sym (λ i. cond (away i && nat_eq r.count 0) (r ∷ []) []));
}

-- ---- a text

pub whole_none : (bytes : List ℕ) (place : Place) → None ≡ cond (nat_le (place.offset + place.size) (length bytes)) (Some (bytes_in bytes place)) None → text_in (Some bytes) place ≡ Damaged
whole_none bytes place is = by_test (nat_le (place.offset + place.size) (length bytes)) is
  where
    by_test : (b : Bool) → None ≡ cond b (Some (bytes_in bytes place)) None → cond b (mail_in (Some (bytes_in bytes place))) Damaged ≡ Damaged
    by_test true is = absurd cc
    by_test false is = refl

pub record IsWhole (bytes text : List ℕ) (place : Place) : Type 0 where
  pub text_is : text ≡ bytes_in bytes place
  pub mail : text_in (Some bytes) place ≡ mail_in (Some text)

pub whole_some : (bytes text : List ℕ) (place : Place) → Some text ≡ cond (nat_le (place.offset + place.size) (length bytes)) (Some (bytes_in bytes place)) None → IsWhole bytes text place
whole_some bytes text place is = by_test (nat_le (place.offset + place.size) (length bytes)) refl is
  where
    one_text : (a b : List ℕ) → Some a ≡ Some b → a ≡ b
    one_text a b e = cc

    by_test : (b : Bool) → nat_le (place.offset + place.size) (length bytes) ≡ b → Some text ≡ cond b (Some (bytes_in bytes place)) None → IsWhole bytes text place
    by_test false test is = absurd cc
    by_test true test is =
        let same : text ≡ bytes_in bytes place = one_text text (bytes_in bytes place) is in
        record {
          text_is = same;
          mail = ap (λ (b : Bool). cond b (mail_in (Some (bytes_in bytes place))) Damaged) test ∙ ap (λ (t : List ℕ). mail_in (Some t)) (sym same);
        }

-- what holds a message isn't damaged
pub whole_held : (bytes text message : List ℕ) (place : Place) → IsWhole bytes text place → Held message ≡ mail_in (Some text) → text_in (Some bytes) place ≢ Damaged
whole_held bytes text message place whole held damaged = let both : Held message ≡ Damaged = held ∙ sym whole.mail ∙ damaged in cc

-- ---- texts one behind another

abbrev pub IsInside : List ℕ → Mapped → Type 0
IsInside bytes r = r.place.offset + r.place.size ≤ length bytes

-- a text that isn't damaged is in its file
inside_one : (bytes : List ℕ) (r : Mapped) → text_in (Some bytes) r.place ≢ Damaged → IsInside bytes r
inside_one bytes r whole = by_test (nat_le (r.place.offset + r.place.size) (length bytes)) refl whole
  where
    by_test : (b : Bool) → nat_le (r.place.offset + r.place.size) (length bytes) ≡ b → cond b (mail_in (Some (bytes_in bytes r.place))) Damaged ≢ Damaged → IsInside bytes r
    by_test true test whole = leb-true (r.place.offset + r.place.size) (length bytes) test
    by_test false test whole = absurd (whole refl)

abbrev pub IsHeld : List ℕ → Mapped → Type 0
IsHeld bytes r = text_in (Some bytes) r.place ≢ Damaged

pub all_inside : (bytes : List ℕ) (rows : List Mapped) → All (IsHeld bytes) rows → All (IsInside bytes) rows
all_inside bytes rows all = λ k d less. inside_one bytes (get_or rows k d) (all k d less)

pub record AreGathered (bytes : List ℕ) (rows : List Mapped) (texts : List ℕ) (size : ℕ) : Type 0 where
  pub texts_are : texts ≡ texts_in bytes rows
  pub whole : All (IsHeld bytes) rows
  pub size_is : size ≡ size_of rows
  pub short : size < 2 ^ 32

pub none_gathered : (bytes : List ℕ) → AreGathered bytes [] [] 0
none_gathered bytes = record { texts_are = refl; whole = All-nil (IsHeld bytes); size_is = refl; short = omega arith }

texts_push : (bytes : List ℕ) (rows : List Mapped) (r : Mapped) → texts_in bytes (rows ++ r ∷ []) ≡ texts_in bytes rows ++ bytes_in bytes r.place
texts_push bytes [] r = append-nil (bytes_in bytes r.place)
texts_push bytes (x ∷ rows) r = ap (λ (l : List ℕ). bytes_in bytes x.place ++ l) (texts_push bytes rows r) ∙ sym (append_assoc (bytes_in bytes x.place) (texts_in bytes rows) (bytes_in bytes r.place))

pub gathered_more : (bytes : List ℕ) (rows : List Mapped) (i : ℕ) (d : Mapped) (texts text : List ℕ) (size : ℕ) → i < length rows → AreGathered bytes (take i rows) texts size → text ≡ bytes_in bytes (get_or rows i d).place → IsHeld bytes (get_or rows i d)
    → size + (get_or rows i d).place.size < 2 ^ 32 → AreGathered bytes (take (i + 1) rows) (texts ++ text) (size + (get_or rows i d).place.size)
gathered_more bytes rows i d texts text size less was is whole short =
    let r : Mapped = get_or rows i d in
    subst (λ (l : List Mapped). AreGathered bytes l (texts ++ text) (size + r.place.size)) (sym (take_more rows i d less))
    (record {
      texts_are = (λ j. was.texts_are j ++ is j) ∙ sym (texts_push bytes (take i rows) r);
      whole = All-push (IsHeld bytes) (take i rows) r was.whole whole;
      size_is = ap (λ (n : ℕ). n + r.place.size) was.size_is ∙ sym (sum_by_push (λ (x : Mapped). x.place.size) (take i rows) r);
      short = short;
    })

pub gathered_step : (bytes : List ℕ) (rows : List Mapped) (i : ℕ) (d : Mapped) (texts more : List ℕ) (size end : ℕ) (found : Option (List ℕ)) (text : List ℕ) → i < length rows → AreGathered bytes (take i rows) texts size → GathersFrom bytes (get_or rows i d).place found → found ≡ Some text
    → (size + (get_or rows i d).place.size < 2 ^ 32) × (end ≡ size + (get_or rows i d).place.size) → more ≡ texts ++ text → AreGathered bytes (take (i + 1) rows) more end
gathered_step bytes rows i d texts more size end found text less was gathers is sum longer =
    let r : Mapped = get_or rows i d in
    let here : GathersFrom bytes r.place (Some text) = subst (GathersFrom bytes r.place) is gathers in
    subst (λ (n : ℕ). AreGathered bytes (take (i + 1) rows) more n) (sym sum.1)
    (subst (λ (t : List ℕ). AreGathered bytes (take (i + 1) rows) t (size + r.place.size)) (sym longer) (gathered_more bytes rows i d texts text size less was here.0 here.1 sum.0))

-- too many bytes by then are too many
pub too_long : (rows : List Mapped) (i size : ℕ) (d : Mapped) → i < length rows → size ≡ size_of (take i rows) → 2 ^ 32 ≤ size + (get_or rows i d).place.size → 2 ^ 32 ≤ size_of rows
too_long rows i size d less is long =
    let more : size_of (take (i + 1) rows) ≡ size_of (take i rows) + (get_or rows i d).place.size = ap size_of (take_more rows i d less) ∙ sum_by_push (λ (x : Mapped). x.place.size) (take i rows) (get_or rows i d) in
    let all = sum_by-take-le (λ (x : Mapped). x.place.size) rows (i + 1) in
    omega (arith, more, all, is, long)

pub contains_at : (rows : List Mapped) (i : ℕ) (d : Mapped) → i < length rows → Contains rows (get_or rows i d)
contains_at rows i d less = (i, less, get_or_default rows i (get_or rows i d) d less)

pub gathered_all : (bytes : List ℕ) (rows : List Mapped) (i : ℕ) (texts : List ℕ) (size : ℕ) → length rows ≤ i → AreGathered bytes (take i rows) texts size → AreGathered bytes rows texts size
gathered_all bytes rows i texts size through is = subst (λ (l : List Mapped). AreGathered bytes l texts size) (take_all i rows through) is

pub gathers_all : (bytes : List ℕ) (rows : List Mapped) (i : ℕ) (texts : List ℕ) (size : ℕ) → length rows ≤ i → AreGathered bytes (take i rows) texts size → Gathers (Some bytes) rows (Some texts)
gathers_all bytes rows i texts size through is =
    let all = gathered_all bytes rows i texts size through is in
    let short = all.short in
    let same = all.size_is in
    (bytes, refl, all.texts_are, all.whole, omega (arith, short, same))

-- no file has none of them
pub no_file : (rows : List Mapped) → 1 ≤ length rows → Gathers None rows None
no_file [] some = absurd (omega (arith, some))
no_file (r ∷ rows) some = inl (r, (0, omega arith, refl), refl)
