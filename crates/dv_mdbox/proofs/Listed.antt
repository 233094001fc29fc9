-- What a table of a map's rows by file tells.
use Rattle.std.proofs.Common.{◌≡◌, ◌⊎◌, inl, inr, ⊎_elim, ℕ, zero, suc, ◌+◌, ◌<◌, ◌≤◌, Bool, true, false, cond, Contains, List, [], ◌∷◌, ◌++◌, length, map, take, get_or, nat_eq, nat_lt, Option, Some, None, refl, sym, ◌∙◌, ap, subst, arith, eq-eqb}
use Rattle.std.specs.Prelude.{All, IfSome, IsSome, filter, is_some, nat_le, not}
use Rattle.std.specs.List.Sorted.{IsNonDecreasingBy}
use Rattle.std.specs.Option.{option_and_then}
use Rattle.std.proofs.lemmas.Bool.{and_parts, cases_lt, le-leb, leb-true}
use Rattle.std.proofs.lemmas.Bool.Decides.{nat_tests}
use Rattle.std.proofs.lemmas.List.{get_or-map, get_or-take, get_or_default, length-map, length-take-le, map-append, take_all, take_more}
use Rattle.std.proofs.lemmas.List.Elements.{All-contains, All-more, All-nil, Contains-append_right, Contains-get_or, filter-append}
use Rattle.dv_model.specs.declared.types.Mailbox.{Mailbox}
use Rattle.dv_model.specs.declared.types.Record.{Record}
use Rattle.dv_model.specs.declared.types.Row.{Row}
use Rattle.dv_model.specs.Mailboxes.{IsValid}
use Rattle.dv_maps.specs.declared.mapped.Mapped.{Mapped}
use Rattle.dv_maps.specs.declared.tables.Listed.{Listed}
use Rattle.dv_maps.specs.Laws.{IsMap}
use Rattle.dv_maps.specs.Maps.{row_count, row_place}
use Rattle.dv_maps.specs.Purges.{all_mapped, is_gone, is_kept, mapped}
use Rattle.dv_maps.specs.Tables.{IsTableFrom, TablesStay, all_listed, is_in, is_of, listed, listed_from, listed_of, rows_in}
use Rattle.dv_mdbox.specs.declared.gathering.FileRows.{FileRows}
use Rattle.dv_mdbox.specs.declared.looking.Reference.{Reference}
use Rattle.dv_mdbox.specs.Gathering.{AddsRow, AreRowsOf}
use Rattle.dv_mdbox.specs.Looks.{reference_in, reference_of, row_of}
use Rattle.dv_mdbox.specs.Purging.{IsNextGone, NoneGoneFrom, PurgesFiles}
use Rattle.dv_mdbox.proofs.Rewritten.{named_below}
use Rattle.dv_mdbox.proofs.Rows.{row_found}

-- ---- what is in a list

module _ {X : Type 0} where
  abbrev pub Has : X → List X → Type 0
  Has x [] = ⊥
  Has x (y ∷ ys) = (y ≡ x) ⊎ Has x ys

  pub has_of : (xs : List X) (x : X) → Contains xs x → Has x xs
  has_of xs x (k, less, is) = at xs k less is
    where
      at : (xs : List X) (k : ℕ) → k < length xs → get_or xs k x ≡ x → Has x xs
      at [] k less is = absurd (omega (arith, less))
      at (y ∷ ys) zero less is = inl is
      at (y ∷ ys) (suc k) less is = inr (at ys k (omega (arith, less)) is)

  pub of_has : (xs : List X) (x : X) → Has x xs → Contains xs x
  of_has [] x has = absurd has
  of_has (y ∷ ys) x has = ⊎_elim (λ here. (0, omega arith, here)) (λ there. Contains-append_right (y ∷ []) ys x (of_has ys x there)) has

  passes : (p : X → Bool) (xs : List X) (x : X) → p x ≡ true → Has x xs → Has x (filter p xs)
  passes p [] x pass has = absurd has
  passes p (y ∷ ys) x pass has = by_test (p y) refl (⊎_elim inl (λ there. inr (passes p ys x pass there)) has)
    where
      by_test : (b : Bool) → p y ≡ b → (y ≡ x) ⊎ Has x (filter p ys) → Has x (cond b (y ∷ filter p ys) (filter p ys))
      by_test true test has = has
      by_test false test has = ⊎_elim (λ e. absurd (let both : true ≡ false = sym pass ∙ sym (ap p e) ∙ test in cc)) (λ there. there) has

  passed : (p : X → Bool) (xs : List X) (x : X) → Has x (filter p xs) → Has x xs × (p x ≡ true)
  passed p [] x has = absurd has
  passed p (y ∷ ys) x has = by_test (p y) refl (passed p ys x) has
    where
      by_test : (b : Bool) → p y ≡ b → (Has x (filter p ys) → Has x ys × (p x ≡ true)) → Has x (cond b (y ∷ filter p ys) (filter p ys)) → ((y ≡ x) ⊎ Has x ys) × (p x ≡ true)
      by_test true test more has = ⊎_elim (λ e. (inl e, ap p (sym e) ∙ test)) (λ there. let both = more there in (inr both.0, both.1)) has
      by_test false test more has = let both = more has in (inr both.0, both.1)

  -- a sharper test alone
  filter_both : (p q : X → Bool) → ((x : X) → q x ≡ true → p x ≡ true) → (xs : List X) → filter q (filter p xs) ≡ filter q xs
  filter_both p q sharper [] = refl
  filter_both p q sharper (x ∷ xs) = by_tests (filter_both p q sharper xs) (p x) refl (q x) refl
    where
      by_tests : filter q (filter p xs) ≡ filter q xs → (b : Bool) → p x ≡ b → (c : Bool) → q x ≡ c → filter q (cond b (x ∷ filter p xs) (filter p xs)) ≡ cond c (x ∷ filter q xs) (filter q xs)
      by_tests more true one c two = ap (λ (d : Bool). cond d (x ∷ filter q (filter p xs)) (filter q (filter p xs))) two ∙ ap (λ (l : List X). cond c (x ∷ l) l) more
      by_tests more false one true two = absurd (let both : true ≡ false = sym (sharper x two) ∙ one in cc)
      by_tests more false one false two = more

map_has : {X Y : Type 0} (f : X → Y) (xs : List X) (x : X) → Has x xs → Has (f x) (map f xs)
map_has f [] x has = absurd has
map_has f (y ∷ ys) x has = ⊎_elim (λ e. inl (ap f e)) (λ there. inr (map_has f ys x there)) has

of_map : {X Y : Type 0} (f : X → Y) (xs : List X) (y : Y) → Has y (map f xs) → (x : X) × Has x xs × (f x ≡ y)
of_map f [] y has = absurd has
of_map f (x ∷ xs) y has = ⊎_elim (λ e. (x, inl refl, e)) (λ there. let more = of_map f xs y there in (more.0, inr more.1, more.2)) has

-- what follows of a value, where there is one
pub some_weaker : {T : Type 0} {P Q : T → Type 0} (o : Option T) → ((x : T) → P x → Q x) → IfSome o P → IfSome o Q
some_weaker None then is = tt
some_weaker (Some x) then is = then x is

-- ---- rows in a table, and rows of the map

module _ (from : ℕ) (rs : List Mapped) (table : List Listed) (is : IsTableFrom from rs table) where
  abbrev over : Listed → Bool
  over row = nat_le from row.file

  -- one without references has an entry
  gone_listed : (r : Mapped) → Has r rs → r.count ≡ 0 → from ≤ r.place.file → Has (listed r) (listed_from from table)
  gone_listed r has none above =
      let file : ℕ = r.place.file in
      let here = passes (is_in file) rs r (eq-eqb file file refl) has in
      ⊎_elim
      (λ same.
      passes over table (listed r) (le-leb from file above) (passed (is_of file) table (listed r) (subst (Has (listed r)) (sym same) (map_has listed (rows_in file rs) r here))).0)
      (λ new. absurd (let some = All-contains (λ (x : Mapped). 1 ≤ x.count) (rows_in file rs) r new.1 (of_has (rows_in file rs) r here) in omega (arith, some, none))) (is file above)

  -- an entry is that of a row
  listed_there : (e : Listed) → Has e (listed_from from table) → (r : Mapped) × Has r rs × (listed r ≡ e)
  listed_there e has =
      let both = passed over table e has in
      let file : ℕ = e.file in
      let here = passes (is_of file) table e (eq-eqb file file refl) both.0 in
      ⊎_elim
      (λ same.
      let found = of_map listed (rows_in file rs) e (subst (Has e) same here) in
      (found.0, (passed (is_in file) rs found.0 found.1).0, found.2)) (λ new. absurd (subst (Has e) new.0 here)) (is file (leb-true from file both.1))

  -- of a file that has a row without references it has all rows
  pub all_told : (file : ℕ) → from ≤ file → (r : Mapped) → Contains rs r → r.count ≡ 0 → r.place.file ≡ file → listed_of file table ≡ all_listed (rows_in file rs)
  all_told file above r has none named =
      let here = passes (is_in file) rs r (eq-eqb r.place.file file named) (has_of rs r has) in
      ⊎_elim (λ same. same) (λ new. absurd (let some = All-contains (λ (x : Mapped). 1 ≤ x.count) (rows_in file rs) r new.1 (of_has (rows_in file rs) r here) in omega (arith, some, none))) (is file above)

-- ---- the references of an id

module _ (m : Mailbox) (valid : IsValid m) where
  found_row : (r : Mapped) → Has r (all_mapped m) → (row : Row) × (mapped m row ≡ r) × (row_of m r.id ≡ Some row)
  found_row r has =
      let some = of_map (mapped m) m.rows r has in
      let row : Row = some.0 in
      let at = of_has m.rows row some.1 in
      (row, some.2, subst (λ (n : ℕ). row_of m n ≡ Some row) (ap (λ (x : Mapped). x.id) some.2) (subst (λ (x : Row). row_of m x.uid ≡ Some x) at.2 (row_found m valid row at.0 at.1)))

  abbrev made : Row → Reference
  made row = record { count = row_count m row; place = row_place m row }

  counted : (r : Mapped) → Has r (all_mapped m) → (reference_of m r.id ≡ None → r.count ≡ 0) × (IsSome (reference_of m r.id) → 1 ≤ r.count)
  counted r has =
      let found = found_row r has in
      let row : Row = found.0 in
      let same : reference_of m r.id ≡ reference_in m row = ap (option_and_then (reference_in m)) found.2 in
      let count : row_count m row ≡ r.count = ap (λ (x : Mapped). x.count) found.1 in
      by_test row r.count count (reference_of m r.id) same (nat_lt 0 (row_count m row)) refl
    where
      by_test : (row : Row) (n : ℕ) → row_count m row ≡ n → (o : Option Reference) → o ≡ reference_in m row → (b : Bool) → nat_lt 0 (row_count m row) ≡ b → (o ≡ None → n ≡ 0) × (IsSome o → 1 ≤ n)
      by_test row n count o same true test =
          let some : 1 ≤ n = grind (arith, nat_tests, test, count) in
          let is : o ≡ Some (made row) = same ∙ ap (λ (b : Bool). cond b (Some (made row)) None) test in
          (λ none. absurd (let e : None ≡ Some (made row) = sym none ∙ is in cc), λ _. some)
      by_test row n count o same false test =
          let none : n ≡ 0 = grind (arith, nat_tests, test, count) in
          let is : o ≡ None = same ∙ ap (λ (b : Bool). cond b (Some (made row)) None) test in
          (λ _. none, λ some. absurd (let e : false ≡ true = sym (ap (λ (o : Option Reference). is_some o) is) ∙ some in cc))

-- ---- the first file with a row without references

in_front : (rows : List Listed) (i j : ℕ) → j < i → j < length rows → j < length (take i rows)
in_front rows i j low less =
    ⊎_elim (λ short. let some = length-take-le i rows (omega (arith, short)) in omega (arith, some, low)) (λ long. let all = ap (λ (l : List Listed). length l) (take_all i rows long) in omega (arith, all, less))
    (cases_lt i (length rows))

not_none : (o : Option Reference) (b : Bool) → is_some o ≡ not b → b ≡ false → IsSome o
not_none o b test away = test ∙ ap not away

is_nothing : (o : Option Reference) (b : Bool) → is_some o ≡ not b → b ≡ true → o ≡ None
is_nothing o b test pass = none_is o (test ∙ ap not pass)
  where
    none_is : (o : Option Reference) → is_some o ≡ false → o ≡ None
    none_is None is = refl
    none_is (Some x) is = absurd cc

pub none_at_first : (m : Mailbox) (rows : List Listed) → All (λ (e : Listed). IsSome (reference_of m e.id)) (take 0 rows)
none_at_first m rows = All-nil (λ (e : Listed). IsSome (reference_of m e.id))

pub one_more : (m : Mailbox) (rows : List Listed) (i : ℕ) (d : Listed) (o : Option Reference) (b : Bool) → i < length rows → All (λ (e : Listed). IsSome (reference_of m e.id)) (take i rows) → o ≡ reference_of m (get_or rows i d).id → is_some o ≡ not b → b ≡ false
    → All (λ (e : Listed). IsSome (reference_of m e.id)) (take (i + 1) rows)
one_more m rows i d o b less was is test away =
    All-more (λ (e : Listed). IsSome (reference_of m e.id)) rows i d less was (subst (λ (o : Option Reference). IsSome o) is (not_none o b test away))

module _ (m : Mailbox) (valid : IsValid m) (from : ℕ) (table : List Listed) (is : IsTableFrom from (all_mapped m) table) (rows : List Listed) (are : rows ≡ listed_from from table) (i : ℕ) (before : All (λ (e : Listed). IsSome (reference_of m e.id)) (take i rows)) where
  -- a row without references stands from there on
  stands_later : (r : Mapped) → Contains (all_mapped m) r → r.count ≡ 0 → from ≤ r.place.file → (j : ℕ) × (j < length rows) × (get_or rows j (listed r) ≡ listed r) × (i ≤ j)
  stands_later r has none above =
      let e : Listed = listed r in
      let held = has_of (all_mapped m) r has in
      let there = of_has rows e (subst (Has e) (sym are) (gone_listed from (all_mapped m) table is r held none above)) in
      let j : ℕ = there.0 in
      let less : j < length rows = there.1 in
      let at : get_or rows j e ≡ e = there.2 in
      let later : i ≤ j =
      ⊎_elim
      (λ low.
      let some = subst (λ (x : Listed). IsSome (reference_of m x.id)) (get_or-take i rows j e low ∙ at) (before j e (in_front rows i j low less)) in
      absurd (let one = (counted m valid r held).1 some in omega (arith, one, none))) (λ high. high) (cases_lt j i) in
      (j, less, at, later)

  pub none_later : length rows ≤ i → NoneGoneFrom m from
  none_later through k d inside none =
      let r : Mapped = get_or (all_mapped m) k d in
      ⊎_elim (λ low. low)
      (λ above. absurd (let later = stands_later r (Contains-get_or (all_mapped m) k d inside) none above in let less = later.1 in let high = later.3 in omega (arith, less, high, through)))
      (cases_lt r.place.file from)

  pub next_here : (d : Listed) → i < length rows → IsNonDecreasingBy (λ (row : Listed). row.file) rows → reference_of m (get_or rows i d).id ≡ None → IsNextGone m from (get_or rows i d).file
  next_here d less rising none =
      let e : Listed = get_or rows i d in
      let has = subst (Has e) are (has_of rows e (Contains-get_or rows i d less)) in
      let there = listed_there from (all_mapped m) table is e has in
      let r : Mapped = there.0 in
      let held : Has r (all_mapped m) = there.1 in
      let same : listed r ≡ e = there.2 in
      record {
        from_there = leb-true from e.file (passed (over from (all_mapped m) table is) table e has).1;
        some = (r, of_has (all_mapped m) r held, (counted m valid r held).0 (ap (λ (x : Listed). reference_of m x.id) same ∙ none), ap (λ (x : Listed). x.file) same);
        first = λ k c inside zero.
            let s : Mapped = get_or (all_mapped m) k c in
            ⊎_elim inl
            (λ above.
            let behind = stands_later s (Contains-get_or (all_mapped m) k c inside) zero above in
            let rises = rising i behind.0 d behind.3 behind.1 in
            let at : (get_or rows behind.0 d).file ≡ s.place.file = ap (λ (x : Listed). x.file) (get_or_default rows behind.0 d (listed s) behind.1 ∙ behind.2) in
            inr (omega (arith, rises, at)))
            (cases_lt s.place.file from);
      }

pub next_at : (m : Mailbox) (valid : IsValid m) (from : ℕ) (table : List Listed) (is : IsTableFrom from (all_mapped m) table) (rows : List Listed) (are : rows ≡ listed_from from table) (i : ℕ) (d : Listed) (o : Option Reference) (b : Bool)
    → All (λ (e : Listed). IsSome (reference_of m e.id)) (take i rows) → i < length rows → IsNonDecreasingBy (λ (row : Listed). row.file) rows → o ≡ reference_of m (get_or rows i d).id → is_some o ≡ not b → b ≡ true → IsNextGone m from (get_or rows i d).file
next_at m valid from table is rows are i d o b before less rising same test pass = next_here m valid from table is rows are i before d less rising (sym same ∙ is_nothing o b test pass)

-- ---- the rows of a file

pub record AreOf (file : ℕ) (rs : List Mapped) (rows : FileRows) : Type 0 where
  pub kept : rows.kept.items ≡ filter (is_kept file) rs
  pub gone : rows.gone.items ≡ map (λ (r : Mapped). r.id) (filter (is_gone file) rs)

of_more : (file : ℕ) (rs : List Mapped) (i : ℕ) (d : Mapped) (old new : FileRows) → i < length rs → AreOf file (take i rs) old → AddsRow file (get_or rs i d) old new → AreOf file (take (i + 1) rs) new
of_more file rs i d old new less was adds =
    let r : Mapped = get_or rs i d in
    subst (λ (l : List Mapped). AreOf file l new) (sym (take_more rs i d less))
    (record {
      kept = adds.kept ∙ ap (λ (l : List Mapped). l ++ filter (is_kept file) (r ∷ [])) was.kept ∙ sym (filter-append (is_kept file) (take i rs) (r ∷ []));
      gone = adds.gone ∙ ap (λ (l : List ℕ). l ++ map (λ (x : Mapped). x.id) (filter (is_gone file) (r ∷ []))) was.gone
          ∙ sym (map-append (λ (x : Mapped). x.id) (filter (is_gone file) (take i rs)) (filter (is_gone file) (r ∷ [])))
          ∙ ap (map (λ (x : Mapped). x.id)) (sym (filter-append (is_gone file) (take i rs) (r ∷ [])));
    })

some_row : Mapped
some_row = record { id = 0; count = 0; place = record { file = 0; offset = 0; size = 0 } }

module _ (m : Mailbox) (valid : IsValid m) (file : ℕ) (rows : List Listed) (are : rows ≡ all_listed (rows_in file (all_mapped m))) (i : ℕ) where
  abbrev these : List Mapped
  these = rows_in file (all_mapped m)

  pub listed_more : (d : Listed) (old new : FileRows) → i < length rows → AreOf file (take i these) old → ((row : Row) → row_of m (get_or rows i d).id ≡ Some row → AddsRow file (mapped m row) old new) → AreOf file (take (i + 1) these) new
  listed_more d old new less was adds =
      let r : Mapped = get_or these i some_row in
      let long = ap (λ (l : List Listed). length l) are in
      let same = length-map these listed in
      let inside : i < length these = omega (arith, less, long, same) in
      let held = (passed (is_in file) (all_mapped m) r (has_of these r (Contains-get_or these i some_row inside))).0 in
      let there = found_row m valid r held in
      let row : Row = there.0 in
      let is : mapped m row ≡ r = there.1 in
      let found : row_of m r.id ≡ Some row = there.2 in
      let here : get_or rows i d ≡ listed r = ap (λ (l : List Listed). get_or l i d) are ∙ get_or-map listed these i some_row d inside in
      of_more file these i some_row old new inside was (subst (λ (x : Mapped). AddsRow file x old new) is (adds row (ap (λ (e : Listed). row_of m e.id) here ∙ found)))

  pub listed_rows_all : (found : FileRows) → length rows ≤ i → AreOf file (take i these) found → AreRowsOf m file found
  listed_rows_all found through was =
      let long = ap (λ (l : List Listed). length l) are in
      let same = length-map these listed in
      let all = take_all i these (omega (arith, through, long, same)) in
      record {
        kept = was.kept ∙ ap (filter (is_kept file)) all ∙ filter_both (is_in file) (is_kept file) (λ r pass. (and_parts (nat_eq r.place.file file) (nat_lt 0 r.count) pass).0) (all_mapped m);
        gone = was.gone ∙ ap (λ (l : List Mapped). map (λ (r : Mapped). r.id) (filter (is_gone file) l)) all
            ∙ ap (map (λ (r : Mapped). r.id)) (filter_both (is_in file) (is_gone file) (λ r pass. (and_parts (nat_eq r.place.file file) (nat_eq r.count 0) pass).0) (all_mapped m));
      }

pub none_of : (file : ℕ) (found : FileRows) → found.kept.items ≡ [] → found.gone.items ≡ [] → AreOf file [] found
none_of file found kept gone = record { kept = kept; gone = gone }

-- ---- behind a file that was taken

module _ (stays : TablesStay) (m after : Mailbox) (map_is : IsMap m) (from file : ℕ) (table : List Listed) (is : IsTableFrom from (all_mapped m) table) where
  pub table_behind : (groups : List (List Record)) (to : ℕ) → PurgesFiles None from m (file ∷ []) groups to after → IsMap after × IsTableFrom (file + 1) (all_mapped after) table
  table_behind groups to goes =
      let above : from ≤ file = goes.0.from_there in
      ⊎_elim
      (λ passed. (
        subst IsMap (sym passed.1.2) map_is,
        subst (λ (n : Mailbox). IsTableFrom (file + 1) (all_mapped n) table) (sym passed.1.2) (λ n over. is n (omega (arith, above, over))),
      ))
      (λ taken.
      let new : ℕ = taken.1 in
      let mid : Mailbox = taken.2 in
      let rewrites = taken.4.map map_is in
      let same : after ≡ mid = taken.6.2 in
      let why =
      ⊎_elim inl (λ high. inr (λ k d less named. let low = named_below m new high (get_or (all_mapped m) k d) (Contains-get_or (all_mapped m) k d less) in absurd (omega (arith, low, named))))
      taken.4.number.above in (
        subst IsMap (sym same) rewrites.map,
        subst (λ (n : Mailbox). IsTableFrom (file + 1) (all_mapped n) table) (sym same) (stays.behind m mid file new from table rewrites why above is),
      )) goes.1
