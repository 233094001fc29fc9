-- Tables of the rows of a map by file.
use Rattle.std.proofs.Common.{◌≡◌, ◌≢◌, ◌⊎◌, inl, inr, ⊎_elim, ℕ, ◌+◌, ◌<◌, ◌≤◌, Bool, true, false, cond, List, [], ◌∷◌, ◌++◌, length, take, drop, nat_eq, ltb, leb, refl, sym, ◌∙◌, ap, subst, arith, eq-eqb, length-drop}
use Rattle.std.specs.Prelude.{◌&&◌, All, MatchBool, filter, nat_le, nat_lt, not}
use Rattle.std.specs.List.{AllWithin}
use Rattle.std.specs.List.Sorted.{IsPartitionPoint, ties}
use Rattle.std.specs.Ordering.{is_lt, nat_cmp}
use Rattle.std.proofs.lemmas.Bool.{cases_eq, eqb-true, leb-false, leb-true, le-leb, lt-leb, ltb-false, ltb-true, ne_eqb}
use Rattle.std.proofs.lemmas.Bool.Decides.{nat_tests}
use Rattle.std.proofs.lemmas.List.{append-nil, get_or-drop, get_or-take, length-take-le, take-append-drop}
use Rattle.std.proofs.lemmas.List.Elements.{All-filter, All-head, All-tail, All-take, All-weaker, filter-append, filter_agree, filter_passes}
use Rattle.dv_maps.specs.declared.mapped.Mapped.{Mapped}
use Rattle.dv_maps.specs.declared.tables.Listed.{Listed}
use Rattle.dv_maps.specs.Purges.{all_mapped, is_kept, rewritten}
use Rattle.dv_maps.specs.Tables.{IsNamedBy, TablesStay, TellsOf, all_listed, is_in, is_of, listed, listed_from, listed_of, rows_in}
use Rattle.dv_maps.proofs.Leaving.{Has, has_of, of_has, zero_left}
use Rattle.dv_maps.proofs.Rewriting.{kept_front, new_row, rewritten_front}

-- ---- parts of a list

module _ {X : Type 0} (p : X → Bool) where
  pass_all : (xs : List X) → All (λ x. p x ≡ true) xs → filter p xs ≡ xs
  pass_all [] all = refl
  pass_all (x ∷ xs) all =
      let P : X → Type 0 = λ x. p x ≡ true in
      ap (λ (b : Bool). cond b (x ∷ filter p xs) (filter p xs)) (All-head P x xs all) ∙ ap (λ (l : List X). x ∷ l) (pass_all xs (All-tail P x xs all))

  pass_none : (xs : List X) → All (λ x. p x ≡ false) xs → filter p xs ≡ []
  pass_none [] all = refl
  pass_none (x ∷ xs) all =
      let P : X → Type 0 = λ x. p x ≡ false in
      ap (λ (b : Bool). cond b (x ∷ filter p xs) (filter p xs)) (All-head P x xs all) ∙ pass_none xs (All-tail P x xs all)

  halves : (xs : List X) (at : ℕ) → filter p xs ≡ filter p (take at xs) ++ filter p (drop at xs)
  halves xs at = ap (filter p) (sym (take-append-drop at xs)) ∙ filter-append p (take at xs) (drop at xs)

module _ {X : Type 0} (P : X → Type 0) (xs : List X) (at : ℕ) (inside : at ≤ length xs) where
  before : AllWithin P xs 0 at → All P (take at xs)
  before all k d less =
      let long = length-take-le at xs inside in
      let low : k < at = omega (arith, less, long) in
      subst P (sym (get_or-take at xs k d low)) (all k d (omega arith) low)

  behind : AllWithin P xs at (length xs) → All P (drop at xs)
  behind all k d less =
      let long = length-drop at xs in
      subst P (sym (get_or-drop at xs k d)) (all (at + k) d (omega arith) (omega (arith, less, long, inside)))

-- ---- the rows of a file stand together

abbrev below : ℕ → Listed → Bool
below n row = ltb row.file n

abbrev through : ℕ → Listed → Bool
through n row = leb row.file n

module _ (rows : List Listed) (n at : ℕ) (inside : at ≤ length rows) (point : IsPartitionPoint (λ y. below n y ≡ true) (λ y. below n y ≡ false) rows at) where
  abbrev rest : List Listed
  rest = drop at rows

  low : All (λ y. below n y ≡ true) (take at rows)
  low = before (λ y. below n y ≡ true) rows at inside point.0

  high : All (λ y. below n y ≡ false) rest
  high = behind (λ y. below n y ≡ false) rows at inside point.1

  pub from_there : rest ≡ listed_from n rows
  from_there =
      let p : Listed → Bool = λ row. nat_le n row.file in
      sym
      (halves p rows at
      ∙ ap (λ (l : List Listed). l ++ filter p rest) (pass_none p (take at rows) (All-weaker (λ y. below n y ≡ true) (λ y. p y ≡ false) (λ y less. lt-leb n y.file (ltb-true y.file n less)) (take at rows) low))
      ∙ pass_all p rest (All-weaker (λ y. below n y ≡ false) (λ y. p y ≡ true) (λ y over. le-leb n y.file (ltb-false y.file n over)) rest high))

  module _ (to : ℕ) (within : to ≤ length rest) (end : IsPartitionPoint (λ y. through n y ≡ true) (λ y. through n y ≡ false) rest to) where
    here_all : All (λ y. is_of n y ≡ true) (take to rest)
    here_all k d less =
        let over = All-take (λ y. below n y ≡ false) to rest high k d less in
        let under = before (λ y. through n y ≡ true) rest to within end.0 k d less in
        let one = ltb-false _ n over in
        let two = leb-true _ n under in
        eq-eqb _ n (omega (arith, one, two))

    pub of_there : take to rest ≡ listed_of n rows
    of_there =
        sym
        (halves (is_of n) rows at
        ∙ ap (λ (l : List Listed). l ++ filter (is_of n) rest)
        (pass_none (is_of n) (take at rows) (All-weaker (λ y. below n y ≡ true) (λ y. is_of n y ≡ false) (λ y less. ne_eqb y.file n (λ e. let lt = ltb-true y.file n less in absurd (omega (arith, e, lt)))) (take at rows) low))
        ∙ halves (is_of n) rest to
        ∙ ap (λ (l : List Listed). l ++ filter (is_of n) (drop to rest)) (pass_all (is_of n) (take to rest) here_all)
        ∙ ap (λ (l : List Listed). take to rest ++ l)
        (pass_none (is_of n) (drop to rest)
        (All-weaker (λ y. through n y ≡ false) (λ y. is_of n y ≡ false) (λ y over. ne_eqb y.file n (λ e. let lt = leb-false y.file n over in absurd (omega (arith, e, lt)))) (drop to rest) (behind (λ y. through n y ≡ false) rest to within end.1)))
        ∙ append-nil (take to rest))

-- ---- a stable sort leaves the rows of a file in their order

same_file : (a b : ℕ) → (not (is_lt (nat_cmp a b)) && not (is_lt (nat_cmp b a))) ≡ nat_eq b a
same_file a b = grind (arith, nat_tests)

abbrev before_by_file : Listed → Listed → Bool
before_by_file x y = is_lt (nat_cmp x.file y.file)

pub sorted_rows : (old new : List Listed) → ((x : Listed) → filter (ties before_by_file x) new ≡ filter (ties before_by_file x) old) → (file : ℕ) → listed_of file new ≡ listed_of file old
sorted_rows old new stable file =
    let one : Listed = record { file = file; id = 0 } in
    let same : (y : Listed) → ties before_by_file one y ≡ is_of file y = λ y. same_file file y.file in
    sym (filter_agree (ties before_by_file one) (is_of file) same new) ∙ stable one ∙ filter_agree (ties before_by_file one) (is_of file) same old

pub listed_rows : (file : ℕ) (rs : List Mapped) → listed_of file (all_listed rs) ≡ all_listed (rows_in file rs)
listed_rows file [] = refl
listed_rows file (r ∷ rs) = by_test (listed_rows file rs) (is_in file r)
  where
    by_test : listed_of file (all_listed rs) ≡ all_listed (rows_in file rs) → (b : Bool) → cond b (listed r ∷ listed_of file (all_listed rs)) (listed_of file (all_listed rs)) ≡ all_listed (cond b (r ∷ rows_in file rs) (rows_in file rs))
    by_test rest true = ap (λ (l : List Listed). listed r ∷ l) rest
    by_test rest false = rest

-- ---- files that are named

has_in : (file : ℕ) (r : Mapped) (rs : List Mapped) → r.place.file ≡ file → Has r rs → Has r (rows_in file rs)
has_in file r [] here has = absurd has
has_in file r (x ∷ xs) here has = by_test (is_in file x) refl (⊎_elim inl (λ there. inr (has_in file r xs here there)) has)
  where
    by_test : (b : Bool) → is_in file x ≡ b → (x ≡ r) ⊎ Has r (rows_in file xs) → Has r (cond b (x ∷ rows_in file xs) (rows_in file xs))
    by_test true test has = has
    by_test false test has =
        ⊎_elim (λ e. absurd (let same : nat_eq x.place.file file ≡ true = eq-eqb x.place.file file (ap (λ (y : Mapped). y.place.file) e ∙ here) in let both : true ≡ false = sym same ∙ test in cc)) (λ there. there) has

some_in : (file : ℕ) (rs : List Mapped) → (rows_in file rs ≡ []) ⊎ ((r : Mapped) × Has r rs × (r.place.file ≡ file))
some_in file [] = inl refl
some_in file (x ∷ xs) = by_test (is_in file x) refl (some_in file xs)
  where
    by_test : (b : Bool) → is_in file x ≡ b → (rows_in file xs ≡ []) ⊎ ((r : Mapped) × Has r xs × (r.place.file ≡ file)) → (cond b (x ∷ rows_in file xs) (rows_in file xs) ≡ []) ⊎ ((r : Mapped) × Has r (x ∷ xs) × (r.place.file ≡ file))
    by_test true test more = inr (x, inl refl, eqb-true x.place.file file test)
    by_test false test more = ⊎_elim inl (λ some. inr (some.0, inr some.1, some.2)) more

none_has : (r : Mapped) (rs : List Mapped) → rs ≡ [] → Has r rs → ⊥
none_has r [] none has = has
none_has r (x ∷ xs) none has = cc

pub named_by : (file : ℕ) (rs : List Mapped) (rows : List Listed) (b : Bool) → rows ≡ all_listed (rows_in file rs) → b ≡ nat_eq (length rows) 0 → MatchBool (not b) (IsNamedBy rs file) (IsNamedBy rs file → ⊥)
named_by file rs rows b is test = by_rows (rows_in file rs) refl b (test ∙ ap (λ (l : List Listed). nat_eq (length l) 0) is)
  where
    by_rows : (l : List Mapped) → rows_in file rs ≡ l → (b : Bool) → b ≡ nat_eq (length (all_listed l)) 0 → MatchBool (not b) (IsNamedBy rs file) (IsNamedBy rs file → ⊥)
    by_rows [] here true test = λ named. none_has named.0 (rows_in file rs) here (has_in file named.0 rs named.2 (has_of rs named.0 named.1))
    by_rows [] here false test = absurd cc
    by_rows (x ∷ xs) here true test = absurd (let zero = eqb-true (length (all_listed (x ∷ xs))) 0 (sym test) in omega (arith, zero))
    by_rows (x ∷ xs) here false test = ⊎_elim (λ none. absurd (let e : x ∷ xs ≡ [] = sym here ∙ none in cc)) (λ some. (some.0, of_has rs some.0 some.1, some.2)) (some_in file rs)

-- ---- a file is rewritten

module _ (file new : ℕ) where
  abbrev kept : List Mapped → List Mapped
  kept rs = filter (is_kept file) rs

  abbrev IsOther : ℕ → List Mapped → Type 0
  IsOther g rs = (g ≢ new) ⊎ (kept rs ≡ [])

  -- another file has its rows
  other_one : (g : ℕ) (r : Mapped) (rs : List Mapped) (at : ℕ) → g ≢ file → IsOther g (r ∷ rs) → ((at : ℕ) → IsOther g rs → rows_in g (rewritten file new at rs) ≡ rows_in g rs) → (f c : Bool) → nat_eq r.place.file file ≡ f → nat_lt 0 r.count ≡ c
      → rows_in g (rewritten file new at (r ∷ rs)) ≡ rows_in g (r ∷ rs)
  other_one g r rs at away other rest true true here count =
      let apart : g ≢ new = ⊎_elim (λ a. a) (λ none. absurd (let e : r ∷ kept rs ≡ [] = sym (kept_front file new r rs true true here count) ∙ none in cc)) other in
      let one : nat_eq new g ≡ false = ne_eqb new g (λ e. apart (sym e)) in
      let two : nat_eq r.place.file g ≡ false = ne_eqb r.place.file g (λ e. away (sym e ∙ eqb-true r.place.file file here)) in
      ap (rows_in g) (rewritten_front file new r rs at true true here count)
      ∙ ap (λ (b : Bool). cond b (new_row file new at r ∷ rows_in g (rewritten file new (at + r.place.size) rs)) (rows_in g (rewritten file new (at + r.place.size) rs))) one
      ∙ rest (at + r.place.size) (inl apart)
      ∙ sym (ap (λ (b : Bool). cond b (r ∷ rows_in g rs) (rows_in g rs)) two)
  other_one g r rs at away other rest true false here count =
      let two : nat_eq r.place.file g ≡ false = ne_eqb r.place.file g (λ e. away (sym e ∙ eqb-true r.place.file file here)) in
      ap (rows_in g) (rewritten_front file new r rs at true false here count)
      ∙ rest at (subst (λ (l : List Mapped). (g ≢ new) ⊎ (l ≡ [])) (kept_front file new r rs true false here count) other)
      ∙ sym (ap (λ (b : Bool). cond b (r ∷ rows_in g rs) (rows_in g rs)) two)
  other_one g r rs at away other rest false c here count =
      ap (rows_in g) (rewritten_front file new r rs at false c here count)
      ∙ ap (λ (l : List Mapped). cond (is_in g r) (r ∷ l) l) (rest at (subst (λ (l : List Mapped). (g ≢ new) ⊎ (l ≡ [])) (kept_front file new r rs false c here count) other))

  pub other_rows : (g : ℕ) (rs : List Mapped) (at : ℕ) → g ≢ file → IsOther g rs → rows_in g (rewritten file new at rs) ≡ rows_in g rs
  other_rows g [] at away other = refl
  other_rows g (r ∷ rs) at away other = other_one g r rs at away other (λ n o. other_rows g rs n away o) (nat_eq r.place.file file) (nat_lt 0 r.count) refl refl

  -- the new file has rows with references alone
  new_rows : (rs : List Mapped) → All (λ (r : Mapped). r.place.file ≡ new → ⊥) rs → All (λ (r : Mapped). 1 ≤ r.count) (rows_in new (rewritten file new 0 rs))
  new_rows rs away k d less =
      let Apart : Mapped → Type 0 = λ r. r.place.file ≡ new → ⊥ in
      let Left : Mapped → Type 0 = λ r. r.count ≡ 0 → (r.place.file ≢ file) × Apart r in
      let left = zero_left file new Apart rs 0 (All-weaker Apart (λ r. r.count ≡ 0 → Apart r) (λ r apart none. apart) rs away) in
      let one = All-filter (is_in new) Left (rewritten file new 0 rs) left k d less in
      let here = filter_passes (is_in new) (rewritten file new 0 rs) k d less in
      some _ (λ none. (one none).1 (eqb-true _ new here))
    where
      some : (n : ℕ) → (n ≡ 0 → ⊥) → 1 ≤ n
      some n away = ⊎_elim (λ e. absurd (away e)) (λ apart. omega (arith, apart)) (cases_eq n 0)

  none_of_new : (rs : List Mapped) → All (λ (r : Mapped). r.place.file ≡ new → ⊥) rs → rows_in new rs ≡ []
  none_of_new rs away = pass_none (is_in new) rs (All-weaker (λ (r : Mapped). r.place.file ≡ new → ⊥) (λ r. is_in new r ≡ false) (λ r apart. ne_eqb r.place.file new apart) rs away)

  module _ (rs : List Mapped) (table : List Listed) (n : ℕ) (apart : n ≢ file) (tells : TellsOf n rs table) where
    other_tells : IsOther n rs → TellsOf n (rewritten file new 0 rs) table
    other_tells other = subst (λ (l : List Mapped). (listed_of n table ≡ all_listed l) ⊎ ((listed_of n table ≡ []) × All (λ (r : Mapped). 1 ≤ r.count) l)) (sym (other_rows n rs 0 apart other)) tells

    new_tells : n ≡ new → All (λ (r : Mapped). r.place.file ≡ new → ⊥) rs → TellsOf n (rewritten file new 0 rs) table
    new_tells e away =
        let none : rows_in n rs ≡ [] = ap (λ (g : ℕ). rows_in g rs) e ∙ none_of_new rs away in
        inr (
          ⊎_elim (λ is. is ∙ ap all_listed none) (λ is. is.0) tells,
          subst (λ (g : ℕ). All (λ (r : Mapped). 1 ≤ r.count) (rows_in g (rewritten file new 0 rs))) (sym e) (new_rows rs away),
        )

    tells_behind : (kept rs ≡ []) ⊎ All (λ (r : Mapped). r.place.file ≡ new → ⊥) rs → TellsOf n (rewritten file new 0 rs) table
    tells_behind why =
        ⊎_elim (λ none. other_tells (inr none))
        (λ away. ⊎_elim (λ e. new_tells e away) (λ other. other_tells (inl other)) (cases_eq n new)) why

pub tables_stay : TablesStay
tables_stay = record {
  whole = λ rs table from is file over. inl (is file);
  behind = λ m after file new from table rewrites why over is n above.
      subst (λ (rs : List Mapped). TellsOf n rs table) (sym rewrites.rows)
      (tells_behind file new (all_mapped m) table n (λ e. omega (arith, e, above)) (is n (omega (arith, over, above))) why);
}
