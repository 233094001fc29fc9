-- The end of the last file stays known behind a file that is rewritten.
use Rattle.std.proofs.Common.{◌≡◌, ◌≢◌, inl, inr, ◌⊎◌, ⊎_elim, ℕ, ◌+◌, ◌^◌, ◌<◌, ◌≤◌, Bool, true, false, Contains, List, [], ◌∷◌, length, map, get_or, nat_eq, Option, Some, None, refl, sym, ◌∙◌, ap, subst, arith, eq-eqb}
use Rattle.std.specs.Prelude.{All, IfSome, filter, nat_lt}
use Rattle.std.proofs.lemmas.Bool.{cases_lt, eqb-true}
use Rattle.std.proofs.lemmas.List.Elements.{All-cons, All-head, All-map, All-nil, All-tail, Contains-append_right, Contains-get_or}
use Rattle.std.proofs.lemmas.List.Sums.{sum_by-cons}
use Rattle.dv_model.specs.declared.types.Mailbox.{Mailbox}
use Rattle.dv_model.specs.declared.types.Row.{Row}
use Rattle.dv_model.specs.Effects.{applied}
use Rattle.dv_model.specs.Mailboxes.{IsValid}
use Rattle.dv_maps.specs.declared.mapped.Mapped.{Mapped}
use Rattle.dv_maps.specs.Laws.{IsMap}
use Rattle.dv_maps.specs.Purges.{Rewrites, RewritesAre, all_mapped, file_records, is_gone, is_kept, kept_size, mapped, rewritten, size_of}
use Rattle.dv_maps.proofs.Rewriting.{kept_front, new_row, rewritten_front}
use Rattle.dv_filing.specs.declared.steps.Files.{Files}
use Rattle.dv_mdbox.specs.declared.gathering.FileRows.{FileRows}
use Rattle.dv_mdbox.specs.declared.tails.Tail.{Tail}
use Rattle.dv_mdbox.specs.Purging.{IsNextFile, IsRewriteOf, gone_ids, kept_rows}
use Rattle.dv_mdbox.specs.Tails.{IsBefore, IsTail, KeepsEnd, KeepsEndBehind, end_of}
use Rattle.dv_mdbox.proofs.Ending as ending
use Rattle.dv_mdbox.proofs.Listed.{Has, has_of, of_has}
use Rattle.dv_mdbox.proofs.Moved.{no_items, some_items}
use Rattle.dv_mdbox.proofs.Rewritten.{named_below, some_rows}

-- ---- by the rows of a map

abbrev Before : Tail → Mapped → Type 0
Before t r = IsBefore t r.place

-- of texts of these rows the last of the last file ends there
record EndsIn (rs : List Mapped) (t : Tail) : Type 0 where
  each : All (Before t) rs
  reached : (r : Mapped) × Contains rs r × (r.place.file ≡ t.file) × (end_of r.place ≡ t.end)

module _ (m : Mailbox) (t : Tail) where
  ends_in : IsTail m m.rows t → EndsIn (all_mapped m) t
  ends_in is =
      let row = is.reached in
      record { each = All-map (Before t) (mapped m) m.rows is.each; reached = (mapped m row.0, ending.mapped_contains (mapped m) m.rows row.0 row.1, row.2, row.3) }

  tail_in : EndsIn (all_mapped m) t → IsTail m m.rows t
  tail_in ends =
      let some = ends.reached in
      let row = ending.contains_mapped (mapped m) m.rows some.0 some.1 in
      record {
        each = ending.all_mapped (mapped m) (Before t) m.rows ends.each;
        reached = (row.0, row.1, ap (λ (r : Mapped). r.place.file) row.2 ∙ some.2, ap (λ (r : Mapped). end_of r.place) row.2 ∙ some.3);
      }

  -- a map with such a row has its extensions
  end_kept : IsMap m → EndsIn (all_mapped m) t → KeepsEnd m (Some t)
  end_kept is ends = (⊎_elim (λ e. e) (λ new. absurd (nothing (subst (λ (rows : List Row). Contains (map (mapped m) rows) ends.reached.0) new.1 ends.reached.1))) is, tail_in ends)
    where
      nothing : Contains [] ends.reached.0 → ⊥
      nothing (k, less, there) = omega (arith, less)

-- ---- a file is rewritten

module _ (file new : ℕ) where
  abbrev kept : List Mapped → List Mapped
  kept rs = filter (is_kept file) rs

  -- another file's text is before the end
  abbrev Stays : Tail → Mapped → Type 0
  Stays t r = (r.place.file ≡ file) ⊎ Before t r

  -- so are the kept ones, which go into the new file from this place on
  abbrev Fits : Tail → ℕ → List Mapped → Type 0
  Fits t at ks = 1 ≤ length ks → (t.file ≡ new) × (at + size_of ks ≤ t.end)

  size_front : (r : Mapped) (ks : List Mapped) → size_of (r ∷ ks) ≡ r.place.size + size_of ks
  size_front r ks = sum_by-cons (λ (x : Mapped). x.place.size) r ks

  before_behind : (t : Tail) (rs : List Mapped) (at : ℕ) → All (Stays t) rs → Fits t at (kept rs) → All (Before t) (rewritten file new at rs)
  before_behind t [] at all fits = All-nil (Before t)
  before_behind t (r ∷ rs) at all fits = by_tests (λ n. before_behind t rs n (All-tail (Stays t) r rs all)) (nat_eq r.place.file file) (nat_lt 0 r.count) refl refl
    where
      by_tests : ((n : ℕ) → Fits t n (kept rs) → All (Before t) (rewritten file new n rs)) → (f c : Bool) → nat_eq r.place.file file ≡ f → nat_lt 0 r.count ≡ c → All (Before t) (rewritten file new at (r ∷ rs))
      by_tests rest true true here count =
          let place = subst (Fits t at) (kept_front file new r rs true true here count) fits (omega arith) in
          let same : t.file ≡ new = place.0 in
          let ends : at + size_of (r ∷ kept rs) ≤ t.end = place.1 in
          let sum = size_front r (kept rs) in
          subst (All (Before t)) (sym (rewritten_front file new r rs at true true here count))
          (All-cons (Before t) (new_row file new at r) (rewritten file new (at + r.place.size) rs) (record { highest = omega (arith, same); ends = λ at_new. omega (arith, ends, sum) })
          (rest (at + r.place.size) (λ some. (same, omega (arith, ends, sum)))))
      by_tests rest true false here count = subst (All (Before t)) (sym (rewritten_front file new r rs at true false here count)) (rest at (subst (Fits t at) (kept_front file new r rs true false here count) fits))
      by_tests rest false c here count =
          let other = ⊎_elim (λ same. absurd (let both : true ≡ false = sym (eq-eqb r.place.file file same) ∙ here in cc)) (λ before. before) (All-head (Stays t) r rs all) in
          subst (All (Before t)) (sym (rewritten_front file new r rs at false c here count)) (All-cons (Before t) r (rewritten file new at rs) other (rest at (subst (Fits t at) (kept_front file new r rs false c here count) fits)))

  -- the last kept text ends where all of them do
  abbrev Reached : ℕ → List Mapped → Type 0
  Reached end rs = (x : Mapped) × Contains rs x × (x.place.file ≡ new) × (end_of x.place ≡ end)

  reached_behind : (rs : List Mapped) (at : ℕ) → 1 ≤ length (kept rs) → Reached (at + size_of (kept rs)) (rewritten file new at rs)
  reached_behind [] at some = absurd (omega (arith, some))
  reached_behind (r ∷ rs) at some = by_tests (reached_behind rs) (nat_eq r.place.file file) (nat_lt 0 r.count) refl refl
    where
      Here : List Mapped → List Mapped → Type 0
      Here ks rows = Reached (at + size_of ks) rows

      by_tests : ((n : ℕ) → 1 ≤ length (kept rs) → Reached (n + size_of (kept rs)) (rewritten file new n rs)) → (f c : Bool) → nat_eq r.place.file file ≡ f → nat_lt 0 r.count ≡ c → Reached (at + size_of (kept (r ∷ rs))) (rewritten file new at (r ∷ rs))
      by_tests rest true true here count =
          let sum : size_of (kept (r ∷ rs)) ≡ r.place.size + size_of (kept rs) = ap size_of (kept_front file new r rs true true here count) ∙ size_front r (kept rs) in
          subst (Reached (at + size_of (kept (r ∷ rs)))) (sym (rewritten_front file new r rs at true true here count))
          (⊎_elim
          (λ none.
          let empty = no_items (kept rs) (omega (arith, none)) in
          let zero : size_of (kept rs) ≡ 0 = ap size_of empty in
          (new_row file new at r, (0, omega arith, refl), refl, omega (arith, sum, zero)))
          (λ more.
          let there = rest (at + r.place.size) more in
          let ends : end_of there.0.place ≡ at + r.place.size + size_of (kept rs) = there.3 in
          (there.0, Contains-append_right (new_row file new at r ∷ []) (rewritten file new (at + r.place.size) rs) there.0 there.1, there.2, omega (arith, ends, sum))) (cases_lt (length (kept rs)) 1))
      by_tests rest true false here count =
          let front = kept_front file new r rs true false here count in
          subst (Reached (at + size_of (kept (r ∷ rs)))) (sym (rewritten_front file new r rs at true false here count))
          (subst (λ (ks : List Mapped). Reached (at + size_of ks) (rewritten file new at rs)) (sym front) (rest at (subst (λ (ks : List Mapped). 1 ≤ length ks) front some)))
      by_tests rest false c here count =
          let front = kept_front file new r rs false c here count in
          let there = rest at (subst (λ (ks : List Mapped). 1 ≤ length ks) front some) in
          subst (Reached (at + size_of (kept (r ∷ rs)))) (sym (rewritten_front file new r rs at false c here count))
          (subst (λ (ks : List Mapped). Reached (at + size_of ks) (r ∷ rewritten file new at rs)) (sym front) (there.0, Contains-append_right (r ∷ []) (rewritten file new at rs) there.0 there.1, there.2, there.3))

  -- a row of another file stays
  stays_there : (rs : List Mapped) (at : ℕ) (x : Mapped) → Has x rs → x.place.file ≢ file → Has x (rewritten file new at rs)
  stays_there [] at x has away = absurd has
  stays_there (r ∷ rs) at x has away = by_tests (λ n there. stays_there rs n x there away) (nat_eq r.place.file file) (nat_lt 0 r.count) refl refl
    where
      other : nat_eq r.place.file file ≡ true → Has x rs
      other here = ⊎_elim (λ e. absurd (away (ap (λ (y : Mapped). y.place.file) (sym e) ∙ eqb-true r.place.file file here))) (λ there. there) has

      by_tests : ((n : ℕ) → Has x rs → Has x (rewritten file new n rs)) → (f c : Bool) → nat_eq r.place.file file ≡ f → nat_lt 0 r.count ≡ c → Has x (rewritten file new at (r ∷ rs))
      by_tests rest true true here count = subst (Has x) (sym (rewritten_front file new r rs at true true here count)) (inr (rest (at + r.place.size) (other here)))
      by_tests rest true false here count = subst (Has x) (sym (rewritten_front file new r rs at true false here count)) (rest at (other here))
      by_tests rest false c here count = subst (Has x) (sym (rewritten_front file new r rs at false c here count)) (⊎_elim inl (λ there. inr (rest at there)) has)

-- ---- behind its group

module _ (law : RewritesAre) (m : Mailbox) (valid : IsValid m) (file new : ℕ) (some : 1 ≤ length (gone_ids m file)) (low : new < 2 ^ 32) (short : kept_size file (all_mapped m) < 2 ^ 32) where
  rewrites : (after : Mailbox) → IsMap m → applied m (file_records file new (all_mapped m)) ≡ Some after → Rewrites file new m after
  rewrites after is_map gives = law m after file new is_map valid (some_rows m (is_gone file) some) low short gives

  -- the end of the kept texts, where there are some
  pub end_moved : IsMap m → 1 ≤ length (kept_rows m file) → IsNextFile m new → (t : Tail) → t.file ≡ new → t.end ≡ kept_size file (all_mapped m) → KeepsEndBehind m (file_records file new (all_mapped m)) (Some t)
  end_moved is_map some_kept next t at end after gives =
      let rows : List Mapped = all_mapped m in
      let by = rewrites after is_map gives in
      let stays : All (Stays file new t) rows = λ k d inside.
      let lower = named_below m new next (get_or rows k d) (Contains-get_or rows k d inside) in
      inr (record { highest = omega (arith, lower, at); ends = λ same. absurd (omega (arith, lower, at, same)) }) in
      let there = reached_behind file new rows 0 some_kept in
      let last : end_of there.0.place ≡ 0 + kept_size file rows = there.3 in
      end_kept after t by.map
      (subst (λ (rs : List Mapped). EndsIn rs t) (sym by.rows)
      (record {
        each = before_behind file new t rows 0 stays (λ some. (at, omega (arith, end)));
        reached = (there.0, there.1, there.2 ∙ sym at, omega (arith, last, end));
      }))

  -- or that of another file, where it keeps none
  pub end_spared : kept_rows m file ≡ [] → (t : Tail) → t.file ≢ file → KeepsEnd m (Some t) → KeepsEndBehind m (file_records file new (all_mapped m)) (Some t)
  end_spared none t away keeps after gives =
      let rows : List Mapped = all_mapped m in
      let by = rewrites after (inl keeps.0) gives in
      let ends = ends_in m t keeps.1 in
      let last : Mapped = ends.reached.0 in
      let stays = stays_there file new rows 0 last (has_of rows last ends.reached.1) (λ same. away (sym ends.reached.2 ∙ same)) in
      let nothing : 1 ≤ length (kept_rows m file) → ⊥ = λ less. let long : length (kept_rows m file) ≡ 0 = ap (λ (ks : List Mapped). length ks) none in omega (arith, less, long) in
      end_kept after t by.map
      (subst (λ (rs : List Mapped). EndsIn rs t) (sym by.rows)
      (record {
        each = before_behind file new t rows 0 (λ k d inside. inr (ends.each k d inside)) (λ less. absurd (nothing less));
        reached = (last, of_has (rewritten file new 0 rows) last stays, ends.reached.2, ends.reached.3);
      }))

-- ---- by the rows that were found

module _ (law : RewritesAre) (m : Mailbox) (valid : IsValid m) (file new : ℕ) (low : new < 2 ^ 32) (rows : FileRows) (files : Files) (is : IsRewriteOf m file new rows files) (kept : List Mapped) (same : kept ≡ rows.kept.items) where
  some_ids : 1 ≤ length (gone_ids m file)
  some_ids = subst (λ (ids : List ℕ). 1 ≤ length ids) is.gone is.some

  pub short_texts : size_of kept < 2 ^ 32
  short_texts = subst (λ (rs : List Mapped). size_of rs < 2 ^ 32) (sym (same ∙ is.kept)) is.short

  -- where it keeps none, the end that was known, unless it is its own
  pub tail_spared : length kept ≡ 0 → (known tail : Option Tail) → KeepsEnd m known → IfSome tail (λ t. (known ≡ Some t) × (t.file ≢ file)) → KeepsEndBehind m (file_records file new (all_mapped m)) tail
  tail_spared none known None keeps spared = λ after gives. tt
  tail_spared none known (Some t) keeps spared =
      end_spared law m valid file new some_ids low is.short (sym is.kept ∙ sym same ∙ no_items kept none) t spared.1 (subst (KeepsEnd m) spared.0 keeps)

  -- else that of the texts
  pub tail_moved : 1 ≤ length kept → IsMap m → (end : ℕ) → end ≡ size_of kept → KeepsEndBehind m (file_records file new (all_mapped m)) (Some (record { file = new; end = end }))
  tail_moved some is_map end at =
      let some_rows = subst (λ (rs : List Mapped). 1 ≤ length rs) (same ∙ is.kept) some in
      let next = ⊎_elim (λ none. absurd (some_items (kept_rows m file) some_rows none)) (λ next. next) is.above in
      end_moved law m valid file new some_ids low is.short is_map some_rows next (record { file = new; end = end }) refl (at ∙ ap size_of (same ∙ is.kept))
