-- What stays in the rows of a map while a file is rewritten.
use Rattle.std.proofs.Common.{◌≡◌, ◌≢◌, ◌⊎◌, inl, inr, ⊎_elim, ℕ, zero, suc, ◌+◌, ◌<◌, Bool, true, false, cond, Contains, List, [], ◌∷◌, length, get_or, nat_eq, refl, sym, ◌∙◌, ap, subst, arith}
use Rattle.std.specs.Prelude.{◌&&◌, All, filter, nat_lt}
use Rattle.std.proofs.lemmas.Bool.{eqb-false, eqb-true, ne_eqb}
use Rattle.std.proofs.lemmas.Bool.Decides.{nat_tests}
use Rattle.std.proofs.lemmas.List.Elements.{All-cons, All-head, All-nil, All-tail, Contains-append_right}
use Rattle.dv_maps.specs.declared.mapped.Mapped.{Mapped}
use Rattle.dv_maps.specs.Purges.{is_kept, rewritten}
use Rattle.dv_maps.proofs.Rewriting.{kept_front, new_row, rewritten_front}

-- ---- rows in a list

abbrev pub Has : Mapped → List Mapped → Type 0
Has r [] = ⊥
Has r (x ∷ xs) = (x ≡ r) ⊎ Has r xs

pub has_of : (xs : List Mapped) (r : Mapped) → Contains xs r → Has r xs
has_of xs r (k, less, is) = at xs k less is
  where
    at : (xs : List Mapped) (k : ℕ) → k < length xs → get_or xs k r ≡ r → Has r xs
    at [] k less is = absurd (omega (arith, less))
    at (x ∷ xs) zero less is = inl is
    at (x ∷ xs) (suc k) less is = inr (at xs k (omega (arith, less)) is)

pub of_has : (xs : List Mapped) (r : Mapped) → Has r xs → Contains xs r
of_has [] r has = absurd has
of_has (x ∷ xs) r has = ⊎_elim (λ here. (0, omega arith, here)) (λ there. Contains-append_right (x ∷ []) xs r (of_has xs r there)) has

module _ (file new : ℕ) where
  abbrev kept : ℕ → List Mapped → List Mapped
  kept g rs = filter (is_kept g) rs

  abbrev more : ℕ → Mapped → List Mapped → List Mapped
  more at r rs = new_row file new at r ∷ rewritten file new (at + r.place.size) rs

  -- a row with no reference is from before, of another file
  zero_one : (P : Mapped → Type 0) (r : Mapped) (rs : List Mapped) (at : ℕ) → (r.count ≡ 0 → P r) → ((at : ℕ) → All (λ (r : Mapped). r.count ≡ 0 → (r.place.file ≢ file) × P r) (rewritten file new at rs))
      → (f c : Bool) → nat_eq r.place.file file ≡ f → nat_lt 0 r.count ≡ c → All (λ (r : Mapped). r.count ≡ 0 → (r.place.file ≢ file) × P r) (rewritten file new at (r ∷ rs))
  zero_one P r rs at has rest true true here count =
      let Q : Mapped → Type 0 = λ r. r.count ≡ 0 → (r.place.file ≢ file) × P r in
      let some : 0 < r.count = grind (arith, nat_tests) in
      subst (All Q) (sym (rewritten_front file new r rs at true true here count)) (All-cons Q (new_row file new at r) (rewritten file new (at + r.place.size) rs) (λ none. absurd (omega (arith, some, none))) (rest (at + r.place.size)))
  zero_one P r rs at has rest true false here count =
      let Q : Mapped → Type 0 = λ r. r.count ≡ 0 → (r.place.file ≢ file) × P r in
      subst (All Q) (sym (rewritten_front file new r rs at true false here count)) (rest at)
  zero_one P r rs at has rest false c here count =
      let Q : Mapped → Type 0 = λ r. r.count ≡ 0 → (r.place.file ≢ file) × P r in
      subst (All Q) (sym (rewritten_front file new r rs at false c here count)) (All-cons Q r (rewritten file new at rs) (λ none. (eqb-false r.place.file file here, has none)) (rest at))

  pub zero_left : (P : Mapped → Type 0) (rs : List Mapped) (at : ℕ) → All (λ (r : Mapped). r.count ≡ 0 → P r) rs → All (λ (r : Mapped). r.count ≡ 0 → (r.place.file ≢ file) × P r) (rewritten file new at rs)
  zero_left P [] at all = All-nil (λ (r : Mapped). r.count ≡ 0 → (r.place.file ≢ file) × P r)
  zero_left P (r ∷ rs) at all =
      zero_one P r rs at (All-head (λ (r : Mapped). r.count ≡ 0 → P r) r rs all) (λ n. zero_left P rs n (All-tail (λ (r : Mapped). r.count ≡ 0 → P r) r rs all)) (nat_eq r.place.file file) (nat_lt 0 r.count) refl refl

  -- another file keeps what it keeps
  abbrev IsOther : ℕ → List Mapped → Type 0
  IsOther g rs = (g ≢ new) ⊎ (kept file rs ≡ [])

  other_one : (g : ℕ) (r : Mapped) (rs : List Mapped) (at : ℕ) → g ≢ file → IsOther g (r ∷ rs) → ((at : ℕ) → IsOther g rs → kept g (rewritten file new at rs) ≡ kept g rs) → (f c : Bool) → nat_eq r.place.file file ≡ f → nat_lt 0 r.count ≡ c
      → kept g (rewritten file new at (r ∷ rs)) ≡ kept g (r ∷ rs)
  other_one g r rs at away other rest true true here count =
      let apart : g ≢ new = ⊎_elim (λ a. a) (λ none. absurd (let e : r ∷ kept file rs ≡ [] = sym (kept_front file new r rs true true here count) ∙ none in cc)) other in
      let one : nat_eq new g ≡ false = ne_eqb new g (λ e. apart (sym e)) in
      let two : nat_eq r.place.file g ≡ false = ne_eqb r.place.file g (λ e. away (sym e ∙ eqb-true r.place.file file here)) in
      ap (kept g) (rewritten_front file new r rs at true true here count)
      ∙ ap (λ (b : Bool). cond (b && nat_lt 0 r.count) (new_row file new at r ∷ kept g (rewritten file new (at + r.place.size) rs)) (kept g (rewritten file new (at + r.place.size) rs))) one
      ∙ rest (at + r.place.size) (inl apart)
      ∙ sym (ap (λ (b : Bool). cond (b && nat_lt 0 r.count) (r ∷ kept g rs) (kept g rs)) two)
  other_one g r rs at away other rest true false here count =
      let two : nat_eq r.place.file g ≡ false = ne_eqb r.place.file g (λ e. away (sym e ∙ eqb-true r.place.file file here)) in
      ap (kept g) (rewritten_front file new r rs at true false here count)
      ∙ rest at (subst (λ (l : List Mapped). (g ≢ new) ⊎ (l ≡ [])) (kept_front file new r rs true false here count) other)
      ∙ sym (ap (λ (b : Bool). cond (b && nat_lt 0 r.count) (r ∷ kept g rs) (kept g rs)) two)
  other_one g r rs at away other rest false c here count =
      ap (kept g) (rewritten_front file new r rs at false c here count)
      ∙ ap (λ (l : List Mapped). cond (is_kept g r) (r ∷ l) l) (rest at (subst (λ (l : List Mapped). (g ≢ new) ⊎ (l ≡ [])) (kept_front file new r rs false c here count) other))

  pub other_kept : (g : ℕ) (rs : List Mapped) (at : ℕ) → g ≢ file → IsOther g rs → kept g (rewritten file new at rs) ≡ kept g rs
  other_kept g [] at away other = refl
  other_kept g (r ∷ rs) at away other = other_one g r rs at away other (λ n o. other_kept g rs n away o) (nat_eq r.place.file file) (nat_lt 0 r.count) refl refl

  -- a row of another file stays
  stays_one : (s r : Mapped) (rs : List Mapped) (at : ℕ) → s.place.file ≢ file → (r ≡ s) ⊎ Has s rs → ((at : ℕ) → Has s rs → Has s (rewritten file new at rs)) → (f c : Bool) → nat_eq r.place.file file ≡ f → nat_lt 0 r.count ≡ c → Has s (rewritten file new at (r ∷ rs))
  stays_one s r rs at away has rest true true here count =
      subst (Has s) (sym (rewritten_front file new r rs at true true here count))
      (inr (rest (at + r.place.size) (⊎_elim (λ e. absurd (away (sym (ap (λ (x : Mapped). x.place.file) e) ∙ eqb-true r.place.file file here))) (λ there. there) has)))
  stays_one s r rs at away has rest true false here count =
      subst (Has s) (sym (rewritten_front file new r rs at true false here count))
      (rest at (⊎_elim (λ e. absurd (away (sym (ap (λ (x : Mapped). x.place.file) e) ∙ eqb-true r.place.file file here))) (λ there. there) has))
  stays_one s r rs at away has rest false c here count = subst (Has s) (sym (rewritten_front file new r rs at false c here count)) (⊎_elim (λ e. inl e) (λ there. inr (rest at there)) has)

  pub row_stays : (s : Mapped) (rs : List Mapped) (at : ℕ) → s.place.file ≢ file → Has s rs → Has s (rewritten file new at rs)
  row_stays s [] at away has = absurd has
  row_stays s (r ∷ rs) at away has = stays_one s r rs at away has (λ n h. row_stays s rs n away h) (nat_eq r.place.file file) (nat_lt 0 r.count) refl refl

  -- the new file is named where there are kept texts
  abbrev NamesNew : List Mapped → Type 0
  NamesNew rs = (s : Mapped) × Has s rs × (s.place.file ≡ new)

  new_one : (r : Mapped) (rs : List Mapped) (at : ℕ) → (kept file (r ∷ rs) ≡ [] → ⊥) → ((at : ℕ) → (kept file rs ≡ [] → ⊥) → NamesNew (rewritten file new at rs)) → (f c : Bool) → nat_eq r.place.file file ≡ f → nat_lt 0 r.count ≡ c → NamesNew (rewritten file new at (r ∷ rs))
  new_one r rs at some rest true true here count = subst NamesNew (sym (rewritten_front file new r rs at true true here count)) (new_row file new at r, inl refl, refl)
  new_one r rs at some rest true false here count =
      let is = rest at (λ none. some (kept_front file new r rs true false here count ∙ none)) in
      subst NamesNew (sym (rewritten_front file new r rs at true false here count)) is
  new_one r rs at some rest false c here count =
      let is = rest at (λ none. some (kept_front file new r rs false c here count ∙ none)) in
      subst NamesNew (sym (rewritten_front file new r rs at false c here count)) (is.0, inr is.1, is.2)

  pub new_named : (rs : List Mapped) (at : ℕ) → (kept file rs ≡ [] → ⊥) → NamesNew (rewritten file new at rs)
  new_named [] at some = absurd (some refl)
  new_named (r ∷ rs) at some = new_one r rs at some (λ n s. new_named rs n s) (nat_eq r.place.file file) (nat_lt 0 r.count) refl refl
