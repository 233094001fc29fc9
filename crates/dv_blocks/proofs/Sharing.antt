-- Sets that are held and released.
use Rattle.std.proofs.Common.{◌≡◌, ◌≢◌, ◌∙◌, ◌⊎◌, inl, inr, ℕ, zero, suc, ◌+◌, ◌<◌, ◌≤◌, eqb, List, [], ◌∷◌, ◌++◌, length, get_or, set, ap, sym, refl, subst, arith}
use Rattle.std.proofs.lemmas.Bool.{cases_eq, cases_lt, cond-false, cond-true, eq-eqb, ne_eqb}
use Rattle.std.proofs.lemmas.List.{get_or_append_left, get_or_past, get_or_push, get_or-set_other, get_or-set_same, length_push}
use Rattle.dv_model.specs.Effects.{with_item}
use Rattle.dv_blocks.specs.Cells.{Cell}
use Rattle.dv_blocks.specs.Shared.{AreFreed, IsChangedAt, IsHeld, IsReleased, how_many, one_at, set_of, unheld, uses_of}
use Rattle.dv_blocks.specs.declared.sets.Held.{Held}

-- ---- one place

pub changed_set : (sets : List Held) (at : ℕ) (h : Held) → at < length sets → IsChangedAt sets (set sets at h) at h
changed_set sets at h inside = record {
  here = get_or-set_same sets at h unheld inside;
  others = λ k n. get_or-set_other sets at k h unheld n;
}

pub changed_push : (sets : List Held) (h : Held) → IsChangedAt sets (sets ++ h ∷ []) (length sets) h
changed_push sets h = record {
  here = get_or_push sets h unheld (length sets) refl;
  others = λ k n. elim (cases_lt k (length sets)) [
    | inl lt ↦ get_or_append_left sets (h ∷ []) unheld k lt
    | inr ge ↦
        let long = length_push sets h in
        get_or_past (sets ++ h ∷ []) k unheld (omega arith) ∙ sym (get_or_past sets k unheld ge)
  ];
}

pub one_here : (n : ℕ) → one_at n n ≡ 1
one_here n = cond-true (eqb n n) 1 0 (eq-eqb n n refl)

one_other : (n k : ℕ) → n ≢ k → one_at n k ≡ 0
one_other n k h = cond-false (eqb n k) 1 0 (ne_eqb n k h)

-- a set that one row has
abbrev pub one_use : List ℕ → Held
one_use places = record { places = places; uses = 1 }

-- the set at a place, which a row more has
abbrev pub again : List Held → ℕ → Held
again sets at = record { places = (get_or sets at unheld).places; uses = (get_or sets at unheld).uses + 1 }

-- ---- a set is held

pub held_none : (sets : List Held) → IsHeld sets sets 0 []
held_none sets = record {
  here = refl;
  others = λ k h. refl;
  uses = λ k. let none : one_at 0 (suc k) ≡ 0 = one_other 0 (suc k) (λ e. absurd (omega arith)) in omega arith;
  freed = λ f. f;
}

held_others : (old new : List Held) (at : ℕ) (h : Held) → IsChangedAt old new at h → ((get_or old at unheld).uses ≡ 0) ⊎ ((get_or old at unheld).places ≡ h.places) → (k : ℕ) → 0 < uses_of old k → set_of new k ≡ set_of old k
held_others old new at h is was zero used = refl
held_others old new at h is was (suc k) used = elim (cases_eq k at) [
  | inl same ↦ elim was [
    | inl none ↦ let here : (get_or old k unheld).uses ≡ 0 = ap (λ n. (get_or old n unheld).uses) same ∙ none in absurd (omega arith)
    | inr places ↦ ap (λ n. (get_or new n unheld).places) same ∙ ap (λ (s : Held). s.places) is.here ∙ sym places ∙ ap (λ n. (get_or old n unheld).places) (sym same)
  ]
  | inr other ↦ ap (λ (s : Held). s.places) (is.others k other)
]

held_uses : (old new : List Held) (at : ℕ) (h : Held) → IsChangedAt old new at h → h.uses ≡ (get_or old at unheld).uses + 1 → (k : ℕ) → uses_of new (suc k) ≡ uses_of old (suc k) + one_at (suc at) (suc k)
held_uses old new at h is more k = elim (cases_eq k at) [
  | inl same ↦
      let one : one_at (suc at) (suc k) ≡ 1 = ap (λ n. one_at (suc at) (suc n)) same ∙ one_here (suc at) in
      let now : (get_or new k unheld).uses ≡ h.uses = ap (λ n. (get_or new n unheld).uses) same ∙ ap (λ (s : Held). s.uses) is.here in
      let was : (get_or old k unheld).uses ≡ (get_or old at unheld).uses = ap (λ n. (get_or old n unheld).uses) same in
      omega arith
  | inr other ↦
      let none : one_at (suc at) (suc k) ≡ 0 = one_other (suc at) (suc k) (λ e. other (omega arith)) in
      let same : (get_or new k unheld).uses ≡ (get_or old k unheld).uses = ap (λ (s : Held). s.uses) (is.others k other) in
      omega arith
]

freed_at : (old new : List Held) (at : ℕ) (h : Held) → IsChangedAt old new at h → (h.uses ≡ 0 → h.places ≡ []) → AreFreed old → AreFreed new
freed_at old new at h is here freed k none = elim (cases_eq k at) [
  | inl same ↦
      let now : get_or new k unheld ≡ h = ap (λ n. get_or new n unheld) same ∙ is.here in
      ap (λ (s : Held). s.places) now ∙ here (sym (ap (λ (s : Held). s.uses) now) ∙ none)
  | inr other ↦
      let now = is.others k other in
      ap (λ (s : Held). s.places) now ∙ freed k (sym (ap (λ (s : Held). s.uses) now) ∙ none)
]

pub held_at : (old new : List Held) (at n : ℕ) (h : Held) (places : List ℕ) → IsChangedAt old new at h → h.places ≡ places → h.uses ≡ (get_or old at unheld).uses + 1 → ((get_or old at unheld).uses ≡ 0) ⊎ ((get_or old at unheld).places ≡ h.places) → n ≡ suc at → IsHeld old new n places
held_at old new at n h places is same more was e = subst (λ m. IsHeld old new m places) (sym e) (record {
  here = ap (λ (s : Held). s.places) is.here ∙ same;
  others = held_others old new at h is was;
  uses = held_uses old new at h is more;
  freed = freed_at old new at h is (λ none. absurd (omega arith));
})

-- ---- a set is released

pub released_none : (sets : List Held) → IsReleased sets sets 0
released_none sets = record {
  others = λ k h. refl;
  uses = λ k. let none : one_at 0 (suc k) ≡ 0 = one_other 0 (suc k) (λ e. absurd (omega arith)) in omega arith;
  freed = λ f. f;
}

released_others : (old new : List Held) (at : ℕ) (h : Held) → IsChangedAt old new at h → (0 < h.uses → h.places ≡ (get_or old at unheld).places) → (k : ℕ) → 0 < uses_of new k → set_of new k ≡ set_of old k
released_others old new at h is kept zero used = refl
released_others old new at h is kept (suc k) used = elim (cases_eq k at) [
  | inl same ↦
      let now : get_or new k unheld ≡ h = ap (λ n. get_or new n unheld) same ∙ is.here in
      let some : 0 < h.uses = subst (λ (s : Held). 0 < s.uses) now used in
      ap (λ (s : Held). s.places) now ∙ kept some ∙ ap (λ n. (get_or old n unheld).places) (sym same)
  | inr other ↦ ap (λ (s : Held). s.places) (is.others k other)
]

released_uses : (old new : List Held) (at : ℕ) (h : Held) → IsChangedAt old new at h → h.uses + 1 ≡ (get_or old at unheld).uses → (k : ℕ) → uses_of new (suc k) + one_at (suc at) (suc k) ≡ uses_of old (suc k)
released_uses old new at h is less k = elim (cases_eq k at) [
  | inl same ↦
      let one : one_at (suc at) (suc k) ≡ 1 = ap (λ n. one_at (suc at) (suc n)) same ∙ one_here (suc at) in
      let now : (get_or new k unheld).uses ≡ h.uses = ap (λ n. (get_or new n unheld).uses) same ∙ ap (λ (s : Held). s.uses) is.here in
      let was : (get_or old k unheld).uses ≡ (get_or old at unheld).uses = ap (λ n. (get_or old n unheld).uses) same in
      omega arith
  | inr other ↦
      let none : one_at (suc at) (suc k) ≡ 0 = one_other (suc at) (suc k) (λ e. other (omega arith)) in
      let same : (get_or new k unheld).uses ≡ (get_or old k unheld).uses = ap (λ (s : Held). s.uses) (is.others k other) in
      omega arith
]

pub released_at : (old new : List Held) (at n : ℕ) (h : Held) → IsChangedAt old new at h → h.uses + 1 ≡ (get_or old at unheld).uses → (0 < h.uses → h.places ≡ (get_or old at unheld).places) → (h.uses ≡ 0 → h.places ≡ []) → n ≡ suc at → IsReleased old new n
released_at old new at n h is less kept freed e = subst (IsReleased old new) (sym e) (record {
  others = released_others old new at h is kept;
  uses = released_uses old new at h is less;
  freed = freed_at old new at h is freed;
})

-- ---- how many rows have a set

pub many_append : (n : ℕ) (xs ys : List Cell) → how_many n (xs ++ ys) ≡ how_many n xs + how_many n ys
many_append n [] ys = omega arith
many_append n (x ∷ xs) ys = let rest = many_append n xs ys in omega arith

pub many_item : (n k : ℕ) (g : Cell → Cell) (cells : List Cell) (d : Cell) → k < length cells → how_many n (with_item k g cells) + one_at (get_or cells k d).words n ≡ how_many n cells + one_at (g (get_or cells k d)).words n
many_item n k g [] d h = absurd (omega arith)
many_item n zero g (c ∷ cells) d h = omega arith
many_item n (suc k) g (c ∷ cells) d h = let rest = many_item n k g cells d (omega arith) in omega arith

-- a row has its own set
pub has_own : (cells : List Cell) (k : ℕ) (d : Cell) → k < length cells → 1 ≤ how_many (get_or cells k d).words cells
has_own [] k d h = absurd (omega arith)
has_own (c ∷ cells) zero d h = let one = one_here c.words in omega arith
has_own (c ∷ cells) (suc k) d h = let rest = has_own cells k d (omega arith) in omega arith

pub many_most : (n : ℕ) (cells : List Cell) → how_many n cells ≤ length cells
many_most n [] = omega arith
many_most n (c ∷ cells) = let rest = many_most n cells in let one = most_one c.words n in omega arith
  where
    most_one : (a b : ℕ) → one_at a b ≤ 1
    most_one a b = elim (cases_eq a b) [
      | inl e ↦ let one : one_at a b ≡ 1 = cond-true (eqb a b) 1 0 (eq-eqb a b e) in omega arith
      | inr n ↦ let none = one_other a b n in omega arith
    ]
