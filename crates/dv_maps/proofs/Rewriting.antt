-- New places and removals, row by row of a map whose ids rise.
use Rattle.std.proofs.Common.{◌≡◌, ◌≢◌, ℕ, ◌+◌, ◌<◌, Bool, true, false, cond, eq-eqb, List, [], ◌∷◌, map, nat_eq, refl, sym, ◌∙◌, ap, arith, inl, inr}
use Rattle.std.specs.Prelude.{◌||◌, ◌&&◌, filter, nat_lt}
use Rattle.std.specs.List.{list_any}
use Rattle.std.proofs.lemmas.Bool.{ne_eqb}
use Rattle.std.proofs.lemmas.Bool.Decides.{nat_tests}
use Rattle.dv_maps.specs.declared.mapped.Placed.{Placed}
use Rattle.dv_maps.specs.declared.mapped.Mapped.{Mapped}
use Rattle.dv_maps.specs.Purges.{LosesSome, is_gone, is_kept, moved, rewritten}
use Rattle.dv_maps.specs.Storages.{Item}
use Rattle.dv_maps.specs.Texts.{Messages}
use Rattle.dv_maps.proofs.Keys.{each}

-- ---- a new place

abbrev pub placed_over : Placed → Mapped → Mapped
placed_over p r = cond (nat_eq p.id r.id) (record r { place = p.place }) r

abbrev pub all_placed : List Placed → List Mapped → List Mapped
all_placed [] rs = rs
all_placed (p ∷ ps) rs = all_placed ps (each (placed_over p) rs)

abbrev pub lacking : (ℕ → Bool) → List Mapped → List Mapped
lacking test [] = []
lacking test (r ∷ rs) = cond (test r.id) (lacking test rs) (r ∷ lacking test rs)

-- ---- ids above another

abbrev pub AreOver : ℕ → List Mapped → Type 0
AreOver n [] = Unit {0}
AreOver n (r ∷ rs) = (n < r.id) × AreOver n rs

abbrev pub AreRising : List Mapped → Type 0
AreRising [] = Unit {0}
AreRising (r ∷ rs) = AreOver r.id rs × AreRising rs

abbrev PlacedOver : ℕ → List Placed → Type 0
PlacedOver n [] = Unit {0}
PlacedOver n (p ∷ ps) = (n < p.id) × PlacedOver n ps

over_filter : (p : Mapped → Bool) (n : ℕ) (rs : List Mapped) → AreOver n rs → AreOver n (filter p rs)
over_filter p n [] over = tt {0}
over_filter p n (r ∷ rs) over = by_test (over_filter p n rs over.1) (p r)
  where
    by_test : AreOver n (filter p rs) → (b : Bool) → AreOver n (cond b (r ∷ filter p rs) (filter p rs))
    by_test rest true = (over.0, rest)
    by_test rest false = rest

over_moved : (n new at : ℕ) (rs : List Mapped) → AreOver n rs → PlacedOver n (moved new at rs)
over_moved n new at [] over = tt {0}
over_moved n new at (r ∷ rs) over = (over.0, over_moved n new (at + r.place.size) rs over.1)

placed_id : (p : Placed) (r : Mapped) → (placed_over p r).id ≡ r.id
placed_id p r = by_test (nat_eq p.id r.id)
  where
    by_test : (b : Bool) → (cond b (record r { place = p.place }) r).id ≡ r.id
    by_test true = refl
    by_test false = refl

over_each : (n : ℕ) (p : Placed) (rs : List Mapped) → AreOver n rs → AreOver n (each (placed_over p) rs)
over_each n p [] over = tt {0}
over_each n p (r ∷ rs) over = (let same = placed_id p r in let less = over.0 in omega (arith, same, less), over_each n p rs over.1)

over_placed : (n : ℕ) (ps : List Placed) (rs : List Mapped) → AreOver n rs → AreOver n (all_placed ps rs)
over_placed n [] rs over = over
over_placed n (p ∷ ps) rs over = over_placed n ps (each (placed_over p) rs) (over_each n p rs over)

-- a place of another id changes nothing
unplaced : (p : Placed) (r : Mapped) → p.id ≢ r.id → placed_over p r ≡ r
unplaced p r other = ap (λ (b : Bool). cond b (record r { place = p.place }) r) (ne_eqb p.id r.id other)

under_each : (p : Placed) (rs : List Mapped) → AreOver p.id rs → each (placed_over p) rs ≡ rs
under_each p [] over = refl
under_each p (r ∷ rs) over = λ i. unplaced p r (λ e. let less = over.0 in absurd (omega (arith, e, less))) i ∷ under_each p rs over.1 i

placed_front : (ps : List Placed) (r : Mapped) (rs : List Mapped) → PlacedOver r.id ps → all_placed ps (r ∷ rs) ≡ r ∷ all_placed ps rs
placed_front [] r rs over = refl
placed_front (p ∷ ps) r rs over =
    ap (λ (x : Mapped). all_placed ps (x ∷ each (placed_over p) rs)) (unplaced p r (λ e. let less = over.0 in absurd (omega (arith, e, less))))
    ∙ placed_front ps r (each (placed_over p) rs) over.1

-- ---- removals

abbrev ids : List Mapped → List ℕ
ids rs = map (λ (r : Mapped). r.id) rs

abbrev is_of : List ℕ → ℕ → Bool
is_of gone u = list_any (nat_eq u) gone

not_over : (n : ℕ) (rs : List Mapped) → AreOver n rs → is_of (ids rs) n ≡ false
not_over n [] over = refl
not_over n (r ∷ rs) over =
    let less = over.0 in
    ap (λ (b : Bool). b || is_of (ids rs) n) (ne_eqb n r.id (λ e. absurd (omega (arith, e, less)))) ∙ not_over n rs over.1

lacking_less : (id : ℕ) (gone : List ℕ) (rs : List Mapped) → AreOver id rs → lacking (is_of (id ∷ gone)) rs ≡ lacking (is_of gone) rs
lacking_less id gone [] over = refl
lacking_less id gone (r ∷ rs) over =
    let less = over.0 in
    ap (λ (b : Bool). cond (b || is_of gone r.id) (lacking (is_of (id ∷ gone)) rs) (r ∷ lacking (is_of (id ∷ gone)) rs)) (ne_eqb r.id id (λ e. absurd (omega (arith, e, less))))
    ∙ ap (λ (l : List Mapped). cond (is_of gone r.id) l (r ∷ l)) (lacking_less id gone rs over.1)

lacking_front : (gone : List ℕ) (r : Mapped) (rs : List Mapped) → is_of gone r.id ≡ false → lacking (is_of gone) (r ∷ rs) ≡ r ∷ lacking (is_of gone) rs
lacking_front gone r rs away = ap (λ (b : Bool). cond b (lacking (is_of gone) rs) (r ∷ lacking (is_of gone) rs)) away

lacking_first : (gone : List ℕ) (r : Mapped) (rs : List Mapped) → lacking (is_of (r.id ∷ gone)) (r ∷ rs) ≡ lacking (is_of (r.id ∷ gone)) rs
lacking_first gone r rs = ap (λ (b : Bool). cond (b || is_of gone r.id) (lacking (is_of (r.id ∷ gone)) rs) (r ∷ lacking (is_of (r.id ∷ gone)) rs)) (eq-eqb r.id r.id refl)

-- ---- both

no_count : (n : ℕ) → nat_lt 0 n ≡ false → nat_eq n 0 ≡ true
no_count n is = grind (arith, nat_tests)

some_count : (n : ℕ) → nat_lt 0 n ≡ true → nat_eq n 0 ≡ false
some_count n is = grind (arith, nat_tests)

module _ (file new : ℕ) where
  abbrev pub kept : List Mapped → List Mapped
  kept rs = filter (is_kept file) rs

  abbrev gone : List Mapped → List Mapped
  gone rs = filter (is_gone file) rs

  abbrev made : ℕ → List Mapped → List Mapped
  made at rs = lacking (is_of (ids (gone rs))) (all_placed (moved new at (kept rs)) rs)

  -- the tests of a row
  pub kept_front : (r : Mapped) (rs : List Mapped) (f c : Bool) → nat_eq r.place.file file ≡ f → nat_lt 0 r.count ≡ c → kept (r ∷ rs) ≡ cond (f && c) (r ∷ kept rs) (kept rs)
  kept_front r rs f c here count = λ i. cond (here i && count i) (r ∷ kept rs) (kept rs)

  gone_front : (r : Mapped) (rs : List Mapped) (f c : Bool) → nat_eq r.place.file file ≡ f → nat_eq r.count 0 ≡ c → gone (r ∷ rs) ≡ cond (f && c) (r ∷ gone rs) (gone rs)
  gone_front r rs f c here count = λ i. cond (here i && count i) (r ∷ gone rs) (gone rs)

  abbrev pub new_row : ℕ → Mapped → Mapped
  new_row at r = record r { place = record { file = new; offset = at; size = r.place.size } }

  pub rewritten_front : (r : Mapped) (rs : List Mapped) (at : ℕ) (f c : Bool) → nat_eq r.place.file file ≡ f → nat_lt 0 r.count ≡ c
      → rewritten file new at (r ∷ rs) ≡ cond f (cond c (new_row at r ∷ rewritten file new (at + r.place.size) rs) (rewritten file new at rs)) (r ∷ rewritten file new at rs)
  rewritten_front r rs at f c here count = λ i. cond (here i) (cond (count i) (new_row at r ∷ rewritten file new (at + r.place.size) rs) (rewritten file new at rs)) (r ∷ rewritten file new at rs)

  abbrev by_both : List Mapped → List Mapped → ℕ → List Mapped → List Mapped
  by_both k g at rs = lacking (is_of (ids g)) (all_placed (moved new at k) rs)

  made_one : (at : ℕ) (r : Mapped) (rs : List Mapped) → AreOver r.id rs → ((at : ℕ) → made at rs ≡ rewritten file new at rs)
      → (f c : Bool) → nat_eq r.place.file file ≡ f → nat_lt 0 r.count ≡ c → made at (r ∷ rs) ≡ rewritten file new at (r ∷ rs)
  made_one at r rs over rest true true here count =
      let p : Placed = record { id = r.id; place = record { file = new; offset = at; size = r.place.size } } in
      let then : ℕ = at + r.place.size in
      let ks = kept_front r rs true true here count in
      let gs = gone_front r rs true false here (some_count r.count count) in
      let over_kept = over_moved r.id new then (kept rs) (over_filter (is_kept file) r.id rs over) in
      let over_gone = not_over r.id (gone rs) (over_filter (is_gone file) r.id rs over) in
      let first : placed_over p r ≡ new_row at r = ap (λ (b : Bool). cond b (new_row at r) r) (eq-eqb r.id r.id refl) in
      (λ i. by_both (ks i) (gs i) at (r ∷ rs))
      ∙ (λ i. lacking (is_of (ids (gone rs))) (all_placed (moved new then (kept rs)) (first i ∷ under_each p rs over i)))
      ∙ ap (lacking (is_of (ids (gone rs)))) (placed_front (moved new then (kept rs)) (new_row at r) rs over_kept)
      ∙ lacking_front (ids (gone rs)) (new_row at r) (all_placed (moved new then (kept rs)) rs) over_gone
      ∙ ap (λ (l : List Mapped). new_row at r ∷ l) (rest then)
      ∙ sym (rewritten_front r rs at true true here count)
  made_one at r rs over rest true false here count =
      let ks = kept_front r rs true false here count in
      let gs = gone_front r rs true true here (no_count r.count count) in
      let over_kept = over_moved r.id new at (kept rs) (over_filter (is_kept file) r.id rs over) in
      (λ i. by_both (ks i) (gs i) at (r ∷ rs))
      ∙ ap (lacking (is_of (r.id ∷ ids (gone rs)))) (placed_front (moved new at (kept rs)) r rs over_kept)
      ∙ lacking_first (ids (gone rs)) r (all_placed (moved new at (kept rs)) rs)
      ∙ lacking_less r.id (ids (gone rs)) (all_placed (moved new at (kept rs)) rs) (over_placed r.id (moved new at (kept rs)) rs over)
      ∙ rest at
      ∙ sym (rewritten_front r rs at true false here count)
  made_one at r rs over rest false c here count =
      let ks = kept_front r rs false c here count in
      let gs = gone_front r rs false (nat_eq r.count 0) here refl in
      let over_kept = over_moved r.id new at (kept rs) (over_filter (is_kept file) r.id rs over) in
      let over_gone = not_over r.id (gone rs) (over_filter (is_gone file) r.id rs over) in
      (λ i. by_both (ks i) (gs i) at (r ∷ rs))
      ∙ ap (lacking (is_of (ids (gone rs)))) (placed_front (moved new at (kept rs)) r rs over_kept)
      ∙ lacking_front (ids (gone rs)) r (all_placed (moved new at (kept rs)) rs) over_gone
      ∙ ap (λ (l : List Mapped). r ∷ l) (rest at)
      ∙ sym (rewritten_front r rs at false c here count)

  pub made_is : (rs : List Mapped) → AreRising rs → (at : ℕ) → made at rs ≡ rewritten file new at rs
  made_is [] rising at = nothing (moved new at [])
    where
      nothing : (ps : List Placed) → lacking (is_of []) (all_placed ps []) ≡ []
      nothing [] = refl
      nothing (p ∷ ps) = nothing ps
  made_is (r ∷ rs) rising at = made_one at r rs rising.0 (made_is rs rising.1) (nat_eq r.place.file file) (nat_lt 0 r.count) refl refl

  -- ---- the items

  abbrev pub item : Messages → Mapped → Item
  item messages x = record { id = x.id; count = x.count; message = messages x.id }

  pub loses_some : (messages : Messages) (rs : List Mapped) (at : ℕ) → LosesSome (map (item messages) rs) (map (item messages) (rewritten file new at rs))
  loses_some messages [] at = refl
  loses_some messages (r ∷ rs) at = by_tests (λ n. loses_some messages rs n) (nat_eq r.place.file file) (nat_lt 0 r.count) refl
    where
      by_tests : ((n : ℕ) → LosesSome (map (item messages) rs) (map (item messages) (rewritten file new n rs))) → (f c : Bool) → nat_lt 0 r.count ≡ c
          → LosesSome (item messages r ∷ map (item messages) rs)
          (map (item messages) (cond f (cond c (new_row at r ∷ rewritten file new (at + r.place.size) rs) (rewritten file new at rs)) (r ∷ rewritten file new at rs)))
      by_tests rest true true count = inr (map (item messages) (rewritten file new (at + r.place.size) rs), refl, rest (at + r.place.size))
      by_tests rest true false count = inl (let none : r.count ≡ 0 = grind (arith, nat_tests) in none, rest at)
      by_tests rest false c count = inr (map (item messages) (rewritten file new at rs), refl, rest at)
