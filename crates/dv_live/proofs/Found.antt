-- What a key finds among rows, and among rows that are told of anew.
use Rattle.std.proofs.Common.{◌≡◌, ℕ, ◌+◌, ◌<◌, ◌≤◌, Bool, true, false, cond, ◌&&◌, not, List, [], ◌∷◌, ◌++◌, length, get_or, take, map, filter, Option, None, Some, refl, sym, ap, subst, ◌∙◌, arith}
use Rattle.std.specs.Prelude.{nat_eq, nat_lt, option_to_list, slice_get, unwrap_or}
use Rattle.std.specs.List.{AllByRecursion}
use Rattle.std.proofs.lemmas.Bool.{eqb-true, eq-eqb, ltb-false}
use Rattle.std.proofs.lemmas.Bool.Decides.{nat_tests}
use Rattle.std.proofs.lemmas.List.{append-nil, get_or_append_left, map-append, take_more}
use Rattle.std.proofs.lemmas.Option.{unwrap_or-slice_get}
use Rattle.dv_model.specs.declared.types.Fresh.{Fresh}
use Rattle.dv_model.specs.declared.types.Key.{Key}
use Rattle.dv_model.specs.declared.types.Row.{Row}
use Rattle.dv_model.specs.declared.types.Shown.{Shown}
use Rattle.dv_model.specs.Fresh.{patched, with_fresh}
use Rattle.dv_model.specs.Searches.{meets, needs_mail}
use Rattle.dv_model.specs.Views.{shown}
use Rattle.dv_model.proofs.Clients.{Above, filter_same}
use Rattle.dv_search.specs.Stars.{names_star, row_in}
use Rattle.dv_search.proofs.Largest.{largest_for_stars}
use Rattle.dv_view.specs.Tells.{names_at}
use Rattle.dv_view.proofs.Patching.{Own, Rises, with_above}
use Rattle.dv_live.specs.declared.verdicts.Verdict.{Verdict}
use Rattle.dv_live.specs.Keeping.{found_uids, largest_of}
use Rattle.dv_live.specs.Steadiness.{steady}
use Rattle.dv_live.specs.Turning.{RiseFrom, behind, is_met, is_met_now, turned, verdict_of, where_met, with_verdict}
use Rattle.dv_live.proofs.Rising.{behind_above, rise_lower}
use Rattle.dv_live.proofs.Turning.{from_here}

-- ---- steady keys

pub neither : (a b : Bool) → (not a && not b) ≡ true → (a ≡ false) × (b ≡ false)
neither true b e = absurd cc
neither false true e = absurd cc
neither false false e = (refl, refl)

pub reads_none : (key : Key) → steady key ≡ true → needs_mail key ≡ false
reads_none key e = (neither (needs_mail key) (names_star key) e).0

pub no_star : (key : Key) → steady key ≡ true → names_star key ≡ false
no_star key e = (neither (needs_mail key) (names_star key) e).1

each : {X : Type 0} (P : X → Type 0) → ((x : X) → P x) → (xs : List X) → AllByRecursion P xs
each P all [] = tt
each P all (x ∷ xs) = (all x, each P all xs)

module _ (key : Key) (names : List (List ℕ)) where
  -- the UIDs of the rows that meet the key
  abbrev pub found : List Shown → List ℕ
  found rows = map (λ s. s.uid) (filter (is_met key names) rows)

  pub found_is : steady key ≡ true → (rows : List Shown) → found_uids key names rows ≡ found rows
  found_is e rows =
      ap (map (λ s. s.uid)) (filter_same (λ s. meets key (row_in names (largest_of rows) s)) (is_met key names) rows
      (each (λ (s : Shown). meets key (row_in names (largest_of rows) s) ≡ is_met key names s) (λ s. largest_for_stars key (row_in names 0 s) (largest_of rows) (no_star key e)) rows))

  found_above : (n : ℕ) (rows : List Shown) → Above n rows → RiseFrom n (found rows)
  found_above n [] above = tt
  found_above n (s ∷ rows) above = by_test (is_met key names s) (found_above (s.uid + 1) rows above.1)
    where
      by_test : (b : Bool) → RiseFrom (s.uid + 1) (found rows) → RiseFrom n (map (λ (t : Shown). t.uid) (cond b (s ∷ filter (is_met key names) rows) (filter (is_met key names) rows)))
      by_test true rest = (above.0, rest)
      by_test false rest = let more : n ≤ s.uid = above.0 in rise_lower n (s.uid + 1) (found rows) (omega (arith, more)) rest

  pub found_rises : (rows : List Shown) → Above 0 rows → RiseFrom 0 (found rows)
  found_rises rows above = found_above 0 rows above

  -- one row more
  pub found_more : (rows : List Shown) (s : Shown) → found (rows ++ s ∷ []) ≡ found rows ++ cond (is_met key names s) (s.uid ∷ []) []
  found_more [] s = by_test (is_met key names s)
    where
      by_test : (b : Bool) → map (λ (t : Shown). t.uid) (cond b (s ∷ []) []) ≡ cond b (s.uid ∷ []) []
      by_test true = refl
      by_test false = refl
  found_more (t ∷ rows) s = by_test (is_met key names t) (found_more rows s)
    where
      by_test : (b : Bool) → found (rows ++ s ∷ []) ≡ found rows ++ cond (is_met key names s) (s.uid ∷ []) []
          → map (λ (r : Shown). r.uid) (cond b (t ∷ filter (is_met key names) (rows ++ s ∷ [])) (filter (is_met key names) (rows ++ s ∷ [])))
          ≡ map (λ (r : Shown). r.uid) (cond b (t ∷ filter (is_met key names) rows) (filter (is_met key names) rows)) ++ cond (is_met key names s) (s.uid ∷ []) []
      by_test true rest = ap (λ us. t.uid ∷ us) rest
      by_test false rest = rest

  -- one row more of a mailbox, with what was tried of it
  pub found_step : (rows : List Row) (k : ℕ) (row : Row) (s : Shown) (b : Bool) (uids : List ℕ) → k < length rows → get_or rows k row ≡ row → s ≡ shown row → b ≡ is_met key names s
      → uids ≡ found (map shown (take k rows)) → uids ++ cond b (s.uid ∷ []) [] ≡ found (map shown (take (k + 1) rows))
  found_step rows k row s b uids less is made tried so_far =
      ap (λ us. us ++ cond b (s.uid ∷ []) []) so_far
      ∙ ap (λ c. found (map shown (take k rows)) ++ cond c (s.uid ∷ []) []) tried
      ∙ sym (found_more (map shown (take k rows)) s)
      ∙ ap (λ t. found (map shown (take k rows) ++ t ∷ [])) (made ∙ ap shown (sym is))
      ∙ ap found (sym (ap (map shown) (take_more rows k row less) ∙ map-append shown (take k rows) (get_or rows k row ∷ [])))

  -- ---- one change

  module _ (uid : ℕ) (row : Option Shown) (own : Own uid row) where
    abbrev change : Fresh
    change = record { uid = uid; row = row }

    abbrev verdict : Verdict
    verdict = verdict_of key names change

    found_own : (o : Option Shown) → Own uid o → (rows : List Shown)
        → found (option_to_list o ++ rows) ≡ cond (is_met_now key names o) (uid ∷ []) [] ++ found rows
    found_own None is rows = refl
    found_own (Some s) is rows = by_test (is_met key names s)
      where
        by_test : (b : Bool) → map (λ (t : Shown). t.uid) (cond b (s ∷ filter (is_met key names) rows) (filter (is_met key names) rows)) ≡ cond b (uid ∷ []) [] ++ found rows
        by_test true = ap (λ u. u ∷ found rows) is
        by_test false = refl

    found_here : (rows : List Shown) → found (option_to_list row ++ rows) ≡ where_met verdict ++ found rows
    found_here rows = found_own row own rows

    pub found_fresh : (n : ℕ) (rows : List Shown) → Above n rows → found (with_fresh rows change) ≡ with_verdict (found rows) verdict
    found_fresh n [] above = ap found (sym (append-nil (option_to_list row))) ∙ found_here [] ∙ append-nil (where_met verdict)
    found_fresh n (s ∷ rows) above = by_less (nat_lt s.uid uid) refl (nat_eq s.uid uid) refl (found_fresh (s.uid + 1) rows above.1)
      where
        by_met : (b : Bool) → is_met key names s ≡ b → nat_lt s.uid uid ≡ true → found (with_fresh rows change) ≡ with_verdict (found rows) verdict
            → map (λ (t : Shown). t.uid) (cond b (s ∷ filter (is_met key names) (with_fresh rows change)) (filter (is_met key names) (with_fresh rows change)))
            ≡ with_verdict (map (λ (t : Shown). t.uid) (cond b (s ∷ filter (is_met key names) rows) (filter (is_met key names) rows))) verdict
        by_met true t e rest = rw e (ap (λ us. s.uid ∷ us) rest)
        by_met false t e rest = rest

        same_behind : (b : Bool) → s.uid ≡ uid → behind uid (map (λ (t : Shown). t.uid) (cond b (s ∷ filter (is_met key names) rows) (filter (is_met key names) rows))) ≡ found rows
        same_behind true e = rw (eq-eqb s.uid uid e) refl
        same_behind false e = behind_above uid (found rows) (subst (λ u. RiseFrom (u + 1) (found rows)) e (found_above (s.uid + 1) rows above.1))

        all_from : uid ≤ s.uid → RiseFrom uid (found (s ∷ rows))
        all_from le = found_above uid (s ∷ rows) (le, above.1)

        by_less : (b : Bool) → nat_lt s.uid uid ≡ b → (c : Bool) → nat_eq s.uid uid ≡ c → found (with_fresh rows change) ≡ with_verdict (found rows) verdict
            → found (cond b (s ∷ with_fresh rows change) (cond c (option_to_list row ++ rows) (option_to_list row ++ s ∷ rows))) ≡ with_verdict (found (s ∷ rows)) verdict
        by_less true e c f rest = by_met (is_met key names s) refl e rest
        by_less false e true f rest =
            let same : s.uid ≡ uid = eqb-true s.uid uid f in
            found_here rows ∙ ap (λ us. where_met verdict ++ us) (sym (same_behind (is_met key names s) same)) ∙ sym (from_here (found (s ∷ rows)) verdict (all_from (omega (arith, same))))
        by_less false e false f rest =
            let le : uid ≤ s.uid = ltb-false s.uid uid e in
            let more : uid + 1 ≤ s.uid = grind (arith, nat_tests, e, f) in
            found_here (s ∷ rows) ∙ ap (λ us. where_met verdict ++ us) (sym (behind_above uid (found (s ∷ rows)) (found_above (uid + 1) (s ∷ rows) (more, above.1)))) ∙ sym (from_here (found (s ∷ rows)) verdict (all_from le))

  -- ---- all changes

  pub found_patched : (m : ℕ) (rows : List Shown) (fresh : List Fresh) → Above 0 rows → Rises m fresh → found (patched rows fresh) ≡ turned (found rows) (map (verdict_of key names) fresh)
  found_patched m rows [] above rises = refl
  found_patched m rows (f ∷ fresh) above rises =
      found_patched (f.uid + 1) (with_fresh rows f) fresh (with_above f.uid f.row rises.1 0 rows (omega arith) above) rises.2
      ∙ ap (λ us. turned us (map (verdict_of key names) fresh)) (found_fresh f.uid f.row rises.1 0 rows above)

-- ---- a table that has grown

names_stay : (names more : List (List ℕ)) (places : List ℕ) → AllByRecursion (λ k. k < length names) places → names_at (names ++ more) places ≡ names_at names places
names_stay names more [] inside = refl
names_stay names more (k ∷ places) inside =
    let here : unwrap_or (slice_get (names ++ more) k) [] ≡ unwrap_or (slice_get names k) [] =
    unwrap_or-slice_get (names ++ more) k [] ∙ get_or_append_left names more [] k inside.0 ∙ sym (unwrap_or-slice_get names k []) in
    ap (λ n. n ∷ names_at (names ++ more) places) here ∙ ap (λ ns. unwrap_or (slice_get names k) [] ∷ ns) (names_stay names more places inside.1)

met_stays : (key : Key) (names more : List (List ℕ)) (s : Shown) → AllByRecursion (λ k. k < length names) s.keywords → is_met key (names ++ more) s ≡ is_met key names s
met_stays key names more s inside =
    ap (λ ns. meets key (record { uid = s.uid; flags = s.flags; keywords = ns; largest_uid = 0; message = [] })) (names_stay names more s.keywords inside)

pub found_stays : (key : Key) (names more : List (List ℕ)) (rows : List Shown) → AllByRecursion (λ (s : Shown). AllByRecursion (λ k. k < length names) s.keywords) rows
    → found key (names ++ more) rows ≡ found key names rows
found_stays key names more rows inside =
    ap (map (λ s. s.uid)) (filter_same (is_met key (names ++ more)) (is_met key names) rows (by_rows rows inside))
  where
    by_rows : (rows : List Shown) → AllByRecursion (λ (s : Shown). AllByRecursion (λ k. k < length names) s.keywords) rows
        → AllByRecursion (λ (s : Shown). is_met key (names ++ more) s ≡ is_met key names s) rows
    by_rows [] inside = tt
    by_rows (s ∷ rows) inside = (met_stays key names more s inside.0, by_rows rows inside.1)
