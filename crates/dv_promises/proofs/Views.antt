-- What a move leaves of a view: it is read in the mailbox, and shows each of its rows.
use Rattle.std.proofs.Common.{◌≡◌, ◌⊎◌, inl, inr, ℕ, zero, suc, ◌+◌, ◌<◌, ◌≤◌, Bool, true, false, cond, List, [], ◌∷◌, ◌++◌, length, get_or, nat_eq, nat_le, Option, Some, refl, sym, ◌∙◌, ap, subst, arith, length-append}
use Rattle.std.specs.Prelude.{All, Any, Contains, find, map, option_map, slice_index, unwrap_or}
use Rattle.std.specs.List.Sorted.{IsStrictlyIncreasing}
use Rattle.std.proofs.lemmas.Bool.{eq-eqb, eqb-true, le-leb}
use Rattle.std.proofs.lemmas.Bool.Decides.{nat_tests}
use Rattle.std.proofs.lemmas.List.{get_or-map, length-map}
use Rattle.std.proofs.lemmas.List.Elements.{All-append, All-contains_itself, All-filter, All-head, All-map, All-tail, All-weaker, Contains-append_left, Contains-append_right, Contains-get_or}
use Rattle.std.proofs.lemmas.List.Folds.{Any-from_list_any, list_any_at}
use Rattle.dv_model.specs.declared.types.Mailbox.{Mailbox}
use Rattle.dv_model.specs.declared.types.Row.{Row}
use Rattle.dv_model.specs.declared.types.Shown.{Shown}
use Rattle.dv_model.specs.declared.types.Step.{Step}
use Rattle.dv_model.specs.declared.types.Step.TheVariants.{Held, Full}
use Rattle.dv_model.specs.Laws.{Follows, IsReadIn}
use Rattle.dv_model.specs.Mailboxes.{IsRowOf, IsValid}
use Rattle.dv_model.specs.Views.{View, moved, row_of, shown, shows_uid}
use Rattle.dv_model.proofs.Clients.{Above, all_shown_rise, from_uid, held_moves, held_row, held_uid}

-- ---- rows in rising order

rising_cons : (x : ℕ) (xs : List ℕ) → IsStrictlyIncreasing xs → ((d : ℕ) → 0 < length xs → x < slice_index xs 0) → IsStrictlyIncreasing (x ∷ xs)
rising_cons x xs rising first zero h = first 0 (omega (arith, h))
rising_cons x xs rising first (suc k) h =
    let next : k + 1 ≡ suc k = omega arith in
    let step : slice_index xs k < slice_index xs (k + 1) = rising k (omega (arith, h)) in
    let up : slice_index xs k < slice_index (x ∷ xs) (suc (k + 1)) = step in
    let same : suc (k + 1) ≡ suc k + 1 = omega arith in
    subst (λ j. slice_index (x ∷ xs) (suc k) < slice_index (x ∷ xs) j) same up

above_first : (n : ℕ) (rows : List Shown) → Above n rows → 0 < length (map (λ (s : Shown). s.uid) rows) → n ≤ slice_index (map (λ (s : Shown). s.uid) rows) 0
above_first n [] above h = absurd (omega (arith, h))
above_first n (s ∷ rows) above h = above.0

rising_of_above : (n : ℕ) (rows : List Shown) → Above n rows → IsStrictlyIncreasing (map (λ s. s.uid) rows)
rising_of_above n [] above = λ k h. absurd (omega (arith, h))
rising_of_above n (s ∷ rows) above =
    rising_cons s.uid (map (λ (t : Shown). t.uid) rows) (rising_of_above (s.uid + 1) rows above.1) (λ d h. let low = above_first (s.uid + 1) rows above.1 h in omega (arith, low))

-- ---- the view is read in the mailbox

uids_are : (rows : List Row) → map (λ (s : Shown). s.uid) (map shown rows) ≡ map (λ row. row.uid) rows
uids_are [] = refl
uids_are (row ∷ rows) = ap (λ uids. row.uid ∷ uids) (uids_are rows)

-- each place of a row is in this table
abbrev HasPlaces : Mailbox → Shown → Type 0
HasPlaces m s = All (λ k. k < length m.keywords) s.keywords

module _ (m : Mailbox) (valid : IsValid m) where
  row_places : All (λ row. HasPlaces m (shown row)) m.rows
  row_places = All-weaker (IsRowOf m) (λ row. HasPlaces m (shown row)) (λ row is. is.keywords.1) m.rows valid.rows

  row_below : All (λ row. row.uid < m.next_uid) m.rows
  row_below = All-weaker (IsRowOf m) (λ row. row.uid < m.next_uid) (λ row is. is.uid.1) m.rows valid.rows

  pub full_read : IsReadIn m (record { rows = map shown m.rows; next_uid = m.next_uid })
  full_read = record {
    rising = subst IsStrictlyIncreasing (sym (uids_are m.rows)) valid.rising;
    below = All-map (λ (s : Shown). s.uid < m.next_uid) shown m.rows row_below;
    keywords = All-map (HasPlaces m) shown m.rows row_places;
  }

-- a row that is held is one of the mailbox, or as it was shown
held_keeps : (P : Shown → Type 0) (rows : List Row) (s : Shown) → All (λ row. P (shown row)) rows → P s → P (unwrap_or (option_map shown (find (λ row. nat_eq row.uid s.uid) rows)) s)
held_keeps P [] s each is = is
held_keeps P (row ∷ rows) s each is = by_test (nat_eq row.uid s.uid) (held_keeps P rows s (All-tail (λ row. P (shown row)) row rows each) is)
  where
    by_test : (b : Bool) → P (unwrap_or (option_map shown (find (λ row. nat_eq row.uid s.uid) rows)) s) → P (unwrap_or (option_map shown (cond b (Some row) (find (λ row. nat_eq row.uid s.uid) rows))) s)
    by_test true rest = All-head (λ row. P (shown row)) row rows each
    by_test false rest = rest

module _ (before m : Mailbox) (view : View) (read : IsReadIn before view) (follows : Follows before view m) where
  held_read : IsReadIn m (moved Held view m)
  held_read =
      let valid = follows.valid in
      let up = follows.next_uid in
      let many : length before.keywords ≤ length m.keywords = omega (arith, ap length follows.names, length-append before.keywords follows.more) in
      record {
        rising = rising_of_above 0 (map (held_row m) view.rows ++ map shown (from_uid view.next_uid m.rows)) (held_moves before m view read follows).rising;
        below =
            All-append (λ (s : Shown). s.uid < m.next_uid) (map (held_row m) view.rows) (map shown (from_uid view.next_uid m.rows))
            (All-map (λ (s : Shown). s.uid < m.next_uid) (held_row m) view.rows
            (All-weaker (λ (s : Shown). s.uid < view.next_uid) (λ (s : Shown). (held_row m s).uid < m.next_uid) (λ s low. subst (λ uid. uid < m.next_uid) (sym (held_uid m s)) (omega arith)) view.rows read.below))
            (All-map (λ (s : Shown). s.uid < m.next_uid) shown (from_uid view.next_uid m.rows) (All-filter (λ row. nat_le view.next_uid row.uid) (λ (row : Row). row.uid < m.next_uid) m.rows (row_below m valid)));
        keywords =
            All-append (HasPlaces m) (map (held_row m) view.rows) (map shown (from_uid view.next_uid m.rows))
            (All-map (HasPlaces m) (held_row m) view.rows
            (All-weaker (HasPlaces before) (λ (s : Shown). HasPlaces m (held_row m s))
            (λ s places. held_keeps (HasPlaces m) m.rows s (row_places m valid) (All-weaker (λ k. k < length before.keywords) (λ k. k < length m.keywords) (λ k low. omega arith) s.keywords places)) view.rows read.keywords))
            (All-map (HasPlaces m) shown (from_uid view.next_uid m.rows) (All-filter (λ row. nat_le view.next_uid row.uid) (λ row. HasPlaces m (shown row)) m.rows (row_places m valid)));
      }

  pub moved_read : (step : Step) → IsReadIn m (moved step view m)
  moved_read Held = held_read
  moved_read Full = full_read m follows.valid

-- ---- the view shows each row of the mailbox

contains_map : {X Y : Type 0} (f : X → Y) (xs : List X) (x : X) → Contains xs x → Contains (map f xs) (f x)
contains_map f xs x (k, h, is) = (k, omega (arith, h, length-map xs f), get_or-map f xs k x (f x) h ∙ ap f is)

pub full_shows : (rows : List Row) → All (λ row. Contains (map shown rows) (shown row)) rows
full_shows rows = All-weaker (Contains rows) (λ row. Contains (map shown rows) (shown row)) (contains_map shown rows) rows (All-contains_itself rows)

row_above : (n : ℕ) (rows : List Row) (row : Row) → Above n (map shown rows) → Contains rows row → n ≤ row.uid
row_above n [] row above has = absurd (omega (arith, has.1))
row_above n (r ∷ rows) row above (zero, h, is) = subst (λ (r : Row). n ≤ r.uid) is above.0
row_above n (r ∷ rows) row above (suc k, h, is) = let low = row_above (r.uid + 1) rows row above.1 (k, omega (arith, h), is) in omega (arith, above.0)

-- of rising rows the one of a UID is found
row_found : (n : ℕ) (rows : List Row) (row : Row) (uid : ℕ) → Above n (map shown rows) → Contains rows row → row.uid ≡ uid → find (λ r. nat_eq r.uid uid) rows ≡ Some row
row_found n [] row uid above has same = absurd (omega (arith, has.1))
row_found n (r ∷ rows) row uid above (zero, h, is) same =
    let e : r.uid ≡ uid = ap (λ (r : Row). r.uid) is ∙ same in
    ap (λ (b : Bool). cond b (Some r) (find (λ (r : Row). nat_eq r.uid uid) rows)) (eq-eqb r.uid uid e) ∙ ap Some is
row_found n (r ∷ rows) row uid above (suc k, h, is) same =
    let rest : Contains rows row = (k, omega (arith, h), is) in
    let low : r.uid + 1 ≤ row.uid = row_above (r.uid + 1) rows row above.1 rest in
    let differs : nat_eq r.uid uid ≡ false = (let up : r.uid < uid = omega (arith, low, same) in grind (arith, nat_tests)) in
    ap (λ (b : Bool). cond b (Some r) (find (λ (r : Row). nat_eq r.uid uid) rows)) differs ∙ row_found (r.uid + 1) rows row uid above.1 rest same

contains_from : (b : ℕ) (rows : List Row) (row : Row) → b ≤ row.uid → Contains rows row → Contains (from_uid b rows) row
contains_from b [] row le has = absurd (omega (arith, has.1))
contains_from b (r ∷ rows) row le (zero, h, e) = by_test (nat_le b r.uid) refl
  where
    by_test : (t : Bool) → nat_le b r.uid ≡ t → Contains (cond t (r ∷ from_uid b rows) (from_uid b rows)) row
    by_test true is = (zero, omega arith, e)
    by_test false is = let found : nat_le b r.uid ≡ true = le-leb b r.uid (let same : r.uid ≡ row.uid = ap (λ (r : Row). r.uid) e in omega arith) in absurd cc
contains_from b (r ∷ rows) row le (suc k, h, e) = by_test (nat_le b r.uid) (contains_from b rows row le (k, omega (arith, h), e))
  where
    by_test : (t : Bool) → Contains (from_uid b rows) row → Contains (cond t (r ∷ from_uid b rows) (from_uid b rows)) row
    by_test true rest = (suc rest.0, omega (arith, rest.1), rest.2)
    by_test false rest = rest

module _ (m : Mailbox) (valid : IsValid m) (view : View) (row : Row) (has : Contains m.rows row) where
  -- an old row is held as the mailbox has it
  held_shows : Any (λ (s : Shown). nat_eq s.uid row.uid ≡ true) view.rows → Contains (map (held_row m) view.rows) (shown row)
  held_shows (k, s, h, is, same) =
      let found : row_of m s.uid ≡ Some row = row_found 0 m.rows row s.uid (all_shown_rise m valid.rising) has (sym (eqb-true s.uid row.uid same)) in
      subst (Contains (map (held_row m) view.rows)) (ap (λ (o : Option Row). unwrap_or (option_map shown o) s) found) (contains_map (held_row m) view.rows s (k, h, is))

  shows_here : (shows_uid view row.uid ≡ true) ⊎ (view.next_uid ≤ row.uid) → Contains (map (held_row m) view.rows ++ map shown (from_uid view.next_uid m.rows)) (shown row)
  shows_here (inl old) =
      Contains-append_left (map (held_row m) view.rows) (map shown (from_uid view.next_uid m.rows)) (shown row)
      (held_shows (Any-from_list_any (λ (s : Shown). nat_eq s.uid row.uid) view.rows old))
  shows_here (inr new) =
      Contains-append_right (map (held_row m) view.rows) (map shown (from_uid view.next_uid m.rows)) (shown row)
      (contains_map shown (from_uid view.next_uid m.rows) row (contains_from view.next_uid m.rows row new has))

pub moved_shows : (step : Step) (before m : Mailbox) (view : View) → Follows before view m → All (λ row. Contains (moved step view m).rows (shown row)) m.rows
moved_shows Full before m view follows = full_shows m.rows
moved_shows Held before m view follows = λ k d h. shows_here m follows.valid view (get_or m.rows k d) (Contains-get_or m.rows k d h) (follows.rows k d h)

-- a row that is shown has its UID in the view
pub shows_its_uid : (view : View) (row : Row) → Contains view.rows (shown row) → shows_uid view row.uid ≡ true
shows_its_uid view row (k, h, is) =
    list_any_at (λ (s : Shown). nat_eq s.uid row.uid) view.rows k (shown row) h (eq-eqb (get_or view.rows k (shown row)).uid row.uid (ap (λ (s : Shown). s.uid) is))
