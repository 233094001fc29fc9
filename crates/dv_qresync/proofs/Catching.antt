-- A replica that hears what its state asks becomes that of the mailbox.
use Rattle.std.proofs.Common.{◌≡◌, ◌⊎◌, inl, inr, ℕ, zero, suc, ◌+◌, ◌-◌, ◌%◌, ◌<◌, ◌≤◌, Bool, true, false, cond, not, ◌&&◌, ◌||◌, List, [], ◌∷◌, ◌++◌, length, get_or, nat_eq, Some, None, Option, refl, sym, ◌∙◌, ap, subst, arith}
use Rattle.std.specs.Prelude.{All, filter, fold, map, nat_lt, option_map}
use Rattle.std.specs.List.{enumerate_from, list_any, range_with_len}
use Rattle.std.proofs.lemmas.Bool.{and_from, and_right, cond-true, eq-eqb, eqb-true, lt-ltb, ne_eqb, not_from_false, not_from_true, or_left, or_parts, or_right}
use Rattle.std.proofs.lemmas.List.Elements.{All-head, All-tail}
use Rattle.std.proofs.lemmas.List.Sums.{fold-append}
use Rattle.dv_model.specs.declared.types.Mailbox.{Mailbox}
use Rattle.dv_model.specs.declared.types.Pair.{Pair}
use Rattle.dv_model.specs.declared.types.Record.{Record}
use Rattle.dv_model.specs.declared.types.Row.{Row}
use Rattle.dv_model.specs.Effects.{applied, is_as_before, is_in_pairs}
use Rattle.dv_model.specs.Mailboxes.{IsRowOf, IsValid, last_modseq}
use Rattle.dv_model.specs.Sessions.{ranges_of}
use Rattle.dv_model.specs.Sets.{is_in_set}
use Rattle.dv_model.specs.Views.{names_of}
use Rattle.dv_model.proofs.Clients.{each_of_all, names_same}
use Rattle.dv_validity.proofs.Logs.{Leads, leads_at, valid_at}
use Rattle.dv_validity.proofs.Numbers.{records_keep}
use Rattle.dv_validity.specs.Laws.{GrowsTo, IsInRange}
use Rattle.dv_modseqs.proofs.Rising.{like_of, rows_stay_or_rise}
use Rattle.dv_modseqs.specs.Laws.{StaysOrRises}
use Rattle.dv_qresync.specs.declared.types.Answer.TheVariants.{Stale, Highest}
use Rattle.dv_qresync.specs.declared.types.Cached.{Cached}
use Rattle.dv_qresync.specs.declared.types.Replica.{Replica}
use Rattle.dv_qresync.specs.Answers.{fetch_of, fetches, given_uids, gone_ranges, is_gone, is_no_row, is_told, resynced, vanished}
use Rattle.dv_qresync.specs.Laws.{CatchesUp}
use Rattle.dv_qresync.specs.Replicas.{cached, caught_up, heard, old_of, replica_of, with_cached}
use Rattle.dv_qresync.proofs.Merged.{uid_of, with_above, with_at}
use Rattle.dv_qresync.proofs.Gathered.{in_ranges, in_spans, ranges_end}
use Rattle.dv_qresync.proofs.Rows.{Above, above_of_rising, at_below, at_tail, row_at, same_rows, staying, staying_above, staying_at}

abbrev row_uid : Row → ℕ
row_uid row = row.uid

-- ---- a replica's rows are the mailbox's

cached_above : (m : Mailbox) (n : ℕ) (rows : List Row) → Above row_uid n rows → Above uid_of n (map (cached m) rows)
cached_above m n [] above = tt
cached_above m n (row ∷ rows) above = (above.0, cached_above m (row.uid + 1) rows above.1)

cached_at : (m : Mailbox) (u : ℕ) (rows : List Row) → row_at uid_of u (map (cached m) rows) ≡ option_map (cached m) (row_at row_uid u rows)
cached_at m u [] = refl
cached_at m u (row ∷ rows) = by_test (nat_eq row.uid u) (cached_at m u rows)
  where
    by_test : (b : Bool) → row_at uid_of u (map (cached m) rows) ≡ option_map (cached m) (row_at row_uid u rows)
        → cond b (Some (cached m row)) (row_at uid_of u (map (cached m) rows)) ≡ option_map (cached m) (cond b (Some row) (row_at row_uid u rows))
    by_test true others = refl
    by_test false others = others

-- ---- what is told of rows sets them

module _ (m : Mailbox) (since : Option ℕ) where
  -- the rows with each that is told
  abbrev put_told : List Row → List Cached → List Cached
  put_told [] rows = rows
  put_told (x ∷ xs) rows = put_told xs (cond (is_told m since x) (with_cached (cached m x) rows) rows)

  heard_fetches : (number : ℕ) (xs : List Row) (r : Replica)
      → fold heard r (map (fetch_of m) (filter (λ row. is_told m since row.1) (enumerate_from number xs))) ≡ record r { rows = put_told xs r.rows }
  heard_fetches number [] r = refl
  heard_fetches number (x ∷ xs) r = by_test (is_told m since x) (heard_fetches (number + 1) xs)
    where
      by_test : (b : Bool)
          → ((r : Replica) → fold heard r (map (fetch_of m) (filter (λ row. is_told m since row.1) (enumerate_from (number + 1) xs))) ≡ record r { rows = put_told xs r.rows })
          → fold heard r (map (fetch_of m) (cond b ((number, x) ∷ filter (λ row. is_told m since row.1) (enumerate_from (number + 1) xs)) (filter (λ row. is_told m since row.1) (enumerate_from (number + 1) xs))))
          ≡ record r { rows = put_told xs (cond b (with_cached (cached m x) r.rows) r.rows) }
      by_test true others = others (record r { rows = with_cached (cached m x) r.rows })
      by_test false others = others r

  told_above : (xs : List Row) (rows : List Cached) → Above uid_of 0 rows → Above uid_of 0 (put_told xs rows)
  told_above [] rows above = above
  told_above (x ∷ xs) rows above = told_above xs (cond (is_told m since x) (with_cached (cached m x) rows) rows) (by_test (is_told m since x))
    where
      by_test : (b : Bool) → Above uid_of 0 (cond b (with_cached (cached m x) rows) rows)
      by_test true = with_above (cached m x) 0 rows (omega arith) above
      by_test false = above

  -- what is there of a UID behind that
  abbrev now : Option Row → Option Cached → Option Cached
  now None before = before
  now (Some x) before = cond (is_told m since x) (Some (cached m x)) before

  told_at : (n u : ℕ) (xs : List Row) (rows : List Cached) → Above row_uid n xs → Above uid_of 0 rows → row_at uid_of u (put_told xs rows) ≡ now (row_at row_uid u xs) (row_at uid_of u rows)
  told_at n u [] rows rise above = refl
  told_at n u (x ∷ xs) rows rise above =
      told_at (x.uid + 1) u xs (cond (is_told m since x) (with_cached (cached m x) rows) rows) rise.1 (by_told (is_told m since x))
      ∙ by_uid (nat_eq x.uid u) refl
    where
      by_told : (b : Bool) → Above uid_of 0 (cond b (with_cached (cached m x) rows) rows)
      by_told true = with_above (cached m x) 0 rows (omega arith) above
      by_told false = above

      put : (b : Bool) → row_at uid_of u (cond b (with_cached (cached m x) rows) rows) ≡ cond b (cond (nat_eq x.uid u) (Some (cached m x)) (row_at uid_of u rows)) (row_at uid_of u rows)
      put true = with_at (cached m x) 0 u rows above
      put false = refl

      same : (b : Bool) → ◌≡◌ {A = Option Cached} (cond b (row_at uid_of u rows) (row_at uid_of u rows)) (row_at uid_of u rows)
      same true = refl
      same false = refl

      by_uid : (b : Bool) → nat_eq x.uid u ≡ b
          → now (row_at row_uid u xs) (row_at uid_of u (cond (is_told m since x) (with_cached (cached m x) rows) rows)) ≡ now (cond b (Some x) (row_at row_uid u xs)) (row_at uid_of u rows)
      by_uid true e =
          let at : x.uid ≡ u = eqb-true x.uid u e in
          ap (λ o. now o (row_at uid_of u (cond (is_told m since x) (with_cached (cached m x) rows) rows))) (at_below row_uid (x.uid + 1) u xs rise.1 (omega arith))
          ∙ put (is_told m since x)
          ∙ ap (λ c. cond (is_told m since x) (cond c (Some (cached m x)) (row_at uid_of u rows)) (row_at uid_of u rows)) e
      by_uid false e =
          ap (now (row_at row_uid u xs))
          (put (is_told m since x) ∙ ap (λ c. cond (is_told m since x) (cond c (Some (cached m x)) (row_at uid_of u rows)) (row_at uid_of u rows)) e ∙ same (is_told m since x))

-- ---- what vanished

nothing_leaves : (rows : List Cached) → filter (λ row. not (is_in_pairs [] row.uid)) rows ≡ rows
nothing_leaves [] = refl
nothing_leaves (row ∷ rows) = ap (λ rs. row ∷ rs) (nothing_leaves rows)

heard_vanished : (pairs : List Pair) (r : Replica) → fold heard r (vanished pairs) ≡ record r { rows = staying uid_of (is_in_pairs pairs) r.rows }
heard_vanished [] r = ap (λ (rows : List Cached). record r { rows = rows }) (sym (nothing_leaves r.rows))
heard_vanished (p ∷ ps) r = refl

-- ---- all answers

heard_all : (m : Mailbox) (since : Option ℕ) (r : Replica)
    → fold heard r (fetches m since ++ Highest m.highest ∷ []) ≡ record { uid_validity = r.uid_validity; highest = m.highest; rows = put_told m since m.rows r.rows }
heard_all m since r =
    fold-append heard r (fetches m since) (Highest m.highest ∷ [])
    ∙ ap (λ r. heard r (Highest m.highest)) (heard_fetches m since 1 m.rows r)

-- ---- numbers in lists

in_range : (u n a : ℕ) → a ≤ u → u < a + n → list_any (nat_eq u) (range_with_len a n) ≡ true
in_range u n a le less = by_count n a le less
  where
    by_first : (n a : ℕ) → (a ≡ u) ⊎ (a + 1 ≤ u) → (a + 1 ≤ u → list_any (nat_eq u) (range_with_len (a + 1) n) ≡ true) → (nat_eq u a || list_any (nat_eq u) (range_with_len (a + 1) n)) ≡ true
    by_first n a (inl same) rest = or_left (nat_eq u a) (list_any (nat_eq u) (range_with_len (a + 1) n)) (eq-eqb u a (sym same))
    by_first n a (inr more) rest = or_right (nat_eq u a) (list_any (nat_eq u) (range_with_len (a + 1) n)) (rest more)

    order : (a : ℕ) → a ≤ u → (a ≡ u) ⊎ (a + 1 ≤ u)
    order a le = search arith

    by_count : (n a : ℕ) → a ≤ u → u < a + n → list_any (nat_eq u) (range_with_len a n) ≡ true
    by_count zero a le less = absurd (omega (arith, le, less))
    by_count (suc n) a le less = by_first n a (order a le) (λ more. by_count n (a + 1) more (omega (arith, less)))

in_filter : (test : ℕ → Bool) (u : ℕ) (us : List ℕ) → list_any (nat_eq u) (filter test us) ≡ (list_any (nat_eq u) us && test u)
in_filter test u [] = refl
in_filter test u (v ∷ us) = by_test (test v) refl (nat_eq u v) refl (in_filter test u us)
  where
    and_self : (b c : Bool) → c ≡ true → (b && c) ≡ b
    and_self true c e = e
    and_self false c e = refl

    by_test : (b : Bool) → test v ≡ b → (c : Bool) → nat_eq u v ≡ c → list_any (nat_eq u) (filter test us) ≡ (list_any (nat_eq u) us && test u)
        → list_any (nat_eq u) (cond b (v ∷ filter test us) (filter test us)) ≡ ((c || list_any (nat_eq u) us) && test u)
    by_test true e true f others = ap (λ c. c || list_any (nat_eq u) (filter test us)) f ∙ sym (ap test (eqb-true u v f) ∙ e)
    by_test true e false f others = ap (λ c. c || list_any (nat_eq u) (filter test us)) f ∙ others
    by_test false e true f others =
        let not' : test u ≡ false = ap test (eqb-true u v f) ∙ e in
        others ∙ and_right (list_any (nat_eq u) us) (test u) not' ∙ sym not'
    by_test false e false f others = others

found_uid : (u : ℕ) (rows : List Row) (row : Row) → row_at row_uid u rows ≡ Some row → list_any (nat_eq u) (map row_uid rows) ≡ true
found_uid u [] row e = absurd cc
found_uid u (x ∷ rows) row e = by_test (nat_eq x.uid u) refl e (found_uid u rows row)
  where
    by_test : (b : Bool) → nat_eq x.uid u ≡ b → cond b (Some x) (row_at row_uid u rows) ≡ Some row → (row_at row_uid u rows ≡ Some row → list_any (nat_eq u) (map row_uid rows) ≡ true)
        → (nat_eq u x.uid || list_any (nat_eq u) (map row_uid rows)) ≡ true
    by_test true f e others = or_left (nat_eq u x.uid) (list_any (nat_eq u) (map row_uid rows)) (eq-eqb u x.uid (sym (eqb-true x.uid u f)))
    by_test false f e others = or_right (nat_eq u x.uid) (list_any (nat_eq u) (map row_uid rows)) (others e)

-- no row is found where no row has the UID
free_found : (u : ℕ) (rows : List Row) → row_at row_uid u rows ≡ None → list_any (λ (row : Row). nat_eq row.uid u) rows ≡ false
free_found u [] e = refl
free_found u (x ∷ rows) e = by_test (nat_eq x.uid u) e (free_found u rows)
  where
    by_test : (b : Bool) → cond b (Some x) (row_at row_uid u rows) ≡ None → (row_at row_uid u rows ≡ None → list_any (λ (row : Row). nat_eq row.uid u) rows ≡ false)
        → (b || list_any (λ (row : Row). nat_eq row.uid u) rows) ≡ false
    by_test true e others = absurd cc
    by_test false e others = others e

taken_found : (u : ℕ) (rows : List Row) (row : Row) → row_at row_uid u rows ≡ Some row → list_any (λ (row : Row). nat_eq row.uid u) rows ≡ true
taken_found u [] row e = absurd cc
taken_found u (x ∷ rows) row e = by_test (nat_eq x.uid u) e (taken_found u rows row)
  where
    by_test : (b : Bool) → cond b (Some x) (row_at row_uid u rows) ≡ Some row → (row_at row_uid u rows ≡ Some row → list_any (λ (row : Row). nat_eq row.uid u) rows ≡ true)
        → (b || list_any (λ (row : Row). nat_eq row.uid u) rows) ≡ true
    by_test true e others = refl
    by_test false e others = others e

-- the row of a UID is one of the rows
found_one : (u : ℕ) (rows : List Row) (row : Row) (P : Row → Type 0) → All P rows → row_at row_uid u rows ≡ Some row → P row × (row.uid ≡ u)
found_one u [] row P all e = absurd cc
found_one u (x ∷ rows) row P all e = by_test (nat_eq x.uid u) refl e (found_one u rows row P (All-tail P x rows all))
  where
    by_test : (b : Bool) → nat_eq x.uid u ≡ b → cond b (Some x) (row_at row_uid u rows) ≡ Some row → (row_at row_uid u rows ≡ Some row → P row × (row.uid ≡ u)) → P row × (row.uid ≡ u)
    by_test true f e others = let same : x ≡ row = cc in (subst P same (All-head P x rows all), ap row_uid (sym same) ∙ eqb-true x.uid u f)
    by_test false f e others = others e

-- one of the rows is found by its UID
found_by : (n : ℕ) (rows : List Row) (k : ℕ) (d : Row) → Above row_uid n rows → k < length rows → row_at row_uid (get_or rows k d).uid rows ≡ Some (get_or rows k d)
found_by n [] k d above h = absurd (omega (arith, h))
found_by n (x ∷ rows) zero d above h = ap (λ c. cond c (Some x) (row_at row_uid x.uid rows)) (eq-eqb x.uid x.uid refl)
found_by n (x ∷ rows) (suc k) d above h =
    let from = one_from (x.uid + 1) rows k d above.1 (omega (arith, h)) in
    at_tail row_uid x rows (get_or rows k d).uid (ne_eqb x.uid (get_or rows k d).uid (λ same. omega arith)) ∙ found_by (x.uid + 1) rows k d above.1 (omega (arith, h))
  where
    one_from : (n : ℕ) (rows : List Row) (k : ℕ) (d : Row) → Above row_uid n rows → k < length rows → n ≤ (get_or rows k d).uid
    one_from n [] k d above h = absurd (omega (arith, h))
    one_from n (x ∷ rows) zero d above h = above.0
    one_from n (x ∷ rows) (suc k) d above h = let low = one_from (x.uid + 1) rows k d above.1 (omega (arith, h)) in omega (arith, above.0)

-- ---- from one mailbox to a later one

module _ (m n : Mailbox) (rs : List Record) (valid : IsValid m) (after : IsValid n) (range : All (λ r. IsInRange r.body) rs) (leads : applied m rs ≡ Some n) where
  earlier_rise : Above row_uid 0 m.rows
  earlier_rise = above_of_rising row_uid m.rows valid.rising

  later_rise : Above row_uid 0 n.rows
  later_rise = above_of_rising row_uid n.rows after.rising

  -- a row that is as before is cached as before
  kept_cached : (row old : Row) → IsRowOf m old → is_as_before row old ≡ true → row.modseq ≡ old.modseq → cached m old ≡ cached n row
  kept_cached row old is e same =
      let like = like_of row old e in
      let grows : GrowsTo m.keywords n.keywords = (records_keep m n rs leads).table in
      let names : names_of m old.keywords ≡ names_of n row.keywords = names_same m n grows.0 grows.1 old.keywords (each_of_all (λ k. k < length m.keywords) old.keywords is.keywords.1) ∙ ap (names_of n) (sym like.keywords) in
      ap (λ (u : ℕ). record { uid = u; flags = old.flags % 32; keywords = names_of m old.keywords; modseq = old.modseq }) (sym like.uid)
      ∙ ap (λ (f : ℕ). record { uid = row.uid; flags = f; keywords = names_of m old.keywords; modseq = old.modseq }) (sym like.flags)
      ∙ ap (λ (ns : List (List ℕ)). record { uid = row.uid; flags = row.flags % 32; keywords = ns; modseq = old.modseq }) names
      ∙ ap (λ (s : ℕ). record { uid = row.uid; flags = row.flags % 32; keywords = names_of n row.keywords; modseq = s }) (sym same)

  knows : (u : ℕ) → is_in_set (n.next_uid - 1) (old_of (replica_of m)).uids u ≡ list_any (nat_eq u) (map (λ (row : Cached). row.uid) (replica_of m).rows)
  knows u =
      let uids : List ℕ = map (λ (row : Cached). row.uid) (replica_of m).rows in
      in_spans (n.next_uid - 1) u (ranges_of uids) (ranges_end uids) ∙ in_ranges uids u

  cached_uids : (rows : List Row) → map (λ (row : Cached). row.uid) (map (cached m) rows) ≡ map row_uid rows
  cached_uids [] = refl
  cached_uids (row ∷ rows) = ap (λ us. row.uid ∷ us) (cached_uids rows)

  -- the ranges that are gone have a UID exactly where no row has it and the client had it
  gone_has : (u : ℕ) → is_in_pairs (gone_ranges n (old_of (replica_of m)).uids) u ≡ (list_any (nat_eq u) (given_uids n) && is_gone n (old_of (replica_of m)).uids u)
  gone_has u =
      in_ranges (filter (is_gone n (old_of (replica_of m)).uids) (given_uids n)) u
      ∙ in_filter (is_gone n (old_of (replica_of m)).uids) u (given_uids n)

  abbrev left : ℕ → Option Cached
  left u = row_at uid_of u (staying uid_of (is_in_pairs (gone_ranges n (old_of (replica_of m)).uids)) (map (cached m) m.rows))

  left_is : (u : ℕ) → left u ≡ cond (is_in_pairs (gone_ranges n (old_of (replica_of m)).uids) u) None (option_map (cached m) (row_at row_uid u m.rows))
  left_is u =
      staying_at uid_of (is_in_pairs (gone_ranges n (old_of (replica_of m)).uids)) u (map (cached m) m.rows)
      ∙ ap (cond (is_in_pairs (gone_ranges n (old_of (replica_of m)).uids) u) None) (cached_at m u m.rows)

  -- what is gone leaves
  left_none : (u : ℕ) → row_at row_uid u n.rows ≡ None → left u ≡ None
  left_none u none = left_is u ∙ by_row (row_at row_uid u m.rows) refl
    where
      nothing : (b : Bool) → ◌≡◌ {A = Option Cached} (cond b None None) None
      nothing true = refl
      nothing false = refl

      by_row : (o : Option Row) → row_at row_uid u m.rows ≡ o → cond (is_in_pairs (gone_ranges n (old_of (replica_of m)).uids) u) None (option_map (cached m) o) ≡ None
      by_row None e = nothing (is_in_pairs (gone_ranges n (old_of (replica_of m)).uids) u)
      by_row (Some old) e =
          let is = found_one u m.rows old (IsRowOf m) valid.rows e in
          let low : 1 ≤ old.uid = is.0.uid.0 in
          let high : old.uid < m.next_uid = is.0.uid.1 in
          let up : m.next_uid ≤ n.next_uid = (records_keep m n rs leads).next_uid in
          let same : old.uid ≡ u = is.1 in
          let given : list_any (nat_eq u) (given_uids n) ≡ true = in_range u (n.next_uid - 1) 1 (omega arith) (omega arith) in
          let known : is_in_set (n.next_uid - 1) (old_of (replica_of m)).uids u ≡ true = knows u ∙ ap (list_any (nat_eq u)) (cached_uids m.rows) ∙ found_uid u m.rows old e in
          let free : is_no_row n u ≡ true = not_from_false (list_any (λ (row : Row). nat_eq row.uid u) n.rows) (free_found u n.rows none) in
          let gone : is_in_pairs (gone_ranges n (old_of (replica_of m)).uids) u ≡ true =
          gone_has u ∙ and_from (list_any (nat_eq u) (given_uids n)) (is_gone n (old_of (replica_of m)).uids u) given (and_from (is_in_set (n.next_uid - 1) (old_of (replica_of m)).uids u) (is_no_row n u) known free) in
          cond-true (is_in_pairs (gone_ranges n (old_of (replica_of m)).uids) u) None (Some (cached m old)) gone

  -- what is there and wasn't told stays
  left_some : (u : ℕ) (row : Row) → row_at row_uid u n.rows ≡ Some row → is_told n (Some m.highest) row ≡ false → left u ≡ Some (cached n row)
  left_some u row e untold =
      left_is u
      ∙ ap (λ b. cond b None (option_map (cached m) (row_at row_uid u m.rows))) stays
      ∙ by_kept (stays_or_rises.0)
    where
      stays : is_in_pairs (gone_ranges n (old_of (replica_of m)).uids) u ≡ false
      stays =
          gone_has u
          ∙ and_right (list_any (nat_eq u) (given_uids n)) (is_gone n (old_of (replica_of m)).uids u)
          (and_right (is_in_set (n.next_uid - 1) (old_of (replica_of m)).uids u) (is_no_row n u) (not_from_true (list_any (λ (row : Row). nat_eq row.uid u) n.rows) (taken_found u n.rows row e)))

      stays_or_rises : StaysOrRises m n row × (row.uid ≡ u)
      stays_or_rises = found_one u n.rows row (StaysOrRises m n) (rows_stay_or_rise m n rs valid range leads) e

      by_kept : StaysOrRises m n row → option_map (cached m) (row_at row_uid u m.rows) ≡ Some (cached n row)
      by_kept (inl (k, old, h, at, was)) =
          let one : row_at row_uid (get_or m.rows k old).uid m.rows ≡ Some (get_or m.rows k old) = found_by 0 m.rows k old earlier_rise h in
          let uids : (get_or m.rows k old).uid ≡ u = ap row_uid at ∙ sym (like_of row old was.0).uid ∙ stays_or_rises.1 in
          ap (λ v. option_map (cached m) (row_at row_uid v m.rows)) (sym uids)
          ∙ ap (option_map (cached m)) one
          ∙ ap (λ (x : Row). Some (cached m x)) at
          ∙ ap Some (kept_cached row old (subst (IsRowOf m) at (valid.rows k old h)) was.0 was.1)
      by_kept (inr (inl above)) =
          let parts = or_parts (nat_lt m.highest row.modseq) (nat_eq n.highest last_modseq) untold in
          let told : nat_lt m.highest row.modseq ≡ true = lt-ltb m.highest row.modseq above in
          let not' : nat_lt m.highest row.modseq ≡ false = parts.0 in
          absurd cc
      by_kept (inr (inr end)) =
          let parts = or_parts (nat_lt m.highest row.modseq) (nat_eq n.highest last_modseq) untold in
          let told : nat_eq n.highest last_modseq ≡ true = eq-eqb n.highest last_modseq end in
          let not' : nat_eq n.highest last_modseq ≡ false = parts.1 in
          absurd cc

  -- the rows of each UID are the later mailbox's
  told_rows : (since : Option ℕ) (rows : List Cached) → Above uid_of 0 rows
      → ((u : ℕ) → row_at row_uid u n.rows ≡ None → row_at uid_of u rows ≡ None)
      → ((u : ℕ) (row : Row) → row_at row_uid u n.rows ≡ Some row → is_told n since row ≡ false → row_at uid_of u rows ≡ Some (cached n row))
      → put_told n since n.rows rows ≡ map (cached n) n.rows
  told_rows since rows above gone kept =
      same_rows uid_of 0 (put_told n since n.rows rows) (map (cached n) n.rows) (told_above n since n.rows rows above) (cached_above n 0 n.rows later_rise)
      (λ u. told_at n since 0 u n.rows rows later_rise above ∙ by_row u (row_at row_uid u n.rows) refl ∙ sym (cached_at n u n.rows))
    where
      by_told : (u : ℕ) (row : Row) → row_at row_uid u n.rows ≡ Some row → (b : Bool) → is_told n since row ≡ b → cond b (Some (cached n row)) (row_at uid_of u rows) ≡ Some (cached n row)
      by_told u row e true f = refl
      by_told u row e false f = kept u row e f

      by_row : (u : ℕ) (o : Option Row) → row_at row_uid u n.rows ≡ o → now n since o (row_at uid_of u rows) ≡ option_map (cached n) (row_at row_uid u n.rows)
      by_row u None e = gone u e ∙ ap (option_map (cached n)) (sym e)
      by_row u (Some row) e = by_told u row e (is_told n since row) refl ∙ ap (option_map (cached n)) (sym e)

  -- under the same UIDVALIDITY
  same_validity : n.uid_validity ≡ m.uid_validity
      → caught_up (replica_of m) (vanished (gone_ranges n (old_of (replica_of m)).uids) ++ (fetches n (Some m.highest) ++ Highest n.highest ∷ [])) ≡ replica_of n
  same_validity same =
      let r : Replica = replica_of m in
      let gone : List Pair = gone_ranges n (old_of (replica_of m)).uids in
      let rows : List Cached = staying uid_of (is_in_pairs gone) (map (cached m) m.rows) in
      fold-append heard (replica_of m) (vanished gone) (fetches n (Some m.highest) ++ Highest n.highest ∷ [])
      ∙ ap (λ r. fold heard r (fetches n (Some m.highest) ++ Highest n.highest ∷ [])) (heard_vanished gone (replica_of m))
      ∙ heard_all n (Some m.highest) (record { uid_validity = m.uid_validity; highest = m.highest; rows = rows })
      ∙ ap (λ (v : ℕ). record { uid_validity = v; highest = n.highest; rows = put_told n (Some m.highest) n.rows rows }) (sym same)
      ∙ ap (λ (cs : List Cached). record { uid_validity = n.uid_validity; highest = n.highest; rows = cs })
      (told_rows (Some m.highest) rows (staying_above uid_of (is_in_pairs gone) 0 (map (cached m) m.rows) (cached_above m 0 m.rows earlier_rise)) left_none left_some)

  -- under another one
  other_validity : caught_up (replica_of m) (Stale n.uid_validity ∷ (fetches n None ++ Highest n.highest ∷ [])) ≡ replica_of n
  other_validity =
      heard_all n None (record { uid_validity = n.uid_validity; highest = m.highest; rows = [] })
      ∙ ap (λ (cs : List Cached). record { uid_validity = n.uid_validity; highest = n.highest; rows = cs }) (told_rows None [] tt (λ u none. refl) (λ u row e untold. absurd (told_is untold)))
    where
      told_is : true ≡ false → ⊥
      told_is e = cc

  pub becomes : caught_up (replica_of m) (resynced n (old_of (replica_of m))) ≡ replica_of n
  becomes = by_test (nat_eq n.uid_validity m.uid_validity) refl
    where
      by_test : (b : Bool) → nat_eq n.uid_validity m.uid_validity ≡ b
          → caught_up (replica_of m) (cond b (vanished (gone_ranges n (old_of (replica_of m)).uids) ++ (fetches n (Some m.highest) ++ Highest n.highest ∷ [])) (Stale n.uid_validity ∷ (fetches n None ++ Highest n.highest ∷ []))) ≡ replica_of n
      by_test true e = same_validity (eqb-true n.uid_validity m.uid_validity e)
      by_test false e = other_validity

-- ---- along a log

pub catches_up : CatchesUp
catches_up r answers m hears =
    let earlier : Mailbox = hears.earlier in
    let leads : Leads earlier m = leads_at hears.log hears.sound hears.from hears.to earlier m hears.order hears.was hears.is in
    let copy : r ≡ replica_of earlier = hears.copy in
    ap (caught_up r) hears.answers
    ∙ ap (λ (x : Replica). caught_up x (resynced m (old_of x))) copy
    ∙ becomes earlier m leads.records (valid_at hears.log hears.sound hears.from earlier hears.was) (valid_at hears.log hears.sound hears.to m hears.is) leads.range leads.is
