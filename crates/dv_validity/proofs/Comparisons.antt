-- A row is compared with the one that had its UID alone.
use Rattle.std.proofs.Common.{◌≡◌, ◌≢◌, ◌⊎◌, inl, inr, ℕ, ◌%◌, ◌<◌, ◌≤◌, Bool, true, false, cond, ◌&&◌, List, [], ◌∷◌, ◌++◌, length, get_or, nat_eq, nat_le, Some, refl, sym, ◌∙◌, ap, subst, arith}
use Rattle.std.specs.Prelude.{All, AllPairs, Contains, bytes_eq, filter, fold, map}
use Rattle.std.specs.List.{list_any}
use Rattle.std.specs.List.Sorted.{IsStrictlyIncreasing}
use Rattle.std.proofs.lemmas.Bool.{and_from, and_left, and_parts, cases_lt, eq-eqb, false_from_ne_true, eqb-true, ne_eqb}
use Rattle.std.proofs.lemmas.Bool.Decides.{nat_tests}
use Rattle.std.proofs.lemmas.List.{get_or-map, get_or_default, length-map, map-append, map-id}
use Rattle.std.proofs.lemmas.List.Elements.{All-contains_itself, All-filter, All-head, All-map, All-tail, All-weaker}
use Rattle.std.proofs.lemmas.List.Folds.{list_any_at, list_any_none, map_fixed}
use Rattle.std.proofs.lemmas.List.Kept.{AllPairs-from_increasing}
use Rattle.std.proofs.lemmas.Slice.Eq.{bytes_eq-Decides}
use Rattle.dv_model.specs.declared.types.Body.TheVariants.{FlagUpdate}
use Rattle.dv_model.specs.declared.types.Change.{Change}
use Rattle.dv_model.specs.declared.types.Mailbox.{Mailbox}
use Rattle.dv_model.specs.declared.types.Row.{Row}
use Rattle.dv_model.specs.Effects.{after_record, is_as_before, stamped, stamped_row, with_bits, with_change, with_higher}
use Rattle.dv_model.specs.Mailboxes.{IsRowOf, IsValid}
use Rattle.dv_validity.proofs.Rows.{map_map}
use Rattle.dv_validity.specs.Laws.{changed_flags, restamped}

-- ---- one row for a UID

abbrev pub AreRising : List Row → Type 0
AreRising rows = IsStrictlyIncreasing (map (λ row. row.uid) rows)

rising_pairs : (rows : List Row) → AreRising rows → AllPairs (λ a b. a.uid < b.uid) rows
rising_pairs rows rising i j d less h =
    let uid : Row → ℕ = λ row. row.uid in
    let pairs : AllPairs (λ x y. x < y) (map uid rows) = AllPairs-from_increasing (map uid rows) rising in
    let many : length (map uid rows) ≡ length rows = length-map rows uid in
    let first : get_or (map uid rows) i (uid d) ≡ uid (get_or rows i d) = get_or-map uid rows i d (uid d) (omega arith) in
    let second : get_or (map uid rows) j (uid d) ≡ uid (get_or rows j d) = get_or-map uid rows j d (uid d) h in
    let step : get_or (map uid rows) i (uid d) < get_or (map uid rows) j (uid d) = pairs i j (uid d) less (omega arith) in
    omega arith

one_by : (rows : List Row) → AreRising rows → (i j : ℕ) (d : Row) → i < length rows → j < length rows → (get_or rows i d).uid ≡ (get_or rows j d).uid → (i < j) ⊎ (j ≤ i) → (j < i) ⊎ (i ≤ j) → i ≡ j
one_by rows rising i j d p q same (inl less) other = let step = rising_pairs rows rising i j d less q in absurd (omega arith)
one_by rows rising i j d p q same (inr le) (inl less) = let step = rising_pairs rows rising j i d less p in absurd (omega arith)
one_by rows rising i j d p q same (inr le) (inr ge) = omega arith

-- the places of two rows with one UID are one
place_is_one : (rows : List Row) → AreRising rows → (i j : ℕ) (d : Row) → i < length rows → j < length rows → (get_or rows i d).uid ≡ (get_or rows j d).uid → i ≡ j
place_is_one rows rising i j d p q same = one_by rows rising i j d p q same (cases_lt i j) (cases_lt j i)

pub row_is_one : (rows : List Row) → AreRising rows → (a b : Row) → Contains rows a → Contains rows b → a.uid ≡ b.uid → a ≡ b
row_is_one rows rising a b (i, p, at_a) (j, q, at_b) same =
    let first : get_or rows i b ≡ a = get_or_default rows i b a p ∙ at_a in
    let uids : (get_or rows i b).uid ≡ (get_or rows j b).uid = ap (λ (row : Row). row.uid) first ∙ same ∙ ap (λ (row : Row). row.uid) (sym at_b) in
    let place : i ≡ j = place_is_one rows rising i j b p q uids in
    sym first ∙ ap (λ k. get_or rows k b) place ∙ at_b

-- ---- the comparison

bytes_eq_self : (xs : List ℕ) → bytes_eq xs xs ≡ true
bytes_eq_self xs = (bytes_eq-Decides xs xs).1 refl

pub as_before_itself : (row : Row) → is_as_before row row ≡ true
as_before_itself row =
    and_from (nat_eq row.uid row.uid && nat_eq (row.flags % 32) (row.flags % 32)) (bytes_eq row.keywords row.keywords)
    (and_from (nat_eq row.uid row.uid) (nat_eq (row.flags % 32) (row.flags % 32)) (eq-eqb row.uid row.uid refl) (eq-eqb (row.flags % 32) (row.flags % 32) refl))
    (bytes_eq_self row.keywords)

pub as_before_uid : (row old : Row) → is_as_before row old ≡ true → row.uid ≡ old.uid
as_before_uid row old e =
    let parts = and_parts (nat_eq row.uid old.uid && nat_eq (row.flags % 32) (old.flags % 32)) (bytes_eq row.keywords old.keywords) e in
    let numbers = and_parts (nat_eq row.uid old.uid) (nat_eq (row.flags % 32) (old.flags % 32)) parts.0 in
    eqb-true row.uid old.uid numbers.0

pub other_uid : (row old : Row) → row.uid ≢ old.uid → is_as_before row old ≡ false
other_uid row old other =
    and_left (nat_eq row.uid old.uid && nat_eq (row.flags % 32) (old.flags % 32)) (bytes_eq row.keywords old.keywords)
    (and_left (nat_eq row.uid old.uid) (nat_eq (row.flags % 32) (old.flags % 32)) (ne_eqb row.uid old.uid other))

any_contained : (p : Row → Bool) (rows : List Row) (old : Row) → Contains rows old → p old ≡ true → list_any p rows ≡ true
any_contained p rows old (k, h, at) passes = list_any_at p rows k old h (ap p at ∙ passes)

-- none of the others is as the row is
none_before : (rows : List Row) → AreRising rows → (old row : Row) → Contains rows old → row.uid ≡ old.uid → is_as_before row old ≡ false → list_any (is_as_before row) rows ≡ false
none_before rows rising old row in' same differs =
    list_any_none (is_as_before row) rows
    (All-weaker (Contains rows) (λ x. is_as_before row x ≡ false)
    (λ x inside. false_from_ne_true (is_as_before row x) (λ passes.
    let one : x ≡ old = row_is_one rows rising x old inside in' (sym (as_before_uid row x passes) ∙ same) in
    let here : is_as_before row old ≡ true = ap (is_as_before row) (sym one) ∙ passes in
    absurd cc))
    rows (All-contains_itself rows))

alone_by : (rows : List Row) → AreRising rows → (old row : Row) → Contains rows old → row.uid ≡ old.uid → (b : Bool) → is_as_before row old ≡ b → list_any (is_as_before row) rows ≡ is_as_before row old
alone_by rows rising old row in' same true e = any_contained (is_as_before row) rows old in' e ∙ sym e
alone_by rows rising old row in' same false e = none_before rows rising old row in' same e ∙ sym e

pub stamped_alone : (rows : List Row) → AreRising rows → (n : ℕ) (old row : Row) → Contains rows old → row.uid ≡ old.uid → stamped_row rows n row ≡ restamped n old row
stamped_alone rows rising n old row in' same =
    ap (λ (b : Bool). cond b row (record row { modseq = n })) (alone_by rows rising old row in' same (is_as_before row old) refl)

-- a row that was there stays as it is
pub stamped_there : (rows : List Row) (n : ℕ) (row : Row) → Contains rows row → stamped_row rows n row ≡ row
stamped_there rows n row in' = ap (λ (b : Bool). cond b row (record row { modseq = n })) (any_contained (is_as_before row) rows row in' (as_before_itself row))

-- a row whose UID none had has the record's number
pub stamped_new : (rows : List Row) (n : ℕ) (row : Row) → All (λ old. row.uid ≢ old.uid) rows → stamped_row rows n row ≡ record row { modseq = n }
stamped_new rows n row others =
    ap (λ (b : Bool). cond b row (record row { modseq = n }))
    (list_any_none (is_as_before row) rows (All-weaker (λ (old : Row). row.uid ≢ old.uid) (λ old. is_as_before row old ≡ false) (λ old other. other_uid row old other) rows others))

-- ---- the rows

map_same_each : {X Y : Type 0} (f g : X → Y) (xs : List X) → All (λ x. f x ≡ g x) xs → map f xs ≡ map g xs
map_same_each f g [] same = refl
map_same_each f g (x ∷ xs) same =
    ap (λ y. y ∷ map f xs) (All-head (λ x. f x ≡ g x) x xs same) ∙ ap (λ ys. g x ∷ ys) (map_same_each f g xs (All-tail (λ x. f x ≡ g x) x xs same))

pub stamped_rows : (m n : Mailbox) (change : Row → Row) → IsValid m → ((row : Row) → (change row).uid ≡ row.uid) → n.rows ≡ map change m.rows
    → stamped m.rows n ≡ record n { rows = map (λ row. restamped n.highest row (change row)) m.rows }
stamped_rows m n change valid same rows =
    ap (λ (new : List Row). record n { rows = new })
    (ap (map (stamped_row m.rows n.highest)) rows
    ∙ map_map (stamped_row m.rows n.highest) change m.rows
    ∙ map_same_each (λ row. stamped_row m.rows n.highest (change row)) (λ row. restamped n.highest row (change row)) m.rows
    (All-weaker (Contains m.rows) (λ row. stamped_row m.rows n.highest (change row) ≡ restamped n.highest row (change row))
    (λ row in'. stamped_alone m.rows valid.rising n.highest row (change row) in' (same row)) m.rows (All-contains_itself m.rows)))

pub stamped_alike : (m n : Mailbox) (change : Row → Row) → ((row : Row) → is_as_before (change row) row ≡ true) → n.rows ≡ map change m.rows → stamped m.rows n ≡ n
stamped_alike m n change alike rows =
    ap (λ (new : List Row). record n { rows = new })
    (map_fixed (stamped_row m.rows n.highest) n.rows
    (subst (All (λ row. stamped_row m.rows n.highest row ≡ row)) (sym rows)
    (All-map (λ row. stamped_row m.rows n.highest row ≡ row) change m.rows
    (All-weaker (Contains m.rows) (λ row. stamped_row m.rows n.highest (change row) ≡ change row)
    (λ row in'. ap (λ (b : Bool). cond b (change row) (record (change row) { modseq = n.highest })) (any_contained (is_as_before (change row)) m.rows row in' (alike row)))
    m.rows (All-contains_itself m.rows)))))

pub stamped_without : (m n : Mailbox) (test : Row → Bool) → n.rows ≡ filter test m.rows → stamped m.rows n ≡ n
stamped_without m n test rows =
    ap (λ (new : List Row). record n { rows = new })
    (map_fixed (stamped_row m.rows n.highest) n.rows
    (subst (All (λ row. stamped_row m.rows n.highest row ≡ row)) (sym rows)
    (All-weaker (Contains m.rows) (λ row. stamped_row m.rows n.highest row ≡ row) (λ row in'. stamped_there m.rows n.highest row in') (filter test m.rows)
    (All-filter test (Contains m.rows) m.rows (All-contains_itself m.rows)))))

pub stamped_with_more : (m n : Mailbox) (more : List Row) → IsValid m → All (λ row. m.next_uid ≤ row.uid) more → n.rows ≡ m.rows ++ more
    → stamped m.rows n ≡ record n { rows = m.rows ++ map (λ (row : Row). record row { modseq = n.highest }) more }
stamped_with_more m n more valid new rows =
    let stamp : Row → Row = stamped_row m.rows n.highest in
    let old : map stamp m.rows ≡ m.rows =
    map_fixed stamp m.rows (All-weaker (Contains m.rows) (λ row. stamped_row m.rows n.highest row ≡ row) (λ row in'. stamped_there m.rows n.highest row in') m.rows (All-contains_itself m.rows)) in
    let below : All (λ (row : Row). row.uid < m.next_uid) m.rows = All-weaker (IsRowOf m) (λ (row : Row). row.uid < m.next_uid) (λ row is. is.uid.1) m.rows valid.rows in
    let added : map stamp more ≡ map (λ (row : Row). record row { modseq = n.highest }) more =
    map_same_each stamp (λ (row : Row). record row { modseq = n.highest }) more
    (All-weaker (λ (row : Row). m.next_uid ≤ row.uid) (λ row. stamped_row m.rows n.highest row ≡ record row { modseq = n.highest })
    (λ row high. stamped_new m.rows n.highest row (All-weaker (λ (old : Row). old.uid < m.next_uid) (λ (old : Row). row.uid ≢ old.uid) (λ old low e. omega arith) m.rows below)) more new) in
    ap (λ (new : List Row). record n { rows = new })
    (ap (map stamp) rows ∙ map-append stamp m.rows more ∙ ap (λ rs. rs ++ map stamp more) old ∙ ap (λ rs. m.rows ++ rs) added)

-- ---- flags

flags_uid_by : (change : Change) (row : Row) (b : Bool) → (cond b (record row { flags = with_bits change.add change.remove row.flags }) row).uid ≡ row.uid
flags_uid_by change row true = refl
flags_uid_by change row false = refl

flags_uid : (changes : List Change) (row : Row) → (fold changed_flags row changes).uid ≡ row.uid
flags_uid [] row = refl
flags_uid (change ∷ changes) row = flags_uid changes (changed_flags row change) ∙ flags_uid_by change row (nat_le change.first row.uid && nat_le row.uid change.last)

-- changes in turn are one change of each row
flags_in_turn : (m : Mailbox) (changes : List Change) → fold with_change m changes ≡ record m { rows = map (λ row. fold changed_flags row changes) m.rows }
flags_in_turn m [] = ap (λ (rows : List Row). record m { rows = rows }) (sym (map-id m.rows))
flags_in_turn m (change ∷ changes) =
    flags_in_turn (with_change m change) changes
    ∙ ap (λ (rows : List Row). record m { rows = rows }) (map_map (λ row. fold changed_flags row changes) (λ row. changed_flags row change) m.rows)

pub flags_by_rows : (m : Mailbox) (top : ℕ) (changes : List Change) → IsValid m
    → after_record m (record { top = top; body = FlagUpdate changes })
    ≡ Some (record (with_higher m) { rows = map (λ row. restamped (with_higher m).highest row (fold changed_flags row changes)) m.rows })
flags_by_rows m top changes valid =
    let change : Row → Row = λ row. fold changed_flags row changes in
    let n : Mailbox = record (with_higher m) { rows = map change m.rows } in
    ap (λ k. Some (stamped m.rows k)) (flags_in_turn (with_higher m) changes) ∙ ap Some (stamped_rows m n change valid (flags_uid changes) refl)
