-- The length of a group is a number of 64 bits.
use Rattle.std.proofs.Common.{ℕ, ◌+◌, ◌-◌, ◌*◌, ◌/◌, ◌^◌, ◌<◌, ◌≤◌, Bool, true, false, cond, List, [], ◌∷◌, length, map, take, nat_eq, arith, length-take}
use Rattle.std.specs.Prelude.{All, filter}
use Rattle.std.proofs.Math.Nat.{mul-le-mul}
use Rattle.std.proofs.lemmas.List.{length-map}
use Rattle.std.proofs.lemmas.List.Elements.{All-weaker}
use Rattle.std.proofs.lemmas.List.FromFn.{length-enumerate_from}
use Rattle.std.proofs.lemmas.List.Sums.{count_by-le-length, length-filter, sum_by-le}
use Rattle.dv_model.specs.declared.types.Command.TheVariants as command
use Rattle.dv_model.specs.declared.types.How.{How}
use Rattle.dv_model.specs.declared.types.How.TheVariants as how
use Rattle.dv_model.specs.declared.types.Mailbox.{Mailbox}
use Rattle.dv_model.specs.declared.types.Pair.{Pair}
use Rattle.dv_model.specs.declared.types.Row.{Row}
use Rattle.dv_model.specs.declared.types.Shown.{Shown}
use Rattle.dv_model.specs.declared.types.Span.{Span}
use Rattle.dv_model.specs.Mailboxes.{IsRowOf, IsValid}
use Rattle.dv_model.specs.Names.{IsName}
use Rattle.dv_model.specs.Sessions.{deleted_uids, expunge_limit, has_row, has_uid, is_deleted, is_unchanged, ranges_of, removed_uids, stored_uids, with_uid}
use Rattle.dv_model.specs.Sets.{is_in_set, largest_uid, named, numbered}
use Rattle.dv_model.specs.Spelling.{padded}
use Rattle.dv_model.specs.Views.{View}
use Rattle.dv_rows.proofs.Rising.{few as few_rows}
use Rattle.dv_view.proofs.Moving.{rising_of_ordered}
use Rattle.dv_view.proofs.Rising.{few as few_shown}
use Rattle.dv_view.specs.Orders.{IsOrdered}
use Rattle.dv_groups.proofs.Measured.{append_records-length, check_records-length, expunges-length, store_records-length}
use Rattle.dv_groups.specs.Groups.{GroupIsShort}
use Rattle.dv_groups.specs.Lengths.{flags_length, keyword_length, keywords_length, records_length, store_length}

records_small : (head width n : ℕ) → head ≤ 300 → width ≤ 20 → n < 2 ^ 32 → records_length head width n ≤ 2 ^ 37
records_small head width n short thin few =
    let records : (n + 65535) / 65536 ≤ 65536 = omega arith in
    let heads : (8 + head) * ((n + 65535) / 65536) ≤ 308 * 65536 = mul-le-mul {n₁ = 8 + head} {m₁ = (n + 65535) / 65536} {n₂ = 308} {m₂ = 65536} (omega arith) records in
    let items : width * n ≤ 20 * 2 ^ 32 = mul-le-mul {n₁ = width} {m₁ = n} {n₂ = 20} {m₂ = 2 ^ 32} thin (omega arith) in
    omega (arith, heads, items)

keywords_small : (names : List (List ℕ)) (n : ℕ) → All IsName names → n < 2 ^ 32 → keywords_length names n ≤ length names * 2 ^ 37
keywords_small names n are few =
    sum_by-le (keyword_length n) (2 ^ 37) names
    (All-weaker IsName (λ name. keyword_length n name ≤ 2 ^ 37) (λ name is. let short = is.size.1 in records_small (padded (4 + length name)) 8 n (omega (arith, short)) (omega arith) few) names are)

flags_small : (flags n : ℕ) → n < 2 ^ 32 → flags_length flags n ≤ 2 ^ 37
flags_small flags n few = by_test (nat_eq flags 0)
  where
    by_test : (b : Bool) → cond b 0 (records_length 0 12 n) ≤ 2 ^ 37
    by_test true = omega arith
    by_test false = records_small 0 12 n (omega arith) (omega arith) few

store_small : (h : How) (flags : ℕ) (names : List (List ℕ)) (n : ℕ) → All IsName names → length names ≤ 2 ^ 26 → n < 2 ^ 32 → store_length h flags names n < 2 ^ 64 - 1
store_small how.Add flags names n are short few = omega (arith, flags_small flags n few, keywords_small names n are few)
store_small how.Remove flags names n are short few = omega (arith, flags_small flags n few, keywords_small names n are few)
store_small how.Replace flags names n are short few =
    omega (arith, records_small 0 12 n (omega arith) (omega arith) few, records_small 0 8 n (omega arith) (omega arith) few, keywords_small names n are few)

-- ---- how many messages

filter_few : {X : Type 0} (p : X → Bool) (xs : List X) → length (filter p xs) ≤ length xs
filter_few p xs = omega (arith, length-filter p xs, count_by-le-length p xs)

with_uid_few : (uid : ℕ) (pairs : List Pair) → length (with_uid uid pairs) ≤ 1 + length pairs
with_uid_few uid [] = omega arith
with_uid_few uid (pair ∷ pairs) = by_test (nat_eq (uid + 1) pair.first)
  where
    by_test : (b : Bool) → length (cond b (record { first = uid; last = pair.last } ∷ pairs) (record { first = uid; last = uid } ∷ pair ∷ pairs)) ≤ 1 + length (pair ∷ pairs)
    by_test true = omega arith
    by_test false = omega arith

ranges_few : (uids : List ℕ) → length (ranges_of uids) ≤ length uids
ranges_few [] = omega arith
ranges_few (uid ∷ uids) = omega (arith, with_uid_few uid (ranges_of uids), ranges_few uids)

named_few : (by_uid : Bool) (set : List Span) (view : View) → IsOrdered view → length (named by_uid set view) < 2 ^ 32
named_few by_uid set view ordered = by_way by_uid
  where
    all : length (numbered view) < 2 ^ 32
    all = omega (arith, length-enumerate_from 1 view.rows, few_shown view.rows (rising_of_ordered view ordered))

    by_way : (b : Bool) → length (named b set view) < 2 ^ 32
    by_way true = let few = filter_few (λ row. is_in_set (largest_uid view) set row.1.uid) (numbered view) in omega (arith, few, all)
    by_way false = let few = filter_few (λ row. is_in_set (length view.rows) set row.0) (numbered view) in omega (arith, few, all)

kept_few : (test : ℕ → Bool) (rows : List (ℕ × Shown)) → length rows < 2 ^ 32 → length (filter test (map (λ (row : ℕ × Shown). row.1.uid) rows)) < 2 ^ 32
kept_few test rows few = omega (arith, filter_few test (map (λ (row : ℕ × Shown). row.1.uid) rows), length-map rows (λ (row : ℕ × Shown). row.1.uid))

rows_few : (m : Mailbox) → IsValid m → length m.rows < 2 ^ 32
rows_few m valid =
    few_rows m.rows (record { rising = valid.rising; below = All-weaker (IsRowOf m) (λ (row : Row). row.uid < 2 ^ 32 - 1) (λ row is. let low = is.uid.1 in omega (arith, low, valid.next_uid.1)) m.rows valid.rows })

deleted_few : (m : Mailbox) → length (deleted_uids m) ≤ 100000
deleted_few m = omega (arith, length-map (take expunge_limit (filter is_deleted m.rows)) (λ (row : Row). row.uid), length-take expunge_limit (filter is_deleted m.rows))

-- ---- any command

pub group_is_short : GroupIsShort
group_is_short (command.Append flags keywords message) view m guid good short ordered valid sizes =
    let names = keywords_small keywords 1 good.1 (omega arith) in
    omega (arith, append_records-length m.next_uid flags keywords, names, short)
group_is_short (command.Store by_uid set h flags keywords since) view m guid good short ordered valid sizes =
    let uids : List ℕ = stored_uids by_uid set since view m in
    let few = kept_few (has_row m (is_unchanged since)) (named by_uid set view) (named_few by_uid set view ordered) in
    omega (arith, store_records-length h flags keywords (ranges_of uids), store_small h flags keywords (length (ranges_of uids)) good.1 short (omega (arith, ranges_few uids, few)))
group_is_short command.Expunge view m guid good short ordered valid sizes =
    let few = deleted_few m in
    omega (arith, expunges-length guid sizes (deleted_uids m), records_small 0 20 (length (deleted_uids m)) (omega arith) (omega arith) (omega (arith, few)))
group_is_short (command.UidRemove set) view m guid good short ordered valid sizes =
    let few = kept_few (has_uid m) (named true set view) (named_few true set view ordered) in
    omega (arith, expunges-length guid sizes (removed_uids set view m), records_small 0 20 (length (removed_uids set view m)) (omega arith) (omega arith) few)
group_is_short command.Check view m guid good short ordered valid sizes = omega (arith, check_records-length m, records_small 0 8 (length m.rows) (omega arith) (omega arith) (rows_few m valid))
group_is_short c view m guid good short ordered valid sizes = omega arith
