-- The rows of a cache file that a CHECK writes, one after another.
use Rattle.std.proofs.Common.{◌≡◌, ℕ, ◌+◌, ◌<◌, ◌≤◌, Bool, true, false, List, [], length, get_or, map, Some, refl, sym, ◌∙◌, ap, subst, arith}
use Rattle.std.specs.Prelude.{find, nat_eq, slice_get, count_by}
use Rattle.std.specs.List.{position_or_len}
use Rattle.std.specs.List.Sorted.{IsStrictlyIncreasing}
use Rattle.std.proofs.lemmas.Bool.{eq-eqb, ne_eqb}
use Rattle.std.proofs.lemmas.List.{get_or-map, length-map}
use Rattle.std.proofs.lemmas.List.Folds.{find_at}
use Rattle.std.proofs.lemmas.List.Kept.{AllPairs-from_increasing}
use Rattle.std.proofs.lemmas.List.Sums.{count_by-le-length, position_or_len_is}
use Rattle.std.proofs.lemmas.Option.{get_or_from_slice_get, slice_get_within}
use Rattle.dv_model.specs.declared.types.Mailbox.{Mailbox}
use Rattle.dv_model.specs.declared.types.Row.{Row}
use Rattle.dv_model.specs.Sessions.{has_uid}
use Rattle.dv_shelf.specs.Sees.{SeesFolder}
use Rattle.dv_chain.specs.declared.chain.Chain.{Chain}
use Rattle.dv_chain.specs.Openings.{OnlyLooks}
use Rattle.dv_responses.specs.declared.asking.Asked.{Asked}
use Rattle.dv_lookups.specs.declared.cache_file.CacheFile.{CacheFile}
use Rattle.dv_lookups.specs.declared.cache_file.CacheFile.TheVariants as cache
use Rattle.dv_lookups.specs.Checks.{row_uids}
use Rattle.dv_lookups.specs.Commands.{AskedStands, SparesEach}
use Rattle.dv_lookups.specs.Kept.{CountsUpTo, Economy, IsFileOf, IsSpared, Spares, row_of}
use Rattle.dv_lookups.specs.Lookups.{LooksUp}
use Rattle.dv_lookups.proofs.Stepping.{LooksTo, looks_all, looks_more, upto_wider}

-- ---- the row of a UID

module _ (m : Mailbox) (rising : IsStrictlyIncreasing (map (λ (row : Row). row.uid) m.rows)) where
  apart : (i j : ℕ) (d : Row) → i < j → j < length m.rows → (get_or m.rows i d).uid < (get_or m.rows j d).uid
  apart i j d less inside =
      let long : length (map (λ (r : Row). r.uid) m.rows) ≡ length m.rows = length-map m.rows (λ (r : Row). r.uid) in
      let first : get_or (map (λ (r : Row). r.uid) m.rows) i 0 ≡ (get_or m.rows i d).uid = get_or-map (λ (r : Row). r.uid) m.rows i d 0 (omega (arith, less, inside)) in
      let second : get_or (map (λ (r : Row). r.uid) m.rows) j 0 ≡ (get_or m.rows j d).uid = get_or-map (λ (r : Row). r.uid) m.rows j d 0 inside in
      let up : get_or (map (λ (r : Row). r.uid) m.rows) i 0 < get_or (map (λ (r : Row). r.uid) m.rows) j 0 = AllPairs-from_increasing (map (λ (r : Row). r.uid) m.rows) rising i j 0 less (omega (arith, long, inside)) in
      omega (arith, first, second, up)

  -- a row at its place is that of its UID
  pub row_at : (k : ℕ) (row : Row) → slice_get m.rows k ≡ Some row → row_of m row.uid ≡ Some row
  row_at k row is =
      let it : Row → Bool = λ r. nat_eq r.uid row.uid in
      let inside : k < length m.rows = slice_get_within m.rows k row is in
      let here : get_or m.rows k row ≡ row = get_or_from_slice_get m.rows k row row is in
      let same : (get_or m.rows k row).uid ≡ row.uid = ap (λ (r : Row). r.uid) here in
      let place : position_or_len it m.rows ≡ k =
      position_or_len_is it m.rows k row (omega (arith, inside))
      (λ j below. ne_eqb (get_or m.rows j row).uid row.uid (λ e. let up = apart j k row below inside in absurd (omega (arith, up, e, same))))
      (λ less. eq-eqb (get_or m.rows k row).uid row.uid same) in
      find_at it m.rows ∙ ap (slice_get m.rows) place ∙ is

-- ---- reads

-- all that can stand in the cache file
abbrev pub all_kept : Asked
all_kept = record { body = false; size = true; fields = [] }

module _ {S : Type 0} (sees : SeesFolder S) (chain : Chain) where
  abbrev rows : List Row
  rows = chain.live.mailbox.rows

  -- what the first rows leave, one after another
  abbrev pub RowsTo : ℕ → CacheFile → S → S → Type 0
  RowsTo k = LooksTo sees chain all_kept (row_uids chain.live.mailbox) k cache.Unread

  -- one row more
  pub row_added : (k : ℕ) (row : Row) (start mid now : S) (between after : CacheFile) → slice_get rows k ≡ Some row
      → RowsTo k between start mid → (sees.tells → OnlyLooks sees mid now)
      → (sees.tells → IsFileOf (sees.files mid) between → IsFileOf (sees.files mid) after)
      → Economy sees chain.live.mailbox row.uid true between after mid now
      → (sees.tells → IsFileOf (sees.files mid) between → IsSpared (sees.files mid) chain.indexid chain.live.mailbox row.uid → Spares sees between mid now)
      → RowsTo (k + 1) after start now
  row_added k row start mid now between after is so_far looks kept did spares =
      let inside : k < length rows = slice_get_within rows k row is in
      let long : length (row_uids chain.live.mailbox) ≡ length rows = length-map rows (λ (r : Row). r.uid) in
      let uid : get_or (row_uids chain.live.mailbox) k 0 ≡ row.uid = get_or-map (λ (r : Row). r.uid) rows k row 0 inside ∙ ap (λ (r : Row). r.uid) (get_or_from_slice_get rows k row row is) in
      looks_more sees chain all_kept (row_uids chain.live.mailbox) k (omega (arith, inside, long)) start mid now cache.Unread between after
      row.uid (sym uid) so_far looks kept did (λ told of can. spares told of)

  module _ (k : ℕ) (file : CacheFile) (start now : S) (so_far : RowsTo k file start now) where
    all_looked : LooksUp sees chain (AskedStands all_kept) (row_uids chain.live.mailbox) cache.Unread file start now
    all_looked = looks_all sees chain all_kept (row_uids chain.live.mailbox) k cache.Unread file start now so_far

    -- none of a row that is there
    pub spared_rows : sees.tells → SparesEach (sees.files start) chain.indexid chain.live.mailbox (row_uids chain.live.mailbox) (sees.mail_reads start) (sees.mail_reads now)
    spared_rows told = all_looked.spares told tt refl

    -- one of each row at most
    pub most_rows : CountsUpTo (length rows) (sees.mail_reads start) (sees.mail_reads now)
    most_rows =
        let has = has_uid chain.live.mailbox in
        let uids = row_uids chain.live.mailbox in
        upto_wider (count_by has uids) (length rows) (sees.mail_reads start) (sees.mail_reads now) (subst (λ (n : ℕ). count_by has uids ≤ n) (length-map rows (λ (r : Row). r.uid)) (count_by-le-length has uids)) all_looked.most
