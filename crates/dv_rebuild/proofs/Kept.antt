-- The records of a rebuilt log give the kept messages.
use Rattle.std.proofs.Common.{◌≡◌, ℕ, zero, suc, ◌+◌, ◌-◌, ◌*◌, ◌/◌, ◌^◌, ◌<◌, ◌≤◌, max, true, false, Bool, List, [], ◌∷◌, ◌++◌, length, map, take, drop, Option, Some, None, refl, sym, ◌∙◌, ap, subst, arith, append_assoc}
use Rattle.std.specs.Prelude.{if◌then◌else◌, option_and_then, option_map, fold, flat_map, filter}
use Rattle.std.specs.List.{enumerate_from, list_any}
use Rattle.std.specs.List.Sorted.{IsStrictlyIncreasing}
use Rattle.std.specs.Int.{w32, to_le_bytes, from_le_bytes}
use Rattle.std.proofs.lemmas.Bool.{le-ltb}
use Rattle.std.proofs.lemmas.List.{append-nil, take-append-drop, length-drop}
use Rattle.std.proofs.lemmas.Nat.{from_le_bytes-to_le_bytes_4}
use Rattle.dv_model.specs.declared.types.Body.TheVariants as body
use Rattle.dv_model.specs.declared.types.How.TheVariants.{Add}
use Rattle.dv_model.specs.declared.types.Mailbox.{Mailbox}
use Rattle.dv_model.specs.declared.types.NewRow.{NewRow}
use Rattle.dv_model.specs.declared.types.Pair.{Pair}
use Rattle.dv_model.specs.declared.types.Record.{Record}
use Rattle.dv_model.specs.declared.types.Row.{Row}
use Rattle.dv_model.specs.Effects.{after_record, applied, fresh_row, is_as_before, is_in_pairs, keywords_after, place_of, stamped, stamped_row, with_higher, with_keyword, with_keywords, with_named, with_row, with_rows}
use Rattle.dv_model.proofs.Clients.{rising_tail}
use Rattle.dv_model.proofs.Transcripts.{applied_append}
use Rattle.dv_model.specs.Sessions.{external_record, first_pieces, piece_size, pieces, ranges_of}
use Rattle.dv_openings.specs.Salvages.{Salvaged, has_keyword, header_record, keyword_records, kept_row, rebuilt_records}

-- ---- UIDs and flags

abbrev pub head_of : Row → NewRow
head_of row = record { uid = row.uid; flags = row.flags }

abbrev pub heads : List Row → List NewRow
heads rows = map head_of rows

stamped_head : (b : Bool) (row : Row) (n : ℕ) → head_of (if b then row else record row { modseq = n }) ≡ head_of row
stamped_head true row n = refl
stamped_head false row n = refl

stamped_heads : (before : List Row) (n : ℕ) (rows : List Row) → heads (map (stamped_row before n) rows) ≡ heads rows
stamped_heads before n [] = refl
stamped_heads before n (row ∷ rows) =
    ap (λ (h : NewRow). h ∷ heads (map (stamped_row before n) rows)) (stamped_head (list_any (is_as_before row) before) row n)
    ∙ ap (λ (hs : List NewRow). head_of row ∷ hs) (stamped_heads before n rows)

-- the UIDNEXT behind appended rows
abbrev pub next_behind : ℕ → List NewRow → ℕ
next_behind next rows = fold (λ next row. max next (row.uid + 1)) next rows

-- a mailbox has more rows at its end, and else what it had
pub record Grows (m n : Mailbox) (rows : List NewRow) : Type 0 where
  pub rows_are : heads n.rows ≡ heads m.rows ++ rows
  pub validity : n.uid_validity ≡ m.uid_validity
  pub next : n.next_uid ≡ next_behind m.next_uid rows

-- it has so after these records
pub record Appends (m : Mailbox) (rs : List Record) (rows : List NewRow) : Type 0 where
  pub after : Mailbox
  pub is : applied m rs ≡ Some after
  pub grows : Grows m after rows

-- ---- rows with rising UIDs

abbrev pub Rise : ℕ → List NewRow → Type 0
Rise next [] = Unit {0}
Rise next (row ∷ rows) = (next ≤ row.uid) × Rise (row.uid + 1) rows

pub record With (m : Mailbox) (rows : List NewRow) : Type 0 where
  pub after : Mailbox
  pub is : with_rows m rows ≡ Some after
  pub grows : Grows m after rows

heads_push : (rows : List Row) (row : Row) → heads (rows ++ row ∷ []) ≡ heads rows ++ head_of row ∷ []
heads_push [] row = refl
heads_push (first ∷ rows) row = ap (λ (hs : List NewRow). head_of first ∷ hs) (heads_push rows row)

with_rows_rise : (m : Mailbox) (rows : List NewRow) → Rise m.next_uid rows → With m rows
with_rows_rise m [] rise = record { after = m; is = refl; grows = record { rows_are = sym (append-nil (heads m.rows)); validity = refl; next = refl } }
with_rows_rise m (row ∷ rows) rise =
    let more = with_rows_rise (with_row m row) rows rise.1 in
    let taken : with_rows m (row ∷ rows) ≡ with_rows (with_row m row) rows =
    ap (λ (b : Bool). if b then None else with_rows (with_row m row) rows) (le-ltb row.uid m.next_uid rise.0) in
    let top : max m.next_uid (row.uid + 1) ≡ row.uid + 1 = omega (arith, rise.0) in
    record {
      after = more.after;
      is = taken ∙ more.is;
      grows = record {
        rows_are = more.grows.rows_are ∙ ap (λ (hs : List NewRow). hs ++ rows) (heads_push m.rows (fresh_row m row)) ∙ append_assoc (heads m.rows) (row ∷ []) rows;
        validity = more.grows.validity;
        next = more.grows.next ∙ ap (λ (k : ℕ). next_behind k rows) (sym top);
      };
    }

-- ---- one record

-- the UIDs, flags and numbers are a mailbox's
pub record Has (m : Mailbox) (rows : List NewRow) (validity next : ℕ) : Type 0 where
  pub rows_are : heads m.rows ≡ rows
  pub validity_is : m.uid_validity ≡ validity
  pub next_is : m.next_uid ≡ next

-- an append of rows
abbrev pub append_of : List NewRow → Record
append_of rows = external_record (body.Append rows)

one_after : (m n : Mailbox) (r : Record) → after_record m r ≡ Some n → applied m (r ∷ []) ≡ Some n
one_after m n r is = ap (option_and_then (λ k. applied k [])) is

then_after : (m mid n : Mailbox) (r : Record) (rs : List Record) → after_record m r ≡ Some mid → applied mid rs ≡ Some n → applied m (r ∷ rs) ≡ Some n
then_after m mid n r rs is more = ap (option_and_then (λ k. applied k rs)) is ∙ more

pub record After (m : Mailbox) (r : Record) (rows : List NewRow) : Type 0 where
  pub after : Mailbox
  pub is : after_record m r ≡ Some after
  pub grows : Grows m after rows

append_after : (m : Mailbox) (rows : List NewRow) → Rise m.next_uid rows → After m (append_of rows) rows
append_after m rows rise =
    let more = with_rows_rise (with_higher m) rows rise in
    record {
      after = stamped m.rows more.after;
      is = ap (option_map (stamped m.rows)) more.is;
      grows = record {
        rows_are = stamped_heads m.rows more.after.highest more.after.rows ∙ more.grows.rows_are;
        validity = more.grows.validity;
        next = more.grows.next;
      };
    }

-- ---- records that leave UIDs, flags and numbers as they are

abbrev Quiet : Record → Type 0
Quiet r = (m : Mailbox) → After m r []

abbrev AllQuiet : List Record → Type 0
AllQuiet [] = Unit {0}
AllQuiet (r ∷ rs) = Quiet r × AllQuiet rs

changed_head : (b : Bool) (change : List ℕ → List ℕ) (row : Row) → head_of (if b then record row { keywords = change row.keywords } else row) ≡ head_of row
changed_head true change row = refl
changed_head false change row = refl

abbrev changed_row : List Pair → (List ℕ → List ℕ) → Row → Row
changed_row pairs change row = if is_in_pairs pairs row.uid then record row { keywords = change row.keywords } else row

changed_heads : (pairs : List Pair) (change : List ℕ → List ℕ) (rows : List Row) → heads (map (changed_row pairs change) rows) ≡ heads rows
changed_heads pairs change [] = refl
changed_heads pairs change (row ∷ rows) =
    ap (λ (h : NewRow). h ∷ heads (map (changed_row pairs change) rows)) (changed_head (is_in_pairs pairs row.uid) change row)
    ∙ ap (λ (hs : List NewRow). head_of row ∷ hs) (changed_heads pairs change rows)

same_grows : (m n : Mailbox) → heads n.rows ≡ heads m.rows → n.uid_validity ≡ m.uid_validity → n.next_uid ≡ m.next_uid → Grows m n []
same_grows m n rows validity next = record { rows_are = rows ∙ sym (append-nil (heads m.rows)); validity = validity; next = next }

keyword_quiet : (name : List ℕ) (pairs : List Pair) → Quiet (external_record (body.KeywordUpdate Add name pairs))
keyword_quiet name pairs m =
    let named : Mailbox = with_named Add name (with_higher m) in
    let changed : Mailbox = with_keyword Add name pairs named in
    let same : Grows m changed [] = by_place (place_of named.keywords name) in
    record {
      after = stamped m.rows changed;
      is = refl;
      grows = record { rows_are = stamped_heads m.rows changed.highest changed.rows ∙ same.rows_are; validity = same.validity; next = same.next };
    }
  where
    by_place : (place : Option ℕ) → Grows m (elim place [ None ↦ with_named Add name (with_higher m) | Some k ↦ with_keywords pairs (keywords_after Add k) (with_named Add name (with_higher m)) ]) []
    by_place None = same_grows m (with_named Add name (with_higher m)) refl refl refl
    by_place (Some k) = same_grows m (with_keywords pairs (keywords_after Add k) (with_named Add name (with_higher m))) (changed_heads pairs (keywords_after Add k) m.rows) refl refl

quiet_append : (rs more : List Record) → AllQuiet rs → AllQuiet more → AllQuiet (rs ++ more)
quiet_append [] more one other = other
quiet_append (r ∷ rs) more one other = (one.0, quiet_append rs more one.1 other)

quiet_updates : (name : List ℕ) (ps : List (List Pair)) → AllQuiet (map (λ pairs. external_record (body.KeywordUpdate Add name pairs)) ps)
quiet_updates name [] = tt
quiet_updates name (pairs ∷ ps) = (keyword_quiet name pairs, quiet_updates name ps)

pub quiet_keywords : (m : Mailbox) (kept : List ℕ) (names : List (ℕ × List ℕ)) → AllQuiet (flat_map (keyword_records m kept) names)
quiet_keywords m kept [] = tt
quiet_keywords m kept (keyword ∷ names) =
    quiet_append (keyword_records m kept keyword) (flat_map (keyword_records m kept) names)
    (quiet_updates keyword.1 (pieces (ranges_of (filter (has_keyword m keyword.0) kept)))) (quiet_keywords m kept names)

all_quiet : (m : Mailbox) (rs : List Record) → AllQuiet rs → Appends m rs []
all_quiet m [] quiet = record { after = m; is = refl; grows = same_grows m m refl refl refl }
all_quiet m (r ∷ rs) quiet =
    let first = quiet.0 m in
    let more = all_quiet first.after rs quiet.1 in
    record {
      after = more.after;
      is = then_after m first.after more.after r rs first.is more.is;
      grows = same_grows m more.after
          (more.grows.rows_are ∙ append-nil (heads first.after.rows) ∙ first.grows.rows_are ∙ append-nil (heads m.rows))
          (more.grows.validity ∙ first.grows.validity) (more.grows.next ∙ first.grows.next);
    }

-- ---- appends in pieces

rise_front : (next n : ℕ) (rows : List NewRow) → Rise next rows → Rise next (take n rows)
rise_front next zero rows rise = tt
rise_front next (suc n) [] rise = tt
rise_front next (suc n) (row ∷ rows) rise = (rise.0, rise_front (row.uid + 1) n rows rise.1)

rise_behind : (next n : ℕ) (rows : List NewRow) → Rise next rows → Rise (next_behind next (take n rows)) (drop n rows)
rise_behind next zero rows rise = rise
rise_behind next (suc n) [] rise = tt
rise_behind next (suc n) (row ∷ rows) rise =
    let top : max next (row.uid + 1) ≡ row.uid + 1 = omega (arith, rise.0) in
    subst (λ (k : ℕ). Rise (next_behind k (take n rows)) (drop n rows)) (sym top) (rise_behind (row.uid + 1) n rows rise.1)

next_append : (next : ℕ) (rows more : List NewRow) → next_behind (next_behind next rows) more ≡ next_behind next (rows ++ more)
next_append next [] more = refl
next_append next (row ∷ rows) more = next_append (max next (row.uid + 1)) rows more

none_long : (rows : List NewRow) → length rows ≡ 0 → rows ≡ []
none_long [] is = refl
none_long (row ∷ rows) is = absurd (omega (arith, is))

pub appended_pieces : (k : ℕ) (m : Mailbox) (rows : List NewRow) → length rows ≤ k * piece_size → Rise m.next_uid rows → Appends m (map append_of (first_pieces k rows)) rows
appended_pieces zero m rows few rise =
    rw (none_long rows (omega (arith, few))) (record { after = m; is = refl; grows = same_grows m m refl refl refl })
appended_pieces (suc k) m rows few rise =
    let first = append_after m (take piece_size rows) (rise_front m.next_uid piece_size rows rise) in
    let left = drop piece_size rows in
    let rises : Rise first.after.next_uid left = subst (λ (n : ℕ). Rise n left) (sym first.grows.next) (rise_behind m.next_uid piece_size rows rise) in
    let more = appended_pieces k first.after left (omega (arith, few, length-drop piece_size rows)) rises in
    let all : take piece_size rows ++ left ≡ rows = take-append-drop piece_size rows in
    record {
      after = more.after;
      is = then_after m first.after more.after (append_of (take piece_size rows)) (map append_of (first_pieces k left)) first.is more.is;
      grows = record {
        rows_are = more.grows.rows_are ∙ ap (λ (hs : List NewRow). hs ++ left) first.grows.rows_are ∙ append_assoc (heads m.rows) (take piece_size rows) left ∙ ap (λ (hs : List NewRow). heads m.rows ++ hs) all;
        validity = more.grows.validity ∙ first.grows.validity;
        next = more.grows.next ∙ ap (λ (n : ℕ). next_behind n left) first.grows.next ∙ next_append m.next_uid (take piece_size rows) left ∙ ap (next_behind m.next_uid) all;
      };
    }

-- ---- header updates

pub validity_after : (m : Mailbox) (v : ℕ) → v < 2 ^ 32 → (n : Mailbox) × (after_record m (header_record 24 v) ≡ Some n) × Has n (heads m.rows) v m.next_uid
validity_after m v small =
    let is : Some (stamped m.rows (record (with_higher m) { uid_validity = from_le_bytes w32 (to_le_bytes w32 v) })) ≡ Some (stamped m.rows (record (with_higher m) { uid_validity = v })) =
    ap (λ (k : ℕ). Some (stamped m.rows (record (with_higher m) { uid_validity = k }))) (from_le_bytes-to_le_bytes_4 v small) in (
      stamped m.rows (record (with_higher m) { uid_validity = v }),
      is,
      record { rows_are = stamped_heads m.rows (with_higher m).highest m.rows; validity_is = refl; next_is = refl },
    )

pub next_after : (m : Mailbox) (k : ℕ) → k < 2 ^ 32 → (n : Mailbox) × (after_record m (header_record 28 k) ≡ Some n) × Has n (heads m.rows) m.uid_validity (max m.next_uid k)
next_after m k small =
    let is : Some (stamped m.rows (record (with_higher m) { next_uid = max m.next_uid (from_le_bytes w32 (to_le_bytes w32 k)) })) ≡ Some (stamped m.rows (record (with_higher m) { next_uid = max m.next_uid k })) =
    ap (λ (j : ℕ). Some (stamped m.rows (record (with_higher m) { next_uid = max m.next_uid j }))) (from_le_bytes-to_le_bytes_4 k small) in (
      stamped m.rows (record (with_higher m) { next_uid = max m.next_uid k }),
      is,
      record { rows_are = stamped_heads m.rows (with_higher m).highest m.rows; validity_is = refl; next_is = refl },
    )

-- ---- all records

abbrev pub Uids : List ℕ → Type 0
Uids [] = Unit {0}
Uids (n ∷ ns) = ((1 ≤ n) × (n ≤ 4294967294)) × Uids ns

rise_behind_uid : (m : Mailbox) (n : ℕ) (ns : List ℕ) → IsStrictlyIncreasing (n ∷ ns) → Rise (n + 1) (map (kept_row m) ns)
rise_behind_uid m n [] up = tt
rise_behind_uid m n (k ∷ ns) up =
    let step = up 0 (omega arith) in (omega (arith, step), rise_behind_uid m k ns (rising_tail n (k ∷ ns) up))

pub kept_rise : (m : Mailbox) (kept : List ℕ) → IsStrictlyIncreasing kept → Uids kept → Rise 1 (map (kept_row m) kept)
kept_rise m [] up are = tt
kept_rise m (n ∷ ns) up are = (are.0.0, rise_behind_uid m n ns up)

abbrev pub next_of : ℕ → List ℕ → ℕ
next_of next kept = fold (λ next uid. max next (uid + 1)) next kept

rows_below : (m : Mailbox) (kept : List ℕ) (a b : ℕ) → a ≤ b → next_behind a (map (kept_row m) kept) ≤ next_of b kept
rows_below m [] a b le = le
rows_below m (n ∷ ns) a b le = rows_below m ns (max a (n + 1)) (max b (n + 1)) (omega (arith, le))

pub next_small : (kept : List ℕ) (b : ℕ) → b < 2 ^ 32 → Uids kept → next_of b kept < 2 ^ 32
next_small [] b small are = small
next_small (n ∷ ns) b small are = next_small ns (max b (n + 1)) (omega (arith, small, are.0.1)) are.1

all_after : (m mid n : Mailbox) (rs more : List Record) → applied m rs ≡ Some mid → applied mid more ≡ Some n → applied m (rs ++ more) ≡ Some n
all_after m mid n rs more one other = applied_append rs more m ∙ ap (option_and_then (λ k. applied k more)) one ∙ other

no_more : (hs : List NewRow) → hs ++ [] ≡ hs
no_more hs = append-nil hs

module _ (s : Salvaged) (kept : List ℕ) (n : ℕ) (m : Mailbox) where
  abbrev validity : ℕ
  validity = if s.given then s.mailbox.uid_validity else n

  abbrev rows : List NewRow
  rows = map (kept_row s.mailbox) kept

  pub record Gives : Type 0 where
    pub after : Mailbox
    pub is : applied m (rebuilt_records s kept n) ≡ Some after
    pub has : Has after rows validity (next_of s.mailbox.next_uid kept)

  pub records_give : m.rows ≡ [] → m.next_uid ≡ 1 → 1 ≤ s.mailbox.next_uid → IsStrictlyIncreasing kept → Uids kept → validity < 2 ^ 32 → s.mailbox.next_uid < 2 ^ 32 → Gives
  records_give none one some up are small below =
      let next = next_of s.mailbox.next_uid kept in
      let names = enumerate_from 0 s.mailbox.keywords in
      let first = validity_after m validity small in
      let start : first.0.next_uid ≡ 1 = first.2.next_is ∙ one in
      let appends : Appends first.0 (map append_of (pieces rows)) rows =
      appended_pieces ((length rows + (piece_size - 1)) / piece_size) first.0 rows (omega arith) (subst (λ (k : ℕ). Rise k rows) (sym start) (kept_rise s.mailbox kept up are)) in
      let keywords = all_quiet appends.after (flat_map (keyword_records s.mailbox kept) names) (quiet_keywords s.mailbox kept names) in
      let last = next_after keywords.after next (next_small kept s.mailbox.next_uid below are) in
      let behind : applied keywords.after (header_record 28 next ∷ []) ≡ Some last.0 = one_after keywords.after last.0 (header_record 28 next) last.1 in
      let others = all_after first.0 appends.after keywords.after (map append_of (pieces rows)) (flat_map (keyword_records s.mailbox kept) names) appends.is keywords.is in
      let added = all_after first.0 keywords.after last.0 (map append_of (pieces rows) ++ flat_map (keyword_records s.mailbox kept) names) (header_record 28 next ∷ []) others behind in
      let told : keywords.after.next_uid ≡ next_behind 1 rows = keywords.grows.next ∙ appends.grows.next ∙ ap (λ (k : ℕ). next_behind k rows) start in
      let least = rows_below s.mailbox kept 1 s.mailbox.next_uid some in
      record {
        after = last.0;
        is = then_after m first.0 last.0 (header_record 24 validity) (map append_of (pieces rows) ++ flat_map (keyword_records s.mailbox kept) names ++ header_record 28 next ∷ []) first.1 added;
        has = record {
          rows_are =
              last.2.rows_are ∙ keywords.grows.rows_are ∙ append-nil (heads appends.after.rows) ∙ appends.grows.rows_are
              ∙ ap (λ (hs : List NewRow). hs ++ rows) (first.2.rows_are ∙ ap heads none);
          validity_is = last.2.validity_is ∙ keywords.grows.validity ∙ appends.grows.validity ∙ first.2.validity_is;
          next_is = last.2.next_is ∙ ap (λ (k : ℕ). max k next) told ∙ omega (arith, least);
        };
      }
