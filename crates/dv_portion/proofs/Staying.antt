-- Rows that records may not change stay as they are.
use Rattle.std.proofs.Common.{◌≡◌, ℕ, suc, ◌+◌, ◌%◌, ◌/◌, ◌≤◌, Bool, true, false, cond, not, ◌&&◌, List, [], ◌∷◌, ◌++◌, length, get_or, nat_eq, nat_le, nat_lt, Option, Some, None, refl, sym, ◌∙◌, ap, subst, arith}
use Rattle.std.proofs.lemmas.Bool.{false_from_ne_true, not-false}
use Rattle.std.specs.Prelude.{All, Contains, drop, filter, fold, map, option_and_then, option_map, take}
use Rattle.std.specs.Int.{w32, from_le_bytes}
use Rattle.std.specs.List.{list_any}
use Rattle.std.proofs.lemmas.Bool.Decides.{nat_tests}
use Rattle.std.proofs.lemmas.List.Elements.{All-contains_itself, All-filter, All-head, All-tail, All-weaker, filter-append}
use Rattle.std.proofs.lemmas.List.Folds.{list_any_at, map_fixed}
use Rattle.std.proofs.lemmas.List.{append-nil}
use Rattle.std.proofs.lemmas.Option.{option_and_then_some}
use Rattle.dv_model.specs.declared.types.Body.{Body}
use Rattle.dv_model.specs.declared.types.Body.TheVariants.{Expunge, Append, FlagUpdate, HeaderUpdate, ExtIntro, ExtReset, ExtHeaderUpdate, ExtRecordUpdate, KeywordUpdate, KeywordReset, ExpungeGuid, Carried}
use Rattle.dv_model.specs.declared.types.Change.{Change}
use Rattle.dv_model.specs.declared.types.Current.{Current}
use Rattle.dv_model.specs.declared.types.How.{How}
use Rattle.dv_model.specs.declared.types.How.TheVariants.{Add, Remove, Replace}
use Rattle.dv_model.specs.declared.types.Intro.{Intro}
use Rattle.dv_model.specs.declared.types.Mailbox.{Mailbox}
use Rattle.dv_model.specs.declared.types.NewRow.{NewRow}
use Rattle.dv_model.specs.declared.types.Pair.{Pair}
use Rattle.dv_model.specs.declared.types.Part.{Part}
use Rattle.dv_model.specs.declared.types.Record.{Record}
use Rattle.dv_model.specs.declared.types.Row.{Row}
use Rattle.dv_model.specs.Effects.{after_record, applied, effect, fresh_row, header_number, is_in_guid_rows, is_in_pairs, is_request, keywords_after, on_current, place_of, stamped, stamped_row, update_rows, update_size, with_bits, with_change, with_changed, with_header_part, with_header_parts, with_higher, with_intro, with_item, with_keyword, with_named, with_next_uid, with_reset, with_row, with_rows, with_update, with_updates, with_validity, without_uids}
use Rattle.dv_model.specs.Mailboxes.{IsValid}
use Rattle.dv_ext.proofs.Sizing.{behind_all, intros_stay, sizes_same}
use Rattle.dv_ext.specs.Sizes.{extensions_behind, leave_parts, sizes_of}
use Rattle.dv_validity.proofs.Comparisons.{stamped_there}
use Rattle.dv_validity.proofs.Records.{after_by, by_some, in_range_valid}
use Rattle.dv_validity.proofs.Rows.{fold_keeps_any}
use Rattle.dv_validity.proofs.Stamps.{higher_valid}
use Rattle.dv_validity.specs.Laws.{IsInRange}
use Rattle.dv_portion.proofs.Portioned.{effect_acts, next_by, portion_mapped, portion_valid, stamped_uid}
use Rattle.dv_portion.specs.Portions.{AllSpare, HoldsNew, Spares, is_in_updates, is_updated, may_change, portion, rest, table_of}

-- ---- tests that fail

all_off : {X : Type 0} (p : X → Bool) (xs : List X) → list_any p xs ≡ false → All (λ x. p x ≡ false) xs
all_off p xs off k d h = false_from_ne_true (p (get_or xs k d)) (λ passes. let found : list_any p xs ≡ true = list_any_at p xs k d h passes in absurd cc)

-- what names none of the rows by all, names none by one
each_off : {A : Type 0} (p : A → ℕ → Bool) (xs : List A) (rows : List Row) → All (λ row. list_any (λ a. p a row.uid) xs ≡ false) rows → All (λ a. All (λ row. p a row.uid ≡ false) rows) xs
each_off p xs rows off j a h k row g = all_off (λ x. p x (get_or rows k row).uid) xs (off k row g) j a h

-- ---- rows that stay

fixed_in_turn : {A : Type 0} (f : Mailbox → A → Mailbox) (m : Mailbox) (xs : List A) → All (λ a. f m a ≡ m) xs → fold f m xs ≡ m
fixed_in_turn f m [] each = refl
fixed_in_turn f m (x ∷ xs) each = ap (λ k. fold f k xs) (All-head (λ a. f m a ≡ m) x xs each) ∙ fixed_in_turn f m xs (All-tail (λ a. f m a ≡ m) x xs each)

unchanged : (names : ℕ → Bool) (change : Row → Row) (m : Mailbox) → All (λ row. names row.uid ≡ false) m.rows → with_changed names change m ≡ m
unchanged names change m off =
    ap (λ (rows : List Row). record m { rows = rows })
    (map_fixed (λ row. cond (names row.uid) (change row) row) m.rows
    (All-weaker (λ (row : Row). names row.uid ≡ false) (λ row. cond (names row.uid) (change row) row ≡ row) (λ row e. ap (λ (b : Bool). cond b (change row) row) e) m.rows off))

filter_all : {X : Type 0} (p : X → Bool) (xs : List X) → All (λ x. p x ≡ true) xs → filter p xs ≡ xs
filter_all p [] each = refl
filter_all p (x ∷ xs) each =
    ap (λ (b : Bool). cond b (x ∷ filter p xs) (filter p xs)) (All-head (λ y. p y ≡ true) x xs each) ∙ ap (λ ys. x ∷ ys) (filter_all p xs (All-tail (λ y. p y ≡ true) x xs each))

unremoved : (names : ℕ → Bool) (m : Mailbox) → All (λ row. names row.uid ≡ false) m.rows → without_uids names m ≡ m
unremoved names m off =
    ap (λ (rows : List Row). record m { rows = rows })
    (filter_all (λ (row : Row). not (names row.uid)) m.rows (All-weaker (λ (row : Row). names row.uid ≡ false) (λ (row : Row). not (names row.uid) ≡ true) (λ row e. ap not e) m.rows off))

-- ---- each effect

validity_rows : (m : Mailbox) (o : Option ℕ) → (with_validity m o).rows ≡ m.rows
validity_rows m None = refl
validity_rows m (Some n) = refl

next_rows : (m : Mailbox) (o : Option ℕ) → (with_next_uid m o).rows ≡ m.rows
next_rows m None = refl
next_rows m (Some n) = refl

header_rows : (m : Mailbox) (parts : List Part) → (fold with_header_part m parts).rows ≡ m.rows
header_rows m parts =
    fold_keeps_any (λ k. k.rows ≡ m.rows) with_header_part
    (λ k part same. next_rows (with_validity k (header_number part 24)) (header_number part 28) ∙ validity_rows k (header_number part 24) ∙ same) m parts refl

named_rows : (how : How) (name : List ℕ) (m : Mailbox) → (with_named how name m).rows ≡ m.rows
named_rows Add name m = refl
named_rows Remove name m = refl
named_rows Replace name m = refl

keyword_by : (how : How) (name : List ℕ) (pairs : List Pair) (m : Mailbox) → All (λ row. is_in_pairs pairs row.uid ≡ false) m.rows
    → (o : Option ℕ) → place_of m.keywords name ≡ o → (with_keyword how name pairs m).rows ≡ m.rows
keyword_by how name pairs m off None e = rw e refl
keyword_by how name pairs m off (Some k) e = rw e (ap (λ (x : Mailbox). x.rows) (unchanged (is_in_pairs pairs) (λ row. record row { keywords = keywords_after how k row.keywords }) m off))

keyword_rows : (how : How) (name : List ℕ) (pairs : List Pair) (m : Mailbox) → All (λ row. is_in_pairs pairs row.uid ≡ false) m.rows → (with_keyword how name pairs (with_named how name m)).rows ≡ m.rows
keyword_rows how name pairs m off =
    let n : Mailbox = with_named how name m in
    let same : n.rows ≡ m.rows = named_rows how name m in
    keyword_by how name pairs n (subst (All (λ (row : Row). is_in_pairs pairs row.uid ≡ false)) (sym same) off) (place_of n.keywords name) refl ∙ same

-- ---- introductions that leave the sizes of parts

intros_rows : (m : Mailbox) (intros : List Intro) → IsValid m → leave_parts m.extensions intros ≡ true → (fold with_intro m intros).rows ≡ m.rows
intros_rows m intros valid same =
    intros_stay m intros valid (ap sizes_of (sym (behind_all m intros)) ∙ sym (sizes_same m.extensions (extensions_behind m.extensions intros) same))

-- ---- other records of extensions

reset_by : (m : Mailbox) (zeroes kept : Mailbox) → kept.rows ≡ m.rows → (b : Bool) → b ≡ false → (cond b zeroes kept).rows ≡ m.rows
reset_by m zeroes kept same true e = absurd cc
reset_by m zeroes kept same false e = same

current_rows : (m : Mailbox) (change : Current → Mailbox) → ((current : Current) → m.current ≡ Some current → (change current).rows ≡ m.rows) → (o : Option Current) → m.current ≡ o → (on_current m change).rows ≡ m.rows
current_rows m change each None e = rw e refl
current_rows m change each (Some current) e = rw e (each current e)

updates_by : (m : Mailbox) (current : Current) (updates : List (List ℕ)) (b : Bool) → All (λ row. is_in_updates (cond b (Some (record { size = current.size; rows = updates })) None) row.uid ≡ false) m.rows
    → cond b (fold (with_update current) m updates) m ≡ m
updates_by m current updates true off =
    fixed_in_turn (with_update current) m updates
    (All-weaker (λ (update : List ℕ). All (λ (row : Row). nat_eq (from_le_bytes w32 (take 4 update)) row.uid ≡ false) m.rows) (λ update. with_update current m update ≡ m)
    (λ update out. unchanged (nat_eq (from_le_bytes w32 (take 4 update))) (λ row. record row { parts = with_item current.extension (λ part. take current.size (drop 4 update) ++ drop current.size part) row.parts }) m out)
    updates (each_off (λ (update : List ℕ) uid. nat_eq (from_le_bytes w32 (take 4 update)) uid) updates m.rows off))
updates_by m current updates false off = refl

updates_rows : (m : Mailbox) (bytes : List ℕ) → All (λ row. is_updated m.current bytes row.uid ≡ false) m.rows → (current : Current) → m.current ≡ Some current → (with_updates bytes m current).rows ≡ m.rows
updates_rows m bytes off current e =
    ap (λ (x : Mailbox). x.rows)
    (updates_by m current (update_rows (length bytes / update_size current.size) (update_size current.size) bytes) (nat_eq (length bytes % update_size current.size) 0)
    (subst (λ (o : Option Current). All (λ (row : Row). is_updated o bytes row.uid ≡ false) m.rows) e off))

-- ---- any record but an append

-- none of the rows may change
abbrev IsSpared : Mailbox → Body → Type 0
IsSpared m body = All (λ row. may_change (table_of m) body row.uid ≡ false) m.rows

-- there is a row, or none comes
nobody : (m n : Mailbox) (body : Body) → ((test : ℕ → Bool) → effect (portion test m) body ≡ option_map (portion test) (effect m body)) → effect m body ≡ Some n → m.rows ≡ [] → n.rows ≡ []
nobody m n body acts e none =
    let hollow : portion (λ uid. false) m ≡ m = ap (λ (rows : List Row). record m { rows = rows }) (filter_none m.rows ∙ sym none) in
    let done : Some (portion (λ uid. false) n) ≡ Some n = sym (ap (option_map (portion (λ uid. false))) e) ∙ sym (acts (λ uid. false)) ∙ ap (λ k. effect k body) hollow ∙ e in
    by_some (λ k. k.rows ≡ []) (portion (λ uid. false) n) n (filter_none n.rows) done
  where
    filter_none : (rows : List Row) → filter (λ row. false) rows ≡ []
    filter_none [] = refl
    filter_none (row ∷ rows) = filter_none rows

intros_by : (m : Mailbox) (intros : List Intro) → IsValid m → IsSpared m (ExtIntro intros) → (rows : List Row) → m.rows ≡ rows → (fold with_intro m intros).rows ≡ m.rows
intros_by m intros valid off [] e = nobody m (fold with_intro m intros) (ExtIntro intros) (λ test. effect_acts test m (ExtIntro intros) tt) refl e ∙ sym e
intros_by m intros valid off (row ∷ rows) e =
    let some : length m.rows ≡ suc (length rows) = ap length e in
    intros_rows m intros valid (not-false (leave_parts m.extensions intros) (off 0 row (omega arith)))

reset_rows : (m : Mailbox) (reset_id preserve : ℕ) → IsSpared m (ExtReset reset_id preserve) → (rows : List Row) → m.rows ≡ rows → (on_current m (with_reset reset_id preserve m)).rows ≡ m.rows
reset_rows m reset_id preserve off [] e =
    nobody m (on_current m (with_reset reset_id preserve m)) (ExtReset reset_id preserve) (λ test. effect_acts test m (ExtReset reset_id preserve) tt) refl e ∙ sym e
reset_rows m reset_id preserve off (row ∷ rows) e =
    let some : length m.rows ≡ suc (length rows) = ap length e in
    current_rows m (with_reset reset_id preserve m) (λ current at. reset_by m _ _ refl (nat_eq preserve 0) (off 0 row (omega arith))) m.current refl

-- anything but an append
abbrev IsOther : Body → Type 0
IsOther (Append rows) = ⊥
IsOther body = Unit {0}

rows_stay : (m n : Mailbox) (body : Body) → IsValid m → IsOther body → IsSpared m body → effect m body ≡ Some n → n.rows ≡ m.rows
rows_stay m n (Append rows) valid other off e = absurd other
rows_stay m n (HeaderUpdate parts) valid other off e = by_some (λ k. k.rows ≡ m.rows) _ n (header_rows m parts) e
rows_stay m n (Expunge pairs) valid other off e = by_some (λ k. k.rows ≡ m.rows) _ n (ap (λ (x : Mailbox). x.rows) (unremoved (is_in_pairs pairs) m off)) e
rows_stay m n (ExpungeGuid rows) valid other off e = by_some (λ k. k.rows ≡ m.rows) _ n (ap (λ (x : Mailbox). x.rows) (unremoved (is_in_guid_rows rows) m off)) e
rows_stay m n (FlagUpdate changes) valid other off e =
    by_some (λ k. k.rows ≡ m.rows) _ n
    (ap (λ (x : Mailbox). x.rows)
    (fixed_in_turn with_change m changes
    (All-weaker (λ (change : Change). All (λ (row : Row). (nat_le change.first row.uid && nat_le row.uid change.last) ≡ false) m.rows) (λ change. with_change m change ≡ m)
    (λ change out. unchanged (λ uid. nat_le change.first uid && nat_le uid change.last) (λ row. record row { flags = with_bits change.add change.remove row.flags }) m out)
    changes (each_off (λ (change : Change) uid. nat_le change.first uid && nat_le uid change.last) changes m.rows off))))
    e
rows_stay m n (KeywordUpdate how name pairs) valid other off e = by_some (λ k. k.rows ≡ m.rows) _ n (keyword_rows how name pairs m off) e
rows_stay m n (KeywordReset pairs) valid other off e = by_some (λ k. k.rows ≡ m.rows) _ n (ap (λ (x : Mailbox). x.rows) (unchanged (is_in_pairs pairs) (λ row. record row { keywords = [] }) m off)) e
rows_stay m n (ExtIntro intros) valid other off e = by_some (λ k. k.rows ≡ m.rows) _ n (intros_by m intros valid off m.rows refl) e
rows_stay m n (ExtReset reset_id preserve) valid other off e = by_some (λ k. k.rows ≡ m.rows) _ n (reset_rows m reset_id preserve off m.rows refl) e
rows_stay m n (ExtHeaderUpdate parts) valid other off e = by_some (λ k. k.rows ≡ m.rows) _ n (current_rows m (with_header_parts parts m) (λ current at. refl) m.current refl) e
rows_stay m n (ExtRecordUpdate bytes) valid other off e = by_some (λ k. k.rows ≡ m.rows) _ n (current_rows m (with_updates bytes m) (updates_rows m bytes off) m.current refl) e
rows_stay m n (Carried code bytes) valid other off e = by_some (λ k. k.rows ≡ m.rows) m n refl e

-- ---- the rest of the rows

module _ (test : ℕ → Bool) where
  added_by : (m n : Mailbox) (row : NewRow) (rows : List NewRow) → HoldsNew test m.next_uid
      → (HoldsNew test (row.uid + 1) → with_rows (with_row m row) rows ≡ Some n → rest test n.rows ≡ rest test (with_row m row).rows)
      → (b : Bool) → nat_lt row.uid m.next_uid ≡ b → cond b None (with_rows (with_row m row) rows) ≡ Some n → rest test n.rows ≡ rest test m.rows
  added_by m n row rows new later true low e = absurd cc
  added_by m n row rows new later false low e =
      let high : m.next_uid ≤ row.uid = grind (arith, nat_tests) in
      later (λ uid h. new uid (omega arith)) e
      ∙ filter-append (λ (r : Row). not (test r.uid)) m.rows (fresh_row m row ∷ [])
      ∙ ap (λ (b : Bool). rest test m.rows ++ cond (not b) (fresh_row m row ∷ []) []) (new row.uid high)
      ∙ append-nil (rest test m.rows)

  added_rest : (m n : Mailbox) (rows : List NewRow) → HoldsNew test m.next_uid → with_rows m rows ≡ Some n → rest test n.rows ≡ rest test m.rows
  added_rest m n [] new e = by_some (λ k. rest test k.rows ≡ rest test m.rows) m n refl e
  added_rest m n (row ∷ rows) new e = added_by m n row rows new (λ higher done. added_rest (with_row m row) n rows higher done) (nat_lt row.uid m.next_uid) refl e

  -- the rest is another portion
  other_rest : (m n : Mailbox) (body : Body) → IsValid m → IsOther body → ((t : ℕ → Bool) → effect (portion t m) body ≡ option_map (portion t) (effect m body))
      → All (λ row. may_change (table_of m) body row.uid ≡ false) (rest test m.rows) → effect m body ≡ Some n → rest test n.rows ≡ rest test m.rows
  other_rest m n body valid other acts off e =
      let t : ℕ → Bool = λ uid. not (test uid) in
      rows_stay (portion t m) (portion t n) body (portion_valid t m valid) other off (acts t ∙ ap (option_map (portion t)) e)

  effect_rest : (m n : Mailbox) (body : Body) → IsValid m → HoldsNew test m.next_uid → All (λ row. may_change (table_of m) body row.uid ≡ false) (rest test m.rows) → effect m body ≡ Some n → rest test n.rows ≡ rest test m.rows
  effect_rest m n (Append rows) valid new off e = added_rest m n rows new e
  effect_rest m n (HeaderUpdate parts) valid new off e = other_rest m n (HeaderUpdate parts) valid tt (λ t. effect_acts t m (HeaderUpdate parts) tt) off e
  effect_rest m n (Expunge pairs) valid new off e = other_rest m n (Expunge pairs) valid tt (λ t. effect_acts t m (Expunge pairs) tt) off e
  effect_rest m n (ExpungeGuid rows) valid new off e = other_rest m n (ExpungeGuid rows) valid tt (λ t. effect_acts t m (ExpungeGuid rows) tt) off e
  effect_rest m n (FlagUpdate changes) valid new off e = other_rest m n (FlagUpdate changes) valid tt (λ t. effect_acts t m (FlagUpdate changes) tt) off e
  effect_rest m n (KeywordUpdate how name pairs) valid new off e = other_rest m n (KeywordUpdate how name pairs) valid tt (λ t. effect_acts t m (KeywordUpdate how name pairs) tt) off e
  effect_rest m n (KeywordReset pairs) valid new off e = other_rest m n (KeywordReset pairs) valid tt (λ t. effect_acts t m (KeywordReset pairs) tt) off e
  effect_rest m n (ExtIntro intros) valid new off e = other_rest m n (ExtIntro intros) valid tt (λ t. effect_acts t m (ExtIntro intros) tt) off e
  effect_rest m n (ExtReset reset_id preserve) valid new off e = other_rest m n (ExtReset reset_id preserve) valid tt (λ t. effect_acts t m (ExtReset reset_id preserve) tt) off e
  effect_rest m n (ExtHeaderUpdate parts) valid new off e = other_rest m n (ExtHeaderUpdate parts) valid tt (λ t. effect_acts t m (ExtHeaderUpdate parts) tt) off e
  effect_rest m n (ExtRecordUpdate bytes) valid new off e = other_rest m n (ExtRecordUpdate bytes) valid tt (λ t. effect_acts t m (ExtRecordUpdate bytes) tt) off e
  effect_rest m n (Carried code bytes) valid new off e = other_rest m n (Carried code bytes) valid tt (λ t. effect_acts t m (Carried code bytes) tt) off e

  -- they keep their modification sequences
  stamped_rest : (before : List Row) (k : Mailbox) → rest test k.rows ≡ rest test before → rest test (stamped before k).rows ≡ rest test before
  stamped_rest before k same =
      let stamp : Row → Row = stamped_row before k.highest in
      let t : ℕ → Bool = λ uid. not (test uid) in
      sym (portion_mapped t stamp (stamped_uid before k.highest) k.rows)
      ∙ ap (map stamp) same
      ∙ map_fixed stamp (rest test before)
      (All-weaker (Contains before) (λ row. stamp row ≡ row) (λ row in'. stamped_there before k.highest row in') (rest test before)
      (All-filter (λ (row : Row). not (test row.uid)) (Contains before) before (All-contains_itself before)))

  record_rest : (m n : Mailbox) (r : Record) → IsValid m → HoldsNew test m.next_uid → Spares m r (rest test m.rows) → after_record m r ≡ Some n → rest test n.rows ≡ rest test m.rows
  record_rest m n r valid new off e =
      after_by (λ k. rest test k.rows ≡ rest test m.rows) m n r refl
      (λ k done. stamped_rest m.rows k (effect_rest (with_higher m) k r.body (higher_valid m valid) new off done)) (is_request r) e

-- those behind a record
spare_later : (m k : Mailbox) (r : Record) (rs : List Record) (rows later : List Row) → after_record m r ≡ Some k → later ≡ rows → AllSpare m (r ∷ rs) rows → AllSpare k rs later
spare_later m k r rs rows later first same each j d x h at valid =
    let so_far : applied m (take (suc j) (r ∷ rs)) ≡ Some x = ap (option_and_then (λ (y : Mailbox). applied y (take j rs))) first ∙ at in
    subst (λ (l : List Row). Spares x (get_or rs j d) l) (sym same) (each (suc j) d x (omega arith) so_far valid)

pub rest_stays : (test : ℕ → Bool) (m n : Mailbox) (rs : List Record) → IsValid m → All (λ r. IsInRange r.body) rs → HoldsNew test m.next_uid
    → AllSpare m rs (rest test m.rows) → applied m rs ≡ Some n → rest test n.rows ≡ rest test m.rows
rest_stays test m n [] valid in_range new spare e = by_some (λ k. rest test k.rows ≡ rest test m.rows) m n refl e
rest_stays test m n (r ∷ rs) valid in_range new spare e =
    option_and_then_some (λ k. applied k rs) (after_record m r) n e
    (λ k first later.
    let same : rest test k.rows ≡ rest test m.rows = record_rest test m k r valid new (spare 0 r m (omega arith) refl valid) first in
    rest_stays test k n rs (in_range_valid m k r valid (All-head (λ (x : Record). IsInRange x.body) r rs in_range) first) (All-tail (λ (x : Record). IsInRange x.body) r rs in_range)
    (next_by test m k r new first) (spare_later m k r rs (rest test m.rows) (rest test k.rows) first same spare) later
    ∙ same)
