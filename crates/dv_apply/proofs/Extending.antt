-- Records of extensions change the parts of rows alone, and no row is stamped.
use Rattle.std.proofs.Common.{◌≡◌, ℕ, zero, suc, ◌+◌, ◌-◌, ◌%◌, ◌/◌, ◌≤◌, Bool, true, false, cond, ◌&&◌, List, [], ◌∷◌, ◌++◌, length, nat_eq, take, drop, Option, Some, None, refl, sym, ◌∙◌, ap, subst, arith}
use Rattle.std.specs.Prelude.{All, IfSome, IsSomeAnd, bytes_eq, fold, map, replicate, slice_get, if◌then◌else◌}
use Rattle.std.specs.Int.{w32, from_le_bytes}
use Rattle.std.proofs.lemmas.List.{map-id, length-append, length-drop}
use Rattle.std.proofs.lemmas.List.Elements.{All-map, All-weaker}
use Rattle.dv_model.specs.declared.types.Current.{Current}
use Rattle.dv_model.specs.declared.types.Extension.{Extension}
use Rattle.dv_model.specs.declared.types.Intro.{Intro}
use Rattle.dv_model.specs.declared.types.Mailbox.{Mailbox}
use Rattle.dv_model.specs.declared.types.Part.{Part}
use Rattle.dv_model.specs.declared.types.Row.{Row}
use Rattle.dv_model.specs.Effects.{is_as_before, on_current, stamped, update_rows, update_size, with_header_parts, with_intro, with_item, with_reset, with_row_parts, with_update, with_updates, written_over, zeroed}
use Rattle.dv_model.specs.Mailboxes.{IsRowOf, IsValid}
use Rattle.dv_ext.proofs.Sizing.{intros_stay, only_those, rows_behind, sizes_same}
use Rattle.dv_ext.specs.Changes.{HasTable}
use Rattle.dv_ext.specs.Sizes.{extensions_behind, fitted, have_sizes, leave_parts, sizes_of}
use Rattle.dv_ext.specs.Tables.{Table, with_table}
use Rattle.dv_rows.specs.Changed.{written_at_front}
use Rattle.dv_validity.proofs.Comparisons.{as_before_itself, stamped_alike}
use Rattle.dv_validity.proofs.Items.{item_like, map_kept}
use Rattle.dv_validity.proofs.Rows.{fold_keeps_any, map_map}
use Rattle.dv_apply.specs.Alike.{IsAlike, IsWide}
use Rattle.dv_apply.specs.States.{blank_parts}

-- ---- rows that are alike

alike_before : (a b : Row) → a.uid ≡ b.uid → a.flags ≡ b.flags → a.keywords ≡ b.keywords → is_as_before a b ≡ true
alike_before a b uid flags keywords =
    ap (λ (n : ℕ). nat_eq n b.uid && nat_eq (a.flags % 32) (b.flags % 32) && bytes_eq a.keywords b.keywords) uid
    ∙ ap (λ (n : ℕ). nat_eq b.uid b.uid && nat_eq (n % 32) (b.flags % 32) && bytes_eq a.keywords b.keywords) flags
    ∙ ap (λ (k : List ℕ). nat_eq b.uid b.uid && nat_eq (b.flags % 32) (b.flags % 32) && bytes_eq k b.keywords) keywords
    ∙ as_before_itself b

pub stamped_like : (m n : Mailbox) → IsAlike m.rows n.rows → stamped m.rows n ≡ n
stamped_like m n alike = stamped_alike m n alike.change (λ row. alike_before (alike.change row) row (alike.uid row) (alike.flags row) (alike.keywords row)) alike.is

pub alike_itself : (rows : List Row) → IsAlike rows rows
alike_itself rows = record { change = λ row. row; uid = λ row. refl; flags = λ row. refl; keywords = λ row. refl; is = sym (map-id rows) }

pub alike_parts : (rows new : List Row) (f : List (List ℕ) → List (List ℕ)) → new ≡ map (with_row_parts f) rows → IsAlike rows new
alike_parts rows new f is = record { change = with_row_parts f; uid = λ row. refl; flags = λ row. refl; keywords = λ row. refl; is = is }

pub alike_again : (rows new later : List Row) → IsAlike rows new → IsAlike new later → IsAlike rows later
alike_again rows new later a b = record {
  change = λ row. b.change (a.change row);
  uid = λ row. b.uid (a.change row) ∙ a.uid row;
  flags = λ row. b.flags (a.change row) ∙ a.flags row;
  keywords = λ row. b.keywords (a.change row) ∙ a.keywords row;
  is = b.is ∙ ap (map b.change) a.is ∙ map_map b.change a.change rows;
}

-- ---- a row of a record update

uid_by : (f : List (List ℕ) → List (List ℕ)) (row : Row) (b : Bool) → (cond b (with_row_parts f row) row).uid ≡ row.uid
uid_by f row true = refl
uid_by f row false = refl

flags_by : (f : List (List ℕ) → List (List ℕ)) (row : Row) (b : Bool) → (cond b (with_row_parts f row) row).flags ≡ row.flags
flags_by f row true = refl
flags_by f row false = refl

keywords_by : (f : List (List ℕ) → List (List ℕ)) (row : Row) (b : Bool) → (cond b (with_row_parts f row) row).keywords ≡ row.keywords
keywords_by f row true = refl
keywords_by f row false = refl

pub alike_at : (rows new : List Row) (uid : ℕ) (f : List (List ℕ) → List (List ℕ)) → new ≡ map (λ row. if nat_eq uid row.uid then with_row_parts f row else row) rows → IsAlike rows new
alike_at rows new uid f is = record {
  change = λ row. if nat_eq uid row.uid then with_row_parts f row else row;
  uid = λ row. uid_by f row (nat_eq uid row.uid);
  flags = λ row. flags_by f row (nat_eq uid row.uid);
  keywords = λ row. keywords_by f row (nat_eq uid row.uid);
  is = is;
}

front_long : (size : ℕ) (bytes part : List ℕ) → length bytes ≤ size → size ≤ length part → size ≤ length (written_at_front bytes part)
front_long size bytes part short wide =
    let all : length (bytes ++ drop (length bytes) part) ≡ length bytes + length (drop (length bytes) part) = length-append bytes (drop (length bytes) part) in
    let rest : length (drop (length bytes) part) ≡ length part - length bytes = length-drop (length bytes) part in
    omega arith

wide_item : (size : ℕ) (bytes : List ℕ) → length bytes ≤ size → (k : ℕ) (parts : List (List ℕ)) → IfSome (slice_get parts k) (λ part. size ≤ length part) → IfSome (slice_get (with_item k (written_at_front bytes) parts) k) (λ part. size ≤ length part)
wide_item size bytes short k [] is = is
wide_item size bytes short zero (part ∷ parts) is = front_long size bytes part short is
wide_item size bytes short (suc k) (part ∷ parts) is = wide_item size bytes short k parts is

wide_by : (place size : ℕ) (bytes : List ℕ) (row : Row) → length bytes ≤ size → IsWide place size row → (b : Bool) → IsWide place size (cond b (with_row_parts (with_item place (written_at_front bytes)) row) row)
wide_by place size bytes row short wide true = wide_item size bytes short place row.parts wide
wide_by place size bytes row short wide false = wide

-- the parts stay as wide
pub wide_rows : (place size uid : ℕ) (bytes : List ℕ) (rows new : List Row) → length bytes ≤ size → All (IsWide place size) rows
    → new ≡ map (λ row. if nat_eq uid row.uid then with_row_parts (with_item place (written_at_front bytes)) row else row) rows → All (IsWide place size) new
wide_rows place size uid bytes rows new short wide is =
    subst (All (IsWide place size)) (sym is)
    (All-map (IsWide place size) (λ row. if nat_eq uid row.uid then with_row_parts (with_item place (written_at_front bytes)) row else row) rows
    (All-weaker (IsWide place size) (λ row. IsWide place size (if nat_eq uid row.uid then with_row_parts (with_item place (written_at_front bytes)) row else row))
    (λ row w. wide_by place size bytes row short w (nat_eq uid row.uid)) rows wide))

-- the effect of the row
pub written_row : (place size uid : ℕ) (update bytes : List ℕ) (m : Mailbox) (new : List Row) → uid ≡ from_le_bytes w32 (take 4 update) → bytes ≡ take size (drop 4 update) → length bytes ≡ size
    → new ≡ map (λ row. if nat_eq uid row.uid then with_row_parts (with_item place (written_at_front bytes)) row else row) m.rows
    → with_update (record { extension = place; size = size }) m update ≡ record m { rows = new }
written_row place size uid update bytes m new is_uid is_bytes long is =
    let put : ℕ → ℕ → List ℕ → Mailbox = λ u n b. record m { rows = map (λ (row : Row). if nat_eq u row.uid then with_row_parts (with_item place (λ part. b ++ drop n part)) row else row) m.rows } in
    ap (λ b. put (from_le_bytes w32 (take 4 update)) size b) (sym is_bytes)
    ∙ ap (λ u. put u size bytes) (sym is_uid)
    ∙ ap (λ n. put uid n bytes) (sym long)
    ∙ ap (λ (rs : List Row). record m { rows = rs }) (sym is)

-- ---- a valid mailbox has room for the current extension's data

if_some : {X : Type 0} (P : X → Type 0) (o : Option X) → IsSomeAnd o P → IfSome o P
if_some P None is = tt
if_some P (Some x) is = is

pub current_wide : (m : Mailbox) (c : Current) → m.current ≡ Some c → IsValid m → All (IsWide c.extension c.size) m.rows
current_wide m c e valid =
    let wide : IsSomeAnd (slice_get m.extensions c.extension) (λ e. c.size ≤ e.record_size) = subst (λ (o : Option Current). IfSome o (λ c. IsSomeAnd (slice_get m.extensions c.extension) (λ e. c.size ≤ e.record_size))) e valid.current in
    All-weaker (IsRowOf m) (IsWide c.extension c.size)
    (λ row is. if_some (λ part. c.size ≤ length part) (slice_get row.parts c.extension) (item_like length (λ (e : Extension). e.record_size) (λ n. c.size ≤ n) c.extension row.parts m.extensions is.parts wide))
    m.rows valid.rows

-- ---- introductions

-- the table, and rows that are filled up or stay, tell the mailbox behind introductions
pub introduced_all : (h : Mailbox) (after : Table) (intros : List Intro) (rows : List Row) → HasTable after (fold with_intro h intros) → rows ≡ (fold with_intro h intros).rows → fold with_intro h intros ≡ with_table after (record h { rows = rows })
introduced_all h after intros rows has is =
    let n : Mailbox = fold with_intro h intros in
    let table : record { extensions = n.extensions; current = n.current } ≡ after = ap (λ (x : Mailbox). record { extensions = x.extensions; current = x.current }) (sym has.is) in
    only_those h intros
    ∙ ap (λ (rs : List Row). record h { rows = rs; extensions = n.extensions; current = n.current }) (sym is)
    ∙ ap (λ (t : Table). with_table t (record h { rows = rows })) table

sizes_behind : (after : Table) (n : Mailbox) → HasTable after n → sizes_of n.extensions ≡ sizes_of after.extensions
sizes_behind after n has = ap (λ (x : Mailbox). sizes_of x.extensions) (sym has.is)

pub fitted_rows : (h : Mailbox) (after : Table) (intros : List Intro) (rows : List Row) → IsValid h → HasTable after (fold with_intro h intros) → rows ≡ map (with_row_parts (fitted (sizes_of after.extensions))) h.rows
    → rows ≡ (fold with_intro h intros).rows
fitted_rows h after intros rows valid has is =
    is ∙ ap (λ (ns : List ℕ). map (with_row_parts (fitted ns)) h.rows) (sym (sizes_behind after (fold with_intro h intros) has)) ∙ sym (rows_behind h intros valid)

pub rows_left : (h : Mailbox) (after : Table) (intros : List Intro) → IsValid h → HasTable after (fold with_intro h intros) → have_sizes h.extensions after.extensions ≡ true → h.rows ≡ (fold with_intro h intros).rows
rows_left h after intros valid has same =
    sym (intros_stay h intros valid (sizes_behind after (fold with_intro h intros) has ∙ sym (sizes_same h.extensions after.extensions same)))

-- what a call answers of copies of two lists
pub sizes_are : (es fs copied other : List Extension) (result b : Bool) → copied ≡ es → other ≡ fs → result ≡ have_sizes copied other → result ≡ b → have_sizes es fs ≡ b
sizes_are es fs copied other result b one two answer is = ap (λ (xs : List Extension). have_sizes xs fs) (sym one) ∙ ap (have_sizes copied) (sym two) ∙ sym answer ∙ is

-- the sizes behind introductions are those of the table that they make
pub parts_told : (t dup after : Table) (intros : List Intro) → dup ≡ t → after.extensions ≡ extensions_behind dup.extensions intros → leave_parts t.extensions intros ≡ have_sizes t.extensions after.extensions
parts_told t dup after intros same is = ap (have_sizes t.extensions) (sym (is ∙ ap (λ (x : Table). extensions_behind x.extensions intros) same))

-- ---- sizes stay

-- extensions of one size each have one row's zero bytes
blank_same : (es fs : List Extension) → sizes_of fs ≡ sizes_of es → blank_parts fs ≡ blank_parts es
blank_same es fs same =
    sym (map_map (λ (n : ℕ). replicate n 0) (λ (e : Extension). e.record_size) fs) ∙ ap (map (λ (n : ℕ). replicate n 0)) same ∙ map_map (λ (n : ℕ). replicate n 0) (λ (e : Extension). e.record_size) es

pub sizes_blank : (es fs : List Extension) → have_sizes es fs ≡ true → blank_parts fs ≡ blank_parts es
sizes_blank es fs same = blank_same es fs (sym (sizes_same es fs same))

sizes_kept : (f : Extension → Extension) → ((e : Extension) → (f e).record_size ≡ e.record_size) → (k : ℕ) (es : List Extension) → sizes_of (with_item k f es) ≡ sizes_of es
sizes_kept f same k es = map_kept (λ (e : Extension). e.record_size) f same k es

reset_by : (m : Mailbox) (reset_id preserve : ℕ) (c : Current) (b : Bool)
    → sizes_of (cond b (record m { rows = map (with_row_parts (with_item c.extension zeroed)) m.rows; extensions = with_item c.extension (λ e. record e { reset_id = reset_id; header = zeroed e.header }) m.extensions })
    (record m { extensions = with_item c.extension (λ e. record e { reset_id = reset_id }) m.extensions })).extensions ≡ sizes_of m.extensions
reset_by m reset_id preserve c true = sizes_kept (λ e. record e { reset_id = reset_id; header = zeroed e.header }) (λ e. refl) c.extension m.extensions
reset_by m reset_id preserve c false = sizes_kept (λ e. record e { reset_id = reset_id }) (λ e. refl) c.extension m.extensions

on_current_by : (m : Mailbox) (change : Current → Mailbox) → ((c : Current) → sizes_of (change c).extensions ≡ sizes_of m.extensions) → (o : Option Current)
    → sizes_of (on_current (record m { current = o }) change).extensions ≡ sizes_of m.extensions
on_current_by m change same None = refl
on_current_by m change same (Some c) = same c

pub reset_stays : (m : Mailbox) (reset_id preserve : ℕ) → sizes_of (on_current m (with_reset reset_id preserve m)).extensions ≡ sizes_of m.extensions
reset_stays m reset_id preserve = on_current_by m (with_reset reset_id preserve m) (λ c. reset_by m reset_id preserve c (nat_eq preserve 0)) m.current

pub reset_sizes : (m : Mailbox) (reset_id preserve : ℕ) → blank_parts (on_current m (with_reset reset_id preserve m)).extensions ≡ blank_parts m.extensions
reset_sizes m reset_id preserve = blank_same m.extensions (on_current m (with_reset reset_id preserve m)).extensions (reset_stays m reset_id preserve)

pub header_sizes : (m : Mailbox) (parts : List Part) → blank_parts (on_current m (with_header_parts parts m)).extensions ≡ blank_parts m.extensions
header_sizes m parts =
    blank_same m.extensions (on_current m (with_header_parts parts m)).extensions
    (on_current_by m (with_header_parts parts m) (λ c. sizes_kept (λ e. record e { header = fold written_over e.header parts }) (λ e. refl) c.extension m.extensions) m.current)

updated_by : (m : Mailbox) (c : Current) (rows : List (List ℕ)) (b : Bool) → sizes_of (cond b (fold (with_update c) m rows) m).extensions ≡ sizes_of m.extensions
updated_by m c rows true = fold_keeps_any (λ (k : Mailbox). sizes_of k.extensions ≡ sizes_of m.extensions) (with_update c) (λ k update same. same) m rows refl
updated_by m c rows false = refl

pub updates_stay : (m : Mailbox) (bytes : List ℕ) → sizes_of (on_current m (with_updates bytes m)).extensions ≡ sizes_of m.extensions
updates_stay m bytes =
    on_current_by m (with_updates bytes m)
    (λ c. updated_by m c (update_rows (length bytes / update_size c.size) (update_size c.size) bytes) (nat_eq (length bytes % update_size c.size) 0)) m.current
