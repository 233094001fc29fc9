-- Records that leave a mailbox's table of extensions.
use Rattle.std.proofs.Common.{◌≡◌, ℕ, ◌%◌, ◌/◌, Bool, true, false, cond, ◌&&◌, List, [], ◌∷◌, length, nat_eq, nat_lt, Option, Some, None, refl, ◌∙◌}
use Rattle.std.specs.Prelude.{fold, option_map}
use Rattle.dv_model.specs.declared.types.Body.{Body}
use Rattle.dv_model.specs.declared.types.Body.TheVariants.{Expunge, Append, FlagUpdate, HeaderUpdate, ExtIntro, ExtReset, ExtHeaderUpdate, ExtRecordUpdate, KeywordUpdate, KeywordReset, ExpungeGuid, Carried}
use Rattle.dv_model.specs.declared.types.Current.{Current}
use Rattle.dv_model.specs.declared.types.How.{How}
use Rattle.dv_model.specs.declared.types.How.TheVariants.{Add, Remove, Replace}
use Rattle.dv_model.specs.declared.types.Mailbox.{Mailbox}
use Rattle.dv_model.specs.declared.types.NewRow.{NewRow}
use Rattle.dv_model.specs.declared.types.Pair.{Pair}
use Rattle.dv_model.specs.declared.types.Record.{Record}
use Rattle.dv_model.specs.Effects.{after_record, effect, header_number, is_request, on_current, place_of, removes, stamped, update_rows, update_size, with_change, with_header_part, with_higher, with_keyword, with_named, with_next_uid, with_row, with_rows, with_update, with_updates, with_validity}
use Rattle.dv_ext.specs.Tables.{Table}
use Rattle.dv_validity.proofs.Records.{by_some}
use Rattle.dv_validity.proofs.Rows.{fold_keeps_any}
use Rattle.dv_portion.specs.Portions.{table_of}

-- any record but one that changes the table
abbrev pub LeavesTable : Body → Type 0
LeavesTable (ExtIntro intros) = ⊥
LeavesTable (ExtReset reset_id preserve) = ⊥
LeavesTable (ExtHeaderUpdate parts) = ⊥
LeavesTable body = Unit {0}

abbrev Leaves : Mailbox → Mailbox → Type 0
Leaves m n = table_of n ≡ table_of m

rows_by : (m n : Mailbox) (row : NewRow) (rows : List NewRow) → (with_rows (with_row m row) rows ≡ Some n → Leaves (with_row m row) n)
    → (b : Bool) → cond b None (with_rows (with_row m row) rows) ≡ Some n → Leaves m n
rows_by m n row rows later true e = absurd cc
rows_by m n row rows later false e = later e

rows_leave : (m n : Mailbox) (rows : List NewRow) → with_rows m rows ≡ Some n → Leaves m n
rows_leave m n [] e = by_some (Leaves m) m n refl e
rows_leave m n (row ∷ rows) e = rows_by m n row rows (λ done. rows_leave (with_row m row) n rows done) (nat_lt row.uid m.next_uid) e

validity_leaves : (m : Mailbox) (o : Option ℕ) → Leaves m (with_validity m o)
validity_leaves m None = refl
validity_leaves m (Some n) = refl

next_leaves : (m : Mailbox) (o : Option ℕ) → Leaves m (with_next_uid m o)
next_leaves m None = refl
next_leaves m (Some n) = refl

named_leaves : (m : Mailbox) (how : How) (name : List ℕ) → Leaves m (with_named how name m)
named_leaves m Add name = refl
named_leaves m Remove name = refl
named_leaves m Replace name = refl

keyword_by : (m : Mailbox) (how : How) (name : List ℕ) (pairs : List Pair) (o : Option ℕ) → place_of m.keywords name ≡ o → Leaves m (with_keyword how name pairs m)
keyword_by m how name pairs None e = rw e refl
keyword_by m how name pairs (Some k) e = rw e refl

keyword_leaves : (m : Mailbox) (how : How) (name : List ℕ) (pairs : List Pair) → Leaves m (with_keyword how name pairs (with_named how name m))
keyword_leaves m how name pairs =
    let n : Mailbox = with_named how name m in keyword_by n how name pairs (place_of n.keywords name) refl ∙ named_leaves m how name

updates_by : (m : Mailbox) (current : Current) (updates : List (List ℕ)) (b : Bool) → Leaves m (cond b (fold (with_update current) m updates) m)
updates_by m current updates true = fold_keeps_any (Leaves m) (with_update current) (λ k update is. is) m updates refl
updates_by m current updates false = refl

current_by : (m : Mailbox) (bytes : List ℕ) (o : Option Current) → m.current ≡ o → Leaves m (on_current m (with_updates bytes m))
current_by m bytes None e = rw e refl
current_by m bytes (Some current) e =
    rw e (updates_by (record m { current = Some current }) current (update_rows (length bytes / update_size current.size) (update_size current.size) bytes) (nat_eq (length bytes % update_size current.size) 0))

pub effect_leaves : (m n : Mailbox) (body : Body) → LeavesTable body → effect m body ≡ Some n → table_of n ≡ table_of m
effect_leaves m n (Append rows) is e = rows_leave m n rows e
effect_leaves m n (HeaderUpdate parts) is e =
    by_some (Leaves m) _ n
    (fold_keeps_any (Leaves m) with_header_part (λ k part same. next_leaves (with_validity k (header_number part 24)) (header_number part 28) ∙ validity_leaves k (header_number part 24) ∙ same) m parts refl) e
effect_leaves m n (Expunge pairs) is e = by_some (Leaves m) _ n refl e
effect_leaves m n (ExpungeGuid rows) is e = by_some (Leaves m) _ n refl e
effect_leaves m n (FlagUpdate changes) is e = by_some (Leaves m) _ n (fold_keeps_any (Leaves m) with_change (λ k change same. same) m changes refl) e
effect_leaves m n (KeywordUpdate how name pairs) is e = by_some (Leaves m) _ n (keyword_leaves m how name pairs) e
effect_leaves m n (KeywordReset pairs) is e = by_some (Leaves m) _ n refl e
effect_leaves m n (ExtIntro intros) is e = absurd is
effect_leaves m n (ExtReset reset_id preserve) is e = absurd is
effect_leaves m n (ExtHeaderUpdate parts) is e = absurd is
effect_leaves m n (ExtRecordUpdate bytes) is e = by_some (Leaves m) _ n (current_by m bytes m.current refl) e
effect_leaves m n (Carried code bytes) is e = by_some (Leaves m) m n refl e

-- ---- a record by its effect on the table

-- a request's effect would leave it
request_by : (m : Mailbox) (P : Table → Type 0) (body : Body) (b : Bool) → removes body && b ≡ true → ((k : Mailbox) → effect m body ≡ Some k → P (table_of k)) → P (table_of m)
request_by m P (Expunge pairs) b e each = each _ refl
request_by m P (ExpungeGuid rows) b e each = each _ refl
request_by m P (Append rows) b e each = absurd cc
request_by m P (HeaderUpdate parts) b e each = absurd cc
request_by m P (FlagUpdate changes) b e each = absurd cc
request_by m P (KeywordUpdate how name pairs) b e each = absurd cc
request_by m P (KeywordReset pairs) b e each = absurd cc
request_by m P (ExtIntro intros) b e each = absurd cc
request_by m P (ExtReset reset_id preserve) b e each = absurd cc
request_by m P (ExtHeaderUpdate parts) b e each = absurd cc
request_by m P (ExtRecordUpdate bytes) b e each = absurd cc
request_by m P (Carried code bytes) b e each = absurd cc

table_by : (m n : Mailbox) (r : Record) (P : Table → Type 0) → ((k : Mailbox) → effect (with_higher m) r.body ≡ Some k → P (table_of k))
    → (b : Bool) → is_request r ≡ b → cond b (Some (with_higher m)) (option_map (stamped m.rows) (effect (with_higher m) r.body)) ≡ Some n → P (table_of n)
table_by m n r P each true asks e = by_some (λ k. P (table_of k)) (with_higher m) n (request_by (with_higher m) P r.body _ asks each) e
table_by m n r P each false asks e = some_by (effect (with_higher m) r.body) refl e
  where
    some_by : (o : Option Mailbox) → effect (with_higher m) r.body ≡ o → option_map (stamped m.rows) o ≡ Some n → P (table_of n)
    some_by None at e = absurd cc
    some_by (Some k) at e = by_some (λ x. P (table_of x)) (stamped m.rows k) n (each k at) e

-- what the effect makes of the table, the record makes of it
pub record_table : (m n : Mailbox) (r : Record) (P : Table → Type 0) → ((k : Mailbox) → effect (with_higher m) r.body ≡ Some k → P (table_of k)) → after_record m r ≡ Some n → P (table_of n)
record_table m n r P each e = table_by m n r P each (is_request r) refl e
