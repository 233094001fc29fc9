-- UIDs of the rows that records may change, as they are collected.
use Rattle.std.proofs.Common.{◌≡◌, ◌⊎◌, inl, inr, ℕ, ◌+◌, ◌-◌, ◌^◌, ◌<◌, ◌≤◌, Bool, true, false, ◌&&◌, List, [], ◌∷◌, length, get_or, nat_eq, nat_le, Option, Some, None, refl, sym, ◌∙◌, ap, subst, arith}
use Rattle.std.specs.Prelude.{◌||◌, All, Contains, IfOk, OnOk, fold, not, Result, Ok, Err, map, option_and_then, take}
use Rattle.std.specs.List.{list_any}
use Rattle.std.proofs.lemmas.Bool.{cases_lt}
use Rattle.std.proofs.lemmas.Bool.Decides.{nat_tests}
use Rattle.std.proofs.lemmas.List.{get_or_default, length-map, take_more}
use Rattle.std.proofs.lemmas.List.Elements.{All-contains_itself, All-map, All-take, All-weaker}
use Rattle.std.proofs.lemmas.List.Folds.{list_any-append}
use Rattle.std.proofs.lemmas.Option.{option_and_then_some}
use Rattle.dv_model.proofs.Transcripts.{applied_append}
use Rattle.dv_model.specs.declared.types.Body.{Body}
use Rattle.dv_model.specs.declared.types.Body.TheVariants.{ExtHeaderUpdate, ExtIntro, ExtReset}
use Rattle.dv_model.specs.declared.types.Intro.{Intro}
use Rattle.dv_model.specs.declared.types.Current.{Current}
use Rattle.dv_model.specs.declared.types.Part.{Part}
use Rattle.dv_model.specs.declared.types.GuidRow.{GuidRow}
use Rattle.dv_model.specs.declared.types.Mailbox.{Mailbox}
use Rattle.dv_model.specs.declared.types.Record.{Record}
use Rattle.dv_model.specs.declared.types.Row.{Row}
use Rattle.dv_model.specs.Effects.{after_record, applied, effect, is_in_guid_rows, with_higher, with_intro}
use Rattle.dv_model.specs.Mailboxes.{IsValid}
use Rattle.dv_ext.specs.Changes.{Does, HasTable}
use Rattle.dv_ext.specs.Sizes.{leave_parts}
use Rattle.dv_ext.specs.Tables.{Table, with_table}
use Rattle.dv_ext.specs.declared.change.PartsChange.{PartsChange}
use Rattle.dv_portion.proofs.Tables.{LeavesTable, effect_leaves, record_table}
use Rattle.dv_portion.specs.Portions.{may_change, table_of}
use Rattle.dv_model.specs.declared.types.Pair.{Pair}
use Rattle.dv_rows.specs.Kept.{AreRows}
use Rattle.dv_rows.specs.Noted.{has}
use Rattle.dv_rows.specs.Parted.{HasUid}
use Rattle.dv_validity.proofs.Records.{all_in_range_valid, by_some}
use Rattle.dv_validity.proofs.Stamps.{higher_valid}
use Rattle.dv_validity.specs.Laws.{IsInRange}
use Rattle.dv_portion.specs.Surveys.{Adds, AreAllNamed, AreNamed, LeavesParts, MovesOn}

-- ---- answers

pub on_ok : {A E : Type 0} {P Q : Type 0} (r : Result A E) → OnOk r P → (P → Q) → OnOk r Q
on_ok (Ok a) p f = f p
on_ok (Err e) p f = p

-- ---- what is added

pub adds_itself : (rows : List Row) (uids : List ℕ) → Adds rows uids uids
adds_itself rows uids = record { kept = λ uid h. h; only = λ uid h. inl h }

pub adds_again : (rows : List Row) (a b c : List ℕ) → Adds rows a b → Adds rows b c → Adds rows a c
adds_again rows a b c one two = record { kept = λ uid h. two.kept uid (one.kept uid h); only = λ uid h. again uid (two.only uid h) }
  where
    again : (uid : ℕ) → Contains b uid ⊎ HasUid rows uid → Contains a uid ⊎ HasUid rows uid
    again uid (inl h) = one.only uid h
    again uid (inr h) = inr h

pub adds_by : (rows : List Row) (old new : List ℕ) (P : ℕ → Type 0) → ((uid : ℕ) → Contains old uid → Contains new uid)
    → ((uid : ℕ) → Contains new uid → Contains old uid ⊎ (HasUid rows uid × P uid)) → Adds rows old new
adds_by rows old new P kept only = record { kept = kept; only = λ uid h. weaker uid (only uid h) }
  where
    weaker : (uid : ℕ) → Contains old uid ⊎ (HasUid rows uid × P uid) → Contains old uid ⊎ HasUid rows uid
    weaker uid (inl h) = inl h
    weaker uid (inr h) = inr h.0

-- ---- ranges

pub any_alike : {X : Type 0} (p q : X → Bool) → ((x : X) → p x ≡ q x) → (xs : List X) → list_any p xs ≡ list_any q xs
any_alike p q same [] = refl
any_alike p q same (x ∷ xs) = ap (λ (b : Bool). b || list_any p xs) (same x) ∙ ap (λ (b : Bool). q x || b) (any_alike p q same xs)

one_uid : (a b : ℕ) → nat_eq a b ≡ (nat_le a b && nat_le b a)
one_uid a b = grind (arith, nat_tests)

pub named_by_guid : (rows : List GuidRow) (uid : ℕ) → is_in_guid_rows rows uid ≡ true → list_any (has (λ (row : GuidRow). row.uid) (λ (row : GuidRow). row.uid) uid) rows ≡ true
named_by_guid rows uid e = sym (any_alike (λ (row : GuidRow). nat_eq row.uid uid) (has (λ (row : GuidRow). row.uid) (λ (row : GuidRow). row.uid) uid) (λ row. one_uid row.uid uid) rows) ∙ e

pub named_alone : (a b : ℕ) → nat_eq a b ≡ true → list_any (has (λ (n : ℕ). n) (λ (n : ℕ). n) b) (a ∷ []) ≡ true
named_alone a b e = ap (λ (t : Bool). t || false) (sym (one_uid a b) ∙ e)

uid_below : (rows : List Row) (uid : ℕ) → AreRows rows → HasUid rows uid → uid < 2 ^ 32
uid_below rows uid are (k, h, at) =
    let low : get_or (map (λ (row : Row). row.uid) rows) k uid < 2 ^ 32 - 1 = All-map (λ n. n < 2 ^ 32 - 1) (λ (row : Row). row.uid) rows are.below k uid h in
    omega (arith, low, at)

all_have : (uid : ℕ) → uid < 2 ^ 32 → (nat_le 0 uid && nat_le uid 4294967295) ≡ true
all_have uid h = grind (arith, nat_tests)

pub named_by_all : (rows : List Row) (uid : ℕ) → AreRows rows → HasUid rows uid → list_any (has (λ (p : Pair). p.first) (λ (p : Pair). p.last) uid) (record { first = 0; last = 4294967295 } ∷ []) ≡ true
named_by_all rows uid are is = ap (λ (t : Bool). t || false) (all_have uid (uid_below rows uid are is))

pub no_rows : (rows : List Row) (uid : ℕ) → length rows ≡ 0 → HasUid rows uid → ⊥
no_rows rows uid none (k, h, at) = let many : length (map (λ (row : Row). row.uid) rows) ≡ length rows = length-map rows (λ (row : Row). row.uid) in omega arith

-- what a call named is what the body names
pub named_body : {A E : Type 0} (r : Result A E) (t : Table) (body is : Body) (rows : List Row) (uids : List ℕ) (P : ℕ → Type 0) → body ≡ is → ((uid : ℕ) → may_change t is uid ≡ true → P uid)
    → OnOk r ((uid : ℕ) → HasUid rows uid × P uid → Contains uids uid) → OnOk r (AreNamed t body rows uids)
named_body r t body is rows uids P same tells named =
    on_ok r named (λ each uid h e. each uid (h, tells uid (ap (λ (b : Body). may_change t b uid) (sym same) ∙ e)))

pub named_bodies : {A E : Type 0} (r : Result A E) (current : Option Current) (stay : Bool) (body is : Body) (rows : List Row) (uids : List ℕ) (P : ℕ → Type 0) → body ≡ is → ((t : Table) (uid : ℕ) → may_change t is uid ≡ true → P uid)
    → OnOk r ((uid : ℕ) → HasUid rows uid × P uid → Contains uids uid) → OnOk r ((t : Table) → t.current ≡ current → LeavesParts stay t body → AreNamed t body rows uids)
named_bodies r current stay body is rows uids P same tells named =
    on_ok r named (λ each t at leaves uid h e. each uid (h, tells t uid (ap (λ (b : Body). may_change t b uid) (sym same) ∙ e)))

-- introductions, where it is known of them that they leave each row's parts
pub none_named : (t : Table) (body : Body) (intros : List Intro) (stay : Bool) (rows : List Row) (uids : List ℕ) → body ≡ ExtIntro intros → stay ≡ true → LeavesParts stay t body → AreNamed t body rows uids
none_named t body intros stay rows uids same known leaves uid h e =
    let left : leave_parts t.extensions intros ≡ true = subst (LeavesParts stay t) same leaves known in
    let may : not (leave_parts t.extensions intros) ≡ true = ap (λ (b : Body). may_change t b uid) (sym same) ∙ e in
    absurd (not_both (leave_parts t.extensions intros) left may)
  where
    not_both : (b : Bool) → b ≡ true → not b ≡ true → ⊥
    not_both true a c = absurd cc
    not_both false a c = absurd cc

pub leaves_by_intros : {E : Type 0} (r : Result Bool E) (t : Table) (body : Body) (intros : List Intro) → body ≡ ExtIntro intros → IfOk r (λ stay. stay ≡ true → leave_parts t.extensions intros ≡ true) → IfOk r (λ stay. LeavesParts stay t body)
leaves_by_intros (Ok stay) t body intros same is = subst (LeavesParts stay t) (sym same) is
leaves_by_intros (Err e) t body intros same is = is

pub leaves_other : (stay : Bool) (t : Table) (body : Body) → ((intros : List Intro) → body ≡ ExtIntro intros → ⊥) → LeavesParts stay t body
leaves_other stay t (ExtIntro intros) none = absurd (none intros refl)
leaves_other stay t body none = tt

or_by : (a b : Bool) → (a || (b || false)) ≡ true → (a ≡ true) ⊎ (b ≡ true)
or_by true b e = inl refl
or_by false true e = inr refl
or_by false false e = absurd cc

-- one of so many and one more
pub any_next : {X : Type 0} (p : X → Bool) (xs : List X) (i : ℕ) (d : X) → i < length xs → list_any p (take (i + 1) xs) ≡ true → (list_any p (take i xs) ≡ true) ⊎ (p (get_or xs i d) ≡ true)
any_next p xs i d less e = or_by (list_any p (take i xs)) (p (get_or xs i d)) (sym (ap (list_any p) (take_more xs i d less) ∙ list_any-append p (take i xs) (get_or xs i d ∷ [])) ∙ e)

-- ---- introductions, and records in turn

pub does_table : (effect : Mailbox → Mailbox) (before after : Table) (change : PartsChange) → Does effect before after change → (m : Mailbox) → IsValid m → table_of m ≡ before → table_of (effect m) ≡ after
does_table effect before after change does m valid e =
    let same : with_table before m ≡ m = ap (λ (t : Table). with_table t m) (sym e) in
    ap table_of (ap effect (sym same) ∙ does m (subst IsValid (sym same) valid))

pub intros_move : (before after : Table) (intros : List Intro) → ((m : Mailbox) → IsValid (with_table before m) → HasTable after (fold with_intro (with_table before m) intros)) → MovesOn before (ExtIntro intros) after
intros_move before after intros has m n valid e made =
    let same : with_table before m ≡ m = ap (λ (t : Table). with_table t m) (sym e) in
    let behind : HasTable after (fold with_intro m intros) = subst (λ (k : Mailbox). HasTable after (fold with_intro k intros)) same (has m (subst IsValid (sym same) valid)) in
    by_some (λ k. table_of k ≡ after) (fold with_intro m intros) n (ap table_of (sym behind.is)) made

no_change : (before : Table) (body : Body) → LeavesTable body → MovesOn before body before
no_change before body is m n valid at e = effect_leaves m n body is e ∙ at

leaves_by : (body : Body) → ((intros : List Intro) → body ≡ ExtIntro intros → ⊥) → ((reset_id preserve : ℕ) → body ≡ ExtReset reset_id preserve → ⊥) → ((parts : List Part) → body ≡ ExtHeaderUpdate parts → ⊥) → LeavesTable body
leaves_by (ExtIntro intros) a b c = absurd (a intros refl)
leaves_by (ExtReset reset_id preserve) a b c = absurd (b reset_id preserve refl)
leaves_by (ExtHeaderUpdate parts) a b c = absurd (c parts refl)
leaves_by body a b c = tt

-- any other record leaves the table
pub others_leave : (before : Table) (body : Body) → ((intros : List Intro) → body ≡ ExtIntro intros → ⊥) → ((reset_id preserve : ℕ) → body ≡ ExtReset reset_id preserve → ⊥) → ((parts : List Part) → body ≡ ExtHeaderUpdate parts → ⊥) → MovesOn before body before
others_leave before body a b c = no_change before body (leaves_by body a b c)

pub moves_by : (before after : Table) (body is : Body) → body ≡ is → MovesOn before is after → MovesOn before body after
moves_by before after body is same moves = subst (λ (b : Body). MovesOn before b after) (sym same) moves

-- an effect without refusal
pub effect_moves : (before after : Table) (body : Body) (f : Mailbox → Mailbox) → ((m : Mailbox) → effect m body ≡ Some (f m)) → (change : PartsChange) → Does f before after change → MovesOn before body after
effect_moves before after body f is change does m n valid e made = by_some (λ k. table_of k ≡ after) (f m) n (does_table f before after change does m valid e) (sym (is m) ∙ made)

-- one record more leaves a valid mailbox with the next table
pub table_next : (m n : Mailbox) (rs : List Record) (j : ℕ) (r : Record) (before after : Table) → j < length rs → IsValid m → All (λ x. IsInRange x.body) rs
    → ((k : Mailbox) → applied m (take j rs) ≡ Some k → table_of k ≡ before) → MovesOn before (get_or rs j r).body after → applied m (take (j + 1) rs) ≡ Some n → table_of n ≡ after
table_next m n rs j r before after less valid in_range so_far moves e =
    let last : Record = get_or rs j r in
    let split : option_and_then (λ k. applied k (last ∷ [])) (applied m (take j rs)) ≡ Some n = sym (ap (applied m) (take_more rs j r less) ∙ applied_append (take j rs) (last ∷ []) m) ∙ e in
    option_and_then_some (λ k. applied k (last ∷ [])) (applied m (take j rs)) n split
    (λ k first later.
    let good : IsValid k = all_in_range_valid m k (take j rs) valid (All-take (λ (x : Record). IsInRange x.body) j rs in_range) first in
    last_by k last (after_record k last) refl later (λ x done. record_table k x last (λ t. t ≡ after) (λ y made. moves (with_higher k) y (higher_valid k good) (so_far k first) made) done))
  where
    last_by : (k : Mailbox) (r : Record) (o : Option Mailbox) → after_record k r ≡ o → option_and_then (λ x. applied x []) o ≡ Some n → ((x : Mailbox) → after_record k r ≡ Some x → table_of x ≡ after) → table_of n ≡ after
    last_by k r None at later each = absurd cc
    last_by k r (Some x) at later each = by_some (λ y. table_of y ≡ after) x n (each x at) later

-- ---- all that may change

pub only_again : (rows : List Row) (old new : List ℕ) → Adds rows old new → All (HasUid rows) old → All (HasUid rows) new
only_again rows old new adds each = All-weaker (Contains new) (HasUid rows) (λ uid h. by uid (adds.only uid h)) new (All-contains_itself new)
  where
    by : (uid : ℕ) → Contains old uid ⊎ HasUid rows uid → HasUid rows uid
    by uid (inl (k, h, at)) = subst (HasUid rows) at (each k uid h)
    by uid (inr h) = h

pub named_next : (m : Mailbox) (rs : List Record) (j : ℕ) (r : Record) (rows : List Row) (old new : List ℕ) (t : Table) → j < length rs → Adds rows old new → AreAllNamed j m rs rows old
    → ((n : Mailbox) → applied m (take j rs) ≡ Some n → table_of n ≡ t) → AreNamed t (get_or rs j r).body rows new → AreAllNamed (j + 1) m rs rows new
named_next m rs j r rows old new t low adds so_far table named k d n less inside at = by (cases_lt k j)
  where
    by : (k < j) ⊎ (j ≤ k) → AreNamed (table_of n) (get_or rs k d).body rows new
    by (inl before) uid h may = adds.kept uid (so_far k d n before inside at uid h may)
    by (inr last) uid h may =
        let same : k ≡ j = omega arith in
        let record_is : get_or rs k d ≡ get_or rs j r = ap (λ i. get_or rs i d) same ∙ get_or_default rs j d r low in
        let table_is : table_of n ≡ t = table n (ap (λ i. applied m (take i rs)) (sym same) ∙ at) in
        named uid h (ap (λ (x : Table). may_change x (get_or rs j r).body uid) (sym table_is) ∙ ap (λ (x : Record). may_change (table_of n) x.body uid) (sym record_is) ∙ may)
