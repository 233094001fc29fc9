-- The UIDNEXT behind records, by which rows are refused.
use Rattle.std.proofs.Common.{◌≡◌, ◌⊎◌, inl, inr, ℕ, ◌+◌, ◌%◌, ◌/◌, ◌<◌, ◌≤◌, max, Bool, true, false, cond, ◌&&◌, List, [], ◌∷◌, ◌++◌, length, get_or, nat_eq, Option, Some, None, refl, sym, ◌∙◌, ap, subst, arith}
use Rattle.std.specs.Prelude.{IfOk, IsSomeAnd, OnOk, Result, Ok, Err, drop, fold, option_and_then, option_map, take}
use Rattle.std.proofs.lemmas.Bool.{cases_lt}
use Rattle.std.proofs.lemmas.List.{get_or_default, take-append-drop, take-take, take_all, take_more}
use Rattle.dv_model.proofs.Transcripts.{applied_append}
use Rattle.dv_model.specs.declared.types.Body.{Body}
use Rattle.dv_model.specs.declared.types.Body.TheVariants.{Append, HeaderUpdate, KeywordUpdate, Expunge, ExpungeGuid, FlagUpdate, KeywordReset, ExtIntro, ExtReset, ExtHeaderUpdate, ExtRecordUpdate, Carried}
use Rattle.dv_model.specs.declared.types.Current.{Current}
use Rattle.dv_model.specs.declared.types.How.{How}
use Rattle.dv_model.specs.declared.types.How.TheVariants.{Add, Remove, Replace}
use Rattle.dv_model.specs.declared.types.Mailbox.{Mailbox}
use Rattle.dv_model.specs.declared.types.NewRow.{NewRow}
use Rattle.dv_model.specs.declared.types.Pair.{Pair}
use Rattle.dv_model.specs.declared.types.Part.{Part}
use Rattle.dv_model.specs.declared.types.Record.{Record}
use Rattle.dv_model.specs.declared.types.Row.{Row}
use Rattle.dv_model.specs.Effects.{after_record, applied, effect, header_number, is_request, on_current, place_of, removes, stamped, update_rows, update_size, with_change, with_header_part, with_header_parts, with_higher, with_keyword, with_named, with_next_uid, with_reset, with_row, with_rows, with_update, with_updates, with_validity}
use Rattle.dv_ext.proofs.Sizing.{only_those}
use Rattle.dv_validity.proofs.Rows.{fold_keeps_any}
use Rattle.dv_apply.specs.Answers.{OnBadAppend}
use Rattle.dv_apply.specs.declared.fault.ApplyFault.{ApplyFault}
use Rattle.dv_apply.specs.declared.fault.ApplyFault.TheVariants.{BadAppend, NoMemory}
use Rattle.dv_apply.specs.Bodies.{Refused, first_refused, next_after, refused_row}
use Rattle.dv_apply.specs.Preparing.{IsRefused}
use Rattle.dv_apply.proofs.Appending.{folded, rows_in_turn}
use Rattle.dv_apply.proofs.Refusing.{refused_none}

-- ---- an effect

abbrev pub LeavesNext : Mailbox → ℕ → Body → Type 0
LeavesNext m next body = IsSomeAnd (effect m body) (λ n. n.next_uid ≡ next)

some_with : (o : Option Mailbox) (n : Mailbox) (next : ℕ) → o ≡ Some n → n.next_uid ≡ next → IsSomeAnd o (λ k. k.next_uid ≡ next)
some_with o n next e is = subst (λ (x : Option Mailbox). IsSomeAnd x (λ k. k.next_uid ≡ next)) (sym e) is

pub append_next : (m : Mailbox) (rows : List NewRow) (next : ℕ) → first_refused m.next_uid rows ≡ None → next ≡ next_after m.next_uid rows → LeavesNext m next (Append rows)
append_next m rows next new is = some_with (with_rows m rows) (fold with_row m rows) next (rows_in_turn m rows new) (ap (λ (x : Mailbox). x.next_uid) (folded m rows) ∙ sym is)

pub append_told : (r : Result ℕ ApplyFault) (rows : List NewRow) (body : Body) (bound : ℕ) → body ≡ Append rows → OnOk r (first_refused bound rows ≡ None) → IfOk r (λ next. next ≡ next_after bound rows)
    → IfOk r (λ next. (m : Mailbox) → m.next_uid ≡ bound → LeavesNext m next body)
append_told (Ok next) rows body bound same new is = λ m e.
    subst (LeavesNext m next) (sym same) (append_next m rows next (ap (λ (b : ℕ). first_refused b rows) e ∙ new) (is ∙ ap (λ (b : ℕ). next_after b rows) (sym e)))
append_told (Err e) rows body bound same new is = is

beside_by : (m n : Mailbox) (a b : Option ℕ) → m.next_uid ≡ n.next_uid → (with_next_uid (with_validity m a) b).next_uid ≡ (with_next_uid (with_validity n a) b).next_uid
beside_by m n None None e = e
beside_by m n None (Some k) e = ap (λ (x : ℕ). max x k) e
beside_by m n (Some v) None e = e
beside_by m n (Some v) (Some k) e = ap (λ (x : ℕ). max x k) e

-- the UIDVALIDITY says nothing of the UIDNEXT
headers_beside : (m n : Mailbox) (parts : List Part) → m.next_uid ≡ n.next_uid → (fold with_header_part m parts).next_uid ≡ (fold with_header_part n parts).next_uid
headers_beside m n [] e = e
headers_beside m n (part ∷ parts) e = headers_beside (with_header_part m part) (with_header_part n part) parts (beside_by m n (header_number part 24) (header_number part 28) e)

pub header_next : (m : Mailbox) (parts : List Part) (next bound : ℕ) → m.next_uid ≡ bound
    → ((k : Mailbox) → k.uid_validity ≡ 0 → k.next_uid ≡ bound → (fold with_header_part k parts).next_uid ≡ next) → LeavesNext m next (HeaderUpdate parts)
header_next m parts next bound e is = headers_beside m (record m { uid_validity = 0 }) parts refl ∙ is (record m { uid_validity = 0 }) refl e

named_next : (m : Mailbox) (how : How) (name : List ℕ) → (with_named how name m).next_uid ≡ m.next_uid
named_next m Add name = refl
named_next m Remove name = refl
named_next m Replace name = refl

keyword_by : (m : Mailbox) (how : How) (name : List ℕ) (pairs : List Pair) (o : Option ℕ) → place_of m.keywords name ≡ o → (with_keyword how name pairs m).next_uid ≡ m.next_uid
keyword_by m how name pairs None e = rw e refl
keyword_by m how name pairs (Some k) e = rw e refl

current_by : (m : Mailbox) (change : Current → Mailbox) → ((c : Current) → (change c).next_uid ≡ m.next_uid) → (o : Option Current) → m.current ≡ o → (on_current m change).next_uid ≡ m.next_uid
current_by m change each None e = rw e refl
current_by m change each (Some c) e = rw e (each c)

either : (b : Bool) (x y m : Mailbox) → x.next_uid ≡ m.next_uid → y.next_uid ≡ m.next_uid → (cond b x y).next_uid ≡ m.next_uid
either true x y m one two = one
either false x y m one two = two

-- any other record leaves it
pub plain_next : (m : Mailbox) (next : ℕ) (body : Body) → m.next_uid ≡ next → ((rows : List NewRow) → body ≡ Append rows → ⊥) → ((parts : List Part) → body ≡ HeaderUpdate parts → ⊥) → LeavesNext m next body
plain_next m next (Append rows) e a h = absurd (a rows refl)
plain_next m next (HeaderUpdate parts) e a h = absurd (h parts refl)
plain_next m next (Expunge pairs) e a h = e
plain_next m next (ExpungeGuid rows) e a h = e
plain_next m next (FlagUpdate changes) e a h = fold_keeps_any (λ k. k.next_uid ≡ m.next_uid) with_change (λ k change same. same) m changes refl ∙ e
plain_next m next (KeywordUpdate how name pairs) e a h =
    let n : Mailbox = with_named how name m in
    keyword_by n how name pairs (place_of n.keywords name) refl ∙ named_next m how name ∙ e
plain_next m next (KeywordReset pairs) e a h = e
plain_next m next (ExtIntro intros) e a h = ap (λ (x : Mailbox). x.next_uid) (only_those m intros) ∙ e
plain_next m next (ExtReset reset_id preserve) e a h = current_by m (with_reset reset_id preserve m) (λ c. either (nat_eq preserve 0) _ _ m refl refl) m.current refl ∙ e
plain_next m next (ExtHeaderUpdate parts) e a h = current_by m (with_header_parts parts m) (λ c. refl) m.current refl ∙ e
plain_next m next (ExtRecordUpdate bytes) e a h =
    current_by m (with_updates bytes m)
    (λ c. either (nat_eq (length bytes % update_size c.size) 0) (fold (with_update c) m (update_rows (length bytes / update_size c.size) (update_size c.size) bytes)) m m
    (fold_keeps_any (λ k. k.next_uid ≡ m.next_uid) (with_update c) (λ k update same. same) m (update_rows (length bytes / update_size c.size) (update_size c.size) bytes) refl) refl)
    m.current refl
    ∙ e
plain_next m next (Carried code bytes) e a h = e

-- ---- a record

request_by : (m : Mailbox) (next : ℕ) (body : Body) (b : Bool) → removes body && b ≡ true → LeavesNext m next body → m.next_uid ≡ next
request_by m next (Expunge pairs) b e is = is
request_by m next (ExpungeGuid rows) b e is = is
request_by m next (Append rows) b e is = absurd cc
request_by m next (HeaderUpdate parts) b e is = absurd cc
request_by m next (FlagUpdate changes) b e is = absurd cc
request_by m next (KeywordUpdate how name pairs) b e is = absurd cc
request_by m next (KeywordReset pairs) b e is = absurd cc
request_by m next (ExtIntro intros) b e is = absurd cc
request_by m next (ExtReset reset_id preserve) b e is = absurd cc
request_by m next (ExtHeaderUpdate parts) b e is = absurd cc
request_by m next (ExtRecordUpdate bytes) b e is = absurd cc
request_by m next (Carried code bytes) b e is = absurd cc

abbrev HasNext : ℕ → Option Mailbox → Type 0
HasNext next o = IsSomeAnd o (λ n. n.next_uid ≡ next)

stamped_next : (rows : List Row) (next : ℕ) (o : Option Mailbox) → HasNext next o → HasNext next (option_map (stamped rows) o)
stamped_next rows next None is = is
stamped_next rows next (Some k) is = is

record_by : (m : Mailbox) (r : Record) (next : ℕ) (b : Bool) → is_request r ≡ b → LeavesNext (with_higher m) next r.body
    → HasNext next (cond b (Some (with_higher m)) (option_map (stamped m.rows) (effect (with_higher m) r.body)))
record_by m r next true asks is = request_by (with_higher m) next r.body _ asks is
record_by m r next false asks is = stamped_next m.rows next (effect (with_higher m) r.body) is

pub record_next : (m : Mailbox) (r : Record) (next : ℕ) → LeavesNext (with_higher m) next r.body → HasNext next (after_record m r)
record_next m r next is = record_by m r next (is_request r) refl is

-- ---- records in turn

last_next : (next : ℕ) (o : Option Mailbox) → HasNext next o → HasNext next (option_and_then (λ n. applied n []) o)
last_next next None is = is
last_next next (Some k) is = is

turn_by : (r : Record) (next later : ℕ) (o : Option Mailbox) → HasNext next o → ((k : Mailbox) → k.next_uid ≡ next → LeavesNext k later r.body) → HasNext later (option_and_then (λ k. applied k (r ∷ [])) o)
turn_by r next later None is step = absurd is
turn_by r next later (Some k) is step = last_next later (after_record k r) (record_next k r later (step (with_higher k) is))

split : (m : Mailbox) (rs : List Record) (i : ℕ) (r : Record) → i < length rs → applied m (take (i + 1) rs) ≡ option_and_then (λ k. applied k (get_or rs i r ∷ [])) (applied m (take i rs))
split m rs i r less = ap (applied m) (take_more rs i r less) ∙ applied_append (take i rs) (get_or rs i r ∷ []) m

pub in_turn : (m : Mailbox) (rs : List Record) (i : ℕ) (r : Record) (next later : ℕ) → i < length rs → HasNext next (applied m (take i rs)) → ((k : Mailbox) → k.next_uid ≡ next → LeavesNext k later (get_or rs i r).body)
    → HasNext later (applied m (take (i + 1) rs))
in_turn m rs i r next later less is step = subst (HasNext later) (sym (split m rs i r less)) (turn_by (get_or rs i r) next later (applied m (take i rs)) is step)

refused_by : (m : Mailbox) (rs : List Record) (i : ℕ) (r : Record) (next : ℕ) (x : Refused) → i < length rs → (o : Option Mailbox) → applied m (take i rs) ≡ o → HasNext next o
    → ((k : Mailbox) → k.next_uid ≡ next → refused_row k (get_or rs i r).body ≡ Some x) → IsRefused m rs x
refused_by m rs i r next x less None at is each = absurd is
refused_by m rs i r next x less (Some n) at is each = (i, r, n, less, at, each n is)

pub refused_at : (m : Mailbox) (rs : List Record) (i : ℕ) (r : Record) (next : ℕ) (x : Refused) → i < length rs → HasNext next (applied m (take i rs))
    → ((k : Mailbox) → k.next_uid ≡ next → refused_row k (get_or rs i r).body ≡ Some x) → IsRefused m rs x
refused_at m rs i r next x less is each = refused_by m rs i r next x less (applied m (take i rs)) refl is each

-- ---- one row is refused

none_then : (m : Mailbox) (r : Record) → after_record m r ≡ None → applied m (r ∷ []) ≡ None
none_then m r e = ap (option_and_then (λ n. applied n [])) e

-- nothing comes of records behind a refused one
none_after : (m n : Mailbox) (rs : List Record) (k j : ℕ) (d : Record) (x : Refused) → k < length rs → applied m (take k rs) ≡ Some n → refused_row n (get_or rs k d).body ≡ Some x → k < j → applied m (take j rs) ≡ None
none_after m n rs k j d x less at refused later =
    let here : applied m (take (k + 1) rs) ≡ None =
    split m rs k d less ∙ ap (option_and_then (λ (y : Mailbox). applied y (get_or rs k d ∷ []))) at ∙ none_then n (get_or rs k d) (refused_none n (get_or rs k d) x refused) in
    let front : take (k + 1) (take j rs) ≡ take (k + 1) rs = take-take (k + 1) j rs (omega arith) in
    ap (applied m) (sym (take-append-drop (k + 1) (take j rs)) ∙ ap (λ (xs : List Record). xs ++ drop (k + 1) (take j rs)) front)
    ∙ applied_append (take (k + 1) rs) (drop (k + 1) (take j rs)) m
    ∙ ap (option_and_then (λ (y : Mailbox). applied y (drop (k + 1) (take j rs)))) here

never : (o : Option Mailbox) (n : Mailbox) → o ≡ None → o ≡ Some n → ⊥
never None n e f = absurd cc
never (Some k) n e f = absurd cc

one_refused : (m : Mailbox) (rs : List Record) (x y : Refused) → IsRefused m rs x → IsRefused m rs y → x ≡ y
one_refused m rs x y (k, d, n, less, at, is) (j, c, o, short, there, also) = by (cases_lt k j)
  where
    same_by : k ≡ j → x ≡ y
    same_by e =
        let one : Some n ≡ Some o = sym at ∙ ap (λ (i : ℕ). applied m (take i rs)) e ∙ there in
        let same : n ≡ o = cc in
        let rows : Some x ≡ Some y = sym is ∙ ap (λ (b : Mailbox). refused_row b (get_or rs k d).body) same ∙ ap (λ (i : ℕ). refused_row o (get_or rs i d).body) e ∙ ap (λ (r : Record). refused_row o r.body) (get_or_default rs j d c short) ∙ also in
        cc

    not_before : (j < k) ⊎ (k ≤ j) → j ≤ k → x ≡ y
    not_before (inl before) le = let none : applied m (take k rs) ≡ None = none_after m o rs j k c y short there also before in absurd (never (applied m (take k rs)) n none at)
    not_before (inr past) le = same_by (omega arith)

    by : (k < j) ⊎ (j ≤ k) → x ≡ y
    by (inl before) = let none : applied m (take j rs) ≡ None = none_after m n rs k j d x less at is before in absurd (never (applied m (take j rs)) o none there)
    by (inr le) = not_before (cases_lt j k) le

-- what a test answers of a refused row
pub refused_told : {A : Type 0} (r : Result A ApplyFault) (m : Mailbox) (rs : List Record) (x : Refused) → (r ≡ Err NoMemory → ⊥) → OnBadAppend r (IsRefused m rs) → OnOk r (IsSomeAnd (applied m rs) (λ n. Unit {0})) → IsRefused m rs x → r ≡ Err (BadAppend x.uid x.next_uid)
refused_told (Ok a) m rs x memory bad ok (k, d, n, less, at, is) =
    let none : applied m rs ≡ None = ap (applied m) (sym (take_all (length rs) rs (omega arith))) ∙ none_after m n rs k (length rs) d x less at is less in
    absurd (subst (λ (o : Option Mailbox). IsSomeAnd o (λ n. Unit {0})) none ok)
refused_told (Err (BadAppend uid next_uid)) m rs x memory bad ok is =
    let y : Refused = record { uid = uid; next_uid = next_uid } in
    ap (λ (z : Refused). Err (BadAppend z.uid z.next_uid)) (one_refused m rs y x bad is)
refused_told (Err NoMemory) m rs x memory bad ok is = absurd (memory refl)

pub told_by : {A : Type 0} (r : Result A ApplyFault) (m : Mailbox) (rs : List Record) (x : Refused) → (r ≡ Err NoMemory → ⊥) → OnBadAppend r (λ y. (k : Mailbox) → k.next_uid ≡ m.next_uid → IsRefused k rs y)
    → OnOk r ((k : Mailbox) → k.next_uid ≡ m.next_uid → IsSomeAnd (applied k rs) (λ n. Unit {0})) → IsRefused m rs x → r ≡ Err (BadAppend x.uid x.next_uid)
told_by (Ok a) m rs x memory bad ok is = refused_told (Ok a) m rs x memory bad (ok m refl) is
told_by (Err (BadAppend uid next_uid)) m rs x memory bad ok is = refused_told (Err (BadAppend uid next_uid)) m rs x memory (bad m refl) ok is
told_by (Err NoMemory) m rs x memory bad ok is = absurd (memory refl)

abbrev failed : (B : Type 0) → ApplyFault → Result B ApplyFault
failed B e = Err e

pub err_same : {A : Type 0} (B : Type 0) (r : Result A ApplyFault) (e : ApplyFault) (x : Refused) → r ≡ Err e → r ≡ Err (BadAppend x.uid x.next_uid) → failed B e ≡ failed B (BadAppend x.uid x.next_uid)
err_same {A} B r e x is told = let both : failed A e ≡ failed A (BadAppend x.uid x.next_uid) = sym is ∙ told in let same : e ≡ BadAppend x.uid x.next_uid = cc in ap (failed B) same
