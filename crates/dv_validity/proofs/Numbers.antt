-- The numbers go on, and no UID comes back.
use Rattle.std.proofs.Common.{◌≡◌, ◌≢◌, inl, inr, ℕ, ◌+◌, ◌<◌, ◌≤◌, Bool, true, false, cond, List, [], ◌∷◌, get_or, min, nat_eq, Option, Some, None, refl, sym, ◌∙◌, ap, subst, arith}
use Rattle.std.proofs.lemmas.Bool.{ne_eqb}
use Rattle.std.specs.Prelude.{All, Any, find}
use Rattle.std.specs.List.{list_any}
use Rattle.std.proofs.lemmas.Bool.Decides.{nat_tests}
use Rattle.std.proofs.lemmas.List.{append-nil, get_or_default}
use Rattle.std.proofs.lemmas.List.Elements.{All-cons, All-head, All-map, All-nil, All-tail, All-weaker}
use Rattle.std.proofs.lemmas.List.Folds.{Any-from_list_any}
use Rattle.std.proofs.lemmas.Option.{option_and_then_some}
use Rattle.dv_model.specs.declared.types.Mailbox.{Mailbox}
use Rattle.dv_model.specs.declared.types.Record.{Record}
use Rattle.dv_model.specs.declared.types.Row.{Row}
use Rattle.dv_model.specs.Effects.{after_record, applied, is_as_before, is_request, stamped_row, with_higher}
use Rattle.dv_model.specs.Mailboxes.{IsRowOf, IsValid, last_modseq}
use Rattle.dv_model.specs.Views.{row_of}
use Rattle.dv_validity.proofs.Comparisons.{AreRising, as_before_itself, as_before_uid, row_is_one}
use Rattle.dv_validity.proofs.Records.{after_by, by_some, effect_goes_on}
use Rattle.dv_validity.proofs.Rows.{IsFrom, Lacks, grows_again}
use Rattle.dv_validity.specs.Laws.{GrowsTo, IsStamped, NeverFalls, RisesTo}

-- ---- UIDs

lacks_by : (uid : ℕ) (row : Row) (o : Option Row) (b : Bool) → nat_eq row.uid uid ≡ b → cond b (Some row) o ≡ None → (row.uid ≢ uid) × (o ≡ None)
lacks_by uid row o true e is = absurd cc
lacks_by uid row o false e is = (λ same. let found : nat_eq row.uid uid ≡ true = grind (arith, nat_tests) in absurd cc, is)

pub lacks_of : (uid : ℕ) (rows : List Row) → find (λ row. nat_eq row.uid uid) rows ≡ None → Lacks uid rows
lacks_of uid [] e = All-nil (λ (row : Row). row.uid ≢ uid)
lacks_of uid (row ∷ rows) e =
    let both = lacks_by uid row (find (λ row. nat_eq row.uid uid) rows) (nat_eq row.uid uid) refl e in
    All-cons (λ (row : Row). row.uid ≢ uid) row rows both.0 (lacks_of uid rows both.1)

none_of : (uid : ℕ) (rows : List Row) → Lacks uid rows → find (λ row. nat_eq row.uid uid) rows ≡ None
none_of uid [] lacks = refl
none_of uid (row ∷ rows) lacks =
    ap (λ (b : Bool). cond b (Some row) (find (λ row. nat_eq row.uid uid) rows)) (ne_eqb row.uid uid (All-head (λ (row : Row). row.uid ≢ uid) row rows lacks))
    ∙ none_of uid rows (All-tail (λ (row : Row). row.uid ≢ uid) row rows lacks)

uid_by : (b : Bool) (n : ℕ) (row : Row) → (cond b row (record row { modseq = n })).uid ≡ row.uid
uid_by true n row = refl
uid_by false n row = refl

-- what was given out stays so, and keywords stay in their places
pub record Keeps (m n : Mailbox) : Type 0 where
  pub next_uid : m.next_uid ≤ n.next_uid
  pub gone : (uid : ℕ) → uid < m.next_uid → Lacks uid m.rows → Lacks uid n.rows
  pub table : GrowsTo m.keywords n.keywords

keeps_itself : (m : Mailbox) → Keeps m m
keeps_itself m = record { next_uid = omega arith; gone = λ uid h lacks. lacks; table = ([], sym (append-nil m.keywords)) }

pub record_keeps : (m n : Mailbox) (r : Record) → after_record m r ≡ Some n → Keeps m n
record_keeps m n r e =
    after_by (Keeps m) m n r (record { next_uid = omega arith; gone = λ uid h lacks. lacks; table = ([], sym (append-nil m.keywords)) })
    (λ k done. let on = effect_goes_on (with_higher m) k r.body done in record {
      next_uid = on.next_uid;
      gone = λ uid h lacks. All-map (λ (row : Row). row.uid ≢ uid) (stamped_row m.rows k.highest) k.rows
          (All-weaker (λ (row : Row). row.uid ≢ uid) (λ (row : Row). (stamped_row m.rows k.highest row).uid ≢ uid) (λ row other e. other (sym (uid_by (list_any (is_as_before row) m.rows) k.highest row) ∙ e)) k.rows (on.gone uid h lacks));
      table = on.table;
    })
    (is_request r) e

pub records_keep : (m n : Mailbox) (rs : List Record) → applied m rs ≡ Some n → Keeps m n
records_keep m n [] e = by_some (Keeps m) m n (keeps_itself m) e
records_keep m n (r ∷ rs) e =
    option_and_then_some (λ k. applied k rs) (after_record m r) n e
    (λ k first rest. let one = record_keeps m k r first in let others = records_keep k n rs rest in record {
      next_uid = omega (arith, one.next_uid, others.next_uid);
      gone = λ uid h lacks. others.gone uid (omega (arith, one.next_uid)) (one.gone uid h lacks);
      table = grows_again m.keywords k.keywords n.keywords one.table others.table;
    })

pub none_returns : (m n : Mailbox) (r : Record) (uid : ℕ) → after_record m r ≡ Some n → uid < m.next_uid → row_of m uid ≡ None → row_of n uid ≡ None
none_returns m n r uid e h none = none_of uid n.rows ((record_keeps m n r e).gone uid h (lacks_of uid m.rows none))

pub none_returns_in_turn : (m n : Mailbox) (rs : List Record) (uid : ℕ) → applied m rs ≡ Some n → uid < m.next_uid → row_of m uid ≡ None → row_of n uid ≡ None
none_returns_in_turn m n rs uid e h none = none_of uid n.rows ((records_keep m n rs e).gone uid h (lacks_of uid m.rows none))

-- ---- modification sequences

-- a row that is as before has its number
stamp_from : (rows : List Row) (n : ℕ) (row : Row) → AreRising rows → IsFrom rows n row → Any (λ old. is_as_before row old ≡ true) rows → IsStamped rows n row
stamp_from rows n row rising (inr is) same = inr is
stamp_from rows n row rising (inl (i, first, p, at, alike)) (j, old, q, there, passes) =
    let uids : first.uid ≡ old.uid = alike.0 ∙ as_before_uid row old passes in
    let one : first ≡ old = row_is_one rows rising first old (i, p, at) (j, q, there) uids in
    inl (j, old, q, there, (passes, sym alike.1 ∙ ap (λ (row : Row). row.modseq) one))

stamp_by : (rows : List Row) (n : ℕ) (row : Row) → AreRising rows → IsFrom rows n row → (b : Bool) → list_any (is_as_before row) rows ≡ b → IsStamped rows n (cond b row (record row { modseq = n }))
stamp_by rows n row rising from true e = stamp_from rows n row rising from (Any-from_list_any (is_as_before row) rows e)
stamp_by rows n row rising from false e = inr refl

stamps_itself : (rows : List Row) (n : ℕ) → All (IsStamped rows n) rows
stamps_itself rows n k d h = inl (k, get_or rows k d, h, get_or_default rows k (get_or rows k d) d h, (as_before_itself (get_or rows k d), refl))

-- a record's modification sequence is the next, and each row is as before or has that one
record HasNext (m n : Mailbox) : Type 0 where
  next_uid : m.next_uid ≤ n.next_uid
  highest : n.highest ≡ min (m.highest + 1) last_modseq
  rows : All (IsStamped m.rows n.highest) n.rows

record_has_next : (m n : Mailbox) (r : Record) → IsValid m → after_record m r ≡ Some n → HasNext m n
record_has_next m n r valid e =
    after_by (HasNext m) m n r (record { next_uid = omega arith; highest = refl; rows = stamps_itself m.rows (with_higher m).highest })
    (λ k done. let on = effect_goes_on (with_higher m) k r.body done in record {
      next_uid = on.next_uid;
      highest = on.highest;
      rows = All-map (IsStamped m.rows k.highest) (stamped_row m.rows k.highest) k.rows
          (All-weaker (IsFrom m.rows k.highest) (λ row. IsStamped m.rows k.highest (stamped_row m.rows k.highest row))
          (λ row from. stamp_by m.rows k.highest row valid.rising from (list_any (is_as_before row) m.rows) refl) k.rows
          (subst (λ h. All (IsFrom m.rows h) k.rows) (sym on.highest) on.from));
    })
    (is_request r) e

-- the mailbox's number is a modification sequence, and no row has a higher one
record IsUpTo (m : Mailbox) : Type 0 where
  highest : m.highest ≤ last_modseq
  rows : All (λ row. row.modseq ≤ m.highest) m.rows

up_to_from : (m : Mailbox) (n : ℕ) (row : Row) → IsUpTo m → m.highest ≤ n → IsFrom m.rows n row → row.modseq ≤ n
up_to_from m n row up le (inr is) = omega arith
up_to_from m n row up le (inl (k, old, h, at, alike)) =
    let low : old.modseq ≤ m.highest = subst (λ (x : Row). x.modseq ≤ m.highest) at (up.rows k old h) in
    let same : old.modseq ≡ row.modseq = alike.1 in
    omega arith

up_to_by : (b : Bool) (n : ℕ) (row : Row) → row.modseq ≤ n → (cond b row (record row { modseq = n })).modseq ≤ n
up_to_by true n row h = h
up_to_by false n row h = omega arith

-- a later mailbox whose rows are up to its number
record GoesUp (m n : Mailbox) : Type 0 where
  next_uid : m.next_uid ≤ n.next_uid
  highest : m.highest ≤ n.highest
  up : IsUpTo n

record_goes_up : (m n : Mailbox) (r : Record) → IsUpTo m → after_record m r ≡ Some n → GoesUp m n
record_goes_up m n r up e =
    let high : m.highest ≤ last_modseq = up.highest in
    after_by (GoesUp m) m n r
    (record {
      next_uid = omega arith;
      highest = omega arith;
      up = record { highest = omega arith; rows = All-weaker (λ (row : Row). row.modseq ≤ m.highest) (λ (row : Row). row.modseq ≤ (with_higher m).highest) (λ row h. omega arith) m.rows up.rows };
    })
    (λ k done.
    let on = effect_goes_on (with_higher m) k r.body done in
    let same : k.highest ≡ min (m.highest + 1) last_modseq = on.highest in
    record {
      next_uid = on.next_uid;
      highest = omega arith;
      up = record {
        highest = omega arith;
        rows = All-map (λ (row : Row). row.modseq ≤ k.highest) (stamped_row m.rows k.highest) k.rows
            (All-weaker (IsFrom m.rows k.highest) (λ (row : Row). (stamped_row m.rows k.highest row).modseq ≤ k.highest)
            (λ row from. up_to_by (list_any (is_as_before row) m.rows) k.highest row (up_to_from m k.highest row up (omega arith) from)) k.rows
            (subst (λ h. All (IsFrom m.rows h) k.rows) (sym on.highest) on.from));
      };
    })
    (is_request r) e

records_go_up : (m n : Mailbox) (rs : List Record) → IsUpTo m → applied m rs ≡ Some n → GoesUp m n
records_go_up m n [] up e = by_some (GoesUp m) m n (record { next_uid = omega arith; highest = omega arith; up = up }) e
records_go_up m n (r ∷ rs) up e =
    option_and_then_some (λ k. applied k rs) (after_record m r) n e
    (λ k first rest. let one = record_goes_up m k r up first in let others = records_go_up k n rs one.up rest in record {
      next_uid = omega (arith, one.next_uid, others.next_uid);
      highest = omega (arith, one.highest, others.highest);
      up = others.up;
    })

valid_up_to : (m : Mailbox) → IsValid m → IsUpTo m
valid_up_to m valid = record { highest = valid.highest.1; rows = All-weaker (IsRowOf m) (λ (row : Row). row.modseq ≤ m.highest) (λ row is. is.modseq.1) m.rows valid.rows }

pub record_rises : (m n : Mailbox) (r : Record) → IsValid m → after_record m r ≡ Some n → RisesTo m n
record_rises m n r valid e =
    let next = record_has_next m n r valid e in
    let on = record_goes_up m n r (valid_up_to m valid) e in
    record { next_uid = next.next_uid; highest = next.highest; rows = next.rows; up_to = on.up.rows }

pub records_never_fall : (m n : Mailbox) (rs : List Record) → IsValid m → applied m rs ≡ Some n → NeverFalls m n
records_never_fall m n rs valid e =
    let on = records_go_up m n rs (valid_up_to m valid) e in
    record { next_uid = on.next_uid; highest = on.highest; rows = on.up.rows }
