-- A state of some rows apart, that has the keyword names meanwhile.
use Rattle.std.proofs.Common.{◌≡◌, ℕ, ◌+◌, ◌-◌, ◌<◌, ◌≤◌, Bool, true, false, cond, List, [], ◌∷◌, ◌++◌, length, nat_le, refl, sym, ◌∙◌, ap, subst, arith}
use Rattle.std.specs.Prelude.{◌||◌, All, Result, Err, drop, filter, take}
use Rattle.std.proofs.Math.Seq.{take-append_seam}
use Rattle.std.proofs.lemmas.Bool.Decides.{nat_tests}
use Rattle.std.proofs.lemmas.List.{length-append, length-take-le, take-append-drop}
use Rattle.std.proofs.lemmas.List.Elements.{All-head, All-tail, All-weaker}
use Rattle.dv_ext.specs.Tables.{Table}
use Rattle.dv_keywords.specs.Tables.{Keywords}
use Rattle.dv_model.specs.declared.types.Mailbox.{Mailbox}
use Rattle.dv_model.specs.declared.types.Row.{Row}
use Rattle.dv_model.specs.Mailboxes.{IsRowOf, IsValid}
use Rattle.dv_portion.proofs.Portioned.{portion_valid}
use Rattle.dv_portion.specs.Portions.{portion}
use Rattle.dv_rows.specs.Kept as rows
use Rattle.dv_rows.specs.Parted.{is_among, is_parted}
use Rattle.dv_validity.specs.Laws.{GrowsTo}
use Rattle.dv_apply.specs.Answers.{OnBadAppend}
use Rattle.dv_apply.specs.Bodies.{Refused}
use Rattle.dv_apply.specs.declared.fault.ApplyFault.{ApplyFault}
use Rattle.dv_apply.specs.declared.fault.ApplyFault.TheVariants.{BadAppend, NoMemory}
use Rattle.dv_apply.specs.declared.state.State.{State}
use Rattle.dv_apply.specs.States.{IsKept, mailbox_of}

filter_each : {X : Type 0} (p q : X → Bool) (xs : List X) → All (λ x. p x ≡ q x) xs → filter p xs ≡ filter q xs
filter_each p q [] same = refl
filter_each p q (x ∷ xs) same =
    ap (λ (b : Bool). cond b (x ∷ filter p xs) (filter p xs)) (All-head (λ y. p y ≡ q y) x xs same) ∙ ap (λ ys. cond (q x) (x ∷ ys) ys) (filter_each p q xs (All-tail (λ y. p y ≡ q y) x xs same))

pub or_false : (a b : Bool) → b ≡ false → a ≡ (a || b)
or_false true false e = refl
or_false false false e = refl
or_false a true e = absurd cc

pub above : (bound uid : ℕ) → uid < bound → nat_le bound uid ≡ false
above bound uid h = grind (arith, nat_tests)

-- no row of the mailbox is new
among_parted : (m : Mailbox) (uids : List ℕ) → IsValid m → filter (λ row. is_among uids row.uid) m.rows ≡ filter (λ row. is_parted uids m.next_uid row.uid) m.rows
among_parted m uids valid =
    filter_each (λ (row : Row). is_among uids row.uid) (λ (row : Row). is_parted uids m.next_uid row.uid) m.rows
    (All-weaker (IsRowOf m) (λ (row : Row). is_among uids row.uid ≡ is_parted uids m.next_uid row.uid)
    (λ row is. or_false (is_among uids row.uid) (nat_le m.next_uid row.uid) (above m.next_uid row.uid is.uid.1)) m.rows valid.rows)

-- some rows of a state, beside its names and extensions
abbrev pub apart_of : State → rows.Kept → Keywords → Table → Mailbox
apart_of s r names t = record {
  uid_validity = s.uid_validity;
  next_uid = s.next_uid;
  rows = r.rows;
  keywords = names.names;
  extensions = t.extensions;
  current = t.current;
  highest = s.highest;
}

pub apart_is : (s : State) (uids : List ℕ) (r : rows.Kept) (names : Keywords) (t : Table) → IsKept s → r ≡ record { rows = filter (λ row. is_among uids row.uid) s.rows.rows; room = 0 } → names ≡ s.names → t ≡ s.extensions
    → apart_of s r names t ≡ portion (is_parted uids s.next_uid) (mailbox_of s)
apart_is s uids r names t kept same named table =
    ap (λ (k : rows.Kept). apart_of s k names t) same
    ∙ ap (λ (n : Keywords). apart_of s (record { rows = filter (λ row. is_among uids row.uid) s.rows.rows; room = 0 }) n t) named
    ∙ ap (λ (x : Table). apart_of s (record { rows = filter (λ row. is_among uids row.uid) s.rows.rows; room = 0 }) s.names x) table
    ∙ ap (λ (rs : List Row). record (mailbox_of s) { rows = rs }) (among_parted (mailbox_of s) uids kept.valid)

pub apart_valid : (s : State) (uids : List ℕ) (r : rows.Kept) (names : Keywords) (t : Table) → IsKept s → r ≡ record { rows = filter (λ row. is_among uids row.uid) s.rows.rows; room = 0 } → names ≡ s.names → t ≡ s.extensions
    → IsValid (apart_of s r names t)
apart_valid s uids r names t kept same named table =
    subst IsValid (sym (apart_is s uids r names t kept same named table)) (portion_valid (is_parted uids s.next_uid) (mailbox_of s) kept.valid)

-- ---- names that come back

names_back : (old grown : List (List ℕ)) (n : ℕ) → GrowsTo old grown → n ≡ length old → take n grown ≡ old
names_back old grown n (more, is) counted = ap (λ k. take k grown) counted ∙ ap (take (length old)) is ∙ take-append_seam old more

pub still_kept : (s : State) (grown hidden : Keywords) (first : Keywords) (n : ℕ) → IsKept s → first ≡ s.names → GrowsTo first.names grown.names → n ≡ length s.names.names
    → hidden ≡ record { names = take n grown.names; kept = drop n grown.names ++ grown.kept } → IsKept (record s { names = hidden })
still_kept s grown hidden first n kept same grows counted is =
    let back : hidden.names ≡ s.names.names = ap (λ (k : Keywords). k.names) is ∙ names_back s.names.names grown.names n (subst (λ (k : Keywords). GrowsTo k.names grown.names) same grows) counted in
    record {
      valid = subst (λ (ns : List (List ℕ)). IsValid (record (mailbox_of s) { keywords = ns })) (sym back) kept.valid;
      spare = record { blank = kept.spare.blank; blanks = kept.spare.blanks; room = kept.spare.room };
    }

take_front : (n : ℕ) (xs ys : List (List ℕ)) → n ≡ length xs → take n (xs ++ ys) ≡ xs
take_front n xs ys e = ap (λ k. take k (xs ++ ys)) e ∙ take-append_seam xs ys

-- the names that are shown, and those that are new, are all
pub names_split : (grown : Keywords) (hidden : Keywords) (n added : ℕ) → n ≤ length grown.names → added ≡ length grown.names - n → hidden ≡ record { names = take n grown.names; kept = drop n grown.names ++ grown.kept }
    → hidden.names ++ take added hidden.kept ≡ grown.names
names_split grown hidden n added inside counted is =
    let shown : List (List ℕ) = take n grown.names in
    let new : List (List ℕ) = drop n grown.names in
    let all : shown ++ new ≡ grown.names = take-append-drop n grown.names in
    let many : length new ≡ added = let total : length shown + length new ≡ length grown.names = sym (length-append shown new) ∙ ap length all in let front : length shown ≡ n = length-take-le n grown.names inside in omega arith in
    ap (λ (k : Keywords). k.names ++ take added k.kept) is ∙ ap (λ (ns : List (List ℕ)). shown ++ ns) (take_front added new grown.kept (sym many)) ∙ all

-- ---- refusals

pub bad_by : {A : Type 0} (B : Type 0) (r : Result A ApplyFault) (e : ApplyFault) (P Q : Refused → Type 0) → r ≡ Err e → OnBadAppend r P → ((x : Refused) → P x → Q x) → OnBadAppend {A = B} (Err e) Q
bad_by B r (BadAppend uid next_uid) P Q is bad then = then (record { uid = uid; next_uid = next_uid }) (subst (λ x. OnBadAppend x P) is bad)
bad_by B r NoMemory P Q is bad then = tt
