-- A mailbox that followed a view follows it behind further records.
use Rattle.std.proofs.Common.{◌≡◌, ◌≢◌, ◌⊎◌, inl, inr, ℕ, ◌<◌, ◌≤◌, Bool, true, false, List, [], ◌∷◌, ◌++◌, length, get_or, nat_eq, Some, refl, ◌∙◌, ap, subst, arith}
use Rattle.std.specs.Prelude.{All}
use Rattle.std.proofs.lemmas.Bool.{cases_lt}
use Rattle.std.proofs.lemmas.Bool.Decides.{nat_tests}
use Rattle.std.proofs.lemmas.List.{append_assoc}
use Rattle.std.proofs.lemmas.List.Elements.{All-cons, All-head, All-nil, All-tail}
use Rattle.dv_model.specs.declared.types.Mailbox.{Mailbox}
use Rattle.dv_model.specs.declared.types.Record.{Record}
use Rattle.dv_model.specs.declared.types.Row.{Row}
use Rattle.dv_model.specs.Effects.{applied}
use Rattle.dv_model.specs.Laws.{Follows}
use Rattle.dv_model.specs.Views.{View, shows_uid}
use Rattle.dv_validity.proofs.Numbers.{Keeps, records_keep}
use Rattle.dv_validity.proofs.Records.{all_in_range_valid}
use Rattle.dv_validity.proofs.Rows.{Lacks}
use Rattle.dv_validity.specs.Laws.{IsInRange}

-- ---- what holds of each UID holds of this one, or no row has it

here_or_lacks_by : (Q : ℕ → Type 0) (uid : ℕ) (row : Row) (rows : List Row) → Q row.uid → Q uid ⊎ Lacks uid rows → (b : Bool) → nat_eq row.uid uid ≡ b → Q uid ⊎ Lacks uid (row ∷ rows)
here_or_lacks_by Q uid row rows is rest true e = let same : row.uid ≡ uid = grind (arith, nat_tests) in inl (subst Q same is)
here_or_lacks_by Q uid row rows is (inl later) false e = inl later
here_or_lacks_by Q uid row rows is (inr lacks) false e =
    inr (All-cons (λ (old : Row). old.uid ≢ uid) row rows (λ same. let found : nat_eq row.uid uid ≡ true = grind (arith, nat_tests) in absurd cc) lacks)

here_or_lacks : (Q : ℕ → Type 0) (uid : ℕ) (rows : List Row) → All (λ row. Q row.uid) rows → Q uid ⊎ Lacks uid rows
here_or_lacks Q uid [] each = inr (All-nil (λ (old : Row). old.uid ≢ uid))
here_or_lacks Q uid (row ∷ rows) each =
    here_or_lacks_by Q uid row rows (All-head (λ (row : Row). Q row.uid) row rows each) (here_or_lacks Q uid rows (All-tail (λ (row : Row). Q row.uid) row rows each)) (nat_eq row.uid uid) refl

-- ---- the view

-- the view shows the UID, or it is new
abbrev IsKnown : View → ℕ → Type 0
IsKnown view uid = (shows_uid view uid ≡ true) ⊎ (view.next_uid ≤ uid)

known_by : (m n : Mailbox) (view : View) → Keeps m n → All (λ row. IsKnown view row.uid) m.rows → view.next_uid ≤ m.next_uid → (k : ℕ) (d : Row) → k < length n.rows
    → (get_or n.rows k d).uid < m.next_uid ⊎ m.next_uid ≤ (get_or n.rows k d).uid
    → IsKnown view (get_or n.rows k d).uid
known_by m n view keeps each le k d h (inr new) = inr (omega arith)
known_by m n view keeps each le k d h (inl old) = there (here_or_lacks (IsKnown view) (get_or n.rows k d).uid m.rows each)
  where
    there : IsKnown view (get_or n.rows k d).uid ⊎ Lacks (get_or n.rows k d).uid m.rows → IsKnown view (get_or n.rows k d).uid
    there (inl is) = is
    there (inr lacks) = absurd (keeps.gone (get_or n.rows k d).uid old lacks k d h refl)

pub following_stays : (before m n : Mailbox) (view : View) (rs : List Record) → Follows before view m → All (λ r. IsInRange r.body) rs → applied m rs ≡ Some n → Follows before view n
following_stays before m n view rs follows range e =
    let keeps : Keeps m n = records_keep m n rs e in
    let le : view.next_uid ≤ m.next_uid = follows.next_uid in
    let rises : m.next_uid ≤ n.next_uid = keeps.next_uid in
    record {
      valid = all_in_range_valid m n rs follows.valid range e;
      next_uid = omega arith;
      rows = λ k d h. known_by m n view keeps follows.rows le k d h (cases_lt (get_or n.rows k d).uid m.next_uid);
      more = follows.more ++ keeps.table.0;
      names = keeps.table.1 ∙ ap (λ names. names ++ keeps.table.0) follows.names ∙ append_assoc before.keywords follows.more keeps.table.0;
    }
