-- A new name is taken back.
use Rattle.std.proofs.Common.{◌≡◌, ℕ, ◌≤◌, List, ◌++◌, drop, length, take, sym, ◌∙◌, ap, subst}
use Rattle.dv_keywords.proofs.Lookup.{before_named}
use Rattle.dv_keywords.specs.Tables.{Keywords}
use Rattle.dv_model.specs.declared.types.Mailbox.{Mailbox}
use Rattle.dv_model.specs.Effects.{with_name}
use Rattle.dv_model.specs.Mailboxes.{IsValid}
use Rattle.dv_rows.specs.Kept as rows
use Rattle.dv_apply.specs.declared.state.State.{State}
use Rattle.dv_apply.specs.States.{IsKept, Kept, kept_of, mailbox_of}

abbrev with_spare : ℕ → Mailbox → Kept
with_spare n m = record { mailbox = m; spare = n }

-- the mailbox is as before, whatever names are kept behind its own
pub names_hidden : (s : State) (r : rows.Kept) (added hidden : Keywords) (name : List ℕ) (n : ℕ) → IsKept s → r ≡ s.rows → n ≡ length s.names.names → added.names ≡ with_name name s.names.names
    → hidden ≡ record { names = take n added.names; kept = drop n added.names ++ added.kept } → (kept_of (record s { rows = r; names = hidden }) ≡ kept_of s) × IsKept (record s { rows = r; names = hidden })
names_hidden s r added hidden name n kept same_rows counted is_added is_hidden =
    let m : Mailbox = mailbox_of s in
    let names : hidden.names ≡ s.names.names = ap (λ (k : Keywords). k.names) is_hidden ∙ ap (λ k. take k added.names) counted ∙ ap (take (length s.names.names)) is_added ∙ before_named name s.names.names in
    let same : mailbox_of (record s { rows = r; names = hidden }) ≡ m =
    ap (λ (k : rows.Kept). record m { rows = k.rows; keywords = hidden.names }) same_rows ∙ ap (λ (ns : List (List ℕ)). record m { keywords = ns }) names in (
      ap (with_spare s.spare) same,
      record {
        valid = subst IsValid (sym same) kept.valid;
        spare = record { blank = kept.spare.blank; blanks = kept.spare.blanks; room = subst (λ (k : rows.Kept). s.spare ≤ k.room) (sym same_rows) kept.spare.room };
      },
    )
