-- What is shown of a part of the rows, and the UIDs that a session is to be told of.
use Rattle.std.proofs.Common.{◌≡◌, ℕ, Bool, true, List, ap, sym, ◌∙◌}
use Rattle.std.specs.Prelude.{◌↔◌, Contains, filter}
use Rattle.dv_model.specs.declared.types.Mailbox.{Mailbox}
use Rattle.dv_model.specs.declared.types.Row.{Row}
use Rattle.dv_model.specs.Fresh.{IsTouched}
use Rattle.dv_touched.proofs.Leaving.{seen_filtered}
use Rattle.dv_touched.specs.Telling.{Differs, shown_in}

-- a row in the part is shown as among all
pub shown_in_part : (test : ℕ → Bool) (rows : List Row) (uid : ℕ) → test uid ≡ true → shown_in (filter (λ row. test row.uid) rows) uid ≡ shown_in rows uid
shown_in_part test rows uid passes = sym (seen_filtered uid (λ row. test row.uid) (λ row at. ap test at ∙ passes) rows)

-- those that differ among UIDs outside of which none is touched
pub all_touched : (before after : Mailbox) (uids touched : List ℕ) → ((uid : ℕ) → Contains touched uid ↔ (Contains uids uid × Differs before.rows after.rows uid))
    → ((uid : ℕ) → IsTouched before after uid → Contains uids uid) → (uid : ℕ) → Contains touched uid ↔ IsTouched before after uid
all_touched before after uids touched told named uid = (λ there. ((told uid).0 there).1, λ differs. (told uid).1 (named uid differs, differs))
