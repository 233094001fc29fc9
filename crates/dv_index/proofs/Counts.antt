-- How many rows, keywords and extensions a valid mailbox has.
use Rattle.std.proofs.Common.{ℕ, zero, suc, ◌^◌, ◌<◌, ◌≤◌, List, [], ◌∷◌, length, Option, Some, None, arith, length-append}
use Rattle.std.specs.Prelude.{IfSome, IsSomeAnd, slice_get, map}
use Rattle.dv_model.specs.declared.types.Current.{Current}
use Rattle.dv_model.specs.declared.types.Extension.{Extension}
use Rattle.dv_model.specs.declared.types.Mailbox.{Mailbox}
use Rattle.dv_model.specs.Mailboxes.{IsRowOf, IsValid}
use Rattle.dv_formats.specs.Snapshots.{extension_text, keyword_text, tables_text}
use Rattle.std.specs.List.{flat_map}
use Rattle.dv_formats.proofs.Wholes.{each_of_all, few, names_in_tables, rise_of}

pub few_rows : (m : Mailbox) → IsValid m → length m.rows < 2 ^ 32
few_rows m is =
    let below = each_of_all (IsRowOf m) (λ row. row.uid < m.next_uid) (λ row is_row. is_row.uid.1) m.rows is.rows in
    let number = few 0 m.next_uid m.rows (omega arith) (rise_of (map (λ row. row.uid) m.rows) is.rising) below in
    omega (arith, number, is.next_uid.1)

pub few_names : (m : Mailbox) → length m.keywords ≤ length (tables_text m)
few_names m = let names = names_in_tables m.keywords in omega (arith, names, length-append (flat_map keyword_text m.keywords) (flat_map extension_text m.extensions))

there_below : (es : List Extension) (k size : ℕ) → IsSomeAnd (slice_get es k) (λ e. size ≤ e.record_size) → k < length es
there_below [] k size there = absurd there
there_below (e ∷ es) zero size there = omega arith
there_below (e ∷ es) (suc k) size there = let rest = there_below es k size there in omega (arith, rest)

current_of : (es : List Extension) (current : Option Current) → length es ≤ 16 → IfSome current (λ c. IsSomeAnd (slice_get es c.extension) (λ e. c.size ≤ e.record_size)) → IfSome current (λ c. c.extension < 16)
current_of es None few is = tt
current_of es (Some c) few is = let below = there_below es c.extension c.size is in omega (arith, below, few)

pub current_low : (m : Mailbox) → IsValid m → IfSome m.current (λ c. c.extension < 16)
current_low m is = current_of m.extensions m.current is.extensions.count is.current
