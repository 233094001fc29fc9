-- Which records of which files stand behind a snapshot.
use Rattle.std.proofs.Common.{◌≡◌, ℕ, ◌+◌, min, true, false, Bool, ◌&&◌, nat_eq, List, length, Option, Some, None, Result, Ok, Err, refl, sym, ◌∙◌, ap, subst, arith}
use Rattle.std.specs.Prelude.{if◌then◌else◌}
use Rattle.std.proofs.lemmas.Bool.{eq-eqb, ne_eqb}
use Rattle.dv_model.specs.declared.types.Mailbox.{Mailbox}
use Rattle.dv_model.specs.declared.types.OpenFault.{OpenFault}
use Rattle.dv_model.specs.declared.types.OpenFault.TheVariants as fault
use Rattle.dv_model.specs.Mailboxes.{empty_mailbox, last_modseq}
use Rattle.dv_logfile.specs.Scans.{GoodLog, Spot}
use Rattle.dv_openings.specs.Openings.{Applied, BadIndex, Found, Gap, Gives, Snapshot, applied_from, at_end, before_log, file_applied, file_number, first_mark, from_index, from_nothing, in_log, in_rotated, number_before, records_from, then_file, with_numbers}
use Rattle.dv_apply.specs.States.{Held}
use Rattle.dv_chain.specs.Openings.{Joins}
use Rattle.dv_chain.specs.Walks.{Applies, Counts}

-- ---- the answers

pub ended : (log : GoodLog) (result : Result Held OpenFault) (applied : Applied) → Applies result applied → Joins log result (at_end log applied)
ended log (Ok live) applied is = sym (ap (at_end log) is)
ended log (Err fault.NoMemory) applied is = tt
ended log (Err (fault.BadRecord offset)) applied is = sym (ap (at_end log) is)
ended log (Err (fault.Disk n)) applied is = absurd is
ended log (Err fault.NoLog) applied is = absurd is
ended log (Err fault.BadLogHeader) applied is = absurd is
ended log (Err fault.BadIndex) applied is = absurd is
ended log (Err (fault.Gap index mark)) applied is = absurd is

-- a place isn't found for want of memory alone
pub uncounted : (log : GoodLog) (e : OpenFault) (spots : List Spot) (there : Option (List Spot)) (found : Found) → Counts (Err e) spots there → Joins log (Err e) found
uncounted log fault.NoMemory spots there found counts = tt
uncounted log (fault.BadRecord offset) spots there found counts = absurd counts
uncounted log (fault.Disk n) spots there found counts = absurd counts
uncounted log fault.NoLog spots there found counts = absurd counts
uncounted log fault.BadLogHeader spots there found counts = absurd counts
uncounted log fault.BadIndex spots there found counts = absurd counts
uncounted log (fault.Gap index mark) spots there found counts = absurd counts

-- an error behind which no further file is applied
pub not_then : (log : GoodLog) (e : OpenFault) (applied : Applied) → Applies (Err e) applied → Applies (Err e) (then_file log applied)
not_then log fault.NoMemory applied is = tt
not_then log (fault.BadRecord offset) applied is = ap (then_file log) is
not_then log (fault.Disk n) applied is = absurd is
not_then log fault.NoLog applied is = absurd is
not_then log fault.BadLogHeader applied is = absurd is
not_then log fault.BadIndex applied is = absurd is
not_then log (fault.Gap index mark) applied is = absurd is

pub then_applied : (log : GoodLog) (m : Mailbox) (result : Result Held OpenFault) (applied : Applied) → applied ≡ Gives m → Applies result (file_applied log m) → Applies result (then_file log applied)
then_applied log m result applied is all = subst (Applies result) (sym (ap (then_file log) is)) all

-- ---- from nothing

module _ (log : GoodLog) (before : Option GoodLog) where
  pub nothing_first : log.header.file_seq ≡ 1 → from_nothing log before ≡ at_end log (file_applied log (empty_mailbox log.header.indexid))
  nothing_first one = rw (eq-eqb log.header.file_seq 1 one, from_nothing) refl

pub nothing_second : (log first : GoodLog) → (log.header.file_seq ≡ 1 → ⊥) → log.header.file_seq ≡ 2 → from_nothing log (Some first) ≡ at_end log (then_file log (file_applied first (empty_mailbox log.header.indexid)))
nothing_second log first other two = rw (ne_eqb log.header.file_seq 1 other, eq-eqb log.header.file_seq 2 two, from_nothing) refl

pub nothing_third : (log first : GoodLog) → (log.header.file_seq ≡ 1 → ⊥) → (log.header.file_seq ≡ 2 → ⊥) → from_nothing log (Some first) ≡ BadIndex
nothing_third log first other third = rw (ne_eqb log.header.file_seq 1 other, ne_eqb log.header.file_seq 2 third, from_nothing) refl

pub nothing_alone : (log : GoodLog) → (log.header.file_seq ≡ 1 → ⊥) → from_nothing log None ≡ BadIndex
nothing_alone log other = rw (ne_eqb log.header.file_seq 1 other, from_nothing) refl

-- ---- from a snapshot

module _ (log : GoodLog) (before : Option GoodLog) (s : Snapshot) where
  pub index_in_log : (applied : Applied) → in_log log s ≡ Some applied → from_index log before s ≡ at_end log applied
  index_in_log applied e = rw (e, from_index) refl

  pub index_in_rotated : (applied : Applied) → in_log log s ≡ None → in_rotated log before s ≡ Some applied → from_index log before s ≡ at_end log applied
  index_in_rotated applied e f = rw (e, f, from_index) refl

  pub index_before : (applied : Applied) → in_log log s ≡ None → in_rotated log before s ≡ None → before_log log s ≡ Some applied → from_index log before s ≡ at_end log applied
  index_before applied e f g = rw (e, f, g, from_index) refl

  pub index_gap : in_log log s ≡ None → in_rotated log before s ≡ None → before_log log s ≡ None → from_index log before s ≡ Gap s.mark (first_mark log)
  index_gap e f g = rw (e, f, g, from_index) refl

  -- the mark's place
  pub there_in_log : (left : List Spot) → s.mark.file_seq ≡ log.header.file_seq → records_from log s.mark.offset ≡ Some left
      → in_log log s ≡ Some (applied_from log s.mark.offset left (with_numbers s (number_before log left)))
  there_in_log left seq there = rw (eq-eqb s.mark.file_seq log.header.file_seq seq, there, in_log) refl

  pub not_there : s.mark.file_seq ≡ log.header.file_seq → records_from log s.mark.offset ≡ None → in_log log s ≡ None
  not_there seq there = rw (eq-eqb s.mark.file_seq log.header.file_seq seq, there, in_log) refl

  pub not_in_log : (s.mark.file_seq ≡ log.header.file_seq → ⊥) → in_log log s ≡ None
  not_in_log other = rw (ne_eqb s.mark.file_seq log.header.file_seq other, in_log) refl

  pub there_before : (nat_eq (s.mark.file_seq + 1) log.header.file_seq && nat_eq s.mark.offset log.header.prev_file_offset && nat_eq s.mark.file_seq log.header.prev_file_seq) ≡ true
      → before_log log s ≡ Some (file_applied log (with_numbers s (file_number log.header)))
  there_before is = ap (λ (b : Bool). if b then Some (file_applied log (with_numbers s (file_number log.header))) else None) is

  pub not_before : (nat_eq (s.mark.file_seq + 1) log.header.file_seq && nat_eq s.mark.offset log.header.prev_file_offset && nat_eq s.mark.file_seq log.header.prev_file_seq) ≡ false
      → before_log log s ≡ None
  not_before is = ap (λ (b : Bool). if b then Some (file_applied log (with_numbers s (file_number log.header))) else None) is

module _ (log first : GoodLog) (s : Snapshot) where
  pub there_in_rotated : (left : List Spot) → nat_eq (s.mark.file_seq + 1) log.header.file_seq ≡ true → records_from first s.mark.offset ≡ Some left
      → in_rotated log (Some first) s ≡ Some (then_file log (applied_from first s.mark.offset left (with_numbers s (number_before first left))))
  there_in_rotated left seq there = rw (seq, there, in_rotated) refl

  pub not_in_first : nat_eq (s.mark.file_seq + 1) log.header.file_seq ≡ true → records_from first s.mark.offset ≡ None → in_rotated log (Some first) s ≡ None
  not_in_first seq there = rw (seq, there, in_rotated) refl

pub not_next : (log : GoodLog) (before : Option GoodLog) (s : Snapshot) → nat_eq (s.mark.file_seq + 1) log.header.file_seq ≡ false → in_rotated log before s ≡ None
not_next log None s seq = refl
not_next log (Some first) s seq = rw (seq, in_rotated) refl

-- ---- the number before the records that are left

pub number_is : (log : GoodLog) (left : List Spot) (before : ℕ) → before + length left ≡ length log.spots → min (file_number log.header + before) last_modseq ≡ number_before log left
number_is log left before is = ap (λ (n : ℕ). min (file_number log.header + n) last_modseq) (omega arith)

pub resumed : (log : GoodLog) (place n : ℕ) (left : List Spot) (s : Snapshot) (m : Mailbox) (result : Result Held OpenFault) → m ≡ with_numbers s n → n ≡ number_before log left
    → Applies result (applied_from log place left m) → Applies result (applied_from log place left (with_numbers s (number_before log left)))
resumed log place n left s m result is number applied =
    subst (λ (x : Mailbox). Applies result (applied_from log place left x)) (is ∙ ap (with_numbers s) number) applied

-- ---- the answers of each way

-- from the first log alone
pub first_alone : (log : GoodLog) (before : Option GoodLog) (m : Mailbox) (result : Result Held OpenFault) → log.header.file_seq ≡ 1 → m ≡ empty_mailbox log.header.indexid → Applies result (file_applied log m) → Joins log result (from_nothing log before)
first_alone log before m result one empty applied =
    subst (Joins log result) (sym (nothing_first log before one))
    (ended log result (file_applied log (empty_mailbox log.header.indexid)) (subst (λ (x : Mailbox). Applies result (file_applied log x)) empty applied))

module _ (log first : GoodLog) (before : Option GoodLog) (is : before ≡ Some first) (other : log.header.file_seq ≡ 1 → ⊥) where
  -- from the second behind the first
  pub both_applied : (m next : Mailbox) (result : Result Held OpenFault) → log.header.file_seq ≡ 2 → m ≡ empty_mailbox log.header.indexid → file_applied first m ≡ Gives next → Applies result (file_applied log next) → Joins log result (from_nothing log before)
  both_applied m next result two empty gives applied =
      subst (λ (x : Option GoodLog). Joins log result (from_nothing log x)) (sym is)
      (subst (Joins log result) (sym (nothing_second log first other two))
      (ended log result _ (then_applied log next result _ (ap (file_applied first) (sym empty) ∙ gives) applied)))

  pub first_fails : (m : Mailbox) (e : OpenFault) → log.header.file_seq ≡ 2 → m ≡ empty_mailbox log.header.indexid → Applies (Err e) (file_applied first m) → Joins log (Err e) (from_nothing log before)
  first_fails m e two empty applied =
      subst (λ (x : Option GoodLog). Joins log (Err e) (from_nothing log x)) (sym is)
      (subst (Joins log (Err e)) (sym (nothing_second log first other two))
      (ended log (Err e) _ (not_then log e _ (subst (λ (x : Mailbox). Applies (Err e) (file_applied first x)) empty applied))))

  pub too_late : (log.header.file_seq ≡ 2 → ⊥) → Joins log (Err fault.BadIndex) (from_nothing log before)
  too_late third = subst (λ (x : Option GoodLog). Joins log (Err fault.BadIndex) (from_nothing log x)) (sym is) (sym (nothing_third log first other third))

pub no_first : (log : GoodLog) (before : Option GoodLog) → before ≡ None → (log.header.file_seq ≡ 1 → ⊥) → Joins log (Err fault.BadIndex) (from_nothing log before)
no_first log before is other = subst (λ (x : Option GoodLog). Joins log (Err fault.BadIndex) (from_nothing log x)) (sym is) (sym (nothing_alone log other))

-- from a snapshot
module _ (log : GoodLog) (before : Option GoodLog) (s : Snapshot) where
  pub from_log : (left : List Spot) (result : Result Held OpenFault) → s.mark.file_seq ≡ log.header.file_seq → records_from log s.mark.offset ≡ Some left
      → Applies result (applied_from log s.mark.offset left (with_numbers s (number_before log left))) → Joins log result (from_index log before s)
  from_log left result seq there applied =
      subst (Joins log result) (sym (index_in_log log before s _ (there_in_log log before s left seq there))) (ended log result _ applied)

  pub from_first_file : (first : GoodLog) (left : List Spot) (result : Result Held OpenFault) → before ≡ Some first → in_log log s ≡ None → nat_eq (s.mark.file_seq + 1) log.header.file_seq ≡ true → records_from first s.mark.offset ≡ Some left
      → Applies result (then_file log (applied_from first s.mark.offset left (with_numbers s (number_before first left)))) → Joins log result (from_index log before s)
  from_first_file first left result is none seq there applied =
      subst (Joins log result)
      (sym (index_in_rotated log before s _ none (ap (λ (x : Option GoodLog). in_rotated log x s) is ∙ there_in_rotated log first s left seq there)))
      (ended log result _ applied)

  pub from_named_end : (m : Mailbox) (n : ℕ) (result : Result Held OpenFault) → in_log log s ≡ None → in_rotated log before s ≡ None
      → (nat_eq (s.mark.file_seq + 1) log.header.file_seq && nat_eq s.mark.offset log.header.prev_file_offset && nat_eq s.mark.file_seq log.header.prev_file_seq) ≡ true
      → m ≡ with_numbers s n → n ≡ file_number log.header → Applies result (file_applied log m) → Joins log result (from_index log before s)
  from_named_end m n result none nowhere is start number applied =
      subst (Joins log result) (sym (index_before log before s _ none nowhere (there_before log before s is)))
      (ended log result _ (subst (λ (x : Mailbox). Applies result (file_applied log x)) (start ∙ ap (with_numbers s) number) applied))

  pub gap_joins : in_log log s ≡ None → in_rotated log before s ≡ None
      → (nat_eq (s.mark.file_seq + 1) log.header.file_seq && nat_eq s.mark.offset log.header.prev_file_offset && nat_eq s.mark.file_seq log.header.prev_file_seq) ≡ false
      → Joins log (Err (fault.Gap s.mark (first_mark log))) (from_index log before s)
  gap_joins none nowhere other = sym (index_gap log before s none nowhere (not_before log before s other))
