-- What is found at the end of a good log: its mailbox has at least the number at which a log without
-- records begins.
use Rattle.std.proofs.Common.{◌≡◌, ℕ, ◌+◌, true, false, Bool, ◌&&◌, nat_eq, List, [], Option, Some, None, refl, sym, ◌∙◌, ap, subst, arith}
use Rattle.std.specs.Prelude.{if◌then◌else◌, ⊤}
use Rattle.std.proofs.lemmas.Bool.{eqb-true, eqb-false, eq-eqb}
use Rattle.std.proofs.lemmas.Option.{same_Some}
use Rattle.dv_model.specs.declared.types.Mailbox.{Mailbox}
use Rattle.dv_model.specs.declared.types.Mark.{Mark}
use Rattle.dv_model.specs.Mailboxes.{empty_mailbox}
use Rattle.dv_logfile.specs.Scans.{Spot, GoodLog, Scanned, Good}
use Rattle.dv_openings.specs.Openings.{Applied, Gives, Refused, Found, Finds, Snapshot, applied_from, at_end, before_log, counted, end_mark, file_applied, file_number, found_in, from_either, from_index, from_nothing, in_log, in_rotated, joining, number_before, raised, records_from, spots_applied, spots_from, then_file, with_numbers}
use Rattle.dv_chain.proofs.Joins.{index_before, index_gap, index_in_log, index_in_rotated, not_before, not_in_first, not_in_log, not_next, not_there, nothing_alone, nothing_first, nothing_second, nothing_third, there_before, there_in_log, there_in_rotated}

module _ (log : GoodLog) where
  -- the log has no record
  abbrev pub IsEmpty : Type 0
  IsEmpty = (log.spots ≡ []) × (log.end ≡ log.header.hdr_size)

  -- then the mailbox has at least the log's number
  abbrev pub HasNumber : Mailbox → Type 0
  HasNumber m = IsEmpty → raised log.header m ≡ m

  abbrev GivesNumber : Applied → Type 0
  GivesNumber (Gives m) = HasNumber m
  GivesNumber (Refused place) = ⊤

  -- so has what is found, at the log's end
  abbrev FindsEnd : Found → Type 0
  FindsEnd (Finds m mark) = (mark ≡ end_mark log) × HasNumber m
  FindsEnd other = ⊤

  raised_twice : (m : Mailbox) → raised log.header (raised log.header m) ≡ raised log.header m
  raised_twice m = ap (λ (n : ℕ). record m { highest = n }) (omega arith)

  -- ---- records that are applied

  file_gives : (m : Mailbox) → GivesNumber (file_applied log m)
  file_gives m = by_result (file_applied log m) refl
    where
      by_result : (a : Applied) → a ≡ spots_applied (raised log.header m) log.spots → GivesNumber a
      by_result (Refused place) e = tt
      by_result (Gives n) e = λ empty.
          let told : Gives n ≡ Gives (raised log.header m) = e ∙ ap (spots_applied (raised log.header m)) empty.0 in
          let same : n ≡ raised log.header m = cc in
          ap (raised log.header) same ∙ raised_twice m ∙ sym same

  then_gives : (a : Applied) → GivesNumber (then_file log a)
  then_gives (Gives m) = file_gives m
  then_gives (Refused place) = tt

  from_gives : (from : ℕ) (left : List Spot) (m : Mailbox) → records_from log from ≡ Some left → GivesNumber (applied_from log from left m)
  from_gives from left m there = by_place (nat_eq from log.header.hdr_size) refl
    where
      here : IsEmpty → (x : Bool) → nat_eq from log.end ≡ x → (if x then Some [] else None) ≡ Some left → nat_eq from log.header.hdr_size ≡ true
      here empty true at e = eq-eqb from log.header.hdr_size (eqb-true from log.end at ∙ empty.1)
      here empty false at e = absurd cc

      elsewhere : nat_eq from log.header.hdr_size ≡ false → (a : Applied) → GivesNumber a
      elsewhere away (Refused place) = tt
      elsewhere away (Gives n) = λ empty.
          let at = here empty (nat_eq from log.end) refl (sym (ap (spots_from log.end from) empty.0) ∙ there) in
          absurd cc

      by_place : (x : Bool) → nat_eq from log.header.hdr_size ≡ x → GivesNumber (if x then file_applied log m else spots_applied m left)
      by_place true at = file_gives m
      by_place false at = elsewhere at (spots_applied m left)

  applied_ends : (a : Applied) → GivesNumber a → FindsEnd (at_end log a)
  applied_ends (Gives m) number = (refl, number)
  applied_ends (Refused place) number = tt

  -- ---- from a snapshot

  module _ (s : Snapshot) where
    log_gives : (a : Applied) → in_log log s ≡ Some a → GivesNumber a
    log_gives a e = by_seq (nat_eq s.mark.file_seq log.header.file_seq) refl
      where
        by_records : s.mark.file_seq ≡ log.header.file_seq → (left : Option (List Spot)) → records_from log s.mark.offset ≡ left → GivesNumber a
        by_records seq None there =
            let none = not_there log None s seq there in
            absurd cc
        by_records seq (Some left) there =
            subst GivesNumber (same_Some _ a (sym (there_in_log log None s left seq there) ∙ e)) (from_gives s.mark.offset left (with_numbers s (number_before log left)) there)

        by_seq : (x : Bool) → nat_eq s.mark.file_seq log.header.file_seq ≡ x → GivesNumber a
        by_seq true at = by_records (eqb-true s.mark.file_seq log.header.file_seq at) (records_from log s.mark.offset) refl
        by_seq false at =
            let none = not_in_log log None s (eqb-false s.mark.file_seq log.header.file_seq at) in
            absurd cc

    rotated_gives : (rotated : Option GoodLog) (a : Applied) → in_rotated log rotated s ≡ Some a → GivesNumber a
    rotated_gives None a e = absurd cc
    rotated_gives (Some first) a e = by_seq (nat_eq (s.mark.file_seq + 1) log.header.file_seq) refl
      where
        by_records : nat_eq (s.mark.file_seq + 1) log.header.file_seq ≡ true → (left : Option (List Spot)) → records_from first s.mark.offset ≡ left → GivesNumber a
        by_records seq None there =
            let none = not_in_first log first s seq there in
            absurd cc
        by_records seq (Some left) there =
            subst GivesNumber (same_Some _ a (sym (there_in_rotated log first s left seq there) ∙ e)) (then_gives (applied_from first s.mark.offset left (with_numbers s (number_before first left))))

        by_seq : (x : Bool) → nat_eq (s.mark.file_seq + 1) log.header.file_seq ≡ x → GivesNumber a
        by_seq true at = by_records at (records_from first s.mark.offset) refl
        by_seq false at =
            let none = not_next log (Some first) s at in
            absurd cc

    before_gives : (a : Applied) → before_log log s ≡ Some a → GivesNumber a
    before_gives a e = by_mark (nat_eq (s.mark.file_seq + 1) log.header.file_seq && nat_eq s.mark.offset log.header.prev_file_offset && nat_eq s.mark.file_seq log.header.prev_file_seq) refl
      where
        by_mark : (x : Bool) → (nat_eq (s.mark.file_seq + 1) log.header.file_seq && nat_eq s.mark.offset log.header.prev_file_offset && nat_eq s.mark.file_seq log.header.prev_file_seq) ≡ x → GivesNumber a
        by_mark true at = subst GivesNumber (same_Some _ a (sym (there_before log None s at) ∙ e)) (file_gives (with_numbers s (file_number log.header)))
        by_mark false at =
            let none = not_before log None s at in
            absurd cc

    index_ends : (rotated : Option GoodLog) → FindsEnd (from_index log rotated s)
    index_ends rotated = by_log (in_log log s) refl
      where
        by_before : in_log log s ≡ None → in_rotated log rotated s ≡ None → (x : Option Applied) → before_log log s ≡ x → FindsEnd (from_index log rotated s)
        by_before none nowhere (Some a) e = subst FindsEnd (sym (index_before log rotated s a none nowhere e)) (applied_ends a (before_gives a e))
        by_before none nowhere None e = subst FindsEnd (sym (index_gap log rotated s none nowhere e)) tt

        by_rotated : in_log log s ≡ None → (x : Option Applied) → in_rotated log rotated s ≡ x → FindsEnd (from_index log rotated s)
        by_rotated none (Some a) e = subst FindsEnd (sym (index_in_rotated log rotated s a none e)) (applied_ends a (rotated_gives rotated a e))
        by_rotated none None e = by_before none e (before_log log s) refl

        by_log : (x : Option Applied) → in_log log s ≡ x → FindsEnd (from_index log rotated s)
        by_log (Some a) e = subst FindsEnd (sym (index_in_log log rotated s a e)) (applied_ends a (log_gives a e))
        by_log None e = by_rotated e (in_rotated log rotated s) refl

  -- ---- from nothing

  nothing_ends : (rotated : Option GoodLog) → FindsEnd (from_nothing log rotated)
  nothing_ends rotated = by_first (nat_eq log.header.file_seq 1) refl
    where
      start : Mailbox
      start = empty_mailbox log.header.indexid

      by_second : (first : GoodLog) → (log.header.file_seq ≡ 1 → ⊥) → (x : Bool) → nat_eq log.header.file_seq 2 ≡ x → FindsEnd (from_nothing log (Some first))
      by_second first other true at =
          subst FindsEnd (sym (nothing_second log first other (eqb-true log.header.file_seq 2 at))) (applied_ends (then_file log (file_applied first start)) (then_gives (file_applied first start)))
      by_second first other false at = subst FindsEnd (sym (nothing_third log first other (eqb-false log.header.file_seq 2 at))) tt

      by_rotated : (log.header.file_seq ≡ 1 → ⊥) → (r : Option GoodLog) → FindsEnd (from_nothing log r)
      by_rotated other None = subst FindsEnd (sym (nothing_alone log other)) tt
      by_rotated other (Some first) = by_second first other (nat_eq log.header.file_seq 2) refl

      by_first : (x : Bool) → nat_eq log.header.file_seq 1 ≡ x → FindsEnd (from_nothing log rotated)
      by_first true at = subst FindsEnd (sym (nothing_first log rotated (eqb-true log.header.file_seq 1 at))) (applied_ends (file_applied log start) (file_gives start))
      by_first false at = by_rotated (eqb-false log.header.file_seq 1 at) rotated

  either_ends : (rotated : Option GoodLog) (index : Option Snapshot) → FindsEnd (from_either log rotated index)
  either_ends rotated None = nothing_ends rotated
  either_ends rotated (Some s) = index_ends s rotated

  -- the mailbox is found at the log's end, and has its number
  pub found_end : (rotated : Scanned) (index : Option Snapshot) (m : Mailbox) (mark : Mark) → Finds m mark ≡ found_in (Good log) rotated index → (mark ≡ end_mark log) × HasNumber m
  found_end rotated index m mark e = subst FindsEnd (sym e) (either_ends (joining log rotated) (counted log index))
