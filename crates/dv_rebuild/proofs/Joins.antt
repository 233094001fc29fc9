-- What is salvaged of which files.
use Rattle.std.proofs.Common.{◌≡◌, ℕ, ◌+◌, true, false, Bool, ◌&&◌, nat_eq, List, Option, Some, None, refl, sym, ◌∙◌, ap}
use Rattle.std.specs.Prelude.{if◌then◌else◌}
use Rattle.std.proofs.lemmas.Bool.{eq-eqb, ne_eqb}
use Rattle.dv_logfile.specs.Scans.{GoodLog, Spot}
use Rattle.dv_openings.specs.Openings.{Snapshot, file_number, number_before, records_from, with_numbers}
use Rattle.dv_openings.specs.Salvages.{Salvaged, first_salvaged, from_snapshot, nothing, salvaged_anew, salvaged_before_log, salvaged_from, salvaged_in_log, salvaged_in_rotated, with_file, with_file_from}

-- ---- from nothing

pub anew_alone : (log : GoodLog) (before : Option GoodLog) (start made : Salvaged) → (log.header.file_seq ≡ 2 → ⊥) → start ≡ nothing log.header.indexid → made ≡ with_file log start → made ≡ salvaged_anew log before
anew_alone log None start made other is all = all ∙ ap (with_file log) is
anew_alone log (Some first) start made other is all =
    all ∙ ap (with_file log) is ∙ sym (ap (λ (b : Bool). if b then with_file log (with_file first (nothing log.header.indexid)) else with_file log (nothing log.header.indexid)) (ne_eqb log.header.file_seq 2 other))

pub anew_first : (log first : GoodLog) (before : Option GoodLog) (start mid made : Salvaged) → before ≡ Some first → log.header.file_seq ≡ 2 → start ≡ nothing log.header.indexid → mid ≡ with_file first start → made ≡ with_file log mid → made ≡ salvaged_anew log before
anew_first log first before start mid made is two empty one all =
    all ∙ ap (with_file log) (one ∙ ap (with_file first) empty)
    ∙ sym (ap (λ (b : Bool). if b then with_file log (with_file first (nothing log.header.indexid)) else with_file log (nothing log.header.indexid)) (eq-eqb log.header.file_seq 2 two))
    ∙ ap (salvaged_anew log) (sym is)

pub anew_none : (log : GoodLog) (before : Option GoodLog) (start made : Salvaged) → before ≡ None → start ≡ nothing log.header.indexid → made ≡ with_file log start → made ≡ salvaged_anew log before
anew_none log before start made none is all = all ∙ ap (with_file log) is ∙ ap (salvaged_anew log) (sym none)

-- ---- from a snapshot

module _ (log : GoodLog) (s : Snapshot) where
  pub there_in_log : (left : List Spot) → s.mark.file_seq ≡ log.header.file_seq → records_from log s.mark.offset ≡ Some left
      → salvaged_in_log log s ≡ Some (with_file_from log s.mark.offset left (from_snapshot (with_numbers s (number_before log left))))
  there_in_log left seq there = rw (eq-eqb s.mark.file_seq log.header.file_seq seq, there, salvaged_in_log) refl

  pub not_there : s.mark.file_seq ≡ log.header.file_seq → records_from log s.mark.offset ≡ None → salvaged_in_log log s ≡ None
  not_there seq there = rw (eq-eqb s.mark.file_seq log.header.file_seq seq, there, salvaged_in_log) refl

  pub not_in_log : (s.mark.file_seq ≡ log.header.file_seq → ⊥) → salvaged_in_log log s ≡ None
  not_in_log other = rw (ne_eqb s.mark.file_seq log.header.file_seq other, salvaged_in_log) refl

  pub not_next : (before : Option GoodLog) → nat_eq (s.mark.file_seq + 1) log.header.file_seq ≡ false → salvaged_in_rotated log before s ≡ None
  not_next None seq = refl
  not_next (Some first) seq = rw (seq, salvaged_in_rotated) refl

  pub no_rotated : (before : Option GoodLog) → before ≡ None → salvaged_in_rotated log before s ≡ None
  no_rotated before is = ap (λ (x : Option GoodLog). salvaged_in_rotated log x s) is

  pub not_in_first : (before : Option GoodLog) (first : GoodLog) → before ≡ Some first → nat_eq (s.mark.file_seq + 1) log.header.file_seq ≡ true → records_from first s.mark.offset ≡ None → salvaged_in_rotated log before s ≡ None
  not_in_first before first is seq there = ap (λ (x : Option GoodLog). salvaged_in_rotated log x s) is ∙ in_first
    where
      in_first : salvaged_in_rotated log (Some first) s ≡ None
      in_first = rw (seq, there, salvaged_in_rotated) refl

  pub there_in_first : (first : GoodLog) (left : List Spot) → nat_eq (s.mark.file_seq + 1) log.header.file_seq ≡ true → records_from first s.mark.offset ≡ Some left
      → salvaged_in_rotated log (Some first) s ≡ Some (with_file log (with_file_from first s.mark.offset left (from_snapshot (with_numbers s (number_before first left)))))
  there_in_first first left seq there = rw (seq, there, salvaged_in_rotated) refl

  -- ---- the answers of each way

  module _ (before : Option GoodLog) (made : Salvaged) where
    pub from_log : (left : List Spot) → s.mark.file_seq ≡ log.header.file_seq → records_from log s.mark.offset ≡ Some left
        → made ≡ with_file_from log s.mark.offset left (from_snapshot (with_numbers s (number_before log left))) → made ≡ salvaged_from log before (Some s)
    from_log left seq there is =
        is ∙ sym (ap (λ (x : Option Salvaged). first_salvaged x (salvaged_in_rotated log before s) (salvaged_before_log log s) s.mailbox) (there_in_log left seq there))

    pub from_first_file : (first : GoodLog) (left : List Spot) → before ≡ Some first → salvaged_in_log log s ≡ None → nat_eq (s.mark.file_seq + 1) log.header.file_seq ≡ true → records_from first s.mark.offset ≡ Some left
        → made ≡ with_file log (with_file_from first s.mark.offset left (from_snapshot (with_numbers s (number_before first left)))) → made ≡ salvaged_from log before (Some s)
    from_first_file first left before_is none seq there is =
        is
        ∙ sym (
        ap (λ (x : Option Salvaged). first_salvaged x (salvaged_in_rotated log before s) (salvaged_before_log log s) s.mailbox) none
        ∙ ap (λ (x : Option Salvaged). first_salvaged None x (salvaged_before_log log s) s.mailbox) (ap (λ (x : Option GoodLog). salvaged_in_rotated log x s) before_is ∙ there_in_first first left seq there)
        )

    neither : salvaged_in_log log s ≡ None → salvaged_in_rotated log before s ≡ None → salvaged_from log before (Some s) ≡ first_salvaged None None (salvaged_before_log log s) s.mailbox
    neither none nowhere =
        ap (λ (x : Option Salvaged). first_salvaged x (salvaged_in_rotated log before s) (salvaged_before_log log s) s.mailbox) none
        ∙ ap (λ (x : Option Salvaged). first_salvaged None x (salvaged_before_log log s) s.mailbox) nowhere

    pub from_named_end : (n : ℕ) (start : Salvaged) → salvaged_in_log log s ≡ None → salvaged_in_rotated log before s ≡ None
        → (nat_eq (s.mark.file_seq + 1) log.header.file_seq && nat_eq s.mark.offset log.header.prev_file_offset && nat_eq s.mark.file_seq log.header.prev_file_seq) ≡ true
        → start ≡ from_snapshot (with_numbers s n) → n ≡ file_number log.header → made ≡ with_file log start → made ≡ salvaged_from log before (Some s)
    from_named_end n start none nowhere there is number all =
        all ∙ ap (with_file log) (is ∙ ap (λ (k : ℕ). from_snapshot (with_numbers s k)) number)
        ∙ sym (
        neither none nowhere
        ∙ ap (λ (b : Bool). first_salvaged None None (if b then Some (with_file log (from_snapshot (with_numbers s (file_number log.header)))) else None) s.mailbox) there
        )

    pub from_it_alone : salvaged_in_log log s ≡ None → salvaged_in_rotated log before s ≡ None
        → (nat_eq (s.mark.file_seq + 1) log.header.file_seq && nat_eq s.mark.offset log.header.prev_file_offset && nat_eq s.mark.file_seq log.header.prev_file_seq) ≡ false
        → made ≡ from_snapshot s.mailbox → made ≡ salvaged_from log before (Some s)
    from_it_alone none nowhere elsewhere is =
        is
        ∙ sym (
        neither none nowhere
        ∙ ap (λ (b : Bool). first_salvaged None None (if b then Some (with_file log (from_snapshot (with_numbers s (file_number log.header)))) else None) s.mailbox) elsewhere
        )
