-- A folder whose log ends where its snapshot stands.
use Rattle.std.proofs.Common.{◌≡◌, ℕ, ◌+◌, ◌*◌, ◌≤◌, true, false, Bool, nat_eq, List, [], ◌∷◌, length, Option, Some, None, refl, sym, ◌∙◌, ap, subst, arith}
use Rattle.std.specs.Prelude.{if◌then◌else◌}
use Rattle.std.proofs.lemmas.Bool.{eqb-true, eq-eqb}
use Rattle.dv_model.specs.declared.types.Mailbox.{Mailbox}
use Rattle.dv_shelf.specs.declared.shelf.Name.TheVariants as name
use Rattle.dv_shelf.specs.Folders.{Folder, with_file}
use Rattle.dv_logfile.specs.Scans.{Spot, GoodLog, Scanned, Good, IsGood, IsScanned}
use Rattle.dv_logfile.proofs.OneScan.{scans_one}
use Rattle.dv_formats.specs.Snapshots.{IsSnapshot}
use Rattle.dv_openings.specs.Openings.{Gives, Finds, IfGood, IsFound, IsIndex, Snapshot, applied_from, at_end, counted, end_mark, file_applied, found_in, from_either, from_index, joining, joins, raised, records_from, spots_applied, then_file}
use Rattle.dv_chain.proofs.Joins.{index_in_log, index_in_rotated, not_in_log, there_in_log, there_in_rotated}
use Rattle.dv_files.proofs.Empty.{HasNumber, found_end}
use Rattle.dv_files.proofs.Places.{none_at_end, spots_rise}

-- the snapshot of a mailbox at a log's end
abbrev pub snapshot_at : GoodLog → Mailbox → Snapshot
snapshot_at log m =
    record { version = 2; mailbox = m; indexid = log.header.indexid; mark = end_mark log }

abbrev pub IsSnapshotAt : GoodLog → Mailbox → List ℕ → Type 0
IsSnapshotAt log m text = IsSnapshot 2 m log.header.indexid (end_mark log) text

-- a good file without records ends behind its header, and only such a file does
no_records : (log : GoodLog) (from : ℕ) (spots : List Spot) → from + 8 * length spots ≤ from → spots ≡ []
no_records log from [] less = refl
no_records log from (spot ∷ spots) less = absurd (omega (arith, less))

module _ (log : GoodLog) (m : Mailbox) (number : HasNumber log m) where
  -- no record stands behind the end
  module _ (b : List ℕ) (good : IsGood log b) where
    rest_at_end : records_from log log.end ≡ Some []
    rest_at_end = none_at_end log.header.hdr_size log.spots _ log.end good.rest good.records

    rest_applied : applied_from log log.end [] m ≡ Gives m
    rest_applied = by_place (nat_eq log.end log.header.hdr_size) refl
      where
        by_place : (x : Bool) → nat_eq log.end log.header.hdr_size ≡ x → (if x then file_applied log m else Gives m) ≡ Gives m
        by_place false at = refl
        by_place true at =
            let end : log.end ≡ log.header.hdr_size = eqb-true log.end log.header.hdr_size at in
            let none : log.spots ≡ [] =
            no_records log log.header.hdr_size log.spots (omega (arith, end, spots_rise log.header.hdr_size log.spots _ log.end good.rest good.records)) in
            ap (spots_applied (raised log.header m)) none ∙ ap Gives (number (none, end))

  module _ (folder : Folder) (text : List ℕ) (here : IsScanned (folder name.Log) (Good log)) (index : folder name.Index ≡ Some text) (is : IsSnapshotAt log m text) where
    -- it opens to the snapshot's mailbox, whatever rotated log is there
    pub opens_at_end : (b : List ℕ) → IsGood log b → (rotated : Scanned) → IsScanned (folder name.Log2) rotated → IsFound folder (Finds m (end_mark log))
    opens_at_end b good rotated log2 =
        let s = snapshot_at log m in
        let one : counted log (Some s) ≡ Some s = ap (λ (x : Bool). if x then Some s else None) (eq-eqb log.header.indexid log.header.indexid refl) in
        let two : from_index log (joining log rotated) s ≡ at_end log (applied_from log log.end [] m) =
        index_in_log log (joining log rotated) s _ (there_in_log log (joining log rotated) s [] refl (rest_at_end b good)) in
        record {
          log = Good log;
          rotated = rotated;
          index = Some s;
          log_file = here;
          rotated_file = log2;
          index_file = subst (λ (x : Option (List ℕ)). IsIndex x (Some s)) (sym index) is;
          is = sym (ap (from_either log (joining log rotated)) one ∙ two ∙ ap (at_end log) (rest_applied b good));
        }

-- ---- the next file

-- a good file without records goes on behind a log, with a number that the mailbox has
pub record IsNext (log next : GoodLog) (m : Mailbox) : Type 0 where
  pub indexid : next.header.indexid ≡ log.header.indexid
  pub seq : next.header.file_seq ≡ log.header.file_seq + 1
  pub before : next.header.prev_file_seq ≡ log.header.file_seq
  pub offset : next.header.prev_file_offset ≡ log.end
  pub number : raised next.header m ≡ m
  pub empty : next.spots ≡ []

module _ (log next : GoodLog) (m : Mailbox) (number : HasNumber log m) (follows : IsNext log next m) where
  joins_next : joins next log ≡ true
  joins_next =
      rw (
        eq-eqb log.header.indexid next.header.indexid (sym follows.indexid),
        eq-eqb (log.header.file_seq + 1) next.header.file_seq (sym follows.seq),
        eq-eqb next.header.prev_file_seq log.header.file_seq follows.before,
        eq-eqb next.header.prev_file_offset log.end follows.offset,
      ) refl

  -- behind the closed log, and a snapshot at its end, it opens to the snapshot's mailbox
  pub opens_next : (folder : Folder) (text b : List ℕ) → IsScanned (folder name.Log) (Good next) → folder name.Index ≡ Some text → IsSnapshotAt log m text → IsGood log b → IsScanned (folder name.Log2) (Good log) → IsFound folder (Finds m (end_mark next))
  opens_next folder text b here index is good log2 =
      let s = snapshot_at log m in
      let one : counted next (Some s) ≡ Some s = ap (λ (x : Bool). if x then Some s else None) (eq-eqb log.header.indexid next.header.indexid (sym follows.indexid)) in
      let two : joining next (Good log) ≡ Some log = ap (λ (x : Bool). if x then Some log else None) joins_next in
      let none = not_in_log next (Some log) s (λ e. omega (arith, e, follows.seq)) in
      let there = there_in_rotated next log s [] (eq-eqb (log.header.file_seq + 1) next.header.file_seq (sym follows.seq)) (rest_at_end log m number b good) in
      let gives : then_file next (applied_from log log.end [] m) ≡ Gives m =
      ap (then_file next) (rest_applied log m number b good) ∙ ap (spots_applied (raised next.header m)) follows.empty ∙ ap Gives follows.number in
      record {
        log = Good next;
        rotated = Good log;
        index = Some s;
        log_file = here;
        rotated_file = log2;
        index_file = subst (λ (x : Option (List ℕ)). IsIndex x (Some s)) (sym index) is;
        is = sym (ap (from_either next (joining next (Good log))) one ∙ ap (λ (r : Option GoodLog). from_index next r s) two ∙ index_in_rotated next (Some log) s _ none there ∙ ap (at_end next) gives);
      }

-- ---- the three folders of a rotation

module _ (folder : Folder) (log : GoodLog) (m : Mailbox) (text : List ℕ) (b : List ℕ) (good : IsGood log b) (here : folder name.Log ≡ Some b) (is : IsSnapshotAt log m text) (found : IsFound folder (Finds m (end_mark log))) where
  scanned : IsScanned (folder name.Log) (Good log)
  scanned = subst (λ (x : Option (List ℕ)). IsScanned x (Good log)) (sym here) good

  one : found.log ≡ Good log
  one = scans_one (folder name.Log) found.log (Good log) found.log_file scanned

  number : HasNumber log m
  number = (found_end log found.rotated found.index m (end_mark log) (found.is ∙ ap (λ (x : Scanned). found_in x found.rotated found.index) one)).1

  rotated_there : IsScanned (folder name.Log2) found.rotated
  rotated_there = subst (λ (x : Scanned). IfGood x (IsScanned (folder name.Log2) found.rotated)) one found.rotated_file

  -- with the snapshot of what it opens to, a folder opens to the same
  pub snapshot_opens : IsFound (with_file folder name.Index (Some text)) (Finds m (end_mark log))
  snapshot_opens = opens_at_end log m number (with_file folder name.Index (Some text)) text scanned refl is b good found.rotated rotated_there

  -- with the log beside it too
  pub closed_opens : IsFound (with_file (with_file folder name.Index (Some text)) name.Log2 (Some b)) (Finds m (end_mark log))
  closed_opens = opens_at_end log m number (with_file (with_file folder name.Index (Some text)) name.Log2 (Some b)) text scanned refl is b good (Good log) good

  -- and with the next file in the log's place, at that file's end
  pub next_opens : (next : GoodLog) (c : List ℕ) → IsGood next c → IsNext log next m
      → IsFound (with_file (with_file (with_file folder name.Index (Some text)) name.Log2 (Some b)) name.Log (Some c)) (Finds m (end_mark next))
  next_opens next c there follows = opens_next log next m number follows (with_file (with_file (with_file folder name.Index (Some text)) name.Log2 (Some b)) name.Log (Some c)) text b there refl is good good
