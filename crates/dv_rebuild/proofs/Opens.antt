-- What opening finds in a rebuilt folder.
use Rattle.std.proofs.Common.{◌≡◌, ◌≢◌, ℕ, ◌+◌, ◌^◌, ◌<◌, ◌≤◌, true, false, Bool, ◌&&◌, nat_eq, nat_le, List, [], ◌∷◌, ◌++◌, All, length, map, Option, Some, None, refl, sym, ◌∙◌, ap, subst, arith}
use Rattle.std.specs.Prelude.{if◌then◌else◌, ◌||◌, is_some, filter, option_map}
use Rattle.std.specs.List.{list_any}
use Rattle.std.specs.List.Sorted.{IsStrictlyIncreasing}
use Rattle.std.proofs.lemmas.Bool.{eqb-false, leb-true, ne_eqb}
use Rattle.std.proofs.lemmas.List.Elements.{All-nil}
use Rattle.std.proofs.lemmas.List.Kept.{IsStrictlyIncreasing-filter}
use Rattle.dv_model.specs.declared.types.Extension.{Extension}
use Rattle.dv_model.specs.declared.types.Mailbox.{Mailbox}
use Rattle.dv_model.specs.declared.types.Record.{Record}
use Rattle.dv_model.specs.Effects.{applied}
use Rattle.dv_model.specs.Mailboxes.{empty_mailbox}
use Rattle.dv_model.specs.Spelling.{IsRecord}
use Rattle.dv_shelf.specs.declared.shelf.Name.TheVariants as name
use Rattle.dv_shelf.specs.Folders.{Folder, with_file}
use Rattle.dv_shelf.proofs.FolderLemmas.{with_else, with_here}
use Rattle.dv_logfile.specs.declared.header.LogHeader.{LogHeader}
use Rattle.dv_logfile.specs.Layout.{IsGoodHeader, last_end, log_end}
use Rattle.dv_logfile.specs.Scans.{BadHeader, BadSpot, Good, GoodLog, IsScanned, Missing, Scanned, Spot, spots_of}
use Rattle.dv_logfile.proofs.Spots.{written_good}
use Rattle.dv_openings.specs.Openings.{Gives, IsIndex, Snapshot, at_end, counted, file_applied, from_either, joining, raised}
use Rattle.dv_openings.specs.Rebuilds.{IsRebuild, Rebuild, as_list, is_kept, last_uid, new_indexid, rebuilt_header, rebuilt_text, records_of, stamp_of, used_indexids}
use Rattle.dv_openings.specs.TrueCaches.{HasTrueCache, look_in}
use Rattle.dv_chain.proofs.Joins.{nothing_first}
use Rattle.dv_chain.proofs.Spots.{spots_give}
use Rattle.dv_rebuild.specs.Plans.{HasLogNumbers}
use Rattle.dv_rebuild.specs.Rebuilding.{OpensTo}
use Rattle.dv_rebuild.proofs.Fresh.{not_used}
use Rattle.dv_rebuild.proofs.Kept.{Gives as KeptGives, Uids, records_give}
use Rattle.dv_rebuild.proofs.Named.{IsUnmarked, kept_named, still_bare}

-- ---- the number is no other file's

front_false : (a b : Bool) → (a || b) ≡ false → (a ≡ false) × (b ≡ false)
front_false true b is = absurd cc
front_false false b is = (refl, is)

last_false : (n c : ℕ) (front : List ℕ) → list_any (nat_eq n) (front ++ c ∷ []) ≡ false → n ≢ c
last_false n c [] is = eqb-false n c (front_false (nat_eq n c) false is).0
last_false n c (one ∷ front) is = last_false n c front (front_false (nat_eq n one) (list_any (nat_eq n) (front ++ c ∷ [])) is).1

used_few : (a b c : Option ℕ) → length (as_list a ++ as_list b ++ as_list c) ≤ 3
used_few None None None = omega arith
used_few None None (Some c) = omega arith
used_few None (Some b) None = omega arith
used_few None (Some b) (Some c) = omega arith
used_few (Some a) None None = omega arith
used_few (Some a) None (Some c) = omega arith
used_few (Some a) (Some b) None = omega arith
used_few (Some a) (Some b) (Some c) = omega arith

pub fresh : (log : Option GoodLog) (rotated : Option LogHeader) (s : Snapshot) (now : ℕ) → now < 2 ^ 32 → new_indexid (used_indexids log rotated (Some s)) now ≢ s.indexid
fresh log rotated s now small =
    let of_log = option_map (λ (file : GoodLog). file.header.indexid) log in
    let of_rotated = option_map (λ (h : LogHeader). h.indexid) rotated in
    last_false (new_indexid (used_indexids log rotated (Some s)) now) s.indexid (as_list of_log ++ as_list of_rotated)
    (not_used (used_indexids log rotated (Some s)) (stamp_of now) (used_few of_log of_rotated (Some s.indexid)) (omega arith, omega (arith, small)))

-- ---- the new log

records_of_spots : (places : List ℕ) (rs : List Record) → length places ≡ length rs → map (λ (s : Spot). s.is) (spots_of places rs) ≡ rs
records_of_spots [] [] is = refl
records_of_spots [] (r ∷ rs) is = absurd (omega (arith, is))
records_of_spots (place ∷ places) [] is = absurd (omega (arith, is))
records_of_spots (place ∷ places) (r ∷ rs) is = ap (λ (l : List Record). r ∷ l) (records_of_spots places rs (omega (arith, is)))

middle_false : (a b c : Bool) → (a && false && b && c) ≡ false
middle_false true true c = refl
middle_false true false c = refl
middle_false false b c = refl

-- a log of the first number goes behind no other
pub first_joins_none : (file : GoodLog) (b : Option (List ℕ)) (scan : Scanned) → file.header.file_seq ≡ 1 → IsScanned b scan → joining file scan ≡ None
first_joins_none file b Missing one is = refl
first_joins_none file b BadHeader one is = refl
first_joins_none file b (BadSpot place) one is = refl
first_joins_none file None (Good rotated) one is = absurd is
first_joins_none file (Some b) (Good rotated) one is =
    let other : nat_eq (rotated.header.file_seq + 1) file.header.file_seq ≡ false = ne_eqb (rotated.header.file_seq + 1) file.header.file_seq (λ e. omega (arith, e, one, is.taken.numbers.1)) in
    ap (λ (x : Bool). if (nat_eq rotated.header.indexid file.header.indexid && x && nat_eq file.header.prev_file_seq rotated.header.file_seq && nat_eq file.header.prev_file_offset rotated.end) then Some rotated else None) other
    ∙ ap (λ (x : Bool). if x then Some rotated else None) (middle_false (nat_eq rotated.header.indexid file.header.indexid) (nat_eq file.header.prev_file_seq rotated.header.file_seq) (nat_eq file.header.prev_file_offset rotated.end))

pub other_counts_none : (file : GoodLog) (index : Option Snapshot) → ((s : Snapshot) → index ≡ Some s → file.header.indexid ≢ s.indexid) → counted file index ≡ None
other_counts_none file None other = refl
other_counts_none file (Some s) other = ap (λ (x : Bool). if x then Some s else None) (ne_eqb s.indexid file.header.indexid (λ e. other s refl (sym e)))

-- ---- the kept UIDs

and_parts : (a b c : Bool) → (a && b && c) ≡ true → (a ≡ true) × (b ≡ true)
and_parts true true c is = (refl, refl)
and_parts true false c is = absurd cc
and_parts false b c is = absurd cc

pub kept_are_uids : (folder : Folder) (numbers : List ℕ) → Uids (filter (is_kept folder) numbers)
kept_are_uids folder [] = tt
kept_are_uids folder (n ∷ ns) = by_test (is_kept folder n) refl (kept_are_uids folder ns)
  where
    by_test : (b : Bool) → is_kept folder n ≡ b → Uids (filter (is_kept folder) ns) → Uids (if b then n ∷ filter (is_kept folder) ns else filter (is_kept folder) ns)
    by_test true e others =
        let parts = and_parts (nat_le 1 n) (nat_le n last_uid) (is_some _) e in
        ((leb-true 1 n parts.0, leb-true n last_uid parts.1), others)
    by_test false e others = others

-- ---- the cache

-- without extensions nothing is looked up in it
bare_true : (folder : Folder) (indexid : ℕ) (m : Mailbox) → m.extensions ≡ [] → HasTrueCache folder indexid m
bare_true folder indexid m bare row cached here is =
    let nothing : None ≡ Some is.look = sym (ap (λ (es : List Extension). look_in es row.parts) bare) ∙ is.asked in
    absurd cc

-- ---- the folder

-- The folder's log is the rebuilt one, and its other files are looked at.
module _ (r : Rebuild) (good : IsGoodHeader (rebuilt_header r)) (all : All IsRecord (records_of r)) (fits : log_end (records_of r) ≤ last_end)
    (left : HasLogNumbers r.salvaged.mailbox)
    (up : IsStrictlyIncreasing r.kept) (uids : Uids r.kept) where
  written : (places : List ℕ) × (length places ≡ length (records_of r)) × IsScanned (Some (rebuilt_text r)) (Good (record { header = rebuilt_header r; spots = spots_of places (records_of r); end = log_end (records_of r) }))
  written = written_good (rebuilt_header r) (records_of r) good all fits

  abbrev file : GoodLog
  file = record { header = rebuilt_header r; spots = spots_of written.0 (records_of r); end = log_end (records_of r) }

  abbrev start : Mailbox
  start = raised (rebuilt_header r) (empty_mailbox r.indexid)

  validity_small : (b : Bool) → (if b then r.salvaged.mailbox.uid_validity else r.indexid) < 2 ^ 32
  validity_small true = left.small
  validity_small false = good.wide.numbers.0

  gives : KeptGives r.salvaged r.kept r.indexid start
  gives = records_give r.salvaged r.kept r.indexid start refl refl left.valid.next_uid.0 up uids (validity_small r.salvaged.given) left.valid.next_uid.1

  applies : file_applied file (empty_mailbox r.indexid) ≡ Gives gives.after
  applies = spots_give start gives.after file.spots (ap (applied start) (records_of_spots written.0 (records_of r) written.1) ∙ gives.is)

  unmarked : IsUnmarked start
  unmarked = record { table_is = refl; rows = All-nil (λ row. row.keywords ≡ []); bare = refl }

  pub opens_to : (new : Folder) (rotated : Scanned) (index : Option Snapshot) → new name.Log ≡ Some (rebuilt_text r) → IsScanned (new name.Log2) rotated → IsIndex (new name.Index) index
      → ((s : Snapshot) → index ≡ Some s → r.indexid ≢ s.indexid) → OpensTo r new
  opens_to new rotated index here rotated_file index_file other = record {
    mailbox = gives.after;
    has = record {
      rows = gives.has.rows_are;
      keywords = kept_named r.salvaged r.kept r.indexid start gives.after left.valid gives.is unmarked gives.has.rows_are;
      uid_validity = gives.has.validity_is;
      next_uid = gives.has.next_is;
    };
    found = record {
      log = Good file;
      rotated = rotated;
      index = index;
      log_file = subst (λ (x : Option (List ℕ)). IsScanned x (Good file)) (sym here) written.2;
      rotated_file = rotated_file;
      index_file = index_file;
      is = sym (
          ap (λ (x : Option GoodLog). from_either file x (counted file index)) (first_joins_none file (new name.Log2) rotated refl rotated_file)
          ∙ ap (from_either file None) (other_counts_none file index other)
          ∙ nothing_first file None refl
          ∙ ap (at_end file) applies
          );
    };
    cache = λ indexid. bare_true new indexid gives.after (still_bare r.salvaged r.kept r.indexid start gives.after left.valid gives.is unmarked);
  }

-- behind the replace
pub rebuilt_opens : (old new : Folder) (now : ℕ) (r : Rebuild) → IsRebuild old now r → now < 2 ^ 32 → IsGoodHeader (rebuilt_header r) → All IsRecord (records_of r) → log_end (records_of r) ≤ last_end
    → HasLogNumbers r.salvaged.mailbox → new ≡ with_file old name.Log (Some (rebuilt_text r)) → OpensTo r new
rebuilt_opens old new now r is clock good all fits left put =
    let file = Some (rebuilt_text r) in
    let kept : List ℕ = filter (is_kept old) is.numbers in
    let up : IsStrictlyIncreasing r.kept = subst IsStrictlyIncreasing (sym is.keeps) (IsStrictlyIncreasing-filter (is_kept old) is.numbers is.mails.rise) in
    let uids : Uids r.kept = subst Uids (sym is.keeps) (kept_are_uids old is.numbers) in
    let log2 : new name.Log2 ≡ old name.Log2 = ap (λ (d : Folder). d name.Log2) put ∙ with_else old name.Log file name.Log2 (λ e. cc) in
    let index : new name.Index ≡ old name.Index = ap (λ (d : Folder). d name.Index) put ∙ with_else old name.Log file name.Index (λ e. cc) in
    opens_to r good all fits left up uids new is.salvages.rotated is.salvages.index (ap (λ (d : Folder). d name.Log) put ∙ with_here old name.Log file)
    (subst (λ (x : Option (List ℕ)). IsScanned x is.salvages.rotated) (sym log2) is.salvages.rotated_file)
    (subst (λ (x : Option (List ℕ)). IsIndex x is.salvages.index) (sym index) is.salvages.index_file)
    (λ s there e. fresh is.salvages.log is.rotated s now clock (sym (is.named ∙ ap (λ (x : Option Snapshot). new_indexid (used_indexids is.salvages.log is.rotated x) now) there) ∙ e))
