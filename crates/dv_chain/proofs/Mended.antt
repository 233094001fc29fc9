-- A log whose end is mended holds what it held.
use Rattle.std.proofs.Common.{◌≡◌, ⊎_elim, ℕ, ◌+◌, ◌≤◌, true, false, Bool, ◌||◌, nat_eq, nat_le, List, [], ◌∷◌, ◌++◌, length, take, drop, Option, Some, refl, sym, ◌∙◌, ap, subst, arith, append_assoc, length-append}
use Rattle.std.specs.Prelude.{if◌then◌else◌, slice_index}
use Rattle.std.proofs.lemmas.Bool.{eqb-true, eqb-false, leb-true, le-leb}
use Rattle.std.proofs.lemmas.List.{drop_at, drop-append-le, drop-drop, drop-take, length-drop, length-take, take_all, take_at, take-append-le}
use Rattle.dv_shelf.specs.declared.shelf.Name.TheVariants as name
use Rattle.dv_shelf.specs.Folders.{Folder, with_file}
use Rattle.dv_shelf.proofs.FolderLemmas.{with_else}
use Rattle.dv_logfile.specs.Layout.{IsHeader, closing, last_end}
use Rattle.dv_logfile.specs.Scans.{AreSpots, Good, GoodLog, IsGood, IsScanned, Scanned, Spot}
use Rattle.dv_logfile.proofs.Logs.{header_front}
use Rattle.dv_logfile.proofs.OneScan.{scans_one}
use Rattle.dv_openings.specs.Numbers.{IsNamed}
use Rattle.dv_openings.specs.Openings.{Found, IfGood, IsFound, IsIndex, found_in, mended}
use Rattle.dv_chain.specs.declared.file.File.{File}
use Rattle.dv_chain.specs.Files.{good_file}
use Rattle.dv_chain.specs.Openings.{IsLogOf, IsMended, IsQuiet}
use Rattle.dv_chain.proofs.Named.{file_named}

-- the bytes of the records, which are those records before any rest
record Front (from : ℕ) (spots : List Spot) (b : List ℕ) (end : ℕ) (rest : List ℕ) : Type 0 where
  text : List ℕ
  is : b ≡ text ++ rest
  long : from + length text ≡ end
  again : (other : List ℕ) → AreSpots from spots (text ++ other) end other

front : (from : ℕ) (spots : List Spot) (b : List ℕ) (end : ℕ) (rest : List ℕ) → AreSpots from spots b end rest → Front from spots b end rest
front from [] b end rest are = record {
  text = [];
  is = sym are.1;
  long = omega (arith, are.0);
  again = λ other. (are.0, refl);
}
front from (spot ∷ spots) b end rest are =
    let more = are.1 in
    let behind = front (from + length more.0) spots more.1 end rest more.5 in
    record {
      text = more.0 ++ behind.text;
      is = more.2 ∙ ap (λ (l : List ℕ). more.0 ++ l) behind.is ∙ sym (append_assoc more.0 behind.text rest);
      long = omega (arith, behind.long, length-append more.0 behind.text);
      again = λ other. (are.0, (more.0, behind.text ++ other, append_assoc more.0 behind.text other, more.3, more.4, behind.again other));
    }

-- the place where a file's records end
pub record Ends (file : GoodLog) (b rest : List ℕ) : Type 0 where
  pub inside : file.end ≤ length b
  pub behind : file.header.hdr_size ≤ file.end
  pub is : rest ≡ drop file.end b
  -- the same records stand before any rest
  pub again : (other : List ℕ) → AreSpots file.header.hdr_size file.spots (drop file.header.hdr_size (take file.end b ++ other)) file.end other

pub ends_at : (file : GoodLog) (b rest : List ℕ) → IsHeader file.header b → AreSpots file.header.hdr_size file.spots (drop file.header.hdr_size b) file.end rest → Ends file b rest
ends_at file b rest taken are =
    let hdr = file.header.hdr_size in
    let records = front hdr file.spots (drop hdr b) file.end rest are in
    let cut = take file.end b in
    let inside : file.end ≤ length b = omega (arith, records.long, ap length records.is, length-append records.text rest, length-drop hdr b, taken.size.1) in
    let long : length cut ≡ file.end = omega (arith, length-take file.end b, inside) in
    let begun : drop hdr cut ≡ records.text =
    ap (λ (k : ℕ). drop hdr (take k b)) (sym records.long) ∙ drop-take hdr (length records.text) b ∙ ap (λ (l : List ℕ). take (length records.text) l) records.is
    ∙ take_at records.text rest (length records.text) refl in
    let behind : drop file.end b ≡ rest =
    ap (λ (k : ℕ). drop k b) (omega (arith, records.long)) ∙ sym (drop-drop (length records.text) hdr b) ∙ ap (λ (l : List ℕ). drop (length records.text) l) records.is
    ∙ drop_at records.text rest (length records.text) refl in
    record {
      inside = inside;
      behind = omega (arith, records.long);
      is = sym behind;
      again = λ other.
          subst (λ (l : List ℕ). AreSpots hdr file.spots l file.end other)
          (sym (drop-append-le hdr cut other (omega (arith, long, records.long)) ∙ ap (λ (l : List ℕ). l ++ other) begun)) (records.again other);
    }

pub ends_of : (file : GoodLog) (b : List ℕ) (good : IsGood file b) → Ends file b good.rest
ends_of file b good = ends_at file b good.rest good.taken good.records

-- the file cut at its end, and closed there
pub cut_at_end : (file : GoodLog) (b rest : List ℕ) → IsHeader file.header b → AreSpots file.header.hdr_size file.spots (drop file.header.hdr_size b) file.end rest → file.end ≤ last_end → IsGood file (take file.end b ++ closing)
cut_at_end file b rest taken are fits =
    let ends = ends_at file b rest taken are in
    let cut = take file.end b in
    let long : length cut ≡ file.end = omega (arith, length-take file.end b, ends.inside) in
    let all : length (cut ++ closing) ≡ file.end + 4 = omega (arith, length-append cut closing, long) in
    record {
      taken = header_front file.header b (cut ++ closing) file.end taken ends.behind (take-append-le file.end cut closing (omega (arith, long)) ∙ take_all file.end cut (omega (arith, long)))
          (omega (arith, all, ends.behind)) (omega (arith, all, fits));
      rest = closing;
      records = ends.again closing;
      closed = refl;
    }

pub cut_good : (file : GoodLog) (b : List ℕ) → IsGood file b → file.end ≤ last_end → IsGood file (take file.end b ++ closing)
cut_good file b good fits = cut_at_end file b good.rest good.taken good.records fits

-- the end is open: it is cut and closed
pub open_end : (file : File) → file.end ≤ length file.bytes → (nat_le (length file.bytes) file.end || nat_eq (slice_index file.bytes file.end) 0x80) ≡ true → mended file.bytes file.end ≡ take file.end file.bytes ++ closing
open_end file inside is = by_length (nat_eq (length file.bytes) file.end) refl
  where
    short : nat_eq (length file.bytes) file.end ≡ true → file.bytes ++ closing ≡ take file.end file.bytes ++ closing
    short e = ap (λ (l : List ℕ). l ++ closing) (sym (take_all file.end file.bytes (omega (arith, eqb-true (length file.bytes) file.end e))))

    by_gate : (x y : Bool) → x ≡ false → x || y ≡ true → (if y then take file.end file.bytes ++ closing else file.bytes) ≡ take file.end file.bytes ++ closing
    by_gate true y less e = cc
    by_gate false true less e = refl
    by_gate false false less e = cc

    not_short : nat_eq (length file.bytes) file.end ≡ false → nat_le (length file.bytes) file.end ≡ false
    not_short e = by_le (nat_le (length file.bytes) file.end) refl
      where
        by_le : (x : Bool) → nat_le (length file.bytes) file.end ≡ x → x ≡ false
        by_le true le = absurd (eqb-false (length file.bytes) file.end e (omega (arith, leb-true (length file.bytes) file.end le, inside)))
        by_le false le = refl

    by_length : (x : Bool) → nat_eq (length file.bytes) file.end ≡ x
        → (if x then file.bytes ++ closing else (if nat_eq (slice_index file.bytes file.end) 0x80 then take file.end file.bytes ++ closing else file.bytes)) ≡ take file.end file.bytes ++ closing
    by_length true e = short e
    by_length false e = by_gate (nat_le (length file.bytes) file.end) (nat_eq (slice_index file.bytes file.end) 0x80) (not_short e) is

-- the end is shut: nothing is to be done
pub shut_end : (file : File) → (nat_le (length file.bytes) file.end || nat_eq (slice_index file.bytes file.end) 0x80) ≡ false → mended file.bytes file.end ≡ file.bytes
shut_end file is = by_both (nat_le (length file.bytes) file.end) (nat_eq (slice_index file.bytes file.end) 0x80) refl is (nat_eq (length file.bytes) file.end) refl
  where
    by_both : (x y : Bool) → nat_le (length file.bytes) file.end ≡ x → x || y ≡ false → (z : Bool) → nat_eq (length file.bytes) file.end ≡ z
        → (if z then file.bytes ++ closing else (if y then take file.end file.bytes ++ closing else file.bytes)) ≡ file.bytes
    by_both true y le e z at = cc
    by_both false true le e z at = cc
    by_both false false le e false at = refl
    by_both false false le e true at =
        let yes : nat_le (length file.bytes) file.end ≡ true = le-leb (length file.bytes) file.end (omega (arith, eqb-true (length file.bytes) file.end at)) in
        cc

-- ---- the folder

-- with the same records in the log, and the same index and rotated log, a folder opens to the same
pub found_again : (old c : Folder) (file : GoodLog) → IsScanned (old name.Log) (Good file) → IsScanned (c name.Log) (Good file) → c name.Log2 ≡ old name.Log2 → c name.Index ≡ old name.Index → (f : Found) → IsFound old f → IsFound c f
found_again old c file here there log2 index f found =
    let one : found.log ≡ Good file = scans_one (old name.Log) found.log (Good file) found.log_file here in
    record {
      log = Good file;
      rotated = found.rotated;
      index = found.index;
      log_file = there;
      rotated_file = subst (λ (x : Option (List ℕ)). IsScanned x found.rotated) (sym log2) (subst (λ (x : Scanned). IfGood x (IsScanned (old name.Log2) found.rotated)) one found.rotated_file);
      index_file = subst (λ (x : Option (List ℕ)). IsIndex x found.index) (sym index) (subst (λ (x : Scanned). IfGood x (IsIndex (old name.Index) found.index)) one found.index_file);
      is = found.is ∙ ap (λ (x : Scanned). found_in x found.rotated found.index) one;
    }

-- a folder whose log's end was mended opens to the same
pub quiet : (old c : Folder) (log : File) (is : IsLogOf old log) → IsMended old log c → IsQuiet old c
quiet old c log is mend = ⊎_elim same put mend
  where
    good : IsGood (good_file log is.spots) (mended log.bytes log.end)
    good = by_gate (nat_le (length log.bytes) log.end || nat_eq (slice_index log.bytes log.end) 0x80) refl
      where
        by_gate : (x : Bool) → (nat_le (length log.bytes) log.end || nat_eq (slice_index log.bytes log.end) 0x80) ≡ x → IsGood (good_file log is.spots) (mended log.bytes log.end)
        by_gate true open_gate = subst (IsGood (good_file log is.spots)) (sym (open_end log is.has.whole.inside open_gate)) (cut_good (good_file log is.spots) log.bytes is.has.good is.has.whole.fits)
        by_gate false shut_gate = subst (IsGood (good_file log is.spots)) (sym (shut_end log shut_gate)) is.has.good

    same : c ≡ old → IsQuiet old c
    same e = record {
      opens = λ f. (λ found. subst (λ (d : Folder). IsFound d f) (sym e) found, λ found. subst (λ (d : Folder). IsFound d f) e found);
      named = λ indexid. (λ named. subst (λ (d : Folder). IsNamed d indexid) (sym e) named, λ named. subst (λ (d : Folder). IsNamed d indexid) e named);
      others = λ n other. ap (λ (d : Folder). d n) e;
    }

    before : IsScanned (old name.Log) (Good (good_file log is.spots))
    before = subst (λ (x : Option (List ℕ)). IsScanned x (Good (good_file log is.spots))) (sym is.file) is.has.good

    after : c ≡ with_file old name.Log (Some (mended log.bytes log.end)) → IsScanned (c name.Log) (Good (good_file log is.spots))
    after e = subst (λ (d : Folder). IsScanned (d name.Log) (Good (good_file log is.spots))) (sym e) good

    put : c ≡ with_file old name.Log (Some (mended log.bytes log.end)) → IsQuiet old c
    put e = record {
      opens = λ f. (
        λ found. found_again old c (good_file log is.spots) before (after e) (ap (λ (d : Folder). d name.Log2) e) (ap (λ (d : Folder). d name.Index) e) f found,
        λ found. found_again c old (good_file log is.spots) (after e) before (sym (ap (λ (d : Folder). d name.Log2) e)) (sym (ap (λ (d : Folder). d name.Index) e)) f found,
      );
      named = λ indexid. (file_named old c (good_file log is.spots) before (after e) indexid, file_named c old (good_file log is.spots) (after e) before indexid);
      others = λ n other. ap (λ (d : Folder). d n) e ∙ with_else old name.Log (Some (mended log.bytes log.end)) n other;
    }
