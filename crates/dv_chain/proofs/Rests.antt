-- A chain that was opened is at rest.
use Rattle.std.proofs.Common.{◌≡◌, ℕ, ◌+◌, ◌≤◌, true, false, Bool, nat_eq, List, [], ◌∷◌, ◌++◌, length, take, drop, map, Option, Some, None, refl, sym, ◌∙◌, ap, subst, arith, add-zero, length-append}
use Rattle.std.specs.Prelude.{if◌then◌else◌, slice_index, unwrap_or, Ok}
use Rattle.std.proofs.lemmas.Bool.{eqb-true, eqb-false}
use Rattle.std.proofs.lemmas.List.{get_or-append-add, length-map, length-take, take_all}
use Rattle.dv_shelf.specs.declared.shelf.Name.TheVariants as name
use Rattle.dv_shelf.specs.Crashes.{Only}
use Rattle.dv_shelf.specs.Folders.{Folder, contents, with_file}
use Rattle.dv_shelf.proofs.FolderLemmas.{with_else, with_here}
use Rattle.dv_logfile.specs.Layout.{Begins, Spelled, closing, last_end}
use Rattle.dv_logfile.specs.Reading.{HasShutGate}
use Rattle.dv_logfile.specs.Scans.{AreSpots, Good, GoodLog, IsGood, IsScanned, Spot}
use Rattle.dv_openings.specs.Openings.{IsFound, mended}
use Rattle.dv_chain.specs.declared.chain.Chain.{Chain}
use Rattle.dv_chain.specs.declared.file.File.{File}
use Rattle.dv_chain.specs.Openings.{HasBounds, IsChainOf, IsLogOf, LeavesMended, found_of}
use Rattle.dv_chain.specs.Rest.{Holds, HoldsAlone, Nothing, Rests, cut_at}
use Rattle.dv_chain.proofs.Mended.{cut_good, ends_of, found_again}
use Rattle.dv_shelf.specs.Sees.{SeesFolder}

-- ---- the records of a good file

pub spots_spelled : (from : ℕ) (spots : List Spot) (b : List ℕ) (end : ℕ) (rest : List ℕ) → AreSpots from spots b end rest → Spelled (map (λ (s : Spot). s.is) spots) b rest
spots_spelled from [] b end rest are = sym are.1
spots_spelled from (spot ∷ spots) b end rest are =
    let more = are.1 in
    (more.0, more.1, more.2, more.3, spots_spelled (from + length more.0) spots more.1 end rest more.5)

-- it begins with them, up to its end
pub good_begins : (file : GoodLog) (b : List ℕ) → IsGood file b → file.end ≤ last_end → Begins file.header (map (λ (s : Spot). s.is) file.spots) file.end b
good_begins file b good fits =
    let ends = ends_of file b good in
    record {
      header = good.taken;
      spelled = subst (λ (l : List ℕ). Spelled (map (λ (s : Spot). s.is) file.spots) (drop file.header.hdr_size b) l) ends.is
          (spots_spelled file.header.hdr_size file.spots (drop file.header.hdr_size b) file.end good.rest good.records);
      behind = (ends.behind, ends.inside);
      fits = fits;
    }

-- its bytes
pub contents_good : (folder : Folder) (file : GoodLog) → IsScanned (folder name.Log) (Good file) → IsGood file (contents folder name.Log)
contents_good folder file is = by_file (folder name.Log) is
  where
    by_file : (f : Option (List ℕ)) → IsScanned f (Good file) → IsGood file (unwrap_or f [])
    by_file None scanned = absurd scanned
    by_file (Some b) scanned = scanned

-- ---- a mended end

closed_gate : (front : List ℕ) → HasShutGate (length front) (front ++ closing)
closed_gate front =
    let byte : slice_index (front ++ closing) (length front) ≡ 0 = ap (λ (k : ℕ). slice_index (front ++ closing) k) (sym (add-zero (length front))) ∙ get_or-append-add front closing 0 0 in
    (omega (arith, length-append front closing), λ is. cc)

cut_gate : (end : ℕ) (b : List ℕ) → end ≤ length b → HasShutGate end (take end b ++ closing)
cut_gate end b inside = subst (λ (k : ℕ). HasShutGate k (take end b ++ closing)) (omega (arith, length-take end b, inside)) (closed_gate (take end b))

module _ (file : GoodLog) (b : List ℕ) (good : IsGood file b) (fits : file.end ≤ last_end) where
  abbrev end : ℕ
  end = file.end

  inside : end ≤ length b
  inside = (ends_of file b good).inside

  -- what holds of the bytes that are mended and of those that stay holds of both
  by_mended : (P : List ℕ → Type 0) → P (take end b ++ closing) → ((nat_eq (length b) end ≡ false) → (nat_eq (slice_index b end) 0x80 ≡ false) → P b) → P (mended b end)
  by_mended P cut stays = by_length (nat_eq (length b) end) refl
    where
      by_gate : (y : Bool) → nat_eq (length b) end ≡ false → nat_eq (slice_index b end) 0x80 ≡ y → P (if y then take end b ++ closing else b)
      by_gate true long e = cut
      by_gate false long e = stays long e

      by_length : (x : Bool) → nat_eq (length b) end ≡ x → P (if x then b ++ closing else (if nat_eq (slice_index b end) 0x80 then take end b ++ closing else b))
      by_length true e = subst (λ (l : List ℕ). P (l ++ closing)) (take_all end b (omega (arith, eqb-true (length b) end e))) cut
      by_length false e = by_gate (nat_eq (slice_index b end) 0x80) e refl

  pub mended_good : IsGood file (mended b end)
  mended_good = by_mended (IsGood file) (cut_good file b good fits) (λ _ _. good)

  pub mended_gate : HasShutGate end (mended b end)
  mended_gate = by_mended (HasShutGate end) (cut_gate end b inside) (λ long shut. (omega (arith, inside, eqb-false (length b) end long), eqb-false (slice_index b end) 0x80 shut))

-- ---- a folder whose log is good

-- the chain stands on the folder's log
pub holds_good : (chain : Chain) (c : Folder) (file : GoodLog) → IsGood file (contents c name.Log) → IsScanned (c name.Log) (Good file) → file.end ≤ last_end
    → chain.log.file_seq ≡ file.header.file_seq → chain.log.end ≡ file.end → chain.log.count ≡ length file.spots → chain.indexid ≡ file.header.indexid → chain.records ≡ file.header.initial_modseq → IsFound c (found_of chain) → Holds chain c
holds_good chain c file good scanned fits seq end count indexid number found =
    let b = contents c name.Log in
    let cut : IsScanned (cut_at file.end c name.Log) (Good file) =
    subst (λ (x : Option (List ℕ)). IsScanned x (Good file)) (sym (with_here c name.Log (Some (take file.end b ++ closing)))) (cut_good file b good fits) in
    record {
      stands = record {
        header = file.header;
        records = map (λ (s : Spot). s.is) file.spots;
        begins = subst (λ (e : ℕ). Begins file.header (map (λ (s : Spot). s.is) file.spots) e b) (sym end) (good_begins file b good fits);
        seq = seq;
        count = count ∙ sym (length-map file.spots (λ (s : Spot). s.is));
        indexid = indexid;
        number = number;
      };
      opens = subst (λ (e : ℕ). IsFound (cut_at e c) (found_of chain)) (sym end)
          (found_again c (cut_at file.end c) file scanned cut (with_else c name.Log (Some (take file.end b ++ closing)) name.Log2 (λ e. cc)) (with_else c name.Log (Some (take file.end b ++ closing)) name.Index (λ e. cc)) (found_of chain) found);
    }

-- ---- behind opening

pub opened_image : (old c : Folder) (chain : Chain) → IsChainOf old chain → HasBounds chain → IsFound old (found_of chain) → c ≡ with_file old name.Log (Some (mended (contents old name.Log) chain.log.end)) → HoldsAlone chain c
opened_image old c chain is bounds found e =
    let file = is.file in
    let b = contents old name.Log in
    let good = contents_good old file is.scanned in
    let fits : file.end ≤ last_end = omega (arith, bounds.end, is.end) in
    let log : c name.Log ≡ Some (mended b file.end) =
    ap (λ (d : Folder). d name.Log) e ∙ with_here old name.Log (Some (mended b chain.log.end)) ∙ ap (λ (k : ℕ). Some (mended b k)) is.end in
    let here : contents c name.Log ≡ mended b file.end = ap (λ (x : Option (List ℕ)). unwrap_or x []) log in
    let scanned : IsScanned (c name.Log) (Good file) = subst (λ (x : Option (List ℕ)). IsScanned x (Good file)) (sym log) (mended_good file b good fits) in
    let other : (n : _) → (n ≡ name.Log → ⊥) → c n ≡ old n = λ n apart. ap (λ (d : Folder). d n) e ∙ with_else old name.Log (Some (mended b chain.log.end)) n apart in
    let again = found_again old c file is.scanned scanned (other name.Log2 (λ q. cc)) (other name.Index (λ q. cc)) (found_of chain) found in (
      holds_good chain c file (subst (IsGood file) (sym here) (mended_good file b good fits)) scanned fits is.seq is.end is.count is.indexid is.records again,
      subst (λ (k : ℕ). HasShutGate k (contents c name.Log)) (sym is.end) (subst (HasShutGate file.end) (sym here) (mended_gate file b good fits)),
    )

pub opened_put : (old mid new : Folder) (log : File) → IsLogOf old log → mid ≡ old → LeavesMended mid log new (Ok tt) → new ≡ with_file old name.Log (Some (mended (contents old name.Log) log.end))
opened_put old mid new log is same leaves =
    leaves ∙ ap (λ (d : Folder). with_file d name.Log (Some (mended log.bytes log.end))) same
    ∙ ap (λ (x : Option (List ℕ)). with_file old name.Log (Some (mended (unwrap_or x []) log.end))) (sym is.file)

pub opened_rests : {S : Type 0} (sees : SeesFolder S) (old new : S) (chain : Chain) → IsChainOf (sees.files old) chain → HasBounds chain → IsFound (sees.files old) (found_of chain)
    → sees.files new ≡ with_file (sees.files old) name.Log (Some (mended (contents (sees.files old) name.Log) chain.log.end)) → Only (sees.files new) (sees.may_leave new) → Rests sees Nothing chain new
opened_rests sees old new chain is bounds found put only = record {
  bounds = bounds;
  owes = is.debt;
  each = λ c left. opened_image (sees.files old) c chain is bounds found (only c left ∙ put);
}
