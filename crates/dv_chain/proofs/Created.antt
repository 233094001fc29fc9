-- What making a mailbox folder leaves.
use Rattle.std.proofs.Common.{◌≡◌, ℕ, ◌^◌, ◌<◌, ◌≤◌, All, List, [], ◌∷◌, length, map, Option, Some, None, refl, sym, ◌∙◌, ap, subst, arith}
use Rattle.std.specs.Prelude.{unwrap_or}
use Rattle.std.proofs.lemmas.List.{length-map}
use Rattle.std.proofs.lemmas.List.Elements.{All-cons, All-nil}
use Rattle.dv_model.specs.declared.types.Mailbox.{Mailbox}
use Rattle.dv_model.specs.declared.types.Record.{Record}
use Rattle.dv_model.specs.Appends.{validity_record}
use Rattle.dv_model.specs.Effects.{applied}
use Rattle.dv_model.specs.Mailboxes.{empty_mailbox}
use Rattle.dv_model.specs.Spelling.{IsRecord}
use Rattle.dv_model.proofs.Appends.{created_is, validity_is_record}
use Rattle.dv_shelf.specs.declared.shelf.Name.TheVariants as name
use Rattle.dv_shelf.specs.Crashes.{Only}
use Rattle.dv_shelf.specs.Folders.{Folder, contents, with_file}
use Rattle.dv_shelf.proofs.FolderLemmas.{with_else, with_here}
use Rattle.dv_logfile.specs.declared.commit.LogFile.{LogFile}
use Rattle.dv_logfile.specs.declared.header.LogHeader.{LogHeader}
use Rattle.dv_logfile.specs.Layout.{log_end, new_header}
use Rattle.dv_logfile.specs.Reading.{HasShutGate}
use Rattle.dv_logfile.specs.Scans.{Good, GoodLog, IsGood, IsScanned, Missing, Spot, spots_of}
use Rattle.dv_logfile.proofs.Logs.{good_new_header}
use Rattle.dv_logfile.proofs.Reading.{written_gate}
use Rattle.dv_logfile.proofs.Spots.{written_good}
use Rattle.dv_openings.specs.Openings.{Finds, Gives, IsFound, IsIndex, at_end, end_mark, file_applied, from_nothing, raised, spots_applied}
use Rattle.dv_chain.specs.declared.chain.Chain.{Chain}
use Rattle.dv_chain.specs.Creations.{HasNone, IsFirst, first_log, first_mailbox}
use Rattle.dv_chain.specs.Openings.{HasBounds, IsChainOf, found_of}
use Rattle.dv_chain.specs.Rest.{HoldsAlone, Nothing, Rests}
use Rattle.dv_chain.proofs.Joins.{nothing_first}
use Rattle.dv_chain.proofs.Rests.{holds_good}
use Rattle.dv_chain.proofs.Spots.{spots_give}
use Rattle.dv_shelf.specs.Sees.{SeesFolder}

-- ---- the first log

module _ (n : ℕ) (some : 1 ≤ n) (small : n < 2 ^ 32) where
  abbrev records : List Record
  records = validity_record n ∷ []

  abbrev text : List ℕ
  text = first_log n

  -- it is a good file of its one record
  pub record IsFirstFile (file : GoodLog) : Type 0 where
    pub good : IsGood file (first_log n)
    pub header : file.header ≡ new_header n
    pub end : file.end ≡ 56
    pub records : map (λ (s : Spot). s.is) file.spots ≡ validity_record n ∷ []

  -- one record, one place
  one_spot : (places : List ℕ) → length places ≡ 1 → map (λ (s : Spot). s.is) (spots_of places (validity_record n ∷ [])) ≡ validity_record n ∷ []
  one_spot [] e = absurd (omega arith)
  one_spot (place ∷ []) e = refl
  one_spot (place ∷ more ∷ places) e = absurd (omega arith)

  pub first_file : (file : GoodLog) × IsFirstFile file
  first_file =
      let all : All IsRecord (validity_record n ∷ []) = All-cons IsRecord (validity_record n) [] (validity_is_record n) (All-nil IsRecord) in
      let found = written_good (new_header n) (validity_record n ∷ []) (good_new_header n some small) all (omega arith) in (
        record { header = new_header n; spots = spots_of found.0 (validity_record n ∷ []); end = log_end (validity_record n ∷ []) },
        record { good = found.2; header = refl; end = refl; records = one_spot found.0 found.1 },
      )

  -- ---- the folder

  module _ (c : Folder) (log : c name.Log ≡ Some (first_log n)) where
    pub first_scanned : IsScanned (c name.Log) (Good first_file.0)
    first_scanned = subst (λ (x : Option (List ℕ)). IsScanned x (Good first_file.0)) (sym log) first_file.1.good

    pub first_found : c name.Index ≡ None → c name.Log2 ≡ None → IsFound c (Finds (first_mailbox n) (record { file_seq = 1; offset = 56 }))
    first_found index log2 =
        let file = first_file.0 in
        let is = first_file.1 in
        let gives : file_applied file (empty_mailbox n) ≡ Gives (first_mailbox n) =
        ap (λ (h : LogHeader). spots_applied (raised h (empty_mailbox n)) file.spots) is.header
        ∙ spots_give (empty_mailbox n) (first_mailbox n) file.spots (ap (applied (empty_mailbox n)) is.records ∙ created_is n small) in
        let nothing : from_nothing file None ≡ at_end file (file_applied file (empty_mailbox n)) =
        nothing_first file None (ap (λ (h : LogHeader). h.file_seq) is.header) ∙ ap (λ (h : LogHeader). at_end file (file_applied file (empty_mailbox h.indexid))) is.header in
        let mark : Finds (first_mailbox n) (end_mark file) ≡ Finds (first_mailbox n) (record { file_seq = 1; offset = 56 }) =
        ap (λ (h : LogHeader). Finds (first_mailbox n) (record { file_seq = h.file_seq; offset = file.end })) is.header
        ∙ ap (λ (k : ℕ). Finds (first_mailbox n) (record { file_seq = 1; offset = k })) is.end in
        record {
          log = Good file;
          rotated = Missing;
          index = None;
          log_file = first_scanned;
          rotated_file = subst (λ (x : Option (List ℕ)). IsScanned x Missing) (sym log2) tt;
          index_file = subst (λ (x : Option (List ℕ)). IsIndex x None) (sym index) refl;
          is = sym (nothing ∙ ap (at_end file) gives ∙ mark);
        }

    abbrev pub first_chain_of : (chain : Chain) → IsFirst n chain → IsChainOf c chain
    first_chain_of chain is = record {
      file = first_file.0;
      scanned = first_scanned;
      seq = ap (λ (l : LogFile). l.file_seq) is.log ∙ sym (ap (λ (h : LogHeader). h.file_seq) first_file.1.header);
      end = ap (λ (l : LogFile). l.end) is.log ∙ sym first_file.1.end;
      count = ap (λ (l : LogFile). l.count) is.log ∙ sym (ap length first_file.1.records) ∙ length-map first_file.0.spots (λ (s : Spot). s.is);
      debt = ap (λ (l : LogFile). l.debt) is.log;
      indexid = is.indexid ∙ sym (ap (λ (h : LogHeader). h.indexid) first_file.1.header);
      records = is.records ∙ sym (ap (λ (h : LogHeader). h.initial_modseq) first_file.1.header);
    }

    pub first_found_of : (chain : Chain) → IsFirst n chain → c name.Index ≡ None → c name.Log2 ≡ None → IsFound c (found_of chain)
    first_found_of chain is index log2 =
        let same : Finds (first_mailbox n) (record { file_seq = 1; offset = 56 }) ≡ found_of chain =
        ap (λ (m : Mailbox). Finds m (record { file_seq = 1; offset = 56 })) (sym is.mailbox)
        ∙ ap (λ (l : LogFile). Finds chain.live.mailbox (record { file_seq = l.file_seq; offset = l.end })) (sym is.log) in
        subst (IsFound c) same (first_found index log2)

    pub first_alone : (chain : Chain) → IsFirst n chain → c name.Index ≡ None → c name.Log2 ≡ None → HoldsAlone chain c
    first_alone chain is index log2 =
        let file = first_file.0 in
        let of = first_chain_of chain is in
        let here : contents c name.Log ≡ first_log n = ap (λ (x : Option (List ℕ)). unwrap_or x []) log in
        let end : chain.log.end ≡ 56 = ap (λ (l : LogFile). l.end) is.log in
        let gate : HasShutGate 56 (first_log n) = written_gate (new_header n) (validity_record n ∷ []) in (
          holds_good chain c file (subst (IsGood file) (sym here) first_file.1.good) first_scanned (omega (arith, first_file.1.end)) of.seq of.end of.count of.indexid of.records (first_found_of chain is index log2),
          subst (λ (k : ℕ). HasShutGate k (contents c name.Log)) (sym end) (subst (HasShutGate 56) (sym here) gate),
        )

  -- ---- behind the replace

  module _ (old new : Folder) (put : new ≡ with_file old name.Log (Some (first_log n))) where
    put_log : new name.Log ≡ Some (first_log n)
    put_log = ap (λ (d : Folder). d name.Log) put ∙ with_here old name.Log (Some (first_log n))

    pub created_chain : (chain : Chain) → IsFirst n chain → IsChainOf new chain
    created_chain chain is = first_chain_of new put_log chain is

    module _ (none : HasNone old) where
      put_index : new name.Index ≡ None
      put_index = ap (λ (d : Folder). d name.Index) put ∙ with_else old name.Log (Some (first_log n)) name.Index (λ e. cc) ∙ none.index

      put_log2 : new name.Log2 ≡ None
      put_log2 = ap (λ (d : Folder). d name.Log2) put ∙ with_else old name.Log (Some (first_log n)) name.Log2 (λ e. cc) ∙ none.log2

      pub created_found : (chain : Chain) → IsFirst n chain → IsFound new (found_of chain)
      created_found chain is = first_found_of new put_log chain is put_index put_log2

      pub created_alone : (chain : Chain) → IsFirst n chain → HoldsAlone chain new
      created_alone chain is = first_alone new put_log chain is put_index put_log2

pub first_bounds : (n : ℕ) (chain : Chain) → 1 ≤ n → IsFirst n chain → HasBounds chain
first_bounds n chain some is =
    let end : chain.log.end ≡ 56 = ap (λ (l : LogFile). l.end) is.log in
    let count : chain.log.count ≡ 1 = ap (λ (l : LogFile). l.count) is.log in
    record { end = omega (arith, end); count = omega (arith, end, count); named = omega (arith, some, is.indexid) }

pub created_rests : {S : Type 0} (sees : SeesFolder S) (now : S) (n : ℕ) (chain : Chain) → 1 ≤ n → IsFirst n chain → HoldsAlone chain (sees.files now) → Only (sees.files now) (sees.may_leave now) → Rests sees Nothing chain now
created_rests sees now n chain some is alone only =
    record {
      bounds = first_bounds n chain some is;
      owes = ap (λ (l : LogFile). l.debt) is.log;
      each = λ c left. subst (HoldsAlone chain) (sym (only c left)) alone;
    }
