-- What a folder of a chain at rest opens to.
use Rattle.std.proofs.Common.{◌≡◌, ◌⊎◌, inl, inr, ⊎_elim, List, length, Some, refl, sym, ◌∙◌, ap, subst}
use Rattle.dv_model.specs.declared.types.Mailbox.{Mailbox}
use Rattle.dv_model.specs.declared.types.Mark.{Mark}
use Rattle.dv_shelf.specs.declared.shelf.Name.TheVariants as name
use Rattle.dv_shelf.specs.Folders.{Folder, with_file}
use Rattle.dv_shelf.proofs.FolderLemmas.{with_same}
use Rattle.dv_logfile.specs.declared.header.LogHeader.{LogHeader}
use Rattle.dv_logfile.specs.Scans.{Good, GoodLog}
use Rattle.dv_logfile.proofs.OneScan.{scans_one}
use Rattle.dv_openings.specs.Numbers.{OpensAs}
use Rattle.dv_openings.specs.Openings.{Finds, Found, IsFound}
use Rattle.dv_openings.proofs.FoundOnce.{found_one}
use Rattle.dv_chain.specs.declared.chain.Chain.{Chain}
use Rattle.dv_chain.specs.Openings.{IsChainOf, found_of}
use Rattle.dv_chain.specs.Rest.{HoldsAlone, IsResting, Last, Nothing, Owed, Owes, Pending, next_mark}
use Rattle.dv_chain.proofs.Named.{holds_as}
use Rattle.dv_writing.specs.Opening.{AreEqual, MayOpen}
use Rattle.dv_writing.proofs.Images.{alone_file, alone_opens, either_opens}

pub may_open : (owed : Owed) (chain : Chain) (c : Folder) → Owes chain owed → IsResting owed chain c → MayOpen owed chain c
may_open Nothing chain c owes rest = holds_as chain c rest.0 (found_of chain) (alone_opens chain c rest.0 rest.1)
may_open (Pending text after) chain c owes rest = either_opens chain c rest.0 text after owes.1 rest.1
may_open (Last log after) chain c owes rest = ⊎_elim old new rest.0
  where
    old : HoldsAlone chain c → OpensAs c chain.indexid (found_of chain) ⊎ OpensAs c chain.indexid (Finds after (next_mark chain))
    old alone = inl (holds_as chain c alone.0 (found_of chain) (alone_opens chain c alone.0 alone.1))

    new : c name.Log ≡ Some log → OpensAs c chain.indexid (found_of chain) ⊎ OpensAs c chain.indexid (Finds after (next_mark chain))
    new is =
        let same : with_file c name.Log (Some log) ≡ c = ap (with_file c name.Log) (sym is) ∙ with_same c name.Log in
        inr (subst (λ (d : Folder). OpensAs d chain.indexid (Finds after (next_mark chain))) same rest.1)

same_Good : (a b : GoodLog) → Good a ≡ Good b → a ≡ b
same_Good a b is = cc

same_mailbox : (m n : Mailbox) (k l : Mark) → Finds m k ≡ Finds n l → m ≡ n
same_mailbox m n k l is = cc

pub kept_is_opened : (kept opened : Chain) (c : Folder) → Owes kept Nothing → IsResting Nothing kept c → IsChainOf c opened → IsFound c (found_of opened) → AreEqual opened kept
kept_is_opened kept opened c owes rest of found =
    let is = alone_file kept c rest.0 rest.1 in
    let stands = rest.0.stands in
    let file : of.file ≡ is.file = same_Good of.file is.file (scans_one (c name.Log) (Good of.file) (Good is.file) of.scanned is.scanned) in
    let header : of.file.header ≡ stands.header = ap (λ (f : GoodLog). f.header) file ∙ is.header in
    let seq : opened.log.file_seq ≡ kept.log.file_seq = of.seq ∙ ap (λ (h : LogHeader). h.file_seq) header ∙ sym stands.seq in
    let end : opened.log.end ≡ kept.log.end = of.end ∙ ap (λ (f : GoodLog). f.end) file ∙ is.end in
    let count : opened.log.count ≡ kept.log.count = of.count ∙ ap (λ (f : GoodLog). length f.spots) file ∙ is.spots ∙ sym stands.count in
    let due : opened.log.debt ≡ kept.log.debt = of.debt ∙ sym owes in
    record {
      mailbox = same_mailbox opened.live.mailbox kept.live.mailbox _ _ (found_one c (found_of opened) (found_of kept) found (may_open Nothing kept c owes rest).found);
      log = λ i. record { file_seq = seq i; end = end i; count = count i; debt = due i };
      indexid = of.indexid ∙ ap (λ (h : LogHeader). h.indexid) header ∙ sym stands.indexid;
      records = of.records ∙ ap (λ (h : LogHeader). h.initial_modseq) header ∙ sym stands.number;
    }
