-- What stands in a folder in which a chain's place is: its log, cut at the chain's end, and what it
-- opens to.
use Rattle.std.proofs.Common.{◌≡◌, ℕ, ◌+◌, ◌-◌, ◌<◌, ◌≤◌, List, [], ◌++◌, length, take, drop, replicate, Option, Some, None, refl, sym, ◌∙◌, ap, subst, arith, length-append}
use Rattle.std.specs.Prelude.{unwrap_or}
use Rattle.std.proofs.lemmas.List.{append-nil, length-take, take_all, take-append-drop, take-append-le}
use Rattle.dv_model.specs.declared.types.Mark.{Mark}
use Rattle.dv_shelf.specs.declared.shelf.Name.TheVariants as name
use Rattle.dv_shelf.specs.Folders.{Folder, contents}
use Rattle.dv_logfile.specs.Layout.{Begins, IsHeader, closing}
use Rattle.dv_logfile.specs.Reading.{HasShutGate}
use Rattle.dv_logfile.specs.Scans.{AreSpots, GoodLog, IsGood, IsScanned, Scanned, Missing, BadHeader, BadSpot, Good}
use Rattle.dv_logfile.proofs.Logs.{header_front}
use Rattle.dv_logfile.proofs.Reading.{shut_closed}
use Rattle.dv_openings.specs.Openings.{Finds, IfGood, IsFound, end_mark, found_in}
use Rattle.dv_chain.specs.declared.chain.Chain.{Chain}
use Rattle.dv_chain.specs.Openings.{found_of}
use Rattle.dv_chain.specs.Rest.{Holds, HoldsAlone, cut_at}
use Rattle.dv_chain.proofs.Mended.{ends_of, found_again}
use Rattle.dv_chain.proofs.Named.{holds_as}
use Rattle.dv_files.specs.Quiet.{Opens}
use Rattle.dv_files.specs.Texts.{IsSnapshotOf, closed_at, place_of}
use Rattle.dv_files.proofs.Empty.{HasNumber, found_end}
use Rattle.dv_files.proofs.Resumed.{IsSnapshotAt, opens_at_end}

-- ---- bytes

cut_front : (end : ℕ) (b : List ℕ) → end ≤ length b → take end (take end b ++ closing) ≡ take end b
cut_front end b inside =
    let long : length (take end b) ≡ end = omega (arith, length-take end b, inside) in
    take-append-le end (take end b) closing (omega (arith, long)) ∙ take_all end (take end b) (omega (arith, long))

-- a log that isn't short needs no zero bytes
pub closed_long : (end : ℕ) (b : List ℕ) → end ≤ length b → closed_at end b ≡ take end b ++ closing
closed_long end b inside =
    let none : end - length b ≡ 0 = omega (arith, inside) in
    ap (λ (k : ℕ). take end b ++ replicate k 0 ++ closing) none ∙ ap (λ (l : List ℕ). l ++ closing) (append-nil (take end b))

some_there : (file : Option (List ℕ)) (n : ℕ) → n < length (unwrap_or file []) → file ≡ Some (unwrap_or file [])
some_there None n less = absurd (omega (arith, less))
some_there (Some b) n less = refl

module _ (chain : Chain) where
  -- the log cut at the chain's end
  abbrev pub cut : Folder → List ℕ
  cut d = take chain.log.end (contents d name.Log) ++ closing

  pub record Ground (d : Folder) : Type 0 where
    pub log : GoodLog
    pub good : IsGood log (cut d)
    pub seq : log.header.file_seq ≡ chain.log.file_seq
    pub end : log.end ≡ chain.log.end
    pub indexid : log.header.indexid ≡ chain.indexid
    pub taken : IsHeader log.header (contents d name.Log)
    pub number : HasNumber log chain.live.mailbox
    pub rotated : Scanned
    pub rotated_there : IsScanned (d name.Log2) rotated

  pub ground : (d : Folder) → Holds chain d → Ground d
  ground d holds = by_log holds.opens.log refl
    where
      b : List ℕ
      b = contents d name.Log

      by_log : (l : Scanned) → holds.opens.log ≡ l → Ground d
      by_log Missing e =
          let is = holds.opens.is ∙ ap (λ (x : Scanned). found_in x holds.opens.rotated holds.opens.index) e in
          absurd cc
      by_log BadHeader e =
          let is = holds.opens.is ∙ ap (λ (x : Scanned). found_in x holds.opens.rotated holds.opens.index) e in
          absurd cc
      by_log (BadSpot place) e =
          let is = holds.opens.is ∙ ap (λ (x : Scanned). found_in x holds.opens.rotated holds.opens.index) e in
          absurd cc
      by_log (Good log) e =
          let is = holds.opens.is ∙ ap (λ (x : Scanned). found_in x holds.opens.rotated holds.opens.index) e in
          let ends = found_end log holds.opens.rotated holds.opens.index chain.live.mailbox (place_of chain) is in
          let good : IsGood log (cut d) = subst (λ (x : Scanned). IsScanned (Some (cut d)) x) e holds.opens.log_file in
          let begins = holds.stands.begins in
          let long : length (cut d) ≡ chain.log.end + 4 = omega (arith, length-append (take chain.log.end b) closing, length-take chain.log.end b, begins.behind.1) in
          let there : IsHeader holds.stands.header (cut d) =
          header_front holds.stands.header b (cut d) chain.log.end begins.header begins.behind.0 (cut_front chain.log.end b begins.behind.1) (omega (arith, long, begins.behind.0)) (omega (arith, long, begins.fits)) in
          let same : holds.stands.header ≡ log.header = there.read ∙ sym good.taken.read in
          record {
            log = log;
            good = good;
            seq = sym (ap (λ (k : Mark). k.file_seq) ends.0);
            end = sym (ap (λ (k : Mark). k.offset) ends.0);
            indexid = sym (holds.stands.indexid ∙ ap (λ h. h.indexid) same);
            taken = subst (λ h. IsHeader h b) same begins.header;
            number = ends.1;
            rotated = holds.opens.rotated;
            rotated_there = subst (λ (x : Scanned). IfGood x (IsScanned (d name.Log2) holds.opens.rotated)) e holds.opens.rotated_file;
          }

  -- its end is that of the log
  pub place_is : (d : Folder) (g : Ground d) → place_of chain ≡ end_mark g.log
  place_is d g = λ i. record { file_seq = sym g.seq i; offset = sym g.end i }

  -- the chain's snapshot is one at that end
  pub snapshot_there : (d : Folder) (g : Ground d) (text : List ℕ) → IsSnapshotOf chain text → IsSnapshotAt g.log chain.live.mailbox text
  snapshot_there d g text is = rw (g.indexid, sym (place_is d g)) is

  -- ---- at rest

  -- no record stands behind the chain's
  alone_good : (d : Folder) (alone : HoldsAlone chain d) → IsGood (ground d alone.0).log (contents d name.Log)
  alone_good d alone =
      let b = contents d name.Log in
      let g = ground d alone.0 in
      let end = chain.log.end in
      let inside : end ≤ length b = omega (arith, alone.1.0) in
      let ends = ends_of g.log (cut d) g.good in
      let front : take g.log.end (cut d) ++ drop end b ≡ b =
      ap (λ (k : ℕ). take k (cut d) ++ drop end b) g.end ∙ ap (λ (l : List ℕ). l ++ drop end b) (cut_front end b inside) ∙ take-append-drop end b in
      record {
        taken = g.taken;
        rest = drop end b;
        records = subst (λ (l : List ℕ). AreSpots g.log.header.hdr_size g.log.spots (drop g.log.header.hdr_size l) g.log.end (drop end b)) front (ends.again (drop end b));
        closed = shut_closed end b alone.1;
      }

  -- so the folder opens to the chain's mailbox
  pub alone_found : (d : Folder) → HoldsAlone chain d → IsFound d (found_of chain)
  alone_found d alone =
      let g = ground d alone.0 in
      let there = some_there (d name.Log) chain.log.end alone.1.0 in
      found_again (cut_at chain.log.end d) d g.log g.good (subst (λ (x : Option (List ℕ)). IsScanned x (Good g.log)) (sym there) (alone_good d alone)) refl refl (found_of chain) alone.0.opens

  pub alone_opens : (d : Folder) → HoldsAlone chain d → Opens chain d
  alone_opens d alone = holds_as chain d alone.0 (found_of chain) (alone_found d alone)

  -- with the chain's snapshot, and whatever rotated log, it rests too
  pub alone_with : (d c : Folder) → HoldsAlone chain d → c name.Log ≡ d name.Log → (text : List ℕ) → IsSnapshotOf chain text → c name.Index ≡ Some text → (rotated : Scanned) → IsScanned (c name.Log2) rotated → HoldsAlone chain c
  alone_with d c alone log text is index rotated log2 =
      let g = ground d alone.0 in
      let end = chain.log.end in
      let same : contents d name.Log ≡ contents c name.Log = sym (ap (λ (x : Option (List ℕ)). unwrap_or x []) log) in
      let stands = alone.0.stands in
      let good : IsGood g.log (cut c) = subst (λ (b : List ℕ). IsGood g.log (take end b ++ closing)) same g.good in
      let opened : IsFound (cut_at end c) (Finds chain.live.mailbox (end_mark g.log)) =
      opens_at_end g.log chain.live.mailbox g.number (cut_at end c) text good index (snapshot_there d g text is) (cut c) good rotated log2 in (
        record {
          stands = record {
            header = stands.header;
            records = stands.records;
            begins = subst (Begins stands.header stands.records end) same stands.begins;
            seq = stands.seq;
            count = stands.count;
            indexid = stands.indexid;
            number = stands.number;
          };
          opens = subst (λ (k : Mark). IsFound (cut_at end c) (Finds chain.live.mailbox k)) (sym (place_is d g)) opened;
        },
        subst (HasShutGate end) same alone.1,
      )
