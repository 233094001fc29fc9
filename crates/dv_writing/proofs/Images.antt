-- What a folder whose log begins with a chain's opens to, by what stands behind the chain's end.
use Rattle.std.proofs.Common.{◌≡◌, ◌≢◌, ◌⊎◌, inl, inr, ⊎_elim, ℕ, ◌+◌, ◌-◌, ◌≤◌, ◌<◌, true, List, [], ◌∷◌, ◌++◌, length, take, drop, map, Option, Some, None, refl, sym, ◌∙◌, ap, subst, arith, append_assoc, length-append}
use Rattle.std.specs.Prelude.{slice_index, unwrap_or}
use Rattle.std.proofs.lemmas.Bool.{cases_eq}
use Rattle.std.proofs.lemmas.List.{length-drop, length-map, take-append-drop}
use Rattle.std.proofs.lemmas.Option.{same_Some}
use Rattle.dv_model.specs.declared.types.Mailbox.{Mailbox}
use Rattle.dv_model.specs.declared.types.Record.{Record}
use Rattle.dv_model.specs.Effects.{applied}
use Rattle.dv_model.specs.Spelling.{Spells, is_closed}
use Rattle.dv_shelf.specs.declared.shelf.Name.{Name}
use Rattle.dv_shelf.specs.declared.shelf.Name.TheVariants as name
use Rattle.dv_shelf.specs.Folders.{Folder, contents, with_file}
use Rattle.dv_shelf.proofs.FolderLemmas.{with_else, with_here}
use Rattle.dv_logfile.specs.declared.header.LogHeader.{LogHeader}
use Rattle.dv_logfile.specs.Gates.{KeepsFront}
use Rattle.dv_logfile.specs.Layout.{Begins, IsGroupText, IsHeader, Spelled, bytes_at, closing, last_end, longest_log}
use Rattle.dv_logfile.specs.Reading.{HasGroup, HasShutGate}
use Rattle.dv_logfile.specs.Scans.{AreSpots, Good, GoodLog, IsGood, IsScanned, Spot, spots_of}
use Rattle.dv_logfile.proofs.Groups.{group_gate, group_some}
use Rattle.dv_logfile.proofs.Logs.{closed_by, log_begins, log_grown, spelling_of}
use Rattle.dv_logfile.proofs.Reading.{front_keeps, group_open, shut_closed}
use Rattle.dv_logfile.proofs.Spots.{places_of}
use Rattle.dv_openings.specs.Numbers.{OpensAs}
use Rattle.dv_openings.specs.Openings.{Finds, Found, Gives, IsFound, spots_applied}
use Rattle.dv_chain.specs.declared.chain.Chain.{Chain}
use Rattle.dv_chain.specs.Openings.{HasBounds, found_of}
use Rattle.dv_chain.specs.Rest.{Holds, HoldsAlone, IsPending, StandsOn, cut_at}
use Rattle.dv_chain.proofs.Mended.{cut_at_end, cut_good, found_again}
use Rattle.dv_chain.proofs.Named.{holds_as}
use Rattle.dv_chain.proofs.Shelves.{log_put}
use Rattle.dv_chain.proofs.Spots.{spots_give}
use Rattle.dv_writing.specs.Commits.{KeepsOthers}
use Rattle.dv_writing.specs.Opening.{mark_behind}
use Rattle.dv_writing.proofs.Grown.{BeginsAt, grown_found}

-- ---- the records with their places

records_at : (places : List ℕ) (rs : List Record) → length places ≡ length rs → map (λ (s : Spot). s.is) (spots_of places rs) ≡ rs
records_at [] [] e = refl
records_at [] (r ∷ rs) e = absurd (omega arith)
records_at (p ∷ places) [] e = absurd (omega arith)
records_at (p ∷ places) (r ∷ rs) e = ap (λ (l : List Record). r ∷ l) (records_at places rs (omega arith))

-- records stand from one place up to another
record Stand (rs : List Record) (from : ℕ) (b : List ℕ) (end : ℕ) (rest : List ℕ) : Type 0 where
  spots : List Spot
  are : AreSpots from spots b end rest
  records : map (λ (s : Spot). s.is) spots ≡ rs

stand : (rs : List Record) (from : ℕ) (b : List ℕ) (end : ℕ) (rest : List ℕ) → Spelled rs b rest → from + length b ≡ end + length rest → end ≤ last_end → Stand rs from b end rest
stand rs from b end rest spelled ends fits =
    let found = places_of from rs b end rest spelled ends fits in
    record { spots = spots_of found.0 rs; are = found.2; records = records_at found.0 rs found.1 }

spots_both : (from mid end : ℕ) (spots more : List Spot) (b behind rest : List ℕ) → AreSpots from spots b mid behind → AreSpots mid more behind end rest → AreSpots from (spots ++ more) b end rest
spots_both from mid end [] more b behind rest first second =
    subst (λ (k : ℕ). AreSpots k more b end rest) first.0 (subst (λ (l : List ℕ). AreSpots mid more l end rest) first.1 second)
spots_both from mid end (spot ∷ spots) more b behind rest first second =
    let one = first.1 in
    (first.0, (one.0, one.1, one.2, one.3, one.4, spots_both (from + length one.0) mid end spots more one.1 behind rest one.5 second))

begins_at : (from end : ℕ) (spots : List Spot) (b rest : List ℕ) → 1 ≤ length spots → AreSpots from spots b end rest → BeginsAt from spots
begins_at from end [] b rest some are = absurd (omega arith)
begins_at from end (spot ∷ spots) b rest some are = are.0

-- ---- the folder

log_there : (c : Folder) (h : LogHeader) → IsHeader h (contents c name.Log) → c name.Log ≡ Some (contents c name.Log)
log_there c h is = by_file (c name.Log) is
  where
    by_file : (f : Option (List ℕ)) → IsHeader h (unwrap_or f []) → f ≡ Some (unwrap_or f [])
    by_file None header = absurd (omega (arith, header.size.0, header.size.1))
    by_file (Some b) header = refl

module _ (chain : Chain) (c : Folder) (holds : Holds chain c) where
  abbrev b : List ℕ
  b = contents c name.Log

  abbrev e : ℕ
  e = chain.log.end

  abbrev h : LogHeader
  h = holds.stands.header

  abbrev begun : Begins h holds.stands.records e b
  begun = holds.stands.begins

  there : c name.Log ≡ Some b
  there = log_there c h begun.header

  old : Stand holds.stands.records h.hdr_size (drop h.hdr_size b) e (drop e b)
  old = stand holds.stands.records h.hdr_size (drop h.hdr_size b) e (drop e b) begun.spelled (omega (arith, length-drop h.hdr_size b, length-drop e b, begun.behind.0, begun.behind.1)) begun.fits

  -- the chain's file
  abbrev file : GoodLog
  file = record { header = h; spots = old.spots; end = e }

  cut_is : IsScanned (cut_at e c name.Log) (Good file)
  cut_is = subst (λ (x : Option (List ℕ)). IsScanned x (Good file)) (sym (with_here c name.Log (Some (take e b ++ closing)))) (cut_at_end file b (drop e b) begun.header old.are begun.fits)

  cut_else : (n : Name) → n ≢ name.Log → cut_at e c n ≡ c n
  cut_else n other = with_else c name.Log (Some (take e b ++ closing)) n other

  -- the folder's log is a good file of the chain's records
  pub record Alone : Type 0 where
    pub file : GoodLog
    pub scanned : IsScanned (c name.Log) (Good file)
    pub header : file.header ≡ holds.stands.header
    pub end : file.end ≡ chain.log.end
    pub spots : length file.spots ≡ length holds.stands.records

  good_alone : HasShutGate e b → IsScanned (c name.Log) (Good file)
  good_alone shut =
      let good : IsGood file b = record { taken = begun.header; rest = drop e b; records = old.are; closed = shut_closed e b shut } in
      subst (λ (x : Option (List ℕ)). IsScanned x (Good file)) (sym there) good

  -- where no record begins behind the end
  pub alone_file : HasShutGate e b → Alone
  alone_file shut = record { file = file; scanned = good_alone shut; header = refl; end = refl; spots = sym (length-map old.spots (λ (s : Spot). s.is)) ∙ ap length old.records }

  pub alone_opens : HasShutGate e b → IsFound c (found_of chain)
  alone_opens shut =
      found_again (cut_at e c) c file cut_is (good_alone shut) (sym (cut_else name.Log2 (λ q. cc))) (sym (cut_else name.Index (λ q. cc))) (found_of chain) holds.opens

  -- a group stands there
  module _ (text : List ℕ) (after : Mailbox) (pending : IsPending text after chain) (group : bytes_at e (length text) b ≡ text) where
    abbrev gs : List Record
    gs = pending.records

    abbrev end : ℕ
    end = e + length text - length closing

    abbrev more : List ℕ
    more = drop (length text) (drop e b)

    split : drop e b ≡ text ++ more
    split = sym (take-append-drop (length text) (drop e b)) ∙ ap (λ (l : List ℕ). l ++ more) group

    long : length text + length more ≡ length b - e
    long = omega (arith, ap length split, length-append text more, length-drop e b)

    four : 4 ≤ length text
    four = let s = spelling_of gs text closing pending.spelled in omega (arith, ap length s.is, length-append s.front closing)

    spelled_here : Spelled gs (drop e b) (closing ++ more)
    spelled_here =
        let s = spelling_of gs text closing pending.spelled in
        subst (λ (l : List ℕ). Spelled gs l (closing ++ more)) (sym (split ∙ ap (λ (l : List ℕ). l ++ more) s.is ∙ append_assoc s.front closing more)) (s.again (closing ++ more))

    new : Stand gs e (drop e b) end (closing ++ more)
    new = stand gs e (drop e b) end (closing ++ more) spelled_here (omega (arith, long, four, length-drop e b, length-append closing more, begun.behind.1)) (omega (arith, pending.room))

    abbrev grown_file : GoodLog
    grown_file = record { header = h; spots = old.spots ++ new.spots; end = end }

    grown_is : IsGood grown_file b
    grown_is = record {
      taken = begun.header;
      rest = closing ++ more;
      records = spots_both h.hdr_size e end old.spots new.spots (drop h.hdr_size b) (drop e b) (closing ++ more) old.are new.are;
      closed = closed_by 0 (0 ∷ 0 ∷ 0 ∷ more) (λ q. cc);
    }

    grown_there : IsScanned (c name.Log) (Good grown_file)
    grown_there = subst (λ (x : Option (List ℕ)). IsScanned x (Good grown_file)) (sym there) grown_is

    pub group_opens : IsFound c (Finds after (mark_behind text chain))
    group_opens =
        let first : BeginsAt e new.spots = begins_at e end new.spots (drop e b) (closing ++ more) (omega (arith, pending.some, ap length new.records, length-map new.spots (λ (s : Spot). s.is))) new.are in
        let gives : spots_applied chain.live.mailbox new.spots ≡ Gives after = spots_give chain.live.mailbox after new.spots (ap (applied chain.live.mailbox) new.records ∙ pending.gives) in
        let is = holds.stands.seq in
        let found : IsFound (cut_at e c) (Finds chain.live.mailbox (record { file_seq = h.file_seq; offset = e })) =
        subst (λ (k : ℕ). IsFound (cut_at e c) (Finds chain.live.mailbox (record { file_seq = k; offset = e }))) is holds.opens in
        subst (λ (k : ℕ). IsFound c (Finds after (record { file_seq = k; offset = end }))) (sym is)
        (grown_found file new.spots end first (cut_at e c) c chain.live.mailbox after cut_is grown_there (sym (cut_else name.Log2 (λ q. cc))) (sym (cut_else name.Index (λ q. cc))) found gives)

    -- the chain that has the group holds the folder
    pub group_holds : (next : Chain) → next.live.mailbox ≡ after → next.log.file_seq ≡ chain.log.file_seq → next.log.end ≡ end → next.log.count ≡ chain.log.count + length gs
        → next.indexid ≡ chain.indexid → next.records ≡ chain.records → Holds next c
    group_holds next mailbox seq end-is count indexid records =
        let fits : end ≤ last_end = omega (arith, pending.room) in
        let log = log_grown h holds.stands.records gs e end b text begun pending.spelled group (omega (arith, four)) fits in
        let cut = subst (λ (x : Option (List ℕ)). IsScanned x (Good grown_file)) (sym (with_here c name.Log (Some (take end b ++ closing)))) (cut_good grown_file b grown_is fits) in
        let other : (n : Name) → n ≢ name.Log → cut_at end c n ≡ c n = λ n apart. with_else c name.Log (Some (take end b ++ closing)) n apart in
        let found : IsFound (cut_at end c) (Finds after (mark_behind text chain)) =
        found_again c (cut_at end c) grown_file grown_there cut (other name.Log2 (λ q. cc)) (other name.Index (λ q. cc)) (Finds after (mark_behind text chain)) group_opens in
        record {
          stands = record {
            header = h;
            records = holds.stands.records ++ gs;
            begins = subst (λ (k : ℕ). Begins h (holds.stands.records ++ gs) k b) (sym end-is) (log_begins h (holds.stands.records ++ gs) end b log);
            seq = seq ∙ holds.stands.seq;
            count = omega (arith, count, holds.stands.count, length-append holds.stands.records gs);
            indexid = indexid ∙ holds.stands.indexid;
            number = records ∙ holds.stands.number;
          };
          opens = subst (λ (k : ℕ). IsFound (cut_at k c) (Finds next.live.mailbox (record { file_seq = next.log.file_seq; offset = k }))) (sym end-is)
              (subst (λ (k : ℕ). IsFound (cut_at end c) (Finds next.live.mailbox (record { file_seq = k; offset = end }))) (sym seq)
              (subst (λ (m : Mailbox). IsFound (cut_at end c) (Finds m (mark_behind text chain))) (sym mailbox) found));
        }

  -- a group may stand there
  pub either_opens : (text : List ℕ) (after : Mailbox) → IsPending text after chain → HasGroup e text b → OpensAs c chain.indexid (found_of chain) ⊎ OpensAs c chain.indexid (Finds after (mark_behind text chain))
  either_opens text after pending group = ⊎_elim opened shut (cases_eq (slice_index b e) 128)
    where
      is_group : IsGroupText text
      is_group = record { records = pending.records; some = pending.some; spelled = pending.spelled }

      opened : slice_index b e ≡ 128 → OpensAs c chain.indexid (found_of chain) ⊎ OpensAs c chain.indexid (Finds after (mark_behind text chain))
      opened is = inr (holds_as chain c holds (Finds after (mark_behind text chain)) (group_opens text after pending (group_open e text b (group_some text is_group) (group_gate text is_group) group is)))

      shut : (slice_index b e ≡ 128 → ⊥) → OpensAs c chain.indexid (found_of chain) ⊎ OpensAs c chain.indexid (Finds after (mark_behind text chain))
      shut other = inl (holds_as chain c holds (found_of chain) (alone_opens (group.0, other)))

-- ---- the log is written behind the chain's end

pub holds_kept : (chain : Chain) (d c : Folder) (most : ℕ) → KeepsFront d chain.log.end most c → most ≤ longest_log → Holds chain d → Holds chain c
holds_kept chain d c most kept fits holds =
    let e = chain.log.end in
    let front : take e (contents c name.Log) ≡ take e (contents d name.Log) =
    ap (λ (x : Option (List ℕ)). take e (unwrap_or x [])) kept.is ∙ kept.front in
    let log : cut_at e c name.Log ≡ Some (take e (contents d name.Log) ++ closing) =
    with_here c name.Log (Some (take e (contents c name.Log) ++ closing)) ∙ ap (λ (l : List ℕ). Some (l ++ closing)) front in
    let same : cut_at e c ≡ cut_at e d =
    log_put d (cut_at e c) (Some (take e (contents d name.Log) ++ closing)) log
    (λ n other. with_else c name.Log (Some (take e (contents c name.Log) ++ closing)) n other ∙ kept.others n other) in
    record {
      stands = record {
        header = holds.stands.header;
        records = holds.stands.records;
        begins = (front_keeps d c e most kept fits).front holds.stands.header holds.stands.records holds.stands.begins;
        seq = holds.stands.seq;
        count = holds.stands.count;
        indexid = holds.stands.indexid;
        number = holds.stands.number;
      };
      opens = subst (λ (f : Folder). IsFound f (found_of chain)) (sym same) holds.opens;
    }
