-- The records of a file with their places, read one after another.
use Rattle.std.proofs.Common.{◌≡◌, ◌⊎◌, ⊎_elim, ℕ, ◌+◌, ◌-◌, ◌*◌, ◌<◌, ◌≤◌, true, false, All, List, [], ◌∷◌, ◌++◌, length, take, drop, Some, Result, Ok, Err, refl, sym, ◌∙◌, ap, subst, arith, length-append}
use Rattle.std.specs.Prelude.{IfOk}
use Rattle.std.proofs.lemmas.List.{take-append-drop, drop-drop, length-take, length-drop}
use Rattle.std.proofs.lemmas.List.Elements.{All-push}
use Rattle.dv_model.specs.declared.types.Record.{Record}
use Rattle.dv_model.specs.Spelling.{Spells, IsRecord, is_closed}
use Rattle.dv_records.specs.declared.fault.RecordFault.{RecordFault}
use Rattle.dv_records.specs.declared.fault.RecordFault.TheVariants.{Closed, BadSize, BadGuard, BadPayload}
use Rattle.dv_records.specs.Faults.{IsFault, IsRecordAt}
use Rattle.dv_records.proofs.Apart.{no_fault, not_closed}
use Rattle.dv_records.proofs.Readings.{one_reading}
use Rattle.dv_logfile.specs.declared.header.LogHeader.{LogHeader}
use Rattle.dv_logfile.specs.declared.outcome.Scan.{Scan}
use Rattle.dv_logfile.specs.declared.outcome.ScanEnd.{ScanEnd}
use Rattle.dv_logfile.specs.declared.outcome.ScanEnd.TheVariants as end
use Rattle.dv_logfile.specs.Layout.{IsGoodHeader, IsHeader, IsLog, Spelled, last_end, log_end, log_text}
use Rattle.dv_logfile.specs.Scans.{Spot, Scanned, Good, AreSpots, IsFaulty, HasFault, IsGood, IsScanned, IsLogScan, Says, spots_of}
use Rattle.dv_logfile.proofs.Groups.{spelled_eight}
use Rattle.dv_logfile.proofs.Logs.{written_log}
use Rattle.dv_logfile.proofs.OneLog.{one_log}
use Rattle.dv_logfile.proofs.OneScan.{fault_or_good, scans_one}

-- ---- a record with a fault

pub faulty : (at : ℕ) (b : List ℕ) (f : RecordFault) → (f ≡ Closed → ⊥) → IsFault f b → IsFaulty at b
faulty at b f other fault = record { begun = begun f other fault; none = λ r text behind is spells. absurd (no_fault r text behind f spells (subst (IsFault f) is fault)) }
  where
    begun : (g : RecordFault) → (g ≡ Closed → ⊥) → IsFault g b → is_closed b ≡ false
    begun Closed not there = absurd (not refl)
    begun BadSize not there = there.0
    begun BadGuard not there = there.0
    begun BadPayload not there = there.0

pub too_far : (at n : ℕ) (b : List ℕ) (r : Record) → IsRecordAt r n b → last_end < at + n → IsFaulty at b
too_far at n b r there far = record {
  begun = ap is_closed (sym (take-append-drop n b)) ∙ not_closed r (take n b) (drop n b) there.1;
  none = λ s text behind is spells.
      let one = one_reading r s (take n b) text (drop n b) behind there.1 spells (take-append-drop n b ∙ is) in
      omega (arith, ap length one.0, length-take n b, there.0);
}

-- ---- one record more

pub spots_end : (from : ℕ) (spots : List Spot) (b : List ℕ) (at : ℕ) (text behind rest : List ℕ) (r : Record) → AreSpots from spots b at rest → rest ≡ text ++ behind → Spells r text → at + length text ≤ last_end
    → AreSpots from (spots ++ record { place = at; is = r } ∷ []) b (at + length text) behind
spots_end from [] b at text behind rest r are is spells fits =
    let place : at ≡ from = are.0 in
    (place, (text, behind, sym are.1 ∙ is, spells, omega arith, (ap (λ n. n + length text) place, refl)))
spots_end from (spot ∷ spots) b at text behind rest r are is spells fits =
    let more = are.1 in
    (are.0, (more.0, more.1, more.2, more.3, more.4, spots_end (from + length more.0) spots more.1 at text behind rest r more.5 is spells fits))

spots_of_more : (places : List ℕ) (rs : List Record) (place : ℕ) (r : Record) → length places ≡ length rs → spots_of (places ++ place ∷ []) (rs ++ r ∷ []) ≡ spots_of places rs ++ record { place = place; is = r } ∷ []
spots_of_more [] [] place r paired = refl
spots_of_more [] (x ∷ rs) place r paired = absurd (omega arith)
spots_of_more (p ∷ places) [] place r paired = absurd (omega arith)
spots_of_more (p ∷ places) (x ∷ rs) place r paired = ap (λ spots. record { place = p; is = x } ∷ spots) (spots_of_more places rs place r (omega arith))

-- what was read so far, up to a place
pub record IsReadTo (h : LogHeader) (places : List ℕ) (rs : List Record) (b : List ℕ) (at : ℕ) : Type 0 where
  pub header : IsHeader h b
  pub spots : AreSpots h.hdr_size (spots_of places rs) (drop h.hdr_size b) at (drop at b)
  pub paired : length places ≡ length rs
  pub valid : All IsRecord rs
  pub inside : at ≤ length b
  pub fits : at ≤ last_end

pub read_more : (h : LogHeader) (places : List ℕ) (rs : List Record) (b : List ℕ) (at behind : ℕ) (r : Record) → IsReadTo h places rs b at → at ≤ behind → behind ≤ last_end → IsRecordAt r (behind - at) (drop at b) → IsRecord r
    → IsReadTo h (places ++ at ∷ []) (rs ++ r ∷ []) b behind
read_more h places rs b at behind r read le fits there valid =
    let n = behind - at in
    let text = take n (drop at b) in
    let long : length text ≡ n = omega (arith, length-take n (drop at b), there.0) in
    let end : at + length text ≡ behind = omega (arith, long, le) in
    let rest : drop n (drop at b) ≡ drop behind b = drop-drop n at b ∙ ap (λ (k : ℕ). drop k b) (omega (arith, le)) in
    let more = spots_end h.hdr_size (spots_of places rs) (drop h.hdr_size b) at text (drop n (drop at b)) (drop at b) r read.spots (sym (take-append-drop n (drop at b))) there.1 (omega (arith, end, fits)) in
    record {
      header = read.header;
      spots = subst (λ (spots : List Spot). AreSpots h.hdr_size spots (drop h.hdr_size b) behind (drop behind b)) (sym (spots_of_more places rs at r read.paired))
          (subst (λ (k : ℕ). AreSpots h.hdr_size (spots_of places rs ++ record { place = at; is = r } ∷ []) (drop h.hdr_size b) k (drop behind b)) end
          (subst (λ (l : List ℕ). AreSpots h.hdr_size (spots_of places rs ++ record { place = at; is = r } ∷ []) (drop h.hdr_size b) (at + length text) l) rest more));
      paired = omega (arith, length-append places (at ∷ []), length-append rs (r ∷ []), read.paired);
      valid = All-push IsRecord rs r read.valid valid;
      inside = omega (arith, length-drop at b, there.0, le, read.inside);
      fits = fits;
    }

-- ---- the file is a log of the records

spelled_of : (from : ℕ) (places : List ℕ) (rs : List Record) (b : List ℕ) (end : ℕ) (rest : List ℕ) → length places ≡ length rs → AreSpots from (spots_of places rs) b end rest → Spelled rs b rest
spelled_of from [] [] b end rest paired are = sym are.1
spelled_of from [] (r ∷ rs) b end rest paired are = absurd (omega arith)
spelled_of from (p ∷ places) [] b end rest paired are = absurd (omega arith)
spelled_of from (p ∷ places) (r ∷ rs) b end rest paired are =
    let more = are.1 in
    (more.0, more.1, more.2, more.3, spelled_of (from + length more.0) places rs more.1 end rest (omega arith) more.5)

pub read_log : (h : LogHeader) (places : List ℕ) (rs : List Record) (b : List ℕ) (at : ℕ) → IsReadTo h places rs b at → is_closed (drop at b) ≡ true → IsLog h rs at b
read_log h places rs b at read closed = record {
  header = read.header;
  rest = drop at b;
  spelled = spelled_of h.hdr_size places rs (drop h.hdr_size b) at (drop at b) read.paired read.spots;
  closed = closed;
  ends = omega (arith, length-drop at b, read.inside);
  fits = read.fits;
}

pub read_good : (h : LogHeader) (places : List ℕ) (rs : List Record) (b : List ℕ) (at : ℕ) → IsReadTo h places rs b at → is_closed (drop at b) ≡ true → IsGood (record { header = h; spots = spots_of places rs; end = at }) b
read_good h places rs b at read closed = record { taken = read.header; rest = drop at b; records = read.spots; closed = closed }

pub read_bound : (h : LogHeader) (rs : List Record) (b : List ℕ) (e : ℕ) → IsLog h rs e b → 8 * length rs ≤ e
read_bound h rs b e log = omega (arith, spelled_eight rs (drop h.hdr_size b) log.rest log.spelled, length-drop h.hdr_size b, log.ends, log.header.size.1)

-- ---- the answers

-- a header, good records and then a fault, or want of memory
pub fault_said : (h : LogHeader) (places : List ℕ) (rs : List Record) (b : List ℕ) (at : ℕ) (e : ScanEnd) → IsReadTo h places rs b at → (e ≡ end.NoMemory) ⊎ ((e ≡ end.BadRecord at) × IsFaulty at (drop at b))
    → Says (Err e) (λ s. IsScanned (Some b) s)
fault_said h places rs b at e read why = ⊎_elim memory bad why
  where
    memory : e ≡ end.NoMemory → Says (Err e) (λ s. IsScanned (Some b) s)
    memory is = rw is tt

    bad : (e ≡ end.BadRecord at) × IsFaulty at (drop at b) → Says (Err e) (λ s. IsScanned (Some b) s)
    bad is = rw is.0 (h, read.header, record { spots = spots_of places rs; rest = drop at b; before = read.spots; fault = is.1 })

-- the file holds no other thing
pub told_once : (b : List ℕ) (result : Result Scan ScanEnd) → Says result (λ s. IsScanned (Some b) s) → (s : Scanned) → IsScanned (Some b) s → Says result (λ t. t ≡ s)
told_once b (Ok scan) told s is = scans_one (Some b) _ s told is
told_once b (Err end.BadHeader) told s is = scans_one (Some b) _ s told is
told_once b (Err (end.BadRecord offset)) told s is = scans_one (Some b) _ s told is
told_once b (Err end.NoMemory) told s is = tt

-- ---- a log is read

pub places_of : (from : ℕ) (rs : List Record) (b : List ℕ) (end : ℕ) (rest : List ℕ) → Spelled rs b rest → from + length b ≡ end + length rest → end ≤ last_end
    → (places : List ℕ) × (length places ≡ length rs) × AreSpots from (spots_of places rs) b end rest
places_of from [] b end rest s ends fits = ([], refl, (omega (arith, ap length s), sym s))
places_of from (r ∷ rs) b end rest s ends fits =
    let text = s.0 in
    let long : length b ≡ length text + length s.1 = ap length s.2 ∙ length-append text s.1 in
    let least = spelled_eight rs s.1 rest s.4 in
    let more = places_of (from + length text) rs s.1 end rest s.4 (omega arith) fits in
    (from ∷ more.0, omega (arith, more.1), (refl, (text, s.1, s.2, s.3, omega arith, more.2)))

pub log_good : (h : LogHeader) (rs : List Record) (e : ℕ) (b : List ℕ) → IsLog h rs e b
    → (places : List ℕ) × (length places ≡ length rs) × IsScanned (Some b) (Good (record { header = h; spots = spots_of places rs; end = e }))
log_good h rs e b log =
    let found = places_of h.hdr_size rs (drop h.hdr_size b) e log.rest log.spelled (omega (arith, length-drop h.hdr_size b, log.header.size.1, log.ends)) log.fits in
    (found.0, found.1, record { taken = log.header; rest = log.rest; records = found.2; closed = log.closed })

pub log_read : (b : List ℕ) (result : Result Scan ScanEnd) → Says result (λ s. IsScanned (Some b) s) → IfOk result (λ scan. IsLog scan.header scan.records scan.end b)
    → (h : LogHeader) (rs : List Record) (e : ℕ) → IsLog h rs e b → IsLogScan result h rs e
log_read b (Ok scan) told good h rs e log = one_log scan.header h scan.records rs scan.end e b good log
log_read b (Err end.BadHeader) told good h rs e log = absurd (told h log.header)
log_read b (Err (end.BadRecord offset)) told good h rs e log =
    let there = log_good h rs e b log in
    let fault = subst (λ (k : LogHeader). HasFault k b offset) (told.1.read ∙ sym log.header.read) told.2 in
    absurd (fault_or_good (record { header = h; spots = spots_of there.0 rs; end = e }) b offset fault there.2)
log_read b (Err end.NoMemory) told good h rs e log = tt

-- so is a file that was written
pub written_good : (h : LogHeader) (rs : List Record) → IsGoodHeader h → All IsRecord rs → log_end rs ≤ last_end
    → (places : List ℕ) × (length places ≡ length rs) × IsScanned (Some (log_text h rs)) (Good (record { header = h; spots = spots_of places rs; end = log_end rs }))
written_good h rs good all fits = log_good h rs (log_end rs) (log_text h rs) (written_log h rs good all fits)
