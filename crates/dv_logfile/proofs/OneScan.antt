-- A file holds one thing.
use Rattle.std.proofs.Common.{◌≡◌, ℕ, ◌+◌, ◌<◌, true, false, List, [], ◌∷◌, ◌++◌, length, drop, Option, Some, None, refl, sym, ◌∙◌, ap, subst, arith}
use Rattle.std.proofs.lemmas.List.{append_cancel_left}
use Rattle.dv_model.specs.declared.types.Record.{Record}
use Rattle.dv_model.specs.Spelling.{Spells, is_closed}
use Rattle.dv_logfile.specs.declared.header.LogHeader.{LogHeader}
use Rattle.dv_logfile.specs.Layout.{IsHeader, last_end}
use Rattle.dv_logfile.specs.Scans.{Spot, GoodLog, Scanned, Missing, BadHeader, BadSpot, Good, AreSpots, HasFault, IsGood, IsScanned}
use Rattle.dv_records.proofs.Apart.{not_closed}
use Rattle.dv_records.proofs.Readings.{one_reading}

false_is_not_true : {A : Type 0} → false ≡ true → A
false_is_not_true e = absurd cc

-- no record that ends in time begins these bytes
abbrev pub Stops : ℕ → List ℕ → Type 0
Stops end rest = (r : Record) (text behind : List ℕ) → rest ≡ text ++ behind → Spells r text → last_end < end + length text

pub closed_stops : (end : ℕ) (rest : List ℕ) → is_closed rest ≡ true → Stops end rest
closed_stops end rest closed r text behind is spells = false_is_not_true (sym (not_closed r text behind spells) ∙ ap is_closed (sym is) ∙ closed)

-- the records of a file, its end and what stands behind are one
abbrev pub IsSame : List Spot → ℕ → List ℕ → List Spot → ℕ → List ℕ → Type 0
IsSame spots end rest spots' end' rest' = (spots ≡ spots') × (end ≡ end') × (rest ≡ rest')

-- one record begins the bytes, and the rest is one
pub readings_one : (r s : Record) (text text' behind behind' b : List ℕ) → Spells r text → Spells s text' → b ≡ text ++ behind → b ≡ text' ++ behind' → ((text ≡ text') × (r ≡ s)) × (behind ≡ behind')
readings_one r s text text' behind behind' b p q one other =
    let same = one_reading r s text text' behind behind' p q (sym one ∙ other) in
    (same, append_cancel_left text behind behind' (sym one ∙ other ∙ ap (λ t. t ++ behind') (sym same.0)))

pub spots_one : (from : ℕ) (spots spots' : List Spot) (b : List ℕ) (end end' : ℕ) (rest rest' : List ℕ)
    → AreSpots from spots b end rest → AreSpots from spots' b end' rest' → Stops end rest → Stops end' rest' → IsSame spots end rest spots' end' rest'
spots_one from [] [] b end end' rest rest' one other stops stops' = (refl, one.0 ∙ sym other.0, one.1 ∙ sym other.1)
spots_one from [] (spot ∷ spots) b end end' rest rest' one other stops stops' =
    let more = other.1 in
    let past = stops spot.is more.0 more.1 (one.1 ∙ more.2) more.3 in
    let inside = more.4 in
    let end_is = one.0 in
    absurd (omega arith)
spots_one from (spot ∷ spots) [] b end end' rest rest' one other stops stops' =
    let more = one.1 in
    let past = stops' spot.is more.0 more.1 (other.1 ∙ more.2) more.3 in
    let inside = more.4 in
    let end_is = other.0 in
    absurd (omega arith)
spots_one from (spot ∷ spots) (spot' ∷ spots') b end end' rest rest' one other stops stops' =
    let more = one.1 in
    let more' = other.1 in
    let both = readings_one spot.is spot'.is more.0 more'.0 more.1 more'.1 b more.3 more'.3 more.2 more'.2 in
    let same = both.0 in
    let behind = both.1 in
    let others' = subst (λ c. AreSpots (from + length more.0) spots' c end' rest') (sym behind) (subst (λ t. AreSpots (from + length t) spots' more'.1 end' rest') (sym same.0) more'.5) in
    let rests = spots_one (from + length more.0) spots spots' more.1 end end' rest rest' more.5 others' stops stops' in
    let first : spot ≡ spot' = ap (λ n. record { place = n; is = spot.is }) (one.0 ∙ sym other.0) ∙ ap (λ r. record { place = spot'.place; is = r }) same.1 in
    (ap (λ s. s ∷ spots) first ∙ ap (λ ss. spot' ∷ ss) rests.0, rests.1, rests.2)

headers_one : (h h' : LogHeader) (b : List ℕ) → IsHeader h b → IsHeader h' b → h ≡ h'
headers_one h h' b one other = one.read ∙ sym other.read

faults_one : (h : LogHeader) (b : List ℕ) (place place' : ℕ) → HasFault h b place → HasFault h b place' → place ≡ place'
faults_one h b place place' one other = (spots_one h.hdr_size one.spots other.spots (drop h.hdr_size b) place place' one.rest other.rest one.before other.before one.fault.none other.fault.none).1

pub fault_or_good : (file : GoodLog) (b : List ℕ) (place : ℕ) → HasFault file.header b place → IsGood file b → ⊥
fault_or_good file b place fault good =
    let same = spots_one file.header.hdr_size fault.spots file.spots (drop file.header.hdr_size b) place file.end fault.rest good.rest fault.before good.records fault.fault.none (closed_stops file.end good.rest good.closed) in
    false_is_not_true (sym fault.fault.begun ∙ ap is_closed same.2 ∙ good.closed)

files_one : (file file' : GoodLog) (b : List ℕ) → IsGood file b → IsGood file' b → file ≡ file'
files_one file file' b one other =
    let headers = headers_one file.header file'.header b one.taken other.taken in
    let records' = subst (λ (h : LogHeader). AreSpots h.hdr_size file'.spots (drop h.hdr_size b) file'.end other.rest) (sym headers) other.records in
    let same = spots_one file.header.hdr_size file.spots file'.spots (drop file.header.hdr_size b) file.end file'.end one.rest other.rest one.records records'
    (closed_stops file.end one.rest one.closed) (closed_stops file'.end other.rest other.closed) in
    ap (λ h. record { header = h; spots = file.spots; end = file.end }) headers
    ∙ ap (λ spots. record { header = file'.header; spots = spots; end = file.end }) same.0
    ∙ ap (λ end. record { header = file'.header; spots = file'.spots; end = end }) same.1

pub scans_one : (file : Option (List ℕ)) (s t : Scanned) → IsScanned file s → IsScanned file t → s ≡ t
scans_one None Missing Missing one other = refl
scans_one None Missing BadHeader one other = absurd other
scans_one None Missing (BadSpot place) one other = absurd other
scans_one None Missing (Good log) one other = absurd other
scans_one None BadHeader t one other = absurd one
scans_one None (BadSpot place) t one other = absurd one
scans_one None (Good log) t one other = absurd one
scans_one (Some b) Missing t one other = absurd one
scans_one (Some b) BadHeader Missing one other = absurd other
scans_one (Some b) BadHeader BadHeader one other = refl
scans_one (Some b) BadHeader (BadSpot place) one other = absurd (one other.0 other.1)
scans_one (Some b) BadHeader (Good log) one other = absurd (one log.header other.taken)
scans_one (Some b) (BadSpot place) Missing one other = absurd other
scans_one (Some b) (BadSpot place) BadHeader one other = absurd (other one.0 one.1)
scans_one (Some b) (BadSpot place) (BadSpot place') one other =
    ap BadSpot (faults_one one.0 b place place' one.2 (subst (λ h. HasFault h b place') (sym (headers_one one.0 other.0 b one.1 other.1)) other.2))
scans_one (Some b) (BadSpot place) (Good log) one other =
    absurd (fault_or_good log b place (subst (λ h. HasFault h b place) (headers_one one.0 log.header b one.1 other.taken) one.2) other)
scans_one (Some b) (Good log) Missing one other = absurd other
scans_one (Some b) (Good log) BadHeader one other = absurd (other log.header one.taken)
scans_one (Some b) (Good log) (BadSpot place) one other =
    absurd (fault_or_good log b place (subst (λ h. HasFault h b place) (headers_one other.0 log.header b other.1 one.taken) other.2) one)
scans_one (Some b) (Good log) (Good log') one other = ap Good (files_one log log' b one other)
