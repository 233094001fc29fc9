-- The clauses of decoding, from what was read at the place.
use Rattle.std.proofs.Common.{◌≡◌, ℕ, ◌+◌, List, ◌++◌, length, take, drop, Ok, Err, refl, sym, ap, subst, ◌∙◌, arith}
use Rattle.std.proofs.lemmas.List.{length-take, take-append-drop}
use Rattle.dv_model.specs.declared.types.Record.{Record}
use Rattle.dv_model.specs.Spelling.{Spells}
use Rattle.dv_records.specs.declared.fault.DecodeEnd.{DecodeEnd}
use Rattle.dv_records.specs.declared.fault.DecodeEnd.TheVariants.{Fault, NoMemory}
use Rattle.dv_records.specs.declared.fault.RecordFault.{RecordFault}
use Rattle.dv_records.specs.Faults.{IsFault, IsRecordAt, OnFault, Answers}
use Rattle.dv_records.proofs.Apart.{no_fault, fault_one}
use Rattle.dv_records.proofs.Readings.{one_reading}

-- the record that was read is the one that stands there
pub is_that : (place : List ℕ) (at n : ℕ) (r : Record) → IsRecordAt r n place
    → (s : Record) (text rest : List ℕ) → Spells s text → place ≡ text ++ rest
    → Answers {A = Record × ℕ} (Ok (r, at + n)) (Ok (s, at + length text))
is_that place at n r is s text rest spells e =
    let one = one_reading r s (take n place) text (drop n place) rest is.1 spells (take-append-drop n place ∙ e) in
    let size : n ≡ length text = omega (arith, length-take n place, is.0, ap length one.0) in
    rw (one.1, size) refl

-- where a record stands there is no fault
pub no_fault_there : (place : List ℕ) (e : DecodeEnd) → OnFault {A = Record × ℕ} (Err e) (λ f. IsFault f place) → (s : Record) (text rest : List ℕ) (x : Record × ℕ) → Spells s text → place ≡ text ++ rest → Answers {A = Record × ℕ} (Err e) (Ok x)
no_fault_there place NoMemory fault s text rest x spells e = tt
no_fault_there place (Fault f) fault s text rest x spells e = absurd (no_fault s text rest f spells (subst (IsFault f) e fault))

-- where a fault is, no record stands
pub no_record_there : (place : List ℕ) (n : ℕ) (r : Record) (x : Record × ℕ) → IsRecordAt r n place → (f : RecordFault) → IsFault f place → Answers {A = Record × ℕ} (Ok x) (Err (Fault f))
no_record_there place n r x is f fault = absurd (no_fault r (take n place) (drop n place) f is.1 (subst (IsFault f) (sym (take-append-drop n place)) fault))

-- one fault and no other
pub that_fault : (place : List ℕ) (e : DecodeEnd) → OnFault {A = Record × ℕ} (Err e) (λ f. IsFault f place) → (f : RecordFault) → IsFault f place → Answers {A = Record × ℕ} (Err e) (Err (Fault f))
that_fault place NoMemory fault f is = tt
that_fault place (Fault g) fault f is = rw (fault_one g f place fault is) refl
