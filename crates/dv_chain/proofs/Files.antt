-- What is read of a file.
use Rattle.std.proofs.Common.{◌≡◌, ℕ, max, true, Bool, List, drop, Some, Result, Ok, Err, refl, sym, ◌∙◌, ap, subst, arith}
use Rattle.std.specs.Prelude.{if◌then◌else◌}
use Rattle.std.proofs.lemmas.Bool.{eq-eqb, ne_eqb}
use Rattle.dv_model.specs.declared.types.Mailbox.{Mailbox}
use Rattle.dv_model.specs.declared.types.OpenFault.{OpenFault}
use Rattle.dv_model.specs.declared.types.OpenFault.TheVariants as fault
use Rattle.dv_model.specs.Spelling.{is_closed}
use Rattle.dv_logfile.specs.declared.header.LogHeader.{LogHeader}
use Rattle.dv_logfile.specs.Layout.{IsHeader}
use Rattle.dv_logfile.specs.Scans.{Spot}
use Rattle.dv_openings.specs.Openings.{applied_from, file_applied, file_number, records_from, spots_applied}
use Rattle.dv_apply.specs.States.{Held}
use Rattle.dv_chain.specs.declared.file.File.{File}
use Rattle.dv_chain.specs.Files.{HasSpots, ReadsFile, good_file}
use Rattle.dv_chain.specs.Walks.{Applies, IsLeft, IsWalked, Measures}
use Rattle.dv_chain.proofs.Walks.{place_left}

abbrev pub file_of : List ℕ → LogHeader → ℕ → ℕ → File
file_of b h end count = record { bytes = b; header = h; end = end; count = count }

pub reads_good : (b : List ℕ) (h : LogHeader) (end count : ℕ) → IsHeader h b → IsWalked h.hdr_size b end count × (is_closed (drop end b) ≡ true) → ReadsFile b (Ok (file_of b h end count))
reads_good b h end count taken measured =
    let w = measured.0 in
    let has : (spots : List Spot) × HasSpots spots (file_of b h end count) = (
      w.spots,
      record {
        good = record { taken = taken; rest = drop end b; records = w.are; closed = measured.1 };
        count = w.count_is;
        whole = record {
          header = taken.size.1;
          named = taken.numbers.0;
          inside = w.inside;
          fits = w.fits;
          count = omega (arith, w.bound);
        };
      },
    ) in
    (refl, has)

pub reads_fault : (b : List ℕ) (h : LogHeader) (e : OpenFault) → IsHeader h b → Measures h.hdr_size b (Err e) → ReadsFile b (Err e)
reads_fault b h fault.NoMemory taken measured = tt
reads_fault b h (fault.BadRecord offset) taken measured =
    let w = measured.1 in
    (h, taken, record { spots = w.spots; rest = drop offset b; before = w.are; fault = measured.2 })
reads_fault b h (fault.Disk n) taken measured = absurd measured
reads_fault b h fault.NoLog taken measured = absurd measured
reads_fault b h fault.BadLogHeader taken measured = absurd measured
reads_fault b h fault.BadIndex taken measured = absurd measured
reads_fault b h (fault.Gap index log) taken measured = absurd measured

-- its records are left at its header's end
pub has_left : (spots : List Spot) (file : File) → HasSpots spots file → IsLeft file.bytes file.header.hdr_size spots file.end
has_left spots file has = record { rest = has.good.rest; are = has.good.records; closed = has.good.closed }

pub left_at : (spots left : List Spot) (file : File) (place : ℕ) → HasSpots spots file → records_from (good_file file spots) place ≡ Some left → IsLeft file.bytes place left file.end
left_at spots left file place has there = place_left file.bytes file.header.hdr_size place file.end spots left (has_left spots file has) there

-- a mailbox is raised to the file's number
pub all_applied : (spots : List Spot) (file : File) (m now : Mailbox) (n : ℕ) (result : Result Held OpenFault) → n ≡ file_number file.header → now ≡ record m { highest = max m.highest n } → Applies result (spots_applied now spots)
    → Applies result (file_applied (good_file file spots) m)
all_applied spots file m now n result number raise applied =
    subst (λ (x : Mailbox). Applies result (spots_applied x spots)) (raise ∙ ap (λ (k : ℕ). record m { highest = max m.highest k }) number) applied

pub from_first : (spots left : List Spot) (file : File) (place : ℕ) (m : Mailbox) (result : Result Held OpenFault) → place ≡ file.header.hdr_size → Applies result (file_applied (good_file file spots) m) → Applies result (applied_from (good_file file spots) place left m)
from_first spots left file place m result is applied =
    subst (λ (x : Bool). Applies result (if x then file_applied (good_file file spots) m else spots_applied m left)) (sym (eq-eqb place file.header.hdr_size is)) applied

pub from_later : (spots left : List Spot) (file : File) (place : ℕ) (m : Mailbox) (result : Result Held OpenFault) → (place ≡ file.header.hdr_size → ⊥) → Applies result (spots_applied m left) → Applies result (applied_from (good_file file spots) place left m)
from_later spots left file place m result other applied =
    subst (λ (x : Bool). Applies result (if x then file_applied (good_file file spots) m else spots_applied m left)) (sym (ne_eqb place file.header.hdr_size other)) applied
