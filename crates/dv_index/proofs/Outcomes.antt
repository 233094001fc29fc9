-- What reading answers is the one outcome that the bytes have.
use Rattle.std.proofs.Common.{◌≡◌, ℕ, ◌+◌, ◌^◌, ◌<◌, ◌≤◌, ◌*◌, ◌⊎◌, inl, inr, List, length, Result, Ok, Err, sym, ◌∙◌, ap, subst, arith}
use Rattle.std.specs.Prelude.{IfOk}
use Rattle.dv_model.specs.declared.types.Mailbox.{Mailbox}
use Rattle.dv_model.specs.declared.types.Mark.{Mark}
use Rattle.dv_model.specs.declared.types.Row.{Row}
use Rattle.dv_formats.specs.Snapshots.{IsSnapshot, row_size}
use Rattle.dv_formats.specs.SnapshotFaults.{AreRecords, AreTables, HasFlagCounts, IsCurrent, IsFault, IsInOrder, IsRowFault, SnapshotFault, head_of, version_at, word_at}
use Rattle.dv_formats.proofs.Faults.{fault_one}
use Rattle.dv_formats.proofs.Outcomes.{no_fault}
use Rattle.dv_formats.proofs.Passed.{IsBytes, count_of, passed_is_snapshot, word_small}
use Rattle.dv_formats.proofs.Passing.{snapshot_passes, which_version}
use Rattle.dv_formats.proofs.Wholes as wholes
use Rattle.dv_index.specs.declared.fault.IndexEnd.{IndexEnd}
use Rattle.dv_index.specs.declared.fault.IndexEnd.TheVariants as end
use Rattle.dv_index.specs.declared.fault.IndexFault.{IndexFault}
use Rattle.dv_index.specs.declared.fault.IndexFault.TheVariants.{Short, Version, Counts, Order}
use Rattle.dv_index.specs.Reading.{Answers, HasCountsOf, HasHeader, IsShaped, IsTextOf, OnFault, fault_of}

abbrev Read : Type 0
Read = Mailbox × ℕ × Mark × ℕ

same_fault : (f g : IndexFault) → fault_of f ≡ fault_of g → f ≡ g
same_fault (Short a) (Short c) e = let same : a ≡ c = cc in ap Short same
same_fault (Version a) (Version c) e = let same : a ≡ c = cc in ap Version same
same_fault (Counts a) (Counts c) e = let same : a ≡ c = cc in ap Counts same
same_fault (Order a) (Order c) e = let same : a ≡ c = cc in ap Order same
same_fault (Short a) (Version c) e = absurd cc
same_fault (Short a) (Counts c) e = absurd cc
same_fault (Short a) (Order c) e = absurd cc
same_fault (Version a) (Short c) e = absurd cc
same_fault (Version a) (Counts c) e = absurd cc
same_fault (Version a) (Order c) e = absurd cc
same_fault (Counts a) (Short c) e = absurd cc
same_fault (Counts a) (Version c) e = absurd cc
same_fault (Counts a) (Order c) e = absurd cc
same_fault (Order a) (Short c) e = absurd cc
same_fault (Order a) (Version c) e = absurd cc
same_fault (Order a) (Counts c) e = absurd cc

pub only_of : (b : List ℕ) (r : Result Read IndexEnd) → IfOk r (λ x. IsSnapshot x.3 x.0 x.1 x.2 b) → OnFault r (λ f. IsFault f b)
    → (version : ℕ) (m : Mailbox) (indexid : ℕ) (mark : Mark) → IsSnapshot version m indexid mark b → Answers r (Ok (m, indexid, mark, version))
only_of b (Ok x) found fault version m indexid mark is =
    let same = wholes.snapshot_is_one x.3 version x.0 m x.1 indexid x.2 mark b found is in
    λ i. Ok (same.1 i, same.2 i, same.3 i, same.0 i)
only_of b (Err end.NoMemory) found fault version m indexid mark is = tt
only_of b (Err (end.Fault f)) found fault version m indexid mark is = absurd (no_fault m b (snapshot_passes version m indexid mark b is) (fault_of f) fault)

pub every_of : (b : List ℕ) (r : Result Read IndexEnd) → IfOk r (λ x. IsSnapshot x.3 x.0 x.1 x.2 b) → OnFault r (λ f. IsFault f b) → (f : IndexFault) → IsFault (fault_of f) b → Answers r (Err (end.Fault f))
every_of b (Ok x) found fault f is = absurd (no_fault x.0 b (snapshot_passes x.3 x.0 x.1 x.2 b found) (fault_of f) is)
every_of b (Err end.NoMemory) found fault f is = tt
every_of b (Err (end.Fault g)) found fault f is = let same = same_fault g f (fault_one b (fault_of g) (fault_of f) fault is) in ap (λ x. Err (end.Fault x)) same

-- ---- a text's tables

pub shaped_of : (m : Mailbox) (b : List ℕ) → IsBytes b → HasHeader b → AreTables m.keywords m.extensions b → m ≡ head_of m.keywords m.extensions b → IsShaped (version_at b) m
shaped_of m b fits header tables is = record {
  known = header.known.version;
  names = omega (arith, tables.counted.0, word_small 44 b fits);
  extensions = tables.extensions.count;
  highest = omega (arith, header.numbers.highest.0, ap (λ (x : Mailbox). x.highest) is);
}

pub row_long : (version : ℕ) (m : Mailbox) → (1 ≤ version) × (version ≤ 2) → 8 * version ≤ row_size version m
row_long version m known = by_version (which_version version known)
  where
    by_version : (version ≡ 1) ⊎ (version ≡ 2) → 8 * version ≤ row_size version m
    by_version (inl one) = subst (λ v. 8 * v ≤ row_size v m) (sym one) (omega arith)
    by_version (inr two) = subst (λ v. 8 * v ≤ row_size v m) (sym two) (omega arith)

pub row_fault : (m : Mailbox) (b : List ℕ) → HasHeader b → AreTables m.keywords m.extensions b → m ≡ head_of m.keywords m.extensions b → (f : SnapshotFault) → IsRowFault m f b → IsFault f b
row_fault m b header tables is f fault = inr (header.long, inr (header.known, inr (header.numbers, inr (m.keywords, m.extensions, tables, subst (λ x. IsRowFault x f b) is fault))))

-- ---- behind the tables

pub few_rows : (m : Mailbox) (rows : List Row) (b : List ℕ) → IsBytes b → AreRecords m rows b → length rows < 2 ^ 32
few_rows m rows b fits are = omega (arith, are.counted, word_small 32 b fits)

pub counts_back : (m : Mailbox) (rows : List Row) (b : List ℕ) → AreRecords m rows b → HasFlagCounts b → HasCountsOf rows b
counts_back m rows b are counts = (counts.0 ∙ count_of m rows b are 8, counts.1 ∙ count_of m rows b are 4)

pub counts_of : (m : Mailbox) (rows : List Row) (b : List ℕ) → AreRecords m rows b → HasCountsOf rows b → HasFlagCounts b
counts_of m rows b are counts = (counts.0 ∙ sym (count_of m rows b are 8), counts.1 ∙ sym (count_of m rows b are 4))

pub long_enough : (m : Mailbox) (b : List ℕ) → HasHeader b → word_at 8 b ≡ row_size (version_at b) m → 8 ≤ word_at 8 b
long_enough m b header size = let long = row_long (version_at b) m header.known.version in omega (arith, long, size, header.known.version.0)

-- the mailbox of the tables, with these rows
pub read_of : (head m : Mailbox) (b : List ℕ) → IsBytes b → HasHeader b → AreTables head.keywords head.extensions b → head ≡ head_of head.keywords head.extensions b
    → m ≡ record head { rows = m.rows; current = m.current } → word_at 8 b ≡ row_size (version_at b) head → length b ≡ word_at 4 b + word_at 8 b * word_at 32 b → IsCurrent head.extensions m.current b → AreRecords head m.rows b
    → HasCountsOf m.rows b → ((k : ℕ) → k < word_at 32 b → IsInOrder k b) → IsTextOf m b
read_of head m b fits header tables is same size end current rows counts order =
    subst (λ x. IsTextOf x b) (sym same)
    (passed_is_snapshot (record head { rows = m.rows; current = m.current }) b fits
    (record { validity = ap (λ (x : Mailbox). x.uid_validity) is; next_uid = ap (λ (x : Mailbox). x.next_uid) is; highest = ap (λ (x : Mailbox). x.highest) is })
    (record {
      long = header.long;
      known = header.known;
      numbers = header.numbers;
      tables = tables;
      size = size;
      end = end;
      current = current;
      rows = subst (λ x. AreRecords x m.rows b) is rows;
      counts = counts_of head m.rows b rows counts;
      order = order;
    }))
