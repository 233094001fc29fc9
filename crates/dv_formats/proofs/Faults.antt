-- A text has one fault at most, and none where it is of a snapshot.
use Rattle.std.proofs.Common.{◌≡◌, inl, inr, ℕ, ◌+◌, ◌*◌, ◌^◌, ◌<◌, ◌≤◌, List, [], ◌++◌, length, sym, ◌∙◌, ap, subst, arith}
use Rattle.std.proofs.lemmas.Bool.{cases_order}
use Rattle.dv_model.specs.declared.types.Extension.{Extension}
use Rattle.dv_model.specs.declared.types.Mailbox.{Mailbox}
use Rattle.dv_model.specs.Names.{IsName}
use Rattle.std.specs.Prelude.{flat_map}
use Rattle.std.specs.List.{AllByRecursion}
use Rattle.std.proofs.lemmas.List.{append-nil}
use Rattle.dv_formats.specs.Snapshots.{extension_text, row_size}
use Rattle.dv_formats.specs.SnapshotFaults.{AreTables, Counts, First, HasCurrent, HasFlagCounts, HasNumbers, HasRecords, IsFault, IsKnown, IsOrderFault, IsRowFault, IsTableFault, Order, Short, SnapshotFault, Version, head_of, other_byte, record_place, version_at, word_at}
use Rattle.dv_formats.proofs.Texts.{AreShort, IsShortExtension, extensions_one, names_one}
use Rattle.dv_formats.proofs.Wholes.{each_of_all, extensions_of}

-- ---- the tables of a text are one

short_names : (names : List (List ℕ)) (es : List Extension) (b : List ℕ) → AreTables names es b → AreShort names
short_names names es b are = each_of_all IsName (λ name. length name < 2 ^ 16) (λ name h. omega (arith, h.size.1)) names are.valid.0

short_extensions : (names : List (List ℕ)) (es : List Extension) (b : List ℕ) → AreTables names es b → AllByRecursion IsShortExtension es
short_extensions names es b are = extensions_of es are.fields are.extensions.names are.extensions.headers

pub tables_one : (names names' : List (List ℕ)) (es es' : List Extension) (b : List ℕ) → AreTables names es b → AreTables names' es' b → (names ≡ names') × (es ≡ es')
tables_one names names' es es' b p q =
    let first = names_one names names' (flat_map extension_text es) (flat_map extension_text es') (p.counted.0 ∙ sym q.counted.0) (short_names names es b p) (short_names names' es' b q) (sym p.text ∙ q.text) in
    let joined : flat_map extension_text es ++ [] ≡ flat_map extension_text es' ++ [] = append-nil (flat_map extension_text es) ∙ first.1 ∙ sym (append-nil (flat_map extension_text es')) in
    let second = extensions_one es es' [] [] (p.counted.1 ∙ sym q.counted.1) (short_extensions names es b p) (short_extensions names' es' b q) joined in
    (first.0, second.0)

-- ---- the fault of a text is one

first_one : (P : Type 0) (own f g : SnapshotFault) (L M : Type 0) → First P own f L → First P own g M → (L → M → f ≡ g) → f ≡ g
first_one P own f g L M (inl p) (inl q) later = p.1 ∙ sym q.1
first_one P own f g L M (inl p) (inr q) later = absurd (p.0 q.0)
first_one P own f g L M (inr p) (inl q) later = absurd (q.0 p.0)
first_one P own f g L M (inr p) (inr q) later = later p.1 q.1

orders_one : (b : List ℕ) (f g : SnapshotFault) → IsOrderFault f b → IsOrderFault g b → f ≡ g
orders_one b f g (k, p, e) (j, q, h) =
    elim (cases_order k j) [
      | inl same ↦ e ∙ ap (λ n. Order (record_place n b)) same ∙ sym h
      | inr (inl less) ↦ absurd (p.here (q.before k less))
      | inr (inr more) ↦ absurd (q.here (p.before j more))
    ]

rows_one : (m : Mailbox) (b : List ℕ) (f g : SnapshotFault) → IsRowFault m f b → IsRowFault m g b → f ≡ g
rows_one m b f g p q =
    first_one (word_at 8 b ≡ row_size (version_at b) m) (Counts 3) f g _ _ p q (λ p q.
    first_one (length b ≡ word_at 4 b + word_at 8 b * word_at 32 b) (Counts 4) f g _ _ p q (λ p q.
    first_one (HasCurrent m b) (Counts 5) f g _ _ p q (λ p q. first_one (HasRecords m b) (Counts 6) f g _ _ p q (λ p q. first_one (HasFlagCounts b) (Counts 7) f g _ _ p q (orders_one b f g)))))

tables_fault_one : (b : List ℕ) (f g : SnapshotFault) → IsTableFault f b → IsTableFault g b → f ≡ g
tables_fault_one b f g (inl p) (inl q) = p.1 ∙ sym q.1
tables_fault_one b f g (inl p) (inr (names, es, are, q)) = absurd (p.0 names es are)
tables_fault_one b f g (inr (names, es, are, p)) (inl q) = absurd (q.0 names es are)
tables_fault_one b f g (inr (names, es, are, p)) (inr (names', es', are', q)) =
    let same = tables_one names' names es' es b are' are in
    rows_one (head_of names es b) b f g p (subst (λ ns. IsRowFault (head_of ns es b) g b) same.0 (subst (λ xs. IsRowFault (head_of names' xs b) g b) same.1 q))

pub fault_one : (b : List ℕ) (f g : SnapshotFault) → IsFault f b → IsFault g b → f ≡ g
fault_one b f g p q =
    first_one (120 ≤ length b) (Short (length b)) f g _ _ p q (λ p q.
    first_one (IsKnown b) (Version (other_byte b)) f g _ _ p q (λ p q. first_one (HasNumbers b) (Counts 1) f g _ _ p q (tables_fault_one b f g)))
