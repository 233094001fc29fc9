-- Where the extension `cache` stands, and the parts that belong to it.
use Rattle.std.proofs.Common.{◌≡◌, ℕ, zero, suc, ◌<◌, ◌≤◌, Bool, true, false, cond, List, [], ◌∷◌, ◌++◌, length, get_or, Some, None, refl, ◌∙◌, ap, arith}
use Rattle.std.specs.Prelude.{All, bytes_eq, codes, find, nat_le, option_map, take, unwrap_or}
use Rattle.std.specs.Int.{w32, from_le_bytes}
use Rattle.std.proofs.lemmas.Bool.Decides.{nat_tests}
use Rattle.std.proofs.lemmas.List.Elements.{All-head, All-tail}
use Rattle.dv_model.specs.declared.types.Extension.{Extension}
use Rattle.dv_model.specs.Effects.{with_item}
use Rattle.dv_openings.specs.TrueCaches.{look_at, look_in}

abbrev pub is_cache : Extension → Bool
is_cache e = bytes_eq e.name (codes "cache")

-- the first extension of that name stands at this place, with this number
abbrev pub IsAt : List Extension → ℕ → ℕ → Type 0
IsAt [] k seq = ⊥
IsAt (e ∷ es) zero seq = (bytes_eq e.name (codes "cache") ≡ true) × (e.reset_id ≡ seq)
IsAt (e ∷ es) (suc k) seq = (bytes_eq e.name (codes "cache") ≡ false) × IsAt es k seq

-- there is a part at this place, and it has P
abbrev pub PartHas : (List ℕ → Type 0) → ℕ → List (List ℕ) → Type 0
PartHas P k [] = ⊥
PartHas P zero (part ∷ parts) = P part
PartHas P (suc k) (part ∷ parts) = PartHas P k parts

-- ---- what is looked up

long_enough : (n : ℕ) → 4 ≤ n → nat_le 4 n ≡ true
long_enough n le = grind (arith, nat_tests)

look_here : (seq number offset : ℕ) (part : List ℕ) → number ≡ seq → 4 ≤ length part → from_le_bytes w32 (take 4 part) ≡ offset → look_at number part ≡ Some (record { seq = seq; offset = offset })
look_here seq number offset part same long is =
    ap (λ (b : Bool). cond b (Some (record { seq = number; offset = from_le_bytes w32 (take 4 part) })) None) (long_enough (length part) long) ∙ (λ i. Some (record { seq = same i; offset = is i }))

pub look_is : (es : List Extension) (parts : List (List ℕ)) (k seq offset : ℕ) → IsAt es k seq → PartHas (λ part. (4 ≤ length part) × (from_le_bytes w32 (take 4 part) ≡ offset)) k parts → look_in es parts ≡ Some (record { seq = seq; offset = offset })
look_is [] parts k seq offset at has = absurd at
look_is (e ∷ es) [] k seq offset at has = absurd has
look_is (e ∷ es) (part ∷ parts) zero seq offset at has =
    ap (λ (b : Bool). cond b (look_at e.reset_id part) (look_in es parts)) at.0 ∙ look_here seq e.reset_id offset part at.1 has.0 has.1
look_is (e ∷ es) (part ∷ parts) (suc k) seq offset at has =
    ap (λ (b : Bool). cond b (look_at e.reset_id part) (look_in es parts)) at.0 ∙ look_is es parts k seq offset at.1 has

-- ---- one item is changed

pub part_item : (P Q : List ℕ → Type 0) (f : List ℕ → List ℕ) → ((part : List ℕ) → P part → Q (f part)) → (k : ℕ) (parts : List (List ℕ)) → PartHas P k parts → PartHas Q k (with_item k f parts)
part_item P Q f step k [] has = absurd has
part_item P Q f step zero (part ∷ parts) has = step part has
part_item P Q f step (suc k) (part ∷ parts) has = part_item P Q f step k parts has

pub part_weaker : (P Q : List ℕ → Type 0) → ((part : List ℕ) → P part → Q part) → (k : ℕ) (parts : List (List ℕ)) → PartHas P k parts → PartHas Q k parts
part_weaker P Q step k [] has = absurd has
part_weaker P Q step zero (part ∷ parts) has = step part has
part_weaker P Q step (suc k) (part ∷ parts) has = part_weaker P Q step k parts has

pub at_item : (f : Extension → Extension) (s t : ℕ) → ((e : Extension) → (f e).name ≡ e.name) → ((e : Extension) → e.reset_id ≡ s → (f e).reset_id ≡ t) → (k : ℕ) (es : List Extension) → IsAt es k s → IsAt (with_item k f es) k t
at_item f s t name number k [] at = absurd at
at_item f s t name number zero (e ∷ es) at = (ap (λ (n : List ℕ). bytes_eq n (codes "cache")) (name e) ∙ at.0, number e at.1)
at_item f s t name number (suc k) (e ∷ es) at = (at.0, at_item f s t name number k es at.1)

-- ---- an item is found

pub at_from : (es : List Extension) (k : ℕ) (d : Extension) → k < length es → is_cache (get_or es k d) ≡ true → ((j : ℕ) → j < k → is_cache (get_or es j d) ≡ false) → IsAt es k (get_or es k d).reset_id
at_from [] k d less is before = absurd (omega arith)
at_from (e ∷ es) zero d less is before = (is, refl)
at_from (e ∷ es) (suc k) d less is before = (before 0 (omega arith), at_from es k d (omega arith) is (λ j below. before (suc j) (omega arith)))

pub number_is : (es : List Extension) (k seq : ℕ) → IsAt es k seq → unwrap_or (option_map (λ (e : Extension). e.reset_id) (find is_cache es)) 0 ≡ seq
number_is [] k seq at = absurd at
number_is (e ∷ es) zero seq at = ap (λ (b : Bool). unwrap_or (option_map (λ (x : Extension). x.reset_id) (cond b (Some e) (find is_cache es))) 0) at.0 ∙ at.1
number_is (e ∷ es) (suc k) seq at = ap (λ (b : Bool). unwrap_or (option_map (λ (x : Extension). x.reset_id) (cond b (Some e) (find is_cache es))) 0) at.0 ∙ number_is es k seq at.1

pub at_end : (es : List Extension) (e : Extension) → All (λ x. is_cache x ≡ false) es → is_cache e ≡ true → IsAt (es ++ e ∷ []) (length es) e.reset_id
at_end [] e none is = (is, refl)
at_end (x ∷ es) e none is = (All-head (λ x. is_cache x ≡ false) x es none, at_end es e (All-tail (λ x. is_cache x ≡ false) x es none) is)

pub part_any : (k : ℕ) (parts : List (List ℕ)) → k < length parts → PartHas (λ part. Unit {0}) k parts
part_any k [] less = absurd (omega arith)
part_any zero (part ∷ parts) less = tt {0}
part_any (suc k) (part ∷ parts) less = part_any k parts (omega arith)

pub part_end : (P : List ℕ → Type 0) (part : List ℕ) → P part → (parts : List (List ℕ)) → PartHas P (length parts) (parts ++ part ∷ [])
part_end P part has [] = has
part_end P part has (p ∷ parts) = part_end P part has parts
