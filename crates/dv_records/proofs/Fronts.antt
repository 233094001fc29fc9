-- Each item reads as it is spelled, whatever follows it.
use Rattle.std.proofs.Common.{◌≡◌, ℕ, ◌+◌, ◌-◌, ◌^◌, ◌<◌, ◌≤◌, Bool, true, false, cond, ◌||◌, ltb, eqb, List, [], ◌∷◌, ◌++◌, length, get_or, take, drop, Option, Some, None, refl, sym, ap, subst, ◌∙◌, arith}
use Rattle.std.specs.Int.{w16, w32, to_le_bytes, from_le_bytes}
use Rattle.std.proofs.lemmas.Bool.{ltb-false, le-ltb, eqb-false, ne_eqb, or_from, or_parts}
use Rattle.std.proofs.lemmas.Option.{none-some, same_Some}
use Rattle.std.proofs.lemmas.List.{length-take, length-drop, drop-take, get_or-take, take-take, take_all}
use Rattle.std.proofs.Math.Seq.{take-add, drop-cons}
use Rattle.std.proofs.lemmas.Nat.{le_bytes_2, le_bytes_4, from_le_bytes-to_le_bytes_2, from_le_bytes-to_le_bytes_4}
use Rattle.dv_model.specs.declared.types.Change.{Change}
use Rattle.dv_model.specs.declared.types.GuidRow.{GuidRow}
use Rattle.dv_model.specs.declared.types.Intro.{Intro}
use Rattle.dv_model.specs.declared.types.NewRow.{NewRow}
use Rattle.dv_model.specs.declared.types.Pair.{Pair}
use Rattle.dv_model.specs.declared.types.Part.{Part}
use Rattle.dv_model.specs.Spelling.{IsPair, IsNewRow, IsChange, IsGuidRow, IsPart, IsIntro, AreEnds, IsUid, intro_head, padded}
use Rattle.dv_records.specs.Fronts.{IsReader, half_at, word_at, pair_front, new_row_front, change_front, guid_row_front, part_front, intro_front}
use Rattle.dv_records.proofs.Loop.{IsBytes, IsBytes-take, IsBytes-drop}
use Rattle.dv_records.proofs.Payloads.{sized_pairs, sized_new_rows, sized_changes, sized_guid_rows, sized_parts, sized_intros}

-- ---- numbers of four and of two bytes

pub word_is : (b : List ℕ) (at : ℕ) → IsBytes b → at + 4 ≤ length b
    → take 4 (drop at b) ≡ to_le_bytes w32 (word_at b at)
word_is b at fits long = sym (le_bytes_4 (take 4 (drop at b)) _ (omega (arith, length-take 4 (drop at b), length-drop at b)) (IsBytes-take 4 (drop at b) (IsBytes-drop at b fits)) refl)

pub half_is : (b : List ℕ) (at : ℕ) → IsBytes b → at + 2 ≤ length b
    → take 2 (drop at b) ≡ to_le_bytes w16 (half_at b at)
half_is b at fits long = sym (le_bytes_2 (take 2 (drop at b)) _ (omega (arith, length-take 2 (drop at b), length-drop at b)) (IsBytes-take 2 (drop at b) (IsBytes-drop at b fits)) refl)

pub byte_is : (b : List ℕ) (at : ℕ) → at + 1 ≤ length b → take 1 (drop at b) ≡ get_or b at 0 ∷ []
byte_is b at long = ap (take 1) (drop-cons b at 0 (omega arith))

pub word_below : (b : List ℕ) (at : ℕ) → IsBytes b → word_at b at < 2 ^ 32
word_below b at fits =
    let f : IsBytes (take 4 (drop at b)) = IsBytes-take 4 (drop at b) (IsBytes-drop at b fits) in
    omega (arith, f 0, f 1, f 2, f 3)

pub half_below : (b : List ℕ) (at : ℕ) → IsBytes b → half_at b at < 2 ^ 16
half_below b at fits =
    let f : IsBytes (take 2 (drop at b)) = IsBytes-take 2 (drop at b) (IsBytes-drop at b fits) in
    omega (arith, f 0, f 1)

-- one text behind another
pub joined : (n m : ℕ) (b x y : List ℕ) → take n b ≡ x → take m (drop n b) ≡ y
    → take (n + m) b ≡ x ++ y
joined n m b x y p q = take-add n m b ∙ ap (λ (t : List ℕ). t ++ take m (drop n b)) p ∙ ap (λ (t : List ℕ). x ++ t) q

-- ---- what stands in a front of the bytes

pub inner : (at m k : ℕ) (b : List ℕ) → at + m ≤ k
    → take m (drop at (take k b)) ≡ take m (drop at b)
inner at m k b le =
    let e : k ≡ at + (k - at) = omega arith in
    ap (λ (n : ℕ). take m (drop at (take n b))) e ∙ ap (take m) (drop-take at (k - at) b) ∙ take-take m (k - at) (drop at b) (omega arith)

pub word_read : (b text : List ℕ) (at k n : ℕ) → at + 4 ≤ k → take k b ≡ text
    → take 4 (drop at text) ≡ to_le_bytes w32 n → n < 2 ^ 32 → word_at b at ≡ n
word_read b text at k n le e is lt = ap (from_le_bytes w32) (sym (inner at 4 k b le) ∙ ap (λ (t : List ℕ). take 4 (drop at t)) e ∙ is) ∙ from_le_bytes-to_le_bytes_4 n lt

pub half_read : (b text : List ℕ) (at k n : ℕ) → at + 2 ≤ k → take k b ≡ text
    → take 2 (drop at text) ≡ to_le_bytes w16 n → n < 2 ^ 16 → half_at b at ≡ n
half_read b text at k n le e is lt = ap (from_le_bytes w16) (sym (inner at 2 k b le) ∙ ap (λ (t : List ℕ). take 2 (drop at t)) e ∙ is) ∙ from_le_bytes-to_le_bytes_2 n lt

pub byte_read : (b text : List ℕ) (at k : ℕ) → at < k → take k b ≡ text
    → get_or b at 0 ≡ get_or text at 0
byte_read b text at k lt e = sym (get_or-take k b at 0 lt) ∙ ap (λ (t : List ℕ). get_or t at 0) e

-- ---- tests

-- a test that did not stop
passed : {A : Type 0} (t : Bool) (x : Option A) (y : A) → cond t None x ≡ Some y
    → (t ≡ false) × (x ≡ Some y)
passed true x y e = absurd (none-some y e)
passed false x y e = (refl, e)

passes : {A : Type 0} (t : Bool) (x : Option A) → t ≡ false → cond t None x ≡ x
passes t x e = rw e refl

ends_of : (first last : ℕ) → (eqb first 0 || ltb last first) ≡ false → last < 2 ^ 32
    → AreEnds first last
ends_of first last e lt = let p = or_parts (eqb first 0) (ltb last first) e in (let some : first ≡ 0 → ⊥ = eqb-false first 0 p.0 in omega arith, ltb-false last first p.1, lt)

are_ends : (first last : ℕ) → AreEnds first last → (eqb first 0 || ltb last first) ≡ false
are_ends first last is = or_from (eqb first 0) (ltb last first) (ne_eqb first 0 (λ e. omega arith)) (le-ltb last first is.1)

uid_of : (uid : ℕ) → (eqb uid 0 || eqb uid (2 ^ 32 - 1)) ≡ false → uid < 2 ^ 32 → IsUid uid
uid_of uid e lt =
    let p = or_parts (eqb uid 0) (eqb uid (2 ^ 32 - 1)) e in
    let some : uid ≡ 0 → ⊥ = eqb-false uid 0 p.0 in
    let not_last : uid ≡ 2 ^ 32 - 1 → ⊥ = eqb-false uid (2 ^ 32 - 1) p.1 in
    (omega arith, omega arith)

is_uid : (uid : ℕ) → IsUid uid → (eqb uid 0 || eqb uid (2 ^ 32 - 1)) ≡ false
is_uid uid is = or_from (eqb uid 0) (eqb uid (2 ^ 32 - 1)) (ne_eqb uid 0 (λ e. omega arith)) (ne_eqb uid (2 ^ 32 - 1) (λ e. omega arith))

-- ---- pairs

pair_from : ℕ → ℕ → ℕ → Option Pair
pair_from n first last = cond (ltb n 8) None (cond (eqb first 0 || ltb last first) None (Some (record { first = first; last = last })))

pair_takes : (x : Pair) (b : List ℕ) → IsBytes b → pair_front b ≡ Some x → IsPair x (take 8 b)
unfolding pair_front
pair_takes x b fits e =
    let p = passed (ltb (length b) 8) _ x e in
    let q = passed (eqb (word_at b 0) 0 || ltb (word_at b 4) (word_at b 0)) _ x p.1 in
    let long : 8 ≤ length b = ltb-false (length b) 8 p.0 in
    let y : Pair = record { first = word_at b 0; last = word_at b 4 } in
    let is : IsPair y (take 8 b) = record {
      fields = joined 4 4 b (to_le_bytes w32 (word_at b 0)) (to_le_bytes w32 (word_at b 4)) (word_is b 0 fits (omega arith)) (word_is b 4 fits (omega arith));
      ends = ends_of (word_at b 0) (word_at b 4) q.0 (word_below b 4 fits);
    } in
    subst (λ (z : Pair). IsPair z (take 8 b)) (same_Some y x q.1) is

pair_again : (x : Pair) (b : List ℕ) → IsPair x (take 8 b) → pair_front b ≡ Some x
unfolding pair_front pair_from
pair_again x b is =
    let size : length (take 8 b) ≡ 8 = sized_pairs.sized x _ is in
    let long : 8 ≤ length b = omega (arith, length-take 8 b) in
    let first : word_at b 0 ≡ x.first = word_read b _ 0 8 x.first (omega arith) is.fields refl (omega (arith, is.ends.1, is.ends.2)) in
    let last : word_at b 4 ≡ x.last = word_read b _ 4 8 x.last (omega arith) is.fields refl is.ends.2 in
    let same : pair_from (length b) (word_at b 0) (word_at b 4) ≡ pair_from (length b) x.first x.last =
    ap (λ (n : ℕ). pair_from (length b) n (word_at b 4)) first ∙ ap (λ (n : ℕ). pair_from (length b) x.first n) last in
    same ∙ passes (ltb (length b) 8) _ (le-ltb _ _ long) ∙ passes (eqb x.first 0 || ltb x.last x.first) _ (are_ends x.first x.last is.ends)

pub pair_reads : IsReader (λ (pair : Pair). 8) IsPair pair_front
pair_reads = record { sized = sized_pairs.sized; positive = λ pair. omega arith; takes = pair_takes; again = pair_again }

-- ---- appended rows

new_row_from : ℕ → ℕ → ℕ → Option NewRow
new_row_from n uid flags = cond (ltb n 8) None (cond (eqb uid 0 || eqb uid (2 ^ 32 - 1)) None (Some (record { uid = uid; flags = flags })))

new_row_takes : (x : NewRow) (b : List ℕ) → IsBytes b → new_row_front b ≡ Some x
    → IsNewRow x (take 8 b)
unfolding new_row_front
new_row_takes x b fits e =
    let p = passed (ltb (length b) 8) _ x e in
    let q = passed (eqb (word_at b 0) 0 || eqb (word_at b 0) (2 ^ 32 - 1)) _ x p.1 in
    let long : 8 ≤ length b = ltb-false (length b) 8 p.0 in
    let y : NewRow = record { uid = word_at b 0; flags = get_or b 4 0 } in
    let is : IsNewRow y (take 8 b) = record {
      size = omega (arith, length-take 8 b);
      fields = take-take 5 8 b (omega arith) ∙ joined 4 1 b (to_le_bytes w32 (word_at b 0)) (get_or b 4 0 ∷ []) (word_is b 0 fits (omega arith)) (byte_is b 4 (omega arith));
      uid = uid_of (word_at b 0) q.0 (word_below b 0 fits);
    } in
    subst (λ (z : NewRow). IsNewRow z (take 8 b)) (same_Some y x q.1) is

new_row_again : (x : NewRow) (b : List ℕ) → IsNewRow x (take 8 b) → new_row_front b ≡ Some x
unfolding new_row_front new_row_from
new_row_again x b is =
    let long : 8 ≤ length b = omega (arith, is.size, length-take 8 b) in
    let fields : take 5 b ≡ to_le_bytes w32 x.uid ++ x.flags ∷ [] = sym (take-take 5 8 b (omega arith)) ∙ is.fields in
    let uid : word_at b 0 ≡ x.uid = word_read b _ 0 5 x.uid (omega arith) fields refl (omega (arith, is.uid.1)) in
    let flags : get_or b 4 0 ≡ x.flags = byte_read b _ 4 5 (omega arith) fields in
    let same : new_row_from (length b) (word_at b 0) (get_or b 4 0) ≡ new_row_from (length b) x.uid x.flags =
    ap (λ (n : ℕ). new_row_from (length b) n (get_or b 4 0)) uid ∙ ap (λ (n : ℕ). new_row_from (length b) x.uid n) flags in
    same ∙ passes (ltb (length b) 8) _ (le-ltb _ _ long) ∙ passes (eqb x.uid 0 || eqb x.uid (2 ^ 32 - 1)) _ (is_uid x.uid is.uid)

pub new_row_reads : IsReader (λ (row : NewRow). 8) IsNewRow new_row_front
new_row_reads = record { sized = sized_new_rows.sized; positive = λ row. omega arith; takes = new_row_takes; again = new_row_again }

-- ---- changes of flags

change_from : ℕ → ℕ → ℕ → ℕ → ℕ → Option Change
change_from n first last add remove = cond (ltb n 12) None (cond (eqb first 0 || ltb last first) None (Some (record { first = first; last = last; add = add; remove = remove })))

change_takes : (x : Change) (b : List ℕ) → IsBytes b → change_front b ≡ Some x
    → IsChange x (take 12 b)
unfolding change_front
change_takes x b fits e =
    let p = passed (ltb (length b) 12) _ x e in
    let q = passed (eqb (word_at b 0) 0 || ltb (word_at b 4) (word_at b 0)) _ x p.1 in
    let long : 12 ≤ length b = ltb-false (length b) 12 p.0 in
    let y : Change = record { first = word_at b 0; last = word_at b 4; add = get_or b 8 0; remove = get_or b 9 0 } in
    let two = joined 4 4 b (to_le_bytes w32 (word_at b 0)) (to_le_bytes w32 (word_at b 4)) (word_is b 0 fits (omega arith)) (word_is b 4 fits (omega arith)) in
    let three = joined 8 1 b (to_le_bytes w32 (word_at b 0) ++ to_le_bytes w32 (word_at b 4)) (get_or b 8 0 ∷ []) two (byte_is b 8 (omega arith)) in
    let is : IsChange y (take 12 b) = record {
      size = omega (arith, length-take 12 b);
      fields = take-take 10 12 b (omega arith) ∙ joined 9 1 b (to_le_bytes w32 (word_at b 0) ++ to_le_bytes w32 (word_at b 4) ++ get_or b 8 0 ∷ []) (get_or b 9 0 ∷ []) three (byte_is b 9 (omega arith));
      ends = ends_of (word_at b 0) (word_at b 4) q.0 (word_below b 4 fits);
    } in
    subst (λ (z : Change). IsChange z (take 12 b)) (same_Some y x q.1) is

change_again : (x : Change) (b : List ℕ) → IsChange x (take 12 b) → change_front b ≡ Some x
unfolding change_front change_from
change_again x b is =
    let long : 12 ≤ length b = omega (arith, is.size, length-take 12 b) in
    let fields : take 10 b ≡ to_le_bytes w32 x.first ++ to_le_bytes w32 x.last ++ x.add ∷ x.remove ∷ [] = sym (take-take 10 12 b (omega arith)) ∙ is.fields in
    let first : word_at b 0 ≡ x.first = word_read b _ 0 10 x.first (omega arith) fields refl (omega (arith, is.ends.1, is.ends.2)) in
    let last : word_at b 4 ≡ x.last = word_read b _ 4 10 x.last (omega arith) fields refl is.ends.2 in
    let add : get_or b 8 0 ≡ x.add = byte_read b _ 8 10 (omega arith) fields in
    let remove : get_or b 9 0 ≡ x.remove = byte_read b _ 9 10 (omega arith) fields in
    let same : change_from (length b) (word_at b 0) (word_at b 4) (get_or b 8 0) (get_or b 9 0) ≡ change_from (length b) x.first x.last x.add x.remove =
    ap (λ (n : ℕ). change_from (length b) n (word_at b 4) (get_or b 8 0) (get_or b 9 0)) first
    ∙ ap (λ (n : ℕ). change_from (length b) x.first n (get_or b 8 0) (get_or b 9 0)) last
    ∙ ap (λ (n : ℕ). change_from (length b) x.first x.last n (get_or b 9 0)) add
    ∙ ap (λ (n : ℕ). change_from (length b) x.first x.last x.add n) remove in
    same ∙ passes (ltb (length b) 12) _ (le-ltb _ _ long) ∙ passes (eqb x.first 0 || ltb x.last x.first) _ (are_ends x.first x.last is.ends)

pub change_reads : IsReader (λ (change : Change). 12) IsChange change_front
change_reads = record { sized = sized_changes.sized; positive = λ change. omega arith; takes = change_takes; again = change_again }

-- ---- expunged rows

guid_row_from : ℕ → ℕ → List ℕ → Option GuidRow
guid_row_from n uid guid = cond (ltb n 20) None (cond (eqb uid 0 || eqb uid (2 ^ 32 - 1)) None (Some (record { uid = uid; guid = guid })))

guid_row_takes : (x : GuidRow) (b : List ℕ) → IsBytes b → guid_row_front b ≡ Some x
    → IsGuidRow x (take 20 b)
unfolding guid_row_front
guid_row_takes x b fits e =
    let p = passed (ltb (length b) 20) _ x e in
    let q = passed (eqb (word_at b 0) 0 || eqb (word_at b 0) (2 ^ 32 - 1)) _ x p.1 in
    let long : 20 ≤ length b = ltb-false (length b) 20 p.0 in
    let y : GuidRow = record { uid = word_at b 0; guid = take 16 (drop 4 b) } in
    let is : IsGuidRow y (take 20 b) = record {
      size = omega (arith, length-take 16 (drop 4 b), length-drop 4 b);
      fields = joined 4 16 b (to_le_bytes w32 (word_at b 0)) (take 16 (drop 4 b)) (word_is b 0 fits (omega arith)) refl;
      uid = uid_of (word_at b 0) q.0 (word_below b 0 fits);
    } in
    subst (λ (z : GuidRow). IsGuidRow z (take 20 b)) (same_Some y x q.1) is

guid_row_again : (x : GuidRow) (b : List ℕ) → IsGuidRow x (take 20 b) → guid_row_front b ≡ Some x
unfolding guid_row_front guid_row_from
guid_row_again x b is =
    let size : length (take 20 b) ≡ 20 = sized_guid_rows.sized x _ is in
    let long : 20 ≤ length b = omega (arith, length-take 20 b) in
    let uid : word_at b 0 ≡ x.uid = word_read b _ 0 20 x.uid (omega arith) is.fields refl (omega (arith, is.uid.1)) in
    let guid : take 16 (drop 4 b) ≡ x.guid = sym (inner 4 16 20 b (omega arith)) ∙ ap (λ (t : List ℕ). take 16 (drop 4 t)) is.fields ∙ take_all 16 x.guid (omega (arith, is.size)) in
    let same : guid_row_from (length b) (word_at b 0) (take 16 (drop 4 b)) ≡ guid_row_from (length b) x.uid x.guid =
    ap (λ (n : ℕ). guid_row_from (length b) n (take 16 (drop 4 b))) uid ∙ ap (λ (t : List ℕ). guid_row_from (length b) x.uid t) guid in
    same ∙ passes (ltb (length b) 20) _ (le-ltb _ _ long) ∙ passes (eqb x.uid 0 || eqb x.uid (2 ^ 32 - 1)) _ (is_uid x.uid is.uid)

pub guid_row_reads : IsReader (λ (row : GuidRow). 20) IsGuidRow guid_row_front
guid_row_reads = record { sized = sized_guid_rows.sized; positive = λ row. omega arith; takes = guid_row_takes; again = guid_row_again }

-- ---- parts of a header

part_from : ℕ → ℕ → ℕ → List ℕ → Option Part
part_from n offset size bytes = cond (ltb n 4) None (cond (ltb n (padded (4 + size))) None (Some (record { offset = offset; bytes = bytes })))

part_takes : (x : Part) (b : List ℕ) → IsBytes b → part_front b ≡ Some x
    → IsPart x (take (padded (4 + length x.bytes)) b)
unfolding part_front
part_takes x b fits e =
    let p = passed (ltb (length b) 4) _ x e in
    let q = passed (ltb (length b) (padded (4 + half_at b 2))) _ x p.1 in
    let head : 4 ≤ length b = ltb-false (length b) 4 p.0 in
    let n : ℕ = half_at b 2 in
    let long : padded (4 + n) ≤ length b = ltb-false (length b) (padded (4 + n)) q.0 in
    let y : Part = record { offset = half_at b 0; bytes = take n (drop 4 b) } in
    let len : length y.bytes ≡ n = omega (arith, length-take n (drop 4 b), length-drop 4 b) in
    let numbers = joined 2 2 b (to_le_bytes w16 (half_at b 0)) (to_le_bytes w16 n) (half_is b 0 fits (omega arith)) (half_is b 2 fits (omega arith)) in
    let text : take (4 + n) b ≡ (to_le_bytes w16 (half_at b 0) ++ to_le_bytes w16 n) ++ y.bytes = joined 4 n b (to_le_bytes w16 (half_at b 0) ++ to_le_bytes w16 n) y.bytes numbers refl in
    let same : take (4 + length y.bytes) b ≡ (to_le_bytes w16 y.offset ++ to_le_bytes w16 (length y.bytes)) ++ y.bytes =
    subst (λ (k : ℕ). take (4 + k) b ≡ (to_le_bytes w16 y.offset ++ to_le_bytes w16 k) ++ y.bytes) (sym len) text in
    let is : IsPart y (take (padded (4 + length y.bytes)) b) = record {
      size = omega (arith, len, length-take (padded (4 + length y.bytes)) b);
      fields = take-take (4 + length y.bytes) (padded (4 + length y.bytes)) b (omega arith) ∙ same;
      short = omega (arith, len, half_below b 2 fits);
      place = half_below b 0 fits;
    } in
    subst (λ (z : Part). IsPart z (take (padded (4 + length z.bytes)) b)) (same_Some y x q.1) is

part_again : (x : Part) (b : List ℕ) → IsPart x (take (padded (4 + length x.bytes)) b)
    → part_front b ≡ Some x
unfolding part_front part_from
part_again x b is =
    let n : ℕ = length x.bytes in
    let long : padded (4 + n) ≤ length b = omega (arith, is.size, length-take (padded (4 + n)) b) in
    let fields : take (4 + n) b ≡ to_le_bytes w16 x.offset ++ to_le_bytes w16 n ++ x.bytes = sym (take-take (4 + n) (padded (4 + n)) b (omega arith)) ∙ is.fields in
    let offset : half_at b 0 ≡ x.offset = half_read b _ 0 (4 + n) x.offset (omega arith) fields refl is.place in
    let size : half_at b 2 ≡ n = half_read b _ 2 (4 + n) n (omega arith) fields refl is.short in
    let bytes : take n (drop 4 b) ≡ x.bytes = sym (inner 4 n (4 + n) b (omega arith)) ∙ ap (λ (t : List ℕ). take n (drop 4 t)) fields ∙ take_all n x.bytes (omega arith) in
    let same : part_from (length b) (half_at b 0) (half_at b 2) (take (half_at b 2) (drop 4 b)) ≡ part_from (length b) x.offset n x.bytes =
    ap (λ (k : ℕ). part_from (length b) k (half_at b 2) (take (half_at b 2) (drop 4 b))) offset
    ∙ ap (λ (k : ℕ). part_from (length b) x.offset k (take k (drop 4 b))) size
    ∙ ap (λ (t : List ℕ). part_from (length b) x.offset n t) bytes in
    same ∙ passes (ltb (length b) 4) _ (le-ltb _ _ (omega arith)) ∙ passes (ltb (length b) (padded (4 + n))) _ (le-ltb _ _ long)

pub part_reads : IsReader (λ (part : Part). padded (4 + length part.bytes)) IsPart part_front
part_reads = record { sized = sized_parts.sized; positive = λ part. omega arith; takes = part_takes; again = part_again }

-- ---- introductions

intro_from : ℕ → ℕ → Intro → Option Intro
intro_from n size intro = cond (ltb n 20) None (cond (ltb n (padded (20 + size))) None (Some intro))

-- the numbers that stand in front of a name, and that name
intro_of : List ℕ → List ℕ → Intro
intro_of b name = record { ext_id = word_at b 0; reset_id = word_at b 4; hdr_size = word_at b 8; record_size = half_at b 12; record_align = half_at b 14; flags = half_at b 16; name = name }

intro_head_is : (b name : List ℕ) → IsBytes b → 20 ≤ length b → length name ≡ half_at b 18
    → take 20 b ≡ intro_head (intro_of b name)
unfolding intro_of
intro_head_is b name fits long len =
    let a = joined 4 4 b _ _ (word_is b 0 fits (omega arith)) (word_is b 4 fits (omega arith)) in
    let c = joined 8 4 b _ _ a (word_is b 8 fits (omega arith)) in
    let d = joined 12 2 b _ _ c (half_is b 12 fits (omega arith)) in
    let e = joined 14 2 b _ _ d (half_is b 14 fits (omega arith)) in
    let f = joined 16 2 b _ _ e (half_is b 16 fits (omega arith)) in
    let size : take 2 (drop 18 b) ≡ to_le_bytes w16 (length name) = half_is b 18 fits (omega arith) ∙ ap (to_le_bytes w16) (sym len) in
    joined 18 2 b _ (to_le_bytes w16 (length name)) f size

intro_takes : (x : Intro) (b : List ℕ) → IsBytes b → intro_front b ≡ Some x
    → IsIntro x (take (padded (20 + length x.name)) b)
unfolding intro_front intro_of
intro_takes x b fits e =
    let p = passed (ltb (length b) 20) _ x e in
    let q = passed (ltb (length b) (padded (20 + half_at b 18))) _ x p.1 in
    let head : 20 ≤ length b = ltb-false (length b) 20 p.0 in
    let n : ℕ = half_at b 18 in
    let long : padded (20 + n) ≤ length b = ltb-false (length b) (padded (20 + n)) q.0 in
    let name : List ℕ = take n (drop 20 b) in
    let y : Intro = intro_of b name in
    let len : length name ≡ n = omega (arith, length-take n (drop 20 b), length-drop 20 b) in
    let bytes : take (length name) (drop 20 b) ≡ name = ap (λ (k : ℕ). take k (drop 20 b)) len in
    let text : take (20 + length name) b ≡ intro_head y ++ name = joined 20 (length name) b (intro_head y) name (intro_head_is b name fits head len) bytes in
    let is : IsIntro y (take (padded (20 + length name)) b) = record {
      size = omega (arith, len, length-take (padded (20 + length name)) b);
      fields = take-take (20 + length name) (padded (20 + length name)) b (omega arith) ∙ text;
      numbers = record {
        wide = (word_below b 0 fits, word_below b 4 fits, word_below b 8 fits);
        short = (half_below b 12 fits, half_below b 14 fits, half_below b 16 fits, omega (arith, len, half_below b 18 fits));
      };
    } in
    subst (λ (z : Intro). IsIntro z (take (padded (20 + length z.name)) b)) (same_Some y x q.1) is

intro_made : (x : Intro) (id reset hdr size align flags : ℕ) (name : List ℕ) → id ≡ x.ext_id
    → reset ≡ x.reset_id → hdr ≡ x.hdr_size → size ≡ x.record_size → align ≡ x.record_align
    → flags ≡ x.flags → name ≡ x.name
    → let y : Intro = record { ext_id = id; reset_id = reset; hdr_size = hdr; record_size = size; record_align = align; flags = flags; name = name } in y ≡ x
intro_made x id reset hdr size align flags name a b c d e f g = rw (a, b, c, d, e, f, g) refl

intro_again : (x : Intro) (b : List ℕ) → IsIntro x (take (padded (20 + length x.name)) b)
    → intro_front b ≡ Some x
unfolding intro_front intro_of intro_from
intro_again x b is =
    let n : ℕ = length x.name in
    let long : padded (20 + n) ≤ length b = omega (arith, is.size, length-take (padded (20 + n)) b) in
    let fields : take (20 + n) b ≡ intro_head x ++ x.name = sym (take-take (20 + n) (padded (20 + n)) b (omega arith)) ∙ is.fields in
    let w0 : word_at b 0 ≡ x.ext_id = word_read b _ 0 (20 + n) x.ext_id (omega arith) fields refl is.numbers.wide.0 in
    let w4 : word_at b 4 ≡ x.reset_id = word_read b _ 4 (20 + n) x.reset_id (omega arith) fields refl is.numbers.wide.1 in
    let w8 : word_at b 8 ≡ x.hdr_size = word_read b _ 8 (20 + n) x.hdr_size (omega arith) fields refl is.numbers.wide.2 in
    let h12 : half_at b 12 ≡ x.record_size = half_read b _ 12 (20 + n) x.record_size (omega arith) fields refl is.numbers.short.0 in
    let h14 : half_at b 14 ≡ x.record_align = half_read b _ 14 (20 + n) x.record_align (omega arith) fields refl is.numbers.short.1 in
    let h16 : half_at b 16 ≡ x.flags = half_read b _ 16 (20 + n) x.flags (omega arith) fields refl is.numbers.short.2 in
    let size : half_at b 18 ≡ n = half_read b _ 18 (20 + n) n (omega arith) fields refl is.numbers.short.3 in
    let name : take n (drop 20 b) ≡ x.name = sym (inner 20 n (20 + n) b (omega arith)) ∙ ap (λ (t : List ℕ). take n (drop 20 t)) fields ∙ take_all n x.name (omega arith) in
    let intro : intro_of b (take n (drop 20 b)) ≡ x = intro_made x _ _ _ _ _ _ _ w0 w4 w8 h12 h14 h16 name in
    let same : intro_from (length b) (half_at b 18) (intro_of b (take (half_at b 18) (drop 20 b))) ≡ intro_from (length b) n x =
    ap (λ (k : ℕ). intro_from (length b) k (intro_of b (take k (drop 20 b)))) size ∙ ap (intro_from (length b) n) intro in
    same ∙ passes (ltb (length b) 20) _ (le-ltb _ _ (omega arith)) ∙ passes (ltb (length b) (padded (20 + n))) _ (le-ltb _ _ long)

pub intro_reads : IsReader (λ (intro : Intro). padded (20 + length intro.name)) IsIntro intro_front
intro_reads = record { sized = sized_intros.sized; positive = λ intro. omega arith; takes = intro_takes; again = intro_again }
