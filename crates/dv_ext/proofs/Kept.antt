-- What keeps a table a table.
use Rattle.std.proofs.Common.{◌≡◌, ◌≢◌, ℕ, ◌+◌, ◌<◌, ◌≤◌, ◌⊎◌, Bool, true, false, not, ◌&&◌, if◌then◌else◌, List, [], ◌∷◌, ◌++◌, Option, None, Some, length, get_or, slice_get, max, nat_le, nat_lt, nat_eq, position, sum_by, All, AllPairs, IfSome, IsSomeAnd, bytes_eq, codes, cond, refl, ap, sym, ◌∙◌, arith, subst, get_or-set_same, get_or-set_other, inl, inr}
use Rattle.std.proofs.Math.ListN.{set, length-set}
use Rattle.std.specs.List.{list_all, position_or_len}
use Rattle.std.proofs.lemmas.Bool.{cases_eq, leb-true, not-true}
use Rattle.std.proofs.lemmas.Bool.Decides.{nat_tests}
use Rattle.std.proofs.lemmas.List.{get_or_read, length_push}
use Rattle.std.proofs.lemmas.List.Elements.{All-push, All-set}
use Rattle.std.proofs.Math.Seq.{get_or-append_seam}
use Rattle.std.proofs.lemmas.Option.{IfSome_then, get_or_from_slice_get, slice_get-get_or, slice_get_within}
use Rattle.std.proofs.lemmas.List.Quantifiers.{all_pairs_push}
use Rattle.std.proofs.lemmas.List.Sums.{AllPass-from_list_all, fails_before_first, sum_by-set}
use Rattle.std.proofs.lemmas.Slice.Eq.{bytes_eq-Decides}
use Rattle.dv_model.specs.declared.types.Current.{Current}
use Rattle.dv_model.specs.declared.types.Extension.{Extension}
use Rattle.dv_model.specs.declared.types.Intro.{Intro}
use Rattle.dv_model.specs.Effects.{fit, grown_extension, introduced, may_be_added, new_extension, no_id, with_item}
use Rattle.dv_model.specs.Mailboxes.{AreExtensions}
use Rattle.dv_ext.specs.Tables.{Table, IsTable}
use Rattle.dv_ext.proofs.Items.{with_item_at}

pub and_left : (a b : Bool) → (a && b) ≡ true → a ≡ true
and_left true b e = refl
and_left false b e = absurd cc

pub and_right : (a b : Bool) → (a && b) ≡ true → b ≡ true
and_right true b e = e
and_right false b e = absurd cc

pub fit_tells : (es : List Extension) → fit es ≡ true → (length es ≤ 16) × (sum_by (λ e. e.record_size) es ≤ 1024) × All (λ e. length e.header ≤ 65536) es
fit_tells es e =
    let front = and_left (nat_le (length es) 16 && nat_le (sum_by (λ (x : Extension). x.record_size) es) 1024) (list_all (λ (x : Extension). nat_le (length x.header) 65536) es) e in
    let headers = and_right (nat_le (length es) 16 && nat_le (sum_by (λ (x : Extension). x.record_size) es) 1024) (list_all (λ (x : Extension). nat_le (length x.header) 65536) es) e in
    let pass = AllPass-from_list_all (λ (x : Extension). nat_le (length x.header) 65536) es headers in (
      leb-true (length es) 16 (and_left (nat_le (length es) 16) (nat_le (sum_by (λ (x : Extension). x.record_size) es) 1024) front),
      leb-true (sum_by (λ (x : Extension). x.record_size) es) 1024 (and_right (nat_le (length es) 16) (nat_le (sum_by (λ (x : Extension). x.record_size) es) 1024) front),
      λ k d lt. leb-true (length (get_or es k d).header) 65536 (pass k d lt),
    )

-- ---- options

at_some : {X : Type 0} (o : Option X) (P : X → Type 0) → IsSomeAnd o P → (x : X) × (o ≡ Some x) × P x
at_some None P p = absurd p
at_some (Some x) P p = (x, refl, p)

pub some_and : {X : Type 0} (o : Option X) (P : X → Type 0) (x : X) → o ≡ Some x → P x → IsSomeAnd o P
some_and o P x e p = rw e p

slice_get-set : {X : Type 0} (xs : List X) (k : ℕ) (y : X) → k < length xs → slice_get (set xs k y) k ≡ Some y
slice_get-set xs k y h =
    slice_get-get_or (set xs k y) k y (rw (length-set xs k y) h) ∙ ap Some (get_or-set_same xs k y y h)

-- ---- an extension is changed, and keeps its name

name_by : (es : List Extension) (k : ℕ) (e y : Extension) → k < length es → e ≡ get_or es k e → y.name ≡ e.name → (i : ℕ) (d : Extension) → (i ≡ k) ⊎ (i ≡ k → ⊥) → (get_or (set es k y) i d).name ≡ (get_or es i d).name
name_by es k e y h at same i d (inl is) =
    let there : get_or es k d ≡ e = sym (get_or_read es k e h at d) in
    rw is (ap (λ (x : Extension). x.name) (get_or-set_same es k y d h) ∙ same ∙ ap (λ (x : Extension). x.name) (sym there))
name_by es k e y h at same i d (inr other) = ap (λ (x : Extension). x.name) (get_or-set_other es k i y d other)

are_set : (es : List Extension) (k : ℕ) (e y : Extension) → AreExtensions es → k < length es → e ≡ get_or es k e → y.name ≡ e.name → sum_by (λ x. x.record_size) (set es k y) ≤ 1024 → All (λ x. length x.header ≤ 65536) (set es k y) → AreExtensions (set es k y)
are_set es k e y is h at same sum headers =
    let size : length (set es k y) ≡ length es = length-set es k y in
    let name : (i : ℕ) (d : Extension) → (get_or (set es k y) i d).name ≡ (get_or es i d).name = λ i d. name_by es k e y h at same i d (cases_eq i k) in
    record {
      count = rw size is.count;
      record_sizes = sum;
      headers = headers;
      names = λ i d lt. rw (name i d) (is.names i d (omega arith));
      distinct = λ i j d before lt. rw (name i d, name j d) (is.distinct i j d before (omega arith));
    }

-- the table, its item at a place changed to one that keeps its name
table_set : (t : Table) (current : Option Current) (k : ℕ) (change : Extension → Extension) (e : Extension) → IsTable t → slice_get t.extensions k ≡ Some e → (change e).name ≡ e.name → sum_by (λ x. x.record_size) (with_item k change t.extensions) ≤ 1024 → All (λ x. length x.header ≤ 65536) (with_item k change t.extensions) → IfSome current (λ c. (c.extension ≡ k) × (c.size ≤ (change e).record_size)) → IsTable (record { extensions = with_item k change t.extensions; current = current })
table_set t current k change e is there same sum headers within =
    let es : List Extension = t.extensions in
    let y : Extension = change e in
    let h : k < length es = slice_get_within es k e there in
    let at : e ≡ get_or es k e = sym (get_or_from_slice_get es k e e there) in
    let written : with_item k change es ≡ set es k y = with_item_at change es k e h at in
    let extensions : AreExtensions (with_item k change es) =
    subst (λ (xs : List Extension). AreExtensions xs) (sym written) (are_set es k e y is.extensions h at same (subst (λ (xs : List Extension). sum_by (λ (x : Extension). x.record_size) xs ≤ 1024) written sum) (subst (λ (xs : List Extension). All (λ (x : Extension). length x.header ≤ 65536) xs) written headers)) in
    let found : slice_get (with_item k change es) k ≡ Some y = ap (λ (xs : List Extension). slice_get xs k) written ∙ slice_get-set es k y h in
    record { extensions = extensions; current = IfSome_then current within (λ c w. some_and (slice_get (with_item k change es) c.extension) (λ (x : Extension). c.size ≤ x.record_size) y (ap (λ (n : ℕ). slice_get (with_item k change es) n) w.0 ∙ found) w.1) }

-- an extension of the same sizes
pub resized : (t : Table) (c : Current) (change : Extension → Extension) → IsTable t → t.current ≡ Some c → ((e : Extension) → ((change e).name ≡ e.name) × ((change e).record_size ≡ e.record_size) × (length (change e).header ≡ length e.header)) → IsTable (record { extensions = with_item c.extension change t.extensions; current = t.current })
resized t c change is current keeps =
    let es : List Extension = t.extensions in
    let k : ℕ = c.extension in
    let width : Extension → ℕ = λ x. x.record_size in
    let known : IsSomeAnd (slice_get es k) (λ e. c.size ≤ e.record_size) = subst (λ (o : Option Current). IfSome o (λ (d : Current). IsSomeAnd (slice_get es d.extension) (λ (e : Extension). d.size ≤ e.record_size))) current is.current in
    let found = at_some (slice_get es k) (λ (e : Extension). c.size ≤ e.record_size) known in
    let e : Extension = found.0 in
    let y : Extension = change e in
    let kept = keeps e in
    let h : k < length es = slice_get_within es k e found.1 in
    let at : e ≡ get_or es k e = sym (get_or_from_slice_get es k e e found.1) in
    let written : with_item k change es ≡ set es k y = with_item_at change es k e h at in
    let same : width (get_or es k e) ≡ width e = ap width (sym at) in
    let changed : sum_by width (set es k y) + width (get_or es k e) ≡ sum_by width es + width y = sum_by-set width es k y e h in
    let sum : sum_by width (set es k y) ≤ 1024 = let limit : sum_by width es ≤ 1024 = is.extensions.record_sizes in let w : width y ≡ width e = kept.1 in omega arith in
    let short : length y.header ≤ 65536 = let limit : length e.header ≤ 65536 = subst (λ (x : Extension). length x.header ≤ 65536) (sym at) (is.extensions.headers k e h) in let l : length y.header ≡ length e.header = kept.2 in omega arith in
    let headers : All (λ x. length x.header ≤ 65536) (set es k y) = All-set (λ (x : Extension). length x.header ≤ 65536) es k y short is.extensions.headers in
    let small : c.size ≤ width y = let s : c.size ≤ width e = found.2 in let w : width y ≡ width e = kept.1 in omega arith in
    let within : IfSome t.current (λ d. (d.extension ≡ k) × (d.size ≤ width y)) = subst (λ (o : Option Current). IfSome o (λ (d : Current). (d.extension ≡ k) × (d.size ≤ width y))) (sym current) (refl, small) in
    table_set t t.current k change e is found.1 kept.0 (subst (λ (xs : List Extension). sum_by width xs ≤ 1024) (sym written) sum) (subst (λ (xs : List Extension). All (λ (x : Extension). length x.header ≤ 65536) xs) (sym written) headers) within

max_right : (a b : ℕ) → b ≤ max a b
max_right a b = omega arith

-- an extension of larger sizes
pub grown : (t : Table) (k : ℕ) (e : Extension) (intro : Intro) → IsTable t → slice_get t.extensions k ≡ Some e → fit (with_item k (grown_extension intro) t.extensions) ≡ true → IsTable (record { extensions = with_item k (grown_extension intro) t.extensions; current = Some (record { extension = k; size = intro.record_size }) })
grown t k e intro is there fits =
    let tells = fit_tells (with_item k (grown_extension intro) t.extensions) fits in
    table_set t (Some (record { extension = k; size = intro.record_size })) k (grown_extension intro) e is there refl tells.1 tells.2 (refl, max_right e.record_size intro.record_size)

-- ---- one more extension

no_place : (k n : ℕ) → cond (nat_lt k n) (Some k) None ≡ None → n ≤ k
no_place k n e = grind (arith, nat_tests)

other_name : (names : List ℕ) (name : List ℕ) → bytes_eq names name ≡ false → names ≢ name
other_name a b e same = absurd (let t : bytes_eq a b ≡ true = (bytes_eq-Decides a b).1 same in cc)

added_by : (t : Table) (intro : Intro) → IsTable t → position (λ e. bytes_eq e.name intro.name) t.extensions ≡ None → (1 ≤ length intro.name) × (length intro.name ≤ 255) × (intro.name ≢ codes "keywords") → fit (t.extensions ++ new_extension intro ∷ []) ≡ true → IsTable (record { extensions = t.extensions ++ new_extension intro ∷ []; current = Some (record { extension = length t.extensions; size = intro.record_size }) })
added_by t intro is new name fits =
    let es : List Extension = t.extensions in
    let e : Extension = new_extension intro in
    let p : Extension → Bool = λ x. bytes_eq x.name intro.name in
    let tells = fit_tells (es ++ e ∷ []) fits in
    let far : length es ≤ position_or_len p es = no_place (position_or_len p es) (length es) new in
    let others : (k : ℕ) (d : Extension) → k < length es → (get_or es k d).name ≢ intro.name = λ k d lt. other_name (get_or es k d).name intro.name (fails_before_first p es k d (omega arith)) in
    let distinct : AllPairs (λ a b. a.name ≢ b.name) (es ++ e ∷ []) = all_pairs_push (λ a b. a.name ≢ b.name) es e is.extensions.distinct others in
    let names : All (λ x. (1 ≤ length x.name) × (length x.name ≤ 255) × (x.name ≢ codes "keywords")) (es ++ e ∷ []) = All-push (λ x. (1 ≤ length x.name) × (length x.name ≤ 255) × (x.name ≢ codes "keywords")) es e is.extensions.names name in
    let longer : length es < length (es ++ e ∷ []) = omega (arith, length_push es e) in
    let found : slice_get (es ++ e ∷ []) (length es) ≡ Some e = slice_get-get_or (es ++ e ∷ []) (length es) e longer ∙ ap Some (get_or-append_seam es e [] e) in
    record {
      extensions = record { count = tells.0; record_sizes = tells.1; headers = tells.2; names = names; distinct = distinct };
      current = some_and (slice_get (es ++ e ∷ []) (length es)) (λ x. intro.record_size ≤ x.record_size) e found (omega arith);
    }

may_tells : (intro : Intro) → may_be_added intro ≡ true → (nat_eq intro.ext_id no_id ≡ true) × (1 ≤ length intro.name) × (length intro.name ≤ 255) × (intro.name ≢ codes "keywords")
may_tells intro may =
    let n : ℕ = length intro.name in
    let a : Bool = nat_eq intro.ext_id no_id in
    let b : Bool = nat_le 1 n in
    let c : Bool = nat_le n 255 in
    let d : Bool = bytes_eq intro.name (codes "keywords") in
    let three : (a && b && c) ≡ true = and_left (a && b && c) (not d) may in
    let other : d ≡ false = not-true d (and_right (a && b && c) (not d) may) in
    let two : (a && b) ≡ true = and_left (a && b) c three in
    (and_left a b two, leb-true 1 n (and_right a b two), leb-true n 255 (and_right (a && b) c three), other_name intro.name (codes "keywords") other)

by_name : (b : Bool) (x y : Option ℕ) → b ≡ true → (if b then x else y) ≡ None → x ≡ None
by_name true x y e none = none
by_name false x y e none = absurd cc

pub added : (t : Table) (intro : Intro) → IsTable t → introduced t.extensions intro ≡ None → may_be_added intro ≡ true → fit (t.extensions ++ new_extension intro ∷ []) ≡ true → IsTable (record { extensions = t.extensions ++ new_extension intro ∷ []; current = Some (record { extension = length t.extensions; size = intro.record_size }) })
added t intro is new may fits =
    let m = may_tells intro may in
    added_by t intro is (by_name (nat_eq intro.ext_id no_id) (position (λ e. bytes_eq e.name intro.name) t.extensions) (if nat_lt intro.ext_id (length t.extensions) then Some intro.ext_id else None) m.0 new) (m.1, m.2, m.3) fits
