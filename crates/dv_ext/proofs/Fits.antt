-- When a table is within the limits.
use Rattle.std.proofs.Common.{◌≡◌, ℕ, ◌+◌, ◌-◌, ◌<◌, ◌≤◌, Bool, true, false, ◌&&◌, List, [], ◌∷◌, ◌++◌, length, get_or, max, nat_le, replicate, sum_by, All, ap, sym, ◌∙◌, arith, subst, take, get_or-set_same, length-append}
use Rattle.std.proofs.lemmas.List.{length-replicate}
use Rattle.std.proofs.Math.ListN.{set, length-set}
use Rattle.std.specs.List.{list_all}
use Rattle.std.proofs.lemmas.Bool.Decides.{nat_tests}
use Rattle.std.proofs.lemmas.List.Elements.{All-set}
use Rattle.std.proofs.Math.Bool.{and-true}
use Rattle.std.proofs.lemmas.List.Folds.{list_all-append, list_all_at}
use Rattle.std.proofs.lemmas.List.Sums.{AllPass-from_list_all, list_all-from_AllPass, sum_by-set, sum_by_more_le, sum_by_push}
use Rattle.dv_model.specs.declared.types.Extension.{Extension}
use Rattle.dv_model.specs.declared.types.Intro.{Intro}
use Rattle.dv_model.specs.Effects.{fit, grown_extension, new_extension, with_item}
use Rattle.dv_model.specs.Mailboxes.{AreExtensions}
use Rattle.dv_ext.proofs.Items.{with_item_at}

passes : (n : ℕ) → n ≤ 65536 → nat_le n 65536 ≡ true
passes n h = grind (arith, nat_tests)

pub headers_pass : (es : List Extension) → All (λ e. length e.header ≤ 65536) es → list_all (λ e. nat_le (length e.header) 65536) es ≡ true
headers_pass es h = list_all-from_AllPass (λ e. nat_le (length e.header) 65536) es (λ k d lt. passes (length (get_or es k d).header) (h k d lt))

fit_is : (es : List Extension) (n w : ℕ) (b : Bool) → length es ≡ n → sum_by (λ e. e.record_size) es ≡ w → list_all (λ e. nat_le (length e.header) 65536) es ≡ b → fit es ≡ (nat_le n 16 && nat_le w 1024 && b)
fit_is es n w b e f g =
    ap (λ (k : ℕ). nat_le k 16 && nat_le (sum_by (λ (x : Extension). x.record_size) es) 1024 && list_all (λ (x : Extension). nat_le (length x.header) 65536) es) e
    ∙ ap (λ (k : ℕ). nat_le n 16 && nat_le k 1024 && list_all (λ (x : Extension). nat_le (length x.header) 65536) es) f
    ∙ ap (λ (v : Bool). nat_le n 16 && nat_le w 1024 && v) g

-- the table with one more extension
pub fit_added : (es : List Extension) (intro : Intro) → AreExtensions es → fit (es ++ new_extension intro ∷ []) ≡ (nat_le (length es + 1) 16 && nat_le (sum_by (λ e. e.record_size) es + intro.record_size) 1024 && nat_le intro.hdr_size 65536)
fit_added es intro is =
    let e : Extension = new_extension intro in
    let many : length (es ++ e ∷ []) ≡ length es + 1 = length-append es (e ∷ []) in
    let long : list_all (λ (x : Extension). nat_le (length x.header) 65536) (es ++ e ∷ []) ≡ nat_le intro.hdr_size 65536 =
    list_all-append (λ (x : Extension). nat_le (length x.header) 65536) es (e ∷ [])
    ∙ ap (λ (v : Bool). v && (nat_le (length e.header) 65536 && true)) (headers_pass es is.headers)
    ∙ and-true (nat_le (length e.header) 65536)
    ∙ ap (λ (k : ℕ). nat_le k 65536) (length-replicate intro.hdr_size 0) in
    fit_is (es ++ e ∷ []) (length es + 1) (sum_by (λ x. x.record_size) es + intro.record_size) (nat_le intro.hdr_size 65536) many (sum_by_push (λ (x : Extension). x.record_size) es e) long

list_all_set_by : {X : Type 0} (p : X → Bool) (xs : List X) (i : ℕ) (y : X) (b : Bool) → i < length xs → list_all p xs ≡ true → p y ≡ b → list_all p (set xs i y) ≡ b
list_all_set_by p xs i y true h all e = list_all-from_AllPass p (set xs i y) (All-set (λ x. p x ≡ true) xs i y e (AllPass-from_list_all p xs all))
list_all_set_by p xs i y false h all e = list_all_at p (set xs i y) i y (rw (length-set xs i y) h) (rw (get_or-set_same xs i y y h) e)

grown_size : (n h size : ℕ) → h ≤ 65536 → n ≡ h + (size - h) → nat_le n 65536 ≡ nat_le size 65536
grown_size n h size le e = grind (arith, nat_tests)

grown_sum : (sum before set size : ℕ) → before ≤ sum → set + before ≡ sum + max before size → set ≡ sum - before + max before size
grown_sum sum before set size le e = omega arith

few : (n : ℕ) → n ≤ 16 → nat_le n 16 ≡ true
few n h = grind (arith, nat_tests)

-- the table with one extension that has grown
pub fit_grown : (es : List Extension) (k : ℕ) (e : Extension) (intro : Intro) → AreExtensions es → k < length es → e ≡ get_or es k e → fit (with_item k (grown_extension intro) es) ≡ (nat_le (sum_by (λ x. x.record_size) es - e.record_size + max e.record_size intro.record_size) 1024 && nat_le intro.hdr_size 65536)
fit_grown es k e intro is h at =
    let y : Extension = grown_extension intro e in
    let width : Extension → ℕ = λ x. x.record_size in
    let within : sum_by width (take k es) + width (get_or es k e) ≤ sum_by width es = sum_by_more_le width es k e h in
    let same : width (get_or es k e) ≡ e.record_size = ap width (sym at) in
    let changed : sum_by width (set es k y) + width (get_or es k e) ≡ sum_by width es + width y = sum_by-set width es k y e h in
    let sum : sum_by width (set es k y) ≡ sum_by width es - e.record_size + max e.record_size intro.record_size =
    grown_sum (sum_by width es) e.record_size (sum_by width (set es k y)) intro.record_size (omega arith) (omega arith) in
    let short : length e.header ≤ 65536 = subst (λ (x : Extension). length x.header ≤ 65536) (sym at) (is.headers k e h) in
    let size : length y.header ≡ length e.header + (intro.hdr_size - length e.header) =
    length-append e.header (replicate (intro.hdr_size - length e.header) 0) ∙ ap (λ (n : ℕ). length e.header + n) (length-replicate (intro.hdr_size - length e.header) 0) in
    let header : nat_le (length y.header) 65536 ≡ nat_le intro.hdr_size 65536 = grown_size (length y.header) (length e.header) intro.hdr_size short size in
    let long = list_all_set_by (λ (x : Extension). nat_le (length x.header) 65536) es k y (nat_le intro.hdr_size 65536) h (headers_pass es is.headers) header in
    ap fit (with_item_at (grown_extension intro) es k e h at)
    ∙ fit_is (set es k y) (length es) (sum_by width es - e.record_size + max e.record_size intro.record_size) (nat_le intro.hdr_size 65536) (length-set es k y) sum long
    ∙ ap (λ (v : Bool). v && nat_le (sum_by width es - e.record_size + max e.record_size intro.record_size) 1024 && nat_le intro.hdr_size 65536) (few (length es) is.count)
