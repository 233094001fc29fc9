-- A valid mailbox stays valid.
use Rattle.std.proofs.Common.{◌≡◌, ℕ, zero, suc, ◌+◌, ◌-◌, ◌≤◌, Bool, true, false, List, [], ◌∷◌, ◌++◌, Some, length, map, max, slice_get, replicate, get_or, nat_lt, refl, ap, sym, ◌∙◌, arith, subst, length-append, if◌then◌else◌}
use Rattle.std.specs.List.Sorted.{IsStrictlyIncreasing}
use Rattle.std.proofs.lemmas.Bool.Decides.{nat_tests}
use Rattle.std.proofs.lemmas.List.{length-replicate}
use Rattle.std.proofs.lemmas.List.Elements.{All-map}
use Rattle.dv_model.specs.declared.types.Current.{Current}
use Rattle.dv_model.specs.declared.types.Extension.{Extension}
use Rattle.dv_model.specs.declared.types.Intro.{Intro}
use Rattle.dv_model.specs.declared.types.Mailbox.{Mailbox}
use Rattle.dv_model.specs.declared.types.Row.{Row}
use Rattle.dv_model.specs.Effects.{grown_extension, grown_to, new_extension, with_item, with_row_parts, zeroed}
use Rattle.dv_model.specs.Mailboxes.{IsRowOf, IsValid}
use Rattle.dv_ext.specs.declared.change.PartsChange.{PartsChange}
use Rattle.dv_ext.specs.declared.change.PartsChange.TheVariants.{Same, Added, Grown, Zeroed}
use Rattle.dv_ext.specs.Changes.{Keeps}
use Rattle.dv_ext.specs.Tables.{Table, IsTable, with_table}
use Rattle.dv_ext.proofs.Kept.{resized}
use Rattle.dv_ext.proofs.Parts.{length-zeroed}

abbrev pub sizes : List Extension → List ℕ
sizes es = map (λ e. e.record_size) es

-- parts of the one table's sizes have the other's once they are changed
abbrev pub Fit : Table → Table → (List (List ℕ) → List (List ℕ)) → Type 0
Fit before after change = (parts : List (List ℕ)) → map length parts ≡ sizes before.extensions → map length (change parts) ≡ sizes after.extensions

same_uids : (change : List (List ℕ) → List (List ℕ)) (rows : List Row) → map (λ row. row.uid) (map (with_row_parts change) rows) ≡ map (λ row. row.uid) rows
same_uids change [] = refl
same_uids change (row ∷ rows) = ap (λ (uids : List ℕ). row.uid ∷ uids) (same_uids change rows)

changed : (before after : Table) (change : List (List ℕ) → List (List ℕ)) → IsTable after → Fit before after change → (m : Mailbox) → IsValid (with_table before m) → IsValid (with_table after (record m { rows = map (with_row_parts change) m.rows }))
changed before after change is fit m valid = record {
  next_uid = valid.next_uid;
  rising = subst (λ (uids : List ℕ). IsStrictlyIncreasing uids) (sym (same_uids change m.rows)) valid.rising;
  rows = All-map (IsRowOf (with_table after (record m { rows = map (with_row_parts change) m.rows }))) (with_row_parts change) m.rows (λ k d lt. record {
    uid = (valid.rows k d lt).uid;
    keywords = (valid.rows k d lt).keywords;
    parts = fit (get_or m.rows k d).parts (valid.rows k d lt).parts;
    modseq = (valid.rows k d lt).modseq;
  });
  names = valid.names;
  extensions = is.extensions;
  current = is.current;
  highest = valid.highest;
}

-- the sizes are as before
pub same_keeps : (before after : Table) → IsTable after → sizes after.extensions ≡ sizes before.extensions → Keeps before after Same
same_keeps before after is same m valid = record {
  next_uid = valid.next_uid;
  rising = valid.rising;
  rows = λ k d lt. record {
    uid = (valid.rows k d lt).uid;
    keywords = (valid.rows k d lt).keywords;
    parts = (valid.rows k d lt).parts ∙ sym same;
    modseq = (valid.rows k d lt).modseq;
  };
  names = valid.names;
  extensions = is.extensions;
  current = is.current;
  highest = valid.highest;
}

-- ---- an extension is added

map_push : {X Y : Type 0} (f : X → Y) (xs : List X) (x : X) → map f (xs ++ x ∷ []) ≡ map f xs ++ f x ∷ []
map_push f [] x = refl
map_push f (y ∷ ys) x = ap (λ zs. f y ∷ zs) (map_push f ys x)

pub added_keeps : (before after : Table) (intro : Intro) → IsTable after → after.extensions ≡ before.extensions ++ new_extension intro ∷ [] → Keeps before after (Added intro.record_size)
added_keeps before after intro is made = changed before after (λ parts. parts ++ replicate intro.record_size 0 ∷ []) is (λ parts same.
    map_push length parts (replicate intro.record_size 0)
    ∙ ap (λ (n : ℕ). map length parts ++ n ∷ []) (length-replicate intro.record_size 0)
    ∙ ap (λ (ns : List ℕ). ns ++ intro.record_size ∷ []) same
    ∙ sym (map_push (λ (e : Extension). e.record_size) before.extensions (new_extension intro))
    ∙ ap sizes (sym made))

-- ---- an extension grows

length-grown_to : (n : ℕ) (bytes : List ℕ) → length (grown_to n bytes) ≡ max (length bytes) n
length-grown_to n bytes = length-append bytes (replicate (n - length bytes) 0) ∙ ap (λ (k : ℕ). length bytes + k) (length-replicate (n - length bytes) 0) ∙ omega arith

grown_sizes : (k : ℕ) (intro : Intro) (parts : List (List ℕ)) (es : List Extension) → map length parts ≡ sizes es → map length (with_item k (grown_to intro.record_size) parts) ≡ sizes (with_item k (grown_extension intro) es)
grown_sizes k intro [] [] same = refl
grown_sizes k intro [] (e ∷ es) same = absurd cc
grown_sizes k intro (p ∷ ps) [] same = absurd cc
grown_sizes zero intro (p ∷ ps) (e ∷ es) same =
    let first : length p ≡ e.record_size = cc in
    let rest : map length ps ≡ sizes es = cc in
    let size : length (grown_to intro.record_size p) ≡ max e.record_size intro.record_size = length-grown_to intro.record_size p ∙ ap (λ (n : ℕ). max n intro.record_size) first in
    cc
grown_sizes (suc k) intro (p ∷ ps) (e ∷ es) same =
    let first : length p ≡ e.record_size = cc in
    let rest : map length (with_item k (grown_to intro.record_size) ps) ≡ sizes (with_item k (grown_extension intro) es) = grown_sizes k intro ps es cc in
    cc

kept_sizes : (k : ℕ) (intro : Intro) (es : List Extension) (e : Extension) → slice_get es k ≡ Some e → intro.record_size ≤ e.record_size → sizes (with_item k (grown_extension intro) es) ≡ sizes es
kept_sizes k intro [] e there h = refl
kept_sizes zero intro (x ∷ es) e there h =
    let is : x ≡ e = cc in
    let size : max x.record_size intro.record_size ≡ x.record_size = let wide : intro.record_size ≤ x.record_size = rw is h in omega arith in
    ap (λ (n : ℕ). n ∷ sizes es) size
kept_sizes (suc k) intro (x ∷ es) e there h = ap (λ (ns : List ℕ). x.record_size ∷ ns) (kept_sizes k intro es e there h)

not_smaller : (a b : ℕ) → false ≡ nat_lt a b → b ≤ a
not_smaller a b e = grind (arith, nat_tests)

grown_keeps_by : (before after : Table) (k : ℕ) (e : Extension) (intro : Intro) (b : Bool) → IsTable after → slice_get before.extensions k ≡ Some e → after.extensions ≡ with_item k (grown_extension intro) before.extensions → b ≡ nat_lt e.record_size intro.record_size → Keeps before after (if b then Grown k intro.record_size else Same)
grown_keeps_by before after k e intro true is there made larger = changed before after (with_item k (grown_to intro.record_size)) is (λ parts same. grown_sizes k intro parts before.extensions same ∙ ap sizes (sym made))
grown_keeps_by before after k e intro false is there made larger = same_keeps before after is (ap sizes made ∙ kept_sizes k intro before.extensions e there (not_smaller e.record_size intro.record_size larger))

pub grown_keeps : (before after : Table) (k : ℕ) (e : Extension) (intro : Intro) (change : PartsChange) → IsTable after → slice_get before.extensions k ≡ Some e → after.extensions ≡ with_item k (grown_extension intro) before.extensions → change ≡ (if nat_lt e.record_size intro.record_size then Grown k intro.record_size else Same) → Keeps before after change
grown_keeps before after k e intro change is there made answered = rw answered (grown_keeps_by before after k e intro (nat_lt e.record_size intro.record_size) is there made refl)

-- ---- an extension keeps its sizes

pub resized_sizes : (k : ℕ) (change : Extension → Extension) (es : List Extension) → ((e : Extension) → (change e).record_size ≡ e.record_size) → sizes (with_item k change es) ≡ sizes es
resized_sizes k change [] keeps = refl
resized_sizes zero change (e ∷ es) keeps = ap (λ (n : ℕ). n ∷ sizes es) (keeps e)
resized_sizes (suc k) change (e ∷ es) keeps = ap (λ (ns : List ℕ). e.record_size ∷ ns) (resized_sizes k change es keeps)

zeroed_sizes : (k : ℕ) (parts : List (List ℕ)) → map length (with_item k zeroed parts) ≡ map length parts
zeroed_sizes k [] = refl
zeroed_sizes zero (p ∷ ps) = ap (λ (n : ℕ). n ∷ map length ps) (length-zeroed p)
zeroed_sizes (suc k) (p ∷ ps) = ap (λ (ns : List ℕ). length p ∷ ns) (zeroed_sizes k ps)

pub zeroed_keeps : (before after : Table) (k : ℕ) → IsTable after → sizes after.extensions ≡ sizes before.extensions → Keeps before after (Zeroed k)
zeroed_keeps before after k is same = changed before after (with_item k zeroed) is (λ parts sized. zeroed_sizes k parts ∙ sized ∙ sym same)

-- the table after the current extension was changed, and kept its sizes
abbrev rewritten : Table → List Extension → Table
rewritten t list = record { extensions = list; current = t.current }

resized_is : (t : Table) (c : Current) (change : Extension → Extension) (list : List Extension) → IsTable t → t.current ≡ Some c → ((e : Extension) → ((change e).name ≡ e.name) × ((change e).record_size ≡ e.record_size) × (length (change e).header ≡ length e.header)) → list ≡ with_item c.extension change t.extensions → IsTable (rewritten t list) × (sizes list ≡ sizes t.extensions)
resized_is t c change list is current keeps made = (
  subst (λ (xs : List Extension). IsTable (rewritten t xs)) (sym made) (resized t c change is current keeps),
  ap sizes made ∙ resized_sizes c.extension change t.extensions (λ e. (keeps e).1),
)

pub resized_same : (t old : Table) (c : Current) (change : Extension → Extension) (list : List Extension) → t ≡ old → IsTable t → t.current ≡ Some c → ((e : Extension) → ((change e).name ≡ e.name) × ((change e).record_size ≡ e.record_size) × (length (change e).header ≡ length e.header)) → list ≡ with_item c.extension change t.extensions → Keeps old (record { extensions = list; current = t.current }) Same
resized_same t old c change list same is current keeps made =
    let r = resized_is t c change list is current keeps made in
    subst (λ (b : Table). Keeps b (rewritten t list) Same) same (same_keeps t (rewritten t list) r.0 r.1)

pub resized_zeroed : (t old : Table) (c : Current) (change : Extension → Extension) (list : List Extension) → t ≡ old → IsTable t → t.current ≡ Some c → ((e : Extension) → ((change e).name ≡ e.name) × ((change e).record_size ≡ e.record_size) × (length (change e).header ≡ length e.header)) → list ≡ with_item c.extension change t.extensions → Keeps old (record { extensions = list; current = t.current }) (Zeroed c.extension)
resized_zeroed t old c change list same is current keeps made =
    let r = resized_is t c change list is current keeps made in
    subst (λ (b : Table). Keeps b (rewritten t list) (Zeroed c.extension)) same (zeroed_keeps t (rewritten t list) c.extension r.0 r.1)
