-- What removals of message files leave, one behind the other.
use Rattle.std.proofs.Common.{◌≡◌, inl, inr, ⊎_elim, ℕ, Contains, ◌+◌, ◌<◌, true, false, Bool, ◌||◌, cond, List, [], ◌∷◌, ◌++◌, length, take, drop, get_or, Option, Some, None, Result, Ok, Err, OnOk, OnErr, refl, sym, ◌∙◌, ap, arith}
use Rattle.std.proofs.Math.Path.{fun_ext}
use Rattle.std.proofs.lemmas.List.{map-append, take_more, take-append-drop}
use Rattle.std.proofs.lemmas.List.Elements.{Contains-append_right}
use Rattle.std.proofs.lemmas.List.Folds.{list_any-append}
use Rattle.dv_shelf.specs.declared.shelf.Name.{Name}
use Rattle.dv_shelf.specs.declared.shelf.Name.TheVariants as name
use Rattle.dv_shelf.specs.Crashes.{Elapses, Follows}
use Rattle.dv_shelf.specs.Folders.{ChangesOnly, Folder, IsEither, has_name, name_number, same_name, with_file}
use Rattle.dv_shelf.proofs.FolderLemmas.{same_is, with_else, with_file_is, with_same}
use Rattle.dv_shelf.proofs.Moments.{goes_on, started}
use Rattle.dv_files.specs.Leavings.{Leaves}
use Rattle.dv_files.proofs.Replacing.{leaves_both}
use Rattle.dv_files.specs.Writing.{IsRemoved, IsSweeping, IsSwept, Removes, StaysAtPut, StaysAtSweep, SweepsEach, mail_names, swept}
use Rattle.dv_shelf.specs.Sees.{SeesFolder}

-- ---- one file

either_removed : (old c : Folder) (n : Name) → ChangesOnly n (IsEither None) old c → IsRemoved n old c
either_removed old c n step =
    ⊎_elim (λ same. inl (with_file_is old c n (old n) same step.others ∙ with_same old n)) (λ gone. inr (with_file_is old c n None gone step.others)) step.there

-- ---- one file more

swept-more : (uids : List ℕ) (uid : ℕ) (folder : Folder) → swept (uids ++ uid ∷ []) folder ≡ with_file (swept uids folder) (name.Mail uid) None
swept-more uids uid folder =
    fun_ext (λ n.
    ap (λ (b : Bool). cond b None (folder n)) (named n) ∙ by_cases (has_name (mail_names uids) n) (same_name (name.Mail uid) n) (folder n))
  where
    named : (n : Name) → has_name (mail_names (uids ++ uid ∷ [])) n ≡ (has_name (mail_names uids) n || (same_name (name.Mail uid) n || false))
    named n =
        ap (λ (names : List Name). has_name names n) (map-append (λ (u : ℕ). name.Mail u) uids (uid ∷ []))
        ∙ list_any-append (λ (m : Name). same_name m n) (mail_names uids) (name.Mail uid ∷ [])

    by_cases : (a b : Bool) (file : Option (List ℕ)) → cond (a || (b || false)) None file ≡ cond b None (cond a None file)
    by_cases true true file = refl
    by_cases true false file = refl
    by_cases false true file = refl
    by_cases false false file = refl

swept-take : (uids : List ℕ) (i : ℕ) (folder : Folder) → i < length uids → swept (take (i + 1) uids) folder ≡ with_file (swept (take i uids) folder) (name.Mail (get_or uids i 0)) None
swept-take uids i folder less = ap (λ (us : List ℕ). swept us folder) (take_more uids i 0 less) ∙ swept-more (take i uids) (get_or uids i 0) folder

swept-further : (uids : List ℕ) (i : ℕ) (d e c : Folder) → i < length uids → IsSwept (take i uids) d e → c ≡ with_file e (name.Mail (get_or uids i 0)) None → IsSwept (take (i + 1) uids) d c
swept-further uids i d e c less is gone = gone ∙ ap (λ (f : Folder). with_file f (name.Mail (get_or uids i 0)) None) is ∙ sym (swept-take uids i d less)

sweeping_on : (uids : List ℕ) (i : ℕ) (d e c : Folder) → i < length uids → IsSwept (take i uids) d e → IsRemoved (name.Mail (get_or uids i 0)) e c → IsSweeping uids d c
sweeping_on uids i d e c less is step = ⊎_elim (λ same. (i, same ∙ is)) (λ gone. (i + 1, swept-further uids i d e c less is gone)) step

none_swept : (folder : Folder) → IsSwept [] folder folder
none_swept folder = fun_ext (λ n. refl)

-- each file by itself
first_named : (k : ℕ) (uids : List ℕ) (n : Name) → has_name (mail_names (take k uids)) n ≡ true → has_name (mail_names uids) n ≡ true
first_named k uids n has =
    ap (λ (us : List ℕ). has_name (mail_names us) n) (sym (take-append-drop k uids))
    ∙ ap (λ (names : List Name). has_name names n) (map-append (λ (u : ℕ). name.Mail u) (take k uids) (drop k uids))
    ∙ list_any-append (λ (m : Name). same_name m n) (mail_names (take k uids)) (mail_names (drop k uids))
    ∙ ap (λ (b : Bool). b || has_name (mail_names (drop k uids)) n) has

pub each_swept : SweepsEach
each_swept uids old new some n = by_name (has_name (mail_names (take some.0 uids)) n) refl
  where
    here : new n ≡ swept (take some.0 uids) old n
    here = ap (λ (f : Folder). f n) some.1

    by_name : (b : Bool) → has_name (mail_names (take some.0 uids)) n ≡ b → IsEither (swept uids old n) (old n) (new n)
    by_name true has =
        inr (here ∙ ap (λ (b : Bool). cond b None (old n)) has ∙ sym (ap (λ (b : Bool). cond b None (old n)) (first_named some.0 uids n has)))
    by_name false lacks = inl (here ∙ ap (λ (b : Bool). cond b None (old n)) lacks)

-- ---- other messages

one_uid : (uid other : ℕ) → name.Mail uid ≡ name.Mail other → uid ≡ other
one_uid uid other same =
    let sum : 4 + uid ≡ 4 + other = ap name_number same in
    omega (arith, sum)

named_uid : (uids : List ℕ) (uid : ℕ) → has_name (mail_names uids) (name.Mail uid) ≡ true → Contains uids uid
named_uid [] uid has = absurd (cc)
named_uid (u ∷ uids) uid has = by_name (same_name (name.Mail u) (name.Mail uid)) refl (named_uid uids uid)
  where
    by_name : (b : Bool) → same_name (name.Mail u) (name.Mail uid) ≡ b → (has_name (mail_names uids) (name.Mail uid) ≡ true → Contains uids uid) → Contains (u ∷ uids) uid
    by_name true same others = (0, omega arith, one_uid u uid (same_is (name.Mail u) (name.Mail uid) same))
    by_name false away others = Contains-append_right (u ∷ []) uids uid (others (rw away at has))

pub put_stays : StaysAtPut
put_stays uid other text old new apart put =
    ⊎_elim (λ same. ap (λ (f : Folder). f (name.Mail uid)) same)
    (λ there. ap (λ (f : Folder). f (name.Mail uid)) there ∙ with_else old (name.Mail other) (Some text) (name.Mail uid) (λ e. apart (one_uid uid other e))) put

pub sweep_stays : StaysAtSweep
sweep_stays uid uids old new lacks some =
    ap (λ (f : Folder). f (name.Mail uid)) some.1 ∙ ap (λ (b : Bool). cond b None (old (name.Mail uid))) (by_name (has_name (mail_names (take some.0 uids)) (name.Mail uid)) refl)
  where
    by_name : (b : Bool) → has_name (mail_names (take some.0 uids)) (name.Mail uid) ≡ b → b ≡ false
    by_name true has = absurd (lacks (named_uid uids uid (first_named some.0 uids (name.Mail uid) has)))
    by_name false none = refl

module _ {S : Type 0} (sees : SeesFolder S) where
  pub removed : {T E : Type 0} (old new : S) (n : Name) (result : Result T E) → ((c : Folder) → sees.left_since old (sees.moment old) c → sees.may_leave old c)
      → OnOk result (sees.files new ≡ with_file (sees.files old) n None) → OnErr result (ChangesOnly n (IsEither None) (sees.files old) (sees.files new))
      → OnOk result ((c : Folder) → sees.may_leave new c → c n ≡ None) → Follows (ChangesOnly n (IsEither None)) (sees.may_leave old) (sees.may_leave new)
      → Elapses (sees.moment old) (sees.moment new) (sees.left_since old) (sees.left_since new) (sees.may_leave new) → Leaves sees (Removes n result) (IsRemoved n) old new
  removed {T = T} {E = E} old new n result now ok err durable follows time = record {
    seen = seen result ok err;
    crash = crash result durable;
    since = goes_on sees old old new _ (sees.may_leave new) (started sees old _ (λ c left. (c, now c left, inl refl))) time
        (λ c left.
        let from = follows c left in
        (from.0, from.1, either_removed from.0 c n from.2));
  }
    where
      seen : (r : Result T E) → OnOk r (sees.files new ≡ with_file (sees.files old) n None) → OnErr r (ChangesOnly n (IsEither None) (sees.files old) (sees.files new)) → Removes n r (sees.files old) (sees.files new)
      seen (Ok x) ok err = ok
      seen (Err e) ok err = either_removed (sees.files old) (sees.files new) n err

      crash : (r : Result T E) → OnOk r ((c : Folder) → sees.may_leave new c → c n ≡ None) → Follows (Removes n r) (sees.may_leave old) (sees.may_leave new)
      crash (Ok x) durable = λ c left.
          let from = follows c left in
          (from.0, from.1, with_file_is from.0 c n None (durable c left) from.2.others)
      crash (Err e) durable = λ c left.
          let from = follows c left in
          (from.0, from.1, either_removed from.0 c n from.2)

  -- ---- one removal behind the other

  module _ (uids : List ℕ) where
    abbrev Swept : List ℕ → S → S → Type 0
    Swept us old new = Leaves sees (IsSwept us) (IsSweeping uids) old new

    pub none_removed : (old : S) → ((c : Folder) → sees.left_since old (sees.moment old) c → sees.may_leave old c) → Swept [] old old
    none_removed old now = record {
      seen = none_swept (sees.files old);
      crash = λ c left. (c, left, none_swept c);
      since = started sees old _ (λ c left. (c, now c left, (0, none_swept c)));
    }

    module _ (i : ℕ) (old mid new : S) (less : i < length uids) where
      pub one_removed : Swept (take i uids) old mid → Leaves sees (λ e c. c ≡ with_file e (name.Mail (get_or uids i 0)) None) (IsRemoved (name.Mail (get_or uids i 0))) mid new → Swept (take (i + 1) uids) old new
      one_removed so_far one =
          leaves_both sees old mid new _ _ _ _ (IsSwept (take (i + 1) uids)) (IsSweeping uids) so_far one (λ d e c is gone. swept-further uids i d e c less is gone) (λ d c some. some) (λ d e c is step. sweeping_on uids i d e c less is step)

      pub one_failed : Swept (take i uids) old mid → Leaves sees (IsRemoved (name.Mail (get_or uids i 0))) (IsRemoved (name.Mail (get_or uids i 0))) mid new → Leaves sees (IsSweeping uids) (IsSweeping uids) old new
      one_failed so_far one =
          leaves_both sees old mid new _ _ _ _ (IsSweeping uids) (IsSweeping uids) so_far one (λ d e c is step. sweeping_on uids i d e c less is step) (λ d c some. some) (λ d e c is step. sweeping_on uids i d e c less is step)
