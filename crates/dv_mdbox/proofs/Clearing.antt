-- What is left of the files and of the ids without references.
use Rattle.std.proofs.Common.{◌≡◌, ◌≢◌, ◌⊎◌, inl, inr, ⊎_elim, ℕ, ◌+◌, ◌^◌, ◌<◌, ◌≤◌, Bool, true, false, Contains, List, [], ◌∷◌, get_or, nat_eq, Option, Some, None, refl, sym, ◌∙◌, ap, subst, arith}
use Rattle.std.specs.Prelude.{◌&&◌, All, IsSome, filter, nat_lt}
use Rattle.std.proofs.lemmas.Bool.{eqb-false, eqb-true}
use Rattle.std.proofs.lemmas.List.{get_or_default}
use Rattle.std.proofs.lemmas.List.Elements.{filter_passes}
use Rattle.dv_model.specs.declared.types.Mailbox.{Mailbox}
use Rattle.dv_shelf.specs.declared.shelf.Name.TheVariants as name
use Rattle.dv_shelf.specs.Folders.{Folder}
use Rattle.dv_maps.specs.declared.mapped.Mapped.{Mapped}
use Rattle.dv_maps.specs.Purges.{all_mapped, is_kept, rewritten, size_of}
use Rattle.dv_maps.specs.Texts.{text_in}
use Rattle.dv_maps.proofs.Leaving.{Has, has_of, new_named, of_has, other_kept, row_stays, zero_left}
use Rattle.dv_mdbox.specs.Purging.{AllNamed, IsCleared, IsClearedTo, IsNamed, IsNextGone, IsPassedOver, IsTaken, IsTakenAway, NoneGoneFrom, kept_rows}
use Rattle.dv_mdbox.proofs.Rewritten.{named_below}

list_case : {X : Type 0} (xs : List X) → (xs ≡ []) ⊎ (xs ≡ [] → ⊥)
list_case [] = inl refl
list_case (x ∷ xs) = inr (λ e. cc)

none_some : (o : Option (List ℕ)) → o ≡ None → IsSome o → ⊥
none_some None none some = cc
none_some (Some x) none some = cc

pub cleared_none : (folder : Folder) (m : Mailbox) → AllNamed folder m → IsClearedTo 0 folder m
cleared_none folder m named = record { named = named; emptied = λ k r inside none. inl (omega arith) }

pub cleared_all : (to : ℕ) (folder : Folder) (m : Mailbox) → IsClearedTo to folder m → NoneGoneFrom m to → IsCleared folder m
cleared_all to folder m is none_from = record {
  named = is.named;
  emptied = λ k r inside none. ⊎_elim (λ over. absurd (let low = none_from k r inside none in omega (arith, over, low))) (λ passed. passed) (is.emptied k r inside none);
}

-- ---- a file is passed over

module _ (from file : ℕ) (m : Mailbox) (next : IsNextGone m from file) where
  pub passed_more : (old new : Folder) (after : Mailbox) → IsPassedOver old m file → after ≡ m → new ≡ old → IsClearedTo from old m → IsClearedTo (file + 1) new after
  passed_more old new after passed same still is =
      subst (λ (n : Mailbox). IsClearedTo (file + 1) new n) (sym same) (subst (λ (f : Folder). IsClearedTo (file + 1) f m) (sym still)
      (record {
        named = is.named;
        emptied = λ k d inside none.
            let r : Mapped = get_or (all_mapped m) k d in
            ⊎_elim
            (λ over.
            ⊎_elim (λ low. absurd (omega (arith, over, low))) (λ high. by_file r high (nat_eq r.place.file file) refl) (next.first k d inside none))
            (λ was. inr was) (is.emptied k d inside none);
      }))
    where
      by_file : (r : Mapped) → file ≤ r.place.file → (b : Bool) → nat_eq r.place.file file ≡ b → (file + 1 ≤ r.place.file) ⊎ IsPassedOver old m r.place.file
      by_file r high true test = inr (subst (IsPassedOver old m) (sym (eqb-true r.place.file file test)) passed)
      by_file r high false test = inl (let other = eqb-false r.place.file file test in omega (arith, high, other))

  -- ---- a file is rewritten

  module _ (old new : Folder) (after : Mailbox) (is : IsTakenAway file old new m after) where
    abbrev rs : List Mapped
    rs = all_mapped m

    abbrev number : ℕ
    number = is.number

    abbrev IsApart : ℕ → Type 0
    IsApart g = (g ≢ number) ⊎ (kept_rows m file ≡ [])

    apart_row : (r : Mapped) → Contains rs r → IsApart r.place.file
    apart_row r has = ⊎_elim (λ none. inr none) (λ above. inl (λ e. let low = named_below m number above r has in absurd (omega (arith, low, e)))) is.above

    same_kept : (g : ℕ) → g ≢ file → IsApart g → kept_rows after g ≡ kept_rows m g
    same_kept g away apart = ap (filter (is_kept g)) is.map.rows ∙ other_kept file number g rs 0 away apart

    in_file : (g : ℕ) (r : Mapped) → Contains (kept_rows m g) r → r.place.file ≡ g
    in_file g r (k, less, here) =
        let all = filter_passes (is_kept g) rs in
        let test : is_kept g r ≡ true = sym (ap (is_kept g) here) ∙ all k r less in
        first (nat_eq r.place.file g) (nat_lt 0 r.count) refl test
      where
        first : (a b : Bool) → nat_eq r.place.file g ≡ a → (a && b) ≡ true → r.place.file ≡ g
        first true b one both = eqb-true r.place.file g one
        first false b one both = absurd cc

    passed_on : (g : ℕ) → g ≢ file → IsApart g → IsPassedOver old m g → IsPassedOver new after g
    passed_on g away apart =
        ⊎_elim
        (λ damaged.
        let r : Mapped = damaged.0 in
        let there : r.place.file ≡ g = in_file g r damaged.1 in
        let still : new (name.Mail r.place.file) ≡ old (name.Mail r.place.file) = subst (λ (n : ℕ). new (name.Mail n) ≡ old (name.Mail n)) (sym there) (is.others g away apart) in
        inl (r, subst (λ (l : List Mapped). Contains l r) (sym (same_kept g away apart)) damaged.1, ap (λ (o : Option (List ℕ)). text_in o r.place) still ∙ damaged.2))
        (λ long. inr (subst (λ (n : ℕ). 2 ^ 32 ≤ n) (sym (ap size_of (same_kept g away apart))) long))

    abbrev Left : Mapped → Type 0
    Left r = ((from ≤ r.place.file) ⊎ IsPassedOver old m r.place.file) × ((r.place.file < from) ⊎ (file ≤ r.place.file)) × IsApart r.place.file

    left_goes : (r : Mapped) → r.place.file ≢ file → Left r → (file + 1 ≤ r.place.file) ⊎ IsPassedOver new after r.place.file
    left_goes r away left =
        ⊎_elim (λ over. ⊎_elim (λ low. absurd (omega (arith, over, low))) (λ high. inl (omega (arith, high, away))) left.1)
        (λ passed. inr (passed_on r.place.file away left.2 passed)) left.0

    names_on : AllNamed old m → AllNamed new after
    names_on named n there = by_file (nat_eq n file) refl
      where
        still_named : n ≢ file → IsApart n → IsNamed after n
        still_named away apart =
            let was = named n (subst (λ (o : Option (List ℕ)). IsSome o) (is.others n away apart) there) in
            let r : Mapped = was.0 in
            let other : r.place.file ≢ file = λ e. away (sym was.2 ∙ e) in
            let has : Has r (rewritten file number 0 rs) = row_stays file number r rs 0 other (has_of rs r was.1) in
            (r, of_has (all_mapped after) r (subst (Has r) (sym is.map.rows) has), was.2)

        by_number : n ≢ file → (kept_rows m file ≡ [] → ⊥) → (b : Bool) → nat_eq n number ≡ b → IsNamed after n
        by_number away some true test =
            let is_new = new_named file number rs 0 some in
            (is_new.0, of_has (all_mapped after) is_new.0 (subst (Has is_new.0) (sym is.map.rows) is_new.1), is_new.2 ∙ sym (eqb-true n number test))
        by_number away some false test = still_named away (inl (eqb-false n number test))

        by_file : (b : Bool) → nat_eq n file ≡ b → IsNamed after n
        by_file true test = absurd (none_some (new (name.Mail n)) (ap (λ (k : ℕ). new (name.Mail k)) (eqb-true n file test) ∙ is.gone) there)
        by_file false test =
            let away : n ≢ file = eqb-false n file test in
            ⊎_elim (λ none. still_named away (inr none)) (λ some. by_number away some (nat_eq n number) refl) (list_case (kept_rows m file))

    pub taken_more : IsClearedTo from old m → IsClearedTo (file + 1) new after
    taken_more was =
        let all : All (λ (r : Mapped). r.count ≡ 0 → Left r) rs = λ k d inside none.
        let r : Mapped = get_or rs k d in
        (was.emptied k d inside none, next.first k d inside none, apart_row r (k, inside, get_or_default rs k r d inside)) in
        let here = subst (All (λ (r : Mapped). r.count ≡ 0 → (r.place.file ≢ file) × Left r)) (sym is.map.rows) (zero_left file number Left rs 0 all) in
        record {
          named = names_on was.named;
          emptied = λ k d inside none.
              let both = here k d inside none in
              left_goes (get_or (all_mapped after) k d) both.0 both.1;
        }

pub cleared_more : (from file : ℕ) (m after : Mailbox) (old new : Folder) → IsNextGone m from file → IsTaken file old new m after → IsClearedTo from old m → IsClearedTo (file + 1) new after
cleared_more from file m after old new next taken was =
    ⊎_elim (λ passed. passed_more from file m next old new after passed.0 passed.1 passed.2 was) (λ away. taken_more from file m next old new after away.1 was) taken
