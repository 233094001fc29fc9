-- Which UIDs of a listing have no row.
use Rattle.std.proofs.Common.{◌≡◌, ⊎_elim, ℕ, ◌<◌, ◌&&◌, not, Bool, true, false, cond, List, [], ◌∷◌, nat_eq, nat_lt, Option, Some, None, refl, sym, ◌∙◌, ap, subst, arith}
use Rattle.std.specs.Prelude.{Contains, is_none, is_some, position}
use Rattle.std.proofs.lemmas.Bool.{and_parts, ltb-true, not-true}
use Rattle.std.proofs.lemmas.Bool.Decides.{nat_tests}
use Rattle.std.proofs.lemmas.List.Elements.{Contains-append_cases, Contains-append_left, Contains-append_right, Contains-push, Contains-push_cases}
use Rattle.std.proofs.lemmas.List.Folds.{list_any_at, list_any_none}
use Rattle.std.proofs.lemmas.List.Quantifiers.{position-Some}
use Rattle.dv_model.specs.declared.types.Mailbox.{Mailbox}
use Rattle.dv_model.specs.declared.types.Row.{Row}
use Rattle.dv_model.specs.Sessions.{has_uid}
use Rattle.dv_shelf.specs.declared.shelf.Name.{Name}
use Rattle.dv_shelf.specs.declared.shelf.Name.TheVariants as name
use Rattle.dv_rows.proofs.PartChanges.{none_there}
use Rattle.dv_writing.specs.Removals.{IsUnlisted, is_gone, uid_in, uids_in}

-- ---- one UID

-- it has no place exactly where it has no row
pub free_place : (m : Mailbox) (uid : ℕ) (o : Option ℕ) → o ≡ position (λ row. nat_eq row.uid uid) m.rows → is_none o ≡ not (has_uid m uid)
free_place m uid None none =
    sym (ap not (list_any_none (λ row. nat_eq row.uid uid && true) m.rows (λ i d less. ap (λ b. b && true) (none_there uid m.rows (sym none) i d less))))
free_place m uid (Some at) found =
    let blank : Row = record { uid = 0; flags = 0; keywords = []; parts = []; modseq = 0 } in
    let some = position-Some (λ (row : Row). nat_eq row.uid uid) m.rows at blank (sym found) in
    sym (ap not (list_any_at (λ row. nat_eq row.uid uid && true) m.rows at blank some.0 (ap (λ b. b && true) some.1)))

pub none_in : {X : Type 0} (x : X) → Contains [] x → ⊥
none_in x (k, less, at) = omega (arith, less)

pub one_in : {X : Type 0} (x y : X) → Contains (x ∷ []) y → x ≡ y
one_in x y has = ⊎_elim (λ none. absurd (none_in y none)) (λ same. same) (Contains-push_cases [] x y has)

gone_tells : (m : Mailbox) (uid : ℕ) → is_gone m uid ≡ true → (uid < m.next_uid) × (has_uid m uid ≡ false)
gone_tells m uid is =
    let both = and_parts (nat_lt uid m.next_uid) (not (has_uid m uid)) is in
    (ltb-true uid m.next_uid both.0, not-true (has_uid m uid) both.1)

gone_from : (m : Mailbox) (uid : ℕ) → uid < m.next_uid → has_uid m uid ≡ false → is_gone m uid ≡ true
gone_from m uid less free = rw free (by_test (nat_lt uid m.next_uid) (grind (arith, nat_tests)))
  where
    by_test : (b : Bool) → b ≡ true → (b && true) ≡ true
    by_test true is = refl
    by_test false is = is

-- ---- those of a listing

module _ (m : Mailbox) where
  piece_from : (n : Name) (uid : ℕ) → Contains (uid_in m n) uid → IsUnlisted m (n ∷ []) uid
  piece_from (name.Mail u) uid has = by_test (is_gone m u) refl has
    where
      by_test : (b : Bool) → is_gone m u ≡ b → Contains (cond b (u ∷ []) []) uid → IsUnlisted m (name.Mail u ∷ []) uid
      by_test true is there =
          let same : u ≡ uid = one_in u uid there in
          let tells = gone_tells m uid (ap (is_gone m) (sym same) ∙ is) in
          record { there = subst (λ (v : ℕ). Contains (name.Mail u ∷ []) (name.Mail v)) same (Contains-push [] (name.Mail u)); given = tells.0; free = tells.1 }
      by_test false is there = absurd (none_in uid there)
  piece_from other uid has = absurd (none_in uid has)

  first_is : (n : Name) (names : List Name) (uid : ℕ) → Contains (uid_in m n) uid → IsUnlisted m (n ∷ names) uid
  first_is n names uid there =
      let is = piece_from n uid there in
      record { there = Contains-append_left (n ∷ []) names (name.Mail uid) is.there; given = is.given; free = is.free }

  later_is : (n : Name) (names : List Name) (uid : ℕ) → IsUnlisted m names uid → IsUnlisted m (n ∷ names) uid
  later_is n names uid is = record { there = Contains-append_right (n ∷ []) names (name.Mail uid) is.there; given = is.given; free = is.free }

  pub uids_from : (names : List Name) (uid : ℕ) → Contains (uids_in m names) uid → IsUnlisted m names uid
  uids_from [] uid has = absurd (none_in uid has)
  uids_from (n ∷ names) uid has = ⊎_elim (first_is n names uid) (λ there. later_is n names uid (uids_from names uid there)) (Contains-append_cases (uid_in m n) (uids_in m names) uid has)

  piece_of : (n : Name) (uid : ℕ) → is_gone m uid ≡ true → n ≡ name.Mail uid → Contains (uid_in m n) uid
  piece_of n uid gone is =
      let piece : uid_in m n ≡ uid ∷ [] = ap (uid_in m) is ∙ ap (λ (b : Bool). cond b (uid ∷ []) []) gone in
      subst (λ (l : List ℕ). Contains l uid) (sym piece) (Contains-push [] uid)

  there_in : (names : List Name) (uid : ℕ) → is_gone m uid ≡ true → Contains names (name.Mail uid) → Contains (uids_in m names) uid
  there_in [] uid gone has = absurd (none_in (name.Mail uid) has)
  there_in (n ∷ names) uid gone has =
      ⊎_elim (λ here. Contains-append_left (uid_in m n) (uids_in m names) uid (piece_of n uid gone (one_in n (name.Mail uid) here))) (λ later. Contains-append_right (uid_in m n) (uids_in m names) uid (there_in names uid gone later))
      (Contains-append_cases (n ∷ []) names (name.Mail uid) has)

  pub uids_to : (names : List Name) (uid : ℕ) → IsUnlisted m names uid → Contains (uids_in m names) uid
  uids_to names uid is = there_in names uid (gone_from m uid is.given is.free) is.there

-- ---- the test

less_true : (a b : ℕ) → a < b → nat_lt a b ≡ true
less_true a b less = grind (arith, nat_tests)

none_is : {X : Type 0} (o : Option X) (free : Bool) → is_some o ≡ not free → free ≡ is_none o
none_is None true is = refl
none_is None false is = absurd cc
none_is (Some x) true is = absurd cc
none_is (Some x) false is = refl

pub gone_below : (m : Mailbox) (uid next : ℕ) (o : Option ℕ) (free : Bool) → o ≡ position (λ row. nat_eq row.uid uid) m.rows → is_some o ≡ not free → next ≡ m.next_uid → uid < next → free ≡ is_gone m uid
gone_below m uid next o free place is same less =
    let low : nat_lt uid m.next_uid ≡ true = less_true uid m.next_uid (omega (arith, less, same)) in
    none_is o free is ∙ free_place m uid o place ∙ ap (λ (b : Bool). b && not (has_uid m uid)) (sym low)
