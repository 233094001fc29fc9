-- The end of the last file stays known.
use Rattle.std.proofs.Common.{◌≡◌, ℕ, List, [], ◌∷◌, map, Option, Some, None, Result, Ok, Err, refl, sym, ◌∙◌, ap, subst, arith}
use Rattle.std.specs.Prelude.{All, Contains, IsSomeAnd, OnErr, OnOk}
use Rattle.std.proofs.lemmas.List.Elements.{All-cons, All-contains, All-contains_itself, All-head, All-map, All-nil, All-push, All-tail, All-weaker, Contains-push}
use Rattle.dv_model.specs.declared.types.Mailbox.{Mailbox}
use Rattle.dv_model.specs.declared.types.Record.{Record}
use Rattle.dv_model.specs.Mailboxes.{IsValid}
use Rattle.dv_model.specs.Effects.{applied}
use Rattle.dv_maps.specs.declared.place.Place.{Place}
use Rattle.dv_maps.specs.Groups.{count_records, save_records}
use Rattle.dv_maps.specs.Laws.{IsMap, IsPlace, PlacesAre}
use Rattle.dv_maps.specs.Maps.{places_of, row_place}
use Rattle.dv_mdbox.specs.declared.tails.Tail.{Tail}
use Rattle.dv_mdbox.specs.Tails.{IsBefore, IsEndBehind, IsFreeFrom, IsTail, KeepsEnd, KeepsEndBehind, end_of}

-- ---- by the places alone

module _ {X Y : Type 0} (f : X → Y) where
  pub all_mapped : (P : Y → Type 0) (xs : List X) → All P (map f xs) → All (λ x. P (f x)) xs
  all_mapped P [] all = All-nil (λ x. P (f x))
  all_mapped P (x ∷ xs) all = All-cons (λ x. P (f x)) x xs (All-head P (f x) (map f xs) all) (all_mapped P xs (All-tail P (f x) (map f xs) all))

  pub mapped_contains : (xs : List X) (x : X) → Contains xs x → Contains (map f xs) (f x)
  mapped_contains xs x has = All-contains (λ x. Contains (map f xs) (f x)) xs x (all_mapped (Contains (map f xs)) xs (All-contains_itself (map f xs))) has

  abbrev pub IsOf : List X → Y → Type 0
  IsOf xs y = (x : X) × Contains xs x × (f x ≡ y)

  pub contains_mapped : (xs : List X) (y : Y) → Contains (map f xs) y → IsOf xs y
  contains_mapped xs y has =
      All-contains (IsOf xs) (map f xs) y (All-map (IsOf xs) f xs (All-weaker (Contains xs) (λ x. IsOf xs (f x)) (λ x own. (x, own, refl)) xs (All-contains_itself xs))) has

-- of texts at these places the last of the last file ends there
record EndsAt (places : List Place) (t : Tail) : Type 0 where
  each : All (IsBefore t) places
  reached : (place : Place) × Contains places place × (place.file ≡ t.file) × (end_of place ≡ t.end)

module _ (m : Mailbox) (t : Tail) where
  ends_from : IsTail m m.rows t → EndsAt (places_of m) t
  ends_from is =
      let row = is.reached in
      record { each = All-map (IsBefore t) (row_place m) m.rows is.each; reached = (row_place m row.0, mapped_contains (row_place m) m.rows row.0 row.1, row.2, row.3) }

  tail_from : EndsAt (places_of m) t → IsTail m m.rows t
  tail_from ends =
      let place = ends.reached in
      let row = contains_mapped (row_place m) m.rows place.0 place.1 in
      record {
        each = all_mapped (row_place m) (IsBefore t) m.rows ends.each;
        reached = (row.0, row.1, ap (λ (p : Place). p.file) row.2 ∙ place.2, ap end_of row.2 ∙ place.3);
      }

-- ---- behind a group

module _ (law : PlacesAre) (m : Mailbox) (valid : IsValid m) (records : List Record) where
  -- a copy or a drop
  pub end_counted : (id count : ℕ) → records ≡ count_records id count → (tail : Option Tail) → KeepsEnd m tail → KeepsEndBehind m records tail
  end_counted id count is None keeps = λ after gives. tt
  end_counted id count is (Some t) keeps = λ after gives.
      let made = law.counts m after id count keeps.0 valid (ap (applied m) (sym is) ∙ gives) in
      (made.0, tail_from after t (subst (λ (places : List Place). EndsAt places t) (sym made.1) (ends_from m t keeps.1)))

  -- what is before the place is before its end
  before_end : (place : Place) (t : Tail) → t.file ≡ place.file → t.end ≡ end_of place → (other : Place) → IsBefore (record { file = place.file; end = place.offset }) other → IsBefore t other
  before_end place t file end other before = record {
    highest = let one = before.highest in omega (arith, one, file);
    ends = λ same. let one = before.ends (same ∙ file) in omega (arith, one, end);
  }

  -- a save
  pub end_saved : (place : Place) → records ≡ save_records m.next_uid place → IsPlace place → IsFreeFrom m (record { file = place.file; offset = place.offset }) → (tail : Option Tail) → IsEndBehind m place tail → KeepsEndBehind m records tail
  end_saved place is small free None behind = λ after gives. tt
  end_saved place is small free (Some t) behind = λ after gives.
      let made = law.saves m after place behind.0 valid small (ap (applied m) (sym is) ∙ gives) in
      let file : t.file ≡ place.file = behind.1 in
      let end : t.end ≡ end_of place = behind.2 in
      let old : All (IsBefore t) (places_of m) = All-map (IsBefore t) (row_place m) m.rows (λ k row inside. before_end place t file end _ (free k row inside)) in
      let new : IsBefore t place = record { highest = omega (arith, file); ends = λ same. omega (arith, end) } in (
        made.0,
        tail_from after t
            (subst (λ (places : List Place). EndsAt places t) (sym made.1)
            (record { each = All-push (IsBefore t) (places_of m) place old new; reached = (place, Contains-push (places_of m) place, sym file, sym end) })),
      )

-- in a map it is known
pub end_known : (m after : Mailbox) (place : Place) (tail : Option Tail) → IsEndBehind m place tail → KeepsEnd after tail → IsMap m → IsSomeAnd tail (IsTail after after.rows)
end_known m after place None behind keeps is = absurd (behind is)
end_known m after place (Some t) behind keeps is = keeps.1

-- what stays either way stays
pub tail_stays : (old new tail : Option Tail) {T E : Type 0} (result : Result T E) → tail ≡ old → OnOk result (new ≡ tail) → OnErr result (new ≡ old) → new ≡ old
tail_stays old new tail (Ok x) same ok err = ok ∙ same
tail_stays old new tail (Err e) same ok err = err
