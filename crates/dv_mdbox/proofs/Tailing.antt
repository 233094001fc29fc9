-- Where the text of the next message goes.
use Rattle.std.proofs.Common.{◌≡◌, ⊎_elim, ℕ, ◌+◌, ◌<◌, max, List, [], ◌∷◌, ◌++◌, length, take, get_or, Option, Some, None, sym, ◌∙◌, ap, subst, arith}
use Rattle.std.specs.Prelude.{All, Contains, slice_get}
use Rattle.std.proofs.lemmas.Bool.{cases_lt}
use Rattle.std.proofs.lemmas.List.{take_more}
use Rattle.std.proofs.lemmas.List.Elements.{All-nil, All-push, Contains-append_left, Contains-push, Contains-push_cases}
use Rattle.std.proofs.lemmas.Option.{get_or_from_slice_get}
use Rattle.dv_model.specs.declared.types.Mailbox.{Mailbox}
use Rattle.dv_model.specs.declared.types.Row.{Row}
use Rattle.dv_shelf.specs.declared.shelf.Name.{Name}
use Rattle.dv_shelf.specs.declared.shelf.Name.TheVariants as name
use Rattle.dv_maps.specs.declared.place.Place.{Place}
use Rattle.dv_maps.specs.Maps.{row_place}
use Rattle.dv_mdbox.specs.declared.tails.Tail.{Tail}
use Rattle.dv_mdbox.specs.declared.tails.Target.{Target}
use Rattle.dv_mdbox.specs.Tails.{Extends, IsBefore, IsFreeFrom, IsHighest, IsTail, IsTailOf, larger, mail_number, number_behind, tail_file}

-- ---- the last text of the last file

one_tail : (a b : Tail) → Some a ≡ Some b → a ≡ b
one_tail a b e = cc

-- what is before a tail is before one that extends it
before_more : (old t : Tail) (place other : Place) → Extends (Some old) place t → IsBefore old other → IsBefore t other
before_more old t place other is before = record {
  highest = let one = before.highest in let two = is.old.0 in omega (arith, one, two);
  ends = λ same.
      let one = before.highest in
      let two = is.old.0 in
      let first : old.file ≡ t.file = omega (arith, one, two, same) in
      let second : other.file ≡ old.file = omega (arith, first, same) in
      let three = before.ends second in
      let four = is.old.1 first in
      omega (arith, three, four);
}

module _ (m : Mailbox) (row : Row) (rows : List Row) (t : Tail) where
  abbrev Before : Row → Type 0
  Before r = IsBefore t (row_place m r)

  extended : (old : Option Tail) → IsTailOf m rows old → Extends old (row_place m row) t → IsTail m (rows ++ row ∷ []) t
  extended None none is = record {
    each = All-push Before rows row (subst (All Before) (sym none) (All-nil Before)) is.new;
    reached = ⊎_elim (λ here. (row, Contains-push rows row, here.0, here.1)) (λ e. absurd cc) is.reached;
  }
  extended (Some old) was is = record {
    each = All-push Before rows row (λ j d inside. before_more old t (row_place m row) (row_place m (get_or rows j d)) is (was.each j d inside)) is.new;
    reached = ⊎_elim (λ here. (row, Contains-push rows row, here.0, here.1))
        (λ e.
        let same : old ≡ t = one_tail old t e in (
          was.reached.0,
          Contains-append_left rows (row ∷ []) was.reached.0 was.reached.1,
          was.reached.2 ∙ ap (λ (x : Tail). x.file) same,
          was.reached.3 ∙ ap (λ (x : Tail). x.end) same,
        )) is.reached;
  }

pub tail_more : (m : Mailbox) (k : ℕ) (row : Row) (old : Option Tail) (t : Tail) → k < length m.rows → slice_get m.rows k ≡ Some row → IsTailOf m (take k m.rows) old → Extends old (row_place m row) t → IsTailOf m (take (k + 1) m.rows) (Some t)
tail_more m k row old t less get was is =
    let one : take (k + 1) m.rows ≡ take k m.rows ++ row ∷ [] = take_more m.rows k row less ∙ ap (λ (r : Row). take k m.rows ++ r ∷ []) (get_or_from_slice_get m.rows k row row get) in
    subst (λ (rows : List Row). IsTail m rows t) (sym one) (extended m row (take k m.rows) t old was is)

-- ---- the highest number

number_is : (n : Name) (h : ℕ) → mail_number n ≡ Some h → n ≡ name.Mail h
number_is (name.Mail k) h is = ap name.Mail (one k h is)
  where
    one : (a b : ℕ) → Some a ≡ Some b → a ≡ b
    one a b e = cc
number_is name.Index h is = absurd cc
number_is name.Log h is = absurd cc
number_is name.Log2 h is = absurd cc
number_is name.Cache h is = absurd cc

module _ (names : List Name) (n : Name) where
  abbrev more : List Name
  more = names ++ n ∷ []

  -- a number more is that of an old name, or this one
  by_push : {P : Type 0} (k : ℕ) → Contains more (name.Mail k) → (Contains names (name.Mail k) → P) → (mail_number n ≡ Some k → P) → P
  by_push k has old new = ⊎_elim old (λ (e : n ≡ name.Mail k). new (ap mail_number e)) (Contains-push_cases names n (name.Mail k) has)

  here : (h : ℕ) → mail_number n ≡ Some h → Contains more (name.Mail h)
  here h is = subst (Contains more) (number_is n h is) (Contains-push names n)

  there : (h : ℕ) → Contains names (name.Mail h) → Contains more (name.Mail h)
  there h has = Contains-append_left names (n ∷ []) (name.Mail h) has

  one : (a b : ℕ) → mail_number n ≡ Some a → mail_number n ≡ Some b → a ≡ b
  one a b first second = found (sym first ∙ second)
    where
      found : Some a ≡ Some b → a ≡ b
      found e = cc

  not_one : {P : Type 0} (k : ℕ) → mail_number n ≡ None → mail_number n ≡ Some k → P
  not_one k none some = absurd (found (sym none ∙ some))
    where
      found : None ≡ Some k → ⊥
      found e = cc

  highest_push : (old number : Option ℕ) → mail_number n ≡ number → IsHighest names old → IsHighest more (larger old number)
  highest_push None None is was = λ k has. by_push k has (was k) (not_one k is)
  highest_push None (Some h) is was = (here h is, λ k has. by_push k has (λ old. absurd (was k old)) (λ new. let same = one k h new is in omega (arith, same)))
  highest_push (Some g) None is was = (there g was.0, λ k has. by_push k has (was.1 k) (not_one k is))
  highest_push (Some g) (Some h) is was = (
    ⊎_elim (λ less. let same : max g h ≡ h = omega (arith, less) in subst (λ (k : ℕ). Contains more (name.Mail k)) (sym same) (here h is))
        (λ least. let same : max g h ≡ g = omega (arith, least) in subst (λ (k : ℕ). Contains more (name.Mail k)) (sym same) (there g was.0)) (cases_lt g h),
    λ k has. by_push k has (λ old. let most = was.1 k old in omega (arith, most)) (λ new. let same = one k h new is in omega (arith, same)),
  )

pub highest_more : (names : List Name) (i : ℕ) (d : Name) (old new number : Option ℕ) → i < length names → number ≡ mail_number (get_or names i d) → new ≡ larger old number → IsHighest (take i names) old → IsHighest (take (i + 1) names) new
highest_more names i d old new number less is now was =
    subst (IsHighest (take (i + 1) names)) (sym now)
    (subst (λ (all : List Name). IsHighest all (larger old number)) (sym (take_more names i d less)) (highest_push (take i names) (get_or names i d) old number (sym is) was))

-- ---- no text stands there

pub free_behind : (m : Mailbox) (tail : Option Tail) (target : Target) → IsTailOf m m.rows tail → tail ≡ Some (record { file = target.file; end = target.offset }) → IsFreeFrom m target
free_behind m tail target is same =
    let last : IsTail m m.rows (record { file = target.file; end = target.offset }) = subst (IsTailOf m m.rows) same is in
    last.each

module _ (m : Mailbox) (file : ℕ) where
  above : (t : Tail) (highest : Option ℕ) → file ≡ number_behind (larger (Some t.file) highest) → t.file < file
  above t None is = omega (arith, is)
  above t (Some h) is = omega (arith, is)

  pub free_new : (tail : Option Tail) (highest : Option ℕ) → IsTailOf m m.rows tail → file ≡ number_behind (larger (tail_file tail) highest) → IsFreeFrom m (record { file = file; offset = 0 })
  free_new None highest none is =
      let Free : Row → Type 0 = λ row. IsBefore (record { file = file; end = 0 }) (row_place m row) in
      subst (All Free) (sym none) (All-nil Free)
  free_new (Some t) highest last is = λ k row inside.
      let least = (last.each k row inside).highest in
      let more = above t highest is in
      record { highest = omega (arith, least, more); ends = λ at. absurd (omega (arith, least, more, at)) }
