-- What one call does to the ids of a storage.
use Rattle.std.proofs.Common.{◌≡◌, ℕ, ◌+◌, ◌-◌, ◌<◌, ◌≤◌, Bool, true, false, cond, List, [], ◌∷◌, Option, Some, None, nat_eq, refl, sym, ◌∙◌, ap, subst, arith}
use Rattle.std.specs.Prelude.{All, ◌&&◌, map}
use Rattle.std.specs.List.{list_any}
use Rattle.std.specs.Option.{option_and_then}
use Rattle.std.proofs.lemmas.Bool.{eqb-true, ne_eqb}
use Rattle.dv_maps.specs.Storages.{Item, Storage, copied, counted, dropped, saved}
use Rattle.dv_mdbox_lines.specs.declared.answers.Answer.{Answer}
use Rattle.dv_mdbox_lines.specs.declared.answers.Answer.TheVariants as answer
use Rattle.dv_mdbox_lines.specs.Scripts.{Call, Copy, Drop, Get, Purge, Save}
use Rattle.dv_mdbox_lines.specs.Playing.{AreBelow, MayAnswer, after_call, count_in, done_id, item_with, message_of, references, without}
use Rattle.dv_mdbox_lines.specs.Laws.{drops, is_done_with, makes}
use Rattle.dv_mdbox_lines.proofs.Items.{below_append, below_counted, below_filter, below_more, gone_item, kept_item, messages_counted, of_all, stays, others_counted, same_counted, with_last}

pub is_done : (told : Option Answer) (n : ℕ) → done_id told ≡ Some n → told ≡ Some (answer.Done n)
is_done None n e = absurd cc
is_done (Some (answer.Done id)) n e = ap (λ (r : Option ℕ). Some (answer.Done (id_in r))) e
  where
    id_in : Option ℕ → ℕ
    id_in None = id
    id_in (Some k) = k
is_done (Some (answer.Held message)) n e = absurd cc
is_done (Some (answer.Purged k)) n e = absurd cc
is_done (Some answer.Damaged) n e = absurd cc
is_done (Some answer.None) n e = absurd cc
is_done (Some answer.Full) n e = absurd cc
is_done (Some answer.Ids) n e = absurd cc
is_done (Some answer.Files) n e = absurd cc
is_done (Some (answer.TooLong bytes)) n e = absurd cc
is_done (Some (answer.Disk faults)) n e = absurd cc

abbrev pub once : Bool → ℕ
once t = cond t 1 0

-- an id that isn't given yet
above : (id : ℕ) (xs : List Item) → AreBelow id xs → item_with id xs ≡ None
above id [] below = refl
above id (x ∷ xs) below = rw (ne_eqb x.id id (λ same. omega (arith, same, below.0))) (above id xs below.1)

-- the message of an id that has references
abbrev Knows : Storage → ℕ → List ℕ → Type 0
Knows s id message = 1 ≤ references s id → message_of s id ≡ Some message

module _ (s : Storage) (id : ℕ) (given : AreBelow s.next s.items) where
  -- the ids stay below the next one, the count of one changes by what is done, and its message stays
  pub record Goes (after : Storage) (made dropped : Bool) : Type 0 where
    pub below : AreBelow after.next after.items
    pub next : s.next ≤ after.next
    pub counts : references after id + once dropped ≡ references s id + once made
    pub keeps : (message : List ℕ) → id < s.next → Knows s id message → Knows after id message

  stayed : Goes s false false
  stayed = record { below = given; next = omega arith; counts = refl; keeps = λ message old knows. knows }

  -- ---- a save

  abbrev new_item : List ℕ → Item
  new_item message = record { id = s.next; count = 1; message = Some message }

  save_item : (message : List ℕ) → item_with id (saved message s).items ≡ cond (nat_eq s.next id) (Some (new_item message)) (item_with id s.items)
  save_item message = with_last id s.items (new_item message) given

  save_goes : (message : List ℕ) → Goes (saved message s) (nat_eq s.next id) false
  save_goes message = record {
    below = below_append (s.next + 1) s.items (new_item message) (below_more s.next (s.next + 1) s.items (omega arith) given) (omega arith);
    next = omega arith;
    counts = by_test (nat_eq s.next id) refl;
    keeps = λ known old knows.
        let other : nat_eq s.next id ≡ false = ne_eqb s.next id (λ same. omega (arith, old, same)) in
        let same : item_with id (saved message s).items ≡ item_with id s.items = save_item message ∙ ap (λ t. cond t (Some (new_item message)) (item_with id s.items)) other in
        subst (λ found. 1 ≤ count_in found → option_and_then (λ (item : Item). item.message) found ≡ Some known) (sym same) knows;
  }
    where
      by_test : (t : Bool) → nat_eq s.next id ≡ t → references (saved message s) id + once false ≡ references s id + once t
      by_test true is =
          let none : item_with id s.items ≡ None = ap (λ k. item_with k s.items) (sym (eqb-true s.next id is)) ∙ above s.next s.items given in
          let now : references (saved message s) id ≡ 1 = ap count_in (save_item message ∙ ap (λ t. cond t (Some (new_item message)) (item_with id s.items)) is) in
          omega (arith, now, ap count_in none)
      by_test false is = omega (arith, ap count_in (save_item message ∙ ap (λ t. cond t (Some (new_item message)) (item_with id s.items)) is))

  -- ---- a count

  module _ (n : ℕ) (change : ℕ → ℕ) (after : Storage) (next : after.next ≡ s.next) (items : after.items ≡ map (counted n change) s.items) where
    count_same : nat_eq n id ≡ false → references after id ≡ references s id
    count_same other = ap (λ xs. count_in (item_with id xs)) items ∙ ap count_in (others_counted n id change s.items other)

    count_new : nat_eq n id ≡ true → 1 ≤ references s n → references after id ≡ change (references s id)
    count_new same some =
        let here : n ≡ id = eqb-true n id same in
        subst (λ k. references after k ≡ change (references s k)) here (ap (λ xs. count_in (item_with n xs)) items ∙ same_counted n change s.items some)

    count_message : message_of after id ≡ message_of s id
    count_message = ap (λ xs. option_and_then (λ (item : Item). item.message) (item_with id xs)) items ∙ messages_counted n id change s.items

    count_below : AreBelow after.next after.items
    count_below = subst (λ k. AreBelow k after.items) (sym next) (subst (AreBelow s.next) (sym items) (below_counted s.next n change s.items given))

    count_keeps : 1 ≤ references s n → (message : List ℕ) → Knows s id message → Knows after id message
    count_keeps some message knows now = count_message ∙ by_test (nat_eq n id) refl
      where
        by_test : (t : Bool) → nat_eq n id ≡ t → message_of s id ≡ Some message
        by_test true is = knows (subst (λ k. 1 ≤ references s k) (eqb-true n id is) some)
        by_test false is = knows (omega (arith, now, count_same is))

  copy_goes : (n : ℕ) → 1 ≤ references s n → Goes (copied n s) (nat_eq n id) false
  copy_goes n some = record {
    below = count_below n (λ k. k + 1) (copied n s) refl refl;
    next = omega arith;
    counts = by_test (nat_eq n id) refl;
    keeps = λ message old knows. count_keeps n (λ k. k + 1) (copied n s) refl refl some message knows;
  }
    where
      by_test : (t : Bool) → nat_eq n id ≡ t → references (copied n s) id + once false ≡ references s id + once t
      by_test true is = omega (arith, count_new n (λ k. k + 1) (copied n s) refl refl is some)
      by_test false is = omega (arith, count_same n (λ k. k + 1) (copied n s) refl refl is)

  drop_goes : (n : ℕ) → 1 ≤ references s n → Goes (dropped n s) false (nat_eq n id)
  drop_goes n some = record {
    below = count_below n (λ k. k - 1) (dropped n s) refl refl;
    next = omega arith;
    counts = by_test (nat_eq n id) refl;
    keeps = λ message old knows. count_keeps n (λ k. k - 1) (dropped n s) refl refl some message knows;
  }
    where
      by_test : (t : Bool) → nat_eq n id ≡ t → references (dropped n s) id + once t ≡ references s id + once false
      by_test true is = omega (arith, count_new n (λ k. k - 1) (dropped n s) refl refl is some, subst (λ k. 1 ≤ references s k) (eqb-true n id is) some)
      by_test false is = omega (arith, count_same n (λ k. k - 1) (dropped n s) refl refl is)

  -- ---- a purge

  purge_count : (gone : List ℕ) → All (λ k. references s k ≡ 0) gone → references (without gone s) id ≡ references s id
  purge_count gone none = by_test (list_any (nat_eq id) gone) refl
    where
      by_test : (t : Bool) → list_any (nat_eq id) gone ≡ t → references (without gone s) id ≡ references s id
      by_test true is = ap count_in (gone_item id gone s.items is) ∙ sym (of_all (λ k. references s k ≡ 0) id gone none is)
      by_test false is = ap count_in (kept_item id gone s.items is)

  purge_goes : (gone : List ℕ) → All (λ k. references s k ≡ 0) gone → Goes (without gone s) false false
  purge_goes gone none = record {
    below = below_filter s.next (stays gone) s.items given;
    next = omega arith;
    counts = omega (arith, purge_count gone none);
    keeps = λ message old knows now. by_test message (list_any (nat_eq id) gone) refl (knows (omega (arith, now, purge_count gone none))) now;
  }
    where
      by_test : (message : List ℕ) (t : Bool) → list_any (nat_eq id) gone ≡ t → message_of s id ≡ Some message → 1 ≤ references (without gone s) id → message_of (without gone s) id ≡ Some message
      by_test message true is known now = absurd (omega (arith, now, ap count_in (gone_item id gone s.items is)))
      by_test message false is known now = ap (λ found. option_and_then (λ (item : Item). item.message) found) (kept_item id gone s.items is) ∙ known

  -- ---- any call

  abbrev GoesBy : Call → Option Answer → List ℕ → Type 0
  GoesBy call told gone = Goes (after_call call told gone s) (makes call && is_done_with id (done_id told)) (drops call && is_done_with id (done_id told))

  save_so : (message : List ℕ) (told : Option Answer) (gone : List ℕ) (r : Option ℕ) → done_id told ≡ r → MayAnswer s (Save message) gone told → GoesBy (Save message) told gone
  save_so message told gone None is may = rw is stayed
  save_so message told gone (Some n) is may =
      let here = subst (MayAnswer s (Save message) gone) (is_done told n is) may in
      rw is (subst (λ k. Goes (saved message s) (nat_eq k id) false) (sym here.1) (save_goes message))

  copy_so : (n : ℕ) (told : Option Answer) (gone : List ℕ) (r : Option ℕ) → done_id told ≡ r → MayAnswer s (Copy n) gone told → GoesBy (Copy n) told gone
  copy_so n told gone None is may = rw is stayed
  copy_so n told gone (Some k) is may =
      let here = subst (MayAnswer s (Copy n) gone) (is_done told k is) may in
      rw is (subst (λ j. Goes (copied n s) (nat_eq j id) false) (sym here.1) (copy_goes n here.0.0))

  drop_so : (n : ℕ) (told : Option Answer) (gone : List ℕ) (r : Option ℕ) → done_id told ≡ r → MayAnswer s (Drop n) gone told → GoesBy (Drop n) told gone
  drop_so n told gone None is may = rw is stayed
  drop_so n told gone (Some k) is may =
      let here = subst (MayAnswer s (Drop n) gone) (is_done told k is) may in
      rw is (subst (λ j. Goes (dropped n s) false (nat_eq j id)) (sym here.1) (drop_goes n here.0.0))

  get_so : (n : ℕ) (told : Option Answer) (gone : List ℕ) (r : Option ℕ) → done_id told ≡ r → GoesBy (Get n) told gone
  get_so n told gone None is = rw is stayed
  get_so n told gone (Some k) is = rw is stayed

  pub goes : (call : Call) (told : Option Answer) (gone : List ℕ) → MayAnswer s call gone told → All (λ k. references s k ≡ 0) gone → GoesBy call told gone
  goes (Save message) told gone may none = save_so message told gone (done_id told) refl may
  goes (Copy n) told gone may none = copy_so n told gone (done_id told) refl may
  goes (Drop n) told gone may none = drop_so n told gone (done_id told) refl may
  goes (Get n) told gone may none = get_so n told gone (done_id told) refl
  goes Purge told gone may none = purge_goes gone none
