-- What is known of a message for a key is known for the keys inside it.
use Rattle.std.proofs.Common.{◌≡◌, ℕ, ◌<◌, Bool, true, false, ◌||◌, List, [], ◌∷◌, length, get_or, map, Option, Some, None, refl, sym, ap, ◌∙◌}
use Rattle.std.proofs.lemmas.Bool.{or_right}
use Rattle.std.specs.Prelude.{bytes_eq}
use Rattle.std.specs.List.{list_any}
use Rattle.std.proofs.lemmas.List.Folds.{list_any_at}
use Rattle.dv_model.specs.declared.types.Key.{Key, fold-roll-Key}
use Rattle.dv_model.specs.declared.types.Key.TheOpen.{Key-F}
use Rattle.dv_model.specs.declared.types.Key.TheVariants as key
use Rattle.dv_model.specs.declared.types.Key.TheVariants.{rolls-Uid, rolls-Header, rolls-Not, rolls-Or, rolls-And}
use Rattle.dv_model.specs.declared.types.Span.{Span}
use Rattle.dv_model.specs.Searches.{needs_mail}
use Rattle.dv_model.proofs.Searching.{needs_mail-Not, needs_mail-Or, needs_mail-And}
use Rattle.dv_search.specs.declared.facts.MailFacts.{MailFacts}
use Rattle.dv_search.specs.Facts.{AreFacts, AreKnown, asks, asks_step}

-- ---- tests of the keys of a list

-- a test of what is made of the items
pub any_of_made : {X Y : Type 0} (p : Y → Bool) (f : X → Y) (xs : List X) → list_any p (map f xs) ≡ list_any (λ x. p (f x)) xs
any_of_made p f [] = refl
any_of_made p f (x ∷ xs) = ap (λ b. p (f x) || b) (any_of_made p f xs)

-- one of them passes
pub one_of : {X : Type 0} (p : X → Bool) (xs : List X) (i : ℕ) (d : X) → i < length xs → p (get_or xs i d) ≡ true → list_any (λ b. b) (map p xs) ≡ true
one_of p xs i d less passes = any_of_made (λ b. b) p xs ∙ list_any_at p xs i d less passes

-- ---- what keys ask

pub asks-Header : (asked text name : List ℕ) → asks (key.Header asked text) name ≡ bytes_eq asked name
asks-Header asked text name = ap (λ (k : Key). asks k name) (sym (rolls-Header asked text)) ∙ ap (λ (f : List ℕ → Bool). f name) (fold-roll-Key (List ℕ → Bool) asks_step (Key-F.Header asked text))

pub asks-Uid : (set : List Span) (name : List ℕ) → asks (key.Uid set) name ≡ false
asks-Uid set name = ap (λ (k : Key). asks k name) (sym (rolls-Uid set)) ∙ ap (λ (f : List ℕ → Bool). f name) (fold-roll-Key (List ℕ → Bool) asks_step (Key-F.Uid set))

pub asks-Not : (inside : Key) (name : List ℕ) → asks (key.Not inside) name ≡ asks inside name
asks-Not inside name = ap (λ (k : Key). asks k name) (sym (rolls-Not inside)) ∙ ap (λ (f : List ℕ → Bool). f name) (fold-roll-Key (List ℕ → Bool) asks_step (Key-F.Not inside))

pub asks-Or : (one other : Key) (name : List ℕ) → asks (key.Or one other) name ≡ (asks one name || asks other name)
asks-Or one other name = ap (λ (k : Key). asks k name) (sym (rolls-Or one other)) ∙ ap (λ (f : List ℕ → Bool). f name) (fold-roll-Key (List ℕ → Bool) asks_step (Key-F.Or one other))

pub asks-And : (keys : List Key) (name : List ℕ) → asks (key.And keys) name ≡ list_any (λ asks. asks name) (map asks keys)
asks-And keys name = ap (λ (k : Key). asks k name) (sym (rolls-And keys)) ∙ ap (λ (f : List ℕ → Bool). f name) (fold-roll-Key (List ℕ → Bool) asks_step (Key-F.And keys))

-- a key that asks no more
pub facts_less : (outside inside : Key) → ((name : List ℕ) → asks inside name ≡ true → asks outside name ≡ true)
    → (message : Option (List ℕ)) (facts : Option MailFacts) → AreFacts outside message facts → AreFacts inside message facts
facts_less outside inside more None None are = tt
facts_less outside inside more (Some message) (Some facts) are = record { size = are.size; fields = λ name asked. are.fields name (more name asked) }
facts_less outside inside more None (Some facts) are = absurd are
facts_less outside inside more (Some message) None are = absurd are

module _ (message : Option (List ℕ)) (facts : Option MailFacts) where
  pub known_less : (outside inside : Key) → (needs_mail inside ≡ true → needs_mail outside ≡ true) → ((name : List ℕ) → asks inside name ≡ true → asks outside name ≡ true)
      → AreKnown outside message facts → AreKnown inside message facts
  known_less outside inside reads more known = λ needed. facts_less outside inside more message facts (known (reads needed))

  pub known-Not : (inside : Key) → AreKnown (key.Not inside) message facts → AreKnown inside message facts
  known-Not inside = known_less (key.Not inside) inside (λ reads. needs_mail-Not inside ∙ reads) (λ name asked. asks-Not inside name ∙ asked)

  pub known-first : (one other : Key) → AreKnown (key.Or one other) message facts → AreKnown one message facts
  known-first one other =
      known_less (key.Or one other) one (λ reads. needs_mail-Or one other ∙ ap (λ b. b || needs_mail other) reads) (λ name asked. asks-Or one other name ∙ ap (λ b. b || asks other name) asked)

  pub known-second : (one other : Key) → AreKnown (key.Or one other) message facts → AreKnown other message facts
  known-second one other =
      known_less (key.Or one other) other (λ reads. needs_mail-Or one other ∙ ap (λ b. needs_mail one || b) reads ∙ or_right (needs_mail one) true refl) (λ name asked. asks-Or one other name ∙ ap (λ b. asks one name || b) asked ∙ or_right (asks one name) true refl)

  pub known-each : (keys : List Key) (i : ℕ) (d : Key) → i < length keys → AreKnown (key.And keys) message facts → AreKnown (get_or keys i d) message facts
  known-each keys i d less =
      known_less (key.And keys) (get_or keys i d) (λ reads. needs_mail-And keys ∙ one_of needs_mail keys i d less reads) (λ name asked. asks-And keys name ∙ any_of_made (λ (asks : List ℕ → Bool). asks name) asks keys ∙ list_any_at (λ k. asks k name) keys i d less asked)
