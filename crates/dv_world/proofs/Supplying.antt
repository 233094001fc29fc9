-- The facts of messages are gathered by rising UIDs.
use Rattle.std.proofs.Common.{◌≡◌, ◌⊎◌, inl, inr, ℕ, zero, suc, ◌+◌, ◌<◌, ◌≤◌, Bool, true, false, cond, List, [], ◌∷◌, ◌++◌, length, map, get_or, nat_eq, Option, Some, None, refl, sym, ◌∙◌, ap, subst, arith}
use Rattle.std.specs.Prelude.{All, filter, find, slice_get}
use Rattle.std.specs.List.{enumerate_from, list_any}
use Rattle.std.specs.Option.{option_or}
use Rattle.std.proofs.lemmas.Bool.Decides.{nat_tests}
use Rattle.std.proofs.lemmas.List.Elements.{All-head, All-tail}
use Rattle.std.proofs.lemmas.List.Folds.{find-append}
use Rattle.std.proofs.lemmas.Option.{same_Some, slice_get-get_or, slice_get_within}
use Rattle.dv_model.specs.declared.types.Command.{Command}
use Rattle.dv_model.specs.declared.types.Command.TheVariants as command
use Rattle.dv_model.specs.declared.types.Shown.{Shown}
use Rattle.dv_model.specs.Searches.{needs_mail}
use Rattle.dv_model.specs.Sessions.{looked_at, reads_message, uids_looked_at}
use Rattle.dv_model.specs.Sets.{is_in_set, largest_uid, named}
use Rattle.dv_model.specs.Views.{View}
use Rattle.dv_model.proofs.Clients.{Above, above_lower, above_of_rising}
use Rattle.dv_model.proofs.Speaking.{one_or_last}
use Rattle.dv_validity.proofs.Logs.{at_seam}
use Rattle.dv_responses.specs.Supplied.{Supplies}
use Rattle.dv_search.specs.Facts.{facts_of}
use Rattle.dv_search.specs.declared.facts.MailFacts.{MailFacts}
use Rattle.dv_view.specs.Orders.{IsOrdered}

-- ---- UIDs that rise

-- from this number on
abbrev pub Rises : ℕ → List ℕ → Type 0
Rises n [] = Unit {0}
Rises n (u ∷ us) = (n ≤ u) × Rises (u + 1) us

rises_lower : (k n : ℕ) (us : List ℕ) → k ≤ n → Rises n us → Rises k us
rises_lower k n [] le rises = tt
rises_lower k n (u ∷ us) le rises = (omega (arith, rises.0), rises.1)

pub rises_from : (n : ℕ) (us : List ℕ) (k u : ℕ) → Rises n us → slice_get us k ≡ Some u → n ≤ u
rises_from n [] k u rises is = absurd (omega (arith, slice_get_within {A = ℕ} [] k u is))
rises_from n (x ∷ us) zero u rises is = let same : x ≡ u = same_Some x u is in omega (arith, rises.0)
rises_from n (x ∷ us) (suc k) u rises is = let rest = rises_from (x + 1) us k u rises.1 is in omega (arith, rises.0)

pub rises_between : (n : ℕ) (us : List ℕ) (j k a b : ℕ) → Rises n us → j < k → slice_get us j ≡ Some a → slice_get us k ≡ Some b → a < b
rises_between n [] j k a b rises less is there = absurd (omega (arith, slice_get_within {A = ℕ} [] j a is))
rises_between n (x ∷ us) j zero a b rises less is there = absurd (omega (arith, less))
rises_between n (x ∷ us) zero (suc k) a b rises less is there =
    let same : x ≡ a = same_Some x a is in let rest = rises_from (x + 1) us k b rises.1 there in omega arith
rises_between n (x ∷ us) (suc j) (suc k) a b rises less is there = rises_between (x + 1) us j k a b rises.1 (omega (arith, less)) is there

-- those of the rows that pass a test
filtered_rise : (n k : ℕ) (rows : List Shown) (p : ℕ × Shown → Bool) → Above n rows → Rises n (map (λ row. row.1.uid) (filter p (enumerate_from k rows)))
filtered_rise n k [] p above = tt
filtered_rise n k (s ∷ rows) p above = by_test (p (k, s)) (filtered_rise (s.uid + 1) (k + 1) rows p above.1)
  where
    by_test : (b : Bool) → Rises (s.uid + 1) (map (λ row. row.1.uid) (filter p (enumerate_from (k + 1) rows)))
        → Rises n (map (λ (row : ℕ × Shown). row.1.uid) (cond b ((k, s) ∷ filter p (enumerate_from (k + 1) rows)) (filter p (enumerate_from (k + 1) rows))))
    by_test true rest = (above.0, rest)
    by_test false rest = rises_lower n (s.uid + 1) _ (omega (arith, above.0)) rest

all_rise : (n k : ℕ) (rows : List Shown) → Above n rows → Rises n (map (λ (row : ℕ × Shown). row.1.uid) (enumerate_from k rows))
all_rise n k [] above = tt
all_rise n k (s ∷ rows) above = (above.0, all_rise (s.uid + 1) (k + 1) rows above.1)

-- so do those that a command looks at
pub looked_rise : (c : Command) (view : View) → IsOrdered view → Rises 0 (uids_looked_at c view)
looked_rise (command.Fetch true set items) view ordered = by_test (list_any reads_message items)
  where
    by_test : (b : Bool) → Rises 0 (map (λ (row : ℕ × Shown). row.1.uid) (cond b (named true set view) []))
    by_test true = filtered_rise 0 1 view.rows (λ row. is_in_set (largest_uid view) set row.1.uid) (above_of_rising view.rows ordered.rising)
    by_test false = tt
looked_rise (command.Fetch false set items) view ordered = by_test (list_any reads_message items)
  where
    by_test : (b : Bool) → Rises 0 (map (λ (row : ℕ × Shown). row.1.uid) (cond b (named false set view) []))
    by_test true = filtered_rise 0 1 view.rows (λ row. is_in_set (length view.rows) set row.0) (above_of_rising view.rows ordered.rising)
    by_test false = tt
looked_rise (command.Store true set h flags keywords since) view ordered = filtered_rise 0 1 view.rows (λ row. is_in_set (largest_uid view) set row.1.uid) (above_of_rising view.rows ordered.rising)
looked_rise (command.Store false set h flags keywords since) view ordered = filtered_rise 0 1 view.rows (λ row. is_in_set (length view.rows) set row.0) (above_of_rising view.rows ordered.rising)
looked_rise (command.Search by_uid key) view ordered = by_test (needs_mail key)
  where
    by_test : (b : Bool) → Rises 0 (map (λ (row : ℕ × Shown). row.1.uid) (cond b (enumerate_from 1 view.rows) []))
    by_test true = all_rise 0 1 view.rows (above_of_rising view.rows ordered.rising)
    by_test false = tt
looked_rise c view ordered = tt

-- ---- facts that are gathered

facts_below : (mail : List MailFacts) (uid : ℕ) → All (λ f. f.uid < uid) mail → facts_of mail uid ≡ None
facts_below [] uid each = refl
facts_below (f ∷ mail) uid each =
    let less = All-head (λ (f : MailFacts). f.uid < uid) f mail each in
    let differs : nat_eq f.uid uid ≡ false = grind (arith, nat_tests, less) in
    ap (λ (b : Bool). cond b (Some f) (facts_of mail uid)) differs ∙ facts_below mail uid (All-tail (λ (f : MailFacts). f.uid < uid) f mail each)

module _ (describes : List ℕ → MailFacts → Type 0) (message : ℕ → Option (List ℕ)) (uids : List ℕ) where
  -- the facts of the first i of these messages
  pub record AreFirst (i : ℕ) (mail : List MailFacts) : Type 0 where
    pub supplied : (k uid : ℕ) → k < i → slice_get uids k ≡ Some uid → Supplies describes (message uid) (facts_of mail uid)
    pub only : (n : ℕ) (f : MailFacts) → slice_get mail n ≡ Some f → (k : ℕ) × (k < i) × (slice_get uids k ≡ Some f.uid)

  pub none_first : (mail : List MailFacts) → mail ≡ [] → AreFirst 0 mail
  none_first mail empty = record {
    supplied = λ k uid less there. absurd (omega arith);
    only = λ n f there. absurd (none_there n f (sym (ap (λ (xs : List MailFacts). slice_get xs n) empty) ∙ there));
  }
    where
      none_there : (n : ℕ) (f : MailFacts) → slice_get [] n ≡ Some f → ⊥
      none_there n f e = omega (arith, slice_get_within {A = MailFacts} [] n f e)

  module _ (rises : Rises 0 uids) (i : ℕ) (mail : List MailFacts) (first : AreFirst i mail) (uid : ℕ) (there : slice_get uids i ≡ Some uid) where
    pub all_below : All (λ f. f.uid < uid) mail
    all_below n d less =
        let place = first.only n (get_or mail n d) (slice_get-get_or mail n d less) in rises_between 0 uids place.0 i (get_or mail n d).uid uid rises place.1 place.2 there

    one_of_first : (k other : ℕ) → k < i + 1 → slice_get uids k ≡ Some other → (k < i) ⊎ (other ≡ uid)
    one_of_first k other less is = by_place (nat_eq k i) refl
      where
        by_place : (b : Bool) → nat_eq k i ≡ b → (k < i) ⊎ (other ≡ uid)
        by_place true same = let e : k ≡ i = grind (arith, nat_tests) in inr (same_Some other uid (sym is ∙ ap (slice_get uids) e ∙ there))
        by_place false differs = inl (grind (arith, nat_tests))

    further : (n : ℕ) (f : MailFacts) → slice_get mail n ≡ Some f → (k : ℕ) × (k < i + 1) × (slice_get uids k ≡ Some f.uid)
    further n f is = let place = first.only n f is in (place.0, omega (arith, place.1), place.2)

    pub one_without : message uid ≡ None → AreFirst (i + 1) mail
    one_without absent = record {
      supplied = λ k other less is. elim (one_of_first k other less is) [
        | inl before ↦ first.supplied k other before is
        | inr same ↦ subst (λ (u : ℕ). Supplies describes (message u) (facts_of mail u)) (sym same)
            (subst (λ (o : Option (List ℕ)). Supplies describes o (facts_of mail uid)) (sym absent) (subst (Supplies describes None) (sym (facts_below mail uid all_below)) tt))
      ];
      only = further;
    }

    module _ (text : List ℕ) (f : MailFacts) (is_text : message uid ≡ Some text) (named : f.uid ≡ uid) (describes_it : describes text f) where
      before_stays : (other : ℕ) → other < uid → facts_of (mail ++ f ∷ []) other ≡ facts_of mail other
      before_stays other less =
          let differs : nat_eq f.uid other ≡ false = grind (arith, nat_tests, less, named) in
          find-append (λ (g : MailFacts). nat_eq g.uid other) mail (f ∷ []) ∙ ap (λ (b : Bool). option_or (facts_of mail other) (cond b (Some f) None)) differs ∙ no_other (facts_of mail other)
        where
          no_other : (o : Option MailFacts) → option_or o None ≡ o
          no_other None = refl
          no_other (Some x) = refl

      last_is : facts_of (mail ++ f ∷ []) uid ≡ Some f
      last_is =
          let same : nat_eq f.uid uid ≡ true = grind (arith, nat_tests, named) in
          find-append (λ (g : MailFacts). nat_eq g.uid uid) mail (f ∷ [])
          ∙ ap (λ (b : Bool). option_or (facts_of mail uid) (cond b (Some f) None)) same ∙ ap (λ (o : Option MailFacts). option_or o (Some f)) (facts_below mail uid all_below)

      pub one_with : AreFirst (i + 1) (mail ++ f ∷ [])
      one_with = record {
        supplied = λ k other less is. elim (one_of_first k other less is) [
          | inl before ↦ subst (Supplies describes (message other)) (sym (before_stays other (rises_between 0 uids k i other uid rises before is there))) (first.supplied k other before is)
          | inr same ↦ subst (λ (u : ℕ). Supplies describes (message u) (facts_of (mail ++ f ∷ []) u)) (sym same)
              (subst (λ (o : Option (List ℕ)). Supplies describes o (facts_of (mail ++ f ∷ []) uid)) (sym is_text) (subst (Supplies describes (Some text)) (sym last_is) describes_it))
        ];
        only = λ n g is. elim (one_or_last mail f n g is) [
          | inl old ↦ further n g old
          | inr last ↦ (i, omega arith, there ∙ ap Some (sym (ap (λ (h : MailFacts). h.uid) (sym (last_one n g is last)) ∙ named)))
        ];
      }
        where
          last_one : (n : ℕ) (g : MailFacts) → slice_get (mail ++ f ∷ []) n ≡ Some g → n ≡ length mail → f ≡ g
          last_one n g is last = same_Some f g (sym (at_seam mail f) ∙ ap (slice_get (mail ++ f ∷ [])) (sym last) ∙ is)

  -- of all
  pub all_supplied : (mail : List MailFacts) → AreFirst (length uids) mail → All (λ uid. Supplies describes (message uid) (facts_of mail uid)) uids
  all_supplied mail first k d less = first.supplied k (get_or uids k d) less (slice_get-get_or uids k d less)
