-- A row of the view is found by what is at hand of it.
use Rattle.std.proofs.Common.{◌≡◌, ℕ, ◌+◌, ◌<◌, Bool, List, length, get_or, Option, refl, sym, ap, subst, ◌∙◌, ◌^◌}
use Rattle.dv_model.specs.declared.types.Key.{Key}
use Rattle.dv_model.specs.declared.types.Mailbox.{Mailbox}
use Rattle.dv_model.specs.declared.types.Shown.{Shown}
use Rattle.dv_model.specs.Searches.{Candidate}
use Rattle.dv_model.specs.Sessions.{candidate}
use Rattle.dv_model.specs.Sets.{largest_uid}
use Rattle.dv_model.specs.Views.{View}
use Rattle.dv_view.specs.Orders.{IsOrdered}
use Rattle.dv_view.proofs.Moving.{rising_of_ordered}
use Rattle.dv_view.proofs.Rising.{few}
use Rattle.dv_view.specs.Tells.{names_at}
use Rattle.dv_search.specs.declared.facts.MailFacts.{MailFacts}
use Rattle.dv_search.specs.Facts.{AreAllKnown, AreKnown, facts_of, is_found}
use Rattle.dv_search.specs.Prepared.{IsPrepared}
use Rattle.dv_search.proofs.Ready.{found_prepared}

-- a row with what is at hand of it
abbrev pub at_hand : Shown → List (List ℕ) → ℕ → List ℕ → Candidate
at_hand s names largest text = record { uid = s.uid; flags = s.flags; keywords = names_at names s.keywords; largest_uid = largest; message = text }

-- the key that was made ready finds the row where the key does
pub found_by : (k made : Key) (view : View) (m : Mailbox) → IsPrepared (largest_uid view) k made → (s : Shown) (names : List (List ℕ)) → names ≡ m.keywords
    → (message : Option (List ℕ)) → is_found made (at_hand s names 0) message ≡ is_found k (candidate view m s) message
found_by k made view m ready s names same message =
    let star = largest_uid view in
    found_prepared star k made ready 0 (at_hand s names star) (λ text. refl) message
    ∙ ap (λ ns. is_found k (at_hand s ns star) message) same

module _ (k : Key) (view : View) (m : Mailbox) (mail : List MailFacts) where
  -- the row is found
  abbrev pub finds : (ℕ → Option (List ℕ)) → ℕ × Shown → Bool
  finds message row = is_found k (candidate view m row.1) (message row.1.uid)

  pub step : (rows : List Shown) (i : ℕ) (s : Shown) (b : Bool) (o : Option MailFacts) → rows ≡ view.rows → i < length rows → s ≡ get_or rows i s → o ≡ facts_of mail s.uid
      → ((text : Option (List ℕ)) → AreKnown k text o → b ≡ is_found k (candidate view m s) text)
      → (message : ℕ → Option (List ℕ)) → AreAllKnown k message mail view.rows → finds message (i + 1, get_or rows i s) ≡ b
  step rows i s b o all less is facts tried message known =
      let here : AreKnown k (message (get_or rows i s).uid) (facts_of mail (get_or rows i s).uid) = subst (λ rows. AreAllKnown k message mail rows) (sym all) known i s less in
      let has : AreKnown k (message s.uid) o = subst (AreKnown k (message s.uid)) (sym facts) (subst (λ (x : Shown). AreKnown k (message x.uid) (facts_of mail x.uid)) (sym is) here) in
      ap (λ x. finds message (i + 1, x)) (sym is) ∙ sym (tried (message s.uid) has)

-- there are no more rows than numbers
pub few_rows : (view : View) → IsOrdered view → length view.rows < 2 ^ 32
few_rows view ordered = few view.rows (rising_of_ordered view ordered)
