-- What a search needs of messages is supplied, and what it finds is told.
use Rattle.std.proofs.Common.{◌≡◌, ℕ, ◌+◌, Bool, true, false, cond, List, [], ◌∷◌, length, get_or, map, Option, Some, None, refl, ◌∙◌, ap, subst, arith}
use Rattle.std.specs.Prelude.{All}
use Rattle.std.specs.List.{enumerate_from, filter}
use Rattle.std.proofs.lemmas.List.{get_or-map, length-map}
use Rattle.dv_model.specs.declared.types.Command.TheVariants as command
use Rattle.dv_model.specs.declared.types.Key.{Key}
use Rattle.dv_model.specs.declared.types.Mailbox.{Mailbox}
use Rattle.dv_model.specs.declared.types.Reply.TheVariants as reply
use Rattle.dv_model.specs.declared.types.Shown.{Shown}
use Rattle.dv_model.specs.Journals.{Mail}
use Rattle.dv_model.specs.Searches.{needs_mail}
use Rattle.dv_model.specs.Sessions.{candidate, data_of, is_found as found_in, message_in, number_of, uids_looked_at}
use Rattle.dv_model.specs.Views.{View}
use Rattle.dv_search.specs.declared.facts.MailFacts.{MailFacts}
use Rattle.dv_search.specs.Facts.{AreAllKnown, AreFacts, facts_of, found_rows, is_found}
use Rattle.dv_responses.specs.Supplied.{AreSupplied, DescribesAsked, Supplies}

numbered_uids : (k : ℕ) (rows : List Shown) → map (λ (row : ℕ × Shown). row.1.uid) (enumerate_from k rows) ≡ map (λ (s : Shown). s.uid) rows
numbered_uids k [] = refl
numbered_uids k (s ∷ rows) = ap (λ t. s.uid ∷ t) (numbered_uids (k + 1) rows)

-- a search that reads messages looks at all rows
pub all_looked_at : (by_uid : Bool) (key : Key) (view : View) → needs_mail key ≡ true → uids_looked_at (command.Search by_uid key) view ≡ map (λ (s : Shown). s.uid) view.rows
all_looked_at by_uid key view needed = ap (λ b. map (λ (row : ℕ × Shown). row.1.uid) (cond b (enumerate_from 1 view.rows) [])) needed ∙ numbered_uids 1 view.rows

module _ (mail : ℕ → Mail) (by_uid : Bool) (key : Key) (view : View) (m : Mailbox) (facts : List MailFacts) where
  facts_by : (o : Option (List ℕ)) (f : Option MailFacts) → Supplies (DescribesAsked (command.Search by_uid key)) o f → AreFacts key o f
  facts_by None None known = tt
  facts_by (Some message) (Some f) known = known
  facts_by None (Some f) known = absurd known
  facts_by (Some message) None known = absurd known

  pub supplied_known : AreSupplied mail (command.Search by_uid key) view m facts → AreAllKnown key (message_in mail m) facts view.rows
  supplied_known supplied = λ i d less needed.
      let all : All (λ uid. Supplies (DescribesAsked (command.Search by_uid key)) (message_in mail m uid) (facts_of facts uid)) (map (λ (s : Shown). s.uid) view.rows) = subst (All (λ uid. Supplies (DescribesAsked (command.Search by_uid key)) (message_in mail m uid) (facts_of facts uid))) (all_looked_at by_uid key view needed) (supplied needed) in
      let long : length (map (λ (s : Shown). s.uid) view.rows) ≡ length view.rows = length-map view.rows (λ (s : Shown). s.uid) in
      let here = subst (λ uid. Supplies (DescribesAsked (command.Search by_uid key)) (message_in mail m uid) (facts_of facts uid)) (get_or-map (λ (s : Shown). s.uid) view.rows i d 0 less) (all i 0 (omega (arith, long, less))) in
      facts_by (message_in mail m (get_or view.rows i d).uid) (facts_of facts (get_or view.rows i d).uid) here

  -- ---- what is told

  found_is : (s : Shown) → is_found key (candidate view m s) (message_in mail m s.uid) ≡ found_in mail view m key s
  found_is s = by_message (message_in mail m s.uid) refl (needs_mail key) refl
    where
      by_message : (o : Option (List ℕ)) → message_in mail m s.uid ≡ o → (b : Bool) → needs_mail key ≡ b → is_found key (candidate view m s) (message_in mail m s.uid) ≡ found_in mail view m key s
      by_message None is true needed = rw (needed, is) refl
      by_message (Some message) is true needed = rw (needed, is) refl
      by_message o is false not_needed = rw not_needed refl

  same_filter : (rows : List (ℕ × Shown)) → filter (λ row. is_found key (candidate view m row.1) (message_in mail m row.1.uid)) rows ≡ filter (λ row. found_in mail view m key row.1) rows
  same_filter [] = refl
  same_filter (row ∷ rows) =
      ap (λ b. cond b (row ∷ filter (λ row. is_found key (candidate view m row.1) (message_in mail m row.1.uid)) rows) (filter (λ row. is_found key (candidate view m row.1) (message_in mail m row.1.uid)) rows)) (found_is row.1) ∙ ap (λ t. cond (found_in mail view m key row.1) (row ∷ t) t) (same_filter rows)

  -- the rows that are found are told of
  pub told : reply.Search (map (number_of by_uid) (found_rows (message_in mail m) key view m)) ∷ [] ≡ data_of mail (command.Search by_uid key) view m
  told = ap (λ rows. reply.Search (map (number_of by_uid) rows) ∷ []) (same_filter (enumerate_from 1 view.rows))
