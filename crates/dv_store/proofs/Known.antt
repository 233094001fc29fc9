-- What a store at rest knows of its log's messages.
use Rattle.std.proofs.Common.{◌≡◌, ℕ, Bool, true, false, ◌&&◌, cond, Contains, Any, Some, None, nat_eq, refl, ap, subst}
use Rattle.std.proofs.lemmas.Bool.{and_parts, eqb-true}
use Rattle.std.proofs.lemmas.List.Folds.{Any-from_list_any}
use Rattle.dv_model.specs.declared.types.Mailbox.{Mailbox}
use Rattle.dv_model.specs.declared.types.Row.{Row}
use Rattle.dv_model.specs.Journals.{Log}
use Rattle.dv_model.specs.Sessions.{has_uid}
use Rattle.dv_shelf.specs.Folders.{Folder}
use Rattle.dv_openings.specs.TrueCaches.{HasTrueCache}
use Rattle.dv_files.specs.Reading.{mail_at}
use Rattle.dv_writing.specs.Debts.{Debt}
use Rattle.dv_writing.specs.Keeping.{Keeps}
use Rattle.dv_lookups.specs.Founds.{mail_of}
use Rattle.dv_store.specs.Rest.{IsAtRest, RestKnows, log_mail}
use Rattle.dv_store.specs.States.{State}
use Rattle.dv_shelf.specs.Sees.{SeesFolder}

-- a mailbox that has a UID has a row of it
row_of_uid : (m : Mailbox) (uid : ℕ) → has_uid m uid ≡ true → (row : Row) × Contains m.rows row × (row.uid ≡ uid)
row_of_uid m uid has = of_row (Any-from_list_any (λ row. nat_eq row.uid uid && true) m.rows has)
  where
    of_row : Any (λ row. (nat_eq row.uid uid && true) ≡ true) m.rows → (row : Row) × Contains m.rows row × (row.uid ≡ uid)
    of_row (k, row, h, at, same) = (row, (k, h, at), eqb-true row.uid uid (and_parts (nat_eq row.uid uid) true same).0)

messages_known : (log : Log) (m : Mailbox) (folder : Folder) → Keeps log m folder → (uid : ℕ) → mail_of folder m uid ≡ log_mail log m uid
messages_known log m folder keeps uid = by_test (has_uid m uid) refl
  where
    by_test : (b : Bool) → has_uid m uid ≡ b → cond b (Some (mail_at folder uid)) None ≡ cond b (Some (log.mail uid)) None
    by_test false lacks = refl
    by_test true has =
        let found = row_of_uid m uid has in
        ap Some (subst (λ (u : ℕ). mail_at folder u ≡ log.mail u) found.2 (keeps.messages found.0 found.1).held)

module _ {S C : Type 0} (sees : SeesFolder S) (log : Log) (debt : Debt) (store : State S C) where
  pub rest_knows : sees.may_leave store.shelf (sees.files store.shelf) → IsAtRest sees log debt store → RestKnows (sees.files store.shelf) log store
  rest_knows left rest =
      let keeps = rest.stands.keeps (sees.files store.shelf) left in
      record {
        knows = record {
          file = rest.cache;
          is_true = subst (λ (n : ℕ). HasTrueCache (sees.files store.shelf) n store.chain.live.mailbox) rest.stands.named keeps.cache;
        };
        messages = messages_known log store.chain.live.mailbox (sees.files store.shelf) keeps;
      }
