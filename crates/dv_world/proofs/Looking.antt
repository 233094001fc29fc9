-- Messages are found by their UIDs.
use Rattle.std.proofs.Common.{◌≡◌, ℕ, Bool, true, false, cond, List, map, replicate, nat_eq, Option, Some, None, refl, sym, ◌∙◌, ap}
use Rattle.std.specs.Prelude.{find, option_map, unwrap_or}
use Rattle.dv_model.specs.declared.types.Mailbox.{Mailbox}
use Rattle.dv_model.specs.Journals.{Mail, Held, Damaged}
use Rattle.dv_model.specs.Sessions.{has_uid, message_in}
use Rattle.dv_interleavings.specs.Worlds.{Stored, guid_of, mail_of}
use Rattle.dv_world.specs.Shapes.{held_in, stored_of}
use Rattle.dv_world.proofs.Lists.{find_map}

abbrev pub Kept : Type 0
Kept = ℕ × Option (List ℕ) × List ℕ

module _ (stored : List Kept) (uid : ℕ) where
  is_found : find (λ (s : Stored). nat_eq s.uid uid) (map stored_of stored) ≡ option_map stored_of (find (λ (s : Kept). nat_eq s.0 uid) stored)
  is_found = find_map stored_of (λ (s : Stored). nat_eq s.uid uid) stored

  pub held_some : (s : Kept) → find (λ (s : Kept). nat_eq s.0 uid) stored ≡ Some s → held_in (mail_of (map stored_of stored) uid) ≡ s.1
  held_some s e = by_message s.1 refl (is_found ∙ ap (option_map stored_of) e)
    where
      by_message : (o : Option (List ℕ)) → s.1 ≡ o → find (λ (s : Stored). nat_eq s.uid uid) (map stored_of stored) ≡ Some (stored_of s) → held_in (mail_of (map stored_of stored) uid) ≡ s.1
      by_message None is found = rw (found, is) refl
      by_message (Some message) is found = rw (found, is) refl

  pub held_none : find (λ (s : Kept). nat_eq s.0 uid) stored ≡ None → held_in (mail_of (map stored_of stored) uid) ≡ None
  held_none e = let found : find (λ (s : Stored). nat_eq s.uid uid) (map stored_of stored) ≡ None = is_found ∙ ap (option_map stored_of) e in rw found refl

  pub guid_some : (s : Kept) → find (λ (s : Kept). nat_eq s.0 uid) stored ≡ Some s → guid_of (map stored_of stored) uid ≡ s.2
  guid_some s e = ap (λ (o : Option Stored). unwrap_or (option_map (λ (s : Stored). s.guid) o) (replicate 16 0)) (is_found ∙ ap (option_map stored_of) e)

  pub guid_none : find (λ (s : Kept). nat_eq s.0 uid) stored ≡ None → guid_of (map stored_of stored) uid ≡ replicate 16 0
  guid_none e = ap (λ (o : Option Stored). unwrap_or (option_map (λ (s : Stored). s.guid) o) (replicate 16 0)) (is_found ∙ ap (option_map stored_of) e)

-- where the mailbox has the row
pub message_in_is : (mail : ℕ → Mail) (m : Mailbox) (uid : ℕ) → message_in mail m uid ≡ cond (has_uid m uid) (held_in (mail uid)) None
message_in_is mail m uid = by_mail (mail uid) refl
  where
    by_mail : (x : Mail) → mail uid ≡ x → message_in mail m uid ≡ cond (has_uid m uid) (held_in (mail uid)) None
    by_mail (Held message) is = rw is refl
    by_mail Damaged is = rw is refl
