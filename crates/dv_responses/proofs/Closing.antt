-- How the answer to a command ends.
use Rattle.std.proofs.Common.{◌≡◌, ℕ, Bool, true, false, cond, ◌&&◌, List, [], Option, Some, None, refl, sym, ◌∙◌, ap, subst}
use Rattle.std.specs.Prelude.{filter, is_none, min, option_map}
use Rattle.std.specs.List.{reduce}
use Rattle.std.proofs.lemmas.List.Elements.{All-weaker, recursion_from_All}
use Rattle.dv_model.specs.declared.types.Command.{Command}
use Rattle.dv_model.specs.declared.types.Command.TheVariants as command
use Rattle.dv_model.specs.declared.types.Mailbox.{Mailbox}
use Rattle.dv_model.specs.declared.types.Mark.{Mark}
use Rattle.dv_model.specs.declared.types.Reply.TheVariants as reply
use Rattle.dv_model.specs.Journals.{Mail, Held as HeldMail, Damaged}
use Rattle.dv_model.specs.Sessions.{appended_of, damaged_uid, ending_of, gone_uid, has_uid, is_damaged, message_in, modified_of, reads_mail, uids_looked_at, word_of}
use Rattle.dv_model.specs.Views.{View}
use Rattle.dv_model.proofs.Clients.{filter_same}
use Rattle.dv_search.specs.declared.facts.MailFacts.{MailFacts}
use Rattle.dv_search.specs.Facts.{facts_of}
use Rattle.dv_responses.specs.Damaged.{damaged_uids}
use Rattle.dv_responses.specs.Met.{met_of}
use Rattle.dv_responses.specs.Supplied.{AreSupplied, DescribesAsked, Supplies}

module _ (mail : ℕ → Mail) (c : Command) (view : View) (m : Mailbox) where
  module _ (facts : List MailFacts) where
    -- a row of the mailbox whose message has no facts is damaged
    unknown_is_damaged : (uid : ℕ) → Supplies (DescribesAsked c) (message_in mail m uid) (facts_of facts uid) → (has_uid m uid && is_damaged (mail uid)) ≡ (has_uid m uid && is_none (facts_of facts uid))
    unknown_is_damaged uid known = by_test (has_uid m uid) refl
      where
        by_facts : (o : Mail) → mail uid ≡ o → (f : Option MailFacts) → facts_of facts uid ≡ f → has_uid m uid ≡ true → (message : Option (List ℕ)) → message_in mail m uid ≡ message → Supplies (DescribesAsked c) message f → is_damaged o ≡ is_none f
        by_facts (HeldMail text) is None none has message same known = absurd (subst (λ (o : Option (List ℕ)). Supplies (DescribesAsked c) o None) (sym same ∙ held) known)
          where
            held : message_in mail m uid ≡ Some text
            held = rw (has, is) refl
        by_facts (HeldMail text) is (Some f) some has message same known = refl
        by_facts Damaged is None none has message same known = refl
        by_facts Damaged is (Some f) some has message same known = absurd (subst (λ (o : Option (List ℕ)). Supplies (DescribesAsked c) o (Some f)) (sym same ∙ lost) known)
          where
            lost : message_in mail m uid ≡ None
            lost = rw (has, is) refl

        by_test : (b : Bool) → has_uid m uid ≡ b → (b && is_damaged (mail uid)) ≡ (b && is_none (facts_of facts uid))
        by_test true has = by_facts (mail uid) refl (facts_of facts uid) refl has (message_in mail m uid) refl known
        by_test false has = refl

    -- so those are the damaged ones
    pub unknown_are_damaged : AreSupplied mail c view m facts → reads_mail c ≡ true → filter (λ uid. has_uid m uid && is_none (facts_of facts uid)) (uids_looked_at c view) ≡ damaged_uids mail c view m
    unknown_are_damaged supplied reads =
        let P : ℕ → Type 0 = λ uid. Supplies (DescribesAsked c) (message_in mail m uid) (facts_of facts uid) in
        let uids = uids_looked_at c view in
        sym (ap (λ b. cond b (filter (λ uid. has_uid m uid && is_damaged (mail uid)) uids) []) reads ∙ filter_same (λ uid. has_uid m uid && is_damaged (mail uid)) (λ uid. has_uid m uid && is_none (facts_of facts uid)) uids (recursion_from_All (λ uid. (has_uid m uid && is_damaged (mail uid)) ≡ (has_uid m uid && is_none (facts_of facts uid))) uids (All-weaker P (λ uid. (has_uid m uid && is_damaged (mail uid)) ≡ (has_uid m uid && is_none (facts_of facts uid))) unknown_is_damaged uids (supplied reads))))

  -- the smallest of them is the damaged one
  pub smallest_is : damaged_uid mail c view m ≡ reduce min (damaged_uids mail c view m)
  smallest_is = by_test (reads_mail c) refl
    where
      by_test : (b : Bool) → reads_mail c ≡ b → damaged_uid mail c view m ≡ reduce min (damaged_uids mail c view m)
      by_test true reads = rw reads refl
      by_test false reads = rw reads refl

  module _ (met : Mailbox) (mark : Mark) where
    pub ends_gone : (uid : ℕ) → gone_uid c view m ≡ Some uid → ending_of mail c view met m mark ≡ reply.Gone uid mark (modified_of c view met)
    ends_gone uid gone = rw gone refl

    pub ends_damaged : (uid : ℕ) → gone_uid c view m ≡ None → damaged_uid mail c view m ≡ Some uid → ending_of mail c view met m mark ≡ reply.Damaged uid mark
    ends_damaged uid none damaged = rw (none, damaged) refl

    pub ends_done : gone_uid c view m ≡ None → damaged_uid mail c view m ≡ None → ending_of mail c view met m mark ≡ reply.Done (word_of c) mark (appended_of c met m) (modified_of c view met)
    ends_done none whole = rw (none, whole) refl

-- the UID that an APPEND took
pub appended_is : (c : Command) (view : View) (met m : Mailbox) → option_map (λ uid. (m.uid_validity, uid)) (met_of c view met).appended ≡ appended_of c met m
appended_is command.Select view met m = refl
appended_is command.Noop view met m = refl
appended_is command.Check view met m = refl
appended_is command.Expunge view met m = refl
appended_is (command.Append flags keywords message) view met m = refl
appended_is (command.Fetch by_uid set items) view met m = refl
appended_is (command.Store by_uid set how flags keywords since) view met m = refl
appended_is (command.Search by_uid key) view met m = refl
appended_is (command.UidRemove set) view met m = refl
