-- What is looked up for a command is of the log's messages.
use Rattle.std.proofs.Common.{◌≡◌, ℕ, Bool, true, false, List, Result, Ok, Err, refl, sym, ◌∙◌}
use Rattle.std.specs.Prelude.{OnOk}
use Rattle.dv_model.specs.declared.types.Command.{Command}
use Rattle.dv_model.specs.declared.types.Command.TheVariants as command
use Rattle.dv_model.specs.declared.types.Mailbox.{Mailbox}
use Rattle.dv_model.specs.Journals.{Log, Mail}
use Rattle.dv_model.specs.Sessions.{State as SessionState, is_write, reads_mail}
use Rattle.dv_shelf.specs.Folders.{Folder}
use Rattle.dv_shelf.specs.Sees.{SeesFolder}
use Rattle.dv_shelf.proofs.Moments.{started}
use Rattle.dv_writing.specs.Debts.{Debt}
use Rattle.dv_lookups.specs.Founds.{AreMessages}
use Rattle.dv_responses.specs.Supplied.{AreSupplied}
use Rattle.dv_search.specs.declared.facts.MailFacts.{MailFacts}
use Rattle.dv_store.specs.Rest.{IsAtRest, OnlyReads, RestKnows}
use Rattle.dv_store.specs.States.{State}
use Rattle.dv_store.proofs.Known.{rest_knows}

-- a write reads no message
pub writes_unread : (c : Command) → is_write c ≡ true → reads_mail c ≡ false
writes_unread (command.Fetch by_uid set items) write = absurd cc
writes_unread (command.Search by_uid key) write = absurd cc
writes_unread c write = refl

pub unread_supplied : (mail : ℕ → Mail) (c : Command) (x : SessionState) (m : Mailbox) (facts : List MailFacts) → reads_mail c ≡ false → AreSupplied mail c x.view m facts
unread_supplied mail c x m facts unread = λ reads. let no : ◌≡◌ {A = Bool} true false = sym reads ∙ unread in absurd cc

module _ {S C : Type 0} (sees : SeesFolder S) where
  module _ (log : Log) (debt : Debt) (store : State S C) (there : sees.may_leave store.shelf (sees.files store.shelf)) (rest : IsAtRest sees log debt store) where
    pub known_here : RestKnows (sees.files store.shelf) log store
    known_here = rest_knows sees log debt store there rest

    pub messages_known : AreMessages (sees.files store.shelf) store.chain.live.mailbox log.mail
    messages_known row within = ((rest.stands.keeps (sees.files store.shelf) there).messages row within).held

  -- nothing was read
  pub reads_nothing : (store : State S C) → ((c : Folder) → sees.left_since store.shelf (sees.moment store.shelf) c → sees.may_leave store.shelf c) → OnlyReads sees store store
  reads_nothing store now = record {
    looks = record { same = refl; crash = λ c left. left; since = started sees store.shelf (sees.may_leave store.shelf) now };
    file = λ is. is;
    rests = λ log debt rest. rest;
  }

-- what holds anyway holds behind Ok
pub on_ok : {A E : Type 0} (result : Result A E) (P : Type 0) → P → OnOk result P
on_ok (Ok x) P p = p
on_ok (Err e) P p = tt
