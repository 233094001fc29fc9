-- What a folder keeps with a write's group, where the files before it are written.
use Rattle.std.proofs.Common.{◌≡◌, ℕ, Bool, true, false, cond, List, [], Some, Result, Ok, Err, OnOk, eq-eqb, nat_eq, refl, sym, ◌∙◌, ap, subst, arith}
use Rattle.std.specs.Prelude.{Contains}
use Rattle.std.proofs.lemmas.Bool.{eqb-true}
use Rattle.std.proofs.lemmas.List.Elements.{All-contains}
use Rattle.dv_model.specs.declared.types.Command.{Command}
use Rattle.dv_model.specs.declared.types.Command.TheVariants as command
use Rattle.dv_model.specs.declared.types.Group.{Group}
use Rattle.dv_model.specs.declared.types.Mailbox.{Mailbox}
use Rattle.dv_model.specs.declared.types.Row.{Row}
use Rattle.dv_model.specs.Effects.{applied}
use Rattle.dv_model.specs.Journals.{Held, Log, new_guid}
use Rattle.dv_model.specs.Mailboxes.{IsRowOf, IsValid}
use Rattle.dv_model.specs.Sessions.{group_of}
use Rattle.dv_model.specs.Transcripts.{with_written}
use Rattle.dv_model.specs.Views.{View}
use Rattle.dv_shelf.specs.Folders.{Folder}
use Rattle.dv_files.specs.Writing.{HasMail, HoldsMail, IsFileOf}
use Rattle.dv_writing.specs.Keeping.{Keeps}
use Rattle.dv_writing.specs.Groups.{KeepsNext}
use Rattle.dv_writing.proofs.Keeping.{check_kept, group_kept}
use Rattle.dv_writing.specs.declared.steps.Files.{Files}
use Rattle.dv_writing.specs.declared.steps.Files.TheVariants as kind
use Rattle.dv_writing.specs.Steps.{HasFiles, HoldsFiles, MayRenew}
use Rattle.dv_writing.specs.Writes.{AreFilesOf, IsAfter, Write, log_with}
use Rattle.dv_shelf.specs.Sees.{SeesFolder}

-- ---- one folder

-- what a message file that was written gives in a folder, where no row has its UID
pub record GivesMail (m : Mailbox) (text : List ℕ) (folder : Folder) : Type 0 where
  pub valid : IsValid m
  pub has : (message guid : List ℕ) → IsFileOf message guid text → HasMail m.next_uid message guid folder

other_uid : (m : Mailbox) (row : Row) → IsValid m → Contains m.rows row → nat_eq row.uid m.next_uid ≡ false
other_uid m row valid here = by_test (nat_eq row.uid m.next_uid) refl
  where
    by_test : (b : Bool) → nat_eq row.uid m.next_uid ≡ b → b ≡ false
    by_test true same =
        let below = (All-contains (IsRowOf m) m.rows row valid.rows here).uid.1 in
        absurd (omega (arith, below, eqb-true row.uid m.next_uid same))
    by_test false other = refl

module _ (log : Log) (author received : ℕ) (view : View) (m after : Mailbox) (folder : Folder) (keeps : Keeps log m folder) where
  abbrev group : Command → Group
  group c = group_of c view m log.guid

  abbrev written : Command → Log
  written c = with_written log author c received (group c) m

  pub next_kept : (c : Command) (steps : Files) → ((text : List ℕ) → steps ≡ kind.Message text → GivesMail m text folder) → HoldsFiles m steps folder → applied m (group c).records ≡ Some after → AreFilesOf log received m c steps → Keeps (written c) after folder
  next_kept (command.Append flags keywords message) steps mail holds gives is =
      let there = mail is.text is.is in
      let has = there.has message (new_guid log.indexid m.uid_validity m.next_uid received) is.file in
      let at : nat_eq m.next_uid m.next_uid ≡ true = eq-eqb m.next_uid m.next_uid refl in
      group_kept log (written (command.Append flags keywords message)) m folder
      (record {
        named = refl;
        messages = λ row here. (
          ap (λ (b : Bool). cond b (Held message) (log.mail row.uid)) (other_uid m row there.valid here),
          ap (λ (b : Bool). cond b (new_guid log.indexid m.uid_validity m.next_uid received) (log.guid row.uid)) (other_uid m row there.valid here),
        );
      })
      keeps (command.Append flags keywords message) after (record { other = λ e. cc; view = view; guid = log.guid; gives = gives })
      (λ append. record {
        held = has.held ∙ sym (ap (λ (b : Bool). cond b (Held message) (log.mail m.next_uid)) at);
        named = has.named ∙ sym (ap (λ (b : Bool). cond b (new_guid log.indexid m.uid_validity m.next_uid received) (log.guid m.next_uid)) at);
      })
  next_kept command.Check steps mail holds gives is =
      let cache = is.renewal.cache in
      let there = subst (λ (s : Files). HoldsFiles m s folder) is.is holds in
      check_kept log (written command.Check) m folder (record { named = refl; messages = λ row here. (refl, refl) }) keeps after cache gives is.cache there.2
  next_kept c steps mail holds gives is =
      group_kept log (written c) m folder (record { named = refl; messages = λ row here. (refl, refl) }) keeps c after (record { other = λ e. cc; view = view; guid = log.guid; gives = gives }) (λ append. absurd cc)

-- ---- a shelf

pub may_renew : (log : Log) (received : ℕ) (m : Mailbox) (c : Command) (steps : Files) → AreFilesOf log received m c steps → MayRenew log m steps
may_renew log received m (command.Append flags keywords message) steps is = subst (MayRenew log m) (sym is.is) tt
may_renew log received m command.Check steps is = subst (MayRenew log m) (sym is.is) is.cache
may_renew log received m c steps is = subst (MayRenew log m) (sym is) tt

pub next_keeps : {S T E : Type 0} (sees : SeesFolder S) (log : Log) (write : Write) (m after : Mailbox) (steps : Files) (new : S) (result : Result T E)
    → ((text : List ℕ) → steps ≡ kind.Message text → OnOk result ((c : Folder) → sees.may_leave new c → GivesMail m text c)) → OnOk result (HasFiles sees m steps new) → ((c : Folder) → sees.may_leave new c → Keeps log m c)
    → IsAfter log write m after → AreFilesOf log write.received m write.command steps → OnOk result (KeepsNext sees log (log_with log write m) after new)
next_keeps sees log write m after steps new (Ok x) mail has keeps gives are = record {
  named = refl;
  keeps = λ c left. next_kept log write.author write.received write.view m after c (keeps c left) write.command steps (λ text is. mail text is c left) (has.crash c left) gives are;
}
next_keeps sees log write m after steps new (Err e) mail has keeps gives are = tt

abbrev text_in : Files → List ℕ
text_in (kind.Message text) = text
text_in other = []

-- behind a message file that was put
pub mail_given : {S T E : Type 0} (sees : SeesFolder S) (m : Mailbox) (text : List ℕ) (new : S) (result : Result T E) → IsValid m
    → ((message guid : List ℕ) → IsFileOf message guid text → OnOk result (HoldsMail sees m.next_uid message guid new)) → (other : List ℕ) → kind.Message text ≡ kind.Message other
    → OnOk result ((c : Folder) → sees.may_leave new c → GivesMail m other c)
mail_given sees m text new (Ok x) valid held other is = λ c left. record {
  valid = valid;
  has = λ message guid file. (held message guid (subst (IsFileOf message guid) (sym (ap text_in is)) file)).crash c left;
}
mail_given sees m text new (Err e) valid held other is = tt
