-- What is kept where files stay.
use Rattle.std.proofs.Common.{◌≡◌, ◌≢◌, ⊎_elim, ℕ, ◌+◌, List, Contains, Option, Some, refl, sym, ◌∙◌, ap, arith}
use Rattle.dv_model.specs.declared.types.Mailbox.{Mailbox}
use Rattle.dv_model.specs.declared.types.Row.{Row}
use Rattle.dv_shelf.specs.declared.shelf.Name.{Name}
use Rattle.dv_shelf.specs.declared.shelf.Name.TheVariants as name
use Rattle.dv_shelf.specs.Folders.{Folder, name_number, with_file}
use Rattle.dv_shelf.proofs.FolderLemmas.{with_else}
use Rattle.dv_dbox.specs.Mails.{guid_in, mail_in}
use Rattle.dv_openings.specs.TrueCaches.{known_of}
use Rattle.dv_writing.specs.Commits.{KeepsOthers}
use Rattle.dv_files.specs.declared.texts.Turn.{Turn}
use Rattle.dv_files.specs.Leavings.{IsBeforeLast, IsPut, IsTurning, with_index, with_new, with_old}
use Rattle.dv_writing.specs.Laws.{KeptWhereSame, SameMessages}

pub kept_same : KeptWhereSame
kept_same log m old new same keeps = record {
  messages = λ row has.
      let was = keeps.messages row has in
      let is = same.files row has in
      record { held = ap mail_in is ∙ was.held; named = ap guid_in is ∙ was.named };
  cache = λ row cached has found.
      keeps.cache row cached has (record { file = found.file; there = sym same.cache ∙ found.there; look = found.look; asked = found.asked; found = found.found })
      ∙ sym (ap (λ (o : Option (List ℕ)). known_of (mail_in o)) (same.files row has));
}

-- ---- one message file is another

one_mail : (uid other : ℕ) → name.Mail uid ≡ name.Mail other → uid ≡ other
one_mail uid other same =
    let sum : 4 + uid ≡ 4 + other = ap name_number same in
    omega (arith, sum)

-- it is of a UID without a row
pub same_without : (m : Mailbox) (old new : Folder) (uid : ℕ) → ((row : Row) → Contains m.rows row → row.uid ≢ uid) → ((n : Name) → n ≢ name.Mail uid → new n ≡ old n) → SameMessages m old new
same_without m old new uid none others = record {
  cache = others name.Cache (λ e. cc);
  files = λ row has. others (name.Mail row.uid) (λ e. none row has (one_mail row.uid uid e));
}

-- ---- the index or a log is another

-- the cache file and the message files are as before
pub record KeepsMessages (old new : Folder) : Type 0 where
  pub cache : new name.Cache ≡ old name.Cache
  pub mail : (uid : ℕ) → new (name.Mail uid) ≡ old (name.Mail uid)

pub same_messages : (m : Mailbox) (old new : Folder) → KeepsMessages old new → SameMessages m old new
same_messages m old new same = record { cache = same.cache; files = λ row has. same.mail row.uid }

pub messages_stay : (old new : Folder) → new ≡ old → KeepsMessages old new
messages_stay old new is = record { cache = ap (λ (f : Folder). f name.Cache) is; mail = λ uid. ap (λ (f : Folder). f (name.Mail uid)) is }

pub messages_then : (old mid new : Folder) → KeepsMessages old mid → KeepsMessages mid new → KeepsMessages old new
messages_then old mid new first second = record { cache = second.cache ∙ first.cache; mail = λ uid. second.mail uid ∙ first.mail uid }

-- the files but the log are as they were
pub beside_log : (old new : Folder) → KeepsOthers old new → KeepsMessages old new
beside_log old new others = record { cache = others name.Cache (λ e. cc); mail = λ uid. others (name.Mail uid) (λ e. cc) }

-- a name that isn't the cache's, and of no message
pub record IsOfLog (n : Name) : Type 0 where
  pub cache : name.Cache ≢ n
  pub mail : (uid : ℕ) → name.Mail uid ≢ n

pub of_index : IsOfLog name.Index
of_index = record { cache = λ e. cc; mail = λ uid e. cc }

pub of_log : IsOfLog name.Log
of_log = record { cache = λ e. cc; mail = λ uid e. cc }

pub of_log2 : IsOfLog name.Log2
of_log2 = record { cache = λ e. cc; mail = λ uid e. cc }

pub beside_file : (old new : Folder) (n : Name) (file : Option (List ℕ)) → IsOfLog n → new ≡ with_file old n file → KeepsMessages old new
beside_file old new n file other is = record {
  cache = ap (λ (f : Folder). f name.Cache) is ∙ with_else old n file name.Cache other.cache;
  mail = λ uid. ap (λ (f : Folder). f (name.Mail uid)) is ∙ with_else old n file (name.Mail uid) (other.mail uid);
}

pub beside_put : (n : Name) (text : List ℕ) (old new : Folder) → IsOfLog n → IsPut n text old new → KeepsMessages old new
beside_put n text old new other put = ⊎_elim (messages_stay old new) (beside_file old new n (Some text) other) put

-- ---- a rotation

module _ (turn : Turn) (old : Folder) where
  beside_index : KeepsMessages old (with_index turn old)
  beside_index = beside_file old (with_index turn old) name.Index (Some turn.index) of_index refl

  pub beside_old : KeepsMessages old (with_old turn old)
  beside_old = messages_then old (with_index turn old) (with_old turn old) beside_index (beside_file (with_index turn old) (with_old turn old) name.Log2 (Some turn.old) of_log2 refl)

  beside_new : KeepsMessages old (with_new turn old)
  beside_new = messages_then old (with_old turn old) (with_new turn old) beside_old (beside_file (with_old turn old) (with_new turn old) name.Log (Some turn.new) of_log refl)

  at_folder : (e new : Folder) → KeepsMessages old e → new ≡ e → KeepsMessages old new
  at_folder e new keeps is = messages_then old e new keeps (messages_stay e new is)

  pub beside_first : (new : Folder) → IsBeforeLast turn old new → KeepsMessages old new
  beside_first new step =
      ⊎_elim (messages_stay old new)
      (λ more. ⊎_elim (at_folder (with_index turn old) new beside_index) (at_folder (with_old turn old) new beside_old) more) step

  pub beside_turn : (new : Folder) → IsTurning turn old new → KeepsMessages old new
  beside_turn new step = ⊎_elim (beside_first new) (at_folder (with_new turn old) new beside_new) step
