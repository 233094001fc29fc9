-- What is known where messages are looked up, and what a look at many of them leaves.
use Rattle.std.specs.Prelude.{◌≡◌, ℕ, Bool, true, false, List, count_by}
use Rattle.dv_model.specs.declared.types.Command.{Command}
use Rattle.dv_model.specs.Journals.{Mail}
use Rattle.dv_model.specs.Sessions.{has_uid}
use Rattle.dv_model.specs.Views.{View}
use Rattle.dv_shelf.specs.Folders.{Folder}
use Rattle.dv_shelf.specs.Sees.{SeesFolder}
use Rattle.dv_openings.specs.TrueCaches.{HasTrueCache}
use Rattle.dv_chain.specs.declared.chain.Chain.{Chain}
use Rattle.dv_chain.specs.Openings.{OnlyLooks}
use Rattle.dv_lookups.specs.declared.cache_file.CacheFile.{CacheFile}
use Rattle.dv_lookups.specs.Commands.{CommandStands, SparesEach, uids_read}
use Rattle.dv_lookups.specs.Founds.{AreMessages}
use Rattle.dv_lookups.specs.Kept.{CountsUpTo, IsFileOf, is_read}

-- the folder's cache file is true of the mailbox, and what was read of it is that file
pub record KnowsCache (folder : Folder) (chain : Chain) (cache : CacheFile) : Type 0 where
  pub file : IsFileOf folder cache
  pub is_true : HasTrueCache folder chain.indexid chain.live.mailbox

-- and these are the messages of the mailbox's rows, by their files in the folder
pub record KnowsMessages (folder : Folder) (chain : Chain) (cache : CacheFile)
    (mail : ℕ → Mail) : Type 0 where
  pub knows : KnowsCache folder chain cache
  pub held : AreMessages folder chain.live.mailbox mail

-- Messages of these UIDs were looked up, one after another. Nothing is changed. What was read of the
-- cache file stays that file, which isn't read again, or where not all that is asked can stand in it.
-- A message file is read at most for each UID that the mailbox has, and none for a row that is found
-- in the cache file.
pub record LooksUp {S : Type 0} (sees : SeesFolder S) (chain : Chain) (Stands : Bool → Type 0)
    (uids : List ℕ) (before now : CacheFile) (old new : S) : Type 0 where
  pub file : sees.tells → IsFileOf (sees.files old) before → IsFileOf (sees.files old) now
  pub again : is_read before ≡ true → now ≡ before
  pub aside : Stands false → now ≡ before
  pub looks : sees.tells → OnlyLooks sees old new
  pub most : CountsUpTo (count_by (has_uid chain.live.mailbox) uids)
      (sees.mail_reads old) (sees.mail_reads new)
  pub spares : sees.tells → IsFileOf (sees.files old) before → Stands true
      → SparesEach (sees.files old) chain.indexid chain.live.mailbox uids
      (sees.mail_reads old) (sees.mail_reads new)

-- those that a command reads
abbrev pub ReadsFor : {S : Type 0} → SeesFolder S → Chain → Command → View → CacheFile → CacheFile
    → S → S → Type 0
ReadsFor sees chain c view = LooksUp sees chain (CommandStands c) (uids_read c view)
