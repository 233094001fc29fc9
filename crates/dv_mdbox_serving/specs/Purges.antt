-- What purges leave of a storage's folder and of its map, in the turn of the calls.
use Rattle.std.specs.Prelude.{◌≡◌, List, [], ◌∷◌, Option, Some, ⊤}
use Rattle.dv_model.specs.declared.types.Mailbox.{Mailbox}
use Rattle.dv_shelf.specs.Folders.{Folder}
use Rattle.dv_maps.specs.Storages.{Storage, storage_of}
use Rattle.dv_maps.specs.Texts.{KeepsTexts, Messages}
use Rattle.dv_mdbox.specs.Purged.{IsPurged}
use Rattle.dv_mdbox.specs.Purging.{IsCleared}
use Rattle.dv_mdbox_lines.specs.declared.answers.Answer.{Answer}
use Rattle.dv_mdbox_lines.specs.declared.answers.Answer.TheVariants as answer
use Rattle.dv_mdbox_lines.specs.Playing.{Tried, behind_call}
use Rattle.dv_mdbox_lines.specs.Scripts.{Call, Purge}

-- A purge that is done: so many ids went, exactly those without references of the files that were
-- rewritten, and each is rewritten whose kept texts are whole and not too long together. Each
-- message file is then named by the map, and ids without references are left only in files that
-- were passed over.
abbrev pub PurgesSo : Call → Option Answer → Folder → Mailbox → Folder → Mailbox → Type 0
PurgesSo Purge (Some (answer.Purged n)) old m new after =
    IsPurged old new m after n × IsCleared new after
PurgesSo call told old m new after = ⊤

-- the map has this storage, and the folder its texts
abbrev pub HasStorage : Storage → Folder → Mailbox → Type 0
HasStorage s folder m =
    (messages : Messages) × (storage_of messages m ≡ s) × KeepsTexts messages m folder

-- So it is of each of some calls in turn, from a storage on: there are a folder and a map before and
-- behind each, which have the storage behind the calls so far.
abbrev pub PurgeInTurn : Storage → List Tried → Folder → Mailbox → Folder → Mailbox → Type 0
PurgeInTurn s [] old m new after = (new ≡ old) × (after ≡ m)
PurgeInTurn s (t ∷ calls) old m new after =
    (folder : Folder) × (mid : Mailbox)
    × PurgesSo t.call t.answer old m folder mid
    × HasStorage (behind_call s t) folder mid
    × PurgeInTurn (behind_call s t) calls folder mid new after

-- the same, from some folder that has the storage up to this one
abbrev pub PurgeUpTo : Storage → List Tried → Folder → Type 0
PurgeUpTo start calls new =
    (first : Folder) × (m : Mailbox) × (after : Mailbox) × HasStorage start first m
    × PurgeInTurn start calls first m new after
