-- What a folder keeps with a command's group.
use Rattle.std.proofs.Common.{◌≡◌, ◌⊎◌, ⊎_elim, ℕ, true, List, get_or, Some, sym, ◌∙◌, ap, subst}
use Rattle.std.specs.Prelude.{All, Contains}
use Rattle.std.proofs.lemmas.List.Elements.{All-contains, All-contains_itself}
use Rattle.dv_model.specs.declared.types.Command.{Command}
use Rattle.dv_model.specs.declared.types.Mailbox.{Mailbox}
use Rattle.dv_model.specs.declared.types.Row.{Row}
use Rattle.dv_model.specs.Effects.{applied}
use Rattle.dv_model.specs.Journals.{Log}
use Rattle.dv_model.specs.Sessions.{check_records, is_append}
use Rattle.dv_shelf.specs.declared.shelf.Name.TheVariants as name
use Rattle.dv_shelf.specs.Folders.{Folder}
use Rattle.dv_openings.specs.TrueCaches.{HasTrueCache}
use Rattle.dv_cached.specs.Laws.{Makes}
use Rattle.dv_cached.specs.Parts.{HasNewParts, HasOldParts, KeepsParts}
use Rattle.dv_cached.proofs.Checks.{check_uids, checked_true, rows_all, uids_all}
use Rattle.dv_cached.proofs.Looking.{looks_true, makes_looks, makes_parts}
use Rattle.dv_writing.specs.Keeping.{HasMessage, Keeps}
use Rattle.dv_writing.specs.GroupLaws.{KeepsMessages}
use Rattle.dv_writing.specs.Renewals.{IsCacheOf}

module _ (log written : Log) (m : Mailbox) (folder : Folder) (same : KeepsMessages log written m) (keeps : Keeps log m folder) where
  old_message : (row : Row) → Contains m.rows row → HasMessage written row.uid folder
  old_message row here =
      let had = keeps.messages row here in
      let as_before = same.messages row here in
      record { held = had.held ∙ sym as_before.0; named = had.named ∙ sym as_before.1 }

  pub group_kept : (c : Command) (after : Mailbox) → Makes c m after → (is_append c ≡ true → HasMessage written m.next_uid folder) → Keeps written after folder
  group_kept c after makes new = record {
    messages = λ row here. ⊎_elim (old row) (fresh row) (All-contains (λ row. HasOldParts m row ⊎ (is_append c ≡ true) × HasNewParts m row) after.rows row parts.rows here);
    cache = subst (λ (i : ℕ). HasTrueCache folder i after) (sym same.named) (looks_true folder log.indexid m after keeps.cache (makes_looks c m after makes));
  }
    where
      parts : KeepsParts c m after
      parts = makes_parts c m after makes

      old : (row : Row) → HasOldParts m row → HasMessage written row.uid folder
      old row (k, first, h, at, alike) = subst (λ (uid : ℕ). HasMessage written uid folder) alike.0 (old_message first (k, h, at))

      fresh : (row : Row) → (is_append c ≡ true) × HasNewParts m row → HasMessage written row.uid folder
      fresh row is = subst (λ (uid : ℕ). HasMessage written uid folder) (sym is.1.uid) (new is.0)

  pub check_kept : (after : Mailbox) (cache : List ℕ) → applied m (check_records m) ≡ Some after → IsCacheOf log m cache → folder name.Cache ≡ Some cache → Keeps written after folder
  check_kept after cache gives of there = record {
    messages = λ row here. All-contains (λ row. HasMessage written row.uid folder) after.rows row all here;
    cache = subst (λ (i : ℕ). HasTrueCache folder i after) (sym same.named)
        (checked_true folder log.indexid of.indexid of.seq log.mail m after of.wide.0 of.wide.1 of.writable (there ∙ ap Some of.is) (λ row here. sym (keeps.messages row here).held) gives);
  }
    where
      old : All (λ row. HasMessage written row.uid folder) m.rows
      old k d h = old_message (get_or m.rows k d) (All-contains_itself m.rows k d h)

      all : All (λ row. HasMessage written row.uid folder) after.rows
      all =
          rows_all (λ uid. HasMessage written uid folder) after.rows
          (subst (All (λ uid. HasMessage written uid folder)) (sym (check_uids m after gives)) (uids_all (λ uid. HasMessage written uid folder) m.rows old))
