-- Files that a line's write may not change stay.
use Rattle.std.proofs.Common.{◌≡◌, Bool, sym, subst}
use Rattle.dv_model.specs.declared.types.Mailbox.{Mailbox}
use Rattle.dv_model.specs.Transcripts.{Line}
use Rattle.dv_shelf.specs.declared.shelf.Name.{Name}
use Rattle.dv_shelf.specs.Folders.{Folder}
use Rattle.dv_playing.specs.Laws.{MayWrite}
use Rattle.dv_playing.specs.Playing.{Play, begins_file}
use Rattle.dv_store.specs.Commits.{MayChange}
use Rattle.dv_serving.specs.Commits.{MayChangeHere}

-- a write with a group, over a mailbox and a rotation that are the play's
pub write_leaves : (play : Play) (line : Line) (m : Mailbox) (turning : Bool) (old new : Folder) → MayWrite play line → play.mailbox ≡ m → turning ≡ begins_file play
    → ((n : Name) → (MayChange line.1 m turning n → ⊥) → new n ≡ old n) → (n : Name) → (MayChangeHere play line n → ⊥) → new n ≡ old n
write_leaves play line m turning old new may mailbox turns others n none =
    others n (λ changes. none (record {
      write = may;
      changes = subst (λ (b : Bool). MayChange line.1 play.mailbox b n) turns (subst (λ (k : Mailbox). MayChange line.1 k turning n) (sym mailbox) changes);
    }))
