-- A session that follows a mailbox by the UIDs that are touched.
use Rattle.std.specs.Prelude.{◌≡◌, ◌⊎◌, ℕ, ◌≤◌, ◌<◌, Bool, true, ◌&&◌, not, List, [], map, filter, All, Contains, IsSome, is_some}
use Rattle.std.specs.List.Sorted.{IsStrictlyIncreasing}
use Rattle.dv_model.specs.declared.types.Fresh.{Fresh}
use Rattle.dv_model.specs.declared.types.Mailbox.{Mailbox}
use Rattle.dv_model.specs.Fresh.{IsTouched, patched, shown_of}
use Rattle.dv_model.specs.Mailboxes.{IsValid}
use Rattle.dv_model.specs.Sessions.{State, new_session}
use Rattle.dv_model.specs.Views.{View, row_of, shown, shows_uid}
use Rattle.dv_view.specs.Orders.{IsOrdered}

-- a session, and the UIDs that were touched since it was told, or of which it wasn't told then
pub record Follower : Type 0 where
  pub state : State
  pub touched : List ℕ

-- one that hasn't selected the mailbox
abbrev pub new_follower : Follower
new_follower = record { state = new_session; touched = [] }

-- what the mailbox has of these UIDs now
abbrev pub fresh_of : Mailbox → List ℕ → List Fresh
fresh_of m uids = map (λ uid. record { uid = uid; row = shown_of m uid }) uids

-- The rows that the mailbox shows are the view's with the touched ones as they are now. UIDs rise and were given out, and
-- each row was shown or is new.
pub record Tracks (m : Mailbox) (view : View) (touched : List ℕ) : Type 0 where
  pub ordered : IsOrdered view
  pub rising : IsStrictlyIncreasing touched
  pub given : All (λ uid. (1 ≤ uid) × (uid < m.next_uid)) touched
  pub next_uid : view.next_uid ≤ m.next_uid
  pub known : All (λ row. (shows_uid view row.uid ≡ true) ⊎ (view.next_uid ≤ row.uid)) m.rows
  pub rows : map shown m.rows ≡ patched view.rows (fresh_of m touched)

-- a session that has selected the mailbox tracks it
abbrev pub IsAbreast : Mailbox → Follower → Type 0
IsAbreast m f = f.state.selected ≡ true → Tracks m f.state.view f.touched

-- a row that the view shows has left the mailbox, and that wasn't told
abbrev pub is_untold : Mailbox → View → ℕ → Bool
is_untold m view uid = shows_uid view uid && not (is_some (row_of m uid))

-- those of the touched UIDs
abbrev pub untold : Mailbox → View → List ℕ → List ℕ
untold m view touched = filter (is_untold m view) touched

-- One mailbox became the other, and each UID whose row is then shown in another way is among these, which were given out.
pub record Leads (old new : Mailbox) (touched : List ℕ) : Type 0 where
  pub valid : IsValid new
  pub next_uid : old.next_uid ≤ new.next_uid
  pub rows : All (λ row. IsSome (row_of old row.uid) ⊎ (old.next_uid ≤ row.uid)) new.rows
  pub all : (uid : ℕ) → IsTouched old new uid → Contains touched uid
  pub given : All (λ uid. (1 ≤ uid) × (uid < new.next_uid)) touched
