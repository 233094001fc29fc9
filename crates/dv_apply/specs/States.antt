-- A mailbox as it is kept while records are applied.
use Rattle.std.specs.Prelude.{◌≡◌, ℕ, ◌≤◌, List, Some, length, map, replicate, All}
use Rattle.dv_model.specs.declared.types.Body.{Body}
use Rattle.dv_model.specs.declared.types.Extension.{Extension}
use Rattle.dv_model.specs.declared.types.Mailbox.{Mailbox}
use Rattle.dv_model.specs.Mailboxes.{IsValid}
use Rattle.dv_apply.specs.Bodies.{after_body, spare_after}
use Rattle.dv_apply.specs.declared.state.State.{State}

-- a mailbox, and how many rows can be appended without memory
pub record Kept : Type 0 where
  pub mailbox : Mailbox
  pub spare : ℕ

-- the mailbox that is kept so
abbrev pub mailbox_of : State → Mailbox
mailbox_of s = record {
  uid_validity = s.uid_validity;
  next_uid = s.next_uid;
  rows = s.rows.rows;
  keywords = s.names.names;
  extensions = s.extensions.extensions;
  current = s.extensions.current;
  highest = s.highest;
}

-- with its spare number
abbrev pub kept_of : State → Kept
kept_of s = record { mailbox = mailbox_of s; spare = s.spare }

-- what callers see of it: the mailbox, its spare rows, and keyword names whose memory is kept but that aren't shown
pub record Held : Type 0 where
  pub mailbox : Mailbox
  pub spare : ℕ
  pub hidden : List (List ℕ)

-- that of a state
abbrev pub held_of : State → Held
held_of s = record { mailbox = mailbox_of s; spare = s.spare; hidden = s.names.kept }

-- all but the hidden names
abbrev pub shown_in : Held → Kept
shown_in l = record { mailbox = l.mailbox; spare = l.spare }

-- an appended row has zero bytes for each extension
abbrev pub blank_parts : List Extension → List (List ℕ)
blank_parts es = map (λ e. replicate e.record_size 0) es

-- so many rows can be appended without memory
pub record HasSpare (n : ℕ) (s : State) : Type 0 where
  pub blank : All (λ parts. parts ≡ blank_parts s.extensions.extensions) s.blanks.items
  pub blanks : n ≤ length s.blanks.items
  pub room : n ≤ s.rows.room

-- the mailbox is valid, and there are as many spare rows as it says
pub record IsKept (s : State) : Type 0 where
  pub valid : IsValid (mailbox_of s)
  pub spare : HasSpare s.spare s

-- the record's effect, on a state that stays one
pub record Becomes (old : State) (body : Body) (new : State) : Type 0 where
  pub mailbox : after_body (mailbox_of old) body ≡ Some (mailbox_of new)
  pub kept : IsKept new
  pub spare : new.spare ≡ spare_after old.extensions.extensions old.spare body
