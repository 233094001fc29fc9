-- What a kept search is worth.
use Rattle.std.specs.Prelude.{◌≡◌, ℕ, All, true, List, [], ◌∷◌, ◌++◌, map, Some}
use Rattle.std.specs.List.Sorted.{IsStrictlyIncreasing}
use Rattle.dv_model.specs.declared.types.Command.TheVariants as command
use Rattle.dv_model.specs.declared.types.Key.{Key}
use Rattle.dv_model.specs.declared.types.Mailbox.{Mailbox}
use Rattle.dv_model.specs.declared.types.Record.{Record}
use Rattle.dv_model.specs.declared.types.Reply.TheVariants as reply
use Rattle.dv_model.specs.declared.types.Step.TheVariants.{Full}
use Rattle.dv_model.specs.Effects.{applied}
use Rattle.dv_model.specs.Journals.{Mail}
use Rattle.dv_model.specs.Mailboxes.{IsValid}
use Rattle.dv_model.specs.Sessions.{data_of}
use Rattle.dv_model.specs.Views.{empty_view, moved, shown}
use Rattle.dv_answer.specs.Following.{Leads, fresh_of}
use Rattle.dv_live.specs.Groups.{AreTurns, Followed, Turn}
use Rattle.dv_live.specs.Keeping.{Agrees, KeptSearch, MayFollow}
use Rattle.dv_live.specs.Steadiness.{steady}

-- it is kept of this mailbox
pub record IsOf (kept : KeptSearch) (m : Mailbox) : Type 0 where
  pub names : kept.names ≡ m.keywords
  pub agrees : Agrees kept (map shown m.rows)

-- it is the answer of a UID SEARCH by a session that was shown the mailbox just now (RFC 3501, section 6.4.8)
abbrev pub IsSearched : Key → List ℕ → Mailbox → Type 0
IsSearched key uids m = (mail : ℕ → Mail) → data_of mail (command.Search true key) (moved Full empty_view m) m ≡ reply.Search uids ∷ []

-- what is kept of a mailbox is that answer
abbrev pub KeptIsSearched : Type 0
KeptIsSearched = (kept : KeptSearch) (m : Mailbox) → steady kept.key ≡ true → IsOf kept m → IsSearched kept.key kept.uids m

-- The mailbox of which a search is kept became another one: its table grew at its end, and each UID whose row is shown in
-- another way is among these.
pub record Became (kept : KeptSearch) (m : Mailbox) (touched : List ℕ) : Type 0 where
  pub before : Mailbox
  pub valid : IsValid before
  pub is : IsOf kept before
  pub leads : Leads before m touched
  pub more : List (List ℕ)
  pub table : m.keywords ≡ before.keywords ++ more

-- what the mailbox has of these UIDs may be followed then, and the search is kept of it behind that
abbrev pub TouchedAreFollowed : Type 0
TouchedAreFollowed = (kept new : KeptSearch) (m : Mailbox) (touched : List ℕ) → Became kept m touched → IsStrictlyIncreasing touched
    → MayFollow kept (fresh_of m touched) m.keywords × (Followed kept new (fresh_of m touched) m.keywords → IsOf new m)

-- the records of a group make such a mailbox
abbrev pub GroupsBecome : Type 0
GroupsBecome = (kept : KeptSearch) (before m : Mailbox) (records : List Record) (touched : List ℕ)
    → IsOf kept before → IsValid before → applied before records ≡ Some m → Leads before m touched → Became kept m touched

-- behind each of any groups, what is kept is the answer of a UID SEARCH there
abbrev pub TurnsAreSearched : Type 0
TurnsAreSearched = (kept : KeptSearch) (m : Mailbox) (turns : List Turn) → steady kept.key ≡ true → IsValid m → IsOf kept m → AreTurns m kept turns
    → All (λ (turn : Turn). IsSearched kept.key turn.kept.uids turn.mailbox) turns
