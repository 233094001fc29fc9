-- A store at rest: what is owed before its next write, and what a crash may leave of its folder.
use Rattle.std.specs.Prelude.{◌≡◌, ◌⊎◌, ℕ, List, Option, Some, None, ⊤}
use Rattle.dv_model.specs.declared.types.Mailbox.{Mailbox}
use Rattle.dv_model.specs.Journals.{Log}
use Rattle.dv_shelf.specs.Folders.{Folder}
use Rattle.dv_chain.specs.declared.chain.Chain.{Chain}
use Rattle.dv_chain.specs.Rest.{Owed, Rests, next_mark}
use Rattle.dv_chain.specs.Rest as chain_rest
use Rattle.dv_writing.specs.Opening.{mark_behind}
use Rattle.dv_files.specs.declared.texts.Turn.{Turn}
use Rattle.dv_files.specs.Texts.{place_of}
use Rattle.dv_writing.specs.Keeping.{Gives, Keeps}
use Rattle.dv_shelf.specs.Sees.{SeesFolder}

-- Nothing; or the gate of a failed commit's group may be open, whose text makes this mailbox, and
-- then the log is that with its message; or the log may already be this new file of a rotation.
pub data Debt : Type 0 where
  Nothing : Debt
  Pending : (text : List ℕ) (after : Mailbox) (written : Log) → Debt
  Last : (new : List ℕ) → Debt

-- the debt of a turn whose last replace is owed, or of none
abbrev pub debt_of : Option Turn → Debt
debt_of None = Nothing
debt_of (Some turn) = Last turn.new

-- the turn that is owed is that of the debt
abbrev pub Fits : Option Turn → Debt → Type 0
Fits None Nothing = ⊤
Fits None (Pending text after written) = ⊤
Fits None (Last new) = ⊥
Fits (Some turn) Nothing = ⊥
Fits (Some turn) (Pending text after written) = ⊥
Fits (Some turn) (Last new) = turn.new ≡ new

-- what the chain of this mailbox owes then
abbrev pub owed_of : Mailbox → Debt → Owed
owed_of m Nothing = chain_rest.Nothing
owed_of m (Pending text after written) = chain_rest.Pending text after
owed_of m (Last new) = chain_rest.Last new m

-- a folder keeps the pending group's mailbox too
abbrev pub KeepsOwed : Debt → Folder → Type 0
KeepsOwed Nothing c = ⊤
KeepsOwed (Pending text after written) c = Keeps written after c
KeepsOwed (Last new) c = ⊤

-- the log with the pending group's message is of the same mailbox
abbrev pub IsOwedOf : Log → Debt → Type 0
IsOwedOf log Nothing = ⊤
IsOwedOf log (Pending text after written) = written.indexid ≡ log.indexid
IsOwedOf log (Last new) = ⊤

-- A store is at rest: its chain is, and each folder that a crash now may leave keeps the mailbox,
-- and that with what is owed. It takes what the shelf shows.
pub record Stands {S : Type 0} (sees : SeesFolder S) (log : Log) (debt : Debt)
    (chain : Chain) (shelf : S) : Type 0 where
  pub named : log.indexid ≡ chain.indexid
  pub written : IsOwedOf log debt
  pub rests : Rests sees (owed_of chain.live.mailbox debt) chain shelf
  pub keeps : (c : Folder) → sees.may_leave shelf c → Keeps log chain.live.mailbox c
  pub owed : (c : Folder) → sees.may_leave shelf c → KeepsOwed debt c

-- What a crash leaves gives the mailbox at its place, or with the pending group behind it, or at
-- the first place of the new file.
abbrev pub MayGive : Log → Debt → Chain → Folder → Type 0
MayGive log Nothing chain c = Gives log chain.live.mailbox (place_of chain) c
MayGive log (Pending text after written) chain c =
    Gives log chain.live.mailbox (place_of chain) c
    ⊎ Gives written after (mark_behind text chain) c
MayGive log (Last new) chain c =
    Gives log chain.live.mailbox (place_of chain) c
    ⊎ Gives log chain.live.mailbox (next_mark chain) c
