-- What a folder of a chain at rest opens to.
use Rattle.std.specs.Prelude.{◌≡◌, ◌⊎◌, ℕ, ◌+◌, ◌-◌, List, length}
use Rattle.dv_model.specs.declared.types.Mark.{Mark}
use Rattle.dv_shelf.specs.Folders.{Folder}
use Rattle.dv_logfile.specs.Layout.{closing}
use Rattle.dv_openings.specs.Numbers.{OpensAs}
use Rattle.dv_openings.specs.Openings.{Finds, Found, IsFound}
use Rattle.dv_chain.specs.declared.chain.Chain.{Chain}
use Rattle.dv_chain.specs.Openings.{HasBounds, IsChainOf, found_of}
use Rattle.dv_chain.specs.Rest.{IsResting, Last, Nothing, Owed, Owes, Pending, next_mark}

-- the place behind a group's text that stands at the chain's end; its four zero bytes are no record
abbrev pub mark_behind : List ℕ → Chain → Mark
mark_behind text chain = record {
  file_seq = chain.log.file_seq;
  offset = chain.log.end + length text - length closing;
}

-- to the chain's mailbox at its mark, or to that with what is owed, of the chain's number
abbrev pub MayOpen : Owed → Chain → Folder → Type 0
MayOpen Nothing chain c = OpensAs c chain.indexid (found_of chain)
MayOpen (Pending text after) chain c =
    OpensAs c chain.indexid (found_of chain)
    ⊎ OpensAs c chain.indexid (Finds after (mark_behind text chain))
MayOpen (Last log after) chain c =
    OpensAs c chain.indexid (found_of chain)
    ⊎ OpensAs c chain.indexid (Finds after (next_mark chain))

-- whatever a crash leaves of a chain at rest opens so
abbrev pub RestOpens : Type 0
RestOpens =
    (owed : Owed) (chain : Chain) (c : Folder)
    → HasBounds chain
    → Owes chain owed
    → IsResting owed chain c
    → MayOpen owed chain c

-- two chains are equal, but for spare rows and hidden names
pub record AreEqual (one other : Chain) : Type 0 where
  pub mailbox : one.live.mailbox ≡ other.live.mailbox
  pub log : one.log ≡ other.log
  pub indexid : one.indexid ≡ other.indexid
  pub records : one.records ≡ other.records

-- what is opened of a folder equals what is kept of it, where nothing is owed
abbrev pub OpenedAreKept : Type 0
OpenedAreKept =
    (kept opened : Chain) (c : Folder)
    → Owes kept Nothing
    → IsResting Nothing kept c
    → IsChainOf c opened
    → IsFound c (found_of opened)
    → AreEqual opened kept
