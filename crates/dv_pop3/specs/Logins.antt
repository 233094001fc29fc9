-- How a POP3 session begins over the store of a keeper.
use Rattle.std.specs.Prelude.{◌≡◌, ℕ, ◌+◌, ◌≤◌, false, List, [], ◌++◌, Some, codes, decimal, length, sum_by}
use Rattle.dv_model.specs.Journals.{Log, at}
use Rattle.dv_maildrop.specs.declared.types.Listed.{Listed}
use Rattle.dv_maildrop.specs.Answers.{ok, stat_answer}
use Rattle.dv_maildrop.specs.Maildrops.{Transaction, unmarked}
use Rattle.dv_member.specs.Members.{Member, log_seen}
use Rattle.dv_pop3.specs.declared.entering.PopFault.{PopFault}
use Rattle.dv_pop3.specs.declared.entering.PopFault.TheVariants as fault
use Rattle.dv_pop3.specs.Clients.{IsListing}
use Rattle.dv_pop3.specs.Findings.{IsFailure}
use Rattle.dv_pop3.specs.Listings.{listing}

-- it wrote nothing, was refused nothing, and goes on
pub record IsQuiet (old new : Member) : Type 0 where
  pub number : new.number ≡ old.number
  pub wrote : new.wrote ≡ old.wrote
  pub refused : new.refused ≡ old.refused
  pub fresh : new.spent ≡ false

-- these are the messages of the mailbox that the session has seen then, which it has selected
pub record ListsRows (start : Log) (rows : List Listed) (old new : Member) : Type 0 where
  pub place : old.seen ≤ new.seen
  pub is_there : at (log_seen start new) new.seen ≡ Some new.live
  pub are : rows ≡ listing (log_seen start new).mail new.live new.live.rows
  pub given : IsListing rows new.follower.state
  pub quiet : IsQuiet old new

-- It lists the messages of the mailbox at one place, that which the session has seen then: all that
-- are live and whole there, in the order of their UIDs.
pub record HasListed (start : Log) (m : Transaction) (old new : Member) : Type 0 where
  pub place : old.seen ≤ new.seen
  pub is_there : at (log_seen start new) new.seen ≡ Some new.live
  pub lists : m ≡ record {
    uid_validity = new.live.uid_validity;
    rows = listing (log_seen start new).mail new.live new.live.rows;
    marked = [];
    ended = false;
  }
  pub quiet : IsQuiet old new

-- Then STAT tells how many these are, and their octets (RFC 1939, section 5). The greeting tells
-- neither.
abbrev pub CountsListed : Type 0
CountsListed = (validity : ℕ) (rows : List Listed)
    → stat_answer (unmarked (record {
      uid_validity = validity;
      rows = rows;
      marked = [];
      ended = false;
    }))
    ≡ ok (codes " " ++ decimal (length rows) ++ codes " "
    ++ decimal (sum_by (λ row. row.size) rows))

-- It lists nothing, and goes on: the disk failed a call, or memory ran out, where a failure of the
-- disk may be counted that isn't told.
abbrev pub IsUnlisted : ℕ → PopFault → Member → Member → Type 0
IsUnlisted count (fault.Disk n) old new =
    IsFailure count n old new × (new.wrote ≡ old.wrote) × (new.spent ≡ false)
IsUnlisted count fault.NoMemory old new = (failures : ℕ) × (failures ≤ 1)
    × (new.refused ≡ old.refused + failures) × (new.wrote ≡ old.wrote) × (new.spent ≡ false)
