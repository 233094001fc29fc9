-- A client with an old state becomes equal to the mailbox.
use Rattle.std.specs.Prelude.{◌≡◌, ℕ, ◌≤◌, List, Some}
use Rattle.dv_model.specs.declared.types.Mailbox.{Mailbox}
use Rattle.dv_model.specs.Journals.{IsSound, Log, at}
use Rattle.dv_qresync.specs.declared.types.Answer.{Answer}
use Rattle.dv_qresync.specs.declared.types.Replica.{Replica}
use Rattle.dv_qresync.specs.Answers.{resynced}
use Rattle.dv_qresync.specs.Replicas.{caught_up, old_of, replica_of}

-- a replica of a log's mailbox at some place hears what a client with its state hears of the mailbox at that place or behind it
pub record Hears (r : Replica) (heard : List Answer) (m : Mailbox) : Type 0 where
  pub log : Log
  pub sound : IsSound log
  pub from : ℕ
  pub to : ℕ
  pub order : from ≤ to
  pub earlier : Mailbox
  pub was : at log from ≡ Some earlier
  pub is : at log to ≡ Some m
  pub copy : r ≡ replica_of earlier
  pub answers : heard ≡ resynced m (old_of r)

-- it becomes the replica of the mailbox there
abbrev pub CatchesUp : Type 0
CatchesUp = (r : Replica) (heard : List Answer) (m : Mailbox) → Hears r heard m → caught_up r heard ≡ replica_of m
