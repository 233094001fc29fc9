-- A keeper begins with new sessions, over a mailbox that was opened or made.
use Rattle.std.proofs.Common.{◌<◌, ◌^◌, ℕ, zero, suc, arith, refl}
use Rattle.std.specs.Prelude.{IsSome}
use Rattle.std.proofs.lemmas.List.Elements.{All-nil, All-replicate}
use Rattle.dv_member.specs.Members.{IsStart}
use Rattle.dv_model.specs.Journals.{IsEntry, IsSound, Log, at}
use Rattle.dv_naming.specs.Starts.{no_log}

-- a log from where another starts, without its messages
abbrev pub start_log : Log → Log
start_log log = record no_log { start = log.start; start_mark = log.start_mark; indexid = log.indexid }

pub log_begins : (log : Log) → IsSound log → IsStart (start_log log)
log_begins log sound = record {
  sound = record {
    start = sound.start;
    start_mark = sound.start_mark;
    indexid = sound.indexid;
    guids = λ uid. record { size = refl; bytes = All-replicate (λ b. b < 2 ^ 8) 16 0 (omega arith) };
    entries = All-nil IsEntry;
    mailboxes = λ k le. has k;
  };
  fresh = refl;
  rotates = refl;
}
  where
    has : (k : ℕ) → IsSome (at (start_log log) k)
    has zero = refl
    has (suc k) = refl
