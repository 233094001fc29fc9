-- A whole run of two commands is one of the rules: as a run of all sessions, and as the transcript of one.
use Rattle.std.proofs.Common.{inl, inr, refl, ℕ, zero, suc, ◌<◌, List, [], ◌∷◌, arith}
use Rattle.std.specs.Prelude.{Bool, IsSome, codes, slice_index_or}
use Rattle.std.proofs.lemmas.List.Elements.{All-from_recursion, All-nil, All-replicate}
use Rattle.dv_model.specs.declared.types.Command.{Command}
use Rattle.dv_model.specs.declared.types.Command.TheVariants as command
use Rattle.dv_model.specs.declared.types.Mailbox.{Mailbox}
use Rattle.dv_model.specs.declared.types.Reply.TheVariants as reply
use Rattle.dv_model.specs.Journals.{IsEntry, IsSound, Log, at}
use Rattle.dv_model.specs.Sessions.{Answer, answer, new_session}
use Rattle.dv_model.specs.Transcripts.{IsOwn, IsTold, IsTurn, Serial, Spoken, Turn, WroteEntry}
use Rattle.dv_examples.proofs.Played.{NamedLine, after_lines, attempts_of, clock, created, created_with, failed, served}
use Rattle.dv_playing.specs.Laws.{IsAttempt, MayPlay}
use Rattle.dv_playing.specs.Playing.{DueAgain, with_group_here}
use Rattle.dv_playing.proofs.Plays.{leaves, serial, stands}
use Rattle.dv_validity.proofs.Beginnings.{begun_valid}

abbrev append : Command
append = command.Append 0 [] (codes "hello")

abbrev lines : List NamedLine
lines = served (codes "a") 1 command.Select ∷ served (codes "a") 1 append ∷ []

-- ---- the folder

module _ (rotates : Bool) where
  some_mailbox : (k : ℕ) → IsSome (at (created_with rotates) k)
  some_mailbox zero = refl
  some_mailbox (suc k) = refl

  pub created_is_sound : IsSound (created_with rotates)
  created_is_sound = record {
    start = (begun_valid 1000 2 (omega arith) (omega arith), All-nil _);
    start_mark = (omega arith, omega arith);
    indexid = omega arith;
    guids = λ uid. record { size = refl; bytes = All-replicate (λ b. b < 256) 16 0 (omega arith) };
    entries = All-nil IsEntry;
    mailboxes = λ k le. some_mailbox k;
  }

may_play : MayPlay clock created 0 0 (attempts_of lines)
may_play = record {
  sound = created_is_sound _;
  new = refl;
  each = All-from_recursion (IsAttempt 0) (attempts_of lines)
      (record { line = (omega arith, tt); count = tt }, (record { line = (omega arith, (omega arith, All-nil _)); count = tt }, tt));
  few = omega arith;
}

-- ---- the run

abbrev one_entry : Log
one_entry = (after_lines created lines).log

abbrev one_message : Mailbox
one_message = record created.start { next_uid = 2; rows = record { uid = 1; flags = 0; keywords = []; parts = []; modseq = 3 } ∷ []; highest = 3 }

abbrev first : Answer
first = answer one_entry.mail new_session command.Select created.start 0 created.start (record { file_seq = 1; offset = 56 })

abbrev second : Answer
second = answer one_entry.mail first.next append created.start 1 one_message (record { file_seq = 1; offset = 72 })

whole_run : Serial one_entry 0 0 ((1, command.Select) ∷ (1, append) ∷ []) (first.replies ∷ second.replies ∷ [])
whole_run = serial clock created 0 0 (attempts_of lines) may_play []

-- ---- the disk fails, and the next line isn't answered

abbrev failing : List NamedLine
failing = served (codes "a") 1 command.Select ∷ failed (codes "a") 1 append 1 DueAgain ∷ []

may_fail : MayPlay clock created 0 1 (attempts_of failing)
may_fail = record {
  sound = created_is_sound _;
  new = refl;
  each = All-from_recursion (IsAttempt 0) (attempts_of failing)
      (record { line = (omega arith, tt); count = tt }, (record { line = (omega arith, (omega arith, All-nil _)); count = omega arith }, tt));
  few = omega arith;
}

-- the second APPEND is written, and has no reply
left_group : Serial (with_group_here clock (after_lines created failing) (1, append)).log 0 1 ((1, command.Select) ∷ (1, append) ∷ (1, append) ∷ []) (first.replies ∷ (reply.Unavailable 1 ∷ []) ∷ [])
left_group =
    leaves clock created 0 1 (attempts_of failing) may_fail (1, append) []
    (record { good = (omega arith, (omega arith, All-nil _)); write = refl; allowed = refl; some = refl })

-- ---- the transcript of session 1

selected : IsTold one_entry 1 0 0 new_session command.Select first.replies first.next
selected = record {
  before = created.start;
  was_there = refl;
  allowed = refl;
  wrote = inr (refl, refl);
  mailbox = created.start;
  is_there = refl;
  seen = (omega arith, omega arith);
  is = refl;
}

appended : IsTold one_entry 1 0 1 first.next append second.replies second.next
appended = record {
  before = created.start;
  was_there = refl;
  allowed = refl;
  wrote = inl (record { behind = refl; some = omega arith; entry = refl; message = (refl, (1000, refl)) });
  mailbox = one_message;
  is_there = refl;
  seen = (omega arith, omega arith);
  is = refl;
}

abbrev turns : List Turn
turns =
    record { before = new_session; command = command.Select; met = 0; behind = 0; replies = first.replies; after = first.next }
    ∷ record { before = first.next; command = append; met = 0; behind = 1; replies = second.replies; after = second.next }
    ∷ []

each_turn : (k : ℕ) (t : Turn) → k < 2 → IsTurn one_entry 0 1 (slice_index_or turns k t)
each_turn zero t below = record { met = (omega arith, omega arith); answered = inr (inr selected) }
each_turn (suc zero) t below = record { met = (omega arith, omega arith); answered = inr (inr appended) }
each_turn (suc (suc k)) t below = absurd (omega (arith, below))

-- the one entry is the second turn's
own_entry : (k : ℕ) → IsOwn one_entry 1 0 k → WroteEntry turns k
own_entry zero own = (1, record { before = first.next; command = append; met = 0; behind = 1; replies = second.replies; after = second.next }, omega arith, refl, (refl, refl))
own_entry (suc k) own = let none = own.is in absurd cc

spoken : Spoken one_entry 0 1 (command.Select ∷ append ∷ []) (first.replies ∷ second.replies ∷ [])
spoken = record {
  sound = (stands clock created 0 0 (attempts_of lines) may_play).sound;
  speaks = record {
    start = 0;
    there = omega arith;
    turns = turns;
    each = each_turn;
    state = second.next;
    leads = (refl, (refl, refl));
    replied = refl;
    sent = refl;
  };
  entries = inl own_entry;
}
