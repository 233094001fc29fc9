-- A play goes on by one line: refused, failed or told.
use Rattle.std.proofs.Common.{◌≡◌, ℕ, Bool, true, false, cond, ◌||◌, List, [], ◌∷◌, ◌++◌, Some, None, refl, sym, ◌∙◌, ap, subst}
use Rattle.std.proofs.lemmas.List.Elements.{All-push}
use Rattle.dv_model.specs.declared.types.Command.{Command}
use Rattle.dv_model.specs.declared.types.Command.TheVariants as command
use Rattle.dv_model.specs.declared.types.Mailbox.{Mailbox}
use Rattle.dv_model.specs.declared.types.Reply.{Reply}
use Rattle.dv_model.specs.declared.types.Reply.TheVariants as reply
use Rattle.dv_model.specs.Counts.{RoseBy}
use Rattle.dv_model.specs.Journals.{Log}
use Rattle.dv_model.specs.Sessions.{group_of, is_write}
use Rattle.dv_model.specs.Transcripts.{Line, touches_disk, unavailable_count}
use Rattle.dv_model.specs.Views.{View}
use Rattle.dv_playing.specs.Laws.{IsAttempt, MayPlay}
use Rattle.dv_playing.specs.Playing.{Attempt, Failed, Outcome, Play, Rotation, Served, begin, behind_failure, fared, group_here, is_empty, played, refused_here, replies_to, step, stepped_by, told, with_group_here}
use Rattle.dv_playing.proofs.Plays.{goes_on, replies_go_on}
use Rattle.dv_serving.proofs.Counting.{one_more, rose_sum}

-- ---- one line

-- a line with what came of it
abbrev pub attempt : Line → Outcome → Attempt
attempt line outcome = record { line = line; outcome = outcome }

-- a read has no group
pub reads_none : (c : Command) (view : View) (m : Mailbox) (guid : ℕ → List ℕ) → is_write c ≡ false → is_empty (group_of c view m guid) ≡ true
reads_none (command.Append flags keywords message) view m guid read = absurd cc
reads_none command.Expunge view m guid read = absurd cc
reads_none command.Check view m guid read = absurd cc
reads_none (command.Store by_uid set h flags keywords since) view m guid read = absurd cc
reads_none (command.UidRemove set) view m guid read = absurd cc
reads_none c view m guid read = refl

module _ (clock : ℕ → ℕ) (play : Play) (line : Line) where
  -- refused
  pub refused_step : (outcome : Outcome) (r : Reply) → refused_here play line ≡ Some r → step clock play (attempt line outcome) ≡ record { replies = r ∷ []; play = play }
  refused_step outcome r is = ap (stepped_by clock play (attempt line outcome)) is

  either : (b : Bool) → cond b Served Served ≡ Served
  either true = refl
  either false = refl

  -- served
  pub served_step : refused_here play line ≡ None → step clock play (attempt line Served) ≡ told play line (with_group_here clock play line)
  served_step allowed = ap (stepped_by clock play (attempt line Served)) allowed ∙ ap (fared clock play line) (either (touches_disk line.1))

  -- failed by the disk
  pub failed_step : (faults : ℕ) (rotation : Rotation) → refused_here play line ≡ None → touches_disk line.1 ≡ true
      → step clock play (attempt line (Failed faults rotation)) ≡ record { replies = reply.Unavailable faults ∷ []; play = behind_failure play line rotation }
  failed_step faults rotation allowed touches =
      ap (stepped_by clock play (attempt line (Failed faults rotation))) allowed
      ∙ ap (λ (b : Bool). fared clock play line (cond b (Failed faults rotation) Served)) touches

  module _ (read : is_write line.1 ≡ false) where
    none : is_empty (group_here play line) ≡ true
    none = reads_none line.1 (play.states line.0).view play.mailbox play.log.guid read

    or_false : (b : Bool) → (b || false) ≡ b
    or_false true = refl
    or_false false = refl

    -- a read leaves the play as it is, served or failed
    pub read_stays : with_group_here clock play line ≡ play
    read_stays = rw none refl

    pub failed_stays : (rotation : Rotation) → behind_failure play line rotation ≡ play
    failed_stays rotation = rw none (ap (λ (b : Bool). record play { begun = b }) (or_false play.begun))

-- ---- one line more

module _ (clock : ℕ → ℕ) (start : Log) (base : ℕ) (attempts : List Attempt) where
  abbrev here : Play
  here = played clock (begin start) attempts

  abbrev replies : List (List Reply)
  replies = replies_to clock (begin start) attempts

  pub play_on : (a : Attempt) → played clock (begin start) (attempts ++ a ∷ []) ≡ (step clock here a).play
  play_on a = goes_on clock (begin start) attempts a

  -- no more lines were answered by the disk's failure than its count rose by
  pub may_on : (before now : ℕ) (a : Attempt) → MayPlay clock start base before attempts → IsAttempt base a → RoseBy (unavailable_count ((step clock here a).replies ∷ [])) before now
      → MayPlay clock start base now (attempts ++ a ∷ [])
  may_on before now a may good rose = record {
    sound = may.sound;
    new = may.new;
    each = All-push (IsAttempt base) attempts a may.each good;
    few = subst (λ (n : ℕ). RoseBy n base now) (sym (ap unavailable_count (replies_go_on clock (begin start) attempts a) ∙ one_more replies (step clock here a).replies))
        (rose_sum (unavailable_count replies) (unavailable_count ((step clock here a).replies ∷ [])) base before now may.few rose);
  }
