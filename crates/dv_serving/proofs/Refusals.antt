-- What refuses a line of a play: the session itself, or a limit that a write meets.
use Rattle.std.proofs.Common.{◌≡◌, Bool, true, false, cond, not, ◌&&◌, Option, Some, None, ℕ, refl, sym, ◌∙◌, ap}
use Rattle.std.specs.Prelude.{option_map}
use Rattle.std.specs.Option.{option_or}
use Rattle.dv_model.specs.declared.types.Command.{Command}
use Rattle.dv_model.specs.declared.types.Reply.{Reply}
use Rattle.dv_model.specs.declared.types.Reply.TheVariants as reply
use Rattle.dv_model.specs.Sessions.{State, is_select, is_write, limit_of, missing_number}
use Rattle.dv_model.specs.Transcripts.{Line, is_unavailable}
use Rattle.dv_answer.specs.Refusing.{own_refusal}
use Rattle.dv_answer.proofs.Limits.{refusal_goes_on}
use Rattle.dv_playing.specs.Playing.{Play, group_here, refused_here}
use Rattle.dv_serving.proofs.Counting.{by_some, limit_available}

-- ---- the session's own

owns : (b : Bool) (o : Option ℕ) (r : Reply) → cond b (Some reply.NotSelected) (option_map (λ n. reply.NoMessage n) o) ≡ Some r → is_unavailable r ≡ false
owns true o r e = by_some (Some reply.NotSelected) reply.NotSelected r refl refl e
owns false (Some n) r e = by_some (Some (reply.NoMessage n)) (reply.NoMessage n) r refl refl e
owns false None r e = absurd cc

-- it is no failure of the disk
pub own_available : (x : State) (c : Command) (r : Reply) → own_refusal x c ≡ Some r → is_unavailable r ≡ false
own_available x c r is = owns (not x.selected && not (is_select c)) (missing_number c x.view) r is

-- ---- in the play

module _ (play : Play) (line : Line) where
  abbrev own : Option Reply
  own = own_refusal (play.states line.0) line.1

  abbrev limit : Option Reply
  limit = limit_of line.1 play.mailbox play.log.rotates play.mark (group_here play line)

  -- the session's own is the first, and then a write may meet a limit
  pub refused_is : refused_here play line ≡ option_or own (cond (is_write line.1) limit None)
  refused_is = refusal_goes_on (play.states line.0) line.1 play.mailbox play.log.rotates play.mark play.log.guid

  pub own_refuses : (r : Reply) → own ≡ Some r → refused_here play line ≡ Some r
  own_refuses r is = refused_is ∙ ap (λ (o : Option Reply). option_or o (cond (is_write line.1) limit None)) is

  pub reads_allowed : own ≡ None → is_write line.1 ≡ false → refused_here play line ≡ None
  reads_allowed is read =
      refused_is ∙ ap (λ (o : Option Reply). option_or o (cond (is_write line.1) limit None)) is ∙ ap (λ (b : Bool). cond b limit None) read

  by_parts : (o : Option Reply) → own ≡ o → (b : Bool) → (r : Reply) → option_or o (cond b limit None) ≡ Some r → is_unavailable r ≡ false
  by_parts (Some q) e b r is = let same : q ≡ r = cc in own_available (play.states line.0) line.1 r (e ∙ ap Some same)
  by_parts None e true r is = limit_available line.1 play.mailbox play.log.rotates play.mark (group_here play line) r is
  by_parts None e false r is = absurd cc

  -- no refusal is a failure of the disk
  pub refused_available : (r : Reply) → refused_here play line ≡ Some r → is_unavailable r ≡ false
  refused_available r is = by_parts own refl (is_write line.1) r (sym refused_is ∙ is)
