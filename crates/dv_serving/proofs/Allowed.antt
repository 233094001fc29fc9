-- A write that its session doesn't refuse is refused by a limit alone, which its store meets.
use Rattle.std.proofs.Common.{◌≡◌, Bool, true, Option, None, sym, ◌∙◌, ap}
use Rattle.std.specs.Prelude.{if◌then◌else◌}
use Rattle.std.specs.Option.{option_or}
use Rattle.dv_model.specs.declared.types.Reply.{Reply}
use Rattle.dv_model.specs.Journals.{IsSound, Log}
use Rattle.dv_model.specs.Sessions.{State as SessionState, is_write, limit_of}
use Rattle.dv_model.specs.Transcripts.{Line}
use Rattle.dv_groups.specs.Groups.{HasSizes}
use Rattle.dv_answer.specs.Refusing.{own_refusal}
use Rattle.dv_answer.proofs.Limits.{refusal_goes_on}
use Rattle.dv_plans.specs.Overs.{limit_over}
use Rattle.dv_playing.specs.Playing.{Play, group_here, refused_here}
use Rattle.dv_store.specs.States.{State}
use Rattle.dv_serving.proofs.Places.{limit_met}
use Rattle.dv_serving.specs.Commits.{Meets}

-- the GUIDs of a sound log have their sizes
pub sound_sizes : (log : Log) → IsSound log → HasSizes log.guid
sound_sizes log sound uid = (sound.guids uid).size

module _ {S C : Type 0} (play : Play) (line : Line) (x : SessionState) (store : State S C) (same : play.states line.0 ≡ x) (meets : Meets play line x.view store) (write : is_write line.1 ≡ true) (own : own_refusal x line.1 ≡ None) where
  pub refusal_met : refused_here play line ≡ limit_over line.1 x.view store.chain play.log.guid
  refusal_met =
      let limit : Option Reply = limit_of line.1 play.mailbox play.log.rotates play.mark (group_here play line) in
      refusal_goes_on (play.states line.0) line.1 play.mailbox play.log.rotates play.mark play.log.guid
      ∙ ap (λ (s : SessionState). option_or (own_refusal s line.1) (if is_write line.1 then limit else None)) same
      ∙ ap (λ (o : Option Reply). option_or o (if is_write line.1 then limit else None)) own
      ∙ ap (λ (b : Bool). if b then limit else None) write
      ∙ sym (limit_met play line x.view store meets)
