-- What a call of a session is asked is allowed.
use Rattle.std.proofs.Common.{◌≡◌, ◌∙◌, ◌∷◌, ℕ, Bool, false, true, List, Option, Some, ap, refl, subst, sym}
use Rattle.std.specs.Prelude.{All, is_some, not}
use Rattle.std.proofs.lemmas.List.Elements.{All-head}
use Rattle.dv_answer.specs.Refusing.{own_refusal}
use Rattle.dv_model.specs.declared.types.Command.{Command}
use Rattle.dv_model.specs.declared.types.Command.TheVariants as command
use Rattle.dv_model.specs.declared.types.Reply.TheVariants as reply
use Rattle.dv_model.specs.Sessions.{State}
use Rattle.dv_script.specs.declared.types.Line.{Line}
use Rattle.dv_script.specs.Sources.{IsNext, named}
use Rattle.dv_serving.specs.Servable.{IsServable}

-- a session that doesn't refuse NOOP has selected the mailbox
pub is_selected : (x : State) (is : Bool) → is_some (own_refusal x command.Noop) ≡ not is → is ≡ true → x.selected ≡ true
is_selected x is none holds = by_cases x.selected refl
  where
    by_cases : (b : Bool) → x.selected ≡ b → x.selected ≡ true
    by_cases true at = at
    by_cases false at =
        let own : own_refusal x command.Noop ≡ Some reply.NotSelected = rw at refl in
        let both : true ≡ false = ap is_some (sym own) ∙ none ∙ ap not holds in
        cc

-- the line that was given may be served, as each one that was left
pub given_serves : (old new : List (List ℕ × Command)) (given : Option Line) (line : Line) → All (λ (l : List ℕ × Command). IsServable l.1) old → IsNext old given new → given ≡ Some line → IsServable line.command
given_serves old new given line each next is =
    let first : old ≡ named line ∷ new = subst (λ (o : Option Line). IsNext old o new) is next in
    All-head (λ (l : List ℕ × Command). IsServable l.1) (named line) new (subst (All (λ (l : List ℕ × Command). IsServable l.1)) first each)
