-- What is promised of each world that stands.
use Rattle.std.proofs.Common.{◌≡◌, ◌⊎◌, inl, inr, ℕ, List, [], ◌∷◌, ◌++◌, Option, Some, None, refl, sym, ◌∙◌, ap, subst}
use Rattle.std.specs.Prelude.{All, IfSome, flat_map, map, reverse}
use Rattle.std.proofs.lemmas.List.{map-append, reverse-append}
use Rattle.std.proofs.lemmas.List.Elements.{All-head}
use Rattle.std.proofs.lemmas.Option.{none-some, same_Some}
use Rattle.dv_model.specs.declared.types.Command.{Command}
use Rattle.dv_model.specs.declared.types.Mailbox.{Mailbox}
use Rattle.dv_model.specs.declared.types.Reply.{Reply}
use Rattle.dv_model.specs.declared.types.Step.{Step}
use Rattle.dv_model.specs.declared.types.Step.TheVariants.{Full}
use Rattle.dv_model.specs.Journals.{Log, IsSound, at, mark_of}
use Rattle.dv_model.specs.Sessions.{Answer, State, answer, step_of, view_before}
use Rattle.dv_model.specs.Transcripts.{LeadsTo, Turn}
use Rattle.dv_model.specs.Views.{View, all_heard, moved, shown}
use Rattle.dv_interleavings.specs.Promises.{AreEqualWhereTold, Holds, HoldsOf, last_step}
use Rattle.dv_interleavings.specs.Worlds.{World, Session, Pending}
use Rattle.dv_promises.specs.Standing.{begins_at, IsLive, IsToldTurn, Stands}
use Rattle.dv_promises.proofs.Crashing.{all_back}
use Rattle.dv_promises.proofs.Knowing.{KnowsSelected, turns_know}
use Rattle.dv_promises.proofs.Staying.{numbers_stay}
use Rattle.dv_promises.proofs.Transcripts.{is_spoken, pair_of}

-- ---- a Full step shows the mailbox

-- the view has the mailbox's rows as they are
pub record SawAll (log : Log) (x : State) : Type 0 where
  pub mailbox : Mailbox
  pub is : at log x.told ≡ Some mailbox
  pub view : x.view ≡ record { rows = map shown mailbox.rows; next_uid = mailbox.next_uid }

pub saw_turn : (log : Log) (s : ℕ) (t : Turn) → IsToldTurn log s t → step_of t.command ≡ Full → SawAll log t.after
saw_turn log s t is full =
    let told = is.told in
    let old : View = view_before t.command t.before.view in
    let next : t.after ≡ (answer log.mail t.before t.command told.before t.behind told.mailbox (mark_of log t.behind)).next = sym (ap (λ (a : Answer). a.next) told.is) in
    subst (SawAll log) (sym next) (record {
      mailbox = told.mailbox;
      is = told.is_there;
      view = ap (λ (step : Step). moved step old told.mailbox) full;
    })

leads_last : (x : State) (front : List Turn) (t : Turn) (y : State) → LeadsTo x (front ++ t ∷ []) y → y ≡ t.after
leads_last x [] t y leads = leads.1
leads_last x (u ∷ front) t y leads = leads_last u.after front t y leads.1

-- a list is empty, or has a last item
from_end : {X : Type 0} (xs : List X) → (xs ≡ []) ⊎ ((front : List X) × (last : X) × (xs ≡ front ++ last ∷ []))
from_end [] = inl refl
from_end (x ∷ xs) = elim (from_end xs) [ inl none ↦ inr ([], x, ap (λ ys. x ∷ ys) none) | inr some ↦ inr (x ∷ some.0, some.1, ap (λ ys. x ∷ ys) some.2) ]

abbrev step_at : List (Command × List Reply) → Option Step
step_at [] = None
step_at (a ∷ answers) = Some (step_of a.0)

saw_all : (log : Log) (published : ℕ) (pending : Option Pending) (s : ℕ) (session : Session) → IsLive log published pending s session → last_step session ≡ Some Full → SawAll log session.state
saw_all log published pending s session live full = by_end (from_end live.story.turns)
  where
    none : live.story.turns ≡ [] → last_step session ≡ None
    none is = ap (λ (answers : List (Command × List Reply)). step_at (reverse answers)) (sym live.story.answers ∙ ap (map pair_of) is)

    last_is : (front : List Turn) (t : Turn) → live.story.turns ≡ front ++ t ∷ [] → last_step session ≡ Some (step_of t.command)
    last_is front t is =
        ap (λ (answers : List (Command × List Reply)). step_at (reverse answers)) (sym live.story.answers ∙ ap (map pair_of) is ∙ map-append pair_of front (t ∷ []))
        ∙ ap step_at (reverse-append (map pair_of front) (pair_of t ∷ []))

    by_end : (live.story.turns ≡ []) ⊎ ((front : List Turn) × (last : Turn) × (live.story.turns ≡ front ++ last ∷ [])) → SawAll log session.state
    by_end (inl empty) = absurd (none-some Full (sym (none empty) ∙ full))
    by_end (inr (front, t, is)) =
        let told : IsToldTurn log s t = All-head (IsToldTurn log s) t [] (all_back (IsToldTurn log s) front (t ∷ []) (subst (All (IsToldTurn log s)) is live.story.each)) in
        let step : step_of t.command ≡ Full = same_Some (step_of t.command) Full (sym (last_is front t is) ∙ full) in
        let end : session.state ≡ t.after = leads_last (begins_at live.story.start) front t session.state (subst (λ turns. LeadsTo (begins_at live.story.start) turns session.state) is live.story.leads) in
        subst (SawAll log) (sym end) (saw_turn log s t told step)

pub equal_views : (log : Log) (x y : State) → SawAll log x → SawAll log y → x.told ≡ y.told → x.view ≡ y.view
equal_views log x y one other same =
    let mailbox : one.mailbox ≡ other.mailbox = same_Some one.mailbox other.mailbox (sym one.is ∙ ap (at log) same ∙ other.is) in
    one.view ∙ ap (λ (m : Mailbox). record { rows = map shown m.rows; next_uid = m.next_uid }) mailbox ∙ sym other.view

-- ---- a client that listened

replies_said : (turns : List Turn) → flat_map (λ t. t.replies) turns ≡ flat_map (λ a. a.1) (map pair_of turns)
replies_said [] = refl
replies_said (t ∷ turns) = ap (λ rs. t.replies ++ rs) (replies_said turns)

module _ (log : Log) (sound : IsSound log) (published : ℕ) (pending : Option Pending) (s : ℕ) (session : Session) (live : IsLive log published pending s session) where
  none_selected : KnowsSelected log sound (begins_at live.story.start) []
  none_selected selected = absurd cc

  knows_end : KnowsSelected log sound session.state (all_heard [] (flat_map (λ a. a.1) session.answers))
  knows_end =
      subst (KnowsSelected log sound session.state) (ap (all_heard []) (replies_said live.story.turns ∙ ap (flat_map (λ (a : Command × List Reply). a.1)) live.story.answers))
      (turns_know log sound s (begins_at live.story.start) live.story.turns session.state [] live.story.each live.story.leads none_selected)

-- ---- the world

holds_of : (w : World) → Stands w → (s : ℕ) (session : Session) → w.sessions s ≡ Some session → HoldsOf w s session
holds_of w stands s session is =
    let live = stands.each s session is in
    let sound = stands.sound in
    record {
      spoken = is_spoken w s session stands.sound live;
      order = record { told = live.told; seen = live.seen; published = stands.published };
      shown = λ selected. let knows = knows_end w.log sound w.published w.pending s session live selected in record { mailbox = knows.mailbox; is = knows.is; rows = knows.rows; client = knows.client };
      numbers = numbers_stay w.log sound w.published w.pending s session live;
    }

pub holds : (w : World) → Stands w → Holds w
holds w stands = record {
  sound = stands.sound;
  each = λ s. one_holds s (w.sessions s) refl;
  equal = λ s t. both_equal s t (w.sessions s) (w.sessions t) refl refl;
}
  where
    one_holds : (s : ℕ) (o : Option Session) → w.sessions s ≡ o → IfSome o (HoldsOf w s)
    one_holds s None is = tt
    one_holds s (Some session) is = holds_of w stands s session is

    both_equal : (s t : ℕ) (o u : Option Session) → w.sessions s ≡ o → w.sessions t ≡ u → IfSome o (λ one. IfSome u (λ other. AreEqualWhereTold one other))
    both_equal s t None u is there = tt
    both_equal s t (Some one) None is there = tt
    both_equal s t (Some one) (Some other) is there =
        λ first second same. equal_views w.log one.state other.state
        (saw_all w.log w.published w.pending s one (stands.each s one is) first) (saw_all w.log w.published w.pending t other (stands.each t other there) second) same
