-- What goes on over a line that writes no group.
use Rattle.std.proofs.Common.{◌≡◌, inl, inr, ⊎_elim, ℕ, Bool, true, List, [], ◌∷◌, ◌++◌, length, Option, Some, refl, sym, ◌∙◌, ap, subst}
use Rattle.dv_model.specs.declared.types.Mailbox.{Mailbox}
use Rattle.dv_model.specs.declared.types.Mark.{Mark}
use Rattle.dv_model.specs.declared.types.Reply.{Reply}
use Rattle.dv_model.specs.Journals.{Log, is_rotation_due}
use Rattle.dv_shelf.specs.Folders.{Folder}
use Rattle.dv_files.specs.Texts.{place_of}
use Rattle.dv_writing.specs.Keeping.{Gives}
use Rattle.dv_playing.specs.Playing.{Attempt, Play, begin, refused_here, stepped_by}
use Rattle.dv_playing.proofs.Plays.{goes_on}
use Rattle.dv_store.specs.Rest.{IsAtRest}
use Rattle.dv_serial.specs.Following.{IsAt, Keeps}
use Rattle.dv_serial.specs.Places.{play_of}
use Rattle.dv_serving.specs.Places.{GivesPlay, StandsAt, next_file}
use Rattle.dv_serial.specs.Servings.{Serving}
use Rattle.dv_serial.proofs.Failing.{owed_longer}
use Rattle.dv_shelf.specs.Sees.{SeesFolder}

-- the log, the mailbox and the place stay
pub record WritesNothing (before behind : Play) : Type 0 where
  pub log : behind.log ≡ before.log
  pub mailbox : behind.mailbox ≡ before.mailbox
  pub mark : behind.mark ≡ before.mark
  pub begun : behind.begun ≡ before.begun

pub same_writes_nothing : (before behind : Play) → behind ≡ before → WritesNothing before behind
same_writes_nothing before behind same = record {
  log = ap (λ (p : Play). p.log) same;
  mailbox = ap (λ (p : Play). p.mailbox) same;
  mark = ap (λ (p : Play). p.mark) same;
  begun = ap (λ (p : Play). p.begun) same;
}

-- a folder gives the one where it gives the other
pub gives_same : (before behind : Play) (c : Folder) → WritesNothing before behind → GivesPlay before c → GivesPlay behind c
gives_same before behind c same =
    ⊎_elim (λ gives. inl (at before.mark gives (sym same.mark)))
    (λ next. inr (ap (is_rotation_due true) same.mark ∙ next.0, subst (λ (k : Mark). Gives behind.log behind.mailbox (next_file k) c) (sym same.mark) (at (next_file before.mark) next.1 refl)))
  where
    at : (mark : Mark) → Gives before.log before.mailbox mark c → {other : Mark} → mark ≡ other → Gives behind.log behind.mailbox other c
    at mark gives is =
        subst (λ (k : Mark). Gives behind.log behind.mailbox k c) is
        (subst (λ (m : Mailbox). Gives behind.log m mark c) (sym same.mailbox) (subst (λ (l : Log). Gives l before.mailbox mark c) (sym same.log) gives))

module _ (clock : ℕ → ℕ) (start : Log) (attempts : List Attempt) (a : Attempt) where
  -- a line that is refused leaves all as it was
  pub refused_stays : (refusal : Reply) → refused_here (play_of clock start attempts) a.line ≡ Some refusal → play_of clock start (attempts ++ a ∷ []) ≡ play_of clock start attempts
  refused_stays refusal is =
      goes_on clock (begin start) attempts a ∙ ap (λ (o : Option Reply). (stepped_by clock (play_of clock start attempts) a o).play) is

module _ {S C : Type 0} where
  -- a serving is where both plays stand
  pub at_on : (before behind : Play) (serving : Serving S C) → WritesNothing before behind → IsAt before serving → IsAt behind serving
  at_on before behind serving same at = record {
    rotates = ap (λ (log : Log). log.rotates) same.log ∙ at.rotates;
    groups = ap (λ (log : Log). length log.entries) same.log ∙ at.groups;
    mailbox = same.mailbox ∙ at.mailbox;
    mark = same.mark ∙ at.mark;
    place = subst (λ (b : Bool). StandsAt b behind.mark (place_of serving.store.chain) serving.store.owed) (sym same.begun)
        (subst (λ (k : Mark). StandsAt before.begun k (place_of serving.store.chain) serving.store.owed) (sym same.mark) at.place);
  }

  -- and keeps the log behind one line more
  pub keeps_on : (sees : SeesFolder S) (clock : ℕ → ℕ) (start : Log) (attempts : List Attempt) (a : Attempt) (serving : Serving S C) → WritesNothing (play_of clock start attempts) (play_of clock start (attempts ++ a ∷ []))
      → Keeps sees clock start attempts serving → Keeps sees clock start (attempts ++ a ∷ []) serving
  keeps_on sees clock start attempts a serving same keeps = record {
    at = at_on (play_of clock start attempts) (play_of clock start (attempts ++ a ∷ [])) serving same keeps.at;
    debt = keeps.debt;
    owed = owed_longer clock start attempts a (place_of serving.store.chain) same.log same.mailbox same.mark keeps.debt keeps.owed;
    rests = subst (λ (log : Log). IsAtRest sees log keeps.debt serving.store) (sym same.log) keeps.rests;
  }
