-- No entry is written twice by the turns of a transcript.
use Rattle.std.proofs.Common.{◌≡◌, inl, inr, ℕ, zero, suc, ◌+◌, ◌<◌, ◌≤◌, List, [], ◌∷◌, ap, arith}
use Rattle.std.specs.Prelude.{All, AllPairs}
use Rattle.std.proofs.lemmas.List.Elements.{All-cons, All-head, All-nil, All-tail, All-weaker}
use Rattle.dv_model.specs.declared.types.Command.{Command}
use Rattle.dv_model.specs.declared.types.Reply.{Reply}
use Rattle.dv_model.specs.Journals.{Log}
use Rattle.dv_model.specs.Sessions.{Answer, State, new_session}
use Rattle.dv_model.specs.Transcripts.{Answered, IsTurn, LeadsTo, Speaks, Turn}

-- behind a turn the session was told no less, and of the entry that the turn wrote
record TellsMore (t : Turn) : Type 0 where
  up : t.before.told ≤ t.after.told
  own : t.behind ≡ t.met + 1 → t.met + 1 ≤ t.after.told

tells_more : (log : Log) (base author : ℕ) (t : Turn) → IsTurn log base author t → TellsMore t
tells_more log base author t is = by_answer is.answered
  where
    stays : t.after ≡ t.before → t.behind ≡ t.met → TellsMore t
    stays same nothing = let told : t.after.told ≡ t.before.told = ap (λ (x : State). x.told) same in record { up = omega arith; own = λ wrote. absurd (omega arith) }

    by_answer : Answered log base author t.met t.behind t.before t.command t.replies t.after → TellsMore t
    by_answer (inl refused) = stays refused.stays refused.nothing_written
    by_answer (inr (inl failed)) = stays failed.stays failed.nothing_written
    by_answer (inr (inr told)) =
        let place : t.behind ≡ t.after.told = ap (λ (a : Answer). a.next.told) told.is in let low = told.seen.0 in record { up = omega arith; own = λ wrote. omega arith }

pub all_pairs_cons : (R : Turn → Turn → Type 0) (t : Turn) (turns : List Turn) → All (R t) turns → AllPairs R turns → AllPairs R (t ∷ turns)
all_pairs_cons R t turns first rest zero zero d less h = absurd (omega (arith, less))
all_pairs_cons R t turns first rest zero (suc j) d less h = first j d (omega (arith, h))
all_pairs_cons R t turns first rest (suc i) zero d less h = absurd (omega (arith, less))
all_pairs_cons R t turns first rest (suc i) (suc j) d less h = rest i j d (omega (arith, less)) (omega (arith, h))

module _ (log : Log) (base author : ℕ) where
  -- later turns meet no fewer entries than the session was told of
  meet_told : (x : State) (turns : List Turn) (y : State) → All (IsTurn log base author) turns → LeadsTo x turns y → All (λ t. x.told ≤ t.met) turns
  meet_told x [] y each leads = All-nil (λ (t : Turn). x.told ≤ t.met)
  meet_told x (t ∷ turns) y each leads =
      let first : IsTurn log base author t = All-head (IsTurn log base author) t turns each in
      let more = tells_more log base author t first in
      let same : t.before.told ≡ x.told = ap (λ (z : State). z.told) leads.0 in
      let low = first.met.0 in
      let up = more.up in
      All-cons (λ (u : Turn). x.told ≤ u.met) t turns (omega arith)
      (All-weaker (λ (u : Turn). t.after.told ≤ u.met) (λ (u : Turn). x.told ≤ u.met) (λ u le. omega arith) turns
      (meet_told t.after turns y (All-tail (IsTurn log base author) t turns each) leads.1))

  distinct : (x : State) (turns : List Turn) (y : State) → All (IsTurn log base author) turns → LeadsTo x turns y → AllPairs (λ one later. one.behind ≡ one.met + 1 → one.met < later.met) turns
  distinct x [] y each leads = λ i j d less h. absurd (omega (arith, h))
  distinct x (t ∷ turns) y each leads =
      let more = tells_more log base author t (All-head (IsTurn log base author) t turns each) in
      let others = All-tail (IsTurn log base author) t turns each in
      all_pairs_cons (λ one later. one.behind ≡ one.met + 1 → one.met < later.met) t turns
      (All-weaker (λ (u : Turn). t.after.told ≤ u.met) (λ (u : Turn). t.behind ≡ t.met + 1 → t.met < u.met) (λ u le wrote. let own = more.own wrote in omega arith) turns (meet_told t.after turns y others leads.1))
      (distinct t.after turns y others leads.1)

pub writes_are_distinct : (log : Log) (base author : ℕ) (commands : List Command) (replies : List (List Reply)) (speaks : Speaks log base author commands replies)
    → AllPairs (λ one later. one.behind ≡ one.met + 1 → one.met < later.met) speaks.turns
writes_are_distinct log base author commands replies speaks = distinct log base author (record new_session { told = speaks.start }) speaks.turns speaks.state speaks.each speaks.leads
