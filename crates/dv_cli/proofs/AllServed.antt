-- Lines of which none is answered by the disk's failure are played as served ones.
use Rattle.std.proofs.Common.{◌≡◌, ℕ, ◌+◌, Bool, true, false, cond, List, [], ◌∷◌, map, Option, Some, None, refl, sym, ◌∙◌, ap, arith}
use Rattle.std.specs.Prelude.{count_by}
use Rattle.std.specs.List.{list_any}
use Rattle.std.proofs.lemmas.Bool.{false≢true}
use Rattle.std.proofs.lemmas.List.Sums.{sum_by-cons}
use Rattle.dv_model.specs.declared.types.Reply.{Reply}
use Rattle.dv_model.specs.Transcripts.{is_unavailable, touches_disk, unavailable_count}
use Rattle.dv_model.specs.Transcripts as transcripts
use Rattle.dv_playing.specs.Laws.{lines_of}
use Rattle.dv_cli.specs.Outputs.{served}
use Rattle.dv_playing.specs.Playing.{Attempt, Failed, Outcome, Play, Served, Step, fared, played, refused_here, replies_to, step, stepped_by}

-- ---- none of them

parted : (b : Bool) (n : ℕ) → cond b 1 0 + n ≡ 0 → (b ≡ false) × (n ≡ 0)
parted true n is = absurd (omega (arith, is))
parted false n is = (refl, omega (arith, is))

pub none_of : {X : Type 0} (p : X → Bool) (x : X) (xs : List X) → count_by p (x ∷ xs) ≡ 0
    → (p x ≡ false) × (count_by p xs ≡ 0)
none_of p x xs is = parted (p x) (count_by p xs) (sym (sum_by-cons (λ y. cond (p y) 1 0) x xs) ∙ is)

-- ---- one line

fared_so : (clock : ℕ → ℕ) (play : Play) (line : transcripts.Line) (outcome : Outcome)
    → list_any is_unavailable (fared clock play line outcome).replies ≡ false
    → fared clock play line outcome ≡ fared clock play line Served
fared_so clock play line Served none = refl
fared_so clock play line (Failed faults rotation) none = absurd (false≢true (sym none))

touching : (clock : ℕ → ℕ) (play : Play) (a : Attempt) (b : Bool)
    → list_any is_unavailable (fared clock play a.line (cond b a.outcome Served)).replies ≡ false
    → fared clock play a.line (cond b a.outcome Served)
    ≡ fared clock play a.line (cond b Served Served)
touching clock play a true none = fared_so clock play a.line a.outcome none
touching clock play a false none = refl

stepped_so : (clock : ℕ → ℕ) (play : Play) (a : Attempt) (refusal : Option Reply)
    → list_any is_unavailable (stepped_by clock play a refusal).replies ≡ false
    → stepped_by clock play a refusal ≡ stepped_by clock play (served a.line) refusal
stepped_so clock play a (Some refusal) none = refl
stepped_so clock play a None none = touching clock play a (touches_disk a.line.1) none

pub served_so : (clock : ℕ → ℕ) (play : Play) (a : Attempt)
    → list_any is_unavailable (step clock play a).replies ≡ false
    → step clock play a ≡ step clock play (served a.line)
served_so clock play a none = stepped_so clock play a (refused_here play a.line) none

-- ---- all lines

-- the same replies, and the same play behind them
pub record PlaysAs (clock : ℕ → ℕ) (play : Play) (one other : List Attempt) : Type 0 where
  pub replies : replies_to clock play one ≡ replies_to clock play other
  pub behind : played clock play one ≡ played clock play other

plays_on : (clock : ℕ → ℕ) (play : Play) (a b : Attempt) (one other : List Attempt)
    → step clock play a ≡ step clock play b → PlaysAs clock (step clock play a).play one other
    → PlaysAs clock play (a ∷ one) (b ∷ other)
plays_on clock play a b one other same rest = record {
  replies =
      ap (λ (rs : List (List Reply)). (step clock play a).replies ∷ rs) rest.replies
      ∙ ap (λ (s : Step). s.replies ∷ replies_to clock s.play other) same;
  behind = rest.behind ∙ ap (λ (s : Step). played clock s.play other) same;
}

pub all_served_so : (clock : ℕ → ℕ) (play : Play) (attempts : List Attempt)
    → unavailable_count (replies_to clock play attempts) ≡ 0
    → PlaysAs clock play attempts (map served (lines_of attempts))
all_served_so clock play [] none = record { replies = refl; behind = refl }
all_served_so clock play (a ∷ attempts) none =
    let s = step clock play a in
    let parts = none_of (list_any is_unavailable) s.replies (replies_to clock s.play attempts) none in
    plays_on clock play a (served a.line) attempts (map served (lines_of attempts))
    (served_so clock play a parts.0) (all_served_so clock s.play attempts parts.1)
