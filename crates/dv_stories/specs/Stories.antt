-- What a session did since it was made, over a log that goes on.
use Rattle.std.specs.Prelude.{◌≡◌, ℕ, zero, suc, ◌+◌, ◌≤◌, List, [], ◌∷◌, ◌++◌, drop, length, IfSome, Option, Some, None, nat_eq, option_to_list, unwrap_or, if◌then◌else◌}
use Rattle.dv_model.specs.declared.types.Command.{Command}
use Rattle.dv_model.specs.declared.types.Reply.{Reply}
use Rattle.dv_model.specs.Journals.{Log, IsSound}
use Rattle.dv_model.specs.Sessions.{State, new_session}
use Rattle.dv_model.specs.Transcripts.{HasLeft, IsTurn, Speaks, Turn, unavailable_count}

-- ---- what turns write and see

-- the places of the entries that the turns wrote, each by the number of entries before it
abbrev pub places_of : List Turn → List ℕ
places_of [] = []
places_of (t ∷ turns) =
    if nat_eq t.behind (t.met + 1) then t.met ∷ places_of turns else places_of turns

-- each turn meets no fewer entries than its session had seen, and sees those behind it
abbrev pub MeetNoFewer : ℕ → List Turn → ℕ → Type 0
MeetNoFewer seen [] last = seen ≤ last
MeetNoFewer seen (t ∷ turns) last = (seen ≤ t.met) × MeetNoFewer t.behind turns last

-- ---- how far a session came

-- what a session shows of itself
pub record Progress : Type 0 where
  pub state : State
  -- how many entries of the log it has seen
  pub seen : ℕ
  -- how many it wrote
  pub wrote : ℕ
  -- how many of its commands the disk's failure answered
  pub refused : ℕ
  -- the place of its last entry, where that was written and its command isn't answered
  pub left : Option ℕ

-- it was just made
abbrev pub new_progress : Progress
new_progress = record { state = new_session; seen = 0; wrote = 0; refused = 0; left = None }

-- one command more is answered
abbrev pub with_turn : Progress → Turn → Progress
with_turn p t = record {
  state = t.after;
  seen = t.behind;
  wrote = p.wrote + length (places_of (t ∷ []));
  refused = p.refused + unavailable_count (t.replies ∷ []);
  left = p.left;
}

-- the next command wrote an entry behind the first k, and isn't answered
abbrev pub with_left : Progress → ℕ → Progress
with_left p k = record p { seen = k + 1; wrote = p.wrote + 1; left = Some k }

-- ---- its story

-- the entry behind the first k was left by the first of these commands
abbrev pub NextLeft : Log → ℕ → State → List Command → ℕ → Type 0
NextLeft log author x [] k = ⊥
NextLeft log author x (c ∷ commands) k = HasLeft log author k x c

-- Its turns since it was made, before the log's first entry: none met fewer entries than the
-- session had seen, refused commands included. With the entry that was left they wrote so many.
pub record Story (log : Log) (base author : ℕ) (commands : List Command)
    (replies : List (List Reply)) (p : Progress) : Type 0 where
  pub speaks : Speaks log base author commands replies
  pub begins : speaks.start ≡ 0
  pub state : speaks.state ≡ p.state
  pub left : IfSome p.left (NextLeft log author p.state (drop (length replies) commands))
  pub sees : MeetNoFewer 0 speaks.turns (unwrap_or p.left p.seen)
  pub seen : IfSome p.left (λ k. k + 1 ≤ p.seen)
  pub there : p.seen ≤ length log.entries
  pub wrote : length (places_of speaks.turns ++ option_to_list p.left) ≡ p.wrote
  pub refused : unavailable_count replies ≡ p.refused

-- the next command of a session is answered by this turn
pub record IsNextTurn (log : Log) (base author : ℕ) (commands : List Command)
    (replies : List (List Reply)) (p : Progress) (t : Turn) : Type 0 where
  pub rest : List Command
  pub next : drop (length replies) commands ≡ t.command ∷ rest
  pub state : t.before ≡ p.state
  pub turn : IsTurn log base author t
  -- it met no fewer entries than the session had seen
  pub met : p.seen ≤ t.met

-- ---- all sessions of a log

-- the sum over the authors from 1 to n
abbrev pub total : ℕ → (ℕ → ℕ) → ℕ
total zero count = 0
total (suc n) count = count (suc n) + total n count

-- each author from 1 to n has a story, and together they wrote as many entries as the log has
pub record AreAll (log : Log) (base n : ℕ) (commands : ℕ → List Command)
    (replies : ℕ → List (List Reply)) (p : ℕ → Progress) : Type 0 where
  pub sound : IsSound log
  pub story : (i : ℕ) → 1 ≤ i → i ≤ n → Story log base i (commands i) (replies i) (p i)
  pub all : total n (λ i. (p i).wrote) ≡ length log.entries
