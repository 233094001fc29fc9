-- A story goes on by one command of its session.
use Rattle.std.proofs.Common.{◌≡◌, ◌∙◌, inl, inr, ℕ, ◌+◌, ◌-◌, ◌≤◌, Bool, true, false, cond, List, [], ◌∷◌, ◌++◌, length, nat_eq, Option, Some, None, refl, sym, ap, subst, arith}
use Rattle.std.specs.Prelude.{◌⊎◌, drop, if◌then◌else◌}
use Rattle.std.specs.List.{list_any}
use Rattle.std.proofs.lemmas.Bool.Decides.{nat_tests}
use Rattle.std.proofs.lemmas.List.Sums.{sum_by-append}
use Rattle.dv_model.specs.declared.types.Command.{Command}
use Rattle.dv_model.specs.declared.types.Mailbox.{Mailbox}
use Rattle.dv_model.specs.declared.types.Reply.{Reply}
use Rattle.dv_model.specs.Journals.{IsSound, Log}
use Rattle.dv_model.specs.Sessions.{State}
use Rattle.dv_model.specs.Transcripts.{Answered, HasLeft, IsTurn, Turn, Wrote, is_unavailable, unavailable_count}
use Rattle.dv_model.specs.Views.{View}
use Rattle.dv_interleavings.specs.Promises.{GoesOn}
use Rattle.dv_stories.specs.Stories.{NextLeft, Progress, Story, places_of}
use Rattle.dv_stories.proofs.Stories as stories

-- a command is answered behind the entries that it met, or behind one more, which it wrote
wrote_one : (log : Log) (author met q : ℕ) (view : View) (c : Command) (m : Mailbox) → Wrote log author met q view c m → (q ≡ met) ⊎ (q ≡ met + 1)
wrote_one log author met q view c m (inl has) = inr has.behind
wrote_one log author met q view c m (inr none) = inl none.0

turn_wrote : (log : Log) (base author : ℕ) (t : Turn) → IsTurn log base author t → (t.behind ≡ t.met) ⊎ (t.behind ≡ t.met + 1)
turn_wrote log base author t is = by is.answered
  where
    by : Answered log base author t.met t.behind t.before t.command t.replies t.after → (t.behind ≡ t.met) ⊎ (t.behind ≡ t.met + 1)
    by (inl refused) = inl refused.nothing_written
    by (inr (inl failed)) = inl failed.nothing_written
    by (inr (inr told)) = wrote_one log author t.met t.behind t.before.view t.command told.before told.wrote

places_one : (t : Turn) → (t.behind ≡ t.met) ⊎ (t.behind ≡ t.met + 1) → length (places_of (t ∷ [])) ≡ t.behind - t.met
places_one t (inl same) =
    let no : nat_eq t.behind (t.met + 1) ≡ false = grind (arith, nat_tests) in
    ap (λ (b : Bool). length (if b then t.met ∷ [] else [])) no ∙ omega (arith, same)
places_one t (inr more) =
    let yes : nat_eq t.behind (t.met + 1) ≡ true = grind (arith, nat_tests) in
    ap (λ (b : Bool). length (if b then t.met ∷ [] else [])) yes ∙ omega (arith, more)

pub count_push : (replies : List (List Reply)) (lines : List Reply) → unavailable_count (replies ++ lines ∷ []) ≡ unavailable_count replies + unavailable_count (lines ∷ [])
count_push replies lines = sum_by-append (λ (rs : List Reply). cond (list_any is_unavailable rs) 1 0) replies (lines ∷ [])

-- a session that isn't spent came so far
abbrev pub going : State → ℕ → ℕ → List (List Reply) → Progress
going x seen wrote replies = record { state = x; seen = seen; wrote = wrote; refused = unavailable_count replies; left = None }

module _ (log later : Log) (base author : ℕ) (commands : List Command) (replies : List (List Reply)) (sound : IsSound log) (on : GoesOn log later) (x : State) (seen wrote : ℕ) (story : Story log base author commands replies (going x seen wrote replies)) where
  -- it saw more
  pub story_seen : (q : ℕ) → seen ≤ q → q ≤ length later.entries → Story later base author commands replies (going x q wrote replies)
  story_seen q up within = stories.sees_more log later base author commands replies (going x seen wrote replies) q sound on up within story

  module _ (c : Command) (rest : List Command) (next : drop (length replies) commands ≡ c ∷ rest) (within : seen ≤ length later.entries) where
    -- its next command was answered
    pub story_told : (met behind : ℕ) (lines : List Reply) (y : State) → seen ≤ met → IsTurn later base author (record { before = x; command = c; met = met; behind = behind; replies = lines; after = y })
        → Story later base author commands (replies ++ lines ∷ []) (going y behind (wrote + (behind - met)) (replies ++ lines ∷ []))
    story_told met behind lines y low turn =
        let t : Turn = record { before = x; command = c; met = met; behind = behind; replies = lines; after = y } in
        let on_now = story_seen seen (omega arith) within in
        let told = stories.goes_on later base author commands replies (going x seen wrote replies) t refl on_now (record { rest = rest; next = next; state = refl; turn = turn; met = low }) in
        let places : length (places_of (t ∷ [])) ≡ behind - met = places_one t (turn_wrote later base author t turn) in
        subst (λ (n : ℕ). Story later base author commands (replies ++ lines ∷ []) (record { state = y; seen = behind; wrote = wrote + n; refused = unavailable_count (replies ++ lines ∷ []); left = None })) places
        (subst (λ (n : ℕ). Story later base author commands (replies ++ lines ∷ []) (record { state = y; seen = behind; wrote = wrote + length (places_of (t ∷ [])); refused = n; left = None })) (sym (count_push replies lines)) told)

    -- its next command wrote its entry, and isn't answered
    pub story_left : (k : ℕ) → seen ≤ k → HasLeft later author k x c → Story later base author commands replies (record { state = x; seen = k + 1; wrote = wrote + 1; refused = unavailable_count replies; left = Some k })
    story_left k low left =
        let on_now = story_seen seen (omega arith) within in
        stories.ends later base author commands replies (going x seen wrote replies) k refl low on_now (subst (λ (cs : List Command). NextLeft later author x cs k) (sym next) left)
