-- Sessions that wrote the entries of one keeper have transcripts of one log.
use Rattle.std.proofs.Common.{◌≡◌, ◌∙◌, ℕ, zero, suc, ◌+◌, ◌-◌, ◌<◌, ◌≤◌, List, [], ◌∷◌, ◌++◌, length, get_or, refl, sym, ap, subst, arith, append_assoc, length-append}
use Rattle.std.specs.Prelude.{All}
use Rattle.std.specs.List.{sum_by}
use Rattle.std.proofs.lemmas.List.{map-append}
use Rattle.std.proofs.lemmas.List.Elements.{All-head, All-tail}
use Rattle.std.proofs.lemmas.List.Sums.{sum_by-append}
use mathlib.Core.List.{IsPrefix}
use Rattle.dv_model.specs.declared.types.Command.{Command}
use Rattle.dv_model.specs.declared.types.Entry.{Entry}
use Rattle.dv_model.specs.declared.types.Reply.{Reply}
use Rattle.dv_model.specs.Journals.{Log}
use Rattle.dv_model.specs.Transcripts.{unavailable_count}
use Rattle.dv_interleavings.specs.Promises.{GoesOn}
use Rattle.dv_validity.proofs.Logs.{Extends}
use Rattle.dv_stories.specs.Stories.{AreAll, Progress, Story, new_progress, total}
use Rattle.dv_stories.proofs.Stories.{sees_more}
use Rattle.dv_front.specs.declared.notes.Note.{Note}
use Rattle.dv_front.specs.Notes.{entries_of}
use Rattle.dv_notes.specs.Logs.{AreNotesOf, log_of}
use Rattle.dv_notes.proofs.Logs.{fresh_entries, logs_are_sound, logs_extend}
use Rattle.dv_notes.proofs.Notes.{fronts_are_good}
use Rattle.dv_member.specs.Members.{Member, log_seen, notes_of}
use Rattle.dv_threads.specs.Scripts.{told_to}
use Rattle.dv_threads.specs.Sessions.{AreAsked, FewAreUnavailable, HasTold, HaveTold, SessionsWriteOneLog}
use Rattle.dv_threads.proofs.Totals.{total_list}
use Rattle.dv_threads.proofs.Transcripts.{stories_are_transcripts}

-- ---- a log goes on by notes

-- the first of them are good
pub front_are : (start : Log) (front more : List Note) → AreNotesOf start (front ++ more) → AreNotesOf start front
front_are start front more are = record { sound = are.sound; fresh = are.fresh; good = fronts_are_good start.start start.start_mark front more are.good }

pub notes_on : (start : Log) (front more : List Note) → AreNotesOf start (front ++ more) → GoesOn (log_of start front) (log_of start (front ++ more))
notes_on start front more are =
    let on : Extends (log_of start front) (log_of start (front ++ more)) = logs_extend start front more are in
    record {
      start = (refl, refl);
      files = (refl, refl);
      more = entries_of more;
      entries =
          ap (λ (es : List Entry). start.entries ++ es) (map-append (λ (n : Note). n.entry) front more)
          ∙ sym (append_assoc start.entries (entries_of front) (entries_of more));
      mailboxes = on.same_at;
      messages = on.messages;
    }

many_entries : (notes : List Note) → length (entries_of notes) ≡ length notes
many_entries [] = refl
many_entries (n ∷ notes) = ap suc (many_entries notes)

-- as many entries as notes
pub log_long : (start : Log) (notes : List Note) → start.entries ≡ [] → length (log_of start notes).entries ≡ length notes
log_long start notes fresh = ap length (fresh_entries start notes fresh) ∙ many_entries notes

module _ (start : Log) (count : ℕ) where
  -- how far the sessions came, in turn
  abbrev progresses : (first : ℕ) (asks : List (List Command)) (replies : List (List (List Reply))) (sessions : List Member) → HaveTold start count first asks replies sessions → List Progress
  progresses first [] [] [] have = []
  progresses first (ask ∷ asks) (told ∷ replies) (s ∷ sessions) have = have.0.progress ∷ progresses (first + 1) asks replies sessions have.1
  progresses first [] [] (s ∷ sessions) have = absurd have
  progresses first [] (told ∷ replies) [] have = absurd have
  progresses first [] (told ∷ replies) (s ∷ sessions) have = absurd have
  progresses first (ask ∷ asks) [] [] have = absurd have
  progresses first (ask ∷ asks) [] (s ∷ sessions) have = absurd have
  progresses first (ask ∷ asks) (told ∷ replies) [] have = absurd have

  -- they are as many as have told, and wrote what these count
  record Adds (asks : List (List Command)) (replies : List (List (List Reply))) (sessions : List Member) (ps : List Progress) : Type 0 where
    pub many : length ps ≡ length asks
    pub told : length replies ≡ length asks
    pub wrote : sum_by (λ (p : Progress). p.wrote) ps ≡ sum_by (λ (s : Member). s.wrote) sessions
    pub few : sum_by unavailable_count replies ≤ sum_by (λ (s : Member). s.refused) sessions

  adds : (first : ℕ) (asks : List (List Command)) (replies : List (List (List Reply))) (sessions : List Member) (have : HaveTold start count first asks replies sessions) → Adds asks replies sessions (progresses first asks replies sessions have)
  adds first [] [] [] have = record { many = refl; told = refl; wrote = refl; few = omega arith }
  adds first (ask ∷ asks) (told ∷ replies) (s ∷ sessions) have =
      let ps : List Progress = progresses (first + 1) asks replies sessions have.1 in
      let p : Progress = have.0.progress in
      let rest = adds (first + 1) asks replies sessions have.1 in
      record {
        many = omega (arith, rest.many);
        told = omega (arith, rest.told);
        wrote = omega (arith, rest.wrote, have.0.wrote, sum_by-append (λ (q : Progress). q.wrote) (p ∷ []) ps, sum_by-append (λ (t : Member). t.wrote) (s ∷ []) sessions);
        few = omega (arith, rest.few, have.0.refused, have.0.story.refused, sum_by-append unavailable_count (told ∷ []) replies, sum_by-append (λ (t : Member). t.refused) (s ∷ []) sessions);
      }
  adds first [] [] (s ∷ sessions) have = absurd have
  adds first [] (told ∷ replies) [] have = absurd have
  adds first [] (told ∷ replies) (s ∷ sessions) have = absurd have
  adds first (ask ∷ asks) [] [] have = absurd have
  adds first (ask ∷ asks) [] (s ∷ sessions) have = absurd have
  adds first (ask ∷ asks) (told ∷ replies) [] have = absurd have

  module _ (notes : List Note) (are : AreNotesOf start notes) where
    -- one's story, over all notes
    story_on : (number : ℕ) (ask : List Command) (told : List (List Reply)) (s : Member) → IsPrefix (notes_of s) notes → (has : HasTold start count number ask told s) → Story (log_of start notes) count number ask told has.progress
    story_on number ask told s begins has =
        let all : AreNotesOf start (notes_of s ++ begins.0) = subst (AreNotesOf start) (sym begins.1) are in
        let on : GoesOn (log_seen start s) (log_of start notes) = subst (λ (ns : List Note). GoesOn (log_seen start s) (log_of start ns)) begins.1 (notes_on start (notes_of s) begins.0 all) in
        let longer : length (log_seen start s).entries ≤ length (log_of start notes).entries =
        omega (arith, log_long start (notes_of s) are.fresh, log_long start notes are.fresh, ap length begins.1, length-append (notes_of s) begins.0) in
        sees_more (log_seen start s) (log_of start notes) count number ask told has.progress has.progress.seen (logs_are_sound start (notes_of s) (front_are start (notes_of s) begins.0 all)) on (omega arith) (omega (arith, has.story.there, longer)) has.story

    story_at : (first : ℕ) (asks : List (List Command)) (replies : List (List (List Reply))) (sessions : List Member) (have : HaveTold start count first asks replies sessions) → All (λ (s : Member). IsPrefix (notes_of s) notes) sessions
        → (k : ℕ) → k < length asks → Story (log_of start notes) count (first + k) (get_or asks k []) (get_or replies k []) (get_or (progresses first asks replies sessions have) k new_progress)
    story_at first [] [] [] have begin k less = absurd (omega (arith, less))
    story_at first (ask ∷ asks) (told ∷ replies) (s ∷ sessions) have begin zero less =
        subst (λ (n : ℕ). Story (log_of start notes) count n ask told have.0.progress) (omega arith)
        (story_on first ask told s (All-head (λ (t : Member). IsPrefix (notes_of t) notes) s sessions begin) have.0)
    story_at first (ask ∷ asks) (told ∷ replies) (s ∷ sessions) have begin (suc k) less =
        let same : first + 1 + k ≡ first + suc k = omega arith in
        subst (λ (n : ℕ). Story (log_of start notes) count n (get_or asks k []) (get_or replies k []) (get_or (progresses (first + 1) asks replies sessions have.1) k new_progress)) same
        (story_at (first + 1) asks replies sessions have.1 (All-tail (λ (t : Member). IsPrefix (notes_of t) notes) s sessions begin) k (omega (arith, less)))
    story_at first [] [] (s ∷ sessions) have begin k less = absurd have
    story_at first [] (told ∷ replies) [] have begin k less = absurd have
    story_at first [] (told ∷ replies) (s ∷ sessions) have begin k less = absurd have
    story_at first (ask ∷ asks) [] [] have begin k less = absurd have
    story_at first (ask ∷ asks) [] (s ∷ sessions) have begin k less = absurd have
    story_at first (ask ∷ asks) (told ∷ replies) [] have begin k less = absurd have

    module _ (commands : ℕ → List Command) (asks : List (List Command)) (replies : List (List (List Reply))) (sessions : List Member) (have : HaveTold start count 1 asks replies sessions) (begin : All (λ (s : Member). IsPrefix (notes_of s) notes) sessions)
        (are_asked : AreAsked commands asks) where
      abbrev ps : List Progress
      ps = progresses 1 asks replies sessions have

      abbrev p : ℕ → Progress
      p i = get_or ps (i - 1) new_progress

      story_of : (i : ℕ) → 1 ≤ i → i ≤ length asks → Story (log_of start notes) count i (commands i) (told_to replies i) (p i)
      story_of zero low high = absurd (omega (arith, low))
      story_of (suc k) low high =
          let less : suc k - 1 < length asks = omega (arith, high) in
          let one : 1 + (suc k - 1) ≡ suc k = omega arith in
          let also : suc k - 1 + 1 ≡ suc k = omega arith in
          subst (λ (n : ℕ). Story (log_of start notes) count n (commands (suc k)) (told_to replies (suc k)) (p (suc k))) one
          (subst (λ (cs : List Command). Story (log_of start notes) count (1 + (suc k - 1)) cs (told_to replies (suc k)) (p (suc k))) (are_asked (suc k - 1) less ∙ ap commands also)
          (story_at 1 asks replies sessions have begin (suc k - 1) less))

      are_all : sum_by (λ (s : Member). s.wrote) sessions ≡ length notes → AreAll (log_of start notes) count (length asks) commands (told_to replies) p
      are_all sum =
          let sums = adds 1 asks replies sessions have in
          record {
            sound = logs_are_sound start notes are;
            story = story_of;
            all =
                ap (λ (n : ℕ). total n (λ i. (p i).wrote)) (sym sums.many)
                ∙ total_list (λ (q : Progress). q.wrote) new_progress ps ∙ sums.wrote ∙ sum ∙ sym (log_long start notes are.fresh);
          }

pub sessions_write_one_log : SessionsWriteOneLog
sessions_write_one_log start count notes commands asks replies sessions are begin sum have are_asked small good =
    stories_are_transcripts (log_of start notes) count (length asks) commands (told_to replies) (p start count notes are commands asks replies sessions have begin are_asked) small good
    (are_all start count notes are commands asks replies sessions have begin are_asked sum)

pub few_are_unavailable : FewAreUnavailable
few_are_unavailable start count first asks replies sessions have = (adds start count first asks replies sessions have).few
