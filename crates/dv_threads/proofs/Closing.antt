-- What sessions did that were all handed in, and what their keeper's store gives.
use Rattle.std.proofs.Common.{◌≡◌, ◌∙◌, inl, inr, ℕ, zero, suc, ◌+◌, ◌-◌, ◌<◌, ◌≤◌, ◌^◌, Bool, true, false, List, [], ◌∷◌, ◌++◌, length, map, nat_eq, get_or, append-nil, refl, sym, ap, subst, arith}
use Rattle.std.specs.Prelude.{All, cond, filter, replicate}
use Rattle.std.specs.List.{sum_by}
use Rattle.std.proofs.lemmas.List.{length-map, length-replicate}
use Rattle.std.proofs.lemmas.List.Elements.{All-cons, All-head, All-nil, All-tail, All-weaker}
use Rattle.std.proofs.lemmas.List.Sums.{sum_by-append}
use Rattle.dv_model.specs.declared.types.Command.{Command}
use Rattle.dv_model.specs.declared.types.Mark.{Mark}
use Rattle.dv_model.specs.declared.types.Reply.{Reply}
use Rattle.dv_model.specs.Counts.{RoseBy}
use Rattle.dv_model.specs.Journals.{IsSound, IsU32, Log}
use Rattle.dv_model.specs.Sessions.{IsCommand}
use Rattle.dv_model.specs.Transcripts.{Line, commands_of, unavailable_count}
use Rattle.dv_stories.specs.Stories.{AreAll, Story, new_progress, total}
use Rattle.dv_stories.proofs.Stories.{begins}
use Rattle.dv_shelf.specs.Causes.{Stayed}
use Rattle.dv_shelf.specs.Crashes.{IsSettled}
use Rattle.dv_shelf.specs.Folders.{Folder}
use Rattle.dv_shelf.specs.Sees.{SeesFolder}
use Rattle.dv_formats.specs.Scripts.{NamedLine, sessions_of}
use Rattle.dv_front.specs.declared.notes.Note.{Note}
use Rattle.dv_notes.specs.Logs.{AreNotesOf, log_of}
use Rattle.dv_notes.proofs.Logs.{fresh_entries, logs_are_sound}
use Rattle.dv_store.specs.Opening.{IsFresh}
use Rattle.dv_store.specs.States.{State}
use Rattle.dv_serving.specs.Faults.{faults_between}
use Rattle.dv_serving.specs.Outputs.{Output}
use Rattle.dv_serving.specs.Scripts.{numbered, numbered_by}
use Rattle.dv_serving.specs.Servable.{IsServable}
use Rattle.dv_serving.proofs.Counting.{rose_none}
use Rattle.dv_beginning.specs.Begins.{start_of}
use Rattle.dv_parts.specs.declared.parts.Part.{Part}
use Rattle.dv_parts.specs.Interleaving.{commands_by_part}
use Rattle.dv_parts.specs.Parts.{AreParts}
use Rattle.dv_parts.specs.Texts.{transcripts_text}
use Rattle.dv_member.specs.Members.{Member}
use Rattle.dv_tries.specs.Tries.{GivesLast, Try}
use Rattle.dv_tries.proofs.Durable.{last_is_durable}
use Rattle.dv_tries.proofs.Keeping.{rest_gives_last}
use Rattle.dv_shared.specs.Beginning.{Begins, BeginsFolder, first_kept}
use Rattle.dv_shared.proofs.Beginnings.{first_holds}
use Rattle.dv_shared.specs.Holding.{Holds, KeepsSettled}
use Rattle.dv_shared.specs.Kept.{Kept, notes_in}
use Rattle.dv_keeper.specs.Closing.{Settles}
use Rattle.dv_keeper.proofs.Settles.{rose_fewer}
use Rattle.dv_threads.specs.declared.ending.ThreadsEnd.{ThreadsEnd}
use Rattle.dv_threads.specs.declared.ending.ThreadsEnd.TheVariants as ending
use Rattle.dv_threads.specs.Jobs.{AllAnsweredAs, AreShort, AreWhole, HasHanded, FailsSo, HandsIn, IsCaused, WritesText, end_of}
use Rattle.dv_threads.specs.Scripts.{asked, session_count, told_to}
use Rattle.dv_threads.specs.Serves.{Answers, AreAnswered, EndsWith, GivesNotes, IsShort, ServesSessions, WritesReplies}
use Rattle.dv_threads.specs.Sessions.{AreAsked}
use Rattle.dv_threads.specs.Transcripts.{AreTranscripts}
use Rattle.dv_threads.proofs.Handing.{as_many}
use Rattle.dv_threads.proofs.Sessions.{few_are_unavailable, log_long, sessions_write_one_log}
use Rattle.dv_threads.proofs.Transcripts.{stories_are_transcripts}

-- ---- the parts of a script

none_part : Part
none_part = record { name = []; commands = [] }

commands_at : (parts : List Part) (k : ℕ) → k < length parts → get_or (commands_by_part parts) k [] ≡ (get_or parts k none_part).commands
commands_at [] k less = absurd (omega (arith, less))
commands_at (p ∷ parts) zero less = refl
commands_at (p ∷ parts) (suc k) less = commands_at parts k (omega (arith, less))

module _ (lines : List NamedLine) (parts : List Part) (are_parts : AreParts lines parts) where
  part_count : length (commands_by_part parts) ≡ length parts
  part_count = length-map parts (λ (p : Part). p.commands)

  -- one for each session
  pub as_many_parts : length (commands_by_part parts) ≡ session_count lines
  as_many_parts = part_count ∙ sym (length-map parts (λ (p : Part). p.name)) ∙ ap length are_parts.names

  pub part_many : length parts ≡ session_count lines
  part_many = sym part_count ∙ as_many_parts

  pub parts_asked : AreAsked (asked lines) (commands_by_part parts)
  parts_asked k less = commands_at parts k (omega (arith, less, part_count)) ∙ are_parts.commands k none_part (omega (arith, less, part_count))

-- what holds of the commands of all lines holds of those of each session
commands_all : (P : Command → Type 0) (i : ℕ) (lines : List Line) → All (λ (line : Line). P line.1) lines → All P (commands_of i lines)
commands_all P i [] all = All-nil P
commands_all P i (line ∷ lines) all = by_test (nat_eq line.0 i) (commands_all P i lines (All-tail (λ (l : Line). P l.1) line lines all))
  where
    by_test : (b : Bool) → All P (commands_of i lines) → All P (map (λ (l : Line). l.1) (cond b (line ∷ filter (λ l. nat_eq l.0 i) lines) (filter (λ l. nat_eq l.0 i) lines)))
    by_test true rest = All-cons P line.1 (commands_of i lines) (All-head (λ (l : Line). P l.1) line lines all) rest
    by_test false rest = rest

numbered_all : (P : Command → Type 0) (names : List (List ℕ)) (lines : List NamedLine) → All (λ (line : NamedLine). P line.1) lines → All (λ (line : Line). P line.1) (map (numbered_by names) lines)
numbered_all P names [] all = All-nil (λ (line : Line). P line.1)
numbered_all P names (l ∷ lines) all =
    All-cons (λ (line : Line). P line.1) (numbered_by names l) (map (numbered_by names) lines) (All-head (λ (line : NamedLine). P line.1) l lines all) (numbered_all P names lines (All-tail (λ (line : NamedLine). P line.1) l lines all))

asked_all : (lines : List NamedLine) → All (λ (line : NamedLine). IsServable line.1) lines → (i : ℕ) → All IsServable (asked lines i)
asked_all lines servable i = commands_all IsServable i (numbered lines) (numbered_all IsServable (sessions_of lines) lines servable)

asked_good : (lines : List NamedLine) → All (λ (line : NamedLine). IsServable line.1) lines → (i : ℕ) → All IsCommand (asked lines i)
asked_good lines servable i = All-weaker IsServable IsCommand (λ c is. is.command) (asked lines i) (asked_all lines servable i)

-- so each part may be served
pub parts_servable : (lines : List NamedLine) (parts : List Part) → AreParts lines parts → All (λ (line : NamedLine). IsServable line.1) lines → All (λ (p : Part). All IsServable p.commands) parts
parts_servable lines parts are servable k d less = subst (All IsServable) (sym (are.commands k d less)) (asked_all lines servable (k + 1))

-- ---- the end

whole_at : (asks : List (List Command)) (replies : List (List (List Reply))) (k : ℕ) → k < length asks → AreWhole asks replies → length (get_or replies k []) ≡ length (get_or asks k [])
whole_at [] replies k less are = absurd (omega (arith, less))
whole_at (ask ∷ asks) [] k less are = absurd are
whole_at (ask ∷ asks) (told ∷ replies) zero less are = are.0
whole_at (ask ∷ asks) (told ∷ replies) (suc k) less are = whole_at asks replies k (omega (arith, less)) are.1

record IsShortAt (asks : List (List Command)) (replies : List (List (List Reply))) : Type 0 where
  pub at : ℕ
  pub within : at < length asks
  pub short : length (get_or replies at []) < length (get_or asks at [])

short_at : (asks : List (List Command)) (replies : List (List (List Reply))) → AreShort asks replies → IsShortAt asks replies
short_at [] replies short = absurd short
short_at (ask ∷ asks) [] short = absurd short
short_at (ask ∷ asks) (told ∷ replies) (inl less) = record { at = 0; within = omega arith; short = less }
short_at (ask ∷ asks) (told ∷ replies) (inr later) = let rest = short_at asks replies later in record { at = suc rest.at; within = omega (arith, rest.within); short = rest.short }

module _ (lines : List NamedLine) (parts : List Part) (are_parts : AreParts lines parts) (replies : List (List (List Reply))) where
  abbrev asks : List (List Command)
  asks = commands_by_part parts

  all_answered : AreWhole asks replies → AreAnswered lines replies
  all_answered are zero low high = absurd (omega (arith, low))
  all_answered are (suc k) low high =
      let less : suc k - 1 < length asks = omega (arith, high, as_many_parts lines parts are_parts) in
      let also : suc k - 1 + 1 ≡ suc k = omega arith in
      whole_at asks replies (suc k - 1) less are ∙ ap length (parts_asked lines parts are_parts (suc k - 1) less ∙ ap (asked lines) also)

  some_short : AreShort asks replies → IsShort lines replies
  some_short are =
      let one = short_at asks replies are in
      let less = one.within in
      let down : one.at ≡ one.at + 1 - 1 = omega arith in
      record {
        session = one.at + 1;
        low = omega arith;
        high = omega (arith, less, as_many_parts lines parts are_parts);
        short =
            subst (λ (cs : List Command). length (get_or replies (one.at + 1 - 1) []) < length cs) (parts_asked lines parts are_parts one.at less)
            (subst (λ (k : ℕ). length (get_or replies k []) < length (get_or asks one.at [])) down one.short);
      }

-- ---- a keeper's store

pub no_tries : (tries : List Try) (base now : ℕ) → RoseBy (length tries) base now → Stayed base now → tries ≡ []
no_tries [] base now rose stayed = refl
no_tries (t ∷ tries) base now rose stayed = absurd (stayed (rose_fewer (length (t ∷ tries)) 1 base now (omega arith) rose))

module _ {S C : Type 0} (sees : SeesFolder S) (tells : Type 0) (start : Log) (moment : ℕ) (past : ℕ → Folder → Type 0) (honest : Type 0) (k : Kept S C) (holds : Holds sees tells start moment past honest k) (h : honest) (here : sees.tells → sees.may_leave k.store.shelf (sees.files k.store.shelf)) where
  abbrev notes : List Note
  notes = notes_in k

  pub are : AreNotesOf start notes
  are = holds.stands.notes_are

  last : (c : Folder) → sees.may_leave k.store.shelf c → GivesLast tells start notes k.tries c
  last c left = rest_gives_last C sees tells start notes k.tries k.store c holds.stands (holds.folder h).rests left

  pub gives : GivesNotes sees tells start notes k.tries k.store.shelf
  gives = record {
    folder = last (sees.files k.store.shelf) (here (holds.folder h).told);
    after = last;
    durable = λ c left. last_is_durable tells start notes k.tries c are (last c left);
  }

  -- what was answered so is served so
  pub serves : (count : ℕ) → (Stayed count (sees.fault_count k.store.shelf) → IsSettled sees k.store.shelf) → (lines : List NamedLine) (e : ThreadsEnd) (out : Output) → Answers (faults_between count (sees.fault_count k.store.shelf)) start lines e out notes k.tries
      → ServesSessions sees tells start moment past (faults_between count (sees.fault_count k.store.shelf)) lines e out k.store.shelf
  serves count settled lines e out answers = record { notes = notes; tries = k.tries; answers = answers; gives = gives; since = (holds.folder h).since; settled = settled }

  module _ (count : ℕ) (settled : KeepsSettled sees count honest k) (lines : List NamedLine) (servable : All (λ (line : NamedLine). IsServable line.1) lines) (parts : List Part) (are_parts : AreParts lines parts) (small : IsU32 (length parts)) (sessions : List Member) (settles : Settles sees count (length parts) (length parts) sessions k) (whole failed : Bool) (out : Output)
      (hands : HandsIn start count honest parts sessions whole failed out) (mark : Mark) (mark_is : mark ≡ k.store.mark) (groups faults : ℕ) (groups_are : groups ≡ length notes) where
    abbrev handed : HasHanded start count parts sessions whole failed out
    handed = hands.handed h

    abbrev ends_so : ThreadsEnd
    ends_so = end_of whole failed mark groups faults

    replies_many : length handed.replies ≡ session_count lines
    replies_many = (as_many start count 1 (commands_by_part parts) handed.replies sessions handed.told).told ∙ as_many_parts lines parts are_parts

    transcripts : AreTranscripts (log_of start notes) count (session_count lines) (asked lines) (told_to handed.replies)
    transcripts =
        subst (λ (n : ℕ). AreTranscripts (log_of start notes) count n (asked lines) (told_to handed.replies)) (as_many_parts lines parts are_parts)
        (sessions_write_one_log start count notes (asked lines) (commands_by_part parts) handed.replies sessions are settles.begins (settles.wrote hands.many) handed.told (parts_asked lines parts are_parts)
        (subst IsU32 (sym (part_count lines parts are_parts)) small) (asked_good lines servable))

    by_end : (w f : Bool) → AllAnsweredAs w (commands_by_part parts) handed.replies → EndsWith (end_of w f mark groups faults) (log_of start notes) lines handed.replies
    by_end w true answered = tt
    by_end true false answered = (all_answered lines parts are_parts handed.replies answered, mark_is ∙ holds.stands.mark, groups_are ∙ sym (log_long start notes are.fresh))
    by_end false false answered = inl (some_short lines parts are_parts handed.replies answered)

    by_text : (w f : Bool) (old new : List ℕ) → WritesText f (transcripts_text (map (λ (p : Part). p.name) parts) handed.replies) old new → WritesReplies (end_of w f mark groups faults) lines handed.replies old new
    by_text w true old new wrote = subst (λ ns. WritesText true (transcripts_text ns handed.replies) old new) are_parts.names wrote
    by_text true false old new wrote = subst (λ ns. WritesText false (transcripts_text ns handed.replies) old new) are_parts.names wrote
    by_text false false old new wrote = subst (λ ns. WritesText false (transcripts_text ns handed.replies) old new) are_parts.names wrote

    answers : Answers (faults_between count (sees.fault_count k.store.shelf)) start lines ends_so out notes k.tries
    answers = record {
      are = are;
      replies = handed.replies;
      count = replies_many;
      transcripts = transcripts;
      few = rose_fewer (sum_by (λ (s : Member). s.refused) sessions) (sum_by unavailable_count handed.replies) count (sees.fault_count k.store.shelf) (few_are_unavailable start count 1 (commands_by_part parts) handed.replies sessions handed.told) (settles.refused hands.many);
      tried = settles.tries;
      untried = no_tries k.tries count (sees.fault_count k.store.shelf) settles.tries;
      ends = by_end whole failed handed.answered;
      output = λ told. by_text whole failed out.taken out.taken_now (handed.output told);
    }

    pub handed_serves : ServesSessions sees tells start moment past (faults_between count (sees.fault_count k.store.shelf)) lines ends_so out k.store.shelf
    handed_serves = serves count (settled h) lines ends_so out answers

    pub concluded : (e : ThreadsEnd) (shelf : S) → e ≡ ends_so → shelf ≡ k.store.shelf → ServesSessions sees tells start moment past (faults_between count (sees.fault_count shelf)) lines e out shelf
    concluded e shelf e_is shelf_is =
        subst (λ (x : ThreadsEnd). ServesSessions sees tells start moment past (faults_between count (sees.fault_count shelf)) lines x out shelf) (sym e_is)
        (subst (λ (x : S). ServesSessions sees tells start moment past (faults_between count (sees.fault_count x)) lines ends_so out x) (sym shelf_is) handed_serves)

-- ---- before the first command

none_told : (n k : ℕ) → get_or {A = List (List Reply)} (replicate n []) k [] ≡ []
none_told zero k = refl
none_told (suc n) zero = refl
none_told (suc n) (suc k) = none_told n k

total_none : (n : ℕ) → total n (λ i. 0) ≡ 0
total_none zero = refl
total_none (suc n) = omega (arith, total_none n)

sum_none : (n : ℕ) → sum_by unavailable_count (replicate n []) ≡ 0
sum_none zero = refl
sum_none (suc n) = omega (arith, sum_none n, sum_by-append unavailable_count ([] ∷ []) (replicate n []))

no_texts : (names : List (List ℕ)) (n : ℕ) → transcripts_text names (replicate n []) ≡ []
no_texts [] n = refl
no_texts (name ∷ names) zero = refl
no_texts (name ∷ names) (suc n) = no_texts names n

module _ (log : Log) (base n : ℕ) (commands : ℕ → List Command) where
  none_story : (i : ℕ) → Story log base i (commands i) (told_to (replicate n []) i) new_progress
  none_story i = subst (λ rs. Story log base i (commands i) rs new_progress) (sym (none_told n (i - 1))) (begins log base i (commands i))

-- where memory ran out before it, or there is no session
pub data IsNone (lines : List NamedLine) (mark : Mark) : ThreadsEnd → Type 0 where
  lacks_memory : IsNone lines mark ending.NoMemory
  has_none : session_count lines ≡ 0 → IsNone lines mark (ending.Answered mark 0)

module _ {S C : Type 0} (sees : SeesFolder S) (tells : Type 0) (start : Log) (moment : ℕ) (past : ℕ → Folder → Type 0) (honest : Type 0) (store : State S C) (begins : Begins sees start moment past honest store) (h : honest) (here : sees.tells → sees.may_leave store.shelf (sees.files store.shelf))
    (count : ℕ) (later : count ≤ sees.fault_count store.shelf) (lines : List NamedLine) (servable : All (λ (line : NamedLine). IsServable line.1) lines) (small : session_count lines ≤ 64) (out : Output) (unwritten : out.taken_now ≡ out.taken) where
  abbrev first : Kept S C
  first = first_kept store

  holds : Holds sees tells start moment past honest first
  holds = first_holds sees tells start moment past honest store begins

  abbrev none : List (List (List Reply))
  none = replicate (session_count lines) []

  no_entries : (log_of start []).entries ≡ []
  no_entries = fresh_entries start [] holds.stands.notes_are.fresh

  stories : AreAll (log_of start []) count (session_count lines) (asked lines) (told_to none) (λ i. new_progress)
  stories = record {
    sound = logs_are_sound start [] holds.stands.notes_are;
    story = λ i low high. none_story (log_of start []) count (session_count lines) (asked lines) i;
    all = total_none (session_count lines) ∙ sym (ap length no_entries);
  }

  ends : (e : ThreadsEnd) → IsNone lines store.mark e → EndsWith e (log_of start []) lines none
  ends ending.NoMemory lacks_memory = inr (record { log_is = no_entries; replies_are = refl })
  ends (ending.Sink faults) x = elim x [ ]
  ends (ending.Answered mark groups) (has_none is) = ((λ i low high. absurd (omega (arith, low, high, is))), holds.stands.mark, sym (ap length no_entries))

  text : (e : ThreadsEnd) → IsNone lines store.mark e → WritesReplies e lines none out.taken out.taken_now
  text ending.NoMemory lacks_memory = unwritten ∙ sym (append-nil out.taken) ∙ ap (λ (t : List ℕ). out.taken ++ t) (sym (no_texts (sessions_of lines) (session_count lines)))
  text (ending.Sink faults) x = elim x [ ]
  text (ending.Answered mark groups) (has_none is) = unwritten ∙ sym (append-nil out.taken) ∙ ap (λ (t : List ℕ). out.taken ++ t) (sym (no_texts (sessions_of lines) (session_count lines)))

  pub none_serves : (e : ThreadsEnd) → IsNone lines store.mark e → ServesSessions sees tells start moment past (faults_between count (sees.fault_count store.shelf)) lines e out store.shelf
  none_serves e is =
      serves sees tells start moment past honest first holds h here count (λ stayed. (begins.folder h).settled) lines e out (record {
        are = holds.stands.notes_are;
        replies = none;
        count = length-replicate (session_count lines) [];
        transcripts = stories_are_transcripts (log_of start []) count (session_count lines) (asked lines) (told_to none) (λ i. new_progress) (omega (arith, small)) (asked_good lines servable) stories;
        few = subst (λ (n : ℕ). RoseBy n count (sees.fault_count store.shelf)) (sym (sum_none (session_count lines))) (rose_none count (sees.fault_count store.shelf) later);
        tried = rose_none count (sees.fault_count store.shelf) later;
        untried = λ stayed. refl;
        ends = ends e is;
        output = λ told. text e is;
      })

-- ---- a store that was opened or made just now

module _ {S C : Type 0} (sees : SeesFolder S) (store : State S C) (fresh : IsFresh store) (sound : IsSound (start_of sees store)) where
  abbrev StartsFolder : Type 0
  StartsFolder = BeginsFolder sees (start_of sees store) (sees.moment store.shelf) (sees.left_since store.shelf) store

  pub fresh_begins : Begins sees (start_of sees store) (sees.moment store.shelf) (sees.left_since store.shelf) StartsFolder store
  fresh_begins = record {
    start_is = record { sound = sound; fresh = refl; rotates = refl };
    mailbox = refl;
    mark = refl;
    place = sym (ap (λ (s : State S C). s.mark) fresh.is);
    owed = ap (λ (s : State S C). s.owed) fresh.is;
    indexid = refl;
    folder = λ folder. folder;
  }

  pub unserved_serves : (tells : Type 0) (folder : StartsFolder) (here : sees.tells → sees.may_leave store.shelf (sees.files store.shelf)) (count : ℕ) → count ≤ sees.fault_count store.shelf → (lines : List NamedLine) → All (λ (line : NamedLine). IsServable line.1) lines → session_count lines ≤ 64
      → (out : Output) → out.taken_now ≡ out.taken → (e : ThreadsEnd) → IsNone lines store.mark e
      → ServesSessions sees tells (start_of sees store) (sees.moment store.shelf) (sees.left_since store.shelf) (faults_between count (sees.fault_count store.shelf)) lines e out store.shelf
  unserved_serves tells folder here count later lines servable small out unwritten e is =
      none_serves sees tells (start_of sees store) (sees.moment store.shelf) (sees.left_since store.shelf) StartsFolder store fresh_begins folder here count later lines servable small out unwritten e is

-- ---- causes

-- the end tells a failed output, and no other
pub conclude_cause : (whole failed : Bool) (mark : Mark) (groups before now : ℕ) → FailsSo failed before now → IsCaused before now (end_of whole failed mark groups now)
conclude_cause whole true mark groups before now rose = (rose, refl)
conclude_cause true false mark groups before now rose = tt
conclude_cause false false mark groups before now rose = tt

-- the count never falls
pub count_later : (tries count now : ℕ) → count < 2 ^ 64 → RoseBy tries count now → count ≤ now
count_later tries count now small rose =
    let none : RoseBy 0 count now = rose_fewer tries 0 count now (omega arith) rose in
    omega (arith, small, none)
