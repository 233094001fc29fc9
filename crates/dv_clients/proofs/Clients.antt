-- Behind each answer of a transcript a client knows what its session was shown.
use Rattle.std.proofs.Common.{◌≡◌, inl, inr, ℕ, zero, suc, ◌≤◌, true, false, List, [], ◌∷◌, length, Option, Some, None, refl, sym, ◌∙◌, ap, subst}
use Rattle.std.specs.Prelude.{All, IfSome, flat_map, fold, map, take}
use Rattle.std.proofs.lemmas.List.{take-map}
use Rattle.std.proofs.lemmas.List.Elements.{All-head, All-tail, All-take}
use Rattle.std.proofs.lemmas.List.Sums.{fold-append}
use Rattle.std.proofs.lemmas.Option.{none-some, same_Some}
use Rattle.dv_model.specs.declared.types.Command.{Command}
use Rattle.dv_model.specs.declared.types.Command.TheVariants as command
use Rattle.dv_model.specs.declared.types.Mailbox.{Mailbox}
use Rattle.dv_model.specs.declared.types.Mark.{Mark}
use Rattle.dv_model.specs.declared.types.Reply.{Reply}
use Rattle.dv_model.specs.declared.types.Reply.TheVariants as reply
use Rattle.dv_model.specs.declared.types.Step.{Step}
use Rattle.dv_model.specs.declared.types.Step.TheVariants.{Full}
use Rattle.dv_model.specs.Journals.{Log, IsSound, at, mark_of}
use Rattle.dv_model.specs.Sessions.{Answer, State, is_select, new_session, step_of}
use Rattle.dv_model.specs.Transcripts.{IsTold, IsTurn, LeadsTo, Serial, Speaks, Spoken, Line, Turn, Answered, commands_of, replies_of, refused_at, touches_disk}
use Rattle.dv_model.specs.Views.{Known, known_of}
use Rattle.dv_model.proofs.Marks.{marks_distinct}
use Rattle.dv_model.proofs.SerialSessions.{serial_is_spoken}
use Rattle.dv_interleavings.specs.Promises.{Heard, Hears, KeepsNumbers, heard_of, knows}
use Rattle.dv_promises.proofs.Holding.{SawAll, equal_views, saw_turn}
use Rattle.dv_promises.proofs.Knowing.{KnowsSelected}
use Rattle.dv_promises.proofs.Numbering.{AreSteady, KeepsUids, keeps_itself, steady_stay, steady_then}
use Rattle.dv_promises.proofs.Staying.{heard_other, turn_keeps}
use Rattle.dv_promises.proofs.Transcripts.{pair_of}
use Rattle.dv_clients.specs.Clients.{KnowAlikeWhereTold, answers_of, line_answers, place_of, state_behind, told_last, told_then}
use Rattle.dv_clients.specs.Laws.{IsShownTo, state_at}
use Rattle.dv_clients.proofs.Places.{told_place}
use Rattle.dv_clients.proofs.Refusals.{IsSilent, refusal_silent, select_allowed}

-- ---- lists

pub answers_are : (turns : List Turn) (commands : List Command) (replies : List (List Reply)) → map (λ t. t.replies) turns ≡ replies → map (λ t. t.command) turns ≡ take (length replies) commands
    → answers_of commands replies ≡ map pair_of turns
answers_are [] [] replies replied sent = refl
answers_are [] (c ∷ commands) [] replied sent = refl
answers_are [] (c ∷ commands) (r ∷ replies) replied sent = absurd cc
answers_are (t ∷ turns) commands [] replied sent = absurd cc
answers_are (t ∷ turns) [] (r ∷ replies) replied sent = absurd cc
answers_are (t ∷ turns) (c ∷ commands) (r ∷ replies) replied sent =
    let one : c ≡ t.command = cc in
    let lines : r ≡ t.replies = cc in
    let other : map (λ t. t.replies) turns ≡ replies = cc in
    let others : map (λ t. t.command) turns ≡ take (length replies) commands = cc in
    ap (λ (d : Command). (d, r) ∷ answers_of commands replies) one ∙ ap (λ (rs : List Reply). (t.command, rs) ∷ answers_of commands replies) lines
    ∙ ap (λ (answers : List (Command × List Reply)). (t.command, t.replies) ∷ answers) (answers_are turns commands replies other others)

leads_take : (k : ℕ) (x : State) (turns : List Turn) (y : State) → LeadsTo x turns y → LeadsTo x (take k turns) (state_behind x (take k turns))
leads_take zero x turns y leads = refl
leads_take (suc k) x [] y leads = refl
leads_take (suc k) x (t ∷ turns) y leads = (leads.0, leads_take k t.after turns y leads.1)

-- ---- one turn

-- the session was told by a Full step up to this place
pub record IsWhole (log : Log) (x : State) (mark : Mark) : Type 0 where
  pub saw : SawAll log x
  pub place : mark ≡ mark_of log x.told
  pub there : x.told ≤ length log.entries
  pub selected : x.selected ≡ true

module _ (log : Log) (sound : IsSound log) where
  -- what a client knows, and how its session was told last
  pub record StandsBehind (x : State) (client : List Known) (told : Option (Step × Mark)) : Type 0 where
    pub known : KnowsSelected log sound x client
    pub whole : (mark : Mark) → told ≡ Some (Full, mark) → IsWhole log x mark

  -- an answer keeps the numbers, and how things stand behind it
  pub record KeepsOn (client : List Known) (told : Option (Step × Mark)) (t : Turn) : Type 0 where
    pub steady : AreSteady client (heard_of (pair_of t))
    pub behind : StandsBehind t.after (fold knows client (heard_of (pair_of t))) (told_then told (pair_of t))

  module _ (base author : ℕ) (t : Turn) (client : List Known) (told : Option (Step × Mark)) (stands : StandsBehind t.before client told) where
    -- a line that says nothing of the messages
    silent_keeps : (line : Reply) → IsSilent line → t.replies ≡ line ∷ [] → t.after ≡ t.before → is_select t.command ≡ false → KeepsOn client told t
    silent_keeps line silent one same other =
        let hears : heard_of (pair_of t) ≡ Hears line ∷ [] = heard_other t.command t.replies other ∙ ap (map Hears) one in
        let place : place_of t.replies ≡ None = ap place_of one ∙ silent.0 in
        let tells : told_then told (pair_of t) ≡ told = rw place refl in
        let nothing : fold knows client (heard_of (pair_of t)) ≡ client = ap (fold knows client) hears ∙ silent.1 client in
        record {
          steady = subst (AreSteady client) (sym hears) (λ e. subst (KeepsUids client) (sym (silent.1 client)) (keeps_itself client), tt);
          behind =
              subst (λ o. StandsBehind t.after (fold knows client (heard_of (pair_of t))) o) (sym tells)
              (subst (λ rows. StandsBehind t.after rows told) (sym nothing) (subst (λ x. StandsBehind x client told) (sym same) stands));
        }

    told_keeps : (met : (t.before.told ≤ t.met) × (t.met ≤ length log.entries)) → IsTold log author t.met t.behind t.before t.command t.replies t.after → KeepsOn client told t
    told_keeps met is =
        let one = turn_keeps log sound author t client (record { met = met; told = is }) stands.known in
        let place : place_of t.replies ≡ Some (mark_of log t.behind) = told_place log author t.met t.behind t.before t.command t.replies t.after is in
        let tells : told_then told (pair_of t) ≡ Some (step_of t.command, mark_of log t.behind) = rw place refl in
        let there : t.after.told ≡ t.behind = sym (ap (λ (a : Answer). a.next.told) is.is) in
        record {
          steady = one.steady;
          behind = record {
            known = λ selected. one.known;
            whole = λ mark whole.
                let both : ◌≡◌ {A = Step × Mark} (step_of t.command, mark_of log t.behind) (Full, mark) = same_Some _ _ (sym tells ∙ whole) in
                record {
                  saw = saw_turn log author t (record { met = met; told = is }) (ap (λ (p : Step × Mark). p.0) both);
                  place = sym (ap (λ (p : Step × Mark). p.1) both) ∙ ap (mark_of log) (sym there);
                  there = subst (λ n. n ≤ length log.entries) (sym there) is.seen.1;
                  selected = sym (ap (λ (a : Answer). a.next.selected) is.is);
                };
          };
        }

    not_select : (line : Reply) (m : Mailbox) → refused_at log t.met t.before t.command m ≡ Some line → is_select t.command ≡ false
    not_select line m refused = by_command t.command refused
      where
        by_command : (c : Command) → refused_at log t.met t.before c m ≡ Some line → is_select c ≡ false
        by_command command.Select refused = absurd (none-some line (sym (select_allowed t.before m log.rotates (mark_of log t.met) log.guid) ∙ refused))
        by_command c refused = refl

    reaches_disk : touches_disk t.command ≡ true → is_select t.command ≡ false
    reaches_disk touches = by_command t.command touches
      where
        by_command : (c : Command) → touches_disk c ≡ true → is_select c ≡ false
        by_command command.Select touches = absurd cc
        by_command c touches = refl

    pub keeps_on : IsTurn log base author t → KeepsOn client told t
    keeps_on is = by_answer is.answered
      where
        of_some : (o : Option Reply) (line : Reply) → o ≡ Some line → IfSome o IsSilent → IsSilent line
        of_some o line e silent = subst (λ p. IfSome p IsSilent) e silent

        by_answer : Answered log base author t.met t.behind t.before t.command t.replies t.after → KeepsOn client told t
        by_answer (inl r) =
            silent_keeps r.line (of_some _ r.line r.refusal (refusal_silent t.before t.command r.before log.rotates (mark_of log t.met) log.guid)) r.one_line r.stays
            (not_select r.line r.before r.refusal)
        by_answer (inr (inl u)) = silent_keeps (reply.Unavailable u.faults) (refl, λ rows. refl, refl) u.one_line u.stays (reaches_disk u.touches)
        by_answer (inr (inr told')) = told_keeps is.met told'

-- ---- turns one after another

module _ (log : Log) (sound : IsSound log) (base author : ℕ) where
  -- how things stand behind some turns
  record AllKeepOn (x : State) (turns : List Turn) (client : List Known) (told : Option (Step × Mark)) : Type 0 where
    steady : AreSteady client (flat_map heard_of (map pair_of turns))
    behind : StandsBehind log sound (state_behind x turns) (fold knows client (flat_map heard_of (map pair_of turns))) (fold told_then told (map pair_of turns))

  all_keep_on : (x : State) (turns : List Turn) (y : State) (client : List Known) (told : Option (Step × Mark)) → All (IsTurn log base author) turns → LeadsTo x turns y → StandsBehind log sound x client told
      → AllKeepOn x turns client told
  all_keep_on x [] y client told each leads stands = record { steady = tt; behind = stands }
  all_keep_on x (t ∷ turns) y client told each leads stands =
      let first = keeps_on log sound base author t client told (subst (λ z. StandsBehind log sound z client told) (sym leads.0) stands) (All-head (IsTurn log base author) t turns each) in
      let hs : List Heard = heard_of (pair_of t) in
      let others : List Heard = flat_map heard_of (map pair_of turns) in
      let rest = all_keep_on t.after turns y (fold knows client hs) (told_then told (pair_of t)) (All-tail (IsTurn log base author) t turns each) leads.1 first.behind in
      record {
        steady = steady_then client hs others first.steady rest.steady;
        behind = subst (λ rows. StandsBehind log sound (state_behind t.after turns) rows (fold told_then (told_then told (pair_of t)) (map pair_of turns))) (sym (fold-append knows client hs others)) rest.behind;
      }

-- ---- transcripts

module _ (log : Log) (sound : IsSound log) (base author : ℕ) (commands : List Command) (replies : List (List Reply)) (s : Speaks log base author commands replies) where
  abbrev begins : State
  begins = record new_session { told = s.start }

  abbrev answers : List (Command × List Reply)
  answers = answers_of commands replies

  are : answers ≡ map pair_of s.turns
  are = answers_are s.turns commands replies s.replied s.sent

  first_are : (k : ℕ) → take k answers ≡ map pair_of (take k s.turns)
  first_are k = ap (take k) are ∙ take-map pair_of k s.turns

  keep_first : (k : ℕ) → AllKeepOn log sound base author begins (take k s.turns) [] None
  keep_first k =
      all_keep_on log sound base author begins (take k s.turns) (state_behind begins (take k s.turns)) [] None (All-take (IsTurn log base author) k s.turns s.each) (leads_take k begins s.turns s.state s.leads)
      (record { known = λ selected. absurd cc; whole = λ mark whole. absurd (none-some _ whole) })

  pub stands_at : (k : ℕ) → StandsBehind log sound (state_at s k) (fold knows [] (flat_map heard_of (take k answers))) (told_last (take k answers))
  stands_at k =
      subst (λ (list : List (Command × List Reply)). StandsBehind log sound (state_at s k) (fold knows [] (flat_map heard_of list)) (told_last list)) (sym (first_are k)) (keep_first k).behind

  pub shown_to : (k : ℕ) → (state_at s k).selected ≡ true → IsShownTo log (state_at s k) (take k answers)
  shown_to k selected = let knows = (stands_at k).known selected in record { mailbox = knows.mailbox; is = knows.is; rows = knows.rows; client = knows.client }

  pub keeps_numbers : KeepsNumbers answers
  keeps_numbers before between behind is keeps =
      let all = all_keep_on log sound base author begins s.turns s.state [] None s.each s.leads (record { known = λ selected. absurd cc; whole = λ mark whole. absurd (none-some _ whole) }) in
      steady_stay (flat_map heard_of answers) before between behind (subst (λ (list : List (Command × List Reply)). AreSteady [] (flat_map heard_of list)) (sym are) all.steady) is keeps

-- ---- two of them

alike : (log : Log) → IsSound log → (mark : Mark) (x y : State) → IsWhole log x mark → IsWhole log y mark → x.told ≡ y.told
alike log sound mark x y one other = marks_distinct log x.told y.told sound.entries one.there other.there (sym one.place ∙ other.place)

pub views_equal : (log : Log) (base one other : ℕ) (commands rest : List Command) (replies more : List (List Reply)) (s : Speaks log base one commands replies) (t : Speaks log base other rest more) (j k : ℕ) (mark : Mark)
    → IsSound log → told_last (take j (answers_of commands replies)) ≡ Some (Full, mark) → told_last (take k (answers_of rest more)) ≡ Some (Full, mark) → (state_at s j).view ≡ (state_at t k).view
views_equal log base one other commands rest replies more s t j k mark sound first second =
    let a = (stands_at log sound base one commands replies s j).whole mark first in
    let b = (stands_at log sound base other rest more t k).whole mark second in
    equal_views log (state_at s j) (state_at t k) a.saw b.saw (alike log sound mark (state_at s j) (state_at t k) a b)

pub spoken_alike : (log : Log) (base one other : ℕ) (commands rest : List Command) (replies more : List (List Reply)) → Spoken log base one commands replies → Spoken log base other rest more
    → KnowAlikeWhereTold (answers_of commands replies) (answers_of rest more)
spoken_alike log base one other commands rest replies more spoken told j k mark first second =
    let sound = spoken.sound in
    let s = spoken.speaks in
    let t = told.speaks in
    let a = stands_at log sound base one commands replies s j in
    let b = stands_at log sound base other rest more t k in
    let whole_a = a.whole mark first in
    let whole_b = b.whole mark second in
    let knows_a = a.known whole_a.selected in
    let knows_b = b.known whole_b.selected in
    let same : (state_at s j).told ≡ (state_at t k).told = alike log sound mark (state_at s j) (state_at t k) whole_a whole_b in
    let mailbox : knows_a.mailbox ≡ knows_b.mailbox = same_Some knows_a.mailbox knows_b.mailbox (sym knows_a.is ∙ ap (at log) same ∙ knows_b.is) in
    let view : (state_at s j).view ≡ (state_at t k).view = equal_views log (state_at s j) (state_at t k) whole_a.saw whole_b.saw same in
    knows_a.client ∙ ap (λ (m : Mailbox). known_of m (state_at s j).view) mailbox ∙ ap (known_of knows_b.mailbox) view ∙ sym knows_b.client

pub serial_alike : (log : Log) (base faults : ℕ) (lines : List Line) (replies : List (List Reply)) (one other : ℕ) → Serial log base faults lines replies
    → KnowAlikeWhereTold (line_answers one lines replies) (line_answers other lines replies)
serial_alike log base faults lines replies one other serial =
    spoken_alike log base one other (commands_of one lines) (commands_of other lines) (replies_of one lines replies) (replies_of other lines replies)
    (serial_is_spoken log base faults lines replies one serial) (serial_is_spoken log base faults lines replies other serial)

pub spoken_numbers : (log : Log) (base author : ℕ) (commands : List Command) (replies : List (List Reply)) → Spoken log base author commands replies → KeepsNumbers (answers_of commands replies)
spoken_numbers log base author commands replies spoken = keeps_numbers log spoken.sound base author commands replies spoken.speaks

pub serial_numbers : (log : Log) (base faults : ℕ) (lines : List Line) (replies : List (List Reply)) (author : ℕ) → Serial log base faults lines replies → KeepsNumbers (line_answers author lines replies)
serial_numbers log base faults lines replies author serial =
    spoken_numbers log base author (commands_of author lines) (replies_of author lines replies) (serial_is_spoken log base faults lines replies author serial)
