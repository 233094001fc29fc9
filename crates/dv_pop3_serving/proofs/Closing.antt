-- What the session of a keeper did that is handed in, and what the store gives.
use Rattle.std.proofs.Common.{◌≡◌, ◌∙◌, inl, inr, ℕ, ◌+◌, ◌≤◌, List, [], ◌∷◌, ◌++◌, length, refl, sym, ap, subst, arith}
use Rattle.std.specs.Prelude.{Result, Ok, Err}
use Rattle.std.proofs.lemmas.List.{length_push}
use Rattle.std.proofs.lemmas.List.Elements.{All-head}
use mathlib.Core.List.{IsPrefix}
use Rattle.dv_model.specs.declared.types.Mark.{Mark}
use Rattle.dv_model.specs.Counts.{RoseBy}
use Rattle.dv_model.specs.Journals.{Log}
use Rattle.dv_shelf.specs.Causes.{Stayed}
use Rattle.dv_shelf.specs.Crashes.{IsSettled}
use Rattle.dv_shelf.specs.Folders.{Folder}
use Rattle.dv_shelf.specs.Sees.{SeesFolder}
use Rattle.dv_front.specs.declared.notes.Note.{Note}
use Rattle.dv_notes.specs.Logs.{log_of}
use Rattle.dv_store.specs.States.{State}
use Rattle.dv_serving.specs.Faults.{faults_between}
use Rattle.dv_serving.specs.Outputs.{Output}
use Rattle.dv_serving.proofs.Counting.{rose_none}
use Rattle.dv_tries.specs.Tries.{end_mark}
use Rattle.dv_maildrop.specs.declared.types.PopLine.{PopLine}
use Rattle.dv_member.specs.Members.{Member, notes_of}
use Rattle.dv_shared.specs.Beginning.{Begins, first_kept}
use Rattle.dv_shared.proofs.Beginnings.{first_holds}
use Rattle.dv_shared.specs.Holding.{Holds}
use Rattle.dv_shared.specs.Kept.{Kept, notes_in}
use Rattle.dv_keeper.specs.Closing.{Settles}
use Rattle.dv_keeper.specs.Sessions.{AreNewSessions, IsNewSession}
use Rattle.dv_pop3.specs.declared.lines.LinesEnd.{LinesEnd}
use Rattle.dv_pop3.specs.declared.lines.LinesEnd.TheVariants as lines_end
use Rattle.dv_pop3.specs.declared.entering.PopFault.{PopFault}
use Rattle.dv_pop3.specs.declared.entering.PopFault.TheVariants as fault
use Rattle.dv_pop3.specs.Servings.{HasServed, IsCausedBy}
use Rattle.dv_threads.proofs.Closing.{gives, no_tries}
use Rattle.dv_pop3_serving.specs.declared.ending.PopEnd.{PopEnd}
use Rattle.dv_pop3_serving.specs.declared.ending.PopEnd.TheVariants as ending
use Rattle.dv_pop3_serving.specs.Ends.{IsCaused, end_of}
use Rattle.dv_pop3_serving.specs.Serves.{ServesSession}
use Rattle.dv_pop3_serving.proofs.Removals.{writes_only}

-- ---- one session

-- of one there is nothing before the last
pub none_before : {X : Type 0} (front all : List X) (x : X) → length all ≡ 1 → all ≡ front ++ x ∷ [] → front ≡ []
none_before [] all x one is = refl
none_before (y ∷ front) all x one is = absurd (omega (arith, one, ap length is, length_push (y ∷ front) x))

pub new_one : (start : Log) (all front : List Member) (s : Member) → AreNewSessions start 1 all → length all ≡ 1 → all ≡ front ++ s ∷ [] → IsNewSession start 1 s
new_one start all front s new one is =
    let only : all ≡ s ∷ [] = is ∙ ap (λ (l : List Member). l ++ s ∷ []) (none_before front all s one is) in
    (subst (AreNewSessions start 1) only new).0

-- ---- the end has its cause

pub end_caused : (before now : ℕ) (came : Result LinesEnd PopFault) (mark : Mark) (groups : ℕ) → IsCausedBy before now came → IsCaused before now (end_of came mark groups)
end_caused before now (Ok lines_end.Answered) mark groups cause = tt
end_caused before now (Ok lines_end.NoMemory) mark groups cause = tt
end_caused before now (Ok (lines_end.Sink faults)) mark groups cause = cause
end_caused before now (Err fault.NoMemory) mark groups cause = tt
end_caused before now (Err (fault.Disk faults)) mark groups cause = tt

-- ---- it is handed in

module _ {S C : Type 0} (sees : SeesFolder S) (tells : Type 0) (start : Log) (moment : ℕ) (past : ℕ → Folder → Type 0) (honest : Type 0) (k : Kept S C) (holds : Holds sees tells start moment past honest k) (h : honest) (here : sees.tells → sees.may_leave k.store.shelf (sees.files k.store.shelf)) (count : ℕ) (settled : Stayed count (sees.fault_count k.store.shelf) → IsSettled sees k.store.shelf) (lines : List PopLine) (out : Output) where
  abbrev notes : List Note
  notes = notes_in k

  module _ (first last : Member) (is_new : IsNewSession start 1 first) (came : Result LinesEnd PopFault) (served : HasServed start count first last lines came out) (settles : Settles sees count 1 1 (last ∷ []) k) where
    wrote : last.wrote ≡ length notes
    wrote = let sum : 0 + last.wrote ≡ length notes = settles.wrote refl in omega (arith, sum)

    seen : IsPrefix (notes_of last) notes
    seen = All-head (λ (s : Member). IsPrefix (notes_of s) notes) last [] settles.begins

    few : RoseBy last.refused count (sees.fault_count k.store.shelf)
    few =
        let sum : 0 + last.refused ≡ last.refused = omega arith in
        subst (λ (n : ℕ). RoseBy n count (sees.fault_count k.store.shelf)) sum (settles.refused refl)

    serves : ServesSession sees tells start moment past (faults_between count (sees.fault_count k.store.shelf)) lines (end_of came (end_mark (log_of start notes)) (length notes)) out k.store.shelf
    serves = record {
      notes = notes;
      tries = k.tries;
      answers = record {
        are = holds.stands.notes_are;
        session = inr (record {
          first = first;
          is_new = is_new;
          last = last;
          came = came;
          served = served;
          ends = refl;
          seen = seen;
          wrote = wrote;
          only = writes_only start notes holds.stands.notes_are last seen wrote count first is_new lines out came served;
          few = few;
        });
        tried = settles.tries;
        untried = no_tries k.tries count (sees.fault_count k.store.shelf) settles.tries;
      };
      gives = gives sees tells start moment past honest k holds h here;
      since = (holds.folder h).since;
      settled = settled;
    }

    pub concluded : (e : PopEnd) (mark : Mark) (groups : ℕ) (shelf : S) → e ≡ end_of came mark groups → mark ≡ k.store.mark → groups ≡ length notes → shelf ≡ k.store.shelf
        → ServesSession sees tells start moment past (faults_between count (sees.fault_count shelf)) lines e out shelf
    concluded e mark groups shelf e_is mark_is groups_are shelf_is =
        subst (λ (x : PopEnd). ServesSession sees tells start moment past (faults_between count (sees.fault_count shelf)) lines x out shelf)
        (sym (e_is ∙ ap (λ (n : Mark). end_of came n groups) (mark_is ∙ holds.stands.mark) ∙ ap (end_of came (end_mark (log_of start notes))) groups_are))
        (subst (λ (x : S). ServesSession sees tells start moment past (faults_between count (sees.fault_count x)) lines (end_of came (end_mark (log_of start notes)) (length notes)) out x) (sym shelf_is) serves)

-- ---- where there is none

module _ {S C : Type 0} (sees : SeesFolder S) (tells : Type 0) (start : Log) (moment : ℕ) (past : ℕ → Folder → Type 0) (honest : Type 0) (store : State S C) (begins : Begins sees start moment past honest store) (h : honest) (here : sees.tells → sees.may_leave store.shelf (sees.files store.shelf))
    (count : ℕ) (later : count ≤ sees.fault_count store.shelf) (lines : List PopLine) (out : Output) (unwritten : out.taken_now ≡ out.taken) where
  pub none_serves : ServesSession sees tells start moment past (faults_between count (sees.fault_count store.shelf)) lines ending.NoMemory out store.shelf
  none_serves =
      let first : Kept S C = first_kept store in
      let holds : Holds sees tells start moment past honest first = first_holds sees tells start moment past honest store begins in
      record {
        notes = [];
        tries = [];
        answers = record {
          are = holds.stands.notes_are;
          session = inl (record { notes_are = refl; ends = refl; unwritten = λ told. unwritten });
          tried = rose_none count (sees.fault_count store.shelf) later;
          untried = λ stayed. refl;
        };
        gives = gives sees tells start moment past honest first holds h here;
        since = (holds.folder h).since;
        settled = λ stayed. (begins.folder h).settled;
      }
