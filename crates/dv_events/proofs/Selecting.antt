-- A SELECT, and a reading of messages behind it in one hold of the lock.
use Rattle.std.proofs.Common.{◌≡◌, ◌∙◌, ℕ, Bool, true, false, not, ◌&&◌, List, [], ◌∷◌, ◌++◌, Option, None, Result, Ok, Err, ap, append_assoc, refl, subst, sym}
use Rattle.std.specs.Prelude.{◌≢◌, All, option_map, if◌then◌else◌, Some}
use Rattle.dv_model.specs.declared.memory.NoMemory.{NoMemory}
use Rattle.dv_model.specs.declared.types.Command.{Command}
use Rattle.dv_model.specs.declared.types.Command.TheVariants.{Select}
use Rattle.dv_model.specs.declared.types.Reply.{Reply}
use Rattle.dv_model.specs.declared.types.Reply.TheVariants as reply
use Rattle.dv_model.specs.Journals.{Log}
use Rattle.dv_model.specs.Sessions.{State, reads_mail}
use Rattle.dv_schedules.specs.Calls.{Answer as AnswerCall, Call, Refresh, all_called}
use Rattle.dv_plans.specs.declared.fault.StoreFault.{StoreFault}
use Rattle.dv_plans.specs.declared.fault.StoreFault.TheVariants as fault
use Rattle.dv_shelf.specs.Folders.{Folder}
use Rattle.dv_shelf.specs.Sees.{SeesFolder, SeesTime}
use Rattle.dv_answer.specs.Refusing.{own_refusal}
use Rattle.dv_front.specs.declared.notes.Note.{Note}
use Rattle.dv_member.specs.Members.{Member, notes_of}
use Rattle.dv_shared.specs.Kept.{notes_in}
use Rattle.dv_keeper.specs.Selecting.{HasSelected}
use Rattle.dv_keeper.specs.Turns.{HasSeen, LeavesReader}
use Rattle.dv_keeper.proofs.Selected.{shown_selected, shown_spent}
use Rattle.dv_events.specs.Worlds.{CallsLead, Conversation, History, IsAtWorld, history_of}
use Rattle.dv_events.specs.Answers.{SelectAndReadTells, UnreadSelectTells}
use Rattle.dv_events.proofs.Loading.{nothing_happens, rejoin_loads}
use Rattle.dv_events.proofs.Stepping.{Answers, with}
use Rattle.dv_events.proofs.Telling.{answer_tells, mail_tells}

-- a call of a session, and then others of it
then_lead : (start : Log) (h : History) (call : Call) (calls : List Call) (old mid new : Member) (more later : Answers) → mid.number ≡ old.number
    → CallsLead start (call ∷ []) h h old mid more → CallsLead start calls h h mid new later → CallsLead start (call ∷ calls) h h old new (more ++ later)
then_lead start h call calls old mid new more later number first second w answers rest others is_at =
    let others_mid = subst (λ (i : ℕ). All (λ (x : Conversation). x.session.number ≢ i) rest) (sym number) others in
    subst (λ (xs : Answers). IsAtWorld start h (with new xs ∷ rest) (all_called w (call ∷ calls))) (append_assoc answers more later)
    (second (all_called w (call ∷ [])) (answers ++ more) rest others_mid (first w answers rest others is_at))

-- ---- the SELECT

select_allowed : (x : State) → own_refusal x Select ≡ None
select_allowed x = by_test x.selected
  where
    by_test : (b : Bool) → (if not b && false then Some reply.NotSelected else None) ≡ None
    by_test true = refl
    by_test false = refl

module _ (start : Log) (count : ℕ) (h : History) (lines : List Reply) (old shown : Member) (fresh : old.spent ≡ false) (selected : HasSelected start count h.notes lines old shown) where
  abbrev caught : Member
  caught = selected.caught

  number : caught.number ≡ old.number
  number = ap (λ (s : Member). s.number) selected.joined.now

  loads : CallsLead start (Refresh old.number ∷ []) h h old caught []
  loads =
      let are : notes_of caught ≡ h.notes = sym (ap notes_of selected.now) ∙ selected.seen.are in
      subst (λ (ns : List Note). CallsLead start (Refresh old.number ∷ []) (record { notes = ns; tries = h.tries }) (record { notes = ns; tries = h.tries }) old caught []) are
      (rejoin_loads start count old caught h.tries selected.met fresh selected.joined)

  tells : CallsLead start (AnswerCall old.number Select ∷ []) h h caught shown ((Select, lines) ∷ [])
  tells =
      subst (λ (i : ℕ). CallsLead start (AnswerCall i Select ∷ []) h h caught shown ((Select, lines) ∷ [])) number
      (subst (λ (ls : List Reply). CallsLead start (AnswerCall caught.number Select ∷ []) h h caught shown ((Select, ls) ∷ [])) (sym selected.said)
      (answer_tells start count caught shown Select h selected.met (ap (λ (s : Member). s.spent) selected.joined.now ∙ fresh) refl (select_allowed caught.follower.state) selected.now))

  pub shown_number : shown.number ≡ old.number
  shown_number = ap (λ (s : Member). s.number) selected.now ∙ number

  -- and then other calls
  pub select_leads : (calls : List Call) (new : Member) (later : Answers) → CallsLead start calls h h shown new later
      → CallsLead start (Refresh old.number ∷ AnswerCall old.number Select ∷ calls) h h old new ((Select, lines) ∷ later)
  select_leads calls new later behind =
      then_lead start h (Refresh old.number) (AnswerCall old.number Select ∷ calls) old caught new [] ((Select, lines) ∷ later) number loads
      (then_lead start h (AnswerCall old.number Select) calls caught shown new ((Select, lines) ∷ []) later (ap (λ (s : Member). s.number) selected.now) tells behind)

pub unread_select_tells : (start : Log) (count : ℕ) → UnreadSelectTells start count
unread_select_tells start count refused old shown new lines h fresh selected same =
    select_leads start count h lines old shown fresh selected [] new [] (nothing_happens start refused shown new h same)

-- ---- the reading behind it

-- it has seen then what it was shown
one_place : {A : Type 0} (notes : List Note) (came : Result A StoreFault) (shown new : Member) → HasSeen notes shown → LeavesReader {E = NoMemory} notes came shown new (Ok tt) → notes_of new ≡ notes
one_place notes (Ok x) shown new seen reads = reads.0.are
one_place notes (Err (fault.Disk faults)) shown new seen reads = reads.notes ∙ seen.are
one_place notes (Err fault.NoMemory) shown new seen reads = absurd reads
one_place notes (Err fault.UidsUsedUp) shown new seen reads = absurd reads
one_place notes (Err (fault.TooLong bytes)) shown new seen reads = absurd reads

pub select_and_read_tells : {S C : Type 0} (sees : SeesFolder S) (times : SeesTime C) (start : Log) (moment : ℕ) (past : ℕ → Folder → Type 0) (honest : Type 0) (count : ℕ) → SelectAndReadTells sees times start moment past honest count
select_and_read_tells sees times start moment past honest count old new c k came damaged lines fresh mails own holds left both came_is =
    let h : History = history_of k in
    let shown : Member = both.shown in
    let notes_are : both.notes ≡ notes_in k = sym (one_place both.notes both.came shown new both.selected.seen both.reads) ∙ one_place (notes_in k) came left.shown new left.selected.seen left.reads in
    let selected = subst (λ (ns : List Note). HasSelected start count ns both.first old shown) notes_are both.selected in
    let reads = subst (λ (ns : List Note). LeavesReader {E = NoMemory} ns (Ok damaged) shown new (Ok tt)) notes_are
    (subst (λ (r : Result (List ℕ) StoreFault). LeavesReader {E = NoMemory} both.notes r shown new (Ok tt)) came_is both.reads) in
    let fresh_shown = shown_spent start count (notes_in k) both.first old shown selected ∙ fresh in
    let allowed = own shown.follower.state (shown_selected start count (notes_in k) both.first old shown selected) in
    let mail = mail_tells sees times start moment past honest count shown new c k damaged both.second fresh_shown mails allowed holds reads both.answered in
    select_leads start count h both.first old shown fresh selected (Refresh old.number ∷ AnswerCall old.number c ∷ []) new ((c, both.second) ∷ [])
    (subst (λ (i : ℕ). CallsLead start (Refresh i ∷ AnswerCall i c ∷ []) h h shown new ((c, both.second) ∷ [])) (shown_number start count h both.first old shown fresh selected) mail)
