-- Calls are served one after another.
use Rattle.std.proofs.Common.{◌≡◌, inl, inr, ⊎_elim, ℕ, ◌≤◌, List, [], ◌∷◌, ◌++◌, length, Option, Some, None, Result, Ok, Err, refl, sym, ◌∙◌, ap, subst, append_assoc}
use Rattle.std.specs.Prelude.{All}
use Rattle.std.specs.Result.{IsErr, IsErrAnd}
use Rattle.std.proofs.lemmas.List.{append-nil, map-append}
use Rattle.std.proofs.lemmas.List.Concat.{flat_map-append}
use Rattle.std.proofs.lemmas.List.Elements.{All-append, All-cons, All-nil}
use Rattle.dv_shelf.specs.Crashes.{LeavesOnly}
use Rattle.dv_shelf.specs.Folders.{Folder}
use Rattle.dv_shelf.specs.Sees.{SeesFolder}
use Rattle.dv_shelf.specs.Streams.{Appends, AppendsFront}
use Rattle.dv_shelf.proofs.Moments.{joined, started, weaker}
use Rattle.dv_logfile.specs.Settling.{StaysSettled}
use Rattle.dv_model.specs.declared.types.Mailbox.{Mailbox}
use Rattle.dv_model.specs.declared.types.Mark.{Mark}
use Rattle.dv_model.specs.Counts.{Rose}
use Rattle.dv_maps.specs.Storages.{Storage}
use Rattle.dv_playing.proofs.Failures.{rose_from}
use Rattle.dv_chain.specs.declared.chain.Chain.{Chain}
use Rattle.dv_chain.specs.Openings.{found_of}
use Rattle.dv_mdbox.specs.Opening.{TellsFolder}
use Rattle.dv_files.specs.Texts.{place_of}
use Rattle.dv_mdbox.specs.States.{StandsAt, State}
use Rattle.dv_mdbox_lines.specs.declared.answers.Answer.{Answer}
use Rattle.dv_mdbox_lines.specs.declared.lines.Call as declared
use Rattle.dv_mdbox_lines.specs.Playing.{Tried, behind, behind_call}
use Rattle.dv_mdbox_lines.specs.Scripts.{Call, Copy, Drop, Get, Purge, Save}
use Rattle.dv_mdbox_lines.specs.Texts.{answer_text, tried_text, tried_texts}
use Rattle.dv_mdbox_lines.specs.Views.{IsNext, said}
use Rattle.dv_serving.specs.Faults.{Faults, faults_between}
use Rattle.dv_serving.specs.Outputs.{Output, output_with}
use Rattle.dv_mdbox_serving.specs.declared.ending.CallEnd.{CallEnd}
use Rattle.dv_mdbox_serving.specs.declared.ending.CallEnd.TheVariants as call_end
use Rattle.dv_mdbox_serving.specs.declared.ending.StorageEnd.{StorageEnd}
use Rattle.dv_mdbox_serving.specs.declared.ending.StorageEnd.TheVariants as end
use Rattle.dv_mdbox_serving.specs.Calls.{IsCalled, IsCaused, RunsCall, tried_of}
use Rattle.dv_mdbox_serving.specs.Following.{Follows, Keeps}
use Rattle.dv_mdbox_serving.specs.Groups.{LogsCalls}
use Rattle.dv_mdbox_serving.specs.Marks.{EndsAt, IfAnswered}
use Rattle.dv_mdbox_serving.specs.Opening.{IsBegun}
use Rattle.dv_mdbox_serving.specs.Places.{GivesBetween, MayGive, MayLeave}
use Rattle.dv_mdbox_serving.specs.Purges.{HasStorage, PurgeInTurn, PurgesSo}
use Rattle.dv_mdbox_serving.specs.Runs.{EndCause, EndsServing, IfUnopened, IsAnswered, RunsCalls, Serves, ServesCalls, TakesByEnd, TellsFolderAt, calls_of, end_behind, end_of}
use Rattle.dv_mdbox_serving.proofs.Giving.{behind_may, between_may, keeps_at, keeps_give, may_longer}
use Rattle.dv_mdbox_serving.proofs.Logged.{logs_count, logs_more, logs_no_call}

-- what holds of an error holds of the result that is it
pub of_error : (P : Result (Unit {0}) CallEnd → Type 0) (result : Result (Unit {0}) CallEnd) (e : CallEnd) → IsErr result → IsErrAnd result (λ x. x ≡ e) → P (Err e) → P result
of_error P (Ok done) e err same p = absurd cc
of_error P (Err x) e err same p = subst (λ (y : CallEnd). P (Err y)) (sym same) p

pub is_next : (old new : List Call) (o : Option declared.Call) (call : declared.Call) → o ≡ Some call → IsNext old o new → old ≡ said call ∷ new
is_next old new o call is next = subst (λ (x : Option declared.Call). IsNext old x new) is next

pub is_none : (old new : List Call) (o : Option declared.Call) → o ≡ None → IsNext old o new → old ≡ []
is_none old new o is next = (subst (λ (x : Option declared.Call). IsNext old x new) is next).0

-- ---- texts

texts_more : (calls : List Tried) (call : Call) (told : Answer) (gone : List ℕ) → tried_texts (calls ++ tried_of call (Some told) gone ∷ []) ≡ tried_texts calls ++ answer_text told
texts_more calls call told gone = flat_map-append tried_text calls (tried_of call (Some told) gone ∷ []) ∙ ap (λ t. tried_texts calls ++ t) (append-nil (answer_text told))

calls_more : (calls : List Tried) (t : Tried) → calls_of (calls ++ t ∷ []) ≡ calls_of calls ++ t.call ∷ []
calls_more calls t = map-append (λ (x : Tried). x.call) calls (t ∷ [])

no_more : (calls : List Tried) → calls ++ [] ≡ calls
no_more calls = append-nil calls

-- ---- purges in turn

no_purge : (call : Call) (old : Folder) (m : Mailbox) (new : Folder) (after : Mailbox) → PurgesSo call None old m new after
no_purge (Save message) old m new after = tt
no_purge (Copy id) old m new after = tt
no_purge (Drop id) old m new after = tt
no_purge (Get id) old m new after = tt
no_purge Purge old m new after = tt

purges_more : (s : Storage) (calls : List Tried) (t : Tried) (first : Folder) (m : Mailbox) (old : Folder) (mid : Mailbox) (new : Folder) (after : Mailbox) → PurgeInTurn s calls first m old mid → PurgesSo t.call t.answer old mid new after → HasStorage (behind s (calls ++ t ∷ [])) new after
    → PurgeInTurn s (calls ++ t ∷ []) first m new after
purges_more s [] t first m old mid new after was one has = (
  new,
  after,
  subst (λ (f : Folder). PurgesSo t.call t.answer f m new after) was.0 (subst (λ (x : Mailbox). PurgesSo t.call t.answer old x new after) was.1 one),
  has,
  (refl, refl),
)
purges_more s (c ∷ calls) t first m old mid new after was one has = (was.0, was.1, was.2, was.3, purges_more (behind_call s c) calls t was.0 was.1 old mid new after was.4 one has)

-- ---- up to a call

module _ {S C : Type 0} (sees : SeesFolder S) (start : Storage) (base : ℕ) (all : List Call) (told : Type 0) (taken : List ℕ) (initial : State S C) where
  -- so many calls were answered, and these are left
  pub record ServesTo (left : List Call) (taken_now : List ℕ) (store : State S C) : Type 0 where
    pub answered : List Tried
    pub parts : all ≡ calls_of answered ++ left
    pub each : All IsAnswered answered
    pub follows : Follows sees start base answered store
    pub logs : LogsCalls answered initial store
    pub purges : PurgeInTurn start answered (sees.files initial.shelf) initial.chain.live.mailbox (sees.files store.shelf) store.chain.live.mailbox
    pub since : LeavesOnly sees initial.shelf store.shelf (MayGive start answered)
    pub output : told → Appends taken taken_now (tried_texts answered)

  pub serves_none : Follows sees start base [] initial → ((c : Folder) → sees.left_since initial.shelf (sees.moment initial.shelf) c → sees.may_leave initial.shelf c) → ServesTo all taken initial
  serves_none follows now = record {
    answered = [];
    parts = refl;
    each = All-nil IsAnswered;
    follows = follows;
    logs = logs_no_call initial;
    purges = (refl, refl);
    since = started sees initial.shelf (MayGive start []) (λ c left. behind_may start [] tt c (keeps_give sees start [] initial follows.keeps c (now c left)));
    output = λ tells. sym (append-nil taken);
  }

  has_storage : (calls : List Tried) (store : State S C) → Keeps sees start calls store → sees.may_leave store.shelf (sees.files store.shelf) → HasStorage (behind start calls) (sees.files store.shelf) store.chain.live.mailbox
  has_storage calls store keeps there = (keeps.messages, keeps.storage, keeps.rests.stands.keeps (sees.files store.shelf) there)

  module _ (call : Call) (left : List Call) (mid_taken taken_now : List ℕ) (mid store : State S C) (so_far : ServesTo (call ∷ left) mid_taken mid) (there : sees.may_leave store.shelf (sees.files store.shelf)) where
    abbrev PurgesSoFar : Tried → Type 0
    PurgesSoFar t = PurgeInTurn start (so_far.answered ++ t ∷ []) (sees.files initial.shelf) initial.chain.live.mailbox (sees.files store.shelf) store.chain.live.mailbox

    purges_on : (t : Tried) → PurgesSo t.call t.answer (sees.files mid.shelf) mid.chain.live.mailbox (sees.files store.shelf) store.chain.live.mailbox → Keeps sees start (so_far.answered ++ t ∷ []) store → PurgesSoFar t
    purges_on t one keeps =
        purges_more start so_far.answered t (sees.files initial.shelf) initial.chain.live.mailbox (sees.files mid.shelf) mid.chain.live.mailbox (sees.files store.shelf) store.chain.live.mailbox so_far.purges one
        (has_storage (so_far.answered ++ t ∷ []) store keeps there)

    since_on : (answer : Option Answer) (called : IsCalled sees start base so_far.answered call answer mid store) → LeavesOnly sees initial.shelf store.shelf (MayGive start (so_far.answered ++ tried_of call answer called.gone ∷ []))
    since_on answer called =
        let t = tried_of call answer called.gone in
        let May : Folder → Type 0 = MayGive start (so_far.answered ++ t ∷ []) in
        joined sees initial.shelf mid.shelf store.shelf May
        (weaker sees initial.shelf mid.shelf (MayGive start so_far.answered) May so_far.since (may_longer start so_far.answered (t ∷ [])))
        (weaker sees mid.shelf store.shelf (GivesBetween start so_far.answered t) May called.since (between_may start so_far.answered t so_far.follows.may))

    text_on : (answer : Answer) (gone : List ℕ) → told → Appends mid_taken taken_now (answer_text answer) → Appends taken taken_now (tried_texts (so_far.answered ++ tried_of call (Some answer) gone ∷ []))
    text_on answer gone tells appends =
        appends ∙ ap (λ t. t ++ answer_text answer) (so_far.output tells) ∙ append_assoc taken (tried_texts so_far.answered) (answer_text answer) ∙ ap (λ t. taken ++ t) (sym (texts_more so_far.answered call answer gone))

    -- one call more
    pub serves_more : RunsCall sees start base so_far.answered call (Ok tt) (output_with told mid_taken taken_now) mid store → ServesTo left taken_now store
    serves_more one =
        let t = tried_of call (Some one.told) one.called.gone in
        record {
          answered = so_far.answered ++ t ∷ [];
          parts = so_far.parts ∙ sym (append_assoc (calls_of so_far.answered) (call ∷ []) left) ∙ ap (λ cs. cs ++ left) (sym (calls_more so_far.answered t));
          each = All-append IsAnswered so_far.answered (t ∷ []) so_far.each (All-cons IsAnswered t [] refl (All-nil IsAnswered));
          follows = one.called.follows;
          logs = logs_more so_far.answered t initial mid store so_far.logs one.logs;
          purges = purges_on t one.purges one.called.follows.keeps;
          since = since_on (Some one.told) one.called;
          output = λ tells. text_on one.told one.called.gone tells (one.output tells);
        }

    -- a call ends the run
    pub serves_ended : (e : CallEnd) → RunsCall sees start base so_far.answered call (Err e) (output_with told mid_taken taken_now) mid store
        → Serves sees start (faults_between base (sees.fault_count store.shelf)) all (end_behind (Err e) store) (output_with told taken taken_now) initial store
    serves_ended call_end.NoMemory one =
        let t = tried_of call None one.0.gone in
        record {
          tried = record {
            answered = so_far.answered;
            left = t ∷ [];
            rest = call ∷ left;
            parts = so_far.parts;
            each = so_far.each;
            ends = (refl, refl);
            may = one.0.follows.may;
            failures = one.0.follows.failures;
            output = λ tells. one.1 tells ∙ so_far.output tells;
          };
          keeps = one.0.follows.keeps;
          logs = tt;
          purges = purges_on t (no_purge call (sees.files mid.shelf) mid.chain.live.mailbox (sees.files store.shelf) store.chain.live.mailbox) one.0.follows.keeps;
          since = since_on None one.0;
        }
    serves_ended (call_end.Sink faults) one =
        let t = tried_of call (Some one.told) one.called.gone in
        record {
          tried = record {
            answered = so_far.answered;
            left = t ∷ [];
            rest = call ∷ left;
            parts = so_far.parts;
            each = so_far.each;
            ends = (refl, refl);
            may = one.called.follows.may;
            failures = one.called.follows.failures;
            output = λ tells. subst (λ before. AppendsFront before taken_now (answer_text one.told)) (so_far.output tells) (one.output tells);
          };
          keeps = one.called.follows.keeps;
          logs = tt;
          purges = purges_on t one.purges one.called.follows.keeps;
          since = since_on (Some one.told) one.called;
        }

  -- all are answered
  pub serves_all : (left : List Call) (taken_now : List ℕ) (store : State S C) → left ≡ [] → ServesTo left taken_now store
      → Serves sees start (faults_between base (sees.fault_count store.shelf)) all (end_behind (Ok tt) store) (output_with told taken taken_now) initial store
  serves_all left taken_now store none so_far =
      let f = subst (λ (calls : List Tried). Follows sees start base calls store) (sym (no_more so_far.answered)) so_far.follows in
      record {
        tried = record {
          answered = so_far.answered;
          left = [];
          rest = left;
          parts = so_far.parts;
          each = so_far.each;
          ends = (none, refl, so_far.follows.groups);
          may = f.may;
          failures = f.failures;
          output = so_far.output;
        };
        keeps = f.keeps;
        logs = (subst (λ (calls : List Tried). LogsCalls calls initial store) (sym (no_more so_far.answered)) so_far.logs, refl, refl);
        purges = subst (λ (calls : List Tried). PurgeInTurn start calls (sees.files initial.shelf) initial.chain.live.mailbox (sees.files store.shelf) store.chain.live.mailbox) (sym (no_more so_far.answered)) so_far.purges;
        since = subst (λ (calls : List Tried). LeavesOnly sees initial.shelf store.shelf (MayGive start calls)) (sym (no_more so_far.answered)) so_far.since;
      }

-- ---- a run over a folder

pub serves_folder : {S C : Type 0} (sees : SeesFolder S) (start : Storage) (calls : List Call) (e : StorageEnd) (out : Output) (old : S) (store new : State S C) (shelf : S) → shelf ≡ new.shelf → IsBegun sees start old store → sees.fault_count store.shelf ≤ sees.fault_count new.shelf
    → StandsAt new.mark (place_of new.chain) new.owed → Serves sees start (faults_between (sees.fault_count old) (sees.fault_count new.shelf)) calls e out store new → StaysSettled sees store.shelf new.shelf → sees.may_leave store.shelf (sees.files store.shelf) → sees.may_leave new.shelf (sees.files new.shelf)
    → ServesCalls sees start (faults_between (sees.fault_count old) (sees.fault_count shelf)) calls e out old shelf
serves_folder {S = S} sees start calls e out old store new shelf same begun later stands serves settled first there =
    subst (λ (s : S). ServesCalls sees start (faults_between (sees.fault_count old) (sees.fault_count s)) calls e out old s) (sym same)
    (let tried = serves.tried.answered ++ serves.tried.left in
    let May : Folder → Type 0 = MayLeave start tried (sees.files old) in
    record {
      tried = serves.tried;
      place = ends_at e serves.logs;
      purges = (sees.files store.shelf, store.chain.live.mailbox, new.chain.live.mailbox, (begun.follows.keeps.messages, begun.follows.keeps.storage, begun.follows.keeps.rests.stands.keeps (sees.files store.shelf) first), serves.purges);
      folder = keeps_give sees start tried new serves.keeps (sees.files new.shelf) there;
      after = keeps_give sees start tried new serves.keeps;
      crash = joined sees old store.shelf new.shelf May
          (weaker sees old store.shelf (MayLeave start [] (sees.files old)) May begun.since (λ c. ⊎_elim (λ as_it_was. inl as_it_was) (λ gives. inr (may_longer start [] tried c gives))))
          (weaker sees store.shelf new.shelf (MayGive start tried) May serves.since (λ c gives. inr gives));
      settled = λ stayed. settled (λ rose. stayed (let first = begun.follows.failures in rose_before first rose)) begun.settled;
    })
  where
    Ends : Mark → ℕ → Type 0
    Ends mark groups = EndsAt start (serves.tried.answered ++ serves.tried.left) mark groups (sees.files old) (sees.may_leave new.shelf)

    ends_at : (ending : StorageEnd) → IfAnswered ending (λ mark groups. LogsCalls (serves.tried.answered ++ serves.tried.left) store new × (mark ≡ new.mark) × (groups ≡ length new.entries)) → IfAnswered ending Ends
    ends_at (end.Answered mark groups) (logs, at, many) = record {
      before = store.chain.live.mailbox;
      begin = store.mark;
      starts = begun.starts;
      groups = logs.groups;
      after = new.chain.live.mailbox;
      writes = logs.writes;
      counted = many ∙ logs_count (serves.tried.answered ++ serves.tried.left) store new begun.none logs;
      marked = at ∙ logs.mark;
      opens = λ c left. keeps_at sees start (serves.tried.answered ++ serves.tried.left) new serves.keeps mark c (subst (λ (n : Mark). StandsAt n (place_of new.chain) new.owed) (sym at) stands) left;
    }
    ends_at (end.Unopened f) logs = tt
    ends_at end.NoMemory logs = tt
    ends_at end.Sink logs = tt

    rose_before : sees.fault_count old ≤ sees.fault_count store.shelf → Rose (sees.fault_count store.shelf) (sees.fault_count new.shelf) → Rose (sees.fault_count old) (sees.fault_count new.shelf)
    rose_before first rose = rose_from (sees.fault_count old) (sees.fault_count store.shelf) (sees.fault_count new.shelf) first rose

-- ---- by how a run ends

module _ {S : Type 0} (sees : SeesFolder S) where
  pub serving_runs : (start : Storage) (faults : Faults) (calls : List Call) (e : StorageEnd) (out : Output) (old new : S) → EndsServing e → ServesCalls sees start faults calls e out old new → RunsCalls sees start faults calls e out old new
  serving_runs start faults calls (end.Answered mark groups) out old new ends serves = serves
  serving_runs start faults calls (end.Unopened f) out old new ends serves = absurd ends
  serving_runs start faults calls end.NoMemory out old new ends serves = serves
  serving_runs start faults calls end.Sink out old new ends serves = serves

  pub serving_opened : (e : StorageEnd) (out : Output) (old new : S) → EndsServing e → IfUnopened sees e out old new
  serving_opened (end.Answered mark groups) out old new ends = tt
  serving_opened (end.Unopened f) out old new ends = absurd ends
  serving_opened end.NoMemory out old new ends = tt
  serving_opened end.Sink out old new ends = tt

pub serving_found : (folder : Folder) (chain : Chain) (e : StorageEnd) → EndsServing e → TellsFolder folder (Ok chain) → TellsFolderAt folder e
serving_found folder chain (end.Answered mark groups) ends tells = ⊎_elim inl (λ found. inr (found_of chain, tt, found)) tells
serving_found folder chain (end.Unopened f) ends tells = absurd ends
serving_found folder chain end.NoMemory ends tells = ⊎_elim inl (λ found. inr (found_of chain, tt, found)) tells
serving_found folder chain end.Sink ends tells = ⊎_elim inl (λ found. inr (found_of chain, tt, found)) tells

pub serving_cause : (e : StorageEnd) (shelf other out : Faults) → EndsServing e → EndCause e other out → EndCause e shelf out
serving_cause (end.Answered mark groups) shelf other out ends cause = tt
serving_cause (end.Unopened f) shelf other out ends cause = absurd ends
serving_cause end.NoMemory shelf other out ends cause = tt
serving_cause end.Sink shelf other out ends cause = cause

pub serving_takes : (e : StorageEnd) (old new : ℕ → ℕ) → EndsServing e → TakesByEnd e old new
serving_takes (end.Answered mark groups) old new ends = tt
serving_takes (end.Unopened f) old new ends = absurd ends
serving_takes end.NoMemory old new ends = tt
serving_takes end.Sink old new ends = tt

pub served_ends : (result : Result (Unit {0}) CallEnd) (mark : Mark) (groups : ℕ) → EndsServing (end_of result mark groups)
served_ends (Ok done) mark groups = tt
served_ends (Err call_end.NoMemory) mark groups = tt
served_ends (Err (call_end.Sink faults)) mark groups = tt

pub served_cause : (result : Result (Unit {0}) CallEnd) (mark : Mark) (groups : ℕ) (shelf out : Faults) → IsCaused out.before out.now result → EndCause (end_of result mark groups) shelf out
served_cause (Ok done) mark groups shelf out cause = tt
served_cause (Err call_end.NoMemory) mark groups shelf out cause = tt
served_cause (Err (call_end.Sink faults)) mark groups shelf out cause = cause.0
