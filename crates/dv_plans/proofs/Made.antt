-- The plan that is made of what was read and of the group.
use Rattle.std.proofs.Common.{◌≡◌, ℕ, ◌+◌, ◌≤◌, List, length, Option, Some, None, true, is_some, refl, sym, ◌∙◌, ap, subst}
use Rattle.std.specs.Prelude.{IfSome}
use Rattle.dv_model.specs.declared.types.Command.{Command}
use Rattle.dv_model.specs.declared.types.Command.TheVariants as command
use Rattle.dv_model.specs.declared.types.Group.{Group}
use Rattle.dv_model.specs.declared.types.Mailbox.{Mailbox}
use Rattle.dv_model.specs.Effects.{applied}
use Rattle.dv_model.specs.Journals.{HasResets, IsEntry}
use Rattle.dv_model.specs.Mailboxes.{IsValid}
use Rattle.dv_model.specs.Sessions.{IsCommand, group_of, is_append}
use Rattle.dv_model.specs.Spelling.{group_text}
use Rattle.dv_model.specs.Views.{View}
use Rattle.dv_shelf.specs.Folders.{Folder}
use Rattle.dv_logfile.specs.Layout.{longest_log}
use Rattle.dv_validity.proofs.Entries.{group_is_entry}
use Rattle.dv_view.specs.Orders.{IsOrdered}
use Rattle.dv_apply.specs.States.{Held}
use Rattle.dv_chain.specs.declared.chain.Chain.{Chain}
use Rattle.dv_groups.specs.Changes.{changed_uids, expunged_uids, guid_rows}
use Rattle.dv_groups.specs.Groups.{HasSizes}
use Rattle.dv_writing.specs.Keeping.{Keeps}
use Rattle.dv_files.specs.Reading.{guid_at}
use Rattle.dv_files.specs.declared.texts.Turn.{Turn}
use Rattle.dv_files.specs.Texts.{ClosesLog, next_log, place_of}
use Rattle.dv_writing.specs.declared.steps.Files.{Files}
use Rattle.dv_writing.specs.Steps.{AreSteps}
use Rattle.dv_writing.specs.Ways.{ready}
use Rattle.dv_writing.specs.Writes.{AreFilesOf}
use Rattle.dv_plans.specs.declared.before.Before.{Before}
use Rattle.dv_plans.specs.declared.groups.Written.{Written}
use Rattle.dv_plans.specs.declared.plan.Plan.{Plan}
use Rattle.dv_plans.specs.declared.times.Times.{Times}
use Rattle.dv_plans.specs.Befores.{IsBefore, IsRead}
use Rattle.dv_plans.specs.Begins.{IsMadeAt, turns}
use Rattle.dv_plans.specs.Files.{AreFilesMade, IsAppended}
use Rattle.dv_plans.specs.Groups.{IsGroupReady}
use Rattle.dv_plans.specs.Guids.{guid_from, removed_of}
use Rattle.dv_plans.specs.Overs.{IsWrittenOver}
use Rattle.dv_plans.specs.Plans.{IsPlanOf, PlansEach}
use Rattle.dv_plans.proofs.Naming.{guids_found, log_guids}
use Rattle.dv_plans.proofs.Passed.{Passes, passes, same_size, uid_left}
use Rattle.dv_plans.proofs.Planned.{due_same, files_of_log, files_same, rows_are}
use Rattle.dv_plans.proofs.Readied.{group_ready, pending_ready, room_left}

-- the time when a message came counts for an append alone
pub files_at : (c : Command) (chain : Chain) (received other : ℕ) (folder : Folder) (steps : Files) → (is_append c ≡ true → received ≡ other) → AreFilesMade chain received folder c steps → AreFilesMade chain other folder c steps
files_at (command.Append flags keywords message) chain received other folder steps same made = subst (λ (r : ℕ). IsAppended chain r message steps) (same refl) made
files_at command.Check chain received other folder steps same made = made
files_at c chain received other folder steps same made = made

pub read_at : (c : Command) (uids : List ℕ) (chain : Chain) (received other : ℕ) (folder : Folder) (before : Before) → (is_append c ≡ true → received ≡ other) → IsRead c uids chain received folder before → IsRead c uids chain other folder before
read_at c uids chain received other folder before same read = record {
  guids = read.guids;
  closes = read.closes;
  files = files_at c chain received other folder before.files same read.files;
}

-- a rotation's log is made at the reading that was taken for it
pub turned_at : (chain : Chain) (time : Option ℕ) (made : Option Turn) (reading : ℕ) → IsMadeAt chain time made → is_some made ≡ is_some time → IfSome time (λ now. now ≡ reading) → IfSome made (λ turn. turn.new ≡ next_log chain reading)
turned_at chain time None reading is same at = tt
turned_at chain None (Some turn) reading is same at = absurd cc
turned_at chain (Some now) (Some turn) reading is same at = is ∙ ap (next_log chain) at

module _ (c : Command) (view : View) (chain : Chain) (uids : List ℕ) (owed : Option Turn) (times : Times) (before : Before) (good : IsCommand c) (ordered : IsOrdered view) (valid : IsValid chain.live.mailbox)
    (resets : HasResets chain.live.mailbox) (changed : uids ≡ changed_uids c view chain.live.mailbox) (over : IsWrittenOver c view chain) (due : is_some times.turn ≡ turns owed chain)
    (is : IsBefore c uids owed chain times before) (live : Held) (same : live.mailbox ≡ chain.live.mailbox) (written : Written) (made : IsGroupReady live written)
    (groups : (v : View) (guid : ℕ → List ℕ) → uids ≡ changed_uids c v chain.live.mailbox → before.guids ≡ guid_rows guid (expunged_uids c v chain.live.mailbox) → written.group ≡ group_of c v chain.live.mailbox guid) where
  abbrev m : Mailbox
  m = chain.live.mailbox

  abbrev next : Chain
  next = record chain { live = live }

  abbrev guid : ℕ → List ℕ
  guid = guid_from before.guids

  abbrev plan : Plan
  plan = record { group = written.group; text = written.text; steps = record { turn = before.turn; files = before.files; prepared = written.prepared }; received = times.received }

  sizes : HasSizes guid
  sizes uid = (guids_found before.guids is.guids.guids uid).size

  group_is : written.group ≡ group_of c view m guid
  group_is = groups view guid changed (rows_are c view chain uids before.guids good ordered valid resets changed over is.guids)

  passed : Passes c m (place_of chain) (length (group_text written.group))
  passed =
      subst (λ (g : Group). Passes c m (place_of chain) (length (group_text g))) (sym group_is) (passes c m (place_of chain) (group_of c view m guid) (over guid sizes).0)

  room : (ready owed before.turn next).log.end + (length (group_text written.group) + 4) ≤ longest_log
  room = room_left owed before.turn next (length (group_text written.group)) (is.turn ∙ due) passed.short passed.room

  steps_are : AreSteps owed next written.text plan.steps
  steps_are = record {
    due = due_same chain live same owed before.turn is.due;
    files = files_same chain live same owed before.turn before.files is.files;
    group = group_ready owed before.turn next written made room;
  }

  group_next : (g : ℕ → List ℕ) → written.group ≡ group_of c view m g → written.group ≡ group_of c view live.mailbox g
  group_next g one = one ∙ ap (λ (k : Mailbox). group_of c view k g) (sym same)

  pub plan_made : IsPlanOf c view owed next plan
  plan_made = record {
    guid = guid;
    guids = guids_found before.guids is.guids.guids;
    group = group_next guid group_is;
    text = made.text;
    size = λ other others. ap (λ (g : Group). length (group_text g)) (group_next guid group_is) ∙ same_size c view live.mailbox guid other sizes others;
    steps = steps_are;
    turn = is.turn ∙ due;
    some = made.some;
    entry = λ author number. subst (λ (g : Group). IsEntry (record { author = author; group = g })) (sym group_is)
        (group_is_entry c view m guid author good valid resets (guids_found before.guids is.guids.guids) number (uid_left c m (place_of chain) (length (group_text written.group)) valid passed)
        (subst (λ (g : Group). 1 ≤ length g.records) group_is made.some));
    after = made.after;
    gives = made.gives;
    pending = pending_ready owed before.turn next written made room;
  }

  pub plans_each : (folder behind : Folder) (received : ℕ) → IsRead c uids chain received folder before → behind ≡ folder → PlansEach c view owed received next behind plan
  plans_each folder behind received read stays log author named keeps =
      let kept : Keeps log m folder = subst (λ (f : Folder). Keeps log m f) stays (subst (λ (k : Mailbox). Keeps log k behind) same keeps) in
      let rows : before.guids ≡ guid_rows log.guid (expunged_uids c view m) = read.guids ∙ ap (λ (us : List ℕ). guid_rows (guid_at folder) (removed_of c us)) changed ∙ log_guids log m folder c view kept in
      let group : written.group ≡ group_of c view live.mailbox log.guid = group_next log.guid (groups view log.guid changed rows) in
      record {
        group = group;
        is = record {
          after = made.after;
          gives = subst (λ (g : Group). applied live.mailbox g.records ≡ Some made.after) group made.gives;
          pending = pending_ready owed before.turn next written made room;
          closes = subst (λ (f : Folder). IfSome before.turn (λ turn. ClosesLog chain turn f)) (sym stays) read.closes;
          files = subst (λ (k : Mailbox). AreFilesOf log received k c before.files) (sym same) (files_of_log log chain folder received named kept c before.files read.files);
        };
      }
