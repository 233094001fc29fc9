-- The plan of a write, put together.
use Rattle.std.proofs.Common.{◌≡◌, ℕ, ◌||◌, List, [], ◌∷◌, length, map, Option, Some, None, is_some, refl, sym, ◌∙◌, ap, subst}
use Rattle.std.specs.Prelude.{All, Contains}
use Rattle.std.specs.List.Sorted.{IsStrictlyIncreasing}
use Rattle.std.proofs.lemmas.List.Elements.{All-contains_itself, All-head, All-tail, All-weaker}
use Rattle.dv_model.specs.declared.types.Command.{Command}
use Rattle.dv_model.specs.declared.types.Command.TheVariants as command
use Rattle.dv_model.specs.declared.types.GuidRow.{GuidRow}
use Rattle.dv_model.specs.declared.types.Mailbox.{Mailbox}
use Rattle.dv_model.specs.declared.types.Mark.{Mark}
use Rattle.dv_model.specs.declared.types.Row.{Row}
use Rattle.dv_model.specs.Journals.{HasResets, Log, Mail, new_guid}
use Rattle.dv_model.specs.Mailboxes.{IsValid}
use Rattle.dv_model.specs.Sessions.{IsCommand, cache_number, group_of, next_number}
use Rattle.dv_model.specs.Spelling.{group_text}
use Rattle.dv_model.specs.Views.{View}
use Rattle.dv_shelf.specs.Folders.{Folder}
use Rattle.dv_formats.specs.Snapshots.{IsSnapshot}
use Rattle.dv_cache.specs.declared.row.CacheRow.{CacheRow}
use Rattle.dv_cache.specs.Caches.{cache_text}
use Rattle.dv_cache.specs.Written.{AreWritable}
use Rattle.dv_openings.specs.TrueCaches.{HasTrueCache, cached_rows, known_of}
use Rattle.dv_view.specs.Orders.{IsOrdered}
use Rattle.dv_apply.specs.States.{Held}
use Rattle.dv_chain.specs.declared.chain.Chain.{Chain}
use Rattle.dv_groups.specs.Changes.{changed_uids, expunged_uids, guid_rows}
use Rattle.dv_groups.specs.Groups.{HasSizes}
use Rattle.dv_writing.specs.Keeping.{Keeps}
use Rattle.dv_files.specs.Reading.{mail_at}
use Rattle.dv_files.specs.Writing.{IsFileOf}
use Rattle.dv_writing.specs.Removals.{IsFree}
use Rattle.dv_files.specs.declared.texts.Turn.{Turn}
use Rattle.dv_files.specs.Texts.{IsSnapshotOf, IsTurnOf, next_log, place_of}
use Rattle.dv_writing.specs.declared.steps.Files.{Files}
use Rattle.dv_writing.specs.declared.steps.Files.TheVariants as files
use Rattle.dv_writing.specs.Steps.{AreFilesFor}
use Rattle.dv_writing.specs.Ways.{IsDue, ready}
use Rattle.dv_writing.specs.Writes.{AreFilesOf, IsRenewalOf}
use Rattle.dv_plans.specs.Begins.{beginning}
use Rattle.dv_plans.specs.Files.{AreFilesMade, IsCheckOf, new_file}
use Rattle.dv_plans.specs.Groups.{AreFound}
use Rattle.dv_plans.specs.Guids.{AreGuidsOf, guid_from, removed_of}
use Rattle.dv_plans.specs.Overs.{IsWrittenOver}
use Rattle.dv_plans.proofs.Naming.{guids_found, rows_found}
use Rattle.dv_plans.proofs.Passed.{passes, uid_left}
use Rattle.dv_plans.proofs.Readied.{ready_indexid, ready_live, ready_place}
use Rattle.dv_plans.proofs.Rising.{expunged_rise}

-- ---- another chain with the same mailbox

module _ (chain : Chain) (live : Held) (same : live.mailbox ≡ chain.live.mailbox) where
  abbrev next : Chain
  next = record chain { live = live }

  turn_same : (turn : Turn) → IsTurnOf chain turn → IsTurnOf next turn
  turn_same turn is = record {
    index = subst (λ (m : Mailbox). IsSnapshot 2 m chain.indexid (place_of chain) turn.index) (sym same) is.index;
    now = is.now;
    small = is.small;
    new = is.new ∙ ap (λ (m : Mailbox). next_log (record chain { live = record live { mailbox = m } }) is.now) (sym same);
  }

  pub due_same : (owed turn : Option Turn) → IsDue owed chain turn → IsDue owed next turn
  due_same owed None due = tt {0}
  due_same owed (Some turn) due = (turn_same turn due.0, due.1, due.2)

  place_same : (owed turn : Option Turn) → place_of (ready owed turn chain) ≡ place_of (ready owed turn next)
  place_same None None = refl
  place_same None (Some turn) = refl
  place_same (Some made) None = refl
  place_same (Some made) (Some turn) = refl

  pub files_same : (owed turn : Option Turn) (steps : Files) → AreFilesFor (ready owed turn chain) steps → AreFilesFor (ready owed turn next) steps
  files_same owed turn files.Nothing for = tt {0}
  files_same owed turn (files.Message text) for = tt {0}
  files_same owed turn (files.Check renewal) for =
      let mailbox : (ready owed turn chain).live.mailbox ≡ (ready owed turn next).live.mailbox = ap (λ (l : Held). l.mailbox) (ready_live owed turn chain) ∙ sym same ∙ sym (ap (λ (l : Held). l.mailbox) (ready_live owed turn next)) in
      let number : (ready owed turn chain).indexid ≡ (ready owed turn next).indexid = ready_indexid owed turn chain ∙ sym (ready_indexid owed turn next) in (
        subst (λ (m : Mailbox). All (IsFree m) renewal.gone) mailbox for.0,
        subst (λ (p : Mark). IsSnapshot 2 (ready owed turn next).live.mailbox (ready owed turn next).indexid p renewal.index) (place_same owed turn)
            (subst (λ (i : ℕ). IsSnapshot 2 (ready owed turn next).live.mailbox i (place_of (ready owed turn chain)) renewal.index) number
            (subst (λ (m : Mailbox). IsSnapshot 2 m (ready owed turn chain).indexid (place_of (ready owed turn chain)) renewal.index) mailbox for.1)),
      )

-- the files of a check are ready for the chain behind what is owed and due
pub check_for : (owed turn : Option Turn) (chain : Chain) (gone index : List ℕ) → IsDue owed chain turn → All (IsFree chain.live.mailbox) gone → IsSnapshot 2 chain.live.mailbox chain.indexid (beginning (is_some owed || is_some turn) chain) index
    → All (IsFree (ready owed turn chain).live.mailbox) gone × IsSnapshotOf (ready owed turn chain) index
check_for owed turn chain gone index due free snapshot = (
  subst (λ (l : Held). All (IsFree l.mailbox) gone) (sym (ready_live owed turn chain)) free,
  subst (λ (p : Mark). IsSnapshot 2 (ready owed turn chain).live.mailbox (ready owed turn chain).indexid p index) (sym (ready_place owed turn chain due))
      (subst (λ (i : ℕ). IsSnapshot 2 (ready owed turn chain).live.mailbox i (beginning (is_some owed || is_some turn) chain) index) (sym (ready_indexid owed turn chain))
      (subst (λ (l : Held). IsSnapshot 2 l.mailbox chain.indexid (beginning (is_some owed || is_some turn) chain) index) (sym (ready_live owed turn chain)) snapshot)),
)

-- ---- the group

-- the rows of the messages that a command removes have the GUIDs of a function
pub removed_rows : (c : Command) (view : View) (m : Mailbox) (uids : List ℕ) (rows : List GuidRow) → IsOrdered view → IsValid m → uids ≡ changed_uids c view m → AreGuidsOf (removed_of c uids) rows → rows ≡ guid_rows (guid_from rows) (expunged_uids c view m)
removed_rows c view m uids rows ordered valid changed beside =
    let same : map (λ (row : GuidRow). row.uid) rows ≡ expunged_uids c view m = beside.beside ∙ ap (removed_of c) changed in
    rows_found rows (subst IsStrictlyIncreasing (sym same) (expunged_rise c view m ordered valid)) ∙ ap (guid_rows (guid_from rows)) same

module _ (c : Command) (view : View) (chain : Chain) (uids : List ℕ) (rows : List GuidRow) (good : IsCommand c) (ordered : IsOrdered view) (valid : IsValid chain.live.mailbox) (resets : HasResets chain.live.mailbox)
    (changed : uids ≡ changed_uids c view chain.live.mailbox) (written : IsWrittenOver c view chain) (beside : AreGuidsOf (removed_of c uids) rows) where
  abbrev m : Mailbox
  m = chain.live.mailbox

  found_sizes : HasSizes (guid_from rows)
  found_sizes uid = (guids_found rows beside.guids uid).size

  pub rows_are : rows ≡ guid_rows (guid_from rows) (expunged_uids c view m)
  rows_are = removed_rows c view m uids rows ordered valid changed beside

  pub all_found : AreFound c m uids rows
  all_found = record {
    view = view;
    guid = guid_from rows;
    write = record {
      command = good;
      valid = valid;
      resets = resets;
      left = uid_left c m (place_of chain) (length (group_text (group_of c view m (guid_from rows)))) valid (passes c m (place_of chain) (group_of c view m (guid_from rows)) (written (guid_from rows) found_sizes).0);
      guids = guids_found rows beside.guids;
    };
    some = (written (guid_from rows) found_sizes).1;
    changed = changed;
    removed = rows_are;
  }

-- ---- the files of a log

abbrev kept_row : (ℕ → Mail) → Row → CacheRow
kept_row mail row = record { uid = row.uid; known = known_of (mail row.uid) }

known_alike : (mail other : ℕ → Mail) (rows : List Row) → All (λ (row : Row). mail row.uid ≡ other row.uid) rows → map (kept_row mail) rows ≡ map (kept_row other) rows
known_alike mail other [] same = refl
known_alike mail other (row ∷ rows) same =
    let first : mail row.uid ≡ other row.uid = All-head (λ (row : Row). mail row.uid ≡ other row.uid) row rows same in
    let rest : map (kept_row mail) rows ≡ map (kept_row other) rows = known_alike mail other rows (All-tail (λ (row : Row). mail row.uid ≡ other row.uid) row rows same) in
    let one : kept_row mail row ≡ kept_row other row = ap (λ (known : Mail). record { uid = row.uid; known = known_of known }) first in
    ap (λ (r : CacheRow). r ∷ map (kept_row mail) rows) one ∙ ap (λ (more : List CacheRow). kept_row other row ∷ more) rest

cached_same : (log : Log) (m : Mailbox) (folder : Folder) → Keeps log m folder → cached_rows (mail_at folder) m ≡ cached_rows log.mail m
cached_same log m folder keeps =
    known_alike (mail_at folder) log.mail m.rows
    (All-weaker (Contains m.rows) (λ (row : Row). mail_at folder row.uid ≡ log.mail row.uid) (λ row here. (keeps.messages row here).held) m.rows (All-contains_itself m.rows))

module _ (log : Log) (chain : Chain) (folder : Folder) (received : ℕ) (named : log.indexid ≡ chain.indexid) (keeps : Keeps log chain.live.mailbox folder) where
  abbrev n : Mailbox
  n = chain.live.mailbox

  renewal_of : (steps : Files) → IsCheckOf chain folder steps → IsRenewalOf log n steps
  renewal_of steps check =
      let same = cached_same log n folder keeps in
      let cache = check.cache (subst (λ (i : ℕ). HasTrueCache folder i n) named keeps.cache) in
      record {
        renewal = check.renewal;
        is = check.is;
        cache = record {
          indexid = chain.indexid;
          seq = next_number (cache_number n);
          wide = cache.wide;
          writable = subst AreWritable same cache.writable;
          is = cache.is ∙ ap (cache_text chain.indexid (next_number (cache_number n))) same;
        };
      }

  pub files_of_log : (c : Command) (steps : Files) → AreFilesMade chain received folder c steps → AreFilesOf log received n c steps
  files_of_log (command.Append flags keywords message) steps made = record {
    text = new_file chain received message;
    is = made.is;
    file = subst (λ (i : ℕ). IsFileOf message (new_guid i n.uid_validity n.next_uid received) (new_file chain received message)) (sym named) made.file;
  }
  files_of_log command.Check steps made = renewal_of steps made
  files_of_log c steps made = made
