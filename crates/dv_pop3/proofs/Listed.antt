-- What a session's answered FETCH of all sizes lists, behind its SELECT.
use Rattle.std.proofs.Common.{◌≡◌, ◌⊎◌, inl, inr, ℕ, ◌+◌, ◌<◌, true, false, List, [], ◌∷◌, Some, None, Option, Result, Ok, Err, length, map, refl, sym, ap, subst, ◌∙◌, arith}
use Rattle.std.specs.Prelude.{All, IfOk, flat_map}
use Rattle.std.proofs.lemmas.List.Elements.{All-cons, All-nil, All-weaker}
use Rattle.std.proofs.lemmas.Option.{same_Some}
use mathlib.Core.List.{IsPrefix}
use Rattle.dv_model.specs.declared.memory.NoMemory.{NoMemory}
use Rattle.dv_model.specs.declared.types.Command.{Command}
use Rattle.dv_model.specs.declared.types.Item.TheVariants as item
use Rattle.dv_model.specs.declared.types.Mailbox.{Mailbox}
use Rattle.dv_model.specs.declared.types.Reply.{Reply}
use Rattle.dv_model.specs.declared.types.Row.{Row}
use Rattle.dv_model.specs.Fields.{virtual_size}
use Rattle.dv_model.specs.Journals.{Log, Mail, at, mark_of}
use Rattle.dv_model.specs.Mailboxes.{IsRowOf, IsValid}
use Rattle.dv_model.specs.Sessions.{message_in}
use Rattle.dv_model.specs.Views.{shown}
use Rattle.dv_validity.proofs.Logs.{valid_at}
use Rattle.dv_validity.proofs.Texts.{flat_all}
use Rattle.dv_front.specs.declared.notes.Note.{Note}
use Rattle.dv_front.proofs.Prefixes.{prefix_length, prefix_self}
use Rattle.dv_keeper.specs.Selecting.{SelectsAndReads}
use Rattle.dv_keeper.specs.Turns.{HasSeen, LeavesReader}
use Rattle.dv_maildrop.specs.declared.types.Listed.{Listed}
use Rattle.dv_maildrop.specs.Maildrops.{Transaction}
use Rattle.dv_member.specs.Members.{IsSession, Member, log_seen, notes_of}
use Rattle.dv_plans.specs.declared.fault.StoreFault.{StoreFault}
use Rattle.dv_plans.specs.declared.fault.StoreFault.TheVariants as fault
use Rattle.dv_serving.proofs.Counting.{AreAvailable, answer_available}
use Rattle.dv_serving.specs.Taking.{Takes}
use Rattle.dv_pop3.specs.Clients.{IsListing}
use Rattle.dv_pop3.specs.Findings.{IsFailure}
use Rattle.dv_pop3.specs.Listings.{Sizing, all_uids, fetch_sizes, listed_as, listing, more_sizes, sized_by, with_sizes}
use Rattle.dv_pop3.specs.Logins.{HasListed, IsQuiet, ListsRows}
use Rattle.dv_pop3.proofs.Keeping.{reader_stays}
use Rattle.dv_pop3.proofs.Later.{lives_new, sound, was}
use Rattle.dv_pop3.proofs.Quiet.{quiet_more, quiet_selected}
use Rattle.dv_pop3.proofs.Reading.{HasFailed, HasRead, reads}
use Rattle.dv_pop3.proofs.Sizing.{IsUid, all_available, lines_sized, select_unsized}

-- each listed message has the UID of a row
listed_all : (Q : ℕ → Type 0) (uid : ℕ) (o : Option (List ℕ)) → Q uid → All (λ (row : Listed). Q row.uid) (listed_as uid o)
listed_all Q uid None is = All-nil (λ (row : Listed). Q row.uid)
listed_all Q uid (Some message) is = All-cons (λ (row : Listed). Q row.uid) (record { uid = uid; size = virtual_size message }) [] is (All-nil (λ (row : Listed). Q row.uid))

pub listing_all : (Q : ℕ → Type 0) (mail : ℕ → Mail) (m : Mailbox) (rows : List Row) → All (λ (row : Row). Q row.uid) rows → All (λ (row : Listed). Q row.uid) (listing mail m rows)
listing_all Q mail m rows all = flat_all (λ (row : Row). Q row.uid) (λ (row : Listed). Q row.uid) (λ row. listed_as row.uid (message_in mail m row.uid)) (λ row is. listed_all Q row.uid (message_in mail m row.uid) is) rows all

-- the failure of the disk, or what is listed
pub record HasSizes (start : Log) (count : ℕ) (sizes : Sizing) (old new : Member) : Type 0 where
  pub is : ((n : ℕ) × (sizes.failure ≡ Some n) × IsFailure count n old new × (new.wrote ≡ old.wrote))
      ⊎ ((sizes.failure ≡ None) × ListsRows start sizes.rows old new)

-- what was read stands where the session was shown the mailbox
one_place : {A : Type 0} (notes : List Note) (came : Result A StoreFault) (shown new : Member) → HasSeen notes shown → LeavesReader {E = NoMemory} notes came shown new (Ok tt) → notes_of new ≡ notes_of shown
one_place notes (Ok x) shown new seen reads = reads.0.are ∙ sym seen.are
one_place notes (Err (fault.Disk faults)) shown new seen reads = reads.notes
one_place notes (Err fault.NoMemory) shown new seen reads = absurd reads
one_place notes (Err fault.UidsUsedUp) shown new seen reads = absurd reads
one_place notes (Err (fault.TooLong bytes)) shown new seen reads = absurd reads

module _ (start : Log) (count : ℕ) (old new : Member) (session : IsSession start count old) (session_new : IsSession start count new) (fresh : old.spent ≡ false) (fresh_new : new.spent ≡ false)
    (begins : IsPrefix (notes_of old) (notes_of new)) (lines : List Reply) (has : SelectsAndReads start count fetch_sizes lines old new) where
  abbrev log : Log
  log = log_seen start new

  abbrev none : Sizing
  none = record { rows = []; failure = None }

  abbrev caught : Member
  caught = has.selected.caught

  -- ---- where it was shown the mailbox

  quiet : IsQuiet old has.shown
  quiet = quiet_selected start count has.notes has.first old has.shown has.selected fresh

  same : notes_of new ≡ notes_of has.shown
  same = one_place has.notes has.came has.shown new has.selected.seen has.reads

  begins_shown : IsPrefix (notes_of has.shown) (notes_of new)
  begins_shown = subst (λ (ns : List Note). IsPrefix (notes_of has.shown) ns) (sym same) (prefix_self (notes_of has.shown))

  is_selected : has.shown.follower.state.selected ≡ true
  is_selected = ap (λ (s : Member). s.follower.state.selected) has.selected.now

  is_there : at log new.seen ≡ Some new.live
  is_there = (lives_new start count has.shown new has.selected.session session_new quiet.fresh fresh_new begins_shown is_selected).live

  was_there : at log has.shown.seen ≡ Some has.shown.live
  was_there = was start count has.shown new has.selected.session session_new quiet.fresh fresh_new begins_shown is_selected

  live_same : has.shown.live ≡ new.live
  live_same =
      let seen : new.seen ≡ has.shown.seen = sym session_new.seen ∙ ap (λ (ns : List Note). length ns) same ∙ has.selected.session.seen in
      same_Some has.shown.live new.live (sym was_there ∙ ap (λ (k : ℕ). at log k) (sym seen) ∙ is_there)

  rows_are : has.shown.follower.state.view.rows ≡ map shown new.live.rows
  rows_are =
      ap (λ (s : Member). s.follower.state.view.rows) has.selected.now
      ∙ ap (λ (m : Mailbox). map shown m.rows) (sym (ap (λ (s : Member). s.live) has.selected.now) ∙ live_same)

  valid : IsValid new.live
  valid = valid_at log (sound start count has.shown new has.selected.session session_new quiet.fresh fresh_new begins_shown is_selected) new.seen new.live is_there

  uids : All (λ (row : Row). IsUid row.uid) new.live.rows
  uids = All-weaker (IsRowOf new.live) (λ (row : Row). IsUid row.uid) (λ row is. (is.uid.0, omega (arith, is.uid.1, valid.next_uid.1))) new.live.rows valid.rows

  -- ---- its lines list what the second ones do

  heard : with_sizes none lines ≡ with_sizes none has.second
  heard =
      ap (with_sizes none) has.lines_are
      ∙ sym (more_sizes none has.first has.second)
      ∙ ap (λ (s : Sizing). with_sizes s has.second)
      (ap (with_sizes none) has.selected.said ∙ select_unsized (log_seen start caught).mail caught.follower.state caught.live caught.live caught.seen (mark_of (log_seen start caught) caught.seen))

  by_failure : HasFailed count has.second has.shown new → HasSizes start count (with_sizes none lines) old new
  by_failure failed = record {
    is = inl (
      failed.faults,
      ap (λ (s : Sizing). s.failure) heard ∙ ap (λ (l : List Reply). (with_sizes none l).failure) failed.line,
      record { above = failed.failure.above; counted = failed.failure.counted ∙ ap (λ (k : ℕ). k + 1) quiet.refused },
      failed.wrote ∙ quiet.wrote,
    );
  }

  module _ (read : HasRead start fetch_sizes has.second has.shown new) where
    are_sized : flat_map sized_by has.second ≡ listing log.mail new.live new.live.rows
    are_sized =
        ap (flat_map sized_by) (sym read.lines_are)
        ∙ lines_sized log.mail new.live has.shown.follower.state new.live.rows rows_are uids read.before new.seen (mark_of log new.seen)

    taken : with_sizes none lines ≡ record { rows = listing log.mail new.live new.live.rows; failure = None }
    taken =
        heard
        ∙ all_available [] has.second (subst AreAvailable read.lines_are (answer_available log.mail has.shown.follower.state fetch_sizes read.before new.seen new.live (mark_of log new.seen)))
        ∙ ap (λ (rows : List Listed). record { rows = rows; failure = None }) are_sized

    gives : IsListing (listing log.mail new.live new.live.rows) new.follower.state
    gives = subst (IsListing (listing log.mail new.live new.live.rows)) read.next_is (record {
      selected = refl;
      given = listing_all (λ uid. uid < new.live.next_uid) log.mail new.live new.live.rows
          (All-weaker (IsRowOf new.live) (λ (row : Row). row.uid < new.live.next_uid) (λ row is. is.uid.1) new.live.rows valid.rows);
    })

    by_reading : HasSizes start count (with_sizes none lines) old new
    by_reading = record {
      is = inr (
        ap (λ (s : Sizing). s.failure) taken,
        record {
          place = omega (arith, session.seen, session_new.seen, prefix_length (notes_of old) (notes_of new) begins);
          is_there = is_there;
          are = ap (λ (s : Sizing). s.rows) taken;
          given = subst (λ (rows : List Listed). IsListing rows new.follower.state) (sym (ap (λ (s : Sizing). s.rows) taken)) gives;
          quiet = quiet_more old has.shown new quiet (record {
            number = (reader_stays {E = NoMemory} has.notes has.came has.shown new (Ok tt) has.reads).0;
            wrote = read.wrote;
            refused = read.refused;
            fresh = fresh_new;
          });
        },
      );
    }

  has_sizes : HasSizes start count (with_sizes none lines) old new
  has_sizes = by (reads (all_uids ∷ []) (item.Size ∷ []) start count has.shown new has.selected.session session_new quiet.fresh fresh_new begins_shown is_selected has.second has.answered)
    where
      by : HasFailed count has.second has.shown new ⊎ HasRead start fetch_sizes has.second has.shown new → HasSizes start count (with_sizes none lines) old new
      by (inl failed) = by_failure failed
      by (inr read) = by_reading read

pub sizes_failed : (start : Log) (count : ℕ) (s : Sizing) (old new : Member) (n : ℕ) → HasSizes start count s old new → s.failure ≡ Some n → IsFailure count n old new × (new.wrote ≡ old.wrote)
sizes_failed start count s old new n has failed = by has.is
  where
    by : ((k : ℕ) × (s.failure ≡ Some k) × IsFailure count k old new × (new.wrote ≡ old.wrote)) ⊎ ((s.failure ≡ None) × ListsRows start s.rows old new) → IsFailure count n old new × (new.wrote ≡ old.wrote)
    by (inl (k, is, failure, wrote)) = (subst (λ (k : ℕ). IsFailure count k old new) (same_Some k n (sym is ∙ failed)) failure, wrote)
    by (inr (none, lists)) = absurd (let both : None ≡ Some n = sym none ∙ failed in cc)

pub sizes_listed : (start : Log) (count : ℕ) (s : Sizing) (old new : Member) → HasSizes start count s old new → s.failure ≡ None → ListsRows start s.rows old new
sizes_listed start count s old new has fine = by has.is
  where
    by : ((k : ℕ) × (s.failure ≡ Some k) × IsFailure count k old new × (new.wrote ≡ old.wrote)) ⊎ ((s.failure ≡ None) × ListsRows start s.rows old new) → ListsRows start s.rows old new
    by (inl (k, is, failure, wrote)) = absurd (let both : Some k ≡ None = sym is ∙ fine in cc)
    by (inr (_, lists)) = lists

-- as the call has it: the replies were taken
pub taken_sizes : (start : Log) (count : ℕ) (old new : Member) → IsSession start count old → IsSession start count new → old.spent ≡ false → new.spent ≡ false → IsPrefix (notes_of old) (notes_of new)
    → (c : Command) → c ≡ fetch_sizes → (first after : Sizing) → first ≡ record { rows = []; failure = None } → (done : Unit {0})
    → Takes {E = NoMemory} with_sizes first after (Ok done) (λ told. IfOk told (λ lines. SelectsAndReads start count c lines old new)) → HasSizes start count after old new
taken_sizes start count old new session session_new fresh fresh_new begins c is first after empty done took =
    let lines : List Reply = took.replies in
    subst (λ (s : Sizing). HasSizes start count s old new) (sym (took.taken ∙ ap (λ (s : Sizing). with_sizes s lines) empty))
    (has_sizes start count old new session session_new fresh fresh_new begins lines (subst (λ (c : Command). SelectsAndReads start count c lines old new) is took.holds))

-- the maildrop of them
pub rows_listed : (start : Log) (rows : List Listed) (m : Transaction) (old new : Member) → ListsRows start rows old new
    → m ≡ record { uid_validity = new.live.uid_validity; rows = rows; marked = []; ended = false } → HasListed start m old new
rows_listed start rows m old new lists is = record {
  place = lists.place;
  is_there = lists.is_there;
  lists = is ∙ ap (λ (l : List Listed). record { uid_validity = new.live.uid_validity; rows = l; marked = []; ended = false }) lists.are;
  quiet = lists.quiet;
}
