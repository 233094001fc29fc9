-- What the two writes of a commit come to.
use Rattle.std.proofs.Common.{◌≡◌, inl, inr, ℕ, ◌+◌, ◌<◌, ◌≤◌, List, [], ◌∷◌, length, drop, Some, Result, Ok, Err, OnOk, OnErr, sym, ◌∙◌, ap, subst}
use Rattle.dv_shelf.specs.declared.shelf.Name.TheVariants.{Log}
use Rattle.dv_shelf.specs.Crashes.{Follows}
use Rattle.dv_shelf.specs.Folders.{Folder, contents, patched, with_file}
use Rattle.dv_logfile.specs.declared.commit.Debt.{Debt}
use Rattle.dv_logfile.specs.declared.commit.Debt.TheVariants as debt
use Rattle.dv_logfile.specs.declared.commit.LogFile.{LogFile}
use Rattle.dv_logfile.specs.Layout.{IsGroupText, longest_log}
use Rattle.dv_logfile.specs.Gates.{IsBeforeOrAfter, IsLeft, IsOpen, AreLong}
use Rattle.dv_logfile.specs.Reading.{IsAtRest, ReadsLeft}
use Rattle.dv_logfile.specs.Commits.{WritesSynced, WritesGroup, LeavesGroup, ReadsGroup}
use Rattle.dv_logfile.proofs.Gate.{shut_torn}
use Rattle.dv_logfile.proofs.Groups.{group_gate, group_some}
use Rattle.dv_logfile.proofs.Images.{Since, only_long, since_only, after_first, after_second, after_both, first_since, second_since, staged_files, opened_there, wrote_there}
use Rattle.dv_shelf.proofs.Moments.{weaker}
use Rattle.dv_logfile.proofs.Patches.{committed}
use Rattle.dv_logfile.proofs.Reading.{either_reads, reads_open, reads_shut, rest_long, shut_behind, shut_stays, group_stays, staged_reads}
use Rattle.dv_shelf.specs.Sees.{SeesFolder}

-- ---- behind an error

left_either : (d : Debt) (F : Folder) (e : ℕ) (text : List ℕ) (G : Folder) → IsLeft d F e text G → IsBeforeOrAfter F e text G
left_either debt.None F e text G left = inl left
left_either debt.Gate F e text G left = inr left

bytes_left : {T E : Type 0} (text : List ℕ) (old new : LogFile) (fault : E) (before now : Folder) → (old.end < length (contents before Log) → IsLeft new.debt before old.end text now)
    → WritesGroup text old new {T = T} (Err fault) before now
bytes_left text old new fault before now owed = record {
  written = λ le. tt;
  failed = λ long. left_either new.debt before old.end text now (owed long);
  owed = owed;
}

module _ {S : Type 0} (sees : SeesFolder S) (text : List ℕ) (old new : LogFile) (s0 s1 : S)
    (since : AreLong old.end (sees.may_leave s0) → Since sees old.end text s0 s1) where
  crash_left : {T E : Type 0} (fault : E) → (AreLong old.end (sees.may_leave s0) → Follows (λ d c. IsLeft new.debt d old.end text c) (sees.may_leave s0) (sees.may_leave s1))
      → LeavesGroup sees text old new {T = T} (Err fault) s0 s1
  crash_left fault left = record {
    any_moment = λ only long. since_only sees old.end text s0 s1 (sees.files s0) only (since (only_long (sees.files s0) old.end (sees.may_leave s0) only long));
    since = since;
    opened = λ long. tt;
    left = left;
  }

  crash_open : {T E : Type 0} (done : T) → (AreLong old.end (sees.may_leave s0) → Follows (λ d c. IsOpen d old.end text c) (sees.may_leave s0) (sees.may_leave s1))
      → LeavesGroup sees text old new {E = E} (Ok done) s0 s1
  crash_open done opened = record {
    any_moment = λ only long. since_only sees old.end text s0 s1 (sees.files s0) only (since (only_long (sees.files s0) old.end (sees.may_leave s0) only long));
    since = since;
    opened = opened;
    left = λ long. tt;
  }

-- ---- the writes, one after the other

-- all but the first byte
rest_of : (text slice behind : List ℕ) → behind ≡ drop 1 slice → slice ≡ text → behind ≡ drop 1 text
rest_of text slice behind back same = back ∙ ap (λ (l : List ℕ). drop 1 l) same

module _ {S : Type 0} {sees : SeesFolder S} {s0 s2 : S}
    (text : List ℕ) (group : IsGroupText text) {slice behind : List ℕ} (back : behind ≡ drop 1 slice) (same : slice ≡ text) (old : LogFile) where
  -- the first write or its sync failed
  module _ {T E U F : Type 0} (fault : E) (due : old.debt ≡ debt.None) {f : F} (first : WritesSynced sees (old.end + 1) behind {T = U} (Err f) s0 s2) where
    pub first_bytes : WritesGroup text old old {T = T} (Err fault) (sees.files s0) (sees.files s2)
    first_bytes = bytes_left text old old fault (sees.files s0) (sees.files s2) (λ long. subst (λ (d : Debt). IsLeft d (sees.files s0) old.end text (sees.files s2)) (sym due)
        (shut_torn old.end text behind (group_some text group) (rest_of text slice behind back same) (sees.files s0) (sees.files s2) long first.err))

    pub first_crash : LeavesGroup sees text old old {T = T} (Err fault) s0 s2
    first_crash = crash_left sees text old old s0 s2
        (λ long. first_since sees old.end text behind (group_some text group) (rest_of text slice behind back same) s0 s2 s0 long first.since) fault
        (λ long. subst (λ (d : Debt). Follows (λ a c. IsLeft d a old.end text c) (sees.may_leave s0) (sees.may_leave s2)) (sym due)
        (after_first old.end text behind (group_some text group) (rest_of text slice behind back same) (sees.may_leave s0) long (sees.may_leave s2) first.crash))

  module _ {U F : Type 0} {done : U} (first : WritesSynced sees (old.end + 1) behind {E = F} (Ok done) s0 s2) where
    staged : (c : Folder) → sees.may_leave s2 c → c Log ≡ Some (patched (contents (sees.files s0) Log) (old.end + 1) behind)
    staged c left = first.durable c left ∙ wrote_there old.end text behind (group_some text group) (rest_of text slice behind back same) (sees.files s0) (sees.files s2) first.ok

    module _ {s4 : S} where
      both_since : {V G : Type 0} (result : Result V G) → WritesSynced sees old.end (128 ∷ []) result s2 s4
          → AreLong old.end (sees.may_leave s0) → Since sees old.end text s0 s4
      both_since result second long =
          second_since sees old.end text behind (group_some text group) (rest_of text slice behind back same) s0 s2 s4 long first.since (contents (sees.files s0) Log) first.crash staged second.since

      -- the second one or its sync failed
      module _ {T E : Type 0} (fault : E) {f : F} (second : WritesSynced sees old.end (128 ∷ []) {T = U} (Err f) s2 s4) where
        pub second_bytes : WritesGroup text old (record old { debt = debt.Gate }) {T = T} (Err fault) (sees.files s0) (sees.files s4)
        second_bytes = bytes_left text old (record old { debt = debt.Gate }) fault (sees.files s0) (sees.files s4)
            (λ long. staged_files old.end text behind (group_some text group) (rest_of text slice behind back same) (sees.files s0) (sees.files s2) first.ok (sees.files s4) long second.err)

        pub second_crash : LeavesGroup sees text old (record old { debt = debt.Gate }) {T = T} (Err fault) s0 s4
        second_crash = crash_left sees text old (record old { debt = debt.Gate }) s0 s4 (both_since (Err f) second) fault
            (λ long. after_second old.end text behind (group_some text group) (rest_of text slice behind back same) (sees.may_leave s0) long (sees.may_leave s2) (contents (sees.files s0) Log) first.crash staged (sees.may_leave s4) second.crash)

      -- both were done
      module _ {T E : Type 0} (mark : T) (new : LogFile) {also : U} (second : WritesSynced sees old.end (128 ∷ []) {E = F} (Ok also) s2 s4) where
        pub both_bytes : WritesGroup text old new {E = E} (Ok mark) (sees.files s0) (sees.files s4)
        both_bytes = record {
          written = λ le. committed (sees.files s0) (sees.files s2) (sees.files s4) old.end text le (group_gate text group)
              (first.ok ∙ ap (λ (l : List ℕ). with_file (sees.files s0) Log (Some (patched (contents (sees.files s0) Log) (old.end + 1) l))) (rest_of text slice behind back same)) second.ok;
          failed = λ long. tt;
          owed = λ long. tt;
        }

        pub both_crash : LeavesGroup sees text old new {E = E} (Ok mark) s0 s4
        both_crash = crash_open sees text old new s0 s4 (both_since (Ok also) second) mark
            (λ long. after_both old.end text behind (group_some text group) (rest_of text slice behind back same) (sees.may_leave s0) long (sees.may_leave s2) (contents (sees.files s0) Log) first.crash staged (sees.may_leave s4) second.crash (group_gate text group)
            (λ c left. second.durable c left ∙ opened_there old.end text behind (group_some text group) (rest_of text slice behind back same) (sees.files s0) (sees.files s2) first.ok (sees.files s4) second.ok))

-- ---- what is read follows from the bytes

module _ (e : ℕ) (text : List ℕ) (group : IsGroupText text) (room : e + length text ≤ longest_log) (images now : Folder → Type 0) (rest : IsAtRest debt.None e text images) where
  left_rests : (d : Debt) → Follows (λ a c. IsLeft d a e text c) images now → IsAtRest d e text now
  left_rests debt.None left = λ c has. let from = left c has in shut_stays from.0 c e text from.2 (rest from.0 from.1)
  left_rests debt.Gate left = λ c has. let from = left c has in group_stays from.0 c e text from.2 (rest from.0 from.1).0

  left_reads : (d : Debt) → Follows (λ a c. IsLeft d a e text c) images now → Follows (ReadsLeft d e text) images now
  left_reads debt.None left = λ c has. let from = left c has in (from.0, from.1, reads_shut from.0 c e text room from.2 (rest from.0 from.1))
  left_reads debt.Gate left = λ c has. staged_reads e text group room images (rest_long e text images rest) c (left c has)

module _ {S : Type 0} {sees : SeesFolder S} {s0 s1 : S}
    (text : List ℕ) (group : IsGroupText text) (old new : LogFile) (room : old.end + length text ≤ longest_log) (rest : IsAtRest debt.None old.end text (sees.may_leave s0)) where
  pub group_read : {T E : Type 0} (result : Result T E) → OnOk result (new.debt ≡ debt.None) → OnOk result (new.end + 4 ≡ old.end + length text) → OnErr result (new.end ≡ old.end)
      → LeavesGroup sees text old new result s0 s1 → ReadsGroup sees text old new result s0 s1
  group_read (Ok done) none end kept leaves = record {
    rest = subst (λ (d : Debt). IsAtRest d new.end text (sees.may_leave s1)) (sym none)
        (λ c has. let from = leaves.opened (rest_long old.end text (sees.may_leave s0) rest) c has in shut_behind from.0 c old.end text room new.end group from.2 end);
    reading = weaker sees s0 s1 _ _ (leaves.since (rest_long old.end text (sees.may_leave s0) rest)) (either_reads old.end text group room (sees.may_leave s0) rest);
    reads_group = λ c has. let from = leaves.opened (rest_long old.end text (sees.may_leave s0) rest) c has in (from.0, from.1, reads_open from.0 c old.end text room from.2);
    reads_left = tt;
  }
  group_read (Err fault) none end kept leaves = record {
    rest = subst (λ (k : ℕ). IsAtRest new.debt k text (sees.may_leave s1)) (sym kept) (left_rests old.end text group room (sees.may_leave s0) (sees.may_leave s1) rest new.debt (leaves.left (rest_long old.end text (sees.may_leave s0) rest)));
    reading = weaker sees s0 s1 _ _ (leaves.since (rest_long old.end text (sees.may_leave s0) rest)) (either_reads old.end text group room (sees.may_leave s0) rest);
    reads_group = tt;
    reads_left = left_reads old.end text group room (sees.may_leave s0) (sees.may_leave s1) rest new.debt (leaves.left (rest_long old.end text (sees.may_leave s0) rest));
  }
