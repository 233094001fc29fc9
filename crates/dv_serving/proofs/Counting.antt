-- How many lines the disk's failure answers, and by how much its count rises.
use Rattle.std.proofs.Common.{◌≡◌, ℕ, ◌+◌, ◌≤◌, Bool, true, false, cond, not, ◌&&◌, ◌||◌, List, [], ◌∷◌, ◌++◌, length, map, nat_eq, Option, Some, None, refl, sym, ◌∙◌, ap, subst, arith}
use Rattle.std.specs.Prelude.{flat_map, min, nat_lt, reverse}
use Rattle.std.specs.List.{list_all, list_any}
use Rattle.std.proofs.lemmas.List.Folds.{list_any-append}
use Rattle.std.proofs.lemmas.List.Sums.{sum_by-append}
use Rattle.dv_model.specs.declared.types.Command.{Command}
use Rattle.dv_model.specs.declared.types.Command.TheVariants as command
use Rattle.dv_model.specs.declared.types.Group.{Group}
use Rattle.dv_model.specs.declared.types.Item.{Item}
use Rattle.dv_model.specs.declared.types.Mailbox.{Mailbox}
use Rattle.dv_model.specs.declared.types.Mark.{Mark}
use Rattle.dv_model.specs.declared.types.Reply.{Reply}
use Rattle.dv_model.specs.declared.types.Reply.TheVariants as reply
use Rattle.dv_model.specs.declared.types.Shown.{Shown}
use Rattle.dv_model.specs.declared.types.Value.TheVariants as value
use Rattle.dv_model.specs.Counts.{Rose, RoseBy, last_count}
use Rattle.dv_model.specs.Journals.{Mail}
use Rattle.dv_model.specs.Sessions.{State, answer, damaged_uid, data_of, end_of_uids, ending_of, fetch_lines, gone_uid, group_limit, is_append, is_log_full, limit_of, message_in, message_limit, message_of, reads_message, step_of, told_of, view_before}
use Rattle.dv_model.specs.Sets.{named}
use Rattle.dv_model.specs.Spelling.{group_text}
use Rattle.dv_model.specs.Transcripts.{is_unavailable, unavailable_count}
use Rattle.dv_playing.specs.Laws.{RiseFrom, failure_of, failures_of}
use Rattle.dv_playing.specs.Playing.{Attempt, Failed, Outcome, Served}
use Rattle.dv_playing.proofs.Failures.{failures_append, rise_on}
use Rattle.dv_serving.specs.Faults.{Faults, TellsFailure}
use Rattle.dv_model.specs.Views.{View, changes, growth, moved, names_of, numbers, removals, said, same_row, shows_uid}

-- ---- counts

-- a count that rose may rise more
pub rose_more : (n base before now : ℕ) → RoseBy n base before → before ≤ now → RoseBy n base now
rose_more n base before now few later = by last_count few
  where
    by : (last : ℕ) → min (base + n) last ≤ before → min (base + n) last ≤ now
    by last few = omega arith

pub rose_sum : (n m base before now : ℕ) → RoseBy n base before → RoseBy m before now → RoseBy (n + m) base now
rose_sum n m base before now few more = by last_count few more
  where
    by : (last : ℕ) → min (base + n) last ≤ before → min (before + m) last ≤ now → min (base + (n + m)) last ≤ now
    by last few more = omega arith

-- it rose since an earlier count, which it may have passed at the end of its type
pub rose_since : (n base before now : ℕ) → RoseBy n base before → Rose before now → Rose base now
rose_since n base before now few rose = by last_count few rose
  where
    by : (last : ℕ) → min (base + n) last ≤ before → min (before + 1) last ≤ now → min (base + 1) last ≤ now
    by last few rose = omega arith

pub rose_none : (before now : ℕ) → before ≤ now → RoseBy 0 before now
rose_none before now later = by last_count
  where
    by : (last : ℕ) → min (before + 0) last ≤ now
    by last = omega arith

-- ---- failures that are told

-- those of one line
pub told_failures : (faults : Faults) (a : Attempt) → TellsFailure faults a.outcome → RiseFrom faults.before (failures_of (a ∷ [])) faults.now
told_failures faults a told = by a.outcome told
  where
    by : (outcome : Outcome) → TellsFailure faults outcome → RiseFrom faults.before (failure_of outcome ++ []) faults.now
    by Served less = less
    by (Failed count rotation) rose = (subst (Rose faults.before) (sym rose.1) rose.0, omega (arith, rose.1))

-- behind those of the lines before
pub failures_on : (base : ℕ) (attempts more : List Attempt) (faults : Faults) → RiseFrom base (failures_of attempts) faults.before → RiseFrom faults.before (failures_of more) faults.now
    → RiseFrom base (failures_of (attempts ++ more)) faults.now
failures_on base attempts more faults before rise =
    subst (λ (ns : List ℕ). RiseFrom base ns faults.now) (sym (failures_append attempts more))
    (rise_on base faults.before faults.now (failures_of attempts) (failures_of more) before rise)

-- ---- the count of answers

-- none of the lines is that of a failed disk
abbrev pub AreAvailable : List Reply → Type 0
AreAvailable lines = list_any is_unavailable lines ≡ false

pub one_more : (all : List (List Reply)) (last : List Reply) → unavailable_count (all ++ last ∷ []) ≡ unavailable_count all + unavailable_count (last ∷ [])
one_more all last = sum_by-append (λ (lines : List Reply). cond (list_any is_unavailable lines) 1 0) all (last ∷ [])

pub counts_none : (lines : List Reply) → AreAvailable lines → unavailable_count (lines ∷ []) ≡ 0
counts_none lines available = ap (λ (b : Bool). 0 + cond b 1 0) available

pub one_available : (line : Reply) → is_unavailable line ≡ false → AreAvailable (line ∷ [])
one_available line available = ap (λ (b : Bool). b || false) available

-- ---- a refusal is none

pub by_some : (o : Option Reply) (x line : Reply) → is_unavailable x ≡ false → o ≡ Some x → o ≡ Some line → is_unavailable line ≡ false
by_some o x line is e f = let same : x ≡ line = cc in ap is_unavailable (sym same) ∙ is

limits : (a b c d : Bool) (n k : ℕ) (line : Reply)
    → cond a (Some reply.UidsUsedUp) (cond b (Some (reply.TooLong n)) (cond c (Some (reply.TooLong k)) (cond d (Some (reply.TooLong k)) None))) ≡ Some line → is_unavailable line ≡ false
limits true b c d n k line e = by_some (Some reply.UidsUsedUp) reply.UidsUsedUp line refl refl e
limits false true c d n k line e = by_some (Some (reply.TooLong n)) (reply.TooLong n) line refl refl e
limits false false true d n k line e = by_some (Some (reply.TooLong k)) (reply.TooLong k) line refl refl e
limits false false false true n k line e = by_some (Some (reply.TooLong k)) (reply.TooLong k) line refl refl e
limits false false false false n k line e = absurd cc

pub limit_available : (c : Command) (m : Mailbox) (rotates : Bool) (mark : Mark) (g : Group) (line : Reply) → limit_of c m rotates mark g ≡ Some line → is_unavailable line ≡ false
limit_available c m rotates mark g line is =
    let size = length (group_text g) in
    limits (is_append c && nat_eq m.next_uid end_of_uids) (nat_lt message_limit (length (message_of c))) (nat_lt group_limit size) (is_log_full rotates mark size) (length (message_of c)) size line is

-- ---- an answer has none

both : (a b : Bool) → a ≡ false → b ≡ false → (a || b) ≡ false
both a b p q = ap (λ (x : Bool). x || b) p ∙ q

available_append : (xs ys : List Reply) → AreAvailable xs → AreAvailable ys → AreAvailable (xs ++ ys)
available_append xs ys p q = list_any-append is_unavailable xs ys ∙ both (list_any is_unavailable xs) (list_any is_unavailable ys) p q

available_map : {X : Type 0} (f : X → Reply) → ((x : X) → is_unavailable (f x) ≡ false) → (xs : List X) → AreAvailable (map f xs)
available_map f each [] = refl
available_map f each (x ∷ xs) = both (is_unavailable (f x)) (list_any is_unavailable (map f xs)) (each x) (available_map f each xs)

available_each : {X : Type 0} (f : X → List Reply) → ((x : X) → AreAvailable (f x)) → (xs : List X) → AreAvailable (flat_map f xs)
available_each f each [] = refl
available_each f each (x ∷ xs) = available_append (f x) (flat_map f xs) (each x) (available_each f each xs)

changes_available : (m : Mailbox) (old new : View) → AreAvailable (changes m old new)
changes_available m old new =
    available_map {X = ℕ × Shown} (λ row. reply.Fetch row.0 row.1.uid (value.Flags row.1.flags (names_of m row.1.keywords) ∷ [])) (λ row. refl) (numbers (λ s. not (list_any (same_row s) old.rows)) 1 new.rows)

growth_available : (old new : View) → AreAvailable (growth old new)
growth_available old new = by (list_all (λ s. shows_uid old s.uid) new.rows)
  where
    by : (b : Bool) → AreAvailable (cond b [] (reply.Exists (length new.rows) ∷ []))
    by true = refl
    by false = refl

said_available : (m : Mailbox) (old new : View) → AreAvailable (said m old new)
said_available m old new =
    available_append (removals old new ++ growth old new) (changes m old new)
    (available_append (removals old new) (growth old new) (available_map {X = ℕ × Shown} (λ row. reply.Expunge row.0) (λ row. refl) (reverse (numbers (λ s. not (shows_uid new s.uid)) 1 old.rows))) (growth_available old new)) (changes_available m old new)

told_available : (c : Command) (m : Mailbox) (old new : View) → AreAvailable (told_of c m old new)
told_available command.Select m old new = changes_available m old new
told_available c m old new = said_available m old new

fetch_available : (mail : ℕ → Mail) (m : Mailbox) (items : List Item) (row : ℕ × Shown) → AreAvailable (fetch_lines mail m items row)
fetch_available mail m items row = by (list_any reads_message items) refl (message_in mail m row.1.uid) refl
  where
    by : (b : Bool) → list_any reads_message items ≡ b → (o : Option (List ℕ)) → message_in mail m row.1.uid ≡ o → AreAvailable (fetch_lines mail m items row)
    by false e o f = rw e refl
    by true e None f = rw (e, f) refl
    by true e (Some message) f = rw (e, f) refl

data_available : (mail : ℕ → Mail) (c : Command) (view : View) (m : Mailbox) → AreAvailable (data_of mail c view m)
data_available mail (command.Fetch by_uid set items) view m = available_each (fetch_lines mail m items) (fetch_available mail m items) (named by_uid set view)
data_available mail c view m = refl

ending_available : (mail : ℕ → Mail) (c : Command) (view : View) (met m : Mailbox) (mark : Mark) → AreAvailable (ending_of mail c view met m mark ∷ [])
ending_available mail c view met m mark = by (gone_uid c view m) refl (damaged_uid mail c view m) refl
  where
    by : (gone : Option ℕ) → gone_uid c view m ≡ gone → (damaged : Option ℕ) → damaged_uid mail c view m ≡ damaged → AreAvailable (ending_of mail c view met m mark ∷ [])
    by (Some uid) e damaged f = rw e refl
    by None e (Some uid) f = rw (e, f) refl
    by None e None f = rw (e, f) refl

pub answer_available : (mail : ℕ → Mail) (x : State) (c : Command) (met : Mailbox) (q : ℕ) (m : Mailbox) (mark : Mark) → AreAvailable (answer mail x c met q m mark).replies
answer_available mail x c met q m mark =
    let old = view_before c x.view in
    let new = moved (step_of c) old m in
    available_append (data_of mail c old m ++ told_of c m old new) (ending_of mail c old met m mark ∷ [])
    (available_append (data_of mail c old m) (told_of c m old new) (data_available mail c old m) (told_available c m old new)) (ending_available mail c old met m mark)
