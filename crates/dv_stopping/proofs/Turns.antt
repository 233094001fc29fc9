-- What the calls of a shelf that stops do, by what becomes of them.
use Rattle.std.proofs.Common.{◌≡◌, ◌⊎◌, ◌↔◌, ℕ, ◌≤◌, List, length, Option, Some, None, Result, Ok, Err, OnErr, refl, sym, subst, inl, inr, ⊎_elim, arith}
use Rattle.std.specs.declared.snapshot.Snapshot.{Snapshot}
use Rattle.dv_shelf.specs.declared.shelf.Failed.{Failed}
use Rattle.dv_shelf.specs.declared.shelf.Name.{Name}
use Rattle.dv_shelf.specs.Folders.{Folder, ChangesOnly, TornFile, IsEither}
use Rattle.dv_shelf.specs.Crashes.{Follows, FollowsNone, Elapses}
use Rattle.dv_shelf.specs.Sees.{SeesFolder}
use Rattle.dv_shelf.proofs.FolderLemmas.{nothing_changes}
use Rattle.dv_shelf.proofs.Torn.{patched_changes}
use Rattle.dv_shelf.proofs.ShelfLemmas.{same_torn}
use Rattle.dv_stopping.specs.declared.stopping.Stopping.{Stopping}
use Rattle.dv_stopping.specs.declared.stopping.Turn.{Turn}
use Rattle.dv_stopping.specs.declared.stopping.Turn.TheVariants.{Passes, Stops, Behind}
use Rattle.dv_stopping.specs.Stops.{left_by, leavings, since_by}
use Rattle.dv_stopping.specs.Turns.{IsMarked, IsKept, WritesAt, Replaces, Turned, Begun}
use Rattle.dv_stopping.specs.Laws.{CountsNow, OnlyNow}

on_err : {T E : Type 0} (r : Result T E) {P : Type 0} → P → OnErr r P
on_err (Ok done) is = tt
on_err (Err fault) is = is

module _ {S : Type 0} (sees : SeesFolder S) where
  -- from one shelf to another time goes on
  abbrev pub Later : S → S → Type 0
  Later old new = Elapses (sees.moment old) (sees.moment new) (sees.left_since old) (sees.left_since new) (sees.may_leave new)

  -- what a crash might have left since a shelf is what it might then or may now
  then_or_now : OnlyNow sees → (old new : S) → sees.tells → Later old new → (c : Folder)
      → sees.left_since new (sees.moment old) c → sees.may_leave old c ⊎ sees.may_leave new c
  then_or_now only old new tells time c since =
      ⊎_elim (λ past. inl (only old c tells past)) inr (time.nothing_else (sees.moment old) c (omega arith) since)

  -- so is what is left behind the stop
  before_or_now : OnlyNow sees → (old new : S) (stop : Option (Snapshot S)) → IsMarked stop old
      → sees.tells → Later old new → (c : Folder) → left_by sees stop new c
      → sees.may_leave old c ⊎ sees.may_leave new c
  before_or_now only old new None mark tells time c left = absurd mark
  before_or_now only old new (Some before) mark tells time c left =
      ⊎_elim (λ is. inl (subst (λ (s : S). sees.may_leave s c) mark is))
      (λ is. ⊎_elim inr
      (λ since. then_or_now only old new tells time c (subst (λ (s : S). sees.left_since new (sees.moment s) c) mark since))
      is) left

  since_stop : (old new : S) (stop : Option (Snapshot S)) → IsMarked stop old → (c : Folder)
      → sees.left_since new (sees.moment old) c → left_by sees stop new c
  since_stop old new None mark c since = absurd mark
  since_stop old new (Some before) mark c since =
      inr (inr (subst (λ (s : S). sees.left_since new (sees.moment s) c) (sym mark) since))

  -- that is what it might have left at some moment since before the call
  stop_leaves : CountsNow sees → OnlyNow sees → (old new : S) (stop : Option (Snapshot S))
      → IsMarked stop old → sees.tells → Later old new → (c : Folder)
      → left_by sees stop new c ↔ sees.left_since new (sees.moment old) c
  stop_leaves counts only old new stop mark tells time c = (
    (λ left. ⊎_elim
        (λ is. time.keeps (sees.moment old) c (omega arith) (counts old (sees.moment old) c (omega arith) is))
        (λ is. counts new (sees.moment old) c time.later is)
        (before_or_now only old new stop mark tells time c left)),
    (λ since. since_stop old new stop mark c since),
  )

  -- What the inner shelf might have left since the shelf old, it might have left since an earlier
  -- moment.
  since_earlier : CountsNow sees → OnlyNow sees → (old new : S) → sees.tells → Later old new
      → (t : ℕ) (c : Folder) → t ≤ sees.moment old → sees.left_since new (sees.moment old) c
      → sees.left_since new t c
  since_earlier counts only old new tells time t c le since =
      ⊎_elim (λ is. time.keeps t c le (counts old t c le is))
      (λ is. let later : sees.moment old ≤ sees.moment new = time.later in counts new t c (omega arith) is)
      (then_or_now only old new tells time c since)

  -- since an earlier moment it leaves what the inner shelf does
  stop_since : CountsNow sees → OnlyNow sees → (old new : S) (stop : Option (Snapshot S))
      → IsMarked stop old → sees.tells → Later old new → (t : ℕ) (c : Folder)
      → t ≤ sees.moment old → since_by sees stop new t c ↔ sees.left_since new t c
  stop_since counts only old new None mark tells time t c le = absurd mark
  stop_since counts only old new (Some before) mark tells time t c le =
      let later : sees.moment old ≤ sees.moment new = time.later in (
        (λ left. ⊎_elim
            (λ past. time.keeps t c le (subst (λ (s : S). sees.left_since s t c) mark past))
            (λ rest. ⊎_elim (λ is. counts new t c (omega arith) is)
            (λ since. since_earlier counts only old new tells time t c le
            (subst (λ (s : S). sees.left_since new (sees.moment s) c) mark since))
            rest)
            left),
        (λ since. ⊎_elim
            (λ past. inl (subst (λ (s : S). sees.left_since s t c) (sym mark) past))
            (λ is. inr (inl is))
            (time.nothing_else t c le since)),
      )

  -- a call was passed on, and then the shelf failed
  pub stopped : CountsNow sees → OnlyNow sees → {R : Type 0} (does : S → S → R → Type 0)
      (fails : Type 0) (old mid new : Stopping S) (turn : Turn) (result answer : R) (post : S)
      → Stops ≡ turn → Begun Stops old mid → mid.inner ≡ old.inner → new.inner ≡ post
      → new.stop ≡ mid.stop → new.left ≡ mid.left → does mid.inner post answer
      → (sees.tells → Elapses (sees.moment mid.inner) (sees.moment post)
      (sees.left_since mid.inner) (sees.left_since post) (sees.may_leave post))
      → fails → Turned turn sees does fails old new result
  stopped counts only does fails old mid new turn result answer post is begun same inner stop left made time failed =
      let here = subst (λ (s : S). does s new.inner answer) same
      (subst (λ (s : S). does mid.inner s answer) (sym inner) made) in
      let mark = subst (λ (o : Option (Snapshot S)). IsMarked o old.inner) (sym stop) begun.1.0 in
      let gone : sees.tells → Elapses (sees.moment old.inner) (sees.moment new.inner) (sees.left_since old.inner) (sees.left_since new.inner) (sees.may_leave new.inner) =
      λ tells. subst (λ (s : S). Elapses (sees.moment s) (sees.moment new.inner) (sees.left_since s) (sees.left_since new.inner) (sees.may_leave new.inner)) same
      (subst (λ (s : S). Elapses (sees.moment mid.inner) (sees.moment s) (sees.left_since mid.inner) (sees.left_since s) (sees.may_leave s)) (sym inner) (time tells)) in
      subst (λ (t : Turn). Turned t sees does fails old new result) is (record {
        goes = begun.0;
        mark = mark;
        left = subst (λ (n : ℕ). new.left ≡ n) begun.1.1 left;
        failed = failed;
        answer = answer;
        made = here;
        leaves = λ tells c. stop_leaves counts only old.inner new.inner new.stop mark tells (gone tells) c;
        since = λ tells t c le. stop_since counts only old.inner new.inner new.stop mark tells (gone tells) t c le;
      })

  -- before the stop a crash may leave what it may of the inner shelf
  going : (inner : S) (stop : Option (Snapshot S)) → stop ≡ None → (c : Folder)
      → sees.may_leave inner c → left_by sees stop inner c
  going inner None still c left = left
  going inner (Some before) still c left = absurd cc

  gone : (inner : S) (stop : Option (Snapshot S)) → stop ≡ None → (c : Folder)
      → left_by sees stop inner c → sees.may_leave inner c
  gone inner None still c left = left
  gone inner (Some before) still c left = absurd cc

  -- what a call leaves follows what was left before it, also where it stops or stands behind
  pub turned_follows : OnlyNow sees → {R : Type 0} (turn : Turn) (does : S → S → R → Type 0) (fails : Type 0)
      (old new : Stopping S) (result : R) (step : Folder → Folder → Type 0)
      → ((c : Folder) → step c c)
      → ((a b : S) (r : R) → does a b r → Follows step (sees.may_leave a) (sees.may_leave b))
      → ((a b : S) (r : R) → does a b r → Later a b) → sees.tells
      → Turned turn sees does fails old new result
      → Follows step (leavings sees old) (leavings sees new)
  turned_follows only Passes does fails old new result step none made later tells turned = λ c left.
      let had = made old.inner new.inner result turned.made c (gone new.inner new.stop turned.still c left) in
      (had.0, going old.inner old.stop turned.goes had.0 had.1, had.2)
  turned_follows only Stops does fails old new result step none made later tells turned = λ c left.
      ⊎_elim
      (λ is. (c, going old.inner old.stop turned.goes c is, none c))
      (λ is. let had = made old.inner new.inner turned.answer turned.made c is in
      (had.0, going old.inner old.stop turned.goes had.0 had.1, had.2))
      (before_or_now only old.inner new.inner new.stop turned.mark tells (later old.inner new.inner turned.answer turned.made) c left)
  turned_follows only Behind does fails old new result step none made later tells turned = λ c left.
      let same = subst (λ (s : S). left_by sees old.stop s c) turned.inner
      (subst (λ (o : Option (Snapshot S)). left_by sees o new.inner c) turned.stop left) in
      (c, same, none c)

  pub replaces_follow : OnlyNow sees → (turn : Turn) (name : Name) (that : Option (List ℕ))
      (fails : Type 0) (old new : Stopping S) (result : Result (Unit {0}) Failed) → sees.tells
      → Turned turn sees (Replaces sees name that) fails old new result
      → Follows (ChangesOnly name (IsEither that)) (leavings sees old) (leavings sees new)
  replaces_follow only turn name that fails old new result tells turned =
      turned_follows only turn (Replaces sees name that) fails old new result (ChangesOnly name (IsEither that))
      (λ c. nothing_changes c name (IsEither that) (inl refl)) (λ a b r did. did.puts.crash tells)
      (λ a b r did. did.puts.time tells) tells turned

  pub writes_follow : OnlyNow sees → (turn : Turn) (name : Name) (at : ℕ) (bytes : List ℕ)
      (fails : Type 0) (old new : Stopping S) (result : Result (Unit {0}) Failed) → sees.tells
      → Turned turn sees (WritesAt sees name at bytes) fails old new result
      → Follows (ChangesOnly name (TornFile at (length bytes))) (leavings sees old) (leavings sees new)
  writes_follow only turn name at bytes fails old new result tells turned =
      turned_follows only turn (WritesAt sees name at bytes) fails old new result (ChangesOnly name (TornFile at (length bytes)))
      (λ c. nothing_changes c name (TornFile at (length bytes)) (same_torn at (length bytes) (c name)))
      (λ a b r did. did.crash tells) (λ a b r did. did.time tells) tells turned

  -- a call that changes no file leaves a crash nothing more
  pub kept_follow : OnlyNow sees → {R : Type 0} (turn : Turn) (does : S → S → R → Type 0)
      (fails : Type 0) (old new : Stopping S) (result : R)
      → ((a b : S) (r : R) → does a b r → IsKept sees a b) → sees.tells
      → Turned turn sees does fails old new result
      → FollowsNone (leavings sees old) (leavings sees new)
  kept_follow only turn does fails old new result kept tells turned = λ c left.
      let had = turned_follows only turn does fails old new result (λ d e. e ≡ d) (λ d. refl)
      (λ a b r did d now. (d, (kept a b r did).crash d now, refl)) (λ a b r did. (kept a b r did).time) tells turned c left in
      subst (λ (d : Folder). leavings sees old d) (sym had.2) had.1

  -- a write changes the file so, whatever it answers
  torn_by : (name : Name) (at : ℕ) (bytes : List ℕ) (old new : S) (r : Result (Unit {0}) Failed)
      → sees.tells → WritesAt sees name at bytes old new r
      → ChangesOnly name (TornFile at (length bytes)) (sees.files old) (sees.files new)
  torn_by name at bytes old new (Ok done) tells did =
      subst (λ (f : Folder). ChangesOnly name (TornFile at (length bytes)) (sees.files old) f)
      (sym (did.ok tells)) (patched_changes (sees.files old) name at bytes)
  torn_by name at bytes old new (Err fault) tells did = did.err tells

  pub writes_torn : (turn : Turn) (name : Name) (at : ℕ) (bytes : List ℕ) (fails : Type 0)
      (old new : Stopping S) (result : Result (Unit {0}) Failed) → sees.tells
      → Turned turn sees (WritesAt sees name at bytes) fails old new result
      → OnErr result (ChangesOnly name (TornFile at (length bytes)) (sees.files old.inner) (sees.files new.inner))
  writes_torn Passes name at bytes fails old new result tells turned = turned.made.err tells
  writes_torn Stops name at bytes fails old new result tells turned =
      on_err result (torn_by name at bytes old.inner new.inner turned.answer tells turned.made)
  writes_torn Behind name at bytes fails old new result tells turned =
      on_err result (subst (λ (s : S). ChangesOnly name (TornFile at (length bytes)) (sees.files old.inner) (sees.files s))
      (sym turned.inner)
      (nothing_changes (sees.files old.inner) name (TornFile at (length bytes)) (same_torn at (length bytes) (sees.files old.inner name))))
