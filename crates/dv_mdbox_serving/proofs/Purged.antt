-- A purge.
use Rattle.std.proofs.Common.{◌≡◌, inl, inr, ⊎_elim, ℕ, suc, ◌+◌, ◌-◌, ◌<◌, ◌≤◌, Bool, true, false, not, List, [], ◌∷◌, ◌++◌, get_or, length, map, nat_eq, Option, Some, None, Result, Ok, Err, refl, sym, ◌∙◌, ap, subst, arith}
use Rattle.std.specs.Prelude.{All, IfOk, OnOk, filter, ⊤}
use Rattle.std.specs.List.{list_any}
use Rattle.std.specs.List.Sorted.{IsStrictlyIncreasing}
use Rattle.std.proofs.lemmas.Bool.{eq-eqb, ne_eqb}
use Rattle.std.proofs.lemmas.List.{length-append, length-map}
use Rattle.std.proofs.lemmas.List.Elements.{All-cons, All-head, All-nil, All-tail}
use Rattle.dv_model.specs.declared.types.Mailbox.{Mailbox}
use Rattle.dv_model.specs.declared.types.Row.{Row}
use Rattle.dv_model.specs.Mailboxes.{IsValid}
use Rattle.dv_shelf.specs.Crashes.{LeavesOnly}
use Rattle.dv_shelf.specs.Folders.{Folder}
use Rattle.dv_shelf.specs.Sees.{SeesFolder}
use Rattle.dv_shelf.proofs.Moments.{weaker}
use Rattle.dv_chain.specs.Rest.{Nothing, Owed}
use Rattle.dv_filing.specs.Writes.{IsLeftOwed}
use Rattle.dv_maps.specs.Purges.{IsThinned, LosesSome}
use Rattle.dv_maps.specs.Storages.{Item, Storage, item_of, storage_of}
use Rattle.dv_maps.specs.Texts.{Messages}
use Rattle.dv_mdbox.specs.declared.fault.StorageFault.{StorageFault}
use Rattle.dv_mdbox.specs.declared.fault.StorageFault.TheVariants as fault
use Rattle.dv_mdbox.specs.Answers.{HasStorageCause}
use Rattle.dv_mdbox.specs.Purged.{IsPurged}
use Rattle.dv_mdbox.specs.Purging.{IsCleared, MayGivePurge, PurgesMap, PurgesQuietly, PurgesTo, StopsAt}
use Rattle.dv_mdbox.specs.States.{State}
use Rattle.dv_mdbox.specs.Writes.{entry_of}
use Rattle.dv_mdbox_lines.specs.declared.answers.Answer.{Answer}
use Rattle.dv_mdbox_lines.specs.declared.answers.Answer.TheVariants as answer
use Rattle.dv_mdbox_lines.specs.Playing.{MayAnswer, MayCome, Tried, behind, count_in, item_with, references, without}
use Rattle.dv_mdbox_lines.specs.Scripts.{Call, Purge}
use Rattle.dv_playing.specs.Laws.{RiseFrom}
use Rattle.dv_mdbox_serving.specs.Calls.{IsCalled, fault_answer, purged_answer, tried_of}
use Rattle.dv_mdbox_serving.specs.Following.{Follows, HasGroups, HaveGroups, IsOwedBehind, failure_of}
use Rattle.dv_mdbox_serving.specs.Places.{GivesBetween, IsWithoutSome, MayMake}
use Rattle.dv_mdbox_serving.specs.Purges.{PurgesSo}
use Rattle.dv_mdbox_serving.proofs.Giving.{keeps_may}
use Rattle.dv_mdbox_serving.proofs.Going.{behind_more, cut_new, groups_more}
use Rattle.dv_mdbox_serving.proofs.Counted.{called, fault_rises, fault_undone, owed_on, storage_on}

-- ---- ids that rise

abbrev AreRising : ℕ → List Item → Type 0
AreRising low [] = ⊤
AreRising low (x ∷ xs) = (low ≤ x.id) × AreRising (x.id + 1) xs

rising_above : (low more : ℕ) (xs : List Item) → more ≤ low → AreRising low xs → AreRising more xs
rising_above low more [] less rises = tt
rising_above low more (x ∷ xs) less rises = (omega (arith, less, rises.0), rises.1)

-- an id below all of them is none of theirs
not_there : (id low : ℕ) (xs : List Item) → id < low → AreRising low xs → item_with id xs ≡ None
not_there id low [] less rises = refl
not_there id low (x ∷ xs) less rises = rw (ne_eqb x.id id (λ same. let first = rises.0 in omega (arith, same, less, first))) (not_there id (x.id + 1) xs (let first = rises.0 in omega (arith, less, first)) rises.1)

-- ---- ids that are lost

abbrev Stays : List ℕ → Item → Bool
Stays gone item = not (list_any (nat_eq item.id) gone)

-- what is lost of items whose ids rise is what these ids take
pub record AreLost (low : ℕ) (items left : List Item) : Type 0 where
  pub gone : List ℕ
  pub above : All (λ id. low ≤ id) gone
  pub none : All (λ id. count_in (item_with id items) ≡ 0) gone
  pub is : left ≡ filter (Stays gone) items
  pub rises : AreRising low left

above_not : (n low : ℕ) (gone : List ℕ) → n < low → All (λ id. low ≤ id) gone → list_any (nat_eq n) gone ≡ false
above_not n low [] less all = refl
above_not n low (id ∷ gone) less all =
    let first : low ≤ id = All-head (λ k. low ≤ k) id gone all in
    rw (ne_eqb n id (λ same. omega (arith, same, less, first))) (above_not n low gone less (All-tail (λ k. low ≤ k) id gone all))

weaker_above : (low more : ℕ) (gone : List ℕ) → more ≤ low → All (λ id. low ≤ id) gone → All (λ id. more ≤ id) gone
weaker_above low more gone less all = λ k d inside. let one = all k d inside in omega (arith, less, one)

-- with an item before them, which is none of these ids
none_before : (x : Item) (xs : List Item) (gone : List ℕ) → All (λ id. x.id + 1 ≤ id) gone → All (λ id. count_in (item_with id xs) ≡ 0) gone → All (λ id. count_in (item_with id (x ∷ xs)) ≡ 0) gone
none_before x xs gone above none = λ k d inside.
    let more = above k d inside in
    rw (ne_eqb x.id (get_or gone k d) (λ same. omega (arith, same, more))) (none k d inside)

lost : (low : ℕ) (items left : List Item) → AreRising low items → LosesSome items left → AreLost low items left
lost low [] left rises none = record {
  gone = [];
  above = All-nil (λ id. low ≤ id);
  none = All-nil (λ id. count_in (item_with id []) ≡ 0);
  is = none;
  rises = subst (AreRising low) (sym none) tt;
}
lost low (x ∷ items) left rises loses =
    ⊎_elim
    (λ away.
    let rest = lost (x.id + 1) items left rises.1 away.1 in
    let first : list_any (nat_eq x.id) (x.id ∷ rest.gone) ≡ true = rw (eq-eqb x.id x.id refl) refl in
    record {
      gone = x.id ∷ rest.gone;
      above = All-cons (λ id. low ≤ id) x.id rest.gone rises.0 (weaker_above (x.id + 1) low rest.gone (let one = rises.0 in omega (arith, one)) rest.above);
      none = All-cons (λ id. count_in (item_with id (x ∷ items)) ≡ 0) x.id rest.gone (rw (eq-eqb x.id x.id refl) away.0) (none_before x items rest.gone rest.above rest.none);
      is = rest.is ∙ same_filter x.id rest.gone items rises.1 ∙ sym (rw first refl);
      rises = rising_above (x.id + 1) low left (let one = rises.0 in omega (arith, one)) rest.rises;
    })
    (λ kept.
    let rest = lost (x.id + 1) items kept.0 rises.1 kept.2 in
    let first : list_any (nat_eq x.id) rest.gone ≡ false = above_not x.id (x.id + 1) rest.gone (omega arith) rest.above in
    record {
      gone = rest.gone;
      above = weaker_above (x.id + 1) low rest.gone (let one = rises.0 in omega (arith, one)) rest.above;
      none = none_before x items rest.gone rest.above rest.none;
      is = kept.1 ∙ ap (λ ys. x ∷ ys) rest.is ∙ sym (rw first refl);
      rises = subst (AreRising low) (sym kept.1) (rises.0, rest.rises);
    }) loses
  where
    -- an id before them takes none of them
    same_filter : (id : ℕ) (gone : List ℕ) (xs : List Item) → AreRising (id + 1) xs → filter (Stays gone) xs ≡ filter (Stays (id ∷ gone)) xs
    same_filter id gone [] rises = refl
    same_filter id gone (y ∷ ys) rises =
        by (list_any (nat_eq y.id) gone) refl (ne_eqb y.id id (λ same. let one = rises.0 in omega (arith, same, one))) (same_filter id gone ys (rising_above (y.id + 1) (id + 1) ys (let one = rises.0 in omega (arith, one)) rises.1))
      where
        by : (b : Bool) → list_any (nat_eq y.id) gone ≡ b → nat_eq y.id id ≡ false → filter (Stays gone) ys ≡ filter (Stays (id ∷ gone)) ys → filter (Stays gone) (y ∷ ys) ≡ filter (Stays (id ∷ gone)) (y ∷ ys)
        by true one two rest = rw (one, two) rest
        by false one two rest = rw (one, two) (ap (λ zs. y ∷ zs) rest)

-- ---- a map's ids rise

module _ (messages : Messages) (m : Mailbox) where
  abbrev uids : List Row → List ℕ
  uids rows = map (λ (row : Row). row.uid) rows

  rising_rows : (low : ℕ) (rows : List Row) → IsStrictlyIncreasing (uids rows) → ((d : Row) → 0 < length rows → low ≤ (get_or rows 0 d).uid) → AreRising low (map (item_of messages m) rows)
  rising_rows low [] h first = tt
  rising_rows low (r ∷ []) h first = (first r (omega arith), tt)
  rising_rows low (r ∷ q ∷ rows) h first = (
    first r (omega arith),
    rising_rows (r.uid + 1) (q ∷ rows)
        (λ k within. let e : suc k + 1 ≡ suc (k + 1) = omega arith in subst (λ n. get_or (uids (q ∷ rows)) k 0 < get_or (uids (r ∷ q ∷ rows)) n 0) e (h (suc k) (omega (arith, within))))
        (λ d some. let less : r.uid < q.uid = h 0 (omega arith) in omega (arith, less)),
  )

  pub thinned_without : IsValid m → (left : Storage) → IsThinned (storage_of messages m) left → IsWithoutSome (storage_of messages m) left
  thinned_without valid left thins =
      let is = lost 0 (storage_of messages m).items left.items (rising_rows 0 m.rows valid.rising (λ d some. omega arith)) thins.items in
      (is.gone, is.none, λ i. record { next = thins.next i; items = is.is i })

  -- so it is of a storage without some of its ids
  pub thinned_more : IsValid m → (left more : Storage) → IsThinned (storage_of messages m) left → IsThinned left more → IsWithoutSome left more
  thinned_more valid left more thins thinner =
      let one = lost 0 (storage_of messages m).items left.items (rising_rows 0 m.rows valid.rising (λ d some. omega arith)) thins.items in
      let is = lost 0 left.items more.items one.rises thinner.items in
      (is.gone, is.none, λ i. record { next = thinner.next i; items = is.is i })

filter_less : (p : Item → Bool) (xs : List Item) → length (filter p xs) ≤ length xs
filter_less p [] = omega arith
filter_less p (x ∷ xs) = by (p x) refl (filter_less p xs)
  where
    by : (b : Bool) → p x ≡ b → length (filter p xs) ≤ length xs → length (filter p (x ∷ xs)) ≤ length (x ∷ xs)
    by true is rest = rw is (omega (arith, rest))
    by false is rest = rw is (omega (arith, rest))

-- ---- what becomes of it

module _ {S C : Type 0} (sees : SeesFolder S) (start : Storage) (base : ℕ) (calls : List Tried) (old new : State S C) (follows : Follows sees start base calls old) (valid : IsValid old.chain.live.mailbox) where
  abbrev m : Mailbox
  m = old.chain.live.mailbox

  abbrev here : Storage
  here = behind start calls

  abbrev told_at : Messages
  told_at = follows.keeps.messages

  abbrev Quiet : Result ℕ StorageFault → Type 0
  Quiet result = PurgesQuietly sees follows.keeps.messages follows.keeps.debt old new result

  abbrev Caused : Result ℕ StorageFault → Type 0
  Caused result = HasStorageCause (sees.fault_count old.shelf) (sees.fault_count new.shelf) result

  module _ (result : Result ℕ StorageFault) (quiet : Quiet result) where
    went : IsWithoutSome here (storage_of told_at new.chain.live.mailbox)
    went = subst (λ (s : Storage). IsWithoutSome s (storage_of told_at new.chain.live.mailbox)) follows.keeps.storage (thinned_without told_at m valid (storage_of told_at new.chain.live.mailbox) quiet.thins)

    -- what a crash leaves
    since : (t : Tried) → t.call ≡ Purge → LeavesOnly sees old.shelf new.shelf (GivesBetween start calls t)
    since t is =
        weaker sees old.shelf new.shelf (MayGivePurge told_at follows.keeps.debt old.chain) (GivesBetween start calls t) quiet.any_moment
        (λ c.
        ⊎_elim (λ gives. inl (keeps_may sees start calls old follows.keeps c gives))
        (λ some.
        let made : IsWithoutSome here (storage_of told_at some.0) = subst (λ (s : Storage). IsWithoutSome s (storage_of told_at some.0)) follows.keeps.storage (thinned_without told_at m valid (storage_of told_at some.0) some.3) in
        inr (inr (
          storage_of told_at some.0,
          subst (λ (call : Call). MayMake call t.answer here (storage_of told_at some.0)) (sym is) made,
          record {
            indexid = old.chain.indexid;
            messages = told_at;
            mailbox = some.0;
            mark = some.1;
            map = some.2;
            storage = refl;
            gives = some.4;
          },
        ))))

  come : (told : Option Answer) (gone : List ℕ) → All (λ id. references here id ≡ 0) gone → MayAnswer here Purge gone told → MayCome here (tried_of Purge told gone)
  come told gone none may = record { answer = may; gone = none; purge = λ no. absurd (no tt) }

  may_fault : (e : StorageFault) (gone : List ℕ) (to : ℕ) → StopsAt None to new e → MayAnswer here Purge gone (fault_answer e)
  may_fault fault.NoMemory gone to is = tt
  may_fault (fault.Disk faults) gone to is = tt
  may_fault fault.None gone to is = absurd (⊎_elim (λ no. no) (λ stuck. stuck.2) is)
  may_fault fault.Full gone to is = absurd (⊎_elim (λ no. no) (λ stuck. stuck.2) is)
  may_fault fault.Ids gone to is = absurd (⊎_elim (λ no. no) (λ stuck. stuck.2) is)
  may_fault fault.Files gone to is = tt
  may_fault (fault.TooLong bytes) gone to is = tt

  -- the groups of the files that were rewritten
  groups_to : (t : Tried) → t.call ≡ Purge → (from : ℕ) (files : List ℕ) (to : ℕ) → PurgesTo None from files to old new → HaveGroups (calls ++ t ∷ []) (length new.entries)
  groups_to t is from files to purges =
      let more = map entry_of purges.groups in
      let long = length-append old.entries more in
      let sum : length old.entries + length more ≡ length new.entries = omega (arith, ap length purges.entries, long) in
      subst (HaveGroups (calls ++ t ∷ [])) sum (groups_more calls t (length old.entries) (length more) follows.groups (subst (λ (call : Call). HasGroups call t.answer (length more)) (sym is) tt))

  done_called : (n : ℕ) → n ≡ length m.rows - length new.chain.live.mailbox.rows → Quiet (Ok n) → PurgesMap None old new (Ok n) → Caused (Ok n) → IsCalled sees start base calls Purge (Some (answer.Purged n)) old new
  done_called n count quiet value cause =
      let gone = went (Ok n) quiet in
      let t = tried_of Purge (Some (answer.Purged n)) gone.0 in
      let rows_old : length here.items ≡ length m.rows = ap (λ (s : Storage). length s.items) (sym follows.keeps.storage) ∙ length-map m.rows (item_of told_at m) in
      let rows_new : length (without gone.0 here).items ≡ length new.chain.live.mailbox.rows =
      ap (λ (s : Storage). length s.items) (sym gone.2) ∙ length-map new.chain.live.mailbox.rows (item_of told_at new.chain.live.mailbox) in
      let fewer : length (without gone.0 here).items ≤ length here.items = filter_less (Stays gone.0) here.items in
      called sees start base calls old new follows Purge (Some (answer.Purged n)) gone.0 (come (Some (answer.Purged n)) gone.0 gone.1 (omega (arith, count, rows_old, rows_new, fewer))) cause.later
      (record { messages = told_at; debt = Nothing; rests = quiet.ok; storage = gone.2 ∙ sym (behind_more calls start t); owed = tt })
      (groups_to t refl 0 value.0 value.1 value.2) (since (Ok n) quiet t refl)

  module _ (e : StorageFault) (quiet : Quiet (Err e)) (value : PurgesMap None old new {T = ℕ} (Err e)) (cause : Caused (Err e)) where
    rise : RiseFrom (sees.fault_count old.shelf) (failure_of (fault_answer e)) (sees.fault_count new.shelf)
    rise = fault_rises {A = ℕ} e (sees.fault_count old.shelf) (sees.fault_count new.shelf) cause

    -- what was owed still is
    kept_called : quiet.err.0 ≡ follows.keeps.debt → new.chain.live.mailbox ≡ m → IsCalled sees start base calls Purge (fault_answer e) old new
    kept_called same map =
        let k = follows.keeps in
        let t = tried_of Purge (fault_answer e) [] in
        called sees start base calls old new follows Purge (fault_answer e) [] (come (fault_answer e) [] (All-nil (λ id. references here id ≡ 0)) (may_fault e [] value.1 value.3)) rise
        (record {
          messages = told_at;
          debt = quiet.err.0;
          rests = quiet.err.6;
          storage = storage_on sees start base calls old new follows t (fault_undone e, refl) told_at (ap (storage_of told_at) map ∙ k.storage);
          owed = subst (IsOwedBehind start (calls ++ t ∷ []) told_at) (sym same) (owed_on sees start base calls old new follows t (fault_undone e, refl) told_at k.debt k.owed);
        })
        (groups_to t refl 0 value.0 value.1 value.2) (since (Err e) quiet t refl)

    -- or the group of a further file may be
    left_called : IsLeftOwed Nothing quiet.err.1 new.chain.live.mailbox quiet.err.2 quiet.err.0 → IsCalled sees start base calls Purge (fault_answer e) old new
    left_called left =
        let gone = went (Err e) quiet in
        let t = tried_of Purge (fault_answer e) gone.0 in
        let some = quiet.err in
        let is : storage_of told_at new.chain.live.mailbox ≡ behind start (calls ++ t ∷ []) = gone.2 ∙ sym (behind_more calls start t) in
        let P : Owed → Type 0 = IsOwedBehind start (calls ++ t ∷ []) told_at in
        let further : IsWithoutSome (storage_of told_at new.chain.live.mailbox) (storage_of told_at some.2) = thinned_more told_at m valid (storage_of told_at new.chain.live.mailbox) (storage_of told_at some.2) quiet.thins some.4 in
        called sees start base calls old new follows Purge (fault_answer e) gone.0 (come (fault_answer e) gone.0 gone.1 (may_fault e gone.0 value.1 value.3)) rise
        (record {
          messages = told_at;
          debt = some.0;
          rests = some.6;
          storage = is;
          owed = ⊎_elim (⊎_elim (λ none. subst P (sym none) tt) (⊎_elim (λ none. subst P (sym none) tt) (λ last. subst P (sym last.1) tt)))
              (λ gate. subst P (sym gate) (some.3, (t, cut_new calls t (fault_undone e), subst (λ (s : Storage). IsWithoutSome s (storage_of told_at some.2)) is further))) left;
        })
        (groups_to t refl 0 value.0 value.1 value.2) (since (Err e) quiet t refl)

    failed_called : IsCalled sees start base calls Purge (fault_answer e) old new
    failed_called = ⊎_elim (λ kept. kept_called kept.0 kept.1) left_called quiet.err.5

  pub purged_called : (result : Result ℕ StorageFault) → IfOk result (λ n. n ≡ length m.rows - length new.chain.live.mailbox.rows) → Quiet result → PurgesMap None old new result → Caused result
      → IsCalled sees start base calls Purge (purged_answer result) old new
  purged_called (Ok n) count quiet value cause = done_called n count quiet value cause
  purged_called (Err e) count quiet value cause = failed_called e quiet value cause

-- which ids went, and what is left
pub purged_so : (old : Folder) (m : Mailbox) (new : Folder) (after : Mailbox) (result : Result ℕ StorageFault) → IfOk result (IsPurged old new m after) → OnOk result (IsCleared new after) → PurgesSo Purge (purged_answer result) old m new after
purged_so old m new after (Ok n) purged cleared = (purged, cleared)
purged_so old m new after (Err fault.NoMemory) purged cleared = tt
purged_so old m new after (Err (fault.Disk faults)) purged cleared = tt
purged_so old m new after (Err fault.None) purged cleared = tt
purged_so old m new after (Err fault.Full) purged cleared = tt
purged_so old m new after (Err fault.Ids) purged cleared = tt
purged_so old m new after (Err fault.Files) purged cleared = tt
purged_so old m new after (Err (fault.TooLong bytes)) purged cleared = tt
