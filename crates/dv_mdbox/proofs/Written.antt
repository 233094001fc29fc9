-- What the write of a group does to a storage.
use Rattle.std.proofs.Common.{◌≡◌, ◌⊎◌, inl, inr, ⊎_elim, ◌||◌, Bool, true, false, ℕ, ◌+◌, ◌-◌, List, [], ◌∷◌, ◌++◌, length, Option, Some, None, is_some, Result, Ok, Err, refl, sym, ◌∙◌, ap, subst, arith}
use Rattle.std.specs.Prelude.{IfSome, IsSome, flat_map}
use Rattle.dv_model.specs.declared.types.Entry.{Entry}
use Rattle.dv_model.specs.declared.types.Mailbox.{Mailbox}
use Rattle.dv_model.specs.declared.types.Mark.{Mark}
use Rattle.dv_model.specs.declared.types.Record.{Record}
use Rattle.dv_model.specs.Effects.{applied}
use Rattle.dv_model.specs.Spelling.{written}
use Rattle.dv_shelf.specs.declared.shelf.Name.TheVariants as name
use Rattle.dv_shelf.specs.Crashes.{LeavesOnly}
use Rattle.dv_shelf.specs.Folders.{Folder}
use Rattle.dv_shelf.specs.Sees.{SeesFolder}
use Rattle.dv_shelf.proofs.Moments.{joined, weaker}
use Rattle.dv_chain.specs.declared.chain.Chain.{Chain}
use Rattle.dv_chain.specs.Openings.{OnlyLooks}
use Rattle.dv_chain.specs.Rest.{Last, Nothing, Owed, Pending}
use Rattle.dv_plans.specs.Begins.{beginning, turns}
use Rattle.dv_plans.proofs.Readied.{ready_place}
use Rattle.dv_files.specs.declared.texts.Turn.{Turn}
use Rattle.dv_files.specs.Texts.{ClosesLog, place_of}
use Rattle.dv_writing.specs.declared.committing.Committed.{Committed}
use Rattle.dv_writing.specs.Opening.{AreEqual, mark_behind}
use Rattle.dv_writing.specs.Ways.{StopsOnWay, held, ready}
use Rattle.dv_filing.specs.declared.steps.Files.{Files}
use Rattle.dv_filing.specs.declared.steps.Steps.{Steps}
use Rattle.dv_filing.specs.Files.{IsNamed}
use Rattle.dv_filing.specs.Standing.{Fits, Gives, MayGive, Stands}
use Rattle.dv_filing.specs.Writes.{CarriesOut, IsWriteOf, KeepsThrough, KeepsUnnamed, MayGiveWrite, StandsLeft, WritesStorage}
use Rattle.dv_filing.proofs.Resting.{rests_give}
use Rattle.dv_maps.specs.Texts.{Messages}
use Rattle.dv_mdbox.specs.declared.tails.Tail.{Tail}
use Rattle.dv_mdbox.specs.Readying.{IsReadyFor}
use Rattle.dv_mdbox.specs.States.{StandsAt, State}
use Rattle.dv_mdbox.specs.Writes.{KeepsMails, MayGiveCall, WritesGroup, WritesQuietly, begin_of, entry_of, mark_after}
use Rattle.dv_mdbox.proofs.Equal.{equal_path, roomy}
use Rattle.dv_mdbox.proofs.Marked.{behind_group, begun_at, begins_at, stops_at}

some_of : {A : Type 0} (o : Option A) → IsSome o → (n : A) × (o ≡ Some n)
some_of (Some n) is = (n, refl)
some_of None is = absurd cc

-- ---- the place behind a group

behind_is : (text : List ℕ) (size : ℕ) (chain : Chain) → length text ≡ size + 4 → mark_behind text chain ≡ mark_after (place_of chain) size
behind_is text size chain long =
    let offset : chain.log.end + length text - 4 ≡ chain.log.end + size = omega (arith, long) in
    λ i. record { file_seq = chain.log.file_seq; offset = offset i }

place_behind : (records : List Record) (owed : Option Turn) (chain : Chain) (files : Files) (text : List ℕ) (steps : Steps) → IsReadyFor owed chain records files text steps → mark_behind text (ready owed steps.turn chain) ≡ mark_after (begin_of owed chain) (length (flat_map written records))
place_behind records owed chain files text steps is =
    let size = length (flat_map written records) in
    behind_is text size (ready owed steps.turn chain) is.size
    ∙ ap (λ (mark : Mark). mark_after mark size) (ready_place owed steps.turn chain is.made.due)
    ∙ ap (λ b. mark_after (beginning (is_some owed || b) chain) size) is.due

place_equal : (chain old : Chain) → AreEqual chain old → place_of chain ≡ place_of old
place_equal chain old same = λ i. record { file_seq = (same.log i).file_seq; offset = (same.log i).end }

-- spare rows say nothing of it
pub marked_equal : (mark : Mark) (chain old : Chain) (owed : Option Turn) → AreEqual chain old → StandsAt mark (place_of old) owed → StandsAt mark (place_of chain) owed
marked_equal mark chain old owed same stands = subst (λ (p : Mark). StandsAt mark p owed) (sym (place_equal chain old same)) stands

-- ---- the map, the entries and the mark

-- behind the steps the map is that with the records applied
pub map_written : (records : List Record) (owed left : Option Turn) (old chain : Chain) → AreEqual chain old → (files : Files) (text : List ℕ) (steps : Steps) → IsReadyFor owed chain records files text steps
    → IsSome (applied old.live.mailbox records) → (next : Chain) (done : Committed) {E : Type 0} → CarriesOut owed left text steps chain next {E = E} (Ok done)
    → applied old.live.mailbox records ≡ Some next.live.mailbox
map_written records owed left old chain same files text steps is applies next done value =
    let one = some_of (applied old.live.mailbox records) applies in
    let gives : applied chain.live.mailbox records ≡ Some one.0 = ap (λ (m : Mailbox). applied m records) same.mailbox ∙ one.1 in
    one.1 ∙ ap (λ (m : Mailbox). Some m) (sym (value.mailbox one.0 (is.pending one.0 gives)))

module _ {S C : Type 0} (records : List Record) (old : State S C) (chain : Chain) (same : AreEqual chain old.chain) where
  -- nothing was written
  pub group_unwritten : {T E : Type 0} (e : E) (shelf : S) → WritesGroup records old (record old { shelf = shelf; chain = chain }) {T = T} {E = E} (Err e)
  group_unwritten e shelf = record {
    map = tt;
    entries = tt;
    mark = tt;
    kept = (same.mailbox, refl, refl);
    start = refl;
    indexid = same.indexid;
  }

  module _ (files : Files) (text : List ℕ) (steps : Steps) (is : IsReadyFor old.owed chain records files text steps) (applies : IsSome (applied old.chain.live.mailbox records)) (left : Option Turn) (next : Chain) (shelf : S) where
    -- the group was written
    pub group_written : {E F : Type 0} (done : Committed) (entries : List Entry) (tail : Option Tail) → StandsAt old.mark (place_of old.chain) old.owed → entries ≡ old.entries ++ entry_of records ∷ [] → CarriesOut old.owed left text steps chain next {E = E} (Ok done)
        → WritesGroup records old (record old { shelf = shelf; chain = next; owed = left; mark = done.mark; entries = entries; tail = tail }) {T = Unit {0}} {E = F} (Ok tt)
    group_written done entries tail stands added value =
        let here = marked_equal old.mark chain old.chain old.owed same stands in
        record {
          map = map_written records old.owed left old.chain chain same files text steps is applies next done value;
          entries = added;
          mark = (value.mark.1, value.mark.0 ∙ place_behind records old.owed chain files text steps is ∙ behind_group old.mark old.owed chain records here);
          kept = tt;
          start = refl;
          indexid = value.indexid ∙ same.indexid;
        }

    -- or that failed
    pub group_failed : {E F : Type 0} (e : E) (f : F) → CarriesOut old.owed left text steps chain next {E = E} (Err e) → WritesGroup records old (record old { shelf = shelf; chain = next; owed = left }) {T = Unit {0}} {E = F} (Err f)
    group_failed e f value = record {
      map = tt;
      entries = tt;
      mark = tt;
      kept = ((λ i. (value.failed i).mailbox) ∙ same.mailbox, refl, refl);
      start = refl;
      indexid = value.indexid ∙ same.indexid;
    }

-- the log ends at the mark behind an error, too
pub failed_at : (mark : Mark) (owed left : Option Turn) (chain next : Chain) (records : List Record) (files : Files) (text : List ℕ) (steps : Steps) → IsReadyFor owed chain records files text steps → StandsAt mark (place_of chain) owed
    → StopsOnWay owed left steps.turn chain next ⊎ ((place_of next ≡ place_of (ready owed steps.turn chain)) × (left ≡ None)) → StandsAt mark (place_of next) left
failed_at mark owed left chain next records files text steps is stands =
    ⊎_elim (stops_at mark owed left steps.turn chain next stands is.made.due is.due)
    (λ there.
    begun_at mark (place_of next) left
    (there.0 ∙ ready_place owed steps.turn chain is.made.due ∙ ap (λ b. beginning (is_some owed || b) chain) is.due ∙ begins_at mark owed chain stands) there.1)

-- nothing was written, and only the clock was read
pub group_kept : {S C : Type 0} (records : List Record) (old new : State S C) {T E : Type 0} (e : E) → new.chain ≡ old.chain → new.entries ≡ old.entries → new.mark ≡ old.mark → new.start ≡ old.start → WritesGroup records old new {T = T} {E = E} (Err e)
group_kept records old new e on entries mark start = record {
  map = tt;
  entries = tt;
  mark = tt;
  kept = ((λ i. (on i).live.mailbox), entries, mark);
  start = start;
  indexid = λ i. (on i).indexid;
}

-- the clock says nothing of it
pub group_clocked : {S C : Type 0} (records : List Record) (old new : State S C) (clock : C) {T E : Type 0} (result : Result T E) → WritesGroup records (record old { clock = clock }) new result → WritesGroup records old new result
group_clocked records old new clock result writes = record { map = writes.map; entries = writes.entries; mark = writes.mark; kept = writes.kept; start = writes.start; indexid = writes.indexid }

pub quiet_clocked : {S C : Type 0} (sees : SeesFolder S) (messages next : Messages) (debt : Owed) (after : Mailbox) (size : ℕ) (old new : State S C) (clock : C) {T E : Type 0} (result : Result T E) → WritesQuietly sees messages next debt after size (record old { clock = clock }) new result
    → WritesQuietly sees messages next debt after size old new result
quiet_clocked sees messages next debt after size old new clock result writes = record { ok = writes.ok; err = writes.err; any_moment = writes.any_moment }

-- nor do the entries
pub quiet_entries : {S C : Type 0} (sees : SeesFolder S) (messages next : Messages) (debt : Owed) (after : Mailbox) (size : ℕ) (old new : State S C) (entries : List Entry) {T E : Type 0} (result : Result T E) → WritesQuietly sees messages next debt after size old new result
    → WritesQuietly sees messages next debt after size old (record new { entries = entries }) result
quiet_entries sees messages next debt after size old new entries result writes = record { ok = writes.ok; err = writes.err; any_moment = writes.any_moment }

-- ---- what the folder gives

-- the steps are those of the group
pub write_of : {S : Type 0} (sees : SeesFolder S) (messages next : Messages) (after : Mailbox) (records : List Record) (owed : Option Turn) (old chain : Chain) → AreEqual chain old → (shelf mid : S) → OnlyLooks sees shelf mid → (files : Files) (text : List ℕ) (steps : Steps)
    → IsReadyFor owed chain records files text steps → IfSome steps.turn (λ turn. ClosesLog chain turn (sees.files shelf)) → applied old.live.mailbox records ≡ Some after → KeepsThrough messages next old.live.mailbox after files → IsWriteOf messages next after owed chain (sees.files mid) text steps
write_of sees messages next after records owed old chain same shelf mid looks files text steps is closes gives keeps = record {
  pending = is.pending after (ap (λ (m : Mailbox). applied m records) same.mailbox ∙ gives);
  closes = subst (λ (f : Folder). IfSome steps.turn (λ turn. ClosesLog chain turn f)) (sym looks.same) closes;
  keeps = subst (λ (f : Files). KeepsThrough messages next chain.live.mailbox after f) (sym is.file) (subst (λ (m : Mailbox). KeepsThrough messages next m after files) (sym same.mailbox) keeps);
}

module _ {S C : Type 0} (sees : SeesFolder S) (messages next : Messages) (debt : Owed) (after : Mailbox) (records : List Record) (old : State S C) (chain : Chain) (same : AreEqual chain old.chain) where
  abbrev size : ℕ
  size = length (flat_map written records)

  abbrev May : Folder → Type 0
  May = MayGiveCall messages next debt after size old.owed old.chain

  -- what is said of the chain with its spare rows is said of the old one
  may_equal : (c : Folder) → MayGiveCall messages next debt after size old.owed chain c → May c
  may_equal c gives = subst (λ (k : Chain). MayGiveCall messages next debt after size old.owed k c) (equal_path chain old.chain same) (may_roomy c gives)
    where
      other : Chain
      other = roomy chain old.chain.live.spare old.chain.live.hidden

      first : (c : Folder) (owed : Owed) → MayGive messages owed chain c → MayGive messages owed other c
      first c Nothing gives = gives
      first c (Pending text with) gives = gives
      first c (Last log with) gives = gives

      begins : (b : Bool) → beginning b chain ≡ beginning b other
      begins true = refl
      begins false = refl

      may_roomy : (c : Folder) → MayGiveCall messages next debt after size old.owed chain c → MayGiveCall messages next debt after size old.owed other c
      may_roomy c =
          ⊎_elim (λ one. inl (first c debt one))
          (λ two. inr (⊎_elim inl (λ done. inr (subst (λ (mark : Mark). Gives next chain.indexid after (mark_after mark size) c) (begins (is_some old.owed || turns old.owed chain)) done)) two))

  module _ (mid : S) (looks : OnlyLooks sees old.shelf mid) (stands : Stands sees messages debt old.chain old.shelf) where
    since_look : LeavesOnly sees old.shelf mid May
    since_look = weaker sees old.shelf mid (sees.may_leave old.shelf) May looks.since (λ c left. inl (rests_give sees messages debt old.chain old.shelf c stands left))

    -- nothing was written
    pub quiet_unwritten : {T E : Type 0} (e : E) → Fits old.owed old.chain.live.mailbox debt → Stands sees messages debt chain mid → WritesQuietly sees messages next debt after size old (record old { shelf = mid; chain = chain }) {T = T} {E = E} (Err e)
    quiet_unwritten e fits still = record {
      ok = tt;
      err = (debt, [], subst (λ (m : Mailbox). Fits old.owed m debt) (sym same.mailbox) fits, inl (inl refl, still));
      any_moment = since_look;
    }

    module _ (files : Files) (text : List ℕ) (steps : Steps) (is : IsReadyFor old.owed chain records files text steps) (left : Option Turn) (new_chain : Chain) (shelf : S) where
      write_gives : (c : Folder) → MayGiveWrite messages next debt after old.owed text steps chain c → MayGiveCall messages next debt after size old.owed chain c
      write_gives c =
          ⊎_elim (λ way. ⊎_elim (λ gives. inl gives) (λ turned. inr (inl turned.1)) way)
          (λ gives.
          let place = place_behind records old.owed chain files text steps is in
          inr (inr (subst (λ (mark : Mark). Gives next chain.indexid after mark c) place gives)))

      since_write : {T E : Type 0} (result : Result T E) → WritesStorage sees messages next debt after text steps (held mid chain old.owed) (held shelf new_chain left) result → LeavesOnly sees old.shelf shelf May
      since_write result writes =
          joined sees old.shelf mid shelf May since_look
          (weaker sees mid shelf (MayGiveWrite messages next debt after old.owed text steps chain) May writes.any_moment (λ c gives. may_equal c (write_gives c gives)))

      -- the group was written
      pub quiet_written : {E F : Type 0} (done : Committed) (state : State S C) → state.chain ≡ new_chain → state.shelf ≡ shelf → state.owed ≡ left → left ≡ None
          → WritesStorage sees messages next debt after text steps (held mid chain old.owed) (held shelf new_chain left) {E = E} (Ok done) → WritesQuietly sees messages next debt after size old state {T = Unit {0}} {E = F} (Ok tt)
      quiet_written {E = E} done state on at owed none writes = record {
        ok = (
          subst (λ (k : Chain). Stands sees next Nothing k state.shelf) (sym on) (subst (λ (s : S). Stands sees next Nothing new_chain s) (sym at) writes.ok),
          subst (λ (o : Option Turn). Fits o state.chain.live.mailbox Nothing) (sym (owed ∙ none)) tt,
        );
        err = tt;
        any_moment = subst (λ (s : S). LeavesOnly sees old.shelf s May) (sym at) (since_write {E = E} (Ok done) writes);
      }

      -- or that failed
      pub quiet_failed : {E F : Type 0} (e : E) (f : F) → WritesStorage sees messages next debt after text steps (held mid chain old.owed) (held shelf new_chain left) {T = Committed} {E = E} (Err e)
          → WritesQuietly sees messages next debt after size old (record old { shelf = shelf; chain = new_chain; owed = left }) {T = Unit {0}} {E = F} (Err f)
      quiet_failed e f writes =
          let some = writes.err in
          record {
            ok = tt;
            err = (some.0, text, some.1, subst (λ (m : Mailbox). StandsLeft sees messages next debt text m after some.0 (held shelf new_chain left)) same.mailbox some.2);
            any_moment = since_write {T = Committed} (Err e) writes;
          }

-- ---- the other message files

pub mails_looked : {S : Type 0} (sees : SeesFolder S) (files : Files) (old mid : S) → OnlyLooks sees old mid → KeepsMails files (sees.files old) (sees.files mid)
mails_looked sees files old mid looks = λ n away. ap (λ (f : Folder). f (name.Mail n)) looks.same

pub mails_written : {S : Type 0} (sees : SeesFolder S) (files : Files) (steps : Steps) → steps.files ≡ files → (old mid new : S) → OnlyLooks sees old mid → KeepsUnnamed steps (sees.files mid) (sees.files new) → KeepsMails files (sees.files old) (sees.files new)
mails_written sees files steps same old mid new looks others = λ n away.
    others (name.Mail n) (λ named. away (subst (λ (f : Files). IsNamed f (name.Mail n)) same named)) (λ e. e) ∙ ap (λ (f : Folder). f (name.Mail n)) looks.same
