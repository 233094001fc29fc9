-- What the folder gives behind a command's write, and at any moment of it.
use Rattle.std.proofs.Common.{◌≡◌, ◌⊎◌, inl, inr, ⊎_elim, ℕ, ◌<◌, ◌≤◌, Bool, List, [], ◌++◌, length, take, is_some, true, false, Contains, Option, Some, None, Result, Ok, Err, refl, sym, ◌∙◌, ap, subst, arith}
use Rattle.std.specs.Prelude.{IfErr, IfOk, IfSome, IsSome, OnOk}
use Rattle.dv_model.specs.declared.types.Command.{Command}
use Rattle.dv_model.specs.declared.types.Command.TheVariants as command
use Rattle.dv_model.specs.declared.types.Group.{Group}
use Rattle.dv_model.specs.declared.types.Mailbox.{Mailbox}
use Rattle.dv_model.specs.declared.types.Mark.{Mark}
use Rattle.dv_model.specs.declared.types.Record.{Record}
use Rattle.dv_model.specs.Journals.{Log, header_size}
use Rattle.dv_model.specs.Sessions.{is_append}
use Rattle.dv_model.specs.Spelling.{group_text}
use Rattle.dv_model.specs.Views.{View}
use Rattle.dv_shelf.specs.declared.shelf.Name.{Name}
use Rattle.dv_shelf.specs.declared.shelf.Name.TheVariants as name
use Rattle.dv_shelf.specs.Crashes.{LeavesOnly}
use Rattle.dv_shelf.specs.Folders.{Folder}
use Rattle.dv_shelf.proofs.Moments.{joined, weaker}
use Rattle.dv_logfile.specs.declared.commit.LogFile.{LogFile}
use Rattle.dv_logfile.specs.Layout.{closing}
use Rattle.dv_dbox.specs.Mails.{no_guid}
use Rattle.dv_chain.specs.declared.chain.Chain.{Chain}
use Rattle.dv_chain.specs.Openings.{OnlyLooks}
use Rattle.dv_chain.specs.Rest.{next_mark}
use Rattle.dv_writing.specs.declared.committing.Committed.{Committed}
use Rattle.dv_writing.specs.Opening.{AreEqual, mark_behind}
use Rattle.dv_files.specs.declared.texts.Turn.{Turn}
use Rattle.dv_files.specs.Texts.{next_log, place_of}
use Rattle.dv_openings.specs.TrueCaches.{HasTrueCache}
use Rattle.dv_writing.specs.Debts.{Debt, Fits, Last, MayGive, Nothing, Pending, Stands}
use Rattle.dv_writing.specs.Keeping.{Gives}
use Rattle.dv_writing.proofs.Resting.{rests_give}
use Rattle.dv_lookups.specs.declared.cache_file.CacheFile.{CacheFile}
use Rattle.dv_lookups.specs.declared.cache_file.CacheFile.TheVariants as cache
use Rattle.dv_lookups.specs.Kept.{IsFileOf}
use Rattle.dv_writing.specs.Removals.{IsFree}
use Rattle.dv_plans.specs.declared.fault.StoreFault.{StoreFault}
use Rattle.dv_plans.specs.declared.plan.Plan.{Plan}
use Rattle.dv_plans.specs.Begins.{AtReading, turns}
use Rattle.dv_plans.specs.Files.{AreFilesMade, IsCheckOf}
use Rattle.dv_plans.specs.Overs.{DecidesOver, group_over}
use Rattle.dv_plans.specs.Plans.{IsPlanOf, PlansWrite, TurnsAt}
use Rattle.dv_writing.specs.declared.steps.Files.{Files}
use Rattle.dv_writing.specs.declared.steps.Files.TheVariants as kind
use Rattle.dv_writing.specs.declared.steps.Steps.{Steps}
use Rattle.dv_writing.specs.Steps.{AreFilesFor, HoldsFiles, IsNamed}
use Rattle.dv_writing.specs.Ways.{HasTurned, IsDue, IsOfLog, held, ready}
use Rattle.dv_writing.specs.Writes.{AreFilesOf, CarriesOut, IsAfter, IsLeftByWrite, MayGiveWrite, MayOweGate, Write, WritesStore, group_by, log_with}
use Rattle.dv_writing.proofs.Left.{last_of}
use Rattle.dv_writing.proofs.Ready.{paid_place}
use Rattle.dv_store.specs.declared.receipt.Receipt.{Receipt}
use Rattle.dv_store.specs.Carried.{HasPlan, carried}
use Rattle.dv_store.specs.Commits.{Checks, CommitsQuietly, HasChecked, IsLeftAt, IsUnwritten, MayChange, MayGiveCommit, MayWrite, Rotates, cache_behind, end_with, idle_receipt, text_by}
use Rattle.dv_store.specs.Rest.{IsAtRest}
use Rattle.dv_store.specs.States.{State}
use Rattle.dv_store.proofs.Equal.{equal_path, stands_equal}
use Rattle.dv_store.proofs.Known.{rest_knows}
use Rattle.dv_store.proofs.Looked.{file_stays, stands_seen}
use Rattle.dv_store.proofs.Places.{mark_same, place_same, ready_begins, snapshot_same, turns_same}
use Rattle.dv_shelf.specs.Sees.{SeesFolder}

-- ---- a plan that was carried out

module _ {S : Type 0} {sees : SeesFolder S} {log : Log} {debt : Debt} {write : Write} {owed left : Option Turn} {text : List ℕ} {steps : Steps} {chain next : Chain} {old new : S} where
  pub stored_done : {T U E F : Type 0} (x : T) (y : U) → WritesStore sees log debt write text steps (held old chain owed) (held new next left) {T = T} {E = E} (Ok x) → WritesStore sees log debt write text steps (held old chain owed) (held new next left) {T = U} {E = F} (Ok y)
  stored_done x y stores = record { ok = stores.ok; err = tt; any_moment = stores.any_moment; written = record { ok = stores.written.ok; others = stores.written.others } }

  pub stored_failed : {T U E F : Type 0} (e : E) (f : F) → WritesStore sees log debt write text steps (held old chain owed) (held new next left) {T = T} {E = E} (Err e) → WritesStore sees log debt write text steps (held old chain owed) (held new next left) {T = U} {E = F} (Err f)
  stored_failed e f stores = record { ok = tt; err = stores.err; any_moment = stores.any_moment; written = record { ok = tt; others = stores.written.others } }

-- ---- what a folder gives, over a chain that is equal but for spare rows

gives_same : (log : Log) (debt : Debt) (chain before : Chain) (c : Folder) → AreEqual chain before → MayGive log debt chain c → MayGive log debt before c
gives_same log Nothing chain before c same = subst (λ (k : Chain). MayGive log Nothing k c) (equal_path chain before same)
gives_same log (Pending text after written) chain before c same = subst (λ (k : Chain). MayGive log (Pending text after written) k c) (equal_path chain before same)
gives_same log (Last new) chain before c same = subst (λ (k : Chain). MayGive log (Last new) k c) (equal_path chain before same)

turned_same : (log : Log) (chain before : Chain) (c : Folder) → AreEqual chain before → Gives log chain.live.mailbox (next_mark chain) c → Gives log before.live.mailbox (next_mark before) c
turned_same log chain before c same = subst (λ (k : Chain). Gives log k.live.mailbox (next_mark k) c) (equal_path chain before same)

-- ---- the cache file

-- what was read of it is forgotten, or is as before
forgets : (P : CacheFile → Type 0) (c : Command) (file : CacheFile) → P cache.Unread → P file → P (cache_behind c file)
forgets P command.Select file none same = same
forgets P command.Noop file none same = same
forgets P command.Check file none same = none
forgets P command.Expunge file none same = same
forgets P (command.Append _ _ _) file none same = same
forgets P (command.Fetch _ _ _) file none same = same
forgets P (command.Store _ _ _ _ _ _) file none same = same
forgets P (command.Search _ _) file none same = same
forgets P (command.UidRemove _) file none same = same

-- no files are written, or none but the new message's
unnamed_none : (m : Mailbox) (steps : Files) → steps ≡ kind.Nothing → IsNamed m steps name.Cache → ⊥
unnamed_none m steps is = subst (λ (k : Files). IsNamed m k name.Cache → ⊥) (sym is) (λ named. named)

unnamed_message : (m : Mailbox) (steps : Files) (text : List ℕ) → steps ≡ kind.Message text → IsNamed m steps name.Cache → ⊥
unnamed_message m steps text is = subst (λ (k : Files). IsNamed m k name.Cache → ⊥) (sym is) (λ named. cc)

-- a CHECK's cache file was forgotten, and no other command writes it
file_behind : (log : Log) (received : ℕ) (m : Mailbox) (c : Command) (steps : Files) (file : CacheFile) (d e : Folder) → AreFilesOf log received m c steps → ((IsNamed m steps name.Cache → ⊥) → e name.Cache ≡ d name.Cache) → IsFileOf d file → IsFileOf e (cache_behind c file)
file_behind log received m command.Select steps file d e are keeps is = file_stays file d e (keeps (unnamed_none m steps are)) is
file_behind log received m command.Noop steps file d e are keeps is = file_stays file d e (keeps (unnamed_none m steps are)) is
file_behind log received m command.Check steps file d e are keeps is = tt
file_behind log received m command.Expunge steps file d e are keeps is = file_stays file d e (keeps (unnamed_none m steps are)) is
file_behind log received m (command.Append _ _ _) steps file d e are keeps is = file_stays file d e (keeps (unnamed_message m steps are.text are.is)) is
file_behind log received m (command.Fetch _ _ _) steps file d e are keeps is = file_stays file d e (keeps (unnamed_none m steps are)) is
file_behind log received m (command.Store _ _ _ _ _ _) steps file d e are keeps is = file_stays file d e (keeps (unnamed_none m steps are)) is
file_behind log received m (command.Search _ _) steps file d e are keeps is = file_stays file d e (keeps (unnamed_none m steps are)) is
file_behind log received m (command.UidRemove _) steps file d e are keeps is = file_stays file d e (keeps (unnamed_none m steps are)) is

-- ---- a check

module _ (owed turn : Option Turn) (chain before : Chain) (same : AreEqual chain before) (due : IsDue owed chain turn) (made : is_some turn ≡ turns owed chain) where
  -- what it leaves
  check_left : (steps : Files) (old mid new : Folder) → mid ≡ old → HasTrueCache old before.indexid before.live.mailbox → IsCheckOf before old steps → AreFilesFor (ready owed turn chain) steps → HoldsFiles chain.live.mailbox steps new
      → ((n : Name) → (IsNamed chain.live.mailbox steps n → ⊥) → (IsOfLog turn n → ⊥) → new n ≡ mid n) → HasChecked owed before old new
  check_left steps old mid new looked true_cache is for holds others =
      by_renewal (subst (AreFilesFor (ready owed turn chain)) is.is for) (subst (λ (k : Files). HoldsFiles chain.live.mailbox k new) is.is holds)
      (subst (λ (k : Files). (n : Name) → (IsNamed chain.live.mailbox k n → ⊥) → (IsOfLog turn n → ⊥) → new n ≡ mid n) is.is others)
    where
      by_renewal : AreFilesFor (ready owed turn chain) (kind.Check is.renewal) → HoldsFiles chain.live.mailbox (kind.Check is.renewal) new → ((n : Name) → (IsNamed chain.live.mailbox (kind.Check is.renewal) n → ⊥) → (IsOfLog turn n → ⊥) → new n ≡ mid n) → HasChecked owed before old new
      by_renewal are has stay = record {
        gone = λ uid given free. gone_uid uid given free (old (name.Mail uid)) refl;
        index = is.renewal.index;
        snapshot = snapshot_same chain before same owed turn due made is.renewal.index are.1;
        cache = is.renewal.cache;
        renewed = is.cache true_cache;
        there = (has.1, has.2);
      }
        where
          listed_not : (uid : ℕ) → old (name.Mail uid) ≡ None → Contains is.renewal.gone uid → ⊥
          listed_not uid none listed = absurd (let no : IsSome {T = List ℕ} None = subst IsSome none ((is.gone.lists.each (name.Mail uid)).1 ((is.gone.are.are uid).0 listed).there) in cc)

          gone_uid : (uid : ℕ) → uid < before.live.mailbox.next_uid → IsFree before.live.mailbox uid → (o : Option (List ℕ)) → old (name.Mail uid) ≡ o → new (name.Mail uid) ≡ None
          gone_uid uid given free None none = stay (name.Mail uid) (λ listed. listed_not uid none listed) (λ of. of) ∙ ap (λ (f : Folder). f (name.Mail uid)) looked ∙ none
          gone_uid uid given free (Some bytes) some =
              has.0 uid ((is.gone.are.are uid).1 (record { there = (is.gone.lists.each (name.Mail uid)).0 (subst IsSome (sym some) refl); given = given; free = free }))

  -- so it is behind any command
  checked : (received : ℕ) (steps : Files) (old mid new : Folder) (c : Command) → mid ≡ old → HasTrueCache old before.indexid before.live.mailbox → AreFilesMade before received old c steps → AreFilesFor (ready owed turn chain) steps → HoldsFiles chain.live.mailbox steps new
      → ((n : Name) → (IsNamed chain.live.mailbox steps n → ⊥) → (IsOfLog turn n → ⊥) → new n ≡ mid n) → Checks c owed before old new
  checked received steps old mid new command.Select looked true_cache files_made for holds others = tt
  checked received steps old mid new command.Noop looked true_cache files_made for holds others = tt
  checked received steps old mid new command.Check looked true_cache files_made for holds others = check_left steps old mid new looked true_cache files_made for holds others
  checked received steps old mid new command.Expunge looked true_cache files_made for holds others = tt
  checked received steps old mid new (command.Append _ _ _) looked true_cache files_made for holds others = tt
  checked received steps old mid new (command.Fetch _ _ _) looked true_cache files_made for holds others = tt
  checked received steps old mid new (command.Store _ _ _ _ _ _) looked true_cache files_made for holds others = tt
  checked received steps old mid new (command.Search _ _) looked true_cache files_made for holds others = tt
  checked received steps old mid new (command.UidRemove _) looked true_cache files_made for holds others = tt

-- a CHECK has records
idle_checks : (c : Command) (view : View) (owed : Option Turn) (chain : Chain) (old new : Folder) (guid : ℕ → List ℕ) → (group_over c view chain guid).records ≡ [] → Checks c owed chain old new
idle_checks command.Select view owed chain old new guid none = tt
idle_checks command.Noop view owed chain old new guid none = tt
idle_checks command.Check view owed chain old new guid none = absurd cc
idle_checks command.Expunge view owed chain old new guid none = tt
idle_checks (command.Append _ _ _) view owed chain old new guid none = tt
idle_checks (command.Fetch _ _ _) view owed chain old new guid none = tt
idle_checks (command.Store _ _ _ _ _ _) view owed chain old new guid none = tt
idle_checks (command.Search _ _) view owed chain old new guid none = tt
idle_checks (command.UidRemove _) view owed chain old new guid none = tt

-- ---- the other files

of_log : (c : Command) (m : Mailbox) (turn : Option Turn) (turning : Bool) (n : Name) → (IsSome turn → turning ≡ true) → IsOfLog turn n → MayChange c m turning n
of_log c m turn turning (name.Mail uid) due of = absurd of
of_log c m turn turning name.Cache due of = absurd of
of_log c m turn turning name.Index due of = inr (due of)
of_log c m turn turning name.Log due of = tt
of_log c m turn turning name.Log2 due of = due of

none_named : (c : Command) (m : Mailbox) (turning : Bool) (steps : Files) (n : Name) → steps ≡ kind.Nothing → IsNamed m steps n → MayChange c m turning n
none_named c m turning steps n is named = absurd (subst (λ (k : Files). IsNamed m k n → ⊥) (sym is) (λ none. none) named)

check_named : (chain : Chain) (turning : Bool) (folder : Folder) (steps : Files) (is : IsCheckOf chain folder steps) (n : Name) → IsNamed chain.live.mailbox (kind.Check is.renewal) n → MayChange command.Check chain.live.mailbox turning n
check_named chain turning folder steps is (name.Mail uid) named = let unlisted = (is.gone.are.are uid).0 named in (unlisted.given, unlisted.free)
check_named chain turning folder steps is name.Cache named = tt
check_named chain turning folder steps is name.Index named = inl tt
check_named chain turning folder steps is name.Log named = tt
check_named chain turning folder steps is name.Log2 named = absurd named

module _ (chain : Chain) (turning : Bool) (received : ℕ) (folder : Folder) where
  -- the files that a command's steps name
  all_named : (c : Command) (steps : Files) → AreFilesMade chain received folder c steps → (n : Name) → IsNamed chain.live.mailbox steps n → MayChange c chain.live.mailbox turning n
  all_named command.Select steps made n named = none_named command.Select chain.live.mailbox turning steps n made named
  all_named command.Noop steps made n named = none_named command.Noop chain.live.mailbox turning steps n made named
  all_named command.Check steps made n named = check_named chain turning folder steps made n (subst (λ (k : Files). IsNamed chain.live.mailbox k n) made.is named)
  all_named command.Expunge steps made n named = none_named command.Expunge chain.live.mailbox turning steps n made named
  all_named (command.Append flags keywords message) steps made n named =
      let same : n ≡ name.Mail chain.live.mailbox.next_uid = subst (λ (k : Files). IsNamed chain.live.mailbox k n) made.is named in
      subst (λ (k : Name). MayChange (command.Append flags keywords message) chain.live.mailbox turning k) (sym same) refl
  all_named (command.Fetch a b d) steps made n named = none_named (command.Fetch a b d) chain.live.mailbox turning steps n made named
  all_named (command.Store a b d e f h) steps made n named = none_named (command.Store a b d e f h) chain.live.mailbox turning steps n made named
  all_named (command.Search a b) steps made n named = none_named (command.Search a b) chain.live.mailbox turning steps n made named
  all_named (command.UidRemove a) steps made n named = none_named (command.UidRemove a) chain.live.mailbox turning steps n made named

-- so it is, whether or not a rotation is due
may_write : (c : Command) (m : Mailbox) (turning : Bool) (n : Name) → MayChange c m turning n → MayWrite c m n
may_write c m turning (name.Mail uid) may = may
may_write c m turning name.Cache may = may
may_write c m turning n may = tt

pub others_may : {S C : Type 0} {sees : SeesFolder S} {log : Log} {debt : Debt} {write : Write} {old new : State S C} {result : Result Receipt StoreFault} → CommitsQuietly sees log debt write old new result
    → (n : Name) → (MayWrite write.command old.chain.live.mailbox n → ⊥) → sees.files new.shelf n ≡ sees.files old.shelf n
others_may {write = write} {old = old} quiet n unwritten = quiet.others n (λ may. unwritten (may_write write.command old.chain.live.mailbox (turns old.owed old.chain) n may))

-- ---- a clock that tells

pub told_at : {tells : Type 0} {reading : ℕ} {Holds : ℕ → Type 0} → AtReading tells reading Holds → tells → Holds reading
told_at {Holds = Holds} dated reads = subst Holds (dated.clock reads) dated.is

-- ---- a log that was rotated

-- where a rotation is due no other is owed
none_owed : (owed : Option Turn) (chain : Chain) → turns owed chain ≡ true → owed ≡ None
none_owed None chain due = refl
none_owed (Some turn) chain due = absurd cc

-- a turn that is owed behind a write is that of the rotation that was due
owed_turn : {E : Type 0} (owed left : Option Turn) (text : List ℕ) (steps : Steps) (chain next : Chain) (result : Result Committed E) → owed ≡ None → CarriesOut owed left text steps chain next result → (left ≡ None) ⊎ (left ≡ steps.turn)
owed_turn owed left text steps chain next (Ok done) none value = inl value.paid.1
owed_turn owed left text steps chain next (Err e) none value =
    ⊎_elim (⊎_elim (λ same. inl (same.1 ∙ none)) (λ paid. paid.2)) (λ begins. inl begins.1) value.place

module _ (reading : ℕ) (before chain : Chain) (same : AreEqual chain before) where
  -- the file is the one from before
  pub rotates_not : {S C : Type 0} (store new : State S C) (folder : Folder) → store.chain ≡ before → new.chain.log.file_seq ≡ chain.log.file_seq → turns store.owed store.chain ≡ true → new.owed ≡ store.owed → Rotates reading store new folder
  rotates_not store new folder is stays due owed = record {
    log = λ other. absurd (other (stays ∙ ap (λ (l : LogFile). l.file_seq) same.log ∙ ap (λ (k : Chain). k.log.file_seq) (sym is)));
    owed = subst (λ (o : Option Turn). IfSome o (λ turn. turn.new ≡ next_log store.chain reading)) (sym (owed ∙ none_owed store.owed store.chain due)) tt;
  }

  -- a plan was carried out
  pub rotates_written : {S C : Type 0} (store new : State S C) (plan : Plan) (folder : Folder) (result : Result Receipt StoreFault) → store.chain ≡ before → turns store.owed store.chain ≡ true
      → CarriesOut store.owed new.owed plan.text plan.steps chain new.chain (carried result) → is_some plan.steps.turn ≡ turns store.owed chain → TurnsAt before reading plan → HasTurned plan.steps.turn chain new.chain folder → Rotates reading store new folder
  rotates_written store new plan folder result is due value made at turned = by_turn plan.steps.turn refl (sym made') at turned
    where
      made' : turns store.owed store.chain ≡ is_some plan.steps.turn
      made' = ap (turns store.owed) is ∙ sym (turns_same chain before same store.owed) ∙ sym made

      new_log : (t : Turn) → t.new ≡ next_log before reading → t.new ≡ next_log store.chain reading
      new_log t at = at ∙ ap (λ (k : Chain). next_log k reading) (sym is)

      seq : chain.log.file_seq ≡ store.chain.log.file_seq
      seq = ap (λ (l : LogFile). l.file_seq) same.log ∙ ap (λ (k : Chain). k.log.file_seq) (sym is)

      by_turn : (o : Option Turn) → plan.steps.turn ≡ o → is_some plan.steps.turn ≡ turns store.owed store.chain → IfSome o (λ t. t.new ≡ next_log before reading) → HasTurned o chain new.chain folder → Rotates reading store new folder
      by_turn None none some at turned = absurd (let no : false ≡ true = sym (ap (λ (o : Option Turn). is_some o) none) ∙ some ∙ due in cc)
      by_turn (Some t) has some at turned = record {
        log = λ other. turned (λ stays. other (stays ∙ seq)) ∙ ap (take header_size) (new_log t at);
        owed = ⊎_elim (λ none. subst (λ (o : Option Turn). IfSome o (λ turn. turn.new ≡ next_log store.chain reading)) (sym none) tt)
            (λ one. subst (λ (o : Option Turn). IfSome o (λ turn. turn.new ≡ next_log store.chain reading)) (sym (one ∙ has)) (new_log t at))
            (owed_turn store.owed new.owed plan.text plan.steps chain new.chain (carried result) (none_owed store.owed store.chain due) value);
      }

-- ---- the store

module _ {S C : Type 0} (sees : SeesFolder S) (log : Log) (debt : Debt) (write : Write) (store : State S C) (rest : IsAtRest sees log debt store)
    (chain : Chain) (same : AreEqual chain store.chain) (file : CacheFile) (forgot : file ≡ cache_behind write.command store.cache) (shelf : S) (clock : C) (looks : OnlyLooks sees store.shelf shelf) where
  abbrev m : Mailbox
  m = store.chain.live.mailbox

  abbrev May : Folder → Type 0
  May = MayGiveCommit log debt write store.owed store.chain

  -- with what was made ready
  abbrev readied : State S C
  readied = record { shelf = shelf; clock = clock; chain = chain; owed = store.owed; cache = file; mark = store.mark }

  pub stands_readied : Stands sees log debt chain shelf
  stands_readied = stands_equal sees log debt chain store.chain shelf same (stands_seen sees log debt store.chain store.shelf shelf looks rest.stands)

  cache_same : sees.files shelf name.Cache ≡ sees.files store.shelf name.Cache
  cache_same = ap (λ (f : Folder). f name.Cache) looks.same

  rest_readied : IsAtRest sees log debt readied
  rest_readied = record {
    stands = stands_readied;
    fits = rest.fits;
    cache = subst (IsFileOf (sees.files shelf)) (sym forgot) (forgets (IsFileOf (sees.files shelf)) write.command store.cache tt (file_stays store.cache (sees.files store.shelf) (sees.files shelf) cache_same rest.cache));
  }

  since_readied : LeavesOnly sees store.shelf shelf May
  since_readied =
      weaker sees store.shelf shelf (sees.may_leave store.shelf) May looks.since
      (λ c left. inl (rests_give sees log debt store.chain store.shelf c rest.stands left))

  pub quiet_refused : (e : StoreFault) → CommitsQuietly sees log debt write store readied (Err e)
  quiet_refused e = record {
    group = λ sizes. tt;
    received = tt;
    ok = tt;
    err = (debt, inl (place_same chain store.chain same, refl, refl), rest_readied);
    unwritten = λ is. rest_readied;
    any_moment = since_readied;
    others = λ n unwritten. ap (λ (f : Folder). f n) looks.same;
    checks = tt;
  }

  pub quiet_idle : (A : Type 0) (mark : Mark) (uid : Option ℕ) → DecidesOver {A = A} write.command write.view store.chain (Ok None) → CommitsQuietly sees log debt write store readied (Ok (idle_receipt mark uid))
  quiet_idle A mark uid decides = record {
    group = λ sizes. ap (λ (rs : List Record). record { records = rs }) (sym (decides log.guid sizes).1);
    received = λ append some. absurd (omega (arith, some));
    ok = λ some. absurd (omega (arith, some));
    err = tt;
    unwritten = λ is. rest_readied;
    any_moment = since_readied;
    others = λ n unwritten. ap (λ (f : Folder). f n) looks.same;
    checks = idle_checks write.command write.view store.owed store.chain (sees.files store.shelf) (sees.files shelf) (λ u. no_guid) (decides (λ u. no_guid) (λ u. refl)).1;
  }

  module _ (plan : Plan) (left : Option Turn) (next : Chain) (new : S) (is_plan : IsPlanOf write.command write.view store.owed chain plan) (plans : PlansWrite log write store.owed chain (sees.files shelf) plan)
      (made : AreFilesMade store.chain write.received (sees.files store.shelf) write.command plan.steps.files) (came : is_append write.command ≡ true → plan.received ≡ write.received) (at : Mark) where
    abbrev behind_all : State S C
    behind_all = record { shelf = new; clock = clock; chain = next; owed = left; cache = file; mark = at }

    abbrev Stores : Result Receipt StoreFault → Type 0
    Stores result = WritesStore sees log debt write plan.text plan.steps (held shelf chain store.owed) (held new next left) result

    abbrev turn : Option Turn
    turn = plan.steps.turn

    group_is : plan.group ≡ group_by log write m
    group_is = plans.group ∙ ap (group_by log write) same.mailbox

    text_is : plan.text ≡ text_by log write m
    text_is = is_plan.text ∙ ap (λ (g : Group). group_text g ++ closing) group_is

    some : 1 ≤ length (group_by log write m).records
    some = subst (λ (g : Group). 1 ≤ length g.records) group_is is_plan.some

    mark_is : mark_behind plan.text (ready store.owed turn chain) ≡ end_with store.owed store.chain (group_by log write m).records
    mark_is = mark_same chain store.chain same store.owed turn is_plan.steps.due is_plan.turn plan.text (group_by log write m).records some text_is

    gives_commit : (c : Folder) → MayGiveWrite log debt write store.owed plan.text plan.steps chain c → May c
    gives_commit c =
        ⊎_elim (⊎_elim (λ before. inl (gives_same log debt chain store.chain c same before))
        (λ turned. inr (inl (sym (turns_same chain store.chain same store.owed) ∙ sym is_plan.turn ∙ turned.0, turned_same log chain store.chain c same turned.1))))
        (λ with. inr (inr (
          with.0,
          subst (λ (k : Mailbox). IsAfter log write k with.0) same.mailbox with.1,
          subst (λ (mark : Mark). Gives (log_with log write m) with.0 mark c) mark_is
              (subst (λ (k : Mailbox). Gives (log_with log write k) with.0 (mark_behind plan.text (ready store.owed turn chain)) c) same.mailbox with.2),
        )))

    since_stored : (result : Result Receipt StoreFault) → Stores result → LeavesOnly sees store.shelf new May
    since_stored result stores =
        joined sees store.shelf shelf new May since_readied
        (weaker sees shelf new (MayGiveWrite log debt write store.owed plan.text plan.steps chain) May stores.any_moment gives_commit)

    file_stored : (result : Result Receipt StoreFault) → Stores result → IsFileOf (sees.files new) file
    file_stored result stores =
        subst (IsFileOf (sees.files new)) (sym forgot) (file_behind log write.received chain.live.mailbox write.command plan.steps.files store.cache (sees.files store.shelf) (sees.files new) plans.is.files
        (λ unnamed. stores.written.others name.Cache unnamed (λ of. of) ∙ cache_same) rest.cache)

    turns_is : IsSome turn → turns store.owed store.chain ≡ true
    turns_is some = sym (turns_same chain store.chain same store.owed) ∙ sym is_plan.turn ∙ some

    others_stored : (result : Result Receipt StoreFault) → Stores result → (n : Name) → (MayChange write.command m (turns store.owed store.chain) n → ⊥) → sees.files new n ≡ sees.files store.shelf n
    others_stored result stores n unwritten =
        stores.written.others n
        (λ named. unwritten (all_named store.chain (turns store.owed store.chain) write.received (sees.files store.shelf) write.command plan.steps.files made n (subst (λ (k : Mailbox). IsNamed k plan.steps.files n) same.mailbox named)))
        (λ of. unwritten (of_log write.command m turn (turns store.owed store.chain) n turns_is of)) ∙ ap (λ (f : Folder). f n) looks.same

    left_at : (now : Debt) → IsLeftByWrite log debt write store.owed left plan.text plan.steps chain next now → IsLeftAt log debt write store behind_all now
    left_at now =
        ⊎_elim
        (⊎_elim (λ same_all. inl (ap place_of same_all.0 ∙ place_same chain store.chain same, same_all.1, same_all.2))
        (⊎_elim
        (λ paid. inr (inl (paid_place store.owed turn chain next is_plan.steps.due paid.1 paid.0 ∙ place_same chain store.chain same, turns_is paid.1, paid.2, paid.3)))
        (λ last. inr (inr (inl (
          paid_place store.owed turn chain next is_plan.steps.due last.1 last.0 ∙ place_same chain store.chain same,
          turns_is last.1,
          subst IsSome (sym last.2) last.1,
          last_of turn now last.1 last.3,
        ))))))
        (λ begins. inr (inr (inr (
          begins.0 ∙ ready_begins chain store.chain same store.owed turn is_plan.steps.due is_plan.turn,
          begins.1,
          subst (λ (t : List ℕ). MayOweGate log write t m now) text_is (subst (λ (k : Mailbox). MayOweGate log write plan.text k now) same.mailbox begins.2),
        ))))

    quiet_failed : (e : StoreFault) → (IsUnwritten (Err e) → ⊥) → Stores (Err e) → CommitsQuietly sees log debt write store behind_all (Err e)
    quiet_failed e disk stores =
        let owes = stores.err in
        record {
          group = λ sizes. tt;
          received = tt;
          ok = tt;
          err = (owes.0, left_at owes.0 owes.1, record { stands = owes.3; fits = owes.2; cache = file_stored (Err e) stores });
          unwritten = λ none. absurd (disk none);
          any_moment = since_stored (Err e) stores;
          others = others_stored (Err e) stores;
          checks = tt;
        }

    quiet_done : sees.may_leave store.shelf (sees.files store.shelf) → (receipt : Receipt) (uid : Option ℕ) → HasPlan plan uid receipt → left ≡ None → Stores (Ok receipt) → CommitsQuietly sees log debt write store behind_all (Ok receipt)
    quiet_done may receipt uid has paid stores = record {
      group = λ sizes. has.group ∙ group_is;
      received = λ append more. has.received ∙ came append;
      ok = λ more. record {
        stands = subst (λ (k : Mailbox). Stands sees (log_with log write k) Nothing next new) same.mailbox stores.ok;
        fits = subst (λ (o : Option Turn). Fits o Nothing) (sym paid) tt;
        cache = file_stored (Ok receipt) stores;
      };
      err = tt;
      unwritten = λ none. absurd (let more : 1 ≤ length receipt.group.records = subst (λ (g : Group). 1 ≤ length g.records) (sym has.group) is_plan.some in omega (arith, more, ap length none));
      any_moment = since_stored (Ok receipt) stores;
      others = others_stored (Ok receipt) stores;
      checks = checked store.owed turn chain store.chain same is_plan.steps.due is_plan.turn write.received plan.steps.files (sees.files store.shelf) (sees.files shelf) (sees.files new) write.command looks.same (rest_knows sees log debt store may rest).knows.is_true made is_plan.steps.files stores.written.ok stores.written.others;
    }

    pub quiet_written : sees.may_leave store.shelf (sees.files store.shelf) → (uid : Option ℕ) (result : Result Receipt StoreFault) → IfOk result (HasPlan plan uid) → OnOk result (left ≡ None) → IfErr result (λ e. IsUnwritten (Err e) → ⊥) → Stores result → CommitsQuietly sees log debt write store behind_all result
    quiet_written may uid (Ok receipt) has paid disk stores = quiet_done may receipt uid has paid stores
    quiet_written may uid (Err e) has paid disk stores = quiet_failed e disk stores
