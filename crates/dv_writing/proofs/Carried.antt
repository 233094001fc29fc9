-- A write as a whole: what comes before its files, these, and the group.
use Rattle.std.proofs.Common.{◌≡◌, ◌≢◌, ◌↔◌, ◌<◌, inl, inr, ⊎_elim, ℕ, List, [], ◌++◌, length, take, Option, Some, None, Result, Ok, Err, refl, sym, ◌∙◌, ap, subst, arith, length-append}
use Rattle.std.specs.Prelude.{Contains, IfSome, unwrap_or}
use Rattle.dv_model.specs.declared.types.Mailbox.{Mailbox}
use Rattle.dv_model.specs.Fresh.{IsTouched}
use Rattle.dv_model.specs.Journals.{Log, header_size}
use Rattle.dv_shelf.specs.declared.shelf.Name.{Name}
use Rattle.dv_shelf.specs.declared.shelf.Name.TheVariants as name
use Rattle.dv_shelf.specs.Crashes.{LeavesOnly}
use Rattle.dv_shelf.specs.Folders.{Folder, contents}
use Rattle.dv_shelf.proofs.Moments.{joined, weaker}
use Rattle.dv_logfile.specs.declared.commit.Debt.{Debt as LogDebt}
use Rattle.dv_logfile.specs.declared.commit.Debt.TheVariants as log_debt
use Rattle.dv_logfile.specs.Layout.{closing, header_text}
use Rattle.dv_chain.specs.declared.chain.Chain.{Chain}
use Rattle.dv_chain.specs.Rest.{IsPending}
use Rattle.dv_writing.specs.declared.committing.Committed.{Committed}
use Rattle.dv_writing.specs.Commits.{AdvancesChain, KeepsOthers}
use Rattle.dv_writing.specs.Opening.{mark_behind}
use Rattle.dv_files.specs.declared.texts.Turn.{Turn}
use Rattle.dv_files.specs.Texts.{IsTurnOf, next_header, place_of}
use Rattle.dv_writing.specs.Debts.{Debt, Fits, MayGive, Nothing, Pending}
use Rattle.dv_writing.specs.Keeping.{Gives}
use Rattle.dv_writing.specs.Repairing.{IsOwing}
use Rattle.dv_writing.specs.Groups.{KeepsNext, WritesGroup, debt_after}
use Rattle.dv_writing.specs.Quiet.{IsQuiet}
use Rattle.dv_writing.specs.declared.steps.Files.{Files}
use Rattle.dv_writing.specs.declared.steps.Files.TheVariants as kind
use Rattle.dv_writing.specs.declared.steps.Steps.{Steps}
use Rattle.dv_writing.specs.Steps.{HasWritten, HoldsFiles, IsNamed, KeepsUnnamed}
use Rattle.dv_writing.specs.Ways.{HasTurned, IsDue, IsOfLog, KeepsBeside, MakesWay, MakesWayQuietly, MayGiveOn, StopsOnWay, held, ready, repaired}
use Rattle.dv_writing.specs.Writes.{AreFilesOf, CarriesOut, IsAfter, IsWriteOf, MayGiveWrite, MayOweGate, Write, WritesStore, log_with}
use Rattle.dv_writing.proofs.Ready.{gives_ready, repaired_indexid, repaired_live, same_indexid, same_live}
use Rattle.dv_shelf.specs.Sees.{SeesFolder}

-- ---- the chain

module _ (owed : Option Turn) (text : List ℕ) (steps : Steps) (chain : Chain) where
  abbrev on : Chain
  on = ready owed steps.turn chain

  pub carry_stopped : {T E F : Type 0} (left : Option Turn) (mid : Chain) (e : E) (f : F) → MakesWay owed left steps.turn chain mid {T = T} {E = E} (Err e) → CarriesOut owed left text steps chain mid {E = F} (Err f)
  carry_stopped left mid e f way = record {
    mailbox = λ after pending. tt;
    mark = tt;
    touched = tt;
    paid = tt;
    failed = ⊎_elim (λ same. ap (λ (k : Chain). k.live) same.0) (λ paid. ap (λ (k : Chain). k.live) paid.0 ∙ repaired_live owed chain) way.failed;
    place = inl way.failed;
    indexid = ⊎_elim (λ same. ap (λ (k : Chain). k.indexid) same.0) (λ paid. ap (λ (k : Chain). k.indexid) paid.0 ∙ repaired_indexid owed chain) way.failed;
    owing = way.owing;
  }

  module _ (left : Option Turn) (mid : Chain) {T D : Type 0} (x : T) (way : MakesWay owed left steps.turn chain mid {T = T} {E = D} (Ok x)) where
    live_then : mid.live ≡ chain.live
    live_then = ap (λ (k : Chain). k.live) way.ok.0 ∙ same_live chain owed steps.turn

    indexid_then : mid.indexid ≡ chain.indexid
    indexid_then = ap (λ (k : Chain). k.indexid) way.ok.0 ∙ same_indexid chain owed steps.turn

    owing_then : (next : Chain) → (IsOwing mid left → IsOwing next None) → IsOwing next left
    owing_then next also = subst (IsOwing next) (sym way.ok.1) (also way.owing)

    pub carry_halted : {F : Type 0} (f : F) → CarriesOut owed left text steps chain mid {E = F} (Err f)
    carry_halted f = record {
      mailbox = λ after pending. tt;
      mark = tt;
      touched = tt;
      paid = tt;
      failed = live_then;
      place = inr (ap place_of way.ok.0, way.ok.1);
      indexid = indexid_then;
      owing = way.owing;
    }

    module _ (next : Chain) where
      -- a group that failed leaves the chain where it begins
      pub failed_place : {E : Type 0} (e : E) → AdvancesChain text mid next {E = E} (Err e) → place_of next ≡ place_of on
      failed_place e value = (λ i. record { file_seq = value.file.0 i; offset = value.failed.1 i }) ∙ ap place_of way.ok.0

      pub carry_failed : {E F : Type 0} (e : E) (f : F) → AdvancesChain text mid next {E = E} (Err e) → CarriesOut owed left text steps chain next {E = F} (Err f)
      carry_failed e f value = record {
        mailbox = λ after pending. tt;
        mark = tt;
        touched = tt;
        paid = tt;
        failed = value.failed.0 ∙ live_then;
        place = inr (failed_place e value, way.ok.1);
        indexid = value.file.1 ∙ indexid_then;
        owing = owing_then next (λ owing. record { bounds = value.bounds owing.bounds; owed = tt });
      }

      pub carry_done : {E F : Type 0} (done : Committed) → AdvancesChain text mid next {E = E} (Ok done) → CarriesOut owed left text steps chain next {E = F} (Ok done)
      carry_done done value = record {
        mailbox = λ after pending. value.mailbox after (subst (IsPending text after) (sym way.ok.0) pending);
        mark = (value.mark.0 ∙ ap (mark_behind text) way.ok.0, value.mark.1);
        touched = λ uid. subst (λ (k : Mailbox). Contains done.touched uid ↔ IsTouched k next.live.mailbox uid) (λ i. (live_then i).mailbox) (value.touched uid);
        paid = (value.debt, way.ok.1);
        failed = tt;
        place = tt;
        indexid = value.file.1 ∙ indexid_then;
        owing = owing_then next (λ owing. record { bounds = value.bounds owing.bounds; owed = tt });
      }

-- ---- the files

of_log_not : (turn : Option Turn) (n : Name) → (IsOfLog turn n → ⊥) → n ≢ name.Log
of_log_not turn name.Log other = λ e. other tt
of_log_not turn n other = λ e. cc

holds_beside : (m : Mailbox) (steps : Files) (old new : Folder) → KeepsOthers old new → HoldsFiles m steps old → HoldsFiles m steps new
holds_beside m kind.Nothing old new others holds = tt
holds_beside m (kind.Message text) old new others holds = others (name.Mail m.next_uid) (λ e. cc) ∙ holds
holds_beside m (kind.Check renewal) old new others holds = (
  λ uid has. others (name.Mail uid) (λ e. cc) ∙ holds.0 uid has,
  others name.Index (λ e. cc) ∙ holds.1,
  others name.Cache (λ e. cc) ∙ holds.2,
)

module _ (m : Mailbox) (steps : Steps) (old way : Folder) (keeps : KeepsBeside steps.turn old way) where
  pub written_stopped : {T F : Type 0} (f : F) → HasWritten m steps {T = T} {E = F} (Err f) old way
  written_stopped f = record { ok = tt; others = λ n free other. keeps n other }

  module _ (between : Folder) (unnamed : KeepsUnnamed m steps.files way between) where
    pub written_halted : {T F : Type 0} (f : F) → HasWritten m steps {T = T} {E = F} (Err f) old between
    written_halted f = record { ok = tt; others = λ n free other. unnamed n free ∙ keeps n other }

    module _ (new : Folder) (others : KeepsOthers between new) where
      else_same : (n : Name) → (IsNamed m steps.files n → ⊥) → (IsOfLog steps.turn n → ⊥) → new n ≡ old n
      else_same n free other = others n (of_log_not steps.turn n other) ∙ unnamed n free ∙ keeps n other

      pub written_failed : {T F : Type 0} (f : F) → HasWritten m steps {T = T} {E = F} (Err f) old new
      written_failed f = record { ok = tt; others = else_same }

      pub written_done : {T F : Type 0} (x : T) → HoldsFiles m steps.files between → HasWritten m steps {T = T} {E = F} (Ok x) old new
      written_done x holds = record { ok = holds_beside m steps.files between new others holds; others = else_same }

-- ---- the log that was rotated

-- the chain is still on the file from before
pub turned_stopped : (owed left turn : Option Turn) (chain mid : Chain) (folder : Folder) → IsDue owed chain turn → StopsOnWay owed left turn chain mid → HasTurned turn chain mid folder
turned_stopped owed left None chain mid folder due stops = tt
turned_stopped owed left (Some t) chain mid folder due stops = λ other. absurd (other
    (⊎_elim (λ same. ap (λ (k : Chain). k.log.file_seq) same.0)
    (λ paid. ap (λ (k : Chain). k.log.file_seq) paid.0 ∙ ap (λ (o : Option Turn). (repaired o chain).log.file_seq) due.2) stops))

-- the files before the group are none of the log
pub log_unnamed : (m : Mailbox) (steps : Files) → IsNamed m steps name.Log → ⊥
log_unnamed m kind.Nothing named = named
log_unnamed m (kind.Message text) named = cc
log_unnamed m (kind.Check renewal) named = named

-- a new log has its header and four zero bytes
turn_long : (chain : Chain) (turn : Turn) → IsTurnOf chain turn → length turn.new ≡ 44
turn_long chain turn is = ap length is.new ∙ length-append (header_text (next_header chain is.now) ++ []) closing

module _ (owed turn : Option Turn) (chain mid : Chain) (due : IsDue owed chain turn) (on : mid ≡ ready owed turn chain) (way between : Folder) (same : between name.Log ≡ way name.Log) where
  -- the log is the new one
  pub turned_here : (next : Chain) → IfSome turn (λ t. way name.Log ≡ Some t.new) → HasTurned turn chain next between
  turned_here next = by_turn turn
    where
      by_turn : (o : Option Turn) → IfSome o (λ t. way name.Log ≡ Some t.new) → HasTurned o chain next between
      by_turn None is = tt
      by_turn (Some t) is = λ other. ap (λ (file : Option (List ℕ)). take header_size (unwrap_or file [])) (same ∙ is)

  -- and its front stays
  pub turned_behind : (next : Chain) (new : Folder) → IfSome turn (λ t. way name.Log ≡ Some t.new)
      → (mid.log.end < length (contents between name.Log) → take mid.log.end (contents new name.Log) ≡ take mid.log.end (contents between name.Log)) → HasTurned turn chain next new
  turned_behind next new = by_turn turn due on
    where
      by_turn : (o : Option Turn) → IsDue owed chain o → mid ≡ ready owed o chain → IfSome o (λ t. way name.Log ≡ Some t.new)
          → (mid.log.end < length (contents between name.Log) → take mid.log.end (contents new name.Log) ≡ take mid.log.end (contents between name.Log)) → HasTurned o chain next new
      by_turn None due on is front = tt
      by_turn (Some t) due on is front = λ other.
          let file : contents between name.Log ≡ t.new = ap (λ (file : Option (List ℕ)). unwrap_or file []) (same ∙ is) in
          let end : mid.log.end ≡ header_size = ap (λ (k : Chain). k.log.end) on in
          let stays = subst (λ (e : ℕ). e < length (contents between name.Log) → take e (contents new name.Log) ≡ take e (contents between name.Log)) end front in
          let long : header_size < length (contents between name.Log) = omega (arith, ap length file, turn_long chain t due.0) in
          stays long ∙ ap (take header_size) file

-- ---- what the folder gives

module _ {S : Type 0} (sees : SeesFolder S)
    (log : Log) (debt : Debt) (write : Write) (owed : Option Turn) (text : List ℕ) (steps : Steps) (chain : Chain) (old : S) (is_write : IsWriteOf log write owed chain (sees.files old) text steps) where
  abbrev m : Mailbox
  m = chain.live.mailbox

  abbrev Stores : {T E : Type 0} → Option Turn → Chain → Result T E → S → Type 0
  Stores left next result new = WritesStore sees log debt write text steps (held old chain owed) (held new next left) result

  abbrev May : Folder → Type 0
  May = MayGiveWrite log debt write owed text steps chain

  way_since : {T E : Type 0} (left : Option Turn) (mid : Chain) (way : S) (result : Result T E) → MakesWayQuietly sees log debt steps.turn (held old chain owed) (held way mid left) result → LeavesOnly sees old way May
  way_since left mid way result quiet = weaker sees old way (MayGiveOn log debt steps.turn chain) May quiet.since (λ c gives. inl gives)

  pub stores_stopped : {T U E F : Type 0} (left : Option Turn) (mid : Chain) (way : S) (e : E) (f : F) → MakesWayQuietly sees log debt steps.turn (held old chain owed) (held way mid left) {T = T} {E = E} (Err e) → KeepsBeside steps.turn (sees.files old) (sees.files way) → Stores {T = U} {E = F} left mid (Err f) way
  stores_stopped left mid way e f quiet keeps = record {
    ok = tt;
    err =
        let owes = quiet.err in
        (owes.0, inl owes.1, owes.2, owes.3);
    any_moment = way_since left mid way (Err e) quiet;
    written = written_stopped m steps (sees.files old) (sees.files way) keeps f;
  }

  module _ (left : Option Turn) (mid : Chain) (way : S) {X D : Type 0} (x : X) (value : MakesWay owed left steps.turn chain mid {T = X} {E = D} (Ok x)) where
    same_mailbox : mid.live.mailbox ≡ m
    same_mailbox = λ i. (live_then owed text steps chain left mid x value i).mailbox

    -- what is said of the old chain's mailbox is so of the ready one's
    pub after_there : IsAfter log write mid.live.mailbox is_write.after
    after_there = subst (λ (k : Mailbox). IsAfter log write k is_write.after) (sym same_mailbox) is_write.gives

    pub files_there : AreFilesOf log write.received mid.live.mailbox write.command steps.files
    files_there = subst (λ (k : Mailbox). AreFilesOf log write.received k write.command steps.files) (sym same_mailbox) is_write.files

    pub pending_there : IsPending text is_write.after mid
    pending_there = subst (IsPending text is_write.after) (sym value.ok.0) is_write.pending

    pub next_here : (shelf : S) → KeepsNext sees log (log_with log write mid.live.mailbox) is_write.after shelf → KeepsNext sees log (log_with log write m) is_write.after shelf
    next_here shelf next = subst (λ (k : Mailbox). KeepsNext sees log (log_with log write k) is_write.after shelf) same_mailbox next

    module _ (due : IsDue owed chain steps.turn) (fits : Fits owed debt) (quiet : MakesWayQuietly sees log debt steps.turn (held old chain owed) (held way mid left) {T = X} {E = D} (Ok x)) (keeps : KeepsBeside steps.turn (sees.files old) (sees.files way))
        (between : S) (before : IsQuiet sees log mid way between) (unnamed : KeepsUnnamed mid.live.mailbox steps.files (sees.files way) (sees.files between)) where
      fits_none : Fits left Nothing
      fits_none = subst (λ (o : Option Turn). Fits o Nothing) (sym value.ok.1) tt

      unnamed_here : KeepsUnnamed m steps.files (sees.files way) (sees.files between)
      unnamed_here = subst (λ (k : Mailbox). KeepsUnnamed k steps.files (sees.files way) (sees.files between)) same_mailbox unnamed

      files_since : LeavesOnly sees old between May
      files_since =
          joined sees old way between May (way_since left mid way (Ok x) quiet)
          (weaker sees way between (MayGive log Nothing mid) May before.any_moment (λ c gives. inl (gives_ready log debt owed steps.turn chain mid c value.ok.0 due fits gives)))

      pub stores_halted : {T F : Type 0} (f : F) → Stores {T = T} {E = F} left mid (Err f) between
      stores_halted f = record {
        ok = tt;
        err = (Nothing, inr (ap place_of value.ok.0, value.ok.1, inl refl), fits_none, before.stands);
        any_moment = files_since;
        written = written_halted m steps (sees.files old) (sees.files way) keeps (sees.files between) unnamed_here f;
      }

      abbrev Groups : {E : Type 0} → Chain → Result Committed E → S → Type 0
      Groups next result new = WritesGroup sees text is_write.after log (log_with log write m) mid next result between new

      module _ (next : Chain) (new : S) where
        group_since : {E : Type 0} (result : Result Committed E) → Groups next result new → LeavesOnly sees old new May
        group_since result group =
            joined sees old between new May files_since
            (weaker sees between new (MayGive log (Pending text is_write.after (log_with log write m)) mid) May group.any_moment
            (λ c gives. ⊎_elim (λ here. inl (gives_ready log debt owed steps.turn chain mid c value.ok.0 due fits here))
            (λ there. inr (is_write.after, is_write.gives, subst (λ (k : Chain). Gives (log_with log write m) is_write.after (mark_behind text k) c) value.ok.0 there)) gives))

        owed_after : (gate : LogDebt) → Fits left (debt_after gate text is_write.after (log_with log write m))
        owed_after log_debt.None = fits_none
        owed_after log_debt.Gate = subst (λ (o : Option Turn). Fits o (Pending text is_write.after (log_with log write m))) (sym value.ok.1) tt

        gate_after : (gate : LogDebt) → MayOweGate log write text m (debt_after gate text is_write.after (log_with log write m))
        gate_after log_debt.None = inl refl
        gate_after log_debt.Gate = inr (is_write.after, is_write.gives, refl)

        pub stores_failed : {E T F : Type 0} (e : E) (f : F) → AdvancesChain text mid next {E = E} (Err e) → Groups {E = E} next (Err e) new → Stores {T = T} {E = F} left next (Err f) new
        stores_failed e f advances group = record {
          ok = tt;
          err = (
            debt_after next.log.debt text is_write.after (log_with log write m),
            inr (failed_place owed text steps chain left mid x value next e advances, value.ok.1, gate_after next.log.debt),
            owed_after next.log.debt,
            group.err,
          );
          any_moment = group_since (Err e) group;
          written = written_failed m steps (sees.files old) (sees.files way) keeps (sees.files between) unnamed_here (sees.files new) group.others f;
        }

        pub stores_done : {E F : Type 0} (done : Committed) → Groups {E = E} next (Ok done) new → HoldsFiles mid.live.mailbox steps.files (sees.files between) → Stores {T = Committed} {E = F} left next (Ok done) new
        stores_done done group holds = record {
          ok = group.ok;
          err = tt;
          any_moment = group_since (Ok done) group;
          written = written_done m steps (sees.files old) (sees.files way) keeps (sees.files between) unnamed_here (sees.files new) group.others done
              (subst (λ (k : Mailbox). HoldsFiles k steps.files (sees.files between)) same_mailbox holds);
        }
