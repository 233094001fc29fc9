-- A write as a whole: what comes before its files, these, and the group.
use Rattle.std.proofs.Common.{◌≡◌, ◌≢◌, ◌⊎◌, inl, inr, ⊎_elim, ℕ, List, [], Option, Some, None, Result, Ok, Err, OnOk, refl, sym, ◌∙◌, ap, subst}
use Rattle.std.specs.Prelude.{IsSome, unwrap_or}
use Rattle.dv_model.specs.declared.types.Mailbox.{Mailbox}
use Rattle.dv_shelf.specs.declared.shelf.Name.{Name}
use Rattle.dv_shelf.specs.declared.shelf.Name.TheVariants as name
use Rattle.dv_shelf.specs.Crashes.{LeavesOnly}
use Rattle.dv_shelf.specs.Folders.{Folder, patched}
use Rattle.dv_shelf.specs.Sees.{SeesFolder}
use Rattle.dv_shelf.proofs.Moments.{joined, weaker}
use Rattle.dv_logfile.specs.Gates.{FromOneOf}
use Rattle.dv_chain.specs.declared.chain.Chain.{Chain}
use Rattle.dv_chain.specs.Rest.{IsPending, Last, Nothing, Owed, Pending, next_mark}
use Rattle.dv_files.proofs.Beside.{resting_beside}
use Rattle.dv_files.specs.declared.texts.Turn.{Turn}
use Rattle.dv_files.specs.Texts.{place_of}
use Rattle.dv_writing.specs.declared.committing.Committed.{Committed}
use Rattle.dv_writing.specs.Commits.{AdvancesChain, KeepsOthers}
use Rattle.dv_writing.specs.Opening.{mark_behind}
use Rattle.dv_writing.specs.Repairing.{IsOwing}
use Rattle.dv_writing.specs.Ways.{IsDue, IsOfLog, KeepsBeside, MakesWay, held, ready}
use Rattle.dv_writing.proofs.Opened.{may_open}
use Rattle.dv_writing.proofs.Ready.{repaired_indexid, repaired_live, same_indexid, same_live}
use Rattle.dv_filing.specs.declared.steps.Files.{Files}
use Rattle.dv_filing.specs.declared.steps.Files.TheVariants as kind
use Rattle.dv_filing.specs.declared.steps.Steps.{Steps}
use Rattle.dv_filing.specs.Files.{HasWritten, IsNamed, IsWriting, IsWritten, WritesFiles}
use Rattle.dv_filing.specs.Standing.{Fits, Gives, MayGive, Stands}
use Rattle.dv_filing.specs.Ways.{MakesWayQuietly, MayGiveOn}
use Rattle.dv_filing.specs.Writes.{CarriesOut, IsWriteOf, KeepsThrough, KeepsUnnamed, MayGiveWrite, WritesStorage}
use Rattle.dv_filing.proofs.Filed.{filed_stands, writing_beside}
use Rattle.dv_filing.proofs.Resting.{gives_now}
use Rattle.dv_maps.specs.Texts.{KeepsTexts, Messages}

-- ---- the chain

module _ (owed : Option Turn) (text : List ℕ) (steps : Steps) (chain : Chain) where
  abbrev on : Chain
  on = ready owed steps.turn chain

  pub carry_stopped : {T E F : Type 0} (left : Option Turn) (mid : Chain) (e : E) (f : F) → MakesWay owed left steps.turn chain mid {T = T} {E = E} (Err e) → CarriesOut owed left text steps chain mid {E = F} (Err f)
  carry_stopped left mid e f way = record {
    mailbox = λ after pending. tt;
    mark = tt;
    paid = tt;
    failed = ⊎_elim (λ same. ap (λ (k : Chain). k.live) same.0) (λ paid. ap (λ (k : Chain). k.live) paid.0 ∙ repaired_live owed chain) way.failed;
    place = inl way.failed;
    indexid = ⊎_elim (λ same. ap (λ (k : Chain). k.indexid) same.0) (λ paid. ap (λ (k : Chain). k.indexid) paid.0 ∙ repaired_indexid owed chain) way.failed;
    owing = way.owing;
  }

  module _ (left : Option Turn) (mid : Chain) {T D : Type 0} (x : T) (way : MakesWay owed left steps.turn chain mid {T = T} {E = D} (Ok x)) where
    live_then : mid.live ≡ chain.live
    live_then = ap (λ (k : Chain). k.live) way.ok.0 ∙ same_live chain owed steps.turn

    indexid_then : mid.indexid ≡ chain.indexid
    indexid_then = ap (λ (k : Chain). k.indexid) way.ok.0 ∙ same_indexid chain owed steps.turn

    owing_then : (next : Chain) → (IsOwing mid left → IsOwing next None) → IsOwing next left
    owing_then next also = subst (IsOwing next) (sym way.ok.1) (also way.owing)

    pub carry_halted : {F : Type 0} (f : F) → CarriesOut owed left text steps chain mid {E = F} (Err f)
    carry_halted f = record {
      mailbox = λ after pending. tt;
      mark = tt;
      paid = tt;
      failed = live_then;
      place = inr (ap place_of way.ok.0, way.ok.1);
      indexid = indexid_then;
      owing = way.owing;
    }

    module _ (next : Chain) where
      -- a group that failed leaves the chain where it begins
      failed_place : {E : Type 0} (e : E) → AdvancesChain text mid next {E = E} (Err e) → place_of next ≡ place_of on
      failed_place e value = (λ i. record { file_seq = value.file.0 i; offset = value.failed.1 i }) ∙ ap place_of way.ok.0

      pub carry_failed : {E F : Type 0} (e : E) (f : F) → AdvancesChain text mid next {E = E} (Err e) → CarriesOut owed left text steps chain next {E = F} (Err f)
      carry_failed e f value = record {
        mailbox = λ after pending. tt;
        mark = tt;
        paid = tt;
        failed = value.failed.0 ∙ live_then;
        place = inr (failed_place e value, way.ok.1);
        indexid = value.file.1 ∙ indexid_then;
        owing = owing_then next (λ owing. record { bounds = value.bounds owing.bounds; owed = tt });
      }

      pub carry_done : {E F : Type 0} (done : Committed) → AdvancesChain text mid next {E = E} (Ok done) → CarriesOut owed left text steps chain next {E = F} (Ok done)
      carry_done done value = record {
        mailbox = λ after pending. value.mailbox after (subst (IsPending text after) (sym way.ok.0) pending);
        mark = (value.mark.0 ∙ ap (mark_behind text) way.ok.0, value.mark.1);
        paid = (value.debt, way.ok.1);
        failed = tt;
        place = tt;
        indexid = value.file.1 ∙ indexid_then;
        owing = owing_then next (λ owing. record { bounds = value.bounds owing.bounds; owed = tt });
      }

-- ---- the other files

of_log_not : (turn : Option Turn) (n : Name) → (IsOfLog turn n → ⊥) → n ≢ name.Log
of_log_not turn name.Log other = λ e. other tt
of_log_not turn n other = λ e. cc

module _ (steps : Steps) (old way : Folder) (keeps : KeepsBeside steps.turn old way) where
  pub unnamed_stopped : KeepsUnnamed steps old way
  unnamed_stopped n free other = keeps n other

  module _ (between : Folder) (others : (n : Name) → (IsNamed steps.files n → ⊥) → between n ≡ way n) where
    pub unnamed_halted : KeepsUnnamed steps old between
    unnamed_halted n free other = others n free ∙ keeps n other

    pub unnamed_behind : (new : Folder) → KeepsOthers between new → KeepsUnnamed steps old new
    unnamed_behind new log n free other = log n (of_log_not steps.turn n other) ∙ others n free ∙ keeps n other

  -- the file that was written stays so behind the group
  pub written_behind : (d between new : Folder) → IsWritten steps.files way d between → KeepsOthers between new → HasWritten steps.files old new
  written_behind d between new is log = by_files steps.files is
    where
      stays : (n : ℕ) → new (name.Mail n) ≡ between (name.Mail n)
      stays n = log (name.Mail n) (λ e. cc)

      by_files : (files : Files) → IsWritten files way d between → HasWritten files old new
      by_files kind.Nothing is = tt
      by_files (kind.Text file at text) is = stays file ∙ is.there ∙ ap (λ (o : Option (List ℕ)). Some (patched (unwrap_or o []) at text)) (keeps (name.Mail file) (λ e. e))
      by_files (kind.File file text) is = stays file ∙ is.there

-- ---- what a folder gives

-- at the ready chain's place
last_gives : (messages : Messages) (debt : Owed) (turn : Turn) (chain : Chain) (c : Folder) → Fits (Some turn) chain.live.mailbox debt → Gives messages chain.indexid chain.live.mailbox (next_mark chain) c → MayGive messages debt chain c
last_gives messages Nothing turn chain c fits gives = absurd fits
last_gives messages (Pending text after) turn chain c fits gives = absurd fits
last_gives messages (Last log after) turn chain c fits gives = inr (subst (λ (m : Mailbox). Gives messages chain.indexid m (next_mark chain) c) (sym fits.1) gives)

ready_gives : (messages : Messages) (debt : Owed) (owed turn : Option Turn) (chain : Chain) (c : Folder) → IsDue owed chain turn → Fits owed chain.live.mailbox debt
    → Gives messages (ready owed turn chain).indexid (ready owed turn chain).live.mailbox (place_of (ready owed turn chain)) c → MayGiveOn messages debt turn chain c
ready_gives messages debt None None chain c due fits gives = inl (gives_now messages debt chain c gives)
ready_gives messages debt None (Some turn) chain c due fits gives = inr (refl, gives)
ready_gives messages debt (Some owed) None chain c due fits gives = inl (last_gives messages debt owed chain c fits gives)
ready_gives messages debt (Some owed) (Some turn) chain c due fits gives = absurd (let no : Some owed ≡ None = due.2 in cc)

module _ {S : Type 0} (sees : SeesFolder S) (messages next : Messages) (debt : Owed) (after : Mailbox) (owed : Option Turn) (text : List ℕ) (steps : Steps) (chain : Chain) (old : S)
    (is : IsWriteOf messages next after owed chain (sees.files old) text steps) (left : Option Turn) (mid : Chain) (way : S) where
  abbrev May : Folder → Type 0
  May = MayGiveWrite messages next debt after owed text steps chain

  -- it stopped on the way
  pub storage_stopped : {T U E F : Type 0} (e : E) (f : F) → MakesWayQuietly sees messages debt steps.turn (held old chain owed) (held way mid left) {T = T} {E = E} (Err e) → KeepsUnnamed steps (sees.files old) (sees.files way)
      → WritesStorage sees messages next debt after text steps (held old chain owed) (held way mid left) {T = U} {E = F} (Err f)
  storage_stopped e f quiet others = record {
    ok = tt;
    err = (quiet.err.0, quiet.err.2, inl (quiet.err.1, quiet.err.3));
    any_moment = weaker sees old way (MayGiveOn messages debt steps.turn chain) May quiet.since (λ c gives. inl gives);
    written = tt;
    others = others;
  }

  module _ {T D : Type 0} (x : T) (value : MakesWay owed left steps.turn chain mid {T = T} {E = D} (Ok x)) (due : IsDue owed chain steps.turn) (fits : Fits owed chain.live.mailbox debt)
      (quiet : MakesWayQuietly sees messages debt steps.turn (held old chain owed) (held way mid left) {T = T} {E = D} (Ok x)) where
    same_map : mid.live.mailbox ≡ chain.live.mailbox
    same_map = λ i. (live_then owed text steps chain left mid x value i).mailbox

    here_gives : (c : Folder) → Gives messages mid.indexid mid.live.mailbox (place_of mid) c → MayGiveOn messages debt steps.turn chain c
    here_gives c gives = ready_gives messages debt owed steps.turn chain c due fits (subst (λ (k : Chain). Gives messages k.indexid k.live.mailbox (place_of k) c) value.ok.0 gives)

    pub through_here : KeepsThrough messages next mid.live.mailbox after steps.files
    through_here = subst (λ (m : Mailbox). KeepsThrough messages next m after steps.files) (sym same_map) is.keeps

    pub pending_here : IsPending text after mid
    pending_here = subst (IsPending text after) (sym value.ok.0) is.pending

    since_way : LeavesOnly sees old way May
    since_way = weaker sees old way (MayGiveOn messages debt steps.turn chain) May quiet.since (λ c gives. inl gives)

    -- behind Ok nothing is owed
    pub fits_none : Fits left mid.live.mailbox Nothing
    fits_none = subst (λ (o : Option Turn). Fits o mid.live.mailbox Nothing) (sym value.ok.1) tt

    module _ (between : S) {U V : Type 0} (result : Result U V) (writes : WritesFiles sees steps.files result way between) where
      pub stands_between : Stands sees messages Nothing mid between
      stands_between = filed_stands sees messages next mid steps.files after way between quiet.ok through_here result writes

      writing_gives : (c : Folder) → FromOneOf (sees.may_leave way) (IsWriting steps.files) c → May c
      writing_gives c from =
          let stands : Stands sees messages Nothing mid way = quiet.ok in
          inl (here_gives c (record {
            opens = may_open Nothing mid c stands.rests.owes (resting_beside mid from.0 c (writing_beside steps.files from.0 c from.2) Nothing (stands.rests.each from.0 from.1));
            keeps = through_here.stays from.0 c from.2 (stands.keeps from.0 from.1);
          }))

      since_between : LeavesOnly sees old between May
      since_between = joined sees old way between May since_way (weaker sees way between (FromOneOf (sees.may_leave way) (IsWriting steps.files)) May writes.since writing_gives)

      -- the file couldn't be written
      pub storage_halted : {F : Type 0} (f : F) → KeepsUnnamed steps (sees.files old) (sees.files between) → WritesStorage sees messages next debt after text steps (held old chain owed) (held between mid left) {T = Committed} {E = F} (Err f)
      storage_halted f others = record {
        ok = tt;
        err = (Nothing, fits_none, inl (inr (inl refl), stands_between));
        any_moment = since_between;
        written = tt;
        others = others;
      }

      module _ (new_chain : Chain) (new : S) (since : LeavesOnly sees between new (λ c. Gives messages mid.indexid mid.live.mailbox (place_of mid) c ⊎ Gives next mid.indexid after (mark_behind text mid) c)) where
        group_gives : (c : Folder) → Gives messages mid.indexid mid.live.mailbox (place_of mid) c ⊎ Gives next mid.indexid after (mark_behind text mid) c → May c
        group_gives c =
            ⊎_elim (λ gives. inl (here_gives c gives))
            (λ gives.
            inr
            (subst (λ (k : ℕ). Gives next k after (mark_behind text (ready owed steps.turn chain)) c) (indexid_then owed text steps chain left mid x value)
            (subst (λ (k : Chain). Gives next mid.indexid after (mark_behind text k) c) value.ok.0 gives)))

        since_new : LeavesOnly sees old new May
        since_new = joined sees old between new May since_between (weaker sees between new _ May since group_gives)

        -- the group was committed
        pub storage_done : {F : Type 0} (done : Committed) → Stands sees next Nothing new_chain new → HasWritten steps.files (sees.files old) (sees.files new) → KeepsUnnamed steps (sees.files old) (sees.files new)
            → WritesStorage sees messages next debt after text steps (held old chain owed) (held new new_chain left) {E = F} (Ok done)
        storage_done done stands written others = record { ok = stands; err = tt; any_moment = since_new; written = written; others = others }

        -- or that failed
        pub storage_failed : {F : Type 0} (f : F)
            → (now : Owed) × Fits None new_chain.live.mailbox now × (((now ≡ Nothing) × Stands sees messages now new_chain new) ⊎ ((now ≡ Pending text after) × Stands sees next now new_chain new))
            → KeepsUnnamed steps (sees.files old) (sees.files new) → WritesStorage sees messages next debt after text steps (held old chain owed) (held new new_chain left) {T = Committed} {E = F} (Err f)
        storage_failed f some others = record {
          ok = tt;
          err = (some.0, subst (λ (o : Option Turn). Fits o new_chain.live.mailbox some.0) (sym value.ok.1) some.1, ⊎_elim (λ none. inl (inr (inl none.0), none.1)) (λ pending. inr pending) some.2);
          any_moment = since_new;
          written = tt;
          others = others;
        }
