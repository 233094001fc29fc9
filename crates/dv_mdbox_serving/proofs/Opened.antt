-- A storage that a run begins from, and what is left where none is opened.
use Rattle.std.proofs.Common.{◌≡◌, inl, inr, ⊎_elim, ℕ, ◌^◌, ◌<◌, ◌≤◌, List, [], length, Option, Some, None, Result, Ok, Err, refl, sym, ◌∙◌, ap, subst, arith}
use Rattle.std.specs.Prelude.{IfErr, IfOk}
use Rattle.std.proofs.lemmas.List.Elements.{All-nil}
use Rattle.dv_model.specs.declared.types.Mailbox.{Mailbox}
use Rattle.dv_model.specs.declared.types.Mark.{Mark}
use Rattle.dv_model.specs.declared.types.OpenFault.{OpenFault}
use Rattle.dv_model.specs.Journals.{IsU32}
use Rattle.dv_shelf.specs.declared.shelf.Name.TheVariants as name
use Rattle.dv_shelf.specs.Crashes.{IsSettled, LeavesOnly}
use Rattle.dv_shelf.specs.Folders.{Folder, IsNew}
use Rattle.dv_shelf.specs.Sees.{SeesFolder}
use Rattle.dv_shelf.proofs.FolderLemmas.{with_else, with_here}
use Rattle.dv_shelf.proofs.Moments.{weaker}
use Rattle.dv_logfile.specs.Scans.{IsScanned, Missing}
use Rattle.dv_openings.specs.Openings.{Finds, IsFound, NoLog}
use Rattle.dv_openings.specs.Rebuilds.{stamp_of}
use Rattle.dv_openings.proofs.FoundOnce.{found_one}
use Rattle.dv_openings.proofs.Numbers.{mailbox_one, named_one}
use Rattle.dv_chain.specs.declared.chain.Chain.{Chain}
use Rattle.dv_chain.specs.Creations.{IsOldOrCreated, created, first_log, first_mailbox}
use Rattle.dv_chain.specs.Openings.{IsQuiet, UnlessDisk}
use Rattle.dv_chain.specs.Rest.{Nothing}
use Rattle.dv_chain.proofs.Created.{first_file, first_found, first_scanned}
use Rattle.dv_logfile.specs.declared.commit.Debt.TheVariants as log_debt
use Rattle.dv_files.specs.declared.texts.Turn.{Turn}
use Rattle.dv_files.specs.Texts.{place_of}
use Rattle.dv_filing.specs.Standing.{Fits, Stands}
use Rattle.dv_filing.proofs.Resting.{texts_same}
use Rattle.dv_maps.specs.Laws.{IsMap}
use Rattle.dv_maps.specs.Storages.{Storage, storage_of}
use Rattle.dv_maps.specs.Texts.{HasText, KeepsTexts, Messages}
use Rattle.dv_plans.specs.Begins.{AtReading}
use Rattle.dv_mdbox.specs.Opening.{IsFresh, IsNewOrOpened, MakesChain, OpensChain, TellsFolder, answered, shelf_behind}
use Rattle.dv_mdbox.specs.States.{State}
use Rattle.dv_mdbox_lines.specs.Laws.{new_storage}
use Rattle.dv_mdbox_serving.specs.Following.{HaveGroups}
use Rattle.dv_mdbox_serving.specs.Opening.{IsBegun, IsUnopened, LeavesUnopened, StartsAt}
use Rattle.dv_mdbox_serving.specs.Places.{GivesStorage, MayLeave, StartsFrom}

-- ---- a folder that gives a storage

-- a folder without a log has no map
pub no_log_found : (folder : Folder) → IsNew folder → IsFound folder NoLog
no_log_found folder new = record {
  log = Missing;
  rotated = Missing;
  index = None;
  log_file = subst (λ (file : Option (List ℕ)). IsScanned file Missing) (sym new.log) tt;
  rotated_file = tt;
  index_file = tt;
  is = refl;
}

pub new_none : (folder : Folder) (m : Mailbox) (mark : Mark) → IsNew folder → IsFound folder (Finds m mark) → ⊥
new_none folder m mark new found =
    let same : Finds m mark ≡ NoLog = found_one folder (Finds m mark) NoLog found (no_log_found folder new) in
    cc

-- a folder that opens to the same, with the same message files, gives the same
pub quiet_gives : (s : Storage) (old c : Folder) → GivesStorage s old → IsQuiet old c → GivesStorage s c
quiet_gives s old c gives quiet = record {
  indexid = gives.indexid;
  messages = gives.messages;
  mailbox = gives.mailbox;
  mark = gives.mark;
  map = gives.map;
  storage = gives.storage;
  gives = record {
    opens = record {
      found = (quiet.opens (Finds gives.mailbox gives.mark)).0 gives.gives.opens.found;
      named = λ n named. gives.gives.opens.named n ((quiet.named n).1 named);
    };
    keeps = texts_same gives.messages gives.mailbox old c (λ file. quiet.others (name.Mail file) (λ e. cc)) gives.gives.keeps;
  };
}

-- ---- one that is made

abbrev no_messages : Messages
no_messages = λ id. None

first_storage : (n : ℕ) → storage_of no_messages (first_mailbox n) ≡ new_storage
first_storage n = refl

pub first_is_map : (n : ℕ) → IsMap (first_mailbox n)
first_is_map n = inr (refl, refl)

created_log : (old c : Folder) (now : ℕ) → c ≡ created old now → c name.Log ≡ Some (first_log (stamp_of now))
created_log old c now put = ap (λ (d : Folder). d name.Log) put ∙ with_here old name.Log (Some (first_log (stamp_of now)))

small_stamp : (now : ℕ) → IsU32 now → stamp_of now < 2 ^ 32
small_stamp now small = let less = small in omega (arith, less)

pub created_gives : (old c : Folder) (now : ℕ) → IsU32 now → IsNew old → c ≡ created old now → GivesStorage new_storage c
created_gives old c now u32 new put =
    let n = stamp_of now in
    let small = small_stamp now u32 in
    let log = created_log old c now put in
    let at : (other : _) → (other ≡ name.Log → ⊥) → c other ≡ old other = λ other apart. ap (λ (d : Folder). d other) put ∙ with_else old name.Log (Some (first_log n)) other apart in
    record {
      indexid = n;
      messages = no_messages;
      mailbox = first_mailbox n;
      mark = record { file_seq = 1; offset = 56 };
      map = first_is_map n;
      storage = first_storage n;
      gives = record {
        opens = record {
          found = first_found n (omega arith) small c log (at name.Index (λ e. cc) ∙ new.index) (at name.Log2 (λ e. cc) ∙ new.log2);
          named = λ indexid named. named_one c indexid n named (record {
            log = (first_file n (omega arith) small).0;
            scanned = first_scanned n (omega arith) small c log;
            is = sym (ap (λ h. h.indexid) (first_file n (omega arith) small).1.header);
          });
        };
        keeps = All-nil (HasText no_messages (first_mailbox n) c);
      };
    }

-- ---- a storage that a run begins from

module _ {S C : Type 0} (sees : SeesFolder S) (start : Storage) (old : S) (store : State S C) (fresh : IsFresh store) (later : sees.fault_count old ≤ sees.fault_count store.shelf) where
  no_turn : store.owed ≡ None
  no_turn = ap (λ (s : State S C). s.owed) fresh.is

  no_groups : HaveGroups [] (length store.entries)
  no_groups = ap (λ (s : State S C). length s.entries) fresh.is

  mark_is : store.mark ≡ place_of store.chain
  mark_is = ap (λ (s : State S C). s.mark) fresh.is

  first_place : store.chain.log ≡ record { file_seq = 1; end = 56; count = 1; debt = log_debt.None } → place_of store.chain ≡ record { file_seq = 1; offset = 56 }
  first_place is = λ i. record { file_seq = (is i).file_seq; offset = (is i).end }

  begun_at : (messages : Messages) → Stands sees messages Nothing store.chain store.shelf → IsMap store.chain.live.mailbox → storage_of messages store.chain.live.mailbox ≡ start → StartsAt (sees.files old) store.chain.live.mailbox store.mark → LeavesOnly sees old store.shelf (MayLeave start [] (sees.files old))
      → IsSettled sees store.shelf → IsBegun sees start old store
  begun_at messages stands map is starts since settled = record {
    follows = record {
      may = tt;
      failures = later;
      keeps = record {
        messages = messages;
        debt = Nothing;
        rests = record { stands = stands; fits = subst (λ (o : Option Turn). Fits o store.chain.live.mailbox Nothing) (sym no_turn) tt; map = map };
        storage = is;
        owed = tt;
      };
      groups = no_groups;
    };
    starts = starts;
    none = ap (λ (s : State S C). s.entries) fresh.is;
    since = since;
    settled = settled;
  }

  may_start : (c : Folder) → GivesStorage start c → MayLeave start [] (sees.files old) c
  may_start c gives = inr (record { front = []; back = []; parts = refl; gives = gives })

  -- one that was found
  pub begun_found : GivesStorage start (sees.files old) → OpensChain sees old store.shelf (Ok store.chain) → IsBegun sees start old store
  begun_found gives opens =
      let same : gives.mailbox ≡ store.chain.live.mailbox = mailbox_one (sees.files old) gives.mailbox store.chain.live.mailbox gives.mark _ gives.gives.opens.found opens.found in
      begun_at gives.messages (opens.stands gives.messages (subst (λ (m : Mailbox). KeepsTexts gives.messages m (sees.files old)) same gives.gives.keeps)) (subst IsMap same gives.map)
      (ap (storage_of gives.messages) (sym same) ∙ gives.storage)
      (inl (subst (λ (mark : Mark). IsFound (sees.files old) (Finds store.chain.live.mailbox mark)) (sym mark_is) opens.found))
      (weaker sees old store.shelf (IsQuiet (sees.files old)) (MayLeave start [] (sees.files old)) opens.since (λ c quiet. may_start c (quiet_gives start (sees.files old) c gives quiet))) opens.settled

  -- one that was made
  pub begun_made : IsNew (sees.files old) → start ≡ new_storage → (now : ℕ) → IsU32 now → MakesChain sees old store.shelf (Ok store.chain) now → IsBegun sees start old store
  begun_made new is now u32 makes =
      let first = makes.first.0 in
      begun_at no_messages (makes.stands no_messages) makes.first.1 (ap (storage_of no_messages) first.mailbox ∙ first_storage (stamp_of now) ∙ sym is)
      (inr (new, (stamp_of now, first.mailbox), mark_is ∙ first_place first.log))
      (weaker sees old store.shelf (IsOldOrCreated (sees.files old) now) (MayLeave start [] (sees.files old)) makes.since
      (λ c. ⊎_elim (λ same. inl (new, same)) (λ made. may_start c (subst (λ (s : Storage). GivesStorage s c) (sym is) (created_gives (sees.files old) c now u32 new made))))) makes.settled

-- ---- where none is opened

module _ {S : Type 0} (sees : SeesFolder S) (f : OpenFault) (old new : S) (tells : TellsFolder (sees.files old) (Err f)) (there : sees.may_leave new (sees.files new)) (now : (c : Folder) → sees.moment old ≤ sees.moment new → sees.may_leave new c → sees.left_since new (sees.moment old) c) where
  unopened_by : (P : Folder → Type 0) → LeavesOnly sees old new P → ((c : Folder) → P c → IsUnopened (sees.files old) c) → UnlessDisk {A = Chain} (Err f) (IsSettled sees new) → LeavesUnopened sees f old new
  unopened_by P since is settled = record {
    found = tells.0;
    some = tells.1;
    folder = is (sees.files new) (since.each (sees.files new) (now (sees.files new) since.later there));
    after = λ c left. is c (since.each c (now c since.later left));
    crash = weaker sees old new P (IsUnopened (sees.files old)) since is;
    settled = settled;
  }

  pub unopened_found : OpensChain sees old new (Err f) → LeavesUnopened sees f old new
  unopened_found opens = unopened_by (IsQuiet (sees.files old)) opens.since (λ c quiet. inl quiet) opens.settled

  pub unopened_made : IsNew (sees.files old) → (at : ℕ) → IsU32 at → MakesChain sees old new (Err f) at → LeavesUnopened sees f old new
  unopened_made new_is at u32 makes = unopened_by (IsOldOrCreated (sees.files old) at) makes.since (λ c either. inr (new_is, (at, u32, either))) makes.settled

-- ---- by the result

module _ {S C : Type 0} (sees : SeesFolder S) (old : S) (reads : Type 0) (reading : ℕ) (result : Result (State S C) (S × C × OpenFault)) (makes : IsNew (sees.files old) → AtReading reads reading (MakesChain sees old (shelf_behind result) (answered result))) where
  pub begins : IfOk result IsFresh → ((IsNew (sees.files old) → ⊥) → OpensChain sees old (shelf_behind result) (answered result)) → sees.fault_count old ≤ sees.fault_count (shelf_behind result) → (start : Storage) → StartsFrom (sees.files old) start → IfOk result (IsBegun sees start old)
  begins = by result makes
    where
      by : (r : Result (State S C) (S × C × OpenFault)) → (IsNew (sees.files old) → AtReading reads reading (MakesChain sees old (shelf_behind r) (answered r))) → IfOk r IsFresh → ((IsNew (sees.files old) → ⊥) → OpensChain sees old (shelf_behind r) (answered r))
          → sees.fault_count old ≤ sees.fault_count (shelf_behind r) → (start : Storage) → StartsFrom (sees.files old) start → IfOk r (IsBegun sees start old)
      by (Err e) makes fresh opens later start from = tt
      by (Ok store) makes fresh opens later start from =
          ⊎_elim
          (λ gives. begun_found sees start old store fresh later gives (opens (λ new. new_none (sees.files old) gives.mailbox gives.mark new gives.gives.opens.found)))
          (λ new. let made = makes new.0 in begun_made sees start old store fresh later new.0 new.1 made.at made.small made.is) from

  pub unopened : TellsFolder (sees.files old) (answered result) → IsNewOrOpened sees old (shelf_behind result) (answered result) → ((s : S) → sees.may_leave s (sees.files s)) → ((s : S) (c : Folder) → sees.moment old ≤ sees.moment s → sees.may_leave s c → sees.left_since s (sees.moment old) c)
      → IfErr result (λ e. LeavesUnopened sees e.2 old e.0)
  unopened = by result makes
    where
      by : (r : Result (State S C) (S × C × OpenFault)) → (IsNew (sees.files old) → AtReading reads reading (MakesChain sees old (shelf_behind r) (answered r))) → TellsFolder (sees.files old) (answered r) → IsNewOrOpened sees old (shelf_behind r) (answered r)
          → ((s : S) → sees.may_leave s (sees.files s)) → ((s : S) (c : Folder) → sees.moment old ≤ sees.moment s → sees.may_leave s c → sees.left_since s (sees.moment old) c) → IfErr r (λ e. LeavesUnopened sees e.2 old e.0)
      by (Ok store) makes tells either there now = tt
      by (Err e) makes tells either there now =
          ⊎_elim (λ new. let made = makes new in unopened_made sees e.2 old e.0 tells (there e.0) (now e.0) new made.at made.small made.is)
          (λ opens. unopened_found sees e.2 old e.0 tells (there e.0) (now e.0) opens) either
