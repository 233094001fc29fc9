-- A file is rewritten, and then removed.
use Rattle.std.proofs.Common.{◌≡◌, ◌≢◌, ◌⊎◌, inl, inr, ⊎_elim, ℕ, ◌+◌, ◌^◌, ◌<◌, ◌≤◌, zero, suc, Bool, cond, Contains, List, [], ◌∷◌, get_or, length, Option, Some, None, Result, Ok, Err, OnOk, refl, sym, ◌∙◌, ap, subst, arith}
use Rattle.std.specs.Prelude.{IfErr}
use Rattle.dv_model.specs.declared.types.Mailbox.{Mailbox}
use Rattle.dv_model.specs.declared.types.Mark.{Mark}
use Rattle.dv_model.specs.declared.types.Record.{Record}
use Rattle.dv_model.specs.Effects.{applied}
use Rattle.dv_model.specs.Mailboxes.{IsValid}
use Rattle.dv_shelf.specs.declared.shelf.Name.TheVariants as name
use Rattle.dv_shelf.specs.Folders.{Folder}
use Rattle.dv_shelf.specs.Sees.{SeesFolder}
use Rattle.dv_chain.specs.Rest.{Nothing}
use Rattle.dv_filing.specs.declared.steps.Files.{Files}
use Rattle.dv_filing.specs.declared.steps.Files.TheVariants as kind
use Rattle.dv_filing.specs.Clearing.{Needs}
use Rattle.dv_filing.specs.Files.{IsNamed}
use Rattle.dv_files.specs.Writing.{IsSwept}
use Rattle.dv_files.proofs.Removing.{sweep_stays}
use Rattle.dv_filing.proofs.Cleared.{sweeping}
use Rattle.dv_maps.specs.Laws.{IsMap}
use Rattle.dv_maps.specs.Purges.{IsThinned, Rewrites, RewritesAre, RewritesKeep, RewritesThin, ThinningsAre, all_mapped, file_records, is_gone, kept_size}
use Rattle.dv_maps.specs.Storages.{storage_of}
use Rattle.dv_maps.specs.Texts.{Messages}
use Rattle.dv_mdbox.specs.declared.fault.StorageFault.{StorageFault}
use Rattle.dv_mdbox.specs.declared.fault.StorageFault.TheVariants as fault
use Rattle.dv_mdbox.specs.Answers.{IsFailure}
use Rattle.dv_mdbox.specs.Purging.{FindsRoomAt, FitsKnown, HasRoomAt, IsNextFile, IsNextGone, IsNumberFor, IsStuck, IsTakenAway, LacksRoomAt, NumbersFile, PurgesQuietly, PurgesTo, TakesFile, WritesKept, WritesLater, gone_ids, group_size, kept_rows}
use Rattle.dv_mdbox.specs.States.{IsAtRest, IsLookedAt, State}
use Rattle.dv_mdbox.specs.Writes.{WritesGroup}
use Rattle.dv_mdbox.proofs.Orphaned.{has_mail}
use Rattle.dv_mdbox.proofs.Rewritten.{IsRewrittenBy, apart, not_needed, one_mail, some_rows, through_kept}
use Rattle.dv_mdbox.proofs.Stepping.{group_missed, group_taken, none_taken, to_looked}
use Rattle.dv_mdbox.proofs.Thinning.{quiet_group, quiet_then}

pub on_ok : {T E : Type 0} {P Q : Type 0} (r : Result T E) → (P → Q) → OnOk r P → OnOk r Q
on_ok (Ok x) then is = then is
on_ok (Err e) then is = tt

pub looked_both : {S C : Type 0} (old mid new : State S C) → IsLookedAt old mid → IsLookedAt mid new → IsLookedAt old new
looked_both old mid new one two = record {
  clock = two.clock ∙ one.clock;
  chain = two.chain ∙ one.chain;
  owed = two.owed ∙ one.owed;
  start = two.start ∙ one.start;
  entries = two.entries ∙ one.entries;
  mark = two.mark ∙ one.mark;
  tail = two.tail ∙ one.tail;
}

-- ---- the map

-- its records make another map of one
pub rewrites_map : RewritesAre → (m after : Mailbox) (file new : ℕ) → IsValid m → 1 ≤ length (gone_ids m file) → new < 2 ^ 32 → kept_size file (all_mapped m) < 2 ^ 32 → applied m (file_records file new (all_mapped m)) ≡ Some after → IsMap m → Rewrites file new m after
rewrites_map law m after file new valid some low short gives map = law m after file new map valid (some_rows m (is_gone file) some) low short gives

pub file_taken : {S C : Type 0} (known : Option Folder) (from file new_file : ℕ) (old mid new : State S C) → IsNextGone old.chain.live.mailbox from file → FitsKnown known old.chain.live.mailbox file → IsNumberFor old.chain.live.mailbox file new_file → (records : List Record)
    → records ≡ file_records file new_file (all_mapped old.chain.live.mailbox) → HasRoomAt old.mark (group_size records) → ((after : Mailbox) → applied old.chain.live.mailbox (file_records file new_file (all_mapped old.chain.live.mailbox)) ≡ Some after → IsMap old.chain.live.mailbox → Rewrites file new_file old.chain.live.mailbox after)
    → {A B : Type 0} (x : A) → WritesGroup records old mid {T = A} {E = B} (Ok x) → IsLookedAt mid new → {T : Type 0} (result : Result T StorageFault) → IfErr result IsFailure → TakesFile known from file old new result
file_taken {S} {C} known from file new_file old mid new next fits number records same room rewrites {A} {B} x writes looked {T} result = by_result result
  where
    here : WritesGroup (file_records file new_file (all_mapped old.chain.live.mailbox)) old mid {T = A} {E = B} (Ok x)
    here = subst (λ (rs : List Record). WritesGroup rs old mid {T = A} {E = B} (Ok x)) same writes

    room_here : HasRoomAt old.mark (group_size (file_records file new_file (all_mapped old.chain.live.mailbox)))
    room_here = subst (λ (rs : List Record). HasRoomAt old.mark (group_size rs)) same room

    taken : PurgesTo known from (file ∷ []) (file + 1) old new
    taken =
        to_looked known (file ∷ []) from (file + 1) old mid new
        (group_taken known from file new_file old mid next fits room_here {T = A} {E = B} x here (record { number = number; group = here.map; map = rewrites mid.chain.live.mailbox here.map })) looked

    by_result : (r : Result T StorageFault) → IfErr r IsFailure → TakesFile known from file old new r
    by_result (Ok y) failed = taken
    by_result (Err e) failed = inr (taken, failed)

-- or it wasn't: memory ran out or the disk failed before that, or the group has no room
pub file_missed : {S C : Type 0} (known : Option Folder) (from file new_file : ℕ) (old new : State S C) → FitsKnown known old.chain.live.mailbox file → IsNumberFor old.chain.live.mailbox file new_file → (records : List Record) → records ≡ file_records file new_file (all_mapped old.chain.live.mailbox)
    → {A : Type 0} (e : StorageFault) → WritesGroup records old new {T = A} (Err e) → FindsRoomAt old.mark (group_size records) {A = A} (Err e) → (f : StorageFault) → f ≡ e → TakesFile known from file old new {T = Unit {0}} (Err f)
file_missed {S} {C} known from file new_file old new fits number records same {A} e writes room f is = inl (group_missed known records from old new {T = A} e writes, subst Why (sym is) (why e room))
  where
    Why : StorageFault → Type 0
    Why x = IsFailure x ⊎ IsStuck known new.mark new.chain.live.mailbox file x

    stuck : (bytes : ℕ) → (bytes ≡ group_size records) × LacksRoomAt old.mark (group_size records) → IsStuck known old.mark old.chain.live.mailbox file (fault.TooLong bytes)
    stuck bytes lacks = (fits, new_file, number, lacks.0 ∙ ap group_size same, subst (LacksRoomAt old.mark) (sym lacks.0) lacks.1)

    why : (e : StorageFault) → FindsRoomAt old.mark (group_size records) {A = A} (Err e) → Why e
    why fault.NoMemory found = inl tt
    why (fault.Disk faults) found = inl tt
    why (fault.TooLong bytes) found =
        inr (subst (λ (m : Mark). IsStuck known m new.chain.live.mailbox file (fault.TooLong bytes)) (sym writes.kept.2)
        (subst (λ (m : Mailbox). IsStuck known old.mark m file (fault.TooLong bytes)) (sym writes.kept.0) (stuck bytes found)))
    why fault.None found = absurd found
    why fault.Full found = absurd found
    why fault.Ids found = absurd found
    why fault.Files found = absurd found

-- no number is left for the file that it needs
pub number_missed : {S C : Type 0} (known : Option Folder) (from file : ℕ) (s : State S C) → FitsKnown known s.chain.live.mailbox file → (kept_rows s.chain.live.mailbox file ≡ [] → ⊥) → (e : StorageFault) → NumbersFile s.chain.live.mailbox (Err e) → (f : StorageFault) → f ≡ e
    → TakesFile known from file s s {T = Unit {0}} (Err f)
number_missed known from file s fits some e none f is = inl (none_taken known from s s refl refl refl refl refl, inr (subst (IsStuck known s.mark s.chain.live.mailbox file) (sym is) (stuck e none)))
  where
    stuck : (e : StorageFault) → NumbersFile s.chain.live.mailbox (Err e) → IsStuck known s.mark s.chain.live.mailbox file e
    stuck fault.Files none = (fits, some, none)
    stuck fault.NoMemory none = absurd none
    stuck (fault.Disk faults) none = absurd none
    stuck fault.None none = absurd none
    stuck fault.Full none = absurd none
    stuck fault.Ids none = absurd none
    stuck (fault.TooLong bytes) none = absurd none

-- ---- the folder

only_file : (file n : ℕ) → n ≢ file → Contains (file ∷ []) n → ⊥
only_file file n away (k, less, is) = at k less is
  where
    at : (k : ℕ) → k < 1 → get_or (file ∷ []) k n ≡ n → ⊥
    at zero less is = away (sym is)
    at (suc k) less is = absurd (omega (arith, less))

-- the files that the group's own isn't
not_written : (messages : Messages) (m : Mailbox) (file new : ℕ) (bytes : List ℕ) (files : Files) → WritesKept messages m file new bytes files → (n : ℕ) → (n ≢ new) ⊎ (kept_rows m file ≡ []) → IsNamed files (name.Mail n) → ⊥
not_written messages m file new bytes kind.Nothing is n apart named = named
not_written messages m file new bytes (kind.Text k at text) is n apart named = is
not_written messages m file new bytes (kind.File k text) is n apart named = ⊎_elim (λ away. away (one_mail n k named ∙ is.0)) (λ none. is.4 none) apart

module _ {S C : Type 0} (sees : SeesFolder S) (messages : Messages) (laws : ThinningsAre) (thin : RewritesThin) (keep : RewritesKeep) (file new_file : ℕ) (bytes : List ℕ) (files : Files) (old : State S C) (rest : IsAtRest sees messages Nothing old)
    (by : IsRewrittenBy old.chain.live.mailbox file new_file) (kept : WritesKept messages old.chain.live.mailbox file new_file bytes files) (records : List Record) (same : records ≡ file_records file new_file (all_mapped old.chain.live.mailbox)) where
  abbrev m : Mailbox
  m = old.chain.live.mailbox

  gives : applied m records ≡ Some by.after
  gives = ap (applied m) same ∙ by.gives

  thins : IsThinned (storage_of messages m) (storage_of messages by.after)
  thins = thin messages m by.after file new_file by.is

  module _ (mid : State S C) where
    -- the group
    pub group_quiet : {T E : Type 0} (result : Result T E) → WritesGroup records old mid result → WritesLater sees records files old mid result → PurgesQuietly sees messages Nothing old mid result
    group_quiet result value later =
        let writes = later messages by.after rest gives (through_kept keep messages m by.after file new_file bytes by.is files kept) in
        quiet_group sees messages laws old rest records by.after gives by.is.map thins writes.0 mid result value writes.1.0

    module _ {A B : Type 0} (x : A) (value : WritesGroup records old mid {T = A} {E = B} (Ok x)) (later : WritesLater sees records files old mid {T = A} {E = B} (Ok x)) (above : (kept_rows m file ≡ []) ⊎ IsNextFile m new_file) where
      mid_is : mid.chain.live.mailbox ≡ by.after
      mid_is = one_map mid.chain.live.mailbox by.after (sym value.map ∙ gives)
        where
          one_map : (a b : Mailbox) → Some a ≡ Some b → a ≡ b
          one_map a b e = cc

      pub spared : (new_file ≢ file) ⊎ (kept_rows m file ≡ []) → Needs mid.chain.live.mailbox (file ∷ []) → ⊥
      spared away needs = not_needed m by.after file new_file by.is away (subst (λ (n : Mailbox). Needs n (file ∷ [])) mid_is needs)

      -- the removal
      module _ (new : State S C) (looked : IsLookedAt mid new) where
        pub file_quiet : {T E : Type 0} (result : Result T E) → PurgesQuietly sees messages Nothing mid new result → PurgesQuietly sees messages Nothing old new result
        file_quiet result two = quiet_then sees messages laws Nothing old mid new {A = A} {B = B} x (group_quiet (Ok x) value later) value.indexid result two

        pub taken_away : IsSwept (file ∷ []) (sees.files mid.shelf) (sees.files new.shelf) → IsTakenAway file (sees.files old.shelf) (sees.files new.shelf) m new.chain.live.mailbox
        taken_away swept_is =
            let writes = later messages by.after rest gives (through_kept keep messages m by.after file new_file bytes by.is files kept) in
            let after_is : new.chain.live.mailbox ≡ by.after = (λ i. (looked.chain i).live.mailbox) ∙ mid_is in
            record {
              number = new_file;
              map = subst (Rewrites file new_file m) (sym after_is) by.is;
              above = above;
              gone = ap (λ (f : Folder). f (name.Mail file)) swept_is ∙ ap (λ (b : Bool). cond b None (sees.files mid.shelf (name.Mail file))) (has_mail (file ∷ []) file 0 (omega arith) refl);
              others = λ n away apart_is.
                  sweep_stays n (file ∷ []) (sees.files mid.shelf) (sees.files new.shelf) (only_file file n away) (sweeping {T = Unit {0}} {E = Unit {0}} (file ∷ []) (Ok tt) (sees.files mid.shelf) (sees.files new.shelf) swept_is)
                  ∙ writes.1.1 n (not_written messages m file new_file bytes files kept n apart_is);
            }
