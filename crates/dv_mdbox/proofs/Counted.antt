-- The count of an id is changed.
use Rattle.std.proofs.Common.{◌≡◌, inl, inr, ⊎_elim, ℕ, ◌^◌, ◌<◌, ◌≤◌, List, [], length, Option, Some, None, Result, Ok, Err, refl, sym, ◌∙◌, ap, subst, arith}
use Rattle.std.specs.Prelude.{IfErr, IsSome, flat_map}
use Rattle.dv_model.specs.declared.types.Mailbox.{Mailbox}
use Rattle.dv_model.specs.declared.types.Record.{Record}
use Rattle.dv_model.specs.Effects.{applied}
use Rattle.dv_model.specs.Mailboxes.{IsValid}
use Rattle.dv_model.specs.Spelling.{written}
use Rattle.dv_shelf.specs.Crashes.{LeavesOnly}
use Rattle.dv_shelf.specs.Folders.{Folder}
use Rattle.dv_shelf.specs.Sees.{SeesFolder}
use Rattle.dv_shelf.proofs.Moments.{started}
use Rattle.dv_chain.specs.declared.chain.Chain.{Chain}
use Rattle.dv_chain.specs.Rest.{Owed}
use Rattle.dv_files.specs.declared.texts.Turn.{Turn}
use Rattle.dv_filing.specs.declared.steps.Files.TheVariants as files
use Rattle.dv_filing.specs.Standing.{Fits, Stands}
use Rattle.dv_filing.specs.Writes.{KeepsThrough}
use Rattle.dv_filing.proofs.Resting.{rests_give}
use Rattle.dv_maps.specs.Groups.{count_records}
use Rattle.dv_maps.specs.Laws.{AreWritten, Counts, CountsAre, CountsAreWritten, IsMap}
use Rattle.dv_maps.specs.Texts.{KeepsTexts, Messages}
use Rattle.dv_mdbox.specs.declared.fault.StorageFault.{StorageFault}
use Rattle.dv_mdbox.specs.declared.fault.StorageFault.TheVariants as fault
use Rattle.dv_mdbox.specs.declared.looking.Reference.{Reference}
use Rattle.dv_mdbox.specs.Answers.{ChangesCount, FindsRoom, HasRoom, IsFailure, IsReferenced, OnRefused}
use Rattle.dv_mdbox.specs.Looks.{reference_of}
use Rattle.dv_mdbox.specs.Readying.{IsGroupFor}
use Rattle.dv_mdbox.specs.States.{IsAtRest, State}
use Rattle.dv_mdbox.specs.Writes.{CountsQuietly, MayGiveCall, WritesGroup, WritesQuietly}
use Rattle.dv_mdbox.proofs.Rows.{count_of_only, reference_is}
use Rattle.dv_mdbox.proofs.Written.{group_clocked, quiet_clocked}

-- ---- answers

pub finds_room : {A : Type 0} (chain : Chain) (size : ℕ) (result : Result A StorageFault) → HasRoom chain size → IfErr result IsFailure → FindsRoom chain size result
finds_room chain size (Ok x) room failure = room
finds_room chain size (Err (fault.Disk faults)) room failure = room
finds_room chain size (Err fault.NoMemory) room failure = room
finds_room chain size (Err fault.None) room failure = absurd failure
finds_room chain size (Err fault.Full) room failure = absurd failure
finds_room chain size (Err fault.Ids) room failure = absurd failure
finds_room chain size (Err fault.Files) room failure = absurd failure
finds_room chain size (Err (fault.TooLong bytes)) room failure = absurd failure

-- a failure is no refusal
pub failure_refused : {A : Type 0} (P : Type 0) (result : Result A StorageFault) → IfErr result IsFailure → OnRefused result P
failure_refused P (Ok x) failure = tt
failure_refused P (Err (fault.Disk faults)) failure = tt
failure_refused P (Err fault.NoMemory) failure = tt
failure_refused P (Err fault.None) failure = absurd failure
failure_refused P (Err fault.Full) failure = absurd failure
failure_refused P (Err fault.Ids) failure = absurd failure
failure_refused P (Err fault.Files) failure = absurd failure
failure_refused P (Err (fault.TooLong bytes)) failure = absurd failure

-- what holds anyway holds behind a refusal
pub refused_anyway : (A P : Type 0) (e : StorageFault) → P → OnRefused {A = A} (Err e) P
refused_anyway A P (fault.Disk faults) holds = tt
refused_anyway A P fault.NoMemory holds = tt
refused_anyway A P fault.None holds = holds
refused_anyway A P fault.Full holds = holds
refused_anyway A P fault.Ids holds = holds
refused_anyway A P fault.Files holds = holds
refused_anyway A P (fault.TooLong bytes) holds = holds

pub changes_count : {A : Type 0} (m : Mailbox) (chain : Chain) (id most : ℕ) (reference : Reference) (result : Result A StorageFault) → reference_of m id ≡ Some reference → reference.count < most → FindsRoom chain 48 result → ChangesCount m chain id most result
changes_count m chain id most reference (Ok x) is less room = ((reference, is, less), room)
changes_count m chain id most reference (Err (fault.Disk faults)) is less room = ((reference, is, less), room)
changes_count m chain id most reference (Err fault.NoMemory) is less room = ((reference, is, less), room)
changes_count m chain id most reference (Err fault.None) is less room = absurd room
changes_count m chain id most reference (Err fault.Full) is less room = absurd room
changes_count m chain id most reference (Err fault.Ids) is less room = absurd room
changes_count m chain id most reference (Err fault.Files) is less room = absurd room
changes_count m chain id most reference (Err (fault.TooLong bytes)) is less room = ((reference, is, less), room.0, room.1)

-- an id has one count
module _ (m : Mailbox) (id : ℕ) where
  pub same_count : (P : ℕ → Type 0) (reference : Reference) → reference_of m id ≡ Some reference → IsReferenced m id P → P reference.count
  same_count P reference is (other, there, holds) =
      let both : Some other ≡ Some reference = sym there ∙ is in
      subst (λ (r : Reference). P r.count) (one_reference other reference both) holds
    where
      one_reference : (a b : Reference) → Some a ≡ Some b → a ≡ b
      one_reference a b e = cc

  -- or none
  pub not_referenced : {A : Type 0} (P : ℕ → Type 0) → reference_of m id ≡ None → IsReferenced m id P → A
  not_referenced P none (other, there, holds) = absurd (differ other (sym none ∙ there))
    where
      differ : (r : Reference) → None ≡ Some r → ⊥
      differ r e = cc

-- ---- the records

pub count_some : (id count : ℕ) (records : List Record) → records ≡ count_records id count → 1 ≤ length records
count_some id count records is =
    let two : length (count_records id count) ≡ 2 = refl in
    let same : length records ≡ length (count_records id count) = ap length is in
    omega (arith, two, same)

pub count_size : CountsAreWritten → (m : Mailbox) (id count : ℕ) (records : List Record) → records ≡ count_records id count → length (flat_map written records) ≡ 48
count_size law m id count records is = ap (λ (rs : List Record). length (flat_map written rs)) is ∙ (law m id count).bytes

pub count_written : CountsAreWritten → (m : Mailbox) (id count : ℕ) (records : List Record) → records ≡ count_records id count → AreWritten m records (length (flat_map written records))
count_written law m id count records is =
    let one = law m id count in
    subst (λ (rs : List Record). AreWritten m rs (length (flat_map written rs))) (sym is) (record { spelled = one.spelled; applies = one.applies; bytes = refl })

pub count_group : (chain : Chain) (id count : ℕ) → CountsAreWritten → (records : List Record) → records ≡ count_records id count → HasRoom chain 48 → IsGroupFor chain records
count_group chain id count law records is room =
    let m = chain.live.mailbox in
    let size = count_size law m id count records is in
    record {
      some = count_some id count records is;
      are = count_written law m id count records is;
      short = omega (arith, size);
      fits = subst (HasRoom chain) (sym size) room;
    }

pub group_counted : {S C : Type 0} (id count : ℕ) (records : List Record) → records ≡ count_records id count → (old new : State S C) (clock : C) {T E : Type 0} (result : Result T E) → WritesGroup records (record old { clock = clock }) new result → WritesGroup (count_records id count) old new result
group_counted id count records is old new clock result writes = subst (λ (rs : List Record). WritesGroup rs old new result) is (group_clocked records old new clock result writes)

-- ---- the law

some_of : {A : Type 0} (o : Option A) → IsSome o → (n : A) × (o ≡ Some n)
some_of (Some n) is = (n, refl)
some_of None is = absurd cc

pub record IsCounted (m : Mailbox) (id count : ℕ) (change : ℕ → ℕ) : Type 0 where
  pub after : Mailbox
  pub gives : applied m (count_records id count) ≡ Some after
  pub counts : Counts id change m after

pub is_counted : CountsAre → CountsAreWritten → (m : Mailbox) (id old count : ℕ) (change : ℕ → ℕ) → IsMap m → IsValid m → id < 2 ^ 32 → count < 2 ^ 16 → IsReferenced m id (λ n. n ≡ old) → change old ≡ count → IsCounted m id count change
is_counted law written m id old count change map valid uid short (reference, there, same) to =
    let is = reference_is m valid id reference there in
    let some = some_of (applied m (count_records id count)) (written m id count).applies in
    let low = is.some in
    record {
      after = some.0;
      gives = some.1;
      counts = law m some.0 id reference.count count map valid is.is.some (uid, low, short) (count_of_only m valid id reference is) some.1 change (ap change same ∙ to);
    }

-- what is kept goes through
pub through_count : (messages : Messages) (m after : Mailbox) (id : ℕ) (change : ℕ → ℕ) → Counts id change m after → KeepsThrough messages messages m after files.Nothing
through_count messages m after id change counts = record {
  stays = λ d c is keeps. subst (KeepsTexts messages m) (sym is) keeps;
  goes = λ read d c is from keeps. subst (KeepsTexts messages after) (sym is) (counts.keeps messages d keeps);
  same = λ c keeps. keeps;
}

-- ---- a storage

module _ {S C : Type 0} (sees : SeesFolder S) (messages : Messages) (debt : Owed) (id count : ℕ) (change : ℕ → ℕ) (old : State S C) (rest : IsAtRest sees messages debt old) (is : IsCounted old.chain.live.mailbox id count change) where
  -- nothing was called but the clock
  pub counts_stayed : (new : State S C) {T : Type 0} (e : StorageFault) → new.shelf ≡ old.shelf → new.chain ≡ old.chain → new.owed ≡ old.owed → ((c : Folder) → sees.left_since old.shelf (sees.moment old.shelf) c → sees.may_leave old.shelf c)
      → CountsQuietly sees messages debt id change old new {T = T} (Err e)
  counts_stayed new e at on owed now = record {
    after = is.after;
    counts = is.counts;
    ok = tt;
    err = (
      debt,
      [],
      inl (inl refl),
      record {
        stands = subst (λ (k : Chain). Stands sees messages debt k new.shelf) (sym on) (subst (λ (s : S). Stands sees messages debt old.chain s) (sym at) rest.stands);
        fits = subst (λ (k : Chain). Fits new.owed k.live.mailbox debt) (sym on) (subst (λ (o : Option Turn). Fits o old.chain.live.mailbox debt) (sym owed) rest.fits);
        map = subst (λ (k : Chain). IsMap k.live.mailbox) (sym on) rest.map;
      },
    );
    any_moment = subst (λ (s : S). LeavesOnly sees old.shelf s (MayGiveCall messages messages debt is.after 48 old.owed old.chain)) (sym at)
        (started sees old.shelf (MayGiveCall messages messages debt is.after 48 old.owed old.chain) (λ c left. inl (rests_give sees messages debt old.chain old.shelf c rest.stands (now c left))));
  }

  -- the group was written, or that failed
  pub counts_written : (new : State S C) (result : Result (Unit {0}) StorageFault) → WritesGroup (count_records id count) old new result → WritesQuietly sees messages messages debt is.after 48 old new result → CountsQuietly sees messages debt id change old new result
  counts_written new (Ok x) value writes =
      let both : Some new.chain.live.mailbox ≡ Some is.after = sym value.map ∙ is.gives in
      let same : new.chain.live.mailbox ≡ is.after = one_mailbox new.chain.live.mailbox is.after both in
      record {
        after = is.after;
        counts = is.counts;
        ok = (record { stands = writes.ok.0; fits = writes.ok.1; map = subst IsMap (sym same) is.counts.map }, same);
        err = tt;
        any_moment = writes.any_moment;
      }
    where
      one_mailbox : (a b : Mailbox) → Some a ≡ Some b → a ≡ b
      one_mailbox a b e = cc
  counts_written new (Err e) value writes =
      let some = writes.err in
      record {
        after = is.after;
        counts = is.counts;
        ok = tt;
        err = (some.0, some.1, ⊎_elim (λ way. inl way.0) (λ gate. inr gate.0) some.3, record { stands = ⊎_elim (λ way. way.1) (λ gate. gate.1) some.3; fits = some.2; map = subst IsMap (sym value.kept.0) rest.map });
        any_moment = writes.any_moment;
      }

  pub counts_done : CountsAreWritten → (records : List Record) → records ≡ count_records id count → (new : State S C) (clock : C) (result : Result (Unit {0}) StorageFault) → WritesGroup records (record old { clock = clock }) new result
      → WritesQuietly sees messages messages debt is.after (length (flat_map written records)) (record old { clock = clock }) new result → CountsQuietly sees messages debt id change old new result
  counts_done law records are new clock result value writes =
      counts_written new result (group_counted id count records are old new clock result value)
      (subst (λ (size : ℕ). WritesQuietly sees messages messages debt is.after size old new result) (count_size law old.chain.live.mailbox id count records are)
      (quiet_clocked sees messages messages debt is.after (length (flat_map written records)) old new clock result writes))
