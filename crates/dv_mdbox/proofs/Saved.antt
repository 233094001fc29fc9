-- A message is saved.
use Rattle.std.proofs.Common.{◌≡◌, ◌≢◌, inl, inr, ⊎_elim, ℕ, ◌+◌, ◌-◌, ◌^◌, ◌<◌, ◌≤◌, Bool, true, false, List, length, get_or, nat_eq, Option, Some, None, Result, Ok, Err, refl, sym, ◌∙◌, ap, subst, arith}
use Rattle.std.specs.Prelude.{IfOk, IsSome, flat_map}
use Rattle.std.proofs.lemmas.Bool.{eqb-false, eqb-true}
use Rattle.dv_model.specs.declared.types.Mailbox.{Mailbox}
use Rattle.dv_model.specs.declared.types.Record.{Record}
use Rattle.dv_model.specs.declared.types.Row.{Row}
use Rattle.dv_model.specs.Effects.{applied}
use Rattle.dv_model.specs.Journals.{Damaged, Held}
use Rattle.dv_model.specs.Mailboxes.{IsValid}
use Rattle.dv_model.specs.Sessions.{end_of_uids}
use Rattle.dv_model.specs.Spelling.{IsUid, written}
use Rattle.dv_shelf.specs.declared.shelf.Name.{Name}
use Rattle.dv_shelf.specs.declared.shelf.Name.TheVariants as name
use Rattle.dv_shelf.specs.Folders.{Folder, contents, name_number, patched}
use Rattle.dv_shelf.specs.Crashes.{LeavesOnly}
use Rattle.dv_shelf.specs.Sees.{SeesFolder}
use Rattle.dv_shelf.proofs.Moments.{started}
use Rattle.dv_chain.specs.declared.chain.Chain.{Chain}
use Rattle.dv_chain.specs.Rest.{Owed}
use Rattle.dv_dbox.specs.BoxTexts.{BoxContent}
use Rattle.dv_dbox.specs.Mails.{content_in, mail_in}
use Rattle.dv_dbox.specs.Reading.{written_content}
use Rattle.dv_dbox.proofs.Taken.{written_is_taken}
use Rattle.dv_files.specs.Writing.{IsFileOf}
use Rattle.dv_files.specs.declared.texts.Turn.{Turn}
use Rattle.dv_filing.specs.Standing.{Fits, MayGive, Stands}
use Rattle.dv_filing.proofs.Resting.{rests_give}
use Rattle.dv_filing.specs.declared.steps.Files.TheVariants as files
use Rattle.dv_filing.specs.Writes.{KeepsThrough}
use Rattle.dv_maps.specs.declared.place.Place.{Place}
use Rattle.dv_maps.specs.Groups.{save_records}
use Rattle.dv_maps.specs.Laws.{AreWritten, IsMap, IsPlace, Saves, SavesAre, SavesAreWritten}
use Rattle.dv_maps.specs.Maps.{row_place}
use Rattle.dv_maps.specs.Texts.{KeepsTexts, Messages, text_at, text_in, with_message}
use Rattle.dv_maps.proofs.Saving.{message_else}
use Rattle.dv_mdbox.specs.declared.fault.StorageFault.{StorageFault}
use Rattle.dv_mdbox.specs.declared.tails.Target.{Target}
use Rattle.dv_mdbox.specs.Answers.{HasRoom}
use Rattle.dv_mdbox.specs.Readying.{IsGroupFor}
use Rattle.dv_mdbox.specs.States.{IsAtRest, State}
use Rattle.dv_mdbox.specs.Tails.{IsFreeFrom, end_of}
use Rattle.dv_mdbox.specs.Writes.{SavesAt, SavesQuietly, WritesGroup, WritesQuietly}
use Rattle.dv_mdbox.proofs.Torn.{text_stays, text_written, torn_text, torn_written}

one_mail : (a b : ℕ) → name.Mail a ≡ name.Mail b → a ≡ b
one_mail a b same =
    let sum : 4 + a ≡ 4 + b = ap name_number same in
    omega (arith, sum)

-- an id is left
pub uid_is : (m : Mailbox) → IsValid m → m.next_uid < end_of_uids → IsUid m.next_uid
uid_is m valid left = (valid.next_uid.0, let less = left in omega (arith, less))

module _ (m after : Mailbox) (valid : IsValid m) (target : Target) (free : IsFreeFrom m target) (message text : List ℕ) (held : mail_in (Some text) ≡ Held message) (saves : Saves (record { file = target.file; offset = target.offset; size = length text }) m after) (messages : Messages) where
  abbrev next : Messages
  next = with_message m.next_uid message messages

  abbrev file : ℕ
  file = target.file

  -- texts stay where the file is written from there on
  stays_at : (d c : Folder) → ((k : ℕ) (row : Row) → k < length m.rows → (row_place m (get_or m.rows k row)).file ≡ file → end_of (row_place m (get_or m.rows k row)) ≤ target.offset)
      → ((place : Place) (saved : List ℕ) → (place.file ≡ file → end_of place ≤ target.offset) → text_at d place ≡ Held saved → text_at c place ≡ Held saved) → KeepsTexts messages m d → KeepsTexts messages m c
  stays_at d c before step keeps = λ k row inside some saved is. step (row_place m (get_or m.rows k row)) saved (before k row inside) (keeps k row inside some saved is)

  before_all : (k : ℕ) (row : Row) → k < length m.rows → (row_place m (get_or m.rows k row)).file ≡ file → end_of (row_place m (get_or m.rows k row)) ≤ target.offset
  before_all k row inside = (free k row inside).ends

  pub through_save : KeepsThrough messages next m after (files.Text file target.offset text)
  through_save = record {
    stays = λ d c step keeps.
        stays_at d c before_all
        (text_stays file target.offset (length text) d c step.there (λ other away. step.others (name.Mail other) (λ e. away (one_mail other file e)))) keeps;
    goes = λ read d c step from keeps.
        let there : c (name.Mail file) ≡ Some (patched (contents read (name.Mail file)) target.offset text) = step.there in
        let kept : KeepsTexts messages m c = goes_kept read d c step.there step.others from keeps in
        saves.keeps messages message c kept (written_at c (contents read (name.Mail file)) there);
    same = λ c keeps. λ k row inside.
        let has = keeps k row inside in
        let r : Row = get_or m.rows k row in
        let low : r.uid < m.next_uid = (valid.rows k row inside).uid.1 in
        λ some saved is. has some saved (sym (message_else m.next_uid message messages r.uid low) ∙ is);
  }
    where
      written_at : (c : Folder) (old : List ℕ) → c (name.Mail file) ≡ Some (patched old target.offset text) → text_at c (record { file = file; offset = target.offset; size = length text }) ≡ Held message
      written_at c old there =
          ap (λ (o : Option (List ℕ)). text_in o (record { file = file; offset = target.offset; size = length text })) there ∙ text_written old target.offset text file ∙ held

      -- a row's text is in the file that is written, or in another
      goes_kept : (read d c : Folder) → c (name.Mail file) ≡ Some (patched (contents read (name.Mail file)) target.offset text) → ((n : Name) → n ≢ name.Mail file → c n ≡ d n) → KeepsTexts messages m read → KeepsTexts messages m d → KeepsTexts messages m c
      goes_kept read d c there others from keeps = λ k row inside some saved is.
          let place : Place = row_place m (get_or m.rows k row) in
          by_file place saved (before_all k row inside) (from k row inside some saved is) (keeps k row inside some saved is) (nat_eq place.file file) refl
        where
          by_file : (place : Place) (saved : List ℕ) → (place.file ≡ file → end_of place ≤ target.offset) → text_at read place ≡ Held saved → text_at d place ≡ Held saved → (b : Bool) → nat_eq place.file file ≡ b → text_at c place ≡ Held saved
          by_file place saved before one other true test =
              let same : place.file ≡ file = eqb-true place.file file test in
              let was : text_in (read (name.Mail file)) place ≡ Held saved = subst (λ (k : ℕ). text_in (read (name.Mail k)) place ≡ Held saved) same one in
              subst (λ (k : ℕ). text_in (c (name.Mail k)) place ≡ Held saved) (sym same)
              (torn_text target.offset (length text) place saved (before same) (read (name.Mail file)) (c (name.Mail file)) (torn_written (read (name.Mail file)) target.offset text (c (name.Mail file)) there) was)
          by_file place saved before one other false test =
              let away : place.file ≢ file = eqb-false place.file file test in
              ap (λ (o : Option (List ℕ)). text_in o place) (others (name.Mail place.file) (λ e. away (one_mail place.file file e))) ∙ other

-- ---- the place

pub place_is : (place : Place) (text : List ℕ) → place.size ≡ length text → place ≡ record { file = place.file; offset = place.offset; size = length text }
place_is place text size = λ i. record { file = place.file; offset = place.offset; size = size i }

pub small_place : (place : Place) → place.file < 2 ^ 32 → place.offset + place.size < 2 ^ 32 → IsPlace place
small_place place file end = record { file = file; offset = omega (arith, end); size = omega (arith, end) }

-- ---- the text

-- the text that is made of a message holds it
pub file_held : {E : Type 0} (message guid : List ℕ) (result : Result (List ℕ) E) → IfOk result (IsFileOf message guid) → IfOk result (λ text. mail_in (Some text) ≡ Held message)
file_held message guid (Ok text) is =
    let content : content_in (Some text) ≡ Some (written_content is.stamp guid is.received message) = ap (λ (t : List ℕ). content_in (Some t)) is.is ∙ written_is_taken is.stamp is.received guid message is.writable in
    ap (λ (o : Option BoxContent). elim o [ None ↦ Damaged | Some m ↦ Held m.bytes ]) content
file_held message guid (Err e) is = tt

-- ---- the records

pub save_some : (id : ℕ) (place : Place) (records : List Record) → records ≡ save_records id place → 1 ≤ length records
save_some id place records is =
    let five : length (save_records id place) ≡ 5 = refl in
    let same : length records ≡ length (save_records id place) = ap length is in
    omega (arith, five, same)

module _ (law : SavesAreWritten) (m : Mailbox) (place : Place) (uid : IsUid m.next_uid) (records : List Record) (is : records ≡ save_records m.next_uid place) where
  pub save_size : length (flat_map written records) ≡ 120
  save_size = ap (λ (rs : List Record). length (flat_map written rs)) is ∙ (law m place uid).bytes

  pub save_written : AreWritten m records (length (flat_map written records))
  save_written =
      let one = law m place uid in
      subst (λ (rs : List Record). AreWritten m rs (length (flat_map written rs))) (sym is) (record { spelled = one.spelled; applies = one.applies; bytes = refl })

pub save_group : (chain : Chain) (place : Place) → SavesAreWritten → IsUid chain.live.mailbox.next_uid → (records : List Record) → records ≡ save_records chain.live.mailbox.next_uid place → HasRoom chain 120 → IsGroupFor chain records
save_group chain place law uid records is room =
    let m = chain.live.mailbox in
    let size = save_size law m place uid records is in
    record {
      some = save_some m.next_uid place records is;
      are = save_written law m place uid records is;
      short = omega (arith, size);
      fits = subst (HasRoom chain) (sym size) room;
    }

pub group_saved : {S C : Type 0} (id : ℕ) (place : Place) (records : List Record) → records ≡ save_records id place → (old new : State S C) {T E : Type 0} (result : Result T E) → WritesGroup records old new result → WritesGroup (save_records id place) old new result
group_saved id place records is old new result writes = subst (λ (rs : List Record). WritesGroup rs old new result) is writes

-- what a group is for says nothing of it
module _ {S C A B T E : Type 0} (records : List Record) (old new : State S C) where
  pub group_ok : (x : A) (y : T) → WritesGroup records old new {T = A} {E = B} (Ok x) → WritesGroup records old new {T = T} {E = E} (Ok y)
  group_ok x y w = record { map = w.map; entries = w.entries; mark = w.mark; kept = tt; start = w.start; indexid = w.indexid }

  pub group_err : (e : B) (f : E) → WritesGroup records old new {T = A} {E = B} (Err e) → WritesGroup records old new {T = T} {E = E} (Err f)
  group_err e f w = record { map = tt; entries = tt; mark = tt; kept = w.kept; start = w.start; indexid = w.indexid }

module _ {S C A B T E : Type 0} (sees : SeesFolder S) (messages : Messages) (debt : Owed) (message : List ℕ) (place : Place) (old new : State S C) where
  pub saves_ok : (x : A) (y : T) → SavesAt sees messages debt message place old new {T = A} {E = B} (Ok x) → SavesAt sees messages debt message place old new {T = T} {E = E} (Ok y)
  saves_ok x y s = record { after = s.after; saves = s.saves; ok = s.ok; err = tt; any_moment = s.any_moment }

  pub saves_err : (e : B) (f : E) → SavesAt sees messages debt message place old new {T = A} {E = B} (Err e) → SavesAt sees messages debt message place old new {T = T} {E = E} (Err f)
  saves_err e f s = record { after = s.after; saves = s.saves; ok = tt; err = s.err; any_moment = s.any_moment }

module _ {S C T E : Type 0} (sees : SeesFolder S) (messages : Messages) (debt : Owed) (message : List ℕ) (old new : State S C) (clock : C) where
  at_clocked : (place : Place) (result : Result T E) → SavesAt sees messages debt message place (record old { clock = clock }) new result → SavesAt sees messages debt message place old new result
  at_clocked place result s = record { after = s.after; saves = s.saves; ok = s.ok; err = s.err; any_moment = s.any_moment }

  pub saves_clocked : (result : Result T E) → SavesQuietly sees messages debt message (record old { clock = clock }) new result → SavesQuietly sees messages debt message old new result
  saves_clocked (Ok x) s = (s.0, at_clocked s.0 (Ok x) s.1)
  saves_clocked (Err e) s = ⊎_elim (λ still. inl still) (λ at. inr (at.0, at_clocked at.0 (Err e) at.1)) s

-- ---- the law

some_of : {A : Type 0} (o : Option A) → IsSome o → (n : A) × (o ≡ Some n)
some_of (Some n) is = (n, refl)
some_of None is = absurd cc

pub record IsSavedAs (m : Mailbox) (place : Place) : Type 0 where
  pub after : Mailbox
  pub gives : applied m (save_records m.next_uid place) ≡ Some after
  pub saves : Saves place m after

pub is_saved : SavesAre → (m : Mailbox) (place : Place) → IsMap m → IsValid m → m.next_uid < 2 ^ 32 - 1 → IsPlace place → IsSome (applied m (save_records m.next_uid place)) → IsSavedAs m place
is_saved law m place map valid uid is applies =
    let some = some_of (applied m (save_records m.next_uid place)) applies in
    record { after = some.0; gives = some.1; saves = law m some.0 place map valid uid is some.1 }

-- what is kept goes through
pub save_through : (m : Mailbox) → IsValid m → (target : Target) → IsFreeFrom m target → (message text : List ℕ) → mail_in (Some text) ≡ Held message → (messages : Messages) (place : Place) → place ≡ record { file = target.file; offset = target.offset; size = length text } → (is : IsSavedAs m place)
    → KeepsThrough messages (with_message m.next_uid message messages) m is.after (files.Text place.file place.offset text)
save_through m valid target free message text held messages place same =
    subst (λ (p : Place). (is : IsSavedAs m p) → KeepsThrough messages (with_message m.next_uid message messages) m is.after (files.Text p.file p.offset text)) (sym same)
    (λ is. through_save m is.after valid target free message text held is.saves messages)

-- ---- a storage

-- nothing was called but the clock
pub saves_stayed : {S C : Type 0} (sees : SeesFolder S) (messages : Messages) (debt : Owed) (message : List ℕ) (old new : State S C) → IsAtRest sees messages debt old → {T : Type 0} (e : StorageFault) → new.shelf ≡ old.shelf → new.chain ≡ old.chain → new.owed ≡ old.owed
    → ((c : Folder) → sees.left_since old.shelf (sees.moment old.shelf) c → sees.may_leave old.shelf c) → SavesQuietly sees messages debt message old new {T = T} {E = StorageFault} (Err e)
saves_stayed {S = S} sees messages debt message old new rest e at on owed now = inl (
  record {
    stands = subst (λ (k : Chain). Stands sees messages debt k new.shelf) (sym on) (subst (λ (s : S). Stands sees messages debt old.chain s) (sym at) rest.stands);
    fits = subst (λ (k : Chain). Fits new.owed k.live.mailbox debt) (sym on) (subst (λ (o : Option Turn). Fits o old.chain.live.mailbox debt) (sym owed) rest.fits);
    map = subst (λ (k : Chain). IsMap k.live.mailbox) (sym on) rest.map;
  },
  subst (λ (s : S). LeavesOnly sees old.shelf s (MayGive messages debt old.chain)) (sym at)
      (started sees old.shelf (MayGive messages debt old.chain) (λ c left. rests_give sees messages debt old.chain old.shelf c rest.stands (now c left))),
)

module _ {S C : Type 0} (sees : SeesFolder S) (messages : Messages) (debt : Owed) (message : List ℕ) (place : Place) (old : State S C) (rest : IsAtRest sees messages debt old) (is : IsSavedAs old.chain.live.mailbox place) where
  -- the group was written, or that failed
  pub saves_written : (new : State S C) {E : Type 0} (result : Result (Unit {0}) E) → WritesGroup (save_records old.chain.live.mailbox.next_uid place) old new result
      → WritesQuietly sees messages (with_message old.chain.live.mailbox.next_uid message messages) debt is.after 120 old new result → SavesAt sees messages debt message place old new result
  saves_written new (Ok x) value writes =
      let both : Some new.chain.live.mailbox ≡ Some is.after = sym value.map ∙ is.gives in
      let same : new.chain.live.mailbox ≡ is.after = one_mailbox new.chain.live.mailbox is.after both in
      record {
        after = is.after;
        saves = is.saves;
        ok = (record { stands = writes.ok.0; fits = writes.ok.1; map = subst IsMap (sym same) is.saves.map }, same);
        err = tt;
        any_moment = writes.any_moment;
      }
    where
      one_mailbox : (a b : Mailbox) → Some a ≡ Some b → a ≡ b
      one_mailbox a b e = cc
  saves_written new (Err e) value writes =
      let some = writes.err in
      let map : IsMap new.chain.live.mailbox = subst IsMap (sym value.kept.0) rest.map in
      record {
        after = is.after;
        saves = is.saves;
        ok = tt;
        err = (some.0, some.1, ⊎_elim (λ way. inl (way.0, record { stands = way.1; fits = some.2; map = map })) (λ gate. inr (gate.0, record { stands = gate.1; fits = some.2; map = map })) some.3);
        any_moment = writes.any_moment;
      }

  pub saves_done : SavesAreWritten → IsUid old.chain.live.mailbox.next_uid → (records : List Record) → records ≡ save_records old.chain.live.mailbox.next_uid place → (new : State S C) {E : Type 0} (result : Result (Unit {0}) E) → WritesGroup records old new result
      → WritesQuietly sees messages (with_message old.chain.live.mailbox.next_uid message messages) debt is.after (length (flat_map written records)) old new result → SavesAt sees messages debt message place old new result
  saves_done law uid records are new result value writes =
      let next = with_message old.chain.live.mailbox.next_uid message messages in
      saves_written new result (group_saved old.chain.live.mailbox.next_uid place records are old new result value)
      (subst (λ (size : ℕ). WritesQuietly sees messages next debt is.after size old new result) (save_size law old.chain.live.mailbox place uid records are) writes)
