-- The row of a UID, and what the cache file tells of its message.
use Rattle.std.proofs.Common.{◌≡◌, ℕ, Bool, true, false, ◌&&◌, ◌||◌, cond, List, [], ◌∷◌, length, Contains, Option, Some, None, Result, Ok, Err, ltb, refl, sym, ◌∙◌, ap, subst, arith}
use Rattle.std.specs.Prelude.{Any, find, nat_eq, position, slice_get, IfOk}
use Rattle.std.specs.List.{list_any, position_or_len}
use Rattle.std.proofs.lemmas.List.Folds.{Any-from_list_any, find_at}
use Rattle.std.proofs.lemmas.Bool.{eqb-true}
use Rattle.std.proofs.lemmas.List.Elements.{Contains-append_right}
use Rattle.std.proofs.lemmas.Option.{same_Some}
use Rattle.dv_model.specs.declared.types.Mailbox.{Mailbox}
use Rattle.dv_model.specs.declared.types.Row.{Row}
use Rattle.dv_model.specs.Journals.{Mail, Held, Damaged}
use Rattle.dv_model.specs.Sessions.{has_uid, message_in}
use Rattle.dv_model.specs.declared.memory.NoMemory.{NoMemory}
use Rattle.dv_shelf.specs.declared.shelf.ShelfFault.{ShelfFault}
use Rattle.dv_shelf.specs.Folders.{Folder}
use Rattle.dv_cache.specs.declared.row.Known.{Known}
use Rattle.dv_files.specs.Reading.{mail_at}
use Rattle.dv_openings.specs.TrueCaches.{HasTrueCache, known_in, known_of}
use Rattle.dv_lookups.specs.declared.source.Source.{Source}
use Rattle.dv_lookups.specs.declared.source.Source.TheVariants as source
use Rattle.dv_lookups.specs.Memory.{in_memory}
use Rattle.dv_lookups.specs.Kept.{IsLacking, IsLookedUp, IsSpared, row_of}
use Rattle.dv_lookups.specs.Founds.{AreMessages, IsSourceOf, mail_of}

-- ---- the row

-- it is one of the rows, and has the UID
pub record IsRowIn (uid : ℕ) (rows : List Row) (row : Row) : Type 0 where
  pub there : Contains rows row
  pub named : row.uid ≡ uid
  pub some : list_any (λ r. nat_eq r.uid uid && true) rows ≡ true

found_by : (uid : ℕ) (r : Row) (rows : List Row) (row : Row) (b : Bool) → nat_eq r.uid uid ≡ b → find (λ x. nat_eq x.uid uid) (r ∷ rows) ≡ Some row
    → (find (λ x. nat_eq x.uid uid) rows ≡ Some row → IsRowIn uid rows row) → IsRowIn uid (r ∷ rows) row
found_by uid r rows row true same is later =
    let it : r ≡ row = same_Some r row (sym (ap (λ (b : Bool). cond b (Some r) (find (λ x. nat_eq x.uid uid) rows)) same) ∙ is) in
    record {
      there = (0, omega arith, it);
      named = ap (λ (x : Row). x.uid) (sym it) ∙ eqb-true r.uid uid same;
      some = ap (λ (b : Bool). (b && true) || list_any (λ x. nat_eq x.uid uid && true) rows) same;
    }
found_by uid r rows row false other is later =
    let rest = later (sym (ap (λ (b : Bool). cond b (Some r) (find (λ x. nat_eq x.uid uid) rows)) other) ∙ is) in
    record {
      there = Contains-append_right (r ∷ []) rows row rest.there;
      named = rest.named;
      some = ap (λ (b : Bool). (b && true) || list_any (λ x. nat_eq x.uid uid && true) rows) other ∙ rest.some;
    }

pub found_in : (uid : ℕ) (rows : List Row) (row : Row) → find (λ r. nat_eq r.uid uid) rows ≡ Some row → IsRowIn uid rows row
found_in uid [] row is = absurd (cc)
found_in uid (r ∷ rows) row is = found_by uid r rows row (nat_eq r.uid uid) refl is (found_in uid rows row)

-- the row at the place of the UID
pub placed_row : (m : Mailbox) (uid k : ℕ) (row : Row) → position (λ (r : Row). nat_eq r.uid uid) m.rows ≡ Some k → slice_get m.rows k ≡ Some row → row_of m uid ≡ Some row
placed_row m uid k row found is =
    find_at (λ (r : Row). nat_eq r.uid uid) m.rows ∙ ap (slice_get m.rows) (by_test (ltb (position_or_len (λ (r : Row). nat_eq r.uid uid) m.rows) (length m.rows)) (position_or_len (λ (r : Row). nat_eq r.uid uid) m.rows) found) ∙ is
  where
    by_test : (b : Bool) (n : ℕ) → cond b (Some n) None ≡ Some k → n ≡ k
    by_test true n e = same_Some n k e
    by_test false n e = absurd cc

pub row_named : (m : Mailbox) (uid : ℕ) (row : Row) → row_of m uid ≡ Some row → row.uid ≡ uid
row_named m uid row is = (found_in uid m.rows row is).named

module _ (folder : Folder) (indexid : ℕ) (m : Mailbox) where
  pub row_there : (uid : ℕ) (row : Row) → row_of m uid ≡ Some row → has_uid m uid ≡ true
  row_there uid row is = (found_in uid m.rows row is).some

  pub mail_there : (uid : ℕ) → has_uid m uid ≡ true → mail_of folder m uid ≡ Some (mail_at folder uid)
  mail_there uid has = ap (λ (b : Bool). cond b (Some (mail_at folder uid)) None) has

  pub mail_gone : (uid : ℕ) → has_uid m uid ≡ false → mail_of folder m uid ≡ None
  mail_gone uid lacks = ap (λ (b : Bool). cond b (Some (mail_at folder uid)) None) lacks

  -- the row's message by its file
  pub read_is : (row : Row) (result : Source) → row_of m row.uid ≡ Some row → IsSourceOf (Some (mail_at folder row.uid)) result → IsSourceOf (mail_of folder m row.uid) result
  read_is row result is read = subst (λ (mail : Option Mail). IsSourceOf mail result) (sym (mail_there row.uid (row_there row.uid row is))) read

  -- what a true cache file has of the row is its message's
  pub known_is : (row : Row) (known : Known) → row_of m row.uid ≡ Some row → HasTrueCache folder indexid m → IsLookedUp folder indexid m row (Some known) → IsSourceOf (mail_of folder m row.uid) (source.Cached known)
  known_is row known is true_cache looked =
      read_is row (source.Cached known) is (by_mail (mail_at folder row.uid) (true_cache row (record { uid = row.uid; known = Some known }) (found_in row.uid m.rows row is).there looked))
    where
      by_mail : (mail : Mail) → Some known ≡ known_of mail → IsSourceOf (Some mail) (source.Cached known)
      by_mail Damaged e = absurd (cc)
      by_mail (Held message) e = same_Some known (known_in message) e

  -- a row that is spared has something there
  pub not_spared : (row : Row) → row_of m row.uid ≡ Some row → IsLacking folder indexid m row → IsSpared folder indexid m row.uid → ⊥
  not_spared row is lacks spared =
      let same : row ≡ spared.row = same_Some row spared.row (sym is ∙ spared.is) in
      subst (λ (r : Row). IsLacking folder indexid m r) same lacks spared.cached spared.found

  -- a row that isn't in the mailbox isn't
  pub gone_not_spared : (uid : ℕ) → has_uid m uid ≡ false → IsSpared folder indexid m uid → ⊥
  gone_not_spared uid lacks spared =
      let has = row_there uid spared.row spared.is in
      absurd cc

-- what an answer tells tells what follows
pub if_ok : {T E : Type 0} (P Q : T → Type 0) (r : Result T E) → ((x : T) → P x → Q x) → IfOk r P → IfOk r Q
if_ok P Q (Ok x) step p = step x p
if_ok P Q (Err e) step p = tt

-- an answer behind a want of memory that isn't one
pub ok_gives : {T : Type 0} (P : T → Type 0) (r : Result T NoMemory) (x : T) → in_memory r ≡ Ok x → IfOk r P → P x
ok_gives P (Ok y) x is p =
    let same : y ≡ x = cc in
    subst P same p
ok_gives P (Err e) x is p = absurd (cc)

pub if_in_memory : {T : Type 0} (P : T → Type 0) (r : Result T NoMemory) (s : Result T ShelfFault) → s ≡ in_memory r → IfOk r P → IfOk s P
if_in_memory P (Ok x) s is p = subst (λ (r : Result _ ShelfFault). IfOk r P) (sym is) p
if_in_memory P (Err e) s is p = subst (λ (r : Result _ ShelfFault). IfOk r P) (sym is) tt

-- something is known only where it may be looked for
pub must_look : (b : Bool) (o : Option Known) (known : Known) → (b ≡ false → o ≡ None) → o ≡ Some known → b ≡ true
must_look true o known none is = refl
must_look false o known none is = let no = none refl in absurd cc

-- ---- its message

-- a row of the UID is there
row_has : (m : Mailbox) (uid : ℕ) → has_uid m uid ≡ true → (row : Row) × Contains m.rows row × (row.uid ≡ uid)
row_has m uid has = of_row (Any-from_list_any (λ row. nat_eq row.uid uid && true) m.rows has)
  where
    by_test : (b : Bool) → (b && true) ≡ true → b ≡ true
    by_test true e = refl
    by_test false e = e

    of_row : Any (λ row. (nat_eq row.uid uid && true) ≡ true) m.rows → (row : Row) × Contains m.rows row × (row.uid ≡ uid)
    of_row (k, row, less, at, same) = (row, (k, less, at), eqb-true row.uid uid (by_test (nat_eq row.uid uid) same))

-- a message of a row that the mailbox has
pub mail_same : (folder : Folder) (m : Mailbox) (mail : ℕ → Mail) → AreMessages folder m mail → (uid : ℕ) → has_uid m uid ≡ true → mail_at folder uid ≡ mail uid
mail_same folder m mail same uid has =
    let row = row_has m uid has in
    subst (λ (u : ℕ). mail_at folder u ≡ mail u) row.2 (same row.0 row.1)

-- the messages of the mailbox's rows are what a command reads
pub message_same : (folder : Folder) (m : Mailbox) (mail : ℕ → Mail) → AreMessages folder m mail → (uid : ℕ) → message_in (mail_at folder) m uid ≡ message_in mail m uid
message_same folder m mail same uid = by_test (has_uid m uid) refl
  where
    by_test : (b : Bool) → has_uid m uid ≡ b → message_in (mail_at folder) m uid ≡ message_in mail m uid
    by_test true has =
        let e : mail_at folder uid ≡ mail uid = mail_same folder m mail same uid has in
        rw (has, e) refl
    by_test false lacks = rw (lacks) refl
