-- What resets and updates of the current extension leave.
use Rattle.std.proofs.Common.{◌≡◌, ℕ, zero, suc, ◌+◌, ◌-◌, ◌*◌, ◌/◌, ◌%◌, ◌≤◌, Bool, true, false, cond, List, [], ◌∷◌, ◌++◌, length, nat_eq, nat_le, drop, take, Option, Some, None, refl, sym, ◌∙◌, ap, subst, arith, length-append, length-drop}
use Rattle.std.specs.Prelude.{All, IsSomeAnd, fold, map, slice_get, sum_by}
use Rattle.std.specs.Int.{w32, from_le_bytes}
use Rattle.std.proofs.lemmas.Bool.Decides.{nat_tests}
use Rattle.std.proofs.lemmas.List.{length-replicate, length-take-le}
use Rattle.std.proofs.lemmas.List.Elements.{All-cons, All-nil}
use Rattle.std.proofs.lemmas.Nat.{div-add-mod'}
use Rattle.dv_model.specs.declared.types.Current.{Current}
use Rattle.dv_model.specs.declared.types.Extension.{Extension}
use Rattle.dv_model.specs.declared.types.Mailbox.{Mailbox}
use Rattle.dv_model.specs.declared.types.Part.{Part}
use Rattle.dv_model.specs.Effects.{on_current, update_rows, update_size, with_header_parts, with_item, with_parts, with_reset, with_update, with_updates, written_over, zeroed}
use Rattle.dv_model.specs.Mailboxes.{AreExtensions, IsValid}
use Rattle.dv_validity.proofs.Extensions.{IsCurrent, named_alike, same_parts_valid, table_goes_on, table_valid}
use Rattle.dv_validity.proofs.Flags.{changed_goes_on, changed_valid}
use Rattle.dv_validity.proofs.Items.{all_like, item_anywhere, item_like, map_kept, map_kept_at}
use Rattle.dv_validity.proofs.Rows.{GoesOn, fold_keeps, fold_keeps_any, goes_on_again, goes_on_same}

-- ---- a table that is alike

-- the change of an extension keeps its name, the size of its header and its number of bytes in a row
pub record IsAlike (change : Extension → Extension) : Type 0 where
  pub name : (e : Extension) → (change e).name ≡ e.name
  pub header : (e : Extension) → length (change e).header ≡ length e.header
  pub record_size : (e : Extension) → (change e).record_size ≡ e.record_size

sum_like : (es fs : List Extension) → map (λ e. e.record_size) es ≡ map (λ e. e.record_size) fs → sum_by (λ e. e.record_size) fs ≡ sum_by (λ e. e.record_size) es
sum_like es fs e = sums es fs 0 e
  where
    sums : (es fs : List Extension) (n : ℕ) → map (λ e. e.record_size) es ≡ map (λ e. e.record_size) fs → fold (λ a x. a + x.record_size) n fs ≡ fold (λ a x. a + x.record_size) n es
    sums [] [] n e = refl
    sums [] (f ∷ fs) n e = absurd cc
    sums (x ∷ es) [] n e = absurd cc
    sums (x ∷ es) (f ∷ fs) n e =
        let rest : map (λ e. e.record_size) es ≡ map (λ e. e.record_size) fs = cc in
        let first : f.record_size ≡ x.record_size = cc in
        ap (λ k. fold (λ a x. a + x.record_size) (n + k) fs) first ∙ sums es fs (n + x.record_size) rest

length_like : (k : ℕ) (change : Extension → Extension) (es : List Extension) → length (with_item k change es) ≡ length es
length_like k change [] = refl
length_like zero change (e ∷ es) = refl
length_like (suc k) change (e ∷ es) = let rest : length (with_item k change es) ≡ length es = length_like k change es in omega arith

module _ (change : Extension → Extension) (alike : IsAlike change) (k : ℕ) (es : List Extension) where
  sizes_alike : map (λ e. e.record_size) es ≡ map (λ e. e.record_size) (with_item k change es)
  sizes_alike = sym (map_kept (λ (e : Extension). e.record_size) change alike.record_size k es)

  alike_extensions : AreExtensions es → AreExtensions (with_item k change es)
  alike_extensions are =
      let many : length (with_item k change es) ≡ length es = length_like k change es in
      let wide : sum_by (λ e. e.record_size) (with_item k change es) ≡ sum_by (λ e. e.record_size) es = sum_like es (with_item k change es) sizes_alike in
      let within : sum_by (λ e. e.record_size) es ≤ 1024 = are.record_sizes in
      let few : length es ≤ 16 = are.count in
      named_alike es (with_item k change es) are (sym (map_kept (λ (e : Extension). e.name) change alike.name k es)) (record {
        count = omega arith;
        record_sizes = omega arith;
        headers = all_like (λ (e : Extension). length e.header) (λ n. n ≤ 65536) es (with_item k change es) (sym (map_kept (λ (e : Extension). length e.header) change alike.header k es)) are.headers;
      })

  alike_current : (current : Option Current) → IsCurrent es current → IsCurrent (with_item k change es) current
  alike_current None is = tt
  alike_current (Some c) is =
      item_anywhere (λ (e : Extension). c.size ≤ e.record_size) change (λ e h. let same : (change e).record_size ≡ e.record_size = alike.record_size e in omega arith) k c.extension es is

-- ---- resets

zeroed_length : (bytes : List ℕ) → length (zeroed bytes) ≡ length bytes
zeroed_length bytes = length-replicate (length bytes) 0

module _ (reset_id : ℕ) (m : Mailbox) (current : Current) where
  abbrev emptied : Extension → Extension
  emptied e = record e { reset_id = reset_id; header = zeroed e.header }

  abbrev renumbered : Extension → Extension
  renumbered e = record e { reset_id = reset_id }

  emptied_alike : IsAlike emptied
  emptied_alike = record { name = λ e. refl; header = λ e. zeroed_length e.header; record_size = λ e. refl }

  renumbered_alike : IsAlike renumbered
  renumbered_alike = record { name = λ e. refl; header = λ e. refl; record_size = λ e. refl }

  emptied_sizes : (parts : List (List ℕ)) → map length parts ≡ map (λ e. e.record_size) m.extensions
      → map length (with_item current.extension zeroed parts) ≡ map (λ e. e.record_size) (with_item current.extension emptied m.extensions)
  emptied_sizes parts same = map_kept length zeroed zeroed_length current.extension parts ∙ same ∙ sizes_alike emptied emptied_alike current.extension m.extensions

  reset_by : (b : Bool) → IsValid m → IsValid (cond b (record (with_parts current.extension zeroed m) { extensions = with_item current.extension emptied m.extensions }) (record m { extensions = with_item current.extension renumbered m.extensions }))
  reset_by true valid =
      table_valid m (with_item current.extension zeroed) (with_item current.extension emptied m.extensions) m.current emptied_sizes
      (alike_extensions emptied emptied_alike current.extension m.extensions valid.extensions)
      (alike_current emptied emptied_alike current.extension m.extensions m.current valid.current) valid
  reset_by false valid =
      same_parts_valid m (with_item current.extension renumbered m.extensions) m.current (sizes_alike renumbered renumbered_alike current.extension m.extensions)
      (alike_extensions renumbered renumbered_alike current.extension m.extensions valid.extensions)
      (alike_current renumbered renumbered_alike current.extension m.extensions m.current valid.current) valid

  reset_goes_on_by : (b : Bool) → GoesOn m (cond b (record (with_parts current.extension zeroed m) { extensions = with_item current.extension emptied m.extensions }) (record m { extensions = with_item current.extension renumbered m.extensions }))
  reset_goes_on_by true = table_goes_on m (with_item current.extension zeroed) (with_item current.extension emptied m.extensions) m.current
  reset_goes_on_by false = goes_on_same m (record m { extensions = with_item current.extension renumbered m.extensions }) (omega arith) refl refl refl

  current_reset_valid : (preserve : ℕ) → IsValid m → IsValid (with_reset reset_id preserve m current)
  current_reset_valid preserve valid = reset_by (nat_eq preserve 0) valid

  current_reset_goes_on : (preserve : ℕ) → GoesOn m (with_reset reset_id preserve m current)
  current_reset_goes_on preserve = reset_goes_on_by (nat_eq preserve 0)

-- ---- header updates of the current extension

over_by : (at : ℕ) (more bytes : List ℕ) (b : Bool) → nat_le (at + length more) (length bytes) ≡ b → length (cond b (take at bytes ++ more ++ drop (at + length more) bytes) bytes) ≡ length bytes
over_by at more bytes false e = refl
over_by at more bytes true e =
    let inside : at + length more ≤ length bytes = grind (arith, nat_tests) in
    let front : length (take at bytes) ≡ at = length-take-le at bytes (omega arith) in
    let rest : length (drop (at + length more) bytes) ≡ length bytes - (at + length more) = length-drop (at + length more) bytes in
    let both : length (take at bytes ++ more) ≡ length (take at bytes) + length more = length-append (take at bytes) more in
    let all : length (take at bytes ++ more ++ drop (at + length more) bytes) ≡ length (take at bytes ++ more) + length (drop (at + length more) bytes) = length-append (take at bytes ++ more) (drop (at + length more) bytes) in
    omega arith

over_length : (bytes : List ℕ) (part : Part) → length (written_over bytes part) ≡ length bytes
over_length bytes part = over_by part.offset part.bytes bytes (nat_le (part.offset + length part.bytes) (length bytes)) refl

header_length : (parts : List Part) (header : List ℕ) → length (fold written_over header parts) ≡ length header
header_length [] header = refl
header_length (part ∷ parts) header = header_length parts (written_over header part) ∙ over_length header part

header_alike : (parts : List Part) → IsAlike (λ e. record e { header = fold written_over e.header parts })
header_alike parts = record { name = λ e. refl; header = λ e. header_length parts e.header; record_size = λ e. refl }

header_parts_valid : (m : Mailbox) (parts : List Part) (current : Current) → IsValid m → IsValid (with_header_parts parts m current)
header_parts_valid m parts current valid =
    let change : Extension → Extension = λ e. record e { header = fold written_over e.header parts } in
    same_parts_valid m (with_item current.extension change m.extensions) m.current (sizes_alike change (header_alike parts) current.extension m.extensions)
    (alike_extensions change (header_alike parts) current.extension m.extensions valid.extensions)
    (alike_current change (header_alike parts) current.extension m.extensions m.current valid.current) valid

-- ---- record updates of the current extension

piece_length : (size : ℕ) (update part : List ℕ) → 4 + size ≤ length update → size ≤ length part → length (take size (drop 4 update) ++ drop size part) ≡ length part
piece_length size update part long wide =
    let behind : length (drop 4 update) ≡ length update - 4 = length-drop 4 update in
    let front : length (take size (drop 4 update)) ≡ size = length-take-le size (drop 4 update) (omega arith) in
    let rest : length (drop size part) ≡ length part - size = length-drop size part in
    let all : length (take size (drop 4 update) ++ drop size part) ≡ length (take size (drop 4 update)) + length (drop size part) = length-append (take size (drop 4 update)) (drop size part) in
    omega arith

some_weaker : {X : Type 0} (P Q : X → Type 0) → ((x : X) → P x → Q x) → (o : Option X) → IsSomeAnd o P → IsSomeAnd o Q
some_weaker P Q weaker None is = is
some_weaker P Q weaker (Some x) is = weaker x is

-- the update has a whole row
abbrev pub IsLong : ℕ → List ℕ → Type 0
IsLong size update = 4 + size ≤ length update

-- the mailbox is valid, and has this extension, that is no smaller
pub record Takes (current : Current) (m : Mailbox) : Type 0 where
  pub valid : IsValid m
  pub wide : IsSomeAnd (slice_get m.extensions current.extension) (λ e. current.size ≤ e.record_size)

update_parts : (m : Mailbox) (current : Current) (update : List ℕ) → IsLong current.size update → Takes current m → (parts : List (List ℕ)) → map length parts ≡ map (λ e. e.record_size) m.extensions
    → map length (with_item current.extension (λ part. take current.size (drop 4 update) ++ drop current.size part) parts) ≡ map (λ e. e.record_size) m.extensions
update_parts m current update long takes parts same =
    map_kept_at length (λ part. take current.size (drop 4 update) ++ drop current.size part) current.extension parts
    (some_weaker (λ part. current.size ≤ length part) (λ part. length (take current.size (drop 4 update) ++ drop current.size part) ≡ length part)
    (λ part wide. piece_length current.size update part long wide) (slice_get parts current.extension)
    (item_like length (λ (e : Extension). e.record_size) (λ n. current.size ≤ n) current.extension parts m.extensions same takes.wide))
    ∙ same

update_valid : (current : Current) (m : Mailbox) (update : List ℕ) → IsLong current.size update → Takes current m → Takes current (with_update current m update)
update_valid current m update long takes = record {
  valid =
      changed_valid m (nat_eq (from_le_bytes w32 (take 4 update))) (λ row. record row { parts = with_item current.extension (λ part. take current.size (drop 4 update) ++ drop current.size part) row.parts }) (λ row. refl)
      (λ row is. record { uid = is.uid; keywords = is.keywords; parts = update_parts m current update long takes row.parts is.parts; modseq = is.modseq }) takes.valid;
  wide = takes.wide;
}

update_goes_on : (current : Current) (m : Mailbox) (update : List ℕ) → GoesOn m (with_update current m update)
update_goes_on current m update =
    changed_goes_on m (nat_eq (from_le_bytes w32 (take 4 update))) (λ row. record row { parts = with_item current.extension (λ part. take current.size (drop 4 update) ++ drop current.size part) row.parts }) (λ row. refl) (λ row. refl)

-- so many pieces of so many bytes are whole rows
pieces_long : (size piece : ℕ) → 4 + size ≤ piece → (k : ℕ) (bytes : List ℕ) → k * piece ≤ length bytes → All (IsLong size) (update_rows k piece bytes)
pieces_long size piece long zero bytes h = All-nil (IsLong size)
pieces_long size piece long (suc k) bytes h =
    let first : piece ≤ length bytes = omega arith in
    let front : length (take piece bytes) ≡ piece = length-take-le piece bytes first in
    let rest : length (drop piece bytes) ≡ length bytes - piece = length-drop piece bytes in
    All-cons (IsLong size) (take piece bytes) (update_rows k piece (drop piece bytes)) (omega arith) (pieces_long size piece long k (drop piece bytes) (omega arith))

whole_rows : (n piece : ℕ) → n / piece * piece ≤ n
whole_rows n piece = let e = div-add-mod' n piece in omega arith

updates_by : (m : Mailbox) (bytes : List ℕ) (current : Current) → Takes current m → (b : Bool)
    → IsValid (cond b (fold (with_update current) m (update_rows (length bytes / update_size current.size) (update_size current.size) bytes)) m)
updates_by m bytes current takes true =
    let is : Takes current (fold (with_update current) m (update_rows (length bytes / update_size current.size) (update_size current.size) bytes)) =
    fold_keeps (Takes current) (IsLong current.size) (with_update current) (update_valid current) m (update_rows (length bytes / update_size current.size) (update_size current.size) bytes)
    (pieces_long current.size (update_size current.size) (omega arith) (length bytes / update_size current.size) bytes (whole_rows (length bytes) (update_size current.size))) takes in
    is.valid
updates_by m bytes current takes false = takes.valid

updates_go_on_by : (m : Mailbox) (bytes : List ℕ) (current : Current) (b : Bool)
    → GoesOn m (cond b (fold (with_update current) m (update_rows (length bytes / update_size current.size) (update_size current.size) bytes)) m)
updates_go_on_by m bytes current true =
    fold_keeps_any (GoesOn m) (with_update current) (λ n update is. goes_on_again m n (with_update current n update) is (update_goes_on current n update)) m
    (update_rows (length bytes / update_size current.size) (update_size current.size) bytes) (goes_on_same m m (omega arith) refl refl refl)
updates_go_on_by m bytes current false = goes_on_same m m (omega arith) refl refl refl

-- ---- the records

current_by : (m : Mailbox) (change : Current → Mailbox) (o : Option Current) → IsValid (record m { current = o }) → ((current : Current) → o ≡ Some current → IsValid (change current)) → IsValid (on_current (record m { current = o }) change)
current_by m change None valid later = valid
current_by m change (Some current) valid later = later current refl

on_current_valid : (m : Mailbox) (change : Current → Mailbox) → IsValid m → ((current : Current) → m.current ≡ Some current → IsValid (change current)) → IsValid (on_current m change)
on_current_valid m change valid later = current_by m change m.current valid later

current_goes_on_by : (m : Mailbox) (change : Current → Mailbox) (o : Option Current) → ((current : Current) → GoesOn (record m { current = o }) (change current)) → GoesOn (record m { current = o }) (on_current (record m { current = o }) change)
current_goes_on_by m change None later = goes_on_same (record m { current = None }) (record m { current = None }) (omega arith) refl refl refl
current_goes_on_by m change (Some current) later = later current

on_current_goes_on : (m : Mailbox) (change : Current → Mailbox) → ((current : Current) → GoesOn m (change current)) → GoesOn m (on_current m change)
on_current_goes_on m change later = current_goes_on_by m change m.current later

pub reset_valid : (m : Mailbox) (reset_id preserve : ℕ) → IsValid m → IsValid (on_current m (with_reset reset_id preserve m))
reset_valid m reset_id preserve valid = on_current_valid m (with_reset reset_id preserve m) valid (λ current e. current_reset_valid reset_id m current preserve valid)

pub reset_goes_on : (m : Mailbox) (reset_id preserve : ℕ) → GoesOn m (on_current m (with_reset reset_id preserve m))
reset_goes_on m reset_id preserve = on_current_goes_on m (with_reset reset_id preserve m) (λ current. current_reset_goes_on reset_id m current preserve)

pub header_update_valid : (m : Mailbox) (parts : List Part) → IsValid m → IsValid (on_current m (with_header_parts parts m))
header_update_valid m parts valid = on_current_valid m (with_header_parts parts m) valid (λ current e. header_parts_valid m parts current valid)

pub header_update_goes_on : (m : Mailbox) (parts : List Part) → GoesOn m (on_current m (with_header_parts parts m))
header_update_goes_on m parts =
    on_current_goes_on m (with_header_parts parts m) (λ current. goes_on_same m (with_header_parts parts m current) (omega arith) refl refl refl)

current_wide : (es : List Extension) (o : Option Current) (current : Current) → o ≡ Some current → IsCurrent es o → IsSomeAnd (slice_get es current.extension) (λ e. current.size ≤ e.record_size)
current_wide es None current e is = absurd cc
current_wide es (Some c) current e is = let same : c ≡ current = cc in subst (λ x. IsSomeAnd (slice_get es x.extension) (λ e. x.size ≤ e.record_size)) same is

pub record_update_valid : (m : Mailbox) (bytes : List ℕ) → IsValid m → IsValid (on_current m (with_updates bytes m))
record_update_valid m bytes valid =
    on_current_valid m (with_updates bytes m) valid
    (λ current e. updates_by m bytes current (record { valid = valid; wide = current_wide m.extensions m.current current e valid.current }) (nat_eq (length bytes % update_size current.size) 0))

pub record_update_goes_on : (m : Mailbox) (bytes : List ℕ) → GoesOn m (on_current m (with_updates bytes m))
record_update_goes_on m bytes =
    on_current_goes_on m (with_updates bytes m) (λ current. updates_go_on_by m bytes current (nat_eq (length bytes % update_size current.size) 0))
