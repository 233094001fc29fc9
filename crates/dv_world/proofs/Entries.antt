-- The entries between two places of the log.
use Rattle.std.proofs.Common.{◌≡◌, ◌⊎◌, inl, inr, ℕ, zero, suc, ◌+◌, ◌≤◌, List, [], ◌∷◌, ◌++◌, length, map, take, drop, Option, Some, None, refl, sym, ◌∙◌, ap, subst, arith}
use Rattle.std.specs.Prelude.{◌↔◌, All, flat_map, option_map, slice_get}
use Rattle.std.specs.Option.{option_and_then}
use Rattle.std.proofs.lemmas.List.Elements.{All-append, All-nil}
use Rattle.std.proofs.lemmas.Option.{same_Some, slice_get-map, slice_get_within}
use Rattle.dv_model.specs.declared.types.Entry.{Entry}
use Rattle.dv_model.specs.declared.types.Mailbox.{Mailbox}
use Rattle.dv_model.specs.declared.types.Record.{Record}
use Rattle.dv_model.specs.Effects.{applied}
use Rattle.dv_model.specs.Journals.{IsEntry, IsSound, Log, at}
use Rattle.dv_model.specs.Spelling.{IsRecord}
use Rattle.dv_model.proofs.Speaking.{one_of}
use Rattle.dv_model.proofs.Transcripts.{applied_append}
use Rattle.dv_validity.proofs.Logs.{entry_leads, some_at}
use Rattle.dv_world.specs.declared.kept.Kept.{Kept}
use Rattle.dv_world.specs.declared.kept.Logged.{Logged}
use Rattle.dv_world.specs.Keeping.{AreLogged, IsKept, IsLogged, kept_log}

-- their records
abbrev pub records_of : List Logged → List Record
records_of logged = flat_map (λ l. l.entry.group.records) logged

-- those behind the first
pub tail : (log : Log) (from : ℕ) (l : Logged) (logged : List Logged) → AreLogged log from (l ∷ logged) → AreLogged log (from + 1) logged
tail log from l logged are j one there =
    subst (λ n. IsLogged log n one × (slice_get log.entries n ≡ Some one.entry)) (omega arith) (are (suc j) one there)

module _ (log : Log) (sound : IsSound log) where
  -- an entry's records have spellings
  pub records_good : (from : ℕ) (logged : List Logged) → AreLogged log from logged → All IsRecord (records_of logged)
  records_good from [] are = All-nil IsRecord
  records_good from (l ∷ logged) are =
      let entry : IsEntry l.entry = one_of IsEntry log.entries (from + 0) l.entry sound.entries (are 0 l refl).1 in
      All-append IsRecord l.entry.group.records (records_of logged) entry.records (records_good (from + 1) logged (tail log from l logged are))

  -- they are in the log
  pub within : (from : ℕ) (logged : List Logged) → AreLogged log from logged → from ≤ length log.entries → from + length logged ≤ length log.entries
  within from [] are le = omega arith
  within from (l ∷ logged) are le =
      let first = slice_get_within log.entries (from + 0) l.entry (are 0 l refl).1 in
      let rest = within (from + 1) logged (tail log from l logged are) (omega (arith, first)) in
      omega (arith, rest)

  -- they lead from one mailbox to the other
  pub goes : (from : ℕ) (logged : List Logged) (m n : Mailbox) → AreLogged log from logged → at log from ≡ Some m → at log (from + length logged) ≡ Some n → applied m (records_of logged) ≡ Some n
  goes from [] m n are was is = let same : from + 0 ≡ from = omega arith in sym was ∙ ap (at log) (sym same) ∙ is
  goes from (l ∷ logged) m n are was is =
      let here : slice_get log.entries from ≡ Some l.entry = subst (λ k. slice_get log.entries k ≡ Some l.entry) (omega arith) (are 0 l refl).1 in
      let first = slice_get_within log.entries from l.entry here in
      let mid = some_at log sound (from + 1) (omega (arith, first)) in
      let one = entry_leads log sound from m mid.0 l.entry was here mid.1 in
      let place : from + suc (length logged) ≡ from + 1 + length logged = omega arith in
      let rest = goes (from + 1) logged mid.0 n (tail log from l logged are) mid.1 (ap (at log) (sym place) ∙ is) in
      applied_append l.entry.group.records (records_of logged) m ∙ ap (option_and_then (λ k. applied k (records_of logged))) one ∙ rest

-- ---- of what is kept

get_drop : {X : Type 0} (n : ℕ) (xs : List X) (j : ℕ) → slice_get (drop n xs) j ≡ slice_get xs (n + j)
get_drop zero xs j = let e : j ≡ zero + j = omega arith in ap (slice_get xs) e
get_drop (suc n) [] j = refl
get_drop (suc n) (x ∷ xs) j = let e : suc (n + j) ≡ suc n + j = omega arith in get_drop n xs j ∙ ap (slice_get (x ∷ xs)) e

get_take : {X : Type 0} (n : ℕ) (xs : List X) (j : ℕ) (x : X) → slice_get (take n xs) j ≡ Some x → slice_get xs j ≡ Some x
get_take zero xs j x e = absurd cc
get_take (suc n) [] j x e = e
get_take (suc n) (y ∷ xs) zero x e = e
get_take (suc n) (y ∷ xs) (suc j) x e = get_take n xs j x e

pub kept_between : (k : Kept) → IsKept k → (from to : ℕ) → AreLogged (kept_log k) from (drop from (take to k.logged.items))
kept_between k kept from to j l there =
    let one : slice_get k.logged.items (from + j) ≡ Some l = get_take to k.logged.items (from + j) l (sym (get_drop from (take to k.logged.items) j) ∙ there) in
    (kept.logged (from + j) l one, slice_get-map (λ (l : Logged). l.entry) k.logged.items (from + j) ∙ ap (option_map (λ (l : Logged). l.entry)) one)

pub kept_behind : (k : Kept) → IsKept k → (from : ℕ) → AreLogged (kept_log k) from (drop from k.logged.items)
kept_behind k kept from j l there =
    let one : slice_get k.logged.items (from + j) ≡ Some l = sym (get_drop from k.logged.items j) ∙ there in
    (kept.logged (from + j) l one, slice_get-map (λ (l : Logged). l.entry) k.logged.items (from + j) ∙ ap (option_map (λ (l : Logged). l.entry)) one)

-- one is in either list, of which the other is known in another way
pub either_so : (A B C D : Type 0) → A ↔ (B ⊎ C) → C ↔ D → A ↔ (B ⊎ D)
either_so A B C D all one = (
  λ a. elim (all.0 a) [ inl b ↦ inl b | inr c ↦ inr (one.0 c) ],
  λ either. all.1 (elim either [ inl b ↦ inl b | inr d ↦ inr (one.1 d) ]),
)
