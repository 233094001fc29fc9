-- The entries at which files stand.
use Rattle.std.proofs.Common.{◌≡◌, ◌≢◌, ◌⊎◌, inl, inr, ⊎_elim, ℕ, ◌+◌, ◌<◌, ◌≤◌, suc, zero, Bool, true, false, cond, List, [], ◌∷◌, ◌++◌, length, take, map, fold, get_or, is_some, IsSome, Contains, refl, sym, ◌∙◌, ap, subst, arith}
use Rattle.std.specs.Prelude.{AllPairs}
use Rattle.std.proofs.lemmas.List.{map-append, take_more, take_all}
use Rattle.std.proofs.lemmas.List.Elements.{Contains-append_left, Contains-append_right, Contains-push, Contains-push_cases}
use Rattle.std.proofs.lemmas.List.Quantifiers.{all_pairs_push}
use Rattle.dv_shelf.specs.declared.shelf.Name.{Name}
use Rattle.dv_shelf.specs.Folders.{same_name}
use Rattle.dv_shelf.proofs.FolderLemmas.{same_is}
use Rattle.dv_system.specs.declared.system.Entry.{Entry}
use Rattle.dv_system.specs.declared.system.Entry.TheVariants as entry
use Rattle.dv_system.specs.Entries.{At, read_at}
use Rattle.dv_system.specs.Disks.{Disk, at_entry, ListsEntries}
use Rattle.dv_memory_system.specs.declared.step.Deed.{Deed}
use Rattle.dv_memory_system.specs.declared.step.Deed.TheVariants as deed
use Rattle.dv_memory_system.specs.declared.step.Step.{Step}
use Rattle.dv_memory_system.specs.Steps.{deed_then, disk_after, new_disk, step_then}
use Rattle.dv_memory_system.specs.Places.{name_of, same_entry}
use Rattle.dv_memory_system.specs.Listing.{entry_then, has_entry}
use Rattle.dv_memory_system.proofs.Standing.{entries_same, same_entries}

-- the entry that a call names
abbrev pub entry_of : Step → Entry
entry_of step = entry.File (name_of step.deed)

-- the entries at which files stand, among these
pub record ListsAmong (disk : Disk) (among entries : List Entry) : Type 0 where
  pub there : (e : Entry) → Contains entries e → IsSome (read_at (at_entry disk e))
  pub all : (e : Entry) → IsSome (read_at (at_entry disk e)) → Contains among e → Contains entries e
  pub once : AllPairs (λ a b. a ≢ b) entries

has-Contains : (entries : List Entry) (e : Entry) → has_entry entries e ≡ true → Contains entries e
has-Contains [] e is = absurd (cc)
has-Contains (x ∷ entries) e is = found (same_entry x e) refl (has-Contains entries e)
  where
    found : (b : Bool) → same_entry x e ≡ b → (has_entry entries e ≡ true → Contains entries e) → Contains (x ∷ entries) e
    found true same others = (0, omega arith, entries_same x e same)
    found false same others = Contains-append_right (x ∷ []) entries e (others (rw same at is))

has_none : (entries : List Entry) (e : Entry) → has_entry entries e ≡ false → (k : ℕ) (d : Entry) → k < length entries → get_or entries k d ≢ e
has_none [] e is k d lt same = omega arith
has_none (x ∷ entries) e is zero d lt same = let one = same_entries x e same in absurd (cc (rw one at is))
has_none (x ∷ entries) e is (suc k) d lt same = rest (same_entry x e) refl (λ none. has_none entries e none k d (omega arith) same)
  where
    rest : (b : Bool) → same_entry x e ≡ b → (has_entry entries e ≡ false → ⊥) → ⊥
    rest true one others = absurd (cc (rw one at is))
    rest false one others = others (rw one at is)

pub no_entries : (disk : Disk) → ListsAmong disk [] []
no_entries disk = record {
  there = λ e has. absurd (omega (arith, has.1));
  all = λ e some has. absurd (omega (arith, has.1));
  once = λ i j d less below. absurd (omega arith);
}

pub entries_push : (disk : Disk) (among : List Entry) (e : Entry) (entries : List Entry) → ListsAmong disk among entries
    → ListsAmong disk (among ++ e ∷ []) (entry_then disk entries e)
entries_push disk among e entries so_far = by_cases (is_some (read_at (at_entry disk e))) refl (has_entry entries e) refl
  where
    by_cases : (some : Bool) → is_some (read_at (at_entry disk e)) ≡ some → (listed : Bool) → has_entry entries e ≡ listed
        → ListsAmong disk (among ++ e ∷ []) (entry_then disk entries e)
    by_cases true some false listed = rw (some, listed) (record {
      there = λ x has. ⊎_elim (so_far.there x) (λ same. subst (λ (y : Entry). IsSome (read_at (at_entry disk y))) same some) (Contains-push_cases entries e x has);
      all = λ x is has. ⊎_elim (λ old. Contains-append_left entries (e ∷ []) x (so_far.all x is old)) (λ same. subst (λ (y : Entry). Contains (entries ++ e ∷ []) y) same (Contains-push entries e)) (Contains-push_cases among e x has);
      once = all_pairs_push (λ a b. a ≢ b) entries e so_far.once (has_none entries e listed);
    })
    by_cases true some true listed = rw (some, listed) (record {
      there = so_far.there;
      all = λ x is has. ⊎_elim (so_far.all x is) (λ same. subst (λ (y : Entry). Contains entries y) same (has-Contains entries e listed)) (Contains-push_cases among e x has);
      once = so_far.once;
    })
    by_cases false some listed is_listed = rw some (record {
      there = so_far.there;
      all = λ x is has. ⊎_elim (so_far.all x is) (λ same. let is' : IsSome (read_at (at_entry disk e)) = subst (λ (y : Entry). IsSome (read_at (at_entry disk y))) (sym same) is in absurd (cc)) (Contains-push_cases among e x has);
      once = so_far.once;
    })

-- a loop over the calls
pub entries_more : (disk : Disk) (steps : List Step) (i : ℕ) (step : Step) (before after : List Entry) → i < length steps → step ≡ get_or steps i step
    → ListsAmong disk (map entry_of (take i steps)) before → after ≡ entry_then disk before (entry_of step)
    → ListsAmong disk (map entry_of (take (i + 1) steps)) after
entries_more disk steps i step before after lt is so_far now =
    let seen : map entry_of (take (i + 1) steps) ≡ map entry_of (take i steps) ++ entry_of step ∷ [] =
    ap (map entry_of) (take_more steps i step lt ∙ ap (λ (s : Step). take i steps ++ s ∷ []) (sym is)) ∙ map-append entry_of (take i steps) (step ∷ []) in
    subst (λ (l : List Entry). ListsAmong disk (map entry_of (take (i + 1) steps)) l) (sym now)
    (subst (λ (l : List Entry). ListsAmong disk l (entry_then disk before (entry_of step))) (sym seen) (entries_push disk (map entry_of (take i steps)) (entry_of step) before so_far))

-- a file that is there was there before a call, or the call names it
abbrev IsNamed : Name → Disk → Deed → Type 0
IsNamed n disk d = IsSome (read_at (disk.named n)) ⊎ (name_of d ≡ n)

by_name : (disk : Disk) (n other : Name) (d : Deed) (at : At) → name_of d ≡ other → IsSome (read_at (cond (same_name other n) at (disk.named n))) → IsNamed n disk d
by_name disk n other d at is some = by_same (same_name other n) refl some
  where
    by_same : (b : Bool) → same_name other n ≡ b → IsSome (read_at (cond b at (disk.named n))) → IsNamed n disk d
    by_same true same there = inr (is ∙ same_is other n same)
    by_same false away there = inl there

pub named_first : (disk : Disk) (bytes : List ℕ) (d : Deed) (n : Name) → IsSome (read_at ((deed_then disk bytes d).named n)) → IsNamed n disk d
named_first disk bytes deed.FoundFolder n some = inl some
named_first disk bytes deed.MakeFolder n some = inl some
named_first disk bytes (deed.SyncParent true) n some = inl some
named_first disk bytes (deed.SyncParent false) n some = inl some
named_first disk bytes (deed.SyncFolder true) n some = inl some
named_first disk bytes (deed.SyncFolder false) n some = inl some
named_first disk bytes (deed.Rename name true) n some = by_name disk n name (deed.Rename name true) _ refl some
named_first disk bytes (deed.Rename name false) n some = by_name disk n name (deed.Rename name false) _ refl some
named_first disk bytes (deed.File (entry.File name) change) n some = by_name disk n name (deed.File (entry.File name) change) _ refl some
named_first disk bytes (deed.File entry.Temporary change) n some = inl some

named : (steps : List Step) (disk : Disk) (n : Name) → IsSome (read_at ((fold step_then disk steps).named n))
    → IsSome (read_at (disk.named n)) ⊎ Contains (map entry_of steps) (entry.File n)
named [] disk n some = inl some
named (step ∷ steps) disk n some =
    ⊎_elim
    (λ there. ⊎_elim inl (λ is. inr (0, omega arith, ap entry.File is)) (named_first disk step.bytes step.deed n there))
    (λ has. inr (Contains-append_right (entry_of step ∷ []) (map entry_of steps) (entry.File n) has))
    (named steps (step_then disk step) n some)

among_all : (steps : List Step) (e : Entry) → IsSome (read_at (at_entry (disk_after steps) e)) → Contains (map entry_of steps ++ entry.Temporary ∷ []) e
among_all steps (entry.File n) some =
    ⊎_elim (λ there. absurd (cc)) (λ has. Contains-append_left (map entry_of steps) (entry.Temporary ∷ []) (entry.File n) has) (named steps new_disk n some)
among_all steps entry.Temporary some = Contains-push (map entry_of steps) entry.Temporary

-- all of them, and the temporary file
pub all_entries : (steps : List Step) (before after : List Entry) → ListsAmong (disk_after steps) (map entry_of steps) before
    → after ≡ entry_then (disk_after steps) before entry.Temporary → ListsEntries (disk_after steps) after
all_entries steps before after so_far now =
    let all = subst (λ (l : List Entry). ListsAmong (disk_after steps) (map entry_of steps ++ entry.Temporary ∷ []) l) (sym now)
    (entries_push (disk_after steps) (map entry_of steps) entry.Temporary before so_far) in
    record {
      each = λ e. (λ some. all.all e some (among_all steps e some), all.there e);
      once = all.once;
    }

-- a loop over the calls begins, and ends
pub none_yet : (disk : Disk) (entries : List Entry) → entries ≡ [] → ListsAmong disk [] entries
none_yet disk entries none = subst (ListsAmong disk []) (sym none) (no_entries disk)

pub all_seen : (steps seen : List Step) (i : ℕ) (before after : List Entry) → seen ≡ steps → length seen ≤ i → ListsAmong (disk_after steps) (map entry_of (take i seen)) before
    → after ≡ entry_then (disk_after steps) before entry.Temporary → ListsEntries (disk_after steps) after
all_seen steps seen i before after is le so_far now =
    all_entries steps before after (subst (λ (l : List Step). ListsAmong (disk_after steps) (map entry_of l) before) (take_all i seen le ∙ is) so_far) now
