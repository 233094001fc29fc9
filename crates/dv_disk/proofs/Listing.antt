-- The names among the entries of a folder.
use Rattle.std.proofs.Common.{◌≡◌, ◌≢◌, ℕ, ◌+◌, ◌<◌, List, [], ◌∷◌, ◌++◌, length, take, get_or, Contains, sym, ◌∙◌, subst, arith, ⊎_elim}
use Rattle.std.specs.Prelude.{AllPairs}
use Rattle.std.proofs.lemmas.List.{append-nil, take_more, places}
use Rattle.std.proofs.lemmas.List.Elements.{Contains-append_left, Contains-get_or, Contains-push, Contains-push_cases}
use Rattle.std.proofs.lemmas.List.Quantifiers.{all_pairs_push}
use Rattle.dv_shelf.specs.declared.shelf.Name.{Name}
use Rattle.dv_shelf.specs.Folders.{Lists}
use Rattle.dv_system.specs.declared.system.Entry.{Entry}
use Rattle.dv_system.specs.declared.system.Entry.TheVariants as entry
use Rattle.dv_system.specs.Disks.{Disk, ListsEntries, files_of}
use Rattle.dv_disk.specs.Names.{AreNamesOf, names_in}

before : (seen : List Entry) (e : Entry) (i : ℕ) (d : Entry) → i < length seen → get_or (seen ++ e ∷ []) i d ≡ get_or seen i d
before seen e i d lt = grind (arith, places)

last : (seen : List Entry) (e d : Entry) → get_or (seen ++ e ∷ []) (length seen) d ≡ e
last seen e d = grind (arith, places)

longer : (seen : List Entry) (e : Entry) → length (seen ++ e ∷ []) ≡ length seen + 1
longer seen e = grind (arith, places)

fewer : (seen : List Entry) (e : Entry) → AllPairs (λ a b. a ≢ b) (seen ++ e ∷ []) → AllPairs (λ a b. a ≢ b) seen
fewer seen e apart i j d lt within =
    let far = apart i j d lt (omega (arith, within, longer seen e)) in
    λ same. far (before seen e i d (omega (arith, lt, within)) ∙ same ∙ sym (before seen e j d within))

apart_last : (seen : List Entry) (e : Entry) → AllPairs (λ a b. a ≢ b) (seen ++ e ∷ []) → Contains seen e → ⊥
apart_last seen e apart has =
    let far = apart has.0 (length seen) e has.1 (omega (arith, longer seen e)) in
    far (before seen e has.0 e has.1 ∙ has.2 ∙ sym (last seen e e))

one_file : (a b : Name) → entry.File a ≡ entry.File b → a ≡ b
one_file a b same = cc

names_push : (seen : List Entry) (e : Entry) (names : List Name) → AreNamesOf seen names → AreNamesOf (seen ++ e ∷ []) (names ++ names_in e)
names_push seen (entry.File n) names so_far = record {
  there = λ m has.
      ⊎_elim (λ old. Contains-append_left seen (entry.File n ∷ []) (entry.File m) (so_far.there m old))
      (λ same. subst (λ (k : Name). Contains (seen ++ entry.File n ∷ []) (entry.File k)) same (Contains-push seen (entry.File n))) (Contains-push_cases names n m has);
  all = λ m has.
      ⊎_elim (λ old. Contains-append_left names (n ∷ []) m (so_far.all m old))
      (λ same. subst (λ (k : Name). Contains (names ++ n ∷ []) k) (one_file n m same) (Contains-push names n)) (Contains-push_cases seen (entry.File n) (entry.File m) has);
  once = λ apart.
      all_pairs_push (λ a b. a ≢ b) names n (so_far.once (fewer seen (entry.File n) apart))
      (λ k d lt same. apart_last seen (entry.File n) apart (so_far.there n (subst (Contains names) same (Contains-get_or names k d lt))));
}
names_push seen entry.Temporary names so_far = subst (AreNamesOf (seen ++ entry.Temporary ∷ [])) (sym (append-nil names)) (record {
  there = λ m has. Contains-append_left seen (entry.Temporary ∷ []) (entry.File m) (so_far.there m has);
  all = λ m has. ⊎_elim (so_far.all m) (λ same. absurd (cc)) (Contains-push_cases seen entry.Temporary (entry.File m) has);
  once = λ apart. so_far.once (fewer seen entry.Temporary apart);
})

pub names_more : (entries : List Entry) (i : ℕ) (d : Entry) (names new : List Name) → i < length entries → AreNamesOf (take i entries) names
    → new ≡ names ++ names_in (get_or entries i d) → AreNamesOf (take (i + 1) entries) new
names_more entries i d names new lt so_far is =
    let P : List Entry → Type 0 = λ l. AreNamesOf l new in
    subst P (sym (take_more entries i d lt)) (subst (AreNamesOf (take i entries ++ get_or entries i d ∷ [])) (sym is) (names_push (take i entries) (get_or entries i d) names so_far))

-- the names of the files that are there
pub lists_names : (disk : Disk) (entries : List Entry) (names : List Name) → ListsEntries disk entries → AreNamesOf entries names → Lists (files_of disk) names
lists_names disk entries names lists are = record {
  each = λ n. (λ some. are.all n ((lists.each (entry.File n)).0 some), λ has. (lists.each (entry.File n)).1 (are.there n has));
  once = are.once lists.once;
}
