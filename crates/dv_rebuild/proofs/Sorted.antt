-- The message files of a folder.
use Rattle.std.proofs.Common.{◌≡◌, ◌↔◌, ⊎_elim, ℕ, zero, suc, ◌+◌, ◌<◌, true, false, Bool, List, [], ◌∷◌, ◌++◌, length, get_or, refl, sym, ◌∙◌, ap, subst, arith, is_some}
use Rattle.std.specs.Prelude.{Contains}
use Rattle.std.specs.List.{list_any}
use Rattle.std.specs.List.Sorted.{IsStrictlyIncreasing}
use Rattle.std.specs.Bool.{one_answer}
use Rattle.std.proofs.lemmas.List.Folds.{list_any_at}
use Rattle.std.proofs.lemmas.List.Elements.{Contains-append_cases, Contains-append_right}
use Rattle.dv_shelf.specs.declared.shelf.Name.{Name}
use Rattle.dv_shelf.specs.declared.shelf.Name.TheVariants as name
use Rattle.dv_shelf.specs.Folders.{Folder, Lists}
use Rattle.dv_openings.specs.Rebuilds.{AreMailNumbers}
use Rattle.dv_rebuild.specs.Mails.{AreNumbersOf, is_cache, number_in, numbers_in}

-- ---- their numbers

named : (names : List Name) (n : ℕ) → Contains names (name.Mail n) → Contains (numbers_in names) n
named [] n there = absurd (omega (arith, there.1))
named (x ∷ names) n (zero, less, is) = subst (λ (y : Name). Contains (number_in y ++ numbers_in names) n) (sym is) (0, omega arith, refl)
named (x ∷ names) n (suc k, less, is) = Contains-append_right (number_in x) (numbers_in names) n (named names n (k, omega (arith, less), is))

numbered_here : (x : Name) (n : ℕ) → Contains (number_in x) n → x ≡ name.Mail n
numbered_here name.Index n there = absurd (omega (arith, there.1))
numbered_here name.Log n there = absurd (omega (arith, there.1))
numbered_here name.Log2 n there = absurd (omega (arith, there.1))
numbered_here name.Cache n there = absurd (omega (arith, there.1))
numbered_here (name.Mail j) n (zero, less, is) = ap name.Mail is
numbered_here (name.Mail j) n (suc k, less, is) = absurd (omega (arith, less))

numbered : (names : List Name) (n : ℕ) → Contains (numbers_in names) n → Contains names (name.Mail n)
numbered [] n there = absurd (omega (arith, there.1))
numbered (x ∷ names) n there =
    ⊎_elim (λ here. (0, omega arith, numbered_here x n here)) (λ later. let more = numbered names n later in (suc more.0, omega (arith, more.1), more.2))
    (Contains-append_cases (number_in x) (numbers_in names) n there)

pub sorted_numbers : (names : List Name) (before into sorted numbers : List ℕ) → before ≡ numbers_in names → into ≡ before → numbers ≡ sorted → IsStrictlyIncreasing sorted → ((n : ℕ) → Contains sorted n ↔ Contains into n) → AreNumbersOf names numbers
sorted_numbers names before into sorted numbers is put back rise same =
    let all : into ≡ numbers_in names = put ∙ is in
    record {
      rise = subst IsStrictlyIncreasing (sym back) rise;
      each = λ n. (
        λ there. subst (λ (l : List ℕ). Contains l n) (sym back) ((same n).1 (subst (λ (l : List ℕ). Contains l n) (sym all) (named names n there))),
        λ there. numbered names n (subst (λ (l : List ℕ). Contains l n) all ((same n).0 (subst (λ (l : List ℕ). Contains l n) back there))),
      );
    }

pub mail_numbers : (folder : Folder) (names : List Name) (numbers : List ℕ) → Lists folder names → AreNumbersOf names numbers → AreMailNumbers folder numbers
mail_numbers folder names numbers lists are = record {
  rise = are.rise;
  each = λ n. (λ there. (are.each n).0 ((lists.each (name.Mail n)).0 there), λ there. (lists.each (name.Mail n)).1 ((are.each n).1 there));
}

-- ---- the cache file

behind : (x : Name) (names : List Name) → Contains names name.Cache → Contains (x ∷ names) name.Cache
behind x names (k, less, is) = (suc k, omega (arith, less), is)

cache_there : (names : List Name) → list_any is_cache names ≡ true → Contains names name.Cache
cache_there [] is = absurd cc
cache_there (name.Cache ∷ names) is = (0, omega arith, refl)
cache_there (name.Index ∷ names) is = behind name.Index names (cache_there names is)
cache_there (name.Log ∷ names) is = behind name.Log names (cache_there names is)
cache_there (name.Log2 ∷ names) is = behind name.Log2 names (cache_there names is)
cache_there (name.Mail n ∷ names) is = behind (name.Mail n) names (cache_there names is)

cache_found : (names : List Name) → Contains names name.Cache → list_any is_cache names ≡ true
cache_found names there = list_any_at is_cache names there.0 name.Cache there.1 (ap is_cache there.2)

pub cache_listed : (folder : Folder) (names : List Name) → Lists folder names → list_any is_cache names ≡ is_some (folder name.Cache)
cache_listed folder names lists = one_answer (list_any is_cache names) (is_some (folder name.Cache)) (cache_there names, cache_found names) (lists.each name.Cache)
