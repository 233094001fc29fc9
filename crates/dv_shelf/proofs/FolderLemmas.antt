-- Names that are one, and folders in which one file changes.
use Rattle.std.proofs.Common.{◌≡◌, ◌≢◌, ℕ, Bool, true, false, cond, List, Option, refl, sym, ◌∙◌, ap, arith}
use Rattle.std.proofs.Math.Path.{fun_ext}
use Rattle.std.proofs.lemmas.Bool.{eqb-true, eq-eqb}
use Rattle.dv_shelf.specs.declared.shelf.Name.{Name}
use Rattle.dv_shelf.specs.declared.shelf.Name.TheVariants as name
use Rattle.dv_shelf.specs.Folders.{Folder, with_file, same_name, name_number, ChangesOnly}

-- two names with one number are one
one_name : (a b : Name) → name_number a ≡ name_number b → a ≡ b
one_name name.Index name.Index is = refl
one_name name.Log name.Log is = refl
one_name name.Log2 name.Log2 is = refl
one_name name.Cache name.Cache is = refl
one_name (name.Mail m) (name.Mail n) is = ap (λ (k : ℕ). name.Mail k) (omega arith)
one_name a b is = absurd (omega arith)

pub same_is : (a b : Name) → same_name a b ≡ true → a ≡ b
same_is a b is = one_name a b (eqb-true _ _ is)

pub is_same : (a b : Name) → a ≡ b → same_name a b ≡ true
is_same a b is = eq-eqb (name_number a) (name_number b) (ap name_number is)

pub with_here : (folder : Folder) (name : Name) (file : Option (List ℕ))
    → with_file folder name file name ≡ file
with_here folder name file = ap (λ (b : Bool). cond b file (folder name)) (is_same name name refl)

pub with_else : (folder : Folder) (name : Name) (file : Option (List ℕ)) (n : Name)
    → n ≢ name → with_file folder name file n ≡ folder n
with_else folder name file n other = by_name (same_name name n) refl
  where
    by_name : (b : Bool) → same_name name n ≡ b → cond b file (folder n) ≡ folder n
    by_name true same = absurd (other (sym (same_is name n same)))
    by_name false away = refl

pub with_same : (folder : Folder) (name : Name) → with_file folder name (folder name) ≡ folder
with_same folder name = fun_ext (λ n. by_name n (same_name name n) refl)
  where
    by_name : (n : Name) (b : Bool) → same_name name n ≡ b
        → cond b (folder name) (folder n) ≡ folder n
    by_name n true same = ap folder (same_is name n same)
    by_name n false other = refl

-- a folder that differs from another at one name only, where it has that file
pub with_file_is : (old folder : Folder) (n : Name) (file : Option (List ℕ)) → folder n ≡ file
    → ((k : Name) → k ≢ n → folder k ≡ old k) → folder ≡ with_file old n file
with_file_is old folder n file here others = fun_ext (λ k. by_name k (same_name n k) refl)
  where
    by_name : (k : Name) (b : Bool) → same_name n k ≡ b → folder k ≡ cond b file (old k)
    by_name k true same = ap folder (sym (same_is n k same)) ∙ here
    by_name k false away =
        others k (λ e.
        let same = is_same n k (sym e) in
        absurd cc)

-- how the file of a name may change
abbrev pub Step : Type 1
Step = Option (List ℕ) → Option (List ℕ) → Type 0

-- one file is put there
pub file_changes : (folder : Folder) (name : Name) (step : Step) (file : Option (List ℕ))
    → step (folder name) file → ChangesOnly name step folder (with_file folder name file)
file_changes folder name step file here = record {
  there = rw (with_here folder name file) here;
  others = with_else folder name file;
}

-- one file was put in the place of another
pub with_changes : (folder : Folder) (name : Name) (step : Step) (old : Option (List ℕ))
    → step old (folder name) → ChangesOnly name step (with_file folder name old) folder
with_changes folder name step old here = record {
  there = rw (with_here folder name old) here;
  others = λ n other. sym (with_else folder name old n other);
}

pub nothing_changes : (folder : Folder) (name : Name) (step : Step)
    → step (folder name) (folder name) → ChangesOnly name step folder folder
nothing_changes folder name step here = record { there = here; others = λ n other. refl }
