-- A folder is new where none of its files is a mailbox's.
use Rattle.std.proofs.Common.{◌≡◌, ℕ, Bool, true, false, Option, Some, None, List, refl, sym, ◌∙◌, ap}
use Rattle.std.specs.Prelude.{Any, Contains, IsSome, MatchBool}
use Rattle.std.specs.List.{list_any}
use Rattle.std.proofs.lemmas.Bool.{false≢true, true≢false}
use Rattle.std.proofs.lemmas.List.Folds.{Any-from_list_any, list_any_at}
use Rattle.dv_shelf.specs.Folders.{Folder, IsNew, Lists, is_of_mailbox}
use Rattle.dv_shelf.specs.declared.shelf.Name.{Name}
use Rattle.dv_shelf.specs.declared.shelf.Name.TheVariants as name

none_or : (file : Option (List ℕ)) → (IsSome file → ⊥) → file ≡ None
none_or None lacks = refl
none_or (Some text) lacks = absurd (lacks refl)

lacks : (file : Option (List ℕ)) → file ≡ None → IsSome file → ⊥
lacks None is some = absurd cc
lacks (Some text) is some = absurd cc

module _ (folder : Folder) (names : List Name) (lists : Lists folder names) where
  absent : list_any is_of_mailbox names ≡ false → (n : Name) → is_of_mailbox n ≡ true → folder n ≡ None
  absent none n mailbox = none_or (folder n) (λ some. among ((lists.each n).0 some))
    where
      among : Contains names n → ⊥
      among has =
          let any : list_any is_of_mailbox names ≡ true = list_any_at is_of_mailbox names has.0 n has.1 (ap is_of_mailbox has.2 ∙ mailbox) in
          absurd (true≢false (sym any ∙ none))

  none_new : list_any is_of_mailbox names ≡ false → IsNew folder
  none_new none = record { index = absent none name.Index refl; log = absent none name.Log refl; log2 = absent none name.Log2 refl; mail = λ n. absent none (name.Mail n) refl }

  some_old : (n : Name) → is_of_mailbox n ≡ true → IsSome (folder n) → IsNew folder → ⊥
  some_old name.Index is some new = lacks (folder name.Index) new.index some
  some_old name.Log is some new = lacks (folder name.Log) new.log some
  some_old name.Log2 is some new = lacks (folder name.Log2) new.log2 some
  some_old name.Cache is some new = absurd (false≢true is)
  some_old (name.Mail n) is some new = lacks (folder (name.Mail n)) (new.mail n) some

  any_old : list_any is_of_mailbox names ≡ true → IsNew folder → ⊥
  any_old any new = of_one (Any-from_list_any is_of_mailbox names any)
    where
      of_one : Any (λ (n : Name). is_of_mailbox n ≡ true) names → ⊥
      of_one (k, n, lt, at, mailbox) =
          let has : Contains names n = (k, lt, at) in
          some_old n mailbox ((lists.each n).1 has) new

  pub new_or_not : (b : Bool) → b ≡ list_any is_of_mailbox names → MatchBool b (IsNew folder → ⊥) (IsNew folder)
  new_or_not true is = any_old (sym is)
  new_or_not false is = none_new (sym is)
