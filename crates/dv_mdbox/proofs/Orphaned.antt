-- The message files that the map doesn't name are removed.
use Rattle.std.proofs.Common.{◌≡◌, inl, inr, ⊎_elim, ℕ, zero, suc, ◌+◌, ◌<◌, ◌≤◌, Bool, true, false, cond, Contains, List, [], ◌∷◌, ◌++◌, length, take, get_or, Option, Some, None, Ok, refl, sym, ◌∙◌, ap, subst, arith, eq-eqb}
use Rattle.std.specs.Prelude.{◌||◌, IsSome}
use Rattle.std.proofs.lemmas.List.{take_all, take_more}
use Rattle.std.proofs.lemmas.List.Elements.{All-nil, All-push, Contains-append_left, Contains-push, Contains-push_cases}
use Rattle.dv_model.specs.declared.types.Mailbox.{Mailbox}
use Rattle.dv_shelf.specs.declared.shelf.Name.{Name}
use Rattle.dv_shelf.specs.declared.shelf.Name.TheVariants as name
use Rattle.dv_shelf.specs.Folders.{Folder, Lists, has_name, same_name}
use Rattle.dv_filing.specs.Clearing.{Needs}
use Rattle.dv_files.specs.Writing.{IsSwept, mail_names}
use Rattle.dv_maps.specs.Maps.{row_place}
use Rattle.dv_maps.specs.Purges.{all_mapped, mapped}
use Rattle.dv_mdbox.specs.Gathering.{AreOrphans}
use Rattle.dv_mdbox.specs.Purging.{AllNamed, IsNamed}
use Rattle.dv_files.proofs.Removing.{sweep_stays}
use Rattle.dv_filing.proofs.Cleared.{sweeping}
use Rattle.dv_mdbox.specs.Tails.{mail_number}
use Rattle.dv_mdbox.proofs.Rewritten.{mapped_at, mapped_count}

-- ---- a listing, name by name

module _ (m : Mailbox) (names : List Name) (n : Name) (files : List ℕ) (was : AreOrphans m names files) where
  -- no message file
  pub other_name : mail_number n ≡ None → AreOrphans m (names ++ n ∷ []) files
  other_name none = record {
    none = was.none;
    others = λ file has. ⊎_elim (was.others file) (λ (e : n ≡ name.Mail file). absurd (let both : None ≡ Some file = sym none ∙ ap mail_number e in cc)) (Contains-push_cases names n (name.Mail file) has);
  }

  module _ (k : ℕ) (is : mail_number n ≡ Some k) where
    one : (file : ℕ) → n ≡ name.Mail file → k ≡ file
    one file e = found k file (sym is ∙ ap mail_number e)
      where
        found : (a b : ℕ) → Some a ≡ Some b → a ≡ b
        found a b e = cc

    -- a row names it
    pub named_name : IsNamed m k → AreOrphans m (names ++ n ∷ []) files
    named_name named = record {
      none = was.none;
      others = λ file has. ⊎_elim (was.others file) (λ (e : n ≡ name.Mail file). inl (subst (IsNamed m) (one file e) named)) (Contains-push_cases names n (name.Mail file) has);
    }

    -- or none does
    pub orphan_name : (IsNamed m k → ⊥) → AreOrphans m (names ++ n ∷ []) (files ++ k ∷ [])
    orphan_name away = record {
      none = All-push (λ file. IsNamed m file → ⊥) files k was.none away;
      others = λ file has.
          ⊎_elim (λ old. ⊎_elim inl (λ there. inr (Contains-append_left files (k ∷ []) file there)) (was.others file old))
          (λ (e : n ≡ name.Mail file). inr (subst (Contains (files ++ k ∷ [])) (one file e) (Contains-push files k))) (Contains-push_cases names n (name.Mail file) has);
    }

-- the same of the names up to a place
module _ (m : Mailbox) (names : List Name) (i : ℕ) (d : Name) (files : List ℕ) (less : i < length names) (was : AreOrphans m (take i names) files) where
  pub other_step : None ≡ mail_number (get_or names i d) → AreOrphans m (take (i + 1) names) files
  other_step is = subst (λ (l : List Name). AreOrphans m l files) (sym (take_more names i d less)) (other_name m (take i names) (get_or names i d) files was (sym is))

  pub named_step : (k : ℕ) → Some k ≡ mail_number (get_or names i d) → IsNamed m k → AreOrphans m (take (i + 1) names) files
  named_step k is named = subst (λ (l : List Name). AreOrphans m l files) (sym (take_more names i d less)) (named_name m (take i names) (get_or names i d) files was k (sym is) named)

  pub orphan_step : (k : ℕ) → Some k ≡ mail_number (get_or names i d) → (IsNamed m k → ⊥) → AreOrphans m (take (i + 1) names) (files ++ k ∷ [])
  orphan_step k is away = subst (λ (l : List Name). AreOrphans m l (files ++ k ∷ [])) (sym (take_more names i d less)) (orphan_name m (take i names) (get_or names i d) files was k (sym is) away)

pub no_names : (m : Mailbox) → AreOrphans m [] []
no_names m = record { none = All-nil (λ file. IsNamed m file → ⊥); others = λ file has. absurd (let less = has.1 in omega (arith, less)) }

pub all_names : (m : Mailbox) (names : List Name) (i : ℕ) (files : List ℕ) → length names ≤ i → AreOrphans m (take i names) files → AreOrphans m names files
all_names m names i files through is = subst (λ (l : List Name). AreOrphans m l files) (take_all i names through) is

-- ---- their removal

-- no row with references needs them
pub orphans_spared : (m : Mailbox) (names : List Name) (files : List ℕ) → AreOrphans m names files → Needs m files → ⊥
orphans_spared m names files is (row, (k, inside, here), some, (j, less, named)) =
    let count = mapped_count m in
    let file : ℕ = (row_place m row).file in
    let at : get_or (all_mapped m) k (mapped m row) ≡ mapped m row = mapped_at m k (mapped m row) row inside ∙ ap (mapped m) here in
    is.none j file less (mapped m row, (k, omega (arith, count, inside), at), sym named)

mail_same : (a b : ℕ) → a ≡ b → same_name (name.Mail a) (name.Mail b) ≡ true
mail_same a b is = eq-eqb (4 + a) (4 + b) (ap (λ (n : ℕ). 4 + n) is)

pub has_mail : (files : List ℕ) (n : ℕ) (k : ℕ) → k < length files → get_or files k n ≡ n → has_name (mail_names files) (name.Mail n) ≡ true
has_mail [] n k less is = absurd (omega (arith, less))
has_mail (f ∷ files) n zero less is = ap (λ (b : Bool). b || has_name (mail_names files) (name.Mail n)) (mail_same f n is)
has_mail (f ∷ files) n (suc k) less is = by_test (same_name (name.Mail f) (name.Mail n)) (has_mail files n k (omega (arith, less)) is)
  where
    by_test : (b : Bool) → has_name (mail_names files) (name.Mail n) ≡ true → (b || has_name (mail_names files) (name.Mail n)) ≡ true
    by_test true has = refl
    by_test false has = has

pub none_unnamed : (m : Mailbox) (names : List Name) (files : List ℕ) (old new : Folder) → Lists old names → AreOrphans m names files → IsSwept files old new → AllNamed new m
none_unnamed m names files old new lists is swept n there = by_name (has_name (mail_names files) (name.Mail n)) refl (subst (λ (o : Option (List ℕ)). IsSome o) (ap (λ (f : Folder). f (name.Mail n)) swept) there)
  where
    by_name : (b : Bool) → has_name (mail_names files) (name.Mail n) ≡ b → IsSome (cond b None (old (name.Mail n))) → IsNamed m n
    by_name true has some = absurd cc
    by_name false lacks some =
        ⊎_elim (λ named. named) (λ gone. absurd (let both : true ≡ false = sym (has_mail files n gone.0 gone.1 gone.2) ∙ lacks in cc)) (is.others n ((lists.each (name.Mail n)).0 some))

-- named files stay
pub named_kept : (m : Mailbox) (names : List Name) (files : List ℕ) (old new : Folder) → AreOrphans m names files → IsSwept files old new → (file : ℕ) → IsNamed m file → new (name.Mail file) ≡ old (name.Mail file)
named_kept m names files old new is swept file named =
    sweep_stays file files old new (λ has. subst (λ (n : ℕ). IsNamed m n → ⊥) has.2 (is.none has.0 file has.1) named) (sweeping {T = Unit {0}} {E = Unit {0}} files (Ok tt) old new swept)
