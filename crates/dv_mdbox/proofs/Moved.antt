-- The texts that a file keeps are read, or the file is passed over.
use Rattle.std.proofs.Common.{◌≡◌, ◌≢◌, inl, inr, ⊎_elim, ℕ, ◌^◌, ◌<◌, ◌≤◌, Bool, true, false, Contains, List, [], ◌∷◌, length, map, get_or, nat_eq, Option, Some, None, refl, sym, ◌∙◌, ap, subst, arith}
use Rattle.std.specs.Prelude.{◌&&◌, All, filter, nat_lt}
use Rattle.std.proofs.lemmas.Bool.{eqb-true}
use Rattle.std.proofs.lemmas.Bool.Decides.{nat_tests}
use Rattle.std.proofs.lemmas.List.{get_or_default}
use Rattle.std.proofs.lemmas.List.Elements.{All-cons, All-head, All-nil, All-tail, filter_passes}
use Rattle.dv_model.specs.declared.types.Mailbox.{Mailbox}
use Rattle.dv_model.specs.declared.types.Row.{Row}
use Rattle.dv_model.specs.Journals.{Damaged}
use Rattle.dv_shelf.specs.declared.shelf.Name.TheVariants as name
use Rattle.dv_shelf.specs.Folders.{Folder}
use Rattle.dv_shelf.specs.Sees.{SeesFolder}
use Rattle.dv_filing.specs.declared.steps.Files.TheVariants as kind
use Rattle.dv_maps.specs.declared.mapped.Mapped.{Mapped}
use Rattle.dv_maps.specs.Maps.{row_place}
use Rattle.dv_maps.specs.Purges.{StandsIn, all_mapped, is_kept, mapped, size_of}
use Rattle.dv_maps.specs.Texts.{HasText, KeepsTexts, Messages, text_at, text_in}
use Rattle.dv_maps.proofs.Rewriting.{kept_front}
use Rattle.dv_mdbox.specs.declared.gathering.FileRows.{FileRows}
use Rattle.dv_mdbox.specs.Gathering.{AreRowsOf, Gathers}
use Rattle.dv_mdbox.specs.Purging.{FitsKnown, IsFit, IsPassedOver, IsRewriteOf, KnowsFile, PassesKnown, gone_ids, kept_rows}
use Rattle.dv_mdbox.specs.States.{State}
use Rattle.dv_mdbox.proofs.Gathered.{IsInside}

-- ---- texts as they stand in a file

module _ (messages : Messages) (m : Mailbox) (folder : Folder) (file : ℕ) (bytes : List ℕ) (is : folder (name.Mail file) ≡ Some bytes) where
  held_row : (row : Row) → HasText messages m folder row → nat_eq (mapped m row).place.file file ≡ true → nat_lt 0 (mapped m row).count ≡ true → IsInside bytes (mapped m row) → StandsIn messages bytes (mapped m row)
  held_row row has here count inside =
      let there : (row_place m row).file ≡ file = eqb-true (row_place m row).file file here in
      let some : 1 ≤ (mapped m row).count = grind (arith, nat_tests) in
      record {
        inside = inside;
        held = λ message known.
            ap (λ (o : Option (List ℕ)). text_in o (row_place m row)) (sym (ap (λ (n : ℕ). folder (name.Mail n)) there ∙ is)) ∙ has some message known;
      }

  stands_one : (row : Row) (rows : List Row) → HasText messages m folder row → All (IsInside bytes) (filter (is_kept file) (map (mapped m) (row ∷ rows)))
      → (All (IsInside bytes) (filter (is_kept file) (map (mapped m) rows)) → All (StandsIn messages bytes) (filter (is_kept file) (map (mapped m) rows)))
      → (f c : Bool) → nat_eq (mapped m row).place.file file ≡ f → nat_lt 0 (mapped m row).count ≡ c → All (StandsIn messages bytes) (filter (is_kept file) (map (mapped m) (row ∷ rows)))
  stands_one row rows has inside rest true true here count =
      let front = kept_front file 0 (mapped m row) (map (mapped m) rows) true true here count in
      let all = subst (All (IsInside bytes)) front inside in
      let others = filter (is_kept file) (map (mapped m) rows) in
      subst (All (StandsIn messages bytes)) (sym front)
      (All-cons (StandsIn messages bytes) (mapped m row) others (held_row row has here count (All-head (IsInside bytes) (mapped m row) others all)) (rest (All-tail (IsInside bytes) (mapped m row) others all)))
  stands_one row rows has inside rest true false here count =
      let front = kept_front file 0 (mapped m row) (map (mapped m) rows) true false here count in
      subst (All (StandsIn messages bytes)) (sym front) (rest (subst (All (IsInside bytes)) front inside))
  stands_one row rows has inside rest false c here count =
      let front = kept_front file 0 (mapped m row) (map (mapped m) rows) false c here count in
      subst (All (StandsIn messages bytes)) (sym front) (rest (subst (All (IsInside bytes)) front inside))

  stands_rows : (rows : List Row) → All (HasText messages m folder) rows → All (IsInside bytes) (filter (is_kept file) (map (mapped m) rows)) → All (StandsIn messages bytes) (filter (is_kept file) (map (mapped m) rows))
  stands_rows [] keeps inside = All-nil (StandsIn messages bytes)
  stands_rows (row ∷ rows) keeps inside =
      stands_one row rows (All-head (HasText messages m folder) row rows keeps) inside (λ all. stands_rows rows (All-tail (HasText messages m folder) row rows keeps) all) (nat_eq (mapped m row).place.file file) (nat_lt 0 (mapped m row).count) refl refl

  pub stand_there : KeepsTexts messages m folder → All (IsInside bytes) (kept_rows m file) → All (StandsIn messages bytes) (kept_rows m file)
  stand_there keeps inside = stands_rows m.rows keeps inside

-- ---- a file is passed over

in_file : (m : Mailbox) (file : ℕ) (r : Mapped) → Contains (kept_rows m file) r → r.place.file ≡ file
in_file m file r (k, less, here) =
    let all = filter_passes (is_kept file) (all_mapped m) in
    let test : is_kept file r ≡ true = sym (ap (is_kept file) here) ∙ all k r less in
    first (nat_eq r.place.file file) (nat_lt 0 r.count) refl test
  where
    first : (a b : Bool) → nat_eq r.place.file file ≡ a → (a && b) ≡ true → r.place.file ≡ file
    first true b one both = eqb-true r.place.file file one
    first false b one both = absurd cc

pub passed_over : (m : Mailbox) (folder : Folder) (file : ℕ) → Gathers (folder (name.Mail file)) (kept_rows m file) None → IsPassedOver folder m file
passed_over m folder file =
    ⊎_elim
    (λ damaged.
    let r : Mapped = damaged.0 in
    let there = in_file m file r damaged.1 in
    inl (r, damaged.1, ap (λ (n : ℕ). text_in (folder (name.Mail n)) r.place) there ∙ damaged.2))
    (λ long. inr long)

-- ---- or it is fit

pub fit_of : (m : Mailbox) (folder : Folder) (file : ℕ) (texts : List ℕ) → Gathers (folder (name.Mail file)) (kept_rows m file) (Some texts) → IsFit folder m file
fit_of m folder file texts found = record {
  whole = λ k d less.
      let rows : List Mapped = kept_rows m file in
      let r : Mapped = get_or rows k d in
      let there = in_file m file r (k, less, get_or_default rows k r d less) in
      subst (λ (n : ℕ). text_in (folder (name.Mail n)) r.place ≢ Damaged) (sym there) (found.3 k d less);
  short = found.4;
}

-- so it is where it keeps none
pub fit_empty : (known : Option Folder) (m : Mailbox) (file : ℕ) → kept_rows m file ≡ [] → FitsKnown known m file
fit_empty None m file none = subst (λ (l : List Mapped). size_of l < 2 ^ 32) (sym none) (omega arith)
fit_empty (Some folder) m file none = record {
  whole = subst (All (λ (r : Mapped). text_at folder r.place ≢ Damaged)) (sym none) (All-nil (λ (r : Mapped). text_at folder r.place ≢ Damaged));
  short = subst (λ (l : List Mapped). size_of l < 2 ^ 32) (sym none) (omega arith);
}

-- ---- by what is known of the folder

module _ {S C : Type 0} (sees : SeesFolder S) (s : State S C) (file : ℕ) (rows : List Mapped) (kept : rows ≡ kept_rows s.chain.live.mailbox file) where
  abbrev Found : Option (List ℕ) → Type 0
  Found texts = sees.tells → Gathers (sees.files s.shelf (name.Mail file)) rows texts

  found_known : (folder : Folder) (texts : Option (List ℕ)) → Found texts → KnowsFile sees (Some folder) file s → Gathers (folder (name.Mail file)) (kept_rows s.chain.live.mailbox file) texts
  found_known folder texts found knows =
      subst (λ (rs : List Mapped). Gathers (folder (name.Mail file)) rs texts) kept (subst (λ (o : Option (List ℕ)). Gathers o rows texts) knows.1 (found knows.0))

  pub passes_known : (known : Option Folder) → Found None → KnowsFile sees known file s → PassesKnown known s.chain.live.mailbox file
  passes_known None found knows = tt
  passes_known (Some folder) found knows = passed_over s.chain.live.mailbox folder file (found_known folder None found knows)

  pub fits_known : (known : Option Folder) (texts : List ℕ) → size_of rows < 2 ^ 32 → Found (Some texts) → KnowsFile sees known file s → FitsKnown known s.chain.live.mailbox file
  fits_known None texts short found knows = subst (λ (rs : List Mapped). size_of rs < 2 ^ 32) kept short
  fits_known (Some folder) texts short found knows = fit_of s.chain.live.mailbox folder file texts (found_known folder (Some texts) found knows)

-- ---- how it is rewritten

pub nothing_kept : (m : Mailbox) (file : ℕ) (rows : FileRows) → AreRowsOf m file rows → rows.kept.items ≡ [] → 1 ≤ length (gone_ids m file) → IsRewriteOf m file 0 rows kind.Nothing
nothing_kept m file rows are none some =
    let empty : kept_rows m file ≡ [] = sym are.kept ∙ none in
    record {
      kept = are.kept;
      gone = are.gone;
      some = subst (λ (ids : List ℕ). 1 ≤ length ids) (sym are.gone) some;
      short = subst (λ (l : List Mapped). size_of l < 2 ^ 32) (sym empty) (omega arith);
      above = inl empty;
      room = tt;
    }

pub no_items : {X : Type 0} (xs : List X) → length xs ≡ 0 → xs ≡ []
no_items [] none = refl
no_items (x ∷ xs) none = absurd (omega (arith, none))

pub some_items : {X : Type 0} (xs : List X) → 1 ≤ length xs → xs ≡ [] → ⊥
some_items xs some none = absurd (let zero_items : length xs ≡ 0 = ap length none in omega (arith, some, zero_items))
