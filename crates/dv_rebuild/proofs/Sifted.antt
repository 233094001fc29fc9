-- The message files of a folder, as they are kept or skipped.
use Rattle.std.proofs.Common.{◌≡◌, ℕ, ◌+◌, ◌<◌, ◌≤◌, true, false, Bool, not, ◌&&◌, List, [], ◌∷◌, ◌++◌, length, take, get_or, nat_le, nat_lt, refl, sym, ◌∙◌, ap, subst, arith, Option, Some, None, is_some, flat_map}
use Rattle.std.specs.Prelude.{if◌then◌else◌, All, Result, Ok, Err}
use Rattle.std.proofs.lemmas.Bool.{le-ltb, ltb-false, ltb-true}
use Rattle.std.proofs.lemmas.Grind.{flat_map-append}
use Rattle.std.proofs.lemmas.List.{append-nil, length-append, length-take-le, take-append-le, take_all, take_more}
use Rattle.std.proofs.lemmas.List.Elements.{All-push, filter_more}
use Rattle.std.proofs.lemmas.List.Sums.{count_by_more_no, count_by_more_yes}
use Rattle.dv_model.specs.Spelling.{IsUid}
use Rattle.dv_shelf.specs.declared.shelf.Name.TheVariants as name
use Rattle.dv_shelf.specs.Folders.{Folder}
use Rattle.dv_dbox.specs.declared.fault.BoxFault.{BoxFault}
use Rattle.dv_dbox.specs.declared.fault.BoxFault.TheVariants as faults
use Rattle.dv_dbox.specs.BoxTexts as box
use Rattle.dv_dbox.specs.BoxTexts.{BoxContent, box_content}
use Rattle.dv_dbox.specs.Mails.{content_in}
use Rattle.dv_dbox.specs.Reading.{broken}
use Rattle.dv_openings.specs.Rebuilds.{is_kept, kept_of, last_uid, skipped_of}
use Rattle.dv_rebuild.specs.declared.mails.Sifted.{Sifted}
use Rattle.dv_rebuild.specs.declared.reporting.Skip.{Skip}
use Rattle.dv_rebuild.specs.declared.reporting.SkipCause.{SkipCause}
use Rattle.dv_rebuild.specs.declared.reporting.SkipCause.TheVariants as cause
use Rattle.dv_rebuild.specs.Mails.{Adds, AddsSkip}
use Rattle.dv_rebuild.specs.Reports.{content_cause, fault_of, file_cause, skip_cause, skip_of, skips_of}

-- ---- why a file is skipped

same_fault : (f : BoxFault) → fault_of (broken f) ≡ f
same_fault faults.BadHeader = refl
same_fault faults.BadMessageHeader = refl
same_fault faults.BadSize = refl
same_fault faults.BadEnd = refl
same_fault faults.BadMetadata = refl

pub whole_cause : (b : List ℕ) (m : BoxContent) → box_content b ≡ Ok m → None ≡ file_cause (Some b)
whole_cause b m is = sym (ap content_cause is)

pub broken_cause : (b : List ℕ) (f : BoxFault) → box_content b ≡ Err (broken f) → Some (cause.Broken f) ≡ file_cause (Some b)
broken_cause b f is = sym (ap content_cause is ∙ ap (λ (x : BoxFault). Some (cause.Broken x)) (same_fault f))

kept_of_content : (r : Result BoxContent box.BoxFault) → is_some (elim r [ Ok m ↦ Some m | Err fault ↦ None ]) ≡ not (is_some (content_cause r))
kept_of_content (Ok m) = refl
kept_of_content (Err fault) = refl

kept_of_file : (f : Option (List ℕ)) → is_some (content_in f) ≡ not (is_some (file_cause f))
kept_of_file None = refl
kept_of_file (Some b) = kept_of_content (box_content b)

kept_of_number : (a b : Bool) (f : Option (List ℕ)) → (a && b && is_some (content_in f)) ≡ not (is_some (if a && b then file_cause f else Some cause.NoUid))
kept_of_number true true f = kept_of_file f
kept_of_number true false f = refl
kept_of_number false b f = refl

kept_unless : (folder : Folder) (n : ℕ) (why : Option SkipCause) → why ≡ skip_cause folder n → is_kept folder n ≡ not (is_some why)
kept_unless folder n why is =
    kept_of_number (nat_le 1 n) (nat_le n last_uid) (folder (name.Mail n)) ∙ ap (λ (c : Option SkipCause). not (is_some c)) (sym is)

-- ---- the first of a list

pub first_some : {A : Type 0} (n : ℕ) (xs : List A) (x : A) → (if nat_lt (length (take n xs)) n then take n xs ++ x ∷ [] else take n xs) ≡ take n (xs ++ x ∷ [])
first_some {A} n xs x = by_room (nat_lt (length xs) n) refl
  where
    added : List A → List A
    added l = if nat_lt (length l) n then l ++ x ∷ [] else l

    by_room : (b : Bool) → nat_lt (length xs) n ≡ b → added (take n xs) ≡ take n (xs ++ x ∷ [])
    by_room true is =
        let less = ltb-true (length xs) n is in
        ap added (take_all n xs (omega (arith, less))) ∙ ap (λ (b : Bool). if b then xs ++ x ∷ [] else xs) is
        ∙ sym (take_all n (xs ++ x ∷ []) (omega (arith, less, length-append xs (x ∷ []))))
    by_room false is =
        let past : n ≤ length xs = omega (arith, ltb-false (length xs) n is) in
        ap (λ (b : Bool). if b then take n xs ++ x ∷ [] else take n xs) (full past) ∙ sym (take-append-le n xs (x ∷ []) past)
      where
        full : n ≤ length xs → nat_lt (length (take n xs)) n ≡ false
        full past = le-ltb (length (take n xs)) n (omega (arith, length-take-le n xs past))

-- ---- one more file

module _ (folder : Folder) (numbers : List ℕ) (i : ℕ) (less : i < length numbers) where
  abbrev n : ℕ
  n = get_or numbers i 0

  kept_yes : is_kept folder n ≡ true → kept_of folder (take (i + 1) numbers) ≡ kept_of folder (take i numbers) ++ n ∷ []
  kept_yes is = filter_more (is_kept folder) numbers i 0 less ∙ ap (λ (b : Bool). kept_of folder (take i numbers) ++ (if b then n ∷ [] else [])) is

  kept_no : is_kept folder n ≡ false → kept_of folder (take (i + 1) numbers) ≡ kept_of folder (take i numbers)
  kept_no is =
      filter_more (is_kept folder) numbers i 0 less ∙ ap (λ (b : Bool). kept_of folder (take i numbers) ++ (if b then n ∷ [] else [])) is
      ∙ append-nil (kept_of folder (take i numbers))

  skips_at : (why : Option SkipCause) → why ≡ skip_cause folder n → skips_of folder (take (i + 1) numbers) ≡ skips_of folder (take i numbers) ++ skip_of n why
  skips_at why is =
      ap (skips_of folder) (take_more numbers i 0 less)
      ∙ flat_map-append (λ (k : ℕ). skip_of k (skip_cause folder k)) (take i numbers) (n ∷ [])
      ∙ ap (λ (l : List Skip). skips_of folder (take i numbers) ++ l) (append-nil (skip_of n (skip_cause folder n)) ∙ ap (skip_of n) (sym is))

  pub kept_more : (why : Option SkipCause) (old new : Sifted) → why ≡ skip_cause folder n → Adds n why old new → old.kept ≡ kept_of folder (take i numbers)
      → new.kept ≡ kept_of folder (take (i + 1) numbers)
  kept_more None old new is adds was = adds.kept ∙ ap (λ (l : List ℕ). l ++ n ∷ []) was ∙ sym (kept_yes (kept_unless folder n None is))
  kept_more (Some why) old new is adds was = adds.kept ∙ was ∙ sym (kept_no (kept_unless folder n (Some why) is))

  pub skipped_more : (why : Option SkipCause) (old new : Sifted) → why ≡ skip_cause folder n → Adds n why old new → old.skipped ≡ skipped_of folder (take i numbers)
      → new.skipped ≡ skipped_of folder (take (i + 1) numbers)
  skipped_more None old new is adds was =
      adds.skipped ∙ was ∙ sym (count_by_more_no (λ (k : ℕ). not (is_kept folder k)) numbers i 0 less (ap not (kept_unless folder n None is)))
  skipped_more (Some why) old new is adds was =
      adds.skipped ∙ ap (λ (k : ℕ). k + 1) was ∙ sym (count_by_more_yes (λ (k : ℕ). not (is_kept folder k)) numbers i 0 less (ap not (kept_unless folder n (Some why) is)))

  pub skips_more : (why : Option SkipCause) (old new : Sifted) → why ≡ skip_cause folder n → Adds n why old new → old.skips ≡ take 100 (skips_of folder (take i numbers))
      → new.skips ≡ take 100 (skips_of folder (take (i + 1) numbers))
  skips_more None old new is adds was =
      adds.skips ∙ was ∙ sym (ap (take 100) (skips_at None is ∙ append-nil (skips_of folder (take i numbers))))
  skips_more (Some why) old new is adds was =
      let skip : Skip = record { number = n; cause = why } in
      adds.skips ∙ ap (λ (l : List Skip). if nat_lt (length l) 100 then l ++ skip ∷ [] else l) was
      ∙ first_some 100 (skips_of folder (take i numbers)) skip ∙ sym (ap (take 100) (skips_at (Some why) is))

pub uids_more : (n : ℕ) (why : Option SkipCause) (old new : Sifted) → Adds n why old new → (why ≡ None → IsUid n) → All IsUid old.kept → All IsUid new.kept
uids_more n None old new adds is all = subst (All IsUid) (sym adds.kept) (All-push IsUid old.kept n all (is refl))
uids_more n (Some why) old new adds is all = subst (All IsUid) (sym adds.kept) all
