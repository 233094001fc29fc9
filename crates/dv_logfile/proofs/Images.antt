-- What a crash may leave behind the writes of a commit.
use Rattle.std.proofs.Common.{◌≡◌, inl, inr, ℕ, ◌+◌, ◌<◌, ◌≤◌, Some, List, [], ◌∷◌, length, drop, refl, sym, ◌∙◌, ap, subst}
use Rattle.dv_shelf.specs.declared.shelf.Name.TheVariants.{Log}
use Rattle.dv_shelf.specs.Crashes.{Only, Follows, LeavesOnly}
use Rattle.dv_shelf.specs.Folders.{Folder, contents, patched, with_file}
use Rattle.dv_logfile.specs.Gates.{IsShut, IsStaged, IsOpen, IsBeforeOrAfter, AreLong, FromOneOf}
use Rattle.dv_shelf.proofs.Moments.{weaker, joined}
use Rattle.dv_logfile.proofs.Gate.{First, Second, written_torn, shut_torn, staged_first, staged_torn, staged_log, opened_second, contents_of}
use Rattle.dv_shelf.specs.Sees.{SeesFolder}

-- where a crash leaves the files alone, each outcome is long
pub only_long : (F : Folder) (e : ℕ) (outcomes : Folder → Type 0) → Only F outcomes → e < length (contents F Log) → AreLong e outcomes
only_long F e outcomes only long c left = subst (λ (d : Folder). e < length (contents d Log)) (sym (only c left)) long

-- and each is a step from the files
pub only_step : (F : Folder) (outcomes : Folder → Type 0) (step : Folder → Folder → Type 0) → Only F outcomes → (c : Folder) → FromOneOf outcomes step c → step F c
only_step F outcomes step only c from = subst (λ (d : Folder). step d c) (only from.0 from.1) from.2

module _ (e : ℕ) (text behind : List ℕ) (some_text : 1 ≤ length text) (is : behind ≡ drop 1 text) (images0 : Folder → Type 0) (long : AreLong e images0) where
  abbrev Before : Folder → Type 0
  Before c = FromOneOf images0 (λ d f. IsShut d e text f) c

  abbrev Staged : Folder → Type 0
  Staged c = FromOneOf images0 (λ d f. IsStaged d e text f) c

  abbrev Either : Folder → Type 0
  Either c = FromOneOf images0 (λ d f. IsBeforeOrAfter d e text f) c

  pub first_either : (c : Folder) → FromOneOf images0 (First e behind) c → Either c
  first_either c from = (from.0, from.1, inl (shut_torn e text behind some_text is from.0 c (long from.0 from.1) from.2))

  pub after_first : (images : Folder → Type 0) → Follows (First e behind) images0 images → Follows (λ d f. IsShut d e text f) images0 images
  after_first images follows c left = let from = follows c left in (from.0, from.1, shut_torn e text behind some_text is from.0 c (long from.0 from.1) from.2)

  module _ (images2 : Folder → Type 0) (old : List ℕ) (follows : Follows (First e behind) images0 images2) (durable : (c : Folder) → images2 c → c Log ≡ Some (patched old (e + 1) behind)) where
    staged_images : (b : Folder) → images2 b → Staged b
    staged_images b left = let from = follows b left in (from.0, from.1, staged_first e text behind some_text is from.0 b old (long from.0 from.1) from.2 (durable b left))

    staged_again : (c : Folder) → FromOneOf images2 (Second e) c → Staged c
    staged_again c from =
        let b = staged_images from.0 from.1 in
        (b.0, b.1, staged_torn e text behind some_text is b.0 from.0 c (long b.0 b.1) b.2 from.2)

    pub second_either : (c : Folder) → FromOneOf images2 (Second e) c → Either c
    second_either c from = let staged = staged_again c from in (staged.0, staged.1, inr staged.2)

    pub after_second : (images : Folder → Type 0) → Follows (Second e) images2 images → Follows (λ d f. IsStaged d e text f) images0 images
    after_second images again c left = staged_again c (again c left)

    pub after_both : (images : Folder → Type 0) → Follows (Second e) images2 images → text ≡ 128 ∷ drop 1 text
        → ((c : Folder) → images c → c Log ≡ Some (patched (patched old (e + 1) behind) e (128 ∷ []))) → Follows (λ d f. IsOpen d e text f) images0 images
    after_both images again first durable_gate c left =
        let from = again c left in
        let b = staged_images from.0 from.1 in
        (b.0, b.1, opened_second e text behind some_text is b.0 from.0 c (patched old (e + 1) behind) (long b.0 b.1) first b.2 from.2 (staged_log e text behind some_text is old (patched old (e + 1) behind) refl) (durable_gate c left))

-- ---- the files, as reads give them

module _ (e : ℕ) (text behind : List ℕ) (some_text : 1 ≤ length text) (is : behind ≡ drop 1 text) (F0 F2 : Folder)
    (wrote : F2 ≡ with_file F0 Log (Some (patched (contents F0 Log) (e + 1) behind))) where
  pub wrote_there : F2 Log ≡ Some (patched (contents F0 Log) (e + 1) behind)
  wrote_there = ap (λ (F : Folder). F Log) wrote

  pub staged_files : (F4 : Folder) → e < length (contents F0 Log) → Second e F2 F4 → IsStaged F0 e text F4
  staged_files F4 long second =
      let first : First e behind F0 F2 = written_torn F0 F2 (e + 1) behind wrote in
      staged_torn e text behind some_text is F0 F2 F4 long (staged_first e text behind some_text is F0 F2 (contents F0 Log) long first wrote_there) second

  pub opened_there : (F4 : Folder) → F4 ≡ with_file F2 Log (Some (patched (contents F2 Log) e (128 ∷ []))) → F4 Log ≡ Some (patched (patched (contents F0 Log) (e + 1) behind) e (128 ∷ []))
  opened_there F4 opened = ap (λ (F : Folder). F Log) opened ∙ ap (λ (l : List ℕ). Some (patched l e (128 ∷ []))) (contents_of F2 (patched (contents F0 Log) (e + 1) behind) wrote_there)

-- ---- every moment

module _ {S : Type 0} (sees : SeesFolder S) (e : ℕ) (text : List ℕ) (old new : S) where
  abbrev pub Since : Type 0
  Since = LeavesOnly sees old new (FromOneOf (sees.may_leave old) (λ d f. IsBeforeOrAfter d e text f))

  -- where the files alone could be left
  pub since_only : (F : Folder) → Only F (sees.may_leave old) → Since → LeavesOnly sees old new (IsBeforeOrAfter F e text)
  since_only F only since = weaker sees old new _ (IsBeforeOrAfter F e text) since (only_step F (sees.may_leave old) (λ d f. IsBeforeOrAfter d e text f) only)

module _ {S : Type 0} (sees : SeesFolder S) (e : ℕ) (text behind : List ℕ) (some_text : 1 ≤ length text) (is : behind ≡ drop 1 text)
    (s0 s2 s4 : S) (long : AreLong e (sees.may_leave s0)) (first : LeavesOnly sees s0 s2 (FromOneOf (sees.may_leave s0) (First e behind))) where
  pub first_since : Since sees e text s0 s2
  first_since = weaker sees s0 s2 _ _ first (first_either e text behind some_text is (sees.may_leave s0) long)

  pub second_since : (log : List ℕ) → Follows (First e behind) (sees.may_leave s0) (sees.may_leave s2) → ((c : Folder) → sees.may_leave s2 c → c Log ≡ Some (patched log (e + 1) behind))
      → LeavesOnly sees s2 s4 (FromOneOf (sees.may_leave s2) (Second e)) → Since sees e text s0 s4
  second_since log follows durable second =
      joined sees s0 s2 s4 _ first_since (weaker sees s2 s4 _ _ second (second_either e text behind some_text is (sees.may_leave s0) long (sees.may_leave s2) log follows durable))
