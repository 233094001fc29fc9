-- More notes and tries, and images that go on.
use Rattle.std.proofs.Common.{◌≡◌, ◌⊎◌, inl, inr, ⊎_elim, ℕ, ◌≤◌, List, ◌++◌, length, take, refl, sym, ap, subst, arith, ◌∙◌}
use Rattle.std.specs.Prelude.{Any}
use Rattle.std.proofs.lemmas.List.{get_or_append_left, length-append, take-append-le, take_all}
use Rattle.dv_model.specs.Journals.{Log}
use Rattle.dv_shelf.specs.Folders.{Folder}
use Rattle.dv_shelf.specs.Sees.{SeesFolder}
use Rattle.dv_front.specs.declared.notes.Note.{Note}
use Rattle.dv_notes.specs.Logs.{log_of}
use Rattle.dv_tries.specs.Laws.{ImagesGoOn, LastMayGive, MoreMayGive}
use Rattle.dv_tries.specs.Tries.{GivesGroup, GivesLast, GivesLog, GivesTry, MayGive, Try}

-- ---- lists

module _ {X : Type 0} where
  pub any_weaker : (P Q : X → Type 0) (xs : List X) → ((x : X) → P x → Q x) → Any P xs → Any Q xs
  any_weaker P Q xs also any = (any.0, any.1, any.2, any.3, also any.1 any.4)

  pub any_front : (P : X → Type 0) (xs ys : List X) → Any P xs → Any P (xs ++ ys)
  any_front P xs ys any = (any.0, any.1, omega (arith, any.2, length-append xs ys), get_or_append_left xs ys any.1 any.0 any.2 ∙ any.3, any.4)

-- ---- more notes and tries

module _ (tells : Type 0) (start : Log) (notes : List Note) (c : Folder) where
  front_same : (more : List Note) (k : ℕ) → k ≤ length notes → log_of start (take k notes) ≡ log_of start (take k (notes ++ more))
  front_same more k le = ap (log_of start) (sym (take-append-le k notes more le))

  try_longer : (more : List Note) (t : Try) → GivesTry tells start notes t c → GivesTry tells start (notes ++ more) t c
  try_longer more t gives = (omega (arith, gives.0, length-append notes more), subst (λ (l : Log). GivesGroup tells l t c) (front_same more t.place gives.0) gives.1)

  pub more_may_give : (more : List Note) (tries later : List Try) → MayGive tells start notes tries c → MayGive tells start (notes ++ more) (tries ++ later) c
  more_may_give more tries later =
      ⊎_elim (λ front. inl (front.0, omega (arith, front.1, length-append notes more), subst (λ (l : Log). GivesLog l c) (front_same more front.0 front.1) front.2))
      (λ any. inr (any_front (λ (t : Try). GivesTry tells start (notes ++ more) t c) tries later
      (any_weaker (λ (t : Try). GivesTry tells start notes t c) (λ (t : Try). GivesTry tells start (notes ++ more) t c) tries (try_longer more) any)))

  all_same : (k : ℕ) → k ≡ length notes → log_of start notes ≡ log_of start (take k notes)
  all_same k is = ap (log_of start) (sym (take_all k notes (omega (arith, is))))

  try_last : (t : Try) → (t.place ≡ length notes) × GivesGroup tells (log_of start notes) t c → GivesTry tells start notes t c
  try_last t gives = (omega (arith, gives.0), subst (λ (l : Log). GivesGroup tells l t c) (all_same t.place gives.0) gives.1)

  pub last_may_give : (tries : List Try) → GivesLast tells start notes tries c → MayGive tells start notes tries c
  last_may_give tries =
      ⊎_elim (λ all. inl (length notes, omega arith, subst (λ (l : Log). GivesLog l c) (all_same (length notes) refl) all))
      (λ any. inr (any_weaker (λ (t : Try). (t.place ≡ length notes) × GivesGroup tells (log_of start notes) t c) (λ (t : Try). GivesTry tells start notes t c) tries try_last any))

-- ---- laws

pub more_gives : (tells : Type 0) → MoreMayGive tells
more_gives tells start notes more tries later c = more_may_give tells start notes c more tries later

pub last_gives : (tells : Type 0) → LastMayGive tells
last_gives tells start notes tries c = last_may_give tells start notes c tries

pub images_go_on : {S : Type 0} (sees : SeesFolder S) (tells : Type 0) (past : ℕ → Folder → Type 0) → ImagesGoOn sees tells past
images_go_on sees tells past start notes more tries later moment old new so_far step =
    let May : Folder → Type 0 = MayGive tells start (notes ++ more) (tries ++ later) in
    let was : (c : Folder) → MayGive tells start notes tries c → May c = λ c. more_may_give tells start notes c more tries later in
    let now : (c : Folder) → GivesLast tells start notes tries c ⊎ GivesLast tells start (notes ++ more) (tries ++ later) c → May c =
    λ c. ⊎_elim (λ before. was c (last_may_give tells start notes c tries before)) (last_may_give tells start (notes ++ more) c (tries ++ later)) in
    record {
      later = omega (arith, so_far.later, step.later);
      each = λ c left. ⊎_elim (λ before. was c (so_far.each c before)) (now c) (step.before moment c so_far.later left);
      before = λ t c le left.
          ⊎_elim (λ earlier. ⊎_elim inl (λ may. inr (was c may)) (so_far.before t c le earlier)) (λ may. inr (now c may))
          (step.before t c (omega (arith, le, so_far.later)) left);
    }
