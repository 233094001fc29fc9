-- What a writing call does to the files, and what a crash may leave after it.
use Rattle.std.proofs.Common.{◌≡◌, ◌⊎◌, ℕ, ◌+◌, ◌-◌, ◌≤◌, Bool, true, false, ◌&&◌, cond, List, [], ◌∷◌, ◌++◌, length, take, drop, Option, Some, None, Result, Ok, Err, OnOk, OnErr, is_ok, refl, sym, ◌∙◌, ap, subst, arith, inl, inr, ⊎_elim, length-append}
use Rattle.std.proofs.Math.Path.{fun_ext}
use Rattle.std.proofs.lemmas.List.{take_all, take-append-le, drop-drop}
use Rattle.dv_shelf.specs.declared.shelf.Name.{Name}
use Rattle.dv_shelf.specs.declared.shelf.Failed.{Failed}
use Rattle.dv_shelf.specs.declared.record.Deed.{Deed}
use Rattle.dv_shelf.specs.declared.record.Deed.TheVariants.{Write, Sync, Replace, Remove}
use Rattle.dv_shelf.specs.declared.record.Outcome.{Outcome}
use Rattle.dv_shelf.specs.declared.record.Outcome.TheVariants.{Done}
use Rattle.dv_shelf.specs.declared.mem_shelf.MemShelf.{MemShelf}
use Rattle.dv_shelf.specs.declared.failures.Turn.{Turn}
use Rattle.dv_shelf.specs.declared.failures.Turn.TheVariants.{Passes, Fails, Stopped}
use Rattle.dv_shelf.specs.Folders.{Folder, with_file, contents, patched, same_name, ChangesOnly, Torn, TornFile, IsEither}
use Rattle.dv_shelf.specs.Crashes.{Elapses}
use Rattle.dv_shelf.specs.Disks.{Made, is_seen, stuck, file_then, files_after}
use Rattle.dv_shelf.specs.Laws.{stuck_short}
use Rattle.dv_shelf.specs.Images.{LeftBy, LeftSince}
use Rattle.dv_shelf.specs.Failures.{turn_of}
use Rattle.dv_shelf.specs.Outcomes.{passes, is_reached, failed_outcome, outcome_then}
use Rattle.dv_shelf.specs.MemShelves.{calls_of, calls_then, answers_ok, fits}
use Rattle.dv_shelf.proofs.DiskLemmas.{files_more}
use Rattle.dv_shelf.proofs.FolderLemmas.{Step, same_is, with_same, file_changes, nothing_changes}
use Rattle.dv_shelf.proofs.Torn.{patched_torn}

abbrev pub call_made : Name → Deed → List ℕ → Outcome → Made
call_made name deed bytes outcome =
    record { name = name; deed = deed; outcome = outcome; bytes = bytes }

-- a call that answered leaves a trace, or none where it failed
pub record Grew (r : Result (Unit {0}) Failed) (old new : List Made) (name : Name) (deed : Deed)
    (bytes : List ℕ) : Type 0 where
  pub ok : OnOk r (new ≡ old ++ call_made name deed bytes Done ∷ [])
  pub err : OnErr r ((new ≡ old)
      ⊎ ((outcome : Outcome) × (new ≡ old ++ call_made name deed bytes outcome ∷ [])))

pub grew : (r : Result (Unit {0}) Failed) (shelf : MemShelf) (new : List Made) (name : Name)
    (deed : Deed) (bytes : List ℕ)
    → new ≡ calls_then shelf name deed bytes → is_ok r ≡ answers_ok shelf bytes
    → Grew r (calls_of shelf) new name deed bytes
grew r shelf new name deed bytes is answer =
    by_turn (turn_of shelf.failures) (fits shelf (length bytes)) r is answer
  where
    by_turn : (turn : Turn) (fit : Bool) (r : Result (Unit {0}) Failed)
        → new
        ≡ cond (is_reached turn && fit) (calls_of shelf ++ call_made name deed bytes (outcome_then turn shelf.shows_failed) ∷ []) (calls_of shelf)
        → is_ok r ≡ passes turn && fit → Grew r (calls_of shelf) new name deed bytes
    by_turn Passes true (Ok u) is answer = record { ok = is; err = tt }
    by_turn Passes true (Err e) is answer = absurd (cc)
    by_turn Passes false (Ok u) is answer = absurd (cc)
    by_turn Passes false (Err e) is answer = record { ok = tt; err = inl is }
    by_turn Fails fit (Ok u) is answer = absurd (cc)
    by_turn Fails true (Err e) is answer =
        record { ok = tt; err = inr (failed_outcome shelf.shows_failed, is) }
    by_turn Fails false (Err e) is answer = record { ok = tt; err = inl is }
    by_turn Stopped fit (Ok u) is answer = absurd (cc)
    by_turn Stopped fit (Err e) is answer = record { ok = tt; err = inl is }

-- the files after one call more
pub files_then : (old : List Made) (name : Name) (deed : Deed) (bytes : List ℕ) (outcome : Outcome)
    → files_after (old ++ call_made name deed bytes outcome ∷ [])
    ≡ with_file (files_after old) name (file_then deed outcome bytes (files_after old name))
files_then old name deed bytes outcome =
    fun_ext
    (λ n. files_more old (call_made name deed bytes outcome) n ∙ at n (same_name name n) refl)
  where
    at : (n : Name) (b : Bool) → same_name name n ≡ b
        → cond b (file_then deed outcome bytes (files_after old n)) (files_after old n)
        ≡ cond b (file_then deed outcome bytes (files_after old name)) (files_after old n)
    at n true same =
        ap (λ (m : Name). file_then deed outcome bytes (files_after old m))
        (sym (same_is name n same))
    at n false same = refl

pub same_torn : (at n : ℕ) (file : Option (List ℕ)) → TornFile at n file file
same_torn at n None = tt
same_torn at n (Some old) =
    record { before = refl; behind = refl; no_shorter = omega arith; no_longer = omega arith }

-- fewer bytes were written
pub torn_more : (at m n : ℕ) (old new : List ℕ) → m ≤ n → Torn at m old new → Torn at n old new
torn_more at m n old new le torn = record {
  before = torn.before;
  behind = rw_behind;
  no_shorter = torn.no_shorter;
  no_longer = omega (arith, torn.no_longer);
}
  where
    split : (l : List ℕ) → drop (n - m) (drop (at + m) l) ≡ drop (at + n) l
    split l = drop-drop (n - m) (at + m) l ∙ ap (λ (k : ℕ). drop k l) (omega arith)

    rw_behind : drop (at + n) new ≡ drop (at + n) old
    rw_behind = sym (split new) ∙ ap (drop (n - m)) torn.behind ∙ split old

stuck_torn : (at : ℕ) (bytes : List ℕ) (outcome : Outcome) (old : List ℕ)
    → Torn at (length bytes) old (patched old at (stuck outcome bytes))
stuck_torn at bytes outcome old =
    torn_more at (length (stuck outcome bytes)) (length bytes) old _ (stuck_short outcome bytes)
    (patched_torn old at (stuck outcome bytes))

write_torn : (at : ℕ) (bytes : List ℕ) (outcome : Outcome) (file : Option (List ℕ))
    → TornFile at (length bytes) file (file_then (Write at) outcome bytes file)
write_torn at bytes outcome None = stuck_torn at bytes outcome []
write_torn at bytes outcome (Some old) = stuck_torn at bytes outcome old

-- what a call does to the files, where it does so to its file
one_changes : (old : List Made) (name : Name) (deed : Deed) (bytes : List ℕ) (outcome : Outcome)
    (step : Step)
    → step (files_after old name) (file_then deed outcome bytes (files_after old name))
    → ChangesOnly name step (files_after old) (files_after (old ++ call_made name deed bytes outcome ∷ []))
one_changes old name deed bytes outcome step here =
    subst (ChangesOnly name step (files_after old)) (sym (files_then old name deed bytes outcome))
    (file_changes (files_after old) name step _ here)

-- what a failed call does to the files
err_changes : (r : Result (Unit {0}) Failed) (old new : List Made) (name : Name) (deed : Deed)
    (bytes : List ℕ) (step : Step)
    → ((file : Option (List ℕ)) → step file file)
    → ((outcome : Outcome) (file : Option (List ℕ)) → step file (file_then deed outcome bytes file))
    → Grew r old new name deed bytes
    → OnErr r (ChangesOnly name step (files_after old) (files_after new))
err_changes (Ok u) old new name deed bytes step same changes grew = tt
err_changes (Err e) old new name deed bytes step same changes grew =
    let P : List Made → Type 0 = λ l. ChangesOnly name step (files_after old) (files_after l) in
    ⊎_elim
    (λ none. subst P (sym none) (nothing_changes (files_after old) name step (same (files_after old name))))
    (λ more. subst P (sym more.1) (one_changes old name deed bytes more.0 step (changes more.0 (files_after old name))))
    grew.err

-- what each writing call does to the files
pub write_ok : (r : Result (Unit {0}) Failed) (old new : List Made) (name : Name) (at : ℕ)
    (bytes : List ℕ) → Grew r old new name (Write at) bytes
    → OnOk r (files_after new ≡ with_file (files_after old) name (Some (patched (contents (files_after old) name) at bytes)))
write_ok (Ok u) old new name at bytes grew =
    ap files_after grew.ok ∙ files_then old name (Write at) bytes Done
write_ok (Err e) old new name at bytes grew = tt

pub replace_ok : (r : Result (Unit {0}) Failed) (old new : List Made) (name : Name) (bytes : List ℕ)
    → Grew r old new name Replace bytes
    → OnOk r (files_after new ≡ with_file (files_after old) name (Some bytes))
replace_ok (Ok u) old new name bytes grew =
    ap files_after grew.ok ∙ files_then old name Replace bytes Done
replace_ok (Err e) old new name bytes grew = tt

pub remove_ok : (r : Result (Unit {0}) Failed) (old new : List Made) (name : Name) (bytes : List ℕ)
    → Grew r old new name Remove bytes
    → OnOk r (files_after new ≡ with_file (files_after old) name None)
remove_ok (Ok u) old new name bytes grew =
    ap files_after grew.ok ∙ files_then old name Remove bytes Done
remove_ok (Err e) old new name bytes grew = tt

pub write_err : (r : Result (Unit {0}) Failed) (old new : List Made) (name : Name) (at : ℕ)
    (bytes : List ℕ) → Grew r old new name (Write at) bytes
    → OnErr r (ChangesOnly name (TornFile at (length bytes)) (files_after old) (files_after new))
write_err r old new name at bytes grew =
    err_changes r old new name (Write at) bytes (TornFile at (length bytes))
    (same_torn at (length bytes)) (λ outcome file. write_torn at bytes outcome file) grew

either_seen : (seen : Bool) (that file : Option (List ℕ)) → IsEither that file (cond seen that file)
either_seen true that file = inr refl
either_seen false that file = inl refl

pub replace_err : (r : Result (Unit {0}) Failed) (old new : List Made) (name : Name)
    (bytes : List ℕ) → Grew r old new name Replace bytes
    → OnErr r (ChangesOnly name (IsEither (Some bytes)) (files_after old) (files_after new))
replace_err r old new name bytes grew =
    err_changes r old new name Replace bytes (IsEither (Some bytes)) (λ file. inl refl)
    (λ outcome file. either_seen (is_seen outcome) (Some bytes) file) grew

pub remove_err : (r : Result (Unit {0}) Failed) (old new : List Made) (name : Name) (bytes : List ℕ)
    → Grew r old new name Remove bytes
    → OnErr r (ChangesOnly name (IsEither None) (files_after old) (files_after new))
remove_err r old new name bytes grew =
    err_changes r old new name Remove bytes (IsEither None) (λ file. inl refl)
    (λ outcome file. either_seen (is_seen outcome) None file) grew

stays : (old new : List Made) → new ≡ old
    → Elapses (length old) (length new) (LeftSince old) (LeftSince new) (LeftBy new)
stays old new same = let P : List Made → Type 0 = λ l. Elapses (length old) (length l) (LeftSince old) (LeftSince l) (LeftBy l) in subst P (sym same) (record {
  later = omega arith;
  nothing_else = λ t c le since. inl since;
  keeps = λ t c le past. past;
})

one_more : (old new : List Made) (made : Made) → new ≡ old ++ made ∷ []
    → Elapses (length old) (length new) (LeftSince old) (LeftSince new) (LeftBy new)
one_more old new made more = let P : List Made → Type 0 = λ l. Elapses (length old) (length l) (LeftSince old) (LeftSince l) (LeftBy l) in subst P (sym more) (record {
  later = omega (arith, long);
  nothing_else = λ t c le since. since_cases t c since (le_cases since.0 since.2);
  keeps = λ t c le past. (past.0, past.1, omega (arith, long, past.2), at past.0 past.2 c past.3);
})
  where
    long : length (old ++ made ∷ []) ≡ length old + 1
    long = length-append old (made ∷ [])

    at : (k : ℕ) → k ≤ length old → (c : Folder) → LeftBy (take k old) c
        → LeftBy (take k (old ++ made ∷ [])) c
    at k le c is =
        let Q : List Made → Type 0 = λ l. LeftBy l c in
        subst Q (sym (take-append-le k old (made ∷ []) le)) is

    le_cases : (k : ℕ) → k ≤ length (old ++ made ∷ [])
        → (k ≤ length old) ⊎ (length (old ++ made ∷ []) ≤ k)
    le_cases k le = grind (arith, long)

    since_cases : (t : ℕ) (c : Folder) (since : LeftSince (old ++ made ∷ []) t c)
        → (since.0 ≤ length old) ⊎ (length (old ++ made ∷ []) ≤ since.0)
        → LeftSince old t c ⊎ LeftBy (old ++ made ∷ []) c
    since_cases t c since (inl le) =
        let Q : List Made → Type 0 = λ l. LeftBy l c in
        inl (since.0, since.1, le, subst Q (take-append-le since.0 old (made ∷ []) le) since.3)
    since_cases t c since (inr le) =
        let Q : List Made → Type 0 = λ l. LeftBy l c in
        inr (subst Q (take_all since.0 (old ++ made ∷ []) le) since.3)

-- time goes on by at most one call
pub elapsed : (r : Result (Unit {0}) Failed) (old new : List Made) (name : Name) (deed : Deed)
    (bytes : List ℕ) → Grew r old new name deed bytes
    → Elapses (length old) (length new) (LeftSince old) (LeftSince new) (LeftBy new)
elapsed (Ok u) old new name deed bytes grew = one_more old new _ grew.ok
elapsed (Err e) old new name deed bytes grew =
    ⊎_elim (λ same. stays old new same) (λ more. one_more old new _ more.1) grew.err

pub sync_reads : (r : Result (Unit {0}) Failed) (old new : List Made) (name : Name) (bytes : List ℕ)
    → Grew r old new name Sync bytes → files_after new ≡ files_after old
sync_reads (Ok u) old new name bytes grew =
    ap files_after grew.ok ∙ files_then old name Sync bytes Done ∙ with_same (files_after old) name
sync_reads (Err e) old new name bytes grew =
    ⊎_elim (λ same. ap files_after same)
    (λ more. ap files_after more.1 ∙ files_then old name Sync bytes more.0 ∙ with_same (files_after old) name)
    grew.err
