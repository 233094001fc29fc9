-- Which rows a purge leaves.
use Rattle.std.proofs.Common.{◌≡◌, ◌≢◌, ◌⊎◌, inl, inr, ⊎_elim, ℕ, ◌+◌, ◌-◌, ◌^◌, ◌<◌, ◌≤◌, Bool, true, false, Contains, List, [], ◌∷◌, length, get_or, nat_eq, Option, Some, None, refl, sym, ◌∙◌, ap, subst, arith}
use Rattle.std.specs.Prelude.{◌&&◌, All, IsSome, filter, nat_lt}
use Rattle.std.proofs.lemmas.Bool.{eqb-false, eqb-true}
use Rattle.std.proofs.lemmas.Bool.Decides.{nat_tests}
use Rattle.std.proofs.lemmas.List.{get_or_default}
use Rattle.std.proofs.lemmas.List.Elements.{All-head, All-tail}
use Rattle.dv_model.specs.declared.types.Mailbox.{Mailbox}
use Rattle.dv_model.specs.declared.types.Record.{Record}
use Rattle.dv_model.specs.Journals.{Damaged}
use Rattle.dv_shelf.specs.declared.shelf.Name.TheVariants as name
use Rattle.dv_shelf.specs.Folders.{Folder}
use Rattle.dv_shelf.specs.Sees.{SeesFolder}
use Rattle.dv_chain.specs.declared.chain.Chain.{Chain}
use Rattle.dv_chain.specs.Rest.{Nothing}
use Rattle.dv_maps.specs.declared.mapped.Mapped.{Mapped}
use Rattle.dv_maps.specs.declared.place.Place.{Place}
use Rattle.dv_maps.specs.Laws.{IsMap}
use Rattle.dv_maps.specs.Purges.{Rewrites, all_mapped, is_kept, rewritten, size_of}
use Rattle.dv_maps.specs.Texts.{Messages, text_at}
use Rattle.dv_maps.proofs.Leaving.{Has, has_of, of_has, other_kept, row_stays, zero_left}
use Rattle.dv_maps.proofs.Rewriting.{kept_front, new_row, rewritten_front}
use Rattle.dv_mdbox.specs.Purged.{Goes, IsPurged, IsPurgedFile, KeepsNamed, LeavesRows, StaysAt}
use Rattle.dv_mdbox.specs.Purging.{AllNamed, HasGone, IsFit, IsNamed, IsNextFile, IsNextGone, IsPassedOver, IsTaken, IsTakenAway, KnowsFile, KnowsFiles, NoneGoneFrom, PurgesFiles, kept_rows}
use Rattle.dv_mdbox.specs.States.{IsAtRest, IsLookedAt, State}
use Rattle.dv_mdbox.proofs.Rewritten.{mapped_count, named_below, passed}

-- ---- rows that are left

pub leaves_all : (G : Mapped → Type 0) (S : Mapped → Place → Type 0) (rs : List Mapped) → ((r : Mapped) → S r r.place) → LeavesRows G S rs [] rs
leaves_all G S [] stays = (refl, refl)
leaves_all G S (r ∷ rs) stays = inr (r.place, rs, refl, stays r, leaves_all G S rs stays)

pub leaves_as : (G H : Mapped → Type 0) (S T : Mapped → Place → Type 0) → ((r : Mapped) → G r → H r) → ((r : Mapped) (p : Place) → S r p → T r p) → (rs : List Mapped) (gone : List ℕ) (left : List Mapped) → LeavesRows G S rs gone left → LeavesRows H T rs gone left
leaves_as G H S T one two [] gone left is = is
leaves_as G H S T one two (r ∷ rs) gone left is =
    ⊎_elim (λ goes. inl (one r goes.0, goes.1, goes.2, leaves_as G H S T one two rs goes.1 left goes.3))
    (λ stays. inr (stays.0, stays.1, stays.2, two r stays.0 stays.3, leaves_as G H S T one two rs gone stays.1 stays.4)) is

pub leaves_count : (G : Mapped → Type 0) (S : Mapped → Place → Type 0) (rs : List Mapped) (gone : List ℕ) (left : List Mapped) → LeavesRows G S rs gone left → length rs ≡ length gone + length left
leaves_count G S [] gone left is =
    let a : length gone ≡ 0 = ap length is.0 in
    let b : length left ≡ 0 = ap length is.1 in
    omega (arith, a, b)
leaves_count G S (r ∷ rs) gone left is =
    ⊎_elim
    (λ goes.
    let more = leaves_count G S rs goes.1 left goes.3 in
    let one : length gone ≡ length goes.1 + 1 = ap length goes.2 ∙ omega arith in
    omega (arith, more, one))
    (λ stays.
    let more = leaves_count G S rs gone stays.1 stays.4 in
    let one : length left ≡ length stays.1 + 1 = ap length stays.2 ∙ omega arith in
    omega (arith, more, one)) is

-- what becomes of a row
pub leaves_find : (G : Mapped → Type 0) (S : Mapped → Place → Type 0) (rs : List Mapped) (gone : List ℕ) (left : List Mapped) → LeavesRows G S rs gone left → (r : Mapped) → Has r rs → G r ⊎ ((p : Place) × S r p × Has (record r { place = p }) left)
leaves_find G S [] gone left is r has = absurd has
leaves_find G S (x ∷ rs) gone left is r has =
    ⊎_elim
    (λ goes. ⊎_elim (λ here. inl (subst G here goes.0)) (λ there. leaves_find G S rs goes.1 left goes.3 r there) has)
    (λ stays.
    ⊎_elim
    (λ here. inr (stays.0, subst (λ (y : Mapped). S y stays.0) here stays.3, subst (Has (record r { place = stays.0 })) (sym stays.2) (inl (ap (λ (y : Mapped). record y { place = stays.0 }) here))))
    (λ there.
    ⊎_elim inl (λ at. inr (at.0, at.1, subst (Has (record r { place = at.0 })) (sym stays.2) (inr at.2))) (leaves_find G S rs gone stays.1 stays.4 r there)) has) is

-- where a row is from
pub leaves_from : (G : Mapped → Type 0) (S : Mapped → Place → Type 0) (rs : List Mapped) (gone : List ℕ) (left : List Mapped) → LeavesRows G S rs gone left → (x : Mapped) → Has x left → (r : Mapped) × Has r rs × S r x.place
leaves_from G S [] gone left is x has = absurd (subst (Has x) is.1 has)
leaves_from G S (r ∷ rs) gone left is x has =
    ⊎_elim (λ goes. let from = leaves_from G S rs goes.1 left goes.3 x has in (from.0, inr from.1, from.2))
    (λ stays.
    ⊎_elim (λ here. (r, inl refl, subst (S r) (ap (λ (y : Mapped). y.place) here) stays.3))
    (λ there. let from = leaves_from G S rs gone stays.1 stays.4 x there in (from.0, inr from.1, from.2)) (subst (Has x) stays.2 has)) is

-- ---- behind a file that was rewritten

module _ (file new : ℕ) (G H : Mapped → Type 0) (S T : Mapped → Place → Type 0) where
  pub record IsStep (r : Mapped) : Type 0 where
    pub gone : r.place.file ≡ file → r.count ≡ 0 → G r
    pub moved : r.place.file ≡ file → 1 ≤ r.count → (at : ℕ) → H (new_row file new at r) → ⊥
    pub moves : r.place.file ≡ file → 1 ≤ r.count → (at : ℕ) (p : Place) → T (new_row file new at r) p → S r p
    pub goes : r.place.file ≢ file → H r → G r
    pub stays : r.place.file ≢ file → (p : Place) → T r p → S r p

  abbrev Leaves : List Mapped → List Mapped → Type 0
  Leaves rs left = (gone : List ℕ) × LeavesRows G S rs gone left

  step_one : (r : Mapped) (rs : List Mapped) (at : ℕ) (gone : List ℕ) (left : List Mapped) → IsStep r
      → ((at : ℕ) (gone : List ℕ) (left : List Mapped) → LeavesRows H T (rewritten file new at rs) gone left → Leaves rs left)
      → (f c : Bool) → nat_eq r.place.file file ≡ f → nat_lt 0 r.count ≡ c → LeavesRows H T (rewritten file new at (r ∷ rs)) gone left → Leaves (r ∷ rs) left
  step_one r rs at gone left st rest true true here count is =
      let named : r.place.file ≡ file = eqb-true r.place.file file here in
      let some : 1 ≤ r.count = grind (arith, nat_tests, count) in
      let next : ℕ = at + r.place.size in
      ⊎_elim (λ goes. absurd (st.moved named some at goes.0))
      (λ stays. let more = rest next gone stays.1 stays.4 in (more.0, inr (stays.0, stays.1, stays.2, st.moves named some at stays.0 stays.3, more.1)))
      (subst (λ (l : List Mapped). LeavesRows H T l gone left) (rewritten_front file new r rs at true true here count) is)
  step_one r rs at gone left st rest true false here count is =
      let named : r.place.file ≡ file = eqb-true r.place.file file here in
      let none : r.count ≡ 0 = grind (arith, nat_tests, count) in
      let more = rest at gone left (subst (λ (l : List Mapped). LeavesRows H T l gone left) (rewritten_front file new r rs at true false here count) is) in
      (r.id ∷ more.0, inl (st.gone named none, more.0, refl, more.1))
  step_one r rs at gone left st rest false c here count is =
      let away : r.place.file ≢ file = eqb-false r.place.file file here in
      ⊎_elim (λ goes. let more = rest at goes.1 left goes.3 in (r.id ∷ more.0, inl (st.goes away goes.0, more.0, refl, more.1)))
      (λ stays. let more = rest at gone stays.1 stays.4 in (more.0, inr (stays.0, stays.1, stays.2, st.stays away stays.0 stays.3, more.1)))
      (subst (λ (l : List Mapped). LeavesRows H T l gone left) (rewritten_front file new r rs at false c here count) is)

  pub leaves_step : (rs : List Mapped) (at : ℕ) (gone : List ℕ) (left : List Mapped) → All IsStep rs → LeavesRows H T (rewritten file new at rs) gone left → Leaves rs left
  leaves_step [] at gone left steps is = (gone, is)
  leaves_step (r ∷ rs) at gone left steps is =
      step_one r rs at gone left (All-head IsStep r rs steps) (λ n g l. leaves_step rs n g l (All-tail IsStep r rs steps)) (nat_eq r.place.file file) (nat_lt 0 r.count) refl refl is

-- ---- a map and the next one

module _ (from file new : ℕ) (m next : Mailbox) (first : IsNextGone m from file) (higher : (kept_rows m file ≡ []) ⊎ IsNextFile m new) (is : Rewrites file new m next) where
  abbrev rs : List Mapped
  rs = all_mapped m

  pub apart_row : (r : Mapped) → Contains rs r → (r.place.file ≢ new) ⊎ (kept_rows m file ≡ [])
  apart_row r has = ⊎_elim (λ none. inr none) (λ above. inl (λ e. let low = named_below m new above r has in absurd (omega (arith, low, e)))) higher

  pub apart_file : (f : ℕ) → HasGone m f → (f ≢ new) ⊎ (kept_rows m file ≡ [])
  apart_file f some = subst (λ (n : ℕ). (n ≢ new) ⊎ (kept_rows m file ≡ [])) some.3 (apart_row some.0 some.1)

  -- its rows without references are of another file, from before
  pub zero_from : (f : ℕ) → HasGone next f → HasGone m f × (f ≢ file)
  zero_from f (r, (k, less, at), none, named) =
      let Before : Mapped → Type 0 = λ x. Contains rs x in
      let all : All (λ (x : Mapped). x.count ≡ 0 → (x.place.file ≢ file) × Before x) (all_mapped next) =
      subst (All (λ (x : Mapped). x.count ≡ 0 → (x.place.file ≢ file) × Before x)) (sym is.rows)
      (zero_left file new Before rs 0 (λ j d inside zero_count. (j, inside, get_or_default rs j (get_or rs j d) d inside))) in
      let here : (r.place.file ≢ file) × Before r = subst (λ (x : Mapped). x.count ≡ 0 → (x.place.file ≢ file) × Before x) at (all k r less) none in
      ((r, here.1, none, named), λ e. here.0 (named ∙ e))

  -- a row of another file stays
  pub row_left : (r : Mapped) → Contains rs r → r.place.file ≢ file → Contains (all_mapped next) r
  row_left r has away = of_has (all_mapped next) r (subst (Has r) (sym is.rows) (row_stays file new r rs 0 away (has_of rs r has)))

  pub zero_stays : (f : ℕ) → HasGone m f → f ≢ file → HasGone next f
  zero_stays f some away = (some.0, row_left some.0 some.1 (λ e. away (sym some.3 ∙ e)), some.2, some.3)

  -- another file keeps what it kept
  pub kept_same : (f : ℕ) → f ≢ file → (f ≢ new) ⊎ (kept_rows m file ≡ []) → kept_rows next f ≡ kept_rows m f
  kept_same f away apart = ap (filter (is_kept f)) is.rows ∙ other_kept file new f rs 0 away apart

-- ---- the files that stay

module _ (file new : ℕ) where
  -- a row was there before, in another file, or its text went into the new one
  abbrev IsFrom : List Mapped → Mapped → Type 0
  IsFrom rs s = (Has s rs × (s.place.file ≢ file)) ⊎ ((filter (is_kept file) rs ≡ [] → ⊥) × (s.place.file ≡ new))

  from_one : (s r : Mapped) (rs : List Mapped) (at : ℕ) → ((at : ℕ) → Has s (rewritten file new at rs) → IsFrom rs s) → (f c : Bool) → nat_eq r.place.file file ≡ f → nat_lt 0 r.count ≡ c → Has s (rewritten file new at (r ∷ rs)) → IsFrom (r ∷ rs) s
  from_one s r rs at rest true true here count has =
      let front = kept_front file new r rs true true here count in
      let some : filter (is_kept file) (r ∷ rs) ≡ [] → ⊥ = λ none. (let e : r ∷ filter (is_kept file) rs ≡ [] = sym front ∙ none in cc) in
      ⊎_elim (λ is. inr (some, sym (ap (λ (x : Mapped). x.place.file) is)))
      (λ there. ⊎_elim (λ was. inl (inr was.0, was.1)) (λ moved. inr (some, moved.1)) (rest (at + r.place.size) there))
      (subst (Has s) (rewritten_front file new r rs at true true here count) has)
  from_one s r rs at rest true false here count has =
      let front = kept_front file new r rs true false here count in
      ⊎_elim (λ was. inl (inr was.0, was.1)) (λ moved. inr (λ none. moved.0 (sym front ∙ none), moved.1))
      (rest at (subst (Has s) (rewritten_front file new r rs at true false here count) has))
  from_one s r rs at rest false c here count has =
      let front = kept_front file new r rs false c here count in
      ⊎_elim (λ is. inl (inl is, λ e. eqb-false r.place.file file here (ap (λ (x : Mapped). x.place.file) is ∙ e)))
      (λ there. ⊎_elim (λ was. inl (inr was.0, was.1)) (λ moved. inr (λ none. moved.0 (sym front ∙ none), moved.1)) (rest at there))
      (subst (Has s) (rewritten_front file new r rs at false c here count) has)

  from_row : (s : Mapped) (rs : List Mapped) (at : ℕ) → Has s (rewritten file new at rs) → IsFrom rs s
  from_row s [] at has = absurd has
  from_row s (r ∷ rs) at has = from_one s r rs at (λ n h. from_row s rs n h) (nat_eq r.place.file file) (nat_lt 0 r.count) refl refl has

-- of the files of a map those that are named still are as they were, and others were taken
pub record IsStill (folder : Folder) (m : Mailbox) (from : ℕ) (shown : Folder) (mid : Mailbox) : Type 0 where
  pub zeros : (f : ℕ) → HasGone mid f → IsNamed m f
  pub names : (f : ℕ) → IsNamed m f → (f < from) ⊎ IsNamed mid f
  pub same : KeepsNamed folder shown m mid

pub still_none : (folder shown : Folder) (m : Mailbox) → ((f : ℕ) → IsNamed m f → shown (name.Mail f) ≡ folder (name.Mail f)) → IsStill folder m 0 shown m
still_none folder shown m same = record { zeros = λ f some. (some.0, some.1, some.3); names = λ f named. inr named; same = λ f named again. same f named }

module _ (folder : Folder) (m : Mailbox) (from file : ℕ) (mid : Mailbox) (next : IsNextGone mid from file) where
  still_over : (old new : Folder) (after : Mailbox) → after ≡ mid → new ≡ old → IsStill folder m from old mid → IsStill folder m (file + 1) new after
  still_over old new after same still was =
      let there = next.from_there in
      subst (λ (n : Mailbox). IsStill folder m (file + 1) new n) (sym same) (subst (λ (f : Folder). IsStill folder m (file + 1) f mid) (sym still)
      (record { zeros = was.zeros; names = λ f named. ⊎_elim (λ low. inl (omega (arith, low, there))) inr (was.names f named); same = was.same }))

  module _ (old new : Folder) (after : Mailbox) (is : IsTakenAway file old new mid after) (was : IsStill folder m from old mid) where
    names_on : (f : ℕ) → IsNamed m f → (b : Bool) → nat_eq f file ≡ b → (f < file + 1) ⊎ IsNamed after f
    names_on f named true test = inl (let same : f ≡ file = eqb-true f file test in omega (arith, same))
    names_on f named false test =
        let there = next.from_there in
        let away : f ≢ file = eqb-false f file test in
        ⊎_elim (λ low. inl (omega (arith, low, there)))
        (λ row. inr (row.0, row_left from file is.number mid after next is.above is.map row.0 row.1 (λ e. away (sym row.2 ∙ e)), row.2)) (was.names f named)

    -- the new file is none of the first map's
    not_new : (f : ℕ) → IsNamed m f → (kept_rows mid file ≡ [] → ⊥) → f ≡ is.number → ⊥
    not_new f named some same =
        let there = next.from_there in
        let first = next.some in
        ⊎_elim some
        (λ above.
        let high = named_below mid is.number above first.0 first.1 in
        let at = first.3 in
        ⊎_elim (λ low. absurd (omega (arith, low, there, high, at, same)))
        (λ row. let low = named_below mid is.number above row.0 row.1 in let here = row.2 in absurd (omega (arith, low, here, same))) (was.names f named)) is.above

    same_on : KeepsNamed folder new m after
    same_on f named again =
        ⊎_elim
        (λ before.
        let has = of_has (all_mapped mid) again.0 before.0 in
        let away : f ≢ file = λ e. before.1 (again.2 ∙ e) in
        let apart = subst (λ (n : ℕ). (n ≢ is.number) ⊎ (kept_rows mid file ≡ [])) again.2 (apart_row from file is.number mid after next is.above is.map again.0 has) in
        is.others f away apart ∙ was.same f named (again.0, has, again.2))
        (λ moved. absurd (not_new f named moved.0 (sym again.2 ∙ moved.1)))
        (from_row file is.number again.0 (all_mapped mid) 0 (subst (Has again.0) is.map.rows (has_of (all_mapped after) again.0 again.1)))

    still_taken : IsStill folder m (file + 1) new after
    still_taken = record {
      zeros = λ f some. was.zeros f (zero_from from file is.number mid after next is.above is.map f some).0;
      names = λ f named. names_on f named (nat_eq f file) refl;
      same = same_on;
    }

  pub still_more : (old new : Folder) (after : Mailbox) → IsTaken file old new mid after → IsStill folder m from old mid → IsStill folder m (file + 1) new after
  still_more old new after taken was = ⊎_elim (λ over. still_over old new after over.1 over.2 was) (λ away. still_taken old new after away.1 was) taken

  -- so is the next file
  pub still_next : (shown : Folder) → IsStill folder m from shown mid → shown (name.Mail file) ≡ folder (name.Mail file)
  still_next shown was =
      let some = next.some in
      was.same file (was.zeros file some) (some.0, some.1, some.3)

-- what is known of the folder stays so
module _ {S C : Type 0} (sees : SeesFolder S) where
  abbrev pub KnowsStill : Option Folder → State S C → ℕ → State S C → Type 0
  KnowsStill None start from s = Unit {0}
  KnowsStill (Some folder) start from s = IsStill folder start.chain.live.mailbox from (sees.files s.shelf) s.chain.live.mailbox

  pub knows_start : (known : Option Folder) (s : State S C) → KnowsFiles sees known s → KnowsStill known s 0 s
  knows_start None s knows = tt
  knows_start (Some folder) s knows = still_none folder (sees.files s.shelf) s.chain.live.mailbox knows.2

  pub knows_next : (known : Option Folder) (start s : State S C) (from file : ℕ) → IsNextGone s.chain.live.mailbox from file → KnowsFiles sees known start → KnowsStill known start from s → KnowsFile sees known file s
  knows_next None start s from file next knows still = tt
  knows_next (Some folder) start s from file next knows still = (knows.0, still_next folder start.chain.live.mailbox from file s.chain.live.mailbox next (sees.files s.shelf) still)

  pub knows_more : (known : Option Folder) (start mid new : State S C) (from file : ℕ) → IsNextGone mid.chain.live.mailbox from file
      → (sees.tells → (messages : Messages) → IsAtRest sees messages Nothing start → IsTaken file (sees.files mid.shelf) (sees.files new.shelf) mid.chain.live.mailbox new.chain.live.mailbox) → KnowsFiles sees known start → KnowsStill known start from mid → KnowsStill known start (file + 1) new
  knows_more None start mid new from file next taken knows still = tt
  knows_more (Some folder) start mid new from file next taken knows still =
      still_more folder start.chain.live.mailbox from file mid.chain.live.mailbox next (sees.files mid.shelf) (sees.files new.shelf) new.chain.live.mailbox (taken knows.0 knows.1.0 knows.1.1) still

-- behind the repair, and the removal of files that no row names
pub shown_still : {S C : Type 0} (sees : SeesFolder S) (folder : Folder) (mid new : State S C) → ((f : ℕ) → sees.files mid.shelf (name.Mail f) ≡ folder (name.Mail f))
    → ((f : ℕ) → IsNamed mid.chain.live.mailbox f → sees.files new.shelf (name.Mail f) ≡ sees.files mid.shelf (name.Mail f)) → IsLookedAt mid new → (f : ℕ) → IsNamed new.chain.live.mailbox f → sees.files new.shelf (name.Mail f) ≡ folder (name.Mail f)
shown_still sees folder mid new before kept looked f named = kept f (subst (λ (k : Chain). IsNamed k.live.mailbox f) looked.chain named) ∙ before f

-- ---- which files are rewritten

module _ (F : Folder) where
  abbrev TakenIn : Mailbox → ℕ → ℕ → ℕ → Type 0
  TakenIn m from to file = IsPurgedFile F m file × (from ≤ file) × (file < to)

  abbrev GoesIn : Mailbox → ℕ → ℕ → Mapped → Type 0
  GoesIn m from to r = (r.count ≡ 0) × TakenIn m from to r.place.file

  abbrev IsAbove : Mailbox → Place → Type 0
  IsAbove m place = All (λ (x : Mapped). x.place.file < place.file) (all_mapped m)

  abbrev StaysIn : Mailbox → ℕ → ℕ → Mapped → Place → Type 0
  StaysIn m from to r place =
      ((TakenIn m from to r.place.file → ⊥) × (place ≡ r.place))
      ⊎ (TakenIn m from to r.place.file × (1 ≤ r.count) × (place.size ≡ r.place.size) × IsAbove m place)

  rises : (files : List ℕ) (from to : ℕ) (m after : Mailbox) (groups : List (List Record)) → PurgesFiles (Some F) from m files groups to after → from ≤ to
  rises [] from to m after groups is = let same = is.1 in omega (arith, same)
  rises (file ∷ files) from to m after groups is =
      let there = is.0.from_there in
      ⊎_elim (λ over. let more = rises files (file + 1) to m after groups over.1 in omega (arith, there, more))
      (λ done. let more = rises files (file + 1) to done.2 after done.3 done.6 in omega (arith, there, more)) is.1

  not_fit : (m : Mailbox) (file : ℕ) → IsFit F m file → IsPassedOver F m file → ⊥
  not_fit m file fit =
      ⊎_elim
      (λ damaged.
      let r : Mapped = damaged.0 in
      let has = damaged.1 in
      subst (λ (x : Mapped). text_at F x.place ≢ Damaged) has.2 (fit.whole has.0 r has.1) damaged.2)
      (λ long. let short = fit.short in absurd (omega (arith, long, short)))

  -- a row without references is no lower than the first one
  not_low : (m : Mailbox) (from file : ℕ) → IsNextGone m from file → (f : ℕ) → HasGone m f → from ≤ f → file ≤ f
  not_low m from file first f (s, (k, less, at), none, named) there =
      let here = subst (λ (x : Mapped). x.count ≡ 0 → (x.place.file < from) ⊎ (file ≤ x.place.file)) at (first.first k s less) none in
      ⊎_elim (λ low. absurd (omega (arith, low, named, there))) (λ high. omega (arith, high, named)) here

  -- the first file is passed over
  module _ (m : Mailbox) (from file to : ℕ) (first : IsNextGone m from file) (over : IsPassedOver F m file) where
    over_taken : (f : ℕ) → TakenIn m from to f → TakenIn m (file + 1) to f
    over_taken f taken =
        let other : f ≢ file = λ e. not_fit m file (subst (IsFit F m) e taken.0.1) over in
        let high = not_low m from file first f taken.0.0 taken.1 in
        (taken.0, omega (arith, high, other), taken.2)

    over_back : (f : ℕ) → TakenIn m (file + 1) to f → TakenIn m from to f
    over_back f taken = let there = first.from_there in let low = taken.1 in (taken.0, omega (arith, there, low), taken.2)

    over_stays : (r : Mapped) (p : Place) → StaysIn m (file + 1) to r p → StaysIn m from to r p
    over_stays r p = ⊎_elim (λ still. inl (λ taken. still.0 (over_taken r.place.file taken), still.1)) (λ moved. inr (over_back r.place.file moved.0, moved.1, moved.2, moved.3))

  -- it is rewritten
  module _ (from file new to : ℕ) (m next : Mailbox) (first : IsNextGone m from file) (higher : (kept_rows m file ≡ []) ⊎ IsNextFile m new) (is : Rewrites file new m next) (fit : IsFit F m file) (high : file < to) where
    fit_back : (f : ℕ) → f ≢ file → (f ≢ new) ⊎ (kept_rows m file ≡ []) → IsFit F next f → IsFit F m f
    fit_back f away apart was =
        let same = kept_same from file new m next first higher is f away apart in
        record { whole = subst (All (λ (r : Mapped). text_at F r.place ≢ Damaged)) same was.whole; short = subst (λ (l : List Mapped). size_of l < 2 ^ 32) same was.short }

    fit_on : (f : ℕ) → f ≢ file → (f ≢ new) ⊎ (kept_rows m file ≡ []) → IsFit F m f → IsFit F next f
    fit_on f away apart was =
        let same = sym (kept_same from file new m next first higher is f away apart) in
        record { whole = subst (All (λ (r : Mapped). text_at F r.place ≢ Damaged)) same was.whole; short = subst (λ (l : List Mapped). size_of l < 2 ^ 32) same was.short }

    taken_here : (f : ℕ) → f ≡ file → TakenIn m from to f
    taken_here f same = subst (TakenIn m from to) (sym same) ((first.some, fit), first.from_there, high)

    taken_back : (f : ℕ) → TakenIn next (file + 1) to f → TakenIn m from to f
    taken_back f taken =
        let zero = zero_from from file new m next first higher is f taken.0.0 in
        let apart = apart_file from file new m next first higher is f zero.0 in
        let there = first.from_there in
        let low = taken.1 in
        ((zero.0, fit_back f zero.1 apart taken.0.1), omega (arith, there, low), taken.2)

    taken_on : (f : ℕ) → f ≢ file → TakenIn m from to f → TakenIn next (file + 1) to f
    taken_on f away taken =
        let apart = apart_file from file new m next first higher is f taken.0.0 in
        let over = not_low m from file first f taken.0.0 taken.1 in
        ((zero_stays from file new m next first higher is f taken.0.0 away, fit_on f away apart taken.0.1), omega (arith, over, away), taken.2)

    module _ (r : Mapped) (has : Contains (all_mapped m) r) where
      -- it is kept, so that a new file is needed
      some_kept : r.place.file ≡ file → 1 ≤ r.count → kept_rows m file ≡ [] → ⊥
      some_kept named some none =
          let one : nat_eq r.place.file file ≡ true = grind (arith, nat_tests, named) in
          let two : nat_lt 0 r.count ≡ true = grind (arith, nat_tests, some) in
          let test : is_kept file r ≡ true = λ i. one i && two i in
          let long = passed (is_kept file) (all_mapped m) has.0 r has.1 has.2 test in
          let short : length (kept_rows m file) ≡ 0 = ap length none in
          omega (arith, long, short)

      above_new : r.place.file ≡ file → 1 ≤ r.count → All (λ (x : Mapped). x.place.file < new) (all_mapped m)
      above_new named some =
          ⊎_elim (λ none. absurd (some_kept named some none))
          (λ above k d inside. let rs : List Mapped = all_mapped m in named_below m new above (get_or rs k d) (k, inside, get_or_default rs k (get_or rs k d) d inside)) higher

      moves_row : r.place.file ≡ file → 1 ≤ r.count → (at : ℕ) (p : Place) → StaysIn next (file + 1) to (new_row file new at r) p → StaysIn m from to r p
      moves_row named some at p =
          ⊎_elim
          (λ still. inr (
            taken_here r.place.file named,
            some,
            ap (λ (q : Place). q.size) still.1,
            subst (λ (n : ℕ). All (λ (x : Mapped). x.place.file < n) (all_mapped m)) (sym (ap (λ (q : Place). q.file) still.1)) (above_new named some),
          ))
          (λ moved.
          let zero = zero_from from file new m next first higher is new moved.0.0.0 in
          absurd (⊎_elim (λ other. other refl) (some_kept named some) (apart_file from file new m next first higher is new zero.0)))

      above_back : r.place.file ≢ file → file + 1 ≤ r.place.file → (p : Place) → IsAbove next p → IsAbove m p
      above_back away over p above k d inside =
          let x : Mapped = get_or (all_mapped m) k d in
          by_file x (k, inside, get_or_default (all_mapped m) k x d inside) (nat_eq x.place.file file) refl
        where
          below : (s : Mapped) → Contains (all_mapped next) s → s.place.file < p.file
          below s (j, less, at) = subst (λ (y : Mapped). y.place.file < p.file) at (above j s less)

          by_file : (x : Mapped) → Contains (all_mapped m) x → (b : Bool) → nat_eq x.place.file file ≡ b → x.place.file < p.file
          by_file x there true test =
              let same : x.place.file ≡ file = eqb-true x.place.file file test in
              let low = below r (row_left from file new m next first higher is r has away) in
              omega (arith, same, low, over)
          by_file x there false test = below x (row_left from file new m next first higher is x there (eqb-false x.place.file file test))

      step_of : IsStep file new (GoesIn m from to) (GoesIn next (file + 1) to) (StaysIn m from to) (StaysIn next (file + 1) to) r
      step_of = record {
        gone = λ named none. (none, taken_here r.place.file named);
        moved = λ named some at goes. let none = goes.0 in absurd (omega (arith, some, none));
        moves = moves_row;
        goes = λ away goes. (goes.0, taken_back r.place.file goes.1);
        stays = λ away p.
            ⊎_elim (λ still. inl (λ taken. still.0 (taken_on r.place.file away taken), still.1))
            (λ moved. inr (taken_back r.place.file moved.0, moved.1, moved.2, above_back away moved.0.1 p moved.3));
      }

  rows_walk : (files : List ℕ) (from to : ℕ) (m after : Mailbox) (groups : List (List Record)) → IsMap m → PurgesFiles (Some F) from m files groups to after → (gone : List ℕ) × LeavesRows (GoesIn m from to) (StaysIn m from to) (all_mapped m) gone (all_mapped after)
  rows_walk [] from to m after groups map is = (
    [],
    subst (λ (n : Mailbox). LeavesRows (GoesIn m from to) (StaysIn m from to) (all_mapped m) [] (all_mapped n)) (sym is.2)
        (leaves_all (GoesIn m from to) (StaysIn m from to) (all_mapped m) (λ r. inl (λ taken. (let low = taken.1 in let high = taken.2 in let same = is.1 in absurd (omega (arith, low, high, same))), refl))),
  )
  rows_walk (file ∷ files) from to m after groups map is =
      ⊎_elim
      (λ over.
      let rest = rows_walk files (file + 1) to m after groups map over.1 in (
        rest.0,
        leaves_as (GoesIn m (file + 1) to) (GoesIn m from to) (StaysIn m (file + 1) to) (StaysIn m from to) (λ r goes. (goes.0, over_back m from file to is.0 over.0 r.place.file goes.1)) (over_stays m from file to is.0 over.0) (all_mapped m) rest.0 (all_mapped after) rest.1,
      ))
      (λ done.
      let new : ℕ = done.1 in
      let next : Mailbox = done.2 in
      let rewrites = done.4.map map in
      let rest = rows_walk files (file + 1) to next after done.3 rewrites.map done.6 in
      let high : file < to = (let more = rises files (file + 1) to next after done.3 done.6 in omega (arith, more)) in
      leaves_step file new (GoesIn m from to) (GoesIn next (file + 1) to) (StaysIn m from to) (StaysIn next (file + 1) to) (all_mapped m) 0 rest.0 (all_mapped after)
      (λ k d inside. let rs : List Mapped = all_mapped m in step_of from file new to m next is.0 done.4.number.above rewrites done.0 high (get_or rs k d) (k, inside, get_or_default rs k (get_or rs k d) d inside))
      (subst (λ (l : List Mapped). LeavesRows (GoesIn next (file + 1) to) (StaysIn next (file + 1) to) l rest.0 (all_mapped after)) rewrites.rows rest.1)) is.1

  -- all files were taken
  module _ (m after : Mailbox) (files : List ℕ) (groups : List (List Record)) (to : ℕ) (map : IsMap m) (walk : PurgesFiles (Some F) 0 m files groups to after) (none_from : NoneGoneFrom after to) where
    abbrev rows : (gone : List ℕ) × LeavesRows (GoesIn m 0 to) (StaysIn m 0 to) (all_mapped m) gone (all_mapped after)
    rows = rows_walk files 0 to m after groups map walk

    all_low : (f : ℕ) → HasGone m f → f < to
    all_low f (s, has, none, named) =
        ⊎_elim (λ goes. subst (λ (n : ℕ). n < to) named goes.1.2)
        (λ at.
        ⊎_elim
        (λ still.
        let there = of_has (all_mapped after) (record s { place = at.0 }) at.2 in
        let low = subst (λ (x : Mapped). x.count ≡ 0 → x.place.file < to) there.2 (none_from there.0 (record s { place = at.0 }) there.1) none in
        let same : at.0.file ≡ s.place.file = ap (λ (q : Place). q.file) still.1 in
        omega (arith, low, same, named))
        (λ moved. let some = moved.1 in absurd (omega (arith, some, none))) at.1)
        (leaves_find (GoesIn m 0 to) (StaysIn m 0 to) (all_mapped m) rows.0 (all_mapped after) rows.1 s (has_of (all_mapped m) s has))

    pub purged_rows : (gone : List ℕ) × LeavesRows (Goes F m) (StaysAt F m) (all_mapped m) gone (all_mapped after)
    purged_rows = (
      rows.0,
      leaves_as (GoesIn m 0 to) (Goes F m) (StaysIn m 0 to) (StaysAt F m) (λ r goes. (goes.0, goes.1.0))
          (λ r p. ⊎_elim (λ still. inl (λ purged. still.0 (purged, omega arith, all_low r.place.file purged.0), still.1)) (λ moved. inr (moved.0.0, moved.1, moved.2, moved.3))) (all_mapped m) rows.0 (all_mapped after) rows.1,
    )

-- ---- a purge that is done

none_of : (o : Option (List ℕ)) → (IsSome o → ⊥) → o ≡ None
none_of None never = refl
none_of (Some x) never = absurd (never refl)

module _ (F new : Folder) (m after : Mailbox) (rows : (gone : List ℕ) × LeavesRows (Goes F m) (StaysAt F m) (all_mapped m) gone (all_mapped after)) where
  file_removed : AllNamed new after → (f : ℕ) → IsPurgedFile F m f → new (name.Mail f) ≡ None
  file_removed named f purged = none_of (new (name.Mail f)) (λ some.
      let row = named f some in
      let from = leaves_from (Goes F m) (StaysAt F m) (all_mapped m) rows.0 (all_mapped after) rows.1 row.0 (has_of (all_mapped after) row.0 row.1) in
      let first = purged.0 in
      ⊎_elim (λ still. still.0 (subst (IsPurgedFile F m) (sym (sym (ap (λ (q : Place). q.file) still.1) ∙ row.2)) purged))
      (λ moved.
      let has = first.1 in
      let low = subst (λ (x : Mapped). x.place.file < row.0.place.file) has.2 (moved.3 has.0 first.0 has.1) in
      let one = first.3 in
      let two = row.2 in
      absurd (omega (arith, low, one, two))) from.2)

  named_still : (f : ℕ) → IsNamed m f → (IsPurgedFile F m f → ⊥) → IsNamed after f
  named_still f row other =
      ⊎_elim (λ goes. absurd (other (subst (IsPurgedFile F m) row.2 goes.1)))
      (λ at.
      ⊎_elim (λ still. (record row.0 { place = at.0 }, of_has (all_mapped after) (record row.0 { place = at.0 }) at.2, ap (λ (q : Place). q.file) still.1 ∙ row.2))
      (λ moved. absurd (other (subst (IsPurgedFile F m) row.2 moved.0))) at.1)
      (leaves_find (Goes F m) (StaysAt F m) (all_mapped m) rows.0 (all_mapped after) rows.1 row.0 (has_of (all_mapped m) row.0 row.1))

  pub is_purged : (n : ℕ) → n ≡ length m.rows - length after.rows → AllNamed new after → KeepsNamed F new m after → IsPurged F new m after n
  is_purged n count named same = record {
    gone = rows.0;
    rows = rows.1;
    count =
        let all = leaves_count (Goes F m) (StaysAt F m) (all_mapped m) rows.0 (all_mapped after) rows.1 in
        let before = mapped_count m in
        let behind = mapped_count after in
        omega (arith, count, all, before, behind);
    removed = file_removed named;
    others = λ f row other. same f row (named_still f row other);
  }
