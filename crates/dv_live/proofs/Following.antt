-- A kept search that follows agrees with the rows as they are told of.
use Rattle.std.proofs.Common.{◌≡◌, ℕ, ◌+◌, ◌<◌, ◌≤◌, Bool, true, false, cond, List, [], ◌∷◌, ◌++◌, drop, length, map, Option, None, Some, refl, sym, ap, subst, ◌∙◌, arith}
use Rattle.std.specs.Prelude.{All, IfSome, nat_eq, nat_lt, option_to_list}
use Rattle.std.specs.List.{AllByRecursion}
use Rattle.std.specs.List.Sorted.{IsStrictlyIncreasing}
use Rattle.std.proofs.lemmas.List.{length-append}
use Rattle.std.proofs.Math.Seq.{drop-append_seam}
use Rattle.std.proofs.lemmas.List.Elements.{All-map, All-weaker}
use Rattle.dv_model.specs.declared.types.Fresh.{Fresh}
use Rattle.dv_model.specs.declared.types.Key.{Key}
use Rattle.dv_model.specs.declared.types.Mailbox.{Mailbox}
use Rattle.dv_model.specs.declared.types.Row.{Row}
use Rattle.dv_model.specs.declared.types.Shown.{Shown}
use Rattle.dv_model.specs.Fresh.{patched, with_fresh}
use Rattle.dv_model.specs.Mailboxes.{IsRowOf, IsValid}
use Rattle.dv_model.specs.Views.{shown}
use Rattle.dv_model.proofs.Clients.{Above, above_of_rising, each_of_all, each_weaker, all_shown_rise, shown_uids}
use Rattle.dv_view.proofs.Moving.{all_of_each, rising_of}
use Rattle.dv_view.proofs.Patching.{Rises, patched_above}
use Rattle.dv_view.proofs.Placing.{rises_of}
use Rattle.dv_search.specs.declared.sought.Sought.{Sought}
use Rattle.dv_search.specs.Sought.{IsReady}
use Rattle.dv_live.specs.declared.verdicts.Verdict.{Verdict}
use Rattle.dv_live.specs.Groups.{Followed}
use Rattle.dv_live.specs.Keeping.{IsPlaced, KeptSearch, MayFollow, found_uids}
use Rattle.dv_live.specs.Laws.{IsOf}
use Rattle.dv_live.specs.Steadiness.{steady}
use Rattle.dv_live.specs.Turning.{IsKept, RiseFrom, turned, verdict_of}
use Rattle.dv_live.proofs.Turning.{turned_rises}
use Rattle.dv_live.proofs.Found.{found, found_is, found_patched, found_rises, found_stays}

-- ---- places

abbrev PlacedIn : ℕ → Shown → Type 0
PlacedIn count s = AllByRecursion (λ k. k < count) s.keywords

placed_each : (count : ℕ) (s : Shown) → IsPlaced count s → PlacedIn count s
placed_each count s placed = each_of_all (λ (k : ℕ). k < count) s.keywords placed

with_each : (P : Shown → Type 0) (rows : List Shown) (f : Fresh) → AllByRecursion P rows → IfSome f.row P → AllByRecursion P (with_fresh rows f)
with_each P rows f each one = by_rows rows each
  where
    put : (o : Option Shown) (rows : List Shown) → IfSome o P → AllByRecursion P rows → AllByRecursion P (option_to_list o ++ rows)
    put None rows one each = each
    put (Some s) rows one each = (one, each)

    alone : (o : Option Shown) → IfSome o P → AllByRecursion P (option_to_list o)
    alone None one = tt
    alone (Some s) one = (one, tt)

    by_rows : (rows : List Shown) → AllByRecursion P rows → AllByRecursion P (with_fresh rows f)
    by_rows [] each = alone f.row one
    by_rows (s ∷ rows) each = by_test (nat_lt s.uid f.uid) (nat_eq s.uid f.uid) (by_rows rows each.1)
      where
        by_test : (b c : Bool) → AllByRecursion P (with_fresh rows f)
            → AllByRecursion P (cond b (s ∷ with_fresh rows f) (cond c (option_to_list f.row ++ rows) (option_to_list f.row ++ s ∷ rows)))
        by_test true c rest = (each.0, rest)
        by_test false true rest = put f.row rows one each.1
        by_test false false rest = put f.row (s ∷ rows) one each

patched_each : (P : Shown → Type 0) (rows : List Shown) (fresh : List Fresh) → AllByRecursion P rows → AllByRecursion (λ (f : Fresh). IfSome f.row P) fresh → AllByRecursion P (patched rows fresh)
patched_each P rows [] each ones = each
patched_each P rows (f ∷ fresh) each ones = patched_each P (with_fresh rows f) fresh (with_each P rows f each ones.0) ones.1

wider : (a b : ℕ) (s : Shown) → a ≤ b → IsPlaced a s → IsPlaced b s
wider a b s le placed k d inside = let less = placed k d inside in omega (arith, less, le)

-- ---- what following leaves

pub follows : (old : KeptSearch) (fresh : List Fresh) (names : List (List ℕ)) (uids : List ℕ) → steady old.key ≡ true → MayFollow old fresh names
    → uids ≡ turned old.uids (map (verdict_of old.key names) fresh) → Followed old (record { key = old.key; uids = uids; names = names }) fresh names
follows old fresh names uids steady may is = record {
  key = refl;
  names = refl;
  agrees = λ rows agrees.
      let key = old.key in
      let above : Above 0 rows = above_of_rising rows agrees.rising in
      let rises : Rises 0 fresh = rises_of fresh may.given in
      let more = may.more in
      let fewer : length old.names ≤ length names = omega (arith, length-append old.names may.more, ap length may.begins) in
      let placed : AllByRecursion (PlacedIn (length old.names)) rows = each_weaker (IsPlaced (length old.names)) (PlacedIn (length old.names)) (placed_each (length old.names)) rows (each_of_all (IsPlaced (length old.names)) rows agrees.placed) in
      record {
        rising = rising_of 0 (patched rows fresh) (patched_above 0 rows fresh above rises);
        placed = all_of_each (IsPlaced (length names)) (patched rows fresh)
            (patched_each (IsPlaced (length names)) rows fresh
            (each_weaker (IsPlaced (length old.names)) (IsPlaced (length names)) (λ s. wider (length old.names) (length names) s fewer) rows (each_of_all (IsPlaced (length old.names)) rows agrees.placed))
            (each_of_all (λ (f : Fresh). IfSome f.row (IsPlaced (length names))) fresh may.placed));
        uids = is
            ∙ ap (λ us. turned us (map (verdict_of key names) fresh)) (agrees.uids ∙ found_is key old.names steady rows ∙ sym (found_stays key old.names more rows placed) ∙ ap (λ ns. found key ns rows) (sym may.begins))
            ∙ sym (found_patched key names 0 rows fresh above rises)
            ∙ sym (found_is key names steady (patched rows fresh));
      };
}

-- what is found of a whole mailbox is kept of it
pub kept_of : (key : Key) (uids : List ℕ) (names : List (List ℕ)) (m : Mailbox) → IsValid m → names ≡ m.keywords → uids ≡ found_uids key m.keywords (map shown m.rows)
    → IsOf (record { key = key; uids = uids; names = names }) m
kept_of key uids names m valid table is = record {
  names = table;
  agrees = record {
    rising = subst IsStrictlyIncreasing (sym (shown_uids m.rows)) valid.rising;
    placed = subst (λ (ns : List (List ℕ)). All (IsPlaced (length ns)) (map shown m.rows)) (sym table)
        (All-map (IsPlaced (length m.keywords)) shown m.rows (All-weaker (IsRowOf m) (λ (row : Row). IsPlaced (length m.keywords) (shown row)) (λ row is. is.keywords.1) m.rows valid.rows));
    uids = is ∙ ap (λ ns. found_uids key ns (map shown m.rows)) (sym table);
  };
}

-- UIDs of what is told rise
pub fresh_rise : (n : ℕ) (fresh : List Fresh) → Rises n fresh → RiseFrom n (map (λ (f : Fresh). f.uid) fresh)
fresh_rise n [] rises = tt
fresh_rise n (f ∷ fresh) rises = (rises.0, fresh_rise (f.uid + 1) fresh rises.2)

-- ---- what is kept beside the key

pub kept_start : (key : Key) (sought : Sought) (uids : List ℕ) (m : Mailbox) → IsValid m → steady key ≡ true → IsReady key sought → uids ≡ found_uids key m.keywords (map shown m.rows) → IsKept key sought uids
kept_start key sought uids m valid steady_key ready is = record {
  steady = steady_key;
  ready = ready;
  rising = subst (RiseFrom 0) (sym (is ∙ found_is key m.keywords steady_key (map shown m.rows))) (found_rises key m.keywords (map shown m.rows) (all_shown_rise m valid.rising));
}

pub kept_on : (key : Key) (sought : Sought) (uids made : List ℕ) (vs : List Verdict) → IsKept key sought uids → made ≡ turned uids vs → IsKept key sought made
kept_on key sought uids made vs kept is = record { steady = kept.steady; ready = kept.ready; rising = subst (RiseFrom 0) (sym is) (turned_rises uids vs kept.rising) }

pub known_first : (old names more : List (List ℕ)) → names ≡ old ++ more → length old ≤ length names
known_first old names more e = omega (arith, length-append old more, ap length e)

-- the names with those behind the known ones
pub names_on : (old names more : List (List ℕ)) → names ≡ old ++ more → old ++ drop (length old) names ≡ names
names_on old names more e = ap (λ ns. old ++ drop (length old) ns) e ∙ ap (λ ns. old ++ ns) (drop-append_seam old more) ∙ sym e

pub follows_by : (old : KeptSearch) (fresh : List Fresh) (names : List (List ℕ)) (key : Key) (uids : List ℕ) (list : List (List ℕ)) → steady old.key ≡ true → MayFollow old fresh names
    → key ≡ old.key → uids ≡ turned old.uids (map (verdict_of old.key names) fresh) → list ≡ names → Followed old (record { key = key; uids = uids; names = list }) fresh names
follows_by old fresh names key uids list steady_key may same is table =
    subst (λ (ns : List (List ℕ)). Followed old (record { key = key; uids = uids; names = ns }) fresh names) (sym table)
    (subst (λ (k : Key). Followed old (record { key = k; uids = uids; names = names }) fresh names) (sym same) (follows old fresh names uids steady_key may is))
