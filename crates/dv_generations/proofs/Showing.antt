-- A pass that was shown a generation.
use Rattle.std.proofs.Common.{◌≡◌, ℕ, zero, suc, ◌+◌, ◌-◌, ◌<◌, ◌≤◌, true, false, nat_lt, List, [], ◌∷◌, ◌++◌, length, Some, refl, sym, ap, subst, ◌∙◌, append_assoc, append-nil, arith, length-append}
use Rattle.std.specs.Prelude.{slice_get, slice_index_or, take, All}
use Rattle.std.proofs.lemmas.Bool.Decides.{nat_tests}
use Rattle.std.proofs.lemmas.List.{take_all}
use Rattle.std.proofs.lemmas.List.Elements.{All-head, All-tail}
use mathlib.Core.List.{IsPrefix}
use Rattle.atomic_table.specs.Seated.{TableId}
use Rattle.dv_model.specs.Journals.{Log}
use Rattle.dv_front.specs.declared.notes.Generation.{Generation}
use Rattle.dv_front.specs.declared.notes.Note.{Note}
use Rattle.dv_front.specs.Ends.{PassView, new_pass, shown}
use Rattle.dv_front.specs.Notes.{AreGood}
use Rattle.dv_front.specs.Rolls.{table_at}
use Rattle.dv_front.proofs.Prefixes.{prefix_nil}
use Rattle.dv_front.proofs.Tables.{table_at_prefix}
use Rattle.dv_generations.specs.declared.ends.Ends.{Ends}
use Rattle.dv_generations.specs.Feeds.{Feed, IsShown, joined, origin_of}
use Rattle.dv_generations.specs.Linked.{AreGenerations, AreLinked, parts_in, tables_in}
use Rattle.dv_generations.proofs.Linking.{at_newest, at_older, linked_at, table_below, table_is, table_named}

take_parts : (k : ℕ) (es : List Ends) → take k (parts_in es) ≡ parts_in (take k es)
take_parts zero es = refl
take_parts (suc k) [] = refl
take_parts (suc k) (x ∷ es) = ap (λ (l : List (List Note)). x.pen.notes ∷ l) (take_parts k es)

-- up to the end of a generation: those before it, and its own
front_more : (es : List Ends) (k : ℕ) (e : Ends) → slice_get es k ≡ Some e → joined (take (suc k) (parts_in es)) ≡ joined (take k (parts_in es)) ++ e.pen.notes
front_more [] k e at = absurd cc
front_more (x ∷ es) zero e at = let same : x ≡ e = cc at in append-nil x.pen.notes ∙ ap (λ (y : Ends). y.pen.notes) same
front_more (x ∷ es) (suc k) e at = ap (λ (l : List Note). x.pen.notes ++ l) (front_more es k e at) ∙ sym (append_assoc x.pen.notes (joined (take k (parts_in es))) e.pen.notes)

front_first : (n : ℕ) (parts : List (List Note)) → IsPrefix (joined (take n parts)) (joined parts)
front_first zero parts = prefix_nil (joined parts)
front_first (suc n) [] = ([], refl)
front_first (suc n) (part ∷ parts) = let rest = front_first n parts in (rest.0, append_assoc part (joined (take n parts)) rest.0 ∙ ap (λ (l : List Note). part ++ l) rest.1)

parts_long : (es : List Ends) → length (parts_in es) ≡ length es
parts_long [] = refl
parts_long (x ∷ es) = ap suc (parts_long es)

at_below : (es : List Ends) (k : ℕ) (e : Ends) → slice_get es k ≡ Some e → k < length es
at_below [] k e at = absurd cc
at_below (x ∷ es) zero e at = omega arith
at_below (x ∷ es) (suc k) e at = omega (arith, at_below es k e at)

-- the pass knows what the pen of the generation published, and whether it sealed it
pub record Shows (e : Ends) (p : PassView) : Type 0 where
  pub generation : p.generation ≡ e.pen.generation
  pub notes : p.notes ≡ e.pen.notes
  pub sealed : p.sealed ≡ e.pen.sealed
  pub good : AreGood p.generation p.notes

pub is_shown : (start : Log) (count : ℕ) (f : Feed) (es : List Ends) (k : ℕ) (e : Ends) (p : PassView) → f.parts ≡ parts_in es → AreLinked (origin_of start) count 0 [] es → slice_get es k ≡ Some e → Shows e p
    → e.pen.sealed ≡ nat_lt (suc k) (length es) → IsShown start count f (suc k) p
is_shown start count f es k e p parts linked at shows sealed =
    let link = linked_at (origin_of start) count 0 [] es k e linked at in
    let base : p.generation.base ≡ joined (take k f.parts) =
    ap (λ (g : Generation). g.base) (shows.generation ∙ link.generation) ∙ ap joined (sym (take_parts k es)) ∙ ap (λ (l : List (List Note)). joined (take k l)) (sym parts) in
    let whole : p.generation.base ++ p.notes ≡ joined (take (suc k) f.parts) =
    ap (λ (l : List Note). l ++ p.notes) base ∙ ap (λ (l : List Note). joined (take k f.parts) ++ l) shows.notes
    ∙ ap (λ (l : List (List Note)). joined (take k l) ++ e.pen.notes) parts ∙ sym (front_more es k e at) ∙ ap (λ (l : List (List Note)). joined (take (suc k) l)) (sym parts) in
    let long : length f.parts ≡ length es = ap (λ (l : List (List Note)). length l) parts ∙ parts_long es in
    let below = at_below es k e at in
    let down : suc k - 1 ≡ k = omega arith in
    record {
      there = (omega arith, omega (arith, long, below));
      generation = (
        ap (λ (g : Generation). g.number) (shows.generation ∙ link.generation) ∙ (omega arith),
        ap (λ (g : Generation). g.origin) (shows.generation ∙ link.generation),
        ap (λ (g : Generation). g.start_count) (shows.generation ∙ link.generation),
      );
      base = base ∙ ap (λ (n : ℕ). joined (take n f.parts)) (sym down);
      whole = whole;
      seen = subst (λ (l : List Note). IsPrefix l (joined f.parts)) (sym whole) (front_first (suc k) f.parts);
      newest = λ is. whole ∙ ap joined (take_all (suc k) f.parts (omega (arith, is)));
      sealed = shows.sealed ∙ sealed ∙ ap (λ (n : ℕ). nat_lt (suc k) n) (sym long);
      good = shows.good;
    }

-- ---- places

at_index : (es : List Ends) (k : ℕ) (d : Ends) → k < length es → slice_get es k ≡ Some (slice_index_or es k d)
at_index [] k d lt = absurd (omega arith)
at_index (x ∷ es) zero d lt = refl
at_index (x ∷ es) (suc k) d lt = at_index es k d (omega arith)

sealed_at : (es : List Ends) (k : ℕ) (e : Ends) → All (λ e. e.pen.sealed ≡ true) es → slice_get es k ≡ Some e → e.pen.sealed ≡ true
sealed_at [] k e all at = absurd cc
sealed_at (x ∷ es) zero e all at = let same : x ≡ e = cc at in subst (λ (y : Ends). y.pen.sealed ≡ true) same (All-head (λ (y : Ends). y.pen.sealed ≡ true) x es all)
sealed_at (x ∷ es) (suc k) e all at = sealed_at es k e (All-tail (λ (y : Ends). y.pen.sealed ≡ true) x es all) at

is_below : (a b : ℕ) → a < b → true ≡ nat_lt a b
is_below a b lt = grind (arith, nat_tests)

is_last : (a b : ℕ) → b ≤ a → false ≡ nat_lt a b
is_last a b le = grind (arith, nat_tests)

module _ (start : Log) (count : ℕ) (older : List Ends) (newest : Ends) (tables : List TableId) (are : AreGenerations (origin_of start) count older newest tables) where
  all_long : length (older ++ newest ∷ []) ≡ length older + 1
  all_long = length-append older (newest ∷ [])

  -- a generation that a leaf names has a table
  pub named_at : (leaf : List TableId) (number : ℕ) (t : TableId) → IsPrefix leaf tables → table_at leaf number ≡ Some t
      → (1 ≤ number) × (number ≤ length older + 1) × (slice_get (tables_in (older ++ newest ∷ [])) (number - 1) ≡ Some t)
  named_at leaf zero t p e = absurd cc
  named_at leaf (suc k) t p e =
      let down : k ≡ suc k - 1 = omega arith in
      let at : slice_get (tables_in (older ++ newest ∷ [])) k ≡ Some t = subst (λ (ts : List TableId). slice_get ts k ≡ Some t) are.named (table_at_prefix leaf tables (suc k) t p e) in
      let below = table_below (older ++ newest ∷ []) k t at in
      (omega arith, omega (arith, below, all_long), subst (λ (n : ℕ). slice_get (tables_in (older ++ newest ∷ [])) n ≡ Some t) down at)

  pub older_place : (number : ℕ) (e : Ends) → 1 ≤ number → number ≤ length older → e ≡ slice_index_or older (number - 1) e → slice_get older (number - 1) ≡ Some e
  older_place number e one le is = at_index older (number - 1) e (omega arith) ∙ ap (λ (x : Ends). Some x) (sym is)

  pub newest_place : (number : ℕ) → number ≡ length older + 1 → slice_get (older ++ newest ∷ []) (number - 1) ≡ Some newest
  newest_place number is =
      let down : length older ≡ number - 1 = omega arith in
      subst (λ (n : ℕ). slice_get (older ++ newest ∷ []) n ≡ Some newest) down (at_newest older newest)

  pub older_table : (number : ℕ) (e : Ends) (t : TableId) → slice_get older (number - 1) ≡ Some e → slice_get (tables_in (older ++ newest ∷ [])) (number - 1) ≡ Some t → t ≡ e.pen.table
  older_table number e t at named = table_is (older ++ newest ∷ []) (number - 1) e t (at_older older newest (number - 1) e at) named

  pub newest_table : (number : ℕ) (t : TableId) → number ≡ length older + 1 → slice_get (tables_in (older ++ newest ∷ [])) (number - 1) ≡ Some t → t ≡ newest.pen.table
  newest_table number t is named = table_is (older ++ newest ∷ []) (number - 1) newest t (newest_place number is) named

  -- its pass has taken nothing
  pub older_pass : (number : ℕ) (e : Ends) → slice_get older (number - 1) ≡ Some e → e.pass ≡ new_pass e.pen.table e.pen.generation
  older_pass number e at = (linked_at (origin_of start) count 0 [] (older ++ newest ∷ []) (number - 1) e are.linked (at_older older newest (number - 1) e at)).pass

  pub older_shown : (f : Feed) (number : ℕ) (e : Ends) (p : PassView) → f.parts ≡ parts_in (older ++ newest ∷ []) → 1 ≤ number → slice_get older (number - 1) ≡ Some e → Shows e p → IsShown start count f number p
  older_shown f number e p parts one at shows =
      let up : suc (number - 1) ≡ number = omega arith in
      let below = at_below older (number - 1) e at in
      subst (λ (n : ℕ). IsShown start count f n p) up
      (is_shown start count f (older ++ newest ∷ []) (number - 1) e p parts are.linked (at_older older newest (number - 1) e at) shows
      (sealed_at older (number - 1) e are.sealed at ∙ is_below (suc (number - 1)) (length (older ++ newest ∷ [])) (omega (arith, below, all_long))))

  pub newest_shown : (f : Feed) (number : ℕ) (p : PassView) → f.parts ≡ parts_in (older ++ newest ∷ []) → number ≡ length older + 1 → Shows newest p → IsShown start count f number p
  newest_shown f number p parts is shows =
      let up : suc (number - 1) ≡ number = omega arith in
      subst (λ (n : ℕ). IsShown start count f n p) up
      (is_shown start count f (older ++ newest ∷ []) (number - 1) newest p parts are.linked (newest_place number is) shows
      (are.last ∙ is_last (suc (number - 1)) (length (older ++ newest ∷ [])) (omega (arith, all_long))))

  -- the list names its table
  pub older_named : (number : ℕ) (e : Ends) → 1 ≤ number → slice_get older (number - 1) ≡ Some e → table_at tables number ≡ Some e.pen.table
  older_named zero e one at = absurd (omega arith)
  older_named (suc k) e one at =
      let down : suc k - 1 ≡ k = omega arith in
      let here : slice_get older k ≡ Some e = subst (λ (n : ℕ). slice_get older n ≡ Some e) down at in
      subst (λ (ts : List TableId). slice_get ts k ≡ Some e.pen.table) (sym are.named) (table_named (older ++ newest ∷ []) k e (at_older older newest k e here))

  pub newest_named : (number : ℕ) → number ≡ length older + 1 → table_at tables number ≡ Some newest.pen.table
  newest_named zero is = absurd (omega arith)
  newest_named (suc k) is =
      let down : suc k - 1 ≡ k = omega arith in
      let here : slice_get (older ++ newest ∷ []) k ≡ Some newest = subst (λ (n : ℕ). slice_get (older ++ newest ∷ []) n ≡ Some newest) down (newest_place (suc k) is) in
      subst (λ (ts : List TableId). slice_get ts k ≡ Some newest.pen.table) (sym are.named) (table_named (older ++ newest ∷ []) k newest here)

  pub count_is : (f : Feed) → f.parts ≡ parts_in (older ++ newest ∷ []) → length f.parts ≡ length older + 1
  count_is f parts = ap (λ (l : List (List Note)). length l) parts ∙ parts_long (older ++ newest ∷ []) ∙ all_long

-- ---- passes

-- a pass of the pen's table that was shown what it published
pub shows_of : (e : Ends) (old new : PassView) → new ≡ shown e.pen old → old.generation ≡ e.pen.generation → AreGood new.generation new.notes → Shows e new
shows_of e old new is one good = record {
  generation = ap (λ (p : PassView). p.generation) is ∙ one;
  notes = ap (λ (p : PassView). p.notes) is;
  sealed = ap (λ (p : PassView). p.sealed) is;
  good = good;
}

-- one that has taken nothing
abbrev pub IsPassOf : Ends → PassView → Type 0
IsPassOf e p = (p ≡ shown e.pen e.pass) × AreGood p.generation p.notes

pub pass_shows : (e : Ends) (p : PassView) → e.pass ≡ new_pass e.pen.table e.pen.generation → IsPassOf e p → Shows e p
pass_shows e p new is = shows_of e e.pass p is.0 (ap (λ (q : PassView). q.generation) new) is.1

pub pass_fresh : (e : Ends) (p : PassView) → e.pass ≡ new_pass e.pen.table e.pen.generation → IsPassOf e p → (p.taken ≡ 0) × (p.loads ≡ 0)
pass_fresh e p new is = (ap (λ (q : PassView). q.taken) is.0 ∙ ap (λ (q : PassView). q.taken) new, ap (λ (q : PassView). q.loads) is.0 ∙ ap (λ (q : PassView). q.loads) new)

pub pass_table : (e : Ends) (p : PassView) → e.pass ≡ new_pass e.pen.table e.pen.generation → IsPassOf e p → e.pen.table ≡ p.table
pass_table e p new is = sym (ap (λ (q : PassView). q.table) is.0 ∙ ap (λ (q : PassView). q.table) new)
