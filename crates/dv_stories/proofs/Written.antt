-- Each entry of the log is that of an answered command, or one that its session left.
use Rattle.std.proofs.Common.{◌≡◌, ◌⊎◌, inl, inr, ℕ, zero, suc, ◌+◌, ◌<◌, ◌≤◌, Bool, true, false, cond, ◌&&◌, ◌||◌, List, [], ◌∷◌, ◌++◌, length, get_or, nat_eq, nat_le, Option, Some, None, refl, sym, ◌∙◌, ap, subst, arith}
use Rattle.std.specs.Prelude.{All, IfSome, drop, map, option_map, option_to_list, slice_get, unwrap_or}
use Rattle.std.proofs.lemmas.Bool.{and_parts, le-leb, leb-true}
use Rattle.std.proofs.lemmas.Bool.Decides.{nat_tests}
use Rattle.std.proofs.lemmas.List.{length-map}
use Rattle.std.proofs.lemmas.List.Elements.{All-head, All-tail}
use Rattle.std.proofs.lemmas.Option.{none-some, same_Some, slice_get-get_or, slice_get-map, slice_get_within}
use Rattle.dv_model.specs.declared.types.Command.{Command}
use Rattle.dv_model.specs.declared.types.Entry.{Entry}
use Rattle.dv_model.specs.declared.types.Reply.{Reply}
use Rattle.dv_model.specs.Journals.{IsSound, Log}
use Rattle.dv_model.specs.Sessions.{State}
use Rattle.dv_model.specs.Transcripts.{Answered, AreWritten, AreWrittenBut, HasLeft, IsNextLeft, IsOwn, IsTurn, Spoken, Turn, WroteEntry}
use Rattle.dv_stories.specs.Growing.{AreWrittenByAll}
use Rattle.dv_stories.specs.Stories.{AreAll, NextLeft, Progress, MeetNoFewer, Story, places_of, total}
use Rattle.dv_stories.proofs.Counting.{Each, Rises, all_counted, count_at, count_places, has, has_each, rises_lower}
use Rattle.dv_stories.proofs.Stories.{never_shorter, turn_up}

-- ---- the places of a story

-- all places that turns and the one that was left have
abbrev pub all_places : List Turn → Option ℕ → List ℕ
all_places turns left = places_of turns ++ option_to_list left

-- the entry behind the first k is the author's
abbrev IsBy : Log → ℕ → ℕ → Type 0
IsBy log author k = slice_get (map (λ e. e.author) log.entries) k ≡ Some author

by_entry : (log : Log) (author k : ℕ) (e : Entry) → slice_get log.entries k ≡ Some e → e.author ≡ author → IsBy log author k
by_entry log author k e there same = slice_get-map (λ (e : Entry). e.author) log.entries k ∙ ap (option_map (λ (e : Entry). e.author)) there ∙ ap Some same

module _ (log : Log) (base author : ℕ) where
  turn_by : (t : Turn) → IsTurn log base author t → nat_eq t.behind (t.met + 1) ≡ true → IsBy log author t.met
  turn_by t is wrote = by_answer is.answered
    where
      one_more : t.behind ≡ t.met + 1
      one_more = grind (arith, nat_tests)

      by_answer : Answered log base author t.met t.behind t.before t.command t.replies t.after → IsBy log author t.met
      by_answer (inl r) = let e = r.nothing_written in absurd (omega (arith, one_more))
      by_answer (inr (inl u)) = let e = u.nothing_written in absurd (omega (arith, one_more))
      by_answer (inr (inr told)) =
          elim told.wrote [
            | inl has ↦ by_entry log author t.met _ has.entry refl
            | inr none ↦ let e = none.0 in absurd (omega (arith, one_more))
          ]

  left_by : (x : State) (rest : List Command) (k : ℕ) → NextLeft log author x rest k → IsBy log author k
  left_by x [] k left = absurd left
  left_by x (c ∷ rest) k left = by_entry log author k _ left.written.entry refl

  each_by : (turns : List Turn) (left : Option ℕ) → All (IsTurn log base author) turns → IfSome left (IsBy log author) → Each (IsBy log author) (all_places turns left)
  each_by [] None each last = tt
  each_by [] (Some k) each last = (last, tt)
  each_by (t ∷ turns) left each last = by_test (nat_eq t.behind (t.met + 1)) refl (each_by turns left (All-tail (IsTurn log base author) t turns each) last)
    where
      by_test : (b : Bool) → nat_eq t.behind (t.met + 1) ≡ b → Each (IsBy log author) (all_places turns left) → Each (IsBy log author) (cond b (t.met ∷ places_of turns) (places_of turns) ++ option_to_list left)
      by_test true is rest = (turn_by t (All-head (IsTurn log base author) t turns each) is, rest)
      by_test false is rest = rest

  places_rise : (seen : ℕ) (turns : List Turn) (left : Option ℕ) (last : ℕ) → All (IsTurn log base author) turns → MeetNoFewer seen turns (unwrap_or left last) → Rises seen (all_places turns left)
  places_rise seen [] None last each sees = tt
  places_rise seen [] (Some k) last each sees = (sees, tt)
  places_rise seen (t ∷ turns) left last each sees =
      by_test (nat_eq t.behind (t.met + 1)) refl (places_rise t.behind turns left last (All-tail (IsTurn log base author) t turns each) sees.1)
    where
      by_test : (b : Bool) → nat_eq t.behind (t.met + 1) ≡ b → Rises t.behind (all_places turns left) → Rises seen (cond b (t.met ∷ places_of turns) (places_of turns) ++ option_to_list left)
      by_test true is rest = let e : t.behind ≡ t.met + 1 = grind (arith, nat_tests) in (sees.0, subst (λ n. Rises n (all_places turns left)) e rest)
      by_test false is rest = let up = turn_up log base author t (All-head (IsTurn log base author) t turns each) in let low = sees.0 in rises_lower seen t.behind (all_places turns left) (omega arith) rest

-- ---- what the places say

wrote_first : (t : Turn) (turns : List Turn) (k : ℕ) → (t.met ≡ k) × (t.behind ≡ k + 1) → WroteEntry (t ∷ turns) k
wrote_first t turns k is = (zero, t, omega arith, refl, is)

wrote_later : (t : Turn) (turns : List Turn) (k : ℕ) → WroteEntry turns k → WroteEntry (t ∷ turns) k
wrote_later t turns k a = (suc a.0, a.1, omega (arith, a.2), a.3, a.4)

-- a place of the list is one that a turn wrote, or the one that was left
pub has_written : (turns : List Turn) (left : Option ℕ) (k : ℕ) → has (all_places turns left) k ≡ true → WroteEntry turns k ⊎ (left ≡ Some k)
has_written [] None k is = absurd cc
has_written [] (Some j) k is = by_test (nat_eq k j) refl is
  where
    by_test : (b : Bool) → nat_eq k j ≡ b → (b || false) ≡ true → WroteEntry [] k ⊎ (Some j ≡ Some k)
    by_test true same is = let e : j ≡ k = grind (arith, nat_tests) in inr (ap Some e)
    by_test false other is = absurd cc
has_written (t ∷ turns) left k is = by_test (λ rest. on (has_written turns left k rest)) (nat_eq t.behind (t.met + 1)) refl is
  where
    on : WroteEntry turns k ⊎ (left ≡ Some k) → WroteEntry (t ∷ turns) k ⊎ (left ≡ Some k)
    on (inl wrote) = inl (wrote_later t turns k wrote)
    on (inr last) = inr last

    by_place : (has (all_places turns left) k ≡ true → WroteEntry (t ∷ turns) k ⊎ (left ≡ Some k)) → t.behind ≡ t.met + 1 → (b : Bool) → nat_eq k t.met ≡ b
        → (b || has (all_places turns left) k) ≡ true → WroteEntry (t ∷ turns) k ⊎ (left ≡ Some k)
    by_place later wrote true same is = let e : t.met ≡ k = grind (arith, nat_tests) in inl (wrote_first t turns k (e, omega arith))
    by_place later wrote false other is = later is

    by_test : (has (all_places turns left) k ≡ true → WroteEntry (t ∷ turns) k ⊎ (left ≡ Some k)) → (b : Bool) → nat_eq t.behind (t.met + 1) ≡ b
        → has (cond b (t.met ∷ places_of turns) (places_of turns) ++ option_to_list left) k ≡ true → WroteEntry (t ∷ turns) k ⊎ (left ≡ Some k)
    by_test later true wrote is = let e : t.behind ≡ t.met + 1 = grind (arith, nat_tests) in by_place later e (nat_eq k t.met) refl is
    by_test later false other is = later is

-- ---- one session

module _ (log : Log) (base author : ℕ) (commands : List Command) (replies : List (List Reply)) (p : Progress) (s : Story log base author commands replies p) where
  abbrev pub places : List ℕ
  places = all_places s.speaks.turns p.left

  pub places_by : Each (IsBy log author) places
  places_by = each_by log base author s.speaks.turns p.left s.speaks.each (by_left p.left s.left)
    where
      by_left : (o : Option ℕ) → IfSome o (NextLeft log author p.state (drop (length replies) commands)) → IfSome o (IsBy log author)
      by_left None left = tt
      by_left (Some k) left = left_by log base author p.state (drop (length replies) commands) k left

  pub rise : Rises 0 places
  rise = places_rise log base author 0 s.speaks.turns p.left p.seen s.speaks.each s.sees

  -- each place of its own is among them
  module _ (sound : IsSound log) (own : (k : ℕ) → IsOwn log author 0 k → has places k ≡ true) where
    own_from : (k : ℕ) → IsOwn log author s.speaks.start k → IsOwn log author 0 k
    own_from k is = record { later = omega arith; entry = is.entry; is = is.is; by = is.by }

    found : (k : ℕ) → IsOwn log author s.speaks.start k → WroteEntry s.speaks.turns k ⊎ (p.left ≡ Some k)
    found k is = has_written s.speaks.turns p.left k (own k (own_from k is))

    all_written : p.left ≡ None → AreWritten log author s.speaks.start s.speaks.turns
    all_written none k is = elim (found k is) [ inl wrote ↦ wrote | inr left ↦ absurd (none-some k (sym none ∙ left)) ]

    module _ (last : ℕ) (is_last : p.left ≡ Some last) where
      sees_last : MeetNoFewer 0 s.speaks.turns last
      sees_last = subst (λ (o : Option ℕ). MeetNoFewer 0 s.speaks.turns (unwrap_or o p.seen)) is_last s.sees

      -- a turn wrote before it
      wrote_before : (k : ℕ) → WroteEntry s.speaks.turns k → k < last
      wrote_before k (n, t, h, there, wrote) =
          let low : (t.met ≤ t.behind) × (t.behind ≤ last) = subst (λ (u : Turn). (u.met ≤ u.behind) × (u.behind ≤ last)) there ((never_shorter log base author 0 s.speaks.turns last s.speaks.each sees_last).each n t h) in
          let met = wrote.0 in
          let behind = wrote.1 in
          omega (arith, low.1)

      is_the_last : (j : ℕ) → IsOwn log author last j → j ≡ last
      is_the_last j is = by_place (found j (record { later = let e = s.begins in omega arith; entry = is.entry; is = is.is; by = is.by }))
        where
          by_place : WroteEntry s.speaks.turns j ⊎ (p.left ≡ Some j) → j ≡ last
          by_place (inl wrote) = let low = wrote_before j wrote in let high = is.later in absurd (omega arith)
          by_place (inr left) = same_Some j last (sym left ∙ is_last)

      next_left : (rest : List Command) → NextLeft log author p.state rest last → IsNextLeft log author last s.speaks.state rest
      next_left [] left = left
      next_left (c ∷ rest) left = record { left = subst (λ (x : State). HasLeft log author last x c) (sym s.state) left; last = is_the_last }

      but_last : AreWrittenBut log author s.speaks.start s.speaks.turns last
      but_last k is = elim (found k is) [ inl wrote ↦ inl wrote | inr left ↦ inr (same_Some k last (sym left ∙ is_last)) ]

    spoken_by : (o : Option ℕ) → p.left ≡ o → Spoken log base author commands replies
    spoken_by None none = record { sound = sound; speaks = s.speaks; entries = inl (all_written none) }
    spoken_by (Some last) is = record {
      sound = sound;
      speaks = s.speaks;
      entries = inr (
        last,
        next_left last is (drop (length replies) commands) (subst (λ (o : Option ℕ). IfSome o (NextLeft log author p.state (drop (length replies) commands))) is s.left),
        but_last last is,
      );
    }

    pub spoken_of : Spoken log base author commands replies
    spoken_of = spoken_by p.left refl

-- ---- all sessions

module _ (log : Log) (base n : ℕ) (commands : ℕ → List Command) (replies : ℕ → List (List Reply)) (p : ℕ → Progress) (all : AreAll log base n commands replies p) where
  abbrev pub story_of : (i : ℕ) → (nat_le 1 i && nat_le i n) ≡ true → Story log base i (commands i) (replies i) (p i)
  story_of i is = let both = and_parts (nat_le 1 i) (nat_le i n) is in all.story i (leb-true 1 i both.0) (leb-true i n both.1)

  -- the places of an author from 1 to n
  abbrev places_by_test : (i : ℕ) (b : Bool) → (nat_le 1 i && nat_le i n) ≡ b → List ℕ
  places_by_test i true is = places log base i (commands i) (replies i) (p i) (story_of i is)
  places_by_test i false is = []

  abbrev tests : ℕ → ℕ → Bool
  tests i = has (places_by_test i (nat_le 1 i && nat_le i n) refl)

  in_range : (i : ℕ) → 1 ≤ i → i ≤ n → (nat_le 1 i && nat_le i n) ≡ true
  in_range i low high = rw (le-leb 1 i low, le-leb i n high) refl

  abbrev authors : List ℕ
  authors = map (λ (e : Entry). e.author) log.entries

  test_by : (i : ℕ) (b : Bool) (is : (nat_le 1 i && nat_le i n) ≡ b) (k : ℕ) → has (places_by_test i b is) k ≡ true → IsBy log i k
  test_by i true is k there = has_each (IsBy log i) (places_by_test i true is) k (places_by log base i (commands i) (replies i) (p i) (story_of i is)) there
  test_by i false is k there = absurd cc

  within : (author : ℕ) (ks : List ℕ) → Each (IsBy log author) ks → Each (λ k. k < length authors) ks
  within author [] each = tt
  within author (k ∷ ks) each = (slice_get_within authors k author each.0, within author ks each.1)

  counted : (i : ℕ) (b : Bool) (is : (nat_le 1 i && nat_le i n) ≡ b) → b ≡ true → count_at (has (places_by_test i b is)) authors ≡ (p i).wrote
  counted i true is same =
      let s = story_of i is in
      let ks : List ℕ = places log base i (commands i) (replies i) (p i) s in
      count_places 0 ks authors (rise log base i (commands i) (replies i) (p i) s) (within i ks (places_by log base i (commands i) (replies i) (p i) s)) ∙ s.wrote
  counted i false is same = absurd cc

  total_same : (m : ℕ) → m ≤ n → total m (λ i. count_at (tests i) authors) ≡ total m (λ i. (p i).wrote)
  total_same zero le = refl
  total_same (suc m) le =
      let first = counted (suc m) (nat_le 1 (suc m) && nat_le (suc m) n) refl (in_range (suc m) (omega arith) le) in
      omega (arith, first, total_same m (omega arith))

  as_many : total n (λ i. count_at (tests i) authors) ≡ length authors
  as_many = total_same n (omega arith) ∙ all.all ∙ sym (length-map log.entries (λ (e : Entry). e.author))

  -- each place passes its author's test
  counts : (k a : ℕ) → slice_get authors k ≡ Some a → (1 ≤ a) × (a ≤ n) × (tests a k ≡ true)
  counts = all_counted n tests authors (λ i k low high is. test_by i (nat_le 1 i && nat_le i n) refl k is) as_many

  author_at : (k : ℕ) (e : Entry) → slice_get log.entries k ≡ Some e → slice_get authors k ≡ Some e.author
  author_at k e there = by_entry log e.author k e there refl

  spoken_at : (i : ℕ) → 1 ≤ i → (b : Bool) (is : (nat_le 1 i && nat_le i n) ≡ b) → b ≡ true → ((k : ℕ) → IsOwn log i 0 k → has (places_by_test i b is) k ≡ true) → Spoken log base i (commands i) (replies i)
  spoken_at i low true is same own = spoken_of log base i (commands i) (replies i) (p i) (story_of i is) all.sound own
  spoken_at i low false is same own = absurd cc

  pub written_by_all : AreWrittenByAll log base n commands replies
  written_by_all = record {
    authors = λ k d h.
        let counted = counts k (get_or log.entries k d).author (author_at k (get_or log.entries k d) (slice_get-get_or log.entries k d h)) in
        (counted.0, counted.1);
    spoken = λ i low high. spoken_at i low (nat_le 1 i && nat_le i n) refl (in_range i low high) (λ k own. (counts k i (author_at k own.entry own.is ∙ ap Some own.by)).2);
  }

  -- the stories' own places
  pub record OwnsAll (i : ℕ) : Type 0 where
    pub story : Story log base i (commands i) (replies i) (p i)
    pub own : (k : ℕ) → IsOwn log i 0 k → has (all_places story.speaks.turns (p i).left) k ≡ true

  owns_by : (i : ℕ) (b : Bool) (is : (nat_le 1 i && nat_le i n) ≡ b) → b ≡ true → ((k : ℕ) → IsOwn log i 0 k → has (places_by_test i b is) k ≡ true) → OwnsAll i
  owns_by i true is same own = record { story = story_of i is; own = own }
  owns_by i false is same own = absurd cc

  pub owns : (i : ℕ) → 1 ≤ i → i ≤ n → OwnsAll i
  owns i low high = owns_by i (nat_le 1 i && nat_le i n) refl (in_range i low high) (λ k own. (counts k i (author_at k own.entry own.is ∙ ap Some own.by)).2)
