-- Each step keeps the rule.
use Rattle.std.proofs.Common.{◌≡◌, ◌≢◌, ◌⊎◌, ℕ, zero, suc, ◌+◌, ◌-◌, ◌^◌, ◌<◌, ◌≤◌, Bool, List, [], ◌∷◌, ◌++◌, length, take, set, true, false, true≢false, refl, sym, ap, ◌∙◌, subst, ⊎_elim, arith, length-append, add-one}
use Rattle.std.specs.Prelude.{slice_index, ◌||◌}
use Rattle.std.proofs.lemmas.Bool.{cases_Bool}
use Rattle.std.proofs.lemmas.List.{length-take-le}
use Rattle.std.proofs.lemmas.List.Elements.{All-append, All-cons, All-get_or, All-nil}
use mathlib.Core.Option.{none, some, some-ne-none, some-injective}
use mathlib.Core.List.{IsPrefix}
use lib.ListN.{get_elem?}
use Rattle.atomic_table.specs.Table.{State, Me, step, keeps, Allows, Splits, Joins}
use Rattle.atomic_table.proofs.Lists.{at_set, at_snoc, set_again}
use Rattle.dv_model.specs.Journals.{IsU32}
use Rattle.dv_front.specs.declared.notes.Generation.{Generation}
use Rattle.dv_front.specs.declared.notes.Note.{Note}
use Rattle.dv_front.specs.declared.rule.Before.{Before}
use Rattle.dv_front.specs.declared.rule.Before.TheVariants.{First, Next}
use Rattle.dv_front.specs.declared.rule.Knowledge.{Knowledge}
use Rattle.dv_front.specs.declared.rule.SeatView.{SeatView}
use Rattle.dv_front.specs.Lists.{longer}
use Rattle.dv_front.specs.Notes.{AreGood, text_of}
use Rattle.dv_front.specs.Rule.{Fits, IsKept, IsPenAt, IsTrueOf, front_word}
use Rattle.dv_front.specs.Steps.{Compared, FrontLoaded, Learned, Published, Sealed, WordLoaded, WordPut, both_known, first_view, generation_by, hearing, knowing, pass_of, nothing_of, spent_view, words_in}
use Rattle.dv_front.proofs.NoteLemmas.{text_prefix}
use Rattle.dv_front.proofs.Prefixes.{either_begins, index_prefix, longer_cases, longer_left, longer_right, prefix_both, prefix_length, prefix_self, prefix_take, prefix_trans, set_end, set_index}

off : false ≡ true → ⊥
off e = true≢false (sym e)

-- a fact of each view, where one view changes
each_set : (P : ℕ → SeatView → Type 0) (views : List SeatView) (by : ℕ) (w : SeatView)
    → ((j : ℕ) (u : SeatView) → j ≢ by → get_elem? views j ≡ some u → P j u) → P by w
    → (j : ℕ) (u : SeatView) → get_elem? (set views by w) j ≡ some u → P j u
each_set P views by w others own j u e =
    ⊎_elim
    (λ (x : (j ≡ by) × (w ≡ u)). subst (λ (y : ℕ × SeatView). P y.0 y.1) (λ i. (sym x.0 i, x.1 i)) own)
    (λ (x : (j ≢ by) × (get_elem? views j ≡ some u)). others j u x.0 x.1)
    (at_set views by j w u e)

module _ (g : Generation) where
  abbrev H : State ℕ SeatView → Type 0
  H s = IsKept g s.words s.views

  -- the words stay, and one view changes
  looked_on : (words : List ℕ) (views : List SeatView) (i id : ℕ) (w : SeatView)
      → (h : IsKept g words views) → (w.live ≡ true → Fits g h.seat h.put h.published h.sealed id w)
      → IsKept g (set words i (slice_index words i)) (set views id w)
  looked_on words views i id w h own = record {
    seat = h.seat;
    put = h.put;
    published = h.published;
    rest = h.rest;
    sealed = h.sealed;
    words_are = set_index words i ∙ h.words_are;
    within = h.within;
    room = h.room;
    small_room = h.small_room;
    good = h.good;
    small = h.small;
    fits = each_set (λ j u. u.live ≡ true → Fits g h.seat h.put h.published h.sealed j u) views id w (λ j u apart e. h.fits j u e) own;
  }

  published_fit : (words : List ℕ) (views : List SeatView) (h : IsKept g words views) → length (text_of h.published) ≤ g.room
  published_fit words views h = let p = prefix_length (text_of h.published) h.put h.within in let q = h.room in omega arith

  pub loads_front : (slots id : ℕ) (me : Me ℕ SeatView) → me.0.pen ≡ false → me.0.live ≡ true → Allows H slots id me 0 (λ n. n) (FrontLoaded (step slots 0 0 0 none) me)
  loads_front slots id me reader live s h _ at _ =
      let v = me.0 in
      let own = h.fits id v at live in
      let k : Knowledge = record { generation = g; notes = h.published; sealed = h.sealed } in
      let known : IsTrueOf g h.published h.sealed k = record { generation = refl; notes = prefix_self h.published; good = h.good; whole = λ b. (b, refl) } in
      let w : SeatView = record (knowing v k) { loads = v.loads + 1 } in
      let fits = published_fit s.words s.views h in
      let small = h.small_room in (
        w,
        keeps,
        tt,
        looked_on s.words s.views 0 id w h (λ _. record { own = known; told = known; pen = λ p. absurd (off (sym reader ∙ p)) }),
        record {
          word = ap (λ ws. slice_index ws 0) h.words_are;
          room = omega (arith, ap (λ (x : Generation). x.room) own.own.generation, fits);
          small = omega (arith, fits, small);
          begins = own.own.notes;
          text = text_prefix v.own.notes h.published own.own.notes;
          good = subst (λ (x : Generation). AreGood x h.published) (sym own.own.generation) h.good;
          last = λ b. let t = own.own.whole b in (t.0, sym t.1);
          generation = sym own.own.generation;
          now = refl;
        },
      )

  pub loads_word : (slots id : ℕ) (me : Me ℕ SeatView) (i : ℕ) → me.0.live ≡ true → 1 ≤ i → i ≤ length (words_in me.0.own) → Allows H slots id me i (λ n. n) (WordLoaded (step slots i 0 0 none) me)
  loads_word slots id me zero live one le s h _ at _ = absurd (omega arith)
  loads_word slots id me (suc k) live one le s h _ at _ =
      let v = me.0 in
      let own = h.fits id v at live in
      let known : List ℕ = words_in v.own in
      let in_put : IsPrefix known h.put = prefix_trans known (text_of h.published) h.put (text_prefix v.own.notes h.published own.own.notes) h.within in
      let begins : IsPrefix known (h.put ++ h.rest) = prefix_trans known h.put (h.put ++ h.rest) in_put (h.rest, refl) in
      let is : slice_index s.words (suc k) ≡ slice_index known k = ap (λ ws. slice_index ws (suc k)) h.words_are ∙ index_prefix known (h.put ++ h.rest) k begins (omega arith) in
      let same : slice_index h.put k ≡ slice_index known k = index_prefix known h.put k in_put (omega arith) in
      let long = prefix_length known h.put in_put in
      let small : slice_index h.put k < 2 ^ 32 = All-get_or IsU32 h.put k 0 (omega arith) h.small in
      let down : suc k - 1 ≡ k = omega arith in
      (v, keeps, tt, looked_on s.words s.views (suc k) id v h (λ _. own), record { word = is ∙ ap (λ (j : ℕ). slice_index known j) (sym down); small = omega (arith, is, same, small); now = refl })

  -- the pen's view with the same words and seal
  still : {seat : ℕ} {put : List ℕ} {published : List Note} {sealed : Bool} {id : ℕ} (v w : SeatView) → IsPenAt seat put published sealed id v → w.put ≡ v.put → w.own ≡ v.own → IsPenAt seat put published sealed id w
  still v w p put own = record { place = p.place; puts = put ∙ p.puts; notes = ap (λ (k : Knowledge). k.notes) own ∙ p.notes; seals = ap (λ (k : Knowledge). k.sealed) own ∙ p.seals }

  pub compares : (slots id : ℕ) (me : Me ℕ SeatView) → me.0.live ≡ true → Allows H slots id me 0 (λ n. n) (Compared (step slots 0 0 0 none) me)
  compares slots id me live s h _ at _ =
      let v = me.0 in
      let own = h.fits id v at live in
      let w : SeatView = knowing v v.own in (
        w,
        keeps,
        tt,
        looked_on s.words s.views 0 id w h (λ _. record { own = own.own; told = own.own; pen = λ p. still v w (own.pen p) refl refl }),
        record {
          either = either_begins v.told.notes v.own.notes h.published own.told.notes own.own.notes;
          generation = own.told.generation ∙ sym own.own.generation;
          pen = λ p. (subst (λ l. IsPrefix v.told.notes l) (sym (own.pen p).notes) own.told.notes, λ b. (own.pen p).seals ∙ (own.told.whole b).0);
          now = refl;
        },
      )

  -- what two know together is so
  both_true : (published : List Note) (sealed : Bool) (a b : Knowledge) → IsTrueOf g published sealed a → IsTrueOf g published sealed b → IsTrueOf g published sealed (both_known a b)
  both_true published sealed a b p q =
      let within : IsPrefix (longer a.notes b.notes) published = longer_cases (λ l. IsPrefix l published) a.notes b.notes (λ _. p.notes) (λ _. q.notes) in
      let left = longer_left a.notes b.notes published p.notes q.notes in
      let right = longer_right a.notes b.notes published p.notes q.notes in
      let all : (x : List Note) → IsPrefix x (longer a.notes b.notes) → x ≡ published → longer a.notes b.notes ≡ published = (λ x begins same. prefix_both (longer a.notes b.notes) published within (subst (λ l. IsPrefix l (longer a.notes b.notes)) same begins)) in
      record {
        generation = p.generation;
        notes = within;
        good = longer_cases (AreGood g) a.notes b.notes (λ _. p.good) (λ _. q.good);
        whole = λ e. ⊎_elim
            (λ is. let t = p.whole is in (t.0, all a.notes left t.1))
            (λ off'. let t = q.whole (sym (ap (λ x. x || b.sealed) off') ∙ e) in (t.0, all b.notes right t.1))
            (cases_Bool a.sealed);
      }

  pub learns : (slots id : ℕ) (me : Me ℕ SeatView) → me.0.pen ≡ false → me.0.live ≡ true → Allows H slots id me 0 (λ n. n) (Learned (step slots 0 0 0 none) me)
  learns slots id me reader live s h _ at _ =
      let v = me.0 in
      let own = h.fits id v at live in
      let k : Knowledge = both_known v.own v.told in
      let known = both_true h.published h.sealed v.own v.told own.own own.told in
      let w : SeatView = knowing v k in
      let fits = published_fit s.words s.views h in
      let short = prefix_length (text_of k.notes) (text_of h.published) (text_prefix k.notes h.published known.notes) in
      let left = longer_left v.own.notes v.told.notes h.published own.own.notes own.told.notes in
      let right = longer_right v.own.notes v.told.notes h.published own.own.notes own.told.notes in (
        w,
        keeps,
        tt,
        looked_on s.words s.views 0 id w h (λ _. record { own = known; told = known; pen = λ p. absurd (off (sym reader ∙ p)) }),
        record {
          own = left;
          told = right;
          own_text = prefix_length (text_of v.own.notes) (text_of k.notes) (text_prefix v.own.notes k.notes left);
          told_text = prefix_length (text_of v.told.notes) (text_of k.notes) (text_prefix v.told.notes k.notes right);
          generation = own.told.generation ∙ sym own.own.generation;
          room = omega (arith, ap (λ (x : Generation). x.room) own.own.generation, fits, short);
          good = subst (λ (x : Generation). AreGood x k.notes) (sym own.own.generation) known.good;
          now = refl;
        },
      )

  put_words : (put rest : List ℕ) (first n : ℕ) → 0 < length rest → (rs : List ℕ) × (set (first ∷ (put ++ rest)) (length put + 1) n ≡ first ∷ ((put ++ n ∷ []) ++ rs)) × (length rs + 1 ≡ length rest)
  put_words put [] first n space = absurd (omega arith)
  put_words put (r ∷ rs) first n space = (rs, subst (λ (k : ℕ). set (first ∷ (put ++ r ∷ rs)) k n ≡ first ∷ ((put ++ n ∷ []) ++ rs)) (sym (add-one (length put))) (ap (λ ys. first ∷ ys) (set_end put r rs n)), omega arith)

  -- of a view that isn't the pen's, where the published words grow and the seal stays off
  grows : (seat other : ℕ) (put put' : List ℕ) (published published' : List Note) (sealed : Bool) (id : ℕ) (v : SeatView)
      → id ≢ seat → IsPrefix published published' → (sealed ≡ true → published ≡ published') → Fits g seat put published sealed id v → Fits g seat put' published' sealed id v
  grows seat other put put' published published' sealed id v apart more still f = record {
    own = record { generation = f.own.generation; notes = prefix_trans v.own.notes published published' f.own.notes more; good = f.own.good; whole = λ b. let t = f.own.whole b in (t.0, t.1 ∙ still t.0) };
    told = record { generation = f.told.generation; notes = prefix_trans v.told.notes published published' f.told.notes more; good = f.told.good; whole = λ b. let t = f.told.whole b in (t.0, t.1 ∙ still t.0) };
    pen = λ p. absurd (apart (f.pen p).place);
  }

  pub puts : (slots id : ℕ) (me : Me ℕ SeatView) (i n : ℕ) → me.0.pen ≡ true → me.0.live ≡ true → i ≡ length me.0.put + 1 → i ≤ me.0.own.generation.room → n < 2 ^ 32 → Allows H slots id me i (λ _. n) (λ _. WordPut (step slots i n 0 none) me n)
  puts slots id me i n pen live is space small s h _ at _ =
      let v = me.0 in
      let own = h.fits id v at live in
      let mine = own.pen pen in
      let put : v.put ≡ h.put = mine.puts in
      let w : SeatView = record v { put = v.put ++ n ∷ [] } in
      let room : v.own.generation.room ≡ g.room = ap (λ (x : Generation). x.room) own.own.generation in
      let left : 0 < length h.rest = (let e = ap length put in let z = h.room in omega arith) in
      let t = put_words h.put h.rest (front_word (length (text_of h.published)) h.sealed) n left in
      let at_i : i ≡ length h.put + 1 = is ∙ ap (λ l. length l + 1) put in
      let now = h.put ++ n ∷ [] in (
        w,
        keeps,
        tt,
        record {
          seat = h.seat;
          put = now;
          published = h.published;
          rest = t.0;
          sealed = h.sealed;
          words_are = (λ k. set (h.words_are k) (at_i k) n) ∙ t.1;
          within = prefix_trans (text_of h.published) h.put now h.within (n ∷ [], refl);
          room = (let z = h.room in let y = t.2 in omega (arith, length-append h.put (n ∷ [])));
          small_room = h.small_room;
          good = h.good;
          small = All-append IsU32 h.put (n ∷ []) h.small (All-cons IsU32 n [] small (All-nil IsU32));
          fits = each_set (λ j u. u.live ≡ true → Fits g h.seat now h.published h.sealed j u) s.views id w
              (λ j u apart e alive. grows h.seat id h.put now h.published h.published h.sealed j u (λ eq. apart (eq ∙ sym mine.place)) (prefix_self h.published) (λ _. refl) (h.fits j u e alive))
              (λ _. record { own = own.own; told = own.told; pen = λ p. record { place = mine.place; puts = ap (λ l. l ++ n ∷ []) put; notes = mine.notes; seals = mine.seals } });
        },
        refl,
      )

  pub publishes : (slots id : ℕ) (me : Me ℕ SeatView) (n : ℕ) (note : Note) → me.0.pen ≡ true → me.0.live ≡ true → me.0.own.sealed ≡ false → n ≤ length me.0.put → take n me.0.put ≡ text_of (me.0.own.notes ++ note ∷ []) → AreGood me.0.own.generation (me.0.own.notes ++ note ∷ [])
      → Allows H slots id me 0 (λ _. n) (λ _. Published note (step slots 0 n 0 none) me n)
  publishes slots id me n note pen live fresh le text good s h _ at _ =
      let v = me.0 in
      let own = h.fits id v at live in
      let mine = own.pen pen in
      let put : v.put ≡ h.put = mine.puts in
      let now : List Note = v.own.notes ++ note ∷ [] in
      let long : length (text_of now) ≡ n = ap length (sym text) ∙ length-take-le n v.put le in
      let k : Knowledge = record v.own { notes = now } in
      let w : SeatView = knowing v k in
      let within : IsPrefix (text_of now) h.put = subst (λ l. IsPrefix (text_of now) l) put (subst (λ l. IsPrefix l v.put) text (prefix_take n v.put)) in
      let seal : h.sealed ≡ false = sym mine.seals ∙ fresh in
      let grown : IsPrefix h.published now = (note ∷ [], ap (λ (l : List Note). l ++ note ∷ []) (sym mine.notes)) in
      let at_n : n ≡ front_word (length (text_of now)) h.sealed = subst (λ b. n ≡ front_word (length (text_of now)) b) (sym seal) (omega (arith, long)) in
      let good' : AreGood g now = subst (λ (x : Generation). AreGood x now) own.own.generation good in
      let known : IsTrueOf g now h.sealed k = record { generation = own.own.generation; notes = prefix_self now; good = good'; whole = λ b. absurd (off (sym fresh ∙ b)) } in (
        w,
        keeps,
        tt,
        record {
          seat = h.seat;
          put = h.put;
          published = now;
          rest = h.rest;
          sealed = h.sealed;
          words_are = (λ k. set (h.words_are k) 0 (at_n k));
          within = within;
          room = h.room;
          small_room = h.small_room;
          good = good';
          small = h.small;
          fits = each_set (λ j u. u.live ≡ true → Fits g h.seat h.put now h.sealed j u) s.views id w
              (λ j u apart e alive. grows h.seat id h.put h.put h.published now h.sealed j u (λ eq. apart (eq ∙ sym mine.place)) grown (λ b. absurd (off (sym seal ∙ b))) (h.fits j u e alive))
              (λ _. record { own = known; told = known; pen = λ p. record { place = mine.place; puts = put; notes = refl; seals = mine.seals } });
        },
        refl,
      )

  pub seals : (slots id : ℕ) (me : Me ℕ SeatView) (n : ℕ) → me.0.pen ≡ true → me.0.live ≡ true → n ≡ front_word (length (words_in me.0.own)) true → Allows H slots id me 0 (λ _. n) (λ _. Sealed (step slots 0 n 0 none) me n)
  seals slots id me n pen live is s h _ at _ =
      let v = me.0 in
      let own = h.fits id v at live in
      let mine = own.pen pen in
      let k : Knowledge = record v.own { sealed = true } in
      let w : SeatView = knowing v k in
      let at_n : n ≡ front_word (length (text_of h.published)) true = is ∙ ap (λ (l : List Note). front_word (length (text_of l)) true) mine.notes in
      let known : IsTrueOf g h.published true k = record { generation = own.own.generation; notes = own.own.notes; good = own.own.good; whole = λ b. (refl, mine.notes) } in
      let behind : (x : Knowledge) → IsTrueOf g h.published h.sealed x → IsTrueOf g h.published true x = (λ x t. record { generation = t.generation; notes = t.notes; good = t.good; whole = λ b. (refl, (t.whole b).1) }) in (
        w,
        keeps,
        tt,
        record {
          seat = h.seat;
          put = h.put;
          published = h.published;
          rest = h.rest;
          sealed = true;
          words_are = (λ k. set (h.words_are k) 0 (at_n k));
          within = h.within;
          room = h.room;
          small_room = h.small_room;
          good = h.good;
          small = h.small;
          fits = each_set (λ j u. u.live ≡ true → Fits g h.seat h.put h.published true j u) s.views id w
              (λ j u apart e alive. let f = h.fits j u e alive in record { own = behind u.own f.own; told = behind u.told f.told; pen = λ p. absurd (apart ((f.pen p).place ∙ sym mine.place)) })
              (λ _. record { own = known; told = known; pen = λ p. record { place = mine.place; puts = mine.puts; notes = mine.notes; seals = refl } });
        },
        refl,
      )

  -- the same words with other views
  with_views : (words : List ℕ) (views views' : List SeatView) (h : IsKept g words views)
      → ((id : ℕ) (v : SeatView) → get_elem? views' id ≡ some v → v.live ≡ true → Fits g h.seat h.put h.published h.sealed id v) → IsKept g words views'
  with_views words views views' h fits = record {
    seat = h.seat;
    put = h.put;
    published = h.published;
    rest = h.rest;
    sealed = h.sealed;
    words_are = h.words_are;
    within = h.within;
    room = h.room;
    small_room = h.small_room;
    good = h.good;
    small = h.small;
    fits = fits;
  }

  pub shares : (id : ℕ) (v : SeatView) → v.live ≡ true → Splits H id v v (pass_of v)
  shares id v live s h at =
      let own = h.fits id v at live in
      let P : ℕ → SeatView → Type 0 = (λ j u. u.live ≡ true → Fits g h.seat h.put h.published h.sealed j u) in
      with_views s.words s.views (set s.views id v ++ pass_of v ∷ []) h
      (λ j u e. ⊎_elim
      (λ was. h.fits j u (subst (λ l. get_elem? l j ≡ some u) (set_again s.views id v at) was))
      (λ (same : pass_of v ≡ u). subst (P j) same (λ _. record { own = own.own; told = own.own; pen = λ p. absurd (off p) }))
      (at_snoc (set s.views id v) (pass_of v) u j e))

  pub joins : (id : ℕ) (v : SeatView) (other : ℕ) (u : SeatView) → v.live ≡ true → u.live ≡ true → Joins H id v other u (hearing v u) spent_view
  joins id v other u live alive s h at apart there =
      let own = h.fits id v at live in
      let w = hearing v u in
      let P : ℕ → SeatView → Type 0 = (λ j x. x.live ≡ true → Fits g h.seat h.put h.published h.sealed j x) in
      let theirs = ⊎_elim (λ (t : (other ≡ id) × (w ≡ u)). absurd (apart t.0)) (λ (t : (other ≢ id) × (get_elem? s.views other ≡ some u)). h.fits other u t.1 alive) (at_set s.views id other w u there) in
      with_views s.words s.views (set (set s.views id w) other spent_view) h
      (each_set P (set s.views id w) other spent_view
      (λ j y _ e. each_set P s.views id w (λ i x _ e'. h.fits i x e') (λ _. record { own = own.own; told = theirs.own; pen = λ p. still v w (own.pen p) refl refl }) j y e)
      (λ l. absurd (off l)))

-- its table is as large as was asked
pub room_by : (room : ℕ) (before : Before) → (generation_by room before).room ≡ room
room_by room (First mailbox mark start_count) = refl
room_by room (Next seat) = refl

pub begins : (g : Generation) (zeros : List ℕ) → length zeros ≡ g.room → g.room < 2 ^ 32 → AreGood g [] → IsKept g (0 ∷ zeros) (first_view g ∷ [])
begins g zeros len small good = record {
  seat = 0;
  put = [];
  published = [];
  rest = zeros;
  sealed = false;
  words_are = refl;
  within = ([], refl);
  room = omega (arith, len);
  small_room = small;
  good = good;
  small = λ k d lt. absurd (omega (arith, lt));
  fits = one;
}
  where
    known : IsTrueOf g [] false (nothing_of g)
    known = record { generation = refl; notes = ([], refl); good = good; whole = λ b. absurd (off b) }

    one : (id : ℕ) (v : SeatView) → get_elem? (first_view g ∷ []) id ≡ some v → v.live ≡ true → Fits g 0 [] [] false id v
    one zero v e _ = subst (Fits g 0 [] [] false 0) (some-injective _ _ e) record { own = known; told = known; pen = λ _. record { place = refl; puts = refl; notes = refl; seals = refl } }
    one (suc id) v e _ = absurd (some-ne-none v (sym e))
