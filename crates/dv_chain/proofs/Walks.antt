-- Walks over the records of a file's bytes.
use Rattle.std.proofs.Common.{◌≡◌, ℕ, ◌+◌, ◌-◌, ◌*◌, ◌<◌, ◌≤◌, true, false, Bool, nat_eq, List, [], ◌∷◌, ◌++◌, length, take, drop, Some, None, Ok, Err, refl, sym, ◌∙◌, ap, subst, arith, length-append}
use Rattle.std.specs.Prelude.{if◌then◌else◌}
use Rattle.std.proofs.lemmas.Bool.{eq-eqb, eqb-true, ne_eqb}
use Rattle.std.proofs.lemmas.Option.{same_Some}
use Rattle.std.proofs.lemmas.List.{drop_at, take-append-drop, drop-drop, length-take, length-drop}
use Rattle.dv_model.specs.declared.types.Mailbox.{Mailbox}
use Rattle.dv_model.specs.declared.types.OpenFault.{OpenFault}
use Rattle.dv_model.specs.declared.types.OpenFault.TheVariants as fault
use Rattle.dv_model.specs.declared.types.Record.{Record}
use Rattle.dv_model.specs.Effects.{after_record}
use Rattle.dv_model.specs.Spelling.{Spells, is_closed}
use Rattle.dv_records.specs.Faults.{HoldsRecord, IsRecordAt}
use Rattle.dv_records.proofs.Apart.{not_closed}
use Rattle.dv_records.proofs.Readings.{spelling_long}
use Rattle.dv_logfile.specs.Layout.{last_end}
use Rattle.dv_logfile.specs.Scans.{Spot, AreSpots, IsFaulty}
use Rattle.dv_logfile.proofs.OneScan.{readings_one}
use Rattle.dv_logfile.proofs.Spots.{spots_end}
use Rattle.dv_openings.specs.Openings.{Gives, Refused, spots_applied, spots_from}
use Rattle.dv_chain.specs.Walks.{Applies, Counts, EndsAt, IsLeft, IsWalked, Measures, Skips}

true_is_not_false : {A : Type 0} (b : Bool) → b ≡ true → b ≡ false → A
true_is_not_false b on off = absurd cc

-- ---- one record

-- a record that is read at a place
pub record Read (b : List ℕ) (at behind : ℕ) (r : Record) : Type 0 where
  pub text : List ℕ
  pub is : drop at b ≡ text ++ drop behind b
  pub spells : Spells r text
  pub long : at + length text ≡ behind
  pub eight : 8 ≤ length text
  pub inside : behind ≤ length b

pub was_read : (b : List ℕ) (at behind : ℕ) (r : Record) → at ≤ length b → at ≤ behind
    → IsRecordAt r (behind - at) (drop at b) → Read b at behind r
was_read b at behind r in-b le there =
    let n = behind - at in
    let text = take n (drop at b) in
    let long : length text ≡ n = omega (arith, length-take n (drop at b), there.0) in
    record {
      text = text;
      is = sym (take-append-drop n (drop at b)) ∙ ap (λ (l : List ℕ). text ++ l) (drop-drop n at b ∙ ap (λ (k : ℕ). drop k b) (omega (arith, le)));
      spells = there.1;
      long = omega (arith, long, le);
      eight = spelling_long r text there.1;
      inside = omega (arith, length-drop at b, there.0, le, in-b);
    }

-- a record that may be any
pub skips : (b : List ℕ) (at behind : ℕ) → at ≤ behind → behind ≤ last_end → HoldsRecord (behind - at) (drop at b) → Skips b at behind
skips b at behind le fits held = record { is = held.0; there = held.1; rises = (le, fits) }

-- ---- measuring

pub walked_none : (from : ℕ) (b : List ℕ) → from ≤ length b → from ≤ last_end → IsWalked from b from 0
walked_none from b inside fits = record {
  spots = [];
  are = (refl, refl);
  count_is = refl;
  bound = omega arith;
  inside = inside;
  fits = fits;
}

pub walked_more : (from : ℕ) (b : List ℕ) (at behind count : ℕ) (r : Record) → IsWalked from b at count → Read b at behind r → behind ≤ last_end → IsWalked from b behind (count + 1)
walked_more from b at behind count r w read fits =
    let more = spots_end from w.spots (drop from b) at read.text (drop behind b) (drop at b) r w.are read.is read.spells (omega (arith, read.long)) in
    record {
      spots = w.spots ++ record { place = at; is = r } ∷ [];
      are = subst (λ (k : ℕ). AreSpots from (w.spots ++ record { place = at; is = r } ∷ []) (drop from b) k (drop behind b)) read.long more;
      count_is = omega (arith, w.count_is, length-append w.spots (record { place = at; is = r } ∷ []));
      bound = omega (arith, w.bound, read.long, read.eight);
      inside = read.inside;
      fits = fits;
    }

pub measures_fault : (from : ℕ) (b : List ℕ) (at count : ℕ) (e : OpenFault) → IsWalked from b at count → EndsAt e (λ offset. (offset ≡ at) × IsFaulty at (drop at b)) → Measures from b (Err e)
measures_fault from b at count fault.NoMemory w bad = tt
measures_fault from b at count (fault.BadRecord offset) w bad =
    rw bad.0 (count, w, bad.1)
measures_fault from b at count (fault.Disk n) w bad = absurd bad
measures_fault from b at count fault.NoLog w bad = absurd bad
measures_fault from b at count fault.BadLogHeader w bad = absurd bad
measures_fault from b at count fault.BadIndex w bad = absurd bad
measures_fault from b at count (fault.Gap index log) w bad = absurd bad

-- ---- what is left of good records

-- the first of them is the record that is read there
pub record Leads (b : List ℕ) (at behind : ℕ) (r : Record) (left : List Spot) (end : ℕ) : Type 0 where
  pub others : List Spot
  pub is : left ≡ record { place = at; is = r } ∷ others
  pub left_is : IsLeft b behind others end

pub leads : (b : List ℕ) (at behind : ℕ) (r : Record) (left : List Spot) (end : ℕ) → Read b at behind r → IsLeft b at left end → Leads b at behind r left end
leads b at behind r [] end read left =
    true_is_not_false (is_closed left.rest) left.closed
    (ap is_closed left.are.1 ∙ ap is_closed read.is ∙ not_closed r read.text (drop behind b) read.spells)
leads b at behind r (spot ∷ others) end read left =
    let more = left.are.1 in
    let both = readings_one spot.is r more.0 read.text more.1 (drop behind b) (drop at b) more.3 read.spells more.2 read.is in
    let size : at + length more.0 ≡ behind = omega (arith, ap length both.0.0, read.long) in
    let first : spot ≡ record { place = at; is = r } = ap (λ (n : ℕ). record { place = n; is = spot.is }) left.are.0 ∙ ap (λ (s : Record). record { place = at; is = s }) both.0.1 in
    record {
      others = others;
      is = ap (λ (s : Spot). s ∷ others) first;
      left_is = record {
        rest = left.rest;
        are = subst (λ (k : ℕ). AreSpots k others (drop behind b) end left.rest) size
            (subst (λ (l : List ℕ). AreSpots (at + length more.0) others l end left.rest) both.1 more.5);
        closed = left.closed;
      };
    }

-- at a closed place none is left
pub none_left : (b : List ℕ) (at : ℕ) (left : List Spot) (end : ℕ) → is_closed (drop at b) ≡ true → IsLeft b at left end → (left ≡ []) × (end ≡ at)
none_left b at [] end closed left = (refl, left.are.0)
none_left b at (spot ∷ others) end closed left =
    let more = left.are.1 in
    true_is_not_false (is_closed (drop at b)) closed (ap is_closed more.2 ∙ not_closed spot.is more.0 more.1 more.3)

pub not_faulty : (b : List ℕ) (at : ℕ) (left : List Spot) (end : ℕ) → IsFaulty at (drop at b) → IsLeft b at left end → ⊥
not_faulty b at [] end faulty left =
    true_is_not_false (is_closed left.rest) left.closed (ap is_closed left.are.1 ∙ faulty.begun)
not_faulty b at (spot ∷ others) end faulty left =
    let more = left.are.1 in
    let past = faulty.none spot.is more.0 more.1 more.2 more.3 in
    let fits = more.4 in
    omega arith

-- ---- applying

-- the records from one place on give what those from another on give
pub record Applying (b : List ℕ) (from : ℕ) (start : Mailbox) (at : ℕ) (now : Mailbox) : Type 0 where
  pub inside : at ≤ length b
  pub fits : at ≤ last_end
  pub same : (spots : List Spot) (end : ℕ) → IsLeft b from spots end
      → (left : List Spot) × IsLeft b at left end × (spots_applied start spots ≡ spots_applied now left)

pub applying_none : (b : List ℕ) (from : ℕ) (start : Mailbox) → from ≤ length b → from ≤ last_end → Applying b from start from start
applying_none b from start inside fits = record { inside = inside; fits = fits; same = λ spots end is. (spots, is, refl) }

one_applied : (m : Mailbox) (at : ℕ) (r : Record) (others : List Spot) (next : Mailbox) → after_record m r ≡ Some next → spots_applied m (record { place = at; is = r } ∷ others) ≡ spots_applied next others
one_applied m at r others next e = rw (e, spots_applied) refl

one_refused : (m : Mailbox) (at : ℕ) (r : Record) (others : List Spot) → after_record m r ≡ None → spots_applied m (record { place = at; is = r } ∷ others) ≡ Refused at
one_refused m at r others e = rw (e, spots_applied) refl

pub applying_more : (b : List ℕ) (from : ℕ) (start : Mailbox) (at : ℕ) (now : Mailbox) (behind : ℕ) (r : Record) (next : Mailbox) → Applying b from start at now → Read b at behind r → behind ≤ last_end → after_record now r ≡ Some next
    → Applying b from start behind next
applying_more b from start at now behind r next a read fits e = record {
  inside = read.inside;
  fits = fits;
  same = λ spots end is.
      let had = a.same spots end is in
      let first = leads b at behind r had.0 end read had.1 in
      (first.others, first.left_is, had.2 ∙ ap (spots_applied now) first.is ∙ one_applied now at r first.others next e);
}

-- all are applied
pub applied_all : (b : List ℕ) (from : ℕ) (start : Mailbox) (at : ℕ) (now : Mailbox) → Applying b from start at now → is_closed (drop at b) ≡ true
    → (spots : List Spot) (end : ℕ) → IsLeft b from spots end → spots_applied start spots ≡ Gives now
applied_all b from start at now a closed spots end is =
    let had = a.same spots end is in
    had.2 ∙ ap (spots_applied now) (none_left b at had.0 end closed had.1).0

-- a record is refused, or memory ran out
pub applied_refused : (b : List ℕ) (from : ℕ) (start : Mailbox) (at : ℕ) (now : Mailbox) (behind : ℕ) (r : Record) (e : OpenFault) → Applying b from start at now → Read b at behind r
    → EndsAt e (λ offset. (offset ≡ at) × (after_record now r ≡ None))
    → (spots : List Spot) (end : ℕ) → IsLeft b from spots end → Applies (Err e) (spots_applied start spots)
applied_refused b from start at now behind r fault.NoMemory a read bad spots end is = tt
applied_refused b from start at now behind r (fault.BadRecord offset) a read bad spots end is =
    let had = a.same spots end is in
    let first = leads b at behind r had.0 end read had.1 in
    had.2 ∙ ap (spots_applied now) first.is ∙ one_refused now at r first.others bad.1 ∙ ap Refused (sym bad.0)
applied_refused b from start at now behind r (fault.Disk n) a read bad spots end is = absurd bad
applied_refused b from start at now behind r fault.NoLog a read bad spots end is = absurd bad
applied_refused b from start at now behind r fault.BadLogHeader a read bad spots end is = absurd bad
applied_refused b from start at now behind r fault.BadIndex a read bad spots end is = absurd bad
applied_refused b from start at now behind r (fault.Gap index log) a read bad spots end is = absurd bad

-- a record that stands there isn't damaged
pub applied_unread : (b : List ℕ) (from : ℕ) (start : Mailbox) (at : ℕ) (now : Mailbox) (e : OpenFault) → Applying b from start at now
    → EndsAt e (λ offset. (offset ≡ at) × IsFaulty at (drop at b))
    → (spots : List Spot) (end : ℕ) → IsLeft b from spots end → Applies (Err e) (spots_applied start spots)
applied_unread b from start at now fault.NoMemory a bad spots end is = tt
applied_unread b from start at now (fault.BadRecord offset) a bad spots end is =
    let had = a.same spots end is in
    absurd (not_faulty b at had.0 end bad.1 had.1)
applied_unread b from start at now (fault.Disk n) a bad spots end is = absurd bad
applied_unread b from start at now fault.NoLog a bad spots end is = absurd bad
applied_unread b from start at now fault.BadLogHeader a bad spots end is = absurd bad
applied_unread b from start at now fault.BadIndex a bad spots end is = absurd bad
applied_unread b from start at now (fault.Gap index log) a bad spots end is = absurd bad

-- ---- counting up to a place

-- so many records stand before, and the place is among those that are left
pub record Counting (b : List ℕ) (from place at count : ℕ) : Type 0 where
  pub inside : at ≤ length b
  pub fits : at ≤ last_end
  pub bound : from + 8 * count ≤ at
  pub same : (spots : List Spot) (end : ℕ) → IsLeft b from spots end
      → (left : List Spot) × IsLeft b at left end × (count + length left ≡ length spots) × (spots_from end place spots ≡ spots_from end place left)

pub counting_none : (b : List ℕ) (from place : ℕ) → from ≤ length b → from ≤ last_end → Counting b from place from 0
counting_none b from place inside fits = record { inside = inside; fits = fits; bound = omega arith; same = λ spots end is. (spots, is, omega arith, refl) }

passed : (end place at : ℕ) (r : Record) (others : List Spot) → at < place → spots_from end place (record { place = at; is = r } ∷ others) ≡ spots_from end place others
passed end place at r others less =
    ap (λ (b : Bool). if b then Some (record { place = at; is = r } ∷ others) else spots_from end place others) (ne_eqb place at (λ e. omega arith))

pub counting_more : (b : List ℕ) (from place at behind count : ℕ) (r : Record) → Counting b from place at count → Read b at behind r → behind ≤ last_end → at < place → Counting b from place behind (count + 1)
counting_more b from place at behind count r c read fits less = record {
  inside = read.inside;
  fits = fits;
  bound = omega (arith, c.bound, read.long, read.eight);
  same = λ spots end is.
      let had = c.same spots end is in
      let first = leads b at behind r had.0 end read had.1 in
      (first.others, first.left_is, omega (arith, had.2, ap length first.is), had.3 ∙ ap (spots_from end place) first.is ∙ passed end place at r first.others less);
}

-- the place is reached
here : (b : List ℕ) (end place : ℕ) (left : List Spot) → IsLeft b place left end → spots_from end place left ≡ Some left
here b end place [] left =
    ap (λ (x : Bool). if x then Some [] else None) (eq-eqb place end (sym left.are.0))
here b end place (spot ∷ others) left =
    ap (λ (x : Bool). if x then Some (spot ∷ others) else spots_from end place others) (eq-eqb place spot.place (sym left.are.0))

pub counted_here : (b : List ℕ) (from place count : ℕ) → Counting b from place place count → (spots : List Spot) (end : ℕ) → IsLeft b from spots end → Counts (Ok (Some count)) spots (spots_from end place spots)
counted_here b from place count c spots end is =
    let had = c.same spots end is in
    (had.0, had.3 ∙ here b end place had.0 had.1, had.2)

-- the place is passed
beyond : (end place at : ℕ) (left : List Spot) (rest text : List ℕ) → place < at → AreSpots at left text end rest → spots_from end place left ≡ None
beyond end place at [] rest text less are =
    ap (λ (x : Bool). if x then Some [] else None) (ne_eqb place end (λ e. omega (arith, are.0)))
beyond end place at (spot ∷ others) rest text less are =
    let more = are.1 in
    ap (λ (x : Bool). if x then Some (spot ∷ others) else spots_from end place others) (ne_eqb place spot.place (λ e. omega (arith, are.0)))
    ∙ beyond end place (at + length more.0) others rest more.1 (omega arith) more.5

pub counted_beyond : (b : List ℕ) (from place at count : ℕ) → Counting b from place at count → place < at → (spots : List Spot) (end : ℕ) → IsLeft b from spots end → Counts (Ok None) spots (spots_from end place spots)
counted_beyond b from place at count c less spots end is =
    let had = c.same spots end is in
    had.3 ∙ beyond end place at had.0 had.1.rest (drop at b) less had.1.are

-- all records stand before it
behind_all : (end place at : ℕ) (left : List Spot) → left ≡ [] → end ≡ at → at < place → spots_from end place left ≡ None
behind_all end place at left none ends less =
    ap (spots_from end place) none ∙ ap (λ (x : Bool). if x then Some [] else None) (ne_eqb place end (λ e. omega (arith, ends)))

pub counted_past : (b : List ℕ) (from place at count : ℕ) → Counting b from place at count → at < place → is_closed (drop at b) ≡ true → (spots : List Spot) (end : ℕ) → IsLeft b from spots end → Counts (Ok None) spots (spots_from end place spots)
counted_past b from place at count c less closed spots end is =
    let had = c.same spots end is in
    let none = none_left b at had.0 end closed had.1 in
    had.3 ∙ behind_all end place at had.0 none.0 none.1 less

pub counted_unread : (b : List ℕ) (from place at count : ℕ) (e : OpenFault) → Counting b from place at count
    → EndsAt e (λ offset. (offset ≡ at) × IsFaulty at (drop at b))
    → (spots : List Spot) (end : ℕ) → IsLeft b from spots end → Counts (Err e) spots (spots_from end place spots)
counted_unread b from place at count fault.NoMemory c bad spots end is = tt
counted_unread b from place at count (fault.BadRecord offset) c bad spots end is =
    let had = c.same spots end is in
    not_faulty b at had.0 end bad.1 had.1
counted_unread b from place at count (fault.Disk n) c bad spots end is = bad
counted_unread b from place at count fault.NoLog c bad spots end is = bad
counted_unread b from place at count fault.BadLogHeader c bad spots end is = bad
counted_unread b from place at count fault.BadIndex c bad spots end is = bad
counted_unread b from place at count (fault.Gap index log) c bad spots end is = bad

-- ---- a place in a file

none_at : (b : List ℕ) (from place end : ℕ) (left : List Spot) → IsLeft b from [] end → spots_from end place [] ≡ Some left → IsLeft b place left end
none_at b from place end left is e = by_end (nat_eq place end) refl e
  where
    by_end : (x : Bool) → nat_eq place end ≡ x → (if x then Some [] else None) ≡ Some left → IsLeft b place left end
    by_end true at e =
        let same : left ≡ [] = sym (same_Some [] left e) in
        let here : from ≡ place = omega (arith, eqb-true place end at, is.are.0) in
        subst (λ (n : ℕ). IsLeft b n left end) here (subst (λ (l : List Spot). IsLeft b from l end) (sym same) is)
    by_end false at e = absurd cc

others_left : (b : List ℕ) (from end : ℕ) (spot : Spot) (others : List Spot) (is : IsLeft b from (spot ∷ others) end) → IsLeft b (from + length is.are.1.0) others end
others_left b from end spot others is =
    let more = is.are.1 in
    let behind : more.1 ≡ drop (from + length more.0) b =
    sym (drop_at more.0 more.1 (length more.0) refl) ∙ ap (λ (l : List ℕ). drop (length more.0) l) (sym more.2) ∙ drop-drop (length more.0) from b ∙ ap (λ (k : ℕ). drop k b) (omega arith) in
    record {
      rest = is.rest;
      are = subst (λ (l : List ℕ). AreSpots (from + length more.0) others l end is.rest) behind more.5;
      closed = is.closed;
    }

-- what stands from a place on is what is left there
pub place_left : (b : List ℕ) (from place end : ℕ) (spots left : List Spot) → IsLeft b from spots end → spots_from end place spots ≡ Some left → IsLeft b place left end
place_left b from place end [] left is e = none_at b from place end left is e
place_left b from place end (spot ∷ others) left is e =
    by_place (λ e. place_left b (from + length is.are.1.0) place end others left (others_left b from end spot others is) e) (nat_eq place spot.place) refl e
  where
    by_place : (spots_from end place others ≡ Some left → IsLeft b place left end) → (x : Bool) → nat_eq place spot.place ≡ x → (if x then Some (spot ∷ others) else spots_from end place others) ≡ Some left → IsLeft b place left end
    by_place behind true at e =
        let same : left ≡ spot ∷ others = sym (same_Some (spot ∷ others) left e) in
        let here : from ≡ place = omega (arith, eqb-true place spot.place at, is.are.0) in
        subst (λ (n : ℕ). IsLeft b n left end) here (subst (λ (l : List Spot). IsLeft b from l end) (sym same) is)
    by_place behind false at e = behind e
