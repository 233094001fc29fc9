-- Reading lists, as loops do.
use Rattle.std.proofs.Common.{◌≡◌, ℕ, suc, ◌-◌, ◌+◌, ◌≤◌, ◌<◌, List, [], ◌∷◌, ◌++◌, Option, Some, None, codes, refl, sym, ◌∙◌, arith}
use Rattle.dv_formats.specs.Parsing.{after, before, from, is_stop}
use Rattle.dv_sets.specs.declared.end.ParseEnd.{ParseEnd}
use Rattle.dv_sets.specs.declared.end.ParseEnd.TheVariants.{Bad, NoMemory}
use Rattle.dv_commands.specs.Reads.{Fails}
use Rattle.dv_replies.specs.Reading.{each_behind, flag_behind, flags_at}

module _ {A : Type 0} (separator : List ℕ) (read : List ℕ → Option (A × List ℕ)) (so_far : List A) (count i : ℕ) (b : List ℕ) (total : Option (List A × List ℕ)) where
  -- one more was read
  pub goes_on : (next end : List ℕ) (x : A) → i < count → after separator b ≡ Some next → read next ≡ Some (x, end)
      → each_behind separator read (count - i) so_far b ≡ total → each_behind separator read (count - (i + 1)) (so_far ++ x ∷ []) end ≡ total
  unfolding each_behind
  goes_on next end x lt begins is same =
      let k : count - i ≡ suc (count - (i + 1)) = omega arith in
      let one : each_behind separator read (count - i) so_far b ≡ each_behind separator read (count - (i + 1)) (so_far ++ x ∷ []) end = rw (k, begins) (rw is refl) in
      sym one ∙ same

  -- no separator follows
  pub ends : i < count → after separator b ≡ None → each_behind separator read (count - i) so_far b ≡ total → total ≡ Some (so_far, b)
  unfolding each_behind
  ends lt none same =
      let k : count - i ≡ suc (count - (i + 1)) = omega arith in
      let one : each_behind separator read (count - i) so_far b ≡ Some (so_far, b) = rw (k, none) refl in
      sym same ∙ one

  pub fails : (e : ParseEnd) (next : List ℕ) → i < count → after separator b ≡ Some next → Fails e (read next)
      → each_behind separator read (count - i) so_far b ≡ total → Fails e total
  unfolding each_behind
  fails NoMemory next lt begins is same = tt
  fails Bad next lt begins is same =
      let k : count - i ≡ suc (count - (i + 1)) = omega arith in
      let one : each_behind separator read (count - i) so_far b ≡ None = rw (k, begins) (rw is refl) in
      sym same ∙ one

  pub too_many : count ≤ i → each_behind separator read (count - i) so_far b ≡ total → total ≡ None
  unfolding each_behind
  too_many le same =
      let k : count - i ≡ 0 = omega arith in
      let one : each_behind separator read (count - i) so_far b ≡ None = rw k refl in
      sym same ∙ one

abbrev State : Type 0
State = ℕ × List (List ℕ)

module _ (s : State) (count i : ℕ) (b : List ℕ) (total : Option (State × List ℕ)) where
  pub flags_go_on : (more : State) (next : List ℕ) → i < count → flag_behind s (before is_stop b) ≡ Some more → after (codes " ") (from is_stop b) ≡ Some next
      → flags_at (count - i) s b ≡ total → flags_at (count - (i + 1)) more next ≡ total
  unfolding flags_at
  flags_go_on more next lt is space same =
      let k : count - i ≡ suc (count - (i + 1)) = omega arith in
      let one : flags_at (count - i) s b ≡ flags_at (count - (i + 1)) more next = rw (k, is) (rw space refl) in
      sym one ∙ same

  pub flags_end : (more : State) → i < count → flag_behind s (before is_stop b) ≡ Some more → after (codes " ") (from is_stop b) ≡ None
      → flags_at (count - i) s b ≡ total → total ≡ Some (more, from is_stop b)
  unfolding flags_at
  flags_end more lt is none same =
      let k : count - i ≡ suc (count - (i + 1)) = omega arith in
      let one : flags_at (count - i) s b ≡ Some (more, from is_stop b) = rw (k, is) (rw none refl) in
      sym same ∙ one

  pub flags_fail : (e : ParseEnd) → i < count → Fails e (flag_behind s (before is_stop b)) → flags_at (count - i) s b ≡ total → Fails e total
  unfolding flags_at
  flags_fail NoMemory lt is same = tt
  flags_fail Bad lt is same =
      let k : count - i ≡ suc (count - (i + 1)) = omega arith in
      let one : flags_at (count - i) s b ≡ None = rw (k, is) refl in
      sym same ∙ one

  pub too_many_flags : count ≤ i → flags_at (count - i) s b ≡ total → total ≡ None
  unfolding flags_at
  too_many_flags le same =
      let k : count - i ≡ 0 = omega arith in
      let one : flags_at (count - i) s b ≡ None = rw k refl in
      sym same ∙ one
