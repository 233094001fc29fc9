-- The sessions that were handed in, and those that were made.
use Rattle.std.proofs.Common.{◌≡◌, ℕ, ◌+◌, ◌≤◌, List, [], ◌∷◌, ◌++◌, length, ap, sym, subst, ◌∙◌, arith, append_assoc}
use Rattle.std.specs.Prelude.{All, min}
use Rattle.std.specs.List.{sum_by}
use Rattle.std.proofs.lemmas.List.Elements.{All-cons}
use Rattle.std.proofs.lemmas.List.Sums.{sum_by-append}
use mathlib.Core.List.{IsPrefix}
use Rattle.dv_model.specs.Counts.{RoseBy, last_count}
use Rattle.dv_model.specs.Journals.{Log}
use Rattle.dv_front.specs.declared.notes.Note.{Note}
use Rattle.dv_member.specs.Members.{Member, notes_of}
use Rattle.dv_keeper.specs.Sessions.{AreNewSessions, IsNewSession}

-- these are left of all, and the others begin the notes and brought their parts
pub record Settled (left all : List Member) (notes : List Note) (wp wa rp ra : ℕ) : Type 0 where
  pub rest : List Member
  pub are : left ++ rest ≡ all
  pub begin : All (λ (s : Member). IsPrefix (notes_of s) notes) rest
  pub parts : wp ≡ length rest
  pub wrote : wa ≡ sum_by (λ (s : Member). s.wrote) rest
  pub told : rp ≡ length rest
  pub refused : ra ≡ sum_by (λ (s : Member). s.refused) rest

pub settle_more : (left now all : List Member) (notes : List Note) (s : Member) (wp wa rp ra wp' wa' rp' ra' : ℕ) → Settled left all notes wp wa rp ra → left ≡ now ++ s ∷ [] → IsPrefix (notes_of s) notes
    → (wp' ≡ wp + 1) × (wa' ≡ wa + s.wrote) → (rp' ≡ rp + 1) × (ra' ≡ ra + s.refused) → Settled now all notes wp' wa' rp' ra'
settle_more left now all notes s wp wa rp ra wp' wa' rp' ra' h is begins w r = record {
  rest = s ∷ h.rest;
  are = sym (append_assoc now (s ∷ []) h.rest) ∙ ap (λ (l : List Member). l ++ h.rest) (sym is) ∙ h.are;
  begin = All-cons (λ (x : Member). IsPrefix (notes_of x) notes) s h.rest begins h.begin;
  parts = omega (arith, h.parts, w.0);
  wrote = omega (arith, h.wrote, w.1, sum_by-append (λ (t : Member). t.wrote) (s ∷ []) h.rest);
  told = omega (arith, h.told, r.0);
  refused = omega (arith, h.refused, r.1, sum_by-append (λ (t : Member). t.refused) (s ∷ []) h.rest);
}

-- one more at the end
pub new_more : (start : Log) (number : ℕ) (ss : List Member) (s : Member) → AreNewSessions start number ss → IsNewSession start (number + length ss) s → AreNewSessions start number (ss ++ s ∷ [])
new_more start number [] s are is = (subst (λ (n : ℕ). IsNewSession start n s) (omega arith) is, tt)
new_more start number (x ∷ ss) s are is = (are.0, new_more start (number + 1) ss s are.1 (subst (λ (n : ℕ). IsNewSession start n s) (omega arith) is))

-- a count that rose by so many rose by fewer
pub rose_fewer : (n m base now : ℕ) → m ≤ n → RoseBy n base now → RoseBy m base now
rose_fewer n m base now fewer few = by last_count few
  where
    by : (last : ℕ) → min (base + n) last ≤ now → min (base + m) last ≤ now
    by last few = omega (arith, few, fewer)
