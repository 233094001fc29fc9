-- The places of a log rise with each entry.
use Rattle.std.proofs.Common.{◌≡◌, ◌⊎◌, inl, inr, ℕ, zero, suc, ◌+◌, ◌<◌, ◌≤◌, ◌*◌, List, [], ◌∷◌, ◌++◌, length, sym, refl, ap, subst, arith, length-append}
use Rattle.std.specs.Prelude.{Bool, true, false, cond, All, take, fold, flat_map}
use Rattle.std.proofs.lemmas.List.Elements.{All-head, All-tail}
use Rattle.dv_model.specs.declared.types.Entry.{Entry}
use Rattle.dv_model.specs.declared.types.Group.{Group}
use Rattle.dv_model.specs.declared.types.Mark.{Mark}
use Rattle.dv_model.specs.declared.types.Record.{Record}
use Rattle.dv_model.specs.Journals.{Log, IsBefore, IsEntry, header_size, is_rotation_due, mark_behind, mark_of}
use Rattle.dv_model.specs.Spelling.{group_text, payload_text, size_code, type_of, written}

-- a record has some bytes
pub record_some : (r : Record) → 1 ≤ length (written r)
record_some r = omega arith

pub group_some : (rs : List Record) → 1 ≤ length rs → 1 ≤ length (flat_map written rs)
group_some [] some = absurd (omega arith)
group_some (r ∷ rs) some = omega (arith, record_some r, length-append (written r) (flat_map written rs))

-- a place behind one that lies behind lies behind
pub before_trans : (a b c : Mark) → IsBefore a b → IsBefore b c → IsBefore a c
before_trans a b c (inl p) (inl q) = inl (omega arith)
before_trans a b c (inl p) (inr q) = let e = q.0 in inl (omega arith)
before_trans a b c (inr p) (inl q) = let e = p.0 in inl (omega arith)
before_trans a b c (inr p) (inr q) = let d = p.0 in let e = q.0 in let f = p.1 in let g = q.1 in inr (omega arith, omega arith)

module _ (rotates : Bool) where
  abbrev behind : Mark → Entry → Mark
  behind mark e = mark_behind rotates mark e.group

  abbrev in_new_file : Mark → Entry → Mark
  in_new_file mark e = record { file_seq = mark.file_seq + 1; offset = header_size + length (group_text e.group) }

  abbrev in_same_file : Mark → Entry → Mark
  in_same_file mark e = record mark { offset = mark.offset + length (group_text e.group) }

  -- an entry's place lies behind the one before it
  one_behind : (mark : Mark) (e : Entry) → IsEntry e → IsBefore mark (behind mark e)
  one_behind mark e is =
      elim (is_rotation_due rotates mark) as (λ due. IsBefore mark (cond due (in_new_file mark e) (in_same_file mark e))) [
        | true ↦ inl (omega arith)
        | false ↦ inr (refl, omega (arith, group_some e.group.records is.some))
      ]

  some_behind : (mark : Mark) (es : List Entry) (k : ℕ) → All IsEntry es → 1 ≤ k → k ≤ length es → IsBefore mark (fold behind mark (take k es))
  some_behind mark es zero all some le = absurd (omega arith)
  some_behind mark [] (suc k) all some le = absurd (omega arith)
  some_behind mark (e ∷ es) (suc zero) all some le = one_behind mark e (All-head IsEntry e es all)
  some_behind mark (e ∷ es) (suc (suc k)) all some le =
      before_trans mark (behind mark e) _
      (one_behind mark e (All-head IsEntry e es all))
      (some_behind (behind mark e) es (suc k) (All-tail IsEntry e es all) (omega arith) (omega arith))

  rising : (mark : Mark) (es : List Entry) (j k : ℕ) → All IsEntry es → j < k → k ≤ length es → IsBefore (fold behind mark (take j es)) (fold behind mark (take k es))
  rising mark es zero k all below le = some_behind mark es k all (omega arith) le
  rising mark [] (suc j) k all below le = absurd (omega arith)
  rising mark (e ∷ es) (suc j) zero all below le = absurd (omega arith)
  rising mark (e ∷ es) (suc j) (suc k) all below le = rising (behind mark e) es j k (All-tail IsEntry e es all) (omega arith) (omega arith)

pub marks_rise : (log : Log) (j k : ℕ) → All IsEntry log.entries → j < k → k ≤ length log.entries → IsBefore (mark_of log j) (mark_of log k)
marks_rise log j k all below le = rising log.rotates log.start_mark log.entries j k all below le

-- no place lies before itself
never_before : (a b : Mark) → a ≡ b → IsBefore a b → ⊥
never_before a b is (inl p) = let e : a.file_seq ≡ b.file_seq = ap (λ (m : Mark). m.file_seq) is in omega arith
never_before a b is (inr p) = let e : a.offset ≡ b.offset = ap (λ (m : Mark). m.offset) is in let f = p.1 in omega arith

pub marks_distinct : (log : Log) (j k : ℕ) → All IsEntry log.entries → j ≤ length log.entries → k ≤ length log.entries → mark_of log j ≡ mark_of log k → j ≡ k
marks_distinct log j k all jn kn is =
    elim (compared j k) [
      | inl below ↦ absurd (never_before _ _ is (marks_rise log j k all below kn))
      | inr (inl same) ↦ same
      | inr (inr above) ↦ absurd (never_before _ _ (sym is) (marks_rise log k j all above jn))
    ]
  where
    compared : (m n : ℕ) → (m < n) ⊎ (m ≡ n) ⊎ (n < m)
    compared zero zero = inr (inl refl)
    compared zero (suc n) = inl (omega arith)
    compared (suc m) zero = inr (inr (omega arith))
    compared (suc m) (suc n) = elim (compared m n) [
      | inl below ↦ inl (omega arith)
      | inr (inl same) ↦ inr (inl (ap suc same))
      | inr (inr above) ↦ inr (inr (omega arith))
    ]
