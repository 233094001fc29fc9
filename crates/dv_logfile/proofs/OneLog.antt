-- A file is one log at most.
use Rattle.std.proofs.Common.{◌≡◌, ℕ, List, [], ◌∷◌, ◌++◌, length, drop, true, false, refl, sym, ◌∙◌, ap, subst, arith}
use Rattle.std.proofs.lemmas.List.{append_cancel_left}
use Rattle.dv_model.specs.declared.types.Record.{Record}
use Rattle.dv_model.specs.Spelling.{is_closed}
use Rattle.dv_records.proofs.Apart.{not_closed}
use Rattle.dv_records.proofs.Readings.{one_reading}
use Rattle.dv_logfile.specs.declared.header.LogHeader.{LogHeader}
use Rattle.dv_logfile.specs.Layout.{IsLog, IsOneLog, Spelled}

-- a record begins at no closed place
never : (r : Record) (ss : List Record) (b x y : List ℕ) → Spelled (r ∷ ss) b y → b ≡ x → is_closed x ≡ true → ⊥
never r ss b x y s is closed =
    let open' : is_closed b ≡ false = ap is_closed s.2 ∙ not_closed r s.0 s.1 s.3 in
    let shut : is_closed b ≡ true = ap is_closed is ∙ closed in
    cc

-- the records up to a closed place, and the place
pub one_spelling : (rs ss : List Record) (b x y : List ℕ) → Spelled rs b x → Spelled ss b y → is_closed x ≡ true → is_closed y ≡ true → (x ≡ y) × (rs ≡ ss)
one_spelling [] [] b x y first second closed closed' = (sym first ∙ second, refl)
one_spelling [] (s ∷ ss) b x y first second closed closed' = absurd (never s ss b x y second first closed)
one_spelling (r ∷ rs) [] b x y first second closed closed' = absurd (never r rs b y x first second closed')
one_spelling (r ∷ rs) (s ∷ ss) b x y first second closed closed' =
    let head = one_reading r s first.0 second.0 first.1 second.1 first.3 second.3 (sym first.2 ∙ second.2) in
    let behind : first.1 ≡ second.1 = append_cancel_left second.0 first.1 second.1 (ap (λ (l : List ℕ). l ++ first.1) (sym head.0) ∙ sym first.2 ∙ second.2) in
    let rest = one_spelling rs ss first.1 x y first.4 (subst (λ (l : List ℕ). Spelled ss l y) (sym behind) second.4) closed closed' in
    let tail : rs ≡ ss = rest.1 in
    let head-is : r ≡ s = head.1 in
    (rest.0, rw (head-is, tail) refl)

pub one_log : (h k : LogHeader) (rs ss : List Record) (e f : ℕ) (b : List ℕ) → IsLog h rs e b → IsLog k ss f b → IsOneLog h k rs ss e f
one_log h k rs ss e f b first second =
    let header : h ≡ k = first.header.read ∙ sym second.header.read in
    let spelled : Spelled ss (drop h.hdr_size b) second.rest = subst (λ (j : LogHeader). Spelled ss (drop j.hdr_size b) second.rest) (sym header) second.spelled in
    let one = one_spelling rs ss (drop h.hdr_size b) first.rest second.rest first.spelled spelled first.closed second.closed in
    record {
      header = header;
      records = one.1;
      end = omega (arith, first.ends, second.ends, ap length one.0);
    }
