-- What bytes say, line by line.
use Rattle.std.proofs.Common.{◌≡◌, ℕ, zero, suc, ◌+◌, ◌-◌, ◌<◌, ◌≤◌, true, false, List, [], ◌∷◌, ◌++◌, length, Option, Some, None, Result, Ok, Err, is_ok, refl, sym, ◌∙◌, ap, arith, append_assoc}
use Rattle.std.proofs.lemmas.Bool.{le-ltb, lt-ltb}
use Rattle.std.proofs.lemmas.List.{append-nil, length-append}
use Rattle.dv_formats.specs.Scripts.{script_limit}
use Rattle.dv_formats.specs.Parsing.{LineFault, ScriptFault, as_list, fault_at, feeds_before}
use Rattle.dv_script.specs.Sources.{ScriptFails}
use Rattle.dv_mdbox_lines.specs.declared.reading.LineFault as told
use Rattle.dv_mdbox_lines.specs.declared.reading.LineFault.TheVariants as fault
use Rattle.dv_mdbox_lines.specs.Views.{end_of, fault_of}
use Rattle.dv_mdbox_lines.specs.Scripts.{Call, Said, TakenCall, calls_in, in_script, is_good, line_of, or_none, parsed, said_in, said_within, with_call}
use Rattle.dv_mdbox_lines.proofs.Takes.{shorter}

-- ---- one line more

pub no_bytes : (most : ℕ) → said_within most [] ≡ Ok []
unfolding said_within
no_bytes zero = refl
no_bytes (suc most) = refl

step_within : (most : ℕ) (b : List ℕ) (taken : TakenCall) → 0 < length b → length b ≤ most → line_of b ≡ Ok taken
    → said_within most b ≡ with_call taken.0 (said_within (most - 1) taken.1)
unfolding said_within
step_within most [] taken some enough read = absurd (omega (arith, some))
step_within zero (x ∷ b) taken some enough read = absurd (omega (arith, enough))
step_within (suc most) (x ∷ b) taken some enough read =
    let fewer : suc most - 1 ≡ most = omega arith in
    rw read (ap (λ n. with_call taken.0 (said_within n taken.1)) (sym fewer))

fault_within : (most : ℕ) (b : List ℕ) (fault : LineFault) → 0 < length b → length b ≤ most → line_of b ≡ Err fault
    → said_within most b ≡ Err (fault, b)
unfolding said_within
fault_within most [] fault some enough read = absurd (omega (arith, some))
fault_within zero (x ∷ b) fault some enough read = absurd (omega (arith, enough))
fault_within (suc most) (x ∷ b) fault some enough read = rw read refl

-- more steps than bytes change nothing
same_within : (m n : ℕ) (b : List ℕ) → length b ≤ m → length b ≤ n → said_within m b ≡ said_within n b
same_within m n [] one two = no_bytes m ∙ sym (no_bytes n)
same_within zero n (x ∷ b) one two = absurd (omega (arith, one))
same_within (suc m) n (x ∷ b) one two = by_line (line_of (x ∷ b)) refl (λ taken less. same_within m (n - 1) taken.1 (omega (arith, one, less)) (omega (arith, two, less)))
  where
    by_line : (r : Result TakenCall LineFault) → line_of (x ∷ b) ≡ r
        → ((taken : TakenCall) → length taken.1 < length (x ∷ b) → said_within m taken.1 ≡ said_within (n - 1) taken.1)
        → said_within (suc m) (x ∷ b) ≡ said_within n (x ∷ b)
    by_line (Err fault) is onward = fault_within (suc m) (x ∷ b) fault (omega arith) one is ∙ sym (fault_within n (x ∷ b) fault (omega arith) two is)
    by_line (Ok taken) is onward =
        let less = shorter (x ∷ b) taken (omega arith) is in
        let fewer : suc m - 1 ≡ m = omega arith in
        step_within (suc m) (x ∷ b) taken (omega arith) one is
        ∙ ap (λ k. with_call taken.0 (said_within k taken.1)) fewer
        ∙ ap (with_call taken.0) (onward taken less)
        ∙ sym (step_within n (x ∷ b) taken (omega arith) two is)

pub step : (b : List ℕ) (taken : TakenCall) → 0 < length b → line_of b ≡ Ok taken → said_in b ≡ with_call taken.0 (said_in taken.1)
step b taken some read =
    let less = shorter b taken some read in
    step_within (length b) b taken some (omega arith) read
    ∙ ap (with_call taken.0) (same_within (length b - 1) (length taken.1) taken.1 (omega (arith, less)) (omega arith))

pub faulty : (b : List ℕ) (fault : LineFault) → 0 < length b → line_of b ≡ Err fault → said_in b ≡ Err (fault, b)
faulty b fault some read = fault_within (length b) b fault some (omega arith) read

pub ended : (b : List ℕ) → length b ≡ 0 → said_in b ≡ Ok []
ended [] empty = no_bytes 0
ended (x ∷ b) empty = absurd (omega (arith, empty))

-- ---- up to a place

abbrev pub before : List Call → Said → Said
before calls (Ok others) = Ok (calls ++ others)
before calls (Err fault) = Err fault

pub before_none : (said : Said) → before [] said ≡ said
before_none (Ok calls) = refl
before_none (Err fault) = refl

before_more : (calls : List Call) (call : Option Call) (said : Said) → before calls (with_call call said) ≡ before (calls ++ as_list call) said
before_more calls None (Ok others) = ap (λ cs. Ok (cs ++ others)) (sym (append-nil calls))
before_more calls None (Err fault) = refl
before_more calls (Some call) (Ok others) = ap Ok (sym (append_assoc calls (call ∷ []) others))
before_more calls (Some call) (Err fault) = refl

-- some calls were read, and this is left
pub record IsReadTo (b rest : List ℕ) : Type 0 where
  pub calls : List Call
  pub same : said_in b ≡ before calls (said_in rest)
  pub few : length calls + length rest ≤ length b

pub starts : (b : List ℕ) → IsReadTo b b
starts b = record { calls = []; same = sym (before_none (said_in b)); few = omega arith }

one_at_most : (call : Option Call) → length (as_list call) ≤ 1
one_at_most None = omega arith
one_at_most (Some call) = omega arith

pub goes_on : (b rest : List ℕ) (taken : TakenCall) → IsReadTo b rest → 0 < length rest → line_of rest ≡ Ok taken → IsReadTo b taken.1
goes_on b rest taken so_far some read = record {
  calls = so_far.calls ++ as_list taken.0;
  same = so_far.same ∙ ap (before so_far.calls) (step rest taken some read) ∙ before_more so_far.calls taken.0 (said_in taken.1);
  few = omega (arith, so_far.few, shorter rest taken some read, one_at_most taken.0, length-append so_far.calls (as_list taken.0));
}

pub within_limit : (b : List ℕ) → length b ≤ 67108864 → parsed b ≡ in_script b (said_in b)
within_limit b short = rw (le-ltb script_limit (length b) short) refl

pub beyond_limit : (b : List ℕ) → 67108864 < length b → parsed b ≡ Err ScriptFault.TooLong
beyond_limit b long = rw (lt-ltb script_limit (length b) long) refl

pub fails : (b rest : List ℕ) (fault : LineFault) → IsReadTo b rest → 0 < length rest → length b ≤ 67108864 → line_of rest ≡ Err fault
    → Err (fault_at (1 + feeds_before b rest) fault) ≡ parsed b
fails b rest fault so_far some short read =
    sym (within_limit b short ∙ ap (in_script b) (so_far.same ∙ ap (before so_far.calls) (faulty rest fault some read)))

pub record IsDone (b : List ℕ) : Type 0 where
  pub good : is_good b ≡ true
  pub calls : parsed b ≡ Ok (calls_in b)
  pub few : length (calls_in b) ≤ length b

pub done : (b rest : List ℕ) → IsReadTo b rest → length rest ≡ 0 → length b ≤ 67108864 → IsDone b
done b rest so_far empty short =
    let all : said_in b ≡ Ok (so_far.calls ++ []) = so_far.same ∙ ap (before so_far.calls) (ended rest empty) in
    let are : calls_in b ≡ so_far.calls = ap or_none all ∙ append-nil so_far.calls in
    record {
      good = ap is_ok all;
      calls = within_limit b short ∙ ap (in_script b) all ∙ ap Ok (append-nil so_far.calls ∙ sym are);
      few = omega (arith, so_far.few, ap length are);
    }

-- ---- the next call

-- of good bytes the others say the same
pub record SaysAs (b rest : List ℕ) : Type 0 where
  pub same : said_in rest ≡ said_in b
  pub good : is_good b ≡ true

pub left_out : (b rest next : List ℕ) → SaysAs b rest → 0 < length rest → line_of rest ≡ Ok (None, next) → SaysAs b next
left_out b rest next so_far some read = record {
  same = sym (step rest (None, next) some read) ∙ so_far.same;
  good = so_far.good;
}

pub record IsGiven (b next : List ℕ) (call : Call) : Type 0 where
  pub good : is_good next ≡ true
  pub left : calls_in b ≡ call ∷ calls_in next

pub given : (b rest next : List ℕ) (call : Call) → SaysAs b rest → 0 < length rest → line_of rest ≡ Ok (Some call, next) → IsGiven b next call
given b rest next call so_far some read = by_said (said_in next) refl
  where
    whole : said_in b ≡ with_call (Some call) (said_in next)
    whole = sym so_far.same ∙ step rest (Some call, next) some read

    by_said : (s : Said) → said_in next ≡ s → IsGiven b next call
    by_said (Ok calls) is = record {
      good = ap is_ok is;
      left = ap or_none (whole ∙ ap (with_call (Some call)) is) ∙ ap (λ cs. call ∷ cs) (sym (ap or_none is));
    }
    by_said (Err fault) is =
        let bad : is_good b ≡ false = ap is_ok (whole ∙ ap (with_call (Some call)) is) in
        absurd (let no : true ≡ false = sym so_far.good ∙ bad in cc)

pub no_fault : (b rest : List ℕ) (fault : LineFault) → SaysAs b rest → 0 < length rest → line_of rest ≡ Err fault → ⊥
no_fault b rest fault so_far some read =
    let bad : is_good b ≡ false = ap is_ok (sym so_far.same ∙ faulty rest fault some read) in
    let no : true ≡ false = sym so_far.good ∙ bad in cc

pub none_left : (b rest : List ℕ) → SaysAs b rest → length rest ≡ 0 → calls_in b ≡ []
none_left b rest so_far empty = ap or_none (sym so_far.same ∙ ended rest empty)

-- ---- what is told of a fault

pub end_fails : {Y : Type 0} (k : ℕ) (at : told.LineFault) (read : Result Y ScriptFault) → Err (fault_at k (fault_of at)) ≡ read → ScriptFails (end_of k at) read
end_fails k fault.Bad read is = sym is
end_fails k fault.Short read is = sym is
