-- The records of a group's text, counted from the front.
use Rattle.std.proofs.Common.{◌≡◌, ℕ, suc, ◌+◌, ◌*◌, ◌^◌, ◌<◌, ◌≤◌, ◌%◌, List, [], ◌∷◌, length, take, drop, refl, sym, ◌∙◌, ap, subst, arith, length-append, length-drop}
use Rattle.std.proofs.lemmas.List.{take-append-le, drop_at}
use Rattle.dv_model.specs.declared.types.Record.{Record}
use Rattle.dv_model.specs.Spelling.{size_code}
use Rattle.dv_records.proofs.Readings.{spelling_long, spelling_whole}
use Rattle.dv_logfile.specs.Layout.{Spelled, closing, IsGroupText}

-- so many records of the text stand before the rest
pub record IsCounted (text rest : List ℕ) (count : ℕ) : Type 0 where
  pub records : (rs : List Record) → Spelled rs text closing → (left : List Record) × Spelled left rest closing × (count + length left ≡ length rs)
  pub bound : 8 * count + length rest ≤ length text

pub counted_none : (text : List ℕ) → IsCounted text text 0
counted_none text = record { records = λ rs s. (rs, s, omega arith); bound = omega arith }

-- the number that stands at the front of these bytes as a size
pub record IsSize (rest : List ℕ) (size : ℕ) : Type 0 where
  pub is : (n : ℕ) → n < 2 ^ 30 → n % 4 ≡ 0 → take 4 rest ≡ size_code n → size ≡ n

-- the first record of the rest
record First (left : List Record) (rest : List ℕ) (size : ℕ) : Type 0 where
  pub behind : List Record
  pub spelled : Spelled behind (drop size rest) closing
  pub one : length left ≡ suc (length behind)
  pub least : 8 ≤ size
  pub most : size ≤ length rest

first : (left : List Record) (rest : List ℕ) (size : ℕ) → 4 < length rest → IsSize rest size → Spelled left rest closing → First left rest size
first [] rest size long sized s = absurd (omega (arith, ap length s))
first (r ∷ left) rest size long sized s =
    let text = s.0 in
    let eight : 8 ≤ length text = spelling_long r text s.3 in
    let code : take 4 rest ≡ size_code (length text) = ap (λ (l : List ℕ). take 4 l) s.2 ∙ take-append-le 4 text s.1 (omega arith) ∙ s.3.size in
    let is : size ≡ length text = sized.is (length text) (omega (arith, s.3.below)) (spelling_whole r text s.3) code in
    let rest-is : drop size rest ≡ s.1 = ap (λ (l : List ℕ). drop size l) s.2 ∙ drop_at text s.1 size (sym is) in
    record {
      behind = left;
      spelled = subst (λ (l : List ℕ). Spelled left l closing) (sym rest-is) s.4;
      one = refl;
      least = omega arith;
      most = omega (arith, ap length s.2, length-append text s.1);
    }

-- the next record
pub next_fits : (text rest : List ℕ) (count size : ℕ) → IsGroupText text → 4 < length rest → IsSize rest size → IsCounted text rest count → (8 ≤ size) × (size ≤ length rest)
next_fits text rest count size group long sized counted =
    let all = counted.records group.records group.spelled in
    let f = first all.0 rest size long sized all.1 in
    (f.least, f.most)

pub counted_more : (text rest : List ℕ) (count size : ℕ) → IsGroupText text → 4 < length rest → IsSize rest size → IsCounted text rest count → IsCounted text (drop size rest) (count + 1)
counted_more text rest count size group long sized counted = record {
  records = λ rs s.
      let all = counted.records rs s in
      let f = first all.0 rest size long sized all.1 in
      (f.behind, f.spelled, omega (arith, all.2, f.one));
  bound = omega (arith, counted.bound, length-drop size rest, (next_fits text rest count size group long sized counted).0, (next_fits text rest count size group long sized counted).1);
}

-- no record is left
pub counted_all : (text rest : List ℕ) (count : ℕ) → length rest ≤ 4 → IsCounted text rest count → (rs : List Record) → Spelled rs text closing → count ≡ length rs
counted_all text rest count short counted rs s =
    let all = counted.records rs s in
    omega (arith, all.2, none all.0 rest short all.1)
  where
    none : (left : List Record) (b : List ℕ) → length b ≤ 4 → Spelled left b closing → length left ≡ 0
    none [] b le is = refl
    none (r ∷ left) b le is = absurd (omega (arith, spelling_long r is.0 is.3, ap length is.2, length-append is.0 is.1))
