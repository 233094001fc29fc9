-- What a session has seen, of what it knows.
use Rattle.std.proofs.Common.{◌≡◌, ◌⊎◌, inl, inr, ℕ, ◌≤◌, List, [], ◌∷◌, ◌++◌, length, take, drop, refl, sym, ap, subst, ◌∙◌, append_assoc, append-nil, arith, length-append}
use Rattle.std.proofs.lemmas.List.{drop-append-le, length-drop, length-take-le, take-append-le, take_all}
use Rattle.std.proofs.lemmas.List.Concat.{flat_map-cons}
use Rattle.std.proofs.Math.Seq.{drop-length}
use mathlib.Core.List.{IsPrefix}
use Rattle.dv_formats.specs.Feeds.{entry_words}
use Rattle.dv_front.specs.declared.notes.Generation.{Generation}
use Rattle.dv_front.specs.declared.notes.Note.{Note}
use Rattle.dv_front.specs.Ends.{PassView}
use Rattle.dv_front.specs.Notes.{entries_of, text_of}
use Rattle.dv_front.proofs.NoteLemmas.{text_append}
use Rattle.dv_front.proofs.Prefixes.{prefix_self, prefix_shorter, prefix_take, prefix_trans}
use Rattle.dv_member.specs.Inside.{HasTaken, all_of}

-- no words are those of no notes
pub no_words : (notes : List Note) → text_of notes ≡ [] → notes ≡ []
no_words [] e = refl
no_words (n ∷ notes) e = absurd (omega (arith, ap length e, ap length (flat_map-cons entry_words n.entry (entries_of notes))))

-- more notes of one generation
pub all_grown : (p q : PassView) → q.generation ≡ p.generation → (more : IsPrefix p.notes q.notes) → all_of q ≡ all_of p ++ more.0
all_grown p q one more =
    ap (λ (g : Generation). g.base ++ q.notes) one ∙ ap (λ (l : List Note). p.generation.base ++ l) (sym more.1) ∙ sym (append_assoc p.generation.base p.notes more.0)

pub seen_grown : (p q : PassView) (seen : ℕ) → seen ≤ length (all_of p) → q.generation ≡ p.generation → IsPrefix p.notes q.notes → take seen (all_of q) ≡ take seen (all_of p)
seen_grown p q seen within one more = ap (take seen) (all_grown p q one more) ∙ take-append-le seen (all_of p) more.0 within

pub within_grown : (p q : PassView) (seen : ℕ) → seen ≤ length (all_of p) → q.generation ≡ p.generation → IsPrefix p.notes q.notes → seen ≤ length (all_of q)
within_grown p q seen within one more = omega (arith, within, ap length (all_grown p q one more), length-append (all_of p) more.0)

-- no words are taken, and no fewer notes known
pub taken_on : (words : List ℕ) (p q : PassView) (seen : ℕ) → seen ≤ length (all_of p) → q.generation ≡ p.generation → IsPrefix p.notes q.notes → q.taken ≡ p.taken
    → HasTaken words p seen → HasTaken words q seen
taken_on words p q seen within one more same took =
    let notes : text_of p.notes ++ text_of more.0 ≡ text_of q.notes = sym (text_append p.notes more.0) ∙ ap text_of more.1 in
    let late : drop q.taken (text_of q.notes) ≡ drop p.taken (text_of p.notes) ++ text_of more.0 =
    ap (λ (n : ℕ). drop n (text_of q.notes)) same ∙ ap (drop p.taken) (sym notes) ∙ drop-append-le p.taken (text_of p.notes) (text_of more.0) took.taken in
    record {
      taken = omega (arith, same, took.taken, ap length notes, length-append (text_of p.notes) (text_of more.0));
      rest = ap (λ (l : List Note). text_of (drop seen l)) (all_grown p q one more)
          ∙ ap text_of (drop-append-le seen (all_of p) more.0 within)
          ∙ text_append (drop seen (all_of p)) more.0
          ∙ ap (λ (w : List ℕ). w ++ text_of more.0) took.rest
          ∙ append_assoc words (drop p.taken (text_of p.notes)) (text_of more.0)
          ∙ ap (λ (w : List ℕ). words ++ w) (sym late);
    }

-- all words that are known are taken
pub record TookAll (words : List ℕ) (p : PassView) (seen : ℕ) : Type 0 where
  pub took : HasTaken words p seen
  pub rest : text_of (drop seen (all_of p)) ≡ words

pub all_taken : (words : List ℕ) (p : PassView) (seen : ℕ) → p.taken ≡ length (text_of p.notes) → HasTaken words p seen → text_of (drop seen (all_of p)) ≡ words
all_taken words p seen all took =
    took.rest ∙ ap (λ (n : ℕ). words ++ drop n (text_of p.notes)) all ∙ ap (λ (w : List ℕ). words ++ w) (drop-length (text_of p.notes)) ∙ append-nil words

pub taken_all : (before words : List ℕ) (p q : PassView) (seen : ℕ) → seen ≤ length (all_of p) → q.generation ≡ p.generation → IsPrefix p.notes q.notes
    → q.taken ≡ length (text_of q.notes) → words ≡ before ++ drop p.taken (text_of q.notes) → HasTaken before p seen → TookAll words q seen
taken_all before words p q seen within one more all is took =
    let on : HasTaken before (record q { taken = p.taken }) seen = taken_on before p (record q { taken = p.taken }) seen within one more refl took in
    let rest : text_of (drop seen (all_of q)) ≡ words = on.rest ∙ sym is in
    let none : drop q.taken (text_of q.notes) ≡ [] = ap (λ (n : ℕ). drop n (text_of q.notes)) all ∙ drop-length (text_of q.notes) in
    record {
      took = record { taken = omega (arith, all); rest = rest ∙ sym (append-nil words) ∙ ap (λ (w : List ℕ). words ++ w) (sym none) };
      rest = rest;
    }

-- where none of them is left, all is seen
pub all_seen : (p : PassView) (seen : ℕ) → seen ≤ length (all_of p) → text_of (drop seen (all_of p)) ≡ [] → seen ≡ length (all_of p)
all_seen p seen within none = omega (arith, within, length-drop seen (all_of p), ap length (no_words (drop seen (all_of p)) none))

-- the end of what is known, where all is taken
pub taken_at_end : (p : PassView) (seen : ℕ) → seen ≡ length (all_of p) → p.taken ≡ length (text_of p.notes) → HasTaken [] p seen
taken_at_end p seen last all = record {
  taken = omega (arith, all);
  rest = ap (λ (n : ℕ). text_of (drop n (all_of p))) last ∙ ap text_of (drop-length (all_of p)) ∙ sym (ap (λ (n : ℕ). drop n (text_of p.notes)) all ∙ drop-length (text_of p.notes));
}

-- what is seen of them begins what they begin
pub seen_begins : (p q : PassView) (seen : ℕ) (notes : List Note) → seen ≤ length (all_of p) → q.generation ≡ p.generation → IsPrefix p.notes q.notes → IsPrefix (all_of q) notes
    → IsPrefix (take seen (all_of p)) notes
seen_begins p q seen notes within one more begins =
    prefix_trans (take seen (all_of p)) (all_of q) notes
    (subst (λ (l : List Note). IsPrefix l (all_of q)) (seen_grown p q seen within one more) (prefix_take seen (all_of q))) begins

-- of what two have seen in one generation the one begins the other
pub seen_meets : (p q : PassView) (j k : ℕ) → j ≤ length (all_of p) → k ≤ length (all_of q) → q.generation ≡ p.generation → IsPrefix p.notes q.notes ⊎ IsPrefix q.notes p.notes
    → j ≤ k → IsPrefix (take j (all_of p)) (take k (all_of q))
seen_meets p q j k p_within q_within one (inl more) le =
    prefix_shorter (take j (all_of p)) (take k (all_of q)) (all_of q) (seen_begins p q j (all_of q) p_within one more (prefix_self (all_of q))) (prefix_take k (all_of q))
    (omega (arith, le, length-take-le j (all_of p) p_within, length-take-le k (all_of q) q_within))
seen_meets p q j k p_within q_within one (inr more) le =
    prefix_shorter (take j (all_of p)) (take k (all_of q)) (all_of p) (prefix_take j (all_of p)) (seen_begins q p k (all_of p) q_within (sym one) more (prefix_self (all_of p)))
    (omega (arith, le, length-take-le j (all_of p) p_within, length-take-le k (all_of q) q_within))

pub seen_stays : (p q : PassView) (seen : ℕ) → seen ≤ length (all_of p) → q.generation ≡ p.generation → IsPrefix p.notes q.notes → IsPrefix (take seen (all_of p)) (take seen (all_of q))
seen_stays p q seen within one more = subst (λ (l : List Note). IsPrefix l (take seen (all_of q))) (seen_grown p q seen within one more) (prefix_self (take seen (all_of q)))

pub seen_to_end : (p q : PassView) (seen end : ℕ) → seen ≤ length (all_of p) → q.generation ≡ p.generation → IsPrefix p.notes q.notes → end ≡ length (all_of q) → IsPrefix (take seen (all_of p)) (take end (all_of q))
seen_to_end p q seen end within one more last =
    subst (λ (l : List Note). IsPrefix (take seen (all_of p)) l) (sym (take_all end (all_of q) (omega (arith, last)))) (seen_begins p q seen (all_of q) within one more (prefix_self (all_of q)))
