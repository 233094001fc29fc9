-- What rows are like, told one by one, and a replica that is made of them.
use Rattle.std.proofs.Common.{◌≡◌, ℕ, zero, suc, ◌+◌, true, false, cond, List, [], ◌∷◌, ◌++◌, drop, map, Some, Option, sym, ◌∙◌, ap, arith}
use Rattle.std.specs.Prelude.{filter, slice_get}
use Rattle.std.specs.List.{enumerate_from}
use Rattle.std.proofs.lemmas.List.{append_assoc}
use Rattle.dv_model.specs.declared.types.Mailbox.{Mailbox}
use Rattle.dv_model.specs.declared.types.Row.{Row}
use Rattle.dv_qresync.specs.declared.types.Answer.{Answer}
use Rattle.dv_qresync.specs.Answers.{fetch_of, is_told}

-- what is told of the rows from a place on
abbrev pub told_from : Mailbox → Option ℕ → ℕ → List Row → List Answer
told_from m since number rows = map (fetch_of m) (filter (λ row. is_told m since row.1) (enumerate_from number rows))

pub drop_at : {X : Type 0} (xs : List X) (k : ℕ) (x : X) → slice_get xs k ≡ Some x → drop k xs ≡ x ∷ drop (k + 1) xs
drop_at [] k x e = absurd cc
drop_at (y ∷ ys) zero x e = let same : y ≡ x = cc in ap (λ z. z ∷ ys) same
drop_at (y ∷ ys) (suc k) x e = let next : suc k + 1 ≡ suc (k + 1) = omega arith in drop_at ys k x e ∙ ap (λ n. x ∷ drop n (y ∷ ys)) (sym next)

-- one row more
pub tells : (m : Mailbox) (since : Option ℕ) (place : ℕ) (row : Row) (told all : List Answer) → slice_get m.rows place ≡ Some row → is_told m since row ≡ true
    → told ++ told_from m since (place + 1) (drop place m.rows) ≡ all
    → (told ++ fetch_of m (place + 1, row) ∷ []) ++ told_from m since (place + 1 + 1) (drop (place + 1) m.rows) ≡ all
tells m since place row told all there passes-it is =
    append_assoc told (fetch_of m (place + 1, row) ∷ []) (told_from m since (place + 1 + 1) (drop (place + 1) m.rows))
    ∙ ap (λ as'. told ++ as') (sym (ap (told_from m since (place + 1)) (drop_at m.rows place row there)
    ∙ ap (λ b. map (fetch_of m) (cond b ((place + 1, row) ∷ filter (λ row. is_told m since row.1) (enumerate_from (place + 1 + 1) (drop (place + 1) m.rows))) (filter (λ row. is_told m since row.1) (enumerate_from (place + 1 + 1) (drop (place + 1) m.rows))))) passes-it))
    ∙ is

-- one that isn't told
pub passes : (m : Mailbox) (since : Option ℕ) (place : ℕ) (row : Row) (told all : List Answer) → slice_get m.rows place ≡ Some row → is_told m since row ≡ false
    → told ++ told_from m since (place + 1) (drop place m.rows) ≡ all
    → told ++ told_from m since (place + 1 + 1) (drop (place + 1) m.rows) ≡ all
passes m since place row told all there not is =
    ap (λ as'. told ++ as') (sym (ap (told_from m since (place + 1)) (drop_at m.rows place row there)
    ∙ ap (λ b. map (fetch_of m) (cond b ((place + 1, row) ∷ filter (λ row. is_told m since row.1) (enumerate_from (place + 1 + 1) (drop (place + 1) m.rows))) (filter (λ row. is_told m since row.1) (enumerate_from (place + 1 + 1) (drop (place + 1) m.rows))))) not))
    ∙ is
