-- Leaves of one roll name one table for one generation.
use Rattle.std.proofs.Common.{◌≡◌, ◌⊎◌, ℕ, zero, suc, List, [], ◌∷◌, ◌++◌, Some, subst, ⊎_elim}
use Rattle.std.specs.Prelude.{slice_get, Option}
use mathlib.Core.List.{IsPrefix}
use Rattle.atomic_table.specs.Seated.{TableId}
use Rattle.dv_front.specs.Rolls.{table_at}

get_front : {A : Type 0} (xs ys : List A) (k : ℕ) (x : A) → slice_get xs k ≡ Some x → slice_get (xs ++ ys) k ≡ Some x
get_front [] ys k x e = absurd cc
get_front (y ∷ xs) ys zero x e = e
get_front (y ∷ xs) ys (suc k) x e = get_front xs ys k x e

-- the table of a generation in a beginning is that in the whole list
pub table_at_prefix : (xs ys : List TableId) (number : ℕ) (t : TableId) → IsPrefix xs ys → table_at xs number ≡ Some t → table_at ys number ≡ Some t
table_at_prefix xs ys zero t p e = absurd cc
table_at_prefix xs ys (suc k) t p e = subst (λ l. slice_get l k ≡ Some t) p.1 (get_front xs p.0 k t e)

some_one : (t u : TableId) (o : Option TableId) → o ≡ Some t → o ≡ Some u → t ≡ u
some_one t u o p q = cc (p, q)

pub one_table : (xs ys : List TableId) → IsPrefix xs ys ⊎ IsPrefix ys xs → (number : ℕ) (t u : TableId) → table_at xs number ≡ Some t → table_at ys number ≡ Some u → t ≡ u
one_table xs ys either number t u p q = ⊎_elim
    (λ begins. some_one t u (table_at ys number) (table_at_prefix xs ys number t begins p) q)
    (λ begins. some_one t u (table_at xs number) p (table_at_prefix ys xs number u begins q))
    either
