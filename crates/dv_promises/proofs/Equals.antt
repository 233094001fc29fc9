-- Two writes that pass the comparison are one command.
use Rattle.std.proofs.Common.{◌≡◌, ℕ, Bool, true, false, ◌&&◌, List, [], ◌∷◌, nat_eq, Option, Some, None, refl, ◌∙◌, ap}
use Rattle.std.specs.Prelude.{bytes_eq}
use Rattle.std.proofs.lemmas.Bool.{and_parts, eqb-true}
use Rattle.std.proofs.lemmas.Slice.Eq.{bytes_eq-Decides}
use Rattle.dv_model.specs.declared.types.Command.{Command}
use Rattle.dv_model.specs.declared.types.Command.TheVariants as command
use Rattle.dv_model.specs.declared.types.End.{End}
use Rattle.dv_model.specs.declared.types.End.TheVariants.{Number, Star}
use Rattle.dv_model.specs.declared.types.How.{How}
use Rattle.dv_model.specs.declared.types.How.TheVariants.{Add, Remove, Replace}
use Rattle.dv_model.specs.declared.types.Span.{Span}
use Rattle.dv_interleavings.specs.Worlds.{same_bool, same_end, same_how, same_items, same_number, same_set, same_write}

one_bytes : (xs ys : List ℕ) → bytes_eq xs ys ≡ true → xs ≡ ys
one_bytes xs ys e = (bytes_eq-Decides xs ys).0 e

one_items : {X : Type 0} (same : X → X → Bool) → ((x y : X) → same x y ≡ true → x ≡ y) → (xs ys : List X) → same_items same xs ys ≡ true → xs ≡ ys
one_items same one [] [] e = refl
one_items same one [] (y ∷ ys) e = absurd cc
one_items same one (x ∷ xs) [] e = absurd cc
one_items same one (x ∷ xs) (y ∷ ys) e =
    let both = and_parts (same x y) (same_items same xs ys) e in ap (λ z. z ∷ xs) (one x y both.0) ∙ ap (λ zs. y ∷ zs) (one_items same one xs ys both.1)

one_end : (a b : End) → same_end a b ≡ true → a ≡ b
one_end (Number m) (Number n) e = ap Number (eqb-true m n e)
one_end Star Star e = refl
one_end (Number m) Star e = absurd cc
one_end Star (Number n) e = absurd cc

one_span : (a b : Span) → (same_end a.from b.from && same_end a.to b.to) ≡ true → a ≡ b
one_span a b e =
    let both = and_parts (same_end a.from b.from) (same_end a.to b.to) e in
    ap (λ (x : End). record { from = x; to = a.to }) (one_end a.from b.from both.0) ∙ ap (λ (x : End). record { from = b.from; to = x }) (one_end a.to b.to both.1)

one_set : (a b : List Span) → same_set a b ≡ true → a ≡ b
one_set a b e = one_items (λ a b. same_end a.from b.from && same_end a.to b.to) one_span a b e

one_how : (a b : How) → same_how a b ≡ true → a ≡ b
one_how Add Add e = refl
one_how Remove Remove e = refl
one_how Replace Replace e = refl
one_how Add Remove e = absurd cc
one_how Add Replace e = absurd cc
one_how Remove Add e = absurd cc
one_how Remove Replace e = absurd cc
one_how Replace Add e = absurd cc
one_how Replace Remove e = absurd cc

one_bool : (a b : Bool) → same_bool a b ≡ true → a ≡ b
one_bool true true e = refl
one_bool true false e = absurd cc
one_bool false true e = absurd cc
one_bool false false e = refl

one_number : (a b : Option ℕ) → same_number a b ≡ true → a ≡ b
one_number None None e = refl
one_number (Some m) (Some n) e = ap Some (eqb-true m n e)
one_number None (Some n) e = absurd cc
one_number (Some m) None e = absurd cc

one_append : (flags flags' : ℕ) (keywords keywords' : List (List ℕ)) (message message' : List ℕ)
    → (nat_eq flags flags' && same_items bytes_eq keywords keywords' && bytes_eq message message') ≡ true → command.Append flags keywords message ≡ command.Append flags' keywords' message'
one_append flags flags' keywords keywords' message message' e =
    let last = and_parts (nat_eq flags flags' && same_items bytes_eq keywords keywords') (bytes_eq message message') e in
    let first = and_parts (nat_eq flags flags') (same_items bytes_eq keywords keywords') last.0 in
    ap (λ n. command.Append n keywords message) (eqb-true flags flags' first.0)
    ∙ ap (λ names. command.Append flags' names message) (one_items bytes_eq one_bytes keywords keywords' first.1)
    ∙ ap (λ bytes. command.Append flags' keywords' bytes) (one_bytes message message' last.1)

one_store : (by_uid by_uid' : Bool) (set set' : List Span) (how how' : How) (flags flags' : ℕ) (keywords keywords' : List (List ℕ)) (since since' : Option ℕ)
    → (same_bool by_uid by_uid' && same_set set set' && same_how how how' && nat_eq flags flags' && same_items bytes_eq keywords keywords' && same_number since since') ≡ true
    → command.Store by_uid set how flags keywords since ≡ command.Store by_uid' set' how' flags' keywords' since'
one_store by_uid by_uid' set set' how how' flags flags' keywords keywords' since since' e =
    let a5 = and_parts (same_bool by_uid by_uid' && same_set set set' && same_how how how' && nat_eq flags flags' && same_items bytes_eq keywords keywords') (same_number since since') e in
    let a4 = and_parts (same_bool by_uid by_uid' && same_set set set' && same_how how how' && nat_eq flags flags') (same_items bytes_eq keywords keywords') a5.0 in
    let a3 = and_parts (same_bool by_uid by_uid' && same_set set set' && same_how how how') (nat_eq flags flags') a4.0 in
    let a2 = and_parts (same_bool by_uid by_uid' && same_set set set') (same_how how how') a3.0 in
    let a1 = and_parts (same_bool by_uid by_uid') (same_set set set') a2.0 in
    ap (λ b. command.Store b set how flags keywords since) (one_bool by_uid by_uid' a1.0)
    ∙ ap (λ spans. command.Store by_uid' spans how flags keywords since) (one_set set set' a1.1)
    ∙ ap (λ h. command.Store by_uid' set' h flags keywords since) (one_how how how' a2.1)
    ∙ ap (λ n. command.Store by_uid' set' how' n keywords since) (eqb-true flags flags' a3.1)
    ∙ ap (λ names. command.Store by_uid' set' how' flags' names since) (one_items bytes_eq one_bytes keywords keywords' a4.1)
    ∙ ap (λ n. command.Store by_uid' set' how' flags' keywords' n) (one_number since since' a5.1)

pub one_write : (a b : Command) → same_write a b ≡ true → a ≡ b
one_write command.Check command.Check e = refl
one_write command.Expunge command.Expunge e = refl
one_write (command.Append flags keywords message) (command.Append flags' keywords' message') e = one_append flags flags' keywords keywords' message message' e
one_write (command.Store by_uid set how flags keywords since) (command.Store by_uid' set' how' flags' keywords' since') e =
    one_store by_uid by_uid' set set' how how' flags flags' keywords keywords' since since' e
one_write (command.UidRemove set) (command.UidRemove set') e = ap command.UidRemove (one_set set set' e)
one_write a b e = absurd cc
