-- A write is one command with itself.
use Rattle.std.proofs.Common.{◌≡◌, ℕ, Bool, true, false, ◌&&◌, List, [], ◌∷◌, nat_eq, Option, Some, None, refl}
use Rattle.std.specs.Prelude.{bytes_eq}
use Rattle.std.proofs.lemmas.Bool.{eq-eqb}
use Rattle.std.proofs.lemmas.Slice.Eq.{bytes_eq-Decides}
use Rattle.dv_model.specs.declared.types.Command.{Command}
use Rattle.dv_model.specs.declared.types.Command.TheVariants as command
use Rattle.dv_model.specs.declared.types.End.{End}
use Rattle.dv_model.specs.declared.types.End.TheVariants.{Number, Star}
use Rattle.dv_model.specs.declared.types.How.{How}
use Rattle.dv_model.specs.declared.types.How.TheVariants.{Add, Remove, Replace}
use Rattle.dv_model.specs.declared.types.Span.{Span}
use Rattle.dv_model.specs.Sessions.{is_write}
use Rattle.dv_interleavings.specs.Worlds.{same_bool, same_end, same_how, same_items, same_number, same_set, same_write}

both : (a b : Bool) → a ≡ true → b ≡ true → (a && b) ≡ true
both a b one other = rw (one, other) refl

own_number : (n : ℕ) → nat_eq n n ≡ true
own_number n = eq-eqb n n refl

own_bytes : (xs : List ℕ) → bytes_eq xs xs ≡ true
own_bytes xs = (bytes_eq-Decides xs xs).1 refl

own_items : {X : Type 0} (same : X → X → Bool) → ((x : X) → same x x ≡ true) → (xs : List X) → same_items same xs xs ≡ true
own_items same own [] = refl
own_items same own (x ∷ xs) = both (same x x) (same_items same xs xs) (own x) (own_items same own xs)

own_end : (e : End) → same_end e e ≡ true
own_end (Number n) = own_number n
own_end Star = refl

own_set : (set : List Span) → same_set set set ≡ true
own_set set = own_items (λ a b. same_end a.from b.from && same_end a.to b.to) (λ a. both (same_end a.from a.from) (same_end a.to a.to) (own_end a.from) (own_end a.to)) set

own_how : (h : How) → same_how h h ≡ true
own_how Add = refl
own_how Remove = refl
own_how Replace = refl

own_bool : (b : Bool) → same_bool b b ≡ true
own_bool true = refl
own_bool false = refl

own_since : (o : Option ℕ) → same_number o o ≡ true
own_since None = refl
own_since (Some n) = own_number n

pub own_write : (c : Command) → is_write c ≡ true → same_write c c ≡ true
own_write command.Check write = refl
own_write command.Expunge write = refl
own_write (command.Append flags keywords message) write = rw (own_number flags, own_items bytes_eq own_bytes keywords, own_bytes message) refl
own_write (command.Store by_uid set how flags keywords since) write =
    rw (own_bool by_uid, own_set set, own_how how, own_number flags, own_items bytes_eq own_bytes keywords, own_since since) refl
own_write (command.UidRemove set) write = own_set set
own_write c write = absurd cc
