-- Keys in parentheses.
use Rattle.std.proofs.Common.{◌≡◌, ℕ, suc, ◌-◌, List, length, Option, Some, codes, refl, sym, subst, arith}
use Rattle.dv_model.specs.declared.types.Key.{Key}
use Rattle.dv_sets.specs.declared.end.ParseEnd.{ParseEnd}
use Rattle.dv_sets.specs.declared.end.ParseEnd.TheVariants.{Bad, NoMemory}
use Rattle.dv_formats.specs.Parsing.{after, key_at, key_layer, one_of, several}
use Rattle.dv_commands.specs.Reads.{Fails}

layer_keys : (e : ParseEnd) (inner : List ℕ → Option (Key × List ℕ)) (b rest : List ℕ) → after (codes "(") b ≡ Some rest
    → Fails e (several inner (length rest) rest) → Fails e (key_layer inner b)
unfolding key_layer
layer_keys NoMemory inner b rest begins fault = tt
layer_keys Bad inner b rest begins fault = rw begins (rw fault refl)

layer_end : (e : ParseEnd) (inner : List ℕ → Option (Key × List ℕ)) (b rest : List ℕ) (keys : List Key) (end : List ℕ) → after (codes "(") b ≡ Some rest
    → several inner (length rest) rest ≡ Some (keys, end)
    → Fails e (after (codes ")") end) → Fails e (key_layer inner b)
unfolding key_layer
layer_end NoMemory inner b rest keys end begins read fault = tt
layer_end Bad inner b rest keys end begins read fault = rw begins (rw read (rw fault refl))

layer_nested : (inner : List ℕ → Option (Key × List ℕ)) (b rest : List ℕ) (keys : List Key) (end behind : List ℕ) → after (codes "(") b ≡ Some rest
    → several inner (length rest) rest ≡ Some (keys, end)
    → after (codes ")") end ≡ Some behind → key_layer inner b ≡ Some (one_of keys, behind)
unfolding key_layer
layer_nested inner b rest keys end behind begins read ends = rw begins (rw read (rw ends refl))

at_layer : (levels : ℕ) (b : List ℕ) → (levels ≡ 0 → ⊥) → key_layer (key_at (levels - 1)) b ≡ key_at levels b
unfolding key_at
at_layer levels b some = let same : levels ≡ suc (levels - 1) = omega (arith, some) in subst (λ n. key_layer (key_at (levels - 1)) b ≡ key_at n b) (sym same) refl

pub no_keys : (e : ParseEnd) (levels : ℕ) (b rest : List ℕ) → (levels ≡ 0 → ⊥) → after (codes "(") b ≡ Some rest
    → Fails e (several (key_at (levels - 1)) (length rest) rest) → Fails e (key_at levels b)
no_keys e levels b rest some begins fault = subst (Fails e) (at_layer levels b some) (layer_keys e (key_at (levels - 1)) b rest begins fault)

pub no_end : (e : ParseEnd) (levels : ℕ) (b rest : List ℕ) (keys : List Key) (end : List ℕ) → (levels ≡ 0 → ⊥) → after (codes "(") b ≡ Some rest
    → several (key_at (levels - 1)) (length rest) rest ≡ Some (keys, end)
    → Fails e (after (codes ")") end) → Fails e (key_at levels b)
no_end e levels b rest keys end some begins read fault = subst (Fails e) (at_layer levels b some) (layer_end e (key_at (levels - 1)) b rest keys end begins read fault)

pub nested : (levels : ℕ) (b rest : List ℕ) (keys : List Key) (end behind : List ℕ) → (levels ≡ 0 → ⊥) → after (codes "(") b ≡ Some rest
    → several (key_at (levels - 1)) (length rest) rest ≡ Some (keys, end)
    → after (codes ")") end ≡ Some behind → key_at levels b ≡ Some (one_of keys, behind)
nested levels b rest keys end behind some begins read ends = subst (λ r. r ≡ Some (one_of keys, behind)) (at_layer levels b some) (layer_nested (key_at (levels - 1)) b rest keys end behind begins read ends)
