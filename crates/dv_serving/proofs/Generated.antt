-- Each command of a generated script may be served.
use Rattle.std.proofs.Common.{◌≡◌, ◌⊎◌, inl, inr, ℕ, zero, suc, ◌+◌, ◌%◌, ◌^◌, ◌<◌, ◌≤◌, Bool, true, false, cond, List, [], ◌∷◌, length, All, map, None, codes, decimal, nat_eq, nat_le, refl, arith, length-append}
use Rattle.std.specs.List.{range_with_len}
use Rattle.std.proofs.Math.Nat.{mod-lt}
use Rattle.std.proofs.Math.Pow.{pow-lt}
use Rattle.std.proofs.lemmas.Bool.{leb-true}
use Rattle.std.proofs.lemmas.Fmt.{length-decimal-le}
use Rattle.std.proofs.lemmas.List.Elements.{All-append, All-cons, All-contains, All-from_recursion, All-nil, All-weaker}
use Rattle.std.proofs.lemmas.List.FromFn.{length-map-range_with_len}
use Rattle.dv_model.specs.declared.types.Command.{Command}
use Rattle.dv_model.specs.declared.types.Command.TheVariants as command
use Rattle.dv_model.specs.Names.{IsName, IsNameByte}
use Rattle.dv_formats.specs.Generators.{append_drawn, command_by, command_drawn, commands_from, drawn, fetch_drawn, generated, how_of, keyword_of, next_state, session_name, store_drawn, uids_from}
use Rattle.dv_formats.specs.Scripts.{NamedLine}
use Rattle.dv_formats.proofs.Stops.{IsDigit, are_digits}
use Rattle.dv_serving.specs.Servable.{IsServable}
use Rattle.dv_serving.proofs.Servable.{IsFine}

-- ---- keywords

-- a digit or the letter before it
abbrev IsPart : ℕ → Type 0
IsPart b = (b ≡ 107) ⊎ IsDigit b

part_fits : (b : ℕ) → IsPart b → IsNameByte b
part_fits b is = record {
  printable = (omega (arith, is), omega (arith, is));
  plain = λ has. All-contains (λ (x : ℕ). x ≡ b → ⊥) (codes "(){\"\\%*") b apart has refl;
}
  where
    apart : All (λ (x : ℕ). x ≡ b → ⊥) (codes "(){\"\\%*")
    apart = All-from_recursion (λ (x : ℕ). x ≡ b → ⊥) (codes "(){\"\\%*") (omega (arith, is))

-- a letter and a number below 40
keyword_name : (n : ℕ) → IsName (keyword_of n)
keyword_name n =
    let small : n % 40 < 40 = mod-lt n (omega arith) in
    let short : length (decimal (n % 40)) ≤ 2 = length-decimal-le 2 (n % 40) (omega arith) (omega (arith, small)) (omega (arith, small)) in
    let digits : All IsDigit (decimal (n % 40)) = are_digits (n % 40) (omega (arith, small)) in
    let parts : All IsPart (107 ∷ decimal (n % 40)) = All-cons IsPart 107 (decimal (n % 40)) (inl refl) (All-weaker IsDigit IsPart (λ b is. inr is) (decimal (n % 40)) digits) in
    record {
      size = (omega arith, omega (arith, short));
      bytes = All-weaker IsPart IsNameByte part_fits (107 ∷ decimal (n % 40)) parts;
    }

-- ---- one command

abbrev IsGood : Command × ℕ → Type 0
IsGood one = IsServable one.0

by_test : (b : Bool) (x y : Command × ℕ) → (b ≡ true → IsGood x) → (b ≡ false → IsGood y)
    → IsGood (cond b x y)
by_test true x y good other = good refl
by_test false x y good other = other refl

append_good : (state : ℕ) → IsGood (append_drawn state)
append_good state =
    record { command = (omega arith, All-nil IsName); few = omega arith; shallow = tt }

store_good : (i state : ℕ) → IsGood (store_drawn i state)
store_good i state =
    by_test (nat_le kind 4) (stored (2 ^ kind) [], third) (stored 0 (keyword_of (drawn fourth) ∷ []), fourth)
    (λ e. let few = leb-true kind 4 e in record { command = (pow-lt {j = 8} (omega (arith, few)), All-nil IsName); few = omega arith; shallow = tt })
    (λ e. record { command = (omega arith, All-cons IsName (keyword_of (drawn fourth)) [] (keyword_name (drawn fourth)) (All-nil IsName)); few = omega arith; shallow = tt })
  where
    first : ℕ
    first = next_state state

    second : ℕ
    second = next_state first

    third : ℕ
    third = next_state second

    fourth : ℕ
    fourth = next_state third

    kind : ℕ
    kind = drawn third % 6

    stored : ℕ → List (List ℕ) → Command
    stored flags keywords = command.Store true (uids_from i first) (how_of (drawn second % 3)) flags keywords None

command_good : (kind i state : ℕ) → IsGood (command_by kind i state)
command_good kind i state =
    by_test (nat_le kind 2) (append_drawn state) stores (λ e. append_good state) (λ e.
    by_test (nat_le kind 4) (store_drawn i state) fetches (λ e. store_good i state) (λ e.
    by_test (nat_eq kind 5) (fetch_drawn i state) others (λ e. record { command = tt; few = tt; shallow = tt }) (λ e.
    by_test (nat_eq kind 6) (command.Noop, state) (command.Expunge, state) (λ e. record { command = tt; few = tt; shallow = tt }) (λ e. record { command = tt; few = tt; shallow = tt }))))
  where
    others : Command × ℕ
    others = cond (nat_eq kind 6) (command.Noop, state) (command.Expunge, state)

    fetches : Command × ℕ
    fetches = cond (nat_eq kind 5) (fetch_drawn i state) others

    stores : Command × ℕ
    stores = cond (nat_le kind 4) (store_drawn i state) fetches

-- ---- all commands

commands_good : (sessions i count state : ℕ) → All IsFine (commands_from sessions i count state)
commands_good sessions i zero state = All-nil IsFine
commands_good sessions i (suc count) state =
    let one = command_drawn i state in
    let kind = next_state state in
    All-cons IsFine (session_name (i % sessions + 1), one.0) (commands_from sessions (i + 1) count one.1)
    (command_good (drawn kind % 8) i kind) (commands_good sessions (i + 1) count one.1)

command_count : (sessions i count state : ℕ) → length (commands_from sessions i count state) ≡ count
command_count sessions i zero state = refl
command_count sessions i (suc count) state =
    omega (arith, command_count sessions (i + 1) count (command_drawn i state).1)

abbrev selected : ℕ → NamedLine
selected n = (session_name n, command.Select)

selects_good : (numbers : List ℕ) → All IsFine (map selected numbers)
selects_good [] = All-nil IsFine
selects_good (n ∷ numbers) =
    All-cons IsFine (selected n) (map selected numbers) (record { command = tt; few = tt; shallow = tt }) (selects_good numbers)

-- ---- the script

pub generated_servable : (seed count sessions : ℕ)
    → All (λ (line : NamedLine). IsServable line.1) (generated seed count sessions)
generated_servable seed count sessions =
    All-append IsFine (map selected (range_with_len 1 sessions)) (commands_from sessions 0 count seed)
    (selects_good (range_with_len 1 sessions)) (commands_good sessions 0 count seed)

pub generated_count : (seed count sessions : ℕ) → length (generated seed count sessions) ≡ sessions + count
generated_count seed count sessions =
    omega (arith, length-append (map selected (range_with_len 1 sessions)) (commands_from sessions 0 count seed), length-map-range_with_len selected 1 sessions, command_count sessions 0 count seed)
