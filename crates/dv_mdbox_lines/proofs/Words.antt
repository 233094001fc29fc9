-- The line of a call, by the grammar and as it is read.
use Rattle.std.proofs.Common.{◌≡◌, ℕ, ◌^◌, ◌<◌, Bool, true, false, List, ◌++◌, length, Option, Some, None, codes, refl, sym, ◌∙◌, ap, subst, arith}
use Rattle.std.specs.Fmt.{decimal}
use Rattle.std.specs.Str.{bytes_eq}
use Rattle.std.proofs.lemmas.Slice.Eq.{bytes_eq-Decides}
use Rattle.dv_formats.specs.Parsing.{◌>>=◌, ahead_of, is_skipped, number_of}
use Rattle.dv_commands.proofs.Base.{after_then, ahead_again, ahead_is, bind_some, some_is}
use Rattle.dv_commands.proofs.Numbers.{number_complete, number_sound}
use Rattle.dv_commands.proofs.Plain.{and_plain, number_plain, plain}
use Rattle.dv_mdbox_lines.specs.Scripts.{Call, Copy, Drop, Get, Purge, Save, call_of, number_behind, size_of}
use Rattle.dv_mdbox_lines.specs.Grammar.{HasSize, IsCallLine, IsFollowed}

-- ---- numbers

number_is : (word text : List ℕ) (n : ℕ) → number_behind word text ≡ Some n → (n < 2 ^ 32) × (text ≡ word ++ decimal n)
number_is word text n e = after_then word text (number_of (2 ^ 32)) n e (λ rest whole read.
    let is = number_sound (2 ^ 32) rest n read in
    (is.0, whole ∙ ap (λ t. word ++ t) is.1))

number_again : (n : ℕ) → n < 2 ^ 32 → number_of (2 ^ 32) (decimal n) ≡ Some n
number_again n less = number_complete (2 ^ 32) (decimal n) n (omega arith) less refl

pub size_is : (text : List ℕ) (n : ℕ) → size_of text ≡ Some n → HasSize n text
unfolding size_of
size_is text n e = after_then (codes "SAVE {") text (λ rest. ahead_of (codes "}") rest >>= number_of (2 ^ 32)) n e (λ rest whole read.
    let digits = bind_some (ahead_of (codes "}") rest) (number_of (2 ^ 32)) n read in
    let is = number_sound (2 ^ 32) digits.0 n digits.2 in
    (is.0, whole ∙ ap (λ t. codes "SAVE {" ++ t) (ahead_is (codes "}") rest digits.0 digits.1 ∙ ap (λ t. t ++ codes "}") is.1)))

pub size_again : (text : List ℕ) (n : ℕ) → HasSize n text → size_of text ≡ Some n
unfolding size_of
size_again text n is = ap size_of is.1 ∙ rw (ahead_again (codes "}") (decimal n)) (number_again n is.0)

-- ---- calls of one line

-- the call's line, and nothing else is its own
abbrev pub IsAlone : Call → List ℕ → Type 0
IsAlone call text = IsCallLine call text × ((rest : List ℕ) → IsFollowed call rest rest)

pub call_is : (text : List ℕ) (call : Call) → call_of text ≡ Some call → IsAlone call text
unfolding call_of
call_is text call e = by_purge (bytes_eq text (codes "PURGE")) refl
  where
    no_call : ◌≡◌ {A = Option Call} None (Some call) → ⊥
    no_call same = cc

    is_call : (other : Call) → Some other ≡ Some call → IsAlone other text → IsAlone call text
    is_call other same is = subst (λ c. IsAlone c text) (some_is other call same) is

    by_get : (r : Option ℕ) → bytes_eq text (codes "PURGE") ≡ false → number_behind (codes "COPY ") text ≡ None → number_behind (codes "DROP ") text ≡ None
        → number_behind (codes "GET ") text ≡ r → IsAlone call text
    by_get None one two three four = absurd (no_call (sym (rw one (rw two (rw three (rw four refl)))) ∙ e))
    by_get (Some id) one two three four = is_call (Get id) (sym (rw one (rw two (rw three (rw four refl)))) ∙ e) (number_is (codes "GET ") text id four, λ rest. refl)

    by_drop : (r : Option ℕ) → bytes_eq text (codes "PURGE") ≡ false → number_behind (codes "COPY ") text ≡ None → number_behind (codes "DROP ") text ≡ r → IsAlone call text
    by_drop None one two three = by_get (number_behind (codes "GET ") text) one two three refl
    by_drop (Some id) one two three = is_call (Drop id) (sym (rw one (rw two (rw three refl))) ∙ e) (number_is (codes "DROP ") text id three, λ rest. refl)

    by_copy : (r : Option ℕ) → bytes_eq text (codes "PURGE") ≡ false → number_behind (codes "COPY ") text ≡ r → IsAlone call text
    by_copy None one two = by_drop (number_behind (codes "DROP ") text) one two refl
    by_copy (Some id) one two = is_call (Copy id) (sym (rw one (rw two refl)) ∙ e) (number_is (codes "COPY ") text id two, λ rest. refl)

    by_purge : (t : Bool) → bytes_eq text (codes "PURGE") ≡ t → IsAlone call text
    by_purge true one = is_call Purge (sym (rw one refl) ∙ e) ((bytes_eq-Decides text (codes "PURGE")).0 one, λ rest. refl)
    by_purge false one = by_copy (number_behind (codes "COPY ") text) one refl

-- what is read of a call's line
pub record IsReadAs (call : Call) (text : List ℕ) : Type 0 where
  pub skipped : is_skipped text ≡ false
  pub size : size_of text ≡ None
  pub said : call_of text ≡ Some call

copy_again : (id : ℕ) → id < 2 ^ 32 → call_of (codes "COPY " ++ decimal id) ≡ Some (Copy id)
unfolding call_of
copy_again id less = rw (number_again id less) refl

drop_again : (id : ℕ) → id < 2 ^ 32 → call_of (codes "DROP " ++ decimal id) ≡ Some (Drop id)
unfolding call_of
drop_again id less = rw (number_again id less) refl

get_again : (id : ℕ) → id < 2 ^ 32 → call_of (codes "GET " ++ decimal id) ≡ Some (Get id)
unfolding call_of
get_again id less = rw (number_again id less) refl

purge_again : call_of (codes "PURGE") ≡ Some Purge
unfolding call_of
purge_again = refl

no_copy_size : (digits : List ℕ) → size_of (codes "COPY " ++ digits) ≡ None
unfolding size_of
no_copy_size digits = refl

no_drop_size : (digits : List ℕ) → size_of (codes "DROP " ++ digits) ≡ None
unfolding size_of
no_drop_size digits = refl

no_get_size : (digits : List ℕ) → size_of (codes "GET " ++ digits) ≡ None
unfolding size_of
no_get_size digits = refl

no_purge_size : size_of (codes "PURGE") ≡ None
unfolding size_of
no_purge_size = refl

pub copy_read : (id : ℕ) (text : List ℕ) → IsCallLine (Copy id) text → IsReadAs (Copy id) text
copy_read id text is = subst (IsReadAs (Copy id)) (sym is.1) (record { skipped = refl; size = no_copy_size (decimal id); said = copy_again id is.0 })

pub drop_read : (id : ℕ) (text : List ℕ) → IsCallLine (Drop id) text → IsReadAs (Drop id) text
drop_read id text is = subst (IsReadAs (Drop id)) (sym is.1) (record { skipped = refl; size = no_drop_size (decimal id); said = drop_again id is.0 })

pub get_read : (id : ℕ) (text : List ℕ) → IsCallLine (Get id) text → IsReadAs (Get id) text
get_read id text is = subst (IsReadAs (Get id)) (sym is.1) (record { skipped = refl; size = no_get_size (decimal id); said = get_again id is.0 })

pub purge_read : (text : List ℕ) → IsCallLine Purge text → IsReadAs Purge text
purge_read text is = subst (IsReadAs Purge) (sym is) (record { skipped = refl; size = no_purge_size; said = purge_again })

-- ---- no line of a call has a control byte

numbered_plain : (word : List ℕ) (n : ℕ) → plain word ≡ true → n < 2 ^ 32 → plain (word ++ decimal n) ≡ true
numbered_plain word n is less = and_plain word (decimal n) is (number_plain n (omega (arith, less)))

pub size_plain : (n : ℕ) (text : List ℕ) → HasSize n text → plain text ≡ true
size_plain n text is = ap plain is.1 ∙ and_plain (codes "SAVE {" ++ decimal n) (codes "}") (numbered_plain (codes "SAVE {") n refl is.0) refl

pub call_plain : (call : Call) (text : List ℕ) → IsCallLine call text → plain text ≡ true
call_plain (Save message) text is = size_plain (length message) text is
call_plain (Copy id) text is = ap plain is.1 ∙ numbered_plain (codes "COPY ") id refl is.0
call_plain (Drop id) text is = ap plain is.1 ∙ numbered_plain (codes "DROP ") id refl is.0
call_plain (Get id) text is = ap plain is.1 ∙ numbered_plain (codes "GET ") id refl is.0
call_plain Purge text is = ap plain is
