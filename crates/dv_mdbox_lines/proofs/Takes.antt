-- A line takes bytes.
use Rattle.std.proofs.Common.{◌≡◌, ◌⊎◌, inl, inr, ℕ, ◌+◌, ◌<◌, ◌≤◌, Bool, true, false, List, [], ◌∷◌, ◌++◌, length, drop, take, Option, Some, None, Result, Ok, Err, codes, nat_lt, refl, sym, ◌∙◌, ap, arith}
use Rattle.std.proofs.lemmas.List.{length-append, length-drop}
use Rattle.dv_formats.specs.Scripts.{line_limit}
use Rattle.dv_formats.specs.Parsing.{LineFault, after, behind_line_end, first_line, is_skipped}
use Rattle.dv_commands.proofs.Base.{after_is, some_is}
use Rattle.dv_grammar.proofs.FirstLines.{FirstIs, first_is}
use Rattle.dv_mdbox_lines.specs.Scripts.{Call, Save, TakenCall, call_of, line_at, line_of, message_at, size_of}

no_ok : {A : Type 0} (fault : LineFault) (taken : TakenCall) → ◌≡◌ {A = Result TakenCall LineFault} (Err fault) (Ok taken) → A
no_ok fault taken e = absurd cc

ok_rest : (call : Option Call) (rest : List ℕ) (taken : TakenCall) → ◌≡◌ {A = Result TakenCall LineFault} (Ok (call, rest)) (Ok taken) → taken.1 ≡ rest
ok_rest call rest taken e = sym (ap rest_in e)
  where
    rest_in : Result TakenCall LineFault → List ℕ
    rest_in (Ok x) = x.1
    rest_in (Err fault) = rest

-- a first line takes a byte
pub first_shorter : (b : List ℕ) → 0 < length b → length (first_line b).1 < length b
first_shorter b some = by_end first.ended
  where
    first : FirstIs b (first_line b)
    first = first_is b

    whole : length b ≡ length (first_line b).0 + (length first.ending + length (first_line b).1)
    whole = ap length first.whole ∙ length-append (first_line b).0 (first.ending ++ (first_line b).1) ∙ ap (λ n. length (first_line b).0 + n) (length-append first.ending (first_line b).1)

    by_end : (((first.ending ≡ 10 ∷ []) ⊎ (first.ending ≡ 13 ∷ 10 ∷ [])) ⊎ ((first.ending ≡ []) × ((first_line b).1 ≡ []))) → length (first_line b).1 < length b
    by_end (inl (inl feed)) = omega (arith, whole, ap length feed)
    by_end (inl (inr both)) = omega (arith, whole, ap length both)
    by_end (inr none) = omega (arith, some, ap length none.1)

end_within : (b next : List ℕ) → behind_line_end b ≡ Some next → length next ≤ length b
end_within [] next e = omega (arith, ap length (some_is [] next e))
end_within (x ∷ b) next e = by_feed (after (codes "\n") (x ∷ b)) refl
  where
    by_feed : (r : Option (List ℕ)) → after (codes "\n") (x ∷ b) ≡ r → length next ≤ length (x ∷ b)
    by_feed (Some rest) is =
        let same : rest ≡ next = some_is rest next (sym (rw is refl) ∙ e) in
        omega (arith, ap length same, ap length (after_is (codes "\n") (x ∷ b) rest is), length-append (codes "\n") rest)
    by_feed None is =
        let whole : x ∷ b ≡ codes "\r\n" ++ next = after_is (codes "\r\n") (x ∷ b) next (sym (rw is refl) ∙ e) in
        omega (arith, ap length whole, length-append (codes "\r\n") next)

message_within : (size : ℕ) (b : List ℕ) (taken : TakenCall) → message_at size b ≡ Ok taken → length taken.1 ≤ length b
unfolding message_at
message_within size b taken e = by_short (nat_lt (length b) size) refl
  where
    by_end : (r : Option (List ℕ)) → nat_lt (length b) size ≡ false → behind_line_end (drop size b) ≡ r → length taken.1 ≤ length b
    by_end None few is = no_ok LineFault.bad taken (sym (rw few (rw is refl)) ∙ e)
    by_end (Some next) few is =
        let rest : taken.1 ≡ next = ok_rest (Some (Save (take size b))) next taken (sym (rw few (rw is refl)) ∙ e) in
        omega (arith, ap length rest, end_within (drop size b) next is, length-drop size b)

    by_short : (t : Bool) → nat_lt (length b) size ≡ t → length taken.1 ≤ length b
    by_short true few = no_ok LineFault.short taken (sym (rw few refl) ∙ e)
    by_short false few = by_end (behind_line_end (drop size b)) few refl

line_within : (text b : List ℕ) (taken : TakenCall) → line_at text b ≡ Ok taken → length taken.1 ≤ length b
unfolding line_at
line_within text b taken e = by_long (nat_lt line_limit (length text)) refl
  where
    by_call : (r : Option Call) → nat_lt line_limit (length text) ≡ false → is_skipped text ≡ false → size_of text ≡ None → call_of text ≡ r → length taken.1 ≤ length b
    by_call None one two three four = no_ok LineFault.bad taken (sym (rw one (rw two (rw three (rw four refl)))) ∙ e)
    by_call (Some call) one two three four = omega (arith, ap length (ok_rest (Some call) b taken (sym (rw one (rw two (rw three (rw four refl)))) ∙ e)))

    by_size : (r : Option ℕ) → nat_lt line_limit (length text) ≡ false → is_skipped text ≡ false → size_of text ≡ r → length taken.1 ≤ length b
    by_size None one two three = by_call (call_of text) one two three refl
    by_size (Some size) one two three = message_within size b taken (sym (rw one (rw two (rw three refl))) ∙ e)

    by_skipped : (t : Bool) → nat_lt line_limit (length text) ≡ false → is_skipped text ≡ t → length taken.1 ≤ length b
    by_skipped true one two = omega (arith, ap length (ok_rest None b taken (sym (rw one (rw two refl)) ∙ e)))
    by_skipped false one two = by_size (size_of text) one two refl

    by_long : (t : Bool) → nat_lt line_limit (length text) ≡ t → length taken.1 ≤ length b
    by_long true one = no_ok LineFault.bad taken (sym (rw one refl) ∙ e)
    by_long false one = by_skipped (is_skipped text) one refl

-- a line takes a byte
pub shorter : (b : List ℕ) (taken : TakenCall) → 0 < length b → line_of b ≡ Ok taken → length taken.1 < length b
shorter b taken some e = omega (arith, first_shorter b some, line_within (first_line b).0 (first_line b).1 taken e)
