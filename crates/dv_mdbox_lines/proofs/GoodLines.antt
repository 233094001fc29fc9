-- A line, by the grammar and as it is read.
use Rattle.std.proofs.Common.{◌≡◌, inl, inr, ℕ, zero, suc, ◌-◌, ◌<◌, ◌≤◌, Bool, true, false, cond, List, [], ◌∷◌, ◌++◌, length, get_or, take, drop, Contains, Option, Some, None, Result, Ok, Err, codes, nat_eq, nat_lt, refl, sym, ◌∙◌, ap, subst, arith, append_assoc}
use Rattle.std.specs.Prelude.{⊤}
use Rattle.std.specs.Str.Lines.{strip_carriage_return}
use Rattle.std.proofs.lemmas.Bool.{eq-eqb, eqb-true, le-ltb, lt-ltb, ltb-false, ltb-true}
use Rattle.std.proofs.lemmas.List.{drop_at, length-append, length-take-le, take-append-drop, take_at}
use Rattle.dv_formats.specs.Scripts.{IsSkipped, line_limit}
use Rattle.dv_formats.specs.Parsing.{LineFault, after, behind_line_end, first_line, is_byte, is_skipped}
use Rattle.dv_commands.proofs.Base.{after_is, some_is}
use Rattle.dv_commands.proofs.Plain.{plain}
use Rattle.dv_commands.proofs.Words.{goes_on}
use Rattle.dv_grammar.proofs.FirstLines.{IsEndedBy, feedless, first_is, free_of_feeds, read_first}
use Rattle.dv_grammar.proofs.NamedLines.{no_return, plain_open}
use Rattle.dv_mdbox_lines.specs.Scripts.{Call, Copy, Drop, Get, Purge, Save, TakenCall, call_of, line_at, line_of, message_at, size_of}
use Rattle.dv_mdbox_lines.specs.Grammar.{HasSize, IsEnded, IsGoodLine, IsPassed, IsSaid, IsShort}
use Rattle.dv_mdbox_lines.proofs.Words.{IsReadAs, call_is, call_plain, copy_read, drop_read, get_read, purge_read, size_again, size_is, size_plain}

-- ---- what is read is of the grammar

-- the first line of the bytes is good or short, where it is read so
abbrev pub HasLine : List ℕ → Result TakenCall LineFault → Type 0
HasLine b (Ok taken) = IsGoodLine taken.0 b taken.1
HasLine b (Err LineFault.short) = IsShort b
HasLine b (Err LineFault.bad) = ⊤

skipped_is : (text : List ℕ) → is_skipped text ≡ true → goes_on (is_byte 10) text ≡ true → length text ≤ line_limit → IsSkipped text
skipped_is [] is free short = tt
skipped_is (x ∷ text) is free short = (eqb-true x 35 is, (λ has. feedless (x ∷ text) free (suc has.0, omega (arith, has.1), has.2)), short)

end_is : (b next : List ℕ) → behind_line_end b ≡ Some next → (ending : List ℕ) × (b ≡ ending ++ next) × IsEndedBy ending next
end_is [] next e = ([], some_is [] next e, inr (refl, sym (some_is [] next e)))
end_is (x ∷ b) next e = by_feed (after (codes "\n") (x ∷ b)) refl
  where
    by_feed : (r : Option (List ℕ)) → after (codes "\n") (x ∷ b) ≡ r → (ending : List ℕ) × (x ∷ b ≡ ending ++ next) × IsEndedBy ending next
    by_feed (Some rest) is = (10 ∷ [], after_is (codes "\n") (x ∷ b) rest is ∙ ap (λ t. 10 ∷ t) (some_is rest next (sym (rw is refl) ∙ e)), inl (inl refl))
    by_feed None is = (13 ∷ 10 ∷ [], after_is (codes "\r\n") (x ∷ b) next (sym (rw is refl) ∙ e), inl (inr refl))

-- so many bytes and a line end
ended_so : (size : ℕ) (behind next : List ℕ) → behind_line_end (drop size behind) ≡ Some next → IsEnded (take size behind) behind next
ended_so size behind next e =
    let end = end_is (drop size behind) next e in
    record {
      ending = end.0;
      ends = end.2;
      whole = sym (take-append-drop size behind) ∙ ap (λ t. take size behind ++ t) end.1 ∙ sym (append_assoc (take size behind) end.0 next);
    }

module _ (b text behind : List ℕ) (ended : IsEnded text b behind) (free : goes_on (is_byte 10) text ≡ true) where
  message_has : (size : ℕ) → length text ≤ line_limit → size_of text ≡ Some size → HasLine b (message_at size behind)
  unfolding message_at
  message_has size short known = by_few (nat_lt (length behind) size) refl
    where
      by_end : (r : Option (List ℕ)) → nat_lt (length behind) size ≡ false → behind_line_end (drop size behind) ≡ r → HasLine b (message_at size behind)
      by_end None one two = rw one (rw two tt)
      by_end (Some next) one two =
          let long : length (take size behind) ≡ size = length-take-le size behind (ltb-false (length behind) size one) in
          let said : IsSaid (Save (take size behind)) b next = record {
            text = text;
            behind = behind;
            is = subst (λ n. HasSize n text) (sym long) (size_is text size known);
            line = record { size = short; ended = ended };
            followed = ended_so size behind next two;
          } in
          rw one (rw two said)

      by_few : (t : Bool) → nat_lt (length behind) size ≡ t → HasLine b (message_at size behind)
      by_few false one = by_end (behind_line_end (drop size behind)) one refl
      by_few true one =
          let is : IsShort b = record {
            size = size;
            text = text;
            behind = behind;
            is = size_is text size known;
            line = record { size = short; ended = ended };
            few = ltb-true (length behind) size one;
          } in
          rw one is

  text_has : HasLine b (line_at text behind)
  unfolding line_at
  text_has = by_long (nat_lt line_limit (length text)) refl
    where
      by_call : (r : Option Call) → nat_lt line_limit (length text) ≡ false → is_skipped text ≡ false → size_of text ≡ None → call_of text ≡ r → HasLine b (line_at text behind)
      by_call None one two three four = rw one (rw two (rw three (rw four tt)))
      by_call (Some call) one two three four =
          let is = call_is text call four in
          let said : IsSaid call b behind = record {
            text = text;
            behind = behind;
            is = is.0;
            line = record { size = ltb-false line_limit (length text) one; ended = ended };
            followed = is.1 behind;
          } in
          rw one (rw two (rw three (rw four said)))

      by_size : (r : Option ℕ) → nat_lt line_limit (length text) ≡ false → is_skipped text ≡ false → size_of text ≡ r → HasLine b (line_at text behind)
      by_size None one two three = by_call (call_of text) one two three refl
      by_size (Some size) one two three = rw one (rw two (rw three (message_has size (ltb-false line_limit (length text) one) three)))

      by_skipped : (t : Bool) → nat_lt line_limit (length text) ≡ false → is_skipped text ≡ t → HasLine b (line_at text behind)
      by_skipped false one two = by_size (size_of text) one two refl
      by_skipped true one two =
          let short = ltb-false line_limit (length text) one in
          let passed : IsPassed b behind = record { text = text; is = skipped_is text two free short; line = record { size = short; ended = ended } } in
          rw one (rw two passed)

      by_long : (t : Bool) → nat_lt line_limit (length text) ≡ t → HasLine b (line_at text behind)
      by_long true one = rw one tt
      by_long false one = by_skipped (is_skipped text) one refl

pub line_has : (b : List ℕ) → HasLine b (line_of b)
line_has b =
    let first = first_is b in
    text_has b (first_line b).0 (first_line b).1
    (record { ending = first.ending; ends = first.ended; whole = first.whole ∙ sym (append_assoc (first_line b).0 first.ending (first_line b).1) })
    first.free

-- ---- what is of the grammar is read

-- a line without a control byte is the first one
plain_first : (text b behind : List ℕ) (r : Result TakenCall LineFault) → IsEnded text b behind → plain text ≡ true → line_at text behind ≡ r → line_of b ≡ r
plain_first text b behind r ended is e =
    ap line_of (ended.whole ∙ append_assoc text ended.ending behind)
    ∙ read_first text ended.ending behind (plain_open text 10 (omega arith) is) ended.ends (λ (p : List ℕ × List ℕ). line_at p.0 p.1 ≡ r) (ap (λ t. line_at t behind) (no_return text is) ∙ e) e

end_again : (ending rest : List ℕ) → IsEndedBy ending rest → behind_line_end (ending ++ rest) ≡ Some rest
end_again ending rest (inl (inl feed)) = ap (λ e. behind_line_end (e ++ rest)) feed
end_again ending rest (inl (inr both)) = ap (λ e. behind_line_end (e ++ rest)) both
end_again ending rest (inr none) = ap (λ e. behind_line_end (e ++ rest)) none.0 ∙ ap behind_line_end none.1 ∙ ap Some (sym none.1)

-- ---- lines without a call

front_skipped : (n : ℕ) (text : List ℕ) → is_skipped text ≡ true → is_skipped (take n text) ≡ true
front_skipped zero text is = refl
front_skipped (suc n) [] is = refl
front_skipped (suc n) (x ∷ text) is = is

skipped_parts : (text : List ℕ) → IsSkipped text → (is_skipped text ≡ true) × (Contains text 10 → ⊥)
skipped_parts [] is = (refl, λ has. omega (arith, has.1))
skipped_parts (x ∷ text) is = (eq-eqb x 35 is.0, λ has. at has.0 has.1 has.2)
  where
    at : (k : ℕ) → k < length (x ∷ text) → get_or (x ∷ text) k 10 ≡ 10 → ⊥
    at zero less e = omega (arith, is.0, e)
    at (suc k) less e = is.1 (k, omega (arith, less), e)

nothing_here : (text rest : List ℕ) → is_skipped text ≡ true → length text ≤ line_limit → line_at text rest ≡ Ok (None, rest)
unfolding line_at
nothing_here text rest is short = rw (le-ltb line_limit (length text) short, is) refl

stripped_here : (text rest : List ℕ) → is_skipped text ≡ true → length text ≤ line_limit → line_at (strip_carriage_return text) rest ≡ Ok (None, rest)
stripped_here text rest is short = by_last (nat_eq (get_or text (length text - 1) 0) 13)
  where
    by_last : (t : Bool) → line_at (cond t (take (length text - 1) text) text) rest ≡ Ok (None, rest)
    by_last false = nothing_here text rest is short
    by_last true =
        let few = length-take-le (length text - 1) text (omega arith) in
        nothing_here (take (length text - 1) text) rest (front_skipped (length text - 1) text is) (omega (arith, short, few))

passed_read : (b rest : List ℕ) → IsPassed b rest → line_of b ≡ Ok (None, rest)
passed_read b rest is =
    let text = is.text in
    let parts = skipped_parts text is.is in
    ap line_of (is.line.ended.whole ∙ append_assoc text is.line.ended.ending rest)
    ∙ read_first text is.line.ended.ending rest (free_of_feeds text parts.1) is.line.ended.ends (λ (p : List ℕ × List ℕ). line_at p.0 p.1 ≡ Ok (None, rest)) (stripped_here text rest parts.0 is.line.size) (nothing_here text rest parts.0 is.line.size)

-- ---- lines with one

call_here : (call : Call) (text rest : List ℕ) → length text ≤ line_limit → IsReadAs call text → line_at text rest ≡ Ok (Some call, rest)
unfolding line_at
call_here call text rest short is = rw (le-ltb line_limit (length text) short, is.skipped) (rw is.size (rw is.said refl))

alone_read : (call : Call) (b rest : List ℕ) → (is : IsSaid call b rest) → is.behind ≡ rest → IsReadAs call is.text → line_of b ≡ Ok (Some call, rest)
alone_read call b rest is same read =
    plain_first is.text b is.behind (Ok (Some call, rest)) is.line.ended (call_plain call is.text is.is)
    (call_here call is.text is.behind is.line.size read ∙ ap (λ t. Ok (Some call, t)) same)

save_here : (size : ℕ) (text behind : List ℕ) → length text ≤ line_limit → HasSize size text → line_at text behind ≡ message_at size behind
unfolding line_at
save_here size text behind short is =
    let open_line : is_skipped text ≡ false = ap is_skipped is.1 in
    rw (le-ltb line_limit (length text) short, open_line) (rw (size_again text size is) refl)

message_here : (message behind rest : List ℕ) → IsEnded message behind rest → message_at (length message) behind ≡ Ok (Some (Save message), rest)
unfolding message_at
message_here message behind rest is =
    let end = is.ending ++ rest in
    let whole : behind ≡ message ++ end = is.whole ∙ append_assoc message is.ending rest in
    let enough : nat_lt (length (message ++ end)) (length message) ≡ false = le-ltb (length (message ++ end)) (length message) (omega (arith, length-append message end)) in
    ap (message_at (length message)) whole
    ∙ rw (enough, drop_at message end (length message) refl) (rw (end_again is.ending rest is.ends) (rw (take_at message end (length message) refl) refl))

few_here : (size : ℕ) (behind : List ℕ) → length behind < size → message_at size behind ≡ Err LineFault.short
unfolding message_at
few_here size behind few = rw (lt-ltb (length behind) size few) refl

pub good_read : (line : Option Call) (b rest : List ℕ) → IsGoodLine line b rest → line_of b ≡ Ok (line, rest)
good_read None b rest is = passed_read b rest is
good_read (Some (Copy id)) b rest is = alone_read (Copy id) b rest is is.followed (copy_read id is.text is.is)
good_read (Some (Drop id)) b rest is = alone_read (Drop id) b rest is is.followed (drop_read id is.text is.is)
good_read (Some (Get id)) b rest is = alone_read (Get id) b rest is is.followed (get_read id is.text is.is)
good_read (Some Purge) b rest is = alone_read Purge b rest is is.followed (purge_read is.text is.is)
good_read (Some (Save message)) b rest is =
    plain_first is.text b is.behind (Ok (Some (Save message), rest)) is.line.ended (call_plain (Save message) is.text is.is)
    (save_here (length message) is.text is.behind is.line.size is.is ∙ message_here message is.behind rest is.followed)

pub short_read : (b : List ℕ) → IsShort b → line_of b ≡ Err LineFault.short
short_read b is =
    plain_first is.text b is.behind (Err LineFault.short) is.line.ended (size_plain is.size is.text is.is)
    (save_here is.size is.text is.behind is.line.size is.is ∙ few_here is.size is.behind is.few)
