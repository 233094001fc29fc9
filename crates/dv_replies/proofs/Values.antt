-- Values of a FETCH.
use Rattle.std.proofs.Common.{◌≡◌, ℕ, ◌^◌, cond, List, ◌∷◌, ◌++◌, Option, Some, None, codes, refl, sym, ◌∙◌, ap, subst, arith, append_assoc}
use Rattle.std.specs.Fmt.{decimal}
use Rattle.dv_model.specs.declared.types.Value.{Value}
use Rattle.dv_model.specs.declared.types.Value.TheVariants as value
use Rattle.dv_model.specs.Texts.{flag_words, literal, spaced, value_text}
use Rattle.dv_formats.specs.Parsing.{◌>>=◌, after, before, from, is_field_name, is_stop}
use Rattle.dv_formats.specs.Replies.{IsValue}
use Rattle.dv_formats.specs.Scripts.{IsFieldName}
use Rattle.dv_commands.proofs.Base.{after_then, bind_some, if_some, parted, some_is}
use Rattle.dv_commands.proofs.Joined.{four, three}
use Rattle.dv_commands.proofs.Names.{field_sound}
use Rattle.dv_commands.proofs.Words.{Stops, before_again, field_goes_on, field_test, from_again}
use Rattle.dv_replies.specs.Reading.{behind_else, body_at, field_value_at, is_no_digit, literal_at, modseq_at, size_at, value_at}
use Rattle.dv_replies.proofs.Flags.{flag_list_again, flag_list_takes}
use Rattle.dv_replies.proofs.Marks.{literal_again, literal_then}
use Rattle.dv_replies.proofs.Steps.{else_then, number_again, number_then}

abbrev ValueIs : List ℕ → Value × List ℕ → Type 0
ValueIs b y = IsValue y.0 × (b ≡ value_text y.0 ++ y.1)

-- ---- what is read begins the bytes

size_takes : (b c : List ℕ) (y : Value × List ℕ) → b ≡ codes "RFC822.SIZE " ++ c → size_at c ≡ Some y → ValueIs b y
unfolding size_at
size_takes b c y p e = number_then (2 ^ 64) c _ y e (λ n rest less q f. subst (ValueIs b) (some_is (value.Size n, rest) y f) (less, rw (p, q) (simp append_assoc)))

body_takes : (b c : List ℕ) (y : Value × List ℕ) → b ≡ codes "BODY[] " ++ c → body_at c ≡ Some y → ValueIs b y
unfolding body_at
body_takes b c y p e = literal_then c _ y e (λ t rest less q f. subst (ValueIs b) (some_is (value.Body t, rest) y f) (less, rw (p, q) (simp append_assoc)))

modseq_takes : (b c : List ℕ) (y : Value × List ℕ) → b ≡ codes "MODSEQ (" ++ c → modseq_at c ≡ Some y → ValueIs b y
unfolding modseq_at
modseq_takes b c y p e = number_then (2 ^ 64) c _ y e (λ n d less q e. after_then (codes ")") d _ y e (λ rest r f.
    subst (ValueIs b) (some_is (value.Modseq n, rest) y f) (less, rw (p, q, r) (simp append_assoc))))

none_whole : (name b c d rest : List ℕ) → b ≡ codes "FIELD " ++ c → c ≡ name ++ d → d ≡ codes " NIL" ++ rest → b ≡ value_text (value.Field name None) ++ rest
none_whole name b c d rest p q r = rw (p, q, r) (simp append_assoc)

found_whole : (name t b c d e rest : List ℕ) → b ≡ codes "FIELD " ++ c → c ≡ name ++ d → d ≡ codes " " ++ e → e ≡ literal t ++ rest
    → b ≡ value_text (value.Field name (Some t)) ++ rest
found_whole name t b c d e rest p q r s = rw (p, q, r, s) (sym (four (codes "FIELD ") name (codes " ") (literal t) rest))

field_takes : (b c : List ℕ) (y : Value × List ℕ) → b ≡ codes "FIELD " ++ c → field_value_at c ≡ Some y → ValueIs b y
unfolding field_value_at
field_takes b c y p e =
    let one = bind_some (cond (is_field_name (before is_stop c)) (Some (before is_stop c)) None) _ y e in
    let named = if_some (is_field_name (before is_stop c)) (before is_stop c) one.0 one.1 in
    let is : IsFieldName one.0 = subst IsFieldName named.1 (field_sound (before is_stop c) named.0) in
    let text : c ≡ one.0 ++ from is_stop c = parted is_stop c ∙ ap (λ t. t ++ from is_stop c) named.1 in
    else_then (codes " NIL") (from is_stop c) _ _ y one.2
    (λ rest q f. subst (ValueIs b) (some_is (value.Field one.0 None, rest) y f) (is, none_whole one.0 b c (from is_stop c) rest p text q))
    (λ f. after_then (codes " ") (from is_stop c) _ y f (λ d q g. literal_then d _ y g (λ t rest less r h.
    subst (ValueIs b) (some_is (value.Field one.0 (Some t), rest) y h) ((is, less), found_whole one.0 t b c (from is_stop c) d rest p text q r))))

pub value_takes : (b : List ℕ) (y : Value × List ℕ) → value_at b ≡ Some y → IsValue y.0 × (b ≡ value_text y.0 ++ y.1)
unfolding value_at
value_takes b y e =
    else_then (codes "FLAGS (") b _ _ y e (λ c p f. flag_list_takes b c y p f)
    (λ e. else_then (codes "RFC822.SIZE ") b _ _ y e (λ c p f. size_takes b c y p f)
    (λ e. else_then (codes "BODY[] ") b _ _ y e (λ c p f. body_takes b c y p f)
    (λ e. else_then (codes "FIELD ") b _ _ y e (λ c p f. field_takes b c y p f)
    (λ e. else_then (codes "MODSEQ (") b _ _ y e (λ c p f. modseq_takes b c y p f) (λ e. absurd cc)))))

-- ---- values are read

named_again : (name rest : List ℕ) (r : Option (Value × List ℕ)) → IsFieldName name
    → behind_else (after (codes " NIL") (32 ∷ rest)) (λ end. Some (value.Field name None, end)) (do
      next ← after (codes " ") (32 ∷ rest)
      bytes ← literal_at next
      Some (value.Field name (Some bytes.0), bytes.1)) ≡ r
    → field_value_at (name ++ 32 ∷ rest) ≡ r
unfolding field_value_at
named_again name rest r is same =
    let go = field_goes_on name is in
    rw (before_again is_stop name (32 ∷ rest) go refl, from_again is_stop name (32 ∷ rest) go refl, field_test name is) same

pub value_again : (v : Value) (rest : List ℕ) → IsValue v → Stops is_no_digit rest → value_at (value_text v ++ rest) ≡ Some (v, rest)
unfolding value_at size_at body_at modseq_at
value_again (value.Flags flags keywords) rest is stops =
    let whole : value_text (value.Flags flags keywords) ++ rest ≡ codes "FLAGS (" ++ (spaced (flag_words flags ++ keywords) ++ 41 ∷ rest) = three (codes "FLAGS (") (spaced (flag_words flags ++ keywords)) (codes ")") rest in
    ap value_at whole ∙ flag_list_again flags keywords rest is
value_again (value.Size n) rest is stops = ap value_at (append_assoc (codes "RFC822.SIZE ") (decimal n) rest) ∙ rw (number_again (2 ^ 64) n rest (omega arith) is stops) refl
value_again (value.Body t) rest is stops = ap value_at (append_assoc (codes "BODY[] ") (literal t) rest) ∙ rw (literal_again t rest is) refl
value_again (value.Field name None) rest is stops =
    let whole : value_text (value.Field name None) ++ rest ≡ codes "FIELD " ++ (name ++ (codes " NIL" ++ rest)) = three (codes "FIELD ") name (codes " NIL") rest in
    ap value_at whole ∙ named_again name (codes "NIL" ++ rest) (Some (value.Field name None, rest)) is refl
value_again (value.Field name (Some t)) rest is stops =
    let whole : value_text (value.Field name (Some t)) ++ rest ≡ codes "FIELD " ++ (name ++ 32 ∷ (literal t ++ rest)) = four (codes "FIELD ") name (codes " ") (literal t) rest in
    ap value_at whole ∙ named_again name (literal t ++ rest) (Some (value.Field name (Some t), rest)) is.0 (rw (literal_again t rest is.1) refl)
value_again (value.Modseq n) rest is stops =
    let whole : value_text (value.Modseq n) ++ rest ≡ codes "MODSEQ (" ++ (decimal n ++ 41 ∷ rest) = simp append_assoc in
    ap value_at whole ∙ rw (number_again (2 ^ 64) n (41 ∷ rest) (omega arith) is refl) refl
