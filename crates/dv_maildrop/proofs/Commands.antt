-- What is read of a line is of its grammar, and what the grammar has is read.
use Rattle.std.proofs.Common.{◌≡◌, ℕ, ◌^◌, ◌<◌, Bool, true, false, cond, List, ◌++◌, Option, Some, None, codes, refl, sym, ◌∙◌, ap, subst, arith}
use Rattle.std.specs.Fmt.{decimal}
use Rattle.std.specs.Str.{bytes_eq}
use Rattle.std.proofs.lemmas.Slice.Eq.{bytes_eq-Decides}
use Rattle.dv_formats.specs.Parsing.{◌>>=◌, after, number_of}
use Rattle.dv_commands.proofs.Base.{after_is, bind_some, some_is}
use Rattle.dv_commands.proofs.Numbers.{number_complete, number_sound}
use Rattle.dv_maildrop.specs.declared.types.PopLine.{PopLine}
use Rattle.dv_maildrop.specs.declared.types.PopLine.TheVariants as line
use Rattle.dv_maildrop.specs.Lines.{HasNumber, IsPopLine, line_of, message_number, numbered_line, plain_line}

-- ---- what is read

keyword_or : (b text : List ℕ) (here c : PopLine) (rest : Option PopLine) → IsPopLine here text → cond (bytes_eq b text) (Some here) rest ≡ Some c
    → (rest ≡ Some c → IsPopLine c b) → IsPopLine c b
keyword_or b text here c rest is e others = by_test (bytes_eq b text) refl e
  where
    by_test : (t : Bool) → bytes_eq b text ≡ t → cond t (Some here) rest ≡ Some c → IsPopLine c b
    by_test true same f = subst (λ x. IsPopLine x b) (some_is here c f) (subst (IsPopLine here) (sym ((bytes_eq-Decides b text).0 same)) is)
    by_test false same f = others f

plain_sound : (b : List ℕ) (c : PopLine) → plain_line b ≡ Some c → IsPopLine c b
plain_sound b c e =
    keyword_or b (codes "STAT") line.Stat c _ refl e (λ e.
    keyword_or b (codes "LIST") (line.List None) c _ refl e (λ e.
    keyword_or b (codes "UIDL") (line.Uidl None) c _ refl e (λ e.
    keyword_or b (codes "NOOP") line.Noop c _ refl e (λ e.
    keyword_or b (codes "RSET") line.Rset c _ refl e (λ e.
    keyword_or b (codes "QUIT") line.Quit c None refl e (λ e. absurd cc))))))

number_behind : (keyword : List ℕ) (l : ℕ → PopLine) (b rest : List ℕ) (c : PopLine) → ((k : ℕ) → HasNumber keyword k b → IsPopLine (l k) b)
    → b ≡ (keyword ++ codes " ") ++ rest → (message_number rest >>= λ k. Some (l k)) ≡ Some c → IsPopLine c b
number_behind keyword l b rest c has text e =
    let k = bind_some (message_number rest) (λ k. Some (l k)) c e in
    let is = number_sound (2 ^ 32) rest k.0 k.1 in
    subst (λ x. IsPopLine x b) (some_is (l k.0) c k.2) (has k.0 (is.0, text ∙ ap (λ t. (keyword ++ codes " ") ++ t) is.1))

numbered_sound : (b : List ℕ) (c : PopLine) → numbered_line b ≡ Some c → IsPopLine c b
unfolding numbered_line
numbered_sound b c e = by_list (after (codes "LIST ") b) refl
  where
    by_dele : (r : Option (List ℕ)) → after (codes "LIST ") b ≡ None → after (codes "UIDL ") b ≡ None → after (codes "RETR ") b ≡ None → after (codes "DELE ") b ≡ r → IsPopLine c b
    by_dele (Some rest) one two three is = number_behind (codes "DELE") (λ k. line.Dele k) b rest c (λ k h. h) (after_is (codes "DELE ") b rest is) (sym (rw (one, two, three, is) refl) ∙ e)
    by_dele None one two three is = let none : None ≡ Some c = sym (rw (one, two, three, is) refl) ∙ e in absurd cc

    by_retr : (r : Option (List ℕ)) → after (codes "LIST ") b ≡ None → after (codes "UIDL ") b ≡ None → after (codes "RETR ") b ≡ r → IsPopLine c b
    by_retr (Some rest) one two is = number_behind (codes "RETR") (λ k. line.Retr k) b rest c (λ k h. h) (after_is (codes "RETR ") b rest is) (sym (rw (one, two, is) refl) ∙ e)
    by_retr None one two is = by_dele (after (codes "DELE ") b) one two is refl

    by_uidl : (r : Option (List ℕ)) → after (codes "LIST ") b ≡ None → after (codes "UIDL ") b ≡ r → IsPopLine c b
    by_uidl (Some rest) one is = number_behind (codes "UIDL") (λ k. line.Uidl (Some k)) b rest c (λ k h. h) (after_is (codes "UIDL ") b rest is) (sym (rw (one, is) refl) ∙ e)
    by_uidl None one is = by_retr (after (codes "RETR ") b) one is refl

    by_list : (r : Option (List ℕ)) → after (codes "LIST ") b ≡ r → IsPopLine c b
    by_list (Some rest) is = number_behind (codes "LIST") (λ k. line.List (Some k)) b rest c (λ k h. h) (after_is (codes "LIST ") b rest is) (sym (rw is refl) ∙ e)
    by_list None is = by_uidl (after (codes "UIDL ") b) is refl

pub line_sound : (b : List ℕ) → (line_of b ≡ line.Bad → ⊥) → IsPopLine (line_of b) b
unfolding line_of
line_sound b good = by_plain (plain_line b) refl
  where
    by_number : (r : Option PopLine) → plain_line b ≡ None → numbered_line b ≡ r → IsPopLine (line_of b) b
    by_number (Some c) one is = subst (λ x. IsPopLine x b) (sym (rw (one, is) refl)) (numbered_sound b c is)
    by_number None one is = absurd (good (rw (one, is) refl))

    by_plain : (r : Option PopLine) → plain_line b ≡ r → IsPopLine (line_of b) b
    by_plain (Some c) is = subst (λ x. IsPopLine x b) (sym (rw is refl)) (plain_sound b c is)
    by_plain None is = by_number (numbered_line b) is refl

-- ---- what the grammar has

number_again : (k : ℕ) → k < 2 ^ 32 → number_of (2 ^ 32) (decimal k) ≡ Some k
number_again k less = number_complete (2 ^ 32) (decimal k) k (omega arith) less refl

list_again : (k : ℕ) → k < 2 ^ 32 → line_of (codes "LIST" ++ codes " " ++ decimal k) ≡ line.List (Some k)
unfolding line_of numbered_line
list_again k less = let e = number_again k less in rw e refl

uidl_again : (k : ℕ) → k < 2 ^ 32 → line_of (codes "UIDL" ++ codes " " ++ decimal k) ≡ line.Uidl (Some k)
unfolding line_of numbered_line
uidl_again k less = let e = number_again k less in rw e refl

retr_again : (k : ℕ) → k < 2 ^ 32 → line_of (codes "RETR" ++ codes " " ++ decimal k) ≡ line.Retr k
unfolding line_of numbered_line
retr_again k less = let e = number_again k less in rw e refl

dele_again : (k : ℕ) → k < 2 ^ 32 → line_of (codes "DELE" ++ codes " " ++ decimal k) ≡ line.Dele k
unfolding line_of numbered_line
dele_again k less = let e = number_again k less in rw e refl

pub line_complete : (c : PopLine) (b : List ℕ) → IsPopLine c b → line_of b ≡ c
unfolding line_of numbered_line
line_complete line.Stat b is = ap line_of is
line_complete (line.List None) b is = ap line_of is
line_complete (line.List (Some k)) b is = ap line_of is.1 ∙ list_again k is.0
line_complete (line.Uidl None) b is = ap line_of is
line_complete (line.Uidl (Some k)) b is = ap line_of is.1 ∙ uidl_again k is.0
line_complete (line.Retr k) b is = ap line_of is.1 ∙ retr_again k is.0
line_complete (line.Dele k) b is = ap line_of is.1 ∙ dele_again k is.0
line_complete line.Noop b is = ap line_of is
line_complete line.Rset b is = ap line_of is
line_complete line.Quit b is = ap line_of is
line_complete line.Bad b is = absurd is
