-- Replies: what is read begins the bytes, and each reply is read from its text.
use Rattle.std.proofs.Common.{◌≡◌, ℕ, ◌^◌, ◌<◌, List, [], ◌∷◌, ◌++◌, length, All, Some, None, codes, refl, sym, ◌∙◌, ap, subst, arith, append_assoc}
use Rattle.std.specs.Fmt.{decimal}
use Rattle.std.proofs.lemmas.Bool.{ne_eqb}
use Rattle.std.proofs.lemmas.Fmt.{decimal_nonempty}
use Rattle.std.proofs.lemmas.List.Elements.{All-head}
use Rattle.dv_model.specs.declared.types.Reply.{Reply}
use Rattle.dv_model.specs.declared.types.Reply.TheVariants as reply
use Rattle.dv_model.specs.declared.types.Value.{Value}
use Rattle.dv_model.specs.Texts.{given_text, mark_text, modified_text, reply_text, value_text, word_text}
use Rattle.dv_formats.specs.Parsing.{◌>>=◌, after}
use Rattle.dv_formats.specs.Replies.{AreNumbers, IsReply, IsValue}
use Rattle.dv_formats.proofs.Stops.{spaced_map}
use Rattle.dv_commands.proofs.Base.{after_then, bind_some, some_is}
use Rattle.dv_commands.proofs.Joined.{five, four, seven, six, three}
use Rattle.dv_commands.proofs.Words.{IsDigit, Stops, digits_are}
use Rattle.dv_replies.specs.Reading.{bad_at, bracketed_at, each_behind, fetch_at, is_no_digit, numbered_at, refused_at, reply_at, search_at, untagged_at, value_at, word_at}
use Rattle.dv_replies.proofs.Steps.{each_again, each_takes, else_then, list_long, list_text, number_again, number_takes, number_then}
use Rattle.dv_replies.proofs.Endings.{IsOf, bad_takes, damaged_again, done_again, done_takes, gone_again, no_message_again, refused_takes, too_long_again, unavailable_again}
use Rattle.dv_replies.proofs.Values.{value_again, value_takes}

-- ---- texts with their parts one behind another

search_right : (ns rest : List ℕ) → reply_text (reply.Search ns) ++ rest ≡ codes "* SEARCH" ++ (list_text decimal 32 ns ++ rest)
search_right ns rest = ap (λ t. t ++ rest) (spaced_map decimal (codes "* SEARCH") ns)

fetch_right : (n uid : ℕ) (values : List Value) (rest : List ℕ)
    → reply_text (reply.Fetch n uid values) ++ rest ≡ codes "* " ++ (decimal n ++ (codes " FETCH (UID " ++ (decimal uid ++ (list_text value_text 32 values ++ 41 ∷ rest))))
fetch_right n uid values rest =
    let first = codes "UID " ++ decimal uid in
    let others = list_text value_text 32 values in
    ap (λ t. (codes "* " ++ decimal n ++ codes " FETCH (" ++ t ++ codes ")") ++ rest) (spaced_map value_text first values)
    ∙ five (codes "* ") (decimal n) (codes " FETCH (") (first ++ others) (codes ")") rest
    ∙ ap (λ t. codes "* " ++ (decimal n ++ (codes " FETCH (" ++ t))) (three (codes "UID ") (decimal uid) others (41 ∷ rest))

-- ---- what is read begins the bytes

search_takes : (b c : List ℕ) (y : Reply × List ℕ) → b ≡ codes "* SEARCH" ++ c → search_at c ≡ Some y → IsOf b y
unfolding search_at
search_takes b c y p e =
    let all = bind_some (each_behind (codes " ") word_at (length c) [] c) (λ ns. Some (reply.Search ns.0, ns.1)) y e in
    let is = each_takes decimal (λ k. k < 2 ^ 32) 32 word_at (number_takes (2 ^ 32)) (length c) [] c all.0 all.1 in
    subst (IsOf b) (ap (λ xs. (reply.Search xs, all.0.1)) (sym is.2) ∙ some_is (reply.Search all.0.0, all.0.1) y all.2)
    (is.1, p ∙ ap (λ t. codes "* SEARCH" ++ t) is.3 ∙ sym (search_right is.0 all.0.1))

bracketed_takes : (c : List ℕ) (y : ℕ × List ℕ) → bracketed_at c ≡ Some y → (y.0 < 2 ^ 32) × (c ≡ decimal y.0 ++ 93 ∷ y.1)
unfolding bracketed_at
bracketed_takes c y e = number_then (2 ^ 32) c _ y e (λ n d less q e. after_then (codes "]") d _ y e (λ rest r f.
    subst (λ (z : ℕ × List ℕ). (z.0 < 2 ^ 32) × (c ≡ decimal z.0 ++ 93 ∷ z.1)) (some_is (n, rest) y f) (less, q ∙ ap (λ t. decimal n ++ t) r)))

-- a text, a number and its bracket
bracketed : (front b c d rest : List ℕ) (n : ℕ) → b ≡ codes "* " ++ c → c ≡ front ++ d → d ≡ decimal n ++ 93 ∷ rest
    → b ≡ ((codes "* " ++ front) ++ decimal n ++ codes "]") ++ rest
bracketed front b c d rest n p q r = rw (p, q, r) (simp append_assoc)

exists_whole : (n : ℕ) (b c d rest : List ℕ) → b ≡ codes "* " ++ c → c ≡ decimal n ++ d → d ≡ codes " EXISTS" ++ rest → b ≡ reply_text (reply.Exists n) ++ rest
exists_whole n b c d rest p q r = rw (p, q, r) (simp append_assoc)

expunge_whole : (n : ℕ) (b c d rest : List ℕ) → b ≡ codes "* " ++ c → c ≡ decimal n ++ d → d ≡ codes " EXPUNGE" ++ rest → b ≡ reply_text (reply.Expunge n) ++ rest
expunge_whole n b c d rest p q r = rw (p, q, r) (simp append_assoc)

fetch_whole : (n uid : ℕ) (values : List Value) (b c d e f g rest : List ℕ) → b ≡ codes "* " ++ c → c ≡ decimal n ++ d → d ≡ codes " FETCH (UID " ++ e
    → e ≡ decimal uid ++ f → f ≡ list_text value_text 32 values ++ g → g ≡ codes ")" ++ rest → b ≡ reply_text (reply.Fetch n uid values) ++ rest
fetch_whole n uid values b c d e f g rest p q r s t u =
    p ∙ ap (λ x. codes "* " ++ x) (q ∙ ap (λ x. decimal n ++ x) (r ∙ ap (λ x. codes " FETCH (UID " ++ x) (s ∙ ap (λ x. decimal uid ++ x) (t ∙ ap (λ x. list_text value_text 32 values ++ x) u))))
    ∙ sym (fetch_right n uid values rest)

fetch_takes : (n : ℕ) (b c d h : List ℕ) (y : Reply × List ℕ) → n < 2 ^ 32 → b ≡ codes "* " ++ c → c ≡ decimal n ++ d → d ≡ codes " FETCH (UID " ++ h → fetch_at n h ≡ Some y → IsOf b y
unfolding fetch_at
fetch_takes n b c d h y few p q r e = number_then (2 ^ 32) h _ y e (λ uid f less s e.
    let all = bind_some (each_behind (codes " ") value_at (length f) [] f) (λ values. after (codes ")") values.1 >>= λ rest. Some (reply.Fetch n uid values.0, rest)) y e in
    let is = each_takes value_text IsValue 32 value_at value_takes (length f) [] f all.0 all.1 in
    after_then (codes ")") all.0.1 _ y all.2 (λ rest u g.
    subst (IsOf b) (ap (λ xs. (reply.Fetch n uid xs, rest)) (sym is.2) ∙ some_is (reply.Fetch n uid all.0.0, rest) y g)
    ((few, less, is.1), fetch_whole n uid is.0 b c d h f all.0.1 rest p q r s is.3 u)))

numbered_takes : (b c : List ℕ) (y : Reply × List ℕ) → b ≡ codes "* " ++ c → numbered_at c ≡ Some y → IsOf b y
unfolding numbered_at
numbered_takes b c y p e = number_then (2 ^ 32) c _ y e (λ n d less q e.
    else_then (codes " EXISTS") d _ _ y e (λ rest r f. subst (IsOf b) (some_is (reply.Exists n, rest) y f) (less, exists_whole n b c d rest p q r))
    (λ e. else_then (codes " EXPUNGE") d _ _ y e (λ rest r f. subst (IsOf b) (some_is (reply.Expunge n, rest) y f) (less, expunge_whole n b c d rest p q r))
    (λ e. else_then (codes " FETCH (UID ") d _ _ y e (λ h r f. fetch_takes n b c d h y less p q r f) (λ e. absurd cc))))

two : (front text b c d : List ℕ) → b ≡ front ++ c → c ≡ text ++ d → b ≡ (front ++ text) ++ d
two front text b c d p q = rw (p, q) (sym (append_assoc front text d))

untagged_takes : (b c : List ℕ) (y : Reply × List ℕ) → b ≡ codes "* " ++ c → untagged_at c ≡ Some y → IsOf b y
unfolding untagged_at
untagged_takes b c y p e =
    else_then (codes "SEARCH") c _ _ y e (λ d q f. search_takes b d y (two (codes "* ") (codes "SEARCH") b c d p q) f)
    (λ e. else_then (codes "OK [UIDVALIDITY ") c _ _ y e (λ d q f.
    let n = bind_some (bracketed_at d) (λ n. Some (reply.Validity n.0, n.1)) y f in
    let is = bracketed_takes d n.0 n.1 in
    subst (IsOf b) (some_is (reply.Validity n.0.0, n.0.1) y n.2) (is.0, bracketed (codes "OK [UIDVALIDITY ") b c d n.0.1 n.0.0 p q is.1))
    (λ e. else_then (codes "OK [UIDNEXT ") c _ _ y e (λ d q f.
    let n = bind_some (bracketed_at d) (λ n. Some (reply.NextUid n.0, n.1)) y f in
    let is = bracketed_takes d n.0 n.1 in
    subst (IsOf b) (some_is (reply.NextUid n.0.0, n.0.1) y n.2) (is.0, bracketed (codes "OK [UIDNEXT ") b c d n.0.1 n.0.0 p q is.1))
    (λ e. numbered_takes b c y p e)))

pub reply_takes : (b : List ℕ) (y : Reply × List ℕ) → reply_at b ≡ Some y → IsReply y.0 × (b ≡ reply_text y.0 ++ y.1)
unfolding reply_at
reply_takes b y e =
    else_then (codes "* ") b _ _ y e (λ c p f. untagged_takes b c y p f)
    (λ e. else_then (codes "OK ") b _ _ y e (λ c p f. done_takes b c y p f)
    (λ e. else_then (codes "NO ") b _ _ y e (λ c p f. refused_takes b c y p f)
    (λ e. else_then (codes "BAD ") b _ _ y e (λ c p f. bad_takes b c y p f) (λ e. absurd cc))))

-- ---- replies are read

-- a number begins with no letter
no_letter : (n letter : ℕ) (t text : List ℕ) → n < 2 ^ 32 → 57 < letter → after (letter ∷ text) (decimal n ++ t) ≡ None
no_letter n letter t text less above = by_digits (decimal n) (decimal_nonempty n (omega (arith, less))) (digits_are n (omega (arith, less)))
  where
    by_digits : (ds : List ℕ) → 0 < length ds → All IsDigit ds → after (letter ∷ text) (ds ++ t) ≡ None
    by_digits [] some all = absurd (omega (arith, some))
    by_digits (d ∷ ds) some all = rw (ne_eqb d letter (λ same. omega (arith, (All-head IsDigit d ds all).1, same, above))) refl

-- one that begins with a number
starts_so : (n : ℕ) (t : List ℕ) → n < 2 ^ 32 → untagged_at (decimal n ++ t) ≡ numbered_at (decimal n ++ t)
unfolding untagged_at
starts_so n t less = rw (no_letter n 83 t (codes "EARCH") less (omega arith), no_letter n 79 t (codes "K [UIDVALIDITY ") less (omega arith), no_letter n 79 t (codes "K [UIDNEXT ") less (omega arith)) refl

here : (n : ℕ) (t : List ℕ) (r : Reply) (rest : List ℕ) → n < 2 ^ 32 → numbered_at (decimal n ++ t) ≡ Some (r, rest) → reply_at (codes "* " ++ (decimal n ++ t)) ≡ Some (r, rest)
unfolding reply_at
here n t r rest less is = starts_so n t less ∙ is

exists_again : (n : ℕ) (x : List ℕ) → n < 2 ^ 32 → numbered_at (decimal n ++ (codes " EXISTS" ++ 10 ∷ x)) ≡ Some (reply.Exists n, 10 ∷ x)
unfolding numbered_at
exists_again n x less = rw (number_again (2 ^ 32) n (codes " EXISTS" ++ 10 ∷ x) (omega arith) less refl) refl

expunge_again : (n : ℕ) (x : List ℕ) → n < 2 ^ 32 → numbered_at (decimal n ++ (codes " EXPUNGE" ++ 10 ∷ x)) ≡ Some (reply.Expunge n, 10 ∷ x)
unfolding numbered_at
expunge_again n x less = rw (number_again (2 ^ 32) n (codes " EXPUNGE" ++ 10 ∷ x) (omega arith) less refl) refl

fetch_again : (n uid : ℕ) (values : List Value) (x : List ℕ) → IsReply (reply.Fetch n uid values)
    → numbered_at (decimal n ++ (codes " FETCH (UID " ++ (decimal uid ++ (list_text value_text 32 values ++ 41 ∷ 10 ∷ x)))) ≡ Some (reply.Fetch n uid values, 10 ∷ x)
unfolding numbered_at fetch_at
fetch_again n uid values x is =
    let last = 41 ∷ 10 ∷ x in
    let tail = list_text value_text 32 values ++ last in
    let others = each_again value_text IsValue 32 (Stops is_no_digit) value_at value_again (λ t. refl) values [] last (length tail) is.2 refl refl (list_long value_text 32 values last (omega arith)) in
    rw (number_again (2 ^ 32) n (codes " FETCH (UID " ++ (decimal uid ++ tail)) (omega arith) is.0 refl) (rw (number_again (2 ^ 32) uid tail (omega arith) is.1 (stopped values)) (rw others refl))
  where
    stopped : (vs : List Value) → Stops is_no_digit (list_text value_text 32 vs ++ 41 ∷ 10 ∷ x)
    stopped [] = refl
    stopped (v ∷ vs) = refl

search_again : (ns x : List ℕ) → AreNumbers ns → search_at (list_text decimal 32 ns ++ 10 ∷ x) ≡ Some (reply.Search ns, 10 ∷ x)
unfolding search_at
search_again ns x is =
    let last = 10 ∷ x in
    let tail = list_text decimal 32 ns ++ last in
    let all = each_again decimal (λ k. k < 2 ^ 32) 32 (Stops is_no_digit) word_at (λ k t less stops. number_again (2 ^ 32) k t (omega arith) less stops) (λ t. refl)
    ns [] last (length tail) is refl refl (list_long decimal 32 ns last (omega arith)) in
    rw all refl

bracketed_again : (n : ℕ) (x : List ℕ) → n < 2 ^ 32 → bracketed_at (decimal n ++ 93 ∷ 10 ∷ x) ≡ Some (n, 10 ∷ x)
unfolding bracketed_at
bracketed_again n x less = rw (number_again (2 ^ 32) n (93 ∷ 10 ∷ x) (omega arith) less refl) refl

pub reply_again : (r : Reply) (x : List ℕ) → IsReply r → reply_at (reply_text r ++ 10 ∷ x) ≡ Some (r, 10 ∷ x)
unfolding reply_at untagged_at bad_at refused_at
reply_again (reply.Exists n) x is =
    let whole : reply_text (reply.Exists n) ++ 10 ∷ x ≡ codes "* " ++ (decimal n ++ (codes " EXISTS" ++ 10 ∷ x)) = simp append_assoc in
    ap reply_at whole ∙ here n (codes " EXISTS" ++ 10 ∷ x) (reply.Exists n) (10 ∷ x) is (exists_again n x is)
reply_again (reply.Expunge n) x is =
    let whole : reply_text (reply.Expunge n) ++ 10 ∷ x ≡ codes "* " ++ (decimal n ++ (codes " EXPUNGE" ++ 10 ∷ x)) = simp append_assoc in
    ap reply_at whole ∙ here n (codes " EXPUNGE" ++ 10 ∷ x) (reply.Expunge n) (10 ∷ x) is (expunge_again n x is)
reply_again (reply.Fetch n uid values) x is =
    ap reply_at (fetch_right n uid values (10 ∷ x)) ∙ here n (codes " FETCH (UID " ++ (decimal uid ++ (list_text value_text 32 values ++ 41 ∷ 10 ∷ x))) (reply.Fetch n uid values) (10 ∷ x) is.0 (fetch_again n uid values x is)
reply_again (reply.Search ns) x is = ap reply_at (search_right ns (10 ∷ x)) ∙ search_again ns x is
reply_again (reply.Validity n) x is =
    let whole : reply_text (reply.Validity n) ++ 10 ∷ x ≡ codes "* OK [UIDVALIDITY " ++ (decimal n ++ 93 ∷ 10 ∷ x) = simp append_assoc in
    ap reply_at whole ∙ rw (bracketed_again n x is) refl
reply_again (reply.NextUid n) x is =
    let whole : reply_text (reply.NextUid n) ++ 10 ∷ x ≡ codes "* OK [UIDNEXT " ++ (decimal n ++ 93 ∷ 10 ∷ x) = simp append_assoc in
    ap reply_at whole ∙ rw (bracketed_again n x is) refl
reply_again (reply.Done w mark given modified) x is =
    let whole : reply_text (reply.Done w mark given modified) ++ 10 ∷ x ≡ codes "OK " ++ (given_text given ++ (modified_text modified ++ 91 ∷ (mark_text mark ++ 93 ∷ 32 ∷ (word_text w ++ 10 ∷ x)))) = seven (codes "OK ") (given_text given) (modified_text modified) (codes "[") (mark_text mark) (codes "] ") (word_text w) (10 ∷ x) in
    ap reply_at whole ∙ done_again w mark given modified x is
reply_again (reply.Gone uid mark modified) x is =
    let whole : reply_text (reply.Gone uid mark modified) ++ 10 ∷ x ≡ codes "NO [EXPUNGEISSUED] " ++ (modified_text modified ++ (codes "UID " ++ (decimal uid ++ 32 ∷ (mark_text mark ++ 10 ∷ x)))) = six (codes "NO [EXPUNGEISSUED] ") (modified_text modified) (codes "UID ") (decimal uid) (codes " ") (mark_text mark) (10 ∷ x) in
    ap reply_at whole ∙ gone_again uid mark modified x is
reply_again (reply.Damaged uid mark) x is =
    let whole : reply_text (reply.Damaged uid mark) ++ 10 ∷ x ≡ codes "NO [CORRUPTION] UID " ++ (decimal uid ++ 32 ∷ (mark_text mark ++ 10 ∷ x)) = four (codes "NO [CORRUPTION] UID ") (decimal uid) (codes " ") (mark_text mark) (10 ∷ x) in
    ap reply_at whole ∙ damaged_again uid mark x is
reply_again (reply.Unavailable n) x is =
    ap reply_at (append_assoc (codes "NO [UNAVAILABLE] FAULTS ") (decimal n) (10 ∷ x)) ∙ unavailable_again n x is
reply_again reply.UidsUsedUp x is = refl
reply_again (reply.TooLong n) x is = ap reply_at (append_assoc (codes "NO [LIMIT] BYTES ") (decimal n) (10 ∷ x)) ∙ too_long_again n x is
reply_again reply.NotSelected x is = refl
reply_again (reply.NoMessage n) x is = ap reply_at (append_assoc (codes "BAD NO MESSAGE ") (decimal n) (10 ∷ x)) ∙ no_message_again n x is
