-- No line of a reply begins another, and each is of one session and one reply.
use Rattle.std.proofs.Common.{◌≡◌, ◌⊎◌, inl, inr, ℕ, ◌^◌, ◌<◌, true, cond, eqb, List, [], ◌∷◌, ◌++◌, length, get_or, drop, All, Option, Some, None, codes, map, flat_map, refl, sym, ◌∙◌, ap, arith, append_assoc}
use Rattle.std.specs.Fmt.{decimal}
use Rattle.std.proofs.lemmas.Bool.{ne_eqb}
use Rattle.std.proofs.lemmas.Fmt.{decimal_nonempty}
use Rattle.std.proofs.lemmas.List.{append_cancel_left}
use Rattle.std.proofs.lemmas.List.Elements.{All-head, All-tail}
use Rattle.dv_model.specs.declared.types.Mark.{Mark}
use Rattle.dv_model.specs.declared.types.Reply.{Reply}
use Rattle.dv_model.specs.declared.types.Reply.TheVariants as reply
use Rattle.dv_model.specs.declared.types.Value.{Value}
use Rattle.dv_model.specs.declared.types.Word.{Word}
use Rattle.dv_model.specs.declared.types.Word.TheVariants as word
use Rattle.dv_model.specs.Texts.{given_text, line_text, mark_text, modified_text, reply_text, spaced, value_text, with_commas, word_text}
use Rattle.dv_formats.specs.Replies.{AreNumbers, IsGiven, IsPlace, IsReply, IsReplyLine, IsValue}
use Rattle.dv_formats.specs.Scripts.{is_session_byte}
use Rattle.dv_formats.proofs.Stops.{IsDigit, Stops, apart, are_digits, comma_words, ends_by, list_one, number_one, numbers_one, spaced_map, stops_by}
use Rattle.dv_formats.proofs.Values.{value_one}

-- ---- parts of a reply

-- a number of 32 bits, and a text behind it
word_number_one : (m n : ℕ) (t u x y : List ℕ) → m < 2 ^ 32 → n < 2 ^ 32 → Stops IsDigit (t ++ x)
    → Stops IsDigit (u ++ y)
    → (decimal m ++ t) ++ x ≡ (decimal n ++ u) ++ y → (m ≡ n) × (t ++ x ≡ u ++ y)
word_number_one m n t u x y p q r s e =
    number_one m n (t ++ x) (u ++ y) (omega (arith, p)) (omega (arith, q)) r s (sym (append_assoc (decimal m) t x) ∙ e ∙ append_assoc (decimal n) u y)

mark_right : (m : Mark) (x : List ℕ)
    → mark_text m ++ x ≡ codes "MARK " ++ (decimal m.file_seq ++ 58 ∷ (decimal m.offset ++ x))
mark_right m x =
    ap (λ t. codes "MARK " ++ t) (append_assoc (decimal m.file_seq ++ 58 ∷ []) (decimal m.offset) x ∙ append_assoc (decimal m.file_seq) (58 ∷ []) (decimal m.offset ++ x))

mark_one : (m n : Mark) (x y : List ℕ) → IsPlace m → IsPlace n → Stops IsDigit x → Stops IsDigit y
    → mark_text m ++ x ≡ mark_text n ++ y → (m ≡ n) × (x ≡ y)
mark_one m n x y p q r s e =
    let f = ap (drop 5) (sym (mark_right m x) ∙ e ∙ mark_right n y) in
    let files = number_one m.file_seq n.file_seq (58 ∷ (decimal m.offset ++ x)) (58 ∷ (decimal n.offset ++ y)) (omega (arith, p.file_seq)) (omega (arith, q.file_seq)) (λ d. omega (arith, d.1)) (λ d. omega (arith, d.1)) f in
    let offsets = number_one m.offset n.offset x y (omega (arith, p.offset)) (omega (arith, q.offset)) r s (ap (drop 1) files.1) in
    (λ i. record { file_seq = files.0 i; offset = offsets.0 i }, offsets.1)

-- the word whose name begins a text that a line feed ends
word_in : List ℕ → Word
word_in b =
    cond (eqb (get_or b 0 0) 78) word.Noop
    (cond (eqb (get_or b 0 0) 67) word.Check
    (cond (eqb (get_or b 0 0) 65) word.Append
    (cond (eqb (get_or b 0 0) 69) word.Expunge
    (cond (eqb (get_or b 0 0) 70) word.Fetch
    (cond (eqb (get_or b 0 0) 83) (cond (eqb (get_or b 1 0) 84) word.Store (cond (eqb (get_or b 2 0) 76) word.Select word.Search))
    (cond (eqb (get_or b 4 0) 70) word.UidFetch
    (cond (eqb (get_or b 4 0) 82) word.UidRemove
    (cond (eqb (get_or b 5 0) 84) word.UidStore word.UidSearch))))))))

word_is : (w : Word) (x : List ℕ) → word_in (word_text w ++ x) ≡ w
unfolding word_in
word_is word.Select x = refl
word_is word.Noop x = refl
word_is word.Check x = refl
word_is word.Append x = refl
word_is word.Expunge x = refl
word_is word.Fetch x = refl
word_is word.Store x = refl
word_is word.Search x = refl
word_is word.UidFetch x = refl
word_is word.UidStore x = refl
word_is word.UidSearch x = refl
word_is word.UidRemove x = refl

word_one : (w v : Word) (x y : List ℕ) → word_text w ++ x ≡ word_text v ++ y → (w ≡ v) × (x ≡ y)
word_one w v x y e =
    let same : w ≡ v = sym (word_is w x) ∙ ap word_in e ∙ word_is v y in
    (same, append_cancel_left (word_text w) x y (e ∙ ap (λ z. word_text z ++ y) (sym same)))

-- what follows begins with a bracket and `M`
given_right : (given : ℕ × ℕ) (x : List ℕ)
    → given_text (Some given) ++ x ≡ codes "[APPENDUID " ++ (decimal given.0 ++ 32 ∷ (decimal given.1 ++ 93 ∷ 32 ∷ x))
given_right given x =
    ap (λ t. codes "[APPENDUID " ++ t)
    (append_assoc ((decimal given.0 ++ 32 ∷ []) ++ decimal given.1) (93 ∷ 32 ∷ []) x
    ∙ append_assoc (decimal given.0 ++ 32 ∷ []) (decimal given.1) (93 ∷ 32 ∷ x)
    ∙ append_assoc (decimal given.0) (32 ∷ []) (decimal given.1 ++ 93 ∷ 32 ∷ x))

given_one : (g h : Option (ℕ × ℕ)) (x y : List ℕ) → IsGiven g → IsGiven h → get_or x 1 0 ≡ 77
    → get_or y 1 0 ≡ 77
    → given_text g ++ x ≡ given_text h ++ y → (g ≡ h) × (x ≡ y)
given_one None None x y p q r s e = (refl, e)
given_one None (Some h) x y p q r s e = absurd (omega (arith, r, ap (λ z. get_or z 1 0) (e ∙ given_right h y)))
given_one (Some g) None x y p q r s e = absurd (omega (arith, s, ap (λ z. get_or z 1 0) (sym e ∙ given_right g x)))
given_one (Some g) (Some h) x y p q r s e =
    let f = ap (drop 11) (sym (given_right g x) ∙ e ∙ given_right h y) in
    let first = number_one g.0 h.0 (32 ∷ (decimal g.1 ++ 93 ∷ 32 ∷ x)) (32 ∷ (decimal h.1 ++ 93 ∷ 32 ∷ y)) (omega (arith, p.0)) (omega (arith, q.0)) (λ d. omega (arith, d.0)) (λ d. omega (arith, d.0)) f in
    let second = number_one g.1 h.1 (93 ∷ 32 ∷ x) (93 ∷ 32 ∷ y) (omega (arith, p.1)) (omega (arith, q.1)) (λ d. omega (arith, d.1)) (λ d. omega (arith, d.1)) (ap (drop 1) first.1) in
    (λ i. Some (first.0 i, second.0 i), ap (drop 2) second.1)

-- what follows has no `O` as its third byte
modified_right : (n : ℕ) (ns : List ℕ) (x : List ℕ)
    → modified_text (n ∷ ns) ++ x ≡ codes "[MODIFIED " ++ (decimal n ++ (flat_map (λ m. 44 ∷ decimal m) ns ++ 93 ∷ 32 ∷ x))
modified_right n ns x =
    ap (λ t. codes "[MODIFIED " ++ t)
    (append_assoc (with_commas (n ∷ ns)) (93 ∷ 32 ∷ []) x
    ∙ ap (λ t. t ++ 93 ∷ 32 ∷ x) (comma_words n ns)
    ∙ append_assoc (decimal n) (flat_map (λ m. 44 ∷ decimal m) ns) (93 ∷ 32 ∷ x))

modified_one : (ms ns : List ℕ) (x y : List ℕ) → AreNumbers ms → AreNumbers ns
    → (get_or x 2 0 ≡ 79 → ⊥) → (get_or y 2 0 ≡ 79 → ⊥)
    → modified_text ms ++ x ≡ modified_text ns ++ y → (ms ≡ ns) × (x ≡ y)
modified_one [] [] x y p q r s e = (refl, e)
modified_one [] (n ∷ ns) x y p q r s e = absurd (r (ap (λ z. get_or z 2 0) (e ∙ modified_right n ns y)))
modified_one (m ∷ ms) [] x y p q r s e = absurd (s (ap (λ z. get_or z 2 0) (sym e ∙ modified_right m ms x)))
modified_one (m ∷ ms) (n ∷ ns) x y p q r s e =
    let f = ap (drop 10) (sym (modified_right m ms x) ∙ e ∙ modified_right n ns y) in
    let behind = flat_map (λ k. 44 ∷ decimal k) ms ++ 93 ∷ 32 ∷ x in
    let more = flat_map (λ k. 44 ∷ decimal k) ns ++ 93 ∷ 32 ∷ y in
    let comma : IsDigit 44 → ⊥ = λ d. omega (arith, d.0) in
    let bracket : IsDigit 93 → ⊥ = λ d. omega (arith, d.1) in
    let first = number_one m n behind more (omega (arith, All-head (λ k. k < 2 ^ 32) m ms p)) (omega (arith, All-head (λ k. k < 2 ^ 32) n ns q))
    (stops_by IsDigit 44 93 behind comma bracket (ends_by decimal 44 93 ms (32 ∷ x))) (stops_by IsDigit 44 93 more comma bracket (ends_by decimal 44 93 ns (32 ∷ y))) f in
    let rest = numbers_one 44 93 ms ns (32 ∷ x) (32 ∷ y) (λ same. omega (arith, same)) comma bracket (All-tail (λ k. k < 2 ^ 32) m ms p) (All-tail (λ k. k < 2 ^ 32) n ns q) first.1 in
    (ap (λ z. z ∷ ms) first.0 ∙ ap (λ zs. n ∷ zs) rest.0, ap (drop 1) rest.1)

-- ---- replies

kind : Reply → ℕ
kind (reply.Exists n) = 0
kind (reply.Expunge n) = 0
kind (reply.Fetch n uid values) = 0
kind (reply.Search ns) = 1
kind (reply.Validity n) = 2
kind (reply.NextUid n) = 3
kind (reply.Done w mark given modified) = 4
kind (reply.Gone uid mark modified) = 5
kind (reply.Damaged uid mark) = 6
kind (reply.Unavailable n) = 7
kind reply.UidsUsedUp = 8
kind (reply.TooLong n) = 9
kind reply.NotSelected = 10
kind (reply.NoMessage n) = 11

-- what the first bytes say; those of a number are all alike
seen_kind : List ℕ → ℕ
seen_kind b =
    cond (eqb (get_or b 0 0) 42) (cond (eqb (get_or b 2 0) 83) 1 (cond (eqb (get_or b 2 0) 79) (cond (eqb (get_or b 9 0) 86) 2 3) 0))
    (cond (eqb (get_or b 0 0) 79) 4
    (cond (eqb (get_or b 0 0) 78)
    (cond (eqb (get_or b 4 0) 69) 5 (cond (eqb (get_or b 4 0) 67) 6 (cond (eqb (get_or b 4 0) 85) 7 (cond (eqb (get_or b 11 0) 85) 8 9))))
    (cond (eqb (get_or b 6 0) 84) 10 11)))

digits_kind : (t z : List ℕ) → 0 < length t → All IsDigit t → seen_kind (42 ∷ 32 ∷ (t ++ z)) ≡ 0
unfolding seen_kind
digits_kind [] z some all = absurd (omega (arith, some))
digits_kind (d ∷ t) z some all =
    let digit = All-head IsDigit d t all in
    rw (ne_eqb d 83 (λ same. omega (arith, digit.1, same)), ne_eqb d 79 (λ same. omega (arith, digit.1, same))) refl

number_kind : (n : ℕ) (z : List ℕ) → n < 2 ^ 32 → seen_kind (42 ∷ 32 ∷ (decimal n ++ z)) ≡ 0
number_kind n z small = digits_kind (decimal n) z (decimal_nonempty n (omega (arith, small))) (are_digits n (omega (arith, small)))

-- ---- replies with their parts one behind another

module _ (x : List ℕ) where
  exists_right : (n : ℕ)
      → reply_text (reply.Exists n) ++ x ≡ 42 ∷ 32 ∷ (decimal n ++ (codes " EXISTS" ++ x))
  exists_right n = ap (λ t. 42 ∷ 32 ∷ t) (append_assoc (decimal n) (codes " EXISTS") x)

  expunge_right : (n : ℕ)
      → reply_text (reply.Expunge n) ++ x ≡ 42 ∷ 32 ∷ (decimal n ++ (codes " EXPUNGE" ++ x))
  expunge_right n = ap (λ t. 42 ∷ 32 ∷ t) (append_assoc (decimal n) (codes " EXPUNGE") x)

  fetch_right : (n uid : ℕ) (values : List Value)
      → reply_text (reply.Fetch n uid values) ++ x ≡ 42 ∷ 32 ∷ (decimal n ++ (codes " FETCH (UID " ++ (decimal uid ++ (flat_map (λ v. 32 ∷ value_text v) values ++ 41 ∷ x))))
  fetch_right n uid values =
      let first = codes "UID " ++ decimal uid in
      let inside = spaced (first ∷ map value_text values) in
      let others = flat_map (λ v. 32 ∷ value_text v) values in
      ap (λ t. 42 ∷ 32 ∷ t)
      (append_assoc ((decimal n ++ codes " FETCH (") ++ inside) (41 ∷ []) x
      ∙ append_assoc (decimal n ++ codes " FETCH (") inside (41 ∷ x)
      ∙ append_assoc (decimal n) (codes " FETCH (") (inside ++ 41 ∷ x)
      ∙ ap (λ t. decimal n ++ (codes " FETCH (" ++ (t ++ 41 ∷ x))) (spaced_map value_text first values)
      ∙ ap (λ t. decimal n ++ (codes " FETCH (" ++ t)) (append_assoc first others (41 ∷ x)))

  search_right : (ns : List ℕ)
      → reply_text (reply.Search ns) ++ x ≡ codes "* SEARCH" ++ (flat_map (λ n. 32 ∷ decimal n) ns ++ x)
  search_right ns = ap (λ t. t ++ x) (spaced_map decimal (codes "* SEARCH") ns)

  done_right : (w : Word) (mark : Mark) (given : Option (ℕ × ℕ)) (modified : List ℕ)
      → reply_text (reply.Done w mark given modified) ++ x
      ≡ codes "OK " ++ (given_text given ++ (modified_text modified ++ 91 ∷ (mark_text mark ++ 93 ∷ 32 ∷ (word_text w ++ x))))
  done_right w mark given modified =
      let a = given_text given ++ modified_text modified in
      let b = a ++ 91 ∷ [] in
      let c = b ++ mark_text mark in
      let d = c ++ 93 ∷ 32 ∷ [] in
      ap (λ t. codes "OK " ++ t)
      (append_assoc d (word_text w) x
      ∙ append_assoc c (93 ∷ 32 ∷ []) (word_text w ++ x)
      ∙ append_assoc b (mark_text mark) (93 ∷ 32 ∷ (word_text w ++ x))
      ∙ append_assoc a (91 ∷ []) (mark_text mark ++ 93 ∷ 32 ∷ (word_text w ++ x))
      ∙ append_assoc (given_text given) (modified_text modified) (91 ∷ (mark_text mark ++ 93 ∷ 32 ∷ (word_text w ++ x))))

  gone_right : (uid : ℕ) (mark : Mark) (modified : List ℕ)
      → reply_text (reply.Gone uid mark modified) ++ x
      ≡ codes "NO [EXPUNGEISSUED] " ++ (modified_text modified ++ (codes "UID " ++ (decimal uid ++ 32 ∷ (mark_text mark ++ x))))
  gone_right uid mark modified =
      let a = modified_text modified ++ codes "UID " in
      let b = a ++ decimal uid in
      let c = b ++ 32 ∷ [] in
      ap (λ t. codes "NO [EXPUNGEISSUED] " ++ t)
      (append_assoc c (mark_text mark) x
      ∙ append_assoc b (32 ∷ []) (mark_text mark ++ x)
      ∙ append_assoc a (decimal uid) (32 ∷ (mark_text mark ++ x))
      ∙ append_assoc (modified_text modified) (codes "UID ") (decimal uid ++ 32 ∷ (mark_text mark ++ x)))

  damaged_right : (uid : ℕ) (mark : Mark)
      → reply_text (reply.Damaged uid mark) ++ x ≡ codes "NO [CORRUPTION] UID " ++ (decimal uid ++ 32 ∷ (mark_text mark ++ x))
  damaged_right uid mark =
      ap (λ t. codes "NO [CORRUPTION] UID " ++ t)
      (append_assoc (decimal uid ++ 32 ∷ []) (mark_text mark) x ∙ append_assoc (decimal uid) (32 ∷ []) (mark_text mark ++ x))

  kind_is : (r : Reply) → IsReply r → seen_kind (reply_text r ++ x) ≡ kind r
  unfolding kind seen_kind
  kind_is (reply.Exists n) is = ap seen_kind (exists_right n) ∙ number_kind n (codes " EXISTS" ++ x) is
  kind_is (reply.Expunge n) is = ap seen_kind (expunge_right n) ∙ number_kind n (codes " EXPUNGE" ++ x) is
  kind_is (reply.Fetch n uid values) is = ap seen_kind (fetch_right n uid values) ∙ number_kind n (codes " FETCH (UID " ++ (decimal uid ++ (flat_map (λ v. 32 ∷ value_text v) values ++ 41 ∷ x))) is.0
  kind_is (reply.Search ns) is = ap seen_kind (search_right ns)
  kind_is (reply.Validity n) is = refl
  kind_is (reply.NextUid n) is = refl
  kind_is (reply.Done w mark given modified) is = refl
  kind_is (reply.Gone uid mark modified) is = refl
  kind_is (reply.Damaged uid mark) is = refl
  kind_is (reply.Unavailable n) is = refl
  kind_is reply.UidsUsedUp is = refl
  kind_is (reply.TooLong n) is = refl
  kind_is reply.NotSelected is = refl
  kind_is (reply.NoMessage n) is = refl

-- ---- a reply's text is of one reply

-- a numbered reply: the number, and a text that doesn't begin with a digit
star_one : (m n : ℕ) (t u : List ℕ) → m < 2 ^ 32 → n < 2 ^ 32 → Stops IsDigit t → Stops IsDigit u
    → 42 ∷ 32 ∷ (decimal m ++ t) ≡ 42 ∷ 32 ∷ (decimal n ++ u) → (m ≡ n) × (t ≡ u)
star_one m n t u p q r s e = number_one m n t u (omega (arith, p)) (omega (arith, q)) r s (ap (drop 2) e)

modified_bracket : (ns : List ℕ) (mark : Mark) (z : List ℕ)
    → get_or (modified_text ns ++ 91 ∷ (mark_text mark ++ z)) 1 0 ≡ 77
modified_bracket [] mark z = refl
modified_bracket (n ∷ ns) mark z = refl

not_digit : (b : ℕ) → (b < 48) ⊎ (57 < b) → IsDigit b → ⊥
not_digit b (inl low) d = omega (arith, low, d.0)
not_digit b (inr high) d = omega (arith, high, d.1)

module _ (x y : List ℕ) where
  values_one : (vs ws : List Value) → All IsValue vs → All IsValue ws
      → flat_map (λ v. 32 ∷ value_text v) vs ++ 41 ∷ x ≡ flat_map (λ v. 32 ∷ value_text v) ws ++ 41 ∷ y
      → (vs ≡ ws) × (x ≡ y)
  values_one vs ws p q e = list_one value_text 32 41 IsValue (λ same. omega (arith, same)) value_one vs ws x y p q e

  fetch_one : (m n u v : ℕ) (vs ws : List Value) → IsReply (reply.Fetch m u vs)
      → IsReply (reply.Fetch n v ws)
      → reply_text (reply.Fetch m u vs) ++ x ≡ reply_text (reply.Fetch n v ws) ++ y
      → (reply.Fetch m u vs ≡ reply.Fetch n v ws) × (x ≡ y)
  fetch_one m n u v vs ws p q e =
      let behind = flat_map (λ w. 32 ∷ value_text w) vs ++ 41 ∷ x in
      let more = flat_map (λ w. 32 ∷ value_text w) ws ++ 41 ∷ y in
      let space : IsDigit 32 → ⊥ = not_digit 32 (inl (omega arith)) in
      let close : IsDigit 41 → ⊥ = not_digit 41 (inl (omega arith)) in
      let numbers = star_one m n (codes " FETCH (UID " ++ (decimal u ++ behind)) (codes " FETCH (UID " ++ (decimal v ++ more)) p.0 q.0 space space (sym (fetch_right x m u vs) ∙ e ∙ fetch_right y n v ws) in
      let uids = number_one u v behind more (omega (arith, p.1)) (omega (arith, q.1))
      (stops_by IsDigit 32 41 behind space close (ends_by value_text 32 41 vs x)) (stops_by IsDigit 32 41 more space close (ends_by value_text 32 41 ws y)) (ap (drop 12) numbers.1) in
      let values = values_one vs ws p.2 q.2 uids.1 in
      (λ i. reply.Fetch (numbers.0 i) (uids.0 i) (values.0 i), values.1)

-- behind a reply there is a line feed
module _ (x y : List ℕ) where
  done_one : (w v : Word) (m n : Mark) (g h : Option (ℕ × ℕ)) (ms ns : List ℕ)
      → IsReply (reply.Done w m g ms) → IsReply (reply.Done v n h ns)
      → reply_text (reply.Done w m g ms) ++ 10 ∷ x ≡ reply_text (reply.Done v n h ns) ++ 10 ∷ y
      → (reply.Done w m g ms ≡ reply.Done v n h ns) × (x ≡ y)
  done_one w v m n g h ms ns p q e =
      let last = 93 ∷ 32 ∷ (word_text w ++ 10 ∷ x) in
      let end = 93 ∷ 32 ∷ (word_text v ++ 10 ∷ y) in
      let f = ap (drop 3) (sym (done_right (10 ∷ x) w m g ms) ∙ e ∙ done_right (10 ∷ y) v n h ns) in
      let bracket : IsDigit 93 → ⊥ = not_digit 93 (inr (omega arith)) in
      let givens = given_one g h (modified_text ms ++ 91 ∷ (mark_text m ++ last)) (modified_text ns ++ 91 ∷ (mark_text n ++ end)) p.1 q.1 (modified_bracket ms m last) (modified_bracket ns n end) f in
      let lists = modified_one ms ns (91 ∷ (mark_text m ++ last)) (91 ∷ (mark_text n ++ end)) p.2 q.2 (λ same. omega (arith, same)) (λ same. omega (arith, same)) givens.1 in
      let marks = mark_one m n last end p.0 q.0 bracket bracket (ap (drop 1) lists.1) in
      let words = word_one w v (10 ∷ x) (10 ∷ y) (ap (drop 2) marks.1) in
      (λ i. reply.Done (words.0 i) (marks.0 i) (givens.0 i) (lists.0 i), ap (drop 1) words.1)

  gone_one : (u v : ℕ) (m n : Mark) (ms ns : List ℕ) → IsReply (reply.Gone u m ms)
      → IsReply (reply.Gone v n ns)
      → reply_text (reply.Gone u m ms) ++ 10 ∷ x ≡ reply_text (reply.Gone v n ns) ++ 10 ∷ y
      → (reply.Gone u m ms ≡ reply.Gone v n ns) × (x ≡ y)
  gone_one u v m n ms ns p q e =
      let f = ap (drop 19) (sym (gone_right (10 ∷ x) u m ms) ∙ e ∙ gone_right (10 ∷ y) v n ns) in
      let space : IsDigit 32 → ⊥ = not_digit 32 (inl (omega arith)) in
      let feed : IsDigit 10 → ⊥ = not_digit 10 (inl (omega arith)) in
      let lists = modified_one ms ns (codes "UID " ++ (decimal u ++ 32 ∷ (mark_text m ++ 10 ∷ x))) (codes "UID " ++ (decimal v ++ 32 ∷ (mark_text n ++ 10 ∷ y))) p.2 q.2 (λ same. omega (arith, same)) (λ same. omega (arith, same)) f in
      let uids = number_one u v (32 ∷ (mark_text m ++ 10 ∷ x)) (32 ∷ (mark_text n ++ 10 ∷ y)) (omega (arith, p.0)) (omega (arith, q.0)) space space (ap (drop 4) lists.1) in
      let marks = mark_one m n (10 ∷ x) (10 ∷ y) p.1 q.1 feed feed (ap (drop 1) uids.1) in
      (λ i. reply.Gone (uids.0 i) (marks.0 i) (lists.0 i), ap (drop 1) marks.1)

  damaged_one : (u v : ℕ) (m n : Mark) → IsReply (reply.Damaged u m) → IsReply (reply.Damaged v n)
      → reply_text (reply.Damaged u m) ++ 10 ∷ x ≡ reply_text (reply.Damaged v n) ++ 10 ∷ y
      → (reply.Damaged u m ≡ reply.Damaged v n) × (x ≡ y)
  damaged_one u v m n p q e =
      let f = ap (drop 20) (sym (damaged_right (10 ∷ x) u m) ∙ e ∙ damaged_right (10 ∷ y) v n) in
      let space : IsDigit 32 → ⊥ = not_digit 32 (inl (omega arith)) in
      let feed : IsDigit 10 → ⊥ = not_digit 10 (inl (omega arith)) in
      let uids = number_one u v (32 ∷ (mark_text m ++ 10 ∷ x)) (32 ∷ (mark_text n ++ 10 ∷ y)) (omega (arith, p.0)) (omega (arith, q.0)) space space f in
      let marks = mark_one m n (10 ∷ x) (10 ∷ y) p.1 q.1 feed feed (ap (drop 1) uids.1) in
      (λ i. reply.Damaged (uids.0 i) (marks.0 i), ap (drop 1) marks.1)

  -- a number, and a line feed or a bracket behind it
  bracket_one : (m n : ℕ) → m < 2 ^ 32 → n < 2 ^ 32
      → (decimal m ++ 93 ∷ []) ++ 10 ∷ x ≡ (decimal n ++ 93 ∷ []) ++ 10 ∷ y → (m ≡ n) × (x ≡ y)
  bracket_one m n p q e =
      let bracket : IsDigit 93 → ⊥ = not_digit 93 (inr (omega arith)) in
      let both = word_number_one m n (93 ∷ []) (93 ∷ []) (10 ∷ x) (10 ∷ y) p q bracket bracket e in
      (both.0, ap (drop 2) both.1)

  feed_one : (m n : ℕ) → m < 2 ^ 64 → n < 2 ^ 64 → decimal m ++ 10 ∷ x ≡ decimal n ++ 10 ∷ y
      → (m ≡ n) × (x ≡ y)
  feed_one m n p q e =
      let feed : IsDigit 10 → ⊥ = not_digit 10 (inl (omega arith)) in
      let both = number_one m n (10 ∷ x) (10 ∷ y) p q feed feed e in
      (both.0, ap (drop 1) both.1)

  reply_one : (r s : Reply) → IsReply r → IsReply s
      → reply_text r ++ 10 ∷ x ≡ reply_text s ++ 10 ∷ y → (r ≡ s) × (x ≡ y)
  unfolding kind
  reply_one r s p q e = by_kind r s p q e (sym (kind_is (10 ∷ x) r p) ∙ ap seen_kind e ∙ kind_is (10 ∷ y) s q)
    where
      space : IsDigit 32 → ⊥
      space = not_digit 32 (inl (omega arith))

      by_kind : (r s : Reply) → IsReply r → IsReply s
          → reply_text r ++ 10 ∷ x ≡ reply_text s ++ 10 ∷ y → kind r ≡ kind s → (r ≡ s) × (x ≡ y)
      by_kind (reply.Exists m) (reply.Exists n) p q e same =
          let both = star_one m n (codes " EXISTS" ++ 10 ∷ x) (codes " EXISTS" ++ 10 ∷ y) p q space space (sym (exists_right (10 ∷ x) m) ∙ e ∙ exists_right (10 ∷ y) n) in
          (ap (λ k. reply.Exists k) both.0, ap (drop 8) both.1)
      by_kind (reply.Exists m) (reply.Expunge n) p q e same =
          let both = star_one m n (codes " EXISTS" ++ 10 ∷ x) (codes " EXPUNGE" ++ 10 ∷ y) p q space space (sym (exists_right (10 ∷ x) m) ∙ e ∙ expunge_right (10 ∷ y) n) in
          absurd (omega (arith, ap (λ z. get_or z 3 0) both.1))
      by_kind (reply.Exists m) (reply.Fetch n v ws) p q e same =
          let both = star_one m n (codes " EXISTS" ++ 10 ∷ x) (codes " FETCH (UID " ++ (decimal v ++ (flat_map (λ w. 32 ∷ value_text w) ws ++ 41 ∷ 10 ∷ y))) p q.0 space space (sym (exists_right (10 ∷ x) m) ∙ e ∙ fetch_right (10 ∷ y) n v ws) in
          absurd (omega (arith, ap (λ z. get_or z 1 0) both.1))
      by_kind (reply.Expunge m) (reply.Exists n) p q e same =
          let both = star_one m n (codes " EXPUNGE" ++ 10 ∷ x) (codes " EXISTS" ++ 10 ∷ y) p q space space (sym (expunge_right (10 ∷ x) m) ∙ e ∙ exists_right (10 ∷ y) n) in
          absurd (omega (arith, ap (λ z. get_or z 3 0) both.1))
      by_kind (reply.Expunge m) (reply.Expunge n) p q e same =
          let both = star_one m n (codes " EXPUNGE" ++ 10 ∷ x) (codes " EXPUNGE" ++ 10 ∷ y) p q space space (sym (expunge_right (10 ∷ x) m) ∙ e ∙ expunge_right (10 ∷ y) n) in
          (ap (λ k. reply.Expunge k) both.0, ap (drop 9) both.1)
      by_kind (reply.Expunge m) (reply.Fetch n v ws) p q e same =
          let both = star_one m n (codes " EXPUNGE" ++ 10 ∷ x) (codes " FETCH (UID " ++ (decimal v ++ (flat_map (λ w. 32 ∷ value_text w) ws ++ 41 ∷ 10 ∷ y))) p q.0 space space (sym (expunge_right (10 ∷ x) m) ∙ e ∙ fetch_right (10 ∷ y) n v ws) in
          absurd (omega (arith, ap (λ z. get_or z 1 0) both.1))
      by_kind (reply.Fetch m u vs) (reply.Exists n) p q e same =
          let both = star_one m n (codes " FETCH (UID " ++ (decimal u ++ (flat_map (λ w. 32 ∷ value_text w) vs ++ 41 ∷ 10 ∷ x))) (codes " EXISTS" ++ 10 ∷ y) p.0 q space space (sym (fetch_right (10 ∷ x) m u vs) ∙ e ∙ exists_right (10 ∷ y) n) in
          absurd (omega (arith, ap (λ z. get_or z 1 0) both.1))
      by_kind (reply.Fetch m u vs) (reply.Expunge n) p q e same =
          let both = star_one m n (codes " FETCH (UID " ++ (decimal u ++ (flat_map (λ w. 32 ∷ value_text w) vs ++ 41 ∷ 10 ∷ x))) (codes " EXPUNGE" ++ 10 ∷ y) p.0 q space space (sym (fetch_right (10 ∷ x) m u vs) ∙ e ∙ expunge_right (10 ∷ y) n) in
          absurd (omega (arith, ap (λ z. get_or z 1 0) both.1))
      by_kind (reply.Fetch m u vs) (reply.Fetch n v ws) p q e same =
          let both = fetch_one (10 ∷ x) (10 ∷ y) m n u v vs ws p q e in
          (both.0, ap (drop 1) both.1)
      by_kind (reply.Search ms) (reply.Search ns) p q e same =
          let feed : IsDigit 10 → ⊥ = not_digit 10 (inl (omega arith)) in
          let f = ap (drop 8) (sym (search_right (10 ∷ x) ms) ∙ e ∙ search_right (10 ∷ y) ns) in
          let both = numbers_one 32 10 ms ns x y (λ same. omega (arith, same)) space feed p q f in
          (ap (λ k. reply.Search k) both.0, both.1)
      by_kind (reply.Validity m) (reply.Validity n) p q e same =
          let both = bracket_one m n p q (ap (drop 18) e) in
          (ap (λ k. reply.Validity k) both.0, both.1)
      by_kind (reply.NextUid m) (reply.NextUid n) p q e same =
          let both = bracket_one m n p q (ap (drop 14) e) in
          (ap (λ k. reply.NextUid k) both.0, both.1)
      by_kind (reply.Done w m g ms) (reply.Done v n h ns) p q e same = done_one w v m n g h ms ns p q e
      by_kind (reply.Gone u m ms) (reply.Gone v n ns) p q e same = gone_one u v m n ms ns p q e
      by_kind (reply.Damaged u m) (reply.Damaged v n) p q e same = damaged_one u v m n p q e
      by_kind (reply.Unavailable m) (reply.Unavailable n) p q e same =
          let both = feed_one m n p q (ap (drop 24) e) in
          (ap (λ k. reply.Unavailable k) both.0, both.1)
      by_kind reply.UidsUsedUp reply.UidsUsedUp p q e same = (refl, ap (drop 16) e)
      by_kind (reply.TooLong m) (reply.TooLong n) p q e same =
          let both = feed_one m n p q (ap (drop 17) e) in
          (ap (λ k. reply.TooLong k) both.0, both.1)
      by_kind reply.NotSelected reply.NotSelected p q e same = (refl, ap (drop 17) e)
      by_kind (reply.NoMessage m) (reply.NoMessage n) p q e same =
          let both = feed_one m n (omega (arith, p)) (omega (arith, q)) (ap (drop 15) e) in
          (ap (λ k. reply.NoMessage k) both.0, both.1)
      by_kind r s p q e same = absurd (omega (arith, same))

-- ---- lines

session_stop : is_session_byte 32 ≡ true → ⊥
session_stop e = cc

line_right : (session : List ℕ) (r : Reply) (x : List ℕ)
    → line_text session r ++ x ≡ session ++ 32 ∷ (reply_text r ++ 10 ∷ x)
line_right session r x =
    append_assoc (session ++ 32 ∷ reply_text r) (10 ∷ []) x ∙ append_assoc session (32 ∷ reply_text r) (10 ∷ x)

pub line_one : (session other : List ℕ) (r s : Reply) (b c x y : List ℕ) → IsReplyLine session r b
    → IsReplyLine other s c
    → b ++ x ≡ c ++ y → (session ≡ other) × (r ≡ s) × (x ≡ y)
line_one session other r s b c x y p q e =
    let texts = sym (ap (λ t. t ++ x) p.text ∙ line_right session r x) ∙ e ∙ ap (λ t. t ++ y) q.text ∙ line_right other s y in
    let names = apart (λ n. is_session_byte n ≡ true) session other (32 ∷ (reply_text r ++ 10 ∷ x)) (32 ∷ (reply_text s ++ 10 ∷ y)) p.named.bytes q.named.bytes session_stop session_stop texts in
    let both = reply_one x y r s p.bounded q.bounded (ap (drop 1) names.1) in
    (names.0, both.0, both.1)
