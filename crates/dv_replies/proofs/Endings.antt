-- The last line of a command.
use Rattle.std.proofs.Common.{◌≡◌, ℕ, ◌^◌, ◌<◌, Bool, true, false, cond, List, [], ◌∷◌, ◌++◌, length, Option, Some, None, codes, refl, sym, ◌∙◌, ap, subst, arith, append_assoc}
use Rattle.std.specs.Fmt.{decimal}
use Rattle.std.specs.Str.{bytes_eq}
use Rattle.std.proofs.lemmas.List.Elements.{All-cons, All-head, All-nil, All-tail}
use Rattle.std.proofs.lemmas.Slice.Eq.{bytes_eq-Decides}
use Rattle.dv_model.specs.declared.types.Mark.{Mark}
use Rattle.dv_model.specs.declared.types.Reply.{Reply}
use Rattle.dv_model.specs.declared.types.Reply.TheVariants as reply
use Rattle.dv_model.specs.declared.types.Word.{Word}
use Rattle.dv_model.specs.declared.types.Word.TheVariants as word
use Rattle.dv_model.specs.Texts.{given_text, mark_text, modified_text, reply_text, with_commas, word_text}
use Rattle.dv_formats.specs.Parsing.{◌>>=◌, after, before, from, is_byte}
use Rattle.dv_formats.specs.Replies.{AreNumbers, IsGiven, IsPlace, IsReply}
use Rattle.dv_formats.proofs.Stops.{comma_words}
use Rattle.dv_commands.proofs.Base.{after_then, bind_some, parted, some_is}
use Rattle.dv_commands.proofs.Joined.{four, seven, six}
use Rattle.dv_commands.proofs.Words.{Stops}
use Rattle.dv_replies.specs.Reading.{bad_at, done_at, each_behind, given_at, gone_at, is_no_digit, message_at, modified_at, name_at, refused_at, word_at, word_of}
use Rattle.dv_replies.proofs.Marks.{mark_again, mark_then}
use Rattle.dv_replies.proofs.Steps.{each_again, each_takes, else_then, list_long, list_text, number_again, number_takes, number_then}

abbrev pub IsOf : List ℕ → Reply × List ℕ → Type 0
IsOf b y = IsReply y.0 × (b ≡ reply_text y.0 ++ y.1)

-- ---- a command's name

word_sound : (b : List ℕ) (w : Word) → word_of b ≡ Some w → b ≡ word_text w
word_sound b w e = by word.Select _ (by word.Noop _ (by word.Check _ (by word.Append _ (by word.Expunge _ (by word.Fetch _ (by word.Store _ (by word.Search _ (by word.UidFetch _ (by word.UidStore _ (by word.UidSearch _ (by word.UidRemove None (λ f. absurd cc)))))))))))) e
  where
    by : (v : Word) (other : Option Word) → (other ≡ Some w → b ≡ word_text w) → cond (bytes_eq b (word_text v)) (Some v) other ≡ Some w → b ≡ word_text w
    by v other next f = by_test (bytes_eq b (word_text v)) refl f
      where
        by_test : (t : Bool) → bytes_eq b (word_text v) ≡ t → cond t (Some v) other ≡ Some w → b ≡ word_text w
        by_test true is g = (bytes_eq-Decides b (word_text v)).0 is ∙ ap word_text (some_is v w g)
        by_test false is g = next g

name_takes : (b : List ℕ) (y : Word × List ℕ) → name_at b ≡ Some y → b ≡ word_text y.0 ++ y.1
name_takes b y e =
    let w = bind_some (word_of (before (is_byte 10) b)) (λ w. Some (w, from (is_byte 10) b)) y e in
    subst (λ (z : Word × List ℕ). b ≡ word_text z.0 ++ z.1) (some_is (w.0, from (is_byte 10) b) y w.2) (parted (is_byte 10) b ∙ ap (λ t. t ++ from (is_byte 10) b) (word_sound (before (is_byte 10) b) w.0 w.1))

name_again : (w : Word) (rest : List ℕ) → name_at (word_text w ++ 10 ∷ rest) ≡ Some (w, 10 ∷ rest)
name_again word.Select rest = refl
name_again word.Noop rest = refl
name_again word.Check rest = refl
name_again word.Append rest = refl
name_again word.Expunge rest = refl
name_again word.Fetch rest = refl
name_again word.Store rest = refl
name_again word.Search rest = refl
name_again word.UidFetch rest = refl
name_again word.UidStore rest = refl
name_again word.UidSearch rest = refl
name_again word.UidRemove rest = refl

-- ---- what was appended

abbrev GivenIs : List ℕ → Option (ℕ × ℕ) × List ℕ → Type 0
GivenIs b y = IsGiven y.0 × (b ≡ given_text y.0 ++ y.1)

given_whole : (m n : ℕ) (b c d e f rest : List ℕ) → b ≡ codes "[APPENDUID " ++ c → c ≡ decimal m ++ d → d ≡ codes " " ++ e → e ≡ decimal n ++ f → f ≡ codes "] " ++ rest
    → b ≡ given_text (Some (m, n)) ++ rest
given_whole m n b c d e f rest p q r s t = rw (p, q, r, s, t) (simp append_assoc)

given_takes : (b : List ℕ) (y : Option (ℕ × ℕ) × List ℕ) → given_at b ≡ Some y → GivenIs b y
unfolding given_at
given_takes b y e = else_then (codes "[APPENDUID ") b _ _ y e
    (λ c p e. number_then (2 ^ 32) c _ y e (λ m d few q e. after_then (codes " ") d _ y e (λ g r e. number_then (2 ^ 32) g _ y e (λ n h less s e. after_then (codes "] ") h _ y e (λ rest t e.
    subst (GivenIs b) (some_is (Some (m, n), rest) y e) ((few, less), given_whole m n b c d g h rest p q r s t))))))
    (λ e. subst (GivenIs b) (some_is (None, b) y e) (tt, refl))

given_again : (given : Option (ℕ × ℕ)) (rest : List ℕ) → IsGiven given → after (codes "[APPENDUID ") rest ≡ None → given_at (given_text given ++ rest) ≡ Some (given, rest)
unfolding given_at
given_again None rest is none = rw none refl
given_again (Some given) rest is none =
    let last = 93 ∷ 32 ∷ rest in
    let whole : given_text (Some given) ++ rest ≡ codes "[APPENDUID " ++ (decimal given.0 ++ 32 ∷ (decimal given.1 ++ last)) = simp append_assoc in
    ap given_at whole ∙ rw (number_again (2 ^ 32) given.0 (32 ∷ (decimal given.1 ++ last)) (omega arith) is.0 refl) (rw (number_again (2 ^ 32) given.1 last (omega arith) is.1 refl) refl)

-- ---- messages that were kept

abbrev ModifiedIs : List ℕ → List ℕ × List ℕ → Type 0
ModifiedIs b y = AreNumbers y.0 × (b ≡ modified_text y.0 ++ y.1)

modified_right : (n : ℕ) (ns : List ℕ) (rest : List ℕ)
    → modified_text (n ∷ ns) ++ rest ≡ codes "[MODIFIED " ++ (decimal n ++ (list_text decimal 44 ns ++ codes "] " ++ rest))
modified_right n ns rest =
    ap (λ t. codes "[MODIFIED " ++ t)
    (append_assoc (with_commas (n ∷ ns)) (93 ∷ 32 ∷ []) rest
    ∙ ap (λ t. t ++ 93 ∷ 32 ∷ rest) (comma_words n ns)
    ∙ append_assoc (decimal n) (list_text decimal 44 ns) (93 ∷ 32 ∷ rest)
    ∙ ap (λ t. decimal n ++ t) (sym (append_assoc (list_text decimal 44 ns) (93 ∷ 32 ∷ []) rest)))

modified_whole : (n : ℕ) (ns : List ℕ) (b c d e rest : List ℕ) → b ≡ codes "[MODIFIED " ++ c → c ≡ decimal n ++ d → d ≡ list_text decimal 44 ns ++ e → e ≡ codes "] " ++ rest
    → b ≡ modified_text (n ∷ ns) ++ rest
modified_whole n ns b c d e rest p q r s = rw (p, q, r, s, modified_right n ns rest) (simp append_assoc)

modified_takes : (b : List ℕ) (y : List ℕ × List ℕ) → modified_at b ≡ Some y → ModifiedIs b y
unfolding modified_at
modified_takes b y e = else_then (codes "[MODIFIED ") b _ _ y e
    (λ c p e. number_then (2 ^ 32) c _ y e (λ n d few q e.
    let all = bind_some (each_behind (codes ",") word_at (length d) (n ∷ []) d) (λ all. after (codes "] ") all.1 >>= λ rest. Some (all.0, rest)) y e in
    let is = each_takes decimal (λ k. k < 2 ^ 32) 44 word_at (number_takes (2 ^ 32)) (length d) (n ∷ []) d all.0 all.1 in
    after_then (codes "] ") all.0.1 _ y all.2 (λ rest s e.
    subst (ModifiedIs b) (ap (λ xs. (xs, rest)) (sym is.2) ∙ some_is (all.0.0, rest) y e) (All-cons (λ k. k < 2 ^ 32) n is.0 few is.1, modified_whole n is.0 b c d all.0.1 rest p q is.3 s))))
    (λ e. subst (ModifiedIs b) (some_is ([], b) y e) (All-nil (λ k. k < 2 ^ 32), refl))

modified_again : (ns : List ℕ) (rest : List ℕ) → AreNumbers ns → after (codes "[MODIFIED ") rest ≡ None → modified_at (modified_text ns ++ rest) ≡ Some (ns, rest)
unfolding modified_at
modified_again [] rest is none = rw none refl
modified_again (n ∷ ns) rest is none =
    let last = 93 ∷ 32 ∷ rest in
    let tail = list_text decimal 44 ns ++ last in
    let whole : modified_text (n ∷ ns) ++ rest ≡ codes "[MODIFIED " ++ (decimal n ++ tail) = modified_right n ns rest ∙ ap (λ t. codes "[MODIFIED " ++ (decimal n ++ t)) (append_assoc (list_text decimal 44 ns) (93 ∷ 32 ∷ []) rest) in
    let others = each_again decimal (λ k. k < 2 ^ 32) 44 (Stops is_no_digit) word_at (λ k t less stops. number_again (2 ^ 32) k t (omega arith) less stops) (λ t. refl)
    ns (n ∷ []) last (length tail) (All-tail (λ k. k < 2 ^ 32) n ns is) refl refl (list_long decimal 44 ns last (omega arith)) in
    ap modified_at whole ∙ rw (number_again (2 ^ 32) n tail (omega arith) (All-head (λ k. k < 2 ^ 32) n ns is) (stopped ns)) (rw others refl)
  where
    stopped : (ks : List ℕ) → Stops is_no_digit (list_text decimal 44 ks ++ 93 ∷ 32 ∷ rest)
    stopped [] = refl
    stopped (k ∷ ks) = refl

-- ---- OK

done_whole : (w : Word) (m : Mark) (given : Option (ℕ × ℕ)) (modified b c d e f g h rest : List ℕ) → b ≡ codes "OK " ++ c → c ≡ given_text given ++ d → d ≡ modified_text modified ++ e
    → e ≡ codes "[" ++ f → f ≡ mark_text m ++ g → g ≡ codes "] " ++ h → h ≡ word_text w ++ rest → b ≡ reply_text (reply.Done w m given modified) ++ rest
done_whole w m given modified b c d e f g h rest p q r s t u v = rw (p, q, r, s, t, u, v) (sym (seven (codes "OK ") (given_text given) (modified_text modified) (codes "[") (mark_text m) (codes "] ") (word_text w) rest))

pub done_takes : (b c : List ℕ) (y : Reply × List ℕ) → b ≡ codes "OK " ++ c → done_at c ≡ Some y → IsOf b y
unfolding done_at
done_takes b c y p e =
    let given = bind_some (given_at c) _ y e in
    let given_is = given_takes c given.0 given.1 in
    let modified = bind_some (modified_at given.0.1) _ y given.2 in
    let modified_is = modified_takes given.0.1 modified.0 modified.1 in
    after_then (codes "[") modified.0.1 _ y modified.2 (λ f s e. mark_then f _ y e (λ m g place t e. after_then (codes "] ") g _ y e (λ h u e.
    let w = bind_some (name_at h) (λ w. Some (reply.Done w.0 m given.0.0 modified.0.0, w.1)) y e in
    subst (IsOf b) (some_is (reply.Done w.0.0 m given.0.0 modified.0.0, w.0.1) y w.2)
    ((place, given_is.0, modified_is.0), done_whole w.0.0 m given.0.0 modified.0.0 b c given.0.1 modified.0.1 f g h w.0.1 p given_is.1 modified_is.1 s t u (name_takes h w.0 w.1)))))

pub done_again : (w : Word) (m : Mark) (given : Option (ℕ × ℕ)) (modified : List ℕ) (x : List ℕ) → IsReply (reply.Done w m given modified)
    → done_at (given_text given ++ (modified_text modified ++ 91 ∷ (mark_text m ++ 93 ∷ 32 ∷ (word_text w ++ 10 ∷ x)))) ≡ Some (reply.Done w m given modified, 10 ∷ x)
unfolding done_at
done_again w m given modified x is =
    let last = word_text w ++ 10 ∷ x in
    let marked = 91 ∷ (mark_text m ++ 93 ∷ 32 ∷ last) in
    rw (given_again given (modified_text modified ++ marked) is.1 (no_given modified)) (rw (modified_again modified marked is.2 refl) (rw (mark_again m (93 ∷ 32 ∷ last) is.0 refl) (rw (name_again w x) refl)))
  where
    no_given : (ns : List ℕ) → after (codes "[APPENDUID ") (modified_text ns ++ 91 ∷ (mark_text m ++ 93 ∷ 32 ∷ (word_text w ++ 10 ∷ x))) ≡ None
    no_given [] = refl
    no_given (n ∷ ns) = refl

-- ---- NO

abbrev MessageIs : List ℕ → (ℕ × Mark) × List ℕ → Type 0
MessageIs b y = (y.0.0 < 2 ^ 32) × IsPlace y.0.1 × (b ≡ codes "UID " ++ (decimal y.0.0 ++ 32 ∷ (mark_text y.0.1 ++ y.1)))

message_whole : (uid : ℕ) (m : Mark) (b c d e rest : List ℕ) → b ≡ codes "UID " ++ c → c ≡ decimal uid ++ d → d ≡ codes " " ++ e → e ≡ mark_text m ++ rest
    → b ≡ codes "UID " ++ (decimal uid ++ 32 ∷ (mark_text m ++ rest))
message_whole uid m b c d e rest p q r s = rw (p, q, r, s) refl

message_takes : (b : List ℕ) (y : (ℕ × Mark) × List ℕ) → message_at b ≡ Some y → MessageIs b y
unfolding message_at
message_takes b y e = after_then (codes "UID ") b _ y e (λ c p e. number_then (2 ^ 32) c _ y e (λ uid d less q e. after_then (codes " ") d _ y e (λ f r e. mark_then f _ y e (λ m rest place s e.
    subst (MessageIs b) (some_is ((uid, m), rest) y e) (less, place, message_whole uid m b c d f rest p q r s)))))

message_again : (uid : ℕ) (m : Mark) (x : List ℕ) → uid < 2 ^ 32 → IsPlace m → message_at (codes "UID " ++ (decimal uid ++ 32 ∷ (mark_text m ++ 10 ∷ x))) ≡ Some ((uid, m), 10 ∷ x)
unfolding message_at
message_again uid m x less place =
    rw (number_again (2 ^ 32) uid (32 ∷ (mark_text m ++ 10 ∷ x)) (omega arith) less refl) (rw (mark_again m (10 ∷ x) place refl) refl)

gone_whole : (uid : ℕ) (m : Mark) (modified b c d rest : List ℕ) → b ≡ codes "NO [EXPUNGEISSUED] " ++ c → c ≡ modified_text modified ++ d
    → d ≡ codes "UID " ++ (decimal uid ++ 32 ∷ (mark_text m ++ rest)) → b ≡ reply_text (reply.Gone uid m modified) ++ rest
gone_whole uid m modified b c d rest p q r = rw (p, q, r) (sym (six (codes "NO [EXPUNGEISSUED] ") (modified_text modified) (codes "UID ") (decimal uid) (codes " ") (mark_text m) rest))

damaged_whole : (uid : ℕ) (m : Mark) (b c rest : List ℕ) → b ≡ codes "NO [CORRUPTION] " ++ c → c ≡ codes "UID " ++ (decimal uid ++ 32 ∷ (mark_text m ++ rest))
    → b ≡ reply_text (reply.Damaged uid m) ++ rest
damaged_whole uid m b c rest p q = rw (p, q) (sym (four (codes "NO [CORRUPTION] UID ") (decimal uid) (codes " ") (mark_text m) rest))

gone_takes : (b c : List ℕ) (y : Reply × List ℕ) → b ≡ codes "NO [EXPUNGEISSUED] " ++ c → gone_at c ≡ Some y → IsOf b y
unfolding gone_at
gone_takes b c y p e =
    let modified = bind_some (modified_at c) _ y e in
    let modified_is = modified_takes c modified.0 modified.1 in
    let message = bind_some (message_at modified.0.1) (λ message. Some (reply.Gone message.0.0 message.0.1 modified.0.0, message.1)) y modified.2 in
    let is = message_takes modified.0.1 message.0 message.1 in
    subst (IsOf b) (some_is (reply.Gone message.0.0.0 message.0.0.1 modified.0.0, message.0.1) y message.2)
    ((is.0, is.1, modified_is.0), gone_whole message.0.0.0 message.0.0.1 modified.0.0 b c modified.0.1 message.0.1 p modified_is.1 is.2)

damaged_takes : (b c : List ℕ) (y : Reply × List ℕ) → b ≡ codes "NO [CORRUPTION] " ++ c → (message_at c >>= λ m. Some (reply.Damaged m.0.0 m.0.1, m.1)) ≡ Some y → IsOf b y
damaged_takes b c y p e =
    let message = bind_some (message_at c) (λ m. Some (reply.Damaged m.0.0 m.0.1, m.1)) y e in
    let is = message_takes c message.0 message.1 in
    subst (IsOf b) (some_is (reply.Damaged message.0.0.0 message.0.0.1, message.0.1) y message.2)
    ((is.0, is.1), damaged_whole message.0.0.0 message.0.0.1 b c message.0.1 p is.2)

-- a text in two parts
two : (front text b c d : List ℕ) → b ≡ front ++ c → c ≡ text ++ d → b ≡ (front ++ text) ++ d
two front text b c d p q = rw (p, q) (sym (append_assoc front text d))

-- a text and a number
numbered : (front b c rest : List ℕ) (n : ℕ) → b ≡ front ++ c → c ≡ decimal n ++ rest → b ≡ (front ++ decimal n) ++ rest
numbered front b c rest n p q = rw (p, q) (sym (append_assoc front (decimal n) rest))

pub refused_takes : (b c : List ℕ) (y : Reply × List ℕ) → b ≡ codes "NO " ++ c → refused_at c ≡ Some y → IsOf b y
unfolding refused_at
refused_takes b c y p e =
    else_then (codes "[EXPUNGEISSUED] ") c _ _ y e (λ d q f. gone_takes b d y (two (codes "NO ") (codes "[EXPUNGEISSUED] ") b c d p q) f)
    (λ e. else_then (codes "[CORRUPTION] ") c _ _ y e (λ d q f. damaged_takes b d y (two (codes "NO ") (codes "[CORRUPTION] ") b c d p q) f)
    (λ e. else_then (codes "[UNAVAILABLE] FAULTS ") c _ _ y e (λ d q f. number_then (2 ^ 64) d _ y f (λ n rest less r g.
    subst (IsOf b) (some_is (reply.Unavailable n, rest) y g) (less, numbered (codes "NO [UNAVAILABLE] FAULTS ") b d rest n (two (codes "NO ") (codes "[UNAVAILABLE] FAULTS ") b c d p q) r)))
    (λ e. else_then (codes "[LIMIT] UIDS") c _ _ y e (λ d q f. subst (IsOf b) (some_is (reply.UidsUsedUp, d) y f) (tt, two (codes "NO ") (codes "[LIMIT] UIDS") b c d p q))
    (λ e. else_then (codes "[LIMIT] BYTES ") c _ _ y e (λ d q f. number_then (2 ^ 64) d _ y f (λ n rest less r g.
    subst (IsOf b) (some_is (reply.TooLong n, rest) y g) (less, numbered (codes "NO [LIMIT] BYTES ") b d rest n (two (codes "NO ") (codes "[LIMIT] BYTES ") b c d p q) r)))
    (λ e. absurd cc)))))

pub gone_again : (uid : ℕ) (m : Mark) (modified x : List ℕ) → IsReply (reply.Gone uid m modified)
    → refused_at (codes "[EXPUNGEISSUED] " ++ (modified_text modified ++ (codes "UID " ++ (decimal uid ++ 32 ∷ (mark_text m ++ 10 ∷ x))))) ≡ Some (reply.Gone uid m modified, 10 ∷ x)
unfolding refused_at gone_at
gone_again uid m modified x is =
    let message = codes "UID " ++ (decimal uid ++ 32 ∷ (mark_text m ++ 10 ∷ x)) in
    rw (modified_again modified message is.2 refl) (rw (message_again uid m x is.0 is.1) refl)

pub damaged_again : (uid : ℕ) (m : Mark) (x : List ℕ) → IsReply (reply.Damaged uid m)
    → refused_at (codes "[CORRUPTION] " ++ (codes "UID " ++ (decimal uid ++ 32 ∷ (mark_text m ++ 10 ∷ x)))) ≡ Some (reply.Damaged uid m, 10 ∷ x)
unfolding refused_at
damaged_again uid m x is = rw (message_again uid m x is.0 is.1) refl

pub unavailable_again : (n : ℕ) (x : List ℕ) → n < 2 ^ 64 → refused_at (codes "[UNAVAILABLE] FAULTS " ++ (decimal n ++ 10 ∷ x)) ≡ Some (reply.Unavailable n, 10 ∷ x)
unfolding refused_at
unavailable_again n x less = rw (number_again (2 ^ 64) n (10 ∷ x) (omega arith) less refl) refl

pub too_long_again : (n : ℕ) (x : List ℕ) → n < 2 ^ 64 → refused_at (codes "[LIMIT] BYTES " ++ (decimal n ++ 10 ∷ x)) ≡ Some (reply.TooLong n, 10 ∷ x)
unfolding refused_at
too_long_again n x less = rw (number_again (2 ^ 64) n (10 ∷ x) (omega arith) less refl) refl

-- ---- BAD

pub bad_takes : (b c : List ℕ) (y : Reply × List ℕ) → b ≡ codes "BAD " ++ c → bad_at c ≡ Some y → IsOf b y
unfolding bad_at
bad_takes b c y p e =
    else_then (codes "NOT SELECTED") c _ _ y e (λ d q f. subst (IsOf b) (some_is (reply.NotSelected, d) y f) (tt, two (codes "BAD ") (codes "NOT SELECTED") b c d p q))
    (λ e. else_then (codes "NO MESSAGE ") c _ _ y e (λ d q f. number_then (2 ^ 32) d _ y f (λ n rest less r g.
    subst (IsOf b) (some_is (reply.NoMessage n, rest) y g) (less, numbered (codes "BAD NO MESSAGE ") b d rest n (two (codes "BAD ") (codes "NO MESSAGE ") b c d p q) r)))
    (λ e. absurd cc))

pub no_message_again : (n : ℕ) (x : List ℕ) → n < 2 ^ 32 → bad_at (codes "NO MESSAGE " ++ (decimal n ++ 10 ∷ x)) ≡ Some (reply.NoMessage n, 10 ∷ x)
unfolding bad_at
no_message_again n x less = rw (number_again (2 ^ 32) n (10 ∷ x) (omega arith) less refl) refl
