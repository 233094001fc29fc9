-- The line of a reply is read where it begins the bytes, and nowhere else.
use Rattle.std.proofs.Common.{◌≡◌, ℕ, ◌-◌, ◌≤◌, List, ◌∷◌, ◌++◌, length, Some, Result, Ok, Err, IfOk, codes, refl, sym, ◌∙◌, ap, subst, arith, append_assoc}
use Rattle.std.proofs.lemmas.List.{length-append}
use Rattle.dv_model.specs.declared.types.Reply.{Reply}
use Rattle.dv_model.specs.Texts.{line_text, reply_text}
use Rattle.dv_formats.specs.Parsing.{◌>>=◌, after, session_at}
use Rattle.dv_formats.specs.Replies.{IsReply}
use Rattle.dv_formats.specs.Scripts.{IsSession}
use Rattle.dv_sets.specs.Answers.{Answers, OnBad}
use Rattle.dv_sets.specs.declared.end.ParseEnd.{ParseEnd}
use Rattle.dv_sets.specs.declared.end.ParseEnd.TheVariants.{Bad, NoMemory}
use Rattle.dv_commands.specs.Reads.{Gives}
use Rattle.dv_commands.proofs.Base.{after_then, bind_some, some_is}
use Rattle.dv_grammar.proofs.NamedLines.{session_here, session_takes}
use Rattle.dv_replies.specs.Lines.{Begins}
use Rattle.dv_replies.specs.Reading.{line_at, reply_at, reply_of}
use Rattle.dv_replies.proofs.Replies.{reply_again, reply_takes}

-- ---- lines

abbrev Line : Type 0
Line = List ℕ × Reply × List ℕ

abbrev pub LineIs : List ℕ → Line → Type 0
LineIs b y = IsSession y.0 × IsReply y.1 × (b ≡ line_text y.0 y.1 ++ y.2)

line_whole : (session : List ℕ) (r : Reply) (b c d e rest : List ℕ) → b ≡ session ++ c → c ≡ codes " " ++ d → d ≡ reply_text r ++ e → e ≡ codes "\n" ++ rest
    → b ≡ line_text session r ++ rest
line_whole session r b c d e rest p q s t = rw (p, q, s, t) (simp append_assoc)

pub line_takes : (b : List ℕ) (y : Line) → line_at b ≡ Some y → LineIs b y
unfolding line_at
line_takes b y e =
    let session = bind_some (session_at b) _ y e in
    let is = session_takes b session.0 session.1 in
    let r = bind_some (reply_at session.0.1) (λ r. after (codes "\n") r.1 >>= λ rest. Some (session.0.0, r.0, rest)) y session.2 in
    let reply_is = reply_takes session.0.1 r.0 r.1 in
    after_then (codes "\n") r.0.1 _ y r.2 (λ rest t f.
    subst (LineIs b) (some_is (session.0.0, r.0.0, rest) y f) (is.0, reply_is.0, line_whole session.0.0 r.0.0 b (32 ∷ session.0.1) session.0.1 r.0.1 rest is.1 refl reply_is.1 t))

pub line_within : (b session rest : List ℕ) (r : Reply) → line_at b ≡ Some (session, r, rest) → length rest ≤ length b
line_within b session rest r e = omega (arith, ap length (line_takes b (session, r, rest) e).2, length-append (line_text session r) rest)

pub line_again : (session : List ℕ) (r : Reply) (rest : List ℕ) → IsSession session → IsReply r → line_at (line_text session r ++ rest) ≡ Some (session, r, rest)
unfolding line_at
line_again session r rest named bounded =
    let whole : line_text session r ++ rest ≡ session ++ 32 ∷ (reply_text r ++ 10 ∷ rest) = simp append_assoc in
    ap line_at whole ∙ rw (session_here session (reply_text r ++ 10 ∷ rest) named) (rw (reply_again r rest bounded) refl)

-- ---- the number of its bytes

abbrev Sized : Type 0
Sized = List ℕ × Reply × ℕ

sized : (b : List ℕ) (x : Sized) → reply_of b ≡ Some x → Begins x.0 x.1 x.2 b
sized b x e =
    let line = bind_some (line_at b) (λ y. Some (y.0, y.1, length b - length y.2)) x e in
    let is = line_takes b line.0 line.1 in
    let text = line_text line.0.0 line.0.1 in
    let size : length b - length line.0.2 ≡ length text = omega (arith, ap length is.2, length-append text line.0.2) in
    subst (λ (z : Sized). Begins z.0 z.1 z.2 b) (some_is (line.0.0, line.0.1, length b - length line.0.2) x line.2)
    (record { line = text; rest = line.0.2; is = record { named = is.0; bounded = is.1; text = refl }; text = is.2; sized = size })

again : (session : List ℕ) (r : Reply) (size : ℕ) (b : List ℕ) → Begins session r size b → reply_of b ≡ Some (session, r, size)
again session r size b is =
    let text = line_text session r in
    let whole : b ≡ text ++ is.rest = is.text ∙ ap (λ t. t ++ is.rest) is.is.text in
    let read : line_at b ≡ Some (session, r, is.rest) = ap line_at whole ∙ line_again session r is.rest is.is.named is.is.bounded in
    let bytes : length b - length is.rest ≡ size = omega (arith, ap length whole, length-append text is.rest, is.sized, ap length is.is.text) in
    rw read (ap (λ n. Some (session, r, n)) bytes)

-- ---- what is answered

pub found : (b : List ℕ) (r : Result Sized ParseEnd) → Gives (λ x. x) r (reply_of b) → IfOk r (λ x. Begins x.0 x.1 x.2 b)
found b (Ok x) gives = sized b x gives
found b (Err e) gives = tt

pub only : (b : List ℕ) (r : Result Sized ParseEnd) → Gives (λ x. x) r (reply_of b)
    → (session : List ℕ) (one : Reply) (size : ℕ) → Begins session one size b → Answers r (Ok (session, one, size))
only b (Ok x) gives session one size is = ap Ok (some_is x (session, one, size) (sym gives ∙ again session one size b is))
only b (Err NoMemory) gives session one size is = tt
only b (Err Bad) gives session one size is = absurd (let same = sym gives ∙ again session one size b is in cc)

pub bad : (b : List ℕ) (r : Result Sized ParseEnd) → Gives (λ x. x) r (reply_of b)
    → OnBad r ((session : List ℕ) (one : Reply) (size : ℕ) → Begins session one size b → ⊥)
bad b (Ok x) gives = tt
bad b (Err NoMemory) gives = tt
bad b (Err Bad) gives = λ session one size is. let same = sym gives ∙ again session one size b is in cc

pub every : (b : List ℕ) (r : Result Sized ParseEnd) → Gives (λ x. x) r (reply_of b)
    → ((session : List ℕ) (one : Reply) (size : ℕ) → Begins session one size b → ⊥) → Answers r (Err Bad)
every b (Ok x) gives none = absurd (none x.0 x.1 x.2 (sized b x gives))
every b (Err NoMemory) gives none = tt
every b (Err Bad) gives none = refl
