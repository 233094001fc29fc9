-- A session is given one line more.
use Rattle.std.proofs.Common.{◌≡◌, ◌⊎◌, ℕ, Bool, true, false, List, [], ◌∷◌, ◌++◌, refl, sym, ap, subst, ◌∙◌, append_assoc, append-nil}
use Rattle.std.specs.Prelude.{Err, Ok, if◌then◌else◌}
use Rattle.dv_model.specs.Journals.{Log}
use Rattle.dv_shelf.specs.Streams.{Appends, AppendsFront}
use Rattle.dv_serving.specs.Outputs.{Output, output_with}
use Rattle.dv_texts.proofs.Joined.{front_behind}
use Rattle.dv_maildrop.specs.declared.types.PopLine.{PopLine}
use Rattle.dv_maildrop.specs.Answers.{Store, answer, answers}
use Rattle.dv_maildrop.specs.Maildrops.{Transaction, asked, behind}
use Rattle.dv_pop3.specs.declared.lines.LinesEnd.{LinesEnd}
use Rattle.dv_pop3.specs.declared.lines.LinesEnd.TheVariants as ending
use Rattle.dv_pop3.specs.Clients.{Client, IsLater}
use Rattle.dv_pop3.specs.Exchanges.{AreAnswered, Exchange, HasAnsweredLines, TakesLine, WritesAnswers, asks_of, client_behind, lines_of}
use Rattle.dv_pop3.specs.Findings.{Says}

-- so far: a front of the lines was answered, and all of the answers written
pub record Goes (start : Log) (count : ℕ) (p q : Client) (lines rest : List PopLine) (out : Output) : Type 0 where
  pub exchanges : List Exchange
  pub answered : AreAnswered start count p exchanges q
  pub lines_are : lines ≡ lines_of exchanges ++ rest
  pub output : out.told → Appends out.taken out.taken_now (answers p.maildrop (asks_of exchanges))

pub goes_first : (start : Log) (count : ℕ) (p : Client) (lines : List PopLine) (told : Type 0) (taken : List ℕ) → Goes start count p p lines lines (output_with told taken taken)
goes_first start count p lines told taken = record { exchanges = []; answered = refl; lines_are = refl; output = λ t. sym (append-nil taken) }

module _ (start : Log) (count : ℕ) where
  -- a session that goes on hadn't ended before
  open_before : (p : Client) (xs : List Exchange) (q : Client) → AreAnswered start count p xs q → q.maildrop.ended ≡ false → p.maildrop.ended ≡ false
  open_before p [] q is open_ = ap (λ (c : Client). c.maildrop.ended) (sym is) ∙ open_
  open_before p (x ∷ xs) q is open_ = is.0

  answered_more : (p : Client) (xs : List Exchange) (q : Client) (x : Exchange) → AreAnswered start count p xs q → q.maildrop.ended ≡ false → Says start count q.maildrop x.store (asked q.maildrop x.line) q.session x.behind → IsLater q.session x.behind
      → AreAnswered start count p (xs ++ x ∷ []) (client_behind q x)
  answered_more p [] q x is open_ says later = subst (λ (c : Client). AreAnswered start count c (x ∷ []) (client_behind q x)) is (open_, says, later, refl)
  answered_more p (y ∷ xs) q x is open_ says later = (is.0, is.1, is.2, answered_more (client_behind p y) xs q x is.3 open_ says later)

  none_more : (b : Bool) (text : List ℕ) → text ++ (if b then [] else []) ≡ text
  none_more true text = append-nil text
  none_more false text = append-nil text

  answers_more : (p : Client) (xs : List Exchange) (q : Client) (x : Exchange) → AreAnswered start count p xs q → q.maildrop.ended ≡ false → answers p.maildrop (asks_of (xs ++ x ∷ [])) ≡ answers p.maildrop (asks_of xs) ++ answer x.store q.maildrop x.line
  answers_more p [] q x is open_ =
      none_more (behind p.maildrop x.line).ended (answer x.store p.maildrop x.line) ∙ ap (λ (c : Client). answer x.store c.maildrop x.line) (sym is)
  answers_more p (y ∷ xs) q x is open_ =
      let m : Transaction = behind p.maildrop y.line in
      let next : m.ended ≡ false = open_before (client_behind p y) xs q is.3 open_ in
      let first : List ℕ = answer y.store p.maildrop y.line in
      ap (λ (b : Bool). first ++ (if b then [] else answers m (asks_of (xs ++ x ∷ [])))) next
      ∙ ap (λ (l : List ℕ). first ++ l) (answers_more (client_behind p y) xs q x is.3 open_)
      ∙ sym (append_assoc first (answers m (asks_of xs)) (answer x.store q.maildrop x.line))
      ∙ ap (λ (b : Bool). (first ++ (if b then [] else answers m (asks_of xs))) ++ answer x.store q.maildrop x.line) (sym next)

  lines_more : (xs : List Exchange) (x : Exchange) (rest : List PopLine) → lines_of xs ++ x.line ∷ rest ≡ lines_of (xs ++ x ∷ []) ++ rest
  lines_more [] x rest = refl
  lines_more (y ∷ xs) x rest = ap (λ (l : List PopLine). y.line ∷ l) (lines_more xs x rest)

  module _ (p q : Client) (lines : List PopLine) (line : PopLine) (rest : List PopLine) (told : Type 0) (taken before now : List ℕ) (goes : Goes start count p q lines (line ∷ rest) (output_with told taken before)) (open_ : q.maildrop.ended ≡ false) where
    abbrev xs : List Exchange
    xs = goes.exchanges

    -- with one line more, whose answer was made
    module _ (q' : Client) (store : Store) (says : Says start count q.maildrop store (asked q.maildrop line) q.session q'.session) (later : IsLater q.session q'.session) (behind_is : q'.maildrop ≡ behind q.maildrop line) where
      abbrev x : Exchange
      x = record { line = line; store = store; behind = q'.session }

      now_is : client_behind q x ≡ q'
      now_is = ap (λ (m : Transaction). record { maildrop = m; session = q'.session }) (sym behind_is)

      answered : AreAnswered start count p (xs ++ x ∷ []) q'
      answered = subst (AreAnswered start count p (xs ++ x ∷ [])) now_is (answered_more p xs q x goes.answered open_ says later)

      lines_are : lines ≡ lines_of (xs ++ x ∷ []) ++ rest
      lines_are = goes.lines_are ∙ lines_more xs x rest

      texts : answers p.maildrop (asks_of (xs ++ x ∷ [])) ≡ answers p.maildrop (asks_of xs) ++ answer store q.maildrop line
      texts = answers_more p xs q x goes.answered open_

      goes_on : (told → Appends before now (answer store q.maildrop line)) → Goes start count p q' lines rest (output_with told taken now)
      goes_on wrote = record {
        exchanges = xs ++ x ∷ [];
        answered = answered;
        lines_are = lines_are;
        output = λ t.
            wrote t
            ∙ ap (λ (l : List ℕ). l ++ answer store q.maildrop line) (goes.output t)
            ∙ append_assoc taken (answers p.maildrop (asks_of xs)) (answer store q.maildrop line)
            ∙ ap (λ (l : List ℕ). taken ++ l) (sym texts);
      }

      ends_failed : (faults : ℕ) → (told → AppendsFront before now (answer store q.maildrop line)) → HasAnsweredLines start count [] p q' lines (ending.Sink faults) (output_with told taken now)
      ends_failed faults wrote = record {
        answers_lines = record { exchanges = xs ++ x ∷ []; last = q'; answered = answered; rest = rest; lines_are = lines_are; ends = refl };
        output = λ t. subst (AppendsFront taken now) (sym texts) (front_behind taken (answers p.maildrop (asks_of xs)) (answer store q.maildrop line) before now (goes.output t) (wrote t));
      }

    pub goes_more : (q' : Client) (done : Unit {0}) → IsLater q.session q'.session → TakesLine start count line q q' (Ok done) (output_with told before now) → Goes start count p q' lines rest (output_with told taken now)
    goes_more q' done later (store, says, is, wrote) = goes_on q' store says later is wrote

    -- or it ends there
    pub ends_at : (q' : Client) (e : LinesEnd) → IsLater q.session q'.session → TakesLine start count line q q' (Err e) (output_with told before now) → HasAnsweredLines start count [] p q' lines e (output_with told taken now)
    ends_at q' ending.Answered later takes = absurd takes
    ends_at q' ending.NoMemory later takes = record {
      answers_lines = record { exchanges = xs; last = q; answered = goes.answered; rest = line ∷ rest; lines_are = goes.lines_are; ends = (line, rest, refl, open_, takes.0, takes.1, later) };
      output = λ t. takes.2 t ∙ goes.output t;
    }
    ends_at q' (ending.Sink faults) later (store, says, is, wrote) = ends_failed q' store says later is faults wrote

  -- behind the last line, or QUIT
  pub ends_answered : (p q : Client) (lines rest : List PopLine) (out : Output) → Goes start count p q lines rest out → (q.maildrop.ended ≡ true) ⊎ (rest ≡ []) → HasAnsweredLines start count [] p q lines ending.Answered out
  ends_answered p q lines rest out goes none = record {
    answers_lines = record { exchanges = goes.exchanges; last = q; answered = goes.answered; rest = rest; lines_are = goes.lines_are; ends = (refl, none) };
    output = goes.output;
  }

  -- ---- behind the greeting

  writes_behind : (e : LinesEnd) (taken text mid now more : List ℕ) → mid ≡ taken ++ text → WritesAnswers e more mid now → WritesAnswers e (text ++ more) taken now
  writes_behind ending.Answered taken text mid now more is wrote = wrote ∙ ap (λ (l : List ℕ). l ++ more) is ∙ append_assoc taken text more
  writes_behind ending.NoMemory taken text mid now more is wrote = wrote ∙ ap (λ (l : List ℕ). l ++ more) is ∙ append_assoc taken text more
  writes_behind (ending.Sink faults) taken text mid now more is wrote = front_behind taken text more mid now is wrote

  pub lines_behind : (text : List ℕ) (p q : Client) (lines : List PopLine) (e : LinesEnd) (told : Type 0) (taken mid now : List ℕ) → (told → mid ≡ taken ++ text)
      → HasAnsweredLines start count [] p q lines e (output_with told mid now) → HasAnsweredLines start count text p q lines e (output_with told taken now)
  lines_behind text p q lines e told taken mid now is has = record {
    answers_lines = has.answers_lines;
    output = λ t. writes_behind e taken text mid now (answers p.maildrop (asks_of has.answers_lines.exchanges)) (is t) (has.output t);
  }

  -- the greeting itself failed
  pub greeting_failed : (text : List ℕ) (p : Client) (lines : List PopLine) (faults : ℕ) (told : Type 0) (taken now : List ℕ) → (told → AppendsFront taken now text) → HasAnsweredLines start count text p p lines (ending.Sink faults) (output_with told taken now)
  greeting_failed text p lines faults told taken now wrote = record {
    answers_lines = record { exchanges = []; last = p; answered = refl; rest = lines; lines_are = refl; ends = refl };
    output = λ t. subst (AppendsFront taken now) (sym (append-nil text)) (wrote t);
  }
