-- A session's transcript goes on by one command, and stays one where others write.
use Rattle.std.proofs.Common.{◌≡◌, ◌⊎◌, inl, inr, ℕ, zero, suc, ◌+◌, ◌≤◌, List, [], ◌∷◌, ◌++◌, length, Some, None, refl, sym, ◌∙◌, ap, subst, arith, length-append}
use Rattle.std.specs.Prelude.{All, Any, slice_get, take, drop}
use Rattle.std.proofs.lemmas.List.{length_push, map_push, get_or_append_left}
use Rattle.std.proofs.lemmas.List.Elements.{All-head, All-tail, All-push, All-weaker}
use Rattle.std.proofs.lemmas.List.Quantifiers.{Any-push}
use Rattle.std.proofs.lemmas.Option.{slice_get_within}
use Rattle.dv_model.specs.declared.types.Command.{Command}
use Rattle.dv_model.specs.declared.types.Entry.{Entry}
use Rattle.dv_model.specs.declared.types.Group.{Group}
use Rattle.dv_model.specs.declared.types.Mailbox.{Mailbox}
use Rattle.dv_model.specs.declared.types.Reply.{Reply}
use Rattle.dv_model.specs.Journals.{Log, IsSound, at}
use Rattle.dv_model.specs.Laws.{IsNext, with_group}
use Rattle.dv_model.specs.Sessions.{State, new_session}
use Rattle.dv_model.specs.Transcripts.{Turn, HasLeft, IsTurn, LeadsTo, WroteEntry, IsOwn, IsLeft, IsNextLeft, AreWritten, AreWrittenBut, Speaks, Spoken}
use Rattle.dv_model.specs.Views.{View}
use Rattle.dv_model.proofs.Transcripts.{grown, at_grown, answered_grown, same_refusal, written_grown}

-- ---- entries of a longer log

pub stays_there : {X : Type 0} (xs more : List X) (k : ℕ) (x : X) → slice_get xs k ≡ Some x → slice_get (xs ++ more) k ≡ Some x
stays_there [] more zero x is = absurd cc
stays_there [] more (suc k) x is = absurd cc
stays_there (y ∷ xs) more zero x is = is
stays_there (y ∷ xs) more (suc k) x is = stays_there xs more k x is

pub one_of : {X : Type 0} (P : X → Type 0) (xs : List X) (k : ℕ) (x : X) → All P xs → slice_get xs k ≡ Some x → P x
one_of P [] k x all is = absurd cc
one_of P (y ∷ xs) zero x all is = let e : y ≡ x = cc in subst P e (All-head P y xs all)
one_of P (y ∷ xs) (suc k) x all is = one_of P xs k x (All-tail P y xs all) is

-- an item of both lists is one of the first or one of the second
pub one_of_either : {X : Type 0} (P : X → Type 0) (xs more : List X) (k : ℕ) (x : X) → All P more → slice_get (xs ++ more) k ≡ Some x → (slice_get xs k ≡ Some x) ⊎ P x
one_of_either P [] more k x all is = inr (one_of P more k x all is)
one_of_either P (y ∷ xs) more zero x all is = inl is
one_of_either P (y ∷ xs) more (suc k) x all is = one_of_either P xs more k x all is

-- an item of a list with one more is one of the list, or the last
pub one_or_last : {X : Type 0} (xs : List X) (last : X) (k : ℕ) (x : X) → slice_get (xs ++ last ∷ []) k ≡ Some x → (slice_get xs k ≡ Some x) ⊎ (k ≡ length xs)
one_or_last [] last zero x is = inr refl
one_or_last [] last (suc k) x is = absurd cc
one_or_last (y ∷ xs) last zero x is = inl is
one_or_last (y ∷ xs) last (suc k) x is = elim (one_or_last xs last k x is) [ inl there ↦ inl there | inr e ↦ inr (ap suc e) ]

-- ---- where others write

-- the author wrote none of these
abbrev pub AreOthers : ℕ → List Entry → Type 0
AreOthers author more = All (λ e. e.author ≡ author → ⊥) more

module _ (log : Log) (more : List Entry) where
  pub turn_grown : (base author : ℕ) (t : Turn) → IsTurn log base author t → IsTurn (grown log more) base author t
  turn_grown base author t h = record {
    met = (h.met.0, omega (arith, h.met.1, length-append log.entries more));
    answered = answered_grown log more base author t.met t.behind t.before t.command t.replies t.after h.met.1 h.answered;
  }

  abbrev pub speaks_grown : (base author : ℕ) (commands : List Command) (replies : List (List Reply)) → Speaks log base author commands replies → Speaks (grown log more) base author commands replies
  speaks_grown base author commands replies s = record {
    start = s.start;
    there = omega (arith, s.there, length-append log.entries more);
    turns = s.turns;
    each = All-weaker (IsTurn log base author) (IsTurn (grown log more) base author) (turn_grown base author) s.turns s.each;
    state = s.state;
    leads = s.leads;
    replied = s.replied;
    sent = s.sent;
  }

  module _ (author : ℕ) (others : AreOthers author more) where
    pub own_before : (start k : ℕ) → IsOwn (grown log more) author start k → IsOwn log author start k
    own_before start k own =
        elim (one_of_either (λ (e : Entry). e.author ≡ author → ⊥) log.entries more k own.entry others own.is) [
          | inl there ↦ record { later = own.later; entry = own.entry; is = there; by = own.by }
          | inr other ↦ absurd (other own.by)
        ]

    pub has_left_grown : (k : ℕ) (x : State) (c : Command) → HasLeft log author k x c → HasLeft (grown log more) author k x c
    has_left_grown k x c left =
        let below : k ≤ length log.entries = omega (arith, slice_get_within log.entries k _ left.written.entry) in
        record {
          mailbox = left.mailbox;
          met = at_grown log more k below ∙ left.met;
          told = left.told;
          write = left.write;
          allowed = same_refusal log more k x c below left.mailbox None left.allowed;
          written = written_grown log more author k (k + 1) x.view c left.mailbox left.written;
        }

    pub next_grown : (k : ℕ) (x : State) (commands : List Command) → IsNextLeft log author k x commands → IsNextLeft (grown log more) author k x commands
    next_grown k x [] left = left
    next_grown k x (c ∷ commands) left = record {
      left = has_left_grown k x c left.left;
      last = λ j own. left.last j (own_before k j own);
    }

    -- a transcript is one of a longer log, where the session wrote nothing more
    abbrev pub spoken_grown : (base : ℕ) (commands : List Command) (replies : List (List Reply)) → IsSound (grown log more) → Spoken log base author commands replies → Spoken (grown log more) base author commands replies
    spoken_grown base commands replies sound s = record {
      sound = sound;
      speaks = speaks_grown base author commands replies s.speaks;
      entries = elim s.entries [
        | inl written ↦ inl (λ k own. written k (own_before s.speaks.start k own))
        | inr left ↦ inr (left.0, next_grown left.0 s.speaks.state (drop (length replies) commands) left.1, λ k own. left.2 k (own_before s.speaks.start k own))
      ];
    }

-- ---- one command more

pub any_before : {X : Type 0} (P : X → Type 0) (xs : List X) (y : X) → Any P xs → Any P (xs ++ y ∷ [])
any_before P xs y a = (a.0, a.1, omega (arith, a.2, length_push xs y), get_or_append_left xs (y ∷ []) a.1 a.0 a.2 ∙ a.3, a.4)

pub leads_push : (x : State) (turns : List Turn) (y : State) (t : Turn) → LeadsTo x turns y → t.before ≡ y → LeadsTo x (turns ++ t ∷ []) t.after
leads_push x [] y t leads is = (is ∙ leads, refl)
leads_push x (u ∷ turns) y t leads is = (leads.0, leads_push u.after turns y t leads.1 is)

pub take_next : {X : Type 0} (n : ℕ) (xs : List X) (x : X) (rest : List X) → drop n xs ≡ x ∷ rest → take (suc n) xs ≡ take n xs ++ x ∷ []
take_next zero [] x rest is = absurd cc
take_next zero (y ∷ xs) x rest is = cc
take_next (suc n) [] x rest is = absurd cc
take_next (suc n) (y ∷ xs) x rest is = ap (λ zs. y ∷ zs) (take_next n xs x rest is)

pub drop_next : {X : Type 0} (n : ℕ) (xs : List X) (x : X) (rest : List X) → drop n xs ≡ x ∷ rest → drop (suc n) xs ≡ rest
drop_next zero [] x rest is = absurd cc
drop_next zero (y ∷ xs) x rest is = cc
drop_next (suc n) [] x rest is = absurd cc
drop_next (suc n) (y ∷ xs) x rest is = drop_next n xs x rest is

module _ (log : Log) (base author : ℕ) (commands : List Command) (replies : List (List Reply)) where
  abbrev pub speaks_on : (s : Speaks log base author commands replies) (t : Turn) → IsNext s t → Speaks log base author commands (replies ++ t.replies ∷ [])
  speaks_on s t n =
      let same_length : suc (length replies) ≡ length (replies ++ t.replies ∷ []) = omega (arith, length_push replies t.replies) in
      record {
        start = s.start;
        there = s.there;
        turns = s.turns ++ t ∷ [];
        each = All-push (IsTurn log base author) s.turns t s.each n.turn;
        state = t.after;
        leads = leads_push (record new_session { told = s.start }) s.turns s.state t s.leads n.state;
        replied = map_push (λ (u : Turn). u.replies) s.turns t ∙ ap (λ rs. rs ++ t.replies ∷ []) s.replied;
        sent =
            map_push (λ (u : Turn). u.command) s.turns t
            ∙ ap (λ cs. cs ++ t.command ∷ []) s.sent
            ∙ sym (take_next (length replies) commands t.command n.rest n.next)
            ∙ ap (λ k. take k commands) same_length;
      }

  pub written_before : (turns : List Turn) (t : Turn) (k : ℕ) → WroteEntry turns k → WroteEntry (turns ++ t ∷ []) k
  written_before turns t k written = any_before (λ u. (u.met ≡ k) × (u.behind ≡ k + 1)) turns t written

  -- it wrote nothing
  abbrev pub spoken_on : (s : Speaks log base author commands replies) (t : Turn) → IsSound log → IsNext s t → AreWritten log author s.start s.turns → Spoken log base author commands (replies ++ t.replies ∷ [])
  spoken_on s t sound n written = record {
    sound = sound;
    speaks = speaks_on s t n;
    entries = inl (λ k own. written_before s.turns t k (written k own));
  }

  -- it wrote the entry that was left
  abbrev pub spoken_on_writing : (s : Speaks log base author commands replies) (t : Turn) → IsSound log → IsNext s t → t.behind ≡ t.met + 1 → AreWrittenBut log author s.start s.turns t.met
      → Spoken log base author commands (replies ++ t.replies ∷ [])
  spoken_on_writing s t sound n wrote but = record {
    sound = sound;
    speaks = speaks_on s t n;
    entries = inl (λ k own. elim (but k own) [
      | inl there ↦ written_before s.turns t k there
      | inr last ↦ Any-push (λ u. (u.met ≡ k) × (u.behind ≡ k + 1)) s.turns t (sym last, wrote ∙ ap (λ j. j + 1) (sym last))
    ]);
  }

  -- its entry stands in the log, and it isn't answered yet
  abbrev pub spoken_left : (s : Speaks log base author commands replies) (c : Command) (rest : List Command) (g : Group)
      → AreWritten log author s.start s.turns
      → drop (length replies) commands ≡ c ∷ rest
      → IsSound (with_group log author g)
      → HasLeft (with_group log author g) author (length log.entries) s.state c
      → Spoken (with_group log author g) base author commands replies
  spoken_left s c rest g written next sound left =
      let e : Entry = record { author = author; group = g } in
      record {
        sound = sound;
        speaks = speaks_grown log (e ∷ []) base author commands replies s;
        entries = inr (
          length log.entries,
          subst (λ cs. IsNextLeft (grown log (e ∷ [])) author (length log.entries) s.state cs) (sym next) (record {
            left = left;
            last = λ j own. last_one log.entries e j own.entry own.is own.later;
          }),
          λ k own. elim (one_or_last log.entries e k own.entry own.is) [
            | inl there ↦ inl (written k (record { later = own.later; entry = own.entry; is = there; by = own.by }))
            | inr end ↦ inr end
          ],
        );
      }
    where
      last_one : (es : List Entry) (e : Entry) (j : ℕ) (x : Entry) → slice_get (es ++ e ∷ []) j ≡ Some x → length es ≤ j → j ≡ length es
      last_one es e j x is le = let below = slice_get_within (es ++ e ∷ []) j x is in omega (arith, below, length_push es e)
