-- A session writes one entry at most.
use Rattle.std.proofs.Common.{◌≡◌, ◌⊎◌, inl, inr, ℕ, true, false, List, [], ◌∷◌, refl, sym, ap, subst, ◌∙◌, arith}
use Rattle.dv_model.specs.Journals.{Log}
use Rattle.dv_model.specs.Transcripts.{HasWritten}
use Rattle.dv_maildrop.specs.declared.types.Asked.{Asked}
use Rattle.dv_maildrop.specs.declared.types.Asked.TheVariants as asked_of
use Rattle.dv_maildrop.specs.declared.types.PopLine.{PopLine}
use Rattle.dv_maildrop.specs.declared.types.Removal.{Removal}
use Rattle.dv_maildrop.specs.declared.types.Removal.TheVariants as removal
use Rattle.dv_maildrop.specs.Answers.{Store}
use Rattle.dv_maildrop.specs.Maildrops.{Transaction, asked}
use Rattle.dv_maildrop.proofs.Heard.{rows_stay}
use Rattle.dv_member.specs.Members.{Member, log_seen}
use Rattle.dv_pop3.specs.declared.lines.LinesEnd.{LinesEnd}
use Rattle.dv_pop3.specs.declared.lines.LinesEnd.TheVariants as ending
use Rattle.dv_pop3.specs.Clients.{Client}
use Rattle.dv_pop3.specs.Entries.{IsEntry, SessionsWriteOnce, WritesMarked, WritesOnce}
use Rattle.dv_pop3.specs.Exchanges.{AreAnswered, EndsLines, Exchange, client_behind}
use Rattle.dv_pop3.specs.Findings.{IsCut, IsRemoved, Leaves, Removes, Says, removal_of}
use Rattle.dv_pop3.proofs.Asking.{removal_quits}
use Rattle.dv_pop3.proofs.Keeping.{held_wrote}

module _ (start : Log) (count : ℕ) where
  -- ---- a line

  removed_once : (m : Transaction) (old new : Member) → IsRemoved start m old new → (new.wrote ≡ old.wrote) ⊎ IsEntry start m old new
  removed_once m old new r = elim r.wrote [
    | inl w ↦ inr (record {
      met = r.met;
      mailbox = r.mailbox;
      was_there = r.was_there;
      written = subst (λ (q : ℕ). HasWritten (log_seen start new) old.number r.met q old.follower.state.view (removal_of m) r.mailbox) w.behind w;
      wrote = r.counted.0 ∙ omega (arith, w.behind);
    })
    | inr none ↦ inl (r.counted.0 ∙ omega (arith, none.0))
  ]

  removes_once : (m : Transaction) (r : Removal) (old new : Member) → Removes start count m r old new → (new.wrote ≡ old.wrote) ⊎ IsEntry start m old new
  removes_once m removal.Done old new is = removed_once m old new is
  removes_once m (removal.Disk n) old new is = inl is.1
  removes_once m (removal.TooLong n) old new is = inl is.counted.0

  says_once : (m : Transaction) (store : Store) (a : Asked) (old new : Member) → Says start count m store a old new → (new.wrote ≡ old.wrote) ⊎ ((a ≡ asked_of.Removal) × IsEntry start m old new)
  says_once m store asked_of.Nothing old new is = inl (ap (λ (s : Member). s.wrote) is)
  says_once m store (asked_of.Message row) old new is = inl is.wrote
  says_once m store asked_of.Removal old new is = by (removes_once m store.removal old new is)
    where
      by : (new.wrote ≡ old.wrote) ⊎ IsEntry start m old new → (new.wrote ≡ old.wrote) ⊎ ((asked_of.Removal ≡ asked_of.Removal) × IsEntry start m old new)
      by (inl same) = inl same
      by (inr entry) = inr (refl, entry)

  -- where it isn't answered
  cut_once : (m : Transaction) (old new : Member) → IsCut start m old new → IsEntry start m old new
  cut_once m old new cut = record { met = cut.met; mailbox = cut.left.mailbox; was_there = cut.left.met; written = cut.left.written; wrote = cut.counted }

  leaves_once : (m : Transaction) (a : Asked) (old new : Member) → Leaves start count m a old new → (new.wrote ≡ old.wrote) ⊎ IsEntry start m old new
  leaves_once m asked_of.Nothing old new is = inl (ap (λ (s : Member). s.wrote) is)
  leaves_once m (asked_of.Message row) old new (inl held) = inl (held_wrote old new held)
  leaves_once m (asked_of.Message row) old new (inr (f, found)) = inl found.wrote
  leaves_once m asked_of.Removal old new (inl held) = inl (held_wrote old new held)
  leaves_once m asked_of.Removal old new (inr (inl cut)) = inr (cut_once m old new cut)
  leaves_once m asked_of.Removal old new (inr (inr (r, is))) = removes_once m r old new is

  -- ---- one after another

  -- the removal ends the session
  record Quits (p q : Client) : Type 0 where
    pub marked : WritesMarked start p q
    pub ended : q.maildrop.ended ≡ true

  record Stays (p q : Client) : Type 0 where
    pub wrote : q.session.wrote ≡ p.session.wrote
    pub number : q.session.number ≡ p.session.number
    pub rows : q.maildrop.rows ≡ p.maildrop.rows

  quits_later : (p r q : Client) → Stays p r → Quits r q → Quits p q
  quits_later p r q stays quits = record {
    marked = record {
      maildrop = quits.marked.maildrop;
      rows = quits.marked.rows ∙ stays.rows;
      session = quits.marked.session;
      number = quits.marked.number ∙ stays.number;
      wrote = quits.marked.wrote ∙ stays.wrote;
      entry = quits.marked.entry;
    };
    ended = quits.ended;
  }

  -- none is answered behind it
  last_quits : (p r q : Client) (xs : List Exchange) → Quits p r → AreAnswered start count r xs q → Quits p q
  last_quits p r q [] quits is = subst (Quits p) (sym is) quits
  last_quits p r q (x ∷ xs) quits is = absurd (let both : true ≡ false = sym quits.ended ∙ is.0 in cc)

  answered_once : (p : Client) (xs : List Exchange) (q : Client) → AreAnswered start count p xs q → Stays p q ⊎ Quits p q
  answered_once p [] q is = inl (subst (Stays p) (sym is) (record { wrote = refl; number = refl; rows = refl }))
  answered_once p (x ∷ xs) q is = by (says_once p.maildrop x.store (asked p.maildrop x.line) p.session x.behind is.1) (answered_once (client_behind p x) xs q is.3)
    where
      r : Client
      r = client_behind p x

      later : Stays p r → Stays r q ⊎ Quits r q → Stays p q ⊎ Quits p q
      later stays (inl rest) = inl (record { wrote = rest.wrote ∙ stays.wrote; number = rest.number ∙ stays.number; rows = rest.rows ∙ stays.rows })
      later stays (inr rest) = inr (quits_later p r q stays rest)

      by : (x.behind.wrote ≡ p.session.wrote) ⊎ ((asked p.maildrop x.line ≡ asked_of.Removal) × IsEntry start p.maildrop p.session x.behind) → Stays r q ⊎ Quits r q → Stays p q ⊎ Quits p q
      by (inl same) rest = later (record { wrote = same; number = is.2.number; rows = rows_stay p.maildrop (x.line ∷ []) }) rest
      by (inr (asks, entry)) rest =
          inr (last_quits p r q xs
          (record {
            marked = record { maildrop = p.maildrop; rows = refl; session = p.session; number = refl; wrote = refl; entry = entry };
            ended = ap (λ (m : Transaction). m.ended) (removal_quits p.maildrop x.line asks);
          })
          is.3)

  -- ---- the end

  module _ (p last q : Client) where
    same_end : q ≡ last → Stays p last ⊎ Quits p last → WritesOnce start p q
    same_end is (inl stays) = inl (ap (λ (c : Client). c.session.wrote) is ∙ stays.wrote)
    same_end is (inr quits) = inr (subst (WritesMarked start p) (sym is) quits.marked)

    cut_end : (l : PopLine) → last.maildrop.ended ≡ false → Leaves start count last.maildrop (asked last.maildrop l) last.session q.session → Stays p last ⊎ Quits p last → WritesOnce start p q
    cut_end l open_ leaves (inr quits) = absurd (let both : true ≡ false = sym quits.ended ∙ open_ in cc)
    cut_end l open_ leaves (inl stays) = by (leaves_once last.maildrop (asked last.maildrop l) last.session q.session leaves)
      where
        by : (q.session.wrote ≡ last.session.wrote) ⊎ IsEntry start last.maildrop last.session q.session → WritesOnce start p q
        by (inl same) = inl (same ∙ stays.wrote)
        by (inr entry) = inr (record { maildrop = last.maildrop; rows = stays.rows; session = last.session; number = stays.number; wrote = stays.wrote; entry = entry })

    by_end : (e : LinesEnd) (rest : List PopLine) → EndsLines start count e last q rest → Stays p last ⊎ Quits p last → WritesOnce start p q
    by_end ending.Answered rest ends once = same_end ends.0 once
    by_end ending.NoMemory rest (l, lines, is, open_, same, leaves, later) once = cut_end l open_ leaves once
    by_end (ending.Sink faults) rest ends once = same_end ends once

pub sessions_write_once : SessionsWriteOnce
sessions_write_once start count first last lines e has = by_end start count first has.last last e has.rest has.ends (answered_once start count first has.exchanges has.last has.answered)
