-- Entries are gathered, and shown all together.
use Rattle.std.proofs.Common.{◌≡◌, ◌⊎◌, inl, inr, rules, ℕ, ◌+◌, ◌≤◌, List, [], ◌++◌, Some, length, take, drop, sym, ap, subst, ◌∙◌, arith, length-append}
use Rattle.std.specs.Prelude.{◌↔◌, All, Contains}
use Rattle.std.proofs.lemmas.List.{drop-append-le, take-append-drop, take-append-le}
use Rattle.std.proofs.Math.Seq.{drop-length}
use Rattle.std.proofs.lemmas.List.Elements.{All-weaker}
use Rattle.dv_model.specs.declared.types.Entry.{Entry}
use Rattle.dv_model.specs.declared.types.Mailbox.{Mailbox}
use Rattle.dv_model.specs.declared.types.Mark.{Mark}
use Rattle.dv_model.specs.declared.types.Record.{Record}
use Rattle.dv_model.specs.Effects.{applied}
use Rattle.dv_model.specs.Fresh.{IsTouched}
use Rattle.dv_model.specs.Journals.{IsEntry, Log}
use Rattle.dv_model.specs.Mailboxes.{IsValid}
use Rattle.dv_model.specs.Spelling.{IsRecord}
use Rattle.dv_formats.specs.Feeds.{feed_text}
use Rattle.dv_feeding.specs.Laws.{IsSpelled}
use Rattle.dv_feeding.proofs.Feeds.{feed_one}
use Rattle.dv_front.specs.declared.notes.Note.{Note}
use Rattle.dv_front.specs.Ends.{PassView}
use Rattle.dv_front.specs.Notes.{AreNotes, entries_of, text_of}
use Rattle.dv_feed.specs.Feeds.{AreWordsFrom, mark_from}
use Rattle.dv_feed.proofs.Marks.{rests_are_words}
use Rattle.dv_notes.specs.Logs.{AreNotesOf, mailbox_behind}
use Rattle.dv_answer.specs.Following as following
use Rattle.dv_answer.specs.Following.{IsAbreast}
use Rattle.dv_answer.proofs.Keeping.{records_lead, stay_leads}
use Rattle.dv_member.specs.declared.batch.Batch.{Batch}
use Rattle.dv_member.specs.declared.batch.Ready.{Ready}
use Rattle.dv_member.specs.declared.mirror.Mirror.{Mirror}
use Rattle.dv_member.specs.Batches.{Adds, Gathers, Leads, records_in}
use Rattle.dv_member.specs.Inside.{IsMirror, all_of}
use Rattle.dv_member.specs.Reaching.{LeadsTo}
use Rattle.dv_member.proofs.Leading.{between, entries_behind, mark_append, records_append, records_behind}

-- ---- entries

spelled : (e : Entry) → IsEntry e → IsSpelled e
spelled e is = record { records = is.records; bytes = is.bytes }

-- words are of one list of entries
pub entries_one : (entries : List Entry) (part : List Note) (words : List ℕ) → All IsEntry entries → feed_text entries ≡ words → All IsEntry (entries_of part) → text_of part ≡ words
    → entries ≡ entries_of part
entries_one entries part words are is good text =
    feed_one entries (entries_of part) (All-weaker IsEntry IsSpelled spelled entries are) (All-weaker IsEntry IsSpelled spelled (entries_of part) good) (is ∙ sym text)

-- ---- a batch

pub gathers_first : (start : Log) (notes : List Note) (m : Mirror) (b : Batch) → IsMirror start notes m → b.records.items ≡ [] → b.mark ≡ m.mark → b.seen ≡ m.seen → Gathers start m.seen notes b
gathers_first start notes m b mirror none mark seen = record {
  low = omega (arith, mirror.seen);
  records = none ∙ sym (ap (λ (n : ℕ). records_in (drop n notes)) mirror.seen ∙ ap records_in (drop-length notes));
  mark = mark ∙ mirror.mark;
  seen = seen ∙ mirror.seen;
}

module _ (start : Log) (from : ℕ) (notes part : List Note) (words : List ℕ) (b : Batch) (are : AreNotesOf start (notes ++ part)) (text : text_of part ≡ words) (gathers : Gathers start from notes b) where
  pub words_from : AreWordsFrom b.mark words
  words_from =
      subst (λ (mark : Mark). AreWordsFrom mark words) (sym gathers.mark)
      (subst (AreWordsFrom (mark_from start.start_mark (entries_of notes))) text (rests_are_words start.start start.start_mark notes part are.good))

  pub gathers_on : (c : Batch) → Adds words b c → Gathers start from (notes ++ part) c
  gathers_on c adds =
      let added = adds part (entries_behind start.start start.start_mark notes part are.good) text in
      record {
        low = omega (arith, gathers.low, length-append notes part);
        records = added.0 ∙ ap (λ (rs : List Record). rs ++ records_in part) gathers.records
            ∙ sym (records_append (drop from notes) part)
            ∙ ap records_in (sym (drop-append-le from notes part gathers.low));
        mark = added.1 ∙ ap (λ (mark : Mark). mark_from mark (entries_of part)) gathers.mark ∙ sym (mark_append start.start_mark notes part);
        seen = added.2 ∙ ap (λ (n : ℕ). n + length part) gathers.seen ∙ sym (length-append notes part);
      }

-- its records are of good notes
pub gathered_records : (start : Log) (from : ℕ) (notes : List Note) (b : Batch) → AreNotesOf start notes → Gathers start from notes b → All IsRecord b.records.items
gathered_records start from notes b are gathers =
    subst (All IsRecord) (sym gathers.records)
    (records_behind start.start start.start_mark (take from notes) (drop from notes) (subst (AreNotes start.start start.start_mark) (sym (take-append-drop from notes)) are.good))

-- ---- what is shown

-- the first notes and more, in their place
pub mirror_on : (start : Log) (first more : List Note) (old new : Mirror) (after : Mailbox) → IsMirror start first old
    → mailbox_behind start.start (first ++ more) ≡ Some after → new.live.mailbox ≡ after → IsAbreast after new.session → new.session.state ≡ old.session.state
    → new.seen ≡ length (first ++ more) → new.mark ≡ mark_from start.start_mark (entries_of (first ++ more)) → new.told_mark ≡ old.told_mark
    → IsMirror start (first ++ more) new
mirror_on start first more old new after mirror is live abreast state seen mark told =
    let number : new.session.state.told ≡ old.session.state.told = ap (λ s. s.told) state in
    let low : old.session.state.told ≤ length first = omega (arith, mirror.told, mirror.seen) in
    record {
      seen = seen;
      live = is ∙ ap (λ (m : Mailbox). Some m) (sym live);
      mark = mark;
      abreast = subst (λ (m : Mailbox). IsAbreast m new.session) (sym live) abreast;
      told = omega (arith, number, low, seen, length-append first more);
      told_mark = told ∙ mirror.told_mark
          ∙ ap (λ (l : List Note). mark_from start.start_mark (entries_of l)) (sym (take-append-le old.session.state.told first more low))
          ∙ ap (λ (n : ℕ). mark_from start.start_mark (entries_of (take n (first ++ more)))) (sym number);
    }

-- ---- what a session's own pass has taken

module _ (start : Log) (p : PassView) (words : List ℕ) (m : Mirror) (b : Batch) (known : AreNotesOf start (all_of p)) (mirror : IsMirror start (take m.seen (all_of p)) m)
    (rest : text_of (drop m.seen (all_of p)) ≡ words) (none : b.records.items ≡ []) (mark : b.mark ≡ m.mark) (seen : b.seen ≡ m.seen) where
  own_whole : take m.seen (all_of p) ++ drop m.seen (all_of p) ≡ all_of p
  own_whole = take-append-drop m.seen (all_of p)

  own_good : AreNotesOf start (take m.seen (all_of p) ++ drop m.seen (all_of p))
  own_good = subst (AreNotesOf start) (sym own_whole) known

  own_first : Gathers start m.seen (take m.seen (all_of p)) b
  own_first = gathers_first start (take m.seen (all_of p)) m b mirror none mark seen

  pub own_words : AreWordsFrom b.mark words
  own_words = words_from start m.seen (take m.seen (all_of p)) (drop m.seen (all_of p)) words b own_good rest own_first

  pub own_batch : (c : Batch) → Adds words b c → Gathers start m.seen (all_of p) c
  own_batch c adds =
      subst (λ (l : List Note). Gathers start m.seen l c) own_whole (gathers_on start m.seen (take m.seen (all_of p)) (drop m.seen (all_of p)) words b own_good rest own_first c adds)

-- ---- ready

-- what was made ready of a batch leads to where that ends
pub leads_to : (start : Log) (notes : List Note) (m n : Mirror) (b : Batch) (ready : Ready) → AreNotesOf start notes → mailbox_behind start.start (take m.seen notes) ≡ Some m.live.mailbox
    → Gathers start m.seen notes b → n.live.mailbox ≡ m.live.mailbox → ready.mark ≡ b.mark → ready.seen ≡ b.seen
    → ((after : Mailbox) → applied m.live.mailbox b.records.items ≡ Some after → Leads n after ready) → LeadsTo start notes n ready
leads_to start notes m n b ready are first gathers live mark seen leads =
    let way = between start notes m.seen m.live.mailbox are first in
    record {
      after = way.after;
      is = way.is;
      valid = (subst IsValid (sym live) way.valid.0, way.valid.1);
      leads = leads way.after (ap (applied m.live.mailbox) gathers.records ∙ way.applies);
      mark = mark ∙ gathers.mark;
      seen = seen ∙ gathers.seen;
    }

-- it is shown
pub shown_mirror : (start : Log) (notes : List Note) (m n : Mirror) (ready : Ready) (leads : LeadsTo start notes m ready) → IsMirror start (take m.seen notes) m → n.live.mailbox ≡ leads.after
    → n ≡ record m { seen = ready.seen; live = n.live; mark = ready.mark; session = record m.session { touched = ready.touched } } → IsMirror start notes n
shown_mirror start notes m n ready leads mirror live is =
    let whole : take m.seen notes ++ drop m.seen notes ≡ notes = take-append-drop m.seen notes in
    let abreast : IsAbreast leads.after n.session =
    subst (IsAbreast leads.after) (sym (ap (λ (x : Mirror). x.session) is)) (leads.leads.abreast leads.valid.0 leads.valid.1 mirror.abreast) in
    subst (λ (l : List Note). IsMirror start l n) whole
    (mirror_on start (take m.seen notes) (drop m.seen notes) m n leads.after mirror (ap (mailbox_behind start.start) whole ∙ leads.is) live abreast
    (ap (λ (x : Mirror). x.session.state) is)
    (ap (λ (x : Mirror). x.seen) is ∙ leads.seen ∙ ap length (sym whole))
    (ap (λ (x : Mirror). x.mark) is ∙ leads.mark ∙ ap (λ (l : List Note). mark_from start.start_mark (entries_of l)) (sym whole))
    (ap (λ (x : Mirror). x.told_mark) is))

-- UIDs that are touched by records lead from one mailbox to the other
none_before : (uid : ℕ) → Contains [] uid → ⊥
none_before uid there = search rules

only_more : {A B C : Type 0} → (A → ⊥) → C ↔ B → C ↔ (A ⊎ B)
only_more {A} {B} {C} none same = (λ c. inr (same.0 c), back)
  where
    back : A ⊎ B → C
    back (inl a) = absurd (none a)
    back (inr b) = same.1 b

pub touched_leads : (m after : Mailbox) (rs : List Record) (touched : List ℕ) → IsValid m → IsValid after → applied m rs ≡ Some after
    → ((uid : ℕ) → Contains touched uid ↔ IsTouched m after uid) → following.Leads m after touched
touched_leads m after rs touched valid later is both =
    records_lead m m after rs [] touched valid later (stay_leads m valid) is (λ uid. only_more (none_before uid) (both uid))
