-- What calls under the lock leave of a session.
use Rattle.std.proofs.Common.{◌≡◌, ℕ, ◌≤◌, Bool, false, true, List, [], Some, length, refl, sym, ap, subst, ◌∙◌, take, arith}
use Rattle.std.specs.Prelude.{nat_lt}
use Rattle.std.proofs.lemmas.Bool.Decides.{nat_tests}
use Rattle.std.proofs.lemmas.List.{take_all}
use Rattle.std.proofs.lemmas.Option.{same_Some}
use mathlib.Core.List.{IsPrefix}
use Rattle.atomic_table.specs.Seated.{TableId}
use Rattle.dv_model.specs.declared.types.Mailbox.{Mailbox}
use Rattle.dv_model.specs.declared.types.Mark.{Mark}
use Rattle.dv_model.specs.Journals.{Log, at, mark_of}
use Rattle.dv_front.specs.declared.notes.Note.{Note}
use Rattle.dv_front.specs.Notes.{entries_of}
use Rattle.dv_front.specs.Rolls.{ListingView}
use Rattle.dv_front.proofs.Prefixes.{prefix_self, prefix_take}
use Rattle.dv_feed.specs.Feeds.{mark_from}
use Rattle.dv_notes.specs.Logs.{log_of, mailbox_behind}
use Rattle.dv_notes.proofs.Logs.{mailboxes_by_notes, marks_by_notes}
use Rattle.dv_answer.specs.Following.{IsAbreast}
use Rattle.dv_generations.specs.Feeds.{Feed, journal}
use Rattle.dv_member.specs.declared.batch.Ready.{Ready}
use Rattle.dv_member.specs.declared.mirror.Mirror.{Mirror}
use Rattle.dv_member.specs.declared.reaching.Reached.{Reached}
use Rattle.dv_member.specs.declared.reader.Reader.{Reader}
use Rattle.dv_member.specs.Batches.{IsTold}
use Rattle.dv_member.specs.Calls.{IsAsBefore, SeesAll, counted, seeing, turned}
use Rattle.dv_member.specs.Inside.{IsMember, IsMirror, all_of}
use Rattle.dv_member.specs.Members.{IsStart, Member, as_front}
use Rattle.dv_member.specs.Reaching.{Arrives, Grows, LeadsTo, Reaches, arrived}
use Rattle.dv_member.proofs.Arriving.{arrived_all, arrived_reader, first_seen, grown_on, last_arrives, member_at_end}
use Rattle.dv_member.proofs.Batching.{shown_mirror}
use Rattle.dv_member.proofs.Seen.{seen_grown}

-- a session of these parts
abbrev pub member_of : ℕ → Reader → Mirror → Bool → Bool → Bool → ℕ → ℕ → ℕ → ℕ → Member
member_of number r m caught_up knows_seal spent turns holds wrote refused = record {
  number = number;
  front = as_front r.pass;
  tables = r.leaf;
  seen = m.seen;
  follower = m.session;
  live = m.live.mailbox;
  caught_up = caught_up;
  knows_seal = knows_seal;
  spent = spent;
  turns = turns;
  holds = holds;
  wrote = wrote;
  refused = refused;
}

-- ---- without memory

module _ (number : ℕ) (caught_up knows_seal spent : Bool) (turns holds wrote refused : ℕ) (r s : Reader) (m n : Mirror) (within : m.seen ≤ length (all_of r.pass)) (grows : Grows r.pass s.pass)
    (leaf : IsPrefix r.leaf.items s.leaf.items) (same : n ≡ record m { live = n.live }) (mailbox : n.live.mailbox ≡ m.live.mailbox) where
  kept_notes : take n.seen (all_of s.pass) ≡ take m.seen (all_of r.pass)
  kept_notes = ap (λ (x : Mirror). take x.seen (all_of s.pass)) same ∙ seen_grown r.pass s.pass m.seen within (grown_on grows) grows.begins

  pub before_on : IsAsBefore (member_of number r m caught_up knows_seal spent turns holds wrote refused) (member_of number s n caught_up knows_seal spent turns holds wrote refused)
  before_on =
      let seen = ap (λ (x : Mirror). x.seen) same in
      let session = ap (λ (x : Mirror). x.session) same in
      record {
        now = (λ i. record {
          number = number;
          front = as_front s.pass;
          tables = s.leaf;
          seen = seen i;
          follower = session i;
          live = mailbox i;
          caught_up = caught_up;
          knows_seal = knows_seal;
          spent = spent;
          turns = turns;
          holds = holds;
          wrote = wrote;
          refused = refused;
        });
        notes = kept_notes;
        tables = leaf;
      }

  pub before_begins : IsPrefix (take m.seen (all_of r.pass)) (take n.seen (all_of s.pass))
  before_begins = subst (λ (l : List Note). IsPrefix l (take n.seen (all_of s.pass))) kept_notes (prefix_self (take n.seen (all_of s.pass)))

-- ---- at the end of the log

module _ {roll : TableId} {start : Log} {count : ℕ} (f : Feed) (r : Reader) (m : Mirror) (reached : Reached) (member : IsMember roll start count r m false) (reaches : Reaches start count f r m reached) (s : Reader) (n : Mirror)
    (arrives : s ≡ arrived r reached.generation reached.pass) where
  end_arrives : Arrives start count f s.generation s.leaf s.pass
  end_arrives =
      subst (λ (x : Reader). Arrives start count f x.generation x.leaf x.pass) (sym arrives)
      (last_arrives start count f r reached.generation reached.pass reaches.own reaches.last)

  end_newest : s.generation ≡ length f.parts
  end_newest = ap (λ (x : Reader). x.generation) arrives ∙ reaches.newest

  pub end_all : all_of s.pass ≡ journal f
  end_all = arrived_all start count f s.generation s.leaf s.pass end_newest end_arrives

  -- the session is one, where its mirror is that of the journal
  pub end_member : IsMirror start (journal f) n → IsMember roll start count s n false
  end_member mirror =
      member_at_end s n member.start_is
      (arrived_reader start count f s (ap (λ (x : Reader). x.leaf.table) arrives ∙ member.reader.roll_is) end_arrives)
      (ap (λ (x : Reader). x.words) arrives) end_arrives.taken (subst (λ (l : List Note). IsMirror start l n) (sym end_all) mirror)

  pub end_notes : n.seen ≡ length (journal f) → take n.seen (all_of s.pass) ≡ journal f
  end_notes seen = ap (take n.seen) end_all ∙ take_all n.seen (journal f) (omega (arith, seen))

  -- what it had seen begins the journal
  pub end_begins : IsPrefix (take m.seen (all_of r.pass)) (journal f)
  end_begins =
      subst (λ (l : List Note). IsPrefix l (journal f)) (first_seen r m (journal f) member reaches.own.shown.seen) (prefix_take m.seen (journal f))

  -- its mirror is, where what was made ready is shown
  pub end_mirror : n.live.mailbox ≡ reaches.ends.after
      → n ≡ record m { seen = reached.ready.seen; live = n.live; mark = reached.ready.mark; session = record m.session { touched = reached.ready.touched } } → IsMirror start (journal f) n
  end_mirror live is =
      shown_mirror start (journal f) m n reached.ready reaches.ends
      (subst (λ (l : List Note). IsMirror start l m) (sym (first_seen r m (journal f) member reaches.own.shown.seen)) (member.follows refl).mirror) live is

  pub end_sees : (old : Member) (caught_up knows_seal spent : Bool) (turns holds wrote refused : ℕ) → IsPrefix old.tables.items r.leaf.items → length r.leaf.items ≡ length f.parts → n.seen ≡ length (journal f)
      → SeesAll f old (member_of old.number s n caught_up knows_seal spent turns holds wrote refused)
  end_sees old caught_up knows_seal spent turns holds wrote refused tables all seen =
      let leaf : s.leaf ≡ r.leaf = ap (λ (x : Reader). x.leaf) arrives in
      let number : s.pass.generation.number ≡ length f.parts = end_arrives.shown.generation.0 ∙ end_newest in
      record {
        notes = end_notes seen;
        newest = number;
        unsealed = end_arrives.shown.sealed ∙ ap (λ (k : ℕ). nat_lt k (length f.parts)) end_newest ∙ not_below (length f.parts);
        tables = (ap (λ (l : ListingView). length l.items) leaf ∙ all, subst (λ (l : ListingView). IsPrefix old.tables.items l.items) (sym leaf) tables);
      }
    where
      not_below : (k : ℕ) → nat_lt k k ≡ false
      not_below k = grind (arith, nat_tests)

-- ---- what is the same of the session

pub caught_now : (number : ℕ) (a b spent : Bool) (turns holds wrote refused : ℕ) (r s : Reader) (m n : Mirror) → n.session.state ≡ m.session.state
    → member_of number s n true false spent turns holds wrote refused
    ≡ record (seeing (member_of number r m a b spent turns holds wrote refused) (member_of number s n true false spent turns holds wrote refused)) { caught_up = true; knows_seal = false }
caught_now number a b spent turns holds wrote refused r s m n state =
    (λ i. record (member_of number s n true false spent turns holds wrote refused) { follower = record { state = state i; touched = n.session.touched } })

pub turned_now : (number : ℕ) (a b spent caught : Bool) (turns more holds wrote refused : ℕ) (r s : Reader) (m n : Mirror) → caught ≡ false → more ≡ counted turns
    → member_of number s n caught false spent more holds wrote refused
    ≡ turned (record (seeing (member_of number r m a b spent turns holds wrote refused) (member_of number s n caught false spent more holds wrote refused)) { knows_seal = false }) n.session
turned_now number a b spent caught turns more holds wrote refused r s m n caught_is more_is =
    (λ i. member_of number s n (caught_is i) false spent (more_is i) holds wrote refused)

-- ---- the mailbox at the end of the log

-- what its log says of the journal's end
pub end_mailbox : (start : Log) (notes : List Note) (m : Mailbox) → start.entries ≡ [] → at (log_of start notes) (length notes) ≡ Some m → mailbox_behind start.start notes ≡ Some m
end_mailbox start notes m fresh is =
    ap (mailbox_behind start.start) (sym (take_all (length notes) notes (omega arith))) ∙ sym (mailboxes_by_notes start notes (length notes) fresh) ∙ is

pub end_mark : (start : Log) (notes : List Note) (mark : Mark) → IsStart start → mark ≡ mark_from start.start_mark (entries_of notes) → mark ≡ mark_of (log_of start notes) (length notes)
end_mark start notes mark is_start is =
    is ∙ ap (λ (l : List Note). mark_from start.start_mark (entries_of l)) (sym (take_all (length notes) notes (omega arith)))
    ∙ sym (marks_by_notes start notes (length notes) is_start.fresh is_start.rotates)

-- it is the one to which what was made ready leads
pub end_same : (start : Log) (notes : List Note) (m : Mirror) (ready : Ready) (leads : LeadsTo start notes m ready) (live : Mailbox) → mailbox_behind start.start notes ≡ Some live → leads.after ≡ live
end_same start notes m ready leads live is = same_Some leads.after live (sym leads.is ∙ is)

-- a mirror that was told of it
pub end_told : (start : Log) (notes : List Note) (m n : Mirror) (ready : Ready) (leads : LeadsTo start notes m ready) (live : Mailbox) → mailbox_behind start.start notes ≡ Some live → IsTold live ready m n → IsMirror start notes n
end_told start notes m n ready leads live is told =
    let seen : n.seen ≡ ready.seen = ap (λ (x : Mirror). x.seen) told.now in
    let mark = ap (λ (x : Mirror). x.mark) told.now in
    let told_mark = ap (λ (x : Mirror). x.told_mark) told.now in
    record {
      seen = seen ∙ leads.seen;
      live = is ∙ ap (λ (x : Mailbox). Some x) (sym told.mailbox);
      mark = mark ∙ leads.mark;
      abreast = subst (λ (x : Mailbox). IsAbreast x n.session) (sym told.mailbox) told.abreast;
      told = omega (arith, seen, told.told);
      told_mark = told_mark ∙ leads.mark
          ∙ ap (λ (l : List Note). mark_from start.start_mark (entries_of l)) (sym (take_all n.session.state.told notes (omega (arith, told.told, leads.seen))));
    }
