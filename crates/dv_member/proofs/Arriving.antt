-- A session on its way to the end of the log.
use Rattle.std.proofs.Common.{◌≡◌, ℕ, ◌-◌, false, List, [], ◌++◌, Option, None, Some, length, take, drop, refl, sym, ap, subst, ◌∙◌, arith}
use Rattle.std.proofs.lemmas.List.{append_cancel_left, take-append-le, take_all}
use mathlib.Core.List.{IsPrefix}
use Rattle.atomic_table.specs.Seated.{TableId}
use Rattle.dv_model.specs.Journals.{Log}
use Rattle.dv_front.specs.declared.notes.Generation.{Generation}
use Rattle.dv_front.specs.declared.notes.Note.{Note}
use Rattle.dv_front.specs.declared.notes.Origin.{Origin}
use Rattle.dv_front.specs.Ends.{PassView, loaded}
use Rattle.dv_front.specs.Notes.{AreGood, AreNotes, text_of}
use Rattle.dv_front.specs.Rolls.{ListingView, table_at}
use Rattle.dv_front.proofs.Prefixes.{prefix_both, prefix_trans}
use Rattle.dv_front.proofs.Tables.{table_at_prefix}
use Rattle.dv_feed.specs.Feeds.{AreWordsFrom}
use Rattle.dv_feed.specs.Taking.{taken_up}
use Rattle.dv_notes.specs.Logs.{AreNotesOf}
use Rattle.dv_generations.specs.Feeds.{Feed, IsShown, front_of, joined, journal}
use Rattle.dv_member.specs.declared.batch.Batch.{Batch}
use Rattle.dv_member.specs.declared.batch.Ready.{Ready}
use Rattle.dv_member.specs.declared.mirror.Mirror.{Mirror}
use Rattle.dv_member.specs.declared.reader.Reader.{Reader}
use Rattle.dv_member.specs.Batches.{Adds, Gathers}
use Rattle.dv_member.specs.Inside.{HasTaken, IsMember, IsMirror, IsReader, all_of}
use Rattle.dv_member.specs.Members.{IsStart}
use Rattle.dv_member.specs.Reaching.{Arrives, Grows, IsLast, Knows, LeadsTo, TakesAll, arrived}
use Rattle.dv_member.proofs.Batching.{gathers_on, shown_mirror, words_from}
use Rattle.dv_member.proofs.Members.{member_on, mirror_kept}
use Rattle.dv_member.proofs.Seen.{TookAll, taken_all, taken_at_end, taken_on}

-- ---- words

-- a pass that was shown and has taken changes in these fields alone
same_pass : (p q : PassView) → q.table ≡ p.table → q.generation ≡ p.generation → q ≡ record p { notes = q.notes; taken = q.taken; sealed = q.sealed; loads = q.loads }
same_pass p q table generation = λ i. record { table = table i; generation = generation i; notes = q.notes; taken = q.taken; sealed = q.sealed; loads = q.loads }

-- what was shown is all, so that a load in between finds no more
module _ (start : Log) (count : ℕ) (f : Feed) (number : ℕ) (p q : PassView) (p_shown : IsShown start count f number p) (q_shown : IsShown start count f number q) (one : q.generation ≡ p.generation) where
  pub shown_same : p.notes ≡ q.notes
  shown_same =
      append_cancel_left p.generation.base p.notes q.notes (p_shown.whole ∙ sym q_shown.whole ∙ ap (λ (g : Generation). g.base ++ q.notes) one)

-- the first look, what was taken behind it, and the last look
pub record Looks (start : Log) (count : ℕ) (f : Feed) (number : ℕ) (old first taken last : PassView) : Type 0 where
  pub shown : IsShown start count f number first
  pub begins : IsPrefix old.notes first.notes
  pub first_is : first ≡ record old { notes = first.notes; sealed = first.sealed }
  pub more : IsPrefix first.notes taken.notes
  pub taken_is : taken ≡ taken_up (loaded first taken.notes taken.sealed)
  pub again : IsShown start count f number last
  pub last_begins : IsPrefix taken.notes last.notes
  pub last_is : last ≡ record taken { notes = last.notes; sealed = last.sealed }

module _ {start : Log} {count : ℕ} {f : Feed} {number : ℕ} (old first taken last : PassView) (looks : Looks start count f number old first taken last) where
  one_generation : last.generation ≡ first.generation
  one_generation = ap (λ (p : PassView). p.generation) looks.last_is ∙ ap (λ (p : PassView). p.generation) looks.taken_is

  same_notes : taken.notes ≡ last.notes
  same_notes =
      prefix_both taken.notes last.notes looks.last_begins
      (subst (λ (l : List Note). IsPrefix l taken.notes) (shown_same start count f number first last looks.shown looks.again one_generation) looks.more)

  pub looked_all : (before words : List ℕ) → words ≡ before ++ drop first.taken (text_of taken.notes) → TakesAll start count f number old before last words
  looked_all before words is =
      let from : first.taken ≡ old.taken = ap (λ (p : PassView). p.taken) looks.first_is in
      record {
        shown = looks.again;
        taken = ap (λ (p : PassView). p.taken) looks.last_is ∙ ap (λ (p : PassView). p.taken) looks.taken_is ∙ ap (λ (l : List Note). length (text_of l)) same_notes;
        words = is ∙ ap (λ (n : ℕ). before ++ drop n (text_of taken.notes)) from ∙ ap (λ (l : List Note). before ++ drop old.taken (text_of l)) same_notes;
      }

  pub looked_on : Grows old last
  looked_on = record {
    begins = prefix_trans old.notes first.notes last.notes looks.begins (prefix_trans first.notes taken.notes last.notes looks.more looks.last_begins);
    good = looks.again.good;
    now = same_pass old last (ap (λ (p : PassView). p.table) looks.last_is ∙ ap (λ (p : PassView). p.table) looks.taken_is ∙ ap (λ (p : PassView). p.table) looks.first_is)
        (one_generation ∙ ap (λ (p : PassView). p.generation) looks.first_is);
  }

-- a load that found no memory
pub loaded_on : (old first last : PassView) → IsPrefix old.notes first.notes → first ≡ record old { notes = first.notes; sealed = first.sealed }
    → IsPrefix first.notes last.notes → last ≡ loaded first last.notes last.sealed → AreGood last.generation last.notes → Grows old last
loaded_on old first last begins first_is more last_is good = record {
  begins = prefix_trans old.notes first.notes last.notes begins more;
  good = good;
  now = same_pass old last (ap (λ (p : PassView). p.table) last_is ∙ ap (λ (p : PassView). p.table) first_is) (ap (λ (p : PassView). p.generation) last_is ∙ ap (λ (p : PassView). p.generation) first_is);
}

pub grown_on : {old new : PassView} → Grows old new → new.generation ≡ old.generation
grown_on grows = ap (λ (p : PassView). p.generation) grows.now

-- ---- a generation

module _ (start : Log) (count : ℕ) (f : Feed) (number : ℕ) (p : PassView) (is_start : IsStart start) (shown : IsShown start count f number p) where
  -- the notes up to its end are good ones
  pub front_good : AreNotesOf start (front_of f number)
  front_good = record {
    sound = is_start.sound;
    fresh = is_start.fresh;
    good = subst (AreNotes start.start start.start_mark) shown.whole
        (subst (λ (o : Origin). AreNotes o.mailbox o.mark (p.generation.base ++ p.notes)) shown.generation.1 shown.good);
  }

  pub front_next : front_of f (number - 1) ++ p.notes ≡ front_of f number
  front_next = ap (λ (l : List Note). l ++ p.notes) (sym shown.base) ∙ shown.whole

  pub next_good : AreNotesOf start (front_of f (number - 1) ++ p.notes)
  next_good = subst (AreNotesOf start) (sym front_next) front_good

-- the journal is the notes up to the end of the newest
pub front_all : (f : Feed) (number : ℕ) → number ≡ length f.parts → front_of f number ≡ journal f
front_all f number is = ap joined (take_all number f.parts (omega (arith, is)))

-- ---- passes of later generations

module _ (start : Log) (count : ℕ) (f : Feed) (number from : ℕ) (p : PassView) (words : List ℕ) (b : Batch) (is_start : IsStart start) (shown : IsShown start count f number p) (text : text_of p.notes ≡ words)
    (gathers : Gathers start from (front_of f (number - 1)) b) where
  pub next_words : AreWordsFrom b.mark words
  next_words = words_from start from (front_of f (number - 1)) p.notes words b (next_good start count f number p is_start shown) text gathers

  pub next_batch : (c : Batch) → Adds words b c → Gathers start from (front_of f number) c
  next_batch c adds =
      subst (λ (l : List Note). Gathers start from l c) (front_next start count f number p is_start shown)
      (gathers_on start from (front_of f (number - 1)) p.notes words b (next_good start count f number p is_start shown) text gathers c adds)

-- a longer leaf names the same tables
pub arrives_on : (start : Log) (count : ℕ) (f : Feed) (number : ℕ) (leaf more : ListingView) (p : PassView) → IsPrefix leaf.items more.items → Arrives start count f number leaf p → Arrives start count f number more p
arrives_on start count f number leaf more p begins arrives = record {
  shown = arrives.shown;
  taken = arrives.taken;
  named = table_at_prefix leaf.items more.items number p.table begins arrives.named;
}

-- ---- the end

-- a session that has seen all that its pass knows, and has no words left
pub member_at_end : {roll : TableId} {start : Log} {count : ℕ} (r : Reader) (m : Mirror) → IsStart start → IsReader roll start count r → r.words ≡ [] → r.pass.taken ≡ length (text_of r.pass.notes)
    → IsMirror start (all_of r.pass) m → IsMember roll start count r m false
member_at_end {roll} {start} {count} r m is_start reader none all mirror = record {
  start_is = is_start;
  reader = reader;
  within = omega (arith, mirror.seen);
  follows = λ fresh. record {
    took = subst (λ (ws : List ℕ). HasTaken ws r.pass m.seen) (sym none) (taken_at_end r.pass m.seen mirror.seen all);
    mirror = subst (λ (l : List Note). IsMirror start l m) (sym (take_all m.seen (all_of r.pass) (omega (arith, mirror.seen)))) mirror;
  };
}

-- whatever words are left
pub reader_on : {roll : TableId} {start : Log} {count : ℕ} (r : Reader) (words : List ℕ) → IsReader roll start count r → IsReader roll start count (record r { words = words })
reader_on r words reader = record {
  number = reader.number;
  origin = reader.origin;
  count_is = reader.count_is;
  good = reader.good;
  roll_is = reader.roll_is;
  named = reader.named;
}

-- the newest generation's pass knows the whole journal
pub arrived_all : (start : Log) (count : ℕ) (f : Feed) (number : ℕ) (leaf : ListingView) (p : PassView) → number ≡ length f.parts → Arrives start count f number leaf p → all_of p ≡ journal f
arrived_all start count f number leaf p newest arrives = arrives.shown.newest newest

-- a session in it
pub arrived_reader : {roll : TableId} (start : Log) (count : ℕ) (f : Feed) (r : Reader) → r.leaf.table ≡ roll → Arrives start count f r.generation r.leaf r.pass → IsReader roll start count r
arrived_reader start count f r roll_is arrives = record {
  number = arrives.shown.generation.0;
  origin = arrives.shown.generation.1;
  count_is = arrives.shown.generation.2;
  good = arrives.shown.good;
  roll_is = roll_is;
  named = arrives.named;
}

-- the pass behind reaching the end: the last one, or its own
pub last_arrives : (start : Log) (count : ℕ) (f : Feed) (r : Reader) (number : ℕ) (pass : Option PassView) → Arrives start count f r.generation r.leaf r.pass
    → IsLast start count f r.generation number r.leaf pass → Arrives start count f number r.leaf (arrived r number pass).pass
last_arrives start count f r number None own last = subst (λ (n : ℕ). Arrives start count f n r.leaf r.pass) (sym last) own
last_arrives start count f r number (Some p) own last = last

-- ---- what was made ready is shown

pub ready_mirror : (start : Log) (notes : List Note) (m n s : Mirror) (ready : Ready) (leads : LeadsTo start notes n ready) → IsMirror start (take m.seen notes) m → n ≡ record m { live = n.live }
    → n.live.mailbox ≡ m.live.mailbox → s.live.mailbox ≡ leads.after
    → s ≡ record n { seen = ready.seen; live = s.live; mark = ready.mark; session = record n.session { touched = ready.touched } } → IsMirror start notes s
ready_mirror start notes m n s ready leads mirror same mailbox live is =
    let seen : n.seen ≡ m.seen = ap (λ (x : Mirror). x.seen) same in
    shown_mirror start notes n s ready leads (subst (λ (k : ℕ). IsMirror start (take k notes) n) (sym seen) (mirror_kept start (take m.seen notes) m n same mailbox mirror)) live is

-- ---- a session whose own pass was brought to the end of its generation

module _ {roll : TableId} {start : Log} {count : ℕ} {f : Feed} (r : Reader) (m : Mirror) (p : PassView) (leaf : ListingView) (words : List ℕ) (member : IsMember roll start count r m false) (grows : Grows r.pass p)
    (knows : Knows roll f r.leaf leaf) (named : table_at leaf.items r.generation ≡ Some p.table) where
  own_on : HasTaken words p m.seen → IsMember roll start count (record r { pass = p; leaf = leaf; words = words }) m false
  own_on took = member_on r m (record r { pass = p; leaf = leaf; words = words }) member refl (grown_on grows) grows.begins grows.good knows.roll_is named took

  -- no memory was there to take words
  pub own_failed : words ≡ r.words → p.taken ≡ r.pass.taken → IsMember roll start count (record r { pass = p; leaf = leaf; words = words }) m false
  own_failed same taken =
      own_on (subst (λ (ws : List ℕ). HasTaken ws p m.seen) (sym same) (taken_on r.words r.pass p m.seen member.within (grown_on grows) grows.begins taken (member.follows refl).took))

  own_took : TakesAll start count f r.generation r.pass r.words p words → TookAll words p m.seen
  own_took takes = taken_all r.words words r.pass p m.seen member.within (grown_on grows) grows.begins takes.taken takes.words (member.follows refl).took

  -- all were taken
  pub own_member : TakesAll start count f r.generation r.pass r.words p words → IsMember roll start count (record r { pass = p; leaf = leaf; words = words }) m false
  own_member takes = own_on (own_took takes).took

  pub own_rest : TakesAll start count f r.generation r.pass r.words p words → text_of (drop m.seen (all_of p)) ≡ words
  own_rest takes = (own_took takes).rest

-- a leaf that names more tables
pub leaf_on : {roll : TableId} {start : Log} {count : ℕ} {f : Feed} (r : Reader) (m : Mirror) (leaf : ListingView) → IsMember roll start count r m false → Knows roll f r.leaf leaf
    → IsMember roll start count (record r { leaf = leaf }) m false
leaf_on {roll} {start} {count} r m leaf member knows = record {
  start_is = member.start_is;
  reader = record {
    number = member.reader.number;
    origin = member.reader.origin;
    count_is = member.reader.count_is;
    good = member.reader.good;
    roll_is = knows.roll_is;
    named = table_at_prefix r.leaf.items leaf.items r.generation r.pass.table knows.begins member.reader.named;
  };
  within = member.within;
  follows = λ fresh. record { took = (member.follows fresh).took; mirror = (member.follows fresh).mirror };
}

-- what it has seen begins the journal
pub first_seen : {roll : TableId} {start : Log} {count : ℕ} (r : Reader) (m : Mirror) (notes : List Note) → IsMember roll start count r m false → IsPrefix (all_of r.pass) notes → take m.seen notes ≡ take m.seen (all_of r.pass)
first_seen r m notes member begins = ap (take m.seen) (sym begins.1) ∙ take-append-le m.seen (all_of r.pass) begins.0 member.within

-- the journal is of good notes, as a pass of the newest generation knows it
pub journal_good : (start : Log) (count : ℕ) (f : Feed) (number : ℕ) (leaf : ListingView) (p : PassView) → IsStart start → number ≡ length f.parts → Arrives start count f number leaf p → AreNotesOf start (journal f)
journal_good start count f number leaf p is_start newest arrives = subst (AreNotesOf start) (front_all f number newest) (front_good start count f number p is_start arrives.shown)

-- ---- a load

pub load_grows : (p q : PassView) → IsPrefix p.notes q.notes → AreGood q.generation q.notes → q.table ≡ p.table → q.generation ≡ p.generation → Grows p q
load_grows p q begins good table one = record { begins = begins; good = good; now = same_pass p q table one }

module _ {roll : TableId} {start : Log} {count : ℕ} (r : Reader) (m : Mirror) (q : PassView) (words : List ℕ) (member : IsMember roll start count r m false) (grows : Grows r.pass q) where
  load_on : HasTaken words q m.seen → IsMember roll start count (record r { pass = q; words = words }) m false
  load_on took =
      member_on r m (record r { pass = q; words = words }) member refl (grown_on grows) grows.begins grows.good member.reader.roll_is
      (member.reader.named ∙ ap (λ (t : TableId). Some t) (sym (ap (λ (p : PassView). p.table) grows.now))) took

  pub load_failed : words ≡ r.words → q.taken ≡ r.pass.taken → IsMember roll start count (record r { pass = q; words = words }) m false
  load_failed same taken =
      load_on (subst (λ (ws : List ℕ). HasTaken ws q m.seen) (sym same) (taken_on r.words r.pass q m.seen member.within (grown_on grows) grows.begins taken (member.follows refl).took))

  pub load_member : q.taken ≡ length (text_of q.notes) → words ≡ r.words ++ drop r.pass.taken (text_of q.notes) → IsMember roll start count (record r { pass = q; words = words }) m false
  load_member all is = load_on (taken_all r.words words r.pass q m.seen member.within (grown_on grows) grows.begins all is (member.follows refl).took).took
