-- Sessions that know more, and see more.
use Rattle.std.proofs.Common.{◌≡◌, ℕ, Bool, false, List, Some, length, take, drop, refl, sym, ap, subst, ◌∙◌, arith}
use Rattle.std.proofs.lemmas.List.{length-take-le, take-append-drop, take_all}
use mathlib.Core.List.{IsPrefix}
use Rattle.atomic_table.specs.Seated.{TableId}
use Rattle.dv_model.specs.declared.types.Mailbox.{Mailbox}
use Rattle.dv_model.specs.Journals.{Log, at, mark_of}
use Rattle.dv_model.specs.Mailboxes.{IsValid}
use Rattle.dv_front.specs.declared.notes.Generation.{Generation}
use Rattle.dv_front.specs.declared.notes.Note.{Note}
use Rattle.dv_front.specs.declared.notes.Origin.{Origin}
use Rattle.dv_front.specs.Notes.{AreGood, AreNotes, entries_of}
use Rattle.dv_front.specs.Rolls.{table_at}
use Rattle.dv_feed.specs.Feeds.{mark_from}
use Rattle.dv_notes.specs.Logs.{AreNotesOf, log_of, mailbox_behind}
use Rattle.dv_notes.proofs.Logs.{mailboxes_by_notes, marks_by_notes}
use Rattle.dv_notes.proofs.Notes.{fronts_are_good}
use Rattle.dv_answer.specs.Following.{IsAbreast}
use Rattle.dv_member.specs.declared.mirror.Mirror.{Mirror}
use Rattle.dv_member.specs.declared.reader.Reader.{Reader}
use Rattle.dv_member.specs.Inside.{HasTaken, IsMember, IsMirror, all_of}
use Rattle.dv_member.proofs.Leading.{between}
use Rattle.dv_member.proofs.Seen.{seen_grown, within_grown}

module _ {roll : TableId} {start : Log} {count : ℕ} (r : Reader) (m : Mirror) where
  -- all notes that are known are good ones
  pub known_good : {spent : Bool} → IsMember roll start count r m spent → AreNotesOf start (all_of r.pass)
  known_good member = record {
    sound = member.start_is.sound;
    fresh = member.start_is.fresh;
    good = subst (λ (o : Origin). AreNotes o.mailbox o.mark (all_of r.pass)) member.reader.origin member.reader.good;
  }

  -- its pass knows no fewer notes, and its leaf names its table
  pub member_on : (s : Reader) → IsMember roll start count r m false → s.generation ≡ r.generation → s.pass.generation ≡ r.pass.generation → IsPrefix r.pass.notes s.pass.notes
      → AreGood s.pass.generation s.pass.notes → s.leaf.table ≡ roll → table_at s.leaf.items s.generation ≡ Some s.pass.table → HasTaken s.words s.pass m.seen
      → IsMember roll start count s m false
  member_on s member number one more good roll_is named took =
      let old = member.follows refl in
      record {
        start_is = member.start_is;
        reader = record {
          number = ap (λ (g : Generation). g.number) one ∙ member.reader.number ∙ sym number;
          origin = ap (λ (g : Generation). g.origin) one ∙ member.reader.origin;
          count_is = ap (λ (g : Generation). g.start_count) one ∙ member.reader.count_is;
          good = good;
          roll_is = roll_is;
          named = named;
        };
        within = within_grown r.pass s.pass m.seen member.within one more;
        follows = λ same. record {
          took = took;
          mirror = subst (λ (l : List Note). IsMirror start l m) (sym (seen_grown r.pass s.pass m.seen member.within one more)) old.mirror;
        };
      }

-- the mailbox is the same, however it is kept
pub mirror_kept : (start : Log) (notes : List Note) (m n : Mirror) → n ≡ record m { live = n.live } → n.live.mailbox ≡ m.live.mailbox → IsMirror start notes m → IsMirror start notes n
mirror_kept start notes m n same live mirror =
    subst (IsMirror start notes) (sym same) record {
      seen = mirror.seen;
      live = mirror.live ∙ ap (λ (x : Mailbox). Some x) (sym live);
      mark = mirror.mark;
      abreast = subst (λ (x : Mailbox). IsAbreast x m.session) (sym live) mirror.abreast;
      told = mirror.told;
      told_mark = mirror.told_mark;
    }

pub member_kept : {roll : TableId} {start : Log} {count : ℕ} (r : Reader) (m n : Mirror) → n ≡ record m { live = n.live } → n.live.mailbox ≡ m.live.mailbox
    → IsMember roll start count r m false → IsMember roll start count r n false
member_kept {roll} {start} {count} r m n same live member =
    let seen : n.seen ≡ m.seen = ap (λ (x : Mirror). x.seen) same in
    let old = member.follows refl in
    record {
      start_is = member.start_is;
      reader = member.reader;
      within = omega (arith, seen, member.within);
      follows = λ fresh. record {
        took = subst (λ (k : ℕ). HasTaken r.words r.pass k) (sym seen) old.took;
        mirror = subst (λ (k : ℕ). IsMirror start (take k (all_of r.pass)) n) (sym seen) (mirror_kept start (take m.seen (all_of r.pass)) m n same live old.mirror);
      };
    }

-- ---- what callers know

module _ {roll : TableId} {start : Log} {count : ℕ} (r : Reader) (m : Mirror) where
  -- the first notes that it has seen
  pub seen_good : {spent : Bool} → IsMember roll start count r m spent → AreNotesOf start (take m.seen (all_of r.pass))
  seen_good member =
      let known = known_good r m member in
      record {
        sound = known.sound;
        fresh = known.fresh;
        good = fronts_are_good start.start start.start_mark (take m.seen (all_of r.pass)) (drop m.seen (all_of r.pass))
            (subst (AreNotes start.start start.start_mark) (sym (take-append-drop m.seen (all_of r.pass))) known.good);
      }

  pub seen_long : {spent : Bool} → IsMember roll start count r m spent → length (take m.seen (all_of r.pass)) ≡ m.seen
  seen_long member = length-take-le m.seen (all_of r.pass) member.within

  pub lives_at : IsMember roll start count r m false → at (log_of start (take m.seen (all_of r.pass))) m.seen ≡ Some m.live.mailbox
  lives_at member =
      let notes = take m.seen (all_of r.pass) in
      let mirror = (member.follows refl).mirror in
      mailboxes_by_notes start notes m.seen member.start_is.fresh ∙ ap (mailbox_behind start.start) (take_all m.seen notes (omega (arith, seen_long member))) ∙ mirror.live

  pub mark_at : IsMember roll start count r m false → m.mark ≡ mark_of (log_of start (take m.seen (all_of r.pass))) m.seen
  mark_at member =
      let notes = take m.seen (all_of r.pass) in
      let mirror = (member.follows refl).mirror in
      mirror.mark ∙ ap (λ (l : List Note). mark_from start.start_mark (entries_of l)) (sym (take_all m.seen notes (omega (arith, seen_long member))))
      ∙ sym (marks_by_notes start notes m.seen member.start_is.fresh member.start_is.rotates)

  pub told_mark_at : IsMember roll start count r m false → m.told_mark ≡ mark_of (log_of start (take m.seen (all_of r.pass))) m.session.state.told
  told_mark_at member =
      let notes = take m.seen (all_of r.pass) in
      let mirror = (member.follows refl).mirror in
      mirror.told_mark ∙ sym (marks_by_notes start notes m.session.state.told member.start_is.fresh member.start_is.rotates)

  pub live_valid : IsMember roll start count r m false → IsValid m.live.mailbox
  live_valid member = (between start (all_of r.pass) m.seen m.live.mailbox (known_good r m member) (member.follows refl).mirror.live).valid.0
