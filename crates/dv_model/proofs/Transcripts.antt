-- A run goes on by one line, and stays one where the log grows.
use Rattle.std.proofs.Common.{◌≡◌, inl, inr, ℕ, zero, suc, ◌+◌, ◌≤◌, List, [], ◌∷◌, ◌++◌, length, Option, Some, None, refl, sym, ◌∙◌, ap, subst, arith, length-append}
use Rattle.std.specs.Prelude.{Bool, slice_get, flat_map, fold, option_and_then}
use Rattle.std.proofs.lemmas.List.{take_all, take-append-le, append-nil}
use Rattle.std.proofs.lemmas.List.Concat.{flat_map-append}
use Rattle.dv_model.specs.declared.types.Command.{Command}
use Rattle.dv_model.specs.declared.types.Entry.{Entry}
use Rattle.dv_model.specs.declared.types.Mailbox.{Mailbox}
use Rattle.dv_model.specs.declared.types.Mark.{Mark}
use Rattle.dv_model.specs.declared.types.Record.{Record}
use Rattle.dv_model.specs.declared.types.Reply.{Reply}
use Rattle.dv_model.specs.Effects.{applied, after_record}
use Rattle.dv_model.specs.Journals.{Log, at, mark_of, mark_behind}
use Rattle.dv_model.specs.Sessions.{State, answer, refusal_of}
use Rattle.dv_model.specs.Transcripts.{Line, Wrote, HasWritten, IsTold, Answered, refused_at, with_state, Runs}
use Rattle.dv_model.specs.Views.{View}

-- the log with more entries at its end
abbrev pub grown : Log → List Entry → Log
grown log more = record log { entries = log.entries ++ more }

-- ---- a log that grows

module _ (log : Log) (more : List Entry) where
  pub at_grown : (k : ℕ) → k ≤ length log.entries → at (grown log more) k ≡ at log k
  at_grown k le = ap (λ (es : List Entry). applied log.start (flat_map (λ e. e.group.records) es)) (take-append-le k log.entries more le)

  pub mark_grown : (k : ℕ) → k ≤ length log.entries → mark_of (grown log more) k ≡ mark_of log k
  mark_grown k le = ap (λ (es : List Entry). fold (λ mark e. mark_behind log.rotates mark e.group) log.start_mark es) (take-append-le k log.entries more le)

  pub get_grown : (es : List Entry) (k : ℕ) (e : Entry) → slice_get es k ≡ Some e → slice_get (es ++ more) k ≡ Some e
  get_grown [] zero e is = absurd cc
  get_grown [] (suc k) e is = absurd cc
  get_grown (x ∷ es) zero e is = is
  get_grown (x ∷ es) (suc k) e is = get_grown es k e is

  abbrev pub written_grown : (author met q : ℕ) (v : View) (c : Command) (m : Mailbox) → HasWritten log author met q v c m → HasWritten (grown log more) author met q v c m
  written_grown author met q v c m w = record { behind = w.behind; some = w.some; entry = get_grown log.entries met _ w.entry; message = w.message }

  wrote_grown : (author met q : ℕ) (v : View) (c : Command) (m : Mailbox) → Wrote log author met q v c m → Wrote (grown log more) author met q v c m
  wrote_grown author met q v c m (inl w) = inl (written_grown author met q v c m w)
  wrote_grown author met q v c m (inr w) = inr w

  module _ (met : ℕ) (x : State) (c : Command) (le : met ≤ length log.entries) where
    pub same_refusal : (m : Mailbox) (r : Option Reply) → refused_at log met x c m ≡ r → refused_at (grown log more) met x c m ≡ r
    same_refusal m r is = ap (λ (mark : Mark). refusal_of x c m log.rotates mark log.guid) (mark_grown met le) ∙ is

  module _ (base author met q : ℕ) (x : State) (c : Command) (replies : List Reply) (y : State) (le : met ≤ length log.entries) where
    told_grown : IsTold log author met q x c replies y → IsTold (grown log more) author met q x c replies y
    told_grown t = record {
      before = t.before;
      was_there = at_grown met le ∙ t.was_there;
      allowed = same_refusal met x c le t.before None t.allowed;
      wrote = wrote_grown author met q x.view c t.before t.wrote;
      mailbox = t.mailbox;
      is_there = at_grown q t.seen.1 ∙ t.is_there;
      seen = (t.seen.0, omega (arith, t.seen.1, length-append log.entries more));
      is = ap (λ (mark : Mark). answer log.mail x c t.before q t.mailbox mark) (mark_grown q t.seen.1) ∙ t.is;
    }

    pub answered_grown : Answered log base author met q x c replies y → Answered (grown log more) base author met q x c replies y
    answered_grown (inl r) = inl (record {
      before = r.before;
      was_there = at_grown met le ∙ r.was_there;
      line = r.line;
      refusal = same_refusal met x c le r.before (Some r.line) r.refusal;
      one_line = r.one_line;
      nothing_written = r.nothing_written;
      stays = r.stays;
    })
    answered_grown (inr (inl u)) = inr (inl (record {
      before = u.before;
      was_there = at_grown met le ∙ u.was_there;
      allowed = same_refusal met x c le u.before None u.allowed;
      touches = u.touches;
      faults = u.faults;
      above = u.above;
      one_line = u.one_line;
      nothing_written = u.nothing_written;
      stays = u.stays;
    }))
    answered_grown (inr (inr t)) = inr (inr (told_grown t))

-- ---- a command and a run take no entry away

wrote_up : (log : Log) (author met q : ℕ) (v : View) (c : Command) (m : Mailbox) → Wrote log author met q v c m → met ≤ q
wrote_up log author met q v c m (inl w) = let e = w.behind in omega arith
wrote_up log author met q v c m (inr w) = let e = w.0 in omega arith

pub answered_up : (log : Log) (base author met q : ℕ) (x : State) (c : Command) (replies : List Reply) (y : State) → Answered log base author met q x c replies y → met ≤ q
answered_up log base author met q x c replies y (inl r) = let e = r.nothing_written in omega arith
answered_up log base author met q x c replies y (inr (inl u)) = let e = u.nothing_written in omega arith
answered_up log base author met q x c replies y (inr (inr t)) = wrote_up log author met q x.view c t.before t.wrote

pub runs_up : (log : Log) (base : ℕ) (states : ℕ → State) (met : ℕ) (lines : List Line) (replies : List (List Reply)) (after : ℕ → State) (q : ℕ)
    → Runs log base states met lines replies after q → met ≤ q
runs_up log base states met [] [] after q r = let e = r.1 in omega arith
runs_up log base states met [] (replies ∷ rest) after q r = absurd r
runs_up log base states met (line ∷ lines) [] after q r = absurd r
runs_up log base states met (line ∷ lines) (replies ∷ rest) after q r =
    let first = answered_up log base line.0 met r.0 (states line.0) line.1 replies r.1 r.2 in
    let others = runs_up log base (with_state states line.0 r.1) r.0 lines rest after q r.3 in
    omega arith

-- ---- a run

pub runs_grown : (log : Log) (more : List Entry) (base : ℕ) (states : ℕ → State) (met : ℕ) (lines : List Line) (replies : List (List Reply)) (after : ℕ → State) (q : ℕ)
    → q ≤ length log.entries → Runs log base states met lines replies after q → Runs (grown log more) base states met lines replies after q
runs_grown log more base states met [] [] after q le r = r
runs_grown log more base states met [] (replies ∷ rest) after q le r = absurd r
runs_grown log more base states met (line ∷ lines) [] after q le r = absurd r
runs_grown log more base states met (line ∷ lines) (replies ∷ rest) after q le r =
    let first = answered_up log base line.0 met r.0 (states line.0) line.1 replies r.1 r.2 in
    let others = runs_up log base (with_state states line.0 r.1) r.0 lines rest after q r.3 in (
      r.0,
      r.1,
      answered_grown log more base line.0 met r.0 (states line.0) line.1 replies r.1 (omega arith) r.2,
      runs_grown log more base (with_state states line.0 r.1) r.0 lines rest after q le r.3,
    )

-- one line more
pub runs_on : (log : Log) (base : ℕ) (states : ℕ → State) (met : ℕ) (lines : List Line) (replies : List (List Reply)) (mid : ℕ → State) (k : ℕ) (line : Line) (last : List Reply) (y : State) (q : ℕ)
    → Runs log base states met lines replies mid k
    → Answered log base line.0 k q (mid line.0) line.1 last y
    → Runs log base states met (lines ++ line ∷ []) (replies ++ last ∷ []) (with_state mid line.0 y) q
runs_on log base states met [] [] mid k line last y q so_far a = (
  q,
  y,
  subst (λ (n : ℕ). Answered log base line.0 n q (states line.0) line.1 last y) so_far.1 (subst (λ (s : ℕ → State). Answered log base line.0 k q (s line.0) line.1 last y) so_far.0 a),
  (ap (λ (s : ℕ → State). with_state s line.0 y) so_far.0, refl),
)
runs_on log base states met [] (replies ∷ rest) mid k line last y q so_far a = absurd so_far
runs_on log base states met (one ∷ lines) [] mid k line last y q so_far a = absurd so_far
runs_on log base states met (one ∷ lines) (replies ∷ rest) mid k line last y q so_far a =
    (so_far.0, so_far.1, so_far.2, runs_on log base (with_state states one.0 so_far.1) so_far.0 lines rest mid k line last y q so_far.3 a)

-- ---- the end of a log

then_all : (o : Option Mailbox) → option_and_then (λ (m : Mailbox). Some m) o ≡ o
then_all None = refl
then_all (Some m) = refl

on_result : (rs more : List Record) (o : Option Mailbox) → ((m : Mailbox) → applied m (rs ++ more) ≡ option_and_then (λ n. applied n more) (applied m rs))
    → option_and_then (λ n. applied n (rs ++ more)) o ≡ option_and_then (λ n. applied n more) (option_and_then (λ n. applied n rs) o)
on_result rs more None each = refl
on_result rs more (Some m) each = each m

-- records in turn are the first ones and then the others
pub applied_append : (rs more : List Record) (m : Mailbox) → applied m (rs ++ more) ≡ option_and_then (λ n. applied n more) (applied m rs)
applied_append [] more m = refl
applied_append (r ∷ rs) more m = on_result rs more (after_record m r) (applied_append rs more)

pub applied_one : (m : Mailbox) (r : Record) → applied m (r ∷ []) ≡ after_record m r
applied_one m r = then_all (after_record m r)

-- at the length of a log all its entries are applied
pub at_all : (log : Log) → at log (length log.entries) ≡ applied log.start (flat_map (λ e. e.group.records) log.entries)
at_all log = ap (λ (es : List Entry). applied log.start (flat_map (λ e. e.group.records) es)) (take_all (length log.entries) log.entries (omega arith))

pub mark_all : (log : Log) → mark_of log (length log.entries) ≡ fold (λ mark e. mark_behind log.rotates mark e.group) log.start_mark log.entries
mark_all log = ap (λ (es : List Entry). fold (λ mark e. mark_behind log.rotates mark e.group) log.start_mark es) (take_all (length log.entries) log.entries (omega arith))

-- the mailbox behind one entry more
pub at_end : (log : Log) (e : Entry) → at (grown log (e ∷ [])) (length log.entries + 1) ≡ option_and_then (λ m. applied m e.group.records) (at log (length log.entries))
at_end log e =
    ap (λ (es : List Entry). applied log.start (flat_map (λ e. e.group.records) es)) (take_all (length log.entries + 1) (log.entries ++ e ∷ []) (omega (arith, length-append log.entries (e ∷ []))))
    ∙ ap (applied log.start) (flat_map-append (λ (e : Entry). e.group.records) log.entries (e ∷ []) ∙ ap (λ (rs : List Record). flat_map (λ (e : Entry). e.group.records) log.entries ++ rs) (append-nil e.group.records))
    ∙ applied_append (flat_map (λ e. e.group.records) log.entries) e.group.records log.start
    ∙ ap (option_and_then (λ (m : Mailbox). applied m e.group.records)) (sym (at_all log))

fold_push : (rotates : Bool) (mark : Mark) (es : List Entry) (e : Entry)
    → fold (λ mark e. mark_behind rotates mark e.group) mark (es ++ e ∷ []) ≡ mark_behind rotates (fold (λ mark e. mark_behind rotates mark e.group) mark es) e.group
fold_push rotates mark [] e = refl
fold_push rotates mark (x ∷ es) e = fold_push rotates (mark_behind rotates mark x.group) es e

-- the place behind one entry more
pub mark_end : (log : Log) (e : Entry) → mark_of (grown log (e ∷ [])) (length log.entries + 1) ≡ mark_behind log.rotates (mark_of log (length log.entries)) e.group
mark_end log e =
    ap (λ (es : List Entry). fold (λ mark e. mark_behind log.rotates mark e.group) log.start_mark es) (take_all (length log.entries + 1) (log.entries ++ e ∷ []) (omega (arith, length-append log.entries (e ∷ []))))
    ∙ fold_push log.rotates log.start_mark log.entries e
    ∙ ap (λ (mark : Mark). mark_behind log.rotates mark e.group) (sym (mark_all log))
