-- A session's answer is a turn over what it has seen.
use Rattle.std.proofs.Common.{◌≡◌, inr, ℕ, ◌≤◌, Bool, false, List, [], None, Some, Option, length, refl, sym, ap, subst, ◌∙◌, arith, cond}
use Rattle.std.specs.Option.{option_or}
use Rattle.std.proofs.lemmas.List.{length-map, take_all}
use Rattle.dv_model.specs.declared.types.Command.{Command}
use Rattle.dv_model.specs.declared.types.Mailbox.{Mailbox}
use Rattle.dv_model.specs.declared.types.Mark.{Mark}
use Rattle.dv_model.specs.declared.types.Reply.{Reply}
use Rattle.dv_model.specs.Journals.{Log, at, mark_of}
use Rattle.dv_model.specs.Sessions.{State, answer, group_of, is_write, limit_of}
use Rattle.dv_model.specs.Transcripts.{IsTurn, refused_at}
use Rattle.dv_promises.proofs.Telling.{reads_nothing}
use Rattle.dv_front.specs.declared.notes.Note.{Note}
use Rattle.dv_front.specs.Notes.{entries_of}
use Rattle.dv_feed.specs.Feeds.{mark_from}
use Rattle.dv_notes.proofs.Logs.{fresh_entries}
use Rattle.dv_answer.specs.Answers.{IsAnswered}
use Rattle.dv_answer.specs.Following.{IsAbreast}
use Rattle.dv_answer.specs.Refusing.{own_refusal}
use Rattle.dv_answer.proofs.Limits.{refusal_goes_on}
use Rattle.dv_member.specs.declared.mirror.Mirror.{Mirror}
use Rattle.dv_member.specs.Calls.{turn_of}
use Rattle.dv_member.specs.Inside.{IsMirror}
use Rattle.dv_member.specs.Members.{Member, log_seen, notes_of}

-- the log that it has seen has as many entries
pub log_long : (start : Log) (s : Member) → start.entries ≡ [] → length (notes_of s) ≡ s.seen → length (log_seen start s).entries ≡ s.seen
log_long start s fresh long = ap length (fresh_entries start (notes_of s) fresh) ∙ length-map (notes_of s) (λ (n : Note). n.entry) ∙ long

-- nothing refuses a command that writes nothing, where its session doesn't
allowed : (log : Log) (k : ℕ) (x : State) (c : Command) (m : Mailbox) → is_write c ≡ false → own_refusal x c ≡ None → refused_at log k x c m ≡ None
allowed log k x c m reads own =
    refusal_goes_on x c m log.rotates (mark_of log k) log.guid
    ∙ ap (λ (o : Option Reply). option_or o (cond (is_write c) (limit_of c m log.rotates (mark_of log k) (group_of c x.view m log.guid)) None)) own
    ∙ ap (λ (b : Bool). cond b (limit_of c m log.rotates (mark_of log k) (group_of c x.view m log.guid)) None) reads

pub is_turn : (start : Log) (base : ℕ) (s : Member) (c : Command) → length (log_seen start s).entries ≡ s.seen → at (log_seen start s) s.seen ≡ Some s.live → s.follower.state.told ≤ s.seen → is_write c ≡ false
    → own_refusal s.follower.state c ≡ None → IsTurn (log_seen start s) base s.number (turn_of (log_seen start s) s c)
is_turn start base s c long live told reads own =
    let log = log_seen start s in
    let x = s.follower.state in
    record {
      met = (told, omega (arith, long));
      answered = inr (inr record {
        before = s.live;
        was_there = live;
        allowed = allowed log s.seen x c s.live reads own;
        wrote = inr (refl, reads_nothing c x.view s.live log.guid reads);
        mailbox = s.live;
        is_there = live;
        seen = (told, omega (arith, long));
        is = refl;
      });
    }

-- what took the lines, and the state, by the turn
pub turn_taken : {R : Type 0} (with : R → List Reply → R) (start : Log) (s : Member) (c : Command) (mark : Mark) (old new : R) (state : State) → mark ≡ mark_of (log_seen start s) s.seen
    → IsAnswered with old new state (answer (log_seen start s).mail s.follower.state c s.live s.seen s.live mark)
    → (new ≡ with old (turn_of (log_seen start s) s c).replies) × (state ≡ (turn_of (log_seen start s) s c).after)
turn_taken with start s c mark old new state is answered =
    subst (λ (k : Mark). IsAnswered with old new state (answer (log_seen start s).mail s.follower.state c s.live s.seen s.live k)) is answered

-- a session that was told of all that it has seen
pub told_mirror : (start : Log) (notes : List Note) (m n : Mirror) → IsMirror start notes m → n ≡ record m { session = n.session; told_mark = m.mark } → IsAbreast m.live.mailbox n.session
    → n.session.state.told ≡ m.seen → IsMirror start notes n
told_mirror start notes m n mirror is abreast told =
    let seen : n.seen ≡ m.seen = ap (λ (x : Mirror). x.seen) is in
    subst (IsMirror start notes) (sym is) record {
      seen = mirror.seen;
      live = mirror.live;
      mark = mirror.mark;
      abreast = abreast;
      told = omega (arith, told);
      told_mark = mirror.mark
          ∙ ap (λ (l : List Note). mark_from start.start_mark (entries_of l)) (sym (take_all n.session.state.told notes (omega (arith, told, mirror.seen))));
    }
