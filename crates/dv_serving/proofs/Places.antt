-- Where a play's log ends and where its store's chain stands: both agree on the next group.
use Rattle.std.proofs.Common.{◌≡◌, ◌⊎◌, inl, inr, ℕ, ◌+◌, Bool, true, false, not, ◌&&◌, List, [], ◌∷◌, ◌++◌, length, nat_eq, nat_le, nat_lt, Option, Some, None, refl, sym, ◌∙◌, ap, arith}
use Rattle.std.specs.Prelude.{IsSome, flat_map, is_none, if◌then◌else◌, unwrap_or}
use Rattle.std.proofs.lemmas.Bool.Decides.{nat_tests}
use Rattle.dv_model.specs.declared.types.Command.{Command}
use Rattle.dv_model.specs.declared.types.Group.{Group}
use Rattle.dv_model.specs.declared.types.Mailbox.{Mailbox}
use Rattle.dv_model.specs.declared.types.Mark.{Mark}
use Rattle.dv_model.specs.declared.types.Record.{Record}
use Rattle.dv_model.specs.declared.types.Reply.{Reply}
use Rattle.dv_model.specs.declared.types.Reply.TheVariants as reply
use Rattle.dv_model.specs.Effects.{applied}
use Rattle.dv_model.specs.Journals.{header_size, is_rotation_due, last_file_seq, mark_behind, rotate_at}
use Rattle.dv_logfile.specs.Layout.{closing}
use Rattle.dv_model.specs.Sessions.{end_of_uids, group_limit, group_of, is_append, is_log_full, limit_of, log_limit, message_limit, message_of}
use Rattle.dv_model.specs.Spelling.{group_text, written}
use Rattle.dv_model.specs.Transcripts.{Line, with_written}
use Rattle.dv_model.specs.Views.{View}
use Rattle.dv_shelf.specs.Clocks.{behind}
use Rattle.dv_chain.specs.declared.chain.Chain.{Chain}
use Rattle.dv_files.specs.declared.texts.Turn.{Turn}
use Rattle.dv_files.specs.Texts.{place_of}
use Rattle.dv_playing.specs.Playing.{Play, begins_file, file_readings, group_here, is_empty, message_readings, used_by, with_group_here}
use Rattle.dv_plans.specs.Begins.{beginning, count_of, readings_of, received_at, turns}
use Rattle.dv_plans.specs.Overs.{limit_over}
use Rattle.dv_writing.specs.Writes.{Write, group_by, log_with}
use Rattle.dv_store.specs.Commits.{begin_of, behind_text, end_with, text_by, write_at}
use Rattle.dv_store.specs.States.{State}
use Rattle.dv_serving.specs.Commits.{Meets}
use Rattle.dv_serving.specs.Places.{StandsAt, begin_at, next_file, text_here}

-- ---- bits

and_true : (b : Bool) → b ≡ (b && true)
and_true true = refl
and_true false = refl

and_false : (b : Bool) → false ≡ (b && false)
and_false true = refl
and_false false = refl

-- ---- a place and the mark

-- in a new file no rotation is due
new_not_due : (mark : Mark) → is_rotation_due true (next_file mark) ≡ false
new_not_due mark = refl

-- where a rotation is due there is a number for the next file
due_seq : (mark : Mark) → is_rotation_due true mark ≡ true → nat_lt mark.file_seq last_file_seq ≡ true
due_seq mark due = by_both (nat_le rotate_at mark.offset) (nat_lt mark.file_seq last_file_seq) due
  where
    by_both : (a b : Bool) → (a && b) ≡ true → b ≡ true
    by_both true b is = is
    by_both false b is = absurd cc

-- where no rotation was begun, none is owed, and one is due by the mark
turns_at : (begun : Bool) (mark : Mark) (owed : Option Turn) (chain : Chain) → StandsAt begun mark (place_of chain) owed → turns owed chain ≡ (is_rotation_due true mark && not begun)
turns_at false mark owed chain stands =
    ap (λ (o : Option Turn). is_none o && is_rotation_due true (place_of chain)) stands.1 ∙ ap (is_rotation_due true) stands.0 ∙ and_true (is_rotation_due true mark)
turns_at true mark owed chain stands = by_place owed stands.1
  where
    by_place : (o : Option Turn) → ((place_of chain ≡ mark) × IsSome o) ⊎ ((place_of chain ≡ next_file mark) × (o ≡ None)) → turns o chain ≡ (is_rotation_due true mark && false)
    by_place None (inl at) = absurd cc
    by_place (Some turn) (inl at) = and_false (is_rotation_due true mark)
    by_place o (inr at) =
        ap (λ (p : Option Turn). is_none p && is_rotation_due true (place_of chain)) at.1 ∙ ap (is_rotation_due true) at.0 ∙ new_not_due mark ∙ and_false (is_rotation_due true mark)

-- at the mark itself
begins_due : (due : Bool) (mark : Mark) (chain : Chain) → place_of chain ≡ mark → beginning due chain ≡ (if due then next_file mark else mark)
begins_due true mark chain at = ap next_file at
begins_due false mark chain at = at

begin_due : (mark : Mark) → is_rotation_due true mark ≡ true → begin_at mark ≡ next_file mark
begin_due mark due = ap (λ (b : Bool). if b then next_file mark else mark) due

begins_at : (begun : Bool) (mark : Mark) (owed : Option Turn) (chain : Chain) → StandsAt begun mark (place_of chain) owed → begin_of owed chain ≡ begin_at mark
begins_at false mark owed chain stands =
    ap (λ (o : Option Turn). begin_of o chain) stands.1
    ∙ ap (λ (m : Mark). beginning (is_rotation_due true m) chain) stands.0
    ∙ begins_due (is_rotation_due true mark) mark chain stands.0
begins_at true mark owed chain stands = by_place owed stands.1
  where
    by_place : (o : Option Turn) → ((place_of chain ≡ mark) × IsSome o) ⊎ ((place_of chain ≡ next_file mark) × (o ≡ None)) → begin_of o chain ≡ begin_at mark
    by_place None (inl at) = absurd cc
    by_place (Some turn) (inl at) = ap next_file at.0 ∙ sym (begin_due mark stands.0)
    by_place o (inr at) =
        ap (λ (p : Option Turn). begin_of p chain) at.1
        ∙ ap (λ (m : Mark). beginning (is_rotation_due true m) chain) at.0
        ∙ at.0
        ∙ sym (begin_due mark stands.0)

-- the place behind records
behind_at : (mark : Mark) (records : List Record) → behind_text (begin_at mark) records ≡ mark_behind true mark (record { records = records })
behind_at mark records = by_due (is_rotation_due true mark)
  where
    size : ℕ
    size = length (flat_map written records)

    by_due : (b : Bool) → behind_text (if b then next_file mark else mark) records
        ≡ (if b then record { file_seq = mark.file_seq + 1; offset = header_size + size } else record mark { offset = mark.offset + size })
    by_due true = refl
    by_due false = refl

-- ---- the limit

-- a group of 64 MiB at most fits behind the header of a new file
new_not_full : (mark : Mark) (size : ℕ) → nat_lt group_limit size ≡ false → is_log_full true (next_file mark) size ≡ false
new_not_full mark size small = by_last (nat_lt (mark.file_seq + 1) last_file_seq) (nat_lt log_limit (header_size + size)) refl
  where
    by_last : (a b : Bool) → nat_lt log_limit (header_size + size) ≡ b → (not a && b) ≡ false
    by_last true b is = refl
    by_last false true is = absurd (grind (arith, nat_tests))
    by_last false false is = refl

-- nor is a log full for which a new file can be begun
due_not_full : (mark : Mark) (size : ℕ) → is_rotation_due true mark ≡ true → is_log_full true mark size ≡ false
due_not_full mark size due = ap (λ (b : Bool). not b && nat_lt log_limit (mark.offset + size)) (due_seq mark due)

-- so the limit is the same at either
limit_new : (c : Command) (m : Mailbox) (mark : Mark) (g : Group) → is_rotation_due true mark ≡ true → limit_of c m true (next_file mark) g ≡ limit_of c m true mark g
limit_new c m mark g due = by_size (nat_lt group_limit (length (group_text g))) refl
  where
    size : ℕ
    size = length (group_text g)

    before : Option Reply → Option Reply
    before rest = if is_append c && nat_eq m.next_uid end_of_uids then Some reply.UidsUsedUp else (if nat_lt message_limit (length (message_of c)) then Some (reply.TooLong (length (message_of c))) else rest)

    by_size : (b : Bool) → nat_lt group_limit size ≡ b
        → before (if b then Some (reply.TooLong size) else (if is_log_full true (next_file mark) size then Some (reply.TooLong size) else None))
        ≡ before (if b then Some (reply.TooLong size) else (if is_log_full true mark size then Some (reply.TooLong size) else None))
    by_size true is = refl
    by_size false is = ap (λ (b : Bool). before (if b then Some (reply.TooLong size) else None)) (new_not_full mark size is ∙ sym (due_not_full mark size due))

limit_at : (begun : Bool) (c : Command) (m : Mailbox) (mark place : Mark) (owed : Option Turn) (g : Group) → StandsAt begun mark place owed → limit_of c m true place g ≡ limit_of c m true mark g
limit_at false c m mark place owed g stands = ap (λ (k : Mark). limit_of c m true k g) stands.0
limit_at true c m mark place owed g stands = by_place stands.1
  where
    by_place : ((place ≡ mark) × IsSome owed) ⊎ ((place ≡ next_file mark) × (owed ≡ None)) → limit_of c m true place g ≡ limit_of c m true mark g
    by_place (inl at) = ap (λ (k : Mark). limit_of c m true k g) at.0
    by_place (inr at) = ap (λ (k : Mark). limit_of c m true k g) at.0 ∙ limit_new c m mark g stands.0

-- ---- the clock

count_is : (b : Bool) → count_of b ≡ (if b then 1 else 0)
count_is true = refl
count_is false = refl

-- ---- a chain that stands where a play is

module _ (play : Play) (owed : Option Turn) (chain : Chain) (rotates : play.log.rotates ≡ true) (stands : StandsAt play.begun play.mark (place_of chain) owed) where
  pub turns_here : turns owed chain ≡ begins_file play
  turns_here =
      turns_at play.begun play.mark owed chain stands ∙ ap (λ (b : Bool). is_rotation_due b play.mark && not play.begun) (sym rotates)

  pub begin_here : begin_of owed chain ≡ begin_at play.mark
  begin_here = begins_at play.begun play.mark owed chain stands

  pub end_idle : (records : List Record) → records ≡ [] → end_with owed chain records ≡ place_of chain
  end_idle records none = ap (end_with owed chain) none

  pub end_here : (g : Group) → is_empty g ≡ false → end_with owed chain g.records ≡ mark_behind play.log.rotates play.mark g
  end_here g some = by_records g.records some ∙ ap (λ (b : Bool). mark_behind b play.mark g) (sym rotates)
    where
      by_records : (rs : List Record) → nat_eq (length rs) 0 ≡ false → end_with owed chain rs ≡ mark_behind true play.mark (record { records = rs })
      by_records [] is = absurd cc
      by_records (r ∷ rs) is = ap (λ (mark : Mark). behind_text mark (r ∷ rs)) begin_here ∙ behind_at play.mark (r ∷ rs)

  -- the limit, with the play's mark
  pub limit_here : (c : Command) (g : Group) → limit_of c chain.live.mailbox true (place_of chain) g ≡ limit_of c chain.live.mailbox play.log.rotates play.mark g
  limit_here c g =
      limit_at play.begun c chain.live.mailbox play.mark (place_of chain) owed g stands ∙ ap (λ (b : Bool). limit_of c chain.live.mailbox b play.mark g) (sym rotates)

  readings_here : count_of (turns owed chain) ≡ file_readings play
  readings_here = count_is (turns owed chain) ∙ ap (λ (b : Bool). if b then 1 else 0) turns_here

  module _ (clock upcoming : ℕ → ℕ) (readings : upcoming ≡ behind clock play.used) where
    pub received_here : received_at (turns owed chain) upcoming ≡ clock (play.used + file_readings play)
    received_here = ap (λ (f : ℕ → ℕ). f (count_of (turns owed chain))) readings ∙ ap (λ (n : ℕ). clock (play.used + n)) readings_here

    -- what a write with a group leaves of the clock
    pub clock_here : (line : Line) → is_empty (group_here play line) ≡ false → behind upcoming (readings_of line.1 owed chain) ≡ behind clock (used_by play line)
    clock_here line some = λ i k. (ap (λ (f : ℕ → ℕ). f (readings_of line.1 owed chain + k)) readings ∙ ap clock (sum k)) i
      where
        parts : readings_of line.1 owed chain ≡ file_readings play + message_readings line
        parts = ap (λ (n : ℕ). n + count_of (is_append line.1)) readings_here ∙ ap (λ (n : ℕ). file_readings play + n) (count_is (is_append line.1))

        used : used_by play line ≡ play.used + file_readings play + message_readings line
        used = ap (λ (b : Bool). if b then play.used else play.used + file_readings play + message_readings line) some

        sum : (k : ℕ) → play.used + (readings_of line.1 owed chain + k) ≡ used_by play line + k
        sum k = let n = parts in let m = used in omega (arith, n, m)

-- ---- the play behind a line

-- the play with a group that has a record
abbrev pub written_here : (ℕ → ℕ) → Play → Line → Play
written_here clock play line = record play {
  log = with_written play.log line.0 line.1 (clock (play.used + file_readings play)) (group_here play line) play.mailbox;
  mailbox = unwrap_or (applied play.mailbox (group_here play line).records) play.mailbox;
  mark = mark_behind play.log.rotates play.mark (group_here play line);
  begun = false;
  used = used_by play line;
}

module _ (clock : ℕ → ℕ) (play : Play) (line : Line) where
  pub with_group : is_empty (group_here play line) ≡ false → with_group_here clock play line ≡ written_here clock play line
  with_group some = ap (λ (b : Bool). if b then play else written_here clock play line) some

  pub without_group : is_empty (group_here play line) ≡ true → with_group_here clock play line ≡ play
  without_group none = ap (λ (b : Bool). if b then play else written_here clock play line) none

-- ---- a store that stands where a play is, and a line of a session with this view

module _ {S C : Type 0} (play : Play) (line : Line) (view : View) (store : State S C) (meets : Meets play line view store) where
  -- the group and the limit are the play's
  pub group_met : group_of line.1 view store.chain.live.mailbox play.log.guid ≡ group_here play line
  group_met =
      ap (λ (v : View). group_of line.1 v store.chain.live.mailbox play.log.guid) (sym meets.seen) ∙ ap (λ (m : Mailbox). group_of line.1 (play.states line.0).view m play.log.guid) (sym meets.mailbox)

  pub limit_met : limit_over line.1 view store.chain play.log.guid ≡ limit_of line.1 play.mailbox play.log.rotates play.mark (group_here play line)
  limit_met =
      ap (λ (g : Group). limit_of line.1 store.chain.live.mailbox true (place_of store.chain) g) group_met
      ∙ limit_here play store.owed store.chain meets.rotates meets.place line.1 (group_here play line)
      ∙ ap (λ (m : Mailbox). limit_of line.1 m play.log.rotates play.mark (group_here play line)) (sym meets.mailbox)

  module _ (received : ℕ) where
    -- the write of the line, with the reading for its message
    abbrev pub write_met : Write
    write_met = write_at line.0 line.1 view received

    pub group_by_met : group_by play.log write_met store.chain.live.mailbox ≡ group_here play line
    group_by_met = group_met

    pub text_by_met : text_by play.log write_met store.chain.live.mailbox ≡ text_here play line
    text_by_met = ap (λ (g : Group). group_text g ++ closing) group_met

    -- where the group has a record, the log with it is the play's, and it ends at the play's mark
    module _ (clock : ℕ → ℕ) (reading : received ≡ clock (play.used + file_readings play)) (some : is_empty (group_here play line) ≡ false) where
      pub log_met : log_with play.log write_met store.chain.live.mailbox ≡ (with_group_here clock play line).log
      log_met =
          ap (λ (g : Group). with_written play.log line.0 line.1 received g store.chain.live.mailbox) group_met
          ∙ ap (λ (r : ℕ). with_written play.log line.0 line.1 r (group_here play line) store.chain.live.mailbox) reading
          ∙ ap (λ (m : Mailbox). with_written play.log line.0 line.1 (clock (play.used + file_readings play)) (group_here play line) m) (sym meets.mailbox)
          ∙ ap (λ (p : Play). p.log) (sym (with_group clock play line some))

      pub mark_met : end_with store.owed store.chain (group_here play line).records ≡ (with_group_here clock play line).mark
      mark_met = end_here play store.owed store.chain meets.rotates meets.place (group_here play line) some ∙ ap (λ (p : Play). p.mark) (sym (with_group clock play line some))

      pub mailbox_met : (after : Mailbox) → applied store.chain.live.mailbox (group_here play line).records ≡ Some after → (with_group_here clock play line).mailbox ≡ after
      mailbox_met after gives =
          ap (λ (p : Play). p.mailbox) (with_group clock play line some)
          ∙ ap (λ (m : Mailbox). unwrap_or (applied m (group_here play line).records) play.mailbox) meets.mailbox
          ∙ ap (λ (o : Option Mailbox). unwrap_or o play.mailbox) gives

  -- the readings of the clock behind the group
  pub used_met : (clock upcoming : ℕ → ℕ) → upcoming ≡ behind clock play.used → is_empty (group_here play line) ≡ false → behind upcoming (readings_of line.1 store.owed store.chain) ≡ behind clock (with_group_here clock play line).used
  used_met clock upcoming readings some =
      clock_here play store.owed store.chain meets.rotates meets.place clock upcoming readings line some ∙ ap (λ (p : Play). behind clock p.used) (sym (with_group clock play line some))
