-- What is known of a command that meets no limit, and of its group's length.
use Rattle.std.proofs.Common.{◌≡◌, ◌≢◌, ℕ, ◌+◌, ◌≤◌, ◌&&◌, Bool, true, false, cond, List, [], ◌∷◌, length, nat_eq, nat_lt, Some, None, refl, sym, ◌∙◌, ap, arith, length-append}
use Rattle.std.specs.Prelude.{flat_map}
use Rattle.std.proofs.lemmas.Bool.{eq-eqb, ltb-false}
use Rattle.std.proofs.lemmas.List.Concat.{flat_map-cons}
use Rattle.dv_model.specs.declared.types.Command.{Command}
use Rattle.dv_model.specs.declared.types.Command.TheVariants as command
use Rattle.dv_model.specs.declared.types.Group.{Group}
use Rattle.dv_model.specs.declared.types.Mailbox.{Mailbox}
use Rattle.dv_model.specs.declared.types.Mark.{Mark}
use Rattle.dv_model.specs.declared.types.Record.{Record}
use Rattle.dv_model.specs.declared.types.Reply.{Reply}
use Rattle.dv_model.specs.declared.types.Reply.TheVariants as reply
use Rattle.dv_model.specs.Mailboxes.{IsValid}
use Rattle.dv_model.specs.Sessions.{deleted_uids, end_of_uids, group_limit, group_of, is_append, is_log_full, limit_of, message_limit, message_of, removed_uids}
use Rattle.dv_model.specs.Spelling.{group_text, written}
use Rattle.dv_model.specs.Views.{View}
use Rattle.dv_validity.specs.Entries.{HasUidLeft}
use Rattle.dv_groups.proofs.Measured.{check_records-length, expunges-length, written_length}
use Rattle.dv_groups.specs.Groups.{HasSizes}
use Rattle.dv_groups.specs.Lengths.{records_length}
use Rattle.dv_plans.specs.Befores.{HasFewRows}

-- ---- no limit is met

none_met : (a b c d : Bool) (w x y z : Reply) → cond a (Some w) (cond b (Some x) (cond c (Some y) (cond d (Some z) None))) ≡ None → (a ≡ false) × (c ≡ false) × (d ≡ false)
none_met true b c d w x y z none = absurd cc
none_met false true c d w x y z none = absurd cc
none_met false false true d w x y z none = absurd cc
none_met false false false true w x y z none = absurd cc
none_met false false false false w x y z none = (refl, refl, refl)

pub record Passes (c : Command) (m : Mailbox) (mark : Mark) (size : ℕ) : Type 0 where
  pub left : (is_append c && nat_eq m.next_uid end_of_uids) ≡ false
  pub short : size ≤ group_limit
  pub room : is_log_full true mark size ≡ false

pub passes : (c : Command) (m : Mailbox) (mark : Mark) (g : Group) → limit_of c m true mark g ≡ None → Passes c m mark (length (group_text g))
passes c m mark g none =
    let size : ℕ = length (group_text g) in
    let all = none_met (is_append c && nat_eq m.next_uid end_of_uids) (nat_lt message_limit (length (message_of c))) (nat_lt group_limit size) (is_log_full true mark size) reply.UidsUsedUp (reply.TooLong (length (message_of c))) (reply.TooLong size) (reply.TooLong size) none in
    record { left = all.0; short = ltb-false group_limit size all.1; room = all.2 }

pub uid_left : (c : Command) (m : Mailbox) (mark : Mark) (size : ℕ) → IsValid m → Passes c m mark size → HasUidLeft c m
uid_left c m mark size valid passed append =
    let other : m.next_uid ≢ end_of_uids = λ same. by_tests (is_append c) (nat_eq m.next_uid end_of_uids) append (eq-eqb m.next_uid end_of_uids same) passed.left in
    let below = valid.next_uid.1 in
    omega (arith, other, below)
  where
    by_tests : (a b : Bool) → a ≡ true → b ≡ true → (a && b) ≡ false → ⊥
    by_tests true true one two none = absurd cc
    by_tests false b one two none = absurd cc
    by_tests true false one two none = absurd cc

-- ---- lengths

pub same_size : (c : Command) (view : View) (m : Mailbox) (guid other : ℕ → List ℕ) → HasSizes guid → HasSizes other → length (group_text (group_of c view m guid)) ≡ length (group_text (group_of c view m other))
same_size command.Expunge view m guid other sizes others = expunges-length guid sizes (deleted_uids m) ∙ sym (expunges-length other others (deleted_uids m))
same_size (command.UidRemove set) view m guid other sizes others = expunges-length guid sizes (removed_uids set view m) ∙ sym (expunges-length other others (removed_uids set view m))
same_size (command.Append flags keywords message) view m guid other sizes others = refl
same_size (command.Store by_uid set h flags keywords since) view m guid other sizes others = refl
same_size command.Check view m guid other sizes others = refl
same_size c view m guid other sizes others = refl

pub few_rows : (c : Command) (view : View) (m : Mailbox) (mark : Mark) (guid : ℕ → List ℕ) → Passes c m mark (length (group_text (group_of c view m guid))) → HasFewRows c m
few_rows command.Check view m mark guid passed =
    let size : length (group_text (group_of command.Check view m guid)) ≡ 52 + records_length 0 8 (length m.rows) = check_records-length m in
    let short = passed.short in
    omega (arith, size, short)
few_rows c view m mark guid passed = tt {0}

-- ---- a group without a text

has_text : (r : Record) (rs : List Record) → length (flat_map written (r ∷ rs)) ≡ 0 → ⊥
has_text r rs none =
    let all : length (flat_map written (r ∷ rs)) ≡ length (written r) + length (flat_map written rs) = ap length (flat_map-cons written r rs) ∙ length-append (written r) (flat_map written rs) in
    absurd (omega (arith, none, all, written_length r))

pub no_record : (records : List Record) → length (flat_map written records) ≡ 0 → records ≡ []
no_record [] none = refl
no_record (r ∷ rs) none = absurd (has_text r rs none)

pub no_text : (records : List Record) → records ≡ [] → length (flat_map written records) ≡ 0
no_text records none = ap (λ (rs : List Record). length (flat_map written rs)) none
