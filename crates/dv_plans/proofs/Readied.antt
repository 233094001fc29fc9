-- A group that is ready over a chain's mailbox is ready behind what is owed and due.
use Rattle.std.proofs.Common.{◌≡◌, ℕ, ◌+◌, ◌<◌, ◌≤◌, ◌&&◌, ◌||◌, Bool, true, false, not, List, ◌++◌, length, nat_le, nat_lt, Option, Some, None, is_none, is_some, refl, sym, ◌∙◌, ap, subst, arith, length-append}
use Rattle.std.specs.Prelude.{IfSome}
use Rattle.std.proofs.lemmas.Bool.{leb-false, ltb-false, ltb-true}
use Rattle.dv_model.specs.declared.types.Group.{Group}
use Rattle.dv_model.specs.Effects.{applied}
use Rattle.dv_model.specs.Journals.{last_file_seq, rotate_at}
use Rattle.dv_model.specs.Sessions.{group_limit, is_log_full, log_limit}
use Rattle.dv_model.specs.Spelling.{group_text}
use Rattle.dv_logfile.specs.Layout.{closing, longest_log}
use Rattle.dv_chain.specs.declared.chain.Chain.{Chain}
use Rattle.dv_chain.specs.Rest.{IsPending}
use Rattle.dv_apply.specs.Preparing.{Makes}
use Rattle.dv_apply.specs.States.{Held}
use Rattle.dv_writing.specs.Commits.{IsReady}
use Rattle.dv_files.specs.declared.texts.Turn.{Turn}
use Rattle.dv_writing.specs.Repairing.{IsOwing}
use Rattle.dv_files.specs.Texts.{IsTurnOf, place_of}
use Rattle.dv_writing.specs.Ways.{IsDue, ready}
use Rattle.dv_plans.specs.declared.groups.Written.{Written}
use Rattle.dv_plans.specs.Begins.{beginning, turns}
use Rattle.dv_plans.specs.Groups.{IsGroupReady}

-- ---- the chain behind what is owed and due

pub ready_live : (owed turn : Option Turn) (chain : Chain) → (ready owed turn chain).live ≡ chain.live
ready_live None None chain = refl
ready_live None (Some turn) chain = refl
ready_live (Some made) None chain = refl
ready_live (Some made) (Some turn) chain = refl

pub ready_indexid : (owed turn : Option Turn) (chain : Chain) → (ready owed turn chain).indexid ≡ chain.indexid
ready_indexid None None chain = refl
ready_indexid None (Some turn) chain = refl
ready_indexid (Some made) None chain = refl
ready_indexid (Some made) (Some turn) chain = refl

pub ready_place : (owed turn : Option Turn) (chain : Chain) → IsDue owed chain turn → place_of (ready owed turn chain) ≡ beginning (is_some owed || is_some turn) chain
ready_place None None chain due = refl
ready_place None (Some turn) chain due = refl
ready_place (Some made) None chain due = refl
ready_place (Some made) (Some turn) chain due = absurd (let none = due.2 in cc)

-- ---- room

not_due : (end seq size : ℕ) → (nat_le rotate_at end && nat_lt seq last_file_seq) ≡ false → size ≤ group_limit → (not (nat_lt seq last_file_seq) && nat_lt log_limit (end + size)) ≡ false → end + size ≤ log_limit
not_due end seq size none short room = by_tests (nat_le rotate_at end) (nat_lt seq last_file_seq) (nat_lt log_limit (end + size)) refl refl none room
  where
    by_tests : (long later full : Bool) → nat_le rotate_at end ≡ long → nat_lt log_limit (end + size) ≡ full → (long && later) ≡ false → (not later && full) ≡ false → end + size ≤ log_limit
    by_tests true true full is past none room = absurd cc
    by_tests false true full is past none room = let low = leb-false rotate_at end is in omega (arith, low, short)
    by_tests long false true is past none room = absurd cc
    by_tests long false false is past none room = ltb-false log_limit (end + size) past

pub room_left : (owed turn : Option Turn) (chain : Chain) (size : ℕ) → is_some turn ≡ turns owed chain → size ≤ group_limit → is_log_full true (place_of chain) size ≡ false → (ready owed turn chain).log.end + (size + 4) ≤ longest_log
room_left None None chain size due short room = let fits = not_due chain.log.end chain.log.file_seq size (sym due) short room in omega (arith, fits)
room_left None (Some turn) chain size due short room = omega (arith, short)
room_left (Some made) None chain size due short room = omega (arith, short)
room_left (Some made) (Some turn) chain size due short room = omega (arith, short)

-- ---- what is due

due_tests : (a b d : Bool) → (a && (b && d)) ≡ true → (a ≡ true) × (d ≡ true)
due_tests true true true is = (refl, refl)
due_tests false b d is = absurd cc
due_tests true false d is = absurd cc
due_tests true true false is = absurd cc

none_of : (owed : Option Turn) → is_none owed ≡ true → owed ≡ None
none_of None is = refl
none_of (Some turn) is = absurd cc

next_file : (owed : Option Turn) (chain : Chain) → turns owed chain ≡ true → (chain.log.file_seq < 4294967295) × (owed ≡ None)
next_file owed chain due =
    let tests = due_tests (is_none owed) (nat_le rotate_at chain.log.end) (nat_lt chain.log.file_seq last_file_seq) due in
    (ltb-true chain.log.file_seq last_file_seq tests.1, none_of owed tests.0)

pub due_of : (owed turn : Option Turn) (chain : Chain) → is_some turn ≡ turns owed chain → IfSome turn (IsTurnOf chain) → IsDue owed chain turn
due_of owed None chain due is = tt {0}
due_of owed (Some turn) chain due is = let next = next_file owed chain (sym due) in (is, next.0, next.1)

pub seq_of : (time : Option ℕ) (owed : Option Turn) (chain : Chain) → is_some time ≡ turns owed chain → IfSome time (λ now. chain.log.file_seq < 4294967295)
seq_of None owed chain due = tt {0}
seq_of (Some now) owed chain due = (next_file owed chain (sym due)).0

pub anew_of : (owed turn : Option Turn) (chain : Chain) → IsOwing chain owed → is_some turn ≡ turns owed chain → (is_some owed || is_some turn) ≡ true → chain.log.file_seq < 4294967295
anew_of (Some made) turn chain owing due anew = owing.owed.room
anew_of None (Some turn) chain owing due anew = (next_file None chain (sym due)).0
anew_of None None chain owing due anew = absurd cc

-- ---- the group

text_length : (group : Group) (text : List ℕ) → text ≡ group_text group ++ closing → length text ≡ length (group_text group) + 4
text_length group text is = ap length is ∙ length-append (group_text group) closing

module _ (owed turn : Option Turn) (chain : Chain) (written : Written) (group : IsGroupReady chain.live written) (room : (ready owed turn chain).log.end + (length (group_text written.group) + 4) ≤ longest_log) where
  pub pending_ready : IsPending written.text group.after (ready owed turn chain)
  pending_ready = record {
    records = written.group.records;
    some = group.some;
    spelled = group.spelled;
    gives = subst (λ (l : Held). applied l.mailbox written.group.records ≡ Some group.after) (sym (ready_live owed turn chain)) group.gives;
    room = let long = text_length written.group written.text group.text in omega (arith, long, room);
  }

  pub group_ready : IsReady written.text written.prepared (ready owed turn chain)
  group_ready = record {
    after = group.after;
    pending = pending_ready;
    makes = subst (λ (l : Held). Makes l written.prepared group.after) (sym (ready_live owed turn chain)) group.makes;
  }
