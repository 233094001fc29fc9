use Rattle.std.proofs.Common.{◌≡◌, ◌⊎◌, ◌↔◌, ℕ, ◌++◌, ◌≤◌, List, Some, length, nat_le, take, ap, sym, ◌∙◌, subst, arith}
use Rattle.std.specs.Prelude.{Contains, count_by}
use Rattle.std.specs.List.Sorted.{IsStrictlyIncreasing}
use Rattle.dv_keywords.specs.Tables.{Keywords}
use Rattle.dv_model.specs.declared.types.Mailbox.{Mailbox}
use Rattle.dv_model.specs.declared.types.Row.{Row}
use Rattle.dv_model.specs.Effects.{applied}
use Rattle.dv_portion.specs.Portions.{portion}
use Rattle.dv_rows.specs.Parted.{HasUid, is_parted}
use Rattle.dv_touched.specs.Telling.{Differs}
use Rattle.dv_apply.proofs.Lending.{bad_by}
use Rattle.dv_apply.proofs.Readying.{holds_new, ready, refused_whole}
use Rattle.dv_apply.specs.declared.share.Made.{Made}
use Rattle.dv_apply.specs.Preparing.{Part, alone}
use Rattle.dv_apply.specs.States.{Held, Kept, held_of, mailbox_of}
use Rattle.dv_apply.proofs.prepare.make_share.Goals as goal

pub apply_apart-requires-clause-rising : goal.apply_apart-requires-clause-rising
apply_apart-requires-clause-rising c = subst IsStrictlyIncreasing (sym c.deref.ensures.value) c.requires.uids.rising

pub returns-in-Err-clause-bad : goal.returns-in-Err-clause-bad
returns-in-Err-clause-bad c =
    let m : Mailbox = mailbox_of c.args.state.now in
    bad_by Made c.apply_apart.result c.in-Err.e _ _ c.in-Err.is c.apply_apart.ensures.bad
    (λ x h. refused_whole (is_parted c.deref.result.now m.next_uid) m c.args.records.now x (holds_new c.deref.result.now m.next_uid) h)

pub returns-clause-ok : goal.returns-clause-ok
returns-clause-ok c =
    let m : Mailbox = mailbox_of c.args.state.now in
    let rs = c.args.records.now in
    let live : Held = held_of c.reserve.new.state in
    let uids : List ℕ = c.args.uids.items in
    let share = c.in-Ok.share in
    let p : Part = record { uids = uids; share = share; appended = c.count_new-appended.result; touched = c.in_ok-touched.touched } in
    let apart = c.apply_apart.new.state in
    let hidden : apart.names.kept ≡ live.hidden = sym (ap (λ (k : Keywords). k.kept) c.reserve.ensures.names) in
    let keywords : apart.names.names ≡ m.keywords = ap (λ (k : Kept). k.mailbox.keywords) c.apply_apart.ensures.is in
    let rows : apart.rows.rows ≡ m.rows = ap (λ (k : Kept). k.mailbox.rows) c.apply_apart.ensures.is in
    let bound : apart.next_uid ≡ m.next_uid = ap (λ (k : Kept). k.mailbox.next_uid) c.apply_apart.ensures.is in
    ready m rs live p
    (record {
      valid = c.requires.kept.valid;
      range = c.in-Ok.ensures.range;
      uids = c.requires.uids;
      names = subst (λ (ns : List (List ℕ)). share.names ≤ length ns) hidden c.in-Ok.ensures.names;
      applied =
          ap (λ (us : List ℕ). applied (portion (is_parted us m.next_uid) m) rs) (sym c.deref.ensures.value)
          ∙ c.in-Ok.ensures.ok
          ∙ ap (λ (ns : List (List ℕ)). Some (alone (ns ++ take share.names apart.names.kept) share)) keywords
          ∙ ap (λ (ns : List (List ℕ)). Some (alone (m.keywords ++ take share.names ns) share)) hidden;
      appended = sym (c.count_new-appended.ensures ∙ ap (λ (n : ℕ). count_by (λ (row : Row). nat_le n row.uid) share.rows.rows) bound);
      spare_is = omega (arith, c.in_ok-reserve.ensures.ok);
      touched = λ uid.
          subst (λ (us : List ℕ). Contains c.in_ok-touched.touched uid ↔ ((Contains us uid ⊎ HasUid share.rows.rows uid) × Differs m.rows share.rows.rows uid))
          c.deref-2.ensures.value
          (subst (λ (rs : List Row). Contains c.in_ok-touched.touched uid ↔ ((Contains c.deref-2.result.now uid ⊎ HasUid share.rows.rows uid) × Differs rs share.rows.rows uid)) rows (c.in_ok-touched.ensures uid));
    })
    (c.reserve.ensures.is ∙ ap (λ (k : Kept). k.mailbox) c.apply_apart.ensures.is)
