use Rattle.std.proofs.Common.{◌≡◌, ℕ, ◌<◌, ◌≤◌, List, [], length, fold, get_or, refl, ap, sym, ◌∙◌, subst, arith}
use Rattle.std.specs.Prelude.{All}
use Rattle.std.proofs.lemmas.List.{take_all}
use Rattle.std.proofs.lemmas.List.Sums.{fold_more}
use Rattle.dv_model.specs.declared.types.Current.{Current}
use Rattle.dv_model.specs.declared.types.Mailbox.{Mailbox}
use Rattle.dv_model.specs.declared.types.Row.{Row}
use Rattle.dv_model.specs.Effects.{with_item, with_update}
use Rattle.dv_rows.specs.Changed.{written_at_front}
use Rattle.dv_apply.specs.Alike.{IsWide}
use Rattle.dv_apply.proofs.Extending.{alike_again, alike_at, alike_itself, wide_rows, written_row}
use Rattle.dv_apply.proofs.parts.write_parts.Goals as goal

same_short : (a b : ℕ) → a ≡ b → a ≤ b
same_short a b e = omega arith

pub loop-at-init : goal.loop-at-init
loop-at-init c = record {
  is = λ m e. ap (λ (rs : List Row). record m { rows = rs }) e;
  wide = c.requires;
  alike = alike_itself c.args.rows.now.rows;
  room = refl;
}

pub set_part-requires : goal.set_part-requires
set_part-requires c = subst (λ (n : ℕ). All (IsWide c.args.place n) c.loop-at.rows.rows) (sym c.get-uid.ensures.size) c.loop-at.invariant.wide

pub loop-at-preserved : goal.loop-at-preserved
loop-at-preserved c =
    let place = c.args.place in
    let size = c.args.updates.now.size in
    let updates = c.args.updates.now.rows in
    let at = c.loop-at.at in
    let update : List ℕ = get_or updates at [] in
    let uid = c.get-uid.result.0 in
    let bytes = c.get-uid.result.1.now in
    let current : Current = record { extension = place; size = size } in
    let less : at < length updates = omega (arith, c.loop-at-test.true, c.len-at-end.ensures) in
    record {
      is = λ m e.
          fold_more (with_update current) m updates at [] less
          ∙ ap (λ (x : Mailbox). with_update current x update) (c.loop-at.invariant.is m e)
          ∙ written_row place size uid update bytes (record m { rows = c.loop-at.rows.rows }) c.set_part.new.self.rows c.get-uid.ensures.uid c.get-uid.ensures.bytes c.get-uid.ensures.size c.set_part.ensures.rows;
      wide = wide_rows place size uid bytes c.loop-at.rows.rows c.set_part.new.self.rows (same_short (length bytes) size c.get-uid.ensures.size) c.loop-at.invariant.wide c.set_part.ensures.rows;
      alike = alike_again c.args.rows.now.rows c.loop-at.rows.rows c.set_part.new.self.rows c.loop-at.invariant.alike (alike_at c.loop-at.rows.rows c.set_part.new.self.rows uid (with_item place (written_at_front bytes)) c.set_part.ensures.rows);
      room = c.set_part.ensures.room ∙ c.loop-at.invariant.room;
    }

pub returns-clause-is : goal.returns-clause-is
returns-clause-is c =
    let updates = c.args.updates.now.rows in
    let current : Current = record { extension = c.args.place; size = c.args.updates.now.size } in
    let past : length updates ≤ c.loop-at.at = omega (arith, c.loop-at-test.false, c.len-at-end.ensures) in
    λ m e. ap (fold (with_update current) m) (sym (take_all c.loop-at.at updates past)) ∙ c.loop-at.invariant.is m e
