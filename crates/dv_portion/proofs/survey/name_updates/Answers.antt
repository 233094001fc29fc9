use Rattle.std.proofs.Common.{◌≡◌, ◌⊎◌, inl, inr, ℕ, true, get_or, nat_eq, List, [], ap, ◌∙◌, arith, take}
use Rattle.std.specs.Prelude.{Contains}
use Rattle.std.specs.Int.{w32, from_le_bytes}
use Rattle.std.specs.List.{list_any}
use Rattle.std.proofs.lemmas.List.{take_all}
use Rattle.dv_rows.specs.Parted.{HasUid}
use Rattle.dv_portion.proofs.Surveying.{adds_again, adds_by, adds_itself, any_next, named_alone}
use Rattle.dv_portion.proofs.survey.name_updates.Goals as goal

pub loop-at-init : goal.loop-at-init
loop-at-init c = record { named = λ uid h e. absurd cc; adds = adds_itself c.args.rows.now.rows c.args.uids.now.items }

pub returns-in_err-name_uids-clause-adds : goal.returns-in_err-name_uids-clause-adds
returns-in_err-name_uids-clause-adds c =
    adds_again c.args.rows.now.rows c.args.uids.now.items c.loop-at.uids.items c.name_uids.new.uids.items c.loop-at.invariant.adds
    (adds_by c.args.rows.now.rows c.loop-at.uids.items c.name_uids.new.uids.items _ c.name_uids.ensures.kept c.name_uids.ensures.only)

pub loop-at-preserved : goal.loop-at-preserved
loop-at-preserved c = record {
  named = λ uid h e. named_by uid h (any_next (λ (update : List ℕ). nat_eq (from_le_bytes w32 (take 4 update)) uid) c.args.updates.now.rows c.loop-at.at [] (omega (arith, c.loop-at-test.true, c.len-at-end.ensures)) e);
  adds =
      adds_again c.args.rows.now.rows c.args.uids.now.items c.loop-at.uids.items c.name_uids.new.uids.items c.loop-at.invariant.adds
      (adds_by c.args.rows.now.rows c.loop-at.uids.items c.name_uids.new.uids.items _ c.name_uids.ensures.kept c.name_uids.ensures.only);
}
  where
    named_by : (uid : ℕ) → HasUid c.args.rows.now.rows uid
        → (list_any (λ (update : List ℕ). nat_eq (from_le_bytes w32 (take 4 update)) uid) (take c.loop-at.at c.args.updates.now.rows) ≡ true) ⊎ (nat_eq (from_le_bytes w32 (take 4 (get_or c.args.updates.now.rows c.loop-at.at []))) uid ≡ true)
        → Contains c.name_uids.new.uids.items uid
    named_by uid h (inl e) = c.name_uids.ensures.kept uid (c.loop-at.invariant.named uid h e)
    named_by uid h (inr e) = c.in_ok-name_uids.ensures.named uid (h, named_alone c.get-uid.result.0 uid (ap (λ (n : ℕ). nat_eq n uid) c.get-uid.ensures.uid ∙ e))

pub returns-clause-named : goal.returns-clause-named
returns-clause-named c = λ uid h e.
    c.loop-at.invariant.named uid h (ap (list_any (λ (update : List ℕ). nat_eq (from_le_bytes w32 (take 4 update)) uid)) (take_all c.loop-at.at c.args.updates.now.rows (omega (arith, c.loop-at-test.false, c.len-at-end.ensures))) ∙ e)
