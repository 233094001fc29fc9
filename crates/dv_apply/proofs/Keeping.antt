-- What a valid mailbox has that a state keeps, and what a record has that is applied.
use Rattle.std.proofs.Common.{◌≡◌, ◌≢◌, ℕ, ◌-◌, ◌^◌, ◌<◌, ◌≤◌, List, [], None, refl, sym, subst, arith}
use Rattle.std.specs.Prelude.{AllPairs, codes, length}
use Rattle.std.specs.List.Sorted.{IsStrictlyIncreasing}
use Rattle.std.proofs.lemmas.List.Elements.{All-nil, All-weaker}
use Rattle.dv_model.specs.declared.types.Body.{Body}
use Rattle.dv_model.specs.declared.types.Body.TheVariants.{Append, KeywordUpdate}
use Rattle.dv_model.specs.declared.types.Extension.{Extension}
use Rattle.dv_model.specs.declared.types.Mailbox.{Mailbox}
use Rattle.dv_model.specs.declared.types.NewRow.{NewRow}
use Rattle.dv_model.specs.declared.types.Record.{Record}
use Rattle.dv_model.specs.Mailboxes.{AreExtensions, IsRowOf, IsValid, empty_mailbox}
use Rattle.dv_model.specs.Names.{IsName}
use Rattle.dv_model.specs.Spelling.{IsRecord}
use Rattle.dv_rows.specs.Kept.{AreRows}
use Rattle.dv_validity.proofs.Ranges.{record_in_range}
use Rattle.dv_validity.specs.Laws.{HasBytes, IsInRange}
use Rattle.dv_apply.specs.Bodies.{IsOther, IsSound, refused_row}
use Rattle.dv_apply.specs.declared.state.State.{State}
use Rattle.dv_apply.specs.States.{Becomes, IsKept}

pub are_rows : (m : Mailbox) → IsValid m → AreRows m.rows
are_rows m valid = record {
  rising = valid.rising;
  below = All-weaker (IsRowOf m) (λ row. row.uid < 2 ^ 32 - 1) (λ row is. omega (arith, is.uid.1, valid.next_uid.1)) m.rows valid.rows;
}

sound_by : (body : Body) (r : Record) → r.body ≡ body → IsRecord r → IsSound body
sound_by (Append rows) r e is = subst (λ (b : Body). HasBytes b → IsInRange b) e (record_in_range r is) tt
sound_by (KeywordUpdate how name pairs) r e is = subst (λ (b : Body). HasBytes b → IsInRange b) e (record_in_range r is) tt
sound_by body r e is = tt

-- what a record that can be written has
pub sound : (r : Record) → IsRecord r → IsSound r.body
sound r is = sound_by r.body r refl is

pub other : (body : Body) → ((rows : List NewRow) → body ≡ Append rows → ⊥) → IsOther body
other (Append rows) none = none rows refl
other body none = tt

pub never_refused : (m : Mailbox) (body : Body) → IsOther body → refused_row m body ≡ None
never_refused m (Append rows) is = absurd is
never_refused m body is = refl

pub became : (old new : State) (body same : Body) → Becomes old body new → same ≡ body → Becomes old same new
became old new body same is e = subst (λ (b : Body). Becomes old b new) (sym e) is

pub kept_still : (old new : State) → IsKept old → new ≡ old → IsKept new
kept_still old new kept e = subst IsKept (sym e) kept

none_rise : IsStrictlyIncreasing []
none_rise k h = absurd (omega arith)

no_pairs : {X : Type 0} (R : X → X → Type 0) → AllPairs R []
no_pairs R i j d less h = absurd (omega arith)

no_extensions : AreExtensions []
no_extensions = record {
  count = omega arith;
  record_sizes = omega arith;
  headers = All-nil (λ (e : Extension). length e.header ≤ 65536);
  names = All-nil (λ (e : Extension). (1 ≤ length e.name) × (length e.name ≤ 255) × (e.name ≢ codes "keywords"));
  distinct = no_pairs (λ (a b : Extension). a.name ≢ b.name);
}

pub empty_valid : (validity : ℕ) → IsValid (empty_mailbox validity)
empty_valid validity = record {
  next_uid = (omega arith, omega arith);
  rising = none_rise;
  rows = All-nil (IsRowOf (empty_mailbox validity));
  names = (All-nil IsName, no_pairs (λ (a b : List ℕ). a ≢ b));
  extensions = no_extensions;
  current = tt;
  highest = (omega arith, omega arith);
}
