-- What a session is behind a commit and behind what follows it, from what it was before.
use Rattle.std.proofs.Common.{◌≡◌, ◌∙◌, ℕ, ◌+◌, ◌-◌, true, false, Result, Ok, Err, ap, arith, refl, subst, sym}
use mathlib.Core.List.{IsPrefix}
use Rattle.dv_front.proofs.Prefixes.{prefix_trans}
use Rattle.dv_generations.specs.Feeds.{Feed}
use Rattle.dv_plans.specs.declared.fault.StoreFault.{StoreFault}
use Rattle.dv_plans.specs.declared.fault.StoreFault.TheVariants as fault
use Rattle.dv_member.specs.Calls.{IsAsBefore, IsSpent, counted, seeing, turned}
use Rattle.dv_member.specs.Members.{Front, Member, notes_of}
use Rattle.dv_front.specs.Rolls.{ListingView}
use Rattle.dv_shared.specs.declared.written.Written.{Written}
use Rattle.dv_shared.specs.Committing.{counted_behind, with_outcome}
use Rattle.dv_shared.specs.Writing.{refused_behind}
use Rattle.dv_keeper.specs.Sessions.{HasJoined, IsAtNewest}
use Rattle.dv_keeper.specs.Turns.{HasMet, HasSpent, HasTold}

-- what a commit counts
abbrev pub Came : Type 0
Came = Result Written StoreFault

abbrev pub behind : ℕ → Came → Member → Front → ListingView → Member
behind n came old front tables = record old {
  front = front;
  tables = tables;
  wrote = counted_behind n old.wrote came;
  refused = refused_behind old.refused came;
}

outcome_is : (n : ℕ) (came : Came) (s : Member) → with_outcome n came s ≡ behind n came s s.front s.tables
outcome_is n (Ok w) s = refl
outcome_is n (Err (fault.Disk faults)) s = refl
outcome_is n (Err fault.NoMemory) s = refl
outcome_is n (Err fault.UidsUsedUp) s = refl
outcome_is n (Err (fault.TooLong bytes)) s = refl

-- a session that knew more words and then committed
pub committed_is : (n : ℕ) (came : Came) (old f w : Member) → IsAsBefore old f → w ≡ with_outcome n came f → w ≡ behind n came old f.front f.tables
committed_is n came old f w as_before is =
    is ∙ outcome_is n came f ∙ ap (λ (x : Member). behind n came x f.front f.tables) as_before.now

module _ (old : Member) (front : Front) (tables : ListingView) (tables_on : IsPrefix old.tables.items tables.items) where
  newest_from : (w new : Member) → w.tables ≡ tables → IsAtNewest w new → IsAtNewest old new
  newest_from w new is newest = record {
    unsealed = newest.unsealed;
    newest = newest.newest;
    tables = prefix_trans old.tables.items tables.items new.tables.items tables_on (subst (λ (t : ListingView). IsPrefix t.items new.tables.items) is newest.tables);
  }

  module _ (n : ℕ) (w new : Member) where
    pub told_from : (v : Written) (q : ℕ) → v.number ≡ q → w ≡ behind n (Ok v) old front tables → HasTold 0 w new → HasTold (q - n) old new
    told_from v q number is told =
        let wrote : (old.wrote + (v.number - n)) + 0 ≡ old.wrote + (q - n) = omega (arith, number) in
        record {
          newest = newest_from w new (ap (λ (x : Member). x.tables) is) told.newest;
          now =
              subst (λ (x : Member). new ≡ turned (record (seeing x new) { knows_seal = false; holds = counted x.holds; wrote = x.wrote + 0 }) new.follower) is told.now
              ∙ ap (λ (k : ℕ). turned (record (seeing old new) { knows_seal = false; holds = counted old.holds; wrote = k }) new.follower) wrote;
        }

    pub met_from : (e : StoreFault) → w ≡ behind n (Err e) old front tables → HasJoined w new → HasMet e old new
    met_from e is joined = record {
      newest = newest_from w new (ap (λ (x : Member). x.tables) is) joined.newest;
      now = subst (λ (x : Member). new ≡ record (seeing x new) { caught_up = true; knows_seal = false; holds = counted x.holds }) is joined.now;
    }

    pub spent_from : (v : Written) (f : Feed) → v.number ≡ n + 1 → w ≡ behind n (Ok v) old front tables → IsSpent f w new → HasSpent old new
    spent_from v f number is spent =
        let wrote : old.wrote + (v.number - n) ≡ old.wrote + 1 = omega (arith, number) in
        record {
          newest = newest_from w new (ap (λ (x : Member). x.tables) is) (record { unsealed = spent.all.unsealed; newest = spent.all.tables.0 ∙ sym spent.all.newest; tables = spent.all.tables.1 });
          now =
              subst (λ (x : Member). new ≡ record x { front = new.front; tables = new.tables; seen = new.seen; spent = true }) is spent.now
              ∙ ap (λ (k : ℕ). record old { front = new.front; tables = new.tables; seen = new.seen; spent = true; wrote = k }) wrote;
        }

    -- what it has seen is what it had seen
    pub same_seen : (came : Came) → w ≡ behind n came old front tables → notes_of (record old { front = front }) ≡ notes_of old → notes_of w ≡ notes_of old
    same_seen came is same = ap notes_of is ∙ same

    pub before_from : (came : Came) → w ≡ behind n came old front tables → counted_behind n old.wrote came ≡ old.wrote → notes_of (record old { front = front }) ≡ notes_of old → IsAsBefore w new
        → IsAsBefore (record old { refused = refused_behind old.refused came }) new
    before_from came is none same as_before = record {
      now =
          subst (λ (x : Member). new ≡ record x { front = new.front; tables = new.tables }) is as_before.now
          ∙ ap (λ (k : ℕ). record old { front = new.front; tables = new.tables; wrote = k; refused = refused_behind old.refused came }) none;
      notes = as_before.notes ∙ same_seen came is same;
      tables = prefix_trans old.tables.items tables.items new.tables.items tables_on (subst (λ (t : ListingView). IsPrefix t.items new.tables.items) (ap (λ (x : Member). x.tables) is) as_before.tables);
    }
