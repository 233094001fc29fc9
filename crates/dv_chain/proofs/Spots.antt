-- Records with their places, applied one behind another.
use Rattle.std.proofs.Common.{◌≡◌, List, [], ◌∷◌, ◌++◌, map, Option, Some, None, ap}
use Rattle.std.specs.Prelude.{option_and_then}
use Rattle.std.proofs.lemmas.Option.{same_Some}
use Rattle.dv_model.specs.declared.types.Mailbox.{Mailbox}
use Rattle.dv_model.specs.Effects.{after_record, applied}
use Rattle.dv_logfile.specs.Scans.{Spot}
use Rattle.dv_openings.specs.Openings.{Gives, Refused, spots_applied}

same_Gives : (m n : Mailbox) → Gives m ≡ Gives n → m ≡ n
same_Gives m n is = cc

-- behind others
pub spots_then : (m n : Mailbox) (spots more : List Spot) → spots_applied m spots ≡ Gives n → spots_applied m (spots ++ more) ≡ spots_applied n more
spots_then m n [] more is = ap (λ (x : Mailbox). spots_applied x more) (same_Gives m n is)
spots_then m n (spot ∷ spots) more is = by_after (after_record m spot.is) (λ next e. spots_then next n spots more e) is
  where
    by_after : (o : Option Mailbox) → ((next : Mailbox) → spots_applied next spots ≡ Gives n → spots_applied next (spots ++ more) ≡ spots_applied n more)
        → elim o [ None ↦ Refused spot.place | Some next ↦ spots_applied next spots ] ≡ Gives n
        → elim o [ None ↦ Refused spot.place | Some next ↦ spots_applied next (spots ++ more) ] ≡ spots_applied n more
    by_after None step e = absurd cc
    by_after (Some next) step e = step next e

-- they have the effect of the records
pub spots_give : (m after : Mailbox) (spots : List Spot) → applied m (map (λ (s : Spot). s.is) spots) ≡ Some after → spots_applied m spots ≡ Gives after
spots_give m after [] is = ap Gives (same_Some m after is)
spots_give m after (spot ∷ spots) is = by_after (after_record m spot.is) (λ next e. spots_give next after spots e) is
  where
    by_after : (o : Option Mailbox) → ((next : Mailbox) → applied next (map (λ (s : Spot). s.is) spots) ≡ Some after → spots_applied next spots ≡ Gives after)
        → option_and_then (λ n. applied n (map (λ (s : Spot). s.is) spots)) o ≡ Some after
        → elim o [ None ↦ Refused spot.place | Some next ↦ spots_applied next spots ] ≡ Gives after
    by_after None step e = absurd cc
    by_after (Some next) step e = step next e
