-- The records of a copy, a drop and a save have a spelling, and apply to any map.
use Rattle.std.proofs.Common.{◌≡◌, ℕ, Bool, false, cond, List, [], ◌∷◌, Some, None, refl, sym, subst, arith}
use Rattle.std.specs.Prelude.{All, IsSome, codes, nat_lt}
use Rattle.std.specs.Option.{option_and_then, option_map}
use Rattle.std.proofs.lemmas.Bool.Decides.{nat_tests}
use Rattle.std.proofs.lemmas.List.Elements.{All-cons, All-nil}
use Rattle.dv_model.specs.declared.types.Body.TheVariants as body
use Rattle.dv_model.specs.declared.types.Mailbox.{Mailbox}
use Rattle.dv_model.specs.declared.types.Record.{Record}
use Rattle.dv_model.specs.Effects.{applied, stamped, with_higher, with_row}
use Rattle.dv_model.specs.Sessions.{external}
use Rattle.dv_model.specs.Spelling.{AreIntroNumbers, IsRecord, IsUid}
use Rattle.dv_records.proofs.Valid.{valid_append, valid_ext_intro, valid_ext_record_update}
use Rattle.dv_maps.specs.declared.place.Place.{Place}
use Rattle.dv_maps.specs.Groups.{count_records, count_row, intro_of, map_intro, place_row, ref_intro, save_records, update_of}
use Rattle.dv_maps.specs.Laws.{CountsAreWritten, SavesAreWritten}

numbers_map : AreIntroNumbers (intro_of (codes "map") 12 4)
numbers_map = record { wide = (omega arith, omega arith, omega arith); short = (omega arith, omega arith, omega arith, omega arith) }

numbers_ref : AreIntroNumbers (intro_of (codes "ref") 2 2)
numbers_ref = record { wide = (omega arith, omega arith, omega arith); short = (omega arith, omega arith, omega arith, omega arith) }

pub map_spelled : IsRecord map_intro
map_spelled = valid_ext_intro 0 (intro_of (codes "map") 12 4 ∷ []) (omega arith) (omega arith) (numbers_map, tt) (omega arith)

ref_spelled : IsRecord ref_intro
ref_spelled = valid_ext_intro 0 (intro_of (codes "ref") 2 2 ∷ []) (omega arith) (omega arith) (numbers_ref, tt) (omega arith)

counts_spelled : (id count : ℕ) → All IsRecord (count_records id count)
counts_spelled id count =
    All-cons IsRecord ref_intro (update_of (count_row id count) ∷ []) ref_spelled
    (All-cons IsRecord (update_of (count_row id count)) [] (valid_ext_record_update 0 (count_row id count) (omega arith) refl (omega arith)) (All-nil IsRecord))

pub counts_written : CountsAreWritten
counts_written m id count = record { spelled = counts_spelled id count; applies = refl; bytes = refl }

module _ (m : Mailbox) (place : Place) (is : IsUid m.next_uid) where
  abbrev append : Record
  append = record { top = external; body = body.Append (record { uid = m.next_uid; flags = 0 } ∷ []) }

  abbrev placed : Record
  placed = update_of (place_row (record { id = m.next_uid; place = place }))

  abbrev rest : List Record
  rest = map_intro ∷ placed ∷ count_records m.next_uid 1

  append_spelled : IsRecord append
  append_spelled = valid_append external (record { uid = m.next_uid; flags = 0 } ∷ []) (omega arith) (is, tt) (omega arith)

  placed_spelled : IsRecord placed
  placed_spelled = valid_ext_record_update 0 (place_row (record { id = m.next_uid; place = place })) (omega arith) refl (omega arith)

  save_spelled : All IsRecord (save_records m.next_uid place)
  save_spelled =
      All-cons IsRecord append rest append_spelled
      (All-cons IsRecord map_intro (placed ∷ count_records m.next_uid 1) map_spelled (All-cons IsRecord placed (count_records m.next_uid 1) placed_spelled (counts_spelled m.next_uid 1)))

  save_applies : IsSome (applied m (save_records m.next_uid place))
  save_applies =
      let test : nat_lt m.next_uid m.next_uid ≡ false = grind (arith, nat_tests) in
      subst (λ (b : Bool). IsSome (option_and_then (λ n. applied n rest) (option_map (stamped m.rows) (cond b None (Some (with_row (with_higher m) (record { uid = m.next_uid; flags = 0 }))))))) (sym test) refl

pub saves_written : SavesAreWritten
saves_written m place is = record { spelled = save_spelled m place is; applies = save_applies m place is; bytes = refl }
