-- The records of the purge of a file have a spelling, and apply to any map.
use Rattle.std.proofs.Common.{ℕ, zero, suc, ◌+◌, ◌-◌, ◌/◌, List, [], ◌∷◌, ◌++◌, length, map, take, drop, refl, arith}
use Rattle.std.specs.Prelude.{All, IsSome, filter, flat_map}
use Rattle.std.proofs.lemmas.List.Elements.{All-append, All-cons, All-map, All-nil, All-weaker}
use Rattle.dv_model.proofs.Clients.{each_of_all}
use Rattle.dv_model.specs.declared.types.Mailbox.{Mailbox}
use Rattle.dv_model.specs.declared.types.Pair.{Pair}
use Rattle.dv_model.specs.declared.types.Record.{Record}
use Rattle.dv_model.specs.Effects.{applied, is_in_pairs, on_current, stamped, with_higher, with_updates, without_uids}
use Rattle.dv_model.specs.Sessions.{external, first_pieces, piece_size, pieces, ranges_of}
use Rattle.dv_model.specs.Spelling.{IsRecord, IsUid}
use Rattle.dv_records.proofs.Valid.{valid_expunge, valid_ext_record_update}
use Rattle.dv_validity.proofs.Pieces.{IsPiece, IsRange, pieces_are, ranges_are}
use Rattle.dv_maps.specs.declared.mapped.Placed.{Placed}
use Rattle.dv_maps.specs.Groups.{map_intro, move_records, place_row, purge_records}
use Rattle.dv_maps.specs.declared.mapped.Mapped.{Mapped}
use Rattle.dv_maps.specs.Purges.{RewritesAreWritten, all_mapped, is_gone, is_kept, moved}
use Rattle.dv_maps.proofs.Moving.{expunge, place_update, places_length}
use Rattle.dv_maps.proofs.Purged.{all_uids, have_ids, ids_kept}
use Rattle.dv_maps.proofs.Spelled.{map_spelled}

-- ---- spelling

expunge_spelled : (ps : List Pair) → IsPiece IsRange ps → IsRecord (expunge ps)
expunge_spelled ps is = let short = is.short in valid_expunge external ps (omega arith) (each_of_all IsRange ps is.each) (omega (arith, short))

abbrev IsAny : Placed → Type 0
IsAny p = Unit {0}

any_all : (ps : List Placed) → All IsAny ps
any_all [] = All-nil IsAny
any_all (p ∷ ps) = All-cons IsAny p ps (tt {0}) (any_all ps)

update_spelled : (ps : List Placed) → IsPiece IsAny ps → IsRecord (place_update ps)
update_spelled ps is =
    let short = is.short in
    let long = places_length ps in
    valid_ext_record_update 0 (flat_map place_row ps) (omega arith) (omega (arith, long)) (omega (arith, short, long))

expunges_spelled : (ps : List Pair) → All IsRange ps → All IsRecord (map expunge (pieces ps))
expunges_spelled ps all = All-map IsRecord expunge (pieces ps) (All-weaker (IsPiece IsRange) (λ (piece : List Pair). IsRecord (expunge piece)) expunge_spelled (pieces ps) (pieces_are IsRange ps all))

moves_spelled : (ps : List Placed) → All IsRecord (move_records ps)
moves_spelled [] = All-nil IsRecord
moves_spelled (p ∷ ps) =
    All-cons IsRecord map_intro (map place_update (pieces (p ∷ ps))) map_spelled
    (All-map IsRecord place_update (pieces (p ∷ ps)) (All-weaker (IsPiece IsAny) (λ (piece : List Placed). IsRecord (place_update piece)) update_spelled (pieces (p ∷ ps)) (pieces_are IsAny (p ∷ ps) (any_all (p ∷ ps)))))

-- ---- effects

expunges_apply : (k : ℕ) (ps : List Pair) (n : Mailbox) → IsSome (applied n (map expunge (first_pieces k ps)))
expunges_apply zero ps n = refl
expunges_apply (suc k) ps n = expunges_apply k (drop piece_size ps) (stamped n.rows (without_uids (is_in_pairs (take piece_size ps)) (with_higher n)))

moves_apply : (k : ℕ) (ps : List Placed) (n : Mailbox) (rest : List Record) → ((b : Mailbox) → IsSome (applied b rest)) → IsSome (applied n (map place_update (first_pieces k ps) ++ rest))
moves_apply zero ps n rest also = also n
moves_apply (suc k) ps n rest also = moves_apply k (drop piece_size ps) (stamped n.rows (on_current (with_higher n) (with_updates (flat_map place_row (take piece_size ps)) (with_higher n)))) rest also

purge_applies : (m : Mailbox) (ps : List Placed) (gone : List ℕ) → IsSome (applied m (purge_records ps gone))
purge_applies m [] gone = expunges_apply ((length (ranges_of gone) + (piece_size - 1)) / piece_size) (ranges_of gone) m
purge_applies m (p ∷ ps) gone =
    moves_apply ((length (p ∷ ps) + (piece_size - 1)) / piece_size) (p ∷ ps) _ (map expunge (pieces (ranges_of gone)))
    (λ b. expunges_apply ((length (ranges_of gone) + (piece_size - 1)) / piece_size) (ranges_of gone) b)

pub rewrites_written : RewritesAreWritten
rewrites_written m file new valid =
    let rs = all_mapped m in
    let gone : List ℕ = map (λ (r : Mapped). r.id) (filter (is_gone file) rs) in
    let ps : List Placed = moved new 0 (filter (is_kept file) rs) in
    let uids : All IsUid gone = all_uids (filter (is_gone file) rs) (ids_kept (is_gone file) rs (have_ids m valid.next_uid.1 m.rows valid.rows)) in
    record {
      spelled = All-append IsRecord (move_records ps) (map expunge (pieces (ranges_of gone))) (moves_spelled ps) (expunges_spelled (ranges_of gone) (ranges_are gone uids));
      applies = purge_applies m ps gone;
    }
