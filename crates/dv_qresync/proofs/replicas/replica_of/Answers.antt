use Rattle.std.proofs.Common.{◌≡◌, ◌≤◌, ◌<◌, ◌++◌, ◌∷◌, [], List, ◌∙◌, length, map, take, ap, sym, arith}
use Rattle.std.proofs.lemmas.List.{map-append, take_all, take_more}
use Rattle.std.proofs.lemmas.Option.{get_or_from_slice_get}
use Rattle.dv_model.specs.declared.types.Row.{Row}
use Rattle.dv_qresync.specs.declared.types.Cached.{Cached}
use Rattle.dv_qresync.specs.declared.types.Replica.{Replica}
use Rattle.dv_qresync.specs.Replicas.{cached}
use Rattle.dv_qresync.proofs.replicas.replica_of.Goals as goal

pub loop-place-preserved : goal.loop-place-preserved
loop-place-preserved c =
    let m = c.args.live.now.mailbox in
    let place = c.loop-place.place in
    let row : Row = c.row.result.now in
    let less : place < length m.rows = omega (arith, c.loop-place-test.true, c.count-place-end.ensures) in
    c.in_ok-push.ensures.ok
    ∙ ap (λ (x : Cached). c.loop-place.rows ++ x ∷ []) c.in_ok-cached.ensures
    ∙ ap (λ (cs : List Cached). cs ++ cached m row ∷ []) c.loop-place.invariant
    ∙ sym (ap (map (cached m)) (take_more m.rows place row less)
    ∙ map-append (cached m) (take place m.rows) _
    ∙ ap (λ (x : Row). map (cached m) (take place m.rows) ++ cached m x ∷ []) (get_or_from_slice_get m.rows place row row c.row.ensures))

pub returns : goal.returns
returns c =
    let m = c.args.live.now.mailbox in
    let past : length m.rows ≤ c.loop-place.place = omega (arith, c.loop-place-test.false, c.count-place-end.ensures) in
    let rows : c.loop-place.rows ≡ map (cached m) m.rows = c.loop-place.invariant ∙ ap (map (cached m)) (take_all c.loop-place.place m.rows past) in
    let R : Replica = record { uid_validity = c.uid_validity.result; highest = c.highest.result; rows = c.loop-place.rows } in
    ap (λ v. record R { uid_validity = v }) c.uid_validity.ensures
    ∙ ap (λ n. record { uid_validity = m.uid_validity; highest = n; rows = c.loop-place.rows }) c.highest.ensures
    ∙ ap (λ (cs : List Cached). record { uid_validity = m.uid_validity; highest = m.highest; rows = cs }) rows
