use Rattle.std.proofs.Common.{◌≡◌, ◌-◌, ◌^◌, ◌∙◌, length, min, sym, ap, arith}
use Rattle.dv_groups.specs.Lengths.{keywords_length, records_length, store_length}
use Rattle.dv_groups.proofs.Measured.{append-length, check-length, expunge-length, remove-length, store-length}
use Rattle.dv_groups.proofs.groups.group_length.Goals as goal

pub returns-in-Append : goal.returns-in-Append
returns-in-Append c =
    λ view guid are sizes.
    let total = append-length c.args.c.now view c.args.live.now.mailbox guid c.in-Append.flags c.in-Append.keywords c.in-Append.message c.in-Append.is in
    let names : c.keywords_length.result ≡ min (keywords_length c.in-Append.keywords 1) (2 ^ 64 - 1) =
    c.keywords_length.ensures ∙ ap (λ names. min (keywords_length names 1) (2 ^ 64 - 1)) c.as_slice.ensures in
    omega (arith, total, names, c.saturating_add.ensures)

pub returns-in-Store : goal.returns-in-Store
returns-in-Store c =
    λ view guid are sizes.
    let total = store-length c.args.c.now view c.args.live.now.mailbox guid c.in-Store.by_uid c.in-Store.set c.in-Store.how c.in-Store.flags c.in-Store.keywords c.in-Store.unchanged_since c.args.uids.now c.in-Store.is are in
    c.store_length.ensures
    ∙ ap (λ names. min (store_length c.in-Store.how c.in-Store.flags names c.range_count.result) (2 ^ 64 - 1)) c.as_slice-in-Store.ensures
    ∙ ap (λ n. min (store_length c.in-Store.how c.in-Store.flags c.in-Store.keywords n) (2 ^ 64 - 1)) c.range_count.ensures
    ∙ ap (λ n. min n (2 ^ 64 - 1)) (sym total)

pub returns-in-Expunge : goal.returns-in-Expunge
returns-in-Expunge c =
    λ view guid are sizes.
    c.records_length.ensures ∙ ap (λ n. min n (2 ^ 64 - 1)) (sym (expunge-length c.args.c.now view c.args.live.now.mailbox guid c.args.uids.now sizes c.in-Expunge.is are))

pub returns-in-UidRemove : goal.returns-in-UidRemove
returns-in-UidRemove c =
    λ view guid are sizes.
    c.records_length-in-UidRemove.ensures
    ∙ ap (λ n. min n (2 ^ 64 - 1)) (sym (remove-length c.args.c.now view c.args.live.now.mailbox guid c.in-UidRemove.set c.args.uids.now sizes c.in-UidRemove.is are))

pub returns-in-Check : goal.returns-in-Check
returns-in-Check c =
    λ view guid are sizes.
    let rows = c.args.live.now.mailbox.rows in
    let total = check-length c.args.c.now view c.args.live.now.mailbox guid c.in-Check.is in
    let offsets : c.records_length-in-Check.result ≡ min (records_length 0 8 (length rows)) (2 ^ 64 - 1) =
    c.records_length-in-Check.ensures ∙ ap (λ n. min (records_length 0 8 n) (2 ^ 64 - 1)) (c.from.ensures ∙ c.count.ensures) in
    omega (arith, total, offsets, c.saturating_add-in-Check.ensures)
