use Rattle.dv_rebuild.proofs.Sorted.{sorted_numbers}
use Rattle.dv_rebuild.proofs.mails.numbers_of.Goals as goal

pub returns : goal.returns
returns c =
    sorted_numbers c.args.names.now c.in_ok-numbers_in.field-0 c.into_vec-numbers.result.items c.sort_uids.new.uids.items c.from_vec.result c.in_ok-numbers_in.ensures c.into_vec-numbers.ensures c.from_vec.ensures c.sort_uids.ensures.rising c.sort_uids.ensures.same
