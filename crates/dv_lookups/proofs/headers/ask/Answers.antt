use Rattle.dv_lookups.proofs.Fielded.{asks_also, updated}
use Rattle.dv_lookups.proofs.headers.ask.Goals as goal

pub returns-clause-others : goal.returns-clause-others
returns-clause-others c = asks_also c.in_ok-to_ascii_lowercase.field-0.items c.args.missing.now c.insert.new.self _ (updated c.in_ok-to_ascii_lowercase.field-0.items c.args.missing.now c.insert.new.self _ c.in_ok-insert.ensures.updates)
