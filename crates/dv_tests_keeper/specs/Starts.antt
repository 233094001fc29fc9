-- The log of a mailbox from which a keeper begins.
use Rattle.dv_model.specs.Journals.{Log}
use Rattle.dv_naming.specs.Starts.{no_log}
use Rattle.dv_store.specs.States.{State}

-- by its mailbox and place; which messages it has isn't said
abbrev pub first_log : {S C : Type 0} → State S C → Log
first_log store = record no_log {
  start = store.chain.live.mailbox;
  start_mark = store.mark;
  indexid = store.chain.indexid;
}
