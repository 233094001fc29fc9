-- A group that is ready over a chain's map is ready behind what is owed and due.
use Rattle.std.proofs.Common.{◌≡◌, ℕ, ◌+◌, ◌≤◌, List, ◌++◌, length, Option, Some, sym, ◌∙◌, subst, ap, arith, length-append}
use Rattle.std.specs.Prelude.{All, IsSomeAnd}
use Rattle.dv_model.specs.declared.types.Group.{Group}
use Rattle.dv_model.specs.declared.types.Mailbox.{Mailbox}
use Rattle.dv_model.specs.Effects.{applied}
use Rattle.dv_model.specs.Spelling.{IsRecord, group_text}
use Rattle.dv_logfile.specs.Layout.{Spelled, closing, longest_log}
use Rattle.dv_logfile.proofs.Logs.{spelled_written}
use Rattle.dv_apply.specs.Preparing.{Makes, Ready}
use Rattle.dv_apply.specs.States.{Held}
use Rattle.dv_chain.specs.declared.chain.Chain.{Chain}
use Rattle.dv_chain.specs.Rest.{IsPending}
use Rattle.dv_plans.proofs.Applied.{after_of}
use Rattle.dv_plans.proofs.Readied.{ready_live}
use Rattle.dv_files.specs.declared.texts.Turn.{Turn}
use Rattle.dv_writing.specs.Commits.{IsReady}
use Rattle.dv_writing.specs.Ways.{ready}

pub text_length : (group : Group) (text : List ℕ) → text ≡ group_text group ++ closing → length text ≡ length (group_text group) + 4
text_length group text is = ap length is ∙ length-append (group_text group) closing

module _ (owed turn : Option Turn) (chain : Chain) (group : Group) (text : List ℕ) (prepared : Ready) (all : All IsRecord group.records) (some : 1 ≤ length group.records) (is : text ≡ group_text group ++ closing)
    (room : (ready owed turn chain).log.end + (length (group_text group) + 4) ≤ longest_log) where
  pub pending_for : (after : Mailbox) → applied chain.live.mailbox group.records ≡ Some after → IsPending text after (ready owed turn chain)
  pending_for after gives = record {
    records = group.records;
    some = some;
    spelled = subst (λ (t : List ℕ). Spelled group.records t closing) (sym is) (spelled_written group.records closing all);
    gives = subst (λ (l : Held). applied l.mailbox group.records ≡ Some after) (sym (ready_live owed turn chain)) gives;
    room = let long = text_length group text is in omega (arith, long, room);
  }

  pub ready_for : IsSomeAnd (applied chain.live.mailbox group.records) (Makes chain.live prepared) → IsReady text prepared (ready owed turn chain)
  ready_for made =
      let one = after_of (Makes chain.live prepared) (applied chain.live.mailbox group.records) made in
      record {
        after = one.0;
        pending = pending_for one.0 one.1;
        makes = subst (λ (l : Held). Makes l prepared one.0) (sym (ready_live owed turn chain)) one.2;
      }
