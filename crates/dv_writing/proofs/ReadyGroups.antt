-- A group's text that is ready to be committed.
use Rattle.std.proofs.Common.{◌≡◌, ℕ, ◌+◌, ◌≤◌, All, List, [], ◌∷◌, ◌++◌, length, Option, Some, None, ap, refl, sym, subst, arith}
use Rattle.std.specs.List.{flat_map}
use Rattle.std.specs.Prelude.{IsSomeAnd}
use Rattle.dv_model.specs.declared.types.Mailbox.{Mailbox}
use Rattle.dv_model.specs.declared.types.Record.{Record}
use Rattle.dv_model.specs.Effects.{applied}
use Rattle.dv_model.specs.Spelling.{IsRecord, written}
use Rattle.dv_logfile.specs.Layout.{IsGroupText, Spelled, closing, longest_log}
use Rattle.dv_logfile.proofs.Groups.{group_long}
use Rattle.dv_logfile.proofs.Logs.{spelled_written}
use Rattle.dv_apply.specs.Preparing.{Makes, Ready}
use Rattle.dv_chain.specs.declared.chain.Chain.{Chain}
use Rattle.dv_writing.specs.Commits.{IsReady}

-- four zero bytes are no group
some_record : (text : List ℕ) (rs : List Record) → text ≡ flat_map written rs ++ closing → 12 ≤ length text → 1 ≤ length rs
some_record text [] is long = absurd (omega (arith, ap length is, long))
some_record text (r ∷ rs) is long = omega arith

-- records that were prepared, with their text
pub made_ready : (text : List ℕ) (prepared : Ready) (chain : Chain) (rs : List Record) → IsGroupText text → All IsRecord rs → text ≡ flat_map written rs ++ closing → chain.log.end + length text ≤ longest_log
    → IsSomeAnd (applied chain.live.mailbox rs) (Makes chain.live prepared) → IsReady text prepared chain
made_ready text prepared chain rs group all is room made = by_after (applied chain.live.mailbox rs) refl made
  where
    by_after : (o : Option Mailbox) → applied chain.live.mailbox rs ≡ o → IsSomeAnd o (Makes chain.live prepared) → IsReady text prepared chain
    by_after None e none = absurd none
    by_after (Some after) e makes = record {
      after = after;
      pending = record {
        records = rs;
        some = some_record text rs is (group_long text group);
        spelled = subst (λ (l : List ℕ). Spelled rs l closing) (sym is) (spelled_written rs closing all);
        gives = e;
        room = room;
      };
      makes = makes;
    }
