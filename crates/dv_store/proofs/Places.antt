-- Where a command's group begins and ends, over a chain that is equal but for spare rows.
use Rattle.std.proofs.Common.{◌≡◌, ℕ, ◌+◌, ◌-◌, ◌≤◌, ◌||◌, Bool, true, false, List, [], ◌∷◌, ◌++◌, length, flat_map, is_some, Option, refl, ◌∙◌, ap, subst, arith}
use Rattle.std.proofs.lemmas.List.{length-append}
use Rattle.dv_model.specs.declared.types.Mailbox.{Mailbox}
use Rattle.dv_model.specs.declared.types.Mark.{Mark}
use Rattle.dv_model.specs.declared.types.Record.{Record}
use Rattle.dv_model.specs.Spelling.{written}
use Rattle.dv_logfile.specs.Layout.{closing}
use Rattle.dv_formats.specs.Snapshots.{IsSnapshot}
use Rattle.dv_apply.specs.States.{Held}
use Rattle.dv_chain.specs.declared.chain.Chain.{Chain}
use Rattle.dv_chain.specs.Rest.{next_mark}
use Rattle.dv_writing.specs.Opening.{AreEqual, mark_behind}
use Rattle.dv_files.specs.declared.texts.Turn.{Turn}
use Rattle.dv_files.specs.Texts.{IsSnapshotOf, place_of}
use Rattle.dv_plans.specs.Begins.{beginning, turns}
use Rattle.dv_plans.proofs.Readied.{ready_indexid, ready_live, ready_place}
use Rattle.dv_writing.specs.Ways.{IsDue, ready}
use Rattle.dv_store.specs.Commits.{begin_of, behind_text, end_with}
use Rattle.dv_store.proofs.Equal.{equal_path}

module _ (chain before : Chain) (same : AreEqual chain before) where
  pub place_same : place_of chain ≡ place_of before
  place_same = ap place_of (equal_path chain before same)

  pub turns_same : (owed : Option Turn) → turns owed chain ≡ turns owed before
  turns_same owed = ap (turns owed) (equal_path chain before same)

  beginning_same : (anew : Bool) → beginning anew chain ≡ beginning anew before
  beginning_same false = place_same
  beginning_same true = ap next_mark (equal_path chain before same)

  module _ (owed turn : Option Turn) (due : IsDue owed chain turn) (made : is_some turn ≡ turns owed chain) where
    -- the chain is ready where the group begins
    pub ready_begins : place_of (ready owed turn chain) ≡ begin_of owed before
    ready_begins =
        ready_place owed turn chain due ∙ ap (λ (b : Bool). beginning (is_some owed || b) chain) (made ∙ turns_same owed) ∙ beginning_same (is_some owed || turns owed before)

    pub snapshot_same : (text : List ℕ) → IsSnapshotOf (ready owed turn chain) text → IsSnapshot 2 before.live.mailbox before.indexid (begin_of owed before) text
    snapshot_same text snapshot =
        let k : Chain = ready owed turn chain in
        let live : k.live.mailbox ≡ before.live.mailbox = ap (λ (h : Held). h.mailbox) (ready_live owed turn chain) ∙ same.mailbox in
        let number : k.indexid ≡ before.indexid = ready_indexid owed turn chain ∙ same.indexid in
        subst (λ (mark : Mark). IsSnapshot 2 before.live.mailbox before.indexid mark text) ready_begins
        (subst (λ (n : ℕ). IsSnapshot 2 before.live.mailbox n (place_of k) text) number (subst (λ (m : Mailbox). IsSnapshot 2 m k.indexid (place_of k) text) live snapshot))

    -- the group ends behind its text
    end_some : (records : List Record) → 1 ≤ length records → behind_text (begin_of owed before) records ≡ end_with owed before records
    end_some [] some = absurd (omega (arith, some))
    end_some (r ∷ rs) some = refl

    pub mark_same : (text : List ℕ) (records : List Record) → 1 ≤ length records → text ≡ flat_map written records ++ closing → mark_behind text (ready owed turn chain) ≡ end_with owed before records
    mark_same text records some is =
        let k : Chain = ready owed turn chain in
        let long : length text ≡ length (flat_map written records) + 4 = ap length is ∙ length-append (flat_map written records) closing in
        let offset : k.log.end + length text - 4 ≡ k.log.end + length (flat_map written records) = omega (arith, long) in
        ap (λ (n : ℕ). record { file_seq = k.log.file_seq; offset = n }) offset ∙ ap (λ (mark : Mark). behind_text mark records) ready_begins ∙ end_some records some
