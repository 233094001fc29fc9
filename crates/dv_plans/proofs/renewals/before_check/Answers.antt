use Rattle.std.proofs.Common.{◌≡◌, ◌||◌, Bool, [], length, map, is_some, refl, sym, ◌∙◌, ap, subst}
use Rattle.std.proofs.lemmas.Bool.{or_left}
use Rattle.std.proofs.lemmas.List.Elements.{All-nil, All-same}
use Rattle.dv_model.specs.declared.types.GuidRow.{GuidRow}
use Rattle.dv_model.specs.declared.types.Mark.{Mark}
use Rattle.dv_model.specs.Journals.{IsGuid}
use Rattle.std.specs.Prelude.{IfSome}
use Rattle.dv_shelf.specs.Folders.{Folder}
use Rattle.dv_files.specs.Texts.{ClosesLog}
use Rattle.dv_plans.specs.Files.{AreGone}
use Rattle.dv_formats.specs.Snapshots.{IsSnapshot}
use Rattle.dv_writing.specs.Ways.{IsDue}
use Rattle.dv_lookups.specs.Checks.{row_uids}
use Rattle.dv_plans.specs.Begins.{beginning}
use Rattle.dv_plans.proofs.Counts.{spares_then, upto_then}
use Rattle.dv_plans.proofs.Planned.{check_for}
use Rattle.dv_plans.proofs.Readied.{due_of}
use Rattle.dv_plans.proofs.renewals.before_check.Goals as goal
use Rattle.dv_plans.proofs.renewals.before_check.Goals.{then-is_some, else-is_some}

pub returns-clause-is : goal.returns-clause-is
returns-clause-is g c = λ uids.
    let chain = c.args.chain.now in
    let owed = c.args.owed.now in
    let turn = c.in_ok-turn.turn in
    let anew : c.if-is_some.beginning ≡ (is_some owed || is_some turn) =
    elim c.if-is_some.branch [
      | then-is_some w ↦ w.beginning-is ∙ w.if-is_some.true ∙ sym (or_left (is_some owed) (is_some turn) (sym c.is_some.ensures ∙ w.if-is_some.true))
      | else-is_some w ↦ w.beginning-is ∙ w.is_some-else-is_some.ensures ∙ sym (ap (λ (b : Bool). b || is_some turn) (sym c.is_some.ensures ∙ w.if-is_some.false))
    ] in
    let place : c.beginning-mark.result ≡ beginning (is_some owed || is_some turn) chain = c.beginning-mark.ensures ∙ ap (λ (b : Bool). beginning b chain) anew in
    let snapshot : IsSnapshot 2 chain.live.mailbox chain.indexid (beginning (is_some owed || is_some turn) chain) c.in_ok-index.index =
    subst (λ (mark : Mark). IsSnapshot 2 chain.live.mailbox chain.indexid mark c.in_ok-index.index) place c.in_ok-index.ensures in
    let due : IsDue owed chain turn = due_of owed turn chain (c.in_ok-turn.ensures.is.0 ∙ c.requires.turn) c.in_ok-turn.ensures.is.1 in
    record {
      guids = record {
        beside = ap (map (λ (row : GuidRow). row.uid)) c.new.ensures;
        guids = All-same (λ (row : GuidRow). IsGuid row.guid) c.new.result [] c.new.ensures (All-nil (λ (row : GuidRow). IsGuid row.guid));
      };
      turn = c.in_ok-turn.ensures.is.0;
      due = due;
      made = c.in_ok-turn.ensures.new;
      files = check_for owed turn chain c.in_ok-gone.gone c.in_ok-index.index due c.in_ok-gone.ensures.free snapshot;
    }

pub returns-in_err-turn-clause-most : goal.returns-in_err-turn-clause-most
returns-in_err-turn-clause-most g c =
    let reads = g.S.Shelf.sees.mail_reads in
    let m = c.args.chain.now.live.mailbox in
    upto_then (length m.rows) (reads c.args.shelf.now) (reads c.next_cache.new.shelf) (reads c.turn_at.new.shelf) c.next_cache.ensures.most c.turn_at.ensures.mail_reads

pub returns-in_err-turn-clause-spares : goal.returns-in_err-turn-clause-spares
returns-in_err-turn-clause-spares g c = λ told.
    let S = g.S.Shelf in
    let reads = S.sees.mail_reads in
    let m = c.args.chain.now.live.mailbox in
    spares_then (S.sees.files c.args.shelf.now) c.args.chain.now.indexid m (row_uids m) (reads c.args.shelf.now) (reads c.next_cache.new.shelf) (reads c.turn_at.new.shelf) (c.next_cache.ensures.spares told) c.turn_at.ensures.mail_reads

pub returns-in_err-gone-clause-most : goal.returns-in_err-gone-clause-most
returns-in_err-gone-clause-most g c =
    let reads = g.S.Shelf.sees.mail_reads in
    let m = c.args.chain.now.live.mailbox in
    upto_then (length m.rows) (reads c.args.shelf.now) (reads c.turn_at.new.shelf) (reads c.gone_uids.new.shelf)
    (upto_then (length m.rows) (reads c.args.shelf.now) (reads c.next_cache.new.shelf) (reads c.turn_at.new.shelf) c.next_cache.ensures.most c.turn_at.ensures.mail_reads) c.gone_uids.ensures.mail_reads

pub returns-in_err-gone-clause-spares : goal.returns-in_err-gone-clause-spares
returns-in_err-gone-clause-spares g c = λ told.
    let S = g.S.Shelf in
    let reads = S.sees.mail_reads in
    let m = c.args.chain.now.live.mailbox in
    spares_then (S.sees.files c.args.shelf.now) c.args.chain.now.indexid m (row_uids m) (reads c.args.shelf.now) (reads c.turn_at.new.shelf) (reads c.gone_uids.new.shelf)
    (spares_then (S.sees.files c.args.shelf.now) c.args.chain.now.indexid m (row_uids m) (reads c.args.shelf.now) (reads c.next_cache.new.shelf) (reads c.turn_at.new.shelf) (c.next_cache.ensures.spares told) c.turn_at.ensures.mail_reads) c.gone_uids.ensures.mail_reads

pub returns-in_err-index-clause-most : goal.returns-in_err-index-clause-most
returns-in_err-index-clause-most g c =
    let reads = g.S.Shelf.sees.mail_reads in
    let m = c.args.chain.now.live.mailbox in
    upto_then (length m.rows) (reads c.args.shelf.now) (reads c.turn_at.new.shelf) (reads c.gone_uids.new.shelf)
    (upto_then (length m.rows) (reads c.args.shelf.now) (reads c.next_cache.new.shelf) (reads c.turn_at.new.shelf) c.next_cache.ensures.most c.turn_at.ensures.mail_reads) c.gone_uids.ensures.mail_reads

pub returns-in_err-index-clause-spares : goal.returns-in_err-index-clause-spares
returns-in_err-index-clause-spares g c = λ told.
    let S = g.S.Shelf in
    let reads = S.sees.mail_reads in
    let m = c.args.chain.now.live.mailbox in
    spares_then (S.sees.files c.args.shelf.now) c.args.chain.now.indexid m (row_uids m) (reads c.args.shelf.now) (reads c.turn_at.new.shelf) (reads c.gone_uids.new.shelf)
    (spares_then (S.sees.files c.args.shelf.now) c.args.chain.now.indexid m (row_uids m) (reads c.args.shelf.now) (reads c.next_cache.new.shelf) (reads c.turn_at.new.shelf) (c.next_cache.ensures.spares told) c.turn_at.ensures.mail_reads) c.gone_uids.ensures.mail_reads

pub returns-clause-most : goal.returns-clause-most
returns-clause-most g c =
    let reads = g.S.Shelf.sees.mail_reads in
    let m = c.args.chain.now.live.mailbox in
    upto_then (length m.rows) (reads c.args.shelf.now) (reads c.turn_at.new.shelf) (reads c.gone_uids.new.shelf)
    (upto_then (length m.rows) (reads c.args.shelf.now) (reads c.next_cache.new.shelf) (reads c.turn_at.new.shelf) c.next_cache.ensures.most c.turn_at.ensures.mail_reads) c.gone_uids.ensures.mail_reads

pub returns-clause-spares : goal.returns-clause-spares
returns-clause-spares g c = λ told.
    let S = g.S.Shelf in
    let reads = S.sees.mail_reads in
    let m = c.args.chain.now.live.mailbox in
    spares_then (S.sees.files c.args.shelf.now) c.args.chain.now.indexid m (row_uids m) (reads c.args.shelf.now) (reads c.turn_at.new.shelf) (reads c.gone_uids.new.shelf)
    (spares_then (S.sees.files c.args.shelf.now) c.args.chain.now.indexid m (row_uids m) (reads c.args.shelf.now) (reads c.next_cache.new.shelf) (reads c.turn_at.new.shelf) (c.next_cache.ensures.spares told) c.turn_at.ensures.mail_reads) c.gone_uids.ensures.mail_reads

pub returns-clause-read : goal.returns-clause-read
returns-clause-read g c = λ told uids.
    let S = g.S.Shelf in
    let chain = c.args.chain.now in
    let folder = S.sees.files c.args.shelf.now in
    let first : S.sees.files c.next_cache.new.shelf ≡ folder = (c.next_cache.ensures.looks told).same in
    let behind : S.sees.files c.turn_at.new.shelf ≡ folder = (c.turn_at.ensures.looks told).same ∙ first in
    record {
      guids = c.new.ensures;
      closes = subst (λ (f : Folder). IfSome c.in_ok-turn.turn (λ turn. ClosesLog chain turn f)) first (c.in_ok-turn.ensures.closes told);
      files = record {
        renewal = record { gone = c.in_ok-gone.gone; index = c.in_ok-index.index; cache = c.in_ok-cache.cache };
        is = refl;
        gone = subst (λ (f : Folder). AreGone chain.live.mailbox f c.in_ok-gone.gone) behind (c.in_ok-gone.ensures.gone told);
        cache = c.in_ok-cache.ensures.text told;
      };
    }
