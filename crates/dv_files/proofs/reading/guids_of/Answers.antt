use Rattle.std.proofs.Common.{◌≡◌, ℕ, ◌+◌, ◌<◌, List, [], ◌∷◌, ◌++◌, length, map, take, get_or, sym, ◌∙◌, ap, arith}
use Rattle.std.proofs.lemmas.List.{map-append, take_more}
use Rattle.std.proofs.lemmas.List.Elements.{All-push, All-same}
use Rattle.std.proofs.lemmas.Result.{err_from_is_err_and}
use Rattle.dv_model.specs.declared.types.GuidRow.{GuidRow}
use Rattle.dv_model.specs.Journals.{IsGuid}
use Rattle.dv_shelf.specs.declared.shelf.Name.TheVariants as name
use Rattle.dv_shelf.specs.Folders.{Folder}
use Rattle.dv_dbox.specs.Mails.{guid_in}
use Rattle.dv_chain.proofs.Shelves.{looked_both}
use Rattle.dv_files.specs.Reading.{guid_at, guid_rows}
use Rattle.dv_files.proofs.Looking.{reads_more}
use Rattle.dv_files.proofs.reading.guids_of.Goals as goal

pub returns-in_err-mail-clause-mail_reads : goal.returns-in_err-mail-clause-mail_reads
returns-in_err-mail-clause-mail_reads g c =
    let S = g.S.Shelf in
    let i = c.loop-uid.uid-index in
    let less : i < length c.args.uids.now = c.loop-uid-test.true in
    let p = err_from_is_err_and c.from_residual.result c.from_residual.ensures.1 in
    rw p.1
    (i + 1, omega (arith, less), reads_more (S.sees.mail_reads c.args.shelf.now) (S.sees.mail_reads c.loop-uid.shelf) (S.sees.mail_reads c.read_mail.new.shelf) i c.loop-uid.invariant.mail_reads c.read_mail.ensures.mail_reads)

pub returns-in-Err-clause-mail_reads : goal.returns-in-Err-clause-mail_reads
returns-in-Err-clause-mail_reads g c =
    let S = g.S.Shelf in
    let i = c.loop-uid.uid-index in
    let less : i < length c.args.uids.now = c.loop-uid-test.true in
    (i + 1, omega (arith, less), reads_more (S.sees.mail_reads c.args.shelf.now) (S.sees.mail_reads c.loop-uid.shelf) (S.sees.mail_reads c.read_mail.new.shelf) i c.loop-uid.invariant.mail_reads c.read_mail.ensures.mail_reads)

pub loop-uid-preserved : goal.loop-uid-preserved
loop-uid-preserved g c =
    let S = g.S.Shelf in
    let old = c.args.shelf.now in
    let mid = c.loop-uid.shelf in
    let new = c.read_mail.new.shelf in
    let uids = c.args.uids.now in
    let i = c.loop-uid.uid-index in
    let uid : ℕ = get_or uids i 0 in
    let before = c.loop-uid.rows in
    let row : GuidRow = record { uid = uid; guid = c.guid-guid.result } in
    let pushed : c.push.new.self ≡ before ++ row ∷ [] = c.in-Ok.ensures.ok in
    let more : take (i + 1) uids ≡ take i uids ++ uid ∷ [] = take_more uids i 0 c.loop-uid-test.true in
    record {
      beside = ap (map (λ (row : GuidRow). row.uid)) pushed ∙ map-append (λ (row : GuidRow). row.uid) before (row ∷ []) ∙ ap (λ (l : List ℕ). l ++ uid ∷ []) c.loop-uid.invariant.beside ∙ sym more;
      guids = All-same (λ (row : GuidRow). IsGuid row.guid) c.push.new.self (before ++ row ∷ []) pushed (All-push (λ (row : GuidRow). IsGuid row.guid) before row c.loop-uid.invariant.guids c.is_guid.ensures);
      rows = λ tells.
          let folder : Folder = S.sees.files old in
          let same : S.sees.files mid ≡ folder = (c.loop-uid.invariant.looks tells).same in
          let guid : c.guid-guid.result ≡ guid_at folder uid = c.guid-guid.ensures ∙ (c.in_ok-mail.ensures.found tells).guid ∙ ap (λ (f : Folder). guid_in (f (name.Mail uid))) same in
          pushed ∙ ap (λ (l : List GuidRow). l ++ row ∷ []) (c.loop-uid.invariant.rows tells) ∙ ap (λ (b : List ℕ). guid_rows folder (take i uids) ++ record { uid = uid; guid = b } ∷ []) guid
          ∙ sym (ap (guid_rows folder) more ∙ map-append (λ (u : ℕ). record { uid = u; guid = guid_at folder u }) (take i uids) (uid ∷ []));
      looks = λ tells. looked_both S.sees old mid new (c.loop-uid.invariant.looks tells) (c.in_ok-mail.ensures.looks tells);
      mail_reads = reads_more (S.sees.mail_reads old) (S.sees.mail_reads mid) (S.sees.mail_reads new) i c.loop-uid.invariant.mail_reads c.in_ok-mail.ensures.mail_reads;
      faults = c.in_ok-mail.ensures.cause.same (λ e. cc) ∙ c.loop-uid.invariant.faults;
    }
