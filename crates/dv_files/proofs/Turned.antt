-- The folders of a rotation.
use Rattle.std.proofs.Common.{◌≡◌, inl, inr, ⊎_elim, ℕ, ◌<◌, ◌≤◌, max, min, lit<, lit≤, List, [], ◌++◌, take, Option, Some, refl, sym, ◌∙◌, ap, subst, arith}
use Rattle.std.specs.Prelude.{unwrap_or}
use Rattle.std.proofs.lemmas.List.Elements.{All-nil}
use Rattle.dv_model.specs.declared.types.Mailbox.{Mailbox}
use Rattle.dv_model.specs.Mailboxes.{last_modseq}
use Rattle.dv_model.specs.Spelling.{IsRecord}
use Rattle.dv_shelf.specs.declared.shelf.Name.TheVariants as name
use Rattle.dv_shelf.specs.Folders.{Folder, contents, with_file}
use Rattle.dv_shelf.proofs.FolderLemmas.{with_same}
use Rattle.dv_logfile.specs.Layout.{IsGoodHeader, IsLog, closing}
use Rattle.dv_logfile.specs.Reading.{HasShutGate}
use Rattle.dv_logfile.specs.Scans.{GoodLog, IsGood, Good}
use Rattle.dv_logfile.proofs.Logs.{log_begins, written_log}
use Rattle.dv_logfile.proofs.Reading.{written_gate}
use Rattle.dv_openings.specs.Numbers.{OpensAs}
use Rattle.dv_openings.specs.Openings.{Finds, IsFound}
use Rattle.dv_chain.specs.declared.chain.Chain.{Chain}
use Rattle.dv_chain.specs.Rest.{HoldsAlone, IsResting, Last, next_mark}
use Rattle.dv_chain.proofs.Named.{holds_as}
use Rattle.dv_files.specs.declared.texts.Turn.{Turn}
use Rattle.dv_files.specs.Leavings.{IsBeforeLast, IsPut, IsTurning, with_new, with_old}
use Rattle.dv_files.specs.Quiet.{OpensEither}
use Rattle.dv_files.specs.Texts.{ClosesLog, IsSnapshotOf, IsTurnOf, next_header, next_log, turned}
use Rattle.dv_files.proofs.Grounds.{Ground, alone_opens, alone_with, closed_long, ground, snapshot_there}
use Rattle.dv_files.proofs.Resumed.{IsNext, opens_next}

-- ---- the snapshot alone

module _ (chain : Chain) (text : List ℕ) (is : IsSnapshotOf chain text) (d : Folder) (alone : HoldsAlone chain d) where
  pub alone_index : HoldsAlone chain (with_file d name.Index (Some text))
  alone_index =
      let g = ground chain d alone.0 in
      alone_with chain d (with_file d name.Index (Some text)) alone refl text is refl g.rotated g.rotated_there

  pub alone_put : (c : Folder) → IsPut name.Index text d c → HoldsAlone chain c
  alone_put c put = ⊎_elim (λ e. subst (HoldsAlone chain) (sym e) alone) (λ e. subst (HoldsAlone chain) (sym e) alone_index) put

-- ---- the new log

-- a valid number is that of a file that begins with it
own_number : (n : ℕ) → 1 ≤ n → n ≤ last_modseq → max n (min (max n 1) last_modseq) ≡ n
own_number n some small = omega (arith, some, small)

module _ (chain : Chain) (turn : Turn) (is : IsTurnOf chain turn) (room : chain.log.file_seq < 4294967295) where
  abbrev m : Mailbox
  m = chain.live.mailbox

  good_header : IsGoodHeader (next_header chain is.now)
  good_header =
      let fits = is.index.fits in
      record {
        size = refl;
        wide = record {
          size = lit< tt;
          numbers = (fits.named.1, omega (arith, room), omega (arith, is.small));
          previous = fits.place;
          modseq = omega (arith, is.index.valid.highest.1);
        };
        version = refl;
        numbers = (fits.named.0, omega arith);
        little_endian = refl;
      }

  next_is_log : IsLog (next_header chain is.now) [] 40 turn.new
  next_is_log = subst (IsLog (next_header chain is.now) [] 40) (sym is.new) (written_log (next_header chain is.now) [] good_header (All-nil IsRecord) (lit≤ tt))

  abbrev next_good : GoodLog
  next_good = record { header = next_header chain is.now; spots = []; end = 40 }

  next_is_good : IsGood next_good turn.new
  next_is_good = record { taken = next_is_log.header; rest = next_is_log.rest; records = (refl, sym next_is_log.spelled); closed = next_is_log.closed }

  next_follows : (d : Folder) (g : Ground chain d) → IsNext g.log next_good m
  next_follows d g = record {
    indexid = sym g.indexid;
    seq = omega (arith, g.seq);
    before = sym g.seq;
    offset = sym g.end;
    number = ap (λ (n : ℕ). record m { highest = n }) (own_number m.highest is.index.valid.highest.0 is.index.valid.highest.1);
    empty = refl;
  }

  -- a folder with the new log, that opens to the mailbox, holds the chain on the next file
  pub alone_new : (c : Folder) → c name.Log ≡ Some turn.new → IsFound c (Finds m (next_mark chain)) → HoldsAlone (turned chain) c
  alone_new c log found =
      let b = contents c name.Log in
      let there : next_log chain is.now ≡ b = sym is.new ∙ sym (ap (λ (x : Option (List ℕ)). unwrap_or x []) log) in
      let whole : c name.Log ≡ Some (take 40 b ++ closing) =
      log ∙ ap Some is.new ∙ ap (λ (l : List ℕ). Some (take 40 l ++ closing)) there in (
        record {
          stands = record {
            header = next_header chain is.now;
            records = [];
            begins = log_begins (next_header chain is.now) [] 40 b (subst (IsLog (next_header chain is.now) [] 40) (is.new ∙ there) next_is_log);
            seq = refl;
            count = refl;
            indexid = refl;
            number = refl;
          };
          opens = subst (λ (f : Folder). IsFound f (Finds m (next_mark chain))) (sym (with_same c name.Log) ∙ ap (with_file c name.Log) whole) found;
        },
        subst (HasShutGate 40) there (written_gate (next_header chain is.now) []),
      )

  -- so it is of the chain's number
  new_opens : (c : Folder) → c name.Log ≡ Some turn.new → IsFound c (Finds m (next_mark chain)) → OpensAs c chain.indexid (Finds m (next_mark chain))
  new_opens c log found = holds_as (turned chain) c (alone_new c log found).0 (Finds m (next_mark chain)) found

  -- ---- the folders in turn

  -- the old log is that of a folder that holds the chain
  module _ (seen : Folder) (held : HoldsAlone chain seen) (closes : ClosesLog chain turn seen) where
    abbrev old_log : GoodLog
    old_log = (ground chain seen held.0).log

    old_good : IsGood old_log turn.old
    old_good =
        let e = closes ∙ closed_long chain.log.end (contents seen name.Log) (omega (arith, held.1.0)) in
        subst (IsGood old_log) (sym e) (ground chain seen held.0).good

    pub alone_old : (d : Folder) → HoldsAlone chain d → HoldsAlone chain (with_old turn d)
    alone_old d alone = alone_with chain d (with_old turn d) alone refl turn.index is.index refl (Good old_log) old_good

    pub found_new : (d : Folder) → OpensAs (with_new turn d) chain.indexid (Finds m (next_mark chain))
    found_new d =
        let g = ground chain seen held.0 in
        new_opens (with_new turn d) refl
        (opens_next g.log next_good m g.number (next_follows seen g) (with_new turn d) turn.index turn.old next_is_good refl (snapshot_there chain seen g turn.index is.index) old_good old_good)

    pub alone_before : (d c : Folder) → HoldsAlone chain d → IsBeforeLast turn d c → HoldsAlone chain c
    alone_before d c alone step =
        ⊎_elim (λ e. subst (HoldsAlone chain) (sym e) alone)
        (λ more. ⊎_elim (λ e. subst (HoldsAlone chain) (sym e) (alone_index chain turn.index is.index d alone)) (λ e. subst (HoldsAlone chain) (sym e) (alone_old d alone)) more) step

    pub opens_turning : (d c : Folder) → HoldsAlone chain d → IsTurning turn d c → OpensEither chain c
    opens_turning d c alone step =
        ⊎_elim (λ before. inl (alone_opens chain c (alone_before d c alone before)))
        (λ e. inr (subst (λ (f : Folder). OpensAs f chain.indexid (Finds m (next_mark chain))) (sym e) (found_new d))) step

    pub rests_last : (d c : Folder) → HoldsAlone chain d → IsPut name.Log turn.new (with_old turn d) c → IsResting (Last turn.new m) chain c
    rests_last d c alone put =
        let P : Folder → Type 0 = IsResting (Last turn.new m) chain in
        ⊎_elim (λ e. subst P (sym e) (inl (alone_old d alone), found_new d)) (λ e. subst P (sym e) (inr refl, again d)) put
      where
        again : (d : Folder) → OpensAs (with_file (with_new turn d) name.Log (Some turn.new)) chain.indexid (Finds m (next_mark chain))
        again d = subst (λ (f : Folder). OpensAs f chain.indexid (Finds m (next_mark chain))) (sym (with_same (with_new turn d) name.Log)) (found_new d)
