-- What a folder has of a store at rest stays where other message files are put or removed.
use Rattle.std.proofs.Common.{◌≡◌, ◌≢◌, ⊎_elim, ℕ, ◌<◌, ◌&&◌, Bool, true, false, cond, eq-eqb, Result, Ok, Err, List, length, get_or, nat_eq, Some, None, refl, sym, ◌∙◌, ap, subst, arith}
use Rattle.std.specs.Prelude.{All, Contains, take}
use Rattle.std.specs.List.{list_any}
use Rattle.std.proofs.lemmas.List.{take_all}
use Rattle.std.proofs.lemmas.List.Elements.{All-contains, All-weaker}
use Rattle.std.proofs.lemmas.List.Folds.{list_any_at}
use Rattle.dv_model.specs.declared.types.Mailbox.{Mailbox}
use Rattle.dv_model.specs.declared.types.Row.{Row}
use Rattle.dv_model.specs.Journals.{Log}
use Rattle.dv_model.specs.Mailboxes.{IsRowOf, IsValid}
use Rattle.dv_shelf.specs.declared.shelf.Name.TheVariants as name
use Rattle.dv_shelf.specs.Folders.{Folder}
use Rattle.dv_shelf.proofs.FolderLemmas.{with_else}
use Rattle.dv_chain.specs.declared.chain.Chain.{Chain}
use Rattle.dv_chain.specs.Rest as rest
use Rattle.dv_files.specs.Leavings.{IsPut}
use Rattle.dv_files.specs.Writing.{IsSweeping, Sweeps, swept}
use Rattle.dv_files.proofs.Beside.{KeepsIndex, none_named, put_beside, resting_beside, swept_beside}
use Rattle.dv_files.proofs.Removing.{put_stays, sweep_stays}
use Rattle.dv_writing.specs.Laws.{SameMessages}
use Rattle.dv_writing.specs.Removals.{IsFree}
use Rattle.dv_writing.proofs.Kept.{kept_same}
use Rattle.dv_writing.proofs.Quiet.{HasAll}

-- a row's UID isn't one that no row has
pub other_uid : (m : Mailbox) (row : Row) (uid : ℕ) → Contains m.rows row → IsFree m uid → row.uid ≢ uid
other_uid m row uid (k, h, at) free e =
    let same : (nat_eq (get_or m.rows k row).uid uid && true) ≡ true = subst (λ (r : Row). (nat_eq r.uid uid && true) ≡ true) (sym at) (by_uid (nat_eq row.uid uid) (eq-eqb row.uid uid e)) in
    let has : list_any (λ row. nat_eq row.uid uid && true) m.rows ≡ true = list_any_at (λ row. nat_eq row.uid uid && true) m.rows k row h same in
    absurd (let no : true ≡ false = sym has ∙ free in cc)
  where
    by_uid : (b : Bool) → b ≡ true → (b && true) ≡ true
    by_uid true is = refl
    by_uid false is = is

module _ (log : Log) (chain : Chain) (d c : Folder) (has : HasAll log chain d) where
  abbrev m : Mailbox
  m = chain.live.mailbox

  pub all_beside : KeepsIndex d c → SameMessages m d c → HasAll log chain c
  all_beside index same = record { rest = resting_beside chain d c index rest.Nothing has.rest; keeps = kept_same log m d c same has.keeps }

  -- the file of the UIDNEXT
  pub next_put : IsValid m → (text : List ℕ) → IsPut (name.Mail m.next_uid) text d c → HasAll log chain c
  next_put valid text put =
      let below : All (λ row. row.uid < m.next_uid) m.rows = All-weaker (IsRowOf m) (λ row. row.uid < m.next_uid) (λ row is. is.uid.1) m.rows valid.rows in
      all_beside (put_beside m.next_uid text d c put) (record {
        cache = ⊎_elim (λ same. ap (λ (f : Folder). f name.Cache) same) (λ there. ap (λ (f : Folder). f name.Cache) there ∙ with_else d (name.Mail m.next_uid) (Some text) name.Cache (λ q. cc)) put;
        files = λ row here. put_stays row.uid m.next_uid text d c (λ e. let low : row.uid < m.next_uid = All-contains (λ row. row.uid < m.next_uid) m.rows row below here in omega (arith, e, low)) put;
      })

  -- files of no rows are removed
  pub rows_left : (uids : List ℕ) → All (IsFree m) uids → IsSweeping uids d c → HasAll log chain c
  rows_left uids free some =
      let index = swept_beside (take some.0 uids) d c some.1 in
      all_beside index (record {
        cache = ap (λ (f : Folder). f name.Cache) some.1 ∙ ap (λ (b : Bool). cond b None (d name.Cache)) (none_named name.Cache (λ uid q. cc) (take some.0 uids));
        files = λ row here. sweep_stays row.uid uids d c (λ there. other_uid m row row.uid here (All-contains (IsFree m) uids row.uid free there) refl) some;
      })

pub sweeps_some : {T E : Type 0} (uids : List ℕ) (result : Result T E) (d c : Folder) → Sweeps uids result d c → IsSweeping uids d c
sweeps_some uids (Ok x) d c is = (length uids, is ∙ ap (λ (us : List ℕ). swept us d) (sym (take_all (length uids) uids (omega arith))))
sweeps_some uids (Err e) d c some = some
