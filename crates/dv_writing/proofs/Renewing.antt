-- What a folder has of a store at rest stays where the index and the cache file are replaced.
use Rattle.std.proofs.Common.{◌≡◌, ◌≢◌, inl, inr, ⊎_elim, ℕ, List, Some, Result, Ok, Err, sym, ◌∙◌, ap, subst}
use Rattle.std.specs.Prelude.{Contains}
use Rattle.dv_model.specs.declared.types.Mailbox.{Mailbox}
use Rattle.dv_model.specs.declared.types.Row.{Row}
use Rattle.dv_model.specs.Journals.{Log}
use Rattle.dv_shelf.specs.declared.shelf.Name.{Name}
use Rattle.dv_shelf.specs.declared.shelf.Name.TheVariants as name
use Rattle.dv_shelf.specs.Folders.{Folder, with_file}
use Rattle.dv_shelf.proofs.FolderLemmas.{with_else, with_here}
use Rattle.dv_shelf.proofs.Moments.{weaker}
use Rattle.dv_logfile.specs.Gates.{FromOneOf}
use Rattle.dv_chain.specs.declared.chain.Chain.{Chain}
use Rattle.dv_chain.specs.Rest as rest
use Rattle.dv_dbox.specs.Mails.{guid_in, mail_in}
use Rattle.dv_openings.proofs.Cached.{written_true}
use Rattle.dv_files.specs.Leavings.{IsPut, Leaves, Puts}
use Rattle.dv_files.specs.Texts.{IsSnapshotOf}
use Rattle.dv_files.proofs.Replacing.{leaves_both}
use Rattle.dv_files.proofs.Turned.{alone_put}
use Rattle.dv_files.proofs.Beside.{KeepsIndex, resting_beside}
use Rattle.dv_writing.specs.Keeping.{Keeps}
use Rattle.dv_writing.specs.Renewals.{IsCacheOf, IsRenewing, Renews, with_index}
use Rattle.dv_writing.proofs.Quiet.{HasAll}
use Rattle.dv_writing.proofs.Kept.{kept_same}
use Rattle.dv_shelf.specs.Sees.{SeesFolder}

-- the other files are as before
pub put_else : (n k : Name) (text : List ℕ) (d c : Folder) → k ≢ n → IsPut n text d c → c k ≡ d k
put_else n k text d c other put = ⊎_elim (λ same. ap (λ (f : Folder). f k) same) (λ there. ap (λ (f : Folder). f k) there ∙ with_else d n (Some text) k other) put

-- a folder that has a mailbox's cache file keeps it
pub cache_kept : (log : Log) (m : Mailbox) (text : List ℕ) (d c : Folder) → IsCacheOf log m text → c name.Cache ≡ Some text → ((row : Row) → Contains m.rows row → c (name.Mail row.uid) ≡ d (name.Mail row.uid)) → Keeps log m d → Keeps log m c
cache_kept log m text d c of there same keeps = record {
  messages = λ row here.
      let had = keeps.messages row here in
      record { held = ap mail_in (same row here) ∙ had.held; named = ap guid_in (same row here) ∙ had.named };
  cache = written_true c log.indexid of.indexid of.seq log.mail m m of.wide.0 of.wide.1 of.writable (there ∙ ap Some of.is)
      (λ row here. sym (ap mail_in (same row here) ∙ (keeps.messages row here).held));
}

module _ (log : Log) (chain : Chain) (d c : Folder) (has : HasAll log chain d) where
  abbrev m : Mailbox
  m = chain.live.mailbox

  pub index_put : (text : List ℕ) → IsSnapshotOf chain text → IsPut name.Index text d c → HasAll log chain c
  index_put text is put = record {
    rest = alone_put chain text is d has.rest c put;
    keeps = kept_same log m d c (record { cache = put_else name.Index name.Cache text d c (λ q. cc) put; files = λ row here. put_else name.Index (name.Mail row.uid) text d c (λ q. cc) put }) has.keeps;
  }

  pub cache_put : (text : List ℕ) → IsCacheOf log m text → IsPut name.Cache text d c → HasAll log chain c
  cache_put text of put =
      let at : (k : Name) → k ≢ name.Cache → c k ≡ d k = λ k other. put_else name.Cache k text d c other put in
      let index : KeepsIndex d c = record { index = at name.Index (λ q. cc); log = at name.Log (λ q. cc); log2 = at name.Log2 (λ q. cc) } in
      record { rest = resting_beside chain d c index rest.Nothing has.rest; keeps = ⊎_elim same there put }
    where
      same : c ≡ d → Keeps log m c
      same e = subst (Keeps log m) (sym e) has.keeps

      there : c ≡ with_file d name.Cache (Some text) → Keeps log m c
      there e =
          cache_kept log m text d c of (ap (λ (f : Folder). f name.Cache) e ∙ with_here d name.Cache (Some text))
          (λ row here. put_else name.Cache (name.Mail row.uid) text d c (λ q. cc) put) has.keeps

-- ---- both replaces

index_renews : (index cache : List ℕ) (d c : Folder) → IsPut name.Index index d c → IsRenewing index cache d c
index_renews index cache d c put = ⊎_elim (λ same. inl same) (λ there. inr (inl there)) put

cache_renews : (index cache : List ℕ) (d e c : Folder) → e ≡ with_index index d → IsPut name.Cache cache e c → IsRenewing index cache d c
cache_renews index cache d e c is put =
    ⊎_elim (λ same. inr (inl (same ∙ is))) (λ there. inr (inr (there ∙ ap (λ (f : Folder). with_file f name.Cache (Some cache)) is))) put

renews_by : {T E : Type 0} (index cache : List ℕ) (r : Result T E) (d e c : Folder) → e ≡ with_index index d → Puts name.Cache cache r e c → Renews index cache r d c
renews_by index cache (Ok x) d e c is put = put ∙ ap (λ (f : Folder). with_file f name.Cache (Some cache)) is
renews_by index cache (Err f) d e c is put = cache_renews index cache d e c is put

module _ {S : Type 0} (sees : SeesFolder S) (index cache : List ℕ) where
  pub first_renews : (old new : S) → Leaves sees (IsPut name.Index index) (IsPut name.Index index) old new → Leaves sees (IsRenewing index cache) (IsRenewing index cache) old new
  first_renews old new first = record {
    seen = index_renews index cache (sees.files old) (sees.files new) first.seen;
    crash = λ c left.
        let from = first.crash c left in
        (from.0, from.1, index_renews index cache from.0 c from.2);
    since = weaker sees old new (FromOneOf (sees.may_leave old) (IsPut name.Index index)) (FromOneOf (sees.may_leave old) (IsRenewing index cache)) first.since (λ c from. (from.0, from.1, index_renews index cache from.0 c from.2));
  }

  pub both_renew : {T E : Type 0} (old mid new : S) (r : Result T E) → Leaves sees (λ d e. e ≡ with_index index d) (IsPut name.Index index) old mid → Leaves sees (Puts name.Cache cache r) (IsPut name.Cache cache) mid new
      → Leaves sees (Renews index cache r) (IsRenewing index cache) old new
  both_renew old mid new r first second =
      leaves_both sees old mid new _ _ _ _ (Renews index cache r) (IsRenewing index cache) first second (λ d e c is put. renews_by index cache r d e c is put) (index_renews index cache) (λ d e c is put. cache_renews index cache d e c is put)
