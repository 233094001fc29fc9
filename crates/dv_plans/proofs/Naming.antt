-- The GUIDs of removed messages are those of a function, found of their rows or a log's.
use Rattle.std.proofs.Common.{◌≡◌, ℕ, ◌^◌, ◌<◌, Bool, true, false, cond, List, [], ◌∷◌, map, nat_eq, refl, sym, ◌∙◌, ap, subst, arith}
use Rattle.std.specs.Prelude.{All}
use Rattle.std.specs.List.Sorted.{IsStrictlyIncreasing}
use Rattle.std.proofs.lemmas.Bool.{eq-eqb, ne_eqb}
use Rattle.std.proofs.lemmas.List.Elements.{All-head, All-replicate, All-tail, All-weaker}
use Rattle.dv_model.specs.declared.types.Command.{Command}
use Rattle.dv_model.specs.declared.types.GuidRow.{GuidRow}
use Rattle.dv_model.specs.declared.types.Mailbox.{Mailbox}
use Rattle.dv_model.specs.Journals.{IsGuid, Log}
use Rattle.dv_model.specs.Views.{View}
use Rattle.dv_model.proofs.Clients.{rising_tail}
use Rattle.dv_rows.proofs.TwoParts.{all_above}
use Rattle.dv_shelf.specs.Folders.{Folder}
use Rattle.dv_dbox.specs.Mails.{no_guid}
use Rattle.dv_groups.specs.Changes.{expunged_uids, guid_rows, removes}
use Rattle.dv_writing.specs.Keeping.{Keeps}
use Rattle.dv_files.specs.Reading.{guid_at}
use Rattle.dv_plans.specs.Guids.{guid_from, removed_of}
use Rattle.dv_plans.proofs.Rising.{HasRow, expunged_there}

-- two functions that agree on the UIDs
alike : (f g : ℕ → List ℕ) (uids : List ℕ) → All (λ uid. f uid ≡ g uid) uids → guid_rows f uids ≡ guid_rows g uids
alike f g [] same = refl
alike f g (uid ∷ uids) same =
    let first : f uid ≡ g uid = All-head (λ uid. f uid ≡ g uid) uid uids same in
    let rest : guid_rows f uids ≡ guid_rows g uids = alike f g uids (All-tail (λ uid. f uid ≡ g uid) uid uids same) in
    ap (λ (guid : List ℕ). record { uid = uid; guid = guid } ∷ guid_rows f uids) first ∙ ap (λ (rows : List GuidRow). record { uid = uid; guid = g uid } ∷ rows) rest

-- ---- found of the rows

later : (row : GuidRow) (rows : List GuidRow) (uid : ℕ) → row.uid < uid → guid_from (row ∷ rows) uid ≡ guid_from rows uid
later row rows uid less = ap (λ (b : Bool). cond b row.guid (guid_from rows uid)) (ne_eqb row.uid uid (λ same. omega (arith, same, less)))

pub rows_found : (rows : List GuidRow) → IsStrictlyIncreasing (map (λ (row : GuidRow). row.uid) rows) → rows ≡ guid_rows (guid_from rows) (map (λ (row : GuidRow). row.uid) rows)
rows_found [] rising = refl
rows_found (row ∷ rows) rising =
    let uids : List ℕ = map (λ (row : GuidRow). row.uid) rows in
    let here : row.guid ≡ guid_from (row ∷ rows) row.uid = ap (λ (b : Bool). cond b row.guid (guid_from rows row.uid)) (sym (eq-eqb row.uid row.uid refl)) in
    let behind : guid_rows (guid_from rows) uids ≡ guid_rows (guid_from (row ∷ rows)) uids =
    alike (guid_from rows) (guid_from (row ∷ rows)) uids (All-weaker (λ uid. row.uid < uid) (λ uid. guid_from rows uid ≡ guid_from (row ∷ rows) uid) (λ uid less. sym (later row rows uid less)) uids (all_above row.uid uids rising)) in
    ap (λ (guid : List ℕ). record { uid = row.uid; guid = guid } ∷ rows) here
    ∙ ap (λ (rest : List GuidRow). record { uid = row.uid; guid = guid_from (row ∷ rows) row.uid } ∷ rest) (rows_found rows (rising_tail row.uid uids rising) ∙ behind)

none_is : IsGuid no_guid
none_is = record { size = refl; bytes = All-replicate (λ b. b < 2 ^ 8) 16 0 (omega arith) }

pub guids_found : (rows : List GuidRow) → All (λ row. IsGuid row.guid) rows → (uid : ℕ) → IsGuid (guid_from rows uid)
guids_found [] all uid = none_is
guids_found (row ∷ rows) all uid = by_test (nat_eq row.uid uid) (All-head (λ row. IsGuid row.guid) row rows all) (guids_found rows (All-tail (λ row. IsGuid row.guid) row rows all) uid)
  where
    by_test : (b : Bool) → IsGuid row.guid → IsGuid (guid_from rows uid) → IsGuid (cond b row.guid (guid_from rows uid))
    by_test true here behind = here
    by_test false here behind = behind

pub all_removed : (c : Command) (uids : List ℕ) (b : Bool) → b ≡ true → b ≡ removes c → removed_of c uids ≡ uids
all_removed c uids b is same = ap (λ (t : Bool). cond t uids []) (sym same ∙ is)

-- ---- of a log

pub log_guids : (log : Log) (m : Mailbox) (folder : Folder) (c : Command) (view : View) → Keeps log m folder → guid_rows (guid_at folder) (expunged_uids c view m) ≡ guid_rows log.guid (expunged_uids c view m)
log_guids log m folder c view keeps =
    alike (guid_at folder) log.guid (expunged_uids c view m)
    (All-weaker (HasRow m) (λ uid. guid_at folder uid ≡ log.guid uid)
    (λ uid has. subst (λ (u : ℕ). guid_at folder u ≡ log.guid u) has.2 (keeps.messages has.0 has.1).named) (expunged_uids c view m) (expunged_there c view m))
