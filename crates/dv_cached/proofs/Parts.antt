-- What records that are neither appends nor of extensions leave of the extensions and parts.
use Rattle.std.proofs.Common.{◌≡◌, ℕ, Bool, true, false, cond, List, [], ◌∷◌, get_or, Option, Some, None, refl, sym, ◌∙◌, subst}
use Rattle.std.specs.Prelude.{All, filter, fold, map}
use Rattle.std.specs.List.{list_any}
use Rattle.std.proofs.lemmas.List.{get_or_default}
use Rattle.std.proofs.lemmas.List.Elements.{All-filter, All-head, All-map, All-tail, All-weaker}
use Rattle.std.proofs.lemmas.Option.{option_and_then_some}
use Rattle.dv_model.specs.declared.types.Body.{Body}
use Rattle.dv_model.specs.declared.types.Body.TheVariants as body
use Rattle.dv_model.specs.declared.types.How.{How}
use Rattle.dv_model.specs.declared.types.How.TheVariants as how
use Rattle.dv_model.specs.declared.types.Mailbox.{Mailbox}
use Rattle.dv_model.specs.declared.types.Pair.{Pair}
use Rattle.dv_model.specs.declared.types.Record.{Record}
use Rattle.dv_model.specs.declared.types.Row.{Row}
use Rattle.dv_model.specs.Effects.{after_record, applied, effect, is_as_before, is_in_guid_rows, is_in_pairs, is_request, keywords_after, place_of, stamped, stamped_row, with_change, with_changed, with_higher, with_keyword, with_keywords, with_named, without_uids}
use Rattle.dv_validity.proofs.Records.{after_by, by_some}
use Rattle.dv_validity.proofs.Rows.{fold_keeps_any}
use Rattle.dv_cached.specs.Parts.{HasOldParts}

-- the extensions stay, and each row has the UID and the parts of an old one
pub record AreSame (m n : Mailbox) : Type 0 where
  pub extensions : n.extensions ≡ m.extensions
  pub rows : All (HasOldParts m) n.rows

old_itself : (m : Mailbox) → All (HasOldParts m) m.rows
old_itself m k d h = (k, get_or m.rows k d, h, get_or_default m.rows k (get_or m.rows k d) d h, (refl, refl))

old_changed : (m : Mailbox) (row new : Row) → new.uid ≡ row.uid → new.parts ≡ row.parts → HasOldParts m row → HasOldParts m new
old_changed m row new uid parts (k, old, h, at, same) = (k, old, h, at, (same.0 ∙ sym uid, same.1 ∙ sym parts))

pub old_again : (m n : Mailbox) (row : Row) → All (HasOldParts m) n.rows → HasOldParts n row → HasOldParts m row
old_again m n row each (k, old, h, at, same) = old_changed m old row (sym same.0) (sym same.1) (subst (HasOldParts m) at (each k old h))

pub same_itself : (m n : Mailbox) → n.extensions ≡ m.extensions → n.rows ≡ m.rows → AreSame m n
same_itself m n extensions rows = record { extensions = extensions; rows = subst (All (HasOldParts m)) (sym rows) (old_itself m) }

pub same_again : (m n k : Mailbox) → AreSame m n → AreSame n k → AreSame m k
same_again m n k first second = record {
  extensions = second.extensions ∙ first.extensions;
  rows = All-weaker (HasOldParts n) (HasOldParts m) (λ row is. old_again m n row first.rows is) k.rows second.rows;
}

pub same_mapped : (m n : Mailbox) (f : Row → Row) → ((row : Row) → (f row).uid ≡ row.uid) → ((row : Row) → (f row).parts ≡ row.parts) → n.extensions ≡ m.extensions → n.rows ≡ map f m.rows → AreSame m n
same_mapped m n f uid parts extensions rows = record {
  extensions = extensions;
  rows = subst (All (HasOldParts m)) (sym rows)
      (All-map (HasOldParts m) f m.rows (All-weaker (HasOldParts m) (λ row. HasOldParts m (f row)) (λ row is. old_changed m row (f row) (uid row) (parts row) is) m.rows (old_itself m)));
}

same_filtered : (m : Mailbox) (test : Row → Bool) → AreSame m (record m { rows = filter test m.rows })
same_filtered m test = record { extensions = refl; rows = All-filter test (HasOldParts m) m.rows (old_itself m) }

-- ---- rows that are changed

changed_uid : (change : Row → Row) → ((row : Row) → (change row).uid ≡ row.uid) → (b : Bool) (row : Row) → (cond b (change row) row).uid ≡ row.uid
changed_uid change same true row = same row
changed_uid change same false row = refl

changed_parts : (change : Row → Row) → ((row : Row) → (change row).parts ≡ row.parts) → (b : Bool) (row : Row) → (cond b (change row) row).parts ≡ row.parts
changed_parts change same true row = same row
changed_parts change same false row = refl

same_changed : (m : Mailbox) (test : ℕ → Bool) (change : Row → Row) → ((row : Row) → (change row).uid ≡ row.uid) → ((row : Row) → (change row).parts ≡ row.parts) → AreSame m (with_changed test change m)
same_changed m test change uid parts =
    same_mapped m (with_changed test change m) (λ row. cond (test row.uid) (change row) row) (λ row. changed_uid change uid (test row.uid) row) (λ row. changed_parts change parts (test row.uid) row) refl refl

same_keywords : (m : Mailbox) (pairs : List Pair) (change : List ℕ → List ℕ) → AreSame m (with_keywords pairs change m)
same_keywords m pairs change = same_changed m (is_in_pairs pairs) (λ row. record row { keywords = change row.keywords }) (λ row. refl) (λ row. refl)

same_named : (m : Mailbox) (h : How) (name : List ℕ) → AreSame m (with_named h name m)
same_named m how.Add name = same_itself m (with_named how.Add name m) refl refl
same_named m how.Remove name = same_itself m m refl refl
same_named m how.Replace name = same_itself m (with_named how.Replace name m) refl refl

keyword_by : (m : Mailbox) (h : How) (name : List ℕ) (pairs : List Pair) (o : Option ℕ) → place_of m.keywords name ≡ o → AreSame m (with_keyword h name pairs m)
keyword_by m h name pairs None is = rw is (same_itself m m refl refl)
keyword_by m h name pairs (Some k) is = rw is (same_keywords m pairs (keywords_after h k))

same_keyword : (m : Mailbox) (h : How) (name : List ℕ) (pairs : List Pair) → AreSame m (with_keyword h name pairs (with_named h name m))
same_keyword m h name pairs =
    let n : Mailbox = with_named h name m in
    same_again m n (with_keyword h name pairs n) (same_named m h name) (keyword_by n h name pairs (place_of n.keywords name) refl)

-- ---- records

-- a record of flags or keywords, or an expunge
abbrev pub IsMild : Body → Type 0
IsMild (body.FlagUpdate changes) = Unit {0}
IsMild (body.KeywordUpdate h name pairs) = Unit {0}
IsMild (body.KeywordReset pairs) = Unit {0}
IsMild (body.ExpungeGuid rows) = Unit {0}
IsMild other = ⊥

effect_same : (m n : Mailbox) (b : Body) → IsMild b → effect m b ≡ Some n → AreSame m n
effect_same m n (body.FlagUpdate changes) mild e =
    by_some (AreSame m) (fold with_change m changes) n
    (fold_keeps_any (AreSame m) with_change (λ k change is. same_again m k (with_change k change) is (same_changed k _ (λ row. record row { flags = _ }) (λ row. refl) (λ row. refl))) m changes (same_itself m m refl refl)) e
effect_same m n (body.KeywordUpdate h name pairs) mild e = by_some (AreSame m) (with_keyword h name pairs (with_named h name m)) n (same_keyword m h name pairs) e
effect_same m n (body.KeywordReset pairs) mild e = by_some (AreSame m) (with_keywords pairs (λ places. []) m) n (same_keywords m pairs (λ places. [])) e
effect_same m n (body.ExpungeGuid rows) mild e = by_some (AreSame m) (without_uids (is_in_guid_rows rows) m) n (same_filtered m _) e
effect_same m n (body.Expunge pairs) mild e = absurd mild
effect_same m n (body.Append rows) mild e = absurd mild
effect_same m n (body.HeaderUpdate parts) mild e = absurd mild
effect_same m n (body.ExtIntro intros) mild e = absurd mild
effect_same m n (body.ExtReset reset_id preserve) mild e = absurd mild
effect_same m n (body.ExtHeaderUpdate parts) mild e = absurd mild
effect_same m n (body.ExtRecordUpdate bytes) mild e = absurd mild
effect_same m n (body.Carried code bytes) mild e = absurd mild

stamped_uid : (b : Bool) (n : ℕ) (row : Row) → (cond b row (record row { modseq = n })).uid ≡ row.uid
stamped_uid true n row = refl
stamped_uid false n row = refl

stamped_parts : (b : Bool) (n : ℕ) (row : Row) → (cond b row (record row { modseq = n })).parts ≡ row.parts
stamped_parts true n row = refl
stamped_parts false n row = refl

pub same_stamped : (before : List Row) (m : Mailbox) → AreSame m (stamped before m)
same_stamped before m =
    same_mapped m (stamped before m) (stamped_row before m.highest) (λ row. stamped_uid (list_any (is_as_before row) before) m.highest row) (λ row. stamped_parts (list_any (is_as_before row) before) m.highest row) refl refl

pub record_same : (m n : Mailbox) (r : Record) → IsMild r.body → after_record m r ≡ Some n → AreSame m n
record_same m n r mild e =
    after_by (AreSame m) m n r (same_itself m (with_higher m) refl refl)
    (λ k done. same_again m k (stamped m.rows k) (higher k (effect_same (with_higher m) k r.body mild done)) (same_stamped m.rows k)) (is_request r) e
  where
    higher : (k : Mailbox) → AreSame (with_higher m) k → AreSame m k
    higher k is = record { extensions = is.extensions; rows = is.rows }

abbrev pub AreMild : List Record → Type 0
AreMild rs = All (λ r. IsMild r.body) rs

pub records_same : (m n : Mailbox) (rs : List Record) → AreMild rs → applied m rs ≡ Some n → AreSame m n
records_same m n [] mild e = by_some (AreSame m) m n (same_itself m m refl refl) e
records_same m n (r ∷ rs) mild e =
    option_and_then_some (λ k. applied k rs) (after_record m r) n e
    (λ k first rest. same_again m k n (record_same m k r (All-head (λ r. IsMild r.body) r rs mild) first) (records_same k n rs (All-tail (λ r. IsMild r.body) r rs mild) rest))
