-- What a record of any kind leaves, and records in turn.
use Rattle.std.proofs.Common.{◌≡◌, Bool, true, false, cond, List, [], ◌∷◌, get_or, Option, Some, None, refl, subst, arith}
use Rattle.std.specs.Prelude.{All, option_map}
use Rattle.std.proofs.lemmas.List.Elements.{All-head, All-tail}
use Rattle.std.proofs.lemmas.Option.{option_and_then_some}
use Rattle.dv_model.specs.declared.types.Body.{Body}
use Rattle.dv_model.specs.declared.types.Body.TheVariants.{Expunge, Append, FlagUpdate, HeaderUpdate, ExtIntro, ExtReset, ExtHeaderUpdate, ExtRecordUpdate, KeywordUpdate, KeywordReset, ExpungeGuid, Carried}
use Rattle.dv_model.specs.declared.types.Mailbox.{Mailbox}
use Rattle.dv_model.specs.declared.types.Record.{Record}
use Rattle.dv_model.specs.Effects.{after_record, applied, effect, is_in_guid_rows, is_in_pairs, is_request, stamped, with_higher, without_uids}
use Rattle.dv_model.specs.Mailboxes.{IsValid}
use Rattle.dv_model.specs.Spelling.{IsRecord}
use Rattle.dv_validity.proofs.Appends.{rows_go_on, rows_valid}
use Rattle.dv_validity.proofs.Expunges.{expunged_goes_on, expunged_valid}
use Rattle.dv_validity.proofs.Extensions.{intros_go_on, intros_valid}
use Rattle.dv_validity.proofs.Flags.{changes_go_on, changes_valid}
use Rattle.dv_validity.proofs.Headers.{header_parts_go_on, header_parts_valid}
use Rattle.dv_validity.proofs.Keywords.{keyword_goes_on, keyword_valid}
use Rattle.dv_validity.proofs.Keywords as keywords
use Rattle.dv_validity.proofs.Ranges.{record_in_range}
use Rattle.dv_validity.proofs.Rows.{GoesOn, goes_on_same}
use Rattle.dv_validity.proofs.Stamps.{higher_valid, stamped_valid}
use Rattle.dv_validity.proofs.Updates.{header_update_goes_on, header_update_valid, record_update_goes_on, record_update_valid}
use Rattle.dv_validity.proofs.Updates as updates
use Rattle.dv_validity.specs.Laws.{HasBytes, IsInRange}

-- ---- the effect

pub by_some : (P : Mailbox → Type 0) (m n : Mailbox) → P m → Some m ≡ Some n → P n
by_some P m n is e = let same : m ≡ n = cc in subst P same is

effect_valid : (m n : Mailbox) (body : Body) → IsValid m → IsInRange body → effect m body ≡ Some n → IsValid n
effect_valid m n (Expunge pairs) valid is e = by_some IsValid (without_uids (is_in_pairs pairs) m) n (expunged_valid m (is_in_pairs pairs) valid) e
effect_valid m n (Append rows) valid is e = rows_valid m n rows valid is e
effect_valid m n (FlagUpdate changes) valid is e = by_some IsValid _ n (changes_valid m changes valid) e
effect_valid m n (HeaderUpdate parts) valid is e = by_some IsValid _ n (header_parts_valid m parts is valid) e
effect_valid m n (ExtIntro intros) valid is e = by_some IsValid _ n (intros_valid m intros valid) e
effect_valid m n (ExtReset reset_id preserve) valid is e = by_some IsValid _ n (updates.reset_valid m reset_id preserve valid) e
effect_valid m n (ExtHeaderUpdate parts) valid is e = by_some IsValid _ n (header_update_valid m parts valid) e
effect_valid m n (ExtRecordUpdate bytes) valid is e = by_some IsValid _ n (record_update_valid m bytes valid) e
effect_valid m n (KeywordUpdate how name pairs) valid is e = by_some IsValid _ n (keyword_valid m how name pairs is valid) e
effect_valid m n (KeywordReset pairs) valid is e = by_some IsValid _ n (keywords.reset_valid m pairs valid) e
effect_valid m n (ExpungeGuid rows) valid is e = by_some IsValid (without_uids (is_in_guid_rows rows) m) n (expunged_valid m (is_in_guid_rows rows) valid) e
effect_valid m n (Carried code bytes) valid is e = by_some IsValid m n valid e

pub effect_goes_on : (m n : Mailbox) (body : Body) → effect m body ≡ Some n → GoesOn m n
effect_goes_on m n (Expunge pairs) e = by_some (GoesOn m) (without_uids (is_in_pairs pairs) m) n (expunged_goes_on m (is_in_pairs pairs)) e
effect_goes_on m n (Append rows) e = rows_go_on m n rows e
effect_goes_on m n (FlagUpdate changes) e = by_some (GoesOn m) _ n (changes_go_on m changes) e
effect_goes_on m n (HeaderUpdate parts) e = by_some (GoesOn m) _ n (header_parts_go_on m parts) e
effect_goes_on m n (ExtIntro intros) e = by_some (GoesOn m) _ n (intros_go_on m intros) e
effect_goes_on m n (ExtReset reset_id preserve) e = by_some (GoesOn m) _ n (updates.reset_goes_on m reset_id preserve) e
effect_goes_on m n (ExtHeaderUpdate parts) e = by_some (GoesOn m) _ n (header_update_goes_on m parts) e
effect_goes_on m n (ExtRecordUpdate bytes) e = by_some (GoesOn m) _ n (record_update_goes_on m bytes) e
effect_goes_on m n (KeywordUpdate how name pairs) e = by_some (GoesOn m) _ n (keyword_goes_on m how name pairs) e
effect_goes_on m n (KeywordReset pairs) e = by_some (GoesOn m) _ n (keywords.reset_goes_on m pairs) e
effect_goes_on m n (ExpungeGuid rows) e = by_some (GoesOn m) (without_uids (is_in_guid_rows rows) m) n (expunged_goes_on m (is_in_guid_rows rows)) e
effect_goes_on m n (Carried code bytes) e = by_some (GoesOn m) m n (goes_on_same m m (omega arith) refl refl refl) e

-- ---- a record

map_by : (P : Mailbox → Type 0) (f : Mailbox → Mailbox) (n : Mailbox) (o : Option Mailbox) → option_map f o ≡ Some n → ((k : Mailbox) → o ≡ Some k → P (f k)) → P n
map_by P f n None e later = absurd cc
map_by P f n (Some k) e later = by_some P (f k) n (later k refl) e

pub after_by : (P : Mailbox → Type 0) (m n : Mailbox) (r : Record) → P (with_higher m) → ((k : Mailbox) → effect (with_higher m) r.body ≡ Some k → P (stamped m.rows k))
    → (b : Bool) → cond b (Some (with_higher m)) (option_map (stamped m.rows) (effect (with_higher m) r.body)) ≡ Some n → P n
after_by P m n r higher later true e = by_some P (with_higher m) n higher e
after_by P m n r higher later false e = map_by P (stamped m.rows) n (effect (with_higher m) r.body) e later

pub in_range_valid : (m n : Mailbox) (r : Record) → IsValid m → IsInRange r.body → after_record m r ≡ Some n → IsValid n
in_range_valid m n r valid is e =
    after_by IsValid m n r (higher_valid m valid) (λ k done. stamped_valid m.rows k (effect_valid (with_higher m) k r.body (higher_valid m valid) is done)) (is_request r) e

-- ---- records in turn

pub all_in_range_valid : (m n : Mailbox) (rs : List Record) → IsValid m → All (λ r. IsInRange r.body) rs → applied m rs ≡ Some n → IsValid n
all_in_range_valid m n [] valid is e = by_some IsValid m n valid e
all_in_range_valid m n (r ∷ rs) valid is e =
    option_and_then_some (λ k. applied k rs) (after_record m r) n e
    (λ k first rest. all_in_range_valid k n rs (in_range_valid m k r valid (All-head (λ (r : Record). IsInRange r.body) r rs is) first) (All-tail (λ (r : Record). IsInRange r.body) r rs is) rest)

pub record_valid : (m n : Mailbox) (r : Record) → IsValid m → IsRecord r → HasBytes r.body → after_record m r ≡ Some n → IsValid n
record_valid m n r valid is bytes e = in_range_valid m n r valid (record_in_range r is bytes) e

pub records_valid : (m n : Mailbox) (rs : List Record) → IsValid m → All IsRecord rs → All (λ r. HasBytes r.body) rs → applied m rs ≡ Some n → IsValid n
records_valid m n rs valid is bytes e = all_in_range_valid m n rs valid (λ k d h. record_in_range (get_or rs k d) (is k d h) (bytes k d h)) e
