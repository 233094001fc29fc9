-- What a command writes is an entry, and what entries leave of a mailbox.
use Rattle.std.proofs.Common.{◌≡◌, ℕ, ◌≤◌, List, [], ◌∷◌, get_or, length, Some}
use Rattle.std.specs.Prelude.{All, flat_map}
use Rattle.std.proofs.lemmas.List.Elements.{All-cons, All-nil, All-weaker}
use Rattle.dv_model.specs.declared.types.Command.{Command}
use Rattle.dv_model.specs.declared.types.Entry.{Entry}
use Rattle.dv_model.specs.declared.types.Mailbox.{Mailbox}
use Rattle.dv_model.specs.declared.types.Record.{Record}
use Rattle.dv_model.specs.Effects.{applied}
use Rattle.dv_model.specs.Journals.{AreByteValues, HasResets, IsEntry, IsGuid, IsU32}
use Rattle.dv_model.specs.Mailboxes.{IsValid}
use Rattle.dv_model.specs.Sessions.{IsCommand, group_of}
use Rattle.dv_model.specs.Spelling.{IsRecord, written}
use Rattle.dv_model.specs.Views.{View}
use Rattle.dv_validity.proofs.Ranges.{record_in_range}
use Rattle.dv_validity.proofs.Records.{all_in_range_valid}
use Rattle.dv_validity.proofs.Resets.{records_resets}
use Rattle.dv_validity.proofs.Texts.{IsByte, all_left, all_right, body_has_bytes, flat_all, payload_bytes, written_bytes}
use Rattle.dv_validity.proofs.Written.{IsWritable, group_written}
use Rattle.dv_validity.specs.Entries.{AreInRange, HasUidLeft}
use Rattle.dv_validity.specs.Laws.{HasBytes}

pub group_is_entry : (c : Command) (view : View) (m : Mailbox) (guid : ℕ → List ℕ) (author : ℕ) → IsCommand c → IsValid m → HasResets m → ((uid : ℕ) → IsGuid (guid uid)) → IsU32 author → HasUidLeft c m
    → 1 ≤ length (group_of c view m guid).records → IsEntry (record { author = author; group = group_of c view m guid })
group_is_entry c view m guid author good valid resets guids number left some =
    let rs : List Record = (group_of c view m guid).records in
    let are : All IsWritable rs = group_written m valid c view guid good resets guids left in
    record {
      author = number;
      some = some;
      records = All-weaker IsWritable IsRecord (λ r one. one.is) rs are;
      bytes = flat_all IsWritable IsByte written (λ r one. written_bytes r one.bytes) rs are;
    }

-- ---- the records of an entry

each_has_bytes : (rs : List Record) → AreByteValues (flat_map written rs) → All (λ r. HasBytes r.body) rs
each_has_bytes [] all = All-nil (λ (r : Record). HasBytes r.body)
each_has_bytes (r ∷ rs) all =
    All-cons (λ (r : Record). HasBytes r.body) r rs (body_has_bytes r.body (payload_bytes r (all_left IsByte (written r) (flat_map written rs) all)))
    (each_has_bytes rs (all_right IsByte (written r) (flat_map written rs) all))

pub entry_has_bytes : (e : Entry) → IsEntry e → All (λ r. HasBytes r.body) e.group.records
entry_has_bytes e is = each_has_bytes e.group.records is.bytes

pub entry_in_range : (e : Entry) → IsEntry e → AreInRange e.group
entry_in_range e is k d h = record_in_range (get_or e.group.records k d) (is.records k d h) (entry_has_bytes e is k d h)

pub entry_is_in_range : (e : Entry) → IsEntry e → All (λ r. HasBytes r.body) e.group.records × AreInRange e.group
entry_is_in_range e is = (entry_has_bytes e is, entry_in_range e is)

pub entry_valid : (m n : Mailbox) (e : Entry) → IsValid m → IsEntry e → applied m e.group.records ≡ Some n → IsValid n
entry_valid m n e valid is done = all_in_range_valid m n e.group.records valid (entry_in_range e is) done

pub entry_resets : (m n : Mailbox) (e : Entry) → HasResets m → IsEntry e → applied m e.group.records ≡ Some n → HasResets n
entry_resets m n e resets is done = records_resets m n e.group.records resets is.records done
