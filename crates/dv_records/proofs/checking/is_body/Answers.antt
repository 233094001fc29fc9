use Rattle.std.proofs.Common.{◌≤◌, length, refl, sym, rules}
use Rattle.dv_model.specs.declared.types.Body.TheVariants.{Expunge, Append, FlagUpdate, HeaderUpdate, ExtIntro, ExtHeaderUpdate, ExtRecordUpdate, KeywordReset, ExpungeGuid, Carried}
use Rattle.dv_model.specs.Spelling.{ArePairs, AreNewRows, AreChanges, AreGuidRows, AreParts, AreIntros}
use Rattle.dv_records.proofs.Checked.{body_told, coded}
use Rattle.dv_records.proofs.Codes.{of_expunge, of_append, of_flag_update, of_header_update, of_ext_intro, of_ext_header_update, of_keyword_reset, of_expunge_guid}
use Rattle.dv_records.proofs.checking.is_body.Goals as goal

pub returns-in-52625 : goal.returns-in-52625
returns-in-52625 c = coded 52625 c.args.code c.args.bytes.now _ c.in-52625.is (body_told (λ xs. ArePairs xs c.args.bytes.now) Expunge 52625 c.args.bytes.now _ (λ xs is. (refl, is)) (of_expunge c.args.bytes.now) c.are_items.ensures)

pub returns-in-2 : goal.returns-in-2
returns-in-2 c = coded 2 c.args.code c.args.bytes.now _ c.in-2.is (body_told (λ xs. AreNewRows xs c.args.bytes.now) Append 2 c.args.bytes.now _ (λ xs is. (refl, is)) (of_append c.args.bytes.now) c.are_items-in-2.ensures)

pub returns-in-4 : goal.returns-in-4
returns-in-4 c = coded 4 c.args.code c.args.bytes.now _ c.in-4.is (body_told (λ xs. AreChanges xs c.args.bytes.now) FlagUpdate 4 c.args.bytes.now _ (λ xs is. (refl, is)) (of_flag_update c.args.bytes.now) c.are_items-in-4.ensures)

pub returns-in-32 : goal.returns-in-32
returns-in-32 c = coded 32 c.args.code c.args.bytes.now _ c.in-32.is (body_told (λ xs. (1 ≤ length xs) × AreParts xs c.args.bytes.now) HeaderUpdate 32 c.args.bytes.now _ (λ xs is. (refl, is)) (of_header_update c.args.bytes.now) c.are_some.ensures)

pub returns-in-64 : goal.returns-in-64
returns-in-64 c = coded 64 c.args.code c.args.bytes.now _ c.in-64.is (body_told (λ xs. (1 ≤ length xs) × AreIntros xs c.args.bytes.now) ExtIntro 64 c.args.bytes.now _ (λ xs is. (refl, is)) (of_ext_intro c.args.bytes.now) c.are_some-in-64.ensures)

pub returns-in-256 : goal.returns-in-256
returns-in-256 c = coded 256 c.args.code c.args.bytes.now _ c.in-256.is (body_told (λ xs. (1 ≤ length xs) × AreParts xs c.args.bytes.now) ExtHeaderUpdate 256 c.args.bytes.now _ (λ xs is. (refl, is)) (of_ext_header_update c.args.bytes.now) c.are_some-in-256.ensures)

pub returns-in-2048 : goal.returns-in-2048
returns-in-2048 c = coded 2048 c.args.code c.args.bytes.now _ c.in-2048.is (body_told (λ xs. ArePairs xs c.args.bytes.now) KeywordReset 2048 c.args.bytes.now _ (λ xs is. (refl, is)) (of_keyword_reset c.args.bytes.now) c.are_items-in-2048.ensures)

pub returns-in-60816 : goal.returns-in-60816
returns-in-60816 c = coded 60816 c.args.code c.args.bytes.now _ c.in-60816.is (body_told (λ xs. AreGuidRows xs c.args.bytes.now) ExpungeGuid 60816 c.args.bytes.now _ (λ xs is. (refl, is)) (of_expunge_guid c.args.bytes.now) c.are_items-in-60816.ensures)

pub returns-in-512 : goal.returns-in-512
returns-in-512 c = (ExtRecordUpdate c.args.bytes.now, (sym c.in-512.is, (refl, c.requires.whole)))

pub returns-in_default : goal.returns-in_default
returns-in_default c = (Carried c.args.code c.args.bytes.now, (refl, (search rules, (refl, c.requires.whole))))
