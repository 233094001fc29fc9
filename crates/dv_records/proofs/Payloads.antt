-- A payload is whole words, and each text in it that stands with its size is short.
use Rattle.std.proofs.Common.{◌≡◌, ℕ, ◌+◌, ◌%◌, List, length, drop, ap, arith, refl, inl, inr}
use Rattle.std.proofs.lemmas.List.{length-drop}
use Rattle.std.proofs.lemmas.List.Elements.{All-from_recursion}
use Rattle.dv_model.specs.declared.types.Body.{Body}
use Rattle.dv_model.specs.declared.types.Body.TheVariants.{Expunge, Append, FlagUpdate, HeaderUpdate, ExtIntro, ExtReset, ExtHeaderUpdate, ExtRecordUpdate, KeywordUpdate, KeywordReset, ExpungeGuid, Carried}
use Rattle.dv_model.specs.declared.types.Change.{Change}
use Rattle.dv_model.specs.declared.types.GuidRow.{GuidRow}
use Rattle.dv_model.specs.declared.types.Intro.{Intro}
use Rattle.dv_model.specs.declared.types.NewRow.{NewRow}
use Rattle.dv_model.specs.declared.types.Pair.{Pair}
use Rattle.dv_model.specs.declared.types.Part.{Part}
use Rattle.dv_model.specs.Spelling.{IsPair, IsNewRow, IsChange, IsGuidRow, IsPart, IsIntro, IsPayload, padded}
use Rattle.dv_records.specs.Short.{IsShortPart, IsShortIntro, HasShortTexts}
use Rattle.dv_records.proofs.InTurn.{IsSized, in_turn-whole, in_turn-all}

pub sized_pairs : IsSized (λ (pair : Pair). 8) IsPair
sized_pairs = record { sized = λ pair b is. ap length is.fields; whole = λ pair. refl }

pub sized_new_rows : IsSized (λ (row : NewRow). 8) IsNewRow
sized_new_rows = record { sized = λ row b is. is.size; whole = λ row. refl }

pub sized_changes : IsSized (λ (change : Change). 12) IsChange
sized_changes = record { sized = λ change b is. is.size; whole = λ change. refl }

pub sized_guid_rows : IsSized (λ (row : GuidRow). 20) IsGuidRow
sized_guid_rows = record { sized = λ row b is. let e : length b ≡ 4 + length row.guid = rw is.fields (omega arith) in omega (arith, is.size); whole = λ row. refl }

padded-whole : (n : ℕ) → padded n % 4 ≡ 0
padded-whole n = omega arith

pub sized_parts : IsSized (λ (part : Part). padded (4 + length part.bytes)) IsPart
sized_parts = record { sized = λ part b is. is.size; whole = λ part. padded-whole (4 + length part.bytes) }

pub sized_intros : IsSized (λ (intro : Intro). padded (20 + length intro.name)) IsIntro
sized_intros = record { sized = λ intro b is. is.size; whole = λ intro. padded-whole (20 + length intro.name) }

pub payload-whole : (body : Body) (b : List ℕ) → IsPayload body b → length b % 4 ≡ 0
payload-whole (Expunge pairs) b is = in_turn-whole _ IsPair sized_pairs pairs b is
payload-whole (Append rows) b is = in_turn-whole _ IsNewRow sized_new_rows rows b is
payload-whole (FlagUpdate changes) b is = in_turn-whole _ IsChange sized_changes changes b is
payload-whole (HeaderUpdate parts) b is = in_turn-whole _ IsPart sized_parts parts b is.1
payload-whole (ExtIntro intros) b is = in_turn-whole _ IsIntro sized_intros intros b is.1
payload-whole (ExtReset reset_id preserve) b is = elim is.1 [ inl long ↦ omega (arith, long.0) | inr short ↦ rw short.0 refl ]
payload-whole (ExtHeaderUpdate parts) b is = in_turn-whole _ IsPart sized_parts parts b is.1
payload-whole (ExtRecordUpdate bytes) b is = rw is.0 is.1
payload-whole (KeywordUpdate how name pairs) b is =
    let rest : length (drop (padded (4 + length name)) b) % 4 ≡ 0 = in_turn-whole _ IsPair sized_pairs pairs _ is.ranges in
    omega (arith, length-drop (padded (4 + length name)) b, is.size)
payload-whole (KeywordReset pairs) b is = in_turn-whole _ IsPair sized_pairs pairs b is
payload-whole (ExpungeGuid rows) b is = in_turn-whole _ IsGuidRow sized_guid_rows rows b is
payload-whole (Carried code bytes) b is = rw is.1.0 is.1.1

short_parts : (parts : List Part) (b : List ℕ) → (IsPayload (HeaderUpdate parts) b)
    → HasShortTexts (HeaderUpdate parts)
short_parts parts b is = All-from_recursion IsShortPart parts (in_turn-all _ IsPart IsShortPart (λ part t p. p.short) parts b is.1)

pub payload-short : (body : Body) (b : List ℕ) → IsPayload body b → HasShortTexts body
payload-short (HeaderUpdate parts) b is = short_parts parts b is
payload-short (ExtHeaderUpdate parts) b is = short_parts parts b is
payload-short (ExtIntro intros) b is = All-from_recursion IsShortIntro intros (in_turn-all _ IsIntro IsShortIntro (λ intro t p. p.numbers.short.3) intros b is.1)
payload-short (KeywordUpdate how name pairs) b is = omega (arith, is.keyword.size.1)
payload-short body b is = tt
