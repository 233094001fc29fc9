-- What a body is by its code, and that a payload is of one body.
use Rattle.std.proofs.Common.{◌≡◌, ℕ, ◌≤◌, List, length, Err, refl, ap, arith}
use Rattle.dv_model.specs.declared.types.Body.{Body}
use Rattle.dv_model.specs.declared.types.Body.TheVariants.{Expunge, Append, FlagUpdate, HeaderUpdate, ExtIntro, ExtReset, ExtHeaderUpdate, ExtRecordUpdate, KeywordUpdate, KeywordReset, ExpungeGuid, Carried}
use Rattle.dv_model.specs.declared.types.Change.{Change}
use Rattle.dv_model.specs.declared.types.GuidRow.{GuidRow}
use Rattle.dv_model.specs.declared.types.How.{How}
use Rattle.dv_model.specs.declared.types.Intro.{Intro}
use Rattle.dv_model.specs.declared.types.NewRow.{NewRow}
use Rattle.dv_model.specs.declared.types.Pair.{Pair}
use Rattle.dv_model.specs.declared.types.Part.{Part}
use Rattle.dv_model.specs.Spelling.{ArePairs, AreNewRows, AreChanges, AreGuidRows, AreParts, AreIntros, AreBytes, IsReset, IsKeywordUpdate, IsCarriedCode}
use Rattle.dv_records.specs.declared.fault.DecodeEnd.{DecodeEnd}
use Rattle.dv_records.specs.declared.fault.DecodeEnd.TheVariants.{Fault, NoMemory}
use Rattle.dv_records.specs.Faults.{IsBodyOf}
use Rattle.dv_records.specs.Fronts.{Reads}

-- ---- the body of a code

pub of_expunge : (b : List ℕ) (body : Body) → IsBodyOf 0xcd91 b body
    → (pairs : List Pair) × (body ≡ Expunge pairs) × ArePairs pairs b
of_expunge b (Expunge pairs) is = (pairs, refl, is.1)
of_expunge b body is = absurd (omega arith)

pub of_append : (b : List ℕ) (body : Body) → IsBodyOf 0x2 b body
    → (rows : List NewRow) × (body ≡ Append rows) × AreNewRows rows b
of_append b (Append rows) is = (rows, refl, is.1)
of_append b body is = absurd (omega arith)

pub of_flag_update : (b : List ℕ) (body : Body) → IsBodyOf 0x4 b body
    → (changes : List Change) × (body ≡ FlagUpdate changes) × AreChanges changes b
of_flag_update b (FlagUpdate changes) is = (changes, refl, is.1)
of_flag_update b body is = absurd (omega arith)

pub of_header_update : (b : List ℕ) (body : Body) → IsBodyOf 0x20 b body
    → (parts : List Part) × (body ≡ HeaderUpdate parts) × ((1 ≤ length parts) × AreParts parts b)
of_header_update b (HeaderUpdate parts) is = (parts, refl, is.1)
of_header_update b body is = absurd (omega arith)

pub of_ext_intro : (b : List ℕ) (body : Body) → IsBodyOf 0x40 b body
    → (intros : List Intro) × (body ≡ ExtIntro intros) × ((1 ≤ length intros) × AreIntros intros b)
of_ext_intro b (ExtIntro intros) is = (intros, refl, is.1)
of_ext_intro b body is = absurd (omega arith)

pub of_ext_reset : (b : List ℕ) (body : Body) → IsBodyOf 0x80 b body
    → (reset_id preserve : ℕ) × (body ≡ ExtReset reset_id preserve) × IsReset reset_id preserve b
of_ext_reset b (ExtReset reset_id preserve) is = (reset_id, preserve, refl, is.1)
of_ext_reset b body is = absurd (omega arith)

pub of_ext_header_update : (b : List ℕ) (body : Body) → IsBodyOf 0x100 b body
    → (parts : List Part) × (body ≡ ExtHeaderUpdate parts) × ((1 ≤ length parts) × AreParts parts b)
of_ext_header_update b (ExtHeaderUpdate parts) is = (parts, refl, is.1)
of_ext_header_update b body is = absurd (omega arith)

pub of_ext_record_update : (b : List ℕ) (body : Body) → IsBodyOf 0x200 b body
    → (bytes : List ℕ) × (body ≡ ExtRecordUpdate bytes) × AreBytes bytes b
of_ext_record_update b (ExtRecordUpdate bytes) is = (bytes, refl, is.1)
of_ext_record_update b body is = absurd (omega arith)

pub of_keyword_update : (b : List ℕ) (body : Body) → IsBodyOf 0x400 b body
    → (how : How) × (name : List ℕ) × (pairs : List Pair) × (body ≡ KeywordUpdate how name pairs) × IsKeywordUpdate how name pairs b
of_keyword_update b (KeywordUpdate how name pairs) is = (how, name, pairs, refl, is.1)
of_keyword_update b body is = absurd (omega arith)

pub of_keyword_reset : (b : List ℕ) (body : Body) → IsBodyOf 0x800 b body
    → (pairs : List Pair) × (body ≡ KeywordReset pairs) × ArePairs pairs b
of_keyword_reset b (KeywordReset pairs) is = (pairs, refl, is.1)
of_keyword_reset b body is = absurd (omega arith)

pub of_expunge_guid : (b : List ℕ) (body : Body) → IsBodyOf 0xed90 b body
    → (rows : List GuidRow) × (body ≡ ExpungeGuid rows) × AreGuidRows rows b
of_expunge_guid b (ExpungeGuid rows) is = (rows, refl, is.1)
of_expunge_guid b body is = absurd (omega arith)

pub of_carried : (code : ℕ) (b : List ℕ) (body : Body) → IsCarriedCode code → IsBodyOf code b body
    → (bytes : List ℕ) × (body ≡ Carried code bytes) × AreBytes bytes b
of_carried code b (Carried other bytes) carried is = (bytes, ap (λ (n : ℕ). Carried n bytes) is.0, is.1.1)
of_carried code b body carried is = absurd (omega arith)

-- where the items of a code can't be read, no body of the code can
pub no_body : {A : Type 0} (Is : A → Type 0) (make : A → Body) (code : ℕ) (b : List ℕ)
    (e : DecodeEnd)
    → ((body : Body) → IsBodyOf code b body → (x : A) × (body ≡ make x) × Is x) → Reads Is (Err e)
    → Reads (IsBodyOf code b) (Err e)
no_body Is make code b NoMemory items fails = tt
no_body Is make code b (Fault f) items fails = (fails.0, λ body is. let x = items body is in fails.1 x.0 x.2)
