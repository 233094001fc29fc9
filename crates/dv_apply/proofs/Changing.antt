-- What records other than appends leave, with the modification sequences of the rows.
use Rattle.std.proofs.Common.{◌≡◌, ◌≢◌, ℕ, Bool, true, false, cond, ◌&&◌, not, List, [], ◌∷◌, Option, Some, None, refl, sym, ◌∙◌, ap}
use Rattle.std.specs.Prelude.{filter, fold, map}
use Rattle.std.proofs.lemmas.List.{map-id}
use Rattle.dv_model.specs.declared.types.Body.{Body}
use Rattle.dv_model.specs.declared.types.Body.TheVariants.{Expunge, FlagUpdate, HeaderUpdate, KeywordUpdate, KeywordReset, ExpungeGuid, Carried}
use Rattle.dv_model.specs.declared.types.Change.{Change}
use Rattle.dv_model.specs.declared.types.GuidRow.{GuidRow}
use Rattle.dv_model.specs.declared.types.How.{How}
use Rattle.dv_model.specs.declared.types.How.TheVariants.{Add, Remove, Replace}
use Rattle.dv_model.specs.declared.types.Mailbox.{Mailbox}
use Rattle.dv_model.specs.declared.types.Pair.{Pair}
use Rattle.dv_model.specs.declared.types.Part.{Part}
use Rattle.dv_model.specs.declared.types.Record.{Record}
use Rattle.dv_model.specs.declared.types.Row.{Row}
use Rattle.dv_model.specs.Effects.{after_record, header_number, is_as_before, is_in_guid_rows, is_in_pairs, is_request, keywords_after, place_of, removes, stamped, with_header_part, with_higher, with_keyword, with_keywords, with_name, with_named, with_next_uid, with_row_parts, with_validity, without_uids}
use Rattle.dv_model.specs.Mailboxes.{IsValid}
use Rattle.dv_keywords.proofs.Lookup.{kept}
use Rattle.dv_rows.specs.Changed.{changed_keywords}
use Rattle.dv_validity.proofs.Comparisons.{as_before_itself, flags_by_rows, stamped_alike, stamped_rows, stamped_without}
use Rattle.dv_validity.proofs.Records.{in_range_valid}
use Rattle.dv_validity.specs.Laws.{IsInRange, changed_flags, restamped}
use Rattle.dv_apply.specs.Bodies.{after_body}

-- ---- by the body alone

no_request_by : (b : Bool) → (b && false) ≡ false
no_request_by true = refl
no_request_by false = refl

-- what the record leaves is valid
pub body_valid : (m n : Mailbox) (body : Body) → IsValid m → IsInRange body → after_body m body ≡ Some n → IsValid n
body_valid m n body valid is e =
    let r : Record = record { top = 1; body = body } in
    in_range_valid m n r valid is (ap (λ (b : Bool). cond b (Some (with_higher m)) (after_body m body)) (no_request_by (removes body)) ∙ e)

-- a record that is no request does what its body says
pub by_body : (m : Mailbox) (r : Record) → is_request r ≡ false → after_record m r ≡ after_body m r.body
by_body m r e = ap (λ (b : Bool). cond b (Some (with_higher m)) (after_body m r.body)) e

pub by_request : (m : Mailbox) (r : Record) → is_request r ≡ true → after_record m r ≡ Some (with_higher m)
by_request m r e = ap (λ (b : Bool). cond b (Some (with_higher m)) (after_body m r.body)) e

-- ---- rows leave

pub expunged : (m : Mailbox) (pairs : List Pair) → after_body m (Expunge pairs) ≡ Some (record (with_higher m) { rows = filter (λ row. not (is_in_pairs pairs row.uid)) m.rows })
expunged m pairs = ap Some (stamped_without m (without_uids (is_in_pairs pairs) (with_higher m)) (λ row. not (is_in_pairs pairs row.uid)) refl)

pub expunged_named : (m : Mailbox) (rows : List GuidRow) → after_body m (ExpungeGuid rows) ≡ Some (record (with_higher m) { rows = filter (λ row. not (is_in_guid_rows rows row.uid)) m.rows })
expunged_named m rows = ap Some (stamped_without m (without_uids (is_in_guid_rows rows) (with_higher m)) (λ row. not (is_in_guid_rows rows row.uid)) refl)

-- ---- rows stay

same_rows : (m n : Mailbox) → n.rows ≡ m.rows → stamped m.rows n ≡ n
same_rows m n same = stamped_alike m n (λ row. row) as_before_itself (same ∙ sym (map-id m.rows))

pub carried : (m : Mailbox) (code : ℕ) (bytes : List ℕ) → after_body m (Carried code bytes) ≡ Some (with_higher m)
carried m code bytes = ap Some (same_rows m (with_higher m) refl)

validity_rows : (m : Mailbox) (o : Option ℕ) → (with_validity m o).rows ≡ m.rows
validity_rows m None = refl
validity_rows m (Some n) = refl

next_uid_rows : (m : Mailbox) (o : Option ℕ) → (with_next_uid m o).rows ≡ m.rows
next_uid_rows m None = refl
next_uid_rows m (Some n) = refl

header_rows : (m : Mailbox) (parts : List Part) → (fold with_header_part m parts).rows ≡ m.rows
header_rows m [] = refl
header_rows m (part ∷ parts) =
    header_rows (with_header_part m part) parts
    ∙ next_uid_rows (with_validity m (header_number part 24)) (header_number part 28)
    ∙ validity_rows m (header_number part 24)

pub header_changed : (m : Mailbox) (parts : List Part) → after_body m (HeaderUpdate parts) ≡ Some (fold with_header_part (with_higher m) parts)
header_changed m parts = ap Some (same_rows m (fold with_header_part (with_higher m) parts) (header_rows (with_higher m) parts))

-- ---- flags

pub flags_changed : (m : Mailbox) (changes : List Change) (n : ℕ) → IsValid m → n ≡ (with_higher m).highest
    → after_body m (FlagUpdate changes) ≡ Some (record (with_higher m) { rows = map (λ row. restamped n row (fold changed_flags row changes)) m.rows })
flags_changed m changes n valid e =
    flags_by_rows m 0 changes valid ∙ ap (λ (k : ℕ). Some (record (with_higher m) { rows = map (λ row. restamped k row (fold changed_flags row changes)) m.rows })) (sym e)

-- ---- keywords

other_uid_by : (change : List ℕ → List ℕ) (row : Row) (b : Bool) → (cond b (record row { keywords = change row.keywords }) row).uid ≡ row.uid
other_uid_by change row true = refl
other_uid_by change row false = refl

keywords_stamped : (m n : Mailbox) (pairs : List Pair) (change : List ℕ → List ℕ) → IsValid m → n.rows ≡ m.rows
    → stamped m.rows (with_keywords pairs change n) ≡ record n { rows = map (λ row. restamped n.highest row (changed_keywords pairs change row)) m.rows }
keywords_stamped m n pairs change valid same =
    stamped_rows m (with_keywords pairs change n) (changed_keywords pairs change) valid (λ row. other_uid_by change row (is_in_pairs pairs row.uid)) (ap (map (changed_keywords pairs change)) same)

pub keywords_cleared : (m : Mailbox) (pairs : List Pair) (n : ℕ) → IsValid m → n ≡ (with_higher m).highest
    → after_body m (KeywordReset pairs) ≡ Some (record (with_higher m) { rows = map (λ row. restamped n row (changed_keywords pairs (λ places. []) row)) m.rows })
keywords_cleared m pairs n valid e =
    ap Some (keywords_stamped m (with_higher m) pairs (λ places. []) valid refl)
    ∙ ap (λ (k : ℕ). Some (record (with_higher m) { rows = map (λ row. restamped k row (changed_keywords pairs (λ places. []) row)) m.rows })) (sym e)

named_rows : (how : How) (name : List ℕ) (m : Mailbox) → (with_named how name m).rows ≡ m.rows
named_rows Add name m = refl
named_rows Remove name m = refl
named_rows Replace name m = refl

named_highest : (how : How) (name : List ℕ) (m : Mailbox) → (with_named how name m).highest ≡ m.highest
named_highest Add name m = refl
named_highest Remove name m = refl
named_highest Replace name m = refl

-- a keyword of the table
pub keyword_changed : (m : Mailbox) (how : How) (name : List ℕ) (pairs : List Pair) (k n : ℕ) → IsValid m → place_of (with_named how name (with_higher m)).keywords name ≡ Some k → n ≡ (with_higher m).highest
    → after_body m (KeywordUpdate how name pairs)
    ≡ Some (record (with_named how name (with_higher m)) { rows = map (λ row. restamped n row (changed_keywords pairs (keywords_after how k) row)) m.rows })
keyword_changed m how name pairs k n valid at e =
    let named : Mailbox = with_named how name (with_higher m) in
    let placed : with_keyword how name pairs named ≡ with_keywords pairs (keywords_after how k) named = rw at refl in
    ap (λ x. Some (stamped m.rows x)) placed
    ∙ ap Some (keywords_stamped m named pairs (keywords_after how k) valid (named_rows how name (with_higher m)))
    ∙ ap (λ (top : ℕ). Some (record named { rows = map (λ row. restamped top row (changed_keywords pairs (keywords_after how k) row)) m.rows })) (named_highest how name (with_higher m) ∙ sym e)

-- a keyword that isn't in the table is no row's
pub keyword_unknown : (m : Mailbox) (name : List ℕ) (pairs : List Pair) → place_of m.keywords name ≡ None → after_body m (KeywordUpdate Remove name pairs) ≡ Some (with_higher m)
keyword_unknown m name pairs none =
    let placed : with_keyword Remove name pairs (with_higher m) ≡ with_higher m = rw none refl in
    ap (λ x. Some (stamped m.rows x)) placed ∙ ap Some (same_rows m (with_higher m) refl)

-- ---- parts of rows

as_before_parts : (f : List (List ℕ) → List (List ℕ)) (row : Row) → is_as_before (with_row_parts f row) row ≡ true
as_before_parts f row = as_before_itself row

-- where only the parts of rows change, no row is stamped
pub parts_alike : (m n : Mailbox) (f : List (List ℕ) → List (List ℕ)) → n.rows ≡ map (with_row_parts f) m.rows → stamped m.rows n ≡ n
parts_alike m n f rows = stamped_alike m n (with_row_parts f) (as_before_parts f) rows

-- ---- keywords of the table, and new ones

pub named_known : (how : How) (name : List ℕ) (m : Mailbox) (k : ℕ) → place_of m.keywords name ≡ Some k → with_named how name m ≡ m
named_known Add name m k at = ap (λ (names : List (List ℕ)). record m { keywords = names }) (kept m.keywords name k at)
named_known Remove name m k at = refl
named_known Replace name m k at = ap (λ (names : List (List ℕ)). record m { keywords = names }) (kept m.keywords name k at)

pub known_changed : (m : Mailbox) (how : How) (name : List ℕ) (pairs : List Pair) (k n : ℕ) → IsValid m → place_of m.keywords name ≡ Some k → n ≡ (with_higher m).highest
    → after_body m (KeywordUpdate how name pairs) ≡ Some (record (with_higher m) { rows = map (λ row. restamped n row (changed_keywords pairs (keywords_after how k) row)) m.rows })
known_changed m how name pairs k n valid at e =
    let same : with_named how name (with_higher m) ≡ with_higher m = named_known how name (with_higher m) k at in
    let there : place_of (with_named how name (with_higher m)).keywords name ≡ Some k = ap (λ (x : Mailbox). place_of x.keywords name) same ∙ at in
    keyword_changed m how name pairs k n valid there e
    ∙ ap (λ (x : Mailbox). Some (record x { rows = map (λ row. restamped n row (changed_keywords pairs (keywords_after how k) row)) m.rows })) same

pub named_new : (how : How) (name : List ℕ) (m : Mailbox) → how ≢ Remove → with_named how name m ≡ record m { keywords = with_name name m.keywords }
named_new Add name m other = refl
named_new Remove name m other = absurd (other refl)
named_new Replace name m other = refl

pub new_changed : (m : Mailbox) (how : How) (name : List ℕ) (pairs : List Pair) (names : List (List ℕ)) (k n : ℕ) → IsValid m → how ≢ Remove → names ≡ with_name name m.keywords → place_of names name ≡ Some k → n ≡ (with_higher m).highest
    → after_body m (KeywordUpdate how name pairs) ≡ Some (record (with_higher m) { keywords = names; rows = map (λ row. restamped n row (changed_keywords pairs (keywords_after how k) row)) m.rows })
new_changed m how name pairs names k n valid other is at e =
    let named : with_named how name (with_higher m) ≡ record (with_higher m) { keywords = names } = named_new how name (with_higher m) other ∙ ap (λ (ns : List (List ℕ)). record (with_higher m) { keywords = ns }) (sym is) in
    let there : place_of (with_named how name (with_higher m)).keywords name ≡ Some k = ap (λ (x : Mailbox). place_of x.keywords name) named ∙ at in
    keyword_changed m how name pairs k n valid there e
    ∙ ap (λ (x : Mailbox). Some (record x { rows = map (λ row. restamped n row (changed_keywords pairs (keywords_after how k) row)) m.rows })) named
