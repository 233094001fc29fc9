-- The records of a rebuilt log are ones that a log may have.
use Rattle.std.proofs.Common.{ℕ, ◌+◌, ◌^◌, ◌<◌, ◌≤◌, List, [], ◌∷◌, ◌++◌, map, refl, arith}
use Rattle.std.specs.Prelude.{All, filter, flat_map, if◌then◌else◌}
use Rattle.std.specs.List.{enumerate_from}
use Rattle.std.proofs.lemmas.List.Elements.{All-append, All-cons, All-filter, All-head, All-map, All-nil, All-tail, All-weaker, recursion_from_All}
use Rattle.dv_model.specs.declared.types.Body.TheVariants as body
use Rattle.dv_model.specs.declared.types.How.TheVariants.{Add}
use Rattle.dv_model.specs.declared.types.NewRow.{NewRow}
use Rattle.dv_model.specs.declared.types.Pair.{Pair}
use Rattle.dv_model.specs.declared.types.Record.{Record}
use Rattle.dv_model.specs.Names.{IsName}
use Rattle.dv_model.specs.Sessions.{external, external_record, keyword_updates, pieces, ranges_of}
use Rattle.dv_model.specs.Spelling.{IsRecord, IsUid}
use Rattle.dv_records.proofs.Valid.{valid_append, valid_keyword_update}
use Rattle.dv_validity.proofs.Pieces.{IsPiece, IsRange, pieces_are, ranges_are}
use Rattle.dv_validity.proofs.Texts.{flat_all}
use Rattle.dv_logfile.specs.Layout.{IsGoodHeader}
use Rattle.dv_openings.specs.Salvages.{Salvaged, has_keyword, header_record, keyword_records, kept_row, rebuilt_records}
use Rattle.dv_rebuild.specs.Plans.{header_of}

header_is_record : (offset n : ℕ) → offset < 2 ^ 16 → IsRecord (header_record offset n)
header_is_record offset n small = record {
  spells = record {
    size = refl;
    below = omega arith;
    type = refl;
    payload = (omega arith, (record { size = refl; fields = refl; short = omega arith; place = small }, refl));
    top = omega arith;
  };
}

abbrev HasUid : NewRow → Type 0
HasUid row = IsUid row.uid

each_piece : {X : Type 0} (P : X → Type 0) (f : List X → Record) → ((xs : List X) → IsPiece P xs → IsRecord (f xs)) → (xs : List X) → All P xs → All IsRecord (map f (pieces xs))
each_piece P f each xs all = All-map IsRecord f (pieces xs) (All-weaker (IsPiece P) (λ xs. IsRecord (f xs)) each (pieces xs) (pieces_are P xs all))

appends_are : (rows : List NewRow) → All HasUid rows → All IsRecord (map (λ rows. external_record (body.Append rows)) (pieces rows))
appends_are rows all =
    each_piece HasUid (λ rows. external_record (body.Append rows)) (λ rows piece. valid_append external rows (omega arith) (recursion_from_All HasUid rows piece.each) (omega (arith, piece.short))) rows all

updates_are : (pairs : List Pair) (name : List ℕ) → All IsRange pairs → IsName name → All IsRecord (keyword_updates Add pairs name)
updates_are pairs name all is =
    each_piece IsRange (λ ps. external_record (body.KeywordUpdate Add name ps))
    (λ ps piece. valid_keyword_update external Add name ps (omega arith) is (recursion_from_All IsRange ps piece.each) (omega (arith, piece.short))) pairs all

abbrev IsNamed : ℕ × List ℕ → Type 0
IsNamed keyword = IsName keyword.1

numbered_names : (k : ℕ) (names : List (List ℕ)) → All IsName names → All IsNamed (enumerate_from k names)
numbered_names k [] all = All-nil IsNamed
numbered_names k (name ∷ names) all =
    All-cons IsNamed (k, name) (enumerate_from (k + 1) names) (All-head IsName name names all) (numbered_names (k + 1) names (All-tail IsName name names all))

pub rebuilt_are : (s : Salvaged) (kept : List ℕ) (n : ℕ) → All IsUid kept → All IsName s.mailbox.keywords → All IsRecord (rebuilt_records s kept n)
rebuilt_are s kept n uids names =
    let m = s.mailbox in
    let rows = map (kept_row m) kept in
    let appends = map (λ rows. external_record (body.Append rows)) (pieces rows) in
    let keywords = flat_map (keyword_records m kept) (enumerate_from 0 m.keywords) in
    let validity = header_record 24 (if s.given then m.uid_validity else n) in
    let are : All IsRecord appends = appends_are rows (All-map HasUid (kept_row m) kept uids) in
    let named : All IsRecord keywords =
    flat_all IsNamed IsRecord (keyword_records m kept)
    (λ keyword is. updates_are (ranges_of (filter (has_keyword m keyword.0) kept)) keyword.1 (ranges_are (filter (has_keyword m keyword.0) kept) (All-filter (has_keyword m keyword.0) IsUid kept uids)) is)
    (enumerate_from 0 m.keywords) (numbered_names 0 m.keywords names) in
    All-cons IsRecord validity _ (header_is_record 24 (if s.given then m.uid_validity else n) (omega arith))
    (All-append IsRecord (appends ++ keywords) _ (All-append IsRecord appends keywords are named) (All-cons IsRecord _ [] (header_is_record 28 _ (omega arith)) (All-nil IsRecord)))

pub good_header : (indexid stamp highest : ℕ) → 1 ≤ indexid → indexid < 2 ^ 32 → stamp < 2 ^ 32 → highest < 2 ^ 64 → IsGoodHeader (header_of indexid stamp highest)
good_header indexid stamp highest some below time number = record {
  size = refl;
  wide = record { size = omega arith; numbers = (below, omega arith, time); previous = (omega arith, omega arith); modseq = number };
  version = refl;
  numbers = (some, omega arith);
  little_endian = refl;
}
