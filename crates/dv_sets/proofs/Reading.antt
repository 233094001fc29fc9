-- A set is read range by range.
use Rattle.std.proofs.Common.{◌≡◌, inl, inr, ℕ, List, [], ◌∷◌, ◌++◌, Option, Some, None, false, nat_eq, Bor, refl, sym, ◌∙◌, ap, subst, arith, append_assoc}
use Rattle.std.specs.List.{AllZip}
use Rattle.std.specs.Option.{IfNone, MatchOption}
use Rattle.std.proofs.lemmas.List.{length_push}
use Rattle.std.proofs.lemmas.List.Elements.{All-append, All-cons}
use Rattle.dv_model.specs.declared.types.End.{End}
use Rattle.dv_model.specs.declared.types.Span.{Span}
use Rattle.dv_formats.specs.Scripts.{IsEnd, IsSpan, IsWide, IsSet, joined}
use Rattle.dv_sets.proofs.EndTexts.{end_lacks, end_is_one}
use Rattle.dv_formats.proofs.Zips.{zip_push}
use Rattle.dv_sets.proofs.Pieces.{Lacks, split, one_piece, first_piece, some_piece, joined_split, split_joined, only_piece, zip_middle, zip_one, zip_some, zip_all}

-- ---- ranges

-- what the pieces between colons are
abbrev pub SpanPieces : Span → List (List ℕ) → Type 0
SpanPieces span [] = ⊥
SpanPieces span (x ∷ []) = (span.from ≡ span.to) × IsEnd span.from x
SpanPieces span (x ∷ y ∷ []) = IsEnd span.from x × IsEnd span.to y
SpanPieces span (x ∷ y ∷ z ∷ zs) = ⊥

no_colon : (end : End) (b : List ℕ) → IsEnd end b → Lacks 58 b
no_colon end b is = end_lacks 58 end b (omega arith) (inr (omega arith)) is

no_comma : (end : End) (b : List ℕ) → IsEnd end b → Lacks 44 b
no_comma end b is = end_lacks 44 end b (omega arith) (inl (omega arith)) is

wide_text : (span : Span) (b : List ℕ) (w : IsWide span b) → b ≡ w.from ++ 58 ∷ w.to
wide_text span b w = w.text ∙ append_assoc w.from (58 ∷ []) w.to

pub span_pieces : (span : Span) (b : List ℕ) → IsSpan span b → SpanPieces span (split 58 b)
span_pieces span b (inl w) =
    let parts = first_piece 58 b w.from w.to (no_colon span.from w.from w.ends.0) (wide_text span b w) ∙ ap (λ t. w.from ∷ t) (one_piece 58 w.to w.to (no_colon span.to w.to w.ends.1) refl) in
    subst (SpanPieces span) (sym parts) w.ends
span_pieces span b (inr s) = subst (SpanPieces span) (sym (one_piece 58 b b (no_colon span.from b s.1) refl)) s

-- the range of a text without a colon
pub single_from : (span : Span) (b front : List ℕ) → Lacks 58 front → b ≡ front → IsSpan span b
    → IsEnd span.from front
single_from span b front lacks e is = (subst (SpanPieces span) (one_piece 58 b front lacks e) (span_pieces span b is)).1

-- of one with a colon
pub wide_from : (span : Span) (b front rest : List ℕ) → Lacks 58 front → b ≡ front ++ 58 ∷ rest
    → IsSpan span b → IsEnd span.from front × IsEnd span.to rest
wide_from span b front rest lacks e is =
    by_rest (split 58 rest) refl (subst (SpanPieces span) (first_piece 58 b front rest lacks e) (span_pieces span b is))
  where
    by_rest : (ps : List (List ℕ)) → split 58 rest ≡ ps → SpanPieces span (front ∷ ps)
        → IsEnd span.from front × IsEnd span.to rest
    by_rest [] same pieces = absurd (some_piece 58 rest same)
    by_rest (y ∷ []) same pieces = (pieces.0, subst (IsEnd span.to) (only_piece 58 rest y same) pieces.1)
    by_rest (y ∷ z ∷ zs) same pieces = absurd pieces

same_span : (s t : Span) → s.from ≡ t.from → s.to ≡ t.to → s ≡ t
same_span s t p q = λ i. record { from = p i; to = q i }

-- no range where no end stands
pub none_from : (b front : List ℕ) (rest : Option (Bor (List ℕ))) → Lacks 58 front
    → MatchOption rest (b ≡ front) (λ r. b ≡ front ++ 58 ∷ r.now)
    → ((end : End) → IsEnd end front → ⊥) → (span : Span) → IsSpan span b → ⊥
none_from b front None lacks parts none span is = none span.from (single_from span b front lacks parts is)
none_from b front (Some r) lacks parts none span is = none span.from (wide_from span b front r.now lacks parts is).0

pub none_to : (b front rest : List ℕ) → Lacks 58 front → b ≡ front ++ 58 ∷ rest
    → ((end : End) → IsEnd end rest → ⊥) → (span : Span) → IsSpan span b → ⊥
none_to b front rest lacks parts none span is = none span.to (wide_from span b front rest lacks parts is).1

pub if_none : {A : Type 0} (r : Option A) (P : Type 0) → P → IfNone r P
if_none None P p = p
if_none (Some x) P p = tt

pieces_one : (s t : Span) (ps : List (List ℕ)) → SpanPieces s ps → SpanPieces t ps → s ≡ t
pieces_one s t [] p q = absurd p
pieces_one s t (x ∷ []) p q =
    let from : s.from ≡ t.from = end_is_one s.from t.from x p.1 q.1 in
    let to : s.to ≡ t.to = sym p.0 ∙ from ∙ q.0 in
    same_span s t from to
pieces_one s t (x ∷ y ∷ []) p q =
    let from : s.from ≡ t.from = end_is_one s.from t.from x p.0 q.0 in
    let to : s.to ≡ t.to = end_is_one s.to t.to y p.1 q.1 in
    same_span s t from to
pieces_one s t (x ∷ y ∷ z ∷ zs) p q = absurd p

-- a text is of one range
pub span_is_one : (s t : Span) (b : List ℕ) → IsSpan s b → IsSpan t b → s ≡ t
span_is_one s t b p q = pieces_one s t (split 58 b) (span_pieces s b p) (span_pieces t b q)

span_lacks : (span : Span) (b : List ℕ) → IsSpan span b → Lacks 44 b
span_lacks span b (inl w) = subst (Lacks 44) (sym (wide_text span b w)) (All-append (λ x. nat_eq x 44 ≡ false) w.from (58 ∷ w.to) (no_comma span.from w.from w.ends.0) (All-cons (λ x. nat_eq x 44 ≡ false) 58 w.to refl (no_comma span.to w.to w.ends.1)))
span_lacks span b (inr s) = no_comma span.from b s.1

-- ---- sets

-- the pieces between commas are those of the ranges
set_split : (set : List Span) (b : List ℕ) (is : IsSet set b) → split 44 b ≡ is.spans
set_split set b is = ap (split 44) is.text ∙ split_joined 44 is.spans (zip_some IsSpan set is.spans is.each is.some) (zip_all IsSpan (Lacks 44) span_lacks set is.spans is.each)

pub set_each : (set : List Span) (b : List ℕ) → IsSet set b → AllZip IsSpan set (split 44 b)
set_each set b is = subst (AllZip IsSpan set) (sym (set_split set b is)) is.each

-- a text is of one set
pub set_is_one : (s t : List Span) (b : List ℕ) → IsSet s b → IsSet t b → s ≡ t
set_is_one s t b p q = zip_one IsSpan span_is_one s t (split 44 b) (set_each s b p) (set_each t b q)

-- ---- as a loop does

-- these ranges were read, and this text is left
pub record IsReadTo (b : List ℕ) (set : List Span) (text : List ℕ) : Type 0 where
  pub pieces : List (List ℕ)
  pub each : AllZip IsSpan set pieces
  pub parts : split 44 b ≡ pieces ++ split 44 text

pub starts : (b : List ℕ) → IsReadTo b [] b
starts b = record { pieces = []; each = tt; parts = refl }

pub one_more : (b : List ℕ) (set : List Span) (text piece rest : List ℕ) (span : Span)
    → IsReadTo b set text → Lacks 44 piece → text ≡ piece ++ 44 ∷ rest → IsSpan span piece
    → IsReadTo b (set ++ span ∷ []) rest
one_more b set text piece rest span so_far lacks e is = record {
  pieces = so_far.pieces ++ piece ∷ [];
  each = zip_push IsSpan set so_far.pieces span piece so_far.each is;
  parts = so_far.parts ∙ ap (λ t. so_far.pieces ++ t) (first_piece 44 text piece rest lacks e) ∙ sym (append_assoc so_far.pieces (piece ∷ []) (split 44 rest));
}

pub last_one : (b : List ℕ) (set : List Span) (text piece : List ℕ) (span : Span)
    → IsReadTo b set text → Lacks 44 piece → text ≡ piece → IsSpan span piece
    → IsSet (set ++ span ∷ []) b
last_one b set text piece span so_far lacks e is =
    let parts : split 44 b ≡ so_far.pieces ++ piece ∷ [] = so_far.parts ∙ ap (λ t. so_far.pieces ++ t) (one_piece 44 text piece lacks e) in
    record {
      some = omega (arith, length_push set span);
      spans = so_far.pieces ++ piece ∷ [];
      each = zip_push IsSpan set so_far.pieces span piece so_far.each is;
      text = sym (joined_split 44 b) ∙ ap (joined (44 ∷ [])) parts;
    }

-- a piece that is no range
pub bad_piece : (b : List ℕ) (set : List Span) (text piece : List ℕ) (more : List (List ℕ))
    → IsReadTo b set text → split 44 text ≡ piece ∷ more → ((span : Span) → IsSpan span piece → ⊥)
    → (others : List Span) → IsSet others b → ⊥
bad_piece b set text piece more so_far e none others is =
    let found = zip_middle IsSpan others so_far.pieces piece more (subst (AllZip IsSpan others) (so_far.parts ∙ ap (λ t. so_far.pieces ++ t) e) (set_each others b is)) in
    none found.0 found.1

pub bad_cut : (b : List ℕ) (set : List Span) (text piece : List ℕ) (rest : Option (Bor (List ℕ)))
    → IsReadTo b set text → Lacks 44 piece
    → MatchOption rest (text ≡ piece) (λ r. text ≡ piece ++ 44 ∷ r.now)
    → ((span : Span) → IsSpan span piece → ⊥) → (others : List Span) → IsSet others b → ⊥
bad_cut b set text piece None so_far lacks parts none others is = bad_piece b set text piece [] so_far (one_piece 44 text piece lacks parts) none others is
bad_cut b set text piece (Some r) so_far lacks parts none others is = bad_piece b set text piece (split 44 r.now) so_far (first_piece 44 text piece r.now lacks parts) none others is
