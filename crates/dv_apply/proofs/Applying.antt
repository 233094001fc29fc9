-- Records in turn, as they are applied.
use Rattle.std.proofs.Common.{◌≡◌, ℕ, ◌+◌, ◌^◌, ◌<◌, ◌≤◌, List, [], ◌∷◌, length, get_or, Option, Some, None, sym, ◌∙◌, ap, arith}
use Rattle.std.specs.Prelude.{All, IfSome, fold, option_and_then, take}
use Rattle.std.proofs.lemmas.List.{append-nil, take_more}
use Rattle.std.proofs.lemmas.List.Elements.{All-cons, All-nil}
use Rattle.dv_model.proofs.Transcripts.{applied_append}
use Rattle.dv_model.specs.declared.types.Body.{Body}
use Rattle.dv_model.specs.declared.types.Body.TheVariants.{Append, HeaderUpdate, KeywordUpdate, Expunge, ExpungeGuid, FlagUpdate, KeywordReset, ExtIntro, ExtReset, ExtHeaderUpdate, ExtRecordUpdate, Carried}
use Rattle.dv_model.specs.declared.types.Mailbox.{Mailbox}
use Rattle.dv_model.specs.declared.types.Part.{Part}
use Rattle.dv_model.specs.declared.types.Record.{Record}
use Rattle.dv_model.specs.Effects.{after_record, applied, header_number, is_request, stamped, with_header_part, with_higher, with_next_uid, with_validity}
use Rattle.dv_validity.proofs.Headers.{IsPartInRange, header_parts_go_on}
use Rattle.dv_validity.proofs.Records.{after_by, by_some, effect_goes_on}
use Rattle.dv_validity.specs.Laws.{GrowsTo, IsInRange}
use Rattle.dv_apply.specs.Bodies.{IsSound}

-- one record more
pub applied_next : (m n k : Mailbox) (rs : List Record) (i : ℕ) (r : Record) → i < length rs → applied m (take i rs) ≡ Some n → after_record n (get_or rs i r) ≡ Some k → applied m (take (i + 1) rs) ≡ Some k
applied_next m n k rs i r less before e =
    let last : Record = get_or rs i r in
    ap (applied m) (take_more rs i r less) ∙ applied_append (take i rs) (last ∷ []) m ∙ ap (option_and_then (λ (x : Mailbox). applied x (last ∷ []))) before
    ∙ ap (option_and_then (λ (x : Mailbox). applied x [])) e

pub grows : (m n : Mailbox) (r : Record) → after_record m r ≡ Some n → GrowsTo m.keywords n.keywords
grows m n r e = after_by (λ k. GrowsTo m.keywords k.keywords) m n r (grown_none m.keywords) (λ k done. (effect_goes_on (with_higher m) k r.body done).table) (is_request r) e
  where
    grown_none : (names : List (List ℕ)) → GrowsTo names names
    grown_none names = ([], sym (append-nil names))

-- ---- a header update that leaves a UIDNEXT of 32 bits

at_least : (m : Mailbox) (o : Option ℕ) (bound : ℕ) → (with_next_uid m o).next_uid < bound → IfSome o (λ n. n < bound)
at_least m None bound low = tt
at_least m (Some n) bound low = omega arith

part_below : (m : Mailbox) (part : Part) (bound : ℕ) → (with_header_part m part).next_uid < bound → IfSome (header_number part 28) (λ n. n < bound)
part_below m part bound low = at_least (with_validity m (header_number part 24)) (header_number part 28) bound low

header_range : (m : Mailbox) (parts : List Part) → (fold with_header_part m parts).next_uid < 2 ^ 32 → All IsPartInRange parts
header_range m [] low = All-nil IsPartInRange
header_range m (part ∷ parts) low =
    let n : Mailbox = with_header_part m part in
    let rises : n.next_uid ≤ (fold with_header_part n parts).next_uid = (header_parts_go_on n parts).next_uid in
    All-cons IsPartInRange part parts (part_below m part (2 ^ 32) (omega arith)) (header_range n parts low)

range_at : (m n : Mailbox) (top : ℕ) (body : Body) → IsSound body → after_record m (record { top = top; body = body }) ≡ Some n → n.next_uid < 2 ^ 32 → IsInRange body
range_at m n top (Append rows) sound e low = sound
range_at m n top (KeywordUpdate how name pairs) sound e low = sound
range_at m n top (HeaderUpdate parts) sound e low =
    let k : Mailbox = fold with_header_part (with_higher m) parts in
    by_some (λ x. x.next_uid < 2 ^ 32 → IsInRange (HeaderUpdate parts)) (stamped m.rows k) n (λ below. header_range (with_higher m) parts below) e low
range_at m n top (Expunge pairs) sound e low = tt
range_at m n top (ExpungeGuid rows) sound e low = tt
range_at m n top (FlagUpdate changes) sound e low = tt
range_at m n top (KeywordReset pairs) sound e low = tt
range_at m n top (ExtIntro intros) sound e low = tt
range_at m n top (ExtReset reset_id preserve) sound e low = tt
range_at m n top (ExtHeaderUpdate parts) sound e low = tt
range_at m n top (ExtRecordUpdate bytes) sound e low = tt
range_at m n top (Carried code bytes) sound e low = tt

pub range_of : (m n : Mailbox) (r : Record) → IsSound r.body → after_record m r ≡ Some n → n.next_uid < 2 ^ 32 → IsInRange r.body
range_of m n r sound e low = range_at m n r.top r.body sound e low
