-- One call more behind others.
use Rattle.std.proofs.Common.{◌≡◌, ℕ, ◌+◌, Bool, true, false, not, List, [], ◌∷◌, ◌++◌, Option, Some, None, nat_eq, refl, sym, ◌∙◌, ap, subst, arith, append_assoc}
use Rattle.std.specs.Prelude.{All, ◌||◌, filter}
use Rattle.std.specs.List.{list_any}
use Rattle.std.proofs.lemmas.List.{append-nil}
use Rattle.std.proofs.lemmas.List.Concat.{flat_map-append}
use Rattle.std.proofs.lemmas.List.Elements.{All-append, All-cons, All-head, All-nil, All-tail}
use Rattle.std.proofs.lemmas.List.Folds.{list_any-append}
use Rattle.std.proofs.lemmas.List.Sums.{fold-append}
use Rattle.dv_maps.specs.Storages.{Item, Storage}
use Rattle.dv_playing.specs.Laws.{RiseFrom}
use Rattle.dv_playing.proofs.Failures.{rise_on}
use Rattle.dv_mdbox_lines.specs.declared.answers.Answer.{Answer}
use Rattle.dv_mdbox_lines.specs.declared.answers.Answer.TheVariants as answer
use Rattle.dv_mdbox_lines.specs.Playing.{MayCome, MayGo, Tried, after_call, behind, behind_call, count_in, done_id, references, without}
use Rattle.dv_mdbox_lines.specs.Scripts.{Call, Copy, Drop, Get, Purge, Save}
use Rattle.dv_mdbox_lines.proofs.Items.{kept_item, of_all}
use Rattle.dv_mdbox_serving.specs.Following.{HasGroups, HaveGroups, failure_of, failures_of}
use Rattle.dv_mdbox_serving.specs.Places.{IsLastCut, IsUndone, IsWithoutSome, LeavesAll}

-- ---- calls in turn

pub go_on : (front back : List Tried) (s : Storage) → MayGo s front → MayGo (behind s front) back → MayGo s (front ++ back)
go_on [] back s one two = two
go_on (t ∷ front) back s one two = (one.0, go_on front back (behind_call s t) one.1 two)

pub go_more : (calls : List Tried) (s : Storage) (t : Tried) → MayGo s calls → MayCome (behind s calls) t → MayGo s (calls ++ t ∷ [])
go_more calls s t may come = go_on calls (t ∷ []) s may (come, tt)

pub behind_on : (front back : List Tried) (s : Storage) → behind s (front ++ back) ≡ behind (behind s front) back
behind_on front back s = fold-append behind_call s front back

pub behind_more : (calls : List Tried) (s : Storage) (t : Tried) → behind s (calls ++ t ∷ []) ≡ behind_call (behind s calls) t
behind_more calls s t = behind_on calls (t ∷ []) s

-- ---- calls that change nothing

filter_all : (xs : List Item) → filter (λ (item : Item). not (list_any (nat_eq item.id) [])) xs ≡ xs
filter_all [] = refl
filter_all (x ∷ xs) = ap (λ ys. x ∷ ys) (filter_all xs)

without_none : (s : Storage) → without [] s ≡ s
without_none s = λ i. record { next = s.next; items = filter_all s.items i }

undone_id : (told : Option Answer) → IsUndone told → done_id told ≡ None
undone_id None is = refl
undone_id (Some (answer.Done id)) is = absurd is
undone_id (Some (answer.Purged n)) is = absurd is
undone_id (Some (answer.Held message)) is = refl
undone_id (Some answer.Damaged) is = refl
undone_id (Some answer.None) is = refl
undone_id (Some answer.Full) is = refl
undone_id (Some answer.Ids) is = refl
undone_id (Some answer.Files) is = refl
undone_id (Some (answer.TooLong bytes)) is = refl
undone_id (Some (answer.Disk faults)) is = refl

-- a call but a purge that isn't answered that it is done leaves the storage
pub undone_stays : (call : Call) (told : Option Answer) (gone : List ℕ) (s : Storage) → IsUndone told → gone ≡ [] → after_call call told gone s ≡ s
undone_stays Purge told gone s is none = ap (λ ids. without ids s) none ∙ without_none s
undone_stays (Save message) told gone s is none = rw (undone_id told is) refl
undone_stays (Copy id) told gone s is none = rw (undone_id told is) refl
undone_stays (Drop id) told gone s is none = rw (undone_id told is) refl
undone_stays (Get id) told gone s is none = rw (undone_id told is) refl

pub leaves_all : (t : Tried) (s : Storage) → LeavesAll t → behind_call s t ≡ s
leaves_all t s is = undone_stays t.call t.answer t.gone s is.0 is.1

pub all_leave : (calls : List Tried) (s : Storage) → All LeavesAll calls → behind s calls ≡ s
all_leave [] s all = refl
all_leave (t ∷ calls) s all =
    ap (λ (k : Storage). behind k calls) (leaves_all t s (All-head LeavesAll t calls all)) ∙ all_leave calls s (All-tail LeavesAll t calls all)

-- ---- the last call that was cut off

pub cut_more : (calls : List Tried) (cut t : Tried) → IsLastCut calls cut → LeavesAll t → IsLastCut (calls ++ t ∷ []) cut
cut_more calls cut t last leaves = record {
  front = last.front;
  back = last.back ++ t ∷ [];
  parts = ap (λ ts. ts ++ t ∷ []) last.parts ∙ append_assoc last.front (cut ∷ last.back) (t ∷ []);
  undone = last.undone;
  since = All-append LeavesAll last.back (t ∷ []) last.since (All-cons LeavesAll t [] leaves (All-nil LeavesAll));
}

pub cut_new : (calls : List Tried) (t : Tried) → IsUndone t.answer → IsLastCut (calls ++ t ∷ []) t
cut_new calls t undone = record { front = calls; back = []; parts = refl; undone = undone; since = All-nil LeavesAll }

-- the storage behind calls is that behind the one that was cut off
pub cut_behind : (calls : List Tried) (cut : Tried) (s : Storage) (last : IsLastCut calls cut) → behind s calls ≡ behind_call (behind s last.front) cut
cut_behind calls cut s last =
    ap (behind s) last.parts ∙ behind_on last.front (cut ∷ last.back) s ∙ all_leave last.back (behind_call (behind s last.front) cut) last.since

-- ---- ids that are gone

both_stay : (one two : List ℕ) (item : Item) → (not (list_any (nat_eq item.id) (one ++ two))) ≡ not (list_any (nat_eq item.id) one || list_any (nat_eq item.id) two)
both_stay one two item = ap not (list_any-append (nat_eq item.id) one two)

filter_both : (one two : List ℕ) (xs : List Item)
    → filter (λ (item : Item). not (list_any (nat_eq item.id) two)) (filter (λ (item : Item). not (list_any (nat_eq item.id) one)) xs) ≡ filter (λ (item : Item). not (list_any (nat_eq item.id) (one ++ two))) xs
filter_both one two [] = refl
filter_both one two (x ∷ xs) = by (list_any (nat_eq x.id) one) (list_any (nat_eq x.id) two) refl refl (filter_both one two xs)
  where
    Both : List Item → Type 0
    Both ys = filter (λ (item : Item). not (list_any (nat_eq item.id) two)) (filter (λ (item : Item). not (list_any (nat_eq item.id) one)) ys) ≡ filter (λ (item : Item). not (list_any (nat_eq item.id) (one ++ two))) ys

    by : (a b : Bool) → list_any (nat_eq x.id) one ≡ a → list_any (nat_eq x.id) two ≡ b → Both xs → Both (x ∷ xs)
    by true b first second rest = rw (first, both_stay one two x, first) rest
    by false true first second rest = rw (first, both_stay one two x, first, second) rest
    by false false first second rest = rw (first, both_stay one two x, first, second) (ap (λ ys. x ∷ ys) rest)

-- an id that has no reference behind others that have none had none
gone_before : (s : Storage) (one : List ℕ) → All (λ id. references s id ≡ 0) one → (id : ℕ) → references (without one s) id ≡ 0 → references s id ≡ 0
gone_before s one none id is = by (list_any (nat_eq id) one) refl
  where
    by : (b : Bool) → list_any (nat_eq id) one ≡ b → references s id ≡ 0
    by true found = of_all (λ k. references s k ≡ 0) id one none found
    by false found = sym (ap count_in (kept_item id one s.items found)) ∙ is

pub without_both : (s : Storage) (one : List ℕ) (left : Storage) → All (λ id. references s id ≡ 0) one → IsWithoutSome (without one s) left → IsWithoutSome s left
without_both s one left none (two, gone, is) = (
  one ++ two,
  All-append (λ id. references s id ≡ 0) one two none (λ k id less. gone_before s one none _ (gone k id less)),
  is ∙ (λ i. record { next = s.next; items = filter_both one two s.items i }),
)

-- ---- failures

pub failures_more : (calls : List Tried) (t : Tried) → failures_of (calls ++ t ∷ []) ≡ failures_of calls ++ failure_of t.answer
failures_more calls t = flat_map-append (λ (c : Tried). failure_of c.answer) calls (t ∷ []) ∙ ap (λ ns. failures_of calls ++ ns) (append-nil (failure_of t.answer))

pub rise_call : (base before now : ℕ) (calls : List Tried) (t : Tried) → RiseFrom base (failures_of calls) before → RiseFrom before (failure_of t.answer) now → RiseFrom base (failures_of (calls ++ t ∷ [])) now
rise_call base before now calls t first more =
    subst (λ ns. RiseFrom base ns now) (sym (failures_more calls t)) (rise_on base before now (failures_of calls) (failure_of t.answer) first more)

-- ---- groups

pub groups_more : (calls : List Tried) (t : Tried) (n k : ℕ) → HaveGroups calls n → HasGroups t.call t.answer k → HaveGroups (calls ++ t ∷ []) (n + k)
groups_more [] t n k none one = (k, 0, one, refl, omega (arith, none))
groups_more (c ∷ calls) t n k (first, rest, has, others, sum) one = (first, rest + k, has, groups_more calls t rest k others one, omega (arith, sum))
