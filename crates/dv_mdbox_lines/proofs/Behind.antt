-- A storage behind any calls.
use Rattle.std.proofs.Common.{◌≡◌, ℕ, ◌+◌, ◌<◌, ◌≤◌, List, [], ◌∷◌, ◌++◌, Option, Some, None, refl, sym, ◌∙◌, ap, subst, arith}
use Rattle.std.specs.Prelude.{count_by}
use Rattle.std.specs.Option.{option_and_then}
use Rattle.std.proofs.lemmas.Bool.{eq-eqb}
use Rattle.std.proofs.lemmas.List.Sums.{fold-append, sum_by-cons}
use Rattle.dv_maps.specs.Storages.{Item, Storage, saved}
use Rattle.dv_mdbox_lines.specs.declared.answers.Answer.{Answer}
use Rattle.dv_mdbox_lines.specs.declared.answers.Answer.TheVariants as answer
use Rattle.dv_mdbox_lines.specs.Scripts.{Call, Get, Save}
use Rattle.dv_mdbox_lines.specs.Playing.{AreBelow, MayAnswer, MayCome, MayGo, Tried, behind, behind_call, message_of, references}
use Rattle.dv_mdbox_lines.specs.Laws.{CountsAreTrue, IdsAreNew, IsGot, IsSaved, MessagesAreKept, dropped_one, made, new_storage}
use Rattle.dv_mdbox_lines.proofs.Items.{with_last}
use Rattle.dv_mdbox_lines.proofs.Counting.{Goes, goes, once}

-- one call
come : (s : Storage) (t : Tried) (id : ℕ) → (below : AreBelow s.next s.items) → MayCome s t → Goes s id below (behind_call s t) (made id t) (dropped_one id t)
come s t id below may = goes s id below t.call t.answer t.gone may.answer may.gone

-- ---- references

counted : (tried : List Tried) (s : Storage) (id : ℕ) → AreBelow s.next s.items → MayGo s tried
    → references (behind s tried) id + count_by (dropped_one id) tried ≡ references s id + count_by (made id) tried
counted [] s id below may = refl
counted (t ∷ tried) s id below may =
    let one = come s t id below may.0 in
    omega (arith, one.counts, counted tried (behind_call s t) id one.below may.1, sum_by-cons (λ x. once (dropped_one id x)) t tried, sum_by-cons (λ x. once (made id x)) t tried)

pub counts_are_true : CountsAreTrue
counts_are_true tried may id = omega (arith, counted tried new_storage id tt may)

-- ---- parts of calls

pub record Parts (s : Storage) (front back : List Tried) : Type 0 where
  pub first : MayGo s front
  pub rest : MayGo (behind s front) back

pub parts : (front back : List Tried) (s : Storage) → MayGo s (front ++ back) → Parts s front back
parts [] back s may = record { first = tt; rest = may }
parts (t ∷ front) back s may =
    let others = parts front back (behind_call s t) may.1 in
    record { first = (may.0, others.first); rest = others.rest }

pub below_behind : (tried : List Tried) (s : Storage) → AreBelow s.next s.items → MayGo s tried → AreBelow (behind s tried).next (behind s tried).items
below_behind [] s below may = below
below_behind (t ∷ tried) s below may = below_behind tried (behind_call s t) (come s t 0 below may.0).below may.1

next_behind : (tried : List Tried) (s : Storage) → AreBelow s.next s.items → MayGo s tried → s.next ≤ (behind s tried).next
next_behind [] s below may = omega arith
next_behind (t ∷ tried) s below may =
    let one = come s t 0 below may.0 in
    omega (arith, one.next, next_behind tried (behind_call s t) one.below may.1)

-- ---- messages

knows_behind : (tried : List Tried) (s : Storage) (id : ℕ) (message : List ℕ) → AreBelow s.next s.items → MayGo s tried → id < s.next
    → (1 ≤ references s id → message_of s id ≡ Some message) → 1 ≤ references (behind s tried) id → message_of (behind s tried) id ≡ Some message
knows_behind [] s id message below may old knows = knows
knows_behind (t ∷ tried) s id message below may old knows =
    let one = come s t id below may.0 in
    knows_behind tried (behind_call s t) id message one.below may.1 (omega (arith, old, one.next)) (one.keeps message old knows)

-- a save that was answered OK
pub record HasSaved (s : Storage) (t : Tried) (message : List ℕ) (id : ℕ) : Type 0 where
  pub next : id ≡ s.next
  pub after : behind_call s t ≡ saved message s

pub has_saved : (s : Storage) (t : Tried) (message : List ℕ) (id : ℕ) → MayCome s t → IsSaved message id t → HasSaved s t message id
has_saved s t message id may is =
    let here = subst (λ (told : Option Answer). MayAnswer s (Save message) t.gone told) is.1 (subst (λ (c : Call). MayAnswer s c t.gone t.answer) is.0 may.answer) in
    record { next = here.1; after = rw (is.0, is.1) refl }

saved_knows : (s : Storage) (message : List ℕ) → AreBelow s.next s.items → message_of (saved message s) s.next ≡ Some message
saved_knows s message below = ap (λ found. option_and_then (λ (item : Item). item.message) found) (with_last s.next s.items (record { id = s.next; count = 1; message = Some message }) below) ∙ rw (eq-eqb s.next s.next refl) refl

-- what may come of a get then
got : (s : Storage) (id : ℕ) (message : List ℕ) (gone : List ℕ) → 1 ≤ references s id → message_of s id ≡ Some message
    → (told : Option Answer) → MayAnswer s (Get id) gone told → IsGot message told
got s id message gone some known None may = tt
got s id message gone some known (Some (answer.Held bytes)) may = may.1 message known
got s id message gone some known (Some answer.Damaged) may = absurd (let no : Some message ≡ None = sym known ∙ may.1 in cc)
got s id message gone some known (Some answer.None) may = absurd (omega (arith, some, may))
got s id message gone some known (Some (answer.Disk faults)) may = tt
got s id message gone some known (Some (answer.Done n)) may = absurd may
got s id message gone some known (Some (answer.Purged n)) may = absurd may
got s id message gone some known (Some answer.Full) may = absurd may
got s id message gone some known (Some answer.Ids) may = absurd may
got s id message gone some known (Some answer.Files) may = absurd may
got s id message gone some known (Some (answer.TooLong bytes)) may = absurd may

pub messages_are_kept : MessagesAreKept
messages_are_kept front back save message id may is some gone told answers =
    let cut = parts front (save ∷ back) new_storage may in
    let s = behind new_storage front in
    let below = below_behind front new_storage tt cut.first in
    let done = has_saved s save message id cut.rest.0 is in
    let t = behind_call s save in
    let one = come s save id below cut.rest.0 in
    let old : id < t.next = omega (arith, done.next, ap (λ (k : Storage). k.next) done.after) in
    let here : message_of t id ≡ Some message =
    ap (λ (k : Storage). message_of k id) done.after ∙ ap (message_of (saved message s)) done.next ∙ saved_knows s message below in
    let last : behind new_storage (front ++ save ∷ back) ≡ behind t back = fold-append behind_call new_storage front (save ∷ back) in
    let count : 1 ≤ references (behind t back) id = subst (λ (k : Storage). 1 ≤ references k id) last some in
    let known = knows_behind back t id message one.below cut.rest.1 old (λ more. here) count in
    got (behind t back) id message gone count known told (subst (λ (k : Storage). MayAnswer k (Get id) gone told) last answers)

-- ---- ids

pub ids_are_new : IdsAreNew
ids_are_new front between back one other a b id next may is_one is_other =
    let first = parts front (one ∷ (between ++ other ∷ back)) new_storage may in
    let s = behind new_storage front in
    let below = below_behind front new_storage tt first.first in
    let saved_one = has_saved s one a id first.rest.0 is_one in
    let t = behind_call s one in
    let below_t = (come s one 0 below first.rest.0).below in
    let second = parts between (other ∷ back) t first.rest.1 in
    let saved_other = has_saved (behind t between) other b next second.rest.0 is_other in
    omega (arith, saved_one.next, ap (λ (k : Storage). k.next) saved_one.after, next_behind between t below_t second.first, saved_other.next)
