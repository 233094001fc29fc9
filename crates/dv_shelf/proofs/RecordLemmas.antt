-- A record that grows keeps the calls that it had.
use Rattle.std.proofs.Common.{◌||◌, ◌≡◌, ℕ, ◌+◌, ◌<◌, ◌≤◌, Bool, List, get_or, [], ◌∷◌, ◌++◌, length, take, drop, map, Contains, length-drop, true, false, if◌then◌else◌, refl, sym, ◌∙◌, ap, subst, arith, ⊎_elim}
use Rattle.std.proofs.lemmas.List.{take-append-le, take-append-drop, drop-append-le, drop-map, map-append, drop_at, take_all}
use Rattle.std.proofs.lemmas.List.Elements.{Contains-append_right, Contains-append_left, Contains-push_cases, Contains-get_or}
use Rattle.std.specs.List.{list_any}
use Rattle.dv_shelf.specs.declared.shelf.Name.{Name}
use Rattle.dv_shelf.specs.declared.record.Call.{Call}
use Rattle.dv_shelf.specs.Images.{settles}
use Rattle.dv_shelf.specs.Disks.{Made, settles_file}
use Rattle.dv_shelf.specs.Records.{made_call}

-- a call's bytes stand where they stood
same_call : (bytes more : List ℕ) (call : Call) → call.from + call.len ≤ length bytes
    → made_call (bytes ++ more) call ≡ made_call bytes call
same_call bytes more call le =
    let long : call.len ≤ length (drop call.from bytes) = grind (arith, length-drop) in
    let same : take call.len (drop call.from (bytes ++ more)) ≡ take call.len (drop call.from bytes) =
    ap (take call.len) (drop-append-le call.from bytes more (omega arith))
    ∙ take-append-le call.len (drop call.from bytes) more long in
    let P : List ℕ → Made =
    λ b. record { name = call.name; deed = call.deed; outcome = call.outcome; bytes = b } in
    ap P same

pub same_calls : (bytes more : List ℕ) (calls : List Call)
    → ((call : Call) → Contains calls call → call.from + call.len ≤ length bytes)
    → map (made_call (bytes ++ more)) calls ≡ map (made_call bytes) calls
same_calls bytes more [] within = refl
same_calls bytes more (call ∷ calls) within =
    let one =
    same_call bytes more call
    (within call (Contains-append_left (call ∷ []) calls call (0, omega arith, refl))) in
    let others =
    same_calls bytes more calls
    (λ other has. within other (Contains-append_right (call ∷ []) calls other has)) in
    cc

-- a new call has the bytes behind the old ones
pub one_call_more : (bytes more : List ℕ) (calls : List Call) (call : Call)
    → ((call : Call) → Contains calls call → call.from + call.len ≤ length bytes)
    → call.from ≡ length bytes → call.len ≡ length more
    → map (made_call (bytes ++ more)) (calls ++ call ∷ [])
    ≡ map (made_call bytes) calls ++ record { name = call.name; deed = call.deed; outcome = call.outcome; bytes = more } ∷ []
one_call_more bytes more calls call within from len =
    let P : List ℕ → List Made =
    λ b. map (made_call bytes) calls ++ record { name = call.name; deed = call.deed; outcome = call.outcome; bytes = b } ∷ [] in
    let there : take call.len (drop call.from (bytes ++ more)) ≡ more =
    ap (take call.len) (drop_at bytes more call.from (sym from))
    ∙ take_all call.len more (omega arith) in
    map-append (made_call (bytes ++ more)) calls (call ∷ [])
    ∙ ap (λ (l : List Made). l ++ made_call (bytes ++ more) call ∷ [])
    (same_calls bytes more calls within)
    ∙ ap P there

-- the calls stay within the bytes, whether or not one was added
pub still_within : (calls now : List Call) (call : Call) (n m : ℕ) (added : Bool)
    → ((old : Call) → Contains calls old → old.from + old.len ≤ n) → n ≤ m
    → call.from + call.len ≤ m → now ≡ (if added then calls ++ call ∷ [] else calls)
    → (one : Call) → Contains now one → one.from + one.len ≤ m
still_within calls now call n m true within le here is one has =
    ⊎_elim (λ old. omega (arith, within one old))
    (λ same. let P : Call → Type 0 = λ x. x.from + x.len ≤ m in subst P same here)
    (Contains-push_cases calls call one (subst (λ (l : List Call). Contains l one) is has))
still_within calls now call n m false within le here is one has =
    omega (arith, within one (subst (λ (l : List Call). Contains l one) is has))

-- each call that a loop over some of the first ones sees is within the bytes
pub seen_within : (calls seen : List Call) (n i : ℕ)
    → ((call : Call) → Contains calls call → call.from + call.len ≤ n) → (count : ℕ)
    → seen ≡ take count calls → (d : Call) → i < length seen
    → (get_or seen i d).from + (get_or seen i d).len ≤ n
seen_within calls seen n i within count is d lt =
    let one = get_or seen i d in
    let first : Contains (take count calls) one =
    subst (λ (l : List Call). Contains l one) is (Contains-get_or seen i d lt) in
    within one
    (subst (λ (l : List Call). Contains l one) (take-append-drop count calls) (Contains-append_left (take count calls) (drop count calls) one first))

any_settles-map : (bytes : List ℕ) (calls : List Call) (name : Name)
    → list_any (settles name) (map (made_call bytes) calls)
    ≡ list_any (λ c. settles_file name c.name c.deed c.outcome) calls
any_settles-map bytes [] name = refl
any_settles-map bytes (call ∷ calls) name =
    ap (λ (b : Bool). settles_file name call.name call.deed call.outcome || b)
    (any_settles-map bytes calls name)

-- the calls of a record and their bytes settle the same files
pub later_settles : (bytes : List ℕ) (calls : List Call) (from : ℕ) (name : Name)
    → list_any (settles name) (drop from (map (made_call bytes) calls))
    ≡ list_any (λ c. settles_file name c.name c.deed c.outcome) (drop from calls)
later_settles bytes calls from name =
    ap (list_any (settles name)) (drop-map (made_call bytes) from calls)
    ∙ any_settles-map bytes (drop from calls) name
