-- A client without names hears what any client hears.
use Rattle.std.proofs.Common.{◌≡◌, ℕ, zero, suc, ◌-◌, List, [], ◌∷◌, ◌++◌, length, map, take, drop, refl, sym, ◌∙◌, ap}
use Rattle.std.specs.Prelude.{All, fold, replicate, slice_set}
use Rattle.std.proofs.lemmas.List.{drop-map, length-map, map-append, map-set, take-map}
use Rattle.std.proofs.lemmas.List.Elements.{All-append, All-drop, All-replicate, All-set, All-take}
use Rattle.dv_model.specs.declared.types.Mailbox.{Mailbox}
use Rattle.dv_model.specs.declared.types.Reply.{Reply}
use Rattle.dv_model.specs.declared.types.Reply.TheVariants as reply
use Rattle.dv_model.specs.declared.types.Shown.{Shown}
use Rattle.dv_model.specs.declared.types.Value.{Value}
use Rattle.dv_model.specs.declared.types.Value.TheVariants as value
use Rattle.dv_model.specs.Views.{Known, heard, known_of, known_row, moved, said, unknown, with_number, with_values}
use Rattle.dv_model.proofs.Clients.{client_has_view}
use Rattle.dv_view.specs.Laws.{BareClientHasView}
use Rattle.dv_view.specs.Clients.{bare_row, flags_of, heard_bare, heard_rows, known_bare, nameless, with_flags, with_row}

map_replicate : {X Y : Type 0} (f : X → Y) (n : ℕ) (x : X) → map f (replicate n x) ≡ replicate n (f x)
map_replicate f zero x = refl
map_replicate f (suc n) x = ap (λ ys. f x ∷ ys) (map_replicate f n x)

-- ---- what is heard of rows without names

pub nameless_bare : (rows : List Shown) → map nameless (map known_bare rows) ≡ map known_bare rows
nameless_bare [] = refl
nameless_bare (s ∷ rows) = ap (λ ks. known_bare s ∷ ks) (nameless_bare rows)

cut : (rows : List Shown) (m n : ℕ) → take m (map known_bare rows) ++ drop n (map known_bare rows) ≡ map known_bare (take m rows ++ drop n rows)
cut rows m n =
    ap (λ ks. ks ++ drop n (map known_bare rows)) (take-map known_bare m rows) ∙ ap (λ ks. map known_bare (take m rows) ++ ks) (drop-map known_bare n rows)
    ∙ sym (map-append known_bare (take m rows) (drop n rows))

filled : (rows : List Shown) (n : ℕ)
    → take n (map known_bare rows) ++ replicate (n - length (map known_bare rows)) unknown ≡ map known_bare (take n rows ++ replicate (n - length rows) (bare_row 0 0))
filled rows n =
    ap (λ ks. ks ++ replicate (n - length (map known_bare rows)) unknown) (take-map known_bare n rows)
    ∙ ap (λ k. map known_bare (take n rows) ++ replicate (n - k) unknown) (length-map rows known_bare)
    ∙ ap (λ ks. map known_bare (take n rows) ++ ks) (sym (map_replicate known_bare (n - length rows) (bare_row 0 0)))
    ∙ sym (map-append known_bare (take n rows) (replicate (n - length rows) (bare_row 0 0)))

with_one : (rows : List Shown) (k uid flags : ℕ) (names : List (List ℕ))
    → map nameless (with_number (map known_bare rows) k (record { uid = uid; flags = flags; keywords = names })) ≡ map known_bare (with_row rows k (bare_row uid flags))
with_one rows zero uid flags names = nameless_bare rows
with_one rows (suc k) uid flags names =
    map-set nameless (map known_bare rows) k (record { uid = uid; flags = flags; keywords = names })
    ∙ ap (λ ks. slice_set ks k (known_bare (bare_row uid flags))) (nameless_bare rows)
    ∙ sym (map-set known_bare rows k (bare_row uid flags))

fetched : (rows : List Shown) (k uid : ℕ) (values : List Value) → map nameless (with_values (map known_bare rows) k uid values) ≡ map known_bare (with_flags rows k uid (flags_of values))
fetched rows k uid [] = nameless_bare rows
fetched rows k uid (value.Flags flags names ∷ values) = with_one rows k uid flags names
fetched rows k uid (value.Size n ∷ values) = fetched rows k uid values
fetched rows k uid (value.Body bytes ∷ values) = fetched rows k uid values
fetched rows k uid (value.Field name text ∷ values) = fetched rows k uid values
fetched rows k uid (value.Modseq n ∷ values) = fetched rows k uid values

pub heard_is : (rows : List Shown) (r : Reply) → map known_bare (heard_rows rows r) ≡ heard_bare (map known_bare rows) r
heard_is rows (reply.Expunge k) = sym (ap (map nameless) (cut rows (k - 1) k) ∙ nameless_bare (take (k - 1) rows ++ drop k rows))
heard_is rows (reply.Exists n) = sym (ap (map nameless) (filled rows n) ∙ nameless_bare (take n rows ++ replicate (n - length rows) (bare_row 0 0)))
heard_is rows (reply.Fetch k uid values) = sym (fetched rows k uid values)
heard_is rows (reply.Search ns) = sym (nameless_bare rows)
heard_is rows (reply.Validity n) = sym (nameless_bare rows)
heard_is rows (reply.NextUid n) = sym (nameless_bare rows)
heard_is rows (reply.Done word mark appended modified) = sym (nameless_bare rows)
heard_is rows (reply.Gone uid mark modified) = sym (nameless_bare rows)
heard_is rows (reply.Damaged uid mark) = sym (nameless_bare rows)
heard_is rows (reply.Unavailable n) = sym (nameless_bare rows)
heard_is rows reply.UidsUsedUp = sym (nameless_bare rows)
heard_is rows (reply.TooLong n) = sym (nameless_bare rows)
heard_is rows reply.NotSelected = sym (nameless_bare rows)
heard_is rows (reply.NoMessage n) = sym (nameless_bare rows)

-- ---- lists of keywords stay empty

abbrev Bare : Shown → Type 0
Bare s = s.keywords ≡ []

bare_with : (rows : List Shown) (k uid flags : ℕ) → All Bare rows → All Bare (with_row rows k (bare_row uid flags))
bare_with rows zero uid flags all = all
bare_with rows (suc k) uid flags all = All-set Bare rows k (bare_row uid flags) refl all

bare_flags : (rows : List Shown) (k uid : ℕ) (values : List Value) → All Bare rows → All Bare (with_flags rows k uid (flags_of values))
bare_flags rows k uid [] all = all
bare_flags rows k uid (value.Flags flags names ∷ values) all = bare_with rows k uid flags all
bare_flags rows k uid (value.Size n ∷ values) all = bare_flags rows k uid values all
bare_flags rows k uid (value.Body bytes ∷ values) all = bare_flags rows k uid values all
bare_flags rows k uid (value.Field name text ∷ values) all = bare_flags rows k uid values all
bare_flags rows k uid (value.Modseq n ∷ values) all = bare_flags rows k uid values all

pub stays_bare : (rows : List Shown) (r : Reply) → All Bare rows → All Bare (heard_rows rows r)
stays_bare rows (reply.Expunge k) all = All-append Bare (take (k - 1) rows) (drop k rows) (All-take Bare (k - 1) rows all) (All-drop Bare k rows all)
stays_bare rows (reply.Exists n) all =
    All-append Bare (take n rows) (replicate (n - length rows) (bare_row 0 0)) (All-take Bare n rows all) (All-replicate Bare (n - length rows) (bare_row 0 0) refl)
stays_bare rows (reply.Fetch k uid values) all = bare_flags rows k uid values all
stays_bare rows (reply.Search ns) all = all
stays_bare rows (reply.Validity n) all = all
stays_bare rows (reply.NextUid n) all = all
stays_bare rows (reply.Done word mark appended modified) all = all
stays_bare rows (reply.Gone uid mark modified) all = all
stays_bare rows (reply.Damaged uid mark) all = all
stays_bare rows (reply.Unavailable n) all = all
stays_bare rows reply.UidsUsedUp all = all
stays_bare rows (reply.TooLong n) all = all
stays_bare rows reply.NotSelected all = all
stays_bare rows (reply.NoMessage n) all = all

-- ---- it has the view

pub nameless_twice : (ks : List Known) → map nameless (map nameless ks) ≡ map nameless ks
nameless_twice [] = refl
nameless_twice (k ∷ ks) = ap (λ rest. nameless k ∷ rest) (nameless_twice ks)

nameless_cut : (rows : List Known) (m n : ℕ) → map nameless (take m (map nameless rows) ++ drop n (map nameless rows)) ≡ map nameless (take m rows ++ drop n rows)
nameless_cut rows m n =
    ap (λ ks. map nameless (ks ++ drop n (map nameless rows))) (take-map nameless m rows) ∙ ap (λ ks. map nameless (map nameless (take m rows) ++ ks)) (drop-map nameless n rows)
    ∙ ap (map nameless) (sym (map-append nameless (take m rows) (drop n rows))) ∙ nameless_twice (take m rows ++ drop n rows)

nameless_filled : (rows : List Known) (n : ℕ)
    → map nameless (take n (map nameless rows) ++ replicate (n - length (map nameless rows)) unknown) ≡ map nameless (take n rows ++ replicate (n - length rows) unknown)
nameless_filled rows n =
    ap (λ ks. map nameless (ks ++ replicate (n - length (map nameless rows)) unknown)) (take-map nameless n rows)
    ∙ ap (λ k. map nameless (map nameless (take n rows) ++ replicate (n - k) unknown)) (length-map rows nameless)
    ∙ map-append nameless (map nameless (take n rows)) (replicate (n - length rows) unknown)
    ∙ ap (λ ks. ks ++ map nameless (replicate (n - length rows) unknown)) (nameless_twice (take n rows))
    ∙ sym (map-append nameless (take n rows) (replicate (n - length rows) unknown))

nameless_one : (rows : List Known) (k : ℕ) (row : Known) → map nameless (with_number (map nameless rows) k row) ≡ map nameless (with_number rows k row)
nameless_one rows zero row = nameless_twice rows
nameless_one rows (suc k) row =
    map-set nameless (map nameless rows) k row ∙ ap (λ ks. slice_set ks k (nameless row)) (nameless_twice rows) ∙ sym (map-set nameless rows k row)

nameless_values : (rows : List Known) (k uid : ℕ) (values : List Value) → map nameless (with_values (map nameless rows) k uid values) ≡ map nameless (with_values rows k uid values)
nameless_values rows k uid [] = nameless_twice rows
nameless_values rows k uid (value.Flags flags names ∷ values) = nameless_one rows k (record { uid = uid; flags = flags; keywords = names })
nameless_values rows k uid (value.Size n ∷ values) = nameless_values rows k uid values
nameless_values rows k uid (value.Body bytes ∷ values) = nameless_values rows k uid values
nameless_values rows k uid (value.Field name text ∷ values) = nameless_values rows k uid values
nameless_values rows k uid (value.Modseq n ∷ values) = nameless_values rows k uid values

-- names that are forgotten before a reply are forgotten behind it
forgets : (rows : List Known) (r : Reply) → heard_bare (map nameless rows) r ≡ map nameless (heard rows r)
forgets rows (reply.Expunge k) = nameless_cut rows (k - 1) k
forgets rows (reply.Exists n) = nameless_filled rows n
forgets rows (reply.Fetch k uid values) = nameless_values rows k uid values
forgets rows (reply.Search ns) = nameless_twice rows
forgets rows (reply.Validity n) = nameless_twice rows
forgets rows (reply.NextUid n) = nameless_twice rows
forgets rows (reply.Done word mark appended modified) = nameless_twice rows
forgets rows (reply.Gone uid mark modified) = nameless_twice rows
forgets rows (reply.Damaged uid mark) = nameless_twice rows
forgets rows (reply.Unavailable n) = nameless_twice rows
forgets rows reply.UidsUsedUp = nameless_twice rows
forgets rows (reply.TooLong n) = nameless_twice rows
forgets rows reply.NotSelected = nameless_twice rows
forgets rows (reply.NoMessage n) = nameless_twice rows

all_forgotten : (rows : List Known) (replies : List Reply) → fold heard_bare (map nameless rows) replies ≡ map nameless (fold heard rows replies)
all_forgotten rows [] = refl
all_forgotten rows (r ∷ replies) = ap (λ ks. fold heard_bare ks replies) (forgets rows r) ∙ all_forgotten (heard rows r) replies

bare_of : (m : Mailbox) (rows : List Shown) → map nameless (map (known_row m) rows) ≡ map known_bare rows
bare_of m [] = refl
bare_of m (s ∷ rows) = ap (λ ks. known_bare s ∷ ks) (bare_of m rows)

pub bare_client_has_view : BareClientHasView
bare_client_has_view step before m view read follows =
    ap (λ ks. fold heard_bare ks (said m view (moved step view m))) (sym (bare_of before view.rows))
    ∙ all_forgotten (known_of before view) (said m view (moved step view m))
    ∙ ap (map nameless) (client_has_view step before m view read follows)
    ∙ bare_of m (moved step view m).rows
