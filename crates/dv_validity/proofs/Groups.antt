-- The group of a command that was allowed: its records are in range, and they apply.
use Rattle.std.proofs.Common.{◌≡◌, ◌≢◌, ℕ, ◌+◌, ◌-◌, ◌%◌, ◌^◌, ◌<◌, Bool, true, false, cond, not, ◌&&◌, List, [], ◌∷◌, ◌++◌, get_or, length, nat_eq, Option, Some, None, refl, sym, ◌∙◌, ap, arith}
use Rattle.std.specs.Prelude.{All, IsSome, flat_map, map, option_map, option_and_then, nat_lt, codes}
use Rattle.std.specs.List.{enumerate_from}
use Rattle.std.proofs.lemmas.Bool.Decides.{nat_tests}
use Rattle.std.proofs.lemmas.List.Elements.{All-append, All-cons, All-head, All-map, All-nil, All-tail, All-weaker}
use Rattle.dv_model.specs.declared.types.Body.{Body}
use Rattle.dv_model.specs.declared.types.Body.TheVariants as body
use Rattle.dv_model.specs.declared.types.Command.{Command}
use Rattle.dv_model.specs.declared.types.Command.TheVariants as command
use Rattle.dv_model.specs.declared.types.How.{How}
use Rattle.dv_model.specs.declared.types.How.TheVariants as how
use Rattle.dv_model.specs.declared.types.Mailbox.{Mailbox}
use Rattle.dv_model.specs.declared.types.Mark.{Mark}
use Rattle.dv_model.specs.declared.types.NewRow.{NewRow}
use Rattle.dv_model.specs.declared.types.Pair.{Pair}
use Rattle.dv_model.specs.declared.types.Record.{Record}
use Rattle.dv_model.specs.declared.types.Reply.{Reply}
use Rattle.dv_model.specs.declared.types.Reply.TheVariants as reply
use Rattle.dv_model.specs.declared.types.Row.{Row}
use Rattle.dv_model.specs.Effects.{after_record, applied, effect, is_request, no_id, stamped, with_higher}
use Rattle.dv_model.specs.Mailboxes.{IsValid}
use Rattle.dv_model.specs.Names.{IsName}
use Rattle.dv_model.specs.Sessions.{State, IsCommand, group_of, refusal_of, is_append, is_log_full, end_of_uids, message_limit, group_limit, external, external_record, internal_record, keyword_adds, keyword_updates, keyword_resets, flag_updates, store_records, expunges, check_records, pieces, ranges_of, stored_uids, deleted_uids, removed_uids, offset_row, cache_number, next_number}
use Rattle.dv_model.specs.Spelling.{group_text}
use Rattle.dv_model.specs.Views.{View}
use Rattle.dv_model.specs.Appends.{append_record, appended}
use Rattle.dv_model.proofs.Appends.{append_is}
use Rattle.dv_validity.proofs.Numbers.{records_keep}
use Rattle.dv_validity.specs.Laws.{IsInRange}
use Rattle.dv_validity.specs.Entries.{AreInRange, HasUidLeft}

-- ---- no record of the group is an append

-- every record but an append has an effect
abbrev pub IsNoAppend : Record → Type 0
IsNoAppend r = by_body r.body
  where
    by_body : Body → Type 0
    by_body (body.Append rows) = ⊥
    by_body b = Unit {0}

-- in range, and no append
pub record IsPlain (r : Record) : Type 0 where
  pub range : IsInRange r.body
  pub plain : IsNoAppend r

abbrev ArePlain : List Record → Type 0
ArePlain rs = All IsPlain rs

each_plain : {X : Type 0} (f : X → Record) → ((x : X) → IsPlain (f x)) → (xs : List X) → ArePlain (map f xs)
each_plain f plain xs = All-map IsPlain f xs (λ k d h. plain (get_or xs k d))

flat_plain : {X : Type 0} (P : X → Type 0) (f : X → List Record) → ((x : X) → P x → ArePlain (f x)) → (xs : List X) → All P xs → ArePlain (flat_map f xs)
flat_plain P f plain [] all = All-nil IsPlain
flat_plain P f plain (x ∷ xs) all = All-append IsPlain (f x) (flat_map f xs) (plain x (All-head P x xs all)) (flat_plain P f plain xs (All-tail P x xs all))

keyword_plain : (h : How) (pairs : List Pair) (name : List ℕ) → IsName name → ArePlain (keyword_updates h pairs name)
keyword_plain h pairs name is = each_plain (λ ps. external_record (body.KeywordUpdate h name ps)) (λ ps. record { range = is; plain = tt }) (pieces pairs)

keywords_plain : (h : How) (pairs : List Pair) (names : List (List ℕ)) → All IsName names → ArePlain (flat_map (keyword_updates h pairs) names)
keywords_plain h pairs names are = flat_plain IsName (keyword_updates h pairs) (keyword_plain h pairs) names are

flags_plain : (add remove : ℕ) (pairs : List Pair) → ArePlain (flag_updates add remove pairs)
flags_plain add remove pairs = by_test (nat_eq (add + remove) 0)
  where
    updates : List Record
    updates = map (λ ps. external_record (body.FlagUpdate (map (λ pair. record { first = pair.first; last = pair.last; add = add; remove = remove }) ps))) (pieces pairs)

    by_test : (b : Bool) → ArePlain (cond b [] updates)
    by_test true = All-nil IsPlain
    by_test false = each_plain (λ ps. external_record (body.FlagUpdate (map (λ pair. record { first = pair.first; last = pair.last; add = add; remove = remove }) ps))) (λ ps. record { range = tt; plain = tt }) (pieces pairs)

resets_plain : (pairs : List Pair) → ArePlain (keyword_resets pairs)
resets_plain pairs = each_plain (λ ps. external_record (body.KeywordReset ps)) (λ ps. record { range = tt; plain = tt }) (pieces pairs)

store_plain : (h : How) (flags : ℕ) (names : List (List ℕ)) (pairs : List Pair) → All IsName names → ArePlain (store_records h flags names pairs)
store_plain how.Add flags names pairs are =
    All-append IsPlain (flag_updates flags 0 pairs) (flat_map (keyword_updates how.Add pairs) names) (flags_plain flags 0 pairs) (keywords_plain how.Add pairs names are)
store_plain how.Remove flags names pairs are =
    All-append IsPlain (flag_updates 0 flags pairs) (flat_map (keyword_updates how.Remove pairs) names) (flags_plain 0 flags pairs) (keywords_plain how.Remove pairs names are)
store_plain how.Replace flags names pairs are =
    All-append IsPlain (flag_updates flags (31 - flags % 32) pairs ++ keyword_resets pairs) (flat_map (keyword_updates how.Add pairs) names)
    (All-append IsPlain (flag_updates flags (31 - flags % 32) pairs) (keyword_resets pairs) (flags_plain flags (31 - flags % 32) pairs) (resets_plain pairs))
    (keywords_plain how.Add pairs names are)

expunges_plain : (guid : ℕ → List ℕ) (uids : List ℕ) → ArePlain (expunges guid uids)
expunges_plain guid uids = each_plain (λ rows. external_record (body.ExpungeGuid rows)) (λ rows. record { range = tt; plain = tt }) (pieces (map (λ uid. record { uid = uid; guid = guid uid }) uids))

check_plain : (m : Mailbox) → ArePlain (check_records m)
check_plain m = all_three (rows_of m) refl
  where
    rows_of : Mailbox → List (List (ℕ × Row))
    rows_of m = pieces (enumerate_from 0 m.rows)

    update : List (ℕ × Row) → Record
    update rows = internal_record (body.ExtRecordUpdate (flat_map offset_row rows))

    intro : Record
    intro = internal_record (body.ExtIntro (record { ext_id = no_id; reset_id = cache_number m; hdr_size = 0; record_size = 4; record_align = 4; flags = 0; name = codes "cache" } ∷ []))

    reset : Record
    reset = internal_record (body.ExtReset (next_number (cache_number m)) 0)

    all_three : (rows : List (List (ℕ × Row))) → rows ≡ rows_of m → ArePlain (intro ∷ reset ∷ map update rows)
    all_three rows is =
        All-cons IsPlain intro (reset ∷ map update rows) (record { range = tt; plain = tt })
        (All-cons IsPlain reset (map update rows) (record { range = tt; plain = tt }) (each_plain update (λ row. record { range = tt; plain = tt }) rows))

adds_plain : (uid : ℕ) (names : List (List ℕ)) → All IsName names → ArePlain (keyword_adds uid names)
adds_plain uid names are =
    All-map IsPlain (λ name. record { top = external; body = body.KeywordUpdate how.Add name (record { first = uid; last = uid } ∷ []) }) names
    (All-weaker IsName (λ name. IsPlain (record { top = external; body = body.KeywordUpdate how.Add name (record { first = uid; last = uid } ∷ []) })) (λ name is. record { range = is; plain = tt }) names are)

-- ---- a record that is no append has an effect

plain_applies : (m : Mailbox) (r : Record) → IsNoAppend r → IsSome (after_record m r)
plain_applies m r plain = by_test (is_request r)
  where
    mapped : (o : Option Mailbox) → IsSome o → IsSome (option_map (stamped m.rows) o)
    mapped None some = some
    mapped (Some n) some = some

    has_effect : (b : Body) → IsNoAppend (record { top = 0; body = b }) → IsSome (effect (with_higher m) b)
    has_effect (body.Append rows) plain = absurd plain
    has_effect b plain = refl

    by_test : (b : Bool) → IsSome (cond b (Some (with_higher m)) (option_map (stamped m.rows) (effect (with_higher m) r.body)))
    by_test true = refl
    by_test false = mapped (effect (with_higher m) r.body) (has_effect r.body plain)

first_applies : (rs : List Record) (o : Option Mailbox) → IsSome o → ((n : Mailbox) → IsSome (applied n rs)) → IsSome (option_and_then (λ n. applied n rs) o)
first_applies rs None some rest = absurd cc
first_applies rs (Some n) some rest = rest n

all_apply : (m : Mailbox) (rs : List Record) → ArePlain rs → IsSome (applied m rs)
all_apply m [] plain = refl
all_apply m (r ∷ rs) plain = first_applies rs (after_record m r) (plain_applies m r (All-head IsPlain r rs plain).plain) (λ n. all_apply n rs (All-tail IsPlain r rs plain))

-- ---- any command

-- its group is an append and more, or no append at all
group_plain : (c : Command) (v : View) (m : Mailbox) (guid : ℕ → List ℕ) → IsCommand c → is_append c ≡ false → ArePlain (group_of c v m guid).records
group_plain (command.Append flags keywords message) v m guid good other = absurd cc
group_plain (command.Store by_uid set h flags keywords since) v m guid good other = store_plain h flags keywords (ranges_of (stored_uids by_uid set since v m)) good.1
group_plain command.Expunge v m guid good other = expunges_plain guid (deleted_uids m)
group_plain (command.UidRemove set) v m guid good other = expunges_plain guid (removed_uids set v m)
group_plain command.Check v m guid good other = check_plain m
group_plain c v m guid good other = All-nil IsPlain

-- APPEND is refused where the UIDs are used up
uids_left : (x : State) (flags : ℕ) (keywords : List (List ℕ)) (message : List ℕ) (m : Mailbox) (rotates : Bool) (mark : Mark) (guid : ℕ → List ℕ)
    → refusal_of x (command.Append flags keywords message) m rotates mark guid ≡ None → m.next_uid ≢ end_of_uids
uids_left x flags keywords message m rotates mark guid allowed same =
    let found : nat_eq m.next_uid end_of_uids ≡ true = grind (arith, nat_tests) in by_selected (not x.selected && true) (nat_eq m.next_uid end_of_uids) found allowed
  where
    text : ℕ
    text = length (group_text (group_of (command.Append flags keywords message) x.view m guid))

    rest : Option Reply
    rest =
        cond (nat_lt message_limit (length message)) (Some (reply.TooLong (length message)))
        (cond (nat_lt group_limit text) (Some (reply.TooLong text)) (cond (is_log_full rotates mark text) (Some (reply.TooLong text)) None))

    by_selected : (a b : Bool) → b ≡ true → cond a (Some reply.NotSelected) (cond b (Some reply.UidsUsedUp) rest) ≡ None → ⊥
    by_selected true b is e = absurd cc
    by_selected false true is e = absurd cc
    by_selected false false is e = absurd cc

-- so an APPEND that is allowed finds one
pub uid_left : (x : State) (c : Command) (m : Mailbox) (rotates : Bool) (mark : Mark) (guid : ℕ → List ℕ) → IsValid m → refusal_of x c m rotates mark guid ≡ None → HasUidLeft c m
uid_left x (command.Append flags keywords message) m rotates mark guid valid allowed =
    λ append. let other = uids_left x flags keywords message m rotates mark guid allowed in let below = valid.next_uid.1 in omega (arith, other, below)
uid_left x c m rotates mark guid valid allowed = λ append. absurd cc

pub group_in_range : (x : State) (c : Command) (m : Mailbox) (rotates : Bool) (mark : Mark) (guid : ℕ → List ℕ) → IsValid m → IsCommand c → refusal_of x c m rotates mark guid ≡ None → AreInRange (group_of c x.view m guid)
group_in_range x (command.Append flags keywords message) m rotates mark guid valid good allowed =
    All-cons (λ r. IsInRange r.body) (append_record m flags) (keyword_adds m.next_uid keywords)
    (let other = uids_left x flags keywords message m rotates mark guid allowed in let below = valid.next_uid.1 in
    All-cons (λ (row : NewRow). row.uid < 2 ^ 32 - 1) (record { uid = m.next_uid; flags = flags }) [] (omega (arith, other, below)) (All-nil (λ (row : NewRow). row.uid < 2 ^ 32 - 1)))
    (All-weaker IsPlain (λ r. IsInRange r.body) (λ r is. is.range) (keyword_adds m.next_uid keywords) (adds_plain m.next_uid keywords good.1))
group_in_range x c m rotates mark guid valid good allowed = All-weaker IsPlain (λ r. IsInRange r.body) (λ r is. is.range) (group_of c x.view m guid).records (group_plain c x.view m guid good refl)

pub group_applies : (c : Command) (v : View) (m : Mailbox) (guid : ℕ → List ℕ) → IsCommand c → IsSome (applied m (group_of c v m guid).records)
group_applies (command.Append flags keywords message) v m guid good = rw (append_is m flags) (all_apply (appended m flags) (keyword_adds m.next_uid keywords) (adds_plain m.next_uid keywords good.1))
group_applies c v m guid good = all_apply m (group_of c v m guid).records (group_plain c v m guid good refl)

-- an append raises the UIDNEXT
pub append_raises : (flags : ℕ) (keywords : List (List ℕ)) (message : List ℕ) (v : View) (m n : Mailbox) (guid : ℕ → List ℕ)
    → applied m (group_of (command.Append flags keywords message) v m guid).records ≡ Some n → m.next_uid < n.next_uid
append_raises flags keywords message v m n guid e =
    let rest : applied (appended m flags) (keyword_adds m.next_uid keywords) ≡ Some n = sym (ap (option_and_then (λ k. applied k (keyword_adds m.next_uid keywords))) (append_is m flags)) ∙ e in
    let up = (records_keep (appended m flags) n (keyword_adds m.next_uid keywords) rest).next_uid in
    omega (arith, up)
