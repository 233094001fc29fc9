-- What the records of CHECK leave in the rows' parts.
use Rattle.std.proofs.Common.{◌≡◌, ◌≢◌, ⊎_elim, ℕ, zero, suc, ◌+◌, ◌-◌, ◌*◌, ◌/◌, ◌%◌, ◌^◌, ◌<◌, ◌≤◌, Bool, true, false, cond, eq-eqb, List, [], ◌∷◌, ◌++◌, append_assoc, length, length-append, length-drop, get_or, nat_eq, Option, Some, None, refl, sym, ◌∙◌, ap, subst, arith}
use Rattle.std.specs.Prelude.{All, Contains, drop, flat_map, fold, map, replicate, slice_get, take}
use Rattle.std.specs.Int.{w32, from_le_bytes}
use Rattle.std.specs.List.{enumerate_from, list_any, position_or_len}
use Rattle.std.proofs.lemmas.Bool.{eqb-true, ne_eqb}
use Rattle.std.proofs.lemmas.List.{append-nil, get_or-map, length-map, length-replicate, map-append, take-append-drop}
use Rattle.std.proofs.lemmas.List.Elements.{All-drop, All-head, All-map, All-tail, All-take, All-weaker, Contains-get_or, Contains-push_cases}
use Rattle.std.proofs.lemmas.List.FromFn.{get_or-enumerate_from, length-enumerate_from}
use Rattle.std.proofs.lemmas.List.Kept.{AllPairs-from_increasing}
use Rattle.std.proofs.lemmas.List.Quantifiers.{position-Some}
use Rattle.std.proofs.lemmas.List.Sums.{position_or_len_is}
use Rattle.std.proofs.lemmas.Nat.{from_le_bytes-to_le_bytes_4}
use Rattle.std.proofs.lemmas.Option.{get_or_from_slice_get, option_and_then_some, slice_get-get_or, slice_get_within}
use Rattle.dv_model.specs.declared.types.Body.TheVariants as body
use Rattle.dv_model.specs.declared.types.Current.{Current}
use Rattle.dv_model.specs.declared.types.Extension.{Extension}
use Rattle.dv_model.specs.declared.types.Intro.{Intro}
use Rattle.dv_model.specs.declared.types.Mailbox.{Mailbox}
use Rattle.dv_model.specs.declared.types.Record.{Record}
use Rattle.dv_model.specs.declared.types.Row.{Row}
use Rattle.dv_model.specs.Effects.{added_extension, after_record, applied, fit, grown_extension, grown_to, if_fit, introduced, is_as_before, new_extension, on_current, stamped, stamped_row, update_rows, with_higher, with_intro, with_item, with_parts, with_reset, with_row_parts, with_update, with_updates, without_current, zeroed}
use Rattle.dv_model.specs.Mailboxes.{IsRowOf, IsValid}
use Rattle.dv_model.specs.Sessions.{cache_number, check_records, first_pieces, internal_record, next_number, offset_row, piece_size}
use Rattle.dv_openings.specs.TrueCaches.{look_of}
use Rattle.dv_validity.proofs.Items.{none_passes}
use Rattle.dv_validity.proofs.Records.{by_some}
use Rattle.dv_validity.proofs.Stamps.{higher_valid}
use Rattle.dv_cached.specs.Places.{HasRoom, cache_intro}
use Rattle.dv_cached.proofs.Checks.{check_uids}
use Rattle.dv_cached.proofs.Tables.{IsAt, PartHas, at_end, at_from, at_item, is_cache, look_is, number_is, part_any, part_end, part_item, part_weaker}

-- ---- a mailbox whose extension is current

-- the part has an offset, and it is that of the row's UID where this is among those that are done
abbrev Holds : (ℕ → ℕ) → List ℕ → ℕ → List ℕ → Type 0
Holds F done uid part = (4 ≤ length part) × (Contains done uid → from_le_bytes w32 (take 4 part) ≡ F uid)

record IsReady (F : ℕ → ℕ) (done : List ℕ) (n : Mailbox) (seq : ℕ) : Type 0 where
  place : ℕ
  current : n.current ≡ Some (record { extension = place; size = 4 })
  at : IsAt n.extensions place seq
  rows : All (λ row. PartHas (Holds F done row.uid) place row.parts) n.rows

ready_mapped : (F : ℕ → ℕ) (done : List ℕ) (n k : Mailbox) (seq : ℕ) (f : Row → Row) → ((row : Row) → (f row).uid ≡ row.uid) → ((row : Row) → (f row).parts ≡ row.parts) → k.current ≡ n.current → k.extensions ≡ n.extensions → k.rows ≡ map f n.rows → IsReady F done n seq → IsReady F done k seq
ready_mapped F done n k seq f uid parts current extensions rows is =
    let P : Row → Type 0 = λ row. PartHas (Holds F done row.uid) is.place row.parts in
    record {
      place = is.place;
      current = current ∙ is.current;
      at = subst (λ (es : List Extension). IsAt es is.place seq) (sym extensions) is.at;
      rows = subst (All P) (sym rows)
          (All-map P f n.rows (All-weaker P (λ row. P (f row)) (λ row has. subst (λ (u : ℕ). PartHas (Holds F done u) is.place (f row).parts) (sym (uid row)) (subst (PartHas (Holds F done row.uid) is.place) (sym (parts row)) has)) n.rows is.rows));
    }

stamped_uid : (b : Bool) (n : ℕ) (row : Row) → (cond b row (record row { modseq = n })).uid ≡ row.uid
stamped_uid true n row = refl
stamped_uid false n row = refl

stamped_parts : (b : Bool) (n : ℕ) (row : Row) → (cond b row (record row { modseq = n })).parts ≡ row.parts
stamped_parts true n row = refl
stamped_parts false n row = refl

ready_stamped : (F : ℕ → ℕ) (done : List ℕ) (n : Mailbox) (before : List Row) (seq : ℕ) → IsReady F done n seq → IsReady F done (stamped before n) seq
ready_stamped F done n before seq is =
    ready_mapped F done n (stamped before n) seq (stamped_row before n.highest) (λ row. stamped_uid (list_any (is_as_before row) before) n.highest row) (λ row. stamped_parts (list_any (is_as_before row) before) n.highest row) refl refl refl is

ready_higher : (F : ℕ → ℕ) (done : List ℕ) (n : Mailbox) (seq : ℕ) → IsReady F done n seq → IsReady F done (with_higher n) seq
ready_higher F done n seq is = record { place = is.place; current = is.current; at = is.at; rows = is.rows }

none_done : (F : ℕ → ℕ) (uid : ℕ) (part : List ℕ) → Contains [] uid → from_le_bytes w32 (take 4 part) ≡ F uid
none_done F uid part (k, less, at) = absurd (omega (arith, less))

-- ---- the introduction

-- it is done with no UID
wide : (F : ℕ → ℕ) (uid : ℕ) (part : List ℕ) → 4 ≤ length part → Holds F [] uid part
wide F uid part long = (long, none_done F uid part)

module _ (F : ℕ → ℕ) (m : Mailbox) (valid : IsValid m) (room : HasRoom m) where
  abbrev intro : Intro
  intro = cache_intro m

  abbrev seq : ℕ
  seq = cache_number m

  fit_ready : (changed : Mailbox) → IsReady F [] changed seq → (b : Bool) → b ≡ true → IsReady F [] (cond b changed (without_current m)) seq
  fit_ready changed is true e = is
  fit_ready changed is false e = absurd cc

  parts_count : (row : Row) → IsRowOf m row → length row.parts ≡ length m.extensions
  parts_count row is = sym (length-map row.parts length) ∙ ap length is.parts ∙ length-map m.extensions (λ (e : Extension). e.record_size)

  -- a new extension
  added_ready : introduced m.extensions intro ≡ None → fit (m.extensions ++ new_extension intro ∷ []) ≡ true → IsReady F [] (added_extension m intro) seq
  added_ready place fits =
      let new : Extension = new_extension intro in
      let k : ℕ = length m.extensions in
      let change : List (List ℕ) → List (List ℕ) = λ parts. parts ++ replicate 4 0 ∷ [] in
      let P : Row → Type 0 = λ row. PartHas (Holds F [] row.uid) k row.parts in
      let none : All (λ x. is_cache x ≡ false) m.extensions = none_passes is_cache m.extensions place in
      let each : All (λ row. P (with_row_parts change row)) m.rows =
      All-weaker (IsRowOf m) (λ row. P (with_row_parts change row))
      (λ row is. subst (λ (n : ℕ). PartHas (Holds F [] row.uid) n (change row.parts)) (parts_count row is) (part_end (Holds F [] row.uid) (replicate 4 0) (wide F row.uid (replicate 4 0) (omega arith)) row.parts)) m.rows valid.rows in
      fit_ready (record m { rows = map (with_row_parts change) m.rows; extensions = m.extensions ++ new ∷ []; current = Some (record { extension = k; size = 4 }) })
      (record { place = k; current = refl; at = at_end m.extensions new none refl; rows = All-map P (with_row_parts change) m.rows each }) (fit (m.extensions ++ new ∷ [])) fits

  -- the extension was there
  module _ (k : ℕ) (e : Extension) (there : slice_get m.extensions k ≡ Some e) (at : IsAt m.extensions k seq) (fits : fit (with_item k (grown_extension intro) m.extensions) ≡ true) where
    abbrev grown : Mailbox
    grown = record (with_parts k (grown_to 4) m) { extensions = with_item k (grown_extension intro) m.extensions; current = Some (record { extension = k; size = 4 }) }

    grown_long : (part : List ℕ) → 4 ≤ length (grown_to 4 part)
    grown_long part = let zeros : List ℕ = replicate (4 - length part) 0 in omega (arith, length-append part zeros, length-replicate {A = ℕ} (4 - length part) 0)

    grown_ready : IsReady F [] grown seq
    grown_ready =
        let P : Row → Type 0 = λ row. PartHas (Holds F [] row.uid) k row.parts in
        let change : Row → Row = with_row_parts (with_item k (grown_to 4)) in
        let inside : k < length m.extensions = slice_get_within m.extensions k e there in
        let each : All (λ row. P (change row)) m.rows =
        All-weaker (IsRowOf m) (λ row. P (change row))
        (λ row is. part_item (λ part. Unit {0}) (Holds F [] row.uid) (grown_to 4) (λ part x. wide F row.uid (grown_to 4 part) (grown_long part)) k row.parts (part_any k row.parts (let same = parts_count row is in omega (arith, same, inside)))) m.rows valid.rows in
        record { place = k; current = refl; at = at_item (grown_extension intro) seq seq (λ e. refl) (λ e is. is) k m.extensions at; rows = All-map P change m.rows each }

    known_ready : (b : Bool) → b ≡ true → IsReady F [] (cond b (if_fit m grown) (without_current m)) seq
    known_ready true is = fit_ready grown grown_ready (fit (with_item k (grown_extension intro) m.extensions)) fits
    known_ready false is = absurd cc

  old_ready : (k : ℕ) → introduced m.extensions intro ≡ Some k → fit (with_item k (grown_extension intro) m.extensions) ≡ true → IsReady F [] (with_intro m intro) seq
  old_ready k place fits =
      let d : Extension = new_extension intro in
      let e : Extension = get_or m.extensions k d in
      let found = position-Some is_cache m.extensions k d place in
      let there : slice_get m.extensions k ≡ Some e = slice_get-get_or m.extensions k d found.0 in
      let at : IsAt m.extensions k e.reset_id = at_from m.extensions k d found.0 found.1 found.2 in
      let number : seq ≡ e.reset_id = number_is m.extensions k e.reset_id at in
      rw (place, there)
      (known_ready k e there (subst (IsAt m.extensions k) (sym number) at) fits (nat_eq e.reset_id intro.reset_id) (eq-eqb e.reset_id seq (sym number)))

  intro_by : (o : Option ℕ) → introduced m.extensions intro ≡ o → IsReady F [] (with_intro m intro) seq
  intro_by None place = rw place (added_ready place (rw place at room))
  intro_by (Some k) place = old_ready k place (rw place at room)

  intro_ready : IsReady F [] (with_intro m intro) seq
  intro_ready = intro_by (introduced m.extensions intro) refl

-- ---- the reset

on_is : (n : Mailbox) (change : Current → Mailbox) (c : Current) → n.current ≡ Some c → on_current n change ≡ change c
on_is n change c is = rw is refl

length-zeroed : (part : List ℕ) → length (zeroed part) ≡ length part
length-zeroed part = length-replicate (length part) 0

module _ (F : ℕ → ℕ) (n : Mailbox) (old number : ℕ) (is : IsReady F [] n old) where
  reset_at : IsReady F [] (with_reset number 0 n (record { extension = is.place; size = 4 })) number
  reset_at =
      let P : Row → Type 0 = λ row. PartHas (Holds F [] row.uid) is.place row.parts in
      let change : Row → Row = with_row_parts (with_item is.place zeroed) in
      record {
        place = is.place;
        current = is.current;
        at = at_item (λ e. record e { reset_id = number; header = zeroed e.header }) old number (λ e. refl) (λ e x. refl) is.place n.extensions is.at;
        rows = All-map P change n.rows
            (All-weaker P (λ row. P (change row))
            (λ row has. part_item (Holds F [] row.uid) (Holds F [] row.uid) zeroed (λ part held. let same = length-zeroed part in wide F row.uid (zeroed part) (let long = held.0 in omega (arith, same, long))) is.place row.parts has) n.rows is.rows);
      }

  reset_ready : IsReady F [] (on_current n (with_reset number 0 n)) number
  reset_ready = subst (λ (k : Mailbox). IsReady F [] k number) (sym (on_is n (with_reset number 0 n) (record { extension = is.place; size = 4 }) is.current)) reset_at

-- ---- one update

-- a pair's UID has the place of its number
record IsPaired (F : ℕ → ℕ) (p : ℕ × Row) : Type 0 where
  place : F p.1.uid ≡ 32 + 16 * p.0
  uid : p.1.uid < 2 ^ 32
  small : 32 + 16 * p.0 < 2 ^ 32

module _ (F : ℕ → ℕ) (done : List ℕ) (p : ℕ × Row) (paired : IsPaired F p) where
  abbrev here : ℕ
  here = from_le_bytes w32 (take 4 (offset_row p))

  here_is : here ≡ p.1.uid
  here_is = from_le_bytes-to_le_bytes_4 p.1.uid paired.uid

  abbrev over : List ℕ → List ℕ
  over part = take 4 (drop 4 (offset_row p)) ++ drop 4 part

  over_is : (uid : ℕ) (part : List ℕ) → uid ≡ p.1.uid → Holds F (done ++ p.1.uid ∷ []) uid (over part)
  over_is uid part same = (omega arith, λ c. from_le_bytes-to_le_bytes_4 (32 + 16 * p.0) paired.small ∙ sym paired.place ∙ ap F (sym same))

  kept_is : (uid : ℕ) (part : List ℕ) → p.1.uid ≢ uid → Holds F done uid part → Holds F (done ++ p.1.uid ∷ []) uid part
  kept_is uid part other has = (has.0, λ c. ⊎_elim has.1 (λ e. absurd (other e)) (Contains-push_cases done p.1.uid uid c))

  abbrev change : ℕ → Row → Row
  change k row = record row { parts = with_item k over row.parts }

  row_is : (k : ℕ) (row : Row) (b : Bool) → nat_eq here row.uid ≡ b → PartHas (Holds F done row.uid) k row.parts
      → PartHas (Holds F (done ++ p.1.uid ∷ []) (cond b (change k row) row).uid) k (cond b (change k row) row).parts
  row_is k row true is has =
      let same : here ≡ row.uid = eqb-true here row.uid is in
      part_item (Holds F done row.uid) (Holds F (done ++ p.1.uid ∷ []) row.uid) over (λ part held. over_is row.uid part (sym same ∙ here_is)) k row.parts has
  row_is k row false is has =
      part_weaker (Holds F done row.uid) (Holds F (done ++ p.1.uid ∷ []) row.uid)
      (λ part held. kept_is row.uid part (λ e. let no : nat_eq here row.uid ≡ true = eq-eqb here row.uid (here_is ∙ e) in absurd (let x : true ≡ false = sym no ∙ is in cc)) held) k row.parts has

  updated : (n : Mailbox) (number : ℕ) (is : IsReady F done n number) → IsReady F (done ++ p.1.uid ∷ []) (with_update (record { extension = is.place; size = 4 }) n (offset_row p)) number
  updated n number is =
      let k : ℕ = is.place in
      let P : Row → Type 0 = λ row. PartHas (Holds F done row.uid) k row.parts in
      let Q : Row → Type 0 = λ row. PartHas (Holds F (done ++ p.1.uid ∷ []) row.uid) k row.parts in
      record {
        place = k;
        current = is.current;
        at = is.at;
        rows = All-map Q (λ row. cond (nat_eq here row.uid) (change k row) row) n.rows (All-weaker P (λ row. Q (cond (nat_eq here row.uid) (change k row) row)) (λ row has. row_is k row (nat_eq here row.uid) refl has) n.rows is.rows);
      }

-- ---- the updates of a record

abbrev uids : List (ℕ × Row) → List ℕ
uids ps = map (λ p. p.1.uid) ps

record AllUpdated (F : ℕ → ℕ) (done : List ℕ) (k : ℕ) (n : Mailbox) (number : ℕ) : Type 0 where
  ready : IsReady F done n number
  same : ready.place ≡ k

fold_updated : (F : ℕ → ℕ) (done : List ℕ) (ps : List (ℕ × Row)) (n : Mailbox) (number k : ℕ) → All (IsPaired F) ps → (is : IsReady F done n number) → is.place ≡ k → IsReady F (done ++ uids ps) (fold (with_update (record { extension = k; size = 4 })) n (map offset_row ps)) number
unfolding updated
fold_updated F done [] n number k paired is place = subst (λ (l : List ℕ). IsReady F l n number) (sym (append-nil done)) is
fold_updated F done (p ∷ ps) n number k paired is place =
    let first = updated F done p (All-head (IsPaired F) p ps paired) n number is in
    let next : Mailbox = with_update (record { extension = k; size = 4 }) n (offset_row p) in
    let moved : AllUpdated F (done ++ p.1.uid ∷ []) k next number =
    subst (λ (j : ℕ). AllUpdated F (done ++ p.1.uid ∷ []) j (with_update (record { extension = j; size = 4 }) n (offset_row p)) number) place (record { ready = first; same = refl }) in
    subst (λ (l : List ℕ). IsReady F l (fold (with_update (record { extension = k; size = 4 })) next (map offset_row ps)) number) (append_assoc done (p.1.uid ∷ []) (uids ps))
    (fold_updated F (done ++ p.1.uid ∷ []) ps next number k (All-tail (IsPaired F) p ps paired) moved.ready moved.same)

rows_length : (ps : List (ℕ × Row)) → length (flat_map offset_row ps) ≡ 8 * length ps
rows_length [] = refl
rows_length (p ∷ ps) = let more = rows_length ps in omega (arith, more)

rows_of : (ps : List (ℕ × Row)) → update_rows (length ps) 8 (flat_map offset_row ps) ≡ map offset_row ps
rows_of [] = refl
rows_of (p ∷ ps) = ap (λ (l : List (List ℕ)). offset_row p ∷ l) (rows_of ps)

module _ (F : ℕ → ℕ) (done : List ℕ) (ps : List (ℕ × Row)) (n : Mailbox) (number : ℕ) (paired : All (IsPaired F) ps) (is : IsReady F done n number) where
  abbrev bytes : List ℕ
  bytes = flat_map offset_row ps

  abbrev c : Current
  c = record { extension = is.place; size = 4 }

  whole : nat_eq (length bytes % 8) 0 ≡ true
  whole = let long = rows_length ps in eq-eqb (length bytes % 8) 0 (omega (arith, long))

  count : length bytes / 8 ≡ length ps
  count = let long = rows_length ps in omega (arith, long)

  updates_at : IsReady F (done ++ uids ps) (with_updates bytes n c) number
  updates_at =
      let rows : update_rows (length bytes / 8) 8 bytes ≡ map offset_row ps = ap (λ (k : ℕ). update_rows k 8 bytes) count ∙ rows_of ps in
      let folded : fold (with_update c) n (update_rows (length bytes / 8) 8 bytes) ≡ fold (with_update c) n (map offset_row ps) = ap (fold (with_update c) n) rows in
      let all : with_updates bytes n c ≡ fold (with_update c) n (map offset_row ps) = ap (λ (b : Bool). cond b (fold (with_update c) n (update_rows (length bytes / 8) 8 bytes)) n) whole ∙ folded in
      subst (λ (m : Mailbox). IsReady F (done ++ uids ps) m number) (sym all) (fold_updated F done ps n number is.place paired is refl)

  updates_ready : IsReady F (done ++ uids ps) (on_current n (with_updates bytes n)) number
  updates_ready = subst (λ (k : Mailbox). IsReady F (done ++ uids ps) k number) (sym (on_is n (with_updates bytes n) c is.current)) updates_at

abbrev update_of : List (ℕ × Row) → Record
update_of ps = internal_record (body.ExtRecordUpdate (flat_map offset_row ps))

record_ready : (F : ℕ → ℕ) (done : List ℕ) (ps : List (ℕ × Row)) (n k : Mailbox) (number : ℕ) → All (IsPaired F) ps → IsReady F done n number → after_record n (update_of ps) ≡ Some k → IsReady F (done ++ uids ps) k number
record_ready F done ps n k number paired is e =
    by_some (λ (m : Mailbox). IsReady F (done ++ uids ps) m number) (stamped n.rows (on_current (with_higher n) (with_updates (flat_map offset_row ps) (with_higher n)))) k
    (ready_stamped F (done ++ uids ps) (on_current (with_higher n) (with_updates (flat_map offset_row ps) (with_higher n))) n.rows number (updates_ready F done ps (with_higher n) number paired (ready_higher F done n number is))) e

-- ---- in pieces

uids_both : (n : ℕ) (ps : List (ℕ × Row)) → uids (take n ps) ++ uids (drop n ps) ≡ uids ps
uids_both n ps = sym (map-append (λ p. p.1.uid) (take n ps) (drop n ps)) ∙ ap uids (take-append-drop n ps)

pieces_ready : (F : ℕ → ℕ) (done : List ℕ) (count : ℕ) (ps : List (ℕ × Row)) (n after : Mailbox) (number : ℕ) → All (IsPaired F) ps → length ps ≤ count * 65536 → IsReady F done n number → applied n (map update_of (first_pieces count ps)) ≡ Some after → IsReady F (done ++ uids ps) after number
pieces_ready F done zero [] n after number paired few is e = by_some (λ (m : Mailbox). IsReady F (done ++ []) m number) n after (subst (λ (l : List ℕ). IsReady F l n number) (sym (append-nil done)) is) e
pieces_ready F done zero (p ∷ ps) n after number paired few is e = absurd (omega arith)
pieces_ready F done (suc count) ps n after number paired few is e =
    let front : List (ℕ × Row) = take piece_size ps in
    let back : List (ℕ × Row) = drop piece_size ps in
    let all : (done ++ uids front) ++ uids back ≡ done ++ uids ps = append_assoc done (uids front) (uids back) ∙ ap (λ (l : List ℕ). done ++ l) (uids_both piece_size ps) in
    subst (λ (l : List ℕ). IsReady F l after number) all
    (option_and_then_some (λ k. applied k (map update_of (first_pieces count back))) (after_record n (update_of front)) after e
    (λ k first rest.
    pieces_ready F (done ++ uids front) count back k after number (All-drop (IsPaired F) piece_size ps paired) (let left = length-drop piece_size ps in omega (arith, left, few))
    (record_ready F done front n k number (All-take (IsPaired F) piece_size ps paired) is first) rest))

-- ---- the places

module _ (m : Mailbox) (valid : IsValid m) (few : length m.rows ≤ 8388608) where
  -- the place of a UID's row
  abbrev F : ℕ → ℕ
  F uid = 32 + 16 * position_or_len (λ (row : Row). nat_eq row.uid uid) m.rows

  apart : (i j : ℕ) (d : Row) → i < j → j < length m.rows → (get_or m.rows i d).uid < (get_or m.rows j d).uid
  apart i j d less inside =
      let long : length (map (λ (r : Row). r.uid) m.rows) ≡ length m.rows = length-map m.rows (λ (r : Row). r.uid) in
      let first : get_or (map (λ (r : Row). r.uid) m.rows) i 0 ≡ (get_or m.rows i d).uid = get_or-map (λ (r : Row). r.uid) m.rows i d 0 (omega arith) in
      let second : get_or (map (λ (r : Row). r.uid) m.rows) j 0 ≡ (get_or m.rows j d).uid = get_or-map (λ (r : Row). r.uid) m.rows j d 0 inside in
      let up : get_or (map (λ (r : Row). r.uid) m.rows) i 0 < get_or (map (λ (r : Row). r.uid) m.rows) j 0 = AllPairs-from_increasing (map (λ (r : Row). r.uid) m.rows) valid.rising i j 0 less (omega arith) in
      omega arith

  place_is : (i : ℕ) (d : Row) → i < length m.rows → F (get_or m.rows i d).uid ≡ 32 + 16 * i
  place_is i d inside =
      let uid : ℕ = (get_or m.rows i d).uid in
      let at : position_or_len (λ (row : Row). nat_eq row.uid uid) m.rows ≡ i =
      position_or_len_is (λ (row : Row). nat_eq row.uid uid) m.rows i d (omega arith)
      (λ k less. let low : (get_or m.rows k d).uid < uid = apart k i d less inside in ne_eqb (get_or m.rows k d).uid uid (λ e. omega (arith, e, low))) (λ x. eq-eqb uid uid refl) in
      ap (λ (k : ℕ). 32 + 16 * k) at

  paired : All (IsPaired F) (enumerate_from 0 m.rows)
  paired k d h =
      let long : length (enumerate_from 0 m.rows) ≡ length m.rows = length-enumerate_from 0 m.rows in
      let inside : k < length m.rows = omega (arith, h, long) in
      let is : get_or (enumerate_from 0 m.rows) k d ≡ (0 + k, get_or m.rows k d.1) = get_or-enumerate_from 0 m.rows k d inside in
      let zero_k : 0 + k ≡ k = omega arith in
      let row : IsRowOf m (get_or m.rows k d.1) = valid.rows k d.1 inside in
      let at : F (get_or m.rows k d.1).uid ≡ 32 + 16 * (0 + k) = place_is k d.1 inside ∙ ap (λ (j : ℕ). 32 + 16 * j) (sym zero_k) in
      subst (IsPaired F) (sym is) (record { place = at; uid = (let low = row.uid.1 in let top = valid.next_uid.1 in omega (arith, low, top)); small = omega (arith, inside, few) })

uids_enumerated : (n : ℕ) (rows : List Row) → uids (enumerate_from n rows) ≡ map (λ row. row.uid) rows
uids_enumerated n [] = refl
uids_enumerated n (row ∷ rows) = ap (λ (l : List ℕ). row.uid ∷ l) (uids_enumerated (n + 1) rows)

-- ---- CHECK

module _ (m after : Mailbox) (valid : IsValid m) (room : HasRoom m) (few : length m.rows ≤ 8388608) (gives : applied m (check_records m) ≡ Some after) where
  abbrev G : ℕ → ℕ
  G uid = 32 + 16 * position_or_len (λ (row : Row). nat_eq row.uid uid) m.rows

  abbrev introduced_m : Mailbox
  introduced_m = stamped m.rows (with_intro (with_higher m) (cache_intro m))

  abbrev reset_m : Mailbox
  reset_m = stamped introduced_m.rows (on_current (with_higher introduced_m) (with_reset (next_number (cache_number m)) 0 (with_higher introduced_m)))

  first : IsReady G [] introduced_m (cache_number m)
  first = ready_stamped G [] (with_intro (with_higher m) (cache_intro m)) m.rows (cache_number m) (intro_ready G (with_higher m) (higher_valid m valid) room)

  second : IsReady G [] reset_m (next_number (cache_number m))
  second =
      ready_stamped G [] (on_current (with_higher introduced_m) (with_reset (next_number (cache_number m)) 0 (with_higher introduced_m))) introduced_m.rows (next_number (cache_number m))
      (reset_ready G (with_higher introduced_m) (cache_number m) (next_number (cache_number m)) (ready_higher G [] introduced_m (cache_number m) first))

  last : IsReady G ([] ++ uids (enumerate_from 0 m.rows)) after (next_number (cache_number m))
  last =
      pieces_ready G [] ((length (enumerate_from 0 m.rows) + (piece_size - 1)) / piece_size) (enumerate_from 0 m.rows) reset_m after (next_number (cache_number m)) (paired m valid few) (omega arith) second gives

  pub placed : (i : ℕ) (row : Row) → slice_get after.rows i ≡ Some row → look_of after row ≡ Some (record { seq = next_number (cache_number m); offset = 32 + 16 * i })
  placed i row there =
      let inside : i < length after.rows = slice_get_within after.rows i row there in
      let at : get_or after.rows i row ≡ row = get_or_from_slice_get after.rows i row row there in
      let same = check_uids m after gives in
      let count : length after.rows ≡ length m.rows = sym (length-map after.rows (λ (r : Row). r.uid)) ∙ ap length same ∙ length-map m.rows (λ (r : Row). r.uid) in
      let within : i < length m.rows = omega (arith, inside, count) in
      let uid : row.uid ≡ (get_or m.rows i row).uid =
      ap (λ (r : Row). r.uid) (sym at) ∙ sym (get_or-map (λ (r : Row). r.uid) after.rows i row 0 inside) ∙ ap (λ (l : List ℕ). get_or l i 0) same ∙ get_or-map (λ (r : Row). r.uid) m.rows i row 0 within in
      let offset : G row.uid ≡ 32 + 16 * i = ap G uid ∙ place_is m valid few i row within in
      let done : Contains (uids (enumerate_from 0 m.rows)) row.uid =
      subst (λ (l : List ℕ). Contains l row.uid) (sym (uids_enumerated 0 m.rows))
      (subst (Contains (map (λ (r : Row). r.uid) m.rows)) (get_or-map (λ (r : Row). r.uid) m.rows i row 0 within ∙ sym uid) (Contains-get_or (map (λ (r : Row). r.uid) m.rows) i 0 (let long = length-map m.rows (λ (r : Row). r.uid) in omega (arith, long, within)))) in
      let has : PartHas (Holds G (uids (enumerate_from 0 m.rows)) row.uid) last.place row.parts = subst (λ (r : Row). PartHas (Holds G (uids (enumerate_from 0 m.rows)) r.uid) last.place r.parts) at (last.rows i row inside) in
      look_is after.extensions row.parts last.place (next_number (cache_number m)) (32 + 16 * i) last.at
      (part_weaker (Holds G (uids (enumerate_from 0 m.rows)) row.uid) (λ part. (4 ≤ length part) × (from_le_bytes w32 (take 4 part) ≡ 32 + 16 * i)) (λ part held. (held.0, held.1 done ∙ offset)) last.place row.parts has)
