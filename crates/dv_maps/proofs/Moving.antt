-- The records of the purge of a file, by what they do to the keys of a map.
use Rattle.std.proofs.Common.{◌≡◌, ℕ, zero, suc, ◌*◌, ◌/◌, ◌%◌, ◌≤◌, Bool, true, false, cond, eq-eqb, List, [], ◌∷◌, ◌++◌, length, map, take, drop, nat_eq, Some, refl, sym, ◌∙◌, ap, subst, arith, length-drop}
use Rattle.std.specs.Prelude.{not, ◌||◌, filter, flat_map, fold}
use Rattle.std.proofs.lemmas.List.{take-append-drop}
use Rattle.std.proofs.lemmas.List.Folds.{list_any-append}
use Rattle.dv_model.specs.declared.types.Body.TheVariants as body
use Rattle.dv_model.specs.declared.types.Mailbox.{Mailbox}
use Rattle.dv_model.specs.declared.types.Pair.{Pair}
use Rattle.dv_model.specs.declared.types.Record.{Record}
use Rattle.dv_model.specs.declared.types.Row.{Row}
use Rattle.dv_model.specs.Effects.{applied, is_in_pair, is_in_pairs, on_current, stamped, update_rows, with_higher, with_update, with_updates, without_uids}
use Rattle.dv_model.specs.Sessions.{external_record, first_pieces, piece_size}
use Rattle.dv_maps.specs.declared.mapped.Placed.{Placed}
use Rattle.dv_maps.specs.Groups.{place_row, update_of}
use Rattle.dv_maps.proofs.Counting.{IsWith}
use Rattle.dv_maps.proofs.Keys.{Key, changed_key, each, key, keys, stamp_keys, update_keys}
use Rattle.dv_maps.proofs.Saving.{map_current}

-- ---- the bytes of an update of places

pub places_length : (ps : List Placed) → length (flat_map place_row ps) ≡ 16 * length ps
places_length [] = refl
places_length (p ∷ ps) = let more = places_length ps in omega (arith, more)

places_rows : (ps : List Placed) → update_rows (length ps) 16 (flat_map place_row ps) ≡ map place_row ps
places_rows [] = refl
places_rows (p ∷ ps) = ap (λ (l : List (List ℕ)). place_row p ∷ l) (places_rows ps)

abbrev updated : Mailbox → List Placed → Mailbox
updated n ps = fold (with_update map_current) n (map place_row ps)

updates_are : (n : Mailbox) (ps : List Placed) → with_updates (flat_map place_row ps) n map_current ≡ updated n ps
updates_are n ps =
    let long = places_length ps in
    let whole : nat_eq (length (flat_map place_row ps) % 16) 0 ≡ true = eq-eqb (length (flat_map place_row ps) % 16) 0 (omega (arith, long)) in
    let count : length (flat_map place_row ps) / 16 ≡ length ps = omega (arith, long) in
    ap (λ (b : Bool). cond b (fold (with_update map_current) n (update_rows (length (flat_map place_row ps) / 16) 16 (flat_map place_row ps))) n) whole
    ∙ ap (λ (k : ℕ). fold (with_update map_current) n (update_rows k 16 (flat_map place_row ps))) count
    ∙ ap (λ (l : List (List ℕ)). fold (with_update map_current) n l) (places_rows ps)

-- ---- places that are written

abbrev pub moved_keys : List Placed → List Key → List Key
moved_keys [] ks = ks
moved_keys (p ∷ ps) ks = moved_keys ps (each (changed_key map_current (place_row p)) ks)

moved_append : (ps qs : List Placed) (ks : List Key) → moved_keys (ps ++ qs) ks ≡ moved_keys qs (moved_keys ps ks)
moved_append [] qs ks = refl
moved_append (p ∷ ps) qs ks = moved_append ps qs (each (changed_key map_current (place_row p)) ks)

updated_is : (ps : List Placed) (n : Mailbox) → IsWith n (updated n ps) n.extensions (moved_keys ps (keys n.rows)) n.current
updated_is [] n = record { next = refl; extensions = refl; current = refl; rows = refl }
updated_is (p ∷ ps) n =
    let rest = updated_is ps (with_update map_current n (place_row p)) in
    record {
      next = rest.next;
      extensions = rest.extensions;
      current = rest.current;
      rows = rest.rows ∙ ap (moved_keys ps) (update_keys map_current (place_row p) n.rows);
    }

moves_base : (n : Mailbox) (ps : List Placed)
    → IsWith n (stamped n.rows (on_current (with_higher (record n { current = Some map_current })) (with_updates (flat_map place_row ps) (with_higher (record n { current = Some map_current })))))
    n.extensions (moved_keys ps (keys n.rows)) (Some map_current)
moves_base n ps =
    let high : Mailbox = with_higher (record n { current = Some map_current }) in
    let is = updated_is ps high in
    subst (λ (k : Mailbox). IsWith n (stamped n.rows k) n.extensions (moved_keys ps (keys n.rows)) (Some map_current)) (sym (updates_are high ps))
    (record { next = is.next; extensions = is.extensions; current = is.current; rows = stamp_keys n.rows _ _ ∙ is.rows })

moves_written : (n : Mailbox) (ps : List Placed) → n.current ≡ Some map_current
    → IsWith n (stamped n.rows (on_current (with_higher n) (with_updates (flat_map place_row ps) (with_higher n)))) n.extensions (moved_keys ps (keys n.rows)) (Some map_current)
moves_written n ps current =
    subst (λ c. IsWith n (stamped n.rows (on_current (with_higher (record n { current = c })) (with_updates (flat_map place_row ps) (with_higher (record n { current = c }))))) n.extensions (moved_keys ps (keys n.rows)) (Some map_current))
    (sym current) (moves_base n ps)

abbrev pub place_update : List Placed → Record
place_update ps = update_of (flat_map place_row ps)

-- places were written, and records follow
pub record MovesOver (n : Mailbox) (ps : List Placed) (rest : List Record) (after : Mailbox) : Type 0 where
  pub behind : Mailbox
  pub is : IsWith n behind n.extensions (moved_keys ps (keys n.rows)) (Some map_current)
  pub gives : applied behind rest ≡ Some after

pub moves_over : (k : ℕ) (ps : List Placed) → length ps ≤ k * piece_size → (n : Mailbox) → n.current ≡ Some map_current → (rest : List Record) (after : Mailbox) → applied n (map place_update (first_pieces k ps) ++ rest) ≡ Some after → MovesOver n ps rest after
moves_over zero [] short n current rest after gives = record { behind = n; is = record { next = refl; extensions = refl; current = current; rows = refl }; gives = gives }
moves_over zero (p ∷ ps) short n current rest after gives = absurd (omega (arith, short))
moves_over (suc k) ps short n current rest after gives =
    let first : List Placed = take piece_size ps in
    let others : List Placed = drop piece_size ps in
    let next : Mailbox = stamped n.rows (on_current (with_higher n) (with_updates (flat_map place_row first) (with_higher n))) in
    let is = moves_written n first current in
    let more = moves_over k others (let long = length-drop piece_size ps in omega (arith, long, short)) next is.current rest after gives in
    record {
      behind = more.behind;
      is = record {
        next = more.is.next ∙ is.next;
        extensions = more.is.extensions ∙ is.extensions;
        current = more.is.current;
        rows = more.is.rows ∙ ap (moved_keys others) is.rows ∙ sym (moved_append first others (keys n.rows)) ∙ ap (λ (l : List Placed). moved_keys l (keys n.rows)) (take-append-drop piece_size ps);
      };
      gives = more.gives;
    }

-- ---- rows that are removed

abbrev pub without : (ℕ → Bool) → List Key → List Key
without test [] = []
without test (k ∷ ks) = cond (test k.0) (without test ks) (k ∷ without test ks)

keys_filtered : (test : ℕ → Bool) (rows : List Row) → keys (filter (λ row. not (test row.uid)) rows) ≡ without test (keys rows)
keys_filtered test [] = refl
keys_filtered test (row ∷ rows) = by_test (keys_filtered test rows) (test row.uid)
  where
    by_test : keys (filter (λ (r : Row). not (test r.uid)) rows) ≡ without test (keys rows) → (b : Bool) → keys (cond (not b) (row ∷ filter (λ (r : Row). not (test r.uid)) rows) (filter (λ (r : Row). not (test r.uid)) rows)) ≡ cond b (without test (keys rows)) (key row ∷ without test (keys rows))
    by_test rest true = rest
    by_test rest false = ap (λ (ks : List Key). key row ∷ ks) rest

without_none : (ks : List Key) → without (λ u. false) ks ≡ ks
without_none [] = refl
without_none (k ∷ ks) = ap (λ (l : List Key). k ∷ l) (without_none ks)

without_both : (f g : ℕ → Bool) (ks : List Key) → without g (without f ks) ≡ without (λ u. f u || g u) ks
without_both f g [] = refl
without_both f g (k ∷ ks) = by_test (without_both f g ks) (f k.0)
  where
    by_test : without g (without f ks) ≡ without (λ u. f u || g u) ks → (b : Bool) → without g (cond b (without f ks) (k ∷ without f ks)) ≡ cond (b || g k.0) (without (λ u. f u || g u) ks) (k ∷ without (λ u. f u || g u) ks)
    by_test rest true = rest
    by_test rest false = ap (λ (l : List Key). cond (g k.0) l (k ∷ l)) rest

-- the same map without these rows
pub record IsWithout (n after : Mailbox) (test : ℕ → Bool) : Type 0 where
  pub next : after.next_uid ≡ n.next_uid
  pub extensions : after.extensions ≡ n.extensions
  pub rows : keys after.rows ≡ without test (keys n.rows)

abbrev pub expunge : List Pair → Record
expunge ps = external_record (body.Expunge ps)

one_expunge : (n : Mailbox) (ps : List Pair) → IsWithout n (stamped n.rows (without_uids (is_in_pairs ps) (with_higher n))) (is_in_pairs ps)
one_expunge n ps = record { next = refl; extensions = refl; rows = stamp_keys n.rows _ _ ∙ keys_filtered (is_in_pairs ps) n.rows }

parted : (ps qs : List Pair) → (λ (u : ℕ). is_in_pairs ps u || is_in_pairs qs u) ≡ is_in_pairs (ps ++ qs)
parted ps qs = λ i u. sym (list_any-append (is_in_pair u) ps qs) i

pub expunges_over : (k : ℕ) (ps : List Pair) → length ps ≤ k * piece_size → (n after : Mailbox) → applied n (map expunge (first_pieces k ps)) ≡ Some after → IsWithout n after (is_in_pairs ps)
expunges_over zero [] short n after gives =
    let same : n ≡ after = cc in
    subst (λ (a : Mailbox). IsWithout n a (is_in_pairs [])) same (record { next = refl; extensions = refl; rows = sym (without_none (keys n.rows)) })
expunges_over zero (p ∷ ps) short n after gives = absurd (omega (arith, short))
expunges_over (suc k) ps short n after gives =
    let first : List Pair = take piece_size ps in
    let others : List Pair = drop piece_size ps in
    let next : Mailbox = stamped n.rows (without_uids (is_in_pairs first) (with_higher n)) in
    let is = one_expunge n first in
    let more = expunges_over k others (let long = length-drop piece_size ps in omega (arith, long, short)) next after gives in
    record {
      next = more.next ∙ is.next;
      extensions = more.extensions ∙ is.extensions;
      rows = more.rows ∙ ap (without (is_in_pairs others)) is.rows ∙ without_both (is_in_pairs first) (is_in_pairs others) (keys n.rows)
          ∙ ap (λ (test : ℕ → Bool). without test (keys n.rows)) (parted first others ∙ ap is_in_pairs (take-append-drop piece_size ps));
    }
