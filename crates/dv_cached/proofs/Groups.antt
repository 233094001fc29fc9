-- What the group of a command leaves of the extensions and parts.
use Rattle.std.proofs.Common.{◌≡◌, ◌≢◌, ◌⊎◌, inl, inr, ℕ, ◌+◌, ◌%◌, ◌-◌, Bool, true, false, cond, List, [], ◌∷◌, ◌++◌, nat_eq, nat_lt, Some, None, refl, sym, ◌∙◌, subst}
use Rattle.std.specs.Prelude.{flat_map, map}
use Rattle.std.proofs.lemmas.List.Elements.{All-append, All-map, All-nil, All-push, All-weaker}
use Rattle.std.proofs.lemmas.Option.{option_and_then_some}
use Rattle.dv_model.specs.declared.types.Body.TheVariants as body
use Rattle.dv_model.specs.declared.types.Command.{Command}
use Rattle.dv_model.specs.declared.types.Command.TheVariants as command
use Rattle.dv_model.specs.declared.types.How.{How}
use Rattle.dv_model.specs.declared.types.How.TheVariants as how
use Rattle.dv_model.specs.declared.types.Mailbox.{Mailbox}
use Rattle.dv_model.specs.declared.types.NewRow.{NewRow}
use Rattle.dv_model.specs.declared.types.Pair.{Pair}
use Rattle.dv_model.specs.declared.types.Record.{Record}
use Rattle.dv_model.specs.declared.types.Row.{Row}
use Rattle.dv_model.specs.Effects.{after_record, applied, fresh_row, is_request, stamped, with_higher, with_row}
use Rattle.dv_model.specs.Sessions.{deleted_uids, expunges, external_record, flag_updates, group_of, is_append, keyword_adds, keyword_resets, keyword_updates, pieces, ranges_of, removed_uids, store_records, stored_uids}
use Rattle.dv_model.specs.Views.{View}
use Rattle.dv_validity.proofs.Records.{after_by, by_some}
use Rattle.dv_validity.proofs.Texts.{flat_all}
use Rattle.dv_cached.specs.Parts.{HasNewParts, HasOldParts, KeepsParts}
use Rattle.dv_cached.proofs.Parts.{AreMild, AreSame, IsMild, records_same, same_itself, same_stamped}

-- ---- the records of a group

mild_each : {X : Type 0} (f : X → Record) → ((x : X) → IsMild (f x).body) → (xs : List X) → AreMild (map f xs)
mild_each f each xs = All-map (λ (r : Record). IsMild r.body) f xs (λ k d h. each _)

mild_both : (rs ss : List Record) → AreMild rs → AreMild ss → AreMild (rs ++ ss)
mild_both rs ss one other = All-append (λ (r : Record). IsMild r.body) rs ss one other

flags_by : (b : Bool) (rs : List Record) → AreMild rs → AreMild (cond b [] rs)
flags_by true rs are = All-nil (λ (r : Record). IsMild r.body)
flags_by false rs are = are

flags_mild : (add remove : ℕ) (pairs : List Pair) → AreMild (flag_updates add remove pairs)
flags_mild add remove pairs = flags_by (nat_eq (add + remove) 0) _ (mild_each _ (λ ps. tt) (pieces pairs))

keywords_mild : (h : How) (pairs : List Pair) (names : List (List ℕ)) → AreMild (flat_map (keyword_updates h pairs) names)
keywords_mild h pairs names =
    flat_all (λ name. Unit {0}) (λ (r : Record). IsMild r.body) (keyword_updates h pairs) (λ name x. mild_each _ (λ ps. tt) (pieces pairs)) names (λ k d b. tt)

store_mild : (h : How) (flags : ℕ) (names : List (List ℕ)) (pairs : List Pair) → AreMild (store_records h flags names pairs)
store_mild how.Add flags names pairs = mild_both (flag_updates flags 0 pairs) (flat_map (keyword_updates how.Add pairs) names) (flags_mild flags 0 pairs) (keywords_mild how.Add pairs names)
store_mild how.Remove flags names pairs = mild_both (flag_updates 0 flags pairs) (flat_map (keyword_updates how.Remove pairs) names) (flags_mild 0 flags pairs) (keywords_mild how.Remove pairs names)
store_mild how.Replace flags names pairs =
    mild_both (flag_updates flags (31 - flags % 32) pairs ++ keyword_resets pairs) (flat_map (keyword_updates how.Add pairs) names)
    (mild_both (flag_updates flags (31 - flags % 32) pairs) (keyword_resets pairs) (flags_mild flags (31 - flags % 32) pairs) (mild_each _ (λ ps. tt) (pieces pairs)))
    (keywords_mild how.Add pairs names)

expunges_mild : (guid : ℕ → List ℕ) (uids : List ℕ) → AreMild (expunges guid uids)
expunges_mild guid uids = mild_each _ (λ rows. tt) (pieces (map (λ uid. record { uid = uid; guid = guid uid }) uids))

-- ---- what it leaves

kept_same : (c : Command) (m n : Mailbox) → AreSame m n → KeepsParts c m n
kept_same c m n same = record {
  extensions = same.extensions;
  rows = All-weaker (HasOldParts m) (λ row. HasOldParts m row ⊎ (is_append c ≡ true) × HasNewParts m row) (λ row is. inl is) n.rows same.rows;
}

kept_more : (c : Command) (m n k : Mailbox) → KeepsParts c m n → AreSame n k → KeepsParts c m k
kept_more c m n k first second = record {
  extensions = second.extensions ∙ first.extensions;
  rows = All-weaker (HasOldParts n) (λ row. HasOldParts m row ⊎ (is_append c ≡ true) × HasNewParts m row) again k.rows second.rows;
}
  where
    from : (row old : Row) → old.uid ≡ row.uid → old.parts ≡ row.parts → HasOldParts m old ⊎ (is_append c ≡ true) × HasNewParts m old → HasOldParts m row ⊎ (is_append c ≡ true) × HasNewParts m row
    from row old uid parts (inl (j, first, h, at, same)) = inl (j, first, h, at, (same.0 ∙ uid, same.1 ∙ parts))
    from row old uid parts (inr new) = inr (new.0, record { uid = sym uid ∙ new.1.uid; parts = sym parts ∙ new.1.parts })

    again : (row : Row) → HasOldParts n row → HasOldParts m row ⊎ (is_append c ≡ true) × HasNewParts m row
    again row (j, old, h, at, same) =
        from row old same.0 same.1 (subst (λ (r : Row). HasOldParts m r ⊎ (is_append c ≡ true) × HasNewParts m r) at (first.rows j old h))

-- ---- an append

module _ (flags : ℕ) (keywords : List (List ℕ)) (message : List ℕ) (m : Mailbox) where
  abbrev append : Command
  append = command.Append flags keywords message

  abbrev row : NewRow
  row = record { uid = m.next_uid; flags = flags }

  pushed : KeepsParts append m (with_row (with_higher m) row)
  pushed = record {
    extensions = refl;
    rows = All-push (λ new. HasOldParts m new ⊎ (is_append append ≡ true) × HasNewParts m new) m.rows (fresh_row (with_higher m) row)
        (All-weaker (HasOldParts m) (λ new. HasOldParts m new ⊎ (is_append append ≡ true) × HasNewParts m new) (λ new is. inl is) m.rows (same_itself m m refl refl).rows)
        (inr (refl, record { uid = refl; parts = refl }));
  }

  appended_by : (n : Mailbox) (b : Bool) → cond b None (Some (with_row (with_higher m) row)) ≡ Some n → KeepsParts append m n
  appended_by n true e = absurd cc
  appended_by n false e = by_some (KeepsParts append m) (with_row (with_higher m) row) n pushed e

  first_kept : (n : Mailbox) → after_record m (external_record (body.Append (row ∷ []))) ≡ Some n → KeepsParts append m n
  first_kept n e =
      after_by (KeepsParts append m) m n (external_record (body.Append (row ∷ []))) (kept_same append m (with_higher m) (same_itself m (with_higher m) refl refl))
      (λ k done. kept_more append m k (stamped m.rows k) (appended_by k (nat_lt m.next_uid m.next_uid) done) (same_stamped m.rows k)) (is_request (external_record (body.Append (row ∷ [])))) e

  append_kept : (n : Mailbox) → applied m (external_record (body.Append (row ∷ [])) ∷ keyword_adds m.next_uid keywords) ≡ Some n → KeepsParts append m n
  append_kept n e =
      option_and_then_some (λ k. applied k (keyword_adds m.next_uid keywords)) (after_record m (external_record (body.Append (row ∷ [])))) n e
      (λ k first rest. kept_more append m k n (first_kept k first) (records_same k n (keyword_adds m.next_uid keywords) (mild_each _ (λ name. tt) keywords) rest))

-- ---- any command

pub group_kept : (c : Command) (m n : Mailbox) (view : View) (guid : ℕ → List ℕ) → c ≢ command.Check → applied m (group_of c view m guid).records ≡ Some n → KeepsParts c m n
group_kept (command.Append flags keywords message) m n view guid other e = append_kept flags keywords message m n e
group_kept (command.Store by_uid set h flags keywords since) m n view guid other e =
    kept_same (command.Store by_uid set h flags keywords since) m n (records_same m n (store_records h flags keywords (ranges_of (stored_uids by_uid set since view m))) (store_mild h flags keywords (ranges_of (stored_uids by_uid set since view m))) e)
group_kept command.Expunge m n view guid other e = kept_same command.Expunge m n (records_same m n (expunges guid (deleted_uids m)) (expunges_mild guid (deleted_uids m)) e)
group_kept (command.UidRemove set) m n view guid other e = kept_same (command.UidRemove set) m n (records_same m n (expunges guid (removed_uids set view m)) (expunges_mild guid (removed_uids set view m)) e)
group_kept command.Check m n view guid other e = absurd (other refl)
group_kept c m n view guid other e = kept_same c m n (records_same m n [] (All-nil (λ (r : Record). IsMild r.body)) e)
