-- A key is met by the answers of the keys inside it.
use Rattle.std.proofs.Common.{◌≡◌, ℕ, ◌<◌, Bool, true, false, ◌||◌, ◌&&◌, ◌+◌, not, List, [], length, get_or, map, take, Option, Some, None, Result, Ok, Err, refl, sym, ap, subst, ◌∙◌}
use Rattle.std.specs.Prelude.{IfOk, bytes_eq, nat_lt, slice_get, unwrap_or}
use Rattle.std.specs.List.{list_all, list_any}
use Rattle.std.specs.Str.{str_to_ascii_lowercase}
use Rattle.std.proofs.lemmas.List.Folds.{list_all-map, list_all_at, list_all_more}
use Rattle.std.proofs.lemmas.Slice.Eq.{bytes_eq-Decides}
use Rattle.dv_model.specs.declared.memory.NoMemory.{NoMemory}
use Rattle.dv_model.specs.declared.types.Key.{Key}
use Rattle.dv_model.specs.declared.types.Key.TheVariants as key
use Rattle.dv_model.specs.Searches.{contains_text, meets, needs_mail, value_contains}
use Rattle.dv_model.specs.declared.types.Span.{Span}
use Rattle.dv_model.specs.Fields.{field_of}
use Rattle.dv_model.specs.Sets.{is_in_set}
use Rattle.dv_model.proofs.Searching.{meets-Not, meets-Or, meets-And, meets-Keyword, meets-Uid, meets-Larger, meets-Header, needs_mail-Larger, needs_mail-Header}
use Rattle.dv_search.specs.declared.facts.MailFacts.{MailFacts}
use Rattle.dv_search.specs.declared.keys.Candidate.{Candidate as Tried}
use Rattle.dv_search.specs.Facts.{AreFacts, AreKnown, Describes, candidate_of, has_name, known_field}
use Rattle.dv_search.proofs.Asking.{any_of_made, asks-Header, known-Not, known-first, known-second, known-each}

-- the answer for a key, whatever the message of which the facts are known
abbrev pub Answers : Option MailFacts → Tried → Key → Bool → Type 0
Answers facts c k b = (message : List ℕ) → AreKnown k (Some message) facts → b ≡ meets k (candidate_of c message)

module _ (facts : Option MailFacts) (c : Tried) where
  pub met-Not : (inside : Key) (b : Bool) → Answers facts c inside b → Answers facts c (key.Not inside) (not b)
  met-Not inside b is message known =
      ap not (is message (known-Not (Some message) facts inside known)) ∙ sym (meets-Not (candidate_of c message) inside)

  pub met-first : (one other : Key) (b : Bool) → b ≡ true → Answers facts c one b → Answers facts c (key.Or one other) b
  met-first one other b met is message known =
      let first = sym met ∙ is message (known-first (Some message) facts one other known) in
      met ∙ ap (λ b. b || meets other (candidate_of c message)) first ∙ sym (meets-Or (candidate_of c message) one other)

  pub met-second : (one other : Key) (a b : Bool) → a ≡ false → Answers facts c one a → Answers facts c other b → Answers facts c (key.Or one other) b
  met-second one other a b unmet is_one is_other message known =
      let first = sym unmet ∙ is_one message (known-first (Some message) facts one other known) in
      is_other message (known-second (Some message) facts one other known) ∙ ap (λ a. a || meets other (candidate_of c message)) first ∙ sym (meets-Or (candidate_of c message) one other)

  -- ---- keywords

  pub met-Keyword : (name : List ℕ) (b : Bool) → b ≡ list_any (has_name c.names.now name) c.shown.now.keywords → Answers facts c (key.Keyword name) b
  met-Keyword name b is message known = is ∙ sym (any_of_made (bytes_eq name) (λ k. unwrap_or (slice_get c.names.now k) []) c.shown.now.keywords) ∙ sym (meets-Keyword (candidate_of c message) name)

  -- ---- sets of UIDs

  pub met-Uid : (set : List Span) (b : Bool) → b ≡ is_in_set 0 set c.shown.now.uid → Answers facts c (key.Uid set) b
  met-Uid set b is message known = is ∙ sym (meets-Uid (candidate_of c message) set)

  -- ---- several keys

  -- the answer for several keys
  abbrev pub AnswersAll : List Key → List Key → Bool → Type 0
  AnswersAll keys some b = (message : List ℕ) → AreKnown (key.And keys) (Some message) facts → b ≡ list_all (λ met. met (candidate_of c message)) (map meets some)

  pub met-not-all : (keys : List Key) (i : ℕ) (d : Key) (b : Bool) → i < length keys → d ≡ get_or keys i d → b ≡ false → Answers facts c d b → AnswersAll keys keys b
  met-not-all keys i d b less here unmet is message known =
      let a = candidate_of c message in
      let first = ap (λ (k : Key). meets k a) (sym here) ∙ sym (is message (subst (λ k. AreKnown k (Some message) facts) (sym here) (known-each (Some message) facts keys i d less known))) ∙ unmet in
      unmet ∙ sym (list_all-map (λ met. met a) meets keys ∙ list_all_at (λ k. meets k a) keys i d less first)

  pub met-more : (keys : List Key) (i : ℕ) (d : Key) (b : Bool) → i < length keys → d ≡ get_or keys i d → b ≡ true → Answers facts c d b
      → AnswersAll keys (take i keys) true → AnswersAll keys (take (i + 1) keys) true
  met-more keys i d b less here met is before message known =
      let a = candidate_of c message in
      let last = ap (λ (k : Key). meets k a) (sym here) ∙ sym (is message (subst (λ k. AreKnown k (Some message) facts) (sym here) (known-each (Some message) facts keys i d less known))) ∙ met in
      sym (list_all-map (λ met. met a) meets (take (i + 1) keys) ∙ list_all_more (λ k. meets k a) keys i d less ∙ ap (λ b. list_all (λ k. meets k a) (take i keys) && b) last ∙ ap (λ b. b && true) (sym (before message known ∙ list_all-map (λ met. met a) meets (take i keys))))

  pub if_ok-same : (x y : Bool) → x ≡ y → (r : Result Bool NoMemory) → IfOk r (λ b. b ≡ x) → IfOk r (λ b. b ≡ y)
  if_ok-same x y same (Ok b) is = is ∙ same
  if_ok-same x y same (Err e) is = tt

  pub met-And : (keys : List Key) (r : Result Bool NoMemory)
      → ((message : List ℕ) → AreKnown (key.And keys) (Some message) facts → IfOk r (λ met. met ≡ list_all (λ met. met (candidate_of c message)) (map meets keys)))
      → (message : List ℕ) → AreKnown (key.And keys) (Some message) facts → IfOk r (λ met. met ≡ meets (key.And keys) (candidate_of c message))
  met-And keys r is message known = if_ok-same (list_all (λ met. met (candidate_of c message)) (map meets keys)) (meets (key.And keys) (candidate_of c message)) (sym (meets-And (candidate_of c message) keys)) r (is message known)

  -- ---- keys that read the message

  described : (k : Key) (message : List ℕ) (o : Option MailFacts) (f : MailFacts) → o ≡ Some f → AreFacts k (Some message) o → Describes k message f
  described k message o f is are = subst (λ o. AreFacts k (Some message) o) is are

  not_described : (k : Key) (message : List ℕ) (o : Option MailFacts) → o ≡ None → AreFacts k (Some message) o → ⊥
  not_described k message o is are = subst (λ o. AreFacts k (Some message) o) is are

  pub met-Larger : (n : ℕ) (f : MailFacts) → facts ≡ Some f → Answers facts c (key.Larger n) (nat_lt n f.size)
  met-Larger n f is message known =
      let about = described (key.Larger n) message facts f is (known (needs_mail-Larger n)) in
      ap (nat_lt n) about.size ∙ sym (meets-Larger (candidate_of c message) n)

  -- without facts nothing is asked
  pub met-none : (k : Key) (b : Bool) → needs_mail k ≡ true → facts ≡ None → Answers facts c k b
  met-none k b needed is message known = absurd (not_described k message facts is (known needed))

  field_known : (name text : List ℕ) (f : MailFacts) → facts ≡ Some f → (message : List ℕ) → AreKnown (key.Header name text) (Some message) facts → known_field f.fields name ≡ Some (field_of message name)
  field_known name text f is message known =
      let about = described (key.Header name text) message facts f is (known (needs_mail-Header name text)) in
      about.fields name (asks-Header name text name ∙ (bytes_eq-Decides name name).1 refl)

  -- the field has this value
  pub met-Header : (name text value : List ℕ) (f : MailFacts) (o : Option (List ℕ)) (r : Result Bool NoMemory) → facts ≡ Some f
      → ((v : Option (List ℕ)) → known_field f.fields name ≡ Some v → o ≡ v) → o ≡ Some value
      → IfOk r (λ found. found ≡ contains_text (str_to_ascii_lowercase value) (str_to_ascii_lowercase text))
      → (message : List ℕ) → AreKnown (key.Header name text) (Some message) facts → IfOk r (λ met. met ≡ meets (key.Header name text) (candidate_of c message))
  met-Header name text value f o r is finds some found message known =
      let field : Some value ≡ field_of message name = sym some ∙ finds (field_of message name) (field_known name text f is message known) in
      if_ok-same (value_contains (Some value) text) (meets (key.Header name text) (candidate_of c message)) (ap (λ v. value_contains v text) field ∙ sym (meets-Header (candidate_of c message) name text)) r found

  -- the message has no such field
  pub met-no-Header : (name text : List ℕ) (f : MailFacts) (o : Option (List ℕ)) → facts ≡ Some f
      → ((v : Option (List ℕ)) → known_field f.fields name ≡ Some v → o ≡ v) → o ≡ None → Answers facts c (key.Header name text) false
  met-no-Header name text f o is finds none message known =
      let field : None ≡ field_of message name = sym none ∙ finds (field_of message name) (field_known name text f is message known) in
      ap (λ v. value_contains v text) field ∙ sym (meets-Header (candidate_of c message) name text)
