-- A log whose prefixes are valid mailboxes, and one that extends it.
use Rattle.std.proofs.Common.{◌≡◌, ◌⊎◌, inl, inr, ℕ, zero, suc, ◌+◌, ◌-◌, ◌<◌, ◌≤◌, Bool, true, false, cond, List, [], ◌∷◌, ◌++◌, length, nat_eq, Option, Some, None, refl, sym, ◌∙◌, ap, subst, arith, length-append}
use Rattle.std.specs.Prelude.{All, IsSome, drop, flat_map, option_and_then, slice_get, take}
use Rattle.std.proofs.lemmas.Bool.{cases_lt, eq-eqb}
use Rattle.std.proofs.lemmas.Bool.Decides.{nat_tests}
use Rattle.std.proofs.lemmas.List.{append-nil, length_push}
use Rattle.std.proofs.lemmas.List.Concat.{flat_map-append}
use Rattle.std.proofs.lemmas.List.Elements.{All-append, All-drop, All-head, All-nil, All-push, All-tail, All-take, All-weaker}
use Rattle.std.proofs.lemmas.Option.{slice_get_within}
use Rattle.dv_model.specs.declared.types.Command.{Command}
use Rattle.dv_model.specs.declared.types.Command.TheVariants as command
use Rattle.dv_model.specs.declared.types.Entry.{Entry}
use Rattle.dv_model.specs.declared.types.Group.{Group}
use Rattle.dv_model.specs.declared.types.Mailbox.{Mailbox}
use Rattle.dv_model.specs.declared.types.Mark.{Mark}
use Rattle.dv_model.specs.declared.types.Record.{Record}
use Rattle.dv_model.specs.Effects.{applied}
use Rattle.dv_model.specs.Journals.{HasResets, IsEntry, IsGuid, IsSound, Log, Mail, Held, at, mark_of, new_guid}
use Rattle.dv_model.specs.Mailboxes.{IsValid}
use Rattle.dv_model.specs.Sessions.{State, answer, group_of, refusal_of}
use Rattle.dv_model.specs.Spelling.{IsRecord}
use Rattle.dv_model.specs.Transcripts.{HasWritten, KeepsMessage, refused_at, with_message, with_written}
use Rattle.dv_model.specs.Views.{View}
use Rattle.dv_model.proofs.Speaking.{stays_there}
use Rattle.dv_model.proofs.Transcripts.{applied_append, at_all, at_grown, mark_grown}
use Rattle.dv_validity.proofs.Numbers.{records_keep}
use Rattle.dv_validity.proofs.Records.{all_in_range_valid}
use Rattle.dv_validity.specs.Laws.{IsInRange}
use Rattle.dv_validity.specs.Entries.{AreInRange}
use Rattle.dv_validity.proofs.Agreeing.{AgreeBelow, answer_agree, group_agree, refusal_agree}
use Rattle.dv_validity.proofs.Entries.{entry_in_range}
use Rattle.dv_validity.proofs.Groups.{append_raises}
use Rattle.dv_validity.proofs.Resets.{records_resets}
use Rattle.dv_validity.proofs.Texts.{new_guid_is}

-- ---- lists

take_none : {X : Type 0} (n : ℕ) → ◌≡◌ {A = List X} [] (take n [])
take_none zero = refl
take_none (suc n) = refl

take_parts : {X : Type 0} (j k : ℕ) (xs : List X) → j ≤ k → take k xs ≡ take j xs ++ take (k - j) (drop j xs)
take_parts zero k xs le = let e : k - 0 ≡ k = omega arith in ap (λ n. take n xs) (sym e)
take_parts (suc j) zero xs le = absurd (omega (arith, le))
take_parts (suc j) (suc k) [] le = take_none (suc k - suc j)
take_parts (suc j) (suc k) (x ∷ xs) le =
    let e : suc k - suc j ≡ k - j = omega arith in
    ap (λ ys. x ∷ ys) (take_parts j k xs (omega (arith, le)) ∙ ap (λ n. take j xs ++ take n (drop j xs)) (sym e))

take_one : {X : Type 0} (k : ℕ) (xs : List X) (x : X) → slice_get xs k ≡ Some x → take (suc k) xs ≡ take k xs ++ x ∷ []
take_one zero [] x is = absurd cc
take_one (suc k) [] x is = absurd cc
take_one zero (y ∷ xs) x is = cc
take_one (suc k) (y ∷ xs) x is = ap (λ ys. y ∷ ys) (take_one k xs x is)

pub at_seam : {X : Type 0} (xs : List X) (x : X) → slice_get (xs ++ x ∷ []) (length xs) ≡ Some x
at_seam [] x = refl
at_seam (y ∷ xs) x = at_seam xs x

-- ---- mailboxes of a log

abbrev pub records_of : List Entry → List Record
records_of es = flat_map (λ e. e.group.records) es

abbrev pub InRange : List Record → Type 0
InRange rs = All (λ r. IsInRange r.body) rs

records_in_range : (es : List Entry) → All (λ e. AreInRange e.group) es → InRange (records_of es)
records_in_range [] all = All-nil (λ (r : Record). IsInRange r.body)
records_in_range (e ∷ es) all =
    All-append (λ (r : Record). IsInRange r.body) e.group.records (records_of es) (All-head (λ (e : Entry). AreInRange e.group) e es all)
    (records_in_range es (All-tail (λ (e : Entry). AreInRange e.group) e es all))

are_records : (es : List Entry) → All IsEntry es → All IsRecord (records_of es)
are_records [] all = All-nil IsRecord
are_records (e ∷ es) all = All-append IsRecord e.group.records (records_of es) (All-head IsEntry e es all).records (are_records es (All-tail IsEntry e es all))

-- records lead from one to the other
pub record Leads (m n : Mailbox) : Type 0 where
  pub records : List Record
  pub range : InRange records
  pub is : applied m records ≡ Some n

some_value : {X Y : Type 0} (f : X → Option Y) (o : Option X) (x : X) (y : Option Y) → o ≡ Some x → option_and_then f o ≡ y → f x ≡ y
some_value f o x y is e = ap (option_and_then f) (sym is) ∙ e

module _ (log : Log) (sound : IsSound log) where
  in_range : All (λ e. AreInRange e.group) log.entries
  in_range = All-weaker IsEntry (λ (e : Entry). AreInRange e.group) entry_in_range log.entries sound.entries

  pub valid_at : (k : ℕ) (m : Mailbox) → at log k ≡ Some m → IsValid m
  valid_at k m is =
      all_in_range_valid log.start m (records_of (take k log.entries)) sound.start.0
      (records_in_range (take k log.entries) (All-take (λ (e : Entry). AreInRange e.group) k log.entries in_range)) is

  pub resets_at : (k : ℕ) (m : Mailbox) → at log k ≡ Some m → HasResets m
  resets_at k m is = records_resets log.start m (records_of (take k log.entries)) sound.start.1 (are_records (take k log.entries) (All-take IsEntry k log.entries sound.entries)) is

  pub leads_at : (j k : ℕ) (m n : Mailbox) → j ≤ k → at log j ≡ Some m → at log k ≡ Some n → Leads m n
  leads_at j k m n le first last =
      let between : List Entry = take (k - j) (drop j log.entries) in
      record {
        records = records_of between;
        range = records_in_range between
            (All-take (λ (e : Entry). AreInRange e.group) (k - j) (drop j log.entries) (All-drop (λ (e : Entry). AreInRange e.group) j log.entries in_range));
        is = some_value (λ x. applied x (records_of between)) (applied log.start (records_of (take j log.entries))) m (Some n) first
            (sym (applied_append (records_of (take j log.entries)) (records_of between) log.start)
            ∙ ap (applied log.start) (sym (flat_map-append (λ (e : Entry). e.group.records) (take j log.entries) between))
            ∙ ap (λ (es : List Entry). applied log.start (records_of es)) (sym (take_parts j k log.entries le))
            ∙ last);
      }

  pub next_uid_at : (j k : ℕ) (m n : Mailbox) → j ≤ k → at log j ≡ Some m → at log k ≡ Some n → m.next_uid ≤ n.next_uid
  next_uid_at j k m n le first last = let leads = leads_at j k m n le first last in (records_keep m n leads.records leads.is).next_uid

  -- an entry leads to the mailbox behind it
  pub entry_leads : (k : ℕ) (m n : Mailbox) (e : Entry) → at log k ≡ Some m → slice_get log.entries k ≡ Some e → at log (k + 1) ≡ Some n → applied m e.group.records ≡ Some n
  entry_leads k m n e first there last =
      let next : k + 1 ≡ suc k = omega arith in
      some_value (λ x. applied x e.group.records) (applied log.start (records_of (take k log.entries))) m (Some n) first
      (sym (applied_append (records_of (take k log.entries)) e.group.records log.start)
      ∙ ap (λ (rs : List Record). applied log.start (records_of (take k log.entries) ++ rs)) (sym (append-nil e.group.records))
      ∙ ap (applied log.start) (sym (flat_map-append (λ (e : Entry). e.group.records) (take k log.entries) (e ∷ [])))
      ∙ ap (λ (es : List Entry). applied log.start (records_of es)) (sym (take_one k log.entries e there))
      ∙ ap (at log) (sym next)
      ∙ last)

  -- there is a mailbox
  pub some_at : (k : ℕ) → k ≤ length log.entries → (m : Mailbox) × (at log k ≡ Some m)
  some_at k le = value (at log k) refl (sound.mailboxes k le)
    where
      value : (o : Option Mailbox) → at log k ≡ o → IsSome o → (m : Mailbox) × (at log k ≡ Some m)
      value None is some = absurd cc
      value (Some m) is some = (m, is)

-- ---- a log that goes on

-- its first entries, mailboxes, messages, marks, groups, refusals and answers are as before
pub record Extends (log more : Log) : Type 0 where
  pub longer : length log.entries ≤ length more.entries
  pub same_at : (k : ℕ) → k ≤ length log.entries → at more k ≡ at log k
  pub messages : (k uid : ℕ) (m : Mailbox) → k ≤ length log.entries → at log k ≡ Some m → uid < m.next_uid → (more.mail uid ≡ log.mail uid) × (more.guid uid ≡ log.guid uid)
  pub same_mark : (k : ℕ) → k ≤ length log.entries → mark_of more k ≡ mark_of log k
  pub entry : (k : ℕ) (e : Entry) → slice_get log.entries k ≡ Some e → slice_get more.entries k ≡ Some e
  pub group : (k : ℕ) (m : Mailbox) (c : Command) (v : View) → k ≤ length log.entries → at log k ≡ Some m → group_of c v m log.guid ≡ group_of c v m more.guid
  pub refusal : (k : ℕ) (m : Mailbox) (x : State) (c : Command) → k ≤ length log.entries → at log k ≡ Some m → refused_at more k x c m ≡ refused_at log k x c m
  pub same_answer : (k : ℕ) (m : Mailbox) (x : State) (c : Command) (met : Mailbox) (mark : Mark) → k ≤ length log.entries → at log k ≡ Some m → answer log.mail x c met k m mark ≡ answer more.mail x c met k m mark
  pub message : (s k q : ℕ) (m : Mailbox) (c : Command) (v : View) → at log k ≡ Some m → HasWritten log s k q v c m → KeepsMessage more c m

-- the same start, more entries, and messages and GUIDs that agree where UIDs were given out
module _ (log : Log) (sound : IsSound log) (last : Mailbox) (is_last : at log (length log.entries) ≡ Some last) (mail : ℕ → Mail) (guid : ℕ → List ℕ)
    (same_mail : AgreeBelow last.next_uid log.mail mail) (same_guid : AgreeBelow last.next_uid log.guid guid) (es : List Entry) where
  below : {X : Type 0} (f g : ℕ → X) (k : ℕ) (m : Mailbox) → k ≤ length log.entries → at log k ≡ Some m → AgreeBelow last.next_uid f g → AgreeBelow m.next_uid f g
  below f g k m le is agree uid low = let up = next_uid_at log sound k (length log.entries) m last le is is_last in agree uid (omega arith)

  keeps : (s k q : ℕ) (m : Mailbox) (c : Command) (v : View) → at log k ≡ Some m → HasWritten log s k q v c m → KeepsMessage (record log { entries = log.entries ++ es; mail = mail; guid = guid }) c m
  keeps s k q m (command.Append flags keywords message) v is has =
      let within = slice_get_within log.entries k _ has.entry in
      let behind = some_at log sound (k + 1) (omega (arith, within)) in
      let up = append_raises flags keywords message v m behind.0 log.guid (entry_leads log sound k m behind.0 _ is has.entry behind.1) in
      let on = next_uid_at log sound (k + 1) (length log.entries) behind.0 last (omega (arith, within)) behind.1 is_last in
      let low : m.next_uid < last.next_uid = omega arith in
      (sym (same_mail m.next_uid low) ∙ has.message.0, (has.message.1.0, sym (same_guid m.next_uid low) ∙ has.message.1.1))
  keeps s k q m c v is has = tt

  pub extends : Extends log (record log { entries = log.entries ++ es; mail = mail; guid = guid })
  extends = record {
    longer = omega (arith, length-append log.entries es);
    same_at = at_grown log es;
    messages = λ k uid m le is low. (sym (below log.mail mail k m le is same_mail uid low), sym (below log.guid guid k m le is same_guid uid low));
    same_mark = mark_grown log es;
    entry = λ k e there. stays_there log.entries es k e there;
    group = λ k m c v le is. group_agree m (valid_at log sound k m is) log.guid guid (below log.guid guid k m le is same_guid) c v;
    refusal = λ k m x c le is.
        ap (λ (mark : Mark). refusal_of x c m log.rotates mark guid) (mark_grown log es k le)
        ∙ sym (refusal_agree m (valid_at log sound k m is) log.guid guid (below log.guid guid k m le is same_guid) x c log.rotates (mark_of log k));
    same_answer = λ k m x c met mark le is. answer_agree m (valid_at log sound k m is) log.mail mail (below log.mail mail k m le is same_mail) x c met k mark;
    message = keeps;
  }

-- ---- a group as one entry more

another : {X : Type 0} (n : ℕ) (x : X) (f : ℕ → X) → AgreeBelow n f (λ uid. cond (nat_eq uid n) x (f uid))
another n x f uid low = by_test (nat_eq uid n) refl
  where
    by_test : (b : Bool) → nat_eq uid n ≡ b → f uid ≡ cond b x (f uid)
    by_test true is = let e : uid ≡ n = grind (arith, nat_tests) in absurd (omega arith)
    by_test false is = refl

mail_agrees : (log : Log) (c : Command) (received : ℕ) (m : Mailbox) → AgreeBelow m.next_uid log.mail (with_message log c received m).mail
mail_agrees log (command.Append flags keywords message) received m = another m.next_uid (Held message) log.mail
mail_agrees log c received m = λ uid low. refl

guid_agrees : (log : Log) (c : Command) (received : ℕ) (m : Mailbox) → AgreeBelow m.next_uid log.guid (with_message log c received m).guid
guid_agrees log (command.Append flags keywords message) received m = another m.next_uid (new_guid log.indexid m.uid_validity m.next_uid received) log.guid
guid_agrees log c received m = λ uid low. refl

pub guids_with : (log : Log) (c : Command) (received : ℕ) (m : Mailbox) → ((uid : ℕ) → IsGuid (log.guid uid)) → (uid : ℕ) → IsGuid ((with_message log c received m).guid uid)
guids_with log (command.Append flags keywords message) received m guids uid = by_test (nat_eq uid m.next_uid)
  where
    by_test : (b : Bool) → IsGuid (cond b (new_guid log.indexid m.uid_validity m.next_uid received) (log.guid uid))
    by_test true = new_guid_is log.indexid m.uid_validity m.next_uid received
    by_test false = guids uid
guids_with log c received m guids uid = guids uid

-- a group that applies to the mailbox at the end
module _ (log : Log) (sound : IsSound log) (author : ℕ) (c : Command) (received : ℕ) (g : Group) (m : Mailbox) (is_last : at log (length log.entries) ≡ Some m) where
  abbrev longer : Log
  longer = with_written log author c received g m

  pub written_extends : Extends log longer
  written_extends = extends log sound m is_last longer.mail longer.guid (mail_agrees log c received m) (guid_agrees log c received m) (record { author = author; group = g } ∷ [])

  -- its message is there
  pub written_message : KeepsMessage longer c m
  written_message = by_command c
    where
      by_command : (d : Command) → KeepsMessage (with_written log author d received g m) d m
      by_command (command.Append flags keywords message) = (rw (eq-eqb m.next_uid m.next_uid refl) refl, (received, rw (eq-eqb m.next_uid m.next_uid refl) refl))
      by_command d = tt

  -- the group too is that of the longer log
  pub written_group : (v : View) → group_of c v m log.guid ≡ group_of c v m longer.guid
  written_group v = by_command c
    where
      by_command : (d : Command) → group_of d v m log.guid ≡ group_of d v m (with_message log d received m).guid
      by_command (command.Append flags keywords message) = refl
      by_command d = refl

  pub written_entry : slice_get longer.entries (length log.entries) ≡ Some (record { author = author; group = g })
  written_entry = at_seam log.entries (record { author = author; group = g })

  pub written_length : length longer.entries ≡ length log.entries + 1
  written_length = length_push log.entries (record { author = author; group = g })

  pub written_at : at longer (length longer.entries) ≡ applied m g.records
  written_at =
      at_all longer
      ∙ ap (applied log.start) (flat_map-append (λ (e : Entry). e.group.records) log.entries (record { author = author; group = g } ∷ []) ∙ ap (λ (rs : List Record). records_of log.entries ++ rs) (append-nil g.records))
      ∙ applied_append (records_of log.entries) g.records log.start
      ∙ ap (option_and_then (λ (n : Mailbox). applied n g.records)) (sym (at_all log) ∙ is_last)

  pub written_sound : IsEntry (record { author = author; group = g }) → IsSome (applied m g.records) → IsSound longer
  written_sound is some = record {
    start = sound.start;
    start_mark = sound.start_mark;
    indexid = sound.indexid;
    guids = guids_with log c received m sound.guids;
    entries = All-push IsEntry log.entries (record { author = author; group = g }) sound.entries is;
    mailboxes = λ k le. by_place k le (cases_lt (length log.entries) k);
  }
    where
      by_place : (k : ℕ) → k ≤ length longer.entries → (length log.entries < k) ⊎ (k ≤ length log.entries) → IsSome (at longer k)
      by_place k le (inl past) =
          let e : length longer.entries ≡ k = omega (arith, written_length) in
          subst (λ n. IsSome (at longer n)) e (subst IsSome (sym written_at) some)
      by_place k le (inr within) = subst IsSome (sym (written_extends.same_at k within)) (sound.mailboxes k within)
