-- Logs by notes.
use Rattle.std.proofs.Common.{◌≡◌, ℕ, zero, suc, ◌≤◌, Bool, true, false, cond, nat_eq, List, [], ◌∷◌, ◌++◌, Option, Some, None, refl, sym, ap, subst, ◌∙◌, append_assoc, arith, length, take, fold}
use Rattle.std.specs.Prelude.{All, IsSome}
use Rattle.std.proofs.lemmas.Bool.Decides.{nat_tests}
use Rattle.std.proofs.lemmas.List.{map-append}
use Rattle.dv_model.specs.declared.types.Command.{Command}
use Rattle.dv_model.specs.declared.types.Command.TheVariants as command
use Rattle.dv_model.specs.declared.types.Entry.{Entry}
use Rattle.dv_model.specs.declared.types.Mailbox.{Mailbox}
use Rattle.dv_model.specs.declared.types.Mark.{Mark}
use Rattle.dv_model.specs.Effects.{applied}
use Rattle.dv_model.specs.Journals.{IsEntry, IsGuid, Log, Mail, Held, at, mark_behind}
use Rattle.dv_model.specs.Transcripts.{with_message}
use Rattle.dv_model.proofs.Transcripts.{at_all}
use Rattle.dv_validity.proofs.Agreeing.{AgreeBelow}
use Rattle.dv_validity.proofs.Logs.{Extends, extends, records_of}
use Rattle.dv_validity.proofs.Numbers.{records_keep}
use Rattle.dv_front.specs.declared.notes.Note.{Note}
use Rattle.dv_front.specs.declared.notes.Post.{Post}
use Rattle.dv_front.specs.Notes.{AreNotes, IsPlaced, entries_of}
use Rattle.dv_front.proofs.NoteLemmas.{are_entries}
use Rattle.dv_feed.specs.Feeds.{mark_from}
use Rattle.dv_notes.specs.Laws.{LogsAreSound, LogsExtend, LogsGoOn, MailboxesByNotes, MarksByNotes}
use Rattle.dv_notes.specs.Logs.{AreNotesOf, guid_by, log_of, mail_by, mailbox_behind, named, note_of, post_of, posted}
use Rattle.dv_notes.proofs.Notes.{behind, fronts_apply, fronts_are_good}

-- ---- messages

pub mail_append : (mail : ℕ → Mail) (xs ys : List Note) → mail_by mail (xs ++ ys) ≡ mail_by (mail_by mail xs) ys
mail_append mail [] ys = refl
mail_append mail (x ∷ xs) ys = mail_append (posted x.post mail) xs ys

pub guid_append : (guid : ℕ → List ℕ) (xs ys : List Note) → guid_by guid (xs ++ ys) ≡ guid_by (guid_by guid xs) ys
guid_append guid [] ys = refl
guid_append guid (x ∷ xs) ys = guid_append (named x.post guid) xs ys

mail_is : (log : Log) (c : Command) (received : ℕ) (m : Mailbox) → posted (post_of log c received m) log.mail ≡ (with_message log c received m).mail
mail_is log (command.Append flags keywords message) received m = refl
mail_is log c received m = refl

guid_is : (log : Log) (c : Command) (received : ℕ) (m : Mailbox) → named (post_of log c received m) log.guid ≡ (with_message log c received m).guid
guid_is log (command.Append flags keywords message) received m = refl
guid_is log c received m = refl

-- the entries of a log and more notes
entries_more : (start : Log) (notes more : List Note) → (log_of start (notes ++ more)).entries ≡ (log_of start notes).entries ++ entries_of more
entries_more start notes more =
    ap (λ (es : List Entry). start.entries ++ es) (map-append (λ (x : Note). x.entry) notes more) ∙ sym (append_assoc start.entries (entries_of notes) (entries_of more))

-- the log with more notes
longer : (start : Log) (notes more : List Note)
    → log_of start (notes ++ more) ≡ record (log_of start notes) { entries = (log_of start notes).entries ++ entries_of more; mail = mail_by (log_of start notes).mail more; guid = guid_by (log_of start notes).guid more }
longer start notes more =
    let entries = entries_more start notes more in
    let mail = mail_append start.mail notes more in
    let guid = guid_append start.guid notes more in
    (λ i. record start { entries = entries i; mail = mail i; guid = guid i })

pub logs_go_on : LogsGoOn
logs_go_on start notes author c received g m =
    let log : Log = log_of start notes in
    let n : Note = note_of log author c received g m in
    let mail : mail_by log.mail (n ∷ []) ≡ (with_message log c received m).mail = mail_is log c received m in
    let guid : guid_by log.guid (n ∷ []) ≡ (with_message log c received m).guid = guid_is log c received m in
    longer start notes (n ∷ []) ∙ (λ i. record log { entries = log.entries ++ n.entry ∷ []; mail = mail i; guid = guid i })

-- ---- mailboxes and marks

pub fresh_entries : (start : Log) (notes : List Note) → start.entries ≡ [] → (log_of start notes).entries ≡ entries_of notes
fresh_entries start notes fresh = ap (λ (es : List Entry). es ++ entries_of notes) fresh

take_entries : (k : ℕ) (notes : List Note) → take k (entries_of notes) ≡ entries_of (take k notes)
take_entries zero notes = refl
take_entries (suc k) [] = refl
take_entries (suc k) (n ∷ notes) = ap (λ (es : List Entry). n.entry ∷ es) (take_entries k notes)

front_entries : (start : Log) (notes : List Note) (k : ℕ) → start.entries ≡ [] → take k (log_of start notes).entries ≡ entries_of (take k notes)
front_entries start notes k fresh = ap (take k) (fresh_entries start notes fresh) ∙ take_entries k notes

pub mailboxes_by_notes : MailboxesByNotes
mailboxes_by_notes start notes k fresh = ap (λ (es : List Entry). applied start.start (records_of es)) (front_entries start notes k fresh)

pub marks_by_notes : MarksByNotes
marks_by_notes start notes k fresh rotates =
    ap (λ (es : List Entry). fold (λ mark e. mark_behind start.rotates mark e.group) start.start_mark es) (front_entries start notes k fresh)
    ∙ ap (λ (b : Bool). fold (λ mark e. mark_behind b mark e.group) start.start_mark (entries_of (take k notes))) rotates

pub mailbox_at_end : (start : Log) (notes : List Note) → start.entries ≡ [] → at (log_of start notes) (length (log_of start notes).entries) ≡ mailbox_behind start.start notes
mailbox_at_end start notes fresh = at_all (log_of start notes) ∙ ap (λ (es : List Entry). applied start.start (records_of es)) (fresh_entries start notes fresh)

-- ---- soundness

named_guids : (p : Option Post) (low high : ℕ) (guid : ℕ → List ℕ) → IsPlaced low high p → ((uid : ℕ) → IsGuid (guid uid)) → (uid : ℕ) → IsGuid (named p guid uid)
named_guids None low high guid placed guids uid = guids uid
named_guids (Some p) low high guid placed guids uid = by_test (nat_eq uid p.uid)
  where
    by_test : (b : Bool) → IsGuid (cond b p.guid (guid uid))
    by_test true = placed.2
    by_test false = guids uid

guids_by : (m : Mailbox) (mark : Mark) (notes : List Note) (guid : ℕ → List ℕ) → AreNotes m mark notes → ((uid : ℕ) → IsGuid (guid uid)) → (uid : ℕ) → IsGuid (guid_by guid notes uid)
guids_by m mark [] guid good guids = guids
guids_by m mark (n ∷ notes) guid good guids = guids_by good.2.0 _ notes (named n.post guid) good.2.3 (named_guids n.post m.next_uid good.2.0.next_uid guid good.2.2 guids)

pub logs_are_sound : LogsAreSound
logs_are_sound start notes are = record {
  start = are.sound.start;
  start_mark = are.sound.start_mark;
  indexid = are.sound.indexid;
  guids = guids_by start.start start.start_mark notes start.guid are.good are.sound.guids;
  entries = subst (All IsEntry) (sym (fresh_entries start notes are.fresh)) (are_entries start.start start.start_mark notes are.good);
  mailboxes = λ k le. subst IsSome (sym (mailboxes_by_notes start notes k are.fresh)) (fronts_apply start.start start.start_mark notes k are.good);
}

-- ---- more notes

another : {X : Type 0} (n uid : ℕ) (x : X) (f : ℕ → X) → n ≤ uid → AgreeBelow n f (λ u. cond (nat_eq u uid) x (f u))
another n uid x f le u low = by_test (nat_eq u uid) refl
  where
    by_test : (b : Bool) → nat_eq u uid ≡ b → f u ≡ cond b x (f u)
    by_test true is = let e : u ≡ uid = grind (arith, nat_tests) in absurd (omega arith)
    by_test false is = refl

posted_agrees : (p : Option Post) (low high n : ℕ) (mail : ℕ → Mail) → n ≤ low → IsPlaced low high p → AgreeBelow n mail (posted p mail)
posted_agrees None low high n mail le placed = λ uid lt. refl
posted_agrees (Some p) low high n mail le placed = another n p.uid (Held p.message) mail (omega (arith, placed.0))

named_agrees : (p : Option Post) (low high n : ℕ) (guid : ℕ → List ℕ) → n ≤ low → IsPlaced low high p → AgreeBelow n guid (named p guid)
named_agrees None low high n guid le placed = λ uid lt. refl
named_agrees (Some p) low high n guid le placed = another n p.uid p.guid guid (omega (arith, placed.0))

-- the messages and GUIDs of UIDs below the first UIDNEXT stay
mail_agrees : (m : Mailbox) (mark : Mark) (notes : List Note) (n : ℕ) (mail : ℕ → Mail) → n ≤ m.next_uid → AreNotes m mark notes → AgreeBelow n mail (mail_by mail notes)
mail_agrees m mark [] n mail le good = λ uid lt. refl
mail_agrees m mark (x ∷ notes) n mail le good =
    let up = (records_keep m good.2.0 x.entry.group.records good.2.1).next_uid in
    let first = posted_agrees x.post m.next_uid good.2.0.next_uid n mail le good.2.2 in
    let rest = mail_agrees good.2.0 _ notes n (posted x.post mail) (omega arith) good.2.3 in
    (λ uid lt. first uid lt ∙ rest uid lt)

guid_agrees : (m : Mailbox) (mark : Mark) (notes : List Note) (n : ℕ) (guid : ℕ → List ℕ) → n ≤ m.next_uid → AreNotes m mark notes → AgreeBelow n guid (guid_by guid notes)
guid_agrees m mark [] n guid le good = λ uid lt. refl
guid_agrees m mark (x ∷ notes) n guid le good =
    let up = (records_keep m good.2.0 x.entry.group.records good.2.1).next_uid in
    let first = named_agrees x.post m.next_uid good.2.0.next_uid n guid le good.2.2 in
    let rest = guid_agrees good.2.0 _ notes n (named x.post guid) (omega arith) good.2.3 in
    (λ uid lt. first uid lt ∙ rest uid lt)

pub logs_extend : LogsExtend
logs_extend start notes more are =
    let log : Log = log_of start notes in
    let first : AreNotesOf start notes = record { sound = are.sound; fresh = are.fresh; good = fronts_are_good start.start start.start_mark notes more are.good } in
    let rest = behind start.start start.start_mark notes more are.good in
    let last = mailbox_at_end start notes are.fresh ∙ rest.is in
    let mail = mail_agrees rest.last (mark_from start.start_mark (entries_of notes)) more rest.last.next_uid log.mail (omega arith) rest.good in
    let guid = guid_agrees rest.last (mark_from start.start_mark (entries_of notes)) more rest.last.next_uid log.guid (omega arith) rest.good in
    subst (Extends log) (sym (longer start notes more))
    (extends log (logs_are_sound start notes first) rest.last last (mail_by log.mail more) (guid_by log.guid more) mail guid (entries_of more))
