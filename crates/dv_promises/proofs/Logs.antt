-- The log with a pending entry as its last.
use Rattle.std.proofs.Common.{◌≡◌, ℕ, ◌≤◌, [], ◌∷◌, ◌++◌, length, Some, refl, sym, ◌∙◌, ap, arith, length-append}
use Rattle.std.proofs.lemmas.List.{append-nil, append_assoc}
use Rattle.dv_model.specs.declared.types.Mailbox.{Mailbox}
use Rattle.dv_model.specs.Journals.{Log, IsSound, at}
use Rattle.dv_model.specs.Transcripts.{with_written}
use Rattle.dv_validity.proofs.Logs.{Extends, written_extends}
use Rattle.dv_interleavings.specs.Promises.{GoesOn}
use Rattle.dv_interleavings.specs.Worlds.{Pending, with_entry}

-- the log with one entry more, and its message where it appends one
abbrev pub with_last : Log → Pending → Mailbox → Log
with_last log p m = with_written log p.author p.command p.received p.group m

pub with_entry_is : (log : Log) (p : Pending) (m : Mailbox) → at log (length log.entries) ≡ Some m → with_entry log p ≡ with_last log p m
with_entry_is log p m is = rw is refl

pub last_extends : (log : Log) (p : Pending) (m : Mailbox) → IsSound log → at log (length log.entries) ≡ Some m → Extends log (with_last log p m)
last_extends log p m sound is = written_extends log sound p.author p.command p.received p.group m is

-- ---- it goes on

pub same_log : (log : Log) → GoesOn log log
same_log log = record {
  start = (refl, refl);
  files = (refl, refl);
  more = [];
  entries = sym (append-nil log.entries);
  mailboxes = λ k le. refl;
  messages = λ k uid m le is low. (refl, refl);
}

pub goes_on_further : (log between later : Log) → GoesOn log between → GoesOn between later → GoesOn log later
goes_on_further log between later first second =
    let up : (k : ℕ) → k ≤ length log.entries → k ≤ length between.entries = λ k le. omega (arith, le, ap length first.entries, length-append log.entries first.more) in
    record {
      start = (second.start.0 ∙ first.start.0, second.start.1 ∙ first.start.1);
      files = (second.files.0 ∙ first.files.0, second.files.1 ∙ first.files.1);
      more = first.more ++ second.more;
      entries = second.entries ∙ ap (λ es. es ++ second.more) first.entries ∙ append_assoc log.entries first.more second.more;
      mailboxes = λ k le. second.mailboxes k (up k le) ∙ first.mailboxes k le;
      messages = λ k uid m le is low.
          let one = first.messages k uid m le is low in
          let other = second.messages k uid m (up k le) (first.mailboxes k le ∙ is) low in
          (other.0 ∙ one.0, other.1 ∙ one.1);
    }

pub last_goes_on : (log : Log) (p : Pending) (m : Mailbox) → IsSound log → at log (length log.entries) ≡ Some m → GoesOn log (with_last log p m)
last_goes_on log p m sound is =
    let on : Extends log (with_last log p m) = last_extends log p m sound is in
    record {
      start = (refl, refl);
      files = (refl, refl);
      more = record { author = p.author; group = p.group } ∷ [];
      entries = refl;
      mailboxes = on.same_at;
      messages = on.messages;
    }
