-- An answer of the rules has no refusal line.
use Rattle.std.proofs.Common.{◌≡◌, ℕ, Bool, true, false, cond, not, List, [], ◌∷◌, ◌++◌, length, Option, Some, None, refl, sym, ◌∙◌, ap}
use Rattle.std.specs.Prelude.{flat_map, map, reverse}
use Rattle.std.specs.List.{list_any, list_all}
use Rattle.std.proofs.lemmas.Bool.{or_from}
use Rattle.std.proofs.lemmas.List.Folds.{list_any-append}
use Rattle.dv_model.specs.declared.types.Command.{Command}
use Rattle.dv_model.specs.declared.types.Command.TheVariants as command
use Rattle.dv_model.specs.declared.types.Item.{Item}
use Rattle.dv_model.specs.declared.types.Mailbox.{Mailbox}
use Rattle.dv_model.specs.declared.types.Mark.{Mark}
use Rattle.dv_model.specs.declared.types.Reply.{Reply}
use Rattle.dv_model.specs.declared.types.Reply.TheVariants as reply
use Rattle.dv_model.specs.declared.types.Shown.{Shown}
use Rattle.dv_model.specs.declared.types.Value.TheVariants as value
use Rattle.dv_model.specs.Journals.{Log, Mail}
use Rattle.dv_model.specs.Sessions.{State, Answer, answer, data_of, damaged_uid, ending_of, fetch_lines, gone_uid, message_in, reads_message, step_of, told_of, view_before}
use Rattle.dv_model.specs.Sets.{named}
use Rattle.dv_model.specs.Transcripts.{IsTold}
use Rattle.dv_model.specs.Views.{View, changes, growth, moved, names_of, numbers, removals, said, same_row, shows_uid}
use Rattle.dv_interleavings.specs.Promises.{is_refusal}

abbrev HasNone : List Reply → Type 0
HasNone replies = list_any is_refusal replies ≡ false

both_none : (one other : List Reply) → HasNone one → HasNone other → HasNone (one ++ other)
both_none one other a b = list_any-append is_refusal one other ∙ or_from (list_any is_refusal one) (list_any is_refusal other) a b

each_none : {X : Type 0} (f : X → Reply) → ((x : X) → is_refusal (f x) ≡ false) → (xs : List X) → HasNone (map f xs)
each_none f none [] = refl
each_none f none (x ∷ xs) = or_from (is_refusal (f x)) (list_any is_refusal (map f xs)) (none x) (each_none f none xs)

flat_none : {X : Type 0} (f : X → List Reply) → ((x : X) → HasNone (f x)) → (xs : List X) → HasNone (flat_map f xs)
flat_none f none [] = refl
flat_none f none (x ∷ xs) = both_none (f x) (flat_map f xs) (none x) (flat_none f none xs)

lines_none : (mail : ℕ → Mail) (m : Mailbox) (items : List Item) (row : ℕ × Shown) → HasNone (fetch_lines mail m items row)
lines_none mail m items row = by_test (list_any reads_message items) refl (message_in mail m row.1.uid) refl
  where
    by_test : (b : Bool) → list_any reads_message items ≡ b → (o : Option (List ℕ)) → message_in mail m row.1.uid ≡ o → HasNone (fetch_lines mail m items row)
    by_test false reads o is = rw reads refl
    by_test true reads None is = rw (reads, is) refl
    by_test true reads (Some message) is = rw (reads, is) refl

data_none : (mail : ℕ → Mail) (c : Command) (v : View) (m : Mailbox) → HasNone (data_of mail c v m)
data_none mail (command.Fetch by_uid set items) v m = flat_none (fetch_lines mail m items) (lines_none mail m items) (named by_uid set v)
data_none mail (command.Search by_uid key) v m = refl
data_none mail c v m = refl

changes_none : (m : Mailbox) (old new : View) → HasNone (changes m old new)
changes_none m old new =
    each_none (λ (row : ℕ × Shown). reply.Fetch row.0 row.1.uid (value.Flags row.1.flags (names_of m row.1.keywords) ∷ [])) (λ row. refl) (numbers (λ s. not (list_any (same_row s) old.rows)) 1 new.rows)

growth_none : (old new : View) → HasNone (growth old new)
growth_none old new = by_test (list_all (λ s. shows_uid old s.uid) new.rows)
  where
    by_test : (b : Bool) → HasNone (cond b [] (reply.Exists (length new.rows) ∷ []))
    by_test true = refl
    by_test false = refl

said_none : (m : Mailbox) (old new : View) → HasNone (said m old new)
said_none m old new =
    both_none (removals old new ++ growth old new) (changes m old new)
    (both_none (removals old new) (growth old new) (each_none (λ (row : ℕ × Shown). reply.Expunge row.0) (λ row. refl) (reverse (numbers (λ s. not (shows_uid new s.uid)) 1 old.rows))) (growth_none old new))
    (changes_none m old new)

told_none : (c : Command) (m : Mailbox) (old new : View) → HasNone (told_of c m old new)
told_none command.Select m old new = changes_none m old new
told_none c m old new = said_none m old new

ending_none : (mail : ℕ → Mail) (c : Command) (v : View) (met m : Mailbox) (mark : Mark) → is_refusal (ending_of mail c v met m mark) ≡ false
ending_none mail c v met m mark = by_gone (gone_uid c v m) refl (damaged_uid mail c v m) refl
  where
    by_gone : (o : Option ℕ) → gone_uid c v m ≡ o → (d : Option ℕ) → damaged_uid mail c v m ≡ d → is_refusal (ending_of mail c v met m mark) ≡ false
    by_gone (Some uid) is d one = rw is refl
    by_gone None is (Some uid) one = rw (is, one) refl
    by_gone None is None one = rw (is, one) refl

pub answer_none : (mail : ℕ → Mail) (x : State) (c : Command) (met : Mailbox) (q : ℕ) (m : Mailbox) (mark : Mark) → list_any is_refusal (answer mail x c met q m mark).replies ≡ false
answer_none mail x c met q m mark =
    let old : View = view_before c x.view in
    let new : View = moved (step_of c) old m in
    let last : Reply = ending_of mail c old met m mark in
    both_none (data_of mail c old m ++ told_of c m old new) (last ∷ [])
    (both_none (data_of mail c old m) (told_of c m old new) (data_none mail c old m) (told_none c m old new))
    (or_from (is_refusal last) false (ending_none mail c old met m mark) refl)

pub told_unrefused : (log : Log) (s met q : ℕ) (x : State) (c : Command) (replies : List Reply) (y : State) → IsTold log s met q x c replies y → list_any is_refusal replies ≡ false
told_unrefused log s met q x c replies y told =
    ap (list_any is_refusal) (sym (ap (λ (a : Answer). a.replies) told.is)) ∙ answer_none log.mail x c told.before q told.mailbox _
