-- An answer is put together from its parts.
use Rattle.std.proofs.Common.{◌≡◌, ℕ, true, false, List, [], ◌∷◌, ◌++◌, refl, sym, ◌∙◌, ap}
use Rattle.std.specs.Prelude.{OnOk, Result, Ok, Err}
use Rattle.dv_model.specs.declared.types.Command.{Command}
use Rattle.dv_model.specs.declared.types.Command.TheVariants as command
use Rattle.dv_model.specs.declared.types.Mailbox.{Mailbox}
use Rattle.dv_model.specs.declared.types.Mark.{Mark}
use Rattle.dv_model.specs.declared.types.Reply.{Reply}
use Rattle.dv_model.specs.declared.types.Step.{Step}
use Rattle.dv_model.specs.declared.types.Step.TheVariants.{Full}
use Rattle.dv_model.specs.Journals.{Mail}
use Rattle.dv_model.specs.Sessions.{Answer, State, answer, data_of, ending_of, gone_uid, is_select, step_of, told_of, view_before}
use Rattle.dv_model.specs.Views.{View, empty_view, moved, said}
use Rattle.dv_model.proofs.Clients.{false_is_not_true}
use Rattle.dv_responses.specs.Damaged.{damaged_uids}
use Rattle.dv_responses.specs.Met.{met_of}

-- ---- SELECT and others

pub select_is : (c : Command) → is_select c ≡ true → c ≡ command.Select
select_is command.Select e = refl
select_is command.Noop e = false_is_not_true e
select_is command.Check e = false_is_not_true e
select_is command.Expunge e = false_is_not_true e
select_is (command.Append flags keywords message) e = false_is_not_true e
select_is (command.Fetch by_uid set items) e = false_is_not_true e
select_is (command.Store by_uid set how flags keywords since) e = false_is_not_true e
select_is (command.Search by_uid key) e = false_is_not_true e
select_is (command.UidRemove set) e = false_is_not_true e

-- what SELECT takes, and what is gone or damaged of what it looks at, has nothing to do with the view
pub select_gone : (c : Command) → is_select c ≡ true → (v w : View) (m : Mailbox) → gone_uid c v m ≡ gone_uid c w m
select_gone c e v w m = let is = select_is c e in rw is refl

pub select_met : (c : Command) → is_select c ≡ true → (v w : View) (m : Mailbox) → met_of c v m ≡ met_of c w m
select_met c e v w m = let is = select_is c e in rw is refl

pub select_damaged : (mail : ℕ → Mail) (c : Command) → is_select c ≡ true → (v w : View) (m : Mailbox) → damaged_uids mail c v m ≡ damaged_uids mail c w m
select_damaged mail c e v w m = let is = select_is c e in rw is refl

pub select_answer : (mail : ℕ → Mail) (x : State) (c : Command) → is_select c ≡ true → (met m : Mailbox) (q : ℕ) (mark : Mark) (lines : List Reply) (last : Reply) (next : State)
    → lines ≡ told_of command.Select m empty_view (moved Full empty_view m) ++ last ∷ []
    → last ≡ ending_of mail c empty_view met m mark
    → next ≡ record { selected = true; view = moved Full empty_view m; told = q }
    → ◌≡◌ {A = Answer} (record { replies = lines; next = next }) (answer mail x c met q m mark)
select_answer mail x c e met m q mark lines last next are is behind =
    let same = select_is c e in
    ap (λ (ls : List Reply). record { replies = ls; next = next }) (are ∙ ap (λ (r : Reply). told_of command.Select m empty_view (moved Full empty_view m) ++ r ∷ []) is)
    ∙ ap (λ (s : State). record { replies = told_of command.Select m empty_view (moved Full empty_view m) ++ ending_of mail c empty_view met m mark ∷ []; next = s }) behind
    ∙ rw same refl

-- ---- other commands

same_view : (c : Command) → is_select c ≡ false → (v : View) → view_before c v ≡ v
same_view command.Select e v = false_is_not_true (sym e)
same_view command.Noop e v = refl
same_view command.Check e v = refl
same_view command.Expunge e v = refl
same_view (command.Append flags keywords message) e v = refl
same_view (command.Fetch by_uid set items) e v = refl
same_view (command.Store by_uid set how flags keywords since) e v = refl
same_view (command.Search by_uid key) e v = refl
same_view (command.UidRemove set) e v = refl

same_told : (c : Command) → is_select c ≡ false → (m : Mailbox) (old new : View) → said m old new ≡ told_of c m old new
same_told command.Select e m old new = false_is_not_true (sym e)
same_told command.Noop e m old new = refl
same_told command.Check e m old new = refl
same_told command.Expunge e m old new = refl
same_told (command.Append flags keywords message) e m old new = refl
same_told (command.Fetch by_uid set items) e m old new = refl
same_told (command.Store by_uid set how flags keywords since) e m old new = refl
same_told (command.Search by_uid key) e m old new = refl
same_told (command.UidRemove set) e m old new = refl

-- the answer over a view that stays as it was
abbrev over : (ℕ → Mail) → Command → Mailbox → ℕ → Mailbox → Mark → View → Answer
over mail c met q m mark old =
    let new = moved (step_of c) old m in
    record {
      replies = data_of mail c old m ++ told_of c m old new ++ ending_of mail c old met m mark ∷ [];
      next = record { selected = true; view = new; told = q };
    }

pub other_answer : (mail : ℕ → Mail) (x : State) (c : Command) → is_select c ≡ false → (met m : Mailbox) (q : ℕ) (mark : Mark) (step : Step) (given lines : List Reply) (last : Reply) (next : State)
    → step ≡ step_of c
    → given ≡ data_of mail c x.view m
    → lines ≡ given ++ said m x.view (moved step x.view m) ++ last ∷ []
    → last ≡ ending_of mail c x.view met m mark
    → next ≡ record { selected = true; view = moved step x.view m; told = q }
    → ◌≡◌ {A = Answer} (record { replies = lines; next = next }) (answer mail x c met q m mark)
other_answer mail x c e met m q mark step given lines last next by known are is behind =
    ap (λ (ls : List Reply). record { replies = ls; next = next }) (are
    ∙ ap (λ (ds : List Reply). ds ++ said m x.view (moved step x.view m) ++ last ∷ []) known
    ∙ ap (λ (r : Reply). data_of mail c x.view m ++ said m x.view (moved step x.view m) ++ r ∷ []) is
    ∙ ap (λ (ls : List Reply). data_of mail c x.view m ++ ls ++ ending_of mail c x.view met m mark ∷ []) (same_told c e m x.view (moved step x.view m)))
    ∙ ap (λ (s : State). record { replies = data_of mail c x.view m ++ told_of c m x.view (moved step x.view m) ++ ending_of mail c x.view met m mark ∷ []; next = s }) behind
    ∙ ap (λ (s : Step). record {
      replies = data_of mail c x.view m ++ told_of c m x.view (moved s x.view m) ++ ending_of mail c x.view met m mark ∷ [];
      next = record { selected = true; view = moved s x.view m; told = q };
    }) by
    ∙ ap (over mail c met q m mark) (sym (same_view c e x.view))

-- ---- a result and what is behind it

pub with_both : {X E P Q R : Type 0} (r : Result X E) → OnOk r P → OnOk r Q → (P → Q → R) → OnOk r R
with_both (Ok x) p q both = both p q
with_both (Err e) p q both = tt

-- SELECT has no data
pub select_data : (mail : ℕ → Mail) (c : Command) → is_select c ≡ true → (v : View) (m : Mailbox) → data_of mail c v m ≡ []
select_data mail c e v m = let is = select_is c e in rw is refl
