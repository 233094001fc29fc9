-- A refusal's line says nothing of the messages, and SELECT has none.
use Rattle.std.proofs.Common.{◌≡◌, ℕ, Bool, true, false, cond, not, ◌&&◌, List, length, Option, Some, None, refl}
use Rattle.std.specs.Prelude.{IfSome, nat_eq, nat_lt}
use Rattle.dv_model.specs.declared.types.Command.{Command}
use Rattle.dv_model.specs.declared.types.Command.TheVariants as command
use Rattle.dv_model.specs.declared.types.Group.{Group}
use Rattle.dv_model.specs.declared.types.Mailbox.{Mailbox}
use Rattle.dv_model.specs.declared.types.Mark.{Mark}
use Rattle.dv_model.specs.declared.types.Reply.{Reply}
use Rattle.dv_model.specs.declared.types.Reply.TheVariants as reply
use Rattle.dv_model.specs.Sessions.{State, end_of_uids, group_limit, group_of, is_append, is_log_full, is_select, is_write, limit_of, message_limit, message_of, missing_number, refusal_of}
use Rattle.dv_model.specs.Spelling.{group_text}
use Rattle.dv_model.specs.Views.{Known, heard}
use Rattle.dv_interleavings.specs.Promises.{is_refusal}
use Rattle.dv_clients.specs.Clients.{place_in}

-- a refusal's line, that names no place and changes nothing of what a client knows
abbrev pub IsSilent : Reply → Type 0
IsSilent line = (place_in line ≡ None) × ((rows : List Known) → heard rows line ≡ rows) × (is_refusal line ≡ true)

chosen : (b : Bool) (one other : Option Reply) → IfSome one IsSilent → IfSome other IsSilent → IfSome (cond b one other) IsSilent
chosen true one other first second = first
chosen false one other first second = second

silent : (line : Reply) → place_in line ≡ None → ((rows : List Known) → heard rows line ≡ rows) → is_refusal line ≡ true → IfSome (Some line) IsSilent
silent line none same refused = (none, same, refused)

limit_silent : (c : Command) (m : Mailbox) (rotates : Bool) (mark : Mark) (g : Group) → IfSome (limit_of c m rotates mark g) IsSilent
limit_silent c m rotates mark g =
    let long : (n : ℕ) → IfSome (Some (reply.TooLong n)) IsSilent = λ n. silent (reply.TooLong n) refl (λ rows. refl) refl in
    let size : ℕ = length (group_text g) in
    chosen (is_append c && nat_eq m.next_uid end_of_uids) (Some reply.UidsUsedUp) _ (silent reply.UidsUsedUp refl (λ rows. refl) refl)
    (chosen (nat_lt message_limit (length (message_of c))) (Some (reply.TooLong (length (message_of c)))) _ (long (length (message_of c)))
    (chosen (nat_lt group_limit size) (Some (reply.TooLong size)) _ (long size) (chosen (is_log_full rotates mark size) (Some (reply.TooLong size)) None (long size) tt)))

pub refusal_silent : (x : State) (c : Command) (m : Mailbox) (rotates : Bool) (mark : Mark) (guid : ℕ → List ℕ) → IfSome (refusal_of x c m rotates mark guid) IsSilent
refusal_silent x c m rotates mark guid = by_number (missing_number c x.view) refl
  where
    by_number : (o : Option ℕ) → missing_number c x.view ≡ o → IfSome (refusal_of x c m rotates mark guid) IsSilent
    by_number (Some n) is =
        rw is (chosen (not x.selected && not (is_select c)) (Some reply.NotSelected) (Some (reply.NoMessage n)) (silent reply.NotSelected refl (λ rows. refl) refl) (silent (reply.NoMessage n) refl (λ rows. refl) refl))
    by_number None is =
        rw is (chosen (not x.selected && not (is_select c)) (Some reply.NotSelected) _ (silent reply.NotSelected refl (λ rows. refl) refl)
        (chosen (is_write c) _ None (limit_silent c m rotates mark (group_of c x.view m guid)) tt))

-- SELECT is never refused
pub select_allowed : (x : State) (m : Mailbox) (rotates : Bool) (mark : Mark) (guid : ℕ → List ℕ) → refusal_of x command.Select m rotates mark guid ≡ None
select_allowed x m rotates mark guid = by_test x.selected refl
  where
    by_test : (b : Bool) → x.selected ≡ b → refusal_of x command.Select m rotates mark guid ≡ None
    by_test true is = rw is refl
    by_test false is = rw is refl
