-- The place that an answer names.
use Rattle.std.proofs.Common.{◌≡◌, ℕ, List, [], ◌∷◌, ◌++◌, Option, Some, None, refl, sym, ◌∙◌, ap}
use Rattle.std.proofs.lemmas.List.{reverse-append}
use Rattle.dv_model.specs.declared.types.Command.{Command}
use Rattle.dv_model.specs.declared.types.Mailbox.{Mailbox}
use Rattle.dv_model.specs.declared.types.Mark.{Mark}
use Rattle.dv_model.specs.declared.types.Reply.{Reply}
use Rattle.dv_model.specs.Journals.{Log, Mail, mark_of}
use Rattle.dv_model.specs.Sessions.{Answer, State, damaged_uid, data_of, ending_of, gone_uid, step_of, told_of, view_before}
use Rattle.dv_model.specs.Transcripts.{IsTold}
use Rattle.dv_model.specs.Views.{View, moved}
use Rattle.dv_clients.specs.Clients.{place_in, place_of}

-- the place that the first of some lines names
abbrev place_first : List Reply → Option Mark
place_first [] = None
place_first (r ∷ rest) = place_in r

place_last : (lines : List Reply) (last : Reply) → place_of (lines ++ last ∷ []) ≡ place_in last
place_last lines last = ap place_first (reverse-append lines (last ∷ []))

ending_place : (mail : ℕ → Mail) (c : Command) (v : View) (met m : Mailbox) (mark : Mark) → place_in (ending_of mail c v met m mark) ≡ Some mark
ending_place mail c v met m mark = by_gone (gone_uid c v m) refl (damaged_uid mail c v m) refl
  where
    by_gone : (o : Option ℕ) → gone_uid c v m ≡ o → (d : Option ℕ) → damaged_uid mail c v m ≡ d → place_in (ending_of mail c v met m mark) ≡ Some mark
    by_gone (Some uid) is d one = rw is refl
    by_gone None is (Some uid) one = rw (is, one) refl
    by_gone None is None one = rw (is, one) refl

-- an answer names the place up to which it tells
pub told_place : (log : Log) (author met q : ℕ) (x : State) (c : Command) (replies : List Reply) (y : State) → IsTold log author met q x c replies y → place_of replies ≡ Some (mark_of log q)
told_place log author met q x c replies y told =
    let old : View = view_before c x.view in
    let new : View = moved (step_of c) old told.mailbox in
    ap place_of (sym (ap (λ (a : Answer). a.replies) told.is))
    ∙ place_last (data_of log.mail c old told.mailbox ++ told_of c told.mailbox old new) (ending_of log.mail c old told.before told.mailbox (mark_of log q))
    ∙ ending_place log.mail c old told.before told.mailbox (mark_of log q)
