-- What a reader of messages hears of the answer to a FETCH by UIDs: what is told of a move says
-- nothing to it.
use Rattle.std.proofs.Common.{◌≡◌, ℕ, Bool, true, false, not, List, [], ◌∷◌, ◌++◌, map, refl, ap, ◌∙◌}
use Rattle.std.specs.Prelude.{flat_map, length, reverse, if◌then◌else◌}
use Rattle.std.specs.List.{list_all, list_any}
use Rattle.std.proofs.lemmas.Grind.{flat_map-append}
use Rattle.std.proofs.lemmas.List.{append-nil}
use Rattle.dv_model.specs.declared.types.Command.{Command}
use Rattle.dv_model.specs.declared.types.Command.TheVariants as command
use Rattle.dv_model.specs.declared.types.Item.{Item}
use Rattle.dv_model.specs.declared.types.Mailbox.{Mailbox}
use Rattle.dv_model.specs.declared.types.Mark.{Mark}
use Rattle.dv_model.specs.declared.types.Reply.{Reply}
use Rattle.dv_model.specs.declared.types.Reply.TheVariants as reply
use Rattle.dv_model.specs.declared.types.Shown.{Shown}
use Rattle.dv_model.specs.declared.types.Span.{Span}
use Rattle.dv_model.specs.declared.types.Value.TheVariants as value
use Rattle.dv_model.specs.Journals.{Mail}
use Rattle.dv_model.specs.Sessions.{State, answer, data_of, ending_of, told_of}
use Rattle.dv_model.specs.Views.{View, changes, growth, names_of, numbers, removals, said, same_row, shows_uid}

-- nothing is made of what a move tells
pub record IsSilent {A : Type 0} (f : Reply → List A) : Type 0 where
  pub expunge : (n : ℕ) → f (reply.Expunge n) ≡ []
  pub exists_ : (n : ℕ) → f (reply.Exists n) ≡ []
  pub flags : (n uid flags : ℕ) (names : List (List ℕ)) → f (reply.Fetch n uid (value.Flags flags names ∷ [])) ≡ []

pub none_said : {A X : Type 0} (f : Reply → List A) (g : X → Reply) (xs : List X) → ((x : X) → f (g x) ≡ []) → flat_map f (map g xs) ≡ []
none_said f g [] none = refl
none_said f g (x ∷ xs) none = rw (none x) (none_said f g xs none)

module _ {A : Type 0} (f : Reply → List A) (silent : IsSilent f) where
  both_none : (xs ys : List Reply) → flat_map f xs ≡ [] → flat_map f ys ≡ [] → flat_map f (xs ++ ys) ≡ []
  both_none xs ys first second = flat_map-append f xs ys ∙ ap (λ (l : List A). l ++ flat_map f ys) first ∙ second

  growth_none : (b : Bool) (n : ℕ) → flat_map f (if b then [] else reply.Exists n ∷ []) ≡ []
  growth_none true n = refl
  growth_none false n = rw (silent.exists_ n) refl

  pub changes_none : (m : Mailbox) (old new : View) → flat_map f (changes m old new) ≡ []
  changes_none m old new =
      none_said f (λ (x : ℕ × Shown). reply.Fetch x.0 x.1.uid (value.Flags x.1.flags (names_of m x.1.keywords) ∷ [])) (numbers (λ s. not (list_any (same_row s) old.rows)) 1 new.rows)
      (λ x. silent.flags x.0 x.1.uid x.1.flags (names_of m x.1.keywords))

  move_none : (m : Mailbox) (old new : View) → flat_map f (said m old new) ≡ []
  move_none m old new =
      both_none (removals old new ++ growth old new) (changes m old new)
      (both_none (removals old new) (growth old new)
      (none_said f (λ (x : ℕ × Shown). reply.Expunge x.0) (reverse (numbers (λ s. not (shows_uid new s.uid)) 1 old.rows)) (λ x. silent.expunge x.0))
      (growth_none (list_all (λ s. shows_uid old s.uid) new.rows) (length new.rows)))
      (changes_none m old new)

  -- it hears the data, and then the last line
  pub lines_heard : (mail : ℕ → Mail) (x : State) (set : List Span) (items : List Item) (met m : Mailbox) (q : ℕ) (mark : Mark)
      → flat_map f (answer mail x (command.Fetch true set items) met q m mark).replies ≡ flat_map f (data_of mail (command.Fetch true set items) x.view m) ++ f (ending_of mail (command.Fetch true set items) x.view met m mark)
  lines_heard mail x set items met m q mark =
      let c : Command = command.Fetch true set items in
      let first : List Reply = data_of mail c x.view m in
      let told : List Reply = told_of c m x.view (answer mail x c met q m mark).next.view in
      let last : Reply = ending_of mail c x.view met m mark in
      flat_map-append f (first ++ told) (last ∷ [])
      ∙ ap (λ (l : List A). l ++ (f last ++ []))
      (flat_map-append f first told ∙ ap (λ (l : List A). flat_map f first ++ l) (move_none m x.view (answer mail x c met q m mark).next.view) ∙ append-nil (flat_map f first))
      ∙ ap (λ (l : List A). flat_map f first ++ l) (append-nil (f last))
