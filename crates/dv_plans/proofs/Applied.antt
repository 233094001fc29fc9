-- Records that apply to a mailbox are refused nowhere, and what is prepared of them makes one.
use Rattle.std.proofs.Common.{◌≡◌, ℕ, ◌+◌, List, [], ◌∷◌, ◌++◌, get_or, take, drop, Option, Some, None, Result, Err, refl, sym, ◌∙◌, ap, subst}
use Rattle.std.proofs.lemmas.List.{take-append-drop, take_more}
use Rattle.std.specs.Prelude.{All, IsSome, IsSomeAnd, option_and_then}
use Rattle.std.proofs.lemmas.List.Elements.{All-weaker}
use Rattle.dv_model.proofs.Transcripts.{applied_append}
use Rattle.dv_model.specs.declared.types.Command.{Command}
use Rattle.dv_model.specs.declared.types.GuidRow.{GuidRow}
use Rattle.dv_model.specs.declared.types.Mailbox.{Mailbox}
use Rattle.dv_model.specs.declared.types.Record.{Record}
use Rattle.dv_model.specs.Effects.{applied}
use Rattle.dv_model.specs.Sessions.{group_of}
use Rattle.dv_model.specs.Spelling.{IsRecord}
use Rattle.dv_apply.proofs.Refusing.{refused_none}
use Rattle.dv_apply.specs.Answers.{OnBadAppend}
use Rattle.dv_apply.specs.Bodies.{Refused}
use Rattle.dv_apply.specs.Preparing.{IsRefused}
use Rattle.dv_apply.specs.declared.fault.ApplyFault.{ApplyFault}
use Rattle.dv_apply.specs.declared.fault.ApplyFault.TheVariants.{BadAppend}
use Rattle.dv_validity.proofs.Groups.{group_applies}
use Rattle.dv_validity.proofs.Written.{IsWritable, group_written}
use Rattle.dv_plans.specs.Groups.{AreFound}

pub refused_never : (m : Mailbox) (rs : List Record) (x : Refused) → IsSome (applied m rs) → IsRefused m rs x → ⊥
refused_never m rs x some (k, d, n, less, at, is) =
    let r : Record = get_or rs k d in
    let rest : List Record = drop (k + 1) rs in
    let parts : rs ≡ (take k rs ++ r ∷ []) ++ rest = sym (take-append-drop (k + 1) rs) ∙ ap (λ (l : List Record). l ++ rest) (take_more rs k d less) in
    let front : applied m (take k rs ++ r ∷ []) ≡ None =
    applied_append (take k rs) (r ∷ []) m ∙ ap (option_and_then (λ (j : Mailbox). applied j (r ∷ []))) at ∙ ap (option_and_then (λ (j : Mailbox). applied j [])) (refused_none n r x is) in
    let none : applied m rs ≡ None = ap (applied m) parts ∙ applied_append (take k rs ++ r ∷ []) rest m ∙ ap (option_and_then (λ (j : Mailbox). applied j rest)) front in
    absurd (let no : IsSome {T = Mailbox} None = subst (λ (o : Option Mailbox). IsSome o) none some in cc)

pub never_bad : {A : Type 0} (r : Result A ApplyFault) (m : Mailbox) (rs : List Record) (uid next : ℕ) → r ≡ Err (BadAppend uid next) → OnBadAppend r (IsRefused m rs) → IsSome (applied m rs) → ⊥
never_bad {A = A} r m rs uid next is bad some =
    refused_never m rs (record { uid = uid; next_uid = next }) some (subst (λ (q : Result A ApplyFault). OnBadAppend q (IsRefused m rs)) is bad)

pub after_of : (P : Mailbox → Type 0) (o : Option Mailbox) → IsSomeAnd o P → (n : Mailbox) × (o ≡ Some n) × P n
after_of P (Some n) is = (n, refl, is)
after_of P None is = absurd is

module _ (c : Command) (m : Mailbox) (uids : List ℕ) (rows : List GuidRow) (found : AreFound c m uids rows) where
  pub found_records : All IsRecord (group_of c found.view m found.guid).records
  found_records =
      All-weaker IsWritable IsRecord (λ r one. one.is) (group_of c found.view m found.guid).records
      (group_written m found.write.valid c found.view found.guid found.write.command found.write.resets found.write.guids found.write.left)

  pub found_applies : IsSome (applied m (group_of c found.view m found.guid).records)
  found_applies = group_applies c found.view m found.guid found.write.command
