-- A call that reads a message.
use Rattle.std.proofs.Common.{◌≡◌, ℕ, ◌≤◌, List, [], Option, Some, None, Result, Ok, Err, refl, sym, ◌∙◌, ap, subst, arith}
use Rattle.std.specs.Prelude.{IsSome}
use Rattle.std.specs.Option.{option_and_then}
use Rattle.std.proofs.lemmas.List.Elements.{All-nil}
use Rattle.dv_model.specs.declared.types.Mailbox.{Mailbox}
use Rattle.dv_model.specs.Journals.{Damaged, Held}
use Rattle.dv_shelf.specs.Folders.{Folder}
use Rattle.dv_shelf.specs.Sees.{SeesFolder}
use Rattle.dv_shelf.proofs.Moments.{weaker}
use Rattle.dv_chain.specs.declared.chain.Chain.{Chain}
use Rattle.dv_chain.specs.Openings.{OnlyLooks}
use Rattle.dv_chain.specs.Rest.{Owed}
use Rattle.dv_files.specs.declared.texts.Turn.{Turn}
use Rattle.dv_filing.specs.Standing.{Fits, Stands}
use Rattle.dv_maps.specs.Laws.{IsMap}
use Rattle.dv_maps.specs.Maps.{row_count}
use Rattle.dv_maps.specs.Storages.{Item, Storage, storage_of}
use Rattle.dv_maps.specs.Texts.{HasText, KeepsTexts, Messages, text_at}
use Rattle.dv_mdbox.specs.declared.fault.StorageFault.{StorageFault}
use Rattle.dv_mdbox.specs.declared.fault.StorageFault.TheVariants as fault
use Rattle.dv_mdbox.specs.declared.got.Got.{Got}
use Rattle.dv_mdbox.specs.declared.got.Got.TheVariants as got
use Rattle.dv_mdbox.specs.declared.looking.Reference.{Reference}
use Rattle.dv_mdbox.specs.Answers.{HasStorageCause}
use Rattle.dv_mdbox.specs.Looks.{GetsMessage, reference_of}
use Rattle.dv_mdbox.specs.States.{IsAtRest, IsLookedAt, State}
use Rattle.dv_mdbox.proofs.Equal.{stands_looked}
use Rattle.dv_mdbox_lines.specs.declared.answers.Answer.{Answer}
use Rattle.dv_mdbox_lines.specs.declared.answers.Answer.TheVariants as answer
use Rattle.dv_mdbox_lines.specs.Playing.{MayCome, MayGet, Tried, behind, message_of, references}
use Rattle.dv_mdbox_lines.specs.Scripts.{Get}
use Rattle.dv_playing.specs.Laws.{RiseFrom}
use Rattle.dv_mdbox_serving.specs.Calls.{IsCalled, fault_answer, read_answer, tried_of}
use Rattle.dv_mdbox_serving.specs.Following.{Follows, HasGroups, failure_of}
use Rattle.dv_mdbox_serving.specs.Places.{GivesBetween, IsUndone}
use Rattle.dv_mdbox_serving.proofs.Counted.{before_gives, called_same, fault_id, fault_rises, fault_undone}
use Rattle.dv_mdbox_serving.proofs.Referenced.{HasReference, find_in, has_reference, none_referenced, referenced, row_found}

-- ---- a look

pub rest_still : {S C : Type 0} (sees : SeesFolder S) (messages : Messages) (debt : Owed) (old new : State S C) → IsLookedAt old new → OnlyLooks sees old.shelf new.shelf → IsAtRest sees messages debt old → IsAtRest sees messages debt new
rest_still sees messages debt old new looked looks rest = record {
  stands = subst (λ (k : Chain). Stands sees messages debt k new.shelf) (sym looked.chain) (stands_looked sees messages debt old.chain old.shelf new.shelf looks rest.stands);
  fits = subst (λ (k : Chain). Fits new.owed k.live.mailbox debt) (sym looked.chain) (subst (λ (o : Option Turn). Fits o old.chain.live.mailbox debt) (sym looked.owed) rest.fits);
  map = subst (λ (k : Chain). IsMap k.live.mailbox) (sym looked.chain) rest.map;
}

-- ---- what is read

module _ (messages : Messages) (m : Mailbox) (id : ℕ) (folder : Folder) (keeps : KeepsTexts messages m folder) (reference : Reference) (is : reference_of m id ≡ Some reference) where
  has : HasReference messages m id reference
  has = has_reference messages m id reference is

  known_is : message_of (storage_of messages m) id ≡ messages has.row.uid
  known_is = ap (option_and_then (λ (item : Item). item.message)) has.item

  -- the message that is known stands there
  held_there : (known : List ℕ) → message_of (storage_of messages m) id ≡ Some known → text_at folder reference.place ≡ Held known
  held_there known knows =
      let place = find_in id m.rows has.row (sym (row_found id m.rows) ∙ has.there) in
      let text : HasText messages m folder has.row = subst (HasText messages m folder) place.2 (keeps place.0 has.row place.1) in
      let some : 1 ≤ row_count m has.row = (let one = has.some in let same = has.count in omega (arith, one, same)) in
      ap (text_at folder) (sym has.place) ∙ text some known (sym known_is ∙ knows)

  may_hold : (bytes : List ℕ) → Held bytes ≡ text_at folder reference.place → MayGet (storage_of messages m) id (answer.Held bytes)
  may_hold bytes read = (
    (let same = referenced messages m id reference is in let some = has.some in omega (arith, same, some)),
    λ known knows. one_message bytes known (read ∙ held_there known knows),
  )
    where
      one_message : (a b : List ℕ) → Held a ≡ Held b → a ≡ b
      one_message a b e = cc

  may_damage : Damaged ≡ text_at folder reference.place → MayGet (storage_of messages m) id answer.Damaged
  may_damage read = (
    (let same = referenced messages m id reference is in let some = has.some in omega (arith, same, some)),
    by (message_of (storage_of messages m) id) refl,
  )
    where
      differ : (known : List ℕ) → Damaged ≡ Held known → ⊥
      differ known e = cc

      by : (o : Option (List ℕ)) → message_of (storage_of messages m) id ≡ o → message_of (storage_of messages m) id ≡ None
      by None none = none
      by (Some known) knows = absurd (differ known (read ∙ held_there known knows))

-- ---- what becomes of it

module _ {S C : Type 0} (sees : SeesFolder S) (start : Storage) (base : ℕ) (calls : List Tried) (old new : State S C) (follows : Follows sees start base calls old) (id : ℕ) (there : sees.may_leave old.shelf (sees.files old.shelf))
    (looked : IsLookedAt old new) (looks : OnlyLooks sees old.shelf new.shelf) where
  abbrev m : Mailbox
  m = old.chain.live.mailbox

  abbrev here : Storage
  here = behind start calls

  come_told : (told : Answer) → MayGet (storage_of follows.keeps.messages m) id told → MayCome here (tried_of (Get id) (Some told) [])
  come_told told may = record { answer = subst (λ (s : Storage). MayGet s id told) follows.keeps.storage may; gone = All-nil (λ k. references here k ≡ 0); purge = λ no. refl }

  read_called : (told : Option Answer) → IsUndone told → HasGroups (Get id) told 0 → MayCome here (tried_of (Get id) told []) → RiseFrom (sees.fault_count old.shelf) (failure_of told) (sees.fault_count new.shelf) → IsCalled sees start base calls (Get id) told old new
  read_called told undone none come rise =
      let k = follows.keeps in
      called_same sees start base calls old new follows (Get id) told undone none come rise (rest_still sees k.messages k.debt old new looked looks k.rests) (λ i. (looked.chain i).live.mailbox) looked.entries
      (weaker sees old.shelf new.shelf (sees.may_leave old.shelf) (GivesBetween start calls (tried_of (Get id) told [])) looks.since (before_gives sees start base calls old new follows (tried_of (Get id) told [])))

  some_of : {A : Type 0} (o : Option A) → IsSome o → (n : A) × (o ≡ Some n)
  some_of (Some n) is = (n, refl)
  some_of None is = absurd cc

  come_fault : (tells : Type 0) (e : StorageFault) → GetsMessage m id (λ mail place. tells → mail ≡ text_at (sees.files old.shelf) place) (Err e) → MayCome here (tried_of (Get id) (fault_answer e) [])
  come_fault tells fault.NoMemory is = record { answer = tt; gone = All-nil (λ k. references here k ≡ 0); purge = λ no. refl }
  come_fault tells (fault.Disk faults) is =
      let one = some_of (reference_of m id) is in
      let same = referenced follows.keeps.messages m id one.0 one.1 in
      let some = (has_reference follows.keeps.messages m id one.0 one.1).some in
      come_told (answer.Disk faults) (omega (arith, same, some))
  come_fault tells fault.None is = come_told answer.None (none_referenced follows.keeps.messages m id is)
  come_fault tells fault.Full is = absurd is
  come_fault tells fault.Ids is = absurd is
  come_fault tells fault.Files is = absurd is
  come_fault tells (fault.TooLong bytes) is = absurd is

  pub get_called : (tells : Type 0) → tells → (result : Result Got StorageFault) → GetsMessage m id (λ mail place. tells → mail ≡ text_at (sees.files old.shelf) place) result → HasStorageCause (sees.fault_count old.shelf) (sees.fault_count new.shelf) result
      → IsCalled sees start base calls (Get id) (read_answer result) old new
  get_called tells told (Ok (got.Held bytes)) gets cause =
      let k = follows.keeps in
      read_called (Some (answer.Held bytes)) tt refl (come_told (answer.Held bytes) (may_hold k.messages m id (sees.files old.shelf) (k.rests.stands.keeps (sees.files old.shelf) there) gets.0 gets.1 bytes (gets.2 told))) cause.later
  get_called tells told (Ok got.Damaged) gets cause =
      let k = follows.keeps in
      read_called (Some answer.Damaged) tt refl (come_told answer.Damaged (may_damage k.messages m id (sees.files old.shelf) (k.rests.stands.keeps (sees.files old.shelf) there) gets.0 gets.1 (gets.2 told))) cause.later
  get_called tells told (Err e) gets cause =
      read_called (fault_answer e) (fault_undone e) (rw (fault_id e) refl) (come_fault tells e gets) (fault_rises {A = Got} e (sees.fault_count old.shelf) (sees.fault_count new.shelf) cause)
