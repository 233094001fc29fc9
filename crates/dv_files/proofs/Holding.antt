-- A message file that was written is taken as its message.
use Rattle.std.proofs.Common.{◌≡◌, ℕ, ◌<◌, ◌^◌, List, length, Option, Some, None, Result, Ok, Err, IfOk, OnOk, ◌∙◌, ap}
use Rattle.std.specs.Prelude.{slice_index, unwrap_or}
use Rattle.dv_model.specs.Journals.{Damaged, Held}
use Rattle.dv_shelf.specs.declared.shelf.Name.TheVariants as name
use Rattle.dv_shelf.specs.Folders.{Folder, with_file}
use Rattle.dv_shelf.proofs.FolderLemmas.{with_here}
use Rattle.dv_dbox.specs.BoxTexts.{BoxContent, written}
use Rattle.dv_dbox.specs.Mails.{content_in, no_guid}
use Rattle.dv_dbox.specs.Reading.{written_content}
use Rattle.dv_dbox.proofs.Taken.{written_is_taken}
use Rattle.dv_files.specs.Writing.{HasMail, HoldsMail, IsFileOf}
use Rattle.dv_shelf.specs.Sees.{SeesFolder}

-- a folder with the file has the message
has_mail : (uid : ℕ) (message guid text : List ℕ) (folder : Folder) → IsFileOf message guid text → folder (name.Mail uid) ≡ Some text → HasMail uid message guid folder
has_mail uid message guid text folder is there =
    let content : content_in (folder (name.Mail uid)) ≡ Some (written_content is.stamp guid is.received message) =
    ap content_in (there ∙ ap (λ (t : List ℕ). Some t) is.is) ∙ written_is_taken is.stamp is.received guid message is.writable in
    record {
      held = ap (λ (o : Option BoxContent). elim o [ None ↦ Damaged | Some m ↦ Held m.bytes ]) content;
      named = ap (λ (o : Option BoxContent). elim o [ None ↦ no_guid | Some m ↦ unwrap_or m.guid no_guid ]) content;
    }

-- behind a replace that answered Ok
pub put_holds : {S T E : Type 0} (sees : SeesFolder S) (old new : S) (uid : ℕ) (message guid text bytes : List ℕ) (result : Result T E)
    → bytes ≡ text → IsFileOf message guid text
    → OnOk result (sees.files new ≡ with_file (sees.files old) (name.Mail uid) (Some bytes)) → OnOk result ((c : Folder) → sees.may_leave new c → c (name.Mail uid) ≡ Some bytes)
    → OnOk result (HoldsMail sees uid message guid new)
put_holds sees old new uid message guid text bytes (Ok x) same is put durable = record {
  seen = has_mail uid message guid text (sees.files new) is (ap (λ (f : Folder). f (name.Mail uid)) put ∙ with_here (sees.files old) (name.Mail uid) (Some bytes) ∙ ap (λ (t : List ℕ). Some t) same);
  crash = λ c left. has_mail uid message guid text c is (durable c left ∙ ap (λ (t : List ℕ). Some t) same);
}
put_holds sees old new uid message guid text bytes (Err e) same is put durable = tt

-- the text that is made of a message is its file
pub text_is : {E : Type 0} (now : ℕ) (guid message : List ℕ) (result : Result (List ℕ) E) → length guid ≡ 16 → ((i : ℕ) → slice_index guid i < 256) → now < 2 ^ 32 → length message < 2 ^ 63
    → IfOk result (λ text. text ≡ written now guid now message) → IfOk result (IsFileOf message guid)
text_is now guid message (Ok text) sixteen bytes small short is = record {
  stamp = now;
  received = now;
  writable = record { made = small; came = small; sixteen = sixteen; bytes = bytes; short = short };
  is = is;
}
text_is now guid message (Err e) sixteen bytes small short is = tt
