-- A written file is taken as what was written.
use Rattle.std.proofs.Common.{◌≡◌, ◌++◌, ℕ, List, [], Some, None, Result, Ok, Err, sym, ◌∙◌, ap}
use Rattle.std.proofs.lemmas.List.{append-nil}
use Rattle.dv_dbox.specs.BoxTexts.{BoxContent, BoxFault, box_content, written}
use Rattle.dv_dbox.specs.Mails.{content_in}
use Rattle.dv_dbox.specs.Reading.{IsWritable, written_content}
use Rattle.dv_dbox.proofs.Again.{read_again}
use Rattle.dv_dbox.proofs.Written.{written_is_text}

pub written_is_taken : (stamp received : ℕ) (guid message : List ℕ) → IsWritable stamp guid received message
    → content_in (Some (written stamp guid received message)) ≡ Some (written_content stamp guid received message)
written_is_taken stamp received guid message is =
    let b = written stamp guid received message in
    let m = written_content stamp guid received message in
    let text = written_is_text stamp guid received message [] is.made is.came is.sixteen is.bytes is.short in
    ap (λ t. content_in (Some t)) (sym (append-nil b)) ∙ found (box_content (b ++ [])) m (read_again m (b ++ []) text)
  where
    found : (read : Result BoxContent BoxFault) (m : BoxContent) → read ≡ Ok m
        → elim read [ Ok x ↦ Some x | Err fault ↦ None ] ≡ Some m
    found read m e = ap (λ r. elim r [ Ok x ↦ Some x | Err fault ↦ None ]) e
