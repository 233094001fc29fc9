-- The notes of a log of appends by author 1, each of one empty message without flags.
use Rattle.std.specs.Prelude.{◌≡◌, ℕ, zero, suc, ◌+◌, ◌≤◌, false, List, [], ◌∷◌, ◌++◌, Some, replicate}
use Rattle.dv_model.specs.declared.types.Body.TheVariants.{Append}
use Rattle.dv_front.specs.declared.notes.Note.{Note}
use Rattle.dv_front.specs.Ends.{PenView, published}

-- the append of this UID
abbrev pub append_note : ℕ → Note
append_note uid = record {
  entry = record { author = 1; group = record { records = record { top = 1; body = Append (record { uid = uid; flags = 0 } ∷ []) } ∷ [] } };
  post = Some (record { uid = uid; message = []; guid = replicate 16 0 });
}

-- so many appends, from a UID on
abbrev pub appends_from : ℕ → ℕ → List Note
appends_from uid zero = []
appends_from uid (suc n) = append_note uid ∷ appends_from (uid + 1) n

-- from the start of the log, where no UID was given out, the appends of so many UIDs were published, and nothing else was put
pub record HasAppended (pen : PenView) (n : ℕ) : Type 0 where
  pub next_uid : pen.generation.origin.mailbox.next_uid ≡ 1
  pub offset : pen.generation.origin.mark.offset ≤ 131072
  pub notes : pen.generation.base ++ pen.notes ≡ appends_from 1 n
  pub all : pen.put ≡ published pen
  pub unsealed : pen.sealed ≡ false
