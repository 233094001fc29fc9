-- A storage as its callers know it: ids with a count of references and a message, and what each
-- call does to it (own, after Dovecot's mdbox).
use Rattle.std.specs.Prelude.{ℕ, ◌+◌, ◌-◌, ◌∷◌, ◌++◌, [], Bool, not, List, count_by, filter, map, Option, Some, nat_eq, nat_lt, if◌then◌else◌}
use Rattle.dv_model.specs.declared.types.Mailbox.{Mailbox}
use Rattle.dv_model.specs.declared.types.Row.{Row}
use Rattle.dv_maps.specs.Maps.{row_count}
use Rattle.dv_maps.specs.Texts.{Messages}

-- an id: how many references it has, and the message that was saved, where that is known
pub record Item : Type 0 where
  pub id : ℕ
  pub count : ℕ
  pub message : Option (List ℕ)

-- the ids, rising, and the one that is given out next
pub record Storage : Type 0 where
  pub next : ℕ
  pub items : List Item

-- a message is saved: the next id, with one reference
abbrev pub saved : List ℕ → Storage → Storage
saved message s = record {
  next = s.next + 1;
  items = s.items ++ record { id = s.next; count = 1; message = Some message } ∷ [];
}

-- an item whose count changes, where it is of this id
abbrev pub counted : ℕ → (ℕ → ℕ) → Item → Item
counted id change item =
    if nat_eq item.id id then record item { count = change item.count } else item

-- the count of one id changes
abbrev pub with_count : ℕ → (ℕ → ℕ) → Storage → Storage
with_count id change s = record s { items = map (counted id change) s.items }

-- an id has one reference more
abbrev pub copied : ℕ → Storage → Storage
copied id s = with_count id (λ n. n + 1) s

-- or one less
abbrev pub dropped : ℕ → Storage → Storage
dropped id s = with_count id (λ n. n - 1) s

-- an id has a reference
abbrev pub is_referenced : Item → Bool
is_referenced item = nat_lt 0 item.count

-- the ids without a reference go
abbrev pub purged : Storage → Storage
purged s = record s { items = filter is_referenced s.items }

-- so many
abbrev pub unreferenced : Storage → ℕ
unreferenced s = count_by (λ item. not (is_referenced item)) s.items

-- ---- the storage of a map

-- a row's id, with its count and the message that was saved under it
abbrev pub item_of : Messages → Mailbox → Row → Item
item_of messages m row = record {
  id = row.uid;
  count = row_count m row;
  message = messages row.uid;
}

abbrev pub storage_of : Messages → Mailbox → Storage
storage_of messages m = record { next = m.next_uid; items = map (item_of messages m) m.rows }
