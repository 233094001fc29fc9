-- The list of a roll, as contracts see it.
use Rattle.std.specs.Prelude.{ℕ, zero, suc, List, [], ◌∷◌, ◌++◌, Option, None, slice_get}
use Rattle.atomic_table.specs.Seated.{TableId}

-- what a roll or a leaf knows: which list it is, and its items, the tables of the generations in their order
pub record ListingView : Type 0 where
  pub table : TableId
  pub items : List TableId

-- the table of a generation, counted from 1
abbrev pub table_at : List TableId → ℕ → Option TableId
table_at items zero = None
table_at items (suc before) = slice_get items before

-- a list without items
abbrev pub new_listing : TableId → ListingView
new_listing table = record { table = table; items = [] }

-- a table more
abbrev pub with_item : ListingView → TableId → ListingView
with_item r t = record r { items = r.items ++ t ∷ [] }

-- a table without words
abbrev pub no_table : TableId
no_table = record { words = 0; slots = 0; views_name = 0; atom = 0; block = 0; offset = 0; slot_names = [] }
