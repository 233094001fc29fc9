-- Which entries the words of a feed tell of.
use Rattle.std.specs.Prelude.{◌≡◌, ℕ, ◌≤◌, List, ◌++◌, length, All}
use Rattle.dv_model.specs.declared.types.Entry.{Entry}
use Rattle.dv_model.specs.Spelling.{IsRecord, group_text}
use Rattle.dv_formats.specs.Feeds.{entry_words, feed_text}
use Rattle.dv_formats.specs.Snapshots.{AreBytes}

-- each record of the entry's group has a spelling, and what is written of them is bytes
pub record IsSpelled (e : Entry) : Type 0 where
  pub records : All IsRecord e.group.records
  pub bytes : AreBytes (group_text e.group)

-- the words of no entry begin those of another
abbrev pub OneEntry : Type 0
OneEntry = (d e : Entry) (x y : List ℕ)
    → IsSpelled d → IsSpelled e → entry_words d ++ x ≡ entry_words e ++ y → (d ≡ e) × (x ≡ y)

-- words are of one list of entries
abbrev pub OneFeed : Type 0
OneFeed = (a b : List Entry) → All IsSpelled a → All IsSpelled b → feed_text a ≡ feed_text b → a ≡ b

-- where words begin with those of two lists, the longer list begins with the other, whatever
-- follows
abbrev pub FeedBegins : Type 0
FeedBegins = (a b : List Entry) (x y : List ℕ)
    → All IsSpelled a → All IsSpelled b → length a ≤ length b → feed_text a ++ x ≡ feed_text b ++ y
    → (more : List Entry) × (b ≡ a ++ more) × (x ≡ feed_text more ++ y)

-- where the words of some entries begin those of a list, the entries begin the list, and the words
-- behind them are those of its rest
abbrev pub FeedIsTaken : Type 0
FeedIsTaken = (a b : List Entry) (x : List ℕ)
    → All IsSpelled a → All IsSpelled b → feed_text a ++ x ≡ feed_text b
    → (more : List Entry) × (b ≡ a ++ more) × (x ≡ feed_text more)

-- the words of further entries stand behind the others
abbrev pub FeedExtends : Type 0
FeedExtends = (a b : List Entry) → feed_text (a ++ b) ≡ feed_text a ++ feed_text b
