-- What contracts see of a storage.
use Rattle.std.specs.Prelude.{◌≡◌, ◌⊎◌, ◌+◌, List, [], fold, Option, None, IsSome, true, refl}
use Rattle.std.specs.Coded.{Coded, code_by, coded×}
use Rattle.dv_model.specs.declared.types.Entry.{Entry}
use Rattle.dv_model.specs.declared.types.Mark.{Mark}
use Rattle.dv_model.specs.Journals.{header_size, is_rotation_due, mark_behind}
use Rattle.dv_chain.specs.declared.chain.Chain.{Chain}
use Rattle.dv_chain.specs.Rest.{Owed}
use Rattle.dv_files.specs.declared.texts.Turn.{Turn}
use Rattle.dv_files.specs.Texts.{place_of}
use Rattle.dv_shelf.specs.Sees.{SeesFolder}
use Rattle.dv_filing.specs.Standing.{Fits, Stands}
use Rattle.dv_maps.specs.Laws.{IsMap}
use Rattle.dv_maps.specs.Texts.{Messages}
use Rattle.dv_mdbox.specs.declared.tails.Tail.{Tail}

-- the folder, the clock, the map at the end of its log, the turn of a rotation whose last replace
-- is owed, the place where the log ended at first, the groups since then, the place behind them, and
-- the end of the last message file, where it is known
pub record State (S C : Type 0) : Type 0 where
  pub shelf : S
  pub clock : C
  pub chain : Chain
  pub owed : Option Turn
  pub start : Mark
  pub entries : List Entry
  pub mark : Mark
  pub tail : Option Tail

-- ---- the place behind the groups

-- behind groups that are written from a place on
abbrev pub mark_from : Mark → List Entry → Mark
mark_from start entries = fold (λ mark entry. mark_behind true mark entry.group) start entries

-- the first place of the file behind that of a mark
abbrev pub next_file : Mark → Mark
next_file mark = record { file_seq = mark.file_seq + 1; offset = header_size }

-- The log ends at this mark, and no turn is owed; or a rotation was begun there that no group has
-- followed: its last replace is owed, or the log ends at the first place of the new file.
abbrev pub StandsAt : Mark → Mark → Option Turn → Type 0
StandsAt mark place owed =
    ((place ≡ mark) × (owed ≡ None))
    ⊎ ((is_rotation_due true mark ≡ true)
    × (((place ≡ mark) × IsSome owed) ⊎ ((place ≡ next_file mark) × (owed ≡ None))))

-- ---- at first

-- just opened: no turn is owed, no group came since the log's end, and the end of the last file
-- isn't looked for
abbrev pub fresh_state : {S C : Type 0} → S → C → Chain → State S C
fresh_state shelf clock chain = record {
  shelf = shelf;
  clock = clock;
  chain = chain;
  owed = None;
  start = place_of chain;
  entries = [];
  mark = place_of chain;
  tail = None;
}

-- a state is stored as the tuple of its fields
abbrev pub state_code : {S C : Type 0} → Coded S → Coded C → Coded Chain → Coded (Option Turn)
    → Coded Mark → Coded (List Entry) → Coded (Option Tail) → Coded (State S C)
state_code {S} {C} shelf clock chain owed mark entries tail =
    code_by (S × (C × (Chain × (Option Turn × (Mark × (List Entry × (Mark × Option Tail)))))))
    (coded× shelf (coded× clock (coded× chain (coded× owed (coded× mark (coded× entries (coded× mark tail)))))))
    (λ s. (s.shelf, (s.clock, (s.chain, (s.owed, (s.start, (s.entries, (s.mark, s.tail))))))))
    (λ p. record {
      shelf = p.0;
      clock = p.1.0;
      chain = p.1.1.0;
      owed = p.1.1.1.0;
      start = p.1.1.1.1.0;
      entries = p.1.1.1.1.1.0;
      mark = p.1.1.1.1.1.1.0;
      tail = p.1.1.1.1.1.1.1;
    })
    (λ _. refl)

module _ {S C : Type 0} where
  -- A storage is at rest with these messages: its chain stands with what is owed, which its turn
  -- fits, and its mailbox is a map. It takes what a shelf shows.
  pub record IsAtRest (sees : SeesFolder S) (messages : Messages) (debt : Owed) (s : State S C)
      : Type 0 where
    pub stands : Stands sees messages debt s.chain s.shelf
    pub fits : Fits s.owed s.chain.live.mailbox debt
    pub map : IsMap s.chain.live.mailbox

  -- nothing but the shelf changes
  pub record IsLookedAt (old new : State S C) : Type 0 where
    pub clock : new.clock ≡ old.clock
    pub chain : new.chain ≡ old.chain
    pub owed : new.owed ≡ old.owed
    pub start : new.start ≡ old.start
    pub entries : new.entries ≡ old.entries
    pub mark : new.mark ≡ old.mark
    pub tail : new.tail ≡ old.tail
