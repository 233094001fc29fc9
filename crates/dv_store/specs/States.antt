-- What contracts see of a store.
use Rattle.std.specs.Prelude.{Option, None, refl}
use Rattle.std.specs.Coded.{Coded, code_by, coded×}
use Rattle.dv_model.specs.declared.types.Mark.{Mark}
use Rattle.dv_chain.specs.declared.chain.Chain.{Chain}
use Rattle.dv_lookups.specs.declared.cache_file.CacheFile.{CacheFile}
use Rattle.dv_lookups.specs.declared.cache_file.CacheFile.TheVariants as cache
use Rattle.dv_files.specs.declared.texts.Turn.{Turn}
use Rattle.dv_files.specs.Texts.{place_of}

-- the folder, the clock, the mailbox at the end of its log, the turn of a rotation whose last
-- replace is owed, the cache file as far as it was read, and the place behind the last group
pub record State (S C : Type 0) : Type 0 where
  pub shelf : S
  pub clock : C
  pub chain : Chain
  pub owed : Option Turn
  pub cache : CacheFile
  pub mark : Mark

-- just opened: no turn is owed, the cache file isn't read yet, and no group came since the log's end
abbrev pub fresh_state : {S C : Type 0} → S → C → Chain → State S C
fresh_state shelf clock chain = record {
  shelf = shelf;
  clock = clock;
  chain = chain;
  owed = None;
  cache = cache.Unread;
  mark = place_of chain;
}

-- a state is stored as the tuple of its fields
abbrev pub state_code : {S C : Type 0} → Coded S → Coded C → Coded Chain → Coded (Option Turn)
    → Coded CacheFile → Coded Mark → Coded (State S C)
state_code {S} {C} shelf clock chain owed cache mark =
    code_by (S × (C × (Chain × (Option Turn × (CacheFile × Mark)))))
    (coded× shelf (coded× clock (coded× chain (coded× owed (coded× cache mark)))))
    (λ s. (s.shelf, (s.clock, (s.chain, (s.owed, (s.cache, s.mark))))))
    (λ p. record {
      shelf = p.0;
      clock = p.1.0;
      chain = p.1.1.0;
      owed = p.1.1.1.0;
      cache = p.1.1.1.1.0;
      mark = p.1.1.1.1.1;
    })
    (λ _. refl)
