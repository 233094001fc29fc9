-- At which entries open files stand.
use Rattle.std.specs.Prelude.{◌≡◌, ◌≢◌, Bool, true}
use Rattle.dv_system.specs.declared.system.Entry.{Entry}

-- each open file stands where it stood
abbrev pub StandStill : {F : Type 0} → (F → Entry → Bool) → (F → Entry → Bool) → Type 0
StandStill {F} old new = (file : F) (e : Entry) → old file e ≡ true → new file e ≡ true

-- so do those that stood at none of two entries; of the rest nothing is said
abbrev pub OthersStand : {F : Type 0} → Entry → Entry → (F → Entry → Bool) → (F → Entry → Bool)
    → Type 0
OthersStand {F} a b old new =
    (file : F) (e : Entry) → e ≢ a → e ≢ b → old file e ≡ true → new file e ≡ true
