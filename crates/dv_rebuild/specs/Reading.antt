-- What is read of a folder's files.
use Rattle.std.specs.Prelude.{◌≡◌, ℕ, List, Option, Some, None}
use Rattle.dv_shelf.specs.declared.shelf.Name.TheVariants as name
use Rattle.dv_shelf.specs.Folders.{Folder, Lists}
use Rattle.dv_logfile.specs.declared.header.LogHeader.{LogHeader}
use Rattle.dv_logfile.specs.Scans.{Good, GoodLog, IsGood, IsScanned, Scanned, Spot}
use Rattle.dv_openings.specs.Salvages.{IsFront, IsLogFront}
use Rattle.dv_chain.specs.declared.file.File.{File}
use Rattle.dv_chain.specs.Files.{HasSpots, IsFileOf, good_file}
use Rattle.dv_rebuild.specs.declared.reading.Texts.{Texts}

-- what stands in a folder
pub record AreTexts (folder : Folder) (texts : Texts) : Type 0 where
  pub names : Lists folder texts.names
  pub log : texts.log ≡ folder name.Log
  pub rotated : texts.rotated ≡ folder name.Log2
  pub index : texts.index ≡ folder name.Index

-- a good file of these bytes has the records of the others up to the first fault
abbrev pub IsCut : LogHeader → List ℕ → List ℕ → Type 0
IsCut header b cut = (log : GoodLog) → IsGood log cut → IsFront log b

-- the file in some bytes, up to its first fault, where there are any and its header is taken
pub record IsFrontOf (b : Option (List ℕ)) (file : Option File) : Type 0 where
  pub log : Option GoodLog
  pub front : IsLogFront b log
  pub is : IsFileOf file log

-- the file of a good log; a log that isn't good has none
abbrev pub IsGoodOf : Option File → Scanned → Type 0
IsGoodOf (Some file) scan =
    (spots : List Spot) × HasSpots spots file × (scan ≡ Good (good_file file spots))
IsGoodOf None scan = (log : GoodLog) → scan ≡ Good log → ⊥

-- the file in some bytes, where there are any and they are a good log
pub record IsWholeIn (b : Option (List ℕ)) (file : Option File) : Type 0 where
  pub scan : Scanned
  pub scanned : IsScanned b scan
  pub is : IsGoodOf file scan
