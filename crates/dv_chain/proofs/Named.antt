-- The number of the mailbox in a folder on whose log a chain stands.
use Rattle.std.proofs.Common.{◌≡◌, ℕ, List, [], Option, Some, None, sym, ◌∙◌, ap, subst}
use Rattle.std.specs.Prelude.{unwrap_or}
use Rattle.dv_shelf.specs.declared.shelf.Name.TheVariants as name
use Rattle.dv_shelf.specs.Folders.{Folder}
use Rattle.dv_logfile.specs.Scans.{Good, GoodLog, IsGood, IsScanned}
use Rattle.dv_logfile.proofs.OneScan.{scans_one}
use Rattle.dv_openings.specs.Numbers.{HasIndexid, IsNamed, OpensAs}
use Rattle.dv_openings.specs.Openings.{Found, IsFound}
use Rattle.dv_chain.specs.declared.chain.Chain.{Chain}
use Rattle.dv_chain.specs.Rest.{Holds, StandsOn}

good_there : (file : Option (List ℕ)) (log : GoodLog) → IsScanned file (Good log) → IsGood log (unwrap_or file [])
good_there None log is = absurd is
good_there (Some b) log is = is

same_Good : (a b : GoodLog) → Good a ≡ Good b → a ≡ b
same_Good a b is = cc

-- a log on which a chain stands has the chain's number
pub stands_named : (c : Folder) (chain : Chain) → StandsOn c chain → HasIndexid c chain.indexid
stands_named c chain stands indexid named =
    let good = good_there (c name.Log) named.log named.scanned in
    let same = good.taken.read ∙ sym stands.begins.header.read in
    named.is ∙ ap (λ h. h.indexid) same ∙ sym stands.indexid

-- so what is found there is of that number
pub holds_as : (chain : Chain) (c : Folder) → Holds chain c → (f : Found) → IsFound c f → OpensAs c chain.indexid f
holds_as chain c holds f found = record { found = found; named = stands_named c chain holds.stands }

-- the number is the log's alone
pub same_named : (old c : Folder) → c name.Log ≡ old name.Log → (indexid : ℕ) → HasIndexid old indexid → HasIndexid c indexid
same_named old c log indexid has number named =
    has number (record { log = named.log; scanned = subst (λ (x : Option (List ℕ)). IsScanned x (Good named.log)) log named.scanned; is = named.is })

-- a log that is the same good one has it
pub file_named : (old c : Folder) (file : GoodLog) → IsScanned (old name.Log) (Good file) → IsScanned (c name.Log) (Good file) → (indexid : ℕ) → IsNamed old indexid → IsNamed c indexid
file_named old c file here there indexid named =
    let same = same_Good named.log file (scans_one (old name.Log) (Good named.log) (Good file) named.scanned here) in
    record { log = file; scanned = there; is = named.is ∙ ap (λ (g : GoodLog). g.header.indexid) same }
