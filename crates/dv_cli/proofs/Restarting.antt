-- A next run starts from the log that a folder gives.
use Rattle.std.proofs.Common.{◌≡◌, inl, ℕ, refl, subst}
use Rattle.dv_model.specs.declared.types.Mailbox.{Mailbox}
use Rattle.dv_model.specs.declared.types.Mark.{Mark}
use Rattle.dv_shelf.specs.declared.shelf.Name.TheVariants as name
use Rattle.dv_shelf.specs.Folders.{Folder}
use Rattle.dv_logfile.specs.Scans.{BadHeader, BadSpot, Good, IsScanned, Missing, Scanned}
use Rattle.dv_openings.specs.Numbers.{IsNamed}
use Rattle.dv_openings.specs.Openings.{Finds, IsFound, found_in}
use Rattle.dv_cli.specs.Restarts.{LogsStart}

-- where a mailbox is found the log is a good one, which has a number
named_found : (c : Folder) (m : Mailbox) (mark : Mark) → IsFound c (Finds m mark) → (n : ℕ) × IsNamed c n
named_found c m mark found = by found.log found.log_file found.is
  where
    by : (log : Scanned) → IsScanned (c name.Log) log → Finds m mark ≡ found_in log found.rotated found.index → (n : ℕ) × IsNamed c n
    by Missing scanned is = absurd cc
    by BadHeader scanned is = absurd cc
    by (BadSpot place) scanned is = absurd cc
    by (Good file) scanned is = (file.header.indexid, record { log = file; scanned = scanned; is = refl })

pub logs_start : LogsStart
logs_start clock log m mark c gives =
    let named = named_found c m mark gives.opens in
    inl (
      record {
        indexid = log.indexid;
        mailbox = m;
        mark = mark;
        named = subst (IsNamed c) (gives.named named.0 named.1) named.1;
        found = gives.opens;
        is = refl;
      },
      refl,
    )
