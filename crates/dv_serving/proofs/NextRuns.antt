-- A next run may begin from each folder that gives a log: its number is the log's, so the cache that is
-- kept is true of what is found there.
use Rattle.std.proofs.Common.{◌≡◌, ⊎_elim, ℕ, sym, subst}
use Rattle.dv_model.specs.declared.types.Mailbox.{Mailbox}
use Rattle.dv_model.specs.declared.types.Mark.{Mark}
use Rattle.dv_model.specs.Journals.{Log}
use Rattle.dv_shelf.specs.Folders.{Folder}
use Rattle.dv_openings.specs.TrueCaches.{HasTrueCache}
use Rattle.dv_openings.proofs.Numbers.{mailbox_one}
use Rattle.dv_writing.specs.Keeping.{Gives}
use Rattle.dv_playing.specs.Playing.{Play}
use Rattle.dv_serving.specs.NextRuns.{IsTrueFolder}
use Rattle.dv_serving.specs.Places.{GivesPlay}

pub gives_true : (log : Log) (m : Mailbox) (mark : Mark) (c : Folder) → Gives log m mark c → IsTrueFolder c
gives_true log m mark c gives = λ indexid other place named opens.
    let same : m ≡ other = mailbox_one c m other mark place gives.opens opens in
    subst (λ (n : ℕ). HasTrueCache c n other) (sym (gives.named indexid named)) (subst (HasTrueCache c log.indexid) same gives.keeps.cache)

pub play_true : (play : Play) (c : Folder) → GivesPlay play c → IsTrueFolder c
play_true play c gives = ⊎_elim (gives_true _ _ _ c) (λ next. gives_true _ _ _ c next.1) gives
