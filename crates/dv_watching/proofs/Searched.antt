-- What is told is what a search gives.
use Rattle.std.proofs.Common.{refl}
use Rattle.dv_model.specs.Mailboxes.{IsValid}
use Rattle.dv_playing.specs.Playing.{Play}
use Rattle.dv_playing.proofs.Plays as plays
use Rattle.dv_validity.proofs.Logs.{valid_at}
use Rattle.dv_serial.specs.Places.{play_of}
use Rattle.dv_live.proofs.Following.{kept_of}
use Rattle.dv_live.proofs.Searched.{kept_is_searched}
use Rattle.dv_watching.specs.Laws.{ToldIsSearched}
use Rattle.dv_watching.specs.Texts.{found_in}

pub told_is_searched : ToldIsSearched
told_is_searched clock start base faults attempts key steady may =
    let behind : Play = play_of clock start attempts in
    let stands = plays.stands clock start base faults attempts may in
    let valid : IsValid behind.mailbox = valid_at behind.log stands.sound _ behind.mailbox stands.mailbox in (
      stands.mailbox,
      kept_is_searched (record { key = key; uids = found_in key behind.mailbox; names = behind.mailbox.keywords }) behind.mailbox steady
          (kept_of key (found_in key behind.mailbox) behind.mailbox.keywords behind.mailbox valid refl refl),
    )
