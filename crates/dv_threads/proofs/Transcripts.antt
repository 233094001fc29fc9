-- The stories of sessions that wrote one log together are transcripts.
use Rattle.std.proofs.Common.{ℕ, List, subst}
use Rattle.std.specs.Prelude.{All}
use Rattle.dv_model.specs.declared.types.Command.{Command}
use Rattle.dv_model.specs.declared.types.Reply.{Reply}
use Rattle.dv_model.specs.Journals.{IsSound, Log}
use Rattle.dv_model.specs.Transcripts.{Spoken}
use Rattle.dv_clients.proofs.Clients.{shown_to, spoken_alike, spoken_numbers, views_equal}
use Rattle.dv_stories.specs.Growing.{AreWrittenByAll}
use Rattle.dv_stories.specs.Stories.{Progress, Story}
use Rattle.dv_stories.proofs.Stories.{stories_never_shorter}
use Rattle.dv_stories.proofs.Written.{written_by_all}
use Rattle.dv_schedules.proofs.Weaving.{are_interleaved}
use Rattle.dv_threads.specs.Transcripts.{AreAlike, IsAbove, IsFollowed, StoriesAreTranscripts}
use Rattle.dv_threads.proofs.Above.{turns_above}

module _ (log : Log) (base : ℕ) (sound : IsSound log) where
  followed : (author : ℕ) (commands : List Command) (replies : List (List Reply)) (p : Progress) (s : Story log base author commands replies p) → Spoken log base author commands replies → IsFollowed s
  followed author commands replies p s spoken = record {
    shorter = stories_never_shorter log base author commands replies p s;
    shown = λ k selected. shown_to log sound base author commands replies s.speaks k selected;
    numbers = spoken_numbers log base author commands replies spoken;
    above = subst (All (λ (lines : List Reply). All (IsAbove base) lines)) s.speaks.replied (turns_above base log author s.speaks.turns s.speaks.each);
  }

  alike : (one other : ℕ) (commands rest : List Command) (replies more : List (List Reply)) (p q : Progress) (s : Story log base one commands replies p) (t : Story log base other rest more q)
      → Spoken log base one commands replies → Spoken log base other rest more → AreAlike s t
  alike one other commands rest replies more p q s t first second = record {
    views = λ j k mark told also. views_equal log base one other commands rest replies more s.speaks t.speaks j k mark sound told also;
    clients = spoken_alike log base one other commands rest replies more first second;
  }

pub stories_are_transcripts : StoriesAreTranscripts
stories_are_transcripts log base n commands replies p small good all =
    let written : AreWrittenByAll log base n commands replies = written_by_all log base n commands replies p all in
    record {
      progress = p;
      all = all;
      written = written;
      interleaved = are_interleaved log base n commands replies p small good all;
      each = λ i low high. followed log base all.sound i (commands i) (replies i) (p i) (all.story i low high) (written.spoken i low high);
      alike = λ i j low high low_other high_other.
          alike log base all.sound i j (commands i) (commands j) (replies i) (replies j) (p i) (p j) (all.story i low high) (all.story j low_other high_other) (written.spoken i low high) (written.spoken j low_other high_other);
    }
