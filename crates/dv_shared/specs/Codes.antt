-- How the values that contracts see are stored: each as the tuple of its fields.
use Rattle.std.specs.Prelude.{ℕ, Bool, List, refl}
use Rattle.std.specs.Coded.{Coded, code_by, coded×, coded_bool, coded_list, coded_ℕ}
use Rattle.dv_model.specs.declared.types.Command.{Command}
use Rattle.dv_model.specs.Views.{View}
use Rattle.dv_front.specs.declared.notes.Note.{Note}
use Rattle.dv_generations.specs.Feeds.{Feed}
use Rattle.dv_store.specs.States.{State}
use Rattle.dv_tries.specs.Tries.{Try}
use Rattle.dv_shared.specs.Kept.{Kept, Locked}

abbrev pub try_code : Coded Command → Coded View → Coded Try
try_code command view =
    code_by (ℕ × (ℕ × (Command × (View × ℕ))))
    (coded× coded_ℕ (coded× coded_ℕ (coded× command (coded× view coded_ℕ))))
    (λ t. (t.place, (t.author, (t.command, (t.view, t.reading)))))
    (λ p. record {
      place = p.0;
      author = p.1.0;
      command = p.1.1.0;
      view = p.1.1.1.0;
      reading = p.1.1.1.1;
    })
    (λ _. refl)

abbrev pub feed_code : Coded Note → Coded Feed
feed_code note =
    code_by (List (List Note) × (ℕ × (ℕ × (ℕ × Bool))))
    (coded× (coded_list (coded_list note))
    (coded× coded_ℕ (coded× coded_ℕ (coded× coded_ℕ coded_bool))))
    (λ f. (f.parts, (f.left, (f.spare, (f.words, f.pass)))))
    (λ p. record {
      parts = p.0;
      left = p.1.0;
      spare = p.1.1.0;
      words = p.1.1.1.0;
      pass = p.1.1.1.1;
    })
    (λ _. refl)

abbrev pub kept_code : {S C : Type 0} → Coded (State S C) → Coded Feed → Coded (List Try)
    → Coded (Kept S C)
kept_code {S} {C} store feed tries =
    code_by (State S C × (Feed × (ℕ × List Try)))
    (coded× store (coded× feed (coded× coded_ℕ tries)))
    (λ k. (k.store, (k.feed, (k.count, k.tries))))
    (λ p. record { store = p.0; feed = p.1.0; count = p.1.1.0; tries = p.1.1.1 })
    (λ _. refl)

abbrev pub locked_code : {S C : Type 0} → Coded (Kept S C) → Coded (Locked S C)
locked_code {S} {C} kept =
    code_by (Kept S C × ℕ) (coded× kept coded_ℕ) (λ l. (l.kept, l.refused))
    (λ p. record { kept = p.0; refused = p.1 }) (λ _. refl)
