-- A store that rests behind notes and tries rests behind those of its commit, and what a crash
-- leaves meanwhile.
use Rattle.std.proofs.Common.{◌≡◌, ◌⊎◌, inl, inr, ⊎_elim, ℕ, ◌≤◌, Bool, true, false, List, [], ◌∷◌, ◌++◌, length, Option, Some, None, Result, Ok, Err, refl, sym, ◌∙◌, ap, subst, arith}
use Rattle.std.specs.Prelude.{Any, IsSome, unwrap_or}
use Rattle.std.proofs.lemmas.List.Quantifiers.{Any-push}
use Rattle.dv_model.specs.declared.types.Command.{Command}
use Rattle.dv_model.specs.declared.types.Group.{Group}
use Rattle.dv_model.specs.declared.types.Mailbox.{Mailbox}
use Rattle.dv_model.specs.declared.types.Mark.{Mark}
use Rattle.dv_model.specs.declared.types.Record.{Record}
use Rattle.dv_model.specs.Effects.{applied}
use Rattle.dv_model.specs.Journals.{IsSound, Log, at, is_rotation_due, mark_behind}
use Rattle.dv_model.specs.Sessions.{group_of}
use Rattle.dv_model.specs.Transcripts.{Line, with_written}
use Rattle.dv_model.specs.Views.{View, empty_view}
use Rattle.dv_shelf.specs.Folders.{Folder}
use Rattle.dv_shelf.specs.Sees.{SeesFolder}
use Rattle.dv_shelf.proofs.Moments.{weaker}
use Rattle.dv_validity.proofs.Groups.{group_applies}
use Rattle.dv_validity.proofs.Logs.{written_at}
use Rattle.dv_groups.specs.Groups.{HasSizes}
use Rattle.dv_front.specs.declared.notes.Note.{Note}
use Rattle.dv_notes.specs.Logs.{log_of, note_of}
use Rattle.dv_notes.proofs.Logs.{logs_are_sound, logs_go_on}
use Rattle.dv_files.specs.Texts.{place_of}
use Rattle.dv_writing.specs.Debts.{Debt, Last, Nothing, Pending}
use Rattle.dv_writing.specs.Keeping.{Gives}
use Rattle.dv_writing.specs.Opening as opening
use Rattle.dv_writing.specs.Writes.{Write, group_by, log_with}
use Rattle.dv_writing.proofs.Resting.{rests_give}
use Rattle.dv_plans.specs.declared.fault.StoreFault.{StoreFault}
use Rattle.dv_plans.specs.declared.fault.StoreFault.TheVariants as fault
use Rattle.dv_playing.specs.Playing.{Play, with_group_here}
use Rattle.dv_store.specs.declared.receipt.Receipt.{Receipt}
use Rattle.dv_store.specs.Commits.{CommitsQuietly, IsUnwritten, StaysAs, write_at}
use Rattle.dv_store.specs.Rest.{IsAtRest}
use Rattle.dv_store.specs.States.{State}
use Rattle.dv_serving.specs.Commits.{GivesDuring, GivesOwed, HasFailed, HasCommitted, IsPendingHere, Meets, OwesBehind}
use Rattle.dv_serving.specs.Places.{GivesPlay, GivesWith, begin_at, next_file}
use Rattle.dv_serving.proofs.Alike.{dated_same}
use Rattle.dv_serving.proofs.Allowed.{sound_sizes}
use Rattle.dv_serving.proofs.Committing.{has_failed, has_written}
use Rattle.dv_serving.proofs.Crashing.{rest_gives, text_behind}
use Rattle.dv_serving.proofs.Places.{with_group}
use Rattle.dv_tries.specs.Commits.{CommitsTold, LeavesBehind, MayCommit, notes_behind, selected_with, tries_behind, try_of, with_records}
use Rattle.dv_tries.specs.Laws.{CommitsKeep, RestGivesLast}
use Rattle.dv_tries.specs.Standing.{IsOwedOf, IsPendingBy, RestsBehind, StandsBehind}
use Rattle.dv_tries.specs.Tries.{GivesGroup, GivesLast, GivesLog, GivesMailbox, Try, end_mark, write_by}
use Rattle.dv_tries.proofs.Growing.{any_front, any_weaker}
use Rattle.dv_tries.proofs.Standing.{play_with, with_some, written_mark}

-- ---- a write over a log

some_after : (o : Option Mailbox) → IsSome o → (after : Mailbox) × (o ≡ Some after)
some_after None is = absurd cc
some_after (Some after) is = (after, refl)

-- ---- a store at rest behind notes and tries

module _ {S C : Type 0} (sees : SeesFolder S) (tells : Type 0) (start : Log) (notes : List Note) (tries : List Try) (old : State S C) (stands : StandsBehind start notes old) (rests : RestsBehind sees tells start notes tries old) where
  abbrev log : Log
  log = log_of start notes

  abbrev m : Mailbox
  m = old.chain.live.mailbox

  abbrev play : View → Play
  play view = play_with start notes old stands view

  sound : IsSound log
  sound = logs_are_sound start notes stands.notes_are

  sizes : HasSizes log.guid
  sizes = sound_sizes log sound

  -- ---- what is given

  module _ (c : Folder) where
    -- the mailbox with a group that is owed is that with the group of a try
    pending_gives : (t : Try) (text : List ℕ) (after : Mailbox) (written : Log) → place_of old.chain ≡ begin_at (end_mark log) → IsPendingBy tells log t text after written → Gives written after (opening.mark_behind text old.chain) c → GivesGroup tells log t c
    pending_gives t text after written at pending gives =
        let dated = pending.dated in
        let write : Write = write_by t dated.at in
        let g : Group = group_by log write pending.met in
        let with : Log = log_with log write pending.met in
        let mark_is : opening.mark_behind text old.chain ≡ end_mark with =
        text_behind text g old.chain (end_mark log) dated.is.0 at
        ∙ ap (λ (b : Bool). mark_behind b (end_mark log) g) (sym stands.rotates)
        ∙ sym (written_mark log write.author write.command write.received g pending.met) in
        record {
          met = pending.met;
          was_there = pending.was_there;
          dated = record {
            at = dated.at;
            small = dated.small;
            clock = dated.clock;
            is = record {
              mailbox = after;
              is_there = written_at log sound write.author write.command write.received g pending.met pending.was_there ∙ dated.is.1;
              gives = subst (λ (l : Log). Gives l after (end_mark with) c) dated.is.2 (subst (λ (k : Mark). Gives written after k c) mark_is gives);
            };
          };
        }

    owed_gives : (debt : Debt) → IsOwedOf tells start notes tries (place_of old.chain) debt → GivesOwed debt old.chain c → Any (λ (t : Try). (t.place ≡ length notes) × GivesGroup tells log t c) tries
    owed_gives Nothing is gives = absurd gives
    owed_gives (Last new) is gives = absurd gives
    owed_gives (Pending text after written) is gives =
        any_weaker (λ (t : Try). (t.place ≡ length notes) × IsPendingBy tells log t text after written) (λ (t : Try). (t.place ≡ length notes) × GivesGroup tells log t c) tries
        (λ t of. (of.0, pending_gives t text after written is.0 of.1 gives)) is.1

    play_gives : (view : View) → GivesPlay (play view) c → GivesLog log c
    play_gives view =
        ⊎_elim (λ here. inl (record { mailbox = m; is_there = stands.mailbox; gives = subst (λ (k : Mark). Gives log m k c) stands.mark here }))
        (λ turned. inr (
          ap (is_rotation_due true) (sym stands.mark) ∙ turned.0,
          record { mailbox = m; is_there = stands.mailbox; gives = subst (λ (k : Mark). Gives log m (next_file k) c) stands.mark turned.1 },
        ))

    before_gives : (view : View) → GivesPlay (play view) c ⊎ GivesOwed rests.debt old.chain c → GivesLast tells start notes tries c
    before_gives view = ⊎_elim (λ here. inl (play_gives view here)) (λ owed. inr (owed_gives rests.debt rests.owed owed))

    pub rest_last : sees.may_leave old.shelf c → GivesLast tells start notes tries c
    rest_last left =
        before_gives empty_view (rest_gives (play empty_view) old.chain c rests.debt old.owed refl stands.place rests.rests.fits (rests_give sees log rests.debt old.chain old.shelf c rests.rests.stands left))

  -- ---- a commit

  module _ (author : ℕ) (c : Command) (view : View) (upcoming : ℕ → ℕ) (may : MayCommit author c view) (new : State S C) where
    abbrev line : Line
    line = (author, c)

    abbrev here : Play
    here = play view

    meets : Meets here line view old
    meets = record { rotates = stands.rotates; mailbox = refl; place = stands.place; seen = refl }

    abbrev t : Try
    t = try_of (length notes) author c view old upcoming

    abbrev Leaves : List Note → List Try → Type 0
    Leaves notes_now tries_now = LeavesBehind sees tells start notes notes_now tries tries_now old new

    -- ---- nothing is written

    place_stays : StaysAs old new → place_of old.chain ≡ place_of new.chain
    place_stays stays = ap (λ l. record { file_seq = l.file_seq; offset = l.end }) (sym stays.chain.log)

    keeps_unwritten : (result : Result Receipt StoreFault) → CommitsTold sees tells c view upcoming old new result → IsUnwritten result → Leaves notes tries
    keeps_unwritten result told none = record {
      rests = record {
        debt = rests.debt;
        owed = subst (λ (p : Mark). IsOwedOf tells start notes tries p rests.debt) (place_stays (told.value.unwritten none)) rests.owed;
        rests = (told.gives.is log rests.debt author rests.rests).unwritten none;
      };
      since = weaker sees old.shelf new.shelf (sees.may_leave old.shelf) (λ d. GivesLast tells start notes tries d ⊎ GivesLast tells start notes tries d) (told.looks none).since (λ d left. inl (rest_last d left));
    }

    -- ---- the group is written

    module _ (receipt : Receipt) (told : CommitsTold sees tells c view upcoming old new (Ok receipt)) (more : 1 ≤ length receipt.group.records) where
      abbrev received : ℕ
      received = told.gives.at

      abbrev write : Write
      write = write_at author c view received

      abbrev clock : ℕ → ℕ
      clock = λ n. received

      quiet : CommitsQuietly sees log rests.debt write old new (Ok receipt)
      quiet = told.gives.is log rests.debt author rests.rests

      abbrev noted : List Note
      noted = notes ++ note_of log author c receipt.received receipt.group m ∷ []

      is_done : HasCommitted sees clock here line rests.debt receipt old new
      is_done = has_written sees clock here line (selected_with view) refl old meets sizes (may.author_is, may.command) may.write may.allowed received refl rests.debt rests.rests.fits new receipt told.value quiet more

      log_is : log_of start noted ≡ log_with log write m
      log_is =
          logs_go_on start notes author c receipt.received receipt.group m
          ∙ ap (λ (g : Group). with_written log author c receipt.received g m) (quiet.group sizes)
          ∙ dated_same log author c receipt.received received (group_by log write m) m (λ append. quiet.received append more)

      behind_is : log_with log write m ≡ (with_group_here clock here line).log
      behind_is = ap (λ (p : Play). p.log) (sym (with_group clock here line is_done.may.some))

      with_gives : (d : Folder) → StandsBehind start noted new → GivesWith clock here line d → GivesLog (log_of start noted) d
      with_gives d now gives =
          let behind : Play = with_group_here clock here line in
          inl (record {
            mailbox = new.chain.live.mailbox;
            is_there = now.mailbox;
            gives = subst (λ (l : Log). Gives l new.chain.live.mailbox (end_mark (log_of start noted)) d) (sym behind_is ∙ sym log_is)
                (subst (λ (k : Mark). Gives behind.log new.chain.live.mailbox k d) (is_done.mark ∙ now.mark) (subst (λ (b : Mailbox). Gives behind.log b behind.mark d) is_done.mailbox gives));
          })

      keeps_written : StandsBehind start noted new → Leaves noted tries
      keeps_written now = record {
        rests = record { debt = Nothing; owed = tt; rests = subst (λ (l : Log). IsAtRest sees l Nothing new) (sym log_is) (quiet.ok more) };
        since = weaker sees old.shelf new.shelf (GivesDuring clock here line rests.debt old.chain) (λ d. GivesLast tells start notes tries d ⊎ GivesLast tells start noted tries d) is_done.since
            (λ d. ⊎_elim (λ before. inl (before_gives d view before)) (λ with. inr (inl (with_gives d now with))));
      }

    -- ---- the disk failed it

    module _ (faults : ℕ) (told : CommitsTold sees tells c view upcoming old new (Err (fault.Disk faults))) where
      abbrev came : ℕ
      came = told.gives.at

      abbrev ticks : ℕ → ℕ
      ticks = λ n. came

      has : HasFailed sees ticks here line rests.debt old new
      has =
          has_failed sees ticks here line (selected_with view) refl old meets sizes (may.author_is, may.command) may.write may.allowed came refl rests.debt rests.rests.fits new faults told.value
          (told.gives.is log rests.debt author rests.rests)

      abbrev g : Group
      g = group_of c view m log.guid

      abbrev with : Log
      with = log_with log (write_by t came) m

      pending_by : (text : List ℕ) (after : Mailbox) (written : Log) → IsPendingHere ticks here line (Pending text after written) → IsPendingBy tells log t text after written
      pending_by text after written pending = record {
        met = m;
        was_there = stands.mailbox;
        dated = record { at = came; small = told.gives.small; clock = told.gives.clock; is = (pending.0, pending.1, pending.2 ∙ ap (λ (p : Play). p.log) (with_group ticks here line has.may.some)) };
      }

      -- what was owed still is
      owed_longer : (debt : Debt) → IsOwedOf tells start notes tries (place_of old.chain) debt → IsOwedOf tells start notes (tries ++ t ∷ []) (place_of old.chain) debt
      owed_longer Nothing is = tt
      owed_longer (Last file) is = tt
      owed_longer (Pending text after written) is =
          (is.0, any_front (λ (u : Try). (u.place ≡ length notes) × IsPendingBy tells log u text after written) tries (t ∷ []) is.1)

      owed_here : (debt : Debt) → IsPendingHere ticks here line debt → place_of new.chain ≡ begin_at old.mark → IsOwedOf tells start notes (tries ++ t ∷ []) (place_of new.chain) debt
      owed_here Nothing pending place = absurd pending
      owed_here (Last file) pending place = absurd pending
      owed_here (Pending text after written) pending place = (
        place ∙ ap begin_at stands.mark,
        Any-push (λ (u : Try). (u.place ≡ length notes) × IsPendingBy tells log u text after written) tries t (refl, pending_by text after written pending),
      )

      abbrev Owes : Debt → Type 0
      Owes debt = IsOwedOf tells start notes (tries ++ t ∷ []) (place_of new.chain) debt

      owed_now : (now : Debt) → OwesBehind ticks here line (place_of old.chain) (place_of new.chain) rests.debt now → Owes now
      owed_now now =
          ⊎_elim
          (λ same. subst Owes (sym same.0) (subst (λ (p : Mark). IsOwedOf tells start notes (tries ++ t ∷ []) p rests.debt) (sym same.1) (owed_longer rests.debt rests.owed)))
          (⊎_elim (⊎_elim (λ none. subst Owes (sym none) tt) (λ last. subst Owes (sym last.1) tt))
          (λ pending. owed_here now pending.0 pending.1))

      group_gives : (d : Folder) → GivesWith ticks here line d → GivesGroup tells log t d
      group_gives d gives =
          let after = some_after (applied m g.records) (group_applies c view m log.guid may.command) in
          let written = subst (λ (p : Play). Gives p.log p.mailbox p.mark d) (with_group ticks here line has.may.some) gives in
          let mark_is : mark_behind log.rotates old.mark g ≡ end_mark with = ap (λ (k : Mark). mark_behind log.rotates k g) stands.mark ∙ sym (written_mark log author c came g m) in
          record {
            met = m;
            was_there = stands.mailbox;
            dated = record {
              at = came;
              small = told.gives.small;
              clock = told.gives.clock;
              is = record {
                mailbox = after.0;
                is_there = written_at log sound author c came g m stands.mailbox ∙ after.1;
                gives = subst (λ (b : Mailbox). Gives with b (end_mark with) d) (ap (λ (o : Option Mailbox). unwrap_or o m) after.1) (subst (λ (k : Mark). Gives with (unwrap_or (applied m g.records) m) k d) mark_is written);
              };
            };
          }

      keeps_failed : Leaves notes (tries ++ t ∷ [])
      keeps_failed = record {
        rests = record { debt = has.now; owed = owed_now has.now has.left.owes; rests = has.rests };
        since = weaker sees old.shelf new.shelf (GivesDuring ticks here line rests.debt old.chain) (λ d. GivesLast tells start notes tries d ⊎ GivesLast tells start notes (tries ++ t ∷ []) d) has.since
            (λ d. ⊎_elim (λ before. inl (before_gives d view before))
            (λ with_group. inr (inr (Any-push (λ (u : Try). (u.place ≡ length notes) × GivesGroup tells log u d) tries t (refl, group_gives d with_group)))));
      }

    -- ---- what came of it

    keeps_ok : (receipt : Receipt) → CommitsTold sees tells c view upcoming old new (Ok receipt) → StandsBehind start (notes_behind start notes author c old (Ok receipt)) new → Leaves (notes_behind start notes author c old (Ok receipt)) tries
    keeps_ok receipt told = by_records receipt.group.records refl
      where
        note : Note
        note = note_of log author c receipt.received receipt.group m

        by_records : (rs : List Record) → receipt.group.records ≡ rs → StandsBehind start (with_records notes note receipt.group.records) new → Leaves (with_records notes note receipt.group.records) tries
        by_records [] none now = subst (λ (ns : List Note). Leaves ns tries) (ap (with_records notes note) (sym none)) (keeps_unwritten (Ok receipt) told none)
        by_records (r ∷ rs) is now =
            let more : 1 ≤ length receipt.group.records = subst (λ (xs : List Record). 1 ≤ length xs) (sym is) (omega arith) in
            let same = with_some notes note receipt.group.records more in
            subst (λ (ns : List Note). Leaves ns tries) same (keeps_written receipt told more (subst (λ (ns : List Note). StandsBehind start ns new) (sym same) now))

    pub keeps : (result : Result Receipt StoreFault) → CommitsTold sees tells c view upcoming old new result → StandsBehind start (notes_behind start notes author c old result) new → Leaves (notes_behind start notes author c old result) (tries_behind tries t result)
    keeps (Ok receipt) told now = keeps_ok receipt told now
    keeps (Err (fault.Disk faults)) told now = keeps_failed faults told
    keeps (Err fault.UidsUsedUp) told now = keeps_unwritten (Err fault.UidsUsedUp) told tt
    keeps (Err (fault.TooLong bytes)) told now = keeps_unwritten (Err (fault.TooLong bytes)) told tt
    keeps (Err fault.NoMemory) told now = keeps_unwritten (Err fault.NoMemory) told tt

-- ---- laws

pub rest_gives_last : {S : Type 0} (C : Type 0) (sees : SeesFolder S) (tells : Type 0) → RestGivesLast C sees tells
rest_gives_last C sees tells start notes tries store c stands rests = rest_last sees tells start notes tries store stands rests c

pub commits_keep : {S : Type 0} (C : Type 0) (sees : SeesFolder S) (tells : Type 0) → CommitsKeep C sees tells
commits_keep C sees tells start notes tries author c view upcoming old new result stands rests may told now =
    keeps sees tells start notes tries old stands rests author c view upcoming may new result told now
