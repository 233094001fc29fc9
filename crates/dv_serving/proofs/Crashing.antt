-- What a crash leaves at any moment of a write: the play, or that with what is owed, or that with the
-- line's group.
use Rattle.std.proofs.Common.{◌≡◌, ◌⊎◌, inl, inr, ⊎_elim, ℕ, ◌+◌, ◌-◌, Bool, true, false, ◌||◌, List, ◌++◌, length, Option, Some, None, refl, sym, ◌∙◌, ap, subst, arith}
use Rattle.std.specs.Prelude.{IsSome, if◌then◌else◌}
use Rattle.std.proofs.lemmas.List.{length-append}
use Rattle.dv_model.specs.declared.types.Group.{Group}
use Rattle.dv_model.specs.declared.types.Mailbox.{Mailbox}
use Rattle.dv_model.specs.declared.types.Mark.{Mark}
use Rattle.dv_model.specs.Effects.{applied}
use Rattle.dv_model.specs.Journals.{Log, header_size, is_rotation_due}
use Rattle.dv_model.specs.Journals as journals
use Rattle.dv_model.specs.Sessions.{is_write, reads_mail}
use Rattle.dv_model.specs.Spelling.{group_text}
use Rattle.dv_model.specs.Transcripts.{Line, touches_disk}
use Rattle.dv_shelf.specs.Folders.{Folder}
use Rattle.dv_logfile.specs.Layout.{closing}
use Rattle.dv_chain.specs.declared.chain.Chain.{Chain}
use Rattle.dv_chain.specs.Rest.{next_mark}
use Rattle.dv_files.specs.declared.texts.Turn.{Turn}
use Rattle.dv_files.specs.Texts.{place_of}
use Rattle.dv_writing.specs.Debts.{Debt, Fits, Last, Nothing, Pending}
use Rattle.dv_writing.specs.Debts as debts
use Rattle.dv_writing.specs.Keeping.{Gives}
use Rattle.dv_writing.specs.Opening.{mark_behind}
use Rattle.dv_writing.specs.Writes.{Write, group_by, log_with}
use Rattle.dv_plans.specs.Begins.{turns}
use Rattle.dv_playing.specs.Laws.{MayWrite}
use Rattle.dv_playing.specs.Playing.{Play, group_here, is_empty, with_group_here}
use Rattle.dv_store.specs.Commits.{MayGiveCommit, end_with}
use Rattle.dv_serving.specs.Commits.{GivesDuring, GivesOwed, IsWriteAt}
use Rattle.dv_serving.specs.Places.{GivesPlay, GivesWith, StandsAt, begin_at, next_file}
use Rattle.dv_serving.proofs.Matching.{after_here, mailbox_behind}

-- ---- where the log ends

module _ (play : Play) (c : Folder) where
  -- at its end, or in the new file
  pub gives_at : (begun : Bool) (place : Mark) (owed : Option Turn) → StandsAt begun play.mark place owed → Gives play.log play.mailbox place c → GivesPlay play c
  gives_at false place owed stands gives = inl (subst (λ (mark : Mark). Gives play.log play.mailbox mark c) stands.0 gives)
  gives_at true place owed stands gives =
      ⊎_elim (λ at. inl (subst (λ (mark : Mark). Gives play.log play.mailbox mark c) at.0 gives))
      (λ at. inr (stands.0, subst (λ (mark : Mark). Gives play.log play.mailbox mark c) at.0 gives)) stands.1

  -- at the first place of a file whose rotation is owed
  pub gives_owed : (begun : Bool) (place : Mark) (owed : Option Turn) → StandsAt begun play.mark place owed → IsSome owed → Gives play.log play.mailbox (next_file place) c → GivesPlay play c
  gives_owed begun place None stands some gives = absurd cc
  gives_owed false place (Some turn) stands some gives = absurd cc
  gives_owed true place (Some turn) stands some gives =
      ⊎_elim (λ at. inr (stands.0, subst (λ (mark : Mark). Gives play.log play.mailbox (next_file mark) c) at.0 gives)) (λ at. absurd cc) stands.1

  -- or is due
  pub gives_due : (begun : Bool) (place : Mark) (owed : Option Turn) → StandsAt begun play.mark place owed → is_rotation_due true place ≡ true → Gives play.log play.mailbox (next_file place) c → GivesPlay play c
  gives_due false place owed stands due gives =
      inr (ap (is_rotation_due true) (sym stands.0) ∙ due, subst (λ (mark : Mark). Gives play.log play.mailbox (next_file mark) c) stands.0 gives)
  gives_due true place owed stands due gives =
      ⊎_elim (λ at. inr (stands.0, subst (λ (mark : Mark). Gives play.log play.mailbox (next_file mark) c) at.0 gives))
      (λ at. absurd (none_new at.0)) stands.1
    where
      none_new : place ≡ next_file play.mark → ⊥
      none_new at = let new : false ≡ true = ap (is_rotation_due true) (sym at) ∙ due in cc

-- where a rotation comes first it is due
pub due_of : (owed : Option Turn) (chain : Chain) → turns owed chain ≡ true → is_rotation_due true (place_of chain) ≡ true
due_of None chain is = is
due_of (Some turn) chain is = absurd cc

-- ---- a group behind the log's end

-- the place behind so many bytes
abbrev moved : Mark → ℕ → Mark
moved mark n = record { file_seq = mark.file_seq; offset = mark.offset + n }

pub moved_behind : (mark : Mark) (g : Group) → moved (begin_at mark) (length (group_text g)) ≡ journals.mark_behind true mark g
moved_behind mark g = by_due (is_rotation_due true mark)
  where
    by_due : (b : Bool) → moved (if b then next_file mark else mark) (length (group_text g))
        ≡ (if b then record { file_seq = mark.file_seq + 1; offset = header_size + length (group_text g) } else record mark { offset = mark.offset + length (group_text g) })
    by_due true = refl
    by_due false = refl

-- a group's text that would begin there ends so
pub text_behind : (text : List ℕ) (g : Group) (chain : Chain) (mark : Mark) → text ≡ group_text g ++ closing → place_of chain ≡ begin_at mark → mark_behind text chain ≡ journals.mark_behind true mark g
text_behind text g chain mark is at =
    let long : length text ≡ length (group_text g) + 4 = ap length is ∙ length-append (group_text g) closing in
    let offset : chain.log.end + length text - 4 ≡ chain.log.end + length (group_text g) = omega (arith, long) in
    ap (λ (n : ℕ). record { file_seq = chain.log.file_seq; offset = n }) offset ∙ ap (λ (place : Mark). moved place (length (group_text g))) at ∙ moved_behind mark g

-- the log with a line's group
pub group_gives : (clock : ℕ → ℕ) (play : Play) (line : Line) (log : Log) (after : Mailbox) (mark : Mark) (c : Folder) → is_empty (group_here play line) ≡ false → applied play.mailbox (group_here play line).records ≡ Some after
    → log ≡ (with_group_here clock play line).log → mark ≡ (with_group_here clock play line).mark → Gives log after mark c → GivesWith clock play line c
group_gives clock play line log after mark c some made log_is mark_is gives =
    let behind : Play = with_group_here clock play line in
    subst (λ (k : Mark). Gives behind.log behind.mailbox k c) mark_is
    (subst (λ (m : Mailbox). Gives behind.log m mark c) (mailbox_behind clock play line some after made) (subst (λ (l : Log). Gives l after mark c) log_is gives))

-- a write reaches the disk
pub write_touches : (line : Line) → is_write line.1 ≡ true → touches_disk line.1 ≡ true
write_touches line write = ap (λ (b : Bool). b || reads_mail line.1) write

-- ---- a store at rest where a play stands

-- it gives the play, or that with what is owed
pub rest_gives : (play : Play) (chain : Chain) (c : Folder) (debt : Debt) (owed : Option Turn) → play.mailbox ≡ chain.live.mailbox → StandsAt play.begun play.mark (place_of chain) owed → Fits owed debt
    → debts.MayGive play.log debt chain c → GivesPlay play c ⊎ GivesOwed debt chain c
rest_gives play chain c debt owed mailbox stands fits = by_debt debt owed stands fits
  where
    here : (o : Option Turn) → StandsAt play.begun play.mark (place_of chain) o → Gives play.log chain.live.mailbox (place_of chain) c → GivesPlay play c
    here o at gives = gives_at play c play.begun (place_of chain) o at (subst (λ (m : Mailbox). Gives play.log m (place_of chain) c) (sym mailbox) gives)

    by_debt : (d : Debt) (o : Option Turn) → StandsAt play.begun play.mark (place_of chain) o → Fits o d → debts.MayGive play.log d chain c → GivesPlay play c ⊎ GivesOwed d chain c
    by_debt Nothing o at fit gives = inl (here o at gives)
    by_debt (Pending text after written) o at fit gives = ⊎_elim (λ before. inl (here o at before)) inr gives
    by_debt (Last new) None at fit gives = absurd fit
    by_debt (Last new) (Some turn) at fit gives =
        inl (⊎_elim (here (Some turn) at)
        (λ next. gives_owed play c play.begun (place_of chain) (Some turn) at refl (subst (λ (m : Mailbox). Gives play.log m (next_mark chain) c) (sym mailbox) next))
        gives)

-- ---- a commit

module _ (clock : ℕ → ℕ) (play : Play) (line : Line) (write : Write) (owed : Option Turn) (chain : Chain) (at : IsWriteAt clock play line write owed chain) (debt : Debt)
    (stands : StandsAt play.begun play.mark (place_of chain) owed) (fits : Fits owed debt) (may : MayWrite play line) (c : Folder) where
  pub commit_gives : MayGiveCommit play.log debt write owed chain c → GivesDuring clock play line debt chain c
  commit_gives =
      ⊎_elim (λ before. inl (rest_gives play chain c debt owed at.mailbox stands fits before))
      (⊎_elim
      (λ turned. inl (inl (gives_due play c play.begun (place_of chain) owed stands (due_of owed chain turned.0) (subst (λ (m : Mailbox). Gives play.log m (next_mark chain) c) (sym at.mailbox) turned.1))))
      (λ with. inr (group_gives clock play line (log_with play.log write chain.live.mailbox) with.0 (end_with owed chain (group_by play.log write chain.live.mailbox).records) c may.some
      (after_here clock play line write owed chain at with.0 with.1) (at.log may.some) (ap (λ (g : Group). end_with owed chain g.records) at.group ∙ at.mark may.some) with.2)))
