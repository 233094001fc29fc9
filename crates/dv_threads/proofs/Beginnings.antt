-- A run begins over a store that was opened or made.
use Rattle.std.proofs.Common.{◌≡◌, ◌≢◌, ◌∙◌, ⊎_elim, inl, inr, ℕ, true, List, [], length, Some, refl, sym, ap, subst, arith}
use Rattle.std.proofs.Math.Path.{fun_ext}
use Rattle.dv_model.specs.declared.types.Entry.{Entry}
use Rattle.dv_model.specs.declared.types.Mailbox.{Mailbox}
use Rattle.dv_model.specs.declared.types.Mark.{Mark}
use Rattle.dv_model.specs.Journals.{Log, at, is_rotation_due}
use Rattle.dv_shelf.specs.declared.shelf.Name.{Name}
use Rattle.dv_shelf.specs.declared.shelf.Name.TheVariants as name
use Rattle.dv_shelf.specs.Folders.{Folder}
use Rattle.dv_shelf.specs.Sees.{SeesFolder, SeesTime}
use Rattle.dv_writing.specs.Debts.{Nothing}
use Rattle.dv_writing.specs.Keeping.{Gives}
use Rattle.dv_writing.proofs.Resting.{rests_give}
use Rattle.dv_files.specs.Texts.{place_of}
use Rattle.dv_dbox.specs.Mails.{guid_in, mail_in}
use Rattle.dv_files.specs.Reading.{guid_at, mail_at}
use Rattle.dv_store.specs.States.{State}
use Rattle.dv_serving.specs.Places.{next_file}
use Rattle.dv_beginning.specs.Begins.{IsBegun, start_of}
use Rattle.dv_beginning.specs.Starts.{log_from, new_log}
use Rattle.dv_beginning.proofs.Starting.{IsBare, start_bare}
use Rattle.dv_tries.specs.Tries.{GivesLog, end_mark}
use Rattle.dv_shared.specs.Beginning.{BeginsFolder}

-- ---- a log without entries

module _ (start : Log) (fresh : start.entries ≡ []) where
  at_start : at start (length start.entries) ≡ Some start.start
  at_start = ap (λ (es : List Entry). at (record start { entries = es }) (length es)) fresh

  mark_start : end_mark start ≡ start.start_mark
  mark_start = ap (λ (es : List Entry). end_mark (record start { entries = es })) fresh

  -- a folder that gives its mailbox at its place gives it
  pub start_given : (c : Folder) → Gives start start.start start.start_mark c → GivesLog start c
  start_given c gives = inl (record { mailbox = start.start; is_there = at_start; gives = subst (λ (k : Mark). Gives start start.start k c) (sym mark_start) gives })

  -- also behind a rotation
  pub turned_given : (c : Folder) → is_rotation_due true start.start_mark ≡ true → Gives start start.start (next_file start.start_mark) c → GivesLog start c
  turned_given c due gives =
      inr (
        subst (λ (k : Mark). is_rotation_due true k ≡ true) (sym mark_start) due,
        record { mailbox = start.start; is_there = at_start; gives = subst (λ (k : Mark). Gives start start.start (next_file k) c) (sym mark_start) gives },
      )

-- ---- messages of the same files

module _ (old new : Folder) (others : (n : Name) → n ≢ name.Log → new n ≡ old n) where
  file_same : (uid : ℕ) → old (name.Mail uid) ≡ new (name.Mail uid)
  file_same uid = sym (others (name.Mail uid) (λ e. cc))

  mails_same : mail_at old ≡ mail_at new
  mails_same = fun_ext (λ uid. ap mail_in (file_same uid))

  guids_same : guid_at old ≡ guid_at new
  guids_same = fun_ext (λ uid. ap guid_in (file_same uid))

  from_same : (indexid : ℕ) (m : Mailbox) (mark : Mark) → log_from indexid m mark old ≡ log_from indexid m mark new
  from_same indexid m mark = λ i. record (log_from indexid m mark old) { mail = mails_same i; guid = guids_same i }

module _ {S C : Type 0} (sees : SeesFolder S) (ticks : SeesTime C) (clock : ℕ → ℕ) (old : S) (store : State S C) (begun : IsBegun sees ticks clock old store) where
  abbrev start : Log
  start = begun.start

  pub bare : IsBare start
  bare = start_bare clock (sees.files old) start begun.used begun.starts

  -- ---- the log is that of the store and its files

  from_old : start ≡ log_from start.indexid start.start start.start_mark (sees.files old)
  from_old = ⊎_elim (λ opened. by_parts opened.0.indexid opened.0.mailbox opened.0.mark opened.0.is) (λ new. by_parts (new_log (clock 0) (sees.files old)).indexid (new_log (clock 0) (sees.files old)).start (new_log (clock 0) (sees.files old)).start_mark new.1) begun.starts
    where
      by_parts : (indexid : ℕ) (m : Mailbox) (mark : Mark) → start ≡ log_from indexid m mark (sees.files old) → start ≡ log_from start.indexid start.start start.start_mark (sees.files old)
      by_parts indexid m mark is = subst (λ (l : Log). l ≡ log_from l.indexid l.start l.start_mark (sees.files old)) (sym is) refl

  pub start_is : start ≡ start_of sees store
  start_is =
      from_old
      ∙ from_same (sees.files old) (sees.files store.shelf) begun.others start.indexid start.start start.start_mark
      ∙ ap (λ (n : ℕ). log_from n start.start start.start_mark (sees.files store.shelf)) begun.rests.stands.named
      ∙ ap (λ (m : Mailbox). log_from store.chain.indexid m start.start_mark (sees.files store.shelf)) begun.mailbox
      ∙ ap (λ (k : Mark). log_from store.chain.indexid store.chain.live.mailbox k (sees.files store.shelf)) (begun.place ∙ sym begun.mark)

  -- ---- what the folder gives then

  gives_at : (c : Folder) → sees.may_leave store.shelf c → Gives start start.start start.start_mark c
  gives_at c left =
      subst (λ (k : Mark). Gives start start.start k c) (sym begun.place)
      (subst (λ (m : Mailbox). Gives start m (place_of store.chain) c) (sym begun.mailbox) (rests_give sees start Nothing store.chain store.shelf c begun.rests.stands left))

  pub gives_start : (c : Folder) → sees.may_leave store.shelf c → GivesLog start c
  gives_start c left = start_given start bare.entries c (gives_at c left)

  -- so a keeper may begin, from this moment on
  pub begins_folder : sees.tells → ((c : Folder) → sees.left_since store.shelf (sees.moment store.shelf) c → sees.may_leave store.shelf c) → BeginsFolder sees start (sees.moment store.shelf) (sees.left_since store.shelf) store
  begins_folder tells only = record {
    told = tells;
    settled = begun.settled;
    rests = begun.rests;
    since = record {
      later = omega arith;
      each = λ c left. gives_start c (only c left);
      before = λ t c le left. inl left;
    };
  }
