-- What a repair leaves: a heal, or the last replace of a rotation made again.
use Rattle.std.proofs.Common.{◌≡◌, ⊎_elim, ℕ, ◌+◌, ◌-◌, ◌≤◌, ◌<◌, List, [], ◌∷◌, ◌++◌, length, replicate, take, drop, Option, Some, None, Result, Ok, Err, OnOk, OnErr, refl, sym, ◌∙◌, ap, subst, arith, append_assoc, length-append}
use Rattle.std.specs.Prelude.{unwrap_or}
use Rattle.std.proofs.lemmas.Bool.{cases_lt}
use Rattle.std.proofs.lemmas.List.{append-nil, length-replicate, length-take, take_all, take_at}
use Rattle.dv_model.specs.declared.types.Mailbox.{Mailbox}
use Rattle.dv_model.specs.Journals.{Log}
use Rattle.dv_shelf.specs.declared.shelf.Name.TheVariants as name
use Rattle.dv_shelf.specs.Folders.{Folder, contents, patched}
use Rattle.dv_shelf.proofs.FolderLemmas.{with_else, with_here}
use Rattle.dv_shelf.proofs.Moments.{weaker}
use Rattle.dv_logfile.specs.declared.commit.Debt as log_debt
use Rattle.dv_logfile.specs.declared.commit.Debt.TheVariants as debt
use Rattle.dv_logfile.specs.declared.commit.LogFile.{LogFile}
use Rattle.dv_logfile.specs.Commits.{ShutsGate}
use Rattle.dv_logfile.specs.Gates.{FromOneOf}
use Rattle.dv_logfile.specs.Layout.{closing}
use Rattle.dv_chain.specs.declared.chain.Chain.{Chain}
use Rattle.dv_chain.specs.Rest.{Rests}
use Rattle.dv_chain.specs.Rest as chain_rest
use Rattle.dv_writing.specs.Commits.{HealsChain, HealsFolder, KeepsOthers, OpensBeside, healed}
use Rattle.dv_writing.specs.Opening.{MayOpen}
use Rattle.dv_files.specs.declared.texts.Turn.{Turn}
use Rattle.dv_files.specs.Leavings.{IsPut, Leaves, Puts}
use Rattle.dv_files.specs.Quiet.{FinishesQuietly, RestsFinished}
use Rattle.dv_files.specs.Texts.{IsTurnOf, closed_at}
use Rattle.dv_files.proofs.Grounds.{closed_long}
use Rattle.dv_files.proofs.Replacing.{puts_either}
use Rattle.dv_writing.specs.Debts.{Debt, Fits, Last, Nothing, Pending, Stands, owed_of}
use Rattle.dv_writing.specs.Repairing.{HealsLog, KeepsTurn, RepairsQuietly}
use Rattle.dv_writing.proofs.Kept.{beside_log, beside_put, of_log}
use Rattle.dv_writing.proofs.Resting.{LeavesKept, follows_since, gives_since, leaves_messages, stands_then}
use Rattle.dv_shelf.specs.Sees.{SeesFolder}

pub on_ok : {A B T E : Type 0} (r : Result T E) → (A → B) → OnOk r A → OnOk r B
on_ok (Ok x) f a = f a
on_ok (Err e) f a = tt

pub on_err : {A B T E : Type 0} (r : Result T E) → (A → B) → OnErr r A → OnErr r B
on_err (Ok x) f a = tt
on_err (Err e) f a = f a

-- ---- the log's bytes

-- the bytes up to a place, filled up with zero bytes, are those from which a patch there begins
front_of : (end : ℕ) (b : List ℕ) → take end (b ++ replicate (end - length b) 0) ≡ take end b ++ replicate (end - length b) 0
front_of end b = ⊎_elim short long (cases_lt (length b) end)
  where
    short : length b < end → take end (b ++ replicate (end - length b) 0) ≡ take end b ++ replicate (end - length b) 0
    short less =
        take_all end (b ++ replicate (end - length b) 0) (omega (arith, less, length-append b (replicate (end - length b) 0), length-replicate {A = ℕ} (end - length b) 0))
        ∙ ap (λ (l : List ℕ). l ++ replicate (end - length b) 0) (sym (take_all end b (omega (arith, less))))

    long : end ≤ length b → take end (b ++ replicate (end - length b) 0) ≡ take end b ++ replicate (end - length b) 0
    long le =
        let none : end - length b ≡ 0 = omega (arith, le) in
        rw (none, append-nil b, append-nil (take end b)) refl

-- so a patch there leaves what is kept up to it
closed_again : (end : ℕ) (b bytes : List ℕ) → closed_at end (patched b end bytes) ≡ closed_at end b
closed_again end b bytes =
    ap (closed_at end) (append_assoc front bytes (drop (end + length bytes) b)) ∙ closed_long end (front ++ behind) inside
    ∙ ap (λ (l : List ℕ). l ++ closing) (take_at front behind end long ∙ front_of end b)
  where
    front : List ℕ
    front = take end (b ++ replicate (end - length b) 0)

    behind : List ℕ
    behind = bytes ++ drop (end + length bytes) b

    long : length front ≡ end
    long = omega (arith, length-take end (b ++ replicate (end - length b) 0), length-append b (replicate (end - length b) 0), length-replicate {A = ℕ} (end - length b) 0)

    inside : end ≤ length (front ++ behind)
    inside = omega (arith, long, length-append front behind)

module _ {E : Type 0} (log : LogFile) (old new : Folder) where
  heals_none : (result : Result (Unit {0}) E) → ShutsGate log result old new → new ≡ old → HealsLog log result old new
  heals_none result shuts same = record {
    bytes = shuts;
    others = λ n other. ap (λ (f : Folder). f n) same;
    front = by_result result;
  }
    where
      by_result : (r : Result (Unit {0}) E) → OnOk r (closed_at log.end (contents new name.Log) ≡ closed_at log.end (contents old name.Log))
      by_result (Ok x) = ap (λ (f : Folder). closed_at log.end (contents f name.Log)) same
      by_result (Err e) = tt

  heals_gate : (result : Result (Unit {0}) E) → log.debt ≡ debt.Gate → ShutsGate log result old new → HealsLog log result old new
  heals_gate (Ok x) due shuts =
      let is = shuts.written due in
      record {
        bytes = shuts;
        others = λ n other. ap (λ (f : Folder). f n) is ∙ with_else old name.Log (Some (patched (contents old name.Log) log.end (0 ∷ []))) n other;
        front = ap (λ (f : Folder). closed_at log.end (unwrap_or (f name.Log) [])) is
            ∙ ap (λ (o : Option (List ℕ)). closed_at log.end (unwrap_or o [])) (with_here old name.Log (Some (patched (contents old name.Log) log.end (0 ∷ []))))
            ∙ closed_again log.end (contents old name.Log) (0 ∷ []);
      }
  heals_gate (Err e) due shuts = record { bytes = shuts; others = shuts.torn.others; front = tt }

  pub heals_log : (result : Result (Unit {0}) E) → ShutsGate log result old new → (log.debt ≡ debt.None → new ≡ old) → HealsLog log result old new
  heals_log result shuts nothing = by_debt log.debt refl
    where
      by_debt : (d : log_debt.Debt) → log.debt ≡ d → HealsLog log result old new
      by_debt debt.None e = heals_none result shuts (nothing e)
      by_debt debt.Gate e = heals_gate result e shuts

-- ---- a turn that was made before

pub turn_stays : (turn : Turn) (chain next : Chain) {E : Type 0} (result : Result (Unit {0}) E) (old new : Folder) → HealsChain chain next result → HealsLog chain.log result old new → KeepsTurn turn chain next result old new
turn_stays turn chain next result old new heals bytes = record {
  is = λ is. subst (λ (x : Chain). IsTurnOf x turn) (sym same) (record { index = is.index; now = is.now; small = is.small; new = is.new });
  closes = λ closes. on_ok result (λ front. closes ∙ sym front ∙ ap (λ (k : ℕ). closed_at k (contents new name.Log)) (sym heals.log.1)) bytes.front;
}
  where
    behind : Chain
    behind = record chain { log = record chain.log { debt = next.log.debt } }

    same : next ≡ behind
    same = λ i. record {
      live = heals.live i;
      log = record { file_seq = heals.log.0 i; end = heals.log.1 i; count = heals.log.2 i; debt = next.log.debt };
      indexid = heals.file.0 i;
      records = heals.file.1 i;
    }

-- ---- a heal

module _ {S : Type 0} (sees : SeesFolder S)
    (log : Log) (due : Debt) (chain next : Chain) (old new : S) (stands : Stands sees log due chain old) (live : next.live ≡ chain.live) (indexid : next.indexid ≡ chain.indexid) where
  abbrev owed : chain_rest.Owed
  owed = owed_of chain.live.mailbox due

  mailbox : next.live.mailbox ≡ chain.live.mailbox
  mailbox = λ i. (live i).mailbox

  healed_rests : Fits None due → Rests sees (healed owed) next new → Rests sees chain_rest.Nothing next new
  healed_rests fits = by_debt due fits
    where
      by_debt : (d : Debt) → Fits None d → Rests sees (healed (owed_of chain.live.mailbox d)) next new → Rests sees chain_rest.Nothing next new
      by_debt Nothing fits rests = rests
      by_debt (Pending text after written) fits rests = rests
      by_debt (Last file) fits rests = absurd fits

  owed_rests : Rests sees owed next new → Rests sees (owed_of next.live.mailbox due) next new
  owed_rests rests = subst (λ (m : Mailbox). Rests sees (owed_of m due) next new) (sym mailbox) rests

  pub healed_quiet : {T E : Type 0} (result : Result T E) → Fits None due → HealsFolder sees owed chain next result old new → ((c : Folder) → sees.may_leave new c → sees.left_since new (sees.moment old) c)
      → RepairsQuietly sees log due chain next result old new
  healed_quiet result fits heals now =
      let kept = leaves_messages chain.live.mailbox due KeepsOthers beside_log in
      let from = weaker sees old new (FromOneOf (sees.may_leave old) (OpensBeside owed chain)) (FromOneOf (sees.may_leave old) KeepsOthers) heals.any_moment (λ c step. (step.0, step.1, step.2.0)) in
      let opens = weaker sees old new (FromOneOf (sees.may_leave old) (OpensBeside owed chain)) (MayOpen owed chain) heals.any_moment (λ c step. step.2.1) in
      let follows = follows_since sees old new KeepsOthers now from in
      record {
        since = gives_since sees log due chain old stands KeepsOthers kept due (λ is. is) (λ c is. is) new from opens;
        ok = on_ok result (λ rests. stands_then sees log due chain old stands KeepsOthers kept Nothing (λ is. tt) (λ c is. tt) next new mailbox indexid (healed_rests fits rests) follows) heals.ok;
        err = on_err result (λ rests. stands_then sees log due chain old stands KeepsOthers kept due (λ is. is) (λ c is. is) next new mailbox indexid (owed_rests rests) follows) heals.err;
      }

-- ---- the last replace of a rotation

module _ {S : Type 0} (sees : SeesFolder S)
    (log : Log) (turn : Turn) (chain next : Chain) (old new : S) (live : next.live ≡ chain.live) (indexid : next.indexid ≡ chain.indexid) where
  abbrev put : Folder → Folder → Type 0
  put = IsPut name.Log turn.new

  finished : {T E : Type 0} (result : Result T E) → Stands sees log (Last turn.new) chain old → Leaves sees (Puts name.Log turn.new result) put old new → FinishesQuietly sees turn chain next result old new
      → RepairsQuietly sees log (Last turn.new) chain next result old new
  finished {T = T} {E = E} result stands leaves quiet = record {
    since = gives_since sees log (Last turn.new) chain old stands put kept (Last turn.new) (λ is. tt) (λ c is. is) new leaves.since quiet.since;
    ok = ok result quiet.rests;
    err = err result quiet.rests;
  }
    where
      kept : LeavesKept chain.live.mailbox (Last turn.new) put
      kept = leaves_messages chain.live.mailbox (Last turn.new) put (λ d c is. beside_put name.Log turn.new d c of_log is)

      follows : (c : Folder) → sees.may_leave new c → (d : Folder) × sees.may_leave old d × put d c
      follows c left =
          let from = leaves.crash c left in
          (from.0, from.1, puts_either name.Log turn.new result from.0 c from.2)

      ok : (r : Result T E) → RestsFinished sees turn next new r → OnOk r (Stands sees log Nothing next new)
      ok (Ok x) rests = stands_then sees log (Last turn.new) chain old stands put kept Nothing (λ is. tt) (λ c is. tt) next new (λ i. (live i).mailbox) indexid rests follows
      ok (Err e) rests = tt

      err : (r : Result T E) → RestsFinished sees turn next new r → OnErr r (Stands sees log (Last turn.new) next new)
      err (Ok x) rests = tt
      err (Err e) rests = stands_then sees log (Last turn.new) chain old stands put kept (Last turn.new) (λ is. tt) (λ c is. tt) next new (λ i. (live i).mailbox) indexid rests follows

  pub finished_quiet : {T E : Type 0} (result : Result T E) (due : Debt) → Fits (Some turn) due → Stands sees log due chain old → Leaves sees (Puts name.Log turn.new result) put old new
      → (chain_rest.Rests sees (chain_rest.Last turn.new chain.live.mailbox) chain old → FinishesQuietly sees turn chain next result old new) → RepairsQuietly sees log due chain next result old new
  finished_quiet result Nothing fits stands leaves quiet = absurd fits
  finished_quiet result (Pending text after written) fits stands leaves quiet = absurd fits
  finished_quiet result (Last file) fits stands leaves quiet =
      let here = subst (λ (n : List ℕ). Stands sees log (Last n) chain old) (sym fits) stands in
      subst (λ (n : List ℕ). RepairsQuietly sees log (Last n) chain next result old new) fits (finished result here leaves (quiet here.rests))
