-- What one replace leaves, and several, one behind the other.
use Rattle.std.proofs.Common.{◌≡◌, inl, inr, ⊎_elim, ℕ, List, Some, Result, Ok, Err, OnOk, OnErr, refl, ◌∙◌, ap, subst}
use Rattle.dv_shelf.specs.declared.shelf.Name.{Name}
use Rattle.dv_shelf.specs.declared.shelf.Name.TheVariants as name
use Rattle.dv_shelf.specs.Crashes.{Elapses, Follows}
use Rattle.dv_shelf.specs.Folders.{ChangesOnly, Folder, IsEither, with_file}
use Rattle.dv_shelf.proofs.FolderLemmas.{with_file_is, with_same}
use Rattle.dv_shelf.proofs.Moments.{goes_on, joined, started, weaker}
use Rattle.dv_logfile.specs.Gates.{FromOneOf}
use Rattle.dv_files.specs.declared.texts.Turn.{Turn}
use Rattle.dv_files.specs.Leavings.{IsBeforeLast, IsPut, IsTurning, Leaves, Puts, with_new, with_old}
use Rattle.dv_shelf.specs.Sees.{SeesFolder}

either_put : (old c : Folder) (n : Name) (text : List ℕ) → ChangesOnly n (IsEither (Some text)) old c → IsPut n text old c
either_put old c n text step =
    ⊎_elim (λ same. inl (with_file_is old c n (old n) same step.others ∙ with_same old n)) (λ put. inr (with_file_is old c n (Some text) put step.others)) step.there

pub puts_either : {T E : Type 0} (n : Name) (text : List ℕ) (result : Result T E) (old c : Folder) → Puts n text result old c → IsPut n text old c
puts_either n text (Ok x) old c put = inr put
puts_either n text (Err e) old c put = put

module _ {S : Type 0} (sees : SeesFolder S) where
  pub replaced : {T E : Type 0} (old new : S) (n : Name) (text : List ℕ) (result : Result T E) → ((c : Folder) → sees.left_since old (sees.moment old) c → sees.may_leave old c)
      → OnOk result (sees.files new ≡ with_file (sees.files old) n (Some text)) → OnErr result (ChangesOnly n (IsEither (Some text)) (sees.files old) (sees.files new))
      → OnOk result ((c : Folder) → sees.may_leave new c → c n ≡ Some text) → Follows (ChangesOnly n (IsEither (Some text))) (sees.may_leave old) (sees.may_leave new)
      → Elapses (sees.moment old) (sees.moment new) (sees.left_since old) (sees.left_since new) (sees.may_leave new) → Leaves sees (Puts n text result) (IsPut n text) old new
  replaced {T = T} {E = E} old new n text result now ok err durable follows time = record {
    seen = seen result ok err;
    crash = crash result durable;
    since = goes_on sees old old new _ (sees.may_leave new) (started sees old _ (λ c left. (c, now c left, inl refl))) time
        (λ c left.
        let from = follows c left in
        (from.0, from.1, either_put from.0 c n text from.2));
  }
    where
      seen : (r : Result T E) → OnOk r (sees.files new ≡ with_file (sees.files old) n (Some text)) → OnErr r (ChangesOnly n (IsEither (Some text)) (sees.files old) (sees.files new)) → Puts n text r (sees.files old) (sees.files new)
      seen (Ok x) ok err = ok
      seen (Err e) ok err = either_put (sees.files old) (sees.files new) n text err

      crash : (r : Result T E) → OnOk r ((c : Folder) → sees.may_leave new c → c n ≡ Some text) → Follows (Puts n text r) (sees.may_leave old) (sees.may_leave new)
      crash (Ok x) durable = λ c left.
          let from = follows c left in
          (from.0, from.1, with_file_is from.0 c n (Some text) (durable c left) from.2.others)
      crash (Err e) durable = λ c left.
          let from = follows c left in
          (from.0, from.1, either_put from.0 c n text from.2)

  -- what is left at any moment may be said more weakly
  pub leaves_wider : (old new : S) (A B C : Folder → Folder → Type 0) → Leaves sees A B old new → ((d c : Folder) → B d c → C d c) → Leaves sees A C old new
  leaves_wider old new A B C leaves wider = record {
    seen = leaves.seen;
    crash = leaves.crash;
    since = weaker sees old new (FromOneOf (sees.may_leave old) B) (FromOneOf (sees.may_leave old) C) leaves.since (λ c from. (from.0, from.1, wider from.0 c from.2));
  }

  -- one call behind another
  pub leaves_both : (old mid new : S) (A B F G C D : Folder → Folder → Type 0) → Leaves sees A B old mid → Leaves sees F G mid new → ((d e c : Folder) → A d e → F e c → C d c)
      → ((d c : Folder) → B d c → D d c) → ((d e c : Folder) → A d e → G e c → D d c) → Leaves sees C D old new
  leaves_both old mid new A B F G C D first second behind early late = record {
    seen = behind (sees.files old) (sees.files mid) (sees.files new) first.seen second.seen;
    crash = λ c left.
        let two = second.crash c left in
        let one = first.crash two.0 two.1 in
        (one.0, one.1, behind one.0 two.0 c one.2 two.2);
    since = joined sees old mid new (FromOneOf (sees.may_leave old) D)
        (weaker sees old mid (FromOneOf (sees.may_leave old) B) (FromOneOf (sees.may_leave old) D) first.since (λ c from. (from.0, from.1, early from.0 c from.2)))
        (weaker sees mid new (FromOneOf (sees.may_leave mid) G) (FromOneOf (sees.may_leave old) D) second.since
        (λ c from.
        let one = first.crash from.0 from.1 in
        (one.0, one.1, late one.0 from.0 c one.2 from.2)));
  }

  -- ---- the replaces of a rotation

  module _ (turn : Turn) (old mid new : S) where
    late_turning : (d e c : Folder) → e ≡ with_old turn d → IsPut name.Log turn.new e c → IsTurning turn d c
    late_turning d e c is put = ⊎_elim (λ same. inl (inr (inr (same ∙ is)))) (λ there. inr (there ∙ ap (λ (f : Folder). with_file f name.Log (Some turn.new)) is)) put

    abbrev Both : Type 0
    Both = Leaves sees (λ d e. e ≡ with_old turn d) (IsBeforeLast turn) old mid

    pub turned_leaves : Both → Leaves sees (λ e c. c ≡ with_file e name.Log (Some turn.new)) (IsPut name.Log turn.new) mid new → Leaves sees (λ d c. c ≡ with_new turn d) (IsTurning turn) old new
    turned_leaves first second =
        leaves_both old mid new _ _ _ _ (λ d c. c ≡ with_new turn d) (IsTurning turn) first second (λ d e c is there. there ∙ ap (λ (f : Folder). with_file f name.Log (Some turn.new)) is) (λ d c before. inl before) late_turning

    pub last_leaves : Both → Leaves sees (IsPut name.Log turn.new) (IsPut name.Log turn.new) mid new → Leaves sees (λ d c. IsPut name.Log turn.new (with_old turn d) c) (IsTurning turn) old new
    last_leaves first second =
        leaves_both old mid new _ _ _ _ (λ d c. IsPut name.Log turn.new (with_old turn d) c) (IsTurning turn) first second (λ d e c is put. subst (λ (f : Folder). IsPut name.Log turn.new f c) is put) (λ d c before. inl before) late_turning
