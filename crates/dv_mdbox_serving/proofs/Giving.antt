-- What a folder gives behind calls, and between them.
use Rattle.std.proofs.Common.{◌≡◌, ◌⊎◌, inl, inr, ⊎_elim, ℕ, List, [], ◌∷◌, ◌++◌, Option, Some, None, refl, sym, ◌∙◌, ap, subst, append_assoc}
use Rattle.dv_model.specs.declared.types.Mailbox.{Mailbox}
use Rattle.dv_model.specs.declared.types.Mark.{Mark}
use Rattle.dv_shelf.specs.Folders.{Folder}
use Rattle.dv_shelf.specs.Sees.{SeesFolder}
use Rattle.dv_openings.specs.Openings.{Finds, IsFound}
use Rattle.dv_chain.specs.declared.chain.Chain.{Chain}
use Rattle.dv_chain.specs.Rest.{Last, Nothing, Owed, Pending, next_mark}
use Rattle.dv_files.specs.declared.texts.Turn.{Turn}
use Rattle.dv_files.specs.Texts.{place_of}
use Rattle.dv_writing.specs.Opening.{mark_behind}
use Rattle.dv_filing.specs.Standing.{Fits, Gives, MayGive as MayGiveNow}
use Rattle.dv_filing.proofs.Resting.{rests_give}
use Rattle.dv_maps.specs.Laws.{IsMap}
use Rattle.dv_maps.specs.Storages.{Storage, storage_of}
use Rattle.dv_maps.specs.Texts.{Messages}
use Rattle.dv_mdbox.specs.States.{StandsAt, State, next_file}
use Rattle.dv_mdbox_lines.specs.declared.answers.Answer.{Answer}
use Rattle.dv_mdbox_lines.specs.Playing.{MayCome, MayGo, Tried, behind, behind_call}
use Rattle.dv_mdbox_lines.specs.Scripts.{Call, Copy, Drop, Get, Purge, Save}
use Rattle.dv_mdbox_lines.proofs.Behind.{parts}
use Rattle.dv_mdbox_serving.specs.Following.{IsOwedBehind, Keeps}
use Rattle.dv_mdbox_serving.specs.Marks.{OpensTo}
use Rattle.dv_mdbox_serving.specs.Places.{GivesBehind, GivesBetween, GivesMade, GivesNext, GivesStorage, IsLastCut, IsUndone, MayGive, MayMake}
use Rattle.dv_mdbox_serving.proofs.Going.{behind_more, cut_behind, undone_stays, without_both}

-- ---- a storage at rest

module _ (messages : Messages) (chain : Chain) (s : Storage) (map : IsMap chain.live.mailbox) (is : storage_of messages chain.live.mailbox ≡ s) where
  -- the map at some place
  pub gives_here : (mark : Mark) (c : Folder) → Gives messages chain.indexid chain.live.mailbox mark c → GivesStorage s c
  gives_here mark c gives = record { indexid = chain.indexid; messages = messages; mailbox = chain.live.mailbox; mark = mark; map = map; storage = is; gives = gives }

  -- or that with what is owed
  pub gives_owed : (owed : Option Turn) (debt : Owed) (P : Folder → Type 0) → Fits owed chain.live.mailbox debt → ((c : Folder) → GivesStorage s c → P c)
      → ((text : List ℕ) (after : Mailbox) (c : Folder) → debt ≡ Pending text after → Gives messages chain.indexid after (mark_behind text chain) c → P c) → (c : Folder) → MayGiveNow messages debt chain c → P c
  gives_owed owed Nothing P fits here with c gives = here c (gives_here (place_of chain) c gives)
  gives_owed owed (Pending text after) P fits here with c gives = ⊎_elim (λ g. here c (gives_here (place_of chain) c g)) (λ g. with text after c refl g) gives
  gives_owed None (Last log after) P fits here with c gives = absurd fits
  gives_owed (Some turn) (Last log after) P fits here with c gives =
      ⊎_elim (λ g. here c (gives_here (place_of chain) c g))
      (λ g. here c (gives_here (next_mark chain) c (subst (λ (m : Mailbox). Gives messages chain.indexid m (next_mark chain) c) fits.1 g))) gives

module _ {S C : Type 0} (sees : SeesFolder S) (start : Storage) (calls : List Tried) (store : State S C) (keeps : Keeps sees start calls store) where
  owed_at : (debt : Owed) (text : List ℕ) (after : Mailbox) → debt ≡ Pending text after → IsOwedBehind start calls keeps.messages debt → IsOwedBehind start calls keeps.messages (Pending text after)
  owed_at debt text after is owed = subst (IsOwedBehind start calls keeps.messages) is owed

  -- the group that is owed is that of the call that was cut off
  cut_at : (text : List ℕ) (after : Mailbox) (c : Folder) → keeps.debt ≡ Pending text after → Gives keeps.messages store.chain.indexid after (mark_behind text store.chain) c → (cut : Tried) × IsLastCut calls cut × GivesMade (behind start calls) cut c
  cut_at text after c is g =
      let owed = owed_at keeps.debt text after is keeps.owed in (
        owed.1.0,
        owed.1.1,
        (
          storage_of keeps.messages after,
          owed.1.2,
          record {
            indexid = store.chain.indexid;
            messages = keeps.messages;
            mailbox = after;
            mark = mark_behind text store.chain;
            map = owed.0;
            storage = refl;
            gives = g;
          },
        ),
      )

  -- what is at rest gives the storage behind the calls
  pub keeps_may : (c : Folder) → MayGiveNow keeps.messages keeps.debt store.chain c → GivesBehind start calls c
  keeps_may =
      gives_owed keeps.messages store.chain (behind start calls) keeps.rests.map keeps.storage store.owed keeps.debt (GivesBehind start calls) keeps.rests.fits (λ c g. inl g)
      (λ text after c is g. inr (cut_at text after c is g))

  pub keeps_give : (c : Folder) → sees.may_leave store.shelf c → GivesBehind start calls c
  keeps_give c left = keeps_may c (rests_give sees keeps.messages keeps.debt store.chain store.shelf c keeps.rests.stands left)

  -- ---- at which place

  abbrev GivesCut : Folder → Type 0
  GivesCut c = (cut : Tried) × IsLastCut calls cut × GivesMade (behind start calls) cut c

  module _ (mark : Mark) (c : Folder) where
    abbrev m : Mailbox
    m = store.chain.live.mailbox

    opens_place : (place : Mark) (owed : Option Turn) → StandsAt mark place owed → IsFound c (Finds m place) → OpensTo m mark c
    opens_place place owed stands found =
        ⊎_elim (λ here. inl (subst (λ (p : Mark). IsFound c (Finds m p)) here.0 found))
        (λ begun. ⊎_elim (λ at. inl (subst (λ (p : Mark). IsFound c (Finds m p)) at.0 found)) (λ new. inr (begun.0, subst (λ (p : Mark). IsFound c (Finds m p)) new.0 found)) begun.1) stands

    -- where a turn is owed, a rotation was due at the mark
    opens_next : (turn : Turn) → StandsAt mark (place_of store.chain) (Some turn) → IsFound c (Finds m (next_mark store.chain)) → OpensTo m mark c
    opens_next turn stands found =
        ⊎_elim (λ here. absurd (owes here.1))
        (λ begun. ⊎_elim (λ at. inr (begun.0, subst (λ (p : Mark). IsFound c (Finds m (next_file p))) at.0 found)) (λ new. absurd (owes new.1)) begun.1) stands
      where
        owes : Some turn ≡ None → ⊥
        owes e = cc

    opens_by : (owed : Option Turn) (debt : Owed) → StandsAt mark (place_of store.chain) owed → Fits owed m debt → ((text : List ℕ) (after : Mailbox) → debt ≡ Pending text after → Gives keeps.messages store.chain.indexid after (mark_behind text store.chain) c → GivesCut c)
        → MayGiveNow keeps.messages debt store.chain c → OpensTo m mark c ⊎ GivesCut c
    opens_by owed Nothing stands fits with gives = inl (opens_place (place_of store.chain) owed stands gives.opens.found)
    opens_by owed (Pending text after) stands fits with gives = ⊎_elim (λ g. inl (opens_place (place_of store.chain) owed stands g.opens.found)) (λ g. inr (with text after refl g)) gives
    opens_by None (Last log after) stands fits with gives = absurd fits
    opens_by (Some turn) (Last log after) stands fits with gives =
        ⊎_elim (λ g. inl (opens_place (place_of store.chain) (Some turn) stands g.opens.found))
        (λ g. inl (opens_next turn stands (subst (λ (k : Mailbox). IsFound c (Finds k (next_mark store.chain))) fits.1 g.opens.found))) gives

    -- what is at rest opens to the map at the mark, but where a call is found that was cut off
    pub keeps_at : StandsAt mark (place_of store.chain) store.owed → sees.may_leave store.shelf c → OpensTo m mark c ⊎ GivesCut c
    keeps_at stands left =
        opens_by store.owed keeps.debt stands keeps.rests.fits (λ text after is g. cut_at text after c is g) (rests_give sees keeps.messages keeps.debt store.chain store.shelf c keeps.rests.stands left)

-- ---- calls in turn

-- what a call that was cut off makes of the storage behind it, it makes of the one before it
made_before : (call : Call) (told : Option Answer) (gone : List ℕ) (s made : Storage) → IsUndone told → MayCome s (record { call = call; answer = told; gone = gone })
    → MayMake call told (behind_call s (record { call = call; answer = told; gone = gone })) made → MayMake call told s made
made_before Purge told gone s made undone come makes = without_both s gone made come.gone makes
made_before (Save message) told gone s made undone come makes = subst (λ (k : Storage). MayMake (Save message) told k made) (undone_stays (Save message) told gone s undone (come.purge (λ e. e))) makes
made_before (Copy id) told gone s made undone come makes = subst (λ (k : Storage). MayMake (Copy id) told k made) (undone_stays (Copy id) told gone s undone (come.purge (λ e. e))) makes
made_before (Drop id) told gone s made undone come makes = subst (λ (k : Storage). MayMake (Drop id) told k made) (undone_stays (Drop id) told gone s undone (come.purge (λ e. e))) makes
made_before (Get id) told gone s made undone come makes = subst (λ (k : Storage). MayMake (Get id) told k made) (undone_stays (Get id) told gone s undone (come.purge (λ e. e))) makes

module _ (start : Storage) (calls : List Tried) (may : MayGo start calls) where
  cut_may : (c : Folder) (cut : Tried) (last : IsLastCut calls cut) → GivesMade (behind start calls) cut c → MayGive start calls c
  cut_may c cut last (made, makes, gives) =
      let here = parts last.front (cut ∷ last.back) start (subst (MayGo start) last.parts may) in
      let s = behind start last.front in
      let before : MayMake cut.call cut.answer s made = made_before cut.call cut.answer cut.gone s made last.undone here.rest.0 (subst (λ (k : Storage). MayMake cut.call cut.answer k made) (cut_behind calls cut start last) makes) in
      record { front = last.front; back = cut ∷ last.back; parts = last.parts; gives = inr (made, before, gives) }

  pub behind_may : (c : Folder) → GivesBehind start calls c → MayGive start calls c
  behind_may c =
      ⊎_elim (λ gives. record { front = calls; back = []; parts = sym (none_behind calls); gives = gives })
      (λ some. cut_may c some.0 some.1 some.2)
    where
      none_behind : (ts : List Tried) → ts ++ [] ≡ ts
      none_behind [] = refl
      none_behind (t ∷ ts) = ap (λ us. t ∷ us) (none_behind ts)

-- with more calls
next_longer : (s : Storage) (back more : List Tried) (c : Folder) → GivesNext s back c → GivesNext s (back ++ more) c
next_longer s [] [] c gives = gives
next_longer s [] (t ∷ more) c gives = inl gives
next_longer s (b ∷ back) more c gives = gives

pub may_longer : (start : Storage) (calls more : List Tried) (c : Folder) → MayGive start calls c → MayGive start (calls ++ more) c
may_longer start calls more c gives = record {
  front = gives.front;
  back = gives.back ++ more;
  parts = ap (λ ts. ts ++ more) gives.parts ∙ append_assoc gives.front gives.back more;
  gives = next_longer (behind start gives.front) gives.back more c gives.gives;
}

pub between_may : (start : Storage) (calls : List Tried) (t : Tried) → MayGo start calls → (c : Folder) → GivesBetween start calls t c → MayGive start (calls ++ t ∷ []) c
between_may start calls t may c =
    ⊎_elim (λ before. may_longer start calls (t ∷ []) c (behind_may start calls may c before))
    (⊎_elim
    (λ gives. record {
      front = calls ++ t ∷ [];
      back = [];
      parts = sym (none_behind (calls ++ t ∷ []));
      gives = subst (λ (s : Storage). GivesStorage s c) (sym (behind_more calls start t)) gives;
    })
    (λ made. record { front = calls; back = t ∷ []; parts = refl; gives = inr made }))
  where
    none_behind : (ts : List Tried) → ts ++ [] ≡ ts
    none_behind [] = refl
    none_behind (u ∷ ts) = ap (λ us. u ∷ us) (none_behind ts)
