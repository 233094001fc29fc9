-- The messages and sizes that are taken, one reply after another.
use Rattle.std.specs.Prelude.{◌≡◌, ℕ, ◌+◌, ◌<◌, ◌≤◌, Bool, true, false, List, [], ◌∷◌, ◌++◌, is_some, length, map, take, Option, Some, None, if◌then◌else◌}
use Rattle.std.specs.List.{list_any}
use Rattle.std.proofs.Common.{◌∙◌, ap, append-nil, append_assoc, arith, refl, sym}
use Rattle.std.proofs.lemmas.List.{length-append, take_at}
use Rattle.std.proofs.lemmas.List.Folds.{fold_stays}
use Rattle.dv_model.specs.declared.types.Item.{Item}
use Rattle.dv_model.specs.declared.types.Item.TheVariants as item
use Rattle.dv_model.specs.declared.types.Mailbox.{Mailbox}
use Rattle.dv_model.specs.declared.types.Reply.{Reply}
use Rattle.dv_model.specs.declared.types.Shown.{Shown}
use Rattle.dv_model.specs.Fields.{virtual_size}
use Rattle.dv_model.specs.Sessions.{fetch_line, value_of}
use Rattle.dv_maildrop.specs.declared.types.Listed.{Listed}
use Rattle.dv_responses.specs.Asked.{is_size}
use Rattle.dv_pop3.specs.Listings.{Sizing, failure_by, failures_in, size_in, sized, sized_by, with_more, with_one, with_reply, with_sizes}

-- ---- one line of a FETCH

-- its values have the size where one of its items asks that
size_asked : (m : Mailbox) (s : Shown) (message : List ℕ) (items : List Item) → size_in (map (value_of m s message) items) ≡ (if list_any is_size items then Some (virtual_size message) else None)
size_asked m s message [] = refl
size_asked m s message (item.Flags ∷ items) = size_asked m s message items
size_asked m s message (item.Size ∷ items) = refl
size_asked m s message (item.Body ∷ items) = size_asked m s message items
size_asked m s message (item.Field name ∷ items) = size_asked m s message items
size_asked m s message (item.Modseq ∷ items) = size_asked m s message items

-- behind a failure nothing is taken
failed_by : (rows : List Listed) (o : Option ℕ) (r : Reply) → is_some o ≡ true → record { rows = rows; failure = o } ≡ with_more rows o r
failed_by rows None r some = absurd cc
failed_by rows (Some n) r some = refl

pub stays_failed : (s : Sizing) (r : Reply) → is_some s.failure ≡ true → s ≡ with_reply s r
stays_failed s r some = failed_by s.rows s.failure r some

module _ (s : Sizing) (m : Mailbox) (row : Shown) (message : List ℕ) (number : ℕ) (items : List Item) where
  abbrev line : Reply
  line = fetch_line m items (number, row) message

  line_sized : (b : Bool) → list_any is_size items ≡ b → sized_by line ≡ sized row.uid (if b then Some (virtual_size message) else None)
  line_sized b is = ap (sized row.uid) (size_asked m row message items) ∙ ap (λ (b : Bool). sized row.uid (if b then Some (virtual_size message) else None)) is

  more_line : (o : Option ℕ) → is_some o ≡ false → with_more s.rows o line ≡ record { rows = s.rows ++ sized_by line; failure = None }
  more_line None none = refl
  more_line (Some n) none = absurd cc

  none_is : (o : Option ℕ) → is_some o ≡ false → o ≡ None
  none_is None none = refl
  none_is (Some n) none = absurd cc

  -- no item asks the size
  pub unasked_size : is_some s.failure ≡ false → list_any is_size items ≡ false → s ≡ with_sizes s (line ∷ [])
  unasked_size none asks =
      ap (λ (o : Option ℕ). record { rows = s.rows; failure = o }) (none_is s.failure none)
      ∙ ap (λ (rows : List Listed). record { rows = rows; failure = None }) (sym (ap (λ (l : List Listed). s.rows ++ l) (line_sized false asks) ∙ append-nil s.rows))
      ∙ sym (more_line s.failure none)

  -- one does
  pub asked_size : (new : Sizing) (size : ℕ) → is_some s.failure ≡ false → list_any is_size items ≡ true → size ≡ virtual_size message → new ≡ record s { rows = s.rows ++ sized row.uid (Some size) } → new ≡ with_sizes s (line ∷ [])
  asked_size new size none asks is now =
      now
      ∙ ap (λ (o : Option ℕ). record { rows = s.rows ++ sized row.uid (Some size); failure = o }) (none_is s.failure none)
      ∙ ap (λ (n : ℕ). record { rows = s.rows ++ sized row.uid (Some n); failure = None }) is
      ∙ ap (λ (l : List Listed). record { rows = s.rows ++ l; failure = None }) (sym (line_sized true asks))
      ∙ sym (more_line s.failure none)

-- ---- what is taken back

-- the first messages stay
record HasFront (front rows : List Listed) : Type 0 where
  pub more : List Listed
  pub is : rows ≡ front ++ more

one_front : (rows : List Listed) (r : Reply) (o : Option ℕ) → HasFront rows (with_one rows r o).rows
one_front rows r (Some n) = record { more = []; is = sym (append-nil rows) }
one_front rows r None = record { more = sized_by r; is = refl }

more_front : (rows : List Listed) (o : Option ℕ) (r : Reply) → HasFront rows (with_more rows o r).rows
more_front rows (Some n) r = record { more = []; is = sym (append-nil rows) }
more_front rows None r = one_front rows r (failure_by r)

front_stays : (s : Sizing) (told : List Reply) → HasFront s.rows (with_sizes s told).rows
front_stays s [] = record { more = []; is = sym (append-nil s.rows) }
front_stays s (r ∷ told) =
    let first = more_front s.rows s.failure r in
    let rest = front_stays (with_reply s r) told in
    record { more = first.more ++ rest.more; is = rest.is ∙ ap (λ (l : List Listed). l ++ rest.more) first.is ∙ append_assoc s.rows first.more rest.more }

failed_stays : (rows : List Listed) (n : ℕ) (told : List Reply) → with_sizes (record { rows = rows; failure = Some n }) told ≡ record { rows = rows; failure = Some n }
failed_stays rows n told = fold_stays with_reply (record { rows = rows; failure = Some n }) (λ r. refl) told

module _ (self : Sizing) (length_ : ℕ) (told : List Reply) where
  -- behind a failure that was there
  kept_by : (rows : List Listed) (o : Option ℕ) → self ≡ with_sizes (record { rows = rows; failure = o }) told → length_ ≡ length rows + failures_in o → length self.rows < length_ → self ≡ record { rows = rows; failure = o }
  kept_by rows (Some n) is long more = is ∙ failed_stays rows n told
  kept_by rows None is long more =
      let front = front_stays (record { rows = rows; failure = None }) told in
      let rows_are : self.rows ≡ rows ++ front.more = ap (λ (s : Sizing). s.rows) is ∙ front.is in
      absurd (omega (arith, long, more, ap length rows_are, length-append rows front.more))

  pub kept_whole : (x : Sizing) → self ≡ with_sizes x told → length_ ≡ length x.rows + failures_in x.failure → length self.rows < length_ → self ≡ x
  kept_whole x is long more = kept_by x.rows x.failure is long more

  -- where there was none
  cut_by : (rows : List Listed) (o : Option ℕ) → self ≡ with_sizes (record { rows = rows; failure = o }) told → length_ ≡ length rows + failures_in o → length_ ≤ length self.rows → ◌≡◌ {A = Sizing} (record { rows = take length_ self.rows; failure = None }) (record { rows = rows; failure = o })
  cut_by rows (Some n) is long few =
      let same : self ≡ record { rows = rows; failure = Some n } = is ∙ failed_stays rows n told in
      absurd (omega (arith, long, few, ap (λ (s : Sizing). length s.rows) same))
  cut_by rows None is long few =
      let front = front_stays (record { rows = rows; failure = None }) told in
      let rows_are : self.rows ≡ rows ++ front.more = ap (λ (s : Sizing). s.rows) is ∙ front.is in
      let same : length rows ≡ length_ = omega (arith, long) in
      ap (λ (l : List Listed). record { rows = l; failure = None }) (ap (take length_) rows_are ∙ take_at rows front.more length_ same)

  pub cut_to : (x : Sizing) → self ≡ with_sizes x told → length_ ≡ length x.rows + failures_in x.failure → length_ ≤ length self.rows → record { rows = take length_ self.rows; failure = None } ≡ x
  cut_to x is long few = cut_by x.rows x.failure is long few
