-- What is read is of the grammar: commands.
use Rattle.std.proofs.Common.{◌≡◌, ℕ, suc, ◌^◌, Bool, true, false, cond, List, [], ◌∷◌, ◌++◌, take, drop, position, ◌+◌, Option, Some, None, codes, refl, sym, ◌∙◌, ap, subst, arith, append_assoc}
use Rattle.std.specs.Fmt.{decimal}
use Rattle.std.specs.Str.{bytes_eq}
use Rattle.std.proofs.lemmas.List.{take-append-drop}
use Rattle.std.proofs.lemmas.Slice.Eq.{bytes_eq-Decides}
use Rattle.dv_model.specs.declared.types.Command.{Command}
use Rattle.dv_model.specs.declared.types.Command.TheVariants as command
use Rattle.dv_model.specs.declared.types.How.{How}
use Rattle.dv_model.specs.declared.types.How.TheVariants.{Add, Remove, Replace}
use Rattle.dv_model.specs.declared.types.Item.{Item}
use Rattle.dv_model.specs.declared.types.Span.{Span}
use Rattle.dv_model.specs.Mailboxes.{last_modseq}
use Rattle.dv_model.specs.Texts.{spaced}
use Rattle.dv_formats.specs.Scripts.{IsAppendStart, IsCommand, IsItem, IsModifier, IsSet, how_text, uid_text}
use Rattle.dv_formats.specs.Parsing.{◌>>=◌, after, ahead_of, append_of, before, command_of, ended, fetch_of, flags_of, from, how_at, is_byte, is_stop, item_at, item_limit, list_at, modifier_at, number_of, plain_command, search_of, set_command, set_of, several, store_of, uid_command}
use Rattle.dv_commands.proofs.Base.{after_is, after_then, ahead_is, bind_some, parted, some_is}
use Rattle.dv_commands.proofs.Grammar.{flags_sound, set_sound}
use Rattle.dv_commands.proofs.Joined.{four, six, three}
use Rattle.dv_commands.proofs.Numbers.{number_sound}
use Rattle.dv_grammar.proofs.Keys.{sought_sound}
use Rattle.dv_grammar.proofs.Lists.{AreFronts, IsFront, item_sound, several_sound}

-- ---- FETCH

fetch_sound : (by_uid : Bool) (b : List ℕ) (c : Command) → fetch_of by_uid b ≡ Some c → IsCommand c (uid_text by_uid ++ codes "FETCH " ++ b)
unfolding fetch_of
fetch_sound by_uid b c e =
    let set = bind_some (set_of (before is_stop b)) _ c e in
    after_then (codes " (") (from is_stop b) _ c set.2 (λ d p e.
    let items = bind_some (several item_at item_limit d) _ c e in
    let are = several_sound IsItem item_at item_sound item_limit d items.0 items.1 in
    after_then (codes ")") items.0.1 _ c items.2 (λ rest q e. by_end set.0 (set_sound (before is_stop b) set.0 set.1) d p items.0 are rest q e))
  where
    by_end : (set : List Span) (named : IsSet set (before is_stop b)) (d : List ℕ) → from is_stop b ≡ codes " (" ++ d → (items : List Item × List ℕ) → AreFronts IsItem item_limit d items → (rest : List ℕ) → items.1 ≡ codes ")" ++ rest
        → ended rest (command.Fetch by_uid set items.0) ≡ Some c → IsCommand c (uid_text by_uid ++ codes "FETCH " ++ b)
    by_end set named d p items are (x ∷ rest) q e = absurd cc
    by_end set named d p items are [] q e =
        let word = before is_stop b in
        let list = codes "(" ++ spaced are.words ++ codes ")" in
        let inside : d ≡ spaced are.words ++ codes ")" = are.text ∙ ap (λ t. spaced are.words ++ t) q in
        let text : b ≡ word ++ (codes " " ++ list) = parted is_stop b ∙ ap (λ t. word ++ t) (p ∙ ap (λ t. codes " (" ++ t) inside) in
        let front = uid_text by_uid ++ codes "FETCH " in
        let whole : front ++ b ≡ front ++ word ++ codes " " ++ list = ap (λ t. front ++ t) text ∙ sym (append_assoc (front ++ word) (codes " ") list ∙ append_assoc front word (codes " " ++ list)) in
        subst (λ k. IsCommand k (front ++ b)) (some_is (command.Fetch by_uid set items.0) c e)
        (record { set_text = word; items_text = list; named = named; asked = record { some = (are.some, are.few); words = are.words; each = are.each; text = refl }; text = whole })

-- ---- STORE

how_sound : (b : List ℕ) (y : How × List ℕ) → how_at b ≡ Some y → b ≡ how_text y.0 ++ (codes " " ++ y.1)
unfolding how_at
how_sound b y e = by_add (after (codes "+FLAGS ") b) refl
  where
    is_how : (how : How) (rest : List ℕ) → b ≡ how_text how ++ (codes " " ++ rest) → Some (how, rest) ≡ Some y → b ≡ how_text y.0 ++ (codes " " ++ y.1)
    is_how how rest text f = subst (λ (z : How × List ℕ). b ≡ how_text z.0 ++ (codes " " ++ z.1)) (some_is (how, rest) y f) text

    by_remove : (r : Option (List ℕ)) → after (codes "+FLAGS ") b ≡ None → after (codes "-FLAGS ") b ≡ r → b ≡ how_text y.0 ++ (codes " " ++ y.1)
    by_remove (Some rest) one is = is_how Remove rest (after_is (codes "-FLAGS ") b rest is) (sym (rw (one, is) refl) ∙ e)
    by_remove None one is = after_then (codes "FLAGS ") b (λ rest. Some (Replace, rest)) y (sym (rw (one, is) refl) ∙ e) (λ rest p f. is_how Replace rest p f)

    by_add : (r : Option (List ℕ)) → after (codes "+FLAGS ") b ≡ r → b ≡ how_text y.0 ++ (codes " " ++ y.1)
    by_add (Some rest) is = is_how Add rest (after_is (codes "+FLAGS ") b rest is) (sym (rw is refl) ∙ e)
    by_add None is = by_remove (after (codes "-FLAGS ") b) is refl

modifier_sound : (b : List ℕ) (y : Option ℕ × List ℕ) → modifier_at b ≡ Some y → IsFront IsModifier b y
unfolding modifier_at
modifier_sound b y e = by_word (after (codes "(UNCHANGEDSINCE ") b) refl
  where
    found : (rest : List ℕ) → b ≡ codes "(UNCHANGEDSINCE " ++ rest
        → (number_of (suc last_modseq) (before is_stop rest) >>= λ n. after (codes ") ") (from is_stop rest) >>= λ behind. Some (Some n, behind)) ≡ Some y → IsFront IsModifier b y
    found rest p f =
        let n = bind_some (number_of (suc last_modseq) (before is_stop rest)) (λ n. after (codes ") ") (from is_stop rest) >>= λ behind. Some (Some n, behind)) y f in
        let is = number_sound (suc last_modseq) (before is_stop rest) n.0 n.1 in
        after_then (codes ") ") (from is_stop rest) _ y n.2 (λ behind q g.
        let text = codes "(UNCHANGEDSINCE " ++ decimal n.0 ++ codes ") " in
        let whole : b ≡ text ++ behind = p ∙ ap (λ t. codes "(UNCHANGEDSINCE " ++ t) (parted is_stop rest ∙ ap (λ t. t ++ from is_stop rest) is.1 ∙ ap (λ t. decimal n.0 ++ t) q) ∙ sym (three (codes "(UNCHANGEDSINCE ") (decimal n.0) (codes ") ") behind) in
        subst (IsFront IsModifier b) (some_is (Some n.0, behind) y g) (text, (omega (arith, is.0), refl), whole))

    by_word : (r : Option (List ℕ)) → after (codes "(UNCHANGEDSINCE ") b ≡ r → IsFront IsModifier b y
    by_word (Some rest) is = found rest (after_is (codes "(UNCHANGEDSINCE ") b rest is) (sym (rw is refl) ∙ e)
    by_word None is = subst (IsFront IsModifier b) (some_is (None, b) y (sym (rw is refl) ∙ e)) ([], refl, refl)

store_whole : (front set modifier how flags b d f : List ℕ) → b ≡ set ++ (codes " " ++ d) → d ≡ modifier ++ f → f ≡ how ++ (codes " " ++ flags)
    → front ++ b ≡ front ++ set ++ codes " " ++ modifier ++ how ++ codes " " ++ flags
store_whole front set modifier how flags b d f p q r =
    ap (λ t. front ++ t) (p ∙ ap (λ t. set ++ (codes " " ++ t)) (q ∙ ap (λ t. modifier ++ t) r)) ∙ sym (six front set (codes " ") modifier how (codes " ") flags)

store_sound : (by_uid : Bool) (b : List ℕ) (c : Command) → store_of by_uid b ≡ Some c → IsCommand c (uid_text by_uid ++ codes "STORE " ++ b)
unfolding store_of
store_sound by_uid b c e =
    let word = before is_stop b in
    let front = uid_text by_uid ++ codes "STORE " in
    let set = bind_some (set_of word) _ c e in
    after_then (codes " ") (from is_stop b) _ c set.2 (λ d p e.
    let since = bind_some (modifier_at d) _ c e in
    let since_is = modifier_sound d since.0 since.1 in
    let how = bind_some (how_at since.0.1) _ c since.2 in
    let flags = bind_some (flags_of how.0.1) (λ flags. Some (command.Store by_uid set.0 how.0.0 flags.0 flags.1 since.0.0)) c how.2 in
    let whole = store_whole front word since_is.0 (how_text how.0.0) how.0.1 b d since.0.1 (parted is_stop b ∙ ap (λ t. word ++ t) p) since_is.2 (how_sound since.0.1 how.0 how.1) in
    subst (λ k. IsCommand k (front ++ b)) (some_is (command.Store by_uid set.0 how.0.0 flags.0.0 flags.0.1 since.0.0) c flags.2)
    (record {
      set_text = word;
      modifier = since_is.0;
      flags_text = how.0.1;
      named = set_sound word set.0 set.1;
      unchanged = since_is.1;
      stored = flags_sound how.0.1 flags.0 flags.1;
      text = whole;
    }))

-- ---- a line's command

search_sound : (by_uid : Bool) (b : List ℕ) (c : Command) → search_of by_uid b ≡ Some c → IsCommand c (uid_text by_uid ++ codes "SEARCH " ++ b)
search_sound by_uid b c e =
    let is = sought_sound by_uid b c e in
    subst (λ k. IsCommand k (uid_text by_uid ++ codes "SEARCH " ++ b)) (sym is.2) (b, is.1, refl)

set_command_sound : (by_uid : Bool) (b : List ℕ) (c : Command) → set_command by_uid b ≡ Some c → IsCommand c (uid_text by_uid ++ b)
unfolding set_command
set_command_sound by_uid b c e = by_fetch (after (codes "FETCH ") b) refl
  where
    behind : (word rest : List ℕ) → b ≡ word ++ rest → IsCommand c (uid_text by_uid ++ word ++ rest) → IsCommand c (uid_text by_uid ++ b)
    behind word rest p is = subst (IsCommand c) (append_assoc (uid_text by_uid) word rest ∙ ap (λ t. uid_text by_uid ++ t) (sym p)) is

    by_search : (r : Option (List ℕ)) → after (codes "FETCH ") b ≡ None → after (codes "STORE ") b ≡ None → after (codes "SEARCH ") b ≡ r → IsCommand c (uid_text by_uid ++ b)
    by_search (Some rest) one two is = behind (codes "SEARCH ") rest (after_is (codes "SEARCH ") b rest is) (search_sound by_uid rest c (sym (rw (one, two, is) refl) ∙ e))
    by_search None one two is = absurd (let none : None ≡ Some c = sym (rw (one, two, is) refl) ∙ e in cc)

    by_store : (r : Option (List ℕ)) → after (codes "FETCH ") b ≡ None → after (codes "STORE ") b ≡ r → IsCommand c (uid_text by_uid ++ b)
    by_store (Some rest) one is = behind (codes "STORE ") rest (after_is (codes "STORE ") b rest is) (store_sound by_uid rest c (sym (rw (one, is) refl) ∙ e))
    by_store None one is = by_search (after (codes "SEARCH ") b) one is refl

    by_fetch : (r : Option (List ℕ)) → after (codes "FETCH ") b ≡ r → IsCommand c (uid_text by_uid ++ b)
    by_fetch (Some rest) is = behind (codes "FETCH ") rest (after_is (codes "FETCH ") b rest is) (fetch_sound by_uid rest c (sym (rw is refl) ∙ e))
    by_fetch None is = by_store (after (codes "STORE ") b) is refl

uid_command_sound : (b rest : List ℕ) (c : Command) → b ≡ codes "UID " ++ rest → uid_command rest ≡ Some c → IsCommand c b
unfolding uid_command
uid_command_sound b rest c p e = by_remove (after (codes "REMOVE ") rest) refl
  where
    by_remove : (r : Option (List ℕ)) → after (codes "REMOVE ") rest ≡ r → IsCommand c b
    by_remove (Some text) is =
        let set = bind_some (set_of text) (λ set. Some (command.UidRemove set)) c (sym (rw is refl) ∙ e) in
        let whole : b ≡ codes "UID REMOVE " ++ text = p ∙ ap (λ t. codes "UID " ++ t) (after_is (codes "REMOVE ") rest text is) in
        subst (λ k. IsCommand k b) (some_is (command.UidRemove set.0) c set.2) (text, set_sound text set.0 set.1, whole)
    by_remove None is = subst (IsCommand c) (sym p) (set_command_sound true rest c (sym (rw is refl) ∙ e))

plain_sound : (b : List ℕ) (c : Command) → plain_command b ≡ Some c → IsCommand c b
plain_sound b c e = by_select (bytes_eq b (codes "SELECT")) refl e
  where
    is : (x : Command) → Some x ≡ Some c → IsCommand x b → IsCommand c b
    is x f x_is = subst (λ z. IsCommand z b) (some_is x c f) x_is

    by_expunge : (t : Bool) → bytes_eq b (codes "EXPUNGE") ≡ t → cond t (Some command.Expunge) None ≡ Some c → IsCommand c b
    by_expunge true same f = is command.Expunge f ((bytes_eq-Decides b (codes "EXPUNGE")).0 same)
    by_expunge false same f = absurd cc

    by_check : (t : Bool) → bytes_eq b (codes "CHECK") ≡ t → cond t (Some command.Check) (cond (bytes_eq b (codes "EXPUNGE")) (Some command.Expunge) None) ≡ Some c → IsCommand c b
    by_check true same f = is command.Check f ((bytes_eq-Decides b (codes "CHECK")).0 same)
    by_check false same f = by_expunge (bytes_eq b (codes "EXPUNGE")) refl f

    by_noop : (t : Bool) → bytes_eq b (codes "NOOP") ≡ t → cond t (Some command.Noop) (cond (bytes_eq b (codes "CHECK")) (Some command.Check) (cond (bytes_eq b (codes "EXPUNGE")) (Some command.Expunge) None)) ≡ Some c → IsCommand c b
    by_noop true same f = is command.Noop f ((bytes_eq-Decides b (codes "NOOP")).0 same)
    by_noop false same f = by_check (bytes_eq b (codes "CHECK")) refl f

    by_select : (t : Bool) → bytes_eq b (codes "SELECT") ≡ t → cond t (Some command.Select) (cond (bytes_eq b (codes "NOOP")) (Some command.Noop) (cond (bytes_eq b (codes "CHECK")) (Some command.Check) (cond (bytes_eq b (codes "EXPUNGE")) (Some command.Expunge) None))) ≡ Some c → IsCommand c b
    by_select true same f = is command.Select f ((bytes_eq-Decides b (codes "SELECT")).0 same)
    by_select false same f = by_noop (bytes_eq b (codes "NOOP")) refl f

pub command_sound : (b : List ℕ) (c : Command) → command_of b ≡ Some c → IsCommand c b
unfolding command_of
command_sound b c e = by_plain (plain_command b) refl
  where
    by_uid : (r : Option (List ℕ)) → plain_command b ≡ None → after (codes "UID ") b ≡ r → IsCommand c b
    by_uid (Some rest) none is = uid_command_sound b rest c (after_is (codes "UID ") b rest is) (sym (rw (none, is) refl) ∙ e)
    by_uid None none is = set_command_sound false b c (sym (rw (none, is) refl) ∙ e)

    by_plain : (r : Option Command) → plain_command b ≡ r → IsCommand c b
    by_plain (Some x) is = plain_sound b c (is ∙ sym (rw is refl) ∙ e)
    by_plain None is = by_uid (after (codes "UID ") b) is refl

-- ---- APPEND

list_sound : (b : List ℕ) (y : List ℕ × List ℕ) → list_at b ≡ Some y → b ≡ y.0 ++ y.1
list_sound b y e = by_place (position (is_byte 41) b) refl
  where
    by_place : (r : Option ℕ) → position (is_byte 41) b ≡ r → b ≡ y.0 ++ y.1
    by_place None is = absurd (let none : None ≡ Some y = sym (rw is refl) ∙ e in cc)
    by_place (Some at) is = subst (λ (z : List ℕ × List ℕ). b ≡ z.0 ++ z.1) (some_is (take (at + 1) b, drop (at + 1) b) y (sym (rw is refl) ∙ e)) (sym (take-append-drop (at + 1) b))

append_whole : (list digits b d f : List ℕ) → b ≡ list ++ d → d ≡ codes " {" ++ f → f ≡ digits ++ codes "}" → codes "APPEND " ++ b ≡ codes "APPEND " ++ list ++ codes " {" ++ digits ++ codes "}"
append_whole list digits b d f p q r = ap (λ t. codes "APPEND " ++ t) (p ∙ ap (λ t. list ++ t) (q ∙ ap (λ t. codes " {" ++ t) r)) ∙ sym (four (codes "APPEND ") list (codes " {") digits (codes "}"))

pub append_sound : (b : List ℕ) (x : (ℕ × List (List ℕ)) × ℕ) → append_of b ≡ Some x → IsAppendStart x.0.0 x.0.1 x.1 (codes "APPEND " ++ b)
unfolding append_of
append_sound b x e =
    let list = bind_some (list_at b) _ x e in
    let flags = bind_some (flags_of list.0.0) _ x list.2 in
    after_then (codes " {") list.0.1 _ x flags.2 (λ d p e.
    let digits = bind_some (ahead_of (codes "}") d) _ x e in
    let size = bind_some (number_of (2 ^ 32) digits.0) (λ size. Some (flags.0, size)) x digits.2 in
    let is = number_sound (2 ^ 32) digits.0 size.0 size.1 in
    let inside : d ≡ decimal size.0 ++ codes "}" = ahead_is (codes "}") d digits.0 digits.1 ∙ ap (λ t. t ++ codes "}") is.1 in
    subst (λ (z : (ℕ × List (List ℕ)) × ℕ). IsAppendStart z.0.0 z.0.1 z.1 (codes "APPEND " ++ b)) (some_is (flags.0, size.0) x size.2)
    (record { flags_text = list.0.0; stored = flags_sound list.0.0 flags.0 flags.1; below = is.0; text = append_whole list.0.0 (decimal size.0) b list.0.1 d (list_sound b list.0 list.1) p inside }))
