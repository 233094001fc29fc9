-- What the grammar has is read: commands.
use Rattle.std.proofs.Common.{◌≡◌, ℕ, suc, ◌^◌, ◌<◌, ◌≤◌, Bool, true, false, List, [], ◌∷◌, ◌++◌, length, Option, Some, None, codes, refl, ◌∙◌, ap, arith, append_assoc}
use Rattle.std.specs.List.{AllZip}
use Rattle.std.specs.Fmt.{decimal}
use Rattle.dv_model.specs.declared.types.Command.{Command}
use Rattle.dv_model.specs.declared.types.Command.TheVariants as command
use Rattle.dv_model.specs.declared.types.How.{How}
use Rattle.dv_model.specs.declared.types.How.TheVariants.{Add, Remove, Replace}
use Rattle.dv_model.specs.declared.types.Item.{Item}
use Rattle.dv_model.specs.declared.types.Span.{Span}
use Rattle.dv_model.specs.Mailboxes.{last_modseq}
use Rattle.dv_model.specs.Texts.{spaced}
use Rattle.dv_formats.specs.Scripts.{AreFlags, IsCommand, IsItem, IsModifier, IsSet, how_text, uid_text}
use Rattle.dv_formats.specs.Parsing.{command_of, fetch_of, how_at, is_stop, item_at, item_limit, modifier_at, search_of, set_command, set_of, store_of, uid_command}
use Rattle.dv_commands.proofs.Grammar.{flags_complete, set_complete}
use Rattle.dv_commands.proofs.KeyTrees.{sought_again}
use Rattle.dv_commands.proofs.Numbers.{number_complete}
use Rattle.dv_commands.proofs.Words.{before_again, from_again, item_again, number_goes_on, set_goes_on, several_again}

-- ---- FETCH

fetch_again : (by_uid : Bool) (set : List Span) (items : List Item) (text : List ℕ) (words : List (List ℕ)) → IsSet set text → (1 ≤ length items) × (length items ≤ 8) → AllZip IsItem items words
    → fetch_of by_uid (text ++ 32 ∷ 40 ∷ (spaced words ++ 41 ∷ [])) ≡ Some (command.Fetch by_uid set items)
unfolding fetch_of
fetch_again by_uid set items text words is some each =
    let behind = 32 ∷ 40 ∷ (spaced words ++ 41 ∷ []) in
    let go = set_goes_on set text is in
    rw (before_again is_stop text behind go refl, set_complete text set is, from_again is_stop text behind go refl)
    (rw (several_again IsItem item_at item_again items words item_limit (41 ∷ []) each some.0 some.1 (refl, refl)) refl)

-- ---- STORE

how_again : (how : How) (rest : List ℕ) → how_at (how_text how ++ 32 ∷ rest) ≡ Some (how, rest)
unfolding how_at
how_again Add rest = refl
how_again Remove rest = refl
how_again Replace rest = refl

no_modifier : (how : How) (rest : List ℕ) → modifier_at (how_text how ++ rest) ≡ Some (None, how_text how ++ rest)
unfolding modifier_at
no_modifier Add rest = refl
no_modifier Remove rest = refl
no_modifier Replace rest = refl

modifier_again : (since : Option ℕ) (text : List ℕ) (how : How) (rest : List ℕ) → IsModifier since text → modifier_at (text ++ (how_text how ++ rest)) ≡ Some (since, how_text how ++ rest)
unfolding modifier_at
modifier_again None text how rest is = ap (λ t. modifier_at (t ++ (how_text how ++ rest))) is ∙ no_modifier how rest
modifier_again (Some n) text how rest is =
    let last = how_text how ++ rest in
    let behind = 41 ∷ 32 ∷ last in
    let small : n < 2 ^ 64 = omega (arith, is.0) in
    let go = number_goes_on n small in
    let same : text ++ last ≡ codes "(UNCHANGEDSINCE " ++ (decimal n ++ behind) = ap (λ t. t ++ last) is.1 ∙ append_assoc (codes "(UNCHANGEDSINCE " ++ decimal n) (codes ") ") last ∙ append_assoc (codes "(UNCHANGEDSINCE ") (decimal n) behind in
    ap modifier_at same ∙ rw (before_again is_stop (decimal n) behind go refl, number_complete (suc last_modseq) (decimal n) n (omega arith) (omega (arith, is.0)) refl, from_again is_stop (decimal n) behind go refl) refl

store_again : (by_uid : Bool) (set : List Span) (how : How) (flags : ℕ) (keywords : List (List ℕ)) (since : Option ℕ) (text modifier list : List ℕ) → IsSet set text → IsModifier since modifier → AreFlags flags keywords list
    → store_of by_uid (text ++ 32 ∷ (modifier ++ (how_text how ++ 32 ∷ list))) ≡ Some (command.Store by_uid set how flags keywords since)
unfolding store_of
store_again by_uid set how flags keywords since text modifier list is unchanged stored =
    let behind = 32 ∷ (modifier ++ (how_text how ++ 32 ∷ list)) in
    let go = set_goes_on set text is in
    rw (before_again is_stop text behind go refl, set_complete text set is, from_again is_stop text behind go refl)
    (rw (modifier_again since modifier how (32 ∷ list) unchanged) (rw (how_again how list) (rw (flags_complete list flags keywords stored) refl)))

-- ---- a line's command

fetch_here : (by_uid : Bool) (b : List ℕ) → command_of (uid_text by_uid ++ (codes "FETCH " ++ b)) ≡ fetch_of by_uid b
unfolding command_of uid_command set_command
fetch_here true b = refl
fetch_here false b = refl

store_here : (by_uid : Bool) (b : List ℕ) → command_of (uid_text by_uid ++ (codes "STORE " ++ b)) ≡ store_of by_uid b
unfolding command_of uid_command set_command
store_here true b = refl
store_here false b = refl

search_here : (by_uid : Bool) (b : List ℕ) → command_of (uid_text by_uid ++ (codes "SEARCH " ++ b)) ≡ search_of by_uid b
unfolding command_of uid_command set_command
search_here true b = refl
search_here false b = refl

remove_here : (b : List ℕ) (set : List Span) → set_of b ≡ Some set → command_of (codes "UID REMOVE " ++ b) ≡ Some (command.UidRemove set)
unfolding command_of uid_command
remove_here b set is = rw is refl

pub command_again : (c : Command) (b : List ℕ) → IsCommand c b → command_of b ≡ Some c
unfolding command_of
command_again command.Select b is = rw is refl
command_again command.Noop b is = rw is refl
command_again command.Check b is = rw is refl
command_again command.Expunge b is = rw is refl
command_again (command.Append flags keywords message) b is = absurd is
command_again (command.Fetch by_uid set items) b is =
    let inner = spaced is.asked.words in
    let uid = uid_text by_uid in
    let same : b ≡ uid ++ (codes "FETCH " ++ (is.set_text ++ 32 ∷ 40 ∷ (inner ++ 41 ∷ []))) =
    is.text ∙ ap (λ t. uid ++ codes "FETCH " ++ is.set_text ++ codes " " ++ t) is.asked.text
    ∙ append_assoc (uid ++ codes "FETCH " ++ is.set_text) (codes " ") (40 ∷ (inner ++ 41 ∷ []))
    ∙ append_assoc (uid ++ codes "FETCH ") is.set_text (32 ∷ 40 ∷ (inner ++ 41 ∷ []))
    ∙ append_assoc uid (codes "FETCH ") (is.set_text ++ 32 ∷ 40 ∷ (inner ++ 41 ∷ [])) in
    ap command_of same ∙ fetch_here by_uid (is.set_text ++ 32 ∷ 40 ∷ (inner ++ 41 ∷ [])) ∙ fetch_again by_uid set items is.set_text is.asked.words is.named is.asked.some is.asked.each
command_again (command.Store by_uid set how flags keywords since) b is =
    let uid = uid_text by_uid in
    let last = how_text how ++ 32 ∷ is.flags_text in
    let same : b ≡ uid ++ (codes "STORE " ++ (is.set_text ++ 32 ∷ (is.modifier ++ last))) =
    is.text
    ∙ append_assoc (uid ++ codes "STORE " ++ is.set_text ++ codes " " ++ is.modifier ++ how_text how) (codes " ") is.flags_text
    ∙ append_assoc (uid ++ codes "STORE " ++ is.set_text ++ codes " " ++ is.modifier) (how_text how) (32 ∷ is.flags_text)
    ∙ append_assoc (uid ++ codes "STORE " ++ is.set_text ++ codes " ") is.modifier last
    ∙ append_assoc (uid ++ codes "STORE " ++ is.set_text) (codes " ") (is.modifier ++ last)
    ∙ append_assoc (uid ++ codes "STORE ") is.set_text (32 ∷ (is.modifier ++ last))
    ∙ append_assoc uid (codes "STORE ") (is.set_text ++ 32 ∷ (is.modifier ++ last)) in
    ap command_of same ∙ store_here by_uid (is.set_text ++ 32 ∷ (is.modifier ++ last)) ∙ store_again by_uid set how flags keywords since is.set_text is.modifier is.flags_text is.named is.unchanged is.stored
command_again (command.Search by_uid k) b is =
    let uid = uid_text by_uid in
    let same : b ≡ uid ++ (codes "SEARCH " ++ is.0) = is.2 ∙ append_assoc uid (codes "SEARCH ") is.0 in
    ap command_of same ∙ search_here by_uid is.0 ∙ sought_again by_uid k is.0 is.1
command_again (command.UidRemove set) b is = ap command_of is.2 ∙ remove_here is.0 set (set_complete is.0 set is.1)
