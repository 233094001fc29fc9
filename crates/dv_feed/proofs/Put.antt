-- A group's words are put one after another.
use Rattle.std.proofs.Common.{◌≡◌, ℕ, ◌+◌, ◌*◌, ◌/◌, List, [], ◌∷◌, ◌++◌, length, take, drop, sym, ap, ◌∙◌, append_assoc, append-nil, arith, length-append}
use Rattle.std.specs.Int.{w32, from_le_bytes}
use Rattle.std.proofs.lemmas.List.{take_all}
use Rattle.dv_model.specs.Spelling.{group_text}
use Rattle.dv_formats.specs.Feeds.{entry_words, words_of}
use Rattle.dv_feeding.proofs.Words.{length-words_of}
use Rattle.dv_front.specs.Ends.{PenView, published, with_note, with_word}
use Rattle.dv_front.specs.Notes.{text_of}
use Rattle.dv_front.specs.declared.notes.Note.{Note}
use Rattle.dv_front.proofs.NoteLemmas.{text_append}
use Rattle.dv_feed.specs.Publishing.{with_entry, with_words}
use Rattle.dv_feed.proofs.Words.{entry_is, words_of_snoc}

-- so many words of a text were put
pub words_long : (pen p : PenView) (k : ℕ) (text : List ℕ) → p ≡ with_words pen (words_of k text) → length p.put ≡ length pen.put + k
words_long pen p k text is = ap (λ (q : PenView). length q.put) is ∙ length-append pen.put (words_of k text) ∙ ap (λ n. length pen.put + n) (length-words_of k text)

-- a word more was put
pub put_more : (pen before after : PenView) (k w : ℕ) (text : List ℕ) → before ≡ with_words pen (words_of k text) → after ≡ with_word before w → w ≡ from_le_bytes w32 (take 4 (drop (k * 4) text))
    → after ≡ with_words pen (words_of (k + 1) text)
put_more pen before after k w text is put word =
    let more : (pen.put ++ words_of k text) ++ w ∷ [] ≡ pen.put ++ words_of (k + 1) text =
    append_assoc pen.put (words_of k text) (w ∷ []) ∙ ap (λ ws. pen.put ++ ws) (ap (λ x. words_of k text ++ x ∷ []) word ∙ sym (words_of_snoc k text)) in
    put ∙ ap (λ (q : PenView). with_word q w) is ∙ (λ i. record pen { put = more i })

-- the author, the number and the words were put
pub put_group : (pen one two all : PenView) (author count : ℕ) (ws : List ℕ) → one ≡ with_word pen author → two ≡ with_word one count → all ≡ with_words two ws
    → all ≡ with_words pen (author ∷ count ∷ ws)
put_group pen one two all author count ws a b c =
    let behind : two ≡ with_word (with_word pen author) count = b ∙ ap (λ (q : PenView). with_word q count) a in
    let words : ((pen.put ++ author ∷ []) ++ count ∷ []) ++ ws ≡ pen.put ++ author ∷ count ∷ ws =
    append_assoc (pen.put ++ author ∷ []) (count ∷ []) ws ∙ append_assoc pen.put (author ∷ []) (count ∷ ws) in
    c ∙ ap (λ (q : PenView). with_words q ws) behind ∙ (λ i. record pen { put = words i })

abbrev pub text_words : ℕ → List ℕ → List ℕ
text_words author text = author ∷ length text / 4 ∷ words_of (length text / 4) text

pub group_long : (pen all : PenView) (author : ℕ) (text : List ℕ) → all ≡ with_words pen (text_words author text) → length all.put ≡ length pen.put + 2 + length text / 4
group_long pen all author text is =
    omega (arith, ap (λ (q : PenView). length q.put) is, length-append pen.put (text_words author text), length-words_of (length text / 4) text)

pub all_put : (pen all : PenView) (author n : ℕ) (text : List ℕ) → all ≡ with_words pen (text_words author text) → n ≡ length pen.put + 2 + length text / 4 → take n all.put ≡ pen.put ++ text_words author text
all_put pen all author n text is long = take_all n all.put (omega (arith, long, group_long pen all author text is)) ∙ ap (λ (q : PenView). q.put) is

-- with the entry's words behind those that are published, the first words are those of one entry more
pub group_text_is : (pen all : PenView) (n : ℕ) (text : List ℕ) (note : Note) → all ≡ with_words pen (text_words note.entry.author text) → n ≡ length pen.put + 2 + length text / 4 → pen.put ≡ published pen → group_text note.entry.group ≡ text
    → take n all.put ≡ text_of (pen.notes ++ note ∷ [])
group_text_is pen all n text note is long same of =
    all_put pen all note.entry.author n text is long
    ∙ ap (λ ws. pen.put ++ ws) (entry_is note.entry.author note.entry.group text of)
    ∙ ap (λ ws. ws ++ entry_words note.entry) same
    ∙ ap (λ ws. text_of pen.notes ++ ws) (sym (append-nil (entry_words note.entry)))
    ∙ sym (text_append pen.notes (note ∷ []))

pub group_published : (pen all after : PenView) (text : List ℕ) (note : Note) → all ≡ with_words pen (text_words note.entry.author text) → after ≡ with_note all note → group_text note.entry.group ≡ text → after ≡ with_entry pen note
group_published pen all after text note is noted of =
    noted ∙ ap (λ (q : PenView). with_note q note) (is ∙ ap (λ ws. with_words pen ws) (entry_is note.entry.author note.entry.group text of))
