-- Which texts are of bytes.
use Rattle.std.proofs.Common.{ℕ, ◌+◌, ◌^◌, ◌<◌, List, [], ◌∷◌, ◌++◌, length, take, drop, replicate, sym, refl, arith}
use Rattle.std.specs.Prelude.{All, flat_map}
use Rattle.std.specs.Int.{w16, w32, to_be_bytes, to_le_bytes}
use Rattle.std.proofs.lemmas.List.{take_at, drop_at}
use Rattle.std.proofs.lemmas.List.Elements.{All-append, All-cons, All-drop, All-from_recursion, All-head, All-nil, All-replicate, All-same, All-tail, All-take, All-weaker}
use Rattle.dv_model.specs.declared.types.Body.{Body}
use Rattle.dv_model.specs.declared.types.Body.TheVariants as body
use Rattle.dv_model.specs.declared.types.Part.{Part}
use Rattle.dv_model.specs.declared.types.Record.{Record}
use Rattle.dv_model.specs.Journals.{AreByteValues, IsGuid, new_guid}
use Rattle.dv_model.specs.Names.{IsName, IsNameByte}
use Rattle.dv_model.specs.Spelling.{part_text, payload_text, size_code, type_of, written}
use Rattle.dv_validity.specs.Laws.{HasBytes}

abbrev pub IsByte : ℕ → Type 0
IsByte b = b < 2 ^ 8

-- ---- lists in turn

pub flat_all : {X Y : Type 0} (P : X → Type 0) (Q : Y → Type 0) (f : X → List Y) → ((x : X) → P x → All Q (f x)) → (xs : List X) → All P xs → All Q (flat_map f xs)
flat_all P Q f each [] all = All-nil Q
flat_all P Q f each (x ∷ xs) all = All-append Q (f x) (flat_map f xs) (each x (All-head P x xs all)) (flat_all P Q f each xs (All-tail P x xs all))

pub all_left : {X : Type 0} (P : X → Type 0) (xs ys : List X) → All P (xs ++ ys) → All P xs
all_left P xs ys all = All-same P xs (take (length xs) (xs ++ ys)) (sym (take_at xs ys (length xs) refl)) (All-take P (length xs) (xs ++ ys) all)

pub all_right : {X : Type 0} (P : X → Type 0) (xs ys : List X) → All P (xs ++ ys) → All P ys
all_right P xs ys all = All-same P ys (drop (length xs) (xs ++ ys)) (sym (drop_at xs ys (length xs) refl)) (All-drop P (length xs) (xs ++ ys) all)

-- ---- texts

pub word_bytes : (n : ℕ) → AreByteValues (to_le_bytes w32 n)
word_bytes n = All-from_recursion IsByte (to_le_bytes w32 n) (omega arith, (omega arith, (omega arith, (omega arith, tt))))

pub half_bytes : (n : ℕ) → AreByteValues (to_le_bytes w16 n)
half_bytes n = All-from_recursion IsByte (to_le_bytes w16 n) (omega arith, (omega arith, tt))

big_bytes : (n : ℕ) → AreByteValues (to_be_bytes w32 n)
big_bytes n = All-from_recursion IsByte (to_be_bytes w32 n) (omega arith, (omega arith, (omega arith, (omega arith, tt))))

pub zero_bytes : (n : ℕ) → AreByteValues (replicate n 0)
zero_bytes n = All-replicate IsByte n 0 (omega arith)

pub name_bytes : (name : List ℕ) → IsName name → AreByteValues name
name_bytes name is = All-weaker IsNameByte IsByte (λ b byte. omega (arith, byte.printable.1)) name is.bytes

size_bytes : (n : ℕ) → AreByteValues (size_code n)
size_bytes n = All-from_recursion IsByte (size_code n) (omega arith, (omega arith, (omega arith, (omega arith, tt))))

-- a record whose payload is of bytes
pub written_bytes : (r : Record) → AreByteValues (payload_text r.body) → AreByteValues (written r)
written_bytes r all =
    let size : List ℕ = size_code (8 + length (payload_text r.body)) in
    All-append IsByte (size ++ to_le_bytes w32 (type_of r)) (payload_text r.body)
    (All-append IsByte size (to_le_bytes w32 (type_of r)) (size_bytes (8 + length (payload_text r.body))) (word_bytes (type_of r))) all

pub payload_bytes : (r : Record) → AreByteValues (written r) → AreByteValues (payload_text r.body)
payload_bytes r all = all_right IsByte (size_code (8 + length (payload_text r.body)) ++ to_le_bytes w32 (type_of r)) (payload_text r.body) all

-- the GUID that an appended message is given
pub new_guid_is : (indexid validity uid received : ℕ) → IsGuid (new_guid indexid validity uid received)
new_guid_is indexid validity uid received = record {
  size = refl;
  bytes =
      All-append IsByte (to_be_bytes w32 indexid ++ to_be_bytes w32 validity ++ to_be_bytes w32 uid) (to_be_bytes w32 received)
      (All-append IsByte (to_be_bytes w32 indexid ++ to_be_bytes w32 validity) (to_be_bytes w32 uid)
      (All-append IsByte (to_be_bytes w32 indexid) (to_be_bytes w32 validity) (big_bytes indexid) (big_bytes validity)) (big_bytes uid))
      (big_bytes received);
}

-- ---- the parts of a header are of bytes where its record is

parts_bytes : (parts : List Part) → AreByteValues (payload_text (body.HeaderUpdate parts)) → All (λ part. AreByteValues part.bytes) parts
parts_bytes [] all = All-nil (λ part. AreByteValues part.bytes)
parts_bytes (part ∷ parts) all =
    let head : List ℕ = to_le_bytes w16 part.offset ++ to_le_bytes w16 (length part.bytes) in
    let rest : List ℕ = payload_text (body.HeaderUpdate parts) in
    let text : AreByteValues (part_text part) = all_left IsByte (part_text part) rest all in
    let front : AreByteValues (head ++ part.bytes) = all_left IsByte (head ++ part.bytes) _ text in
    All-cons (λ (part : Part). AreByteValues part.bytes) part parts (all_right IsByte head part.bytes front) (parts_bytes parts (all_right IsByte (part_text part) rest all))

pub body_has_bytes : (b : Body) → AreByteValues (payload_text b) → HasBytes b
body_has_bytes (body.HeaderUpdate parts) all = parts_bytes parts all
body_has_bytes b all = tt
