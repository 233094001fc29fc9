-- The rows of a record update.
use Rattle.std.proofs.Common.{◌≡◌, ℕ, zero, suc, ◌+◌, ◌-◌, ◌*◌, ◌/◌, ◌<◌, ◌≤◌, List, [], length, slice_index_or, take, drop, refl, ap, sym, ◌∙◌, subst, arith}
use Rattle.std.proofs.Math.Nat.{div-mul-le_self, mul-le-mul_right, suc-mul}
use Rattle.std.proofs.lemmas.List.{drop-drop, drop-take, take-take}
use Rattle.dv_model.specs.Effects.{update_rows, update_size}
use Rattle.dv_ext.specs.Updates.{Updates}

pub length-update_rows : (k size : ℕ) (bytes : List ℕ) → length (update_rows k size bytes) ≡ k
length-update_rows zero size bytes = refl
length-update_rows (suc k) size bytes = ap suc (length-update_rows k size (drop size bytes))

pub row_of_update : (k size : ℕ) (bytes : List ℕ) (i : ℕ) → i < k → slice_index_or (update_rows k size bytes) i [] ≡ take size (drop (i * size) bytes)
row_of_update zero size bytes i h = absurd (omega arith)
row_of_update (suc k) size bytes zero h = ap (λ (n : ℕ). take size (drop n bytes)) (let e : 0 ≡ 0 * size = omega arith in e)
row_of_update (suc k) size bytes (suc i) h =
    row_of_update k size (drop size bytes) i (omega arith)
    ∙ ap (take size) (drop-drop (i * size) size bytes ∙ ap (λ (n : ℕ). drop n bytes) (let e : suc i * size ≡ i * size + size = suc-mul i size in omega arith))

-- a row stands among the bytes
pub row_within : (at size n : ℕ) → at < n / size → at * size + size ≤ n
row_within at size n h =
    let whole : n / size * size ≤ n = div-mul-le_self n size in
    let most : suc at * size ≤ n / size * size = mul-le-mul_right size (omega arith) in
    let e : suc at * size ≡ at * size + size = suc-mul at size in
    omega arith

-- the UID and the bytes of a row don't reach beyond it
pub uid_of_row : (n : ℕ) (rest : List ℕ) → take 4 (take (update_size n) rest) ≡ take 4 rest
uid_of_row n rest = take-take 4 (update_size n) rest (omega arith)

pub bytes_of_row : (n : ℕ) (rest : List ℕ) → take n (drop 4 (take (update_size n) rest)) ≡ take n (drop 4 rest)
bytes_of_row n rest =
    let whole : update_size n ≡ 4 + (update_size n - 4) = omega arith in
    ap (λ (k : ℕ). take n (drop 4 (take k rest))) whole ∙ ap (take n) (drop-take 4 (update_size n - 4) rest) ∙ take-take n (update_size n - 4) (drop 4 rest) (omega arith)

-- what is read of a row
pub record IsRead (size : ℕ) (bytes : List ℕ) (u : Updates) (at : ℕ) : Type 0 where
  pub within : at * update_size size + update_size size ≤ length bytes
  pub uid : take 4 (drop (at * update_size size) bytes) ≡ take 4 (slice_index_or u.rows at [])
  pub behind : take size (drop 4 (drop (at * update_size size) bytes)) ≡ take u.size (drop 4 (slice_index_or u.rows at []))

abbrev all_rows : ℕ → List ℕ → Updates
all_rows size bytes = record { size = size; rows = update_rows (length bytes / update_size size) (update_size size) bytes }

read_of : (size : ℕ) (bytes : List ℕ) (at : ℕ) → at < length bytes / update_size size → IsRead size bytes (all_rows size bytes) at
read_of size bytes at h =
    let row = row_of_update (length bytes / update_size size) (update_size size) bytes at h in
    record {
      within = row_within at (update_size size) (length bytes) h;
      uid = sym (ap (take 4) row ∙ uid_of_row size (drop (at * update_size size) bytes));
      behind = sym (ap (λ (r : List ℕ). take size (drop 4 r)) row ∙ bytes_of_row size (drop (at * update_size size) bytes));
    }

pub is_read : (size : ℕ) (bytes : List ℕ) (u : Updates) (at : ℕ) → all_rows size bytes ≡ u → at < length u.rows → IsRead size bytes u at
is_read size bytes u at is h =
    let count : length u.rows ≡ length bytes / update_size size = ap (λ (v : Updates). length v.rows) (sym is) ∙ length-update_rows (length bytes / update_size size) (update_size size) bytes in
    subst (λ (v : Updates). IsRead size bytes v at) is (read_of size bytes at (omega arith))
