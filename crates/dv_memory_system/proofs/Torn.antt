-- Images of a file before a write are images of it after the write, also with some of its bytes.
use Rattle.std.proofs.Common.{◌≡◌, ◌⊎◌, inl, inr, ⊎_elim, ℕ, ◌+◌, ◌<◌, ◌≤◌, List, [], ◌∷◌, ◌++◌, length, Option, Some, None, refl, sym, ◌∙◌, subst, arith}
use Rattle.std.specs.Prelude.{option_map, unwrap_or}
use Rattle.dv_shelf.specs.Folders.{patched}
use Rattle.dv_shelf.specs.Disks.{Range, Version, Gone, There, version_bytes, version_written, settled_version}
use Rattle.dv_shelf.specs.Images.{Covers, IsLoose, IsTornImage, IsFileImage}
use Rattle.dv_shelf.specs.Laws.{IsReadable, furthest-push, patched_length, settled_readable, written_readable}
use Rattle.dv_shelf.proofs.DiskLemmas.{settled_reads}
use Rattle.dv_shelf.proofs.TornImages.{patched_elsewhere}
use Rattle.dv_memory_system.specs.declared.samples.Samples.{Samples}
use Rattle.dv_memory_system.specs.States.{AreSamples}

covers_still : (written : List Range) (range : Range) (k : ℕ) → Covers written k → Covers (written ++ range ∷ []) k
covers_still [] range k none = absurd none
covers_still (r ∷ written) range k (inl here) = inl here
covers_still (r ∷ written) range k (inr later) = inr (covers_still written range k later)

covers_last : (written : List Range) (range : Range) (k : ℕ) → range.from ≤ k → k < range.upto → Covers (written ++ range ∷ []) k
covers_last [] range k from upto = inl (from, upto)
covers_last (r ∷ written) range k from upto = inr (covers_last written range k from upto)

-- a place of the range, or outside it
by_range : (at n k : ℕ) → ((at ≤ k) × (k < at + n)) ⊎ ((k < at) ⊎ (at + n ≤ k))
by_range at n k = grind arith

module _ (bytes : List ℕ) (base : ℕ) (written : List Range) (at n : ℕ) (stuck : List ℕ) (short : length stuck ≤ n) where
  abbrev More : List Range
  More = written ++ record { from = at; upto = at + n } ∷ []

  module _ (k : ℕ) (firm : IsLoose base More k → ⊥) where
    firm_before : IsLoose base written k → ⊥
    firm_before loose = ⊎_elim (λ covers. firm (inl (covers_still written _ k covers))) (λ past. firm (inr past)) loose

    away : (s : List ℕ) → length s ≤ n → (k < at) ⊎ (at + length s ≤ k)
    away s le = ⊎_elim (λ within. absurd (firm (inl (covers_last written (record { from = at; upto = at + n }) k within.0 within.1)))) (λ out. ⊎_elim (λ lt. inl lt) (λ ge. inr (omega arith)) out) (by_range at n k)

  -- an image of which nothing of the write was written, or some bytes
  unwritten : (image : List ℕ) → IsTornImage bytes base written image → IsTornImage (patched bytes at stuck) base More image
  unwritten image is = record {
    firm = λ k firm. is.firm k (firm_before k firm) ∙ sym (patched_elsewhere bytes at stuck k (away k firm stuck short));
    no_shorter = is.no_shorter;
    no_longer = omega (arith, is.no_longer, furthest-push written (record { from = at; upto = at + n }));
  }

  partly : (some image : List ℕ) → length some ≤ n → IsTornImage bytes base written image → IsTornImage (patched bytes at stuck) base More (patched image at some)
  partly some image le is =
      let long = patched_length image at some in
      record {
        firm = λ k firm. patched_elsewhere image at some k (away k firm some le) ∙ is.firm k (firm_before k firm) ∙ sym (patched_elsewhere bytes at stuck k (away k firm stuck short));
        no_shorter = omega (arith, is.no_shorter, long.no_shorter);
        no_longer = omega (arith, is.no_longer, long.no_longer, furthest-push written (record { from = at; upto = at + n }));
      }

unwritten_file : (at n : ℕ) (stuck : List ℕ) (version : Version) (file : Option (List ℕ)) → length stuck ≤ n → IsFileImage version file
    → IsFileImage (version_written at n stuck version) file
unwritten_file at n stuck Gone None short is = refl
unwritten_file at n stuck Gone (Some image) short is = absurd is
unwritten_file at n stuck (There bytes base written new) None short is = is
unwritten_file at n stuck (There bytes base written new) (Some image) short is = unwritten bytes base written at n stuck short image is

partly_file : (at n : ℕ) (stuck some : List ℕ) (version : Version) (file : Option (List ℕ)) → length stuck ≤ n → length some ≤ n → IsFileImage version file
    → IsFileImage (version_written at n stuck version) (option_map (λ old. patched old at some) file)
partly_file at n stuck some Gone None short le is = refl
partly_file at n stuck some Gone (Some image) short le is = absurd is
partly_file at n stuck some (There bytes base written new) None short le is = is
partly_file at n stuck some (There bytes base written new) (Some image) short le is = partly bytes base written at n stuck short some image le is

written_reads : (at n : ℕ) (stuck : List ℕ) (version : Version)
    → version_bytes (version_written at n stuck version) ≡ Some (patched (unwrap_or (version_bytes version) []) at stuck)
written_reads at n stuck Gone = refl
written_reads at n stuck (There bytes base written new) = refl

-- ---- three samples of a file

-- a copy
pub copied : (version : Version) (old : Samples) (read synced torn : Option (List ℕ)) → read ≡ old.read → synced ≡ old.synced → torn ≡ old.torn
    → AreSamples version old → AreSamples version (record { read = read; synced = synced; torn = torn })
copied version old read synced torn reads syncs torns are = record {
  reads = reads ∙ are.reads;
  read = subst (IsFileImage version) (sym reads) are.read;
  synced = subst (IsFileImage version) (sym syncs) are.synced;
  torn = subst (IsFileImage version) (sym torns) are.torn;
}

-- a durable file
pub durable : (file read synced torn : Option (List ℕ)) → read ≡ file → synced ≡ file → torn ≡ file
    → AreSamples (settled_version file) (record { read = read; synced = synced; torn = torn })
durable file read synced torn reads syncs torns =
    let is : IsFileImage (settled_version file) file = subst (IsFileImage (settled_version file)) (settled_reads file) (settled_readable file) in
    copied (settled_version file) (record { read = file; synced = file; torn = file }) read synced torn reads syncs torns
    (record { reads = sym (settled_reads file); read = is; synced = is; torn = is })

-- behind a write
pub written_samples : (at n : ℕ) (stuck half : List ℕ) (version : Version) (old : Samples) (read : List ℕ) (torn : Option (List ℕ))
    → length half ≤ length stuck → length stuck ≤ n → read ≡ patched (unwrap_or old.read []) at stuck → torn ≡ option_map (λ b. patched b at half) old.torn
    → AreSamples version old → AreSamples (version_written at n stuck version) (record { read = Some read; synced = old.synced; torn = torn })
written_samples at n stuck half version old read torn less short is torns are =
    let new = version_written at n stuck version in
    let before : IsReadable version = subst (IsFileImage version) are.reads are.read in
    let reads : Some read ≡ version_bytes new =
    subst (λ (o : Option (List ℕ)). Some read ≡ Some (patched (unwrap_or o []) at stuck)) are.reads (subst (λ (b : List ℕ). Some read ≡ Some b) is refl) ∙ sym (written_reads at n stuck version) in
    record {
      reads = reads;
      read = subst (IsFileImage new) (sym reads) (written_readable at n stuck version short before);
      synced = unwritten_file at n stuck version old.synced short are.synced;
      torn = subst (IsFileImage new) (sym torns) (partly_file at n stuck half version old.torn short (omega arith) are.torn);
    }
