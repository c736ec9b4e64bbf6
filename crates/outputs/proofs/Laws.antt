-- Two-byte records at the front of a table, a turn of the loop that writes them, and the counts that are stored one after another into
-- a cleared table. Assumes nothing.
use mathlib.Core.Path.{◌≡◌, refl, sym, ap, ap₂, ◌∙◌}
use mathlib.Core.List.{List, [], ◌∷◌, ◌++◌, append_assoc, append-nil}
use mathlib.Core.Bool.{Bool, true, false, cond}
use Prim.Native.Nat.{ℕ, zero, suc, ◌+◌, ◌*◌, ◌/◌, ◌%◌, ◌-◌, ◌≤◌, ◌<◌}
use native.Mathlib.Numerals.{add-one}
use native.Mathlib.Omega.{arith}
use borrow.Author.Tests.{leb-true, leb-false}
use lib.Dec.{leb}
use lib.ListN.{length, get_or, take, drop, replicate, length-append, length-replicate, length-take, drop_of_length-le}
use lib.Seq.{sets, sets-eq, length-sets, drop-cons, take_all, take-append-le, take-append_seam}
use Rattle.lists.specs.Tables.{laid}
use Rattle.lists.specs.Rows.{clear_from}
use Rattle.lists.proofs.Clear.{clear_is, clear_all}
use Rattle.fields.specs.Fields.{enc16}
use Rattle.outputs.specs.Outputs.{halves, counts_of, store_count, store_counts}

-- ---- numbers as records

pub length-halves : (l : List ℕ) → length (halves l) ≡ 2 * length l
unfolding halves
length-halves [] = refl
length-halves (x ∷ l) = let ih = length-halves l in omega arith

pub halves-append : (l m : List ℕ) → halves (l ++ m) ≡ halves l ++ halves m
unfolding halves
halves-append [] m = refl
halves-append (x ∷ l) m = ap (λ (t : List ℕ). enc16 x ++ t) (halves-append l m)

-- a turn: one number is stored, and the rest follows it
pub halves_turn : (out numbers : List ℕ) (i : ℕ) → i < length numbers
    → sets (sets out (2 * i) (enc16 (get_or numbers i 0))) (2 * (i + 1)) (halves (drop (i + 1) numbers)) ≡ sets out (2 * i) (halves (drop i numbers))
unfolding halves
halves_turn out numbers i h =
    rw (drop-cons numbers i 0 h)
    (ap₂ (λ (p k : ℕ). sets (sets out (2 * i) (enc16 (get_or numbers i 0))) p (halves (drop k numbers))) (let e : 2 * (i + 1) ≡ suc (suc (2 * i)) = omega arith in e)
    (add-one i))

pub halves_done : (out numbers : List ℕ) (i : ℕ) → length numbers ≤ i → sets out (2 * i) (halves (drop i numbers)) ≡ out
unfolding halves
halves_done out numbers i h = rw (drop_of_length-le numbers h)

-- the same of counts: one is stored where it fits, and the rest follows it
pub counts_turn : (counts numbers : List ℕ) (i : ℕ) → i < length numbers
    → store_counts (i + 1) (drop (i + 1) numbers) (store_count i (get_or numbers i 0) counts) ≡ store_counts i (drop i numbers) counts
unfolding store_counts
counts_turn counts numbers i h =
    rw (drop-cons numbers i 0 h)
    (ap (λ (k : ℕ). store_counts k (drop k numbers) (store_count i (get_or numbers i 0) counts)) (add-one i))

pub counts_done : (counts numbers : List ℕ) (i : ℕ) → length numbers ≤ i → store_counts i (drop i numbers) counts ≡ counts
unfolding store_counts
counts_done counts numbers i h = rw (drop_of_length-le numbers h)

-- ---- a table that is cleared after its records

-- records at the front, and what follows them cleared
pub laid-after : (out bytes : List ℕ) (n : ℕ) → n ≡ length bytes → length bytes ≤ length out → clear_from 0 n (sets out 0 bytes) ≡ laid (length out) bytes
laid-after out bytes n e h =
    clear_is 0 n (sets out 0 bytes)
    ∙ ap₂ (λ (t : List ℕ) (k : ℕ). t ++ replicate (k - n) 0) (ap (take n) (sets-eq bytes out 0 (omega arith))) (length-sets out 0 bytes)
    ∙ rw (e, take-append_seam bytes (drop (0 + length bytes) out))

-- ---- the counts

length-laid : (size : ℕ) (bytes : List ℕ) → length bytes ≤ size → length (laid size bytes) ≡ size
length-laid size bytes h = simp (length-append, length-replicate) (omega arith)

-- two bytes stored right after what stands at the front of a cleared table
stored_after : (l : List ℕ) (m a b : ℕ) → sets (l ++ replicate (suc (suc m)) 0) (length l) (a ∷ b ∷ []) ≡ l ++ (a ∷ b ∷ replicate m 0)
stored_after [] m a b = refl
stored_after (x ∷ l) m a b = ap (λ (t : List ℕ). x ∷ t) (stored_after l m a b)

-- a count more, where it fits
laid_more : (size : ℕ) (done : List ℕ) (c : ℕ) → 2 * length done + 2 ≤ size
    → sets (laid size (halves done)) (2 * length done) (enc16 c) ≡ laid size (halves (done ++ (c ∷ [])))
unfolding halves
laid_more size done c h =
    let n = length-halves done in
    let m = length-halves (done ++ (c ∷ [])) in
    let k = length-append done (c ∷ []) in
    let room : size - length (halves done) ≡ suc (suc (size - length (halves (done ++ (c ∷ []))))) = omega arith in
    ap₂ (λ (r i : ℕ). sets (halves done ++ replicate r 0) i (enc16 c)) room (sym n)
    ∙ stored_after (halves done) (size - length (halves (done ++ (c ∷ [])))) (c % 256) (c / 256 % 256)
    ∙ sym (append_assoc (halves done) (enc16 c) (replicate (size - length (halves (done ++ (c ∷ [])))) 0))
    ∙ ap (λ (t : List ℕ). t ++ replicate (size - length (halves (done ++ (c ∷ [])))) 0) (sym (halves-append done (c ∷ [])))

-- no counts: zeros throughout
pub no_counts : (size : ℕ) → counts_of size [] ≡ replicate size 0
unfolding counts_of halves
no_counts size = nothing (size / 2)
  where
    nothing : (n : ℕ) → laid size (halves (take n [])) ≡ replicate size 0
    nothing zero = ap (λ (k : ℕ). replicate k 0) (let e : size - 0 ≡ size = omega arith in e)
    nothing (suc n) = ap (λ (k : ℕ). replicate k 0) (let e : size - 0 ≡ size = omega arith in e)

module _ (size : ℕ) where
  one_count : (done : List ℕ) (c : ℕ) → store_count (length done) c (counts_of size done) ≡ counts_of size (done ++ (c ∷ []))
  unfolding store_count counts_of
  one_count done c =
      let few : length (halves (take (size / 2) done)) ≤ size = omega (arith, length-halves (take (size / 2) done), length-take (size / 2) done) in
      rw (length-laid size (halves (take (size / 2) done)) few) (go (leb (2 * length done + 2) size) refl)
    where
      go : (t : Bool) → leb (2 * length done + 2) size ≡ t
          → cond t (sets (laid size (halves (take (size / 2) done))) (2 * length done) (enc16 c)) (laid size (halves (take (size / 2) done)))
          ≡ laid size (halves (take (size / 2) (done ++ (c ∷ []))))
      go true e =
          let h = leb-true (2 * length done + 2) size e in
          rw (take_all (size / 2) done (omega arith), take_all (size / 2) (done ++ (c ∷ [])) (simp length-append (omega arith)))
          (laid_more size done c h)
      go false e =
          let h = leb-false (2 * length done + 2) size e in
          ap (λ (l : List ℕ). laid size (halves l)) (sym (take-append-le (size / 2) done (c ∷ []) (omega arith)))

  more_counts : (done counts : List ℕ) → store_counts (length done) counts (counts_of size done) ≡ counts_of size (done ++ counts)
  unfolding store_counts
  more_counts done [] = ap (counts_of size) (sym (append-nil done))
  more_counts done (c ∷ counts) =
      ap (store_counts (suc (length done)) counts) (one_count done c)
      ∙ ap (λ (k : ℕ). store_counts k counts (counts_of size (done ++ (c ∷ [])))) (let e : suc (length done) ≡ length (done ++ (c ∷ [])) = simp length-append (omega arith) in e)
      ∙ more_counts (done ++ (c ∷ [])) counts
      ∙ ap (counts_of size) (append_assoc done (c ∷ []) counts)

  -- counts stored one after another into a cleared table
  pub counts_stored : (counts : List ℕ) → store_counts 0 counts (replicate size 0) ≡ counts_of size counts
  counts_stored counts = ap (store_counts 0 counts) (sym none) ∙ more_counts [] counts
    where
      none : counts_of size [] ≡ replicate size 0
      none = no_counts size

-- .. into one that was cleared first
pub counts_cleared : (counts numbers : List ℕ) {cleared : List ℕ} → cleared ≡ clear_from 0 0 counts → store_counts 0 numbers cleared ≡ counts_of (length counts) numbers
counts_cleared counts numbers e = ap (store_counts 0 numbers) (e ∙ clear_all 0 counts) ∙ counts_stored (length counts) numbers
