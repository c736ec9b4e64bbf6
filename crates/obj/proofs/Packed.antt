-- Packed tables, of records of one width: a record stored behind the first k is one more at their end, and leaves them. Stated for any record whose reader looks at its own bytes only.
-- Assumes nothing.
use mathlib.Core.Path.{◌≡◌, sym, ap, ◌∙◌}
use mathlib.Core.List.{List, [], ◌∷◌, ◌++◌}
use Prim.Native.Nat.{ℕ, suc, ◌+◌, ◌*◌, ◌≤◌, ◌<◌}
use native.Mathlib.Nat.{zero-add, mul-suc, mul-le-mul_left}
use native.Mathlib.Omega.{arith}
use lib.ListN.{length, get_or}
use lib.Seq.{sets}
use Rattle.lists.proofs.Rows.{tabulate_more}
use Rattle.lists.proofs.Parts.{tabulate_same}
use Rattle.lists.proofs.Stores.{get_or-sets_at, get_or-sets_other}
use Rattle.obj.specs.Records.{records_in}

module _ {A : Type 0} (w : ℕ) (read : List ℕ → ℕ → A)
    (same : (b c : List ℕ) (i j : ℕ) → ((k : ℕ) → k < w → get_or b (i + k) 0 ≡ get_or c (j + k) 0) → read b i ≡ read c j) where
  -- what is stored from record k on leaves the records before it
  pub read_below : (b vs : List ℕ) (i k : ℕ) → i < k → read (sets b (w * k) vs) (w * i) ≡ read b (w * i)
  read_below b vs i k h =
      let l : w * suc i ≤ w * k = mul-le-mul_left w h in
      let e = mul-suc w i in
      same (sets b (w * k) vs) b (w * i) (w * i) (λ j q. get_or-sets_other b (w * k) vs (w * i + j) 0 (λ m p. omega arith))

  -- a stored record is read
  pub read_stored : (b vs : List ℕ) (at : ℕ) → length vs ≡ w → at + w ≤ length b → read (sets b at vs) at ≡ read vs 0
  read_stored b vs at long room =
      same (sets b at vs) vs at 0 (λ j q. get_or-sets_at b at vs j 0 (omega arith) (omega arith) ∙ ap (λ (m : ℕ). get_or vs m 0) (sym (zero-add j)))

  pub record_more : (b vs : List ℕ) (k : ℕ) (x : A) → length vs ≡ w → w * k + w ≤ length b → read vs 0 ≡ x
      → records_in w read (sets b (w * k) vs) (k + 1) ≡ records_in w read b k ++ (x ∷ [])
  record_more b vs k x long room back =
      tabulate_more (λ i. read (sets b (w * k) vs) (w * i)) k
      ∙ (λ d.
      tabulate_same (λ i. read (sets b (w * k) vs) (w * i)) (λ i. read b (w * i)) 0 k (λ j m q. read_below b vs j k (omega arith)) d
      ++ ((read_stored b vs (w * k) long room ∙ back) d ∷ []))
