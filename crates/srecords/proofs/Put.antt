-- What a section's lines put where: each of its bytes once at its address, and nothing else. Assumes nothing.
use mathlib.Core.Path.{◌≡◌, refl, ap, ap₂, ◌∙◌}
use mathlib.Core.List.{List, [], ◌∷◌, ◌++◌}
use mathlib.Core.Bool.{Bool, true, false, cond, ◌&&◌}
use Prim.Native.Nat.{ℕ, zero, suc, ◌+◌, ◌*◌, ◌-◌, ◌/◌, ◌≤◌, ◌<◌, min}
use native.Mathlib.Omega.{arith}
use native.Mathlib.Decide.{dec_lt}
use lib.Dec.{ltb, leb}
use lib.ListN.{length, get_or, drop, length-take, length-drop}
use lib.Seq.{get_or-take, get_or-drop}
use borrow.Author.Tests.{le-leb, lt-leb, lt-ltb, le-ltb}
use Rattle.std.proofs.lemmas.Bool.{and_from, and_right}
use Rattle.lists.specs.Rows.{tabulate}
use Rattle.srecords.specs.Lines.{S3}
use Rattle.srecords.specs.Reader.{Line, is_data, puts, bytes_put}
use Rattle.srecords.proofs.Text.{chunk, chunks}

-- ---- a line

module _ (x : ℕ) (l : Line) (later : List Line) where
  put_here : puts x l ≡ true → bytes_put (l ∷ later) x ≡ get_or l.bytes (x - l.address) 0 ∷ bytes_put later x
  unfolding bytes_put
  put_here e = rw e

  pub put_not : puts x l ≡ false → bytes_put (l ∷ later) x ≡ bytes_put later x
  unfolding bytes_put
  put_not e = rw e

pub put_append : (s t : List Line) (x : ℕ) → bytes_put (s ++ t) x ≡ bytes_put s x ++ bytes_put t x
unfolding bytes_put
put_append [] t x = refl
put_append (l ∷ s) t x = ap₂ (λ (a b : List ℕ). cond (puts x l) a b) (ap (λ (y : List ℕ). get_or l.bytes (x - l.address) 0 ∷ y) (put_append s t x)) (put_append s t x) ∙ go (puts x l)
  where
    go : (b : Bool)
        → cond b (get_or l.bytes (x - l.address) 0 ∷ (bytes_put s x ++ bytes_put t x)) (bytes_put s x ++ bytes_put t x)
        ≡ cond b (get_or l.bytes (x - l.address) 0 ∷ bytes_put s x) (bytes_put s x) ++ bytes_put t x
    go true = refl
    go false = refl

-- ---- a section's lines

module _ (address : ℕ) (bytes : List ℕ) (x : ℕ) where
  long : (i : ℕ) → length (chunk address bytes i).bytes ≡ min 16 (length bytes - 16 * i)
  long i = length-take 16 (drop (16 * i) bytes) ∙ ap (λ (k : ℕ). min 16 k) (length-drop (16 * i) bytes)

  has : (i : ℕ) → address + 16 * i ≤ x → x < address + 16 * i + length (chunk address bytes i).bytes → puts x (chunk address bytes i) ≡ true
  unfolding puts
  has i low high = and_from _ _ (and_from _ _ (le-leb 49 S3 (omega arith)) (le-leb S3 51 (omega arith))) (and_from _ _ (le-leb _ _ low) (lt-ltb _ _ high))

  low_not : (i : ℕ) → x < address + 16 * i → puts x (chunk address bytes i) ≡ false
  unfolding puts
  low_not i h = and_right (is_data (chunk address bytes i)) _ (ap (λ (t : Bool). t && ltb x (address + 16 * i + length (chunk address bytes i).bytes)) (lt-leb _ _ h))

  high_not : (i : ℕ) → address + 16 * i + length (chunk address bytes i).bytes ≤ x → puts x (chunk address bytes i) ≡ false
  unfolding puts
  high_not i h = and_right (is_data (chunk address bytes i)) _ (and_right (leb (address + 16 * i) x) _ (le-ltb _ _ h))

  -- lines that start above put nothing there
  below : (i n : ℕ) → x < address + 16 * i → bytes_put (tabulate (chunk address bytes) i n) x ≡ []
  unfolding tabulate bytes_put
  below i zero h = refl
  below i (suc n) h = put_not x (chunk address bytes i) (tabulate (chunk address bytes) (suc i) n) (low_not i h) ∙ below (suc i) n (omega arith)

  -- nothing lies past the bytes
  past : (i n : ℕ) → address + length bytes ≤ x → 16 * (i + n) < length bytes + 16 → bytes_put (tabulate (chunk address bytes) i n) x ≡ []
  unfolding tabulate bytes_put
  past i zero h l = refl
  past i (suc n) h l =
      put_not x (chunk address bytes i) (tabulate (chunk address bytes) (suc i) n) (high_not i (let m = long i in omega arith)) ∙ past (suc i) n h (omega arith)

  -- a byte is put there once
  within : (i n : ℕ) → address + 16 * i ≤ x → x < address + length bytes → x < address + 16 * (i + n)
      → bytes_put (tabulate (chunk address bytes) i n) x ≡ get_or bytes (x - address) 0 ∷ []
  unfolding tabulate
  within i zero low high room = absurd (omega arith)
  within i (suc n) low high room = go (dec_lt x (address + 16 * suc i)) (within (suc i) n)
    where
      here : x < address + 16 * suc i → get_or (chunk address bytes i).bytes (x - (address + 16 * i)) 0 ≡ get_or bytes (x - address) 0
      here h =
          get_or-take 16 (drop (16 * i) bytes) (x - (address + 16 * i)) 0 (omega arith)
          ∙ get_or-drop (16 * i) bytes (x - (address + 16 * i)) 0
          ∙ ap (λ (k : ℕ). get_or bytes k 0) (let z : 16 * i + (x - (address + 16 * i)) ≡ x - address = omega arith in z)

      go : Dec (x < address + 16 * suc i)
          → (address + 16 * suc i ≤ x → x < address + length bytes → x < address + 16 * (suc i + n) → bytes_put (tabulate (chunk address bytes) (suc i) n) x ≡ get_or bytes (x - address) 0 ∷ [])
          → bytes_put (chunk address bytes i ∷ tabulate (chunk address bytes) (suc i) n) x ≡ get_or bytes (x - address) 0 ∷ []
      go (yes h) ih =
          put_here x (chunk address bytes i) _ (has i low (let m = long i in omega arith))
          ∙ ap₂ (λ (b : ℕ) (r : List ℕ). b ∷ r) (here h) (below (suc i) n h)
      go (no h) ih =
          put_not x (chunk address bytes i) _ (high_not i (let m = long i in omega arith)) ∙ ih (omega arith) high (omega arith)

  -- THEOREM: a section's lines put each of its bytes at its address, once
  pub put_own : address ≤ x → x < address + length bytes → bytes_put (chunks address bytes) x ≡ get_or bytes (x - address) 0 ∷ []
  put_own low high = within 0 ((length bytes + 15) / 16) (omega arith) high (omega arith)

  -- .. and nothing elsewhere
  pub put_below : x < address → bytes_put (chunks address bytes) x ≡ []
  put_below h = below 0 ((length bytes + 15) / 16) (omega arith)

  pub put_past : address + length bytes ≤ x → bytes_put (chunks address bytes) x ≡ []
  put_past h = past 0 ((length bytes + 15) / 16) h (omega arith)
