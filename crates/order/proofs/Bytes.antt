-- Unit records as bytes: what was written is read, wherever the records stand, by the laws of obj; and a turn of the loop that writes them.
-- Assumes nothing.
use mathlib.Core.Path.{◌≡◌, refl, sym, ap, ◌∙◌}
use mathlib.Core.List.{List, [], ◌∷◌, ◌++◌, map, append_assoc}
use Prim.Native.Nat.{ℕ, zero, suc, ◌+◌, ◌*◌, ◌≤◌, ◌<◌}
use native.Mathlib.Nat.{zero-add, le_of_suc-le-suc, not-suc-le-zero}
use native.Mathlib.Omega.{arith}
use lib.ListN.{length, get_or, drop, length-append, get_or-append, drop_of_length-le}
use lib.Seq.{sets, get_or-append-add}
use Rattle.std.proofs.lemmas.List.{drop_more}
use Rattle.lists.proofs.Stores.{sets-sets}
use Rattle.obj.specs.Records.{unit_at}
use Rattle.obj.specs.Bytes.{bytes_of_unit}
use Rattle.obj.specs.Laws.{length-unit_bytes, unit_same}
use Rattle.obj.proofs.Bytes.{unit_back}
use Rattle.obj.specs.declared.Unit as units
use Rattle.order.specs.Bytes.{units_bytes, Fits}

pub length-units_bytes : (l : List units.Unit) → length (units_bytes l) ≡ 8 * length l
unfolding units_bytes
length-units_bytes [] = refl
length-units_bytes (u ∷ l) = length-append (bytes_of_unit u) (units_bytes l) ∙ omega (arith, length-unit_bytes u, length-units_bytes l)

-- ---- what was written is read back

-- the first of several records, and those after it
in_front : (u : units.Unit) (r : List ℕ) → unit_at (bytes_of_unit u ++ r) 0 ≡ unit_at (bytes_of_unit u) 0
in_front u r =
    unit_same (bytes_of_unit u ++ r) (bytes_of_unit u) 0 0
    (λ k h. rw zero-add (get_or-append (bytes_of_unit u) r 0 k (omega (arith, length-unit_bytes u))))

behind : (u : units.Unit) (r : List ℕ) (at : ℕ) → unit_at (bytes_of_unit u ++ r) (8 + at) ≡ unit_at r at
behind u r at =
    unit_same (bytes_of_unit u ++ r) r (8 + at) at
    (λ k h.
    ap (λ (m : ℕ). get_or (bytes_of_unit u ++ r) m 0) (let e : 8 + at + k ≡ length (bytes_of_unit u) + (at + k) = omega (arith, length-unit_bytes u) in e)
    ∙ get_or-append-add (bytes_of_unit u) r (at + k) 0)

-- THEOREM: a record of a table, whatever follows the records, is read as it was
pub units_back : (l : List units.Unit) (r : List ℕ) (k : ℕ) (d : units.Unit) → k < length l → Fits (get_or l k d) → unit_at (units_bytes l ++ r) (8 * k) ≡ get_or l k d
unfolding units_bytes
units_back [] r k d h f = absurd (not-suc-le-zero h)
units_back (u ∷ l) r zero d h f =
    ap (λ (b : List ℕ). unit_at b 0) (append_assoc (bytes_of_unit u) (units_bytes l) r) ∙ in_front u (units_bytes l ++ r) ∙ unit_back u f.name f.order
units_back (u ∷ l) r (suc k) d h f =
    ap (λ (b : List ℕ). unit_at b (8 * suc k)) (append_assoc (bytes_of_unit u) (units_bytes l) r)
    ∙ ap (unit_at (bytes_of_unit u ++ (units_bytes l ++ r))) (let e : 8 * suc k ≡ 8 + 8 * k = omega arith in e)
    ∙ behind u (units_bytes l ++ r) (8 * k)
    ∙ units_back l r k d (le_of_suc-le-suc h) f

-- ---- a turn of the loop that writes the records of a list: one is written, and the rest follows it
module _ (out : List ℕ) (f : ℕ → units.Unit) (list : List ℕ) (i : ℕ) where
  pub written_turn : i < length list
      → sets (sets out (8 * i) (bytes_of_unit (f (get_or list i 0)))) (8 * (i + 1)) (units_bytes (map f (drop (i + 1) list)))
      ≡ sets out (8 * i) (units_bytes (map f (drop i list)))
  unfolding units_bytes
  written_turn h =
      let u = f (get_or list i 0) in
      sets-sets out (8 * i) (bytes_of_unit u) (8 * (i + 1)) (units_bytes (map f (drop (i + 1) list))) (omega (arith, length-unit_bytes u))
      ∙ ap (λ (l : List ℕ). sets out (8 * i) (units_bytes (map f l))) (sym (drop_more list i 0 h))

  pub written_all : length list ≤ i → sets out (8 * i) (units_bytes (map f (drop i list))) ≡ out
  unfolding units_bytes
  written_all h = ap (λ (l : List ℕ). sets out (8 * i) (units_bytes (map f l))) (drop_of_length-le list h)
