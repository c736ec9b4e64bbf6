-- The splitting end: a turn of its pass over the symbols, and the ways in which it is found. Assumes nothing.
use mathlib.Core.Path.{◌≡◌, ap, ◌∙◌}
use mathlib.Core.List.{List, [], ◌∷◌, reverse, reverse-append}
use mathlib.Core.Bool.{true, false, cond, ◌&&◌, ◌||◌, false≢true}
use mathlib.Core.Logic.{◌⊎◌, inl, inr}
use Prim.Native.Nat.{ℕ, suc, ◌+◌, ◌-◌, ◌≤◌, ◌<◌}
use native.Mathlib.Omega.{arith}
use lib.Dec.{ltb, eqb}
use lib.ListN.{length, get_or, take}
use lib.Seq.{take-suc}
use borrow.Author.Tests.{le-ltb}
use Rattle.std.proofs.lemmas.Bool.{cases_lt}
use Rattle.lists.specs.Outcome.{accepted, refused, refuse, ◌>>◌}
use Rattle.obj.specs.declared.Section.{Section}
use Rattle.obj.specs.declared.Symbol.{Symbol}
use Rattle.names.specs.Fixed.{is_pointer_list}
use Rattle.names.specs.Names.{Named}
use Rattle.sections.specs.Image.{Image}
use Rattle.sections.specs.Ends.{object_below, is_linkers, lowered, lowered_end, less_four, splitting_end}
use Rattle.sections.specs.Bytes.{bytes_of}

-- its address lies below
pub object_below_lem : (end : ℕ) (y : Symbol) → object_below end y ≡ true → y.address < end
object_below_lem end y e = go (cases_lt y.address end)
  where
    go : (y.address < end) ⊎ (end ≤ y.address) → y.address < end
    go (inl h) = h
    go (inr h) = absurd (false≢true (rw (le-ltb _ _ h) at e))

last_first : (l : List ℕ) (j : ℕ) → 0 < j → j ≤ length l → reverse (take j l) ≡ get_or l (j - 1) 0 ∷ reverse (take (j - 1) l)
last_first l j h q =
    let e : j ≡ suc (j - 1) = omega arith in
    let r : j - 1 < length l = omega arith in
    ap (λ (m : ℕ). reverse (take m l)) e ∙ ap reverse (take-suc l (j - 1) 0 r) ∙ reverse-append (take (j - 1) l) (get_or l (j - 1) 0 ∷ [])

-- a turn: the last of those left
pub lower_turn : (g : Image) (end : ℕ) (l : List ℕ) (j : ℕ) → 0 < j → j ≤ length l → let y = g.symbol (get_or l (j - 1) 0) in
    lowered g end (reverse (take j l)) ≡ cond (object_below end y) (cond (is_linkers g y) (lowered g y.address (reverse (take (j - 1) l))) end) (lowered g end (reverse (take (j - 1) l)))
unfolding lowered
lower_turn g end l j h q = ap (lowered g end) (last_first l j h q)

pub lower_end : (g : Image) (end : ℕ) (l : List ℕ) (j : ℕ) → j ≡ 0 → lowered g end (reverse (take j l)) ≡ end
unfolding lowered
lower_end g end l j e = ap (λ (m : ℕ). lowered g end (reverse (take m l))) e

-- ---- the ways in which the splitting end is found
module _ (g : Image) (n : ℕ) (head : Section) (bytes : List ℕ) where
  -- it skips both reductions
  pub end_whole : (eqb head.kind 3 || eqb head.size 0) ≡ true → accepted (head.address + head.size) ≡ splitting_end g n head bytes
  unfolding splitting_end
  end_whole e = rw e

  module _ (holds : (eqb head.kind 3 || eqb head.size 0) ≡ false) where
    -- 10
    pub end_short : (is_pointer_list (g.name head.name) && ltb head.size 4) ≡ true → refused 10 n head.address ≡ splitting_end g n head bytes
    unfolding splitting_end refuse ◌>>◌
    end_short e = rw (holds, e)

    pub end_lowered : (is_pointer_list (g.name head.name) && ltb head.size 4) ≡ false → (r : ℕ)
        → r ≡ lowered_end g n (less_four (is_pointer_list (g.name head.name)) bytes (head.address + head.size)) → accepted r ≡ splitting_end g n head bytes
    unfolding splitting_end refuse ◌>>◌
    end_lowered e r q = rw (holds, e) (ap accepted q)

-- a name that is there can be read
pub name_held : (bytes places lengths : List ℕ) → Named bytes places lengths (length places) → (k : ℕ) → k < length places
    → (k < length places) × (k < length lengths) × (get_or places k 0 + get_or lengths k 0 ≤ length bytes)
name_held bytes places lengths names k h = (h, omega (arith, names.measured), names.inside k h)

-- a section's bytes are asked at its own place alone
pub bytes_as : (image I J : List ℕ) (n : ℕ) (head : Section) → get_or I n 0 ≡ get_or J n 0 → bytes_of image I n head ≡ bytes_of image J n head
unfolding bytes_of
bytes_as image I J n head e = rw e
