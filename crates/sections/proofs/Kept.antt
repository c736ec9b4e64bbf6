-- The sections' tables as the cores require them: what `Kept` says of one section, and that no splitting end lies above its section's end.
-- Assumes nothing.
use mathlib.Core.Path.{◌≡◌, refl}
use mathlib.Core.List.{List, [], ◌∷◌, reverse}
use mathlib.Core.Bool.{Bool, true, false, cond, ◌&&◌, ◌||◌}
use Prim.Native.Nat.{ℕ, ◌+◌, ◌-◌, ◌≤◌, ◌<◌}
use native.Mathlib.Omega.{arith}
use lib.Dec.{eqb, ltb}
use lib.ListN.{length, get_or, drop, length-drop}
use lib.Seq.{length-take-le}
use borrow.Author.Tests.{ne_eqb}
use Rattle.lists.specs.Outcome.{accepted, refuse, ◌>>◌}
use Rattle.lists.proofs.Outcomes.{same_accepted, then_inv}
use Rattle.obj.specs.Records.{Held}
use Rattle.obj.specs.declared.Section.{Section}
use Rattle.names.specs.Fixed.{is_pointer_list}
use Rattle.symbol_order.specs.Order.{symbols_of}
use Rattle.sections.specs.Image.{Image, Whole, Lies}
use Rattle.sections.specs.Bytes.{all_zero, bytes_of}
use Rattle.sections.specs.Ends.{object_below, is_linkers, lowered, less_four, splitting_end}
use Rattle.sections.specs.Sections.{head_of, Kept, Heads}
use Rattle.sections.proofs.Laws.{object_below_lem}

-- ---- one section of kept tables
module _ (heads head_places image image_places name_places : List ℕ) (kept : Kept heads head_places image image_places name_places) (n : ℕ) (there : n < length head_places) where
  abbrev head : Section
  head = head_of heads head_places n

  -- its record can be read
  pub kept-held : Held 15 heads head_places n
  kept-held = kept.held n there

  -- its bytes lie in the image
  pub kept_lies : Lies image image_places n head
  kept_lies = kept.lies n there

  -- "Section bytes equal size"
  bytes_sized : (head.kind ≡ 3 → ⊥) → length (bytes_of image image_places n head) ≡ head.size
  unfolding bytes_of
  bytes_sized h =
      rw (ne_eqb head.kind 3 h)
      (length-take-le head.size (drop (get_or image_places n 0) image)
      (omega (arith, kept_lies.inside h, length-drop (get_or image_places n 0) image)))

  -- head and bytes belong together
  pub kept_whole : Whole head (bytes_of image image_places n head) name_places
  kept_whole = record { named = kept.named n there; below = kept.below n there; sized = bytes_sized }

-- the heads of kept tables
pub kept_heads : (heads head_places image image_places name_places : List ℕ) → Kept heads head_places image image_places name_places → Heads heads head_places name_places
kept_heads heads head_places image image_places name_places kept = record { held = kept.held; named = kept.named }

-- ---- the splitting end

lowered-within : (g : Image) (end : ℕ) (l : List ℕ) → lowered g end l ≤ end
unfolding lowered
lowered-within g end [] = omega arith
lowered-within g end (i ∷ l) = go (object_below end (g.symbol i)) refl (is_linkers g (g.symbol i)) (lowered-within g (g.symbol i).address l) (lowered-within g end l)
  where
    go : (t : Bool) → object_below end (g.symbol i) ≡ t → (u : Bool) → lowered g (g.symbol i).address l ≤ (g.symbol i).address → lowered g end l ≤ end
        → cond t (cond u (lowered g (g.symbol i).address l) end) (lowered g end l) ≤ end
    go true e true p q = omega (arith, p, object_below_lem end (g.symbol i) e)
    go true e false p q = omega arith
    go false e u p q = q

less_within : (t : Bool) (end : ℕ) → cond t (end - 4) end ≤ end
less_within true end = omega arith
less_within false end = omega arith

-- no splitting end lies above its section's end
pub end_within : (g : Image) (n : ℕ) (head : Section) (bytes : List ℕ) (e : ℕ) → splitting_end g n head bytes ≡ accepted e → e ≤ head.address + head.size
unfolding splitting_end
end_within g n head bytes e is = go (eqb head.kind 3 || eqb head.size 0) is
  where
    list : Bool
    list = is_pointer_list (g.name head.name)

    symbols : List ℕ
    symbols = reverse (symbols_of g.symbol g.count n)

    start : ℕ
    start = less_four list bytes (head.address + head.size)

    go : (t : Bool) → cond t (accepted (head.address + head.size)) (refuse 10 n head.address (list && ltb head.size 4) >> accepted (lowered g start symbols)) ≡ accepted e
        → e ≤ head.address + head.size
    go true q = omega (arith, same_accepted q)
    go false q =
        omega (
          arith,
          same_accepted (then_inv 10 n head.address (list && ltb head.size 4) (accepted (lowered g start symbols)) e q).1,
          lowered-within g start symbols,
          less_within (list && all_zero (drop (length bytes - 4) bytes)) (head.address + head.size),
        )
