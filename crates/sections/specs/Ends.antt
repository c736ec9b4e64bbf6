-- The splitting end of a section: document 01, "**Splitting end** (`end_for_section`)". The reduction by linker objects is one pass over
-- the section's symbols, the last first; `lowered_loop` of proofs/Loop.antt says that it is document 01's loop, "while the last ..".
-- Laws for kind 3, "Sections without bytes": `nobits_end` of proofs/Nobits.antt.
use Rattle.std.specs.Prelude.{ℕ, ◌+◌, ◌-◌, ◌≤◌, ◌≡◌, List, [], ◌∷◌, reverse, Bool, true, cond, ◌&&◌, ◌||◌, length, drop, eqb, ltb, Option, Some, None, Result, Ok, Err}
use Rattle.lists.specs.Outcome.{Outcome, accepted, refused, refuse, ◌>>◌}
use Rattle.obj.specs.declared.Section.{Section}
use Rattle.obj.specs.declared.Symbol.{Symbol}
use Rattle.names.specs.Fixed.{is_linker_object, is_pointer_list}
use Rattle.symbol_order.specs.Order.{symbols_of}
use Rattle.symbols.specs.Ranges.{sized_unstripped}
use Rattle.sections.specs.declared.Short.{Short}
use Rattle.sections.specs.Image.{Image}
use Rattle.sections.specs.Bytes.{all_zero}

-- "unstripped Object symbol below it of known nonzero size ("sized")"
abbrev pub object_below : (end : ℕ) → Symbol → Bool
object_below end y = ltb y.address end && sized_unstripped true y

-- it "has one of the five linker object names"
abbrev pub is_linkers : Image → Symbol → Bool
is_linkers g y = is_linker_object (g.name y.name)

-- "while the last .. has one of the five linker object names, that symbol's address"; the symbols stand last first
unfoldable pub lowered : Image → (end : ℕ) → List ℕ → ℕ
lowered g end [] = end
lowered g end (i ∷ earlier) =
    cond (object_below end (g.symbol i))
    (cond (is_linkers g (g.symbol i)) (lowered g (g.symbol i).address earlier) end)
    (lowered g end earlier)

-- .. of the symbols of section n
abbrev pub lowered_end : Image → (n end : ℕ) → ℕ
lowered_end g n end = lowered g end (reverse (symbols_of g.symbol g.count n))

-- a round of document 01's loop, with the last such symbol below `end`: it goes on from that symbol's address, or ends
unfoldable pub round : Image → (next : ℕ → ℕ) → (end : ℕ) → Option ℕ → ℕ
round g next end None = end
round g next end (Some i) = cond (is_linkers g (g.symbol i)) (next (g.symbol i).address) end

-- "less 4 if `.ctors` or `.dtors` ends in four zero bytes"
abbrev pub less_four : (list : Bool) → (bytes : List ℕ) → (end : ℕ) → ℕ
less_four list bytes end = cond (list && all_zero (drop (length bytes - 4) bytes)) (end - 4) end

unfoldable pub splitting_end : Image → (n : ℕ) → (head : Section) → (bytes : List ℕ) → Outcome ℕ
splitting_end g n head bytes =
    -- "Sections without bytes skip both reductions.": kind 3, or of size 0 (DECISIONS.md, 41)
    cond (eqb head.kind 3 || eqb head.size 0) (accepted (head.address + head.size))
    (do
      -- "10 `.ctors` or `.dtors` with 1 to 3 bytes", place "(section, its start)"
      refuse 10 n head.address (is_pointer_list (g.name head.name) && ltb head.size 4)
      -- "Address plus size; less 4 if `.ctors` or `.dtors` ends in four zero bytes; then, while the last .."
      accepted (lowered_end g n (less_four (is_pointer_list (g.name head.name)) bytes (head.address + head.size))))

-- what an answer means, of section n that starts at `start`
abbrev pub end_meaning : (n start : ℕ) → Result ℕ Short → Outcome ℕ
end_meaning n start (Ok end) = accepted end
end_meaning n start (Err e) = refused 10 n start

-- ---- steps of the code

-- a list of pointers has four bytes at least
pub record Four (list : Bool) (size end : ℕ) : Type 0 where
  pub bytes : list ≡ true → 4 ≤ size
  pub room : list ≡ true → 4 ≤ end
