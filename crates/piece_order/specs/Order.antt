-- The pieces of a lent table by section and address, as numbers: piece i starts at place i of a column. That these numbers' pieces are the pieces by section and
-- address: `order_parts` of proofs/Laws.antt.
use Rattle.std.specs.Prelude.{ℕ, zero, suc, ◌<◌, List, [], ◌∷◌, length, get_or}
use Rattle.lists.specs.Sort.{sort_by}
use Rattle.symbol_order.specs.Order.{key, numbers}
use Rattle.obj.specs.Parts.{Part}
use Rattle.piece_records.specs.Records.{part_at, next_at, Lying}

-- where each of so many records from `at` on starts
unfoldable pub starts_at : (count : ℕ) → List ℕ → (at : ℕ) → List ℕ
starts_at zero b at = []
starts_at (suc count) b at = at ∷ starts_at count b (next_at b at)

-- piece i of a column of starts
abbrev pub part_in : (b starts : List ℕ) → ℕ → Part
part_in b starts i = part_at b (get_or starts i 0)

-- by section, then address
abbrev pub key_of : Part → ℕ
key_of p = key p.section p.address

-- the pieces' numbers so; of one section and address they stay in their order
unfoldable pub order_in : (b starts : List ℕ) → List ℕ
order_in b starts = sort_by (λ i. key_of (part_in b starts i)) (numbers (length starts))

-- ---- what the functions ask and leave

-- each piece lies whole in the bytes
pub record Placed (b starts : List ℕ) : Type 0 where
  pub each : (i : ℕ) → i < length starts → Lying b (get_or starts i 0)
