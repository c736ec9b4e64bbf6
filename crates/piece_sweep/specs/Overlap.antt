-- Where two pieces of one section both lie: from the higher start to the lower end. That comparing these bytes asks `unequal`: `overlap_is` of proofs/Laws.antt.
use Rattle.std.specs.Prelude.{ℕ, ◌-◌, ◌≤◌, min, max, ◌≡◌, List, take, drop}
use Rattle.obj.specs.Parts.{Part}
use Rattle.piece_records.specs.Records.{part_at, Lying}
use Rattle.piece_sweep.specs.Sweep.{end_of}

abbrev pub low_of : (p q : Part) → ℕ
low_of p q = max p.address q.address

abbrev pub high_of : (p q : Part) → ℕ
high_of p q = min (end_of p) (end_of q)

-- a piece's bytes in low..high
abbrev pub bytes_in : (p : Part) → (low high : ℕ) → List ℕ
bytes_in p low high = take (high - low) (drop (low - p.address) p.bytes)

-- low..high lies in the piece
pub record Within (p : Part) (low high : ℕ) : Type 0 where
  pub from : p.address ≤ low
  pub order : low ≤ high
  pub to : high ≤ end_of p

-- r is where the piece p starts
pub record Farthest (b : List ℕ) (p : Part) (r : ℕ) : Type 0 where
  pub is : part_at b r ≡ p
  pub lies : Lying b r
