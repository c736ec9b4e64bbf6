-- What the stages need of every symbol besides its record: "5 symbol: .. end above 0xF0000000, bad alignment" is not so. The table check gives it; with it
-- no symbol's end and no aligned address passes 32 bits. Callers use the laws of proofs/Finds.antt.
use Rattle.std.specs.Prelude.{ℕ, ◌+◌, ◌≤◌, ◌<◌, ◌≡◌, false}
use Rattle.align.specs.Align.{bad_align}
use Rattle.obj.specs.declared.Symbol.{Symbol}

pub record Sound (symbol : ℕ → Symbol) (count : ℕ) : Type 0 where
  pub ends : (i : ℕ) → i < count → (symbol i).address + (symbol i).size ≤ 4026531840
  pub aligned : (i : ℕ) → i < count → bad_align (symbol i).alignment ≡ false

-- symbol i is one of `count` symbols, lies in start..end, and is sized
pub record Inside (symbol : ℕ → Symbol) (count start end i : ℕ) : Type 0 where
  pub there : i < count
  pub low : start ≤ (symbol i).address
  pub high : (symbol i).address < end
  pub sized : 0 < (symbol i).size
