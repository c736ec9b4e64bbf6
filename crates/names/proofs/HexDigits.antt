-- The digits of bytes, byte by byte, and those of a number's four bytes, the highest first, which are its eight digits. Assumes nothing.
use borrow.Author.Tests.{lt-ltb}
use mathlib.Core.Path.{◌≡◌, refl, sym, ap, ◌∙◌}
use mathlib.Core.List.{List, [], ◌∷◌}
use Prim.Native.Nat.{ℕ, ◌+◌, ◌*◌, ◌/◌, ◌%◌, ◌<◌}
use native.Mathlib.Numerals.{add-one}
use native.Mathlib.Omega.{arith}
use lib.ListN.{length, get_or, drop}
use lib.Seq.{sets, drop-cons}
use Rattle.std.specs.Int.{w32, to_be_bytes}
use Rattle.lists.proofs.Stores.{sets-sets}
use Rattle.names.specs.GapName.{hex8, hexes, digit}

-- a digit below ten
pub digit_below : (d : ℕ) → d < 10 → digit d ≡ 48 + d
digit_below d h = rw (lt-ltb _ _ h)

-- a turn of the loop that writes them
pub hexes_turn : (out bytes : List ℕ) (at i : ℕ) → i < length bytes
    → sets (sets out (at + 2 * i) (hexes (get_or bytes i 0 ∷ []))) (at + 2 * (i + 1)) (hexes (drop (i + 1) bytes)) ≡ sets out (at + 2 * i) (hexes (drop i bytes))
unfolding hexes
hexes_turn out bytes at i h =
    sets-sets out (at + 2 * i) (hexes (get_or bytes i 0 ∷ [])) (at + 2 * (i + 1)) (hexes (drop (i + 1) bytes)) (omega arith)
    ∙ ap (λ (l : List ℕ). sets out (at + 2 * i) (hexes l)) (ap (λ (k : ℕ). get_or bytes i 0 ∷ drop k bytes) (add-one i) ∙ sym (drop-cons bytes i 0 h))

pub hexes-none : hexes [] ≡ []
unfolding hexes
hexes-none = refl

-- THEOREM: the digits of a number's four bytes are its eight digits
pub hexes_eight : (v : ℕ) → hexes (to_be_bytes w32 v) ≡ hex8 v
unfolding hexes hex8
hexes_eight v =
    let a : v / 16777216 % 256 / 16 ≡ v / 268435456 % 16 = omega arith in
    let b : v / 16777216 % 256 % 16 ≡ v / 16777216 % 16 = omega arith in
    let c : v / 65536 % 256 / 16 ≡ v / 1048576 % 16 = omega arith in
    let d : v / 65536 % 256 % 16 ≡ v / 65536 % 16 = omega arith in
    let e : v / 256 % 256 / 16 ≡ v / 4096 % 16 = omega arith in
    let f : v / 256 % 256 % 16 ≡ v / 256 % 16 = omega arith in
    let g : v % 256 / 16 ≡ v / 16 % 16 = omega arith in
    let h : v % 256 % 16 ≡ v % 16 = omega arith in
    rw (a, b, c, d, e, f, g, h) refl
