-- Alignments. The System V ABI, chapter Object Files, part Sections, on a section header's field sh_addralign, in our words: the field says what
-- the section's address must be a multiple of. The address modulo the field's value must be 0. Only 0 and the positive powers of two are values that
-- it may have; 0 and 1 both mean that the section asks nothing of its address.
-- Document 01, "Refused, by place", narrows it: "An alignment is good if exactly one bit is set and it is at most 65,536"; a 0 in a record is none given.
-- Callers use the laws of proofs/Laws.antt (`good_parts`, `not_bad`, `align_up_near`) and the theorems of proofs/Theorems.antt: `good_is`, that the good ones are
-- the powers of two up to 2 ^ 16, and `align_up-least`, that `align_up` is the least address at or above the given one that meets the ABI's rule.
use Rattle.std.specs.Prelude.{ℕ, ◌+◌, ◌-◌, ◌*◌, ◌/◌, ◌%◌, ◌≤◌, ◌≡◌, Bool, ◌&&◌, not, eqb, leb}
use Rattle.std.specs.Int.Count.{ones}

-- "exactly one bit is set and it is at most 65,536"
unfoldable pub good_align : ℕ → Bool
good_align a = eqb (ones a) 1 && leb a 65536

-- given, and not good: 0 means none
unfoldable pub bad_align : ℕ → Bool
bad_align a = not (eqb a 0) && not (good_align a)

-- a value moved up to a multiple of an alignment
unfoldable pub align_up : ℕ → ℕ → ℕ
align_up v a = (v + (a - 1)) / a * a

-- r is the least number at or above v that is 0 modulo a
pub record LeastMultiple (v a r : ℕ) : Type 0 where
  pub multiple : r % a ≡ 0
  pub above : v ≤ r
  pub least : (m : ℕ) → m % a ≡ 0 → v ≤ m → r ≤ m

-- r is v moved up, by less than the largest alignment
pub record Aligned (v a r : ℕ) : Type 0 where
  pub is : r ≡ align_up v a
  pub near : r ≤ v + 65535
