-- The bytes of the lent output tables. A table's records are followed by zeros to the end of the lent slice (`laid` of lists);
-- `counts` has a count of two bytes for each output before it, as many as fit whole into what was lent, and zeros after.
use Rattle.std.specs.Prelude.{ℕ, suc, ◌+◌, ◌*◌, ◌/◌, List, [], ◌∷◌, ◌++◌, cond, length, take, leb}
use Rattle.std.proofs.lemmas.List.Edits.{sets}
use Rattle.lists.specs.Tables.{laid}
use Rattle.fields.specs.Fields.{enc16}

-- numbers as two-byte records, one after another
unfoldable pub halves : List ℕ → List ℕ
halves [] = []
halves (x ∷ l) = enc16 x ++ halves l

-- the counts that a table of this many bytes holds
unfoldable pub counts_of : ℕ → List ℕ → List ℕ
counts_of size counts = laid size (halves (take (size / 2) counts))

-- count k is stored, where it fits whole
unfoldable pub store_count : ℕ → ℕ → List ℕ → List ℕ
store_count k count b = cond (leb (2 * k + 2) (length b)) (sets b (2 * k) (enc16 count)) b

-- counts stored one after another, from count k on
unfoldable pub store_counts : ℕ → List ℕ → List ℕ → List ℕ
store_counts k [] b = b
store_counts k (c ∷ counts) b = store_counts (suc k) counts (store_count k c b)
