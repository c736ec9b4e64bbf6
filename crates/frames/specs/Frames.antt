-- A record's frame: document 01, "A record is a four-byte length of its payload, a two-byte kind, the payload". The loader's records and the joiner's have it.
use Rattle.std.specs.Prelude.{ℕ, ◌+◌, List, Bool, true, cond, length, ltb}
use Rattle.fields.specs.Fields.{le32}

-- where the next record starts
abbrev pub next_at : List ℕ → (at : ℕ) → ℕ
next_at b at = at + 6 + le32 b at

-- "file cut": in its head or its payload
unfoldable pub is_cut : List ℕ → (at : ℕ) → Bool
is_cut b at = cond (ltb (length b) (at + 6)) true (ltb (length b) (next_at b at))
