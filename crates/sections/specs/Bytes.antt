-- A section's bytes: where they lie in a lent image, and whether those of a range are zero. "A piece's bytes are a returned part of the
-- section's bytes, no copy", and so are a section's of the image. "A section holds bytes unless its kind is 3".
use Rattle.std.specs.Prelude.{ℕ, ◌-◌, List, [], ◌∷◌, Bool, true, cond, ◌&&◌, eqb, get_or, take, drop}
use Rattle.obj.specs.declared.Section.{Section}

-- the bytes of section n, which has this head; `places` says where in the image the sections' bytes start
unfoldable pub bytes_of : (image places : List ℕ) → (n : ℕ) → Section → List ℕ
bytes_of image places n head = cond (eqb head.kind 3) [] (take head.size (drop (get_or places n 0) image))

unfoldable pub all_zero : List ℕ → Bool
all_zero [] = true
all_zero (b ∷ l) = eqb b 0 && all_zero l

-- the bytes in from..to, as far as there are any, are zero
abbrev pub zero_between : (bytes : List ℕ) → (from to : ℕ) → Bool
zero_between bytes from to = all_zero (take (to - from) (drop from bytes))
