-- Putting an image back: document 02, (e). "For sections that hold bytes, by number and one after another, it writes the pieces' bytes, zeros where none lies.
-- Pieces may overlap if they agree." The joined bytes are given address by address, without an order among the pieces; how they are laid and compared is
-- specs/Laying.antt. The theorems: `meets` and `apart` of proofs/Members.antt say what `differ` asks; `order_free` of proofs/Order.antt, that the order in which
-- pieces are handed in alters nothing; `laying_finds` and `laying_joins` of proofs/Law.antt, that laying and comparing answers alike.
use Rattle.std.specs.Prelude.{ℕ, suc, ◌+◌, ◌-◌, List, [], ◌∷◌, ◌++◌, Bool, cond, not, ◌&&◌, length, get_or, eqb, ltb, leb}
use Rattle.lists.specs.Outcome.{Outcome, accepted, refuse, ◌>>◌}
use Rattle.lists.specs.Rows.{tabulate, some, any_of}
use Rattle.obj.specs.declared.Section.{Section}
use Rattle.obj.specs.Parts.{Part}

-- ---- a piece at an address

-- a piece of section n lies at address x
unfoldable pub covers : (n x : ℕ) → Part → Bool
covers n x p = eqb p.section n && (leb p.address x && ltb x (p.address + length p.bytes))

-- its byte there
abbrev pub byte_of : (x : ℕ) → Part → ℕ
byte_of x p = get_or p.bytes (x - p.address) 0

-- the addresses at which it lies
unfoldable pub addresses : Part → List ℕ
addresses p = tabulate (λ x. x) p.address (length p.bytes)

-- ---- 82

-- what a section number that isn't there stands for: a section that holds no bytes
abbrev pub nowhere : Section
nowhere = record { name = 0; kind = 3; address = 0; size = 0; offset = 0 }

-- the section that a piece names
abbrev pub home_of : List Section → Part → Section
home_of heads p = get_or heads p.section nowhere

-- "82, a piece names no section that holds bytes or reaches outside it"; one of no bytes too lies in start..=end
unfoldable pub outside : List Section → Part → Bool
outside heads p =
    any_of
    (eqb (home_of heads p).kind 3
    ∷ ltb p.address (home_of heads p).address
    ∷ ltb ((home_of heads p).address + (home_of heads p).size) (p.address + length p.bytes)
    ∷ [])

-- ---- 83

-- both lie at address x of one section, and differ there
unfoldable pub differ_at : (x : ℕ) → (p q : Part) → Bool
differ_at x p q = covers q.section x p && not (eqb (byte_of x p) (byte_of x q))

-- "83, two pieces of one section differ at an address"
unfoldable pub differ : List Part → Bool
differ parts = some (λ p. some (λ q. some (λ x. differ_at x p q) (addresses q)) parts) parts

-- ---- the joined bytes

-- at address x of section n: the byte of a piece that lies there, "zeros where none lies". Where pieces agree it is no matter which of them is asked
unfoldable pub joined_at : List Part → (n x : ℕ) → ℕ
joined_at [] n x = 0
joined_at (p ∷ later) n x = cond (covers n x p) (byte_of x p) (joined_at later n x)

-- section n, which has this head: "A section holds bytes unless its kind is 3"
unfoldable pub joined_section : List Part → (n : ℕ) → Section → List ℕ
joined_section parts n head = cond (eqb head.kind 3) [] (tabulate (joined_at parts n) head.address head.size)

-- "sections that hold bytes, by number and one after another": those from number n on
unfoldable pub joined_from : List Part → (n : ℕ) → List Section → List ℕ
joined_from parts n [] = []
joined_from parts n (head ∷ later) = joined_section parts n head ++ joined_from parts (suc n) later

abbrev pub joined : List Section → List Part → List ℕ
joined heads parts = joined_from parts 0 heads

-- how many bytes a section holds
unfoldable pub held_by : Section → ℕ
held_by head = cond (eqb head.kind 3) 0 head.size

-- .. and all of them: as many as are joined (`length-joined` of proofs/Sizes.antt)
unfoldable pub held : List Section → ℕ
held [] = 0
held (head ∷ later) = held_by head + held later

-- ---- the joiner, after the table checks

-- `room` is the number of bytes lent for the output
unfoldable pub join_of : List Section → (room : ℕ) → List Part → Outcome (List ℕ)
join_of heads room parts = do
  -- "80, the lent output is too short"
  refuse 80 0 0 (ltb room (held heads))
  -- "82, a piece names no section that holds bytes or reaches outside it"
  refuse 82 0 0 (some (outside heads) parts)
  -- "83, two pieces of one section differ at an address"
  refuse 83 0 0 (differ parts)
  accepted (joined heads parts)
