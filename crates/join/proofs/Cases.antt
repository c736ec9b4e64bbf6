-- Small inputs of the joiner, one claim: `.data` of 8 bytes at 0x1000, a section without bytes, `.text` of 4 bytes at 0x2000.
use Prim.Native.Nat.{ℕ}
use mathlib.Core.Path.{◌≡◌, refl}
use mathlib.Core.List.{List, [], ◌∷◌, map}
use Rattle.lists.specs.Outcome.{Outcome, accepted, refused, refuse, ◌>>◌}
use Rattle.lists.specs.Rows.{tabulate, some, any_of, any_from}
use Rattle.obj.specs.declared.Section.{Section}
use Rattle.obj.specs.Parts.{Part}
use Rattle.join.specs.Join.{covers, addresses, outside, differ_at, differ, joined_at, joined_section, joined_from, held_by, held, join_of}

abbrev section : (kind address size : ℕ) → Section
section kind address size = record { name = 0; kind = kind; address = address; size = size; offset = 0 }

abbrev heads : List Section
heads = section 1 4096 8 ∷ section 3 4104 100 ∷ section 0 8192 4 ∷ []

abbrev part : (section address : ℕ) → (bytes : List ℕ) → Part
part n address bytes = record { section = n; address = address; bytes = bytes }

record Case : Type 0 where
  room : ℕ
  parts : List Part
  outcome : Outcome (List ℕ)

abbrev case : (room : ℕ) → List Part → Outcome (List ℕ) → Case
case room parts outcome = record { room = room; parts = parts; outcome = outcome }

abbrev cases : List Case
cases =
    -- pieces that overlap and agree, in no order; zeros where none lies
    case 12 (part 2 8193 (7 ∷ 8 ∷ []) ∷ part 0 4098 (3 ∷ 4 ∷ []) ∷ part 0 4096 (1 ∷ 2 ∷ 3 ∷ []) ∷ [])
    (accepted (1 ∷ 2 ∷ 3 ∷ 4 ∷ 0 ∷ 0 ∷ 0 ∷ 0 ∷ 0 ∷ 7 ∷ 8 ∷ 0 ∷ []))
    -- no piece
    ∷ case 12 [] (accepted (0 ∷ 0 ∷ 0 ∷ 0 ∷ 0 ∷ 0 ∷ 0 ∷ 0 ∷ 0 ∷ 0 ∷ 0 ∷ 0 ∷ []))
    -- 80 comes first, 82 before 83
    ∷ case 11 (part 7 0 [] ∷ []) (refused 80 0 0)
    ∷ case 12 (part 0 4096 (1 ∷ []) ∷ part 0 4096 (2 ∷ []) ∷ part 7 0 [] ∷ []) (refused 82 0 0)
    -- a section without bytes; a byte past the end; one before the start
    ∷ case 12 (part 1 4104 (1 ∷ []) ∷ []) (refused 82 0 0)
    ∷ case 12 (part 0 4103 (1 ∷ 2 ∷ []) ∷ []) (refused 82 0 0)
    ∷ case 12 (part 2 8191 (1 ∷ 2 ∷ []) ∷ []) (refused 82 0 0)
    -- a piece of no bytes lies in start..=end
    ∷ case 12 (part 0 4104 [] ∷ []) (accepted (0 ∷ 0 ∷ 0 ∷ 0 ∷ 0 ∷ 0 ∷ 0 ∷ 0 ∷ 0 ∷ 0 ∷ 0 ∷ 0 ∷ []))
    ∷ case 12 (part 0 4105 [] ∷ []) (refused 82 0 0)
    -- two that differ at one address
    ∷ case 12 (part 0 4096 (1 ∷ 2 ∷ 3 ∷ []) ∷ part 0 4098 (4 ∷ []) ∷ []) (refused 83 0 0)
    -- the same with another piece between them, in the list and by address
    ∷ case 12 (part 0 4096 (1 ∷ 2 ∷ 3 ∷ []) ∷ part 0 4097 (2 ∷ []) ∷ part 0 4098 (4 ∷ []) ∷ []) (refused 83 0 0)
    ∷ []

answered : map (λ (c : Case). join_of heads c.room c.parts) cases ≡ map (λ (c : Case). c.outcome) cases
unfolding refuse ◌>>◌ tabulate some any_of any_from covers addresses outside differ_at differ joined_at joined_section joined_from held_by held join_of
answered = refl
