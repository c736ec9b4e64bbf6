-- The walk of one split in two steps, as the code takes them: *decide* what it asks for, over tables that are only read, then *give* to the output. The laws of
-- proofs/Deciding.antt say that this is the split's walk, `on_split`. Each answer has a meaning here: document 01's number, section and address.
use Rattle.std.specs.Prelude.{ℕ, ◌+◌, ◌≤◌, ◌<◌, ◌≡◌, List, cond, not, ◌&&◌, eqb, ltb, length, Option, Some, None, Result, Ok, Err}
use Rattle.lists.specs.Outcome.{Outcome, accepted, refused, refuse, ◌>>=◌, ◌>>◌}
use Rattle.obj.specs.Records.{Held}
use Rattle.obj.specs.declared.Refusal.{Refusal}
use Rattle.obj.specs.declared.Split.{Split}
use Rattle.symbol_order.specs.Order.{symbol_of}
use Rattle.symbols.specs.Sound.{Sound}
use Rattle.sections.specs.Image.{Image, Tables, Lies}
use Rattle.sections.specs.Sections.{Sections, head_of}
use Rattle.sections.specs.Alignment.{Chosen}
use Rattle.symbols.specs.declared.Backwards.{Backwards}
use Rattle.units.specs.Units.{unit_of}
use Rattle.splits.specs.Questions.{is_skipped}
use Rattle.walk.specs.declared.Target.{Target}
use Rattle.walk.specs.Walk.{outside, nonzero, alignment_in}

-- ---- deciding

unfoldable pub decide : Image → Sections → (units : List ℕ) → (n current next : ℕ) → Split → Outcome (Option Target)
decide image sections units n current next s = do
  refuse 71 n current (not (eqb s.start current))
  refuse 72 n current (ltb s.end next && outside sections n s.end next)
  refuse 73 n current (ltb s.end next && nonzero sections n s.end next)
  cond (is_skipped s) (accepted None)
      (do
        refuse 74 n current (eqb (unit_of units s.unit) (length units))
        chosen ← alignment_in image (sections.head n) n current s
        accepted (Some (record { unit = unit_of units s.unit; alignment = chosen.value })))

-- what is known of a split that gives
pub record Gives (units current : ℕ) (s : Split) (unit alignment : ℕ) : Type 0 where
  pub starts : s.start ≡ current
  pub listed : unit < units
  pub least : 0 < alignment
  pub most : alignment ≤ 65536

abbrev pub Sane : (units current : ℕ) → Split → Result (Option Target) Refusal → Type 0
Sane units current s (Ok None) = Unit {0}
Sane units current s (Ok (Some t)) = Gives units current s t.unit t.alignment
Sane units current s (Err r) = Unit {0}

-- ---- its parts

-- its two lines on the bytes of section n in from..to
unfoldable pub between_of : Sections → (n current from to : ℕ) → Outcome (Unit {0})
between_of sections n current from to = do
  refuse 72 n current (ltb from to && outside sections n from to)
  refuse 73 n current (ltb from to && nonzero sections n from to)

-- a is the value of the alignment that is wanted
pub record Valued (wanted : Outcome Chosen) (a : ℕ) : Type 0 where
  pub chosen : (c : Chosen) × (wanted ≡ accepted c) × (c.value ≡ a)
  pub least : 0 < a
  pub most : a ≤ 65536

-- r is the alignment of a split, asked of section n from `start` on, or its range was asked backwards
abbrev pub AlignedAt : (wanted : Outcome Chosen) → (n start : ℕ) → Result ℕ Backwards → Type 0
AlignedAt wanted n start (Ok a) = Valued wanted a
AlignedAt wanted n start (Err e) = wanted ≡ refused 11 n start

-- ---- what is asked of the tables

-- section n's record can be read, "end above 0xF0000000" is not so, and its bytes lie in the image
pub record SectionThere (heads head_places image image_places : List ℕ) (n : ℕ) : Type 0 where
  pub held : Held 15 heads head_places n
  pub below : (head_of heads head_places n).address + (head_of heads head_places n).size ≤ 4026531840
  pub lies : Lies image image_places n (head_of heads head_places n)

-- section n's record can be read, and its name is there
pub record SectionNamed (heads head_places name_places : List ℕ) (n : ℕ) : Type 0 where
  pub held : Held 15 heads head_places n
  pub named : (head_of heads head_places n).name < length name_places
  pub few : n < 65535

-- symbols, their order and names belong together, and no alignment of a symbol is bad
pub record Asked (symbols symbol_places order name_bytes name_places name_lengths : List ℕ) : Type 0 where
  pub tables : Tables symbols symbol_places order name_bytes name_places name_lengths
  pub sound : Sound (symbol_of symbols symbol_places) (length symbol_places)
