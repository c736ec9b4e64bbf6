-- The order of a stage's split table: document 01 refuses "sections falling, or starts falling in one". Ends may fall.
-- The laws of proofs/Rising.antt say it by places, and that an end may change; crate split_edits has those of its edits.
use Rattle.std.specs.Prelude.{List, [], ◌∷◌}
use Rattle.obj.specs.declared.Split.{Split}
use Rattle.obj.specs.Order.{NotBelow}

-- every row may stand somewhere after a
abbrev pub AllNotBelow : Split → List Split → Type 0
AllNotBelow a [] = Unit {0}
AllNotBelow a (s ∷ l) = NotBelow a s × AllNotBelow a l

-- each row may stand where it does: sections do not fall, nor starts in one section
abbrev pub Rising : List Split → Type 0
Rising [] = Unit {0}
Rising (s ∷ l) = AllNotBelow s l × Rising l
