-- What the answers of the entering mean, and what it is lent. The names that are added stand beside those of the tables (specs/Added.antt).
use Rattle.std.specs.Prelude.{ℕ, ◌+◌, ◌≤◌, ◌<◌, ◌≡◌, Bool, true, false, List, [], ◌∷◌, ◌++◌, length, Option, None, Some, Ok, Err}
use Rattle.lists.specs.Outcome.{Outcome, accepted, refused, ◌>>=◌}
use Rattle.lists.specs.Slices.{SameSlice}
use Rattle.lists.specs.Sort.{All, Rising}
use Rattle.obj.specs.Answers.{Answer}
use Rattle.obj.specs.declared.Split.{Split}
use Rattle.obj.specs.declared.Table.{Table}
use Rattle.names.specs.Names.{name_at, names_of, Named as NamedColumns, same_name, number_of}
use Rattle.names.specs.Index.{Indexed}
use Rattle.names.specs.declared.Names.{Names}
use Rattle.names.specs.Listed.{names_in}
use Rattle.names.specs.declared.NameIndex.{NameIndex}
use Rattle.sections.specs.Sections.{head_of, Heads}
use Rattle.gap_columns.specs.Columns.{Gap, key_of}
use Rattle.gap_splits.specs.Entering.{Filled, Ceilings, Named, bytes_of, named}
use Rattle.gap_splits.specs.Added.{beside, added}
use Rattle.gap_splits.specs.declared.added_names.AddedNames.{AddedNames}

-- the name of section n
abbrev pub section_names : (heads head_places name_bytes name_places name_lengths : List ℕ) → ℕ → List ℕ
section_names heads head_places name_bytes name_places name_lengths n = name_at name_bytes name_places name_lengths (head_of heads head_places n).name

-- .. of lent tables
abbrev pub sections_named : Table → Names → ℕ → List ℕ
sections_named heads names = section_names heads.bytes.now heads.places.now names.bytes.now names.places.now names.lengths.now

-- ---- the names that are added

-- the names
abbrev pub added_in : AddedNames → List (List ℕ)
added_in a = added (beside a.bytes.now a.places.now a.lengths.now) a.count

-- s shows the added names, and the places behind them
pub record Shows (a : AddedNames) (s : Names) : Type 0 where
  pub bytes : s.bytes.now ≡ a.bytes.now
  pub places : s.places.now ≡ a.places.now
  pub lengths : s.lengths.now ≡ a.lengths.now

-- the same columns are lent, of the same lengths, and as many names and bytes may be added
pub record SameLent (a b : AddedNames) : Type 0 where
  pub most : b.most.names ≡ a.most.names
  pub most_bytes : b.most.bytes ≡ a.most.bytes
  pub bytes : SameSlice a.bytes b.bytes
  pub places : SameSlice a.places b.places
  pub lengths : SameSlice a.lengths b.lengths

-- the ceilings: so many more names, and bytes, than the tables have
abbrev pub ceilings : (base : List (List ℕ)) → (most most_bytes : ℕ) → Ceilings
ceilings base most most_bytes = record { names = length base + most; bytes = bytes_of base + most_bytes }

abbrev pub ceilings_in : Names → AddedNames → Ceilings
ceilings_in names a = ceilings (names_in names) a.most.names a.most.bytes

-- x is none of the names
abbrev pub Absent : (names : List (List ℕ)) → (x : List ℕ) → Type 0
Absent names x = number_of names x ≡ length names

-- ---- the unit of a gap

-- x was added behind the others, if there is room for it and its bytes; else nothing changed
pub record Adds (before after : List (List ℕ)) (x : List ℕ) (most most_bytes : ℕ) (r : Bool) : Type 0 where
  pub room : r ≡ true → (length before < most) × (bytes_of before + length x ≤ most_bytes)
  pub full : r ≡ false → (length before < most) × (bytes_of before + length x ≤ most_bytes) → ⊥
  pub added : r ≡ true → after ≡ before ++ (x ∷ [])
  pub same : r ≡ false → after ≡ before

-- what is named then, or "28 name table full": the names of the tables, those that are added then, and the unit's number
abbrev pub unit_meaning : (base more : List (List ℕ)) → (section start : ℕ) → Option ℕ → Outcome Named
unit_meaning base more section start (Some unit) = accepted (record { names = base ++ more; number = unit })
unit_meaning base more section start None = refused 28 section start

-- x has its number: `before` were added before it, `after` then, and none but x was added
pub record Numbered (base before : List (List ℕ)) (x : List ℕ) (room : Ceilings) (after : List (List ℕ)) (r : Option ℕ) : Type 0 where
  pub is : (section start : ℕ) → unit_meaning base after section start r ≡ named room section start (base ++ before) x
  pub later : (y : List ℕ) → same_name y x ≡ false → Absent before y → Absent after y

-- ---- a gap that entered

-- the tables that an answer leaves, or its refusal
abbrev pub meant : (base more : List (List ℕ)) → List Split → Answer → Outcome Filled
meant base more rows (Ok _) = accepted (record { names = base ++ more; rows = rows })
meant base more rows (Err r) = refused r.number r.section r.address

-- what is left of a gap's entering once it is named
abbrev pub merged_as : (names : List (List ℕ)) → Outcome (List Split) → Outcome Filled
merged_as names o = o >>= λ rows. accepted (record { names = names; rows = rows })

-- ---- what is asked

-- the names of the tables lie in their columns and are indexed, and each section's record and name can be read, which is not above 64 bytes
pub record Tables (heads head_places name_bytes name_places name_lengths buckets chain : List ℕ) : Type 0 where
  pub named : NamedColumns name_bytes name_places name_lengths (length name_places)
  pub indexed : Indexed (names_of name_bytes name_places name_lengths (length name_places)) buckets chain
  pub few : length head_places ≤ 64
  pub sections : Heads heads head_places name_places
  pub short : (n : ℕ) → n < length head_places → length (section_names heads head_places name_bytes name_places name_lengths n) ≤ 64

abbrev pub TablesIn : Table → Names → NameIndex → Type 0
TablesIn heads names index = Tables heads.bytes.now heads.places.now names.bytes.now names.places.now names.lengths.now index.heads.now index.chain.now

-- gaps by section and address, of sections that are there
pub record Gaps (gaps : List Gap) (sections : ℕ) : Type 0 where
  pub rising : Rising key_of gaps
  pub there : All (λ x. x.section < sections) gaps

-- ---- steps of the code

-- a gap entered: what it left, and none but its name x was added
pub record Enters (want : Outcome Filled) (base before : List (List ℕ)) (x : List ℕ) (after : List (List ℕ)) (rows : List Split) (r : Answer) : Type 0 where
  pub is : meant base after rows r ≡ want
  pub later : (y : List ℕ) → same_name y x ≡ false → Absent before y → Absent after y
