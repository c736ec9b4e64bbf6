-- The sections as the stages see them: each one's head and bytes. One function makes them of the lent tables: `heads` has the records at
-- their places, `image` the bytes at theirs.
use Rattle.std.specs.Prelude.{ℕ, ◌+◌, ◌≤◌, ◌<◌, List, length, get_or}
use Rattle.obj.specs.Records.{section_at, Held}
use Rattle.obj.specs.declared.Section.{Section}
use Rattle.obj.specs.declared.Table.{Table}
use Rattle.sections.specs.declared.Obj.{Obj}
use Rattle.sections.specs.Image.{Lies}
use Rattle.sections.specs.Bytes.{bytes_of}

pub record Sections : Type 0 where
  pub count : ℕ
  pub head : ℕ → Section
  pub bytes : ℕ → List ℕ

-- section n's record
abbrev pub head_of : (heads head_places : List ℕ) → ℕ → Section
head_of heads head_places n = section_at heads (get_or head_places n 0)

abbrev pub sections_of : (heads head_places image image_places : List ℕ) → Sections
sections_of heads head_places image image_places = record {
  count = length head_places;
  head = head_of heads head_places;
  bytes = λ n. bytes_of image image_places n (head_of heads head_places n);
}

-- each section's record can be read, its name is there, "end above 0xF0000000" is not so, and its bytes lie in the image; callers use the laws
-- of proofs/Kept.antt
pub record Kept (heads head_places image image_places name_places : List ℕ) : Type 0 where
  pub few : length head_places ≤ 64
  pub held : (n : ℕ) → n < length head_places → Held 15 heads head_places n
  pub named : (n : ℕ) → n < length head_places → (head_of heads head_places n).name < length name_places
  pub below : (n : ℕ) → n < length head_places → (head_of heads head_places n).address + (head_of heads head_places n).size ≤ 4026531840
  pub lies : (n : ℕ) → n < length head_places → Lies image image_places n (head_of heads head_places n)

-- the heads alone, where no bytes are asked: each section's record can be read, and its name is there
pub record Heads (heads head_places name_places : List ℕ) : Type 0 where
  pub held : (n : ℕ) → n < length head_places → Held 15 heads head_places n
  pub named : (n : ℕ) → n < length head_places → (head_of heads head_places n).name < length name_places

-- .. of the tables that are lent together: section n's record, and all of them with their bytes in the image
abbrev pub head_in : Obj → ℕ → Section
head_in o n = head_of o.heads.bytes.now o.heads.places.now n

abbrev pub KeptIn : Obj → (image : Table) → Type 0
KeptIn o image = Kept o.heads.bytes.now o.heads.places.now image.bytes.now image.places.now o.names.places.now

-- the sections with their bytes, of the tables that are lent
abbrev pub sections_lent : (heads image : Table) → Sections
sections_lent heads image = sections_of heads.bytes.now heads.places.now image.bytes.now image.places.now
