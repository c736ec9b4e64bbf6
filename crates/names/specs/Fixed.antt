-- The fixed names. "Label and object names are fixed byte strings, compared with a symbol's name bytes in the splitting end and walk."
-- The lists are those of util/split.rs: is_linker_generated_label, is_linker_generated_object, end_for_section, default_section_align,
-- split_obj, update_common_splits.
use Rattle.std.specs.Prelude.{ℕ, List, [], ◌∷◌, Bool, true, false, ◌&&◌, ◌||◌, length, eqb}
use Prim.Native.String.{String, [] as []ˢ, ◌∷◌ as ◌∷ˢ◌}
use Prim.Native.Char.{code}
use Rattle.lists.specs.Rows.{keep_if}

-- a text's bytes
unfoldable pub codes : String → List ℕ
codes []ˢ = []
codes (c ∷ˢ text) = code c ∷ codes text

-- the name spells the text
unfoldable pub spells : String → List ℕ → Bool
spells []ˢ [] = true
spells []ˢ (b ∷ name) = false
spells (c ∷ˢ text) [] = false
spells (c ∷ˢ text) (b ∷ name) = eqb (code c) b && spells text name

-- it spells one of the texts
unfoldable pub spells_one : List String → List ℕ → Bool
spells_one [] name = false
spells_one (text ∷ texts) name = spells text name || spells_one texts name

-- those of the texts that have n bytes: a name of n bytes spells no other
unfoldable pub of_length : ℕ → List String → List String
of_length n texts = keep_if (λ (text : String). eqb (length (codes text)) n) texts

-- "one of the five linker object names"
abbrev pub linker_objects : List String
linker_objects = "_eti_init_info" ∷ "_rom_copy_info" ∷ "_bss_init_info" ∷ "_ctors$99" ∷ "_dtors$99" ∷ []

-- "linker labels"
abbrev pub linker_labels : List String
linker_labels =
    "_ctors" ∷ "_dtors" ∷ "_f_init" ∷ "_f_init_rom" ∷ "_e_init" ∷ "_fextab" ∷ "_fextab_rom" ∷ "_eextab" ∷ "_fextabindex"
    ∷ "_fextabindex_rom" ∷ "_eextabindex" ∷ "_f_text" ∷ "_f_text_rom" ∷ "_e_text" ∷ "_f_ctors" ∷ "_f_ctors_rom" ∷ "_e_ctors"
    ∷ "_f_dtors" ∷ "_f_dtors_rom" ∷ "_e_dtors" ∷ "_f_rodata" ∷ "_f_rodata_rom" ∷ "_e_rodata" ∷ "_f_data" ∷ "_f_data_rom"
    ∷ "_e_data" ∷ "_f_sdata" ∷ "_f_sdata_rom" ∷ "_e_sdata" ∷ "_f_sbss" ∷ "_f_sbss_rom" ∷ "_e_sbss" ∷ "_f_sdata2"
    ∷ "_f_sdata2_rom" ∷ "_e_sdata2" ∷ "_f_sbss2" ∷ "_f_sbss2_rom" ∷ "_e_sbss2" ∷ "_f_bss" ∷ "_f_bss_rom" ∷ "_e_bss"
    ∷ "_f_stack" ∷ "_f_stack_rom" ∷ "_e_stack" ∷ "_stack_addr" ∷ "_stack_end" ∷ "_db_stack_addr" ∷ "_db_stack_end"
    ∷ "_heap_addr" ∷ "_heap_end" ∷ "_nbfunctions" ∷ "SIZEOF_HEADERS" ∷ "_SDA_BASE_" ∷ "_SDA2_BASE_" ∷ "_ABS_SDA_BASE_"
    ∷ "_ABS_SDA2_BASE_" ∷ []

unfoldable pub is_linker_object : List ℕ → Bool
is_linker_object = spells_one linker_objects

unfoldable pub is_linker_label : List ℕ → Bool
is_linker_label = spells_one linker_labels

-- "`gTRKInterruptVectorTableEnd`"
unfoldable pub is_vector_table_end : List ℕ → Bool
is_vector_table_end = spells "gTRKInterruptVectorTableEnd"

-- "`.bss`"
unfoldable pub is_bss : List ℕ → Bool
is_bss = spells ".bss"

-- "`.ctors` or `.dtors`"
unfoldable pub is_pointer_list : List ℕ → Bool
is_pointer_list = spells_one (".ctors" ∷ ".dtors" ∷ [])

-- "`.ctors`, `.dtors`, `extab`, `extabindex`: 4"
unfoldable pub is_four_aligned : List ℕ → Bool
is_four_aligned = spells_one (".ctors" ∷ ".dtors" ∷ "extab" ∷ "extabindex" ∷ [])
