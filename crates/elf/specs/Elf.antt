-- The structures of an ELF32 file of most significant byte first (ELFDATA2MSB), by the System V ABI, "Object Files": the ELF header, a section header and a symbol table entry,
-- as total functions on a list of bytes. The members stand in the ABI's order; Elf32_Word, Elf32_Addr and Elf32_Off have 4 bytes, Elf32_Half 2.
use Rattle.std.specs.Prelude.{ℕ, ◌+◌, List, get_or}
use Rattle.big_endian.specs.BigEndian.{be16, be32}
use Rattle.elf.specs.declared.Header.{Header}
use Rattle.elf.specs.declared.SectionHeader.{SectionHeader}
use Rattle.elf.specs.declared.SymbolEntry.{SymbolEntry}

-- "Elf32_Ehdr": e_ident 16 bytes, then e_type 2, e_machine 2, e_version 4, e_entry 4, e_phoff 4, e_shoff 4, e_flags 4, e_ehsize 2, e_phentsize 2, e_phnum 2, e_shentsize 2,
-- e_shnum 2, e_shstrndx 2; of e_ident the first four bytes are the magic number, byte 4 is EI_CLASS, byte 5 EI_DATA
unfoldable pub header_at : List ℕ → Header
header_at b = record {
  magic = be32 b 0;
  class = get_or b 4 0;
  order = get_or b 5 0;
  kind = be16 b 16;
  machine = be16 b 18;
  version = be32 b 20;
  entry = be32 b 24;
  phoff = be32 b 28;
  shoff = be32 b 32;
  flags = be32 b 36;
  ehsize = be16 b 40;
  phentsize = be16 b 42;
  phnum = be16 b 44;
  shentsize = be16 b 46;
  shnum = be16 b 48;
  shstrndx = be16 b 50;
}

-- "Elf32_Shdr": sh_name, sh_type, sh_flags, sh_addr, sh_offset, sh_size, sh_link, sh_info, sh_addralign, sh_entsize, 4 bytes each
unfoldable pub section_header_at : List ℕ → ℕ → SectionHeader
section_header_at b at = record {
  name = be32 b at;
  kind = be32 b (at + 4);
  flags = be32 b (at + 8);
  addr = be32 b (at + 12);
  offset = be32 b (at + 16);
  size = be32 b (at + 20);
  link = be32 b (at + 24);
  info = be32 b (at + 28);
  addralign = be32 b (at + 32);
  entsize = be32 b (at + 36);
}

-- what section header table entry 0 is by the ABI, and what a lookup gives where no section is: all members 0
abbrev pub no_section_header : SectionHeader
no_section_header = record {
  name = 0;
  kind = 0;
  flags = 0;
  addr = 0;
  offset = 0;
  size = 0;
  link = 0;
  info = 0;
  addralign = 0;
  entsize = 0;
}

-- "Elf32_Sym": st_name 4, st_value 4, st_size 4, st_info 1, st_other 1, st_shndx 2
unfoldable pub symbol_entry_at : List ℕ → ℕ → SymbolEntry
symbol_entry_at b at = record {
  name = be32 b at;
  value = be32 b (at + 4);
  size = be32 b (at + 8);
  info = get_or b (at + 12) 0;
  other = get_or b (at + 13) 0;
  shndx = be16 b (at + 14);
}
