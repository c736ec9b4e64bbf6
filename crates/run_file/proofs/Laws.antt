-- What the run of a file rests on: a usable file's tables are usable without some of them.
-- Assumes nothing.
use Prim.Native.Nat.{ℕ}
use mathlib.Core.List.{List, []}
use native.Mathlib.Omega.{arith}
use native.Mathlib.Nat.{not-suc-le-zero}
use Rattle.tables.specs.Records.{relocs_in}
use Rattle.load.specs.Good.{Rising}
use Rattle.load.proofs.Growth.{all_none}
use Rattle.loaded.specs.Tables.{tables_with, Usable}

-- ---- a usable file, without some of its tables
module _ {file names lengths sections symbols relocs partials units : List ℕ} (q : Usable file (tables_with names lengths sections symbols relocs partials units)) where
  no_relocs : Rising (relocs_in file [])
  no_relocs = record { rise = λ i j h k e. absurd (not-suc-le-zero k); below = λ i h. absurd (not-suc-le-zero h) }

  -- as the split table is made of it
  pub usable_parts : Usable file (tables_with names lengths sections symbols [] partials [])
  usable_parts = record {
    small = q.small;
    good = record {
      within = record {
        names = q.good.within.names;
        sections = q.good.within.sections;
        symbols = q.good.within.symbols;
        relocations = omega arith;
        splits = q.good.within.splits;
        units = omega arith;
      };
      names = q.good.names;
      sections = q.good.sections;
      symbols = q.good.symbols;
      relocations = all_none;
      rising = no_relocs;
      splits = q.good.splits;
      units = all_none;
    };
    bytes = q.bytes;
  }

  -- as the link order and the walk take it
  pub usable_rest : Usable file (tables_with names lengths sections symbols relocs [] units)
  usable_rest = record {
    small = q.small;
    good = record {
      within = record {
        names = q.good.within.names;
        sections = q.good.within.sections;
        symbols = q.good.within.symbols;
        relocations = q.good.within.relocations;
        splits = omega arith;
        units = q.good.within.units;
      };
      names = q.good.names;
      sections = q.good.sections;
      symbols = q.good.symbols;
      relocations = q.good.relocations;
      rising = q.good.rising;
      splits = all_none;
      units = q.good.units;
    };
    bytes = q.bytes;
  }
