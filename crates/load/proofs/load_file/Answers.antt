-- `load::load_file` meets its contract: a file that is too long is refused; else the cleared columns hold nothing, and the records are loaded.
-- Assumes nothing.
use Rattle.std.proofs.Common.{rules, sym}
use Rattle.load.proofs.Turns.{loads_refused, loads_small, loads_in, too_long, ready_none}
use Rattle.load.proofs.load_file.Goals as goal

pub returns-then-file-gt65536 : goal.returns-then-file-gt65536
returns-then-file-gt65536 c =
    let a = c.args in
    loads_refused _ _ _ _ _ _ 1 0 c.refuse.ensures (too_long a.c a.file.now c.if-file-gt65536.true)

pub load_records-requires : goal.load_records-requires
load_records-requires c =
    let a = c.args in (
      rw c.no_counts.ensures (ready_none a.c a.file.now a.places.now a.lengths.now a.heads.now a.chain.now c.requires c.if-file-gt65536.false c.clear_floors.ensures
          c.clear_heads.ensures),
      c.no_counts.ensures,
    )

pub returns : goal.returns
returns c =
    let a = c.args in
    let s = c.load_records.ensures.0 in
    loads_small a.c a.file.now _ _ _ _ c.if-file-gt65536.false
    (loads_in (sym s.most) (sym s.file) (search (rules, sym s.places)) (search (rules, sym s.lengths)) (search (rules, sym s.heads)) (search (rules, sym s.chain)) c.load_records.ensures.1)
