-- The walk of all sections: columns that hold nothing yet, and what it gives over them. Assumes nothing.
use Prim.Native.Nat.{ℕ, ◌+◌, ◌-◌, ◌≤◌, ◌<◌}
use mathlib.Core.Path.{◌≡◌, refl, sym, ap, subst, ◌∙◌}
use mathlib.Core.List.{List}
use native.Mathlib.Nat.{sub-zero}
use native.Mathlib.Omega.{arith}
use lib.ListN.{length, get_or}
use lib.Seq.{length-take-le, get_or-take, get_or-drop}
use Rattle.lists.specs.Rows.{tabulate}
use Rattle.pieces.specs.Pieces.{pieces_in, symbols_in, relocs_in}
use Rattle.pieces.specs.Tables.{SameLent}
use Rattle.pieces.specs.Questions.{count_of}
use Rattle.piece_columns.specs.Columns.{Counted, Chained, last_of, lasts_in, prevs_in}
use Rattle.piece_columns.proofs.Regions.{in_lasts, last_at}
use Rattle.pieces.specs.declared.Counts.{Counts}
use Rattle.pieces.specs.Room.{Ceilings}
use Rattle.pieces.specs.declared.lent.PieceTables.{PieceTables}
use Rattle.obj.specs.declared.Reloc.{Reloc}
use Rattle.obj.specs.declared.Split.{Split}
use Rattle.sections.specs.Image.{Image}
use Rattle.sections.specs.Sections.{Sections}
use Rattle.walk.specs.Walk.{nothing, walk_sections, walk}
use Rattle.walk.specs.Giving.{input_of, output_in, gave_meaning, chains_in, counts_in}
use Rattle.std.specs.Prelude.{Result}
use Rattle.obj.specs.declared.Refusal.{Refusal}
use Rattle.split_obj.specs.Loop.{Tabled}
use Rattle.stage_walk.specs.Lines.{walk_of, none, Gives}

-- ---- nothing is made yet, where a column has only zeros
module _ (scratch : List ℕ) (zeros : (i : ℕ) → get_or scratch i 0 ≡ 0) where
  none-counted : (pieces : List ℕ) → Counted (counts_in scratch) pieces 0
  unfolding count_of pieces_in tabulate counts_in
  none-counted pieces = record { each = λ unit h. get_or-drop 8192 scratch unit 0 ∙ zeros (8192 + unit) }

  chain_zero : (i : ℕ) → i < 8192 → get_or (chains_in scratch) i 0 ≡ 0
  unfolding chains_in
  chain_zero i h = get_or-take 8192 scratch i 0 h ∙ zeros i

  length_chains : 8192 ≤ length scratch → length (chains_in scratch) ≡ 8192
  unfolding chains_in
  length_chains h = length-take-le 8192 scratch h

  none-chained : (entries : List ℕ) → Chained (lasts_in (chains_in scratch)) (prevs_in (chains_in scratch)) entries 0
  unfolding last_of
  none-chained entries = record {
    head = λ symbol h.
        let q = (in_lasts (chains_in scratch) symbol h).0 in
        sym (last_at (chains_in scratch) symbol q) ∙ chain_zero symbol (omega (arith, q));
    prev = λ i h. absurd (omega arith);
    room = omega arith;
    held = omega arith;
  }

  -- such columns beside the outputs
  pub tabled_none : (symbols relocs units : ℕ) (part : List ℕ) (t : PieceTables) → t.made ≡ none → Ceilings t.room → length scratch ≡ 9216
      → units ≤ 1024 → relocs ≤ length part → symbols ≤ 4096 → Tabled symbols relocs units scratch part t
  tabled_none symbols relocs units part t made ceilings long few_units part_long most =
      record {
        beside = record {
          counted = subst (λ (m : Counts). Counted (counts_in scratch) t.pieces.now m.pieces) (sym made) (none-counted t.pieces.now);
          entered = record {
            chained = subst (λ (m : Counts). Chained (lasts_in (chains_in scratch)) (prevs_in (chains_in scratch)) t.symbols.now m.symbols) (sym made) (none-chained t.symbols.now);
            most = ceilings.symbols;
            placed = omega (arith, ap (λ (m : Counts). m.pieces) made);
            long = omega (arith, ceilings.symbols, length_chains (omega (arith, long)));
            most_symbols = most;
          };
          most_pieces = ceilings.pieces;
          most_relocs = ceilings.relocs;
          long = omega (arith, long);
        };
        counts_long = omega (arith, long, few_units);
        part_long = part_long;
      }

-- nothing is read where nothing was made
pub none_read : (pieces entries offsets : List ℕ) → output_in pieces entries offsets none ≡ nothing
unfolding pieces_in symbols_in relocs_in tabulate
none_read pieces entries offsets = refl

-- the walk of all sections, from nothing
pub walked_all : (g : Image) (sections : Sections) (reloc : ℕ → Reloc) (relocs : ℕ) (splits : List Split) (units : List ℕ) (room : Counts) (before after : PieceTables)
    (pieces entries offsets : List ℕ) (r : Result (Unit {0}) Refusal)
    → gave_meaning after r ≡ walk_sections (input_of g sections reloc relocs splits units room) 0 (sections.count - 0) (output_in pieces entries offsets none)
    → SameLent before after → Gives (walk_of g sections reloc relocs splits units room) before after r
unfolding walk
walked_all g sections reloc relocs splits units room before after pieces entries offsets r e lent =
    record {
      is = e ∙ (λ d. walk_sections (input_of g sections reloc relocs splits units room) 0 (sub-zero sections.count d) (none_read pieces entries offsets d));
      lent = lent;
    }
