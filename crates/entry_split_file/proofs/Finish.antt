-- The entry's end: what an answer keeps fits into the outputs, and what is left of it is what its outcome leaves.
-- Assumes nothing.
use Prim.Native.Nat.{ℕ, ◌*◌, ◌/◌, ◌≤◌}
use mathlib.Core.Path.{◌≡◌, refl, sym, ap, subst, ◌∙◌}
use mathlib.Core.List.{List}
use native.Mathlib.Nat.{mul-div-le, not-suc-le-zero}
use native.Mathlib.Omega.{arith}
use Rattle.lists.specs.Outcome.{Outcome}
use Rattle.lists.specs.Rows.{tabulate}
use Rattle.obj.specs.Records.{stage_places, split_width}
use Rattle.names.specs.Names.{names_of}
use Rattle.names.specs.Append.{Columns as Beside}
use Rattle.splits.specs.Columns.{Columns}
use Rattle.order.specs.Bytes.{units_bytes}
use Rattle.gap_splits.specs.Entering.{bytes_of}
use Rattle.pieces.specs.Pieces.{pieces_in, symbols_in, relocs_in, piece_width}
use Rattle.pieces.specs.declared.Counts.{Counts}
use Rattle.stage_walk.specs.Room.{room_in}
use Rattle.stage_walk.proofs.Room.{room_low, room_pieces, room_12, room_8}
use Rattle.stage_walk.specs.Lines.{none}
use Rattle.run.specs.Run.{Result, Ended}
use Rattle.run.specs.Answers.{ran_in, Names, Units, Within}
use Rattle.run.specs.declared.Ran.{Ran}
use Rattle.std.specs.Prelude.{Ok, Err}
use Rattle.std.specs.Prelude as std
use Rattle.order.specs.declared.Unlinked.{Unlinked}
use Rattle.order.specs.declared.Unlinked.TheVariants.{Refused, Cycle}
use Rattle.run_file.specs.RunFile.{Holds}
use Rattle.run_outputs.specs.Laid.{Sizes, Laid}
use Rattle.run_outputs.specs.Kept.{kept_by, word_of, left_in, Fits}
use Rattle.stage_walk.specs.Laid.{OutputFits}
use Rattle.entry_split_file.specs.Entry.{left_by, word_by, Leaves}

-- ---- nothing

no_names : (c : Beside) (most most_bytes : ℕ) → Names c 0 0 most most_bytes
unfolding names_of tabulate bytes_of
no_names c most most_bytes = record {
  packed = record {
    named = record { placed = omega arith; measured = omega arith; inside = λ k h. absurd (not-suc-le-zero h) };
    below = λ k h. absurd (not-suc-le-zero h);
  };
  sum = refl;
  few = omega arith;
  small = omega arith;
  short = omega arith;
  low = omega arith;
}

no_units : (units : List ℕ) → Units units 0
unfolding units_bytes stage_places tabulate
no_units units = record { few = omega arith; fit = omega arith; written = refl }

no_output : (pieces symbols relocs : ℕ) → OutputFits none pieces symbols relocs
no_output pieces symbols relocs =
    record { pieces_fit = omega arith; symbols_fit = omega arith; relocs_fit = omega arith; few_pieces = omega arith; few_symbols = omega arith; few_relocs = omega arith }

output_fits : (pieces symbols relocs : ℕ) (made : Counts) → Within (room_in pieces symbols relocs) made → OutputFits made pieces symbols relocs
output_fits pieces symbols relocs made w = record {
  pieces_fit = omega (arith, w.pieces, room_pieces 1024 pieces);
  symbols_fit = omega (arith, w.symbols, room_12 4096 symbols);
  relocs_fit = omega (arith, w.relocs, room_8 4096 relocs);
  few_pieces = omega (arith, w.pieces, room_low 1024 pieces piece_width);
  few_symbols = omega (arith, w.symbols, room_low 4096 symbols 12);
  few_relocs = omega (arith, w.relocs, room_low 4096 relocs 8);
}

-- ---- what is kept
module _ (c : Beside) (units : List ℕ) (sizes : Sizes) (cap : ℕ) (few : cap ≤ 1024) (fit : split_width * cap ≤ sizes.splits) where
  pub kept-fits : (r : std.Result Ran Unlinked) → Holds (sizes.ends / 2) sizes.bytes cap (room_in sizes.pieces sizes.symbols sizes.relocs) c units r → Fits c units sizes (kept_by r)
  kept-fits (Ok r) h = record {
    names = record {
      packed = h.0.packed;
      sum = h.0.sum;
      few = omega (arith, h.0.few, mul-div-le sizes.ends 2);
      small = h.0.small;
      short = h.0.short;
      low = h.0.low;
    };
    ends = omega (arith, h.0.few, mul-div-le sizes.ends 2);
    splits = omega (arith, h.1, fit);
    few_splits = omega (arith, h.1, few);
    units_there = h.2;
    output = output_fits sizes.pieces sizes.symbols sizes.relocs r.made h.3;
  }
  kept-fits (Err (Cycle count)) h = record {
    names = no_names c sizes.ends sizes.bytes;
    ends = omega arith;
    splits = omega arith;
    few_splits = omega arith;
    units_there = h;
    output = no_output sizes.pieces sizes.symbols sizes.relocs;
  }
  kept-fits (Err (Refused r)) h = record {
    names = no_names c sizes.ends sizes.bytes;
    ends = omega arith;
    splits = omega arith;
    few_splits = omega arith;
    units_there = no_units units;
    output = no_output sizes.pieces sizes.symbols sizes.relocs;
  }

  -- the rows that are kept have room
  pub kept_few : (r : std.Result Ran Unlinked) → Holds (sizes.ends / 2) sizes.bytes cap (room_in sizes.pieces sizes.symbols sizes.relocs) c units r → (kept_by r).splits ≤ cap
  kept_few (Ok r) h = h.1
  kept_few (Err (Cycle count)) h = omega arith
  kept_few (Err (Refused r)) h = omega arith

-- ---- what is left
module _ (c : Beside) (table : Columns) (units pieces entries offsets : List ℕ) where
  left_is : (r : std.Result Ran Unlinked) → left_in c table units pieces entries offsets (kept_by r) ≡ left_by (ran_in c table units pieces entries offsets r)
  unfolding names_of tabulate stage_places pieces_in symbols_in relocs_in
  left_is (Ok r) = refl
  left_is (Err (Cycle count)) = refl
  left_is (Err (Refused r)) = refl

  word_is : (r : std.Result Ran Unlinked) → word_of r ≡ word_by (ran_in c table units pieces entries offsets r)
  word_is (Ok r) = refl
  word_is (Err (Cycle count)) = refl
  word_is (Err (Refused r)) = refl

  pub leaves : (r : std.Result Ran Unlinked) {o : Outcome Ended} {k : Ran} {sizes lent : Sizes} {answer : ℕ} (ends' bytes' splits' units' pieces' symbols' relocs' counts' : List ℕ) → ran_in c table units pieces entries offsets r ≡ o
      → k ≡ kept_by r → lent ≡ sizes → answer ≡ word_of r → Laid (left_in c table units pieces entries offsets k) lent ends' bytes' splits' units' pieces' symbols' relocs' counts'
      → Leaves o sizes answer ends' bytes' splits' units' pieces' symbols' relocs' counts'
  leaves r {o} {k} {sizes} {lent} {answer} ends' bytes' splits' units' pieces' symbols' relocs' counts' is m z w d = record {
    said = w ∙ word_is r ∙ ap word_by is;
    left =
        subst (λ (x : Result). Laid x sizes ends' bytes' splits' units' pieces' symbols' relocs' counts')
        (ap (left_in c table units pieces entries offsets) m ∙ left_is r ∙ ap left_by is)
        (subst (λ (y : Sizes). Laid (left_in c table units pieces entries offsets k) y ends' bytes' splits' units' pieces' symbols' relocs' counts') z d);
  }

-- ---- tables of the same lengths
pub same_sizes : (ends bytes splits counts : ℕ) {units pieces symbols relocs units' pieces' symbols' relocs' : ℕ} → units' ≡ units → pieces' ≡ pieces → symbols' ≡ symbols → relocs' ≡ relocs
    → ◌≡◌ {A = Sizes}
    (record { ends = ends; bytes = bytes; splits = splits; units = units'; pieces = pieces'; symbols = symbols'; relocs = relocs'; counts = counts })
    (record { ends = ends; bytes = bytes; splits = splits; units = units; pieces = pieces; symbols = symbols; relocs = relocs; counts = counts })
same_sizes ends bytes splits counts a b e f = λ d. record { ends = ends; bytes = bytes; splits = splits; units = a d; pieces = b d; symbols = e d; relocs = f d; counts = counts }

pub fits_as : {c : Beside} {units : List ℕ} {sizes sizes' : Sizes} {k k' : Ran} → Fits c units sizes k → k' ≡ k → sizes' ≡ sizes → Fits c units sizes' k'
fits_as {c} {units} {sizes} {sizes'} {k} {k'} q e z =
    subst (λ (x : Ran). Fits c units sizes' x) (sym e) (subst (λ (y : Sizes). Fits c units y k) (sym z) q)
