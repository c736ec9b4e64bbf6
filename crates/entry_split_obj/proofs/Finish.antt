-- The end of the entry: what is left in the lent outputs. Assumes nothing.
use Prim.Native.Nat.{ℕ}
use mathlib.Core.Path.{◌≡◌, refl, ap, subst, ◌∙◌}
use mathlib.Core.List.{List, [], ◌∷◌}
use native.Mathlib.Omega.{arith}
use lib.ListN.{length, replicate}
use Rattle.lists.specs.Outcome.{Outcome}
use Rattle.lists.specs.Rows.{clear_from}
use Rattle.lists.proofs.Clear.{clear_all}
use Rattle.obj.specs.Answers.{word, outcome_word}
use Rattle.outputs.specs.Outputs.{counts_of, store_count, store_counts}
use Rattle.outputs.proofs.Laws.{counts_stored}
use Rattle.pieces.specs.declared.Counts.{Counts}
use Rattle.pieces.specs.declared.lent.PieceTables.{PieceTables}
use Rattle.pieces.specs.Room.{Ceilings}
use Rattle.walk.specs.Walk.{Output}
use Rattle.walk.specs.Giving.{output_in, gave_meaning}
use Rattle.std.specs.Prelude.{Result, Ok, Err}
use Rattle.obj.specs.declared.Refusal.{Refusal}
use Rattle.stage_walk.proofs.Walked.{none_read}
use Rattle.entry_split_obj.specs.Entry.{Sizes, Laid, Leaves, output_of}
use Rattle.entry_split_obj.specs.Lines.{made_by}
use Rattle.stage_walk.specs.Laid.{OutputFits}

-- ---- the entry's end
pub made_fits : (t : PieceTables) (r : Result (Unit {0}) Refusal) → Ceilings t.room → OutputFits (made_by r t.made) (length t.pieces.now) (length t.symbols.now) (length t.relocs.now)
made_fits t (Ok u) m =
    let f = t.fits in
    record {
      pieces_fit = omega (arith, f.pieces_long, f.few_pieces);
      symbols_fit = omega (arith, f.symbols_long, f.few_symbols);
      relocs_fit = omega (arith, f.relocs_long, f.few_relocs);
      few_pieces = omega (arith, f.few_pieces, m.pieces);
      few_symbols = omega (arith, f.few_symbols, m.symbols);
      few_relocs = omega (arith, f.few_relocs, m.relocs);
    }
made_fits t (Err r) m =
    record { pieces_fit = omega arith; symbols_fit = omega arith; relocs_fit = omega arith; few_pieces = omega arith; few_symbols = omega arith; few_relocs = omega arith }

pub left_is : (t : PieceTables) (r : Result (Unit {0}) Refusal) → output_in t.pieces.now t.symbols.now t.relocs.now (made_by r t.made) ≡ output_of (gave_meaning t r)
left_is t (Ok u) = refl
left_is t (Err r) = none_read t.pieces.now t.symbols.now t.relocs.now

pub word_is : (t : PieceTables) (r : Result (Unit {0}) Refusal) → word r ≡ outcome_word (gave_meaning t r)
word_is t (Ok u) = refl
word_is t (Err r) = refl

-- the sizes are those of the lent tables, and what is left is what the outcome leaves
pub leaves_at : (o : Outcome Output) (t : PieceTables) (made : Counts) (sizes lent : Sizes) (answer : ℕ) (r : Result (Unit {0}) Refusal) (before-pieces before-entries before-offsets pieces symbols relocs counts : List ℕ)
    → before-pieces ≡ t.pieces.now → before-entries ≡ t.symbols.now → before-offsets ≡ t.relocs.now → made ≡ made_by r t.made → lent ≡ sizes → gave_meaning t r ≡ o → answer ≡ word r
    → Laid (output_in before-pieces before-entries before-offsets made) lent pieces symbols relocs counts
    → Leaves o sizes answer pieces symbols relocs counts
leaves_at o t made sizes lent answer r before-pieces before-entries before-offsets pieces symbols relocs counts p y f m z e w d =
    record {
      said = w ∙ word_is t r ∙ ap outcome_word e;
      left =
          subst (λ (x : Output). Laid x sizes pieces symbols relocs counts)
          ((λ k. output_in (p k) (y k) (f k) (m k)) ∙ left_is t r ∙ ap output_of e)
          (subst (λ (x : Sizes). Laid (output_in before-pieces before-entries before-offsets made) x pieces symbols relocs counts) z d);
    }

-- tables of the same sizes
pub fits_as : (made : Counts) (pieces entries offsets p e f : ℕ) → p ≡ pieces → e ≡ entries → f ≡ offsets → OutputFits made pieces entries offsets → OutputFits made p e f
fits_as made pieces entries offsets p e f x y z w =
    record {
      pieces_fit = omega (arith, w.pieces_fit, x);
      symbols_fit = omega (arith, w.symbols_fit, y);
      relocs_fit = omega (arith, w.relocs_fit, z);
      few_pieces = w.few_pieces;
      few_symbols = w.few_symbols;
      few_relocs = w.few_relocs;
    }
