-- Steps of the check: where the found symbol ends, and a turn of the pass over the splits. Assumes nothing.
use mathlib.Core.Path.{◌≡◌, sym, ap, ◌∙◌}
use mathlib.Core.Bool.{false}
use Prim.Native.Nat.{ℕ, ◌+◌, ◌-◌, ◌≤◌, ◌<◌}
use Rattle.lists.specs.Outcome.{accepted, ◌>>◌}
use Rattle.lists.specs.Rows.{tabulate}
use Rattle.lists.proofs.Rows.{rest-cons, rest-none}
use Rattle.obj.specs.declared.Symbol.{Symbol}
use Rattle.obj.specs.declared.Split.{Split}
use Rattle.symbols.specs.Ranges.{last_below}
use Rattle.std.specs.Prelude.{Some, None}
use Rattle.validate.specs.Check.{end_of, end_below, validate_one, validate_from}

module _ (symbol : ℕ → Symbol) (count : ℕ) where
  -- ---- the last sized unstripped symbol below an address
  module _ (n address : ℕ) where
    pub end_at : (i : ℕ) (y : Symbol) → y ≡ symbol i → Some i ≡ last_below symbol count n false address → y.address + y.size ≡ end_below symbol count n address
    unfolding end_of
    end_at i y e q = ap (λ (s : Symbol). s.address + s.size) e ∙ ap (end_of symbol count) q

    pub end_none : None ≡ last_below symbol count n false address → 0 ≡ end_below symbol count n address
    unfolding end_of
    end_none q = ap (end_of symbol count) q

  -- ---- what is left from row i on
  module _ (row : ℕ → Split) (n before last i : ℕ) where
    pub check_turn : i < n → (s : Split) → s ≡ row i
        → validate_from symbol count before last (tabulate row i (n - i))
        ≡ (validate_one symbol count before last s >> validate_from symbol count s.section s.end (tabulate row (i + 1) (n - (i + 1))))
    unfolding validate_from
    check_turn h s e =
        ap (validate_from symbol count before last) (rest-cons row i n h)
        ∙ ap (λ (x : Split). validate_one symbol count before last x >> validate_from symbol count x.section x.end (tabulate row (i + 1) (n - (i + 1)))) (sym e)

    pub check_ended : n ≤ i → validate_from symbol count before last (tabulate row i (n - i)) ≡ accepted tt
    unfolding validate_from
    check_ended h = ap (validate_from symbol count before last) (rest-none row i n h)
