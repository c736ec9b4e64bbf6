-- The falls: the ways in which one is found, and a turn of the pass that finds them all. Assumes nothing.
use mathlib.Core.Path.{◌≡◌, sym, ap, ◌∙◌}
use mathlib.Core.List.{List, [], ◌∷◌, ◌++◌, append-nil}
use mathlib.Core.Bool.{Bool, cond}
use Prim.Native.Nat.{ℕ, ◌+◌, ◌-◌, ◌≤◌, ◌<◌}
use native.Mathlib.Numerals.{add-one}
use native.Mathlib.Omega.{arith}
use lib.Dec.{eqb}
use lib.ListN.{length, take, set}
use lib.Seq.{take-suc-set, append_snoc}
use borrow.Author.Tests.{eq-eqb, ne_eqb, lt-ltb, le-ltb}
use Rattle.lists.specs.Outcome.{Outcome, accepted, refused, ◌>>◌, ◌>>=◌}
use Rattle.lists.specs.Rows.{tabulate}
use Rattle.lists.proofs.Rows.{rest-cons, rest-none}
use Rattle.lists.proofs.Binds.{bind_goes, bind_stops, bind_same, bind_twice, bind_alike}
use Rattle.obj.specs.declared.Section.{Section}
use Rattle.obj.specs.declared.Split.{Split}
use Rattle.symbols.specs.Ranges.{last_in}
use Rattle.std.specs.Prelude.{Option}
use Rattle.sections.specs.Image.{Image}
use Rattle.sections.specs.Alignment.{alignment_from}
use Rattle.trim.specs.Trim.{end_of, ask_next, aligned_end, fall_of, falls_of}
use Rattle.trim.specs.Steps.{up_by, unused}

module _ (g : Image) (head : ℕ → Section) where
  -- ---- the next split's alignment
  module _ (s : Split) (row : ℕ → Split) (n j : ℕ) where
    -- there is no next split
    pub next_none : n ≤ j → accepted tt ≡ ask_next g head s (tabulate row j (n - j))
    unfolding ask_next
    next_none h = sym (ap (ask_next g head s) (rest-none row j n h))

    -- it is another section's, or its alignment is asked
    module _ (h : j < n) (next : Split) (is : next ≡ row j) where
      as_next : ask_next g head s (tabulate row j (n - j)) ≡ cond (eqb next.section s.section) (unused (alignment_from g head s.start next)) (accepted tt)
      unfolding ask_next
      as_next =
          ap (ask_next g head s) (rest-cons row j n h)
          ∙ ap (λ (y : Split). cond (eqb y.section s.section) (unused (alignment_from g head s.start y)) (accepted tt)) (sym is)

      pub next_other : (next.section ≡ s.section → ⊥) → accepted tt ≡ ask_next g head s (tabulate row j (n - j))
      next_other e = sym (as_next ∙ ap (λ (t : Bool). cond t (unused (alignment_from g head s.start next)) (accepted tt)) (ne_eqb _ _ e))

      pub next_asked : next.section ≡ s.section → unused (alignment_from g head s.start next) ≡ ask_next g head s (tabulate row j (n - j))
      next_asked e = sym (as_next ∙ ap (λ (t : Bool). cond t (unused (alignment_from g head s.start next)) (accepted tt)) (eq-eqb _ _ e))

  -- ---- one fall
  module _ (s : Split) where
    pub aligned_found : (found : Option ℕ) → last_in g.symbol g.count s.section s.start s.end ≡ accepted found
        → aligned_end g head s ≡ up_by (end_of g.symbol s.end found) (alignment_from g head s.start s)
    unfolding aligned_end
    aligned_found found e = bind_goes _ _ found e

    pub aligned_backwards : (number section address : ℕ) → last_in g.symbol g.count s.section s.start s.end ≡ refused number section address
        → aligned_end g head s ≡ refused number section address
    unfolding aligned_end
    aligned_backwards number section address e = bind_stops _ _ number section address e

    module _ (later : List Split) where
      -- the end falls: what the next split says decides
      pub falls_to : (end : ℕ) → aligned_end g head s ≡ accepted end → end < s.end → fall_of g head s later ≡ (ask_next g head s later >> accepted end)
      unfolding fall_of
      falls_to end e h =
          bind_goes _ _ end e ∙ ap (λ (t : Bool). cond t (ask_next g head s later >> accepted end) (accepted 0)) (lt-ltb _ _ h)

      pub falls_not : (end : ℕ) → aligned_end g head s ≡ accepted end → s.end ≤ end → fall_of g head s later ≡ accepted 0
      unfolding fall_of
      falls_not end e h =
          bind_goes _ _ end e ∙ ap (λ (t : Bool). cond t (ask_next g head s later >> accepted end) (accepted 0)) (le-ltb _ _ h)

      pub falls_backwards : (number section address : ℕ) → aligned_end g head s ≡ refused number section address → fall_of g head s later ≡ refused number section address
      unfolding fall_of
      falls_backwards number section address e = bind_stops _ _ number section address e

  -- ---- all falls
  module _ (row : ℕ → Split) (n : ℕ) where
    -- the falls of the rows from i on, after those that are found
    abbrev pub falls_from : ℕ → List ℕ → Outcome (List ℕ)
    falls_from i found = falls_of g head (tabulate row i (n - i)) >>= λ l. accepted (found ++ l)

    from_cons : (i : ℕ) → i < n
        → falls_of g head (tabulate row i (n - i))
        ≡ (fall_of g head (row i) (tabulate row (i + 1) (n - (i + 1))) >>= λ fall. falls_of g head (tabulate row (i + 1) (n - (i + 1))) >>= λ l. accepted (fall ∷ l))
    unfolding falls_of
    from_cons i h = ap (falls_of g head) (rest-cons row i n h)

    module _ (i : ℕ) (h : i < n) (s : Split) (is : s ≡ row i) where
      -- the fall of row i as it was found
      fall_of_row : (o : Outcome ℕ) → fall_of g head s (tabulate row (i + 1) (n - (i + 1))) ≡ o → fall_of g head (row i) (tabulate row (i + 1) (n - (i + 1))) ≡ o
      fall_of_row o e = ap (λ (y : Split). fall_of g head y (tabulate row (i + 1) (n - (i + 1)))) (sym is) ∙ e

      pub fall_turn : (falls : List ℕ) (fall : ℕ) → i < length falls → fall_of g head s (tabulate row (i + 1) (n - (i + 1))) ≡ accepted fall
          → falls_from (i + 1) (take (i + 1) (set falls i fall)) ≡ falls_from i (take i falls)
      fall_turn falls fall q e =
          bind_alike (falls_of g head (tabulate row (i + 1) (n - (i + 1)))) (λ l. take (i + 1) (set falls i fall) ++ l) (λ l. take i falls ++ (fall ∷ l))
          (λ l. ap (λ (t : List ℕ). t ++ l) (ap (λ (m : ℕ). take m (set falls i fall)) (add-one i) ∙ take-suc-set falls i fall q) ∙ append_snoc (take i falls) fall l)
          ∙ sym (ap (λ (m : Outcome (List ℕ)). m >>= λ l. accepted (take i falls ++ l)) (from_cons i h ∙ bind_goes _ _ fall (fall_of_row (accepted fall) e))
          ∙ bind_twice (falls_of g head (tabulate row (i + 1) (n - (i + 1)))) (λ l. fall ∷ l) (λ l. take i falls ++ l))

      pub fall_stops : (found : List ℕ) (number section address : ℕ) → fall_of g head s (tabulate row (i + 1) (n - (i + 1))) ≡ refused number section address
          → falls_from i found ≡ refused number section address
      fall_stops found number section address e =
          bind_stops _ _ number section address (from_cons i h ∙ bind_stops _ _ number section address (fall_of_row (refused number section address) e))

    pub falls_start : falls_from 0 [] ≡ falls_of g head (tabulate row 0 n)
    falls_start = bind_same _ ∙ ap (λ (m : ℕ). falls_of g head (tabulate row 0 m)) (let e : n - 0 ≡ n = omega arith in e)

    pub falls_ended : (i : ℕ) (found : List ℕ) → n ≤ i → falls_from i found ≡ accepted found
    unfolding falls_of
    falls_ended i found h = bind_goes _ _ [] (ap (falls_of g head) (rest-none row i n h)) ∙ ap accepted (append-nil found)
