-- `import_rows::home_of`: what std's search says of the place, or of there being none, is what the definition asks. The check finds each fact only where it stands alone, and
-- not the answer in one step.
use Rattle.std.proofs.Common.{rules, ◌≡◌, ◌<◌, ℕ, length, get_or, arith, refl}
use Rattle.std.specs.Prelude.{Option, Some, None}
use lib.Dec.{eqb}
use borrow.Author.Tests.{eq-eqb, ne_eqb}
use Rattle.lists.proofs.FirstIn.{first_in_is, first_in-none}
use Rattle.import_rows.specs.Rows.{reserved, home_of}
use Rattle.import_rows.proofs.Laws.{home_reserved, home_there, home_none}
use Rattle.import_rows.proofs.home_of.Goals as goal

pub returns-then-shndx : goal.returns-then-shndx
unfolding reserved
returns-then-shndx c = home_reserved _ _ c.if-shndx.true

pub returns : goal.returns
unfolding reserved
returns c = go c.position.result refl
  where
    go : (r : Option ℕ) → c.position.result ≡ r → c.map_or.result ≡ home_of c.args.taken.numbers.now c.args.shndx
    go (Some i) e =
        let l = c.args.taken.numbers.now in
        let n = c.args.shndx in
        let within : c.map_or.result < length l = search (rules, e) in
        let here : get_or l c.map_or.result 0 ≡ n = search (rules, e) in
        let before : (j : ℕ) → j < c.map_or.result → get_or l j 0 ≡ n → ⊥ = search (rules, e) in
        home_there l n c.if-shndx.false (first_in_is (λ k. eqb k n) l c.map_or.result 0 within (eq-eqb _ _ here) (λ j h. ne_eqb _ _ (before j h))) within
    go None e =
        let l = c.args.taken.numbers.now in
        let n = c.args.shndx in
        let none : (j : ℕ) → j < length l → get_or l j 0 ≡ n → ⊥ = search (rules, e) in
        let is : c.map_or.result ≡ 65535 = search (rules, e) in
        rw is (home_none l n c.if-shndx.false (omega (arith, first_in-none (λ k. eqb k n) l 0 (λ j h. ne_eqb _ _ (none j h)))))
