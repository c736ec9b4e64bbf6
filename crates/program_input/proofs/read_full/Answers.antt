-- `read_full`: a part that was read stands behind those before it.
use Rattle.std.proofs.Common.{rules, ◌≡◌, ℕ, ◌+◌, ◌-◌, ◌≤◌, List, ◌++◌, length, take, sym, ap, ◌∙◌, subst, length-take-le}
use Rattle.std.proofs.Math.Seq.{take-append-add}
use Rattle.std.proofs.lemmas.List.{take-append-le}
use Rattle.std.proofs.KnownBytes.{Consumes-trans}
use Rattle.std.specs.Io.KnownBytes.{Consumes}
use borrow.Rule.Slice.PartMut.{put_mid, post_of}
use Rattle.program_input.proofs.read_full.Goals as goal

filled : (a k n : ℕ) (xs ys : List ℕ) → a ≤ length xs → n ≤ length ys → take (a + n) (put_mid a k xs ys) ≡ take a xs ++ take n ys
filled a k n xs ys h f =
    sym (ap (λ (m : ℕ). take (m + n) (put_mid a k xs ys)) (length-take-le a xs h))
    ∙ take-append-add (take a xs) (ys ++ post_of a k xs) n
    ∙ ap (λ (l : List ℕ). take a xs ++ l) (take-append-le n ys (post_of a k xs) f)

pub loop-done-preserved : goal.loop-done-preserved
loop-done-preserved g c =
    let l = c.loop-done in (
      search rules,
      search rules,
      subst (Consumes _ _) (sym (filled l.done (length l.buf - l.done) c.in_ok-n.n l.buf c.read.new.buf l.invariant.1 c.in_ok-n.ensures.bound.0))
          (Consumes-trans _ _ _ _ _ l.invariant.2 c.in_ok-n.ensures.bytes.0),
    )
