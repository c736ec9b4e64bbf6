-- T5 over the walk: an accepted piece's alignment is the largest that fits, and 75 comes exactly where the walk comes to a split for which none fits. The alignment
-- that is halved is good, by the table checks. Assumes nothing.
use Prim.Native.Nat.{ℕ, ◌<◌}
use mathlib.Core.Path.{◌≡◌, refl, sym, ap, ◌∙◌, subst}
use mathlib.Core.List.{◌∷◌, Memᴰ}
use mathlib.Core.Logic.{◌↔◌, ◌≢◌}
use mathlib.Core.Bool.{Bool, true, false, not}
use native.Mathlib.Omega.{arith}
use lib.ListN.{length}
use borrow.Author.Tests.{eq-eqb, ne_eqb}
use Rattle.std.proofs.lemmas.Bool.{cond-false}
use Rattle.lists.specs.Outcome.{accepted, refused}
use Rattle.lists.specs.Sort.{All}
use Rattle.lists.proofs.All.{all_map}
use Rattle.lists.proofs.Binds.{bind_goes, bind_stops}
use Rattle.lists.proofs.Outcomes.{fails, passes, bind_inv}
use Rattle.align.specs.Align.{good_align}
use Rattle.obj.specs.declared.Split.{Split}
use Rattle.sections.specs.Alignment.{Chosen, default_alignment}
use Rattle.sections.proofs.Good.{default_good, chosen_good}
use Rattle.pieces.specs.declared.Piece.{Piece}
use Rattle.units.specs.Units.{unit_of}
use Rattle.walk.specs.Walk.{Input, Output, alignment_in, fits, halved, on_aligned, on_kept, on_split, walk_splits, walk}
use Rattle.splits.specs.Questions.{is_skipped, next_start}
use Rattle.lists.proofs.Among.{all_find}
use Rattle.restore.specs.Restoring.{Checked}
use Rattle.restore.specs.Alignments.{Largest, None}
use Rattle.restore.specs.Misfits.{Comes, Asked, Misfit}
use Rattle.restore.proofs.Steps.{From, split_inv, kept_inv}
use Rattle.restore.proofs.Walked.{pieces_from}
use Rattle.restore.proofs.Coming.{comes_reached, behind, split_turn, split_left}
use Rattle.restore.proofs.Refusals.{says_of, Line, walk_says, end_says, split_says}
use Rattle.restore.proofs.Halving.{halved_largest, halved_none}

-- the alignment of a split of the table is good, wherever its range is asked
pub alignment_good : (t : Input) → Checked t → (s : Split) → Memᴰ s t.splits → (n start : ℕ) (c : Chosen)
    → alignment_in t.image (t.sections.head n) n start s ≡ accepted c → good_align c.value ≡ true
alignment_good t checked s listed n start c is =
    chosen_good t.image.symbol t.image.count n (default_alignment (t.sections.head n) (t.image.name (t.sections.head n).name)) s.alignment start s.end
    checked.sound (default_good (t.sections.head n) (t.image.name (t.sections.head n).name)) (all_find s checked.aligned listed) c is

-- THEOREM T5: each piece's alignment is the largest that fits its address, of those reached by halving from the alignment of its split
pub pieces_aligned : (t : Input) (out : Output) → Checked t → walk t ≡ accepted out
    → All (λ p. (f : From t p) × Largest f.chosen.value p.address p.alignment) out.pieces
pieces_aligned t out checked e = all_map (λ p q. (q.1, one p q.1)) (pieces_from t out e)
  where
    one : (p : Piece) (f : From t p) → Largest f.chosen.value p.address p.alignment
    one p f =
        subst (Largest f.chosen.value p.address) (sym f.alignment)
        (halved_largest f.chosen.value p.address
        (alignment_good t checked f.split f.reached.listed p.section p.address f.chosen f.asked)
        (ap (λ (q : ℕ). fits q p.address) (sym f.alignment) ∙ f.fitted))

-- ---- 75

-- a split whose unit is listed and whose alignment is asked without a refusal is refused with 75 if none fits
kept_misfits : (t : Input) → Checked t → (s : Split) → Memᴰ s t.splits → (n current : ℕ) (out : Output) (c : Chosen)
    → unit_of t.units s.unit ≢ length t.units → alignment_in t.image (t.sections.head n) n current s ≡ accepted c → None c.value current
    → on_kept t n current s out ≡ refused 75 n current
unfolding on_kept on_aligned
kept_misfits t checked s listed n current out c unit is none =
    passes 74 n current _ _ (ne_eqb _ _ unit)
    ∙ bind_goes (alignment_in t.image (t.sections.head n) n current s) _ c is
    ∙ fails 75 n current _ _ (ap not (misfit (fits q current) refl))
  where
    q : ℕ
    q = halved 16 c.value current

    misfit : (b : Bool) → fits q current ≡ b → fits q current ≡ false
    misfit true f = absurd (none q (halved_largest c.value current (alignment_good t checked s listed n current c is) f).fitting)
    misfit false f = f

-- .. and so it is where nothing before its alignment refuses
asked_misfits : (t : Input) → Checked t → (n current next : ℕ) (s : Split) → Memᴰ s t.splits → (out : Output) (a : Asked t n current next s)
    → None a.chosen.value current
    → on_split t n current next s out ≡ refused 75 n current
unfolding on_split
asked_misfits t checked n current next s listed out a none =
    passes 71 n current _ _ (ap not (eq-eqb _ _ a.here))
    ∙ passes 72 n current _ _ a.inside
    ∙ passes 73 n current _ _ a.zeros
    ∙ cond-false (is_skipped s) (accepted out) (on_kept t n current s out) a.kept
    ∙ kept_misfits t checked s listed n current out a.chosen a.listed a.asked none

-- a walk that is refused with 75 has come to such a split
misfit_found : (t : Input) → Checked t → (n address : ℕ) → walk t ≡ refused 75 n address → Misfit t n address
misfit_found t checked n address e = says_of P (walk t) 75 n address (walk_says P t line) e refl
  where
    P : (number section address : ℕ) → Type 0
    P number m a = number ≡ 75 → Misfit t m a

    others : (m number a : ℕ) → 0 < number → number ≢ 10 → number ≢ 73 → number ≢ 75 → P number m a
    others m number a h x y z q = absurd (z q)

    line : (m : ℕ) → m < t.sections.count → Line P t m
    line m b =
        record {
          end = end_says P t m (others m) (λ d q. absurd (omega arith));
          missing = λ current q. absurd (omega arith);
          split = λ s current out r. split_says P t m (others m) s current (next_start r.end r.later) out (λ f q. absurd (omega arith))
              (λ a f q. record {
                there = b;
                split = s;
                out = out;
                comes = r;
                passed = a;
                none = halved_none a.chosen.value current (alignment_good t checked s (comes_reached t r).listed m current a.chosen a.asked) f;
              });
        }

-- a walk that comes to such a split is refused with 75 there
misfit_refused : (t : Input) → Checked t → (n address : ℕ) → Misfit t n address → walk t ≡ refused 75 n address
misfit_refused t checked n address m =
    let r = m.comes in
    split_left t r.left m.there r.ends
    ∙ bind_stops (walk_splits t n r.end address m.out (m.split ∷ r.later)) (behind t n) 75 n address
    (split_turn t n r.end address m.out m.split r.later r.below
    ∙ bind_stops (on_split t n address (next_start r.end r.later) m.split m.out) _ 75 n address
    (asked_misfits t checked n address (next_start r.end r.later) m.split (comes_reached t r).listed m.out m.passed m.none))

-- THEOREM T5: a walk is refused with 75 at a place exactly if it comes to a split there, common ones included, for whose alignment none fits
pub misfit_exactly : (t : Input) → Checked t → (n address : ℕ) → (walk t ≡ refused 75 n address) ↔ Misfit t n address
misfit_exactly t checked n address = (misfit_found t checked n address, misfit_refused t checked n address)

-- THEOREM T5: for each split that an accepted walk comes to and doesn't skip, common ones included, there is an alignment that fits, and the largest is taken
pub splits_aligned : (t : Input) (out : Output) → Checked t → walk t ≡ accepted out → (n : ℕ) → n < t.sections.count
    → (s : Split) (current : ℕ) (o : Output) → Comes t n current s o → is_skipped s ≡ false
    → (c : Chosen) × (alignment_in t.image (t.sections.head n) n current s ≡ accepted c) × Largest c.value current (halved 16 c.value current)
splits_aligned t out checked e n there s current o r kept =
    let next = next_start r.end r.later in
    let a = bind_inv _ _ _ (sym (split_left t r.left there r.ends) ∙ e) in
    let b = bind_inv _ _ _ (sym (split_turn t n r.end current o s r.later r.below) ∙ a.1) in
    let k = kept_inv t n current s o b.0 (sym (cond-false (is_skipped s) (accepted o) (on_kept t n current s o) kept) ∙ (split_inv t n current s o b.0 next b.1).rest) in
    let c = k.chosen in
    let good = alignment_good t checked s (comes_reached t r).listed n current c k.asked in
    (c, k.asked, halved_largest c.value current good k.passed.fitted)
