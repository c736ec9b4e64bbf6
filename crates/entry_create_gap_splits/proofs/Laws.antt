-- The ends of the entry: what was accepted is laid out, and a refusal leaves zeros. Assumes nothing.
use mathlib.Core.Path.{◌≡◌, refl, sym, ap, ◌∙◌}
use mathlib.Core.List.{List, [], ◌∷◌}
use Prim.Native.Nat.{ℕ, zero, suc, ◌-◌, ◌/◌, ◌≤◌}
use native.Mathlib.Omega.{arith}
use lib.ListN.{length, take, replicate}
use Rattle.lists.specs.Rows.{clear_from}
use Rattle.lists.specs.Tables.{laid}
use Rattle.lists.specs.Outcome.{Outcome, accepted, refused}
use Rattle.lists.proofs.Clear.{clear_all}
use Rattle.lists.proofs.Outcomes.{not_both}
use Rattle.obj.specs.Answers.{meaning, word, outcome_word}
use Rattle.obj.specs.Answers.{Answer}
use Rattle.std.specs.Prelude.{Ok, Err, true, false}
use Rattle.std.specs.Result.{is_err}
use Rattle.kept_output.specs.Kept.{kept_of}
use Rattle.outputs.specs.Outputs.{halves, counts_of}
use Rattle.stage_names.specs.StageNames.{ends_from, flat}
use Rattle.stage_splits.specs.StageSplits.{said}
use Rattle.stage_splits.proofs.Laws.{nothing-laid}
use Rattle.gap_splits.specs.Entering.{Filled}
use Rattle.stage_gaps.specs.StageGaps.{Laid, Gives}
use Rattle.entry_create_gap_splits.specs.Entry.{Leaves}

-- ---- at the end

-- no names and no rows: zeros throughout
zeros : (size : ℕ) → replicate {A = ℕ} size 0 ≡ replicate {A = ℕ} (size - 0) 0
zeros size = ap (λ (k : ℕ). replicate {A = ℕ} k 0) (let e : size ≡ size - 0 = omega arith in e)

no_ends : (size : ℕ) → replicate size 0 ≡ laid size (halves (ends_from 0 []))
unfolding ends_from halves
no_ends size = zeros size

no_bytes : (size : ℕ) → replicate size 0 ≡ laid size (flat [])
unfolding flat
no_bytes size = zeros size

no_counts : (size : ℕ) → replicate size 0 ≡ counts_of size (0 ∷ 0 ∷ 0 ∷ [])
unfolding counts_of halves
no_counts size = go (size / 2) refl
  where
    two : 2 ≤ size → replicate {A = ℕ} size 0 ≡ 0 ∷ 0 ∷ replicate (size - 2) 0
    two h = ap (λ (k : ℕ). replicate {A = ℕ} k 0) (let e : size ≡ suc (suc (size - 2)) = omega arith in e)

    four : 4 ≤ size → replicate {A = ℕ} size 0 ≡ 0 ∷ 0 ∷ 0 ∷ 0 ∷ replicate (size - 4) 0
    four h = ap (λ (k : ℕ). replicate {A = ℕ} k 0) (let e : size ≡ suc (suc (suc (suc (size - 4)))) = omega arith in e)

    six : 6 ≤ size → replicate {A = ℕ} size 0 ≡ 0 ∷ 0 ∷ 0 ∷ 0 ∷ 0 ∷ 0 ∷ replicate (size - 6) 0
    six h = ap (λ (k : ℕ). replicate {A = ℕ} k 0) (let e : size ≡ suc (suc (suc (suc (suc (suc (size - 6)))))) = omega arith in e)

    go : (n : ℕ) → size / 2 ≡ n → replicate size 0 ≡ laid size (halves (take n (0 ∷ 0 ∷ 0 ∷ [])))
    go zero e = zeros size
    go (suc zero) e = two (omega arith)
    go (suc (suc zero)) e = four (omega arith)
    go (suc (suc (suc zero))) e = six (omega arith)
    go (suc (suc (suc (suc n)))) e = six (omega arith)

module _ (o : Outcome Filled) (ends bytes out counts : List ℕ) where
  -- an accepted outcome has its tables in the outputs
  pub leaves_accepted : {a : Answer} {answer : ℕ} → a ≡ Ok tt → answer ≡ word a → Gives o a (length ends) (length bytes) (length out) (length counts) ends bytes out counts
      → Leaves o (length ends) (length bytes) (length out) (length counts) answer ends bytes out counts
  leaves_accepted {a} {answer} q e w = go o (sym (ap meaning q) ∙ w.answered) w.given_back
    where
      go : (p : Outcome Filled) → accepted tt ≡ said p → ((t : Filled) → p ≡ accepted t → Laid t (length ends) (length bytes) (length out) (length counts) ends bytes out counts)
          → Leaves p (length ends) (length bytes) (length out) (length counts) answer ends bytes out counts
      go (accepted t) v f = record { answered = e ∙ ap word q; laid_out = f t refl }
      go (refused number section address) v f = absurd (not_both (sym v))

  -- a refused one has none
  pub leaves_refused : {a : Answer} {number section address answer : ℕ} {ends' bytes' out' counts' : List ℕ} → a ≡ Err (record { number = number; section = section; address = address }) → answer ≡ word a
      → Gives o a (length ends) (length bytes) (length out) (length counts) ends bytes out counts
      → ends' ≡ replicate (length ends) 0 → bytes' ≡ replicate (length bytes) 0 → out' ≡ replicate (length out) 0 → counts' ≡ replicate (length counts) 0
      → Leaves o (length ends) (length bytes) (length out) (length counts) answer ends' bytes' out' counts'
  unfolding flat
  leaves_refused {a} {number} {section} {address} {answer} {ends'} {bytes'} {out'} {counts'} q e w f g h i = go o (sym (ap meaning q) ∙ w.answered)
    where
      go : (p : Outcome Filled) → refused number section address ≡ said p → Leaves p (length ends) (length bytes) (length out) (length counts) answer ends' bytes' out' counts'
      go (accepted t) v = absurd (not_both v)
      go (refused n s d) v = record {
        answered = e ∙ ap word q ∙ ap outcome_word v;
        laid_out = record {
          ends = f ∙ no_ends (length ends);
          bytes = g ∙ no_bytes (length bytes);
          splits = h ∙ nothing-laid (length out);
          counted = i ∙ no_counts (length counts);
        };
      }

  -- the end of the entry: a refusal clears the outputs, an accepted answer leaves them
  pub leaves_ended : (a : Answer) {answer : ℕ} {ends' bytes' out' counts' : List ℕ} → answer ≡ word a
      → ends' ≡ kept_of ends a → bytes' ≡ kept_of bytes a → out' ≡ kept_of out a → counts' ≡ kept_of counts a
      → Gives o a (length ends) (length bytes) (length out) (length counts) ends bytes out counts
      → Leaves o (length ends) (length bytes) (length out) (length counts) answer ends' bytes' out' counts'
  leaves_ended (Ok u) e f g h i w = rw (f, g, h, i) (leaves_accepted refl e w)
  leaves_ended (Err r) e f g h i w = leaves_refused refl e w f g h i

-- the outputs are those that were lent, of the same lengths
pub leaves_at : (o : Outcome Filled) {a : Answer} {es bs size cs es' bs' size' cs' answer : ℕ} {ends bytes out counts ends' bytes' out' counts' ends₁ bytes₁ out₁ counts₁ : List ℕ}
    → es' ≡ es → bs' ≡ bs → size' ≡ size → cs' ≡ cs
    → Gives o a es bs size cs ends bytes out counts
    → ((p : Outcome Filled) → Gives p a es' bs' size' cs' ends bytes out counts → Leaves p es' bs' size' cs' answer ends' bytes' out' counts')
    → ends₁ ≡ ends' → bytes₁ ≡ bytes' → out₁ ≡ out' → counts₁ ≡ counts'
    → Leaves o es bs size cs answer ends₁ bytes₁ out₁ counts₁
leaves_at o e f g h w k i j l m = rw (i, j, l, m, sym e, sym f, sym g, sym h) (k o (rw (e, f, g, h) w))
