-- An outcome on its way through an entry, and what its outputs hold at the end: what was written and behind it what was lent, or zeros. Assumes nothing.
use Prim.Native.Nat.{ℕ, ◌*◌, ◌≤◌}
use mathlib.Core.Path.{◌≡◌, refl, sym, ap, ap₂, subst, ◌∙◌}
use mathlib.Core.List.{List, [], ◌∷◌}
use native.Mathlib.Omega.{arith}
use lib.ListN.{length, take, replicate}
use lib.Seq.{sets, length-take-le, length-sets}
use Rattle.lists.specs.Outcome.{Outcome, accepted, refused, ◌>>◌}
use Rattle.lists.proofs.Outcomes.{not_both, same_accepted}
use Rattle.lists.proofs.Rows.{length-tabulate}
use Rattle.obj.specs.Answers.{meaning, outcome_word}
use Rattle.obj.specs.Answers.{Answer}
use Rattle.std.specs.Prelude.{Result, Ok, Err}
use Rattle.obj.specs.declared.Split.{Split}
use Rattle.splits.specs.Columns.{Columns, row_at, rows}
use Rattle.splits.specs.Bytes.{table_bytes}
use Rattle.splits.proofs.Bytes.{length-table_bytes}
use Rattle.outputs.specs.Outputs.{store_counts}
use Rattle.mend.specs.Mend.{Mended}
use Rattle.mend.specs.Steps.{mending}
use Rattle.obj.specs.declared.Refusal.{Refusal}
use Rattle.mend_outputs.specs.Outputs.{Leaves, Laid, Gives, Stores, Finishes}
use Rattle.obj.specs.Records.{split_width}
use Rattle.mend_outputs.proofs.Counts.{at_front, counts-kept}

-- ---- an outcome on its way
module _ {A : Type 0} {P : A → Type 0} where
  -- a refusal, and an accepted value of which it holds
  gives_refused : {o : Outcome A} {number section address : ℕ} → refused number section address ≡ o → Gives o (Err (record { number = number; section = section; address = address })) P
  gives_refused e = rw (sym e) (record { answered = refl; given = λ x z. absurd (not_both z) })

  gives_value : {o : Outcome A} {x : A} → accepted x ≡ o → P x → Gives o (Ok tt) P
  gives_value e p = rw (sym e) (record { answered = refl; given = λ y z. subst P (same_accepted z) p })

  module _ {a : Answer} where
    -- the same outcome, said otherwise
    pub gives_as : {o p : Outcome A} → o ≡ p → Gives o a P → Gives p a P
    gives_as e w = subst (λ (x : Outcome A). Gives x a P) e w

    -- a refused line is the answer
    pub gives_stops : {m : Outcome (Unit {0})} (n : Outcome A) {number section address : ℕ} → meaning a ≡ m → meaning a ≡ refused number section address → Gives (m >> n) a P
    unfolding ◌>>◌
    gives_stops n e f = let q = sym e ∙ f in rw q (record { answered = f; given = λ x z. absurd (not_both z) })

    -- a line that passed is passed over
    pub gives_goes : {m : Outcome (Unit {0})} {n : Outcome A} → m ≡ accepted tt → Gives n a P → Gives (m >> n) a P
    unfolding ◌>>◌
    gives_goes e w = rw e w

-- ---- what was stored

pub stores_rows : {r : Result ℕ Refusal} {l : List Split} {n size : ℕ} {out counts out' counts' : List ℕ} → r ≡ Ok size → out' ≡ sets out 0 (table_bytes l)
    → counts' ≡ store_counts 0 (n ∷ size ∷ []) counts → Stores r l n (Ok tt) out counts out' counts'
stores_rows {n = n} {counts = counts} {counts' = counts'} e p q = rw e (record {
  answered = refl;
  stored = λ size z. (p, subst (λ (k : ℕ). counts' ≡ store_counts 0 (n ∷ k ∷ []) counts) (let same : _ ≡ size = cc in same) q);
})

-- a mending that was stored, with its lines at the front of their room
pub stored_gives : {o : Outcome Mended} (r : Result ℕ Refusal) {n : ℕ} (c : Columns) {a : Answer} {out lines counts out' lines' counts' : List ℕ} → mending r (rows c n) lines' ≡ o
    → ((size : ℕ) → r ≡ Ok size → (lines' ≡ sets lines 0 (take size lines')) × (size ≤ length lines)) → split_width * n ≤ length out
    → Stores r (rows c n) n a out counts out' counts' → Gives o a (Laid out lines counts out' lines' counts')
stored_gives {o} (Err d) {n} c {a} {out} {lines} {counts} {out'} {lines'} {counts'} e t h s =
    subst (λ (x : Answer). Gives o x (Laid out lines counts out' lines' counts')) (sym s.answered) (gives_refused e)
stored_gives {o} (Ok size) {n} c {a} {out} {lines} {counts} {out'} {lines'} {counts'} e t h s =
    let there = t size refl in
    let both = s.stored size refl in
    let long = length-tabulate (row_at c) 0 n in
    let bytes = length-table_bytes (rows c n) in
    let same : length lines' ≡ length lines = ap length there.0 ∙ length-sets lines 0 (take size lines') in
    let text = length-take-le size lines' (omega (arith, same, there.1)) in
    subst (λ (x : Answer). Gives o x (Laid out lines counts out' lines' counts')) (sym s.answered)
    (gives_value e
    (record {
      splits = both.0 ∙ at_front out (table_bytes (rows c n)) (omega (arith, h, bytes, long));
      lined = there.0 ∙ at_front lines (take size lines') (omega (arith, text, there.1));
      counted = both.1 ∙ ap₂ (λ (x y : ℕ). store_counts 0 (x ∷ y ∷ []) counts) (sym long) (sym text) ∙ counts-kept counts _;
    }))

-- ---- at the end

-- an accepted outcome stays as it was laid, a refused one leaves zeros
pub leaves : (o : Outcome Mended) (a : Answer) {out lines counts out₁ lines₁ counts₁ out' lines' counts' : List ℕ} {answer : ℕ} → length out₁ ≡ length out → length lines₁ ≡ length lines
    → length counts₁ ≡ length counts → Gives o a (Laid out lines counts out₁ lines₁ counts₁) → Finishes a out₁ lines₁ counts₁ answer out' lines' counts'
    → Leaves o out lines counts answer out' lines' counts'
leaves (accepted m) (Ok u) p q r w f =
    let d = w.given m refl in
    record { said = f.said; splits = f.splits ∙ d.splits; lined = f.lined ∙ d.lined; counted = f.counted ∙ d.counted }
leaves (accepted m) (Err d) p q r w f = absurd (not_both w.answered)
leaves (refused number section address) (Ok u) p q r w f = absurd (not_both (sym w.answered))
leaves (refused number section address) (Err d) p q r w f =
    record {
      said = f.said ∙ ap outcome_word w.answered;
      splits = f.splits ∙ ap (λ (k : ℕ). replicate k 0) p;
      lined = f.lined ∙ ap (λ (k : ℕ). replicate k 0) q;
      counted = f.counted ∙ ap (λ (k : ℕ). replicate k 0) r;
    }
