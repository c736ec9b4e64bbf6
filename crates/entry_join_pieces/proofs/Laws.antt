-- From the answers of the entry's steps to its outcome and its outputs. Assumes nothing.
use Prim.Native.Nat.{ℕ}
use mathlib.Core.Path.{◌≡◌, refl, sym, ap, subst, ◌∙◌}
use mathlib.Core.List.{List}
use lib.ListN.{length, replicate}
use Rattle.lists.specs.Outcome.{Outcome, accepted, refused}
use Rattle.lists.proofs.Binds.{bind_goes, bind_stops}
use Rattle.lists.proofs.Outcomes.{not_both, same_accepted, then_inv}
use Rattle.obj.specs.Answers.{outcome_word}
use Rattle.obj.specs.Answers.{Answer}
use Rattle.std.specs.Prelude.{Result, Ok, Err}
use Rattle.obj.specs.declared.Section.{Section}
use Rattle.join.specs.Join.{held, join_of}
use Rattle.join.proofs.Sizes.{length-joined}
use Rattle.join_pieces.specs.Joins.{Joins}
use Rattle.kept_output.specs.Kept.{Leaves, sized_of, Settles}
use Rattle.obj.specs.declared.Refusal.{Refusal}
use Rattle.obj.specs.Parts.{Part}
use Rattle.entry_join_pieces.specs.Entry.{Writes}

-- ---- the joiner's outcome

pub joins_as : {o p : Outcome (List ℕ)} {before after : List ℕ} {a : Answer} → o ≡ p → Joins o before a after → Joins p before a after
joins_as {before = before} {after} {a} e j = subst (λ (x : Outcome (List ℕ)). Joins x before a after) e j

-- joined bytes are those of the sections
pub join_size : (heads : List Section) (room : ℕ) (parts : List Part) (bytes : List ℕ) → join_of heads room parts ≡ accepted bytes → length bytes ≡ held heads
unfolding join_of
join_size heads room parts bytes e =
    let a = then_inv _ _ _ _ _ _ e in
    let b = then_inv _ _ _ _ _ _ a.1 in
    let d = then_inv _ _ _ _ _ _ b.1 in
    ap length (sym (same_accepted d.1)) ∙ length-joined heads parts

-- ---- what the entry leaves

-- the same refusal where a number of bytes would be answered
abbrev counted_none : Outcome (Unit {0}) → Outcome ℕ
counted_none (accepted u) = accepted 0
counted_none (refused number section address) = refused number section address

module _ {before after : List ℕ} where
  -- a refusal of the tables
  pub writes_refused : {o : Outcome (List ℕ)} {r : Refusal} → o ≡ refused r.number r.section r.address → length after ≡ length before → Writes o before (Err r) after
  writes_refused {o} {r} e l = record {
    said = sym (bind_stops o _ _ _ _ e);
    long = l;
    laid = λ bytes q. absurd (not_both (sym e ∙ q));
  }

  -- a refusal of the pieces
  pub writes_stopped : (o : Outcome (List ℕ)) {r : Refusal} → Joins o before (Err r) after → Writes o before (Err r) after
  writes_stopped (accepted bytes) j = absurd (not_both (j.said ∙ bind_goes _ _ bytes refl))
  writes_stopped (refused number section address) j =
      record { said = ap counted_none (j.said ∙ bind_stops _ _ number section address refl) ∙ sym (bind_stops _ _ number section address refl); long = j.long; laid = j.laid }

  -- the bytes that were written, and how many
  pub writes_made : (o : Outcome (List ℕ)) {v : ℕ} → Joins o before (Ok tt) after → ((bytes : List ℕ) → o ≡ accepted bytes → v ≡ length bytes) → Writes o before (Ok v) after
  writes_made (accepted bytes) {v} j s =
      record { said = ap (λ (n : ℕ). accepted n) (s bytes refl) ∙ sym (bind_goes _ _ bytes refl); long = j.long; laid = j.laid }
  writes_made (refused number section address) j s = absurd (not_both (sym (j.said ∙ bind_stops _ _ number section address refl)))

  module _ {size : List ℕ} {answer : ℕ} {out size' : List ℕ} where
    -- what was written, or refused, settled
    pub leaves_settled : (o : Outcome (List ℕ)) (w : Result ℕ Refusal) → Writes o before w after → Settles w after size answer out size' → Leaves o before size answer out size'
    leaves_settled (accepted bytes) (Ok v) w s = record {
      said = s.said;
      output = s.output ∙ w.laid bytes refl;
      sized = s.sized ∙ ap (λ (n : ℕ). sized_of size (Ok n)) (same_accepted (w.said ∙ bind_goes _ _ bytes refl));
    }
    leaves_settled (accepted bytes) (Err r) w s = absurd (not_both (w.said ∙ bind_goes _ _ bytes refl))
    leaves_settled (refused number section address) (Ok v) w s = absurd (not_both (sym (w.said ∙ bind_stops _ _ number section address refl)))
    leaves_settled (refused number section address) (Err r) w s =
        record {
          said = s.said ∙ ap outcome_word (w.said ∙ bind_stops _ _ number section address refl);
          output = s.output ∙ ap (λ (n : ℕ). replicate n 0) w.long;
          sized = s.sized;
        }
