-- No refusal of a run has a word that is 0 or that of a cycle, since its number is one that can come and its place fits (run_entries). So the word 0 is that of a run that was
-- done, and the word of 61 that of a cycle. Assumes nothing.
use Prim.Native.Nat.{ℕ, ◌/◌, ◌≤◌, ◌<◌}
use mathlib.Core.Path.{◌≡◌, refl}
use mathlib.Core.List.{List}
use mathlib.Core.Logic.{◌⊎◌, inl, inr, ◌≢◌}
use native.Mathlib.Omega.{arith}
use lib.ListN.{length}
use Rattle.lists.specs.Outcome.{Outcome, accepted, refused}
use Rattle.obj.specs.Answers.{refusal_word}
use Rattle.obj.specs.declared.Unit as units
use Rattle.names.proofs.Laws.{length-names}
use Rattle.load.specs.Load.{Loaded, names_in}
use Rattle.loaded.specs.Tables.{Usable}
use Rattle.loaded.proofs.Laws.{few_names}
use Rattle.stage_splits.proofs.Laws.{room_low}
use Rattle.gap_laws.specs.Good.{Within}
use Rattle.restore.proofs.Refusals.{Says}
use Rattle.run.specs.Run.{Result, Ended, done, cycle}
use Rattle.run_file.specs.RunFile.{rooms_in}
use Rattle.entry_split_file.specs.Entry.{word_by}
use Rattle.run_outputs.specs.Laid.{Sizes}
use Rattle.run_entries.specs.Numbers.{CanCome}
use Rattle.run_entries.specs.Numbers as places
use Rattle.run_entries.proofs.Numbers.{Refusal}
use Rattle.run_entries.proofs.Rooms.{names_low}
use Rattle.run_theorems.specs.Run.{rooms_for}

-- ---- the words of refusals

-- a number that can come lies above 0, and below 61 or above it
apart : (number : ℕ) → CanCome number → ((0 < number) × (number < 61)) ⊎ (61 < number)
apart number (places.loading a b) = inl (omega arith, omega arith)
apart number (places.staging (places.shared a b)) = inl (omega arith, omega arith)
apart number (places.staging (places.merge a b)) = inl (omega arith, omega arith)
apart number (places.staging (places.gap a b)) = inl (omega arith, omega arith)
apart number (places.staging (places.check a b)) = inl (omega arith, omega arith)
apart number (places.staging (places.twice a b)) = inl (omega arith, omega arith)
apart number (places.staging (places.missing a b)) = inr (omega arith)
apart number (places.staging (places.nonzero a b)) = inr (omega arith)
apart number (places.staging (places.full a b)) = inr (omega arith)

module _ {B : Type 0} {number section address : ℕ} (r : Refusal CanCome B number section address) where
  not_zero : refusal_word number section address ≢ 0
  not_zero e = go (apart number r.comes)
    where
      go : ((0 < number) × (number < 61)) ⊎ (61 < number) → ⊥
      go (inl h) = omega (arith, h.0, e)
      go (inr h) = omega (arith, h, e)

  pub not_cycle : B → refusal_word number section address ≢ refusal_word 61 0 0
  not_cycle b e = go (apart number r.comes)
    where
      go : ((0 < number) × (number < 61)) ⊎ (61 < number) → ⊥
      go (inl h) = let n = r.narrow b h.1 in omega (arith, h.1, n.0, n.1, e)
      go (inr h) = omega (arith, h, e)

-- a word of 0 is that of a run that was done
pub done_of : (B : Type 0) (o : Outcome Ended) → Says (Refusal CanCome B) o → word_by o ≡ 0 → (r : Result) × (o ≡ accepted (done r))
done_of B (accepted (done r)) p e = (r, refl)
done_of B (accepted (cycle us)) p e = absurd (omega arith)
done_of B (refused number section address) p e = absurd (not_zero p e)

-- .. and that of 61 is that of a run that ended on a cycle
pub cycle_of : (B : Type 0) (o : Outcome Ended) → Says (Refusal CanCome B) o → B → word_by o ≡ refusal_word 61 0 0 → (us : List units.Unit) × (o ≡ accepted (cycle us))
cycle_of B (accepted (done r)) p b e = absurd (omega arith)
cycle_of B (accepted (cycle us)) p b e = (us, refl)
cycle_of B (refused number section address) p b e = absurd (not_cycle p b e)

-- ---- the entry's room
module _ (file : List ℕ) (sizes : Sizes) (t : Loaded) where
  pub names-within : Within (rooms_for file sizes t).names (names_in file t)
  unfolding rooms_in
  names-within = record { few = omega arith; short = omega arith }

  pub names_few : Usable file t → (rooms_for file sizes t).names.names ≤ 4096
  unfolding rooms_in names_in
  names_few u = names_low (names_in file t) (sizes.ends / 2) (omega (arith, length-names file t.names t.lengths (length t.names), few_names u))

  pub splits_few : (rooms_for file sizes t).splits ≤ 1024
  unfolding rooms_in
  splits_few = room_low sizes.splits
