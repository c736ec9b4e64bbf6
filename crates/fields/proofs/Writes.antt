-- A part of a list that is written whole: what `copy_from_slice` leaves is a run of stores. Assumes nothing.
use Rattle.std.proofs.Common.{◌≡◌, ℕ, ◌+◌, ◌-◌, ◌≤◌, List, length, take, drop, sym, ◌∙◌, arith, append_assoc}
use Rattle.std.proofs.lemmas.List.Edits.{sets, sets-eq}
use Rattle.std.proofs.lemmas.List.{drop-drop}
use borrow.Rule.Slice.PartMut.{put_mid}

-- the part from `at` to `end`, where vs is written
pub written_part : (l : List ℕ) {ws : List ℕ} (vs : List ℕ) (at end : ℕ) → ws ≡ vs → end ≡ at + length vs → end ≤ length l → put_mid at (end - at) l ws ≡ sets l at vs
written_part l vs at end e f h =
    let past : at + (end - at) ≡ at + length vs = omega arith in
    rw (e, drop-drop, past) (sym (sets-eq vs l at (omega arith) ∙ append_assoc (take at l) vs (drop (at + length vs) l)))
