-- From the loader's answer and counts to the entry's word and the bytes of its counts: what the loader ensures says both, and the six counts
-- are stored one after another into cleared bytes. Assumes nothing.
use Prim.Native.Nat.{ℕ, suc, ◌+◌, ◌*◌, ◌≤◌}
use mathlib.Core.Path.{◌≡◌, refl, sym, ap, subst, ◌∙◌}
use mathlib.Core.List.{List, [], ◌∷◌}
use mathlib.Core.Bool.{Bool, true, false, cond}
use native.Mathlib.Omega.{arith}
use lib.Dec.{leb}
use lib.ListN.{length, set, replicate}
use lib.Seq.{sets, set-get_or}
use Rattle.lists.proofs.Rows.{get_or_same}
use Rattle.lists.specs.Rows.{clear_from}
use Rattle.lists.specs.Outcome.{Outcome, refused}
use Rattle.lists.proofs.Clear.{clear_all}
use Rattle.obj.specs.Answers.{Answer, word}
use Rattle.obj.specs.declared.Refusal.{Refusal}
use Rattle.std.specs.Prelude.{Result, Ok, Err}
use Rattle.outputs.specs.Outputs.{counts_of, store_count, store_counts}
use Rattle.outputs.proofs.Laws.{counts_stored, counts_cleared}
use Rattle.tables.specs.declared.Counts.{Counts, Counts as Ceilings}
use Rattle.tables.specs.Tables.{main_ceilings}
use Rattle.load.specs.Load.{Loaded, load_of}
use Rattle.load.specs.Columns.{tables_in, no_counts, counts_in, Allowed, Room, Loads}
use Rattle.load.proofs.Keeping.{counted}
use Rattle.entry_check_file.specs.Entry.{listed, Leaves, Answers, CountedIn}

-- ---- the loader's columns

allowed : Allowed main_ceilings
allowed = record {
  names = omega arith;
  sections = omega arith;
  symbols = omega arith;
  relocations = omega arith;
  splits = omega arith;
  units = omega arith;
}

pub room : {c : Ceilings} {places lengths heads chain : List ℕ} → c ≡ main_ceilings → 14464 ≤ length places → 4096 ≤ length lengths → length heads ≡ 8192 → 4096 ≤ length chain
    → Room c places lengths heads chain
room e p l h n = rw e (record { allowed = allowed; long_places = p; long_lengths = l; long_heads = h; long_chain = n })

-- ---- the loader's answer

module _ (c : Ceilings) (file : List ℕ) (o : Outcome Loaded) (places lengths heads chain : List ℕ) where
  answers : (r : Result Counts Refusal) → Loads c file o r places lengths heads chain → Answers o r
  answers (Ok n) l =
      let ready = (l.ready n refl).tabled in record {
        tables = tables_in n places lengths;
        said = sym l.means;
        counted = l.counted n refl;
        small = counted ready.allowed ready.few;
      }
  answers (Err e) l = sym l.means

-- the same answer, under the ceilings' name
pub answers_main : {c : Ceilings} {file : List ℕ} {r : Result Counts Refusal} {places lengths heads chain : List ℕ} → c ≡ main_ceilings
    → Loads c file (load_of c file) r places lengths heads chain → Answers (load_of main_ceilings file) r
answers_main {c} {file} {r} {places} {lengths} {heads} {chain} e l =
    subst (λ (d : Ceilings). Answers (load_of d file) r) e (answers c file (load_of c file) places lengths heads chain r l)

-- ---- after a refusal the counts are zeros throughout

abbrev zeros : ℕ → List ℕ
zeros size = replicate size 0

zero_stored : (n i : ℕ) → set (zeros n) i 0 ≡ zeros n
zero_stored n i = ap (set (zeros n) i) (sym (get_or_same n i 0)) ∙ set-get_or (zeros n) i 0

zero_count : (k size : ℕ) → store_count k 0 (zeros size) ≡ zeros size
unfolding store_count
zero_count k size = either (leb (2 * k + 2) (length (zeros size)))
  where
    either : (b : Bool) → cond b (sets (zeros size) (2 * k) (0 ∷ 0 ∷ [])) (zeros size) ≡ zeros size
    either true = ap (λ (l : List ℕ). set l (suc (2 * k)) 0) (zero_stored size (2 * k)) ∙ zero_stored size (suc (2 * k))
    either false = refl

pub refused_zeros : (size : ℕ) → counts_of size (listed no_counts) ≡ zeros size
unfolding store_counts
refused_zeros size =
    sym (counts_stored size (listed no_counts))
    ∙ rw (zero_count 0 size, zero_count 1 size, zero_count 2 size, zero_count 3 size, zero_count 4 size, zero_count 5 size)

pub leaves_zeros : (number section address size answer : ℕ) (counts : List ℕ) → Leaves (refused number section address) size answer counts
    → counts ≡ zeros size
leaves_zeros number section address size answer counts l = l.counted ∙ refused_zeros size

-- ---- the entry

-- the counts of what was loaded, or a refusal
pub leaves_counted : {o : Outcome Loaded} (a : Answer) (old : List ℕ) {cleared new : List ℕ} {answer : ℕ} → answer ≡ word a → cleared ≡ clear_from 0 0 old
    → CountedIn o cleared new a → Leaves o (length old) answer new
leaves_counted {o} (Ok u) old w e p = record { said = w ∙ sym p.0; counted = p.1 ∙ counts_cleared old (listed (counts_in o)) e }
leaves_counted (Err r) old w e p = rw p.0 (record { said = w; counted = p.1 ∙ e ∙ clear_all 0 old ∙ sym (refused_zeros (length old)) })
