-- The pass over the records: what is left to load from here, into what is loaded so far, is what the whole file gives. A fuel of the bytes that
-- are left is enough, since each record takes six bytes at least. Assumes nothing.
use Prim.Native.Nat.{ℕ, zero, suc, ◌+◌, ◌-◌, ◌<◌, ◌≤◌}
use mathlib.Core.Path.{◌≡◌, refl, sym, ap, subst, ◌∙◌}
use mathlib.Core.Bool.{Bool, true, false, cond}
use mathlib.Core.List.{List, []}
use native.Mathlib.Omega.{arith}
use native.Mathlib.Numerals.{add-one}
use borrow.Author.Tests.{ltb-true, ltb-false, leb-true, leb-false, le-leb, lt-leb, lt-ltb, le-ltb}
use lib.Dec.{ltb, leb}
use lib.ListN.{length, get_or, take, drop, replicate, length-append, length-replicate}
use lib.Seq.{length-take-le, drop_at}
use Rattle.lists.specs.Outcome.{Outcome, accepted, refused}
use Rattle.lists.proofs.Outcomes.{fails, passes}
use Rattle.fields.specs.Fields.{le32}
use Rattle.std.specs.Prelude.{Result, Ok, Err}
use Rattle.std.specs.Result.{MatchResult, IsErrAnd}
use Rattle.std.proofs.lemmas.Result.{err_from_is_err_and}
use Rattle.lists.specs.Rows.{tabulate, clear_from}
use Rattle.lists.proofs.Clear.{clear_is}
use Rattle.names.specs.Names.{names_of}
use Rattle.names.proofs.Indexes.{indexed_cleared}
use Rattle.tables.specs.declared.Counts.{Counts, Counts as Ceilings}
use Rattle.tables.specs.Records.{floor_from}
use Rattle.obj.specs.declared.Refusal.{Refusal}
use Rattle.load.specs.Load.{Loaded, nothing, names_in, record_number, load_from, load_of}
use Rattle.load.specs.Kinds.{code_of, Decided}
use Rattle.load.specs.Reading.{SameColumns}
use Rattle.load.specs.declared.kind.Kind.{Kind}
use Rattle.load.specs.declared.reading.Columns.{Columns}
use Rattle.load.specs.Columns.{part, tables_in, floors_in, no_counts, fault_as, counts_in, Room, Ready, Loads}
use Rattle.load.proofs.Numbers.{record_passed}
use Rattle.load.proofs.Laws.{next_loaded, good_nothing}
use Rattle.load.proofs.Keeping.{counted, names-count, sections_count, symbols_count, relocations_count, splits-count, units_count}

-- ---- a turn of the definition
module _ (c : Ceilings) (file : List ℕ) (at r : ℕ) (t : Loaded) where
  -- the end of the file
  load_end : (fuel : ℕ) → length file ≤ at → load_from fuel c file at r t ≡ accepted t
  unfolding load_from
  load_end zero h = refl
  load_end (suc fuel) h = rw (le-leb (length file) at h)

  -- a record that has a fault
  load_stop : (fuel : ℕ) → at < length file → length file ≤ at + fuel → 0 < record_number c file at t
      → load_from fuel c file at r t ≡ refused (record_number c file at t) 0 r
  unfolding load_from
  load_stop zero h q p = absurd (omega arith)
  load_stop (suc fuel) h q p = rw (lt-leb (length file) at h, lt-ltb 0 (record_number c file at t) p)

  -- one that has none
  load_on : (fuel : ℕ) → at < length file → length file ≤ at + fuel → record_number c file at t ≡ 0
      → load_from fuel c file at r t ≡ load_from (fuel - 1) c file (at + 6 + le32 file at) (suc r) (next_loaded c file at t)
  unfolding load_from
  load_on zero h q e = absurd (omega arith)
  load_on (suc fuel) h q e =
      rw (lt-leb (length file) at h, e)
      (ap (λ (f : ℕ). load_from f c file (at + 6 + le32 file at) (suc r) (next_loaded c file at t)) (let s : fuel ≡ suc fuel - 1 = omega arith in s))

-- more fuel than the bytes that are left changes nothing
pub fuel_enough : (f g : ℕ) (c : Ceilings) (file : List ℕ) (at r : ℕ) (t : Loaded) → length file ≤ at + f → length file ≤ at + g
    → load_from f c file at r t ≡ load_from g c file at r t
fuel_enough zero g c file at r t p q = load_end c file at r t zero (omega arith) ∙ sym (load_end c file at r t g (omega arith))
fuel_enough (suc f) g c file at r t p q =
    ended (leb (length file) at) refl
    (λ a b. fuel_enough f (g - 1) c file (at + 6 + le32 file at) (suc r) (next_loaded c file at t) a b)
  where
    going : at < length file → (b : Bool) → ltb 0 (record_number c file at t) ≡ b
        → (length file ≤ at + 6 + le32 file at + f → length file ≤ at + 6 + le32 file at + (g - 1)
        → load_from f c file (at + 6 + le32 file at) (suc r) (next_loaded c file at t) ≡ load_from (g - 1) c file (at + 6 + le32 file at) (suc r) (next_loaded c file at t))
        → load_from (suc f) c file at r t ≡ load_from g c file at r t
    going h true e rest =
        let faulty = ltb-true 0 (record_number c file at t) e in
        load_stop c file at r t (suc f) h p faulty ∙ sym (load_stop c file at r t g h q faulty)
    going h false e rest =
        let none : record_number c file at t ≡ 0 = omega (arith, ltb-false 0 (record_number c file at t) e) in
        load_on c file at r t (suc f) h p none
        ∙ ap (λ (k : ℕ). load_from k c file (at + 6 + le32 file at) (suc r) (next_loaded c file at t)) (let s : suc f - 1 ≡ f = omega arith in s)
        ∙ rest (omega arith) (omega arith)
        ∙ sym (load_on c file at r t g h q none)

    ended : (b : Bool) → leb (length file) at ≡ b
        → (length file ≤ at + 6 + le32 file at + f → length file ≤ at + 6 + le32 file at + (g - 1)
        → load_from f c file (at + 6 + le32 file at) (suc r) (next_loaded c file at t) ≡ load_from (g - 1) c file (at + 6 + le32 file at) (suc r) (next_loaded c file at t))
        → load_from (suc f) c file at r t ≡ load_from g c file at r t
    ended true e rest = let h = leb-true (length file) at e in load_end c file at r t (suc f) h ∙ sym (load_end c file at r t g h)
    ended false e rest = going (leb-false (length file) at e) (ltb 0 (record_number c file at t)) refl rest

-- ---- the loop's invariant

-- what is left from here on is what the whole file gives
pub record Going (c : Ceilings) (file : List ℕ) (at r : ℕ) (t : Loaded) : Type 0 where
  pub within : at ≤ length file
  pub early : r ≤ at
  pub fuel : ℕ
  pub enough : length file ≤ at + fuel
  pub same : load_from fuel c file at r t ≡ load_from (length file) c file 0 0 nothing

pub going_starts : (c : Ceilings) (file : List ℕ) {t : Loaded} → t ≡ nothing → Going c file 0 0 t
going_starts c file e = rw e (record { within = omega arith; early = omega arith; fuel = length file; enough = omega arith; same = refl })

module _ {c : Ceilings} {file : List ℕ} {at r : ℕ} {t : Loaded} (g : Going c file at r t) where
  pub going_stops : {number : ℕ} → at < length file → number ≡ record_number c file at t → 0 < number
      → refused number 0 r ≡ load_from (length file) c file 0 0 nothing
  going_stops h e p = rw e (sym (load_stop c file at r t g.fuel h g.enough (omega arith)) ∙ g.same)

  pub going_on : {next : ℕ} {u : Loaded} → at < length file → record_number c file at t ≡ 0
      → next ≡ at + 6 + le32 file at → u ≡ next_loaded c file at t → Going c file next (r + 1) u
  going_on h none q v =
      let whole = (record_passed c file at t none).whole in
      rw (q, v) (record {
        within = whole;
        early = omega (arith, g.early);
        fuel = g.fuel - 1;
        enough = omega (arith, g.enough);
        same =
            ap (λ (k : ℕ). load_from (g.fuel - 1) c file (at + 6 + le32 file at) k (next_loaded c file at t)) (add-one r)
            ∙ sym (load_on c file at r t g.fuel h g.enough none)
            ∙ g.same;
      })

  pub going_ends : length file ≤ at → accepted t ≡ load_from (length file) c file 0 0 nothing
  going_ends h = sym (load_end c file at r t g.fuel h) ∙ g.same

-- ---- the columns before the first record

pub tables-none : (places lengths : List ℕ) → tables_in no_counts places lengths ≡ nothing
unfolding tables_in part
tables-none places lengths = refl

zeros : (k m s : ℕ) → ◌≡◌ {A = ℕ} (get_or (take k (replicate m 0)) s 0) 0
zeros zero m s = refl
zeros (suc k) zero s = refl
zeros (suc k) (suc m) zero = refl
zeros (suc k) (suc m) (suc s) = zeros k m s

drop_cleared : (k : ℕ) (l : List ℕ) → k ≤ length l → drop k (clear_from 0 k l) ≡ replicate (length l - k) 0
drop_cleared k l h = rw (clear_is 0 k l) (drop_at (take k l) (replicate (length l - k) 0) k (length-take-le k l h))

pub length_cleared : (k : ℕ) (l : List ℕ) → k ≤ length l → length (clear_from 0 k l) ≡ length l
length_cleared k l h =
    let front = length-take-le k l h in
    rw (clear_is 0 k l, length-append, length-replicate) (omega arith)

no_floors : (places : List ℕ) → 14400 ≤ length places → (s : ℕ) → get_or (floors_in (clear_from 0 14400 places)) s 0 ≡ 0
unfolding part
no_floors places h s = rw (drop_cleared 14400 places h) (zeros 64 (length places - 14400) s)

no_names : (file places lengths : List ℕ) → names_in file (tables_in no_counts places lengths) ≡ []
unfolding names_in names_of tabulate
no_names file places lengths = rw (tables-none places lengths) refl

pub ready_none : (c : Ceilings) (file places lengths heads chain : List ℕ) {cleared zeros : List ℕ} → Room c places lengths heads chain
    → length file ≤ 65536 → cleared ≡ clear_from 0 14400 places → zeros ≡ replicate (length heads) 0 → Ready c file no_counts cleared lengths zeros chain
unfolding floor_from
ready_none c file places lengths heads chain {cleared} {zeros} room small e z =
    let long = length_cleared 14400 places (omega (arith, room.long_places)) in
    rw e (record {
      tabled = record {
        allowed = room.allowed;
        few = record {
          names = omega arith;
          sections = omega arith;
          symbols = omega arith;
          relocations = omega arith;
          splits = omega arith;
          units = omega arith;
        };
        small = small;
        long_places = omega (arith, room.long_places);
        long_lengths = room.long_lengths;
        good = rw (tables-none (clear_from 0 14400 places) lengths) (good_nothing c file);
        floors = λ s. rw (tables-none (clear_from 0 14400 places) lengths) (no_floors places (omega (arith, room.long_places)) s);
      };
      indexed = rw (no_names file (clear_from 0 14400 places) lengths) (indexed_cleared (length heads) zeros chain room.long_heads z room.long_chain);
    })

-- ---- the loop's steps

pub starts : (c : Ceilings) (file places lengths : List ℕ) {n : Counts} → n ≡ no_counts → Going c file 0 0 (tables_in n places lengths)
starts c file places lengths e = rw e (going_starts c file (tables-none places lengths))

-- the whole file, of the same columns
pub whole_same : {k l : Columns} → SameColumns k l
    → load_from (length l.file.now) l.most l.file.now 0 0 nothing ≡ load_from (length k.file.now) k.most k.file.now 0 0 nothing
whole_same s = λ z. load_from (length (s.file z)) (s.most z) (s.file z) 0 0 nothing

-- ---- what the loader gives

err_same : {T E : Type 0} {a b : E} → ◌≡◌ {A = Result T E} (Err a) (Err b) → a ≡ b
err_same e = cc

pub ok_same : {T E : Type 0} {a b : T} → ◌≡◌ {A = Result T E} (Ok a) (Ok b) → a ≡ b
ok_same e = cc

not_ok : {T E : Type 0} {a : T} {b : E} → ◌≡◌ {A = Result T E} (Err b) (Ok a) → ⊥
not_ok e = let z : ◌≡◌ {A = ℕ} 0 1 = cc in omega arith

-- a fault's number, and none
pub fault_is : {n m : ℕ} → ◌≡◌ {A = Result (Unit {0}) ℕ} (Err n) (fault_as m) → (n ≡ m) × (0 < n)
fault_is {n} {m} e = decide (ltb 0 m) refl e
  where
    decide : (b : Bool) → ltb 0 m ≡ b → ◌≡◌ {A = Result (Unit {0}) ℕ} (Err n) (cond b (Err m) (Ok tt)) → (n ≡ m) × (0 < n)
    decide true t e = let q = err_same e in (q, omega (arith, q, ltb-true 0 m t))
    decide false t e = absurd (not_ok e)

pub none_is : {m : ℕ} → ◌≡◌ {A = Result (Unit {0}) ℕ} (Ok tt) (fault_as m) → m ≡ 0
none_is {m} e = decide (ltb 0 m) refl e
  where
    decide : (b : Bool) → ltb 0 m ≡ b → ◌≡◌ {A = Result (Unit {0}) ℕ} (Ok tt) (cond b (Err m) (Ok tt)) → m ≡ 0
    decide true t e = absurd (not_ok (sym e))
    decide false t e = omega (arith, ltb-false 0 m t)

-- the decision on a record, its number handed on as the refusal of record k
pub fault_of : {m k : ℕ} {d : Refusal} (kind : ℕ) (r : Result Kind ℕ) (a : Result Kind Refusal) {P : ℕ → Refusal → Type 0} → MatchResult r (λ x. a ≡ Ok x) (λ e. IsErrAnd a (P e))
    → ((e : ℕ) (d : Refusal) → P e d → d ≡ record { number = e; section = 0; address = k }) → Decided m kind r → a ≡ Err d
    → (0 < m) × (d ≡ record { number = m; section = 0; address = k })
fault_of kind (Ok x) a h is e given = absurd (not_ok (sym given ∙ h))
fault_of {d = d} kind (Err n) a h is e given =
    let p = err_from_is_err_and a h in
    let same : d ≡ p.0 = err_same (sym given ∙ p.1) in
    (e.1, rw (same, is n p.0 p.2, e.0))

-- .. or its kind handed on
pub passed_of : {m kind : ℕ} {x : Kind} (r : Result Kind ℕ) (a : Result Kind Refusal) (P : ℕ → Refusal → Type 0) → MatchResult r (λ x. a ≡ Ok x) (λ e. IsErrAnd a (P e)) → Decided m kind r
    → a ≡ Ok x → (m ≡ 0) × (code_of x ≡ kind)
passed_of {x = x} (Ok y) a P h e given = let same : x ≡ y = ok_same (sym given ∙ h) in rw same e
passed_of (Err n) a P h e given = let p = err_from_is_err_and a h in absurd (not_ok (sym p.1 ∙ given))

module _ (c : Ceilings) (file places lengths heads chain : List ℕ) where
  -- a refusal
  pub loads_refused : {o : Outcome Loaded} {a : Result Counts Refusal} (number address : ℕ) → a ≡ Err (record { number = number; section = 0; address = address })
      → refused number 0 address ≡ o → Loads c file o a places lengths heads chain
  loads_refused number address e p = rw (e, ← p) (record { means = refl; counted = λ n q. absurd (not_ok q); ready = λ n q. absurd (not_ok q) })

  -- all records are loaded
  pub loads_accepted : {o : Outcome Loaded} (n : Counts) → Ready c file n places lengths heads chain → accepted (tables_in n places lengths) ≡ o
      → Loads c file o (Ok n) places lengths heads chain
  loads_accepted n ready p =
      let old = ready.tabled in
      let few = counted old.allowed old.few in
      let all : n ≡ counts_in (accepted (tables_in n places lengths)) =
      λ z. record {
        names = sym (names-count n places lengths old.long_places few) z;
        sections = sym (sections_count n places lengths old.long_places few) z;
        symbols = sym (symbols_count n places lengths old.long_places few) z;
        relocations = sym (relocations_count n places lengths old.long_places few) z;
        splits = sym (splits-count n places lengths old.long_places few) z;
        units = sym (units_count n places lengths old.long_places few) z;
      } in
      rw (← p) (record {
        means = refl;
        counted = λ m q. sym (ok_same q) ∙ all;
        ready = λ m q. subst (λ (i : Counts). Ready c file i places lengths heads chain) (ok_same q) ready;
      })

  -- the same outcome, of a file that is not too long
  pub loads_small : {a : Result Counts Refusal} → length file ≤ 65536 → Loads c file (load_from (length file) c file 0 0 nothing) a places lengths heads chain
      → Loads c file (load_of c file) a places lengths heads chain
  unfolding load_of
  loads_small {a} h l =
      subst (λ (o : Outcome Loaded). Loads c file o a places lengths heads chain) (sym (passes _ _ _ _ _ (le-ltb 65536 (length file) h))) l

-- the same columns, said otherwise
pub loads_in : {c c' : Ceilings} {file file' : List ℕ} {o : Outcome Loaded} {a : Result Counts Refusal} {places lengths heads chain places' lengths' heads' chain' : List ℕ}
    → c' ≡ c → file' ≡ file → places' ≡ places → lengths' ≡ lengths → heads' ≡ heads → chain' ≡ chain
    → Loads c file o a places lengths heads chain → Loads c' file' o a places' lengths' heads' chain'
loads_in {o = o} {a = a} em ef ep el eh ec l = subst (λ (t : Type 0). t) (λ z. Loads (sym em z) (sym ef z) o a (sym ep z) (sym el z) (sym eh z) (sym ec z)) l

-- "a file over 65,536 bytes is refused first, at record 0"
pub too_long : (c : Ceilings) (file : List ℕ) → 65536 < length file → refused 1 0 0 ≡ load_of c file
unfolding load_of
too_long c file h = sym (fails _ _ _ _ _ (lt-ltb 65536 (length file) h))
