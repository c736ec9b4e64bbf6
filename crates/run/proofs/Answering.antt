-- The answers of the run, one after another: a link order that was refused, a walk, and a table that the stages before left. Each way of a link order's end is
-- one of the definition's. Assumes nothing.
use Prim.Native.Nat.{ℕ, ◌/◌, ◌<◌}
use mathlib.Core.Path.{◌≡◌, refl, sym, ap, subst, ◌∙◌}
use mathlib.Core.List.{List}
use native.Mathlib.Omega.{arith}
use lib.ListN.{length, length-map}
use Rattle.lists.specs.Outcome.{Outcome, accepted, ◌>>=◌}
use Rattle.lists.specs.Sort.{All}
use Rattle.lists.proofs.Outcomes.{not_both}
use Rattle.lists.proofs.Binds.{bind_goes, bind_stops}
use lib.Seq.{drop-append_seam}
use Rattle.lists.proofs.Rows.{length-tabulate}
use Rattle.obj.specs.Answers.{meaning, Answer}
use Rattle.obj.specs.Records.{unit_at}
use Rattle.obj.specs.declared.Split.{Split}
use Rattle.obj.specs.declared.Unit as units
use Rattle.load.specs.Load.{Loaded}
use Rattle.tables.specs.Records.{units_in}
use Rattle.loaded.specs.Tables.{Usable}
use Rattle.loaded.proofs.Laws.{few_units}
use Rattle.names.specs.Append.{Columns as Beside}
use Rattle.splits.specs.Columns.{Columns, rows, row_at}
use Rattle.toposort.specs.Search.{End, all}
use Rattle.toposort.specs.Sorting.{nodes_left}
use Rattle.order.specs.LinkOrder.{link_order}
use Rattle.order.specs.Columns.{said_of, kept, answer_of, NotCycle, Resolves}
use Rattle.gap_splits.specs.Added.{added}
use Rattle.gap_splits.specs.Answers as entering
use Rattle.pieces.specs.declared.Counts.{Counts}
use Rattle.walk.specs.Giving.{output_in}
use Rattle.run.specs.declared.Ran.{Ran}
use Rattle.std.specs.Prelude.{Result, Ok, Err}
use Rattle.obj.specs.declared.Refusal.{Refusal}
use Rattle.order.specs.declared.Unlinked.{Unlinked}
use Rattle.order.specs.declared.Unlinked.TheVariants.{Refused, Cycle}
use Rattle.run.specs.Run.{done, cycle, linked, units_of, walked, on_order, ordered_and_walked}
use Rattle.run.specs.Answers.{units_at, ran_in, Tabled, Units, Keeps, WalkGives, walked_after}
use Rattle.run.proofs.Ends.{Linked, in_order, on_cycle, stopped, left_nodes, link_ends}
use Rattle.run.proofs.Records.{Stands, resolved_stands}

module _ (file : List ℕ) (t : Loaded) (room : Counts) (table : Columns) (names used splits : ℕ) (out pieces entries offsets : List ℕ) where
  abbrev S : List Split
  S = rows table splits

  -- an answer that is right after such an end of the link order
  pub record Answers (o : Outcome End) (r : Result Ran Unlinked) : Type 0 where
    pub is : (c : Beside) → ran_in c table out pieces entries offsets r ≡ (o >>= on_order file t room (added c names) S)
    pub keeps : Keeps names used splits room out r

  -- the link order was refused, or ended in a cycle
  unlinked_answers : (e : Unlinked) → Units out (kept (Err e)) → NotCycle (Err e) → (o : Outcome End) → Linked (linked file t S) o
      → meaning (answer_of (Err e)) ≡ said_of o → units_at out (kept (Err e)) ≡ units_of file t S (nodes_left o) → Answers o (Err e)
  unfolding ◌>>=◌ on_order
  unlinked_answers (Cycle k) whole other o (in_order l h) e read = absurd (not_both e)
  unlinked_answers (Cycle k) whole other o (on_cycle l h) e read =
      record { is = λ c. ap (λ (l : List units.Unit). accepted (cycle l)) read; keeps = whole }
  unlinked_answers (Cycle k) whole other o (stopped number section address q) e read = absurd (q cc)
  unlinked_answers (Refused r) whole other o (in_order l h) e read = absurd (not_both e)
  unlinked_answers (Refused r) whole other o (on_cycle l h) e read = absurd (other cc)
  unlinked_answers (Refused r) whole other o (stopped number section address q) e read = record { is = λ c. cc; keeps = tt }

  -- the walk in an order that was found
  module _ (k : ℕ) (whole : Units out k) where
    walk_refused : (l : List ℕ) (e : Refusal) → WalkGives (walked file t room S (units_of file t S l)) room (Err e) pieces entries offsets → Answers (accepted (all l)) (Err (Refused e))
    unfolding ◌>>=◌ on_order
    walk_refused l e g =
        record { is = λ c. sym (bind_stops (walked file t room S (units_of file t S l)) _ e.number e.section e.address (sym g.is)); keeps = tt }

    walk_made : (l : List ℕ) (made : Counts) → units_at out k ≡ units_of file t S l → WalkGives (walked file t room S (units_of file t S l)) room (Ok made) pieces entries offsets
        → Answers (accepted (all l)) (Ok (record { names = names; used = used; splits = splits; units = k; made = made }))
    unfolding ◌>>=◌ on_order
    walk_made l made read g = record {
      is = λ c.
          ap (λ (u : List units.Unit). accepted (done (record { added = added c names; splits = S; units = u; output = output_in pieces entries offsets made }))) read
          ∙ sym (bind_goes (walked file t room S (units_of file t S l)) _ _ (sym g.is));
      keeps = (refl, refl, refl, whole, g.within);
    }

    refused_answers : (o : Outcome End) → Linked (linked file t S) o → accepted tt ≡ said_of o → units_at out k ≡ units_of file t S (nodes_left o) → (e : Refusal)
        → WalkGives (walked file t room S (units_at out k)) room (Err e) pieces entries offsets → Answers o (Err (Refused e))
    refused_answers o (in_order l h) said read e g =
        walk_refused l e (subst (λ (u : List units.Unit). WalkGives (walked file t room S u) room (Err e) pieces entries offsets) read g)
    refused_answers o (on_cycle l h) said read e g = absurd (not_both (sym said))
    refused_answers o (stopped number section address q) said read e g = absurd (not_both (sym said))

    made_answers : (o : Outcome End) → Linked (linked file t S) o → accepted tt ≡ said_of o → units_at out k ≡ units_of file t S (nodes_left o) → (made : Counts)
        → WalkGives (walked file t room S (units_at out k)) room (Ok made) pieces entries offsets
        → Answers o (Ok (record { names = names; used = used; splits = splits; units = k; made = made }))
    made_answers o (in_order l h) said read made g =
        walk_made l made read (subst (λ (u : List units.Unit). WalkGives (walked file t room S u) room (Ok made) pieces entries offsets) read g)
    made_answers o (on_cycle l h) said read made g = absurd (not_both (sym said))
    made_answers o (stopped number section address q) said read made g = absurd (not_both (sym said))

  -- ---- after the link order

  ordered : (units : ℕ) {r : Result Ran Unlinked} → Answers (link_order (linked file t S) units) r
      → (c : Beside) → ran_in c table out pieces entries offsets r ≡ ordered_and_walked file t units room (added c names) S
  unfolding ordered_and_walked
  ordered units a = a.is

  module _ (u : Usable file t) (w : Tabled (length t.sections) table splits) (size : ℕ) {a : Result ℕ Unlinked} {before : List ℕ}
      (resolves : Resolves S (units_in file t.units) (link_order (linked file t S) (size / 8)) a before out) where
    ends : Linked (linked file t S) (link_order (linked file t S) (size / 8))
    ends =
        link_ends (linked file t S) (omega (arith, length-tabulate (row_at table) 0 splits, w.few)) (omega (arith, length-map t.units (unit_at file), few_units u)) (size / 8)

    pub stands : Stands S (units_in file t.units) (nodes_left (link_order (linked file t S) (size / 8))) out (kept a)
    stands = resolved_stands u S w.homed (link_order (linked file t S) (size / 8)) (left_nodes (linked file t S) (link_order (linked file t S) (size / 8)) ends) resolves

    -- no link order
    pub unlinked_right : (e : Unlinked) → a ≡ Err e → Answers (link_order (linked file t S) (size / 8)) (Err e)
    unlinked_right e is =
        unlinked_answers e (subst (λ (x : Result ℕ Unlinked). Units out (kept x)) is stands.whole) (subst NotCycle is resolves.other) (link_order (linked file t S) (size / 8)) ends
        (sym (ap (λ (x : Result ℕ Unlinked). meaning (answer_of x)) is) ∙ resolves.said)
        (sym (ap (λ (x : Result ℕ Unlinked). units_at out (kept x)) is) ∙ stands.read)

    -- an order of n units, and the walk in it
    module _ (n : ℕ) (is : a ≡ Ok n) where
      order_said : accepted tt ≡ said_of (link_order (linked file t S) (size / 8))
      order_said = sym (ap (λ (x : Result ℕ Unlinked). meaning (answer_of x)) is) ∙ resolves.said

      order_read : units_at out n ≡ units_of file t S (nodes_left (link_order (linked file t S) (size / 8)))
      order_read = sym (ap (λ (x : Result ℕ Unlinked). units_at out (kept x)) is) ∙ stands.read

      pub order_whole : Units out n
      order_whole = subst (λ (x : Result ℕ Unlinked). Units out (kept x)) is stands.whole

      pub order_named : All (λ (x : units.Unit). x.name < 4096) (units_at out n)
      order_named = subst (λ (x : Result ℕ Unlinked). All (λ (y : units.Unit). y.name < 4096) (units_at out (kept x))) is stands.named

      pub refused_right : (e : Refusal) → WalkGives (walked file t room S (units_at out n)) room (Err e) pieces entries offsets
          → Answers (link_order (linked file t S) (size / 8)) (Err (Refused e))
      refused_right e g = refused_answers n order_whole (link_order (linked file t S) (size / 8)) ends order_said order_read e g

      pub made_right : (made : Counts) → WalkGives (walked file t room S (units_at out n)) room (Ok made) pieces entries offsets
          → Answers (link_order (linked file t S) (size / 8)) (Ok (record { names = names; used = used; splits = splits; units = n; made = made }))
      made_right made g = made_answers n order_whole (link_order (linked file t S) (size / 8)) ends order_said order_read made g

-- ---- after the stages before
module _ (file : List ℕ) (t : Loaded) (room : Counts) (table : Columns) (names used splits : ℕ) (out pieces entries offsets : List ℕ) (units : ℕ) (e : Answer) where
  -- what an answer is to be
  abbrev pub RightAfter : Result Ran Unlinked → Type 0
  RightAfter r =
      ((base : List (List ℕ)) → (c : Beside)
      → ran_in c table out pieces entries offsets r ≡ walked_after file t units room (length base) (entering.meant base (added c names) (rows table splits) e))
      × Keeps names used splits room out r

  pub refused_before : {r : Refusal} → e ≡ Err r → RightAfter (Err (Refused r))
  refused_before {r} q =
      ((λ base c. sym (bind_stops _ _ r.number r.section r.address (ap (entering.meant base (added c names) (rows table splits)) q))), tt)

  pub entered_before : {r : Result Ran Unlinked} → e ≡ Ok tt
      → Answers file t room table names used splits out pieces entries offsets (link_order (linked file t (rows table splits)) units) r → RightAfter r
  entered_before {r} q a = (
    λ base c.
        ordered file t room table names used splits out pieces entries offsets units a c
        ∙ ap (λ (l : List (List ℕ)). ordered_and_walked file t units room l (rows table splits)) (sym (drop-append_seam base (added c names)))
        ∙ sym (bind_goes (entering.meant base (added c names) (rows table splits) e) _ _ (ap (entering.meant base (added c names) (rows table splits)) q)),
    a.keeps,
  )
