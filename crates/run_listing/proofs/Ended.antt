-- A run that ended with a result: each stage before was accepted, and the result's parts are what the stages gave. The chain is undone stage by stage.
-- Assumes nothing.
use Prim.Native.Nat.{ℕ}
use mathlib.Core.Path.{◌≡◌, sym, ap, ◌∙◌}
use mathlib.Core.List.{List}
use native.Mathlib.Omega.{arith}
use lib.ListN.{length, drop}
use Rattle.lists.specs.Outcome.{accepted}
use Rattle.lists.proofs.Outcomes.{bind_inv, same_accepted}
use Rattle.obj.specs.declared.Unit as units
use Rattle.load.specs.Load.{Loaded, names_in}
use Rattle.gap_splits.specs.Entering.{Filled}
use Rattle.order.specs.LinkOrder.{link_order}
use Rattle.toposort.specs.Search.{End, all, cyclic, lost}
use Rattle.run_splits.specs.Table.{split_table}
use Rattle.run.specs.Run.{Rooms, Result, done, cycle, linked, units_of, walked, on_order, ordered_and_walked, stages}

same_done : {a b : Result} → done a ≡ done b → a ≡ b
same_done e = cc

not_done : {l : List units.Unit} {r : Result} → cycle l ≡ done r → ⊥
not_done e = let z : ◌≡◌ {A = ℕ} 0 1 = cc in omega arith

-- what the stages gave on the way to the result r
pub record Finished (file : List ℕ) (t : Loaded) (room : Rooms) (r : Result) : Type 0 where
  pub full : Filled
  pub tabled : split_table file t room.splits room.names ≡ accepted full
  pub nodes : List ℕ
  pub ordered : link_order (linked file t full.rows) room.units ≡ accepted (all nodes)
  pub walks : walked file t room.output full.rows (units_of file t full.rows nodes) ≡ accepted r.output
  pub added : r.added ≡ drop (length (names_in file t)) full.names
  pub splits : r.splits ≡ full.rows
  pub units : r.units ≡ units_of file t full.rows nodes

module _ (file : List ℕ) (t : Loaded) (room : Rooms) (r : Result) where
  order_inv : (full : Filled) → split_table file t room.splits room.names ≡ accepted full → (e : End) → link_order (linked file t full.rows) room.units ≡ accepted e
      → on_order file t room.output (drop (length (names_in file t)) full.names) full.rows e ≡ accepted (done r) → Finished file t room r
  unfolding on_order
  order_inv full p (all l) q e =
      let a = bind_inv _ _ _ e in
      let same = same_done (same_accepted a.2) in
      record {
        full = full;
        tabled = p;
        nodes = l;
        ordered = q;
        walks = a.1 ∙ ap (λ (x : Result). accepted x.output) same;
        added = sym (ap (λ (x : Result). x.added) same);
        splits = sym (ap (λ (x : Result). x.splits) same);
        units = sym (ap (λ (x : Result). x.units) same);
      }
  order_inv full p (cyclic l) q e = absurd (not_done (same_accepted e))
  order_inv full p lost q e = absurd (not_done (same_accepted e))

  -- THEOREM: a run that ended with a result went through all stages
  pub finished : stages file t room ≡ accepted (done r) → Finished file t room r
  unfolding stages ordered_and_walked
  finished e =
      let a = bind_inv _ _ _ e in
      let b = bind_inv _ _ _ a.2 in
      order_inv a.0 a.1 b.0 b.1 b.2
