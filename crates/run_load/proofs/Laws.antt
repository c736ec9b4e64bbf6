-- What the loader's answer gives to the places and the order: an accepted file is usable, and its parts of the column are the sections and the symbols.
-- Assumes nothing.
use Prim.Native.Nat.{ℕ, ◌+◌, ◌≤◌, ◌<◌}
use mathlib.Core.Path.{◌≡◌, refl, sym, ap, subst, ◌∙◌}
use mathlib.Core.List.{List}
use native.Mathlib.Omega.{arith}
use lib.ListN.{length, get_or, take, drop, length-take}
use Rattle.lists.specs.Outcome.{Outcome}
use Rattle.std.specs.Prelude.{Result, Ok}
use Rattle.obj.specs.declared.Refusal.{Refusal}
use Rattle.tables.specs.declared.Counts.{Counts, Counts as Ceilings}
use Rattle.tables.specs.Tables.{main_ceilings}
use Rattle.load.specs.Load.{Loaded, load_of}
use Rattle.load.specs.Columns.{part, tables_in, loaded_as, Room, Ready, Loads}
use Rattle.load.proofs.Turns.{ok_same}
use Rattle.loaded.specs.Tables.{byte_places, Usable}
use Rattle.loaded.proofs.Bytes.{loaded_usable}
use Rattle.loaded.proofs.Laws.{few_symbols, places_small, symbols_whole, order_room}
use Rattle.symbol_order.specs.Order as orders
use Rattle.run_load.specs.Prepared.{Ordered, Prepares}
use Rattle.run_load.specs.declared.Prepared.{Prepared}

-- the ceilings are the main ones, however they were made
pub main_room : {c : Ceilings} {places lengths heads chain : List ℕ} → c ≡ main_ceilings → Room main_ceilings places lengths heads chain → Room c places lengths heads chain
main_room {c} {places} {lengths} {heads} {chain} e r = subst (λ (x : Ceilings). Room x places lengths heads chain) (sym e) r

pub main_loads : {c : Ceilings} (file : List ℕ) {r : Result Counts Refusal} {places lengths heads chain : List ℕ} → c ≡ main_ceilings → Loads c file (load_of c file) r places lengths heads chain
    → Loads main_ceilings file (load_of main_ceilings file) r places lengths heads chain
main_loads file {r} {places} {lengths} {heads} {chain} e l = subst (λ (x : Ceilings). Loads x file (load_of x file) r places lengths heads chain) e l

module _ (file : List ℕ) (r : Result Counts Refusal) (n : Counts) (places lengths heads chain : List ℕ) (l : Loads main_ceilings file (load_of main_ceilings file) r places lengths heads chain)
    (told : r ≡ Ok n) where
  abbrev loaded : Loaded
  loaded = tables_in n places lengths

  usable : Usable file loaded
  usable = loaded_usable file loaded (sym l.means ∙ ap (λ (a : Result Counts Refusal). loaded_as a places lengths) told)

  few_sections : n.sections ≤ 64
  few_sections = let t = (l.ready n told).tabled in omega (arith, t.few.sections, t.allowed.sections)

  few_counted : n.symbols ≤ 4096
  few_counted = let t = (l.ready n told).tabled in omega (arith, t.few.symbols, t.allowed.symbols)

  pub sections_inside : 0 + n.sections ≤ length places
  sections_inside = omega (arith, few_sections, (l.ready n told).tabled.long_places)

  sections_counted : length (part 0 n.sections places) ≤ n.sections
  unfolding part
  sections_counted = omega (arith, length-take n.sections (drop 0 places))

  sections_are : part 0 n.sections places ≡ loaded.sections
  unfolding tables_in
  sections_are = refl

  pub images_room : (images : List ℕ) → 64 ≤ length images → length (part 0 n.sections places) ≤ length images
  images_room images h = omega (arith, h, few_sections, sections_counted)

  pub images_small : (k : ℕ) → k < length (part 0 n.sections places) → get_or (part 0 n.sections places) k 0 + 15 ≤ 65536
  images_small = subst (λ (s : List ℕ). (k : ℕ) → k < length s → get_or s k 0 + 15 ≤ 65536) (sym sections_are) (places_small usable)

  pub symbols_inside : 64 + n.symbols ≤ length places
  symbols_inside = omega (arith, few_counted, (l.ready n told).tabled.long_places)

  symbols_are : part 64 n.symbols places ≡ loaded.symbols
  unfolding tables_in
  symbols_are = refl

  pub symbols_room : (order scratch : List ℕ) → 4096 ≤ length order → 4096 ≤ length scratch
      → orders.Room (part 64 n.symbols places) order scratch × orders.Whole file (part 64 n.symbols places)
  symbols_room order scratch h k =
      subst (λ (s : List ℕ). orders.Room s order scratch × orders.Whole file s) (sym symbols_are) (order_room usable order scratch h k, symbols_whole usable)

  pub all_ordered : (images order : List ℕ) (k : ℕ)
      → take (length (part 0 n.sections places)) images ≡ byte_places (part 0 n.sections places)
      → orders.Leads order (orders.order_of (orders.symbol_of file (part 64 n.symbols places)) (length (part 64 n.symbols places))) (part 64 n.symbols places) k
      → 4096 ≤ length order → Ordered file loaded images order k
  all_ordered images order k a b h =
      let q = subst (λ (s : List ℕ). orders.Leads order (orders.order_of (orders.symbol_of file s) (length s)) s k) symbols_are b in
      record {
        images_are = subst (λ (s : List ℕ). take (length s) images ≡ byte_places s) sections_are a;
        order_is = q.is;
        small = omega (arith, q.small, few_symbols usable, h);
      }

-- the file is loaded, and its places and its order are there
pub all_prepared : (file : List ℕ) {o : Outcome Loaded} (r : Result Counts Refusal) (p : Prepared) (places lengths heads chain : List ℕ) → Loads main_ceilings file o r places lengths heads chain
    → r ≡ Ok p.counts → (images order : List ℕ) → Ordered file (tables_in p.counts places lengths) images order p.ordered
    → Prepares file o (Ok p) places lengths heads chain images order
all_prepared file r p places lengths heads chain l told images order d = record {
  means = sym (ap (λ (a : Result Counts Refusal). loaded_as a places lengths) told) ∙ l.means;
  ready = λ q e. subst (λ (x : Prepared). Ready main_ceilings file x.counts places lengths heads chain) (ok_same e) (l.ready p.counts told);
  done = λ q e. subst (λ (x : Prepared). Ordered file (tables_in x.counts places lengths) images order x.ordered) (ok_same e) d;
}
