-- From the sort's answer and table to the entry's word, node table and counts: what each answer leaves, and the outputs after clearing.
-- Assumes nothing.
use Prim.Native.Nat.{ℕ, ◌+◌, ◌*◌, ◌/◌, ◌%◌, ◌≤◌, ◌<◌}
use mathlib.Core.Path.{◌≡◌, refl, sym, ap, subst, ◌∙◌}
use mathlib.Core.Bool.{Bool, true, false}
use mathlib.Core.List.{List, [], ◌∷◌, ◌++◌}
use native.Mathlib.Nat.{add-zero}
use native.Mathlib.Omega.{arith}
use borrow.Author.Tests.{lt-ltb, le-ltb, eq-eqb, ne_eqb}
use lib.Dec.{ltb}
use lib.ListN.{length, take, length-append}
use lib.Seq.{sets, length-take-le, take-append-le}
use Rattle.lists.specs.Rows.{clear_from, tabulate}
use Rattle.lists.proofs.Outcomes.{fails, passes}
use Rattle.lists.proofs.Binds.{after_goes, after-stops}
use Rattle.fields.specs.Fields.{le16}
use Rattle.lists.specs.Outcome.{Outcome, accepted, refused, refuse, ◌>>◌}
use Rattle.obj.specs.Answers.{word, refusal_word, place, meaning as obj_meaning}
use Rattle.obj.specs.declared.Refusal.{Refusal}
use Rattle.std.specs.Prelude.{Result, Ok, Err, MatchResult}
use Rattle.tables.specs.Tables.{size_check}
use Rattle.tables.proofs.Laws.{size_passed}
use Rattle.outputs.specs.Outputs.{halves, counts_of}
use Rattle.outputs.specs.Room.{room_for}
use Rattle.outputs.proofs.Laws.{length-halves, laid-after}
use Rattle.outputs.proofs.Room.{room_low, room_fits, room_same}
use Rattle.toposort.specs.Search.{Graph, End}
use Rattle.toposort.specs.Sorting.{sort_of, meaning, kept, Sorts, answer_of, nodes_left}
use Rattle.toposort.specs.declared.Unsorted.{Unsorted}
use Rattle.toposort.specs.declared.Unsorted.TheVariants.{Cycle, NoNode, Short}
use Rattle.entry_toposort.specs.Entry.{starts_of, goals_of, graph_of, toposort_of, word_of, Checked, Ends, Leaves}

-- what an answer leaves is what its outcome says
said : (r : Result ℕ Unsorted) (t : List ℕ) (o : Outcome End) → meaning r t ≡ o → word (answer_of r) ≡ word_of o
said (Ok n) t o e = ap word_of e
said (Err (Cycle k)) t o e = ap word_of e
said (Err (NoNode i)) t o e = ap word_of e
said (Err Short) t o e = ap word_of e

left : (r : Result ℕ Unsorted) (t : List ℕ) (o : Outcome End) → meaning r t ≡ o → take (kept r) t ≡ nodes_left o
left (Ok n) t o e = ap nodes_left e
left (Err (Cycle k)) t o e = ap nodes_left e
left (Err (NoNode i)) t o e = ap nodes_left e
left (Err Short) t o e = ap nodes_left e

-- a table of more bytes than 1,024 nodes take is as good as one of 1,024
same_room : (g : Graph) (size room : ℕ) → g.count ≤ 1024 → room ≡ room_for 1024 2 size → sort_of g room ≡ sort_of g (size / 2)
unfolding sort_of
same_room g size room h w = rw (w, room_same 1024 2 size h)

-- the front of a table whose first part was lent and comes back as `part`
module _ (part rest : List ℕ) (room m : ℕ) (long : length part ≡ room) (h : m ≤ room) where
  front_there : m ≤ length (part ++ rest)
  front_there = simp length-append (omega arith)

  front_long : length (take m (part ++ rest)) ≡ m
  front_long = length-take-le m (part ++ rest) front_there

  front_is : take m (part ++ rest) ≡ take m part
  front_is = take-append-le m part rest (omega arith)

-- before the clearing: the sort's answer, and its nodes at the front
pub sorted_ends : (g : Graph) (size room : ℕ) (r : Result ℕ Unsorted) (part rest before after : List ℕ) (k : ℕ)
    → g.count ≤ 1024 → room ≡ room_for 1024 2 size → length before ≡ size → Sorts (sort_of g room) room r part → k ≡ kept r
    → after ≡ sets before 0 (halves (take k (part ++ rest))) → Ends (sort_of g (size / 2)) r before after
sorted_ends g size room r part rest before after k few w long s e f =
    let means : meaning r part ≡ sort_of g (size / 2) = s.means ∙ same_room g size room few w in
    let nodes : take k (part ++ rest) ≡ nodes_left (sort_of g (size / 2)) =
    front_is part rest room k s.long (omega (arith, s.room)) ∙ ap (λ (i : ℕ). take i part) e ∙ left r part _ means in
    record {
      said = said r part _ means;
      counted = sym e ∙ sym (front_long part rest room k s.long (omega (arith, s.room))) ∙ ap length nodes;
      front = f ∙ ap (λ (l : List ℕ). sets before 0 (halves l)) nodes;
      room = omega (arith, s.room, w, room_fits 1024 2 size);
      few = omega (arith, s.room, w, room_low 1024 2 size);
      small = s.small;
    }

-- the same outcome, said otherwise
pub ends_as : {o p : Outcome End} {r : Result ℕ Unsorted} {before after : List ℕ} → o ≡ p → Ends o r before after → Ends p r before after
ends_as {o} {p} {r} {before} {after} e w = subst (λ (x : Outcome End). Ends x r before after) e w

pub ends_of : {g h : Graph} {r : Result ℕ Unsorted} {before after : List ℕ} (room : ℕ) → g ≡ h → Ends (sort_of g room) r before after
    → Ends (sort_of h room) r before after
ends_of room e w = ends_as (ap (λ (x : Graph). sort_of x room) e) w

-- the outputs after the clearing
pub leaves : (o : Outcome End) (r : Result ℕ Unsorted) (k : ℕ) (before after counts : List ℕ) (answer : ℕ) (out counted : List ℕ) → Ends o r before after
    → k ≡ kept r → answer ≡ word (answer_of r) → out ≡ clear_from 0 (2 * k) after → counted ≡ counts_of (length counts) (k ∷ [])
    → Leaves o (length before) (length counts) answer out counted
leaves o r k before after counts answer out counted w is a b c =
    let long : 2 * k ≡ length (halves (nodes_left o)) = omega (arith, length-halves (nodes_left o), w.counted) in
    record {
      said = a ∙ w.said;
      nodes =
          b ∙ ap (clear_from 0 (2 * k)) w.front
          ∙ laid-after before (halves (nodes_left o)) (2 * k) long (omega (arith, w.room));
      counted = c ∙ ap (λ (n : ℕ). counts_of (length counts) (n ∷ [])) (is ∙ w.counted);
    }

-- the outputs after a refusal: nothing is left
pub refused_leaves : (o : Outcome End) (number section address : ℕ) (before counts : List ℕ) (out counted : List ℕ) → o ≡ refused number section address
    → out ≡ clear_from 0 0 before → counted ≡ counts_of (length counts) (0 ∷ [])
    → Leaves o (length before) (length counts) (refusal_word number section address) out counted
unfolding halves
refused_leaves o number section address before counts out counted e b c =
    rw e (record { said = refl; nodes = b ∙ laid-after before [] 0 refl (omega arith); counted = c })

-- ---- the edge table in columns

pub graph_made : (n : ℕ) (edges : List ℕ) {from to : List ℕ} {k m : ℕ} → k ≡ length edges / 4 → m ≡ length edges / 4
    → from ≡ tabulate (λ i. le16 edges (4 * i + 0)) 0 k → to ≡ tabulate (λ i. le16 edges (4 * i + 2)) 0 m → record { count = n; from = from; to = to } ≡ graph_of n edges
unfolding starts_of goals_of
graph_made n edges long same e q =
    let at_start : tabulate (λ i. le16 edges (4 * i + 0)) 0 (length edges / 4) ≡ tabulate (λ i. le16 edges (4 * i)) 0 (length edges / 4) =
    λ z. tabulate (λ i. le16 edges (add-zero (4 * i) z)) 0 (length edges / 4) in
    let from_is = e ∙ ap (tabulate (λ i. le16 edges (4 * i + 0)) 0) long ∙ at_start in
    let to_is = q ∙ ap (tabulate (λ i. le16 edges (4 * i + 2)) 0) same in
    λ z. record { count = n; from = from_is z; to = to_is z }

-- ---- the checks in order

-- two tests and then the rest are both tests as one check before it
two_first : {B : Type 0} (a b c d e f : ℕ) (t u : Bool) (m : Outcome B)
    → ((refuse a b c t >> (refuse d e f u >> accepted tt)) >> m) ≡ (refuse a b c t >> (refuse d e f u >> m))
unfolding refuse ◌>>◌
two_first a b c d e f true u m = refl
two_first a b c d e f false true m = refl
two_first a b c d e f false false m = refl

module _ (nodes : ℕ) (edges : List ℕ) (size : ℕ) where
  pub many_nodes : 1024 < nodes → toposort_of nodes edges size ≡ refused 2 0 1024
  unfolding toposort_of
  many_nodes h = fails 2 0 1024 _ _ (lt-ltb _ _ h)

  module _ (few : nodes ≤ 1024) where
    pub cut_edges : (length edges % 4 ≡ 0 → ⊥) → toposort_of nodes edges size ≡ refused 1 0 (place (length edges / 4))
    unfolding toposort_of
    cut_edges h = passes 2 0 1024 _ _ (le-ltb _ _ few) ∙ fails 1 0 (place (length edges / 4)) _ _ (rw (ne_eqb _ _ h))

    module _ (whole : length edges % 4 ≡ 0) where
      first_two : toposort_of nodes edges size ≡ (refuse 2 0 2048 (ltb 2048 (length edges / 4)) >> sort_of (graph_of nodes edges) (size / 2))
      unfolding toposort_of
      first_two = passes 2 0 1024 _ _ (le-ltb _ _ few) ∙ passes 1 0 (place (length edges / 4)) _ _ (rw (eq-eqb _ _ whole))

      pub many_edges : 2048 < length edges / 4 → toposort_of nodes edges size ≡ refused 2 0 2048
      many_edges h = first_two ∙ fails 2 0 2048 _ _ (lt-ltb _ _ h)

      pub table_sorted : length edges / 4 ≤ 2048 → toposort_of nodes edges size ≡ sort_of (graph_of nodes edges) (size / 2)
      table_sorted h = first_two ∙ passes 2 0 2048 _ _ (le-ltb _ _ h)

-- the edge table is checked as every table of records
module _ (nodes : ℕ) (edges : List ℕ) (few : nodes ≤ 1024) where
  size_first : (size : ℕ) → toposort_of nodes edges size ≡ (size_check 4 2048 (length edges) >> sort_of (graph_of nodes edges) (size / 2))
  unfolding toposort_of size_check
  size_first size = passes 2 0 1024 _ _ (le-ltb _ _ few) ∙ sym (two_first 1 0 (place (length edges / 4)) 2 0 2048 _ _ _)

  pub checked : (r : Result (Unit {0}) Refusal) → obj_meaning r ≡ size_check 4 2048 (length edges)
      → MatchResult r (λ _. Checked nodes edges) (λ q. (size : ℕ) → toposort_of nodes edges size ≡ refused q.number q.section q.address)
  checked (Ok u) e =
      record {
        few_nodes = few;
        few_edges = (size_passed 4 2048 (length edges) (sym e)).1;
        sorted = λ size. size_first size ∙ after_goes _ _ (sym e);
      }
  checked (Err q) e = λ size. size_first size ∙ after-stops _ _ q.number q.section q.address (sym e)
