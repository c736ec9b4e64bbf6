-- A loop that enters names in order, as both loops of this crate do: its first turn, a turn that enters a name, one that finds no place for it, and the end.
-- Assumes nothing.
use mathlib.Core.Path.{◌≡◌, refl, ap, ◌∙◌}
use mathlib.Core.List.{List}
use Prim.Native.Nat.{ℕ, ◌+◌}
use lib.ListN.{length, replicate}
use Rattle.lists.specs.Outcome.{Outcome, accepted, ◌>>=◌}
use Rattle.std.specs.Prelude.{Result, Ok, Err}
use Rattle.obj.specs.declared.Refusal.{Refusal}
use Rattle.number_names.specs.Numbers.{Room, enter_names}
use Rattle.number_names.specs.Tables.{room_of, SameTable, HeldBy, EnteredBy}
use Rattle.number_names.specs.declared.table.NumberedNames.{NumberedNames}
use Rattle.number_names.proofs.Laws.{going_stops, going_done, same_table, same_then}
use Rattle.elf_names.specs.Seen.{Seen, EnteredSeen, GoingSeen}
use Rattle.elf_names.proofs.Seen.{seen_none, entered_so, seen_on}

module _ (left : ℕ → List (List ℕ)) (all : List (List ℕ)) (strings : List ℕ) (first : NumberedNames) where
  -- at turn i: entering the names that are left, from those that stand there, gives what entering all gives, and the offsets that are kept have their strings among them
  pub record Entering (t : NumberedNames) (seen : List ℕ) (i : ℕ) : Type 0 where
    pub sized : length seen ≡ 64
    pub same : SameTable first t
    pub going : (held : List (List ℕ)) (ends₀ bytes₀ : List ℕ) → HeldBy held ends₀ bytes₀ first
        → GoingSeen (room_of first) left (enter_names (room_of first) held all) strings ends₀ bytes₀ t seen i

  -- what the loop gives
  abbrev pub Gives : NumberedNames → Result (Unit {0}) Refusal → Type 0
  Gives t r =
      SameTable first t
      × ((held : List (List ℕ)) (ends₀ bytes₀ : List ℕ) → HeldBy held ends₀ bytes₀ first → EnteredBy (enter_names (room_of first) held all) ends₀ bytes₀ t r)

  pub entering_first : (i : ℕ) → left i ≡ all → Entering first (replicate 64 0) i
  entering_first i e = record {
    sized = refl;
    same = same_table;
    going = λ held ends₀ bytes₀ h.
        record { going = record { names = held; held = h; same = ap (enter_names (room_of first) held) e }; right = seen_none strings held 64 };
  }

  -- what entering one name gives, where `one` says it
  abbrev pub Enters : (one : Room → List (List ℕ) → Outcome (List (List ℕ))) (t t' : NumberedNames) (seen seen' : List ℕ) → Result (Unit {0}) Refusal → Type 0
  Enters one t t' seen seen' r =
      SameTable t t'
      × ((held : List (List ℕ)) (ends₀ bytes₀ : List ℕ) → HeldBy held ends₀ bytes₀ t → Seen strings held seen → EnteredSeen (one (room_of t) held) strings ends₀ bytes₀ t' seen' r)

  -- a turn
  module _ {t : NumberedNames} {seen : List ℕ} {i : ℕ} (one : Room → List (List ℕ) → Outcome (List (List ℕ))) (s : Entering t seen i)
      (turn : (names : List (List ℕ)) → enter_names (room_of first) names (left i) ≡ (one (room_of first) names >>= λ more. enter_names (room_of first) more (left (i + 1))))
    where
      entered : (t' : NumberedNames) (seen' : List ℕ) (r : Result (Unit {0}) Refusal) → Enters one t t' seen seen' r
          → (held : List (List ℕ)) (ends₀ bytes₀ : List ℕ) (h : HeldBy held ends₀ bytes₀ first)
          → EnteredSeen (one (room_of first) (s.going held ends₀ bytes₀ h).going.names) strings ends₀ bytes₀ t' seen' r
      entered t' seen' r e held ends₀ bytes₀ h =
          let g = s.going held ends₀ bytes₀ h in
          entered_so (ap (λ (room : Room). one room g.going.names) s.same.room) (e.1 g.going.names ends₀ bytes₀ g.going.held g.right)

      pub entering_on : (t' : NumberedNames) (seen' : List ℕ) → Enters one t t' seen seen' (Ok tt) → length seen' ≡ length seen → Entering t' seen' (i + 1)
      entering_on t' seen' e long = record {
        sized = long ∙ s.sized;
        same = same_then e.0 s.same;
        going = λ held ends₀ bytes₀ h.
            let g = s.going held ends₀ bytes₀ h in
            seen_on g (turn g.going.names) (entered t' seen' (Ok tt) e held ends₀ bytes₀ h);
      }

      pub entering_stops : (t' : NumberedNames) (seen' : List ℕ) (error : Refusal) → Enters one t t' seen seen' (Err error) → Gives t' (Err error)
      entering_stops t' seen' error e = (
        same_then e.0 s.same,
        λ held ends₀ bytes₀ h.
            let g = s.going held ends₀ bytes₀ h in
            going_stops g.going (turn g.going.names) (entered t' seen' (Err error) e held ends₀ bytes₀ h).entered,
      )

  pub entering_done : {t : NumberedNames} {seen : List ℕ} {i : ℕ} → Entering t seen i
      → ((names : List (List ℕ)) → enter_names (room_of first) names (left i) ≡ accepted names) → Gives t (Ok tt)
  entering_done s none = (s.same, λ held ends₀ bytes₀ h. let g = s.going held ends₀ bytes₀ h in going_done g.going (none g.going.names))
