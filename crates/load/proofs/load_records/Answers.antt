-- A record is refused, or kept and the pass goes on behind it.
use Rattle.std.proofs.Common.{ℕ, List, ◌≡◌, ◌∙◌, ◌+◌, refl, sym, ap, subst, arith, rules}
use Rattle.std.specs.Prelude.{Result, Err}
use Rattle.obj.proofs.Errors.{is_err}
use Rattle.fields.specs.Fields.{le16, le32}
use Rattle.tables.specs.declared.Counts.{Counts, Counts as Ceilings}
use Rattle.load.specs.declared.kind.Kind.{Kind}
use Rattle.load.specs.Kinds.{code_of, Decided}
use Rattle.load.specs.Load.{record_number, with_record}
use Rattle.load.specs.Columns.{tables_in}
use Rattle.load.specs.Reading.{loaded_in}
use Rattle.load.proofs.Numbers.{record_passed}
use Rattle.load.proofs.Turns.{Going, starts, whole_same, fault_of, passed_of, going_stops, going_on, going_ends, loads_refused, loads_accepted}
use Rattle.load.proofs.Deciding.{readable, same_columns, same_after}
use Rattle.load.proofs.load_records.Goals as goal
use Rattle.load.proofs.load_records.Goals.{After-record_number, In_ok-kind}

-- the decision, over the columns themselves
numbered : {file file' places places' lengths lengths' : List ℕ} {c c' : Ceilings} {n n' : Counts} (at : ℕ) (r : Result Kind ℕ) → file' ≡ file → c' ≡ c → n' ≡ n → places' ≡ places → lengths' ≡ lengths
    → Decided (record_number c' file' at (tables_in n' places' lengths')) (le16 file' (at + 4)) r → Decided (record_number c file at (tables_in n places lengths)) (le16 file (at + 4)) r
numbered at r ef ec en ep el d = subst (λ (t : Type 0). t) (λ z. Decided (record_number (ec z) (ef z) at (tables_in (en z) (ep z) (el z))) (le16 (ef z) (at + 4)) r) d

decided : (c : After-record_number)
    → Decided (record_number c.loop-at.columns.most c.loop-at.columns.file.now c.loop-at.at (loaded_in c.loop-at.columns)) (le16 c.loop-at.columns.file.now (c.loop-at.at + 4)) c.record_number.result
decided c = let v = c.so_far.ensures in numbered c.loop-at.at c.record_number.result v.0 v.1 v.2 v.3 v.4 c.record_number.ensures

passed : (c : In_ok-kind)
    → (record_number c.loop-at.columns.most c.loop-at.columns.file.now c.loop-at.at (loaded_in c.loop-at.columns) ≡ 0)
    × (code_of c.in_ok-kind.kind ≡ le16 c.loop-at.columns.file.now (c.loop-at.at + 4))
passed c = passed_of c.record_number.result c.map_err.result _ c.map_err.ensures.cases (decided (goal.at.In_ok-kind c).After-record_number) c.in_ok-kind.was

pub loop-at-init : goal.loop-at-init
loop-at-init c =
    let k = c.args.columns.now in
    record { same = same_columns _; ready = c.requires.0; going = starts k.most k.file.now k.places.now k.lengths.now c.requires.1 }

pub so_far-requires : goal.so_far-requires
so_far-requires c = readable c.loop-at.invariant.ready

pub returns-in_err-kind : goal.returns-in_err-kind
returns-in_err-kind c =
    let i = c.loop-at.invariant in
    let f = fault_of _ c.record_number.result c.map_err.result c.map_err.ensures.cases (λ e d q. search rules) (decided (goal.at.returns-in_err-kind c).After-record_number) c.in_err-kind.was in
    (i.same, loads_refused _ _ _ _ _ _ _ c.loop-at.r (is_err _ c.from_residual.ensures.1 ∙ ap Err f.1) (going_stops i.going c.loop-at-test.true refl f.0 ∙ whole_same i.same))

pub keep_record-requires : goal.keep_record-requires
keep_record-requires c = let p = passed (goal.at.keep_record-requires c).In_ok-kind in (c.loop-at.invariant.ready, p.0, p.1)

pub next_at-at-requires : goal.next_at-at-requires
next_at-at-requires c =
    let p = passed (goal.at.next_at-at-requires c).In_ok-kind in
    let whole = record_passed _ _ _ _ p.0 in
    rw c.keep_record.ensures.0.file (whole.head, whole.whole)

pub overflow_add-r : goal.overflow_add-r
overflow_add-r c = let i = c.loop-at.invariant in omega (arith, i.going.early, i.going.within, i.ready.tabled.small)

pub loop-at-preserved : goal.loop-at-preserved
loop-at-preserved c =
    let k = c.keep_record.ensures in
    let old = c.loop-at.columns in
    let at = c.loop-at.at in
    let p = passed (goal.at.loop-at-preserved c).In_ok-kind in
    record {
      same = same_after k.0 c.loop-at.invariant.same;
      ready = k.1.ready;
      going = subst (λ (t : Type 0). t) (λ z. Going (sym k.0.most z) (sym k.0.file z) c.next_at-at.result (c.loop-at.r + 1) (loaded_in c.keep_record.new.columns))
          (going_on c.loop-at.invariant.going c.loop-at-test.true p.0 (c.next_at-at.ensures ∙ ap (λ (f : List ℕ). at + 6 + le32 f at) k.0.file)
          (k.1.tables ∙ (λ z. with_record (k.0.most z) (k.0.file z) (at + 6) (le32 old.file.now at) (loaded_in old) (le16 old.file.now (at + 4)))));
    }

pub returns : goal.returns
returns c =
    let i = c.loop-at.invariant in (i.same, loads_accepted _ _ _ _ _ _ c.loop-at.columns.counts i.ready (going_ends i.going c.loop-at-test.false ∙ whole_same i.same))
