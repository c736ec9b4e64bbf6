-- `load::record_number` meets its contract: head and payload lie in the file, then the number by kind.
-- Assumes nothing.
use Rattle.std.proofs.Common.{◌≡◌, ◌+◌, ◌∙◌, sym, arith}
use Rattle.frames.proofs.Laws.{not_cut}
use Rattle.obj.proofs.Errors.{is_err}
use Rattle.load.specs.Kinds.{code_of}
use Rattle.load.specs.Load.{Loaded, kind_number, record_number}
use Rattle.load.specs.Columns.{tables_in}
use Rattle.load.specs.declared.reading.SoFar.{SoFar}
use Rattle.load.proofs.Deciding.{file_cut, file_whole}
use Rattle.load.proofs.Codes.{kind_unknown}
use Rattle.load.proofs.Turns.{fault_is, none_is}
use Rattle.load.proofs.record_number.Goals as goal
use Rattle.load.proofs.record_number.Goals.{In_ok-kind}

abbrev tables : SoFar → Loaded
tables b = tables_in b.counts b.places.now b.lengths.now

-- the number by its kind
whole : (c : In_ok-kind) → kind_number c.args.before.now.most c.args.before.now.file.now (c.args.at + 6) c.get-len.result (tables c.args.before.now) (code_of c.in_ok-kind.kind)
    ≡ record_number c.args.before.now.most c.args.before.now.file.now c.args.at (tables c.args.before.now)
whole c =
    let b = c.args.before.now in
    file_whole b.most b.file.now c.args.at (tables b) (sym c.is_cut.ensures ∙ c.if-is_cut.false) c.get-len.ensures (c.in_ok-kind.ensures ∙ c.get.ensures)

pub returns-then-is_cut : goal.returns-then-is_cut
returns-then-is_cut c =
    let b = c.args.before.now in
    let q = file_cut b.most b.file.now c.args.at (tables b) (sym c.is_cut.ensures ∙ c.if-is_cut.true) in
    (q, omega (arith, q))

pub get-len-requires : goal.get-len-requires
get-len-requires c = let w = not_cut _ _ (sym c.is_cut.ensures ∙ c.if-is_cut.false) in omega (arith, w.0)

pub get-requires : goal.get-requires
get-requires c = let w = not_cut _ _ (sym c.is_cut.ensures ∙ c.if-is_cut.false) in omega (arith, w.0)

pub invariant_of-payload : goal.invariant_of-payload
invariant_of-payload c = let w = not_cut _ _ (sym c.is_cut.ensures ∙ c.if-is_cut.false) in omega (arith, w.1, c.get-len.ensures)

pub returns-in_err-kind : goal.returns-in_err-kind
returns-in_err-kind c =
    let b = c.args.before.now in
    let e = c.in_err-kind.ensures in
    let q : c.in_err-kind.field-0.0 ≡ record_number b.most b.file.now c.args.at (tables b) =
    e.0
    ∙ kind_unknown b.most b.file.now (c.args.at + 6) c.get-len.result (tables b) c.get.result e.1
    ∙ file_whole b.most b.file.now c.args.at (tables b) (sym c.is_cut.ensures ∙ c.if-is_cut.false) c.get-len.ensures c.get.ensures in
    rw (is_err _ c.from_residual.ensures.1) (q, omega (arith, q, e.0))

pub returns-in_err-kind_number : goal.returns-in_err-kind_number
returns-in_err-kind_number c =
    let f = fault_is (sym c.in_err-kind_number.was ∙ c.kind_number.ensures) in
    let q = f.0 ∙ whole (goal.at.returns-in_err-kind_number c).In_ok-kind in
    rw (is_err _ c.from_residual-in_err-kind_number.ensures.1) (q, omega (arith, q, f.1))

pub returns : goal.returns
returns c =
    (sym (whole (goal.at.returns c).In_ok-kind) ∙ none_is (sym c.in_ok-kind_number.was ∙ c.kind_number.ensures), c.in_ok-kind.ensures ∙ c.get.ensures)
