-- `number_names::find_name` meets its contract: what the closure answers of name k is whether the name that lies there is x. Assumes nothing.
use Rattle.std.proofs.Common.{rules}
use Rattle.number_names.specs.Tables.{listed}
use Rattle.number_names.proofs.Laws.{known_lies, known_there}
use Rattle.number_names.proofs.find_name.Goals as goal

pub find_by-requires : goal.find_by-requires
find_by-requires c =
    let known = c.args.names.now.known in (
      listed c.args.names.now,
      record { index = known.index; asked = λ k h. search (rules, known_lies known k h); tells = λ k r h e. search (rules, e, known_there known k h) },
    )

pub returns : goal.returns
returns c =
    let known = c.args.names.now.known in
    c.find_by.ensures (listed c.args.names.now)
    (record { index = known.index; asked = λ k h. search (rules, known_lies known k h); tells = λ k r h e. search (rules, e, known_there known k h) })
