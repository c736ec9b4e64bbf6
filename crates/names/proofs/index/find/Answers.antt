-- `names::index::find` meets its contract: what the closure answers of name k is whether the name that lies there is x. Assumes nothing.
use Rattle.std.proofs.Common.{rules}
use Rattle.names.specs.Names.{names_of}
use Rattle.names.proofs.Laws.{name_there, named_number, named_lies}
use Rattle.names.proofs.index.find.Goals as goal

pub find_by-requires : goal.find_by-requires
find_by-requires c =
    let t = c.args.names.now in (
      names_of t.bytes.now t.places.now t.lengths.now c.args.n,
      record {
        index = c.requires.1;
        asked = λ k h. search (rules, named_lies c.requires.0 k h);
        tells = λ k r h e. search (rules, e, name_there t.bytes.now t.places.now t.lengths.now c.args.n k (named_number c.requires.0 k h));
      },
    )

pub returns : goal.returns
returns c =
    let t = c.args.names.now in
    c.find_by.ensures (names_of t.bytes.now t.places.now t.lengths.now c.args.n)
    (record {
      index = c.requires.1;
      asked = λ k h. search (rules, named_lies c.requires.0 k h);
      tells = λ k r h e. search (rules, e, name_there t.bytes.now t.places.now t.lengths.now c.args.n k (named_number c.requires.0 k h));
    })
