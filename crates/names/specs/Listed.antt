-- Names in columns of which all are names: the definitions of `Names` over the struct.
use Rattle.std.specs.Prelude.{List, ℕ, length}
use Rattle.names.specs.Names.{Named, names_of}
use Rattle.names.specs.declared.Names.{Names}

abbrev pub names_in : Names → List (List ℕ)
names_in n = names_of n.bytes.now n.places.now n.lengths.now (length n.places.now)

abbrev pub NamedIn : Names → Type 0
NamedIn n = Named n.bytes.now n.places.now n.lengths.now (length n.places.now)
