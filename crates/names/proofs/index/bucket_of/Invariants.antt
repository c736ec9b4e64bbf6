-- Mixing the bytes that are left into the hash so far is mixing all of them.
use Rattle.std.proofs.Common.{◌≡◌, ◌<◌, drop}
use Rattle.names.specs.Index.{hash_from}
use Rattle.names.proofs.index.bucket_of.Given as goal

abbrev pub invariant-loop-byte : goal.invariant-loop-byte
invariant-loop-byte l = record {
  small : l.hash < 4294967296;
  rest : hash_from l.hash (drop l.byte-index l.name) ≡ hash_from 2166136261 l.name;
}
