use Rattle.std.proofs.Common.{◌≡◌, drop}
use Rattle.lq_value.specs.NameHash.{hash_of, hash_after}
use Rattle.lq_value.proofs.name.hash_of_bytes.Given as goal

-- the hash so far, with the bytes that are left behind it
abbrev pub invariant-loop-byte : goal.invariant-loop-byte
invariant-loop-byte l = record {
  hash : hash_after l.hash (drop l.byte-index l.bytes) ≡ hash_of l.bytes;
}
