-- The hash of a node. No answer shows it: it only decides where the map of records looks.
use Rattle.std.specs.Prelude.{ℕ, List, ◌+◌, ◌*◌, ◌/◌, ◌%◌, ◌^◌, ◌==◌, length, bit_xor, if◌then◌else◌}
use Rattle.std.specs.Int.{w64, from_le_bytes}
use Rattle.lq_volume_entries.specs.declared.node_hash.NodeHasher.{NodeHasher}

-- the number whose eight bytes these are, the lowest first
abbrev pub hashed_number : List ℕ → ℕ
hashed_number bytes = if length bytes == 8 then from_le_bytes w64 bytes else 0

-- a number that differs for most nodes: for 64 k to 64 k + 63 one of sixteen numbers in a row, in
-- which four nodes differ by two bits far above
abbrev pub node_hash : ℕ → ℕ
node_hash node = bit_xor
    (node / 64 * 0x9e37_79b9_7f4a_7c15 % 2 ^ 64 / 2 ^ 32 + node / 4 % 16) (node % 4 * 2 ^ 30)

-- the hasher after it was given a node's bytes
abbrev pub hashed : NodeHasher → List ℕ → NodeHasher
hashed hasher bytes = record { hash = node_hash (hashed_number bytes) }
