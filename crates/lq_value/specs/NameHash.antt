-- The hash of a name. No answer shows it: it only decides which names a search compares.
use Rattle.std.specs.Prelude.{ℕ, List, [], ◌∷◌, ◌+◌, ◌*◌, ◌%◌, ◌^◌}

-- the hash of a text whose prefix has this hash and whose other bytes are these
unfoldable pub hash_after : ℕ → List ℕ → ℕ
hash_after hash [] = hash
hash_after hash (b ∷ bs) = hash_after (hash % 2 ^ 55 * 257 + b) bs

-- a number below 2^64 that differs for most texts
unfoldable pub hash_of : List ℕ → ℕ
hash_of bytes = hash_after 0 bytes
