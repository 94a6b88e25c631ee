-- Lines that are answered with themselves, and a client that waits for its replies.
use Rattle.std.specs.Prelude.{◌≡◌, ℕ, List, [], ◌∷◌, ◌++◌, codes}
use Rattle.lq_script_lines.specs.Lines.{Rules, ended_lines, replies_to}

-- each line is answered with itself
abbrev pub echo_rules : Rules ℕ
echo_rules = record { reply = λ _ line. line ++ 10 ∷ []; after = λ _ _. 0; long = [] }

-- the text that the client sends
abbrev pub script_text : List ℕ
script_text = codes "ab\ncd\ne\n"

-- of that text this is left, and the replies to the rest are written, and no more
abbrev pub HasReplies : (left written : List ℕ) → Type 0
HasReplies left written = (sent : List ℕ) × ((script_text ≡ sent ++ left)
    × (written ≡ replies_to echo_rules 0 (ended_lines sent)))
