-- What a line asks.
use Rattle.std.proofs.Common.{◌≡◌, ◌∙◌, ℕ, Bool, false, List, [], ◌∷◌, length, nat_eq, nat_lt, true≢false, ap, sym, if◌then◌else◌}
use Rattle.std.specs.Result.{result_ok}
use Rattle.lq_script_lines.specs.Lines.{given_line, line_of, long, without_cr}
use Rattle.lq_script_request.specs.Request.{request_in}
use Rattle.lq_script_desk.specs.History.{request_of}

-- a line that isn't too long, or empty without its CR, asks what its bytes without that ask
pub line-asks : (line bytes : List ℕ) → nat_lt 65536 (length line) ≡ false
    → bytes ≡ without_cr line → nat_eq (length bytes) 0 ≡ false
    → result_ok (request_in bytes) ≡ request_of (line_of line)
line-asks line [] short same some = absurd (true≢false some)
line-asks line (b ∷ bytes) short same some =
    ap request_of (ap given_line same
    ∙ sym (ap (λ (is : Bool). if is then long else given_line (without_cr line)) short))
