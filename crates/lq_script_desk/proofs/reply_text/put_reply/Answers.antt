use Rattle.std.proofs.Common.{◌≡◌, ◌++◌, [], ◌∷◌, rules}
use Rattle.serde_json.specs.Written.{compact_text}
use Rattle.lq_script_desk.specs.Answer.{response_of}
use Rattle.lq_script_desk.specs.Reply.{response_data}
use Rattle.lq_script_desk.proofs.Joining.{and_then}
use Rattle.lq_script_desk.proofs.reply_text.put_reply.Goals.{in-Refused+in_ok-put_refusal-in-Refused, in-Found+in_ok-put_found-in-Found, in-Listed+in_ok-put_listing-in-Listed, in-Fetched+in_ok-put_fetched-in-Fetched, in-Rebuilt+in_ok-put_rebuilt-in-Rebuilt}
use Rattle.lq_script_desk.proofs.reply_text.put_reply.Goals as goal

pub returns-clause-ok : goal.returns-clause-ok
returns-clause-ok c =
    let old = c.args.out.now.items in
    let text = compact_text (response_data (response_of c.args.response.now)) in
    let written : c.match-response.out.items ≡ old ++ text = elim c.match-response.branch [
      | in-Refused+in_ok-put_refusal-in-Refused w ↦
          rw (w.out-is, w.in-Refused.is) w.in_ok-put_refusal-in-Refused.ensures.ok
      | in-Found+in_ok-put_found-in-Found w ↦
          rw (w.out-is, w.in-Found.is) w.in_ok-put_found-in-Found.ensures.ok
      | in-Listed+in_ok-put_listing-in-Listed w ↦
          rw (w.out-is, w.in-Listed.is) w.in_ok-put_listing-in-Listed.ensures.ok
      | in-Fetched+in_ok-put_fetched-in-Fetched w ↦
          let entries : w.deref.result.now ≡ w.in-Fetched.entries.items = search rules in
          rw (w.out-is, w.in-Fetched.is, ← entries) w.in_ok-put_fetched-in-Fetched.ensures.ok
      | in-Rebuilt+in_ok-put_rebuilt-in-Rebuilt w ↦
          let entries : w.deref-in-Rebuilt.result.now ≡ w.in-Rebuilt.entries.items =
          search rules in
          rw (w.out-is, w.in-Rebuilt.is, ← entries) w.in_ok-put_rebuilt-in-Rebuilt.ensures.ok
    ] in
    and_then old text (10 ∷ []) written c.in_ok-put_bytes.ensures.ok
