use Rattle.std.proofs.Common.{codes, decimal}
use Rattle.std.proofs.lemmas.Result.{on_ok_weaker}
use Rattle.json.specs.Print.{escape_byte, quoted}
use Rattle.lq_script_desk.specs.Reply.{cause_name}
use Rattle.lq_script_desk.proofs.Joining.{piece}
use Rattle.lq_script_desk.proofs.message_text.put_mark.Goals as goal

pub returns-clause-ok : goal.returns-clause-ok
unfolding escape_byte
returns-clause-ok c =
    let m = c.args.mark.now in
    let first = rw c.cause_name.ensures at c.in_ok-put_text.ensures.ok in
    on_ok_weaker c.put_bytes.result
    (λ e. piece c.args.out.now.items (codes "{\"cause\":") (quoted (cause_name m.cause)) _ first
    (piece c.put_text.new.out.items (codes ",\"change\":")
    (decimal m.change) _ c.in_ok-put_unsigned.ensures.ok
    (piece c.put_unsigned.new.out.items (codes ",\"seq\":")
    (decimal m.seq) _ c.in_ok-put_unsigned-2.ensures.ok e)))
    c.put_bytes.ensures.ok
