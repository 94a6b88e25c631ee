use Rattle.std.proofs.Common.{codes, decimal}
use Rattle.std.proofs.lemmas.Result.{on_ok_weaker}
use Rattle.json.specs.Print.{escape_byte, quoted}
use Rattle.lq_script_desk.specs.Reply.{opcode_name}
use Rattle.lq_script_desk.proofs.Joining.{named_piece}
use Rattle.lq_script_desk.proofs.message_text.put_numbered.Goals as goal

pub returns-clause-ok : goal.returns-clause-ok
unfolding escape_byte
returns-clause-ok c =
    on_ok_weaker c.put_bytes.result
    (named_piece c.args.out.now.items (codes ",\"op\":") (quoted (opcode_name c.args.op.now))
    (codes ",\"seq\":") (decimal c.args.seq) _ c.before_seq.ensures c.in_ok-put_unsigned.ensures.ok)
    c.put_bytes.ensures.ok
