use Rattle.std.proofs.Common.{codes, decimal}
use Rattle.std.proofs.lemmas.Result.{on_ok_weaker}
use Rattle.json.specs.Print.{escape_byte, quoted}
use Rattle.lq_script_desk.proofs.Joining.{appends_after, piece}
use Rattle.lq_script_desk.proofs.message_text.put_attr_changed.Goals as goal

pub returns-clause-ok : goal.returns-clause-ok
unfolding escape_byte
returns-clause-ok c =
    let m = c.args.message.now in
    let name = rw c.as_str.ensures.value at c.in_ok-put_text.ensures.ok in
    on_ok_weaker c.put_told.result
    (λ e. piece c.args.out.now.items (codes "{\"attr\":")
    (quoted c.args.attribute.now) _ name
    (piece c.put_text.new.out.items (codes ",\"change\":")
    (decimal m.change) _ c.in_ok-put_unsigned.ensures.ok
    (piece c.put_unsigned.new.out.items (codes ",\"dir\":")
    (decimal m.dir) _ c.in_ok-put_unsigned-2.ensures.ok e)))
    c.put_told.ensures.ok

pub returns-clause-front : goal.returns-clause-front
returns-clause-front c =
    appends_after c.put_told.ensures.front (appends_after c.in_ok-put_unsigned-2.ensures.front
    (appends_after c.in_ok-put_unsigned.ensures.front c.in_ok-put_text.ensures.front))
