-- A push: what it gives, and what it does to a stack.
use Rattle.std.specs.Prelude.{◌≡◌, Option, Some, None, Result, Ok, Err, OnOk, OnErr}
use Rattle.std.specs.Fmt.{decimal, signed_decimal}
use Rattle.lq_value.specs.declared.refusal.Refusal.{Refusal}
use Rattle.lq_value.specs.declared.refusal.Refusal.TheVariants.{BadLine}
use Rattle.lq_value.specs.Refusal.{IsRefusedBy}
use Rattle.lq_predicate.specs.Stacked.{Stacked}
use Rattle.lq_predicate.specs.Stack.{attr_pushed, text_pushed, op_pushed, refusal_at}
use Rattle.lq_predicate.specs.declared.stack_op.StackOp.{StackOp}
use Rattle.lq_embed.specs.Numbers.{op_numbered}
use Rattle.lq_embed.specs.Requests.{in_utf8}
use Rattle.lq_embed.specs.declared.pushes.Push.{Push}
use Rattle.lq_embed.specs.declared.pushes.Push.TheVariants as push

-- the stack after a push of an operator, if the number is one's
abbrev pub push_op_outcome : Option StackOp → Stacked → Result (Option Stacked) Refusal
push_op_outcome None stack = Err BadLine
push_op_outcome (Some op) stack = Ok (op_pushed op stack)

-- the stack after a push
abbrev pub push_outcome : Push → Stacked → Result (Option Stacked) Refusal
push_outcome (push.Attr name) stack = in_utf8 name.now (Ok (attr_pushed name.now stack))
push_outcome (push.Text text) stack = in_utf8 text.now (Ok (text_pushed text.now stack))
push_outcome (push.Int32 n) stack = Ok (text_pushed (signed_decimal n) stack)
push_outcome (push.Int64 n) stack = Ok (text_pushed (signed_decimal n) stack)
push_outcome (push.UInt32 n) stack = Ok (text_pushed (decimal n) stack)
push_outcome (push.UInt64 n) stack = Ok (text_pushed (decimal n) stack)
push_outcome (push.Op number) stack = push_op_outcome (op_numbered number) stack

-- what a push does to a stack, by its outcome: one that is refused leaves it
abbrev pub PutsOn : Stacked → Stacked → Result (Option Stacked) Refusal
    → Result (Unit {0}) Refusal → Type 0
PutsOn old new (Err refusal) result = (result ≡ Err refusal) × (new ≡ old)
PutsOn old new (Ok stack) result = OnOk result (stack ≡ Some new)
    × IsRefusedBy result (refusal_at old.pushes stack) × OnErr result (new ≡ old)
