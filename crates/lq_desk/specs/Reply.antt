-- The code's replies as the world's answers.
use Rattle.lq_update.specs.declared.parcel.Parcel.TheVariants.{Update, Fin}
use Rattle.lq_desk_sub.specs.declared.read.Read.{Read as Read_}
use Rattle.lq_desk_sub.specs.declared.read.Read.TheVariants as read
use Rattle.lq_desk.specs.declared.reply.Reply.{Reply}
use Rattle.lq_desk.specs.declared.reply.Reply.TheVariants as reply
use Rattle.lq_desk_world.specs.Events.{Answer, Changed, Opened, Moved, Took, Empty, Ended, Asked, Noticed, Shut, Finished, Refused}

-- a read as the world's answer
abbrev pub answer_of_read : Read_ → Answer
answer_of_read (read.Update message) = Took (Update message)
answer_of_read (read.Fin mark) = Took (Fin mark)
answer_of_read read.Empty = Empty
answer_of_read read.Ended = Ended

-- a reply as the world's answer
abbrev pub answer_of : Reply → Answer
answer_of (reply.Changed applied) = Changed applied
answer_of (reply.Opened slot at result) = Opened slot at result.items
answer_of (reply.Moved was) = Moved was
answer_of (reply.Took r) = answer_of_read r
answer_of reply.Asked = Asked
answer_of (reply.Noticed was) = Noticed was
answer_of (reply.Shut change) = Shut change
answer_of reply.Finished = Finished
answer_of (reply.Refused refusal) = Refused refusal
