use Rattle.std.proofs.Common.{◌≡◌, ◌++◌, map, drop, false}
use Rattle.serde_json.specs.View.{items_of}
use Rattle.serde_json.specs.Written.{items_text}
use Rattle.lq_script_desk.specs.Front.{AppendsTo}
use Rattle.lq_script_desk.specs.Reply.{entry_data}
use Rattle.lq_script_desk.proofs.reply_text.put_entries.Given as goal

-- what is put and the text of the entries left are the whole
abbrev pub invariant-loop-entry : goal.invariant-loop-entry
invariant-loop-entry l = record {
  whole : l.out.items
      ++ items_text l.later (items_of (map entry_data (drop l.entry-index l.entries)))
      ≡ l.fn.out.items ++ (l.before ++ items_text false (items_of (map entry_data l.entries)));
  front : AppendsTo l.out.items l.fn.out.items;
}
