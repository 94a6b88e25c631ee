use Rattle.std.proofs.Common.{◌≡◌, ◌++◌, map, drop, false}
use Rattle.serde_json.specs.View.{items_of}
use Rattle.serde_json.specs.Written.{items_text}
use Rattle.lq_script_desk.specs.Front.{AppendsTo}
use Rattle.lq_script_desk.specs.Reply.{attr_data}
use Rattle.lq_script_desk.proofs.listing.put_attrs.Given as goal

-- what is put and the text of the attributes left are the whole
abbrev pub invariant-loop-attr : goal.invariant-loop-attr
invariant-loop-attr l = record {
  whole : l.out.items ++ items_text l.later (items_of (map attr_data (drop l.attr-index l.attrs)))
      ≡ l.fn.out.items ++ (l.before ++ items_text false (items_of (map attr_data l.attrs)));
  front : AppendsTo l.out.items l.fn.out.items;
}
