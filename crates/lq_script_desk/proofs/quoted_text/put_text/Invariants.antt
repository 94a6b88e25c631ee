use Rattle.std.proofs.Common.{◌≡◌, ◌++◌, ◌∷◌, [], length}
use Rattle.json.specs.Print.{escape}
use Rattle.lq_script_desk.specs.Front.{AppendsTo}
use Rattle.lq_script_desk.proofs.quoted_text.put_text.Given as goal

-- what is put and what is left are the whole
abbrev pub invariant-loop-out : goal.invariant-loop-out
invariant-loop-out l = record {
  whole : l.out.items ++ (escape l.rest ++ 34 ∷ [])
      ≡ l.fn.out.items ++ (l.before ++ 34 ∷ (escape l.text ++ 34 ∷ []));
  front : AppendsTo l.out.items l.fn.out.items;
}

abbrev pub decreases-loop-out : goal.decreases-loop-out
decreases-loop-out l = length l.rest
