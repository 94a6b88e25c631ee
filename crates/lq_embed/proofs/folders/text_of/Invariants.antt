use Rattle.std.proofs.Common.{◌≡◌, ◌++◌, drop}
use Rattle.lq_embed.specs.Folders.{joined}
use Rattle.lq_embed.proofs.folders.text_of.Given as goal

-- what is put and the text of the names left are the whole
abbrev pub invariant-loop-name : goal.invariant-loop-name
invariant-loop-name l = record {
  whole : l.text.items ++ joined (drop l.name-index l.names) ≡ joined l.names;
}
