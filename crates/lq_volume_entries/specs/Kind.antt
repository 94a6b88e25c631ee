-- Which kind of node is a folder.
use Rattle.std.specs.Prelude.{Bool, true, false}
use Rattle.lq_value.specs.declared.kind.Kind.{Kind}
use Rattle.lq_value.specs.declared.kind.Kind.TheVariants.{File, Folder}

-- whether a kind is the kind of folders
abbrev pub is_folder : Kind → Bool
is_folder File = false
is_folder Folder = true
