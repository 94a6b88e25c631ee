-- The command with which clap reads the program's arguments.
use Rattle.std.specs.Prelude.{List, ℕ, [], codes, true, Some}
use Rattle.clap.specs.Walk.{Rule}
use Rattle.clap.specs.Simple.{App, new_rule, new_shape, with_rule, with_subcommand}
use Rattle.clap.specs.declared.builder.action.ArgAction.TheVariants.{Set}

-- a command without clap's help and version
abbrev pub bare_command : List ℕ → App
bare_command name = record {
  top = record (new_shape name) {
    disable_help_flag = true;
    disable_version_flag = true;
    disable_help_subcommand = true;
  };
  subs = [];
}

-- the formula of `check`, which is required
abbrev pub formula_rule : Rule
formula_rule = record (new_rule (codes "formula")) { action = Some Set; required = true }

-- the subcommand `check`
abbrev pub check_app : App
check_app = with_rule (bare_command (codes "check")) formula_rule

-- the command itself: its arguments begin after its name and have to name a subcommand
abbrev pub lq_top : App
lq_top = record (bare_command (codes "lq")) {
  top = record (bare_command (codes "lq")).top
      { no_binary_name = true; subcommand_required = true };
}

-- the command with the subcommands that carry out scripts, `run` and `threads`
abbrev pub scripts_app : App
scripts_app = with_subcommand (with_subcommand lq_top (bare_command (codes "run")).top)
    (bare_command (codes "threads")).top

-- `run`, `threads`, and `check` with a formula
abbrev pub lq_app : App
lq_app = with_subcommand scripts_app check_app.top
