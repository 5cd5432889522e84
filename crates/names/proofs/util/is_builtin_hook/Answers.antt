use Rattle.std.proofs.Common.{◌∙◌}
use Rattle.names.specs.Names.{builtins}
use Rattle.names.proofs.Among.{any-among}
use Rattle.names.proofs.util.is_builtin_hook.Goals as goal

pub returns : goal.returns
unfolding builtins
returns c = c.contains.ensures.value ∙ any-among c.args.name.now builtins
