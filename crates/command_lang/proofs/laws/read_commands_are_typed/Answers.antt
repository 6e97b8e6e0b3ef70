use Rattle.command_lang.proofs.TypedCommands.{read-typed}
use Rattle.command_lang.proofs.laws.read_commands_are_typed.Goals as goal

pub returns : goal.returns
returns c = read-typed
