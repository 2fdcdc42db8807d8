-- The variables that a program is started with.
use Rattle.std.specs.Prelude.{◌≡◌, ℕ, List, Option, Some, None, option_map, if◌then◌else◌}
use Rattle.std.specs.List.{fold}
use Rattle.std.specs.Str.{bytes_eq}
use Rattle.std.specs.Process.{command_var}
use Rattle.std.specs.declared.process.command.Command.{Command}

-- the value of the name, where these variables are set one after the other
abbrev pub value_of : List (List ℕ × List ℕ) → List ℕ → Option (List ℕ)
value_of variables name = fold (λ value variable. if bytes_eq variable.0 name then Some variable.1 else value) None variables

-- each name has its value of these variables, and a name that they have not has none
abbrev pub TellsVariables : {A : Type 0} → Command A → List (List ℕ × List ℕ) → Type 0
TellsVariables start variables = (name : List ℕ) → command_var start name ≡ option_map Some (value_of variables name)
