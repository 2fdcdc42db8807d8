-- How long commands and templates may be, and how many variables there may be.
use Rattle.std.specs.Prelude.{ℕ}

-- the bytes of a command's spelling
abbrev pub max_command : ℕ
max_command = 65536

-- the bytes of a template
abbrev pub max_template : ℕ
max_template = 255

-- the variables of a program
abbrev pub max_variables : ℕ
max_variables = 4294967295
