-- What stands where the spelling of a command was refused: its first parts, and a front of the next one.
use Rattle.std.proofs.Common.{◌≡◌, ℕ, List, ◌++◌}
use Rattle.byte_fields.specs.Field.{IsFront}
use Rattle.byte_fields.proofs.Fronts.{front_first, front_second}
use Rattle.file_paths.specs.Spelling.{path, content}
use Rattle.cmd_capture.specs.declared.command.Command.{Command}
use Rattle.cmd_capture.specs.Spelling.{variable, template, counted, command}

-- what follows each part
abbrev behind_inputs : Command → List ℕ
behind_inputs c = counted template c.templates

abbrev behind_env : Command → List ℕ
behind_env c = counted path c.inputs ++ behind_inputs c

abbrev behind_cwd : Command → List ℕ
behind_cwd c = counted variable c.env ++ behind_env c

abbrev behind_args : Command → List ℕ
behind_args c = path c.cwd ++ behind_cwd c

abbrev behind_program : Command → List ℕ
behind_program c = counted content c.args ++ behind_args c

pub front_program : (c : Command) (old new : List ℕ) → IsFront old new (content c.program) → IsFront old new (command c)
front_program c old new f = front_first old new (content c.program) (behind_program c) f

module _ (c : Command) (old out : List ℕ) (program : out ≡ old ++ content c.program) where
  past_program : (new : List ℕ) → IsFront out new (behind_program c) → IsFront old new (command c)
  past_program new f = front_second old out new (content c.program) (behind_program c) program f

  pub front_args : (new : List ℕ) → IsFront out new (counted content c.args) → IsFront old new (command c)
  front_args new f = past_program new (front_first out new (counted content c.args) (behind_args c) f)

  module _ (out2 : List ℕ) (args : out2 ≡ out ++ counted content c.args) where
    past_args : (new : List ℕ) → IsFront out2 new (behind_args c) → IsFront old new (command c)
    past_args new f = past_program new (front_second out out2 new (counted content c.args) (behind_args c) args f)

    pub front_cwd : (new : List ℕ) → IsFront out2 new (path c.cwd) → IsFront old new (command c)
    front_cwd new f = past_args new (front_first out2 new (path c.cwd) (behind_cwd c) f)

    module _ (out3 : List ℕ) (cwd : out3 ≡ out2 ++ path c.cwd) where
      past_cwd : (new : List ℕ) → IsFront out3 new (behind_cwd c) → IsFront old new (command c)
      past_cwd new f = past_args new (front_second out2 out3 new (path c.cwd) (behind_cwd c) cwd f)

      pub front_env : (new : List ℕ) → IsFront out3 new (counted variable c.env) → IsFront old new (command c)
      front_env new f = past_cwd new (front_first out3 new (counted variable c.env) (behind_env c) f)

      module _ (out4 : List ℕ) (env : out4 ≡ out3 ++ counted variable c.env) where
        past_env : (new : List ℕ) → IsFront out4 new (behind_env c) → IsFront old new (command c)
        past_env new f = past_cwd new (front_second out3 out4 new (counted variable c.env) (behind_env c) env f)

        pub front_inputs : (new : List ℕ) → IsFront out4 new (counted path c.inputs) → IsFront old new (command c)
        front_inputs new f = past_env new (front_first out4 new (counted path c.inputs) (behind_inputs c) f)

        pub front_templates : (out5 : List ℕ) → out5 ≡ out4 ++ counted path c.inputs → (new : List ℕ)
            → IsFront out5 new (counted template c.templates) → IsFront old new (command c)
        front_templates out5 inputs new f =
            past_env new (front_second out4 out5 new (counted path c.inputs) (behind_inputs c) inputs f)
