-- The fields of each spelling in their order, given by their numbers of bytes.
use Rattle.std.specs.Prelude.{ℕ, List, [], ◌∷◌, ◌++◌, Option, Some, None}
use Rattle.std.specs.List.{flat_map}
use Rattle.rs_parity.specs.Fields.{sketch_fields}
use Rattle.file_paths.specs.Fields.{path_fields}
use Rattle.tree_values.specs.Fields.{effects_fields, bases_fields}
use Rattle.cmd_capture.specs.Fields.{command_fields}
use Rattle.mod_log.specs.declared.origin.Origin.{Origin}
use Rattle.mod_log.specs.declared.log.Entry.{Entry}
use Rattle.mod_log.specs.declared.sketched.SketchEffect.{SketchEffect}
use Rattle.mod_log.specs.declared.sketched.SketchEffect.TheVariants.{Make, Put, Remove, Move, Mode}

-- the print of the job, the status, and the fields of the command
abbrev pub origin_fields : Origin → List ℕ
origin_fields o = 32 ∷ 1 ∷ command_fields o.command

-- whether a command made it, and the fields of the origin
abbrev pub made_by_fields : Option Origin → List ℕ
made_by_fields None = 1 ∷ []
made_by_fields (Some o) = 1 ∷ origin_fields o

-- the fields of what made the entry, of the effects and of the bases
abbrev pub entry_fields : Entry → List ℕ
entry_fields e = made_by_fields e.origin ++ (effects_fields e.effects ++ bases_fields e.base)

-- the kind, and the fields of what the sketched effect names
abbrev pub sketch_effect_fields : SketchEffect → List ℕ
sketch_effect_fields (Make p) = 1 ∷ path_fields p
sketch_effect_fields (Put p sketch) = 1 ∷ (path_fields p ++ sketch_fields sketch)
sketch_effect_fields (Remove p) = 1 ∷ path_fields p
sketch_effect_fields (Move p q) = 1 ∷ (path_fields p ++ path_fields q)
sketch_effect_fields (Mode p exec) = 1 ∷ (path_fields p ++ 1 ∷ [])

-- the count, and the fields of the sketched effects
abbrev pub sketch_effects_fields : List SketchEffect → List ℕ
sketch_effects_fields es = 4 ∷ flat_map sketch_effect_fields es
