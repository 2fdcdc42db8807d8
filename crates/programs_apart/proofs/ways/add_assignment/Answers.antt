use Rattle.std.proofs.Common.{rules, ◌≡◌, ◌∙◌, ap, Some, ℕ, List}
use Rattle.std.specs.Prelude.{slice_get}
use Rattle.std.specs.Process.{command_args}
use Rattle.programs_apart.proofs.Assigned.{assigned_more}
use Rattle.programs_apart.proofs.ways.add_assignment.Goals as goal

pub returns-clause-words : goal.returns-clause-words
returns-clause-words c = λ args before.
    let key = c.in_ok-text_of.field-0.now in
    let value = c.in_ok-text_of-2.field-0.now in
    let key_is : c.in-Some.key.now ≡ key = search rules in
    let value_is : c.in-Some.value.now ≡ value = search rules in
    let stands : slice_get c.args.variables.now c.args.i ≡ Some (c.in-Some.key.now, c.in-Some.value.now) = search rules in
    let found : slice_get c.args.variables.now c.args.i ≡ Some (key, value) = stands ∙ ap (λ (k : List ℕ). Some (k, c.in-Some.value.now)) key_is ∙ ap (λ (v : List ℕ). Some (key, v)) value_is in
    assigned_more c.assign.result (command_args c.args.start.now) args (command_args c.assign.new.start) c.args.variables.now c.args.i key value c.requires found before c.assign.ensures.words
