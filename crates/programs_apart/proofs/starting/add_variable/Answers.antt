use Rattle.std.proofs.Common.{rules, ◌≡◌, ◌∙◌, ap, Some, ℕ, List}
use Rattle.std.specs.Prelude.{slice_get}
use Rattle.programs_apart.proofs.Variables.{tells_set}
use Rattle.programs_apart.proofs.starting.add_variable.Goals as goal

pub returns-clause-variables : goal.returns-clause-variables
returns-clause-variables c = λ before.
    let key = c.in_ok-text_of.field-0.now in
    let value = c.in_ok-text_of-2.field-0.now in
    let key_is : c.in-Some.key.now ≡ key = search rules in
    let value_is : c.in-Some.value.now ≡ value = search rules in
    let stands : slice_get c.args.variables.now c.args.i ≡ Some (c.in-Some.key.now, c.in-Some.value.now) = search rules in
    let found : slice_get c.args.variables.now c.args.i ≡ Some (key, value) = stands ∙ ap (λ (k : List ℕ). Some (k, c.in-Some.value.now)) key_is ∙ ap (λ (v : List ℕ). Some (key, v)) value_is in
    tells_set c.set_variable.result c.args.start.now c.set_variable.new.start c.args.variables.now c.args.i key value c.requires found before c.set_variable.ensures.set c.set_variable.ensures.others
