use Rattle.std.proofs.Common.{map}
use Rattle.std.specs.String.{string_bytes}
use Rattle.server_prog.specs.Words.{run_said}
use Rattle.server_prog.proofs.Forms.{has_run, run_has_form}
use Rattle.server_prog.proofs.program.answer_words.Goals as goal

pub serve_wished-requires : goal.serve_wished-requires
serve_wished-requires g c =
    let words = map string_bytes c.args.words.now in
    run_has_form words (run_said c.in-Some-Run.run') (has_run words c.in-Some-Run.field-0 c.in-Some-Run.run' c.in-Some-Run.field-0-is c.in-Some-Run.ensures)

pub returns-in-Some-Run-clause-form : goal.returns-in-Some-Run-clause-form
returns-in-Some-Run-clause-form g c =
    let words = map string_bytes c.args.words.now in
    let said = run_has_form words (run_said c.in-Some-Run.run') (has_run words c.in-Some-Run.field-0 c.in-Some-Run.run' c.in-Some-Run.field-0-is c.in-Some-Run.ensures) in
    (λ two. absurd (c.serve_wished.ensures.form two), λ none. absurd (cc (said, none.1)))
