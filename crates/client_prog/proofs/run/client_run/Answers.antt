use Rattle.std.proofs.Common.{refl}
use Rattle.client_shelf.specs.Shelving.{said}
use Rattle.client_prog.specs.Inside.{run_said, drill_said}
use Rattle.client_prog.proofs.Forms.{run_ends, drill_ends, shelve_ends, check_ends, has_run, has_drill, has_shelf, has_check, no_form}
use Rattle.client_prog.proofs.run.client_run.Goals as goal

pub returns-in-Some-Run : goal.returns-in-Some-Run
returns-in-Some-Run g c =
    let run = c.in-Some-Run in
    run_ends _ _ _ _ _ _ (run_said run.run') (has_run _ run.field-0 run.run' run.field-0-is run.ensures) c.run_words_session.ensures

pub returns-in-Some-Drill : goal.returns-in-Some-Drill
returns-in-Some-Drill g c =
    let drill = c.in-Some-Drill in
    drill_ends _ _ _ _ _ _ (drill_said drill.words) (has_drill _ drill.field-0 drill.words drill.field-0-is drill.ensures) c.drill.ensures refl refl

pub returns-in-Some-Shelve : goal.returns-in-Some-Shelve
returns-in-Some-Shelve g c =
    let shelf = c.in-Some-Shelve in
    shelve_ends _ _ _ _ _ _ (said shelf.asked) (has_shelf _ shelf.field-0 shelf.asked shelf.field-0-is shelf.ensures) c.shelve.ensures refl refl refl

pub returns-in-Some-Check : goal.returns-in-Some-Check
returns-in-Some-Check g c =
    let check = c.in-Some-Check in
    let has = has_check _ check.field-0 check.words check.field-0-is check.ensures in
    check_ends _ _ _ _ _ _ (record { root = check.words.root; path = has.0 }) has.2 (c.check_by_words.ensures has.0 has.1) refl refl

pub returns-in-None : goal.returns-in-None
returns-in-None g c = no_form _ c.code.result _ _ c.code.ensures c.in-None.ensures
