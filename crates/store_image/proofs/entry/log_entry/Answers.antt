use Rattle.std.proofs.Common.{◌≡◌, ◌+◌, Result, Ok, Err}
use Rattle.mod_log.specs.declared.log.LogError.{LogError}
use Rattle.mod_log.specs.Log.{Log, logged}
use Rattle.mod_log.specs.Append.{next_entry, appended}
use Rattle.mod_log.proofs.Fitting.{AreEntriesOf-last, fit_is_appended, fit_has_effects}
use Rattle.store_image.proofs.entry.log_entry.Goals as goal

not_both : (r : Result Log LogError) (log : Log) (refusal : LogError) → r ≡ Ok log → r ≡ Err refusal → ⊥
not_both r log refusal ok err = cc

pub append-requires : goal.append-requires
append-requires c =
    let log = c.args.log.now in
    let next = next_entry c.args.origin c.args.effects log in
    record { some = fit_has_effects log next c.requires; made_by = (AreEntriesOf-last (log.acked + 1) log.base log.pending next c.requires.entries).1.origin_fits }

pub unreachable-requires : goal.unreachable-requires
unreachable-requires c =
    let next = next_entry c.args.origin c.args.effects c.args.log.now in
    not_both (appended c.args.origin c.args.effects c.args.log.now) (logged next c.args.log.now) c.in-Err.refusal (fit_is_appended c.args.log.now next c.requires) (c.in-Err.ensures.err c.in_default.not-Memory)
