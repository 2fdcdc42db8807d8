use Rattle.std.proofs.Common.{◌∙◌, sym}
use Rattle.mod_log.proofs.Entries.{acknowledged_keeps}
use Rattle.store_image.proofs.journal.note_at.Goals as goal

pub returns-in_ok-number-in-2-clause-applied : goal.returns-in_ok-number-in-2-clause-applied
returns-in_ok-number-in-2-clause-applied c = c.requires ∙ sym (acknowledged_keeps c.args.log.now c.in_ok-number-in-2.number)
