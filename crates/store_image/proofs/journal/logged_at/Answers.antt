use Rattle.std.proofs.Common.{◌∙◌, sym}
use Rattle.mod_log.specs.Append.{next_entry}
use Rattle.store_image.proofs.Entries.{tree-logged}
use Rattle.store_image.proofs.journal.logged_at.Goals as goal

pub returns-clause-applied : goal.returns-clause-applied
returns-clause-applied c = c.in_ok-origin.ensures.applied ∙ sym (tree-logged c.args.log.now (next_entry c.in_ok-origin.origin c.in_ok-origin.effects c.args.log.now))
