use Rattle.server_prog.proofs.KeptAtEnd.{kept_images_are_served, later_changes_are_records}
use Rattle.server_prog.proofs.laws.kept_images_are_served.Goals as goal

pub returns-clause-kept : goal.returns-clause-kept
returns-clause-kept c = kept_images_are_served

pub returns-clause-records : goal.returns-clause-records
returns-clause-records c = later_changes_are_records
