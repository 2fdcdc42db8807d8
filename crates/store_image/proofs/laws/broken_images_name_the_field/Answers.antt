use Rattle.store_image.proofs.Breaking.{broken_entries, broken_images}
use Rattle.store_image.proofs.BreakingLists.{broken_entry_lists}
use Rattle.store_image.proofs.laws.broken_images_name_the_field.Goals as goal

pub returns-clause-entries : goal.returns-clause-entries
returns-clause-entries c = broken_entries

pub returns-clause-lists : goal.returns-clause-lists
returns-clause-lists c = broken_entry_lists

pub returns-clause-images : goal.returns-clause-images
returns-clause-images c = broken_images
