use Rattle.store_image.proofs.Sizes.{images_small}
use Rattle.store_image.proofs.laws.images_are_small.Goals as goal

pub returns : goal.returns
returns c = images_small
