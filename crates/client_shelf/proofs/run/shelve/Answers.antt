use Rattle.std.proofs.Common.{rules}
use Rattle.client_shelf.specs.Shelving.{said}
use Rattle.client_shelf.proofs.Whole.{image_stays}
use Rattle.client_shelf.proofs.run.shelve.Goals as goal

pub returns-in-Err : goal.returns-in-Err
returns-in-Err g c = record {
  known = search rules;
  sink = search rules;
  keeper = search rules;
  later = c.in-Err.ensures.later;
  image = image_stays (said c.args.shelving.now) c.requires (g.K.Keeper.images c.args.keeper.now) (g.K.Keeper.images c.ending_of.new.keeper) c.in-Err.ensures.others;
  others = c.in-Err.ensures.others;
  came = search rules;
}
