use Rattle.conflict_shelf.proofs.Putting.{was_put, is_put, files_differ}
use Rattle.conflict_shelf.proofs.Shelves.{in_order, shelves_stand}
use Rattle.conflict_shelf.proofs.laws.shelves_hold_what_was_put.Goals as goal

pub returns : goal.returns
returns c =
    record {
      puts = λ log put. (was_put log put, is_put log put);
      order = λ log folder lists legal is e. (in_order folder is log lists legal e).0;
      files = λ log folder legal. files_differ folder log legal;
      fits = λ log folder lists legal is e. (in_order folder is log lists legal e).1;
      stand = λ log folder legal is paths. shelves_stand folder is log legal paths;
    }
