use Rattle.mod_log.proofs.Sketches.{sketches_are_filled, fillings_are_equal, fillings_touch_alike, fillings_fit, sketches_fit, one_sketch_list, one_sketch_of}
use Rattle.mod_log.proofs.laws.sketches_stand_for_contents.Goals as goal

pub returns : goal.returns
returns c = record { filled = sketches_are_filled; equal = fillings_are_equal; alike = fillings_touch_alike; fillings_fit = fillings_fit; sketches_fit = sketches_fit; one = one_sketch_list; one_of_entry = one_sketch_of }
