use Rattle.std.proofs.Common.{◌≡◌, drop}
use Rattle.std.specs.Cmp.Lexicographic.{pointwise}
use Rattle.temp_names.specs.Fits.{fits_byte}
use Rattle.temp_names.proofs.template.fits_in_turn.Given as goal

-- what is left of both decides
abbrev pub invariant-loop-i : goal.invariant-loop-i
invariant-loop-i l = pointwise fits_byte (drop l.i l.template) (drop l.i l.name) ≡ pointwise fits_byte l.template l.name
