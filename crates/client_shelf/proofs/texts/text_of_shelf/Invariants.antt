use Rattle.std.proofs.Common.{◌≡◌, take}
use Rattle.std.specs.List.{flat_map}
use Rattle.client_shelf.specs.Texts.{shelved_line}
use Rattle.client_shelf.proofs.texts.text_of_shelf.Given as goal

-- the lines of the contents so far
abbrev pub invariant-loop-shelved : goal.invariant-loop-shelved
invariant-loop-shelved l = l.text.items ≡ flat_map shelved_line (take l.shelved-index l.names)
