use Rattle.std.proofs.Common.{rules, ◌≡◌, ℕ, true, List, Ok, sym}
use Rattle.std.specs.Int.{w64}
use Rattle.std.proofs.lemmas.Bool.{eq-eqb}
use Rattle.byte_fields.specs.Field.{ruled, number_at}
use Rattle.file_paths.specs.Path.{FilePath, is_same_path}
use Rattle.tree_values.specs.declared.node.Base.{Base}
use Rattle.file_paths.specs.Reading.{path_at}
use Rattle.file_paths.proofs.Order.{tied_path}
use Rattle.store_image.specs.Reading.{known_base_at}
use Rattle.store_image.proofs.entry.behind_base.Goals as goal

known_reads : (known : Base) (bytes : List ℕ) (at : ℕ) (path : FilePath) (middle version next : ℕ) → path_at bytes at ≡ Ok (path, middle) → is_same_path known.path path ≡ true → number_at w64 bytes middle ≡ Ok (version, next) → version ≡ known.version
    → known_base_at known bytes at ≡ Ok (known, next)
unfolding known_base_at ruled
known_reads known bytes at path middle version next first same second is =
    let path_is : path ≡ known.path = sym (tied_path known.path path same) in
    rw (first, same, second, eq-eqb version known.version is) (λ i. Ok (record { path = path_is i; version = is i }, next))

pub returns : goal.returns
returns c = known_reads c.args.known.now c.args.bytes.now c.args.at c.in_ok-path.path c.in_ok-path.middle c.in_ok-version.version c.in_ok-version.next c.in_ok-path.ensures (search rules) c.in_ok-version.ensures c.if-version-known.false
