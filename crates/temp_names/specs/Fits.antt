-- Which names a template stands for.
use Rattle.std.specs.Prelude.{ℕ, Bool, ◌==◌, List, Option, position, if◌then◌else◌}
use Rattle.std.specs.Cmp.Lexicographic.{pointwise}
use Rattle.std.specs.Char.{is_ascii_alphanumeric}

-- `?` stands for one letter or digit of ASCII, and every other byte for itself
abbrev pub fits_byte : ℕ → ℕ → Bool
fits_byte t b = (if t == 63 then is_ascii_alphanumeric b else t == b)

-- as long, and each byte stands for the one in its place
abbrev pub fits : List ℕ → List ℕ → Bool
fits template name = pointwise fits_byte template name

-- which template is the first that stands for the name
abbrev pub first_fitting : List (List ℕ) → List ℕ → Option ℕ
first_fitting templates name = position (λ template. fits template name) templates
