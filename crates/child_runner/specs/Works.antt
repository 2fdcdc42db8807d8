-- Whose folder is used as WORK.
use Rattle.std.specs.Prelude.{ℕ, Bool, not, ◌&&◌, ◌||◌, ◌==◌, bit_and}
use Rattle.child_runner.specs.declared.works.Looked.{Looked}

-- root's number
abbrev pub root : ℕ
root = 0

-- whether another user than its owner may write in it, by its group or by everybody's rights
abbrev pub is_shared : ℕ → Bool
is_shared mode = not (bit_and mode 0o22 == 0)

-- whether each user removes and renames there what is their own alone
abbrev pub is_sticky : ℕ → Bool
is_sticky mode = not (bit_and mode 0o1000 == 0)

-- whether it belongs to this user or to root
abbrev pub is_owned : Looked → ℕ → Bool
is_owned looked user = looked.owner == user || looked.owner == root

-- whether no other user takes away what this user puts there
abbrev pub is_kept : Looked → Bool
is_kept looked = not (is_shared looked.mode) || is_sticky looked.mode

-- a folder and no link, of this user or of root, in which no other user takes away what this user puts there
abbrev pub is_safe : Looked → ℕ → Bool
is_safe looked user = looked.is_folder && (is_owned looked user && is_kept looked)
