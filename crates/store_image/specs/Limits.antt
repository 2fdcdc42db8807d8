-- How long images are, how much is kept behind one, and how much a keeper loads.
use Rattle.std.specs.Prelude.{ℕ}

-- the bytes of a client's image
abbrev pub max_client_image : ℕ
max_client_image = 117686294

-- the bytes of a server's image
abbrev pub max_server_image : ℕ
max_server_image = 50577929

-- the bytes of the records behind an image
abbrev pub max_records : ℕ
max_records = 8388608

-- the bytes that a keeper has to load
abbrev pub max_loaded : ℕ
max_loaded = 134217728
