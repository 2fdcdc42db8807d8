-- The pages that the words of every program may ask for, and how a text is shown.
use Rattle.std.specs.Prelude.{◌≡◌, ◌≤◌, ◌⊎◌, ℕ, List, [], ◌∷◌, length, take, Option, None, Some, if◌then◌else◌, codes}
use Rattle.std.specs.Str.{bytes_eq}
use Rattle.outside.specs.Outside.{Adds}
use Rattle.program_words.specs.declared.pages.Page.{Page}
use Rattle.program_words.specs.declared.pages.Page.TheVariants.{Help, Version}
use Rattle.program_words.specs.declared.pages.Pages.{Pages}
use Rattle.program_words.specs.declared.status.Status.{Status}
use Rattle.program_words.specs.declared.status.Status.TheVariants.{Done, SinkFailed, NoMemory}

-- the page that a word asks for
abbrev pub page_of : List ℕ → Option Page
page_of word =
    if bytes_eq word (codes "--help") then Some Help else (if bytes_eq word (codes "--version") then Some Version else None)

-- the page that the words ask for, where they are one word
abbrev pub page_asked : List (List ℕ) → Option Page
page_asked (word ∷ []) = page_of word
page_asked words = None

abbrev pub page_text : Pages → Page → List ℕ
page_text pages Help = pages.help.now
page_text pages Version = pages.version.now

-- the whole text was written, and the status says so; or a front of it, since the sink failed or memory ran out
abbrev pub Shows : Status → List ℕ → Option (List ℕ) → Option (List ℕ) → Type 0
Shows Done text old new = Adds old new text
Shows status text old new =
    ((status ≡ SinkFailed) ⊎ (status ≡ NoMemory)) × ((count : ℕ) × (count ≤ length text) × Adds old new (take count text))
