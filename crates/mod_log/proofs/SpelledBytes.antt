-- The spellings of commands, origins and sketched effects are bytes.
use Rattle.std.proofs.Common.{◌≡◌, ℕ, ◌<◌, ◌&&◌, not, Bool, true, leb, List, [], ◌∷◌, ◌++◌, length, sym, subst, arith}
use Rattle.std.specs.Prelude.{nat_lt, ◌==◌}
use Rattle.std.specs.Int.{w16, w32}
use Rattle.std.specs.List.{flat_map, list_all, AllByRecursion}
use Rattle.std.proofs.lemmas.List.Concat.{flat_map-cons}
use Rattle.byte_fields.specs.Field.{digits}
use Rattle.byte_fields.specs.Codec.{IsBytes}
use Rattle.byte_fields.proofs.Facts.{lt_of, le_of, and_of, no_bytes, byte_before, bytes_appended, bytes_of_each, two_are_bytes, four_are_bytes}
use Rattle.rs_parity.specs.Spelling.{parity_spelling, sketch_spelling, SketchFits}
use Rattle.rs_parity.specs.declared.sketch.Sketch.{Sketch}
use Rattle.tree_values.specs.Spelling.{bit}
use Rattle.tree_laws.proofs.SpelledBytes.{bit_is_bytes}
use Rattle.file_paths.specs.Limits.{max_file}
use Rattle.file_paths.specs.Spelling.{path, content}
use Rattle.file_paths.proofs.SpelledBytes.{path_is_bytes, content_is_bytes}
use Rattle.cmd_capture.specs.declared.command.Command.{Command}
use Rattle.cmd_capture.specs.Limits.{max_template}
use Rattle.cmd_capture.specs.Rules.{is_text_byte, is_text, is_absolute, is_program, is_key_byte, is_pattern_byte, is_pattern, is_template, IsVariable}
use Rattle.cmd_capture.specs.Spelling.{variable, template, counted, command, IsCommand}
use Rattle.cmd_capture.proofs.Codec.{low_byte}
use Rattle.mod_log.specs.declared.origin.Origin.{Origin}
use Rattle.mod_log.specs.declared.sketched.SketchEffect.{SketchEffect}
use Rattle.mod_log.specs.declared.sketched.SketchEffect.TheVariants.{Make, Put, Remove, Move, Mode}
use Rattle.mod_log.specs.Origin.{origin, OriginFits}
use Rattle.mod_log.specs.Spelling.{sketch_effect, sketch_effects, SketchEffectFits, SketchEffectsFit}

-- ---- commands

-- bytes that each pass a test that only bytes pass
all_are_bytes : (test : ℕ → Bool) → ((b : ℕ) → test b ≡ true → b < 256) → (bytes : List ℕ) → list_all test bytes ≡ true → IsBytes bytes
all_are_bytes test low [] all = no_bytes
all_are_bytes test low (b ∷ bytes) all =
    let parts = and_of (test b) (list_all test bytes) all in
    byte_before b bytes (low b parts.0) (all_are_bytes test low bytes parts.1)

text_byte : (b : ℕ) → is_text_byte b ≡ true → b < 256
text_byte b is = lt_of b 256 (and_of (nat_lt b 256) (not (b == 0)) is).0

key_byte : (b : ℕ) → is_key_byte b ≡ true → b < 256
key_byte b is = text_byte b (and_of (is_text_byte b) (not (b == 61)) is).0

pattern_byte : (b : ℕ) → is_pattern_byte b ≡ true → b < 256
pattern_byte b is = text_byte b (and_of (is_text_byte b) (not (b == 47)) is).0

text_is_bytes : (t : List ℕ) → is_text t ≡ true → IsBytes (content t)
text_is_bytes t is = content_is_bytes t (all_are_bytes is_text_byte text_byte t is)

program_is_bytes : (t : List ℕ) → is_program t ≡ true → IsBytes (content t)
program_is_bytes t is = text_is_bytes t (and_of (is_text t) (is_absolute t) is).0

variable_is_bytes : (pair : List ℕ × List ℕ) → IsVariable pair → IsBytes (variable pair)
variable_is_bytes pair is =
    let key = and_of (leb 1 (length pair.0)) (list_all is_key_byte pair.0) is.0 in
    bytes_appended (content pair.0) (content pair.1) (content_is_bytes pair.0 (all_are_bytes is_key_byte key_byte pair.0 key.1)) (text_is_bytes pair.1 is.1)

template_is_bytes : (t : List ℕ) → is_template t ≡ true → IsBytes (template t)
template_is_bytes t is =
    let some = and_of (leb 1 (length t)) (leb (length t) max_template && is_pattern t) is in
    let few = and_of (leb (length t) max_template) (is_pattern t) some.1 in
    let short : length t < 256 = omega (arith, le_of (length t) max_template few.0) in
    subst (λ (front : List ℕ). IsBytes (front ++ t)) (low_byte (length t) short)
    (byte_before (length t) t short (all_are_bytes is_pattern_byte pattern_byte t few.1))

counted_is_bytes : {A : Type 0} {Fits : A → Type 0} (spelling : A → List ℕ) → ((x : A) → Fits x → IsBytes (spelling x)) → (xs : List A) → AllByRecursion Fits xs → IsBytes (counted spelling xs)
counted_is_bytes spelling each xs fits = bytes_appended (digits w16 (length xs)) (flat_map spelling xs) (two_are_bytes (length xs)) (bytes_of_each spelling each xs fits)

pub command_is_bytes : (c : Command) → IsCommand c → IsBytes (command c)
command_is_bytes c is =
    bytes_appended (content c.program) _ (program_is_bytes c.program is.parts.program)
    (bytes_appended (counted content c.args) _ (counted_is_bytes content text_is_bytes c.args is.parts.args)
    (bytes_appended (path c.cwd) _ (path_is_bytes c.cwd is.parts.cwd)
    (bytes_appended (counted variable c.env) _ (counted_is_bytes variable variable_is_bytes c.env is.parts.env.each)
    (bytes_appended (counted path c.inputs) (counted template c.templates) (counted_is_bytes path path_is_bytes c.inputs is.parts.inputs)
    (counted_is_bytes template template_is_bytes c.templates is.parts.templates)))))

-- ---- origins

pub origin_is_bytes : (o : Origin) → OriginFits o → IsBytes (origin o)
origin_is_bytes o fits =
    bytes_appended o.job_print (o.status ∷ command o.command) fits.print_bytes
    (byte_before o.status (command o.command) fits.status_fits (command_is_bytes o.command fits.command_fits))

-- ---- sketched effects

symbols_are_bytes : (symbols : List ℕ) → IsBytes (flat_map (digits w16) symbols)
symbols_are_bytes [] = no_bytes
symbols_are_bytes (symbol ∷ symbols) = subst IsBytes (sym (flat_map-cons (digits w16) symbol symbols)) (bytes_appended (digits w16 symbol) (flat_map (digits w16) symbols) (two_are_bytes symbol) (symbols_are_bytes symbols))

parity_is_bytes : (parity : List ℕ) → IsBytes (parity_spelling parity)
unfolding parity_spelling
parity_is_bytes parity = symbols_are_bytes parity

parities_are_bytes : (parities : List (List ℕ)) → IsBytes (flat_map parity_spelling parities)
parities_are_bytes [] = no_bytes
parities_are_bytes (parity ∷ parities) = subst IsBytes (sym (flat_map-cons parity_spelling parity parities)) (bytes_appended (parity_spelling parity) (flat_map parity_spelling parities) (parity_is_bytes parity) (parities_are_bytes parities))

sketch_is_bytes : (room : ℕ) (s : Sketch) → SketchFits room s → IsBytes (sketch_spelling s)
unfolding sketch_spelling
sketch_is_bytes room s fits =
    bytes_appended (digits w32 s.len) (s.print ++ flat_map parity_spelling s.parities) (four_are_bytes s.len)
    (bytes_appended s.print (flat_map parity_spelling s.parities) fits.print_bytes (parities_are_bytes s.parities))

sketch_effect_is_bytes : (e : SketchEffect) → SketchEffectFits e → IsBytes (sketch_effect e)
sketch_effect_is_bytes (Make p) fits = byte_before 1 (path p) (omega arith) (path_is_bytes p fits)
sketch_effect_is_bytes (Put p s) fits = byte_before 2 (path p ++ sketch_spelling s) (omega arith) (bytes_appended (path p) (sketch_spelling s) (path_is_bytes p fits.0) (sketch_is_bytes max_file s fits.1))
sketch_effect_is_bytes (Remove p) fits = byte_before 3 (path p) (omega arith) (path_is_bytes p fits)
sketch_effect_is_bytes (Move p q) fits = byte_before 4 (path p ++ path q) (omega arith) (bytes_appended (path p) (path q) (path_is_bytes p fits.0) (path_is_bytes q fits.1))
sketch_effect_is_bytes (Mode p exec) fits = byte_before 5 (path p ++ bit exec) (omega arith) (bytes_appended (path p) (bit exec) (path_is_bytes p fits) (bit_is_bytes exec))

pub sketch_effects_are_bytes : (es : List SketchEffect) → SketchEffectsFit es → IsBytes (sketch_effects es)
sketch_effects_are_bytes es fits = bytes_appended (digits w32 (length es)) (flat_map sketch_effect es) (four_are_bytes (length es)) (bytes_of_each sketch_effect sketch_effect_is_bytes es fits.each)
