-- The laws of commands and jobs that break a rule.
use Rattle.std.proofs.Common.{◌≡◌, ◌≢◌, ℕ, ◌+◌, ◌-◌, ◌^◌, ◌<◌, ◌≤◌, Bool, true, false, ◌&&◌, not, leb, List, [], ◌∷◌, ◌++◌, length}
use Rattle.std.proofs.Common.{take, Err, refl, sym, ap, subst, ◌∙◌, arith, lit<, append_assoc, append-nil, length-append}
use Rattle.std.specs.Int.{w8, w16, w32}
use Rattle.std.specs.List.{flat_map, list_all, AllByRecursion}
use Rattle.std.proofs.lemmas.Bool.{le-leb}
use Rattle.byte_fields.specs.Field.{Reader, ◌>>=◌, digits, ruled, none, one, number_at, span_at, each_at, limited}
use Rattle.byte_fields.specs.Field.{passed}
use Rattle.byte_fields.specs.Codec.{IsCodec}
use Rattle.byte_fields.specs.Cuts.{start_of}
use Rattle.byte_fields.specs.Broken.{IsRefused}
use Rattle.byte_fields.proofs.Codec.{u8_codec, u16_codec, u32_codec, span_codec, ruled_codec}
use Rattle.byte_fields.proofs.Breaking.{read_again, refused_there, refused_text, rule_refused, first_refused, later_refused}
use Rattle.byte_fields.proofs.Breaking.{tagged_refused, unknown_kind, second_fails, items_refused, each_read}
use Rattle.byte_fields.proofs.Facts.{two_bytes, four_bytes, limited_refused}
use Rattle.file_paths.specs.Limits.{max_file}
use Rattle.file_paths.specs.Path.{FilePath, IsPath}
use Rattle.file_paths.specs.Spelling.{path, content}
use Rattle.file_paths.specs.Reading.{path_at, content_at}
use Rattle.tree_values.specs.declared.node.Node.TheVariants.{File}
use Rattle.file_paths.proofs.Parts.{path_codec, length_refused}
use Rattle.file_paths.proofs.Sizes.{content_length}
use Rattle.cmd_capture.specs.Limits.{max_command}
use Rattle.cmd_capture.specs.declared.command.Command.{Command}
use Rattle.cmd_capture.specs.declared.job.JobRow.{JobRow}
use Rattle.cmd_capture.specs.Environment.{has_key}
use Rattle.cmd_capture.specs.Rules.{is_text, is_program, is_key, is_key_byte, is_pattern, is_template, AreVariables}
use Rattle.cmd_capture.specs.Spelling.{variable, template, counted, command, AreParts, IsCommand, job_row, RowFits}
use Rattle.cmd_capture.specs.Fields.{command_fields}
use Rattle.cmd_capture.specs.Reading.{bytes_at, text_at, template_at, is_new_key, variable_at, with_pair, variables_at, alike_at}
use Rattle.cmd_capture.specs.Reading.{counted_at, parts_at, command_at, job_file_at, job_node_kinds, job_node_at, job_row_at, job_rows_at, job_at}
use Rattle.cmd_capture.specs.Broken.{HasLength, BrokenParts, BrokenLists, before_args, before_cwd, before_env}
use Rattle.cmd_capture.specs.Broken.{before_inputs, before_templates, IsRefusedBehind, BrokenCommands, LongCommands, BrokenJobRows}
use Rattle.cmd_capture.specs.Broken.{BrokenJobs}
use Rattle.cmd_capture.proofs.Codec.{bytes_codec, low_byte, template_codec, alike_again, items_codec, PairFits, variable_codec}
use Rattle.cmd_capture.proofs.Codec.{variables_again, variables_codec, few_items, short_items, content_low, path_low, variable_low}
use Rattle.cmd_capture.proofs.Codec.{short_texts, short_pairs, whole, read1, read2, read3, read4, read5, parts_fit, command_codec}
use Rattle.cmd_capture.proofs.Codec.{job_row_codec}
use Rattle.cmd_capture.proofs.Cutting.{parts_cut}

-- ---- parts of a command

bytes_refused : (rule : List ℕ → Bool) (t : List ℕ) → length t < 2 ^ 32 → rule t ≡ false → IsRefused (bytes_at rule) (content t) 4
unfolding bytes_at
bytes_refused rule t lt broken =
    refused_there (bytes_at rule) (content t) (length (digits w32 (length t)) + 0) 4 (omega (arith, four_bytes (length t)))
    (later_refused (number_at w32) (λ n. ruled rule (span_at n)) (digits w32 (length t)) t (length t) 0 (read_again u32_codec (length t) lt)
    (rule_refused (span_at (length t)) rule t t (read_again (span_codec (length t)) t refl) broken))

-- whether the bytes are the key of a variable behind these
abbrev key_rule : List (List ℕ × List ℕ) → List ℕ → Bool
key_rule before key = is_key key && is_new_key before key

key_refused : (before : List (List ℕ × List ℕ)) (key : List ℕ) → length key < 2 ^ 32 → key_rule before key ≡ false
    → IsRefused (variable_at before) (content key) 4
unfolding variable_at
key_refused before key lt broken =
    first_refused (bytes_at (key_rule before)) (λ k. one text_at (λ v. (k, v))) (content key) 4
    (bytes_refused (key_rule before) key lt broken)

value_refused : (before : List (List ℕ × List ℕ)) (key value : List ℕ) → HasLength key → is_key key ≡ true
    → has_key before key ≡ false → HasLength value → is_text value ≡ false
    → IsRefused (variable_at before) (content key ++ content value) (length (content key) + 4)
unfolding variable_at
value_refused before key value key_lt is new value_lt broken =
    let kept : key_rule before key ≡ true = rw (is, new) refl in
    later_refused (bytes_at (key_rule before)) (λ k. one text_at (λ v. (k, v))) (content key) (content value) key 4
    (read_again (bytes_codec (key_rule before)) key (key_lt, kept))
    (first_refused text_at (λ v. none (key, v)) (content value) 4 (bytes_refused is_text value value_lt broken))

one_fails : (test : ℕ → Bool) (front : List ℕ) (x : ℕ) (back : List ℕ) → test x ≡ false → list_all test (front ++ x ∷ back) ≡ false
one_fails test [] x back fails = rw fails refl
one_fails test (y ∷ front) x back fails = second_fails (test y) (list_all test (front ++ x ∷ back)) (one_fails test front x back fails)

no_key : (front back : List ℕ) → is_key (front ++ 61 ∷ back) ≡ false
no_key front back =
    second_fails (leb 1 (length (front ++ 61 ∷ back))) (list_all is_key_byte (front ++ 61 ∷ back))
    (one_fails is_key_byte front 61 back refl)

not_a_key : (before : List (List ℕ × List ℕ)) (key : List ℕ) → is_key key ≡ false → key_rule before key ≡ false
not_a_key before key wrong = rw wrong refl

empty_refused : IsRefused template_at (template []) 0
unfolding template_at
empty_refused =
    refused_text template_at (0 ∷ []) (template []) 0 (low_byte 0 (lit< tt) ∙ sym (append-nil (digits w8 0)))
    (first_refused (ruled (leb 1) (number_at w8)) (λ n. ruled is_pattern (span_at n)) (0 ∷ []) 0
    (rule_refused (number_at w8) (leb 1) (0 ∷ []) 0 (read_again u8_codec 0 (lit< tt)) refl))

template_refused : (t : List ℕ) → 1 ≤ length t → length t < 2 ^ 8 → is_pattern t ≡ false → IsRefused template_at (template t) 1
unfolding template_at
template_refused t some lt broken =
    refused_text template_at (length t ∷ t) (template t) 1 (ap (λ (front : List ℕ). front ++ t) (low_byte (length t) lt))
    (later_refused (ruled (leb 1) (number_at w8)) (λ n. ruled is_pattern (span_at n)) (length t ∷ []) t (length t) 0
    (read_again (ruled_codec (leb 1) u8_codec) (length t) (lt, le-leb 1 (length t) some))
    (rule_refused (span_at (length t)) is_pattern t t (read_again (span_codec (length t)) t refl) broken))

pub broken_parts : BrokenParts
broken_parts = record {
  program_is_wrong = bytes_refused is_program;
  argument_is_wrong = bytes_refused is_text;
  key_is_wrong = λ before key lt wrong. key_refused before key lt (not_a_key before key wrong);
  key_has_equals =
      λ before front back lt. key_refused before (front ++ 61 ∷ back) lt (not_a_key before (front ++ 61 ∷ back) (no_key front back));
  key_is_twice = λ before key lt twice. key_refused before key lt (second_fails (is_key key) (is_new_key before key) (ap not twice));
  value_is_wrong = value_refused;
  template_is_empty = empty_refused;
  template_is_wrong = template_refused;
}

-- ---- lists of parts

module _ {A : Type 0} (item : Reader A) (spelling : A → List ℕ) (Fits : A → Type 0) (codec : IsCodec item spelling Fits) (before : List A)
    (count : ℕ) (text : List ℕ) (offset : ℕ) (fits : AllByRecursion Fits before) (few : length before < count)
    (refused : IsRefused item text offset) where
  alike_refused : IsRefused (alike_at item count) (flat_map spelling before ++ text) (length (flat_map spelling before) + offset)
  unfolding alike_at
  alike_refused =
      items_refused {S = Unit {0}} {A = A} (λ state. item) (λ state x. state) spelling tt before count text offset
      (each_read {S = Unit {0}} {A = A} (λ state. item) (λ state x. state) spelling (λ state x. Fits x) (λ state. codec) tt before
      (alike_again Fits before fits)) few refused

  item_refused : count < 2 ^ 16
      → IsRefused (counted_at item) (digits w16 count ++ (flat_map spelling before ++ text))
      (2 + (length (flat_map spelling before) + offset))
  unfolding counted_at
  item_refused lt =
      refused_there (counted_at item) (digits w16 count ++ (flat_map spelling before ++ text))
      (length (digits w16 count) + (length (flat_map spelling before) + offset)) (2 + (length (flat_map spelling before) + offset)) (omega
      (arith, two_bytes count))
      (later_refused (number_at w16) (λ n. alike_at item n) (digits w16 count) (flat_map spelling before ++ text) count
      (length (flat_map spelling before) + offset) (read_again u16_codec count lt) alike_refused)

pairs_passed : (front pairs : List (List ℕ × List ℕ)) → passed with_pair front pairs ≡ front ++ pairs
pairs_passed front [] = sym (append-nil front)
pairs_passed front (p ∷ pairs) = pairs_passed (front ++ p ∷ []) pairs ∙ append_assoc front (p ∷ []) pairs

env_refused : (before : List (List ℕ × List ℕ)) (count : ℕ) (text : List ℕ) (offset : ℕ) → AreVariables before
    → AllByRecursion (λ pair. HasLength pair.0 × HasLength pair.1) before → length before < count → count < 2 ^ 16
    → IsRefused (variable_at before) text offset
    → IsRefused variables_at (digits w16 count ++ (flat_map variable before ++ text)) (2 + (length (flat_map variable before) + offset))
unfolding variables_at
env_refused before count text offset are short few lt refused =
    let fits = variables_again [] before are.each are.distinct short in
    let there =
    subst (λ (pairs : List (List ℕ × List ℕ)). IsRefused (variable_at pairs) text offset) (sym (pairs_passed [] before)) refused in
    let items =
    items_refused variable_at with_pair variable [] before count text offset
    (each_read variable_at with_pair variable PairFits variable_codec [] before fits) few there in
    refused_there variables_at (digits w16 count ++ (flat_map variable before ++ text))
    (length (digits w16 count) + (length (flat_map variable before) + offset)) (2 + (length (flat_map variable before) + offset)) (omega
    (arith, two_bytes count))
    (later_refused (number_at w16) (λ n. each_at variable_at with_pair n []) (digits w16 count) (flat_map variable before ++ text) count
    (length (flat_map variable before) + offset) (read_again u16_codec count lt) items)

pub broken_lists : BrokenLists
broken_lists = record {
  args =
      λ before count text offset fits few lt refused. item_refused text_at content (λ word. HasLength word × (is_text word ≡ true))
      (bytes_codec is_text) before count text offset fits few refused lt;
  inputs =
      λ before count text offset fits few lt refused.
      item_refused path_at path IsPath path_codec before count text offset fits few refused lt;
  templates =
      λ before count text offset fits few lt refused. item_refused template_at template
      (λ bytes. is_template bytes ≡ true) template_codec before count text offset fits few refused lt;
  env = env_refused;
}

-- ---- commands

-- both parts of a short text are short
front_short : (n : ℕ) (x y : List ℕ) → length (x ++ y) ≤ n → length x ≤ n
front_short n x y le = omega (arith, length-append x y)

back_short : (n : ℕ) (x y : List ℕ) → length (x ++ y) ≤ n → length y ≤ n
back_short n x y le = omega (arith, length-append x y)

module _ (c : Command) (are : AreParts c) (text : List ℕ) (offset : ℕ) where
  behind_program : length (content c.program) ≤ max_command → IsRefused (read1 c.program) text offset
      → IsRefused parts_at (content c.program ++ text) (length (content c.program) + offset)
  unfolding parts_at
  behind_program le refused =
      later_refused (bytes_at is_program) read1 (content c.program) text c.program offset
      (read_again (bytes_codec is_program) c.program (omega (arith, content_length c.program, le), are.program)) refused

  behind_args : length (counted content c.args) ≤ max_command → IsRefused (read2 c.program c.args) text offset
      → IsRefused (read1 c.program) (counted content c.args ++ text) (length (counted content c.args) + offset)
  behind_args le refused =
      later_refused (counted_at text_at) (read2 c.program) (counted content c.args) text c.args offset
      (read_again (items_codec (bytes_codec is_text)) c.args (
        few_items content content_low c.args le,
        short_texts max_command (lit< tt) c.args
            (short_items content max_command c.args le) are.args,
      )) refused

  behind_cwd : IsRefused (read3 c.program c.args c.cwd) text offset
      → IsRefused (read2 c.program c.args) (path c.cwd ++ text) (length (path c.cwd) + offset)
  behind_cwd refused =
      later_refused path_at (read3 c.program c.args) (path c.cwd) text c.cwd offset (read_again path_codec c.cwd are.cwd) refused

  behind_env : length (counted variable c.env) ≤ max_command
      → IsRefused (read4 c.program c.args c.cwd c.env) text offset
      → IsRefused (read3 c.program c.args c.cwd) (counted variable c.env ++ text) (length (counted variable c.env) + offset)
  behind_env le refused =
      later_refused variables_at (read4 c.program c.args c.cwd) (counted variable c.env) text c.env offset
      (read_again variables_codec c.env (
        few_items variable variable_low c.env le,
        (are.env, short_pairs max_command (lit< tt) c.env (short_items variable max_command c.env le)),
      )) refused

  behind_inputs : length (counted path c.inputs) ≤ max_command → IsRefused (read5 c.program c.args c.cwd c.env c.inputs) text offset
      → IsRefused (read4 c.program c.args c.cwd c.env) (counted path c.inputs ++ text) (length (counted path c.inputs) + offset)
  behind_inputs le refused =
      later_refused (counted_at path_at) (read5 c.program c.args c.cwd c.env) (counted path c.inputs) text c.inputs offset
      (read_again (items_codec path_codec) c.inputs (few_items path path_low c.inputs le, are.inputs)) refused

-- what the rest of a command refuses behind this front of it
abbrev IsRefusedPast : List ℕ → Reader Command → Type 0
IsRefusedPast front rest = (text : List ℕ) (offset : ℕ) → length (front ++ text) ≤ max_command
    → IsRefused rest text offset → IsRefused parts_at (front ++ text) (length front + offset)

-- one more part is passed
further : (front part : List ℕ) (rest next : Reader Command) → IsRefusedPast front rest
    → ((text : List ℕ) (offset : ℕ) → length part ≤ max_command → IsRefused next text offset
    → IsRefused rest (part ++ text) (length part + offset))
    → IsRefusedPast (front ++ part) next
further front part rest next past step text offset le refused =
    let whole : (front ++ part) ++ text ≡ front ++ (part ++ text) = append_assoc front part text in
    let le' : length (front ++ (part ++ text)) ≤ max_command = omega (arith, ap length whole, le) in
    let short : length part ≤ max_command = front_short max_command part text (back_short max_command front (part ++ text) le') in
    refused_text parts_at (front ++ (part ++ text)) ((front ++ part) ++ text) (length (front ++ part) + offset) (sym whole)
    (refused_there parts_at (front ++ (part ++ text)) (length front + (length part + offset)) (length (front ++ part) + offset)
    (omega (arith, length-append front part))
    (past (part ++ text) (length part + offset) le' (step text offset short refused)))

-- a command is refused where its parts are, and its first part where the rest behind it is
past_part : {A : Type 0} (front : List ℕ) (part : Reader A) (later : A → Reader Command)
    → IsRefusedPast front (λ bytes at. part bytes at >>= λ x. later x.0 bytes x.1) → IsRefusedBehind front part
unfolding command_at
past_part front part later past text offset le refused =
    limited_refused max_command parts_at (front ++ text) (length front + offset) le
    (past text offset le (first_refused part later text offset refused))

module _ (c : Command) (are : AreParts c) where
  past_program : IsRefusedPast (before_args c) (read1 c.program)
  past_program text offset le refused = behind_program c are text offset (front_short max_command (content c.program) text le) refused

  past_args : IsRefusedPast (before_cwd c) (read2 c.program c.args)
  past_args =
      further (before_args c) (counted content c.args) (read1 c.program) (read2 c.program c.args) past_program
      (λ text offset le refused. behind_args c are text offset le refused)

  past_cwd : IsRefusedPast (before_env c) (read3 c.program c.args c.cwd)
  past_cwd =
      further (before_cwd c) (path c.cwd) (read2 c.program c.args) (read3 c.program c.args c.cwd) past_args
      (λ text offset le refused. behind_cwd c are text offset refused)

  past_env : IsRefusedPast (before_inputs c) (read4 c.program c.args c.cwd c.env)
  past_env =
      further (before_env c) (counted variable c.env) (read3 c.program c.args c.cwd) (read4 c.program c.args c.cwd c.env) past_cwd
      (λ text offset le refused. behind_env c are text offset le refused)

  past_inputs : IsRefusedPast (before_templates c) (read5 c.program c.args c.cwd c.env c.inputs)
  past_inputs =
      further (before_inputs c) (counted path c.inputs) (read4 c.program c.args c.cwd c.env)
      (read5 c.program c.args c.cwd c.env c.inputs) past_env
      (λ text offset le refused. behind_inputs c are text offset le refused)

program_refused : IsRefusedPast [] (λ bytes at. bytes_at is_program bytes at >>= λ p. read1 p.0 bytes p.1)
unfolding parts_at
program_refused text offset le refused = refused_there parts_at text offset (0 + offset) (omega arith) refused

pub broken_commands : BrokenCommands
broken_commands = record {
  program = past_part [] (bytes_at is_program) read1 program_refused;
  args = λ c are. past_part (before_args c) (counted_at text_at) (read2 c.program) (past_program c are);
  cwd = λ c are. past_part (before_cwd c) path_at (read3 c.program c.args) (past_args c are);
  env = λ c are. past_part (before_env c) variables_at (read4 c.program c.args c.cwd) (past_cwd c are);
  inputs = λ c are. past_part (before_inputs c) (counted_at path_at) (read5 c.program c.args c.cwd c.env) (past_env c are);
  templates =
      λ c are. past_part (before_templates c) (counted_at template_at) (λ t. none (whole c.program c.args c.cwd c.env c.inputs t))
      (past_inputs c are);
}

pub long_refused : LongCommands
unfolding command_at limited
long_refused c are counts large small bytes at next stands =
    let end : at + max_command - at ≡ max_command = omega arith in
    let cut =
    parts_cut.cut bytes at c next (at + max_command) stands (parts_fit c are counts small) (omega arith)
    (omega (arith, stands.next_is, large)) in
    subst (λ (n : ℕ). parts_at (take (at + max_command) bytes) at ≡ Err (at + start_of n (command_fields c))) end cut

-- ---- jobs

no_kind : (kind : ℕ) → kind < 2 ^ 8 → AllByRecursion (λ known. kind ≢ known.0) job_node_kinds → IsRefused job_node_at (kind ∷ []) 0
unfolding job_node_at
no_kind kind byte none = unknown_kind job_node_kinds kind byte none

large_content : (exec : Bool) (size : ℕ) → max_file < size → size < 2 ^ 32 → IsRefused (job_file_at exec) (digits w32 size) 0
unfolding job_file_at
large_content exec size large small =
    first_refused (content_at max_file) (λ c. none (File c exec)) (digits w32 size) 0 (length_refused max_file size large small)

large_file : (size : ℕ) → max_file < size → size < 2 ^ 32 → IsRefused job_node_at (2 ∷ digits w32 size) (1 + 0)
unfolding job_node_at
large_file size large small =
    tagged_refused job_node_kinds 2 (job_file_at false) (digits w32 size) 0 (lit< tt) (λ tag at bytes. refl) (large_content false size large small)

large_program : (size : ℕ) → max_file < size → size < 2 ^ 32 → IsRefused job_node_at (3 ∷ digits w32 size) (1 + 0)
unfolding job_node_at
large_program size large small =
    tagged_refused job_node_kinds 3 (job_file_at true) (digits w32 size) 0 (lit< tt) (λ tag at bytes. refl) (large_content true size large small)

path_refused : (text : List ℕ) (offset : ℕ) → IsRefused path_at text offset → IsRefused job_row_at text offset
unfolding job_row_at
path_refused text offset refused = first_refused path_at (λ p. one job_node_at (λ n. record { path = p; node = n })) text offset refused

node_refused : (p : FilePath) (text : List ℕ) (offset : ℕ) → IsPath p → IsRefused job_node_at text offset
    → IsRefused job_row_at (path p ++ text) (length (path p) + offset)
unfolding job_row_at
node_refused p text offset is refused =
    later_refused path_at (λ q. one job_node_at (λ n. record { path = q; node = n })) (path p) text p offset (read_again path_codec p is)
    (first_refused job_node_at (λ n. none (record { path = p; node = n })) text offset refused)

pub broken_job_rows : BrokenJobRows
broken_job_rows = record {
  path_is_none = path_refused;
  kind_is_none =
      λ p kind is byte none. refused_there job_row_at (path p ++ kind ∷ []) (length (path p) + 0) (length (path p)) (omega arith)
      (node_refused p (kind ∷ []) 0 is (no_kind kind byte none));
  content_is_large = λ p size is large small. (
    node_refused p (2 ∷ digits w32 size) 1 is (large_file size large small),
    (node_refused p (3 ∷ digits w32 size) 1 is (large_program size large small), tt),
  );
}

rows_refused : (before : List JobRow) (count : ℕ) (text : List ℕ) (offset : ℕ) → AllByRecursion RowFits before
    → length before < count → count < 2 ^ 32 → IsRefused job_row_at text offset
    → IsRefused job_rows_at (digits w32 count ++ (flat_map job_row before ++ text)) (4 + (length (flat_map job_row before) + offset))
unfolding job_rows_at
rows_refused before count text offset fits few lt refused =
    refused_there job_rows_at (digits w32 count ++ (flat_map job_row before ++ text))
    (length (digits w32 count) + (length (flat_map job_row before) + offset)) (4 + (length (flat_map job_row before) + offset)) (omega
    (arith, four_bytes count))
    (later_refused (number_at w32) (λ n. alike_at job_row_at n) (digits w32 count) (flat_map job_row before ++ text) count
    (length (flat_map job_row before) + offset) (read_again u32_codec count lt)
    (alike_refused job_row_at job_row RowFits job_row_codec before count text offset fits few refused))

job_command_refused : (text : List ℕ) (offset : ℕ) → IsRefused command_at text offset → IsRefused job_at text offset
unfolding job_at
job_command_refused text offset refused =
    first_refused command_at (λ c. one job_rows_at (λ rows. record { command = c; rows = rows })) text offset refused

job_rows_refused : (c : Command) (text : List ℕ) (offset : ℕ) → IsCommand c → IsRefused job_rows_at text offset
    → IsRefused job_at (command c ++ text) (length (command c) + offset)
unfolding job_at
job_rows_refused c text offset is refused =
    later_refused command_at (λ d. one job_rows_at (λ rows. record { command = d; rows = rows })) (command c) text c offset
    (read_again command_codec c is)
    (first_refused job_rows_at (λ rows. none (record { command = c; rows = rows })) text offset refused)

pub broken_jobs : BrokenJobs
broken_jobs = record {
  command_is_refused = job_command_refused;
  row_is_refused =
      λ c before count text offset is fits few lt refused. job_rows_refused c _ _ is
      (rows_refused before count text offset fits few lt refused);
}
