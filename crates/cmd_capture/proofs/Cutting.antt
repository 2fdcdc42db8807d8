-- Bytes that end inside a command or a job: the field in which they end is the faulty one.
use Rattle.std.proofs.Common.{◌≡◌, ℕ, ◌+◌, ◌-◌, ◌^◌, ◌<◌, ◌≤◌, Bool, true, false, ◌&&◌, leb, List, [], ◌∷◌, ◌++◌, length, take, Some, Err}
use Rattle.std.proofs.Common.{refl, sym, ap, subst, ◌∙◌, arith, lit<, length-append, length-take}
use Rattle.std.specs.Prelude.{sum}
use Rattle.std.specs.Int.{w32}
use Rattle.std.specs.List.{flat_map, AllByRecursion}
use Rattle.std.proofs.lemmas.Bool.{leb-true, and_parts}
use Rattle.std.proofs.lemmas.List.{take_all}
use Rattle.byte_fields.specs.Field.{Reader, ◌>>=◌, digits, one, limited}
use Rattle.byte_fields.specs.Codec.{Stands, IsCodec}
use Rattle.byte_fields.specs.Cuts.{start_of, IsCut}
use Rattle.byte_fields.proofs.Codec.{u8_codec, u16_codec, u32_codec, ruled_codec, stands_first, stands_second}
use Rattle.byte_fields.proofs.Facts.{sum_more}
use Rattle.byte_fields.proofs.Cutting.{sum_both, then_cut, span_cut, u8_cut, u16_cut, u32_cut, ruled_cut, cut_for, one_cut, tagged_cut}
use Rattle.byte_fields.proofs.Cutting.{each_cut, counted_cut}
use Rattle.file_paths.specs.Limits.{max_file}
use Rattle.file_paths.specs.Path.{FilePath}
use Rattle.file_paths.specs.Spelling.{path, content}
use Rattle.file_paths.specs.Fields.{path_fields, content_fields}
use Rattle.tree_values.specs.Fields.{node_fields}
use Rattle.tree_values.specs.declared.node.Node.{Node}
use Rattle.tree_values.specs.declared.node.Node.TheVariants.{Folder, File}
use Rattle.file_paths.proofs.Parts.{path_codec, path_cut, content_cut}
use Rattle.cmd_capture.specs.Limits.{max_command, max_template}
use Rattle.cmd_capture.specs.Job.{Job}
use Rattle.cmd_capture.specs.declared.job.JobRow.{JobRow}
use Rattle.cmd_capture.specs.Rules.{is_text, is_program, is_key, is_pattern, is_template}
use Rattle.cmd_capture.specs.Spelling.{variable, template, counted, command, IsCommand, job_node, job_row, job, RowFits, IsJob}
use Rattle.cmd_capture.specs.Reading.{bytes_at, template_at, is_new_key, variable_at, with_pair, variables_at, alike_at}
use Rattle.cmd_capture.specs.Reading.{counted_at, parts_at, command_at, job_file_at, job_node_kinds, job_node_at, job_row_at, job_rows_at, job_at}
use Rattle.cmd_capture.specs.Fields.{variable_fields, template_fields, counted_fields, command_fields, job_row_fields, job_fields}
use Rattle.cmd_capture.proofs.Codec.{BytesFit, bytes_codec, low_byte, CountedFit, alike_again, items_codec, template_codec}
use Rattle.cmd_capture.proofs.Codec.{PairFits, variable_codec, VariablesFit, variables_again, variables_codec, whole, Fits5, Fits4}
use Rattle.cmd_capture.proofs.Codec.{Fits3, Fits2, Fits1, Fits0, read5, read4, read3, read2, read1, command_fits, command_codec}
use Rattle.cmd_capture.proofs.Codec.{NodeFits, job_row_codec}

module _ {A B : Type 0} {first : Reader B} {items : B → Reader A} {spelled told : B → List ℕ} {s f : A → List ℕ} {FirstFits : B → Type 0}
    {ItemsFit : B → A → Type 0} (first_of : A → B)
    (codec : IsCodec first spelled FirstFits) (cut : IsCut first spelled told FirstFits) (cut' : (n : B) → IsCut (items n) s f (ItemsFit n))
  where
    behind_cut : IsCut (λ bytes at. first bytes at >>= λ n. items n.0 bytes n.1) (λ x. spelled (first_of x) ++ s x)
        (λ x. told (first_of x) ++ f x) (λ x. FirstFits (first_of x) × ItemsFit (first_of x) x)
    behind_cut = record {
      whole = λ x fits.
          omega (
            arith,
            sum_both (told (first_of x)) (f x),
            length-append (spelled (first_of x)) (s x),
            cut.whole (first_of x) fits.0,
            (cut' (first_of x)).whole x fits.1,
          );
      cut = λ bytes at x next end stands fits le lt.
          then_cut codec cut (λ n. items n.0 (take end bytes) n.1) bytes at (first_of x) (at + length (spelled (first_of x))) end (f x)
          (stands_first bytes at (spelled (first_of x)) (s x) next stands) fits.0 le
          (λ ge. (cut' (first_of x)).cut bytes (at + length (spelled (first_of x))) x next end
          (stands_second bytes at (spelled (first_of x)) (s x) next stands) fits.1 ge lt);
    }

module _ {A C : Type 0} {read : Reader A} {s f : A → List ℕ} {F : A → Type 0} (cut : IsCut read s f F) (made : A → C) (field : C → A) where
  last_cut : IsCut (one read made) (λ c. s (field c)) (λ c. f (field c)) (λ c. F (field c) × (made (field c) ≡ c))
  last_cut = record {
    whole = λ c fits. cut.whole (field c) fits.0;
    cut = λ bytes at c next end stands fits le lt. one_cut cut made bytes at (field c) next end stands fits.0 le lt;
  }

spelled_cut : {A : Type 0} {read : Reader A} {s s' f : A → List ℕ} {F : A → Type 0} → IsCut read s f F
    → ((x : A) → F x → s x ≡ s' x) → IsCut read s' f F
spelled_cut cut same = record {
  whole = λ x fits. cut.whole x fits ∙ ap length (same x fits);
  cut =
      λ bytes at x next end stands fits le lt. cut.cut bytes at x next end
      (subst (λ t. Stands bytes at t next) (sym (same x fits)) stands) fits le lt;
}

bytes_cut : (rule : List ℕ → Bool) → IsCut (bytes_at rule) content content_fields (BytesFit rule)
unfolding bytes_at
bytes_cut rule = cut_for (counted_cut length u32_codec u32_cut (λ n lt. ruled_cut (span_cut n) rule)) (λ t fits. (fits.0, (refl, fits.1)))

template_cut : IsCut template_at template template_fields (λ t. is_template t ≡ true)
unfolding template_at
template_cut =
    spelled_cut
    (cut_for (counted_cut length (ruled_codec (leb 1) u8_codec) (ruled_cut u8_cut (leb 1)) (λ n fits. ruled_cut (span_cut n) is_pattern))
    (λ t fits.
    let a = and_parts (leb 1 (length t)) (leb (length t) max_template && is_pattern t) fits in
    let b = and_parts (leb (length t) max_template) (is_pattern t) a.1 in
    ((omega (arith, leb-true (length t) max_template b.0), a.0), (refl, b.1))))
    (λ t fits.
    let a = and_parts (leb 1 (length t)) (leb (length t) max_template && is_pattern t) fits in
    let b = and_parts (leb (length t) max_template) (is_pattern t) a.1 in
    ap (λ (front : List ℕ). front ++ t) (low_byte (length t) (omega (arith, leb-true (length t) max_template b.0))))

alike_cut : {A : Type 0} {item : Reader A} {s f : A → List ℕ} {F : A → Type 0} → IsCodec item s F → IsCut item s f F
    → (n : ℕ) → IsCut (alike_at item n) (flat_map s) (flat_map f) (λ xs. (length xs ≡ n) × AllByRecursion F xs)
unfolding alike_at
alike_cut {A} {item} {s} {f} {F} codec cut n =
    cut_for (each_cut {S = Unit {0}} {A = A} (λ state. item) (λ state x. state) s f (λ state x. F x) (λ state. codec) (λ state. cut) n tt)
    (λ xs fits. (fits.0, alike_again F xs fits.1))

items_cut : {A : Type 0} {item : Reader A} {s f : A → List ℕ} {F : A → Type 0} → IsCodec item s F → IsCut item s f F
    → IsCut (counted_at item) (counted s) (counted_fields f) (CountedFit F)
unfolding counted_at
items_cut codec cut = cut_for (counted_cut length u16_codec u16_cut (λ n lt. alike_cut codec cut n)) (λ xs fits. (fits.0, (refl, fits.1)))

variable_cut : (pairs : List (List ℕ × List ℕ)) → IsCut (variable_at pairs) variable variable_fields (PairFits pairs)
unfolding variable_at
variable_cut pairs =
    cut_for
    (behind_cut (λ (pair : List ℕ × List ℕ). pair.0) (bytes_codec (λ key. is_key key && is_new_key pairs key))
    (bytes_cut (λ key. is_key key && is_new_key pairs key)) (λ key. last_cut (bytes_cut is_text) (λ value. (key, value)) (λ pair. pair.1)))
    (λ pair fits. (fits.0, (fits.1, refl)))

variables_cut : IsCut variables_at (counted variable) (counted_fields variable_fields) VariablesFit
unfolding variables_at
variables_cut =
    cut_for
    (counted_cut length u16_codec u16_cut
    (λ n lt. each_cut variable_at with_pair variable variable_fields PairFits variable_codec variable_cut n []))
    (λ ps fits. (fits.0, (refl, variables_again [] ps fits.1.0.each fits.1.0.distinct fits.1.1)))

-- ---- commands

cut5 : (p : List ℕ) (a : List (List ℕ)) (w : FilePath) (e : List (List ℕ × List ℕ)) (i : List FilePath)
    → IsCut (read5 p a w e i) (λ c. counted template c.templates) (λ c. counted_fields template_fields c.templates) (Fits5 p a w e i)
cut5 p a w e i = last_cut (items_cut template_codec template_cut) (whole p a w e i) (λ c. c.templates)

cut4 : (p : List ℕ) (a : List (List ℕ)) (w : FilePath) (e : List (List ℕ × List ℕ))
    → IsCut (read4 p a w e) (λ c. counted path c.inputs ++ counted template c.templates)
    (λ c. counted_fields path_fields c.inputs ++ counted_fields template_fields c.templates) (Fits4 p a w e)
cut4 p a w e = behind_cut (λ c. c.inputs) (items_codec path_codec) (items_cut path_codec path_cut) (cut5 p a w e)

cut3 : (p : List ℕ) (a : List (List ℕ)) (w : FilePath)
    → IsCut (read3 p a w) (λ c. counted variable c.env ++ (counted path c.inputs ++ counted template c.templates))
    (λ c. counted_fields variable_fields c.env ++ (counted_fields path_fields c.inputs ++ counted_fields template_fields c.templates))
    (Fits3 p a w)
cut3 p a w = behind_cut (λ c. c.env) variables_codec variables_cut (cut4 p a w)

cut2 : (p : List ℕ) (a : List (List ℕ))
    → IsCut (read2 p a) (λ c. path c.cwd ++ (counted variable c.env ++ (counted path c.inputs ++ counted template c.templates)))
    (λ c. path_fields c.cwd ++
    (counted_fields variable_fields c.env ++
    (counted_fields path_fields c.inputs ++ counted_fields template_fields c.templates))) (Fits2 p a)
cut2 p a = behind_cut (λ c. c.cwd) path_codec path_cut (cut3 p a)

cut1 : (p : List ℕ)
    → IsCut (read1 p) (λ c. counted content c.args ++ (path c.cwd
    ++ (counted variable c.env ++ (counted path c.inputs ++ counted template c.templates))))
    (λ c. counted_fields content_fields c.args ++
    (path_fields c.cwd ++
    (counted_fields variable_fields c.env ++
    (counted_fields path_fields c.inputs ++ counted_fields template_fields c.templates)))) (Fits1 p)
cut1 p = behind_cut (λ c. c.args) (items_codec (bytes_codec is_text)) (items_cut (bytes_codec is_text) (bytes_cut is_text)) (cut2 p)

pub parts_cut : IsCut parts_at command command_fields Fits0
unfolding parts_at
parts_cut = behind_cut (λ c. c.program) (bytes_codec is_program) (bytes_cut is_program) cut1

pub command_cut : IsCut command_at command command_fields IsCommand
unfolding command_at limited
command_cut = record {
  whole = λ c is. parts_cut.whole c (command_fits c is);
  cut = λ bytes at c next end stands is le lt.
      let short : length (take end bytes) ≤ at + max_command = omega (arith, length-take end bytes, stands.next_is, is.short) in
      rw (take_all (at + max_command) (take end bytes) short) (parts_cut.cut bytes at c next end stands (command_fits c is) le lt);
}

-- ---- jobs

node_whole : (n : Node) → NodeFits n → sum (node_fields (Some n)) ≡ length (job_node n)
node_whole Folder fits = omega (arith, sum_more 1 [])
node_whole (File c false) fits = omega (arith, sum_more 1 (content_fields c), (content_cut max_file (lit< tt)).whole c fits)
node_whole (File c true) fits = omega (arith, sum_more 1 (content_fields c), (content_cut max_file (lit< tt)).whole c fits)

short_node : (bytes : List ℕ) (at next end : ℕ) → Stands bytes at (1 ∷ []) next → at + 1 ≤ end → end < next → ⊥
short_node bytes at next end stands ge lt = omega (arith, stands.next_is)

node_ends : (bytes : List ℕ) (at : ℕ) (n : Node) (next end : ℕ) → Stands bytes at (job_node n) next → NodeFits n
    → at ≤ end → end < next → job_node_at (take end bytes) at ≡ Err (at + start_of (end - at) (node_fields (Some n)))
unfolding job_node_at job_file_at
node_ends bytes at Folder next end stands fits le lt =
    tagged_cut job_node_kinds 1 (lit< tt) bytes at [] next end [] stands le (λ ge. absurd (short_node bytes at next end stands ge lt))
node_ends bytes at (File c false) next end stands fits le lt =
    tagged_cut job_node_kinds 2 (lit< tt) bytes at (content c) next end (content_fields c) stands le
    (λ ge. one_cut (content_cut max_file (lit< tt)) (λ d. File d false) bytes (at + 1) c next end
    (stands_second bytes at (2 ∷ []) (content c) next stands) fits ge lt)
node_ends bytes at (File c true) next end stands fits le lt =
    tagged_cut job_node_kinds 3 (lit< tt) bytes at (content c) next end (content_fields c) stands le
    (λ ge. one_cut (content_cut max_file (lit< tt)) (λ d. File d true) bytes (at + 1) c next end
    (stands_second bytes at (3 ∷ []) (content c) next stands) fits ge lt)

node_cut : IsCut job_node_at job_node (λ n. node_fields (Some n)) NodeFits
node_cut = record { whole = node_whole; cut = node_ends }

pub job_row_cut : IsCut job_row_at job_row job_row_fields RowFits
unfolding job_row_at
job_row_cut =
    cut_for
    (behind_cut (λ (r : JobRow). r.path) path_codec path_cut
    (λ p. last_cut node_cut (λ n. record { path = p; node = n }) (λ (r : JobRow). r.node)))
    (λ r fits. (fits.is_path, ((fits.small, fits.bytes), refl)))

job_rows_cut : IsCut job_rows_at (λ rows. digits w32 (length rows) ++ flat_map job_row rows) (λ rows. 4 ∷ flat_map job_row_fields rows)
    (λ rows. (length rows < 2 ^ 32) × AllByRecursion RowFits rows)
unfolding job_rows_at
job_rows_cut =
    cut_for (counted_cut length u32_codec u32_cut (λ n lt. alike_cut job_row_codec job_row_cut n)) (λ xs fits. (fits.0, (refl, fits.1)))

pub job_cut : IsCut job_at job job_fields IsJob
unfolding job_at
job_cut =
    cut_for
    (behind_cut (λ (j : Job). j.command) command_codec command_cut
    (λ c. last_cut job_rows_cut (λ rows. record { command = c; rows = rows }) (λ (j : Job). j.rows))) (λ j is. (
      is.command_is,
      ((is.few, is.rows), refl),
    ))
