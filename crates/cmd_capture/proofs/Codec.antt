-- The laws of commands and jobs: what is read is spelled so, and what is spelled so is read.
use Rattle.std.proofs.Common.{◌≡◌, ℕ, ◌+◌, ◌^◌, ◌<◌, ◌≤◌, Bool, true, false, ◌&&◌, leb, List, [], ◌∷◌}
use Rattle.std.proofs.Common.{◌++◌, length, map, Some, Ok, refl, sym, ap, subst, ◌∙◌, append_assoc, append-nil, arith, lit<}
use Rattle.std.proofs.Common.{true≢false, inl, inr, length-append}
use Rattle.std.specs.Int.{w8, w16, w32}
use Rattle.std.specs.List.{flat_map, AllByRecursion, IsDistinct}
use Rattle.std.specs.Str.{bytes_eq}
use Rattle.std.specs.Cmp.Lexicographic.{bytes_decides}
use Rattle.std.proofs.lemmas.Bool.{leb-true, le-leb, and_parts}
use Rattle.std.proofs.lemmas.List.Concat.{flat_map-cons}
use Rattle.std.proofs.Math.Nat.{mod-eq_of_lt}
use Rattle.byte_fields.specs.Field.{Reader, ◌>>=◌, digits, one, EachFits}
use Rattle.byte_fields.specs.Codec.{Stands, IsBytes, IsCodec}
use Rattle.byte_fields.proofs.Codec.{IsBranch, span_codec, u8_codec, u16_codec, u32_codec, ruled_codec, bind_ok, bind_err, stands_both}
use Rattle.byte_fields.proofs.Codec.{stands_first, stands_second, found1, again1, fault1, each_codec, counted_codec, codec_for}
use Rattle.byte_fields.proofs.Codec.{limited_codec, tagged_found, tagged_fault, tagged_again0, tagged_again1, branch0, branch1}
use Rattle.byte_fields.proofs.Facts.{not_of, or_false_of, two_bytes, no_bytes}
use Rattle.file_paths.specs.Limits.{max_file}
use Rattle.file_paths.specs.Path.{FilePath, IsPath}
use Rattle.file_paths.specs.Spelling.{path, content}
use Rattle.file_paths.specs.Reading.{path_at}
use Rattle.tree_values.specs.Tree.{node_size, file_bytes}
use Rattle.tree_values.specs.declared.node.Node.{Node}
use Rattle.tree_values.specs.declared.node.Node.TheVariants.{Folder, File}
use Rattle.file_paths.proofs.Parts.{path_codec, content_codec}
use Rattle.file_paths.proofs.Sizes.{path_length, content_length}
use Rattle.cmd_capture.specs.Limits.{max_command, max_template}
use Rattle.cmd_capture.specs.declared.command.Command.{Command}
use Rattle.cmd_capture.specs.Job.{Job}
use Rattle.cmd_capture.specs.declared.job.JobRow.{JobRow}
use Rattle.cmd_capture.specs.Environment.{has_key}
use Rattle.cmd_capture.specs.Rules.{is_text, is_program, is_key, is_pattern, is_template, IsVariable, AreVariables}
use Rattle.cmd_capture.specs.Spelling.{variable, template, counted, command, AreParts, CountsFit, IsCommand, job_node, job_row, job}
use Rattle.cmd_capture.specs.Spelling.{RowFits, IsJob}
use Rattle.cmd_capture.specs.Reading.{bytes_at, text_at, template_at, is_new_key, variable_at, with_pair, variables_at, alike_at}
use Rattle.cmd_capture.specs.Reading.{counted_at, parts_at, command_at, job_file_at, job_node_kinds, job_node_at, job_row_at, job_rows_at, job_at}

-- ---- one field and what is read behind it

module _ {A B : Type 0} {first : Reader B} {items : B → Reader A} {spelled : B → List ℕ} {s : A → List ℕ} {FirstFits : B → Type 0}
    {ItemsFit : B → A → Type 0} (first_of : A → B)
    (codec : IsCodec first spelled FirstFits) (codec' : (n : B) → IsCodec (items n) s (ItemsFit n))
    (same : (n : B) (x : A) → ItemsFit n x → first_of x ≡ n) where
  pub behind_codec : IsCodec (λ bytes at. first bytes at >>= λ n. items n.0 bytes n.1) (λ x. spelled (first_of x) ++ s x)
      (λ x. FirstFits (first_of x) × ItemsFit (first_of x) x)
  behind_codec = record {
    found = λ bytes at x next fits le e.
        let b = bind_ok (first bytes at) (λ n. items n.0 bytes n.1) (x, next) e in
        let one = codec.found bytes at b.0.0 b.0.1 fits le b.1 in
        let rest = (codec' b.0.0).found bytes b.0.1 x next fits one.0.within b.2 in
        let both = stands_both bytes at (spelled b.0.0) b.0.1 (s x) next one.0 rest.0 in
        subst (λ (n : B). Stands bytes at (spelled n ++ s x) next × (FirstFits n × ItemsFit n x)) (sym (same b.0.0 x rest.1))
        (both, (one.1, rest.1));
    again = λ bytes at x next stands fits.
        let n = first_of x in
        let here = stands_first bytes at (spelled n) (s x) next stands in
        let there = stands_second bytes at (spelled n) (s x) next stands in
        rw (codec.again bytes at n (at + length (spelled n)) here fits.0)
        ((codec' n).again bytes (at + length (spelled n)) x next there fits.1);
    fault = λ bytes at place fits le e.
        elim (bind_err (first bytes at) (λ n. items n.0 bytes n.1) place e) [
          | inl here ↦ codec.fault bytes at place fits le here
          | inr b ↦
              let one = codec.found bytes at b.0.0 b.0.1 fits le b.1 in
              let p = (codec' b.0.0).fault bytes b.0.1 place fits one.0.within b.2 in
              record { begins = omega (arith, one.0.next_is, p.begins); within = p.within }
        ];
  }

module _ {A C : Type 0} {read : Reader A} {s : A → List ℕ} {F : A → Type 0} (codec : IsCodec read s F) (made : A → C) (field : C → A)
    (back : (x : A) → field (made x) ≡ x) where
  -- the last field
  pub last_codec : IsCodec (one read made) (λ c. s (field c)) (λ c. F (field c) × (made (field c) ≡ c))
  last_codec = record {
    found = λ bytes at c next fits le e.
        let r = found1 codec made bytes at c next fits le e in
        let is : field c ≡ r.first = ap field (sym r.is) ∙ back r.first in
        (subst (λ x. Stands bytes at (s x) next) (sym is) r.stands, (subst F (sym is) r.fits, ap made is ∙ r.is));
    again = λ bytes at c next stands fits. again1 codec made bytes at (field c) next stands fits.0 ∙ ap (λ (d : C). Ok (d, next)) fits.1;
    fault = fault1 codec made;
  }

-- another spelling that is the same for what fits
spelled_codec : {A : Type 0} {read : Reader A} {s s' : A → List ℕ} {F : A → Type 0} → IsCodec read s F
    → ((x : A) → F x → s x ≡ s' x) → IsCodec read s' F
spelled_codec codec same = record {
  found =
      λ bytes at x next fits le e. let r = codec.found bytes at x next fits le e in
      (subst (λ t. Stands bytes at t next) (same x r.1) r.0, r.1);
  again = λ bytes at x next stands fits. codec.again bytes at x next (subst (λ t. Stands bytes at t next) (sym (same x fits)) stands) fits;
  fault = codec.fault;
}

-- ---- bytes and templates

-- how many bytes there may be, and their rule
abbrev pub BytesFit : (List ℕ → Bool) → List ℕ → Type 0
BytesFit rule t = (length t < 2 ^ 32) × (rule t ≡ true)

pub bytes_codec : (rule : List ℕ → Bool) → IsCodec (bytes_at rule) content (BytesFit rule)
unfolding bytes_at
bytes_codec rule =
    codec_for (counted_codec length u32_codec (λ n lt. ruled_codec rule (span_codec n)) (λ n t fits. fits.0))
    (λ t fits. (fits.0, fits.1.1))
    (λ t fits. (fits.0, (refl, fits.1)))

pub low_byte : (n : ℕ) → n < 2 ^ 8 → n ∷ [] ≡ digits w8 n
unfolding digits
low_byte n lt = ap (λ (b : ℕ). b ∷ []) (sym (mod-eq_of_lt lt))

pub template_codec : IsCodec template_at template (λ t. is_template t ≡ true)
unfolding template_at
template_codec =
    spelled_codec
    (codec_for (counted_codec length (ruled_codec (leb 1) u8_codec) (λ n fits. ruled_codec is_pattern (span_codec n)) (λ n t fits. fits.0))
    (λ t fits. rw (fits.0.1, le-leb (length t) max_template (omega (arith, fits.0.0))) fits.1.1)
    (λ t fits.
    let a = and_parts (leb 1 (length t)) (leb (length t) max_template && is_pattern t) fits in
    let b = and_parts (leb (length t) max_template) (is_pattern t) a.1 in
    ((omega (arith, leb-true (length t) max_template b.0), a.0), (refl, b.1))))
    (λ t fits.
    let a = and_parts (leb 1 (length t)) (leb (length t) max_template && is_pattern t) fits in
    let b = and_parts (leb (length t) max_template) (is_pattern t) a.1 in
    ap (λ (front : List ℕ). front ++ t) (low_byte (length t) (omega (arith, leb-true (length t) max_template b.0))))

-- ---- items of which none asks for another

alike_found : {A : Type 0} (F : A → Type 0) (xs : List A)
    → EachFits {S = Unit {0}} (λ state x. F x) (λ state x. state) tt xs → AllByRecursion F xs
alike_found F [] fits = tt
alike_found F (x ∷ xs) fits = (fits.0, alike_found F xs fits.1)

pub alike_again : {A : Type 0} (F : A → Type 0) (xs : List A) → AllByRecursion F xs
    → EachFits {S = Unit {0}} (λ state x. F x) (λ state x. state) tt xs
alike_again F [] fits = tt
alike_again F (x ∷ xs) fits = (fits.0, alike_again F xs fits.1)

pub alike_codec : {A : Type 0} {item : Reader A} {s : A → List ℕ} {F : A → Type 0} → IsCodec item s F → (n : ℕ)
    → IsCodec (alike_at item n) (flat_map s) (λ xs. (length xs ≡ n) × AllByRecursion F xs)
unfolding alike_at
alike_codec {A} {item} {s} {F} codec n =
    codec_for (each_codec {S = Unit {0}} {A = A} (λ state. item) (λ state x. state) s (λ state x. F x) (λ state. codec) n tt)
    (λ xs fits. (fits.0, alike_found F xs fits.1))
    (λ xs fits. (fits.0, alike_again F xs fits.1))

abbrev pub CountedFit : {A : Type 0} → (A → Type 0) → List A → Type 0
CountedFit F xs = (length xs < 2 ^ 16) × AllByRecursion F xs

pub items_codec : {A : Type 0} {item : Reader A} {s : A → List ℕ} {F : A → Type 0} → IsCodec item s F
    → IsCodec (counted_at item) (counted s) (CountedFit F)
unfolding counted_at
items_codec codec =
    codec_for (counted_codec length u16_codec (λ n lt. alike_codec codec n) (λ n xs fits. fits.0))
    (λ xs fits. (fits.0, fits.1.1))
    (λ xs fits. (fits.0, (refl, fits.1)))

-- ---- variables

abbrev pub PairFits : List (List ℕ × List ℕ) → List ℕ × List ℕ → Type 0
PairFits pairs pair = BytesFit (λ key. is_key key && is_new_key pairs key) pair.0 × BytesFit is_text pair.1

pub variable_codec : (pairs : List (List ℕ × List ℕ)) → IsCodec (variable_at pairs) variable (PairFits pairs)
unfolding variable_at
variable_codec pairs =
    codec_for
    (behind_codec (λ (pair : List ℕ × List ℕ). pair.0) (bytes_codec (λ key. is_key key && is_new_key pairs key))
    (λ key. last_codec (bytes_codec is_text) (λ value. (key, value)) (λ pair. pair.1) (λ value. refl)) (λ key pair fits. ap
    (λ (p : List ℕ × List ℕ). p.0) (sym fits.1)))
    (λ pair fits. (fits.0, fits.1.0))
    (λ pair fits. (fits.0, (fits.1, refl)))

abbrev pub keys : List (List ℕ × List ℕ) → List (List ℕ)
keys pairs = map (λ pair. pair.0) pairs

pub both_ways : (x y : List ℕ) → bytes_eq x y ≡ false → bytes_eq y x ≡ false
both_ways x y e = by (bytes_eq y x) refl
  where
    by : (b : Bool) → bytes_eq y x ≡ b → bytes_eq y x ≡ false
    by false h = h
    by true h = absurd (true≢false (sym ((bytes_decides x y).1 (sym ((bytes_decides y x).0 h))) ∙ e))

-- a key that none has keeps the keys distinct
pub one_more_key : (front : List (List ℕ × List ℕ)) (pair : List ℕ × List ℕ) → IsDistinct bytes_eq (keys front)
    → has_key front pair.0 ≡ false → IsDistinct bytes_eq (keys (front ++ pair ∷ []))
unfolding IsDistinct
one_more_key [] pair distinct new = (tt, tt)
one_more_key (p ∷ front) pair distinct new =
    let apart = or_false_of (bytes_eq pair.0 p.0) (has_key front pair.0) new in
    (behind front distinct.0 (both_ways pair.0 p.0 apart.0), one_more_key front pair distinct.1 apart.1)
  where
    behind : (xs : List (List ℕ × List ℕ)) → AllByRecursion (λ key. bytes_eq p.0 key ≡ false) (keys xs)
        → bytes_eq p.0 pair.0 ≡ false → AllByRecursion (λ key. bytes_eq p.0 key ≡ false) (keys (xs ++ pair ∷ []))
    behind [] all last = (last, tt)
    behind (x ∷ xs) all last = (all.0, behind xs all.1 last)

-- a key behind others differs from them
pub key_is_new : (front : List (List ℕ × List ℕ)) (pair : List ℕ × List ℕ) (more : List (List ℕ × List ℕ))
    → IsDistinct bytes_eq (keys (front ++ pair ∷ more)) → has_key front pair.0 ≡ false
unfolding IsDistinct
key_is_new [] pair more distinct = refl
key_is_new (p ∷ front) pair more distinct = rw (both_ways p.0 pair.0 (among front distinct.0), key_is_new front pair more distinct.1) refl
  where
    among : (xs : List (List ℕ × List ℕ))
        → AllByRecursion (λ key. bytes_eq p.0 key ≡ false) (keys (xs ++ pair ∷ more)) → bytes_eq p.0 pair.0 ≡ false
    among [] all = all.0
    among (x ∷ xs) all = among xs all.1

-- how long the parts of a variable are
abbrev pub IsShortPair : List ℕ × List ℕ → Type 0
IsShortPair pair = (length pair.0 < 2 ^ 32) × (length pair.1 < 2 ^ 32)

variables_found : (front pairs : List (List ℕ × List ℕ)) → IsDistinct bytes_eq (keys front) → EachFits PairFits with_pair front pairs
    → AllByRecursion IsVariable pairs × (IsDistinct bytes_eq (keys (front ++ pairs)) × AllByRecursion IsShortPair pairs)
variables_found front [] distinct fits = (tt, (rw (append-nil front) distinct, tt))
variables_found front (p ∷ pairs) distinct fits =
    let k = and_parts (is_key p.0) (is_new_key front p.0) fits.0.0.1 in
    let more = one_more_key front p distinct (not_of (has_key front p.0) k.1) in
    let rest = variables_found (front ++ p ∷ []) pairs more fits.1 in
    let whole : (front ++ p ∷ []) ++ pairs ≡ front ++ p ∷ pairs = append_assoc front (p ∷ []) pairs in
    (((k.0, fits.0.1.1), rest.0), (subst (λ ps. IsDistinct bytes_eq (keys ps)) whole rest.1.0, ((fits.0.0.0, fits.0.1.0), rest.1.1)))

pub variables_again : (front pairs : List (List ℕ × List ℕ)) → AllByRecursion IsVariable pairs
    → IsDistinct bytes_eq (keys (front ++ pairs)) → AllByRecursion IsShortPair pairs
    → EachFits PairFits with_pair front pairs
variables_again front [] each distinct small = tt
variables_again front (p ∷ pairs) each distinct small =
    let whole : (front ++ p ∷ []) ++ pairs ≡ front ++ p ∷ pairs = append_assoc front (p ∷ []) pairs in (
      ((small.0.0, rw (each.0.0, key_is_new front p pairs distinct) refl), (small.0.1, each.0.1)),
      variables_again
          (front ++ p ∷ []) pairs each.1 (subst (λ ps. IsDistinct bytes_eq (keys ps)) (sym whole) distinct) small.1,
    )

abbrev pub VariablesFit : List (List ℕ × List ℕ) → Type 0
VariablesFit pairs = (length pairs < 2 ^ 16) × (AreVariables pairs × AllByRecursion IsShortPair pairs)

pub variables_codec : IsCodec variables_at (counted variable) VariablesFit
unfolding variables_at IsDistinct
variables_codec =
    codec_for
    (counted_codec length u16_codec (λ n lt. each_codec variable_at with_pair variable PairFits variable_codec n []) (λ n ps fits. fits.0))
    (λ ps fits. let r = variables_found [] ps tt fits.1.1 in (fits.0, (record { each = r.0; distinct = r.1.0 }, r.1.1)))
    (λ ps fits. (fits.0, (refl, variables_again [] ps fits.1.0.each fits.1.0.distinct fits.1.1)))

-- ---- how long the parts are

one_byte : (n : ℕ) → length (digits w8 n) ≡ 1
unfolding digits
one_byte n = refl

module _ {A : Type 0} (s : A → List ℕ) where
  -- items of at least one byte each
  flat_long : ((x : A) → 1 ≤ length (s x)) → (xs : List A) → length xs ≤ length (flat_map s xs)
  flat_long low [] = omega arith
  flat_long low (x ∷ xs) = omega (arith, ap length (flat_map-cons s x xs), length-append (s x) (flat_map s xs), low x, flat_long low xs)

  each_short : (n : ℕ) (xs : List A) → length (flat_map s xs) ≤ n → AllByRecursion (λ x. length (s x) ≤ n) xs
  each_short n [] le = tt
  each_short n (x ∷ xs) le =
      let whole = length-append (s x) (flat_map s xs) in
      let long = ap length (flat_map-cons s x xs) in
      (omega (arith, whole, long, le), each_short n xs (omega (arith, whole, long, le)))

  pub few_items : ((x : A) → 1 ≤ length (s x)) → (xs : List A) → length (counted s xs) ≤ max_command → length xs < 2 ^ 16
  few_items low xs le = omega (arith, length-append (digits w16 (length xs)) (flat_map s xs), two_bytes (length xs), flat_long low xs, le)

  pub short_items : (n : ℕ) (xs : List A) → length (counted s xs) ≤ n → AllByRecursion (λ x. length (s x) ≤ n) xs
  short_items n xs le = each_short n xs (omega (arith, length-append (digits w16 (length xs)) (flat_map s xs), le))

pub content_low : (t : List ℕ) → 1 ≤ length (content t)
content_low t = omega (arith, content_length t)

pub path_low : (p : FilePath) → 1 ≤ length (path p)
path_low p = omega (arith, path_length p)

pub variable_low : (pair : List ℕ × List ℕ) → 1 ≤ length (variable pair)
variable_low pair = omega (arith, length-append (content pair.0) (content pair.1), content_length pair.0)

template_low : (t : List ℕ) → 1 ≤ length (template t)
template_low t = omega (arith, length-append (digits w8 (length t)) t, one_byte (length t))

pub short_texts : (n : ℕ) → n < 2 ^ 32 → (xs : List (List ℕ)) → AllByRecursion (λ x. length (content x) ≤ n) xs
    → AllByRecursion (λ x. is_text x ≡ true) xs → AllByRecursion (BytesFit is_text) xs
short_texts n lt [] short texts = tt
short_texts n lt (x ∷ xs) short texts = ((omega (arith, content_length x, short.0), texts.0), short_texts n lt xs short.1 texts.1)

pub short_pairs : (n : ℕ) → n < 2 ^ 32 → (xs : List (List ℕ × List ℕ))
    → AllByRecursion (λ x. length (variable x) ≤ n) xs → AllByRecursion IsShortPair xs
short_pairs n lt [] short = tt
short_pairs n lt (x ∷ xs) short =
    let both = length-append (content x.0) (content x.1) in
    ((omega (arith, both, content_length x.0, short.0), omega (arith, both, content_length x.1, short.0)), short_pairs n lt xs short.1)

texts_of : (xs : List (List ℕ)) → AllByRecursion (BytesFit is_text) xs → AllByRecursion (λ x. is_text x ≡ true) xs
texts_of [] fits = tt
texts_of (x ∷ xs) fits = (fits.0.1, texts_of xs fits.1)

-- ---- commands

abbrev pub whole : List ℕ → List (List ℕ) → FilePath → List (List ℕ × List ℕ) → List FilePath → List (List ℕ) → Command
whole p a w e i t = record { program = p; args = a; cwd = w; env = e; inputs = i; templates = t }

abbrev pub Fits5 : List ℕ → List (List ℕ) → FilePath → List (List ℕ × List ℕ) → List FilePath → Command → Type 0
Fits5 p a w e i c = CountedFit (λ t. is_template t ≡ true) c.templates × (whole p a w e i c.templates ≡ c)

abbrev pub Fits4 : List ℕ → List (List ℕ) → FilePath → List (List ℕ × List ℕ) → Command → Type 0
Fits4 p a w e c = CountedFit IsPath c.inputs × Fits5 p a w e c.inputs c

abbrev pub Fits3 : List ℕ → List (List ℕ) → FilePath → Command → Type 0
Fits3 p a w c = VariablesFit c.env × Fits4 p a w c.env c

abbrev pub Fits2 : List ℕ → List (List ℕ) → Command → Type 0
Fits2 p a c = IsPath c.cwd × Fits3 p a c.cwd c

abbrev pub Fits1 : List ℕ → Command → Type 0
Fits1 p c = CountedFit (BytesFit is_text) c.args × Fits2 p c.args c

abbrev pub Fits0 : Command → Type 0
Fits0 c = BytesFit is_program c.program × Fits1 c.program c

abbrev pub read5 : List ℕ → List (List ℕ) → FilePath → List (List ℕ × List ℕ) → List FilePath → Reader Command
read5 p a w e i = one (counted_at template_at) (whole p a w e i)

abbrev pub read4 : List ℕ → List (List ℕ) → FilePath → List (List ℕ × List ℕ) → Reader Command
read4 p a w e bytes at = counted_at path_at bytes at >>= λ i. read5 p a w e i.0 bytes i.1

abbrev pub read3 : List ℕ → List (List ℕ) → FilePath → Reader Command
read3 p a w bytes at = variables_at bytes at >>= λ e. read4 p a w e.0 bytes e.1

abbrev pub read2 : List ℕ → List (List ℕ) → Reader Command
read2 p a bytes at = path_at bytes at >>= λ w. read3 p a w.0 bytes w.1

abbrev pub read1 : List ℕ → Reader Command
read1 p bytes at = counted_at text_at bytes at >>= λ a. read2 p a.0 bytes a.1

codec5 : (p : List ℕ) (a : List (List ℕ)) (w : FilePath) (e : List (List ℕ × List ℕ)) (i : List FilePath)
    → IsCodec (read5 p a w e i) (λ c. counted template c.templates) (Fits5 p a w e i)
codec5 p a w e i = last_codec (items_codec template_codec) (whole p a w e i) (λ c. c.templates) (λ t. refl)

codec4 : (p : List ℕ) (a : List (List ℕ)) (w : FilePath) (e : List (List ℕ × List ℕ))
    → IsCodec (read4 p a w e) (λ c. counted path c.inputs ++ counted template c.templates) (Fits4 p a w e)
codec4 p a w e = behind_codec (λ c. c.inputs) (items_codec path_codec) (codec5 p a w e) (λ i c fits. ap (λ d. d.inputs) (sym fits.1))

codec3 : (p : List ℕ) (a : List (List ℕ)) (w : FilePath)
    → IsCodec (read3 p a w) (λ c. counted variable c.env ++ (counted path c.inputs ++ counted template c.templates)) (Fits3 p a w)
codec3 p a w = behind_codec (λ c. c.env) variables_codec (codec4 p a w) (λ e c fits. ap (λ d. d.env) (sym fits.1.1))

codec2 : (p : List ℕ) (a : List (List ℕ))
    → IsCodec (read2 p a) (λ c. path c.cwd ++ (counted variable c.env ++ (counted path c.inputs ++ counted template c.templates)))
    (Fits2 p a)
codec2 p a = behind_codec (λ c. c.cwd) path_codec (codec3 p a) (λ w c fits. ap (λ d. d.cwd) (sym fits.1.1.1))

codec1 : (p : List ℕ)
    → IsCodec (read1 p) (λ c. counted content c.args ++ (path c.cwd
    ++ (counted variable c.env ++ (counted path c.inputs ++ counted template c.templates)))) (Fits1 p)
codec1 p = behind_codec (λ c. c.args) (items_codec (bytes_codec is_text)) (codec2 p) (λ a c fits. ap (λ d. d.args) (sym fits.1.1.1.1))

parts_codec : IsCodec parts_at command Fits0
unfolding parts_at
parts_codec = behind_codec (λ c. c.program) (bytes_codec is_program) codec1 (λ p c fits. ap (λ d. d.program) (sym fits.1.1.1.1.1))

-- how long the six parts are together
command_len : (c : Command)
    → length (command c) ≡ length (content c.program) + (length (counted content c.args)
    + (length (path c.cwd) + (length (counted variable c.env) + (length (counted path c.inputs) + length (counted template c.templates)))))
command_len c =
    omega (
      arith,
      length-append (content c.program)
          (counted content c.args ++ (path c.cwd ++ (counted variable c.env ++ (counted path c.inputs ++ counted template c.templates)))),
      length-append (counted content c.args)
          (path c.cwd ++ (counted variable c.env ++ (counted path c.inputs ++ counted template c.templates))),
      length-append (path c.cwd) (counted variable c.env ++ (counted path c.inputs ++ counted template c.templates)),
      length-append (counted variable c.env) (counted path c.inputs ++ counted template c.templates),
      length-append (counted path c.inputs) (counted template c.templates),
    )

-- parts that keep their rules fit, where each count has its two bytes and each length its four
pub parts_fit : (c : Command) → AreParts c → CountsFit c → length (command c) < 2 ^ 32 → Fits0 c
parts_fit c are counts lt =
    let n = length (command c) in
    let len = command_len c in
    let args : length (counted content c.args) ≤ n = omega (arith, len) in
    let env : length (counted variable c.env) ≤ n = omega (arith, len) in (
      (omega (arith, content_length c.program, len, lt), are.program),
      (
        (counts.args, short_texts n lt c.args (short_items content n c.args args) are.args),
        (
          are.cwd,
          (
            (counts.env, (are.env, short_pairs n lt c.env (short_items variable n c.env env))),
            ((counts.inputs, are.inputs), ((counts.templates, are.templates), refl)),
          ),
        ),
      ),
    )

-- a short command has few of each
pub few_parts : (c : Command) → length (command c) ≤ max_command → CountsFit c
few_parts c short =
    let len = command_len c in
    record {
      args = few_items content content_low c.args (omega (arith, len, short));
      env = few_items variable variable_low c.env (omega (arith, len, short));
      inputs = few_items path path_low c.inputs (omega (arith, len, short));
      templates = few_items template template_low c.templates (omega (arith, len, short));
    }

pub command_fits : (c : Command) → IsCommand c → Fits0 c
command_fits c is = parts_fit c is.parts (few_parts c is.short) (omega (arith, is.short))

pub command_codec : IsCodec command_at command IsCommand
unfolding command_at
command_codec =
    codec_for (limited_codec max_command parts_codec)
    (λ c fits. record {
      parts =
          record {
            program = fits.0.0.1;
            args = texts_of c.args fits.0.1.0.1;
            cwd = fits.0.1.1.0;
            env = fits.0.1.1.1.0.1.0;
            inputs = fits.0.1.1.1.1.0.1;
            templates = fits.0.1.1.1.1.1.0.1;
          };
      short = fits.1;
    })
    (λ c is. (command_fits c is, is.short))

-- ---- jobs

abbrev pub NodeFits : Node → Type 0
NodeFits n = (node_size (Some n) ≤ max_file) × IsBytes (file_bytes (Some n))

node_again : (bytes : List ℕ) (at : ℕ) (n : Node) (next : ℕ) → Stands bytes at (job_node n) next → NodeFits n → job_node_at bytes at ≡ Ok (n, next)
unfolding job_node_at job_file_at
node_again bytes at Folder next stands fits = tagged_again0 job_node_kinds 1 (lit< tt) Folder bytes at next refl stands
node_again bytes at (File c false) next stands fits =
    tagged_again1 job_node_kinds 2 (lit< tt) (content_codec max_file (lit< tt)) (λ d. File d false) bytes at c next refl stands fits
node_again bytes at (File c true) next stands fits =
    tagged_again1 job_node_kinds 3 (lit< tt) (content_codec max_file (lit< tt)) (λ d. File d true) bytes at c next refl stands fits

abbrev kind_of_file : Bool → ℕ
kind_of_file false = 2
kind_of_file true = 3

file_branch : (exec : Bool) → IsBranch job_node NodeFits (kind_of_file exec) (job_file_at exec)
unfolding job_file_at
file_branch false = branch1 (lit< tt) (content_codec max_file (lit< tt)) (λ c. File c false) (λ c. refl) (λ c le. le)
file_branch true = branch1 (lit< tt) (content_codec max_file (lit< tt)) (λ c. File c true) (λ c. refl) (λ c le. le)

node_branches : AllByRecursion (λ (k : ℕ × Reader Node). IsBranch job_node NodeFits k.0 k.1) job_node_kinds
unfolding job_file_at
node_branches =
    (branch0 (lit< tt) Folder refl (omega arith, no_bytes), (file_branch false, (file_branch true, tt)))

node_codec : IsCodec job_node_at job_node NodeFits
unfolding job_node_at
node_codec = record {
  found = tagged_found job_node NodeFits job_node_kinds node_branches;
  fault = tagged_fault job_node NodeFits job_node_kinds node_branches;
  again = node_again;
}

pub job_row_codec : IsCodec job_row_at job_row RowFits
unfolding job_row_at
job_row_codec =
    codec_for
    (behind_codec (λ (r : JobRow). r.path) path_codec
    (λ p. last_codec node_codec (λ n. record { path = p; node = n }) (λ (r : JobRow). r.node) (λ n. refl)) (λ p r fits. ap
    (λ (q : JobRow). q.path) (sym fits.1)))
    (λ r fits. record { is_path = fits.0; small = fits.1.0.0; bytes = fits.1.0.1 })
    (λ r fits. (fits.is_path, ((fits.small, fits.bytes), refl)))

job_rows_codec : IsCodec job_rows_at (λ rows. digits w32 (length rows) ++ flat_map job_row rows)
    (λ rows. (length rows < 2 ^ 32) × AllByRecursion RowFits rows)
unfolding job_rows_at
job_rows_codec =
    codec_for (counted_codec length u32_codec (λ n lt. alike_codec job_row_codec n) (λ n xs fits. fits.0))
    (λ xs fits. (fits.0, fits.1.1))
    (λ xs fits. (fits.0, (refl, fits.1)))

pub job_codec : IsCodec job_at job IsJob
unfolding job_at
job_codec =
    codec_for
    (behind_codec (λ (j : Job). j.command) command_codec
    (λ c. last_codec job_rows_codec (λ rows. record { command = c; rows = rows }) (λ (j : Job). j.rows) (λ rows. refl)) (λ c j fits. ap
    (λ (k : Job). k.command) (sym fits.1)))
    (λ j fits. record { command_is = fits.0; rows = fits.1.0.1; few = fits.1.0.0 })
    (λ j is. (is.command_is, ((is.few, is.rows), refl)))
