use Rattle.std.proofs.Common.{◌≡◌, ◌∙◌, true, List, ℕ, sym, ap}
use Rattle.std.specs.Prelude.{is_ok}
use Rattle.file_paths.specs.Path.{path_of}
use Rattle.server_prog.specs.Words.{is_prove_word}
use Rattle.program_words.proofs.Naming.{path_named}
use Rattle.server_prog.proofs.Forms.{prove_is}
use Rattle.server_prog.proofs.words.prove_form.Goals as goal

pub returns-then-is_path_text : goal.returns-then-is_path_text
returns-then-is_path_text c =
    let word : is_prove_word c.args.prove.now c.args.image.now ≡ true =
    ap (λ (t : List ℕ). is_prove_word t c.args.image.now) (sym c.as_bytes.ensures.value)
    ∙ ap (λ (t : List ℕ). is_prove_word c.as_bytes.result.now t) (sym c.as_bytes-2.ensures.value) ∙ sym c.is_prove.ensures ∙ c.if-is_prove.true in
    let ok : is_ok (path_of c.args.path.now) ≡ true =
    ap (λ (t : List ℕ). is_ok (path_of t)) (sym c.as_bytes-then-is_prove.ensures.value) ∙ sym c.is_path_text.ensures ∙ c.if-is_path_text.true in
    let named = path_named c.args.path.now ok in
    (named.0, named.1, prove_is c.args.prove.now c.args.image.now c.args.path.now named.0 word named.1)
