use Rattle.std.proofs.Common.{rules, ◌∙◌, ℕ, List, sym, ap}
use Rattle.std.specs.Prelude.{is_ok}
use Rattle.file_paths.specs.Path.{path_of}
use Rattle.client_proof.specs.Words.{root_of_word}
use Rattle.client_prog.proofs.Checks.{path_refused, root_refused, both_taken}
use Rattle.client_prog.proofs.words.root_and_path.Goals as goal

pub returns-then-not-is_path_text : goal.returns-then-not-is_path_text
returns-then-not-is_path_text c = path_refused c.args.root.now c.args.path.now c.is_path_text.result
    (c.is_path_text.ensures ∙ ap (λ (t : List ℕ). is_ok (path_of t)) c.as_bytes.ensures.value) (search rules)

pub returns-in-Some : goal.returns-in-Some
returns-in-Some c = both_taken c.args.root.now c.args.path.now c.as_bytes-in-Some.result.now c.in-Some.root c.as_bytes-in-Some.ensures.value
    (sym c.in-Some.is ∙ c.root_of_word.ensures ∙ ap root_of_word c.as_bytes-2.ensures.value)
    (ap (λ (t : List ℕ). is_ok (path_of t)) (sym c.as_bytes.ensures.value) ∙ sym c.is_path_text.ensures ∙ search rules)

pub returns-in-None : goal.returns-in-None
returns-in-None c = root_refused c.args.root.now c.args.path.now c.root_of_word.result
    (c.root_of_word.ensures ∙ ap root_of_word c.as_bytes-2.ensures.value) c.in-None.is
