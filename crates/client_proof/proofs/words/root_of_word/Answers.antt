use Rattle.std.proofs.Common.{◌≡◌, ◌∙◌, true, sym, ap}
use Rattle.std.specs.List.{list_all}
use Rattle.std.specs.Result.{result_ok}
use Rattle.hex.specs.Hex.{decode_sized}
use Rattle.client_proof.specs.Words.{is_lower_digit}
use Rattle.client_proof.proofs.Writing.{picked}
use Rattle.client_proof.proofs.words.root_of_word.Goals as goal

pub returns-then-has_lower_digits : goal.returns-then-has_lower_digits
returns-then-has_lower_digits c =
    let lower : list_all is_lower_digit c.args.word.now ≡ true = sym c.has_lower_digits.ensures ∙ c.if-has_lower_digits.true in
    let read : c.ok.result ≡ result_ok (decode_sized c.args.word.now 32) = c.ok.ensures.value ∙ ap result_ok c.from_hex.ensures in
    read ∙ sym (picked (list_all is_lower_digit c.args.word.now) (result_ok (decode_sized c.args.word.now 32)) lower)
