-- What waits for its removal has a name of no run.
use Rattle.std.proofs.Common.{◌≡◌, ℕ, Bool, true, false, ◌&&◌, length, take, drop, refl, ap, arith}
use Rattle.std.specs.Prelude.{List, nat_le}
use Rattle.std.specs.Str.{bytes_eq}
use Rattle.child_runner.specs.Names.{front, left_front, folder_name, left_name, is_print_and_number, is_folder_name, is_left_name}
use Rattle.child_runner.proofs.Known.{le_true}

pub left_is_no_run : (number : ℕ) → is_folder_name (left_name number) ≡ false
left_is_no_run number =
    let name = left_name number in
    ap (λ x. x && (bytes_eq (take 4 name) front && is_print_and_number (drop 4 name))) (le_true 4 (length name) (omega arith))

pub run_is_not_left : (print : List ℕ) (number : ℕ) → is_left_name (folder_name print number) ≡ false
run_is_not_left print number = by (nat_le 5 (length (folder_name print number)))
  where
    by : (b : Bool) → (b && bytes_eq (take 5 (folder_name print number)) left_front) ≡ false
    by true = refl
    by false = refl
