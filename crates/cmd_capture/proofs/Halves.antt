-- A command is read in two halves: what is started, and what is set for it.
use Rattle.std.proofs.Common.{◌≡◌, ℕ, List, Result, Ok, Err, refl, sym, ap, subst, ◌∙◌}
use Rattle.byte_fields.specs.declared.error.TakeError.{TakeError}
use Rattle.byte_fields.specs.declared.error.TakeError.TheVariants as errors
use Rattle.byte_fields.specs.Field.{Reader, ◌>>=◌, three, Fails}
use Rattle.file_paths.specs.Reading.{path_at}
use Rattle.cmd_capture.specs.declared.command.Command.{Command}
use Rattle.cmd_capture.specs.declared.command.Setting.{Setting}
use Rattle.cmd_capture.specs.declared.command.Start.{Start}
use Rattle.cmd_capture.specs.Rules.{is_program}
use Rattle.cmd_capture.specs.Reading.{bytes_at, text_at, template_at, variables_at, counted_at, parts_at}

-- what is read behind a value of three fields is read behind the third of them
module _ {A B C D E : Type 0} (first : Reader A) (second : A → Reader B) (third : A → B → Reader C) (made : A → B → C → D)
    (bytes : List ℕ) (behind wanted : D × ℕ → Result E ℕ) (same : (d : D × ℕ) → behind d ≡ wanted d) where
  behind_third : (x : A) (y : B) (r : Result (C × ℕ) ℕ)
      → ((r >>= λ z. Ok (made x y z.0, z.1)) >>= behind) ≡ (r >>= λ z. wanted (made x y z.0, z.1))
  behind_third x y (Ok z) = same (made x y z.0, z.1)
  behind_third x y (Err place) = refl

  behind_second : (x : A) (r : Result (B × ℕ) ℕ)
      → ((r >>= λ y. third x y.0 bytes y.1 >>= λ z. Ok (made x y.0 z.0, z.1)) >>= behind)
      ≡ (r >>= λ y. third x y.0 bytes y.1 >>= λ z. wanted (made x y.0 z.0, z.1))
  behind_second x (Ok y) = behind_third x y.0 (third x y.0 bytes y.1)
  behind_second x (Err place) = refl

  behind_first : (r : Result (A × ℕ) ℕ)
      → ((r >>= λ x. second x.0 bytes x.1 >>= λ y. third x.0 y.0 bytes y.1 >>= λ z. Ok (made x.0 y.0 z.0, z.1)) >>= behind)
      ≡ (r >>= λ x. second x.0 bytes x.1 >>= λ y. third x.0 y.0 bytes y.1 >>= λ z. wanted (made x.0 y.0 z.0, z.1))
  behind_first (Ok x) = behind_second x.0 (second x.0 bytes x.1)
  behind_first (Err place) = refl

-- the program, its arguments and its folder
abbrev start_at : Reader Start
start_at =
    three (bytes_at is_program) (λ _. counted_at text_at) (λ _ _. path_at)
    (λ program args cwd. record { program = program; args = args; cwd = cwd })

-- the variables, inputs and templates
abbrev setting_at : Reader Setting
setting_at =
    three variables_at (λ _. counted_at path_at) (λ _ _. counted_at template_at)
    (λ env inputs templates. record { env = env; inputs = inputs; templates = templates })

abbrev joined : Start → Setting → Command
joined s t =
    record { program = s.program; args = s.args; cwd = s.cwd; env = t.env; inputs = t.inputs; templates = t.templates }

-- a command of this first half, and the place after it
abbrev with_start : Start → Setting × ℕ → Result (Command × ℕ) ℕ
with_start s t = Ok (joined s t.0, t.1)

abbrev behind_start : List ℕ → Start × ℕ → Result (Command × ℕ) ℕ
behind_start bytes s = setting_at bytes s.1 >>= with_start s.0

-- the same in one row
abbrev row_behind_start : List ℕ → Start × ℕ → Result (Command × ℕ) ℕ
row_behind_start bytes s =
    variables_at bytes s.1 >>= λ env. counted_at path_at bytes env.1 >>= λ inputs. counted_at template_at bytes inputs.1
    >>= λ templates. with_start s.0 (record { env = env.0; inputs = inputs.0; templates = templates.0 }, templates.1)

one_row : (bytes : List ℕ) (s : Start × ℕ) → behind_start bytes s ≡ row_behind_start bytes s
one_row bytes s =
    behind_first variables_at (λ _. counted_at path_at) (λ _ _. counted_at template_at)
    (λ env inputs templates. record { env = env; inputs = inputs; templates = templates }) bytes (with_start s.0) (with_start s.0)
    (λ t. refl) (variables_at bytes s.1)

halves : (bytes : List ℕ) (at : ℕ) → (start_at bytes at >>= behind_start bytes) ≡ parts_at bytes at
unfolding parts_at
halves bytes at =
    behind_first (bytes_at is_program) (λ _. counted_at text_at) (λ _ _. path_at)
    (λ program args cwd. record { program = program; args = args; cwd = cwd }) bytes (behind_start bytes) (row_behind_start bytes)
    (one_row bytes) (bytes_at is_program bytes at)

-- where the first reader fails, so do both
first_fails : {A B : Type 0} (e : TakeError) (r : Result A ℕ) (f : A → Result B ℕ) → Fails e r → Fails e (r >>= f)
first_fails errors.Memory r f fails = tt
first_fails (errors.At place) r f fails = rw fails refl

pub start_fails : (bytes : List ℕ) (at : ℕ) (e : TakeError) → Fails e (start_at bytes at) → Fails e (parts_at bytes at)
start_fails bytes at e fails =
    subst (λ read. Fails e read) (halves bytes at) (first_fails e (start_at bytes at) (behind_start bytes) fails)

module _ (bytes : List ℕ) (at : ℕ) (s : Start) (middle : ℕ) (start : start_at bytes at ≡ Ok (s, middle)) where
  rest : parts_at bytes at ≡ behind_start bytes (s, middle)
  rest = sym (halves bytes at) ∙ ap (λ read. read >>= behind_start bytes) start

  pub setting_fails : (e : TakeError) → Fails e (setting_at bytes middle) → Fails e (parts_at bytes at)
  setting_fails e fails = subst (λ read. Fails e read) (sym rest) (first_fails e (setting_at bytes middle) (with_start s) fails)

  pub both_read : (t : Setting) (next : ℕ) → setting_at bytes middle ≡ Ok (t, next) → parts_at bytes at ≡ Ok (joined s t, next)
  both_read t next setting = rest ∙ ap (λ read. read >>= with_start s) setting
