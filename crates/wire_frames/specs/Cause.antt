-- Why an operation is not carried out: the one spelling of a cause, its fields, and how it is read.
use Rattle.std.specs.Prelude.{◌≡◌, ℕ, ◌<◌, ◌^◌, ◌==◌, ◌||◌, not, Bool, true, List, [], ◌∷◌, ◌++◌, length}
use Rattle.std.specs.Int.{w8, w32}
use Rattle.std.specs.Str.{bytes_eq}
use Rattle.byte_fields.specs.Field.{Reader, digits, number_at, span_at, ruled, none, one, two, tagged_at}
use Rattle.byte_fields.specs.Codec.{IsBytes}
use Rattle.file_paths.specs.Path.{IsPath}
use Rattle.file_paths.specs.Spelling.{path}
use Rattle.file_paths.specs.Fields.{path_fields}
use Rattle.file_paths.specs.Reading.{path_at}
use Rattle.tree_values.specs.Fault.{tree_fault, fault_fields, FaultFits, fault_at}
use Rattle.wire_frames.specs.declared.cause.Cause.{Cause}
use Rattle.wire_frames.specs.declared.cause.Cause.TheVariants.{OtherJob, NoJob, NoServer, NotRun, Status, OddTree, Mismatch, Clash, NotFit}
use Rattle.wire_frames.specs.declared.cause.Cause.TheVariants.{Refused, NoMemory}

-- the number of the cause, and what it tells
abbrev pub cause : Cause → List ℕ
cause (OtherJob logged found) = 1 ∷ (logged ++ found)
cause (NoJob code index) = 2 ∷ (code ∷ digits w32 index)
cause NoServer = 3 ∷ []
cause NotRun = 4 ∷ []
cause (Status logged replayed) = 5 ∷ logged ∷ replayed ∷ []
cause (OddTree index) = 6 ∷ digits w32 index
cause (Mismatch p) = 7 ∷ path p
cause (Clash p) = 8 ∷ path p
cause (NotFit index fault) = 9 ∷ (digits w32 index ++ tree_fault fault)
cause (Refused kind) = 10 ∷ kind ∷ []
cause NoMemory = 11 ∷ []

-- the number of the cause, and the fields of what it tells, given by their numbers of bytes
abbrev pub cause_fields : Cause → List ℕ
cause_fields (OtherJob logged found) = 1 ∷ 32 ∷ 32 ∷ []
cause_fields (NoJob code index) = 1 ∷ 1 ∷ 4 ∷ []
cause_fields NoServer = 1 ∷ []
cause_fields NotRun = 1 ∷ []
cause_fields (Status logged replayed) = 1 ∷ 1 ∷ 1 ∷ []
cause_fields (OddTree index) = 1 ∷ 4 ∷ []
cause_fields (Mismatch p) = 1 ∷ path_fields p
cause_fields (Clash p) = 1 ∷ path_fields p
cause_fields (NotFit index fault) = 1 ∷ 4 ∷ fault_fields fault
cause_fields (Refused kind) = 1 ∷ 1 ∷ []
cause_fields NoMemory = 1 ∷ []

-- ---- which causes there are

-- the bytes of a print
abbrev pub IsPrint : List ℕ → Type 0
IsPrint bytes = (length bytes ≡ 32) × IsBytes bytes

-- the print that was found is not the logged one
abbrev pub other_print : List ℕ → List ℕ → Bool
other_print logged found = not (bytes_eq found logged)

-- a job has no folder, or not one of its inputs
abbrev pub job_code_rule : ℕ → Bool
job_code_rule code = code == 1 || code == 2

-- an index is told for an input
abbrev pub job_index_rule : ℕ → ℕ → Bool
job_index_rule code index = code == 2 || index == 0

-- the status of the run is not the logged one
abbrev pub other_status : ℕ → ℕ → Bool
other_status logged replayed = not (replayed == logged)

-- the kinds of the replies that refuse a store
abbrev pub refusal_rule : ℕ → Bool
refusal_rule kind = kind == 18 || kind == 19 || kind == 20 || kind == 24

-- a cause that keeps these rules, so that it has a spelling
abbrev pub CauseFits : Cause → Type 0
CauseFits (OtherJob logged found) = IsPrint logged × IsPrint found × (other_print logged found ≡ true)
CauseFits (NoJob code index) = (code < 2 ^ 8) × (job_code_rule code ≡ true) × (index < 2 ^ 32) × (job_index_rule code index ≡ true)
CauseFits NoServer = Unit {0}
CauseFits NotRun = Unit {0}
CauseFits (Status logged replayed) = (logged < 2 ^ 8) × (replayed < 2 ^ 8) × (other_status logged replayed ≡ true)
CauseFits (OddTree index) = index < 2 ^ 32
CauseFits (Mismatch p) = IsPath p
CauseFits (Clash p) = IsPath p
CauseFits (NotFit index fault) = (index < 2 ^ 32) × FaultFits fault
CauseFits (Refused kind) = (kind < 2 ^ 8) × (refusal_rule kind ≡ true)
CauseFits NoMemory = Unit {0}

-- ---- reading

-- the 32 bytes of a print
abbrev pub print_at : Reader (List ℕ)
print_at = span_at 32

-- the logged print, and the one that was found, which is another
unfoldable pub other_job_at : Reader Cause
other_job_at = two print_at (λ logged. ruled (other_print logged) print_at) OtherJob

-- what of the job is missing, and the index of the input
unfoldable pub no_job_at : Reader Cause
no_job_at = two (ruled job_code_rule (number_at w8)) (λ code. ruled (job_index_rule code) (number_at w32)) NoJob

-- the logged status, and that of the run, which is another
unfoldable pub status_at : Reader Cause
status_at = two (number_at w8) (λ logged. ruled (other_status logged) (number_at w8)) Status

-- the index of the effect, and why the copy refuses it
unfoldable pub not_fit_at : Reader Cause
not_fit_at = two (number_at w32) (λ index. fault_at) NotFit

-- the kind of the reply that refused the store
unfoldable pub refused_at : Reader Cause
refused_at = one (ruled refusal_rule (number_at w8)) Refused

-- the numbers of the causes, with what follows each
abbrev pub cause_kinds : List (ℕ × Reader Cause)
cause_kinds =
    (1, other_job_at) ∷ (2, no_job_at) ∷ (3, none NoServer) ∷ (4, none NotRun) ∷ (5, status_at) ∷ (6, one (number_at w32) OddTree)
    ∷ (7, one path_at Mismatch) ∷ (8, one path_at Clash) ∷ (9, not_fit_at) ∷ (10, refused_at) ∷ (11, none NoMemory) ∷ []

-- a cause
unfoldable pub cause_at : Reader Cause
cause_at = tagged_at cause_kinds
