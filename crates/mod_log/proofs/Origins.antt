-- What made an entry, in bytes: what is read is spelled so, what is spelled so is read, and where a rule is broken.
use Rattle.std.proofs.Common.{◌≡◌, ◌≢◌, ℕ, ◌+◌, ◌-◌, ◌^◌, ◌<◌, ◌≤◌, List, [], ◌∷◌, ◌++◌, length, take, Option, Some, None, Ok, Err, refl, subst, arith, lit<, length-append}
use Rattle.std.specs.Prelude.{sum}
use Rattle.std.specs.Int.{w8}
use Rattle.std.specs.List.{AllByRecursion}
use Rattle.byte_fields.specs.Field.{Reader, number_at, span_at, none, one, two}
use Rattle.byte_fields.specs.Codec.{Stands, IsBytes, IsCodec}
use Rattle.byte_fields.specs.Cuts.{start_of, IsCut}
use Rattle.byte_fields.specs.Broken.{IsRefused}
use Rattle.byte_fields.proofs.Codec.{IsBranch, u8_codec, span_codec, byte_span_codec, found3, again3, fault3, tagged_found, tagged_fault, tagged_again0, tagged_again1, branch0, branch1, stands_second}
use Rattle.byte_fields.proofs.Cutting.{u8_cut, span_cut, one_cut, three_cut, tagged_cut}
use Rattle.byte_fields.proofs.Breaking.{read_again, first_refused, later_refused, tagged_refused, unknown_kind, refused_there}
use Rattle.byte_fields.proofs.Facts.{sum_more}
use Rattle.cmd_capture.specs.declared.command.Command.{Command}
use Rattle.cmd_capture.specs.Spelling.{command}
use Rattle.cmd_capture.specs.Fields.{command_fields}
use Rattle.cmd_capture.specs.Reading.{command_at}
use Rattle.cmd_capture.proofs.Codec.{command_codec}
use Rattle.cmd_capture.proofs.Cutting.{command_cut}
use Rattle.mod_log.specs.declared.origin.Origin.{Origin}
use Rattle.mod_log.specs.Origin.{origin, made_by, OriginFits, MadeByFits}
use Rattle.mod_log.specs.Reading.{origin_at, made_by_kinds, made_by_at}
use Rattle.mod_log.specs.Fields.{origin_fields, made_by_fields}
use Rattle.mod_log.specs.Broken.{BrokenOrigins}

-- ---- origins

abbrev origin_of : List ℕ → ℕ → Command → Origin
origin_of print status c = record { command = c; job_print = print; status = status }

-- a print of 32 bytes
abbrev IsPrint : List ℕ → Type 0
IsPrint print = (length print ≡ 32) × IsBytes print

pub origin_codec : IsCodec origin_at origin OriginFits
unfolding origin_at
origin_codec = record {
  found = λ bytes at x next fits le e.
      let r = found3 (byte_span_codec 32) (λ _ _. u8_codec) (λ _ _ _ _. command_codec) origin_of bytes at x next fits le e in
      subst (λ (o : Origin). Stands bytes at (origin o) next × OriginFits o) r.is
      (r.stands, record { command_fits = r.third_fits; print_fits = r.first_fits.0; print_bytes = r.first_fits.1; status_fits = r.second_fits });
  again = λ bytes at x next stands fits.
      again3 (byte_span_codec 32) (λ _ _. u8_codec) (λ _ _ _ _. command_codec) origin_of bytes at x.job_print x.status x.command next stands
      (fits.print_fits, fits.print_bytes) fits.status_fits fits.command_fits;
  fault = fault3 (byte_span_codec 32) (λ _ _. u8_codec) (λ _ _ _ _. command_codec) origin_of;
}

print_cut : IsCut (span_at 32) (λ text. text) (λ text. 32 ∷ []) IsPrint
print_cut = record {
  whole = λ text fits. omega (arith, sum_more 32 [], fits.0);
  cut = λ bytes at text next end stands fits le lt.
      subst (λ (n : ℕ). span_at 32 (take end bytes) at ≡ Err (at + start_of (end - at) (n ∷ []))) fits.0 ((span_cut 32).cut bytes at text next end stands fits.0 le lt);
}

pub origin_cut : IsCut origin_at origin origin_fields OriginFits
unfolding origin_at
origin_cut = record {
  whole = λ o fits.
      omega (
        arith,
        sum_more 32 (1 ∷ command_fields o.command),
        sum_more 1 (command_fields o.command),
        length-append o.job_print (o.status ∷ command o.command),
        fits.print_fits,
        command_cut.whole o.command fits.command_fits,
      );
  cut = λ bytes at o next end stands fits le lt.
      three_cut (byte_span_codec 32) print_cut (λ _ _. u8_codec) (λ _ _. u8_cut) (λ _ _ _ _. command_cut) origin_of bytes at o.job_print o.status o.command next end stands
      (fits.print_fits, fits.print_bytes) fits.status_fits fits.command_fits le lt;
}

status_refused : (status : ℕ) (text : List ℕ) (offset : ℕ) (print : List ℕ) → status < 2 ^ 8 → IsRefused command_at text offset → IsRefused (two (number_at w8) (λ s. command_at) (origin_of print)) (status ∷ text) (1 + offset)
status_refused status text offset print small refused =
    later_refused (number_at w8) (λ s. one command_at (origin_of print s)) (status ∷ []) text status offset (read_again u8_codec status small) (first_refused command_at (λ c. none (origin_of print status c)) text offset refused)

pub broken_origins : BrokenOrigins
unfolding origin_at
broken_origins = record {
  command_is_none = λ print status text offset size small refused.
      refused_there origin_at (print ++ (status ∷ text)) (length print + (1 + offset)) (33 + offset) (omega (arith, size))
      (later_refused (span_at 32) (λ p. two (number_at w8) (λ s. command_at) (origin_of p)) print (status ∷ text) print (1 + offset) (λ bytes at next stands. (span_codec 32).again bytes at print next stands size) (status_refused status text offset print small refused));
}

-- ---- what made an entry

made_by_branches : AllByRecursion (λ (k : ℕ × Reader (Option Origin)). IsBranch made_by MadeByFits k.0 k.1) made_by_kinds
made_by_branches = (branch0 (lit< tt) None refl tt, (branch1 (lit< tt) origin_codec Some (λ o. refl) (λ o fits. fits), tt))

made_by_again : (bytes : List ℕ) (at : ℕ) (x : Option Origin) (next : ℕ) → Stands bytes at (made_by x) next → MadeByFits x → made_by_at bytes at ≡ Ok (x, next)
unfolding made_by_at
made_by_again bytes at None next stands fits = tagged_again0 made_by_kinds 0 (lit< tt) None bytes at next refl stands
made_by_again bytes at (Some o) next stands fits = tagged_again1 made_by_kinds 1 (lit< tt) origin_codec Some bytes at o next refl stands fits

pub made_by_codec : IsCodec made_by_at made_by MadeByFits
unfolding made_by_at
made_by_codec = record {
  found = tagged_found made_by MadeByFits made_by_kinds made_by_branches;
  fault = tagged_fault made_by MadeByFits made_by_kinds made_by_branches;
  again = made_by_again;
}

made_by_whole : (x : Option Origin) → MadeByFits x → sum (made_by_fields x) ≡ length (made_by x)
made_by_whole None fits = omega (arith, sum_more 1 [])
made_by_whole (Some o) fits = omega (arith, sum_more 1 (origin_fields o), origin_cut.whole o fits)

made_by_ends : (bytes : List ℕ) (at : ℕ) (x : Option Origin) (next end : ℕ) → Stands bytes at (made_by x) next → MadeByFits x → at ≤ end → end < next → made_by_at (take end bytes) at ≡ Err (at + start_of (end - at) (made_by_fields x))
unfolding made_by_at
made_by_ends bytes at None next end stands fits le lt = tagged_cut made_by_kinds 0 (lit< tt) bytes at [] next end [] stands le (λ ge. absurd (omega (arith, stands.next_is, ge, lt)))
made_by_ends bytes at (Some o) next end stands fits le lt =
    tagged_cut made_by_kinds 1 (lit< tt) bytes at (origin o) next end (origin_fields o) stands le (λ ge. one_cut origin_cut Some bytes (at + 1) o next end (stands_second bytes at (1 ∷ []) (origin o) next stands) fits ge lt)

pub made_by_cut : IsCut made_by_at made_by made_by_fields MadeByFits
made_by_cut = record { whole = made_by_whole; cut = made_by_ends }

pub unknown_maker : (byte : ℕ) → byte < 2 ^ 8 → AllByRecursion (λ known. byte ≢ known.0) made_by_kinds → IsRefused made_by_at (byte ∷ []) 0
unfolding made_by_at
unknown_maker byte small another = unknown_kind made_by_kinds byte small another

pub origin_refused : (text : List ℕ) (offset : ℕ) → IsRefused origin_at text offset → IsRefused made_by_at (1 ∷ text) (1 + offset)
unfolding made_by_at
origin_refused text offset refused = tagged_refused made_by_kinds 1 (one origin_at Some) text offset (lit< tt) (λ tag at bytes. refl) (first_refused origin_at (λ o. none (Some o)) text offset refused)
