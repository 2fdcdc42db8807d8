use Rattle.std.proofs.Common.{◌≡◌, ◌∙◌, ℕ, List, Option, ap, arith}
use Rattle.paced_talks.specs.Frames.{missing_bytes}
use Rattle.paced_talks.specs.Inside.{ReadsBlock}
use Rattle.paced_talks.specs.Talks.{IsBegun}
use Rattle.paced_talks.proofs.Pieces.{reads_of, begun_after, same_after, whole_is_first}
use Rattle.paced_talks.proofs.asking.Asking.step.Goals as goal

pub invariant_of-self-in-Ok : goal.invariant_of-self-in-Ok
invariant_of-self-in-Ok g c =
    let before : Option (List ℕ) = g.S.Read.remaining c.args.self.now.stream in
    let after : Option (List ℕ) = g.S.Read.remaining c.read_at_once.new.stream in
    let old : List ℕ = c.args.self.now.frame.items in
    let new : List ℕ = c.read_at_once.new.frame.items in
    let most : c.missing-wanted.result ≡ missing_bytes old = c.missing-wanted.ensures ∙ ap missing_bytes c.deref.ensures.value in
    let reads : ReadsBlock (missing_bytes old) before after old new c.in-Ok.count =
    reads_of c.in_ok-read_at_once.field-0 c.missing-wanted.result (missing_bytes old) c.in-Ok.count before after old new c.in-Ok.is most c.in_ok-read_at_once.ensures.came in
    let begun : IsBegun new = begun_after before after old new c.in-Ok.count c.args.self.now.begun reads in
    record {
      begun = begun;
      whole = λ is. whole_is_first new after begun (grind (arith, is, c.missing.ensures, c.deref-in-Ok.ensures.value));
    }

pub returns-in-Ok-clause-same : goal.returns-in-Ok-clause-same
returns-in-Ok-clause-same g c =
    let before : Option (List ℕ) = g.S.Read.remaining c.args.self.now.stream in
    let after : Option (List ℕ) = g.S.Read.remaining c.read_at_once.new.stream in
    let old : List ℕ = c.args.self.now.frame.items in
    let new : List ℕ = c.read_at_once.new.frame.items in
    let most : c.missing-wanted.result ≡ missing_bytes old = c.missing-wanted.ensures ∙ ap missing_bytes c.deref.ensures.value in
    let reads : ReadsBlock (missing_bytes old) before after old new c.in-Ok.count =
    reads_of c.in_ok-read_at_once.field-0 c.missing-wanted.result (missing_bytes old) c.in-Ok.count before after old new c.in-Ok.is most c.in_ok-read_at_once.ensures.came in
    same_after (missing_bytes old) before after old new c.in-Ok.count reads
