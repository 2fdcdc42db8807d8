use Rattle.std.proofs.Common.{◌≡◌, ℕ, take, subst}
use Rattle.std.specs.Prelude.{IfSome}
use Rattle.server_prog.proofs.Fronts.{known_front}
use Rattle.server_prog.proofs.reading.read_bytes.Goals as goal

pub returns-in-Ok : goal.returns-in-Ok
returns-in-Ok g c =
    let bytes = c.read_to_end.new.buf.items in
    subst (λ (most : ℕ). IfSome (g.F.Read.remaining c.args.file) (λ all. bytes ≡ take most all)) c.take.ensures.limit
    (subst (λ file. IfSome (g.F.Read.remaining file) (λ all. bytes ≡ take c.take.result.limit all)) c.take.ensures.inner
    (known_front (g.F.Read.remaining c.take.result.inner) c.take.result.limit c.new-bytes.result.items bytes
    c.new-bytes.ensures.items c.in-Ok.ensures.bytes))
