use Rattle.std.proofs.Common.{◌≡◌, inl, inr}
use Rattle.store_image.specs.declared.image.ImageError.TheVariants.{Memory}
use Rattle.server_prog.proofs.run.server_of.Goals as goal

pub returns-in-WrongKind : goal.returns-in-WrongKind
returns-in-WrongKind c =
    let other : c.in-Err.error ≡ Memory → ⊥ = λ memory. elim c.in-WrongKind.is [ inl wrong ↦ absurd (cc (memory, wrong)) | inr bad ↦ absurd (cc (memory, bad.1)) ] in
    record {
      opens = tt;
      none = λ is state kept. c.in-Err.ensures.none other kept.image kept.kept;
      no_sink = λ is. absurd (cc is);
      no_keeper = λ is. absurd (cc is);
    }
