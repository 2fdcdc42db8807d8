use Rattle.std.proofs.Common.{arith, ap, inl, inr, refl, subst, ◌∙◌}
use Rattle.frame_parts.specs.Fronts.{IsNamed}
use Rattle.frame_parts.specs.declared.front.Put.TheVariants.{Have}
use Rattle.frame_parts.proofs.front.Fronts.settle.Goals as goal

pub returns-then-have-part-clause-put : goal.returns-then-have-part-clause-put
returns-then-have-part-clause-put c =
    inl (omega (arith, c.args.front.bytes.ok.0), ap Have (omega (arith, c.args.front.bytes.ok.0)), (c.args.front, c.requires.front, c.in_ok-take_in.ensures.ok))

pub returns-clause-put : goal.returns-clause-put
returns-clause-put c =
    inr (inl (
      omega (arith, c.args.front.bytes.ok.0, c.args.front.within, c.requires.front.size),
      subst (IsNamed c.args.part.now) c.deref.ensures.value (c.is_named.ensures.0 c.if-not-is_named.false),
      c.in_ok-whole.ensures.items ∙ c.deref-2.ensures.value,
      (
        _,
        record { client = c.requires.front.client; print = c.requires.front.print; size = c.requires.front.size; bytes = c.truncate.ensures.items; seen = refl },
        c.in_ok-take_in-2.ensures.ok,
      ),
    ))
