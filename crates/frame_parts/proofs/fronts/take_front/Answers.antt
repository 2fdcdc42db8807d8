use Rattle.std.proofs.Common.{arith, refl, sym, ap, ◌∙◌, List, slice_get}
use Rattle.frame_parts.specs.declared.front.Front.{Front}
use Rattle.frame_parts.specs.Fronts.{front_of}
use Rattle.frame_parts.proofs.Places.{is_of_parts, there_here, there_else}
use Rattle.frame_parts.proofs.fronts.take_front.Goals as goal

pub returns-then-is_of-clause-front : goal.returns-then-is_of-clause-front
returns-then-is_of-clause-front c =
    let holds = sym c.is_of.ensures ∙ c.if-is_of.true in
    let parts = is_of_parts c.args.part.now c.remove-front.result holds in
    let found = ap (front_of c.args.part.now.client) (sym c.deref.ensures.value) ∙ c.place_of-place.ensures.front
    ∙ ap (λ (l : List Front). slice_get l c.place_of-place.result) c.deref.ensures.value in
    record {
      client = parts.0;
      print = parts.1;
      size = parts.2;
      bytes = sym (there_here c.args.part.now c.args.fronts.now.items c.place_of-place.result c.remove-front.result found
          (omega (arith, c.args.fronts.now.ok.0)) c.remove-front.ensures.value holds);
      seen = refl;
    }

pub returns-clause-front : goal.returns-clause-front
returns-clause-front c =
    let fails = sym c.is_of.ensures ∙ c.if-is_of.false in
    let found = ap (front_of c.args.part.now.client) (sym c.deref.ensures.value) ∙ c.place_of-place.ensures.front
    ∙ ap (λ (l : List Front). slice_get l c.place_of-place.result) c.deref.ensures.value in
    record {
      client = c.no_bytes-2.ensures.client;
      print = c.no_bytes-2.ensures.print;
      size = c.no_bytes-2.ensures.size;
      bytes = c.no_bytes-2.ensures.bytes ∙ sym (there_else c.args.part.now c.args.fronts.now.items c.place_of-place.result c.remove-front.result found
          (omega (arith, c.args.fronts.now.ok.0)) c.remove-front.ensures.value fails);
      seen = c.no_bytes-2.ensures.seen;
    }
