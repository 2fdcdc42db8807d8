use Rattle.std.proofs.Common.{◌≡◌, ◌∙◌, ◌++◌, ◌∷◌, [], ◌+◌, ◌-◌, ◌<◌, ◌/◌, ◌%◌, length, arith, refl, ap, remove}
use Rattle.std.specs.List.{concat}
use Rattle.std.proofs.lemmas.List.{length-set, length_push}
use Rattle.std.proofs.lemmas.List.Edits.{remove-append_left}
use Rattle.parted_list.specs.Parts.{part_size}
use Rattle.parted_list.proofs.Places.{part, located_at, read_part, kept_parted}
use Rattle.parted_list.proofs.Moves.{between_parts, between_length, carried_back, first_pulled, taken_out, all_carried, pulled_size}
use Rattle.parted_list.proofs.list.pull_through.Goals as goal

pub loop-i-init : goal.loop-i-init
loop-i-init c = record {
  parted = c.requires.parted;
  within = omega arith;
  behind = omega (arith, (located_at c.args.parts.now.items c.args.k c.requires.parted c.requires.within).there);
  same = refl;
  carried = all_carried c.args.parts.now.items c.len-i.result 0 (omega arith);
}

pub loop-i-preserved : goal.loop-i-preserved
loop-i-preserved c =
    let there : c.loop-i.i - 1 < length c.loop-i.parts.items = omega (arith, c.loop-i.invariant.within) in
    let is = read_part c.loop-i.parts.items (c.loop-i.i - 1) c.index_mut.result.now there c.index_mut.ensures.value in
    let some = c.loop-i.invariant.parted.some (c.loop-i.i - 1) there in
    let rest = rw is at c.pull_through-carried.ensures.rest in
    let first = rw is at c.pull_through-carried.ensures.number in
    let next : c.loop-i.i - 1 + 1 ≡ c.loop-i.i = omega arith in
    rw (rest, first) (record {
      parted = kept_parted c.loop-i.parts.items (c.loop-i.i - 1) (remove (part c.loop-i.parts.items (c.loop-i.i - 1)) 0 ++ c.loop-i.carried ∷ []) c.loop-i.invariant.parted there (pulled_size (part c.loop-i.parts.items (c.loop-i.i - 1)) 0 c.loop-i.carried some);
      within = omega (arith, length-set c.loop-i.parts.items (c.loop-i.i - 1) (remove (part c.loop-i.parts.items (c.loop-i.i - 1)) 0 ++ c.loop-i.carried ∷ []), c.loop-i.invariant.within);
      behind = omega (arith, c.loop-i.invariant.behind);
      same = length-set c.loop-i.parts.items (c.loop-i.i - 1) (remove (part c.loop-i.parts.items (c.loop-i.i - 1)) 0 ++ c.loop-i.carried ∷ []) ∙ c.loop-i.invariant.same;
      carried =
          carried_back c.loop-i.parts.items (c.loop-i.i - 1) (remove (part c.loop-i.parts.items (c.loop-i.i - 1)) 0 ++ c.loop-i.carried ∷ []) c.loop-i.carried _ there (first_pulled (part c.loop-i.parts.items (c.loop-i.i - 1)) c.loop-i.carried some)
          ∙ ap (λ i. between_parts c.loop-i.parts.items i c.loop-i.carried) next
          ∙ c.loop-i.invariant.carried;
    })

pub pull_through-requires : goal.pull_through-requires
pull_through-requires c =
    let size : length (concat c.loop-i.parts.items) ≡ length (concat c.args.parts.now.items) = omega (arith, between_length c.loop-i.parts.items c.loop-i.i c.loop-i.carried, ap length c.loop-i.invariant.carried, length_push (concat c.args.parts.now.items) 0) in
    let at = located_at c.loop-i.parts.items c.args.k c.loop-i.invariant.parted (omega (arith, size, c.requires.within)) in
    let is = read_part c.loop-i.parts.items (c.args.k / part_size) c.index_mut-2.result.now at.there c.index_mut-2.ensures.value in
    rw is at.within

pub returns-clause-parted : goal.returns-clause-parted
returns-clause-parted c =
    let size : length (concat c.loop-i.parts.items) ≡ length (concat c.args.parts.now.items) = omega (arith, between_length c.loop-i.parts.items c.loop-i.i c.loop-i.carried, ap length c.loop-i.invariant.carried, length_push (concat c.args.parts.now.items) 0) in
    let at = located_at c.loop-i.parts.items c.args.k c.loop-i.invariant.parted (omega (arith, size, c.requires.within)) in
    let is = read_part c.loop-i.parts.items (c.args.k / part_size) c.index_mut-2.result.now at.there c.index_mut-2.ensures.value in
    let rest = rw is at c.pull_through.ensures.rest in
    rw rest (kept_parted c.loop-i.parts.items (c.args.k / part_size) (remove (part c.loop-i.parts.items (c.args.k / part_size)) (c.args.k % part_size) ++ c.loop-i.carried ∷ []) c.loop-i.invariant.parted at.there (pulled_size (part c.loop-i.parts.items (c.args.k / part_size)) (c.args.k % part_size) c.loop-i.carried at.within))

pub returns-clause-numbers : goal.returns-clause-numbers
returns-clause-numbers c =
    let size : length (concat c.loop-i.parts.items) ≡ length (concat c.args.parts.now.items) = omega (arith, between_length c.loop-i.parts.items c.loop-i.i c.loop-i.carried, ap length c.loop-i.invariant.carried, length_push (concat c.args.parts.now.items) 0) in
    let at = located_at c.loop-i.parts.items c.args.k c.loop-i.invariant.parted (omega (arith, size, c.requires.within)) in
    let is = read_part c.loop-i.parts.items (c.args.k / part_size) c.index_mut-2.result.now at.there c.index_mut-2.ensures.value in
    let rest = rw is at c.pull_through.ensures.rest in
    let end : c.args.k / part_size + 1 ≡ c.loop-i.i = omega (arith, c.loop-i.invariant.behind) in
    rw rest (
    taken_out c.loop-i.parts.items c.args.k c.loop-i.carried at
    ∙ ap (λ i. remove (between_parts c.loop-i.parts.items i c.loop-i.carried) c.args.k) end
    ∙ ap (λ s. remove s c.args.k) c.loop-i.invariant.carried
    ∙ remove-append_left (concat c.args.parts.now.items) (0 ∷ []) c.args.k c.requires.within
    )
