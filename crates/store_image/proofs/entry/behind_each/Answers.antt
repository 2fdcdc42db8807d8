use Rattle.std.proofs.Common.{◌≡◌, ◌∙◌, ℕ, ◌+◌, ◌<◌, List, ◌++◌, [], ◌∷◌, Ok, add-one, take, drop, length, get_or, drop-cons, sym, ap}
use Rattle.std.proofs.lemmas.List.{take_more, take_all}
use Rattle.std.proofs.lemmas.Result.{err_from_is_err_and}
use Rattle.byte_fields.specs.Field.{Fails}
use Rattle.byte_fields.proofs.Loop.{goes_on, breaks_off, is_done}
use Rattle.tree_values.specs.declared.node.Base.{Base}
use Rattle.store_image.specs.Reading.{first_kept_base_at, kept_bases_after}
use Rattle.store_image.proofs.entry.behind_each.Goals as goal

known_first : (bases : List Base) (i : ℕ) (known : Base) → i < length bases → known ≡ get_or bases i known → drop i bases ≡ known ∷ drop (i + 1) bases
known_first bases i known lt is = rw (add-one, drop-cons bases i known lt, ← is)

one_more : (bases : List Base) (i : ℕ) (known : Base) → i < length bases → known ≡ get_or bases i known → take (i + 1) bases ≡ take i bases ++ known ∷ []
one_more bases i known lt is = take_more bases i known lt ∙ ap (λ (b : Base). take i bases ++ b ∷ []) (sym is)

pub returns-in_err-at : goal.returns-in_err-at
unfolding first_kept_base_at
returns-in_err-at c =
    let p = err_from_is_err_and c.from_residual.result c.from_residual.ensures.1 in
    let i = c.loop-known.known-index in
    let rest = known_first c.args.bases.now i c.known-item.result c.loop-known-test.true c.known-item.is in
    let fault : Fails c.in_err-at.field-0.0 (first_kept_base_at (drop i c.args.bases.now) c.args.bytes.now c.loop-known.at) = rw rest c.in_err-at.ensures in
    rw (p.1, p.2) (breaks_off first_kept_base_at kept_bases_after c.args.bytes.now _ c.in_err-at.field-0.0 (take i c.args.bases.now) (length c.args.bases.now) i (drop i c.args.bases.now) c.loop-known.at c.loop-known-test.true fault c.loop-known.invariant)

pub loop-known-preserved : goal.loop-known-preserved
unfolding first_kept_base_at
loop-known-preserved c =
    let i = c.loop-known.known-index in
    let known = c.known-item.result in
    let rest = known_first c.args.bases.now i known c.loop-known-test.true c.known-item.is in
    let so_far = rw rest at c.loop-known.invariant in
    let step = goes_on first_kept_base_at kept_bases_after c.args.bytes.now _ (take i c.args.bases.now) (length c.args.bases.now) i (known ∷ drop (i + 1) c.args.bases.now) c.loop-known.at known c.in_ok-at.at c.loop-known-test.true c.in_ok-at.ensures so_far in
    rw (one_more c.args.bases.now i known c.loop-known-test.true c.known-item.is) step

pub returns : goal.returns
returns c =
    let i = c.loop-known.known-index in
    let all : take i c.args.bases.now ≡ c.args.bases.now = take_all i c.args.bases.now c.loop-known-test.false in
    is_done first_kept_base_at kept_bases_after c.args.bytes.now _ (take i c.args.bases.now) (length c.args.bases.now) i (drop i c.args.bases.now) c.loop-known.at c.loop-known-test.false c.loop-known.invariant
    ∙ ap (λ (bs : List Base). Ok (bs, c.loop-known.at)) all
