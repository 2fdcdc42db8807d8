use Rattle.std.proofs.Common.{ℕ, Option, Err, false, inl, inr, refl, sym, subst}
use Rattle.outside.specs.Outside.{Told}
use Rattle.outside.specs.declared.errors.KeepError.{KeepError}
use Rattle.client_core.specs.declared.keeping.Journal.{Journal}
use Rattle.client_core.specs.Journal.{next_notes}
use Rattle.client_core.specs.Keeping.{IsKept, KeepsNext, WritesNext}
use Rattle.client_shelf.specs.Inside.{IsBreak}
use Rattle.client_shelf.proofs.Kept.{all_kept, some_kept, some_wrote, kept_break}
use Rattle.client_shelf.proofs.logging.keep_all.Goals as goal

pub returns-in-Ok-keep-clause-did : goal.returns-in-Ok-keep-clause-did
returns-in-Ok-keep-clause-did g c =
    let name = c.args.name.now in
    let client = c.log_all.new.client in
    let i = g.K.Keeper.images c.args.keeper.now in
    let k = g.K.Keeper.images c.keep.new.keeper in (
      client.log,
      c.in-Ok.ensures.ok,
      subst (λ (n : ℕ). IsKept k name n client.log) c.log_all.ensures.number (all_kept name client.number client.log (next_notes client.journal false client.log) i k c.in-Ok-keep.ensures.kept),
    )

pub returns-in-Err-keep-clause-did : goal.returns-in-Err-keep-clause-did
returns-in-Err-keep-clause-did g c =
    let name = c.args.name.now in
    let before = c.args.client.now in
    let client = c.log_all.new.client in
    let i = g.K.Keeper.images c.args.keeper.now in
    let k = g.K.Keeper.images c.keep.new.keeper in
    let e : KeepError = c.in-Err-keep.refused in
    let numbered = subst (λ (n : ℕ). Told i k (KeepsNext {E = KeepError} name n client.log (next_notes client.journal false client.log) (Err e))) c.log_all.ensures.number c.in-Err-keep.ensures.kept in
    let told = subst (λ (j : Option Journal). Told i k (KeepsNext {E = KeepError} name before.number client.log (next_notes j false client.log) (Err e))) c.log_all.ensures.journal numbered in
    let of_number = subst (λ (n : ℕ). Told i k (WritesNext {E = KeepError} name n client.log (next_notes client.journal false client.log) (Err e))) c.log_all.ensures.number c.in-Err-keep.ensures.writes in
    let wrote = subst (λ (j : Option Journal). Told i k (WritesNext {E = KeepError} name before.number client.log (next_notes j false client.log) (Err e))) c.log_all.ensures.journal of_number in (
      subst IsBreak (sym c.from.ensures) (kept_break e),
      some_kept name before.number c.args.lists.now before.log client.log c.requires.idle c.in-Ok.ensures.ok before.journal e i k c.requires.kept.1 c.requires.kept.0 told,
      some_wrote name before.number c.args.lists.now before.log client.log c.requires.idle c.in-Ok.ensures.ok before.journal e i k c.requires.kept.1 c.requires.kept.0 wrote,
    )

pub returns-in-Err-Memory-clause-did : goal.returns-in-Err-Memory-clause-did
returns-in-Err-Memory-clause-did g c = (inr refl, (0, c.args.client.now.log, refl, c.requires.kept.0), inl refl)
