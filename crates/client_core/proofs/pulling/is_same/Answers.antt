use Rattle.std.proofs.Common.{sym, ◌∙◌, ap}
use Rattle.std.proofs.lemmas.Bool.Decides.{Decides-eqb}
use Rattle.std.specs.Cmp.Lexicographic.{pointwise_decides, bytes_decides}
use Rattle.tree_values.specs.declared.node.Row.{Row}
use Rattle.client_core.proofs.pulling.is_same.Goals.{then-row-other, else-row-other}
use Rattle.client_core.proofs.pulling.is_same.Goals as goal

pub returns-then-eq : goal.returns-then-eq
returns-then-eq c = elim c.if-row-other.branch [
  | then-row-other w ↦ (
    λ yes.
        let path = (pointwise_decides bytes_decides c.args.row.now.path c.args.other.now.path).0 (sym w.eq.ensures ∙ sym w.value-is ∙ c.if-eq.true) in
        let node = sym c.as_ref.ensures.value ∙ c.is_same_node.ensures.0 yes ∙ c.as_ref-then-eq.ensures.value in
        λ k. record { path = path k; version = w.if-row-other.true k; node = node k },
    λ same. c.is_same_node.ensures.1 (c.as_ref.ensures.value ∙ ap (λ (row : Row). row.node) same ∙ sym c.as_ref-then-eq.ensures.value),
  )
  | else-row-other w ↦ (
    λ yes. absurd (w.if-row-other.false ((Decides-eqb c.args.row.now.version c.args.other.now.version).0 (sym w.value-is ∙ c.if-eq.true))),
    λ same. c.is_same_node.ensures.1 (c.as_ref.ensures.value ∙ ap (λ (row : Row). row.node) same ∙ sym c.as_ref-then-eq.ensures.value),
  )
]

pub returns-else-eq : goal.returns-else-eq
returns-else-eq c = elim c.if-row-other.branch [
  | then-row-other w ↦ (
    λ yes. absurd (cc (yes, c.if-eq.false)),
    λ same. w.value-is ∙ w.eq.ensures ∙ (pointwise_decides bytes_decides c.args.row.now.path c.args.other.now.path).1 (ap (λ (row : Row). row.path) same),
  )
  | else-row-other w ↦ (
    λ yes. absurd (cc (yes, c.if-eq.false)),
    λ same. absurd (w.if-row-other.false (ap (λ (row : Row). row.version) same)),
  )
]
