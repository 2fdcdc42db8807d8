use Rattle.std.proofs.Common.{◌≡◌, ◌++◌, ◌∷◌, [], List, ℕ, sym, ap, ◌∙◌, subst, append_assoc, append-nil}
use Rattle.std.specs.List.{flat_map}
use Rattle.std.proofs.lemmas.Grind.{flat_map-append}
use Rattle.std.proofs.lemmas.List.Concat.{flat_map-cons}
use Rattle.byte_fields.specs.Field.{IsFront}
use Rattle.byte_fields.proofs.Fronts.{front_among, on_error}
use Rattle.cmd_capture.specs.Spelling.{variable}
use Rattle.cmd_capture.proofs.environment.Env.put_pairs.Goals as goal

pub returns-in_err-put_variable-clause-err : goal.returns-in_err-put_variable-clause-err
returns-in_err-put_variable-clause-err c =
    let before = c.loop-key.invariant.0 in
    let left : c.loop-key.key-iterator ≡ (c.in-Some.key.now, c.in-Some.value.now) ∷ c.next.new.self = c.in-Some.ensures.steps in
    let all : before ++ (c.in-Some.key.now, c.in-Some.value.now) ∷ c.next.new.self ≡ c.args.self.now =
    ap (λ (pairs : List (List ℕ × List ℕ)). before ++ pairs) (sym left) ∙ c.loop-key.invariant.1.0 in
    on_error c.from_residual.result
    (subst (λ (pairs : List (List ℕ × List ℕ)). IsFront c.args.out.now.items c.put_variable.new.out.items (flat_map variable pairs)) all
    (front_among variable c.args.out.now.items c.loop-key.out.items c.put_variable.new.out.items before
    (c.in-Some.key.now, c.in-Some.value.now)
    c.next.new.self c.loop-key.invariant.1.1 c.in_err-put_variable.ensures.err))

pub loop-key-preserved : goal.loop-key-preserved
loop-key-preserved c =
    let before = c.loop-key.invariant.0 in
    let pair : List ℕ × List ℕ = (c.in-Some.key.now, c.in-Some.value.now) in
    let left : c.loop-key.key-iterator ≡ pair ∷ c.next.new.self = c.in-Some.ensures.steps in
    let all : (before ++ pair ∷ []) ++ c.next.new.self ≡ c.args.self.now =
    append_assoc before (pair ∷ []) c.next.new.self ∙ ap (λ (pairs : List (List ℕ × List ℕ)). before ++ pairs) (sym left)
    ∙ c.loop-key.invariant.1.0 in
    let more : flat_map variable (before ++ pair ∷ []) ≡ flat_map variable before ++ variable pair =
    flat_map-append variable before (pair ∷ []) ∙ ap (λ (text : List ℕ). flat_map variable before ++ text) (flat_map-cons variable pair []
    ∙ append-nil (variable pair)) in
    let put : c.put_variable.new.out.items ≡ c.args.out.now.items ++ flat_map variable (before ++ pair ∷ []) =
    c.in_ok-put_variable.ensures.ok ∙ ap (λ (text : List ℕ). text ++ variable pair) c.loop-key.invariant.1.1
    ∙ append_assoc c.args.out.now.items (flat_map variable before) (variable pair)
    ∙ ap (λ (text : List ℕ). c.args.out.now.items ++ text) (sym more) in
    (before ++ pair ∷ [], (all, put))
