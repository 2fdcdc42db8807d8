use Rattle.std.proofs.Common.{◌∙◌, ap, take}
use Rattle.cmd_capture.specs.Runs.{telling}
use Rattle.mem_wires.specs.Wire.{Wire}
use Rattle.mem_net.proofs.Handling.{serve_goes, has_served, serve_echoes, serve_free}
use Rattle.mem_net.proofs.parts.NetworkParts.serve.Goals as goal

pub returns-clause-served : goal.returns-clause-served
returns-clause-served g c =
    let old : Wire = c.args.self.now.wires in
    let served : Wire = c.serve-served.new.link in
    let runner = telling (g.R.Runner.runs c.args.self.now.runner) (g.R.Runner.faults c.args.self.now.runner) in
    let ran = telling (g.R.Runner.runs c.serve-served.new.runner) (g.R.Runner.faults c.serve-served.new.runner) in
    has_served old served c.forget.new.self c.args.self.now.surrogate.copy c.serve-served.new.self.copy runner ran c.serve-served.ensures.kept
    (c.forget.ensures ∙ ap (λ n. record served { asks = take n served.asks }) c.asks-asks.ensures)
    c.args.operation c.serve-served.result c.requires.request c.requires.valid c.requires.sent c.serve-served.ensures.reply c.serve-served.ensures.served

pub returns-clause-echoes : goal.returns-clause-echoes
returns-clause-echoes g c =
    let old : Wire = c.args.self.now.wires in
    let served : Wire = c.serve-served.new.link in
    let runner = telling (g.R.Runner.runs c.args.self.now.runner) (g.R.Runner.faults c.args.self.now.runner) in
    let ran = telling (g.R.Runner.runs c.serve-served.new.runner) (g.R.Runner.faults c.serve-served.new.runner) in
    serve_echoes old served c.forget.new.self c.args.self.now.surrogate.copy c.serve-served.new.self.copy runner ran c.serve-served.ensures.kept
    (c.forget.ensures ∙ ap (λ n. record served { asks = take n served.asks }) c.asks-asks.ensures)
    c.args.operation c.serve-served.result c.requires.request c.serve-served.ensures.served

pub returns-clause-free : goal.returns-clause-free
returns-clause-free g c =
    let old : Wire = c.args.self.now.wires in
    let served : Wire = c.serve-served.new.link in
    let runner = telling (g.R.Runner.runs c.args.self.now.runner) (g.R.Runner.faults c.args.self.now.runner) in
    let ran = telling (g.R.Runner.runs c.serve-served.new.runner) (g.R.Runner.faults c.serve-served.new.runner) in
    serve_free old served c.forget.new.self c.args.self.now.surrogate.copy c.serve-served.new.self.copy runner ran c.serve-served.ensures.kept
    (c.forget.ensures ∙ ap (λ n. record served { asks = take n served.asks }) c.asks-asks.ensures)
    c.args.operation c.serve-served.result c.requires.request c.requires.valid c.requires.sent c.serve-served.ensures.reply c.serve-served.ensures.served

pub returns-clause-goes : goal.returns-clause-goes
returns-clause-goes g c =
    let old : Wire = c.args.self.now.wires in
    let served : Wire = c.serve-served.new.link in
    let runner = telling (g.R.Runner.runs c.args.self.now.runner) (g.R.Runner.faults c.args.self.now.runner) in
    let ran = telling (g.R.Runner.runs c.serve-served.new.runner) (g.R.Runner.faults c.serve-served.new.runner) in
    serve_goes old served c.forget.new.self c.args.self.now.surrogate.copy c.serve-served.new.self.copy runner ran c.serve-served.ensures.kept
    (c.forget.ensures ∙ ap (λ n. record served { asks = take n served.asks }) c.asks-asks.ensures)
    c.args.operation c.serve-served.result c.requires.request c.requires.valid c.requires.sent c.serve-served.ensures.served
