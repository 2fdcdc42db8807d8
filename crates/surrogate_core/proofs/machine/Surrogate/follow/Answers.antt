use Rattle.surrogate_core.proofs.Following.{replied, silenced_follows, reply_left}
use Rattle.surrogate_core.proofs.machine.Surrogate.follow.Goals as goal

pub returns-in-Ok-Some-clause-follows : goal.returns-in-Ok-Some-clause-follows
returns-in-Ok-Some-clause-follows g c =
    replied c.args.server.now c.args.work.now c.args.asked.now c.args.self.now (record { step = c.on_server.result; after = c.on_server.new.self }) _ _ c.in-Ok-Some.field-0 c.in-Ok-Some.reply _ _
    c.in-Ok-Some.field-0-is c.in-Ok-Some.ensures.settled c.on_server.ensures.steps

pub returns-in-Ok-Some-clause-fewer : goal.returns-in-Ok-Some-clause-fewer
returns-in-Ok-Some-clause-fewer g c =
    reply_left c.args.self.now.phase c.args.self.now.copy c.in-Ok-Some.reply c.args.work.now c.on_server.ensures.steps.runs (record { step = c.on_server.result; after = c.on_server.new.self }) c.on_server.ensures.steps.does

pub returns-in-Ok-None-clause-follows : goal.returns-in-Ok-None-clause-follows
returns-in-Ok-None-clause-follows g c =
    silenced_follows c.args.server.now c.args.work.now c.args.asked.now c.args.self.now (record { step = c.on_silence.result; after = c.on_silence.new.self }) _ _ c.in-Ok-None.field-0 _
    c.in-Ok-None.field-0-is c.in-Ok-None.ensures.settled c.on_silence.ensures.silenced
