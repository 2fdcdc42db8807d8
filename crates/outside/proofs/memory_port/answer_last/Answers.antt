use Rattle.std.proofs.Common.{rules, ◌≡◌, length}
use Rattle.outside.proofs.Talking.{waiting_answered}
use Rattle.outside.proofs.memory_port.answer_last.Goals as goal

pub returns-clause-ok : goal.returns-clause-ok
returns-clause-ok c =
    let all : c.len-last.result ≡ length c.args.talks.now.items = search rules in
    waiting_answered c.args.talks.now.items c.len-last.result c.index_mut.result.now _ c.args.reply.now all (search rules) c.index_mut.ensures.value (search rules) (search rules)
