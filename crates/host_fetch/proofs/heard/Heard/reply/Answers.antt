use Rattle.host_fetch.proofs.Hearing.{reply-is}
use Rattle.host_fetch.proofs.heard.Heard.reply.Goals as goal

pub returns-clause-is : goal.returns-clause-is
returns-clause-is c = reply-is (λ sent. sent.now) c.get.result c.args.image c.args.page c.self.inside.replies.entries c.self.invariant c.get.ensures.value
