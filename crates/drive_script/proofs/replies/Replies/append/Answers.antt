use Rattle.drive_script.proofs.Sending.{appended-apart}
use Rattle.drive_script.proofs.replies.Replies.append.Goals as goal

pub returns-clause-others : goal.returns-clause-others
returns-clause-others c =
    appended-apart c.args.self.now.lists c.remove.new.self c.insert.new.self c.args.first c.args.page c.push.new.self
    c.remove.ensures.updates c.in_ok-insert.ensures.updates
