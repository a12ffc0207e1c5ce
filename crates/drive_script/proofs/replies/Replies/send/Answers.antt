use Rattle.std.proofs.Common.{Some, sym, ◌∙◌, subst}
use Rattle.drive_script.specs.Replies.{reply_to, siblings_of}
use Rattle.drive_script.proofs.Sending.{IsSent, sends-one}
use Rattle.drive_script.proofs.replies.Replies.send.Goals as goal

pub returns-clause-sends : goal.returns-clause-sends
returns-clause-sends c sent keeps =
    let to = siblings_of c.args.name.now in
    let new = c.append.new.self.lists in
    subst (λ page. IsSent new sent (reply_to to page) (Some (record { page = c.in-Some.page; place = c.in_ok-place.place }))) (sym c.in-Some.is)
    (sends-one c.args.self.now.lists new sent to c.in-Some-2.first c.in-Some.page c.in_ok-place.place
    (sym c.in-Some-2.is ∙ c.in_ok-first.ensures) c.in_ok-place.ensures.place c.in_ok-place.ensures.here c.in_ok-place.ensures.others keeps)

pub returns-clause-same : goal.returns-clause-same
returns-clause-same c = c.in-Some.is
