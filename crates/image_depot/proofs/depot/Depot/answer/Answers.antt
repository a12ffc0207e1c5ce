use Rattle.std.proofs.Common.{◌<◌, ap, sym, ◌∙◌, subst}
use Rattle.image_depot.specs.Image.{place_count}
use Rattle.image_depot.specs.Key.{Key, image_of}
use Rattle.image_depot.specs.Reply.{frame_of}
use Rattle.image_depot.proofs.depot.Depot.answer.Goals as goal

pub of_reply-requires : goal.of_reply-requires
of_reply-requires c = record {
  there = subst (λ (key : Key). c.args.place < place_count (image_of key)) (sym c.in_ok-again.ensures) c.requires.there;
  is = c.in_ok-reply.ensures ∙ ap (λ (key : Key). frame_of key c.args.place) (sym c.in_ok-again.ensures);
}
