use Rattle.std.proofs.Common.{◌≡◌, ◌*◌, [], length, ap, sym, ◌∙◌, arith}
use Rattle.std.proofs.lemmas.List.{get_or_default}
use Rattle.page_frames.specs.declared.page.TheConstants.{PAGE_SIZE}
use Rattle.page_frames.specs.Tables.{stacked}
use Rattle.image_depot.specs.Image.{own_table}
use Rattle.image_depot.proofs.Stacks.{stack_there, length-stacked}
use Rattle.image_depot.proofs.frozen.Frozen.pages.Goals as goal

pub index-requires : goal.index-requires
index-requires c = let there = stack_there c.self.inside.tables.items c.self.invariant.stack in omega arith

pub returns : goal.returns
returns c =
    let tables = c.self.inside.tables.items in
    let own : c.entries.result.now ≡ own_table tables = c.entries.ensures ∙ c.index.ensures ∙ get_or_default tables 0 c.index.result.now [] (stack_there tables c.self.invariant.stack) in
    let contents : stacked tables ≡ c.args.self.now.contents = ap (λ image. image.contents) c.self.view_is in
    let counted : c.len.result ≡ length (own_table tables) = c.len.ensures ∙ ap length own in
    let bytes : length c.args.self.now.contents ≡ PAGE_SIZE * length (own_table tables) = sym (ap length contents) ∙ length-stacked tables in
    record { value = omega arith; whole = omega arith; most = omega (arith, c.self.invariant.pages_fit) }
