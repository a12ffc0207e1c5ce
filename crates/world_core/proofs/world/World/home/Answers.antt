use Rattle.world_core.specs.Images.{AreOfImages, HaveImages}
use Rattle.world_core.proofs.AtName.{found-by, writes-by}
use Rattle.world_core.proofs.Images.{written}
use Rattle.std.proofs.Common.{◌≡◌, Bool, true, refl, sym, ap, subst}
use Rattle.std.specs.Option.{IfSome}
use Rattle.forest_tree.specs.Tree.{Path}
use Rattle.talking_history.specs.Places.{home, placed}
use Rattle.world_core.specs.declared.cell.Cell.{Cell}
use Rattle.world_core.specs.declared.cell.State.TheVariants.{Home}
use Rattle.world_core.specs.Listed.{IsListed, IsCovered}
use Rattle.world_core.specs.World.{StandsFor}
use Rattle.world_core.specs.Between.{with_tree}
use Rattle.world_core.proofs.Ready.{IsListed-more, IsListed-first, IsCovered-more}
use Rattle.world_core.proofs.Returns.{home-written}
use Rattle.world_core.proofs.world.World.home.Goals as goal
use Rattle.world_core.proofs.world.World.home.Goals.{then-not-cell, else-not-cell}

pub returns-clause-home : goal.returns-clause-home
returns-clause-home c depot f a between same of_depot lives whole =
    let name : Path = c.args.turn.name in
    let found = found-by c.args.self.now.cells c.name.ensures c.in-Some.ensures.value in
    let after : Bool → Cell = λ listed. record c.in-Some.cell.now { kin = c.args.kin; state = Home c.args.vm; is_listed = listed } in
    let written = λ (cell : Cell). writes-by c.args.self.now.cells (c.get_mut.follows.lender cell) cell c.name.ensures (c.get_mut.follows.holds cell) in (
      refl,
      elim c.if-not-cell.branch [
        | then-not-cell w ↦
            subst (λ v. StandsFor depot v (with_tree name (placed home a) f)) (sym w.self-is)
            (home-written depot c.args.self.now f name a c.args.vm c.args.kin (c.get_mut.follows.lender (after true)) w.push.new.self c.in-Some.cell.now true
            between same of_depot c.requires.kin lives whole found (written (after true))
            (subst (IsListed name) (sym w.push.ensures)
            (IsListed-first name c.args.turn c.args.self.now.ready (ap (λ o. record { name = name; children = o }) c.requires.own)))
            (λ n is. subst (IsListed n) (sym w.push.ensures) (IsListed-more n c.args.turn c.args.self.now.ready is))
            (λ n is. subst (IsCovered n) (sym w.push.ensures) (IsCovered-more n c.args.turn c.args.self.now.ready is)))
        | else-not-cell w ↦
            let was : Bool = c.in-Some.cell.now.is_listed in
            subst (λ v. StandsFor depot v (with_tree name (placed home a) f)) (sym w.self-is)
            (home-written depot c.args.self.now f name a c.args.vm c.args.kin (c.get_mut.follows.lender (after was)) c.args.self.now.ready c.in-Some.cell.now was
            between same of_depot c.requires.kin lives whole found (written (after was))
            (subst (λ o. IfSome o (λ (cell : Cell). cell.is_listed ≡ true → IsListed name c.args.self.now.ready)) (sym found) (between.listed name) w.if-not-cell.false)
            (λ n is. is) (λ n is. is))
      ],
    )

pub returns-in_default-clause-images : goal.returns-in_default-clause-images
returns-in_default-clause-images c images h at = subst (HaveImages images) (sym c.get_mut.follows.holds-at-none) h

pub returns-clause-images : goal.returns-clause-images
returns-clause-images c images h at =
    let name : Path = c.args.turn.name in
    let found = found-by c.args.self.now.cells c.name.ensures c.in-Some.ensures.value in
    let after : Bool → Cell = λ listed. record c.in-Some.cell.now { kin = c.args.kin; state = Home c.args.vm; is_listed = listed } in
    let through = λ (cell : Cell). writes-by c.args.self.now.cells (c.get_mut.follows.lender cell) cell c.name.ensures (c.get_mut.follows.holds cell) in
    let kept = λ (listed : Bool). written images c.args.self.now.cells (c.get_mut.follows.lender (after listed)) name c.in-Some.cell.now (after listed) found
    (through (after listed)) (λ was. record { state = at; broods = was.broods }) h in
    elim c.if-not-cell.branch [
      | then-not-cell w ↦ subst (AreOfImages images) (sym w.self-is) (kept true)
      | else-not-cell w ↦ subst (AreOfImages images) (sym w.self-is) (kept c.in-Some.cell.now.is_listed)
    ]
