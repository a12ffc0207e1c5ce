use Rattle.std.specs.Prelude.{◌≡◌, ℕ, List, Vec}
use Rattle.std.specs.declared.alloc.Global.{Global}
use Rattle.command_texts.specs.Text.{guest_image}
use Rattle.command_texts.proofs.Booted.{drives, family-there}
use Rattle.command_texts.proofs.drive.drive_booted.Goals as goal

pub drive_world-requires-clause-family : goal.drive_world-requires-clause-family
drive_world-requires-clause-family g c =
    family-there c.args.guest.now c.args.files.now c.args.depot.now (c.in_ok-world.world, c.in_ok-world.field-0-1)
    (guest_image c.args.guest.now c.args.files.now) c.in_ok-world.ensures.makes

pub returns : goal.returns
returns g c =
    drives c.args.guest.now c.args.files.now c.args.depot.now (c.in_ok-world.world, c.in_ok-world.field-0-1) c.args.text.now
    (guest_image c.args.guest.now c.args.files.now) (λ (text : Vec ℕ Global) (told : List ℕ). text.items ≡ told) c.drive_world.result
    c.in_ok-world.ensures.makes c.drive_world.ensures
