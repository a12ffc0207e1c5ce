use Rattle.std.proofs.Common.{ap, sym, ◌∙◌, subst, arith}
use Rattle.std.specs.Option.{option_copied}
use Rattle.cow_disk.specs.Paged.{disk_pages}
use Rattle.image_depot.specs.Image.{FrozenImage}
use Rattle.image_depot.specs.Key.{image_of, number_of}
use Rattle.memory_tests.specs.Wants.{HasNoDisk}
use Rattle.memory_tests.proofs.waiting.GuestReceiver.arrive.Goals as goal

pub agree-requires-clause-one_number : goal.agree-requires-clause-one_number
agree-requires-clause-one_number c = sym c.number.ensures ∙ c.if-number.false ∙ c.number-2.ensures ∙ ap number_of (c.key-2.ensures ∙ sym c.key-3.ensures)

-- the page that comes is one of RAM, since the image of the key has no others
pub arrive-requires-clause-of_ram : goal.arrive-requires-clause-of_ram
arrive-requires-clause-of_ram c =
    let agree = c.agree.ensures ∙ ap image_of c.key-3.ensures in
    let none = subst HasNoDisk (sym c.key.ensures ∙ ap option_copied c.in-Some.is) c.self.invariant in
    omega (arith, c.bytes.ensures.there, none, ap (λ (image : FrozenImage). disk_pages image.disk) agree)
