use Rattle.std.proofs.Common.{arith}
use Rattle.image_depot.proofs.depot.Depot.places.Goals as goal

pub overflow_add-result : goal.overflow_add-result
overflow_add-result c = omega (arith, c.pages.ensures.most, c.disk_pages.ensures.most)

pub returns : goal.returns
returns c = omega (arith, c.pages.ensures.value, c.disk_pages.ensures.value)
