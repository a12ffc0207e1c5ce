-- What is found and written by a name is so by an equal one, and a lease is made as its view tells.
use Rattle.std.proofs.Common.{◌≡◌, Option, ap, ◌∙◌, subst}
use Rattle.std.specs.BTreeMap.{BTreeMap, WritesThrough, get, get_by}
use Rattle.forest_tree.specs.Tree.{Path}
use Rattle.machine_names.specs.NameOrder.{path_cmp}
use Rattle.world_core.specs.declared.cell.Cell.{Cell}
use Rattle.world_core.specs.Lent.{Lent, IsLent}

pub found-by : {o : Option Cell} {at name : Path} (cells : BTreeMap Path Cell) → at ≡ name → o ≡ get_by (path_cmp at) cells → o ≡ get path_cmp cells name
found-by cells same found = found ∙ ap (λ n. get_by (path_cmp n) cells) same

pub writes-by : {at name : Path} (old new : BTreeMap Path Cell) (c : Cell) → at ≡ name → WritesThrough path_cmp (path_cmp at) old c new
    → WritesThrough path_cmp (path_cmp name) old c new
writes-by old new c same written = subst (λ n. WritesThrough path_cmp (path_cmp n) old c new) same written

pub lent-by : {inside lease : Lent} → inside ≡ lease → IsLent inside.start inside.ran inside.now → IsLent lease.start lease.ran lease.now
lent-by same made = subst (λ (l : Lent). IsLent l.start l.ran l.now) same made
