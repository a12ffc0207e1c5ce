-- A disk of which every page is here stays so where the same pages are here.
use Rattle.std.proofs.Common.{◌≡◌, ◌*◌, ◌<◌, false, get_or, ap, ◌∙◌, subst}
use Rattle.cow_disk.specs.declared.disk.TheConstants.{PAGE_SECTORS}
use Rattle.cow_disk.specs.Paged.{PagedDisk, here_pages, IsWholeDisk}

pub whole_stays : (old new : PagedDisk) → here_pages new ≡ here_pages old → new.sectors ≡ old.sectors → IsWholeDisk old → IsWholeDisk new
whole_stays old new pages sectors whole page there =
    ap (λ flags. get_or flags page false) pages ∙ whole page (subst (λ n. PAGE_SECTORS * page < n) sectors there)
