use Rattle.std.proofs.Common.{◌<◌, length, sym, ap, ◌∙◌, arith}
use Rattle.cow_disk.specs.Paged.{PagedDisk, disk_over, page_total, with_page}
use Rattle.cow_disk.proofs.Pages.{arrival_reads}
use Rattle.cow_disk.proofs.disk.Disk.arrive.Goals as goal

pub returns-clause-reads : goal.returns-clause-reads
returns-clause-reads c =
    let disk = c.args.self.now in
    let count = c.sectors.ensures.pages ∙ ap page_total c.sectors.ensures.value in
    let there : c.args.page < length disk.pages = omega (arith, c.requires, count) in
    let absent = sym c.is_here.ensures ∙ c.if-is_here.false in
    let came = c.in_ok-arrive.ensures.ok ∙ ap (λ (d : PagedDisk). with_page d c.args.page c.args.bytes.now) c.self.view_is in
    λ below is_page.
    ap (λ (d : PagedDisk). disk_over d below) came
    ∙ arrival_reads disk count c.args.page there absent c.args.bytes.now below is_page
