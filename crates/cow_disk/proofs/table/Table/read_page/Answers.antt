use Rattle.std.proofs.Common.{◌≡◌, ℕ, ◌-◌, ◌*◌, List, length, min, take, drop, get_or, sym, ap, ◌∙◌, arith}
use Rattle.std.specs.List.{concat}
use Rattle.cow_disk.specs.declared.disk.TheConstants.{PAGE_SECTORS, SECTOR_SIZE}
use Rattle.cow_disk.specs.Paged.{disk_page}
use Rattle.cow_disk.proofs.Pages.{length-padded}
use Rattle.cow_disk.proofs.PageReads.{none_copied, page_copied, zeros_behind}
use Rattle.cow_disk.proofs.SectorLemmas.{length-concat}
use Rattle.cow_disk.proofs.Tables.{count_is, count_most, page_of_disk}
use Rattle.cow_disk.proofs.table.Table.read_page.Goals as goal

pub overflow_mul-first : goal.overflow_mul-first
overflow_mul-first c =
    omega (arith, c.requires.there, count_most c.self.inside.sectors c.self.inside.here.items c.self.invariant c.args.self.now c.self.view_is)

pub overflow_sub-all : goal.overflow_sub-all
overflow_sub-all c =
    omega (arith, c.requires.there, c.len-all.ensures, count_is c.self.inside.sectors c.self.inside.here.items c.self.invariant c.args.self.now c.self.view_is)

pub copy_sectors-requires : goal.copy_sectors-requires
copy_sectors-requires c =
    let count = count_is c.self.inside.sectors c.self.inside.here.items c.self.invariant c.args.self.now c.self.view_is in
    record {
      inside = omega (arith, c.requires.there, c.len-all.ensures, count, c.in_page-rows.ensures);
      most = c.self.invariant.most;
      few = omega (arith, c.in_page-rows.ensures);
      whole = c.self.invariant.whole;
      empty = none_copied;
    }

pub returns-clause-full : goal.returns-clause-full
returns-clause-full c =
    ap length c.copy_sectors.ensures
    ∙ length-padded (take (SECTOR_SIZE * c.in_page-rows.result) (drop (SECTOR_SIZE * (PAGE_SECTORS * c.args.page)) (concat c.self.inside.sectors)))

pub returns-clause-value : goal.returns-clause-value
returns-clause-value c =
    let sectors = c.self.inside.sectors in
    let here = c.self.inside.here.items in
    let count = count_is sectors here c.self.invariant c.args.self.now c.self.view_is in
    let fit = c.in_page-rows.ensures ∙ ap (λ (n : ℕ). min (n - PAGE_SECTORS * c.args.page) PAGE_SECTORS) c.len-all.ensures in
    let begins : PAGE_SECTORS * c.args.page ≡ PAGE_SECTORS * c.args.page = omega arith in
    c.copy_sectors.ensures
    ∙ page_copied (concat sectors) (length sectors) c.args.page (PAGE_SECTORS * c.args.page) c.in_page-rows.result (length-concat sectors c.self.invariant.whole)
    (omega (arith, c.requires.there, count)) begins fit
    ∙ sym (page_of_disk sectors here c.self.invariant c.args.self.now c.self.view_is c.args.page c.requires.there c.requires.here)

pub returns-clause-zeros : goal.returns-clause-zeros
returns-clause-zeros c =
    let sectors = c.self.inside.sectors in
    let here = c.self.inside.here.items in
    let count = count_is sectors here c.self.invariant c.args.self.now c.self.view_is in
    let fit = c.in_page-rows.ensures ∙ ap (λ (n : ℕ). min (n - PAGE_SECTORS * c.args.page) PAGE_SECTORS) c.len-all.ensures in
    let begins : PAGE_SECTORS * c.args.page ≡ PAGE_SECTORS * c.args.page = omega arith in
    let copied : c.copy_sectors.new.bytes ≡ disk_page (concat sectors) c.args.page =
    c.copy_sectors.ensures
    ∙ page_copied (concat sectors) (length sectors) c.args.page (PAGE_SECTORS * c.args.page) c.in_page-rows.result (length-concat sectors c.self.invariant.whole)
    (omega (arith, c.requires.there, count)) begins fit in
    λ at past. ap (λ (bytes : List ℕ). get_or bytes at 0) copied ∙ zeros_behind (concat sectors) c.args.page at (omega (arith, past, count, length-concat sectors c.self.invariant.whole))
