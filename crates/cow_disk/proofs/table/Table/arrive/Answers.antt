use Rattle.std.proofs.Common.{◌≡◌, List, ℕ, ◌-◌, ◌*◌, ◌≤◌, length, min, take, ap, ◌∙◌, arith}
use Rattle.std.proofs.lemmas.List.{length-take}
use Rattle.std.proofs.lemmas.Result.{err_from_is_err_and}
use Rattle.cow_disk.specs.declared.disk.TheConstants.{PAGE_SECTORS}
use Rattle.cow_disk.proofs.Tables.{count_is, count_most, in_pages, in_flags, put_not_shown, page_put}
use Rattle.cow_disk.proofs.Arrivals.{page_of_row, beside_page}
use Rattle.cow_disk.proofs.table.Table.arrive.Goals as goal

pub overflow_mul-first : goal.overflow_mul-first
overflow_mul-first c =
    omega (arith, c.requires.there, count_most c.self.inside.sectors c.self.inside.here.items c.self.invariant c.args.self.now c.self.view_is)

pub overflow_sub-all : goal.overflow_sub-all
overflow_sub-all c =
    omega (arith, c.requires.there, c.len-all.ensures, count_is c.self.inside.sectors c.self.inside.here.items c.self.invariant c.args.self.now c.self.view_is)

pub put_sectors-requires-clause-inside : goal.put_sectors-requires-clause-inside
put_sectors-requires-clause-inside c =
    let count = count_is c.self.inside.sectors c.self.inside.here.items c.self.invariant c.args.self.now c.self.view_is in
    omega (arith, c.requires.there, c.len-all.ensures, count, c.in_page-count.ensures, length-take c.in_page-count.result c.as_chunks.result.0.now)

pub returns-in_err-put_sectors-clause-err : goal.returns-in_err-put_sectors-clause-err
returns-in_err-put_sectors-clause-err c =
    let sectors = c.self.inside.sectors in
    let here = c.self.inside.here.items in
    let row = take c.in_page-count.result c.as_chunks.result.0.now in
    let begins : PAGE_SECTORS * c.args.page ≡ PAGE_SECTORS * c.args.page = omega arith in
    let most : length row ≤ PAGE_SECTORS = omega (arith, c.in_page-count.ensures, length-take c.in_page-count.result c.as_chunks.result.0.now) in
    let put = c.in_err-put_sectors.ensures in
    let kept =
    put_not_shown sectors here c.self.invariant c.args.self.now c.self.view_is c.args.page
    (in_pages sectors here c.self.invariant c.args.self.now c.self.view_is c.args.page c.requires.there) c.requires.absent
    c.put_sectors.new.sectors put.whole put.size
    (beside_page c.args.page (PAGE_SECTORS * c.args.page) (length row) _ _ begins most put.others) in
    let exit = err_from_is_err_and c.from_residual.result c.from_residual.ensures.1 in
    rw exit.1 kept

pub index_mut-requires : goal.index_mut-requires
index_mut-requires c =
    omega (arith, in_flags c.self.inside.sectors c.self.inside.here.items c.self.invariant c.args.self.now c.self.view_is c.args.page c.requires.there, c.self.inside.here.ok.0)

pub returns-clause-ok : goal.returns-clause-ok
returns-clause-ok c =
    let sectors = c.self.inside.sectors in
    let here = c.self.inside.here.items in
    let put = c.in_ok-put_sectors.ensures in
    let count = count_is sectors here c.self.invariant c.args.self.now c.self.view_is in
    let starts : PAGE_SECTORS * c.args.page ≤ length sectors = omega (arith, c.requires.there, count) in
    let begins : PAGE_SECTORS * c.args.page ≡ PAGE_SECTORS * c.args.page = omega arith in
    let fit = c.in_page-count.ensures ∙ ap (λ (n : ℕ). min (n - PAGE_SECTORS * c.args.page) PAGE_SECTORS) c.len-all.ensures in
    let made =
    page_of_row sectors c.self.invariant.whole c.args.page (PAGE_SECTORS * c.args.page) c.in_page-count.result starts begins fit c.args.bytes.now c.told-bytes
    (take c.in_page-count.result c.as_chunks.result.0.now) (ap (λ (r : List (List ℕ)). take c.in_page-count.result r) c.as_chunks.ensures.front)
    c.put_sectors.new.sectors put.ok in
    page_put sectors here c.self.invariant c.args.self.now c.self.view_is c.args.page
    (in_pages sectors here c.self.invariant c.args.self.now c.self.view_is c.args.page c.requires.there) c.requires.absent
    c.put_sectors.new.sectors put.whole put.size c.args.bytes.now c.told-bytes made
