use Rattle.std.proofs.Common.{◌-◌, ◌<◌, ◌≤◌, ap, sym, ◌∙◌, arith}
use Rattle.std.proofs.lemmas.Result.{IfOk-weaker}
use Rattle.fetch_proto.specs.Number.{page_number}
use Rattle.cow_disk.specs.Paged.{disk_page, disk_pages}
use Rattle.image_depot.specs.Image.{FrozenImage, page_count}
use Rattle.image_depot.specs.Key.{image_of}
use Rattle.image_depot.specs.Reply.{ram_page}
use Rattle.image_depot.proofs.Replies.{bytes_of_ram, bytes_of_disk, framed_as}
use Rattle.image_depot.proofs.depot.Depot.framed.Goals as goal

pub page_number-number-requires : goal.page_number-number-requires
page_number-number-requires c =
    let count = c.pages-pages.ensures.value ∙ ap page_count c.frozen-image.ensures in
    let disk = c.disk_pages.ensures.value ∙ ap (λ (image : FrozenImage). disk_pages image.disk) c.frozen-image.ensures in
    omega (arith, c.requires.there, count, disk, c.disk_pages.ensures.most)

pub disk_frame-requires : goal.disk_frame-requires
disk_frame-requires c =
    let count = c.pages-pages.ensures.value ∙ ap page_count c.frozen-image.ensures in
    let disk = ap (λ (image : FrozenImage). disk_pages image.disk) c.frozen-image.ensures in
    omega (arith, c.requires.there, count, disk, c.if-place-pages.false)

pub returns-then-place-pages : goal.returns-then-place-pages
returns-then-place-pages c =
    let count = c.pages-pages.ensures.value ∙ ap page_count c.frozen-image.ensures in
    let inside : c.args.place < page_count (image_of c.args.key.now) = omega (arith, count, c.if-place-pages.true) in
    let bytes = c.page.ensures.value ∙ ap (λ (image : FrozenImage). ram_page image c.args.place) c.frozen-image.ensures ∙ sym (bytes_of_ram (image_of c.args.key.now) c.args.place inside) in
    IfOk-weaker c.encode_reply.result _ _
    (λ reply is. is ∙ framed_as c.args.key.now c.args.place _ _ _ c.number.ensures (c.page_number-number.ensures ∙ ap (λ n. page_number n c.args.place) count) bytes)
    c.encode_reply.ensures.value

pub returns : goal.returns
returns c =
    let count = c.pages-pages.ensures.value ∙ ap page_count c.frozen-image.ensures in
    let behind : page_count (image_of c.args.key.now) ≤ c.args.place = omega (arith, count, c.if-place-pages.false) in
    let bytes =
    ap (λ (image : FrozenImage). disk_page image.disk (c.args.place - c.pages-pages.result)) c.frozen-image.ensures
    ∙ ap (λ n. disk_page (image_of c.args.key.now).disk (c.args.place - n)) count
    ∙ sym (bytes_of_disk (image_of c.args.key.now) c.args.place behind) in
    IfOk-weaker c.disk_frame.result _ _
    (λ reply is. is ∙ framed_as c.args.key.now c.args.place _ _ _ c.number-2.ensures (c.page_number-number.ensures ∙ ap (λ n. page_number n c.args.place) count) bytes)
    c.disk_frame.ensures
