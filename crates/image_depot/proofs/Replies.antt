-- The bytes that a reply carries, by the kind of its page.
use Rattle.std.proofs.Common.{◌≡◌, ◌-◌, ◌<◌, ◌≤◌, ℕ, List, nat_lt, cond, true, false, ap, ◌∙◌, arith}
use Rattle.fetch_proto.specs.Frame.{frame}
use Rattle.fetch_proto.specs.Number.{page_number}
use Rattle.cow_disk.specs.Paged.{disk_page}
use Rattle.image_depot.specs.Image.{FrozenImage, page_count}
use Rattle.image_depot.specs.Key.{Key, image_of, number_of}
use Rattle.image_depot.specs.Reply.{frame_of, page_bytes, ram_page}

module _ (image : FrozenImage) (place : ℕ) where
  pub bytes_of_ram : place < page_count image → page_bytes image place ≡ ram_page image place
  bytes_of_ram inside =
      let is : nat_lt place (page_count image) ≡ true = grind (arith, inside) in
      ap (λ b. cond b (ram_page image place) (disk_page image.disk (place - page_count image))) is

  pub bytes_of_disk : page_count image ≤ place → page_bytes image place ≡ disk_page image.disk (place - page_count image)
  bytes_of_disk behind =
      let is : nat_lt place (page_count image) ≡ false = grind (arith, behind) in
      ap (λ b. cond b (ram_page image place) (disk_page image.disk (place - page_count image))) is

pub framed_as : (key : Key) (place image number : ℕ) (bytes : List ℕ) → image ≡ number_of key → number ≡ page_number (page_count (image_of key)) place
    → bytes ≡ page_bytes (image_of key) place → frame image number bytes ≡ frame_of key place
framed_as key place image number bytes a b c =
    ap (λ n. frame n number bytes) a ∙ ap (λ n. frame (number_of key) n bytes) b ∙ ap (λ xs. frame (number_of key) (page_number (page_count (image_of key)) place) xs) c
