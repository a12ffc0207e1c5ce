-- Replies to requests for a page of an image.
use Rattle.std.specs.Prelude.{◌≡◌, ℕ, ◌-◌, ◌*◌, ◌<◌, nat_lt, if◌then◌else◌, List, take, drop}
use Rattle.boxcar.specs.Table.{Where, Shows}
use Rattle.fetch_proto.specs.Frame.{frame}
use Rattle.fetch_proto.specs.Number.{page_number}
use Rattle.page_claims.specs.Values.{PageName}
use Rattle.page_frames.specs.declared.page.TheConstants.{PAGE_SIZE}
use Rattle.cow_disk.specs.Paged.{disk_page}
use Rattle.image_depot.specs.Image.{FrozenImage, page_count, place_count}
use Rattle.image_depot.specs.Key.{Shelves, Key, IsKeyOf, number_of, image_of}

-- a page of the image of a key, by its place
pub record Reply : Type 0 where
  pub key : Key
  pub page : ℕ

-- the bytes of a page of RAM of an image
unfoldable pub ram_page : FrozenImage → ℕ → List ℕ
ram_page image page = take PAGE_SIZE (drop (PAGE_SIZE * page) image.contents)

-- the bytes of the page at a place of an image
abbrev pub page_bytes : FrozenImage → ℕ → List ℕ
page_bytes image place = if nat_lt place (page_count image) then ram_page image place else disk_page image.disk (place - page_count image)

-- the frame of the page at a place of the image of a key, which has its number
abbrev pub frame_of : Key → ℕ → List ℕ
frame_of key place = frame (number_of key) (page_number (page_count (image_of key)) place) (page_bytes (image_of key) place)

-- the bytes that carry a reply
abbrev pub reply_bytes : Reply → List ℕ
reply_bytes reply = frame_of reply.key reply.page

-- what holds of every parcel
pub record IsParcel (key : Key) (place : ℕ) (bytes : List ℕ) : Type 0 where
  pub there : place < place_count (image_of key)
  pub is : bytes ≡ frame_of key place

-- the reply is of the page that was claimed: the one at this place of the image with this number
pub record IsClaimOf (reply : Reply) (first : PageName) : Type 0 where
  pub image : first.image ≡ number_of reply.key
  pub page : first.page ≡ reply.page

-- where a depot keeps a reply, and the reply itself
abbrev pub Delivery : Type 0
Delivery = Where Reply

abbrev pub reply_of : Delivery → Reply
reply_of sent = sent.value

-- the number of the image of a delivery, and the place of the page
abbrev pub sent_image : Delivery → ℕ
sent_image sent = number_of (reply_of sent).key

abbrev pub sent_page : Delivery → ℕ
sent_page sent = (reply_of sent).page

-- the delivery is one of a reply that this depot keeps, of an image of this depot
pub record IsSentOf (depot : Shelves) (sent : Delivery) : Type 0 where
  pub kept : Shows depot.replies sent
  pub of_image : IsKeyOf depot (reply_of sent).key
