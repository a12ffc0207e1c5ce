-- The frame that carries a page of a frozen image.
use Rattle.std.specs.Prelude.{◌≡◌, ◌≢◌, ℕ, ◌<◌, ◌^◌, List, ◌++◌, length, codes}
use Rattle.byteorder.specs.Endian.{little_bytes}
use Rattle.page_frames.specs.declared.page.TheConstants.{PAGE_SIZE}

-- the frame of a page: the mark, the image's number, the page's number, and the bytes of the page
unfoldable pub frame : ℕ → ℕ → List ℕ → List ℕ
frame image page bytes = codes "SFR1" ++ (little_bytes 4 image ++ (little_bytes 4 page ++ bytes))

-- these bytes are the frame of no page of any image
abbrev pub IsNoFrame : List ℕ → Type 0
IsNoFrame bytes = (image page : ℕ) (content : List ℕ) → length content ≡ PAGE_SIZE → bytes ≢ frame image page content

-- these bytes are the frame of this page, and its numbers have 32 bits
pub record IsFrameOf (bytes : List ℕ) (image page : ℕ) (content : List ℕ) : Type 0 where
  pub image_fits : image < 2 ^ 32
  pub page_fits : page < 2 ^ 32
  pub is : bytes ≡ frame image page content
