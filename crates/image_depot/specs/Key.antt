-- Depots, and keys to the images that are kept in one.
use Rattle.std.specs.Prelude.{ℕ}
use Rattle.std.specs.Coded.{Coded}
use base.Stored.{coded×, coded_via}
use Rattle.boxcar.specs.Table.{Shelves as Kept, shelves_coded, Where, Shows}
use Rattle.image_depot.specs.Image.{FrozenImage}

-- what a clause sees of a depot: where its images are kept, and where its replies
pub record Shelves : Type 0 where
  pub images : Kept
  pub replies : Kept

abbrev pub depot_coded : Coded Shelves
depot_coded =
    coded_via (coded× shelves_coded shelves_coded) (λ (d : Shelves). (d.images, d.replies)) (λ x y e i. record { images = (e i).0; replies = (e i).1 })

-- a key has the number of an image, and the image itself
abbrev pub Key : Type 0
Key = Where FrozenImage

abbrev pub number_of : Key → ℕ
number_of key = key.index

abbrev pub image_of : Key → FrozenImage
image_of key = key.value

-- the key is one to an image of this depot
abbrev pub IsKeyOf : Shelves → Key → Type 0
IsKeyOf depot key = Shows depot.images key
