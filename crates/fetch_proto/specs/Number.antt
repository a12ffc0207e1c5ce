-- The number of a page of an image, by which frames and scripts tell it. All else tells a page by its place: the pages of
-- RAM come first, and then those of the disk.
use Rattle.std.specs.Prelude.{ℕ, ◌+◌, ◌-◌, ◌&&◌, nat_lt, nat_le, if◌then◌else◌, Option, Some, None}
use Rattle.fetch_proto.specs.declared.number.TheConstants.{FIRST_DISK_PAGE}

-- of the page at a place, where so many are of RAM
unfoldable pub page_number : ℕ → ℕ → ℕ
page_number ram place = if nat_lt place ram then place else FIRST_DISK_PAGE + (place - ram)

-- the place of the page with a number, where so many are of RAM and so many of the disk
unfoldable pub page_place : ℕ → ℕ → ℕ → Option ℕ
page_place ram disk number =
    if nat_lt number ram then Some number
    else (if nat_le FIRST_DISK_PAGE number && nat_lt (number - FIRST_DISK_PAGE) disk then Some (ram + (number - FIRST_DISK_PAGE)) else None)
