-- A disk is one flat list of bytes, in sectors of 512.
use Rattle.std.specs.Prelude.{ℕ, ◌*◌, ◌/◌, List, length, take, drop}
use Rattle.flat_memory.specs.Flat.{put_bytes}
use Rattle.cow_disk.specs.declared.disk.TheConstants.{SECTOR_SIZE}

abbrev pub sector_count : List ℕ → ℕ
sector_count disk = length disk / SECTOR_SIZE

-- the bytes of sector n
abbrev pub sector_at : List ℕ → ℕ → List ℕ
sector_at disk n = take SECTOR_SIZE (drop (SECTOR_SIZE * n) disk)

-- the disk with these bytes in sector n
abbrev pub with_sector : List ℕ → ℕ → List ℕ → List ℕ
with_sector disk n bytes = put_bytes disk (SECTOR_SIZE * n) bytes
