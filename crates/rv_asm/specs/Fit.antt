-- Where the words of an image are loaded.
use Rattle.std.specs.Prelude.{◌≡◌, ℕ, ◌+◌, ◌*◌, ◌%◌, ◌^◌, ◌<◌, ◌≤◌, List, [], ◌∷◌, length}
use Rattle.elf_load.specs.Elf.{ram_end}
use Rattle.elf_load.specs.declared.image.TheConstants.{RAM_BASE, MAX_PAGES}
use Rattle.rv_asm.specs.declared.image.TheConstants.{MAX_WORDS}

-- the conditions of `elf_of`, and how much RAM there may be
pub record IsBuilt (base : ℕ) (words : List ℕ) (pages : ℕ) : Type 0 where
  pub base_fits : base < 2 ^ 32
  pub aligned : base % 4 ≡ 0
  pub most : length words ≤ MAX_WORDS
  pub most_pages : pages ≤ MAX_PAGES

-- the words are in RAM, and so is their address where there is none
pub record FitsInRam (base : ℕ) (words : List ℕ) (pages : ℕ) : Type 0 where
  pub from_base : RAM_BASE ≤ base
  pub entered : base < ram_end pages
  pub room : base + 4 * length words ≤ ram_end pages

-- the rule that is broken where they are not: that on segments, or with no words that on the entry
abbrev pub misfit : List ℕ → ℕ
misfit [] = 12
misfit (word ∷ words) = 10
