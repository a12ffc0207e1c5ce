-- Where a guest is loaded, and where its forks lead.
use Rattle.std.proofs.Common.{◌≡◌, ℕ, ◌+◌, ◌*◌, ◌≤◌, length, Option, Some, Ok, refl, ap, arith, length-append, lit<, lit≤}
use Rattle.std.specs.Prelude.{slice_get, ℤ, pos}
use Rattle.std.proofs.lemmas.Int.{ints}
use Rattle.elf_load.specs.Elf.{loaded}
use Rattle.elf_load.specs.OneSegment.{bytes_of_words, image_of_code}
use Rattle.elf_load.specs.declared.image.TheConstants.{RAM_BASE, MIN_PAGES, MAX_PAGES}
use Rattle.rv_decode.specs.declared.kinds.Kind.TheVariants.{Jal}
use Rattle.rv_decode.specs.Instruction.{Instruction}
use Rattle.rv_asm.specs.Offset.{offset}
use Rattle.rv_asm.proofs.Loading as image
use Rattle.guest_gen.specs.Assembly.{jal}
use Rattle.guest_gen.specs.Blocks.{Code}
use Rattle.guest_gen.specs.Levels.{fork, forked}
use Rattle.guest_gen.specs.Guest.{words, guest}
use Rattle.guest_gen.proofs.Lengths.{words_short}

pub below : (seed : ℕ) → 4 * length (words seed) ≤ 16 * 4096
below seed = omega (arith, words_short seed)

pub loads : (seed pages : ℕ) → MIN_PAGES ≤ pages → pages ≤ MAX_PAGES → loaded (guest seed) pages ≡ Ok (image_of_code RAM_BASE (bytes_of_words (words seed)) pages)
unfolding guest
loads seed pages many most =
    image.loads RAM_BASE (words seed) pages
    (record { base_fits = lit< tt; aligned = refl; most = omega (arith, words_short seed); most_pages = most })
    (record { from_base = lit≤ tt; entered = omega arith; room = omega (arith, words_short seed) })

abbrev jump : ℤ → Option Instruction
jump imm = Some (record { kind = Jal; rd = 0; rs1 = 0; rs2 = 0; imm = imm })

pub jump_past_rest : (register share : ℕ) (rest : Code) → slice_get (forked register share rest) 12 ≡ jump (offset 12 (length (forked register share rest)))
unfolding fork forked jal
jump_past_rest register share rest =
    let size = length-append (fork register share (length rest)) rest in
    let ahead : pos (4 * (1 + length rest)) ≡ offset 12 (length (forked register share rest)) = omega (arith, ints, size) in
    ap jump ahead
