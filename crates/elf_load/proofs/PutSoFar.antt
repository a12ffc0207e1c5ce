-- A segment that is put into RAM page by page.
use Rattle.std.proofs.Common.{◌≡◌, ℕ, ◌+◌, ◌-◌, ◌*◌, ◌/◌, ◌<◌, ◌≤◌, Bool, true, List, [], length, refl, sym, ap, ◌∙◌, subst, arith}
use Rattle.std.proofs.Math.ListN.{set, length-set}
use Rattle.std.proofs.lemmas.List.{length-map, map-set}
use Rattle.std.proofs.lemmas.List.Elements.{All-get_or, All-set}
use Rattle.flat_memory.specs.Flat.{put_bytes}
use Rattle.page_frames.specs.declared.entry.Entry.{Entry}
use Rattle.page_frames.specs.declared.entry.Entry.TheVariants.{Held, Absent}
use Rattle.page_frames.specs.Tables.{entry_at, entry_bytes, is_own, laid_over}
use Rattle.page_frames.proofs.Memory.{length-laid_over}
use Rattle.elf_load.specs.Image.{IsWhole, held_pages, is_held}
use Rattle.elf_load.specs.Elf.{part_in}
use Rattle.page_frames.specs.declared.page.TheConstants.{PAGE_SIZE}
use Rattle.elf_load.proofs.Parts.{IsPutTo, put_first, put_last, put_next}
use Rattle.elf_load.proofs.RamPages.{AreSet, set_more, set_none}

-- bytes from a place of RAM on are put into the pages from the first on, up to a page
pub record IsPutSoFar (first page start : ℕ) (content : List ℕ) (old table : List Entry) : Type 0 where
  pub size : length table ≡ length old
  pub whole : IsWhole table
  pub put : IsPutTo page (laid_over old []) start content table
  pub held : AreSet first page (held_pages old) (held_pages table)

pub so_far_first : (start : ℕ) (content : List ℕ) (old : List Entry) → IsWhole old → IsPutSoFar (start / PAGE_SIZE) (start / PAGE_SIZE) start content old old
so_far_first start content old whole = record {
  size = refl;
  whole = whole;
  put = put_first old start (start / PAGE_SIZE) content (omega arith);
  held = set_none (start / PAGE_SIZE) (held_pages old);
}

pub so_far_next : (first page start : ℕ) (content : List ℕ) (old table new : List Entry) → first ≤ page → page < length table → start < PAGE_SIZE * page + PAGE_SIZE
    → start + length content ≤ PAGE_SIZE * length old → length (entry_bytes (entry_at table page)) ≡ PAGE_SIZE
    → new ≡ set table page (Held (put_bytes (entry_bytes (entry_at table page)) (start - PAGE_SIZE * page) (part_in page start content)))
    → IsPutSoFar first page start content old table → IsPutSoFar first (page + 1) start content old new
so_far_next first page start content old table new order there begun room whole is sofar =
    let entry : Entry = Held (put_bytes (entry_bytes (entry_at table page)) (start - PAGE_SIZE * page) (part_in page start content)) in
    let own = All-get_or (λ (e : Entry). is_own e ≡ true) table page Absent there sofar.whole in
    let long : length (laid_over old []) ≡ PAGE_SIZE * length old = length-laid_over old [] in
    let same = sofar.size in
    let flags = length-map table is_held in
    let old_flags = length-map old is_held in
    subst (λ (t : List Entry). IsPutSoFar first (page + 1) start content old t) (sym is) (record {
      size = length-set table page entry ∙ same;
      whole = All-set (λ (e : Entry). is_own e ≡ true) table page entry refl sofar.whole;
      put = put_next (laid_over old []) start page content table (omega (arith, long, room)) (long ∙ ap (λ n. PAGE_SIZE * n) (sym same)) there own whole begun sofar.put;
      held =
          subst (λ (fs : List Bool). AreSet first (page + 1) (held_pages old) fs) (sym (map-set is_held table page entry))
          (set_more first page (held_pages old) (held_pages table) (omega (arith, flags, old_flags, same)) order sofar.held);
    })

pub so_far_last : (first page start : ℕ) (content : List ℕ) (old table : List Entry) → start + length content ≤ PAGE_SIZE * page → IsPutSoFar first page start content old table
    → laid_over table [] ≡ put_bytes (laid_over old []) start content
so_far_last first page start content old table past sofar = put_last (laid_over old []) start page content table past sofar.put
