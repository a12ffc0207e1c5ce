-- The pages of a machine have numbers that can be told: it has few pages of the disk.
use Rattle.std.proofs.Common.{◌≡◌, ℕ, ◌+◌, ◌*◌, ◌<◌, ◌≤◌, Bool, false, List, length, Option, Some, None, IfSome, sym, subst, arith}
use Rattle.std.proofs.lemmas.Option.{slice_get_within}
use Rattle.cow_disk.specs.declared.disk.TheConstants.{MAX_SECTORS, PAGE_SECTORS}
use Rattle.fetch_proto.specs.declared.number.TheConstants.{FIRST_DISK_PAGE}
use Rattle.fetch_proto.specs.Number.{page_place}
use Rattle.fetch_proto.proofs.Numbers.{placed}
use Rattle.image_depot.specs.Receiver.{IsAbsent}
use Rattle.drive_script.specs.declared.answer.SentPlace.{SentPlace}

-- a page that is wanted is one of the machine's
pub wanted-there : (here : List Bool) (wanted : Option ℕ) → IfSome wanted (IsAbsent here) → IfSome wanted (λ page. page < length here)
wanted-there here None absent = tt
wanted-there here (Some page) absent = slice_get_within here page false absent

-- and so is one that has a number
pub numbered-there : (ram disk number : ℕ) (place : Option ℕ) → place ≡ page_place ram disk number → IfSome place (λ page. page < ram + disk)
numbered-there ram disk number None is = tt
numbered-there ram disk number (Some page) is = (placed ram disk number page (sym is)).there

module _ (ram all : ℕ) (few : PAGE_SECTORS * all ≤ PAGE_SECTORS * ram + MAX_SECTORS) where
  pub few-places : all ≤ ram + FIRST_DISK_PAGE
  few-places = omega (arith, few)

  pub place-below : (page : ℕ) → page < all → page < ram + FIRST_DISK_PAGE
  place-below page there = omega (arith, few, there)

  pub sent-below : (place : Option ℕ) (sent : Option SentPlace) → IfSome place (λ page. page < all) → IfSome sent (λ reply. place ≡ Some reply.page)
      → IfSome sent (λ reply. reply.page < ram + FIRST_DISK_PAGE)
  sent-below place None there same = tt
  sent-below place (Some reply) there same = place-below reply.page (subst (λ (o : Option ℕ). IfSome o (λ page. page < all)) same there)
