-- Bytes that a machine hands over, as its hart answers of them.
use Rattle.std.proofs.Common.{◌≡◌, inl, inr, ℕ, ◌+◌, ◌-◌, ◌*◌, ◌/◌, ◌<◌, ◌≤◌, Bool, true, false, cond, eqb, List, [], ◌∷◌, ◌++◌, length, slice_get, Option, Some, refl, sym, ap, ◌∙◌, subst, arith}
use Rattle.std.specs.Option.{IfSome}
use Rattle.elf_load.specs.declared.image.TheConstants.{RAM_BASE}
use Rattle.page_frames.specs.declared.page.TheConstants.{PAGE_SIZE}
use Rattle.fork_port.specs.declared.handed.TheConstants.{MAX_HANDED}
use Rattle.fork_port.specs.declared.refusals.TheConstants.{BAD_ARGUMENT}
use Rattle.fork_port.specs.Registers.{refused}
use Rattle.forest_model.specs.declared.Written.TheVariants.{Nothing}
use Rattle.forest_model.specs.State.{State, at_next_instruction}
use Rattle.forest_model.specs.Access.{page_of}
use Rattle.forest_model.specs.Action.{retire, exit}
use Rattle.forest_model.specs.Memory.{bytes_at, handing_over, is_byte_range, pages_of_bytes, with_fork}
use Rattle.forest_model.proofs.HandedOver.{from-base, page-of-either}
use Rattle.forest_model.specs.Paged.{Pages}
use Rattle.vm_hart.specs.Acts.{HasActed, HandsOver, IsMet, IsReadable, WaitsAt, bytes_needs}
use Rattle.vm_hart.specs.Keyed.{KeyedState}
use Rattle.vm_hart.specs.declared.hart.Acted.TheVariants.{Exited, Retired}
use Rattle.vm_hart.proofs.Disks.{get-ram}

-- what EXIT with bytes comes to, by whether they are bytes of RAM
module _ (old new : KeyedState) (value address count : ℕ) where
  abbrev next : State
  next = at_next_instruction old.state

  pub handed-acts : is_byte_range address count old.state.ram ≡ true → count ≤ MAX_HANDED → IsMet (bytes_needs old.state address count) old.pages
      → new ≡ record old { state = at_next_instruction old.state } → HandsOver old new value address count (Exited value address count)
  handed-acts in_range few met is =
      let here : IsMet (pages_of_bytes address count) old.pages =
      subst (λ (b : Bool). IsMet (handing_over b 0 address count old.state).footprint.needs old.pages) in_range met in
      subst (λ (b : Bool). HasActed old new (handing_over b value address count next).footprint (handing_over b value address count next).action (Exited value address count))
      (sym in_range)
      (record {
        met = here;
        tells = (
          ap (λ (h : KeyedState). exit value (bytes_at address count h.state) h.state) (sym is),
          subst (λ (h : KeyedState). IsReadable h address count) (sym is) (record { few = few; in_range = in_range; met = here }),
        );
        changed = (ap (λ (h : KeyedState). h.pages) is, ap (λ (h : KeyedState). h.key) is);
      })

  pub refused-acts : is_byte_range address count old.state.ram ≡ false
      → new ≡ record old { state = at_next_instruction (with_fork (refused old.state.ports.fork BAD_ARGUMENT) old.state) }
      → HandsOver old new value address count (Retired Nothing)
  refused-acts out_of_range is =
      subst (λ (b : Bool). HasActed old new (handing_over b value address count next).footprint (handing_over b value address count next).action (Retired Nothing))
      (sym out_of_range)
      (record {
        met = tt;
        tells = ap (λ (h : KeyedState). retire Nothing h.state) (sym is);
        changed = (ap (λ (h : KeyedState). h.pages) is, ap (λ (h : KeyedState). h.key) is);
      })

-- ---- the pages that they need

module _ (s : State) (address count : ℕ) where
  -- none where there are no bytes, or they are not of RAM
  by-none : (in_range : Bool) → count ≡ 0 → (handing_over in_range 0 address count s).footprint.needs ≡ []
  by-none false none = refl
  by-none true none = ap (λ n. pages_of_bytes address n) none

  pub needs-none : count ≡ 0 → bytes_needs s address count ≡ []
  needs-none none = by-none (is_byte_range address count s.ram) none

  pub needs-outside : is_byte_range address count s.ram ≡ false → bytes_needs s address count ≡ []
  needs-outside out = ap (λ b. (handing_over b 0 address count s).footprint.needs) out

  -- else those of the first and of the last
  pub needs-both : is_byte_range address count s.ram ≡ true → eqb count 0 ≡ false
      → bytes_needs s address count ≡ (address - RAM_BASE) / PAGE_SIZE ∷ (address - RAM_BASE + (count - 1)) / PAGE_SIZE ∷ []
  needs-both in_range some =
      let from = from-base address count (length s.ram) some in_range in
      let last : address + (count - 1) - RAM_BASE ≡ address - RAM_BASE + (count - 1) = omega (arith, from.0) in
      ap (λ b. (handing_over b 0 address count s).footprint.needs) in_range
      ∙ ap (λ (b : Bool). cond b [] (page_of address ∷ page_of (address + (count - 1)) ∷ [])) some
      ∙ ap (λ at. (address - RAM_BASE) / PAGE_SIZE ∷ at / PAGE_SIZE ∷ []) last

-- a page is waited for, or none is, by pages that are needed as others are
pub waits-alike : (pages : Pages) (needs other : List ℕ) → needs ≡ other → (page : Option ℕ) → IfSome page (WaitsAt other pages) → IfSome page (WaitsAt needs pages)
waits-alike pages needs other same page waits = subst (λ n. IfSome page (WaitsAt n pages)) (sym same) waits

pub met-alike : (pages : Pages) (needs other : List ℕ) → needs ≡ other → IsMet other pages → IsMet needs pages
met-alike pages needs other same met = subst (λ n. IsMet n pages) (sym same) met

-- each byte that can be handed over lies in a page of RAM that is here
pub byte-here : (ram disk blank : List Bool) (reads : List ℕ) (address count k : ℕ) → length reads ≡ PAGE_SIZE * length ram → count ≤ MAX_HANDED
    → is_byte_range address count reads ≡ true → eqb count 0 ≡ false → IsMet (pages_of_bytes address count) (record { here = ram ++ disk; blank = blank })
    → k < count → slice_get ram ((address - RAM_BASE + k) / PAGE_SIZE) ≡ Some true
byte-here ram disk blank reads address count k whole few in_range some met within =
    let from = from-base address count (length reads) some in_range in
    let page : ℕ = (address - RAM_BASE + k) / PAGE_SIZE in
    let pages : Pages = record { here = ram ++ disk; blank = blank } in
    let both : IsMet (page_of address ∷ page_of (address + (count - 1)) ∷ []) pages =
    subst (λ (b : Bool). IsMet (cond b [] (page_of address ∷ page_of (address + (count - 1)) ∷ [])) pages) some met in
    let inside : page < length ram = omega (arith, whole, within, from.0, from.1) in
    let place : page ≡ page_of (address + k) = omega (arith, from.0) in
    sym (get-ram ram disk page inside)
    ∙ elim (page-of-either address count k from.0 few within) [
      | inl first ↦ ap (slice_get (ram ++ disk)) (place ∙ first) ∙ both.0
      | inr last ↦ ap (slice_get (ram ++ disk)) (place ∙ last) ∙ both.1.0
    ]
