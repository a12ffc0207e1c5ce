use Rattle.std.proofs.Common.{◌≡◌, ℕ, ◌/◌, get_or, Some, sym, ◌∙◌, arith, refl}
use Rattle.std.proofs.lemmas.Bool.Decides.{nat_tests}
use Rattle.guest_pmp.specs.Regions.{Entry, deciding, entry_of}
use Rattle.guest_pmp.specs.Spans.{HasAddress}
use Rattle.guest_pmp.proofs.Deciding.{matches_behind, matches_here, matches_nowhere}
use Rattle.guest_pmp.proofs.Spans.{has-in, has-out}
use Rattle.guest_pmp.proofs.registers.PmpRegisters.span_around.Goals as goal

pub loop-i-init : goal.loop-i-init
unfolding deciding
loop-i-init c = record { has = (omega arith, omega arith); fits = omega arith; behind = λ address inside. refl }

pub returns-then-has : goal.returns-then-has
returns-then-has c =
    let bytes = c.args.self.now.configurations in
    let words = c.args.self.now.addresses in
    let i : ℕ = c.loop-i.i in
    let below : ℕ = c.loop-i.below in
    let entry : Entry = entry_of (get_or bytes i 0) below (get_or words i 0) in
    let region = c.region_of-region.result in
    let found = sym c.has.ensures ∙ c.if-has.true in
    let inside : HasAddress region c.args.address = (grind (arith, nat_tests), grind (arith, nat_tests)) in
    let has : HasAddress c.within.result c.args.address = c.within.ensures.all (c.args.address / 4) c.loop-i.invariant.has inside in
    let decided : (other : ℕ) → HasAddress c.within.result other → deciding c.args.self.now other ≡ Some (get_or bytes i 0) =
    λ other of.
    let both = c.within.ensures.both (other / 4) of in
    c.loop-i.invariant.behind other both.0 ∙ matches_here other below i bytes words (grind arith) (grind arith) (has-in entry region other c.region_of-region.ensures both.1) in
    record {
      has = has;
      fits = let least = c.within.ensures.behind in let fits = c.loop-i.invariant.fits in omega (arith, least, fits);
      alike = λ other of. decided other of ∙ sym (decided c.args.address has);
    }

pub loop-i-preserved : goal.loop-i-preserved
loop-i-preserved c =
    let bytes = c.args.self.now.configurations in
    let words = c.args.self.now.addresses in
    let i : ℕ = c.loop-i.i in
    let below : ℕ = c.loop-i.below in
    let entry : Entry = entry_of (get_or bytes i 0) below (get_or words i 0) in
    let beside = c.beside-span.ensures in
    record {
      has = beside.has;
      fits = let least = beside.behind in let fits = c.loop-i.invariant.fits in omega (arith, least, fits);
      behind = λ address of.
          c.loop-i.invariant.behind address (beside.inside (address / 4) of)
          ∙ matches_behind address below i bytes words (grind arith) (grind arith)
          (has-out entry c.region_of-region.result address c.region_of-region.ensures (beside.apart (address / 4) of));
    }

pub returns : goal.returns
returns c =
    let bytes = c.args.self.now.configurations in
    let words = c.args.self.now.addresses in
    let decided = λ (other : ℕ) (of : HasAddress c.loop-i.span other).
    c.loop-i.invariant.behind other of ∙ matches_nowhere other c.loop-i.below c.loop-i.i bytes words (grind arith) in
    record {
      has = c.loop-i.invariant.has;
      fits = c.loop-i.invariant.fits;
      alike = λ other of. decided other of ∙ sym (decided c.args.address c.loop-i.invariant.has);
    }
