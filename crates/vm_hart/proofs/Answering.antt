-- Which accesses the ports may answer.
use Rattle.std.proofs.Common.{◌≡◌, Bool, true, false, cond, refl, subst}
use Rattle.forest_model.specs.declared.access.Access.{Access}
use Rattle.forest_model.specs.declared.access.Direction.{Direction}
use Rattle.forest_model.specs.State.{State, is_in_ram}
use Rattle.forest_model.specs.Access.{faulted, of_port, fault_cause, is_aligned_for, is_allowed, reached, reached_by, reached_if, reached_in, uses}

of_ports-by : (of_ports : Bool) (direction : Direction) → cond of_ports of_port (faulted (fault_cause direction)) ≡ of_port → of_ports ≡ true
of_ports-by true direction is = refl
of_ports-by false direction is = absurd (cc)

of_ports-in : (in_ram : Bool) (a : Access) → reached_in in_ram a ≡ of_port → (uses a.direction).of_ports ≡ true
of_ports-in true a is = absurd (cc)
of_ports-in false a is = of_ports-by (uses a.direction).of_ports a.direction is

of_ports-if : (allowed in_ram : Bool) (a : Access) → reached_if allowed in_ram a ≡ of_port → (uses a.direction).of_ports ≡ true
of_ports-if false in_ram a is = absurd (cc)
of_ports-if true in_ram a is = of_ports-in in_ram a is

of_ports-aligned : (aligned : Bool) (a : Access) (s : State) → reached_by aligned a s ≡ of_port → (uses a.direction).of_ports ≡ true
of_ports-aligned false a s is = absurd (cc)
of_ports-aligned true a s is = of_ports-if (is_allowed a s) (is_in_ram s.ram a.address) a is

-- an access that comes to the ports is one that they may answer
pub of_ports-reached : (a : Access) (s : State) → reached a s ≡ of_port → (uses a.direction).of_ports ≡ true
unfolding reached
of_ports-reached a s is = of_ports-aligned (is_aligned_for a.direction a.address a.width) a s is

-- so none of another direction does
pub no-port-reached : (a : Access) (s : State) (direction : Direction) {R : Type 0} → a.direction ≡ direction → (uses direction).of_ports ≡ false
    → reached a s ≡ of_port → R
no-port-reached a s direction same none is =
    let may : (uses direction).of_ports ≡ true = subst (λ d. (uses d).of_ports ≡ true) same (of_ports-reached a s is) in
    absurd (cc)
