use Rattle.std.proofs.Common.{◌≡◌, ◌-◌, ◌≤◌, length}
use Rattle.vm_hart.specs.Kept.{Keeps, mode_tag}
use Rattle.vm_hart.specs.Fast.{IsStretch}
use Rattle.vm_hart.specs.Windows.{AreOpen}
use Rattle.vm_hart.proofs.hart.Hart.fast_steps.Given as goal

abbrev pub invariant-loop-left : goal.invariant-loop-left
invariant-loop-left g l = record {
  stretch : IsStretch (l.most - l.left) l.fn.self l.self;
  within : l.left ≤ l.most;
  keeps : Keeps l.self l.epoch l.slots;
  same_length : length l.slots ≡ length l.fn.slots;
  size : l.size ≡ length l.self.state.ram;
  tag : l.tag ≡ mode_tag l.self.state.csrs.mode;
  is_open : AreOpen l.self.state.csrs l.windows;
}

abbrev pub decreases-loop-left : goal.decreases-loop-left
decreases-loop-left g l = l.left
