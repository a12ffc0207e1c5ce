use Rattle.std.proofs.Common.{◌≡◌, ◌-◌, true, refl, sym, ◌∙◌, subst, arith}
use Rattle.std.specs.Prelude.{MatchBool}
use Rattle.rv_traps.specs.Protection.{is_unrestricted}
use Rattle.rv_traps.specs.declared.registers.CsrRegisters.{CsrRegisters}
use Rattle.vm_hart.specs.Fast.{IsFastStep, IsStretch}
use Rattle.vm_hart.specs.Kept.{mode_tag}
use Rattle.vm_hart.specs.Windows.{AreOpen}
use Rattle.vm_hart.proofs.Fast.{stretch-none, stretch-more}
use Rattle.vm_hart.proofs.hart.Hart.fast_steps.Goals as goal

pub loop-left-init : goal.loop-left-init
loop-left-init g c = record {
  stretch = subst (λ n. IsStretch n c.args.self.now c.args.self.now) (omega arith) (stretch-none c.args.self.now);
  within = omega arith;
  keeps = c.requires.keeps;
  same_length = refl;
  size = c.ram_size-size.ensures;
  tag = c.mode_tag-tag.ensures;
  is_open = c.shut-windows.ensures c.args.self.now.state.csrs;
}

pub step_fast-requires-clause-free : goal.step_fast-requires-clause-free
step_fast-requires-clause-free g c = λ free.
    subst (λ (s : CsrRegisters). is_unrestricted s ≡ true) (sym c.loop-left.invariant.stretch.csrs) (c.requires.free free)

pub step_fast-requires-clause-size : goal.step_fast-requires-clause-size
step_fast-requires-clause-size g c = c.loop-left.invariant.size

pub loop-left-preserved : goal.loop-left-preserved
loop-left-preserved g c =
    let step : IsFastStep c.loop-left.self c.step_fast.new.self =
    subst (λ b. MatchBool b (IsFastStep c.loop-left.self c.step_fast.new.self) (c.step_fast.new.self ≡ c.loop-left.self)) c.if-step_fast.true c.step_fast.ensures.made in
    let within = c.loop-left.invariant.within in
    record {
      stretch = subst (λ n. IsStretch n c.args.self.now c.step_fast.new.self) (omega (arith, within))
          (stretch-more (c.args.most - c.loop-left.left) c.args.self.now c.loop-left.self c.step_fast.new.self c.loop-left.invariant.stretch step);
      within = omega (arith, within);
      keeps = c.step_fast.ensures.keeps;
      same_length = c.step_fast.ensures.same_length ∙ c.loop-left.invariant.same_length;
      size = c.loop-left.invariant.size ∙ sym c.step_fast.ensures.same_size;
      tag = subst (λ (s : CsrRegisters). c.mode_tag-tag.result ≡ mode_tag s.mode) (sym step.csrs) c.loop-left.invariant.tag;
      is_open = subst (λ s. AreOpen s c.step_fast.new.windows) (sym step.csrs) c.step_fast.ensures.is_open;
    }
