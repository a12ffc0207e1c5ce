use Rattle.std.proofs.Common.{◌≡◌, ℕ, Some, subst, sym}
use Rattle.sibling_port.specs.Sibling.{sibling_store}
use Rattle.vm_bus.specs.Bus.{BusParts, Waits}
use Rattle.vm_bus.proofs.Calls.{sibling-waits}
use Rattle.vm_bus.proofs.ports.Ports.store_sibling.Goals as goal

pub returns-clause-waits : goal.returns-clause-waits
returns-clause-waits c =
    let bus : BusParts = record {
      timer = c.self.inside.timer;
      console = c.self.inside.console;
      block = c.self.inside.block;
      fork = c.self.inside.fork;
      sibling = c.self.inside.sibling;
    } in
    let talk = c.in_ok-talk.talk in
    let IsStored : ℕ → Type 0 =
    λ number. sibling_store number bus.sibling c.args.offset c.args.width c.args.word ≡ Some (record { port = c.store.new.self; talk = talk }) in
    let waits = sibling-waits bus c.store.new.self talk c.args.offset c.args.width c.args.word (subst IsStored c.clone_id-number.ensures c.in_ok-talk.ensures.ok) in
    rw (← c.self.view_is) (subst (Waits bus (record bus { sibling = c.store.new.self })) (sym c.talk_effect.ensures) waits)
