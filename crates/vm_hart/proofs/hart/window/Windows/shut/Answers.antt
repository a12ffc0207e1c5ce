use Rattle.vm_hart.proofs.hart.window.Windows.shut.Goals as goal

pub returns : goal.returns
returns c = λ csrs. record {
  loads = λ address has. absurd (c.none.ensures address has);
  stores = λ address has. absurd (c.none-2.ensures address has);
}
