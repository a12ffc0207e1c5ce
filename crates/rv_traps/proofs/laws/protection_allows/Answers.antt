use Rattle.rv_traps.proofs.Protection.{allows-alike, allows-unrestricted}
use Rattle.rv_traps.proofs.laws.protection_allows.Goals as goal

pub returns : goal.returns
returns c = record {
  unrestricted = λ s access address free. allows-unrestricted s free access address;
  alike = allows-alike;
}
