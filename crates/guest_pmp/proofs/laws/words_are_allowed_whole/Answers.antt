use Rattle.std.proofs.Common.{ap}
use Rattle.guest_pmp.specs.Allowed.{decided}
use Rattle.guest_pmp.proofs.Deciding.{deciding-alike}
use Rattle.guest_pmp.proofs.laws.words_are_allowed_whole.Goals as goal

pub returns : goal.returns
returns c = λ r access mode a b e. ap (λ found. decided found access mode) (deciding-alike r a b e)
