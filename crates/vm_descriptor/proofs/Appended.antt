-- Lists that grow at their end.
use Rattle.std.proofs.Common.{◌≡◌, ℕ, List, ◌++◌, ap, ◌∙◌}
use Rattle.std.proofs.lemmas.List.{append_assoc}

-- what was added first, and then more
pub onto : (first one more : List ℕ) {then last : List ℕ} → then ≡ first ++ one → last ≡ then ++ more → last ≡ first ++ (one ++ more)
onto first one more grew grew-on = grew-on ∙ (ap (λ xs. xs ++ more) grew ∙ append_assoc first one more)
