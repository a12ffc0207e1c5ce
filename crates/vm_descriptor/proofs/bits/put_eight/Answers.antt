use Rattle.std.proofs.Common.{rules, ◌≡◌, ◌<◌, ℕ, List, ◌++◌, ◌-◌, length, sym, ap, ◌∙◌}
use Rattle.std.specs.Prelude.{Bool}
use Rattle.std.proofs.Math.ListN.{get_or}
use Rattle.std.proofs.lemmas.List.{append_assoc}
use Rattle.vm_descriptor.specs.MadeRuns.{from_the_start}
use Rattle.vm_descriptor.specs.Maps.{bits_of, flags_of}
use Rattle.vm_descriptor.proofs.WordBits.{flags_word}
use Rattle.vm_descriptor.proofs.bits.put_eight.Goals as goal

pub returns-clause-behind : goal.returns-clause-behind
returns-clause-behind c = λ rest.
    let eight = c.args.eight.now in
    let left = c.args.left in
    let bits = c.at_most-bits.result in
    let old = from_the_start c.args.runs.now in
    let behind = flags_of (left - bits) rest in
    let are : (i : ℕ) → get_or eight i 0 < 256 = λ i. first_of (search (rules, c.fits-eight i), search (rules, c.fits-eight)) in
    let size : length eight ≡ 8 = first_of (search rules, search (rules, c.told-eight)) in
    ap (λ (fs : List Bool). fs ++ behind) c.in_ok-put_word.ensures.behind
    ∙ append_assoc old (bits_of bits c.read_double.result) behind
    ∙ ap (λ (fs : List Bool). old ++ fs)
    (ap (λ (n : ℕ). bits_of bits n ++ behind) c.read_double.ensures ∙ sym (flags_word eight rest 8 left bits size are c.at_most-bits.ensures))
