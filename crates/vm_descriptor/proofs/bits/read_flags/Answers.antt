use Rattle.std.proofs.Common.{rules, ◌≡◌, ℕ, List, [], ◌++◌, ◌+◌, ◌-◌, get_or, sym, ap, ◌∙◌, take, drop, refl}
use Rattle.std.specs.Prelude.{Bool, nat_lt}
use Rattle.std.proofs.lemmas.List.{append-nil, append_assoc, at_drop_more, drop_all, take-append-drop}
use Rattle.std.proofs.lemmas.Result.{IfOk-weaker}
use Rattle.vm_descriptor.specs.MadeRuns.{from_the_start}
use Rattle.vm_descriptor.specs.Maps.{bits_of, flags_of}
use Rattle.vm_descriptor.proofs.BitSteps.{flags_of_none, flags_step}
use Rattle.vm_descriptor.proofs.WordBits.{first_by}
use Rattle.vm_descriptor.proofs.bits.read_flags.Goals as goal

pub words-init : goal.words-init
words-init c = record {
  in_turn = c.new-runs.ensures.in_turn;
  so_far = ap (λ (fs : List Bool). fs ++ flags_of c.args.count c.args.map.now) c.new-runs.ensures.behind;
}

pub words-preserved : goal.words-preserved
words-preserved c =
    let bytes = c.words.bytes.now in
    let was = c.words.invariant in
    let first : c.in-Some.eight.now ≡ take 8 bytes = search rules in
    let rest : c.in-Some.behind.now ≡ drop 8 bytes = search rules in
    let whole : c.in-Some.eight.now ++ c.in-Some.behind.now ≡ bytes = ap (λ (xs : List ℕ). xs ++ c.in-Some.behind.now) first ∙ ap (λ (xs : List ℕ). take 8 bytes ++ xs) rest ∙ take-append-drop 8 bytes in
    record {
      in_turn = c.in_ok-left.ensures.in_turn;
      so_far =
          c.in_ok-left.ensures.behind c.in-Some.behind.now
          ∙ ap (λ (xs : List ℕ). from_the_start c.words.runs ++ flags_of c.words.left xs) whole ∙ was.so_far;
    }

pub loop-byte-init : goal.loop-byte-init
loop-byte-init c = record { in_turn = c.words.invariant.in_turn; so_far = c.words.invariant.so_far }

pub loop-byte-preserved : goal.loop-byte-preserved
loop-byte-preserved c =
    let loop = c.loop-byte in
    let bytes = c.words.bytes.now in
    let i = loop.byte-index in
    let byte = get_or bytes i 0 in
    let bits = c.at_most-bits.result in
    let old = from_the_start loop.runs in
    let behind = flags_of (loop.left - bits) (drop (i + 1) bytes) in
    record {
      in_turn = c.in_ok-put_word.ensures.in_turn;
      so_far =
          ap (λ (fs : List Bool). fs ++ behind) c.in_ok-put_word.ensures.behind
          ∙ append_assoc old (bits_of bits c.from.result) behind
          ∙ ap (λ (fs : List Bool). old ++ fs)
          (ap (λ (n : ℕ). bits_of bits n ++ behind) c.from.ensures
          ∙ sym (flags_step loop.left bits byte (drop (i + 1) bytes) (c.at_most-bits.ensures ∙ first_by (nat_lt 8 loop.left) loop.left refl))
          ∙ sym (at_drop_more (flags_of loop.left) bytes i 0 c.loop-byte-test.true))
          ∙ loop.invariant.so_far;
    }

pub returns : goal.returns
returns c =
    let loop = c.loop-byte in
    let bytes = c.words.bytes.now in
    let none : drop loop.byte-index bytes ≡ [] = drop_all loop.byte-index bytes (search rules) in
    let all =
    sym (append-nil (from_the_start loop.runs))
    ∙ ap (λ (fs : List Bool). from_the_start loop.runs ++ fs) (sym (ap (flags_of loop.left) none ∙ flags_of_none loop.left)) ∙ loop.invariant.so_far in
    IfOk-weaker c.into_lengths.result _ _ (λ lengths is. is ∙ all) c.into_lengths.ensures
