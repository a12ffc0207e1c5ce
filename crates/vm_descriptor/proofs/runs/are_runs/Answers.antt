use Rattle.std.proofs.Common.{rules, ◌≡◌, ◌<◌, ◌≤◌, ◌∷◌, ℕ, List, length, take, drop, ap, sym, ◌∙◌}
use Rattle.std.proofs.lemmas.Bool.{lt-leb}
use Rattle.vm_descriptor.specs.Maps.{are_runs, halves}
use Rattle.vm_descriptor.proofs.RunLengths.{first_fill, first_too_many, halves_end, halves_step, none_left}
use Rattle.vm_descriptor.proofs.runs.are_runs.Goals as goal

pub returns-in_default : goal.returns-in_default
returns-in_default c =
    let few : length c.args.map.now < 2 = search rules in
    none_left c.args.pages ∙ ap (λ (ls : List ℕ). are_runs c.args.pages ls) (sym (halves_end c.args.map.now few))

pub returns-then-first-pages : goal.returns-then-first-pages
returns-then-first-pages c =
    let map = c.args.map.now in
    let later = halves c.in-Some.behind.now in
    let enough : 2 ≤ length map = search rules in
    let first : c.in-Some.first.now ≡ take 2 map = search rules in
    let rest : c.in-Some.behind.now ≡ drop 2 map = search rules in
    let step : halves map ≡ c.from-first.result ∷ later =
    halves_step map c.in-Some.first.now c.in-Some.behind.now enough first rest ∙ ap (λ (n : ℕ). n ∷ later) (sym (c.from-first.ensures ∙ c.read_half.ensures)) in
    c.follow.ensures ∙ first_fill c.args.pages c.from-first.result later c.if-first-pages.true ∙ ap (λ (ls : List ℕ). are_runs c.args.pages ls) (sym step)

pub returns-else-first-pages : goal.returns-else-first-pages
returns-else-first-pages c =
    let map = c.args.map.now in
    let later = halves c.in-Some.behind.now in
    let enough : 2 ≤ length map = search rules in
    let first : c.in-Some.first.now ≡ take 2 map = search rules in
    let rest : c.in-Some.behind.now ≡ drop 2 map = search rules in
    let step : halves map ≡ c.from-first.result ∷ later =
    halves_step map c.in-Some.first.now c.in-Some.behind.now enough first rest ∙ ap (λ (n : ℕ). n ∷ later) (sym (c.from-first.ensures ∙ c.read_half.ensures)) in
    lt-leb c.from-first.result c.args.pages c.if-first-pages.false
    ∙ first_too_many c.args.pages c.from-first.result later c.if-first-pages.false ∙ ap (λ (ls : List ℕ). are_runs c.args.pages ls) (sym step)
