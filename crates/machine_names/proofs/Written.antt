-- Forks that are written in text, one after another.
use Rattle.std.proofs.Common.{◌≡◌, ℕ, ◌+◌, ◌<◌, List, [], ◌∷◌, ◌++◌, append-nil, get_or, length, take, sym, ap, ◌∙◌}
use Rattle.std.specs.declared.fmt.Formatter.{Formatter}
use Rattle.std.specs.Fmt.{HasWritten}
use Rattle.std.specs.List.{flat_map}
use Rattle.std.proofs.lemmas.List.{take_more}
use Rattle.std.proofs.lemmas.Grind.{flat_map-append, put_two}
use Rattle.forest_tree.specs.Tree.{Branch, Path}
use Rattle.machine_names.specs.Name.{branch_text}

-- one fork more
pub branch-more : {W : Type 0} (took : W → List ℕ → W → Type 0) (f g h : Formatter W) (path : Path) (at : ℕ) (x : Branch) → at < length path
    → x ≡ get_or path at x → HasWritten took f (flat_map branch_text (take at path)) g → HasWritten took g (branch_text x) h
    → HasWritten took f (flat_map branch_text (take (at + 1) path)) h
branch-more took f g h path at x within is before last =
    put_two took f g h (flat_map branch_text (take at path)) (branch_text x) (flat_map branch_text (take (at + 1) path)) before last
    (sym
    (ap (flat_map branch_text) (take_more path at x within) ∙ flat_map-append branch_text (take at path) (get_or path at x ∷ [])
    ∙ ap (λ (text : List ℕ). flat_map branch_text (take at path) ++ text) (append-nil (branch_text (get_or path at x)) ∙ ap branch_text (sym is))))
