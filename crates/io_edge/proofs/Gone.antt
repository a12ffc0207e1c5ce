-- Bytes that are gone, one piece after another.
use Rattle.std.proofs.Common.{append-nil, take-add, ◌≡◌, ℕ, ◌+◌, ◌<◌, ◌≤◌, List, [], ◌∷◌, ◌++◌, length, take, drop, Option, Some, None, refl, sym, ap, ◌∙◌, append_assoc, length-append, arith}
use Rattle.std.proofs.lemmas.List.{take-append-le, length-take-le}
use Rattle.std.proofs.Math.Seq.{take-append-add}
use Rattle.io_edge.specs.Outside.{appended, IsPrefixGone}

pub appended-appended : (gone : Option (List ℕ)) (xs ys : List ℕ) → appended (appended gone xs) ys ≡ appended gone (xs ++ ys)
appended-appended None xs ys = refl
appended-appended (Some bytes) xs ys = ap Some (append_assoc bytes xs ys)

pub appended-nothing : (gone : Option (List ℕ)) → appended gone [] ≡ gone
appended-nothing None = refl
appended-nothing (Some bytes) = ap Some (append-nil bytes)

-- nothing is a prefix
pub IsPrefixGone-nothing : (gone : Option (List ℕ)) (xs : List ℕ) → IsPrefixGone gone gone xs
IsPrefixGone-nothing gone xs = (0, omega arith, sym (appended-nothing gone))

-- a prefix of a first piece is one of the whole
pub IsPrefixGone-front : (old new : Option (List ℕ)) (xs ys : List ℕ) → IsPrefixGone old new xs → IsPrefixGone old new (xs ++ ys)
IsPrefixGone-front old new xs ys p =
    (p.0, omega (arith, length-append xs ys, p.1), p.2 ∙ ap (appended old) (sym (take-append-le p.0 xs ys p.1)))

-- a first piece and a prefix of the rest are one of the whole
pub IsPrefixGone-after : (old mid new : Option (List ℕ)) (xs ys : List ℕ) → mid ≡ appended old xs → IsPrefixGone mid new ys → IsPrefixGone old new (xs ++ ys)
IsPrefixGone-after old mid new xs ys e p = (
  length xs + p.0,
  omega (arith, length-append xs ys, p.1),
  p.2 ∙ ap (λ gone. appended gone (take p.0 ys)) e ∙ appended-appended old xs (take p.0 ys) ∙ ap (appended old) (sym (take-append-add xs ys p.0)),
)

-- one more piece of the bytes
pub appended-take : (old : Option (List ℕ)) (bytes : List ℕ) (at n : ℕ) → at ≤ length bytes → appended (appended old (take at bytes)) (take n (drop at bytes)) ≡ appended old (take (at + n) bytes)
appended-take old bytes at n h = appended-appended old (take at bytes) (take n (drop at bytes)) ∙ ap (appended old) (sym (take-add at n bytes))
