-- The texts of names are ASCII.
use Rattle.std.proofs.Common.{◌≡◌, ℕ, zero, suc, ◌<◌, ◌^◌, codes, refl, sym, subst, List, [], ◌∷◌, ◌++◌, length, option_map, Option, Some, None, ap, ◌∙◌, arith}
use Rattle.std.specs.Fmt.{decimal}
use Rattle.std.specs.List.{flat_map}
use Rattle.std.specs.Str.{IsAscii, IsUtf8}
use Rattle.std.proofs.lemmas.Fmt.{IsAscii-from_digits, digits_decimal}
use Rattle.std.proofs.lemmas.Str.{IsAscii-append, IsUtf8-from_ascii}
use Rattle.forest_tree.specs.Tree.{Path}
use Rattle.machine_names.specs.Name.{branch_text}
use Rattle.drive_script.specs.NameTexts.{IsNameText, path_of, path_or_root}
use Rattle.drive_script.specs.Script.{name_of}
use Rattle.drive_script.specs.Written.{AreForks}
use Rattle.drive_script.proofs.Numbers.{digits}
use Rattle.drive_script.proofs.WrittenNames.{name-spelled}

one-ascii : (c : ℕ) → c < 128 → IsAscii (c ∷ [])
one-ascii c small zero = small
one-ascii c small (suc i) = omega arith

decimal-ascii : (n : ℕ) → n < 2 ^ 32 → IsAscii (decimal n)
decimal-ascii n small = IsAscii-from_digits (decimal n) (digits.to (decimal n) (digits_decimal digits n (omega arith)))

forks-ascii : (path : Path) → AreForks path → IsAscii (flat_map branch_text path)
forks-ascii [] forks = λ i. omega arith
forks-ascii (b ∷ rest) forks =
    let point : IsAscii (codes ".") = one-ascii 46 (omega arith) in
    IsAscii-append (branch_text b) (flat_map branch_text rest)
    (IsAscii-append (codes ".") (decimal b.ticket ++ (codes "." ++ decimal b.child)) point
    (IsAscii-append (decimal b.ticket) (codes "." ++ decimal b.child) (decimal-ascii b.ticket forks.0.ticket_to)
    (IsAscii-append (codes ".") (decimal b.child) point (decimal-ascii b.child forks.0.child_to))))
    (forks-ascii rest forks.1)

pub name-utf8 : (text : List ℕ) (path : Path) → name_of text ≡ Some path → IsUtf8 text
name-utf8 text path h =
    let is = name-spelled text path h in
    IsUtf8-from_ascii text
    (subst IsAscii (sym is.0) (IsAscii-append (codes "0") (flat_map branch_text path) (one-ascii 48 (omega arith)) (forks-ascii path is.1)))

-- a text whose depth was found is a name
pub is-text : (text : List ℕ) (depth : ℕ) → Some depth ≡ option_map length (name_of text) → IsNameText text depth
is-text text depth h = by (name_of text) refl h
  where
    by : (o : Option Path) → name_of text ≡ o → Some depth ≡ option_map length o → IsNameText text depth
    by None e h = absurd (cc)
    by (Some path) e h =
        let is : path_of text ≡ path = ap path_or_root e in
        let deep : depth ≡ length path = cc in
        record { is_name = e ∙ ap Some (sym is); deep = deep ∙ ap length (sym is) }

pub no-text : (text : List ℕ) → None ≡ option_map length (name_of text) → None ≡ name_of text
no-text text h = by (name_of text) h
  where
    by : (o : Option Path) → None ≡ option_map length o → None ≡ o
    by None h = refl
    by (Some path) h = absurd (cc)
