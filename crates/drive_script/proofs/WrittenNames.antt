-- Numbers and names are read as they are written.
use Rattle.std.proofs.Common.{◌≡◌, ℕ, ◌-◌, ◌^◌, ◌<◌, ◌≤◌, ◌==◌, ◌&&◌, Bool, true, false, not, if◌then◌else◌, nat_lt, nat_le, refl, sym, ap, ap₂, ◌∙◌}
use Rattle.std.proofs.Common.{subst, arith, inl, inr, List, [], ◌∷◌, ◌++◌, append_assoc, append-nil, length, get_or, codes, Option, Some, None}
use Rattle.std.proofs.Common.{eq-eqb}
use borrow.Author.Tests.{ltb-true, leb-true}
use Rattle.std.proofs.lemmas.Bool.{and_parts, cases_eq, ne_eqb}
use Rattle.std.proofs.lemmas.Bool.Decides.{nat_tests}
use Rattle.std.proofs.lemmas.Fmt.{decimal_digit, decimal_nonempty, first_decimal, digits_decimal, digits_value-decimal, decimal-digits_value}
use Rattle.std.proofs.lemmas.List.{get_or_default}
use Rattle.std.proofs.lemmas.List.Elements.{All-cons, All-nil}
use Rattle.std.proofs.lemmas.Slice.Eq.{bytes_eq-Decides}
use Rattle.std.proofs.lemmas.Str.Parse.{digit_at}
use Rattle.std.proofs.lemmas.List.Splits.{slice_split_none, slice_split_at, join_with_byte-slice_split}
use Rattle.std.specs.Fmt.{decimal}
use Rattle.std.specs.List.{All, flat_map, join_with_byte}
use Rattle.std.specs.Str.{bytes_eq}
use Rattle.std.specs.Str.Parse.{digits_value}
use Rattle.forest_tree.specs.Tree.{Path}
use Rattle.machine_names.specs.Name.{branch_text, name_text}
use Rattle.drive_script.specs.Script.{fork_before, forks_of, has_leading_zero, is_decimal, name_by, name_of, number_from, number_of, number_within, parts}
use Rattle.drive_script.specs.Written.{AreForks}
use Rattle.drive_script.proofs.Numbers.{digits, decimal-digits, decimal-long}

-- ---- numbers

no-zero : (text : List ℕ) → (get_or text 0 0 ≡ 48 → length text ≤ 1) → has_leading_zero text ≡ false
no-zero text h = elim (cases_eq (get_or text 0 0) 48) [
  | inl first ↦ (let short = h first in grind (arith, nat_tests))
  | inr other ↦ grind (arith, nat_tests)
]

long : (text : List ℕ) → 0 < length text → nat_lt 0 (length text) ≡ true
long text h = grind (arith, nat_tests)

decimal-first : (n : ℕ) → n < 2 ^ 32 → get_or (decimal n) 0 0 ≡ 48 → length (decimal n) ≤ 1
decimal-first n small h = elim (cases_eq n 0) [
  | inl none ↦ (let one = ap length (decimal_digit n (omega arith)) in omega (arith, one))
  | inr some ↦ (let first = first_decimal n (omega arith) (omega arith) in absurd (omega (arith, first)))
]

is_decimal-decimal : (n : ℕ) → n < 2 ^ 32 → is_decimal (decimal n) ≡ true
is_decimal-decimal n small =
    ap₂ ◌&&◌ (long (decimal n) (decimal_nonempty n (omega arith)))
    (ap₂ ◌&&◌ (ap not (no-zero (decimal n) (decimal-first n small))) (digits_decimal digits n (omega arith)))

below : (n most : ℕ) → n < most → nat_lt n most ≡ true
below n most h = grind (arith, nat_tests)

pub number-decimal : (n : ℕ) → n < 2 ^ 32 → number_of (decimal n) ≡ Some n
number-decimal n small =
    let worth = digits_value-decimal digits n (omega arith) in
    ap (λ b. if b then Some (digits_value 10 (decimal n)) else None)
    (ap₂ ◌&&◌ (is_decimal-decimal n small) (below (digits_value 10 (decimal n)) (2 ^ 32) (omega (arith, worth))))
    ∙ ap Some worth

pub if-some : (b : Bool) (v n : ℕ) → (if b then Some v else None) ≡ Some n → (b ≡ true) × (v ≡ n)
if-some true v n h = (refl, cc h)
if-some false v n h = cc h

leading-by : (text : List ℕ) → 0 < length text → not (has_leading_zero text) ≡ true → get_or text 0 0 ≡ 48 → length text ≡ 1
leading-by text some none first = grind (arith, nat_tests)

leading : (text : List ℕ) → is_decimal text ≡ true → get_or text 0 0 ≡ 48 → length text ≡ 1
leading text h first =
    let parts = and_parts (nat_lt 0 (length text)) _ h in
    let none = (and_parts (not (has_leading_zero text)) _ parts.1).0 in
    leading-by text (decimal-long text h) none first

pub number-spelled : (text : List ℕ) (n : ℕ) → number_of text ≡ Some n → (text ≡ decimal n) × (n < 2 ^ 32)
number-spelled text n h =
    let read = if-some (is_decimal text && nat_lt (digits_value 10 text) (2 ^ 32)) (digits_value 10 text) n h in
    let parts = and_parts (is_decimal text) (nat_lt (digits_value 10 text) (2 ^ 32)) read.0 in
    let small : digits_value 10 text < 2 ^ 32 = ltb-true (digits_value 10 text) (2 ^ 32) parts.1 in
    let same = read.1 in (
      sym (decimal-digits_value digits text (decimal-digits text parts.0) (decimal-long text parts.0) (leading text parts.0) (omega (arith, small))) ∙ ap decimal same,
      omega (arith, small, same),
    )

within-by : (n least most : ℕ) → least ≤ n → n ≤ most → nat_le least n && nat_le n most ≡ true
within-by n least most from to = grind (arith, nat_tests)

pub within-decimal : (least most n : ℕ) → least ≤ n → n ≤ most → n < 2 ^ 32 → number_within least most (decimal n) ≡ Some n
within-decimal least most n from to small =
    ap (number_from least most) (number-decimal n small) ∙ ap (λ b. if b then Some n else None) (within-by n least most from to)

from-some : (least most : ℕ) (read : Option ℕ) (n : ℕ) → number_from least most read ≡ Some n → (read ≡ Some n) × (least ≤ n) × (n ≤ most)
from-some least most None n h = cc h
from-some least most (Some m) n h =
    let is = if-some (nat_le least m && nat_le m most) m n h in
    let limits = and_parts (nat_le least m) (nat_le m most) is.0 in
    let from = leb-true least m limits.0 in
    let to = leb-true m most limits.1 in
    (ap Some is.1, omega (arith, from, is.1), omega (arith, to, is.1))

pub within-spelled : (least most : ℕ) (text : List ℕ) (n : ℕ) → number_within least most text ≡ Some n
    → (text ≡ decimal n) × (n < 2 ^ 32) × (least ≤ n) × (n ≤ most)
within-spelled least most text n h =
    let is = from-some least most (number_of text) n h in
    let spelled = number-spelled text n is.0 in
    (spelled.0, spelled.1, is.1, is.2)

-- ---- parts

-- a text with no separator in it
abbrev pub IsFree : ℕ → List ℕ → Type 0
IsFree separator text = All (λ x. (x == separator) ≡ false) text

pub free-above : (least separator : ℕ) (text : List ℕ) → separator ≤ least → All (λ x. least < x) text → IsFree separator text
free-above least separator text low h = λ k d l. ne_eqb (get_or text k d) separator (λ e. (let above = h k d l in omega arith))

pub parts-first : (separator : ℕ) (text rest : List ℕ) → IsFree separator text → parts separator (text ++ (separator ∷ rest)) ≡ text ∷ parts separator rest
parts-first separator text rest free = slice_split_at (λ b. b == separator) text separator rest free (eq-eqb separator separator refl)

pub parts-last : (separator : ℕ) (text : List ℕ) → IsFree separator text → parts separator text ≡ text ∷ []
parts-last separator text free = slice_split_none (λ b. b == separator) text free

pub decimal-above : (n : ℕ) → n < 2 ^ 32 → All (λ x. 47 < x) (decimal n)
decimal-above n small k d l =
    let digit = digit_at (decimal n) k (digits.to (decimal n) (digits_decimal digits n (omega arith))) l in
    let same = get_or_default (decimal n) k d 0 l in
    omega (arith, digit, same)

-- ---- names

names_of : Path → List (List ℕ)
names_of [] = []
names_of (b ∷ rest) = decimal b.ticket ∷ (decimal b.child ∷ names_of rest)

names-parts : (text : List ℕ) (path : Path) → IsFree 46 text → AreForks path → parts 46 (text ++ flat_map branch_text path) ≡ text ∷ names_of path
unfolding names_of
names-parts text [] free forks = ap (parts 46) (append-nil text) ∙ parts-last 46 text free
names-parts text (b ∷ rest) free forks =
    let behind = flat_map branch_text rest in
    let ticket = free-above 47 46 (decimal b.ticket) (omega arith) (decimal-above b.ticket forks.0.ticket_to) in
    let child = free-above 47 46 (decimal b.child) (omega arith) (decimal-above b.child forks.0.child_to) in
    ap (λ more. parts 46 (text ++ (46 ∷ more))) (append_assoc (decimal b.ticket) (46 ∷ decimal b.child) behind)
    ∙ parts-first 46 text (decimal b.ticket ++ (46 ∷ (decimal b.child ++ behind))) free
    ∙ ap (λ more. text ∷ more) (parts-first 46 (decimal b.ticket) (decimal b.child ++ behind) ticket
    ∙ ap (λ more. decimal b.ticket ∷ more) (names-parts (decimal b.child) rest child forks.1))

forks-read : (path : Path) → AreForks path → forks_of (names_of path) ≡ Some path
unfolding names_of forks_of
forks-read [] forks = refl
forks-read (b ∷ rest) forks =
    let ticket = within-decimal 1 (2 ^ 32 - 1) b.ticket forks.0.ticket_from (omega (arith, forks.0.ticket_to)) forks.0.ticket_to in
    let child = within-decimal 1 (2 ^ 32 - 1) b.child forks.0.child_from (omega (arith, forks.0.child_to)) forks.0.child_to in
    ap₂ (λ t k. fork_before t k (forks_of (names_of rest))) ticket child ∙ ap (fork_before (Some b.ticket) (Some b.child)) (forks-read rest forks.1)

pub name-written : (path : Path) → AreForks path → name_of (name_text path) ≡ Some path
name-written path forks =
    ap name_by (names-parts (codes "0") path (free-above 47 46 (codes "0") (omega arith) (All-cons (λ x. 47 < x) 48 [] (omega arith) (All-nil (λ x. 47 < x)))) forks)
    ∙ forks-read path forks

fork-parts : (a b : Option ℕ) (rest : Option Path) (path : Path) → fork_before a b rest ≡ Some path
    → (ticket : ℕ) × (child : ℕ) × (forks : Path) × (a ≡ Some ticket) × (b ≡ Some child) × (rest ≡ Some forks) × (path ≡ record { ticket = ticket; child = child } ∷ forks)
fork-parts (Some ticket) (Some child) (Some forks) path h = (ticket, child, forks, refl, refl, refl, cc h)
fork-parts (Some ticket) (Some child) None path h = cc h
fork-parts (Some ticket) None rest path h = cc h
fork-parts None b rest path h = cc h

forks-spelled : (texts : List (List ℕ)) (path : Path) → forks_of texts ≡ Some path → (texts ≡ names_of path) × AreForks path
unfolding names_of forks_of
forks-spelled [] path h =
    let none : [] ≡ path = cc h in
    let P : Path → Type 0 = λ p. ([] ≡ names_of p) × AreForks p in
    subst P none (refl, tt)
forks-spelled (ticket ∷ []) path h = cc h
forks-spelled (ticket ∷ (child ∷ rest)) path h =
    let is = fork-parts (number_within 1 (2 ^ 32 - 1) ticket) (number_within 1 (2 ^ 32 - 1) child) (forks_of rest) path h in
    let a = within-spelled 1 (2 ^ 32 - 1) ticket is.0 is.3 in
    let b = within-spelled 1 (2 ^ 32 - 1) child is.1 is.4 in
    let more = forks-spelled rest is.2 is.5 in
    let P : Path → Type 0 = λ p. (ticket ∷ (child ∷ rest) ≡ names_of p) × AreForks p in
    subst P (sym is.6)
    (ap₂ ◌∷◌ a.0 (ap₂ ◌∷◌ b.0 more.0), (record { ticket_from = a.2; ticket_to = a.1; child_from = b.2; child_to = b.1 }, more.1))

join-names : (text : List ℕ) (path : Path) → join_with_byte 46 (text ∷ names_of path) ≡ text ++ flat_map branch_text path
unfolding names_of
join-names text [] = sym (append-nil text)
join-names text (b ∷ rest) =
    ap (λ more. text ++ (46 ∷ (decimal b.ticket ++ (46 ∷ more)))) (join-names (decimal b.child) rest)
    ∙ ap (λ more. text ++ (46 ∷ more)) (sym (append_assoc (decimal b.ticket) (46 ∷ decimal b.child) (flat_map branch_text rest)))

root-by : (same : Bool) (root : List ℕ) (forks : Option Path) (path : Path) → (same ≡ true → root ≡ codes "0")
    → (if same then forks else None) ≡ Some path → (root ≡ codes "0") × (forks ≡ Some path)
root-by true root forks path e h = (e refl, h)
root-by false root forks path e h = cc h

root-is : (root : List ℕ) (forks : Option Path) (path : Path) → (if bytes_eq root (codes "0") then forks else None) ≡ Some path → (root ≡ codes "0") × (forks ≡ Some path)
root-is root forks path h = root-by (bytes_eq root (codes "0")) root forks path (bytes_eq-Decides root (codes "0")).0 h

by-spelled : (texts : List (List ℕ)) (path : Path) → name_by texts ≡ Some path → (texts ≡ codes "0" ∷ names_of path) × AreForks path
by-spelled [] path h = cc h
by-spelled (root ∷ forks) path h =
    let is = root-is root (forks_of forks) path h in
    let spelled = forks-spelled forks path is.1 in
    (ap₂ ◌∷◌ is.0 spelled.0, spelled.1)

pub name-spelled : (text : List ℕ) (path : Path) → name_of text ≡ Some path → (text ≡ name_text path) × AreForks path
name-spelled text path h =
    let is = by-spelled (parts 46 text) path h in
    (sym (join_with_byte-slice_split 46 text) ∙ ap (join_with_byte 46) is.0 ∙ join-names (codes "0") path, is.1)
