-- Trees of machines. A machine has a brood for each of its cloned tickets, and a log.
use Rattle.std.specs.Prelude.{ℕ, zero, suc, ◌+◌, ◌==◌, ◌&&◌, Bool, true, false, if◌then◌else◌, List, [], ◌∷◌, Option, Some, None, option_and_then}

mutual
  pub data Tree (M : Type 0) : Type 0 where
    node : M → Broods M → Log M → Tree M

  pub data Trees (M : Type 0) : Type 0 where
    no_tree : Trees M
    tree : Tree M → Trees M → Trees M

  -- the children of each ticket, in order of k
  pub data Broods (M : Type 0) : Type 0 where
    no_brood : Broods M
    brood : ℕ → Trees M → Broods M → Broods M

  -- it grows at its end
  pub data Log (M : Type 0) : Type 0 where
    no_entry : Log M
    -- a ticket that was joined, and its children
    joined : Log M → ℕ → Trees M → Log M
    -- a ticket that was killed, and how many its children were
    killed : Log M → ℕ → ℕ → Log M

abbrev pub machine : {M : Type 0} → Tree M → M
machine (node m broods log) = m

abbrev pub broods_of : {M : Type 0} → Tree M → Broods M
broods_of (node m broods log) = broods

abbrev pub log_of : {M : Type 0} → Tree M → Log M
log_of (node m broods log) = log

unfoldable pub size : {M : Type 0} → Trees M → ℕ
size no_tree = 0
size (tree t rest) = suc (size rest)

-- the trees with f of the k-th, from 1
unfoldable pub at_child : {M : Type 0} → (Tree M → Tree M) → ℕ → Trees M → Trees M
at_child f k no_tree = no_tree
at_child f zero (tree t rest) = tree t rest
at_child f (suc zero) (tree t rest) = tree (f t) rest
at_child f (suc (suc k)) (tree t rest) = tree t (at_child f (suc k) rest)

-- the k-th tree, from 1
unfoldable pub child_at : {M : Type 0} → ℕ → Trees M → Option (Tree M)
child_at k no_tree = None
child_at zero (tree t rest) = None
child_at (suc zero) (tree t rest) = Some t
child_at (suc (suc k)) (tree t rest) = child_at (suc k) rest

-- the brood of ticket t
unfoldable pub brood_of : {M : Type 0} → ℕ → Broods M → Trees M
brood_of t no_brood = no_tree
brood_of t (brood u trees rest) = if u == t then trees else brood_of t rest

-- the broods but that of ticket t
unfoldable pub without : {M : Type 0} → ℕ → Broods M → Broods M
without t no_brood = no_brood
without t (brood u trees rest) = if u == t then without t rest else brood u trees (without t rest)

-- the broods with f of that of ticket t
unfoldable pub at_brood : {M : Type 0} → (Trees M → Trees M) → ℕ → Broods M → Broods M
at_brood f t no_brood = no_brood
at_brood f t (brood u trees rest) = brood u (if u == t then f trees else trees) (at_brood f t rest)

-- the tree with f of its broods
abbrev pub with_broods : {M : Type 0} → (Broods M → Broods M) → Tree M → Tree M
with_broods f (node m broods log) = node m (f broods) log

-- how many of the broods are of ticket t
unfoldable pub broods_with : {M : Type 0} → ℕ → Broods M → ℕ
broods_with t no_brood = 0
broods_with t (brood u trees rest) = (if u == t then 1 else 0) + broods_with t rest

-- the way from a machine to one below it: at each, the child with this number of a ticket
pub record Branch : Type 0 where
  pub ticket : ℕ
  pub child : ℕ

abbrev pub Path : Type 0
Path = List Branch

-- the tree at a path
unfoldable pub subtree : {M : Type 0} → Path → Tree M → Option (Tree M)
subtree [] t = Some t
subtree (b ∷ path) t = option_and_then (subtree path) (child_at b.child (brood_of b.ticket (broods_of t)))

-- what is left of a path beyond a way, where it goes that way
unfoldable pub beyond : Path → Path → Option Path
beyond [] path = Some path
beyond (a ∷ way) [] = None
beyond (a ∷ way) (b ∷ path) = if (b.ticket == a.ticket) && (b.child == a.child) then beyond way path else None

-- the path goes on from another, and ends below it
abbrev pub goes_on : Option Path → Bool
goes_on None = false
goes_on (Some []) = false
goes_on (Some (b ∷ rest)) = true

abbrev pub is_below : Path → Path → Bool
is_below way path = goes_on (beyond way path)

-- the tree with f of the tree at a path, where one is
unfoldable pub at_path : {M : Type 0} → (Tree M → Tree M) → Path → Tree M → Tree M
at_path f [] t = f t
at_path f (b ∷ path) (node m broods log) = node m (at_brood (at_child (at_path f path) b.child) b.ticket broods) log

-- the same of what is left of a path, if anything is
abbrev pub at_beyond : {M : Type 0} → (Tree M → Tree M) → Option Path → Tree M → Tree M
at_beyond f None t = t
at_beyond f (Some path) t = at_path f path t
