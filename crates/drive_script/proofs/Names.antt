-- Names, fork by fork.
use Rattle.std.proofs.Common.{◌≡◌, Bool, true, false, not, codes, if◌then◌else◌, ℕ, ◌+◌, List, [], ◌∷◌, ◌++◌, length, Option, Some, None, option_map}
use Rattle.std.proofs.Common.{arith, refl, sym, ap, ◌∙◌, append_assoc, append-nil}
use Rattle.forest_tree.specs.Tree.{Path}
use Rattle.std.specs.Str.{bytes_eq}
use Rattle.machine_names.specs.Name.{child_path}
use Rattle.drive_script.specs.Script.{fork_before, forks_of, name_by, name_of, parts, parts_beyond}

-- the forks behind a path, with it before them
abbrev pub after_path : Path → Option Path → Option Path
after_path path None = None
after_path path (Some forks) = Some (path ++ forks)

-- how long a text is, with the separator before it
abbrev pub length_left : Option (List ℕ) → ℕ
length_left None = 0
length_left (Some text) = length text + 1

pub after-nothing : (forks : Option Path) → after_path [] forks ≡ forks
after-nothing None = refl
after-nothing (Some forks) = refl

-- one more fork belongs to the path
pub after-fork : (path : Path) (ticket child : ℕ) (forks : Option Path) → after_path (child_path path ticket child) forks ≡ after_path path (fork_before (Some ticket) (Some child) forks)
after-fork path ticket child None = refl
after-fork path ticket child (Some forks) = ap Some (append_assoc path (record { ticket = ticket; child = child } ∷ []) forks)

-- where no more forks come, the path is all
pub no-more : (path : Path) (forks : Option (List ℕ)) (read : Option Path) → forks ≡ None → after_path path (forks_of (parts_beyond 46 forks)) ≡ read → read ≡ Some path
unfolding forks_of
no-more path forks read h before = sym before ∙ ap (λ f. after_path path (forks_of (parts_beyond 46 f))) h ∙ ap Some (append-nil path)

-- how many forks come, with so many before them
abbrev pub after_depth : ℕ → Option Path → Option ℕ
after_depth depth forks = option_map (λ path. depth + length path) forks

pub depth-start : (forks : Option Path) → after_depth 0 forks ≡ option_map length forks
depth-start None = refl
depth-start (Some path) = ap Some (omega arith)

pub depth-fork : (depth ticket child : ℕ) (forks : Option Path) → after_depth (depth + 1) forks ≡ after_depth depth (fork_before (Some ticket) (Some child) forks)
depth-fork depth ticket child None = refl
depth-fork depth ticket child (Some forks) = ap Some (omega arith)

pub depth-end : (depth : ℕ) (forks : Option (List ℕ)) (read : Option ℕ) → forks ≡ None → after_depth depth (forks_of (parts_beyond 46 forks)) ≡ read → Some depth ≡ read
unfolding forks_of
depth-end depth forks read h before =
    let all : depth + 0 ≡ depth = omega arith in
    sym (ap Some all) ∙ sym (ap (λ f. after_depth depth (forks_of (parts_beyond 46 f))) h) ∙ before

-- how deep a name is, and its forks
pub name-depth : (text root : List ℕ) (forks : Option (List ℕ)) (depth : Option ℕ) → parts 46 text ≡ root ∷ parts_beyond 46 forks → bytes_eq root (codes "0") ≡ true
    → depth ≡ option_map length (forks_of (parts_beyond 46 forks)) → depth ≡ option_map length (name_of text)
name-depth text root forks depth cut zero read =
    read ∙ sym (ap (option_map length) (ap name_by cut ∙ ap (λ b. if b then forks_of (parts_beyond 46 forks) else None) zero))

pub name-forks : (text root : List ℕ) (forks : Option (List ℕ)) (path : Path) → parts 46 text ≡ root ∷ parts_beyond 46 forks → name_of text ≡ Some path
    → forks_of (parts_beyond 46 forks) ≡ Some path
name-forks text root forks path cut is = by (bytes_eq root (codes "0")) (sym (ap name_by cut) ∙ is)
  where
    by : (b : Bool) → (if b then forks_of (parts_beyond 46 forks) else None) ≡ Some path → forks_of (parts_beyond 46 forks) ≡ Some path
    by true h = h
    by false h = absurd (cc)

pub not-other : (b : Bool) → false ≡ not b → b ≡ true
not-other true h = refl
not-other false h = cc h
