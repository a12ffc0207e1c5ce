use Rattle.std.proofs.Common.{◌≡◌, option_map}
use Rattle.drive_script.specs.Script.{forks_of, parts_beyond}
use Rattle.drive_script.proofs.Names.{after_path, length_left}
use Rattle.drive_script.proofs.name.NameText.name.Given as goal

abbrev pub invariant-forks : goal.invariant-forks
invariant-forks l =
    after_path l.branches.items (forks_of (parts_beyond 46 (option_map (λ text. text.now) l.forks)))
    ≡ forks_of (parts_beyond 46 (option_map (λ text. text.now) l.initial.forks))

abbrev pub decreases-forks : goal.decreases-forks
decreases-forks l = length_left (option_map (λ text. text.now) l.forks)
