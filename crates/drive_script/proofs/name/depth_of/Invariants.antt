use Rattle.std.proofs.Common.{◌≡◌, ◌+◌, ◌≤◌, length, option_map}
use Rattle.drive_script.specs.Script.{forks_of, parts_beyond}
use Rattle.drive_script.proofs.Names.{after_depth, length_left}
use Rattle.drive_script.proofs.name.depth_of.Given as goal

abbrev pub invariant-forks : goal.invariant-forks
invariant-forks l = record {
  all : after_depth l.depth (forks_of (parts_beyond 46 (option_map (λ text. text.now) l.forks)))
      ≡ option_map length (forks_of (parts_beyond 46 (option_map (λ text. text.now) l.initial.forks)));
  fits : l.depth + length_left (option_map (λ text. text.now) l.forks) ≤ length_left (option_map (λ text. text.now) l.initial.forks);
}

abbrev pub decreases-forks : goal.decreases-forks
decreases-forks l = length_left (option_map (λ text. text.now) l.forks)
