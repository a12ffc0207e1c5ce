use Rattle.talking_history.proofs.Spots.{projects, talks-alike, talking-spots, machine-boxes}
use Rattle.talking_history.proofs.laws.places_add_nothing.Goals as goal

pub returns : goal.returns
returns g c = record { projects = projects; alike = talks-alike; talking = talking-spots; machines = machine-boxes }
