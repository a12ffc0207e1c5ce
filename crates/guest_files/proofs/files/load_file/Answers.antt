use Rattle.std.proofs.Common.{refl, ap, ◌∙◌, Err}
use Rattle.guest_files.proofs.PartLemmas.{fault-of-one, file-reached}
use Rattle.guest_files.proofs.files.load_file.Goals as goal

pub returns-in-Err-Fault-clause-gives : goal.returns-in-Err-Fault-clause-gives
returns-in-Err-Fault-clause-gives g c refusal too_long =
    let is_fault = c.in-Err-Fault.is ∙ ap (λ error. Err error) c.in-Err-Fault.field-0-is in (
      (refl, c.load.ensures.fault is_fault, fault-of-one c.args.load c.args.name.now c.load.result _ _ is_fault c.load.ensures.asked),
      file-reached c.args.load c.args.most refusal c.args.name.now (g.S.Shelf.files c.args.shelf.now) too_long.1,
    )
