use Rattle.std.proofs.Common.{◌≡◌, ℕ, ◌++◌, [], ◌∷◌, inl, inr, refl, sym, subst, IsSome, arith}
use Rattle.std.specs.Option.{option_map}
use Rattle.std.proofs.lemmas.List.{append-nil}
use Rattle.std.proofs.lemmas.Result.{err_from_is_err_and}
use Rattle.io_edge.specs.Outside.{HasRisen}
use Rattle.guest_files.specs.declared.stop.TheConstants.{IMAGE_LOAD, DISK_LOAD, INPUT_LOAD, TOO_LONG, DISK_TOO_LONG, INPUT_TOO_LONG}
use Rattle.guest_files.specs.declared.stop.Stop.TheVariants.{ImageRefused, DataRefused}
use Rattle.guest_files.specs.Reads.{disk_too_long, image_too_long, input_too_long}
use Rattle.guest_files.specs.Parts.{AreAsked, IsFaultOf, Stops, guest_loads, load_if, load_of}
use Rattle.guest_files.proofs.PartLemmas.{Gave, image-read, disk-read, input-read, image-stops, disk-stops, input-stops, guest-given, rises, asked-both, fault-before, fault-after}
use Rattle.guest_files.proofs.PartLemmas.{made-to, stops-early, to-disk, to-image, to-input}
use Rattle.guest_files.proofs.files.read_guest.Goals as goal

pub returns-in_err-image-clause-gives : goal.returns-in_err-image-clause-gives
returns-in_err-image-clause-gives g c =
    let guest = c.args.guest.now in
    let files = g.S.Shelf.files c.args.shelf.now in
    let start = g.S.Shelf.asked c.args.shelf.now in
    let with_image = g.S.Shelf.asked c.load_file.new.shelf in
    let rise = HasRisen (g.S.Shelf.faults c.args.shelf.now) (g.S.Shelf.faults c.load_file.new.shelf) in
    let name = c.image.result.now in
    let P : ℕ → Type 0 = λ load. (load ≡ IMAGE_LOAD) × rise × IsFaultOf (load_of IMAGE_LOAD name ∷ []) load start with_image in
    let stop = c.in_err-image.field-0.0 in
    let p = err_from_is_err_and c.from_residual.result c.from_residual.ensures.1 in
    let later = load_if DISK_LOAD guest.disk ++ load_if INPUT_LOAD guest.input in
    rw (p.1, p.2)
    (image-stops guest files P _ stop
    (subst (λ read. Stops IMAGE_LOAD P (option_map read files) stop) (image-read guest _ c.image.ensures) (c.in_err-image.ensures.gives image_too_long (refl, omega arith)))
    (λ load was. (
      inl was.0,
      was.1,
      fault-before (load_of IMAGE_LOAD guest.image ∷ []) later load start with_image
          (subst (λ it. IsFaultOf (load_of IMAGE_LOAD it ∷ []) load start with_image) c.image.ensures was.2),
    )))

pub returns-in_err-disk-clause-gives : goal.returns-in_err-disk-clause-gives
returns-in_err-disk-clause-gives g c =
    let guest = c.args.guest.now in
    let start = g.S.Shelf.asked c.args.shelf.now in
    let with_image = g.S.Shelf.asked c.load_file.new.shelf in
    let with_disk = g.S.Shelf.asked c.load_named.new.shelf in
    let rise = HasRisen (g.S.Shelf.faults c.load_file.new.shelf) (g.S.Shelf.faults c.load_named.new.shelf) in
    let name = option_map (λ text. text.now) c.disk.result in
    let P : ℕ → Type 0 = λ load. ((load ≡ DISK_LOAD) × IsSome name) × rise × IsFaultOf (load_if DISK_LOAD name) load with_image with_disk in
    let files = g.S.Shelf.files c.args.shelf.now in
    let files_then = g.S.Shelf.files c.load_file.new.shelf in
    let stop = c.in_err-disk.field-0.0 in
    let p = err_from_is_err_and c.from_residual-in_err-disk.result c.from_residual-in_err-disk.ensures.1 in
    let is_disk = c.disk.ensures in
    let disk = load_if DISK_LOAD guest.disk in
    let input = load_if INPUT_LOAD guest.input in
    let image = c.in_ok-image.image.items in
    rw (p.1, p.2)
    (disk-stops guest files files_then image P _ stop c.in_ok-image.ensures.same
    (subst (λ read. Gave read files image) (image-read guest _ c.image.ensures) (c.in_ok-image.ensures.gives image_too_long (refl, omega arith)))
    (subst (λ read. Stops DISK_LOAD P (option_map read files_then) stop) (disk-read guest _ is_disk) (c.in_err-disk.ensures.gives disk_too_long (refl, omega arith)))
    (λ load was. (
      inr (inl (was.0.0, subst IsSome is_disk was.0.1)),
      rises _ _ _ c.in_ok-image.ensures.counts was.1,
      fault-after (load_of IMAGE_LOAD guest.image ∷ []) (disk ++ input) load start with_image with_disk
          (subst (λ it. AreAsked (load_of IMAGE_LOAD it ∷ []) start with_image) c.image.ensures c.in_ok-image.ensures.asked)
          (fault-before disk input load with_image with_disk (subst (λ it. IsFaultOf (load_if DISK_LOAD it) load with_image with_disk) is_disk was.2)),
    )))

pub returns-in_err-input-clause-gives : goal.returns-in_err-input-clause-gives
returns-in_err-input-clause-gives g c =
    let guest = c.args.guest.now in
    let start = g.S.Shelf.asked c.args.shelf.now in
    let with_image = g.S.Shelf.asked c.load_file.new.shelf in
    let with_disk = g.S.Shelf.asked c.load_named.new.shelf in
    let with_input = g.S.Shelf.asked c.load_named-2.new.shelf in
    let rise = HasRisen (g.S.Shelf.faults c.load_named.new.shelf) (g.S.Shelf.faults c.load_named-2.new.shelf) in
    let name = option_map (λ text. text.now) c.input.result in
    let P : ℕ → Type 0 = λ load. ((load ≡ INPUT_LOAD) × IsSome name) × rise × IsFaultOf (load_if INPUT_LOAD name) load with_disk with_input in
    let files = g.S.Shelf.files c.args.shelf.now in
    let files_then = g.S.Shelf.files c.load_file.new.shelf in
    let files_last = g.S.Shelf.files c.load_named.new.shelf in
    let stop = c.in_err-input.field-0.0 in
    let p = err_from_is_err_and c.from_residual-in_err-input.result c.from_residual-in_err-input.ensures.1 in
    let is_disk = c.disk.ensures in
    let is_input = c.input.ensures in
    let counts = c.in_ok-image.ensures.counts in
    let counts_again = c.in_ok-disk.ensures.counts in
    let disk = load_if DISK_LOAD guest.disk in
    let input = load_if INPUT_LOAD guest.input in
    let image_bytes = c.in_ok-image.image.items in
    let disk_bytes = c.in_ok-disk.disk.items in
    rw (p.1, p.2)
    (input-stops guest files files_then files_last image_bytes disk_bytes P _ stop c.in_ok-image.ensures.same c.in_ok-disk.ensures.same
    (subst (λ read. Gave read files image_bytes) (image-read guest _ c.image.ensures) (c.in_ok-image.ensures.gives image_too_long (refl, omega arith)))
    (subst (λ read. Gave read files_then disk_bytes) (disk-read guest _ is_disk) (c.in_ok-disk.ensures.gives disk_too_long (refl, omega arith)))
    (subst (λ read. Stops INPUT_LOAD P (option_map read files_last) stop) (input-read guest _ is_input) (c.in_err-input.ensures.gives input_too_long (refl, omega arith)))
    (λ load was. (
      inr (inr (was.0.0, subst IsSome is_input was.0.1)),
      rises _ _ _ (omega (arith, counts, counts_again)) was.1,
      fault-after (load_of IMAGE_LOAD guest.image ∷ []) (disk ++ input) load start with_image with_input
          (subst (λ it. AreAsked (load_of IMAGE_LOAD it ∷ []) start with_image) c.image.ensures c.in_ok-image.ensures.asked)
          (fault-after disk input load with_image with_disk with_input
          (subst (λ it. AreAsked (load_if DISK_LOAD it) with_image with_disk) is_disk c.in_ok-disk.ensures.asked)
          (subst (λ it. IsFaultOf (load_if INPUT_LOAD it) load with_disk with_input) is_input was.2)),
    )))

pub returns-clause-gives : goal.returns-clause-gives
returns-clause-gives g c =
    let guest = c.args.guest.now in
    let files = g.S.Shelf.files c.args.shelf.now in
    let files_then = g.S.Shelf.files c.load_file.new.shelf in
    let files_last = g.S.Shelf.files c.load_named.new.shelf in
    let image = c.in_ok-image.image.items in
    let disk = c.in_ok-disk.disk.items in
    let input = c.in_ok-input.input.items in
    guest-given guest files files_then files_last image disk input c.in_ok-image.ensures.same c.in_ok-disk.ensures.same
    (subst (λ read. Gave read files image) (image-read guest _ c.image.ensures) (c.in_ok-image.ensures.gives image_too_long (refl, omega arith)))
    (subst (λ read. Gave read files_then disk) (disk-read guest _ c.disk.ensures) (c.in_ok-disk.ensures.gives disk_too_long (refl, omega arith)))
    (subst (λ read. Gave read files_last input) (input-read guest _ c.input.ensures) (c.in_ok-input.ensures.gives input_too_long (refl, omega arith)))

pub returns-clause-asked : goal.returns-clause-asked
returns-clause-asked g c =
    let guest = c.args.guest.now in
    let start = g.S.Shelf.asked c.args.shelf.now in
    let with_image = g.S.Shelf.asked c.load_file.new.shelf in
    let with_disk = g.S.Shelf.asked c.load_named.new.shelf in
    let with_input = g.S.Shelf.asked c.load_named-2.new.shelf in
    let disk = load_if DISK_LOAD guest.disk in
    let input = load_if INPUT_LOAD guest.input in
    asked-both (load_of IMAGE_LOAD guest.image ∷ []) (disk ++ input) start with_image with_input
    (subst (λ it. AreAsked (load_of IMAGE_LOAD it ∷ []) start with_image) c.image.ensures c.in_ok-image.ensures.asked)
    (asked-both disk input with_image with_disk with_input
    (subst (λ it. AreAsked (load_if DISK_LOAD it) with_image with_disk) c.disk.ensures c.in_ok-disk.ensures.asked)
    (subst (λ it. AreAsked (load_if INPUT_LOAD it) with_disk with_input) c.input.ensures c.in_ok-input.ensures.asked))

pub returns-in_err-image-clause-asked : goal.returns-in_err-image-clause-asked
returns-in_err-image-clause-asked g c =
    let guest = c.args.guest.now in
    let start = g.S.Shelf.asked c.args.shelf.now in
    let with_image = g.S.Shelf.asked c.load_file.new.shelf in
    let p = err_from_is_err_and c.from_residual.result c.from_residual.ensures.1 in
    rw (p.1, p.2)
    (made-to (guest_loads guest) (load_of IMAGE_LOAD guest.image ∷ []) (load_if DISK_LOAD guest.disk ++ load_if INPUT_LOAD guest.input) IMAGE_LOAD
    (ImageRefused TOO_LONG) c.in_err-image.field-0.0 start with_image refl (to-image guest.image guest.disk guest.input) refl c.in_err-image.ensures.stops
    (subst (λ it. AreAsked (load_of IMAGE_LOAD it ∷ []) start with_image) c.image.ensures c.in_err-image.ensures.asked))

pub returns-in_err-image-clause-stops : goal.returns-in_err-image-clause-stops
returns-in_err-image-clause-stops g c =
    let p = err_from_is_err_and c.from_residual.result c.from_residual.ensures.1 in
    rw (p.1, p.2) (stops-early IMAGE_LOAD (ImageRefused TOO_LONG) c.in_err-image.field-0.0 refl (omega arith) c.in_err-image.ensures.stops)

pub returns-in_err-disk-clause-asked : goal.returns-in_err-disk-clause-asked
returns-in_err-disk-clause-asked g c =
    let guest = c.args.guest.now in
    let start = g.S.Shelf.asked c.args.shelf.now in
    let with_image = g.S.Shelf.asked c.load_file.new.shelf in
    let with_disk = g.S.Shelf.asked c.load_named.new.shelf in
    let p = err_from_is_err_and c.from_residual-in_err-disk.result c.from_residual-in_err-disk.ensures.1 in
    let image = load_of IMAGE_LOAD guest.image ∷ [] in
    let disk = load_if DISK_LOAD guest.disk in
    rw (p.1, p.2)
    (made-to (guest_loads guest) (image ++ disk) (load_if INPUT_LOAD guest.input) DISK_LOAD
    (DataRefused DISK_TOO_LONG) c.in_err-disk.field-0.0 start with_disk refl (to-disk guest.image guest.disk guest.input) refl c.in_err-disk.ensures.stops
    (asked-both image disk start with_image with_disk
    (subst (λ it. AreAsked (load_of IMAGE_LOAD it ∷ []) start with_image) c.image.ensures c.in_ok-image.ensures.asked)
    (subst (λ it. AreAsked (load_if DISK_LOAD it) with_image with_disk) c.disk.ensures c.in_err-disk.ensures.asked)))

pub returns-in_err-disk-clause-stops : goal.returns-in_err-disk-clause-stops
returns-in_err-disk-clause-stops g c =
    let p = err_from_is_err_and c.from_residual-in_err-disk.result c.from_residual-in_err-disk.ensures.1 in
    rw (p.1, p.2) (stops-early DISK_LOAD (DataRefused DISK_TOO_LONG) c.in_err-disk.field-0.0 refl (omega arith) c.in_err-disk.ensures.stops)

pub returns-in_err-input-clause-asked : goal.returns-in_err-input-clause-asked
returns-in_err-input-clause-asked g c =
    let guest = c.args.guest.now in
    let start = g.S.Shelf.asked c.args.shelf.now in
    let with_image = g.S.Shelf.asked c.load_file.new.shelf in
    let with_disk = g.S.Shelf.asked c.load_named.new.shelf in
    let with_input = g.S.Shelf.asked c.load_named-2.new.shelf in
    let p = err_from_is_err_and c.from_residual-in_err-input.result c.from_residual-in_err-input.ensures.1 in
    let image = load_of IMAGE_LOAD guest.image ∷ [] in
    let disk = load_if DISK_LOAD guest.disk in
    let input = load_if INPUT_LOAD guest.input in
    rw (p.1, p.2)
    (made-to (guest_loads guest) (guest_loads guest) [] INPUT_LOAD
    (DataRefused INPUT_TOO_LONG) c.in_err-input.field-0.0 start with_input (sym (append-nil (guest_loads guest))) (to-input guest) refl c.in_err-input.ensures.stops
    (asked-both image (disk ++ input) start with_image with_input
    (subst (λ it. AreAsked (load_of IMAGE_LOAD it ∷ []) start with_image) c.image.ensures c.in_ok-image.ensures.asked)
    (asked-both disk input with_image with_disk with_input
    (subst (λ it. AreAsked (load_if DISK_LOAD it) with_image with_disk) c.disk.ensures c.in_ok-disk.ensures.asked)
    (subst (λ it. AreAsked (load_if INPUT_LOAD it) with_disk with_input) c.input.ensures c.in_err-input.ensures.asked))))

pub returns-in_err-input-clause-stops : goal.returns-in_err-input-clause-stops
returns-in_err-input-clause-stops g c =
    let p = err_from_is_err_and c.from_residual-in_err-input.result c.from_residual-in_err-input.ensures.1 in
    rw (p.1, p.2) (stops-early INPUT_LOAD (DataRefused INPUT_TOO_LONG) c.in_err-input.field-0.0 refl (omega arith) c.in_err-input.ensures.stops)
