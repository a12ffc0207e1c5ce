use Rattle.std.proofs.Common.{◌≡◌, false, refl, sym, ap, ◌∙◌, subst, arith, []}
use Rattle.std.specs.BTreeMap.{get}
use Rattle.std.specs.Ordering.{nat_cmp}
use Rattle.image_depot.specs.Key.{Shelves}
use Rattle.forest_tree.specs.Tree.{Branch}
use Rattle.machine_names.specs.Name.{child_path}
use Rattle.machine_names.specs.NameOrder.{path_cmp}
use Rattle.vm_cell.specs.Keyed.{KeyedMachine}
use Rattle.world_core.specs.declared.world.World.{World}
use Rattle.world_core.specs.Answers.{IsHandedOut, stands_waiting_of}
use Rattle.world_core.specs.Images.{HaveImages}
use Rattle.world_core.specs.Kin.{IsKin}
use Rattle.world_core.specs.Lent.{Lent, vm_of}
use Rattle.world_core.specs.Spoken.{said_forest, word_of}
use Rattle.world_core.specs.Stirring.{WakesOne}
use Rattle.world_core.specs.Talking.{IsSendOf, IsUnheard, MaySay, SaysSo, peer_of}
use Rattle.world_core.specs.World.{Forest, StandsFor, rests_in}
use Rattle.world_core.proofs.AtName.{lent-by}
use Rattle.world_core.proofs.ByName.{rewritten}
use Rattle.world_core.proofs.Images.{alike, written}
use Rattle.world_core.proofs.Returns.{some-is, written-here}
use Rattle.world_core.proofs.Siblings.{root-silent, talks-here}
use Rattle.world_core.proofs.WordsSaid.{brood-in, kin-named, kin-read, may-say-in, notes-peer, on-error, quiet-stands}
use Rattle.world_core.proofs.WordsSaid.{said-images, said-in, said-so, speaks, spoke-by, unheard-stands, waking, waking-stands}
use Rattle.world_core.proofs.There.{err-there, gone-above, gone-by, root-there, there-by}
use Rattle.world_core.proofs.Unnoted.{changed-of, each-unnoted, unnoted-by}
use Rattle.world_core.proofs.world.World.say.Goals as goal

pub unreachable-requires : goal.unreachable-requires
unreachable-requires c =
    let r = c.requires.lent in
    let w : World = c.args.self.now in
    let lease = c.args.lease.now in
    let root : lease.name ≡ [] = sym (ap (λ (l : Lent). l.name) c.lease.view_is) ∙ subst (λ k. IsKin k c.lease.inside.turn.name) c.in_default.is c.lease.invariant.kin in
    root-silent r.0 w r.1.0 lease c.args.talk r.1.1.whole
    (talks-here r.0 w r.1.0 lease r.1.1 r.1.2 (lent-by c.lease.view_is c.lease.invariant.made) (root-there lease.name r.1.0.tree root)) c.requires.talks root

pub say-requires : goal.say-requires
say-requires c =
    let w : World = c.args.self.now in
    let lease = c.args.lease.now in
    let talk = c.args.talk in
    let parent = c.in-Some.parent in
    let x : Branch = record { ticket = c.in-Some-last.ticket; child = c.in-Some-last.index } in
    let lent = lent-by c.lease.view_is c.lease.invariant.made in
    let named = kin-named parent lease.name x.ticket x.child
    (kin-read c.lease.inside.kin c.lease.inside.turn.name lease.name parent c.in-Some.is (ap (λ (l : Lent). l.name) c.lease.view_is) c.lease.invariant.kin)
    (c.in-Some-last.ensures.0, sym c.name.ensures ∙ c.in-Some-last.ensures.1) in
    let r = c.requires.lent in
    let some = there-by r.0 w r.1.0 lease parent x r.1.1 named c.in-Some-get_mut.cell.now c.in-Some-get_mut.ensures.value _ c.is_awake.result c.if-not-is_awake.false c.is_awake.ensures in
    let s = speaks r.0 w r.1.0 lease talk parent x r.1.1 r.1.2 lent some c.requires.talks named in
    may-say-in r.0 w r.1.0 lease talk parent x s c.in-Some-get_mut.cell.now c.in-Some-get_mut.ensures.value

pub returns-in_err-said-clause-err : goal.returns-in_err-said-clause-err
returns-in_err-said-clause-err c =
    let w : World = c.args.self.now in
    let lease = c.args.lease.now in
    let talk = c.args.talk in
    let parent = c.in-Some.parent in
    let x : Branch = record { ticket = c.in-Some-last.ticket; child = c.in-Some-last.index } in
    let lent = lent-by c.lease.view_is c.lease.invariant.made in
    let named = kin-named parent lease.name x.ticket x.child
    (kin-read c.lease.inside.kin c.lease.inside.turn.name lease.name parent c.in-Some.is (ap (λ (l : Lent). l.name) c.lease.view_is) c.lease.invariant.kin)
    (c.in-Some-last.ensures.0, sym c.name.ensures ∙ c.in-Some-last.ensures.1) in
    let old = c.in-Some-get_mut.cell.now in
    let d = c.say.new.self in
    let cells = c.get_mut.follows.lender d in
    on-error ((depot : Shelves) (f : Forest) → StandsFor depot w f → IsHandedOut f lease
    → IsSendOf talk × (stands_waiting_of (vm_of lease) lease.name f.tree ≡ false) × StandsFor depot (record w { cells = cells }) f)
    c.from_residual.result (λ depot f stands out_as.
    let some = there-by depot w f lease parent x stands named c.in-Some-get_mut.cell.now c.in-Some-get_mut.ensures.value _ c.is_awake.result c.if-not-is_awake.false c.is_awake.ensures in
    let s = speaks depot w f lease talk parent x stands out_as lent some c.requires.talks named in
    let told = said-in depot w f lease talk parent x s cells old d IsUnheard c.in-Some-get_mut.ensures.value (c.get_mut.follows.holds d) c.in_err-said.ensures.rest
    c.in_err-said.ensures.others (λ b at. (c.in_err-said.ensures.err b at).0) in
    let sends = c.in_err-said.ensures.err s.with_kin.brood (brood-in depot w f lease talk parent x s old c.in-Some-get_mut.ensures.value) in
    (sends.1, s.waits ∙ sends.2, unheard-stands depot w (record w { cells = cells }) f lease talk parent x s told.0 told.1))

pub returns-in_err-said-clause-images : goal.returns-in_err-said-clause-images
returns-in_err-said-clause-images c images h =
    let w : World = c.args.self.now in
    let lease = c.args.lease.now in
    let talk = c.args.talk in
    let parent = c.in-Some.parent in
    let x : Branch = record { ticket = c.in-Some-last.ticket; child = c.in-Some-last.index } in
    let lent = lent-by c.lease.view_is c.lease.invariant.made in
    let named = kin-named parent lease.name x.ticket x.child
    (kin-read c.lease.inside.kin c.lease.inside.turn.name lease.name parent c.in-Some.is (ap (λ (l : Lent). l.name) c.lease.view_is) c.lease.invariant.kin)
    (c.in-Some-last.ensures.0, sym c.name.ensures ∙ c.in-Some-last.ensures.1) in
    let r = c.requires.lent in
    let some = there-by r.0 w r.1.0 lease parent x r.1.1 named c.in-Some-get_mut.cell.now c.in-Some-get_mut.ensures.value _ c.is_awake.result c.if-not-is_awake.false c.is_awake.ensures in
    let s = speaks r.0 w r.1.0 lease talk parent x r.1.1 r.1.2 lent some c.requires.talks named in
    let old = c.in-Some-get_mut.cell.now in
    let d = c.say.new.self in
    let cells = c.get_mut.follows.lender d in
    written images w.cells cells parent old d c.in-Some-get_mut.ensures.value (c.get_mut.follows.holds d)
    (said-images images parent x.ticket old d IsUnheard (MaySay x.child talk) c.in_err-said.ensures.rest c.in_err-said.ensures.others
    (λ b at. (c.in_err-said.ensures.err b at).0)
    (may-say-in r.0 w r.1.0 lease talk parent x s old c.in-Some-get_mut.ensures.value)) h

pub stir-requires : goal.stir-requires
stir-requires c =
    let w : World = c.args.self.now in
    let lease = c.args.lease.now in
    let talk = c.args.talk in
    let parent = c.in-Some.parent in
    let x : Branch = record { ticket = c.in-Some-last.ticket; child = c.in-Some-last.index } in
    let lent = lent-by c.lease.view_is c.lease.invariant.made in
    let named = kin-named parent lease.name x.ticket x.child
    (kin-read c.lease.inside.kin c.lease.inside.turn.name lease.name parent c.in-Some.is (ap (λ (l : Lent). l.name) c.lease.view_is) c.lease.invariant.kin)
    (c.in-Some-last.ensures.0, sym c.name.ensures ∙ c.in-Some-last.ensures.1) in
    let r = c.requires.lent in
    let some = there-by r.0 w r.1.0 lease parent x r.1.1 named c.in-Some-get_mut.cell.now c.in-Some-get_mut.ensures.value _ c.is_awake.result c.if-not-is_awake.false c.is_awake.ensures in
    let s = speaks r.0 w r.1.0 lease talk parent x r.1.1 r.1.2 lent some c.requires.talks named in
    omega (arith, s.may.least, c.talk_peer-peer.ensures)

pub returns-in_default-change-clause-spoke : goal.returns-in_default-change-clause-spoke
returns-in_default-change-clause-spoke c depot f stands out_as =
    let w : World = c.args.self.now in
    let lease = c.args.lease.now in
    let talk = c.args.talk in
    let parent = c.in-Some.parent in
    let x : Branch = record { ticket = c.in-Some-last.ticket; child = c.in-Some-last.index } in
    let lent = lent-by c.lease.view_is c.lease.invariant.made in
    let named = kin-named parent lease.name x.ticket x.child
    (kin-read c.lease.inside.kin c.lease.inside.turn.name lease.name parent c.in-Some.is (ap (λ (l : Lent). l.name) c.lease.view_is) c.lease.invariant.kin)
    (c.in-Some-last.ensures.0, sym c.name.ensures ∙ c.in-Some-last.ensures.1) in
    let some = there-by depot w f lease parent x stands named c.in-Some-get_mut.cell.now c.in-Some-get_mut.ensures.value _ c.is_awake.result c.if-not-is_awake.false c.is_awake.ensures in
    let s = speaks depot w f lease talk parent x stands out_as lent some c.requires.talks named in
    let old = c.in-Some-get_mut.cell.now in
    let d = c.say.new.self in
    let cells = c.get_mut.follows.lender d in
    let word : c.data.result ≡ word_of lease = c.data.ensures ∙ ap (λ (v : KeyedMachine). v.machine.state.ports.sibling.word) c.deref.ensures ∙ ap word_of c.lease.view_is in
    let so = said-so depot w f lease talk parent x s cells old d c.in_ok-said.said c.data.result word c.in-Some-get_mut.ensures.value (c.get_mut.follows.holds d)
    c.in_ok-said.ensures.rest c.in_ok-said.ensures.others c.in_ok-said.ensures.ok in
    spoke-by depot w (record w { cells = cells }) f lease talk parent x s so.0 c.in_ok-said.said talk refl so.1

pub returns-in_default-change-clause-stands : goal.returns-in_default-change-clause-stands
returns-in_default-change-clause-stands c depot f stands out_as =
    let w : World = c.args.self.now in
    let lease = c.args.lease.now in
    let talk = c.args.talk in
    let parent = c.in-Some.parent in
    let x : Branch = record { ticket = c.in-Some-last.ticket; child = c.in-Some-last.index } in
    let lent = lent-by c.lease.view_is c.lease.invariant.made in
    let named = kin-named parent lease.name x.ticket x.child
    (kin-read c.lease.inside.kin c.lease.inside.turn.name lease.name parent c.in-Some.is (ap (λ (l : Lent). l.name) c.lease.view_is) c.lease.invariant.kin)
    (c.in-Some-last.ensures.0, sym c.name.ensures ∙ c.in-Some-last.ensures.1) in
    let some = there-by depot w f lease parent x stands named c.in-Some-get_mut.cell.now c.in-Some-get_mut.ensures.value _ c.is_awake.result c.if-not-is_awake.false c.is_awake.ensures in
    let s = speaks depot w f lease talk parent x stands out_as lent some c.requires.talks named in
    let old = c.in-Some-get_mut.cell.now in
    let d = c.say.new.self in
    let cells = c.get_mut.follows.lender d in
    let word : c.data.result ≡ word_of lease = c.data.ensures ∙ ap (λ (v : KeyedMachine). v.machine.state.ports.sibling.word) c.deref.ensures ∙ ap word_of c.lease.view_is in
    let so = said-so depot w f lease talk parent x s cells old d c.in_ok-said.said c.data.result word c.in-Some-get_mut.ensures.value (c.get_mut.follows.holds d)
    c.in_ok-said.ensures.rest c.in_ok-said.ensures.others c.in_ok-said.ensures.ok in
    quiet-stands depot w (record w { cells = cells }) f lease talk parent x s so.0 c.in_ok-said.said talk refl so.1 (sym c.in_default-change.ensures)

pub returns-in_default-change-clause-notes : goal.returns-in_default-change-clause-notes
returns-in_default-change-clause-notes c =
    let w : World = c.args.self.now in
    let lease = c.args.lease.now in
    let talk = c.args.talk in
    let parent = c.in-Some.parent in
    let x : Branch = record { ticket = c.in-Some-last.ticket; child = c.in-Some-last.index } in
    let lent = lent-by c.lease.view_is c.lease.invariant.made in
    let named = kin-named parent lease.name x.ticket x.child
    (kin-read c.lease.inside.kin c.lease.inside.turn.name lease.name parent c.in-Some.is (ap (λ (l : Lent). l.name) c.lease.view_is) c.lease.invariant.kin)
    (c.in-Some-last.ensures.0, sym c.name.ensures ∙ c.in-Some-last.ensures.1) in
    let r = c.requires.lent in
    let some = there-by r.0 w r.1.0 lease parent x r.1.1 named c.in-Some-get_mut.cell.now c.in-Some-get_mut.ensures.value _ c.is_awake.result c.if-not-is_awake.false c.is_awake.ensures in
    let s = speaks r.0 w r.1.0 lease talk parent x r.1.1 r.1.2 lent some c.requires.talks named in
    let old = c.in-Some-get_mut.cell.now in
    let d = c.say.new.self in
    let cells = c.get_mut.follows.lender d in
    let word : c.data.result ≡ word_of lease = c.data.ensures ∙ ap (λ (v : KeyedMachine). v.machine.state.ports.sibling.word) c.deref.ensures ∙ ap word_of c.lease.view_is in
    let so = said-so r.0 w r.1.0 lease talk parent x s cells old d c.in_ok-said.said c.data.result word c.in-Some-get_mut.ensures.value (c.get_mut.follows.holds d)
    c.in_ok-said.ensures.rest c.in_ok-said.ensures.others c.in_ok-said.ensures.ok in
    notes-peer talk lease.name (record w { cells = cells }) parent x.ticket x.child (so.0).cell s.with_kin.brood (so.0).new c.in_ok-said.said (word_of lease) named
    (so.0).found (so.0).has so.1 (sym c.in_default-change.ensures)

pub returns-in_default-change-clause-images : goal.returns-in_default-change-clause-images
returns-in_default-change-clause-images c images h =
    let w : World = c.args.self.now in
    let lease = c.args.lease.now in
    let talk = c.args.talk in
    let parent = c.in-Some.parent in
    let x : Branch = record { ticket = c.in-Some-last.ticket; child = c.in-Some-last.index } in
    let lent = lent-by c.lease.view_is c.lease.invariant.made in
    let named = kin-named parent lease.name x.ticket x.child
    (kin-read c.lease.inside.kin c.lease.inside.turn.name lease.name parent c.in-Some.is (ap (λ (l : Lent). l.name) c.lease.view_is) c.lease.invariant.kin)
    (c.in-Some-last.ensures.0, sym c.name.ensures ∙ c.in-Some-last.ensures.1) in
    let r = c.requires.lent in
    let some = there-by r.0 w r.1.0 lease parent x r.1.1 named c.in-Some-get_mut.cell.now c.in-Some-get_mut.ensures.value _ c.is_awake.result c.if-not-is_awake.false c.is_awake.ensures in
    let s = speaks r.0 w r.1.0 lease talk parent x r.1.1 r.1.2 lent some c.requires.talks named in
    let old = c.in-Some-get_mut.cell.now in
    let d = c.say.new.self in
    let cells = c.get_mut.follows.lender d in
    written images w.cells cells parent old d c.in-Some-get_mut.ensures.value (c.get_mut.follows.holds d)
    (said-images images parent x.ticket old d (λ b e. SaysSo b x.child talk c.data.result c.in_ok-said.said e) (MaySay x.child talk) c.in_ok-said.ensures.rest
    c.in_ok-said.ensures.others c.in_ok-said.ensures.ok (may-say-in r.0 w r.1.0 lease talk parent x s old c.in-Some-get_mut.ensures.value)) h

pub returns-clause-spoke : goal.returns-clause-spoke
returns-clause-spoke c depot f stands out_as =
    let w : World = c.args.self.now in
    let lease = c.args.lease.now in
    let talk = c.args.talk in
    let parent = c.in-Some.parent in
    let x : Branch = record { ticket = c.in-Some-last.ticket; child = c.in-Some-last.index } in
    let lent = lent-by c.lease.view_is c.lease.invariant.made in
    let named = kin-named parent lease.name x.ticket x.child
    (kin-read c.lease.inside.kin c.lease.inside.turn.name lease.name parent c.in-Some.is (ap (λ (l : Lent). l.name) c.lease.view_is) c.lease.invariant.kin)
    (c.in-Some-last.ensures.0, sym c.name.ensures ∙ c.in-Some-last.ensures.1) in
    let some = there-by depot w f lease parent x stands named c.in-Some-get_mut.cell.now c.in-Some-get_mut.ensures.value _ c.is_awake.result c.if-not-is_awake.false c.is_awake.ensures in
    let s = speaks depot w f lease talk parent x stands out_as lent some c.requires.talks named in
    let old = c.in-Some-get_mut.cell.now in
    let d = c.say.new.self in
    let cells = c.get_mut.follows.lender d in
    let word : c.data.result ≡ word_of lease = c.data.ensures ∙ ap (λ (v : KeyedMachine). v.machine.state.ports.sibling.word) c.deref.ensures ∙ ap word_of c.lease.view_is in
    let so = said-so depot w f lease talk parent x s cells old d c.in_ok-said.said c.data.result word c.in-Some-get_mut.ensures.value (c.get_mut.follows.holds d)
    c.in_ok-said.ensures.rest c.in_ok-said.ensures.others c.in_ok-said.ensures.ok in
    spoke-by depot w (record w { cells = cells }) f lease talk parent x s so.0 c.in_ok-said.said talk refl so.1

pub returns-clause-stands : goal.returns-clause-stands
returns-clause-stands c depot f stands out_as =
    let w : World = c.args.self.now in
    let lease = c.args.lease.now in
    let talk = c.args.talk in
    let parent = c.in-Some.parent in
    let x : Branch = record { ticket = c.in-Some-last.ticket; child = c.in-Some-last.index } in
    let lent = lent-by c.lease.view_is c.lease.invariant.made in
    let named = kin-named parent lease.name x.ticket x.child
    (kin-read c.lease.inside.kin c.lease.inside.turn.name lease.name parent c.in-Some.is (ap (λ (l : Lent). l.name) c.lease.view_is) c.lease.invariant.kin)
    (c.in-Some-last.ensures.0, sym c.name.ensures ∙ c.in-Some-last.ensures.1) in
    let some = there-by depot w f lease parent x stands named c.in-Some-get_mut.cell.now c.in-Some-get_mut.ensures.value _ c.is_awake.result c.if-not-is_awake.false c.is_awake.ensures in
    let s = speaks depot w f lease talk parent x stands out_as lent some c.requires.talks named in
    let old = c.in-Some-get_mut.cell.now in
    let d = c.say.new.self in
    let cells = c.get_mut.follows.lender d in
    let word : c.data.result ≡ word_of lease = c.data.ensures ∙ ap (λ (v : KeyedMachine). v.machine.state.ports.sibling.word) c.deref.ensures ∙ ap word_of c.lease.view_is in
    let so = said-so depot w f lease talk parent x s cells old d c.in_ok-said.said c.data.result word c.in-Some-get_mut.ensures.value (c.get_mut.follows.holds d)
    c.in_ok-said.ensures.rest c.in_ok-said.ensures.others c.in_ok-said.ensures.ok in
    let v : World = record w { cells = cells } in
    let change = c.in-Some-change.change in
    let k = waking depot w v f lease talk parent x s so.0 c.in_ok-said.said talk change refl so.1 (sym c.in-Some-change.ensures) in
    waking-stands depot v c.stir.new.self f (said_forest lease talk c.in_ok-said.said f) k.tree change (child_path parent x.ticket (peer_of talk)) k.wakes k.is k.halted
    (c.stir.ensures.each depot (rests_in f.tree) (rests_in k.tree) k.tree k.wakes.whole k.wakes.root k.wakes.each
    (subst (λ n. WakesOne change (child_path parent x.ticket n) (rests_in f.tree) (rests_in k.tree) k.tree) (sym c.talk_peer-peer.ensures) k.wakes.wakes))
    c.stir.ensures.rest.0 c.stir.ensures.rest.1

pub returns-clause-images : goal.returns-clause-images
returns-clause-images c images h =
    let w : World = c.args.self.now in
    let lease = c.args.lease.now in
    let talk = c.args.talk in
    let parent = c.in-Some.parent in
    let x : Branch = record { ticket = c.in-Some-last.ticket; child = c.in-Some-last.index } in
    let lent = lent-by c.lease.view_is c.lease.invariant.made in
    let named = kin-named parent lease.name x.ticket x.child
    (kin-read c.lease.inside.kin c.lease.inside.turn.name lease.name parent c.in-Some.is (ap (λ (l : Lent). l.name) c.lease.view_is) c.lease.invariant.kin)
    (c.in-Some-last.ensures.0, sym c.name.ensures ∙ c.in-Some-last.ensures.1) in
    let r = c.requires.lent in
    let some = there-by r.0 w r.1.0 lease parent x r.1.1 named c.in-Some-get_mut.cell.now c.in-Some-get_mut.ensures.value _ c.is_awake.result c.if-not-is_awake.false c.is_awake.ensures in
    let s = speaks r.0 w r.1.0 lease talk parent x r.1.1 r.1.2 lent some c.requires.talks named in
    let old = c.in-Some-get_mut.cell.now in
    let d = c.say.new.self in
    let cells = c.get_mut.follows.lender d in
    c.stir.ensures.images images (written images w.cells cells parent old d c.in-Some-get_mut.ensures.value (c.get_mut.follows.holds d)
    (said-images images parent x.ticket old d (λ b e. SaysSo b x.child talk c.data.result c.in_ok-said.said e) (MaySay x.child talk) c.in_ok-said.ensures.rest
    c.in_ok-said.ensures.others c.in_ok-said.ensures.ok (may-say-in r.0 w r.1.0 lease talk parent x s old c.in-Some-get_mut.ensures.value)) h)

pub returns-then-not-is_noted-clause-spoke : goal.returns-then-not-is_noted-clause-spoke
returns-then-not-is_noted-clause-spoke c depot f stands out_as =
    let w : World = c.args.self.now in
    let lease = c.args.lease.now in
    let talk = c.args.talk in
    let parent = c.in-Some.parent in
    let x : Branch = record { ticket = c.in-Some-last.ticket; child = c.in-Some-last.index } in
    let lent = lent-by c.lease.view_is c.lease.invariant.made in
    let named = kin-named parent lease.name x.ticket x.child
    (kin-read c.lease.inside.kin c.lease.inside.turn.name lease.name parent c.in-Some.is (ap (λ (l : Lent). l.name) c.lease.view_is) c.lease.invariant.kin)
    (c.in-Some-last.ensures.0, sym c.name.ensures ∙ c.in-Some-last.ensures.1) in
    let some = there-by depot w f lease parent x stands named c.in-Some-get_mut.cell.now c.in-Some-get_mut.ensures.value _ c.is_awake.result c.if-not-is_awake.false c.is_awake.ensures in
    let s = speaks depot w f lease talk parent x stands out_as lent some c.requires.talks named in
    let old = c.in-Some-get_mut.cell.now in
    let d = c.say.new.self in
    let cells = c.get_mut.follows.lender d in
    let word : c.data.result ≡ word_of lease = c.data.ensures ∙ ap (λ (v : KeyedMachine). v.machine.state.ports.sibling.word) c.deref.ensures ∙ ap word_of c.lease.view_is in
    let so = said-so depot w f lease talk parent x s cells old d c.in_ok-said.said c.data.result word c.in-Some-get_mut.ensures.value (c.get_mut.follows.holds d)
    c.in_ok-said.ensures.rest c.in_ok-said.ensures.others c.in_ok-said.ensures.ok in
    spoke-by depot w (record w { cells = cells }) f lease talk parent x s so.0 c.in_ok-said.said talk refl so.1

pub returns-then-not-is_noted-clause-stands : goal.returns-then-not-is_noted-clause-stands
returns-then-not-is_noted-clause-stands c depot f stands out_as =
    let w : World = c.args.self.now in
    let lease = c.args.lease.now in
    let talk = c.args.talk in
    let parent = c.in-Some.parent in
    let x : Branch = record { ticket = c.in-Some-last.ticket; child = c.in-Some-last.index } in
    let lent = lent-by c.lease.view_is c.lease.invariant.made in
    let named = kin-named parent lease.name x.ticket x.child
    (kin-read c.lease.inside.kin c.lease.inside.turn.name lease.name parent c.in-Some.is (ap (λ (l : Lent). l.name) c.lease.view_is) c.lease.invariant.kin)
    (c.in-Some-last.ensures.0, sym c.name.ensures ∙ c.in-Some-last.ensures.1) in
    let some = there-by depot w f lease parent x stands named c.in-Some-get_mut.cell.now c.in-Some-get_mut.ensures.value _ c.is_awake.result c.if-not-is_awake.false c.is_awake.ensures in
    let s = speaks depot w f lease talk parent x stands out_as lent some c.requires.talks named in
    let old = c.in-Some-get_mut.cell.now in
    let d = c.say.new.self in
    let cells = c.get_mut.follows.lender d in
    let word : c.data.result ≡ word_of lease = c.data.ensures ∙ ap (λ (v : KeyedMachine). v.machine.state.ports.sibling.word) c.deref.ensures ∙ ap word_of c.lease.view_is in
    let so = said-so depot w f lease talk parent x s cells old d c.in_ok-said.said c.data.result word c.in-Some-get_mut.ensures.value (c.get_mut.follows.holds d)
    c.in_ok-said.ensures.rest c.in_ok-said.ensures.others c.in_ok-said.ensures.ok in
    let v : World = record w { cells = cells } in
    let change = c.in-Some-change.change in
    let k = waking depot w v f lease talk parent x s so.0 c.in_ok-said.said talk change refl so.1 (sym c.in-Some-change.ensures) in
    let found = written-here w.cells cells parent d (c.get_mut.follows.holds d) (some-is old (get path_cmp w.cells parent) c.in-Some-get_mut.ensures.value) in
    waking-stands depot v v f (said_forest lease talk c.in_ok-said.said f) k.tree change (child_path parent x.ticket (peer_of talk)) k.wakes k.is k.halted
    (each-unnoted depot v k.tree (rests_in f.tree) (rests_in k.tree) change parent x.ticket (peer_of talk) x.child k.wakes.whole k.wakes.root k.wakes.each k.wakes.wakes
    (changed-of c.in_ok-said.said x.child change (sym c.in-Some-change.ensures)) d found
    (unnoted-by (get nat_cmp d.broods x.ticket) c.is_noted.result c.talk_peer-peer.result (peer_of talk) x.child c.if-not-is_noted.true c.talk_peer-peer.ensures
    c.is_noted.ensures)) refl refl

pub returns-then-not-is_noted-clause-images : goal.returns-then-not-is_noted-clause-images
returns-then-not-is_noted-clause-images c images h =
    let w : World = c.args.self.now in
    let lease = c.args.lease.now in
    let talk = c.args.talk in
    let parent = c.in-Some.parent in
    let x : Branch = record { ticket = c.in-Some-last.ticket; child = c.in-Some-last.index } in
    let lent = lent-by c.lease.view_is c.lease.invariant.made in
    let named = kin-named parent lease.name x.ticket x.child
    (kin-read c.lease.inside.kin c.lease.inside.turn.name lease.name parent c.in-Some.is (ap (λ (l : Lent). l.name) c.lease.view_is) c.lease.invariant.kin)
    (c.in-Some-last.ensures.0, sym c.name.ensures ∙ c.in-Some-last.ensures.1) in
    let r = c.requires.lent in
    let some = there-by r.0 w r.1.0 lease parent x r.1.1 named c.in-Some-get_mut.cell.now c.in-Some-get_mut.ensures.value _ c.is_awake.result c.if-not-is_awake.false c.is_awake.ensures in
    let s = speaks r.0 w r.1.0 lease talk parent x r.1.1 r.1.2 lent some c.requires.talks named in
    let old = c.in-Some-get_mut.cell.now in
    let d = c.say.new.self in
    let cells = c.get_mut.follows.lender d in
    written images w.cells cells parent old d c.in-Some-get_mut.ensures.value (c.get_mut.follows.holds d)
    (said-images images parent x.ticket old d (λ b e. SaysSo b x.child talk c.data.result c.in_ok-said.said e) (MaySay x.child talk) c.in_ok-said.ensures.rest
    c.in_ok-said.ensures.others c.in_ok-said.ensures.ok (may-say-in r.0 w r.1.0 lease talk parent x s old c.in-Some-get_mut.ensures.value)) h

pub returns-in_default-get_mut-clause-there : goal.returns-in_default-get_mut-clause-there
returns-in_default-get_mut-clause-there c depot f stands out_as =
    let w : World = c.args.self.now in
    let lease = c.args.lease.now in
    let parent = c.in-Some.parent in
    let x : Branch = record { ticket = c.in-Some-last.ticket; child = c.in-Some-last.index } in
    let named = kin-named parent lease.name x.ticket x.child
    (kin-read c.lease.inside.kin c.lease.inside.turn.name lease.name parent c.in-Some.is (ap (λ (l : Lent). l.name) c.lease.view_is) c.lease.invariant.kin)
    (c.in-Some-last.ensures.0, sym c.name.ensures ∙ c.in-Some-last.ensures.1) in
    gone-above depot w f lease parent x stands named out_as c.in_default-get_mut.ensures.value

pub returns-in_default-get_mut-clause-gone : goal.returns-in_default-get_mut-clause-gone
returns-in_default-get_mut-clause-gone c =
    record { cells = λ n. ap (λ cells. get path_cmp cells n) c.get_mut.follows.holds-at-none; ready = refl; halted = refl; outcome = refl }

pub returns-in_default-get_mut-clause-images : goal.returns-in_default-get_mut-clause-images
returns-in_default-get_mut-clause-images c images h =
    subst (HaveImages images) (sym c.get_mut.follows.holds-at-none) h

pub returns-then-not-is_awake-clause-there : goal.returns-then-not-is_awake-clause-there
returns-then-not-is_awake-clause-there c depot f stands out_as =
    let w : World = c.args.self.now in
    let lease = c.args.lease.now in
    let parent = c.in-Some.parent in
    let x : Branch = record { ticket = c.in-Some-last.ticket; child = c.in-Some-last.index } in
    let named = kin-named parent lease.name x.ticket x.child
    (kin-read c.lease.inside.kin c.lease.inside.turn.name lease.name parent c.in-Some.is (ap (λ (l : Lent). l.name) c.lease.view_is) c.lease.invariant.kin)
    (c.in-Some-last.ensures.0, sym c.name.ensures ∙ c.in-Some-last.ensures.1) in
    gone-by depot w f lease parent x stands named out_as c.in-Some-get_mut.cell.now c.in-Some-get_mut.ensures.value _ c.is_awake.result c.if-not-is_awake.true c.is_awake.ensures

pub returns-then-not-is_awake-clause-gone : goal.returns-then-not-is_awake-clause-gone
returns-then-not-is_awake-clause-gone c =
    let cell = c.in-Some-get_mut.cell.now in
    record {
      cells = rewritten c.args.self.now.cells (c.get_mut.follows.lender cell) c.in-Some.parent cell c.in-Some-get_mut.ensures.value (c.get_mut.follows.holds cell);
      ready = refl;
      halted = refl;
      outcome = refl;
    }

pub returns-then-not-is_awake-clause-images : goal.returns-then-not-is_awake-clause-images
returns-then-not-is_awake-clause-images c images h =
    let cell = c.in-Some-get_mut.cell.now in
    alike images c.args.self.now.cells (c.get_mut.follows.lender cell)
    (rewritten c.args.self.now.cells (c.get_mut.follows.lender cell) c.in-Some.parent cell c.in-Some-get_mut.ensures.value (c.get_mut.follows.holds cell)) h

pub returns-in_err-said-clause-there : goal.returns-in_err-said-clause-there
returns-in_err-said-clause-there c depot f stands out_as =
    let w : World = c.args.self.now in
    let lease = c.args.lease.now in
    let parent = c.in-Some.parent in
    let x : Branch = record { ticket = c.in-Some-last.ticket; child = c.in-Some-last.index } in
    let named = kin-named parent lease.name x.ticket x.child
    (kin-read c.lease.inside.kin c.lease.inside.turn.name lease.name parent c.in-Some.is (ap (λ (l : Lent). l.name) c.lease.view_is) c.lease.invariant.kin)
    (c.in-Some-last.ensures.0, sym c.name.ensures ∙ c.in-Some-last.ensures.1) in
    let some = there-by depot w f lease parent x stands named c.in-Some-get_mut.cell.now c.in-Some-get_mut.ensures.value _ c.is_awake.result c.if-not-is_awake.false c.is_awake.ensures in
    err-there f lease c.from_residual.result c.from_residual.ensures.0 some

pub returns-in_default-change-clause-there : goal.returns-in_default-change-clause-there
returns-in_default-change-clause-there c depot f stands out_as =
    let w : World = c.args.self.now in
    let lease = c.args.lease.now in
    let parent = c.in-Some.parent in
    let x : Branch = record { ticket = c.in-Some-last.ticket; child = c.in-Some-last.index } in
    let named = kin-named parent lease.name x.ticket x.child
    (kin-read c.lease.inside.kin c.lease.inside.turn.name lease.name parent c.in-Some.is (ap (λ (l : Lent). l.name) c.lease.view_is) c.lease.invariant.kin)
    (c.in-Some-last.ensures.0, sym c.name.ensures ∙ c.in-Some-last.ensures.1) in
    there-by depot w f lease parent x stands named c.in-Some-get_mut.cell.now c.in-Some-get_mut.ensures.value _ c.is_awake.result c.if-not-is_awake.false c.is_awake.ensures

pub returns-then-not-is_noted-clause-there : goal.returns-then-not-is_noted-clause-there
returns-then-not-is_noted-clause-there c depot f stands out_as =
    let w : World = c.args.self.now in
    let lease = c.args.lease.now in
    let parent = c.in-Some.parent in
    let x : Branch = record { ticket = c.in-Some-last.ticket; child = c.in-Some-last.index } in
    let named = kin-named parent lease.name x.ticket x.child
    (kin-read c.lease.inside.kin c.lease.inside.turn.name lease.name parent c.in-Some.is (ap (λ (l : Lent). l.name) c.lease.view_is) c.lease.invariant.kin)
    (c.in-Some-last.ensures.0, sym c.name.ensures ∙ c.in-Some-last.ensures.1) in
    there-by depot w f lease parent x stands named c.in-Some-get_mut.cell.now c.in-Some-get_mut.ensures.value _ c.is_awake.result c.if-not-is_awake.false c.is_awake.ensures

pub returns-clause-there : goal.returns-clause-there
returns-clause-there c depot f stands out_as =
    let w : World = c.args.self.now in
    let lease = c.args.lease.now in
    let parent = c.in-Some.parent in
    let x : Branch = record { ticket = c.in-Some-last.ticket; child = c.in-Some-last.index } in
    let named = kin-named parent lease.name x.ticket x.child
    (kin-read c.lease.inside.kin c.lease.inside.turn.name lease.name parent c.in-Some.is (ap (λ (l : Lent). l.name) c.lease.view_is) c.lease.invariant.kin)
    (c.in-Some-last.ensures.0, sym c.name.ensures ∙ c.in-Some-last.ensures.1) in
    there-by depot w f lease parent x stands named c.in-Some-get_mut.cell.now c.in-Some-get_mut.ensures.value _ c.is_awake.result c.if-not-is_awake.false c.is_awake.ensures
