use Rattle.std.proofs.Common.{refl, sym, ap, ◌∙◌, subst, IsSome}
use Rattle.std.specs.Prelude.{Ok}
use Rattle.std.specs.Option.{IfNone}
use Rattle.std.specs.BTreeMap.{get}
use Rattle.machine_names.specs.NameOrder.{path_cmp}
use Rattle.vm_cell.specs.Standing.{standing_talk}
use Rattle.world_core.specs.declared.world.World.{World}
use Rattle.world_core.specs.Answers.{IsLentOf, said_by}
use Rattle.world_core.specs.Between.{IsSameWorld}
use Rattle.world_core.specs.Kin.{IsKin}
use Rattle.world_core.specs.Lent.{Lent, now_of, vm_of}
use Rattle.world_core.specs.Spoken.{IsThereBy}
use Rattle.world_core.proofs.AtName.{lent-by}
use Rattle.world_core.proofs.Giving.{same-goes}
use Rattle.world_core.proofs.Images.{lent-key}
use Rattle.world_core.proofs.Made.{kept-talk, may-wait-so, may-want-so, parked-images, placed-as, talk-made, talk-parked, talked-as, waits-here}
use Rattle.world_core.proofs.Siblings.{talks-here}
use Rattle.world_core.proofs.There.{not-there, notes-some, told-some}
use Rattle.world_core.proofs.WordsSaid.{not-ok-err, park-there}
use Rattle.world_core.proofs.world.World.make_talk.Goals as goal

pub returns-in_default-clause-answers : goal.returns-in_default-clause-answers
returns-in_default-clause-answers c depot f stands out_as of_depot =
    let lease = c.args.lease in
    let talk = c.args.talk in
    let lent = lent-by c.lease.view_is c.lease.invariant.made in
    let some = not-there f lease c.say.result c.in_default.not-Ok (c.say.ensures.there depot f stands out_as) in
    let kept = not-ok-err _ c.say.result c.in_default.not-Ok c.say.ensures.err depot f stands out_as in (
      may-want-so talk kept.0,
      refl,
      kept-talk depot c.args.self.now c.say.new.self f lease talk stands.whole (talks-here depot c.args.self.now f lease stands out_as lent some) c.requires.talks kept.0 kept.1 kept.2,
    )

pub returns-in_default-said-clause-answers : goal.returns-in_default-said-clause-answers
returns-in_default-said-clause-answers c depot f stands out_as of_depot =
    let lease = c.args.lease in
    same-goes depot c.args.self.now c.say.new.self f lease.name
    (subst (λ told. IfNone told (IsSameWorld c.args.self.now c.say.new.self)) c.in_default-said.is c.in-Ok.ensures.gone) stands
    (subst (λ told. IsThereBy f lease (Ok told)) c.in_default-said.is (c.in-Ok.ensures.there depot f stands out_as))

pub park-requires : goal.park-requires
park-requires c =
    let r = c.requires.lent in
    let lease = c.args.lease in
    let talk = c.args.talk in
    let named = ap (λ (l : Lent). l.name) c.lease.view_is in
    let known = told-some r.0 c.say.new.self r.1.0 lease talk c.in-Ok.said c.in-Some.said c.in-Some.is_heard c.in-Some.is (c.in-Ok.ensures.there r.0 r.1.0 r.1.1 r.1.2)
    (c.in-Ok.ensures.spoke r.0 r.1.0 r.1.1 r.1.2) (c.in-Ok.ensures.stands r.0 r.1.0 r.1.1 r.1.2) in
    let notes = notes-some c.say.new.self lease talk c.in-Ok.said c.in-Some.said c.in-Some.is_heard c.in-Some.is c.in-Ok.ensures.notes in
    let v : World = c.say.new.self in
    let is = waits-here r.0 v r.1.0 lease talk c.in-Some.said (sym c.in_default-answer.ensures) known.1 known.2 notes in
    subst (λ n. IsSome (get path_cmp v.cells n)) (sym named) (park-there r.0 v r.1.0 lease is.1 r.1.2 known.0)

pub returns-in_default-answer-clause-answers : goal.returns-in_default-answer-clause-answers
returns-in_default-answer-clause-answers c depot f stands out_as of_depot =
    let lease = c.args.lease in
    let talk = c.args.talk in
    let lent = lent-by c.lease.view_is c.lease.invariant.made in
    let named = ap (λ (l : Lent). l.name) c.lease.view_is in
    let known = told-some depot c.say.new.self f lease talk c.in-Ok.said c.in-Some.said c.in-Some.is_heard c.in-Some.is (c.in-Ok.ensures.there depot f stands out_as)
    (c.in-Ok.ensures.spoke depot f stands out_as) (c.in-Ok.ensures.stands depot f stands out_as) in
    let notes = notes-some c.say.new.self lease talk c.in-Ok.said c.in-Some.said c.in-Some.is_heard c.in-Some.is c.in-Ok.ensures.notes in
    let w : World = c.say.new.self in
    let is = waits-here depot w f lease talk c.in-Some.said (sym c.in_default-answer.ensures) known.1 known.2 notes in (
      may-wait-so talk,
      talk-parked depot w c.park.new.self f lease talk c.lease.inside.turn c.lease.inside.kin c.lease.inside.vm.value is.1 out_as lent known.0 c.requires.talks is.0 is.2
          c.park.ensures named c.lease.invariant.own (subst (IsKin c.lease.inside.kin) named c.lease.invariant.kin) (ap now_of c.lease.view_is)
          (subst (IsLentOf depot) (sym c.lease.view_is) of_depot),
    )

pub talked-requires : goal.talked-requires
talked-requires c =
    subst (λ v. IsSome (standing_talk v)) (sym (c.deref_mut.ensures.value ∙ ap vm_of c.lease.view_is)) (subst IsSome (sym c.requires.talks) refl)

pub returns-clause-answers : goal.returns-clause-answers
returns-clause-answers c depot f stands out_as of_depot =
    let lease = c.args.lease in
    let talk = c.args.talk in
    let lent = lent-by c.lease.view_is c.lease.invariant.made in
    let named = ap (λ (l : Lent). l.name) c.lease.view_is in
    let known = told-some depot c.say.new.self f lease talk c.in-Ok.said c.in-Some.said c.in-Some.is_heard c.in-Some.is (c.in-Ok.ensures.there depot f stands out_as)
    (c.in-Ok.ensures.spoke depot f stands out_as) (c.in-Ok.ensures.stands depot f stands out_as) in
    let v : World = c.say.new.self in
    let k = talk-made depot c.args.self.now v f lease talk c.lease.inside.kin stands out_as lent known.0 (subst (IsKin c.lease.inside.kin) named c.lease.invariant.kin)
    c.requires.talks c.in-Some.said c.in-Some-answer.word c.in-Some-answer.answer (sym c.in-Some-answer.ensures) known.1 known.2 in
    let made = talked-as lease c.in-Some-answer.word c.in-Some-answer.answer c.talked.ensures (c.deref_mut.ensures.value ∙ ap vm_of c.lease.view_is) in
    placed-as depot v f lease c.lease.inside.turn.name (said_by talk) c.talked.new.self (sym named) k made.0

pub returns-clause-own : goal.returns-clause-own
returns-clause-own c =
    let lease = c.args.lease in
    let made = talked-as lease c.in-Some-answer.word c.in-Some-answer.answer c.talked.ensures (c.deref_mut.ensures.value ∙ ap vm_of c.lease.view_is) in
    (ap (λ (l : Lent). l.name) c.lease.view_is, c.lease.invariant.own, c.lease.invariant.kin, made.1)

pub returns-in_default-answer-clause-images : goal.returns-in_default-answer-clause-images
returns-in_default-answer-clause-images c images h at =
    let lease = c.args.lease in
    let talk = c.args.talk in
    let lent = lent-by c.lease.view_is c.lease.invariant.made in
    let named = ap (λ (l : Lent). l.name) c.lease.view_is in
    parked-images images c.say.new.self c.park.new.self c.lease.inside.turn c.lease.inside.kin c.lease.inside.vm.value _ c.park.ensures
    (lent-key images lease c.lease.inside.turn.name c.lease.inside.vm.value named (ap (λ (l : Lent). l.key) c.lease.view_is) at)
    (c.in-Ok.ensures.images images h)

pub returns-clause-images : goal.returns-clause-images
returns-clause-images c images h at = c.in-Ok.ensures.images images h
